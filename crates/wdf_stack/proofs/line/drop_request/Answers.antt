-- The closure keeps the other requests.
use Rattle.std.proofs.Common.{rules, ◌≡◌, ap, filter, length, arith}
use Rattle.std.proofs.lemmas.Fn.{filter_same}
use Rattle.std.proofs.lemmas.List.Sums.{count_by-le-length, length-filter}
use Rattle.wdf_stack.specs.Line.{stays}
use Rattle.wdf_stack.proofs.line.drop_request.Goals as goal

pub returns-clause-items : goal.returns-clause-items
returns-clause-items c = filter_same _ _ _ (λ x b f' k. search rules) _ _ c.retain.ensures.filtered

pub returns-clause-gone : goal.returns-clause-gone
returns-clause-gone c =
    let now : c.retain.new.self.items ≡ filter (stays c.args.r.0) c.args.sent.now.items = filter_same _ _ _ (λ x b f' k. search rules) _ _ c.retain.ensures.filtered in
    let long = ap length now in
    let few = length-filter (stays c.args.r.0) c.args.sent.now.items in
    let most = count_by-le-length (stays c.args.r.0) c.args.sent.now.items in
    let before = ap length c.as_slice-count.ensures.value in
    let after = ap length c.as_slice.ensures.value in
    omega (arith, long, few, most, before, after)
