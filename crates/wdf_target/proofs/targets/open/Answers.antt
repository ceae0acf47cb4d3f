use Rattle.std.proofs.Common.{◌≡◌, ◌+◌, length, ap, ◌∙◌, arith, vec_len}
use Rattle.wdf_model.specs.parts.Targets.{opening_target}
use Rattle.wdf_target.proofs.Openings.{opened_none, opened_more, opened_all}
use Rattle.wdf_target.proofs.targets.open.Goals as goal

pub loop-id-init : goal.loop-id-init
loop-id-init c = (c.in_ok-all.ensures.items ∙ opened_none c.args.plan.now, c.in_ok-all.ensures.len, c.in_ok-all.ensures.exact)

pub push_reserved-requires : goal.push_reserved-requires
push_reserved-requires c = omega (arith, c.loop-id.invariant.1, c.loop-id.invariant.2)

pub loop-id-preserved : goal.loop-id-preserved
loop-id-preserved c =
    let grown : vec_len c.push_reserved.new.self ≡ c.loop-id.id + 1 = omega (arith, c.loop-id.invariant.1, c.push_reserved.ensures.len) in (
      opened_more c.args.plan.now c.loop-id.id c.loop-id.all.items c.push_reserved.new.self.items c.in-Ok.target c.loop-id.invariant.0 (c.in-Ok.ensures ∙ ap opening_target c.target_of.ensures) c.push_reserved.ensures.items,
      grown,
      c.push_reserved.ensures.capacity ∙ c.loop-id.invariant.2,
    )

pub returns : goal.returns
returns c =
    let whole : c.loop-id.id ≡ length c.args.plan.now.declared + 1 = omega (arith, c.declared_len.ensures, c.loop-id.auto.id-end) in
    c.loop-id.invariant.0 ∙ opened_all c.args.plan.now c.loop-id.id whole
