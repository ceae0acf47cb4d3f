-- The request of the k-th of those that are kept by themselves.
use Rattle.std.proofs.Common.{◌≡◌, ◌≤◌, length, map, option_map, slice_get, sym, ap, ◌∙◌, arith}
use Rattle.std.proofs.lemmas.List.{length-map}
use Rattle.std.proofs.lemmas.Option.{slice_get-map, slice_get_past}
use Rattle.wdf_model.specs.declared.room.TheConstants.{OBJECTS}
use Rattle.wdf_target.specs.Finished.{done_in}
use Rattle.wdf_target.specs.Target.{request_id, target_in}
use Rattle.wdf_target.proofs.Nexts.{all_done}
use Rattle.wdf_target.proofs.target.Target.nth_done.Goals as goal

pub returns-then-k-len : goal.returns-then-k-len
returns-then-k-len c =
    let all : map request_id c.self.inside.done.entries ≡ done_in c.args.self.now =
    ap (map request_id) c.self.invariant.done ∙ all_done (target_in c.self.inside) OBJECTS c.self.invariant.objects ∙ ap done_in c.self.view_is in
    ap (option_map request_id) (sym c.at.ensures) ∙ sym (slice_get-map request_id c.self.inside.done.entries c.args.k) ∙ ap (λ xs. slice_get xs c.args.k) all

pub returns-else-k-len : goal.returns-else-k-len
returns-else-k-len c =
    let all : map request_id c.self.inside.done.entries ≡ done_in c.args.self.now =
    ap (map request_id) c.self.invariant.done ∙ all_done (target_in c.self.inside) OBJECTS c.self.invariant.objects ∙ ap done_in c.self.view_is in
    let many = length-map c.self.inside.done.entries request_id in
    let past : length (map request_id c.self.inside.done.entries) ≤ c.args.k = omega (arith, c.if-k-len.false, c.len.ensures.length) in
    sym (slice_get_past (map request_id c.self.inside.done.entries) c.args.k past) ∙ ap (λ xs. slice_get xs c.args.k) all
