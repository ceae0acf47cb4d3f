-- The frame is gone first, then the step gives its result, as the state before says.
use Rattle.std.proofs.Common.{◌∷◌, ◌++◌, [], List, ap, sym, subst, ◌∙◌, append_assoc}
use Rattle.wdf_base.specs.declared.rank.Rank.TheVariants as rank
use Rattle.wdf_model.specs.declared.deed.Deed.{Deed}
use Rattle.wdf_model.specs.declared.deed.Deed.TheVariants.{PopFrame}
use Rattle.wdf_model.specs.rules.Deeds.{do_deeds}
use Rattle.wdf_model.specs.rules.Room.{AreDoable}
use Rattle.wdf_model.specs.rules.Starts.{end_of_step, release_if_any}
use Rattle.wdf_parts.proofs.InTurn.{doable_first}
use Rattle.wdf_starts.proofs.Turns.{both_done, second_doable}
use Rattle.wdf_starts.proofs.deeds.end_step.Goals as goal

pub leave-requires : goal.leave-requires
leave-requires g c =
    let plan = c.args.plan.now in
    let S = c.args.parts.now in
    let left : List Deed = release_if_any c.args.lock ++ PopFrame c.args.cpu ∷ [] in
    let ends : List Deed = end_of_step plan S rank.Sequence c.args.callback c.args.o.0 c.args.value in
    let all = append_assoc (release_if_any c.args.lock) (PopFrame c.args.cpu ∷ []) ends in
    doable_first plan left ends S (subst (λ ds. AreDoable plan ds S) (sym all) c.requires)

pub do_deed-requires : goal.do_deed-requires
do_deed-requires g c =
    let plan = c.args.plan.now in
    let S = c.args.parts.now in
    let left : List Deed = release_if_any c.args.lock ++ PopFrame c.args.cpu ∷ [] in
    let ends : List Deed = end_of_step plan S rank.Sequence c.args.callback c.args.o.0 c.args.value in
    let all = append_assoc (release_if_any c.args.lock) (PopFrame c.args.cpu ∷ []) ends in
    let ended : AreDoable plan (c.end_of_step-ended.result ∷ []) c.leave.new.parts = second_doable plan left ends (c.end_of_step-ended.result ∷ []) S c.leave.new.parts c.leave.ensures c.end_of_step-ended.ensures (subst (λ ds. AreDoable plan ds S) (sym all) c.requires) in
    ended.0

pub returns : goal.returns
returns g c =
    let plan = c.args.plan.now in
    let S = c.args.parts.now in
    let left : List Deed = release_if_any c.args.lock ++ PopFrame c.args.cpu ∷ [] in
    let ends : List Deed = end_of_step plan S rank.Sequence c.args.callback c.args.o.0 c.args.value in
    let all = append_assoc (release_if_any c.args.lock) (PopFrame c.args.cpu ∷ []) ends in
    both_done plan left ends (c.end_of_step-ended.result ∷ []) S c.leave.new.parts c.do_deed.new.self c.leave.ensures c.end_of_step-ended.ensures c.do_deed.ensures
    ∙ ap (λ ds. do_deeds plan ds S) all
