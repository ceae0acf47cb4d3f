-- The frame, its level and its lock are those of the state before; what the rank does of its own comes first.
use Rattle.std.proofs.Common.{◌≡◌, ◌+◌, ◌∷◌, ℕ, List, Option, ap, ◌∙◌}
use Rattle.wdf_base.specs.declared.frame.Frame.{Frame}
use Rattle.wdf_base.specs.declared.ids.Irql.{Irql}
use Rattle.wdf_base.specs.declared.object.LockRef.{LockRef}
use Rattle.wdf_model.specs.Ids.{frame_id, irql_of}
use Rattle.wdf_model.specs.declared.deed.Deed.{Deed}
use Rattle.wdf_model.specs.declared.deed.Deed.TheVariants.{PushFrame}
use Rattle.wdf_model.specs.Plans.{callback_irql}
use Rattle.wdf_model.specs.State.{declared_in}
use Rattle.wdf_model.specs.parts.Locks.{lock_of_callback}
use Rattle.wdf_model.specs.rules.Starts.{new_frame, next_number, start_effect, take_if_any}
use Rattle.wdf_parts.proofs.InTurn.{doable_first}
use Rattle.wdf_starts.proofs.Turns.{both_done, second_doable}
use Rattle.wdf_starts.proofs.deeds.start_callback.Goals as goal

pub do_effect-requires : goal.do_effect-requires
do_effect-requires g c =
    let plan = c.args.plan.now in
    let S = c.args.parts.now in
    let o = c.args.object in
    let effect : List Deed = start_effect plan S c.args.cpu.0 c.args.callback o.id.0 c.args.request in
    let begins : Deed = PushFrame c.args.cpu (frame_id (next_number S)) (new_frame plan S c.args.callback o c.args.request) (irql_of (callback_irql plan c.args.callback o.id.0)) in
    let takes : List Deed = take_if_any (next_number S) (lock_of_callback plan c.args.callback o.id.0 (declared_in plan S o.id.0)) in
    doable_first plan effect (begins ∷ takes) S c.requires.doable

pub begin-requires : goal.begin-requires
begin-requires g c =
    let plan = c.args.plan.now in
    let S = c.args.parts.now in
    let o = c.args.object in
    let begun : ℕ → Frame → Irql → Option LockRef → List Deed = λ n frame level lock. PushFrame c.args.cpu (frame_id n) frame level ∷ take_if_any n lock in
    let level : c.callback_irql-level.result ≡ irql_of (callback_irql plan c.args.callback o.id.0) = ap irql_of c.callback_irql-level.ensures in
    let number : c.number.result + 1 ≡ next_number S = ap (λ n. n + 1) c.number.ensures in
    let same = ap (λ n. begun n c.new_frame-frame.result c.callback_irql-level.result c.lock_for-lock.result) number
    ∙ ap (λ frame. begun (next_number S) frame c.callback_irql-level.result c.lock_for-lock.result) c.new_frame-frame.ensures
    ∙ ap (λ l. begun (next_number S) (new_frame plan S c.args.callback o c.args.request) l c.lock_for-lock.result) level
    ∙ ap (λ l. begun (next_number S) (new_frame plan S c.args.callback o c.args.request) (irql_of (callback_irql plan c.args.callback o.id.0)) l) c.lock_for-lock.ensures in
    second_doable plan (start_effect plan S c.args.cpu.0 c.args.callback o.id.0 c.args.request) _ _ S c.do_effect.new.parts c.do_effect.ensures same c.requires.doable

pub returns : goal.returns
returns g c =
    let plan = c.args.plan.now in
    let S = c.args.parts.now in
    let o = c.args.object in
    let begun : ℕ → Frame → Irql → Option LockRef → List Deed = λ n frame level lock. PushFrame c.args.cpu (frame_id n) frame level ∷ take_if_any n lock in
    let level : c.callback_irql-level.result ≡ irql_of (callback_irql plan c.args.callback o.id.0) = ap irql_of c.callback_irql-level.ensures in
    let number : c.number.result + 1 ≡ next_number S = ap (λ n. n + 1) c.number.ensures in
    let same = ap (λ n. begun n c.new_frame-frame.result c.callback_irql-level.result c.lock_for-lock.result) number
    ∙ ap (λ frame. begun (next_number S) frame c.callback_irql-level.result c.lock_for-lock.result) c.new_frame-frame.ensures
    ∙ ap (λ l. begun (next_number S) (new_frame plan S c.args.callback o c.args.request) l c.lock_for-lock.result) level
    ∙ ap (λ l. begun (next_number S) (new_frame plan S c.args.callback o c.args.request) (irql_of (callback_irql plan c.args.callback o.id.0)) l) c.lock_for-lock.ensures in
    both_done plan (start_effect plan S c.args.cpu.0 c.args.callback o.id.0 c.args.request) _ _ S c.do_effect.new.parts c.begin.new.parts c.do_effect.ensures same c.begin.ensures
