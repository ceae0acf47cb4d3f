-- What devices have left, their power and their interrupts change by the steps of sequences and by what is asked of
-- devices alone: no other event has a deed that changes them.
use Rattle.std.proofs.Common.{◌≡◌, ℕ, Bool, true, false, not, ◌||◌, List, Option, Some, None, refl}
use Rattle.std.specs.List.{list_all}
use Rattle.wdf_base.specs.declared.plan.Plan.{Plan}
use Rattle.wdf_base.specs.declared.ids.Handle.{Handle}
use Rattle.wdf_base.specs.declared.object.LockRef.{LockRef}
use Rattle.wdf_base.specs.declared.call.Callback.{Callback}
use Rattle.wdf_base.specs.declared.event.Event.{Event}
use Rattle.wdf_base.specs.declared.event.Event.TheVariants as event
use Rattle.wdf_base.specs.declared.event.Post.TheVariants as post
use Rattle.wdf_base.specs.Callbacks.{row_of}
use Rattle.wdf_model.specs.State.{State}
use Rattle.wdf_model.specs.declared.deed.Deed.{Deed}
use Rattle.wdf_model.specs.declared.deed.Deed.TheVariants.{AdvancePower, AskDevice, DisableInterrupt, EnableInterrupt, EndStep, PushFrame, TakeStep}
use Rattle.law_machine_base.specs.Agreement.{is_sequence}
use Rattle.wdf_model.specs.rules.Starts.{release_if_any, start_effect, take_if_any}
use Rattle.wdf_model.specs.rules.Steps.{deeds}
use Rattle.law_machine_deeds.specs.MayDo.{ends_step, is_ask, is_stage, is_start, may_do, posts}
use Rattle.law_machine_deeds.proofs.Walk.{plain_start}
use Rattle.law_machine_deeds.proofs.Passing.{PassesBeside, event_passes, start_effect_passes, start_of}

-- a deed that begins a frame, or changes what devices have left, which of them have power, or which interrupts are enabled
abbrev pub is_moving : Deed → Bool
is_moving (PushFrame cpu f frame level) = true
is_moving (AskDevice d a) = true
is_moving (TakeStep d) = true
is_moving (EndStep d s result) = true
is_moving (AdvancePower d s) = true
is_moving (EnableInterrupt i) = true
is_moving (DisableInterrupt i) = true
is_moving _ = false

abbrev pub none_moves : List Deed → Bool
none_moves ds = list_all (λ d. not (is_moving d)) ds

-- an event that has such a deed
abbrev pub is_moving_event : Event → Bool
is_moving_event e = (is_start e || is_stage e || posts is_ask e) || ends_step e

event_still : (e : Event) → is_moving_event e ≡ false → (d : Deed) → may_do e d ≡ true → not (is_moving d) ≡ true
event_still (event.Start cpu c o r) off d h = absurd (let z : ⊥ = cc in z)
event_still (event.Stage n s i) off d h = absurd (let z : ⊥ = cc in z)
event_still (event.Posted agent (post.Ask a n) answer) off d h = absurd (let z : ⊥ = cc in z)
event_still e off (PushFrame cpu f frame level) h = h
event_still e off _ h = cc

pub event_none : {A : Type 0} (plan : Plan) (S : State A) (e : Event) → is_moving_event e ≡ false → none_moves (deeds plan S e) ≡ true
event_none plan S e off = event_passes (λ d. not (is_moving d)) plan S e (event_still e off)

start_still : (c : Callback) → is_sequence (row_of c).rank ≡ false → PassesBeside (λ d. not (is_moving d)) plain_start (start_of c)
start_still c off (TakeStep d) h n = absurd (let z : ⊥ = cc in z)
start_still c off _ h n = cc

pub start_effect_none : {A : Type 0} (plan : Plan) (S : State A) (cpu : ℕ) (c : Callback) (o : ℕ) (r : Option Handle) → is_sequence (row_of c).rank ≡ false → none_moves (start_effect plan S cpu c o r) ≡ true
start_effect_none plan S cpu c o r off = start_effect_passes (λ d. not (is_moving d)) plan S cpu c o r (start_still c off)

pub taking_none : (f : ℕ) (l : Option LockRef) → none_moves (take_if_any f l) ≡ true
taking_none f None = refl
taking_none f (Some l) = refl

pub releasing_none : (l : Option LockRef) → none_moves (release_if_any l) ≡ true
releasing_none None = refl
releasing_none (Some l) = refl
