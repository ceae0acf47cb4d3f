-- What may follow a run can be done, where the room of its state is kept.
use Rattle.std.proofs.Common.{if◌then◌else◌, ◌≡◌, ℕ, ◌+◌, ◌<◌, nat_lt, nat_le, Bool, true, false, List, [], ◌∷◌, ◌⊎◌, inl, inr, length, take, count_by, slice_get, Option, Some, None, refl, sym, ap, subst, arith}
use Rattle.std.specs.List.{list_any}
use Rattle.std.proofs.lemmas.Bool.Decides.{nat_tests}
use Rattle.wdf_base.specs.Meaning.{Meaning}
use Rattle.wdf_base.specs.declared.plan.Plan.{Plan}
use Rattle.wdf_base.specs.declared.event.Event.{Event}
use Rattle.wdf_base.specs.declared.event.Fault.{Fault}
use Rattle.wdf_base.specs.Resolved.{IsResolved}
use Rattle.wdf_model.specs.State.{State}
use Rattle.wdf_model.specs.rules.Steps.{deeds, may}
use Rattle.wdf_model.specs.rules.Ready.{IsRunOf, allowed, last_fault, or_tick, ready, ready_in, state_after, unless_fault}
use Rattle.law_machine_base.specs.FactsOfEvents.{IsTick}
use Rattle.law_machine_base.specs.OverRuns.{DeclaredAgree, FramesAgree, arrives, completes}
use Rattle.law_machine_base.proofs.KeptByDeeds.{KeptIn}
use Rattle.law_machine_base.proofs.LawsOverRuns.{history_now}
use Rattle.law_machine_base.proofs.Follows.{follows}
use Rattle.law_machine_counts.proofs.DeclaredOverRuns.{declared_agree_at_each}
use Rattle.law_machine_counts.proofs.StepsOverRuns.{frames_agree_at_each}
use Rattle.law_machine_room.specs.Kept.{RoomKept}
use Rattle.wdf_model.specs.rules.Room.{AreDoable}
use Rattle.law_machine_room.proofs.Doable.{Fine}
use Rattle.law_machine_room.proofs.DoableEvents.{event_doable, tick_event_doable}

-- ---- the limit of events

within_by : {A : Type 0} (plan : Plan) (m : Meaning A) (S : State A) (b : Bool) → nat_lt S.number plan.limit ≡ b → (k : ℕ) (e : Event)
    → slice_get (if b then or_tick m S (allowed plan m S) else []) k ≡ Some e → S.number < plan.limit
within_by plan m S true b k e h = grind (arith, nat_tests)
within_by plan m S false b k e h = absurd (let z : ⊥ = cc in z)

within_unless : {A : Type 0} (plan : Plan) (m : Meaning A) (S : State A) (x : Option Fault) (k : ℕ) (e : Event)
    → slice_get (unless_fault x (ready_in plan m S)) k ≡ Some e → S.number < plan.limit
within_unless plan m S None k e h = within_by plan m S (nat_lt S.number plan.limit) refl k e h
within_unless plan m S (Some x) k e h = absurd (let z : ⊥ = cc in z)

-- what may follow comes before the limit
pub ready_within : {A : Type 0} (plan : Plan) (m : Meaning A) (run : List Event) (k : ℕ) (e : Event) → slice_get (ready plan m run) k ≡ Some e
    → (state_after plan m run).number < plan.limit
unfolding ready
ready_within plan m run k e h = within_unless plan m (state_after plan m run) (last_fault run) k e h

-- ---- the state after a run

take_all : {T : Type 0} (xs : List T) → take (length xs) xs ≡ xs
take_all [] = refl
take_all (x ∷ xs) = ap (λ ys. x ∷ ys) (take_all xs)

pub fine_after : {A : Type 0} (plan : Plan) (m : Meaning A) (run : List Event) → IsResolved plan → IsRunOf plan m run → (state_after plan m run).number < plan.limit
    → RoomKept plan (state_after plan m run) → Fine plan (state_after plan m run)
fine_after plan m run resolved is_run within room =
    let kept : KeptIn (λ r. nat_le 1 (count_by (completes r) run)) (λ r. list_any (arrives r) run) (state_after plan m run) = (history_now plan m run is_run).kept in
    record {
      resolved = resolved;
      within = within;
      room = room;
      places = record { queued = kept.queued; sent = kept.sent };
      declared = subst (λ (es : List Event). DeclaredAgree plan (state_after plan m es)) (take_all run) (declared_agree_at_each plan m run is_run (length run));
      frames = subst (λ (es : List Event). FramesAgree (state_after plan m es)) (take_all run) (frames_agree_at_each plan m run is_run (length run));
      arrived = kept.kinds;
    }

either_doable_now : {A : Type 0} (plan : Plan) (m : Meaning A) (S : State A) (offered : List Event) (e : Event) → Fine plan S → (may plan m S e ≡ true) ⊎ IsTick m S offered e
    → AreDoable plan (deeds plan S e) S
either_doable_now plan m S offered e k (inl h) = event_doable plan m S e k h
either_doable_now plan m S offered e k (inr t) = subst (λ x. AreDoable plan (deeds plan S x) S) (sym t.tick) (tick_event_doable plan S (S.clock + 1) k)

-- what may follow a run can be done
pub ready_doable : {A : Type 0} (plan : Plan) (m : Meaning A) (run : List Event) (k : ℕ) (e : Event) → IsResolved plan → IsRunOf plan m run → RoomKept plan (state_after plan m run)
    → slice_get (ready plan m run) k ≡ Some e → AreDoable plan (deeds plan (state_after plan m run) e) (state_after plan m run)
ready_doable plan m run k e resolved is_run room at =
    either_doable_now plan m (state_after plan m run) (ready plan m run) e (fine_after plan m run resolved is_run (ready_within plan m run k e at) room) (follows plan m run k e at)
