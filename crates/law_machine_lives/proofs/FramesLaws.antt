-- The laws on frames and locks.
use Rattle.std.proofs.Common.{if◌then◌else◌, ◌≡◌, ℕ, ◌≤◌, Bool, true, false, List, [], ◌∷◌, Option, Some, None, find, option_map, take, refl, subst}
use Rattle.wdf_base.specs.Meaning.{Meaning}
use Rattle.wdf_base.specs.declared.plan.Plan.{Plan}
use Rattle.wdf_base.specs.declared.event.Event.{Event}
use Rattle.wdf_base.specs.declared.object.LockRef.{LockRef}
use Rattle.wdf_base.specs.Same.{same_lock}
use Rattle.wdf_model.specs.declared.entries.Held.{Held}
use Rattle.wdf_model.specs.parts.Locks.{hold_of, holder}
use Rattle.wdf_model.specs.State.{State}
use Rattle.wdf_model.specs.rules.Ready.{IsRunOf, state_after}
use Rattle.law_machine_lives.specs.Agreements.{FramesThere, LocksAgree}
use Rattle.law_machine_lives.proofs.Lists.{Each}
use Rattle.law_machine_lives.proofs.LocksOnce.{once_at_each}
use Rattle.law_machine_lives.proofs.Framing.{Framing, IsHeld, framing_at_each}
use Rattle.wdf_model.proofs.FrameCounts.{on}

found_by : (P : Held → Type 0) (p : Held → Bool) (h x : Held) (hs : List Held) (b : Bool) → p h ≡ b → P h → (find p hs ≡ Some x → P x) → (if b then Some h else find p hs) ≡ Some x → P x
found_by P p h x hs true e is rest f = let same : h ≡ x = cc in subst P same is
found_by P p h x hs false e is rest f = rest f

found : (P : Held → Type 0) (p : Held → Bool) (x : Held) (hs : List Held) → Each P hs → find p hs ≡ Some x → P x
found P p x [] each f = absurd (let z : ⊥ = cc in z)
found P p x (h ∷ hs) each f = found_by P p h x hs (p h) refl each.0 (found P p x hs each.1) f

held_there : {A : Type 0} (plan : Plan) (S : State A) (f : ℕ) (o : Option Held) → ((x : Held) → o ≡ Some x → IsHeld plan S x) → option_map (λ (h : Held). h.frame.0) o ≡ Some f → 1 ≤ on S.cpus f
held_there plan S f None is e = absurd (let z : ⊥ = cc in z)
held_there plan S f (Some h) is e = let same : h.frame.0 ≡ f = cc in subst (λ x. 1 ≤ on S.cpus x) same (is h refl).0

pub holder_there : {A : Type 0} (plan : Plan) (S : State A) → Framing plan S → (l : LockRef) (f : ℕ) → holder S.locks l ≡ Some f → 1 ≤ on S.cpus f
holder_there plan S k l f e = held_there plan S f (hold_of S.locks l) (λ x h. found (IsHeld plan S) (λ h. same_lock h.lock l) x S.locks.held k.held h) e

pub locks_agree_at_each : {A : Type 0} (plan : Plan) (m : Meaning A) (run : List Event) → IsRunOf plan m run → (n : ℕ) → LocksAgree (state_after plan m (take n run))
locks_agree_at_each plan m run is_run n = record {
  once = once_at_each plan m run is_run n;
  there = holder_there plan (state_after plan m (take n run)) (framing_at_each plan m run is_run n);
}

pub frames_there_at_each : {A : Type 0} (plan : Plan) (m : Meaning A) (run : List Event) → IsRunOf plan m run → (n : ℕ) → FramesThere (state_after plan m (take n run))
frames_there_at_each plan m run is_run n = record { there = (framing_at_each plan m run is_run n).there }
