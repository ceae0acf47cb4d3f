-- A frame that is parked waits in a call, at each place of every run.
use Rattle.std.proofs.Common.{if◌then◌else◌, ◌≡◌, ◌≢◌, ℕ, ◌==◌, Bool, true, false, not, ◌||◌, nat_lt, List, [], ◌∷◌, ◌⊎◌, inl, inr, Some, is_some, take, refl, sym, ap, ◌∙◌, arith}
use Rattle.std.proofs.lemmas.Bool.Decides.{nat_tests}
use Rattle.wdf_base.specs.Meaning.{Meaning}
use Rattle.wdf_base.specs.declared.plan.Plan.{Plan}
use Rattle.wdf_base.specs.declared.event.Event.{Event}
use Rattle.wdf_base.specs.declared.frame.Frame.{Frame}
use Rattle.wdf_model.specs.declared.entries.Running.{Running}
use Rattle.wdf_model.specs.Tables.{contains, entry, in_order, without}
use Rattle.wdf_model.specs.parts.Cpus.{Cpus, frame_of, no_frame, parked_with, running, top, without_frame}
use Rattle.wdf_model.specs.parts.Cpus as cpus
use Rattle.wdf_model.specs.State.{State}
use Rattle.law_machine_base.specs.Fits.{fits}
use Rattle.wdf_model.specs.declared.deed.Deed.{Deed}
use Rattle.wdf_model.specs.declared.deed.Deed.TheVariants.{PushFrame, GoOn, PopFrame, ParkFrame, UnparkFrame, TakeStep, EndStep, EndLife}
use Rattle.wdf_model.specs.rules.Deeds.{do_deed}
use Rattle.wdf_model.specs.rules.Ready.{IsRunOf, state_after}
use Rattle.wdf_model.specs.rules.Steps.{deeds}
use Rattle.wdf_model.proofs.Tests.{alone}
use Rattle.wdf_model.proofs.Maps.{entry_put_other}
use Rattle.law_machine_base.proofs.FitsOfEvents.{event_fits}
use Rattle.law_machine_counts.proofs.StillFrames.{Still, deeds_still}
use Rattle.law_machine_lives.proofs.AllOf.{all_keep}
use Rattle.law_machine_lives.proofs.Keeping.{each_place}
use Rattle.law_stuck_named_if.proofs.Apt.{Apt}
use Rattle.law_stuck_named_if.proofs.AptEvents.{event_apt}

-- ---- the parked frames

pub record Parking (C : Cpus) : Type 0 where
  pub waits : (f : ℕ) → contains f C.parked ≡ true → is_some (frame_of C f).pending ≡ true

-- the other frames stay as they are
others_wait : (C D : Cpus) (f : ℕ) → contains f C.parked ≡ false → ((x : ℕ) → contains x D.parked ≡ true → contains x C.parked ≡ true) → ((x : ℕ) → x ≢ f → frame_of D x ≡ frame_of C x) → Parking C → Parking D
others_wait C D f off fewer same q = record {
  waits = λ x h.
      let there : contains x C.parked ≡ true = fewer x h in
      let apart : x ≢ f = λ e. (let here : contains f C.parked ≡ true = ap (λ y. contains y C.parked) (sym e) ∙ there in let z : ⊥ = cc in z) in
      ap (λ (a : Frame). is_some a.pending) (same x apart) ∙ q.waits x there;
}

pop_elsewhere : (C : Cpus) (cpu f x : ℕ) → top C cpu ≡ Some f → x ≢ f → frame_of (cpus.pop C cpu) x ≡ frame_of C x
pop_elsewhere C cpu f x is_top n = ap (λ t. (entry no_frame (without_frame C t) x).frame) is_top ∙ ap (λ (r : Running). r.frame) (entry_put_other no_frame C.frames f x no_frame n)

ordered_by : (f x y : ℕ) (ys : List ℕ) (b : Bool) → nat_lt f y ≡ b → contains x (in_order f (y ∷ ys)) ≡ true → (contains x (in_order f ys) ≡ true → (x ≡ f) ⊎ (contains x ys ≡ true)) → (c : Bool) → (y == x) ≡ c → (x ≡ f) ⊎ (contains x (y ∷ ys) ≡ true)
ordered_by f x y ys b e h rest true k = inr (rw k refl)
ordered_by f x y ys true e h rest false k =
    let parts : ((f == x) || ((y == x) || contains x ys)) ≡ true = rw e at h in
    either (f == x) ((y == x) || contains x ys) refl parts
  where
    either : (a b : Bool) → (f == x) ≡ a → (a || b) ≡ true → (x ≡ f) ⊎ (b ≡ true)
    either true b s p = inl (grind (arith, nat_tests))
    either false b s p = inr p
ordered_by f x y ys false e h rest false k =
    let parts : ((y == x) || contains x (in_order f ys)) ≡ true = rw e at h in
    let there : contains x (in_order f ys) ≡ true = rw k at parts in
    elim (rest there) as (λ _. (x ≡ f) ⊎ (contains x (y ∷ ys) ≡ true)) [
      | inl s ↦ inl s
      | inr s ↦ inr (rw k s)
    ]

-- an id of a list with one more is that one, or was in it
ordered : (f x : ℕ) (ys : List ℕ) → contains x (in_order f ys) ≡ true → (x ≡ f) ⊎ (contains x ys ≡ true)
ordered f x [] h = inl (single (f == x) refl h)
  where
    single : (b : Bool) → (f == x) ≡ b → (b || false) ≡ true → x ≡ f
    single true e h = grind (arith, nat_tests)
    single false e h = absurd (let z : ⊥ = cc in z)
ordered f x (y ∷ ys) h = ordered_by f x y ys (nat_lt f y) refl h (ordered f x ys) (y == x) refl

left_by : (f x y : ℕ) (ys : List ℕ) (b : Bool) → (y == f) ≡ b → contains x (if not b then y ∷ without f ys else without f ys) ≡ true → (contains x (without f ys) ≡ true → contains x ys ≡ true) → (c : Bool) → (y == x) ≡ c → ((y == x) || contains x ys) ≡ true
left_by f x y ys b e h rest true k = rw k refl
left_by f x y ys true e h rest false k = rw k (rest h)
left_by f x y ys false e h rest false k = rw k (rest (rw k at h))

-- an id of a list without one was in it
left : (f x : ℕ) (ys : List ℕ) → contains x (without f ys) ≡ true → contains x ys ≡ true
left f x [] h = h
left f x (y ∷ ys) h = left_by f x y ys (y == f) refl h (left f x ys) (y == x) refl

parks : (C : Cpus) (cpu f : ℕ) → top C cpu ≡ Some f → is_some (frame_of C f).pending ≡ true → Parking C → Parking (cpus.park C cpu)
parks C cpu f is_top some q = record {
  waits = λ x h.
      elim (ordered f x C.parked (sym (ap (λ t. contains x (parked_with C t)) is_top) ∙ h)) as (λ _. is_some (frame_of C x).pending ≡ true) [
        | inl e ↦ ap (λ y. is_some (frame_of C y).pending) e ∙ some
        | inr there ↦ q.waits x there
      ];
}

stays : {A : Type 0} (S U : State A) → Still S U → Parking S.cpus → Parking U.cpus
stays S U s q = record { waits = λ f h. ap (λ (a : Frame). is_some a.pending) (s.frames f) ∙ q.waits f (sym (ap (contains f) s.parked) ∙ h) }

parking_by : {A : Type 0} (plan : Plan) (d : Deed) (S : State A) → fits plan d S ≡ true → Apt plan d S → Parking S.cpus → Parking (do_deed plan d S).cpus
parking_by plan (PushFrame cpu f frame level) S fit a q =
    others_wait S.cpus (cpus.push S.cpus cpu.0 f.0 frame level.0) f.0 a (λ x h. h) (λ x n. ap (λ (r : Running). r.frame) (entry_put_other no_frame S.cpus.frames f.0 x (record { frame = frame; level = record { 0 = level.0 } }) n)) q
parking_by plan (GoOn f next) S fit a q =
    others_wait S.cpus (cpus.change S.cpus f.0 next) f.0 a (λ x h. h) (λ x n. ap (λ (r : Running). r.frame) (entry_put_other no_frame S.cpus.frames f.0 x (record (running S.cpus f.0) { frame = next }) n)) q
parking_by plan (PopFrame cpu) S fit a q = others_wait S.cpus (cpus.pop S.cpus cpu.0) a.0 a.2 (λ x h. h) (λ x n. pop_elsewhere S.cpus cpu.0 a.0 x a.1 n) q
parking_by plan (ParkFrame cpu) S fit a q = parks S.cpus cpu.0 a.0 a.1 a.2 q
parking_by plan (UnparkFrame cpu f) S fit a q = record { waits = λ x h. q.waits x (left f.0 x S.cpus.parked h) }
parking_by plan (TakeStep d) S fit a q = q
parking_by plan (EndStep d s result) S fit a q = q
parking_by plan (EndLife o) S fit a q = q
parking_by plan d S fit a q = stays S (do_deed plan d S) (deeds_still plan (d ∷ []) S refl (alone (fits plan d S) fit)) q

pub parking_at_each : {A : Type 0} (plan : Plan) (m : Meaning A) (run : List Event) → IsRunOf plan m run → (n : ℕ) → Parking (state_after plan m (take n run)).cpus
parking_at_each {A} plan m run is_run n = each_place plan m (λ (S : State A). Parking S.cpus) (record { waits = λ f h. absurd (let z : ⊥ = cc in z) })
    (λ S e known may_come q. all_keep plan (λ (d : Deed) (U : State A). Apt plan d U) (λ (U : State A). Parking U.cpus) (parking_by plan) (deeds plan S e) S (event_fits plan m S e may_come) (event_apt plan m S e known may_come) q)
    (λ S time q. q) run is_run n
