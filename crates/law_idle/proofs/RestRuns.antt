-- What the words say of a device's rest is so at each place of every run of a resolved plan.
use Rattle.std.proofs.Common.{◌≡◌, ℕ, zero, suc, ◌+◌, Bool, true, false, List, [], ◌∷◌, ◌++◌, Option, Some, None, slice_get, take, refl, sym, ap, subst, ◌∙◌}
use Rattle.wdf_base.specs.Meaning.{Meaning}
use Rattle.wdf_base.specs.Resolved.{IsResolved}
use Rattle.wdf_base.specs.Lives.{is_gone}
use Rattle.wdf_base.specs.Plan.{declared_of}
use Rattle.wdf_base.specs.declared.plan.Plan.{Plan}
use Rattle.wdf_base.specs.declared.declared.Declared.{Declared}
use Rattle.wdf_base.specs.declared.declared.Declared.TheVariants as declared
use Rattle.wdf_base.specs.declared.declared.DeviceInfo.{DeviceInfo}
use Rattle.wdf_base.specs.declared.object.Kind.TheVariants as kind
use Rattle.wdf_base.specs.declared.event.Event.{Event}
use Rattle.wdf_model.specs.Plans.{as_device, device_of}
use Rattle.wdf_model.specs.parts.Tree.{kind_of, life_of, made_as, nearest_device, node_of}
use Rattle.wdf_model.specs.parts.Pnp.{opening_sequence, sequence_of}
use Rattle.wdf_model.specs.State.{State, declared_in}
use Rattle.wdf_model.specs.rules.Steps.{after}
use Rattle.wdf_model.specs.rules.Ready.{IsRunOf, ready, state_after}
use Rattle.wdf_model.proofs.Runs.{run_front, take_ended, take_next}
use Rattle.law_machine_base.proofs.Follows.{state_goes_on}
use Rattle.law_machine_lives.proofs.SoundRuns.{KnownAll, all_known}
use Rattle.law_trace_power.proofs.Declares.{is_device, own_device_of}
use Rattle.law_trace_families.proofs.Families.{Family, family_at_each}
use Rattle.law_trace_turns.proofs.Places.{turned_at}
use Rattle.law_idle.specs.Idling.{asleep_rest, awake_rest, awake_step}
use Rattle.law_idle.specs.Resting.{Rests}
use Rattle.law_idle.proofs.Rest.{rests_on}
use Rattle.law_idle.proofs.Since.{asleep_more, awake_more}
use Rattle.law_machine_room.proofs.NamesOfSteps.{opening_read}

-- ---- the opening

opens_by : (plan : Plan) (d : ℕ) (info : DeviceInfo) (b : Bool) → info.working ≡ b → Rests (record { now = b; before = false }) (record { now = false; before = false }) (opening_sequence plan d (Some info))
opens_by plan d info true e = record {
  awake_is = λ t. record { phase_is = rw e refl; left = refl; running = refl };
  asleep_is = λ t. absurd (let z : ⊥ = cc in z);
  was_awake = λ h w. absurd (let z : ⊥ = cc in z);
  was_asleep = λ h w. absurd (let z : ⊥ = cc in z);
  tidy = refl;
}
opens_by plan d info false e = record {
  awake_is = λ t. absurd (let z : ⊥ = cc in z);
  asleep_is = λ t. absurd (let z : ⊥ = cc in z);
  was_awake = λ h w. absurd (let z : ⊥ = cc in z);
  was_asleep = λ h w. absurd (let z : ⊥ = cc in z);
  tidy = refl;
}

opens : (plan : Plan) (d : ℕ) (info : DeviceInfo) → device_of plan d ≡ Some info → Rests (awake_rest plan d []) (asleep_rest d []) (opening_sequence plan d (device_of plan d))
unfolding awake_rest asleep_rest
opens plan d info at = rw at (opens_by plan d info info.working refl)

rests_first : {A : Type 0} (plan : Plan) (m : Meaning A) (d : ℕ) (info : DeviceInfo) → device_of plan d ≡ Some info → Rests (awake_rest plan d []) (asleep_rest d []) (sequence_of (state_after plan m []).pnp d)
unfolding state_after
rests_first plan m d info at = subst (λ q. Rests (awake_rest plan d []) (asleep_rest d []) q) (sym (opening_read plan d)) (opens plan d info at)

-- ---- the device of a device

declared_device : (x : Option Declared) (info : DeviceInfo) → as_device x ≡ Some info → x ≡ Some (declared.Device info)
declared_device (Some (declared.Device i)) info h = let same : i ≡ info = cc in ap (λ y. Some (declared.Device y)) same
declared_device None info h = absurd (let z : ⊥ = cc in z)
declared_device (Some _) info h = absurd (let z : ⊥ = cc in z)

pub device_is_declared : (plan : Plan) (d : ℕ) (info : DeviceInfo) → device_of plan d ≡ Some info → declared_of plan d ≡ Some (declared.Device info)
device_is_declared plan d info h = declared_device (declared_of plan d) info h

near_itself : {A : Type 0} (plan : Plan) (es : List Event) (S : State A) (d : ℕ) (info : DeviceInfo) → KnownAll plan S → Family plan es S.tree → device_of plan d ≡ Some info → is_gone (life_of S.tree d) ≡ false → nearest_device S.tree d ≡ d
near_itself plan es S d info known family at lives =
    let as_declared : declared_of plan d ≡ Some (declared.Device info) = device_is_declared plan d info at in
    let kind_is : kind_of S.tree d ≡ kind.Device = (family.declared d (declared.Device info) as_declared lives).1 in
    let made : declared_in plan S d ≡ declared_of plan d = ap (made_as plan (node_of S.tree d) d) kind_is in
    own_device_of plan S d known.known.declared lives (ap is_device (made ∙ as_declared))

-- ---- each place

module _ {A : Type 0} (plan : Plan) (m : Meaning A) (run : List Event) (resolved : IsResolved plan) (is_run : IsRunOf plan m run) (d : ℕ) (info : DeviceInfo) (at_plan : device_of plan d ≡ Some info) where
  abbrev at_place : ℕ → State A
  at_place n = state_after plan m (take n run)

  abbrev RestsAt : ℕ → Type 0
  RestsAt n = Rests (awake_rest plan d (take n run)) (asleep_rest d (take n run)) (sequence_of (at_place n).pnp d)

  near_at : (n : ℕ) (o : ℕ) → is_gone (life_of (at_place n).tree o) ≡ false → o ≡ d → nearest_device (at_place n).tree o ≡ d
  near_at n o lives is =
      subst (λ x. nearest_device (at_place n).tree x ≡ d) (sym is)
      (near_itself plan (take n run) (at_place n) d info (all_known plan m (take n run) (run_front (ready plan m) run n is_run)) (family_at_each plan m run is_run n) at_plan (subst (λ x. is_gone (life_of (at_place n).tree x) ≡ false) is lives))

  next : (n : ℕ) (found : Option Event) → slice_get run n ≡ found → RestsAt n → RestsAt (suc n)
  next n None at k = subst (λ es. Rests (awake_rest plan d es) (asleep_rest d es) (sequence_of (state_after plan m es).pnp d)) (sym (take_ended run n at)) k
  next n (Some e) at k =
      subst (λ es. Rests (awake_rest plan d es) (asleep_rest d es) (sequence_of (state_after plan m es).pnp d)) (sym (take_next run n e at))
      (subst (λ (U : State A). Rests (awake_rest plan d (take n run ++ e ∷ [])) (asleep_rest d (take n run ++ e ∷ [])) (sequence_of U.pnp d)) (sym (state_goes_on plan m (take n run) e))
      (subst (λ W. Rests W (asleep_rest d (take n run ++ e ∷ [])) (sequence_of (after plan m (at_place n) e).pnp d)) (sym (awake_more plan d (take n run) e))
      (subst (λ Z. Rests (awake_step d (awake_rest plan d (take n run)) e) Z (sequence_of (after plan m (at_place n) e).pnp d)) (sym (asleep_more d (take n run) e))
      (rests_on (at_place n) (after plan m (at_place n) e) d (awake_rest plan d (take n run)) (asleep_rest d (take n run)) (near_at n) k e (turned_at plan m run resolved is_run n e at)))))

  pub rests_at : (n : ℕ) → RestsAt n
  rests_at zero = rests_first plan m d info at_plan
  rests_at (suc n) = next n (slice_get run n) refl (rests_at n)
