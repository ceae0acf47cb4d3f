-- At each place of every run of a resolved plan, what is so of devices and of what belongs to them.
use Rattle.std.proofs.Common.{◌≡◌, ℕ, zero, suc, ◌+◌, ◌≤◌, Bool, true, false, ◌&&◌, List, [], ◌∷◌, ◌⊎◌, inl, inr, Option, Some, None, is_some, length, map, slice_get, take, unwrap_or, refl, sym, ap, subst, ◌∙◌, arith}
use Rattle.std.specs.List.{range_with_len}
use Rattle.wdf_base.specs.Meaning.{Meaning}
use Rattle.wdf_base.specs.Plan.{declared_of}
use Rattle.wdf_base.specs.Kinds.{declared_kind}
use Rattle.wdf_base.specs.Resolved.{IsResolved}
use Rattle.wdf_base.specs.declared.plan.Plan.{Plan}
use Rattle.wdf_base.specs.declared.declared.Declared.{Declared}
use Rattle.wdf_base.specs.declared.declared.DeviceInfo.{DeviceInfo}
use Rattle.wdf_base.specs.declared.event.Event.{Event}
use Rattle.wdf_base.specs.declared.object.Kind.TheVariants as kind
use Rattle.wdf_base.specs.Lives.{is_gone, is_live}
use Rattle.wdf_model.specs.Tables.{entry}
use Rattle.wdf_model.specs.Plans.{as_device, device_of}
use Rattle.wdf_model.specs.parts.Tree.{declared_node, declared_parent, gone, kind_of, life_of, opening_tree, parent_of}
use Rattle.wdf_model.specs.parts.Pnp.{Sequence, no_sequence, opening_pnp, opening_sequence, sequence_of}
use Rattle.wdf_model.specs.State.{State, opening}
use Rattle.wdf_model.specs.declared.deed.Deed.{Deed}
use Rattle.wdf_model.specs.rules.Deeds.{do_deed, do_deeds}
use Rattle.wdf_model.specs.rules.Ready.{IsRunOf, state_after}
use Rattle.wdf_model.specs.rules.Steps.{deeds}
use Rattle.law_machine_base.specs.Fits.{all_fit, fits}
use Rattle.law_machine_base.proofs.KeptByDeeds.{deed_keeps}
use Rattle.law_machine_base.proofs.FitsOfEvents.{event_fits}
use Rattle.wdf_model.proofs.Tests.{both_left, both_right}
use Rattle.law_machine_counts.proofs.HeldMoves.{Placed}
use Rattle.wdf_model.specs.rules.Groups.{declared_end}
use Rattle.law_machine_lives.proofs.Keeping.{at_the_end, each_place_by}
use Rattle.law_machine_lives.proofs.LivesOver.{Lives, lives_at_each}
use Rattle.law_machine_lives.proofs.OfDevices.{devices_at_each}
use Rattle.law_machine_lives.proofs.Sound.{AllSound}
use Rattle.law_machine_lives.proofs.SoundRuns.{all_known, all_sound}
use Rattle.law_trace_families.proofs.Families.{family_at_each}
use Rattle.law_trace_families.proofs.Stays.{deed_stays}
use Rattle.law_trace_power.proofs.Frames.{StepFrames}
use Rattle.law_trace_power.proofs.Runs.{kept_at_each}
use Rattle.law_stuck_named.specs.Standing.{IsOver, is_part}
use Rattle.law_stuck_named.proofs.Lasting.{Lasts}
use Rattle.law_stuck_named.proofs.Standing.{AllComes, Stands, stands_by}
use Rattle.law_stuck_named.proofs.Coming.{Facts, event_comes}
use Rattle.law_machine_room.proofs.NamesOfSteps.{opening_left}

-- ---- the opening

all_live : (ds : List Declared) (k : ℕ) (d : Declared) → slice_get ds k ≡ Some d → is_live (entry gone (map declared_node ds) k).life ≡ true
all_live [] k d h = absurd (let z : ⊥ = cc in z)
all_live (x ∷ ds) zero d h = refl
all_live (x ∷ ds) (suc k) d h = all_live ds k d h

declared_live : (plan : Plan) (o : ℕ) (d : Declared) → declared_of plan o ≡ Some d → is_live (life_of (opening_tree plan) o) ≡ true
declared_live plan zero d h = absurd (let z : ⊥ = cc in z)
declared_live plan (suc k) d h = all_live plan.declared k d h

some_part : (d : ℕ) (o : Option Declared) → is_part d o ≡ true → is_some o ≡ true
some_part d None h = absurd (let z : ⊥ = cc in z)
some_part d (Some x) h = refl

live_if_any : (plan : Plan) (o : ℕ) (x : Option Declared) → declared_of plan o ≡ x → is_some x ≡ true → is_live (life_of (opening_tree plan) o) ≡ true
live_if_any plan o None e h = absurd (let z : ⊥ = cc in z)
live_if_any plan o (Some d) e h = declared_live plan o d e

some_device : (o : Option Declared) → is_some (as_device o) ≡ true → is_some o ≡ true
some_device None h = absurd (let z : ⊥ = cc in z)
some_device (Some x) h = refl

in_range : (f : ℕ → Sequence) (a n d : ℕ) → (entry no_sequence (map f (range_with_len a n)) d ≡ f (a + d)) ⊎ (entry no_sequence (map f (range_with_len a n)) d ≡ no_sequence)
in_range f a zero d = inr refl
in_range f a (suc n) zero = inl (ap f (let e : a ≡ a + 0 = omega arith in e))
in_range f a (suc n) (suc d) = elim (in_range f (a + 1) n d) [
  | inl e ↦ inl (e ∙ ap f (let t : (a + 1) + d ≡ a + suc d = omega arith in t))
  | inr e ↦ inr e
]

blank_over : IsOver no_sequence
blank_over = record { phase = refl; left = refl; running = refl }

opening_over : (plan : Plan) (d : ℕ) (x : Option DeviceInfo) → is_some x ≡ false → IsOver (opening_sequence plan d x)
opening_over plan d None h = blank_over
opening_over plan d (Some i) h = absurd (let z : ⊥ = cc in z)

module _ (plan : Plan) where
  opening_at : (d : ℕ) → (sequence_of (opening_pnp plan) d ≡ opening_sequence plan d (device_of plan d)) ⊎ (sequence_of (opening_pnp plan) d ≡ no_sequence)
  opening_at d = elim (in_range (λ x. opening_sequence plan x (device_of plan x)) 0 (suc (length plan.declared)) d) [
    | inl e ↦ inl (e ∙ ap (λ x. opening_sequence plan x (device_of plan x)) (let t : 0 + d ≡ d = omega arith in t))
    | inr e ↦ inr e
  ]

  lasts_open : (d : ℕ) → Lasts (sequence_of (opening_pnp plan) d).left
  lasts_open d = elim (opening_at d) as (λ _. Lasts (sequence_of (opening_pnp plan) d).left) [
    | inl e ↦ subst Lasts (sym (ap (λ (q : Sequence). q.left) e ∙ opening_left plan d (device_of plan d))) tt
    | inr e ↦ subst Lasts (sym (ap (λ (q : Sequence). q.left) e)) tt
  ]

  over_opens : (d : ℕ) → (is_some (device_of plan d) && is_live (life_of (opening_tree plan) d)) ≡ false → IsOver (sequence_of (opening_pnp plan) d)
  over_opens d h = elim (opening_at d) as (λ _. IsOver (sequence_of (opening_pnp plan) d)) [
    | inl e ↦ subst IsOver (sym e) (opening_over plan d (device_of plan d) (none (is_some (device_of plan d)) refl))
    | inr e ↦ subst IsOver (sym e) blank_over
  ]
    where
      none : (b : Bool) → is_some (device_of plan d) ≡ b → is_some (device_of plan d) ≡ false
      none false e = e
      none true e =
          let live : is_live (life_of (opening_tree plan) d) ≡ true = live_if_any plan d (declared_of plan d) refl (some_device (declared_of plan d) e) in
          absurd (let off : (true && true) ≡ false = subst (λ x. (x && true) ≡ false) e (subst (λ y. (is_some (device_of plan d) && y) ≡ false) live h) in let z : ⊥ = cc in z)

opening_stands : {A : Type 0} (plan : Plan) (m : Meaning A) → Stands plan (opening plan m)
opening_stands plan m = record {
  root = record { parent = refl; gone = refl };
  parts = λ d x is live. live_if_any plan x (declared_of plan x) refl (some_part d (declared_of plan x) (both_left (is_part d (declared_of plan x)) (is_some (device_of plan d)) is));
  opened = λ r. (λ h. absurd (let z : ⊥ = cc in z), λ h. absurd (let z : ⊥ = cc in z));
  lasts = lasts_open plan;
  over = over_opens plan;
}

-- ---- each place of a run

facts_now : {A : Type 0} (plan : Plan) (m : Meaning A) → IsResolved plan → (run : List Event) → IsRunOf plan m run → Facts plan (state_after plan m run)
facts_now {A} plan m resolved run is_run = record {
  known = all_known plan m run is_run;
  frames = at_the_end plan m (λ (S : State A). StepFrames S.cpus S.pnp) run (kept_at_each plan m run resolved is_run (length run)).frames;
  lives = at_the_end plan m (λ (S : State A). Lives S.tree) run (lives_at_each plan m run resolved is_run (length run));
  declared = at_the_end plan m (λ (S : State A). (o : ℕ) (d : Declared) → declared_of plan o ≡ Some d → is_gone (life_of S.tree o) ≡ false → (parent_of S.tree o ≡ declared_parent d) × (kind_of S.tree o ≡ unwrap_or (declared_kind d) kind.General)) run
      (family_at_each plan m run is_run (length run)).declared;
  room = at_the_end plan m (λ (S : State A). declared_end plan ≤ length S.tree.nodes) run (let f = (family_at_each plan m run is_run (length run)).declared_first in omega arith);
}

placed_now : {A : Type 0} (plan : Plan) (m : Meaning A) (run : List Event) → IsRunOf plan m run → Placed (state_after plan m run)
placed_now {A} plan m run is_run = at_the_end plan m (λ (S : State A). Placed S) run (devices_at_each plan m run is_run (length run)).0

pub record Known {A : Type 0} (plan : Plan) (S : State A) : Type 0 where
  pub facts : Facts plan S
  pub placed : Placed S

pub known_now : {A : Type 0} (plan : Plan) (m : Meaning A) → IsResolved plan → (run : List Event) → IsRunOf plan m run → Known plan (state_after plan m run)
known_now plan m resolved run is_run = record { facts = facts_now plan m resolved run is_run; placed = placed_now plan m run is_run }

deeds_stand : {A : Type 0} (plan : Plan) (ds : List Deed) (S : State A) → all_fit plan ds S ≡ true → AllSound plan ds S → AllComes plan ds S → Placed S → declared_end plan ≤ length S.tree.nodes → Stands plan S → Stands plan (do_deeds plan ds S)
deeds_stand plan [] S f s c p room k = k
deeds_stand {A} plan (d ∷ ds) S f s c p room k =
    let U : State A = do_deed plan d S in
    let fit : fits plan d S ≡ true = both_left (fits plan d S) (all_fit plan ds U) f in
    let more = (deed_stays plan d S fit).longer in
    deeds_stand plan ds U (both_right (fits plan d S) (all_fit plan ds U) f) s.1 c.1 (deed_keeps plan d S fit (λ _. refl) p) (omega arith) (stands_by plan d S fit s.0 c.0 p room k)

pub stands_at_each : {A : Type 0} (plan : Plan) (m : Meaning A) (run : List Event) → IsResolved plan → IsRunOf plan m run → (n : ℕ) → Stands plan (state_after plan m (take n run))
stands_at_each {A} plan m run resolved is_run n = each_place_by plan m (λ (S : State A). Known plan S) (λ (S : State A). Stands plan S) (known_now plan m resolved) (opening_stands plan m)
    (λ S e known h k.
    let u = deeds_stand plan (deeds plan S e) S (event_fits plan m S e h) (all_sound plan m S e known.facts.known h) (event_comes plan S resolved known.facts k m e h) known.placed known.facts.room k in
    record { root = u.root; parts = u.parts; opened = u.opened; lasts = u.lasts; over = u.over })
    (λ S time k. record { root = k.root; parts = k.parts; opened = k.opened; lasts = k.lasts; over = k.over })
    run is_run n

pub stands_now : {A : Type 0} (plan : Plan) (m : Meaning A) (run : List Event) → IsResolved plan → IsRunOf plan m run → Stands plan (state_after plan m run)
stands_now {A} plan m run resolved is_run = at_the_end plan m (λ (S : State A). Stands plan S) run (stands_at_each plan m run resolved is_run (length run))
