-- At each place of every run of a resolved plan, what is so of requests that arrived, of targets and of what is sent.
use Rattle.std.proofs.Common.{◌≡◌, ℕ, zero, suc, ◌+◌, ◌==◌, ◌≤◌, true, false, List, [], ◌∷◌, ◌⊎◌, inl, inr, Option, Some, None, is_some, count_by, length, map, take, refl, ap, ◌∙◌, arith}
use Rattle.std.specs.List.{range_with_len}
use Rattle.wdf_base.specs.Meaning.{Meaning}
use Rattle.wdf_base.specs.Resolved.{IsResolved}
use Rattle.wdf_base.specs.declared.plan.Plan.{Plan}
use Rattle.wdf_base.specs.declared.declared.TargetInfo.{TargetInfo}
use Rattle.wdf_base.specs.declared.event.Event.{Event}
use Rattle.wdf_model.specs.Tables.{entry}
use Rattle.wdf_model.specs.Plans.{target_of}
use Rattle.wdf_model.specs.parts.Targets.{Target, no_target, opening_target, opening_targets, the_target}
use Rattle.wdf_model.specs.State.{State, opening}
use Rattle.wdf_model.specs.declared.deed.Deed.{Deed}
use Rattle.wdf_model.specs.rules.Deeds.{do_deed, do_deeds}
use Rattle.wdf_model.specs.rules.Ready.{IsRunOf, ready, state_after}
use Rattle.wdf_model.specs.rules.Steps.{deeds}
use Rattle.law_machine_base.specs.Fits.{all_fit, fits}
use Rattle.wdf_model.proofs.Runs.{run_opens}
use Rattle.wdf_model.proofs.Tests.{both_left, both_right}
use Rattle.law_machine_base.proofs.FitsOfEvents.{event_fits}
use Rattle.law_machine_base.proofs.Kept.{is_request, sends}
use Rattle.law_machine_counts.proofs.HeldMoves.{Placed}
use Rattle.law_machine_lives.proofs.Keeping.{at_the_end, each_place_by}
use Rattle.law_machine_lives.proofs.Sound.{AllSound}
use Rattle.law_machine_lives.proofs.SoundRuns.{all_sound}
use Rattle.law_stuck_named.proofs.Standing.{AllComes}
use Rattle.law_stuck_named.proofs.Coming.{event_comes}
use Rattle.law_stuck_named.proofs.Runs.{known_now}
use Rattle.law_stuck_named.proofs.Worked.{KnownToo, known_too}
use Rattle.law_stuck_objects.proofs.Sendings.{AllFair, fair_by}
use Rattle.law_stuck_objects.proofs.Ended.{EndsWell, ends_by, placed_then}
use Rattle.law_stuck_objects.proofs.LiveTargets.{SentToLive, sent_by}

pub record GoesWell {A : Type 0} (plan : Plan) (S : State A) : Type 0 where
  pub ends : EndsWell S
  pub fair : AllFair plan S.targets
  pub sent : SentToLive plan S

-- ---- the opening

in_range : (f : ℕ → Target) (a n t : ℕ) → (entry no_target (map f (range_with_len a n)) t ≡ f (a + t)) ⊎ (entry no_target (map f (range_with_len a n)) t ≡ no_target)
in_range f a zero t = inr refl
in_range f a (suc n) zero = inl (ap f (let e : a ≡ a + 0 = omega arith in e))
in_range f a (suc n) (suc t) = elim (in_range f (a + 1) n t) [
  | inl e ↦ inl (e ∙ ap f (let p : (a + 1) + t ≡ a + suc t = omega arith in p))
  | inr e ↦ inr e
]

module _ (plan : Plan) where
  target_opens : (t : ℕ) → (the_target (opening_targets plan) t ≡ opening_target (target_of plan t)) ⊎ (the_target (opening_targets plan) t ≡ no_target)
  target_opens t = elim (in_range (λ x. opening_target (target_of plan x)) 0 (suc (length plan.declared)) t) [
    | inl e ↦ inl (e ∙ ap (λ x. opening_target (target_of plan x)) (let p : 0 + t ≡ t = omega arith in p))
    | inr e ↦ inr e
  ]

  empty_by : (x : Option TargetInfo) → (opening_target x).sent ≡ []
  empty_by None = refl
  empty_by (Some i) = refl

  empty_opens : (t : ℕ) → (the_target (opening_targets plan) t).sent ≡ []
  empty_opens t = elim (target_opens t) [
    | inl e ↦ ap (λ (x : Target). x.sent) e ∙ empty_by (target_of plan t)
    | inr e ↦ ap (λ (x : Target). x.sent) e
  ]

  depth_by : (x : Option TargetInfo) → is_some x ≡ false → (opening_target x).depth ≡ 0
  depth_by None h = refl
  depth_by (Some i) h = absurd (let z : ⊥ = cc in z)

  fair_opens : AllFair plan (opening_targets plan)
  fair_opens t = record {
    depth = λ off. elim (target_opens t) [
      | inl e ↦ ap (λ (x : Target). x.depth) e ∙ depth_by (target_of plan t) off
      | inr e ↦ ap (λ (x : Target). x.depth) e
    ];
    sent = rw (empty_opens t) refl;
  }

  none_opens : (t r : ℕ) → 1 ≤ sends (opening_targets plan) t r → ⊥
  none_opens t r h = let none : sends (opening_targets plan) t r ≡ 0 = ap (λ xs. count_by (λ s. s.request.0 == r) xs) (empty_opens t) in let z : ⊥ = omega arith in z

no_request_opens : {A : Type 0} (plan : Plan) (m : Meaning A) → IsResolved plan → (x : ℕ) → is_request (opening plan m).tree x ≡ true → ⊥
unfolding state_after
no_request_opens {A} plan m resolved x h =
    let k : Placed (state_after plan m []) = (known_now plan m resolved [] (run_opens (ready plan m))).placed in
    let came = k.kinds x h in
    let z : ⊥ = cc in
    z

goes_well_opens : {A : Type 0} (plan : Plan) (m : Meaning A) → IsResolved plan → GoesWell plan (opening plan m)
goes_well_opens plan m resolved = record {
  ends = record {
    owner = λ x h. absurd (no_request_opens plan m resolved x h);
    older = λ x h. absurd (no_request_opens plan m resolved x h);
    ended = λ x h off above. absurd (no_request_opens plan m resolved x h);
  };
  fair = fair_opens plan;
  sent = record { targets = λ t r h. absurd (none_opens plan t r h); lives = λ t r h. absurd (none_opens plan t r h) };
}

-- ---- each place of a run

deeds_go_well : {A : Type 0} (plan : Plan) (ds : List Deed) (S : State A) → all_fit plan ds S ≡ true → AllSound plan ds S → AllComes plan ds S → Placed S → GoesWell plan S → GoesWell plan (do_deeds plan ds S)
deeds_go_well plan [] S f s c p k = k
deeds_go_well {A} plan (d ∷ ds) S f s c p k =
    let U : State A = do_deed plan d S in
    let fit : fits plan d S ≡ true = both_left (fits plan d S) (all_fit plan ds U) f in
    deeds_go_well plan ds U (both_right (fits plan d S) (all_fit plan ds U) f) s.1 c.1 (placed_then plan d S fit p)
    (record { ends = ends_by plan d S fit s.0 c.0 p k.ends; fair = fair_by plan d S k.fair; sent = sent_by plan d S fit c.0 p k.fair k.sent })

goes_well_at_each : {A : Type 0} (plan : Plan) (m : Meaning A) (run : List Event) → IsResolved plan → IsRunOf plan m run → (n : ℕ) → GoesWell plan (state_after plan m (take n run))
goes_well_at_each {A} plan m run resolved is_run n = each_place_by plan m (λ (S : State A). KnownToo plan S) (λ (S : State A). GoesWell plan S) (known_too plan m resolved) (goes_well_opens plan m resolved)
    (λ S e k h q.
    let u = deeds_go_well plan (deeds plan S e) S (event_fits plan m S e h) (all_sound plan m S e k.known.facts.known h) (event_comes plan S resolved k.known.facts k.stands m e h) k.known.placed q in
    record {
      ends = record { owner = u.ends.owner; older = u.ends.older; ended = u.ends.ended };
      fair = u.fair;
      sent = record { targets = u.sent.targets; lives = u.sent.lives };
    })
    (λ S time q. record {
      ends = record { owner = q.ends.owner; older = q.ends.older; ended = q.ends.ended };
      fair = q.fair;
      sent = record { targets = q.sent.targets; lives = q.sent.lives };
    })
    run is_run n

pub goes_well : {A : Type 0} (plan : Plan) (m : Meaning A) (run : List Event) → IsResolved plan → IsRunOf plan m run → GoesWell plan (state_after plan m run)
goes_well {A} plan m run resolved is_run = at_the_end plan m (λ (S : State A). GoesWell plan S) run (goes_well_at_each plan m run resolved is_run (length run))
