-- What each event of a run asks for may go: a device that is removed, what the driver may delete, a request that is completed.
use Rattle.std.proofs.Common.{if◌then◌else◌, ◌≡◌, ℕ, ◌≢◌, suc, ◌+◌, ◌<◌, ◌≤◌, Bool, true, false, not, ◌&&◌, ◌||◌, List, [], ◌∷◌, ◌++◌, inl, inr, Option, Some, None, is_some, drop, length, option_and_then, slice_get, unwrap_or, refl, sym, ap, subst, ◌∙◌, arith}
use Rattle.std.specs.List.{list_all, list_any}
use Rattle.std.proofs.lemmas.Bool.{cases_Bool, eqb-true, or_cases}
use Rattle.wdf_base.specs.Meaning.{Meaning}
use Rattle.wdf_base.specs.Plan.{declared_of}
use Rattle.wdf_base.specs.Kinds.{declared_kind}
use Rattle.wdf_base.specs.Resolved.{IsResolved, objects_in_order}
use Rattle.wdf_base.specs.Callbacks.{row_of}
use Rattle.wdf_base.specs.Same.{same_handle, same_kind, same_option, same_post, same_step}
use Rattle.wdf_base.specs.declared.plan.Plan.{Plan}
use Rattle.wdf_base.specs.declared.ids.Handle.{Handle}
use Rattle.wdf_base.specs.declared.value.Value.{Value}
use Rattle.wdf_base.specs.declared.value.Value.TheVariants.{Obj}
use Rattle.wdf_base.specs.declared.signature.Sort.TheVariants as sort
use Rattle.wdf_base.specs.declared.declared.Declared.{Declared}
use Rattle.wdf_base.specs.declared.declared.Declared.TheVariants as declared
use Rattle.wdf_base.specs.declared.declared.InterruptInfo.{InterruptInfo}
use Rattle.wdf_base.specs.declared.declared.TargetInfo.{TargetInfo}
use Rattle.wdf_base.specs.declared.object.Kind.{Kind}
use Rattle.wdf_base.specs.declared.object.Kind.TheVariants as kind
use Rattle.wdf_base.specs.declared.object.LockRef.{LockRef}
use Rattle.wdf_base.specs.declared.object.Place.{Place}
use Rattle.wdf_base.specs.declared.object.Place.TheVariants as place
use Rattle.wdf_base.specs.declared.call.Arg.{Arg}
use Rattle.wdf_base.specs.declared.call.Arg.TheVariants.{Val}
use Rattle.wdf_base.specs.declared.call.Call.{Call}
use Rattle.wdf_base.specs.declared.call.CallKind.{CallKind}
use Rattle.wdf_base.specs.declared.call.CallKind.TheVariants as call
use Rattle.wdf_base.specs.declared.call.Callback.{Callback}
use Rattle.wdf_base.specs.declared.call.Callback.TheVariants as callback
use Rattle.wdf_base.specs.declared.rank.Rank.{Rank}
use Rattle.wdf_base.specs.declared.rank.Rank.TheVariants as rank
use Rattle.wdf_base.specs.declared.event.Event.{Event}
use Rattle.wdf_base.specs.declared.event.Event.TheVariants as event
use Rattle.wdf_base.specs.declared.event.Fault.TheVariants as fault
use Rattle.wdf_base.specs.declared.event.Post.{Post}
use Rattle.wdf_base.specs.declared.event.Post.TheVariants as post
use Rattle.wdf_base.specs.declared.object.RequestForm.{RequestForm}
use Rattle.wdf_base.specs.declared.object.RequestForm.TheVariants as form
use Rattle.wdf_base.specs.declared.event.Stage.{Stage}
use Rattle.wdf_base.specs.declared.event.Stage.TheVariants as stage
use Rattle.wdf_base.specs.declared.event.Step.{Step}
use Rattle.wdf_base.specs.declared.event.Step.TheVariants as step
use Rattle.wdf_base.specs.declared.frame.Frame.{Frame}
use Rattle.wdf_base.specs.Lives.{is_cleaned, is_gone, is_live}
use Rattle.wdf_base.specs.Places.{is_closing, is_done, is_owned}
use Rattle.wdf_model.specs.Tables.{contains}
use Rattle.wdf_model.specs.Plans.{as_device, as_interrupt, declares, device_of, interrupt_of, is_target_of, target_of}
use Rattle.wdf_model.specs.parts.Tree.{declared_parent, gone, kind_of, life_of, nearest_device, parent_of, subtree}
use Rattle.wdf_model.specs.parts.Cpus.{frame_of, top}
use Rattle.wdf_model.specs.parts.Locks.{lock_of_callback}
use Rattle.wdf_model.specs.parts.Interrupts.{is_enabled}
use Rattle.wdf_model.specs.parts.Deferred.Dpcs.{is_dpc_queued}
use Rattle.wdf_model.specs.parts.Requests.{no_request, place_of, request_of}
use Rattle.wdf_model.specs.parts.Pnp.{Sequence, is_running_step, next_step, no_sequence, running_step, sequence_of, steps_left, taken_step}
use Rattle.wdf_model.specs.parts.Pnp as pnp
use Rattle.wdf_model.specs.State.{State, declared_in, is_proper, nothing_at, object_in}
use Rattle.wdf_model.specs.Ids.{cpu_of, frame_id, object_id}
use Rattle.wdf_model.specs.declared.deed.Deed.{Deed}
use Rattle.wdf_model.specs.declared.deed.Deed.TheVariants.{AdvancePower, Arrive, CountArrival, EnqueueDpc, GoOn, PopFrame, TakeStep}
use Rattle.wdf_model.specs.rules.Deeds.{do_deeds}
use Rattle.wdf_model.specs.rules.Faults.{View, is_never_deleted, is_stale, is_wrong_kind}
use Rattle.wdf_model.specs.rules.Posts.{arrival_deeds, arrival_info, arrival_place, due_of, may_arrive, post_answer, post_deeds, post_fits}
use Rattle.wdf_model.specs.rules.Calls.{number, outcome, second_deeds}
use Rattle.wdf_model.specs.rules.Starts.{end_of_step, is_drained, is_unfinished_at, may_pass, release_if_any, stage_deeds, stage_ready, step_ready, targets_at}
use Rattle.wdf_model.specs.rules.Steps.{answered, by_top, deeds, did_deeds, may, view_of, waiting, waiting_deeds}
use Rattle.law_machine_base.specs.Agreement.{is_sequence}
use Rattle.law_machine_base.specs.OverRuns.{is_declared_kind}
use Rattle.law_machine_base.specs.Fits.{is_given}
use Rattle.wdf_model.proofs.Tests.{both, both_left, both_right, either_false, first, itself, not_true, second}
use Rattle.wdf_model.proofs.Maps.{entry_put_same}
use Rattle.wdf_model.proofs.Counts.{one_or_two}
use Rattle.law_machine_base.proofs.Fits.{first_kind, wrong_kind_of_first}
use Rattle.law_machine_base.proofs.FitsOfCalls.{Clean, outcome_fits}
use Rattle.law_machine_base.proofs.FitsOfEvents.{by_its_top, event_fits}
use Rattle.law_machine_base.proofs.OwnEvents.{IsEnd, did_tells, end_tells, waiting_tells}
use Rattle.wdf_model.proofs.Sames.{kind_decides}
use Rattle.law_machine_counts.proofs.StillFrames.{live_there}
use Rattle.wdf_model.specs.rules.Groups.{declared_end}
use Rattle.law_machine_lives.proofs.LevelEvents.{stale_first}
use Rattle.law_machine_lives.proofs.LivesOver.{Lives}
use Rattle.law_machine_lives.proofs.Lists.{all_of_kept, inside}
use Rattle.law_machine_lives.proofs.Queued.{any_entry}
use Rattle.law_machine_lives.proofs.SoundEvents.{top_on}
use Rattle.law_machine_lives.proofs.SoundRuns.{KnownAll}
use Rattle.law_trace_families.proofs.Families.{declared_within}
use Rattle.law_trace_power.proofs.Frames.{Runs, StepFrames, is_step}
use Rattle.law_trace_power.proofs.Belonging.{device_of_target, interrupt_found, target_found}
use Rattle.law_trace_power.proofs.Happens.{found_pass, not_running}
use Rattle.law_stuck_named.specs.Standing.{IsOver, is_live_device, is_part, is_part_of}
use Rattle.law_machine_lives.proofs.Subtrees.{first_out, parent_in}
use Rattle.law_stuck_named.proofs.Lasting.{Lasts, last_step}
use Rattle.law_stuck_named.proofs.Standing.{AllComes, Removable, Stands, defers, ready_in}
use Rattle.law_stuck_named.proofs.Plains.{comes_after, event_plain, outcome_plain, plain_comes, second_plain}
use Rattle.law_machine_base.proofs.KeptByDeeds.{owned_undone}
use Rattle.wdf_model.proofs.FrameCounts.{on}

-- ---- what is known of a state of a run

pub record Facts {A : Type 0} (plan : Plan) (S : State A) : Type 0 where
  pub known : KnownAll plan S
  pub frames : StepFrames S.cpus S.pnp
  pub lives : Lives S.tree
  pub declared : (o : ℕ) (d : Declared) → declared_of plan o ≡ Some d → is_gone (life_of S.tree o) ≡ false → (parent_of S.tree o ≡ declared_parent d) × (kind_of S.tree o ≡ unwrap_or (declared_kind d) kind.General)
  pub room : declared_end plan ≤ length S.tree.nodes

-- the driver object is the first that is declared
driver_first : (ds : List Declared) → objects_in_order ds ≡ true → slice_get ds 0 ≡ Some declared.Driver
driver_first [] h = absurd (let z : ⊥ = cc in z)
driver_first (declared.Driver ∷ ds) h = refl
driver_first (declared.Device x ∷ ds) h = absurd (let z : ⊥ = cc in z)
driver_first (declared.Queue x ∷ ds) h = absurd (let z : ⊥ = cc in z)
driver_first (declared.Interrupt x ∷ ds) h = absurd (let z : ⊥ = cc in z)
driver_first (declared.Target x ∷ ds) h = absurd (let z : ⊥ = cc in z)
driver_first (declared.OfClass x ∷ ds) h = absurd (let z : ⊥ = cc in z)

driver_is : (plan : Plan) → IsResolved plan → declared_of plan 1 ≡ Some declared.Driver
driver_is plan resolved = driver_first plan.declared resolved.in_order

some_declared : (ds : List Declared) → slice_get ds 0 ≡ Some declared.Driver → 1 ≤ length ds
some_declared [] h = absurd (let z : ⊥ = cc in z)
some_declared (d ∷ ds) h = omega arith

-- a queue, an interrupt or a target of a device
record IsPart (plan : Plan) (d x : ℕ) : Type 0 where
  info : Declared
  is : declared_of plan x ≡ Some info
  parent : declared_parent info ≡ d
  kept : is_never_deleted (unwrap_or (declared_kind info) kind.General) ≡ true
  other : is_some (as_device (Some info)) ≡ false

part_by : (plan : Plan) (d x : ℕ) (o : Option Declared) → declared_of plan x ≡ o → is_part d o ≡ true → IsPart plan d x
part_by plan d x (Some (declared.Queue q)) e h = record { info = declared.Queue q; is = e; parent = eqb-true q.device.0 d h; kept = refl; other = refl }
part_by plan d x (Some (declared.Interrupt i)) e h = record { info = declared.Interrupt i; is = e; parent = eqb-true i.device.0 d h; kept = refl; other = refl }
part_by plan d x (Some (declared.Target t)) e h = record { info = declared.Target t; is = e; parent = eqb-true t.device.0 d h; kept = refl; other = refl }
part_by plan d x _ e h = absurd (let z : ⊥ = cc in z)

part_is : (plan : Plan) (d x : ℕ) → is_part_of plan d x ≡ true → IsPart plan d x
part_is plan d x h = part_by plan d x (declared_of plan x) refl (both_left (is_part d (declared_of plan x)) (is_some (device_of plan d)) h)

-- a device
record IsDevice (plan : Plan) (d : ℕ) : Type 0 where
  info : Declared
  is : declared_of plan d ≡ Some info
  parent : declared_parent info ≡ 1
  kept : is_never_deleted (unwrap_or (declared_kind info) kind.General) ≡ true
  kind : same_kind (unwrap_or (declared_kind info) kind.General) kind.Request ≡ false

device_by : (plan : Plan) (d : ℕ) (o : Option Declared) → declared_of plan d ≡ o → is_some (device_of plan d) ≡ true → IsDevice plan d
device_by plan d (Some (declared.Device y)) e h = record { info = declared.Device y; is = e; parent = refl; kept = refl; kind = refl }
device_by plan d _ e h = absurd (let off : is_some (device_of plan d) ≡ false = rw e refl in let z : ⊥ = cc in z)

device_is : (plan : Plan) (d : ℕ) → is_some (device_of plan d) ≡ true → IsDevice plan d
device_is plan d h = device_by plan d (declared_of plan d) refl h

-- ---- what may be deleted

module _ {A : Type 0} (plan : Plan) (S : State A) (resolved : IsResolved plan) (facts : Facts plan S) (k : Stands plan S) where
  live_within : (x : ℕ) → is_live (life_of S.tree x) ≡ true → x < length S.tree.nodes
  live_within x h = inside gone (λ n. is_live n.life) S.tree.nodes x refl h

  -- above a live object of a subtree is another of it
  parent_there : (o x : ℕ) → is_live (life_of S.tree x) ≡ true → contains x (subtree S.tree o) ≡ true → x ≢ o → contains (parent_of S.tree x) (subtree S.tree o) ≡ true
  parent_there o x live in_ n = parent_in S.tree o x (live_within x live) (facts.lives.older x live) in_ n

  -- with a queue, an interrupt or a target goes its device
  parts_go : (o : ℕ) → ((d : ℕ) → is_part_of plan d o ≡ true → is_live (life_of S.tree o) ≡ true → ⊥) → (d x : ℕ) → is_part_of plan d x ≡ true → is_live (life_of S.tree x) ≡ true → contains x (subtree S.tree o) ≡ true
      → contains d (subtree S.tree o) ≡ true
  parts_go o no_part d x is live in_ =
      let p = part_is plan d x is in
      let up : parent_of S.tree x ≡ d = (facts.declared x p.info p.is (live_there (life_of S.tree x) live)).0 ∙ p.parent in
      let n : x ≢ o = λ e. no_part d (subst (λ y. is_part_of plan d y ≡ true) e is) (subst (λ y. is_live (life_of S.tree y) ≡ true) e live) in
      subst (λ y. contains y (subtree S.tree o) ≡ true) up (parent_there o x live in_ n)

  -- a device is below no object but the driver's
  device_alone : (o d : ℕ) → o ≢ 0 → o ≢ 1 → is_live_device plan S d ≡ true → contains d (subtree S.tree o) ≡ true → d ≡ o
  device_alone o d no_zero no_one live_ in_ =
      let is : is_some (device_of plan d) ≡ true = both_left (is_some (device_of plan d)) (is_live (life_of S.tree d)) live_ in
      let live : is_live (life_of S.tree d) ≡ true = both_right (is_some (device_of plan d)) (is_live (life_of S.tree d)) live_ in
      let p = device_is plan d is in
      let up : parent_of S.tree d ≡ 1 = (facts.declared d p.info p.is (live_there (life_of S.tree d) live)).0 ∙ p.parent in
      elim (one_or_two d o) as (λ _. d ≡ o) [
        | inl e ↦ e
        | inr n ↦ absurd (
            let one : contains 1 (subtree S.tree o) ≡ true = subst (λ y. contains y (subtree S.tree o) ≡ true) up (parent_there o d live in_ n) in
            let driver : is_live (life_of S.tree 1) ≡ true = subst (λ y. is_live (life_of S.tree y) ≡ true) up (facts.lives.above d live (λ e. let z : ⊥ = omega arith in z)) in
            let low : parent_of S.tree 1 < 1 = facts.lives.older 1 driver in
            let zero_ : parent_of S.tree 1 ≡ 0 = omega arith in
            let first_ : contains 0 (subtree S.tree o) ≡ true = subst (λ y. contains y (subtree S.tree o) ≡ true) zero_ (parent_there o 1 driver one (λ e. no_one (sym e))) in
            first_out S.tree o k.root.parent no_zero first_)
      ]

  abbrev PartsGo : ℕ → Type 0
  PartsGo o = (d x : ℕ) → is_part_of plan d x ≡ true → is_live (life_of S.tree x) ≡ true → contains x (subtree S.tree o) ≡ true → contains d (subtree S.tree o) ≡ true

  -- nothing is at a target that goes, where nothing is at those of a device that goes
  targets_go : (o : ℕ) → PartsGo o → ((d t : ℕ) → is_live_device plan S d ≡ true → contains d (subtree S.tree o) ≡ true → is_target_of d (target_of plan t) ≡ true → nothing_at S t ≡ true)
      → (t : ℕ) (x : Option TargetInfo) → target_of plan t ≡ x → is_some x ≡ true → is_live (life_of S.tree t) ≡ true → contains t (subtree S.tree o) ≡ true → nothing_at S t ≡ true
  targets_go o parts none t None e is live in_ = absurd (let z : ⊥ = cc in z)
  targets_go o parts none t (Some i) e is live in_ =
      let d : ℕ = i.device.0 in
      let at : declared_of plan t ≡ Some (declared.Target i) = target_found (declared_of plan t) i e in
      let dev : is_some (device_of plan d) ≡ true = device_of_target plan resolved t i e in
      let part : is_part_of plan d t ≡ true = both (is_part d (declared_of plan t)) (is_some (device_of plan d)) (ap (is_part d) at ∙ itself d) dev in
      let up : parent_of S.tree t ≡ d = (facts.declared t (declared.Target i) at (live_there (life_of S.tree t) live)).0 in
      let some : parent_of S.tree t ≢ 0 = λ z. (let none_ : is_some (device_of plan 0) ≡ true = subst (λ y. is_some (device_of plan y) ≡ true) (sym up ∙ z) dev in let y : ⊥ = cc in y) in
      let above : is_live (life_of S.tree d) ≡ true = subst (λ y. is_live (life_of S.tree y) ≡ true) up (facts.lives.above t live some) in
      none d t (both (is_some (device_of plan d)) (is_live (life_of S.tree d)) dev above) (parts d t part live in_) (ap (is_target_of d) e ∙ itself d)

  -- an object that is no declared one
  removes_made : (o : ℕ) → o ≢ 0 → o ≢ 1 → ((d : ℕ) → is_part_of plan d o ≡ true → is_live (life_of S.tree o) ≡ true → ⊥) → (is_live_device plan S o ≡ true → ⊥) → Removable plan S o
  removes_made o no_zero no_one no_part no_device = record {
    parts = parts_go o no_part;
    devices = λ d live in_. absurd (no_device (subst (λ y. is_live_device plan S y ≡ true) (device_alone o d no_zero no_one live in_) live));
    targets = λ t is live in_.
        targets_go o (parts_go o no_part) (λ d u on in_. absurd (no_device (subst (λ y. is_live_device plan S y ≡ true) (device_alone o d no_zero no_one on in_) on))) t (target_of plan t) refl is live in_;
  }

  -- what the driver may delete
  removes_deletable : (o : ℕ) → is_gone (life_of S.tree o) ≡ false → is_never_deleted (kind_of S.tree o) ≡ false → Removable plan S o
  removes_deletable o there free =
      removes_made o
      (λ e. let off : is_gone (life_of S.tree o) ≡ true = ap (λ y. is_gone (life_of S.tree y)) e ∙ k.root.gone in let z : ⊥ = cc in z)
      (λ e. let d : declared_of plan o ≡ Some declared.Driver = ap (declared_of plan) e ∙ driver_is plan resolved in kept_ declared.Driver d refl)
      (λ d is live. let p = part_is plan d o is in kept_ p.info p.is p.kept)
      (λ live. let p = device_is plan o (both_left (is_some (device_of plan o)) (is_live (life_of S.tree o)) live) in kept_ p.info p.is p.kept)
    where
      kept_ : (d : Declared) → declared_of plan o ≡ Some d → is_never_deleted (unwrap_or (declared_kind d) kind.General) ≡ true → ⊥
      kept_ d e h =
          let same : kind_of S.tree o ≡ unwrap_or (declared_kind d) kind.General = (facts.declared o d e there).1 in
          let yes : is_never_deleted (kind_of S.tree o) ≡ true = ap is_never_deleted same ∙ h in
          let z : ⊥ = cc in z

  past_declared : (o : ℕ) (d : Declared) → declared_end plan ≤ o → declared_of plan o ≡ Some d → ⊥
  past_declared o d low e = let w = declared_within plan o d e in let z : ⊥ = omega arith in z

  -- a request that isn't done
  removes_request : (r : ℕ) → is_done (place_of S.requests r) ≡ false → Removable plan S r
  removes_request r undone =
      let low : declared_end plan ≤ r = (k.opened r).0 undone in
      let some : 1 ≤ length plan.declared = some_declared plan.declared (driver_is plan resolved) in
      removes_made r (λ e. let z : ⊥ = omega arith in z) (λ e. let z : ⊥ = omega arith in z)
      (λ d is live. let p = part_is plan d r is in past_declared r p.info low p.is)
      (λ live. let p = device_is plan r (both_left (is_some (device_of plan r)) (is_live (life_of S.tree r)) live) in past_declared r p.info low p.is)

  closing_undone : (p : Place) → is_closing p ≡ true → is_done p ≡ false
  closing_undone place.Done h = absurd (let z : ⊥ = cc in z)
  closing_undone _ h = refl

  completed_undone : (r : ℕ) → (is_closing (place_of S.requests r) || is_given S r) ≡ true → is_done (place_of S.requests r) ≡ false
  completed_undone r h = elim (or_cases (is_closing (place_of S.requests r)) (is_given S r) h) [
    | inl e ↦ closing_undone (place_of S.requests r) e
    | inr e ↦ owned_undone (place_of S.requests r) (both_left (is_owned (place_of S.requests r)) (same_kind (kind_of S.tree r) kind.Request) e)
  ]

  -- ---- a device is removed

  device_at : (d : ℕ) (s : Step) (ss : List Step) → steps_left S.pnp d ≡ s ∷ ss → is_live_device plan S d ≡ true
  device_at d s ss next = elim (cases_Bool (is_live_device plan S d)) [
    | inl e ↦ e
    | inr off ↦ absurd (let none : steps_left S.pnp d ≡ [] = (k.over d off).left in let z : ⊥ = cc in z)
  ]

  finished : (d r : ℕ) → is_drained plan S d ≡ true → is_unfinished_at d (request_of S.requests r) ≡ false
  finished d r h = elim (cases_Bool (is_unfinished_at d (request_of S.requests r))) [
    | inr e ↦ e
    | inl e ↦ absurd (
        let off : list_any (is_unfinished_at d) S.requests.all ≡ false = not_true (list_any (is_unfinished_at d) S.requests.all) (both_left (not (list_any (is_unfinished_at d) S.requests.all)) (list_all (nothing_at S) (targets_at plan d)) h) in
        let on_ : list_any (is_unfinished_at d) S.requests.all ≡ true = any_entry no_request (is_unfinished_at d) S.requests.all r refl e in
        let z : ⊥ = cc in z)
  ]

  -- nothing is at the targets of a device that is removed
  empty_at : (d t : ℕ) → is_drained plan S d ≡ true → is_target_of d (target_of plan t) ≡ true → nothing_at S t ≡ true
  empty_at d t h is =
      let all : list_all (nothing_at S) (targets_at plan d) ≡ true = both_right (not (list_any (is_unfinished_at d) S.requests.all)) (list_all (nothing_at S) (targets_at plan d)) h in
      all_of_kept (nothing_at S) (λ x. is_target_of d (target_of plan x)) t 0 (suc (length plan.declared)) (omega arith) (target_low (target_of plan t) refl is) all is
    where
      target_low : (x : Option TargetInfo) → target_of plan t ≡ x → is_target_of d x ≡ true → t < 0 + suc (length plan.declared)
      target_low None e k = absurd (let z : ⊥ = cc in z)
      target_low (Some i) e k = let w = declared_within plan t (declared.Target i) (target_found (declared_of plan t) i e) in omega arith

  removed_over : (q : Sequence) (i : Option Handle) → q.left ≡ step.Pass stage.Removed i ∷ [] → q.running ≡ None → IsOver (taken_step q)
  removed_over q i e idle = rw e (record { phase = refl; left = refl; running = idle })

  next_removed : (d : ℕ) (i : Option Handle) → may_pass plan S d stage.Removed i ≡ true → steps_left S.pnp d ≡ step.Pass stage.Removed i ∷ drop 1 (steps_left S.pnp d)
  next_removed d i may_come =
      let ready : step_ready S d (step.Pass stage.Removed i) ≡ true = both_left (step_ready S d (step.Pass stage.Removed i)) (stage_ready plan S d stage.Removed i) may_come in
      let now : (same_option same_step (next_step S.pnp d) (Some (step.Pass stage.Removed i)) && not (is_running_step S.pnp d)) ≡ true = both_left (same_option same_step (next_step S.pnp d) (Some (step.Pass stage.Removed i)) && not (is_running_step S.pnp d)) _ ready in
      found_pass (steps_left S.pnp d) stage.Removed i (both_left _ (not (is_running_step S.pnp d)) now)

  removes_device : (d : ℕ) (i : Option Handle) → may_pass plan S d stage.Removed i ≡ true → Removable plan (do_deeds plan (TakeStep (object_id d) ∷ AdvancePower (object_id d) (step.Pass stage.Removed i) ∷ []) S) d
  removes_device d i may_come =
      let ready : step_ready S d (step.Pass stage.Removed i) ≡ true = both_left (step_ready S d (step.Pass stage.Removed i)) (stage_ready plan S d stage.Removed i) may_come in
      let drained : is_drained plan S d ≡ true = both_right (step_ready S d (step.Pass stage.Removed i)) (stage_ready plan S d stage.Removed i) may_come in
      let now : (same_option same_step (next_step S.pnp d) (Some (step.Pass stage.Removed i)) && not (is_running_step S.pnp d)) ≡ true = both_left (same_option same_step (next_step S.pnp d) (Some (step.Pass stage.Removed i)) && not (is_running_step S.pnp d)) _ ready in
      let next : steps_left S.pnp d ≡ step.Pass stage.Removed i ∷ drop 1 (steps_left S.pnp d) = next_removed d i may_come in
      let idle : running_step S.pnp d ≡ None = not_running (running_step S.pnp d) (not_true (is_running_step S.pnp d) (both_right (same_option same_step (next_step S.pnp d) (Some (step.Pass stage.Removed i))) (not (is_running_step S.pnp d)) now)) in
      let none : drop 1 (steps_left S.pnp d) ≡ [] = last_step i (drop 1 (steps_left S.pnp d)) (subst Lasts next (k.lasts d)) in
      let only : steps_left S.pnp d ≡ step.Pass stage.Removed i ∷ [] = next ∙ ap (λ ss. step.Pass stage.Removed i ∷ ss) none in
      let over : IsOver (sequence_of (pnp.taken S.pnp d) d) = subst IsOver (sym (entry_put_same no_sequence S.pnp.devices d (taken_step (sequence_of S.pnp d)))) (removed_over (sequence_of S.pnp d) i only idle) in
      let dev : is_live_device plan S d ≡ true = device_at d (step.Pass stage.Removed i) [] only in
      let p = device_is plan d (both_left (is_some (device_of plan d)) (is_live (life_of S.tree d)) dev) in
      let no_zero : d ≢ 0 = λ e. (let none_ : declared_of plan 0 ≡ Some p.info = ap (declared_of plan) (sym e) ∙ p.is in let z : ⊥ = cc in z) in
      let no_one : d ≢ 1 = λ e. one_no p.info (sym (driver_is plan resolved) ∙ ap (declared_of plan) (sym e) ∙ p.is) p.parent in
      record {
        parts = parts_go d (λ n is live. part_no (part_is plan n d is) (both_left (is_some (device_of plan d)) (is_live (life_of S.tree d)) dev));
        devices = λ n live in_. (let e : n ≡ d = device_alone d n no_zero no_one live in_ in (subst (λ y. IsOver (sequence_of (pnp.taken S.pnp d) y)) (sym e) over, λ r. ap (λ y. is_unfinished_at y (request_of S.requests r)) e ∙ finished d r drained));
        targets = λ t is live in_.
            targets_go d (parts_go d (λ n is live. part_no (part_is plan n d is) (both_left (is_some (device_of plan d)) (is_live (life_of S.tree d)) dev)))
            (λ n u on in_ of_it. empty_at d u drained (subst (λ y. is_target_of y (target_of plan u) ≡ true) (device_alone d n no_zero no_one on in_) of_it)) t (target_of plan t) refl is live in_;
      }
    where
      one_no : (x : Declared) → Some declared.Driver ≡ Some x → declared_parent x ≡ 1 → ⊥
      one_no x e h = let same : declared.Driver ≡ x = cc in let z : declared_parent declared.Driver ≡ 1 = ap declared_parent same ∙ h in let y : ⊥ = omega arith in y

      part_no : {n : ℕ} → IsPart plan n d → is_some (device_of plan d) ≡ true → ⊥
      part_no a h = let off : is_some (device_of plan d) ≡ false = ap (λ o. is_some (as_device o)) a.is ∙ a.other in let z : ⊥ = cc in z

  deleted_no_request : (k : Kind) → is_never_deleted k ≡ false → same_kind k kind.Request ≡ false
  deleted_no_request kind.Request h = absurd (let z : ⊥ = cc in z)
  deleted_no_request _ h = refl

  -- what is removed is a device
  removed_no_request : (d : ℕ) (i : Option Handle) → may_pass plan S d stage.Removed i ≡ true → same_kind (kind_of S.tree d) kind.Request ≡ false
  removed_no_request d i may_come =
      let next = next_removed d i may_come in
      let dev : is_live_device plan S d ≡ true = device_at d (step.Pass stage.Removed i) (drop 1 (steps_left S.pnp d)) next in
      let p = device_is plan d (both_left (is_some (device_of plan d)) (is_live (life_of S.tree d)) dev) in
      ap (λ k. same_kind k kind.Request) (facts.declared d p.info p.is (live_there (life_of S.tree d) (both_right (is_some (device_of plan d)) (is_live (life_of S.tree d)) dev))).1 ∙ p.kind

  -- ---- calls

  any_there : (v : View) (a : Arg) → is_stale v false sort.AnyObject a ≡ false → is_wrong_kind v sort.AnyObject a ≡ false → is_gone (v.life (object_in a)) ≡ false
  any_there v (Val (Obj h)) s w = (either_false (is_gone (v.life h.id.0)) (is_cleaned (v.life h.id.0) && true) s).0
  any_there v _ s w = absurd (let z : ⊥ = cc in z)

  -- an interrupt is no DPC object
  no_dpc : (o : ℕ) (x : Option InterruptInfo) → interrupt_of plan o ≡ x → is_live (life_of S.tree o) ≡ true → same_kind (kind_of S.tree o) kind.Dpc ≡ true → is_some x ≡ true → ⊥
  no_dpc o None e live is h = let z : ⊥ = cc in z
  no_dpc o (Some i) e live is h =
      let d : declared_of plan o ≡ Some (declared.Interrupt i) = interrupt_found (declared_of plan o) i e in
      let k_ : kind_of S.tree o ≡ kind.Interrupt = (facts.declared o (declared.Interrupt i) d (live_there (life_of S.tree o) live)).1 in
      let off : same_kind (kind_of S.tree o) kind.Dpc ≡ false = ap (λ y. same_kind y kind.Dpc) k_ in
      let z : ⊥ = cc in z

  is_interrupt : (o : ℕ) → same_kind (kind_of S.tree o) kind.Interrupt ≡ true → is_some (interrupt_of plan o) ≡ true
  is_interrupt o h =
      let e : kind_of S.tree o ≡ kind.Interrupt = (kind_decides (kind_of S.tree o) kind.Interrupt).0 h in
      by (declared_of plan o) (facts.known.known.declared.declared o (ap is_declared_kind e) ∙ ap Some e)
    where
      by : (x : Option Declared) → option_and_then declared_kind x ≡ Some kind.Interrupt → is_some (as_interrupt x) ≡ true
      by (Some (declared.Interrupt i)) h = refl
      by _ h = absurd (let z : ⊥ = cc in z)

  isr_comes : (cpu i : ℕ) (a b c : Bool) → is_enabled S.interrupts i ≡ a → declares plan callback.EvtInterruptDpc i ≡ b → is_some (interrupt_of plan i) ≡ true → AllComes plan (if a && b && c then number 1 (EnqueueDpc (cpu_of cpu) (object_id i) ∷ []) else number 0 []).deeds S
  isr_comes cpu i true true true e f is =
      ((second (ready_in kind.Dpc S.tree i) (defers plan i) (both (is_some (interrupt_of plan i)) (declares plan callback.EvtInterruptDpc i) is f), λ _. e), tt)
  isr_comes cpu i true true false e f is = tt
  isr_comes cpu i true false c e f is = tt
  isr_comes cpu i false b c e f is = tt

  dpc_comes : (cpu o : ℕ) (a b : Bool) → is_live (life_of S.tree o) ≡ a → same_kind (kind_of S.tree o) kind.Dpc ≡ true → AllComes plan (if a && b then number 1 (EnqueueDpc (cpu_of cpu) (object_id o) ∷ []) else number 0 []).deeds S
  dpc_comes cpu o true true e is =
      ((first (ready_in kind.Dpc S.tree o) (defers plan o) (both (is_live (life_of S.tree o)) (same_kind (kind_of S.tree o) kind.Dpc) e is), λ h. absurd (no_dpc o (interrupt_of plan o) refl e is h)), tt)
  dpc_comes cpu o true false e is = tt
  dpc_comes cpu o false b e is = tt

  abbrev made : CallKind → ℕ → Arg → Arg → Arg → Call
  made k n a b x = record { kind = k; count = n; a = a; b = b; c = x }

  outcome_comes : (cpu f : ℕ) (c : CallKind) (n : ℕ) (a b x : Arg) → Clean plan S cpu f (record { kind = c; count = n; a = a; b = b; c = x }) → AllComes plan (outcome plan S cpu f (record { kind = c; count = n; a = a; b = b; c = x })).deeds S
  outcome_comes cpu f call.WdfObjectDelete n a b x h =
      let v : View = view_of plan S cpu f in
      let c : Call = made call.WdfObjectDelete n a b x in
      ((removes_deletable (object_in a) (any_there v a (stale_first v c (h fault.StaleHandle)) (wrong_kind_of_first v c (h fault.WrongKind))) (h fault.DeleteNotAllowed), deleted_no_request (kind_of S.tree (object_in a)) (h fault.DeleteNotAllowed)), tt)
  outcome_comes cpu f call.WdfRequestComplete n a b x h =
      let fit : (is_closing (place_of S.requests (object_in a)) || is_given S (object_in a)) ≡ true = both_left (is_closing (place_of S.requests (object_in a)) || is_given S (object_in a)) true (outcome_fits plan S cpu f call.WdfRequestComplete n a b x h) in
      (removes_request (object_in a) (completed_undone (object_in a) fit), tt)
  outcome_comes cpu f call.WdfInterruptQueueDpcForIsr n a b x h =
      isr_comes cpu (object_in a) (is_enabled S.interrupts (object_in a)) (declares plan callback.EvtInterruptDpc (object_in a)) (not (is_dpc_queued S.dpcs (object_in a))) refl refl
      (is_interrupt (object_in a) (first_kind (view_of plan S cpu f) kind.Interrupt a (wrong_kind_of_first (view_of plan S cpu f) (made call.WdfInterruptQueueDpcForIsr n a b x) (h fault.WrongKind))))
  outcome_comes cpu f call.WdfDpcEnqueue n a b x h =
      dpc_comes cpu (object_in a) (is_live (life_of S.tree (object_in a))) (not (is_dpc_queued S.dpcs (object_in a))) refl
      (first_kind (view_of plan S cpu f) kind.Dpc a (wrong_kind_of_first (view_of plan S cpu f) (made call.WdfDpcEnqueue n a b x) (h fault.WrongKind)))
  outcome_comes cpu f c n a b x h = plain_comes plan (outcome plan S cpu f (made c n a b x)).deeds S (outcome_plain plan S cpu f (made c n a b x) refl)

  -- ---- events

  by_its_top_comes : (cpu f : ℕ) (what : ℕ → Frame → List Deed) → top S.cpus cpu ≡ Some f → AllComes plan (what f (frame_of S.cpus f)) S → AllComes plan (by_top S cpu what) S
  by_its_top_comes cpu f what t h = subst (λ ds. AllComes plan ds S) (sym (by_its_top S cpu f what t)) h

  -- the callback of a step that ends is the one that runs
  step_runs : (cpu : ℕ) (c : Callback) (o : Handle) (v : Value) → IsEnd plan S cpu c o v → is_sequence (row_of c).rank ≡ true → is_running_step S.pnp (nearest_device S.tree o.id.0) ≡ true
  step_runs cpu c o v t is =
      let n : ℕ = nearest_device S.tree o.id.0 in
      let g : ℕ = t.frame in
      let there : 1 ≤ on S.cpus g = top_on S.cpus cpu g t.about.top in
      let step_ : is_step (frame_of S.cpus g) ≡ true = ap (λ x. is_sequence (row_of x).rank) (sym t.callback) ∙ is in
      let at : (frame_of S.cpus g).device.id.0 ≡ n = facts.known.known.frames.device g there ∙ ap (λ (x : Handle). nearest_device S.tree x.id.0) (sym t.object) in
      let runs : Runs S.pnp (frame_of S.cpus g) = facts.frames.steps g there step_ in
      ap is_some (sym (ap (running_step S.pnp) at) ∙ runs.1)

  ending_comes : (cpu : ℕ) (c : Callback) (o : Handle) (v : Value) (x : Rank) (U : State A) → U.pnp ≡ S.pnp → (is_sequence x ≡ true → is_running_step S.pnp (nearest_device S.tree o.id.0) ≡ true) → AllComes plan (end_of_step plan S x c o.id.0 v) U
  ending_comes cpu c o v rank.Sequence U e h = (ap (λ Q. is_running_step Q (nearest_device S.tree o.id.0)) e ∙ h refl, tt)
  ending_comes cpu c o v _ U e h = tt

  ends_comes : (cpu : ℕ) (l : Option LockRef) (es : List Deed) → ((U : State A) → U.pnp ≡ S.pnp → AllComes plan es U) → AllComes plan (release_if_any l ++ PopFrame (cpu_of cpu) ∷ es) S
  ends_comes cpu None es h = (tt, h _ refl)
  ends_comes cpu (Some l) es h = (tt, (tt, h _ refl))

  effects_come : (d : ℕ) (s : Stage) (i : Option Handle) → may_pass plan S d s i ≡ true → AllComes plan (stage_deeds plan d s i) S
  effects_come d stage.Removed i h = (tt, (tt, ((removes_device d i h, removed_no_request d i h), tt)))
  effects_come d stage.Enabled i h = (tt, (tt, (tt, tt)))
  effects_come d stage.Disabled i h = (tt, (tt, (tt, tt)))
  effects_come d stage.QueuesDown i h = (tt, (tt, (tt, tt)))
  effects_come d stage.Closed i h = (tt, (tt, (tt, tt)))
  effects_come d _ i h = (tt, (tt, tt))

  device_handle : (o : Option Declared) → same_option same_kind (option_and_then declared_kind o) (Some kind.Device) ≡ true → is_some (as_device o) ≡ true
  device_handle (Some (declared.Device d)) h = refl
  device_handle _ h = absurd (let z : ⊥ = cc in z)

  arrival_comes : (agent : ℕ) (f : RequestForm) (length code : ℕ) (d : Handle) → may_arrive plan S d ≡ true → AllComes plan (arrival_deeds plan S agent f length code d.id.0) S
  arrival_comes agent f length code d h = by (is_live (life_of S.tree d.id.0))
    where
      device_ : is_some (device_of plan d.id.0) ≡ true
      device_ = device_handle (declared_of plan d.id.0) (search (both_left))

      by : (b : Bool) → AllComes plan (CountArrival agent ∷ (if b then Arrive d.id (arrival_info S agent f length code d.id.0) (arrival_place plan S f length d.id.0) ∷ [] else [])) S
      by true = (tt, (device_, tt))
      by false = (tt, tt)

  post_comes : (agent : ℕ) (p : Post) → post_fits plan S agent p ≡ true → AllComes plan (post_deeds plan S agent p) S
  post_comes agent (post.Read d length) h = arrival_comes agent form.Read length 0 d h
  post_comes agent (post.Write d length) h = arrival_comes agent form.Write length 0 d h
  post_comes agent (post.Control d code length) h = arrival_comes agent form.Control length code d h
  post_comes agent p h = plain_comes plan (post_deeds plan S agent p) S (event_plain plan S (event.Posted agent p None) refl)

  pub event_comes : (m : Meaning A) (e : Event) → may plan m S e ≡ true → AllComes plan (deeds plan S e) S
  event_comes m (event.Did c0 c v) h =
      let d = did_tells plan m S c0 c v h in
      let f : ℕ = d.frame in
      by_its_top_comes c0.0 f (did_deeds plan S c0.0 c v) d.about.top
      (comes_after plan ((outcome plan S c0.0 f c).deeds ++ second_deeds f c) (GoOn (frame_id f) (answered plan (frame_of S.cpus f) v) ∷ []) S
      (comes_after plan (outcome plan S c0.0 f c).deeds (second_deeds f c) S (outcome_comes c0.0 f c.kind c.count c.a c.b c.c d.about.clean) (plain_comes plan (second_deeds f c) _ (second_plain f c))) (tt, tt))
  event_comes m (event.Waiting c0 c) h =
      let d = waiting_tells plan m S c0 c h in
      let f : ℕ = d.frame in
      by_its_top_comes c0.0 f (waiting_deeds plan S c0.0 c) d.about.top
      (comes_after plan (outcome plan S c0.0 f c).deeds (GoOn (frame_id f) (waiting (frame_of S.cpus f) c (outcome plan S c0.0 f c).answer) ∷ []) S (outcome_comes c0.0 f c.kind c.count c.a c.b c.c d.about.clean) (tt, tt))
  event_comes m (event.End c0 c o v) h =
      let d = end_tells plan m S c0 c o v h in
      ends_comes c0.0 (lock_of_callback plan c o.id.0 (declared_in plan S o.id.0)) (end_of_step plan S (row_of c).rank c o.id.0 v) (λ U e. ending_comes c0.0 c o v (row_of c).rank U e (step_runs c0.0 c o v d))
  event_comes m (event.Stage d s i) h = effects_come d.id.0 s i (both_right (is_proper plan S d) (may_pass plan S d.id.0 s i) h)
  event_comes m (event.Complete r s) h =
      (removes_request r.id.0 (completed_undone r.id.0 (both_left (is_closing (place_of S.requests r.id.0) || is_given S r.id.0) true (event_fits plan m S (event.Complete r s) h))), tt)
  event_comes m (event.Posted agent p answer) h =
      post_comes agent p (both_right (same_option same_post (due_of m S agent) (Some p)) (post_fits plan S agent p) (both_left (same_option same_post (due_of m S agent) (Some p) && post_fits plan S agent p) (same_option same_handle (post_answer plan S agent p) answer) h))
  event_comes m e h = plain_comes plan (deeds plan S e) S (event_plain plan S e refl)
