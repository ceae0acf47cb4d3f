-- The first DPC in each processor's list is of a live object that has the function; so the line of queued work names a cause.
use Rattle.std.proofs.Common.{◌≡◌, ℕ, ◌==◌, Bool, true, false, List, [], ◌∷◌, inl, inr, Option, Some, None, is_some, refl, ap, ◌∙◌}
use Rattle.std.proofs.lemmas.Bool.{or_cases}
use Rattle.wdf_base.specs.Meaning.{Meaning}
use Rattle.wdf_base.specs.Plan.{declared_of}
use Rattle.wdf_base.specs.Resolved.{IsResolved}
use Rattle.wdf_base.specs.Same.{same_kind}
use Rattle.wdf_base.specs.declared.plan.Plan.{Plan}
use Rattle.wdf_base.specs.declared.ids.Handle.{Handle}
use Rattle.wdf_base.specs.declared.declared.Declared.TheVariants as declared
use Rattle.wdf_base.specs.declared.declared.InterruptInfo.{InterruptInfo}
use Rattle.wdf_base.specs.declared.object.Kind.TheVariants as kind
use Rattle.wdf_base.specs.declared.call.Callback.TheVariants as callback
use Rattle.wdf_base.specs.declared.event.Event.{Event}
use Rattle.wdf_base.specs.declared.event.Ending.TheVariants as ending
use Rattle.wdf_base.specs.declared.wait.Cause.{Cause}
use Rattle.wdf_base.specs.declared.wait.OpenThing.TheVariants as thing
use Rattle.wdf_base.specs.Lives.{is_live}
use Rattle.wdf_base.specs.Callbacks.{dpc_function}
use Rattle.wdf_model.specs.Tables.{contains, first_of_list}
use Rattle.wdf_model.specs.Plans.{declares, interrupt_of, script_on}
use Rattle.wdf_model.specs.parts.Tree.{kind_of, life_of, made_as, node_of}
use Rattle.wdf_model.specs.parts.Deferred.Dpcs.{dpc_head, dpcs_of, is_dpc_queued}
use Rattle.wdf_model.specs.parts.Deferred.WorkItems.{is_work_queued}
use Rattle.wdf_model.specs.parts.Deferred.Timers.{is_timer_queued, timed_of, timer_due}
use Rattle.wdf_model.specs.State.{State, declared_in, declares_in}
use Rattle.wdf_model.specs.rules.Ready.{IsRunOf, ending_of, is_open_work, state_after}
use Rattle.wdf_model.specs.rules.Waits.{wait_list}
use Rattle.std.specs.Prelude.{slice_get}
use Rattle.wdf_model.proofs.Sames.{kind_decides}
use Rattle.wdf_model.proofs.Tests.{both, both_left, both_right, first, itself}
use Rattle.law_machine_counts.proofs.StillFrames.{live_there}
use Rattle.law_machine_lives.proofs.Queued.{any_entry}
use Rattle.law_trace_power.proofs.Belonging.{interrupt_found}
use Rattle.law_stuck_causes.proofs.Stages.{line_named}
use Rattle.law_stuck_causes.proofs.Works.{item_runs, third, timer_runs}
use Rattle.law_stuck_named_if.specs.Starts.{first_may_run, has_callback}
use Rattle.law_stuck_named_if.specs.Named.{DpcsMayRun}
use Rattle.law_stuck_named_if.proofs.Lines.{line_names}
use Rattle.law_stuck_named_if.proofs.Works.{item_live, reached, timer_live}
use Rattle.law_stuck_named.specs.Owners.{DpcsRun}
use Rattle.law_machine_lives.proofs.Deferring.{work_of}
use Rattle.law_stuck_named_if.proofs.Presents.{there_is}
use Rattle.law_stuck_named.proofs.Standing.{defers, ready_in}
use Rattle.law_stuck_named.proofs.Lines.{line_tells}
use Rattle.law_stuck_named.proofs.Quieted.{interrupt_live}
use Rattle.law_stuck_named.proofs.Runs.{Known, known_now}
use Rattle.law_stuck_named.proofs.Worked.{ready_has, work_may_run, works_now}
use Rattle.law_stuck_named.proofs.Works.{WorkKept}

head_in : (o : ℕ) (xs : List ℕ) → first_of_list xs ≡ Some o → contains o xs ≡ true
head_in o [] h = absurd (let z : ⊥ = cc in z)
head_in o (x ∷ xs) h = let same : x ≡ o = cc in first (x == o) (contains o xs) (ap (λ y. y == o) same ∙ itself o)

reached_queued : {A : Type 0} (S : State A) (o : ℕ) → is_open_work S o ≡ true → is_dpc_queued S.dpcs o ≡ false → is_work_queued S.work_items o ≡ false → is_timer_queued S.timers o ≡ true
reached_queued S o h off idle = reached S.clock (timed_of S.timers o) (third (is_dpc_queued S.dpcs o) (is_work_queued S.work_items o) (timer_due S.timers o S.clock) h off idle)

module _ {A : Type 0} (plan : Plan) (m : Meaning A) (run : List Event) (resolved : IsResolved plan) (is_run : IsRunOf plan m run) where
  abbrev S : State A
  S = state_after plan m run

  -- a DPC object
  object_runs : (o : ℕ) → ready_in kind.Dpc S.tree o ≡ true → has_callback plan S (dpc_function (kind_of S.tree o)) o ≡ true
  object_runs o ready =
      let w : WorkKept plan (work_of S) = works_now plan m run resolved is_run in
      let same : kind_of S.tree o ≡ kind.Dpc = (kind_decides (kind_of S.tree o) kind.Dpc).0 (both_right (is_live (life_of S.tree o)) (same_kind (kind_of S.tree o) kind.Dpc) ready) in
      ap (λ k. has_callback plan S (dpc_function k) o) same ∙ ready_has plan S kind.Dpc o resolved refl (w.classes o) ready

  -- an interrupt
  interrupt_runs : (o : ℕ) (x : InterruptInfo) → interrupt_of plan o ≡ Some x → declares plan callback.EvtInterruptDpc o ≡ true → is_dpc_queued S.dpcs o ≡ true → has_callback plan S (dpc_function (kind_of S.tree o)) o ≡ true
  interrupt_runs o x at has queued =
      let n : Known plan S = known_now plan m resolved run is_run in
      let live : is_live (life_of S.tree o) ≡ true = interrupt_live plan m run resolved is_run o x at queued in
      let same : kind_of S.tree o ≡ kind.Interrupt = (n.facts.declared o (declared.Interrupt x) (interrupt_found (declared_of plan o) x at) (live_there (life_of S.tree o) live)).1 in
      let told : declared_in plan S o ≡ declared_of plan o = ap (made_as plan (node_of S.tree o) o) same in
      ap (λ k. has_callback plan S (dpc_function k) o) same
      ∙ both (is_live (life_of S.tree o)) (declares_in plan S callback.EvtInterruptDpc o) live (ap (λ y. is_some (script_on plan callback.EvtInterruptDpc y)) told ∙ has)

  queued_runs : (o : ℕ) → is_dpc_queued S.dpcs o ≡ true → has_callback plan S (dpc_function (kind_of S.tree o)) o ≡ true
  queued_runs o queued = elim (or_cases (ready_in kind.Dpc S.tree o) (defers plan o) ((works_now plan m run resolved is_run).dpcs o queued)) [
    | inl e ↦ object_runs o e
    | inr e ↦
        let x = there_is (interrupt_of plan o) (both_left (is_some (interrupt_of plan o)) (declares plan callback.EvtInterruptDpc o) e) in
        interrupt_runs o x.0 x.1 (both_right (is_some (interrupt_of plan o)) (declares plan callback.EvtInterruptDpc o) e) queued
  ]

  first_runs : (cpu : ℕ) (x : Option ℕ) → dpc_head S.dpcs cpu ≡ x → first_may_run plan S x ≡ true
  first_runs cpu None e = refl
  first_runs cpu (Some o) e = queued_runs o (any_entry [] (contains o) S.dpcs.lists cpu refl (head_in o (dpcs_of S.dpcs cpu) e))

  pub dpcs_run : DpcsRun plan S
  dpcs_run = record { dpcs = queued_runs }

  pub dpcs_may_run : DpcsMayRun plan S
  dpcs_may_run cpu = first_runs cpu (dpc_head S.dpcs cpu) refl

  -- ---- the lines of queued work

  abbrev Line : ℕ → Handle → Option Cause → Type 0
  Line k o x = slice_get (wait_list plan m run) k ≡ Some (record { thing = thing.Deferred o; cause = x })

  other_named : ending_of plan m run ≡ ending.Stuck → (k : ℕ) (o : Handle) (x : Option Cause) → Line k o x → is_dpc_queued S.dpcs o.id.0 ≡ false → (b : Bool) → is_work_queued S.work_items o.id.0 ≡ b → is_some x ≡ true
  other_named ends k o x h off true e =
      let has = (work_may_run plan m run resolved is_run).items o.id.0 e in
      line_named plan m run is_run ends k (record { thing = thing.Deferred o; cause = x }) h
      (item_runs plan S o.id.0 off e (item_live plan m run is_run o.id.0 e) (both_right (is_live (life_of S.tree o.id.0)) (declares_in plan S callback.EvtWorkItem o.id.0) has))
  other_named ends k o x h off false e =
      let opened = line_tells plan m run ends k (thing.Deferred o) x h in
      let has = (work_may_run plan m run resolved is_run).timers o.id.0 (reached_queued S o.id.0 opened off e) in
      line_named plan m run is_run ends k (record { thing = thing.Deferred o; cause = x }) h
      (timer_runs plan S o.id.0 off e (timer_live plan m run is_run o.id.0 opened off e) (both_right (is_live (life_of S.tree o.id.0)) (declares_in plan S callback.EvtTimerFunc o.id.0) has))

  work_named_by : ending_of plan m run ≡ ending.Stuck → (k : ℕ) (o : Handle) (x : Option Cause) → Line k o x → (b : Bool) → is_dpc_queued S.dpcs o.id.0 ≡ b → is_some x ≡ true
  work_named_by ends k o x h true e = (line_names plan m run resolved is_run ends k (record { thing = thing.Deferred o; cause = x }) h).1 e dpcs_may_run
  work_named_by ends k o x h false e = other_named ends k o x h e (is_work_queued S.work_items o.id.0) refl

  pub work_named : ending_of plan m run ≡ ending.Stuck → (k : ℕ) (o : Handle) (x : Option Cause) → Line k o x → is_some x ≡ true
  work_named ends k o x h = work_named_by ends k o x h (is_dpc_queued S.dpcs o.id.0) refl
