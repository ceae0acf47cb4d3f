-- An interrupt whose DPC is queued was enabled, its device entered then, and the device's exit hasn't begun since.
use Rattle.std.proofs.Common.{if◌then◌else◌, ◌≡◌, ℕ, ◌≢◌, ◌==◌, Bool, true, false, not, ◌&&◌, ◌||◌, List, [], ◌∷◌, ◌++◌, inl, inr, Option, Some, None, is_some, drop, length, refl, sym, ap, subst, ◌∙◌, arith}
use Rattle.std.specs.List.{list_all}
use Rattle.std.proofs.lemmas.Bool.{cases_Bool, eqb-true, or_cases}
use Rattle.std.proofs.Math.Bool.{and-false}
use Rattle.wdf_base.specs.Meaning.{Meaning}
use Rattle.wdf_base.specs.Plan.{declared_of}
use Rattle.wdf_base.specs.Resolved.{IsResolved}
use Rattle.wdf_base.specs.Callbacks.{row_of}
use Rattle.wdf_base.specs.Same.{same_callback, same_kind, same_option, same_step}
use Rattle.wdf_base.specs.declared.plan.Plan.{Plan}
use Rattle.wdf_base.specs.declared.ids.Cpu.{Cpu}
use Rattle.wdf_base.specs.declared.ids.Handle.{Handle}
use Rattle.wdf_base.specs.declared.value.Value.{Value}
use Rattle.wdf_base.specs.declared.object.Kind.TheVariants as kind
use Rattle.wdf_base.specs.declared.object.LockRef.{LockRef}
use Rattle.wdf_base.specs.declared.declared.Declared.TheVariants as declared
use Rattle.wdf_base.specs.declared.declared.InterruptInfo.{InterruptInfo}
use Rattle.wdf_base.specs.declared.call.Callback.{Callback}
use Rattle.wdf_base.specs.declared.call.Callback.TheVariants as callback
use Rattle.wdf_base.specs.declared.rank.Rank.{Rank}
use Rattle.wdf_base.specs.declared.rank.Rank.TheVariants as rank
use Rattle.wdf_base.specs.declared.event.Ask.{Ask}
use Rattle.wdf_base.specs.declared.event.Event.{Event}
use Rattle.wdf_base.specs.declared.event.Event.TheVariants as event
use Rattle.wdf_base.specs.declared.event.Post.{Post}
use Rattle.wdf_base.specs.declared.event.Post.TheVariants as post
use Rattle.wdf_base.specs.declared.event.Stage.{Stage}
use Rattle.wdf_base.specs.declared.event.Stage.TheVariants as stage
use Rattle.wdf_base.specs.declared.event.Step.{Step}
use Rattle.wdf_base.specs.declared.event.Step.TheVariants as step
use Rattle.wdf_base.specs.Lives.{is_gone, is_live}
use Rattle.wdf_model.specs.Plans.{callback_irql, device_of, interrupt_of, interrupts_of, is_interrupt_of}
use Rattle.wdf_model.specs.parts.Tree.{kind_of, life_of, nearest_device}
use Rattle.wdf_model.specs.parts.Cpus.{is_running}
use Rattle.wdf_model.specs.Ids.{frame_id, irql_of, object_id}
use Rattle.wdf_model.specs.parts.Locks.{lock_of_callback}
use Rattle.wdf_model.specs.parts.Interrupts.{is_enabled}
use Rattle.wdf_model.specs.parts.Deferred.Dpcs.{is_dpc_queued}
use Rattle.wdf_model.specs.parts.Pnp.{Sequence, busy, is_running_step, next_step, no_sequence, running_step, sequence_of, steps_for, steps_left}
use Rattle.wdf_model.specs.parts.Pnp as pnp
use Rattle.wdf_model.specs.State.{State, declared_in, declares_in, is_proper}
use Rattle.wdf_model.specs.declared.deed.Deed.{Deed}
use Rattle.wdf_model.specs.declared.deed.Deed.TheVariants.{EndStep, PopFrame, PushFrame, TakeStep}
use Rattle.wdf_model.specs.rules.Deeds.{do_deed, do_deeds}
use Rattle.wdf_model.specs.rules.Starts.{effect, end_of_step, interrupt_of_step, is_ready_for, may_pass, may_start, new_frame, next_number, rank_ready, rank_ready_for, release_if_any, stage_deeds, stage_ready, start_effect, step_of, step_ready, take_if_any}
use Rattle.wdf_model.specs.rules.Steps.{deeds, is_cpu, is_proper_if_any, may}
use Rattle.law_machine_base.specs.Agreement.{is_sequence}
use Rattle.wdf_model.proofs.Counts.{one_or_two}
use Rattle.law_machine_base.proofs.FitsOfEvents.{event_fits}
use Rattle.wdf_model.proofs.Maps.{entry_put_other, entry_put_same}
use Rattle.wdf_model.proofs.Sames.{callback_decides}
use Rattle.wdf_model.proofs.Tests.{both, both_left, both_right, either_false, first, itself, not_false, not_true, second}
use Rattle.law_machine_counts.proofs.StepStates.{in_turn}
use Rattle.law_machine_counts.proofs.StillFrames.{live_there}
use Rattle.law_machine_lives.proofs.Sound.{AllSound}
use Rattle.law_machine_lives.proofs.SoundRuns.{KnownAll, all_sound}
use Rattle.wdf_laws.specs.declared.sign.Sign.TheVariants as sign
use Rattle.wdf_laws.specs.Signs.{shows}
use Rattle.wdf_laws.specs.Laws.{is_enabled_in_power, is_entered}
use Rattle.law_trace_families.proofs.Families.{Family}
use Rattle.law_trace_power.specs.Steps.{is_for}
use Rattle.law_trace_power.proofs.Calm.{Calm, deeds_calm}
use Rattle.law_trace_power.proofs.Declares.{declares_device, is_power_callback, once_by, own_device_of}
use Rattle.law_trace_power.proofs.Events.{Kept, Staged, enabled_after, not_entry, not_exit, staged}
use Rattle.law_trace_power.proofs.Happens.{end_elsewhere, found_pass, found_run, not_its, not_running, shown_for, stage_allowed, start_silent, taken_pass, taken_run}
use Rattle.law_trace_power.proofs.Holding.{Silent, watch}
use Rattle.law_trace_power.proofs.Belonging.{device_of_interrupt, interrupt_found}
use Rattle.law_trace_power.proofs.Passing.{enabling}
use Rattle.law_trace_power.proofs.Standings.{Standing, Watch, owed, passes, safe}
use Rattle.law_trace_power.proofs.Standings as standings
use Rattle.law_trace_power.proofs.Tellings.{enabled_comes, enabled_stays}
use Rattle.law_trace_power.proofs.Unmoved.{event_none, none_moves, start_effect_none, taking_none}
use Rattle.law_machine_lives.proofs.LevelEvents.{sound_after, sound_before}
use Rattle.law_trace_interrupts.proofs.Queues.{From, deeds_from, event_fine}
use Rattle.law_trace_interrupts.proofs.Quieted.{asked_quieted, ended_quieted, exit_by, is_quieted, not_any, quiet_by, quieted_by, run_quieted}
use Rattle.law_machine_counts.proofs.StepEvents.{sequence_is}

-- an interrupt is enabled, or its DPC is queued
abbrev pub is_active : {A : Type 0} → State A → ℕ → Bool
is_active S i = is_enabled S.interrupts i || is_dpc_queued S.dpcs i

pub record Serves {A : Type 0} (plan : Plan) (S : State A) (es : List Event) : Type 0 where
  pub quieted : (d i : ℕ) → (watch plan d i).watched ≡ true → is_active S i ≡ true → is_quieted (steps_left S.pnp d) ≡ true
  pub queued : (i : ℕ) (x : InterruptInfo) → interrupt_of plan i ≡ Some x → is_dpc_queued S.dpcs i ≡ true → is_enabled_in_power plan es i x.device.0 ≡ true

or_self : (a b : Bool) → (a || (a || b)) ≡ true → (a || b) ≡ true
or_self true b h = refl
or_self false b h = h

or_none : (a b : Bool) → b ≡ false → (a || (a || b)) ≡ true → a ≡ true
or_none true b n h = refl
or_none false b n h = absurd (let z : ⊥ = cc in z)

-- a stage of the interrupt's device
stage_by : (w : Watch) → w.watched ≡ true → (s : Stage) (j : Option Handle) (rest : List Step) (a : Standing) (on queued : Bool) → a.on ≡ on → (s ≡ stage.Quiet → queued ≡ false) → safe w rest (passes w s j a) ≡ true
    → ((on || queued) ≡ true → quiet_by s (is_quieted rest) ≡ true) → (enabling s (is_for w.interrupt j) on || (on || queued)) ≡ true → is_quieted rest ≡ true
stage_by w watched stage.Enabled j rest a on queued is quiet ok before now = elim (cases_Bool (is_for w.interrupt j)) [
  | inl e ↦ quieted_by w watched rest (passes w stage.Enabled j a) ok (let t : (a.clean && not (is_for w.interrupt j)) ≡ (a.clean && false) = ap (λ b. a.clean && not b) e in t ∙ and-false a.clean)
  | inr e ↦ before (or_self on queued (subst (λ (b : Bool). ((if b then true else on) || (on || queued)) ≡ true) e now))
]
stage_by w watched stage.Disabled j rest a on queued is quiet ok before now = before (by (is_for w.interrupt j) now)
  where
    by : (b : Bool) → ((if b then false else on) || (on || queued)) ≡ true → (on || queued) ≡ true
    by true h = h
    by false h = or_self on queued h
stage_by w watched stage.Quiet j rest a on queued is quiet ok before now =
    quieted_by w watched rest (passes w stage.Quiet j a) ok (ap not (is ∙ or_none on queued (quiet refl) now))
stage_by w watched _ j rest a on queued is quiet ok before now = before (or_self on queued now)

seq_for : {A : Type 0} (plan : Plan) (S : State A) (x : Rank) (c : Callback) (o r : ℕ) → is_sequence x ≡ true → rank_ready_for plan S x c o r ≡ true → ⊥
seq_for plan S rank.Sequence c o r h l = let z : ⊥ = cc in z
seq_for plan S _ c o r h l = let z : ⊥ = cc in z

exit_shown : (cpu : Cpu) (c : Callback) (o : Handle) (r : Option Handle) (d : ℕ) (b : Bool) → same_callback c callback.EvtDeviceD0Exit ≡ b → shows (sign.ExitBegins d) (event.Start cpu c o r) ≡ true → (b ≡ true) × (o.id.0 ≡ d)
exit_shown cpu c o r d true e s = let t : (o.id.0 == d) ≡ true = rw e at s in (refl, eqb-true o.id.0 d t)
exit_shown cpu c o r d false e s = absurd (let q : Silent d 0 (event.Start cpu c o r) = start_silent cpu c o r d 0 e in let off : shows (sign.ExitBegins d) (event.Start cpu c o r) ≡ false = q.exit in let z : ⊥ = cc in z)

module _ {A : Type 0} (plan : Plan) (m : Meaning A) (S : State A) (es : List Event) (resolved : IsResolved plan) (known : KnownAll plan S) (k : Kept plan S es) (family : Family plan es S.tree) (inv : Serves plan S es) where
  abbrev may_queue : ℕ → Bool
  may_queue o = not (is_some (interrupt_of plan o)) || is_enabled S.interrupts o

  abbrev After : Event → State A
  After e = do_deeds plan (deeds plan S e) S

  object : (o : ℕ) → same_kind (kind_of S.tree o) kind.Dpc ≡ true → is_live (life_of S.tree o) ≡ true → may_queue o ≡ true
  object o is live = by (interrupt_of plan o) refl
    where
      by : (x : Option InterruptInfo) → interrupt_of plan o ≡ x → (not (is_some x) || is_enabled S.interrupts o) ≡ true
      by None e = refl
      by (Some i) e =
          let d : declared_of plan o ≡ Some (declared.Interrupt i) = interrupt_found (declared_of plan o) i e in
          let k_ : kind_of S.tree o ≡ kind.Interrupt = (family.declared o (declared.Interrupt i) d (live_there (life_of S.tree o) live)).1 in
          absurd (let off : same_kind (kind_of S.tree o) kind.Dpc ≡ false = ap (λ y. same_kind y kind.Dpc) k_ in let z : ⊥ = cc in z)

  queued_from : (e : Event) → may plan m S e ≡ true → From may_queue S.dpcs (After e).dpcs
  queued_from e h = deeds_from may_queue plan (deeds plan S e) S (event_fine plan m S may_queue (λ o y. second (not (is_some (interrupt_of plan o))) (is_enabled S.interrupts o) y) object e h)

  is_one : (d i : ℕ) → (watch plan d i).watched ≡ true → is_some (interrupt_of plan i) ≡ true
  is_one d i w = there (interrupt_of plan i) (both_right (is_some (device_of plan d)) (is_interrupt_of d (interrupt_of plan i)) w)
    where
      there : (x : Option InterruptInfo) → is_interrupt_of d x ≡ true → is_some x ≡ true
      there None h = absurd (let z : ⊥ = cc in z)
      there (Some y) h = refl

  was_active : (e : Event) → may plan m S e ≡ true → (d i : ℕ) → (watch plan d i).watched ≡ true → is_dpc_queued (After e).dpcs i ≡ true → is_active S i ≡ true
  was_active e h d i w q = elim (or_cases (is_dpc_queued S.dpcs i) (may_queue i) (queued_from e h i q)) [
    | inl y ↦ second (is_enabled S.interrupts i) (is_dpc_queued S.dpcs i) y
    | inr y ↦ first (is_enabled S.interrupts i) (is_dpc_queued S.dpcs i) (subst (λ b. (not b || is_enabled S.interrupts i) ≡ true) (is_one d i w) y)
  ]

  active_before : (e : Event) → may plan m S e ≡ true → (d i : ℕ) → (watch plan d i).watched ≡ true → (x : Bool) → is_enabled (After e).interrupts i ≡ x → is_active (After e) i ≡ true → (x || is_active S i) ≡ true
  active_before e h d i w x is a = elim (or_cases (is_enabled (After e).interrupts i) (is_dpc_queued (After e).dpcs i) a) [
    | inl y ↦ first x (is_active S i) (sym is ∙ y)
    | inr y ↦ second x (is_active S i) (was_active e h d i w y)
  ]

  watched_of : (i : ℕ) (x : InterruptInfo) → interrupt_of plan i ≡ Some x → (watch plan x.device.0 i).watched ≡ true
  watched_of i x at =
      both (is_some (device_of plan x.device.0)) (is_interrupt_of x.device.0 (interrupt_of plan i)) (device_of_interrupt plan resolved i x at) (subst (λ y. is_interrupt_of x.device.0 y ≡ true) (sym at) (itself x.device.0))

  in_power : (i : ℕ) (x : InterruptInfo) → interrupt_of plan i ≡ Some x → is_active S i ≡ true → is_enabled_in_power plan es i x.device.0 ≡ true
  in_power i x at a = elim (or_cases (is_enabled S.interrupts i) (is_dpc_queued S.dpcs i) a) [
    | inl y ↦ let held = k.hold x.device.0 i in held.told.on (held.on ∙ both (watch plan x.device.0 i).watched (is_enabled S.interrupts i) (watched_of i x at) y)
    | inr y ↦ inv.queued i x at y
  ]

  queued_stays : (e : Event) → may plan m S e ≡ true → (i : ℕ) (x : InterruptInfo) → interrupt_of plan i ≡ Some x → shows (sign.Enabled i) e ≡ false → shows (sign.ExitBegins x.device.0) e ≡ false → is_dpc_queued (After e).dpcs i ≡ true
      → is_enabled_in_power plan (es ++ e ∷ []) i x.device.0 ≡ true
  queued_stays e h i x at n exit q = enabled_stays plan x.device.0 es e i n exit (in_power i x at (was_active e h x.device.0 i (watched_of i x at) q))

  -- ---- events by which no device moves

  still : (e : Event) → may plan m S e ≡ true → (After e).pnp ≡ S.pnp → (After e).interrupts ≡ S.interrupts → ((d i : ℕ) → Silent d i e) → Serves plan (After e) (es ++ e ∷ [])
  still e h pnp_ ints silent = record {
    quieted = λ d i w a. subst (λ Q. is_quieted (steps_left Q d) ≡ true) (sym pnp_) (inv.quieted d i w (or_self (is_enabled S.interrupts i) (is_dpc_queued S.dpcs i) (active_before e h d i w (is_enabled S.interrupts i) (ap (λ I. is_enabled I i) ints) a)));
    queued = λ i x at q. let s : Silent x.device.0 i e = silent x.device.0 i in queued_stays e h i x at s.enabled s.exit q;
  }

  pub calm : (e : Event) → may plan m S e ≡ true → none_moves (deeds plan S e) ≡ true → ((d i : ℕ) → Silent d i e) → Serves plan (After e) (es ++ e ∷ [])
  calm e h none silent = let c : Calm S (After e) = deeds_calm plan (deeds plan S e) S none (all_sound plan m S e known h) in still e h c.pnp c.interrupts silent

  -- ---- callbacks begin

  module _ (cpu : Cpu) (c : Callback) (o : Handle) (r : Option Handle) (h : may plan m S (event.Start cpu c o r) ≡ true) where
    abbrev ev : Event
    ev = event.Start cpu c o r

    abbrev takes : List Deed
    takes = take_if_any (next_number S) (lock_of_callback plan c o.id.0 (declared_in plan S o.id.0))

    abbrev pushes : Deed
    pushes = PushFrame cpu (frame_id (next_number S)) (new_frame plan S c o r) (irql_of (callback_irql plan c o.id.0))

    declares_ : declares_in plan S c o.id.0 ≡ true
    declares_ = let start : may_start plan m S cpu.0 c o.id.0 r ≡ true = both_right (is_cpu plan cpu && is_proper plan S o && is_proper_if_any plan S r) (may_start plan m S cpu.0 c o.id.0 r) h in search (both_left, both_right)

    ready_ : is_ready_for plan m S cpu.0 c o.id.0 r ≡ true
    ready_ = let start : may_start plan m S cpu.0 c o.id.0 r ≡ true = both_right (is_cpu plan cpu && is_proper plan S o && is_proper_if_any plan S r) (may_start plan m S cpu.0 c o.id.0 r) h in search (both_left, both_right)

    begins_other : is_sequence (row_of c).rank ≡ false → Serves plan (After ev) (es ++ ev ∷ [])
    begins_other other =
        let ds : List Deed = start_effect plan S cpu.0 c o.id.0 r in
        let V : State A = do_deeds plan ds S in
        let W : State A = do_deed plan pushes V in
        let sound : AllSound plan (deeds plan S ev) S = all_sound plan m S ev known h in
        let s : AllSound plan (pushes ∷ takes) V = sound_after plan ds (pushes ∷ takes) S sound in
        let a : Calm S V = deeds_calm plan ds S (start_effect_none plan S cpu.0 c o.id.0 r other) (sound_before plan ds (pushes ∷ takes) S sound) in
        let b : Calm W (do_deeds plan takes W) = deeds_calm plan takes W (taking_none (next_number S) (lock_of_callback plan c o.id.0 (declared_in plan S o.id.0))) s.1 in
        let turn : do_deeds plan (deeds plan S ev) S ≡ do_deeds plan takes W = in_turn plan ds (pushes ∷ takes) S in
        still ev h (ap (λ (X : State A). X.pnp) turn ∙ b.pnp ∙ a.pnp) (ap (λ (X : State A). X.interrupts) turn ∙ b.interrupts ∙ a.interrupts) (λ d i. start_silent cpu c o r d i (not_exit c other))

    module _ (is : is_sequence (row_of c).rank ≡ true) (none : r ≡ None) where
      abbrev n : ℕ
      n = nearest_device S.tree o.id.0

      abbrev j : Option Handle
      j = interrupt_of_step plan S o.id.0

      step_is : step_ready S n (step_of plan S c o.id.0) ≡ true
      step_is = sym (ap (λ y. rank_ready plan m S y cpu.0 c o.id.0) (sequence_is (row_of c).rank is)) ∙ subst (λ y. is_ready_for plan m S cpu.0 c o.id.0 y ≡ true) none ready_

      next_ : steps_left S.pnp n ≡ step.Run c j ∷ drop 1 (steps_left S.pnp n)
      next_ = found_run (steps_left S.pnp n) c j
          (both_left (same_option same_step (next_step S.pnp n) (Some (step.Run c j))) (not (is_running_step S.pnp n)) (both_left (same_option same_step (next_step S.pnp n) (Some (step.Run c j)) && not (is_running_step S.pnp n)) _ step_is))

      effect_is : start_effect plan S cpu.0 c o.id.0 r ≡ TakeStep (object_id n) ∷ []
      effect_is = ap (λ y. start_effect plan S cpu.0 c o.id.0 y) none ∙ ap (λ x. effect plan S x cpu.0 c o.id.0) (sequence_is (row_of c).rank is)

      abbrev T : State A
      T = do_deed plan (TakeStep (object_id n)) S

      abbrev W : State A
      W = do_deed plan pushes T

      deeds_are : deeds plan S ev ≡ TakeStep (object_id n) ∷ pushes ∷ takes
      deeds_are = ap (λ (x : List Deed). x ++ pushes ∷ takes) effect_is

      rest_calm : Calm W (do_deeds plan takes W)
      rest_calm =
          let s : AllSound plan (TakeStep (object_id n) ∷ pushes ∷ takes) S = subst (λ (x : List Deed). AllSound plan x S) deeds_are (all_sound plan m S ev known h) in
          deeds_calm plan takes W (taking_none (next_number S) (lock_of_callback plan c o.id.0 (declared_in plan S o.id.0))) s.1.1

      pnp_is : (After ev).pnp ≡ pnp.taken S.pnp n
      pnp_is = ap (λ (x : List Deed). (do_deeds plan x S).pnp) deeds_are ∙ rest_calm.pnp

      ints_are : (After ev).interrupts ≡ S.interrupts
      ints_are = ap (λ (x : List Deed). (do_deeds plan x S).interrupts) deeds_are ∙ rest_calm.interrupts

      quieted_begun : (d i : ℕ) → (watch plan d i).watched ≡ true → is_active S i ≡ true → is_quieted (steps_left (pnp.taken S.pnp n) d) ≡ true
      quieted_begun d i w a = elim (one_or_two d n) [
        | inl e ↦
            let here : sequence_of (pnp.taken S.pnp n) n ≡ record (sequence_of S.pnp n) { left = drop 1 (steps_left S.pnp n); running = Some (step.Run c j) } = entry_put_same no_sequence S.pnp.devices n (pnp.taken_step (sequence_of S.pnp n)) ∙ taken_run (sequence_of S.pnp n) c j (drop 1 (steps_left S.pnp n)) next_ in
            let was : is_quieted (steps_left S.pnp n) ≡ true = subst (λ y. is_quieted (steps_left S.pnp y) ≡ true) e (inv.quieted d i w a) in
            let now : exit_by c (is_quieted (drop 1 (steps_left S.pnp n))) ≡ true = subst (λ ss. is_quieted ss ≡ true) next_ was in
            rw e (ap (λ (q : Sequence). is_quieted q.left) here ∙ run_quieted c (is_quieted (drop 1 (steps_left S.pnp n))) now)
        | inr e ↦ ap (λ (q : Sequence). is_quieted q.left) (entry_put_other no_sequence S.pnp.devices n d (pnp.taken_step (sequence_of S.pnp n)) e) ∙ inv.quieted d i w a
      ]

      -- EvtDeviceD0Exit begins where the DPC isn't queued
      no_exit : (i : ℕ) (x : InterruptInfo) → interrupt_of plan i ≡ Some x → is_active S i ≡ true → shows (sign.ExitBegins x.device.0) ev ≡ true → ⊥
      no_exit i x at a s =
          let t = exit_shown cpu c o r x.device.0 (same_callback c callback.EvtDeviceD0Exit) refl s in
          let exits : c ≡ callback.EvtDeviceD0Exit = (callback_decides c callback.EvtDeviceD0Exit).0 t.0 in
          let power : is_power_callback c ≡ true = subst (λ y. is_power_callback y ≡ true) (sym exits) refl in
          let sound : AllSound plan (TakeStep (object_id n) ∷ pushes ∷ takes) S = subst (λ (y : List Deed). AllSound plan y S) deeds_are (all_sound plan m S ev known h) in
          let there : is_gone (life_of S.tree o.id.0) ≡ false = sound.1.0.0 in
          let own : n ≡ o.id.0 = own_device_of plan S o.id.0 known.known.declared there (declares_device plan c (declared_in plan S o.id.0) resolved power declares_) in
          let was : is_quieted (steps_left S.pnp n) ≡ true = subst (λ y. is_quieted (steps_left S.pnp y) ≡ true) (sym (own ∙ t.1)) (inv.quieted x.device.0 i (watched_of i x at) a) in
          let now : exit_by c (is_quieted (drop 1 (steps_left S.pnp n))) ≡ true = subst (λ ss. is_quieted ss ≡ true) next_ was in
          let off : exit_by callback.EvtDeviceD0Exit (is_quieted (drop 1 (steps_left S.pnp n))) ≡ true = subst (λ y. exit_by y (is_quieted (drop 1 (steps_left S.pnp n))) ≡ true) exits now in
          let z : ⊥ = cc in z

      begins_step : Serves plan (After ev) (es ++ ev ∷ [])
      begins_step = record {
        quieted = λ d i w a. subst (λ Q. is_quieted (steps_left Q d) ≡ true) (sym pnp_is)
            (quieted_begun d i w (or_self (is_enabled S.interrupts i) (is_dpc_queued S.dpcs i) (active_before ev h d i w (is_enabled S.interrupts i) (ap (λ I. is_enabled I i) ints_are) a)));
        queued = λ i x at q. elim (cases_Bool (shows (sign.ExitBegins x.device.0) ev)) [
          | inl s ↦ absurd (no_exit i x at (was_active ev h x.device.0 i (watched_of i x at) q) s)
          | inr s ↦ queued_stays ev h i x at refl s q
        ];
      }

    begins_by : (b : Bool) → is_sequence (row_of c).rank ≡ b → (y : Option Handle) → r ≡ y → Serves plan (After ev) (es ++ ev ∷ [])
    begins_by false is y e = begins_other is
    begins_by true is None e = begins_step is e
    begins_by true is (Some x) e =
        absurd (seq_for plan S (row_of c).rank c o.id.0 x.id.0 is (subst (λ y. is_ready_for plan m S cpu.0 c o.id.0 y ≡ true) e ready_))

    pub begins : Serves plan (After ev) (es ++ ev ∷ [])
    begins = begins_by (is_sequence (row_of c).rank) refl r refl

  -- ---- callbacks end

  module _ (cpu : Cpu) (c : Callback) (o : Handle) (v : Value) (h : may plan m S (event.End cpu c o v) ≡ true) where
    abbrev en : Event
    en = event.End cpu c o v

    abbrev lock_ : Option LockRef
    lock_ = lock_of_callback plan c o.id.0 (declared_in plan S o.id.0)

    released_same : (l : Option LockRef) → ((do_deeds plan (release_if_any l) S).pnp ≡ S.pnp) × ((do_deeds plan (release_if_any l) S).interrupts ≡ S.interrupts)
    released_same None = (refl, refl)
    released_same (Some l) = (refl, refl)

    ends_other : is_sequence (row_of c).rank ≡ false → Serves plan (After en) (es ++ en ∷ [])
    ends_other other = calm en h
        (event_none plan S en other)
        (λ d i. end_elsewhere cpu c o v d i false (not_entry c other) (λ x. absurd (let z : ⊥ = cc in z)))

    ends_step : is_sequence (row_of c).rank ≡ true → Serves plan (After en) (es ++ en ∷ [])
    ends_step is =
        let n : ℕ = nearest_device S.tree o.id.0 in
        let st : Step = step_of plan S c o.id.0 in
        let V : State A = do_deeds plan (release_if_any lock_) S in
        let tail : end_of_step plan S (row_of c).rank c o.id.0 v ≡ EndStep (object_id n) st v ∷ [] = ap (λ x. end_of_step plan S x c o.id.0 v) (sequence_is (row_of c).rank is) in
        let turn : After en ≡ do_deeds plan (PopFrame cpu ∷ EndStep (object_id n) st v ∷ []) V = in_turn plan (release_if_any lock_) (PopFrame cpu ∷ end_of_step plan S (row_of c).rank c o.id.0 v) S ∙ ap (λ (x : List Deed). do_deeds plan (PopFrame cpu ∷ x) V) tail in
        let same = released_same lock_ in
        let pnp_is : (After en).pnp ≡ pnp.ended S.pnp n st v = ap (λ (X : State A). X.pnp) turn ∙ ap (λ Q. pnp.ended Q n st v) same.0 in
        let ints : (After en).interrupts ≡ S.interrupts = ap (λ (X : State A). X.interrupts) turn ∙ same.1 in
        record {
          quieted = λ d i w a.
              let was : is_quieted (steps_left S.pnp d) ≡ true = inv.quieted d i w (or_self (is_enabled S.interrupts i) (is_dpc_queued S.dpcs i) (active_before en h d i w (is_enabled S.interrupts i) (ap (λ I. is_enabled I i) ints) a)) in
              subst (λ Q. is_quieted (steps_left Q d) ≡ true) (sym pnp_is) (ended n st d was);
          queued = λ i x at q. queued_stays en h i x at refl refl q;
        }
      where
        ended : (n : ℕ) (st : Step) (d : ℕ) → is_quieted (steps_left S.pnp d) ≡ true → is_quieted (steps_left (pnp.ended S.pnp n st v) d) ≡ true
        ended n st d was = elim (one_or_two d n) [
          | inl e ↦
              let here : sequence_of (pnp.ended S.pnp n st v) n ≡ record (sequence_of S.pnp n) { left = pnp.left_after (sequence_of S.pnp n) st v; running = None } = entry_put_same no_sequence S.pnp.devices n (record (sequence_of S.pnp n) { left = pnp.left_after (sequence_of S.pnp n) st v; running = None }) in
              rw e (ap (λ (q : Sequence). is_quieted q.left) here ∙ ended_quieted (sequence_of S.pnp n) st v (subst (λ y. is_quieted (steps_left S.pnp y) ≡ true) e was))
          | inr e ↦ ap (λ (q : Sequence). is_quieted q.left) (entry_put_other no_sequence S.pnp.devices n d (record (sequence_of S.pnp n) { left = pnp.left_after (sequence_of S.pnp n) st v; running = None }) e) ∙ was
        ]

    ends_by : (b : Bool) → is_sequence (row_of c).rank ≡ b → Serves plan (After en) (es ++ en ∷ [])
    ends_by true is = ends_step is
    ends_by false is = ends_other is

    pub ends : Serves plan (After en) (es ++ en ∷ [])
    ends = ends_by (is_sequence (row_of c).rank) refl

  -- ---- stages

  module _ (n : Handle) (s : Stage) (j : Option Handle) (h : may plan m S (event.Stage n s j) ≡ true) where
    abbrev sv : Event
    sv = event.Stage n s j

    passes_ : may_pass plan S n.id.0 s j ≡ true
    passes_ = both_right (is_proper plan S n) (may_pass plan S n.id.0 s j) h

    ready_s : step_ready S n.id.0 (step.Pass s j) ≡ true
    ready_s = both_left (step_ready S n.id.0 (step.Pass s j)) (stage_ready plan S n.id.0 s j) passes_

    now_s : (same_option same_step (next_step S.pnp n.id.0) (Some (step.Pass s j)) && not (is_running_step S.pnp n.id.0)) ≡ true
    now_s = both_left (same_option same_step (next_step S.pnp n.id.0) (Some (step.Pass s j)) && not (is_running_step S.pnp n.id.0)) _ ready_s

    next_s : steps_left S.pnp n.id.0 ≡ step.Pass s j ∷ drop 1 (steps_left S.pnp n.id.0)
    next_s = found_pass (steps_left S.pnp n.id.0) s j (both_left _ (not (is_running_step S.pnp n.id.0)) now_s)

    idle_s : running_step S.pnp n.id.0 ≡ None
    idle_s = not_running (running_step S.pnp n.id.0) (not_true (is_running_step S.pnp n.id.0) (both_right (same_option same_step (next_step S.pnp n.id.0) (Some (step.Pass s j))) (not (is_running_step S.pnp n.id.0)) now_s))

    allowed : (i : ℕ) → standings.may_pass (watch plan n.id.0 i) s j (k.hold n.id.0 i).standing ≡ true
    allowed i = stage_allowed plan es S.pnp S.power.devices S.interrupts k.hold n s j idle_s next_s i

    sound_s : AllSound plan (stage_deeds plan n.id.0 s j) S
    sound_s = all_sound plan m S sv known h

    after_s : Staged plan m S es resolved known k n.id.0 s j (After sv)
    after_s = staged plan m S es resolved known k n.id.0 s j sound_s.1.1

    enabled_now : (i : ℕ) → is_enabled (After sv).interrupts i ≡ enabling s (is_for i j) (is_enabled S.interrupts i)
    enabled_now i = ap (λ I. is_enabled I i) after_s.interrupts ∙ enabled_after plan m S es resolved known k s j (k.hold n.id.0 0).standing (watch plan n.id.0 0) (allowed 0) i

    safe_s : (i : ℕ) → safe (watch plan n.id.0 i) (drop 1 (steps_left S.pnp n.id.0)) (passes (watch plan n.id.0 i) s j (k.hold n.id.0 i).standing) ≡ true
    safe_s i =
        let w : Watch = watch plan n.id.0 i in
        let a : Standing = (k.hold n.id.0 i).standing in
        let all : safe w (step.Pass s j ∷ drop 1 (steps_left S.pnp n.id.0)) a ≡ true = subst (λ y. owed w y (step.Pass s j ∷ drop 1 (steps_left S.pnp n.id.0)) a ≡ true) idle_s (subst (λ ts. owed w (running_step S.pnp n.id.0) ts a ≡ true) next_s (k.hold n.id.0 i).owed) in
        both_right (standings.may_pass w s j a) (safe w (drop 1 (steps_left S.pnp n.id.0)) (passes w s j a)) all

    passed_left : (s : Stage) (q : Sequence) → (pnp.passed s q).left ≡ q.left
    passed_left stage.Removed q = refl
    passed_left _ q = refl

    left_now : steps_left (pnp.taken S.pnp n.id.0) n.id.0 ≡ drop 1 (steps_left S.pnp n.id.0)
    left_now =
        ap (λ (q : Sequence). q.left) (entry_put_same no_sequence S.pnp.devices n.id.0 (pnp.taken_step (sequence_of S.pnp n.id.0)) ∙ taken_pass (sequence_of S.pnp n.id.0) s j (drop 1 (steps_left S.pnp n.id.0)) next_s)
        ∙ passed_left s (record (sequence_of S.pnp n.id.0) { left = drop 1 (steps_left S.pnp n.id.0) })

    quiet_s : (i : ℕ) → (watch plan n.id.0 i).watched ≡ true → s ≡ stage.Quiet → is_dpc_queued S.dpcs i ≡ false
    quiet_s i w e =
        let t : stage_ready plan S n.id.0 stage.Quiet j ≡ true = subst (λ y. stage_ready plan S n.id.0 y j ≡ true) e (both_right (step_ready S n.id.0 (step.Pass s j)) (stage_ready plan S n.id.0 s j) passes_) in
        let all : list_all (λ x. not (is_dpc_queued S.dpcs x)) (interrupts_of plan n.id.0) ≡ true = both_left (list_all (λ x. not (is_dpc_queued S.dpcs x)) (interrupts_of plan n.id.0)) (not (is_running S.cpus callback.EvtInterruptDpc n.id.0)) t in
        let mine : is_interrupt_of n.id.0 (interrupt_of plan i) ≡ true = both_right (is_some (device_of plan n.id.0)) (is_interrupt_of n.id.0 (interrupt_of plan i)) w in
        let one = once_by plan n.id.0 i true mine in
        not_any (is_dpc_queued S.dpcs) plan i (interrupts_of plan n.id.0) all (omega arith)

    quieted_here : (i : ℕ) → (watch plan n.id.0 i).watched ≡ true → is_active (After sv) i ≡ true → is_quieted (drop 1 (steps_left S.pnp n.id.0)) ≡ true
    quieted_here i w a =
        let held = k.hold n.id.0 i in
        let on_ : held.standing.on ≡ is_enabled S.interrupts i = held.on ∙ rw w refl in
        stage_by (watch plan n.id.0 i) w s j (drop 1 (steps_left S.pnp n.id.0)) held.standing (is_enabled S.interrupts i) (is_dpc_queued S.dpcs i) on_ (quiet_s i w) (safe_s i)
        (λ was. subst (λ ss. is_quieted ss ≡ true) next_s (inv.quieted n.id.0 i w was))
        (active_before sv h n.id.0 i w (enabling s (is_for i j) (is_enabled S.interrupts i)) (enabled_now i) a)

    quieted_there : (d i : ℕ) → d ≢ n.id.0 → (watch plan d i).watched ≡ true → is_active (After sv) i ≡ true → is_quieted (steps_left S.pnp d) ≡ true
    quieted_there d i far w a =
        let same = (not_its plan n s j d i (k.hold n.id.0 i).standing far w (allowed i)).2 (is_enabled S.interrupts i) in
        inv.quieted d i w (or_self (is_enabled S.interrupts i) (is_dpc_queued S.dpcs i) (active_before sv h d i w (is_enabled S.interrupts i) (enabled_now i ∙ same) a))

    enables_told : (s : Stage) (i : ℕ) (x : InterruptInfo) (a : Standing) → interrupt_of plan i ≡ Some x → standings.may_pass (watch plan n.id.0 i) s j a ≡ true → shows (sign.Enabled i) (event.Stage n s j) ≡ true → (n.id.0 ≡ x.device.0) × (a.entered ≡ true)
    enables_told stage.Enabled i x a at may_ shown =
        let w : Watch = watch plan n.id.0 i in
        let mine : is_for i j ≡ true = sym (shown_for i j) ∙ shown in
        let first_ : (a.entered && is_some j && (not (is_for i j) || w.watched)) ≡ true = both_left (a.entered && is_some j && (not (is_for i j) || w.watched)) (not (is_for i j) || not a.on) may_ in
        let its : (not (is_for i j) || w.watched) ≡ true = both_right (a.entered && is_some j) (not (is_for i j) || w.watched) first_ in
        let seen : w.watched ≡ true = subst (λ b. (not b || w.watched) ≡ true) mine its in
        let dev : is_interrupt_of n.id.0 (Some x) ≡ true = subst (λ y. is_interrupt_of n.id.0 y ≡ true) at (both_right (is_some (device_of plan n.id.0)) (is_interrupt_of n.id.0 (interrupt_of plan i)) seen) in
        (sym (eqb-true x.device.0 n.id.0 dev), both_left a.entered (is_some j) (both_left (a.entered && is_some j) (not (is_for i j) || w.watched) first_))
    enables_told _ i x a at may_ shown = absurd (let z : ⊥ = cc in z)

    pub stages : Serves plan (After sv) (es ++ sv ∷ [])
    stages = record {
      quieted = λ d i w a. subst (λ Q. is_quieted (steps_left Q d) ≡ true) (sym after_s.pnp) (elim (one_or_two d n.id.0) [
        | inl e ↦ rw e (ap is_quieted left_now ∙ quieted_here i (subst (λ y. (watch plan y i).watched ≡ true) e w) a)
        | inr e ↦ ap (λ (q : Sequence). is_quieted q.left) (entry_put_other no_sequence S.pnp.devices n.id.0 d (pnp.taken_step (sequence_of S.pnp n.id.0)) e) ∙ quieted_there d i e w a
      ]);
      queued = λ i x at q. elim (cases_Bool (shows (sign.Enabled i) sv)) [
        | inl shown ↦
            let t = enables_told s i x (k.hold n.id.0 i).standing at (allowed i) shown in
            enabled_comes plan x.device.0 es sv i shown (subst (λ y. is_entered plan es y ≡ true) t.0 ((k.hold n.id.0 i).told.entered t.1))
        | inr hidden ↦ queued_stays sv h i x at hidden refl q
      ];
    }

  -- ---- something is asked of a device

  abbrev asked_of : Ask → Sequence → Sequence
  asked_of x q = record q { left = steps_for q.steps q.ever_working q.phase x }

  pub asks : (agent : ℕ) (x : Ask) (device : Handle) (answer : Option Handle) → may plan m S (event.Posted agent (post.Ask x device) answer) ≡ true → Serves plan (After (event.Posted agent (post.Ask x device) answer)) (es ++ event.Posted agent (post.Ask x device) answer ∷ [])
  asks agent x device answer h =
      let e : Event = event.Posted agent (post.Ask x device) answer in
      let free : busy S.pnp device.id.0 ≡ false = not_true (busy S.pnp device.id.0) (both_left (not (busy S.pnp device.id.0)) true (event_fits plan m S e h)) in
      record {
        quieted = λ d i w a. asked d i w free (inv.quieted d i w (or_self (is_enabled S.interrupts i) (is_dpc_queued S.dpcs i) (active_before e h d i w (is_enabled S.interrupts i) refl a)));
        queued = λ i y at q. queued_stays e h i y at refl refl q;
      }
    where
      none_left : (ss : List Step) → not (length ss == 0) ≡ false → ss ≡ []
      none_left [] y = refl
      none_left (s ∷ ss) y = let e : length (s ∷ ss) ≡ 0 = eqb-true (length (s ∷ ss)) 0 (not_false (length (s ∷ ss) == 0) y) in absurd (omega arith)

      asked : (d i : ℕ) → (watch plan d i).watched ≡ true → busy S.pnp device.id.0 ≡ false → is_quieted (steps_left S.pnp d) ≡ true → is_quieted (steps_left (pnp.ask S.pnp device.id.0 x) d) ≡ true
      asked d i w free was = elim (one_or_two d device.id.0) [
        | inl e ↦
            let q : Sequence = sequence_of S.pnp d in
            let parts = either_false (is_running_step S.pnp d) (not (length (steps_left S.pnp d) == 0)) (subst (λ y. busy S.pnp y ≡ false) (sym e) free) in
            let held = k.hold d i in
            let rested : safe (watch plan d i) [] held.standing ≡ true = subst (λ r. owed (watch plan d i) r [] held.standing ≡ true) (not_running (running_step S.pnp d) parts.0) (subst (λ ss. owed (watch plan d i) (running_step S.pnp d) ss held.standing ≡ true) (none_left (steps_left S.pnp d) parts.1) held.owed) in
            let same : sequence_of (pnp.ask S.pnp device.id.0 x) d ≡ asked_of x q = rw e (entry_put_same no_sequence S.pnp.devices device.id.0 (asked_of x (sequence_of S.pnp device.id.0))) in
            ap (λ (y : Sequence). is_quieted y.left) same
            ∙ subst (λ f. is_quieted (steps_for q.steps q.ever_working f x) ≡ true) held.phase (asked_quieted (watch plan d i) w q.steps held.suits q.ever_working held.standing held.plain x rested)
        | inr e ↦ ap (λ (q : Sequence). is_quieted q.left) (entry_put_other no_sequence S.pnp.devices device.id.0 d (asked_of x (sequence_of S.pnp device.id.0)) e) ∙ was
      ]

  -- ---- all events

  posts : (agent : ℕ) (p : Post) (answer : Option Handle) → may plan m S (event.Posted agent p answer) ≡ true → Serves plan (After (event.Posted agent p answer)) (es ++ event.Posted agent p answer ∷ [])
  posts agent (post.Ask x device) answer h = asks agent x device answer h
  posts agent p answer h = calm (event.Posted agent p answer) h (event_none plan S (event.Posted agent p answer) refl) (λ d i. record { entered = refl; exit = refl; enabled = refl; disabled = refl; up = refl; down = refl })

  pub keeps : (e : Event) → may plan m S e ≡ true → Serves plan (After e) (es ++ e ∷ [])
  keeps (event.Start cpu c o r) h = begins cpu c o r h
  keeps (event.End cpu c o v) h = ends cpu c o v h
  keeps (event.Stage n s j) h = stages n s j h
  keeps (event.Posted agent p answer) h = posts agent p answer h
  keeps e h = calm e h (event_none plan S e refl) (λ d i. record { entered = refl; exit = refl; enabled = refl; disabled = refl; up = refl; down = refl })
