-- Each event that may come keeps what holds of devices, of their interrupts, and of the frames of their steps.
use Rattle.std.proofs.Common.{◌≡◌, ◌≢◌, ℕ, ◌==◌, Bool, true, false, not, ◌&&◌, ◌||◌, List, [], ◌∷◌, ◌++◌, inl, inr, Option, Some, None, drop, length, is_some, refl, sym, ap, subst, ◌∙◌, arith}
use Rattle.std.proofs.lemmas.Bool.{eqb-true}
use Rattle.wdf_base.specs.declared.ids.Cpu.{Cpu}
use Rattle.wdf_base.specs.declared.ids.Handle.{Handle}
use Rattle.wdf_base.specs.declared.plan.Plan.{Plan}
use Rattle.wdf_base.specs.declared.value.Value.{Value}
use Rattle.wdf_base.specs.declared.call.Callback.{Callback}
use Rattle.wdf_base.specs.declared.call.Callback.TheVariants as callback
use Rattle.wdf_base.specs.declared.event.Ask.{Ask}
use Rattle.wdf_base.specs.declared.event.Event.{Event}
use Rattle.wdf_base.specs.declared.event.Event.TheVariants as event
use Rattle.wdf_base.specs.declared.event.Stage.{Stage}
use Rattle.wdf_base.specs.declared.event.Stage.TheVariants as stage
use Rattle.wdf_base.specs.declared.event.Step.{Step}
use Rattle.wdf_base.specs.declared.event.Step.TheVariants as step
use Rattle.wdf_base.specs.Same.{same_callback, same_handle, same_option, same_stage, same_step}
use Rattle.wdf_model.specs.declared.entries.DevicePower.{DevicePower}
use Rattle.wdf_model.specs.Tables.{entry, first_of_list}
use Rattle.wdf_model.specs.Plans.{device_of, interrupt_of, is_interrupt_of}
use Rattle.wdf_model.specs.parts.Power.{no_device_power}
use Rattle.wdf_model.specs.parts.Pnp.{Pnp, Sequence, busy, is_running_step, left_after, no_sequence, passed, running_step, sequence_of, steps_for, steps_left, taken_step}
use Rattle.wdf_model.specs.parts.Pnp as pnp
use Rattle.wdf_model.specs.parts.Interrupts.{Interrupts, is_enabled}
use Rattle.wdf_model.proofs.Maps.{entry_put_other, entry_put_same}
use Rattle.wdf_model.proofs.Sames.{callback_decides}
use Rattle.wdf_model.proofs.Tests.{both_left, both_right, either_false, not_false}
use Rattle.wdf_model.proofs.Counts.{equal, not_equal, one_or_two}
use Rattle.wdf_laws.specs.declared.sign.Sign.TheVariants as sign
use Rattle.wdf_laws.specs.Signs.{shows}
use Rattle.wdf_laws.specs.Events.{id_in, is_id, where_so}
use Rattle.law_trace_power.proofs.Standings.{Standing, may_pass}
use Rattle.wdf_base.specs.declared.declared.InterruptInfo.{InterruptInfo}
use Rattle.law_trace_power.specs.Steps.{is_for}
use Rattle.law_trace_power.proofs.Holding.{EndShows, Holds, Silent, asks_for, begins_to, ends_to, nothing, unwatched, watch}
use Rattle.law_trace_power.proofs.Passing.{enabling, may_pass_next, passes_to, power_by}
use Rattle.law_machine_counts.proofs.Sames.{option_handle_is, stage_decides}
use Rattle.wdf_base.specs.Values.{is_success}

-- what holds of each device, with each number for an interrupt
abbrev pub AllHold : Plan → Pnp → List DevicePower → Interrupts → List Event → Type 0
AllHold plan Q D I es = (d i : ℕ) → Holds plan (sequence_of Q d) (entry no_device_power D d) (is_enabled I i) es d i

pub hold_same : (plan : Plan) (Q R : Pnp) (D E : List DevicePower) (I J : Interrupts) (es : List Event) → R ≡ Q → E ≡ D → J ≡ I → AllHold plan Q D I es → AllHold plan R E J es
hold_same plan Q R D E I J es a b c h =
    subst (λ x. AllHold plan x E J es) (sym a) (subst (λ x. AllHold plan Q x J es) (sym b) (subst (λ x. AllHold plan Q D x es) (sym c) h))

pub hold_silent : (plan : Plan) (Q : Pnp) (D : List DevicePower) (I : Interrupts) (es : List Event) (e : Event) → ((d i : ℕ) → Silent d i e) → AllHold plan Q D I es → AllHold plan Q D I (es ++ e ∷ [])
hold_silent plan Q D I es e s h d i = nothing plan es e d i (sequence_of Q d) (entry no_device_power D d) (is_enabled I i) (s d i) (h d i)

-- ---- steps that are found

pub found_run : (ss : List Step) (c : Callback) (j : Option Handle) → same_option same_step (first_of_list ss) (Some (step.Run c j)) ≡ true → ss ≡ step.Run c j ∷ drop 1 ss
found_run [] c j h = absurd (let z : ⊥ = cc in z)
found_run (step.Pass t l ∷ ts) c j h = absurd (let z : ⊥ = cc in z)
found_run (step.Run b l ∷ ts) c j h =
    let same : b ≡ c = (callback_decides b c).0 (both_left (same_callback b c) (same_option same_handle l j) h) in
    let too : l ≡ j = option_handle_is l j (both_right (same_callback b c) (same_option same_handle l j) h) in
    ap (λ x. step.Run x l ∷ ts) same ∙ ap (λ x. step.Run c x ∷ ts) too

pub found_pass : (ss : List Step) (s : Stage) (j : Option Handle) → same_option same_step (first_of_list ss) (Some (step.Pass s j)) ≡ true → ss ≡ step.Pass s j ∷ drop 1 ss
found_pass [] s j h = absurd (let z : ⊥ = cc in z)
found_pass (step.Run b l ∷ ts) s j h = absurd (let z : ⊥ = cc in z)
found_pass (step.Pass t l ∷ ts) s j h =
    let same : t ≡ s = (stage_decides t s).0 (both_left (same_stage t s) (same_option same_handle l j) h) in
    let too : l ≡ j = option_handle_is l j (both_right (same_stage t s) (same_option same_handle l j) h) in
    ap (λ x. step.Pass x l ∷ ts) same ∙ ap (λ x. step.Pass s x ∷ ts) too

pub not_running : (r : Option Step) → is_some r ≡ false → r ≡ None
not_running None h = refl
not_running (Some x) h = absurd (let z : ⊥ = cc in z)

pub taken_run : (q : Sequence) (c : Callback) (j : Option Handle) (ss : List Step) → q.left ≡ step.Run c j ∷ ss → taken_step q ≡ record q { left = ss; running = Some (step.Run c j) }
taken_run q c j ss h = rw h refl

pub taken_pass : (q : Sequence) (s : Stage) (j : Option Handle) (ss : List Step) → q.left ≡ step.Pass s j ∷ ss → taken_step q ≡ passed s (record q { left = ss })
taken_pass q s j ss h = rw h refl

-- ---- what events show

pub start_silent : (cpu : Cpu) (c : Callback) (o : Handle) (r : Option Handle) (d i : ℕ) → same_callback c callback.EvtDeviceD0Exit ≡ false → Silent d i (event.Start cpu c o r)
start_silent cpu c o r d i h = record { entered = rw h refl; exit = rw h refl; enabled = refl; disabled = refl; up = refl; down = refl }

start_elsewhere : (cpu : Cpu) (c : Callback) (o : Handle) (r : Option Handle) (d i : ℕ) (b : Bool) → same_callback c callback.EvtDeviceD0Exit ≡ b → (b ≡ true → (o.id.0 == d) ≡ false) → Silent d i (event.Start cpu c o r)
start_elsewhere cpu c o r d i false e h = start_silent cpu c o r d i e
start_elsewhere cpu c o r d i true e h = record { entered = rw e (h refl); exit = rw e (h refl); enabled = refl; disabled = refl; up = refl; down = refl }

stage_elsewhere : (device : Handle) (s : Stage) (j : Option Handle) (d : ℕ) → (device.id.0 == d) ≡ false
    → (shows (sign.NotEntered d) (event.Stage device s j) ≡ false) × (shows (sign.QueuesUp d) (event.Stage device s j) ≡ false) × (shows (sign.QueuesDown d) (event.Stage device s j) ≡ false) × (shows (sign.ExitBegins d) (event.Stage device s j) ≡ false)
stage_elsewhere device stage.QueuesUp j d h = (refl, h, refl, refl)
stage_elsewhere device stage.QueuesDown j d h = (refl, refl, h, refl)
stage_elsewhere device _ j d h = (refl, refl, refl, refl)

pub end_elsewhere : (cpu : Cpu) (c : Callback) (o : Handle) (v : Value) (d i : ℕ) (b : Bool) → same_callback c callback.EvtDeviceD0Entry ≡ b → (b ≡ true → (o.id.0 == d) ≡ false) → Silent d i (event.End cpu c o v)
end_elsewhere cpu c o v d i false e h = record { entered = rw e refl; exit = refl; enabled = refl; disabled = refl; up = refl; down = refl }
end_elsewhere cpu c o v d i true e h = record { entered = rw e (nowhere (not (is_success v))); exit = refl; enabled = refl; disabled = refl; up = refl; down = refl }
  where
    nowhere : (b : Bool) → (is_id d (where_so b (Some o.id.0)) || false) ≡ false
    nowhere true = rw (h refl) refl
    nowhere false = refl

end_shows : (plan : Plan) (es : List Event) (cpu : Cpu) (c : Callback) (o : Handle) (v : Value) (d i : ℕ) → (same_callback c callback.EvtDeviceD0Entry ≡ true → o.id.0 ≡ d) → EndShows plan es (event.End cpu c o v) d i c (is_success v)
end_shows plan es cpu c o v d i on = record {
  quiet = λ e. rw e refl;
  enters = λ e well. rw (e, well) (equal o.id.0 d (on e));
  exit = refl;
  enabled = refl;
  disabled = refl;
  up = refl;
  down = refl;
}

pub both_of : (d n : ℕ) (x : Option InterruptInfo) → is_interrupt_of d x ≡ true → is_interrupt_of n x ≡ true → d ≡ n
both_of d n None h k = absurd (let z : ⊥ = cc in z)
both_of d n (Some y) h k = sym (eqb-true y.device.0 d h) ∙ eqb-true y.device.0 n k

-- a stage of another device isn't one of this device's interrupt
not_for : (plan : Plan) (n d i : ℕ) (mine : Bool) → d ≢ n → (watch plan d i).watched ≡ true → (not mine || (watch plan n i).watched) ≡ true → mine ≡ false
not_for plan n d i true m w may =
    absurd (m (both_of d n (interrupt_of plan i) (both_right (is_some (device_of plan d)) (is_interrupt_of d (interrupt_of plan i)) w) (both_right (is_some (device_of plan n)) (is_interrupt_of n (interrupt_of plan i)) may)))
not_for plan n d i false m w may = refl

pub shown_for : (i : ℕ) (j : Option Handle) → is_id i (id_in j) ≡ is_for i j
shown_for i None = refl
shown_for i (Some x) = refl

pub not_its : (plan : Plan) (n : Handle) (s : Stage) (j : Option Handle) (d i : ℕ) (a : Standing) → d ≢ n.id.0 → (watch plan d i).watched ≡ true → may_pass (watch plan n.id.0 i) s j a ≡ true
    → (shows (sign.Enabled i) (event.Stage n s j) ≡ false) × (shows (sign.Disabled i) (event.Stage n s j) ≡ false) × ((x : Bool) → enabling s (is_for i j) x ≡ x)
not_its plan n stage.Enabled j d i a m w may =
    let it : is_for i j ≡ false = not_for plan n.id.0 d i (is_for i j) m w (both_right (a.entered && is_some j) (not (is_for i j) || (watch plan n.id.0 i).watched) (both_left (a.entered && is_some j && (not (is_for i j) || (watch plan n.id.0 i).watched)) (not (is_for i j) || not a.on) may)) in
    (shown_for i j ∙ it, refl, λ x. rw it refl)
not_its plan n stage.Disabled j d i a m w may =
    let it : is_for i j ≡ false = not_for plan n.id.0 d i (is_for i j) m w (both_right (is_some j) (not (is_for i j) || (watch plan n.id.0 i).watched) (both_left (is_some j && (not (is_for i j) || (watch plan n.id.0 i).watched)) (not (is_for i j) || a.on) may)) in
    (refl, shown_for i j ∙ it, λ x. rw it refl)
not_its plan n _ j d i a m w may = (refl, refl, λ x. refl)

-- ---- a step is taken, and its callback begins

module _ (plan : Plan) (es : List Event) (Q : Pnp) (D : List DevicePower) (I : Interrupts) (h : AllHold plan Q D I es) where
  pub hold_begun : (n : ℕ) (c : Callback) (j : Option Handle) (cpu : Cpu) (o : Handle) (r : Option Handle) → running_step Q n ≡ None → steps_left Q n ≡ step.Run c j ∷ drop 1 (steps_left Q n)
      → (same_callback c callback.EvtDeviceD0Exit ≡ true → o.id.0 ≡ n) → AllHold plan (pnp.taken Q n) D I (es ++ event.Start cpu c o r ∷ [])
  hold_begun n c j cpu o r idle next on d i = elim (one_or_two d n) [
    | inl e ↦
        let e_too : n ≡ d = sym e in
        let same : sequence_of (pnp.taken Q n) d ≡ taken_step (sequence_of Q d) = rw e (entry_put_same no_sequence Q.devices n (taken_step (sequence_of Q n))) in
        let here : (sequence_of Q d).left ≡ step.Run c j ∷ drop 1 (sequence_of Q d).left = rw e next in
        subst (λ q. Holds plan q (entry no_device_power D d) (is_enabled I i) (es ++ event.Start cpu c o r ∷ []) d i) (sym (same ∙ taken_run (sequence_of Q d) c j (drop 1 (sequence_of Q d).left) here))
        (begins_to plan es (event.Start cpu c o r) d i (sequence_of Q d) (entry no_device_power D d) (is_enabled I i) c j (drop 1 (sequence_of Q d).left) (rw e idle) here (λ x. start_silent cpu c o r d i x) (h d i))
    | inr m ↦
        let same : sequence_of (pnp.taken Q n) d ≡ sequence_of Q d = entry_put_other no_sequence Q.devices n d (taken_step (sequence_of Q n)) m in
        subst (λ q. Holds plan q (entry no_device_power D d) (is_enabled I i) (es ++ event.Start cpu c o r ∷ []) d i) (sym same)
        (nothing plan es (event.Start cpu c o r) d i (sequence_of Q d) (entry no_device_power D d) (is_enabled I i)
        (start_elsewhere cpu c o r d i (same_callback c callback.EvtDeviceD0Exit) refl (λ x. not_equal o.id.0 d (λ y. m (sym y ∙ on x)))) (h d i))
  ]

  -- ---- something is asked of a device

  pub hold_asked : (n : ℕ) (a : Ask) (e : Event) → busy Q n ≡ false → ((d i : ℕ) → Silent d i e) → AllHold plan (pnp.ask Q n a) D I (es ++ e ∷ [])
  hold_asked n a e free s d i = elim (one_or_two d n) [
    | inl x ↦
        let parts = either_false (is_running_step Q d) (not (length (steps_left Q d) == 0)) (subst (λ y. busy Q y ≡ false) (sym x) free) in
        let same : sequence_of (pnp.ask Q n a) d ≡ record (sequence_of Q d) { left = steps_for (sequence_of Q d).steps (sequence_of Q d).ever_working (sequence_of Q d).phase a } =
        rw x (entry_put_same no_sequence Q.devices n (record (sequence_of Q n) { left = steps_for (sequence_of Q n).steps (sequence_of Q n).ever_working (sequence_of Q n).phase a })) in
        subst (λ q. Holds plan q (entry no_device_power D d) (is_enabled I i) (es ++ e ∷ []) d i) (sym same)
        (asks_for plan es e d i (sequence_of Q d) (entry no_device_power D d) (is_enabled I i) a (not_running (running_step Q d) parts.0) (none_left (steps_left Q d) parts.1) (s d i) (h d i))
    | inr m ↦
        let same : sequence_of (pnp.ask Q n a) d ≡ sequence_of Q d = entry_put_other no_sequence Q.devices n d (record (sequence_of Q n) { left = steps_for (sequence_of Q n).steps (sequence_of Q n).ever_working (sequence_of Q n).phase a }) m in
        subst (λ q. Holds plan q (entry no_device_power D d) (is_enabled I i) (es ++ e ∷ []) d i) (sym same)
        (nothing plan es e d i (sequence_of Q d) (entry no_device_power D d) (is_enabled I i) (s d i) (h d i))
  ]
    where
      none_left : (ss : List Step) → not (length ss == 0) ≡ false → ss ≡ []
      none_left [] x = refl
      none_left (s ∷ ss) x = let e : length (s ∷ ss) ≡ 0 = eqb-true (length (s ∷ ss)) 0 (not_false (length (s ∷ ss) == 0) x) in absurd (omega arith)

  -- ---- a step's callback ends

  pub hold_ended : (n : ℕ) (c : Callback) (j l : Option Handle) (cpu : Cpu) (o : Handle) (v : Value) → running_step Q n ≡ Some (step.Run c j) → (same_callback c callback.EvtDeviceD0Entry ≡ true → o.id.0 ≡ n)
      → AllHold plan (pnp.ended Q n (step.Run c l) v) D I (es ++ event.End cpu c o v ∷ [])
  hold_ended n c j l cpu o v here on d i = elim (one_or_two d n) [
    | inl e ↦
        let same : sequence_of (pnp.ended Q n (step.Run c l) v) d ≡ record (sequence_of Q d) { left = left_after (sequence_of Q d) (step.Run c l) v; running = None } =
        rw e (entry_put_same no_sequence Q.devices n (record (sequence_of Q n) { left = left_after (sequence_of Q n) (step.Run c l) v; running = None })) in
        subst (λ q. Holds plan q (entry no_device_power D d) (is_enabled I i) (es ++ event.End cpu c o v ∷ []) d i) (sym same)
        (ends_to plan es (event.End cpu c o v) d i (sequence_of Q d) (entry no_device_power D d) (is_enabled I i) c j l v (rw e here)
        (end_shows plan es cpu c o v d i (λ x. on x ∙ sym e)) (h d i))
    | inr m ↦
        let same : sequence_of (pnp.ended Q n (step.Run c l) v) d ≡ sequence_of Q d = entry_put_other no_sequence Q.devices n d (record (sequence_of Q n) { left = left_after (sequence_of Q n) (step.Run c l) v; running = None }) m in
        subst (λ q. Holds plan q (entry no_device_power D d) (is_enabled I i) (es ++ event.End cpu c o v ∷ []) d i) (sym same)
        (nothing plan es (event.End cpu c o v) d i (sequence_of Q d) (entry no_device_power D d) (is_enabled I i)
        (end_elsewhere cpu c o v d i (same_callback c callback.EvtDeviceD0Entry) refl (λ x. not_equal o.id.0 d (λ y. m (sym y ∙ on x)))) (h d i))
  ]

  -- ---- a stage is passed

  pub stage_allowed : (n : Handle) (s : Stage) (j : Option Handle) → running_step Q n.id.0 ≡ None → steps_left Q n.id.0 ≡ step.Pass s j ∷ drop 1 (steps_left Q n.id.0) → (i : ℕ) → may_pass (watch plan n.id.0 i) s j (h n.id.0 i).standing ≡ true
  stage_allowed n s j idle next i = may_pass_next plan es n i (sequence_of Q n.id.0) (entry no_device_power D n.id.0) (is_enabled I i) s j (drop 1 (steps_left Q n.id.0)) idle next (h n.id.0 i)

  hold_elsewhere : (n : Handle) (s : Stage) (j : Option Handle) (d i : ℕ) → d ≢ n.id.0 → may_pass (watch plan n.id.0 i) s j (h n.id.0 i).standing ≡ true → (b : Bool) → (watch plan d i).watched ≡ b
      → Holds plan (sequence_of Q d) (entry no_device_power D d) (enabling s (is_for i j) (is_enabled I i)) (es ++ event.Stage n s j ∷ []) d i
  hold_elsewhere n s j d i m may false w =
      let signs = stage_elsewhere n s j d (not_equal n.id.0 d (λ y. m (sym y))) in
      unwatched plan es (event.Stage n s j) d i (sequence_of Q d) (entry no_device_power D d) (is_enabled I i) (enabling s (is_for i j) (is_enabled I i)) w signs.0 signs.1 signs.2 signs.3 (h d i)
  hold_elsewhere n s j d i m may true w =
      let signs = stage_elsewhere n s j d (not_equal n.id.0 d (λ y. m (sym y))) in
      let t = not_its plan n s j d i (h n.id.0 i).standing m w may in
      subst (λ x. Holds plan (sequence_of Q d) (entry no_device_power D d) x (es ++ event.Stage n s j ∷ []) d i) (sym (t.2 (is_enabled I i)))
      (nothing plan es (event.Stage n s j) d i (sequence_of Q d) (entry no_device_power D d) (is_enabled I i)
      (record { entered = signs.0; exit = signs.3; enabled = t.0; disabled = t.1; up = signs.1; down = signs.2 }) (h d i))

  pub hold_passed : (n : Handle) (s : Stage) (j : Option Handle) (E : List DevicePower) (J : Interrupts) → running_step Q n.id.0 ≡ None → steps_left Q n.id.0 ≡ step.Pass s j ∷ drop 1 (steps_left Q n.id.0)
      → entry no_device_power E n.id.0 ≡ power_by s (entry no_device_power D n.id.0) → ((d : ℕ) → d ≢ n.id.0 → entry no_device_power E d ≡ entry no_device_power D d) → ((i : ℕ) → is_enabled J i ≡ enabling s (is_for i j) (is_enabled I i))
      → AllHold plan (pnp.taken Q n.id.0) E J (es ++ event.Stage n s j ∷ [])
  hold_passed n s j E J idle next here others ints d i = elim (one_or_two d n.id.0) [
    | inl e ↦
        let same : sequence_of (pnp.taken Q n.id.0) n.id.0 ≡ taken_step (sequence_of Q n.id.0) = entry_put_same no_sequence Q.devices n.id.0 (taken_step (sequence_of Q n.id.0)) in
        rw e (
        subst (λ q. Holds plan q (entry no_device_power E n.id.0) (is_enabled J i) (es ++ event.Stage n s j ∷ []) n.id.0 i) (sym (same ∙ taken_pass (sequence_of Q n.id.0) s j (drop 1 (steps_left Q n.id.0)) next))
        (subst (λ p. Holds plan (passed s (record (sequence_of Q n.id.0) { left = drop 1 (steps_left Q n.id.0) })) p (is_enabled J i) (es ++ event.Stage n s j ∷ []) n.id.0 i) (sym here)
        (subst (λ x. Holds plan (passed s (record (sequence_of Q n.id.0) { left = drop 1 (steps_left Q n.id.0) })) (power_by s (entry no_device_power D n.id.0)) x (es ++ event.Stage n s j ∷ []) n.id.0 i) (sym (ints i))
        (passes_to plan es n i (sequence_of Q n.id.0) (entry no_device_power D n.id.0) (is_enabled I i) s j (drop 1 (steps_left Q n.id.0)) idle next (h n.id.0 i)))))
    | inr m ↦
        let same : sequence_of (pnp.taken Q n.id.0) d ≡ sequence_of Q d = entry_put_other no_sequence Q.devices n.id.0 d (taken_step (sequence_of Q n.id.0)) m in
        subst (λ q. Holds plan q (entry no_device_power E d) (is_enabled J i) (es ++ event.Stage n s j ∷ []) d i) (sym same)
        (subst (λ p. Holds plan (sequence_of Q d) p (is_enabled J i) (es ++ event.Stage n s j ∷ []) d i) (sym (others d m))
        (subst (λ x. Holds plan (sequence_of Q d) (entry no_device_power D d) x (es ++ event.Stage n s j ∷ []) d i) (sym (ints i))
        (hold_elsewhere n s j d i m (stage_allowed n s j idle next i) (watch plan d i).watched refl)))
  ]
