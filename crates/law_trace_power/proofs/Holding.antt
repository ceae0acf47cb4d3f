-- What holds of a device and one of its interrupts, and is kept by each thing that happens to the device.
use Rattle.std.proofs.Common.{if◌then◌else◌, ◌≡◌, ℕ, Bool, true, false, not, ◌&&◌, ◌||◌, List, [], ◌∷◌, ◌++◌, Option, Some, None, is_some, refl, sym, subst, ◌∙◌}
use Rattle.wdf_base.specs.declared.ids.Handle.{Handle}
use Rattle.wdf_base.specs.declared.plan.Plan.{Plan}
use Rattle.wdf_base.specs.declared.value.Value.{Value}
use Rattle.wdf_base.specs.declared.call.Callback.{Callback}
use Rattle.wdf_base.specs.declared.call.Callback.TheVariants as callback
use Rattle.wdf_base.specs.declared.event.Ask.{Ask}
use Rattle.wdf_base.specs.declared.event.Event.{Event}
use Rattle.wdf_base.specs.declared.event.Step.{Step}
use Rattle.wdf_base.specs.declared.event.Step.TheVariants as step
use Rattle.wdf_base.specs.Same.{same_callback}
use Rattle.wdf_model.specs.Plans.{declares, device_of, interrupt_of, is_interrupt_of}
use Rattle.wdf_model.specs.declared.entries.DevicePower.{DevicePower}
use Rattle.wdf_model.specs.parts.Pnp.{Sequence, left_after, left_after_failure, steps_for}
use Rattle.wdf_model.proofs.Tests.{both, both_left, both_right, first, not_true, second}
use Rattle.wdf_laws.specs.declared.sign.Sign.TheVariants as sign
use Rattle.wdf_laws.specs.Signs.{shows}
use Rattle.wdf_laws.specs.Words.{stands}
use Rattle.wdf_laws.specs.Laws.{is_enabled_in_power, is_entered}
use Rattle.law_trace_power.proofs.Standings.{Standing, Watch, begins, could_fail, fails, may_begin, owed, safe, succeeds, succeeded_same}
use Rattle.law_trace_power.proofs.Lists.{Suits, not_either}
use Rattle.law_trace_power.proofs.Begun.{asked, failed}
use Rattle.law_trace_power.proofs.Tellings.{enabled_stays, entered_comes, entered_stays, power_stays, powered, stays}
use Rattle.wdf_base.specs.Values.{is_success}

abbrev pub watch : Plan → ℕ → ℕ → Watch
watch plan d i = record {
  entry = declares plan callback.EvtDeviceD0Entry d;
  watched = is_some (device_of plan d) && is_interrupt_of d (interrupt_of plan i);
  interrupt = i;
}

-- what the events say of where the device is
pub record Told (plan : Plan) (es : List Event) (d i : ℕ) (a : Standing) : Type 0 where
  pub entered : a.entered ≡ true → is_entered plan es d ≡ true
  pub since : (watch plan d i).watched ≡ true → a.since ≡ true → is_enabled_in_power plan es i d ≡ true
  pub on : a.on ≡ true → is_enabled_in_power plan es i d ≡ true
  pub lasting : a.on ≡ true → stands (sign.Enabled i) (sign.Disabled i) es ≡ true
  pub power : a.up ≡ true → powered plan es d ≡ true

-- of a device's sequence, its power and whether the interrupt is enabled
pub record Holds (plan : Plan) (q : Sequence) (p : DevicePower) (enabled : Bool) (es : List Event) (d i : ℕ) : Type 0 where
  pub standing : Standing
  pub suits : Suits (watch plan d i) q.steps
  pub phase : standing.phase ≡ q.phase
  pub up : standing.up ≡ p.up
  pub hardware : standing.hardware ≡ p.hardware
  pub on : standing.on ≡ ((watch plan d i).watched && enabled)
  pub plain : ((watch plan d i).entry || standing.entered) ≡ true
  pub owed : owed (watch plan d i) q.running q.left standing ≡ true
  pub told : Told plan es d i standing

-- an event says nothing of the device and of the interrupt
pub record Silent (d i : ℕ) (e : Event) : Type 0 where
  pub entered : shows (sign.NotEntered d) e ≡ false
  pub exit : shows (sign.ExitBegins d) e ≡ false
  pub enabled : shows (sign.Enabled i) e ≡ false
  pub disabled : shows (sign.Disabled i) e ≡ false
  pub up : shows (sign.QueuesUp d) e ≡ false
  pub down : shows (sign.QueuesDown d) e ≡ false

module _ (plan : Plan) (es : List Event) (e : Event) (d i : ℕ) where
  pub told_silent : (a : Standing) → Silent d i e → Told plan es d i a → Told plan (es ++ e ∷ []) d i a
  told_silent a s k = record {
    entered = λ h. entered_stays plan d es e s.entered (k.entered h);
    since = λ w h. enabled_stays plan d es e i s.enabled s.exit (k.since w h);
    on = λ h. enabled_stays plan d es e i s.enabled s.exit (k.on h);
    lasting = λ h. stays (sign.Enabled i) (sign.Disabled i) es e s.disabled (k.lasting h);
    power = λ h. power_stays plan d es e s.up s.down s.exit (k.power h);
  }

  pub nothing : (q : Sequence) (p : DevicePower) (enabled : Bool) → Silent d i e → Holds plan q p enabled es d i → Holds plan q p enabled (es ++ e ∷ []) d i
  nothing q p enabled s k = record { standing = k.standing; suits = k.suits; phase = k.phase; up = k.up; hardware = k.hardware; on = k.on; plain = k.plain; owed = k.owed; told = told_silent k.standing s k.told }

  -- where the interrupt isn't watched, events on it say nothing
  told_unwatched : (a : Standing) → (watch plan d i).watched ≡ false → a.on ≡ false → shows (sign.NotEntered d) e ≡ false → shows (sign.QueuesUp d) e ≡ false → shows (sign.QueuesDown d) e ≡ false → shows (sign.ExitBegins d) e ≡ false
      → Told plan es d i a → Told plan (es ++ e ∷ []) d i a
  told_unwatched a off none entered up down exit k = record {
    entered = λ h. entered_stays plan d es e entered (k.entered h);
    since = λ w h. absurd (let z : ⊥ = cc in z);
    on = λ h. absurd (let z : ⊥ = cc in z);
    lasting = λ h. absurd (let z : ⊥ = cc in z);
    power = λ h. power_stays plan d es e up down exit (k.power h);
  }

  pub unwatched : (q : Sequence) (p : DevicePower) (x y : Bool) → (watch plan d i).watched ≡ false → shows (sign.NotEntered d) e ≡ false → shows (sign.QueuesUp d) e ≡ false → shows (sign.QueuesDown d) e ≡ false → shows (sign.ExitBegins d) e ≡ false
      → Holds plan q p x es d i → Holds plan q p y (es ++ e ∷ []) d i
  unwatched q p x y off entered up down exit k =
      let none : k.standing.on ≡ false = k.on ∙ rw off refl in
      record { standing = k.standing; suits = k.suits; phase = k.phase; up = k.up; hardware = k.hardware; on = none ∙ rw off refl; plain = k.plain; owed = k.owed; told = told_unwatched k.standing off none entered up down exit k.told }

  -- ---- a list of steps begins

  pub asks_for : (q : Sequence) (p : DevicePower) (enabled : Bool) (x : Ask) → q.running ≡ None → q.left ≡ [] → Silent d i e → Holds plan q p enabled es d i
      → Holds plan (record q { left = steps_for q.steps q.ever_working q.phase x }) p enabled (es ++ e ∷ []) d i
  asks_for q p enabled x idle none s k =
      let w : Watch = watch plan d i in
      let rested : safe w [] k.standing ≡ true = subst (λ r. owed w r [] k.standing ≡ true) idle (subst (λ ss. owed w q.running ss k.standing ≡ true) none k.owed) in
      record {
        standing = k.standing;
        suits = k.suits;
        phase = k.phase;
        up = k.up;
        hardware = k.hardware;
        on = k.on;
        plain = k.plain;
        owed = subst (λ r. owed w r (steps_for q.steps q.ever_working q.phase x) k.standing ≡ true) (sym idle)
            (subst (λ f. safe w (steps_for q.steps q.ever_working f x) k.standing ≡ true) k.phase (asked w q.steps k.suits q.ever_working k.standing k.plain x rested));
        told = told_silent k.standing s k.told;
      }

  -- ---- a step's callback begins

  told_begins : (c : Callback) (j : Option Handle) (a : Standing) → may_begin (watch plan d i) c j a ≡ true → (same_callback c callback.EvtDeviceD0Exit ≡ false → Silent d i e) → Told plan es d i a → Told plan (es ++ e ∷ []) d i (begins (watch plan d i) c a)
  told_begins callback.EvtDeviceD0Exit j a m s k =
      let w : Watch = watch plan d i in
      let t : (not a.up && not a.on) ≡ true = both_left (not a.up && not a.on) (not w.watched || a.clean) m in
      let up : a.up ≡ false = not_true a.up (both_left (not a.up) (not a.on) t) in
      let on : a.on ≡ false = not_true a.on (both_right (not a.up) (not a.on) t) in
      record {
        entered = λ h. first (not (declares plan callback.EvtDeviceD0Entry d)) (stands (sign.Entered d) (sign.NotEntered d) (es ++ e ∷ [])) h;
        since = λ x h. absurd (let z : ⊥ = cc in z);
        on = λ h. absurd (let z : ⊥ = cc in z);
        lasting = λ h. absurd (let z : ⊥ = cc in z);
        power = λ h. absurd (let z : ⊥ = cc in z);
      }
  told_begins _ j a m s k = told_silent a (s refl) k

  begun_plain : (w : Watch) (c : Callback) (a : Standing) → (w.entry || a.entered) ≡ true → (w.entry || (begins w c a).entered) ≡ true
  begun_plain w callback.EvtDeviceD0Exit a h = not_either w w.entry
  begun_plain w _ a h = h

  begun_same : (w : Watch) (c : Callback) (a : Standing) → ((begins w c a).phase ≡ a.phase) × ((begins w c a).up ≡ a.up) × ((begins w c a).hardware ≡ a.hardware) × ((begins w c a).on ≡ a.on)
  begun_same w callback.EvtDeviceD0Exit a = (refl, refl, refl, refl)
  begun_same w _ a = (refl, refl, refl, refl)

  pub begins_to : (q : Sequence) (p : DevicePower) (enabled : Bool) (c : Callback) (j : Option Handle) (ss : List Step) → q.running ≡ None → q.left ≡ step.Run c j ∷ ss → (same_callback c callback.EvtDeviceD0Exit ≡ false → Silent d i e) → Holds plan q p enabled es d i
      → Holds plan (record q { left = ss; running = Some (step.Run c j) }) p enabled (es ++ e ∷ []) d i
  begins_to q p enabled c j ss idle here s k =
      let w : Watch = watch plan d i in
      let a : Standing = k.standing in
      let is : safe w (step.Run c j ∷ ss) a ≡ true = subst (λ r. owed w r (step.Run c j ∷ ss) a ≡ true) idle (subst (λ ts. owed w q.running ts a ≡ true) here k.owed) in
      let now : (may_begin w c j a && could_fail w c (begins w c a)) ≡ true = both_left (may_begin w c j a && could_fail w c (begins w c a)) (safe w ss (succeeds c (begins w c a))) is in
      let same = begun_same w c a in
      record {
        standing = begins w c a;
        suits = k.suits;
        phase = same.0 ∙ k.phase;
        up = same.1 ∙ k.up;
        hardware = same.2 ∙ k.hardware;
        on = same.3 ∙ k.on;
        plain = begun_plain w c a k.plain;
        owed = both (could_fail w c (begins w c a)) (safe w ss (succeeds c (begins w c a))) (both_right (may_begin w c j a) (could_fail w c (begins w c a)) now) (both_right (may_begin w c j a && could_fail w c (begins w c a)) (safe w ss (succeeds c (begins w c a))) is);
        told = told_begins c j a (both_left (may_begin w c j a) (could_fail w c (begins w c a)) now) s k.told;
      }

  -- ---- a step's callback ends

  -- what an end shows: that of EvtDeviceD0Entry whether the device is entered
  pub record EndShows (c : Callback) (well : Bool) : Type 0 where
    pub quiet : same_callback c callback.EvtDeviceD0Entry ≡ false → shows (sign.NotEntered d) e ≡ false
    pub enters : same_callback c callback.EvtDeviceD0Entry ≡ true → well ≡ true → shows (sign.Entered d) e ≡ true
    pub exit : shows (sign.ExitBegins d) e ≡ false
    pub enabled : shows (sign.Enabled i) e ≡ false
    pub disabled : shows (sign.Disabled i) e ≡ false
    pub up : shows (sign.QueuesUp d) e ≡ false
    pub down : shows (sign.QueuesDown d) e ≡ false

  told_entry : (c : Callback) (well x : Bool) (a : Standing) → EndShows c well → (x ≡ true → is_entered plan (es ++ e ∷ []) d ≡ true) → Told plan es d i a → Told plan (es ++ e ∷ []) d i (record a { entered = x })
  told_entry c well x a s h k = record {
    entered = h;
    since = λ w h. enabled_stays plan d es e i s.enabled s.exit (k.since w h);
    on = λ h. enabled_stays plan d es e i s.enabled s.exit (k.on h);
    lasting = λ h. stays (sign.Enabled i) (sign.Disabled i) es e s.disabled (k.lasting h);
    power = λ h. power_stays plan d es e s.up s.down s.exit (k.power h);
  }

  silent_end : (c : Callback) (well : Bool) → EndShows c well → same_callback c callback.EvtDeviceD0Entry ≡ false → Silent d i e
  silent_end c well s n = record { entered = s.quiet n; exit = s.exit; enabled = s.enabled; disabled = s.disabled; up = s.up; down = s.down }

  told_success : (c : Callback) (a : Standing) → EndShows c true → Told plan es d i a → Told plan (es ++ e ∷ []) d i (succeeds c a)
  told_success callback.EvtDeviceD0Entry a s k = told_entry callback.EvtDeviceD0Entry true true a s (λ h. entered_comes plan d es e (s.enters refl refl)) k
  told_success c a s k = told_silent a (silent_end c true s refl) k

  told_failure : (c : Callback) (a : Standing) → EndShows c false → Told plan es d i a → Told plan (es ++ e ∷ []) d i (fails (watch plan d i) c a)
  told_failure callback.EvtDeviceD0Entry a s k =
      told_entry callback.EvtDeviceD0Entry false (not (watch plan d i).entry) a s (λ h. first (not (declares plan callback.EvtDeviceD0Entry d)) (stands (sign.Entered d) (sign.NotEntered d) (es ++ e ∷ [])) h) k
  told_failure c a s k = told_silent a (silent_end c false s refl) k

  failed_same : (w : Watch) (c : Callback) (a : Standing) → ((fails w c a).phase ≡ a.phase) × ((fails w c a).up ≡ a.up) × ((fails w c a).hardware ≡ a.hardware) × ((fails w c a).on ≡ a.on)
  failed_same w callback.EvtDeviceD0Entry a = (refl, refl, refl, refl)
  failed_same w _ a = (refl, refl, refl, refl)

  succeeded_plain : (w : Watch) (c : Callback) (a : Standing) → (w.entry || a.entered) ≡ true → (w.entry || (succeeds c a).entered) ≡ true
  succeeded_plain w callback.EvtDeviceD0Entry a h = second w.entry true refl
  succeeded_plain w _ a h = h

  failed_plain : (w : Watch) (c : Callback) (a : Standing) → (w.entry || a.entered) ≡ true → (w.entry || (fails w c a).entered) ≡ true
  failed_plain w callback.EvtDeviceD0Entry a h = not_either w w.entry
  failed_plain w _ a h = h

  ends_by : (q : Sequence) (p : DevicePower) (enabled : Bool) (c : Callback) (j l : Option Handle) (v : Value) (b : Bool) → is_success v ≡ b → q.running ≡ Some (step.Run c j) → EndShows c b → Holds plan q p enabled es d i
      → Holds plan (record q { left = left_after q (step.Run c l) v; running = None }) p enabled (es ++ e ∷ []) d i
  ends_by q p enabled c j l v true is here s k =
      let w : Watch = watch plan d i in
      let a : Standing = k.standing in
      let o : (could_fail w c a && safe w q.left (succeeds c a)) ≡ true = subst (λ r. owed w r q.left a ≡ true) here k.owed in
      let same = succeeded_same c a in
      record {
        standing = succeeds c a;
        suits = k.suits;
        phase = same.0 ∙ k.phase;
        up = same.1 ∙ k.up;
        hardware = same.2 ∙ k.hardware;
        on = same.3 ∙ k.on;
        plain = succeeded_plain w c a k.plain;
        owed = subst (λ (x : Bool). safe w (if x then q.left else left_after_failure q c) (succeeds c a) ≡ true) (sym is) (both_right (could_fail w c a) (safe w q.left (succeeds c a)) o);
        told = told_success c a s k.told;
      }
  ends_by q p enabled c j l v false is here s k =
      let w : Watch = watch plan d i in
      let a : Standing = k.standing in
      let o : (could_fail w c a && safe w q.left (succeeds c a)) ≡ true = subst (λ r. owed w r q.left a ≡ true) here k.owed in
      let same = failed_same w c a in
      record {
        standing = fails w c a;
        suits = k.suits;
        phase = same.0 ∙ k.phase;
        up = same.1 ∙ k.up;
        hardware = same.2 ∙ k.hardware;
        on = same.3 ∙ k.on;
        plain = failed_plain w c a k.plain;
        owed = subst (λ (x : Bool). safe w (if x then q.left else left_after_failure q c) (fails w c a) ≡ true) (sym is) (failed w q k.suits c a k.plain o);
        told = told_failure c a s k.told;
      }

  pub ends_to : (q : Sequence) (p : DevicePower) (enabled : Bool) (c : Callback) (j l : Option Handle) (v : Value) → q.running ≡ Some (step.Run c j) → EndShows c (is_success v) → Holds plan q p enabled es d i
      → Holds plan (record q { left = left_after q (step.Run c l) v; running = None }) p enabled (es ++ e ∷ []) d i
  ends_to q p enabled c j l v here s k = ends_by q p enabled c j l v (is_success v) refl here s k
