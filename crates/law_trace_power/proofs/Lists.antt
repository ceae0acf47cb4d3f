-- Each list of steps passes the test, from where the device is when the list begins.
use Rattle.std.proofs.Common.{if◌then◌else◌, ◌≡◌, ◌+◌, ◌==◌, Bool, true, false, not, ◌&&◌, ◌||◌, List, [], ◌∷◌, ◌++◌, reverse, count_by, Option, Some, None, refl, sym, ap, subst, ◌∙◌, arith}
use Rattle.std.specs.Bool.{beq}
use Rattle.std.specs.List.{flat_map, list_any}
use Rattle.std.proofs.lemmas.List.{reverse-append}
use Rattle.std.proofs.lemmas.List.Concat.{flat_map-cons}
use Rattle.std.proofs.Math.Bool.{and-false, and-true, or-false, or-true}
use Rattle.wdf_base.specs.declared.ids.Handle.{Handle}
use Rattle.wdf_base.specs.declared.call.Callback.{Callback}
use Rattle.wdf_base.specs.declared.call.Callback.TheVariants as callback
use Rattle.wdf_base.specs.declared.event.Stage.{Stage}
use Rattle.wdf_base.specs.declared.event.Stage.TheVariants as stage
use Rattle.wdf_base.specs.declared.event.Step.TheVariants as step
use Rattle.wdf_base.specs.Same.{same_callback}
use Rattle.wdf_model.specs.declared.enums.Phase.{Phase}
use Rattle.wdf_model.specs.declared.enums.Phase.TheVariants.{Working, Sleeping, Removed}
use Rattle.wdf_model.specs.Tables.{flag}
use Rattle.wdf_model.specs.parts.Pnp.{DeviceSteps, InterruptSteps, disable_steps, down_steps, enable_steps, end_steps, flush_steps, hard_steps, pass, quiet_steps, run, run_if, self_managed_start, tail_steps, up_steps}
use Rattle.wdf_model.proofs.Counts.{count_behind, count_cons, count_no, count_of_one}
use Rattle.wdf_model.proofs.Tests.{both}
use Rattle.law_trace_power.proofs.Standings.{Leads, Standing, Watch, begins, could_fail, leads_on, may_begin, may_pass, passes, rests, succeeds}

-- what is known of a standing; the last three tests ask for nothing where they are false
pub record Is (w : Watch) (P : Phase) (H U O E S C : Bool) (b : Standing) : Type 0 where
  pub phase : b.phase ≡ P
  pub hardware : b.hardware ≡ H
  pub up : b.up ≡ U
  pub on : b.on ≡ O
  pub entered : (not E || b.entered) ≡ true
  pub since : (not S || (not w.watched || b.since)) ≡ true
  pub clean : (not C || (not w.watched || b.clean)) ≡ true
  -- where EvtDeviceD0Entry isn't declared, the device is entered
  pub plain : (w.entry || b.entered) ≡ true

-- a device's steps are made of what is watched
pub record Suits (w : Watch) (p : DeviceSteps) : Type 0 where
  pub entry : list_any (same_callback callback.EvtDeviceD0Entry) p.callbacks ≡ w.entry
  pub once : count_by (λ (x : InterruptSteps). x.interrupt.id.0 == w.interrupt) p.interrupts ≡ flag w.watched

-- ---- tests

not_flagged : (b : Bool) → flag b ≡ 0 → b ≡ false
not_flagged true n = absurd (omega arith)
not_flagged false n = refl

pub same_test : (a b : Bool) → beq a b ≡ true → a ≡ b
same_test true true h = refl
same_test true false h = absurd (let z : ⊥ = cc in z)
same_test false true h = absurd (let z : ⊥ = cc in z)
same_test false false h = refl

test_itself : (b : Bool) → beq b b ≡ true
test_itself true = refl
test_itself false = refl

-- ---- one step

module _ (w : Watch) where
  pub maybe_run : (b : Bool) (c : Callback) {a : Standing} {Q : Standing → Type 0} → (may_begin w c None a && could_fail w c (begins w c a)) ≡ true → Q (succeeds c (begins w c a)) → Q a
      → Leads w (if b then step.Run c None ∷ [] else []) a Q
  maybe_run true c {a} m q k = record { well = both (may_begin w c None a && could_fail w c (begins w c a)) true m refl; after = q }
  maybe_run false c m q k = record { well = refl; after = k }

  may_run_if : (b : Bool) (c : Callback) (h : Handle) {a : Standing} {Q : Standing → Type 0} → (may_begin w c (Some h) a && could_fail w c (begins w c a)) ≡ true → Q (succeeds c (begins w c a)) → Q a
      → Leads w (run_if b c h) a Q
  may_run_if true c h {a} m q k = record { well = both (may_begin w c (Some h) a && could_fail w c (begins w c a)) true m refl; after = q }
  may_run_if false c h m q k = record { well = refl; after = k }

  pub passing : (s : Stage) (j : Option Handle) {a : Standing} {Q : Standing → Type 0} → may_pass w s j a ≡ true → Q (passes w s j a) → Leads w (step.Pass s j ∷ []) a Q
  passing s j {a} m q = record { well = both (may_pass w s j a) true m refl; after = q }

  -- ---- interrupts

  abbrev is_mine : InterruptSteps → Bool
  is_mine x = x.interrupt.id.0 == w.interrupt

  module _ (P : Phase) (H U : Bool) where
    enables_other : (x : InterruptSteps) (O S : Bool) (a : Standing) → is_mine x ≡ false → Is w P H U O true S false a → Leads w (enable_steps x) a (Is w P H U O true S false)
    enables_other x O S a other h =
        leads_on (may_run_if x.enables callback.EvtInterruptEnable x.interrupt {a = a} {Q = Is w P H U O true S false} (rw (h.entered, other) refl) h h)
        (λ b k. passing stage.Enabled (Some x.interrupt) (rw (k.entered, other) refl)
        (record {
          phase = k.phase;
          hardware = k.hardware;
          up = k.up;
          on = rw other (or-false b.on ∙ k.on);
          entered = k.entered;
          since = rw (other, or-false b.since) k.since;
          clean = refl;
          plain = k.plain;
        }))

    enables_mine : (x : InterruptSteps) (S C : Bool) (a : Standing) → w.watched ≡ true → is_mine x ≡ true → Is w P H U false true S C a → Leads w (enable_steps x) a (Is w P H U true true true false)
    enables_mine x S C a is mine h =
        leads_on (may_run_if x.enables callback.EvtInterruptEnable x.interrupt {a = a} {Q = Is w P H U false true S C} (rw (h.entered, mine, is) refl) h h)
        (λ b k. passing stage.Enabled (Some x.interrupt) (rw (k.entered, mine, is, k.on) refl)
        (record {
          phase = k.phase;
          hardware = k.hardware;
          up = k.up;
          on = rw mine (or-true b.on);
          entered = k.entered;
          since = rw (is, mine, or-true b.since) refl;
          clean = refl;
          plain = k.plain;
        }))

    enables_none : (xs : List InterruptSteps) (O S : Bool) (a : Standing) → count_by is_mine xs ≡ 0 → Is w P H U O true S false a → Leads w (flat_map enable_steps xs) a (Is w P H U O true S false)
    enables_none [] O S a none h = record { well = refl; after = h }
    enables_none (x ∷ xs) O S a none h =
        let e : count_by is_mine (x ∷ xs) ≡ flag (is_mine x) + count_by is_mine xs = count_cons is_mine x xs in
        rw (flat_map-cons enable_steps x xs) (leads_on (enables_other x O S a (not_flagged (is_mine x) (omega arith)) h) (λ b k. enables_none xs O S b (omega arith) k))

    enables_first : (x : InterruptSteps) (xs : List InterruptSteps) (S : Bool) (a : Standing) (b : Bool) → w.watched ≡ true → is_mine x ≡ b → count_by is_mine (x ∷ xs) ≡ 1 → Is w P H U false true S false a
        → (count_by is_mine xs ≡ 1 → (c : Standing) → Is w P H U false true S false c → Leads w (flat_map enable_steps xs) c (Is w P H U true true true false))
        → Leads w (enable_steps x ++ flat_map enable_steps xs) a (Is w P H U true true true false)
    enables_first x xs S a true is e one h rest =
        let n : count_by is_mine (x ∷ xs) ≡ flag (is_mine x) + count_by is_mine xs = count_cons is_mine x xs in
        let f : flag (is_mine x) ≡ 1 = ap flag e in
        leads_on (enables_mine x S false a is e h) (λ b k. enables_none xs true true b (omega arith) k)
    enables_first x xs S a false is e one h rest = leads_on (enables_other x false S a e h) (rest (sym (count_no is_mine x xs e) ∙ one))

    enables_one : (xs : List InterruptSteps) (S : Bool) (a : Standing) → w.watched ≡ true → count_by is_mine xs ≡ 1 → Is w P H U false true S false a → Leads w (flat_map enable_steps xs) a (Is w P H U true true true false)
    enables_one [] S a is one h = absurd (omega arith)
    enables_one (x ∷ xs) S a is one h = rw (flat_map-cons enable_steps x xs) (enables_first x xs S a (is_mine x) is refl one h (λ m c k. enables_one xs S c is m k))

    disables_other : (x : InterruptSteps) (O E S C : Bool) (a : Standing) → is_mine x ≡ false → Is w P H U O E S C a → Leads w (disable_steps x) a (Is w P H U O E S C)
    disables_other x O E S C a other h =
        leads_on (passing stage.Disabled (Some x.interrupt) {a = a} {Q = Is w P H U O E S C} (rw other refl)
        (record { phase = h.phase; hardware = h.hardware; up = h.up; on = rw other (and-true a.on ∙ h.on); entered = h.entered; since = h.since; clean = h.clean; plain = h.plain }))
        (λ b k. may_run_if x.disables callback.EvtInterruptDisable x.interrupt (rw other refl) k k)

    disables_mine : (x : InterruptSteps) (E C : Bool) (a : Standing) → w.watched ≡ true → is_mine x ≡ true → Is w P H U true E true C a → Leads w (disable_steps x) a (Is w P H U false E true C)
    disables_mine x E C a is mine h =
        leads_on (passing stage.Disabled (Some x.interrupt) {a = a} {Q = Is w P H U false E true C} (rw (mine, is, h.on) refl)
        (record { phase = h.phase; hardware = h.hardware; up = h.up; on = rw mine (and-false a.on); entered = h.entered; since = h.since; clean = h.clean; plain = h.plain }))
        (λ b k. may_run_if x.disables callback.EvtInterruptDisable x.interrupt (let s : (not w.watched || b.since) ≡ true = k.since in let t : b.since ≡ true = rw is at s in rw (mine, is, t) refl) k k)

    disables_none : (xs : List InterruptSteps) (O E S C : Bool) (a : Standing) → count_by is_mine xs ≡ 0 → Is w P H U O E S C a → Leads w (flat_map disable_steps xs) a (Is w P H U O E S C)
    disables_none [] O E S C a none h = record { well = refl; after = h }
    disables_none (x ∷ xs) O E S C a none h =
        let e : count_by is_mine (x ∷ xs) ≡ flag (is_mine x) + count_by is_mine xs = count_cons is_mine x xs in
        rw (flat_map-cons disable_steps x xs) (leads_on (disables_other x O E S C a (not_flagged (is_mine x) (omega arith)) h) (λ b k. disables_none xs O E S C b (omega arith) k))

    disables_first : (x : InterruptSteps) (xs : List InterruptSteps) (E C : Bool) (a : Standing) (b : Bool) → w.watched ≡ true → is_mine x ≡ b → count_by is_mine (x ∷ xs) ≡ 1 → Is w P H U true E true C a
        → (count_by is_mine xs ≡ 1 → (c : Standing) → Is w P H U true E true C c → Leads w (flat_map disable_steps xs) c (Is w P H U false E true C))
        → Leads w (disable_steps x ++ flat_map disable_steps xs) a (Is w P H U false E true C)
    disables_first x xs E C a true is e one h rest =
        let n : count_by is_mine (x ∷ xs) ≡ flag (is_mine x) + count_by is_mine xs = count_cons is_mine x xs in
        let f : flag (is_mine x) ≡ 1 = ap flag e in
        leads_on (disables_mine x E C a is e h) (λ b k. disables_none xs false E true C b (omega arith) k)
    disables_first x xs E C a false is e one h rest = leads_on (disables_other x true E true C a e h) (rest (sym (count_no is_mine x xs e) ∙ one))

    disables_one : (xs : List InterruptSteps) (E C : Bool) (a : Standing) → w.watched ≡ true → count_by is_mine xs ≡ 1 → Is w P H U true E true C a → Leads w (flat_map disable_steps xs) a (Is w P H U false E true C)
    disables_one [] E C a is one h = absurd (omega arith)
    disables_one (x ∷ xs) E C a is one h = rw (flat_map-cons disable_steps x xs) (disables_first x xs E C a (is_mine x) is refl one h (λ m c k. disables_one xs E C c is m k))

    -- all interrupts of the device
    enables_by : (xs : List InterruptSteps) (S : Bool) (a : Standing) (b : Bool) → w.watched ≡ b → count_by is_mine xs ≡ flag b → Is w P H U false true S false a → Leads w (flat_map enable_steps xs) a (Is w P H U w.watched true true false)
    enables_by xs S a true is n h = subst (λ o. Leads w (flat_map enable_steps xs) a (Is w P H U o true true false)) (sym is) (enables_one xs S a is n h)
    enables_by xs S a false is n h =
        subst (λ o. Leads w (flat_map enable_steps xs) a (Is w P H U o true true false)) (sym is)
        (enables_none xs false true a n (record { phase = h.phase; hardware = h.hardware; up = h.up; on = h.on; entered = h.entered; since = rw is refl; clean = h.clean; plain = h.plain }))

    disables_by : (xs : List InterruptSteps) (E C : Bool) (a : Standing) (b : Bool) → w.watched ≡ b → count_by is_mine xs ≡ flag b → Is w P H U w.watched E true C a → Leads w (flat_map disable_steps xs) a (Is w P H U false E true C)
    disables_by xs E C a true is n h = disables_one xs E C a is n (subst (λ o. Is w P H U o E true C a) is h)
    disables_by xs E C a false is n h = disables_none xs false E true C a n (subst (λ o. Is w P H U o E true C a) is h)

  reversed : (xs : List InterruptSteps) → count_by is_mine (reverse xs) ≡ count_by is_mine xs
  reversed [] = refl
  reversed (x ∷ xs) =
      let e : count_by is_mine (reverse (x ∷ xs)) ≡ count_by is_mine (reverse xs ++ x ∷ []) = ap (count_by is_mine) (reverse-append (x ∷ []) xs) in
      let f : count_by is_mine (reverse xs ++ x ∷ []) ≡ count_by is_mine (reverse xs) + count_by is_mine (x ∷ []) = count_behind is_mine (reverse xs) (x ∷ []) in
      let g : count_by is_mine (x ∷ []) ≡ flag (is_mine x) = count_of_one is_mine x in
      let k : count_by is_mine (x ∷ xs) ≡ flag (is_mine x) + count_by is_mine xs = count_cons is_mine x xs in
      let more : count_by is_mine (reverse xs) ≡ count_by is_mine xs = reversed xs in
      omega arith

  quiets : (xs : List InterruptSteps) (P : Phase) (H U E S C : Bool) (a : Standing) → count_by is_mine xs ≡ flag w.watched → Is w P H U false E S C a → Leads w (quiet_steps xs) a (Is w P H U false E S true)
  quiets [] P H U E S C a n h =
      let none : w.watched ≡ false = not_flagged w.watched (sym n) in
      record { well = refl; after = record { phase = h.phase; hardware = h.hardware; up = h.up; on = h.on; entered = h.entered; since = h.since; clean = rw none refl; plain = h.plain } }
  quiets (x ∷ xs) P H U E S C a n h = passing stage.Quiet None refl (record { phase = h.phase; hardware = h.hardware; up = h.up; on = h.on; entered = h.entered; since = h.since; clean = rw h.on (or-true (not w.watched)); plain = h.plain })

  -- ---- entry and exit

  weaker : (P : Phase) (H U O E S C : Bool) (a : Standing) → Is w P H U O E S C a → Is w P H U O false false C a
  weaker P H U O E S C a h = record { phase = h.phase; hardware = h.hardware; up = h.up; on = h.on; entered = refl; since = refl; clean = h.clean; plain = h.plain }

  unclean : (P : Phase) (H U O E S C : Bool) (a : Standing) → Is w P H U O E S C a → Is w P H U O E S false a
  unclean P H U O E S C a h = record { phase = h.phase; hardware = h.hardware; up = h.up; on = h.on; entered = h.entered; since = h.since; clean = refl; plain = h.plain }

  enters : (P : Phase) (S C : Bool) (a : Standing) (b : Bool) → b ≡ w.entry → Is w P true false false false S C a → Leads w (if b then step.Run callback.EvtDeviceD0Entry None ∷ [] else []) a (Is w P true false false true S C)
  enters P S C a true e h = record {
    well = rw (h.hardware, h.up, h.on) refl;
    after = record { phase = h.phase; hardware = h.hardware; up = h.up; on = h.on; entered = refl; since = h.since; clean = h.clean; plain = or-true w.entry };
  }
  enters P S C a false e h = record {
    well = refl;
    after = record { phase = h.phase; hardware = h.hardware; up = h.up; on = h.on; entered = subst (λ x. (x || a.entered) ≡ true) (sym e) h.plain; since = h.since; clean = h.clean; plain = h.plain };
  }

  pub not_either : (b : Bool) → (b || not b) ≡ true
  not_either true = refl
  not_either false = refl

  exits : (P : Phase) (H E S : Bool) (a : Standing) (b : Bool) → Is w P H false false E S true a → Leads w (if b then step.Run callback.EvtDeviceD0Exit None ∷ [] else []) a (Is w P H false false false false true)
  exits P H E S a b h = maybe_run b callback.EvtDeviceD0Exit (let c : (not w.watched || a.clean) ≡ true = h.clean in rw (h.up, h.on, c) refl)
      (record { phase = h.phase; hardware = h.hardware; up = h.up; on = h.on; entered = refl; since = refl; clean = h.clean; plain = not_either w.entry })
      (weaker P H false false E S true a h)

  -- ---- parts of lists

  module _ (p : DeviceSteps) (suits : Suits w p) where
    pub ups : (ever : Bool) (P : Phase) (C : Bool) (a : Standing) → Is w P true false false false false C a → Leads w (up_steps p ever) a (Is w Working true true w.watched true true false)
    ups ever P C a h =
        leads_on (leads_on (leads_on (leads_on (leads_on
        (enters P false false a (list_any (same_callback callback.EvtDeviceD0Entry) p.callbacks) suits.entry (unclean P true false false false false C a h))
        (λ b k. enables_by P true false p.interrupts false b w.watched refl suits.once k))
        (λ b k. maybe_run (list_any (same_callback callback.EvtDeviceD0EntryPostInterruptsEnabled) p.callbacks) callback.EvtDeviceD0EntryPostInterruptsEnabled {a = b} {Q = Is w P true false w.watched true true false} refl k k))
        (λ b k. passing stage.QueuesUp None {a = b} {Q = Is w P true true w.watched true true false} (rw (k.up, k.entered) refl)
        (record { phase = k.phase; hardware = k.hardware; up = refl; on = k.on; entered = k.entered; since = k.since; clean = k.clean; plain = k.plain })))
        (λ b k. manages ever b k))
        (λ b k. passing stage.Working None refl (record { phase = refl; hardware = k.hardware; up = k.up; on = k.on; entered = k.entered; since = k.since; clean = k.clean; plain = k.plain }))
      where
        manages : (ever : Bool) (b : Standing) → Is w P true true w.watched true true false b → Leads w (run p (self_managed_start ever)) b (Is w P true true w.watched true true false)
        manages true b k = maybe_run (list_any (same_callback callback.EvtDeviceSelfManagedIoRestart) p.callbacks) callback.EvtDeviceSelfManagedIoRestart refl k k
        manages false b k = maybe_run (list_any (same_callback callback.EvtDeviceSelfManagedIoInit) p.callbacks) callback.EvtDeviceSelfManagedIoInit refl k k

    pub downs : (C : Bool) (a : Standing) → Is w Working true true w.watched false true C a → Leads w (down_steps p) a (Is w Working true false false false false true)
    downs C a h =
        leads_on (leads_on (leads_on (leads_on (leads_on (leads_on
        (maybe_run (list_any (same_callback callback.EvtDeviceSelfManagedIoSuspend) p.callbacks) callback.EvtDeviceSelfManagedIoSuspend {a = a} {Q = Is w Working true true w.watched false true C} refl h h)
        (λ b k. passing stage.QueuesDown None {a = b} {Q = Is w Working true false w.watched false true C} (rw k.up refl)
        (record { phase = k.phase; hardware = k.hardware; up = refl; on = k.on; entered = k.entered; since = k.since; clean = k.clean; plain = k.plain })))
        (λ b k. passing stage.Settled None {a = b} {Q = Is w Working true false w.watched false true C} (rw k.up refl)
        (record { phase = k.phase; hardware = k.hardware; up = k.up; on = k.on; entered = k.entered; since = k.since; clean = k.clean; plain = k.plain })))
        (λ b k. maybe_run (list_any (same_callback callback.EvtDeviceD0ExitPreInterruptsDisabled) p.callbacks) callback.EvtDeviceD0ExitPreInterruptsDisabled {a = b} {Q = Is w Working true false w.watched false true C} refl k k))
        (λ b k. disables_by Working true false (reverse p.interrupts) false C b w.watched refl (reversed p.interrupts ∙ suits.once) k))
        (λ b k. quiets p.interrupts Working true false false true C b suits.once k))
        (λ b k. exits Working true false true b (list_any (same_callback callback.EvtDeviceD0Exit) p.callbacks) k)

    -- the device has hardware from here on
    pub hards : (P : Phase) (a : Standing) → Is w P false false false false false false a → Leads w (hard_steps p) a (Is w P true false false false false false)
    hards P a h =
        leads_on (passing stage.Hardware None {a = a} {Q = Is w P true false false false false false} (rw h.hardware refl)
        (record { phase = h.phase; hardware = refl; up = h.up; on = h.on; entered = h.entered; since = h.since; clean = h.clean; plain = h.plain }))
        (λ b k. maybe_run (list_any (same_callback callback.EvtDevicePrepareHardware) p.callbacks) callback.EvtDevicePrepareHardware (rw (k.hardware, k.up, k.on) refl) k k)

    flushes : (ever : Bool) (P : Phase) (H : Bool) (a : Standing) → Is w P H false false false false false a → Leads w (flush_steps p ever) a (Is w P H false false false false false)
    flushes false P H a h = record { well = refl; after = h }
    flushes true P H a h =
        leads_on (maybe_run (list_any (same_callback callback.EvtDeviceSelfManagedIoFlush) p.callbacks) callback.EvtDeviceSelfManagedIoFlush {a = a} {Q = Is w P H false false false false false} refl h h)
        (λ b k. maybe_run (list_any (same_callback callback.EvtDeviceSelfManagedIoCleanup) p.callbacks) callback.EvtDeviceSelfManagedIoCleanup refl k k)

    pub softens : (P : Phase) (H U O E S C : Bool) (a : Standing) → Is w P H U O E S C a → Is w P H U O false false false a
    softens P H U O E S C a h = record { phase = h.phase; hardware = h.hardware; up = h.up; on = h.on; entered = refl; since = refl; clean = refl; plain = h.plain }

    pub loses : (P : Phase) (a : Standing) → Is w P true false false false false false a → Leads w (pass stage.NoHardware) a (Is w P false false false false false false)
    loses P a h = passing stage.NoHardware None (rw h.hardware refl) (record { phase = h.phase; hardware = refl; up = h.up; on = h.on; entered = h.entered; since = h.since; clean = h.clean; plain = h.plain })

    pub removes : (P : Phase) (a : Standing) → Is w P false false false false false false a → Leads w (pass stage.Removed) a (Is w Removed false false false false false false)
    removes P a h = passing stage.Removed None refl (record { phase = refl; hardware = h.hardware; up = h.up; on = h.on; entered = h.entered; since = h.since; clean = h.clean; plain = h.plain })

    pub closes : (P : Phase) (a : Standing) → Is w P false false false false false false a → Leads w (pass stage.Closed) a (Is w P false false false false false false)
    closes P a h = passing stage.Closed None refl (record { phase = h.phase; hardware = h.hardware; up = h.up; on = h.on; entered = h.entered; since = h.since; clean = h.clean; plain = h.plain })

    pub finishes : (ever : Bool) (P : Phase) (a : Standing) → Is w P true false false false false false a → Leads w (end_steps p ever) a (Is w Removed false false false false false false)
    finishes ever P a h =
        leads_on (leads_on (leads_on (loses P a h) (λ b k. closes P b k)) (λ b k. flushes ever P false b k)) (λ b k. removes P b k)

    pub releases : (P : Phase) (a : Standing) → Is w P true false false false false false a → Leads w (run p callback.EvtDeviceReleaseHardware) a (Is w P true false false false false false)
    releases P a h = maybe_run (list_any (same_callback callback.EvtDeviceReleaseHardware) p.callbacks) callback.EvtDeviceReleaseHardware refl h h

    pub tails : (ever : Bool) (P : Phase) (a : Standing) → Is w P true false false false false false a → Leads w (tail_steps p ever) a (Is w Removed false false false false false false)
    tails ever P a h = leads_on (releases P a h) (λ b k. finishes ever P b k)

  -- ---- where no step is left

  pub working_rests : (E C : Bool) (b : Standing) → Is w Working true true w.watched E true C b → rests w b ≡ true
  working_rests E C b h =
      let s : (not w.watched || b.since) ≡ true = h.since in
      rw (h.phase, h.hardware, h.up, h.on, test_itself w.watched, s) refl

  pub sleeping_rests : (E S C : Bool) (b : Standing) → Is w Sleeping true false false E S C b → rests w b ≡ true
  sleeping_rests E S C b h = rw (h.phase, h.hardware, h.up, h.on) refl

  pub removed_rests : (E S C : Bool) (b : Standing) → Is w Removed false false false E S C b → rests w b ≡ true
  removed_rests E S C b h = rw (h.phase, h.hardware, h.up, h.on) refl
