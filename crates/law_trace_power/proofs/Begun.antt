-- A list of steps that begins where a device rests passes the test; so does what is left after a callback that failed; and
-- what passes the test agrees with power.
use Rattle.std.proofs.Common.{if◌then◌else◌, ◌≡◌, Bool, true, false, not, ◌&&◌, ◌||◌, List, [], ◌∷◌, None, is_some, refl, sym, ap, ◌∙◌}
use Rattle.std.specs.Bool.{beq}
use Rattle.std.specs.List.{list_any}
use Rattle.wdf_base.specs.declared.call.Callback.{Callback}
use Rattle.wdf_base.specs.declared.call.Callback.TheVariants as callback
use Rattle.wdf_base.specs.declared.event.Ask.{Ask}
use Rattle.wdf_base.specs.declared.event.Ask.TheVariants as asks
use Rattle.wdf_base.specs.declared.event.Stage.TheVariants as stage
use Rattle.wdf_base.specs.declared.event.Step.{Step}
use Rattle.wdf_base.specs.declared.event.Step.TheVariants as step
use Rattle.wdf_base.specs.Same.{same_callback}
use Rattle.wdf_model.specs.declared.enums.Phase.{Phase}
use Rattle.wdf_model.specs.declared.enums.Phase.TheVariants.{Off, Working, Sleeping, Removed}
use Rattle.wdf_model.specs.parts.Pnp.{DeviceSteps, Sequence, left_after_failure, steps_for}
use Rattle.wdf_model.proofs.Tests.{both_left, both_right, not_true}
use Rattle.law_trace_power.specs.Steps.{enabled_from, enabled_says, hardware_from, hardware_says, is_for, is_started, phase_after, queues_from, queues_say}
use Rattle.law_trace_power.proofs.Standings.{Standing, Watch, begins, could_fail, fails, leads_on, leads_to, may_take, next, rests, rests_in, safe, safe_by, succeeds}
use Rattle.law_trace_power.proofs.Lists.{Is, Suits, closes, downs, finishes, hards, loses, maybe_run, not_either, passing, releases, removed_rests, removes, same_test, sleeping_rests, softens, tails, ups, working_rests}
use Rattle.wdf_model.specs.agents.StackManager.{is_working}

module _ (w : Watch) where
  -- ---- where a device rests

  at_working : (a : Standing) → (w.entry || a.entered) ≡ true → a.phase ≡ Working → rests_in Working w a ≡ true → Is w Working true true w.watched false true false a
  at_working a plain e h =
      let s : (not w.watched || a.since) ≡ true = both_right (a.hardware && a.up && beq a.on w.watched) (not w.watched || a.since) h in
      let t : (a.hardware && a.up && beq a.on w.watched) ≡ true = both_left (a.hardware && a.up && beq a.on w.watched) (not w.watched || a.since) h in
      let u : (a.hardware && a.up) ≡ true = both_left (a.hardware && a.up) (beq a.on w.watched) t in
      record { phase = e; hardware = both_left a.hardware a.up u; up = both_right a.hardware a.up u; on = same_test a.on w.watched (both_right (a.hardware && a.up) (beq a.on w.watched) t); entered = refl; since = s; clean = refl; plain = plain }

  at_sleeping : (a : Standing) → (w.entry || a.entered) ≡ true → a.phase ≡ Sleeping → rests_in Sleeping w a ≡ true → Is w Sleeping true false false false false false a
  at_sleeping a plain e h =
      let u : (a.hardware && not a.up) ≡ true = both_left (a.hardware && not a.up) (not a.on) h in
      record { phase = e; hardware = both_left a.hardware (not a.up) u; up = not_true a.up (both_right a.hardware (not a.up) u); on = not_true a.on (both_right (a.hardware && not a.up) (not a.on) h); entered = refl; since = refl; clean = refl; plain = plain }

  at_off : (a : Standing) → (w.entry || a.entered) ≡ true → a.phase ≡ Off → rests_in Off w a ≡ true → Is w Off false false false false false false a
  at_off a plain e h =
      let u : (not a.hardware && not a.up) ≡ true = both_left (not a.hardware && not a.up) (not a.on) h in
      record { phase = e; hardware = not_true a.hardware (both_left (not a.hardware) (not a.up) u); up = not_true a.up (both_right (not a.hardware) (not a.up) u); on = not_true a.on (both_right (not a.hardware && not a.up) (not a.on) h); entered = refl; since = refl; clean = refl; plain = plain }

  -- ---- a list begins

  module _ (p : DeviceSteps) (suits : Suits w p) (ever : Bool) (a : Standing) (rested : rests w a ≡ true) where
    off_safe : (x : Ask) → Is w Off false false false false false false a → safe w (steps_for p ever Off x) a ≡ true
    off_safe asks.Start h =
        safe_by w (steps_for p ever Off asks.Start) a (leads_to (leads_on (hards w p suits Off a h) (λ b k. ups w p suits ever Off false b k)) (λ b k. working_rests w true false b k))
    off_safe asks.Remove h = safe_by w (steps_for p ever Off asks.Remove) a (leads_to (leads_on (closes w p suits Off a h) (λ b k. removes w p suits Off b k)) (λ b k. removed_rests w false false false b k))
    off_safe asks.Surprise h = safe_by w (steps_for p ever Off asks.Surprise) a (leads_to (leads_on (closes w p suits Off a h) (λ b k. removes w p suits Off b k)) (λ b k. removed_rests w false false false b k))
    off_safe _ h = rested

    works : Standing → Type 0
    works b = Is w Working true true w.watched false true false b

    asleep : Standing → Type 0
    asleep b = Is w Working true false false false false true b

    bare : Standing → Type 0
    bare b = Is w Working true false false false false false b

    working_safe : (x : Ask) → Is w Working true true w.watched false true false a → safe w (steps_for p ever Working x) a ≡ true
    working_safe asks.Sleep h =
        safe_by w (steps_for p ever Working asks.Sleep) a
        (leads_to (leads_on (downs w p suits false a h)
        (λ b k. passing w stage.Sleeping None {a = b} {Q = Is w Sleeping true false false false false true} refl (record { phase = refl; hardware = k.hardware; up = k.up; on = k.on; entered = k.entered; since = k.since; clean = k.clean; plain = k.plain })))
        (λ b k. sleeping_rests w false false true b k))
    working_safe asks.Rebalance h =
        safe_by w (steps_for p ever Working asks.Rebalance) a
        (leads_to (leads_on (leads_on (leads_on (leads_on (leads_on
        (maybe_run w (list_any (same_callback callback.EvtDeviceQueryStop) p.callbacks) callback.EvtDeviceQueryStop {a = a} {Q = Is w Working true true w.watched false true false} rested h h)
        (λ b k. downs w p suits false b k))
        (λ b k. releases w p suits Working b (softens w p suits Working true false false false false true b k)))
        (λ b k. loses w p suits Working b k))
        (λ b k. hards w p suits Working b k))
        (λ b k. ups w p suits ever Working false b k))
        (λ b k. working_rests w true false b k))
    working_safe asks.Remove h =
        safe_by w (steps_for p ever Working asks.Remove) a
        (leads_to (leads_on (leads_on
        (maybe_run w (list_any (same_callback callback.EvtDeviceQueryRemove) p.callbacks) callback.EvtDeviceQueryRemove {a = a} {Q = Is w Working true true w.watched false true false} rested h h)
        (λ b k. downs w p suits false b k))
        (λ b k. tails w p suits ever Working b (softens w p suits Working true false false false false true b k)))
        (λ b k. removed_rests w false false false b k))
    working_safe asks.Surprise h =
        safe_by w (steps_for p ever Working asks.Surprise) a
        (leads_to (leads_on (leads_on
        (maybe_run w (list_any (same_callback callback.EvtDeviceSurpriseRemoval) p.callbacks) callback.EvtDeviceSurpriseRemoval {a = a} {Q = Is w Working true true w.watched false true false} refl h h)
        (λ b k. downs w p suits false b k))
        (λ b k. tails w p suits ever Working b (softens w p suits Working true false false false false true b k)))
        (λ b k. removed_rests w false false false b k))
    working_safe _ h = rested

    sleeping_safe : (x : Ask) → Is w Sleeping true false false false false false a → safe w (steps_for p ever Sleeping x) a ≡ true
    sleeping_safe asks.Wake h = safe_by w (steps_for p ever Sleeping asks.Wake) a (leads_to (ups w p suits ever Sleeping false a h) (λ b k. working_rests w true false b k))
    sleeping_safe asks.Remove h =
        safe_by w (steps_for p ever Sleeping asks.Remove) a
        (leads_to (leads_on
        (maybe_run w (list_any (same_callback callback.EvtDeviceQueryRemove) p.callbacks) callback.EvtDeviceQueryRemove {a = a} {Q = Is w Sleeping true false false false false false} rested h h)
        (λ b k. tails w p suits ever Sleeping b k))
        (λ b k. removed_rests w false false false b k))
    sleeping_safe asks.Surprise h =
        safe_by w (steps_for p ever Sleeping asks.Surprise) a
        (leads_to (leads_on
        (maybe_run w (list_any (same_callback callback.EvtDeviceSurpriseRemoval) p.callbacks) callback.EvtDeviceSurpriseRemoval {a = a} {Q = Is w Sleeping true false false false false false} refl h h)
        (λ b k. tails w p suits ever Sleeping b k))
        (λ b k. removed_rests w false false false b k))
    sleeping_safe _ h = rested

    -- the device is asked for something where it rests
    asked_by : (q : Phase) → a.phase ≡ q → (w.entry || a.entered) ≡ true → (x : Ask) → safe w (steps_for p ever q x) a ≡ true
    asked_by Off e plain x = off_safe x (at_off a plain e (ap (λ y. rests_in y w a) (sym e) ∙ rested))
    asked_by Working e plain x = working_safe x (at_working a plain e (ap (λ y. rests_in y w a) (sym e) ∙ rested))
    asked_by Sleeping e plain x = sleeping_safe x (at_sleeping a plain e (ap (λ y. rests_in y w a) (sym e) ∙ rested))
    asked_by Removed e plain x = rested

  pub asked : (p : DeviceSteps) → Suits w p → (ever : Bool) (a : Standing) → (w.entry || a.entered) ≡ true → (x : Ask) → safe w [] a ≡ true → safe w (steps_for p ever a.phase x) a ≡ true
  asked p suits ever a plain x h = asked_by p suits ever a h a.phase refl plain x

  -- ---- a callback fails

  at_fault : (a : Standing) (x : Bool) → (w.entry || x) ≡ true → (a.hardware && not a.up && not a.on) ≡ true → Is w a.phase true false false false false false (record a { entered = x })
  at_fault a x plain h =
      let u : (a.hardware && not a.up) ≡ true = both_left (a.hardware && not a.up) (not a.on) h in
      record { phase = refl; hardware = both_left a.hardware (not a.up) u; up = not_true a.up (both_right a.hardware (not a.up) u); on = not_true a.on (both_right (a.hardware && not a.up) (not a.on) h); entered = refl; since = refl; clean = refl; plain = plain }

  pub failed : (q : Sequence) → Suits w q.steps → (c : Callback) (a : Standing) → (w.entry || a.entered) ≡ true → (could_fail w c a && safe w q.left (succeeds c a)) ≡ true → safe w (left_after_failure q c) (fails w c a) ≡ true
  failed q suits callback.EvtDeviceD0Entry a plain h =
      let f = at_fault a (not w.entry) (not_either w w.entry) (both_left (a.hardware && not a.up && not a.on) (safe w q.left (record a { entered = true })) h) in
      safe_by w (left_after_failure q callback.EvtDeviceD0Entry) (record a { entered = not w.entry }) (leads_to (tails w q.steps suits q.ever_working a.phase (record a { entered = not w.entry }) f) (λ b k. removed_rests w false false false b k))
  failed q suits callback.EvtDevicePrepareHardware a plain h =
      let f = at_fault a a.entered plain (both_left (a.hardware && not a.up && not a.on) (safe w q.left a) h) in
      safe_by w (left_after_failure q callback.EvtDevicePrepareHardware) a (leads_to (finishes w q.steps suits q.ever_working a.phase a f) (λ b k. removed_rests w false false false b k))
  failed q suits callback.EvtDeviceQueryStop a plain h = both_left (rests w a) (safe w q.left a) h
  failed q suits callback.EvtDeviceQueryRemove a plain h = both_left (rests w a) (safe w q.left a) h
  failed q suits _ a plain h = h

  -- ---- what passes the test agrees with power

  run_keeps : (c : Callback) (a : Standing) → ((succeeds c (begins w c a)).up ≡ a.up) × ((succeeds c (begins w c a)).hardware ≡ a.hardware) × ((succeeds c (begins w c a)).on ≡ a.on) × ((succeeds c (begins w c a)).phase ≡ a.phase)
  run_keeps callback.EvtDeviceD0Exit a = (refl, refl, refl, refl)
  run_keeps _ a = (refl, refl, refl, refl)

  phase_next : (s : Step) (a : Standing) → (next w s a).phase ≡ phase_after s a.phase
  phase_next (step.Run c j) a = (run_keeps c a).3
  phase_next (step.Pass stage.Hardware j) a = refl
  phase_next _ a = refl

  queues_next : (s : Step) (a : Standing) (x : Bool) → may_take w s a ≡ true → (next w s a).up ≡ x → a.up ≡ queues_from s x
  queues_next (step.Run c j) a x m e = sym (run_keeps c a).0 ∙ e
  queues_next (step.Pass stage.QueuesUp j) a x m e = not_true a.up (both_left (not a.up) a.entered m)
  queues_next (step.Pass stage.QueuesDown j) a x m e = m
  queues_next _ a x m e = e

  hardware_next : (s : Step) (a : Standing) (x : Bool) → may_take w s a ≡ true → (next w s a).hardware ≡ x → a.hardware ≡ hardware_from s x
  hardware_next (step.Run c j) a x m e = sym (run_keeps c a).1 ∙ e
  hardware_next (step.Pass stage.Hardware j) a x m e = not_true a.hardware m
  hardware_next (step.Pass stage.NoHardware j) a x m e = m
  hardware_next _ a x m e = e

  enabling : (a x mine there : Bool) → (there && (not mine || not a)) ≡ true → (a || mine) ≡ x → a ≡ (if mine then false else x)
  enabling true x true there m e = absurd (let k : (not true || not true) ≡ true = both_right there (not true || not true) m in let z : ⊥ = cc in z)
  enabling false x true there m e = refl
  enabling true x false there m e = e
  enabling false x false there m e = e

  disabling : (a x mine there : Bool) → (there && (not mine || a)) ≡ true → (a && not mine) ≡ x → a ≡ (if mine then true else x)
  disabling true x true there m e = refl
  disabling false x true there m e = absurd (let k : (not true || false) ≡ true = both_right there (not true || false) m in let z : ⊥ = cc in z)
  disabling true x false there m e = e
  disabling false x false there m e = e

  enabled_next : (s : Step) (a : Standing) (x : Bool) → may_take w s a ≡ true → (next w s a).on ≡ x → a.on ≡ enabled_from w.interrupt s x
  enabled_next (step.Run c j) a x m e = sym (run_keeps c a).2 ∙ e
  enabled_next (step.Pass stage.Enabled j) a x m e = enabling a.on x (is_for w.interrupt j) (a.entered && is_some j && (not (is_for w.interrupt j) || w.watched)) m e
  enabled_next (step.Pass stage.Disabled j) a x m e = disabling a.on x (is_for w.interrupt j) (is_some j && (not (is_for w.interrupt j) || w.watched)) m e
  enabled_next _ a x m e = e

  up_rests : (a : Standing) (q : Phase) → rests_in q w a ≡ true → a.up ≡ is_working q
  up_rests a Working h = both_right a.hardware a.up (both_left (a.hardware && a.up) (beq a.on w.watched) (both_left (a.hardware && a.up && beq a.on w.watched) (not w.watched || a.since) h))
  up_rests a Sleeping h = not_true a.up (both_right a.hardware (not a.up) (both_left (a.hardware && not a.up) (not a.on) h))
  up_rests a Off h = not_true a.up (both_right (not a.hardware) (not a.up) (both_left (not a.hardware && not a.up) (not a.on) h))
  up_rests a Removed h = not_true a.up (both_right (not a.hardware) (not a.up) (both_left (not a.hardware && not a.up) (not a.on) h))

  hardware_rests : (a : Standing) (q : Phase) → rests_in q w a ≡ true → a.hardware ≡ is_started q
  hardware_rests a Working h = both_left a.hardware a.up (both_left (a.hardware && a.up) (beq a.on w.watched) (both_left (a.hardware && a.up && beq a.on w.watched) (not w.watched || a.since) h))
  hardware_rests a Sleeping h = both_left a.hardware (not a.up) (both_left (a.hardware && not a.up) (not a.on) h)
  hardware_rests a Off h = not_true a.hardware (both_left (not a.hardware) (not a.up) (both_left (not a.hardware && not a.up) (not a.on) h))
  hardware_rests a Removed h = not_true a.hardware (both_left (not a.hardware) (not a.up) (both_left (not a.hardware && not a.up) (not a.on) h))

  on_rests : (a : Standing) (q : Phase) → w.watched ≡ true → rests_in q w a ≡ true → a.on ≡ is_working q
  on_rests a Working is h = same_test a.on w.watched (both_right (a.hardware && a.up) (beq a.on w.watched) (both_left (a.hardware && a.up && beq a.on w.watched) (not w.watched || a.since) h)) ∙ is
  on_rests a Sleeping is h = not_true a.on (both_right (a.hardware && not a.up) (not a.on) h)
  on_rests a Off is h = not_true a.on (both_right (not a.hardware && not a.up) (not a.on) h)
  on_rests a Removed is h = not_true a.on (both_right (not a.hardware && not a.up) (not a.on) h)

  pub queues_agree : (ss : List Step) (a : Standing) → safe w ss a ≡ true → a.up ≡ queues_say a.phase ss
  queues_agree [] a h = up_rests a a.phase h
  queues_agree (s ∷ ss) a h =
      queues_next s a (queues_say (phase_after s a.phase) ss) (both_left (may_take w s a) (safe w ss (next w s a)) h)
      (queues_agree ss (next w s a) (both_right (may_take w s a) (safe w ss (next w s a)) h) ∙ ap (λ x. queues_say x ss) (phase_next s a))

  pub hardware_agrees : (ss : List Step) (a : Standing) → safe w ss a ≡ true → a.hardware ≡ hardware_says a.phase ss
  hardware_agrees [] a h = hardware_rests a a.phase h
  hardware_agrees (s ∷ ss) a h =
      hardware_next s a (hardware_says (phase_after s a.phase) ss) (both_left (may_take w s a) (safe w ss (next w s a)) h)
      (hardware_agrees ss (next w s a) (both_right (may_take w s a) (safe w ss (next w s a)) h) ∙ ap (λ x. hardware_says x ss) (phase_next s a))

  pub enabled_agrees : (ss : List Step) (a : Standing) → w.watched ≡ true → safe w ss a ≡ true → a.on ≡ enabled_says w.interrupt a.phase ss
  enabled_agrees [] a is h = on_rests a a.phase is h
  enabled_agrees (s ∷ ss) a is h =
      enabled_next s a (enabled_says w.interrupt (phase_after s a.phase) ss) (both_left (may_take w s a) (safe w ss (next w s a)) h)
      (enabled_agrees ss (next w s a) is (both_right (may_take w s a) (safe w ss (next w s a)) h) ∙ ap (λ x. enabled_says w.interrupt x ss) (phase_next s a))
