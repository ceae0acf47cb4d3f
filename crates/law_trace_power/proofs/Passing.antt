-- What holds of a device and one of its interrupts is kept by each stage that the device passes.
use Rattle.std.proofs.Common.{if◌then◌else◌, ◌≡◌, ℕ, ◌==◌, Bool, true, false, not, ◌&&◌, ◌||◌, List, [], ◌∷◌, ◌++◌, Option, Some, None, is_some, refl, sym, subst, ◌∙◌}
use Rattle.std.proofs.Math.Bool.{and-false, and-true, or-false, or-true}
use Rattle.wdf_base.specs.declared.ids.Handle.{Handle}
use Rattle.wdf_base.specs.declared.plan.Plan.{Plan}
use Rattle.wdf_base.specs.declared.event.Event.{Event}
use Rattle.wdf_base.specs.declared.event.Event.TheVariants as event
use Rattle.wdf_base.specs.declared.event.Stage.{Stage}
use Rattle.wdf_base.specs.declared.event.Stage.TheVariants as stage
use Rattle.wdf_base.specs.declared.event.Step.{Step}
use Rattle.wdf_base.specs.declared.event.Step.TheVariants as step
use Rattle.wdf_model.specs.declared.entries.DevicePower.{DevicePower}
use Rattle.wdf_model.specs.parts.Pnp.{Sequence, passed}
use Rattle.wdf_model.proofs.Tests.{alone, both_left, both_right, itself}
use Rattle.wdf_laws.specs.declared.sign.Sign.TheVariants as sign
use Rattle.wdf_laws.specs.Laws.{is_enabled_in_power}
use Rattle.law_trace_power.specs.Steps.{is_for}
use Rattle.law_trace_power.proofs.Standings.{Standing, Watch, may_pass, owed, passes, safe}
use Rattle.law_trace_power.proofs.Tellings.{comes, enabled_comes, enabled_stays, entered_stays, power_comes, power_stays, stays}
use Rattle.law_trace_power.proofs.Holding.{Holds, Silent, Told, told_silent, watch}

-- a device's power after a stage of it
abbrev pub power_by : Stage → DevicePower → DevicePower
power_by stage.Hardware p = record p { hardware = true }
power_by stage.NoHardware p = record p { hardware = false }
power_by stage.QueuesUp p = record p { up = true }
power_by stage.QueuesDown p = record p { up = false }
power_by _ p = p

-- whether an interrupt is enabled after a stage, which is of this interrupt or not
abbrev pub enabling : Stage → Bool → Bool → Bool
enabling stage.Enabled mine x = if mine then true else x
enabling stage.Disabled mine x = if mine then false else x
enabling _ mine x = x

module _ (plan : Plan) (es : List Event) (device : Handle) (i : ℕ) where
  abbrev w : Watch
  w = watch plan device.id.0 i

  on_more : (a : Standing) (mine x : Bool) → (not mine || w.watched) ≡ true → a.on ≡ (w.watched && x) → (a.on || mine) ≡ (w.watched && (if mine then true else x))
  on_more a true x m e = or-true a.on ∙ sym (alone w.watched m)
  on_more a false x m e = or-false a.on ∙ e

  on_less : (a : Standing) (mine x : Bool) → a.on ≡ (w.watched && x) → (a.on && not mine) ≡ (w.watched && (if mine then false else x))
  on_less a true x e = and-false a.on ∙ sym (and-false w.watched)
  on_less a false x e = and-true a.on ∙ e

  -- ---- what the events say after it

  told_enabled : (a : Standing) (h : Handle) (mine : Bool) → (h.id.0 == i) ≡ mine → a.entered ≡ true → Told plan es device.id.0 i a
      → Told plan (es ++ event.Stage device stage.Enabled (Some h) ∷ []) device.id.0 i (record a { on = a.on || mine; since = a.since || mine; clean = a.clean && not mine })
  told_enabled a h true m entered k =
      let e : Event = event.Stage device stage.Enabled (Some h) in
      let now : is_enabled_in_power plan (es ++ e ∷ []) i device.id.0 ≡ true = enabled_comes plan device.id.0 es e i m (k.entered entered) in
      record {
        entered = λ x. entered_stays plan device.id.0 es e refl (k.entered x);
        since = λ x y. now;
        on = λ x. now;
        lasting = λ x. comes (sign.Enabled i) (sign.Disabled i) es e m;
        power = λ x. power_stays plan device.id.0 es e refl refl refl (k.power x);
      }
  told_enabled a h false m entered k =
      let e : Event = event.Stage device stage.Enabled (Some h) in
      let t : Told plan (es ++ e ∷ []) device.id.0 i a = told_silent plan es e device.id.0 i a (record { entered = refl; exit = refl; enabled = m; disabled = refl; up = refl; down = refl }) k in
      record {
        entered = t.entered;
        since = λ x y. t.since x (sym (or-false a.since) ∙ y);
        on = λ x. t.on (sym (or-false a.on) ∙ x);
        lasting = λ x. t.lasting (sym (or-false a.on) ∙ x);
        power = t.power;
      }

  told_disabled : (a : Standing) (h : Handle) (mine : Bool) → (h.id.0 == i) ≡ mine → Told plan es device.id.0 i a
      → Told plan (es ++ event.Stage device stage.Disabled (Some h) ∷ []) device.id.0 i (record a { on = a.on && not mine })
  told_disabled a h true m k =
      let e : Event = event.Stage device stage.Disabled (Some h) in
      record {
        entered = λ x. entered_stays plan device.id.0 es e refl (k.entered x);
        since = λ x y. enabled_stays plan device.id.0 es e i refl refl (k.since x y);
        on = λ x. enabled_stays plan device.id.0 es e i refl refl (k.on (both_left a.on false x));
        lasting = λ x. absurd (let n : false ≡ true = both_right a.on false x in let z : ⊥ = cc in z);
        power = λ x. power_stays plan device.id.0 es e refl refl refl (k.power x);
      }
  told_disabled a h false m k =
      let e : Event = event.Stage device stage.Disabled (Some h) in
      let t : Told plan (es ++ e ∷ []) device.id.0 i a = told_silent plan es e device.id.0 i a (record { entered = refl; exit = refl; enabled = refl; disabled = m; up = refl; down = refl }) k in
      record {
        entered = t.entered;
        since = t.since;
        on = λ x. t.on (both_left a.on true x);
        lasting = λ x. t.lasting (both_left a.on true x);
        power = t.power;
      }

  told_up : (j : Option Handle) (a : Standing) → a.entered ≡ true → Told plan es device.id.0 i a → Told plan (es ++ event.Stage device stage.QueuesUp j ∷ []) device.id.0 i (record a { up = true })
  told_up j a entered k =
      let e : Event = event.Stage device stage.QueuesUp j in
      record {
        entered = λ x. entered_stays plan device.id.0 es e refl (k.entered x);
        since = λ x y. enabled_stays plan device.id.0 es e i refl refl (k.since x y);
        on = λ x. enabled_stays plan device.id.0 es e i refl refl (k.on x);
        lasting = λ x. stays (sign.Enabled i) (sign.Disabled i) es e refl (k.lasting x);
        power = λ x. power_comes plan device.id.0 es e (itself device.id.0) (k.entered entered);
      }

  told_down : (j : Option Handle) (a : Standing) → Told plan es device.id.0 i a → Told plan (es ++ event.Stage device stage.QueuesDown j ∷ []) device.id.0 i (record a { up = false })
  told_down j a k =
      let e : Event = event.Stage device stage.QueuesDown j in
      record {
        entered = λ x. entered_stays plan device.id.0 es e refl (k.entered x);
        since = λ x y. enabled_stays plan device.id.0 es e i refl refl (k.since x y);
        on = λ x. enabled_stays plan device.id.0 es e i refl refl (k.on x);
        lasting = λ x. stays (sign.Enabled i) (sign.Disabled i) es e refl (k.lasting x);
        power = λ x. absurd (let z : ⊥ = cc in z);
      }

  -- a stage of which the events' words say nothing
  told_other : (a b : Standing) (e : Event) → b.entered ≡ a.entered → b.since ≡ a.since → b.on ≡ a.on → b.up ≡ a.up → Silent device.id.0 i e → Told plan es device.id.0 i a → Told plan (es ++ e ∷ []) device.id.0 i b
  told_other a b e entered since on up s k =
      let t : Told plan (es ++ e ∷ []) device.id.0 i a = told_silent plan es e device.id.0 i a s k in
      record {
        entered = λ x. t.entered (sym entered ∙ x);
        since = λ x y. t.since x (sym since ∙ y);
        on = λ x. t.on (sym on ∙ x);
        lasting = λ x. t.lasting (sym on ∙ x);
        power = λ x. t.power (sym up ∙ x);
      }

  told_by : (s : Stage) (j : Option Handle) (a : Standing) → may_pass w s j a ≡ true → Told plan es device.id.0 i a → Told plan (es ++ event.Stage device s j ∷ []) device.id.0 i (passes w s j a)
  told_by stage.Enabled None a m k = absurd (let t : (a.entered && false) ≡ true = both_left (a.entered && false) _ (both_left _ _ m) in let z : false ≡ true = both_right a.entered false t in let y : ⊥ = cc in y)
  told_by stage.Enabled (Some h) a m k = told_enabled a h (h.id.0 == i) refl (both_left a.entered true (both_left (a.entered && true) (not (h.id.0 == i) || w.watched) (both_left (a.entered && true && (not (h.id.0 == i) || w.watched)) (not (h.id.0 == i) || not a.on) m))) k
  told_by stage.Disabled None a m k = absurd (let z : ⊥ = cc in z)
  told_by stage.Disabled (Some h) a m k = told_disabled a h (h.id.0 == i) refl k
  told_by stage.QueuesUp j a m k = told_up j a (both_right (not a.up) a.entered m) k
  told_by stage.QueuesDown j a m k = told_down j a k
  told_by stage.Hardware j a m k = told_other a (record a { hardware = true }) (event.Stage device stage.Hardware j) refl refl refl refl (record { entered = refl; exit = refl; enabled = refl; disabled = refl; up = refl; down = refl }) k
  told_by stage.NoHardware j a m k = told_other a (record a { hardware = false }) (event.Stage device stage.NoHardware j) refl refl refl refl (record { entered = refl; exit = refl; enabled = refl; disabled = refl; up = refl; down = refl }) k
  told_by stage.Quiet j a m k = told_other a (record a { clean = not a.on }) (event.Stage device stage.Quiet j) refl refl refl refl (record { entered = refl; exit = refl; enabled = refl; disabled = refl; up = refl; down = refl }) k
  told_by stage.Settled j a m k = told_other a a (event.Stage device stage.Settled j) refl refl refl refl (record { entered = refl; exit = refl; enabled = refl; disabled = refl; up = refl; down = refl }) k
  told_by stage.Closed j a m k = told_other a a (event.Stage device stage.Closed j) refl refl refl refl (record { entered = refl; exit = refl; enabled = refl; disabled = refl; up = refl; down = refl }) k
  told_by stage.Working j a m k = told_other a (passes w stage.Working j a) (event.Stage device stage.Working j) refl refl refl refl (record { entered = refl; exit = refl; enabled = refl; disabled = refl; up = refl; down = refl }) k
  told_by stage.Sleeping j a m k = told_other a (passes w stage.Sleeping j a) (event.Stage device stage.Sleeping j) refl refl refl refl (record { entered = refl; exit = refl; enabled = refl; disabled = refl; up = refl; down = refl }) k
  told_by stage.Removed j a m k = told_other a (passes w stage.Removed j a) (event.Stage device stage.Removed j) refl refl refl refl (record { entered = refl; exit = refl; enabled = refl; disabled = refl; up = refl; down = refl }) k

  -- ---- where the device is after it

  record After (s : Stage) (j : Option Handle) (q : Sequence) (p : DevicePower) (enabled : Bool) (a : Standing) : Type 0 where
    steps : (passed s q).steps ≡ q.steps
    left : (passed s q).left ≡ q.left
    running : (passed s q).running ≡ q.running
    phase : (passes w s j a).phase ≡ (passed s q).phase
    up : (passes w s j a).up ≡ (power_by s p).up
    hardware : (passes w s j a).hardware ≡ (power_by s p).hardware
    on : (passes w s j a).on ≡ (w.watched && enabling s (is_for i j) enabled)
    plain : (w.entry || (passes w s j a).entered) ≡ true

  after : (s : Stage) (j : Option Handle) (q : Sequence) (p : DevicePower) (enabled : Bool) (a : Standing) → may_pass w s j a ≡ true → a.phase ≡ q.phase → a.up ≡ p.up → a.hardware ≡ p.hardware → a.on ≡ (w.watched && enabled) → (w.entry || a.entered) ≡ true
      → After s j q p enabled a
  after stage.Hardware j q p x a m f u h o plain = record { steps = refl; left = refl; running = refl; phase = f; up = u; hardware = refl; on = o; plain = plain }
  after stage.NoHardware j q p x a m f u h o plain = record { steps = refl; left = refl; running = refl; phase = f; up = u; hardware = refl; on = o; plain = plain }
  after stage.Enabled j q p x a m f u h o plain = record { steps = refl; left = refl; running = refl; phase = f; up = u; hardware = h; on = on_more a (is_for i j) x (both_right (a.entered && is_some j) (not (is_for i j) || w.watched) (both_left (a.entered && is_some j && (not (is_for i j) || w.watched)) (not (is_for i j) || not a.on) m)) o; plain = plain }
  after stage.Disabled j q p x a m f u h o plain = record { steps = refl; left = refl; running = refl; phase = f; up = u; hardware = h; on = on_less a (is_for i j) x o; plain = plain }
  after stage.QueuesUp j q p x a m f u h o plain = record { steps = refl; left = refl; running = refl; phase = f; up = refl; hardware = h; on = o; plain = plain }
  after stage.QueuesDown j q p x a m f u h o plain = record { steps = refl; left = refl; running = refl; phase = f; up = refl; hardware = h; on = o; plain = plain }
  after stage.Working j q p x a m f u h o plain = record { steps = refl; left = refl; running = refl; phase = refl; up = u; hardware = h; on = o; plain = plain }
  after stage.Sleeping j q p x a m f u h o plain = record { steps = refl; left = refl; running = refl; phase = refl; up = u; hardware = h; on = o; plain = plain }
  after stage.Removed j q p x a m f u h o plain = record { steps = refl; left = refl; running = refl; phase = refl; up = u; hardware = h; on = o; plain = plain }
  after _ j q p x a m f u h o plain = record { steps = refl; left = refl; running = refl; phase = f; up = u; hardware = h; on = o; plain = plain }

  pub passes_to : (q : Sequence) (p : DevicePower) (enabled : Bool) (s : Stage) (j : Option Handle) (ss : List Step) → q.running ≡ None → q.left ≡ step.Pass s j ∷ ss → Holds plan q p enabled es device.id.0 i
      → Holds plan (passed s (record q { left = ss })) (power_by s p) (enabling s (is_for i j) enabled) (es ++ event.Stage device s j ∷ []) device.id.0 i
  passes_to q p enabled s j ss idle here k =
      let a : Standing = k.standing in
      let r : Sequence = record q { left = ss } in
      let is : safe w (step.Pass s j ∷ ss) a ≡ true = subst (λ x. owed w x (step.Pass s j ∷ ss) a ≡ true) idle (subst (λ ts. owed w q.running ts a ≡ true) here k.owed) in
      let m : may_pass w s j a ≡ true = both_left (may_pass w s j a) (safe w ss (passes w s j a)) is in
      let t : After s j r p enabled a = after s j r p enabled a m k.phase k.up k.hardware k.on k.plain in
      record {
        standing = passes w s j a;
        suits = rw t.steps k.suits;
        phase = t.phase;
        up = t.up;
        hardware = t.hardware;
        on = t.on;
        plain = t.plain;
        owed = rw (t.running, t.left, idle) (both_right (may_pass w s j a) (safe w ss (passes w s j a)) is);
        told = told_by s j a m k.told;
      }

  -- a stage that the device may pass next
  pub may_pass_next : (q : Sequence) (p : DevicePower) (enabled : Bool) (s : Stage) (j : Option Handle) (ss : List Step) → q.running ≡ None → q.left ≡ step.Pass s j ∷ ss → (k : Holds plan q p enabled es device.id.0 i) → may_pass w s j k.standing ≡ true
  may_pass_next q p enabled s j ss idle here k =
      both_left (may_pass w s j k.standing) (safe w ss (passes w s j k.standing)) (subst (λ x. owed w x (step.Pass s j ∷ ss) k.standing ≡ true) idle (subst (λ ts. owed w q.running ts k.standing ≡ true) here k.owed))
