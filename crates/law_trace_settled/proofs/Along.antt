-- A test that is carried along the steps left of a device: `settled` comes right after `queues_down`, and EvtDeviceD0Exit
-- only after `settled`.
use Rattle.std.proofs.Common.{if◌then◌else◌, ◌≡◌, Bool, true, false, not, ◌&&◌, ◌||◌, List, [], ◌∷◌, ◌++◌, reverse, None, refl, sym, subst}
use Rattle.std.specs.List.{flat_map, list_all, list_any}
use Rattle.std.proofs.lemmas.List.Concat.{flat_map-cons}
use Rattle.wdf_base.specs.declared.ids.Handle.{Handle}
use Rattle.wdf_base.specs.declared.call.Callback.{Callback}
use Rattle.wdf_base.specs.declared.call.Callback.TheVariants as callback
use Rattle.wdf_base.specs.declared.event.Ask.{Ask}
use Rattle.wdf_base.specs.declared.event.Ask.TheVariants as asks
use Rattle.wdf_base.specs.declared.event.Stage.{Stage}
use Rattle.wdf_base.specs.declared.event.Stage.TheVariants as stage
use Rattle.wdf_base.specs.declared.event.Step.{Step}
use Rattle.wdf_base.specs.declared.event.Step.TheVariants as step
use Rattle.wdf_base.specs.Same.{same_callback}
use Rattle.wdf_model.specs.declared.enums.Phase.{Phase}
use Rattle.wdf_model.specs.declared.enums.Phase.TheVariants.{Off, Working, Sleeping, Removed}
use Rattle.wdf_model.specs.parts.Pnp.{DeviceSteps, InterruptSteps, Sequence, disable_steps, down_steps, enable_steps, end_steps, flush_steps, hard_steps, left_after_failure, pass, quiet_steps, run, run_if, self_managed_start, steps_for, tail_steps, up_steps}
use Rattle.wdf_model.proofs.Tests.{both, both_left, both_right}

-- how far a device is on its way down
pub record Way : Type 0 where
  -- its last step was `queues_down`
  pub down : Bool
  -- `settled` came, and neither `queues_up` nor `queues_down` since
  pub settled : Bool

-- ---- how steps change it

abbrev pub passes : Stage → Way → Way
passes stage.QueuesUp w = record { down = false; settled = false }
passes stage.QueuesDown w = record { down = true; settled = false }
passes stage.Settled w = record { down = false; settled = true }
passes _ w = record { down = false; settled = w.settled }

abbrev pub next : Step → Way → Way
next (step.Run c j) w = record { down = false; settled = w.settled }
next (step.Pass s j) w = passes s w

-- ---- what has to be so

abbrev pub may_begin : Callback → Way → Bool
may_begin callback.EvtDeviceD0Exit w = w.settled
may_begin _ w = true

abbrev pub may_pass : Stage → Way → Bool
may_pass stage.Settled w = w.down
may_pass _ w = true

abbrev pub may_take : Step → Way → Bool
may_take (step.Run c j) w = may_begin c w
may_take (step.Pass s j) w = may_pass s w

-- along the steps
abbrev pub fits : List Step → Way → Bool
fits [] w = true
fits (s ∷ ss) w = may_take s w && fits ss (next s w)

abbrev way_after : List Step → Way → Way
way_after [] w = w
way_after (s ∷ ss) w = way_after ss (next s w)

-- ---- one list after another

record Leads (ss : List Step) (w : Way) (Q : Way → Type 0) : Type 0 where
  well : fits ss w ≡ true
  after : Q (way_after ss w)

leads_over : (xs ys : List Step) (w : Way) (P Q : Way → Type 0) → Leads xs w P → ((u : Way) → P u → Leads ys u Q) → Leads (xs ++ ys) w Q
leads_over [] ys w P Q h k = k w h.after
leads_over (x ∷ xs) ys w P Q h k =
    let rest : Leads (xs ++ ys) (next x w) Q = leads_over xs ys (next x w) P Q (record { well = both_right (may_take x w) (fits xs (next x w)) h.well; after = h.after }) k in
    record { well = both (may_take x w) (fits (xs ++ ys) (next x w)) (both_left (may_take x w) (fits xs (next x w)) h.well) rest.well; after = rest.after }

leads_on : {xs ys : List Step} {w : Way} {P Q : Way → Type 0} → Leads xs w P → ((u : Way) → P u → Leads ys u Q) → Leads (xs ++ ys) w Q
leads_on {xs} {ys} {w} {P} {Q} h k = leads_over xs ys w P Q h k

-- where the first is true, the device is settled
abbrev At : Bool → Way → Type 0
At b w = (not b || w.settled) ≡ true

-- ---- steps that leave it

abbrev is_plain_callback : Callback → Bool
is_plain_callback callback.EvtDeviceD0Exit = false
is_plain_callback _ = true

abbrev is_plain_stage : Stage → Bool
is_plain_stage stage.QueuesUp = false
is_plain_stage stage.QueuesDown = false
is_plain_stage stage.Settled = false
is_plain_stage _ = true

abbrev is_plain : Step → Bool
is_plain (step.Run c j) = is_plain_callback c
is_plain (step.Pass s j) = is_plain_stage s

abbrev plain : List Step → Bool
plain ss = list_all is_plain ss

plain_begins : (c : Callback) (w : Way) → is_plain_callback c ≡ true → may_begin c w ≡ true
plain_begins callback.EvtDeviceD0Exit w h = absurd (let z : ⊥ = cc in z)
plain_begins _ w h = refl

plain_passes : (s : Stage) (w : Way) → is_plain_stage s ≡ true → (may_pass s w ≡ true) × ((passes s w).settled ≡ w.settled)
plain_passes stage.QueuesUp w h = absurd (let z : ⊥ = cc in z)
plain_passes stage.QueuesDown w h = absurd (let z : ⊥ = cc in z)
plain_passes stage.Settled w h = absurd (let z : ⊥ = cc in z)
plain_passes _ w h = (refl, refl)

plain_takes : (s : Step) (w : Way) → is_plain s ≡ true → (may_take s w ≡ true) × ((next s w).settled ≡ w.settled)
plain_takes (step.Run c j) w h = (plain_begins c w h, refl)
plain_takes (step.Pass s j) w h = plain_passes s w h

plain_leads : (b : Bool) (ss : List Step) (w : Way) → plain ss ≡ true → At b w → Leads ss w (At b)
plain_leads b [] w h k = record { well = refl; after = k }
plain_leads b (s ∷ ss) w h k =
    let t = plain_takes s w (both_left (is_plain s) (plain ss) h) in
    let rest : Leads ss (next s w) (At b) = plain_leads b ss (next s w) (both_right (is_plain s) (plain ss) h) (subst (λ x. (not b || x) ≡ true) (sym t.1) k) in
    record { well = both (may_take s w) (fits ss (next s w)) t.0 rest.well; after = rest.after }

plain_after : (xs ys : List Step) → plain xs ≡ true → plain ys ≡ true → plain (xs ++ ys) ≡ true
plain_after [] ys h k = k
plain_after (x ∷ xs) ys h k = both (is_plain x) (plain (xs ++ ys)) (both_left (is_plain x) (plain xs) h) (plain_after xs ys (both_right (is_plain x) (plain xs) h) k)

plain_run_by : (b : Bool) (c : Callback) → is_plain_callback c ≡ true → plain (if b then step.Run c None ∷ [] else []) ≡ true
plain_run_by true c h = both (is_plain_callback c) true h refl
plain_run_by false c h = refl

plain_run : (p : DeviceSteps) (c : Callback) → is_plain_callback c ≡ true → plain (run p c) ≡ true
plain_run p c h = plain_run_by (list_any (same_callback c) p.callbacks) c h

plain_run_if : (b : Bool) (c : Callback) (i : Handle) → is_plain_callback c ≡ true → plain (run_if b c i) ≡ true
plain_run_if true c i h = both (is_plain_callback c) true h refl
plain_run_if false c i h = refl

plain_all : (f : InterruptSteps → List Step) → ((x : InterruptSteps) → plain (f x) ≡ true) → (xs : List InterruptSteps) → plain (flat_map f xs) ≡ true
plain_all f h [] = refl
plain_all f h (x ∷ xs) = rw (flat_map-cons f x xs) (plain_after (f x) (flat_map f xs) (h x) (plain_all f h xs))

plain_enables : (x : InterruptSteps) → plain (enable_steps x) ≡ true
plain_enables x = plain_after (run_if x.enables callback.EvtInterruptEnable x.interrupt) _ (plain_run_if x.enables callback.EvtInterruptEnable x.interrupt refl) refl

plain_disables : (x : InterruptSteps) → plain (disable_steps x) ≡ true
plain_disables x = plain_run_if x.disables callback.EvtInterruptDisable x.interrupt refl

plain_quiet : (xs : List InterruptSteps) → plain (quiet_steps xs) ≡ true
plain_quiet [] = refl
plain_quiet (x ∷ xs) = refl

-- ---- each list

module _ (p : DeviceSteps) where
  plain_flush : (ever : Bool) → plain (flush_steps p ever) ≡ true
  plain_flush false = refl
  plain_flush true = plain_after (run p callback.EvtDeviceSelfManagedIoFlush) (run p callback.EvtDeviceSelfManagedIoCleanup) (plain_run p callback.EvtDeviceSelfManagedIoFlush refl) (plain_run p callback.EvtDeviceSelfManagedIoCleanup refl)

  plain_end : (ever : Bool) → plain (end_steps p ever) ≡ true
  plain_end ever = plain_after (pass stage.NoHardware ++ pass stage.Closed ++ flush_steps p ever) (pass stage.Removed) (plain_after (pass stage.NoHardware ++ pass stage.Closed) (flush_steps p ever) refl (plain_flush ever)) refl

  plain_tail : (ever : Bool) → plain (tail_steps p ever) ≡ true
  plain_tail ever = plain_after (run p callback.EvtDeviceReleaseHardware) (end_steps p ever) (plain_run p callback.EvtDeviceReleaseHardware refl) (plain_end ever)

  plain_hard : plain (hard_steps p) ≡ true
  plain_hard = plain_after (pass stage.Hardware) (run p callback.EvtDevicePrepareHardware) refl (plain_run p callback.EvtDevicePrepareHardware refl)

  plain_start : (ever : Bool) → plain (run p (self_managed_start ever)) ≡ true
  plain_start true = plain_run p callback.EvtDeviceSelfManagedIoRestart refl
  plain_start false = plain_run p callback.EvtDeviceSelfManagedIoInit refl

  runs : (b : Bool) (c : Callback) (w : Way) → is_plain_callback c ≡ true → At b w → Leads (run p c) w (At b)
  runs b c w h k = plain_leads b (run p c) w (plain_run p c h) k

  ups : (ever : Bool) (w : Way) → Leads (up_steps p ever) w (At false)
  ups ever w =
      leads_on (leads_on (leads_on (leads_on (leads_on
      (runs false callback.EvtDeviceD0Entry w refl refl)
      (λ u k. plain_leads false (flat_map enable_steps p.interrupts) u (plain_all enable_steps plain_enables p.interrupts) k))
      (λ u k. runs false callback.EvtDeviceD0EntryPostInterruptsEnabled u refl k))
      rises)
      (λ u k. plain_leads false (run p (self_managed_start ever)) u (plain_start ever) k))
      (λ u k. plain_leads false (pass stage.Working) u refl k)
    where
      rises : (u : Way) → At false u → Leads (pass stage.QueuesUp) u (At false)
      rises u k = record { well = refl; after = refl }

  abbrev IsDown : Way → Type 0
  IsDown u = u.down ≡ true

  falls : (u : Way) → At false u → Leads (pass stage.QueuesDown) u IsDown
  falls u k = record { well = refl; after = refl }

  settles : (u : Way) → IsDown u → Leads (pass stage.Settled) u (At true)
  settles u k = record { well = both u.down true k refl; after = refl }

  exits : (b : Bool) (u : Way) → At true u → Leads (if b then step.Run callback.EvtDeviceD0Exit None ∷ [] else []) u (At true)
  exits true u k = record { well = both u.settled true k refl; after = k }
  exits false u k = record { well = refl; after = k }

  downs : (w : Way) → Leads (down_steps p) w (At true)
  downs w =
      leads_on (leads_on (leads_on (leads_on (leads_on (leads_on
      (runs false callback.EvtDeviceSelfManagedIoSuspend w refl refl)
      falls)
      settles)
      (λ u k. runs true callback.EvtDeviceD0ExitPreInterruptsDisabled u refl k))
      (λ u k. plain_leads true (flat_map disable_steps (reverse p.interrupts)) u (plain_all disable_steps plain_disables (reverse p.interrupts)) k))
      (λ u k. plain_leads true (quiet_steps p.interrupts) u (plain_quiet p.interrupts) k))
      (exits (list_any (same_callback callback.EvtDeviceD0Exit) p.callbacks))

  weaker : (ss : List Step) (w : Way) → Leads ss w (At true) → Leads ss w (At false)
  weaker ss w h = record { well = h.well; after = refl }

  tails : (ever : Bool) (w : Way) → Leads (tail_steps p ever) w (At false)
  tails ever w = plain_leads false (tail_steps p ever) w (plain_tail ever) refl

  begins_down : (c : Callback) (w : Way) → is_plain_callback c ≡ true → Leads (run p c ++ down_steps p) w (At false)
  begins_down c w h = leads_on (runs false c w h refl) (λ u k. weaker (down_steps p) u (downs u))

  rebalances : (ever : Bool) (w : Way) → Leads (run p callback.EvtDeviceQueryStop ++ down_steps p ++ run p callback.EvtDeviceReleaseHardware ++ pass stage.NoHardware ++ hard_steps p ++ up_steps p ever) w (At false)
  rebalances ever w =
      leads_on (leads_on (leads_on (leads_on
      (begins_down callback.EvtDeviceQueryStop w refl)
      (λ u k. runs false callback.EvtDeviceReleaseHardware u refl k))
      (λ u k. plain_leads false (pass stage.NoHardware) u refl k))
      (λ u k. plain_leads false (hard_steps p) u plain_hard k))
      (λ u k. ups ever u)

  -- whatever is asked of a device
  pub asked : (ever : Bool) (f : Phase) (a : Ask) (w : Way) → fits (steps_for p ever f a) w ≡ true
  asked ever Off asks.Start w = (leads_on (plain_leads false (hard_steps p) w plain_hard refl) (λ u k. ups ever u)).well
  asked ever Off asks.Remove w = refl
  asked ever Off asks.Surprise w = refl
  asked ever Working asks.Sleep w = (leads_on (weaker (down_steps p) w (downs w)) (λ u k. plain_leads false (pass stage.Sleeping) u refl k)).well
  asked ever Working asks.Rebalance w = (rebalances ever w).well
  asked ever Working asks.Remove w = (leads_on (begins_down callback.EvtDeviceQueryRemove w refl) (λ u k. tails ever u)).well
  asked ever Working asks.Surprise w = (leads_on (begins_down callback.EvtDeviceSurpriseRemoval w refl) (λ u k. tails ever u)).well
  asked ever Sleeping asks.Wake w = (ups ever w).well
  asked ever Sleeping asks.Remove w = (leads_on (runs false callback.EvtDeviceQueryRemove w refl refl) (λ u k. tails ever u)).well
  asked ever Sleeping asks.Surprise w = (leads_on (runs false callback.EvtDeviceSurpriseRemoval w refl refl) (λ u k. tails ever u)).well
  asked ever Removed a w = refl
  asked ever _ _ w = refl

-- where a callback failed
pub failed : (q : Sequence) (c : Callback) (w : Way) → fits q.left w ≡ true → fits (left_after_failure q c) w ≡ true
failed q callback.EvtDeviceQueryStop w h = refl
failed q callback.EvtDeviceQueryRemove w h = refl
failed q callback.EvtDevicePrepareHardware w h = (plain_leads false (end_steps q.steps q.ever_working) w (plain_end q.steps q.ever_working) refl).well
failed q callback.EvtDeviceD0Entry w h = (tails q.steps q.ever_working w).well
failed q _ w h = h
