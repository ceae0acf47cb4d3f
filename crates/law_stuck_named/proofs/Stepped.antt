-- A device with a step left is live, and a step that is a callback is that of a live object of it that has it.
use Rattle.std.proofs.Common.{if◌then◌else◌, ◌≡◌, ℕ, ◌==◌, ◌<◌, true, false, ◌&&◌, List, inl, inr, Option, Some, None, is_some, length, refl, sym, ap, ◌∙◌}
use Rattle.std.proofs.lemmas.Bool.{cases_Bool, eqb-true}
use Rattle.wdf_base.specs.Meaning.{Meaning}
use Rattle.wdf_base.specs.Callbacks.{row_of}
use Rattle.wdf_base.specs.Plan.{declared_of}
use Rattle.wdf_base.specs.Resolved.{IsResolved}
use Rattle.wdf_base.specs.Same.{same_handle, same_kind, same_option}
use Rattle.wdf_base.specs.declared.plan.Plan.{Plan}
use Rattle.wdf_base.specs.declared.ids.Handle.{Handle}
use Rattle.wdf_base.specs.declared.declared.Declared.{Declared}
use Rattle.wdf_base.specs.declared.declared.Declared.TheVariants as declared
use Rattle.wdf_base.specs.declared.declared.InterruptInfo.{InterruptInfo}
use Rattle.wdf_base.specs.declared.object.Kind.{Kind}
use Rattle.wdf_base.specs.declared.object.Kind.TheVariants as kind
use Rattle.wdf_base.specs.declared.call.Callback.{Callback}
use Rattle.wdf_base.specs.declared.rank.Rank.{Rank}
use Rattle.wdf_base.specs.declared.rank.Rank.TheVariants as rank
use Rattle.wdf_base.specs.declared.event.Event.{Event}
use Rattle.wdf_base.specs.declared.event.Step.{Step}
use Rattle.wdf_base.specs.declared.event.Step.TheVariants as step
use Rattle.wdf_base.specs.Lives.{is_live}
use Rattle.wdf_model.specs.declared.entries.Node.{Node}
use Rattle.wdf_model.specs.Tables.{first_of_list}
use Rattle.wdf_model.specs.Plans.{as_device, as_interrupt, declares, device_of, interrupt_of, is_interrupt_of, script_on}
use Rattle.wdf_model.specs.parts.Tree.{gone, kind_of, life_of, made_as, name_as, nearest_device, node_of, parent_of}
use Rattle.wdf_model.specs.parts.Pnp.{interrupt_name, next_step}
use Rattle.wdf_model.specs.State.{State, declared_in, declares_in, handle_in}
use Rattle.law_machine_base.specs.Agreement.{is_sequence}
use Rattle.wdf_model.specs.rules.Ready.{IsRunOf, state_after}
use Rattle.wdf_model.specs.rules.Starts.{interrupt_of_step}
use Rattle.wdf_model.proofs.Sames.{handle_decides}
use Rattle.wdf_model.proofs.Tests.{both, both_left, both_right, itself}
use Rattle.law_machine_counts.proofs.StillFrames.{live_there}
use Rattle.law_machine_lives.proofs.Keeping.{at_the_end}
use Rattle.law_machine_lives.proofs.Lists.{inside}
use Rattle.law_trace_power.proofs.Declares.{nearest_by, own_device_of}
use Rattle.law_trace_power.proofs.Belonging.{interrupt_found}
use Rattle.law_stuck_named_if.specs.Starts.{has_callback, step_may_run}
use Rattle.law_stuck_named.specs.Owners.{StepsMayRun}
use Rattle.law_stuck_named.specs.Standing.{is_live_device, is_part, is_part_of}
use Rattle.law_stuck_named.proofs.Standing.{Stands}
use Rattle.law_stuck_named.proofs.Coming.{Facts}
use Rattle.law_machine_once.proofs.Steps.{IsDeclaredStep, steps_declared}
use Rattle.law_stuck_named.proofs.Runs.{Known, known_now, stands_now}
use Rattle.law_trace_families.proofs.Families.{device_info}

-- ---- a step

sequence_by : (k : Rank) → k ≡ rank.Sequence → is_sequence k ≡ true
sequence_by k e = ap is_sequence e

no_interrupt : (o : Option Declared) → is_some (as_device o) ≡ true → is_some (as_interrupt o) ≡ false
no_interrupt (Some (declared.Interrupt i)) h = absurd (let z : ⊥ = cc in z)
no_interrupt _ h = refl

made_declared : (plan : Plan) (n : Node) (o : ℕ) (k : Kind) → (k ≡ kind.Device) → made_as plan n o k ≡ declared_of plan o
made_declared plan n o k e = ap (made_as plan n o) e

-- the handle with another name
abbrev handle_with : Handle → ℕ → Handle
handle_with i n = record { id = i.id; name = n }

module _ {A : Type 0} (plan : Plan) (S : State A) (resolved : IsResolved plan) (facts : Facts plan S) (k : Stands plan S) where
  device_live : (d : ℕ) (s : Step) → next_step S.pnp d ≡ Some s → is_live_device plan S d ≡ true
  device_live d s next = elim (cases_Bool (is_live_device plan S d)) [
    | inl e ↦ e
    | inr off ↦ absurd (let none : next_step S.pnp d ≡ None = ap first_of_list (k.over d off).left in let z : ⊥ = cc in z)
  ]

  -- a device
  device_runs : (d : ℕ) (c : Callback) → is_live_device plan S d ≡ true → (row_of c).rank ≡ rank.Sequence → declares plan c d ≡ true → step_may_run plan S d (step.Run c None) ≡ true
  device_runs d c dev ranked has =
      let is : is_some (device_of plan d) ≡ true = both_left (is_some (device_of plan d)) (is_live (life_of S.tree d)) dev in
      let live : is_live (life_of S.tree d) ≡ true = both_right (is_some (device_of plan d)) (is_live (life_of S.tree d)) dev in
      let i = device_info (declared_of plan d) is in
      let there = live_there (life_of S.tree d) live in
      let kind_ : kind_of S.tree d ≡ kind.Device = (facts.declared d (declared.Device i.0) i.1 there).1 in
      let told : declared_in plan S d ≡ declared_of plan d = made_declared plan (node_of S.tree d) d (kind_of S.tree d) kind_ in
      let runs : declares_in plan S c d ≡ true = ap (λ o. is_some (script_on plan c o)) told ∙ has in
      let near : nearest_device S.tree d ≡ d = own_device_of plan S d facts.known.known.declared there (let it : declared_in plan S d ≡ Some (declared.Device i.0) = told ∙ i.1 in rw it refl) in
      let none : interrupt_of_step plan S d ≡ None = ap (λ b. if b then Some (handle_in plan S d) else None) (no_interrupt (declared_of plan d) is) in
      both (has_callback plan S c d && is_sequence (row_of c).rank && nearest_device S.tree d == d) (same_option same_handle (interrupt_of_step plan S d) None)
      (both (has_callback plan S c d && is_sequence (row_of c).rank) (nearest_device S.tree d == d) (both (has_callback plan S c d) (is_sequence (row_of c).rank) (both (is_live (life_of S.tree d)) (declares_in plan S c d) live runs) (sequence_by (row_of c).rank ranked))
      (ap (λ y. y == d) near ∙ itself d))
      (ap (λ o. same_option same_handle o None) none)

  -- an interrupt of it
  interrupt_runs : (d : ℕ) (c : Callback) (i : Handle) → is_live_device plan S d ≡ true → (row_of c).rank ≡ rank.Sequence → declares plan c i.id.0 ≡ true → (x : Option InterruptInfo) → interrupt_of plan i.id.0 ≡ x → is_interrupt_of d x ≡ true → i.name ≡ interrupt_name x
      → step_may_run plan S d (step.Run c (Some i)) ≡ true
  interrupt_runs d c i dev ranked has None at own name = absurd (let z : ⊥ = cc in z)
  interrupt_runs d c i dev ranked has (Some x) at own name =
      let o : ℕ = i.id.0 in
      let is : is_some (device_of plan d) ≡ true = both_left (is_some (device_of plan d)) (is_live (life_of S.tree d)) dev in
      let up : is_live (life_of S.tree d) ≡ true = both_right (is_some (device_of plan d)) (is_live (life_of S.tree d)) dev in
      let as_ : declared_of plan o ≡ Some (declared.Interrupt x) = interrupt_found (declared_of plan o) x at in
      let part : is_part_of plan d o ≡ true = both (is_part d (declared_of plan o)) (is_some (device_of plan d)) (ap (is_part d) as_ ∙ own) is in
      let live : is_live (life_of S.tree o) ≡ true = k.parts d o part up in
      let there = live_there (life_of S.tree o) live in
      let f = facts.declared o (declared.Interrupt x) as_ there in
      let kind_ : kind_of S.tree o ≡ kind.Interrupt = f.1 in
      let told : declared_in plan S o ≡ declared_of plan o = ap (made_as plan (node_of S.tree o) o) kind_ in
      let runs : declares_in plan S c o ≡ true = ap (λ y. is_some (script_on plan c y)) told ∙ has in
      let parent : parent_of S.tree o ≡ d = f.0 ∙ eqb-true x.device.0 d own in
      let within : o < length S.tree.nodes = inside gone (λ n. is_live n.life) S.tree.nodes o refl live in
      let low : parent_of S.tree o < o = facts.lives.older o live in
      let j = device_info (declared_of plan d) is in
      let there_d = live_there (life_of S.tree d) up in
      let kind_d : kind_of S.tree d ≡ kind.Device = (facts.declared d (declared.Device j.0) j.1 there_d).1 in
      let as_d : declared_in plan S d ≡ declared_of plan d = made_declared plan (node_of S.tree d) d (kind_of S.tree d) kind_d in
      let near_d : nearest_device S.tree d ≡ d = own_device_of plan S d facts.known.known.declared there_d (let it : declared_in plan S d ≡ Some (declared.Device j.0) = as_d ∙ j.1 in rw it refl) in
      let near : nearest_device S.tree o ≡ d = nearest_by S.tree o within (ap (λ y. same_kind y kind.Device) kind_) low ∙ ap (nearest_device S.tree) parent ∙ near_d in
      let named : (handle_in plan S o).name ≡ i.name = ap (name_as plan) (told ∙ as_) ∙ sym name in
      let handle : handle_in plan S o ≡ i = ap (handle_with i) named in
      let it : interrupt_of_step plan S o ≡ Some i = ap (λ b. if b then Some (handle_in plan S o) else None) (ap is_some at) ∙ ap Some handle in
      both (has_callback plan S c o && is_sequence (row_of c).rank && nearest_device S.tree o == d) (same_option same_handle (interrupt_of_step plan S o) (Some i))
      (both (has_callback plan S c o && is_sequence (row_of c).rank) (nearest_device S.tree o == d) (both (has_callback plan S c o) (is_sequence (row_of c).rank) (both (is_live (life_of S.tree o)) (declares_in plan S c o) live runs) (sequence_by (row_of c).rank ranked))
      (ap (λ y. y == d) near ∙ itself d))
      (ap (λ y. same_option same_handle y (Some i)) it ∙ (handle_decides i i).1 refl)

  step_runs : (d : ℕ) (s : Step) → is_live_device plan S d ≡ true → IsDeclaredStep plan d s → step_may_run plan S d s ≡ true
  step_runs d (step.Pass s i) dev own = refl
  step_runs d (step.Run c None) dev own = device_runs d c dev own.1 own.0
  step_runs d (step.Run c (Some i)) dev own = interrupt_runs d c i dev own.1 own.0 (interrupt_of plan i.id.0) refl own.2 own.3

pub steps_may_run : {A : Type 0} (plan : Plan) (m : Meaning A) (run : List Event) → IsResolved plan → IsRunOf plan m run → StepsMayRun plan (state_after plan m run)
steps_may_run {A} plan m run resolved is_run =
    let S : State A = state_after plan m run in
    let n : Known plan S = known_now plan m resolved run is_run in
    let k : Stands plan S = stands_now plan m run resolved is_run in
    record {
      next = λ d s next.
          let dev = device_live plan S resolved n.facts k d s next in
          let own = at_the_end plan m (λ (S : State A). (d : ℕ) (s : Step) → next_step S.pnp d ≡ Some s → IsDeclaredStep plan d s) run (steps_declared plan m run is_run (length run)) d s next in
          (dev, step_runs plan S resolved n.facts k d s dev own);
    }
