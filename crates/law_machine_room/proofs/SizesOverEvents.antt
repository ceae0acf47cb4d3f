-- The tables keep their sizes over each event, from the opening on.
use Rattle.std.proofs.Common.{◌≡◌, ℕ, List, [], length, refl, ◌∙◌}
use Rattle.std.proofs.lemmas.List.{length-map, length-replicate}
use Rattle.std.proofs.lemmas.List.FromFn.{length-map-range_with_len}
use Rattle.wdf_base.specs.Meaning.{Meaning}
use Rattle.wdf_base.specs.declared.plan.Plan.{Plan}
use Rattle.wdf_base.specs.declared.event.Event.{Event}
use Rattle.wdf_base.specs.declared.event.Event.TheVariants as event
use Rattle.wdf_model.specs.Plans.{agent_count, device_of, queue_of, target_of}
use Rattle.wdf_model.specs.parts.Queues.{opening_dispatch}
use Rattle.wdf_model.specs.parts.Control.{opening_mode}
use Rattle.wdf_model.specs.parts.Power.{opening_device_power}
use Rattle.wdf_model.specs.parts.Pnp.{opening_sequence}
use Rattle.wdf_model.specs.parts.Targets.{opening_target}
use Rattle.wdf_model.specs.State.{State, opening}
use Rattle.wdf_model.specs.rules.Deeds.{counted, do_deeds, told}
use Rattle.wdf_model.specs.rules.Steps.{after, deeds}
use Rattle.wdf_model.specs.rules.Room.{AreDoable}
use Rattle.law_machine_room.specs.Kept.{SizesKept}
use Rattle.wdf_model.specs.rules.Groups.{declared_end}
use Rattle.law_machine_room.proofs.SizesByDeeds.{deeds_sizes}

pub sizes_open : {A : Type 0} (plan : Plan) (m : Meaning A) → SizesKept plan (opening plan m)
sizes_open plan m = record {
  dispatch = length-map-range_with_len (λ q. opening_dispatch (queue_of plan q)) 0 (declared_end plan);
  waiting = length-map-range_with_len {X = List ℕ} (λ _. []) 0 (declared_end plan);
  held = length-map-range_with_len (λ _. 0) 0 (declared_end plan);
  controls = length-map-range_with_len (λ q. opening_mode (queue_of plan q)) 0 (declared_end plan);
  powers = length-map-range_with_len (λ d. opening_device_power (device_of plan d)) 0 (declared_end plan);
  sequences = length-map-range_with_len (λ d. opening_sequence plan d (device_of plan d)) 0 (declared_end plan);
  targets = record { many = length-map-range_with_len (λ t. opening_target (target_of plan t)) 0 (declared_end plan); depths = λ t. refl };
  stacks = length-replicate {A = List ℕ} plan.cpus [];
  dpcs = length-replicate {A = List ℕ} plan.cpus [];
  agents = length-map-range_with_len (m.begin plan) 0 (agent_count plan);
}

as_many_told : {A : Type 0} (m : Meaning A) (e : Event) (agents : List A) → length (told m e agents) ≡ length agents
as_many_told m (event.Local cpu line) agents = refl
as_many_told m (event.Log cpu v) agents = refl
as_many_told m e agents = length-map agents (λ a. m.fold a e)

-- the agents hear of an event, and it is counted
sizes_counted : {A : Type 0} (plan : Plan) (m : Meaning A) (e : Event) (S : State A) → SizesKept plan S → SizesKept plan (counted m e S)
sizes_counted plan m e S k = record {
  dispatch = k.dispatch;
  waiting = k.waiting;
  held = k.held;
  controls = k.controls;
  powers = k.powers;
  sequences = k.sequences;
  targets = k.targets;
  stacks = k.stacks;
  dpcs = k.dpcs;
  agents = as_many_told m e S.agents ∙ k.agents;
}

pub sizes_kept : {A : Type 0} (plan : Plan) (m : Meaning A) (S : State A) (e : Event) → AreDoable plan (deeds plan S e) S → SizesKept plan S → SizesKept plan (after plan m S e)
sizes_kept plan m S e d k = sizes_counted plan m e (do_deeds plan (deeds plan S e) S) (deeds_sizes plan (deeds plan S e) S d k)
