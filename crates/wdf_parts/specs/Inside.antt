-- What the fields of the parts say: the state that they stand for, and the room that they keep.
use Rattle.std.specs.Prelude.{◌≤◌, vec_capacity}
use Rattle.wdf_model.specs.State.{State}
use Rattle.wdf_model.specs.rules.Room.{AGENTS}
use Rattle.wdf_parts.specs.declared.parts.Parts.TheInside.{Inside}

abbrev pub state_in : {A : Type 0} → Inside A → State A
state_in p = record {
  tree = p.tree;
  cpus = p.cpus;
  locks = p.locks;
  requests = p.requests;
  queues = p.queues;
  control = p.control;
  power = p.power;
  pnp = p.pnp;
  interrupts = p.interrupts;
  dpcs = p.dpcs;
  work_items = p.work_items;
  timers = p.timers;
  targets = p.targets;
  agents = p.agents.items;
  arrivals = p.arrivals.items;
  clock = p.clock;
  number = p.number;
}

-- each agent's arrivals have their place
abbrev pub HasRoom : {A : Type 0} → Inside A → Type 0
HasRoom p = AGENTS ≤ vec_capacity p.arrivals
