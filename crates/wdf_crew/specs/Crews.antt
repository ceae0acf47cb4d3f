-- The crews of the workers.
use Rattle.std.specs.Prelude.{if◌then◌else◌, ◌==◌, ℕ, nat_lt}
use Rattle.wdf_crew.specs.declared.crew.Crew.{Crew}
use Rattle.wdf_crew.specs.declared.crew.Crew.TheVariants.{Processor, Framework, Agents}

-- The crew of a worker, counted from 0, where the machine has so many processors: a worker for each processor, then one for
-- the framework and the clock, then one for all agents.
abbrev pub crew_of : ℕ → ℕ → Crew
crew_of worker processors =
    if nat_lt worker processors then Processor worker
    else if worker == processors then Framework
    else Agents
