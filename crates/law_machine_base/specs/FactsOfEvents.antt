-- What a reader expects of events: what some of them leave alone, and what they name.
use Rattle.std.specs.Prelude.{ℕ, ◌+◌, ◌≡◌, ◌≢◌, Bool, true, false, List, [], ◌∷◌}
use Rattle.wdf_base.specs.declared.event.Event.{Event}
use Rattle.wdf_base.specs.declared.event.Event.TheVariants as event
use Rattle.wdf_base.specs.Meaning.{Meaning}
use Rattle.wdf_base.specs.Lives.{is_gone}
use Rattle.wdf_model.specs.parts.Tree.{Tree, life_of}
use Rattle.wdf_model.specs.parts.Cpus.{running}
use Rattle.wdf_model.specs.State.{State}
use Rattle.wdf_model.specs.rules.Ready.{waits_for_time}

-- Nothing but the script's side of frame f is other than before, and one event more is counted. As before are
-- the agents, all parts but the processors, all other frames, the stacks, the parked frames, the held levels
-- and the level of frame f.
pub record MovesOnlyFrame {A : Type 0} (f : ℕ) (old new : State A) : Type 0 where
  -- what differs is in the processors, but for the count of events
  pub rest : new ≡ record old { cpus = new.cpus; number = old.number + 1 }
  -- the frames on each processor
  pub stacks : new.cpus.stacks ≡ old.cpus.stacks
  -- the frames that left their processor
  pub parked : new.cpus.parked ≡ old.cpus.parked
  -- each other frame
  pub others : (g : ℕ) → g ≢ f → running new.cpus g ≡ running old.cpus g
  -- the level of frame f's callback
  pub level : (running new.cpus f).level ≡ (running old.cpus f).level
  -- the levels of locks that frames hold
  pub levels : new.cpus.levels ≡ old.cpus.levels

-- event e starts a callback on an object that is gone, cleans one up or destroys one
abbrev pub touches_gone : Tree → Event → Bool
touches_gone T (event.Start cpu c o r) = is_gone (life_of T o.id.0)
touches_gone T (event.Cleanup o) = is_gone (life_of T o.id.0)
touches_gone T (event.Destroy o) = is_gone (life_of T o.id.0)
touches_gone T _ = false

-- An event is the clock's, it is all that is offered, and something waits for time.
pub record IsTick {A : Type 0} (m : Meaning A) (S : State A) (offered : List Event) (e : Event) : Type 0 where
  -- it is all that is offered
  pub alone : offered ≡ event.Tick (S.clock + 1) ∷ []
  -- event e is the next tick
  pub tick : e ≡ event.Tick (S.clock + 1)
  -- something waits for time
  pub wanted : waits_for_time m S ≡ true
