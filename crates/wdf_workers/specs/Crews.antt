-- Whose events a worker takes, and what its turn makes of the run.
use Rattle.std.specs.Prelude.{◌≡◌, ℕ, Bool, true, false, ◌||◌, List, [], ◌∷◌, ◌++◌, Option, Some, None, slice_get, MatchOption}
use Rattle.wdf_base.specs.declared.event.Event.{Event}
use Rattle.wdf_base.specs.declared.event.Event.TheVariants as event
use Rattle.wdf_base.specs.declared.event.Actor.TheVariants as actor
use Rattle.wdf_model.specs.Runs.{place_for}
use Rattle.wdf_ready.specs.Actors.{is_by}
use Rattle.wdf_ready.specs.declared.sides.Side.{Side}
use Rattle.wdf_ready.specs.declared.sides.Side.TheVariants as side
use Rattle.wdf_crew.specs.declared.crew.Crew.{Crew}
use Rattle.wdf_crew.specs.declared.crew.Crew.TheVariants.{Processor, Framework, Agents}
use Rattle.wdf_crew.specs.declared.advance.Progress.{Progress}
use Rattle.wdf_crew.specs.declared.advance.Progress.TheVariants.{Added, Waits, Over}

-- a post of some agent
abbrev pub is_post : Event → Bool
is_post (event.Posted agent post answer) = true
is_post _ = false

-- the events of a crew: those of its processor, of the framework and the clock, or of all agents
abbrev pub takes_of : Crew → Event → Bool
takes_of (Processor cpu) e = is_by (actor.Cpu cpu) e
takes_of Framework e = is_by actor.Framework e || is_by actor.Clock e
takes_of Agents e = is_post e

-- the side whose events a crew takes
abbrev pub side_of : Crew → Side
side_of (Processor cpu) = side.Processor cpu
side_of Framework = side.Framework
side_of Agents = side.Agents

-- What a turn adds to the events so far: of those that may follow, the first that is the crew's. It adds nothing where none is.
abbrev pub Advances : (List Event → List Event) → Crew → List Event → List Event → Type 0
Advances ready crew old new = MatchOption (place_for (takes_of crew) (ready old)) (new ≡ old)
    (λ place. (e : Event) × (slice_get (ready old) place ≡ Some e) × (new ≡ old ++ e ∷ []))

abbrev pub progress_where : List Event → Option ℕ → Progress
progress_where events (Some place) = Added
progress_where [] None = Over
progress_where (e ∷ events) None = Waits

-- what a turn comes to, by the events that may follow: one of them is the crew's, none is there, or none is the crew's
abbrev pub progress_of : Crew → List Event → Progress
progress_of crew events = progress_where events (place_for (takes_of crew) events)
