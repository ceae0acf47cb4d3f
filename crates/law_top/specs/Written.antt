-- What is so of a run that was written. (own)
use Rattle.std.specs.Prelude.{◌≡◌, ℕ, List, map}
use Rattle.wdf_base.specs.declared.event.Event.{Event}
use Rattle.wdf_base.specs.declared.event.Ending.TheVariants as ending
use Rattle.wdf_scene.specs.declared.scene.Scene.{Scene}
use Rattle.wdf_parse.specs.Canonical.{canonical_text}
use Rattle.wdf_parse.specs.StandsFor.{StandsFor}
use Rattle.wdf_io.specs.Outside.{Gains}
use Rattle.wdf_model.specs.rules.Ready.{state_after}
use Rattle.wdf_output.specs.Said.{Sinking}
use Rattle.wdf_dev.specs.Agents.{agent_meaning}
use Rattle.wdf_top.specs.Agents.{RunAgents, Usual, meaning_of}
use Rattle.wdf_top.specs.Answers.{Picking}
use Rattle.wdf_top.specs.Causes.{WroteAccepted}
use Rattle.wdf_top.specs.Top.{Sourcing}
use Rattle.wdf_serve.specs.Runs.{WroteRunTo, WroteSomeRun}
use Rattle.law_bare.specs.Bare.{bare_event}
use Rattle.law_trace_all.specs.Kept.{KeepsLaws}
use Rattle.law_stuck_blame.specs.Blame.{IsExplained}
use Rattle.law_at_rest.specs.Rest.{AllOver, AllPlayed, AsksAreDue, NothingComes}

-- a stuck run was written, and each line of its wait list explains why what it is about doesn't go on
abbrev pub WroteExplained : RunAgents → Picking → Sourcing → Sinking → Type 0
WroteExplained a by s k = (wrote : WroteRunTo a by s k 4 ending.Stuck) × IsExplained wrote.0.plan (meaning_of a) wrote.0.run

-- a run was written, and in the state at its end nothing waits for time, and nothing that may come is due
abbrev pub WroteAtRest : RunAgents → Picking → Sourcing → Sinking → ℕ → Type 0
WroteAtRest a by s k answer = (wrote : WroteSomeRun a by s k answer) × NothingComes wrote.plan (meaning_of a) (state_after wrote.plan (meaning_of a) wrote.run)

-- A run with the program's agents was written. In the state at its end each agent has nothing left to post, but for the Plug and
-- Play manager where a device isn't done; and no other post is due.
abbrev pub WroteOver : Picking → Sourcing → Sinking → ℕ → Type 0
WroteOver by s k answer =
    (wrote : WroteSomeRun Usual by s k answer) × AllOver wrote.plan (state_after wrote.plan agent_meaning wrote.run) × AsksAreDue (state_after wrote.plan agent_meaning wrote.run)

-- a finished run with the program's agents was written, and the whole scenario was played in it
abbrev pub WrotePlayed : Picking → Sourcing → Sinking → Type 0
WrotePlayed by s k = (wrote : WroteRunTo Usual by s k 0 ending.Finished) × AllPlayed wrote.0.plan (state_after wrote.0.plan agent_meaning wrote.0.run)

-- a scene stands for the input, and its canonical text was written, with 0
abbrev pub WroteCanonical : List ℕ → Sinking → ℕ → Type 0
WroteCanonical input k answer =
    (scene : Scene) × (stands : StandsFor input scene) × (answer ≡ 0) × Gains k.before k.after (canonical_text scene.version stands.ws)

-- a text was written, with 0
abbrev pub WroteText : List ℕ → Sinking → ℕ → Type 0
WroteText text k answer = (answer ≡ 0) × Gains k.before k.after text

-- a trace was accepted, and the run of which it is the text keeps the nine laws of a trace
abbrev pub WroteKept : Sourcing → Sinking → Type 0
WroteKept s k = (wrote : WroteAccepted s k) × KeepsLaws wrote.plan wrote.accepted.run

-- two runs have the same events but for line numbers, and their statuses are the same
abbrev pub AreAlike : List Event → List Event → ℕ → ℕ → Type 0
AreAlike one two status another = (map bare_event one ≡ map bare_event two) × (status ≡ another)
