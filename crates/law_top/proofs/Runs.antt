-- What is so of a run that was written, by the laws on runs.
use Rattle.std.proofs.Common.{◌≡◌, ◌⊎◌, inl, inr, ℕ, List, refl, sym, ap, ◌∙◌, subst}
use Rattle.wdf_base.specs.declared.plan.Plan.{Plan}
use Rattle.wdf_base.specs.declared.event.Ending.TheVariants as ending
use Rattle.wdf_parse.specs.StandsFor.{StandsFor}
use Rattle.wdf_parse.proofs.Uniqueness.{one_stands}
use Rattle.wdf_plan.specs.Plans.{plan_of}
use Rattle.wdf_model.specs.rules.Ready.{ending_of}
use Rattle.wdf_dev.specs.Agents.{agent_meaning}
use Rattle.wdf_run_text.specs.Texts.{text_of}
use Rattle.wdf_split.specs.Inputs.{scenario_in}
use Rattle.wdf_output.specs.Said.{Sinking}
use Rattle.wdf_top.specs.Agents.{RunAgents, Usual, meaning_of}
use Rattle.wdf_top.specs.Answers.{HasPlan, Judgement, Picking, Run}
use Rattle.wdf_top.specs.Causes.{WroteAccepted}
use Rattle.wdf_top.specs.Promises.{ServicePromises}
use Rattle.wdf_top.specs.Top.{Reads, Sourcing}
use Rattle.wdf_top.proofs.Resolving.{text_plan_resolved}
use Rattle.wdf_serve.specs.Promises.{Promises}
use Rattle.wdf_serve.specs.Runs.{WroteRunTo, WroteSomeRun}
use Rattle.wdf_serve.specs.Words.{service_for}
use Rattle.law_replay.specs.Claims.{IsEndedRun}
use Rattle.law_replay.proofs.Exactly.{tells_runs}
use Rattle.law_trace_all.proofs.Together.{all_kept}
use Rattle.law_stuck_blame.proofs.Explained.{explained}
use Rattle.law_at_rest.proofs.Rest.{nothing_comes}
use Rattle.law_at_rest.proofs.Due.{agents_over, all_played, asks_due}
use Rattle.law_top.specs.Written.{WroteAtRest, WroteExplained, WroteKept, WroteOver, WrotePlayed}

pub stuck_explained : (words : List (List ℕ)) (s : Sourcing) (k : Sinking) → Promises words s k 4 → (a : RunAgents) (by : Picking) → service_for words ≡ Reads (Run a by) → WroteExplained a by s k
stuck_explained words s k p a by is =
    let wrote : WroteRunTo a by s k 4 ending.Stuck = p.stuck a by is refl in
    (wrote, explained wrote.0.plan (meaning_of a) wrote.0.run (text_plan_resolved wrote.0.input wrote.0.plan wrote.0.stands) wrote.0.runs wrote.1)

rest_of : (a : RunAgents) (by : Picking) (s : Sourcing) (k : Sinking) (answer : ℕ) (wrote : WroteSomeRun a by s k answer)
    → (ending_of wrote.plan (meaning_of a) wrote.run ≡ ending.Finished) ⊎ (ending_of wrote.plan (meaning_of a) wrote.run ≡ ending.Stuck) → WroteAtRest a by s k answer
rest_of a by s k answer wrote ends = (wrote, nothing_comes wrote.plan (meaning_of a) wrote.run ends)

pub at_rest_by : (words : List (List ℕ)) (s : Sourcing) (k : Sinking) (answer : ℕ) → Promises words s k answer → (a : RunAgents) (by : Picking) → service_for words ≡ Reads (Run a by)
    → (answer ≡ 0) ⊎ (answer ≡ 4) → WroteAtRest a by s k answer
at_rest_by words s k answer p a by is (inl finished) =
    let wrote : WroteRunTo a by s k 0 ending.Finished = p.finished a by is finished in
    subst (WroteAtRest a by s k) (sym finished) (rest_of a by s k 0 wrote.0 (inl wrote.1))
at_rest_by words s k answer p a by is (inr stuck) =
    let wrote : WroteRunTo a by s k 4 ending.Stuck = p.stuck a by is stuck in
    subst (WroteAtRest a by s k) (sym stuck) (rest_of a by s k 4 wrote.0 (inr wrote.1))

over_of : (by : Picking) (s : Sourcing) (k : Sinking) (answer : ℕ) (wrote : WroteSomeRun Usual by s k answer)
    → (ending_of wrote.plan agent_meaning wrote.run ≡ ending.Finished) ⊎ (ending_of wrote.plan agent_meaning wrote.run ≡ ending.Stuck) → WroteOver by s k answer
over_of by s k answer wrote ends =
    let resolved = text_plan_resolved wrote.input wrote.plan wrote.stands in
    (wrote, agents_over wrote.plan wrote.run resolved wrote.runs ends, asks_due wrote.plan wrote.run resolved wrote.runs ends)

pub over_by : (words : List (List ℕ)) (s : Sourcing) (k : Sinking) (answer : ℕ) → Promises words s k answer → (by : Picking) → service_for words ≡ Reads (Run Usual by)
    → (answer ≡ 0) ⊎ (answer ≡ 4) → WroteOver by s k answer
over_by words s k answer p by is (inl finished) =
    let wrote : WroteRunTo Usual by s k 0 ending.Finished = p.finished Usual by is finished in
    subst (WroteOver by s k) (sym finished) (over_of by s k 0 wrote.0 (inl wrote.1))
over_by words s k answer p by is (inr stuck) =
    let wrote : WroteRunTo Usual by s k 4 ending.Stuck = p.stuck Usual by is stuck in
    subst (WroteOver by s k) (sym stuck) (over_of by s k 4 wrote.0 (inr wrote.1))

pub played_by : (words : List (List ℕ)) (s : Sourcing) (k : Sinking) → Promises words s k 0 → (by : Picking) → service_for words ≡ Reads (Run Usual by) → WrotePlayed by s k
played_by words s k p by is =
    let wrote : WroteRunTo Usual by s k 0 ending.Finished = p.finished Usual by is refl in
    (wrote, all_played wrote.0.plan wrote.0.run (text_plan_resolved wrote.0.input wrote.0.plan wrote.0.stands) wrote.0.runs wrote.1)

pub accepted_keep_laws : (s : Sourcing) (k : Sinking) → ServicePromises (Reads Judgement) s k 0 → WroteKept s k
accepted_keep_laws s k p =
    let wrote : WroteAccepted s k = p.accepted_only refl refl in
    (wrote, all_kept wrote.plan agent_meaning wrote.accepted.run (text_plan_resolved (scenario_in wrote.input) wrote.plan wrote.stands) wrote.accepted.is_run)

-- an input has one plan
one_plan : (input other : List ℕ) (a b : Plan) → input ≡ other → HasPlan input a → HasPlan other b → a ≡ b
one_plan input other a b same one two =
    let scenes : one.0 ≡ two.0 = one_stands input one.0 two.0 one.1 (subst (λ t. StandsFor t two.0) (sym same) two.1) in
    one.3 ∙ ap plan_of scenes ∙ sym two.3

pub tells : (by other : Picking) (s t : Sourcing) (k l : Sinking) (status another : ℕ) (one : WroteSomeRun Usual by s k status) (two : WroteSomeRun Usual other t l another)
    → one.input ≡ two.input → text_of one.plan agent_meaning one.run ≡ text_of two.plan agent_meaning two.run → one.run ≡ two.run
tells by other s t k l status another one two same text =
    let plans : one.plan ≡ two.plan = one_plan one.input two.input one.plan two.plan same one.stands two.stands in
    tells_runs one.input one.plan (one.whole.1, one.stands) one.run two.run (one.runs, one.ended)
    (subst (λ P. IsEndedRun P agent_meaning two.run) (sym plans) (two.runs, two.ended))
    (text ∙ ap (λ P. text_of P agent_meaning two.run) (sym plans))
