-- What the top call promises of an answer to words: what is left of the source, what was written and the status. (own)
use Rattle.std.specs.Prelude.{ℕ, ◌≡◌, ◌⊎◌, false, IsTrue, List, None}
use Rattle.wdf_base.specs.declared.event.Ending.TheVariants as ending
use Rattle.wdf_base.specs.declared.event.Fault.{Fault}
use Rattle.wdf_output.specs.Said.{Sinking}
use Rattle.wdf_serve.specs.Runs.{WroteRunTo, WroteSomeRun, is_end_status}
use Rattle.wdf_serve.specs.Words.{is_threaded, service_for}
use Rattle.wdf_top.specs.Agents.{RunAgents}
use Rattle.wdf_top.specs.Answers.{Picking, Run}
use Rattle.wdf_top.specs.Promises.{ServicePromises}
use Rattle.wdf_top.specs.Top.{Sourcing, Reads}
use Rattle.wdf_top.specs.Words.{form_of_words}

pub record Promises (words : List (List ℕ)) (s : Sourcing) (k : Sinking) (answer : ℕ) : Type 0 where
  -- What is promised of the answer to what the words ask for: which text is due with which status, and when each status
  -- comes.
  pub kept : ServicePromises (service_for words) s k answer
  -- Let the words ask for a run, by picks or by threads, and let the answer be 0, 3, 4 or 5. Then what was written is the text
  -- of a run of the written machine from the opening of the whole input's plan, with the agents that the words ask for and
  -- picked as they say. That run has ended, the status is its ending's, and it keeps the nine laws of a trace
  -- and those of its agents.
  pub headline : (a : RunAgents) (by : Picking) → service_for words ≡ Reads (Run a by) → IsTrue (is_end_status answer) → WroteSomeRun a by s k answer
  -- Which ending each of them says.
  pub finished : (a : RunAgents) (by : Picking) → service_for words ≡ Reads (Run a by) → answer ≡ 0 → WroteRunTo a by s k 0 ending.Finished
  pub fault : (a : RunAgents) (by : Picking) → service_for words ≡ Reads (Run a by) → answer ≡ 3 → (f : Fault) × WroteRunTo a by s k 3 (ending.Fault f)
  pub stuck : (a : RunAgents) (by : Picking) → service_for words ≡ Reads (Run a by) → answer ≡ 4 → WroteRunTo a by s k 4 ending.Stuck
  pub limit : (a : RunAgents) (by : Picking) → service_for words ≡ Reads (Run a by) → answer ≡ 5 → WroteRunTo a by s k 5 ending.Limit
  -- 2 comes exactly where the words are neither `run` nor `watch` nor one of the other forms, unless the sink fails.
  pub usage_only : answer ≡ 2 → (is_threaded words ≡ false) × (form_of_words words ≡ None)
  pub usage_always : is_threaded words ≡ false → form_of_words words ≡ None → (answer ≡ 2) ⊎ (answer ≡ 13)
