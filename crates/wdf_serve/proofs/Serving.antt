-- What the program does for its arguments.
use Rattle.std.proofs.Common.{ℕ, ◌≡◌, inl, inr, IsTrue, List, [], Ok, Err, refl, subst}
use Rattle.wdf_output.specs.Refusals.{no_memory_line}
use Rattle.wdf_output.specs.Said.{Sinking, Says}
use Rattle.wdf_serve.specs.Promises.{Promises}
use Rattle.wdf_serve.specs.Runs.{WroteSomeRun, is_end_status}
use Rattle.wdf_arguments.specs.Arguments.{Arguments, LacksArguments, words_after_name}
use Rattle.wdf_serve.specs.Serving.{Serves}
use Rattle.wdf_serve.specs.Words.{service_for}
use Rattle.wdf_top.specs.Causes.{is_status}
use Rattle.wdf_top.specs.Agents.{RunAgents}
use Rattle.wdf_top.specs.Answers.{Picking, Run}
use Rattle.wdf_top.specs.Top.{Sourcing, IsUnread, Reads}
use Rattle.wdf_top.proofs.Statuses.{differs}

-- the words were found
pub by_words : (arguments : Arguments) (words : List (List ℕ)) (s : Sourcing) (k : Sinking) (answer : ℕ) → words ≡ words_after_name arguments
    → Promises words s k answer → Serves arguments s k answer
by_words arguments words s k answer same promises = inl (rw same at promises)

-- where the system can't give the arguments, there are no words
pub without_words : (arguments : Arguments) (words : List (List ℕ)) (s : Sourcing) (k : Sinking) (answer : ℕ) → words ≡ words_after_name arguments
    → LacksArguments arguments → Promises words s k answer → Promises [] s k answer
without_words (Ok arguments) words s k answer same lacks promises = absurd lacks
without_words (Err error) words s k answer same lacks promises = subst (λ ws. Promises ws s k answer) same promises

-- memory for the words was refused
pub by_lack : (arguments : Arguments) (s : Sourcing) (k : Sinking) (answer : ℕ) → IsUnread s → Says k no_memory_line 15 answer → Serves arguments s k answer
by_lack arguments s k answer unread said = inr (unread, said)

-- out of memory is the end of no run
lack_no_end : (k : Sinking) (answer : ℕ) → Says k no_memory_line 15 answer → IsTrue (is_end_status answer) → ⊥
lack_no_end k answer (inl said) ends = differs is_end_status 15 answer refl ends said.0
lack_no_end k answer (inr said) ends = differs is_end_status 13 answer refl ends said.0

pub headline : (arguments : Arguments) (s : Sourcing) (k : Sinking) (answer : ℕ) → Serves arguments s k answer → (a : RunAgents) (by : Picking) → service_for (words_after_name arguments) ≡ Reads (Run a by) → IsTrue (is_end_status answer) → WroteSomeRun a by s k answer
headline arguments s k answer (inl promises) = promises.headline
headline arguments s k answer (inr lacks) = λ a by is ends. absurd (lack_no_end k answer lacks.1 ends)

said_listed : (k : Sinking) (text : List ℕ) (answer : ℕ) → Says k text 15 answer → IsTrue (is_status answer)
said_listed k text answer (inl said) = rw said.0 refl
said_listed k text answer (inr said) = rw said.0 refl

pub listed : (arguments : Arguments) (s : Sourcing) (k : Sinking) (answer : ℕ) → Serves arguments s k answer → IsTrue (is_status answer)
listed arguments s k answer (inl promises) = promises.kept.listed
listed arguments s k answer (inr lacks) = said_listed k no_memory_line answer lacks.1
