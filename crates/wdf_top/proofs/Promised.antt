-- What the program promises, from what is told.
use Rattle.std.proofs.Common.{ℕ}
use Rattle.wdf_output.specs.Said.{Sinking}
use Rattle.wdf_top.specs.Agents.{meaning_of}
use Rattle.wdf_top.specs.Answers.{answering_of}
use Rattle.wdf_top.specs.Promises.{ServicePromises}
use Rattle.wdf_top.specs.Top.{Sourcing, Service, Tells}
use Rattle.wdf_top.proofs.Causes as cause
use Rattle.wdf_top.proofs.Given as given
use Rattle.wdf_top.proofs.Judged as judged
use Rattle.wdf_top.proofs.Linted as lint
use Rattle.wdf_top.proofs.Sinks as sink
use Rattle.wdf_top.proofs.Statuses as status

pub promised : (v : Service) (s : Sourcing) (k : Sinking) (answer : ℕ) → Tells v s k answer → ServicePromises v s k answer
promised v s k answer told = record {
  told = told;
  answered = λ r is. given.answers_given (answering_of r) s k answer (rw is at told);
  run = λ a by is. given.run_given (meaning_of a) by s k answer (rw is at told);
  made = λ a by is. given.made_given (meaning_of a) by s k answer (rw is at told);
  verdict = λ is. judged.verdict_given s k answer (rw is at told);
  no_trace = λ is. judged.missing_given s k answer (rw is at told);
  generated = λ n is. cause.generated_given n s k answer (rw is at told);
  summed = λ n is. cause.summed_given n s k answer (rw is at told);
  whole_input = λ reading. given.whole_input_by v s k answer (status.reads v s k answer reading told);
  usage_only = cause.usage_only v s k answer told;
  usage_always = λ is. cause.usage_always v s k answer is told;
  no_scene_only = cause.no_scene_only v s k answer told;
  no_scene_always = λ reading. given.no_scene_by v s k answer (status.reads v s k answer reading told);
  no_plan_only = cause.no_plan_only v s k answer told;
  no_plan_always = λ reading. given.no_plan_by v s k answer (status.reads v s k answer reading told);
  bad_line_only = judged.refused_only v s k answer told;
  bad_line_always = λ is. judged.refused_always s k answer (rw is at told);
  accepted_only = λ is. judged.accepted_only s k answer (rw is at told);
  accepted_always = λ is. judged.accepted_always s k answer (rw is at told);
  linted = λ is. lint.linted_given s k answer (rw is at told);
  found_only = lint.found_only v s k answer told;
  found_always = λ is. lint.found_always s k answer (rw is at told);
  clean_only = λ is. lint.clean_only s k answer (rw is at told);
  clean_always = λ is. lint.clean_always s k answer (rw is at told);
  finished = λ a by is. cause.finished a by s k answer (rw is at told);
  summed_finished = λ n is. cause.summed_finished n s k answer (rw is at told);
  fault = cause.fault v s k answer told;
  stuck = cause.stuck v s k answer told;
  limit = cause.limit v s k answer told;
  unread = λ none. cause.unread v s k answer none told;
  no_further = λ reading. given.no_further_by v s k answer (status.reads v s k answer reading told);
  read_fault = cause.source_rose v s k answer told;
  write_fault = status.sink_rose v s k answer told;
  front = status.front_written v s k answer told;
  failed_write = sink.failed_write v s k answer told;
  no_failed_write = sink.no_failed_write v s k answer told;
  whole_text = sink.whole_text v s k answer told;
  too_large_only = cause.large_only v s k answer told;
  too_large_always = given.large_always v s k answer told;
  large_input = λ reading. given.over_by v s k answer (status.reads v s k answer reading told);
  memory_first = cause.memory_line v s k answer told;
  listed = status.listed v s k answer told;
}
