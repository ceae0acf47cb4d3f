-- What the top call promises, from what is told.
use Rattle.std.proofs.Common.{ℕ, List}
use Rattle.wdf_output.specs.Said.{Sinking}
use Rattle.wdf_serve.specs.Promises.{Promises}
use Rattle.wdf_serve.specs.Words.{is_threaded, service_for}
use Rattle.wdf_serve.proofs.Ended as ended
use Rattle.wdf_serve.proofs.Forms.{usage_is, usage_of}
use Rattle.wdf_top.specs.Top.{Sourcing, Tells}
use Rattle.wdf_top.specs.Words.{form_of_words}
use Rattle.wdf_top.proofs.Causes as cause
use Rattle.wdf_top.proofs.Promised as service

pub promised : (words : List (List ℕ)) (s : Sourcing) (k : Sinking) (answer : ℕ) → Tells (service_for words) s k answer → Promises words s k answer
promised words s k answer told = record {
  kept = service.promised (service_for words) s k answer told;
  headline = λ a by is ends. ended.headline (service_for words) a by s k answer told is ends;
  finished = ended.finished (service_for words) s k answer told;
  fault = ended.fault (service_for words) s k answer told;
  stuck = ended.stuck (service_for words) s k answer told;
  limit = ended.limit (service_for words) s k answer told;
  usage_only = λ same. usage_is (is_threaded words) (form_of_words words) (cause.usage_only (service_for words) s k answer told same);
  usage_always = λ other none_of. cause.usage_always (service_for words) s k answer (usage_of words other none_of) told;
}
