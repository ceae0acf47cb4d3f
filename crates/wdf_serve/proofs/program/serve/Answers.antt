-- What is told for the words, and where memory for them is refused.
use Rattle.std.proofs.Common.{refl}
use Rattle.wdf_serve.proofs.Serving as serving
use Rattle.wdf_serve.proofs.program.serve.Goals as goal

pub returns-in-Ok : goal.returns-in-Ok
returns-in-Ok g c =
    let served = serving.by_words c.args.arguments _ _ _ c.top.result c.in-Ok.ensures.words (rw c.deref.ensures.value at c.top.ensures.promises) in record {
      served = served;
      headline = serving.headline c.args.arguments _ _ _ served;
      lacking = λ lacks. let never = c.in-Ok.ensures.lacking lacks in absurd (let z : ⊥ = cc in z);
      only_memory = λ lacks. serving.without_words c.args.arguments _ _ _ c.top.result c.in-Ok.ensures.words lacks (rw c.deref.ensures.value at c.top.ensures.promises);
      not_again = c.top.ensures.not_again;
      listed = serving.listed c.args.arguments _ _ _ served;
    }

pub returns-in-Err : goal.returns-in-Err
returns-in-Err g c =
    let served = serving.by_lack c.args.arguments _ _ c.tell.result (refl, refl) c.tell.ensures.said in record {
      served = served;
      headline = serving.headline c.args.arguments _ _ _ served;
      lacking = λ lacks. ((refl, refl), c.tell.ensures.said);
      only_memory = λ lacks. let never = c.in-Err.ensures.only_memory lacks in absurd (let z : ⊥ = cc in z);
      not_again = c.tell.ensures.not_again;
      listed = serving.listed c.args.arguments _ _ _ served;
    }
