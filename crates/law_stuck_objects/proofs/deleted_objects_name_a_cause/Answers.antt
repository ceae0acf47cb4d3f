-- The clause is the lemma on objects that are being deleted.
use Rattle.law_stuck_objects.proofs.Asked.{leaving_named}
use Rattle.law_stuck_objects.proofs.deleted_objects_name_a_cause.Goals as goal

pub returns : goal.returns
returns g c = λ plan m run resolved is_run ends k o x h. leaving_named plan m run resolved is_run ends k o x h
