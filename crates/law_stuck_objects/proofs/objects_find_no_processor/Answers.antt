-- The clause is the lemma on objects that find no processor.
use Rattle.law_stuck_objects.proofs.Told.{objects_find_no_processor}
use Rattle.law_stuck_objects.proofs.objects_find_no_processor.Goals as goal

pub returns : goal.returns
returns g c = λ plan m run is_run ends k o h. objects_find_no_processor plan m run is_run ends k o h
