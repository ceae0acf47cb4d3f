-- The clause is the lemma on lines, for this form.
use Rattle.wdf_base.specs.declared.wait.OpenThing.TheVariants as thing
use Rattle.law_stuck_causes.proofs.Told.{line_so}
use Rattle.law_stuck_causes.proofs.frames_causes_hold.Goals as goal

pub returns : goal.returns
returns g c = λ plan m run is_run ends k f c o x h. line_so plan m run is_run ends k (thing.Waiting f c o) x h
