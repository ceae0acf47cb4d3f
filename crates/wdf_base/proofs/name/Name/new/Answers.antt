use Rattle.wdf_base.proofs.Padding.{copied_IsPadded}
use Rattle.wdf_base.proofs.name.Name.new.Goals as goal

pub invariant_of-result : goal.invariant_of-result
invariant_of-result c = rw c.copy_from_slice.ensures.after (copied_IsPadded c.args.text.now c.requires)
