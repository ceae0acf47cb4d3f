-- The number comes after the bytes.
use Rattle.std.proofs.Common.{append_assoc}
use Rattle.wdf_kinds.proofs.forms.push_references.Goals as goal

pub returns : goal.returns
returns c = rw (c.from.ensures, c.in_ok-push.ensures, append_assoc) at c.push_number.ensures
