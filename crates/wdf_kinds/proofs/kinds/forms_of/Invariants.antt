-- The forms of the lines before this one.
use Rattle.std.proofs.Common.{◌≡◌, [], fold, take}
use Rattle.wdf_kinds.specs.Kinds.{with_form}
use Rattle.wdf_kinds.proofs.kinds.forms_of.Given as goal

abbrev pub invariant-loop-wait : goal.invariant-loop-wait
invariant-loop-wait l = l.forms.items ≡ fold (with_form l.plan) [] (take l.wait-index l.waits)
