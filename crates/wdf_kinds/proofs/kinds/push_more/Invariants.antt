-- What was added, and what is left to add.
use Rattle.std.proofs.Common.{◌≡◌, ◌++◌, drop}
use Rattle.wdf_kinds.specs.Kinds.{more_forms}
use Rattle.wdf_kinds.proofs.kinds.push_more.Given as goal

abbrev pub invariant-loop-form : goal.invariant-loop-form
invariant-loop-form l = l.kind ++ more_forms (drop l.form-index l.forms) ≡ l.fn.kind ++ more_forms l.forms
