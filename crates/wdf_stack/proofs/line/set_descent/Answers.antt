-- The request at the place is the first that waits.
use Rattle.std.proofs.Common.{slice_get, refl}
use Rattle.std.proofs.lemmas.Option.{slice_get-get_or}
use Rattle.wdf_stack.proofs.Finding.{arrived_at_first}
use Rattle.wdf_stack.proofs.line.set_descent.Goals as goal

pub returns-clause-first : goal.returns-clause-first
returns-clause-first c =
    arrived_at_first c.args.descent c.args.sent.now c.args.place _ c.requires.within c.requires.before (c.requires.waits _ (slice_get-get_or c.args.sent.now c.args.place _ c.requires.within))

pub returns-clause-there : goal.returns-clause-there
returns-clause-there c = record { was = _; at = slice_get-get_or c.args.sent.now c.args.place _ c.requires.within; is = refl }
