-- The bits of both ids are written.
use Rattle.wdf_tally.proofs.Noting.{counted_moves}
use Rattle.wdf_tally.proofs.tally.Tally.moves.Goals as goal

pub invariant_of-self : goal.invariant_of-self
invariant_of-self c = rw (c.note-2.ensures.noted, c.note.ensures.noted) (counted_moves _ _ c.self.inside.some c.args.from c.args.to c.moves.ensures c.self.invariant)
