use Rattle.std.proofs.Common.{ap, length}
use Rattle.wdf_refusals.proofs.Fitting.{numbered_more}
use Rattle.wdf_refusals.proofs.Lookups.{indexed_more}
use Rattle.wdf_refusals.proofs.names.Names.add.Goals as goal

pub invariant_of-self-2 : goal.invariant_of-self-2
invariant_of-self-2 c = (
  indexed_more _ _ _ _ c.args.declaration (length c.as_slice-at.result.now) c.self.invariant.0 c.in_ok-note.ensures.ok (ap length c.as_slice-at.ensures.value) (rw (← c.reserve.ensures.items) c.push_reserved.ensures.items),
  numbered_more _ _ c.args.declaration c.self.invariant.1 c.requires.order (rw (← c.self.view_is) at c.requires.room) (rw (← c.reserve.ensures.items) c.push_reserved.ensures.items),
)
