-- Queued work and due timers are listed by rising id, and what is queued is an object.
use Rattle.std.proofs.Common.{length, slice_get, ap, ◌∙◌}
use Rattle.wdf_offers.proofs.Leavers.{none_beyond, none_due_beyond}
use Rattle.wdf_offers.proofs.leaving.Leaving.fitting_at.Goals as goal

pub returns-in-Work : goal.returns-in-Work
returns-in-Work g c =
    let S = c.args.parts.now in
    rw c.in-Work.is
    ((rw c.work_items.ensures at c.nth.ensures.item)
    ∙ ap (λ xs. slice_get xs c.args.k) ((rw c.work_items.ensures at c.nth.ensures.rising).rising (length S.tree.nodes) (none_beyond S c.requires.settled)))

pub returns-in-Timed : goal.returns-in-Timed
returns-in-Timed g c =
    let S = c.args.parts.now in
    rw c.in-Timed.is
    ((rw (c.timers.ensures, c.now.ensures) at c.nth_due.ensures.item)
    ∙ ap (λ xs. slice_get xs c.args.k) ((rw c.timers.ensures at c.nth_due.ensures.rising).due S.clock (length S.tree.nodes) (none_due_beyond S c.requires.settled)))
