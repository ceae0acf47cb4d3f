-- It is held once, at the place.
use Rattle.std.proofs.Common.{◌≡◌, ◌<◌, true, length, get_or, ◌∙◌}
use Rattle.wdf_model.specs.declared.entries.Held.{Held}
use Rattle.wdf_lock.specs.Holds.{is_of}
use Rattle.wdf_lock.proofs.Finding.{removed_filtered}
use Rattle.wdf_lock.proofs.held.drop_hold.Goals as goal

pub returns-clause-items : goal.returns-clause-items
returns-clause-items c =
    let all = c.args.all.now.items in
    let within : c.last_hold-place.result < length all = rw c.deref.ensures.value at c.last_hold-place.ensures.within in
    let its : (d : Held) → is_of c.args.lock (get_or all c.last_hold-place.result d) ≡ true = rw c.deref.ensures.value at c.last_hold-place.ensures.its in
    c.remove.ensures.items ∙ removed_filtered (is_of c.args.lock) all c.last_hold-place.result c.remove.result c.requires within (its c.remove.result)
