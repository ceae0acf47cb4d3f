-- The first of four.
use Rattle.std.proofs.Common.{◌||◌}
use Rattle.wdf_model.specs.declared.room.TheConstants.{OBJECTS}
use Rattle.wdf_cpu.specs.Occupied.{is_awaited, is_occupied}
use Rattle.wdf_lock.specs.Holds.{is_locked}
use Rattle.wdf_request.specs.Closing.{is_out}
use Rattle.wdf_offers.proofs.Leavers.{lesser_next}
use Rattle.wdf_offers.proofs.leaving.next_busy_for_cleanup.Goals as goal

pub returns : goal.returns
returns g c =
    let S = c.args.parts.now in
    let from = c.args.from.0 in
    let framed = lesser_next (is_occupied S.cpus) (is_awaited S.cpus) from OBJECTS c.next_occupied.result c.next_awaited.result (rw c.cpus.ensures at c.next_occupied.ensures) (rw c.cpus-2.ensures at c.next_awaited.ensures) in
    let held = lesser_next (is_locked S.locks) (is_out S.requests) from OBJECTS c.next_locked.result c.next_sent.result (rw c.locks.ensures at c.next_locked.ensures) (rw c.requests.ensures at c.next_sent.ensures) in
    rw (c.lesser.ensures, c.lesser-framed.ensures, c.lesser-held.ensures)
    (lesser_next (λ o. is_occupied S.cpus o || is_awaited S.cpus o) (λ o. is_locked S.locks o || is_out S.requests o) from OBJECTS _ _ framed held)
