-- A block more is told.
use Rattle.std.proofs.Common.{◌≡◌, ℕ, ◌/◌, ◌*◌, ◌+◌, min, subst, ◌∙◌, arith}
use Rattle.wdf_model.specs.declared.room.TheConstants.{OBJECTS}
use Rattle.wdf_defer.specs.Reached.{AreReached, IsLeast, told_below}
use Rattle.wdf_defer.proofs.Reaching.{least_further, told_further}
use Rattle.wdf_defer.proofs.reached.reach_all.Goals as goal

pub search-preserved : goal.search-preserved
search-preserved c =
    let queued = c.args.queued.now in
    let ticks = c.args.ticks.now in
    let now = c.args.now in
    let x = c.in-Some.timer in
    let end : 64 * (x / 64) + 64 ≡ x / 64 * 64 + 64 = omega arith in
    let P : ℕ → ℕ → Type 0 = λ seen at. AreReached queued ticks c.reach_if_any-floor.new.reached c.reach_if_any-floor.new.floors (told_below at now seen) in
    let Q : ℕ → ℕ → Type 0 = λ least at. IsLeast queued ticks at now least in
    record {
      block = omega arith;
      told = λ seen early was.
          let so = c.search.invariant.told seen early was in
          let further = told_further queued ticks now seen early c.search.reached c.search.floors c.search.at x OBJECTS c.search.invariant.block c.in-Some.ensures so.0 in
          let after = c.reach_if_any-floor.ensures.reached seen early further in
          let least = least_further queued ticks now c.search.at x OBJECTS c.search.least c.reach_if_any-floor.result c.search.invariant.block c.in-Some.ensures so.1 after.1 in
          (subst (P seen) end after.0, rw c.min-least.ensures (subst (Q (min c.search.least c.reach_if_any-floor.result)) end least));
      room = c.reach_if_any-floor.ensures.room ∙ c.search.invariant.room;
    }
