-- One device more has heard.
use Rattle.std.proofs.Common.{◌<◌, length, arith}
use Rattle.std.proofs.lemmas.List.Edits.{map_over_more}
use Rattle.check_past.specs.Past.{before}
use Rattle.check_idle.specs.Watched.{watched_after}
use Rattle.check_idle.proofs.watches.feed_each.Goals as goal

pub loop-watch-preserved : goal.loop-watch-preserved
loop-watch-preserved c =
    let within : c.loop-watch.watch-index < length c.args.watches.now = omega arith in
    rw (c.in_ok-feed.ensures, ← c.watch-item.is) (map_over_more (watched_after (before c.args.past.now) c.args.now c.args.event.now) c.args.watches.now c.loop-watch.watches c.loop-watch.watch-index c.watch-item.result within c.loop-watch.invariant c.watch-item.is)
