-- A write is that of a list within it; past its end blank entries come first.
use Rattle.std.proofs.Common.{sym, arith}
use Rattle.wdf_model.proofs.Maps.{put_within}
use Rattle.wdf_maps.proofs.Beyond.{put_beyond}
use Rattle.wdf_maps.proofs.map.put_at.Goals as goal

pub returns-then-id-len-clause-entries : goal.returns-then-id-len-clause-entries
returns-then-id-len-clause-entries g c =
    sym (put_within c.args.blank c.args.entries.now.items c.args.id c.args.new (omega arith))

pub returns-else-id-len-clause-entries : goal.returns-else-id-len-clause-entries
returns-else-id-len-clause-entries g c =
    rw (c.push_reserved.ensures.items, c.resize.ensures.items, c.unwrap.ensures)
    (put_beyond c.args.blank c.args.entries.now.items _ c.args.id c.args.new (omega arith) (omega arith))
