-- One more of the frame was met each time, and at the end all were.
use Rattle.std.proofs.Common.{max, fold, [], ◌∷◌, length, take, refl, ap, ◌∙◌, arith, length-append}
use Rattle.std.proofs.lemmas.List.Sums.{fold-append}
use Rattle.wdf_cpu.specs.Levels.{held_by}
use Rattle.wdf_cpu.proofs.HeldLevels.{held_by_all, held_by_yes}
use Rattle.wdf_cpu.proofs.levels.peak_of.Goals as goal

pub loop-met-init : goal.loop-met-init
loop-met-init c = record { met = refl; peak = refl }

pub next_of-place-requires : goal.next_of-place-requires
next_of-place-requires c =
    let met = c.loop-met.invariant.met in
    omega arith

pub loop-met-preserved : goal.loop-met-preserved
loop-met-preserved c =
    let ls = c.args.levels.now.items in
    let place = c.next_of-place.result in
    let n = c.next_of-place.ensures in
    let more = held_by_yes ls place c.args.f.0 c.index.result.now n.within (n.its c.index.result.now) in
    let long = length-append (held_by (take place ls) c.args.f.0) (c.index.result.now.level.0 ∷ []) in
    let none = ap length n.none in
    let met = c.loop-met.invariant.met in
    record {
      met = rw (more, ← c.index.ensures) (omega arith);
      peak = rw (more, ← c.index.ensures, fold-append max c.args.level.0 (held_by (take place ls) c.args.f.0) (c.index.result.now.level.0 ∷ []), n.none, ← c.loop-met.invariant.peak) c.max-peak.ensures;
    }

pub returns : goal.returns
returns c =
    let met = c.loop-met.invariant.met in
    c.loop-met.invariant.peak ∙ ap (fold max c.args.level.0) (held_by_all c.args.levels.now.items c.loop-met.place c.args.f.0 (omega arith))
