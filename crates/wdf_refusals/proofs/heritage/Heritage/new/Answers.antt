use Rattle.std.proofs.Common.{arith}
use Rattle.wdf_refusals.specs.Heritage.{kept_of}
use Rattle.wdf_refusals.proofs.Every.{every_any}
use Rattle.wdf_refusals.proofs.Fitting.{lines_room}
use Rattle.wdf_refusals.proofs.heritage.Heritage.new.Goals as goal

pub gather-requires : goal.gather-requires
gather-requires c =
    let room = lines_room c.args.scene.now (kept_of c.scene-own.result.now) (rw (c.as_slice-lines.ensures.value, c.scene-own.ensures) at c.as_slice-lines.ensures.fits) in
    (omega arith, (every_any _ (λ p. tt) _, (room, room)))
