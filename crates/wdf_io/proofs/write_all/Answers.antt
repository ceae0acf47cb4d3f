use Rattle.std.proofs.Common.{length, arith, ap, ◌∙◌}
use Rattle.wdf_io.proofs.Pieces.{gains_front, front_within}
use Rattle.wdf_io.proofs.write_all.Goals as goal

pub loop-done-preserved : goal.loop-done-preserved
loop-done-preserved g c = record {
  within = front_within _ _ _ c.loop-done.invariant.within c.in-Ok.ensures.within;
  gained = gains_front _ _ _ _ _ _ c.loop-done.invariant.gained c.in-Ok.ensures.gained;
  quiet = c.in-Ok.ensures.quiet ∙ c.loop-done.invariant.quiet;
  empty = λ none. absurd (omega (arith, ap length none));
}
