-- The printed scene is what is said, or that memory is wanting.
use Rattle.std.proofs.Common.{inl, inr, refl, arith}
use Rattle.wdf_gen.specs.Generated.{generated}
use Rattle.wdf_parse.specs.Printing.{printed}
use Rattle.wdf_output.specs.Refusals.{no_memory_line}
use Rattle.wdf_top.proofs.generated.tell_generated.Goals as goal

pub returns-in-Ok : goal.returns-in-Ok
returns-in-Ok g c = record {
  told = (printed (generated c.args.number), 0, inl (refl, refl), rw (c.deref.ensures.value, c.in-Ok.ensures) at c.say.ensures.said);
  not_again = c.say.ensures.not_again (λ h. omega (arith, h));
}

pub returns-in-Err : goal.returns-in-Err
returns-in-Err g c = record {
  told = (no_memory_line, 15, inr (refl, refl), rw c.from.ensures at c.tell.ensures.said);
  not_again = c.tell.ensures.not_again;
}
