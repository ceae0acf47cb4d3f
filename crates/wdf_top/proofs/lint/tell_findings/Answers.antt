-- What was found is said, or that memory is wanting.
use Rattle.std.proofs.Common.{inl, inr, refl}
use Rattle.wdf_output.specs.Refusals.{no_memory_line}
use Rattle.wdf_top.proofs.Linted.{lint_no_sink}
use Rattle.wdf_top.proofs.lint.tell_findings.Goals as goal

pub returns-in-Ok : goal.returns-in-Ok
returns-in-Ok g c = record {
  told = (c.in-Ok.text.items, c.in-Ok.status, inl c.in-Ok.ensures, rw c.deref.ensures.value at c.say.ensures.said);
  not_again = c.say.ensures.not_again (λ h. lint_no_sink c.args.plan c.in-Ok.text.items c.in-Ok.status c.in-Ok.ensures h);
}

pub returns-in-Err : goal.returns-in-Err
returns-in-Err g c = record {
  told = (no_memory_line, 15, inr (refl, refl), rw c.from.ensures at c.tell.ensures.said);
  not_again = c.tell.ensures.not_again;
}
