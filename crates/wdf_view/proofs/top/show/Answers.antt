-- A picture is written, or why there is none.
use Rattle.std.proofs.Common.{arith}
use Rattle.wdf_view.proofs.Told.{picture_told, refusal_told}
use Rattle.wdf_view.proofs.top.show.Goals as goal

pub returns-in-Ok : goal.returns-in-Ok
returns-in-Ok g c = record {
  told = picture_told c.args.form _ _ c.bytes.result.now _ c.in-Ok.ensures.shown (rw c.bytes.ensures c.in-Ok.ensures.formed) c.say.ensures.said;
  not_again = c.say.ensures.not_again (λ h. omega (arith, h));
}

pub returns-in-Err : goal.returns-in-Err
returns-in-Err g c = record {
  told = refusal_told c.args.form _ _ c.in-Err.bad _ c.in-Err.ensures.cause c.tell_bad.ensures.said;
  not_again = c.tell_bad.ensures.not_again;
}
