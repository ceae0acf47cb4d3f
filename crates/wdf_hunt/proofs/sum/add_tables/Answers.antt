-- What `sum` says, of tables and of a refusal.
use Rattle.wdf_hunt.proofs.Added.{sum_told, unread_told}
use Rattle.wdf_hunt.proofs.sum.add_tables.Goals as goal

pub returns-in-Ok : goal.returns-in-Ok
returns-in-Ok g c = record {
  told = sum_told _ _ _ _ (rw c.deref.ensures.value c.in-Ok.ensures.text) c.tell_sum.ensures.told;
  not_again = c.tell_sum.ensures.not_again;
}

pub returns-in-Err : goal.returns-in-Err
returns-in-Err g c = record {
  told = unread_told _ _ c.in-Err.refusal _ c.in-Err.ensures.cause c.tell.ensures.said;
  not_again = c.tell.ensures.not_again;
}
