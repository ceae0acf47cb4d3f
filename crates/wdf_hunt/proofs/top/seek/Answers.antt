-- What is said of the case that was read, and of what is none.
use Rattle.wdf_parse.proofs.ProperNames.{stands_scene, stands_properly}
use Rattle.wdf_hunt.specs.Answers.{IsTableText, with_jitter}
use Rattle.wdf_hunt.proofs.Told.{case_refusal_told, due_told}
use Rattle.wdf_hunt.proofs.top.seek.Goals as goal

pub tell_table-requires-clause-scene : goal.tell_table-requires-clause-scene
tell_table-requires-clause-scene g c = λ lifetimes outlive. rw c.with_jitter-case.ensures (stands_scene c.in-Ok.ensures.case.0 c.in-Ok.case.scene c.in-Ok.ensures.case.1.1)

pub tell_table-requires-clause-names : goal.tell_table-requires-clause-names
tell_table-requires-clause-names g c = λ lifetimes outlive. rw c.with_jitter-case.ensures (stands_properly c.in-Ok.ensures.case.0 c.in-Ok.case.scene c.in-Ok.ensures.case.1.1)

pub returns-in-Ok : goal.returns-in-Ok
returns-in-Ok g c = record {
  told = due_told (λ tried text status. IsTableText (with_jitter c.args.jitter tried) c.args.from c.args.count text status) _ _ c.in-Ok.case _ c.in-Ok.ensures.case (rw c.with_jitter-case.ensures at c.tell_table.ensures.told);
  not_again = c.tell_table.ensures.not_again;
}

pub returns-in-Err : goal.returns-in-Err
returns-in-Err g c = record {
  told = case_refusal_told (λ tried text status. IsTableText (with_jitter c.args.jitter tried) c.args.from c.args.count text status) _ _ c.in-Err.refusal _ c.in-Err.ensures.refused c.tell_refusal.ensures.said;
  not_again = c.tell_refusal.ensures.not_again;
}
