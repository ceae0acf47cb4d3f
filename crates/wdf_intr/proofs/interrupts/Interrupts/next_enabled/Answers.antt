-- The members are the enabled ones.
use Rattle.std.proofs.Common.{MatchOption, subst}
use Rattle.wdf_model.specs.parts.Interrupts.{Interrupts, is_enabled}
use Rattle.wdf_sets.specs.Members.{is_in}
use Rattle.wdf_sets.specs.Nexts.{IsNext, NoneFrom}
use Rattle.wdf_sets.proofs.Nexts.{found_also}
use Rattle.wdf_intr.specs.Enabled.{enabled_in}
use Rattle.wdf_intr.proofs.Writing.{read}
use Rattle.wdf_intr.proofs.interrupts.Interrupts.next_enabled.Goals as goal

pub returns : goal.returns
returns c =
    let s = c.self.inside in
    subst (λ (I : Interrupts). MatchOption c.next.result (NoneFrom (is_enabled I) c.args.from c.args.end) (λ id. IsNext (is_enabled I) c.args.from c.args.end id)) c.self.view_is
    (found_also (λ id. is_in id s.set) (is_enabled (enabled_in s)) c.args.from c.args.end (λ id above below. read s.set s.end id c.self.invariant) (λ id. id) c.next.result c.next.ensures)
