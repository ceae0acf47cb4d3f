-- The first event of the crew's side is the crew's first event.
use Rattle.std.proofs.Common.{◌≡◌, ◌∙◌, true, false, sym, inl, inr, length}
use Rattle.std.specs.Prelude.{nat_lt}
use Rattle.wdf_model.specs.rules.Ready.{ready}
use Rattle.wdf_workers.proofs.Firsts.{progress_added, progress_over, progress_waits, turn_added, turn_vain}
use Rattle.wdf_workers.proofs.state.take_first.Goals as goal

pub returns-then-apply_first_of-clause-journal : goal.returns-then-apply_first_of-clause-journal
returns-then-apply_first_of-clause-journal g c =
    let t = rw c.side_of.ensures at (c.apply_first_of.ensures.taken c.if-apply_first_of.true) in
    turn_added (ready c.args.core.now.plan g.A.Agent.meaning) c.args.crew c.args.core.now.journal c.apply_first_of.new.self.journal t.0 t.1 t.2

pub returns-then-apply_first_of-clause-progress : goal.returns-then-apply_first_of-clause-progress
returns-then-apply_first_of-clause-progress g c =
    let t = rw c.side_of.ensures at (c.apply_first_of.ensures.taken c.if-apply_first_of.true) in
    progress_added c.args.crew (ready c.args.core.now.plan g.A.Agent.meaning c.args.core.now.journal) t.0 t.1

pub returns-then-apply_first_of-clause-grown : goal.returns-then-apply_first_of-clause-grown
returns-then-apply_first_of-clause-grown g c = let t = c.apply_first_of.ensures.taken c.if-apply_first_of.true in inr (t.0, t.2)

pub returns-then-any_ready-clause-journal : goal.returns-then-any_ready-clause-journal
returns-then-any_ready-clause-journal g c =
    let t = rw c.side_of.ensures at (c.apply_first_of.ensures.left c.if-apply_first_of.false) in
    turn_vain (ready c.args.core.now.plan g.A.Agent.meaning) c.args.crew c.args.core.now.journal c.apply_first_of.new.self.journal t.0 t.1

pub returns-then-any_ready-clause-progress : goal.returns-then-any_ready-clause-progress
returns-then-any_ready-clause-progress g c =
    let t = rw c.side_of.ensures at (c.apply_first_of.ensures.left c.if-apply_first_of.false) in
    let some : nat_lt 0 (length (ready c.args.core.now.plan g.A.Agent.meaning c.args.core.now.journal)) ≡ true = rw (c.apply_first_of.ensures.plan, t.1) at (sym c.any_ready.ensures ∙ c.if-any_ready.true) in
    progress_waits c.args.crew (ready c.args.core.now.plan g.A.Agent.meaning c.args.core.now.journal) t.0 some

pub returns-then-any_ready-clause-grown : goal.returns-then-any_ready-clause-grown
returns-then-any_ready-clause-grown g c = let t = c.apply_first_of.ensures.left c.if-apply_first_of.false in inl t.1

pub returns-else-any_ready-clause-journal : goal.returns-else-any_ready-clause-journal
returns-else-any_ready-clause-journal g c =
    let t = rw c.side_of.ensures at (c.apply_first_of.ensures.left c.if-apply_first_of.false) in
    turn_vain (ready c.args.core.now.plan g.A.Agent.meaning) c.args.crew c.args.core.now.journal c.apply_first_of.new.self.journal t.0 t.1

pub returns-else-any_ready-clause-progress : goal.returns-else-any_ready-clause-progress
returns-else-any_ready-clause-progress g c =
    let t = rw c.side_of.ensures at (c.apply_first_of.ensures.left c.if-apply_first_of.false) in
    let some : nat_lt 0 (length (ready c.args.core.now.plan g.A.Agent.meaning c.args.core.now.journal)) ≡ false = rw (c.apply_first_of.ensures.plan, t.1) at (sym c.any_ready.ensures ∙ c.if-any_ready.false) in
    progress_over c.args.crew (ready c.args.core.now.plan g.A.Agent.meaning c.args.core.now.journal) t.0 some

pub returns-else-any_ready-clause-grown : goal.returns-else-any_ready-clause-grown
returns-else-any_ready-clause-grown g c = let t = c.apply_first_of.ensures.left c.if-apply_first_of.false in inl t.1
