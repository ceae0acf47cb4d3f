-- Where nothing may follow, the last event is a fault or the state decides.
use Rattle.std.proofs.Common.{◌≡◌, ◌∙◌, sym, subst, arith, length, None}
use Rattle.std.proofs.lemmas.Bool.{ltb-true, ltb-false}
use Rattle.wdf_model.specs.rules.Ready.{ending_without_fault, last_fault, ready, state_after}
use Rattle.wdf_core.specs.Course.{Course}
use Rattle.wdf_core.proofs.Journal.{ended_by_fault, ended_by_state, running}
use Rattle.wdf_core.proofs.machine.Core.ending.Goals as goal

pub returns-then-any_ready : goal.returns-then-any_ready
returns-then-any_ready g c =
    let some = sym (rw (← c.self.view_is) at c.any_ready.ensures) ∙ c.if-any_ready.true in
    rw (← c.self.view_is) (running g.A.Agent.meaning c.self.inside.plan c.self.inside.journal.items c.self.inside.parts _ _ c.self.invariant.way (ltb-true 0 (length (ready c.self.inside.plan g.A.Agent.meaning c.self.inside.journal.items)) some))

pub returns-in-Some : goal.returns-in-Some
returns-in-Some g c =
    let few = ltb-false 0 (length (ready c.self.inside.plan g.A.Agent.meaning c.self.inside.journal.items)) (sym (rw (← c.self.view_is) at c.any_ready.ensures) ∙ c.if-any_ready.false) in
    let none : length (ready c.self.inside.plan g.A.Agent.meaning c.self.inside.journal.items) ≡ 0 = omega arith in
    rw (← c.self.view_is) (ended_by_fault g.A.Agent.meaning c.self.inside.plan c.self.inside.journal.items c.self.inside.parts _ _ c.self.invariant.way c.in-Some.fault none (sym (rw (← c.self.view_is) at c.in-Some.ensures)))

pub returns-in-None : goal.returns-in-None
returns-in-None g c =
    let few = ltb-false 0 (length (ready c.self.inside.plan g.A.Agent.meaning c.self.inside.journal.items)) (sym (rw (← c.self.view_is) at c.any_ready.ensures) ∙ c.if-any_ready.false) in
    let none : length (ready c.self.inside.plan g.A.Agent.meaning c.self.inside.journal.items) ≡ 0 = omega arith in
    let last : last_fault c.self.inside.journal.items ≡ None = sym (rw (← c.self.view_is) at c.in-None.ensures) in
    let P : Course → Type 0 = λ x. c.ending_without_fault.result ≡ ending_without_fault x.plan g.A.Agent.meaning (state_after x.plan g.A.Agent.meaning x.journal) in
    rw (← c.self.view_is) (ended_by_state g.A.Agent.meaning c.self.inside.plan c.self.inside.journal.items c.self.inside.parts _ _ c.self.invariant.way c.ending_without_fault.result none last (subst P (sym c.self.view_is) c.ending_without_fault.ensures))
