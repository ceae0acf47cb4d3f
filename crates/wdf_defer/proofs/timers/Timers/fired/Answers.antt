use Rattle.std.proofs.Common.{◌≡◌, ◌+◌, ◌<◌, ◌^◌, ◌∙◌, IfSome, Option, Some, sym, subst, arith}
use Rattle.wdf_model.specs.declared.room.TheConstants.{OBJECTS}
use Rattle.wdf_model.specs.declared.entries.Timed.{Timed}
use Rattle.wdf_model.specs.parts.Deferred.Timers.{timed_of}
use Rattle.wdf_defer.proofs.TimersThatFire.{fired_present, fired_absent}
use Rattle.wdf_defer.proofs.timers.Timers.fired.Goals as goal

pub overflow_add-timed : goal.overflow_add-timed
overflow_add-timed c =
    let there : timed_of c.args.self.now c.args.o.0 ≡ Some c.in-Some.timed = sym c.timed_of.ensures.timed ∙ c.in-Some.is in
    let P : Option Timed → Type 0 = λ r. IfSome r (λ t. t.tick + c.args.period < 2 ^ 64) in
    let small : c.in-Some.timed.tick + c.args.period < 2 ^ 64 = subst P there c.requires in
    omega arith

pub returns-else-period-eq0 : goal.returns-else-period-eq0
returns-else-period-eq0 c =
    let there : timed_of c.args.self.now c.args.o.0 ≡ Some c.in-Some.timed = sym c.timed_of.ensures.timed ∙ c.in-Some.is in
    fired_present c.args.self.now c.args.o.0 c.args.period c.in-Some.timed c.put.new.self.queued OBJECTS c.timed_of.ensures.rising there c.if-period-eq0.false c.put.ensures.done

pub returns-in_default : goal.returns-in_default
returns-in_default c = fired_absent c.args.self.now c.args.o.0 c.args.period (sym c.timed_of.ensures.timed ∙ c.in_default.is)
