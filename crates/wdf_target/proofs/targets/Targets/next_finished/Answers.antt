-- What its target is done with has its completion routine due.
use Rattle.std.proofs.Common.{◌≡◌, MatchOption, length, sym, subst}
use Rattle.wdf_model.specs.Tables.{entry}
use Rattle.wdf_model.specs.parts.Targets.{Target, Targets, no_target, pending}
use Rattle.wdf_sets.specs.Nexts.{IsNext, NoneFrom}
use Rattle.wdf_sets.proofs.Nexts.{found_also}
use Rattle.wdf_target.specs.Finished.{done_at, finished_at}
use Rattle.wdf_target.proofs.Acts.{entry_read}
use Rattle.wdf_target.proofs.Noting.{place_finished}
use Rattle.wdf_target.proofs.targets.Targets.next_finished.Goals as goal

pub returns-in-Some : goal.returns-in-Some
returns-in-Some c =
    let ts = c.self.inside.targets.items in
    let t = c.args.t.0 in
    let is : entry no_target ts t ≡ c.in-Some.target.now = entry_read ts c.deref.result.now t c.in-Some.target.now c.deref.ensures.value c.in-Some.ensures.lookup.0 c.in-Some.ensures.lookup.1 in
    let P : Targets → Type 0 = λ T. MatchOption c.next_done.result (NoneFrom (finished_at T t) c.args.from (pending T t)) (λ k. IsNext (finished_at T t) c.args.from (pending T t) k) in
    let Q : Target → Type 0 = λ x. MatchOption c.next_done.result (NoneFrom (done_at x) c.args.from (length x.sent)) (λ k. IsNext (done_at x) c.args.from (length x.sent) k) in
    let done = subst Q (sym is) c.next_done.ensures in
    subst P c.self.view_is
    (found_also (done_at (entry no_target ts t)) (finished_at (record { targets = ts }) t) c.args.from (length (entry no_target ts t).sent)
    (λ k after below. place_finished ts c.self.inside.holders.items c.self.invariant.kept t k) (λ k. k) c.next_done.result done)
