-- One that passes is before each that doesn't.
use Rattle.std.proofs.Common.{◌≡◌, ◌+◌, ◌-◌, length, ap, sym, ◌∙◌, arith}
use Rattle.std.proofs.lemmas.List.{get_or_default, take_all}
use Rattle.std.proofs.lemmas.List.Sums.{count_by-le-length}
use Rattle.wdf_lock.specs.Holds.{is_of}
use Rattle.wdf_lock.proofs.Finding.{before_place, not_at_first}
use Rattle.wdf_lock.proofs.held.last_hold.Goals as goal

pub loop-lock-init : goal.loop-lock-init
loop-lock-init c =
    let few = count_by-le-length (is_of c.args.lock) c.args.all.now in
    let all : length c.args.all.now - 1 + 1 ≡ length c.args.all.now = omega arith in
    record {
      within = omega arith;
      some = rw (all, take_all (length c.args.all.now) c.args.all.now (omega arith)) c.requires;
    }

pub overflow_sub-place-in-loop-lock : goal.overflow_sub-place-in-loop-lock
overflow_sub-place-in-loop-lock c =
    let some = before_place (is_of c.args.lock) c.args.all.now c.loop-lock.place _ c.loop-lock.invariant.within (sym c.same_lock.ensures.value ∙ c.loop-lock-test.true) c.loop-lock.invariant.some in
    not_at_first (is_of c.args.lock) c.args.all.now c.loop-lock.place some

pub loop-lock-smaller : goal.loop-lock-smaller
loop-lock-smaller c =
    let some = before_place (is_of c.args.lock) c.args.all.now c.loop-lock.place _ c.loop-lock.invariant.within (sym c.same_lock.ensures.value ∙ c.loop-lock-test.true) c.loop-lock.invariant.some in
    let first = not_at_first (is_of c.args.lock) c.args.all.now c.loop-lock.place some in
    omega arith

pub loop-lock-preserved : goal.loop-lock-preserved
loop-lock-preserved c =
    let some = before_place (is_of c.args.lock) c.args.all.now c.loop-lock.place _ c.loop-lock.invariant.within (sym c.same_lock.ensures.value ∙ c.loop-lock-test.true) c.loop-lock.invariant.some in
    let first = not_at_first (is_of c.args.lock) c.args.all.now c.loop-lock.place some in
    let within = c.loop-lock.invariant.within in
    let same : c.loop-lock.place - 1 + 1 ≡ c.loop-lock.place = omega arith in
    record {
      within = omega arith;
      some = rw same some;
    }

pub returns : goal.returns
returns c = record {
  within = c.loop-lock.invariant.within;
  its = λ d. ap (is_of c.args.lock) (get_or_default c.args.all.now c.loop-lock.place d _ c.loop-lock.invariant.within) ∙ sym c.same_lock.ensures.value ∙ c.loop-lock-test.false;
}
