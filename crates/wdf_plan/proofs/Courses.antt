-- A way through the lines goes on by one line.
use Rattle.std.proofs.Common.{◌≡◌, ℕ, suc, ◌+◌, ◌*◌, ◌<◌, ◌≤◌, List, length, drop, get_or, Some, None, refl, sym, ◌∙◌, arith, drop-cons, add-one}
use Rattle.std.proofs.lemmas.List.{drop_all}
use Rattle.wdf_scene.specs.declared.line.NumberedLine.{NumberedLine}
use Rattle.wdf_plan.specs.declared.course.Course.{Course}
use Rattle.wdf_plan.specs.declared.course.Nest.{Nest}
use Rattle.wdf_plan.specs.Scripts.{reach, passed, IsNear}

-- the way came before line k
pub record IsOnTheWay (blocks : List Nest) (start : Course) (lines : List NumberedLine) (from : ℕ) (way : Course) (k : ℕ) : Type 0 where
  pub answer : reach blocks start (drop from lines) ≡ reach blocks way (drop k lines)
  pub left : way.left + from ≤ k + 1
  pub skipping : way.skipping + from ≤ k + 1
  pub number : way.number + 2 * from ≤ start.number + 2 * k

step : (blocks : List Nest) (way : Course) (lines : List NumberedLine) (k : ℕ) (l : NumberedLine) → k < length lines → l ≡ get_or lines k l → reach blocks way (drop k lines) ≡ elim (passed blocks way l.form) as (λ _. ℕ) [ None ↦ way.number | Some t ↦ reach blocks t (drop (suc k) lines) ]
unfolding reach
step blocks way lines k l here is = rw (drop-cons lines k l) (rw (← is) refl)

-- the way ends at a line where nothing goes on
pub way_stops : (blocks : List Nest) (start : Course) (lines : List NumberedLine) (from : ℕ) (way : Course) (k : ℕ) (l : NumberedLine) → IsOnTheWay blocks start lines from way k → k < length lines → l ≡ get_or lines k l → None ≡ passed blocks way l.form → way.number ≡ reach blocks start (drop from lines)
way_stops blocks start lines from way k l w here is stops =
    rw (w.answer, step blocks way lines k l here is, ← stops) refl

-- it ends with the text
pub way_ends : (blocks : List Nest) (start : Course) (lines : List NumberedLine) (from : ℕ) (way : Course) (k : ℕ) → IsOnTheWay blocks start lines from way k → length lines ≤ k → way.number ≡ reach blocks start (drop from lines)
unfolding reach
way_ends blocks start lines from way k w past =
    let e : reach blocks way (drop k lines) ≡ way.number = rw (drop_all k lines past) refl in
    sym (w.answer ∙ e)

-- it goes on after a line
pub way_goes_on : (blocks : List Nest) (start : Course) (lines : List NumberedLine) (from : ℕ) (way next : Course) (k : ℕ) (l : NumberedLine) → IsOnTheWay blocks start lines from way k → k < length lines → l ≡ get_or lines k l → Some next ≡ passed blocks way l.form → IsNear way next → IsOnTheWay blocks start lines from next (k + 1)
way_goes_on blocks start lines from way next k l w here is goes near =
    record {
      answer = w.answer ∙ (step blocks way lines k l here is ∙ rw (← goes, add-one) refl);
      left = omega (arith, w.left, near.left);
      skipping = omega (arith, w.skipping, near.skipping);
      number = omega (arith, w.number, near.number);
    }
