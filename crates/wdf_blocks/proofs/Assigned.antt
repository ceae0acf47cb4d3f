-- A search for the variables of a callback goes on by one line.
use Rattle.std.proofs.Common.{◌≡◌, ℕ, suc, ◌+◌, ◌<◌, ◌≤◌, true, false, cond, List, [], length, drop, get_or, Option, Result, Ok, Err, IfOk, refl, sym, ◌∙◌, arith, drop-cons, add-one}
use Rattle.std.proofs.lemmas.List.{drop_all}
use Rattle.wdf_scene.specs.declared.line.NumberedLine.{NumberedLine}
use Rattle.wdf_scene.specs.declared.scene.Scene.{Scene}
use Rattle.wdf_blocks.specs.Blocks.{ends_block, depth_after}
use Rattle.wdf_blocks.specs.Forms.{assigned_name}
use Rattle.wdf_blocks.specs.Variables.{assigned_from, with_assigned, variables}
use Rattle.wdf_blocks.proofs.Scans.{depth_less}

-- the search came to line k at this depth with these variables
pub record IsCollected (lines : List NumberedLine) (from depth k : ℕ) (names : List (List ℕ)) : Type 0 where
  pub answer : assigned_from [] 0 (drop from lines) ≡ assigned_from names depth (drop k lines)
  pub small : depth + from ≤ k

step : (lines : List NumberedLine) (depth k : ℕ) (names : List (List ℕ)) (l : NumberedLine) → k < length lines → l ≡ get_or lines k l → assigned_from names depth (drop k lines) ≡ cond (ends_block depth l.form) names (assigned_from (with_assigned names (assigned_name l.form)) (depth_after depth l.form) (drop (suc k) lines))
unfolding assigned_from
step lines depth k names l here is = rw (drop-cons lines k l) (rw (← is) refl)

-- the search ends at the end of the block
pub collect_over : (lines : List NumberedLine) (from depth k : ℕ) (names : List (List ℕ)) (l : NumberedLine) → IsCollected lines from depth k names → k < length lines → l ≡ get_or lines k l → true ≡ ends_block depth l.form → names ≡ assigned_from [] 0 (drop from lines)
collect_over lines from depth k names l s here is ends =
    rw (s.answer, step lines depth k names l here is, ← ends) refl

-- it goes on after a line
pub collect_more : (lines : List NumberedLine) (from depth depth' k : ℕ) (names names' : List (List ℕ)) (l : NumberedLine) (o : Option (List ℕ)) → IsCollected lines from depth k names → k < length lines → l ≡ get_or lines k l → false ≡ ends_block depth l.form → o ≡ assigned_name l.form → names' ≡ with_assigned names o → depth' ≡ depth_after depth l.form → IsCollected lines from depth' (k + 1) names'
collect_more lines from depth depth' k names names' l o s here is ends found grown deep =
    rw (deep, add-one, grown, found) (record {
      answer = s.answer ∙ (step lines depth k names l here is ∙ rw (← ends) refl);
      small = depth_less depth from k _ _ s.small;
    })

-- it ends with the text
pub collect_end : (lines : List NumberedLine) (from depth k : ℕ) (names : List (List ℕ)) → IsCollected lines from depth k names → length lines ≤ k → names ≡ assigned_from [] 0 (drop from lines)
unfolding assigned_from
collect_end lines from depth k names s past =
    let e : assigned_from names depth (drop k lines) ≡ names = rw (drop_all k lines past) refl in
    sym (s.answer ∙ e)

-- the callback in which the text ends has no variables
pub variables_past : (scene : Scene) (lines : List NumberedLine) (k : ℕ) (names : List (List ℕ)) → lines ≡ scene.lines → length lines ≤ k → names ≡ [] → names ≡ variables scene k
unfolding variables assigned_from
variables_past scene lines k names same past none' =
    let past' : length scene.lines ≤ suc k = rw (← same) (omega arith) in
    rw (none', drop_all (suc k) scene.lines past') refl

variables_there : (scene : Scene) (lines : List NumberedLine) (k : ℕ) (names : List (List ℕ)) → lines ≡ scene.lines → names ≡ assigned_from [] 0 (drop (k + 1) lines) → names ≡ variables scene k
unfolding variables
variables_there scene lines k names same e = rw (e, same, add-one) refl

pub variables_if : {E : Type 0} (scene : Scene) (lines : List NumberedLine) (k : ℕ) (r : Result (List (List ℕ)) E) → lines ≡ scene.lines → IfOk r (λ v. v ≡ assigned_from [] 0 (drop (k + 1) lines)) → IfOk r (λ v. v ≡ variables scene k)
variables_if scene lines k (Ok v) same e = variables_there scene lines k v same e
variables_if scene lines k (Err x) same e = tt
