-- A search through the lines of a block goes on by one line.
use Rattle.std.proofs.Common.{◌≡◌, ℕ, suc, ◌+◌, ◌-◌, ◌<◌, ◌≤◌, Bool, true, false, cond, List, length, drop, get_or, Option, Some, None, refl, sym, ◌∙◌, arith, drop-cons, add-one}
use Rattle.std.proofs.lemmas.List.{drop_all}
use Rattle.wdf_scene.specs.declared.line.NumberedLine.{NumberedLine}
use Rattle.wdf_blocks.specs.declared.attribute.Attribute.{Attribute}
use Rattle.wdf_scene.specs.declared.scene.Scene.{Scene}
use Rattle.wdf_blocks.specs.Blocks.{given, given_from, counts_for, ends_block, depth_after}

-- the search came to line k at this depth
pub record IsScanned (a : Attribute) (lines : List NumberedLine) (from depth k : ℕ) : Type 0 where
  pub answer : given_from a 0 from (drop from lines) ≡ given_from a depth k (drop k lines)
  pub behind : from ≤ k
  pub small : depth + from ≤ k

scan_step : (a : Attribute) (lines : List NumberedLine) (depth k : ℕ) (l : NumberedLine) → k < length lines → l ≡ get_or lines k l → given_from a depth k (drop k lines) ≡ cond (counts_for a depth l.form) (Some k) (cond (ends_block depth l.form) None (given_from a (depth_after depth l.form) (suc k) (drop (suc k) lines)))
unfolding given_from
scan_step a lines depth k l here is = rw (drop-cons lines k l) (rw (← is) refl)

scan_end : (a : Attribute) (lines : List NumberedLine) (depth k : ℕ) → length lines ≤ k → given_from a depth k (drop k lines) ≡ None
unfolding given_from
scan_end a lines depth k h = rw (drop_all k lines h) refl

-- the search ends at a line that gives the attribute
pub scan_found : (a : Attribute) (lines : List NumberedLine) (from depth k : ℕ) (l : NumberedLine) → IsScanned a lines from depth k → k < length lines → l ≡ get_or lines k l → true ≡ counts_for a depth l.form → Some k ≡ given_from a 0 from (drop from lines)
scan_found a lines from depth k l s here is counts =
    rw (s.answer, scan_step a lines depth k l here is, ← counts) refl

-- it ends with the block
pub scan_over : (a : Attribute) (lines : List NumberedLine) (from depth k : ℕ) (l : NumberedLine) → IsScanned a lines from depth k → k < length lines → l ≡ get_or lines k l → false ≡ counts_for a depth l.form → true ≡ ends_block depth l.form → None ≡ given_from a 0 from (drop from lines)
scan_over a lines from depth k l s here is counts ends =
    rw (s.answer, scan_step a lines depth k l here is, ← counts, ← ends) refl

-- the depth stays within the lines
pub depth_less : (depth n m : ℕ) (b e : Bool) → depth + n ≤ m → cond b (suc depth) (cond e (depth - 1) depth) + n ≤ suc m
depth_less depth n m true e h = omega arith
depth_less depth n m false true h = omega arith
depth_less depth n m false false h = omega arith

-- it goes on after a line
pub scan_more : (a : Attribute) (lines : List NumberedLine) (from depth depth' k : ℕ) (l : NumberedLine) → IsScanned a lines from depth k → k < length lines → l ≡ get_or lines k l → false ≡ counts_for a depth l.form → false ≡ ends_block depth l.form → depth' ≡ depth_after depth l.form → IsScanned a lines from depth' (k + 1)
scan_more a lines from depth depth' k l s here is counts ends deep =
    rw (deep, add-one) (record {
      answer = s.answer ∙ (scan_step a lines depth k l here is ∙ rw (← counts, ← ends) refl);
      behind = omega (arith, s.behind);
      small = depth_less depth from k _ _ s.small;
    })

-- it ends with the text
pub scan_none : (a : Attribute) (lines : List NumberedLine) (from depth k : ℕ) → IsScanned a lines from depth k → length lines ≤ k → None ≡ given_from a 0 from (drop from lines)
scan_none a lines from depth k s past = rw (s.answer) (sym (scan_end a lines depth k past))

-- the block in which the text ends is given nothing
pub given_past : (a : Attribute) (scene : Scene) (lines : List NumberedLine) (b : ℕ) → lines ≡ scene.lines → length lines ≤ b → None ≡ given scene b a
unfolding given
given_past a scene lines b same past =
    let past' : length scene.lines ≤ suc b = rw (← same) (omega arith) in
    sym (scan_end a scene.lines 0 (suc b) past')

-- the search begins after the line that opens the block
pub given_there : (a : Attribute) (scene : Scene) (lines : List NumberedLine) (b : ℕ) (r : Option ℕ) → lines ≡ scene.lines → r ≡ given_from a 0 (b + 1) (drop (b + 1) lines) → r ≡ given scene b a
unfolding given
given_there a scene lines b r same e = rw (e, same, add-one) refl
