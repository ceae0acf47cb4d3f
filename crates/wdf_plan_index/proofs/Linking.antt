-- Links of a list, made from its end on, and walks along them.
use Rattle.std.proofs.Common.{◌≡◌, ◌≢◌, ℕ, ◌+◌, ◌-◌, ◌%◌, ◌<◌, ◌≤◌, Bool, true, false, eqb, List, length, slice_index, slice_set, refl, sym, ◌∙◌, arith}
use Rattle.std.proofs.lemmas.Bool.{eqb-true}
use Rattle.std.proofs.lemmas.Bool.Decides.{nat_tests}
use Rattle.std.proofs.lemmas.Grind.{get_or-set_at}
use Rattle.std.proofs.lemmas.List.{get_or-set_other, length-set}
use Rattle.wdf_plan_index.specs.Places.{IsFirstBy, AreLinkedFrom}

-- the place itself is the first of its remainder
itself : (numbers : List ℕ) (count at : ℕ) → at < length numbers → IsFirstBy count numbers (slice_index numbers at % count) at at
itself numbers count at l = record {
  after = omega arith;
  within = omega arith;
  passed = λ j a b. absurd (omega arith);
  here = λ _. refl;
}

-- the first place of another remainder stays the first
another : (numbers : List ℕ) (count at b place : ℕ) → IsFirstBy count numbers b (at + 1) place → b ≢ slice_index numbers at % count → IsFirstBy count numbers b at place
another numbers count at b place f h = record {
  after = let a = f.after in omega arith;
  within = f.within;
  passed = λ j a l. passed j a l (eqb j at) refl;
  here = f.here;
}
  where
    passed : (j : ℕ) → at ≤ j → j < place → (same : Bool) → eqb j at ≡ same → slice_index numbers j % count ≢ b
    passed j a l true e = let z : j ≡ at = eqb-true j at e in rw z (λ g. h (sym g))
    passed j a l false e = f.passed j (grind (arith, nat_tests)) l

-- one place more, before those that are linked
module _ (numbers heads nexts : List ℕ) (count at : ℕ) (linked : AreLinkedFrom numbers heads nexts count (at + 1)) (l : at < length numbers) (m : count ≡ length heads) (n : length nexts ≡ length numbers) (some : 0 < count) where
  head_by : (b : ℕ) → b < count → (same : Bool) → eqb b (slice_index numbers at % count) ≡ same → IsFirstBy count numbers b at (slice_index (slice_set heads (slice_index numbers at % count) at) b)
  head_by b k true e =
      let z : b ≡ slice_index numbers at % count = eqb-true b (slice_index numbers at % count) e in
      let w : slice_index (slice_set heads (slice_index numbers at % count) at) b ≡ at = get_or-set_at heads (slice_index numbers at % count) b at 0 z (omega arith) in
      rw (w, z) (itself numbers count at l)
  head_by b k false e =
      let z : b ≢ slice_index numbers at % count = grind (arith, nat_tests) in
      let w : slice_index (slice_set heads (slice_index numbers at % count) at) b ≡ slice_index heads b = get_or-set_other heads (slice_index numbers at % count) b at 0 z in
      rw w (another numbers count at b (slice_index heads b) (linked.first b k) z)

  next_by : (k : ℕ) → at ≤ k → k < length numbers → (same : Bool) → eqb k at ≡ same
      → IsFirstBy count numbers (slice_index numbers k % count) (k + 1) (slice_index (slice_set nexts at (slice_index heads (slice_index numbers at % count))) k)
  next_by k a b true e =
      let z : k ≡ at = eqb-true k at e in
      let few : slice_index numbers at % count < count = omega arith in
      let w : slice_index (slice_set nexts at (slice_index heads (slice_index numbers at % count))) k ≡ slice_index heads (slice_index numbers at % count) = get_or-set_at nexts at k (slice_index heads (slice_index numbers at % count)) 0 z (omega arith) in
      rw (w, z) (linked.first (slice_index numbers at % count) few)
  next_by k a b false e =
      let z : k ≢ at = grind (arith, nat_tests) in
      let w : slice_index (slice_set nexts at (slice_index heads (slice_index numbers at % count))) k ≡ slice_index nexts k = get_or-set_other nexts at k (slice_index heads (slice_index numbers at % count)) 0 z in
      rw w (linked.next k (omega arith) b)

  pub linked_one : AreLinkedFrom numbers (slice_set heads (slice_index numbers at % count) at) (slice_set nexts at (slice_index heads (slice_index numbers at % count))) count at
  linked_one = record {
    first = λ b k. head_by b k (eqb b (slice_index numbers at % count)) refl;
    next = λ k a b. next_by k a b (eqb k at) refl;
  }

-- the same, of the place before where the links begin, for counts and places that are equal
pub linked_before : (numbers heads nexts : List ℕ) (count from at link : ℕ) → AreLinkedFrom numbers heads nexts (length heads) from → 0 < from → from ≤ length numbers → at ≡ from - 1 → count ≡ length heads → length nexts ≡ length numbers → 0 < length heads
    → link ≡ slice_index heads (slice_index numbers at % count)
    → AreLinkedFrom numbers (slice_set heads (slice_index numbers at % count) at) (slice_set nexts at link) (length (slice_set heads (slice_index numbers at % count) at)) at
linked_before numbers heads nexts count from at link linked p w a m n some e =
    let from_is : from ≡ at + 1 = omega arith in
    let moved = rw from_is at linked in
    let same = rw (← m) at moved in
    let long : length (slice_set heads (slice_index numbers at % count) at) ≡ count = length-set heads (slice_index numbers at % count) at ∙ sym m in
    rw (e, long) (linked_one numbers heads nexts count at same (omega arith) m n (omega arith))
