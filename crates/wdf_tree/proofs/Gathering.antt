-- The subtree of an object, gathered by rising ids along the lists of children.
use Rattle.std.proofs.Common.{if◌then◌else◌, ◌==◌, ◌&&◌, ◌||◌, not, nat_le, nat_lt, Bool, true, false, sym, ◌≡◌, ◌≢◌, ◌⊎◌, inl, inr, ℕ, zero, suc, ◌+◌, ◌-◌, ◌<◌, ◌≤◌, List, [], ◌∷◌, ◌++◌, Option, Some, None, length, filter, find, slice_get, slice_index, slice_set, get_or-set_same, get_or-set_other, refl, ap, ◌∙◌, arith}
use Rattle.std.specs.List.{range_with_len}
use Rattle.std.proofs.Math.Bool.{and-false}
use Rattle.std.proofs.lemmas.Bool.{and_parts, and_right, cases_eq, cases_lt, eq-eqb, eqb-true, false≢true, le-leb, leb-true, le-ltb, lt-leb, lt-ltb, ltb-true, ltb-false, ne_eqb}
use Rattle.std.proofs.lemmas.List.{append-nil}
use Rattle.wdf_base.specs.declared.object.Kind.TheVariants as kind
use Rattle.wdf_base.specs.Same.{same_kind}
use Rattle.wdf_base.specs.Lives.{is_gone}
use Rattle.wdf_ilist.specs.Family.{Family, is_on, list_at}
use Rattle.wdf_model.specs.Tables.{entry}
use Rattle.wdf_model.specs.declared.entries.Node.{Node}
use Rattle.wdf_model.specs.declared.room.TheConstants.{OBJECTS}
use Rattle.wdf_model.specs.parts.Tree.{Tree, gone, is_below, is_child, life_of, node_of, parent_of, subtree}
use Rattle.wdf_model.proofs.Maps.{entry_past}
use Rattle.wdf_sets.specs.Members.{is_in, members, rank}
use Rattle.wdf_tree.specs.Gathering.{AreGathered, is_found, is_within}
use Rattle.wdf_tree.specs.Inside.{EndsAlone, ends_alone}
use Rattle.wdf_tree.specs.Kin.{HoldsKin, is_kin, is_left, places}
use Rattle.wdf_tree.proofs.Kept.{all_of_entry}
use Rattle.wdf_tree.proofs.Kin.{off_past, on_places}
use Rattle.wdf_tree.proofs.Leaving.{from_part}
use Rattle.wdf_tree.proofs.Marks.{below_by_parent, none_below_past}

-- ---- ids in order

filter_split : (p : ℕ → Bool) (k m n : ℕ) → filter p (range_with_len k (m + n)) ≡ filter p (range_with_len k m) ++ filter p (range_with_len (k + m) n)
filter_split p k zero n = let e : k + 0 ≡ k = omega arith in let f : 0 + n ≡ n = omega arith in rw (e, f) refl
filter_split p k (suc m) n =
    let e : k + suc m ≡ (k + 1) + m = omega arith in
    let f : suc m + n ≡ suc (m + n) = omega arith in
    rw (e, f) (by_test (p k) refl (filter_split p (k + 1) m n))
  where
    by_test : (b : Bool) → p k ≡ b → filter p (range_with_len (k + 1) (m + n)) ≡ filter p (range_with_len (k + 1) m) ++ filter p (range_with_len ((k + 1) + m) n)
        → filter p (range_with_len k (suc (m + n))) ≡ filter p (range_with_len k (suc m)) ++ filter p (range_with_len ((k + 1) + m) n)
    by_test true g rest = rw g (ap (λ xs. k ∷ xs) rest)
    by_test false g rest = rw g rest

filter_none : (p : ℕ → Bool) (k n : ℕ) → ((x : ℕ) → k ≤ x → x < k + n → p x ≡ false) → filter p (range_with_len k n) ≡ []
filter_none p k zero h = refl
filter_none p k (suc n) h = rw (h k (omega arith) (omega arith)) (filter_none p (k + 1) n (λ x from to. h x (omega arith) (omega arith)))

-- ids up to one that passes, where those from a bound on fail
filter_to : (p : ℕ → Bool) (from x : ℕ) → from ≤ x → ((y : ℕ) → from ≤ y → y < x → p y ≡ false) → p x ≡ true
    → filter p (range_with_len 0 (x + 1)) ≡ filter p (range_with_len 0 from) ++ x ∷ []
filter_to p from x h off on =
    let e : x + 1 ≡ from + ((x - from) + 1) = omega arith in
    let f : 0 + from ≡ from = omega arith in
    let g : from + (x - from) ≡ x = omega arith in
    let none : filter p (range_with_len from (x - from)) ≡ [] = filter_none p from (x - from) (λ y low high. off y low (omega arith)) in
    let last : filter p (range_with_len x 1) ≡ x ∷ [] = rw on refl in
    ap (λ n. filter p (range_with_len 0 n)) e
    ∙ filter_split p 0 from ((x - from) + 1)
    ∙ ap (λ k. filter p (range_with_len 0 from) ++ filter p (range_with_len k ((x - from) + 1))) f
    ∙ ap (λ xs. filter p (range_with_len 0 from) ++ xs) (filter_split p from (x - from) 1 ∙ ap (λ k. filter p (range_with_len from (x - from)) ++ filter p (range_with_len k 1)) g ∙ rw (none, last) refl)

-- all ids, where those from a bound on fail
filter_all : (p : ℕ → Bool) (from n : ℕ) → from ≤ n → ((x : ℕ) → from ≤ x → x < n → p x ≡ false) → filter p (range_with_len 0 n) ≡ filter p (range_with_len 0 from)
filter_all p from n h off =
    let e : n ≡ from + (n - from) = omega arith in
    let f : 0 + from ≡ from = omega arith in
    let none : filter p (range_with_len from (n - from)) ≡ [] = filter_none p from (n - from) (λ x low high. off x low (omega arith)) in
    ap (λ m. filter p (range_with_len 0 m)) e
    ∙ filter_split p 0 from (n - from)
    ∙ ap (λ k. filter p (range_with_len 0 from) ++ filter p (range_with_len k (n - from))) f
    ∙ rw none (append-nil (filter p (range_with_len 0 from)))

-- one id more
pub filter_more : (p : ℕ → Bool) (x : ℕ) → filter p (range_with_len 0 (x + 1)) ≡ filter p (range_with_len 0 x) ++ (if p x then x ∷ [] else [])
filter_more p x =
    let f : 0 + x ≡ x = omega arith in
    filter_split p 0 x 1 ∙ ap (λ k. filter p (range_with_len 0 x) ++ filter p (range_with_len k 1)) f

few_pass : (p : ℕ → Bool) (k n : ℕ) → length (filter p (range_with_len k n)) ≤ n
few_pass p k zero = omega arith
few_pass p k (suc n) = by_test (p k) refl (few_pass p (k + 1) n)
  where
    by_test : (b : Bool) → p k ≡ b → length (filter p (range_with_len (k + 1) n)) ≤ n → length (filter p (range_with_len k (suc n))) ≤ suc n
    by_test true e h = rw e (omega arith)
    by_test false e h = rw e (omega arith)

pub few_gathered : (T : Tree) (o from : ℕ) (ids : List ℕ) → ids ≡ filter (is_within T o) (range_with_len 0 from) → length ids ≤ from
few_gathered T o from ids e = rw e (few_pass (is_within T o) 0 from)

-- ---- the first member of a set from an id on

-- The first id from one on that passes.
pub record IsFirst (p : ℕ → Bool) (from x : ℕ) : Type 0 where
  pub above : from ≤ x
  pub here : p x ≡ true
  pub none : (y : ℕ) → from ≤ y → y < x → p y ≡ false

first_in : (p : ℕ → Bool) (k n x : ℕ) → find p (range_with_len k n) ≡ Some x → IsFirst p k x
first_in p k zero x e = absurd (let z : ⊥ = cc in z)
first_in p k (suc n) x e = by_test (p k) refl (first_in p (k + 1) n x)
  where
    by_test : (b : Bool) → p k ≡ b → (find p (range_with_len (k + 1) n) ≡ Some x → IsFirst p (k + 1) x) → IsFirst p k x
    by_test true f rest =
        let g = rw f at e in
        let same : k ≡ x = cc in
        record { above = omega arith; here = ap p (sym same) ∙ f; none = λ y low high. absurd (omega arith) }
    by_test false f rest =
        let more = rest (rw f at e) in
        let above = more.above in
        record { above = omega arith; here = more.here; none = λ y low high. at more y low high (cases_eq y k) }
      where
        at : IsFirst p (k + 1) x → (y : ℕ) → k ≤ y → y < x → (y ≡ k) ⊎ (y ≡ k → ⊥) → p y ≡ false
        at more y low high (inl same) = ap p same ∙ f
        at more y low high (inr other) = more.none y (omega arith) high

none_in_range : (p : ℕ → Bool) (k n : ℕ) → find p (range_with_len k n) ≡ None → (y : ℕ) → k ≤ y → y < k + n → p y ≡ false
none_in_range p k zero e y low high = absurd (omega arith)
none_in_range p k (suc n) e y low high = by_test (p k) refl (cases_eq y k) (λ f above. none_in_range p (k + 1) n f y above (omega arith))
  where
    by_test : (b : Bool) → p k ≡ b → (y ≡ k) ⊎ (y ≡ k → ⊥) → (find p (range_with_len (k + 1) n) ≡ None → k + 1 ≤ y → p y ≡ false) → p y ≡ false
    by_test true f either rest = let g = rw f at e in absurd (let z : ⊥ = cc in z)
    by_test false f (inl same) rest = ap p same ∙ f
    by_test false f (inr other) rest = rest (rw f at e) (omega arith)

from_is_found : (bits : List Bool) (from : ℕ) → slice_get (members bits) (rank from bits) ≡ find (λ x. nat_le from x && is_in x bits) (range_with_len 0 (length bits))
from_is_found bits from =
    let start : rank from bits - rank 0 bits ≡ rank from bits = omega arith in
    rw start at (from_part bits (λ x. is_in x bits) from 0 (length bits) (λ x. refl) (omega arith))

after_test : (from y : ℕ) (b : Bool) → from ≤ y → (nat_le from y && b) ≡ false → b ≡ false
after_test from y b h e = rw (le-leb from y h) at e

pub next_member : (bits : List Bool) (from x : ℕ) (found : Option ℕ) → found ≡ slice_get (members bits) (rank from bits) → found ≡ Some x → IsFirst (λ y. is_in y bits) from x
next_member bits from x found e f =
    let first = first_in (λ y. nat_le from y && is_in y bits) 0 (length bits) x (sym (from_is_found bits from) ∙ sym e ∙ f) in
    let both = and_parts (nat_le from x) (is_in x bits) first.here in
    record {
      above = leb-true from x both.0;
      here = both.1;
      none = λ y low high. after_test from y (is_in y bits) low (first.none y (omega arith) high);
    }

pub no_member : (bits : List Bool) (from : ℕ) (found : Option ℕ) → found ≡ slice_get (members bits) (rank from bits) → found ≡ None → (y : ℕ) → from ≤ y → is_in y bits ≡ false
no_member bits from found e f y low = by_place (cases_lt y (length bits))
  where
    by_place : (y < length bits) ⊎ (length bits ≤ y) → is_in y bits ≡ false
    by_place (inl there) = after_test from y (is_in y bits) low (none_in_range (λ x. nat_le from x && is_in x bits) 0 (length bits) (sym (from_is_found bits from) ∙ sym e ∙ f) y (omega arith) (omega arith))
    by_place (inr past) = entry_past false bits y past

-- ---- what is below an object, by the lists of children

by_bools : (e lt b : Bool) → (e || (lt && b)) ≡ ((e && true) || (lt && ((e || b) && true)))
by_bools true true b = refl
by_bools true false b = refl
by_bools false true true = refl
by_bools false true false = refl
by_bools false false b = refl

or_nothing : (a b c d : Bool) → a ≡ false → d ≡ false → (a || (b && (c && d))) ≡ false
or_nothing false true true false e f = refl
or_nothing false true false false e f = refl
or_nothing false false c false e f = refl
or_nothing true b c d e f = absurd (false≢true (sym e))
or_nothing false b c true e f = absurd (false≢true (sym f))

-- a test more that changes nothing
found_by : (a c lt w l f : Bool) → (f ≡ false → (lt && w) ≡ false) → (a || (c || (f && (lt && (w && l))))) ≡ (a || (c || (lt && (w && l))))
found_by a c lt w l true h = refl
found_by a c true true l false h = absurd (false≢true (sym (h refl)))
found_by a c true false l false h = refl
found_by a c false w l false h = refl

begun_by : (a c : Bool) → (a || (c && true)) ≡ (a || (c || false))
begun_by true c = refl
begun_by false true = refl
begun_by false false = refl

begun : (a b c n f t : Bool) → b ≡ a → n ≡ true → f ≡ false → (b || (c && n)) ≡ (a || (c || (f && t)))
begun a b c n f t e g h = rw (e, g, h) (begun_by a c)

same_by : (a l z : Bool) → ((a || ((z && l) || false)) || (not z && (l && true))) ≡ (a || ((z && l) || l))
same_by true l z = refl
same_by false true true = refl
same_by false true false = refl
same_by false false true = refl
same_by false false false = refl

same_parent : (a c cx w lt f g l z : Bool) → f ≡ false → g ≡ true → lt ≡ true → w ≡ true → c ≡ (z && l) → cx ≡ l
    → ((a || (c || (f && (lt && (w && l))))) || (not z && (cx && true))) ≡ (a || (c || (g && (lt && (w && l)))))
same_parent a c cx w lt f g l z e1 e2 e3 e4 e5 e6 = rw (e1, e2, e3, e4, e5, e6) (same_by a l z)

or_none : (b n : Bool) → (b || (n && false)) ≡ b
or_none true n = refl
or_none false true = refl
or_none false false = refl

and_none : (f lt : Bool) → (f && (lt && false)) ≡ false
and_none true true = refl
and_none true false = refl
and_none false lt = refl

other_parent : (a c cx w lt f g l z : Bool) → cx ≡ false → (f ≡ g) ⊎ (w ≡ false)
    → ((a || (c || (f && (lt && (w && l))))) || (not z && (cx && true))) ≡ (a || (c || (g && (lt && (w && l)))))
other_parent a c cx w lt f g l z e (inl same) = rw (e, same) (or_none (a || (c || (g && (lt && (w && l))))) (not z))
other_parent a c cx w lt f g l z e (inr off) =
    rw (e, off) (ap (λ b. (a || (c || b)) || (not z && false)) (and_none f lt) ∙ or_none (a || (c || false)) (not z) ∙ sym (ap (λ b. a || (c || b)) (and_none g lt)))

late_off : (b n c m : Bool) → b ≡ false → m ≡ false → (b || (n && (c && m))) ≡ false
late_off b n c m e f = rw (e, f) (and_none n c)

-- what is below an object: its child, or a later child of what is below it
abbrev by_lists : Tree → ℕ → ℕ → Bool
by_lists T o x = is_child T o x || (nat_lt (parent_of T x) x && (is_within T o (parent_of T x) && not (is_gone (life_of T x))))

module _ (T : Tree) (o : ℕ) (ends : EndsAlone T.nodes) (object : 0 < o) where
  alone_parent : (x : ℕ) → is_gone (life_of T x) ≡ true → parent_of T x ≡ 0
  alone_parent x is =
      let was : ends_alone (entry gone T.nodes x) ≡ true = all_of_entry ends_alone gone T.nodes x refl ends.alone in
      let first = rw is at was in
      eqb-true (parent_of T x) 0 (and_parts (parent_of T x == 0) (not (same_kind (node_of T x).kind kind.Device)) first).0

  none_below : is_below T o 0 ≡ false
  none_below =
      let root : parent_of T 0 ≡ 0 = alone_parent 0 ends.none in
      let other : 0 ≢ o = omega arith in
      let self : nat_lt 0 0 ≡ false = le-ltb 0 0 (omega arith) in
      below_by_parent T o 0 ends.some ∙ rw (root, ne_eqb 0 o other, self) refl

  gone_below : (x : ℕ) → x < length T.nodes → is_gone (life_of T x) ≡ true → is_below T o x ≡ false
  gone_below x there is =
      let root : parent_of T x ≡ 0 = alone_parent x is in
      let other : 0 ≢ o = omega arith in
      below_by_parent T o x there ∙ rw (root, ne_eqb 0 o other, none_below) (and-false (nat_lt 0 x))

  nothing_by_lists : (x : ℕ) → is_gone (life_of T x) ≡ true → by_lists T o x ≡ false
  nothing_by_lists x is =
      or_nothing (is_child T o x) (nat_lt (parent_of T x) x) (is_within T o (parent_of T x)) (not (is_gone (life_of T x)))
      (and_right (parent_of T x == o) (not (is_gone (life_of T x))) (ap not is)) (ap not is)

  below_by_lists : (x : ℕ) → is_below T o x ≡ by_lists T o x
  below_by_lists x = at (cases_lt x (length T.nodes)) (is_gone (life_of T x)) refl
    where
      left_by : (e : Bool) → (parent_of T x == o) ≡ e → is_gone (life_of T x) ≡ false → (e || (nat_lt (parent_of T x) x && is_below T o (parent_of T x))) ≡ by_lists T o x
      left_by e f is = rw (f, is) (by_bools e (nat_lt (parent_of T x) x) (is_below T o (parent_of T x)))

      at : (x < length T.nodes) ⊎ (length T.nodes ≤ x) → (b : Bool) → is_gone (life_of T x) ≡ b → is_below T o x ≡ by_lists T o x
      at (inl there) true is = gone_below x there is ∙ sym (nothing_by_lists x is)
      at (inl there) false is = below_by_parent T o x there ∙ left_by (parent_of T x == o) refl is
      at (inr past) b is = none_below_past T o x past ∙ sym (nothing_by_lists x (ap (λ n. is_gone n.life) (entry_past gone T.nodes x past)))

  -- ---- what is found

  -- what is found from an id on is within, where no parent from there on is within
  found_as : (from x : ℕ) → (from ≤ parent_of T x → parent_of T x < x → is_within T o (parent_of T x) ≡ false) → is_found T o from x ≡ is_within T o x
  found_as from x off =
      found_by (x == o) (is_child T o x) (nat_lt (parent_of T x) x) (is_within T o (parent_of T x)) (not (is_gone (life_of T x))) (nat_lt (parent_of T x) from) blocked
      ∙ sym (ap (λ b. x == o || b) (below_by_lists x))
    where
      by_order : (b : Bool) → nat_lt (parent_of T x) x ≡ b → from ≤ parent_of T x → (nat_lt (parent_of T x) x && is_within T o (parent_of T x)) ≡ false
      by_order true e above = rw e (off above (ltb-true (parent_of T x) x e))
      by_order false e above = rw e refl

      blocked : nat_lt (parent_of T x) from ≡ false → (nat_lt (parent_of T x) x && is_within T o (parent_of T x)) ≡ false
      blocked e = by_order (nat_lt (parent_of T x) x) refl (ltb-false (parent_of T x) from e)

  -- what isn't ahead, up to an id, isn't within
  off_within : (from x : ℕ) (ahead : List Bool) → ((y : ℕ) → from ≤ y → is_in y ahead ≡ is_found T o from y) → ((y : ℕ) → from ≤ y → y < x → is_in y ahead ≡ false)
      → (d y : ℕ) → from ≤ y → y < from + d → y < x → is_within T o y ≡ false
  off_within from x ahead found off zero y low near high = absurd (omega arith)
  off_within from x ahead found off (suc d) y low near high =
      sym (found_as from y (λ above below. off_within from x ahead found off d (parent_of T y) above (omega arith) (omega arith)))
      ∙ sym (found y low) ∙ off y low high

  there_if_within : (x : ℕ) → o < length T.nodes → is_within T o x ≡ true → x < length T.nodes
  there_if_within x there on = by_place (cases_lt x (length T.nodes))
    where
      by_place : (x < length T.nodes) ⊎ (length T.nodes ≤ x) → x < length T.nodes
      by_place (inl below) = below
      by_place (inr past) =
          let other : x ≢ o = omega arith in
          let off : is_within T o x ≡ false = rw (ne_eqb x o other) (none_below_past T o x past) in
          absurd (false≢true (sym off ∙ on))

  -- the walk begins: the object and its children are found
  pub walk_begins : (ids : List ℕ) (before found ahead : List Bool) → ids ≡ [] → o < length found → ((x : ℕ) → is_in x before ≡ false)
      → ((x : ℕ) → is_in x found ≡ (is_in x before || (is_child T o x && nat_le 0 x))) → ahead ≡ slice_set found o true → AreGathered T o 0 ids ahead
  walk_begins ids before found ahead first there off e put = rw (first, put) (record {
    within = omega arith;
    gathered = refl;
    visited = λ x less. absurd (omega arith);
    found = λ x low. at x (cases_eq x o);
  })
    where
      at : (x : ℕ) → (x ≡ o) ⊎ (x ≡ o → ⊥) → is_in x (slice_set found o true) ≡ is_found T o 0 x
      at x (inl same) = rw (same, get_or-set_same found o true false there, eq-eqb o o refl) refl
      at x (inr other) =
          let least : nat_le 0 x ≡ true = le-leb 0 x (omega arith) in
          let below : nat_lt (parent_of T x) 0 ≡ false = le-ltb (parent_of T x) 0 (omega arith) in
          get_or-set_other found o x true false other ∙ e x
          ∙ begun (x == o) (is_in x before) (is_child T o x) (nat_le 0 x) (nat_lt (parent_of T x) 0)
          (nat_lt (parent_of T x) x && (is_within T o (parent_of T x) && not (is_gone (life_of T x)))) (off x ∙ sym (ne_eqb x o other)) least below

  -- the walk comes to an object, and its later children are found
  module _ (from x : ℕ) (ids : List ℕ) (before ahead : List Bool) (there : o < length T.nodes) (g : AreGathered T o from ids before) (first : IsFirst (λ y. is_in y before) from x) where
    off : (y : ℕ) → from ≤ y → y < x → is_within T o y ≡ false
    off y low high = off_within from x before g.found first.none x y low (omega arith) high

    on : is_within T o x ≡ true
    on = sym (found_as from x (λ above below. off (parent_of T x) above below)) ∙ sym (g.found x first.above) ∙ first.here

    pub visit_there : x < length T.nodes
    visit_there = there_if_within x there on

    has_bit : x < length before
    has_bit = by_place (cases_lt x (length before))
      where
        by_place : (x < length before) ⊎ (length before ≤ x) → x < length before
        by_place (inl below) = below
        by_place (inr past) = absurd (false≢true (sym (entry_past false before x past) ∙ first.here))

    cleared : (y : ℕ) → y < x + 1 → (y ≡ x) ⊎ (y ≡ x → ⊥) → (y < from) ⊎ (from ≤ y) → is_in y (slice_set before x false) ≡ false
    cleared y less (inl same) either = rw same (get_or-set_same before x false false has_bit)
    cleared y less (inr other) (inl under) = get_or-set_other before x y false false other ∙ g.visited y under
    cleared y less (inr other) (inr low) = get_or-set_other before x y false false other ∙ first.none y low (omega arith)

    found_then : (y : ℕ) → x < y → (parent_of T y ≡ x) ⊎ (parent_of T y ≡ x → ⊥) → (parent_of T y < from) ⊎ (from ≤ parent_of T y) → (parent_of T y < x) ⊎ (x ≤ parent_of T y)
        → (is_found T o from y || (not (x == o) && (is_child T x y && true))) ≡ is_found T o (x + 1) y
    found_then y later (inl same) either side =
        let above = first.above in
        let p = parent_of T y in
        same_parent (y == o) (is_child T o y) (is_child T x y) (is_within T o p) (nat_lt p y) (nat_lt p from) (nat_lt p (x + 1)) (not (is_gone (life_of T y))) (x == o)
        (le-ltb p from (omega arith)) (lt-ltb p (x + 1) (omega arith)) (lt-ltb p y (omega arith)) (ap (is_within T o) same ∙ on)
        (ap (λ z. z == o && not (is_gone (life_of T y))) same) (ap (λ b. b && not (is_gone (life_of T y))) (eq-eqb p x same))
    found_then y later (inr apart) (inl under) side =
        let above = first.above in
        let p = parent_of T y in
        other_parent (y == o) (is_child T o y) (is_child T x y) (is_within T o p) (nat_lt p y) (nat_lt p from) (nat_lt p (x + 1)) (not (is_gone (life_of T y))) (x == o)
        (ap (λ b. b && not (is_gone (life_of T y))) (ne_eqb p x apart)) (inl (lt-ltb p from under ∙ sym (lt-ltb p (x + 1) (omega arith))))
    found_then y later (inr apart) (inr low) (inl high) =
        let p = parent_of T y in
        other_parent (y == o) (is_child T o y) (is_child T x y) (is_within T o p) (nat_lt p y) (nat_lt p from) (nat_lt p (x + 1)) (not (is_gone (life_of T y))) (x == o)
        (ap (λ b. b && not (is_gone (life_of T y))) (ne_eqb p x apart)) (inr (off p low high))
    found_then y later (inr apart) (inr low) (inr past) =
        let p = parent_of T y in
        other_parent (y == o) (is_child T o y) (is_child T x y) (is_within T o p) (nat_lt p y) (nat_lt p from) (nat_lt p (x + 1)) (not (is_gone (life_of T y))) (x == o)
        (ap (λ b. b && not (is_gone (life_of T y))) (ne_eqb p x apart)) (inl (le-ltb p from low ∙ sym (le-ltb p (x + 1) (omega arith))))

    pub walk_goes_on : ((y : ℕ) → is_in y ahead ≡ (is_in y (slice_set before x false) || (not (x == o) && (is_child T x y && nat_le (x + 1) y)))) → AreGathered T o (x + 1) (ids ++ x ∷ []) ahead
    walk_goes_on e = record {
      within = let here = visit_there in omega arith;
      gathered = ap (λ xs. xs ++ x ∷ []) g.gathered ∙ sym (filter_to (is_within T o) from x first.above off on);
      visited = λ y less.
          let late : nat_le (x + 1) y ≡ false = lt-leb (x + 1) y less in
          e y ∙ late_off (is_in y (slice_set before x false)) (not (x == o)) (is_child T x y) (nat_le (x + 1) y) (cleared y less (cases_eq y x) (cases_lt y from)) late;
      found = λ y low.
          let above = first.above in
          let later : nat_le (x + 1) y ≡ true = le-leb (x + 1) y low in
          let other : y ≢ x = omega arith in
          let kept : is_in y (slice_set before x false) ≡ is_found T o from y = get_or-set_other before x y false false other ∙ g.found y (omega arith) in
          e y ∙ rw (kept, later) (found_then y (omega arith) (cases_eq (parent_of T y) x) (cases_lt (parent_of T y) from) (cases_lt (parent_of T y) x));
    }

  -- nothing is ahead: all of the subtree is gathered
  pub walk_ends : (from : ℕ) (ids : List ℕ) (ahead : List Bool) → AreGathered T o from ids ahead → ((x : ℕ) → from ≤ x → is_in x ahead ≡ false) → ids ≡ subtree T o
  walk_ends from ids ahead g off =
      g.gathered ∙ sym (filter_all (is_within T o) from (length T.nodes) g.within
      (λ y low high. off_within from (length T.nodes) ahead g.found (λ z a b. off z a) (length T.nodes) y low (omega arith) high))

  pub nothing_ahead : (from : ℕ) (ids : List ℕ) (ahead : List Bool) → AreGathered T o from ids ahead → ((x : ℕ) → from ≤ x → is_in x ahead ≡ false) → (x : ℕ) → is_in x ahead ≡ false
  nothing_ahead from ids ahead g off x = by_place (cases_lt x from)
    where
      by_place : (x < from) ⊎ (from ≤ x) → is_in x ahead ≡ false
      by_place (inl under) = g.visited x under
      by_place (inr low) = off x low

-- ---- children by their list

pub on_children : (T U : Tree) (family : Family) (parent x : ℕ) → T ≡ U → HoldsKin is_left T.nodes family → parent < OBJECTS → is_on x (list_at family.lists parent) ≡ is_child U parent x
on_children T U family parent x same h below = ap (is_on x) (h.kin parent below) ∙ at (cases_lt x (length T.nodes)) ∙ ap (λ V. is_child V parent x) same
  where
    at : (x < length T.nodes) ⊎ (length T.nodes ≤ x) → is_on x (places (is_kin is_left parent) 0 T.nodes) ≡ is_child T parent x
    at (inl there) = on_places (is_kin is_left parent) 0 T.nodes x x (omega arith) there
    at (inr past) =
        off_past (is_kin is_left parent) 0 T.nodes x (omega arith)
        ∙ sym (and_right (parent_of T x == parent) (not (is_gone (life_of T x))) (ap (λ (n : Node). not (is_gone n.life)) (entry_past gone T.nodes x past)))

subtree_there : (p : ℕ → Bool) (k n j : ℕ) → j < length (filter p (range_with_len k n)) → slice_index (filter p (range_with_len k n)) j < k + n
subtree_there p k zero j h = absurd (omega arith)
subtree_there p k (suc n) j h = by_test (p k) refl j h (subtree_there p (k + 1) n)
  where
    by_test : (b : Bool) → p k ≡ b → (i : ℕ) → i < length (filter p (range_with_len k (suc n)))
        → ((l : ℕ) → l < length (filter p (range_with_len (k + 1) n)) → slice_index (filter p (range_with_len (k + 1) n)) l < k + 1 + n)
        → slice_index (filter p (range_with_len k (suc n))) i < k + suc n
    by_test true e zero m rest = rw e (omega arith)
    by_test true e (suc i) m rest = let below = rest i (let l = rw e at m in omega arith) in rw e (omega arith)
    by_test false e i m rest = let below = rest i (rw e at m) in rw e (omega arith)

-- what is in a subtree is there
pub all_there : (T : Tree) (o k : ℕ) → k < length (subtree T o) → slice_index (subtree T o) k < length T.nodes
all_there T o k h = let there = subtree_there (is_within T o) 0 (length T.nodes) k h in omega arith
