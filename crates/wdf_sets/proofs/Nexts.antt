-- The first member from an id on: what a search over ids finds, and what the set finds.
use Rattle.std.proofs.Common.{if◌then◌else◌, ℕ, zero, suc, ◌≡◌, ◌⊎◌, ◌+◌, ◌-◌, ◌<◌, ◌≤◌, Bool, true, false, ◌&&◌, List, [], ◌∷◌, Option, Some, None, MatchOption, length, slice_get, refl, ap, sym, ◌∙◌, inl, inr, arith}
use Rattle.std.specs.Prelude.{nat_le}
use Rattle.std.specs.List.{filter, find, range_with_len}
use Rattle.std.proofs.lemmas.Bool.{cases_lt, le-leb, leb-false, leb-true}
use Rattle.std.proofs.lemmas.Bool.Decides.{nat_tests}
use Rattle.std.proofs.lemmas.List.{get_or_past}
use Rattle.wdf_sets.specs.Members.{is_in, members, rank}
use Rattle.wdf_sets.specs.Nexts.{IsNext, NoneFrom}
use Rattle.wdf_sets.proofs.Ranks.{one, rank_more, rank_mono}

-- ---- the first member from an id on, among the members

first_by : (id a : ℕ) (rest : List ℕ) (k k' : ℕ) (b : Bool) → nat_le id a ≡ b → (id ≤ a → k ≡ 0) → (a < id → k ≡ suc k')
    → slice_get rest k' ≡ find (nat_le id) rest → slice_get (a ∷ rest) k ≡ (if b then Some a else find (nat_le id) rest)
first_by id a rest k k' true e none more further =
    let near : id ≤ a = grind (arith, nat_tests) in
    rw (none near) refl
first_by id a rest k k' false e none more further =
    let far : a < id = grind (arith, nat_tests) in
    rw (more far) further

from_by : (bits : List Bool) (id a : ℕ) (rest : List ℕ) (b : Bool) → is_in a bits ≡ b → a < length bits
    → slice_get rest (rank id bits - rank (a + 1) bits) ≡ find (nat_le id) rest
    → slice_get (if b then a ∷ rest else rest) (rank id bits - rank a bits) ≡ find (nat_le id) (if b then a ∷ rest else rest)
from_by bits id a rest false e h further =
    let more : rank (a + 1) bits ≡ rank a bits + one (is_in a bits) = rank_more bits a h in
    let none : one (is_in a bits) ≡ 0 = ap one e in
    let same : rank (a + 1) bits ≡ rank a bits = omega arith in
    rw (← same) further
from_by bits id a rest true e h further =
    let more : rank (a + 1) bits ≡ rank a bits + one (is_in a bits) = rank_more bits a h in
    let here : one (is_in a bits) ≡ 1 = ap one e in
    first_by id a rest (rank id bits - rank a bits) (rank id bits - rank (a + 1) bits) (nat_le id a) refl
    (λ h. let below = rank_mono bits id a h in omega arith)
    (λ h. let below = rank_mono bits (a + 1) id (omega arith) in omega arith)
    further

from_part : (bits : List Bool) (id a n : ℕ) → a + n ≡ length bits
    → slice_get (filter (λ x. is_in x bits) (range_with_len a n)) (rank id bits - rank a bits) ≡ find (nat_le id) (filter (λ x. is_in x bits) (range_with_len a n))
from_part bits id a zero e = refl
from_part bits id a (suc n) e =
    from_by bits id a (filter (λ x. is_in x bits) (range_with_len (a + 1) n)) (is_in a bits) refl (omega arith) (from_part bits id (a + 1) n (omega arith))

-- the member with as many before it as there are before an id
pub member_from : (bits : List Bool) (id : ℕ) → slice_get (members bits) (rank id bits) ≡ find (nat_le id) (members bits)
member_from bits id =
    let first : rank 0 bits ≡ 0 = refl in
    let same : rank id bits - rank 0 bits ≡ rank id bits = omega arith in
    rw same at (from_part bits id 0 (length bits) (omega arith))

-- ---- what a search over ids found

-- an id that passes a test is the first one from a on
pub record First (q : ℕ → Bool) (a n x : ℕ) : Type 0 where
  pub from : a ≤ x
  pub within : x < a + n
  pub passes : q x ≡ true
  pub before : (p : ℕ) → a ≤ p → p < x → q p ≡ false

above_by : (a p : ℕ) → nat_le p a ≡ false → a ≤ p → a + 1 ≤ p
above_by a p f above = let not_le = leb-false p a f in omega arith

first_in_by : (q : ℕ → Bool) (a n x : ℕ) (b : Bool) → q a ≡ b → find q (range_with_len a (suc n)) ≡ Some x → (find q (range_with_len (a + 1) n) ≡ Some x → First q (a + 1) n x) → First q a (suc n) x
first_in_by q a n x true e h rest =
    let found = rw e at h in
    let same : a ≡ x = cc in
    rw (← same) (record { from = omega arith; within = omega arith; passes = e; before = λ p above below. absurd (omega arith) })
first_in_by q a n x false e h rest =
    let k : First q (a + 1) n x = rest (rw e at h) in
    let after = k.from in
    let below = k.within in
    record { from = omega arith; within = omega arith; passes = k.passes; before = λ p above under. before_by p (nat_le p a) refl above under k }
  where
    before_by : (p : ℕ) (c : Bool) → nat_le p a ≡ c → a ≤ p → p < x → First q (a + 1) n x → q p ≡ false
    before_by p true f above under k = let le = leb-true p a f in let same : a ≡ p = omega arith in rw (← same) e
    before_by p false f above under k = k.before p (above_by a p f above) under

pub first_in : (q : ℕ → Bool) (a n x : ℕ) → find q (range_with_len a n) ≡ Some x → First q a n x
first_in q a zero x h = absurd (let z : ⊥ = cc in z)
first_in q a (suc n) x h = first_in_by q a n x (q a) refl h (first_in q (a + 1) n x)

none_in_by : (q : ℕ → Bool) (a n : ℕ) (b : Bool) → q a ≡ b → find q (range_with_len a (suc n)) ≡ None → (find q (range_with_len (a + 1) n) ≡ None → (p : ℕ) → a + 1 ≤ p → p < a + 1 + n → q p ≡ false)
    → (p : ℕ) (c : Bool) → nat_le p a ≡ c → a ≤ p → p < a + suc n → q p ≡ false
none_in_by q a n true e h rest p c f above below = let found = rw e at h in absurd (let z : ⊥ = cc in z)
none_in_by q a n false e h rest p true f above below = let le = leb-true p a f in let same : a ≡ p = omega arith in rw (← same) e
none_in_by q a n false e h rest p false f above below = let not_le = leb-false p a f in rest (rw e at h) p (omega arith) (omega arith)

pub none_in : (q : ℕ → Bool) (a n : ℕ) → find q (range_with_len a n) ≡ None → (p : ℕ) → a ≤ p → p < a + n → q p ≡ false
none_in q a zero h p above below = absurd (omega arith)
none_in q a (suc n) h p above below = none_in_by q a n (q a) refl h (none_in q (a + 1) n) p (nat_le p a) refl above below

find_filter_by : (p q : ℕ → Bool) (x : ℕ) (xs : List ℕ) (b : Bool) → q x ≡ b → find p (filter q xs) ≡ find (λ y. p y && q y) xs → find p (filter q (x ∷ xs)) ≡ find (λ y. p y && q y) (x ∷ xs)
find_filter_by p q x xs true e rest = rw e (kept (p x) refl)
  where
    kept : (c : Bool) → p x ≡ c → find p (x ∷ filter q xs) ≡ (if p x && true then Some x else find (λ y. p y && q y) xs)
    kept true f = rw f refl
    kept false f = rw f rest
find_filter_by p q x xs false e rest = rw e (dropped (p x))
  where
    dropped : (c : Bool) → find p (filter q xs) ≡ (if c && false then Some x else find (λ y. p y && q y) xs)
    dropped true = rest
    dropped false = rest

pub find_filter : (p q : ℕ → Bool) (xs : List ℕ) → find p (filter q xs) ≡ find (λ y. p y && q y) xs
find_filter p q [] = refl
find_filter p q (x ∷ xs) = find_filter_by p q x xs (q x) refl (find_filter p q xs)

-- ---- the first member from an id on, below an end

right_off : (a b : Bool) → a ≡ true → (a && b) ≡ false → b ≡ false
right_off true b e h = h
right_off false b e h = absurd (let z : ⊥ = cc in z)

both_on : (a b : Bool) → (a && b) ≡ true → (a ≡ true) × (b ≡ true)
both_on true b h = (refl, h)
both_on false b h = absurd (let z : ⊥ = cc in z)

module _ (bits : List Bool) (from end : ℕ) where
  abbrev further : ℕ → Bool
  further id = nat_le from id && is_in id bits

  searched : slice_get (members bits) (rank from bits) ≡ find further (range_with_len 0 (length bits))
  searched = member_from bits from ∙ find_filter (nat_le from) (λ id. is_in id bits) (range_with_len 0 (length bits))

  pub none_next : None ≡ slice_get (members bits) (rank from bits) → NoneFrom (λ id. is_in id bits) from end
  none_next h id above below = by (cases_lt id (length bits))
    where
      by : (id < length bits) ⊎ (length bits ≤ id) → is_in id bits ≡ false
      by (inl there) = right_off (nat_le from id) (is_in id bits) (le-leb from id above) (none_in further 0 (length bits) (sym searched ∙ sym h) id (omega arith) (omega arith))
      by (inr past) = get_or_past bits id false past

  module _ (found : ℕ) (h : Some found ≡ slice_get (members bits) (rank from bits)) where
    first : First further 0 (length bits) found
    first = first_in further 0 (length bits) found (sym searched ∙ sym h)

    none_before : NoneFrom (λ id. is_in id bits) from found
    none_before id above below = right_off (nat_le from id) (is_in id bits) (le-leb from id above) (first.before id (omega arith) below)

    pub next_is : found < end → IsNext (λ id. is_in id bits) from end found
    next_is below =
        let both = both_on (nat_le from found) (is_in found bits) first.passes in
        record { after = leb-true from found both.0; within = below; passes = both.1; before = none_before }

    pub next_past : end ≤ found → NoneFrom (λ id. is_in id bits) from end
    next_past past id above below = none_before id above (omega arith)

-- ---- for another test

module _ (p q : ℕ → Bool) (from end : ℕ) (same : (id : ℕ) → from ≤ id → id < end → p id ≡ q id) where
  pub none_also : NoneFrom p from end → NoneFrom q from end
  none_also h id above below = sym (same id above below) ∙ h id above below

  pub next_also : (id : ℕ) → IsNext p from end id → IsNext q from end id
  next_also id h =
      let after = h.after in
      let within = h.within in
      record { after = after; within = within; passes = sym (same id after within) ∙ h.passes; before = λ x above below. sym (same x above (omega arith)) ∙ h.before x above below }

  -- what was found, read as an id
  pub found_also : {A : Type 0} (id_of : A → ℕ) (found : Option A) → MatchOption found (NoneFrom p from end) (λ x. IsNext p from end (id_of x)) → MatchOption found (NoneFrom q from end) (λ x. IsNext q from end (id_of x))
  found_also id_of None h = none_also h
  found_also id_of (Some x) h = next_also (id_of x) h
