-- What may of what fits: two tests on ids, of which the first passes only where the other does. Where so many of those that
-- fit are kept back below an id, so many fewer may.
use Rattle.std.proofs.Common.{ℕ, zero, suc, ◌≡◌, ◌⊎◌, ◌+◌, ◌-◌, ◌<◌, ◌≤◌, Bool, true, false, cond, not, ◌&&◌, List, [], ◌∷◌, filter, length, slice_get, Option, Some, None, MatchOption, option_map, refl, sym, ap, subst, ◌∙◌, inl, inr, arith}
use Rattle.std.specs.List.{range_with_len}
use Rattle.std.proofs.lemmas.Bool.{cases_Bool, cases_lt}
use Rattle.std.proofs.lemmas.Option.{slice_get-get_or, slice_get_within}
use Rattle.wdf_base.specs.declared.ids.ObjectId.{ObjectId}
use Rattle.wdf_sets.specs.Nexts.{IsNext, NoneFrom}

abbrev one : Bool → ℕ
one b = cond b 1 0

-- ---- how many ids of a range pass

-- a range that is one longer
more_by : (p : ℕ → Bool) (a n : ℕ) → length (filter p (range_with_len a (suc n))) ≡ length (filter p (range_with_len a n)) + one (p (a + n))
more_by p a zero = let z : a + 0 ≡ a = omega arith in by (p a) ∙ ap (λ x. 0 + one (p x)) (sym z)
  where
    by : (b : Bool) → length (cond b (a ∷ []) []) ≡ 0 + one b
    by true = refl
    by false = refl
more_by p a (suc n) =
    let rest = more_by p (a + 1) n in
    let place : a + suc n ≡ a + 1 + n = omega arith in
    by (p a) rest ∙ ap (λ x. length (filter p (range_with_len a (suc n))) + one (p x)) (sym place)
  where
    by : (b : Bool) → length (filter p (range_with_len (a + 1) (suc n))) ≡ length (filter p (range_with_len (a + 1) n)) + one (p (a + 1 + n))
        → length (cond b (a ∷ filter p (range_with_len (a + 1) (suc n))) (filter p (range_with_len (a + 1) (suc n)))) ≡ length (cond b (a ∷ filter p (range_with_len (a + 1) n)) (filter p (range_with_len (a + 1) n))) + one (p (a + 1 + n))
    by true e = omega arith
    by false e = e

-- how many ids below one pass
abbrev pub below : (ℕ → Bool) → ℕ → ℕ
below p x = length (filter p (range_with_len 0 x))

pub below_more : (p : ℕ → Bool) (x : ℕ) → below p (x + 1) ≡ below p x + one (p x)
below_more p x = let s : x + 1 ≡ suc x = omega arith in let z : 0 + x ≡ x = omega arith in rw s (more_by p 0 x ∙ ap (λ y. below p x + one (p y)) z)

-- one id more is at most one more that passes
pub below_next : (p : ℕ → Bool) (x : ℕ) → below p (x + 1) ≤ below p x + 1
below_next p x = let step = below_more p x in by (p x) step
  where
    by : (b : Bool) → below p (x + 1) ≡ below p x + one b → below p (x + 1) ≤ below p x + 1
    by true e = omega arith
    by false e = omega arith

pub below_few : (p : ℕ → Bool) (x : ℕ) → below p x ≤ x
below_few p zero = omega arith
below_few p (suc x) =
    let s : x + 1 ≡ suc x = omega arith in
    let same : below p (x + 1) ≡ below p (suc x) = ap (below p) s in
    let rest = below_few p x in
    let next = below_next p x in
    omega arith

-- ---- the k-th id that passes

-- the id with as many before it
placed_from : (p : ℕ → Bool) (a n x : ℕ) → x < n → p (a + x) ≡ true → slice_get (filter p (range_with_len a n)) (length (filter p (range_with_len a x))) ≡ Some (a + x)
placed_from p a zero x low on = absurd (omega arith)
placed_from p a (suc n) zero low on = let z : a + 0 ≡ a = omega arith in first (p a) (ap p (sym z) ∙ on) ∙ ap Some (sym z)
  where
    first : (b : Bool) → b ≡ true → slice_get (cond b (a ∷ filter p (range_with_len (a + 1) n)) (filter p (range_with_len (a + 1) n))) 0 ≡ Some a
    first true e = refl
    first false e = absurd (let z : ⊥ = cc in z)
placed_from p a (suc n) (suc x) low on =
    let place : a + suc x ≡ a + 1 + x = omega arith in
    let rest = placed_from p (a + 1) n x (omega arith) (ap p (sym place) ∙ on) in
    by (p a) rest ∙ ap Some (sym place)
  where
    by : (b : Bool) → slice_get (filter p (range_with_len (a + 1) n)) (length (filter p (range_with_len (a + 1) x))) ≡ Some (a + 1 + x)
        → slice_get (cond b (a ∷ filter p (range_with_len (a + 1) n)) (filter p (range_with_len (a + 1) n))) (length (cond b (a ∷ filter p (range_with_len (a + 1) x)) (filter p (range_with_len (a + 1) x)))) ≡ Some (a + 1 + x)
    by true e = e
    by false e = e

placed : (p : ℕ → Bool) (n x : ℕ) → x < n → p x ≡ true → slice_get (filter p (range_with_len 0 n)) (below p x) ≡ Some x
placed p n x low on = let z : 0 + x ≡ x = omega arith in placed_from p 0 n x low (ap p z ∙ on) ∙ ap Some z

-- an id with so many before it, between two others
found_by : (p : ℕ → Bool) (at more place : ℕ) → below p at ≤ place → place < below p (at + more) → (x : ℕ) × (at ≤ x) × (x < at + more) × (p x ≡ true) × (below p x ≡ place)
found_by p at zero place low high = let z : at + 0 ≡ at = omega arith in absurd (let h : place < below p at = subst (λ y. place < below p y) z high in omega arith)
found_by p at (suc more) place low high = by (cases_lt place (below p (at + 1))) (cases_Bool (p at)) (found_by p (at + 1) more place)
  where
    step : at + suc more ≡ at + 1 + more
    step = omega arith

    by : (place < below p (at + 1)) ⊎ (below p (at + 1) ≤ place) → (p at ≡ true) ⊎ (p at ≡ false)
        → (below p (at + 1) ≤ place → place < below p (at + 1 + more) → (x : ℕ) × (at + 1 ≤ x) × (x < at + 1 + more) × (p x ≡ true) × (below p x ≡ place))
        → (x : ℕ) × (at ≤ x) × (x < at + suc more) × (p x ≡ true) × (below p x ≡ place)
    by (inl here) (inl on) rest =
        let one_more : below p (at + 1) ≡ below p at + 1 = below_more p at ∙ ap (λ b. below p at + one b) on in
        (at, omega arith, omega arith, on, omega arith)
    by (inl here) (inr off) rest =
        let same : below p (at + 1) ≡ below p at + 0 = below_more p at ∙ ap (λ b. below p at + one b) off in
        absurd (omega arith)
    by (inr further) either rest =
        let found = rest further (subst (λ y. place < below p y) step high) in
        let above = found.1 in
        let within = found.2 in
        (found.0, omega arith, omega arith, found.3, found.4)

past_all : (xs : List ℕ) (k : ℕ) → length xs ≤ k → slice_get xs k ≡ None
past_all [] k h = refl
past_all (x ∷ xs) zero h = absurd (omega arith)
past_all (x ∷ xs) (suc k) h = past_all xs k (omega arith)

-- no fewer pass below a greater id
below_rises_by : (p : ℕ → Bool) (at more : ℕ) → below p at ≤ below p (at + more)
below_rises_by p at zero = let z : at + 0 ≡ at = omega arith in rw z (omega arith)
below_rises_by p at (suc more) =
    let rest = below_rises_by p at more in
    let next = below_more p (at + more) in
    let step : at + more + 1 ≡ at + suc more = omega arith in
    let same = ap (below p) step in
    omega arith

below_rises : (p : ℕ → Bool) (at to : ℕ) → at ≤ to → below p at ≤ below p to
below_rises p at to up = let z : at + (to - at) ≡ to = omega arith in subst (λ y. below p at ≤ below p y) z (below_rises_by p at (to - at))

module _ (p : ℕ → Bool) (n from : ℕ) where
  -- as many pass before the next one from an id on as before that id
  none_placed : None ≡ slice_get (filter p (range_with_len 0 n)) (below p from) → NoneFrom p from n
  none_placed h id above low = by (p id) refl
    where
      by : (b : Bool) → p id ≡ b → b ≡ false
      by false e = refl
      by true e =
          let up = below_rises p from id above in
          let here = placed p n id low e in
          let within = slice_get_within (filter p (range_with_len 0 n)) (below p id) id here in
          let there = slice_get-get_or (filter p (range_with_len 0 n)) (below p from) id (omega arith) in
          let some = h ∙ there in
          absurd (let z : ⊥ = cc in z)

  next_placed : (x : ℕ) → Some x ≡ slice_get (filter p (range_with_len 0 n)) (below p from) → IsNext p from n x
  next_placed x h = by (cases_lt from n)
    where
      high : below p from < below p n
      high = slice_get_within (filter p (range_with_len 0 n)) (below p from) x (sym h)

      by : (from < n) ⊎ (n ≤ from) → IsNext p from n x
      by (inr past) = let up = below_rises p n from past in absurd (omega (arith, up, high))
      by (inl low) =
          let z : from + (n - from) ≡ n = omega arith in
          let found = found_by p from (n - from) (below p from) (omega arith) (subst (λ y. below p from < below p y) (sym z) high) in
          let above : from ≤ found.0 = found.1 in
          let within : found.0 < from + (n - from) = found.2 in
          let on : p found.0 ≡ true = found.3 in
          let is : below p found.0 ≡ below p from = found.4 in
          let same : Some x ≡ Some found.0 = h ∙ (ap (slice_get (filter p (range_with_len 0 n))) (sym is) ∙ placed p n found.0 (omega arith) on) in
          let id : found.0 ≡ x = cc in
          subst (IsNext p from n) id (record { after = above; within = omega arith; passes = on; before = λ y after under. none_before found.0 is y (p y) refl after under })
        where
          none_before : (to : ℕ) → below p to ≡ below p from → (y : ℕ) (b : Bool) → p y ≡ b → from ≤ y → y < to → b ≡ false
          none_before to is y false e after under = refl
          none_before to is y true e after under =
              let more : below p (y + 1) ≡ below p y + 1 = below_more p y ∙ ap (λ b. below p y + one b) e in
              let up = below_rises p from y after in
              let rest = below_rises p (y + 1) to (omega arith) in
              absurd (omega arith)

  pub next_fits : (found : Option ObjectId) → option_map (λ (o : ObjectId). o.0) found ≡ slice_get (filter p (range_with_len 0 n)) (below p from)
      → MatchOption found (NoneFrom p from n) (λ (o : ObjectId). IsNext p from n o.0)
  next_fits None h = none_placed h
  next_fits (Some o) h = next_placed o.0 h

-- ---- two tests

module _ (p r : ℕ → Bool) (part : (x : ℕ) → r x ≡ true → p x ≡ true) where
  abbrev kept : ℕ → Bool
  kept x = p x && not (r x)

  -- what fits and isn't kept back may
  same_by : (x : ℕ) (b c : Bool) → p x ≡ b → r x ≡ c → (b && not c) ≡ false → b ≡ c
  same_by x true true e f h = refl
  same_by x true false e f h = absurd (let z : ⊥ = cc in z)
  same_by x false true e f h = absurd (let on = part x f in let z : ⊥ = cc in z)
  same_by x false false e f h = refl

  same_test : (x : ℕ) → kept x ≡ false → p x ≡ r x
  same_test x h = same_by x (p x) (r x) refl refl h

  -- where none is kept back, as many may as fit
  as_many_by : (at more : ℕ) → NoneFrom kept at (at + more) → below p (at + more) + below r at ≡ below p at + below r (at + more)
  as_many_by at zero none = let z : at + 0 ≡ at = omega arith in rw z (omega arith)
  as_many_by at (suc more) none =
      let step : at + suc more ≡ at + more + 1 = omega arith in
      let rest = as_many_by at more (λ x above under. none x above (omega arith)) in
      let fits = below_more p (at + more) in
      let may = below_more r (at + more) in
      let same : one (p (at + more)) ≡ one (r (at + more)) = ap one (same_test (at + more) (none (at + more) (omega arith) (omega arith))) in
      subst (λ y. below p y + below r at ≡ below p at + below r y) (sym step) (omega arith)

  as_many : (at to : ℕ) → at ≤ to → NoneFrom kept at to → below p to + below r at ≡ below p at + below r to
  as_many at to up none =
      let z : at + (to - at) ≡ to = omega arith in
      subst (λ y. NoneFrom kept at y → below p y + below r at ≡ below p at + below r y) z (as_many_by at (to - at)) none

  on_parts : (b c : Bool) → (b && not c) ≡ true → (b ≡ true) × (c ≡ false)
  on_parts true false h = (refl, refl)
  on_parts true true h = absurd (let z : ⊥ = cc in z)
  on_parts false c h = absurd (let z : ⊥ = cc in z)

  -- one more is kept back
  pub kept_more : (at end x : ℕ) → IsNext kept at end x → below p (x + 1) + below r at ≡ below p at + below r (x + 1) + 1
  kept_more at end x next =
      let up = next.after in
      let rest = as_many at x up next.before in
      let parts = on_parts (p x) (r x) next.passes in
      let fits : below p (x + 1) ≡ below p x + 1 = below_more p x ∙ ap (λ b. below p x + one b) parts.0 in
      let may : below r (x + 1) ≡ below r x + 0 = below_more r x ∙ ap (λ b. below r x + one b) parts.1 in
      omega arith

  -- none further is kept back
  pub kept_all : (at end : ℕ) → at ≤ end → NoneFrom kept at end → below p end + below r at ≡ below p at + below r end
  kept_all at end up none = as_many at end up none

  module _ (at n k place : ℕ) (counted : place + below r at ≡ k + below p at) (low : below p at ≤ place) where
    -- the id at a place among those that fit is the k-th that may
    numbered_in : (to : ℕ) → to ≤ n → NoneFrom kept at to → place < below p to → at ≤ to → slice_get (filter p (range_with_len 0 n)) place ≡ slice_get (filter r (range_with_len 0 n)) k
    numbered_in to within none high up =
        let z : at + (to - at) ≡ to = omega arith in
        let found = found_by p at (to - at) place low (subst (λ y. place < below p y) (sym z) high) in
        let above : at ≤ found.0 = found.1 in
        let under : found.0 < at + (to - at) = found.2 in
        let on : p found.0 ≡ true = found.3 in
        let is : below p found.0 ≡ place = found.4 in
        let may : r found.0 ≡ true = sym (same_test found.0 (none found.0 above (omega arith))) ∙ on in
        let even = as_many at found.0 above (λ y over below_x. none y over (omega arith)) in
        let count : below r found.0 ≡ k = omega arith in
        ap (slice_get (filter p (range_with_len 0 n))) (sym is) ∙ placed p n found.0 (omega arith) on
        ∙ sym (ap (slice_get (filter r (range_with_len 0 n))) (sym count) ∙ placed r n found.0 (omega arith) may)

    pub numbered_before : (end x : ℕ) → end ≤ n → IsNext kept at end x → place < below p x → slice_get (filter p (range_with_len 0 n)) place ≡ slice_get (filter r (range_with_len 0 n)) k
    numbered_before end x within next high =
        let up = next.after in
        let under = next.within in
        numbered_in x (omega arith) next.before high up

    pub numbered_last : at ≤ n → NoneFrom kept at n → slice_get (filter p (range_with_len 0 n)) place ≡ slice_get (filter r (range_with_len 0 n)) k
    numbered_last up none = by (cases_lt place (below p n))
      where
        by : (place < below p n) ⊎ (below p n ≤ place) → slice_get (filter p (range_with_len 0 n)) place ≡ slice_get (filter r (range_with_len 0 n)) k
        by (inl high) = numbered_in n (omega arith) none high up
        by (inr past) =
            let even = as_many at n up none in
            past_all (filter p (range_with_len 0 n)) place past ∙ sym (past_all (filter r (range_with_len 0 n)) k (omega arith))
