-- The least numbers of lists, and of the frames above one.
use Rattle.std.proofs.Common.{◌≡◌, ℕ, zero, suc, ◌+◌, ◌-◌, ◌≤◌, min, ◌==◌, if◌then◌else◌, Bool, true, false, not, List, [], ◌∷◌, Option, Some, None, filter, length, drop, slice_get, take_while, fold, inl, inr, refl, ap, sym, ◌∙◌, arith}
use Rattle.std.specs.List.{flat_map, prefix_len, range_with_len}
use Rattle.std.proofs.lemmas.List.Sums.{fold-append}
use Rattle.std.proofs.lemmas.Bool.{cases_lt}
use Rattle.wdf_model.specs.Tables.{contains, ids_of, least, lesser}
use Rattle.wdf_model.specs.parts.Cpus.{Cpus, all_frames}
use Rattle.wdf_model.proofs.Maps.{entry_past}
use Rattle.wdf_model.proofs.Counts.{equal, not_equal}
use Rattle.wdf_cpu.specs.Kept.{IsLive}
use Rattle.wdf_cpu.proofs.Live.{live_is_contained}
use Rattle.wdf_model.specs.rules.Waits.{above_in}
use Rattle.wdf_maps.specs.Least.{lesser_if}
use Rattle.wdf_maps.proofs.Leasts.{fold_least}

-- ---- the frames above one

-- what is found from here on, after what was found before
abbrev pub above_from : ℕ → Option ℕ → List ℕ → Option ℕ
above_from f found [] = None
above_from f found (g ∷ gs) = if g == f then found else above_from f (lesser found g) gs

pub take_while_on : (p : ℕ → Bool) (x : ℕ) (xs : List ℕ) → p x ≡ true → take_while p (x ∷ xs) ≡ x ∷ take_while p xs
take_while_on p x xs e = let n : 1 + prefix_len p xs ≡ suc (prefix_len p xs) = omega arith in rw (e, n) refl

above_there : ℕ → Option ℕ → List ℕ → Option ℕ
above_there f found gs = if contains f gs then fold lesser found (take_while (λ g. not (g == f)) gs) else None

above_by : (f g : ℕ) (gs : List ℕ) (found : Option ℕ) (b : Bool) → (g == f) ≡ b → ((m : Option ℕ) → above_from f m gs ≡ above_there f m gs)
    → above_from f found (g ∷ gs) ≡ above_there f found (g ∷ gs)
unfolding above_there
above_by f g gs found true e rest = rw e refl
above_by f g gs found false e rest =
    let left : above_from f found (g ∷ gs) ≡ above_from f (lesser found g) gs = rw e refl in
    let there : contains f (g ∷ gs) ≡ contains f gs = rw e refl in
    let front : take_while (λ x. not (x == f)) (g ∷ gs) ≡ g ∷ take_while (λ x. not (x == f)) gs = take_while_on (λ x. not (x == f)) g gs (ap not e) in
    left ∙ rest (lesser found g)
    ∙ ap (λ zs. if contains f gs then fold lesser found zs else None) (sym front)
    ∙ ap (λ b. if b then fold lesser found (take_while (λ x. not (x == f)) (g ∷ gs)) else None) (sym there)

above_is : (f : ℕ) (gs : List ℕ) (found : Option ℕ) → above_from f found gs ≡ above_there f found gs
unfolding above_there
above_is f [] found = refl
above_is f (g ∷ gs) found = above_by f g gs found (g == f) refl (above_is f gs)

-- what is found on a processor is the least above the frame
least_if : (b : Bool) (gs : List ℕ) → (if b then least gs else None) ≡ least (if b then gs else [])
least_if true gs = refl
least_if false gs = refl

pub least_above : (f : ℕ) (gs : List ℕ) → above_from f None gs ≡ least (above_in f gs)
unfolding above_there
least_above f gs = above_is f gs None ∙ least_if (contains f gs) (take_while (λ g. not (g == f)) gs)

-- one processor more
pub above_more : (f : ℕ) (found : Option ℕ) (gs : List ℕ) (rest : List (List ℕ))
    → fold lesser found (flat_map (above_in f) (gs ∷ rest)) ≡ fold lesser (lesser_if found (least (above_in f gs))) (flat_map (above_in f) rest)
above_more f found gs rest =
    fold-append lesser found (above_in f gs) (flat_map (above_in f) rest)
    ∙ ap (λ m. fold lesser m (flat_map (above_in f) rest)) (fold_least found (above_in f gs))

-- ---- the numbers of frames

-- nothing passes past the end
filter_past : (p : ℕ → Bool) (from n more : ℕ) → ((j : ℕ) → n ≤ j → p (from + j) ≡ false) → filter p (range_with_len from (n + more)) ≡ filter p (range_with_len from n)
filter_past p from zero zero h = refl
filter_past p from zero (suc more) h =
    let e : 0 + suc more ≡ suc (0 + more) = omega arith in
    let z : from + 0 ≡ from = omega arith in
    let here : p from ≡ false = ap p (sym z) ∙ h 0 (omega arith) in
    rw (e, here) (filter_past p (from + 1) zero more (λ j l. let f : (from + 1) + j ≡ from + suc j = omega arith in ap p f ∙ h (suc j) (omega arith)))
filter_past p from (suc n) more h =
    let e : suc n + more ≡ suc (n + more) = omega arith in
    rw e (same_head p from (p from) _ _ (filter_past p (from + 1) n more (λ j l. let f : (from + 1) + j ≡ from + suc j = omega arith in ap p f ∙ h (suc j) (omega arith))))
  where
    same_head : (p : ℕ → Bool) (x : ℕ) (b : Bool) (xs ys : List ℕ) → filter p xs ≡ filter p ys → (if b then x ∷ filter p xs else filter p xs) ≡ (if b then x ∷ filter p ys else filter p ys)
    same_head p x b xs ys e = ap (λ zs. if b then x ∷ zs else zs) e

pub live_numbers : (C : Cpus) (live : List Bool) (few : ℕ) → IsLive C live → few ≡ min (length C.frames) (length live)
    → filter (λ f. contains f (all_frames C)) (range_with_len 0 few) ≡ filter (λ f. contains f (all_frames C)) (ids_of C.frames)
live_numbers C live few h is =
    elim (cases_lt (length live) (length C.frames)) [
      | inl less ↦
          let e : length C.frames ≡ few + (length C.frames - few) = omega arith in
          sym (ap (λ n. filter (λ f. contains f (all_frames C)) (range_with_len 0 n)) e
          ∙ filter_past (λ f. contains f (all_frames C)) 0 few (length C.frames - few) (λ j far. past j (omega arith)))
      | inr more ↦ let e : few ≡ length C.frames = omega arith in ap (λ n. filter (λ f. contains f (all_frames C)) (range_with_len 0 n)) e
    ]
  where
    past : (j : ℕ) → length live ≤ j → contains (0 + j) (all_frames C) ≡ false
    past j far =
        let e : 0 + j ≡ j = omega arith in
        ap (λ f. contains f (all_frames C)) e ∙ sym (live_is_contained C live j h) ∙ entry_past false live j far

-- ---- one frame of a processor

pub opened : (gs : List ℕ) (k g : ℕ) → slice_get gs k ≡ Some g → drop k gs ≡ g ∷ drop (k + 1) gs
opened [] k g h = absurd (let z : ⊥ = cc in z)
opened (x ∷ xs) zero g h = let e : x ≡ g = cc in ap (λ y. y ∷ xs) e
opened (x ∷ xs) (suc k) g h = let e : suc k + 1 ≡ suc (k + 1) = omega arith in rw e (opened xs k g h)

pub above_found : (f : ℕ) (found : Option ℕ) (gs : List ℕ) (k g : ℕ) → slice_get gs k ≡ Some g → g ≡ f → found ≡ above_from f found (drop k gs)
above_found f found gs k g h e =
    let same : (g == f) ≡ true = equal g f e in
    rw (opened gs k g h, same) refl

pub above_passed : (f : ℕ) (found : Option ℕ) (gs : List ℕ) (k g : ℕ) → slice_get gs k ≡ Some g → (g ≡ f → ⊥) → above_from f (lesser found g) (drop (k + 1) gs) ≡ above_from f found (drop k gs)
above_passed f found gs k g h e =
    let other : (g == f) ≡ false = not_equal g f e in
    rw (opened gs k g h, other) refl
