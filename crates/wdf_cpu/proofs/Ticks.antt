-- The ticks until which frames spend, after one came or went; and which frames have them.
use Rattle.std.proofs.Common.{cond, ◌≡◌, ℕ, zero, suc, ◌+◌, ◌-◌, ◌==◌, ◌<◌, ◌≤◌, nat_lt, Bool, true, false, not, List, [], ◌∷◌, ◌++◌, replicate, drop, filter, inl, inr, Some, None, Result, Ok, Err, length, get_or, count_by, refl, ap, sym, subst, ◌∙◌, arith}
use Rattle.std.specs.List.{flat_map, insert, remove, slice_get}
use Rattle.std.specs.List.Sorted.{IsBinarySearchResult, IsNonDecreasing}
use Rattle.std.specs.Ordering.{nat_cmp}
use Rattle.std.proofs.lemmas.Bool.{cases_lt, le-ltb}
use Rattle.std.proofs.lemmas.Bool.Decides.{nat_tests}
use Rattle.std.proofs.lemmas.Option.{get_or_from_slice_get}
use Rattle.std.proofs.lemmas.List.{get_or_default}
use Rattle.std.proofs.lemmas.List.Edits.{get_or-remove_above, get_or-remove_below, length-insert, length-remove}
use Rattle.std.proofs.lemmas.List.Sorted.{IsNonDecreasingBy-insert, searched}
use Rattle.std.proofs.lemmas.List.Sums.{count_by-le-length, sum_by-insert, sum_by-remove}
use Rattle.wdf_base.specs.declared.frame.Frame.{Frame}
use Rattle.wdf_base.specs.declared.plan.Plan.{Plan}
use Rattle.wdf_model.specs.declared.entries.HeldLevel.{HeldLevel}
use Rattle.wdf_model.specs.Tables.{flag, in_order, put}
use Rattle.wdf_model.specs.parts.Cpus.{Cpus, all_frames, frame_of, levels_without, no_frame, opening_cpus, parked_with, stack_of, top, without_frame}
use Rattle.wdf_model.specs.parts.Cpus as cpus
use Rattle.wdf_model.proofs.Counts.{count_cons, count_no, count_yes, equal, not_equal}
use Rattle.wdf_cpu.specs.Spending.{Came, IsMoved, IsPlaceFor, SpendUntil, Went}
use Rattle.wdf_cpu.proofs.Passing.{passing_change, passing_change_off, passing_park, passing_pop, passing_push, passing_unpark}
use Rattle.wdf_model.proofs.FrameCounts.{on, seen}

-- ---- tests of ticks

flag_cond : (b : Bool) → cond b 1 0 ≡ flag b
flag_cond true = refl
flag_cond false = refl

later_than_none : (t : ℕ) → nat_lt t 0 ≡ false
later_than_none t = grind (arith, nat_tests)

pub none_at : (p : ℕ → Bool) (xs : List ℕ) → ((k d : ℕ) → k < length xs → p (get_or xs k d) ≡ false) → count_by p xs ≡ 0
none_at p [] none = refl
none_at p (x ∷ xs) none = count_no p x xs (none 0 0 (omega arith)) ∙ none_at p xs (λ k d h. none (suc k) d (omega arith))

some_at : (p : ℕ → Bool) (xs : List ℕ) (place d : ℕ) → place < length xs → p (get_or xs place d) ≡ true → 1 ≤ count_by p xs
some_at p [] place d h is = absurd (omega arith)
some_at p (x ∷ xs) zero d h is = let k = count_yes p x xs is in omega arith
some_at p (x ∷ xs) (suc place) d h is = let k = count_cons p x xs in let r = some_at p xs place d (omega arith) is in omega arith

-- ---- the greatest tick

some_later : (t n : ℕ) (b : Bool) → nat_lt t n ≡ b → (b ≡ true → t < n) × (b ≡ false → n ≤ t)
some_later t n true e = (λ _. grind (arith, nat_tests), λ f. absurd (let z : ⊥ = cc in z))
some_later t n false e = (λ f. absurd (let z : ⊥ = cc in z), λ _. grind (arith, nat_tests))

counted_is : (b : Bool) (n : ℕ) → (b ≡ true → 1 ≤ n) → (b ≡ false → n ≡ 0) → b ≡ not (n == 0)
counted_is true n some none = sym (ap not (not_equal n 0 (λ e. let s = some refl in let z : ⊥ = omega arith in z)))
counted_is false n some none = sym (ap not (equal n 0 (none refl)))

pub latest_some : (xs : List ℕ) (tick t : ℕ) → IsNonDecreasing xs → slice_get xs (length xs - 1) ≡ Some tick → nat_lt t tick ≡ not (count_by (nat_lt t) xs == 0)
latest_some [] tick t order is = absurd (let z : ⊥ = cc in z)
latest_some (x ∷ xs) tick t order is =
    let last : get_or (x ∷ xs) (length (x ∷ xs) - 1) 0 ≡ tick = get_or_from_slice_get (x ∷ xs) (length (x ∷ xs) - 1) tick 0 is in
    counted_is (nat_lt t tick) (count_by (nat_lt t) (x ∷ xs))
    (λ e. some_at (nat_lt t) (x ∷ xs) (length (x ∷ xs) - 1) 0 (omega arith) (ap (nat_lt t) last ∙ e))
    (λ e. none_at (nat_lt t) (x ∷ xs) (λ k d h.
    let most = order k (length (x ∷ xs) - 1) d (omega arith) (omega arith) in
    let same : get_or (x ∷ xs) (length (x ∷ xs) - 1) d ≡ get_or (x ∷ xs) (length (x ∷ xs) - 1) 0 = get_or_default (x ∷ xs) (length (x ∷ xs) - 1) d 0 (omega arith) in
    let below : tick ≤ t = (some_later t tick (nat_lt t tick) refl).1 e in
    le-ltb t (get_or (x ∷ xs) k d) (omega arith)))

pub latest_none : (xs : List ℕ) (t : ℕ) → slice_get xs (length xs - 1) ≡ None → nat_lt t 0 ≡ not (count_by (nat_lt t) xs == 0)
latest_none [] t is = later_than_none t
latest_none (x ∷ xs) t is = absurd (there (length xs) x xs (omega arith) (subst (λ k. slice_get (x ∷ xs) k ≡ None) back is))
  where
    back : length (x ∷ xs) - 1 ≡ length xs
    back = omega arith

    there : (k x : ℕ) (xs : List ℕ) → k ≤ length xs → slice_get (x ∷ xs) k ≡ None → ⊥
    there zero x xs h is = let z : ⊥ = cc in z
    there (suc k) x [] h is = absurd (omega arith)
    there (suc k) x (y ∷ ys) h is = there k y ys (omega arith) is

positive : (n : ℕ) → (n ≡ 0 → ⊥) → nat_lt 0 n ≡ true
positive zero some = absurd (some refl)
positive (suc n) some = grind (arith, nat_tests)

-- ---- a tick comes

pub came_at : (xs : List ℕ) (tick place : ℕ) → (tick ≡ 0 → ⊥) → IsPlaceFor tick xs place → Came tick xs (insert xs place tick)
came_at xs tick place some h = record {
  counts = λ p none. let e = sum_by-insert (λ x. cond (p x) 1 0) xs place tick in let f = flag_cond (p tick) in omega arith;
  many = let e = length-insert xs place tick h.within in let yes : flag (nat_lt 0 tick) ≡ 1 = ap flag (positive tick some) in omega arith;
}

pub came_none : (xs : List ℕ) (tick : ℕ) → tick ≡ 0 → Came tick xs xs
came_none xs tick is = record {
  counts = λ p none. let no : flag (p tick) ≡ 0 = ap (λ n. flag (p n)) is ∙ ap flag none in omega arith;
  many = let no : flag (nat_lt 0 tick) ≡ 0 = ap (λ n. flag (nat_lt 0 n)) is in omega arith;
}

pub order_came : (xs : List ℕ) (tick place : ℕ) → IsNonDecreasing xs → IsPlaceFor tick xs place → IsNonDecreasing (insert xs place tick)
order_came xs tick place order h = IsNonDecreasingBy-insert (λ x. x) xs place tick order h.within h.before h.after

pub place_found : (xs : List ℕ) (tick place : ℕ) → IsNonDecreasing xs → IsBinarySearchResult (λ y. nat_cmp y tick) xs (Ok place) → IsPlaceFor tick xs place
place_found xs tick place order h =
    let s = searched xs tick (Ok place) h (λ i j a b. order i j 0 a b) in record {
      within = let w = s.0 in omega arith;
      before = λ k d l. let w = s.0 in let o = order k place d (omega arith) w in let e = get_or_default xs place d 0 w in let same = s.1 in omega arith;
      after = λ k d l m. let w = s.0 in let o = order place k d l m in let e = get_or_default xs place d 0 w in let same = s.1 in omega arith;
    }

pub place_missing : (xs : List ℕ) (tick place : ℕ) → IsNonDecreasing xs → IsBinarySearchResult (λ y. nat_cmp y tick) xs (Err place) → IsPlaceFor tick xs place
place_missing xs tick place order h =
    let s = searched xs tick (Err place) h (λ i j a b. order i j 0 a b) in record {
      within = s.0;
      before = λ k d l. let w = s.0 in let o = s.1 k l in let e = get_or_default xs k d 0 (omega arith) in omega arith;
      after = λ k d l m. let o = s.2 k l m in let e = get_or_default xs k d 0 m in omega arith;
    }

-- ---- a tick goes

pub went_at : (xs : List ℕ) (tick place : ℕ) → (tick ≡ 0 → ⊥) → IsNonDecreasing xs → IsBinarySearchResult (λ y. nat_cmp y tick) xs (Ok place) → Went tick xs (remove xs place)
went_at xs tick place some order h =
    let s = searched xs tick (Ok place) h (λ i j a b. order i j 0 a b) in record {
      counts = λ p none.
          let e = sum_by-remove (λ x. cond (p x) 1 0) xs place 0 s.0 in
          let f : cond (p (get_or xs place 0)) 1 0 ≡ flag (p tick) = ap (λ x. cond (p x) 1 0) s.1 ∙ flag_cond (p tick) in
          omega arith;
      many = let e = length-remove xs place s.0 in let yes : flag (nat_lt 0 tick) ≡ 1 = ap flag (positive tick some) in omega arith;
    }

pub went_none : (xs : List ℕ) (tick : ℕ) → tick ≡ 0 → Went tick xs xs
went_none xs tick is = record {
  counts = λ p none. let no : flag (p tick) ≡ 0 = ap (λ n. flag (p n)) is ∙ ap flag none in omega arith;
  many = let no : flag (nat_lt 0 tick) ≡ 0 = ap (λ n. flag (nat_lt 0 n)) is in omega arith;
}

pub order_went : (xs : List ℕ) (place : ℕ) → place < length xs → IsNonDecreasing xs → IsNonDecreasing (remove xs place)
order_went xs place within order i j d le lt =
    let long = length-remove xs place within in
    elim (cases_lt i place) [
      | inl a ↦ let e = get_or-remove_below xs place d i a within in elim (cases_lt j place) [
        | inl b ↦ let f = get_or-remove_below xs place d j b within in let o = order i j d le (omega arith) in omega arith
        | inr b ↦ let f = get_or-remove_above xs place d j (omega arith) within in let o = order i (j + 1) d (omega arith) (omega arith) in omega arith
      ]
      | inr a ↦ let e = get_or-remove_above xs place d i (omega arith) within in let f = get_or-remove_above xs place d j (omega arith) within in let o = order (i + 1) (j + 1) d (omega arith) (omega arith) in omega arith
    ]

pub found_within : (xs : List ℕ) (tick place : ℕ) → IsNonDecreasing xs → IsBinarySearchResult (λ y. nat_cmp y tick) xs (Ok place) → place < length xs
found_within xs tick place order h = (searched xs tick (Ok place) h (λ i j a b. order i j 0 a b)).0

-- what is there is found
pub never_missing : (xs : List ℕ) (tick place : ℕ) → IsNonDecreasing xs → IsBinarySearchResult (λ y. nat_cmp y tick) xs (Err place) → 1 ≤ count_by (λ u. u == tick) xs → ⊥
never_missing xs tick place order h some =
    let s = searched xs tick (Err place) h (λ i j a b. order i j 0 a b) in
    let none = none_at (λ u. u == tick) xs (λ k d l. let e = get_or_default xs k d 0 l in elim (cases_lt k place) [
      | inl a ↦ let o = s.1 k a in not_equal (get_or xs k d) tick (λ same. let z : ⊥ = omega arith in z)
      | inr a ↦ let o = s.2 k (omega arith) l in not_equal (get_or xs k d) tick (λ same. let z : ⊥ = omega arith in z)
    ]) in
    let z : ⊥ = omega arith in z

pub missing_not_there : (xs : List ℕ) (tick : ℕ) (r : Result ℕ ℕ) → IsNonDecreasing xs → IsBinarySearchResult (λ y. nat_cmp y tick) xs r → ((place : ℕ) → r ≡ Ok place → ⊥) → 1 ≤ count_by (λ u. u == tick) xs → ⊥
missing_not_there xs tick (Ok place) order h missing some = missing place refl
missing_not_there xs tick (Err place) order h missing some = never_missing xs tick place order h some

-- ---- one goes and another comes

pub moved_both : (from to : ℕ) (old more new : List ℕ) → Came to old more → Went from more new → IsMoved from to old new
moved_both from to old more new c w = record {
  counts = λ p none. let a = c.counts p none in let b = w.counts p none in omega arith;
  many = let a = c.many in let b = w.many in omega arith;
}

pub moved_same : (from to : ℕ) (old : List ℕ) → from ≡ to → IsMoved from to old old
moved_same from to old e = record { counts = λ p none. ap (λ n. count_by p old + flag (p n)) e; many = ap (λ n. length old + flag (nat_lt 0 n)) e }

-- what is there is there after another came
pub still_there : (from to : ℕ) (old more : List ℕ) → Came to old more → (0 < from → 1 ≤ count_by (λ u. u == from) old) → 0 < from → 1 ≤ count_by (λ u. u == from) more
still_there from to old more c there some =
    let e = c.counts (λ u. u == from) (not_equal 0 from (λ e. let z : ⊥ = omega arith in z)) in
    let o = there some in
    omega arith

-- ---- the frames

pub spending_follows : (C D : Cpus) (left came : ℕ) (old new : List ℕ)
    → ((p : ℕ → Bool) → count_by (λ f. p (frame_of D f).until) (all_frames D) + flag (p left) ≡ count_by (λ f. p (frame_of C f).until) (all_frames C) + flag (p came))
    → IsMoved left came old new → SpendUntil C old → SpendUntil D new
spending_follows C D left came old new moved m h = record {
  counts = λ p none. let a = moved p in let b = m.counts p none in let c = h.counts p none in omega arith;
  many = let a = moved (nat_lt 0) in let b = m.many in let c = h.many in omega arith;
}

pub spending_push : (C : Cpus) (ticks new : List ℕ) (cpu f : ℕ) (frame : Frame) (level : ℕ) → on C f ≡ 0 → IsMoved 0 frame.until ticks new → SpendUntil C ticks → SpendUntil (cpus.push C cpu f frame level) new
spending_push C ticks new cpu f frame level none m h = record {
  counts = λ p zero. let a = passing_push (λ fr. p fr.until) C cpu f frame level none in let b = m.counts p zero in let c = h.counts p zero in let no : flag (p 0) ≡ 0 = ap flag zero in omega arith;
  many = let a = passing_push (λ fr. nat_lt 0 fr.until) C cpu f frame level none in let b = m.many in let c = h.many in omega arith;
}

pub spending_change : (C : Cpus) (ticks new : List ℕ) (f : ℕ) (frame : Frame) → on C f ≡ 1 → IsMoved (frame_of C f).until frame.until ticks new → SpendUntil C ticks → SpendUntil (cpus.change C f frame) new
spending_change C ticks new f frame one m h = spending_follows C (cpus.change C f frame) (frame_of C f).until frame.until ticks new (λ p. passing_change (λ fr. p fr.until) C f frame one) m h

pub spending_change_off : (C : Cpus) (ticks : List ℕ) (f : ℕ) (frame : Frame) → on C f ≡ 0 → SpendUntil C ticks → SpendUntil (cpus.change C f frame) ticks
spending_change_off C ticks f frame none h = record {
  counts = λ p zero. h.counts p zero ∙ sym (passing_change_off (λ fr. p fr.until) C f frame none);
  many = h.many ∙ sym (passing_change_off (λ fr. nat_lt 0 fr.until) C f frame none);
}

pub spending_pop : (C : Cpus) (ticks new : List ℕ) (cpu f : ℕ) → top C cpu ≡ Some f → on (cpus.pop C cpu) f ≡ 0 → IsMoved (frame_of C f).until 0 ticks new → SpendUntil C ticks → SpendUntil (cpus.pop C cpu) new
spending_pop C ticks new cpu f is_top off m h = record {
  counts = λ p zero. let a = passing_pop (λ fr. p fr.until) C cpu f is_top off in let b = m.counts p zero in let c = h.counts p zero in let no : flag (p 0) ≡ 0 = ap flag zero in omega arith;
  many = let a = passing_pop (λ fr. nat_lt 0 fr.until) C cpu f is_top off in let b = m.many in let c = h.many in omega arith;
}

pub spending_park : (C : Cpus) (ticks : List ℕ) (cpu f : ℕ) → top C cpu ≡ Some f → SpendUntil C ticks → SpendUntil (cpus.park C cpu) ticks
spending_park C ticks cpu f is_top h = record {
  counts = λ p zero. h.counts p zero ∙ sym (passing_park (λ fr. p fr.until) C cpu f is_top);
  many = h.many ∙ sym (passing_park (λ fr. nat_lt 0 fr.until) C cpu f is_top);
}

pub spending_unpark : (C : Cpus) (ticks : List ℕ) (cpu f : ℕ) → count_by (λ y. y == f) C.parked ≡ 1 → SpendUntil C ticks → SpendUntil (cpus.unpark C cpu f) ticks
spending_unpark C ticks cpu f one h = record {
  counts = λ p zero. h.counts p zero ∙ sym (passing_unpark (λ fr. p fr.until) C cpu f one);
  many = h.many ∙ sym (passing_unpark (λ fr. nat_lt 0 fr.until) C cpu f one);
}

pub spending_opening : (plan : Plan) → SpendUntil (opening_cpus plan) []
spending_opening plan = record { counts = λ p none. sym (none_stacked (λ f. p 0) plan.cpus none); many = sym (none_stacked (λ f. false) plan.cpus refl) }
  where
    none_stacked : (p : ℕ → Bool) (n : ℕ) → p 0 ≡ false → count_by p (flat_map (λ fs. fs) (replicate n []) ++ []) ≡ 0
    none_stacked p zero e = refl
    none_stacked p (suc n) e = none_stacked p n e

-- as the acts write it
pub spending_popped : (C : Cpus) (ticks new : List ℕ) (cpu f : ℕ) → top C cpu ≡ Some f → on (cpus.pop C cpu) f ≡ 0 → IsMoved (frame_of C f).until 0 ticks new → SpendUntil C ticks
    → SpendUntil (record {
      frames = put no_frame C.frames f no_frame;
      stacks = put [] C.stacks cpu (drop 1 (stack_of C cpu));
      parked = C.parked;
      levels = filter (λ (l : HeldLevel). not (l.frame.0 == f)) C.levels;
    }) new
spending_popped C ticks new cpu f is_top off m h =
    subst (λ t. SpendUntil (record { frames = without_frame C t; stacks = put [] C.stacks cpu (drop 1 (stack_of C cpu)); parked = C.parked; levels = levels_without C t }) new)
    is_top (spending_pop C ticks new cpu f is_top off m h)

pub spending_parked : (C : Cpus) (ticks : List ℕ) (cpu f : ℕ) → top C cpu ≡ Some f → SpendUntil C ticks
    → SpendUntil (record { frames = C.frames; stacks = put [] C.stacks cpu (drop 1 (stack_of C cpu)); parked = in_order f C.parked; levels = C.levels }) ticks
spending_parked C ticks cpu f is_top h =
    subst (λ t. SpendUntil (record { frames = C.frames; stacks = put [] C.stacks cpu (drop 1 (stack_of C cpu)); parked = parked_with C t; levels = C.levels }) ticks)
    is_top (spending_park C ticks cpu f is_top h)

pub spending_change_by : (C : Cpus) (ticks new : List ℕ) (f : ℕ) (frame : Frame) (live : Bool) → (live ≡ true → on C f ≡ 1) → (live ≡ false → on C f ≡ 0)
    → (live ≡ true → IsMoved (frame_of C f).until frame.until ticks new) → (live ≡ false → new ≡ ticks) → SpendUntil C ticks → SpendUntil (cpus.change C f frame) new
spending_change_by C ticks new f frame true one none m same h = spending_change C ticks new f frame (one refl) (m refl) h
spending_change_by C ticks new f frame false one none m same h = rw (same refl) (spending_change_off C ticks f frame (none refl) h)

-- the tick of a live frame is there
pub until_there : (C : Cpus) (ticks : List ℕ) (f until : ℕ) → until ≡ (frame_of C f).until → on C f ≡ 1 → SpendUntil C ticks → 0 < until → 1 ≤ count_by (λ u. u == until) ticks
until_there C ticks f until is one h some =
    let e = h.counts (λ u. u == until) (not_equal 0 until (λ e. let z : ⊥ = omega arith in z)) in
    let s = seen (λ x. (frame_of C x).until == until) f (all_frames C) (omega arith) (equal (frame_of C f).until until (sym is)) in
    omega arith

-- some frame spends at a tick where the greatest is later
pub some_spends : (C : Cpus) (ticks : List ℕ) (time latest : ℕ) → nat_lt time latest ≡ not (count_by (nat_lt time) ticks == 0) → SpendUntil C ticks
    → nat_lt time latest ≡ not (count_by (λ f. nat_lt time (frame_of C f).until) (all_frames C) == 0)
some_spends C ticks time latest is h = is ∙ ap (λ n. not (n == 0)) (h.counts (nat_lt time) (later_than_none time))

-- there is room for one more
pub few_ticks : (C : Cpus) (ticks : List ℕ) (most : ℕ) → SpendUntil C ticks → length (all_frames C) ≤ most → length ticks ≤ most
few_ticks C ticks most h few = let l = count_by-le-length (λ f. nat_lt 0 (frame_of C f).until) (all_frames C) in let m = h.many in omega arith
