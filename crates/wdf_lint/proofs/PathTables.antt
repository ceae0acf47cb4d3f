-- What the paths of a list of ends are: each but the first is an earlier one with a line more.
use Rattle.std.proofs.Common.{◌≡◌, ℕ, zero, suc, ◌+◌, ◌<◌, ◌⊎◌, inl, inr, List, [], ◌∷◌, ◌++◌, length, get_or, fold, reverse, Some, slice_get, refl, sym, ap, subst, ◌∙◌, arith}
use Rattle.std.proofs.lemmas.List.{length-append, reverse-append}
use Rattle.std.proofs.lemmas.List.Sums.{fold-append}
use Rattle.std.proofs.lemmas.Option.{get_or_from_slice_get}
use Rattle.wdf_lint.specs.declared.paths.PathEnd.{PathEnd}
use Rattle.wdf_lint.specs.Paths.{AreEnds, grow, longer, paths_of}
use Rattle.wdf_lint.proofs.Places.{GoesOn, get_last, in_last, item_at, not_both, on_by, on_from, on_itself, same_some, stays}

pub paths_more : (ends : List PathEnd) (e : PathEnd) → paths_of (ends ++ e ∷ []) ≡ grow (paths_of ends) e
unfolding paths_of
paths_more ends e = fold-append grow [] ends (e ∷ [])

pub paths_one : (line : ℕ) → paths_of (record { before = 0; line = line } ∷ []) ≡ (line ∷ []) ∷ []
unfolding paths_of
paths_one line = refl

grown_many : (ends : List PathEnd) (paths : List (List ℕ)) → length (fold grow paths ends) ≡ length paths + length ends
grown_many [] paths = omega arith
grown_many (e ∷ es) paths =
    let one = length-append paths (longer paths e.before e.line ∷ []) in
    let rest = grown_many es (grow paths e) in
    omega arith

pub paths_many : (ends : List PathEnd) → length (paths_of ends) ≡ length ends
unfolding paths_of
paths_many ends = let e = grown_many ends [] in let z : length (fold grow [] ends) ≡ length ends = omega arith in z

grown_on : (ends : List PathEnd) (paths : List (List ℕ)) → GoesOn paths (fold grow paths ends)
grown_on [] paths = on_itself paths
grown_on (e ∷ es) paths = on_from paths (grow paths e) (fold grow (grow paths e) es) (on_by paths (longer paths e.before e.line ∷ [])) (grown_on es (grow paths e))

-- a path, and those that were there before it
record PathIs (paths : List (List ℕ)) (n : ℕ) (e : PathEnd) : Type 0 where
  front : List (List ℕ)
  on : GoesOn front paths
  many : length front ≡ n
  here : slice_get paths n ≡ Some (longer front e.before e.line)

grown_at : (ends : List PathEnd) (paths : List (List ℕ)) (n : ℕ) (e : PathEnd) → slice_get ends n ≡ Some e → PathIs (fold grow paths ends) (length paths + n) e
grown_at [] paths n e h = not_both h refl
grown_at (x ∷ xs) paths zero e h =
    let same : x ≡ e = same_some h in
    let all = fold grow (grow paths x) xs in
    let zero_more : length paths + 0 ≡ length paths = omega arith in
    let here : slice_get all (length paths) ≡ Some (longer paths x.before x.line) = stays (grow paths x) all (grown_on xs (grow paths x)) (length paths) (longer paths x.before x.line) (get_last paths (longer paths x.before x.line)) in
    rw zero_more (record {
      front = paths;
      on = on_from paths (grow paths x) all (on_by paths (longer paths x.before x.line ∷ [])) (grown_on xs (grow paths x));
      many = refl;
      here = here ∙ ap (λ (y : PathEnd). Some (longer paths y.before y.line)) same;
    })
grown_at (x ∷ xs) paths (suc n) e h =
    let one = length-append paths (longer paths x.before x.line ∷ []) in
    let there : length (grow paths x) + n ≡ length paths + suc n = omega arith in
    subst (λ m. PathIs (fold grow (grow paths x) xs) m e) there (grown_at xs (grow paths x) n e h)

path_is : (ends : List PathEnd) (n : ℕ) (e : PathEnd) → slice_get ends n ≡ Some e → PathIs (paths_of ends) n e
unfolding paths_of
path_is ends n e h = let z : 0 + n ≡ n = omega arith in subst (λ m. PathIs (fold grow [] ends) m e) z (grown_at ends [] n e h)

-- the first path is one line
pub path_first : (ends : List PathEnd) (e : PathEnd) → slice_get ends 0 ≡ Some e → slice_get (paths_of ends) 0 ≡ Some (e.line ∷ [])
path_first ends e h = let p = path_is ends 0 e h in by p.front p.many p.here
  where
    by : (front : List (List ℕ)) → length front ≡ 0 → slice_get (paths_of ends) 0 ≡ Some (longer front e.before e.line) → slice_get (paths_of ends) 0 ≡ Some (e.line ∷ [])
    by [] none here = here
    by (x ∷ xs) none here = absurd (omega arith)

-- each other goes on an earlier one
pub path_next : (ends : List PathEnd) (n : ℕ) (e : PathEnd) → e.before < n → slice_get ends n ≡ Some e → slice_get (paths_of ends) n ≡ Some (longer (paths_of ends) e.before e.line)
path_next ends n e less h =
    let p = path_is ends n e h in
    let many = p.many in
    let old = item_at p.front e.before (omega arith) in
    let in_front : get_or p.front e.before [] ≡ old.0 = get_or_from_slice_get p.front e.before old.0 [] old.1 in
    let in_all : get_or (paths_of ends) e.before [] ≡ old.0 = get_or_from_slice_get (paths_of ends) e.before old.0 [] (stays p.front (paths_of ends) p.on e.before old.0 old.1) in
    p.here ∙ ap (λ l. Some (l ++ e.line ∷ [])) (in_front ∙ sym in_all)

-- ---- an end more

pub ends_one : (e : PathEnd) → e.before ≡ 0 → AreEnds (e ∷ [])
ends_one e first = (omega arith, each)
  where
    each : (n : ℕ) (x : PathEnd) → slice_get (e ∷ []) n ≡ Some x → x.before ≡ 0 ⊎ x.before < n
    each zero x h = let same : e ≡ x = same_some h in inl (sym (ap (λ (y : PathEnd). y.before) same) ∙ first)
    each (suc n) x h = not_both h refl

pub ends_more : (ends : List PathEnd) (e : PathEnd) → AreEnds ends → e.before < length (paths_of ends) → AreEnds (ends ++ e ∷ [])
ends_more ends e k less = (
  let some = k.0 in let more = length-append ends (e ∷ []) in omega arith,
  λ n x h. elim (in_last ends e n x h) [
    | inl old ↦ k.1 n x old.1
    | inr new ↦
        let many = paths_many ends in
        let at = new.0 in
        let same : x.before ≡ e.before = ap (λ (y : PathEnd). y.before) new.1 in
        inr (omega arith)
  ],
)

-- ---- a path is read from its end

-- the lines so far, the last first, of path n from where the reading is
pub record IsReading (ends : List PathEnd) (n at : ℕ) (lines : List ℕ) : Type 0 where
  pub within : at < length ends
  pub so_far : get_or (paths_of ends) n [] ≡ get_or (paths_of ends) at [] ++ reverse lines

pub reads : (ends : List PathEnd) (n : ℕ) → n < length ends → IsReading ends n n []
reads ends n h = record { within = h; so_far = no_more (get_or (paths_of ends) n []) }
  where
    no_more : (xs : List ℕ) → xs ≡ xs ++ []
    no_more [] = refl
    no_more (x ∷ xs) = ap (λ l. x ∷ l) (no_more xs)

append_twice : (xs ys zs : List ℕ) → (xs ++ ys) ++ zs ≡ xs ++ (ys ++ zs)
append_twice [] ys zs = refl
append_twice (x ∷ xs) ys zs = rw (append_twice xs ys zs) refl

turned : (line : ℕ) (lines : List ℕ) → reverse (lines ++ line ∷ []) ≡ line ∷ reverse lines
turned line lines = reverse-append lines (line ∷ [])

pub reads_on : (ends : List PathEnd) (n at : ℕ) (e : PathEnd) (lines : List ℕ) → AreEnds ends → IsReading ends n at lines → 0 < at → slice_get ends at ≡ Some e → IsReading ends n e.before (lines ++ e.line ∷ [])
reads_on ends n at e lines k r some here =
    let less : e.before < at = by (k.1 at e here) in
    let path : get_or (paths_of ends) at [] ≡ longer (paths_of ends) e.before e.line = get_or_from_slice_get (paths_of ends) at (longer (paths_of ends) e.before e.line) [] (path_next ends at e less here) in
    record {
      within = let w = r.within in omega arith;
      so_far = r.so_far ∙ ap (λ l. l ++ reverse lines) path ∙ append_twice (get_or (paths_of ends) e.before []) (e.line ∷ []) (reverse lines) ∙ ap (λ l. get_or (paths_of ends) e.before [] ++ l) (sym (turned e.line lines));
    }
  where
    by : e.before ≡ 0 ⊎ e.before < at → e.before < at
    by (inl z) = omega arith
    by (inr l) = l

pub reads_all : (ends : List PathEnd) (n : ℕ) (e : PathEnd) (lines : List ℕ) → n < length ends → IsReading ends n 0 lines → slice_get ends 0 ≡ Some e → slice_get (paths_of ends) n ≡ Some (reverse (lines ++ e.line ∷ []))
reads_all ends n e lines within r here =
    let first : get_or (paths_of ends) 0 [] ≡ e.line ∷ [] = get_or_from_slice_get (paths_of ends) 0 (e.line ∷ []) [] (path_first ends e here) in
    let many = paths_many ends in
    let there = item_at (paths_of ends) n (omega arith) in
    let is : get_or (paths_of ends) n [] ≡ there.0 = get_or_from_slice_get (paths_of ends) n there.0 [] there.1 in
    there.1 ∙ ap Some (sym is ∙ r.so_far ∙ ap (λ l. l ++ reverse lines) first ∙ sym (turned e.line lines))

pub before_less : (ends : List PathEnd) (at : ℕ) (e : PathEnd) → AreEnds ends → 0 < at → slice_get ends at ≡ Some e → e.before < at
before_less ends at e k some here = by (k.1 at e here)
  where
    by : e.before ≡ 0 ⊎ e.before < at → e.before < at
    by (inl z) = omega arith
    by (inr l) = l
