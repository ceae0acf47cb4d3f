-- Lemmas on runs, over any machine.
use Rattle.std.proofs.Common.{ℕ, zero, suc, ◌≡◌, ◌+◌, ◌<◌, ◌≤◌, List, [], ◌∷◌, ◌++◌, length, take, drop, Option, Some, None, ◌⊎◌, inl, inr, refl, sym, ap, ◌∙◌, subst, arith, length-append, slice_get, slice_index, append_assoc, append-nil}
use Rattle.std.proofs.lemmas.List.{take-append-le}
use Rattle.std.proofs.Math.Seq.{take-append_seam}
use Rattle.std.proofs.lemmas.Option.{slice_get_within}
use Rattle.wdf_model.specs.Runs.{IsRun, IsPickedFrom, Picked, picked_place}

-- what is in a list with one item more: an item of the list, or the new one
pub split_last : {E : Type 0} (xs : List E) (x y : E) (k : ℕ) → slice_get (xs ++ x ∷ []) k ≡ Some y → ((k < length xs) × (slice_get xs k ≡ Some y)) ⊎ ((k ≡ length xs) × (x ≡ y))
split_last [] x y zero h = inr (refl, cc)
split_last [] x y (suc k) h = absurd (let z : ⊥ = cc in z)
split_last (z ∷ xs) x y zero h = inl (omega arith, h)
split_last (z ∷ xs) x y (suc k) h =
    elim (split_last xs x y k h) [
      | inl p ↦ let b : k < length xs = p.0 in inl (omega arith, p.1)
      | inr p ↦ let b : k ≡ length xs = p.0 in inr (omega arith, p.1)
    ]

pub slice_get-take : {E : Type 0} (xs : List E) (n k : ℕ) → k < n → slice_get (take n xs) k ≡ slice_get xs k
slice_get-take xs zero k h = absurd (omega arith)
slice_get-take [] (suc n) k h = refl
slice_get-take (x ∷ xs) (suc n) zero h = refl
slice_get-take (x ∷ xs) (suc n) (suc k) h = slice_get-take xs n k (omega arith)

pub slice_get-take-past : {E : Type 0} (xs : List E) (n k : ℕ) → n ≤ k → slice_get (take n xs) k ≡ None
slice_get-take-past xs zero k h = refl
slice_get-take-past [] (suc n) k h = refl
slice_get-take-past (x ∷ xs) (suc n) zero h = absurd (omega arith)
slice_get-take-past (x ∷ xs) (suc n) (suc k) h = slice_get-take-past xs n k (omega arith)

pub take-take-below : {E : Type 0} (xs : List E) (n k : ℕ) → k ≤ n → take k (take n xs) ≡ take k xs
take-take-below xs n zero h = refl
take-take-below xs zero (suc k) h = absurd (omega arith)
take-take-below [] (suc n) (suc k) h = refl
take-take-below (x ∷ xs) (suc n) (suc k) h = ap (λ rest. x ∷ rest) (take-take-below xs n k (omega arith))

pub slice_get-append-left : {E : Type 0} (xs ys : List E) (k : ℕ) → k < length xs → slice_get (xs ++ ys) k ≡ slice_get xs k
slice_get-append-left [] ys k h = absurd (omega arith)
slice_get-append-left (x ∷ xs) ys zero h = refl
slice_get-append-left (x ∷ xs) ys (suc k) h = slice_get-append-left xs ys k (omega arith)

pub slice_get-append-right : {E : Type 0} (xs ys : List E) (k : ℕ) → slice_get (xs ++ ys) (length xs + k) ≡ slice_get ys k
slice_get-append-right [] ys k = let e : 0 + k ≡ k = omega arith in rw e refl
slice_get-append-right (x ∷ xs) ys k =
    let e : suc (length xs) + k ≡ suc (length xs + k) = omega arith in rw e (slice_get-append-right xs ys k)

pub run_opens : {E : Type 0} (ready : List E → List E) → IsRun ready []
unfolding IsRun
run_opens ready = λ k event h. absurd (let z : ⊥ = cc in z)

pub run_goes_on : {E : Type 0} (ready : List E → List E) (run : List E) (event : E) (place : ℕ)
    → IsRun ready run → slice_get (ready run) place ≡ Some event → IsRun ready (run ++ event ∷ [])
unfolding IsRun
run_goes_on ready run event place is_run here = λ k next h.
    elim (split_last run event next k h) [
      | inl p ↦ rw (take-append-le k run (event ∷ []) (let b : k < length run = p.0 in omega arith)) (is_run k next p.1)
      | inr p ↦ (place, rw (p.0, take-append_seam run (event ∷ []), ← p.1) here)
    ]

-- what is in the first n items
pub in_front : {E : Type 0} (xs : List E) (n k : ℕ) (y : E) → slice_get (take n xs) k ≡ Some y → (k < n) × (slice_get xs k ≡ Some y)
in_front xs zero k y h = absurd (let z : ⊥ = cc in z)
in_front [] (suc n) k y h = absurd (let z : ⊥ = cc in z)
in_front (x ∷ xs) (suc n) zero y h = (omega arith, h)
in_front (x ∷ xs) (suc n) (suc k) y h = let p = in_front xs n k y h in (let b : k < n = p.0 in omega arith, p.1)

-- what is in two lists, one after the other
pub split_front : {E : Type 0} (xs ys : List E) (k : ℕ) (y : E) → slice_get (xs ++ ys) k ≡ Some y
    → ((k < length xs) × (slice_get xs k ≡ Some y)) ⊎ ((j : ℕ) × (k ≡ length xs + j) × (slice_get ys j ≡ Some y))
split_front [] ys k y h = inr (k, omega arith, h)
split_front (x ∷ xs) ys zero y h = inl (omega arith, h)
split_front (x ∷ xs) ys (suc k) y h =
    elim (split_front xs ys k y h) [
      | inl p ↦ let b : k < length xs = p.0 in inl (omega arith, p.1)
      | inr p ↦ let b : k ≡ length xs + p.0 = p.1 in inr (p.0, omega arith, p.2)
    ]

pub run_front : {E : Type 0} (ready : List E → List E) (run : List E) (place : ℕ) → IsRun ready run → IsRun ready (take place run)
unfolding IsRun
run_front ready run place is_run = λ k next h.
    let p = in_front run place k next h in
    rw (take-take-below run place k (let b : k < place = p.0 in omega arith)) (is_run k next p.1)

-- the events before one of a run that begins with start
pub picked_is_run : {E : Type 0} (ready : List E → List E) (picks : List ℕ) (start run : List E)
    → IsRun ready start → Picked ready picks start run → IsRun ready run
unfolding IsRun IsPickedFrom
picked_is_run {E} ready picks start run is_run p = λ k next h.
    let at : slice_get (start ++ p.begins.0) k ≡ Some next = rw (← p.begins.1) h in
    elim (split_front start p.begins.0 k next at) [
      | inl q ↦ rw (p.begins.1, take-append-le k start p.begins.0 (let b : k < length start = q.0 in omega arith)) (is_run k next q.1)
      | inr q ↦
          let here : slice_get run (length start + q.0) ≡ Some next = rw (← q.1) h in
          (picked_place picks q.0 (length (ready (take (length start + q.0) run))), rw q.1 (p.picked q.0 next here))
    ]

later_pick : (picks : List ℕ) (turn : ℕ) → slice_index (drop 1 picks) turn ≡ slice_index picks (suc turn)
later_pick [] turn = refl
later_pick (p ∷ ps) turn = refl

-- one turn later: the events so far are one more, and the first pick is used
pub later_turn : {E : Type 0} (ready : List E → List E) (picks : List ℕ) (start : List E) (event : E) (run : List E)
    → IsPickedFrom ready picks start run → IsPickedFrom ready (drop 1 picks) (start ++ event ∷ []) run
unfolding IsPickedFrom
later_turn ready picks start event run picked = λ turn next h.
    let e : length (start ++ event ∷ []) + turn ≡ length start + suc turn = omega (arith, length-append start (event ∷ [])) in
    let there : slice_get run (length start + suc turn) ≡ Some next = rw (← e) h in
    rw (e, later_pick picks turn) (picked (suc turn) next there)

pub first_turn : {E : Type 0} (ready : List E → List E) (picks : List ℕ) (start : List E) (event : E) (more : List E)
    → IsPickedFrom ready picks start (start ++ event ∷ more)
    → slice_get (ready start) (picked_place picks 0 (length (ready start))) ≡ Some event
unfolding IsPickedFrom
first_turn ready picks start event more picked =
    let e : length start + 0 ≡ length start = omega arith in
    let here : slice_get (start ++ event ∷ more) (length start + 0) ≡ Some event = slice_get-append-right start (event ∷ more) 0 in
    let front : take (length start + 0) (start ++ event ∷ more) ≡ start = rw e (take-append_seam start (event ∷ more)) in
    rw front at (picked 0 event here)

-- where nothing may follow, no event is picked
ended : {E : Type 0} (ready : List E → List E) (picks : List ℕ) (start : List E) (event : E) (more : List E)
    → ready (start ++ []) ≡ [] → IsPickedFrom ready picks start (start ++ event ∷ more) → ⊥
ended ready picks start event more ends picked =
    let all : ready start ≡ [] = rw (append-nil start) at ends in
    let here : slice_get (ready start) (picked_place picks 0 (length (ready start))) ≡ Some event = first_turn ready picks start event more picked in
    let nowhere : slice_get [] (picked_place picks 0 (length (ready start))) ≡ Some event = subst (λ events. slice_get events (picked_place picks 0 (length (ready start))) ≡ Some event) all here in
    let z : ⊥ = cc in z

-- the picks determine what follows
pub picked_rest : {E : Type 0} (ready : List E → List E) (one other : List E) (picks : List ℕ) (start : List E)
    → IsPickedFrom ready picks start (start ++ one) → ready (start ++ one) ≡ []
    → IsPickedFrom ready picks start (start ++ other) → ready (start ++ other) ≡ []
    → one ≡ other
picked_rest ready [] [] picks start p e q f = refl
picked_rest ready [] (y ∷ ys) picks start p e q f = absurd (ended ready picks start y ys e q)
picked_rest ready (x ∷ xs) [] picks start p e q f = absurd (ended ready picks start x xs f p)
picked_rest ready (x ∷ xs) (y ∷ ys) picks start p e q f =
    let one : slice_get (ready start) (picked_place picks 0 (length (ready start))) ≡ Some x = first_turn ready picks start x xs p in
    let other : slice_get (ready start) (picked_place picks 0 (length (ready start))) ≡ Some y = first_turn ready picks start y ys q in
    let same : x ≡ y = cc in
    let rest : xs ≡ ys =
    picked_rest ready xs ys (drop 1 picks) (start ++ x ∷ [])
    (rw append_assoc (later_turn ready picks start x (start ++ x ∷ xs) p))
    (rw append_assoc e)
    (rw (append_assoc, same) (rw same at (later_turn ready picks start x (start ++ y ∷ ys) q)))
    (rw (append_assoc, same) f)
    in cc

pub picked_once : {E : Type 0} (ready : List E → List E) (picks : List ℕ) (start one other : List E)
    → Picked ready picks start one → Picked ready picks start other → one ≡ other
picked_once ready picks start one other p q =
    let same : p.begins.0 ≡ q.begins.0 =
    picked_rest ready p.begins.0 q.begins.0 picks start
    (rw (← p.begins.1) p.picked) (rw (← p.begins.1) p.ends)
    (rw (← q.begins.1) q.picked) (rw (← q.begins.1) q.ends)
    in p.begins.1 ∙ ap (λ more. start ++ more) same ∙ sym q.begins.1

-- nothing has been picked yet
pub picked_opens : {E : Type 0} (ready : List E → List E) (picks : List ℕ) (start : List E) → IsPickedFrom ready picks start start
unfolding IsPickedFrom
picked_opens ready picks start = λ turn next h.
    let within : length start + turn < length start = slice_get_within start (length start + turn) next h in
    absurd (omega arith)

-- what was picked so far goes on by the event that is picked next
pub picked_goes_on : {E : Type 0} (ready : List E → List E) (picks : List ℕ) (start run : List E) (event : E) (turn : ℕ)
    → length run ≡ length start + turn → IsPickedFrom ready picks start run
    → slice_get (ready run) (picked_place picks turn (length (ready run))) ≡ Some event
    → IsPickedFrom ready picks start (run ++ event ∷ [])
unfolding IsPickedFrom
picked_goes_on ready picks start run event turn long picked here = λ t next h.
    elim (split_last run event next (length start + t) h) [
      | inl p ↦ rw (take-append-le (length start + t) run (event ∷ []) (let b : length start + t < length run = p.0 in omega arith)) (picked t next p.1)
      | inr p ↦
          let same : t ≡ turn = let b : length start + t ≡ length run = p.0 in omega arith in
          rw (p.0, take-append_seam run (event ∷ []), same, ← p.1) here
    ]

-- the first n events and the next one
pub take_next : {E : Type 0} (xs : List E) (n : ℕ) (x : E) → slice_get xs n ≡ Some x → take (suc n) xs ≡ take n xs ++ x ∷ []
take_next [] n x h = absurd (let z : ⊥ = cc in z)
take_next (y ∷ ys) zero x h = let same : y ≡ x = cc in rw same refl
take_next (y ∷ ys) (suc n) x h = ap (λ rest. y ∷ rest) (take_next ys n x h)

-- where the list has no item at n, one item more is none
pub take_ended : {E : Type 0} (xs : List E) (n : ℕ) → slice_get xs n ≡ None → take (suc n) xs ≡ take n xs
take_ended [] zero h = refl
take_ended [] (suc n) h = refl
take_ended (y ∷ ys) zero h = absurd (let z : ⊥ = cc in z)
take_ended (y ∷ ys) (suc n) h = ap (λ rest. y ∷ rest) (take_ended ys n h)

-- What holds before place n of a run, and is kept by each event that may follow, holds after it.
along_next : {E : Type 0} (P : List E → Type 0) (ready : List E → List E) (run : List E)
    → ((before : List E) (event : E) (place : ℕ) → IsRun ready before → P before → slice_get (ready before) place ≡ Some event → P (before ++ event ∷ []))
    → IsRun ready run → (n : ℕ) → P (take n run) → (found : Option E) → slice_get run n ≡ found → P (take (suc n) run)
unfolding IsRun
along_next P ready run keeps is_run n held None h = rw (take_ended run n h) held
along_next P ready run keeps is_run n held (Some event) h =
    let there : (place : ℕ) × (slice_get (ready (take n run)) place ≡ Some event) = is_run n event h in
    rw (take_next run n event h) (keeps (take n run) event there.0 (run_front ready run n is_run) held there.1)

-- What holds at the opening, and is kept by each event that may follow, holds at each place of a run.
pub along_run : {E : Type 0} (P : List E → Type 0) (ready : List E → List E) (run : List E)
    → P []
    → ((before : List E) (event : E) (place : ℕ) → IsRun ready before → P before → slice_get (ready before) place ≡ Some event → P (before ++ event ∷ []))
    → IsRun ready run → (n : ℕ) → P (take n run)
along_run P ready run opens keeps is_run zero = opens
along_run P ready run opens keeps is_run (suc n) =
    along_next P ready run keeps is_run n (along_run P ready run opens keeps is_run n) (slice_get run n) refl
