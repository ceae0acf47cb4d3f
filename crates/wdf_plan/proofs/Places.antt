-- The item of a line is in the list at the place that counts the lines of its sort before it.
use Rattle.std.proofs.Common.{◌≡◌, ℕ, suc, ◌+◌, Bool, true, false, cond, List, [], ◌∷◌, ◌++◌, length, Option, Some, None, find, slice_get, refl, sym, subst, ◌∙◌, arith, append_assoc, length-append}
use Rattle.std.specs.Option.{is_some}
use Rattle.std.specs.List.{filter_map, cons_option}
use Rattle.wdf_scene.specs.declared.line.SceneLine.{SceneLine}
use Rattle.wdf_scene.specs.declared.line.NumberedLine.{NumberedLine}
use Rattle.wdf_blocks.specs.declared.placed.Counts.{Counts}
use Rattle.wdf_blocks.specs.declared.placed.Placed.{Placed}
use Rattle.wdf_blocks.specs.declared.placed.Stand.{Stand}
use Rattle.wdf_blocks.specs.Placed.{one_more, counted, opened_by, placed_line, placed_from}
use Rattle.wdf_refusals.proofs.Every.{Every}

item_after : {X : Type 0} (front : List X) (x : X) (rest : List X) → slice_get (front ++ x ∷ rest) (length front) ≡ Some x
item_after [] x rest = refl
item_after (y ∷ ys) x rest = item_after ys x rest

-- the item after the first k
pub item_there : {X : Type 0} (whole front : List X) (x : X) (rest : List X) (k : ℕ) → whole ≡ front ++ x ∷ rest → length front ≡ k → slice_get whole k ≡ Some x
item_there whole front x rest k is long = rw (is, ← long) (item_after front x rest)

-- the place of a line that passes
abbrev pub place_if : (SceneLine → Bool) → Placed → Option ℕ
place_if is p = cond (is p.form) (Some p.at) None

-- such a line has a place
pub place_tells : (is : SceneLine → Bool) (p : Placed) → is_some (place_if is p) ≡ is p.form
place_tells is p = by_test (is p.form)
  where
    by_test : (b : Bool) → is_some (cond b (Some p.at) None) ≡ b
    by_test true = refl
    by_test false = refl

-- it is its own
pub place_is : (is : SceneLine → Bool) (p : Placed) (n : ℕ) → place_if is p ≡ Some n → n ≡ p.at
place_is is p n e = by_test (is p.form) e
  where
    by_test : (b : Bool) → cond b (Some p.at) None ≡ Some n → n ≡ p.at
    by_test true e = cc
    by_test false e = absurd (let z : ⊥ = cc in z)

-- the front with the item of one line more
abbrev with_item : {X : Type 0} → List X → Option X → List X
with_item front None = front
with_item front (Some x) = front ++ x ∷ []

with_length : {X : Type 0} (front : List X) (o : Option X) (b : Bool) (n m : ℕ) → is_some o ≡ b → length front ≡ n → m ≡ one_more n b → length (with_item front o) ≡ m
with_length front None false n m is e adds = omega arith
with_length front None true n m is e adds = absurd (let z : ⊥ = cc in z)
with_length front (Some x) false n m is e adds = absurd (let z : ⊥ = cc in z)
with_length front (Some x) true n m is e adds =
    let both : length (front ++ x ∷ []) ≡ length front + 1 = length-append front (x ∷ []) in
    omega arith

with_rest : {X : Type 0} (whole front : List X) (o : Option X) (rest : List X) → whole ≡ front ++ cons_option o rest → whole ≡ with_item front o ++ rest
with_rest whole front None rest e = e
with_rest whole front (Some x) rest e = e ∙ sym (append_assoc front (x ∷ []) rest)

at_front : {X : Type 0} (whole front : List X) (o : Option X) (rest : List X) (n : ℕ) → length front ≡ n → whole ≡ front ++ cons_option o rest → (x : X) → o ≡ Some x → slice_get whole n ≡ Some x
at_front whole front None rest n e is x f = absurd (let z : ⊥ = cc in z)
at_front whole front (Some y) rest n e is x f =
    let same : y ≡ x = cc in
    rw (is, ← e, ← same) (item_after front y rest)

-- where the item of each line is in the list
pub indexed : {X : Type 0} (is : SceneLine → Bool) (count : Counts → ℕ) (g : Placed → Option X) → ((c : Counts) (f : SceneLine) (n : ℕ) → count (counted c f n) ≡ one_more (count c) (is f)) → ((p : Placed) → is_some (g p) ≡ is p.form) → (whole front : List X) (k : ℕ) (o : Stand) (c : Counts) (ls : List NumberedLine) → length front ≡ count c → whole ≡ front ++ filter_map g (placed_from k o c ls) → Every (λ p. (x : X) → g p ≡ Some x → slice_get whole (count p.counts) ≡ Some x) (placed_from k o c ls)
unfolding placed_from
indexed is count g adds tells whole front k o c [] long e = tt
indexed is count g adds tells whole front k o c (l ∷ ls) long e =
    let p = placed_line k o c l in
    let rest = filter_map g (placed_from (suc k) (opened_by o k l.form) (counted c l.form (length l.picks)) ls) in
    (at_front whole front (g p) rest (count c) long e, indexed is count g adds tells whole (with_item front (g p)) (suc k) (opened_by o k l.form) (counted c l.form (length l.picks)) ls (with_length front (g p) (is l.form) (count c) (count (counted c l.form (length l.picks))) (tells p) long (adds c l.form (length l.picks))) (with_rest whole front (g p) rest e))

found_step : {T : Type 0} (P : T → Type 0) (test : T → Bool) (y x : T) (o : Option T) → P y → (o ≡ Some x → P x × (test x ≡ true)) → (b : Bool) → test y ≡ b → cond b (Some y) o ≡ Some x → P x × (test x ≡ true)
found_step P test y x o h later true is e =
    let same : y ≡ x = cc in
    (subst P same h, rw (← same) is)
found_step P test y x o h later false is e = later e

-- what is found has the property of each item, and passes
pub found_has : {T : Type 0} (P : T → Type 0) (test : T → Bool) (xs : List T) → Every P xs → (x : T) → find test xs ≡ Some x → P x × (test x ≡ true)
found_has P test [] h x e = absurd (let z : ⊥ = cc in z)
found_has P test (y ∷ ys) h x e =
    found_step P test y x (find test ys) h.0 (found_has P test ys h.1 x) (test y) refl e
