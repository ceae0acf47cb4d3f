-- What is gathered of the items of a list, and what each item gives.
use Rattle.std.proofs.Common.{◌≡◌, ℕ, zero, suc, ◌+◌, ◌<◌, Bool, true, false, not, cond, ◌||◌, List, [], ◌∷◌, length, Option, Some, None, slice_get, refl, sym, subst, ◌∙◌, arith}
use Rattle.std.proofs.Math.Bool.{or-true}
use Rattle.std.proofs.lemmas.Bool.{lt-ltb}
use Rattle.std.specs.Prelude.{position}
use Rattle.std.specs.Option.{is_some}
use Rattle.std.specs.List.{filter_map, cons_option, list_any, prefix_len}
use Rattle.wdf_refusals.proofs.Every.{Every}

-- one option has one value
pub one_value : {T : Type 0} (o : Option T) (x y : T) → o ≡ Some x → o ≡ Some y → x ≡ y
one_value o x y e f =
    let both : Some x ≡ Some y = sym e ∙ f in
    let same : x ≡ y = cc in
    same

from_step : {T : Type 0} (R : T → Type 0) (o : Option T) (ts : List T) → Every R (cons_option o ts) → ((t : T) → o ≡ Some t → R t) × Every R ts
from_step R None ts h = (λ t e. absurd (let z : ⊥ = cc in z), h)
from_step R (Some x) ts h = (λ t e. let same : x ≡ t = cc in subst R same h.0, h.1)

-- what holds of all that is gathered holds of what each item gives
pub every_from : {P T : Type 0} (f : P → Option T) (R : T → Type 0) (ps : List P) → Every R (filter_map f ps) → Every (λ p. (t : T) → f p ≡ Some t → R t) ps
every_from f R [] h = tt
every_from f R (p ∷ ps) h =
    let s = from_step R (f p) (filter_map f ps) h in
    (s.0, every_from f R ps s.1)

any_step : {T : Type 0} (test : T → Bool) (o : Option T) (ts : List T) → list_any test ts ≡ true → list_any test (cons_option o ts) ≡ true
any_step test None ts h = h
any_step test (Some x) ts h = rw h (or-true (test x))

any_here : {T : Type 0} (test : T → Bool) (o : Option T) (t : T) (ts : List T) → o ≡ Some t → test t ≡ true → list_any test (cons_option o ts) ≡ true
any_here test o t ts e h = rw (e, h) refl

-- what one item gives is among what is gathered
pub any_from : {P T : Type 0} (f : P → Option T) (test : T → Bool) (ps : List P) (k : ℕ) (p : P) (t : T) → slice_get ps k ≡ Some p → f p ≡ Some t → test t ≡ true → list_any test (filter_map f ps) ≡ true
any_from f test [] k p t e g h = absurd (let z : ⊥ = cc in z)
any_from f test (q ∷ ps) zero p t e g h =
    let same : p ≡ q = cc in
    any_here test (f q) t (filter_map f ps) (rw same at g) h
any_from f test (q ∷ ps) (suc k) p t e g h =
    any_step test (f q) (filter_map f ps) (any_from f test ps k p t e g h)

prefix_step : (b : Bool) (n m : ℕ) (rest : Bool) → (rest ≡ true → n < m) → (b || rest) ≡ true → cond (not b) (1 + n) 0 < suc m
prefix_step true n m rest f h = omega arith
prefix_step false n m rest f h = let less : n < m = f h in omega arith

prefix_less : {T : Type 0} (test : T → Bool) (xs : List T) → list_any test xs ≡ true → prefix_len (λ x. not (test x)) xs < length xs
prefix_less test [] h = absurd (let z : ⊥ = cc in z)
prefix_less test (x ∷ xs) h =
    prefix_step (test x) (prefix_len (λ y. not (test y)) xs) (length xs) (list_any test xs) (prefix_less test xs) h

-- where some item passes, the first that does has a place
pub place_there : {T : Type 0} (test : T → Bool) (xs : List T) → list_any test xs ≡ true → is_some (position test xs) ≡ true
place_there test xs h = rw (lt-ltb _ _ (prefix_less test xs h)) refl

-- an item that passes, with what holds of each item
pub record HasItem {T : Type 0} (R : T → Type 0) (test : T → Bool) : Type 0 where
  pub item : T
  pub has : R item
  pub passes : test item ≡ true

item_step : {T : Type 0} (R : T → Type 0) (test : T → Bool) (x : T) (rest b : Bool) → R x → (rest ≡ true → HasItem R test) → test x ≡ b → (b || rest) ≡ true → HasItem R test
item_step R test x rest true r later e h = record { item = x; has = r; passes = e }
item_step R test x rest false r later e h = later h

-- where some item passes, one that does
pub any_item : {T : Type 0} (R : T → Type 0) (test : T → Bool) (xs : List T) → Every R xs → list_any test xs ≡ true → HasItem R test
any_item R test [] each h = absurd (let z : ⊥ = cc in z)
any_item R test (x ∷ xs) each h =
    item_step R test x (list_any test xs) (test x) each.0 (any_item R test xs each.1) refl h
