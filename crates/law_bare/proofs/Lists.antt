-- Searches in a list whose items are changed in what the test doesn't see.
use Rattle.std.proofs.Common.{◌≡◌, ℕ, zero, suc, Bool, true, false, cond, not, List, [], ◌∷◌, map, drop, find, position, take, ◌++◌, Option, Some, None, is_some, option_map, slice_get, refl, ap, ◌∙◌}
use Rattle.std.specs.Prelude.{option_and_then}
use Rattle.std.specs.List.{cons_option, filter_map, flat_map, list_any, prefix_len}
use Rattle.std.proofs.lemmas.List.{length-map}
use Rattle.std.specs.Option.{option_or}

module _ {X : Type 0} (f : X → X) where
  pub drop_map : (n : ℕ) (xs : List X) → drop n (map f xs) ≡ map f (drop n xs)
  drop_map zero xs = refl
  drop_map (suc n) [] = refl
  drop_map (suc n) (x ∷ xs) = drop_map n xs

  pub at_map : {Y : Type 0} (g : X → Y) → ((x : X) → g (f x) ≡ g x) → (xs : List X) (k : ℕ) → option_map g (slice_get (map f xs) k) ≡ option_map g (slice_get xs k)
  at_map g same [] k = refl
  at_map g same (x ∷ xs) zero = ap Some (same x)
  at_map g same (x ∷ xs) (suc k) = at_map g same xs k

  module _ (p : X → Bool) (q : X → Bool) (same : (x : X) → q (f x) ≡ p x) where
    found_by : (x : X) (xs : List X) (b : Bool) → p x ≡ b → find q (map f xs) ≡ option_map f (find p xs) → cond b (Some (f x)) (find q (map f xs)) ≡ option_map f (cond b (Some x) (find p xs))
    found_by x xs true e rest = refl
    found_by x xs false e rest = rest

    pub find_map : (xs : List X) → find q (map f xs) ≡ option_map f (find p xs)
    find_map [] = refl
    find_map (x ∷ xs) = ap (λ b. cond b (Some (f x)) (find q (map f xs))) (same x) ∙ found_by x xs (p x) refl (find_map xs)

    pub any_map : (xs : List X) → list_any q (map f xs) ≡ list_any p xs
    any_map [] = refl
    any_map (x ∷ xs) = rw (same x, any_map xs) refl

    pub prefix_map : (xs : List X) → prefix_len (λ x. not (q x)) (map f xs) ≡ prefix_len (λ x. not (p x)) xs
    prefix_map [] = refl
    prefix_map (x ∷ xs) = rw (same x, prefix_map xs) refl

    pub position_map : (xs : List X) → position q (map f xs) ≡ position p xs
    position_map xs = rw (prefix_map xs, length-map xs f) refl

-- tests that agree find the same
pub find_same : {X : Type 0} (p q : X → Bool) → ((x : X) → p x ≡ q x) → (xs : List X) → find p xs ≡ find q xs
find_same p q same [] = refl
find_same p q same (x ∷ xs) = rw (same x, find_same p q same xs) refl

pub any_same : {X : Type 0} (p q : X → Bool) → ((x : X) → p x ≡ q x) → (xs : List X) → list_any p xs ≡ list_any q xs
any_same p q same [] = refl
any_same p q same (x ∷ xs) = rw (same x, any_same p q same xs) refl

-- ---- options

pub mapped_some : {X Y : Type 0} (f : X → Y) (o : Option X) → is_some (option_map f o) ≡ is_some o
mapped_some f None = refl
mapped_some f (Some x) = refl

-- what is read of an option's item is the same
pub then_same : {X Y : Type 0} (f g : X → Option Y) → ((x : X) → f x ≡ g x) → (o : Option X) → option_and_then f o ≡ option_and_then g o
then_same f g same None = refl
then_same f g same (Some x) = same x

pub then_mapped : {X Y : Type 0} (u : X → X) (f g : X → Option Y) → ((x : X) → f (u x) ≡ g x) → (o : Option X) → option_and_then f (option_map u o) ≡ option_and_then g o
then_mapped u f g same None = refl
then_mapped u f g same (Some x) = same x

pub or_alike : {X Y : Type 0} (a b : Option X) (c d : Option Y) → is_some a ≡ is_some c → is_some b ≡ is_some d → is_some (option_or a b) ≡ is_some (option_or c d)
or_alike None b None d e rest = rest
or_alike None b (Some y) d e rest = absurd (let z : ⊥ = cc in z)
or_alike (Some x) b None d e rest = absurd (let z : ⊥ = cc in z)
or_alike (Some x) b (Some y) d e rest = refl

pub cond_alike : {X : Type 0} (b : Bool) (x y : X) (o : Option X) → is_some (cond b (Some x) o) ≡ is_some (cond b (Some y) o)
cond_alike true x y o = refl
cond_alike false x y o = refl

pub none_by : {X Y : Type 0} (a : Option X) (b : Option Y) → is_some a ≡ is_some b → a ≡ None → b ≡ None
none_by a None e h = refl
none_by None (Some y) e h = absurd (let z : ⊥ = cc in z)
none_by (Some x) (Some y) e h = absurd (let z : ⊥ = cc in z)

-- ---- lists that are made of such items

module _ {X Y : Type 0} (u : X → X) where
  cons_alike : (v : Y → Y) (o : Option Y) (ys : List Y) → cons_option (option_map v o) (map v ys) ≡ map v (cons_option o ys)
  cons_alike v None ys = refl
  cons_alike v (Some y) ys = refl

  -- what is made of each differs by v alone
  pub gathered_alike : (v : Y → Y) (f g : X → Option Y) → ((x : X) → f (u x) ≡ option_map v (g x)) → (xs : List X) → filter_map f (map u xs) ≡ map v (filter_map g xs)
  gathered_alike v f g same [] = refl
  gathered_alike v f g same (x ∷ xs) =
      ap (λ o. cons_option o (filter_map f (map u xs))) (same x) ∙ ap (cons_option (option_map v (g x))) (gathered_alike v f g same xs) ∙ cons_alike v (g x) (filter_map g xs)

  -- what is made of each is the same
  pub gathered_same : (f g : X → Option Y) → ((x : X) → f (u x) ≡ g x) → (xs : List X) → filter_map f (map u xs) ≡ filter_map g xs
  gathered_same f g same [] = refl
  gathered_same f g same (x ∷ xs) = ap (λ o. cons_option o (filter_map f (map u xs))) (same x) ∙ ap (cons_option (g x)) (gathered_same f g same xs)

  pub flat_same : (f g : X → List Y) → ((x : X) → f (u x) ≡ g x) → (xs : List X) → flat_map f (map u xs) ≡ flat_map g xs
  flat_same f g same [] = refl
  flat_same f g same (x ∷ xs) = ap (λ ys. ys ++ flat_map f (map u xs)) (same x) ∙ ap (λ ys. g x ++ ys) (flat_same f g same xs)

  pub mapped_same : (f g : X → Y) → ((x : X) → f (u x) ≡ g x) → (xs : List X) → map f (map u xs) ≡ map g xs
  mapped_same f g same [] = refl
  mapped_same f g same (x ∷ xs) = ap (λ y. y ∷ map f (map u xs)) (same x) ∙ ap (λ ys. g x ∷ ys) (mapped_same f g same xs)

pub map_alike : {X Y : Type 0} (f g : X → Y) → ((x : X) → f x ≡ g x) → (xs : List X) → map f xs ≡ map g xs
map_alike f g same [] = refl
map_alike f g same (x ∷ xs) = ap (λ y. y ∷ map f xs) (same x) ∙ ap (λ ys. g x ∷ ys) (map_alike f g same xs)

pub take_mapped : {X : Type 0} (u : X → X) (n : ℕ) (xs : List X) → take n (map u xs) ≡ map u (take n xs)
take_mapped u zero xs = refl
take_mapped u (suc n) [] = refl
take_mapped u (suc n) (x ∷ xs) = ap (λ ys. u x ∷ ys) (take_mapped u n xs)

pub at_mapped : {X : Type 0} (u : X → X) (xs : List X) (k : ℕ) → slice_get (map u xs) k ≡ option_map u (slice_get xs k)
at_mapped u [] k = refl
at_mapped u (x ∷ xs) zero = refl
at_mapped u (x ∷ xs) (suc k) = at_mapped u xs k
