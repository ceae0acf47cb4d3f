-- What holds of each item of a list, and lists that are made of lists.
use Rattle.std.proofs.Common.{◌≡◌, ℕ, zero, suc, Bool, true, false, cond, List, [], ◌∷◌, map, length, find, slice_get, Option, Some, None, refl, ap, subst, ◌∙◌, ◌++◌, ◌+◌, drop, arith}
use Rattle.std.specs.Prelude.{option_and_then, option_map}
use Rattle.std.specs.Option.{option_or, is_some}
use Rattle.std.specs.List.{filter_map, cons_option, list_all, list_any}
use Rattle.wdf_refusals.specs.First.{first_some}
pub use Rattle.wdf_refusals.specs.Numbered.{Every}

first_step : {T : Type 0} (a b : Option T) → option_or a b ≡ None → (a ≡ None) × (b ≡ None)
first_step None b e = (refl, e)
first_step (Some x) b e = absurd (let z : ⊥ = cc in z)

-- where nothing is found, no item gives anything
pub none_each : {P T : Type 0} (f : P → Option T) (xs : List P) → first_some f xs ≡ None → Every (λ x. f x ≡ None) xs
none_each f [] e = tt
none_each f (x ∷ xs) e =
    let h = first_step (f x) (first_some f xs) e in
    (h.0, none_each f xs h.1)

find_step : {T : Type 0} (b : Bool) (x : T) (o : Option T) → cond b (Some x) o ≡ None → (b ≡ false) × (o ≡ None)
find_step true x o e = absurd (let z : ⊥ = cc in z)
find_step false x o e = (refl, e)

-- no item passes
pub find_none : {T : Type 0} (p : T → Bool) (xs : List T) → find p xs ≡ None → Every (λ x. p x ≡ false) xs
find_none p [] e = tt
find_none p (x ∷ xs) e = let h = find_step (p x) x (find p xs) e in (h.0, find_none p xs h.1)

-- what an item has, it has by any name
pub some_has : {T : Type 0} (P : T → Type 0) (a b : T) → Some a ≡ Some b → P a → P b
some_has P a b e h = let same : a ≡ b = cc in subst P same h

-- what holds of each item of two lists
pub every_append : {T : Type 0} (P : T → Type 0) (xs ys : List T) → Every P xs → Every P ys → Every P (xs ++ ys)
every_append P [] ys h g = g
every_append P (x ∷ xs) ys h g = (h.0, every_append P xs ys h.1 g)

-- what holds of anything
pub every_any : {T : Type 0} (P : T → Type 0) → ((x : T) → P x) → (xs : List T) → Every P xs
every_any P f [] = tt
every_any P f (x ∷ xs) = (f x, every_any P f xs)

-- what follows of each item
pub every_map : {T : Type 0} (P Q : T → Type 0) → ((x : T) → P x → Q x) → (xs : List T) → Every P xs → Every Q xs
every_map P Q f [] h = tt
every_map P Q f (x ∷ xs) h = (f x h.0, every_map P Q f xs h.1)

-- each item passes a test
pub every_all : {T : Type 0} (p : T → Bool) (xs : List T) → Every (λ x. p x ≡ true) xs → list_all p xs ≡ true
every_all p [] h = refl
every_all p (x ∷ xs) h = rw (h.0, every_all p xs h.1) refl

-- no item passes
pub any_none : {T : Type 0} (test : T → Bool) (ts : List T) → Every (λ t. test t ≡ false) ts → list_any test ts ≡ false
any_none test [] h = refl
any_none test (t ∷ ts) h = rw (h.0, any_none test ts h.1) refl

kept : {T : Type 0} (R : T → Type 0) (o : Option T) (ts : List T) → ((t : T) → o ≡ Some t → R t) → Every R ts → Every R (cons_option o ts)
kept R None ts f h = h
kept R (Some t) ts f h = (f t refl, h)

-- what is gathered of items with a property
pub every_kept : {P T : Type 0} (f : P → Option T) (Q : P → Type 0) (R : T → Type 0) → ((p : P) (t : T) → Q p → f p ≡ Some t → R t) → (ps : List P) → Every Q ps → Every R (filter_map f ps)
every_kept f Q R g [] h = tt
every_kept f Q R g (p ∷ ps) h =
    kept R (f p) (filter_map f ps) (λ t e. g p t h.0 e) (every_kept f Q R g ps h.1)

-- it passes a test where what each item gives does
pub all_kept : {P T : Type 0} (f : P → Option T) (Q : P → Type 0) (test : T → Bool) → ((p : P) (t : T) → Q p → f p ≡ Some t → test t ≡ true) → (ps : List P) → Every Q ps → list_all test (filter_map f ps) ≡ true
all_kept f Q test g ps h =
    every_all test (filter_map f ps) (every_kept f Q (λ t. test t ≡ true) g ps h)

compose_step : {T U : Type 0} (g : T → Option U) (o : Option T) (ts : List T) → filter_map g (cons_option o ts) ≡ cons_option (option_and_then g o) (filter_map g ts)
compose_step g None ts = refl
compose_step g (Some t) ts = refl

-- what is gathered of what is gathered
pub composed : {P T U : Type 0} (f : P → Option T) (g : T → Option U) (h : P → Option U) → ((p : P) → option_and_then g (f p) ≡ h p) → (ps : List P) → filter_map g (filter_map f ps) ≡ filter_map h ps
composed f g h e [] = refl
composed f g h e (p ∷ ps) =
    compose_step g (f p) (filter_map f ps) ∙ rw (e p, composed f g h e ps) refl

map_step : {T U : Type 0} (g : T → U) (o : Option T) (ts : List T) → map g (cons_option o ts) ≡ cons_option (option_map g o) (map g ts)
map_step g None ts = refl
map_step g (Some t) ts = refl

-- what is made of what is gathered
pub mapped : {P T U : Type 0} (f : P → Option T) (g : T → U) (h : P → Option U) → ((p : P) → option_map g (f p) ≡ h p) → (ps : List P) → map g (filter_map f ps) ≡ filter_map h ps
mapped f g h e [] = refl
mapped f g h e (p ∷ ps) = map_step g (f p) (filter_map f ps) ∙ rw (e p, mapped f g h e ps) refl

length_step : {T U : Type 0} (a : Option T) (b : Option U) (ts : List T) (us : List U) → is_some a ≡ is_some b → length ts ≡ length us → length (cons_option a ts) ≡ length (cons_option b us)
length_step None None ts us e f = f
length_step (Some t) (Some u) ts us e f = ap suc f
length_step None (Some u) ts us e f = absurd (let z : ⊥ = cc in z)
length_step (Some t) None ts us e f = absurd (let z : ⊥ = cc in z)

-- two lists with items of the same lines are of one length
pub same_length : {P T U : Type 0} (f : P → Option T) (g : P → Option U) → ((p : P) → is_some (f p) ≡ is_some (g p)) → (ps : List P) → length (filter_map f ps) ≡ length (filter_map g ps)
same_length f g e [] = refl
same_length f g e (p ∷ ps) =
    length_step (f p) (g p) (filter_map f ps) (filter_map g ps) (e p) (same_length f g e ps)

-- what holds of each item holds of the one at a place
pub every_at : {T : Type 0} (P : T → Type 0) (xs : List T) → Every P xs → (k : ℕ) (x : T) → slice_get xs k ≡ Some x → P x
every_at P [] h k x e = absurd (let z : ⊥ = cc in z)
every_at P (y ∷ ys) h zero x e = let same : y ≡ x = cc in rw (← same) h.0
every_at P (y ∷ ys) h (suc k) x e = every_at P ys h.1 k x e

-- two things that hold of each item
pub every_both : {T : Type 0} (P Q : T → Type 0) (xs : List T) → Every P xs → Every Q xs → Every (λ x. P x × Q x) xs
every_both P Q [] h g = tt
every_both P Q (x ∷ xs) h g = ((h.0, g.0), every_both P Q xs h.1 g.1)

-- ---- places

-- what is at place n after the first j
pub drop_get : {T : Type 0} (xs : List T) (j n m : ℕ) (x : T) → m ≡ j + n → slice_get xs m ≡ Some x → slice_get (drop j xs) n ≡ Some x
drop_get [] j n m x i e = absurd (let z : ⊥ = cc in z)
drop_get (y ∷ ys) zero n m x i e =
    let same : m ≡ n = omega arith in
    rw (← same) e
drop_get (y ∷ ys) (suc j) n zero x i e = absurd (omega arith)
drop_get (y ∷ ys) (suc j) n (suc m) x i e = drop_get ys j n m x (omega arith) e

-- each item has the property with its place, the first of which is k
abbrev pub EveryAt : {T : Type 0} → (ℕ → T → Type 0) → ℕ → List T → Type 0
EveryAt P k [] = Unit {0}
EveryAt P k (x ∷ xs) = P k x × EveryAt P (suc k) xs

pub every_at_map : {T : Type 0} (P Q : ℕ → T → Type 0) → ((k : ℕ) (x : T) → P k x → Q k x) → (k : ℕ) (xs : List T) → EveryAt P k xs → EveryAt Q k xs
every_at_map P Q f k [] h = tt
every_at_map P Q f k (x ∷ xs) h = (f k x h.0, every_at_map P Q f (suc k) xs h.1)

-- the place of an item after the first k, with what holds of it there
pub record HasPlace {T : Type 0} (P : ℕ → T → Type 0) (k : ℕ) (xs : List T) (x : T) : Type 0 where
  pub place : ℕ
  pub is : slice_get xs place ≡ Some x
  pub has : P (k + place) x

pub have_places : {T : Type 0} (P : ℕ → T → Type 0) (k : ℕ) (xs : List T) → EveryAt P k xs → Every (HasPlace P k xs) xs
have_places P k [] h = tt
have_places P k (x ∷ xs) h = (
  record { place = 0; is = refl; has = let here : k ≡ k + 0 = omega arith in subst (λ n. P n x) here h.0 },
  every_map (HasPlace P (suc k) xs) (HasPlace P k (x ∷ xs)) (λ y g. record {
    place = suc g.place;
    is = g.is;
    has = let later : suc k + g.place ≡ k + suc g.place = omega arith in subst (λ n. P n y) later g.has;
  }) xs (have_places P (suc k) xs h.1),
)
