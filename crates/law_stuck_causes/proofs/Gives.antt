-- What a search for the first cause gives: one of those that it looks at, and each of these is so.
use Rattle.std.proofs.Common.{if◌then◌else◌, ◌≡◌, ◌⊎◌, inl, inr, ℕ, ◌==◌, Bool, true, false, nat_le, List, [], ◌∷◌, ◌++◌, Option, Some, None, filter, fold, refl, sym, ap, ◌∙◌}
use Rattle.std.specs.Prelude.{⊤, option_map}
use Rattle.std.specs.List.{flat_map, list_all, list_any}
use Rattle.std.proofs.lemmas.Option.{same_Some}
use Rattle.wdf_base.specs.declared.plan.Plan.{Plan}
use Rattle.wdf_base.specs.declared.wait.Cause.{Cause}
use Rattle.wdf_base.specs.declared.wait.Cause.TheVariants as cause
use Rattle.wdf_model.specs.Ids.{frame_id}
use Rattle.wdf_model.specs.Tables.{contains, least, lesser}
use Rattle.wdf_model.specs.State.{State, handle_in}
use Rattle.wdf_model.specs.rules.Waits.{by_frame, by_request, cause_if, first_cause}
use Rattle.wdf_model.proofs.Tests.{first, itself, second}
use Rattle.law_stuck_causes.proofs.Members.{Each, Has}

-- what is found is so
abbrev pub Gives : (Cause → Bool) → Option Cause → Type 0
Gives so o = (x : Cause) → o ≡ Some x → so x ≡ true

pub gives_none : (so : Cause → Bool) → Gives so None
gives_none so x h = absurd (let z : ⊥ = cc in z)

pub gives_first : (so : Cause → Bool) (os : List (Option Cause)) → Each (Gives so) os → Gives so (first_cause os)
gives_first so [] e = gives_none so
gives_first so (None ∷ os) e = gives_first so os e.1
gives_first so (Some c ∷ os) e = e.0

pub gives_if : (so : Cause → Bool) (b : Bool) (c : Cause) → (b ≡ true → so c ≡ true) → Gives so (cause_if b c)
gives_if so true c h x e = ap so (sym (same_Some c x e)) ∙ h refl
gives_if so false c h x e = absurd (let z : ⊥ = cc in z)

pub gives_map : (so : Cause → Bool) (g : ℕ → Cause) (o : Option ℕ) → ((n : ℕ) → o ≡ Some n → so (g n) ≡ true) → Gives so (option_map g o)
gives_map so g None h x e = absurd (let z : ⊥ = cc in z)
gives_map so g (Some n) h x e = ap so (sym (same_Some (g n) x e)) ∙ h n refl

-- ---- the least of a list is in it

lesser_by : (m n x : ℕ) (ns : List ℕ) (b : Bool) → nat_le m n ≡ b → (Some x ≡ lesser (Some m) n) → (x ≡ m) ⊎ (x ≡ n)
lesser_by m n x ns true e h = inl (same_Some x m (rw e at h))
lesser_by m n x ns false e h = inr (same_Some x n (rw e at h))

found_in : (ns : List ℕ) (m : Option ℕ) (x : ℕ) → fold lesser m ns ≡ Some x → (m ≡ Some x) ⊎ Has x ns
found_in [] m x h = inl h
found_in (n ∷ ns) None x h = elim (found_in ns (Some n) x h) [
  | inl e ↦ inr (inl (same_Some x n (sym e)))
  | inr k ↦ inr (inr k)
]
found_in (n ∷ ns) (Some m) x h = elim (found_in ns (lesser (Some m) n) x h) [
  | inl e ↦ elim (lesser_by m n x ns (nat_le m n) refl (sym e)) [
    | inl s ↦ inl (ap Some (sym s))
    | inr s ↦ inr (inl s)
  ]
  | inr k ↦ inr (inr k)
]

nothing_first : (x : ℕ) → None ≡ Some x → ⊥
nothing_first x h = let z : ⊥ = cc in z

pub least_has : (ns : List ℕ) (x : ℕ) → least ns ≡ Some x → Has x ns
least_has ns x h = elim (found_in ns None x h) [
  | inl e ↦ absurd (nothing_first x e)
  | inr k ↦ k
]

pub gives_frame : (so : Cause → Bool) (fs : List ℕ) → ((f : ℕ) → Has f fs → so (cause.ByFrame (frame_id f)) ≡ true) → Gives so (by_frame fs)
gives_frame so fs h = gives_map so (λ f. cause.ByFrame (frame_id f)) (least fs) (λ f e. h f (least_has fs f e))

pub gives_request : {A : Type 0} (so : Cause → Bool) (plan : Plan) (S : State A) (rs : List ℕ) → ((r : ℕ) → Has r rs → so (cause.ByRequest (handle_in plan S r)) ≡ true) → Gives so (by_request plan S rs)
gives_request so plan S rs h = gives_map so (λ r. cause.ByRequest (handle_in plan S r)) (least rs) (λ r e. h r (least_has rs r e))

-- ---- what is in a list that was kept, put together or gathered

kept_by : {T : Type 0} (p : T → Bool) (x y : T) (ys : List T) (b : Bool) → p y ≡ b → Has x (if b then y ∷ filter p ys else filter p ys) → (Has x (filter p ys) → (p x ≡ true) × Has x ys) → (p x ≡ true) × Has x (y ∷ ys)
kept_by p x y ys true e (inl s) rest = (ap p s ∙ e, inl s)
kept_by p x y ys true e (inr k) rest = ((rest k).0, inr (rest k).1)
kept_by p x y ys false e h rest = ((rest h).0, inr (rest h).1)

pub has_kept : {T : Type 0} (p : T → Bool) (x : T) (xs : List T) → Has x (filter p xs) → (p x ≡ true) × Has x xs
has_kept p x [] h = absurd h
has_kept p x (y ∷ ys) h = kept_by p x y ys (p y) refl h (has_kept p x ys)

pub has_either : {T : Type 0} (x : T) (xs ys : List T) → Has x (xs ++ ys) → Has x xs ⊎ Has x ys
has_either x [] ys h = inr h
has_either x (z ∷ zs) ys (inl e) = inl (inl e)
has_either x (z ∷ zs) ys (inr h) = elim (has_either x zs ys h) [
  | inl k ↦ inl (inr k)
  | inr k ↦ inr k
]

-- a place from which something was gathered
pub record Gathered {T U : Type 0} (f : T → List U) (y : U) (xs : List T) : Type 0 where
  pub from : T
  pub there : Has from xs
  pub gives : Has y (f from)

pub has_gathered : {T U : Type 0} (f : T → List U) (y : U) (xs : List T) → Has y (flat_map f xs) → Gathered f y xs
has_gathered f y [] h = absurd h
has_gathered f y (x ∷ xs) h = elim (has_either y (f x) (flat_map f xs) h) [
  | inl k ↦ record { from = x; there = inl refl; gives = k }
  | inr k ↦ let rest = has_gathered f y xs k in record { from = rest.from; there = inr rest.there; gives = rest.gives }
]

-- ---- tests

pub it_contains : (x : ℕ) (xs : List ℕ) → Has x xs → contains x xs ≡ true
it_contains x [] h = absurd h
it_contains x (y ∷ ys) (inl e) = first (y == x) (contains x ys) (rw e (itself y))
it_contains x (y ∷ ys) (inr h) = second (y == x) (contains x ys) (it_contains x ys h)

pub any_has : {T : Type 0} (p : T → Bool) (x : T) (xs : List T) → Has x xs → p x ≡ true → list_any p xs ≡ true
any_has p x [] h k = absurd h
any_has p x (y ∷ ys) (inl e) k = first (p y) (list_any p ys) (ap p (sym e) ∙ k)
any_has p x (y ∷ ys) (inr h) k = second (p y) (list_any p ys) (any_has p x ys h k)

pub all_alike : {T : Type 0} (p q : T → Bool) → ((x : T) → p x ≡ q x) → (xs : List T) → list_all p xs ≡ list_all q xs
all_alike p q h [] = refl
all_alike p q h (x ∷ xs) = rw (h x, all_alike p q h xs) refl

pub any_alike : {T : Type 0} (p q : T → Bool) → ((x : T) → p x ≡ q x) → (xs : List T) → list_any p xs ≡ list_any q xs
any_alike p q h [] = refl
any_alike p q h (x ∷ xs) = rw (h x, any_alike p q h xs) refl

-- ---- lists of lines

pub each_behind : {T : Type 0} (P : T → Type 0) (xs ys : List T) → Each P xs → Each P ys → Each P (xs ++ ys)
each_behind P [] ys h k = k
each_behind P (x ∷ xs) ys h k = (h.0, each_behind P xs ys h.1 k)

abbrev pub IfThere : {U : Type 0} → (U → Type 0) → Option U → Type 0
IfThere P None = ⊤
IfThere P (Some y) = P y
