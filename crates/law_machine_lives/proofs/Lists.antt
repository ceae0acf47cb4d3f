-- Ids of a range, filtered and tested; entries that aren't blank.
use Rattle.std.proofs.Common.{if◌then◌else◌, ◌≡◌, ℕ, zero, suc, ◌+◌, ◌<◌, ◌≤◌, Bool, true, false, List, [], ◌∷◌, ◌++◌, inl, inr, length, filter, refl, ap, sym, ◌∙◌, ◌==◌, None, Option, Some, not, slice_get, subst, arith}
use Rattle.std.specs.Prelude.{⊤}
use Rattle.std.specs.List.{list_all, range_with_len}
use Rattle.wdf_model.specs.declared.entries.Node.{Node}
use Rattle.wdf_model.specs.Tables.{entry}
use Rattle.wdf_model.specs.parts.Tree.{Tree, gone, node_of, with_node}
use Rattle.wdf_model.proofs.Maps.{entry_put_other, entry_put_same}
use Rattle.wdf_model.proofs.Tests.{both_left, both_right, not_false}
use Rattle.wdf_model.proofs.Counts.{one_or_two}
use Rattle.wdf_base.specs.declared.event.Step.{Step}
use Rattle.wdf_base.specs.Same.{same_option}
use Rattle.std.proofs.lemmas.Bool.{eqb-true}

-- ---- entries

-- where an entry isn't the blank one, it is there
pub inside : {T : Type 0} (blank : T) (p : T → Bool) (xs : List T) (id : ℕ) → p blank ≡ false → p (entry blank xs id) ≡ true → id < length xs
inside blank p [] id off h = absurd (let z : ⊥ = cc in z)
inside blank p (x ∷ xs) zero off h = omega arith
inside blank p (x ∷ xs) (suc id) off h = let rest : id < length xs = inside blank p xs id off h in omega arith

-- where all pass a test, the one at a place does
pub all_at : {T : Type 0} (p : T → Bool) (xs : List T) (k : ℕ) (x : T) → list_all p xs ≡ true → slice_get xs k ≡ Some x → p x ≡ true
all_at p [] k x h at = absurd (let z : ⊥ = cc in z)
all_at p (y ∷ ys) zero x h at = let same : y ≡ x = cc in subst (λ z. p z ≡ true) same (both_left (p y) (list_all p ys) h)
all_at p (y ∷ ys) (suc k) x h at = all_at p ys k x (both_right (p y) (list_all p ys) h) at

-- what is read of each object where one changes and that stays
pub reads_same : {X : Type 0} (reads : Node → X) (T : Tree) (o : ℕ) (f : Node → Node) → reads (f (node_of T o)) ≡ reads (node_of T o) → (x : ℕ)
    → reads (node_of (with_node T o f) x) ≡ reads (node_of T x)
reads_same reads T o f same x = elim (one_or_two x o) [
  | inl e ↦ rw e (ap reads (entry_put_same gone T.nodes o (f (node_of T o))) ∙ same)
  | inr n ↦ ap reads (entry_put_other gone T.nodes o x (f (node_of T o)) n)
]

-- ---- ids

passes_by : (p q : ℕ → Bool) (y : ℕ) (ys : List ℕ) (b : Bool) → q y ≡ b → list_all p (if b then y ∷ filter q ys else filter q ys) ≡ true → (q y ≡ true → p y ≡ true) × (list_all p (filter q ys) ≡ true)
passes_by p q y ys true e h = (λ _. both_left (p y) (list_all p (filter q ys)) h, both_right (p y) (list_all p (filter q ys)) h)
passes_by p q y ys false e h = (λ yes. absurd (let z : ⊥ = cc in z), h)

-- each id of a range that was kept passes
pub all_of_kept : (p q : ℕ → Bool) (x a n : ℕ) → a ≤ x → x < a + n → list_all p (filter q (range_with_len a n)) ≡ true → q x ≡ true → p x ≡ true
all_of_kept p q x a zero low high h k = absurd (omega arith)
all_of_kept p q x a (suc n) low high h k =
    let parts = passes_by p q a (range_with_len (a + 1) n) (q a) refl h in
    elim (one_or_two x a) [
      | inl e ↦ ap p e ∙ parts.0 (sym (ap q e) ∙ k)
      | inr d ↦ all_of_kept p q x (a + 1) n (omega arith) (omega arith) parts.1 k
    ]

-- ---- what is so of each of a list

abbrev pub Each : {T : Type 0} → (T → Type 0) → List T → Type 0
Each P [] = ⊤
Each P (x ∷ xs) = P x × Each P xs

pub each_still : {T : Type 0} (P Q : T → Type 0) → ((x : T) → P x → Q x) → (xs : List T) → Each P xs → Each Q xs
each_still P Q h [] e = tt
each_still P Q h (x ∷ xs) e = (h x e.0, each_still P Q h xs e.1)

pub each_behind : {T : Type 0} (P : T → Type 0) (xs ys : List T) → Each P xs → Each P ys → Each P (xs ++ ys)
each_behind P [] ys h k = k
each_behind P (x ∷ xs) ys h k = (h.0, each_behind P xs ys h.1 k)

kept_of : {T : Type 0} (P : T → Type 0) (keep : T → Bool) (x : T) (xs : List T) (b : Bool) → keep x ≡ b → (keep x ≡ true → P x) → Each P (filter keep xs) → Each P (if b then x ∷ filter keep xs else filter keep xs)
kept_of P keep x xs true e h rest = (h e, rest)
kept_of P keep x xs false e h rest = rest

-- what is so of each that is kept
pub each_kept : {T : Type 0} (P Q : T → Type 0) (keep : T → Bool) → ((x : T) → P x → keep x ≡ true → Q x) → (xs : List T) → Each P xs → Each Q (filter keep xs)
each_kept P Q keep h [] e = tt
each_kept P Q keep h (x ∷ xs) e = kept_of Q keep x xs (keep x) refl (h x e.0) (each_kept P Q keep h xs e.1)

-- ---- steps

pub none_left : (ss : List Step) → not (length ss == 0) ≡ false → ss ≡ []
none_left [] x = refl
none_left (s ∷ ss) x = let e : length (s ∷ ss) ≡ 0 = eqb-true (length (s ∷ ss)) 0 (not_false (length (s ∷ ss) == 0) x) in absurd (omega arith)

-- ---- numbers

pub some_number : (o : Option ℕ) (n : ℕ) → same_option ◌==◌ o (Some n) ≡ true → o ≡ Some n
some_number None n h = absurd (let z : ⊥ = cc in z)
some_number (Some x) n h = ap Some (eqb-true x n h)
