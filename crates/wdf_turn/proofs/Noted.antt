-- The notes of a history that got one event more at most.
use Rattle.std.proofs.Common.{◌≡◌, inl, inr, ℕ, zero, suc, ◌+◌, ◌≤◌, List, [], ◌∷◌, ◌++◌, drop, length, Some, slice_get, refl, sym, ◌∙◌, subst, arith, length-append}
use Rattle.std.specs.List.{All}
use Rattle.std.proofs.lemmas.List.Elements.{All-append, All-nil}
use Rattle.std.proofs.lemmas.List.{append-nil}
use mathlib.Core.List.{IsPrefix}
use Rattle.wdf_base.specs.declared.event.Event.{Event}
use Rattle.wdf_turn.specs.Notes.{Note, notes_from, notes_beyond, times, within, IsNoteOf}
use Rattle.wdf_turn.specs.Tokens.{IsGrown}
use Rattle.wdf_turn.proofs.Prefixes.{prefix_get, All-weaken}

-- what comes after a list that one event follows
drop_after : (xs : List Event) (e : Event) → drop (length xs) (xs ++ e ∷ []) ≡ e ∷ []
drop_after [] e = refl
drop_after (x ∷ xs) e = drop_after xs e

drop_whole : (xs : List Event) → drop (length xs) xs ≡ []
drop_whole [] = refl
drop_whole (x ∷ xs) = drop_whole xs

get_after : (xs : List Event) (e : Event) → slice_get (xs ++ e ∷ []) (length xs) ≡ Some e
get_after [] e = refl
get_after (x ∷ xs) e = get_after xs e

pub grown_prefix : (old new : List Event) → IsGrown old new → IsPrefix old new
grown_prefix old new grown = elim grown [ inl e ↦ ([], append-nil old ∙ sym e) | inr t ↦ (t.0 ∷ [], sym t.1) ]

-- a note of the history is one of a longer one
pub notes_stay : (from : ℕ) (old new : List Event) (notes : List Note) → IsPrefix old new → All (IsNoteOf from old) notes → All (IsNoteOf from new) notes
notes_stay from old new notes pre all = All-weaken (IsNoteOf from old) (IsNoteOf from new) notes (λ n h. (h.0, prefix_get old new n.0 n.1 pre h.1)) all

All-one : {A : Type 0} (P : A → Type 0) (x : A) → P x → All P (x ∷ [])
All-one P x p zero d l = p
All-one P x p (suc k) d l = absurd (omega arith)

pub All-snoc : {A : Type 0} (P : A → Type 0) (xs : List A) (x : A) → All P xs → P x → All P (xs ++ x ∷ [])
All-snoc P xs x all p = All-append P xs (x ∷ []) all (All-one P x p)

-- the notes of what is new are notes of the new history
pub notes_gain : (from : ℕ) (old new : List Event) → IsGrown old new → from ≤ length old → All (IsNoteOf from new) (notes_beyond old new)
notes_gain from old new grown le = elim grown [
  | inl e ↦ subst (λ (l : List Event). All (IsNoteOf from l) (notes_beyond old l)) (sym e)
      (subst (λ (l : List Event). All (IsNoteOf from old) (notes_from (length old) l)) (sym (drop_whole old)) (All-nil (IsNoteOf from old)))
  | inr t ↦ subst (λ (l : List Event). All (IsNoteOf from l) (notes_beyond old l)) (sym t.1)
      (subst (λ (l : List Event). All (IsNoteOf from (old ++ t.0 ∷ [])) (notes_from (length old) l)) (sym (drop_after old t.0))
      (All-one (IsNoteOf from (old ++ t.0 ∷ [])) (length old, t.0) (le, get_after old t.0)))
]

once_more : (from : ℕ) (old : List Event) (e : Event) (place : ℕ) → from ≤ length old
    → within from old place + times place ((length old, e) ∷ []) ≡ within from (old ++ e ∷ []) place
once_more from old e place le = grind (arith, length-append old (e ∷ []))

-- each place of the new history is noted once, if each of the old one was
pub notes_once : (from : ℕ) (old new : List Event) (place : ℕ) → IsGrown old new → from ≤ length old
    → within from old place + times place (notes_beyond old new) ≡ within from new place
notes_once from old new place grown le = elim grown [
  | inl e ↦ subst (λ (l : List Event). within from old place + times place (notes_beyond old l) ≡ within from l place) (sym e)
      (subst (λ (l : List Event). within from old place + times place (notes_from (length old) l) ≡ within from old place) (sym (drop_whole old)) (omega arith))
  | inr t ↦ subst (λ (l : List Event). within from old place + times place (notes_beyond old l) ≡ within from l place) (sym t.1)
      (subst (λ (l : List Event). within from old place + times place (notes_from (length old) l) ≡ within from (old ++ t.0 ∷ []) place) (sym (drop_after old t.0))
      (once_more from old t.0 place le))
]
