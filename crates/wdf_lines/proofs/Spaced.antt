-- Words after blanks, in two parts.
use Rattle.std.proofs.Common.{◌≡◌, ℕ, List, [], ◌∷◌, ◌++◌, codes, refl, sym, ap, ◌∙◌, append_assoc, append-nil}
use Rattle.wdf_lines.specs.Lines.{spaced}

pub spaced_append : (us vs : List (List ℕ)) → spaced (us ++ vs) ≡ spaced us ++ spaced vs
spaced_append [] vs = refl
spaced_append (u ∷ us) vs = ap (λ t. codes " " ++ t) (ap (λ t. u ++ t) (spaced_append us vs) ∙ sym (append_assoc u (spaced us) (spaced vs)))

-- a line with a call, after it an arrow, after that the answer
pub answered_line : (line called pointed whole kind arrow answer : List ℕ) (args : List (List ℕ)) → called ≡ line ++ spaced (kind ∷ args) → pointed ≡ called ++ (codes " " ++ arrow) → whole ≡ pointed ++ (codes " " ++ answer) → whole ≡ line ++ spaced (kind ∷ (args ++ arrow ∷ answer ∷ []))
answered_line line called pointed whole kind arrow answer args e f g =
    rw (g, f, e) (simp (spaced_append, append_assoc, append-nil))
