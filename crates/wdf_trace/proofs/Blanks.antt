-- Words without a byte of some kind, and the parts of a text between such bytes.
use Rattle.std.proofs.Common.{◌≡◌, ℕ, ◌==◌, Bool, true, false, not, List, [], ◌∷◌, ◌++◌, refl, sym, ap, ◌∙◌, append-nil, inl, inr}
use Rattle.std.specs.List.{All, list_all}
use Rattle.std.proofs.lemmas.Bool.{and_parts, and_from, both_ways, not-true, eqb-true, eq-eqb, cases_Bool, not_from_false, or_from, or_right}
use Rattle.std.proofs.lemmas.List.Elements.{All-weaker}
use Rattle.std.proofs.lemmas.List.Folds.{list_all-append}
use Rattle.std.proofs.lemmas.List.Sums.{AllPass-from_list_all}
use Rattle.std.proofs.lemmas.List.Splits.{slice_split_none, slice_split_at}
use Rattle.wdf_lines.specs.Lines.{spaced}
use Rattle.wdf_trace.specs.Reading.{parts, words, has_dot}

-- no byte of the word is c
pub record Lacks (c : ℕ) (w : List ℕ) : Type 0 where
  pub each : list_all (λ b. not (b == c)) w ≡ true

-- no byte of any of the words is c
abbrev pub AllLack : ℕ → List (List ℕ) → Type 0
AllLack c [] = Unit {0}
AllLack c (w ∷ ws) = Lacks c w × AllLack c ws

-- a byte that passes a test is none that doesn't
pub other_byte : (p : ℕ → Bool) (c b : ℕ) → p c ≡ false → p b ≡ true → not (b == c) ≡ true
other_byte p c b bad good =
    elim (cases_Bool (b == c)) [
      | inl e ↦ absurd (both_ways (p c) bad (ap p (sym (eqb-true b c e)) ∙ good))
      | inr e ↦ not_from_false (b == c) e
    ]

-- a word of bytes that pass a test has none that doesn't
pub Lacks_from : (p : ℕ → Bool) (c : ℕ) (w : List ℕ) → p c ≡ false → list_all p w ≡ true → list_all (λ b. not (b == c)) w ≡ true
Lacks_from p c [] bad good = refl
Lacks_from p c (b ∷ w) bad good =
    let h = and_parts (p b) (list_all p w) good in
    and_from (not (b == c)) (list_all (λ b. not (b == c)) w) (other_byte p c b bad h.0) (Lacks_from p c w bad h.1)

pub Lacks_append : (c : ℕ) (u v : List ℕ) → Lacks c u → Lacks c v → Lacks c (u ++ v)
Lacks_append c u v h k = record { each = list_all-append (λ b. not (b == c)) u v ∙ and_from _ _ h.each k.each }

lacks_each : (c : ℕ) (w : List ℕ) → Lacks c w → All (λ b. (b == c) ≡ false) w
lacks_each c w h =
    All-weaker (λ b. not (b == c) ≡ true) (λ b. (b == c) ≡ false) (λ b. not-true (b == c)) w (AllPass-from_list_all (λ b. not (b == c)) w h.each)

-- a word with nothing after it is the one part
pub parts_last : (c : ℕ) (w : List ℕ) → Lacks c w → parts c w ≡ w ∷ []
parts_last c w h = slice_split_none (λ b. b == c) w (lacks_each c w h)

-- a word is the first part before a byte that it hasn't
pub parts_more : (c : ℕ) (w rest : List ℕ) → Lacks c w → parts c (w ++ c ∷ rest) ≡ w ∷ parts c rest
parts_more c w rest h = slice_split_at (λ b. b == c) w c rest (lacks_each c w h) (eq-eqb c c refl)

-- the words of a line
pub words_spaced : (w : List ℕ) (ws : List (List ℕ)) → Lacks 32 w → AllLack 32 ws → words (w ++ spaced ws) ≡ w ∷ ws
words_spaced w [] h hs = ap words (append-nil w) ∙ parts_last 32 w h
words_spaced w (v ∷ vs) h hs = parts_more 32 w (v ++ spaced vs) h ∙ ap (λ t. w ∷ t) (words_spaced v vs hs.0 hs.1)

-- a word without a dot
pub has_dot_none : (w : List ℕ) → Lacks 46 w → has_dot w ≡ false
has_dot_none [] h = refl
has_dot_none (b ∷ w) h =
    let k = and_parts (not (b == 46)) (list_all (λ b. not (b == 46)) w) h.each in
    or_from (b == 46) (has_dot w) (not-true (b == 46) k.0) (has_dot_none w (record { each = k.1 }))

-- a word with a dot
pub has_dot_some : (u v : List ℕ) → has_dot (u ++ 46 ∷ v) ≡ true
has_dot_some [] v = refl
has_dot_some (b ∷ u) v = or_right (b == 46) (has_dot (u ++ 46 ∷ v)) (has_dot_some u v)
