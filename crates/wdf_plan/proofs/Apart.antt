-- What two lines give differs, wherever each two lines do.
use Rattle.std.proofs.Common.{◌≡◌, ℕ, suc, ◌<◌, ◌≤◌, Bool, true, false, List, [], ◌∷◌, length, Option, Some, None, refl, arith}
use Rattle.std.specs.List.{filter_map, cons_option}
use Rattle.wdf_base.specs.Resolved.{all_differ}
use Rattle.wdf_scene.specs.declared.line.NumberedLine.{NumberedLine}
use Rattle.wdf_blocks.specs.declared.placed.Counts.{Counts}
use Rattle.wdf_blocks.specs.declared.placed.Placed.{Placed}
use Rattle.wdf_blocks.specs.declared.placed.Stand.{Stand}
use Rattle.wdf_blocks.specs.Placed.{counted, opened_by, placed_line, placed_from}
use Rattle.wdf_refusals.proofs.Every.{Every, every_map, every_kept, every_both, any_none}

-- each item is so related to each one after it
abbrev pub Pairs : {P : Type 0} → (P → P → Type 0) → List P → Type 0
Pairs R [] = Unit {0}
Pairs R (p ∷ ps) = Every (R p) ps × Pairs R ps

differ_step : {T : Type 0} (same : T → T → Bool) (o : Option T) (ts : List T) → ((a : T) → o ≡ Some a → Every (λ b. same a b ≡ false) ts) → all_differ same ts ≡ true → all_differ same (cons_option o ts) ≡ true
differ_step same None ts apart h = h
differ_step same (Some a) ts apart h = rw (any_none (same a) ts (apart a refl), h) refl

-- what these two lines give isn't the same
abbrev pub GiveOthers : {P T : Type 0} → (P → Option T) → (T → T → Bool) → P → P → Type 0
GiveOthers {P} {T} f same p q = (a b : T) → f p ≡ Some a → f q ≡ Some b → same a b ≡ false

-- where each two give others, all that is gathered differs
pub all_apart : {P T : Type 0} (f : P → Option T) (same : T → T → Bool) (ps : List P) → Pairs (GiveOthers f same) ps → all_differ same (filter_map f ps) ≡ true
all_apart f same [] h = refl
all_apart f same (p ∷ ps) h =
    differ_step same (f p) (filter_map f ps) (λ a e. every_kept f (GiveOthers f same p) (λ b. same a b ≡ false) (λ q b r e'. r a b e e') ps h.0) (all_apart f same ps h.1)

from_line : (k : ℕ) (o : Stand) (c : Counts) (ls : List NumberedLine) → Every (λ p. k ≤ p.at) (placed_from k o c ls)
unfolding placed_from
from_line k o c [] = tt
from_line k o c (l ∷ ls) =
    let next = from_line (suc k) (opened_by o k l.form) (counted c l.form (length l.picks)) ls in
    (omega arith, every_map (λ p. suc k ≤ p.at) (λ p. k ≤ p.at) (λ p h. omega (arith, h)) (placed_from (suc k) (opened_by o k l.form) (counted c l.form (length l.picks)) ls) next)

-- what holds of each two lines, of which the first comes before the second
pub line_pairs : (Q : Placed → Type 0) (R : Placed → Placed → Type 0) → ((p q : Placed) → p.at < q.at → Q p → Q q → R p q) → (k : ℕ) (o : Stand) (c : Counts) (ls : List NumberedLine) → Every Q (placed_from k o c ls) → Pairs R (placed_from k o c ls)
unfolding placed_from
line_pairs Q R f k o c [] h = tt
line_pairs Q R f k o c (l ∷ ls) h =
    let p = placed_line k o c l in
    let rest = placed_from (suc k) (opened_by o k l.form) (counted c l.form (length l.picks)) ls in
    let later = from_line (suc k) (opened_by o k l.form) (counted c l.form (length l.picks)) ls in (
      every_map (λ q. (suc k ≤ q.at) × Q q) (R p) (λ q g.
          let past : suc k ≤ q.at = g.0 in
          f p q (omega arith) h.0 g.1) rest (every_both (λ q. suc k ≤ q.at) Q rest later h.1),
      line_pairs Q R f (suc k) (opened_by o k l.form) (counted c l.form (length l.picks)) ls h.1,
    )
