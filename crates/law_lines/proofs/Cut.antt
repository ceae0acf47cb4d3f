-- Texts without line feeds are told from what they make together.
use Rattle.std.proofs.Common.{◌≡◌, ℕ, ◌==◌, true, not, List, [], ◌∷◌, ◌++◌, refl, sym, ap, ◌∙◌, codes, eq-eqb}
use Rattle.std.specs.List.{list_all}
use Rattle.std.proofs.lemmas.Bool.{and_parts, not-true, both_ways}
use Rattle.law_lines.specs.Feeds.{has_no_feed}
use Rattle.law_lines.specs.Texts.{as_lines}

head_same : {T : Type 0} (x y : T) (xs ys : List T) → x ∷ xs ≡ y ∷ ys → x ≡ y
head_same x y xs ys h = cc

rest_same : {T : Type 0} (x y : T) (xs ys : List T) → x ∷ xs ≡ y ∷ ys → xs ≡ ys
rest_same x y xs ys h = cc

-- a line feed isn't the first byte of a text that has none
no_feed_first : (b : ℕ) (text : List ℕ) → has_no_feed (b ∷ text) ≡ true → 10 ≡ b → ⊥
no_feed_first b text h e =
    let k = and_parts (not (b == 10)) (list_all (λ x. not (x == 10)) text) h in
    both_ways (b == 10) (not-true (b == 10) k.0) (eq-eqb b 10 (sym e))

-- the first line ends where the first line feed is
pub first_cut : (u v x y : List ℕ) → has_no_feed u ≡ true → has_no_feed v ≡ true → (u ++ codes "\n") ++ x ≡ (v ++ codes "\n") ++ y → (u ≡ v) × (x ≡ y)
first_cut [] [] x y h k e = (refl, rest_same 10 10 x y e)
first_cut [] (b ∷ v) x y h k e = absurd (no_feed_first b v k (head_same 10 b x ((v ++ codes "\n") ++ y) e))
first_cut (a ∷ u) [] x y h k e = absurd (no_feed_first a u h (sym (head_same a 10 ((u ++ codes "\n") ++ x) y e)))
first_cut (a ∷ u) (b ∷ v) x y h k e =
    let p = and_parts (not (a == 10)) (list_all (λ z. not (z == 10)) u) h in
    let q = and_parts (not (b == 10)) (list_all (λ z. not (z == 10)) v) k in
    let one : a ≡ b = head_same a b ((u ++ codes "\n") ++ x) ((v ++ codes "\n") ++ y) e in
    let rest = first_cut u v x y p.1 q.1 (rest_same a b ((u ++ codes "\n") ++ x) ((v ++ codes "\n") ++ y) e) in
    (ap (λ z. z ∷ u) one ∙ ap (λ z. b ∷ z) rest.0, rest.1)

fed_nothing : (u x : List ℕ) → [] ≡ (u ++ codes "\n") ++ x → ⊥
fed_nothing [] x h = let z : ⊥ = cc in z
fed_nothing (b ∷ u) x h = let z : ⊥ = cc in z

pub cut_once : (us vs : List (List ℕ)) → list_all has_no_feed us ≡ true → list_all has_no_feed vs ≡ true → as_lines us ≡ as_lines vs → us ≡ vs
cut_once [] [] h k e = refl
cut_once [] (v ∷ vs) h k e = absurd (fed_nothing v (as_lines vs) e)
cut_once (u ∷ us) [] h k e = absurd (fed_nothing u (as_lines us) (sym e))
cut_once (u ∷ us) (v ∷ vs) h k e =
    let p = and_parts (has_no_feed u) (list_all has_no_feed us) h in
    let q = and_parts (has_no_feed v) (list_all has_no_feed vs) k in
    let c = first_cut u v (as_lines us) (as_lines vs) p.0 q.0 e in
    ap (λ z. z ∷ us) c.0 ∙ ap (λ z. v ∷ z) (cut_once us vs p.1 q.1 c.1)
