-- The words of the laws, in the words of lists.
use Rattle.std.proofs.Common.{◌≡◌, ◌+◌, ◌≤◌, Bool, true, false, ◌||◌, List, [], ◌∷◌, ◌++◌, fold, count_by, refl, ap, ◌∙◌, arith}
use Rattle.std.proofs.lemmas.Grind.{fold-append}
use Rattle.std.specs.List.{list_any}
use Rattle.wdf_base.specs.declared.event.Event.{Event}
use Rattle.wdf_model.specs.Tables.{flag}
use Rattle.wdf_model.proofs.Counts.{count_behind, count_of_one, count_cons}
use Rattle.wdf_laws.specs.declared.sign.Sign.{Sign}
use Rattle.wdf_laws.specs.Signs.{shows}
use Rattle.wdf_laws.specs.Words.{ever, came_step}
use Rattle.wdf_model.proofs.Tests.{first, second}

or_nested : (a b c : Bool) → ((a || b) || c) ≡ (a || (b || c))
or_nested true b c = refl
or_nested false b c = refl

or_no : (b : Bool) → b ≡ (b || false)
or_no true = refl
or_no false = refl

came_or : (p : Sign) (b : Bool) (es : List Event) → fold (came_step p) b es ≡ (b || list_any (shows p) es)
came_or p b [] = or_no b
came_or p b (e ∷ es) = came_or p (b || shows p e) es ∙ or_nested b (shows p e) (list_any (shows p) es)

-- an event with the sign came exactly where one of the events has it
pub ever_is : (p : Sign) (es : List Event) → ever p es ≡ list_any (shows p) es
unfolding ever
ever_is p es = came_or p false es

weaker_step : {X : Type 0} (p q : X → Bool) (x : X) (xs : List X) (b : Bool) → p x ≡ b → (p x ≡ true → q x ≡ true) → (list_any p xs ≡ true → list_any q xs ≡ true) → (b || list_any p xs) ≡ true
    → (q x || list_any q xs) ≡ true
weaker_step p q x xs true e h more a = first (q x) (list_any q xs) (h e)
weaker_step p q x xs false e h more a = second (q x) (list_any q xs) (more a)

-- a weaker test finds what a stronger one does
pub any_weaker : {X : Type 0} (p q : X → Bool) → ((x : X) → p x ≡ true → q x ≡ true) → (xs : List X) → list_any p xs ≡ true → list_any q xs ≡ true
any_weaker p q h [] a = absurd (let z : ⊥ = cc in z)
any_weaker p q h (x ∷ xs) a = weaker_step p q x xs (p x) refl (h x) (any_weaker p q h xs) a

found_step : {X : Type 0} (p : X → Bool) (x : X) (xs : List X) (b : Bool) → p x ≡ b → (list_any p xs ≡ true → 1 ≤ count_by p xs) → (b || list_any p xs) ≡ true → 1 ≤ flag b + count_by p xs
found_step p x xs true e more a = omega arith
found_step p x xs false e more a = let m : 1 ≤ count_by p xs = more a in omega arith

-- what is found is counted
pub found_counts : {X : Type 0} (p : X → Bool) (xs : List X) → list_any p xs ≡ true → 1 ≤ count_by p xs
found_counts p [] a = absurd (let z : ⊥ = cc in z)
found_counts p (x ∷ xs) a =
    let e : count_by p (x ∷ xs) ≡ flag (p x) + count_by p xs = count_cons p x xs in
    let s : 1 ≤ flag (p x) + count_by p xs = found_step p x xs (p x) refl (found_counts p xs) a in
    omega arith

-- who is found before, and passes, is counted twice
pub counted_twice : {X : Type 0} (p : X → Bool) (xs : List X) (x : X) → list_any p xs ≡ true → p x ≡ true → 2 ≤ count_by p (xs ++ x ∷ [])
counted_twice p xs x a t =
    let e : count_by p (xs ++ x ∷ []) ≡ count_by p xs + count_by p (x ∷ []) = count_behind p xs (x ∷ []) in
    let f : count_by p (x ∷ []) ≡ flag (p x) = count_of_one p x in
    let g : flag (p x) ≡ 1 = ap flag t in
    let h : 1 ≤ count_by p xs = found_counts p xs a in
    omega arith

-- one event more
pub ever_next : (p : Sign) (es : List Event) (e : Event) → ever p (es ++ e ∷ []) ≡ (ever p es || shows p e)
unfolding ever
ever_next p es e = fold-append (came_step p) false es (e ∷ [])

pub never_yet : (p : Sign) → ever p [] ≡ false
unfolding ever
never_yet p = refl
