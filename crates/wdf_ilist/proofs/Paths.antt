-- Lemmas on paths of places: what is read along one, and what stays one after an item came or went.
use Rattle.std.proofs.Common.{ℕ, ◌≡◌, ◌≢◌, ◌/◌, ◌==◌, Bool, true, false, List, [], ◌∷◌, ◌++◌, length, refl, sym, subst, ap, ◌∙◌, arith}
use Rattle.std.proofs.lemmas.Bool.{eqb-true, eqb-false, or_parts}
use Rattle.wdf_ilist.specs.Family.{is_on, without, are_distinct}
use Rattle.wdf_ilist.specs.Places.{end_of, place_of, IsPath, walk}
use Rattle.wdf_ilist.proofs.Items.{without_off, first_once, rest_distinct}

-- ---- places

item_of_place : (x : ℕ) → place_of x / 2 ≡ x
item_of_place x = omega arith

pub end_no_place : (q x : ℕ) → end_of q ≢ place_of x
end_no_place q x e = absurd (omega arith)

pub place_no_end : (q x : ℕ) → place_of x ≢ end_of q
place_no_end q x e = absurd (omega arith)

other_place : (x y : ℕ) → (y == x) ≡ false → place_of y ≢ place_of x
other_place x y e h = eqb-false y x e (omega arith)

-- ---- what is read along a path

pub walk_path : (next previous : ℕ → ℕ) (from : ℕ) (xs : List ℕ) (to : ℕ) → IsPath next previous from xs to → walk next (next from) (length xs) ≡ xs
unfolding walk
walk_path next previous from [] to p = refl
walk_path next previous from (x ∷ xs) to p =
    rw (p.0, item_of_place x) (ap (λ ys. x ∷ ys) (walk_path next previous (place_of x) xs to p.2))

-- the first link, there and back
pub first_link : (next previous : ℕ → ℕ) (from : ℕ) (xs : List ℕ) (to : ℕ) → IsPath next previous from xs to → previous (next from) ≡ from
first_link next previous from [] to p = rw (p.0) p.1
first_link next previous from (x ∷ xs) to p = rw (p.0) p.1

-- the last link, back and there
pub last_link : (next previous : ℕ → ℕ) (from : ℕ) (xs : List ℕ) (to : ℕ) → IsPath next previous from xs to → next (previous to) ≡ to
last_link next previous from [] to p = rw (p.1) p.0
last_link next previous from (x ∷ xs) to p = last_link next previous (place_of x) xs to p.2

-- a path doesn't begin or end beside an item that isn't on it
pub first_other : (next previous : ℕ → ℕ) (from x : ℕ) (xs : List ℕ) (to : ℕ) → IsPath next previous from xs to → to ≢ place_of x → is_on x xs ≡ false → next from ≢ place_of x
first_other next previous from x [] to p t off = λ e. t (sym p.0 ∙ e)
first_other next previous from x (y ∷ ys) to p t off = λ e. other_place x y (or_parts (y == x) (is_on x ys) off).0 (sym p.0 ∙ e)

pub last_other : (next previous : ℕ → ℕ) (from x : ℕ) (xs : List ℕ) (to : ℕ) → IsPath next previous from xs to → from ≢ place_of x → is_on x xs ≡ false → previous to ≢ place_of x
last_other next previous from x [] to p f off = λ e. f (sym p.1 ∙ e)
last_other next previous from x (y ∷ ys) to p f off =
    let parts = or_parts (y == x) (is_on x ys) off in
    last_other next previous (place_of y) x ys to p.2 (other_place x y parts.0) parts.1

-- an item's links, there and back
pub record IsBetween (next previous : ℕ → ℕ) (x : ℕ) : Type 0 where
  pub before : next (previous (place_of x)) ≡ place_of x
  pub after : previous (next (place_of x)) ≡ place_of x

around_by : (next previous : ℕ → ℕ) (from x y : ℕ) (ys : List ℕ) (to : ℕ) (b : Bool) → (y == x) ≡ b → IsPath next previous from (y ∷ ys) to → is_on x (y ∷ ys) ≡ true
    → (is_on x ys ≡ true → IsBetween next previous x) → IsBetween next previous x
around_by next previous from x y ys to true e p on rest =
    let same : y ≡ x = eqb-true y x e in
    let here : IsBetween next previous y = record { before = rw (p.1) p.0; after = first_link next previous (place_of y) ys to p.2 } in
    subst (λ z. IsBetween next previous z) same here
around_by next previous from x y ys to false e p on rest = rest (rw e at on)

pub around : (next previous : ℕ → ℕ) (from x : ℕ) (xs : List ℕ) (to : ℕ) → IsPath next previous from xs to → is_on x xs ≡ true → IsBetween next previous x
around next previous from x [] to p on = absurd (let z : ⊥ = cc in z)
around next previous from x (y ∷ ys) to p on = around_by next previous from x y ys to (y == x) refl p on (around next previous (place_of y) x ys to p.2)

-- ---- an item goes

-- The places beside an item are linked with one another.
pub record Cuts (next previous next' previous' : ℕ → ℕ) (x : ℕ) : Type 0 where
  pub between : IsBetween next previous x
  pub next_here : next' (previous (place_of x)) ≡ next (place_of x)
  pub next_other : (k : ℕ) → k ≢ previous (place_of x) → next' k ≡ next k
  pub previous_here : previous' (next (place_of x)) ≡ previous (place_of x)
  pub previous_other : (k : ℕ) → k ≢ next (place_of x) → previous' k ≡ previous k

-- a link between two other places
link_stays : (next previous next' previous' : ℕ → ℕ) (x k m : ℕ) → Cuts next previous next' previous' x → next k ≡ m → previous m ≡ k → k ≢ place_of x → m ≢ place_of x
    → (next' k ≡ m) × (previous' m ≡ k)
link_stays next previous next' previous' x k m c there back k_other m_other =
    let not_before : k ≢ previous (place_of x) = λ e. m_other (let b : next (previous (place_of x)) ≡ place_of x = c.between.before in cc) in
    let not_after : m ≢ next (place_of x) = λ e. k_other (let b : previous (next (place_of x)) ≡ place_of x = c.between.after in cc) in
    (c.next_other k not_before ∙ there, c.previous_other m not_after ∙ back)

-- a path that the item isn't on
path_stays : (next previous next' previous' : ℕ → ℕ) (x : ℕ) → Cuts next previous next' previous' x → (from : ℕ) (xs : List ℕ) (to : ℕ)
    → IsPath next previous from xs to → from ≢ place_of x → to ≢ place_of x → is_on x xs ≡ false → IsPath next' previous' from xs to
path_stays next previous next' previous' x c from [] to p f t off = link_stays next previous next' previous' x from to c p.0 p.1 f t
path_stays next previous next' previous' x c from (y ∷ ys) to p f t off =
    let parts = or_parts (y == x) (is_on x ys) off in
    let other : place_of y ≢ place_of x = other_place x y parts.0 in
    let link : (next' from ≡ place_of y) × (previous' (place_of y) ≡ from) = link_stays next previous next' previous' x from (place_of y) c p.0 p.1 f other in
    (link.0, link.1, path_stays next previous next' previous' x c (place_of y) ys to p.2 other t parts.1)

-- what comes after the item is linked with what was before it
path_closes : (next previous next' previous' : ℕ → ℕ) (x : ℕ) → Cuts next previous next' previous' x → (from : ℕ) (xs : List ℕ) (to : ℕ)
    → IsPath next previous (place_of x) xs to → previous (place_of x) ≡ from → to ≢ place_of x → is_on x xs ≡ false → IsPath next' previous' from xs to
path_closes next previous next' previous' x c from [] to p back t off =
    let n : next' (previous (place_of x)) ≡ next (place_of x) = c.next_here in
    let m : previous' (next (place_of x)) ≡ previous (place_of x) = c.previous_here in
    (cc, cc)
path_closes next previous next' previous' x c from (y ∷ ys) to p back t off =
    let parts = or_parts (y == x) (is_on x ys) off in
    let other : place_of y ≢ place_of x = other_place x y parts.0 in
    let n : next' (previous (place_of x)) ≡ next (place_of x) = c.next_here in
    let m : previous' (next (place_of x)) ≡ previous (place_of x) = c.previous_here in
    (cc, cc, path_stays next previous next' previous' x c (place_of y) ys to p.2 other t parts.1)

path_without_by : (next previous next' previous' : ℕ → ℕ) (x : ℕ) → Cuts next previous next' previous' x → (from y : ℕ) (ys : List ℕ) (to : ℕ) (b : Bool) → (y == x) ≡ b
    → IsPath next previous from (y ∷ ys) to → from ≢ place_of x → to ≢ place_of x → are_distinct (y ∷ ys) ≡ true
    → (place_of y ≢ place_of x → IsPath next' previous' (place_of y) (without x ys) to) → IsPath next' previous' from (without x (y ∷ ys)) to
path_without_by next previous next' previous' x c from y ys to true e p f t once rest =
    let same : y ≡ x = eqb-true y x e in
    let off : is_on x ys ≡ false = subst (λ z. is_on z ys ≡ false) same (first_once y ys once) in
    let at : IsPath next previous (place_of x) ys to = subst (λ z. IsPath next previous (place_of z) ys to) same p.2 in
    let back : previous (place_of x) ≡ from = subst (λ z. previous (place_of z) ≡ from) same p.1 in
    rw (e, without_off x ys off) (path_closes next previous next' previous' x c from ys to at back t off)
path_without_by next previous next' previous' x c from y ys to false e p f t once rest =
    let other : place_of y ≢ place_of x = other_place x y e in
    let link : (next' from ≡ place_of y) × (previous' (place_of y) ≡ from) = link_stays next previous next' previous' x from (place_of y) c p.0 p.1 f other in
    rw e (link.0, link.1, rest other)

pub path_without : (next previous next' previous' : ℕ → ℕ) (x : ℕ) → Cuts next previous next' previous' x → (from : ℕ) (xs : List ℕ) (to : ℕ)
    → IsPath next previous from xs to → from ≢ place_of x → to ≢ place_of x → are_distinct xs ≡ true → IsPath next' previous' from (without x xs) to
path_without next previous next' previous' x c from [] to p f t once = path_stays next previous next' previous' x c from [] to p f t refl
path_without next previous next' previous' x c from (y ∷ ys) to p f t once =
    path_without_by next previous next' previous' x c from y ys to (y == x) refl p f t once
    (λ other. path_without next previous next' previous' x c (place_of y) ys to p.2 other t (rest_distinct y ys once))

-- ---- an item comes

-- An item comes between two places that were linked.
pub record Inserts (next previous next' previous' : ℕ → ℕ) (before x after : ℕ) : Type 0 where
  pub there : next before ≡ after
  pub back : previous after ≡ before
  pub next_before : next' before ≡ place_of x
  pub next_item : next' (place_of x) ≡ after
  pub next_other : (k : ℕ) → k ≢ before → k ≢ place_of x → next' k ≡ next k
  pub previous_after : previous' after ≡ place_of x
  pub previous_item : previous' (place_of x) ≡ before
  pub previous_other : (k : ℕ) → k ≢ after → k ≢ place_of x → previous' k ≡ previous k

-- a link that doesn't begin at the place before
link_from_other : (next previous next' previous' : ℕ → ℕ) (before x after k m : ℕ) → Inserts next previous next' previous' before x after → next k ≡ m → previous m ≡ k
    → k ≢ before → k ≢ place_of x → m ≢ place_of x → (next' k ≡ m) × (previous' m ≡ k)
link_from_other next previous next' previous' before x after k m i there back other k_new m_new =
    let not_after : m ≢ after = λ e. other (let b : previous after ≡ before = i.back in cc) in
    (i.next_other k other k_new ∙ there, i.previous_other m not_after m_new ∙ back)

-- a link that doesn't lead to the place after
link_to_other : (next previous next' previous' : ℕ → ℕ) (before x after k m : ℕ) → Inserts next previous next' previous' before x after → next k ≡ m → previous m ≡ k
    → m ≢ after → k ≢ place_of x → m ≢ place_of x → (next' k ≡ m) × (previous' m ≡ k)
link_to_other next previous next' previous' before x after k m i there back other k_new m_new =
    let not_before : k ≢ before = λ e. other (let b : next before ≡ after = i.there in cc) in
    (i.next_other k not_before k_new ∙ there, i.previous_other m other m_new ∙ back)

-- a path that doesn't lead to the end that the item comes before
pub stays_at_back : (next previous next' previous' : ℕ → ℕ) (before x q : ℕ) → Inserts next previous next' previous' before x (end_of q) → (from : ℕ) (xs : List ℕ) (to : ℕ)
    → IsPath next previous from xs to → to ≢ end_of q → from ≢ place_of x → to ≢ place_of x → is_on x xs ≡ false → IsPath next' previous' from xs to
stays_at_back next previous next' previous' before x q i from [] to p other f t off =
    link_to_other next previous next' previous' before x (end_of q) from to i p.0 p.1 other f t
stays_at_back next previous next' previous' before x q i from (y ∷ ys) to p other f t off =
    let parts = or_parts (y == x) (is_on x ys) off in
    let new : place_of y ≢ place_of x = other_place x y parts.0 in
    let link : (next' from ≡ place_of y) × (previous' (place_of y) ≡ from) = link_to_other next previous next' previous' before x (end_of q) from (place_of y) i p.0 p.1 (place_no_end q y) f new in
    (link.0, link.1, stays_at_back next previous next' previous' before x q i (place_of y) ys to p.2 other new t parts.1)

-- the path to the end that the item comes before
pub grows_at_back : (next previous next' previous' : ℕ → ℕ) (before x q : ℕ) → Inserts next previous next' previous' before x (end_of q) → (from : ℕ) (xs : List ℕ)
    → IsPath next previous from xs (end_of q) → from ≢ place_of x → is_on x xs ≡ false → IsPath next' previous' from (xs ++ x ∷ []) (end_of q)
grows_at_back next previous next' previous' before x q i from [] p f off =
    let here : before ≡ from = sym i.back ∙ p.1 in
    (ap next' (sym here) ∙ i.next_before, i.previous_item ∙ here, (i.next_item, i.previous_after))
grows_at_back next previous next' previous' before x q i from (y ∷ ys) p f off =
    let parts = or_parts (y == x) (is_on x ys) off in
    let new : place_of y ≢ place_of x = other_place x y parts.0 in
    let link : (next' from ≡ place_of y) × (previous' (place_of y) ≡ from) = link_to_other next previous next' previous' before x (end_of q) from (place_of y) i p.0 p.1 (place_no_end q y) f new in
    (link.0, link.1, grows_at_back next previous next' previous' before x q i (place_of y) ys p.2 new parts.1)

-- a path that doesn't begin at the end that the item comes after
pub stays_at_front : (next previous next' previous' : ℕ → ℕ) (q x after : ℕ) → Inserts next previous next' previous' (end_of q) x after → (from : ℕ) (xs : List ℕ) (to : ℕ)
    → IsPath next previous from xs to → from ≢ end_of q → from ≢ place_of x → to ≢ place_of x → is_on x xs ≡ false → IsPath next' previous' from xs to
stays_at_front next previous next' previous' q x after i from [] to p other f t off =
    link_from_other next previous next' previous' (end_of q) x after from to i p.0 p.1 other f t
stays_at_front next previous next' previous' q x after i from (y ∷ ys) to p other f t off =
    let parts = or_parts (y == x) (is_on x ys) off in
    let new : place_of y ≢ place_of x = other_place x y parts.0 in
    let link : (next' from ≡ place_of y) × (previous' (place_of y) ≡ from) = link_from_other next previous next' previous' (end_of q) x after from (place_of y) i p.0 p.1 other f new in
    (link.0, link.1, stays_at_front next previous next' previous' q x after i (place_of y) ys to p.2 (place_no_end q y) new t parts.1)

-- the path from the end that the item comes after
pub grows_at_front : (next previous next' previous' : ℕ → ℕ) (q x after : ℕ) → Inserts next previous next' previous' (end_of q) x after → (xs : List ℕ)
    → IsPath next previous (end_of q) xs (end_of q) → is_on x xs ≡ false → IsPath next' previous' (end_of q) (x ∷ xs) (end_of q)
grows_at_front next previous next' previous' q x after i [] p off =
    let here : after ≡ end_of q = sym i.there ∙ p.0 in
    (i.next_before, i.previous_item, (i.next_item ∙ here, ap previous' (sym here) ∙ i.previous_after))
grows_at_front next previous next' previous' q x after i (y ∷ ys) p off =
    let parts = or_parts (y == x) (is_on x ys) off in
    let new : place_of y ≢ place_of x = other_place x y parts.0 in
    let here : after ≡ place_of y = sym i.there ∙ p.0 in
    (i.next_before, i.previous_item, (i.next_item ∙ here, ap previous' (sym here) ∙ i.previous_after, stays_at_front next previous next' previous' q x after i (place_of y) ys (end_of q) p.2 (place_no_end q y) new (end_no_place q x) parts.1))
