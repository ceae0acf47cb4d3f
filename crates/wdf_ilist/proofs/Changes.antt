-- What the tables say of the lists goes on as items come and go.
use Rattle.std.proofs.Common.{ℕ, suc, ◌≡◌, ◌≢◌, ◌⊎◌, ◌≤◌, ◌==◌, true, false, ◌||◌, List, length, refl, sym, subst, ap, ◌∙◌, inl, inr, arith}
use Rattle.std.proofs.Math.Bool.{or-false}
use Rattle.std.proofs.lemmas.Bool.{eq-eqb, ne_eqb, cases_eq}
use Rattle.wdf_ilist.specs.Family.{is_on, without, are_distinct}
use Rattle.wdf_ilist.specs.Places.{end_of, IsPath, IsLinked}
use Rattle.wdf_ilist.proofs.Items.{without_off, off_without, on_without, length_without, distinct_without}
use Rattle.wdf_ilist.proofs.Paths.{end_no_place, Cuts, path_without}

-- ---- an item goes

-- an item's list
pub on_its_list : (next previous owner count : ℕ → ℕ) (items : ℕ) (lists : ℕ → List ℕ) → IsLinked next previous owner count items lists → (x q : ℕ) → owner x ≡ suc q → is_on x (lists q) ≡ true
on_its_list next previous owner count items lists l x q own = l.owned q x ∙ eq-eqb (owner x) (suc q) own

-- an item isn't on another list
pub off_other_list : (next previous owner count : ℕ → ℕ) (items : ℕ) (lists : ℕ → List ℕ) → IsLinked next previous owner count items lists → (x q p : ℕ) → owner x ≡ suc q → p ≢ q → is_on x (lists p) ≡ false
off_other_list next previous owner count items lists l x q p own other = l.owned p x ∙ ne_eqb (owner x) (suc p) (λ e. other (omega arith))

-- an item without an owner is on no list
pub off_each_list : (next previous owner count : ℕ → ℕ) (items : ℕ) (lists : ℕ → List ℕ) → IsLinked next previous owner count items lists → (x : ℕ) → owner x ≡ 0 → (q : ℕ) → is_on x (lists q) ≡ false
off_each_list next previous owner count items lists l x none q = l.owned q x ∙ ne_eqb (owner x) (suc q) (λ e. absurd (omega arith))

-- An item leaves its list, and no other item is touched.
pub record Leaves (owner count owner' count' : ℕ → ℕ) (x q : ℕ) : Type 0 where
  pub was : owner x ≡ suc q
  pub owner_here : owner' x ≡ 0
  pub owner_other : (y : ℕ) → y ≢ x → owner' y ≡ owner y
  pub count_here : suc (count' q) ≡ count q
  pub count_other : (p : ℕ) → p ≢ q → count' p ≡ count p

pub linked_without : (next previous owner count next' previous' owner' count' : ℕ → ℕ) (items : ℕ) (lists : ℕ → List ℕ) (x q : ℕ) → IsLinked next previous owner count items lists
    → Cuts next previous next' previous' x → Leaves owner count owner' count' x q → IsLinked next' previous' owner' count' items (λ p. without x (lists p))
linked_without next previous owner count next' previous' owner' count' items lists x q l cut leave =
    record {
      ring = λ p. path_without next previous next' previous' x cut (end_of p) (lists p) (end_of p) (l.ring p) (end_no_place p x) (end_no_place p x) (l.once p);
      counted = λ p. counted p (cases_eq p q);
      owned = λ p y. owned p y (cases_eq y x);
      once = λ p. distinct_without x (lists p) (l.once p);
      within = λ y h. within y h (cases_eq y x);
    }
  where
    counted : (p : ℕ) → (p ≡ q) ⊎ (p ≡ q → ⊥) → count' p ≡ length (without x (lists p))
    counted p (inl same) =
        let shorter : suc (length (without x (lists q))) ≡ length (lists q) = length_without x (lists q) (l.once q) (on_its_list next previous owner count items lists l x q leave.was) in
        let was : count q ≡ length (lists q) = l.counted q in
        let now : suc (count' q) ≡ count q = leave.count_here in
        let here : count' q ≡ length (without x (lists q)) = omega arith in
        subst (λ z. count' z ≡ length (without x (lists z))) (sym same) here
    counted p (inr other) =
        let stays : without x (lists p) ≡ lists p = without_off x (lists p) (off_other_list next previous owner count items lists l x q p leave.was other) in
        leave.count_other p other ∙ l.counted p ∙ ap length (sym stays)

    owned : (p y : ℕ) → (y ≡ x) ⊎ (y ≡ x → ⊥) → is_on y (without x (lists p)) ≡ (owner' y == suc p)
    owned p y (inl same) =
        let none : owner' x ≡ 0 = leave.owner_here in
        let here : is_on x (without x (lists p)) ≡ (owner' x == suc p) = off_without x (lists p) ∙ sym (ne_eqb (owner' x) (suc p) (λ e. absurd (omega arith))) in
        subst (λ z. is_on z (without x (lists p)) ≡ (owner' z == suc p)) (sym same) here
    owned p y (inr other) = on_without x y (lists p) other ∙ l.owned p y ∙ ap (λ n. n == suc p) (sym (leave.owner_other y other))

    within : (y : ℕ) → items ≤ y → (y ≡ x) ⊎ (y ≡ x → ⊥) → owner' y ≡ 0
    within y h (inl same) = ap owner' same ∙ leave.owner_here
    within y h (inr other) = leave.owner_other y other ∙ l.within y h

-- ---- an item comes

-- An item comes onto a list, and no other item is touched.
pub record Enters (owner count owner' count' : ℕ → ℕ) (items : ℕ) (x q : ℕ) : Type 0 where
  pub there : suc x ≤ items
  pub was : owner x ≡ 0
  pub owner_here : owner' x ≡ suc q
  pub owner_other : (y : ℕ) → y ≢ x → owner' y ≡ owner y
  pub count_here : count' q ≡ suc (count q)
  pub count_other : (p : ℕ) → p ≢ q → count' p ≡ count p

-- A list has an item more.
pub record Gains (lists lists' : ℕ → List ℕ) (x q : ℕ) : Type 0 where
  pub more : length (lists' q) ≡ suc (length (lists q))
  pub on : (y : ℕ) → is_on y (lists' q) ≡ (is_on y (lists q) || (x == y))
  pub once : are_distinct (lists' q) ≡ true
  pub other : (p : ℕ) → p ≢ q → lists' p ≡ lists p

pub linked_with : (next previous owner count next' previous' owner' count' : ℕ → ℕ) (items : ℕ) (lists lists' : ℕ → List ℕ) (x q : ℕ) → IsLinked next previous owner count items lists
    → Enters owner count owner' count' items x q → Gains lists lists' x q → ((p : ℕ) → IsPath next' previous' (end_of p) (lists' p) (end_of p))
    → IsLinked next' previous' owner' count' items lists'
linked_with next previous owner count next' previous' owner' count' items lists lists' x q l enter gain ring =
    record {
      ring = ring;
      counted = λ p. counted p (cases_eq p q);
      owned = λ p y. owned p y (cases_eq p q) (cases_eq y x);
      once = λ p. once p (cases_eq p q);
      within = λ y h. within y h (cases_eq y x);
    }
  where
    counted : (p : ℕ) → (p ≡ q) ⊎ (p ≡ q → ⊥) → count' p ≡ length (lists' p)
    counted p (inl same) =
        let was : count q ≡ length (lists q) = l.counted q in
        let now : count' q ≡ suc (count q) = enter.count_here in
        let more : length (lists' q) ≡ suc (length (lists q)) = gain.more in
        let here : count' q ≡ length (lists' q) = omega arith in
        subst (λ z. count' z ≡ length (lists' z)) (sym same) here
    counted p (inr other) = enter.count_other p other ∙ l.counted p ∙ ap length (sym (gain.other p other))

    owned : (p y : ℕ) → (p ≡ q) ⊎ (p ≡ q → ⊥) → (y ≡ x) ⊎ (y ≡ x → ⊥) → is_on y (lists' p) ≡ (owner' y == suc p)
    owned p y (inl same) (inl mine) =
        let off : is_on x (lists q) ≡ false = off_each_list next previous owner count items lists l x enter.was q in
        let it : (x == x) ≡ true = eq-eqb x x refl in
        let here : is_on x (lists' q) ≡ (owner' x == suc q) = rw (gain.on x, off, it) (sym (eq-eqb (owner' x) (suc q) enter.owner_here)) in
        subst (λ z. is_on y (lists' z) ≡ (owner' y == suc z)) (sym same) (subst (λ z. is_on z (lists' q) ≡ (owner' z == suc q)) (sym mine) here)
    owned p y (inl same) (inr other) =
        let it : (x == y) ≡ false = ne_eqb x y (λ e. other (sym e)) in
        let here : is_on y (lists' q) ≡ (owner' y == suc q) = rw (gain.on y, it, l.owned q y, enter.owner_other y other) (or-false (owner y == suc q)) in
        subst (λ z. is_on y (lists' z) ≡ (owner' y == suc z)) (sym same) here
    owned p y (inr elsewhere) (inl mine) =
        let off : is_on x (lists p) ≡ false = off_each_list next previous owner count items lists l x enter.was p in
        let here : is_on x (lists' p) ≡ (owner' x == suc p) = rw (gain.other p elsewhere, off) (sym (ne_eqb (owner' x) (suc p) (λ e. elsewhere (let now : owner' x ≡ suc q = enter.owner_here in omega arith)))) in
        subst (λ z. is_on z (lists' p) ≡ (owner' z == suc p)) (sym mine) here
    owned p y (inr elsewhere) (inr other) = ap (is_on y) (gain.other p elsewhere) ∙ l.owned p y ∙ ap (λ n. n == suc p) (sym (enter.owner_other y other))

    once : (p : ℕ) → (p ≡ q) ⊎ (p ≡ q → ⊥) → are_distinct (lists' p) ≡ true
    once p (inl same) = subst (λ z. are_distinct (lists' z) ≡ true) (sym same) gain.once
    once p (inr other) = ap are_distinct (gain.other p other) ∙ l.once p

    within : (y : ℕ) → items ≤ y → (y ≡ x) ⊎ (y ≡ x → ⊥) → owner' y ≡ 0
    within y h (inl same) = absurd (let there : suc x ≤ items = enter.there in omega arith)
    within y h (inr other) = enter.owner_other y other ∙ l.within y h
