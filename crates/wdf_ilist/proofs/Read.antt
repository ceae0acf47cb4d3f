-- What the readers find in tables that are linked as the lists say.
use Rattle.std.proofs.Common.{if◌then◌else◌, ℕ, zero, suc, ◌≡◌, ◌+◌, ◌-◌, ◌*◌, ◌/◌, ◌%◌, ◌==◌, Bool, true, false, List, [], ◌∷◌, length, slice_index, Option, Some, None, option_and_then, refl, sym, subst, ap, ◌∙◌, arith}
use Rattle.std.proofs.lemmas.Bool.{ne_eqb, eq-eqb, eqb-true}
use Rattle.wdf_ilist.specs.Family.{is_on, is_on_any, list_at, list_of, first_of, last_of, after_on, after_in}
use Rattle.wdf_ilist.specs.Places.{end_of, place_of, item_at, IsPath}
use Rattle.wdf_ilist.specs.Tables.{next_of, previous_of}
use Rattle.wdf_ilist.specs.Links.{AreSound}
use Rattle.wdf_ilist.specs.declared.members.Members.{Members}
use Rattle.wdf_ilist.specs.declared.rings.Rings.{Rings}
use Rattle.wdf_ilist.proofs.Changes.{on_its_list, off_other_list, off_each_list}
use Rattle.wdf_ilist.proofs.Lists.{off_all, list_of_none, list_of_first}

-- ---- items at places

item_at_place : (x : ℕ) → item_at (place_of x) ≡ Some x
item_at_place x =
    let odd : (2 * x + 1) % 2 ≡ 1 = omega arith in
    let it : (2 * x + 1) / 2 ≡ x = omega arith in
    let yes : ((2 * x + 1) % 2 == 1) ≡ true = eq-eqb ((2 * x + 1) % 2) 1 odd in
    rw yes (ap Some it)

item_at_end : (q : ℕ) → item_at (end_of q) ≡ None
item_at_end q =
    let even : (2 * q) % 2 ≡ 0 = omega arith in
    let no : ((2 * q) % 2 == 1) ≡ false = ne_eqb ((2 * q) % 2) 1 (λ e. absurd (omega arith)) in
    rw no refl

front_read : (next previous : ℕ → ℕ) (from : ℕ) (xs : List ℕ) (q : ℕ) → IsPath next previous from xs (end_of q) → item_at (next from) ≡ first_of xs
front_read next previous from [] q p = ap item_at p.0 ∙ item_at_end q
front_read next previous from (x ∷ xs) q p = ap item_at p.0 ∙ item_at_place x

back_after : (next previous : ℕ → ℕ) (x : ℕ) (xs : List ℕ) (to : ℕ) → IsPath next previous (place_of x) xs to → item_at (previous to) ≡ last_of (x ∷ xs)
back_after next previous x [] to p = ap item_at p.1 ∙ item_at_place x
back_after next previous x (y ∷ ys) to p = back_after next previous y ys to p.2

back_read : (next previous : ℕ → ℕ) (q : ℕ) (xs : List ℕ) (to : ℕ) → IsPath next previous (end_of q) xs to → item_at (previous to) ≡ last_of xs
back_read next previous q [] to p = ap item_at p.1 ∙ item_at_end q
back_read next previous q (x ∷ xs) to p = back_after next previous x xs to p.2

after_read_by : (next previous : ℕ → ℕ) (x y : ℕ) (ys : List ℕ) (q : ℕ) (b : Bool) → (y == x) ≡ b → IsPath next previous (place_of y) ys (end_of q) → is_on x (y ∷ ys) ≡ true
    → (is_on x ys ≡ true → item_at (next (place_of x)) ≡ after_on x ys) → item_at (next (place_of x)) ≡ after_on x (y ∷ ys)
after_read_by next previous x y ys q true e p on rest =
    let same : y ≡ x = eqb-true y x e in
    let here : item_at (next (place_of x)) ≡ first_of ys = subst (λ z. item_at (next (place_of z)) ≡ first_of ys) same (front_read next previous (place_of y) ys q p) in
    rw e here
after_read_by next previous x y ys q false e p on rest = rw e (rest (rw e at on))

after_read : (next previous : ℕ → ℕ) (x from : ℕ) (xs : List ℕ) (q : ℕ) → IsPath next previous from xs (end_of q) → is_on x xs ≡ true → item_at (next (place_of x)) ≡ after_on x xs
after_read next previous x from [] q p on = absurd (let z : ⊥ = cc in z)
after_read next previous x from (y ∷ ys) q p on = after_read_by next previous x y ys q (y == x) refl p.2 on (after_read next previous x (place_of y) ys q p.2)

-- ---- the first and the last item

pub front_lem : (r : Rings) (m : Members) (ls : List (List ℕ)) → AreSound r m ls → (q : ℕ) → item_at (next_of r (end_of q)) ≡ first_of (list_at ls q)
front_lem r m ls s q = front_read (next_of r) (previous_of r) (end_of q) (list_at ls q) q (s.linked.ring q)

pub back_lem : (r : Rings) (m : Members) (ls : List (List ℕ)) → AreSound r m ls → (q : ℕ) → item_at (previous_of r (end_of q)) ≡ last_of (list_at ls q)
back_lem r m ls s q = back_read (next_of r) (previous_of r) q (list_at ls q) (end_of q) (s.linked.ring q)

-- ---- the list of an item

pub no_list : (r : Rings) (m : Members) (ls : List (List ℕ)) → AreSound r m ls → (x : ℕ) → slice_index m.owners x ≡ 0 → is_on_any x ls ≡ false
no_list r m ls s x none = off_all x ls (off_each_list (next_of r) (previous_of r) (slice_index m.owners) (slice_index m.counts) (length m.owners) (list_at ls) s.linked x none)

pub one_list : (r : Rings) (m : Members) (ls : List (List ℕ)) → AreSound r m ls → (x q : ℕ) → slice_index m.owners x ≡ suc q → list_of x ls ≡ Some q
one_list r m ls s x q own =
    list_of_first x ls q (on_its_list (next_of r) (previous_of r) (slice_index m.owners) (slice_index m.counts) (length m.owners) (list_at ls) s.linked x q own)
    (λ p h. off_other_list (next_of r) (previous_of r) (slice_index m.owners) (slice_index m.counts) (length m.owners) (list_at ls) s.linked x q p own (λ e. absurd (omega arith)))

-- an owner as it is kept
abbrev pub owner_kept : ℕ → Option ℕ
owner_kept owner = if owner == 0 then None else Some (owner - 1)

owner_by : (r : Rings) (m : Members) (ls : List (List ℕ)) → AreSound r m ls → (x o : ℕ) → slice_index m.owners x ≡ o → list_of x ls ≡ owner_kept o
owner_by r m ls s x zero e = list_of_none x ls (no_list r m ls s x e)
owner_by r m ls s x (suc q) e =
    let no : (suc q == 0) ≡ false = ne_eqb (suc q) 0 (λ h. absurd (omega arith)) in
    let one : suc q - 1 ≡ q = omega arith in
    one_list r m ls s x q e ∙ rw no (ap Some (sym one))

pub owner_lem : (r : Rings) (m : Members) (ls : List (List ℕ)) → AreSound r m ls → (x : ℕ) → owner_kept (slice_index m.owners x) ≡ list_of x ls
owner_lem r m ls s x = sym (owner_by r m ls s x (slice_index m.owners x) refl)

pub kept_none : (owner : ℕ) → owner_kept owner ≡ None → owner ≡ 0
kept_none zero e = refl
kept_none (suc q) e =
    let no : (suc q == 0) ≡ false = ne_eqb (suc q) 0 (λ h. absurd (omega arith)) in
    absurd (let some : Some (suc q - 1) ≡ None = rw no at e in let z : ⊥ = cc in z)

pub kept_some : (owner q : ℕ) → owner_kept owner ≡ Some q → owner ≡ suc q
kept_some zero q e = absurd (let z : ⊥ = cc in z)
kept_some (suc p) q e =
    let no : (suc p == 0) ≡ false = ne_eqb (suc p) 0 (λ h. absurd (omega arith)) in
    let some : Some (suc p - 1) ≡ Some q = rw no at e in
    let same : suc p - 1 ≡ q = cc in
    omega arith

-- ---- the item after an item

pub no_item_after : (x : ℕ) (ls : List (List ℕ)) → list_of x ls ≡ None → None ≡ after_in x ls
no_item_after x ls e = ap (λ o. option_and_then (λ q. after_on x (list_at ls q)) o) (sym e)

pub after_lem : (r : Rings) (m : Members) (ls : List (List ℕ)) → AreSound r m ls → (x q : ℕ) → slice_index m.owners x ≡ suc q → item_at (next_of r (place_of x)) ≡ after_in x ls
after_lem r m ls s x q own =
    let on = on_its_list (next_of r) (previous_of r) (slice_index m.owners) (slice_index m.counts) (length m.owners) (list_at ls) s.linked x q own in
    after_read (next_of r) (previous_of r) x (end_of q) (list_at ls q) q (s.linked.ring q) on
    ∙ sym (ap (λ o. option_and_then (λ p. after_on x (list_at ls p)) o) (one_list r m ls s x q own))
