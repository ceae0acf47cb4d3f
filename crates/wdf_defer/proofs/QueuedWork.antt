-- The queued work items as the members of a set of ids.
use Rattle.std.proofs.Common.{ℕ, zero, suc, ◌≡◌, ◌≢◌, ◌⊎◌, inl, inr, ◌+◌, ◌<◌, ◌≤◌, ◌==◌, nat_lt, Bool, true, false, List, [], ◌∷◌, length, filter, replicate, slice_set, get_or-set_same, get_or-set_other, length-set, ltb-true, ltb-false, refl, sym, ap, ◌∙◌, subst, arith}
use Rattle.std.specs.List.{range_with_len}
use Rattle.std.proofs.lemmas.Bool.{eq-eqb, eqb-true, cases_eq, lt-ltb}
use Rattle.std.proofs.lemmas.Bool.Decides.{nat_tests}
use Rattle.std.proofs.lemmas.List.{length-replicate}
use Rattle.wdf_model.specs.declared.room.TheConstants.{OBJECTS}
use Rattle.wdf_model.specs.Tables.{contains, without, in_order}
use Rattle.wdf_model.specs.parts.Deferred.WorkItems.{WorkItems, is_work_queued, enqueue, cancel}
use Rattle.wdf_model.proofs.Maps.{entry_past}
use Rattle.wdf_sets.specs.Members.{is_in, members, rank}
use Rattle.wdf_sets.proofs.Ranks.{members_where, rank_first}
use Rattle.wdf_defer.specs.WorkItems.{AreInOrder}

-- ---- the numbers of a span that pass a test

none_below : (p : ℕ → Bool) (x a n : ℕ) → x < a → contains x (filter p (range_with_len a n)) ≡ false
none_below p x a zero h = refl
none_below p x a (suc n) h =
    let r : contains x (filter p (range_with_len (a + 1) n)) ≡ false = none_below p x (a + 1) n (omega arith) in
    grind (arith, nat_tests)

none_above : (p : ℕ → Bool) (x a n : ℕ) → a + n ≤ x → contains x (filter p (range_with_len a n)) ≡ false
none_above p x a zero h = refl
none_above p x a (suc n) h =
    let r : contains x (filter p (range_with_len (a + 1) n)) ≡ false = none_above p x (a + 1) n (omega arith) in
    grind (arith, nat_tests)

there_by : (p : ℕ → Bool) (x a n : ℕ) (b : Bool) → (a == x) ≡ b → (a ≢ x → contains x (filter p (range_with_len (a + 1) n)) ≡ p x) → contains x (filter p (range_with_len a (suc n))) ≡ p x
there_by p x a n true e rest =
    let same : a ≡ x = eqb-true a x e in
    let none : contains x (filter p (range_with_len (a + 1) n)) ≡ false = none_below p x (a + 1) n (omega arith) in
    let P : ℕ → Type 0 = λ y. p a ≡ p y in
    let it : p a ≡ p x = subst P same refl in
    first (p a) refl e none ∙ it
  where
    first : (b : Bool) → p a ≡ b → (a == x) ≡ true → contains x (filter p (range_with_len (a + 1) n)) ≡ false → contains x (filter p (range_with_len a (suc n))) ≡ p a
    first true pa e none = rw (pa, e) refl
    first false pa e none = rw pa none
there_by p x a n false e rest =
    let r : contains x (filter p (range_with_len (a + 1) n)) ≡ p x = rest (λ same. let yes : (a == x) ≡ true = eq-eqb a x same in let z : ⊥ = cc in z) in
    other (p a) refl e r
  where
    other : (b : Bool) → p a ≡ b → (a == x) ≡ false → contains x (filter p (range_with_len (a + 1) n)) ≡ p x → contains x (filter p (range_with_len a (suc n))) ≡ p x
    other true pa e r = rw (pa, e) r
    other false pa e r = rw pa r

pub there : (p : ℕ → Bool) (x a n : ℕ) → a ≤ x → x < a + n → contains x (filter p (range_with_len a n)) ≡ p x
there p x a zero h k = absurd (omega arith)
there p x a (suc n) h k = there_by p x a n (a == x) refl (λ ne. there p x (a + 1) n (omega arith) (omega arith))

comes_first : (p : ℕ → Bool) (x a n : ℕ) → x < a → in_order x (filter p (range_with_len a n)) ≡ x ∷ filter p (range_with_len a n)
comes_first p x a zero h = refl
comes_first p x a (suc n) h =
    let r : in_order x (filter p (range_with_len (a + 1) n)) ≡ x ∷ filter p (range_with_len (a + 1) n) = comes_first p x (a + 1) n (omega arith) in
    let l : nat_lt x a ≡ true = lt-ltb x a h in
    first (p a) refl l r
  where
    first : (b : Bool) → p a ≡ b → nat_lt x a ≡ true → in_order x (filter p (range_with_len (a + 1) n)) ≡ x ∷ filter p (range_with_len (a + 1) n)
        → in_order x (filter p (range_with_len a (suc n))) ≡ x ∷ filter p (range_with_len a (suc n))
    first true pa l r = rw (pa, l) refl
    first false pa l r = rw pa r

-- another test that agrees above
agree_above : (p q : ℕ → Bool) (x a n : ℕ) → ((y : ℕ) → y ≢ x → q y ≡ p y) → x < a → filter p (range_with_len a n) ≡ filter q (range_with_len a n)
agree_above p q x a zero h k = refl
agree_above p q x a (suc n) h k =
    let r : filter p (range_with_len (a + 1) n) ≡ filter q (range_with_len (a + 1) n) = agree_above p q x (a + 1) n h (omega arith) in
    let e : q a ≡ p a = h a (omega arith) in
    rw (e, r) refl

-- one number more passes
pub one_more : (p q : ℕ → Bool) (x a n : ℕ) → ((y : ℕ) → y ≢ x → q y ≡ p y) → p x ≡ false → q x ≡ true → a ≤ x → x < a + n
    → in_order x (filter p (range_with_len a n)) ≡ filter q (range_with_len a n)
one_more p q x a zero h px qx l k = absurd (omega arith)
one_more p q x a (suc n) h px qx l k = at_first (cases_eq a x) (λ other. one_more p q x (a + 1) n h px qx (omega arith) (omega arith))
  where
    later : (b : Bool) → p a ≡ b → q a ≡ b → nat_lt x a ≡ false → in_order x (filter p (range_with_len (a + 1) n)) ≡ filter q (range_with_len (a + 1) n)
        → in_order x (filter p (range_with_len a (suc n))) ≡ filter q (range_with_len a (suc n))
    later true pa qa e r = rw (pa, qa, e) (ap (λ ys. a ∷ ys) r)
    later false pa qa e r = rw (pa, qa) r

    at_first : (a ≡ x) ⊎ (a ≢ x) → (a ≢ x → in_order x (filter p (range_with_len (a + 1) n)) ≡ filter q (range_with_len (a + 1) n)) → in_order x (filter p (range_with_len a (suc n))) ≡ filter q (range_with_len a (suc n))
    at_first (inl same) rest =
        let P : ℕ → Type 0 = λ y. p y ≡ false in
        let Q : ℕ → Type 0 = λ y. q y ≡ true in
        let pa : p a ≡ false = subst P (sym same) px in
        let qa : q a ≡ true = subst Q (sym same) qx in
        let r = comes_first p x (a + 1) n (omega arith) in
        let s = agree_above p q x (a + 1) n h (omega arith) in
        let t : x ∷ filter p (range_with_len (a + 1) n) ≡ a ∷ filter q (range_with_len (a + 1) n) = cc in
        rw (pa, qa) (r ∙ t)
    at_first (inr other) rest =
        let e : nat_lt x a ≡ false = grind (arith, nat_tests) in
        later (p a) refl (h a other) e (rest other)

-- one number less passes
pub one_less : (p q : ℕ → Bool) (x a n : ℕ) → ((y : ℕ) → y ≢ x → q y ≡ p y) → q x ≡ false → without x (filter p (range_with_len a n)) ≡ filter q (range_with_len a n)
one_less p q x a zero h qx = refl
one_less p q x a (suc n) h qx =
    let r : without x (filter p (range_with_len (a + 1) n)) ≡ filter q (range_with_len (a + 1) n) = one_less p q x (a + 1) n h qx in
    by_first (p a) (cases_eq a x) refl r
  where
    by_first : (b : Bool) → (a ≡ x) ⊎ (a ≢ x) → p a ≡ b → without x (filter p (range_with_len (a + 1) n)) ≡ filter q (range_with_len (a + 1) n)
        → without x (filter p (range_with_len a (suc n))) ≡ filter q (range_with_len a (suc n))
    by_first true (inl same) pa r =
        let Q : ℕ → Type 0 = λ y. q y ≡ false in
        let qa : q a ≡ false = subst Q (sym same) qx in
        let e : (a == x) ≡ true = eq-eqb a x same in
        rw (pa, qa, e) r
    by_first true (inr other) pa r =
        let qa : q a ≡ true = h a other ∙ pa in
        let e : (a == x) ≡ false = grind (arith, nat_tests) in
        rw (pa, qa, e) (ap (λ ys. a ∷ ys) r)
    by_first false (inl same) pa r =
        let Q : ℕ → Type 0 = λ y. q y ≡ false in
        let qa : q a ≡ false = subst Q (sym same) qx in
        rw (pa, qa) r
    by_first false (inr other) pa r = let qa : q a ≡ false = h a other ∙ pa in rw (pa, qa) r

-- ---- the members of a set

within_by : (x : ℕ) (bits : List Bool) (b : Bool) → nat_lt x (length bits) ≡ b → is_in x bits ≡ true → x < length bits
within_by x bits true e h = ltb-true x (length bits) e
within_by x bits false e h =
    let past : is_in x bits ≡ false = entry_past false bits x (omega (arith, ltb-false x (length bits) e)) in
    absurd (let z : ⊥ = cc in z)

pub member_within : (x : ℕ) (bits : List Bool) → is_in x bits ≡ true → x < length bits
member_within x bits h = within_by x bits (nat_lt x (length bits)) refl h

contains_by : (x : ℕ) (bits : List Bool) (b : Bool) → nat_lt x (length bits) ≡ b → is_in x bits ≡ contains x (members bits)
contains_by x bits true e = sym (there (λ id. is_in id bits) x 0 (length bits) (omega arith) (omega (arith, ltb-true x (length bits) e)))
contains_by x bits false e =
    let h = ltb-false x (length bits) e in
    entry_past false bits x (omega arith) ∙ sym (none_above (λ id. is_in id bits) x 0 (length bits) (omega arith))

pub is_member : (x : ℕ) (bits : List Bool) → is_in x bits ≡ contains x (members bits)
is_member x bits = contains_by x bits (nat_lt x (length bits)) refl

none_pass : (p : ℕ → Bool) (a n : ℕ) → ((y : ℕ) → p y ≡ false) → filter p (range_with_len a n) ≡ []
none_pass p a zero h = refl
none_pass p a (suc n) h = rw (h a) (none_pass p (a + 1) n h)

none_in : (id n : ℕ) → is_in id (replicate n false) ≡ false
none_in zero zero = refl
none_in (suc id) zero = refl
none_in zero (suc n) = refl
none_in (suc id) (suc n) = none_in id n

no_members : (n : ℕ) → members (replicate n false) ≡ []
no_members n = none_pass (λ id. is_in id (replicate n false)) 0 (length (replicate n false)) (λ id. none_in id n)

-- a set that was made or cleared has no member, and room for each object
pub made_empty : (n : ℕ) (bits : List Bool) → bits ≡ replicate n false → members bits ≡ []
made_empty n bits e = ap members e ∙ no_members n

pub made_long : (n : ℕ) (bits : List Bool) → OBJECTS ≤ n → bits ≡ replicate n false → OBJECTS ≤ length bits
made_long n bits room e = rw (e, length-replicate n false) room

-- ---- the acts

pub enqueued : (W : WorkItems) (o : ℕ) (bits : List Bool) → record { queued = members bits } ≡ W → is_work_queued W o ≡ false → o < length bits → record { queued = members (slice_set bits o true) } ≡ enqueue W o
enqueued W o bits e free l =
    let P : WorkItems → Type 0 = λ V. is_work_queued V o ≡ false in
    let out : is_in o bits ≡ false = is_member o bits ∙ subst P (sym e) free in
    let more : in_order o (members bits) ≡ filter (λ id. is_in id (slice_set bits o true)) (range_with_len 0 (length bits)) =
    one_more (λ id. is_in id bits) (λ id. is_in id (slice_set bits o true)) o 0 (length bits) (λ y ne. get_or-set_other bits o y true false ne) out (get_or-set_same bits o true false l) (omega arith) (omega arith) in
    let Q : List ℕ → WorkItems = λ ids. record { queued = ids } in
    let all : members (slice_set bits o true) ≡ in_order o (members bits) = ap (λ n. filter (λ id. is_in id (slice_set bits o true)) (range_with_len 0 n)) (length-set bits o true) ∙ sym more in
    rw free (ap Q all ∙ ap (λ V. Q (in_order o V.queued)) e)

pub cancelled : (W : WorkItems) (o : ℕ) (bits : List Bool) → record { queued = members bits } ≡ W → o < length bits → record { queued = members (slice_set bits o false) } ≡ cancel W o
cancelled W o bits e l =
    let less : without o (members bits) ≡ filter (λ id. is_in id (slice_set bits o false)) (range_with_len 0 (length bits)) =
    one_less (λ id. is_in id bits) (λ id. is_in id (slice_set bits o false)) o 0 (length bits) (λ y ne. get_or-set_other bits o y false false ne) (get_or-set_same bits o false false l) in
    let Q : List ℕ → WorkItems = λ ids. record { queued = ids } in
    let all : members (slice_set bits o false) ≡ without o (members bits) = ap (λ n. filter (λ id. is_in id (slice_set bits o false)) (range_with_len 0 n)) (length-set bits o false) ∙ sym less in
    ap Q all ∙ ap (λ V. Q (without o V.queued)) e

kept_by : (x : ℕ) (xs : List ℕ) → contains x xs ≡ false → without x xs ≡ xs
kept_by x [] h = refl
kept_by x (y ∷ xs) h = let r : contains x xs ≡ false → without x xs ≡ xs = kept_by x xs in grind (arith, nat_tests)

pub not_cancelled : (W : WorkItems) (o : ℕ) → is_work_queued W o ≡ false → W ≡ cancel W o
not_cancelled W o h = let Q : List ℕ → WorkItems = λ ids. record { queued = ids } in ap Q (sym (kept_by o W.queued h))

-- ---- in order

pub in_order_of : (bits : List Bool) → AreInOrder (record { queued = members bits })
in_order_of bits = record { rising = λ end none. members_where bits (λ x. contains x (members bits)) end (λ x. is_member x bits) none }

pub counted_below : (bits : List Bool) (id : ℕ) → rank id bits ≡ length (filter (λ x. contains x (members bits)) (range_with_len 0 id))
counted_below bits id = rank_first bits (λ x. contains x (members bits)) (λ x. is_member x bits) id
