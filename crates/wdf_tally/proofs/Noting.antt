-- The set of what is counted, after a count has moved; and its members.
use Rattle.std.proofs.Common.{if◌then◌else◌, ℕ, zero, suc, ◌≡◌, ◌⊎◌, ◌+◌, ◌-◌, ◌<◌, ◌≤◌, nat_lt, Bool, true, false, List, [], Option, Some, None, MatchOption, option_map, length, replicate, slice_set, refl, ap, sym, ◌∙◌, inl, inr, get_or-set_same, get_or-set_other, length-set, arith}
use Rattle.std.proofs.lemmas.Bool.{cases_Bool, cases_eq, eqb-true, lt-ltb, ltb-true}
use Rattle.std.proofs.lemmas.List.{length-replicate}
use Rattle.wdf_base.specs.declared.ids.ObjectId.{ObjectId}
use Rattle.wdf_model.specs.declared.room.TheConstants.{OBJECTS}
use Rattle.wdf_model.specs.Tables.{entry}
use Rattle.wdf_maps.specs.Counts.{changed_at, is_at, moved_count}
use Rattle.wdf_maps.proofs.Counting.{at_changed}
use Rattle.wdf_sets.specs.Members.{is_in}
use Rattle.wdf_sets.specs.Nexts.{IsNext, NoneFrom}
use Rattle.wdf_sets.proofs.Nexts.{next_also, none_also}
use Rattle.wdf_tally.specs.Counted.{HoldsCounted, is_counted, noted}

-- ---- one bit is written

pub noted_size : (counts : List ℕ) (bits : List Bool) (key : Option ObjectId) → length (noted counts bits key) ≡ length bits
noted_size counts bits None = refl
noted_size counts bits (Some o) = by (nat_lt o.0 OBJECTS)
  where
    by : (b : Bool) → length (if b then slice_set bits o.0 (is_counted counts o.0) else bits) ≡ length bits
    by true = length-set bits o.0 (is_counted counts o.0)
    by false = refl

-- what is right stays so
noted_keeps : (counts : List ℕ) (bits : List Bool) (key : Option ObjectId) (id : ℕ) → OBJECTS ≤ length bits → is_in id bits ≡ is_counted counts id → is_in id (noted counts bits key) ≡ is_counted counts id
noted_keeps counts bits None id room right = right
noted_keeps counts bits (Some o) id room right = by (nat_lt o.0 OBJECTS) refl (cases_eq id o.0)
  where
    by : (b : Bool) → nat_lt o.0 OBJECTS ≡ b → (id ≡ o.0) ⊎ (id ≡ o.0 → ⊥) → is_in id (if b then slice_set bits o.0 (is_counted counts o.0) else bits) ≡ is_counted counts id
    by true e (inl same) = let there = ltb-true o.0 OBJECTS e in rw same (get_or-set_same bits o.0 (is_counted counts o.0) false (omega arith))
    by true e (inr other) = get_or-set_other bits o.0 id (is_counted counts o.0) false other ∙ right
    by false e either = right

-- the bit of the id is right
noted_here : (counts : List ℕ) (bits : List Bool) (key : Option ObjectId) (id : ℕ) → OBJECTS ≤ length bits → id < OBJECTS → is_at id key ≡ true → is_in id (noted counts bits key) ≡ is_counted counts id
noted_here counts bits None id room low at = absurd (let z : ⊥ = cc in z)
noted_here counts bits (Some o) id room low at =
    let same : o.0 ≡ id = eqb-true o.0 id at in
    let below : nat_lt o.0 OBJECTS ≡ true = lt-ltb o.0 OBJECTS (omega arith) in
    rw (below, same) (get_or-set_same bits id (is_counted counts id) false (omega arith))

-- ---- a count has moved

unmoved : (counts : List ℕ) (from to : Option ObjectId) (id : ℕ) → id < OBJECTS → is_at id from ≡ false → is_at id to ≡ false → entry 0 (moved_count counts from to) id ≡ entry 0 counts id
unmoved counts from to id low f t =
    at_changed (changed_at counts (λ n. n + 1) to) (λ n. n - 1) from id low
    ∙ ap (λ b. if b then entry 0 (changed_at counts (λ n. n + 1) to) id - 1 else entry 0 (changed_at counts (λ n. n + 1) to) id) f
    ∙ at_changed counts (λ n. n + 1) to id low
    ∙ ap (λ b. if b then entry 0 counts id + 1 else entry 0 counts id) t

pub counted_moves : (old new : List ℕ) (bits : List Bool) (from to : Option ObjectId) → new ≡ moved_count old from to → HoldsCounted old bits → HoldsCounted new (noted new (noted new bits to) from)
counted_moves old new bits from to e h = record {
  room = let r = h.room in let a = noted_size new bits to in let b = noted_size new (noted new bits to) from in omega arith;
  same = λ id low. by id low (cases_Bool (is_at id to)) (cases_Bool (is_at id from));
}
  where
    once : OBJECTS ≤ length (noted new bits to)
    once = let r = h.room in let a = noted_size new bits to in omega arith

    by : (id : ℕ) → id < OBJECTS → (is_at id to ≡ true) ⊎ (is_at id to ≡ false) → (is_at id from ≡ true) ⊎ (is_at id from ≡ false) → is_in id (noted new (noted new bits to) from) ≡ is_counted new id
    by id low (inl t) either = noted_keeps new (noted new bits to) from id once (noted_here new bits to id h.room low t)
    by id low (inr t) (inl f) = noted_here new (noted new bits to) from id once low f
    by id low (inr t) (inr f) =
        let stays : is_counted old id ≡ is_counted new id = sym (ap (λ ns. nat_lt 0 (entry 0 ns id)) e ∙ ap (nat_lt 0) (unmoved old from to id low f t)) in
        noted_keeps new (noted new bits to) from id once (noted_keeps new bits to id h.room (h.same id low ∙ stays))

-- ---- nothing is counted

none_in : (n id : ℕ) → is_in id (replicate n false) ≡ false
none_in zero id = refl
none_in (suc n) zero = refl
none_in (suc n) (suc id) = none_in n id

pub none_counted : (n : ℕ) (counts : List ℕ) (bits : List Bool) → counts ≡ [] → OBJECTS ≤ n → bits ≡ replicate n false → HoldsCounted counts bits
none_counted n counts bits none room e = rw none (record {
  room = rw (e, length-replicate n false) room;
  same = λ id low. rw e (none_in n id);
})

-- ---- the first id from one on

pub next_counted : (counts : List ℕ) (bits : List Bool) (from : ℕ) (found : Option ℕ) (result : Option ObjectId) → HoldsCounted counts bits → option_map (λ (o : ObjectId). o.0) result ≡ found
    → MatchOption found (NoneFrom (λ id. is_in id bits) from OBJECTS) (λ id. IsNext (λ x. is_in x bits) from OBJECTS id)
    → MatchOption result (NoneFrom (is_counted counts) from OBJECTS) (λ (o : ObjectId). IsNext (is_counted counts) from OBJECTS o.0)
next_counted counts bits from None None h e k = none_also (λ id. is_in id bits) (is_counted counts) from OBJECTS (λ id above below. h.same id below) k
next_counted counts bits from (Some x) (Some o) h e k =
    let same : o.0 ≡ x = cc in
    rw same (next_also (λ id. is_in id bits) (is_counted counts) from OBJECTS (λ id above below. h.same id below) x k)
next_counted counts bits from None (Some o) h e k = absurd (let z : ⊥ = cc in z)
next_counted counts bits from (Some x) None h e k = absurd (let z : ⊥ = cc in z)
