-- The rows of arrivals, after an entry was written, and what they say.
use Rattle.std.proofs.Common.{if◌then◌else◌, ℕ, suc, ◌≡◌, ◌≢◌, ◌⊎◌, ◌+◌, ◌<◌, ◌≤◌, ◌==◌, nat_lt, Bool, true, false, not, ◌||◌, List, [], length, length-set, slice_set, get_or-set_same, refl, ap, sym, ◌∙◌, inl, inr, arith}
use Rattle.std.proofs.lemmas.Bool.{cases_eq, eqb-true}
use Rattle.std.proofs.lemmas.Bool.Decides.{nat_tests}
use Rattle.wdf_model.specs.declared.entries.Request.{Request}
use Rattle.wdf_model.specs.Tables.{entry, put}
use Rattle.wdf_model.specs.parts.Requests.{no_request}
use Rattle.wdf_model.proofs.Maps.{entry_put_same, entry_put_other, entry_set_other, entry_past}
use Rattle.wdf_request.specs.Arrivals.{AreNoted, IsNoted, Noted, has_slot, noted, noted_at, row_of, slot, with_slot}

-- ---- a place is written

agent_by : (rows : List (List ℕ)) (agent k : ℕ) (b : Bool) → nat_lt agent (length rows) ≡ b → has_slot rows agent k ≡ true → agent < length rows
agent_by rows agent k true e has = grind (arith, nat_tests)
agent_by rows agent k false e has =
    let far : length rows ≤ agent = grind (arith, nat_tests) in
    absurd (let none : nat_lt k 0 ≡ true = rw (entry_past [] rows agent far) at has in let z : k < 0 = grind (arith, nat_tests) in omega arith)

-- a place is in a row that is there, and in the row
pub slot_within : (rows : List (List ℕ)) (agent k : ℕ) → has_slot rows agent k ≡ true → (agent < length rows) × (k < length (row_of rows agent))
slot_within rows agent k has = (agent_by rows agent k (nat_lt agent (length rows)) refl has, grind (arith, nat_tests))

row_same : (rows : List (List ℕ)) (agent k id : ℕ) → has_slot rows agent k ≡ true → row_of (with_slot rows agent k id) agent ≡ slice_set (row_of rows agent) k id
row_same rows agent k id has =
    get_or-set_same rows agent (slice_set (row_of rows agent) k id) [] (slot_within rows agent k has).0

slot_same : (rows : List (List ℕ)) (agent k id : ℕ) → has_slot rows agent k ≡ true → slot (with_slot rows agent k id) agent k ≡ id
slot_same rows agent k id has =
    rw (row_same rows agent k id has) (get_or-set_same (row_of rows agent) k id 0 (slot_within rows agent k has).1)

slot_other : (rows : List (List ℕ)) (agent k id agent' k' : ℕ) → has_slot rows agent k ≡ true → (agent' ≡ agent) ⊎ (agent' ≡ agent → ⊥) → (k' ≡ k) ⊎ (k' ≡ k → ⊥)
    → slot rows agent' k' ≢ 0 → slot rows agent k ≡ 0 → slot (with_slot rows agent k id) agent' k' ≡ slot rows agent' k'
slot_other rows agent k id agent' k' has (inr other) c held free = ap (λ row. entry 0 row k') (entry_set_other [] rows agent agent' (slice_set (row_of rows agent) k id) other)
slot_other rows agent k id agent' k' has (inl same) (inr other) held free =
    rw (same, row_same rows agent k id has) (entry_set_other 0 (row_of rows agent) k k' id other)
slot_other rows agent k id agent' k' has (inl same) (inl too) held free = absurd (held (rw (same, too) free))

row_long : (rows : List (List ℕ)) (agent k id agent' : ℕ) → has_slot rows agent k ≡ true → (agent' ≡ agent) ⊎ (agent' ≡ agent → ⊥)
    → length (row_of (with_slot rows agent k id) agent') ≡ length (row_of rows agent')
row_long rows agent k id agent' has (inr other) = ap length (entry_set_other [] rows agent agent' (slice_set (row_of rows agent) k id) other)
row_long rows agent k id agent' has (inl same) = rw (same, row_same rows agent k id has) (length-set (row_of rows agent) k id)

-- the places stay
places_stay : (rows : List (List ℕ)) (agent k id agent' k' : ℕ) → has_slot rows agent k ≡ true → has_slot (with_slot rows agent k id) agent' k' ≡ has_slot rows agent' k'
places_stay rows agent k id agent' k' has = ap (λ n. nat_lt k' n) (row_long rows agent k id agent' has (cases_eq agent' agent))

-- ---- an entry is written

-- What the rows say of one request.
Says : List (List ℕ) → ℕ → ℕ → ℕ → Type 0
Says rows agent k r = 0 < k → has_slot rows agent k ≡ true → slot rows agent k ≡ suc r

said_by : (all : List Request) (rows : List (List ℕ)) (r x : ℕ) (new : Request)
    → Says rows new.info.agent new.info.arrival r
    → ((y : ℕ) → y ≢ r → Says rows (entry no_request all y).info.agent (entry no_request all y).info.arrival y)
    → (x ≡ r) ⊎ (x ≡ r → ⊥) → Says rows (entry no_request (put no_request all r new) x).info.agent (entry no_request (put no_request all r new) x).info.arrival x
unfolding Says
said_by all rows r x new here others (inl same) = rw (same, entry_put_same no_request all r new) here
said_by all rows r x new here others (inr other) = rw (entry_put_other no_request all r x new other) (others x other)

said : (all : List Request) (rows : List (List ℕ)) (r : ℕ) (new : Request)
    → Says rows new.info.agent new.info.arrival r
    → ((y : ℕ) → y ≢ r → Says rows (entry no_request all y).info.agent (entry no_request all y).info.arrival y)
    → AreNoted (put no_request all r new) rows
unfolding Says
said all rows r new here others = record { at = λ x. said_by all rows r x new here others (cases_eq x r) }

-- the place is free
free_noted : (all : List Request) (rows : List (List ℕ)) (r : ℕ) (new : Request) → AreNoted all rows
    → has_slot rows new.info.agent new.info.arrival ≡ true → slot rows new.info.agent new.info.arrival ≡ 0
    → AreNoted (put no_request all r new) (with_slot rows new.info.agent new.info.arrival (r + 1))
unfolding Says
free_noted all rows r new are has free =
    let agent = new.info.agent in
    let k = new.info.arrival in
    said all (with_slot rows agent k (r + 1)) r new
    (λ some there. slot_same rows agent k (r + 1) has ∙ omega arith)
    (λ y other some there.
    let was = are.at y some (rw (places_stay rows agent k (r + 1) (entry no_request all y).info.agent (entry no_request all y).info.arrival has) at there) in
    slot_other rows agent k (r + 1) (entry no_request all y).info.agent (entry no_request all y).info.arrival has (cases_eq (entry no_request all y).info.agent agent) (cases_eq (entry no_request all y).info.arrival k)
    (λ none. absurd (let z : suc y ≡ 0 = sym was ∙ none in omega arith)) free
    ∙ was)

-- the rows stay
rows_stay : (all : List Request) (rows : List (List ℕ)) (r : ℕ) (new : Request) → AreNoted all rows → Says rows new.info.agent new.info.arrival r → AreNoted (put no_request all r new) rows
unfolding Says
rows_stay all rows r new are here = said all rows r new here (λ y other. are.at y)

at_by : (all : List Request) (A : Noted) (r old : ℕ) (new : Request) (b c : Bool) → (old == 0) ≡ b → (old == r + 1) ≡ c → IsNoted all A
    → has_slot A.rows new.info.agent new.info.arrival ≡ true → slot A.rows new.info.agent new.info.arrival ≡ old
    → IsNoted (put no_request all r new) (if b then record A { rows = with_slot A.rows new.info.agent new.info.arrival (r + 1) } else if c then A else record A { twice = true })
unfolding Says
at_by all A r old new true c e f is has held =
    record { once = λ once. free_noted all A.rows r new (is.once once) has (held ∙ eqb-true old 0 e) }
at_by all A r old new false true e f is has held =
    record { once = λ once. rows_stay all A.rows r new (is.once once) (λ some there. held ∙ (eqb-true old (r + 1) f ∙ omega arith)) }
at_by all A r old new false false e f is has held =
    record { once = λ once. absurd (let z : ⊥ = cc in z) }

noted_by : (all : List Request) (A : Noted) (r : ℕ) (new : Request) (b c : Bool) → (new.info.arrival == 0) ≡ b → has_slot A.rows new.info.agent new.info.arrival ≡ c → IsNoted all A
    → IsNoted (put no_request all r new) (if b || not c then A else noted_at A new.info.agent new.info.arrival r (slot A.rows new.info.agent new.info.arrival))
unfolding Says
noted_by all A r new true c e f is =
    record { once = λ once. rows_stay all A.rows r new (is.once once) (λ some there. let none : new.info.arrival ≡ 0 = eqb-true new.info.arrival 0 e in absurd (omega arith)) }
noted_by all A r new false false e f is =
    record { once = λ once. rows_stay all A.rows r new (is.once once) (λ some there. absurd (let z : ⊥ = cc in z)) }
noted_by all A r new false true e f is =
    let old = slot A.rows new.info.agent new.info.arrival in
    at_by all A r old new (old == 0) (old == r + 1) refl refl is f refl

-- what is noted stays right where an entry is written
pub noted_put : (all : List Request) (A : Noted) (r : ℕ) (new : Request) → IsNoted all A → IsNoted (put no_request all r new) (noted A new.info.agent new.info.arrival r)
noted_put all A r new is = noted_by all A r new (new.info.arrival == 0) (has_slot A.rows new.info.agent new.info.arrival) refl refl is

pub none_noted : (A : Noted) → IsNoted [] A
none_noted A = record { once = λ once. record { at = λ r some there. absurd (omega arith) } }
