-- Maps by id: what is read after a write, and how a write is done in a list that holds the id.
use Rattle.std.proofs.Common.{if◌then◌else◌, ◌==◌, Bool, true, false, map, sym, ◌≡◌, ◌≢◌, ℕ, zero, suc, ◌+◌, ◌<◌, ◌≤◌, List, [], ◌∷◌, ◌++◌, length, replicate, refl, ap, arith, slice_set, zero-add}
use Rattle.std.proofs.lemmas.Bool.{eq-eqb, eqb-true}
use Rattle.wdf_model.specs.Tables.{entry, put}

-- where the id has an entry, a write is that of a list
pub put_within : {T : Type 0} (blank : T) (xs : List T) (id : ℕ) (new : T) → id < length xs → put blank xs id new ≡ slice_set xs id new
put_within blank [] id new h = absurd (omega arith)
put_within blank (x ∷ xs) zero new h = refl
put_within blank (x ∷ xs) (suc id) new h = ap (λ ys. x ∷ ys) (put_within blank xs id new (omega arith))

-- after the end, blank entries come first
pub put_behind : {T : Type 0} (blank : T) (xs : List T) (more : ℕ) (new : T) → put blank xs (length xs + more) new ≡ xs ++ replicate more blank ++ new ∷ []
put_behind blank [] zero new = refl
put_behind {T} blank [] (suc more) new =
    let nil : List T = [] in
    let e : length nil + suc more ≡ suc more = zero-add (suc more) in
    let f : length nil + more ≡ more = zero-add more in
    rw e (ap (λ ys. blank ∷ ys) (rw f at (put_behind blank nil more new)))
put_behind blank (x ∷ xs) more new =
    let e : length (x ∷ xs) + more ≡ suc (length xs + more) = omega arith in
    rw e (ap (λ ys. x ∷ ys) (put_behind blank xs more new))

-- just after the end, no blank entry comes
pub put_next : {T : Type 0} (blank : T) (xs : List T) (new : T) → put blank xs (length xs) new ≡ xs ++ new ∷ []
put_next blank [] new = refl
put_next blank (x ∷ xs) new = ap (λ ys. x ∷ ys) (put_next blank xs new)

-- of two writes at one id the later one counts
pub put_put : {T : Type 0} (blank : T) (xs : List T) (id : ℕ) (old new : T) → put blank (put blank xs id old) id new ≡ put blank xs id new
put_put blank [] zero old new = refl
put_put blank [] (suc id) old new = ap (λ ys. blank ∷ ys) (put_put blank [] id old new)
put_put blank (x ∷ xs) zero old new = refl
put_put blank (x ∷ xs) (suc id) old new = ap (λ ys. x ∷ ys) (put_put blank xs id old new)

-- the entry that was written
pub entry_put_same : {T : Type 0} (blank : T) (xs : List T) (id : ℕ) (new : T) → entry blank (put blank xs id new) id ≡ new
entry_put_same blank [] zero new = refl
entry_put_same blank [] (suc id) new = entry_put_same blank [] id new
entry_put_same blank (x ∷ xs) zero new = refl
entry_put_same blank (x ∷ xs) (suc id) new = entry_put_same blank xs id new

-- the others stay
pub entry_put_other : {T : Type 0} (blank : T) (xs : List T) (id other : ℕ) (new : T) → other ≢ id → entry blank (put blank xs id new) other ≡ entry blank xs other
entry_put_other blank [] zero zero new h = absurd (h refl)
entry_put_other blank [] zero (suc other) new h = refl
entry_put_other blank [] (suc id) zero new h = refl
entry_put_other blank [] (suc id) (suc other) new h = entry_put_other blank [] id other new (λ e. h (ap suc e))
entry_put_other blank (x ∷ xs) zero zero new h = absurd (h refl)
entry_put_other blank (x ∷ xs) zero (suc other) new h = refl
entry_put_other blank (x ∷ xs) (suc id) zero new h = refl
entry_put_other blank (x ∷ xs) (suc id) (suc other) new h = entry_put_other blank xs id other new (λ e. h (ap suc e))

-- what is read after a write
entry_put_by : {T : Type 0} (blank : T) (xs : List T) (id other : ℕ) (new : T) (b : Bool) → (other == id) ≡ b
    → entry blank (put blank xs id new) other ≡ (if b then new else entry blank xs other)
entry_put_by blank xs id other new true e = let same : other ≡ id = eqb-true other id e in rw same (entry_put_same blank xs id new)
entry_put_by blank xs id other new false e =
    entry_put_other blank xs id other new (λ same. let yes : (other == id) ≡ true = eq-eqb other id same in let z : ⊥ = cc in z)

pub entry_put : {T : Type 0} (blank : T) (xs : List T) (id other : ℕ) (new : T) → entry blank (put blank xs id new) other ≡ (if other == id then new else entry blank xs other)
entry_put blank xs id other new = entry_put_by blank xs id other new (other == id) refl

-- what is read after each entry was changed by what leaves the blank entry alone
pub entry_map : {T : Type 0} (blank : T) (xs : List T) (g : T → T) (id : ℕ) → g blank ≡ blank → entry blank (map g xs) id ≡ g (entry blank xs id)
entry_map blank [] g zero e = sym e
entry_map blank [] g (suc id) e = sym e
entry_map blank (x ∷ xs) g zero e = refl
entry_map blank (x ∷ xs) g (suc id) e = entry_map blank xs g id e

-- after the end come blank entries
pub entry_past : {T : Type 0} (blank : T) (xs : List T) (id : ℕ) → length xs ≤ id → entry blank xs id ≡ blank
entry_past blank [] id h = refl
entry_past blank (x ∷ xs) zero h = absurd (omega arith)
entry_past blank (x ∷ xs) (suc id) h = entry_past blank xs id (omega arith)

-- how long a map is after a write
pub put_short : {T : Type 0} (blank : T) (xs : List T) (id : ℕ) (new : T) (n : ℕ) → id < n → length xs ≤ n → length (put blank xs id new) ≤ n
put_short blank xs id new zero h k = absurd (omega arith)
put_short blank [] zero new (suc n) h k = omega arith
put_short blank [] (suc id) new (suc n) h k = let e = put_short blank [] id new n (omega arith) (omega arith) in omega arith
put_short blank (x ∷ xs) zero new (suc n) h k = k
put_short blank (x ∷ xs) (suc id) new (suc n) h k = let e = put_short blank xs id new n (omega arith) (omega arith) in omega arith

pub put_long : {T : Type 0} (blank : T) (xs : List T) (id : ℕ) (new : T) → length xs ≤ length (put blank xs id new)
put_long blank [] id new = omega arith
put_long blank (x ∷ xs) zero new = omega arith
put_long blank (x ∷ xs) (suc id) new = let e = put_long blank xs id new in omega arith

-- what is read after an entry more
pub entry_last : {T : Type 0} (blank : T) (xs : List T) (x : T) → entry blank (xs ++ x ∷ []) (length xs) ≡ x
entry_last blank [] x = refl
entry_last blank (y ∷ ys) x = entry_last blank ys x

pub entry_before : {T : Type 0} (blank : T) (xs : List T) (x : T) (id : ℕ) → id ≢ length xs → entry blank (xs ++ x ∷ []) id ≡ entry blank xs id
entry_before blank [] x zero h = absurd (h refl)
entry_before blank [] x (suc id) h = refl
entry_before blank (y ∷ ys) x zero h = refl
entry_before blank (y ∷ ys) x (suc id) h = entry_before blank ys x id (λ e. h (ap suc e))

-- what is read after an entry of a list became blank, or what it was
pub entry_blanked : {T : Type 0} (blank : T) (xs : List T) (id : ℕ) → entry blank (slice_set xs id blank) id ≡ blank
entry_blanked blank [] id = refl
entry_blanked blank (x ∷ xs) zero = refl
entry_blanked blank (x ∷ xs) (suc id) = entry_blanked blank xs id

pub entry_set_other : {T : Type 0} (blank : T) (xs : List T) (id other : ℕ) (new : T) → other ≢ id → entry blank (slice_set xs id new) other ≡ entry blank xs other
entry_set_other blank [] id other new h = refl
entry_set_other blank (x ∷ xs) zero zero new h = absurd (h refl)
entry_set_other blank (x ∷ xs) zero (suc other) new h = refl
entry_set_other blank (x ∷ xs) (suc id) zero new h = refl
entry_set_other blank (x ∷ xs) (suc id) (suc other) new h = entry_set_other blank xs id other new (λ e. h (ap suc e))

-- what is read after an entry was changed by what leaves the blank entry alone, in or out of the list
pub set_read : {T : Type 0} (blank : T) (g : T → T) (xs : List T) (id : ℕ) → g blank ≡ blank → entry blank (slice_set xs id (g (entry blank xs id))) id ≡ g (entry blank xs id)
set_read blank g [] id e = sym e
set_read blank g (x ∷ xs) zero e = refl
set_read blank g (x ∷ xs) (suc id) e = set_read blank g xs id e

pub set_as_it_was : {T : Type 0} (blank : T) (xs : List T) (id : ℕ) → slice_set xs id (entry blank xs id) ≡ xs
set_as_it_was blank [] id = refl
set_as_it_was blank (x ∷ xs) zero = refl
set_as_it_was blank (x ∷ xs) (suc id) = ap (λ ys. x ∷ ys) (set_as_it_was blank xs id)

pub as_long : {T : Type 0} (xs : List T) (id : ℕ) (new : T) → length (slice_set xs id new) ≡ length xs
as_long [] id new = refl
as_long (x ∷ xs) zero new = refl
as_long (x ∷ xs) (suc id) new = ap suc (as_long xs id new)
