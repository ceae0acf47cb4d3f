-- What the counts say: how many requests of a device are unsettled, and whether a resume is due.
use Rattle.std.proofs.Common.{if◌then◌else◌, ◌≡◌, ℕ, suc, ◌+◌, ◌<◌, ◌==◌, nat_lt, Bool, true, false, not, ◌&&◌, List, [], ◌∷◌, Some, None, length, count_by, refl, sym, ap, ◌∙◌, arith, add-zero}
use Rattle.std.specs.List.{list_any, range_with_len}
use Rattle.std.proofs.Math.Bool.{and-false, and-true}
use Rattle.std.proofs.lemmas.List.Sums.{length-filter}
use Rattle.wdf_base.specs.declared.ids.ObjectId.{ObjectId}
use Rattle.wdf_model.specs.declared.entries.Holding.{Holding}
use Rattle.wdf_model.specs.declared.room.TheConstants.{OBJECTS}
use Rattle.wdf_model.specs.Tables.{entry, flag}
use Rattle.wdf_model.specs.parts.Power as power
use Rattle.wdf_model.proofs.Counts.{count_cons}
use Rattle.wdf_maps.specs.Counts.{AreCounted, is_at}
use Rattle.wdf_maps.proofs.Counting.{any_at, any_counted, any_same}
use Rattle.wdf_power.specs.Power.{device_at, due_at, resume_of, unsettled_at}

-- tests that agree count alike
count_alike : {T : Type 0} (p q : T → Bool) → ((x : T) → p x ≡ q x) → (xs : List T) → count_by p xs ≡ count_by q xs
count_alike p q same [] = refl
count_alike p q same (x ∷ xs) =
    let e = count_cons p x xs in
    let f = count_cons q x xs in
    let first : flag (p x) ≡ flag (q x) = ap flag (same x) in
    let rest : count_by p xs ≡ count_by q xs = count_alike p q same xs in
    omega arith

-- the ids whose entries pass are as many as the entries that pass
pub count_ids : {T : Type 0} (p : T → Bool) (blank : T) (xs : List T) (f : ℕ → T) (from : ℕ) → ((k : ℕ) → f (from + k) ≡ entry blank xs k)
    → count_by (λ r. p (f r)) (range_with_len from (length xs)) ≡ count_by p xs
count_ids p blank [] f from h = refl
count_ids p blank (x ∷ xs) f from h =
    let first : f from ≡ x = ap f (sym (add-zero from)) ∙ h 0 in
    let passes : flag (p (f from)) ≡ flag (p x) = ap (λ y. flag (p y)) first in
    let rest : count_by (λ r. p (f r)) (range_with_len (from + 1) (length xs)) ≡ count_by p xs =
    count_ids p blank xs f (from + 1) (λ k. let e : (from + 1) + k ≡ from + suc k = omega arith in ap f e ∙ h (suc k)) in
    let e : count_by (λ r. p (f r)) (range_with_len from (length (x ∷ xs))) ≡ flag (p (f from)) + count_by (λ r. p (f r)) (range_with_len (from + 1) (length xs)) =
    count_cons (λ r. p (f r)) from (range_with_len (from + 1) (length xs)) in
    let g = count_cons p x xs in
    omega arith

-- what is held, and passes, at a device
held_with : (held passes : Bool) (device : ObjectId) (d : ℕ) → is_at d (if held && passes then Some device else None) ≡ ((held && (device.0 == d)) && passes)
held_with false passes device d = refl
held_with true true device d = sym (and-true (device.0 == d))
held_with true false device d = sym (and-false (device.0 == d))

-- the requests that are held at a device and aren't acknowledged are the unsettled ones
pub unsettled_found : (P : power.Power) (d : ℕ) → count_by (λ h. is_at d (unsettled_at P.queues h)) P.holdings ≡ length (power.unsettled P d)
unsettled_found P d =
    let ids = range_with_len 0 (length P.holdings) in
    let p : Holding → Bool = power.is_unsettled_at P d in
    let f : count_by (λ h. is_at d (unsettled_at P.queues h)) P.holdings ≡ count_by p P.holdings =
    count_alike (λ h. is_at d (unsettled_at P.queues h)) p (λ h. held_with (power.is_held h) (not h.acknowledged) (device_at P.queues h) d) P.holdings in
    let g : count_by (λ r. p (power.holding_of P r)) ids ≡ count_by p P.holdings =
    count_ids p power.no_holding P.holdings (power.holding_of P) 0 (λ k. let z : 0 + k ≡ k = omega arith in ap (power.holding_of P) z) in
    f ∙ sym g ∙ sym (length-filter (λ r. p (power.holding_of P r)) ids)

pub unsettled_counted : (P : power.Power) (counts : List ℕ) (d : ℕ) → AreCounted (unsettled_at P.queues) P.holdings counts → d < OBJECTS
    → entry 0 counts d ≡ length (power.unsettled P d)
unsettled_counted P counts d counted within = counted.count d within ∙ unsettled_found P d

-- a resume is due for some request exactly where one is found that is held with it
pub due_found : (P : power.Power) (d : ℕ) → list_any (λ h. is_at d (due_at P.queues h)) P.holdings ≡ power.any_resume_due P d
due_found P d =
    any_same (λ h. is_at d (due_at P.queues h)) (λ h. power.is_held_at P d h && h.resume_due) P.holdings (λ h. held_with (power.is_held h) h.resume_due (device_at P.queues h) d)

pub due_counted : (P : power.Power) (counts : List ℕ) (d : ℕ) → AreCounted (due_at P.queues) P.holdings counts → d < OBJECTS
    → nat_lt 0 (entry 0 counts d) ≡ power.any_resume_due P d
due_counted P counts d counted within =
    let p : Holding → Bool = λ h. is_at d (due_at P.queues h) in
    let e : entry 0 counts d ≡ count_by p P.holdings = counted.count d within in
    ap (nat_lt 0) e ∙ any_counted p P.holdings ∙ due_found P d

-- what is counted at the id 0 has a resume that is due
at_zero : (due : Bool) → is_at 0 (if due then Some (record { 0 = 0 }) else None) ≡ due
at_zero false = refl
at_zero true = refl

pub resume_counted : (P : power.Power) (counts : List ℕ) → AreCounted resume_of P.holdings counts → nat_lt 0 (entry 0 counts 0) ≡ list_any (λ h. h.resume_due) P.holdings
resume_counted P counts counted =
    any_at resume_of (λ h. h.resume_due) P.holdings counts 0 (omega arith) counted (λ h. at_zero h.resume_due)
