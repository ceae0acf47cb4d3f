-- Numbers that are put at an id.
use Rattle.std.proofs.Common.{◌≡◌, ℕ, ◌+◌, Bool, true, false, not, nat_eq, if◌then◌else◌, max, Option, Some, refl, ap, arith}
use Rattle.std.proofs.lemmas.Bool.Decides.{nat_tests}
use Rattle.wdf_laws.specs.Events.{is_id, where_so}
use Rattle.check_past.specs.declared.shown.Shown.{Shown}
use Rattle.check_past.specs.Maps.{or_zero, put_at, counted}
use Rattle.check_past.specs.Order.{tail_queue, with_entry}

pub same_id : (x y : ℕ) → nat_eq x y ≡ true → x ≡ y
same_id x y h = grind (arith, nat_tests)

-- one more counted at an id
count_case : (old : ℕ → Option ℕ) (id q : ℕ) (b : Bool) → nat_eq id q ≡ b
    → or_zero (if b then Some (or_zero (old id) + 1) else old q) ≡ or_zero (old q) + (if b then 1 else 0)
count_case old id q true h = ap (λ x. or_zero (old x) + 1) (same_id id q h)
count_case old id q false h = omega arith

pub counted_at : (old : ℕ → Option ℕ) (id q n : ℕ) → n ≡ or_zero (old id) → or_zero (put_at (Some id) (n + 1) q (old q)) ≡ counted (Some id) q (or_zero (old q))
counted_at old id q n h = rw h (count_case old id q (nat_eq id q) refl)

-- the greatest kept at a queue
entry_case : (old : ℕ → Option ℕ) (queue entry q : ℕ) (b : Bool) → nat_eq queue q ≡ b
    → or_zero (if b then Some (max (or_zero (old queue)) entry) else old q) ≡ (if b then max (or_zero (old q)) entry else or_zero (old q))
entry_case old queue entry q true h = ap (λ x. max (or_zero (old x)) entry) (same_id queue q h)
entry_case old queue entry q false h = refl

entry_where : (old : ℕ → Option ℕ) (queue entry q : ℕ) (tail : Bool)
    → or_zero (put_at (where_so tail (Some queue)) (max (or_zero (old queue)) entry) q (old q)) ≡ (if is_id q (where_so tail (Some queue)) then max (or_zero (old q)) entry else or_zero (old q))
entry_where old queue entry q true = entry_case old queue entry q (nat_eq queue q) refl
entry_where old queue entry q false = refl

pub entry_kept : (old : ℕ → Option ℕ) (s : Shown) (q n : ℕ) → n ≡ max (or_zero (old s.queue)) s.entry → or_zero (put_at (tail_queue s) n q (old q)) ≡ with_entry q (Some s) (or_zero (old q))
entry_kept old s q n h = rw h (entry_where old s.queue s.entry q (not s.at_head))

number_where : (o : Option ℕ) (q n : ℕ) (id : Option ℕ) (b : Bool) → is_id q id ≡ b → or_zero (if b then Some n else o) ≡ (if b then n else or_zero o)
number_where o q n id true h = refl
number_where o q n id false h = refl

pub number_kept : (o : Option ℕ) (q n : ℕ) (id : Option ℕ) → or_zero (put_at id n q o) ≡ (if is_id q id then n else or_zero o)
number_kept o q n id = number_where o q n id (is_id q id) refl
