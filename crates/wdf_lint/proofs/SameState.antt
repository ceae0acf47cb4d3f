-- The equality that the walk's table uses is that of states.
use Rattle.std.proofs.Common.{◌==◌, nat_eq, ◌≡◌, Bool, true, false, ◌&&◌, List, [], ◌∷◌, refl, rules}
use mathlib.Core.Bool.{beq}
use Rattle.std.proofs.lemmas.Bool.Decides.{Decides-eqb}
use Rattle.std.specs.Cmp.Lexicographic.{pointwise}
use Rattle.wdf_lint.specs.declared.state.Abstract.{Abstract}
use Rattle.wdf_lint.specs.declared.state.Known.{Known}
use Rattle.wdf_lint.specs.declared.state.Hold.{Hold}
use Rattle.wdf_lint.specs.declared.state.HeldLock.{HeldLock}
use Rattle.wdf_lint.specs.contracts.state.AbstractPartialEq.TheImpl as impl
use Rattle.wdf_lint.specs.contracts.state.KnownPartialEq.TheImpl as of_known
use Rattle.wdf_lint.specs.contracts.state.HoldPartialEq.TheImpl as of_hold
use Rattle.wdf_lint.specs.contracts.state.HeldLockPartialEq.TheImpl as of_lock

abbrev pub eq : Abstract → Abstract → Bool
eq = impl.eq-value.it

split : (b c : Bool) → (b && c) ≡ true → (b ≡ true) × (c ≡ true)
split true c h = (refl, h)
split false c h = absurd (let z : ⊥ = cc in z)

known_same : (x y : Known) → of_known.eq-value.it x y ≡ true → x ≡ y
known_same x y h = search rules

hold_same : (x y : Hold) → of_hold.eq-value.it x y ≡ true → x ≡ y
hold_same x y h = search rules

lock_same : (x y : HeldLock) → of_lock.eq-value.it x y ≡ true → x ≡ y
lock_same x y h = search rules

bool_same : (x y : Bool) → beq x y ≡ true → x ≡ y
bool_same x y h = search rules

module _ {T : Type 0} (eq : T → T → Bool) (same : (x y : T) → eq x y ≡ true → x ≡ y) where
  list_same : (xs ys : List T) → pointwise eq xs ys ≡ true → xs ≡ ys
  list_same [] [] h = refl
  list_same [] (y ∷ ys) h = absurd (let z : ⊥ = cc in z)
  list_same (x ∷ xs) [] h = absurd (let z : ⊥ = cc in z)
  list_same (x ∷ xs) (y ∷ ys) h = let s = split (eq x y) (pointwise eq xs ys) h in rw (same x y s.0) (rw (list_same xs ys s.1) refl)

pub eq_same : (x y : Abstract) → eq x y ≡ true → x ≡ y
eq_same x y h =
    let a = split (x.at == y.at) _ h in
    let b = split (pointwise of_known.eq-value.it x.variables y.variables) (of_hold.eq-value.it x.hold y.hold && (beq x.acknowledged y.acknowledged && (of_lock.eq-value.it x.lock y.lock && pointwise nat_eq x.interrupts y.interrupts))) a.1 in
    let c = split (of_hold.eq-value.it x.hold y.hold) (beq x.acknowledged y.acknowledged && (of_lock.eq-value.it x.lock y.lock && pointwise nat_eq x.interrupts y.interrupts)) b.1 in
    let d = split (beq x.acknowledged y.acknowledged) (of_lock.eq-value.it x.lock y.lock && pointwise nat_eq x.interrupts y.interrupts) c.1 in
    let e = split (of_lock.eq-value.it x.lock y.lock) (pointwise nat_eq x.interrupts y.interrupts) d.1 in
    let at : x.at ≡ y.at = (Decides-eqb x.at y.at).0 a.0 in
    let variables : x.variables ≡ y.variables = list_same of_known.eq-value.it known_same x.variables y.variables b.0 in
    let hold : x.hold ≡ y.hold = hold_same x.hold y.hold c.0 in
    let acknowledged : x.acknowledged ≡ y.acknowledged = bool_same x.acknowledged y.acknowledged d.0 in
    let lock : x.lock ≡ y.lock = lock_same x.lock y.lock e.0 in
    let interrupts : x.interrupts ≡ y.interrupts = list_same nat_eq (λ m n. (Decides-eqb m n).0) x.interrupts y.interrupts e.1 in
    rw at (rw variables (rw hold (rw acknowledged (rw lock (rw interrupts refl)))))

-- ---- each state is equal to itself

known_itself : (x : Known) → of_known.eq-value.it x x ≡ true
known_itself x = search rules

hold_itself : (x : Hold) → of_hold.eq-value.it x x ≡ true
hold_itself x = search rules

lock_itself : (x : HeldLock) → of_lock.eq-value.it x x ≡ true
lock_itself x = search rules

bool_itself : (x : Bool) → beq x x ≡ true
bool_itself x = search rules

join : (b c : Bool) → b ≡ true → c ≡ true → (b && c) ≡ true
join b c e f = rw e (rw f refl)

module _ {T : Type 0} (eq : T → T → Bool) (itself : (x : T) → eq x x ≡ true) where
  list_itself : (xs : List T) → pointwise eq xs xs ≡ true
  list_itself [] = refl
  list_itself (x ∷ xs) = join (eq x x) (pointwise eq xs xs) (itself x) (list_itself xs)

pub eq_itself : (x : Abstract) → eq x x ≡ true
eq_itself x =
    join (x.at == x.at) (pointwise of_known.eq-value.it x.variables x.variables && (of_hold.eq-value.it x.hold x.hold && (beq x.acknowledged x.acknowledged && (of_lock.eq-value.it x.lock x.lock && pointwise nat_eq x.interrupts x.interrupts)))) ((Decides-eqb x.at x.at).1 refl)
    (join (pointwise of_known.eq-value.it x.variables x.variables) (of_hold.eq-value.it x.hold x.hold && (beq x.acknowledged x.acknowledged && (of_lock.eq-value.it x.lock x.lock && pointwise nat_eq x.interrupts x.interrupts))) (list_itself of_known.eq-value.it known_itself x.variables)
    (join (of_hold.eq-value.it x.hold x.hold) (beq x.acknowledged x.acknowledged && (of_lock.eq-value.it x.lock x.lock && pointwise nat_eq x.interrupts x.interrupts)) (hold_itself x.hold)
    (join (beq x.acknowledged x.acknowledged) (of_lock.eq-value.it x.lock x.lock && pointwise nat_eq x.interrupts x.interrupts) (bool_itself x.acknowledged)
    (join (of_lock.eq-value.it x.lock x.lock) (pointwise nat_eq x.interrupts x.interrupts) (lock_itself x.lock)
    (list_itself nat_eq (λ n. (Decides-eqb n n).1 refl) x.interrupts)))))
