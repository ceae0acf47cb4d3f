-- A frame holds by calls the locks that its walk says, and no others.
use Rattle.std.proofs.Common.{if◌then◌else◌, ◌≡◌, ◌≢◌, ℕ, zero, suc, ◌+◌, ◌==◌, ◌≤◌, Bool, true, false, ◌&&◌, ◌||◌, List, [], ◌∷◌, inl, inr, is_some, length, count_by, slice_index_or, slice_set, refl, sym, ap, subst, ◌∙◌, arith}
use Rattle.std.specs.Prelude.{⊤}
use Rattle.std.proofs.lemmas.Bool.{cases_Bool, eqb-true}
use Rattle.wdf_base.specs.declared.plan.Plan.{Plan}
use Rattle.wdf_base.specs.declared.object.LockRef.{LockRef}
use Rattle.wdf_base.specs.declared.value.Value.{Value}
use Rattle.wdf_base.specs.declared.value.Value.TheVariants.{Num}
use Rattle.wdf_base.specs.declared.call.Arg.TheVariants.{Val}
use Rattle.wdf_base.specs.declared.frame.Frame.{Frame}
use Rattle.wdf_base.specs.Resolved.{IsResolved}
use Rattle.wdf_base.specs.Same.{same_lock}
use Rattle.wdf_model.specs.declared.entries.Held.{Held}
use Rattle.wdf_model.specs.Tables.{contains, flag}
use Rattle.wdf_model.specs.Plans.{interrupt_of}
use Rattle.wdf_model.specs.parts.Locks.{Locks, held_by_call, object_lock}
use Rattle.wdf_model.specs.State.{object_in}
use Rattle.wdf_model.proofs.Counts.{count_cons, equal, not_equal, one_or_two}
use Rattle.wdf_lint.specs.declared.state.Abstract.{Abstract}
use Rattle.wdf_lint.specs.declared.state.HeldLock.{HeldLock}
use Rattle.wdf_lint.specs.declared.state.HeldLock.TheVariants as lock
use Rattle.wdf_lint.specs.Abstracts.{lock_after}
use Rattle.wdf_model.proofs.Sames.{one_lock}
use Rattle.law_trace_once.proofs.Words.{found_counts}
use Rattle.law_lint.proofs.Frames.{Assigned, One, Same}
use Rattle.law_lint.proofs.Holdings.{HasLock, Left}
use Rattle.law_lint.proofs.Weights.{Single, absent, lock_weight, weight, written}
use Rattle.law_trace_scopes.proofs.Holding.{two_holds}

-- ---- what a frame holds

-- the object that a variable names
abbrev pub object_at : List Value → ℕ → ℕ
object_at vars v = object_in (Val (slice_index_or vars v (Num 0)))

-- an interrupt is declared under this id
abbrev pub is_interrupt : Plan → ℕ → Bool
is_interrupt plan x = is_some (interrupt_of plan x)

-- a spin or wait lock, by a call
pub record HasPlain (plan : Plan) (L : Locks) (f x : ℕ) : Type 0 where
  pub has : HasLock L f x
  pub plain : is_interrupt plan x ≡ false

-- the one that the walk says
abbrev pub HasIn : Plan → Locks → ℕ → List Value → HeldLock → Type 0
HasIn plan L f vars lock.Free = ⊤
HasIn plan L f vars (lock.In v) = HasPlain plan L f (object_at vars v)
HasIn plan L f vars lock.Lost = (x : ℕ) × HasPlain plan L f x

-- what a walk's state says of the locks of its frame, with these variables: in a resolved plan also which they are
pub record HeldAs (plan : Plan) (L : Locks) (f : ℕ) (vars : List Value) (a : Abstract) : Type 0 where
  -- no more locks than it says, and each interrupt's once
  pub few : held_by_call L f ≤ weight a
  pub single : Single a.interrupts
  -- the spin or wait lock, in the variable that it says, and the locks of these interrupts
  pub plain : IsResolved plan → HasIn plan L f vars a.lock
  pub interrupts : IsResolved plan → (i : ℕ) → contains i a.interrupts ≡ true → HasLock L f i × (is_interrupt plan i ≡ true)

-- ---- others leave it

pub has_kept : (plan : Plan) (K L : Locks) (f : ℕ) (vars : List Value) (l : HeldLock) → ((x : ℕ) → is_interrupt plan x ≡ false → HasLock K f x → HasLock L f x) → HasIn plan K f vars l → HasIn plan L f vars l
has_kept plan K L f vars lock.Free keeps h = tt
has_kept plan K L f vars (lock.In v) keeps h = record { has = keeps (object_at vars v) h.plain h.has; plain = h.plain }
has_kept plan K L f vars lock.Lost keeps h = (h.0, record { has = keeps h.0 h.1.plain h.1.has; plain = h.1.plain })

pub held_later : (plan : Plan) (K L : Locks) (f : ℕ) (vars : List Value) (a : Abstract) → Left K L f → HeldAs plan K f vars a → HeldAs plan L f vars a
held_later plan K L f vars a left h = record {
  few = let less = left.fewer in let old = h.few in omega arith;
  single = h.single;
  plain = λ res. has_kept plan K L f vars a.lock (λ x off has. left.keeps x has) (h.plain res);
  interrupts = λ res i is. let old = h.interrupts res i is in (left.keeps i old.0, old.1);
}

-- ---- a variable is written

set_other : (vs : List Value) (x y : ℕ) (v d : Value) → x ≢ y → slice_index_or (slice_set vs x v) y d ≡ slice_index_or vs y d
set_other [] x y v d n = refl
set_other (w ∷ vs) zero zero v d n = absurd (n refl)
set_other (w ∷ vs) zero (suc y) v d n = refl
set_other (w ∷ vs) (suc x) zero v d n = refl
set_other (w ∷ vs) (suc x) (suc y) v d n = set_other vs x y v d (λ e. n (ap suc e))

has_written : (plan : Plan) (L : Locks) (f : ℕ) (vars : List Value) (l : HeldLock) (x : ℕ) (v : Value) → HasIn plan L f vars l → HasIn plan L f (slice_set vars x v) (lock_after l x)
has_written plan L f vars lock.Free x v h = tt
has_written plan L f vars lock.Lost x v h = h
has_written plan L f vars (lock.In w) x v h = by (w == x) refl
  where
    by : (b : Bool) → (w == x) ≡ b → HasIn plan L f (slice_set vars x v) (if b then lock.Lost else lock.In w)
    by true e = (object_at vars w, h)
    by false e =
        let n : x ≢ w = λ s. (let yes : (w == x) ≡ true = equal w x (sym s) in let z : ⊥ = cc in z) in
        subst (HasPlain plan L f) (ap (λ u. object_in (Val u)) (sym (set_other vars x w v (Num 0) n))) h

pub assigned_weight : (a : Abstract) (f : Frame) (b : Abstract) (g : Frame) → Assigned a f b g → b.interrupts ≡ a.interrupts → weight b ≡ weight a
assigned_weight a f b g w i = let n : length b.interrupts ≡ length a.interrupts = ap length i in let l = by w in omega arith
  where
    by : Assigned a f b g → lock_weight b.lock ≡ lock_weight a.lock
    by (Same e d l) = ap lock_weight l
    by (One x k v is e d l) = ap lock_weight l ∙ written a.lock x

pub held_assigned : (plan : Plan) (L : Locks) (n : ℕ) (a : Abstract) (f : Frame) (b : Abstract) (g : Frame) → Assigned a f b g → b.interrupts ≡ a.interrupts → HeldAs plan L n f.variables a → HeldAs plan L n g.variables b
held_assigned plan L n a f b g w same h = record {
  few = let weighs = assigned_weight a f b g w same in let old = h.few in omega arith;
  single = subst Single (sym same) h.single;
  plain = λ res. by res w;
  interrupts = λ res i is. h.interrupts res i (ap (contains i) (sym same) ∙ is);
}
  where
    by : IsResolved plan → Assigned a f b g → HasIn plan L n g.variables b.lock
    by res (Same e d l) = subst (λ vs. HasIn plan L n vs b.lock) (sym d) (subst (HasIn plan L n f.variables) (sym l) (h.plain res))
    by res (One x k v is e d l) = subst (λ vs. HasIn plan L n vs b.lock) (sym d) (subst (HasIn plan L n (slice_set f.variables x v)) (sym l) (has_written plan L n f.variables a.lock x v (h.plain res)))

-- ---- no others

-- one of these objects' locks
abbrev one_of : List ℕ → LockRef → Bool
one_of [] l = false
one_of (i ∷ is) l = same_lock l (object_lock i) || one_of is l

-- a hold by a call of frame f
abbrev by_frame : ℕ → Held → Bool
by_frame f h = h.frame.0 == f && h.by_call

one_contains : (is : List ℕ) (l : LockRef) (i : ℕ) → l ≡ object_lock i → one_of is l ≡ true → contains i is ≡ true
one_contains [] l i e h = absurd (let z : ⊥ = cc in z)
one_contains (x ∷ xs) l i e h = by (x == i) refl (λ k. one_contains xs l i e k)
  where
    by : (b : Bool) → (x == i) ≡ b → (one_of xs l ≡ true → contains i xs ≡ true) → contains i (x ∷ xs) ≡ true
    by true s rest = ap (λ c. c || contains i xs) s
    by false s rest =
        let apart : same_lock l (object_lock x) ≡ false = ap (λ m. same_lock m (object_lock x)) e ∙ not_equal i x (λ q. (let yes : (x == i) ≡ true = equal x i (sym q) in let z : ⊥ = cc in z)) in
        ap (λ c. c || contains i xs) s ∙ rest (sym (ap (λ c. c || one_of xs l) apart) ∙ h)

-- as many holds as objects, where each is held and no object is there twice
as_many : (L : Locks) (f : ℕ) (is : List ℕ) → Single is → ((i : ℕ) → contains i is ≡ true → HasLock L f i) → length is ≤ count_by (λ h. one_of is h.lock && by_frame f h) L.held
as_many L f [] single has = omega arith
as_many L f (x ∷ xs) single has =
    let mine : 1 ≤ count_by (λ h. same_lock h.lock (object_lock x) && h.frame.0 == f && h.by_call) L.held = found_counts (λ h. same_lock h.lock (object_lock x) && h.frame.0 == f && h.by_call) L.held (has x (first_there x xs)) in
    let rest = as_many L f xs (λ i. (let most = single i in let c = count_cons (λ y. y == i) x xs in omega arith)) (λ i is. has i (later_there i x xs is)) in
    let all = two_holds (λ h. same_lock h.lock (object_lock x) && h.frame.0 == f && h.by_call) (λ h. one_of xs h.lock && by_frame f h) (λ h. one_of (x ∷ xs) h.lock && by_frame f h) apart L.held in
    omega arith
  where
    first_there : (x : ℕ) (xs : List ℕ) → contains x (x ∷ xs) ≡ true
    first_there x xs = ap (λ c. c || contains x xs) (equal x x refl)

    later_there : (i x : ℕ) (xs : List ℕ) → contains i xs ≡ true → contains i (x ∷ xs) ≡ true
    later_there i x xs h = by (x == i)
      where
        by : (b : Bool) → (b || contains i xs) ≡ true
        by true = refl
        by false = h

    off : one_of xs (object_lock x) ≡ true → ⊥
    off h =
        let there : contains x xs ≡ true = one_contains xs (object_lock x) x refl h in
        let more = counted x xs there in
        let most = single x in
        let c = count_cons (λ y. y == x) x xs in
        let one : flag (x == x) ≡ 1 = ap flag (equal x x refl) in
        let z : ⊥ = omega arith in z
      where
        counted : (i : ℕ) (is : List ℕ) → contains i is ≡ true → 1 ≤ count_by (λ y. y == i) is
        counted i is h = found_counts (λ y. y == i) is h

    by : (s t b c : Bool) → (s ≡ true → t ≡ true → ⊥) → flag (s && b && c) + flag (t && (b && c)) ≤ flag ((s || t) && (b && c))
    by true true b c n = absurd (n refl refl)
    by true false true true n = omega arith
    by true false true false n = omega arith
    by true false false c n = omega arith
    by false t b c n = omega arith

    apart : (h : Held) → flag (same_lock h.lock (object_lock x) && h.frame.0 == f && h.by_call) + flag (one_of xs h.lock && by_frame f h) ≤ flag (one_of (x ∷ xs) h.lock && by_frame f h)
    apart h = by (same_lock h.lock (object_lock x)) (one_of xs h.lock) (h.frame.0 == f) h.by_call (λ a b. off (subst (λ l. one_of xs l ≡ true) (one_lock h.lock (object_lock x) a) b))

-- no more holds than all of the frame's
in_all : (L : Locks) (f : ℕ) (is : List ℕ) → count_by (λ h. one_of is h.lock && by_frame f h) L.held ≤ held_by_call L f
in_all L f is =
    let all = two_holds (λ h. false) (λ h. one_of is h.lock && by_frame f h) (by_frame f) (λ h. by (one_of is h.lock) (by_frame f h)) L.held in
    omega arith
  where
    by : (s b : Bool) → flag false + flag (s && b) ≤ flag b
    by true b = omega arith
    by false b = omega arith

-- one more object that isn't among them
single_more : (x : ℕ) (is : List ℕ) → contains x is ≡ false → Single is → Single (x ∷ is)
single_more x is off single i =
    let most = single i in
    let c = count_cons (λ y. y == i) x is in
    elim (one_or_two x i) [
      | inl e ↦ let none : count_by (λ y. y == i) is ≡ 0 = absent i is (subst (λ y. contains y is ≡ false) e off) in let one : flag (x == i) ≡ 1 = ap flag (equal x i e) in omega arith
      | inr n ↦ let none : flag (x == i) ≡ 0 = ap flag (not_equal x i n) in omega arith
    ]

held_more : (L : Locks) (f x : ℕ) (is : List ℕ) → HasLock L f x → ((i : ℕ) → contains i is ≡ true → HasLock L f i) → (i : ℕ) → contains i (x ∷ is) ≡ true → HasLock L f i
held_more L f x is has others i h = by (x == i) refl
  where
    by : (b : Bool) → (x == i) ≡ b → HasLock L f i
    by true e = subst (HasLock L f) (eqb-true x i e) has
    by false e = others i (sym (ap (λ c. c || contains i is) e) ∙ h)

-- what is no interrupt's isn't among the interrupts
plain_apart : (plan : Plan) (is : List ℕ) (x : ℕ) → is_interrupt plan x ≡ false → ((i : ℕ) → contains i is ≡ true → is_interrupt plan i ≡ true) → contains x is ≡ false
plain_apart plan is x off all = elim (cases_Bool (contains x is)) [
  | inl e ↦ absurd (let on = all x e in let z : ⊥ = cc in z)
  | inr e ↦ e
]

-- where the walk has no spin or wait lock, the frame holds none
pub none_plain : (plan : Plan) → IsResolved plan → (L : Locks) (f x : ℕ) (vars : List Value) (a : Abstract) → HeldAs plan L f vars a → lock_weight a.lock ≡ 0 → is_interrupt plan x ≡ false → HasLock L f x → ⊥
none_plain plan res L f x vars a h free off has =
    let apart : contains x a.interrupts ≡ false = plain_apart plan a.interrupts x off (λ i is. (h.interrupts res i is).1) in
    let many = as_many L f (x ∷ a.interrupts) (single_more x a.interrupts apart h.single) (held_more L f x a.interrupts has (λ i is. (h.interrupts res i is).0)) in
    let most = in_all L f (x ∷ a.interrupts) in
    let few = h.few in
    let z : ⊥ = omega arith in z

-- where the walk hasn't the lock of an interrupt, the frame doesn't hold it by a call
pub none_of_interrupt : (plan : Plan) → IsResolved plan → (L : Locks) (f i : ℕ) (vars : List Value) (a : Abstract) → HeldAs plan L f vars a → contains i a.interrupts ≡ false → is_interrupt plan i ≡ true → HasLock L f i → ⊥
none_of_interrupt plan res L f i vars a h apart is has = by a.lock refl (h.plain res)
  where
    with_more : (x : ℕ) → HasPlain plan L f x → lock_weight a.lock ≡ 1 → ⊥
    with_more x p one =
        let more = held_more L f i a.interrupts has (λ j js. (h.interrupts res j js).0) in
        let off : contains x (i ∷ a.interrupts) ≡ false = plain_apart plan (i ∷ a.interrupts) x p.plain (λ j js. among j js) in
        let many = as_many L f (x ∷ i ∷ a.interrupts) (single_more x (i ∷ a.interrupts) off (single_more i a.interrupts apart h.single)) (held_more L f x (i ∷ a.interrupts) p.has more) in
        let most = in_all L f (x ∷ i ∷ a.interrupts) in
        let few = h.few in
        let z : ⊥ = omega arith in z
      where
        among : (j : ℕ) → contains j (i ∷ a.interrupts) ≡ true → is_interrupt plan j ≡ true
        among j js = by (i == j) refl
          where
            by : (b : Bool) → (i == j) ≡ b → is_interrupt plan j ≡ true
            by true e = subst (λ y. is_interrupt plan y ≡ true) (eqb-true i j e) is
            by false e = (h.interrupts res j (sym (ap (λ c. c || contains j a.interrupts) e) ∙ js)).1

    by : (l : HeldLock) → a.lock ≡ l → HasIn plan L f vars l → ⊥
    by lock.Free e p =
        let many = as_many L f (i ∷ a.interrupts) (single_more i a.interrupts apart h.single) (held_more L f i a.interrupts has (λ j js. (h.interrupts res j js).0)) in
        let most = in_all L f (i ∷ a.interrupts) in
        let few = h.few in
        let none : lock_weight a.lock ≡ 0 = ap lock_weight e in
        let z : ⊥ = omega arith in z
    by (lock.In v) e p = with_more (object_at vars v) p (ap lock_weight e)
    by lock.Lost e p = with_more p.0 p.1 (ap lock_weight e)
