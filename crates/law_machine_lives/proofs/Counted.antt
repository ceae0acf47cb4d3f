-- How many levels and locks a frame has of each height, after each act.
use Rattle.std.proofs.Common.{if◌then◌else◌, ◌≡◌, ℕ, ◌+◌, ◌==◌, ◌≤◌, Bool, true, false, not, ◌&&◌, List, [], ◌∷◌, inl, inr, filter, count_by, refl, ap, ◌∙◌, arith}
use Rattle.std.specs.List.{list_any}
use Rattle.std.proofs.lemmas.Bool.{cases_Bool, eqb-true, or_cases}
use Rattle.wdf_base.specs.declared.plan.Plan.{Plan}
use Rattle.wdf_base.specs.declared.object.LockRef.{LockRef}
use Rattle.wdf_base.specs.declared.object.LockRef.TheVariants as lock
use Rattle.wdf_base.specs.Same.{same_lock}
use Rattle.wdf_model.specs.declared.entries.Held.{Held}
use Rattle.wdf_model.specs.declared.entries.HeldLevel.{HeldLevel}
use Rattle.wdf_model.specs.Tables.{flag}
use Rattle.wdf_model.specs.parts.Tree.{Tree, kind_of}
use Rattle.wdf_model.specs.parts.Cpus.{Cpus, less_one}
use Rattle.wdf_model.specs.parts.Cpus as cpus
use Rattle.wdf_model.specs.parts.Locks.{Locks}
use Rattle.wdf_model.specs.parts.Locks as locks
use Rattle.wdf_model.specs.rules.Calls.{level_of_kind}
use Rattle.wdf_model.proofs.Tests.{both_left, both_right}
use Rattle.wdf_model.proofs.Counts.{count_behind, count_cons, count_no, count_of_one}
use Rattle.law_machine_lives.proofs.Lists.{Each}
use Rattle.wdf_model.proofs.Sames.{one_lock}

-- the level of a lock, by the kind of its object
abbrev pub height : Plan → Tree → LockRef → ℕ
height plan T (lock.Object o) = level_of_kind plan o.0 (kind_of T o.0)
height plan T _ = 0

abbrev pub is_raised : ℕ → ℕ → HeldLevel → Bool
is_raised f n l = l.frame.0 == f && l.level.0 == n

-- how often a frame holds a level
abbrev pub raised : Cpus → ℕ → ℕ → ℕ
raised C f n = count_by (is_raised f n) C.levels

abbrev pub is_called : Plan → Tree → ℕ → ℕ → Held → Bool
is_called plan T f n h = h.frame.0 == f && h.by_call && height plan T h.lock == n

-- how many locks of a level a frame took by calls
abbrev pub called : Plan → Tree → Locks → ℕ → ℕ → ℕ
called plan T L f n = count_by (is_called plan T f n) L.held

abbrev pub is_own : ℕ → LockRef → Held → Bool
is_own f l h = same_lock h.lock l && (h.frame.0 == f && not h.by_call)

-- how often a frame holds a lock that it took at its start
abbrev pub owns : Locks → ℕ → LockRef → ℕ
owns L f l = count_by (is_own f l) L.held

-- ---- levels

pub raised_more : (C : Cpus) (f v x n : ℕ) → raised (cpus.raise C f v) x n ≡ flag (f == x && v == n) + raised C x n
raised_more C f v x n = count_cons (is_raised x n) (record { frame = record { 0 = f }; level = record { 0 = v } }) C.levels

same_level : (l : HeldLevel) (f v x n : ℕ) → (l.frame.0 == f && l.level.0 == v) ≡ true → is_raised x n l ≡ (f == x && v == n)
same_level l f v x n h =
    let a : l.frame.0 ≡ f = eqb-true l.frame.0 f (both_left (l.frame.0 == f) (l.level.0 == v) h) in
    let b : l.level.0 ≡ v = eqb-true l.level.0 v (both_right (l.frame.0 == f) (l.level.0 == v) h) in
    ap (λ y. y == x && l.level.0 == n) a ∙ ap (λ y. f == x && y == n) b

less_by : (f v x n : ℕ) (l : HeldLevel) (ls : List HeldLevel) (b : Bool) → (l.frame.0 == f && l.level.0 == v) ≡ b → 1 ≤ count_by (is_raised f v) (l ∷ ls)
    → (1 ≤ count_by (is_raised f v) ls → count_by (is_raised x n) (less_one f v ls) + flag (f == x && v == n) ≡ count_by (is_raised x n) ls)
    → count_by (is_raised x n) (if b then ls else l ∷ less_one f v ls) + flag (f == x && v == n) ≡ count_by (is_raised x n) (l ∷ ls)
less_by f v x n l ls true e some rest =
    let all = count_cons (is_raised x n) l ls in
    let here : flag (is_raised x n l) ≡ flag (f == x && v == n) = ap flag (same_level l f v x n e) in omega arith
less_by f v x n l ls false e some rest =
    let all = count_cons (is_raised x n) l ls in
    let left = count_cons (is_raised x n) l (less_one f v ls) in
    let no_ = count_no (is_raised f v) l ls e in
    let k = rest (omega arith) in omega arith

less_count : (f v x n : ℕ) (ls : List HeldLevel) → 1 ≤ count_by (is_raised f v) ls → count_by (is_raised x n) (less_one f v ls) + flag (f == x && v == n) ≡ count_by (is_raised x n) ls
less_count f v x n [] some = absurd (omega arith)
less_count f v x n (l ∷ ls) some = less_by f v x n l ls (l.frame.0 == f && l.level.0 == v) refl some (less_count f v x n ls)

pub raised_less : (C : Cpus) (f v x n : ℕ) → 1 ≤ raised C f v → raised (cpus.lower C f v) x n + flag (f == x && v == n) ≡ raised C x n
raised_less C f v x n some = less_count f v x n C.levels some

-- ---- locks that are taken

pub called_more : (plan : Plan) (T : Tree) (L : Locks) (l : LockRef) (f : ℕ) (b : Bool) (x n : ℕ) → called plan T (locks.take L l f b) x n ≡ called plan T L x n + flag (f == x && b && height plan T l == n)
called_more plan T L l f b x n =
    count_behind (is_called plan T x n) L.held (record { lock = l; frame = record { 0 = f }; by_call = b } ∷ [])
    ∙ ap (λ k. called plan T L x n + k) (count_of_one (is_called plan T x n) (record { lock = l; frame = record { 0 = f }; by_call = b }))

pub owns_more : (L : Locks) (l : LockRef) (f : ℕ) (b : Bool) (x : ℕ) (k : LockRef) → owns (locks.take L l f b) x k ≡ owns L x k + flag (same_lock l k && (f == x && not b))
owns_more L l f b x k =
    count_behind (is_own x k) L.held (record { lock = l; frame = record { 0 = f }; by_call = b } ∷ [])
    ∙ ap (λ n. owns L x k + n) (count_of_one (is_own x k) (record { lock = l; frame = record { 0 = f }; by_call = b }))

-- ---- locks that are given back

part_flags : (a b : Bool) → flag (not a && b) + flag (a && b) ≡ flag b
part_flags true b = omega arith
part_flags false b = omega arith

kept_flags : (p keep : Held → Bool) (h : Held) (hs : List Held) (b : Bool) → keep h ≡ b → count_by p (if b then h ∷ filter keep hs else filter keep hs) ≡ flag (b && p h) + count_by p (filter keep hs)
kept_flags p keep h hs true e = count_cons p h (filter keep hs)
kept_flags p keep h hs false e = omega arith

-- what is kept and what goes make the whole
pub split : (p gone : Held → Bool) (hs : List Held) → count_by p (filter (λ h. not (gone h)) hs) + count_by (λ h. gone h && p h) hs ≡ count_by p hs
split p gone [] = refl
split p gone (h ∷ hs) =
    let left = kept_flags p (λ x. not (gone x)) h hs (not (gone h)) refl in
    let right = count_cons (λ x. gone x && p x) h hs in
    let all = count_cons p h hs in
    let parts = part_flags (gone h) (p h) in
    let rest = split p gone hs in omega arith

fewer : (p r : Held → Bool) (hs : List Held) → count_by (λ h. p h && r h) hs ≤ count_by p hs
fewer p r [] = omega arith
fewer p r (h ∷ hs) =
    let a = count_cons (λ x. p x && r x) h hs in
    let b = count_cons p h hs in
    let c = small (p h) (r h) in
    let rest = fewer p r hs in omega arith
  where
    small : (a b : Bool) → flag (a && b) ≤ flag a
    small true true = omega arith
    small true false = omega arith
    small false b = omega arith

both_true : (a b : Bool) → a ≡ true → flag (a && b) ≡ flag b
both_true true b e = refl
both_true false b e = absurd (let z : ⊥ = cc in z)

left_false : (a b : Bool) → a ≡ false → flag (a && b) ≡ 0
left_false true b e = absurd (let z : ⊥ = cc in z)
left_false false b e = refl

-- of one that there is at most once, what is said of one is said of it
pub only_one : (p r s : Held → Bool) (b : Bool) → ((h : Held) → p h ≡ true → r h ≡ true → s h ≡ b) → (hs : List Held) → count_by p hs ≤ 1 → 1 ≤ count_by (λ h. p h && r h) hs → count_by (λ h. p h && s h) hs ≡ flag b
only_one p r s b same [] once some = absurd (omega arith)
only_one p r s b same (h ∷ hs) once some =
    let cp = count_cons p h hs in
    let cr = count_cons (λ x. p x && r x) h hs in
    let cs = count_cons (λ x. p x && s x) h hs in
    let less = fewer p r hs in
    let less_too = fewer p s hs in
    elim (cases_Bool (p h)) [
      | inl is ↦
          let one : flag (p h) ≡ 1 = ap flag is in
          let now_r = both_true (p h) (r h) is in
          let now_s = both_true (p h) (s h) is in
          elim (cases_Bool (r h)) [
            | inl on ↦ let value : flag (s h) ≡ flag b = ap flag (same h is on) in omega arith
            | inr off ↦ absurd (let none : flag (r h) ≡ 0 = ap flag off in omega arith)
          ]
      | inr not_ ↦
          let zero_ : flag (p h) ≡ 0 = ap flag not_ in
          let now_r = left_false (p h) (r h) not_ in
          let now_s = left_false (p h) (s h) not_ in
          let rest = only_one p r s b same hs (omega arith) (omega arith) in omega arith
    ]

abbrev pub is_hold : LockRef → Held → Bool
is_hold l h = same_lock h.lock l

abbrev pub is_holder : ℕ → Bool → Held → Bool
is_holder f b h = h.frame.0 == f && (if b then h.by_call else not h.by_call)

called_there : (plan : Plan) (T : Tree) (l : LockRef) (f x n : ℕ) (b : Bool) (h : Held) → is_hold l h ≡ true → is_holder f b h ≡ true → is_called plan T x n h ≡ (f == x && b && height plan T l == n)
called_there plan T l f x n b h p r =
    let a : h.lock ≡ l = one_lock h.lock l p in
    let g : h.frame.0 ≡ f = eqb-true h.frame.0 f (both_left (h.frame.0 == f) (if b then h.by_call else not h.by_call) r) in
    let c : h.by_call ≡ b = by_flag b h.by_call (both_right (h.frame.0 == f) (if b then h.by_call else not h.by_call) r) in
    ap (λ y. y == x && h.by_call && height plan T h.lock == n) g ∙ ap (λ y. f == x && y && height plan T h.lock == n) c ∙ ap (λ y. f == x && b && height plan T y == n) a
  where
    by_flag : (b c : Bool) → (if b then c else not c) ≡ true → c ≡ b
    by_flag true true e = refl
    by_flag true false e = absurd (let z : ⊥ = cc in z)
    by_flag false true e = absurd (let z : ⊥ = cc in z)
    by_flag false false e = refl

pub called_less : (plan : Plan) (T : Tree) (L : Locks) (l : LockRef) (f : ℕ) (b : Bool) (x n : ℕ) → count_by (is_hold l) L.held ≤ 1 → 1 ≤ count_by (λ h. is_hold l h && is_holder f b h) L.held
    → called plan T (locks.release L l) x n + flag (f == x && b && height plan T l == n) ≡ called plan T L x n
called_less plan T L l f b x n once some =
    let parts = split (is_called plan T x n) (is_hold l) L.held in
    let one = only_one (is_hold l) (is_holder f b) (is_called plan T x n) (f == x && b && height plan T l == n) (called_there plan T l f x n b) L.held once some in
    omega arith

own_there : (l k : LockRef) (f x : ℕ) (b : Bool) (h : Held) → is_hold l h ≡ true → is_holder f b h ≡ true → is_own x k h ≡ (same_lock l k && (f == x && not b))
own_there l k f x b h p r =
    let a : h.lock ≡ l = one_lock h.lock l p in
    let g : h.frame.0 ≡ f = eqb-true h.frame.0 f (both_left (h.frame.0 == f) (if b then h.by_call else not h.by_call) r) in
    let c : h.by_call ≡ b = by_flag b h.by_call (both_right (h.frame.0 == f) (if b then h.by_call else not h.by_call) r) in
    ap (λ y. same_lock y k && (h.frame.0 == x && not h.by_call)) a ∙ ap (λ y. same_lock l k && (y == x && not h.by_call)) g ∙ ap (λ y. same_lock l k && (f == x && not y)) c
  where
    by_flag : (b c : Bool) → (if b then c else not c) ≡ true → c ≡ b
    by_flag true true e = refl
    by_flag true false e = absurd (let z : ⊥ = cc in z)
    by_flag false true e = absurd (let z : ⊥ = cc in z)
    by_flag false false e = refl

pub owns_less : (L : Locks) (l : LockRef) (f : ℕ) (b : Bool) (x : ℕ) (k : LockRef) → count_by (is_hold l) L.held ≤ 1 → 1 ≤ count_by (λ h. is_hold l h && is_holder f b h) L.held
    → owns (locks.release L l) x k + flag (same_lock l k && (f == x && not b)) ≡ owns L x k
owns_less L l f b x k once some =
    let parts = split (is_own x k) (is_hold l) L.held in
    let one = only_one (is_hold l) (is_holder f b) (is_own x k) (same_lock l k && (f == x && not b)) (own_there l k f x b) L.held once some in
    omega arith

-- ---- some of a list are counted

pub some_counted : (p q : Held → Bool) → ((h : Held) → p h ≡ true → q h ≡ true) → (hs : List Held) → list_any p hs ≡ true → 1 ≤ count_by q hs
some_counted p q same [] h = absurd (let z : ⊥ = cc in z)
some_counted p q same (x ∷ xs) h =
    let c = count_cons q x xs in
    elim (or_cases (p x) (list_any p xs) h) [
      | inl e ↦ let one : flag (q x) ≡ 1 = ap flag (same x e) in omega arith
      | inr e ↦ let rest = some_counted p q same xs e in omega arith
    ]

-- tests that agree on each of a list count the same
pub same_of_each : (p q : Held → Bool) (hs : List Held) → Each (λ h. p h ≡ q h) hs → count_by p hs ≡ count_by q hs
same_of_each p q [] e = refl
same_of_each p q (h ∷ hs) e =
    let a = count_cons p h hs in
    let b = count_cons q h hs in
    let here : flag (p h) ≡ flag (q h) = ap flag e.0 in
    let rest = same_of_each p q hs e.1 in omega arith
