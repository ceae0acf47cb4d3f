-- The line of a queued DPC, and that of a device at `quiet`, always has a cause.
use Rattle.std.proofs.Common.{◌≡◌, inl, inr, ℕ, zero, suc, ◌+◌, ◌<◌, ◌≤◌, Bool, true, false, not, ◌||◌, nat_lt, List, [], ◌∷◌, Option, Some, None, is_some, length, find, option_map, unwrap_or, refl, sym, ap, ◌∙◌, arith}
use Rattle.std.specs.Prelude.{option_and_then}
use Rattle.std.specs.List.{list_any, range_with_len}
use Rattle.wdf_base.specs.Meaning.{Meaning}
use Rattle.wdf_base.specs.declared.plan.Plan.{Plan}
use Rattle.wdf_base.specs.declared.object.LockRef.{LockRef}
use Rattle.wdf_base.specs.declared.call.Callback.{Callback}
use Rattle.wdf_base.specs.declared.call.Callback.TheVariants as callback
use Rattle.wdf_base.specs.declared.object.Kind.{Kind}
use Rattle.wdf_base.specs.declared.object.Kind.TheVariants as kind
use Rattle.wdf_base.specs.declared.event.Event.{Event}
use Rattle.wdf_base.specs.declared.rank.Rank.TheVariants as rank
use Rattle.wdf_base.specs.declared.wait.Cause.TheVariants as cause
use Rattle.wdf_base.specs.Lives.{is_live}
use Rattle.wdf_base.specs.Callbacks.{dpc_function}
use Rattle.wdf_model.specs.declared.enums.Group.TheVariants as group
use Rattle.wdf_model.specs.Tables.{contains, entry, first_of_list, same_id}
use Rattle.wdf_model.specs.parts.Tree.{kind_of, life_of}
use Rattle.wdf_model.specs.parts.Locks.{hold_of, holder, is_free_if_any, scope_of}
use Rattle.wdf_model.specs.parts.Deferred.Dpcs.{dpc_head, dpcs_of, is_dpc_queued}
use Rattle.wdf_model.specs.State.{State, declared_in, declares_in, handle_in, is_proper}
use Rattle.wdf_model.specs.rules.Groups.{candidates, groups_of_rank, RANKS, starts}
use Rattle.wdf_model.specs.rules.Starts.{level_fits, may_start}
use Rattle.wdf_model.specs.rules.Steps.{may}
use Rattle.wdf_model.specs.rules.Waits.{cause_if, cpu_of_dpc, dpc_cause, head_lock, holders_of, scope_is_held}
use Rattle.wdf_model.proofs.Tests.{all_four, both_left, both_right, either_false, itself, not_false}
use Rattle.wdf_model.proofs.Counts.{one_or_two}
use Rattle.law_stuck_named_if.specs.Starts.{dpc_may_run, first_may_run, has_callback}
use Rattle.law_stuck_causes.proofs.Members.{Has, has_flat}
use Rattle.law_stuck_causes.proofs.Endings.{AtRest, may_not}
use Rattle.law_stuck_causes.proofs.Needs.{below_cpus, cpu_group, free_hold, none_first, none_if, placed_at, unheld}
use Rattle.law_stuck_causes.proofs.Conjuncts.{five}
use Rattle.law_stuck_named_if.proofs.Presents.{same_there, there_is}

-- ---- where a DPC is queued

-- a list of a table that passes, by its place
pub record Listed_at (p : List ℕ → Bool) (ls : List (List ℕ)) : Type 0 where
  pub place : ℕ
  pub low : place < length ls
  pub passes : p (entry [] ls place) ≡ true

listed_by : (p : List ℕ → Bool) (l : List ℕ) (ls : List (List ℕ)) (b : Bool) → p l ≡ b → list_any p (l ∷ ls) ≡ true → (list_any p ls ≡ true → Listed_at p ls) → Listed_at p (l ∷ ls)
listed_by p l ls true e h rest = record { place = 0; low = omega arith; passes = e }
listed_by p l ls false e h rest = let more = rest (rw e at h) in record { place = suc more.place; low = let less : more.place < length ls = more.low in omega arith; passes = more.passes }

pub listed_at : (p : List ℕ → Bool) (ls : List (List ℕ)) → list_any p ls ≡ true → Listed_at p ls
listed_at p [] h = absurd (let z : ⊥ = cc in z)
listed_at p (l ∷ ls) h = listed_by p l ls (p l) refl h (listed_at p ls)

-- the first of a range that passes
record First_of (p : ℕ → Bool) (a n : ℕ) : Type 0 where
  place : ℕ
  is : find p (range_with_len a n) ≡ Some place
  low : place < a + n
  passes : p place ≡ true

first_by : (p : ℕ → Bool) (a n k : ℕ) (b : Bool) → p a ≡ b → a ≤ k → k < a + suc n → p k ≡ true → (a + 1 ≤ k → First_of p (a + 1) n) → First_of p a (suc n)
first_by p a n k true e low high h rest = record { place = a; is = rw e refl; low = omega arith; passes = e }
first_by p a n k false e low high h rest = elim (one_or_two k a) [
  | inl s ↦ absurd (let t : p a ≡ true = sym (ap p s) ∙ h in let z : ⊥ = cc in z)
  | inr d ↦ let more = rest (omega arith) in record { place = more.place; is = rw e more.is; low = let less : more.place < (a + 1) + n = more.low in omega arith; passes = more.passes }
]

first_of : (p : ℕ → Bool) (a n k : ℕ) → a ≤ k → k < a + n → p k ≡ true → First_of p a n
first_of p a zero k low high h = absurd (omega arith)
first_of p a (suc n) k low high h = first_by p a n k (p a) refl low high h (λ more. first_of p (a + 1) n k more (omega arith) h)

-- ---- the first of a processor's list

head_is : (o : ℕ) (xs : List ℕ) → contains o xs ≡ true → is_some (first_of_list xs) ≡ true
head_is o [] h = absurd (let z : ⊥ = cc in z)
head_is o (x ∷ xs) h = refl

abbrev is_dpc_function : Callback → Bool
is_dpc_function callback.EvtDpcFunc = true
is_dpc_function callback.EvtInterruptDpc = true
is_dpc_function _ = false

function_is : (k : Kind) → is_dpc_function (dpc_function k) ≡ true
function_is kind.Interrupt = refl
function_is _ = refl

dpc_may : {A : Type 0} (plan : Plan) (m : Meaning A) (S : State A) (cpu o : ℕ) (c : Callback) → is_dpc_function c ≡ true → declares_in plan S c o ≡ true → is_live (life_of S.tree o) ≡ true
    → level_fits S cpu 2 ≡ true → is_free_if_any S.locks (scope_of plan c o (declared_in plan S o)) ≡ true → same_id (dpc_head S.dpcs cpu) o ≡ true → may_start plan m S cpu c o None ≡ true
dpc_may plan m S cpu o callback.EvtDpcFunc is has live level free first =
    five (declares_in plan S callback.EvtDpcFunc o) (is_live (life_of S.tree o)) (level_fits S cpu 2) (is_free_if_any S.locks (scope_of plan callback.EvtDpcFunc o (declared_in plan S o))) (same_id (dpc_head S.dpcs cpu) o) has live level free first
dpc_may plan m S cpu o callback.EvtInterruptDpc is has live level free first =
    five (declares_in plan S callback.EvtInterruptDpc o) (is_live (life_of S.tree o)) (level_fits S cpu 2) true (same_id (dpc_head S.dpcs cpu) o) has live level refl first
dpc_may plan m S cpu o _ is has live level free first = absurd (let z : ⊥ = cc in z)

-- a processor whose first DPC may run, with its lock free, has a level that is as high
pub head_waits : {A : Type 0} (plan : Plan) (m : Meaning A) (S : State A) → AtRest plan m S true → (cpu o : ℕ) → cpu < plan.cpus → contains o (dpcs_of S.dpcs cpu) ≡ true → dpc_may_run plan S cpu ≡ true
    → is_free_if_any S.locks (head_lock plan S cpu) ≡ true → level_fits S cpu 2 ≡ true → ⊥
head_waits plan m S rest cpu o within queued may_be free fits =
    let at = there_is (dpc_head S.dpcs cpu) (head_is o (dpcs_of S.dpcs cpu) queued) in
    let x : ℕ = at.0 in
    let c : Callback = dpc_function (kind_of S.tree x) in
    let can : has_callback plan S c x ≡ true = sym (ap (first_may_run plan S) at.1) ∙ may_be in
    let e : Event = starts plan S cpu c x in
    let offered : Has e (candidates plan m S) =
    cpu_group plan m S cpu (group.Starts cpu rank.Deferred) e within
    (inr (inr (inr (has_flat (groups_of_rank plan cpu) rank.Deferred (group.Starts cpu rank.Deferred) RANKS (inr (inl refl)) (inl refl)))))
    (placed_at plan m S (group.Starts cpu rank.Deferred) 1 0 e (omega arith) (ap (option_map (λ y. starts plan S cpu (dpc_function (kind_of S.tree y)) y)) at.1)) in
    let lock : is_free_if_any S.locks (scope_of plan c x (declared_in plan S x)) ≡ true =
    sym (ap (λ y. is_free_if_any S.locks (option_and_then (λ z. scope_of plan (dpc_function (kind_of S.tree z)) z (declared_in plan S z)) y)) at.1) ∙ free in
    let no : may plan m S e ≡ false = may_not plan m S true e rest offered in
    let comes : may plan m S e ≡ true =
    all_four (nat_lt cpu plan.cpus) (is_proper plan S (handle_in plan S x)) true (may_start plan m S cpu c x None) (below_cpus cpu plan.cpus within) (itself (handle_in plan S x).name) refl
    (dpc_may plan m S cpu x c (function_is (kind_of S.tree x)) (both_right (is_live (life_of S.tree x)) (declares_in plan S c x) can) (both_left (is_live (life_of S.tree x)) (declares_in plan S c x) can) fits lock (same_there (dpc_head S.dpcs cpu) x at.1)) in
    let z : ⊥ = cc in z

pub dpc_waits : {A : Type 0} (plan : Plan) (m : Meaning A) (S : State A) → AtRest plan m S true → length S.dpcs.lists ≡ plan.cpus → (o : ℕ) → is_dpc_queued S.dpcs o ≡ true → ((cpu : ℕ) → dpc_may_run plan S cpu ≡ true)
    → dpc_cause plan S o ≡ None → ⊥
dpc_waits plan m S rest size o queued may_be h =
    let at = listed_at (contains o) S.dpcs.lists queued in
    let low : at.place < length S.dpcs.lists = at.low in
    let one = first_of (λ cpu. contains o (dpcs_of S.dpcs cpu)) 0 plan.cpus at.place (omega arith) (omega arith) at.passes in
    let is : cpu_of_dpc plan S o ≡ one.place = ap (λ x. unwrap_or x 0) one.is in
    let less : one.place < 0 + plan.cpus = one.low in
    let held : Bool = scope_is_held plan S (dpc_function (kind_of S.tree o)) o in
    let first = none_first (cause_if (held || not (is_free_if_any S.locks (head_lock plan S (cpu_of_dpc plan S o)))) cause.ScopeHeld) (cause_if (not (level_fits S (cpu_of_dpc plan S o) 2)) cause.NoCpu ∷ []) h in
    let second = none_first (cause_if (not (level_fits S (cpu_of_dpc plan S o) 2)) cause.NoCpu) [] first.1 in
    let free : is_free_if_any S.locks (head_lock plan S (cpu_of_dpc plan S o)) ≡ true =
    not_false (is_free_if_any S.locks (head_lock plan S (cpu_of_dpc plan S o)))
    (either_false held (not (is_free_if_any S.locks (head_lock plan S (cpu_of_dpc plan S o)))) (none_if (held || not (is_free_if_any S.locks (head_lock plan S (cpu_of_dpc plan S o)))) cause.ScopeHeld first.0)).1 in
    let fits : level_fits S (cpu_of_dpc plan S o) 2 ≡ true = not_false (level_fits S (cpu_of_dpc plan S o) 2) (none_if (not (level_fits S (cpu_of_dpc plan S o) 2)) cause.NoCpu second.0) in
    head_waits plan m S rest one.place o (omega arith) one.passes (may_be one.place) (ap (λ cpu. is_free_if_any S.locks (head_lock plan S cpu)) (sym is) ∙ free) (ap (λ cpu. level_fits S cpu 2) (sym is) ∙ fits)

-- ---- where no lock is held

pub free_by_none : {A : Type 0} (S : State A) (l : Option LockRef) → holders_of S l ≡ [] → is_free_if_any S.locks l ≡ true
free_by_none S None h = refl
free_by_none S (Some l) h = free_hold (hold_of S.locks l) (unheld (holder S.locks l) h)
