-- An object whose deletion hasn't come to its end always has a cause.
use Rattle.std.proofs.Common.{if◌then◌else◌, ◌≡◌, ◌⊎◌, inl, inr, ℕ, zero, suc, ◌+◌, ◌==◌, ◌<◌, Bool, true, false, not, ◌&&◌, ◌||◌, nat_lt, nat_le, List, [], ◌∷◌, ◌++◌, Option, Some, None, is_some, filter, length, fold, position, refl, ap, arith}
use Rattle.std.specs.Prelude.{filter_map, option_map}
use Rattle.std.specs.List.{flat_map, list_all, list_any, position_or_len, range_with_len}
use Rattle.std.proofs.lemmas.Bool.Decides.{nat_tests}
use Rattle.wdf_base.specs.declared.plan.Plan.{Plan}
use Rattle.wdf_base.specs.declared.call.Callback.{Callback}
use Rattle.wdf_base.specs.declared.call.Callback.TheVariants as callback
use Rattle.wdf_base.specs.declared.wait.Cause.{Cause}
use Rattle.wdf_base.specs.declared.wait.Cause.TheVariants as cause
use Rattle.wdf_base.specs.declared.wait.OpenThing.TheVariants as thing
use Rattle.wdf_model.specs.Ids.{frame_id}
use Rattle.wdf_model.specs.declared.entries.Held.{Held}
use Rattle.wdf_model.specs.Tables.{least, lesser}
use Rattle.wdf_model.specs.parts.Tree.{children, life_of, parent_of, references_of, younger_siblings}
use Rattle.wdf_model.specs.parts.Cpus.{all_frames, frame_of, is_on}
use Rattle.wdf_model.specs.parts.Locks.{hold_of, holder, is_free_hold, is_free_lock, object_lock}
use Rattle.wdf_model.specs.State.{State, declared_in, handle_in, waits_for}
use Rattle.wdf_model.specs.rules.Starts.{level_fits}
use Rattle.wdf_model.specs.rules.Waits.{at_target, by_frame, cause_if, children_first, frames_where, holders_of, no_cpu, not_cleaned, object_cause, object_cpus, references_cause, users, users_that_keep, waits_for_younger}
use Rattle.wdf_model.proofs.Tests.{all_four, all_three, both, both_left, both_right, first, itself, second}
use Rattle.law_stuck_causes.proofs.Members.{Has}
use Rattle.wdf_base.specs.Meaning.{Meaning}
use Rattle.wdf_base.specs.Plan.{is_script_of}
use Rattle.wdf_base.specs.Same.{same_callback}
use Rattle.wdf_base.specs.SamePlan.{same_declared}
use Rattle.wdf_base.specs.declared.declared.Declared.{Declared}
use Rattle.wdf_base.specs.declared.event.Event.{Event}
use Rattle.wdf_base.specs.declared.event.Event.TheVariants as event
use Rattle.wdf_base.specs.declared.rank.Rank.{Rank}
use Rattle.wdf_base.specs.declared.rank.Rank.TheVariants as rank
use Rattle.wdf_base.specs.declared.script.Script.{Script}
use Rattle.wdf_base.specs.Lives.{is_asked, is_cleaned, is_past_cleanup}
use Rattle.wdf_model.specs.declared.enums.Group.{Group}
use Rattle.wdf_model.specs.declared.enums.Group.TheVariants as group
use Rattle.wdf_model.specs.Plans.{script_on}
use Rattle.wdf_model.specs.parts.Tree.{may_clean, may_destroy, next_id, started}
use Rattle.wdf_model.specs.parts.Cpus.{nobody_on}
use Rattle.wdf_model.specs.parts.Targets.{routine_due}
use Rattle.wdf_model.specs.State.{declares_in, is_locked, is_proper, is_waited_for, nothing_at}
use Rattle.wdf_model.specs.rules.Starts.{callback_over, clean_ready, destroy_ready, is_finished, is_unused, may_start}
use Rattle.wdf_model.specs.rules.Groups.{candidate, candidates, candidates_in, groups, groups_of_cpu, groups_of_rank, is_declared_somewhere, RANKS}
use Rattle.wdf_model.specs.rules.Steps.{may}
use Rattle.wdf_model.specs.rules.Waits.{first_cause}
use Rattle.wdf_model.proofs.Tests.{not_false}
use Rattle.law_stuck_causes.specs.Caused.{names_a_cause}
use Rattle.law_stuck_causes.proofs.Members.{has_back, has_flat, has_front, has_mapped, has_range}
use Rattle.law_stuck_causes.proofs.Endings.{AtRest, may_not}
use Rattle.law_stuck_causes.proofs.Conjuncts.{five}

-- ---- a search that finds nothing

pub none_first : (o : Option Cause) (os : List (Option Cause)) → first_cause (o ∷ os) ≡ None → (o ≡ None) × (first_cause os ≡ None)
none_first None os h = (refl, h)
none_first (Some c) os h = absurd (let z : ⊥ = cc in z)

pub none_if : (b : Bool) (c : Cause) → cause_if b c ≡ None → b ≡ false
none_if true c h = absurd (let z : ⊥ = cc in z)
none_if false c h = refl

lesser_some : (m n : ℕ) (b : Bool) → nat_le m n ≡ b → is_some (lesser (Some m) n) ≡ true
lesser_some m n true e = rw e refl
lesser_some m n false e = rw e refl

fold_some : (ns : List ℕ) (m : Option ℕ) → is_some m ≡ true → is_some (fold lesser m ns) ≡ true
fold_some [] m h = h
fold_some (n ∷ ns) (Some m) h = fold_some ns (lesser (Some m) n) (lesser_some m n (nat_le m n) refl)
fold_some (n ∷ ns) None h = absurd (let z : ⊥ = cc in z)

pub no_least : (ns : List ℕ) → least ns ≡ None → ns ≡ []
no_least [] h = refl
no_least (n ∷ ns) h = absurd (let k = fold_some ns (Some n) refl in let g : is_some (least (n ∷ ns)) ≡ false = ap is_some h in let z : ⊥ = cc in z)

pub none_map : (g : ℕ → Cause) (o : Option ℕ) → option_map g o ≡ None → o ≡ None
none_map g None h = refl
none_map g (Some n) h = absurd (let z : ⊥ = cc in z)

pub none_least : (g : ℕ → Cause) (ns : List ℕ) → option_map g (least ns) ≡ None → ns ≡ []
none_least g ns h = no_least ns (none_map g (least ns) h)

-- ---- scripts

abbrev script_among : Callback → Declared → List Script → Option ℕ
script_among c d ss = position (is_script_of c d) ss

tested_later : (p : Script → Bool) (s : Script) (ss : List Script) → p s ≡ false → is_some (position p (s ∷ ss)) ≡ true → is_some (position p ss) ≡ true
tested_later p s ss e h =
    let n : nat_lt (position_or_len p (s ∷ ss)) (length (s ∷ ss)) ≡ nat_lt (position_or_len p ss) (length ss) = rw e (shifted (position_or_len p ss) (length ss)) in
    some_by (nat_lt (position_or_len p (s ∷ ss)) (length (s ∷ ss))) (nat_lt (position_or_len p ss) (length ss)) (position_or_len p (s ∷ ss)) (position_or_len p ss) n h
  where
    shifted : (a b : ℕ) → nat_lt (1 + a) (suc b) ≡ nat_lt a b
    shifted a b = grind (arith, nat_tests)

    some_by : (b c : Bool) (k j : ℕ) → b ≡ c → is_some (if b then Some k else None) ≡ true → is_some (if c then Some j else None) ≡ true
    some_by true true k j e h = refl
    some_by true false k j e h = absurd (let z : ⊥ = cc in z)
    some_by false true k j e h = refl
    some_by false false k j e h = h

later_script : (c : Callback) (d : Declared) (s : Script) (ss : List Script) → is_script_of c d s ≡ false → is_some (script_among c d (s ∷ ss)) ≡ true → is_some (script_among c d ss) ≡ true
later_script c d s ss e h = tested_later (is_script_of c d) s ss e h

any_by : (c : Callback) (d : Declared) (s : Script) (ss : List Script) (b : Bool) → is_script_of c d s ≡ b → is_some (script_among c d (s ∷ ss)) ≡ true
    → (is_some (script_among c d ss) ≡ true → list_any (λ x. same_callback x.callback c) ss ≡ true) → list_any (λ x. same_callback x.callback c) (s ∷ ss) ≡ true
any_by c d s ss true e h rest = first (same_callback s.callback c) (list_any (λ x. same_callback x.callback c) ss) (both_left (same_callback s.callback c) (same_declared s.owner d) e)
any_by c d s ss false e h rest = second (same_callback s.callback c) (list_any (λ x. same_callback x.callback c) ss) (rest (later_script c d s ss e h))

among : (c : Callback) (d : Declared) (ss : List Script) → is_some (script_among c d ss) ≡ true → list_any (λ x. same_callback x.callback c) ss ≡ true
among c d [] h = absurd (let z : ⊥ = cc in z)
among c d (s ∷ ss) h = any_by c d s ss (is_script_of c d s) refl h (among c d ss)

-- what an object declares is declared somewhere
pub declared_by : (plan : Plan) (c : Callback) (d : Option Declared) → is_some (script_on plan c d) ≡ true → is_declared_somewhere plan c ≡ true
declared_by plan c None h = absurd (let z : ⊥ = cc in z)
declared_by plan c (Some d) h = among c d plan.scripts h

-- ---- what may not come in a stuck run

pub framework_group : {A : Type 0} (plan : Plan) (m : Meaning A) (S : State A) (g : Group) (e : Event) → Has g (group.Stages ∷ group.Completions ∷ group.Cleanups ∷ group.Destroys ∷ group.Posts ∷ []) → Has e (candidates_in plan m S g)
    → Has e (candidates plan m S)
framework_group plan m S g e h k =
    has_flat (candidates_in plan m S) g e (groups plan)
    (has_back g (flat_map (groups_of_cpu plan) (range_with_len 0 plan.cpus)) (group.Stages ∷ group.Completions ∷ group.Cleanups ∷ group.Destroys ∷ group.Posts ∷ []) h) k

pub cpu_group : {A : Type 0} (plan : Plan) (m : Meaning A) (S : State A) (cpu : ℕ) (g : Group) (e : Event) → cpu < plan.cpus → Has g (groups_of_cpu plan cpu) → Has e (candidates_in plan m S g)
    → Has e (candidates plan m S)
cpu_group plan m S cpu g e low h k =
    has_flat (candidates_in plan m S) g e (groups plan)
    (has_front g (flat_map (groups_of_cpu plan) (range_with_len 0 plan.cpus)) (group.Stages ∷ group.Completions ∷ group.Cleanups ∷ group.Destroys ∷ group.Posts ∷ [])
    (has_flat (groups_of_cpu plan) cpu g (range_with_len 0 plan.cpus) (has_range cpu 0 plan.cpus (omega arith) (omega arith)) h)) k

-- one of the places of a group
pub placed_at : {A : Type 0} (plan : Plan) (m : Meaning A) (S : State A) (g : Group) (n k : ℕ) (e : Event) → k < n → candidate plan m S g k ≡ Some e → Has e (filter_map (candidate plan m S g) (range_with_len 0 n))
placed_at plan m S g n k e low here = has_mapped (candidate plan m S g) k e (range_with_len 0 n) (has_range k 0 n (omega arith) (omega arith)) here

-- ---- processors

free_by : (p : ℕ → Bool) (x a n : ℕ) (b : Bool) → not (p a) ≡ b → list_all (λ cpu. not (p cpu)) (range_with_len a (suc n)) ≡ false
    → (list_all (λ cpu. not (p cpu)) (range_with_len (a + 1) n) ≡ false → (cpu : ℕ) × (cpu < (a + 1) + n) × (p cpu ≡ true)) → (cpu : ℕ) × (cpu < a + suc n) × (p cpu ≡ true)
free_by p x a n false e h rest = (a, omega arith, not_false (p a) e)
free_by p x a n true e h rest = let found = rest (rw e at h) in (found.0, (let low : found.0 < (a + 1) + n = found.1 in omega arith), found.2)

-- where not all processors are taken, one isn't
pub free_one : (p : ℕ → Bool) (a n : ℕ) → list_all (λ cpu. not (p cpu)) (range_with_len a n) ≡ false → (cpu : ℕ) × (cpu < a + n) × (p cpu ≡ true)
free_one p a zero h = absurd (let z : ⊥ = cc in z)
free_one p a (suc n) h = free_by p a a n (not (p a)) refl h (free_one p (a + 1) n)

-- ---- an object that is cleaned up

declared_not : (declares began : Bool) → (not declares || began) ≡ false → (declares ≡ true) × (not began ≡ true)
declared_not true true h = absurd (let z : ⊥ = cc in z)
declared_not true false h = (refl, refl)
declared_not false began h = absurd (let z : ⊥ = cc in z)

pub none_there : {A : Type 0} (S : State A) (o : ℕ) → filter (is_on S.cpus o) (all_frames S.cpus) ≡ [] → nobody_on S.cpus o ≡ true
none_there S o e = rw e refl

no_references : (n : ℕ) → nat_lt 0 n ≡ false → (n == 0) ≡ true
no_references n h = grind (arith, nat_tests)

pub below_cpus : (cpu n : ℕ) → cpu < n → nat_lt cpu n ≡ true
below_cpus cpu n h = grind (arith, nat_tests)

-- how an object comes to one of its ends: a callback begins, or, where none is left to begin, the framework's event comes
record Ending {A : Type 0} (plan : Plan) (m : Meaning A) (S : State A) (o : ℕ) (k : Rank) (c : Callback) (e : Event) : Type 0 where
  ranked : Has k RANKS
  grouped : (cpu : ℕ) → Has (group.Starts cpu k) (groups_of_rank plan cpu k)
  listed : (cpu : ℕ) → is_declared_somewhere plan c ≡ true → Has (event.Start (record { 0 = cpu }) c (handle_in plan S o) None) (candidates_in plan m S (group.Starts cpu k))
  starts : (cpu : ℕ) → level_fits S cpu 0 ≡ true → declares_in plan S c o ≡ true → not (started S.tree o c) ≡ true → may_start plan m S cpu c o None ≡ true
  offered : Has e (candidates plan m S)
  comes : callback_over plan S c o ≡ true → may plan m S e ≡ true
  free : declares_in plan S c o ≡ true → not (started S.tree o c) ≡ true → no_cpu plan S 0 ≡ false

-- one that may come to its end isn't in a stuck run
ending_waits : {A : Type 0} (plan : Plan) (m : Meaning A) (S : State A) (o : ℕ) (k : Rank) (c : Callback) (e : Event) → AtRest plan m S true → Ending plan m S o k c e → (b : Bool) → callback_over plan S c o ≡ b → ⊥
ending_waits plan m S o k c e rest d true over =
    let no : may plan m S e ≡ false = may_not plan m S true e rest d.offered in
    let yes : may plan m S e ≡ true = d.comes over in
    let z : ⊥ = cc in z
ending_waits plan m S o k c e rest d false left =
    let parts = declared_not (declares_in plan S c o) (started S.tree o c) left in
    let found = free_one (λ cpu. level_fits S cpu 0) 0 plan.cpus (d.free parts.0 parts.1) in
    let cpu : ℕ = found.0 in
    let low : cpu < 0 + plan.cpus = found.1 in
    let within : cpu < plan.cpus = omega arith in
    let begins : Event = event.Start (record { 0 = cpu }) c (handle_in plan S o) None in
    let offered : Has begins (candidates plan m S) =
    cpu_group plan m S cpu (group.Starts cpu k) begins within (inr (inr (inr (has_flat (groups_of_rank plan cpu) k (group.Starts cpu k) RANKS d.ranked (d.grouped cpu)))))
    (d.listed cpu (declared_by plan c (declared_in plan S o) parts.0)) in
    let no : may plan m S begins ≡ false = may_not plan m S true begins rest offered in
    let yes : may plan m S begins ≡ true =
    all_four (nat_lt cpu plan.cpus) (is_proper plan S (handle_in plan S o)) true (may_start plan m S cpu c o None) (below_cpus cpu plan.cpus within) (itself (handle_in plan S o).name) refl
    (d.starts cpu found.2 parts.0 parts.1) in
    let z : ⊥ = cc in z

object_parts : {A : Type 0} (plan : Plan) (S : State A) (o : ℕ) → object_cause plan S o ≡ None
    → ((is_cleaned (life_of S.tree o) && nat_lt 0 (references_of S.tree o)) ≡ false) × (children_first S o ≡ []) × (users_that_keep S o ≡ []) × (object_cpus plan S o ≡ false)
object_parts plan S o h =
    let one = none_first (references_cause S o) (option_map (λ x. cause.ByChild (handle_in plan S x)) (least (children_first S o)) ∷ by_frame (users_that_keep S o) ∷ cause_if (object_cpus plan S o) cause.NoCpu ∷ at_target plan S o ∷ []) h in
    let two = none_first (option_map (λ x. cause.ByChild (handle_in plan S x)) (least (children_first S o))) (by_frame (users_that_keep S o) ∷ cause_if (object_cpus plan S o) cause.NoCpu ∷ at_target plan S o ∷ []) one.1 in
    let all_three = none_first (by_frame (users_that_keep S o)) (cause_if (object_cpus plan S o) cause.NoCpu ∷ at_target plan S o ∷ []) two.1 in
    let all_four = none_first (cause_if (object_cpus plan S o) cause.NoCpu) (at_target plan S o ∷ []) all_three.1 in (
      none_if (is_cleaned (life_of S.tree o) && nat_lt 0 (references_of S.tree o)) (cause.References (references_of S.tree o)) one.0,
      none_least (λ x. cause.ByChild (handle_in plan S x)) (children_first S o) two.0,
      none_least (λ f. cause.ByFrame (frame_id f)) (users_that_keep S o) all_three.0,
      none_if (object_cpus plan S o) cause.NoCpu all_four.0,
    )

cpu_left : (a b c n t : Bool) → (((a || b) && n) || (c && t)) ≡ false → (b ≡ true) ⊎ (a ≡ true) → n ≡ false
cpu_left a b c false t h k = refl
cpu_left true b c true t h k = absurd (let z : ⊥ = cc in z)
cpu_left false true c true t h k = absurd (let z : ⊥ = cc in z)
cpu_left false false c true t h (inl e) = absurd (let z : ⊥ = cc in z)
cpu_left false false c true t h (inr e) = absurd (let z : ⊥ = cc in z)

-- where none is said to be missing, a processor is free for a callback that is due
cpu_free : {A : Type 0} (plan : Plan) (S : State A) (o : ℕ) → object_cpus plan S o ≡ false
    → ((destroy_ready S o && declares_in plan S callback.EvtDestroyCallback o && not (started S.tree o callback.EvtDestroyCallback)) ≡ true) ⊎ ((clean_ready S o && declares_in plan S callback.EvtCleanupCallback o && not (started S.tree o callback.EvtCleanupCallback)) ≡ true)
    → no_cpu plan S 0 ≡ false
cpu_free plan S o left due =
    cpu_left (clean_ready S o && declares_in plan S callback.EvtCleanupCallback o && not (started S.tree o callback.EvtCleanupCallback)) (destroy_ready S o && declares_in plan S callback.EvtDestroyCallback o && not (started S.tree o callback.EvtDestroyCallback))
    (is_some (routine_due S.targets o)) (no_cpu plan S 0) (no_cpu plan S 2) left due

-- an object that may end, with no processor taken for its callback, isn't in a stuck run
destroy_waits : {A : Type 0} (plan : Plan) (m : Meaning A) (S : State A) → AtRest plan m S true → (o : ℕ) → o < next_id S.tree → is_cleaned (life_of S.tree o) ≡ true → destroy_ready S o ≡ true
    → object_cpus plan S o ≡ false → (b : Bool) → callback_over plan S callback.EvtDestroyCallback o ≡ b → ⊥
destroy_waits plan m S rest o low cleaned ready left = ending_waits plan m S o rank.Destroy callback.EvtDestroyCallback (event.Destroy (handle_in plan S o)) rest (record {
  ranked = inr (inr (inr (inr (inr (inr (inr (inr (inr (inr (inr (inr (inr (inl refl)))))))))))));
  grouped = λ cpu. inl refl;
  listed = λ cpu somewhere. rw somewhere (placed_at plan m S (group.Starts cpu rank.Destroy) (next_id S.tree) o _ low refl);
  starts = λ cpu fits declares began. five (declares_in plan S callback.EvtDestroyCallback o) (is_cleaned (life_of S.tree o)) (level_fits S cpu 0) true (destroy_ready S o && not (started S.tree o callback.EvtDestroyCallback))
      declares cleaned fits refl (both (destroy_ready S o) (not (started S.tree o callback.EvtDestroyCallback)) ready began);
  offered = framework_group plan m S group.Destroys (event.Destroy (handle_in plan S o)) (inr (inr (inr (inl refl)))) (placed_at plan m S group.Destroys (next_id S.tree) o _ low refl);
  comes = λ over. all_three (is_proper plan S (handle_in plan S o)) (destroy_ready S o) (callback_over plan S callback.EvtDestroyCallback o) (itself (handle_in plan S o).name) ready over;
  free = λ declares began. cpu_free plan S o left (inl (all_three (destroy_ready S o) (declares_in plan S callback.EvtDestroyCallback o) (not (started S.tree o callback.EvtDestroyCallback)) ready declares began));
})

when_true : {T : Type 0} (b : Bool) (xs ys : List T) → b ≡ true → (if b then xs else ys) ≡ [] → xs ≡ []
when_true true xs ys e h = h
when_true false xs ys e h = absurd (let z : ⊥ = cc in z)

when_false : {T : Type 0} (b : Bool) (xs ys : List T) → b ≡ false → (if b then xs else ys) ≡ [] → ys ≡ []
when_false false xs ys e h = h
when_false true xs ys e h = absurd (let z : ⊥ = cc in z)

cleaned_only : (a b : Bool) → (a && b) ≡ false → a ≡ true → b ≡ false
cleaned_only true b h e = h
cleaned_only false b h e = absurd (let z : ⊥ = cc in z)

cleaned_waits : {A : Type 0} (plan : Plan) (m : Meaning A) (S : State A) → AtRest plan m S true → (o : ℕ) → o < next_id S.tree → is_cleaned (life_of S.tree o) ≡ true → object_cause plan S o ≡ None → ⊥
cleaned_waits plan m S rest o low cleaned h =
    let parts = object_parts plan S o h in
    let childless : children S.tree o ≡ [] = when_true (is_cleaned (life_of S.tree o)) (children S.tree o) (not_cleaned S (children S.tree o ++ waits_for_younger S o)) cleaned parts.1 in
    let unused : filter (is_on S.cpus o) (all_frames S.cpus) ≡ [] = when_true (is_cleaned (life_of S.tree o)) (filter (is_on S.cpus o) (all_frames S.cpus)) (users S o) cleaned parts.2 in
    let unreferred : (references_of S.tree o == 0) ≡ true = no_references (references_of S.tree o) (cleaned_only (is_cleaned (life_of S.tree o)) (nat_lt 0 (references_of S.tree o)) parts.0 cleaned) in
    let ready : destroy_ready S o ≡ true =
    both (may_destroy S.tree o) (nobody_on S.cpus o)
    (all_three (is_cleaned (life_of S.tree o)) (references_of S.tree o == 0) (length (children S.tree o) == 0) cleaned unreferred (rw childless refl)) (none_there S o unused) in
    destroy_waits plan m S rest o low cleaned ready parts.3 (callback_over plan S callback.EvtDestroyCallback o) refl

-- ---- an object that waits for its cleanup

clean_waits : {A : Type 0} (plan : Plan) (m : Meaning A) (S : State A) → AtRest plan m S true → (o : ℕ) → o < next_id S.tree → is_asked (life_of S.tree o) ≡ true → clean_ready S o ≡ true
    → object_cpus plan S o ≡ false → (b : Bool) → callback_over plan S callback.EvtCleanupCallback o ≡ b → ⊥
clean_waits plan m S rest o low asked ready left = ending_waits plan m S o rank.Cleanup callback.EvtCleanupCallback (event.Cleanup (handle_in plan S o)) rest (record {
  ranked = inr (inr (inr (inr (inr (inr (inr (inr (inr (inr (inr (inr (inl refl))))))))))));
  grouped = λ cpu. inl refl;
  listed = λ cpu somewhere. rw somewhere (placed_at plan m S (group.Starts cpu rank.Cleanup) (next_id S.tree) o _ low refl);
  starts = λ cpu fits declares began. five (declares_in plan S callback.EvtCleanupCallback o) (is_asked (life_of S.tree o)) (level_fits S cpu 0) true (clean_ready S o && not (started S.tree o callback.EvtCleanupCallback))
      declares asked fits refl (both (clean_ready S o) (not (started S.tree o callback.EvtCleanupCallback)) ready began);
  offered = framework_group plan m S group.Cleanups (event.Cleanup (handle_in plan S o)) (inr (inr (inl refl))) (placed_at plan m S group.Cleanups (next_id S.tree) o _ low refl);
  comes = λ over. all_three (is_proper plan S (handle_in plan S o)) (clean_ready S o) (callback_over plan S callback.EvtCleanupCallback o) (itself (handle_in plan S o).name) ready over;
  free = λ declares began. cpu_free plan S o left (inr (all_three (clean_ready S o) (declares_in plan S callback.EvtCleanupCallback o) (not (started S.tree o callback.EvtCleanupCallback)) ready declares began));
})

pub front_none : {T : Type 0} (xs ys : List T) → xs ++ ys ≡ [] → (xs ≡ []) × (ys ≡ [])
front_none [] ys h = (refl, h)
front_none (x ∷ xs) ys h = absurd (let z : ⊥ = cc in z)

no_count_by : {T : Type 0} (p : T → Bool) (x : T) (xs : List T) (b : Bool) → p x ≡ b → (if b then x ∷ filter p xs else filter p xs) ≡ [] → (filter p xs ≡ [] → list_any p xs ≡ false) → (p x || list_any p xs) ≡ false
no_count_by p x xs true e h rest = absurd (let z : ⊥ = cc in z)
no_count_by p x xs false e h rest = rw e (rest h)

pub no_count : {T : Type 0} (p : T → Bool) (xs : List T) → filter p xs ≡ [] → list_any p xs ≡ false
no_count p [] h = refl
no_count p (x ∷ xs) h = no_count_by p x xs (p x) refl h (no_count p xs)

pub unheld : (o : Option ℕ) → filter_map (λ x. x) (o ∷ []) ≡ [] → o ≡ None
unheld None h = refl
unheld (Some n) h = absurd (let z : ⊥ = cc in z)

pub free_hold : (o : Option Held) → option_map (λ (h : Held). h.frame.0) o ≡ None → is_free_hold o ≡ true
free_hold None h = refl
free_hold (Some x) h = absurd (let z : ⊥ = cc in z)

unused_by : {A : Type 0} (S : State A) (o : ℕ) → users S o ≡ [] → is_unused S o ≡ true
unused_by S o h =
    let outer = front_none (filter (is_on S.cpus o) (all_frames S.cpus) ++ holders_of S (Some (object_lock o))) (frames_where S (λ frame. waits_for o frame.pending)) h in
    let inner = front_none (filter (is_on S.cpus o) (all_frames S.cpus)) (holders_of S (Some (object_lock o))) outer.0 in
    let free : is_free_lock S.locks (object_lock o) ≡ true = free_hold (hold_of S.locks (object_lock o)) (unheld (holder S.locks (object_lock o)) inner.1) in
    let calm : is_waited_for S o ≡ false = no_count (λ f. waits_for o (frame_of S.cpus f).pending) (all_frames S.cpus) outer.1 in
    all_three (nobody_on S.cpus o) (not (is_locked S o)) (not (is_waited_for S o)) (none_there S o inner.0) (ap (λ b. not (not b)) free) (ap not calm)

past_by : (p : ℕ → Bool) (x : ℕ) (xs : List ℕ) (b : Bool) → p x ≡ b → (if not b then x ∷ filter (λ y. not (p y)) xs else filter (λ y. not (p y)) xs) ≡ [] → (filter (λ y. not (p y)) xs ≡ [] → list_all p xs ≡ true)
    → (p x && list_all p xs) ≡ true
past_by p x xs true e h rest = rw e (rest h)
past_by p x xs false e h rest = absurd (let z : ⊥ = cc in z)

all_pass : (p : ℕ → Bool) (xs : List ℕ) → filter (λ y. not (p y)) xs ≡ [] → list_all p xs ≡ true
all_pass p [] h = refl
all_pass p (x ∷ xs) h = past_by p x xs (p x) refl h (all_pass p xs)

all_past : {A : Type 0} (S : State A) (xs : List ℕ) → filter (λ x. not (is_past_cleanup (life_of S.tree x))) xs ≡ [] → list_all (λ x. is_past_cleanup (life_of S.tree x)) xs ≡ true
all_past S xs h = all_pass (λ x. is_past_cleanup (life_of S.tree x)) xs h

kept_parts_by : {T : Type 0} (p : T → Bool) (x : T) (xs ys : List T) (b : Bool) → p x ≡ b → (if b then x ∷ filter p (xs ++ ys) else filter p (xs ++ ys)) ≡ [] → (filter p (xs ++ ys) ≡ [] → (filter p xs ≡ []) × (filter p ys ≡ []))
    → (filter p (x ∷ xs) ≡ []) × (filter p ys ≡ [])
kept_parts_by p x xs ys true e h rest = absurd (let z : ⊥ = cc in z)
kept_parts_by p x xs ys false e h rest = (rw e (rest h).0, (rest h).1)

kept_parts : {T : Type 0} (p : T → Bool) (xs ys : List T) → filter p (xs ++ ys) ≡ [] → (filter p xs ≡ []) × (filter p ys ≡ [])
kept_parts p [] ys h = (refl, h)
kept_parts p (x ∷ xs) ys h = kept_parts_by p x xs ys (p x) refl h (kept_parts p xs ys)

siblings_past : {A : Type 0} (S : State A) (o : ℕ) (b : Bool) → is_asked (life_of S.tree (parent_of S.tree o)) ≡ b → list_all (λ x. is_past_cleanup (life_of S.tree x)) (if b then younger_siblings S.tree o else []) ≡ true
    → (not (is_asked (life_of S.tree (parent_of S.tree o))) || list_all (λ x. is_past_cleanup (life_of S.tree x)) (younger_siblings S.tree o)) ≡ true
siblings_past S o true e h = rw e h
siblings_past S o false e h = rw e refl

asked_waits : {A : Type 0} (plan : Plan) (m : Meaning A) (S : State A) → AtRest plan m S true → (o : ℕ) → o < next_id S.tree → is_asked (life_of S.tree o) ≡ true → is_cleaned (life_of S.tree o) ≡ false
    → is_finished S o ≡ true → nothing_at S o ≡ true → object_cause plan S o ≡ None → ⊥
asked_waits plan m S rest o low asked uncleaned done empty h =
    let parts = object_parts plan S o h in
    let none = when_false (is_cleaned (life_of S.tree o)) (children S.tree o) (not_cleaned S (children S.tree o ++ waits_for_younger S o)) uncleaned parts.1 in
    let alone = kept_parts (λ x. not (is_past_cleanup (life_of S.tree x))) (children S.tree o) (waits_for_younger S o) none in
    let unused : users S o ≡ [] = when_false (is_cleaned (life_of S.tree o)) (filter (is_on S.cpus o) (all_frames S.cpus)) (users S o) uncleaned parts.2 in
    let may_be : may_clean S.tree o ≡ true =
    all_three (is_asked (life_of S.tree o)) (list_all (λ x. is_past_cleanup (life_of S.tree x)) (children S.tree o))
    (not (is_asked (life_of S.tree (parent_of S.tree o))) || list_all (λ x. is_past_cleanup (life_of S.tree x)) (younger_siblings S.tree o))
    asked (all_past S (children S.tree o) alone.0) (siblings_past S o (is_asked (life_of S.tree (parent_of S.tree o))) refl (all_past S (waits_for_younger S o) alone.1)) in
    let ready : clean_ready S o ≡ true = all_four (may_clean S.tree o) (is_unused S o) (is_finished S o) (nothing_at S o) may_be (unused_by S o unused) done empty in
    clean_waits plan m S rest o low asked ready parts.3 (callback_over plan S callback.EvtCleanupCallback o) refl

-- ---- the law

either_life : (asked cleaned ok : Bool) → (asked || cleaned) ≡ true → (cleaned || ok) ≡ true → (cleaned ≡ true) ⊎ ((asked ≡ true) × (cleaned ≡ false) × (ok ≡ true))
either_life asked true ok h k = inl refl
either_life true false ok h k = inr (refl, refl, k)
either_life false false ok h k = absurd (let z : ⊥ = cc in z)

pub some_or : (o : Option Cause) → (o ≡ None → ⊥) → is_some o ≡ true
some_or None h = absurd (h refl)
some_or (Some x) h = refl

pub object_named : {A : Type 0} (plan : Plan) (m : Meaning A) (S : State A) → AtRest plan m S true → (o : ℕ) → o < next_id S.tree → (is_asked (life_of S.tree o) || is_cleaned (life_of S.tree o)) ≡ true
    → names_a_cause plan S (thing.Leaving (handle_in plan S o)) ≡ true → is_some (object_cause plan S o) ≡ true
object_named plan m S rest o low leaving h =
    some_or (object_cause plan S o)
    (λ none. elim (either_life (is_asked (life_of S.tree o)) (is_cleaned (life_of S.tree o)) (is_finished S o && nothing_at S o) leaving h) as (λ _. ⊥) [
      | inl cleaned ↦ cleaned_waits plan m S rest o low cleaned none
      | inr k ↦ asked_waits plan m S rest o low k.0 k.1 (both_left (is_finished S o) (nothing_at S o) k.2) (both_right (is_finished S o) (nothing_at S o) k.2) none
    ])
