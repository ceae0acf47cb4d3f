-- A work item or a timer that is queued always has a cause.
use Rattle.std.proofs.lemmas.Option.{same_Some}
use Rattle.std.proofs.Common.{if◌then◌else◌, ◌≡◌, inl, inr, ℕ, suc, ◌+◌, ◌==◌, ◌<◌, Bool, true, false, not, ◌&&◌, ◌||◌, nat_lt, List, [], ◌∷◌, Option, Some, None, is_some, filter, length, refl, ap, arith, slice_get, find, option_map}
use Rattle.std.specs.Prelude.{option_map}
use Rattle.std.proofs.lemmas.Bool.Decides.{nat_tests}
use Rattle.wdf_base.specs.declared.plan.Plan.{Plan}
use Rattle.wdf_base.specs.declared.call.Callback.{Callback}
use Rattle.wdf_base.specs.declared.call.Callback.TheVariants as callback
use Rattle.wdf_base.specs.declared.wait.Cause.TheVariants as cause
use Rattle.wdf_model.specs.Ids.{frame_id}
use Rattle.wdf_model.specs.parts.Tree.{life_of}
use Rattle.wdf_model.specs.parts.Cpus.{all_frames, is_on}
use Rattle.wdf_model.specs.parts.Locks.{is_free_if_any, scope_of}
use Rattle.wdf_model.specs.State.{State, declared_in, handle_in}
use Rattle.wdf_model.specs.rules.Starts.{level_fits}
use Rattle.wdf_model.specs.rules.Waits.{cause_if, no_cpu}
use Rattle.wdf_model.proofs.Tests.{all_four, both, both_left, both_right, itself, not_false}
use Rattle.law_stuck_causes.proofs.Members.{Has, at_of}
use Rattle.wdf_base.specs.Meaning.{Meaning}
use Rattle.wdf_base.specs.declared.event.Event.{Event}
use Rattle.wdf_base.specs.declared.event.Event.TheVariants as event
use Rattle.wdf_base.specs.declared.rank.Rank.TheVariants as rank
use Rattle.wdf_base.specs.Lives.{is_live}
use Rattle.wdf_model.specs.declared.enums.Group.TheVariants as group
use Rattle.wdf_model.specs.parts.Cpus.{nobody_on}
use Rattle.wdf_model.specs.State.{declares_in, is_proper}
use Rattle.wdf_model.specs.rules.Starts.{may_start}
use Rattle.wdf_model.specs.rules.Groups.{candidates, groups_of_rank, RANKS}
use Rattle.wdf_model.specs.rules.Steps.{may}
use Rattle.law_stuck_causes.proofs.Members.{has_flat}
use Rattle.law_stuck_causes.proofs.Endings.{AtRest, may_not}
use Rattle.wdf_model.specs.declared.entries.Timed.{Timed}
use Rattle.wdf_model.specs.parts.Deferred.Dpcs.{is_dpc_queued}
use Rattle.wdf_model.specs.parts.Deferred.Timers.{is_reached, timer_due}
use Rattle.wdf_model.specs.parts.Deferred.WorkItems.{is_work_queued}
use Rattle.wdf_model.specs.rules.Ready.{is_open_work}
use Rattle.wdf_model.specs.rules.Waits.{by_frame_on, deferred_cause, dpc_cause, scope_is_held, work_cause}
use Rattle.law_stuck_causes.specs.Caused.{may_run}
use Rattle.law_stuck_causes.proofs.Needs.{below_cpus, cpu_group, free_one, none_first, none_if, none_least, none_there, placed_at, some_or}
use Rattle.law_stuck_causes.proofs.Conjuncts.{five}

-- ---- places

record Place_of_timer (o : ℕ) (ts : List Timed) : Type 0 where
  place : ℕ
  low : place < length ts
  is : option_map (λ (t : Timed). t.timer.0) (slice_get ts place) ≡ Some o

timer_by : (o now : ℕ) (t : Timed) (ts : List Timed) (b : Bool) → (t.timer.0 == o) ≡ b → is_reached now (find (λ (x : Timed). x.timer.0 == o) (t ∷ ts)) ≡ true → (is_reached now (find (λ (x : Timed). x.timer.0 == o) ts) ≡ true → Place_of_timer o ts) → Place_of_timer o (t ∷ ts)
timer_by o now t ts true e h rest = record { place = 0; low = omega arith; is = ap Some (grind (arith, nat_tests)) }
timer_by o now t ts false e h rest = let more = rest (rw e at h) in record { place = suc more.place; low = let less : more.place < length ts = more.low in omega arith; is = more.is }

timer_at : (o now : ℕ) (ts : List Timed) → is_reached now (find (λ (x : Timed). x.timer.0 == o) ts) ≡ true → Place_of_timer o ts
timer_at o now [] h = absurd (let z : ⊥ = cc in z)
timer_at o now (t ∷ ts) h = timer_by o now t ts (t.timer.0 == o) refl h (timer_at o now ts)

-- ---- starts

started_by : (g : ℕ → Event) (t : Option Timed) (o : ℕ) → option_map (λ (x : Timed). x.timer.0) t ≡ Some o → option_map (λ (x : Timed). g x.timer.0) t ≡ Some (g o)
started_by g None o h = absurd (let z : ⊥ = cc in z)
started_by g (Some t) o h = ap (λ x. Some (g x)) (same_Some t.timer.0 o h)

work_parts : {A : Type 0} (plan : Plan) (S : State A) (c : Callback) (level o : ℕ) → work_cause plan S c level o ≡ None → (scope_is_held plan S c o ≡ false) × (nobody_on S.cpus o ≡ true) × (no_cpu plan S level ≡ false)
work_parts plan S c level o h =
    let one = none_first (cause_if (scope_is_held plan S c o) cause.ScopeHeld) (by_frame_on S o ∷ cause_if (no_cpu plan S level) cause.NoCpu ∷ []) h in
    let both = none_first (by_frame_on S o) (cause_if (no_cpu plan S level) cause.NoCpu ∷ []) one.1 in
    let last = none_first (cause_if (no_cpu plan S level) cause.NoCpu) [] both.1 in
    (none_if (scope_is_held plan S c o) cause.ScopeHeld one.0, none_there S o (none_least (λ f. cause.ByFrame (frame_id f)) (filter (is_on S.cpus o) (all_frames S.cpus)) both.0), none_if (no_cpu plan S level) cause.NoCpu last.0)

item_waits : {A : Type 0} (plan : Plan) (m : Meaning A) (S : State A) → AtRest plan m S true → (o : ℕ) → is_work_queued S.work_items o ≡ true → is_live (life_of S.tree o) ≡ true → declares_in plan S callback.EvtWorkItem o ≡ true
    → work_cause plan S callback.EvtWorkItem 0 o ≡ None → ⊥
item_waits plan m S rest o queued live declares h =
    let parts = work_parts plan S callback.EvtWorkItem 0 o h in
    let left = free_one (λ cpu. level_fits S cpu 0) 0 plan.cpus parts.2 in
    let low : left.0 < 0 + plan.cpus = left.1 in
    let within : left.0 < plan.cpus = omega arith in
    let e : Event = event.Start (record { 0 = left.0 }) callback.EvtWorkItem (handle_in plan S o) None in
    let at = at_of o S.work_items.queued queued in
    let offered : Has e (candidates plan m S) =
    cpu_group plan m S left.0 (group.Starts left.0 rank.Work) e within
    (inr (inr (inr (has_flat (groups_of_rank plan left.0) rank.Work (group.Starts left.0 rank.Work) RANKS (inr (inr (inr (inr (inr (inr (inr (inr (inr (inr (inr (inl refl)))))))))))) (inl refl)))))
    (placed_at plan m S (group.Starts left.0 rank.Work) (length S.work_items.queued) at.place e at.low (ap (λ i. option_map (λ x. event.Start (record { 0 = left.0 }) callback.EvtWorkItem (handle_in plan S x) None) i) at.is)) in
    let no : may plan m S e ≡ false = may_not plan m S true e rest offered in
    let comes : may plan m S e ≡ true =
    all_four (nat_lt left.0 plan.cpus) (is_proper plan S (handle_in plan S o)) true (may_start plan m S left.0 callback.EvtWorkItem o None) (below_cpus left.0 plan.cpus within) (itself (handle_in plan S o).name) refl
    (five (declares_in plan S callback.EvtWorkItem o) (is_live (life_of S.tree o)) (level_fits S left.0 0) (is_free_if_any S.locks (scope_of plan callback.EvtWorkItem o (declared_in plan S o))) (is_work_queued S.work_items o && nobody_on S.cpus o)
    declares live left.2 (not_false (is_free_if_any S.locks (scope_of plan callback.EvtWorkItem o (declared_in plan S o))) parts.0) (both (is_work_queued S.work_items o) (nobody_on S.cpus o) queued parts.1)) in
    let z : ⊥ = cc in z

timer_waits : {A : Type 0} (plan : Plan) (m : Meaning A) (S : State A) → AtRest plan m S true → (o : ℕ) → timer_due S.timers o S.clock ≡ true → is_live (life_of S.tree o) ≡ true → declares_in plan S callback.EvtTimerFunc o ≡ true
    → work_cause plan S callback.EvtTimerFunc 2 o ≡ None → ⊥
timer_waits plan m S rest o due live declares h =
    let parts = work_parts plan S callback.EvtTimerFunc 2 o h in
    let left = free_one (λ cpu. level_fits S cpu 2) 0 plan.cpus parts.2 in
    let low : left.0 < 0 + plan.cpus = left.1 in
    let within : left.0 < plan.cpus = omega arith in
    let e : Event = event.Start (record { 0 = left.0 }) callback.EvtTimerFunc (handle_in plan S o) None in
    let at = timer_at o S.clock S.timers.queued due in
    let offered : Has e (candidates plan m S) =
    cpu_group plan m S left.0 (group.Starts left.0 rank.Timed) e within
    (inr (inr (inr (has_flat (groups_of_rank plan left.0) rank.Timed (group.Starts left.0 rank.Timed) RANKS (inr (inr (inl refl))) (inl refl)))))
    (placed_at plan m S (group.Starts left.0 rank.Timed) (length S.timers.queued) at.place e at.low (started_by (λ x. event.Start (record { 0 = left.0 }) callback.EvtTimerFunc (handle_in plan S x) None) (slice_get S.timers.queued at.place) o at.is)) in
    let no : may plan m S e ≡ false = may_not plan m S true e rest offered in
    let comes : may plan m S e ≡ true =
    all_four (nat_lt left.0 plan.cpus) (is_proper plan S (handle_in plan S o)) true (may_start plan m S left.0 callback.EvtTimerFunc o None) (below_cpus left.0 plan.cpus within) (itself (handle_in plan S o).name) refl
    (five (declares_in plan S callback.EvtTimerFunc o) (is_live (life_of S.tree o)) (level_fits S left.0 2) (is_free_if_any S.locks (scope_of plan callback.EvtTimerFunc o (declared_in plan S o))) (timer_due S.timers o S.clock && nobody_on S.cpus o)
    declares live left.2 (not_false (is_free_if_any S.locks (scope_of plan callback.EvtTimerFunc o (declared_in plan S o))) parts.0) (both (timer_due S.timers o S.clock) (nobody_on S.cpus o) due parts.1)) in
    let z : ⊥ = cc in z

-- ---- the law

pub third : (a b c : Bool) → (a || b || c) ≡ true → a ≡ false → b ≡ false → c ≡ true
third true b c h e f = absurd (let z : ⊥ = cc in z)
third false true c h e f = absurd (let z : ⊥ = cc in z)
third false false c h e f = h

named_by : {A : Type 0} (plan : Plan) (m : Meaning A) (S : State A) → AtRest plan m S true → (o : ℕ) (d w : Bool) → is_dpc_queued S.dpcs o ≡ d → is_work_queued S.work_items o ≡ w → is_open_work S o ≡ true → is_live (life_of S.tree o) ≡ true → not d ≡ true
    → (if w then declares_in plan S callback.EvtWorkItem o else declares_in plan S callback.EvtTimerFunc o) ≡ true → (if d then dpc_cause plan S o else if w then work_cause plan S callback.EvtWorkItem 0 o else work_cause plan S callback.EvtTimerFunc 2 o) ≡ None → ⊥
named_by plan m S rest o true w e k opened live off has none = let z : ⊥ = cc in z
named_by plan m S rest o false true e k opened live off has none = item_waits plan m S rest o k live has none
named_by plan m S rest o false false e k opened live off has none = timer_waits plan m S rest o (third (is_dpc_queued S.dpcs o) (is_work_queued S.work_items o) (timer_due S.timers o S.clock) opened e k) live has none

pub work_named : {A : Type 0} (plan : Plan) (m : Meaning A) (S : State A) → AtRest plan m S true → (o : ℕ) → is_open_work S o ≡ true → may_run plan S o ≡ true → is_some (deferred_cause plan S o) ≡ true
work_named plan m S rest o opened h =
    let front = both_left (not (is_dpc_queued S.dpcs o) && is_live (life_of S.tree o)) (if is_work_queued S.work_items o then declares_in plan S callback.EvtWorkItem o else declares_in plan S callback.EvtTimerFunc o) h in
    some_or (deferred_cause plan S o)
    (λ none. named_by plan m S rest o (is_dpc_queued S.dpcs o) (is_work_queued S.work_items o) refl refl opened (both_right (not (is_dpc_queued S.dpcs o)) (is_live (life_of S.tree o)) front) (both_left (not (is_dpc_queued S.dpcs o)) (is_live (life_of S.tree o)) front)
    (both_right (not (is_dpc_queued S.dpcs o) && is_live (life_of S.tree o)) (if is_work_queued S.work_items o then declares_in plan S callback.EvtWorkItem o else declares_in plan S callback.EvtTimerFunc o) h) none)

-- each of the two forms, by its conditions
pub item_runs : {A : Type 0} (plan : Plan) (S : State A) (o : ℕ) → is_dpc_queued S.dpcs o ≡ false → is_work_queued S.work_items o ≡ true → is_live (life_of S.tree o) ≡ true → declares_in plan S callback.EvtWorkItem o ≡ true → may_run plan S o ≡ true
item_runs plan S o off on live has = rw (off, on, live) has

pub timer_runs : {A : Type 0} (plan : Plan) (S : State A) (o : ℕ) → is_dpc_queued S.dpcs o ≡ false → is_work_queued S.work_items o ≡ false → is_live (life_of S.tree o) ≡ true → declares_in plan S callback.EvtTimerFunc o ≡ true → may_run plan S o ≡ true
timer_runs plan S o off idle live has = rw (off, idle, live) has
