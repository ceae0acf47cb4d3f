-- The line of a request in a queue, or that returns from one, always has a cause.
use Rattle.std.proofs.Common.{if◌then◌else◌, ◌≡◌, inl, inr, ℕ, zero, suc, ◌+◌, ◌==◌, ◌<◌, Bool, true, false, not, nat_lt, List, [], ◌∷◌, Option, Some, None, is_some, length, take_while, option_map, slice_get, refl, sym, ap, subst, ◌∙◌, arith}
use Rattle.std.specs.Prelude.{option_and_then}
use Rattle.std.proofs.lemmas.Bool.Decides.{nat_tests}
use Rattle.wdf_base.specs.Meaning.{Meaning}
use Rattle.wdf_base.specs.declared.plan.Plan.{Plan}
use Rattle.wdf_base.specs.declared.ids.Handle.{Handle}
use Rattle.wdf_base.specs.declared.object.Kind.TheVariants as kind
use Rattle.wdf_base.specs.declared.object.RequestForm.{RequestForm}
use Rattle.wdf_base.specs.declared.object.RequestForm.TheVariants as form
use Rattle.wdf_base.specs.declared.call.Callback.{Callback}
use Rattle.wdf_base.specs.declared.call.Callback.TheVariants as callback
use Rattle.wdf_base.specs.declared.declared.Declared.{Declared}
use Rattle.wdf_base.specs.declared.declared.Declared.TheVariants as declared
use Rattle.wdf_base.specs.declared.event.Event.{Event}
use Rattle.wdf_base.specs.declared.rank.Rank.TheVariants as rank
use Rattle.wdf_base.specs.declared.wait.Cause.TheVariants as cause
use Rattle.wdf_base.specs.Kinds.{declared_kind}
use Rattle.wdf_base.specs.Plan.{declared_of}
use Rattle.wdf_base.specs.Same.{same_callback, same_kind, same_option}
use Rattle.wdf_base.specs.Lives.{is_live}
use Rattle.wdf_base.specs.Places.{is_returning_to}
use Rattle.wdf_model.specs.declared.entries.Request.{Request}
use Rattle.wdf_model.specs.declared.enums.Group.TheVariants as group
use Rattle.law_machine_base.specs.OverRuns.{DeclaredAgree, is_declared_kind}
use Rattle.wdf_model.specs.Tables.{contains, entry, first_of_list, least, same_id}
use Rattle.wdf_model.specs.Plans.{as_queue, declared_ids, declares, handler_for, has_handler, is_manual_queue, queue_level, queue_of, script_on, typed_handler}
use Rattle.wdf_model.specs.parts.Tree.{kind_of, life_of, made_as, node_of}
use Rattle.wdf_model.specs.parts.Locks.{is_free_if_any, scope_of}
use Rattle.wdf_model.specs.parts.Queues.{front, is_free, waiting_in}
use Rattle.wdf_model.specs.parts.Requests.{info_of, no_request, place_of}
use Rattle.wdf_model.specs.parts.Control.{delivers_in, mode_of}
use Rattle.wdf_model.specs.State.{State, declared_in, declares_in, handle_in, is_powered, is_proper, queue_delivers}
use Rattle.wdf_model.specs.rules.Groups.{candidates, declared_end, groups_of_rank, handler_start, queues_in, RANKS, starts_for}
use Rattle.wdf_model.specs.rules.Starts.{level_fits, may_start, presents}
use Rattle.wdf_model.specs.rules.Steps.{may}
use Rattle.wdf_model.specs.rules.Waits.{ahead, cause_if, no_cpu, queue_scope_held, queued_cause, returning_cause}
use Rattle.wdf_model.proofs.Tests.{all_four, both, both_left, both_right, itself, not_false, right_so}
use Rattle.wdf_model.proofs.Sames.{callback_decides, kind_decides}
use Rattle.law_stuck_named_if.specs.Starts.{is_live_queue}
use Rattle.law_machine_lives.proofs.Reasons.{takes}
use Rattle.law_stuck_causes.proofs.Members.{Has, has_flat, has_image, has_kept, has_range}
use Rattle.law_stuck_causes.proofs.Endings.{AtRest, may_not}
use Rattle.law_stuck_causes.proofs.Forms.{while_on}
use Rattle.law_stuck_causes.proofs.Needs.{below_cpus, cpu_group, free_one, none_first, none_if, none_least, placed_at}
use Rattle.law_stuck_causes.proofs.Conjuncts.{five}

-- ---- the front of a queue

front_by : (r x : ℕ) (xs : List ℕ) (b : Bool) → (x == r) ≡ b → take_while (λ y. not (y == r)) (x ∷ xs) ≡ [] → x ≡ r
front_by r x xs true e h = grind (arith, nat_tests)
front_by r x xs false e h = absurd (let k : x ∷ take_while (λ y. not (y == r)) xs ≡ [] = sym (while_on r x xs e) ∙ h in let z : ⊥ = cc in z)

front_is : (r : ℕ) (xs : List ℕ) → contains r xs ≡ true → take_while (λ y. not (y == r)) xs ≡ [] → first_of_list xs ≡ Some r
front_is r [] c h = absurd (let z : ⊥ = cc in z)
front_is r (x ∷ xs) c h = ap Some (front_by r x xs (x == r) refl h)

-- ---- handlers

abbrev is_handler : Callback → Bool
is_handler callback.EvtIoRead = true
is_handler callback.EvtIoWrite = true
is_handler callback.EvtIoDeviceControl = true
is_handler callback.EvtIoDefault = true
is_handler _ = false

typed_is : (f : RequestForm) → is_handler (typed_handler f) ≡ true
typed_is form.Read = refl
typed_is _ = refl

handler_by : (f : RequestForm) (a b : Bool) (c : Callback) → (if a then Some (typed_handler f) else if b then Some callback.EvtIoDefault else None) ≡ Some c → is_handler c ≡ true
handler_by f true b c h = let same : typed_handler f ≡ c = cc in subst (λ x. is_handler x ≡ true) same (typed_is f)
handler_by f false true c h = let same : callback.EvtIoDefault ≡ c = cc in subst (λ x. is_handler x ≡ true) same refl
handler_by f false false c h = absurd (let z : ⊥ = cc in z)

handler_is : (plan : Plan) (q : ℕ) (f : RequestForm) (c : Callback) → handler_for plan q f ≡ Some c → is_handler c ≡ true
handler_is plan q f c h = handler_by f (declares plan (typed_handler f) q) (declares plan callback.EvtIoDefault q) c h

some_declared : (plan : Plan) (c : Callback) (d : Option Declared) → is_some (script_on plan c d) ≡ true → is_some d ≡ true
some_declared plan c None h = absurd (let z : ⊥ = cc in z)
some_declared plan c (Some d) h = refl

handler_has_by : (plan : Plan) (q : ℕ) (f : RequestForm) (c : Callback) (a b : Bool) → declares plan (typed_handler f) q ≡ a → declares plan callback.EvtIoDefault q ≡ b
    → (if a then Some (typed_handler f) else if b then Some callback.EvtIoDefault else None) ≡ Some c → declares plan c q ≡ true
handler_has_by plan q f c true b e k h = let same : typed_handler f ≡ c = cc in subst (λ x. declares plan x q ≡ true) same e
handler_has_by plan q f c false true e k h = let same : callback.EvtIoDefault ≡ c = cc in subst (λ x. declares plan x q ≡ true) same k
handler_has_by plan q f c false false e k h = absurd (let z : ⊥ = cc in z)

handler_has : (plan : Plan) (q : ℕ) (f : RequestForm) (c : Callback) → handler_for plan q f ≡ Some c → declares plan c q ≡ true
handler_has plan q f c h = handler_has_by plan q f c (declares plan (typed_handler f) q) (declares plan callback.EvtIoDefault q) refl refl h

get_within : {T : Type 0} (xs : List T) (k : ℕ) → is_some (slice_get xs k) ≡ true → k < length xs
get_within [] k h = absurd (let z : ⊥ = cc in z)
get_within (x ∷ xs) zero h = omega arith
get_within (x ∷ xs) (suc k) h = let rest : k < length xs = get_within xs k h in omega arith

pub declared_within : (plan : Plan) (o : ℕ) → is_some (declared_of plan o) ≡ true → o < declared_end plan
declared_within plan zero h = absurd (let z : ⊥ = cc in z)
declared_within plan (suc o) h = let rest : o < length plan.declared = get_within plan.declared o h in omega arith

handler_may : {A : Type 0} (plan : Plan) (m : Meaning A) (S : State A) (cpu q : ℕ) (r : Handle) (c : Callback) → is_handler c ≡ true → declares_in plan S c q ≡ true → is_live (life_of S.tree q) ≡ true
    → level_fits S cpu (queue_level plan q) ≡ true → is_free_if_any S.locks (scope_of plan callback.EvtIoDefault q (declared_in plan S q)) ≡ true → presents plan S c q r.id.0 ≡ true → may_start plan m S cpu c q (Some r) ≡ true
handler_may plan m S cpu q r callback.EvtIoRead is has live level free ready =
    five (declares_in plan S callback.EvtIoRead q) (is_live (life_of S.tree q)) (level_fits S cpu (queue_level plan q)) (is_free_if_any S.locks (scope_of plan callback.EvtIoDefault q (declared_in plan S q))) (presents plan S callback.EvtIoRead q r.id.0) has live level free ready
handler_may plan m S cpu q r callback.EvtIoWrite is has live level free ready =
    five (declares_in plan S callback.EvtIoWrite q) (is_live (life_of S.tree q)) (level_fits S cpu (queue_level plan q)) (is_free_if_any S.locks (scope_of plan callback.EvtIoDefault q (declared_in plan S q))) (presents plan S callback.EvtIoWrite q r.id.0) has live level free ready
handler_may plan m S cpu q r callback.EvtIoDeviceControl is has live level free ready =
    five (declares_in plan S callback.EvtIoDeviceControl q) (is_live (life_of S.tree q)) (level_fits S cpu (queue_level plan q)) (is_free_if_any S.locks (scope_of plan callback.EvtIoDefault q (declared_in plan S q))) (presents plan S callback.EvtIoDeviceControl q r.id.0) has live level free ready
handler_may plan m S cpu q r callback.EvtIoDefault is has live level free ready =
    five (declares_in plan S callback.EvtIoDefault q) (is_live (life_of S.tree q)) (level_fits S cpu (queue_level plan q)) (is_free_if_any S.locks (scope_of plan callback.EvtIoDefault q (declared_in plan S q))) (presents plan S callback.EvtIoDefault q r.id.0) has live level free ready
handler_may plan m S cpu q r _ is has live level free ready = absurd (let z : ⊥ = cc in z)

pub there_is : {T : Type 0} (o : Option T) → is_some o ≡ true → (x : T) × (o ≡ Some x)
there_is None h = absurd (let z : ⊥ = cc in z)
there_is (Some x) h = (x, refl)

-- a queue's callbacks are those that the plan gives it
queue_has : {A : Type 0} (plan : Plan) (S : State A) (c : Callback) (q : ℕ) → same_kind (kind_of S.tree q) kind.Queue ≡ true → declares plan c q ≡ true → declares_in plan S c q ≡ true
queue_has plan S c q is h = ap (λ k. is_some (script_on plan c (made_as plan (node_of S.tree q) q k))) ((kind_decides (kind_of S.tree q) kind.Queue).0 is) ∙ h

-- ---- a request in a queue

abbrev is_open_to : {A : Type 0} → Plan → State A → ℕ → Bool
is_open_to plan S q = is_free_if_any S.locks (scope_of plan callback.EvtIoDefault q (declared_in plan S q))

record Presentable {A : Type 0} (plan : Plan) (S : State A) (q r : ℕ) : Type 0 where
  delivers : queue_delivers plan S q ≡ true
  unlike : is_manual_queue plan q ≡ false
  alone : ahead S q r ≡ []
  free : is_free S.queues q ≡ true
  unlocked : is_open_to plan S q ≡ true
  cpu : no_cpu plan S (queue_level plan q) ≡ false

presentable : {A : Type 0} (plan : Plan) (S : State A) (q r : ℕ) → queued_cause plan S q r ≡ None → Presentable plan S q r
presentable plan S q r h =
    let e = cause_if (no_cpu plan S (queue_level plan q)) cause.NoCpu ∷ [] in
    let d = cause_if (queue_scope_held plan S q) cause.ScopeHeld ∷ e in
    let c = cause_if (not (is_free S.queues q)) cause.Full ∷ d in
    let b = option_map (λ x. cause.Behind (handle_in plan S x)) (least (ahead S q r)) ∷ c in
    let a = cause_if (is_manual_queue plan q) cause.Manual ∷ b in
    let one = none_first (cause_if (not (delivers_in (mode_of S.control q))) cause.Stopped) (cause_if (not (is_powered plan S q)) cause.Unpowered ∷ a) h in
    let two = none_first (cause_if (not (is_powered plan S q)) cause.Unpowered) a one.1 in
    let three = none_first (cause_if (is_manual_queue plan q) cause.Manual) b two.1 in
    let all_four = none_first (option_map (λ x. cause.Behind (handle_in plan S x)) (least (ahead S q r))) c three.1 in
    let last = none_first (cause_if (not (is_free S.queues q)) cause.Full) d all_four.1 in
    let scope = none_first (cause_if (queue_scope_held plan S q) cause.ScopeHeld) e last.1 in
    let cpus = none_first (cause_if (no_cpu plan S (queue_level plan q)) cause.NoCpu) [] scope.1 in
    record {
      delivers = both (delivers_in (mode_of S.control q)) (is_powered plan S q)
          (not_false (delivers_in (mode_of S.control q)) (none_if (not (delivers_in (mode_of S.control q))) cause.Stopped one.0))
          (not_false (is_powered plan S q) (none_if (not (is_powered plan S q)) cause.Unpowered two.0));
      unlike = none_if (is_manual_queue plan q) cause.Manual three.0;
      alone = none_least (λ x. cause.Behind (handle_in plan S x)) (ahead S q r) all_four.0;
      free = not_false (is_free S.queues q) (none_if (not (is_free S.queues q)) cause.Full last.0);
      unlocked = not_false (is_open_to plan S q) (none_if (queue_scope_held plan S q) cause.ScopeHeld scope.0);
      cpu = none_if (no_cpu plan S (queue_level plan q)) cause.NoCpu cpus.0;
    }

pub same_there : (o : Option ℕ) (r : ℕ) → o ≡ Some r → same_id o r ≡ true
same_there o r e = rw e (itself r)

same_handler : (o : Option Callback) (c : Callback) → o ≡ Some c → same_option same_callback o (Some c) ≡ true
same_handler o c e = rw e ((callback_decides c c).1 refl)

presented : {A : Type 0} (plan : Plan) (S : State A) (q r : ℕ) (c : Callback) → Presentable plan S q r → front S.queues q ≡ Some r → handler_for plan q (info_of S.requests r).form ≡ Some c → presents plan S c q r ≡ true
presented plan S q r c p at h =
    five (not (is_manual_queue plan q)) (queue_delivers plan S q) (is_free S.queues q) (same_id (front S.queues q) r) (same_option same_callback (handler_for plan q (info_of S.requests r).form) (Some c))
    (ap not p.unlike) p.delivers p.free (same_there (front S.queues q) r at) (same_handler (handler_for plan q (info_of S.requests r).form) c h)

start_here : {A : Type 0} (plan : Plan) (S : State A) (cpu q r : ℕ) (c : Callback) (f : Option ℕ) → f ≡ Some r → handler_for plan q (info_of S.requests r).form ≡ Some c → option_and_then (handler_start plan S cpu q) f ≡ Some (starts_for plan S cpu c q r)
start_here plan S cpu q r c f at h = rw at (ap (option_map (λ x. starts_for plan S cpu x q r)) h)

pub queued_waits : {A : Type 0} (plan : Plan) (m : Meaning A) (S : State A) → AtRest plan m S true → (q r : ℕ) → contains r (waiting_in S.queues q) ≡ true → is_live_queue S q ≡ true → takes plan q (info_of S.requests r).form ≡ true → queued_cause plan S q r ≡ None → ⊥
queued_waits plan m S rest q r waits queue taken h =
    let p = presentable plan S q r h in
    let at : front S.queues q ≡ Some r = front_is r (waiting_in S.queues q) waits p.alone in
    let by = there_is (handler_for plan q (info_of S.requests r).form) (right_so (is_manual_queue plan q) (has_handler plan q (info_of S.requests r).form) p.unlike taken) in
    let c : Callback = by.0 in
    let live : is_live (life_of S.tree q) ≡ true = both_left (is_live (life_of S.tree q)) (same_kind (kind_of S.tree q) kind.Queue) queue in
    let declared : declares plan c q ≡ true = handler_has plan q (info_of S.requests r).form c by.1 in
    let has : declares_in plan S c q ≡ true = queue_has plan S c q (both_right (is_live (life_of S.tree q)) (same_kind (kind_of S.tree q) kind.Queue) queue) declared in
    let left = free_one (λ cpu. level_fits S cpu (queue_level plan q)) 0 plan.cpus p.cpu in
    let low : left.0 < 0 + plan.cpus = left.1 in
    let within : left.0 < plan.cpus = omega arith in
    let e : Event = starts_for plan S left.0 c q r in
    let inside : q < declared_end plan = declared_within plan q (some_declared plan c (declared_of plan q) declared) in
    let offered : Has e (candidates plan m S) =
    cpu_group plan m S left.0 (group.Starts left.0 rank.Handler) e within
    (inr (inr (inr (has_flat (groups_of_rank plan left.0) rank.Handler (group.Starts left.0 rank.Handler) RANKS (inr (inr (inr (inr (inr (inr (inr (inr (inr (inl refl)))))))))) (inl refl)))))
    (placed_at plan m S (group.Starts left.0 rank.Handler) (declared_end plan) q e inside (start_here plan S left.0 q r c (front S.queues q) at by.1)) in
    let no : may plan m S e ≡ false = may_not plan m S true e rest offered in
    let comes : may plan m S e ≡ true =
    all_four (nat_lt left.0 plan.cpus) (is_proper plan S (handle_in plan S q)) (is_proper plan S (handle_in plan S r)) (may_start plan m S left.0 c q (Some (handle_in plan S r)))
    (below_cpus left.0 plan.cpus within) (itself (handle_in plan S q).name) (itself (handle_in plan S r).name)
    (handler_may plan m S left.0 q (handle_in plan S r) c (handler_is plan q (info_of S.requests r).form c by.1) has live left.2 p.unlocked (presented plan S q r c p at by.1)) in
    let z : ⊥ = cc in z

-- ---- a request that returns

is_none_end : (plan : Plan) (q : ℕ) → is_some (declared_of plan q) ≡ true → Has q (declared_ids plan)
is_none_end plan q h = let inside : q < declared_end plan = declared_within plan q h in has_range q 0 (declared_end plan) (omega arith) (omega arith)

place_there : (q : ℕ) (xs : List Request) (r : ℕ) → is_returning_to q (entry no_request xs r).place ≡ true → r < length xs
place_there q [] r h = absurd (let z : ⊥ = cc in z)
place_there q (x ∷ xs) zero h = omega arith
place_there q (x ∷ xs) (suc r) h = let rest : r < length xs = place_there q xs r h in omega arith

queue_by : (d : Option Declared) → option_and_then declared_kind d ≡ Some kind.Queue → is_some (as_queue d) ≡ true
queue_by (Some (declared.Queue q)) h = refl
queue_by _ h = absurd (let z : ⊥ = cc in z)

-- an object of the kind Queue is a queue of the plan
pub queue_there : {A : Type 0} (plan : Plan) (S : State A) (q : ℕ) → DeclaredAgree plan S → same_kind (kind_of S.tree q) kind.Queue ≡ true → Has q (queues_in plan)
queue_there plan S q d is =
    let e : kind_of S.tree q ≡ kind.Queue = (kind_decides (kind_of S.tree q) kind.Queue).0 is in
    let at : option_and_then declared_kind (declared_of plan q) ≡ Some kind.Queue = d.declared q (ap is_declared_kind e) ∙ ap Some e in
    let queue : is_some (queue_of plan q) ≡ true = queue_by (declared_of plan q) at in
    has_kept (λ id. is_some (queue_of plan id)) q (declared_ids plan) (is_none_end plan q (some_of (declared_of plan q) at)) queue
  where
    some_of : (o : Option Declared) → option_and_then declared_kind o ≡ Some kind.Queue → is_some o ≡ true
    some_of None h = absurd (let z : ⊥ = cc in z)
    some_of (Some x) h = refl

pub returning_waits : {A : Type 0} (plan : Plan) (m : Meaning A) (S : State A) → AtRest plan m S true → DeclaredAgree plan S → (q r : ℕ) → is_returning_to q (place_of S.requests r) ≡ true → is_live_queue S q ≡ true → declares plan callback.EvtIoCanceledOnQueue q ≡ true → returning_cause plan S q ≡ None → ⊥
returning_waits plan m S rest d q r returns queue declared h =
    let one = none_first (cause_if (queue_scope_held plan S q) cause.ScopeHeld) (cause_if (no_cpu plan S (queue_level plan q)) cause.NoCpu ∷ []) h in
    let two = none_first (cause_if (no_cpu plan S (queue_level plan q)) cause.NoCpu) [] one.1 in
    let unlocked : is_open_to plan S q ≡ true = not_false (is_open_to plan S q) (none_if (queue_scope_held plan S q) cause.ScopeHeld one.0) in
    let live : is_live (life_of S.tree q) ≡ true = both_left (is_live (life_of S.tree q)) (same_kind (kind_of S.tree q) kind.Queue) queue in
    let is : same_kind (kind_of S.tree q) kind.Queue ≡ true = both_right (is_live (life_of S.tree q)) (same_kind (kind_of S.tree q) kind.Queue) queue in
    let left = free_one (λ cpu. level_fits S cpu (queue_level plan q)) 0 plan.cpus (none_if (no_cpu plan S (queue_level plan q)) cause.NoCpu two.0) in
    let low : left.0 < 0 + plan.cpus = left.1 in
    let within : left.0 < plan.cpus = omega arith in
    let e : Event = starts_for plan S left.0 callback.EvtIoCanceledOnQueue q r in
    let offered : Has e (candidates plan m S) =
    cpu_group plan m S left.0 (group.StartsFor left.0 rank.CanceledOnQueue q) e within
    (inr (inr (inr (has_flat (groups_of_rank plan left.0) rank.CanceledOnQueue (group.StartsFor left.0 rank.CanceledOnQueue q) RANKS (inr (inr (inr (inr (inr (inl refl)))))) (has_image (λ o. group.StartsFor left.0 rank.CanceledOnQueue o) q (queues_in plan) (queue_there plan S q d is))))))
    (rw declared (placed_at plan m S (group.StartsFor left.0 rank.CanceledOnQueue q) (length S.requests.all) r e (place_there q S.requests.all r returns) refl)) in
    let no : may plan m S e ≡ false = may_not plan m S true e rest offered in
    let comes : may plan m S e ≡ true =
    all_four (nat_lt left.0 plan.cpus) (is_proper plan S (handle_in plan S q)) (is_proper plan S (handle_in plan S r)) (may_start plan m S left.0 callback.EvtIoCanceledOnQueue q (Some (handle_in plan S r)))
    (below_cpus left.0 plan.cpus within) (itself (handle_in plan S q).name) (itself (handle_in plan S r).name)
    (five (declares_in plan S callback.EvtIoCanceledOnQueue q) (is_live (life_of S.tree q)) (level_fits S left.0 (queue_level plan q)) (is_open_to plan S q) (is_returning_to q (place_of S.requests r))
    (queue_has plan S callback.EvtIoCanceledOnQueue q is declared) live left.2 unlocked returns) in
    let z : ⊥ = cc in z
