-- Cleanups, destructions and starts of work items and of timers by number: what keeps an object back is one of the busy ones,
-- and what is offered of the places is what may leave.
use Rattle.std.proofs.Common.{if◌then◌else◌, ℕ, zero, suc, ◌≡◌, ◌⊎◌, ◌+◌, ◌-◌, ◌<◌, ◌≤◌, Bool, true, false, not, ◌==◌, ◌&&◌, ◌||◌, List, [], ◌∷◌, ◌++◌, find, filter, length, map, slice_get, Option, Some, None, MatchOption, is_some, option_map, append_assoc, length-append, refl, sym, ap, subst, ◌∙◌, inl, inr, arith}
use Rattle.std.specs.Prelude.{nat_le}
use Rattle.std.specs.List.{cons_option, filter_map, list_all, list_any, range_with_len}
use Rattle.std.proofs.lemmas.Bool.{cases_lt, eqb-true, leb-false, leb-true, or_parts}
use Rattle.wdf_base.specs.Meaning.{Meaning}
use Rattle.wdf_base.specs.declared.call.Callback.{Callback}
use Rattle.wdf_base.specs.declared.call.Callback.TheVariants as callback
use Rattle.wdf_base.specs.declared.declared.ClassInfo.{ClassInfo}
use Rattle.wdf_base.specs.declared.declared.ClassInfo.TheVariants as class
use Rattle.wdf_base.specs.declared.declared.Declared.{Declared}
use Rattle.wdf_base.specs.declared.declared.Declared.TheVariants as declared
use Rattle.wdf_base.specs.declared.object.LockRef.{LockRef}
use Rattle.wdf_base.specs.declared.rank.Rank.TheVariants as rank
use Rattle.wdf_base.specs.declared.event.Event.{Event}
use Rattle.wdf_base.specs.declared.event.Event.TheVariants as event
use Rattle.wdf_base.specs.declared.ids.ObjectId.{ObjectId}
use Rattle.wdf_base.specs.declared.object.Kind.TheVariants as kind
use Rattle.wdf_base.specs.declared.object.Life.{Life}
use Rattle.wdf_base.specs.declared.object.Life.TheVariants as life
use Rattle.wdf_base.specs.declared.plan.Plan.{Plan}
use Rattle.wdf_base.specs.declared.script.Script.{Script}
use Rattle.wdf_base.specs.Lives.{is_asked, is_cleaned, is_gone, is_live, is_past_cleanup}
use Rattle.wdf_base.specs.Places.{is_done, is_sent}
use Rattle.wdf_base.specs.Plan.{is_script_of}
use Rattle.wdf_base.specs.Same.{same_callback, same_kind, same_lock}
use Rattle.wdf_base.specs.SamePlan.{same_declared}
use Rattle.wdf_model.specs.Ids.{cpu_of}
use Rattle.wdf_model.specs.Plans.{script_on, serial_lock}
use Rattle.wdf_model.specs.declared.entries.Held.{Held}
use Rattle.wdf_model.specs.declared.entries.Node.{Node}
use Rattle.wdf_model.specs.declared.enums.Group.TheVariants as group
use Rattle.wdf_model.specs.Tables.{ids_of}
use Rattle.wdf_model.specs.State.{State, declared_in, declares_in, handle_in, nothing_at}
use Rattle.wdf_model.specs.parts.Cpus.{is_empty_cpu, nobody_on}
use Rattle.wdf_model.specs.declared.entries.Timed.{Timed}
use Rattle.wdf_model.specs.parts.Deferred.Timers.{is_reached, is_timer_queued, timed_of, timer_due}
use Rattle.wdf_model.specs.parts.Deferred.WorkItems.{is_work_queued}
use Rattle.wdf_model.specs.parts.Locks.{Locks, is_free_hold, is_free_if_any, parent_lock}
use Rattle.wdf_model.specs.parts.Requests.{place_of}
use Rattle.wdf_model.specs.parts.Tree.{children, counts, gone, kind_of, life_of, may_clean, may_destroy, node_of, parent_of, references_of, started, younger_siblings}
use Rattle.wdf_model.specs.rules.Groups.{is_declared_somewhere, places_in, starts}
use Rattle.wdf_model.specs.rules.Starts.{callback_over, clean_ready, destroy_ready, is_finished, is_unused, level_fits}
use Rattle.wdf_model.specs.rules.Steps.{is_cpu, may}
use Rattle.wdf_model.proofs.Maps.{entry_past}
use Rattle.wdf_model.proofs.Tests.{both_left, both_right, left_fails, not_true, right_fails}
use Rattle.wdf_cpu.specs.Occupied.{is_awaited, is_occupied}
use Rattle.wdf_lock.specs.Holds.{is_locked}
use Rattle.wdf_request.specs.Closing.{is_out}
use Rattle.wdf_sets.specs.Nexts.{IsNext, NoneFrom}
use Rattle.wdf_offers.specs.declared.leaving.Leaving.{Leaving}
use Rattle.wdf_offers.specs.declared.leaving.Leaving.TheVariants as leaving
use Rattle.wdf_offers.specs.Leaving.{DeletedSettled, IsNumbered, IsSettled, event_of, fits_part, fitting, group_of, is_busy, is_kept, is_serial, is_unlocked, leavers, may_leave}
use Rattle.wdf_defer.specs.Ticks.{timer_id}
use Rattle.wdf_defer.specs.Timers.{AreTimersInOrder}
use Rattle.wdf_defer.specs.WorkItems.{AreInOrder}
use Rattle.wdf_offers.specs.Lesser.{lesser_of}
use Rattle.wdf_offers.specs.Search.{NoneBefore, if_allowed, offered, offered_from}
use Rattle.wdf_offers.proofs.Begins.{start_parts}
use Rattle.wdf_offers.proofs.NotOffered.{cleaned_there, in_turn, left_there, uncounted}
use Rattle.wdf_offers.proofs.Passing.{none_at}
use Rattle.wdf_offers.proofs.Straight.{clean_up_parts, end_parts}

-- ---- what may leave fits

pub part : {A : Type 0} (l : Leaving) (S : State A) (o : ℕ) → may_leave l S o ≡ true → fits_part l S o ≡ true
part leaving.Cleanup S o h =
    both_left (may_clean S.tree o) (is_unused S o)
    (both_left (may_clean S.tree o && is_unused S o) (is_finished S o) (both_left (may_clean S.tree o && is_unused S o && is_finished S o) (nothing_at S o) h))
part leaving.Destroy S o h = both_left (may_destroy S.tree o) (nobody_on S.cpus o) h
part (leaving.Work cpu) S o h = both_left (is_work_queued S.work_items o) (nobody_on S.cpus o) h
part (leaving.Timed cpu) S o h = both_left (timer_due S.timers o S.clock) (nobody_on S.cpus o) h

fewer : (p r : ℕ → Bool) → ((x : ℕ) → r x ≡ true → p x ≡ true) → (xs : List ℕ) → length (filter r xs) ≤ length (filter p xs)
fewer p r passes [] = omega arith
fewer p r passes (x ∷ xs) = by (p x) (r x) refl refl (fewer p r passes xs)
  where
    by : (b c : Bool) → p x ≡ b → r x ≡ c → length (filter r xs) ≤ length (filter p xs) → length (if c then x ∷ filter r xs else filter r xs) ≤ length (if b then x ∷ filter p xs else filter p xs)
    by true true e f rest = omega arith
    by true false e f rest = omega arith
    by false true e f rest = absurd (let on = passes x f in let z : ⊥ = cc in z)
    by false false e f rest = rest

-- no more may leave than fit
pub leavers_few : {A : Type 0} (l : Leaving) (S : State A) → length (leavers l S) ≤ length (fitting l S)
leavers_few l S = fewer (fits_part l S) (may_leave l S) (part l S) (ids_of S.tree.nodes)

-- ---- what is kept back is busy

or_true : (a : Bool) → (a || true) ≡ true
or_true true = refl
or_true false = refl

-- the object is unused, and is no request that is under way
ready_by : (q d g s : Bool) → s ≡ false → (q ≡ true → d ≡ true) → ((not q || d) && (not g || not s)) ≡ true
ready_by true d g s e h = rw (h refl, e) (or_true (not g))
ready_by false d g s e h = rw e (or_true (not g))

unused_by : (n w l : Bool) → n ≡ true → w ≡ false → l ≡ false → (n && not l && not w) ≡ true
unused_by n w l a b c = rw (a, b, c) refl

unkept_by : (m u f z : Bool) → (m ≡ true → u ≡ true) → (m ≡ true → f ≡ true) → (m ≡ true → z ≡ true) → (m && not (m && u && f && z)) ≡ false
unkept_by false u f z a b c = refl
unkept_by true u f z a b c = rw (a refl, b refl, c refl) refl

ended_by : (m n : Bool) → n ≡ true → (m && not (m && n)) ≡ false
ended_by true n e = ap not e
ended_by false n e = refl

asked_dead : (x : Life) → is_asked x ≡ true → is_live x ≡ false
asked_dead life.Live h = absurd (let z : ⊥ = cc in z)
asked_dead _ h = refl

not_off : (b : Bool) → not b ≡ false → b ≡ true
not_off true h = refl
not_off false h = absurd (let z : ⊥ = cc in z)

dead : {A : Type 0} (S : State A) (o : ℕ) → may_clean S.tree o ≡ true → is_live (life_of S.tree o) ≡ false
dead S o h =
    asked_dead (life_of S.tree o)
    (both_left (is_asked (life_of S.tree o)) (list_all (λ x. is_past_cleanup (life_of S.tree x)) (children S.tree o))
    (both_left (is_asked (life_of S.tree o) && list_all (λ x. is_past_cleanup (life_of S.tree x)) (children S.tree o))
    (not (is_asked (life_of S.tree (parent_of S.tree o))) || list_all (λ x. is_past_cleanup (life_of S.tree x)) (younger_siblings S.tree o)) h))

pub unbusy : {A : Type 0} (l : Leaving) (S : State A) → DeletedSettled S → (o : ℕ) → is_busy l S o ≡ false → is_kept l S o ≡ false
unbusy leaving.Cleanup S h o e =
    let both = or_parts (is_occupied S.cpus o || is_awaited S.cpus o) (is_locked S.locks o || is_out S.requests o) e in
    let framed = or_parts (is_occupied S.cpus o) (is_awaited S.cpus o) both.0 in
    let held = or_parts (is_locked S.locks o) (is_out S.requests o) both.1 in
    unkept_by (may_clean S.tree o) (is_unused S o) (is_finished S o) (nothing_at S o)
    (λ on. unused_by (nobody_on S.cpus o) (is_awaited S.cpus o) (is_locked S.locks o) (not_off (nobody_on S.cpus o) framed.0) framed.1 held.0)
    (λ on. ready_by (same_kind (kind_of S.tree o) kind.Request) (is_done (place_of S.requests o)) (same_kind (kind_of S.tree o) kind.Made) (is_sent (place_of S.requests o)) held.1
    (λ is. h.done o is (dead S o on)))
    (λ on. h.nothing o (dead S o on))
unbusy leaving.Destroy S h o e = ended_by (may_destroy S.tree o) (nobody_on S.cpus o) (not_off (nobody_on S.cpus o) e)
unbusy (leaving.Work cpu) S h o e = ended_by (is_work_queued S.work_items o) (nobody_on S.cpus o) (not_off (nobody_on S.cpus o) e)
unbusy (leaving.Timed cpu) S h o e = ended_by (timer_due S.timers o S.clock) (nobody_on S.cpus o) (not_off (nobody_on S.cpus o) e)

-- ---- the first that is busy

module _ (p q : ℕ → Bool) (from end : ℕ) where
  none_of : (a b : Bool) → a ≡ false → b ≡ false → (a || b) ≡ false
  none_of a b e f = rw (e, f) refl

  left_on : (a b : Bool) → a ≡ true → (a || b) ≡ true
  left_on a b e = rw e refl

  right_on : (a b : Bool) → b ≡ true → (a || b) ≡ true
  right_on a b e = rw e (or_true a)

  left_next : (x : ℕ) → IsNext p from end x → NoneFrom q from x → IsNext (λ y. p y || q y) from end x
  left_next x k none = record {
    after = k.after;
    within = k.within;
    passes = left_on (p x) (q x) k.passes;
    before = λ y above below. none_of (p y) (q y) (k.before y above below) (none y above below);
  }

  right_next : (x : ℕ) → NoneFrom p from x → IsNext q from end x → IsNext (λ y. p y || q y) from end x
  right_next x none k = record {
    after = k.after;
    within = k.within;
    passes = right_on (p x) (q x) k.passes;
    before = λ y above below. none_of (p y) (q y) (none y above below) (k.before y above below);
  }

  lesser_by : (a b : ObjectId) (c : Bool) → nat_le a.0 b.0 ≡ c → IsNext p from end a.0 → IsNext q from end b.0
      → MatchOption (if c then Some a else Some b) (NoneFrom (λ y. p y || q y) from end) (λ (o : ObjectId). IsNext (λ y. p y || q y) from end o.0)
  lesser_by a b true e k n = let low = leb-true a.0 b.0 e in left_next a.0 k (λ y above below. n.before y above (omega arith))
  lesser_by a b false e k n = let high = leb-false a.0 b.0 e in right_next b.0 (λ y above below. k.before y above (omega arith)) n

  pub lesser_next : (one other : Option ObjectId) → MatchOption one (NoneFrom p from end) (λ (o : ObjectId). IsNext p from end o.0) → MatchOption other (NoneFrom q from end) (λ (o : ObjectId). IsNext q from end o.0)
      → MatchOption (lesser_of one other) (NoneFrom (λ y. p y || q y) from end) (λ (o : ObjectId). IsNext (λ y. p y || q y) from end o.0)
  lesser_next None None k n = λ y above below. none_of (p y) (q y) (k y above below) (n y above below)
  lesser_next None (Some b) k n = let within = n.within in right_next b.0 (λ y above below. k y above (omega arith)) n
  lesser_next (Some a) None k n = let within = k.within in left_next a.0 k (λ y above below. n y above (omega arith))
  lesser_next (Some a) (Some b) k n = lesser_by a b (nat_le a.0 b.0) refl k n

-- ---- what is kept back fits, and is busy

pub unfit : {A : Type 0} (l : Leaving) (S : State A) (o : ℕ) → fits_part l S o ≡ false → is_kept l S o ≡ false
unfit l S o h = left_fails (fits_part l S o) (not (may_leave l S o)) h

-- ---- what is offered

pub mapped_len : (f : ℕ → Option Event) (r : ℕ → Bool) (g : ℕ → Event) → ((x : ℕ) → f x ≡ (if r x then Some (g x) else None)) → (xs : List ℕ) → length (filter_map f xs) ≡ length (filter r xs)
mapped_len f r g e [] = refl
mapped_len f r g e (x ∷ xs) = rw (e x) (by (r x) (mapped_len f r g e xs))
  where
    by : (b : Bool) → length (filter_map f xs) ≡ length (filter r xs) → length (cons_option (if b then Some (g x) else None) (filter_map f xs)) ≡ length (if b then x ∷ filter r xs else filter r xs)
    by true rest = ap suc rest
    by false rest = rest

pub mapped_at : (f : ℕ → Option Event) (r : ℕ → Bool) (g : ℕ → Event) → ((x : ℕ) → f x ≡ (if r x then Some (g x) else None)) → (xs : List ℕ) (k : ℕ) → slice_get (filter_map f xs) k ≡ option_map g (slice_get (filter r xs) k)
mapped_at f r g e [] k = refl
mapped_at f r g e (x ∷ xs) k = rw (e x) (by (r x) k (mapped_at f r g e xs))
  where
    by : (b : Bool) (j : ℕ) → ((i : ℕ) → slice_get (filter_map f xs) i ≡ option_map g (slice_get (filter r xs) i))
        → slice_get (cons_option (if b then Some (g x) else None) (filter_map f xs)) j ≡ option_map g (slice_get (if b then x ∷ filter r xs else filter r xs) j)
    by true zero rest = refl
    by true (suc j) rest = rest j
    by false j rest = rest j

-- a callback that nothing declares isn't declared by an object
none_passes : (c : Callback) (scripts : List Script) → list_any (λ (s : Script). same_callback s.callback c) scripts ≡ false → (d : Declared) (n : ℕ) → NoneBefore (is_script_of c d) scripts n
none_passes c [] h d n j s low at = absurd (let z : ⊥ = cc in z)
none_passes c (x ∷ xs) h d n zero s low at =
    let both = or_parts (same_callback x.callback c) (list_any (λ (y : Script). same_callback y.callback c) xs) h in
    let same : x ≡ s = cc in
    subst (λ y. (same_callback y.callback c && same_declared y.owner d) ≡ false) same (rw both.0 refl)
none_passes c (x ∷ xs) h d n (suc j) s low at =
    let both = or_parts (same_callback x.callback c) (list_any (λ (y : Script). same_callback y.callback c) xs) h in
    none_passes c xs both.1 d n j s (omega arith) at

no_script : (plan : Plan) (c : Callback) → is_declared_somewhere plan c ≡ false → (o : Option Declared) → script_on plan c o ≡ None
no_script plan c h None = refl
no_script plan c h (Some d) = none_at (is_script_of c d) plan.scripts (length plan.scripts) (omega arith) (none_passes c plan.scripts h d (length plan.scripts))

and_left : (a b : Bool) → (a ≡ true → b ≡ true) → a ≡ (a && b)
and_left true b e = sym (e refl)
and_left false b e = refl

-- ---- callbacks that aren't to come

-- what is there counts, or declares no callback
uncounted_over : {A : Type 0} (plan : Plan) (S : State A) (c : Callback) (o : ℕ) (b : Bool) → counts (node_of S.tree o) ≡ b → is_gone (life_of S.tree o) ≡ false → ((o < length S.tree.nodes) → b ≡ false) → callback_over plan S c o ≡ true
uncounted_over plan S c o false e there none = ap (λ d. not d || started S.tree o c) (uncounted plan S c o there e)
uncounted_over plan S c o true e there none = absurd (by (cases_lt o (length S.tree.nodes)))
  where
    by : (o < length S.tree.nodes) ⊎ (length S.tree.nodes ≤ o) → ⊥
    by (inl within) = let off = none within in let z : ⊥ = cc in z
    by (inr past) = let off : is_gone (life_of S.tree o) ≡ true = ap (λ (n : Node). is_gone n.life) (entry_past gone S.tree.nodes o past) in let z : ⊥ = cc in z

none_counts : (a b : Bool) → a ≡ true → (a && b) ≡ false → b ≡ false
none_counts true b e h = h
none_counts false b e h = absurd (let z : ⊥ = cc in z)

-- nothing declares the callback
pub none_over : {A : Type 0} (plan : Plan) (S : State A) (c : Callback) → is_declared_somewhere plan c ≡ false → (o : ℕ) → callback_over plan S c o ≡ true
none_over plan S c h o = ap (λ s. not (is_some s) || started S.tree o c) (no_script plan c h (declared_in plan S o))

-- nothing was found
pub none_is : (found : Option ℕ) (none : Type 0) (some_one : ℕ → Type 0) → MatchOption found none some_one → is_some found ≡ false → none
none_is None none some_one h e = h
none_is (Some x) none some_one h e = absurd (let z : ⊥ = cc in z)

module _ {A : Type 0} (plan : Plan) (S : State A) (n : ℕ) (all : n ≡ length S.tree.nodes) where
  -- only arrived requests have their turn
  pub turns_over : NoneFrom (λ o. may_clean S.tree o && counts (node_of S.tree o)) 0 n → IsNumbered plan S leaving.Cleanup
  turns_over none o on =
      uncounted_over plan S callback.EvtCleanupCallback o (counts (node_of S.tree o)) refl (left_there (life_of S.tree o) (in_turn S o on))
      (λ within. none_counts (may_clean S.tree o) (counts (node_of S.tree o)) on (none o (omega arith) (omega arith)))

  -- only arrived requests are cleaned
  pub ends_over : NoneFrom (λ o. is_cleaned (life_of S.tree o) && counts (node_of S.tree o)) 0 n → IsNumbered plan S leaving.Destroy
  ends_over none o on =
      let cleaned : is_cleaned (life_of S.tree o) ≡ true = cleaned_of S o on in
      uncounted_over plan S callback.EvtDestroyCallback o (counts (node_of S.tree o)) refl (cleaned_there (life_of S.tree o) cleaned)
      (λ within. none_counts (is_cleaned (life_of S.tree o)) (counts (node_of S.tree o)) cleaned (none o (omega arith) (omega arith)))
    where
      cleaned_of : (T : State A) (x : ℕ) → may_destroy T.tree x ≡ true → is_cleaned (life_of T.tree x) ≡ true
      cleaned_of T x h =
          both_left (is_cleaned (life_of T.tree x)) (references_of T.tree x == 0)
          (both_left (is_cleaned (life_of T.tree x) && references_of T.tree x == 0) (length (children T.tree x) == 0) h)

whole : (n : ℕ) → n - 0 ≡ n
whole n = omega arith

-- ---- queued work and timers

-- what is queued is an object
none_by : {A : Type 0} (S : State A) (o : ℕ) (b : Bool) → DeletedSettled S → length S.tree.nodes ≤ o → is_work_queued S.work_items o ≡ b → b ≡ false
none_by S o true h past e =
    let off : is_live (life_of S.tree o) ≡ false = ap (λ (n : Node). is_live n.life) (entry_past gone S.tree.nodes o past) in
    absurd (let on = h.works o e in let z : ⊥ = cc in z)
none_by S o false h past e = refl

pub none_beyond : {A : Type 0} (S : State A) → DeletedSettled S → (o : ℕ) → length S.tree.nodes ≤ o → is_work_queued S.work_items o ≡ false
none_beyond S h o past = none_by S o (is_work_queued S.work_items o) h past refl

-- and so is a due timer
due_queued : {A : Type 0} (S : State A) (o : ℕ) → timer_due S.timers o S.clock ≡ true → is_timer_queued S.timers o ≡ true
due_queued S o h = by (timed_of S.timers o) h
  where
    by : (t : Option Timed) → is_reached S.clock t ≡ true → is_some t ≡ true
    by None h = absurd (let z : ⊥ = cc in z)
    by (Some t) h = refl

untimed_by : {A : Type 0} (S : State A) (o : ℕ) (b : Bool) → DeletedSettled S → length S.tree.nodes ≤ o → is_timer_queued S.timers o ≡ b → b ≡ false
untimed_by S o true h past e =
    let off : is_live (life_of S.tree o) ≡ false = ap (λ (n : Node). is_live n.life) (entry_past gone S.tree.nodes o past) in
    absurd (let on = h.timers o e in let z : ⊥ = cc in z)
untimed_by S o false h past e = refl

untimed_beyond : {A : Type 0} (S : State A) → DeletedSettled S → (o : ℕ) → length S.tree.nodes ≤ o → is_timer_queued S.timers o ≡ false
untimed_beyond S h o past = untimed_by S o (is_timer_queued S.timers o) h past refl

pub none_due_beyond : {A : Type 0} (S : State A) → DeletedSettled S → (o : ℕ) → length S.tree.nodes ≤ o → timer_due S.timers o S.clock ≡ false
none_due_beyond S h o past = by (timed_of S.timers o) (untimed_beyond S h o past)
  where
    by : (t : Option Timed) → is_some t ≡ false → is_reached S.clock t ≡ false
    by None e = refl
    by (Some t) e = absurd (let z : ⊥ = cc in z)

none_held : (l : LockRef) (held : List Held) → (length held == 0) ≡ true → is_free_hold (find (λ h. same_lock h.lock l) held) ≡ true
none_held l [] h = refl
none_held l (x ∷ held) h = absurd (let none = eqb-true (length (x ∷ held)) 0 h in omega arith)

free_unheld : (L : Locks) (l : Option LockRef) → (length L.held == 0) ≡ true → is_free_if_any L l ≡ true
free_unheld L None h = refl
free_unheld L (Some l) h = none_held l L.held h

no_serial_lock : (plan : Plan) (x : ClassInfo) → is_serial x ≡ false → serial_lock plan (Some x) ≡ None
no_serial_lock plan (class.Deferred name k parent true period) h = absurd (let z : ⊥ = cc in z)
no_serial_lock plan (class.Deferred name k parent false period) h = refl
no_serial_lock plan (class.Plain name k) h = refl

no_serial_at : (plan : Plan) (classes : List ClassInfo) (c : ℕ) → list_any is_serial classes ≡ false → serial_lock plan (slice_get classes c) ≡ None
no_serial_at plan [] c h = refl
no_serial_at plan (x ∷ classes) zero h = no_serial_lock plan x (or_parts (is_serial x) (list_any is_serial classes) h).0
no_serial_at plan (x ∷ classes) (suc c) h = no_serial_at plan classes c (or_parts (is_serial x) (list_any is_serial classes) h).1

no_parent_lock : (plan : Plan) (d : Option Declared) → list_any is_serial plan.classes ≡ false → parent_lock plan d ≡ None
no_parent_lock plan (Some (declared.OfClass c)) h = no_serial_at plan plan.classes c h
no_parent_lock plan _ h = refl

unlocked_by : {A : Type 0} (plan : Plan) (S : State A) (d : Option Declared) (unheld : Bool) → (length S.locks.held == 0) ≡ unheld → (unheld || not (list_any is_serial plan.classes)) ≡ true → is_free_if_any S.locks (parent_lock plan d) ≡ true
unlocked_by plan S d true e h = free_unheld S.locks (parent_lock plan d) e
unlocked_by plan S d false e h = ap (is_free_if_any S.locks) (no_parent_lock plan d (not_true (list_any is_serial plan.classes) h))

-- where no lock keeps queued work back, that of its parent is free
unlocked_free : {A : Type 0} (plan : Plan) (S : State A) (d : Option Declared) → is_unlocked plan S ≡ true → is_free_if_any S.locks (parent_lock plan d) ≡ true
unlocked_free plan S d h = unlocked_by plan S d (length S.locks.held == 0) refl h

-- what is queued has all the rest
queued_only : (c d l v f q n : Bool) → c ≡ true → v ≡ true → f ≡ true → (q ≡ true → d ≡ true) → (q ≡ true → l ≡ true) → (c && (d && l && v && f && (q && n))) ≡ (q && n)
queued_only c d l v f true n a b e g h = rw (a, g refl, h refl, b, e) refl
queued_only c d l v f false n a b e g h = right_fails c (d && l && v && f && false) (right_fails (d && l && v && f) false refl)

-- a list by its places
at_end : {T : Type 0} (ys : List T) (x : T) (xs : List T) → slice_get (ys ++ x ∷ xs) (length ys) ≡ Some x
at_end [] x xs = refl
at_end (y ∷ ys) x xs = at_end ys x xs

pub listed : {T : Type 0} (f : Option T → Option Event) (ys xs : List T) → filter_map (λ k. f (slice_get (ys ++ xs) k)) (range_with_len (length ys) (length xs)) ≡ filter_map (λ (x : T). f (Some x)) xs
listed f ys [] = refl
listed {T} f ys (x ∷ xs) =
    let one_more : length (ys ++ x ∷ []) ≡ length ys + 1 = length-append ys (x ∷ []) in
    let whole_list : (ys ++ x ∷ []) ++ xs ≡ ys ++ x ∷ xs = append_assoc ys (x ∷ []) xs in
    let rest = subst (λ n. filter_map (λ k. f (slice_get (ys ++ x ∷ xs) k)) (range_with_len n (length xs)) ≡ filter_map (λ (y : T). f (Some y)) xs) one_more
    (subst (λ zs. filter_map (λ k. f (slice_get zs k)) (range_with_len (length (ys ++ x ∷ [])) (length xs)) ≡ filter_map (λ (y : T). f (Some y)) xs) whole_list (listed f (ys ++ x ∷ []) xs)) in
    ap (λ o. cons_option (f o) (filter_map (λ k. f (slice_get (ys ++ x ∷ xs) k)) (range_with_len (length ys + 1) (length xs)))) (at_end ys x xs)
    ∙ ap (cons_option (f (Some x))) rest

-- of a list that passes a weaker test as many pass
filter_by : (p r : ℕ → Bool) (x : ℕ) (xs : List ℕ) (b c : Bool) → p x ≡ b → r x ≡ c → (c ≡ true → b ≡ true) → filter r (filter p xs) ≡ filter r xs → filter r (if b then x ∷ filter p xs else filter p xs) ≡ (if c then x ∷ filter r xs else filter r xs)
filter_by p r x xs true true e f h rest = rw f (ap (λ ys. x ∷ ys) rest)
filter_by p r x xs true false e f h rest = rw f rest
filter_by p r x xs false true e f h rest = absurd (let off = h refl in let z : ⊥ = cc in z)
filter_by p r x xs false false e f h rest = rest

filter_within : (p r : ℕ → Bool) → ((x : ℕ) → r x ≡ true → p x ≡ true) → (xs : List ℕ) → filter r (filter p xs) ≡ filter r xs
filter_within p r h [] = refl
filter_within p r h (x ∷ xs) = filter_by p r x xs (p x) (r x) refl refl (h x) (filter_within p r h xs)

module _ {A : Type 0} (plan : Plan) (m : Meaning A) (S : State A) where
  gives_cleanup : IsNumbered plan S leaving.Cleanup → (o : ℕ)
      → offered plan m S group.Cleanups o ≡ (if may_leave leaving.Cleanup S o then Some (event_of leaving.Cleanup (handle_in plan S o)) else None)
  gives_cleanup h o =
      let same : may plan m S (event.Cleanup (handle_in plan S o)) ≡ clean_ready S o
      = sym (and_left (clean_ready S o) (callback_over plan S callback.EvtCleanupCallback o) (λ ready. h o (part leaving.Cleanup S o ready)) ∙ clean_up_parts plan m S o) in
      ap (λ b. if b then Some (event.Cleanup (handle_in plan S o)) else None) same

  gives_end : IsNumbered plan S leaving.Destroy → (o : ℕ)
      → offered plan m S group.Destroys o ≡ (if may_leave leaving.Destroy S o then Some (event_of leaving.Destroy (handle_in plan S o)) else None)
  gives_end h o =
      let same : may plan m S (event.Destroy (handle_in plan S o)) ≡ destroy_ready S o
      = sym (and_left (destroy_ready S o) (callback_over plan S callback.EvtDestroyCallback o) (λ ready. h o (part leaving.Destroy S o ready)) ∙ end_parts plan m S o) in
      ap (λ b. if b then Some (event.Destroy (handle_in plan S o)) else None) same

  -- where each id has a place, and it is offered where it may leave
  module _ (l : Leaving) (places : places_in plan S (group_of l) ≡ length S.tree.nodes) (gives : (o : ℕ) → offered plan m S (group_of l) o ≡ (if may_leave l S o then Some (event_of l (handle_in plan S o)) else None)) where
    places_left : places_in plan S (group_of l) - 0 ≡ length S.tree.nodes
    places_left = whole (places_in plan S (group_of l)) ∙ places

    counted_by : length (leavers l S) ≡ length (offered_from plan m S (group_of l) 0)
    counted_by =
        sym (ap (λ n. length (filter_map (offered plan m S (group_of l)) (range_with_len 0 n))) places_left
        ∙ mapped_len (offered plan m S (group_of l)) (may_leave l S) (λ o. event_of l (handle_in plan S o)) gives (range_with_len 0 (length S.tree.nodes)))

    found_by : (k : ℕ) → slice_get (offered_from plan m S (group_of l) 0) k ≡ option_map (λ o. event_of l (handle_in plan S o)) (slice_get (leavers l S) k)
    found_by k =
        ap (λ n. slice_get (filter_map (offered plan m S (group_of l)) (range_with_len 0 n)) k) places_left
        ∙ mapped_at (offered plan m S (group_of l)) (may_leave l S) (λ o. event_of l (handle_in plan S o)) gives (range_with_len 0 (length S.tree.nodes)) k

  -- ---- work items

  module _ (cpu : ℕ) (numbered : IsNumbered plan S (leaving.Work cpu)) (settled : IsSettled plan S) (order : AreInOrder S.work_items) where
    places_of_work : places_in plan S (group.Starts cpu rank.Work) - 0 ≡ length S.work_items.queued
    places_of_work = whole (length S.work_items.queued)

    -- the start of a queued work item may come where no frame is on it
    start_comes : (o : ℕ) → may plan m S (starts plan S cpu callback.EvtWorkItem o) ≡ may_leave (leaving.Work cpu) S o
    start_comes o =
        let front = both_left (is_cpu plan (cpu_of cpu) && is_empty_cpu S.cpus cpu) (is_unlocked plan S) numbered in
        sym (start_parts plan m S cpu callback.EvtWorkItem o)
        ∙ queued_only (is_cpu plan (cpu_of cpu)) (declares_in plan S callback.EvtWorkItem o) (is_live (life_of S.tree o)) (is_empty_cpu S.cpus cpu)
        (is_free_if_any S.locks (parent_lock plan (declared_in plan S o))) (is_work_queued S.work_items o) (nobody_on S.cpus o)
        (both_left (is_cpu plan (cpu_of cpu)) (is_empty_cpu S.cpus cpu) front) (both_right (is_cpu plan (cpu_of cpu)) (is_empty_cpu S.cpus cpu) front)
        (unlocked_free plan S (declared_in plan S o) (both_right (is_cpu plan (cpu_of cpu) && is_empty_cpu S.cpus cpu) (is_unlocked plan S) numbered))
        (settled.declared o) (settled.deleted.works o)

    abbrev work_at : ℕ → Option Event
    work_at o = if may_leave (leaving.Work cpu) S o then Some (event_of (leaving.Work cpu) (handle_in plan S o)) else None

    abbrev offered_work : Option ℕ → Option Event
    offered_work o = if_allowed plan m S (option_map (λ x. starts plan S cpu callback.EvtWorkItem x) o)

    is_work : (o : ℕ) → offered_work (Some o) ≡ work_at o
    is_work o = ap (λ b. if b then Some (event_of (leaving.Work cpu) (handle_in plan S o)) else None) (start_comes o)

    all_work : (xs : List ℕ) → filter_map (λ o. offered_work (Some o)) xs ≡ filter_map work_at xs
    all_work [] = refl
    all_work (x ∷ xs) = ap (λ e. cons_option e (filter_map (λ o. offered_work (Some o)) xs)) (is_work x) ∙ ap (cons_option (work_at x)) (all_work xs)

    work_from : offered_from plan m S (group.Starts cpu rank.Work) 0 ≡ filter_map work_at S.work_items.queued
    work_from =
        ap (λ n. filter_map (offered plan m S (group.Starts cpu rank.Work)) (range_with_len 0 n)) places_of_work
        ∙ listed offered_work [] S.work_items.queued ∙ all_work S.work_items.queued

    leavers_queued : filter (may_leave (leaving.Work cpu) S) S.work_items.queued ≡ leavers (leaving.Work cpu) S
    leavers_queued =
        ap (filter (may_leave (leaving.Work cpu) S)) (order.rising (length S.tree.nodes) (none_beyond S settled.deleted))
        ∙ filter_within (is_work_queued S.work_items) (may_leave (leaving.Work cpu) S) (part (leaving.Work cpu) S) (range_with_len 0 (length S.tree.nodes))

    works_counted : length (leavers (leaving.Work cpu) S) ≡ length (offered_from plan m S (group.Starts cpu rank.Work) 0)
    works_counted =
        ap length (sym leavers_queued)
        ∙ sym (ap length work_from ∙ mapped_len work_at (may_leave (leaving.Work cpu) S) (λ o. event_of (leaving.Work cpu) (handle_in plan S o)) (λ o. refl) S.work_items.queued)

    work_found : (k : ℕ) → slice_get (offered_from plan m S (group.Starts cpu rank.Work) 0) k ≡ option_map (λ o. event_of (leaving.Work cpu) (handle_in plan S o)) (slice_get (leavers (leaving.Work cpu) S) k)
    work_found k =
        ap (λ es. slice_get es k) work_from
        ∙ mapped_at work_at (may_leave (leaving.Work cpu) S) (λ o. event_of (leaving.Work cpu) (handle_in plan S o)) (λ o. refl) S.work_items.queued k
        ∙ ap (λ xs. option_map (λ o. event_of (leaving.Work cpu) (handle_in plan S o)) (slice_get xs k)) leavers_queued

  -- ---- timers

  module _ (cpu : ℕ) (numbered : IsNumbered plan S (leaving.Timed cpu)) (settled : IsSettled plan S) (order : AreTimersInOrder S.timers) where
    places_of_timers : places_in plan S (group.Starts cpu rank.Timed) - 0 ≡ length S.timers.queued
    places_of_timers = whole (length S.timers.queued)

    -- the start of a timer may come where it is due and no frame is on it
    timer_comes : (o : ℕ) → may plan m S (starts plan S cpu callback.EvtTimerFunc o) ≡ may_leave (leaving.Timed cpu) S o
    timer_comes o =
        let front = both_left (is_cpu plan (cpu_of cpu) && level_fits S cpu 2) (is_unlocked plan S) numbered in
        sym (start_parts plan m S cpu callback.EvtTimerFunc o)
        ∙ queued_only (is_cpu plan (cpu_of cpu)) (declares_in plan S callback.EvtTimerFunc o) (is_live (life_of S.tree o)) (level_fits S cpu 2)
        (is_free_if_any S.locks (parent_lock plan (declared_in plan S o))) (timer_due S.timers o S.clock) (nobody_on S.cpus o)
        (both_left (is_cpu plan (cpu_of cpu)) (level_fits S cpu 2) front) (both_right (is_cpu plan (cpu_of cpu)) (level_fits S cpu 2) front)
        (unlocked_free plan S (declared_in plan S o) (both_right (is_cpu plan (cpu_of cpu) && level_fits S cpu 2) (is_unlocked plan S) numbered))
        (λ due. settled.timed o (due_queued S o due)) (λ due. settled.deleted.timers o (due_queued S o due))

    abbrev timer_at : ℕ → Option Event
    timer_at o = if may_leave (leaving.Timed cpu) S o then Some (event_of (leaving.Timed cpu) (handle_in plan S o)) else None

    abbrev offered_timer : Option Timed → Option Event
    offered_timer o = if_allowed plan m S (option_map (λ (t : Timed). starts plan S cpu callback.EvtTimerFunc t.timer.0) o)

    is_timer : (t : Timed) → offered_timer (Some t) ≡ timer_at t.timer.0
    is_timer t = ap (λ b. if b then Some (event_of (leaving.Timed cpu) (handle_in plan S t.timer.0)) else None) (timer_comes t.timer.0)

    all_timers : (ts : List Timed) → filter_map (λ (t : Timed). offered_timer (Some t)) ts ≡ filter_map timer_at (map timer_id ts)
    all_timers [] = refl
    all_timers (t ∷ ts) = ap (λ e. cons_option e (filter_map (λ (x : Timed). offered_timer (Some x)) ts)) (is_timer t) ∙ ap (cons_option (timer_at t.timer.0)) (all_timers ts)

    timers_from : offered_from plan m S (group.Starts cpu rank.Timed) 0 ≡ filter_map timer_at (map timer_id S.timers.queued)
    timers_from =
        ap (λ n. filter_map (offered plan m S (group.Starts cpu rank.Timed)) (range_with_len 0 n)) places_of_timers
        ∙ listed offered_timer [] S.timers.queued ∙ all_timers S.timers.queued

    leavers_timed : filter (may_leave (leaving.Timed cpu) S) (map timer_id S.timers.queued) ≡ leavers (leaving.Timed cpu) S
    leavers_timed =
        ap (filter (may_leave (leaving.Timed cpu) S)) (order.rising (length S.tree.nodes) (untimed_beyond S settled.deleted))
        ∙ filter_within (is_timer_queued S.timers) (may_leave (leaving.Timed cpu) S) (λ o may_go. due_queued S o (part (leaving.Timed cpu) S o may_go)) (range_with_len 0 (length S.tree.nodes))

    timers_counted : length (leavers (leaving.Timed cpu) S) ≡ length (offered_from plan m S (group.Starts cpu rank.Timed) 0)
    timers_counted =
        ap length (sym leavers_timed)
        ∙ sym (ap length timers_from ∙ mapped_len timer_at (may_leave (leaving.Timed cpu) S) (λ o. event_of (leaving.Timed cpu) (handle_in plan S o)) (λ o. refl) (map timer_id S.timers.queued))

    timer_found : (k : ℕ) → slice_get (offered_from plan m S (group.Starts cpu rank.Timed) 0) k ≡ option_map (λ o. event_of (leaving.Timed cpu) (handle_in plan S o)) (slice_get (leavers (leaving.Timed cpu) S) k)
    timer_found k =
        ap (λ es. slice_get es k) timers_from
        ∙ mapped_at timer_at (may_leave (leaving.Timed cpu) S) (λ o. event_of (leaving.Timed cpu) (handle_in plan S o)) (λ o. refl) (map timer_id S.timers.queued) k
        ∙ ap (λ xs. option_map (λ o. event_of (leaving.Timed cpu) (handle_in plan S o)) (slice_get xs k)) leavers_timed

  -- as many may come as may leave
  pub leavers_counted : (l : Leaving) → IsNumbered plan S l → IsSettled plan S → AreInOrder S.work_items → AreTimersInOrder S.timers → length (leavers l S) ≡ length (offered_from plan m S (group_of l) 0)
  leavers_counted leaving.Cleanup n s i t = counted_by leaving.Cleanup refl (gives_cleanup n)
  leavers_counted leaving.Destroy n s i t = counted_by leaving.Destroy refl (gives_end n)
  leavers_counted (leaving.Work cpu) n s i t = works_counted cpu n s i
  leavers_counted (leaving.Timed cpu) n s i t = timers_counted cpu n s t

  -- and the k-th is that of the k-th of these
  leaver_at : (l : Leaving) → IsNumbered plan S l → IsSettled plan S → AreInOrder S.work_items → AreTimersInOrder S.timers → (k : ℕ)
      → slice_get (offered_from plan m S (group_of l) 0) k ≡ option_map (λ o. event_of l (handle_in plan S o)) (slice_get (leavers l S) k)
  leaver_at leaving.Cleanup n s i t k = found_by leaving.Cleanup refl (gives_cleanup n) k
  leaver_at leaving.Destroy n s i t k = found_by leaving.Destroy refl (gives_end n) k
  leaver_at (leaving.Work cpu) n s i t k = work_found cpu n s i k
  leaver_at (leaving.Timed cpu) n s i t k = timer_found cpu n s t k

  pub leaver_is : (l : Leaving) → IsNumbered plan S l → IsSettled plan S → AreInOrder S.work_items → AreTimersInOrder S.timers → (k : ℕ) (found : Option ObjectId) (o : ObjectId) → found ≡ Some o → option_map (λ (x : ObjectId). x.0) found ≡ slice_get (leavers l S) k
      → slice_get (offered_from plan m S (group_of l) 0) k ≡ Some (event_of l (handle_in plan S o.0))
  leaver_is l n s i t k found o is e =
      let at : slice_get (leavers l S) k ≡ Some o.0 = sym e ∙ ap (option_map (λ (x : ObjectId). x.0)) is in
      leaver_at l n s i t k ∙ ap (option_map (λ x. event_of l (handle_in plan S x))) at

-- what is within a list is there
pub leaver_there : {T : Type 0} (xs : List ℕ) (k : ℕ) (found : Option T) (f : T → ℕ) → k < length xs → option_map f found ≡ slice_get xs k → found ≡ None → ⊥
leaver_there xs k found f low e none = by xs k low (sym e ∙ ap (option_map f) none)
  where
    by : (ys : List ℕ) (j : ℕ) → j < length ys → slice_get ys j ≡ None → ⊥
    by [] j h g = absurd (omega arith)
    by (y ∷ ys) zero h g = let z : ⊥ = cc in z
    by (y ∷ ys) (suc j) h g = by ys j (omega arith) g
