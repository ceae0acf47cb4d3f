-- A callback that nothing declares doesn't start: of the groups that are left out nothing is ever offered.
use Rattle.std.proofs.Common.{Bool, true, false, not, ◌&&◌, ◌||◌, ℕ, zero, suc, ◌≡◌, ◌<◌, List, [], ◌∷◌, length, Option, Some, None, is_some, slice_get, refl, sym, ap, ◌∙◌, arith}
use Rattle.std.specs.List.{list_any}
use Rattle.std.specs.Option.{option_and_then}
use Rattle.wdf_base.specs.Callbacks.{carries_request, dpc_function, row_of}
use Rattle.wdf_base.specs.Meaning.{Meaning}
use Rattle.wdf_base.specs.Plan.{is_script_of}
use Rattle.wdf_base.specs.Same.{same_callback}
use Rattle.wdf_base.specs.SamePlan.{same_declared}
use Rattle.wdf_base.specs.declared.call.Callback.{Callback}
use Rattle.wdf_base.specs.declared.call.Callback.TheVariants as callback
use Rattle.wdf_base.specs.declared.declared.Declared.{Declared}
use Rattle.wdf_base.specs.declared.event.Event.TheVariants as event
use Rattle.wdf_base.specs.declared.event.Step.{Step}
use Rattle.wdf_base.specs.declared.event.Step.TheVariants as step
use Rattle.wdf_base.specs.declared.ids.Handle.{Handle}
use Rattle.wdf_base.specs.declared.object.Kind.{Kind}
use Rattle.wdf_base.specs.declared.object.Kind.TheVariants as kind
use Rattle.wdf_base.specs.declared.plan.Plan.{Plan}
use Rattle.wdf_base.specs.declared.rank.Rank.{Rank}
use Rattle.wdf_base.specs.declared.rank.Rank.TheVariants as rank
use Rattle.wdf_base.specs.declared.script.Script.{Script}
use Rattle.wdf_model.proofs.Sames.{callback_decides}
use Rattle.wdf_model.proofs.Tests.{left_fails}
use Rattle.wdf_model.specs.Ids.{cpu_of}
use Rattle.wdf_model.specs.Plans.{callback_irql, handler_for, interrupt_of, queue_of, script_on}
use Rattle.wdf_model.specs.State.{State, declared_in, declares_in, handle_in}
use Rattle.wdf_model.specs.declared.entries.Sending.{Sending}
use Rattle.wdf_model.specs.declared.entries.Timed.{Timed}
use Rattle.wdf_model.specs.declared.enums.Group.TheVariants as group
use Rattle.wdf_model.specs.parts.Deferred.Dpcs.{dpc_head}
use Rattle.wdf_model.specs.parts.Locks.{is_free_if_any, lock_of_callback}
use Rattle.wdf_model.specs.parts.Pnp.{next_step}
use Rattle.wdf_model.specs.parts.Queues.{front}
use Rattle.wdf_model.specs.parts.Requests.{info_of}
use Rattle.wdf_model.specs.parts.Targets.{the_target}
use Rattle.wdf_model.specs.parts.Tree.{kind_of}
use Rattle.wdf_model.specs.rules.Groups.{handler_start, start_of_step, starts, starts_for}
use Rattle.wdf_model.specs.rules.Starts.{is_ready_for, level_fits, life_fits, rank_ready}
use Rattle.wdf_offers.specs.Search.{can_start, if_allowed, offered, starts_by}
use Rattle.wdf_offers.proofs.NotOffered.{handler_ranked, not_mapped, not_ready, not_started, not_there}
use Rattle.wdf_offers.proofs.Passing.{none_at}

-- ---- no script is that of the callback

either_fails : (a b : Bool) → (a || b) ≡ false → a ≡ false
either_fails true b h = absurd (let z : ⊥ = cc in z)
either_fails false b h = refl

other_fails : (a b : Bool) → (a || b) ≡ false → b ≡ false
other_fails true b h = absurd (let z : ⊥ = cc in z)
other_fails false b h = h

each_fails : {T : Type 0} (test : T → Bool) (xs : List T) → list_any test xs ≡ false → (j : ℕ) (x : T) → slice_get xs j ≡ Some x → test x ≡ false
each_fails test [] h j x at = absurd (let z : ⊥ = cc in z)
each_fails test (y ∷ ys) h zero x at = let same : y ≡ x = cc in ap test (sym same) ∙ either_fails (test y) (list_any test ys) h
each_fails test (y ∷ ys) h (suc j) x at = each_fails test ys (other_fails (test y) (list_any test ys) h) j x at

module _ (plan : Plan) (r : Rank) (none : can_start plan r ≡ false) (c : Callback) (its : starts_by r c ≡ true) where
  unlike : (s : Callback) (b : Bool) → same_callback s c ≡ b → starts_by r s ≡ false → b ≡ false
  unlike s true e other = absurd (let is = ap (starts_by r) ((callback_decides s c).0 e) in let z : ⊥ = cc in z)
  unlike s false e other = refl

  no_script : (d : Declared) (j : ℕ) (s : Script) → j < length plan.scripts → slice_get plan.scripts j ≡ Some s → is_script_of c d s ≡ false
  no_script d j s below at =
      left_fails (same_callback s.callback c) (same_declared s.owner d)
      (unlike s.callback (same_callback s.callback c) refl (each_fails (λ (x : Script). starts_by r x.callback) plan.scripts none j s at))

  no_script_on : (d : Option Declared) → is_some (script_on plan c d) ≡ false
  no_script_on None = refl
  no_script_on (Some d) = ap is_some (none_at (is_script_of c d) plan.scripts (length plan.scripts) (omega arith) (no_script d))

-- ---- no start

dpc_starts : (k : Kind) → starts_by rank.Deferred (dpc_function k) ≡ true
dpc_starts kind.Interrupt = refl
dpc_starts _ = refl

handler_starts : (c : Callback) → (row_of c).rank ≡ rank.Handler → starts_by rank.Handler c ≡ true
handler_starts c ranked = rw ranked refl

module _ {A : Type 0} (plan : Plan) (m : Meaning A) (S : State A) where
  not_declared : (cpu : ℕ) (c : Callback) (o : ℕ) (h : Option Handle) → declares_in plan S c o ≡ false → if_allowed plan m S (Some (event.Start (cpu_of cpu) c (handle_in plan S o) h)) ≡ None
  not_declared cpu c o h lacks =
      not_started plan m S cpu c o h
      (left_fails (declares_in plan S c o && life_fits S c o && level_fits S cpu (callback_irql plan c o) && is_free_if_any S.locks (lock_of_callback plan c o (declared_in plan S o))) (is_ready_for plan m S cpu c o h)
      (left_fails (declares_in plan S c o && life_fits S c o && level_fits S cpu (callback_irql plan c o)) (is_free_if_any S.locks (lock_of_callback plan c o (declared_in plan S o)))
      (left_fails (declares_in plan S c o && life_fits S c o) (level_fits S cpu (callback_irql plan c o))
      (left_fails (declares_in plan S c o) (life_fits S c o) lacks))))

  -- a callback that may start by the group of a rank doesn't, where none such is declared
  undeclared : (r : Rank) → can_start plan r ≡ false → (cpu : ℕ) (c : Callback) (o : ℕ) (h : Option Handle) → starts_by r c ≡ true
      → if_allowed plan m S (Some (event.Start (cpu_of cpu) c (handle_in plan S o) h)) ≡ None
  undeclared r none cpu c o h its = not_declared cpu c o h (no_script_on plan r none c its (declared_in plan S o))

  -- a callback that is for a request doesn't start without one
  without_request : (r : Rank) (cpu : ℕ) (c : Callback) (o : ℕ) → carries_request r ≡ true → rank_ready plan m S r cpu c o ≡ false
  without_request rank.Completion cpu c o h = refl
  without_request rank.Cancel cpu c o h = refl
  without_request rank.CanceledOnQueue cpu c o h = refl
  without_request rank.Stop cpu c o h = refl
  without_request rank.Resume cpu c o h = refl
  without_request rank.Handler cpu c o h = refl
  without_request _ cpu c o h = absurd (let z : ⊥ = cc in z)

  no_step_by : can_start plan rank.Sequence ≡ false → (cpu : ℕ) (c : Callback) (o : ℕ) (b : Bool) → carries_request (row_of c).rank ≡ b → if_allowed plan m S (Some (starts plan S cpu c o)) ≡ None
  no_step_by none cpu c o true e = not_ready plan m S cpu c o None (without_request (row_of c).rank cpu c o e)
  no_step_by none cpu c o false e = undeclared rank.Sequence none cpu c o None (ap not e)

  no_step : can_start plan rank.Sequence ≡ false → (cpu d : ℕ) (s : Option Step) → if_allowed plan m S (option_and_then (start_of_step plan S cpu d) s) ≡ None
  no_step none cpu d None = refl
  no_step none cpu d (Some (step.Run c None)) = no_step_by none cpu c d (carries_request (row_of c).rank) refl
  no_step none cpu d (Some (step.Run c (Some i))) = no_step_by none cpu c i.id.0 (carries_request (row_of c).rank) refl
  no_step none cpu d (Some (step.Pass s i)) = refl

  no_handler : can_start plan rank.Handler ≡ false → (cpu q : ℕ) (f : Option ℕ) → if_allowed plan m S (option_and_then (handler_start plan S cpu q) f) ≡ None
  no_handler none cpu q None = refl
  no_handler none cpu q (Some r) =
      not_mapped plan m S (λ c. starts_for plan S cpu c q r) (handler_for plan q (info_of S.requests r).form)
      (λ c e. undeclared rank.Handler none cpu c q (Some (handle_in plan S r)) (handler_starts c (handler_ranked plan q (info_of S.requests r).form c e)))

  -- where nothing declares a callback that may start by the group of a rank, the group offers nothing
  pub never_starts : (cpu : ℕ) (r : Rank) (k : ℕ) → can_start plan r ≡ false → offered plan m S (group.Starts cpu r) k ≡ None
  never_starts cpu rank.Isr k none =
      not_there plan m S (is_some (interrupt_of plan k)) (starts plan S cpu callback.EvtInterruptIsr k) (undeclared rank.Isr none cpu callback.EvtInterruptIsr k None refl)
  never_starts cpu rank.Deferred k none =
      not_mapped plan m S (λ o. starts plan S cpu (dpc_function (kind_of S.tree o)) o) (dpc_head S.dpcs cpu)
      (λ o e. undeclared rank.Deferred none cpu (dpc_function (kind_of S.tree o)) o None (dpc_starts (kind_of S.tree o)))
  never_starts cpu rank.Timed k none =
      not_mapped plan m S (λ (t : Timed). starts plan S cpu callback.EvtTimerFunc t.timer.0) (slice_get S.timers.queued k)
      (λ t e. undeclared rank.Timed none cpu callback.EvtTimerFunc t.timer.0 None refl)
  never_starts cpu rank.QueueState k none =
      not_there plan m S (is_some (queue_of plan k)) (starts plan S cpu callback.EvtIoQueueState k) (undeclared rank.QueueState none cpu callback.EvtIoQueueState k None refl)
  never_starts cpu rank.Handler k none = no_handler none cpu k (front S.queues k)
  never_starts cpu rank.Sequence k none = no_step none cpu k (next_step S.pnp k)
  never_starts cpu rank.Work k none =
      not_mapped plan m S (λ o. starts plan S cpu callback.EvtWorkItem o) (slice_get S.work_items.queued k)
      (λ o e. undeclared rank.Work none cpu callback.EvtWorkItem o None refl)
  never_starts cpu rank.Cleanup k none = undeclared rank.Cleanup none cpu callback.EvtCleanupCallback k None refl
  never_starts cpu rank.Destroy k none = undeclared rank.Destroy none cpu callback.EvtDestroyCallback k None refl
  never_starts cpu _ k none = refl

  -- the same for the completion routines of a target
  pub never_completes : (cpu t k : ℕ) → can_start plan rank.Completion ≡ false → offered plan m S (group.StartsFor cpu rank.Completion t) k ≡ None
  never_completes cpu t k none =
      not_mapped plan m S (λ (s : Sending). starts_for plan S cpu callback.EvtRequestCompletion t s.request.0) (slice_get (the_target S.targets t).sent k)
      (λ s e. undeclared rank.Completion none cpu callback.EvtRequestCompletion t (Some (handle_in plan S s.request.0)) refl)
