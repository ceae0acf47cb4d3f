-- The starts of a rank on two empty processors are as many.
use Rattle.std.proofs.Common.{if◌then◌else◌, Bool, true, false, ◌&&◌, ◌==◌, ◌+◌, ◌-◌, append-nil, length-append, nat_lt, ℕ, suc, ◌≡◌, List, [], ◌∷◌, length, Option, Some, None, is_some, option_map, slice_get, refl, sym, ap, ◌∙◌}
use Rattle.std.specs.List.{cons_option, filter_map, range_with_len}
use Rattle.std.specs.Option.{option_and_then}
use Rattle.wdf_base.specs.Meaning.{Meaning}
use Rattle.wdf_base.specs.declared.call.Callback.{Callback}
use Rattle.wdf_base.specs.declared.call.Callback.TheVariants as callback
use Rattle.wdf_base.specs.declared.event.Event.{Event}
use Rattle.wdf_base.specs.declared.event.Event.TheVariants as event
use Rattle.wdf_base.specs.declared.ids.Handle.{Handle}
use Rattle.wdf_base.specs.declared.plan.Plan.{Plan}
use Rattle.wdf_base.specs.declared.rank.Rank.{Rank}
use Rattle.wdf_base.specs.declared.rank.Rank.TheVariants as rank
use Rattle.wdf_base.specs.Callbacks.{rank_number}
use Rattle.wdf_model.specs.Ids.{cpu_of}
use Rattle.wdf_model.specs.Plans.{callback_irql, handler_for, interrupt_of, queue_of}
use Rattle.wdf_model.specs.State.{State, declared_in, declares_in, handle_in, is_proper}
use Rattle.wdf_model.specs.declared.entries.Sending.{Sending}
use Rattle.wdf_model.specs.declared.entries.Timed.{Timed}
use Rattle.wdf_model.specs.declared.enums.Group.TheVariants as group
use Rattle.wdf_model.specs.parts.Cpus.{irql, is_empty_cpu, stack_of}
use Rattle.wdf_model.specs.parts.Locks.{is_free_if_any, lock_of_callback}
use Rattle.wdf_model.specs.parts.Queues.{front}
use Rattle.wdf_model.specs.parts.Requests.{info_of}
use Rattle.wdf_model.specs.parts.Targets.{the_target}
use Rattle.wdf_model.specs.declared.enums.Group.{Group}
use Rattle.wdf_model.specs.rules.Groups.{RANKS, callback_for, groups_for, handler_start, if_there, places_for, places_of_rank, starts, starts_for}
use Rattle.wdf_model.specs.rules.Starts.{is_ready_for, level_fits, life_fits, may_start}
use Rattle.wdf_model.specs.rules.Steps.{is_cpu, is_proper_if_any, may}
use Rattle.wdf_ready.specs.Alike.{AreAlike, is_shared}
use Rattle.wdf_offers.specs.Search.{if_allowed, offered, offered_from, offered_len}
use Rattle.wdf_ready.specs.Blocks.{ObjectLists, block_len, events_for, groups_in, objects_of}
use Rattle.wdf_ready.specs.declared.blocks.Block.TheVariants as block
use Rattle.wdf_offers.proofs.NotOffered.{empty_is_low}

-- ---- lists

same_len_by : (a b : Option Event) (xs ys : List Event) → is_some a ≡ is_some b → length xs ≡ length ys → length (cons_option a xs) ≡ length (cons_option b ys)
same_len_by None None xs ys h rest = rest
same_len_by (Some e) (Some f) xs ys h rest = ap suc rest
same_len_by None (Some f) xs ys h rest = absurd (let z : ⊥ = cc in z)
same_len_by (Some e) None xs ys h rest = absurd (let z : ⊥ = cc in z)

same_len : (f h : ℕ → Option Event) → ((k : ℕ) → is_some (f k) ≡ is_some (h k)) → (ks : List ℕ) → length (filter_map f ks) ≡ length (filter_map h ks)
same_len f h each [] = refl
same_len f h each (k ∷ ks) = same_len_by (f k) (h k) (filter_map f ks) (filter_map h ks) (each k) (same_len f h each ks)

-- ---- ranks

rank_back : (r : Rank) → slice_get RANKS (rank_number r - 1) ≡ Some r
rank_back rank.Isr = refl
rank_back rank.Deferred = refl
rank_back rank.Timed = refl
rank_back rank.Completion = refl
rank_back rank.Cancel = refl
rank_back rank.CanceledOnQueue = refl
rank_back rank.Stop = refl
rank_back rank.Resume = refl
rank_back rank.QueueState = refl
rank_back rank.Handler = refl
rank_back rank.Sequence = refl
rank_back rank.Work = refl
rank_back rank.Cleanup = refl
rank_back rank.Destroy = refl

-- ranks with one number are one
pub same_rank : (r s : Rank) → rank_number r ≡ rank_number s → r ≡ s
same_rank r s h =
    let both : Some r ≡ Some s = sym (rank_back r) ∙ ap (λ n. slice_get RANKS (n - 1)) h ∙ rank_back s in
    cc

-- ---- starts

module _ {A : Type 0} (plan : Plan) (m : Meaning A) (S : State A) (a b : ℕ) (like : AreAlike plan S a b) where
  both_empty : is_empty_cpu S.cpus a ≡ is_empty_cpu S.cpus b
  both_empty = like.one_empty ∙ sym like.other_empty

  both_low : irql S.cpus a ≡ irql S.cpus b
  both_low = empty_is_low S.cpus (stack_of S.cpus a) like.one_empty ∙ sym (empty_is_low S.cpus (stack_of S.cpus b) like.other_empty)

  level_same : (level : ℕ) → level_fits S a level ≡ level_fits S b level
  level_same level =
      ap (λ e. if level == 0 then e else nat_lt (irql S.cpus a) level) both_empty ∙ ap (λ n. if level == 0 then is_empty_cpu S.cpus b else nat_lt n level) both_low

  start_same : (c : Callback) (o : ℕ) (r : Option Handle) → is_ready_for plan m S a c o r ≡ is_ready_for plan m S b c o r → may_start plan m S a c o r ≡ may_start plan m S b c o r
  start_same c o r ready =
      ap (λ x. declares_in plan S c o && life_fits S c o && x && is_free_if_any S.locks (lock_of_callback plan c o (declared_in plan S o)) && is_ready_for plan m S a c o r) (level_same (callback_irql plan c o))
      ∙ ap (λ x. declares_in plan S c o && life_fits S c o && level_fits S b (callback_irql plan c o) && is_free_if_any S.locks (lock_of_callback plan c o (declared_in plan S o)) && x) ready

  may_same : (c : Callback) (o : ℕ) (r : Option Handle) → is_ready_for plan m S a c o r ≡ is_ready_for plan m S b c o r
      → may plan m S (event.Start (cpu_of a) c (handle_in plan S o) r) ≡ may plan m S (event.Start (cpu_of b) c (handle_in plan S o) r)
  may_same c o r ready =
      ap (λ x. x && is_proper plan S (handle_in plan S o) && is_proper_if_any plan S r && may_start plan m S a c o r) (like.one_is ∙ sym like.other_is)
      ∙ ap (λ x. is_cpu plan (cpu_of b) && is_proper plan S (handle_in plan S o) && is_proper_if_any plan S r && x) (start_same c o r ready)

  some_if : (e : Event) (t : Bool) → is_some (if t then Some e else None) ≡ t
  some_if e true = refl
  some_if e false = refl

  allowed_same : (c : Callback) (o : ℕ) (r : Option Handle) → is_ready_for plan m S a c o r ≡ is_ready_for plan m S b c o r
      → is_some (if_allowed plan m S (Some (event.Start (cpu_of a) c (handle_in plan S o) r))) ≡ is_some (if_allowed plan m S (Some (event.Start (cpu_of b) c (handle_in plan S o) r)))
  allowed_same c o r ready =
      some_if (event.Start (cpu_of a) c (handle_in plan S o) r) (may plan m S (event.Start (cpu_of a) c (handle_in plan S o) r))
      ∙ may_same c o r ready
      ∙ sym (some_if (event.Start (cpu_of b) c (handle_in plan S o) r) (may plan m S (event.Start (cpu_of b) c (handle_in plan S o) r)))

  there_same : (t : Bool) (e f : Event) → is_some (if_allowed plan m S (Some e)) ≡ is_some (if_allowed plan m S (Some f)) → is_some (if_allowed plan m S (if_there t e)) ≡ is_some (if_allowed plan m S (if_there t f))
  there_same true e f h = h
  there_same false e f h = refl

  mapped_same : {T : Type 0} (f h : T → Event) (o : Option T) → ((x : T) → is_some (if_allowed plan m S (Some (f x))) ≡ is_some (if_allowed plan m S (Some (h x))))
      → is_some (if_allowed plan m S (option_map f o)) ≡ is_some (if_allowed plan m S (option_map h o))
  mapped_same f h None each = refl
  mapped_same f h (Some x) each = each x

  front_same : (q : ℕ) (o : Option ℕ) → is_some (if_allowed plan m S (option_and_then (handler_start plan S a q) o)) ≡ is_some (if_allowed plan m S (option_and_then (handler_start plan S b q) o))
  front_same q None = refl
  front_same q (Some r) =
      mapped_same (λ c. starts_for plan S a c q r) (λ c. starts_for plan S b c q r) (handler_for plan q (info_of S.requests r).form)
      (λ c. allowed_same c q (Some (handle_in plan S r)) refl)

  offers_same : (r : Rank) (k : ℕ) → is_shared r ≡ true → is_some (offered plan m S (group.Starts a r) k) ≡ is_some (offered plan m S (group.Starts b r) k)
  offers_same rank.Isr k h =
      there_same (is_some (interrupt_of plan k)) (starts plan S a callback.EvtInterruptIsr k) (starts plan S b callback.EvtInterruptIsr k) (allowed_same callback.EvtInterruptIsr k None refl)
  offers_same rank.Deferred k h = absurd (let z : ⊥ = cc in z)
  offers_same rank.Sequence k h = absurd (let z : ⊥ = cc in z)
  offers_same rank.Timed k h =
      mapped_same (λ (t : Timed). starts plan S a callback.EvtTimerFunc t.timer.0) (λ (t : Timed). starts plan S b callback.EvtTimerFunc t.timer.0) (slice_get S.timers.queued k)
      (λ t. allowed_same callback.EvtTimerFunc t.timer.0 None refl)
  offers_same rank.QueueState k h =
      there_same (is_some (queue_of plan k)) (starts plan S a callback.EvtIoQueueState k) (starts plan S b callback.EvtIoQueueState k) (allowed_same callback.EvtIoQueueState k None refl)
  offers_same rank.Handler k h = front_same k (front S.queues k)
  offers_same rank.Work k h =
      mapped_same (λ o. starts plan S a callback.EvtWorkItem o) (λ o. starts plan S b callback.EvtWorkItem o) (slice_get S.work_items.queued k)
      (λ o. allowed_same callback.EvtWorkItem o None refl)
  offers_same rank.Cleanup k h = allowed_same callback.EvtCleanupCallback k None refl
  offers_same rank.Destroy k h = allowed_same callback.EvtDestroyCallback k None refl
  offers_same _ k h = refl

  offers_same_for : (r : Rank) (o k : ℕ) → is_some (offered plan m S (group.StartsFor a r o) k) ≡ is_some (offered plan m S (group.StartsFor b r o) k)
  offers_same_for rank.Completion t k =
      mapped_same (λ (s : Sending). starts_for plan S a callback.EvtRequestCompletion t s.request.0) (λ (s : Sending). starts_for plan S b callback.EvtRequestCompletion t s.request.0)
      (slice_get (the_target S.targets t).sent k) (λ s. allowed_same callback.EvtRequestCompletion t (Some (handle_in plan S s.request.0)) refl)
  offers_same_for r o k = allowed_same (callback_for r) o (Some (handle_in plan S k)) refl

  -- the starts of a rank on two empty processors are as many
  pub alike_starts : (r : Rank) → is_shared r ≡ true → offered_len plan m S (group.Starts a r) ≡ offered_len plan m S (group.Starts b r)
  alike_starts r h =
      same_len (offered plan m S (group.Starts a r)) (offered plan m S (group.Starts b r)) (λ k. offers_same r k h) (range_with_len 0 (places_of_rank plan S r - 0))

  -- and so are those for the requests of an object
  alike_for : (r : Rank) (o : ℕ) → offered_len plan m S (group.StartsFor a r o) ≡ offered_len plan m S (group.StartsFor b r o)
  alike_for r o =
      same_len (offered plan m S (group.StartsFor a r o)) (offered plan m S (group.StartsFor b r o)) (offers_same_for r o) (range_with_len 0 (places_for plan S r o - 0))

  alike_each : (r : Rank) (ids : List ℕ) → length (events_for plan m S a r ids) ≡ length (events_for plan m S b r ids)
  alike_each r [] = refl
  alike_each r (o ∷ ids) =
      length-append (offered_from plan m S (group.StartsFor a r o) 0) (events_for plan m S a r ids)
      ∙ ap (λ n. n + length (events_for plan m S a r ids)) (alike_for r o)
      ∙ ap (λ n. offered_len plan m S (group.StartsFor b r o) + n) (alike_each r ids)
      ∙ sym (length-append (offered_from plan m S (group.StartsFor b r o) 0) (events_for plan m S b r ids))

  as_many_groups : (r : Rank) (ids : List ℕ) → length (groups_for a r ids) ≡ length (groups_for b r ids)
  as_many_groups r [] = refl
  as_many_groups r (o ∷ ids) = ap suc (as_many_groups r ids)

  -- and so are those of a block
  pub alike_blocks : (o : ObjectLists) (r : Rank)
      → (length (groups_in o (block.ForEach a r)) ≡ length (groups_in o (block.ForEach b r))) × (block_len plan m S o (block.ForEach a r) ≡ block_len plan m S o (block.ForEach b r))
  alike_blocks o r = (as_many_groups r (objects_of o r), alike_each r (objects_of o r))

-- blocks of one group each offer as much as their groups
pub alike_ones : {A : Type 0} (plan : Plan) (m : Meaning A) (S : State A) (o : ObjectLists) (g h : Group) → offered_len plan m S g ≡ offered_len plan m S h
    → (length (groups_in o (block.One g)) ≡ length (groups_in o (block.One h))) × (block_len plan m S o (block.One g) ≡ block_len plan m S o (block.One h))
alike_ones plan m S o g h same =
    (refl, ap length (append-nil (offered_from plan m S g 0)) ∙ same ∙ ap length (sym (append-nil (offered_from plan m S h 0))))
