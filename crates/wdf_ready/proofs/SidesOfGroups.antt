-- All events that a block has are of one side; and the first event of a side.
use Rattle.std.specs.Prelude.{Result, Ok, Err}
use Rattle.std.proofs.Common.{if◌then◌else◌, ◌≡◌, ℕ, ◌+◌, ◌-◌, ◌≤◌, Bool, true, false, List, [], ◌∷◌, ◌++◌, drop, find, length, option_map, slice_get, Option, Some, None, refl, sym, ap, ◌∙◌, append-nil, arith}
use Rattle.std.specs.Option.{option_and_then}
use Rattle.std.specs.Result.{result_ok}
use Rattle.std.specs.List.{cons_option, filter_map, flat_map, range_with_len}
use Rattle.wdf_base.specs.Meaning.{Meaning}
use Rattle.wdf_base.specs.declared.event.Event.{Event}
use Rattle.wdf_base.specs.declared.event.Event.TheVariants as event
use Rattle.wdf_base.specs.declared.event.Fault.{Fault}
use Rattle.wdf_base.specs.declared.event.Step.{Step}
use Rattle.wdf_base.specs.declared.event.Step.TheVariants as step
use Rattle.wdf_base.specs.declared.frame.Frame.{Frame}
use Rattle.wdf_base.specs.declared.frame.Intent.{Intent}
use Rattle.wdf_base.specs.declared.frame.Intent.TheVariants as intent
use Rattle.wdf_base.specs.declared.frame.Pending.{Pending}
use Rattle.wdf_base.specs.declared.call.Callback.TheVariants as callback
use Rattle.wdf_base.specs.Callbacks.{dpc_function}
use Rattle.wdf_base.specs.declared.object.Place.{Place}
use Rattle.wdf_base.specs.declared.object.Place.TheVariants as place
use Rattle.wdf_base.specs.declared.plan.Plan.{Plan}
use Rattle.wdf_base.specs.declared.rank.Rank.{Rank}
use Rattle.wdf_base.specs.declared.rank.Rank.TheVariants as rank
use Rattle.wdf_model.specs.Ids.{cpu_of}
use Rattle.wdf_model.specs.Plans.{handler_for}
use Rattle.wdf_model.specs.State.{State}
use Rattle.wdf_model.specs.declared.entries.Sending.{Sending}
use Rattle.wdf_model.specs.declared.entries.Timed.{Timed}
use Rattle.wdf_model.specs.declared.enums.Group.{Group}
use Rattle.wdf_model.specs.declared.enums.Group.TheVariants as group
use Rattle.wdf_model.specs.parts.Cpus.{frame_of, top}
use Rattle.wdf_model.specs.parts.Deferred.Dpcs.{dpc_head}
use Rattle.wdf_model.specs.parts.Pnp.{next_step}
use Rattle.wdf_model.specs.parts.Queues.{front}
use Rattle.wdf_model.specs.parts.Requests.{info_of, place_of}
use Rattle.wdf_model.specs.parts.Targets.{the_target}
use Rattle.wdf_model.specs.parts.Tree.{kind_of}
use Rattle.wdf_model.specs.rules.Calls.{is_met, is_met_then}
use Rattle.wdf_model.specs.rules.Faults.{fault_of}
use Rattle.wdf_model.specs.rules.Groups.{candidate, completion_at, handler_start, if_there, parks, places_in, posted, stage_of_step, start_at, start_for, start_of_step, starts, starts_for, unparks}
use Rattle.wdf_model.specs.rules.Posts.{due_of}
use Rattle.wdf_model.specs.rules.Script.{intent_of}
use Rattle.wdf_model.specs.rules.Steps.{event_of_frame, event_of_top, fault_event, intent_event, may, spends, view_of}
use Rattle.wdf_ready.specs.Actors.{actor_of}
use Rattle.wdf_offers.specs.Search.{events_of, offered, offered_from}
use Rattle.wdf_ready.specs.Sides.{is_of, same_side, side_of, side_of_block, side_of_group}
use Rattle.wdf_offers.proofs.Passing.{no_piece, piece_opens}
use Rattle.wdf_ready.specs.Blocks.{Grouping, ObjectLists, all_of, events_for, events_in, objects_of}
use Rattle.wdf_ready.specs.declared.blocks.Block.{Block}
use Rattle.wdf_ready.specs.declared.blocks.Block.TheVariants as block
use Rattle.wdf_ready.proofs.InBlocks.{AtOrLeft, blocks_are}
use Rattle.wdf_ready.specs.declared.sides.Side.{Side}
use Rattle.wdf_ready.specs.declared.sides.Side.TheVariants as side

-- ---- what is there is of a side

-- the event that is there, if there is one, is of this side
abbrev Of : Side → Option Event → Type 0
Of s None = Unit
Of s (Some e) = side_of (actor_of e) ≡ s

of_if : (s : Side) (b : Bool) (e : Event) → side_of (actor_of e) ≡ s → Of s (if b then Some e else None)
of_if s true e h = h
of_if s false e h = tt

of_there : (s : Side) (b : Bool) (e : Event) → side_of (actor_of e) ≡ s → Of s (if_there b e)
of_there s true e h = h
of_there s false e h = tt

of_map : {X : Type 0} (s : Side) (f : X → Event) (o : Option X) → ((x : X) → side_of (actor_of (f x)) ≡ s) → Of s (option_map f o)
of_map s f None h = tt
of_map s f (Some x) h = h x

of_then : {X : Type 0} (s : Side) (f : X → Option Event) (o : Option X) → ((x : X) → Of s (f x)) → Of s (option_and_then f o)
of_then s f None h = tt
of_then s f (Some x) h = h x

of_unless : (s : Side) (b : Bool) (o : Option Event) → Of s o → Of s (if b then None else o)
of_unless s true o h = tt
of_unless s false o h = h

module _ {A : Type 0} (plan : Plan) (m : Meaning A) (S : State A) where
  either_side : (cpu : ℕ) (b : Bool) (x y : Event) → side_of (actor_of x) ≡ side.Processor cpu → side_of (actor_of y) ≡ side.Processor cpu → side_of (actor_of (if b then x else y)) ≡ side.Processor cpu
  either_side cpu true x y h k = h
  either_side cpu false x y h k = k

  intent_side : (cpu f : ℕ) (frame : Frame) (i : Intent) → side_of (actor_of (intent_event plan m S cpu f frame i)) ≡ side.Processor cpu
  intent_side cpu f frame (intent.Do c) = either_side cpu (is_met_then plan S c) _ _ refl refl
  intent_side cpu f frame _ = refl

  fault_side : (cpu f : ℕ) (frame : Frame) (i : Intent) (x : Option Fault) → side_of (actor_of (fault_event plan m S cpu f frame i x)) ≡ side.Processor cpu
  fault_side cpu f frame i (Some x) = refl
  fault_side cpu f frame i None = intent_side cpu f frame i

  frame_side : (cpu f : ℕ) (frame : Frame) (p : Option Pending) → Of (side.Processor cpu) (event_of_frame plan m S cpu f frame p)
  frame_side cpu f frame (Some p) = of_if (side.Processor cpu) (is_met S p.call) (event.Woke (cpu_of cpu) p.call p.answer) refl
  frame_side cpu f frame None = fault_side cpu f frame (intent_of plan frame) (fault_of (view_of plan S cpu f) (intent_of plan frame))

  top_side : (cpu : ℕ) (t : Option ℕ) → Of (side.Processor cpu) (event_of_top plan m S cpu t)
  top_side cpu None = tt
  top_side cpu (Some f) = of_unless (side.Processor cpu) (spends S (frame_of S.cpus f)) _ (frame_side cpu f (frame_of S.cpus f) (frame_of S.cpus f).pending)

  step_side : (cpu k : ℕ) (s : Step) → Of (side.Processor cpu) (start_of_step plan S cpu k s)
  step_side cpu k (step.Run c None) = refl
  step_side cpu k (step.Run c (Some i)) = refl
  step_side cpu k (step.Pass s i) = tt

  start_side : (cpu : ℕ) (r : Rank) (k : ℕ) → Of (side.Processor cpu) (start_at plan S cpu r k)
  start_side cpu rank.Isr k = of_there (side.Processor cpu) _ (starts plan S cpu callback.EvtInterruptIsr k) refl
  start_side cpu rank.Deferred k = of_map (side.Processor cpu) (λ o. starts plan S cpu (dpc_function (kind_of S.tree o)) o) (dpc_head S.dpcs cpu) (λ o. refl)
  start_side cpu rank.Timed k = of_map (side.Processor cpu) (λ (t : Timed). starts plan S cpu callback.EvtTimerFunc t.timer.0) (slice_get S.timers.queued k) (λ t. refl)
  start_side cpu rank.QueueState k = of_there (side.Processor cpu) _ (starts plan S cpu callback.EvtIoQueueState k) refl
  start_side cpu rank.Handler k =
      of_then (side.Processor cpu) (handler_start plan S cpu k) (front S.queues k)
      (λ r. of_map (side.Processor cpu) (λ c. starts_for plan S cpu c k r) (handler_for plan k (info_of S.requests r).form) (λ c. refl))
  start_side cpu rank.Sequence k = of_then (side.Processor cpu) (start_of_step plan S cpu k) (next_step S.pnp k) (step_side cpu k)
  start_side cpu rank.Work k = of_map (side.Processor cpu) (λ o. starts plan S cpu callback.EvtWorkItem o) (slice_get S.work_items.queued k) (λ o. refl)
  start_side cpu rank.Cleanup k = refl
  start_side cpu rank.Destroy k = refl
  start_side cpu _ k = tt

  for_side : (cpu : ℕ) (r : Rank) (o k : ℕ) → Of (side.Processor cpu) (start_for plan S cpu r o k)
  for_side cpu rank.Completion o k =
      of_map (side.Processor cpu) (λ (s : Sending). starts_for plan S cpu callback.EvtRequestCompletion o s.request.0) (slice_get (the_target S.targets o).sent k) (λ s. refl)
  for_side cpu _ o k = refl

  stage_side : (k : ℕ) (s : Step) → Of side.Framework (stage_of_step plan S k s)
  stage_side k (step.Run c i) = tt
  stage_side k (step.Pass s i) = refl

  completion_side : (k : ℕ) (p : Place) → Of side.Framework (completion_at plan S k p)
  completion_side k (place.Closing s) = refl
  completion_side k _ = tt

  candidate_side : (g : Group) (k : ℕ) → Of (side_of_group g) (candidate plan m S g k)
  candidate_side (group.OwnEvent cpu) k = top_side cpu (top S.cpus cpu)
  candidate_side (group.Parks cpu) k = of_map (side.Processor cpu) (parks cpu) (top S.cpus cpu) (λ f. refl)
  candidate_side (group.Unparks cpu) k = of_map (side.Processor cpu) (unparks cpu) (slice_get S.cpus.parked k) (λ f. refl)
  candidate_side (group.Starts cpu r) k = start_side cpu r k
  candidate_side (group.StartsFor cpu r o) k = for_side cpu r o k
  candidate_side group.Stages k = of_then side.Framework (stage_of_step plan S k) (next_step S.pnp k) (stage_side k)
  candidate_side group.Completions k = completion_side k (place_of S.requests k)
  candidate_side group.Cleanups k = refl
  candidate_side group.Destroys k = refl
  candidate_side group.Posts k = of_map side.Agents (posted plan S k) (due_of m S k) (λ p. refl)

  allowed_by : (s : Side) (o : Option Event) → Of s o → Of s (option_and_then (λ e. if may plan m S e then Some e else None) o)
  allowed_by s None h = tt
  allowed_by s (Some e) h = of_if s (may plan m S e) e h

  offered_side : (g : Group) (k : ℕ) → Of (side_of_group g) (offered plan m S g k)
  offered_side g k = allowed_by (side_of_group g) (candidate plan m S g k) (candidate_side g k)

-- ---- the first event of a side

-- of a group of another side none is found
none_found : (s : Side) (f : ℕ → Option Event) (t : Side) → ((k : ℕ) → Of t (f k)) → same_side t s ≡ false → (ids : List ℕ) → find (is_of s) (filter_map f ids) ≡ None
none_found s f t h e [] = refl
none_found s f t h e (k ∷ ids) = by (f k) (h k) (none_found s f t h e ids)
  where
    by : (x : Option Event) → Of t x → find (is_of s) (filter_map f ids) ≡ None → find (is_of s) (cons_option x (filter_map f ids)) ≡ None
    by None is rest = rest
    by (Some y) is rest = rw (is, e) rest

-- of a group of this side the first is found
first_found : (s : Side) (f : ℕ → Option Event) (t : Side) → ((k : ℕ) → Of t (f k)) → same_side t s ≡ true → (ids : List ℕ) → find (is_of s) (filter_map f ids) ≡ slice_get (filter_map f ids) 0
first_found s f t h e [] = refl
first_found s f t h e (k ∷ ids) = by (f k) (h k) (first_found s f t h e ids)
  where
    by : (x : Option Event) → Of t x → find (is_of s) (filter_map f ids) ≡ slice_get (filter_map f ids) 0 → find (is_of s) (cons_option x (filter_map f ids)) ≡ slice_get (cons_option x (filter_map f ids)) 0
    by None is rest = rest
    by (Some y) is rest = rw (is, e) refl

nothing_at_first : {T : Type 0} (xs : List T) (rest : ℕ) → length xs + rest ≡ 0 → slice_get xs 0 ≡ None
nothing_at_first [] rest h = refl
nothing_at_first (x ∷ xs) rest h = absurd (omega arith)

-- ---- of some lists

either_found : (s : Side) (xs ys : List Event) → find (is_of s) xs ≡ None → find (is_of s) (xs ++ ys) ≡ find (is_of s) ys
either_found s [] ys h = refl
either_found s (x ∷ xs) ys h = by (is_of s x) refl (either_found s xs ys)
  where
    by : (b : Bool) → is_of s x ≡ b → (find (is_of s) xs ≡ None → find (is_of s) (xs ++ ys) ≡ find (is_of s) ys) → find (is_of s) (x ∷ xs ++ ys) ≡ find (is_of s) ys
    by true e rest = absurd (let f = rw e at h in let z : ⊥ = cc in z)
    by false e rest = rw e (rest (rw e at h))

stays_found : (s : Side) (xs ys : List Event) (e : Event) → find (is_of s) xs ≡ Some e → find (is_of s) (xs ++ ys) ≡ Some e
stays_found s [] ys e h = absurd (let z : ⊥ = cc in z)
stays_found s (x ∷ xs) ys e h = by (is_of s x) refl (stays_found s xs ys e)
  where
    by : (b : Bool) → is_of s x ≡ b → (find (is_of s) xs ≡ Some e → find (is_of s) (xs ++ ys) ≡ Some e) → find (is_of s) (x ∷ xs ++ ys) ≡ Some e
    by true f rest = rw f (rw f at h)
    by false f rest = rw f (rest (rw f at h))

-- where the first of either list is of the side, that of both is
first_of_both : (s : Side) (xs ys : List Event) → find (is_of s) xs ≡ slice_get xs 0 → find (is_of s) ys ≡ slice_get ys 0 → find (is_of s) (xs ++ ys) ≡ slice_get (xs ++ ys) 0
first_of_both s [] ys h k = k
first_of_both s (x ∷ xs) ys h k = stays_found s (x ∷ xs) ys x h

-- ---- of a block

module _ {A : Type 0} (plan : Plan) (m : Meaning A) (S : State A) where
  none_of_group : (g : Group) (s : Side) → same_side (side_of_group g) s ≡ false → find (is_of s) (offered_from plan m S g 0) ≡ None
  none_of_group g s e = none_found s (offered plan m S g) (side_of_group g) (offered_side plan m S g) e (range_with_len 0 (places_in plan S g - 0))

  first_of_group : (g : Group) (s : Side) → same_side (side_of_group g) s ≡ true → find (is_of s) (offered_from plan m S g 0) ≡ slice_get (offered_from plan m S g 0) 0
  first_of_group g s e = first_found s (offered plan m S g) (side_of_group g) (offered_side plan m S g) e (range_with_len 0 (places_in plan S g - 0))

  -- those of the objects of a processor
  none_for : (cpu : ℕ) (r : Rank) (s : Side) → same_side (side.Processor cpu) s ≡ false → (ids : List ℕ) → find (is_of s) (events_for plan m S cpu r ids) ≡ None
  none_for cpu r s e [] = refl
  none_for cpu r s e (o ∷ ids) =
      either_found s (offered_from plan m S (group.StartsFor cpu r o) 0) (events_for plan m S cpu r ids) (none_of_group (group.StartsFor cpu r o) s e) ∙ none_for cpu r s e ids

  first_for : (cpu : ℕ) (r : Rank) (s : Side) → same_side (side.Processor cpu) s ≡ true → (ids : List ℕ) → find (is_of s) (events_for plan m S cpu r ids) ≡ slice_get (events_for plan m S cpu r ids) 0
  first_for cpu r s e [] = refl
  first_for cpu r s e (o ∷ ids) =
      first_of_both s (offered_from plan m S (group.StartsFor cpu r o) 0) (events_for plan m S cpu r ids) (first_of_group (group.StartsFor cpu r o) s e) (first_for cpu r s e ids)

  none_in : (o : ObjectLists) (b : Block) (s : Side) → same_side (side_of_block b) s ≡ false → find (is_of s) (events_in plan m S o b) ≡ None
  none_in o (block.One g) s e = ap (find (is_of s)) (append-nil (offered_from plan m S g 0)) ∙ none_of_group g s e
  none_in o (block.ForEach cpu r) s e = none_for cpu r s e (objects_of o r)

  first_in : (o : ObjectLists) (b : Block) (s : Side) → same_side (side_of_block b) s ≡ true → find (is_of s) (events_in plan m S o b) ≡ slice_get (events_in plan m S o b) 0
  first_in o (block.One g) s e = ap (find (is_of s)) (append-nil (offered_from plan m S g 0)) ∙ first_of_group g s e ∙ ap (λ es. slice_get es 0) (sym (append-nil (offered_from plan m S g 0)))
  first_in o (block.ForEach cpu r) s e = first_for cpu r s e (objects_of o r)

  pub other_side : (o : ObjectLists) (b : Block) (s : Side) → same_side (side_of_block b) s ≡ false → None ≡ find (is_of s) (events_in plan m S o b)
  other_side o b s e = sym (none_in o b s e)

  pub own_side : (o : ObjectLists) (b : Block) (s : Side) (r : Result Event ℕ) → same_side (side_of_block b) s ≡ true → AtOrLeft r (events_in plan m S o b) 0 → result_ok r ≡ find (is_of s) (events_in plan m S o b)
  own_side o b s r e h = by r h ∙ sym (first_in o b s e)
    where
      by : (x : Result Event ℕ) → AtOrLeft x (events_in plan m S o b) 0 → result_ok x ≡ slice_get (events_in plan m S o b) 0
      by (Ok y) k = sym k
      by (Err rest) k = sym (nothing_at_first (events_in plan m S o b) rest k)

-- ---- the blocks

none_there : (o : Option Event) → ((e : Event) → o ≡ Some e → ⊥) → o ≡ None
none_there None h = refl
none_there (Some e) h = absurd (h e refl)

module _ {A : Type 0} (plan : Plan) (m : Meaning A) (S : State A) (all : Grouping) (s : Side) (i : ℕ) where
  abbrev one : Block → List Event
  one b = events_in plan m S all.objects b

  -- in the next block
  pub found_here : (b : Block) (e : Event) → slice_get all.blocks i ≡ Some b → find (is_of s) (one b) ≡ Some e
      → find (is_of s) (flat_map one all.blocks) ≡ find (is_of s) (flat_map one (drop i all.blocks)) → Some e ≡ find (is_of s) (events_of plan m S (all_of all))
  found_here b e at h so_far =
      sym (ap (find (is_of s)) (blocks_are plan m S all.objects all.blocks) ∙ so_far ∙ ap (find (is_of s)) (piece_opens one all.blocks i b at)
      ∙ stays_found s (one b) (flat_map one (drop (i + 1) all.blocks)) e h)

  -- or further on
  pub found_later : (b : Block) (r : Option Event) → slice_get all.blocks i ≡ Some b → r ≡ find (is_of s) (one b) → ((e : Event) → r ≡ Some e → ⊥)
      → find (is_of s) (flat_map one all.blocks) ≡ find (is_of s) (flat_map one (drop i all.blocks)) → find (is_of s) (flat_map one all.blocks) ≡ find (is_of s) (flat_map one (drop (i + 1) all.blocks))
  found_later b r at is none so_far =
      so_far ∙ ap (find (is_of s)) (piece_opens one all.blocks i b at)
      ∙ either_found s (one b) (flat_map one (drop (i + 1) all.blocks)) (sym is ∙ none_there r none)

  pub found_nowhere : length all.blocks ≤ i → find (is_of s) (flat_map one all.blocks) ≡ find (is_of s) (flat_map one (drop i all.blocks)) → None ≡ find (is_of s) (events_of plan m S (all_of all))
  found_nowhere past so_far = sym (ap (find (is_of s)) (blocks_are plan m S all.objects all.blocks) ∙ so_far ∙ ap (find (is_of s)) (no_piece one all.blocks i past))
