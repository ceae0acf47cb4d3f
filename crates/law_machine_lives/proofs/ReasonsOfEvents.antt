-- The deeds of each event that may come have their reasons where they are done: the one walk over all kinds of event.
use Rattle.std.proofs.Common.{if◌then◌else◌, ◌≡◌, ℕ, ◌==◌, ◌≤◌, Bool, true, false, not, ◌&&◌, List, [], ◌∷◌, ◌++◌, ◌⊎◌, inl, inr, Option, Some, None, find, filter, count_by, option_map, option_and_then, unwrap_or, refl, sym, ap, subst, ◌∙◌, arith, ◌+◌, is_some}
use Rattle.std.specs.List.{flat_map}
use Rattle.std.proofs.lemmas.Bool.{eqb-true, cases_Bool}
use Rattle.wdf_base.specs.Meaning.{Meaning}
use Rattle.wdf_base.specs.declared.plan.Plan.{Plan}
use Rattle.wdf_base.specs.declared.ids.Handle.{Handle}
use Rattle.wdf_base.specs.declared.value.Value.{Value}
use Rattle.wdf_base.specs.declared.value.Value.TheVariants.{Num}
use Rattle.wdf_base.specs.declared.value.Status.TheVariants as status
use Rattle.wdf_base.specs.declared.object.Kind.{Kind}
use Rattle.wdf_base.specs.declared.object.Kind.TheVariants as kind
use Rattle.wdf_base.specs.declared.object.Life.{Life}
use Rattle.wdf_base.specs.declared.object.Life.TheVariants as life
use Rattle.wdf_base.specs.declared.object.LockRef.{LockRef}
use Rattle.wdf_base.specs.declared.object.Place.{Place}
use Rattle.wdf_base.specs.declared.object.Place.TheVariants as place
use Rattle.wdf_base.specs.declared.object.RequestForm.{RequestForm}
use Rattle.wdf_base.specs.declared.object.RequestForm.TheVariants as form
use Rattle.wdf_base.specs.declared.call.Call.{Call}
use Rattle.wdf_base.specs.declared.call.Callback.{Callback}
use Rattle.wdf_base.specs.declared.call.Callback.TheVariants as callback
use Rattle.wdf_base.specs.declared.declared.QueueInfo.{QueueInfo}
use Rattle.wdf_base.specs.declared.event.Event.{Event}
use Rattle.wdf_base.specs.declared.event.Event.TheVariants as event
use Rattle.wdf_base.specs.declared.event.Post.{Post}
use Rattle.wdf_base.specs.declared.event.Post.TheVariants as post
use Rattle.wdf_base.specs.declared.event.Stage.{Stage}
use Rattle.wdf_base.specs.declared.event.Stage.TheVariants as stage
use Rattle.wdf_base.specs.declared.frame.Frame.{Frame}
use Rattle.wdf_base.specs.declared.rank.Rank.{Rank}
use Rattle.wdf_base.specs.declared.rank.Rank.TheVariants as rank
use Rattle.wdf_base.specs.Callbacks.{row_of}
use Rattle.wdf_model.specs.declared.entries.Node.{Node}
use Rattle.wdf_model.specs.declared.entries.Running.{Running}
use Rattle.wdf_model.specs.Tables.{contains, flag, same_id}
use Rattle.wdf_model.specs.Plans.{callback_irql, declared_ids, device_of_queue, first_there, is_queue_of, queue_for, queue_of, queues_of, serves, serves_rest}
use Rattle.wdf_model.specs.parts.Tree.{Tree, class_of, declared_as, kind_of, life_of, made_as, node_of, noted}
use Rattle.wdf_model.specs.parts.Cpus.{Cpus, frame_of, no_frame, top, irql}
use Rattle.wdf_model.specs.parts.Locks.{lock_of_callback}
use Rattle.wdf_model.specs.parts.Requests.{arrival_of, place_of}
use Rattle.wdf_model.specs.parts.Control.{accepts}
use Rattle.wdf_model.specs.State.{State, declared_in, is_proper}
use Rattle.wdf_model.specs.Ids.{cpu_of, frame_id, irql_of, object_id}
use Rattle.wdf_model.specs.declared.deed.Deed.{Deed}
use Rattle.wdf_model.specs.declared.deed.Deed.TheVariants.{Arrive, CountArrival, GoOn, Note, PopFrame, PushFrame}
use Rattle.wdf_model.specs.rules.Deeds.{do_deed, do_deeds}
use Rattle.wdf_model.specs.rules.Script.{intent_of}
use Rattle.wdf_model.specs.rules.Calls.{outcome, second_deeds}
use Rattle.wdf_model.specs.rules.Starts.{effect, effect_for, end_deeds, end_of_step, life_fits, may_start, new_frame, next_number, release_if_any, stage_effect, start_deeds, start_effect, take_if_any}
use Rattle.wdf_model.specs.rules.Posts.{arrival_info, arrival_place, cancel_at, cancel_deeds, in_reach, is_data, place_if_any, place_in_queue, post_deeds, takes_empty}
use Rattle.wdf_model.specs.rules.Steps.{answered, by_top, deeds, did_deeds, goes_on, is_cpu, is_proper_if_any, may, spending, stepped, waiting, waiting_deeds, woke_deeds, may_park, waits_on}
use Rattle.law_machine_base.specs.Fits.{all_fit}
use Rattle.wdf_model.proofs.Tests.{both_left, both_right}
use Rattle.wdf_model.proofs.Maps.{entry_put_same}
use Rattle.wdf_model.proofs.Counts.{equal, count_behind}
use Rattle.law_machine_base.proofs.OwnEvents.{IsDid, IsEnd, IsWaiting, IsWoke, did_tells, end_tells, waiting_tells, woke_tells}
use Rattle.law_machine_base.proofs.FitsOfEvents.{by_its_top, event_fits}
use Rattle.law_machine_counts.proofs.StillDeeds.{all_still, none_behind, outcome_none, second_none}
use Rattle.law_machine_counts.proofs.StillFrames.{Still, deeds_still}
use Rattle.wdf_model.proofs.FrameCounts.{none_or_some, on, parked_once, pushed}
use Rattle.law_machine_counts.proofs.FrameMoves.{FrameKept, pop_on}
use Rattle.law_machine_counts.proofs.NextFrames.{answered_kept, goes_on_kept, stepped_kept}
use Rattle.law_machine_counts.proofs.StepStates.{fit_before}
use Rattle.law_machine_lives.proofs.Keeping.{Known}
use Rattle.law_machine_lives.proofs.Lists.{reads_same}
use Rattle.law_machine_lives.proofs.AllOf.{all_behind}
use Rattle.law_machine_lives.proofs.Sound.{WaitsAt, lock_of_frame}
use Rattle.law_machine_lives.proofs.Reasons.{AllReasons, IsTaken, Reason, takes}
use Rattle.law_machine_lives.proofs.ReasonsOfCalls.{outcome_given, second_given}
use Rattle.wdf_base.specs.declared.frame.Pending.{Pending}
use Rattle.wdf_base.specs.Lives.{is_gone, is_live}
use Rattle.wdf_model.specs.parts.Cpus as cpus
use Rattle.law_machine_lives.proofs.Lives.{noted_same}
use Rattle.law_machine_counts.proofs.StepTable.{top_is}

-- ---- what an object is in the plan, by its kind and its class

made_by : (plan : Plan) (n m : Node) (o : ℕ) (k : Kind) → m.class ≡ n.class → made_as plan m o k ≡ made_as plan n o k
made_by plan n m o kind.Request e = refl
made_by plan n m o kind.Driver e = refl
made_by plan n m o kind.Device e = refl
made_by plan n m o kind.Queue e = refl
made_by plan n m o kind.Interrupt e = refl
made_by plan n m o kind.Target e = refl
made_by plan n m o _ e = rw e refl

pub same_declared : (plan : Plan) (T U : Tree) (o : ℕ) → kind_of U o ≡ kind_of T o → class_of U o ≡ class_of T o → declared_as plan U o ≡ declared_as plan T o
same_declared plan T U o k c = ap (made_as plan (node_of U o) o) k ∙ made_by plan (node_of T o) (node_of U o) o (kind_of T o) c

-- ---- a frame that isn't parked

abbrev stacked : Cpus → ℕ → ℕ
stacked C f = count_by (λ x. x == f) (flat_map (λ (fs : List ℕ). fs) C.stacks)

on_both : (C : Cpus) (f : ℕ) → on C f ≡ stacked C f + count_by (λ x. x == f) C.parked
on_both C f = count_behind (λ x. x == f) (flat_map (λ (fs : List ℕ). fs) C.stacks) C.parked

-- one that isn't there isn't
pub off_by_none : (C : Cpus) (f : ℕ) → on C f ≡ 0 → contains f C.parked ≡ false
off_by_none C f none = elim (cases_Bool (contains f C.parked)) [
  | inl is ↦ absurd (let one = parked_once C f (omega arith) is in let all = on_both C f in omega arith)
  | inr off ↦ off
]

-- nor is the top one of a processor
pub off_by_top : (C : Cpus) (cpu f : ℕ) → top C cpu ≡ Some f → on C f ≤ 1 → contains f C.parked ≡ false
off_by_top C cpu f is_top once = elim (cases_Bool (contains f C.parked)) [
  | inl is ↦ absurd (
      let one = parked_once C f once is in
      let left = on_both (cpus.pop C cpu) f in
      let went = pop_on C cpu f is_top f in
      let it : flag (f == f) ≡ 1 = ap flag (equal f f refl) in
      let same : count_by (λ x. x == f) (cpus.pop C cpu).parked ≡ count_by (λ x. x == f) C.parked = refl in
      omega arith)
  | inr off ↦ off
]

-- ---- starts

-- what the effect of a start leaves alone
pub record Before {A : Type 0} (plan : Plan) (S U : State A) : Type 0 where
  pub cpus : U.cpus ≡ S.cpus
  pub kinds : (x : ℕ) → kind_of U.tree x ≡ kind_of S.tree x
  pub lives : (x : ℕ) → life_of U.tree x ≡ life_of S.tree x
  pub declared : (x : ℕ) → declared_in plan U x ≡ declared_in plan S x

there_by : {A : Type 0} (S : State A) (c : Callback) (o : ℕ) (l : Life) → life_of S.tree o ≡ l → life_fits S c o ≡ true → is_gone l ≡ false
there_by S callback.EvtCleanupCallback o life.Gone e h = absurd (let k = rw e at h in let z : ⊥ = cc in z)
there_by S callback.EvtDestroyCallback o life.Gone e h = absurd (let k = rw e at h in let z : ⊥ = cc in z)
there_by S _ o life.Gone e h = absurd (let k = rw e at h in let z : ⊥ = cc in z)
there_by S c o _ e h = refl

none_yet : {A : Type 0} (plan : Plan) (S : State A) → Known plan S → on S.cpus (next_number S) ≡ 0
none_yet plan S k = elim (none_or_some (on S.cpus (next_number S))) [
  | inl e ↦ e
  | inr more ↦ absurd (let o = k.frames.numbered (next_number S) more in omega arith)
]

-- ---- frames

pub top_on : (C : Cpus) (cpu f : ℕ) → top C cpu ≡ Some f → 1 ≤ on C f
top_on C cpu f t = let e = pop_on C cpu f t f in let one : flag (f == f) ≡ 1 = ap flag (equal f f refl) in omega arith

pub on_still : {A : Type 0} (S U : State A) (f : ℕ) → Still S U → on U.cpus f ≡ on S.cpus f
on_still S U f k =
    ap (λ ss. count_by (λ (x : ℕ). x == f) (flat_map (λ (fs : List ℕ). fs) ss ++ U.cpus.parked)) k.stacks ∙ ap (λ ps. count_by (λ (x : ℕ). x == f) (flat_map (λ (fs : List ℕ). fs) S.cpus.stacks ++ ps)) k.parked

pub spending_kept : {A : Type 0} (plan : Plan) (S : State A) (a : Frame) (n : ℕ) → FrameKept a (spending plan S a n)
spending_kept plan S a n = let k = goes_on_kept plan a in record { callback = k.callback; object = k.object; device = k.device }

waits_in_call : {A : Type 0} (S : State A) (p : Option Pending) → waits_on S p ≡ true → is_some p ≡ true
waits_in_call S None h = absurd (let z : ⊥ = cc in z)
waits_in_call S (Some p) h = refl

-- ---- where a request waits that arrives

-- a place suits a request: it is a queue of its device, that takes its form, or it waits in none
abbrev IsSuited : Plan → Place → ℕ → RequestForm → Type 0
IsSuited plan p device f = WaitsAt plan p device × IsTaken plan p f

of_device : (device : ℕ) (o : Option QueueInfo) → is_queue_of device o ≡ true → unwrap_or (option_map (λ (i : QueueInfo). i.device.0) o) 0 ≡ device
of_device device None h = absurd (let z : ⊥ = cc in z)
of_device device (Some q) h = eqb-true q.device.0 device h

kept_by : {T : Type 0} (p keep : T → Bool) (x y : T) (ys : List T) (b : Bool) → keep y ≡ b → ((find p (filter keep ys) ≡ Some x) → keep x ≡ true) → (c : Bool) → p y ≡ c
    → find p (if b then y ∷ filter keep ys else filter keep ys) ≡ Some x → keep x ≡ true
kept_by p keep x y ys true e rest true f h = let k : (if true then Some y else find p (filter keep ys)) ≡ Some x = rw f at h in let same : y ≡ x = cc in subst (λ z. keep z ≡ true) same e
kept_by p keep x y ys true e rest false f h = rest (rw f at h)
kept_by p keep x y ys false e rest c f h = rest h

found_kept : {T : Type 0} (p keep : T → Bool) (xs : List T) (x : T) → find p (filter keep xs) ≡ Some x → keep x ≡ true
found_kept p keep [] x h = absurd (let z : ⊥ = cc in z)
found_kept p keep (y ∷ ys) x h = kept_by p keep x y ys (keep y) refl (found_kept p keep ys x) (p y) refl h

either_there : (a b : Option ℕ) (q : ℕ) → first_there a b ≡ Some q → (a ≡ Some q) ⊎ (b ≡ Some q)
either_there None b q h = inr h
either_there (Some x) b q h = inl h

queue_of_device : (plan : Plan) (device : ℕ) (f : RequestForm) (q : ℕ) → queue_for plan device f ≡ Some q → device_of_queue plan q ≡ device
queue_of_device plan device f q h =
    of_device device (queue_of plan q) (elim (either_there (find (λ x. serves f (queue_of plan x)) (queues_of plan device)) (find (λ x. serves_rest (queue_of plan x)) (queues_of plan device)) q h) [
      | inl e ↦ found_kept (λ x. serves f (queue_of plan x)) (λ x. is_queue_of device (queue_of plan x)) (declared_ids plan) q e
      | inr e ↦ found_kept (λ x. serves_rest (queue_of plan x)) (λ x. is_queue_of device (queue_of plan x)) (declared_ids plan) q e
    ])

suited_if : (plan : Plan) (b : Bool) (p q : Place) (device : ℕ) (f : RequestForm) → IsSuited plan p device f → IsSuited plan q device f → IsSuited plan (if b then p else q) device f
suited_if plan true p q device f h k = h
suited_if plan false p q device f h k = k

suited_by : (plan : Plan) (q device : ℕ) (f : RequestForm) (b : Bool) → takes plan q f ≡ b → device_of_queue plan q ≡ device
    → IsSuited plan (if not b then place.Closing status.InvalidDeviceRequest else place.Queued (record { 0 = q })) device f
suited_by plan q device f true e h = (h, e)
suited_by plan q device f false e h = (tt, tt)

suited_in_queue : {A : Type 0} (plan : Plan) (S : State A) (f : RequestForm) (length q device : ℕ) → device_of_queue plan q ≡ device → IsSuited plan (place_in_queue plan S f length q) device f
suited_in_queue plan S f length q device h =
    suited_if plan (not (accepts S.control q)) (place.Closing status.InvalidDeviceState) _ device f (tt, tt)
    (suited_if plan (is_data f && length == 0 && not (takes_empty (queue_of plan q))) (place.Closing status.Success) _ device f (tt, tt)
    (suited_by plan q device f (takes plan q f) refl h))

suited_if_any : {A : Type 0} (plan : Plan) (S : State A) (f : RequestForm) (length device : ℕ) (q : Option ℕ) → queue_for plan device f ≡ q → IsSuited plan (place_if_any plan S f length q) device f
suited_if_any plan S f length device None e = (tt, tt)
suited_if_any plan S f length device (Some q) e = suited_in_queue plan S f length q device (queue_of_device plan device f q e)

-- ---- the walk

module _ {A : Type 0} (plan : Plan) (H : ℕ → State A → Type 0) where
  abbrev Given : List Deed → State A → Type 0
  Given ds S = AllReasons plan H ds S

  behind : (ds es : List Deed) (S : State A) → Given ds S → Given es (do_deeds plan ds S) → Given (ds ++ es) S
  behind ds es S h k = all_behind plan (λ (d : Deed) (U : State A). Reason plan H d U) ds es S h k

  -- ---- starts

  abbrev Effect : State A → List Deed → Type 0
  Effect S ds = Given ds S × Before plan S (do_deeds plan ds S)

  note_effect : (S : State A) (o : ℕ) (c : Callback) → Effect S (Note (object_id o) c ∷ [])
  note_effect S o c =
      let k = noted_same c (node_of S.tree o) in (
        (tt, tt),
        record {
          cpus = refl;
          kinds = reads_same (λ n. n.kind) S.tree o (noted c) k.1;
          lives = reads_same (λ n. n.life) S.tree o (noted c) k.0;
          declared = λ x. same_declared plan S.tree (do_deed plan (Note (object_id o) c) S).tree x (reads_same (λ n. n.kind) S.tree o (noted c) k.1 x) (reads_same (λ n. n.class) S.tree o (noted c) k.2 x);
        },
      )

  effect_for_given : (S : State A) (k : Rank) (o r : ℕ) → Effect S (effect_for k o r)
  effect_for_given S rank.Completion o r = ((tt, tt), record { cpus = refl; kinds = λ x. refl; lives = λ x. refl; declared = λ x. refl })
  effect_for_given S rank.Cancel o r = ((tt, tt), record { cpus = refl; kinds = λ x. refl; lives = λ x. refl; declared = λ x. refl })
  effect_for_given S rank.CanceledOnQueue o r = ((tt, tt), record { cpus = refl; kinds = λ x. refl; lives = λ x. refl; declared = λ x. refl })
  effect_for_given S rank.Stop o r = ((tt, tt), record { cpus = refl; kinds = λ x. refl; lives = λ x. refl; declared = λ x. refl })
  effect_for_given S rank.Resume o r = ((tt, tt), record { cpus = refl; kinds = λ x. refl; lives = λ x. refl; declared = λ x. refl })
  effect_for_given S rank.Handler o r = ((tt, tt), record { cpus = refl; kinds = λ x. refl; lives = λ x. refl; declared = λ x. refl })
  effect_for_given S _ o r = (tt, record { cpus = refl; kinds = λ x. refl; lives = λ x. refl; declared = λ x. refl })

  effect_given : (S : State A) (k : Rank) (cpu : ℕ) (c : Callback) (o : ℕ) → Effect S (effect plan S k cpu c o)
  effect_given S rank.Deferred cpu c o = ((tt, tt), record { cpus = refl; kinds = λ x. refl; lives = λ x. refl; declared = λ x. refl })
  effect_given S rank.Timed cpu c o = ((tt, tt), record { cpus = refl; kinds = λ x. refl; lives = λ x. refl; declared = λ x. refl })
  effect_given S rank.QueueState cpu c o = ((tt, tt), record { cpus = refl; kinds = λ x. refl; lives = λ x. refl; declared = λ x. refl })
  effect_given S rank.Sequence cpu c o = ((tt, tt), record { cpus = refl; kinds = λ x. refl; lives = λ x. refl; declared = λ x. refl })
  effect_given S rank.Work cpu c o = ((tt, tt), record { cpus = refl; kinds = λ x. refl; lives = λ x. refl; declared = λ x. refl })
  effect_given S rank.Cleanup cpu c o = note_effect S o c
  effect_given S rank.Destroy cpu c o = note_effect S o c
  effect_given S _ cpu c o = (tt, record { cpus = refl; kinds = λ x. refl; lives = λ x. refl; declared = λ x. refl })

  pub start_effect_given : (S : State A) (cpu : ℕ) (c : Callback) (o : ℕ) (r : Option Handle) → Effect S (start_effect plan S cpu c o r)
  start_effect_given S cpu c o None = effect_given S (row_of c).rank cpu c o
  start_effect_given S cpu c o (Some r) = effect_for_given S (row_of c).rank o r.id.0

  taking_given : (S U : State A) (cpu f : ℕ) (frame : Frame) (level : ℕ) (l : Option LockRef) → Before plan S U
      → lock_of_callback plan frame.callback frame.object.id.0 (declared_in plan S frame.object.id.0) ≡ l
      → Given (take_if_any f l) (do_deed plan (PushFrame (cpu_of cpu) (frame_id f) frame (irql_of level)) U)
  taking_given S U cpu f frame level None b e = tt
  taking_given S U cpu f frame level (Some l) b e =
      let V = do_deed plan (PushFrame (cpu_of cpu) (frame_id f) frame (irql_of level)) U in
      let more = pushed (λ x. x == f) U.cpus cpu f frame level in
      let one : flag (f == f) ≡ 1 = ap flag (equal f f refl) in
      let here : frame_of V.cpus f ≡ frame = ap (λ (r : Running). r.frame) (entry_put_same no_frame U.cpus.frames f (record { frame = frame; level = record { 0 = level } })) in
      let is : lock_of_frame plan V f ≡ Some l =
      ap (λ (a : Frame). lock_of_callback plan a.callback a.object.id.0 (declared_in plan V a.object.id.0)) here ∙ ap (lock_of_callback plan frame.callback frame.object.id.0) (b.declared frame.object.id.0) ∙ e in
      ((omega arith, λ _. is), tt)

  start_given : (m : Meaning A) (S : State A) (cpu : ℕ) (c : Callback) (o : Handle) (r : Option Handle) → Known plan S → may_start plan m S cpu c o.id.0 r ≡ true → Given (start_deeds plan S cpu c o r) S
  start_given m S cpu c o r k h =
      let f : ℕ = next_number S in
      let frame : Frame = new_frame plan S c o r in
      let first = start_effect_given S cpu c o.id.0 r in
      let U = do_deeds plan (start_effect plan S cpu c o.id.0 r) S in
      let b : Before plan S U = first.1 in
      let l = lock_of_callback plan c o.id.0 (declared_in plan S o.id.0) in
      let alive : life_fits S c o.id.0 ≡ true = search (both_left, both_right) in
      let there : is_gone (life_of U.tree o.id.0) ≡ false = ap is_gone (b.lives o.id.0) ∙ there_by S c o.id.0 (life_of S.tree o.id.0) refl alive in
      let none : on U.cpus f ≡ 0 = ap (λ (C : Cpus). on C f) b.cpus ∙ none_yet plan S k in
      behind (start_effect plan S cpu c o.id.0 r) (PushFrame (cpu_of cpu) (frame_id f) frame (irql_of (callback_irql plan c o.id.0)) ∷ take_if_any f l) S first.0
      ((there, none), taking_given S U cpu f frame (callback_irql plan c o.id.0) l b refl)

  -- ---- a frame goes on

  by_its_top_given : (S : State A) (cpu f : ℕ) (what : ℕ → Frame → List Deed) → top S.cpus cpu ≡ Some f → Given (what f (frame_of S.cpus f)) S → Given (by_top S cpu what) S
  by_its_top_given S cpu f what t h = subst (λ ds. Given ds S) (sym (by_its_top S cpu f what t)) h

  -- it does so after deeds that leave the frames alone
  goes_on_given : (S : State A) (ds : List Deed) (f : ℕ) (next : Frame) → Given ds S → all_still ds ≡ true → all_fit plan ds S ≡ true → FrameKept (frame_of S.cpus f) next → contains f S.cpus.parked ≡ false
      → Given (ds ++ GoOn (frame_id f) next ∷ []) S
  goes_on_given S ds f next h still fit k off =
      let s : Still S (do_deeds plan ds S) = deeds_still plan ds S still fit in
      behind ds (GoOn (frame_id f) next ∷ []) S h ((subst (λ a. FrameKept a next) (sym (s.frames f)) k, ap (contains f) s.parked ∙ off), tt)

  did_given : (S : State A) → Known plan S → (cpu : ℕ) (c : Call) (v : Value) → IsDid plan S cpu c v → all_fit plan (by_top S cpu (did_deeds plan S cpu c v)) S ≡ true → Given (by_top S cpu (did_deeds plan S cpu c v)) S
  did_given S known cpu c v d fit =
      let f : ℕ = d.frame in
      let ds : List Deed = (outcome plan S cpu f c).deeds in
      let es : List Deed = second_deeds f c in
      let next : Frame = answered plan (frame_of S.cpus f) v in
      let all : all_fit plan (ds ++ es ++ GoOn (frame_id f) next ∷ []) S ≡ true = subst (λ xs. all_fit plan xs S ≡ true) (by_its_top S cpu f (did_deeds plan S cpu c v) d.about.top) fit in
      let fits_two : all_fit plan (ds ++ es) S ≡ true = fit_before plan (ds ++ es) (GoOn (frame_id f) next ∷ []) S all in
      let fits_one : all_fit plan ds S ≡ true = fit_before plan ds es S fits_two in
      let still : all_still ds ≡ true = outcome_none plan S cpu f c in
      let same = on_still S (do_deeds plan ds S) f (deeds_still plan ds S still fits_one) in
      let there = top_on S.cpus cpu f d.about.top in
      by_its_top_given S cpu f (did_deeds plan S cpu c v) d.about.top
      (goes_on_given S (ds ++ es) f next
      (behind ds es S (outcome_given plan H S cpu f c.kind c.count c.a c.b c.c known.declared d.about.clean) (second_given plan H (do_deeds plan ds S) f c.kind c.count c.a c.b c.c (omega arith)))
      (none_behind ds es still (second_none f c)) fits_two (answered_kept plan (frame_of S.cpus f) v) (off_by_top S.cpus cpu f d.about.top (known.frames.once f)))

  waiting_given : (S : State A) → Known plan S → (cpu : ℕ) (c : Call) → IsWaiting plan S cpu c → all_fit plan (by_top S cpu (waiting_deeds plan S cpu c)) S ≡ true → Given (by_top S cpu (waiting_deeds plan S cpu c)) S
  waiting_given S known cpu c d fit =
      let f : ℕ = d.frame in
      let ds : List Deed = (outcome plan S cpu f c).deeds in
      let next : Frame = waiting (frame_of S.cpus f) c (outcome plan S cpu f c).answer in
      let all : all_fit plan (ds ++ GoOn (frame_id f) next ∷ []) S ≡ true = subst (λ xs. all_fit plan xs S ≡ true) (by_its_top S cpu f (waiting_deeds plan S cpu c) d.about.top) fit in
      by_its_top_given S cpu f (waiting_deeds plan S cpu c) d.about.top
      (goes_on_given S ds f next (outcome_given plan H S cpu f c.kind c.count c.a c.b c.c known.declared d.about.clean) (outcome_none plan S cpu f c)
      (fit_before plan ds (GoOn (frame_id f) next ∷ []) S all) (record { callback = refl; object = refl; device = refl }) (off_by_top S.cpus cpu f d.about.top (known.frames.once f)))

  woke_given : (S : State A) → Known plan S → (cpu : ℕ) (c : Call) (v : Value) → IsWoke S cpu c v → all_fit plan (by_top S cpu (woke_deeds plan c v)) S ≡ true → Given (by_top S cpu (woke_deeds plan c v)) S
  woke_given S known cpu c v d fit =
      let f : ℕ = d.frame in
      let es : List Deed = second_deeds f c in
      let next : Frame = answered plan (frame_of S.cpus f) v in
      let all : all_fit plan (es ++ GoOn (frame_id f) next ∷ []) S ≡ true = subst (λ xs. all_fit plan xs S ≡ true) (by_its_top S cpu f (woke_deeds plan c v) d.top) fit in
      by_its_top_given S cpu f (woke_deeds plan c v) d.top
      (goes_on_given S es f next (second_given plan H S f c.kind c.count c.a c.b c.c (top_on S.cpus cpu f d.top)) (second_none f c)
      (fit_before plan es (GoOn (frame_id f) next ∷ []) S all) (answered_kept plan (frame_of S.cpus f) v) (off_by_top S.cpus cpu f d.top (known.frames.once f)))

  moving_given : (S : State A) → Known plan S → (cpu : ℕ) (next : Frame → Frame) (there : Option ℕ) → top S.cpus cpu ≡ there → ((a : Frame) → FrameKept a (next a))
      → Given (elim there as (λ _. List Deed) [ None ↦ [] | Some f ↦ GoOn (frame_id f) (next (frame_of S.cpus f)) ∷ [] ]) S
  moving_given S known cpu next None e k = tt
  moving_given S known cpu next (Some f) e k = ((k (frame_of S.cpus f), off_by_top S.cpus cpu f e (known.frames.once f)), tt)

  -- ---- ends, parking, stages

  step_given : (S T : State A) (k : Rank) (c : Callback) (o : ℕ) (v : Value) → Given (end_of_step plan S k c o v) T
  step_given S T rank.Sequence c o v = (tt, tt)
  step_given S T _ c o v = tt

  ends_given : (S : State A) (cpu f : ℕ) (l : Option LockRef) (es : List Deed) → top S.cpus cpu ≡ Some f → on S.cpus f ≤ 1 → H f (do_deeds plan (release_if_any l) S) → ((T : State A) → Given es T)
      → Given (release_if_any l ++ PopFrame (cpu_of cpu) ∷ es) S
  ends_given S cpu f None es t once free h = ((f, t, once, free), h _)
  ends_given S cpu f (Some l) es t once free h = (tt, ((f, t, once, free), h _))

  -- what is asked of a frame that ends is so after the lock of its callback is given back
  abbrev pub EndsSo : State A → Type 0
  EndsSo S = (cpu : ℕ) (c : Callback) (o : Handle) (v : Value) (d : IsEnd plan S cpu c o v)
      → H d.frame (do_deeds plan (release_if_any (lock_of_callback plan c o.id.0 (declared_in plan S o.id.0))) S)

  end_given : (S : State A) (cpu : ℕ) (c : Callback) (o : Handle) (v : Value) → Known plan S → EndsSo S → IsEnd plan S cpu c o v → Given (end_deeds plan S cpu c o.id.0 v) S
  end_given S cpu c o v k so d =
      ends_given S cpu d.frame (lock_of_callback plan c o.id.0 (declared_in plan S o.id.0)) (end_of_step plan S (row_of c).rank c o.id.0 v) d.about.top (k.frames.once d.frame) (so cpu c o v d)
      (λ T. step_given S T (row_of c).rank c o.id.0 v)

  stage_given : (S : State A) (d : ℕ) (s : Stage) (i : Option Handle) → Given (stage_effect plan d s i) S
  stage_given S d stage.Enabled i = (tt, tt)
  stage_given S d stage.Disabled i = (tt, tt)
  stage_given S d stage.QueuesDown i = (tt, tt)
  stage_given S d stage.Closed i = (tt, tt)
  stage_given S d stage.Removed i = (tt, tt)
  stage_given S d _ i = tt

  park_given : (S : State A) (cpu f : ℕ) → may_park S cpu f ≡ true → (x : ℕ) × (top S.cpus cpu ≡ Some x) × (is_some (frame_of S.cpus x).pending ≡ true)
  park_given S cpu f h = (
    f,
    top_is (top S.cpus cpu) f (both_left (same_id (top S.cpus cpu) f) (irql S.cpus cpu == 0) (both_left (same_id (top S.cpus cpu) f && irql S.cpus cpu == 0) (waits_on S (frame_of S.cpus f).pending) h)),
    waits_in_call S (frame_of S.cpus f).pending (both_right (same_id (top S.cpus cpu) f && irql S.cpus cpu == 0) (waits_on S (frame_of S.cpus f).pending) h),
  )

  -- ---- posts

  arrival_given : (S : State A) (agent : ℕ) (f : RequestForm) (length code device : ℕ) (b : Bool)
      → Given (CountArrival agent ∷ (if b then Arrive (object_id device) (arrival_info S agent f length code device) (arrival_place plan S f length device) ∷ [] else [])) S
  arrival_given S agent f length code device true = let k = suited_if_any plan S f length device (queue_for plan device f) refl in (tt, ((refl, refl, k.0, k.1), tt))
  arrival_given S agent f length code device false = (tt, tt)

  cancel_given : (S : State A) (p : Place) (r : ℕ) → Given (cancel_at p r) S
  cancel_given S (place.Queued q) r = (tt, tt)
  cancel_given S _ r = (tt, tt)

  cancel_if_any : (S : State A) (r : Option ℕ) → Given (cancel_deeds S r) S
  cancel_if_any S None = tt
  cancel_if_any S (Some r) = cancel_given S (place_of S.requests r) r

  post_given : (S : State A) (agent : ℕ) (p : Post) → Given (post_deeds plan S agent p) S
  post_given S agent (post.Read device length) = arrival_given S agent form.Read length 0 device.id.0 (is_live (life_of S.tree device.id.0))
  post_given S agent (post.Write device length) = arrival_given S agent form.Write length 0 device.id.0 (is_live (life_of S.tree device.id.0))
  post_given S agent (post.Control device code length) = arrival_given S agent form.Control length code device.id.0 (is_live (life_of S.tree device.id.0))
  post_given S agent (post.Cancel k) = cancel_if_any S (option_and_then (in_reach S) (arrival_of S.requests agent k))
  post_given S agent (post.Ask a device) = (tt, tt)
  post_given S agent (post.Act action) = tt
  post_given S agent (post.Done r s) = (tt, tt)

  -- ---- all events

  pub event_given : (m : Meaning A) (S : State A) (e : Event) → Known plan S → EndsSo S → may plan m S e ≡ true → Given (deeds plan S e) S
  event_given m S (event.Start k c o r) known so h =
      start_given m S k.0 c o r known (both_right (is_cpu plan k && is_proper plan S o && is_proper_if_any plan S r) (may_start plan m S k.0 c o.id.0 r) h)
  event_given m S (event.Local k line) known so h = moving_given S known k.0 (λ frame. stepped frame (intent_of plan frame)) (top S.cpus k.0) refl (λ a. stepped_kept a (intent_of plan a))
  event_given m S (event.Log k v) known so h = moving_given S known k.0 (λ frame. goes_on plan frame) (top S.cpus k.0) refl (goes_on_kept plan)
  event_given m S (event.Spend k n) known so h = moving_given S known k.0 (λ frame. spending plan S frame n) (top S.cpus k.0) refl (λ a. spending_kept plan S a n)
  event_given m S (event.Register k a r v) known so h = moving_given S known k.0 (λ frame. answered plan frame (Num v)) (top S.cpus k.0) refl (λ x. answered_kept plan x (Num v))
  event_given m S (event.Did k c v) known so h = did_given S known k.0 c v (did_tells plan m S k c v h) (event_fits plan m S (event.Did k c v) h)
  event_given m S (event.Waiting k c) known so h = waiting_given S known k.0 c (waiting_tells plan m S k c h) (event_fits plan m S (event.Waiting k c) h)
  event_given m S (event.Woke k c v) known so h = woke_given S known k.0 c v (woke_tells plan m S k c v h) (event_fits plan m S (event.Woke k c v) h)
  event_given m S (event.Park k f) known so h = (park_given S k.0 f.0 h, tt)
  event_given m S (event.Unpark k f) known so h =
      let parked : contains f.0 S.cpus.parked ≡ true = search (both_left, both_right) in
      (parked_once S.cpus f.0 (known.frames.once f.0) parked, tt)
  event_given m S (event.End k c o v) known so h = end_given S k.0 c o v known so (end_tells plan m S k c o v h)
  event_given m S (event.Fault k x line) known so h = tt
  event_given m S (event.Stage d s i) known so h = (tt, (tt, stage_given _ d.id.0 s i))
  event_given m S (event.Posted agent p answer) known so h = post_given S agent p
  event_given m S _ known so h = (tt, tt)
