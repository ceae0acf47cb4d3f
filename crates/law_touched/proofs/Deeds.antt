-- What is so of the deeds of each kind of event.
use Rattle.std.proofs.Common.{if◌then◌else◌, ◌≡◌, ℕ, Bool, true, false, ◌||◌, List, [], ◌∷◌, ◌++◌, Option, Some, None, refl}
use Rattle.std.specs.List.{flat_map, list_all}
use Rattle.wdf_base.specs.declared.plan.Plan.{Plan}
use Rattle.wdf_base.specs.declared.ids.Handle.{Handle}
use Rattle.wdf_base.specs.declared.call.Arg.{Arg}
use Rattle.wdf_base.specs.declared.call.Call.{Call}
use Rattle.wdf_base.specs.declared.call.Callback.{Callback}
use Rattle.wdf_base.specs.declared.call.CallKind.{CallKind}
use Rattle.wdf_base.specs.declared.call.CallKind.TheVariants as call
use Rattle.wdf_base.specs.declared.event.Post.{Post}
use Rattle.wdf_base.specs.declared.event.Post.TheVariants as post
use Rattle.wdf_base.specs.declared.event.Stage.{Stage}
use Rattle.wdf_base.specs.declared.event.Stage.TheVariants as stage
use Rattle.wdf_base.specs.declared.object.LockRef.{LockRef}
use Rattle.wdf_base.specs.declared.object.Place.{Place}
use Rattle.wdf_base.specs.declared.object.Place.TheVariants as place
use Rattle.wdf_base.specs.declared.object.RequestForm.{RequestForm}
use Rattle.wdf_base.specs.declared.object.RequestForm.TheVariants as form
use Rattle.wdf_base.specs.declared.rank.Rank.{Rank}
use Rattle.wdf_base.specs.declared.rank.Rank.TheVariants as rank
use Rattle.wdf_base.specs.declared.value.Value.{Value}
use Rattle.wdf_base.specs.Callbacks.{row_of}
use Rattle.wdf_base.specs.Lives.{is_live}
use Rattle.wdf_base.specs.Calls.{is_acquire, is_release}
use Rattle.wdf_model.specs.Ids.{object_id}
use Rattle.wdf_model.specs.State.{State}
use Rattle.wdf_model.specs.declared.deed.Deed.{Deed}
use Rattle.wdf_model.specs.declared.deed.Deed.TheVariants as deed
use Rattle.wdf_model.specs.parts.Requests.{place_of}
use Rattle.wdf_model.specs.parts.Tree.{life_of}
use Rattle.wdf_model.specs.rules.Calls.{outcome, second_deeds}
use Rattle.wdf_model.specs.rules.Posts.{arrival_deeds, arrival_info, arrival_place, cancel_at, cancel_deeds, cancel_reaches, post_deeds}
use Rattle.wdf_model.specs.rules.Starts.{effect, effect_for, end_of_step, release_if_any, stage_deeds, stage_effect, start_effect, take_if_any}
use Rattle.wdf_model.proofs.Tests.{both_left, both_right, itself}
use Rattle.law_machine_deeds.proofs.Passing.{PassesBeside, first_of, outcome_passes}
use Rattle.law_machine_deeds.proofs.Walk.{all_after, plain_frame}
use Rattle.law_machine_counts.proofs.StillDeeds.{all_still, is_still_deed, none_behind, outcome_none, second_none}
use Rattle.law_touched.specs.Touched.{Piece, TopFrame, changed_by, has_piece, same_piece}
use Rattle.law_touched.proofs.Fields.{is_of_frame, is_quiet}

-- ---- none of these is of the processors

abbrev pub all_quiet : List Deed → Bool
all_quiet ds = list_all is_quiet ds

stage_effect_quiet : (plan : Plan) (d : ℕ) (s : Stage) (i : Option Handle) → all_quiet (stage_effect plan d s i) ≡ true
stage_effect_quiet plan d stage.Enabled i = refl
stage_effect_quiet plan d stage.Disabled i = refl
stage_effect_quiet plan d stage.QueuesDown i = refl
stage_effect_quiet plan d stage.Closed i = refl
stage_effect_quiet plan d stage.Removed i = refl
stage_effect_quiet plan d _ i = refl

pub stage_quiet : (plan : Plan) (d : ℕ) (s : Stage) (i : Option Handle) → all_quiet (stage_deeds plan d s i) ≡ true
stage_quiet plan d s i = stage_effect_quiet plan d s i

arrival_by : (b : Bool) (d : Deed) (agent : ℕ) → is_quiet d ≡ true → all_quiet (deed.CountArrival agent ∷ (if b then d ∷ [] else [])) ≡ true
arrival_by true d agent h = rw h refl
arrival_by false d agent h = refl

arrival_quiet : {A : Type 0} (plan : Plan) (S : State A) (agent : ℕ) (f : RequestForm) (length code device : ℕ) → all_quiet (arrival_deeds plan S agent f length code device) ≡ true
arrival_quiet plan S agent f length code device =
    arrival_by (is_live (life_of S.tree device)) (deed.Arrive (object_id device) (arrival_info S agent f length code device) (arrival_place plan S f length device)) agent refl

cancel_at_quiet : (p : Place) (r : ℕ) → all_quiet (cancel_at p r) ≡ true
cancel_at_quiet (place.Queued q) r = refl
cancel_at_quiet _ r = refl

cancel_quiet : {A : Type 0} (S : State A) (o : Option ℕ) → all_quiet (cancel_deeds S o) ≡ true
cancel_quiet S None = refl
cancel_quiet S (Some r) = cancel_at_quiet (place_of S.requests r) r

pub post_quiet : {A : Type 0} (plan : Plan) (S : State A) (agent : ℕ) (p : Post) → all_quiet (post_deeds plan S agent p) ≡ true
post_quiet plan S agent (post.Read device length) = arrival_quiet plan S agent form.Read length 0 device.id.0
post_quiet plan S agent (post.Write device length) = arrival_quiet plan S agent form.Write length 0 device.id.0
post_quiet plan S agent (post.Control device code length) = arrival_quiet plan S agent form.Control length code device.id.0
post_quiet plan S agent (post.Cancel k) = cancel_quiet S (cancel_reaches S agent k)
post_quiet plan S agent (post.Ask a device) = refl
post_quiet plan S agent (post.Act action) = refl
post_quiet plan S agent (post.Done request s) = refl

effect_for_quiet : (r : Rank) (o q : ℕ) → all_quiet (effect_for r o q) ≡ true
effect_for_quiet rank.Completion o q = refl
effect_for_quiet rank.Cancel o q = refl
effect_for_quiet rank.CanceledOnQueue o q = refl
effect_for_quiet rank.Stop o q = refl
effect_for_quiet rank.Resume o q = refl
effect_for_quiet rank.Handler o q = refl
effect_for_quiet _ o q = refl

effect_quiet : {A : Type 0} (plan : Plan) (S : State A) (r : Rank) (cpu : ℕ) (c : Callback) (o : ℕ) → all_quiet (effect plan S r cpu c o) ≡ true
effect_quiet plan S rank.Deferred cpu c o = refl
effect_quiet plan S rank.Timed cpu c o = refl
effect_quiet plan S rank.QueueState cpu c o = refl
effect_quiet plan S rank.Sequence cpu c o = refl
effect_quiet plan S rank.Work cpu c o = refl
effect_quiet plan S rank.Cleanup cpu c o = refl
effect_quiet plan S rank.Destroy cpu c o = refl
effect_quiet plan S _ cpu c o = refl

pub start_quiet : {A : Type 0} (plan : Plan) (S : State A) (cpu : ℕ) (c : Callback) (o : ℕ) (r : Option Handle) → all_quiet (start_effect plan S cpu c o r) ≡ true
start_quiet plan S cpu c o None = effect_quiet plan S (row_of c).rank cpu c o
start_quiet plan S cpu c o (Some r) = effect_for_quiet (row_of c).rank o r.id.0

pub taking_quiet : (f : ℕ) (l : Option LockRef) → all_quiet (take_if_any f l) ≡ true
taking_quiet f None = refl
taking_quiet f (Some l) = refl

pub releasing_quiet : (l : Option LockRef) → all_quiet (release_if_any l) ≡ true
releasing_quiet None = refl
releasing_quiet (Some l) = refl

pub step_quiet : {A : Type 0} (plan : Plan) (S : State A) (r : Rank) (c : Callback) (o : ℕ) (v : Value) → all_quiet (end_of_step plan S r c o v) ≡ true
step_quiet plan S rank.Sequence c o v = refl
step_quiet plan S _ c o v = refl

-- ---- the deeds of a call, before its frame goes on

-- such a deed changes no frame
still_frames : (cpu : ℕ) (d : Deed) → is_still_deed d ≡ true → has_piece (TopFrame cpu) (changed_by cpu d) ≡ false
still_frames cpu (deed.PushFrame on f frame level) h = absurd (let z : ⊥ = cc in z)
still_frames cpu (deed.GoOn f frame) h = absurd (let z : ⊥ = cc in z)
still_frames cpu (deed.PopFrame on) h = absurd (let z : ⊥ = cc in z)
still_frames cpu (deed.ParkFrame on) h = absurd (let z : ⊥ = cc in z)
still_frames cpu (deed.UnparkFrame on f) h = absurd (let z : ⊥ = cc in z)
still_frames cpu _ h = refl

none_by_first : (b rest all : Bool) → (b || rest) ≡ false → (rest ≡ false → all ≡ false) → (b || all) ≡ false
none_by_first true rest all h more = h
none_by_first false rest all h more = more h

none_in_both : (p : Piece) (ps qs : List Piece) → has_piece p ps ≡ false → has_piece p qs ≡ false → has_piece p (ps ++ qs) ≡ false
none_in_both p [] qs h k = k
none_in_both p (x ∷ ps) qs h k = none_by_first (same_piece p x) (has_piece p ps) (has_piece p (ps ++ qs)) h (λ e. none_in_both p ps qs e k)

all_still_frames : (cpu : ℕ) (ds : List Deed) → all_still ds ≡ true → has_piece (TopFrame cpu) (flat_map (changed_by cpu) ds) ≡ false
all_still_frames cpu [] h = refl
all_still_frames cpu (d ∷ ds) h =
    none_in_both (TopFrame cpu) (changed_by cpu d) (flat_map (changed_by cpu) ds) (still_frames cpu d (both_left (is_still_deed d) (all_still ds) h)) (all_still_frames cpu ds (both_right (is_still_deed d) (all_still ds) h))

module _ {A : Type 0} (plan : Plan) (S : State A) (cpu f : ℕ) (c : Call) where
  pub did_frames : has_piece (TopFrame cpu) (flat_map (changed_by cpu) ((outcome plan S cpu f c).deeds ++ second_deeds f c)) ≡ false
  did_frames = all_still_frames cpu ((outcome plan S cpu f c).deeds ++ second_deeds f c) (none_behind (outcome plan S cpu f c).deeds (second_deeds f c) (outcome_none plan S cpu f c) (second_none f c))

  pub waiting_frames : has_piece (TopFrame cpu) (flat_map (changed_by cpu) (outcome plan S cpu f c).deeds) ≡ false
  waiting_frames = all_still_frames cpu (outcome plan S cpu f c).deeds (outcome_none plan S cpu f c)

  pub woke_frames : has_piece (TopFrame cpu) (flat_map (changed_by cpu) (second_deeds f c)) ≡ false
  woke_frames = all_still_frames cpu (second_deeds f c) (second_none f c)

-- a call that neither takes a lock nor gives one back raises and lowers nothing
no_level : (f : ℕ) (c : Call) → is_acquire c.kind ≡ false → is_release c.kind ≡ false → PassesBeside (is_of_frame f) plain_frame (first_of c)
no_level f c a r (deed.Raise g level) h k = absurd (let z : ⊥ = cc in z)
no_level f c a r (deed.Lower g level) h k = absurd (let z : ⊥ = cc in z)
no_level f c a r (deed.PushFrame on g frame level) h k = absurd (let z : ⊥ = cc in z)
no_level f c a r (deed.PopFrame on) h k = absurd (let z : ⊥ = cc in z)
no_level f c a r (deed.ParkFrame on) h k = absurd (let z : ⊥ = cc in z)
no_level f c a r (deed.UnparkFrame on g) h k = absurd (let z : ⊥ = cc in z)
no_level f c a r _ h k = refl

module _ {A : Type 0} (plan : Plan) (S : State A) (cpu f : ℕ) where
  outcome_by : (k : CallKind) (n : ℕ) (a b x : Arg) → list_all (is_of_frame f) (outcome plan S cpu f (record { kind = k; count = n; a = a; b = b; c = x })).deeds ≡ true
  outcome_by call.WdfSpinLockAcquire n a b x = rw (itself f) refl
  outcome_by call.WdfSpinLockRelease n a b x = rw (itself f) refl
  outcome_by call.WdfWaitLockAcquire n a b x = rw (itself f) refl
  outcome_by call.WdfWaitLockRelease n a b x = rw (itself f) refl
  outcome_by call.WdfInterruptAcquireLock n a b x = rw (itself f) refl
  outcome_by call.WdfInterruptReleaseLock n a b x = rw (itself f) refl
  outcome_by k n a b x = outcome_passes (is_of_frame f) plan S cpu f (record { kind = k; count = n; a = a; b = b; c = x }) (no_level f (record { kind = k; count = n; a = a; b = b; c = x }) refl refl)

  second_by : (k : CallKind) (n : ℕ) (a b x : Arg) → list_all (is_of_frame f) (second_deeds f (record { kind = k; count = n; a = a; b = b; c = x })) ≡ true
  second_by call.WdfSpinLockAcquire n a b x = refl
  second_by call.WdfWaitLockAcquire n a b x = refl
  second_by call.WdfInterruptAcquireLock n a b x = refl
  second_by _ n a b x = refl

  pub outcome_of : (c : Call) → list_all (is_of_frame f) (outcome plan S cpu f c).deeds ≡ true
  outcome_of c = outcome_by c.kind c.count c.a c.b c.c

  pub second_of : (c : Call) → list_all (is_of_frame f) (second_deeds f c) ≡ true
  second_of c = second_by c.kind c.count c.a c.b c.c

  pub did_of : (c : Call) → list_all (is_of_frame f) ((outcome plan S cpu f c).deeds ++ second_deeds f c) ≡ true
  did_of c = all_after (is_of_frame f) (outcome plan S cpu f c).deeds (second_deeds f c) (outcome_of c) (second_of c)
