-- Calls, starts, stages and posts leave the frames and the steps alone, but for what starts or ends them.
use Rattle.std.proofs.Common.{◌≡◌, ℕ, Bool, true, false, ◌||◌, List, [], ◌∷◌, ◌++◌, Option, Some, None, refl}
use Rattle.std.specs.List.{list_all}
use Rattle.wdf_base.specs.declared.plan.Plan.{Plan}
use Rattle.wdf_base.specs.declared.ids.Handle.{Handle}
use Rattle.wdf_base.specs.declared.object.LockRef.{LockRef}
use Rattle.wdf_base.specs.declared.call.Call.{Call}
use Rattle.wdf_base.specs.declared.call.Callback.{Callback}
use Rattle.wdf_base.specs.declared.event.Event.{Event}
use Rattle.wdf_base.specs.declared.event.Post.{Post}
use Rattle.wdf_base.specs.declared.event.Stage.{Stage}
use Rattle.wdf_base.specs.Callbacks.{row_of}
use Rattle.law_machine_base.specs.Agreement.{is_sequence}
use Rattle.wdf_model.specs.State.{State}
use Rattle.wdf_model.specs.declared.deed.Deed.{Deed}
use Rattle.wdf_model.specs.declared.deed.Deed.TheVariants.{EndLife, EndStep, GoOn, ParkFrame, PopFrame, PushFrame, TakeStep, UnparkFrame}
use Rattle.wdf_model.specs.rules.Calls.{outcome, second_deeds}
use Rattle.wdf_model.specs.rules.Starts.{release_if_any, stage_effect, start_effect, take_if_any}
use Rattle.wdf_model.specs.rules.Posts.{post_deeds}
use Rattle.law_machine_deeds.specs.MayDo.{ends_step, goes_on, is_destruction, is_end, is_park, is_stage, is_start, is_unpark, starts_step}
use Rattle.law_machine_deeds.proofs.Walk.{all_after, plain_frame, plain_stage, plain_start}
use Rattle.law_machine_deeds.proofs.Passing.{Passes, PassesBeside, first_of, outcome_passes, post_of, post_passes, second_of, second_passes, stage_of, stage_passes, start_effect_passes, start_of}

-- a deed that leaves the processors' lists, the frames but for their levels, and the steps alone, and ends no object
abbrev pub is_still_deed : Deed → Bool
is_still_deed (PushFrame cpu f frame level) = false
is_still_deed (GoOn f frame) = false
is_still_deed (PopFrame cpu) = false
is_still_deed (ParkFrame cpu) = false
is_still_deed (UnparkFrame cpu f) = false
is_still_deed (TakeStep d) = false
is_still_deed (EndStep d s result) = false
is_still_deed (EndLife o) = false
is_still_deed _ = true

abbrev pub all_still : List Deed → Bool
all_still ds = list_all is_still_deed ds

pub none_behind : (ds es : List Deed) → all_still ds ≡ true → all_still es ≡ true → all_still (ds ++ es) ≡ true
none_behind ds es h k = all_after is_still_deed ds es h k

-- which of the other deeds an event may do
abbrev moves : Event → List Bool
moves e = is_start e ∷ goes_on e ∷ is_end e ∷ is_park e ∷ is_unpark e ∷ (is_stage e || starts_step e) ∷ ends_step e ∷ is_destruction e ∷ []

still_beside : (plain e : Event) → moves e ≡ moves plain → PassesBeside is_still_deed plain e
still_beside plain e same (PushFrame cpu f frame level) h k = absurd (let z : ⊥ = cc in z)
still_beside plain e same (GoOn f frame) h k = absurd (let z : ⊥ = cc in z)
still_beside plain e same (PopFrame cpu) h k = absurd (let z : ⊥ = cc in z)
still_beside plain e same (ParkFrame cpu) h k = absurd (let z : ⊥ = cc in z)
still_beside plain e same (UnparkFrame cpu f) h k = absurd (let z : ⊥ = cc in z)
still_beside plain e same (TakeStep d) h k = absurd (let z : ⊥ = cc in z)
still_beside plain e same (EndStep d s result) h k = absurd (let z : ⊥ = cc in z)
still_beside plain e same (EndLife o) h k = absurd (let z : ⊥ = cc in z)
still_beside plain e same _ h k = refl

still_post : (p : Post) → Passes is_still_deed (post_of p)
still_post p (PushFrame cpu f frame level) h = absurd (let z : ⊥ = cc in z)
still_post p (GoOn f frame) h = absurd (let z : ⊥ = cc in z)
still_post p (PopFrame cpu) h = absurd (let z : ⊥ = cc in z)
still_post p (ParkFrame cpu) h = absurd (let z : ⊥ = cc in z)
still_post p (UnparkFrame cpu f) h = absurd (let z : ⊥ = cc in z)
still_post p (TakeStep d) h = absurd (let z : ⊥ = cc in z)
still_post p (EndStep d s result) h = absurd (let z : ⊥ = cc in z)
still_post p (EndLife o) h = absurd (let z : ⊥ = cc in z)
still_post p _ h = refl

pub outcome_none : {A : Type 0} (plan : Plan) (S : State A) (cpu f : ℕ) (c : Call) → all_still (outcome plan S cpu f c).deeds ≡ true
outcome_none plan S cpu f c = outcome_passes is_still_deed plan S cpu f c (still_beside plain_frame (first_of c) refl)

pub second_none : (f : ℕ) (c : Call) → all_still (second_deeds f c) ≡ true
second_none f c = second_passes is_still_deed f c (still_beside plain_frame (second_of c) refl)

pub start_none : {A : Type 0} (plan : Plan) (S : State A) (cpu : ℕ) (c : Callback) (o : ℕ) (r : Option Handle) → is_sequence (row_of c).rank ≡ false → all_still (start_effect plan S cpu c o r) ≡ true
start_none plan S cpu c o r h = start_effect_passes is_still_deed plan S cpu c o r (still_beside plain_start (start_of c) (rw h refl))

pub taking_none : (f : ℕ) (l : Option LockRef) → all_still (take_if_any f l) ≡ true
taking_none f None = refl
taking_none f (Some l) = refl

pub releasing_none : (l : Option LockRef) → all_still (release_if_any l) ≡ true
releasing_none None = refl
releasing_none (Some l) = refl

pub stage_none : (plan : Plan) (d : ℕ) (s : Stage) (i : Option Handle) → all_still (stage_effect plan d s i) ≡ true
stage_none plan d s i = stage_passes is_still_deed plan d s i (still_beside plain_stage (stage_of s) refl)

pub post_none : {A : Type 0} (plan : Plan) (S : State A) (agent : ℕ) (p : Post) → all_still (post_deeds plan S agent p) ≡ true
post_none plan S agent p = post_passes is_still_deed plan S agent p (still_post p)
