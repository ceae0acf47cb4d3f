-- A test that each deed passes which the table lets an event do: the deeds of the event pass it, and so do its parts.
use Rattle.std.proofs.Common.{◌≡◌, ℕ, Bool, true, false, not, Option, None, ap, ◌∙◌}
use Rattle.std.specs.List.{list_all}
use Rattle.wdf_base.specs.declared.plan.Plan.{Plan}
use Rattle.wdf_base.specs.declared.ids.Handle.{Handle}
use Rattle.wdf_base.specs.declared.value.Value.{Value}
use Rattle.wdf_base.specs.declared.value.Value.TheVariants.{Num}
use Rattle.wdf_base.specs.declared.call.Call.{Call}
use Rattle.wdf_base.specs.declared.call.CallKind.{CallKind}
use Rattle.wdf_base.specs.declared.call.Callback.{Callback}
use Rattle.wdf_base.specs.declared.event.Event.{Event}
use Rattle.wdf_base.specs.declared.event.Event.TheVariants as event
use Rattle.wdf_base.specs.declared.event.Post.{Post}
use Rattle.wdf_base.specs.declared.event.Stage.{Stage}
use Rattle.wdf_base.specs.Callbacks.{row_of}
use Rattle.wdf_base.specs.Same.{same_call_kind}
use Rattle.wdf_model.specs.Ids.{cpu_of}
use Rattle.wdf_model.specs.State.{State}
use Rattle.wdf_model.specs.declared.deed.Deed.{Deed}
use Rattle.wdf_model.specs.rules.Calls.{outcome, second_deeds}
use Rattle.wdf_model.specs.rules.Starts.{end_of_step, stage_effect, start_effect}
use Rattle.wdf_model.specs.rules.Posts.{post_deeds}
use Rattle.wdf_model.specs.rules.Steps.{deeds}
use Rattle.wdf_model.proofs.Sames.{call_kind_decides}
use Rattle.wdf_model.proofs.Tests.{both_left, both_right, not_true}
use Rattle.law_machine_deeds.specs.MayDo.{calls, first_part, may_do, posts}
use Rattle.law_machine_deeds.proofs.Walk.{all_pass, event_may, may_beside, outcome_may, plain_end, plain_frame, plain_stage, plain_start, post_may, second_may, some_object, stage_may, start_effect_may, step_may}

-- ---- events that have a part's deeds and no others of its kind

abbrev pub first_of : Call → Event
first_of c = event.Waiting (cpu_of 0) c

abbrev pub second_of : Call → Event
second_of c = event.Woke (cpu_of 0) c (Num 0)

abbrev pub start_of : Callback → Event
start_of c = event.Start (cpu_of 0) c some_object None

abbrev pub end_of : Callback → Event
end_of c = event.End (cpu_of 0) c some_object (Num 0)

abbrev pub stage_of : Stage → Event
stage_of s = event.Stage some_object s None

abbrev pub post_of : Post → Event
post_of p = event.Posted 0 p None

-- ---- a test

-- each deed that an event may do passes it
abbrev pub Passes : (Deed → Bool) → Event → Type 0
Passes q e = (d : Deed) → may_do e d ≡ true → q d ≡ true

-- each that it may do, and that not every event of its kind does
abbrev pub PassesBeside : (Deed → Bool) → Event → Event → Type 0
PassesBeside q plain e = (d : Deed) → may_do e d ≡ true → may_do plain d ≡ false → q d ≡ true

beside : (q : Deed → Bool) (plain e : Event) → PassesBeside q plain e → (d : Deed) → may_beside plain e d ≡ true → q d ≡ true
beside q plain e h d k = h d (both_left (may_do e d) (not (may_do plain d)) k) (not_true (may_do plain d) (both_right (may_do e d) (not (may_do plain d)) k))

module _ (q : Deed → Bool) where
  pub event_passes : {A : Type 0} (plan : Plan) (S : State A) (e : Event) → Passes q e → list_all q (deeds plan S e) ≡ true
  event_passes plan S e h = all_pass (may_do e) q h (deeds plan S e) (event_may plan S e)

  pub outcome_passes : {A : Type 0} (plan : Plan) (S : State A) (cpu f : ℕ) (c : Call) → PassesBeside q plain_frame (first_of c) → list_all q (outcome plan S cpu f c).deeds ≡ true
  outcome_passes plan S cpu f c h = all_pass (may_beside plain_frame (first_of c)) q (beside q plain_frame (first_of c) h) (outcome plan S cpu f c).deeds (outcome_may plan S (cpu_of 0) cpu f c)

  pub second_passes : (f : ℕ) (c : Call) → PassesBeside q plain_frame (second_of c) → list_all q (second_deeds f c) ≡ true
  second_passes f c h = all_pass (may_beside plain_frame (second_of c)) q (beside q plain_frame (second_of c) h) (second_deeds f c) (second_may (cpu_of 0) f c (Num 0))

  pub start_effect_passes : {A : Type 0} (plan : Plan) (S : State A) (cpu : ℕ) (c : Callback) (o : ℕ) (r : Option Handle) → PassesBeside q plain_start (start_of c) → list_all q (start_effect plan S cpu c o r) ≡ true
  start_effect_passes plan S cpu c o r h = all_pass (may_beside plain_start (start_of c)) q (beside q plain_start (start_of c) h) (start_effect plan S cpu c o r) (start_effect_may plan S (cpu_of 0) cpu c some_object o None r)

  pub step_passes : {A : Type 0} (plan : Plan) (S : State A) (c : Callback) (o : ℕ) (v : Value) → PassesBeside q plain_end (end_of c) → list_all q (end_of_step plan S (row_of c).rank c o v) ≡ true
  step_passes plan S c o v h = all_pass (may_beside plain_end (end_of c)) q (beside q plain_end (end_of c) h) (end_of_step plan S (row_of c).rank c o v) (step_may plan S (cpu_of 0) c some_object o v)

  pub stage_passes : (plan : Plan) (d : ℕ) (s : Stage) (i : Option Handle) → PassesBeside q plain_stage (stage_of s) → list_all q (stage_effect plan d s i) ≡ true
  stage_passes plan d s i h = all_pass (may_beside plain_stage (stage_of s)) q (beside q plain_stage (stage_of s) h) (stage_effect plan d s i) (stage_may plan some_object d s None i)

  pub post_passes : {A : Type 0} (plan : Plan) (S : State A) (agent : ℕ) (p : Post) → Passes q (post_of p) → list_all q (post_deeds plan S agent p) ≡ true
  post_passes plan S agent p h = all_pass (may_do (post_of p)) q h (post_deeds plan S agent p) (post_may plan S agent p None)

-- ---- calls and posts of some kinds

-- calls of one kind are among calls of more
pub first_among : (p q : CallKind → Bool) (e : Event) → ((k : CallKind) → p k ≡ true → q k ≡ true) → first_part p e ≡ true → first_part q e ≡ true
first_among p q (event.Did cpu c v) h k = h c.kind k
first_among p q (event.Waiting cpu c) h k = h c.kind k
first_among p q _ h k = absurd (let z : ⊥ = cc in z)

pub calls_among : (k : CallKind) (q : CallKind → Bool) (e : Event) → q k ≡ true → calls k e ≡ true → first_part q e ≡ true
calls_among k q e h = first_among (λ c. same_call_kind c k) q e (λ c same. ap q ((call_kind_decides c k).0 same) ∙ h)

pub posts_among : (p q : Post → Bool) (e : Event) → ((x : Post) → p x ≡ true → q x ≡ true) → posts p e ≡ true → posts q e ≡ true
posts_among p q (event.Posted agent x answer) h k = h x k
posts_among p q _ h k = absurd (let z : ⊥ = cc in z)
