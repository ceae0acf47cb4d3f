-- The deeds of each event that may follow can be done.
use Rattle.std.proofs.Common.{◌≡◌, ℕ, true, ◌&&◌}
use Rattle.wdf_base.specs.Meaning.{Meaning}
use Rattle.wdf_base.specs.declared.value.Value.TheVariants.{Num}
use Rattle.wdf_base.specs.declared.call.Callback.TheVariants as callback
use Rattle.wdf_base.specs.declared.plan.Plan.{Plan}
use Rattle.wdf_base.specs.declared.event.Event.{Event}
use Rattle.wdf_base.specs.declared.event.Event.TheVariants as event
use Rattle.wdf_model.specs.parts.Requests.{place_of}
use Rattle.wdf_model.specs.State.{State, is_proper}
use Rattle.wdf_model.specs.rules.Script.{intent_of}
use Rattle.wdf_model.specs.rules.Starts.{callback_over, clean_ready, destroy_ready, may_pass, may_start}
use Rattle.wdf_model.specs.rules.Steps.{answered, deeds, goes_on, is_closing_with, is_cpu, is_proper_if_any, may, spending, stepped}
use Rattle.wdf_model.proofs.Tests.{both_left, both_right}
use Rattle.law_machine_base.proofs.OwnEvents.{did_tells, end_tells, waiting_tells, woke_tells}
use Rattle.wdf_model.specs.rules.Room.{AreDoable}
use Rattle.law_machine_room.proofs.Doable.{Fine}
use Rattle.law_machine_room.proofs.DoableFrames.{end_doable, moving_doable, park_doable, unpark_doable, woke_doable}
use Rattle.law_machine_room.proofs.DoableStarts.{start_doable}
use Rattle.law_machine_room.proofs.DoableStages.{clean_doable, complete_doable, destroy_doable, stage_doable, tick_doable}
use Rattle.law_machine_room.proofs.DoablePosts.{post_doable}
use Rattle.law_machine_room.proofs.DoableCalls.{did_doable, waiting_doable}

pub event_doable : {A : Type 0} (plan : Plan) (m : Meaning A) (S : State A) (e : Event) → Fine plan S → may plan m S e ≡ true → AreDoable plan (deeds plan S e) S
event_doable plan m S (event.Start cpu c o r) k h =
    let here : is_cpu plan cpu ≡ true = both_left (is_cpu plan cpu) (is_proper plan S o) (both_left _ (is_proper_if_any plan S r) (both_left _ (may_start plan m S cpu.0 c o.id.0 r) h)) in
    start_doable k m cpu c o r here (both_right (is_cpu plan cpu && is_proper plan S o && is_proper_if_any plan S r) (may_start plan m S cpu.0 c o.id.0 r) h)
event_doable plan m S (event.Local cpu line) k h = moving_doable k (λ f frame. stepped frame (intent_of plan frame)) cpu.0
event_doable plan m S (event.Log cpu v) k h = moving_doable k (λ f frame. goes_on plan frame) cpu.0
event_doable plan m S (event.Spend cpu n) k h = moving_doable k (λ f frame. spending plan S frame n) cpu.0
event_doable plan m S (event.Register cpu a r v) k h = moving_doable k (λ f frame. answered plan frame (Num v)) cpu.0
event_doable plan m S (event.Did cpu c v) k h = did_doable k cpu c v (did_tells plan m S cpu c v h)
event_doable plan m S (event.Waiting cpu c) k h = waiting_doable k cpu c (waiting_tells plan m S cpu c h)
event_doable plan m S (event.Woke cpu c v) k h = woke_doable k cpu c v (woke_tells plan m S cpu c v h)
event_doable plan m S (event.Park cpu f) k h = park_doable k cpu f h
event_doable plan m S (event.Unpark cpu f) k h = unpark_doable k cpu f h
event_doable plan m S (event.End cpu c o v) k h = end_doable k cpu c o v (end_tells plan m S cpu c o v h)
event_doable plan m S (event.Fault cpu x line) k h = tt
event_doable plan m S (event.Stage d s i) k h = stage_doable k d.id.0 s i (both_right (is_proper plan S d) (may_pass plan S d.id.0 s i) h)
event_doable plan m S (event.Complete r s) k h = complete_doable k r.id.0 s (both_right (is_proper plan S r) (is_closing_with (place_of S.requests r.id.0) s) h)
event_doable plan m S (event.Cleanup o) k h =
    clean_doable k o.id.0 (both_right (is_proper plan S o) (clean_ready S o.id.0) (both_left (is_proper plan S o && clean_ready S o.id.0) (callback_over plan S callback.EvtCleanupCallback o.id.0) h))
event_doable plan m S (event.Destroy o) k h =
    destroy_doable k o.id.0 (both_right (is_proper plan S o) (destroy_ready S o.id.0) (both_left (is_proper plan S o && destroy_ready S o.id.0) (callback_over plan S callback.EvtDestroyCallback o.id.0) h))
event_doable plan m S (event.Posted agent p answer) k h = post_doable k m agent p answer h
event_doable plan m S (event.Tick time) k h = tick_doable k

pub tick_event_doable : {A : Type 0} (plan : Plan) (S : State A) (time : ℕ) → Fine plan S → AreDoable plan (deeds plan S (event.Tick time)) S
tick_event_doable plan S time k = tick_doable k
