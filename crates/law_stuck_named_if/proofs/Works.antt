-- A work item that is queued, or a timer whose tick is reached, is live.
use Rattle.std.proofs.Common.{◌≡◌, ℕ, true, false, List, Option, Some, None, is_some, refl}
use Rattle.wdf_base.specs.Meaning.{Meaning}
use Rattle.wdf_base.specs.declared.plan.Plan.{Plan}
use Rattle.wdf_base.specs.declared.event.Event.{Event}
use Rattle.wdf_base.specs.Lives.{is_live}
use Rattle.wdf_model.specs.declared.entries.Timed.{Timed}
use Rattle.wdf_model.specs.parts.Tree.{life_of}
use Rattle.wdf_model.specs.parts.Deferred.Dpcs.{is_dpc_queued}
use Rattle.wdf_model.specs.parts.Deferred.Timers.{is_reached, timed_of, timer_due}
use Rattle.wdf_model.specs.parts.Deferred.WorkItems.{is_work_queued}
use Rattle.wdf_model.specs.State.{State}
use Rattle.wdf_model.specs.rules.Ready.{IsRunOf, is_open_work, state_after}
use Rattle.law_machine_lives.specs.Agreements.{WorkIsLive}
use Rattle.law_machine_lives.proofs.Deferring.{work_is_live_at_each}
use Rattle.law_stuck_causes.proofs.Endings.{at_the_end}
use Rattle.law_stuck_causes.proofs.Works.{third}

work_is_live : {A : Type 0} (plan : Plan) (m : Meaning A) (run : List Event) → IsRunOf plan m run → WorkIsLive plan (state_after plan m run)
work_is_live {A} plan m run is_run = at_the_end plan m (λ (S : State A). WorkIsLive plan S) run (work_is_live_at_each plan m run is_run)

pub item_live : {A : Type 0} (plan : Plan) (m : Meaning A) (run : List Event) → IsRunOf plan m run → (o : ℕ) → is_work_queued (state_after plan m run).work_items o ≡ true → is_live (life_of (state_after plan m run).tree o) ≡ true
item_live plan m run is_run = (work_is_live plan m run is_run).items

pub reached : (now : ℕ) (t : Option Timed) → is_reached now t ≡ true → is_some t ≡ true
reached now None h = absurd (let z : ⊥ = cc in z)
reached now (Some t) h = refl

pub timer_live : {A : Type 0} (plan : Plan) (m : Meaning A) (run : List Event) → IsRunOf plan m run → (o : ℕ) → is_open_work (state_after plan m run) o ≡ true
    → is_dpc_queued (state_after plan m run).dpcs o ≡ false → is_work_queued (state_after plan m run).work_items o ≡ false → is_live (life_of (state_after plan m run).tree o) ≡ true
timer_live plan m run is_run o opened off idle =
    let S = state_after plan m run in
    (work_is_live plan m run is_run).timers o
    (reached S.clock (timed_of S.timers o) (third (is_dpc_queued S.dpcs o) (is_work_queued S.work_items o) (timer_due S.timers o S.clock) opened off idle))
