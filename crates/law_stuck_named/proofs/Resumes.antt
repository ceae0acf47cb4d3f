-- A resume is due only for a request that is held from a queue with EvtIoResume, at each place of every run.
use Rattle.std.proofs.Common.{◌≡◌, ℕ, suc, ◌+◌, Bool, true, false, ◌&&◌, List, length, take, refl, sym, ap, subst, ◌∙◌, arith}
use Rattle.wdf_base.specs.Meaning.{Meaning}
use Rattle.wdf_base.specs.declared.plan.Plan.{Plan}
use Rattle.wdf_base.specs.declared.call.Callback.TheVariants as callback
use Rattle.wdf_base.specs.declared.event.Event.{Event}
use Rattle.wdf_base.specs.declared.event.Stage.{Stage}
use Rattle.wdf_base.specs.declared.event.Stage.TheVariants as stage
use Rattle.wdf_base.specs.declared.event.Step.TheVariants as step
use Rattle.wdf_model.specs.declared.entries.Holding.{Holding}
use Rattle.wdf_model.specs.declared.entries.QueuePower.{QueuePower}
use Rattle.wdf_model.specs.Tables.{entry}
use Rattle.wdf_model.specs.Plans.{declares}
use Rattle.wdf_model.specs.parts.Power.{Power, advance_stage, holding_of, is_held, is_held_at, no_holding, no_queue_power, opening_power, opening_queue_power, queue_power, with_up, woken}
use Rattle.wdf_model.specs.State.{State}
use Rattle.wdf_model.specs.declared.deed.Deed.{Deed}
use Rattle.wdf_model.specs.declared.deed.Deed.TheVariants.{AdvancePower}
use Rattle.wdf_model.specs.rules.Deeds.{do_deed}
use Rattle.wdf_model.specs.rules.Ready.{IsRunOf, state_after}
use Rattle.wdf_model.proofs.Maps.{entry_map}
use Rattle.wdf_model.proofs.Tests.{both_right}
use Rattle.law_machine_lives.proofs.SoundRuns.{sound_place}
use Rattle.law_trace_queues.proofs.Resuming.{blank_queue, is_advance, is_resuming, none_more_by, noted, undeclared}
use Rattle.law_trace_power.proofs.Runs.{mapped}
use Rattle.law_machine_counts.proofs.PowerQueues.{deed_queues}

-- ---- power notes of each queue whether it has EvtIoResume

resumes_noted : (plan : Plan) (P : Power) (q : ℕ) → P.queues ≡ (opening_power plan).queues → (queue_power P q).resumes ≡ declares plan callback.EvtIoResume q
resumes_noted plan P q same =
    let e : 0 + q ≡ q = omega arith in
    ap (λ qs. (entry no_queue_power qs q).resumes) same
    ∙ ap (λ (y : QueuePower). y.resumes) (mapped no_queue_power (opening_queue_power plan) 0 (suc (length plan.declared)) q (λ x h. blank_queue plan x (undeclared plan x (omega arith))))
    ∙ ap (declares plan callback.EvtIoResume) e

-- ---- the property

pub record Resumable {A : Type 0} (plan : Plan) (S : State A) : Type 0 where
  pub queues : S.power.queues ≡ (opening_power plan).queues
  pub due : (x : ℕ) → is_resuming (holding_of S.power x) ≡ true → declares plan callback.EvtIoResume (noted S.power x) ≡ true

woken_by : (plan : Plan) (P : Power) (d : ℕ) (h : Holding) (b : Bool) → P.queues ≡ (opening_power plan).queues → is_held_at (with_up P d true) d h ≡ b → (is_resuming h ≡ true → declares plan callback.EvtIoResume h.queue.0 ≡ true)
    → is_resuming (woken (with_up P d true) d h) ≡ true → declares plan callback.EvtIoResume (woken (with_up P d true) d h).queue.0 ≡ true
woken_by plan P d h true same e old due =
    let t : (is_held h && (queue_power (with_up P d true) h.queue.0).resumes) ≡ true = rw e at due in
    let is : (queue_power P h.queue.0).resumes ≡ true = both_right (is_held h) (queue_power (with_up P d true) h.queue.0).resumes t in
    let has : declares plan callback.EvtIoResume h.queue.0 ≡ true = sym (resumes_noted plan P h.queue.0 same) ∙ is in
    rw e has
woken_by plan P d h false same e old due =
    let t : is_resuming h ≡ true = rw e at due in
    rw e (old t)

up_due : (plan : Plan) (P : Power) (d x : ℕ) → P.queues ≡ (opening_power plan).queues → ((y : ℕ) → is_resuming (holding_of P y) ≡ true → declares plan callback.EvtIoResume (noted P y) ≡ true)
    → is_resuming (holding_of (advance_stage P d stage.QueuesUp) x) ≡ true → declares plan callback.EvtIoResume (noted (advance_stage P d stage.QueuesUp) x) ≡ true
up_due plan P d x same old due =
    let U : Power = with_up P d true in
    let e : holding_of (advance_stage P d stage.QueuesUp) x ≡ woken U d (holding_of P x) = entry_map no_holding P.holdings (woken U d) x refl in
    subst (λ (h : Holding). declares plan callback.EvtIoResume h.queue.0 ≡ true) (sym e)
    (woken_by plan P d (holding_of P x) (is_held_at U d (holding_of P x)) same refl (old x) (sym (ap is_resuming e) ∙ due))

stage_due : (plan : Plan) (P : Power) (d : ℕ) (s : Stage) (x : ℕ) → P.queues ≡ (opening_power plan).queues → ((y : ℕ) → is_resuming (holding_of P y) ≡ true → declares plan callback.EvtIoResume (noted P y) ≡ true)
    → is_resuming (holding_of (advance_stage P d s) x) ≡ true → declares plan callback.EvtIoResume (noted (advance_stage P d s) x) ≡ true
stage_due plan P d stage.QueuesUp x same old due = up_due plan P d x same old due
stage_due plan P d _ x same old due = old x due

others_due : {A : Type 0} (plan : Plan) (d : Deed) (S : State A) → is_advance d ≡ false → Resumable plan S → (x : ℕ) → is_resuming (holding_of (do_deed plan d S).power x) ≡ true → declares plan callback.EvtIoResume (noted (do_deed plan d S).power x) ≡ true
others_due plan d S none k x due = let old = none_more_by plan d S none x due in ap (declares plan callback.EvtIoResume) old.1 ∙ k.due x old.0

due_by : {A : Type 0} (plan : Plan) (d : Deed) (S : State A) → Resumable plan S → (x : ℕ) → is_resuming (holding_of (do_deed plan d S).power x) ≡ true → declares plan callback.EvtIoResume (noted (do_deed plan d S).power x) ≡ true
due_by plan (AdvancePower d (step.Run c i)) S k x due = k.due x due
due_by plan (AdvancePower d (step.Pass s i)) S k x due = stage_due plan S.power d.0 s x k.queues k.due due
due_by plan d S k x due = others_due plan d S refl k x due

resumable_by : {A : Type 0} (plan : Plan) (d : Deed) (S : State A) → Resumable plan S → Resumable plan (do_deed plan d S)
resumable_by plan d S k = record { queues = deed_queues plan d S ∙ k.queues; due = due_by plan d S k }

pub resumable_at_each : {A : Type 0} (plan : Plan) (m : Meaning A) (run : List Event) → IsRunOf plan m run → (n : ℕ) → Resumable plan (state_after plan m (take n run))
resumable_at_each {A} plan m run is_run n = sound_place plan m (λ (S : State A). Resumable plan S) (record { queues = refl; due = λ x h. absurd (let z : ⊥ = cc in z) })
    (λ d S f s k. resumable_by plan d S k) (λ e S k. record { queues = k.queues; due = k.due }) run is_run n
