-- The cancel of a sent request changes no request and no target: the target's agent hears of it.
use Rattle.std.proofs.Common.{◌≡◌, ℕ, suc, List, Some, slice_get, take, refl, ap, ◌∙◌}
use Rattle.wdf_base.specs.Meaning.{Meaning}
use Rattle.wdf_base.specs.declared.call.Arg.{Arg}
use Rattle.wdf_base.specs.declared.call.Call.{Call}
use Rattle.wdf_base.specs.declared.call.CallKind.{CallKind}
use Rattle.wdf_base.specs.declared.call.CallKind.TheVariants as call
use Rattle.wdf_base.specs.declared.event.Event.{Event}
use Rattle.wdf_base.specs.declared.event.Event.TheVariants as event
use Rattle.wdf_base.specs.declared.ids.Cpu.{Cpu}
use Rattle.wdf_base.specs.declared.plan.Plan.{Plan}
use Rattle.wdf_base.specs.declared.value.Value.{Value}
use Rattle.wdf_model.specs.State.{State}
use Rattle.wdf_model.specs.rules.Calls.{outcome}
use Rattle.wdf_model.specs.rules.Deeds.{do_deeds}
use Rattle.wdf_model.specs.rules.Ready.{IsRunOf, state_after}
use Rattle.wdf_model.specs.rules.Steps.{after}
use Rattle.wdf_model.proofs.Runs.{take_next}
use Rattle.law_machine_base.proofs.Follows.{state_goes_on}
use Rattle.law_machine_base.proofs.OwnEvents.{did_tells}
use Rattle.law_machine_lives.proofs.Keeping.{comes}
use Rattle.law_trace_requests.proofs.FirstParts.{did_after}

does_nothing : {A : Type 0} (plan : Plan) (S : State A) (cpu f n : ℕ) (a b x : Arg) (k : CallKind) → k ≡ call.WdfRequestCancelSentRequest → do_deeds plan (outcome plan S cpu f (record { kind = k; count = n; a = a; b = b; c = x })).deeds S ≡ S
does_nothing plan S cpu f n a b x call.WdfRequestCancelSentRequest is = refl
does_nothing plan S cpu f n a b x k is = absurd (let z : ⊥ = cc in z)

pub nothing_changes : {A : Type 0} (plan : Plan) (m : Meaning A) (run : List Event) → IsRunOf plan m run → (n : ℕ) (cpu : Cpu) (c : Call) (v : Value) → slice_get run n ≡ Some (event.Did cpu c v) → c.kind ≡ call.WdfRequestCancelSentRequest
    → ((state_after plan m (take (suc n) run)).requests ≡ (state_after plan m (take n run)).requests) × ((state_after plan m (take (suc n) run)).targets ≡ (state_after plan m (take n run)).targets)
nothing_changes {A} plan m run is_run n cpu c v at is =
    let S : State A = state_after plan m (take n run) in
    let e : Event = event.Did cpu c v in
    let next : state_after plan m (take (suc n) run) ≡ after plan m S e = ap (state_after plan m) (take_next run n e at) ∙ state_goes_on plan m (take n run) e in
    let d = did_tells plan m S cpu c v (comes plan m run n e is_run at (λ time same. let z : ⊥ = cc in z)) in
    let none = does_nothing plan S cpu.0 d.frame c.count c.a c.b c.c c.kind is in (
      ap (λ (T : State A). T.requests) next ∙ did_after (λ (T : State A). T.requests) (λ T L C. refl) plan S cpu.0 c v d ∙ ap (λ (T : State A). T.requests) none,
      ap (λ (T : State A). T.targets) next ∙ did_after (λ (T : State A). T.targets) (λ T L C. refl) plan S cpu.0 c v d ∙ ap (λ (T : State A). T.targets) none,
    )
