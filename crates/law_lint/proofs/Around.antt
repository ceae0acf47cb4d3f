-- What is known of each state of a free run beside its frames: what is held, power's queues, the ways of devices; and that nothing is
-- sent where no callback sends.
use Rattle.std.proofs.Common.{◌≡◌, ℕ, zero, suc, Bool, true, false, not, ◌||◌, List, [], ◌∷◌, Option, Some, None, slice_get, refl, sym, ap, subst, ◌∙◌}
use Rattle.std.specs.List.{list_any}
use Rattle.wdf_base.specs.Meaning.{Meaning}
use Rattle.wdf_base.specs.Plan.{script_statements}
use Rattle.wdf_base.specs.Resolved.{IsResolved}
use Rattle.wdf_base.specs.Same.{same_call_kind}
use Rattle.wdf_base.specs.declared.call.Call.{Call}
use Rattle.wdf_base.specs.declared.call.CallKind.TheVariants as call
use Rattle.wdf_base.specs.declared.event.Event.{Event}
use Rattle.wdf_base.specs.declared.event.Event.TheVariants as event
use Rattle.wdf_base.specs.declared.frame.Frame.{Frame}
use Rattle.wdf_base.specs.declared.frame.Intent.TheVariants as intent
use Rattle.wdf_base.specs.declared.plan.Plan.{Plan}
use Rattle.wdf_base.specs.declared.script.Act.{Act}
use Rattle.wdf_base.specs.declared.script.Script.{Script}
use Rattle.wdf_base.specs.declared.script.Statement.{Statement}
use Rattle.wdf_model.specs.parts.Cpus.{frame_of}
use Rattle.wdf_model.specs.parts.Power.{opening_power}
use Rattle.wdf_model.specs.State.{State, opening}
use Rattle.wdf_model.specs.declared.deed.Deed.{Deed}
use Rattle.wdf_model.specs.declared.deed.Deed.TheVariants.{SendRequest}
use Rattle.wdf_model.specs.rules.Deeds.{do_deeds}
use Rattle.wdf_model.specs.rules.Script.{intent_of, statement_at}
use Rattle.wdf_model.specs.rules.Steps.{after, deeds, may}
use Rattle.wdf_model.proofs.Runs.{run_opens}
use Rattle.wdf_model.specs.rules.Ready.{ready}
use Rattle.law_machine_base.specs.Fits.{all_fit}
use Rattle.law_machine_base.proofs.FitsOfEvents.{event_fits}
use Rattle.law_machine_base.proofs.OwnEvents.{IsDid, IsWaiting, did_tells, waiting_tells}
use Rattle.law_machine_deeds.specs.MayDo.{calls, may_do}
use Rattle.law_machine_deeds.proofs.Passing.{event_passes}
use Rattle.law_machine_counts.proofs.HeldByDeeds.{deeds_hold}
use Rattle.law_machine_counts.proofs.HeldOverRuns.{holds_at_each}
use Rattle.law_machine_counts.proofs.Holding.{HoldsIn}
use Rattle.law_machine_counts.proofs.PowerQueues.{deeds_queues}
use Rattle.law_free_runs.proofs.FreeStates.{FreeState}
use Rattle.law_free_runs.proofs.Places.{first_state}
use Rattle.law_free_stops.proofs.Stops.{FreeStops, event_stops, opening_stops, tick_stops}
use Rattle.wdf_lint.specs.Abstracts.{is_send, plan_sends}
use Rattle.law_lint.proofs.Faults.{Calls}
use Rattle.law_lint.proofs.Faults as faults
use Rattle.law_lint.proofs.Unsent.{NoneSent, deeds_none, is_sending, none_opens}
use Rattle.std.proofs.Math.Bool.{or-true}

-- ---- a call is of a statement of the plan

any_at : {T : Type 0} (p : T → Bool) (xs : List T) (k : ℕ) (x : T) → slice_get xs k ≡ Some x → p x ≡ true → list_any p xs ≡ true
any_at p [] k x h is = absurd (let z : ⊥ = cc in z)
any_at p (y ∷ ys) zero x h is = let same : y ≡ x = cc in ap (λ b. b || list_any p ys) (ap p same ∙ is)
any_at p (y ∷ ys) (suc k) x h is = ap (λ b. p y || b) (any_at p ys k x h is) ∙ or-true (p y)

-- the statement of a frame is in its plan
pub in_plan : (p : Act → Bool) (plan : Plan) (f : Frame) (s : Statement) → statement_at plan f ≡ Some s → p s.act ≡ true → list_any (λ (t : Script). list_any (λ (x : Statement). p x.act) t.statements) plan.scripts ≡ true
in_plan p plan f s at is = by (slice_get plan.scripts f.script) refl at
  where
    by : (o : Option Script) → slice_get plan.scripts f.script ≡ o → slice_get (script_statements o) f.at ≡ Some s → list_any (λ (t : Script). list_any (λ (x : Statement). p x.act) t.statements) plan.scripts ≡ true
    by None e h = absurd (let z : ⊥ = cc in z)
    by (Some t) e h = any_at (λ (u : Script). list_any (λ (x : Statement). p x.act) u.statements) plan.scripts f.script t e (any_at (λ (x : Statement). p x.act) t.statements f.at s h is)

never_sends : (plan : Plan) (f : Frame) (c : Call) → plan_sends plan ≡ false → intent_of plan f ≡ intent.Do c → same_call_kind c.kind call.WdfRequestSend ≡ true → ⊥
never_sends plan f c none does is =
    let s : Calls plan f (statement_at plan f) c = faults.calls plan f c does in
    let kind : c.kind ≡ s.kind = ap (λ (d : Call). d.kind) s.call in
    let sends : plan_sends plan ≡ true = in_plan is_send plan f _ s.statement (ap (λ k. same_call_kind k call.WdfRequestSend) (sym kind) ∙ is) in
    let z : ⊥ = cc in z

no_send : {A : Type 0} (plan : Plan) (m : Meaning A) (S : State A) (e : Event) → plan_sends plan ≡ false → may plan m S e ≡ true → calls call.WdfRequestSend e ≡ true → ⊥
no_send plan m S (event.Did k c v) none h is = let d : IsDid plan S k.0 c v = did_tells plan m S k c v h in never_sends plan (frame_of S.cpus d.frame) c none d.about.about is
no_send plan m S (event.Waiting k c) none h is = let d : IsWaiting plan S k.0 c = waiting_tells plan m S k c h in never_sends plan (frame_of S.cpus d.frame) c none d.about.about is
no_send plan m S _ none h is = let z : ⊥ = cc in z

unsending : {A : Type 0} (plan : Plan) (m : Meaning A) (S : State A) (e : Event) → plan_sends plan ≡ false → may plan m S e ≡ true → (d : Deed) → may_do e d ≡ true → not (is_sending d) ≡ true
unsending plan m S e none h (SendRequest r t forget) may_come = absurd (no_send plan m S e none h may_come)
unsending plan m S e none h _ may_come = refl

-- ---- all of it

pub record Around {A : Type 0} (plan : Plan) (S : State A) : Type 0 where
  pub holds : HoldsIn plan S
  pub queues : S.power.queues ≡ (opening_power plan).queues
  pub stops : IsResolved plan → FreeStops plan S
  pub unsent : plan_sends plan ≡ false → NoneSent S.targets

pub around_opening : {A : Type 0} (plan : Plan) (m : Meaning A) → FreeState plan (opening plan m) → Around plan (opening plan m)
around_opening {A} plan m free = record {
  holds = subst (λ (S : State A). HoldsIn plan S) (first_state plan m) (holds_at_each plan m [] (run_opens (ready plan m)) 0);
  queues = refl;
  stops = λ resolved. opening_stops plan m resolved free;
  unsent = λ none. none_opens plan;
}

pub around_event : {A : Type 0} (plan : Plan) (m : Meaning A) (S : State A) (e : Event) → may plan m S e ≡ true → FreeState plan S → Around plan S → Around plan (after plan m S e)
around_event {A} plan m S e h free k =
    let U : State A = do_deeds plan (deeds plan S e) S in
    let fit : all_fit plan (deeds plan S e) S ≡ true = event_fits plan m S e h in
    let holds : HoldsIn plan U = deeds_hold plan (deeds plan S e) S fit free.places k.holds in
    record {
      holds = holds;
      queues = deeds_queues plan (deeds plan S e) S ∙ k.queues;
      stops = λ resolved. event_stops plan m S e resolved h free (k.stops resolved);
      unsent = λ none. deeds_none plan (deeds plan S e) S fit free.places (event_passes (λ d. not (is_sending d)) plan S e (unsending plan m S e none h)) (k.unsent none);
    }

pub around_tick : {A : Type 0} (plan : Plan) (m : Meaning A) (S : State A) (time : ℕ) → Around plan S → Around plan (after plan m S (event.Tick time))
around_tick plan m S time k = record {
  holds = k.holds;
  queues = k.queues;
  stops = λ resolved. tick_stops plan m S time (k.stops resolved);
  unsent = k.unsent;
}
