-- Where power notes of a held request that it is acknowledged, the events say so: an acknowledgement came, no giving up of
-- the request since, and no coming up of its device's queues since.
use Rattle.std.proofs.Common.{if◌then◌else◌, ◌≡◌, ℕ, ◌==◌, nat_lt, Bool, true, false, not, ◌&&◌, ◌||◌, List, [], ◌∷◌, ◌++◌, ◌⊎◌, inl, inr, Option, Some, None, length, slice_get, take, refl, sym, ap, subst, ◌∙◌}
use Rattle.std.proofs.lemmas.Bool.{cases_Bool, eqb-true}
use Rattle.wdf_base.specs.Meaning.{Meaning}
use Rattle.wdf_base.specs.declared.ids.Handle.{Handle}
use Rattle.wdf_base.specs.declared.plan.Plan.{Plan}
use Rattle.wdf_base.specs.declared.value.Value.{Value}
use Rattle.wdf_base.specs.declared.call.Arg.{Arg}
use Rattle.wdf_base.specs.declared.call.CallKind.{CallKind}
use Rattle.wdf_base.specs.declared.call.CallKind.TheVariants as call
use Rattle.wdf_base.specs.declared.event.Event.{Event}
use Rattle.wdf_base.specs.declared.event.Event.TheVariants as event
use Rattle.wdf_base.specs.declared.event.Stage.TheVariants as stage
use Rattle.wdf_base.specs.Same.{same_call_kind}
use Rattle.wdf_model.specs.declared.entries.Holding.{Holding}
use Rattle.wdf_model.specs.Plans.{is_managed, queue_of}
use Rattle.wdf_model.specs.parts.Power.{Power, acknowledged, holding_of, is_held, is_held_at, no_holding, opening_power, queue_power, with_up, woken}
use Rattle.wdf_model.specs.State.{State}
use Rattle.wdf_model.specs.rules.Ready.{IsRunOf, ready, state_after}
use Rattle.wdf_model.specs.rules.Steps.{after, may}
use Rattle.law_machine_base.specs.FactsOfEvents.{IsTick}
use Rattle.law_machine_base.specs.Agreement.{managed_origin}
use Rattle.wdf_model.proofs.Runs.{along_run}
use Rattle.law_machine_base.proofs.Follows.{follows, state_goes_on}
use Rattle.law_machine_base.proofs.LawsOverRuns.{history_now}
use Rattle.wdf_model.proofs.Maps.{entry_map}
use Rattle.wdf_model.proofs.Counts.{equal}
use Rattle.wdf_model.proofs.Tests.{both, both_left, both_right, first}
use Rattle.law_machine_counts.proofs.Holding.{HoldsIn, holder}
use Rattle.wdf_laws.specs.declared.sign.Sign.{Sign}
use Rattle.wdf_laws.specs.declared.sign.Sign.TheVariants as sign
use Rattle.wdf_laws.specs.Events.{argument_object, is_giving_up, is_id, pair_of, value_object, where_so}
use Rattle.wdf_laws.specs.Laws.{is_managed_of}
use Rattle.wdf_laws.specs.Signs.{is_taking_of, shows}
use Rattle.wdf_laws.specs.Words.{stands}
use Rattle.law_trace_requests.proofs.Cancels.{stands_next}
use Rattle.law_machine_lives.proofs.ReasonsOfCalls.{call_of}
use Rattle.law_trace_held.proofs.Holdings.{noted}
use Rattle.law_trace_held.proofs.HeldAsTold.{HeldAsTold, is_taken}
use Rattle.law_trace_held.proofs.HoldingsOverRuns.{either_held, held_opens, holds_now}
use Rattle.law_trace_held.proofs.Settled.{held_there, noted_at, noted_is, settles_acknowledged_at_each}
use Rattle.law_trace_held.proofs.StillAcked.{AckStep, either_acks, is_acked}
use Rattle.law_machine_counts.proofs.PowerQueues.{queues_at_each}
use Rattle.law_machine_lives.proofs.Keeping.{at_the_end}

-- ---- words

pub record Since (plan : Plan) (es : List Event) (q x : ℕ) : Type 0 where
  pub given : stands (sign.Acknowledgement x) (sign.GivingUp x) es ≡ true
  pub up : (d : ℕ) → is_managed_of d (queue_of plan q) ≡ true → stands (sign.Acknowledgement x) (sign.QueuesUp d) es ≡ true

abbrev pub AckedAsTold : Plan → List Event → Power → Type 0
AckedAsTold plan es P = (x : ℕ) → is_acked (holding_of P x) ≡ true → Since plan es (noted P x) x

comes_now : (p g : Sign) (es : List Event) (e : Event) → shows p e ≡ true → stands p g (es ++ e ∷ []) ≡ true
comes_now p g es e h = stands_next p g es e ∙ first (shows p e) (stands p g es && not (shows g e)) h

stays_on : (p g : Sign) (es : List Event) (e : Event) → shows g e ≡ false → stands p g es ≡ true → stands p g (es ++ e ∷ []) ≡ true
stays_on p g es e off h = stands_next p g es e ∙ by_tests (shows p e) (stands p g es) (shows g e) h off
  where
    by_tests : (a s b : Bool) → s ≡ true → b ≡ false → (a || (s && not b)) ≡ true
    by_tests true s b h k = refl
    by_tests false true false h k = refl
    by_tests false false b h k = absurd (let z : ⊥ = cc in z)
    by_tests false true true h k = absurd (let z : ⊥ = cc in z)

-- ---- no event takes a request and gives it up

retrieves_only : (k : CallKind) (n : ℕ) (a b x : Arg) (v : Value) → same_call_kind k call.WdfIoQueueRetrieveNextRequest ≡ true → is_giving_up (call_of k n a b x) v ≡ false
retrieves_only call.WdfRequestComplete n a b x v h = absurd (let z : ⊥ = cc in z)
retrieves_only call.WdfRequestRequeue n a b x v h = absurd (let z : ⊥ = cc in z)
retrieves_only call.WdfRequestForwardToIoQueue n a b x v h = absurd (let z : ⊥ = cc in z)
retrieves_only call.WdfRequestStopAcknowledge n a b x v h = absurd (let z : ⊥ = cc in z)
retrieves_only call.WdfRequestSend n a b x v h = absurd (let z : ⊥ = cc in z)
retrieves_only _ n a b x v h = refl

call_takes : (r q : ℕ) (b : Bool) (x y : Option ℕ) → is_taking_of r q (pair_of (where_so b x) y) ≡ true → b ≡ true
call_takes r q true x y h = refl
call_takes r q false x y h = absurd (let z : ⊥ = cc in z)

not_both : (e : Event) (r q : ℕ) → shows (sign.TakingFrom r q) e ≡ true → shows (sign.GivingUp r) e ≡ true → ⊥
not_both (event.Did cpu c v) r q t g =
    let kind_is : same_call_kind c.kind call.WdfIoQueueRetrieveNextRequest ≡ true = call_takes r q (same_call_kind c.kind call.WdfIoQueueRetrieveNextRequest) (value_object v) (argument_object c.a) t in
    let off : is_giving_up c v ≡ false = retrieves_only c.kind c.count c.a c.b c.c v kind_is in
    let z : false ≡ true = sym (ap (λ u. is_id r (where_so u (argument_object c.a))) off) ∙ g in
    let y : ⊥ = cc in y
not_both (event.Start cpu c o x) r q t g = let z : ⊥ = cc in z
not_both (event.Complete x s) r q t g = let z : ⊥ = cc in z
not_both e r q t g = let z : ⊥ = cc in z

-- what is held before and after an event isn't given up by it
not_given : (es : List Event) (e : Event) (r q : ℕ) → is_taken r q (es ++ e ∷ []) ≡ true → shows (sign.GivingUp r) e ≡ false
not_given es e r q held = elim (cases_Bool (shows (sign.GivingUp r) e)) [
  | inr off ↦ off
  | inl g ↦ absurd (not_both e r q (by_tests (shows (sign.TakingFrom r q) e) (is_taken r q es) (shows (sign.GivingUp r) e) g (sym (stands_next (sign.TakingFrom r q) (sign.GivingUp r) es e) ∙ held)) g)
]
  where
    by_tests : (a s b : Bool) → b ≡ true → (a || (s && not b)) ≡ true → a ≡ true
    by_tests true s b h k = refl
    by_tests false true true h k = absurd (let z : ⊥ = cc in z)
    by_tests false false true h k = absurd (let z : ⊥ = cc in z)
    by_tests false s false h k = absurd (let z : ⊥ = cc in z)

-- a noted queue is power-managed
pub managed_note : (plan : Plan) (o : Option ℕ) → nat_lt 0 (managed_origin plan o) ≡ true → is_managed plan (managed_origin plan o) ≡ true
managed_note plan None h = absurd (let z : ⊥ = cc in z)
managed_note plan (Some p) h = by_managed (is_managed plan p) refl h
  where
    by_managed : (b : Bool) → is_managed plan p ≡ b → nat_lt 0 (if b then p else 0) ≡ true → is_managed plan (if b then p else 0) ≡ true
    by_managed true e h = e
    by_managed false e h = absurd (let z : ⊥ = cc in z)

-- ---- one event

module _ {A : Type 0} (plan : Plan) (m : Meaning A) (es : List Event) (S : State A) (e : Event) where
  abbrev U : State A
  U = after plan m S e

  woken_off : (d x : ℕ) → is_held_at S.power d (holding_of S.power x) ≡ true → is_acked (woken (with_up S.power d true) d (holding_of S.power x)) ≡ true → ⊥
  woken_off d x held t = let v : (is_held (holding_of S.power x) && false) ≡ true = rw held at t in let z : false ≡ true = both_right (is_held (holding_of S.power x)) false v in let y : ⊥ = cc in y

  -- a request that is held of a device whose queues come up isn't acknowledged any more
  up_clears : (f : Event) (d x : ℕ) → shows (sign.QueuesUp d) f ≡ true → is_held_at S.power d (holding_of S.power x) ≡ true → is_acked (holding_of (after plan m S f).power x) ≡ true → ⊥
  up_clears (event.Stage device stage.QueuesUp j) d x told held t =
      let at : device.id.0 ≡ d = eqb-true device.id.0 d told in
      let here : is_held_at S.power device.id.0 (holding_of S.power x) ≡ true = subst (λ i. is_held_at S.power i (holding_of S.power x) ≡ true) (sym at) held in
      let now_ : holding_of (after plan m S (event.Stage device stage.QueuesUp j)).power x ≡ woken (with_up S.power device.id.0 true) device.id.0 (holding_of S.power x) = entry_map no_holding S.power.holdings (woken (with_up S.power device.id.0 true) device.id.0) x refl in
      woken_off device.id.0 x here (subst (λ (h : Holding). is_acked h ≡ true) now_ t)
  up_clears (event.Stage device stage.Hardware j) d x told held t = let z : ⊥ = cc in z
  up_clears (event.Stage device _ j) d x told held t = let z : ⊥ = cc in z
  up_clears f d x told held t = let z : ⊥ = cc in z

  module _ (same : S.power.queues ≡ (opening_power plan).queues) (hold : HoldsIn plan S) (told : AckedAsTold plan es S.power) (next : HeldAsTold plan (es ++ e ∷ []) U.power) where
    still_since : (x : ℕ) → is_acked (holding_of U.power x) ≡ true → is_acked (holding_of S.power x) ≡ true → noted U.power x ≡ noted S.power x → Since plan (es ++ e ∷ []) (noted U.power x) x
    still_since x t before_ at =
        let q : ℕ = noted S.power x in
        let old : Since plan es q x = told x before_ in
        let some_ : nat_lt 0 q ≡ true = both_left (is_held (holding_of S.power x)) (acknowledged S.power x) before_ in
        let note : q ≡ managed_origin plan (holder S.requests S.targets x) = hold.holdings x in
        let managed : is_managed plan q ≡ true = subst (λ i. is_managed plan i ≡ true) (sym note) (managed_note plan (holder S.requests S.targets x) (subst (λ i. nat_lt 0 i ≡ true) note some_)) in
        let taken_ : is_taken x q (es ++ e ∷ []) ≡ true = next x q managed ∙ equal (noted U.power x) q at in
        subst (λ i. Since plan (es ++ e ∷ []) i x) (sym at) (record {
          given = stays_on (sign.Acknowledgement x) (sign.GivingUp x) es e (not_given es e x q taken_) old.given;
          up = λ d of. elim (cases_Bool (shows (sign.QueuesUp d) e)) [
            | inl y ↦ absurd (up_clears e d x y (held_there plan S.power d x q same refl of) t)
            | inr n ↦ stays_on (sign.Acknowledgement x) (sign.QueuesUp d) es e n (old.up d of)
          ];
        })

    acked_next : AckStep e S.power U.power → AckedAsTold plan (es ++ e ∷ []) U.power
    acked_next step x t = elim (step x t) [
      | inl y ↦ still_since x t y.0 y.1
      | inr y ↦ record {
        given = comes_now (sign.Acknowledgement x) (sign.GivingUp x) es e y;
        up = λ d of. comes_now (sign.Acknowledgement x) (sign.QueuesUp d) es e y;
      }
    ]

-- ---- each place of a run

pub record AsTold (plan : Plan) (es : List Event) (P : Power) : Type 0 where
  pub held : HeldAsTold plan es P
  pub acked : AckedAsTold plan es P

opens : {A : Type 0} (plan : Plan) (m : Meaning A) → AckedAsTold plan [] (state_after plan m []).power
unfolding state_after
opens plan m x t = absurd (let z : ⊥ = cc in z)

queues_now : {A : Type 0} (plan : Plan) (m : Meaning A) (run : List Event) → IsRunOf plan m run → (state_after plan m run).power.queues ≡ (opening_power plan).queues
queues_now {A} plan m run is_run = at_the_end plan m (λ (S : State A). S.power.queues ≡ (opening_power plan).queues) run (queues_at_each plan m run is_run (length run))

next_told : {A : Type 0} (plan : Plan) (m : Meaning A) (before : List Event) (e : Event) (offered : List Event) → IsRunOf plan m before → (may plan m (state_after plan m before) e ≡ true) ⊎ IsTick m (state_after plan m before) offered e
    → AsTold plan before (state_after plan m before).power → AsTold plan (before ++ e ∷ []) (after plan m (state_after plan m before) e).power
next_told {A} plan m before e offered so_far comes_ told =
    let S : State A = state_after plan m before in
    let next : HeldAsTold plan (before ++ e ∷ []) (after plan m S e).power = either_held plan m before S (history_now plan m before so_far).kept (holds_now plan m before so_far) told.held offered e comes_ in
    record { held = next; acked = acked_next plan m before S e (queues_now plan m before so_far) (holds_now plan m before so_far) told.acked next (either_acks plan m S offered e comes_) }

pub as_told_at_each : {A : Type 0} (plan : Plan) (m : Meaning A) (run : List Event) → IsRunOf plan m run → (n : ℕ) → AsTold plan (take n run) (state_after plan m (take n run)).power
as_told_at_each {A} plan m run is_run n = along_run (λ es. AsTold plan es (state_after plan m es).power) (ready plan m) run (record { held = held_opens plan m; acked = opens plan m })
    (λ before e place so_far told at. subst (λ (T : State A). AsTold plan (before ++ e ∷ []) T.power) (sym (state_goes_on plan m before e))
    (next_told plan m before e (ready plan m before) so_far (follows plan m before place e at) told))
    is_run n

-- ---- the law

pub settles_after_at_each : {A : Type 0} (plan : Plan) (m : Meaning A) (run : List Event) (k : ℕ) (device : Handle) (j : Option Handle) (r q : ℕ) → IsRunOf plan m run
    → slice_get run k ≡ Some (event.Stage device stage.Settled j) → is_managed_of device.id.0 (queue_of plan q) ≡ true → stands (sign.TakingFrom r q) (sign.GivingUp r) (take k run) ≡ true
    → (stands (sign.Acknowledgement r) (sign.GivingUp r) (take k run) && stands (sign.Acknowledgement r) (sign.QueuesUp device.id.0) (take k run)) ≡ true
settles_after_at_each {A} plan m run k device j r q is_run at of held =
    let S : State A = state_after plan m (take k run) in
    let d : ℕ = device.id.0 in
    let there : is_held_at S.power d (holding_of S.power r) ≡ true = noted_at plan m run is_run k r q d of held in
    let note : noted S.power r ≡ q = noted_is plan m run is_run k r q d of held in
    let flag_ : acknowledged S.power r ≡ true = settles_acknowledged_at_each plan m run k device j r q is_run at of held in
    let acked_ : is_acked (holding_of S.power r) ≡ true = both (is_held (holding_of S.power r)) (acknowledged S.power r) (both_left (is_held (holding_of S.power r)) ((queue_power S.power (holding_of S.power r).queue.0).device.0 == d) there) flag_ in
    let since : Since plan (take k run) (noted S.power r) r = (as_told_at_each plan m run is_run k).acked r acked_ in
    both (stands (sign.Acknowledgement r) (sign.GivingUp r) (take k run)) (stands (sign.Acknowledgement r) (sign.QueuesUp d) (take k run)) since.given
    (since.up d (subst (λ i. is_managed_of d (queue_of plan i) ≡ true) (sym note) of))
