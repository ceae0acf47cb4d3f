-- Which events mark, cancel or complete a request, or let one enter a queue: no other event has such a deed.
use Rattle.std.proofs.Common.{◌≡◌, ℕ, Bool, true, false, not, ◌||◌, List, refl, subst}
use Rattle.std.specs.List.{list_all}
use Rattle.wdf_base.specs.declared.plan.Plan.{Plan}
use Rattle.wdf_base.specs.declared.call.Arg.{Arg}
use Rattle.wdf_base.specs.declared.call.CallKind.{CallKind}
use Rattle.wdf_base.specs.declared.call.CallKind.TheVariants as call
use Rattle.wdf_base.specs.declared.event.Event.{Event}
use Rattle.wdf_base.specs.Posts.{is_request}
use Rattle.wdf_model.specs.State.{State}
use Rattle.wdf_model.specs.declared.deed.Deed.{Deed}
use Rattle.wdf_model.specs.declared.deed.Deed.TheVariants.{Arrive, CancelRequest, CompleteRequest, Forward, MarkRequest, Requeue}
use Rattle.wdf_model.specs.rules.Calls.{outcome}
use Rattle.wdf_model.specs.rules.Steps.{deeds}
use Rattle.wdf_model.proofs.Tests.{either_false}
use Rattle.law_machine_deeds.specs.MayDo.{calls, first_part, gives_to_head, is_cancel, is_completion, may_do, posts}
use Rattle.law_machine_deeds.proofs.Passing.{calls_among, event_passes, first_among, first_of, outcome_passes, posts_among}

-- a deed that makes a request cancelable, cancels or completes one, or lets one enter a queue at its tail or head
abbrev pub is_loud : Deed → Bool
is_loud (MarkRequest r) = true
is_loud (CancelRequest r) = true
is_loud (CompleteRequest r) = true
is_loud (Arrive device info p) = true
is_loud (Requeue r q) = true
is_loud (Forward r q) = true
is_loud _ = false

abbrev pub none_loud : List Deed → Bool
none_loud ds = list_all (λ d. not (is_loud d)) ds

-- a call that marks or completes its request, or gives it back to a queue
abbrev pub is_loud_call : CallKind → Bool
is_loud_call call.WdfRequestComplete = true
is_loud_call call.WdfRequestMarkCancelableEx = true
is_loud_call call.WdfRequestRequeue = true
is_loud_call call.WdfRequestForwardToIoQueue = true
is_loud_call call.WdfRequestStopAcknowledge = true
is_loud_call _ = false

-- such an event
abbrev pub is_loud_event : Event → Bool
is_loud_event e = (is_completion e || posts (λ p. true) e) || first_part is_loud_call e

head_loud : (k : CallKind) → gives_to_head k ≡ true → is_loud_call k ≡ true
head_loud call.WdfRequestRequeue h = refl
head_loud call.WdfRequestStopAcknowledge h = refl
head_loud _ h = absurd (let z : ⊥ = cc in z)

module _ (e : Event) (h : is_loud_event e ≡ false) where
  no_call : first_part is_loud_call e ≡ true → ⊥
  no_call k = let off = either_false (is_completion e || posts (λ p. true) e) (first_part is_loud_call e) h in let z : ⊥ = cc in z

  others : (is_completion e ≡ false) × (posts (λ p. true) e ≡ false)
  others = either_false (is_completion e) (posts (λ p. true) e) (either_false (is_completion e || posts (λ p. true) e) (first_part is_loud_call e) h).0

  no_post : posts (λ p. true) e ≡ true → ⊥
  no_post k = let off = others.1 in let z : ⊥ = cc in z

  quiet : (d : Deed) → may_do e d ≡ true → not (is_loud d) ≡ true
  quiet (MarkRequest r) k = absurd (no_call (calls_among call.WdfRequestMarkCancelableEx is_loud_call e refl k))
  quiet (CancelRequest r) k = absurd (no_post (posts_among is_cancel (λ p. true) e (λ p is. refl) k))
  quiet (CompleteRequest r) k = absurd (no_call (calls_among call.WdfRequestComplete is_loud_call e refl (subst (λ b. (b || calls call.WdfRequestComplete e) ≡ true) others.0 k)))
  quiet (Arrive device info p) k = absurd (no_post (posts_among is_request (λ p. true) e (λ p is. refl) k))
  quiet (Requeue r q) k = absurd (no_call (first_among gives_to_head is_loud_call e head_loud k))
  quiet (Forward r q) k = absurd (no_call (calls_among call.WdfRequestForwardToIoQueue is_loud_call e refl k))
  quiet _ k = refl

pub outcome_none : {A : Type 0} (plan : Plan) (S : State A) (cpu f : ℕ) (k : CallKind) (n : ℕ) (a b x : Arg) → is_loud_call k ≡ false → none_loud (outcome plan S cpu f (record { kind = k; count = n; a = a; b = b; c = x })).deeds ≡ true
outcome_none plan S cpu f k n a b x h = outcome_passes (λ d. not (is_loud d)) plan S cpu f (record { kind = k; count = n; a = a; b = b; c = x }) (λ d may plain. quiet (first_of (record { kind = k; count = n; a = a; b = b; c = x })) h d may)

pub event_none : {A : Type 0} (plan : Plan) (S : State A) (e : Event) → is_loud_event e ≡ false → none_loud (deeds plan S e) ≡ true
event_none plan S e h = event_passes (λ d. not (is_loud d)) plan S e (quiet e h)
