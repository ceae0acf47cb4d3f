-- What the policy keeps as pending stays what the words say, whatever event comes.
use Rattle.std.proofs.Common.{if◌then◌else◌, ◌≡◌, ℕ, ◌==◌, Bool, true, false, nat_lt, List, Option, Some, None, refl, ap, ◌∙◌}
use Rattle.std.proofs.Math.Bool.{and-false}
use Rattle.wdf_base.specs.declared.ids.Cpu.{Cpu}
use Rattle.wdf_base.specs.declared.ids.Handle.{Handle}
use Rattle.wdf_base.specs.declared.value.Value.{Value}
use Rattle.wdf_base.specs.declared.call.Call.{Call}
use Rattle.wdf_base.specs.declared.call.CallKind.{CallKind}
use Rattle.wdf_base.specs.declared.call.CallKind.TheVariants as call
use Rattle.wdf_base.specs.declared.event.Event.{Event}
use Rattle.wdf_base.specs.declared.event.Event.TheVariants as event
use Rattle.wdf_base.specs.declared.event.Post.{Post}
use Rattle.wdf_base.specs.declared.event.Post.TheVariants as post
use Rattle.wdf_base.specs.Same.{same_call_kind}
use Rattle.wdf_model.specs.State.{object_in}
use Rattle.wdf_model.specs.rules.Posts.{ARRIVALS}
use Rattle.wdf_model.specs.agents.IdlePolicy.{IdleDevice, arrives_for, count_of, pending_after, pending_after_call, with_arrival, with_completion}
use Rattle.wdf_laws.specs.declared.sign.Sign.TheVariants as sign
use Rattle.wdf_laws.specs.Events.{argument_object, arrived, arrived_at, is_id, where_so}
use Rattle.wdf_laws.specs.Signs.{shows}
use Rattle.wdf_laws.specs.Words.{ever}
use Rattle.wdf_model.specs.Tables.{put}
use Rattle.law_idle.proofs.Pending.{More, Pending, completes, keeps, quiet}

-- what is known of a request that arrives
pub record IsNew (es : List Event) (x : IdleDevice) (r : Handle) : Type 0 where
  pub fresh : ever (sign.Completion r.id.0) es ≡ false
  pub room : nat_lt r.id.0 x.room ≡ true
  pub few : nat_lt (count_of x.pending) ARRIVALS ≡ true

-- how many requests an event brings
abbrev pub brought_by : Post → ℕ
brought_by (post.Read device n) = 1
brought_by (post.Write device n) = 1
brought_by (post.Control device code n) = 1
brought_by _ = 0

abbrev pub brought : Event → ℕ
brought (event.Posted agent p (Some r)) = brought_by p
brought _ = 0

-- what is known of an event
pub record IsKnown (es : List Event) (x : IdleDevice) (e : Event) : Type 0 where
  pub arrival : (agent : ℕ) (p : Post) (r : Handle) (d : ℕ) → e ≡ event.Posted agent p (Some r) → arrives_for p ≡ Some d → IsNew es x r
  pub names : (cpu : Cpu) (c : Call) (v : Value) → e ≡ event.Did cpu c v → same_call_kind c.kind call.WdfRequestComplete ≡ true → argument_object c.a ≡ Some (object_in c.a)

no_completion : (k : CallKind) → same_call_kind k call.WdfRequestComplete ≡ false → (c : Call) → c.kind ≡ k → (pending : List Bool) → pending_after_call pending c ≡ pending
no_completion call.WdfRequestComplete h c e pending = absurd (let z : ⊥ = cc in z)
no_completion _ h c e pending = rw e refl

a_completion : (k : CallKind) → same_call_kind k call.WdfRequestComplete ≡ true → (c : Call) → c.kind ≡ k → (pending : List Bool) → pending_after_call pending c ≡ with_completion pending (object_in c.a)
a_completion call.WdfRequestComplete h c e pending = rw e refl
a_completion _ h c e pending = absurd (let z : ⊥ = cc in z)

module _ (es : List Event) (x : IdleDevice) (k : Pending es x) where
  abbrev d : ℕ
  d = x.device.id.0

  arrives_by : (e : Event) (dev : ℕ) (r : Handle) (b : Bool) → (dev == d) ≡ b → pending_after x e ≡ (if dev == d then with_arrival x r.id.0 else x.pending) → arrived_at e ≡ Some dev → arrived e ≡ Some r.id.0
      → ((o : ℕ) → shows (sign.Completion o) e ≡ false) → IsNew es x r → More es e x 1
  arrives_by e dev r true is same at who off new =
      let put_ : pending_after x e ≡ put false x.pending r.id.0 true = same ∙ rw (is, new.room, new.few) refl in
      keeps es x k e r.id.0 put_ (λ o. rw (at, who, is) refl) off new.fresh
  arrives_by e dev r false is same at who off new = quiet es x k e 1 (same ∙ rw is refl) (λ o. rw (at, is) refl) off

  posts : (agent : ℕ) (p : Post) (answer : Option Handle) → IsKnown es x (event.Posted agent p answer) → More es (event.Posted agent p answer) x (brought (event.Posted agent p answer))
  posts agent (post.Read device n) (Some r) i = arrives_by (event.Posted agent (post.Read device n) (Some r)) device.id.0 r (device.id.0 == d) refl refl refl refl (λ o. refl) (i.arrival agent (post.Read device n) r device.id.0 refl refl)
  posts agent (post.Write device n) (Some r) i = arrives_by (event.Posted agent (post.Write device n) (Some r)) device.id.0 r (device.id.0 == d) refl refl refl refl (λ o. refl) (i.arrival agent (post.Write device n) r device.id.0 refl refl)
  posts agent (post.Control device code n) (Some r) i = arrives_by (event.Posted agent (post.Control device code n) (Some r)) device.id.0 r (device.id.0 == d) refl refl refl refl (λ o. refl) (i.arrival agent (post.Control device code n) r device.id.0 refl refl)
  posts agent (post.Read device n) None i = quiet es x k (event.Posted agent (post.Read device n) None) 0 refl (λ o. and-false (device.id.0 == d)) (λ o. refl)
  posts agent (post.Write device n) None i = quiet es x k (event.Posted agent (post.Write device n) None) 0 refl (λ o. and-false (device.id.0 == d)) (λ o. refl)
  posts agent (post.Control device code n) None i = quiet es x k (event.Posted agent (post.Control device code n) None) 0 refl (λ o. and-false (device.id.0 == d)) (λ o. refl)
  posts agent (post.Cancel q) (Some r) i = quiet es x k (event.Posted agent (post.Cancel q) (Some r)) 0 refl (λ o. refl) (λ o. refl)
  posts agent (post.Ask a n) (Some r) i = quiet es x k (event.Posted agent (post.Ask a n) (Some r)) 0 refl (λ o. refl) (λ o. refl)
  posts agent (post.Act a) (Some r) i = quiet es x k (event.Posted agent (post.Act a) (Some r)) 0 refl (λ o. refl) (λ o. refl)
  posts agent (post.Done q s) (Some r) i = quiet es x k (event.Posted agent (post.Done q s) (Some r)) 0 refl (λ o. refl) (λ o. refl)
  posts agent (post.Cancel q) None i = quiet es x k (event.Posted agent (post.Cancel q) None) 0 refl (λ o. refl) (λ o. refl)
  posts agent (post.Ask a n) None i = quiet es x k (event.Posted agent (post.Ask a n) None) 0 refl (λ o. refl) (λ o. refl)
  posts agent (post.Act a) None i = quiet es x k (event.Posted agent (post.Act a) None) 0 refl (λ o. refl) (λ o. refl)
  posts agent (post.Done q s) None i = quiet es x k (event.Posted agent (post.Done q s) None) 0 refl (λ o. refl) (λ o. refl)

  calls : (cpu : Cpu) (c : Call) (v : Value) (b : Bool) → same_call_kind c.kind call.WdfRequestComplete ≡ b → IsKnown es x (event.Did cpu c v) → More es (event.Did cpu c v) x 0
  calls cpu c v true is i =
      let named : argument_object c.a ≡ Some (object_in c.a) = i.names cpu c v refl is in
      completes es x k (event.Did cpu c v) (object_in c.a) 0 (a_completion c.kind is c refl x.pending) (λ o. refl) (λ o. ap (λ b. is_id o (where_so b (argument_object c.a))) is ∙ ap (is_id o) named)
  calls cpu c v false is i =
      quiet es x k (event.Did cpu c v) 0 (no_completion c.kind is c refl x.pending) (λ o. refl) (λ o. ap (λ b. is_id o (where_so b (argument_object c.a))) is)

  pub more : (e : Event) → IsKnown es x e → More es e x (brought e)
  more (event.Posted agent p answer) i = posts agent p answer i
  more (event.Did cpu c v) i = calls cpu c v (same_call_kind c.kind call.WdfRequestComplete) refl i
  more (event.Complete r s) i = completes es x k (event.Complete r s) r.id.0 0 refl (λ o. refl) (λ o. refl)
  more e i = quiet es x k e 0 refl (λ o. refl) (λ o. refl)
