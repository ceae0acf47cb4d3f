-- A request of a class is new right after the event of a run that makes it.
use Rattle.std.proofs.Common.{if◌then◌else◌, ◌≡◌, ℕ, suc, ◌+◌, Bool, true, false, not, List, [], ◌∷◌, ◌++◌, Option, Some, None, length, slice_get, take, refl, sym, ap, subst, ◌∙◌, arith, length-append}
use Rattle.wdf_base.specs.Meaning.{Meaning}
use Rattle.wdf_base.specs.declared.ids.Cpu.{Cpu}
use Rattle.wdf_base.specs.declared.plan.Plan.{Plan}
use Rattle.wdf_base.specs.declared.value.Value.{Value}
use Rattle.wdf_base.specs.declared.value.Value.TheVariants.{Obj}
use Rattle.wdf_base.specs.declared.value.Status.TheVariants as status
use Rattle.wdf_base.specs.declared.object.Kind.{Kind}
use Rattle.wdf_base.specs.declared.object.Kind.TheVariants as kind
use Rattle.wdf_base.specs.declared.object.Place.TheVariants as place
use Rattle.wdf_base.specs.declared.call.Arg.{Arg}
use Rattle.wdf_base.specs.declared.call.Arg.TheVariants.{Val, Class}
use Rattle.wdf_base.specs.declared.call.Call.{Call}
use Rattle.wdf_base.specs.declared.call.CallKind.{CallKind}
use Rattle.wdf_base.specs.declared.call.CallKind.TheVariants as call
use Rattle.wdf_base.specs.declared.event.Event.{Event}
use Rattle.wdf_base.specs.declared.event.Event.TheVariants as event
use Rattle.wdf_model.specs.declared.entries.Node.{Node}
use Rattle.wdf_model.specs.declared.entries.Request.{Request}
use Rattle.wdf_model.specs.Plans.{kind_of_class, parent_of_class}
use Rattle.wdf_model.specs.Tables.{entry}
use Rattle.wdf_model.specs.parts.Tree.{Tree, gone, is_full, nearest_device, nearest_devices, new_node, next_id, own_device}
use Rattle.wdf_model.specs.parts.Tree as tree
use Rattle.wdf_model.specs.parts.Requests.{Requests, made_info, no_request}
use Rattle.wdf_model.specs.parts.Requests as requests
use Rattle.wdf_model.specs.State.{State, object_in}
use Rattle.wdf_model.specs.rules.Calls.{Outcome, create_outcome, creation, new_handle, outcome, refused}
use Rattle.wdf_model.specs.rules.Deeds.{do_deeds}
use Rattle.wdf_model.specs.rules.Steps.{after, may}
use Rattle.wdf_model.specs.rules.Ready.{IsRunOf, state_after}
use Rattle.wdf_model.specs.parts.Tree.{life_of}
use Rattle.wdf_base.specs.Lives.{is_live}
use Rattle.wdf_model.proofs.Maps.{entry_last, entry_put_same}
use Rattle.wdf_model.proofs.Runs.{take_next}
use Rattle.wdf_laws.specs.declared.sign.Told.{Told}
use Rattle.wdf_laws.specs.Events.{argument_object, brought_to, id_in, is_there, or_none, told, told_by_call, told_of, value_object, where_so}
use Rattle.law_machine_base.proofs.Follows.{state_goes_on}
use Rattle.law_machine_base.proofs.OwnEvents.{IsDid, did_tells}
use Rattle.law_machine_lives.proofs.Keeping.{comes}
use Rattle.law_trace_requests.proofs.FirstParts.{did_after}
use Rattle.law_machine_states.specs.Making.{IsNewRequest}

-- ---- the nearest device of a new object

nearest_last : (before : List ℕ) (ns : List Node) (n : Node) → nearest_devices before (ns ++ n ∷ []) ≡ nearest_devices before ns ++ own_device (nearest_devices before ns) (length (nearest_devices before ns)) n ∷ []
nearest_last before [] n = refl
nearest_last before (x ∷ ns) n = nearest_last (before ++ own_device before (length before) x ∷ []) ns n

nearest_long : (before : List ℕ) (ns : List Node) → length (nearest_devices before ns) ≡ length before + length ns
nearest_long before [] = omega arith
nearest_long before (x ∷ ns) =
    let more = length-append before (own_device before (length before) x ∷ []) in
    let rest = nearest_long (before ++ own_device before (length before) x ∷ []) ns in
    omega arith

nearest_new : (T : Tree) (class parent : ℕ) → nearest_device (tree.create T kind.Made class parent) (next_id T) ≡ nearest_device T parent
nearest_new T class parent =
    let was : List ℕ = nearest_devices [] T.nodes in
    let long : length was ≡ length T.nodes = (let e = nearest_long [] T.nodes in omega arith) in
    ap (λ ds. entry 1 ds (length T.nodes)) (nearest_last [] T.nodes (new_node kind.Made class parent))
    ∙ sym (ap (entry 1 (was ++ nearest_device T parent ∷ [])) long)
    ∙ entry_last 1 was (nearest_device T parent)

-- ---- the call that makes it

is_new : (T : Tree) (R : Requests) (class parent : ℕ) → IsNewRequest (tree.create T kind.Made class parent) (requests.arrive R (next_id T) place.Owned (made_info (nearest_device T parent))) (next_id T)
is_new T R class parent =
    let node = entry_last gone T.nodes (new_node kind.Made class parent) in
    let here = entry_put_same no_request R.all (next_id T) (record { place = place.Owned; info = made_info (nearest_device T parent) }) in
    record {
      kind = ap (λ (n : Node). n.kind) node;
      place = ap (λ (q : Request). q.place) here;
      origin = λ i. requests.origin_of (record R { all = here i ∷ [] }) 0;
      device = ap (λ (q : Request). q.info.device.0) here ∙ sym (nearest_new T class parent);
      form = ap (λ (q : Request). q.info.form) here;
      length_0 = ap (λ (q : Request). q.info.length) here;
      code = ap (λ (q : Request). q.info.code) here;
      agent = ap (λ (q : Request). q.info.agent) here;
      arrival = ap (λ (q : Request). q.info.arrival) here;
      mark = ap (λ (q : Request). q.info.mark) here;
      fresh = ap (λ (q : Request). q.info.cancelled) here;
    }

abbrev New : {A : Type 0} → State A → ℕ → Type 0
New S r = IsNewRequest S.tree S.requests r

by_deed : {A : Type 0} (plan : Plan) (S : State A) (k : Kind) (class parent : ℕ) → k ≡ kind.Made → New (do_deeds plan (creation k class parent ∷ []) S) (next_id S.tree)
by_deed plan S k class parent e = subst (λ x. New (do_deeds plan (creation x class parent ∷ []) S) (next_id S.tree)) (sym e) (is_new S.tree S.requests class parent)

by_outcome : {A : Type 0} (plan : Plan) (S : State A) (class parent up : ℕ) (t : Told) (b c : Bool) → kind_of_class plan class ≡ kind.Made
    → told_of up (Some class) (value_object (if not b then refused status.DeletePending
    else if c then refused status.InsufficientResources
    else record { answer = Obj (new_handle plan S class); deeds = creation (kind_of_class plan class) class parent ∷ [] }).answer) ≡ Some t
    → New (do_deeds plan (if not b then refused status.DeletePending
    else if c then refused status.InsufficientResources
    else record { answer = Obj (new_handle plan S class); deeds = creation (kind_of_class plan class) class parent ∷ [] }).deeds S) t.object
by_outcome plan S class parent up t false c made h = absurd (let z : ⊥ = cc in z)
by_outcome plan S class parent up t true true made h = absurd (let z : ⊥ = cc in z)
by_outcome plan S class parent up t true false made h =
    let one : Told = record { object = next_id S.tree; parent = up; class = Some class } in
    let same : one ≡ t = cc in
    subst (λ (x : Told). New (do_deeds plan (creation (kind_of_class plan class) class parent ∷ []) S) x.object) same (by_deed plan S (kind_of_class plan class) class parent made)

-- what is told of an object has the class that the event says
class_is : (up : ℕ) (class o : Option ℕ) (t : Told) → told_of up class o ≡ Some t → t.class ≡ class
class_is up class None t h = absurd (let z : ⊥ = cc in z)
class_is up class (Some o) t h = let same : record { object = o; parent = up; class = class } ≡ t = cc in ap (λ (x : Told). x.class) (sym same)

module _ {A : Type 0} (plan : Plan) (m : Meaning A) (S : State A) (t : Told) (class : ℕ) (of : t.class ≡ Some class) (made : kind_of_class plan class ≡ kind.Made) where
  by_call : (k : Cpu) (c : Call) (v : Value) (number parent up : ℕ) → may plan m S (event.Did k c v) ≡ true → ((f : ℕ) → outcome plan S k.0 f c ≡ create_outcome plan S number parent)
      → told_of up (Some number) (value_object v) ≡ Some t → New (after plan m S (event.Did k c v)) t.object
  by_call k c v number parent up h is e =
      let d : IsDid plan S k.0 c v = did_tells plan m S k c v h in
      let o : Outcome = create_outcome plan S number parent in
      let answer : v ≡ o.answer = d.answer ∙ ap (λ (x : Outcome). x.answer) (is d.frame) in
      let both : Some number ≡ Some class = sym (class_is up (Some number) (value_object v) t e) ∙ of in
      let same : class ≡ number = cc in
      subst (λ (p : Tree × Requests). IsNewRequest p.0 p.1 t.object)
      (sym (did_after (λ (T : State A). (T.tree, T.requests)) (λ T L C. refl) plan S k.0 c v d ∙ ap (λ (x : Outcome). ((do_deeds plan x.deeds S).tree, (do_deeds plan x.deeds S).requests)) (is d.frame)))
      (by_outcome plan S number parent up t (is_live (life_of S.tree parent)) (is_full S.tree) (ap (kind_of_class plan) (sym same) ∙ made) (subst (λ w. told_of up (Some number) (value_object w) ≡ Some t) answer e))

  did_new : (k : Cpu) (kind_ : CallKind) (n : ℕ) (a b x : Arg) (v : Value) → may plan m S (event.Did k (record { kind = kind_; count = n; a = a; b = b; c = x }) v) ≡ true → told_by_call plan kind_ a b v ≡ Some t
      → New (after plan m S (event.Did k (record { kind = kind_; count = n; a = a; b = b; c = x }) v)) t.object
  did_new k kind_ n (Val w) b x v h e = absurd (let z : ⊥ = cc in z)
  did_new k call.WdfObjectCreate n (Class c) b x v h e = by_call k _ v c (object_in b) (or_none (argument_object b)) h (λ f. refl) e
  did_new k call.WdfSpinLockCreate n (Class c) b x v h e = by_call k _ v c (object_in b) (or_none (argument_object b)) h (λ f. refl) e
  did_new k call.WdfWaitLockCreate n (Class c) b x v h e = by_call k _ v c (object_in b) (or_none (argument_object b)) h (λ f. refl) e
  did_new k call.WdfRequestCreate n (Class c) b x v h e = by_call k _ v c (object_in b) (or_none (argument_object b)) h (λ f. refl) e
  did_new k call.WdfDpcCreate n (Class c) b x v h e = by_call k _ v c (parent_of_class plan c) (parent_of_class plan c) h (λ f. refl) e
  did_new k call.WdfTimerCreate n (Class c) b x v h e = by_call k _ v c (parent_of_class plan c) (parent_of_class plan c) h (λ f. refl) e
  did_new k call.WdfWorkItemCreate n (Class c) b x v h e = by_call k _ v c (parent_of_class plan c) (parent_of_class plan c) h (λ f. refl) e
  did_new k _ n (Class c) b x v h e = absurd (let z : ⊥ = cc in z)

  event_new : (e : Event) → may plan m S e ≡ true → told plan e ≡ Some t → New (after plan m S e) t.object
  event_new (event.Did k c v) h e = did_new k c.kind c.count c.a c.b c.c v h e
  event_new (event.Posted agent p answer) h e =
      absurd (let none : t.class ≡ None = class_is (or_none (brought_to p)) None (where_so (is_there (brought_to p)) (id_in answer)) t e in let z : ⊥ = cc in z)
  event_new _ h e = absurd (let z : ⊥ = cc in z)

pub new_at : {A : Type 0} (plan : Plan) (m : Meaning A) (run : List Event) → IsRunOf plan m run → (n : ℕ) (e : Event) (t : Told) (class : ℕ) → slice_get run n ≡ Some e → told plan e ≡ Some t → t.class ≡ Some class
    → kind_of_class plan class ≡ kind.Made → New (state_after plan m (take (suc n) run)) t.object
new_at {A} plan m run is_run n e t class at is of made =
    subst (λ (U : State A). New U t.object) (sym (ap (state_after plan m) (take_next run n e at) ∙ state_goes_on plan m (take n run) e))
    (event_new plan m (state_after plan m (take n run)) t class of made e
    (comes plan m run n e is_run at (λ time same. let none : None ≡ Some t = subst (λ x. told plan x ≡ Some t) same is in let z : ⊥ = cc in z)) is)
