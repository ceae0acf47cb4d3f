-- An event that says something of an object makes it: the next one, under a live parent.
use Rattle.std.proofs.Common.{if◌then◌else◌, ◌≡◌, ℕ, ◌<◌, Bool, true, false, not, ◌&&◌, List, [], ◌∷◌, ◌++◌, Option, Some, None, length, option_map, slice_get, unwrap_or, refl, sym, ap, subst, ◌∙◌, arith, append-nil, length-append}
use Rattle.wdf_base.specs.Meaning.{Meaning}
use Rattle.wdf_base.specs.declared.ids.Cpu.{Cpu}
use Rattle.wdf_base.specs.declared.ids.Handle.{Handle}
use Rattle.wdf_base.specs.declared.plan.Plan.{Plan}
use Rattle.wdf_base.specs.declared.value.Value.{Value}
use Rattle.wdf_base.specs.declared.value.Value.TheVariants.{Obj}
use Rattle.wdf_base.specs.declared.value.Status.TheVariants as status
use Rattle.wdf_base.specs.declared.object.Kind.{Kind}
use Rattle.wdf_base.specs.declared.object.Kind.TheVariants as kind
use Rattle.wdf_base.specs.declared.object.RequestForm.{RequestForm}
use Rattle.wdf_base.specs.declared.object.RequestForm.TheVariants as form
use Rattle.wdf_base.specs.declared.call.Arg.{Arg}
use Rattle.wdf_base.specs.declared.call.Arg.TheVariants.{Val, Class}
use Rattle.wdf_base.specs.declared.call.Call.{Call}
use Rattle.wdf_base.specs.declared.call.CallKind.{CallKind}
use Rattle.wdf_base.specs.declared.call.CallKind.TheVariants as call
use Rattle.wdf_base.specs.declared.declared.ClassInfo.{ClassInfo}
use Rattle.wdf_base.specs.declared.declared.ClassInfo.TheVariants as class
use Rattle.wdf_base.specs.declared.declared.DeferredKind.TheVariants as deferred
use Rattle.wdf_base.specs.declared.declared.PlainKind.TheVariants as plain
use Rattle.wdf_base.specs.declared.declared.Declared.TheVariants as declared
use Rattle.wdf_base.specs.declared.event.Event.{Event}
use Rattle.wdf_base.specs.declared.event.Event.TheVariants as event
use Rattle.wdf_base.specs.declared.event.Post.{Post}
use Rattle.wdf_base.specs.declared.event.Post.TheVariants as post
use Rattle.wdf_base.specs.declared.frame.Frame.{Frame}
use Rattle.wdf_base.specs.Kinds.{class_kind}
use Rattle.wdf_base.specs.Same.{same_handle, same_option, same_post}
use Rattle.wdf_base.specs.Lives.{is_gone, is_live}
use Rattle.wdf_model.specs.declared.entries.Node.{Node}
use Rattle.wdf_model.specs.Plans.{kind_of_class, parent_of_class}
use Rattle.wdf_model.specs.parts.Tree.{Tree, declared_as, gone, is_full, kind_of, life_of, made_as, new_node, next_id, node_of, parent_of}
use Rattle.wdf_model.specs.parts.Tree as tree
use Rattle.wdf_model.specs.parts.Cpus.{frame_of}
use Rattle.wdf_model.specs.State.{State, object_in}
use Rattle.wdf_model.specs.Ids.{frame_id, object_id}
use Rattle.wdf_model.specs.declared.deed.Deed.{Deed}
use Rattle.wdf_model.specs.declared.deed.Deed.TheVariants.{Arrive, CountArrival, GoOn}
use Rattle.wdf_model.specs.rules.Deeds.{do_deed, do_deeds}
use Rattle.wdf_model.specs.rules.Calls.{Outcome, create_outcome, creation, new_handle, outcome, refused, second_deeds}
use Rattle.wdf_model.specs.rules.Posts.{arrival_info, arrival_place, arriving, due_of, post_answer, post_deeds, post_fits}
use Rattle.wdf_model.specs.rules.Steps.{after, answered, did_deeds, may}
use Rattle.wdf_model.proofs.Tests.{both_right}
use Rattle.wdf_model.proofs.Maps.{entry_last}
use Rattle.wdf_model.proofs.Sames.{handle_same}
use Rattle.law_machine_base.proofs.OwnEvents.{IsDid, did_tells}
use Rattle.law_machine_base.proofs.FitsOfEvents.{by_its_top}
use Rattle.wdf_laws.specs.declared.sign.Told.{Told}
use Rattle.wdf_laws.specs.Events.{argument_object, id_in, or_none, told, told_by_call, told_of, value_object}
use Rattle.wdf_laws.specs.Family.{told_class}
use Rattle.law_machine_counts.proofs.Arrived.{arrived_tree}

-- what is told of an object: it is made now
pub record Makes (plan : Plan) (T U : Tree) (t : Told) : Type 0 where
  pub next : t.object ≡ next_id T
  pub live : is_live (life_of T t.parent) ≡ true
  pub within : t.object < length U.nodes
  pub there : is_gone (life_of U t.object) ≡ false
  pub parent : parent_of U t.object ≡ t.parent
  pub class : declared_as plan U t.object ≡ told_class (Some t)
  -- what is made of no class is a request
  pub request : t.class ≡ None → kind_of U t.object ≡ kind.Request

-- ---- an object is made

made_node : (T : Tree) (k : Kind) (class parent : ℕ) → node_of (tree.create T k class parent) (next_id T) ≡ new_node k class parent
made_node T k class parent = entry_last gone T.nodes (new_node k class parent)

made_long : (T : Tree) (k : Kind) (class parent : ℕ) → next_id T < length (tree.create T k class parent).nodes
made_long T k class parent = let e = length-append T.nodes (new_node k class parent ∷ []) in omega arith

-- a class's objects are no requests that arrived, and nothing that is declared
class_made : (plan : Plan) (n : Node) (o : ℕ) (c : Option ClassInfo) → made_as plan n o (unwrap_or (option_map class_kind c) kind.General) ≡ Some (declared.OfClass n.class)
class_made plan n o (Some (class.Plain name plain.Object)) = refl
class_made plan n o (Some (class.Deferred name deferred.Dpc parent serialize period)) = refl
class_made plan n o _ = refl

pub creates : {A : Type 0} (plan : Plan) (S : State A) (k : Kind) (class parent : ℕ) → (do_deeds plan (creation k class parent ∷ []) S).tree ≡ tree.create S.tree k class parent
creates plan S kind.Made class parent = refl
creates plan S _ class parent = refl

new_makes : (plan : Plan) (T : Tree) (k : Kind) (class parent : ℕ) (told_as : Option ℕ) → is_live (life_of T parent) ≡ true → made_as plan (new_node k class parent) (next_id T) k ≡ option_map declared.OfClass told_as → (told_as ≡ None → k ≡ kind.Request)
    → Makes plan T (tree.create T k class parent) (record { object = next_id T; parent = parent; class = told_as })
new_makes plan T k class parent told_as live is it =
    let e = made_node T k class parent in
    record {
      next = refl;
      live = live;
      within = made_long T k class parent;
      there = ap (λ (n : Node). is_gone n.life) e;
      parent = ap (λ (n : Node). n.parent.0) e;
      class = ap (λ (n : Node). made_as plan n (next_id T) n.kind) e ∙ is;
      request = λ none. ap (λ (n : Node). n.kind) e ∙ it none;
    }

-- ---- the calls that make objects

create_makes : {A : Type 0} (plan : Plan) (S : State A) (class parent : ℕ) (t : Told) (b c : Bool) → is_live (life_of S.tree parent) ≡ b → is_full S.tree ≡ c
    → told_of parent (Some class) (value_object (if not b then refused status.DeletePending
    else if c then refused status.InsufficientResources
    else record { answer = Obj (new_handle plan S class); deeds = creation (kind_of_class plan class) class parent ∷ [] }).answer) ≡ Some t
    → Makes plan S.tree (do_deeds plan (if not b then refused status.DeletePending
    else if c then refused status.InsufficientResources
    else record { answer = Obj (new_handle plan S class); deeds = creation (kind_of_class plan class) class parent ∷ [] }).deeds S).tree t
create_makes plan S class parent t false c live full h = absurd (let z : ⊥ = cc in z)
create_makes plan S class parent t true true live full h = absurd (let z : ⊥ = cc in z)
create_makes plan S class parent t true false live full h =
    let one : Told = record { object = next_id S.tree; parent = parent; class = Some class } in
    let same : one ≡ t = cc in
    let k : Kind = kind_of_class plan class in
    subst (λ (U : Tree). Makes plan S.tree U t) (sym (creates plan S k class parent))
    (subst (λ x. Makes plan S.tree (tree.create S.tree k class parent) x) same
    (new_makes plan S.tree k class parent (Some class) live (class_made plan (new_node k class parent) (next_id S.tree) (slice_get plan.classes class)) (λ none. absurd (let z : ⊥ = cc in z))))

same_argument : (b : Arg) → or_none (argument_object b) ≡ object_in b
same_argument (Val (Obj h)) = refl
same_argument _ = refl

gone_on : {A : Type 0} (plan : Plan) (f : ℕ) (next : Frame) (ds : List Deed) (S : State A) → (do_deeds plan (ds ++ GoOn (frame_id f) next ∷ []) S).tree ≡ (do_deeds plan ds S).tree
gone_on plan f next [] S = refl
gone_on plan f next (d ∷ ds) S = gone_on plan f next ds (do_deed plan d S)

did_create : {A : Type 0} (plan : Plan) (m : Meaning A) (S : State A) (k : Cpu) (c : Call) (v : Value) (t : Told) (class parent : ℕ) → may plan m S (event.Did k c v) ≡ true
    → ((f : ℕ) → outcome plan S k.0 f c ≡ create_outcome plan S class parent) → ((f : ℕ) → second_deeds f c ≡ []) → told_of parent (Some class) (value_object v) ≡ Some t
    → Makes plan S.tree (after plan m S (event.Did k c v)).tree t
did_create {A} plan m S k c v t class parent h is none e =
    let d : IsDid plan S k.0 c v = did_tells plan m S k c v h in
    let f : ℕ = d.frame in
    let next : Frame = answered plan (frame_of S.cpus f) v in
    let o : Outcome = create_outcome plan S class parent in
    let first : (after plan m S (event.Did k c v)).tree ≡ (do_deeds plan ((outcome plan S k.0 f c).deeds ++ second_deeds f c ++ GoOn (frame_id f) next ∷ []) S).tree =
    ap (λ (ds : List Deed). (do_deeds plan ds S).tree) (by_its_top S k.0 f (did_deeds plan S k.0 c v) d.about.top) in
    let same : (outcome plan S k.0 f c).deeds ++ second_deeds f c ≡ o.deeds = ap (λ (x : Outcome). x.deeds ++ second_deeds f c) (is f) ∙ ap (λ ds. o.deeds ++ ds) (none f) ∙ append-nil o.deeds in
    let moved : (after plan m S (event.Did k c v)).tree ≡ (do_deeds plan o.deeds S).tree =
    first ∙ gone_on plan f next ((outcome plan S k.0 f c).deeds ++ second_deeds f c) S ∙ ap (λ (ds : List Deed). (do_deeds plan ds S).tree) same in
    let answer : v ≡ o.answer = d.answer ∙ ap (λ (x : Outcome). x.answer) (is f) in
    let so : told_of parent (Some class) (value_object o.answer) ≡ Some t = subst (λ w. told_of parent (Some class) (value_object w) ≡ Some t) answer e in
    subst (λ (U : Tree). Makes plan S.tree U t) (sym moved) (create_makes plan S class parent t (is_live (life_of S.tree parent)) (is_full S.tree) refl refl so)

abbrev DidMakes : {A : Type 0} → Plan → Meaning A → State A → Cpu → CallKind → Type 0
DidMakes plan m S k kind_ = (n : ℕ) (a b x : Arg) (v : Value) (t : Told) → may plan m S (event.Did k (record { kind = kind_; count = n; a = a; b = b; c = x }) v) ≡ true → told_by_call plan kind_ a b v ≡ Some t
    → Makes plan S.tree (after plan m S (event.Did k (record { kind = kind_; count = n; a = a; b = b; c = x }) v)).tree t

-- under the parent that the call names
by_argument : {A : Type 0} (plan : Plan) (m : Meaning A) (S : State A) (k : Cpu) (c : Call) (v : Value) (t : Told) (class : ℕ) → may plan m S (event.Did k c v) ≡ true
    → ((f : ℕ) → outcome plan S k.0 f c ≡ create_outcome plan S class (object_in c.b)) → ((f : ℕ) → second_deeds f c ≡ []) → told_of (or_none (argument_object c.b)) (Some class) (value_object v) ≡ Some t
    → Makes plan S.tree (after plan m S (event.Did k c v)).tree t
by_argument plan m S k c v t class h is none e =
    did_create plan m S k c v t class (object_in c.b) h is none (subst (λ p. told_of p (Some class) (value_object v) ≡ Some t) (same_argument c.b) e)

did_makes : {A : Type 0} (plan : Plan) (m : Meaning A) (S : State A) (k : Cpu) (kind_ : CallKind) → DidMakes plan m S k kind_
did_makes plan m S k kind_ n (Val w) b x v t h e = absurd (let z : ⊥ = cc in z)
did_makes plan m S k call.WdfObjectCreate n (Class c) b x v t h e = by_argument plan m S k (record { kind = call.WdfObjectCreate; count = n; a = Class c; b = b; c = x }) v t c h (λ f. refl) (λ f. refl) e
did_makes plan m S k call.WdfSpinLockCreate n (Class c) b x v t h e = by_argument plan m S k (record { kind = call.WdfSpinLockCreate; count = n; a = Class c; b = b; c = x }) v t c h (λ f. refl) (λ f. refl) e
did_makes plan m S k call.WdfWaitLockCreate n (Class c) b x v t h e = by_argument plan m S k (record { kind = call.WdfWaitLockCreate; count = n; a = Class c; b = b; c = x }) v t c h (λ f. refl) (λ f. refl) e
did_makes plan m S k call.WdfRequestCreate n (Class c) b x v t h e = by_argument plan m S k (record { kind = call.WdfRequestCreate; count = n; a = Class c; b = b; c = x }) v t c h (λ f. refl) (λ f. refl) e
did_makes plan m S k call.WdfDpcCreate n (Class c) b x v t h e = did_create plan m S k (record { kind = call.WdfDpcCreate; count = n; a = Class c; b = b; c = x }) v t c (parent_of_class plan c) h (λ f. refl) (λ f. refl) e
did_makes plan m S k call.WdfTimerCreate n (Class c) b x v t h e = did_create plan m S k (record { kind = call.WdfTimerCreate; count = n; a = Class c; b = b; c = x }) v t c (parent_of_class plan c) h (λ f. refl) (λ f. refl) e
did_makes plan m S k call.WdfWorkItemCreate n (Class c) b x v t h e = did_create plan m S k (record { kind = call.WdfWorkItemCreate; count = n; a = Class c; b = b; c = x }) v t c (parent_of_class plan c) h (λ f. refl) (λ f. refl) e
did_makes plan m S k _ n (Class c) b x v t h e = absurd (let z : ⊥ = cc in z)

-- ---- arrivals

arrival_makes : {A : Type 0} (plan : Plan) (S : State A) (agent : ℕ) (f : RequestForm) (length code device : ℕ) (answer : Option Handle) (t : Told) (b : Bool) → is_live (life_of S.tree device) ≡ b
    → same_option same_handle (if b then Some (arriving S) else None) answer ≡ true → told_of device None (id_in answer) ≡ Some t
    → Makes plan S.tree (do_deeds plan (CountArrival agent ∷ (if b then Arrive (object_id device) (arrival_info S agent f length code device) (arrival_place plan S f length device) ∷ [] else [])) S).tree t
arrival_makes plan S agent f length code device None t b live same e = absurd (let z : ⊥ = cc in z)
arrival_makes plan S agent f length code device (Some h) t false live same e = absurd (let z : ⊥ = cc in z)
arrival_makes {A} plan S agent f length code device (Some h) t true live same e =
    let it : arriving S ≡ h = handle_same (arriving S) h same in
    let one : Told = record { object = next_id S.tree; parent = device; class = None } in
    let so : Some one ≡ Some t = subst (λ (x : Handle). told_of device None (id_in (Some x)) ≡ Some t) (sym it) e in
    let is : one ≡ t = cc in
    let S_ : State A = do_deed plan (CountArrival agent) S in
    subst (λ (U : Tree). Makes plan S.tree U t) (sym (arrived_tree S_ device (arrival_info S agent f length code device) (arrival_place plan S f length device)))
    (subst (λ x. Makes plan S.tree (tree.arrive S.tree device) x) is (new_makes plan S.tree kind.Request 0 device None live refl (λ none. refl)))

post_makes : {A : Type 0} (plan : Plan) (S : State A) (agent : ℕ) (p : Post) (answer : Option Handle) (t : Told) → same_option same_handle (post_answer plan S agent p) answer ≡ true
    → told plan (event.Posted agent p answer) ≡ Some t → Makes plan S.tree (do_deeds plan (post_deeds plan S agent p) S).tree t
post_makes plan S agent (post.Read device length) answer t same e = arrival_makes plan S agent form.Read length 0 device.id.0 answer t (is_live (life_of S.tree device.id.0)) refl same e
post_makes plan S agent (post.Write device length) answer t same e = arrival_makes plan S agent form.Write length 0 device.id.0 answer t (is_live (life_of S.tree device.id.0)) refl same e
post_makes plan S agent (post.Control device code length) answer t same e = arrival_makes plan S agent form.Control length code device.id.0 answer t (is_live (life_of S.tree device.id.0)) refl same e
post_makes plan S agent _ answer t same e = absurd (let z : ⊥ = cc in z)

-- ---- all events

pub event_makes : {A : Type 0} (plan : Plan) (m : Meaning A) (S : State A) (e : Event) (t : Told) → may plan m S e ≡ true → told plan e ≡ Some t → Makes plan S.tree (after plan m S e).tree t
event_makes plan m S (event.Did k c v) t h e = did_makes plan m S k c.kind c.count c.a c.b c.c v t h e
event_makes plan m S (event.Posted agent p answer) t h e =
    post_makes plan S agent p answer t
    (both_right (same_option same_post (due_of m S agent) (Some p) && post_fits plan S agent p) (same_option same_handle (post_answer plan S agent p) answer) h) e
event_makes plan m S _ t h e = absurd (let z : ⊥ = cc in z)
