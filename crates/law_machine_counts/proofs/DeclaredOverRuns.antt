-- An object of a kind that only the scenario declares is a declared one, at each place of every run.
use Rattle.std.proofs.Common.{◌≡◌, ℕ, zero, suc, ◌+◌, ◌-◌, Bool, true, false, not, ◌&&◌, List, [], ◌∷◌, ◌⊎◌, inl, inr, Some, map, option_and_then, slice_get, slice_set, fold, take, refl, sym, ap, subst, ◌∙◌}
use Rattle.wdf_base.specs.Meaning.{Meaning}
use Rattle.wdf_base.specs.declared.plan.Plan.{Plan}
use Rattle.wdf_base.specs.declared.event.Event.{Event}
use Rattle.wdf_base.specs.declared.object.Kind.{Kind}
use Rattle.wdf_base.specs.declared.object.Kind.TheVariants as kind
use Rattle.wdf_base.specs.declared.object.Life.TheVariants as life
use Rattle.wdf_base.specs.declared.call.Callback.{Callback}
use Rattle.wdf_base.specs.declared.call.Callback.TheVariants as callback
use Rattle.wdf_base.specs.declared.declared.Declared.{Declared}
use Rattle.wdf_base.specs.declared.declared.Declared.TheVariants as declared
use Rattle.wdf_base.specs.Kinds.{declared_kind}
use Rattle.wdf_base.specs.Plan.{declared_of}
use Rattle.wdf_base.specs.Lives.{is_live}
use Rattle.wdf_model.specs.declared.enums.Mode.TheVariants as mode
use Rattle.wdf_model.specs.declared.entries.Node.{Node}
use Rattle.wdf_model.specs.Tables.{entry}
use Rattle.wdf_model.specs.Plans.{managed_queues, queues_of}
use Rattle.wdf_model.specs.parts.Tree.{Tree, declared_node, gone, is_full, kind_of, life_of, new_node, next_id, node_of, noted, subtree, with_life, with_node}
use Rattle.wdf_model.specs.parts.Tree as tree
use Rattle.wdf_model.specs.parts.Requests as requests
use Rattle.wdf_model.specs.parts.Queues.{waiting_in}
use Rattle.wdf_model.specs.parts.Control as control
use Rattle.wdf_model.specs.State.{State, is_with_driver, opening}
use Rattle.wdf_model.specs.declared.deed.Deed.{Deed}
use Rattle.wdf_model.specs.declared.deed.Deed.TheVariants.{Create, MakeRequest, Arrive, AskDeletion, Refer, Unrefer, WriteCell, Note, CleanUp, EndLife, Requeue, Forward, GiveBack, SendRequest, CompleteRequest, PurgeQueue, CloseReturning, CloseDevice}
use Rattle.wdf_model.specs.rules.Deeds.{ask_object, ask_objects, close_queue, close_returning, do_deed, do_deeds, give_up, give_up_if, withdraw}
use Rattle.wdf_model.specs.rules.Faults.{is_never_deleted, is_request_kind}
use Rattle.wdf_model.specs.rules.Steps.{after, deeds, may}
use Rattle.wdf_model.specs.rules.Ready.{IsRunOf, ready, state_after}
use Rattle.law_machine_base.specs.Fits.{all_fit, fits}
use Rattle.law_machine_base.specs.FactsOfEvents.{IsTick}
use Rattle.law_machine_base.specs.OverRuns.{DeclaredAgree, is_declared_kind}
use Rattle.wdf_model.proofs.Runs.{along_run}
use Rattle.wdf_model.proofs.Tests.{both_left, both_right, not_true}
use Rattle.wdf_model.proofs.Maps.{entry_before, entry_last, entry_put_other, entry_put_same}
use Rattle.wdf_model.proofs.Counts.{one_or_two}
use Rattle.law_machine_base.proofs.Deletion.{object_live, object_off}
use Rattle.law_machine_base.proofs.Follows.{follows, state_goes_on}
use Rattle.law_machine_base.proofs.FitsOfEvents.{event_fits}
use Rattle.law_machine_counts.proofs.Arrived.{arrived_tree}

-- ---- kinds that stay

-- what is of a declared kind was of it before
abbrev pub KindsStay : Tree → Tree → Type 0
KindsStay T U = (o : ℕ) → is_declared_kind (kind_of U o) ≡ true → kind_of U o ≡ kind_of T o

kinds_then : (T U V : Tree) → KindsStay T U → KindsStay U V → KindsStay T V
kinds_then T U V a b o h = b o h ∙ a o (ap is_declared_kind (sym (b o h)) ∙ h)

-- an object changes, and its kind stays or becomes none that is declared
object_changes : (T : Tree) (o : ℕ) (f : Node → Node) → ((n : Node) → is_declared_kind (f n).kind ≡ true → (f n).kind ≡ n.kind) → KindsStay T (with_node T o f)
object_changes T o f kinds x h = elim (one_or_two x o) [
  | inl e ↦
      let new : kind_of (with_node T o f) x ≡ (f (node_of T o)).kind = rw e (ap (λ (n : Node). n.kind) (entry_put_same gone T.nodes o (f (node_of T o)))) in
      new ∙ kinds (node_of T o) (sym (ap is_declared_kind new) ∙ h) ∙ sym (ap (kind_of T) e)
  | inr n ↦ ap (λ (m : Node). m.kind) (entry_put_other gone T.nodes o x (f (node_of T o)) n)
]

object_made : (T : Tree) (k : Kind) (class parent : ℕ) → is_declared_kind k ≡ false → KindsStay T (tree.create T k class parent)
object_made T k class parent none x h = elim (one_or_two x (next_id T)) [
  | inl e ↦
      let new : kind_of (tree.create T k class parent) x ≡ k = rw e (ap (λ (n : Node). n.kind) (entry_last gone T.nodes (new_node k class parent))) in
      absurd (let is : is_declared_kind k ≡ true = sym (ap is_declared_kind new) ∙ h in let z : ⊥ = cc in z)
  | inr n ↦ ap (λ (m : Node). m.kind) (entry_before gone T.nodes (new_node k class parent) x n)
]

undeclared : (k : Kind) → is_never_deleted k ≡ false → is_declared_kind k ≡ false
undeclared kind.Driver h = absurd (let z : ⊥ = cc in z)
undeclared kind.Device h = absurd (let z : ⊥ = cc in z)
undeclared kind.Queue h = absurd (let z : ⊥ = cc in z)
undeclared kind.Interrupt h = absurd (let z : ⊥ = cc in z)
undeclared kind.Target h = absurd (let z : ⊥ = cc in z)
undeclared _ h = refl

noted_kind : (c : Callback) (n : Node) → (noted c n).kind ≡ n.kind
noted_kind callback.EvtCleanupCallback n = refl
noted_kind callback.EvtDestroyCallback n = refl
noted_kind _ n = refl

asked_by : {A : Type 0} (S : State A) (x : ℕ) (b : Bool) → is_live (life_of S.tree x) ≡ b → KindsStay S.tree (ask_object S x).tree
asked_by S x true e = subst (λ (U : State _). KindsStay S.tree U.tree) (sym (object_live S x e)) (object_changes S.tree x (with_life life.Asked) (λ n h. refl))
asked_by S x false e = subst (λ (U : State _). KindsStay S.tree U.tree) (sym (object_off S x e)) (λ o h. refl)

all_asked : {A : Type 0} (xs : List ℕ) (S : State A) → KindsStay S.tree (fold ask_object S xs).tree
all_asked [] S = λ o h. refl
all_asked (x ∷ xs) S = kinds_then S.tree (ask_object S x).tree (fold ask_object (ask_object S x) xs).tree (asked_by S x (is_live (life_of S.tree x)) refl) (all_asked xs (ask_object S x))

-- ---- trees that stay

given_up_by : {A : Type 0} (S : State A) (r : ℕ) (b : Bool) → is_with_driver S r ≡ b → (give_up S r).tree ≡ S.tree
given_up_by S r true e = rw e refl
given_up_by S r false e = rw e refl

given_up : {A : Type 0} (S : State A) (r : ℕ) → (give_up S r).tree ≡ S.tree
given_up S r = given_up_by S r (is_with_driver S r) refl

given_up_if : {A : Type 0} (S : State A) (forget : Bool) (r : ℕ) → (give_up_if forget S r).tree ≡ S.tree
given_up_if S true r = given_up S r
given_up_if S false r = refl

all_withdrawn : {A : Type 0} (plan : Plan) (q : ℕ) (rs : List ℕ) (S : State A) → (fold (withdraw plan q) S rs).tree ≡ S.tree
all_withdrawn plan q [] S = refl
all_withdrawn plan q (r ∷ rs) S = all_withdrawn plan q rs (withdraw plan q S r)

all_returning : {A : Type 0} (qs : List ℕ) (S : State A) → (fold close_returning S qs).tree ≡ S.tree
all_returning [] S = refl
all_returning (q ∷ qs) S = all_returning qs (close_returning S q)

all_closed : {A : Type 0} (qs : List ℕ) (S : State A) → (fold close_queue S qs).tree ≡ S.tree
all_closed [] S = refl
all_closed (q ∷ qs) S = all_closed qs (close_queue S q)

same_tree : (T U : Tree) → U ≡ T → KindsStay T U
same_tree T U e = subst (λ (V : Tree). KindsStay T V) (sym e) (λ o h. refl)

-- ---- each deed

deed_kinds : {A : Type 0} (plan : Plan) (d : Deed) (S : State A) → fits plan d S ≡ true → KindsStay S.tree (do_deed plan d S).tree
deed_kinds plan (Create k class parent) S f =
    object_made S.tree k class parent.0 (undeclared k (not_true (is_never_deleted k) (both_right (is_live (life_of S.tree parent.0) && not (is_full S.tree) && not (is_request_kind k)) (not (is_never_deleted k)) f)))
deed_kinds plan (MakeRequest class parent) S f = object_made S.tree kind.Made class parent.0 refl
deed_kinds plan (Arrive device info p) S f = subst (λ (V : Tree). KindsStay S.tree V) (sym (arrived_tree S device.0 info p)) (object_made S.tree kind.Request 0 device.0 refl)
deed_kinds plan (AskDeletion o) S f = all_asked (subtree S.tree o.0) S
deed_kinds plan (Refer o) S f = object_changes S.tree o.0 (λ n. record n { references = n.references + 1 }) (λ n h. refl)
deed_kinds plan (Unrefer o) S f = object_changes S.tree o.0 (λ n. record n { references = n.references - 1 }) (λ n h. refl)
deed_kinds plan (WriteCell o k v) S f = object_changes S.tree o.0 (λ n. record n { cells = slice_set n.cells k v }) (λ n h. refl)
deed_kinds plan (Note o c) S f = object_changes S.tree o.0 (noted c) (λ n h. noted_kind c n)
deed_kinds plan (CleanUp o) S f = object_changes S.tree o.0 (with_life life.Cleaned) (λ n h. refl)
deed_kinds plan (EndLife o) S f = object_changes S.tree o.0 (λ _. gone) (λ n h. absurd (let z : ⊥ = cc in z))
deed_kinds plan (Requeue r q) S f = same_tree _ _ (given_up S r.0)
deed_kinds plan (Forward r q) S f = same_tree _ _ (given_up S r.0)
deed_kinds plan (GiveBack r q) S f = same_tree _ _ (given_up S r.0)
deed_kinds plan (SendRequest r t forget) S f = same_tree _ _ (given_up_if S forget r.0)
deed_kinds plan (CompleteRequest r) S f =
    kinds_then S.tree (give_up S r.0).tree (ask_objects (record (give_up S r.0) { requests = requests.complete S.requests r.0 }) r.0).tree (same_tree _ _ (given_up S r.0)) (all_asked (subtree (give_up S r.0).tree r.0) (record (give_up S r.0) { requests = requests.complete S.requests r.0 }))
deed_kinds plan (PurgeQueue q) S f = same_tree _ _ (all_withdrawn plan q.0 (waiting_in S.queues q.0) (record S { control = control.set_mode S.control q.0 mode.Purged }))
deed_kinds plan (CloseReturning d) S f = same_tree _ _ (all_returning (managed_queues plan d.0) S)
deed_kinds plan (CloseDevice d) S f = same_tree _ _ (all_closed (queues_of plan d.0) (record S { control = control.shut S.control d.0 }))
deed_kinds plan _ S f = λ o h. refl

pub deeds_kinds : {A : Type 0} (plan : Plan) (ds : List Deed) (S : State A) → all_fit plan ds S ≡ true → KindsStay S.tree (do_deeds plan ds S).tree
deeds_kinds plan [] S f = λ o h. refl
deeds_kinds plan (d ∷ ds) S f =
    kinds_then S.tree (do_deed plan d S).tree (do_deeds plan ds (do_deed plan d S)).tree (deed_kinds plan d S (both_left (fits plan d S) (all_fit plan ds (do_deed plan d S)) f))
    (deeds_kinds plan ds (do_deed plan d S) (both_right (fits plan d S) (all_fit plan ds (do_deed plan d S)) f))

-- ---- the law

abbrev DeclaredIn : Plan → Tree → Type 0
DeclaredIn plan T = (o : ℕ) → is_declared_kind (kind_of T o) ≡ true → option_and_then declared_kind (declared_of plan o) ≡ Some (kind_of T o)

still_declared : (plan : Plan) (T U : Tree) → KindsStay T U → DeclaredIn plan T → DeclaredIn plan U
still_declared plan T U stay h o is = h o (ap is_declared_kind (sym (stay o is)) ∙ is) ∙ ap Some (sym (stay o is))

one_declared : (d : Declared) → is_declared_kind (declared_node d).kind ≡ true → declared_kind d ≡ Some (declared_node d).kind
one_declared (declared.OfClass c) h = absurd (let z : ⊥ = cc in z)
one_declared _ h = refl

list_declared : (ds : List Declared) (k : ℕ) → is_declared_kind (entry gone (map declared_node ds) k).kind ≡ true → option_and_then declared_kind (slice_get ds k) ≡ Some (entry gone (map declared_node ds) k).kind
list_declared [] k h = absurd (let z : ⊥ = cc in z)
list_declared (d ∷ ds) zero h = one_declared d h
list_declared (d ∷ ds) (suc k) h = list_declared ds k h

opening_declared : {A : Type 0} (plan : Plan) (m : Meaning A) → DeclaredIn plan (opening plan m).tree
opening_declared plan m zero h = absurd (let z : ⊥ = cc in z)
opening_declared plan m (suc o) h = list_declared plan.declared o h

declared_at_first : {A : Type 0} (plan : Plan) (m : Meaning A) → DeclaredIn plan (state_after plan m []).tree
unfolding state_after
declared_at_first plan m = opening_declared plan m

one_event_more : {A : Type 0} (plan : Plan) (m : Meaning A) (S : State A) (offered : List Event) (e : Event) → (may plan m S e ≡ true) ⊎ IsTick m S offered e → DeclaredIn plan S.tree → DeclaredIn plan (after plan m S e).tree
one_event_more plan m S offered e (inl may_come) h = still_declared plan S.tree (after plan m S e).tree (deeds_kinds plan (deeds plan S e) S (event_fits plan m S e may_come)) h
one_event_more plan m S offered e (inr t) h = subst (λ x. DeclaredIn plan (after plan m S x).tree) (sym t.tick) h

pub declared_at_each : {A : Type 0} (plan : Plan) (m : Meaning A) (run : List Event) → IsRunOf plan m run → (n : ℕ) → DeclaredIn plan (state_after plan m (take n run)).tree
declared_at_each plan m run is_run n = along_run (λ es. DeclaredIn plan (state_after plan m es).tree) (ready plan m) run (declared_at_first plan m)
    (λ before e place so_far held at. subst (λ (T : State _). DeclaredIn plan T.tree) (sym (state_goes_on plan m before e))
    (one_event_more plan m (state_after plan m before) (ready plan m before) e (follows plan m before place e at) held))
    is_run n

pub declared_agree_at_each : {A : Type 0} (plan : Plan) (m : Meaning A) (run : List Event) → IsRunOf plan m run → (n : ℕ) → DeclaredAgree plan (state_after plan m (take n run))
declared_agree_at_each plan m run is_run n = record { declared = declared_at_each plan m run is_run n }
