-- Queued work is of its kind, and has its function: each deed keeps this.
use Rattle.std.proofs.Common.{◌≡◌, ◌≢◌, ℕ, ◌+◌, ◌-◌, Bool, true, false, not, ◌||◌, List, [], ◌∷◌, inl, inr, fold, slice_set, refl, sym, ap, subst, ◌∙◌, arith}
use Rattle.wdf_base.specs.declared.plan.Plan.{Plan}
use Rattle.wdf_base.specs.declared.object.Kind.{Kind}
use Rattle.wdf_base.specs.declared.object.Kind.TheVariants as kind
use Rattle.wdf_base.specs.declared.object.Life.{Life}
use Rattle.wdf_base.specs.declared.object.Life.TheVariants as life
use Rattle.wdf_base.specs.declared.call.Callback.{Callback}
use Rattle.wdf_base.specs.declared.call.Callback.TheVariants as callback
use Rattle.wdf_model.specs.declared.enums.Mode.TheVariants as mode
use Rattle.wdf_model.specs.declared.entries.Node.{Node}
use Rattle.wdf_model.specs.Plans.{kind_of_class, managed_queues, queues_of}
use Rattle.wdf_model.specs.parts.Tree.{Tree, gone, kind_of, life_of, new_node, next_id, node_of, noted, subtree, with_life, with_node}
use Rattle.wdf_model.specs.parts.Tree as tree
use Rattle.wdf_model.specs.parts.Requests as requests
use Rattle.wdf_model.specs.parts.Queues.{waiting_in}
use Rattle.wdf_model.specs.parts.Control as control
use Rattle.wdf_model.specs.parts.Deferred.Dpcs.{is_dpc_queued}
use Rattle.wdf_model.specs.parts.Deferred.WorkItems.{is_work_queued}
use Rattle.wdf_model.specs.parts.Deferred.Timers.{is_timer_queued}
use Rattle.wdf_model.specs.State.{State}
use Rattle.wdf_model.specs.declared.deed.Deed.{Deed}
use Rattle.wdf_model.specs.declared.deed.Deed.TheVariants.{Create, MakeRequest, Arrive, AskDeletion, Refer, Unrefer, WriteCell, Note, CleanUp, EndLife, Requeue, Forward, GiveBack, SendRequest, CompleteRequest, PurgeQueue, CloseReturning, CloseDevice, EnqueueDpc, CancelDpc, TakeDpc, EnqueueWork, CancelWork, StartTimer, StopTimer, FireTimer}
use Rattle.wdf_model.specs.rules.Deeds.{ask_object, do_deed, give_up}
use Rattle.law_machine_base.specs.Fits.{fits}
use Rattle.wdf_model.proofs.Tests.{both, both_left, left_fails, second}
use Rattle.wdf_model.proofs.Maps.{entry_before, entry_last, entry_put_other, entry_put_same}
use Rattle.wdf_model.proofs.Counts.{one_or_two}
use Rattle.wdf_model.proofs.Sames.{kind_decides}
use Rattle.law_machine_base.proofs.Deletion.{object_live, object_off}
use Rattle.law_machine_lives.proofs.Stays.{gives_up, gives_up_if, queues_closed, returns_closed, withdraws}
use Rattle.law_machine_lives.proofs.Lists.{inside, reads_same}
use Rattle.law_machine_lives.proofs.Queued.{dpc_cancelled, dpc_enqueued, dpc_taken, timer_fired, timer_started, timer_stopped, work_cancelled, work_enqueued}
use Rattle.law_machine_lives.proofs.Sound.{Sound}
use Rattle.wdf_base.specs.Same.{same_kind}
use Rattle.wdf_base.specs.Lives.{is_asked, is_cleaned, is_live}
use Rattle.law_stuck_named_if.proofs.Apt.{Apt}
use Rattle.law_machine_lives.proofs.Choices.{or_still}
use Rattle.law_machine_lives.proofs.Deferring.{Work, arrived, work_of}
use Rattle.law_stuck_named.proofs.Standing.{Comes, defers, is_ready, ready_in}

-- the kinds whose objects are queued as work
abbrev pub is_work_kind : Kind → Bool
is_work_kind kind.Dpc = true
is_work_kind kind.Timer = true
is_work_kind kind.WorkItem = true
is_work_kind _ = false

-- an object of such a kind is of a class of that kind
abbrev pub is_classed : Plan → Node → Bool
is_classed plan n = not (is_work_kind n.kind) || same_kind (kind_of_class plan n.class) n.kind

pub record WorkKept (plan : Plan) (w : Work) : Type 0 where
  pub classes : (o : ℕ) → is_classed plan (node_of w.tree o) ≡ true
  pub dpcs : (o : ℕ) → is_dpc_queued w.dpcs o ≡ true → (ready_in kind.Dpc w.tree o || defers plan o) ≡ true
  pub items : (o : ℕ) → is_work_queued w.items o ≡ true → ready_in kind.WorkItem w.tree o ≡ true
  pub timers : (o : ℕ) → is_timer_queued w.timers o ≡ true → ready_in kind.Timer w.tree o ≡ true

-- ---- the objects change

tree_changes : (plan : Plan) (w : Work) (T : Tree) → ((x : ℕ) → is_classed plan (node_of T x) ≡ true) → ((k : Kind) (x : ℕ) → ready_in k w.tree x ≡ true → ready_in k T x ≡ true) → WorkKept plan w → WorkKept plan (record w { tree = T })
tree_changes plan w T classed still k = record {
  classes = classed;
  dpcs = λ o h. or_still (ready_in kind.Dpc w.tree o) (ready_in kind.Dpc T o) (defers plan o) (still kind.Dpc o) (k.dpcs o h);
  items = λ o h. still kind.WorkItem o (k.items o h);
  timers = λ o h. still kind.Timer o (k.timers o h);
}

-- a node changes, and stays of its kind and class, and live where it was
changed : (plan : Plan) (w : Work) (o : ℕ) (f : Node → Node) → ((k : Kind) → is_ready k (f (node_of w.tree o)) ≡ is_ready k (node_of w.tree o)) → is_classed plan (f (node_of w.tree o)) ≡ is_classed plan (node_of w.tree o) → WorkKept plan w
    → WorkKept plan (record w { tree = with_node w.tree o f })
changed plan w o f ready classed k =
    tree_changes plan w (with_node w.tree o f) (λ x. reads_same (is_classed plan) w.tree o f classed x ∙ k.classes x) (λ j x h. reads_same (is_ready j) w.tree o f (ready j) x ∙ h) k

made : (plan : Plan) (w : Work) (c : Kind) (class parent : ℕ) → is_classed plan (new_node c class parent) ≡ true → WorkKept plan w → WorkKept plan (record w { tree = tree.create w.tree c class parent })
made plan w c class parent new k =
    let T : Tree = w.tree in
    let n : Node = new_node c class parent in
    tree_changes plan w (tree.create T c class parent)
    (λ x. elim (one_or_two x (next_id T)) [
      | inl e ↦ ap (λ y. is_classed plan (node_of (tree.create T c class parent) y)) e ∙ ap (is_classed plan) (entry_last gone T.nodes n) ∙ new
      | inr d ↦ ap (is_classed plan) (entry_before gone T.nodes n x d) ∙ k.classes x
    ])
    (λ j x h.
    let within = inside gone (is_ready j) T.nodes x refl h in
    ap (is_ready j) (entry_before gone T.nodes n x (λ e. let z : ⊥ = omega arith in z)) ∙ h) k

-- ---- a deletion is asked: what isn't live leaves its queue

asked_one : {A : Type 0} (plan : Plan) (S : State A) (x : ℕ) (b : Bool) → is_live (life_of S.tree x) ≡ b → WorkKept plan (work_of S) → WorkKept plan (work_of (ask_object S x))
asked_one {A} plan S x true e k =
    let other = λ (j : Kind) (o : ℕ) (n : o ≢ x) (h : ready_in j S.tree o ≡ true). ap (is_ready j) (entry_put_other gone S.tree.nodes x o (with_life life.Asked (node_of S.tree x)) n) ∙ h in
    subst (λ (U : State A). WorkKept plan (work_of U)) (sym (object_live S x e)) (record {
      classes = λ o. reads_same (is_classed plan) S.tree x (with_life life.Asked) refl o ∙ k.classes o;
      dpcs = λ o h. let q = dpc_cancelled S.dpcs x o h in or_still (ready_in kind.Dpc S.tree o) (ready_in kind.Dpc (with_node S.tree x (with_life life.Asked)) o) (defers plan o) (other kind.Dpc o q.1) (k.dpcs o q.0);
      items = λ o h. let q = work_cancelled S.work_items x o h in other kind.WorkItem o q.1 (k.items o q.0);
      timers = λ o h. let q = timer_stopped S.timers x o h in other kind.Timer o q.1 (k.timers o q.0);
    })
asked_one {A} plan S x false e k = subst (λ (U : State A). WorkKept plan (work_of U)) (sym (object_off S x e)) k

all_asked : {A : Type 0} (plan : Plan) (xs : List ℕ) (S : State A) → WorkKept plan (work_of S) → WorkKept plan (work_of (fold ask_object S xs))
all_asked plan [] S k = k
all_asked plan (x ∷ xs) S k = all_asked plan xs (ask_object S x) (asked_one plan S x (is_live (life_of S.tree x)) refl k)

-- ---- each deed

noted_same : (plan : Plan) (c : Callback) (n : Node) → ((k : Kind) → is_ready k (noted c n) ≡ is_ready k n) × (is_classed plan (noted c n) ≡ is_classed plan n)
noted_same plan callback.EvtDestroyCallback n = ((λ k. refl), refl)
noted_same plan _ n = ((λ k. refl), refl)

pub asked_off : (l : Life) → is_asked l ≡ true → is_live l ≡ false
asked_off life.Live h = absurd (let z : ⊥ = cc in z)
asked_off _ h = refl

cleaned_off : (l : Life) → is_cleaned l ≡ true → is_live l ≡ false
cleaned_off life.Live h = absurd (let z : ⊥ = cc in z)
cleaned_off _ h = refl

-- an object ends: it wasn't live
ended : (plan : Plan) (w : Work) (o : ℕ) → is_cleaned (life_of w.tree o) ≡ true → WorkKept plan w → WorkKept plan (record w { tree = tree.destroy w.tree o })
ended plan w o done k =
    tree_changes plan w (tree.destroy w.tree o)
    (λ x. elim (one_or_two x o) [
      | inl e ↦ ap (λ y. is_classed plan (node_of (tree.destroy w.tree o) y)) e ∙ ap (is_classed plan) (entry_put_same gone w.tree.nodes o gone)
      | inr n ↦ ap (is_classed plan) (entry_put_other gone w.tree.nodes o x gone n) ∙ k.classes x
    ])
    (λ j x h. reads_same (is_ready j) w.tree o (λ _. gone) (sym (left_fails (is_live (life_of w.tree o)) (same_kind (node_of w.tree o).kind j) (cleaned_off (life_of w.tree o) done))) x ∙ h) k

same_work : (plan : Plan) (v w : Work) → w ≡ v → WorkKept plan v → WorkKept plan w
same_work plan v w e k = subst (WorkKept plan) (sym e) k

classed_new : (plan : Plan) (k : Kind) (class parent : ℕ) → kind_of_class plan class ≡ k → is_classed plan (new_node k class parent) ≡ true
classed_new plan k class parent e = second (not (is_work_kind k)) (same_kind (kind_of_class plan class) k) ((kind_decides (kind_of_class plan class) k).1 e)

pub works_by : {A : Type 0} (plan : Plan) (d : Deed) (S : State A) → fits plan d S ≡ true → Sound plan d S → Apt plan d S → Comes plan d S → WorkKept plan (work_of S) → WorkKept plan (work_of (do_deed plan d S))
works_by plan (Create k class parent) S f s a c q = made plan (work_of S) k class parent.0 (classed_new plan k class parent.0 a) q
works_by plan (MakeRequest class parent) S f s a c q = made plan (work_of S) kind.Made class parent.0 refl q
works_by plan (Arrive device info p) S f s a c q = same_work plan _ _ (arrived S device.0 info p) (made plan (work_of S) kind.Request 0 device.0 refl q)
works_by plan (AskDeletion o) S f s a c q = all_asked plan (subtree S.tree o.0) S q
works_by plan (Refer o) S f s a c q = changed plan (work_of S) o.0 (λ m. record m { references = m.references + 1 }) (λ k. refl) refl q
works_by plan (Unrefer o) S f s a c q = changed plan (work_of S) o.0 (λ m. record m { references = m.references - 1 }) (λ k. refl) refl q
works_by plan (WriteCell o k v) S f s a c q = changed plan (work_of S) o.0 (λ m. record m { cells = slice_set m.cells k v }) (λ k. refl) refl q
works_by plan (Note o x) S f s a c q = let n = noted_same plan x (node_of S.tree o.0) in changed plan (work_of S) o.0 (noted x) n.0 n.1 q
works_by plan (CleanUp o) S f s a c q =
    let asked : is_asked (life_of S.tree o.0) ≡ true = search both_left in
    changed plan (work_of S) o.0 (with_life life.Cleaned) (λ k. sym (left_fails (is_live (life_of S.tree o.0)) (same_kind (node_of S.tree o.0).kind k) (asked_off (life_of S.tree o.0) asked))) refl q
works_by plan (EndLife o) S f s a c q = let done : is_cleaned (life_of S.tree o.0) ≡ true = search both_left in ended plan (work_of S) o.0 done q
works_by plan (Requeue r p) S f s a c q = same_work plan _ _ (gives_up work_of (λ S Q R P. refl) S r.0) q
works_by plan (Forward r p) S f s a c q = same_work plan _ _ (gives_up work_of (λ S Q R P. refl) S r.0) q
works_by plan (GiveBack r p) S f s a c q = same_work plan _ _ (gives_up work_of (λ S Q R P. refl) S r.0) q
works_by plan (SendRequest r t forget) S f s a c q = same_work plan _ _ (gives_up_if work_of (λ S Q R P. refl) S forget r.0) q
works_by plan (CompleteRequest r) S f s a c q =
    all_asked plan (subtree (give_up S r.0).tree r.0) (record (give_up S r.0) { requests = requests.complete S.requests r.0 }) (same_work plan _ _ (gives_up work_of (λ S Q R P. refl) S r.0) q)
works_by plan (PurgeQueue p) S f s a c q = same_work plan _ _ (withdraws work_of (λ S Q R P. refl) plan p.0 (waiting_in S.queues p.0) (record S { control = control.set_mode S.control p.0 mode.Purged })) q
works_by plan (CloseReturning d) S f s a c q = same_work plan _ _ (returns_closed work_of (λ S Q R P. refl) (managed_queues plan d.0) S) q
works_by plan (CloseDevice d) S f s a c q = same_work plan _ _ (queues_closed work_of (λ S Q R P. refl) (queues_of plan d.0) (record S { control = control.shut S.control d.0 })) q
works_by plan (EnqueueDpc cpu o) S f s a c q = record {
  classes = q.classes;
  dpcs = λ x h. elim (dpc_enqueued S.dpcs cpu.0 o.0 x h) [
    | inl e ↦ q.dpcs x e
    | inr e ↦ rw e c.0
  ];
  items = q.items;
  timers = q.timers;
}
works_by plan (CancelDpc o) S f s a c q = record { classes = q.classes; dpcs = λ x h. q.dpcs x (dpc_cancelled S.dpcs o.0 x h).0; items = q.items; timers = q.timers }
works_by plan (TakeDpc cpu) S f s a c q = record { classes = q.classes; dpcs = λ x h. q.dpcs x (dpc_taken S.dpcs cpu.0 x h); items = q.items; timers = q.timers }
works_by plan (EnqueueWork o) S f s a c q = record {
  classes = q.classes;
  dpcs = q.dpcs;
  items = λ x h. elim (work_enqueued S.work_items o.0 x h) [
    | inl e ↦ q.items x e
    | inr e ↦ rw e (both (is_live (life_of S.tree o.0)) (same_kind (kind_of S.tree o.0) kind.WorkItem) s a)
  ];
  timers = q.timers;
}
works_by plan (CancelWork o) S f s a c q = record { classes = q.classes; dpcs = q.dpcs; items = λ x h. q.items x (work_cancelled S.work_items o.0 x h).0; timers = q.timers }
works_by plan (StartTimer o ticks) S f s a c q = record {
  classes = q.classes;
  dpcs = q.dpcs;
  items = q.items;
  timers = λ x h. elim (timer_started S.timers o.0 S.clock ticks x h) [
    | inl e ↦ q.timers x e
    | inr e ↦ rw e (both (is_live (life_of S.tree o.0)) (same_kind (kind_of S.tree o.0) kind.Timer) s a)
  ];
}
works_by plan (StopTimer o) S f s a c q = record { classes = q.classes; dpcs = q.dpcs; items = q.items; timers = λ x h. q.timers x (timer_stopped S.timers o.0 x h).0 }
works_by plan (FireTimer o period) S f s a c q = record { classes = q.classes; dpcs = q.dpcs; items = q.items; timers = λ x h. q.timers x (timer_fired S.timers o.0 period x h) }
works_by plan _ S f s a c q = q
