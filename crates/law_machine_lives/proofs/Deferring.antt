-- Deferred work that is queued is of an object that is live, at each place of every run.
use Rattle.std.proofs.Common.{◌≡◌, ◌≢◌, ℕ, zero, suc, ◌+◌, ◌-◌, Bool, true, false, ◌||◌, List, [], ◌∷◌, inl, inr, is_some, fold, slice_set, replicate, take, refl, sym, ap, subst, ◌∙◌, arith}
use Rattle.std.specs.List.{list_any}
use Rattle.wdf_base.specs.Meaning.{Meaning}
use Rattle.wdf_base.specs.declared.plan.Plan.{Plan}
use Rattle.wdf_base.specs.declared.event.Event.{Event}
use Rattle.wdf_base.specs.declared.object.Kind.{Kind}
use Rattle.wdf_base.specs.declared.object.Kind.TheVariants as kind
use Rattle.wdf_base.specs.declared.object.Life.TheVariants as life
use Rattle.wdf_base.specs.declared.object.Place.{Place}
use Rattle.wdf_base.specs.declared.object.Place.TheVariants as place
use Rattle.wdf_base.specs.declared.object.RequestInfo.{RequestInfo}
use Rattle.wdf_base.specs.Lives.{is_asked, is_cleaned, is_live}
use Rattle.wdf_model.specs.declared.enums.Mode.TheVariants as mode
use Rattle.wdf_model.specs.declared.entries.Node.{Node}
use Rattle.wdf_model.specs.Tables.{contains}
use Rattle.wdf_model.specs.Plans.{interrupt_of, managed_queues, queues_of}
use Rattle.wdf_model.specs.parts.Tree.{Tree, gone, life_of, new_node, next_id, node_of, noted, subtree, with_life, with_node}
use Rattle.wdf_model.specs.parts.Tree as tree
use Rattle.wdf_model.specs.parts.Requests as requests
use Rattle.wdf_model.specs.parts.Queues.{waiting_in}
use Rattle.wdf_model.specs.parts.Control as control
use Rattle.wdf_model.specs.parts.Deferred.Dpcs.{Dpcs, is_dpc_queued}
use Rattle.wdf_model.specs.parts.Deferred.WorkItems.{WorkItems, is_work_queued}
use Rattle.wdf_model.specs.parts.Deferred.Timers.{Timers, is_timer_queued}
use Rattle.wdf_model.specs.State.{State}
use Rattle.wdf_model.specs.declared.deed.Deed.{Deed}
use Rattle.wdf_model.specs.declared.deed.Deed.TheVariants.{Create, MakeRequest, Arrive, AskDeletion, Refer, Unrefer, WriteCell, Note, CleanUp, EndLife, Requeue, Forward, GiveBack, SendRequest, CompleteRequest, PurgeQueue, CloseReturning, CloseDevice, EnqueueDpc, CancelDpc, TakeDpc, EnqueueWork, CancelWork, StartTimer, StopTimer, FireTimer}
use Rattle.wdf_model.specs.rules.Deeds.{arrive_at, ask_object, do_deed, give_up}
use Rattle.wdf_model.specs.rules.Ready.{IsRunOf, state_after}
use Rattle.law_machine_base.specs.Fits.{fits}
use Rattle.wdf_model.proofs.Tests.{both_left}
use Rattle.wdf_model.proofs.Maps.{entry_before, entry_past, entry_put_other}
use Rattle.law_machine_base.proofs.Deletion.{object_live, object_off}
use Rattle.law_machine_lives.specs.Agreements.{WorkIsLive}
use Rattle.law_machine_lives.proofs.Stays.{gives_up, gives_up_if, queues_closed, returns_closed, withdraws}
use Rattle.law_machine_lives.proofs.Lists.{reads_same}
use Rattle.law_machine_lives.proofs.Queued.{dpc_cancelled, dpc_enqueued, dpc_taken, timer_fired, timer_started, timer_stopped, work_cancelled, work_enqueued}
use Rattle.law_machine_lives.proofs.Sound.{Sound}
use Rattle.law_machine_lives.proofs.SoundRuns.{sound_place}
use Rattle.law_machine_lives.proofs.Lives.{asked_off, cleaned_off, noted_life}
use Rattle.law_machine_lives.proofs.Choices.{left_of, or_still}

-- the objects and the queues of deferred work
pub record Work : Type 0 where
  pub tree : Tree
  pub dpcs : Dpcs
  pub items : WorkItems
  pub timers : Timers

abbrev pub work_of : {A : Type 0} → State A → Work
work_of S = record { tree = S.tree; dpcs = S.dpcs; items = S.work_items; timers = S.timers }

pub record Deferring (plan : Plan) (w : Work) : Type 0 where
  pub dpcs : (o : ℕ) → is_dpc_queued w.dpcs o ≡ true → (is_live (life_of w.tree o) || is_some (interrupt_of plan o)) ≡ true
  pub items : (o : ℕ) → is_work_queued w.items o ≡ true → is_live (life_of w.tree o) ≡ true
  pub timers : (o : ℕ) → is_timer_queued w.timers o ≡ true → is_live (life_of w.tree o) ≡ true

-- ---- the objects change

tree_changes : (plan : Plan) (w : Work) (T : Tree) → ((x : ℕ) → is_live (life_of w.tree x) ≡ true → is_live (life_of T x) ≡ true) → Deferring plan w → Deferring plan (record w { tree = T })
tree_changes plan w T still k = record {
  dpcs = λ o h. or_still (is_live (life_of w.tree o)) (is_live (life_of T o)) (is_some (interrupt_of plan o)) (still o) (k.dpcs o h);
  items = λ o h. still o (k.items o h);
  timers = λ o h. still o (k.timers o h);
}

live_same : (T : Tree) (o : ℕ) (f : Node → Node) → is_live (f (node_of T o)).life ≡ is_live (life_of T o) → (x : ℕ) → is_live (life_of T x) ≡ true → is_live (life_of (with_node T o f) x) ≡ true
live_same T o f lives x h = reads_same (λ n. is_live n.life) T o f lives x ∙ h

live_made : (T : Tree) (k : Kind) (class parent x : ℕ) → is_live (life_of T x) ≡ true → is_live (life_of (tree.create T k class parent) x) ≡ true
live_made T k class parent x h =
    let apart : x ≢ next_id T = λ e. let past : is_live (life_of T x) ≡ false = rw e (ap (λ (n : Node). is_live n.life) (entry_past gone T.nodes (next_id T) (omega arith))) in let z : ⊥ = cc in z in
    ap (λ (n : Node). is_live n.life) (entry_before gone T.nodes (new_node k class parent) x apart) ∙ h

-- ---- a deletion is asked: what isn't live leaves its queue

asked_one : {A : Type 0} (plan : Plan) (S : State A) (x : ℕ) (b : Bool) → is_live (life_of S.tree x) ≡ b → Deferring plan (work_of S) → Deferring plan (work_of (ask_object S x))
asked_one {A} plan S x true e k =
    let other = λ (o : ℕ) (n : o ≢ x) (h : is_live (life_of S.tree o) ≡ true). ap (λ (m : Node). is_live m.life) (entry_put_other gone S.tree.nodes x o (with_life life.Asked (node_of S.tree x)) n) ∙ h in
    subst (λ (U : State A). Deferring plan (work_of U)) (sym (object_live S x e)) (record {
      dpcs = λ o h. let q = dpc_cancelled S.dpcs x o h in or_still (is_live (life_of S.tree o)) (is_live (life_of (with_node S.tree x (with_life life.Asked)) o)) (is_some (interrupt_of plan o)) (other o q.1) (k.dpcs o q.0);
      items = λ o h. let q = work_cancelled S.work_items x o h in other o q.1 (k.items o q.0);
      timers = λ o h. let q = timer_stopped S.timers x o h in other o q.1 (k.timers o q.0);
    })
asked_one {A} plan S x false e k = subst (λ (U : State A). Deferring plan (work_of U)) (sym (object_off S x e)) k

all_asked : {A : Type 0} (plan : Plan) (xs : List ℕ) (S : State A) → Deferring plan (work_of S) → Deferring plan (work_of (fold ask_object S xs))
all_asked plan [] S k = k
all_asked plan (x ∷ xs) S k = all_asked plan xs (ask_object S x) (asked_one plan S x (is_live (life_of S.tree x)) refl k)

-- ---- each deed

pub arrived : {A : Type 0} (S : State A) (device : ℕ) (info : RequestInfo) (p : Place) → work_of (arrive_at S device info p) ≡ record (work_of S) { tree = tree.arrive S.tree device }
arrived S device info (place.Queued q) = refl
arrived S device info _ = refl

same_work : (plan : Plan) (v w : Work) → w ≡ v → Deferring plan v → Deferring plan w
same_work plan v w e k = subst (Deferring plan) (sym e) k

deferring_by : {A : Type 0} (plan : Plan) (d : Deed) (S : State A) → fits plan d S ≡ true → Sound plan d S → Deferring plan (work_of S) → Deferring plan (work_of (do_deed plan d S))
deferring_by plan (Create k class parent) S f s q = tree_changes plan (work_of S) (tree.create S.tree k class parent.0) (live_made S.tree k class parent.0) q
deferring_by plan (MakeRequest class parent) S f s q = tree_changes plan (work_of S) (tree.create S.tree kind.Made class parent.0) (live_made S.tree kind.Made class parent.0) q
deferring_by plan (Arrive device info p) S f s q = same_work plan _ _ (arrived S device.0 info p) (tree_changes plan (work_of S) (tree.arrive S.tree device.0) (live_made S.tree kind.Request 0 device.0) q)
deferring_by plan (AskDeletion o) S f s q = all_asked plan (subtree S.tree o.0) S q
deferring_by plan (Refer o) S f s q = tree_changes plan (work_of S) _ (live_same S.tree o.0 (λ m. record m { references = m.references + 1 }) refl) q
deferring_by plan (Unrefer o) S f s q = tree_changes plan (work_of S) _ (live_same S.tree o.0 (λ m. record m { references = m.references - 1 }) refl) q
deferring_by plan (WriteCell o k v) S f s q = tree_changes plan (work_of S) _ (live_same S.tree o.0 (λ m. record m { cells = slice_set m.cells k v }) refl) q
deferring_by plan (Note o c) S f s q = tree_changes plan (work_of S) _ (live_same S.tree o.0 (noted c) (ap is_live (noted_life c (node_of S.tree o.0)))) q
deferring_by plan (CleanUp o) S f s q =
    let asked : is_asked (life_of S.tree o.0) ≡ true = search both_left in
    tree_changes plan (work_of S) _ (live_same S.tree o.0 (with_life life.Cleaned) (asked_off (life_of S.tree o.0) asked)) q
deferring_by plan (EndLife o) S f s q =
    let done : is_cleaned (life_of S.tree o.0) ≡ true = search both_left in
    tree_changes plan (work_of S) _ (live_same S.tree o.0 (λ _. gone) (cleaned_off (life_of S.tree o.0) done)) q
deferring_by plan (Requeue r p) S f s q = same_work plan _ _ (gives_up work_of (λ S Q R P. refl) S r.0) q
deferring_by plan (Forward r p) S f s q = same_work plan _ _ (gives_up work_of (λ S Q R P. refl) S r.0) q
deferring_by plan (GiveBack r p) S f s q = same_work plan _ _ (gives_up work_of (λ S Q R P. refl) S r.0) q
deferring_by plan (SendRequest r t forget) S f s q = same_work plan _ _ (gives_up_if work_of (λ S Q R P. refl) S forget r.0) q
deferring_by plan (CompleteRequest r) S f s q =
    all_asked plan (subtree (give_up S r.0).tree r.0) (record (give_up S r.0) { requests = requests.complete S.requests r.0 }) (same_work plan _ _ (gives_up work_of (λ S Q R P. refl) S r.0) q)
deferring_by plan (PurgeQueue p) S f s q = same_work plan _ _ (withdraws work_of (λ S Q R P. refl) plan p.0 (waiting_in S.queues p.0) (record S { control = control.set_mode S.control p.0 mode.Purged })) q
deferring_by plan (CloseReturning d) S f s q = same_work plan _ _ (returns_closed work_of (λ S Q R P. refl) (managed_queues plan d.0) S) q
deferring_by plan (CloseDevice d) S f s q = same_work plan _ _ (queues_closed work_of (λ S Q R P. refl) (queues_of plan d.0) (record S { control = control.shut S.control d.0 })) q
deferring_by plan (EnqueueDpc cpu o) S f s q = record {
  dpcs = λ x h. elim (dpc_enqueued S.dpcs cpu.0 o.0 x h) [
    | inl e ↦ q.dpcs x e
    | inr e ↦ rw e s
  ];
  items = q.items;
  timers = q.timers;
}
deferring_by plan (CancelDpc o) S f s q = record { dpcs = λ x h. q.dpcs x (dpc_cancelled S.dpcs o.0 x h).0; items = q.items; timers = q.timers }
deferring_by plan (TakeDpc cpu) S f s q = record { dpcs = λ x h. q.dpcs x (dpc_taken S.dpcs cpu.0 x h); items = q.items; timers = q.timers }
deferring_by plan (EnqueueWork o) S f s q = record {
  dpcs = q.dpcs;
  items = λ x h. elim (work_enqueued S.work_items o.0 x h) [
    | inl e ↦ q.items x e
    | inr e ↦ rw e s
  ];
  timers = q.timers;
}
deferring_by plan (CancelWork o) S f s q = record { dpcs = q.dpcs; items = λ x h. q.items x (work_cancelled S.work_items o.0 x h).0; timers = q.timers }
deferring_by plan (StartTimer o ticks) S f s q = record {
  dpcs = q.dpcs;
  items = q.items;
  timers = λ x h. elim (timer_started S.timers o.0 S.clock ticks x h) [
    | inl e ↦ q.timers x e
    | inr e ↦ rw e s
  ];
}
deferring_by plan (StopTimer o) S f s q = record { dpcs = q.dpcs; items = q.items; timers = λ x h. q.timers x (timer_stopped S.timers o.0 x h).0 }
deferring_by plan (FireTimer o period) S f s q = record { dpcs = q.dpcs; items = q.items; timers = λ x h. q.timers x (timer_fired S.timers o.0 period x h) }
deferring_by plan _ S f s q = q

-- ---- each place of a run

pub none_queued : (x n : ℕ) → list_any (contains x) (replicate n []) ≡ true → ⊥
none_queued x zero h = let z : ⊥ = cc in z
none_queued x (suc n) h = none_queued x n h

pub deferring_at_each : {A : Type 0} (plan : Plan) (m : Meaning A) (run : List Event) → IsRunOf plan m run → (n : ℕ) → Deferring plan (work_of (state_after plan m (take n run)))
deferring_at_each {A} plan m run is_run n = sound_place plan m (λ (S : State A). Deferring plan (work_of S))
    (record { dpcs = λ o h. absurd (none_queued o plan.cpus h); items = λ o h. absurd (let z : ⊥ = cc in z); timers = λ o h. absurd (let z : ⊥ = cc in z) })
    (deferring_by plan) (λ e S q. q) run is_run n

pub work_is_live_at_each : {A : Type 0} (plan : Plan) (m : Meaning A) (run : List Event) → IsRunOf plan m run → (n : ℕ) → WorkIsLive plan (state_after plan m (take n run))
work_is_live_at_each plan m run is_run n =
    let S = state_after plan m (take n run) in
    let q = deferring_at_each plan m run is_run n in
    record { dpcs = λ o n h. left_of (is_live (life_of S.tree o)) (is_some (interrupt_of plan o)) n (q.dpcs o h); items = q.items; timers = q.timers }
