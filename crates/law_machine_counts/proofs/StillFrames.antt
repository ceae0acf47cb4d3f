-- What still deeds keep of frames, steps and the tree.
use Rattle.std.proofs.Common.{if◌then◌else◌, ◌≡◌, ◌≢◌, ℕ, ◌+◌, ◌-◌, Bool, true, false, ◌&&◌, List, [], ◌∷◌, ◌⊎◌, inl, inr, is_some, fold, slice_set, refl, ap, sym, subst, ◌∙◌}
use Rattle.wdf_base.specs.declared.ids.ObjectId.{ObjectId}
use Rattle.wdf_base.specs.declared.plan.Plan.{Plan}
use Rattle.wdf_base.specs.declared.object.Kind.TheVariants as kind
use Rattle.wdf_base.specs.declared.object.Life.{Life}
use Rattle.wdf_base.specs.declared.object.Life.TheVariants as life
use Rattle.wdf_base.specs.declared.object.Place.{Place}
use Rattle.wdf_base.specs.declared.object.Place.TheVariants as place
use Rattle.wdf_base.specs.declared.object.RequestInfo.{RequestInfo}
use Rattle.wdf_base.specs.declared.call.Callback.{Callback}
use Rattle.wdf_base.specs.declared.call.Callback.TheVariants as callback
use Rattle.wdf_base.specs.declared.event.Ask.{Ask}
use Rattle.wdf_base.specs.Lives.{is_asked, is_gone, is_live, is_past_cleanup}
use Rattle.wdf_model.specs.declared.enums.Mode.TheVariants as mode
use Rattle.wdf_model.specs.declared.entries.Node.{Node}
use Rattle.wdf_model.specs.Plans.{managed_queues, queues_of}
use Rattle.wdf_model.specs.parts.Tree.{children, Tree, life_of, may_clean, node_of, noted, subtree, with_life}
use Rattle.wdf_model.specs.parts.Cpus.{frame_of}
use Rattle.wdf_model.specs.parts.Queues.{Queues, waiting_in}
use Rattle.wdf_model.specs.parts.Control as control
use Rattle.wdf_model.specs.parts.Power.{Power}
use Rattle.wdf_model.specs.parts.Requests as requests
use Rattle.wdf_model.specs.parts.Pnp.{Sequence, Pnp, is_running_step, no_sequence, sequence_of, steps_for}
use Rattle.wdf_model.specs.parts.Pnp as pnp
use Rattle.std.specs.List.{list_all}
use Rattle.wdf_model.specs.State.{State, is_with_driver, nothing_at}
use Rattle.wdf_model.specs.rules.Starts.{clean_ready, is_finished, is_unused}
use Rattle.wdf_model.specs.declared.deed.Deed.{Deed}
use Rattle.wdf_model.specs.declared.deed.Deed.TheVariants.{Create, MakeRequest, Arrive, AskDeletion, Refer, Unrefer, WriteCell, Note, CleanUp, Raise, Lower, Requeue, Forward, GiveBack, SendRequest, CompleteRequest, PurgeQueue, CloseDevice, CloseReturning, AskDevice, PushFrame, GoOn, PopFrame, ParkFrame, UnparkFrame, TakeStep, EndStep, EndLife}
use Rattle.wdf_model.specs.rules.Deeds.{arrive_at, ask_object, close_queue, close_returning, do_deed, do_deeds, give_up, give_up_if, withdraw}
use Rattle.law_machine_base.specs.Fits.{all_fit, fits}
use Rattle.wdf_model.proofs.Maps.{entry_put_other, entry_put_same}
use Rattle.wdf_model.proofs.Tests.{both_left, both_right}
use Rattle.law_machine_base.proofs.Deletion.{object_live, object_off}
use Rattle.wdf_model.proofs.Counts.{one_or_two}
use Rattle.law_machine_counts.proofs.StillDeeds.{all_still, is_still_deed}
use Rattle.law_machine_counts.proofs.Trees.{TreeStays, tree_changes, tree_grows, tree_same, tree_then}

pub record Still {A : Type 0} (S U : State A) : Type 0 where
  pub number : U.number ≡ S.number
  pub stacks : U.cpus.stacks ≡ S.cpus.stacks
  pub parked : U.cpus.parked ≡ S.cpus.parked
  pub frames : (f : ℕ) → frame_of U.cpus f ≡ frame_of S.cpus f
  pub running : (d : ℕ) → is_running_step U.pnp d ≡ is_running_step S.pnp d
  pub tree : TreeStays S.tree U.tree

pub still_same : {A : Type 0} (S : State A) → Still S S
still_same S = record { number = refl; stacks = refl; parked = refl; frames = λ f. refl; running = λ d. refl; tree = tree_same S.tree }

pub still_then : {A : Type 0} (S U V : State A) → Still S U → Still U V → Still S V
still_then S U V a b = record {
  number = b.number ∙ a.number;
  stacks = b.stacks ∙ a.stacks;
  parked = b.parked ∙ a.parked;
  frames = λ f. b.frames f ∙ a.frames f;
  running = λ d. b.running d ∙ a.running d;
  tree = tree_then S.tree U.tree V.tree a.tree b.tree;
}

-- only the tree changes
by_tree : {A : Type 0} (S : State A) (T : Tree) → TreeStays S.tree T → Still S (record S { tree = T })
by_tree S T t = record { number = refl; stacks = refl; parked = refl; frames = λ f. refl; running = λ d. refl; tree = t }

pub live_there : (l : Life) → is_live l ≡ true → is_gone l ≡ false
live_there life.Gone h = absurd (let z : ⊥ = cc in z)
live_there _ h = refl

pub asked_there : (l : Life) → is_asked l ≡ true → is_gone l ≡ false
asked_there life.Gone h = absurd (let z : ⊥ = cc in z)
asked_there _ h = refl

pub asked_at : {A : Type 0} (S : State A) (o : ℕ) → clean_ready S o ≡ true → is_asked (life_of S.tree o) ≡ true
asked_at S o h = both_left (is_asked (life_of S.tree o)) (list_all (λ x. is_past_cleanup (life_of S.tree x)) (children S.tree o)) (both_left (is_asked (life_of S.tree o) && list_all (λ x. is_past_cleanup (life_of S.tree x)) (children S.tree o)) _ (both_left (may_clean S.tree o) (is_unused S o) (both_left (may_clean S.tree o && is_unused S o) (is_finished S o) (both_left (may_clean S.tree o && is_unused S o && is_finished S o) (nothing_at S o) h))))

asked_one : {A : Type 0} (S : State A) (x : ℕ) (b : Bool) → is_live (life_of S.tree x) ≡ b → Still S (ask_object S x)
asked_one {A} S x true h = subst (λ (U : State A). Still S U) (sym (object_live S x h)) (record {
  number = refl;
  stacks = refl;
  parked = refl;
  frames = λ f. refl;
  running = λ d. refl;
  tree = tree_changes S.tree x (with_life life.Asked) (λ n. refl) (λ n. refl) (sym (live_there (life_of S.tree x) h));
})
asked_one {A} S x false h = subst (λ (U : State A). Still S U) (sym (object_off S x h)) (still_same S)

all_asked : {A : Type 0} (xs : List ℕ) (S : State A) → Still S (fold ask_object S xs)
all_asked [] S = still_same S
all_asked (x ∷ xs) S = still_then S (ask_object S x) _ (asked_one S x (is_live (life_of S.tree x)) refl) (all_asked xs (ask_object S x))

given_by : {A : Type 0} (S : State A) (b : Bool) (Q : Queues) (P : Power) → Still S (if b then record S { queues = Q; power = P } else S)
given_by S true Q P = record { number = refl; stacks = refl; parked = refl; frames = λ f. refl; running = λ d. refl; tree = tree_same S.tree }
given_by S false Q P = still_same S

gives_up : {A : Type 0} (S : State A) (r : ℕ) → Still S (give_up S r)
gives_up S r = given_by S (is_with_driver S r) _ _

sends : {A : Type 0} (S : State A) (r : ℕ) (forget : Bool) → Still S (give_up_if forget S r)
sends S r true = gives_up S r
sends S r false = still_same S

all_withdrawn : {A : Type 0} (plan : Plan) (q : ℕ) (rs : List ℕ) (S : State A) → Still S (fold (withdraw plan q) S rs)
all_withdrawn plan q [] S = still_same S
all_withdrawn plan q (r ∷ rs) S = let k = all_withdrawn plan q rs (withdraw plan q S r) in record { number = k.number; stacks = k.stacks; parked = k.parked; frames = k.frames; running = k.running; tree = k.tree }

all_returning_closed : {A : Type 0} (qs : List ℕ) (S : State A) → Still S (fold close_returning S qs)
all_returning_closed [] S = still_same S
all_returning_closed (q ∷ qs) S = let k = all_returning_closed qs (close_returning S q) in record { number = k.number; stacks = k.stacks; parked = k.parked; frames = k.frames; running = k.running; tree = k.tree }

all_queues_closed : {A : Type 0} (qs : List ℕ) (S : State A) → Still S (fold close_queue S qs)
all_queues_closed [] S = still_same S
all_queues_closed (q ∷ qs) S = let k = all_queues_closed qs (close_queue S q) in record { number = k.number; stacks = k.stacks; parked = k.parked; frames = k.frames; running = k.running; tree = k.tree }

asked_running : (Q : Pnp) (d x : ℕ) (a : Ask) → (x ≡ d) ⊎ (x ≢ d) → is_running_step (pnp.ask Q d a) x ≡ is_running_step Q x
asked_running Q d x a (inl e) = rw e (ap (λ (q : Sequence). is_some q.running) (entry_put_same no_sequence Q.devices d (record (sequence_of Q d) { left = steps_for (sequence_of Q d).steps (sequence_of Q d).ever_working (sequence_of Q d).phase a })))
asked_running Q d x a (inr n) = ap (λ (q : Sequence). is_some q.running) (entry_put_other no_sequence Q.devices d x (record (sequence_of Q d) { left = steps_for (sequence_of Q d).steps (sequence_of Q d).ever_working (sequence_of Q d).phase a }) n)

arrives_there : {A : Type 0} (S : State A) (device : ℕ) (info : RequestInfo) (p : Place) → Still S (arrive_at S device info p)
arrives_there S device info (place.Queued q) = record { number = refl; stacks = refl; parked = refl; frames = λ f. refl; running = λ d. refl; tree = tree_grows S.tree kind.Request 0 device }
arrives_there S device info _ = record { number = refl; stacks = refl; parked = refl; frames = λ f. refl; running = λ d. refl; tree = tree_grows S.tree kind.Request 0 device }

noted_kept : (c : Callback) (n : Node) → ((noted c n).kind ≡ n.kind) × ((noted c n).parent ≡ n.parent) × (is_gone (noted c n).life ≡ is_gone n.life)
noted_kept callback.EvtCleanupCallback n = (refl, refl, refl)
noted_kept callback.EvtDestroyCallback n = (refl, refl, refl)
noted_kept _ n = (refl, refl, refl)

deed_still : {A : Type 0} (plan : Plan) (d : Deed) (S : State A) → is_still_deed d ≡ true → fits plan d S ≡ true → Still S (do_deed plan d S)
deed_still plan (Create k class parent) S h f = by_tree S _ (tree_grows S.tree k class parent.0)
deed_still plan (MakeRequest class parent) S h f = record { number = refl; stacks = refl; parked = refl; frames = λ x. refl; running = λ d. refl; tree = tree_grows S.tree kind.Made class parent.0 }
deed_still plan (Arrive device info p) S h f = arrives_there S device.0 info p
deed_still plan (AskDeletion o) S h f = all_asked (subtree S.tree o.0) S
deed_still plan (Refer o) S h f = by_tree S _ (tree_changes S.tree o.0 (λ n. record n { references = n.references + 1 }) (λ n. refl) (λ n. refl) refl)
deed_still plan (Unrefer o) S h f = by_tree S _ (tree_changes S.tree o.0 (λ n. record n { references = n.references - 1 }) (λ n. refl) (λ n. refl) refl)
deed_still plan (WriteCell o c v) S h f = by_tree S _ (tree_changes S.tree o.0 (λ n. record n { cells = slice_set n.cells c v }) (λ n. refl) (λ n. refl) refl)
deed_still plan (Note o c) S h f = by_tree S _ (tree_changes S.tree o.0 (noted c) (λ n. (noted_kept c n).0) (λ n. ap (λ (p : ObjectId). p.0) (noted_kept c n).1) (noted_kept c (node_of S.tree o.0)).2)
deed_still plan (CleanUp o) S h f = by_tree S _ (tree_changes S.tree o.0 (with_life life.Cleaned) (λ n. refl) (λ n. refl)
    (sym (asked_there (life_of S.tree o.0) (asked_at S o.0 f))))
deed_still plan (Raise g level) S h f = record { number = refl; stacks = refl; parked = refl; frames = λ x. refl; running = λ d. refl; tree = tree_same S.tree }
deed_still plan (Lower g level) S h f = record { number = refl; stacks = refl; parked = refl; frames = λ x. refl; running = λ d. refl; tree = tree_same S.tree }
deed_still plan (Requeue r q) S h f = let k = gives_up S r.0 in record { number = k.number; stacks = k.stacks; parked = k.parked; frames = k.frames; running = k.running; tree = k.tree }
deed_still plan (Forward r q) S h f = let k = gives_up S r.0 in record { number = k.number; stacks = k.stacks; parked = k.parked; frames = k.frames; running = k.running; tree = k.tree }
deed_still plan (GiveBack r q) S h f = let k = gives_up S r.0 in record { number = k.number; stacks = k.stacks; parked = k.parked; frames = k.frames; running = k.running; tree = k.tree }
deed_still plan (SendRequest r t forget) S h f = let k = sends S r.0 forget in record { number = k.number; stacks = k.stacks; parked = k.parked; frames = k.frames; running = k.running; tree = k.tree }
deed_still plan (CompleteRequest r) S h f =
    let k = gives_up S r.0 in
    still_then S (record (give_up S r.0) { requests = requests.complete S.requests r.0 }) _ (record { number = k.number; stacks = k.stacks; parked = k.parked; frames = k.frames; running = k.running; tree = k.tree })
    (all_asked (subtree (give_up S r.0).tree r.0) (record (give_up S r.0) { requests = requests.complete S.requests r.0 }))
deed_still plan (PurgeQueue q) S h f = let k = all_withdrawn plan q.0 (waiting_in S.queues q.0) (record S { control = control.set_mode S.control q.0 mode.Purged }) in record { number = k.number; stacks = k.stacks; parked = k.parked; frames = k.frames; running = k.running; tree = k.tree }
deed_still plan (CloseReturning d) S h f = all_returning_closed (managed_queues plan d.0) S
deed_still plan (CloseDevice d) S h f = let k = all_queues_closed (queues_of plan d.0) (record S { control = control.shut S.control d.0 }) in record { number = k.number; stacks = k.stacks; parked = k.parked; frames = k.frames; running = k.running; tree = k.tree }
deed_still plan (AskDevice d a) S h f = record { number = refl; stacks = refl; parked = refl; frames = λ x. refl; running = λ x. asked_running S.pnp d.0 x a (one_or_two x d.0); tree = tree_same S.tree }
deed_still plan (PushFrame cpu f frame level) S h k = absurd (let z : ⊥ = cc in z)
deed_still plan (GoOn f frame) S h k = absurd (let z : ⊥ = cc in z)
deed_still plan (PopFrame cpu) S h k = absurd (let z : ⊥ = cc in z)
deed_still plan (ParkFrame cpu) S h k = absurd (let z : ⊥ = cc in z)
deed_still plan (UnparkFrame cpu f) S h k = absurd (let z : ⊥ = cc in z)
deed_still plan (TakeStep d) S h k = absurd (let z : ⊥ = cc in z)
deed_still plan (EndStep d s result) S h k = absurd (let z : ⊥ = cc in z)
deed_still plan (EndLife o) S h k = absurd (let z : ⊥ = cc in z)
deed_still plan _ S h f = record { number = refl; stacks = refl; parked = refl; frames = λ x. refl; running = λ d. refl; tree = tree_same S.tree }

pub deeds_still : {A : Type 0} (plan : Plan) (ds : List Deed) (S : State A) → all_still ds ≡ true → all_fit plan ds S ≡ true → Still S (do_deeds plan ds S)
deeds_still plan [] S h f = still_same S
deeds_still plan (d ∷ ds) S h f =
    still_then S (do_deed plan d S) _ (deed_still plan d S (both_left (is_still_deed d) (all_still ds) h) (both_left (fits plan d S) (all_fit plan ds (do_deed plan d S)) f))
    (deeds_still plan ds (do_deed plan d S) (both_right (is_still_deed d) (all_still ds) h) (both_right (fits plan d S) (all_fit plan ds (do_deed plan d S)) f))
