-- A live device has its queues, interrupts and targets. Only a live device has requests that aren't done, or steps
-- left. Each deed that asks for the deletion of nothing but what may go keeps this.
use Rattle.std.proofs.Common.{◌≡◌, ℕ, ◌+◌, ◌-◌, ◌==◌, ◌<◌, ◌≤◌, Bool, true, false, not, ◌&&◌, ◌||◌, List, [], ◌∷◌, inl, inr, Option, Some, None, is_some, fold, length, slice_set, refl, sym, ap, subst, ◌∙◌, arith}
use Rattle.std.specs.Prelude.{⊤}
use Rattle.std.proofs.lemmas.Bool.{cases_Bool}
use Rattle.wdf_base.specs.Plan.{declared_of}
use Rattle.wdf_base.specs.declared.plan.Plan.{Plan}
use Rattle.wdf_base.specs.declared.declared.Declared.{Declared}
use Rattle.wdf_base.specs.declared.event.Ask.{Ask}
use Rattle.wdf_base.specs.declared.object.Kind.{Kind}
use Rattle.wdf_base.specs.declared.object.Kind.TheVariants as kind
use Rattle.wdf_base.specs.declared.object.Life.TheVariants as life
use Rattle.wdf_base.specs.declared.object.Place.{Place}
use Rattle.wdf_base.specs.declared.object.Place.TheVariants as place
use Rattle.wdf_base.specs.declared.call.Callback.TheVariants as callback
use Rattle.wdf_base.specs.Same.{same_kind}
use Rattle.wdf_base.specs.Lives.{is_asked, is_cleaned, is_gone, is_live}
use Rattle.wdf_base.specs.Places.{is_done}
use Rattle.wdf_model.specs.declared.enums.Mode.TheVariants as mode
use Rattle.wdf_model.specs.declared.entries.Node.{Node}
use Rattle.wdf_model.specs.declared.entries.Request.{Request}
use Rattle.wdf_model.specs.Tables.{contains, first_of_list}
use Rattle.wdf_model.specs.Plans.{declares, device_of, interrupt_of, managed_queues, queues_of, target_of}
use Rattle.wdf_model.specs.parts.Tree.{Tree, gone, kind_of, life_of, new_node, node_of, noted, parent_of, subtree, with_life, with_node}
use Rattle.wdf_model.specs.parts.Tree as tree
use Rattle.wdf_model.specs.parts.Queues.{waiting_in}
use Rattle.wdf_model.specs.parts.Control as control
use Rattle.wdf_model.specs.parts.Interrupts.{is_enabled}
use Rattle.wdf_model.specs.parts.Requests.{has_arrived, request_of}
use Rattle.wdf_model.specs.parts.Requests as requests
use Rattle.wdf_model.specs.parts.Pnp.{Pnp, Sequence, is_running_step, left_after, next_step, no_sequence, sequence_of, steps_for, steps_left, taken_step, with_sequence}
use Rattle.wdf_model.specs.State.{State, nothing_at}
use Rattle.wdf_model.specs.Ids.{object_id}
use Rattle.wdf_model.specs.declared.deed.Deed.{Deed}
use Rattle.wdf_model.specs.declared.deed.Deed.TheVariants.{Create, MakeRequest, Arrive, AskDeletion, Refer, Unrefer, WriteCell, Note, CleanUp, EndLife, Requeue, Forward, GiveBack, SendRequest, CompleteRequest, PurgeQueue, CloseReturning, CloseDevice, AskDevice, TakeStep, EndStep, EnqueueDpc}
use Rattle.wdf_model.specs.rules.Deeds.{arrive_at, ask_object, ask_objects, do_deed, give_up}
use Rattle.wdf_model.specs.rules.Starts.{is_unfinished_at}
use Rattle.law_machine_base.specs.Fits.{fits}
use Rattle.wdf_model.proofs.Tests.{both, both_left, both_right, itself}
use Rattle.wdf_model.proofs.Maps.{entry_before, entry_put_other, entry_put_same}
use Rattle.wdf_model.proofs.Counts.{one_or_two}
use Rattle.law_machine_base.proofs.Deletion.{object_live, object_off}
use Rattle.law_machine_counts.proofs.HeldMoves.{Placed}
use Rattle.law_machine_counts.proofs.StillFrames.{asked_there, live_there}
use Rattle.wdf_model.specs.rules.Groups.{declared_end}
use Rattle.law_machine_lives.proofs.Lists.{inside, reads_same}
use Rattle.law_machine_lives.proofs.Sound.{Sound}
use Rattle.law_machine_lives.proofs.Stays.{gives_up, gives_up_if, queues_closed, returns_closed, withdraws, asks_all}
use Rattle.law_trace_families.proofs.Families.{declared_within}
use Rattle.law_stuck_named.specs.Standing.{IsOver, is_live_device, is_part, is_part_of}
use Rattle.law_machine_lives.proofs.Subtrees.{live_unasked, unasked_stays}
use Rattle.law_machine_lives.proofs.Readers.{tree_of}
use Rattle.law_machine_lives.proofs.Lives.{asked_off, cleaned_off, noted_kept}
use Rattle.law_machine_lives.proofs.PartsStay.{tree_stays}
use Rattle.law_stuck_named.proofs.Lasting.{Lasts, lasts_asked, lasts_ended, lasts_taken}
use Rattle.law_stuck_named.proofs.Opened.{ArrivesWell, Opened, is_undone_request, opened_asked, opened_by, opened_completed}
use Rattle.law_machine_counts.proofs.Arrived.{arrived_tree}
use Rattle.law_machine_lives.proofs.AllOf.{AllOf}

-- ---- the property

abbrev pub lives_in : Tree → ℕ → Bool
lives_in T x = is_live (life_of T x)

abbrev pub is_device_in : Plan → Tree → ℕ → Bool
is_device_in plan T x = is_some (device_of plan x) && is_live (life_of T x)

-- the first id is that of no object
pub record IsRoot (T : Tree) : Type 0 where
  pub parent : parent_of T 0 ≡ 0
  pub gone : is_gone (life_of T 0) ≡ true

pub record Stands {A : Type 0} (plan : Plan) (S : State A) : Type 0 where
  pub root : IsRoot S.tree
  pub parts : (d x : ℕ) → is_part_of plan d x ≡ true → is_live (life_of S.tree d) ≡ true → is_live (life_of S.tree x) ≡ true
  pub opened : Opened plan (is_device_in plan S.tree) S.requests
  pub lasts : (d : ℕ) → Lasts (steps_left S.pnp d)
  pub over : (d : ℕ) → is_live_device plan S d ≡ false → IsOver (sequence_of S.pnp d)

-- an object may be deleted with what is below it. With a queue, an interrupt or a target its device goes. A device that
-- goes is over and has no request that isn't done. Nothing is at a target that goes.
pub record Removable {A : Type 0} (plan : Plan) (S : State A) (o : ℕ) : Type 0 where
  pub parts : (d x : ℕ) → is_part_of plan d x ≡ true → is_live (life_of S.tree x) ≡ true → contains x (subtree S.tree o) ≡ true → contains d (subtree S.tree o) ≡ true
  pub devices : (d : ℕ) → is_live_device plan S d ≡ true → contains d (subtree S.tree o) ≡ true → IsOver (sequence_of S.pnp d) × ((r : ℕ) → is_unfinished_at d (request_of S.requests r) ≡ false)
  pub targets : (t : ℕ) → is_some (target_of plan t) ≡ true → is_live (life_of S.tree t) ≡ true → contains t (subtree S.tree o) ≡ true → nothing_at S t ≡ true

-- a live object of a kind
abbrev pub is_ready : Kind → Node → Bool
is_ready k n = is_live n.life && same_kind n.kind k

abbrev pub ready_in : Kind → Tree → ℕ → Bool
ready_in k T x = is_ready k (node_of T x)

-- an interrupt of the plan that declares EvtInterruptDpc
abbrev pub defers : Plan → ℕ → Bool
defers plan o = is_some (interrupt_of plan o) && declares plan callback.EvtInterruptDpc o

-- what is so where a deed is done; only a request's completion asks for its deletion
abbrev pub Comes : {A : Type 0} → Plan → Deed → State A → Type 0
Comes plan (AskDeletion o) S = Removable plan S o.0 × (same_kind (kind_of S.tree o.0) kind.Request ≡ false)
Comes plan (CompleteRequest r) S = Removable plan S r.0
Comes plan (Arrive device info p) S = is_some (device_of plan device.0) ≡ true
Comes plan (EndStep d s v) S = is_running_step S.pnp d.0 ≡ true
Comes plan (EnqueueDpc cpu o) S = ((ready_in kind.Dpc S.tree o.0 || defers plan o.0) ≡ true) × (is_some (interrupt_of plan o.0) ≡ true → is_enabled S.interrupts o.0 ≡ true)
Comes plan _ S = ⊤

-- each of some deeds is so where it is done
abbrev pub AllComes : {A : Type 0} → Plan → List Deed → State A → Type 0
AllComes {A} plan ds S = AllOf plan (λ (d : Deed) (U : State A). Comes plan d U) ds S

-- ---- lives

-- what is live stays live, and only a new object becomes live
pub record LivesStay (T U : Tree) : Type 0 where
  pub gains : (x : ℕ) → is_live (life_of T x) ≡ true → is_live (life_of U x) ≡ true
  pub was : (x : ℕ) → x < length T.nodes → is_live (life_of U x) ≡ true → is_live (life_of T x) ≡ true
  pub root : 1 ≤ length T.nodes → IsRoot T → IsRoot U

stay_same : (T U : Tree) → U ≡ T → LivesStay T U
stay_same T U e = record {
  gains = λ x h. ap (λ V. lives_in V x) e ∙ h;
  was = λ x low h. sym (ap (λ V. lives_in V x) e) ∙ h;
  root = λ some h. subst IsRoot (sym e) h;
}

root_changed : (T : Tree) (o : ℕ) (f : Node → Node) → is_gone (f (node_of T o)).life ≡ is_gone (life_of T o) → (f (node_of T o)).parent.0 ≡ parent_of T o → IsRoot T → IsRoot (with_node T o f)
root_changed T o f lives parent h = record { parent = reads_same (λ n. n.parent.0) T o f parent 0 ∙ h.parent; gone = reads_same (λ n. is_gone n.life) T o f lives 0 ∙ h.gone }

stay_changed : (T : Tree) (o : ℕ) (f : Node → Node) → is_live (f (node_of T o)).life ≡ is_live (life_of T o) → is_gone (f (node_of T o)).life ≡ is_gone (life_of T o) → (f (node_of T o)).parent.0 ≡ parent_of T o → LivesStay T (with_node T o f)
stay_changed T o f lives there parent =
    let same = reads_same (λ n. is_live n.life) T o f lives in
    record { gains = λ x h. same x ∙ h; was = λ x low h. sym (same x) ∙ h; root = λ some h. root_changed T o f there parent h }

stay_made : (T : Tree) (k : Kind) (class parent : ℕ) → LivesStay T (tree.create T k class parent)
stay_made T k class parent =
    let n : Node = new_node k class parent in
    record {
      gains = λ x h.
          let within = inside gone (λ n. is_live n.life) T.nodes x refl h in
          ap (λ (m : Node). is_live m.life) (entry_before gone T.nodes n x (λ e. let z : ⊥ = omega arith in z)) ∙ h;
      was = λ x low h. sym (ap (λ (m : Node). is_live m.life) (entry_before gone T.nodes n x (λ e. let z : ⊥ = omega arith in z))) ∙ h;
      root = λ some h.
          let first_ = entry_before gone T.nodes n 0 (λ e. let z : ⊥ = omega arith in z) in
          record { parent = ap (λ (m : Node). m.parent.0) first_ ∙ h.parent; gone = ap (λ (m : Node). is_gone m.life) first_ ∙ h.gone };
    }

ended_root : (T : Tree) (o : ℕ) → IsRoot T → IsRoot (tree.destroy T o)
ended_root T o h = elim (one_or_two 0 o) [
  | inl e ↦ rw (sym e) (let it = entry_put_same gone T.nodes 0 gone in record { parent = ap (λ (n : Node). n.parent.0) it; gone = ap (λ (n : Node). is_gone n.life) it })
  | inr n ↦ let it = entry_put_other gone T.nodes o 0 gone n in record { parent = ap (λ (m : Node). m.parent.0) it ∙ h.parent; gone = ap (λ (m : Node). is_gone m.life) it ∙ h.gone }
]

stay_ended : (T : Tree) (o : ℕ) → is_cleaned (life_of T o) ≡ true → LivesStay T (tree.destroy T o)
stay_ended T o done =
    let same = reads_same (λ n. is_live n.life) T o (λ _. gone) (cleaned_off (life_of T o) done) in
    record { gains = λ x h. same x ∙ h; was = λ x low h. sym (same x) ∙ h; root = λ some h. ended_root T o h }

-- a deed that asks for no deletion
abbrev pub asks_none : Deed → Bool
asks_none (AskDeletion o) = false
asks_none (CompleteRequest r) = false
asks_none _ = true

pub lives_by : {A : Type 0} (plan : Plan) (d : Deed) (S : State A) → asks_none d ≡ true → fits plan d S ≡ true → LivesStay S.tree (do_deed plan d S).tree
lives_by plan (AskDeletion o) S n f = absurd (let z : ⊥ = cc in z)
lives_by plan (CompleteRequest r) S n f = absurd (let z : ⊥ = cc in z)
lives_by plan (Create k class parent) S n f = stay_made S.tree k class parent.0
lives_by plan (MakeRequest class parent) S n f = stay_made S.tree kind.Made class parent.0
lives_by plan (Arrive device info p) S n f = subst (LivesStay S.tree) (sym (arrived_tree S device.0 info p)) (stay_made S.tree kind.Request 0 device.0)
lives_by plan (Refer o) S n f = stay_changed S.tree o.0 (λ m. record m { references = m.references + 1 }) refl refl refl
lives_by plan (Unrefer o) S n f = stay_changed S.tree o.0 (λ m. record m { references = m.references - 1 }) refl refl refl
lives_by plan (WriteCell o k v) S n f = stay_changed S.tree o.0 (λ m. record m { cells = slice_set m.cells k v }) refl refl refl
lives_by plan (Note o c) S n f = let k = noted_kept c (node_of S.tree o.0) in stay_changed S.tree o.0 (noted c) (ap is_live k.0) (ap is_gone k.0) k.1
lives_by plan (CleanUp o) S n f =
    let waits : is_asked (life_of S.tree o.0) ≡ true = search both_left in
    stay_changed S.tree o.0 (with_life life.Cleaned) (asked_off (life_of S.tree o.0) waits) (sym (asked_there (life_of S.tree o.0) waits)) refl
lives_by plan (EndLife o) S n f = let done : is_cleaned (life_of S.tree o.0) ≡ true = search both_left in stay_ended S.tree o.0 done
lives_by plan d S n f = stay_same _ _ (tree_stays plan d S refl)

-- ---- the steps of devices

abbrev pnp_of : {A : Type 0} → State A → Pnp
pnp_of S = S.pnp

-- the sequence of one device changes
one_sequence : (P : Sequence → Type 0) (Q : Pnp) (d : ℕ) (f : Sequence → Sequence) (x : ℕ) → P (sequence_of Q x) → (P (sequence_of Q d) → P (f (sequence_of Q d))) → P (sequence_of (with_sequence Q d f) x)
one_sequence P Q d f x old new = elim (one_or_two x d) [
  | inl e ↦ rw e (subst P (sym (entry_put_same no_sequence Q.devices d (f (sequence_of Q d)))) (new (subst (λ y. P (sequence_of Q y)) e old)))
  | inr n ↦ subst P (sym (entry_put_other no_sequence Q.devices d x (f (sequence_of Q d)) n)) old
]

nothing_next : (q : Sequence) → IsOver q → is_some (first_of_list q.left) ≡ true → ⊥
nothing_next q k h = let off : is_some (first_of_list q.left) ≡ false = ap (λ ss. is_some (first_of_list ss)) k.left in let z : ⊥ = cc in z

nothing_runs : (q : Sequence) → IsOver q → is_some q.running ≡ true → ⊥
nothing_runs q k h = let off : is_some q.running ≡ false = ap is_some k.running in let z : ⊥ = cc in z

asked_over : (q : Sequence) (a : Ask) → IsOver q → IsOver (record q { left = steps_for q.steps q.ever_working q.phase a })
asked_over q a k = record { phase = k.phase; left = ap (λ f. steps_for q.steps q.ever_working f a) k.phase; running = k.running }

-- what is left is last, and what is over stays so
record StepsStay (Q R : Pnp) : Type 0 where
  lasts : ((d : ℕ) → Lasts (steps_left Q d)) → (d : ℕ) → Lasts (steps_left R d)
  over : (d : ℕ) → IsOver (sequence_of Q d) → IsOver (sequence_of R d)

steps_same : (Q R : Pnp) → R ≡ Q → StepsStay Q R
steps_same Q R e = record { lasts = λ h. subst (λ P. (d : ℕ) → Lasts (steps_left P d)) (sym e) h; over = λ d h. subst (λ P. IsOver (sequence_of P d)) (sym e) h }

steps_by : {A : Type 0} (plan : Plan) (d : Deed) (S : State A) → fits plan d S ≡ true → Comes plan d S → StepsStay S.pnp (do_deed plan d S).pnp
steps_by plan (AskDevice n a) S f c = record {
  lasts = λ h x. one_sequence (λ q. Lasts q.left) S.pnp n.0 (λ q. record q { left = steps_for q.steps q.ever_working q.phase a }) x (h x) (λ k. lasts_asked (sequence_of S.pnp n.0) a);
  over = λ x h. one_sequence IsOver S.pnp n.0 (λ q. record q { left = steps_for q.steps q.ever_working q.phase a }) x h (λ k. asked_over (sequence_of S.pnp n.0) a k);
}
steps_by plan (TakeStep n) S f c = record {
  lasts = λ h x. one_sequence (λ q. Lasts q.left) S.pnp n.0 taken_step x (h x) (λ k. lasts_taken (sequence_of S.pnp n.0) k);
  over = λ x h. one_sequence IsOver S.pnp n.0 taken_step x h (λ k. absurd (nothing_next (sequence_of S.pnp n.0) k (both_left (is_some (next_step S.pnp n.0)) (not (is_running_step S.pnp n.0)) f)));
}
steps_by plan (EndStep n s v) S f c = record {
  lasts = λ h x. one_sequence (λ q. Lasts q.left) S.pnp n.0 (λ q. record q { left = left_after q s v; running = None }) x (h x) (λ k. lasts_ended (sequence_of S.pnp n.0) s v k);
  over = λ x h. one_sequence IsOver S.pnp n.0 (λ q. record q { left = left_after q s v; running = None }) x h (λ k. absurd (nothing_runs (sequence_of S.pnp n.0) k c));
}
steps_by plan (Arrive device info p) S f c = steps_same _ _ (came p)
  where
    came : (p : Place) → (arrive_at S device.0 info p).pnp ≡ S.pnp
    came (place.Queued q) = refl
    came _ = refl
steps_by plan (AskDeletion o) S f c = steps_same _ _ (asks_all pnp_of (λ S T D W U. refl) (subtree S.tree o.0) S)
steps_by plan (Requeue r p) S f c = steps_same _ _ (gives_up pnp_of (λ S Q R P. refl) S r.0)
steps_by plan (Forward r p) S f c = steps_same _ _ (gives_up pnp_of (λ S Q R P. refl) S r.0)
steps_by plan (GiveBack r p) S f c = steps_same _ _ (gives_up pnp_of (λ S Q R P. refl) S r.0)
steps_by plan (SendRequest r t forget) S f c = steps_same _ _ (gives_up_if pnp_of (λ S Q R P. refl) S forget r.0)
steps_by {A} plan (CompleteRequest r) S f c =
    steps_same _ _ (asks_all pnp_of (λ S T D W U. refl) (subtree (give_up S r.0).tree r.0) (record (give_up S r.0) { requests = requests.complete S.requests r.0 }) ∙ gives_up pnp_of (λ S Q R P. refl) S r.0)
steps_by plan (PurgeQueue p) S f c = steps_same _ _ (withdraws pnp_of (λ S Q R P. refl) plan p.0 (waiting_in S.queues p.0) (record S { control = control.set_mode S.control p.0 mode.Purged }))
steps_by plan (CloseReturning d) S f c = steps_same _ _ (returns_closed pnp_of (λ S Q R P. refl) (managed_queues plan d.0) S)
steps_by plan (CloseDevice d) S f c = steps_same _ _ (queues_closed pnp_of (λ S Q R P. refl) (queues_of plan d.0) (record S { control = control.shut S.control d.0 }))
steps_by plan _ S f c = steps_same S.pnp S.pnp refl

-- ---- a deed that asks for no deletion

device_within : (plan : Plan) (d : ℕ) → is_some (device_of plan d) ≡ true → d < declared_end plan
device_within plan d h = by (declared_of plan d) refl h
  where
    by : (x : Option Declared) → declared_of plan d ≡ x → is_some (device_of plan d) ≡ true → d < declared_end plan
    by (Some x) e h = let w = declared_within plan d x e in omega arith
    by None e h = absurd (let off : is_some (device_of plan d) ≡ false = rw e refl in let z : ⊥ = cc in z)

not_device : (a b c : Bool) → (c ≡ true → b ≡ true) → (a && b) ≡ false → (a && c) ≡ false
not_device true b true up h = absurd (let t : b ≡ true = up refl in let z : ⊥ = cc in z)
not_device true b false up h = refl
not_device false b c up h = refl

device_still : (plan : Plan) (T U : Tree) → LivesStay T U → (x : ℕ) → is_device_in plan T x ≡ true → is_device_in plan U x ≡ true
device_still plan T U l x h =
    both (is_some (device_of plan x)) (is_live (life_of U x)) (both_left (is_some (device_of plan x)) (is_live (life_of T x)) h) (l.gains x (both_right (is_some (device_of plan x)) (is_live (life_of T x)) h))

arrives_well : {A : Type 0} (plan : Plan) (d : Deed) (S : State A) → fits plan d S ≡ true → Comes plan d S → (T : Tree) → LivesStay S.tree T → ArrivesWell plan (is_device_in plan T) d
arrives_well plan (Arrive device info p) S f c T l =
    let live : is_live (life_of S.tree device.0) ≡ true = search both_left in
    both (is_some (device_of plan device.0)) (is_live (life_of T device.0)) c (l.gains device.0 live)
arrives_well plan _ S f c T l = tt

without_asking : {A : Type 0} (plan : Plan) (d : Deed) (S : State A) → asks_none d ≡ true → fits plan d S ≡ true → Sound plan d S → Comes plan d S → Placed S → declared_end plan ≤ length S.tree.nodes → Stands plan S → Stands plan (do_deed plan d S)
without_asking {A} plan d S none f s c p room k =
    let U : State A = do_deed plan d S in
    let l : LivesStay S.tree U.tree = lives_by plan d S none f in
    let t : StepsStay S.pnp U.pnp = steps_by plan d S f c in
    record {
      root = l.root (omega arith) k.root;
      parts = λ n x is live.
          let low = device_within plan n (both_right (is_part n (declared_of plan x)) (is_some (device_of plan n)) is) in
          l.gains x (k.parts n x is (l.was n (omega arith) live));
      opened = opened_by plan (is_device_in plan U.tree) d S f s p room (arrives_well plan d S f c U.tree l)
          (λ r. let o = k.opened r in (o.0, λ h. device_still plan S.tree U.tree l (request_of S.requests r).info.device.0 (o.1 h)));
      lasts = t.lasts k.lasts;
      over = λ n h. t.over n (k.over n (not_device (is_some (device_of plan n)) (is_live (life_of U.tree n)) (is_live (life_of S.tree n)) (l.gains n) h));
    }

-- ---- a deletion is asked

-- with what is below o the deletion is asked in U, of which the tree and the requests that aren't done are those of S
module _ {A : Type 0} (plan : Plan) (S U : State A) (o : ℕ) (same : U.tree ≡ S.tree) (room : declared_end plan ≤ length S.tree.nodes) (free : Removable plan S o) (k : Stands plan S) where
  abbrev V : State A
  V = ask_objects U o

  below : subtree U.tree o ≡ subtree S.tree o
  below = ap (λ T. subtree T o) same

  still : (y : ℕ) → is_live (life_of V.tree y) ≡ true → (contains y (subtree S.tree o) ≡ false) × (node_of V.tree y ≡ node_of S.tree y)
  still y h =
      let l = live_unasked (subtree U.tree o) U y h in
      (sym (ap (contains y) below) ∙ l.0, l.1 ∙ ap (λ T. node_of T y) same)

  live_before : (y : ℕ) → is_live (life_of V.tree y) ≡ true → is_live (life_of S.tree y) ≡ true
  live_before y h = sym (ap (λ (m : Node). is_live m.life) (still y h).1) ∙ h

  stays : (y : ℕ) → contains y (subtree S.tree o) ≡ false → is_live (life_of S.tree y) ≡ true → is_live (life_of V.tree y) ≡ true
  stays y out h =
      ap (λ (m : Node). is_live m.life) (unasked_stays (subtree U.tree o) U y (ap (contains y) below ∙ out) ∙ ap (λ T. node_of T y) same) ∙ h

  out_by : (y : ℕ) → (contains y (subtree S.tree o) ≡ true → ⊥) → contains y (subtree S.tree o) ≡ false
  out_by y h = elim (cases_Bool (contains y (subtree S.tree o))) [
    | inl e ↦ absurd (h e)
    | inr e ↦ e
  ]

  parts_then : (d x : ℕ) → is_part_of plan d x ≡ true → is_live (life_of V.tree d) ≡ true → is_live (life_of V.tree x) ≡ true
  parts_then d x is live =
      let was : is_live (life_of S.tree x) ≡ true = k.parts d x is (live_before d live) in
      stays x (out_by x (λ in_. let there : contains d (subtree S.tree o) ≡ true = free.parts d x is was in_ in let off : contains d (subtree S.tree o) ≡ false = (still d live).0 in let z : ⊥ = cc in z)) was

  -- a device of a request that isn't done stays
  keeps_open : (r : ℕ) (e : Request) → e ≡ request_of S.requests r → is_undone_request e ≡ true → is_device_in plan V.tree e.info.device.0 ≡ true
  keeps_open r e at undone =
      let d : ℕ = e.info.device.0 in
      let was : is_device_in plan S.tree d ≡ true = subst (λ (x : Request). is_undone_request x ≡ true → is_device_in plan S.tree x.info.device.0 ≡ true) (sym at) (k.opened r).1 undone in
      both (is_some (device_of plan d)) (is_live (life_of V.tree d)) (both_left (is_some (device_of plan d)) (is_live (life_of S.tree d)) was)
      (stays d (out_by d (λ in_.
      let none = (free.devices d was in_).1 r in
      let off : is_unfinished_at d e ≡ false = ap (is_unfinished_at d) at ∙ none in
      let yes : is_unfinished_at d e ≡ true = unfinished (has_arrived e) (is_done e.place) undone in
      let z : ⊥ = cc in z)) (both_right (is_some (device_of plan d)) (is_live (life_of S.tree d)) was))
    where
      unfinished : (a b : Bool) → (a && not b) ≡ true → (a && e.info.device.0 == e.info.device.0 && not b) ≡ true
      unfinished true b h = both (e.info.device.0 == e.info.device.0) (not b) (itself e.info.device.0) h
      unfinished false b h = absurd (let z : ⊥ = cc in z)

  over_then : (d : ℕ) → is_live_device plan V d ≡ false → IsOver (sequence_of S.pnp d)
  over_then d h = elim (cases_Bool (is_live_device plan S d)) [
    | inr off ↦ k.over d off
    | inl on ↦ elim (cases_Bool (contains d (subtree S.tree o))) [
      | inl in_ ↦ (free.devices d on in_).0
      | inr out ↦ absurd (
          let dev : is_some (device_of plan d) ≡ true = both_left (is_some (device_of plan d)) (is_live (life_of S.tree d)) on in
          let live : is_live (life_of V.tree d) ≡ true = stays d out (both_right (is_some (device_of plan d)) (is_live (life_of S.tree d)) on) in
          let yes : is_live_device plan V d ≡ true = both (is_some (device_of plan d)) (is_live (life_of V.tree d)) dev live in
          let z : ⊥ = cc in z)
    ]
  ]

root_asked : {A : Type 0} (S : State A) (x : ℕ) (b : Bool) → is_live (life_of S.tree x) ≡ b → IsRoot S.tree → IsRoot (ask_object S x).tree
root_asked {A} S x true e h = subst (λ (W : State A). IsRoot W.tree) (sym (object_live S x e)) (root_changed S.tree x (with_life life.Asked) (sym (live_there (life_of S.tree x) e)) refl h)
root_asked {A} S x false e h = subst (λ (W : State A). IsRoot W.tree) (sym (object_off S x e)) h

roots_asked : {A : Type 0} (xs : List ℕ) (S : State A) → IsRoot S.tree → IsRoot (fold ask_object S xs).tree
roots_asked [] S h = h
roots_asked (x ∷ xs) S h = roots_asked xs (ask_object S x) (root_asked S x (is_live (life_of S.tree x)) refl h)

asks : {A : Type 0} (plan : Plan) (S : State A) (o : ℕ) → fits plan (AskDeletion (object_id o)) S ≡ true → declared_end plan ≤ length S.tree.nodes → Comes plan (AskDeletion (object_id o)) S → Stands plan S → Stands plan (do_deed plan (AskDeletion (object_id o)) S)
asks {A} plan S o f room c k =
    let W : State A = do_deed plan (AskDeletion (object_id o)) S in
    let t : StepsStay S.pnp W.pnp = steps_by plan (AskDeletion (object_id o)) S f c in
    record {
      root = roots_asked (subtree S.tree o) S k.root;
      parts = parts_then plan S S o refl room c.0 k;
      opened = opened_asked plan (is_device_in plan W.tree) S o (λ r. ((k.opened r).0, keeps_open plan S S o refl room c.0 k r (request_of S.requests r) refl));
      lasts = t.lasts k.lasts;
      over = λ d h. t.over d (over_then plan S S o refl room c.0 k d h);
    }

completes : {A : Type 0} (plan : Plan) (S : State A) (r : ℕ) → fits plan (CompleteRequest (object_id r)) S ≡ true → declared_end plan ≤ length S.tree.nodes → Removable plan S r → Stands plan S → Stands plan (do_deed plan (CompleteRequest (object_id r)) S)
completes {A} plan S r f room c k =
    let W : State A = do_deed plan (CompleteRequest (object_id r)) S in
    let U : State A = record (give_up S r) { requests = requests.complete S.requests r } in
    let same : U.tree ≡ S.tree = gives_up tree_of (λ S Q R P. refl) S r in
    let t : StepsStay S.pnp W.pnp = steps_by plan (CompleteRequest (object_id r)) S f c in
    record {
      root = roots_asked (subtree U.tree r) U (subst IsRoot (sym same) k.root);
      parts = parts_then plan S U r same room c k;
      opened = opened_completed plan (is_device_in plan W.tree) S r (λ x. ((k.opened x).0, keeps_open plan S U r same room c k x (request_of S.requests x) refl));
      lasts = t.lasts k.lasts;
      over = λ d h. t.over d (over_then plan S U r same room c k d h);
    }

-- ---- each deed

pub stands_by : {A : Type 0} (plan : Plan) (d : Deed) (S : State A) → fits plan d S ≡ true → Sound plan d S → Comes plan d S → Placed S → declared_end plan ≤ length S.tree.nodes → Stands plan S → Stands plan (do_deed plan d S)
stands_by plan (AskDeletion o) S f s c p room k = asks plan S o.0 f room c k
stands_by plan (CompleteRequest r) S f s c p room k = completes plan S r.0 f room c k
stands_by plan d S f s c p room k = without_asking plan d S refl f s c p room k
