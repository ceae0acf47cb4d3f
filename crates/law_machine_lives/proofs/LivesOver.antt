-- What is live has a live parent, at each place of every run of a resolved plan.
use Rattle.std.proofs.Common.{◌≡◌, ◌≢◌, ℕ, zero, suc, ◌+◌, ◌-◌, ◌==◌, ◌<◌, nat_lt, true, false, ◌&&◌, List, [], ◌∷◌, inl, inr, length, map, slice_set, take, refl, sym, ap, subst, ◌∙◌, arith}
use Rattle.std.specs.List.{range_with_len}
use Rattle.std.proofs.lemmas.Bool.{cases_Bool, eqb-true}
use Rattle.wdf_base.specs.Meaning.{Meaning}
use Rattle.wdf_base.specs.Resolved.{IsResolved, in_order, objects_in_order}
use Rattle.wdf_base.specs.declared.plan.Plan.{Plan}
use Rattle.wdf_base.specs.declared.event.Event.{Event}
use Rattle.wdf_base.specs.declared.object.Kind.{Kind}
use Rattle.wdf_base.specs.declared.object.Kind.TheVariants as kind
use Rattle.wdf_base.specs.declared.object.Life.TheVariants as life
use Rattle.wdf_base.specs.declared.declared.Declared.{Declared}
use Rattle.wdf_base.specs.declared.declared.Declared.TheVariants as declared
use Rattle.wdf_base.specs.Lives.{is_asked, is_cleaned, is_live}
use Rattle.wdf_model.specs.declared.entries.Node.{Node}
use Rattle.wdf_model.specs.Tables.{contains, entry}
use Rattle.wdf_model.specs.parts.Tree.{Tree, declared_node, gone, life_of, new_node, next_id, node_of, noted, opening_tree, parent_of, subtree, with_life, with_node}
use Rattle.wdf_model.specs.parts.Tree as tree
use Rattle.wdf_model.specs.parts.Requests as requests
use Rattle.wdf_model.specs.State.{State}
use Rattle.wdf_model.specs.declared.deed.Deed.{Deed}
use Rattle.wdf_model.specs.declared.deed.Deed.TheVariants.{Create, MakeRequest, Arrive, AskDeletion, Refer, Unrefer, WriteCell, Note, CleanUp, EndLife, CompleteRequest}
use Rattle.wdf_model.specs.rules.Deeds.{ask_objects, do_deed, give_up}
use Rattle.wdf_model.specs.rules.Steps.{deeds}
use Rattle.wdf_model.specs.rules.Ready.{IsRunOf, state_after}
use Rattle.law_machine_base.specs.Fits.{fits}
use Rattle.wdf_model.proofs.Tests.{both_left, both_right}
use Rattle.wdf_model.proofs.Maps.{entry_before, entry_last, entry_put_other, entry_put_same}
use Rattle.wdf_model.proofs.Counts.{one_or_two}
use Rattle.law_machine_base.proofs.FitsOfEvents.{event_fits}
use Rattle.law_machine_lives.specs.Agreements.{LivesAgree}
use Rattle.law_machine_lives.proofs.Subtrees.{asked_below, is_asked_with, kept_there, live_unasked, passes, unasked_stays}
use Rattle.law_machine_lives.proofs.Keeping.{deeds_keep, each_place}
use Rattle.law_machine_lives.proofs.Stays.{gives_up}
use Rattle.law_machine_lives.proofs.Lists.{inside, reads_same}
use Rattle.law_machine_lives.proofs.Readers.{tree_of}
use Rattle.law_machine_lives.proofs.Lives.{asked_off, cleaned_off, noted_kept}
use Rattle.law_machine_lives.proofs.PartsStay.{tree_stays}
use Rattle.law_machine_counts.proofs.Arrived.{arrived_tree}

-- what is live has a live parent, or none, and that is older
pub record Lives (T : Tree) : Type 0 where
  pub above : (x : ℕ) → is_live (life_of T x) ≡ true → parent_of T x ≢ 0 → is_live (life_of T (parent_of T x)) ≡ true
  pub older : (x : ℕ) → is_live (life_of T x) ≡ true → parent_of T x < x

lives_same : (T U : Tree) → ((x : ℕ) → is_live (life_of U x) ≡ is_live (life_of T x)) → ((x : ℕ) → is_live (life_of U x) ≡ true → parent_of U x ≡ parent_of T x) → Lives T → Lives U
lives_same T U same parents k = record {
  above = λ x h n.
      let p = parents x h in
      ap (λ y. is_live (life_of U y)) p ∙ same (parent_of T x) ∙ k.above x (sym (same x) ∙ h) (λ z. n (p ∙ z));
  older = λ x h. let p = parents x h in let o = k.older x (sym (same x) ∙ h) in omega arith;
}

object_changes : (T : Tree) (o : ℕ) (f : Node → Node) → is_live (f (node_of T o)).life ≡ is_live (life_of T o) → (f (node_of T o)).parent.0 ≡ parent_of T o → Lives T → Lives (with_node T o f)
object_changes T o f lives parent = lives_same T (with_node T o f) (reads_same (λ n. is_live n.life) T o f lives) (λ x h. reads_same (λ n. n.parent.0) T o f parent x)

-- ---- an object is made

live_inside : (T : Tree) (x : ℕ) → is_live (life_of T x) ≡ true → x < length T.nodes
live_inside T x h = inside gone (λ n. is_live n.life) T.nodes x refl h

object_made : (T : Tree) (k : Kind) (class parent : ℕ) → is_live (life_of T parent) ≡ true → Lives T → Lives (tree.create T k class parent)
object_made T k class parent live q =
    let U : Tree = tree.create T k class parent in
    let n : Node = new_node k class parent in
    let here : node_of U (next_id T) ≡ n = entry_last gone T.nodes n in
    let there = λ (x : ℕ) (d : x ≢ next_id T). entry_before gone T.nodes n x d in
    let old = λ (x : ℕ) (h : is_live (life_of T x) ≡ true). (let within = live_inside T x h in ap (λ (m : Node). is_live m.life) (there x (λ e. let z : ⊥ = omega arith in z)) ∙ h) in
    record {
      above = λ x h up. elim (one_or_two x (next_id T)) [
        | inl e ↦ let p : parent_of U x ≡ parent = ap (parent_of U) e ∙ ap (λ (m : Node). m.parent.0) here in ap (λ y. is_live (life_of U y)) p ∙ old parent live
        | inr d ↦
            let p : parent_of U x ≡ parent_of T x = ap (λ (m : Node). m.parent.0) (there x d) in
            let was : is_live (life_of T x) ≡ true = sym (ap (λ (m : Node). is_live m.life) (there x d)) ∙ h in
            ap (λ y. is_live (life_of U y)) p ∙ old (parent_of T x) (q.above x was (λ z. up (p ∙ z)))
      ];
      older = λ x h. elim (one_or_two x (next_id T)) [
        | inl e ↦ let p : parent_of U x ≡ parent = ap (parent_of U) e ∙ ap (λ (m : Node). m.parent.0) here in let within = live_inside T parent live in omega arith
        | inr d ↦
            let p : parent_of U x ≡ parent_of T x = ap (λ (m : Node). m.parent.0) (there x d) in
            let was : is_live (life_of T x) ≡ true = sym (ap (λ (m : Node). is_live m.life) (there x d)) ∙ h in
            let o = q.older x was in omega arith
      ];
    }

-- ---- a deletion is asked

closed_below : (T : Tree) (o x : ℕ) → is_live (life_of T x) ≡ true → Lives T → contains (parent_of T x) (subtree T o) ≡ true → contains x (subtree T o) ≡ true
closed_below T o x live k h =
    let within = live_inside T x live in
    kept_there (is_asked_with T o) x 0 (length T.nodes) (omega arith) (omega arith)
    (asked_below T o x within (k.older x live) (passes (is_asked_with T o) (parent_of T x) (range_with_len 0 (length T.nodes)) h))

asked : {A : Type 0} (S : State A) (o : ℕ) → Lives S.tree → Lives (ask_objects S o).tree
asked S o k =
    let U : Tree = (ask_objects S o).tree in
    let T : Tree = S.tree in
    record {
      above = λ x h up.
          let l = live_unasked (subtree T o) S x h in
          let was : is_live (life_of T x) ≡ true = sym (ap (λ (m : Node). is_live m.life) l.1) ∙ h in
          let p : parent_of U x ≡ parent_of T x = ap (λ (m : Node). m.parent.0) l.1 in
          let off : contains (parent_of T x) (subtree T o) ≡ false = elim (cases_Bool (contains (parent_of T x) (subtree T o))) [
            | inl e ↦ absurd (let on : contains x (subtree T o) ≡ true = closed_below T o x was k e in let no_ = l.0 in let z : ⊥ = cc in z)
            | inr e ↦ e
          ] in
          ap (λ y. is_live (life_of U y)) p ∙ ap (λ (m : Node). is_live m.life) (unasked_stays (subtree T o) S (parent_of T x) off) ∙ k.above x was (λ z. up (p ∙ z));
      older = λ x h.
          let l = live_unasked (subtree T o) S x h in
          let was : is_live (life_of T x) ≡ true = sym (ap (λ (m : Node). is_live m.life) l.1) ∙ h in
          let p : parent_of U x ≡ parent_of T x = ap (λ (m : Node). m.parent.0) l.1 in
          let older = k.older x was in omega arith;
    }

-- ---- each deed

ended : (T : Tree) (o : ℕ) → is_cleaned (life_of T o) ≡ true → Lives T → Lives (tree.destroy T o)
ended T o done = lives_same T (tree.destroy T o) (reads_same (λ n. is_live n.life) T o (λ _. gone) (cleaned_off (life_of T o) done))
    (λ x h. elim (one_or_two x o) [
      | inl e ↦ absurd (let off : is_live (life_of (tree.destroy T o) x) ≡ false = rw e (ap (λ (n : Node). is_live n.life) (entry_put_same gone T.nodes o gone)) in let z : ⊥ = cc in z)
      | inr n ↦ ap (λ (m : Node). m.parent.0) (entry_put_other gone T.nodes o x gone n)
    ])

same_tree : (T U : Tree) → U ≡ T → Lives T → Lives U
same_tree T U e q = subst Lives (sym e) q

lives_by : {A : Type 0} (plan : Plan) (d : Deed) (S : State A) → fits plan d S ≡ true → Lives S.tree → Lives (do_deed plan d S).tree
lives_by plan (Create k class parent) S f q = object_made S.tree k class parent.0 (search both_left) q
lives_by plan (MakeRequest class parent) S f q = object_made S.tree kind.Made class parent.0 (search both_left) q
lives_by plan (Arrive device info p) S f q = same_tree _ _ (arrived_tree S device.0 info p) (object_made S.tree kind.Request 0 device.0 (search both_left) q)
lives_by plan (AskDeletion o) S f q = asked S o.0 q
lives_by plan (Refer o) S f q = object_changes S.tree o.0 (λ n. record n { references = n.references + 1 }) refl refl q
lives_by plan (Unrefer o) S f q = object_changes S.tree o.0 (λ n. record n { references = n.references - 1 }) refl refl q
lives_by plan (WriteCell o k v) S f q = object_changes S.tree o.0 (λ n. record n { cells = slice_set n.cells k v }) refl refl q
lives_by plan (Note o c) S f q = let k = noted_kept c (node_of S.tree o.0) in object_changes S.tree o.0 (noted c) (ap is_live k.0) k.1 q
lives_by plan (CleanUp o) S f q =
    let waits : is_asked (life_of S.tree o.0) ≡ true = search both_left in
    object_changes S.tree o.0 (with_life life.Cleaned) (asked_off (life_of S.tree o.0) waits) refl q
lives_by plan (EndLife o) S f q = let done : is_cleaned (life_of S.tree o.0) ≡ true = search both_left in ended S.tree o.0 done q
lives_by plan (CompleteRequest r) S f q = asked (record (give_up S r.0) { requests = requests.complete S.requests r.0 }) r.0 (same_tree _ _ (gives_up tree_of (λ S Q R P. refl) S r.0) q)
lives_by plan d S f q = same_tree _ _ (tree_stays plan d S refl) q

-- ---- the opening of a resolved plan

rest_of : (id device d : ℕ) (ds : List Declared) → (nat_lt 0 device && (d == device) && in_order (suc id) device ds) ≡ true → (d ≡ device) × (in_order (suc id) device ds ≡ true)
rest_of id device d ds h = (
  eqb-true d device (both_right (nat_lt 0 device) (d == device) (both_left (nat_lt 0 device && (d == device)) (in_order (suc id) device ds) h)),
  both_right (nat_lt 0 device && (d == device)) (in_order (suc id) device ds) h,
)

parents_older : (id device : ℕ) (ds : List Declared) (k : ℕ) → in_order id device ds ≡ true → device < id → 1 < id → is_live (entry gone (map declared_node ds) k).life ≡ true → (entry gone (map declared_node ds) k).parent.0 < id + k
parents_older id device [] k h d one live = absurd (let z : ⊥ = cc in z)
parents_older id device (declared.Driver ∷ ds) k h d one live = absurd (let z : ⊥ = cc in z)
parents_older id device (declared.OfClass c ∷ ds) k h d one live = absurd (let z : ⊥ = cc in z)
parents_older id device (declared.Device x ∷ ds) zero h d one live = omega arith
parents_older id device (declared.Device x ∷ ds) (suc k) h d one live = let rest = parents_older (suc id) id ds k h (omega arith) (omega arith) live in omega arith
parents_older id device (declared.Queue x ∷ ds) zero h d one live = let e = (rest_of id device x.device.0 ds h).0 in omega arith
parents_older id device (declared.Queue x ∷ ds) (suc k) h d one live = let rest = parents_older (suc id) device ds k (rest_of id device x.device.0 ds h).1 (omega arith) (omega arith) live in omega arith
parents_older id device (declared.Interrupt x ∷ ds) zero h d one live = let e = (rest_of id device x.device.0 ds h).0 in omega arith
parents_older id device (declared.Interrupt x ∷ ds) (suc k) h d one live = let rest = parents_older (suc id) device ds k (rest_of id device x.device.0 ds h).1 (omega arith) (omega arith) live in omega arith
parents_older id device (declared.Target x ∷ ds) zero h d one live = let e = (rest_of id device x.device.0 ds h).0 in omega arith
parents_older id device (declared.Target x ∷ ds) (suc k) h d one live = let rest = parents_older (suc id) device ds k (rest_of id device x.device.0 ds h).1 (omega arith) (omega arith) live in omega arith

all_older : (ds : List Declared) (k : ℕ) → objects_in_order ds ≡ true → is_live (entry gone (map declared_node ds) k).life ≡ true → (entry gone (map declared_node ds) k).parent.0 < suc k
all_older [] k h live = absurd (let z : ⊥ = cc in z)
all_older (declared.Driver ∷ ds) zero h live = omega arith
all_older (declared.Driver ∷ ds) (suc k) h live = let rest = parents_older 2 0 ds k h (omega arith) (omega arith) live in omega arith
all_older (declared.Device x ∷ ds) k h live = absurd (let z : ⊥ = cc in z)
all_older (declared.Queue x ∷ ds) k h live = absurd (let z : ⊥ = cc in z)
all_older (declared.Interrupt x ∷ ds) k h live = absurd (let z : ⊥ = cc in z)
all_older (declared.Target x ∷ ds) k h live = absurd (let z : ⊥ = cc in z)
all_older (declared.OfClass x ∷ ds) k h live = absurd (let z : ⊥ = cc in z)

all_live : (ds : List Declared) (k : ℕ) → k < length (map declared_node ds) → is_live (entry gone (map declared_node ds) k).life ≡ true
all_live [] k h = absurd (omega arith)
all_live (d ∷ ds) zero h = refl
all_live (d ∷ ds) (suc k) h = all_live ds k (omega arith)

live_if_there : (plan : Plan) (x : ℕ) → x ≢ 0 → x < suc (length (map declared_node plan.declared)) → is_live (life_of (opening_tree plan) x) ≡ true
live_if_there plan zero n h = absurd (n refl)
live_if_there plan (suc k) n h = all_live plan.declared k (omega arith)

older_at_first : (plan : Plan) → objects_in_order plan.declared ≡ true → (x : ℕ) → is_live (life_of (opening_tree plan) x) ≡ true → parent_of (opening_tree plan) x < x
older_at_first plan order zero h = absurd (let z : ⊥ = cc in z)
older_at_first plan order (suc k) h = all_older plan.declared k order h

opens : (plan : Plan) → objects_in_order plan.declared ≡ true → Lives (opening_tree plan)
opens plan order = record {
  above = λ x h n.
      let within = live_inside (opening_tree plan) x h in
      let older = older_at_first plan order x h in
      live_if_there plan (parent_of (opening_tree plan) x) n (omega arith);
  older = older_at_first plan order;
}

-- ---- each place of a run

pub lives_at_each : {A : Type 0} (plan : Plan) (m : Meaning A) (run : List Event) → IsResolved plan → IsRunOf plan m run → (n : ℕ) → Lives (state_after plan m (take n run)).tree
lives_at_each {A} plan m run resolved is_run n = each_place plan m (λ (S : State A). Lives S.tree) (opens plan resolved.in_order)
    (λ S e known may_come q. deeds_keep plan (λ (U : State A). Lives U.tree) (lives_by plan) (deeds plan S e) S (event_fits plan m S e may_come) q)
    (λ S time q. q) run is_run n

pub lives_agree_at_each : {A : Type 0} (plan : Plan) (m : Meaning A) (run : List Event) → IsResolved plan → IsRunOf plan m run → (n : ℕ) → LivesAgree (state_after plan m (take n run))
lives_agree_at_each plan m run resolved is_run n = record { above = (lives_at_each plan m run resolved is_run n).above }
