-- What waits for cleanup, or wasn't asked for one, is no child of a cleaned object, at each place of every run.
use Rattle.std.proofs.Common.{◌≡◌, ℕ, zero, suc, ◌+◌, ◌-◌, ◌==◌, ◌<◌, Bool, true, false, not, List, [], ◌∷◌, inl, inr, length, map, fold, slice_set, take, refl, sym, ap, subst, ◌∙◌, arith}
use Rattle.std.specs.List.{list_all}
use Rattle.wdf_base.specs.Meaning.{Meaning}
use Rattle.wdf_base.specs.declared.plan.Plan.{Plan}
use Rattle.wdf_base.specs.declared.event.Event.{Event}
use Rattle.wdf_base.specs.declared.object.Kind.{Kind}
use Rattle.wdf_base.specs.declared.object.Kind.TheVariants as kind
use Rattle.wdf_base.specs.declared.object.Life.{Life}
use Rattle.wdf_base.specs.declared.object.Life.TheVariants as life
use Rattle.wdf_base.specs.declared.declared.Declared.{Declared}
use Rattle.wdf_base.specs.Lives.{is_cleaned, is_gone, is_live, is_past_cleanup}
use Rattle.wdf_model.specs.declared.entries.Node.{Node}
use Rattle.wdf_model.specs.Tables.{entry}
use Rattle.wdf_model.specs.parts.Tree.{Tree, children, declared_node, gone, is_child, life_of, may_clean, new_node, next_id, node_of, noted, opening_tree, parent_of, subtree, with_life, with_node}
use Rattle.wdf_model.specs.parts.Tree as tree
use Rattle.wdf_model.specs.parts.Requests as requests
use Rattle.wdf_model.specs.State.{State}
use Rattle.wdf_model.specs.declared.deed.Deed.{Deed}
use Rattle.wdf_model.specs.declared.deed.Deed.TheVariants.{Create, MakeRequest, Arrive, AskDeletion, Refer, Unrefer, WriteCell, Note, CleanUp, EndLife, CompleteRequest}
use Rattle.wdf_model.specs.rules.Deeds.{ask_object, do_deed, give_up}
use Rattle.wdf_model.specs.rules.Starts.{clean_ready}
use Rattle.wdf_model.specs.rules.Steps.{deeds}
use Rattle.wdf_model.specs.rules.Ready.{IsRunOf, state_after}
use Rattle.law_machine_base.specs.Fits.{fits}
use Rattle.wdf_model.proofs.Tests.{both, both_left, both_right}
use Rattle.wdf_model.proofs.Maps.{entry_before, entry_last, entry_past, entry_put_other, entry_put_same}
use Rattle.wdf_model.proofs.Counts.{equal, one_or_two}
use Rattle.law_machine_base.proofs.Deletion.{object_live, object_off}
use Rattle.law_machine_base.proofs.FitsOfEvents.{event_fits}
use Rattle.law_machine_lives.specs.Agreements.{CleanedInOrder}
use Rattle.law_machine_lives.proofs.Keeping.{deeds_keep, each_place}
use Rattle.law_machine_lives.proofs.Stays.{gives_up}
use Rattle.law_machine_lives.proofs.Lists.{all_of_kept, inside, reads_same}
use Rattle.law_machine_lives.proofs.Readers.{tree_of}
use Rattle.law_machine_lives.proofs.Lives.{asked_early, noted_kept}
use Rattle.law_machine_lives.proofs.PartsStay.{tree_stays}
use Rattle.law_machine_counts.proofs.Arrived.{arrived_tree}

-- what isn't past its cleanup has no cleaned parent
abbrev pub InOrder : Tree → Type 0
InOrder T = (x : ℕ) → is_past_cleanup (life_of T x) ≡ false → is_cleaned (life_of T (parent_of T x)) ≡ false

same_lives : (T U : Tree) → ((x : ℕ) → is_past_cleanup (life_of U x) ≡ is_past_cleanup (life_of T x)) → ((x : ℕ) → is_cleaned (life_of U x) ≡ is_cleaned (life_of T x))
    → ((x : ℕ) → parent_of U x ≡ parent_of T x) → InOrder T → InOrder U
same_lives T U past cleaned parents q x h = ap (λ p. is_cleaned (life_of U p)) (parents x) ∙ cleaned (parent_of T x) ∙ q x (sym (past x) ∙ h)

object_changes : (T : Tree) (o : ℕ) (f : Node → Node) → is_past_cleanup (f (node_of T o)).life ≡ is_past_cleanup (life_of T o) → is_cleaned (f (node_of T o)).life ≡ is_cleaned (life_of T o)
    → (f (node_of T o)).parent.0 ≡ parent_of T o → InOrder T → InOrder (with_node T o f)
object_changes T o f past cleaned parent =
    same_lives T (with_node T o f) (reads_same (λ n. is_past_cleanup n.life) T o f past) (reads_same (λ n. is_cleaned n.life) T o f cleaned) (reads_same (λ n. n.parent.0) T o f parent)

-- ---- an object is made

pub unmade : (T : Tree) (k : Kind) (class parent : ℕ) (x : ℕ) → is_cleaned (life_of (tree.create T k class parent) x) ≡ is_cleaned (life_of T x)
unmade T k class parent x = elim (one_or_two x (next_id T)) [
  | inl e ↦
      let new : is_cleaned (life_of (tree.create T k class parent) (next_id T)) ≡ false = ap (λ (n : Node). is_cleaned n.life) (entry_last gone T.nodes (new_node k class parent)) in
      let old : is_cleaned (life_of T (next_id T)) ≡ false = ap (λ (n : Node). is_cleaned n.life) (entry_past gone T.nodes (next_id T) (omega arith)) in
      rw e (new ∙ sym old)
  | inr n ↦ ap (λ (m : Node). is_cleaned m.life) (entry_before gone T.nodes (new_node k class parent) x n)
]

pub live_uncleaned : (l : Life) → is_live l ≡ true → is_cleaned l ≡ false
live_uncleaned life.Cleaned h = absurd (let z : ⊥ = cc in z)
live_uncleaned _ h = refl

object_made : (T : Tree) (k : Kind) (class parent : ℕ) → is_live (life_of T parent) ≡ true → InOrder T → InOrder (tree.create T k class parent)
object_made T k class parent live q x h = unmade T k class parent (parent_of (tree.create T k class parent) x) ∙ elim (one_or_two x (next_id T)) [
  | inl e ↦
      let up : parent_of (tree.create T k class parent) x ≡ parent = ap (parent_of (tree.create T k class parent)) e ∙ ap (λ (n : Node). n.parent.0) (entry_last gone T.nodes (new_node k class parent)) in
      ap (λ p. is_cleaned (life_of T p)) up ∙ live_uncleaned (life_of T parent) live
  | inr n ↦
      let same : node_of (tree.create T k class parent) x ≡ node_of T x = entry_before gone T.nodes (new_node k class parent) x n in
      ap (λ (m : Node). is_cleaned (life_of T m.parent.0)) same ∙ q x (sym (ap (λ (m : Node). is_past_cleanup m.life) same) ∙ h)
]

-- ---- a deletion is asked

asked_one : {A : Type 0} (S : State A) (x : ℕ) (b : Bool) → is_live (life_of S.tree x) ≡ b → InOrder S.tree → InOrder (ask_object S x).tree
asked_one {A} S x true e q = subst (λ (U : State A). InOrder U.tree) (sym (object_live S x e)) (object_changes S.tree x (with_life life.Asked) (same_past (life_of S.tree x) e) (sym (live_uncleaned (life_of S.tree x) e)) refl q)
  where
    same_past : (l : Life) → is_live l ≡ true → false ≡ is_past_cleanup l
    same_past life.Live h = refl
    same_past life.Asked h = refl
    same_past life.Cleaned h = absurd (let z : ⊥ = cc in z)
    same_past life.Gone h = absurd (let z : ⊥ = cc in z)
asked_one {A} S x false e q = subst (λ (U : State A). InOrder U.tree) (sym (object_off S x e)) q

all_asked : {A : Type 0} (xs : List ℕ) (S : State A) → InOrder S.tree → InOrder (fold ask_object S xs).tree
all_asked [] S q = q
all_asked (x ∷ xs) S q = all_asked xs (ask_object S x) (asked_one S x (is_live (life_of S.tree x)) refl q)

-- ---- an object is cleaned up, or ends

pub may_clean_at : {A : Type 0} (S : State A) (o : ℕ) → clean_ready S o ≡ true → may_clean S.tree o ≡ true
may_clean_at S o h = search (both_left, both_right)

not_gone : (l : Life) → is_past_cleanup l ≡ false → not (is_gone l) ≡ true
not_gone life.Live h = refl
not_gone life.Asked h = refl
not_gone life.Cleaned h = absurd (let z : ⊥ = cc in z)
not_gone life.Gone h = absurd (let z : ⊥ = cc in z)

-- no child waits for cleanup
children_past : (T : Tree) (o x : ℕ) → may_clean T o ≡ true → parent_of T x ≡ o → is_past_cleanup (life_of T x) ≡ false → ⊥
children_past T o x h up early =
    let there : not (is_gone (life_of T x)) ≡ true = not_gone (life_of T x) early in
    let within : x < length T.nodes = inside gone (λ n. not (is_gone n.life)) T.nodes x refl there in
    let all : list_all (λ y. is_past_cleanup (life_of T y)) (children T o) ≡ true = search (both_left, both_right) in
    let child : is_child T o x ≡ true = both (parent_of T x == o) (not (is_gone (life_of T x))) (equal (parent_of T x) o up) there in
    let past : is_past_cleanup (life_of T x) ≡ true = all_of_kept (λ y. is_past_cleanup (life_of T y)) (is_child T o) x 0 (length T.nodes) (omega arith) (omega arith) all child in
    let z : ⊥ = cc in z

cleaned : (T : Tree) (o : ℕ) → may_clean T o ≡ true → InOrder T → InOrder (tree.clean T o)
cleaned T o may q x h = elim (one_or_two x o) [
  | inl e ↦ absurd (let here : is_past_cleanup (life_of (tree.clean T o) x) ≡ true = rw e (ap (λ (n : Node). is_past_cleanup n.life) (entry_put_same gone T.nodes o (with_life life.Cleaned (node_of T o)))) in let z : ⊥ = cc in z)
  | inr n ↦
      let same : node_of (tree.clean T o) x ≡ node_of T x = entry_put_other gone T.nodes o x (with_life life.Cleaned (node_of T o)) n in
      let early : is_past_cleanup (life_of T x) ≡ false = sym (ap (λ (m : Node). is_past_cleanup m.life) same) ∙ h in
      ap (λ (m : Node). is_cleaned (life_of (tree.clean T o) m.parent.0)) same
      ∙ ap (λ (m : Node). is_cleaned m.life) (entry_put_other gone T.nodes o (parent_of T x) (with_life life.Cleaned (node_of T o)) (λ up. children_past T o x may up early))
      ∙ q x early
]

ended : (T : Tree) (o : ℕ) → InOrder T → InOrder (tree.destroy T o)
ended T o q x h = elim (one_or_two x o) [
  | inl e ↦ absurd (let here : is_past_cleanup (life_of (tree.destroy T o) x) ≡ true = rw e (ap (λ (n : Node). is_past_cleanup n.life) (entry_put_same gone T.nodes o gone)) in let z : ⊥ = cc in z)
  | inr n ↦
      let same : node_of (tree.destroy T o) x ≡ node_of T x = entry_put_other gone T.nodes o x gone n in
      ap (λ (m : Node). is_cleaned (life_of (tree.destroy T o) m.parent.0)) same ∙ elim (one_or_two (parent_of T x) o) [
        | inl up ↦ rw up (ap (λ (m : Node). is_cleaned m.life) (entry_put_same gone T.nodes o gone))
        | inr apart ↦ ap (λ (m : Node). is_cleaned m.life) (entry_put_other gone T.nodes o (parent_of T x) gone apart) ∙ q x (sym (ap (λ (m : Node). is_past_cleanup m.life) same) ∙ h)
      ]
]

-- ---- each deed

same_tree : (T U : Tree) → U ≡ T → InOrder T → InOrder U
same_tree T U e q = subst InOrder (sym e) q

deed_keeps : {A : Type 0} (plan : Plan) (d : Deed) (S : State A) → fits plan d S ≡ true → InOrder S.tree → InOrder (do_deed plan d S).tree
deed_keeps plan (Create k class parent) S f q = object_made S.tree k class parent.0 (search (both_left, both_right)) q
deed_keeps plan (MakeRequest class parent) S f q = object_made S.tree kind.Made class parent.0 (search (both_left, both_right)) q
deed_keeps plan (Arrive device info p) S f q = same_tree _ _ (arrived_tree S device.0 info p) (object_made S.tree kind.Request 0 device.0 (search (both_left, both_right)) q)
deed_keeps plan (AskDeletion o) S f q = all_asked (subtree S.tree o.0) S q
deed_keeps plan (Refer o) S f q = object_changes S.tree o.0 (λ n. record n { references = n.references + 1 }) refl refl refl q
deed_keeps plan (Unrefer o) S f q = object_changes S.tree o.0 (λ n. record n { references = n.references - 1 }) refl refl refl q
deed_keeps plan (WriteCell o k v) S f q = object_changes S.tree o.0 (λ n. record n { cells = slice_set n.cells k v }) refl refl refl q
deed_keeps plan (Note o c) S f q =
    let k = noted_kept c (node_of S.tree o.0) in
    object_changes S.tree o.0 (noted c) (ap is_past_cleanup k.0) (ap is_cleaned k.0) k.1 q
deed_keeps plan (CleanUp o) S f q = cleaned S.tree o.0 (may_clean_at S o.0 f) q
deed_keeps plan (EndLife o) S f q = ended S.tree o.0 q
deed_keeps plan (CompleteRequest r) S f q =
    all_asked (subtree (give_up S r.0).tree r.0) (record (give_up S r.0) { requests = requests.complete S.requests r.0 }) (same_tree _ _ (gives_up tree_of (λ S Q R P. refl) S r.0) q)
deed_keeps plan d S f q = same_tree _ _ (tree_stays plan d S refl) q

-- ---- the opening, and each place of a run

pub no_cleaned : (ds : List Declared) (x : ℕ) → is_cleaned (entry gone (map declared_node ds) x).life ≡ false
no_cleaned [] x = refl
no_cleaned (d ∷ ds) zero = refl
no_cleaned (d ∷ ds) (suc x) = no_cleaned ds x

pub none_cleaned : (plan : Plan) (x : ℕ) → is_cleaned (life_of (opening_tree plan) x) ≡ false
none_cleaned plan zero = refl
none_cleaned plan (suc x) = no_cleaned plan.declared x

pub in_order_at_each : {A : Type 0} (plan : Plan) (m : Meaning A) (run : List Event) → IsRunOf plan m run → (n : ℕ) → InOrder (state_after plan m (take n run)).tree
in_order_at_each {A} plan m run is_run n = each_place plan m (λ (S : State A). InOrder S.tree) (λ x h. none_cleaned plan (parent_of (opening_tree plan) x))
    (λ S e known may q. deeds_keep plan (λ (U : State A). InOrder U.tree) (deed_keeps plan) (deeds plan S e) S (event_fits plan m S e may) q)
    (λ S time q. q) run is_run n

pub cleaned_in_order_at_each : {A : Type 0} (plan : Plan) (m : Meaning A) (run : List Event) → IsRunOf plan m run → (n : ℕ) → CleanedInOrder (state_after plan m (take n run))
cleaned_in_order_at_each plan m run is_run n = record { above = λ o h. in_order_at_each plan m run is_run n o (asked_early (life_of (state_after plan m (take n run)).tree o) h) }
