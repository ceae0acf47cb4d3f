-- The parent of an object that isn't gone isn't gone, at each place of every run of a resolved plan.
use Rattle.std.proofs.Common.{◌≡◌, ◌≢◌, ℕ, zero, suc, ◌+◌, ◌-◌, ◌==◌, ◌<◌, Bool, true, false, not, ◌&&◌, List, [], ◌∷◌, inl, inr, length, map, fold, slice_set, take, refl, sym, ap, subst, ◌∙◌, arith}
use Rattle.std.specs.List.{list_all}
use Rattle.std.proofs.lemmas.Bool.{eqb-true}
use Rattle.wdf_base.specs.Meaning.{Meaning}
use Rattle.wdf_base.specs.Resolved.{IsResolved}
use Rattle.wdf_base.specs.declared.plan.Plan.{Plan}
use Rattle.wdf_base.specs.declared.event.Event.{Event}
use Rattle.wdf_base.specs.declared.object.Kind.{Kind}
use Rattle.wdf_base.specs.declared.object.Kind.TheVariants as kind
use Rattle.wdf_base.specs.declared.object.Life.TheVariants as life
use Rattle.wdf_base.specs.declared.declared.Declared.{Declared}
use Rattle.wdf_base.specs.Lives.{is_asked, is_cleaned, is_gone, is_live}
use Rattle.wdf_model.specs.declared.entries.Node.{Node}
use Rattle.wdf_model.specs.Tables.{entry}
use Rattle.wdf_model.specs.parts.Tree.{Tree, children, declared_node, gone, is_child, life_of, may_destroy, new_node, next_id, node_of, noted, opening_tree, parent_of, references_of, subtree, with_life, with_node}
use Rattle.wdf_model.specs.parts.Tree as tree
use Rattle.wdf_model.specs.parts.Cpus.{nobody_on}
use Rattle.wdf_model.specs.parts.Requests as requests
use Rattle.wdf_model.specs.State.{State}
use Rattle.wdf_model.specs.declared.deed.Deed.{Deed}
use Rattle.wdf_model.specs.declared.deed.Deed.TheVariants.{Create, MakeRequest, Arrive, AskDeletion, Refer, Unrefer, WriteCell, Note, CleanUp, EndLife, CompleteRequest}
use Rattle.wdf_model.specs.rules.Deeds.{ask_object, do_deed, give_up}
use Rattle.wdf_model.specs.rules.Steps.{deeds}
use Rattle.wdf_model.specs.rules.Ready.{IsRunOf, state_after}
use Rattle.law_machine_base.specs.Fits.{fits}
use Rattle.wdf_model.proofs.Tests.{both, both_left, both_right}
use Rattle.wdf_model.proofs.Maps.{entry_before, entry_last, entry_past, entry_put_other, entry_put_same}
use Rattle.wdf_model.proofs.Counts.{equal, one_or_two}
use Rattle.law_machine_base.proofs.Deletion.{object_live, object_off}
use Rattle.law_machine_base.proofs.FitsOfEvents.{event_fits}
use Rattle.law_machine_counts.proofs.StillFrames.{asked_there, live_there}
use Rattle.law_machine_lives.proofs.Keeping.{deeds_keep, each_place}
use Rattle.law_machine_lives.proofs.Stays.{gives_up}
use Rattle.law_machine_lives.proofs.Lists.{all_of_kept, inside, reads_same}
use Rattle.law_machine_lives.proofs.LivesOver.{Lives, lives_at_each}
use Rattle.law_machine_states.specs.States.{ParentsThere}
use Rattle.law_machine_lives.proofs.Readers.{tree_of}
use Rattle.law_machine_lives.proofs.Lives.{noted_kept}
use Rattle.law_machine_lives.proofs.PartsStay.{tree_stays}
use Rattle.law_machine_counts.proofs.Arrived.{arrived_tree}

-- what isn't gone has no parent, or one that isn't gone
abbrev pub Kin : Tree → Type 0
Kin T = (x : ℕ) → is_gone (life_of T x) ≡ false → parent_of T x ≢ 0 → is_gone (life_of T (parent_of T x)) ≡ false

object_changes : (T : Tree) (o : ℕ) (f : Node → Node) → is_gone (f (node_of T o)).life ≡ is_gone (life_of T o) → (f (node_of T o)).parent.0 ≡ parent_of T o → Kin T → Kin (with_node T o f)
object_changes T o f lives parent q x h up =
    let p : parent_of (with_node T o f) x ≡ parent_of T x = reads_same (λ n. n.parent.0) T o f parent x in
    ap (λ y. is_gone (life_of (with_node T o f) y)) p ∙ reads_same (λ n. is_gone n.life) T o f lives (parent_of T x) ∙ q x (sym (reads_same (λ n. is_gone n.life) T o f lives x) ∙ h) (λ z. up (p ∙ z))

-- ---- an object is made

there_still : (T : Tree) (k : Kind) (class parent x : ℕ) → is_gone (life_of T x) ≡ false → is_gone (life_of (tree.create T k class parent) x) ≡ false
there_still T k class parent x h =
    let apart : x ≢ next_id T = λ e. let past : is_gone (life_of T x) ≡ true = rw e (ap (λ (n : Node). is_gone n.life) (entry_past gone T.nodes (next_id T) (omega arith))) in let z : ⊥ = cc in z in
    ap (λ (n : Node). is_gone n.life) (entry_before gone T.nodes (new_node k class parent) x apart) ∙ h

object_made : (T : Tree) (k : Kind) (class parent : ℕ) → is_live (life_of T parent) ≡ true → Kin T → Kin (tree.create T k class parent)
object_made T k class parent live q x h up =
    let U : Tree = tree.create T k class parent in
    elim (one_or_two x (next_id T)) [
      | inl e ↦
          let p : parent_of U x ≡ parent = ap (parent_of U) e ∙ ap (λ (n : Node). n.parent.0) (entry_last gone T.nodes (new_node k class parent)) in
          ap (λ y. is_gone (life_of U y)) p ∙ there_still T k class parent parent (live_there (life_of T parent) live)
      | inr n ↦
          let same : node_of U x ≡ node_of T x = entry_before gone T.nodes (new_node k class parent) x n in
          let p : parent_of U x ≡ parent_of T x = ap (λ (m : Node). m.parent.0) same in
          ap (λ y. is_gone (life_of U y)) p ∙ there_still T k class parent (parent_of T x) (q x (sym (ap (λ (m : Node). is_gone m.life) same) ∙ h) (λ z. up (p ∙ z)))
    ]

-- ---- a deletion is asked

asked_one : {A : Type 0} (S : State A) (x : ℕ) (b : Bool) → is_live (life_of S.tree x) ≡ b → Kin S.tree → Kin (ask_object S x).tree
asked_one {A} S x true e q = subst (λ (U : State A). Kin U.tree) (sym (object_live S x e)) (object_changes S.tree x (with_life life.Asked) (sym (live_there (life_of S.tree x) e)) refl q)
asked_one {A} S x false e q = subst (λ (U : State A). Kin U.tree) (sym (object_off S x e)) q

all_asked : {A : Type 0} (xs : List ℕ) (S : State A) → Kin S.tree → Kin (fold ask_object S xs).tree
all_asked [] S q = q
all_asked (x ∷ xs) S q = all_asked xs (ask_object S x) (asked_one S x (is_live (life_of S.tree x)) refl q)

-- ---- an object ends

none_of_none : (xs : List ℕ) → (length xs == 0) ≡ true → list_all (λ _. false) xs ≡ true
none_of_none [] h = refl
none_of_none (x ∷ xs) h = absurd (let same : suc (length xs) ≡ 0 = eqb-true (suc (length xs)) 0 h in omega arith)

-- no child is left
no_child : (T : Tree) (o x : ℕ) → may_destroy T o ≡ true → parent_of T x ≡ o → is_gone (life_of T x) ≡ false → ⊥
no_child T o x h up there =
    let child : is_child T o x ≡ true = both (parent_of T x == o) (not (is_gone (life_of T x))) (equal (parent_of T x) o up) (ap not there) in
    let within : x < length T.nodes = inside gone (λ n. not (is_gone n.life)) T.nodes x refl (ap not there) in
    let none : (length (children T o) == 0) ≡ true = both_right (is_cleaned (life_of T o) && (references_of T o == 0)) (length (children T o) == 0) h in
    let never : false ≡ true = all_of_kept (λ _. false) (is_child T o) x 0 (length T.nodes) (omega arith) (omega arith) (none_of_none (children T o) none) child in
    let z : ⊥ = cc in z

ended : (T : Tree) (o : ℕ) → may_destroy T o ≡ true → Kin T → Kin (tree.destroy T o)
ended T o may q x h up = elim (one_or_two x o) [
  | inl e ↦ absurd (let off : is_gone (life_of (tree.destroy T o) x) ≡ true = rw e (ap (λ (n : Node). is_gone n.life) (entry_put_same gone T.nodes o gone)) in let z : ⊥ = cc in z)
  | inr n ↦
      let same : node_of (tree.destroy T o) x ≡ node_of T x = entry_put_other gone T.nodes o x gone n in
      let p : parent_of (tree.destroy T o) x ≡ parent_of T x = ap (λ (m : Node). m.parent.0) same in
      let was : is_gone (life_of T x) ≡ false = sym (ap (λ (m : Node). is_gone m.life) same) ∙ h in
      ap (λ y. is_gone (life_of (tree.destroy T o) y)) p
      ∙ ap (λ (m : Node). is_gone m.life) (entry_put_other gone T.nodes o (parent_of T x) gone (λ e. no_child T o x may e was))
      ∙ q x was (λ z. up (p ∙ z))
]

-- ---- each deed

same_tree : (T U : Tree) → U ≡ T → Kin T → Kin U
same_tree T U e q = subst Kin (sym e) q

kin_by : {A : Type 0} (plan : Plan) (d : Deed) (S : State A) → fits plan d S ≡ true → Kin S.tree → Kin (do_deed plan d S).tree
kin_by plan (Create k class parent) S f q = object_made S.tree k class parent.0 (search both_left) q
kin_by plan (MakeRequest class parent) S f q = object_made S.tree kind.Made class parent.0 (search both_left) q
kin_by plan (Arrive device info p) S f q = same_tree _ _ (arrived_tree S device.0 info p) (object_made S.tree kind.Request 0 device.0 (search both_left) q)
kin_by plan (AskDeletion o) S f q = all_asked (subtree S.tree o.0) S q
kin_by plan (Refer o) S f q = object_changes S.tree o.0 (λ n. record n { references = n.references + 1 }) refl refl q
kin_by plan (Unrefer o) S f q = object_changes S.tree o.0 (λ n. record n { references = n.references - 1 }) refl refl q
kin_by plan (WriteCell o k v) S f q = object_changes S.tree o.0 (λ n. record n { cells = slice_set n.cells k v }) refl refl q
kin_by plan (Note o c) S f q = let k = noted_kept c (node_of S.tree o.0) in object_changes S.tree o.0 (noted c) (ap is_gone k.0) k.1 q
kin_by plan (CleanUp o) S f q =
    let waits : is_asked (life_of S.tree o.0) ≡ true = search both_left in
    object_changes S.tree o.0 (with_life life.Cleaned) (sym (asked_there (life_of S.tree o.0) waits)) refl q
kin_by plan (EndLife o) S f q = ended S.tree o.0 (both_left (may_destroy S.tree o.0) (nobody_on S.cpus o.0) f) q
kin_by plan (CompleteRequest r) S f q =
    all_asked (subtree (give_up S r.0).tree r.0) (record (give_up S r.0) { requests = requests.complete S.requests r.0 }) (same_tree _ _ (gives_up tree_of (λ S Q R P. refl) S r.0) q)
kin_by plan d S f q = same_tree _ _ (tree_stays plan d S refl) q

-- ---- the opening, and each place of a run

live_first : (ds : List Declared) (x : ℕ) → is_gone (entry gone (map declared_node ds) x).life ≡ false → is_live (entry gone (map declared_node ds) x).life ≡ true
live_first [] x h = absurd (let z : ⊥ = cc in z)
live_first (d ∷ ds) zero h = refl
live_first (d ∷ ds) (suc x) h = live_first ds x h

all_live : (plan : Plan) (x : ℕ) → is_gone (life_of (opening_tree plan) x) ≡ false → is_live (life_of (opening_tree plan) x) ≡ true
all_live plan zero h = absurd (let z : ⊥ = cc in z)
all_live plan (suc x) h = live_first plan.declared x h

lives_first : {A : Type 0} (plan : Plan) (m : Meaning A) → Lives (state_after plan m []).tree → Lives (opening_tree plan)
unfolding state_after
lives_first plan m k = k

opens : (plan : Plan) → Lives (opening_tree plan) → Kin (opening_tree plan)
opens plan k x h up = live_there (life_of (opening_tree plan) (parent_of (opening_tree plan) x)) (k.above x (all_live plan x h) up)

pub kin_at_each : {A : Type 0} (plan : Plan) (m : Meaning A) (run : List Event) → IsResolved plan → IsRunOf plan m run → (n : ℕ) → Kin (state_after plan m (take n run)).tree
kin_at_each {A} plan m run resolved is_run n = each_place plan m (λ (S : State A). Kin S.tree) (opens plan (lives_first plan m (lives_at_each plan m run resolved is_run 0)))
    (λ S e known may_come q. deeds_keep plan (λ (U : State A). Kin U.tree) (kin_by plan) (deeds plan S e) S (event_fits plan m S e may_come) q)
    (λ S time q. q) run is_run n

pub parents_there_at_each : {A : Type 0} (plan : Plan) (m : Meaning A) (run : List Event) → IsResolved plan → IsRunOf plan m run → (n : ℕ) → ParentsThere (state_after plan m (take n run))
parents_there_at_each plan m run resolved is_run n = record { there = kin_at_each plan m run resolved is_run n }
