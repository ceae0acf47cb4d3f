-- What an object's life has come to lasts: its cleanup, and its end.
use Rattle.std.proofs.Common.{◌≡◌, ◌≢◌, ℕ, ◌+◌, ◌-◌, ◌<◌, ◌≤◌, Bool, true, false, List, [], ◌∷◌, ◌++◌, inl, inr, length, fold, slice_set, refl, sym, ap, subst, ◌∙◌, arith, length-append}
use Rattle.wdf_base.specs.declared.plan.Plan.{Plan}
use Rattle.wdf_base.specs.declared.object.Kind.{Kind}
use Rattle.wdf_base.specs.declared.object.Kind.TheVariants as kind
use Rattle.wdf_base.specs.declared.object.Life.{Life}
use Rattle.wdf_base.specs.declared.object.Life.TheVariants as life
use Rattle.wdf_base.specs.Lives.{is_asked, is_live}
use Rattle.wdf_model.specs.declared.entries.Node.{Node}
use Rattle.wdf_model.specs.parts.Tree.{Tree, gone, life_of, new_node, node_of, noted, subtree, with_life, with_node}
use Rattle.wdf_model.specs.parts.Tree as tree
use Rattle.wdf_model.specs.parts.Requests as requests
use Rattle.wdf_model.specs.State.{State}
use Rattle.wdf_model.specs.declared.deed.Deed.{Deed}
use Rattle.wdf_model.specs.declared.deed.Deed.TheVariants.{Create, MakeRequest, Arrive, AskDeletion, Refer, Unrefer, WriteCell, Note, CleanUp, EndLife, CompleteRequest}
use Rattle.wdf_model.specs.rules.Deeds.{ask_object, do_deed, give_up}
use Rattle.law_machine_base.specs.Fits.{fits}
use Rattle.wdf_model.proofs.Maps.{entry_before, entry_put_other, entry_put_same, put_long}
use Rattle.wdf_model.proofs.Counts.{one_or_two}
use Rattle.law_machine_base.proofs.Deletion.{object_live, object_off}
use Rattle.law_machine_lives.proofs.Stays.{gives_up}
use Rattle.law_machine_lives.proofs.Lists.{reads_same}
use Rattle.law_machine_lives.proofs.Readers.{tree_of}
use Rattle.law_machine_lives.proofs.Lives.{noted_life}
use Rattle.law_machine_lives.proofs.PartsStay.{tree_stays}
use Rattle.law_machine_counts.proofs.StillFrames.{asked_at}
use Rattle.law_machine_counts.proofs.Arrived.{arrived_tree}

-- a test of lives that no object passes before its cleanup, and each one passes that is gone
pub record Late (P : Life → Bool) : Type 0 where
  pub live : P life.Live ≡ false
  pub asked : P life.Asked ≡ false
  pub gone : P life.Gone ≡ true

-- the objects of which F is true were made, and pass the test
abbrev pub Past : (Life → Bool) → (ℕ → Bool) → Tree → Type 0
Past P F T = (x : ℕ) → F x ≡ true → (P (life_of T x) ≡ true) × (x < length T.nodes)

longer : (T : Tree) (o : ℕ) (f : Node → Node) → length T.nodes ≤ length (with_node T o f).nodes
longer T o f = put_long gone T.nodes o (f (node_of T o))

object_changes : (P : Life → Bool) (F : ℕ → Bool) (T : Tree) (o : ℕ) (f : Node → Node) → P (f (node_of T o)).life ≡ P (life_of T o) → Past P F T → Past P F (with_node T o f)
object_changes P F T o f same k x h =
    let was = k x h in
    let l : x < length T.nodes = was.1 in
    let more : length T.nodes ≤ length (with_node T o f).nodes = longer T o f in
    (reads_same (λ n. P n.life) T o f same x ∙ was.0, omega arith)

object_made : (P : Life → Bool) (F : ℕ → Bool) (T : Tree) (k : Kind) (class parent : ℕ) → Past P F T → Past P F (tree.create T k class parent)
object_made P F T k class parent q x h =
    let was = q x h in
    let l : x < length T.nodes = was.1 in
    let more : length (T.nodes ++ new_node k class parent ∷ []) ≡ length T.nodes + 1 = length-append T.nodes (new_node k class parent ∷ []) in
    let apart : x ≢ length T.nodes = omega arith in
    (ap (λ (n : Node). P n.life) (entry_before gone T.nodes (new_node k class parent) x apart) ∙ was.0, omega arith)

never_live : (P : Life → Bool) → Late P → (l : Life) → is_live l ≡ true → P l ≡ false
never_live P late life.Live h = late.live
never_live P late _ h = absurd (let z : ⊥ = cc in z)

never_asked : (P : Life → Bool) → Late P → (l : Life) → is_asked l ≡ true → P l ≡ false
never_asked P late life.Asked h = late.asked
never_asked P late _ h = absurd (let z : ⊥ = cc in z)

asked_one : {A : Type 0} (P : Life → Bool) (F : ℕ → Bool) → Late P → (S : State A) (x : ℕ) (b : Bool) → is_live (life_of S.tree x) ≡ b → Past P F S.tree → Past P F (ask_object S x).tree
asked_one {A} P F late S x true e q =
    subst (λ (U : State A). Past P F U.tree) (sym (object_live S x e))
    (object_changes P F S.tree x (with_life life.Asked) (late.asked ∙ sym (never_live P late (life_of S.tree x) e)) q)
asked_one {A} P F late S x false e q = subst (λ (U : State A). Past P F U.tree) (sym (object_off S x e)) q

all_asked : {A : Type 0} (P : Life → Bool) (F : ℕ → Bool) → Late P → (xs : List ℕ) (S : State A) → Past P F S.tree → Past P F (fold ask_object S xs).tree
all_asked P F late [] S q = q
all_asked P F late (x ∷ xs) S q = all_asked P F late xs (ask_object S x) (asked_one P F late S x (is_live (life_of S.tree x)) refl q)

cleaned : (P : Life → Bool) (F : ℕ → Bool) → Late P → (T : Tree) (o : ℕ) → is_asked (life_of T o) ≡ true → Past P F T → Past P F (tree.clean T o)
cleaned P F late T o asked q x h =
    let was = q x h in
    let l : x < length T.nodes = was.1 in
    let more : length T.nodes ≤ length (tree.clean T o).nodes = longer T o (with_life life.Cleaned) in
    let apart : x ≢ o = λ e. let no_ : P (life_of T o) ≡ false = never_asked P late (life_of T o) asked in let yes_ : P (life_of T o) ≡ true = subst (λ y. P (life_of T y) ≡ true) e was.0 in let z : ⊥ = cc in z in
    (ap (λ (m : Node). P m.life) (entry_put_other gone T.nodes o x (with_life life.Cleaned (node_of T o)) apart) ∙ was.0, omega arith)

ended_at : (P : Life → Bool) → Late P → (T : Tree) (o x : ℕ) → P (life_of T x) ≡ true → P (life_of (tree.destroy T o) x) ≡ true
ended_at P late T o x h = elim (one_or_two x o) [
  | inl e ↦ rw e (ap (λ (n : Node). P n.life) (entry_put_same gone T.nodes o gone) ∙ late.gone)
  | inr n ↦ ap (λ (m : Node). P m.life) (entry_put_other gone T.nodes o x gone n) ∙ h
]

ended : (P : Life → Bool) (F : ℕ → Bool) → Late P → (T : Tree) (o : ℕ) → Past P F T → Past P F (tree.destroy T o)
ended P F late T o q x h =
    let was = q x h in
    let l : x < length T.nodes = was.1 in
    let more : length T.nodes ≤ length (tree.destroy T o).nodes = longer T o (λ n. gone) in
    (ended_at P late T o x was.0, omega arith)

-- ---- each deed

same_tree : (P : Life → Bool) (F : ℕ → Bool) (T U : Tree) → U ≡ T → Past P F T → Past P F U
same_tree P F T U e q = subst (Past P F) (sym e) q

pub deed_keeps : {A : Type 0} (P : Life → Bool) (F : ℕ → Bool) → Late P → (plan : Plan) (d : Deed) (S : State A) → fits plan d S ≡ true → Past P F S.tree → Past P F (do_deed plan d S).tree
deed_keeps P F late plan (Create k class parent) S f q = object_made P F S.tree k class parent.0 q
deed_keeps P F late plan (MakeRequest class parent) S f q = object_made P F S.tree kind.Made class parent.0 q
deed_keeps P F late plan (Arrive device info p) S f q = same_tree P F _ _ (arrived_tree S device.0 info p) (object_made P F S.tree kind.Request 0 device.0 q)
deed_keeps P F late plan (AskDeletion o) S f q = all_asked P F late (subtree S.tree o.0) S q
deed_keeps P F late plan (Refer o) S f q = object_changes P F S.tree o.0 (λ n. record n { references = n.references + 1 }) refl q
deed_keeps P F late plan (Unrefer o) S f q = object_changes P F S.tree o.0 (λ n. record n { references = n.references - 1 }) refl q
deed_keeps P F late plan (WriteCell o k v) S f q = object_changes P F S.tree o.0 (λ n. record n { cells = slice_set n.cells k v }) refl q
deed_keeps P F late plan (Note o c) S f q = object_changes P F S.tree o.0 (noted c) (ap P (noted_life c (node_of S.tree o.0))) q
deed_keeps P F late plan (CleanUp o) S f q = cleaned P F late S.tree o.0 (asked_at S o.0 f) q
deed_keeps P F late plan (EndLife o) S f q = ended P F late S.tree o.0 q
deed_keeps P F late plan (CompleteRequest r) S f q =
    all_asked P F late (subtree (give_up S r.0).tree r.0) (record (give_up S r.0) { requests = requests.complete S.requests r.0 }) (same_tree P F _ _ (gives_up tree_of (λ S Q R P. refl) S r.0) q)
deed_keeps P F late plan d S f q = same_tree P F _ _ (tree_stays plan d S refl) q
