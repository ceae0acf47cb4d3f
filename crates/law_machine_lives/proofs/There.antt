-- What deeds keep of objects that are there: they are there still, of the same kind and class, until they end.
use Rattle.std.proofs.Common.{◌≡◌, ◌≢◌, ℕ, ◌+◌, ◌-◌, Bool, true, false, List, [], ◌∷◌, fold, slice_set, refl, sym, ap, subst, ◌∙◌, arith}
use Rattle.wdf_base.specs.declared.plan.Plan.{Plan}
use Rattle.wdf_base.specs.declared.object.Kind.{Kind}
use Rattle.wdf_base.specs.declared.object.Kind.TheVariants as kind
use Rattle.wdf_base.specs.declared.object.Life.TheVariants as life
use Rattle.wdf_base.specs.Lives.{is_asked, is_gone, is_live}
use Rattle.wdf_model.specs.declared.entries.Node.{Node}
use Rattle.wdf_model.specs.parts.Tree.{Tree, class_of, gone, kind_of, life_of, new_node, next_id, node_of, noted, subtree, with_life, with_node}
use Rattle.wdf_model.specs.parts.Tree as tree
use Rattle.wdf_model.specs.parts.Requests as requests
use Rattle.wdf_model.specs.State.{State}
use Rattle.wdf_model.specs.declared.deed.Deed.{Deed}
use Rattle.wdf_model.specs.declared.deed.Deed.TheVariants.{Create, MakeRequest, Arrive, AskDeletion, Refer, Unrefer, WriteCell, Note, CleanUp, EndLife, CompleteRequest}
use Rattle.wdf_model.specs.rules.Deeds.{ask_object, do_deed, give_up}
use Rattle.law_machine_base.specs.Fits.{fits}
use Rattle.wdf_model.proofs.Tests.{both_left}
use Rattle.wdf_model.proofs.Maps.{entry_before, entry_past, entry_put_other}
use Rattle.law_machine_base.proofs.Deletion.{object_live, object_off}
use Rattle.law_machine_counts.proofs.StillFrames.{asked_there, live_there}
use Rattle.law_machine_lives.proofs.Stays.{gives_up}
use Rattle.law_machine_lives.proofs.Lists.{reads_same}
use Rattle.law_machine_lives.proofs.Readers.{tree_of}
use Rattle.law_machine_lives.proofs.Lives.{noted_same}
use Rattle.law_machine_lives.proofs.PartsStay.{tree_stays}
use Rattle.law_machine_counts.proofs.Arrived.{arrived_tree}

-- an object that is there is there still, and what it was
pub record StaysAt (T U : Tree) (x : ℕ) : Type 0 where
  pub there : is_gone (life_of U x) ≡ false
  pub kind : kind_of U x ≡ kind_of T x
  pub class : class_of U x ≡ class_of T x

abbrev pub StillThere : Tree → Tree → Type 0
StillThere T U = (x : ℕ) → is_gone (life_of T x) ≡ false → StaysAt T U x

pub there_same : (T U : Tree) → U ≡ T → StillThere T U
there_same T U e = subst (λ (V : Tree). StillThere T V) (sym e) (λ x h. record { there = h; kind = refl; class = refl })

there_then : (T U V : Tree) → StillThere T U → StillThere U V → StillThere T V
there_then T U V a b x h = let p = a x h in let q = b x p.there in record { there = q.there; kind = q.kind ∙ p.kind; class = q.class ∙ p.class }

there_changes : (T : Tree) (o : ℕ) (f : Node → Node) → is_gone (f (node_of T o)).life ≡ is_gone (life_of T o) → (f (node_of T o)).kind ≡ kind_of T o → (f (node_of T o)).class ≡ class_of T o → StillThere T (with_node T o f)
there_changes T o f lives kinds classes x h = record {
  there = reads_same (λ n. is_gone n.life) T o f lives x ∙ h;
  kind = reads_same (λ n. n.kind) T o f kinds x;
  class = reads_same (λ n. n.class) T o f classes x;
}

there_made : (T : Tree) (k : Kind) (class parent : ℕ) → StillThere T (tree.create T k class parent)
there_made T k class parent x h =
    let apart : x ≢ next_id T = λ e. let past : is_gone (life_of T x) ≡ true = rw e (ap (λ (n : Node). is_gone n.life) (entry_past gone T.nodes (next_id T) (omega arith))) in let z : ⊥ = cc in z in
    let same : node_of (tree.create T k class parent) x ≡ node_of T x = entry_before gone T.nodes (new_node k class parent) x apart in
    record { there = ap (λ (n : Node). is_gone n.life) same ∙ h; kind = ap (λ (n : Node). n.kind) same; class = ap (λ (n : Node). n.class) same }

asked_one : {A : Type 0} (S : State A) (x : ℕ) (b : Bool) → is_live (life_of S.tree x) ≡ b → StillThere S.tree (ask_object S x).tree
asked_one {A} S x true e = subst (λ (U : State A). StillThere S.tree U.tree) (sym (object_live S x e)) (there_changes S.tree x (with_life life.Asked) (sym (live_there (life_of S.tree x) e)) refl refl)
asked_one {A} S x false e = there_same S.tree (ask_object S x).tree (ap (λ (U : State A). U.tree) (object_off S x e))

all_asked : {A : Type 0} (xs : List ℕ) (S : State A) → StillThere S.tree (fold ask_object S xs).tree
all_asked [] S = there_same S.tree S.tree refl
all_asked (x ∷ xs) S = there_then S.tree (ask_object S x).tree (fold ask_object (ask_object S x) xs).tree (asked_one S x (is_live (life_of S.tree x)) refl) (all_asked xs (ask_object S x))

pub ends_object : (T : Tree) (o x : ℕ) → x ≢ o → is_gone (life_of T x) ≡ false → StaysAt T (tree.destroy T o) x
ends_object T o x n h =
    let same : node_of (tree.destroy T o) x ≡ node_of T x = entry_put_other gone T.nodes o x gone n in
    record { there = ap (λ (m : Node). is_gone m.life) same ∙ h; kind = ap (λ (m : Node). m.kind) same; class = ap (λ (m : Node). m.class) same }

-- the object that a deed ends, if any
abbrev pub Ends : Deed → ℕ → Type 0
Ends (EndLife o) x = x ≡ o.0
Ends _ x = ⊥

pub deed_there : {A : Type 0} (plan : Plan) (d : Deed) (S : State A) → fits plan d S ≡ true → (x : ℕ) → (Ends d x → ⊥) → is_gone (life_of S.tree x) ≡ false → StaysAt S.tree (do_deed plan d S).tree x
deed_there plan (Create k class parent) S f x n h = there_made S.tree k class parent.0 x h
deed_there plan (MakeRequest class parent) S f x n h = there_made S.tree kind.Made class parent.0 x h
deed_there plan (Arrive device info p) S f x n h = subst (λ (V : Tree). StaysAt S.tree V x) (sym (arrived_tree S device.0 info p)) (there_made S.tree kind.Request 0 device.0 x h)
deed_there plan (AskDeletion o) S f x n h = all_asked (subtree S.tree o.0) S x h
deed_there plan (Refer o) S f x n h = there_changes S.tree o.0 (λ m. record m { references = m.references + 1 }) refl refl refl x h
deed_there plan (Unrefer o) S f x n h = there_changes S.tree o.0 (λ m. record m { references = m.references - 1 }) refl refl refl x h
deed_there plan (WriteCell o k v) S f x n h = there_changes S.tree o.0 (λ m. record m { cells = slice_set m.cells k v }) refl refl refl x h
deed_there plan (Note o c) S f x n h =
    let k = noted_same c (node_of S.tree o.0) in
    there_changes S.tree o.0 (noted c) (ap is_gone k.0) k.1 k.2 x h
deed_there plan (CleanUp o) S f x n h =
    let asked : is_asked (life_of S.tree o.0) ≡ true = search both_left in
    there_changes S.tree o.0 (with_life life.Cleaned) (sym (asked_there (life_of S.tree o.0) asked)) refl refl x h
deed_there plan (EndLife o) S f x n h = ends_object S.tree o.0 x n h
deed_there plan (CompleteRequest r) S f x n h =
    there_then S.tree (give_up S r.0).tree _ (there_same _ _ (gives_up tree_of (λ S Q R P. refl) S r.0))
    (all_asked (subtree (give_up S r.0).tree r.0) (record (give_up S r.0) { requests = requests.complete S.requests r.0 })) x h
deed_there plan d S f x n h = there_same _ _ (tree_stays plan d S refl) x h
