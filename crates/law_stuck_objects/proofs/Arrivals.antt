-- What a deed leaves of requests that arrived: each keeps its device and, while it is there, its parent.
use Rattle.std.proofs.Common.{◌≡◌, ℕ, ◌+◌, ◌-◌, Bool, true, false, not, ◌&&◌, List, [], ◌∷◌, ◌⊎◌, inl, inr, fold, slice_set, refl, sym, ap, subst, ◌∙◌}
use Rattle.wdf_base.specs.declared.plan.Plan.{Plan}
use Rattle.wdf_base.specs.declared.call.Callback.{Callback}
use Rattle.wdf_base.specs.declared.call.Callback.TheVariants as callback
use Rattle.wdf_base.specs.declared.object.Kind.{Kind}
use Rattle.wdf_base.specs.declared.object.Kind.TheVariants as kind
use Rattle.wdf_base.specs.declared.object.Life.TheVariants as life
use Rattle.wdf_base.specs.Same.{same_kind}
use Rattle.wdf_base.specs.Lives.{is_live}
use Rattle.wdf_model.specs.declared.entries.Node.{Node}
use Rattle.wdf_model.specs.declared.entries.Request.{Request}
use Rattle.wdf_model.specs.parts.Tree.{Tree, gone, is_full, kind_of, life_of, new_node, next_id, node_of, noted, parent_of, subtree, with_life, with_node}
use Rattle.wdf_model.specs.parts.Tree as tree
use Rattle.wdf_model.specs.parts.Requests.{Requests, info_of}
use Rattle.wdf_model.specs.parts.Requests as requests
use Rattle.wdf_model.specs.State.{State}
use Rattle.wdf_model.specs.declared.deed.Deed.{Deed}
use Rattle.wdf_model.specs.declared.deed.Deed.TheVariants.{Arrive, AskDeletion, CleanUp, CompleteRequest, Create, EndLife, MakeRequest, Note, Refer, Unrefer, WriteCell}
use Rattle.wdf_model.specs.rules.Deeds.{ask_object, do_deed, give_up}
use Rattle.wdf_model.specs.rules.Faults.{is_never_deleted, is_request_kind}
use Rattle.law_machine_base.specs.Fits.{fits}
use Rattle.wdf_model.proofs.Tests.{both_left, both_right, not_true}
use Rattle.wdf_model.proofs.Maps.{entry_before, entry_last, entry_put_other, entry_put_same}
use Rattle.wdf_model.proofs.Counts.{one_or_two}
use Rattle.law_machine_base.proofs.Deletion.{object_live, object_off}
use Rattle.law_machine_base.proofs.Kept.{is_request}
use Rattle.law_machine_base.proofs.KeptByDeeds.{is_arrival}
use Rattle.law_machine_lives.proofs.Lists.{reads_same}
use Rattle.law_machine_lives.proofs.Stays.{gives_up}
use Rattle.law_machine_lives.proofs.ArrivedStay.{arrival_in, arrived_stay}
use Rattle.law_machine_lives.proofs.Readers.{tree_of}
use Rattle.law_machine_lives.proofs.PartsStay.{tree_stays}

-- ---- devices

abbrev pub device_in : Requests → ℕ → ℕ
device_in R r = (info_of R r).device.0

pub devices_stay : {A : Type 0} (plan : Plan) (d : Deed) (S : State A) → is_arrival d ≡ false → (x : ℕ) → (device_in (do_deed plan d S).requests x ≡ device_in S.requests x) ⊎ (arrival_in (do_deed plan d S).requests x ≡ 0)
devices_stay plan d S h x = elim (arrived_stay plan d S h x) [
  | inl k ↦ inl k.device
  | inr none ↦ inr none
]

-- ---- parents

-- an object of the kind Request was one before, with the same parent
abbrev pub ParentsStay : Tree → Tree → Type 0
ParentsStay T U = (x : ℕ) → is_request U x ≡ true → (is_request T x ≡ true) × (parent_of U x ≡ parent_of T x)

same_tree : (T U : Tree) → U ≡ T → ParentsStay T U
same_tree T U e = subst (ParentsStay T) (sym e) (λ x h. (h, refl))

tree_then : (T U V : Tree) → ParentsStay T U → ParentsStay U V → ParentsStay T V
tree_then T U V a b x h = let p = b x h in let q = a x p.0 in (q.0, p.1 ∙ q.1)

node_changes : (T : Tree) (o : ℕ) (f : Node → Node) → (f (node_of T o)).kind ≡ kind_of T o → (f (node_of T o)).parent.0 ≡ parent_of T o → ParentsStay T (with_node T o f)
node_changes T o f kinds parents x h = (
  sym (ap (λ k. same_kind k kind.Request) (reads_same (λ n. n.kind) T o f kinds x)) ∙ h,
  reads_same (λ n. n.parent.0) T o f parents x,
)

object_made : (T : Tree) (k : Kind) (class parent : ℕ) → same_kind k kind.Request ≡ false → ParentsStay T (tree.create T k class parent)
object_made T k class parent other x h =
    let n : Node = new_node k class parent in
    elim (one_or_two x (next_id T)) [
      | inl e ↦ absurd (
          let here : is_request (tree.create T k class parent) x ≡ false = ap (is_request (tree.create T k class parent)) e ∙ ap (λ (m : Node). same_kind m.kind kind.Request) (entry_last gone T.nodes n) ∙ other in
          let z : ⊥ = cc in z)
      | inr d ↦
          let same : node_of (tree.create T k class parent) x ≡ node_of T x = entry_before gone T.nodes n x d in
          (sym (ap (λ (m : Node). same_kind m.kind kind.Request) same) ∙ h, ap (λ (m : Node). m.parent.0) same)
    ]

object_ended : (T : Tree) (o : ℕ) → ParentsStay T (tree.destroy T o)
object_ended T o x h = elim (one_or_two x o) [
  | inl e ↦ absurd (let off : is_request (tree.destroy T o) x ≡ false = rw e (ap (λ (m : Node). same_kind m.kind kind.Request) (entry_put_same gone T.nodes o gone)) in let z : ⊥ = cc in z)
  | inr n ↦
      let same : node_of (tree.destroy T o) x ≡ node_of T x = entry_put_other gone T.nodes o x gone n in
      (sym (ap (λ (m : Node). same_kind m.kind kind.Request) same) ∙ h, ap (λ (m : Node). m.parent.0) same)
]

asked_one : {A : Type 0} (S : State A) (x : ℕ) (b : Bool) → is_live (life_of S.tree x) ≡ b → ParentsStay S.tree (ask_object S x).tree
asked_one {A} S x true e = subst (λ (U : State A). ParentsStay S.tree U.tree) (sym (object_live S x e)) (node_changes S.tree x (with_life life.Asked) refl refl)
asked_one {A} S x false e = same_tree S.tree (ask_object S x).tree (ap (λ (U : State A). U.tree) (object_off S x e))

all_asked : {A : Type 0} (xs : List ℕ) (S : State A) → ParentsStay S.tree (fold ask_object S xs).tree
all_asked [] S = same_tree S.tree S.tree refl
all_asked (x ∷ xs) S = tree_then S.tree (ask_object S x).tree (fold ask_object (ask_object S x) xs).tree (asked_one S x (is_live (life_of S.tree x)) refl) (all_asked xs (ask_object S x))

noted_kept : (c : Callback) (n : Node) → ((noted c n).kind ≡ n.kind) × ((noted c n).parent.0 ≡ n.parent.0)
noted_kept callback.EvtDestroyCallback n = (refl, refl)
noted_kept _ n = (refl, refl)

made_other : (k : Kind) → is_request_kind k ≡ false → same_kind k kind.Request ≡ false
made_other kind.Request h = absurd (let z : ⊥ = cc in z)
made_other _ h = refl

pub parents_stay : {A : Type 0} (plan : Plan) (d : Deed) (S : State A) → is_arrival d ≡ false → fits plan d S ≡ true → ParentsStay S.tree (do_deed plan d S).tree
parents_stay plan (Arrive device info p) S h f = absurd (let z : ⊥ = cc in z)
parents_stay plan (Create k class parent) S h f =
    object_made S.tree k class parent.0
    (made_other k (not_true (is_request_kind k) (both_right (is_live (life_of S.tree parent.0) && not (is_full S.tree)) (not (is_request_kind k)) (both_left (is_live (life_of S.tree parent.0) && not (is_full S.tree) && not (is_request_kind k)) (not (is_never_deleted k)) f))))
parents_stay plan (MakeRequest class parent) S h f = object_made S.tree kind.Made class parent.0 refl
parents_stay plan (Refer o) S h f = node_changes S.tree o.0 (λ m. record m { references = m.references + 1 }) refl refl
parents_stay plan (Unrefer o) S h f = node_changes S.tree o.0 (λ m. record m { references = m.references - 1 }) refl refl
parents_stay plan (WriteCell o k v) S h f = node_changes S.tree o.0 (λ m. record m { cells = slice_set m.cells k v }) refl refl
parents_stay plan (Note o c) S h f = let k = noted_kept c (node_of S.tree o.0) in node_changes S.tree o.0 (noted c) k.0 k.1
parents_stay plan (CleanUp o) S h f = node_changes S.tree o.0 (with_life life.Cleaned) refl refl
parents_stay plan (EndLife o) S h f = object_ended S.tree o.0
parents_stay plan (AskDeletion o) S h f = all_asked (subtree S.tree o.0) S
parents_stay plan (CompleteRequest r) S h f =
    tree_then S.tree (give_up S r.0).tree (do_deed plan (CompleteRequest r) S).tree (same_tree S.tree (give_up S r.0).tree (gives_up tree_of (λ S Q R P. refl) S r.0))
    (all_asked (subtree (give_up S r.0).tree r.0) (record (give_up S r.0) { requests = requests.complete S.requests r.0 }))
parents_stay plan d S h f = same_tree _ _ (tree_stays plan d S refl)
