-- What deeds keep of the tree: nearest devices, and that what is gone is below nothing.
use Rattle.std.proofs.Common.{◌≡◌, ◌≢◌, ℕ, zero, suc, ◌+◌, ◌==◌, ◌<◌, ◌≤◌, true, false, not, ◌&&◌, [], ◌∷◌, ◌++◌, ◌⊎◌, inl, inr, length, count_by, refl, ap, sym, subst, ◌∙◌, arith, length-append}
use Rattle.std.specs.List.{range_with_len}
use Rattle.std.proofs.lemmas.Bool.{cases_Bool, eqb-true}
use Rattle.std.proofs.lemmas.List.Sums.{length-filter}
use Rattle.wdf_base.specs.declared.object.Kind.{Kind}
use Rattle.wdf_base.specs.declared.object.Kind.TheVariants as kind
use Rattle.wdf_base.specs.declared.object.Life.{Life}
use Rattle.wdf_base.specs.declared.object.Life.TheVariants as life
use Rattle.wdf_base.specs.Same.{same_kind}
use Rattle.wdf_base.specs.Lives.{is_cleaned, is_gone}
use Rattle.wdf_model.specs.declared.entries.Node.{Node}
use Rattle.wdf_model.specs.Tables.{entry, flag}
use Rattle.wdf_model.specs.parts.Tree.{Tree, children, gone, is_child, life_of, may_destroy, nearest_device, new_node, node_of, noted, parent_of, with_node}
use Rattle.wdf_model.specs.parts.Tree as tree
use Rattle.wdf_model.proofs.Maps.{entry_before, entry_last, entry_put_other, entry_put_same, put_long}
use Rattle.wdf_model.proofs.Tests.{both, both_left, both_right}
use Rattle.wdf_model.proofs.Counts.{equal, one_or_two}
use Rattle.law_machine_counts.proofs.Totals.{counts_it}
use Rattle.law_machine_counts.proofs.Nearest.{Alike, nearest_stays}
use Rattle.wdf_base.specs.declared.call.Callback.{Callback}
use Rattle.wdf_base.specs.declared.call.Callback.TheVariants as callback

-- the id 0 is no object's, and what is gone has it as parent
pub record Rooted (T : Tree) : Type 0 where
  pub hollow : (o : ℕ) → is_gone (life_of T o) ≡ true → parent_of T o ≡ 0
  pub root : is_gone (life_of T 0) ≡ true
  pub some : 0 < length T.nodes

pub record TreeStays (T U : Tree) : Type 0 where
  pub nearest : (o : ℕ) → o < length T.nodes → nearest_device U o ≡ nearest_device T o
  pub longer : length T.nodes ≤ length U.nodes
  pub rooted : Rooted T → Rooted U

pub tree_same : (T : Tree) → TreeStays T T
tree_same T = record { nearest = λ o h. refl; longer = omega arith; rooted = λ r. r }

pub tree_then : (T U V : Tree) → TreeStays T U → TreeStays U V → TreeStays T V
tree_then T U V a b = record {
  nearest = λ o h. b.nearest o (let l = a.longer in omega arith) ∙ a.nearest o h;
  longer = let l = a.longer in let k = b.longer in omega arith;
  rooted = λ r. b.rooted (a.rooted r);
}

-- ---- one object changes

module _ (T : Tree) (o : ℕ) (f : Node → Node) where
  node_alike : ((n : Node) → (f n).kind ≡ n.kind) → ((n : Node) → (f n).parent.0 ≡ n.parent.0) → (i : ℕ) → (i ≡ o) ⊎ (i ≢ o) → Alike (λ _. Unit {0}) (entry gone T.nodes i) (entry gone (with_node T o f).nodes i)
  node_alike kinds parents i (inl e) = rw e (record {
    device = ap (λ (n : Node). same_kind n.kind kind.Device) (entry_put_same gone T.nodes o (f (node_of T o))) ∙ ap (λ k. same_kind k kind.Device) (kinds (node_of T o));
    parent = ap (λ (n : Node). n.parent.0) (entry_put_same gone T.nodes o (f (node_of T o))) ∙ parents (node_of T o);
    fine = tt;
  })
  node_alike kinds parents i (inr n) = record {
    device = ap (λ (m : Node). same_kind m.kind kind.Device) (entry_put_other gone T.nodes o i (f (node_of T o)) n);
    parent = ap (λ (m : Node). m.parent.0) (entry_put_other gone T.nodes o i (f (node_of T o)) n);
    fine = tt;
  }

  node_hollow : Rooted T → ((n : Node) → (f n).parent.0 ≡ n.parent.0) → is_gone (f (node_of T o)).life ≡ is_gone (node_of T o).life → (i : ℕ) → (i ≡ o) ⊎ (i ≢ o) → is_gone (life_of (with_node T o f) i) ≡ true → parent_of (with_node T o f) i ≡ 0
  node_hollow r parents lives i (inl e) h =
      let was : is_gone (life_of T o) ≡ true = sym lives ∙ sym (ap (λ (n : Node). is_gone n.life) (entry_put_same gone T.nodes o (f (node_of T o)))) ∙ rw e at h in
      rw e (ap (λ (n : Node). n.parent.0) (entry_put_same gone T.nodes o (f (node_of T o))) ∙ parents (node_of T o) ∙ r.hollow o was)
  node_hollow r parents lives i (inr n) h =
      ap (λ (m : Node). m.parent.0) (entry_put_other gone T.nodes o i (f (node_of T o)) n) ∙ r.hollow i (sym (ap (λ (m : Node). is_gone m.life) (entry_put_other gone T.nodes o i (f (node_of T o)) n)) ∙ h)

  node_root : Rooted T → is_gone (f (node_of T o)).life ≡ is_gone (node_of T o).life → (0 ≡ o) ⊎ (0 ≢ o) → is_gone (life_of (with_node T o f) 0) ≡ true
  node_root r lives (inl e) = subst (λ y. is_gone (life_of (with_node T o f) y) ≡ true) (sym e) (ap (λ (n : Node). is_gone n.life) (entry_put_same gone T.nodes o (f (node_of T o))) ∙ lives ∙ subst (λ i. is_gone (life_of T i) ≡ true) e r.root)
  node_root r lives (inr n) = ap (λ (m : Node). is_gone m.life) (entry_put_other gone T.nodes o 0 (f (node_of T o)) n) ∙ r.root

  pub tree_changes : ((n : Node) → (f n).kind ≡ n.kind) → ((n : Node) → (f n).parent.0 ≡ n.parent.0) → is_gone (f (node_of T o)).life ≡ is_gone (node_of T o).life → TreeStays T (with_node T o f)
  tree_changes kinds parents lives =
      let more = put_long gone T.nodes o (f (node_of T o)) in
      record {
        nearest = λ x h. nearest_stays (λ _. Unit {0}) [] [] T.nodes (with_node T o f).nodes refl (λ j _. refl) (λ i within _. node_alike kinds parents i (one_or_two i o)) more x tt (omega arith);
        longer = more;
        rooted = λ r. record {
          hollow = λ i h. node_hollow r parents lives i (one_or_two i o) h;
          root = node_root r lives (one_or_two 0 o);
          some = let s = r.some in omega arith;
        };
      }

-- ---- an object is made

pub tree_grows : (T : Tree) (k : Kind) (class parent : ℕ) → TreeStays T (tree.create T k class parent)
tree_grows T k class parent =
    let n : Node = new_node k class parent in
    let more : length (T.nodes ++ n ∷ []) ≡ suc (length T.nodes) = let e = length-append T.nodes (n ∷ []) in omega arith in
    record {
      nearest = λ o h. nearest_stays (λ _. Unit {0}) [] [] T.nodes (T.nodes ++ n ∷ []) refl (λ j _. refl)
          (λ i within _. let same : entry gone (T.nodes ++ n ∷ []) i ≡ entry gone T.nodes i = entry_before gone T.nodes n i (λ e. let z : ⊥ = omega arith in z) in
          record { device = ap (λ (m : Node). same_kind m.kind kind.Device) same; parent = ap (λ (m : Node). m.parent.0) same; fine = tt })
          (omega arith) o tt (omega arith);
      longer = omega arith;
      rooted = λ r. record {
        hollow = λ o h. elim (one_or_two o (length T.nodes)) [
          | inl e ↦ absurd (let live : is_gone (life_of (tree.create T k class parent) o) ≡ false = rw e (ap (λ (m : Node). is_gone m.life) (entry_last gone T.nodes n)) in let z : ⊥ = cc in z)
          | inr d ↦ ap (λ (m : Node). m.parent.0) (entry_before gone T.nodes n o d) ∙ r.hollow o (sym (ap (λ (m : Node). is_gone m.life) (entry_before gone T.nodes n o d)) ∙ h)
        ];
        root = ap (λ (m : Node). is_gone m.life) (entry_before gone T.nodes n 0 (λ e. let s = r.some in let z : ⊥ = omega arith in z)) ∙ r.root;
        some = omega arith;
      };
    }

pub noted_references : (c : Callback) (n : Node) → (noted c n).references ≡ n.references
noted_references callback.EvtDestroyCallback n = refl
noted_references _ n = refl

-- ---- an object ends

pub cleaned_there : (l : Life) → is_cleaned l ≡ true → is_gone l ≡ false
cleaned_there life.Gone h = absurd (let z : ⊥ = cc in z)
cleaned_there _ h = refl

pub none_not_some : (n : ℕ) → (n == 0) ≡ true → 1 ≤ n → ⊥
none_not_some zero e h = omega arith
none_not_some (suc n) e h = let same : suc n ≡ 0 = eqb-true (suc n) 0 e in omega arith

-- no object is below what may end
childless : (T : Tree) (x i : ℕ) → Rooted T → may_destroy T x ≡ true → i < length T.nodes → parent_of T i ≢ x
childless T x i r h within = λ e.
    let cleaned : is_cleaned (life_of T x) ≡ true = both_left (is_cleaned (life_of T x)) _ (both_left (is_cleaned (life_of T x) && _) (length (children T x) == 0) h) in
    let none : (length (children T x) == 0) ≡ true = both_right _ (length (children T x) == 0) h in
    elim (cases_Bool (is_gone (life_of T i))) [
      | inl g ↦
          let zero_ : x ≡ 0 = sym e ∙ r.hollow i g in
          let there : is_gone (life_of T x) ≡ false = cleaned_there (life_of T x) cleaned in
          let gone_ : is_gone (life_of T x) ≡ true = subst (λ y. is_gone (life_of T y) ≡ true) (sym zero_) r.root in
          let z : ⊥ = cc in z
      | inr g ↦
          let it : is_child T x i ≡ true = both (parent_of T i == x) (not (is_gone (life_of T i))) (equal (parent_of T i) x e) (ap not g) in
          let counted = counts_it (is_child T x) i 0 (length T.nodes) (omega arith) (omega arith) in
          let number : length (children T x) ≡ count_by (is_child T x) (range_with_len 0 (length T.nodes)) = length-filter (is_child T x) (range_with_len 0 (length T.nodes)) in
          let one : flag (is_child T x i) ≡ 1 = ap flag it in
          none_not_some (length (children T x)) none (omega arith)
    ]

pub tree_loses : (T : Tree) (x : ℕ) → Rooted T → may_destroy T x ≡ true → (o : ℕ) → o ≢ x → o < length T.nodes → nearest_device (tree.destroy T x) o ≡ nearest_device T o
tree_loses T x r h o other inside =
    nearest_stays (λ i. i ≢ x) [] [] T.nodes (tree.destroy T x).nodes refl (λ j _. refl)
    (λ i within n. let d : i ≢ x = λ e. n (let k : 0 + i ≡ x = omega arith in k) in
    let same : entry gone (tree.destroy T x).nodes i ≡ entry gone T.nodes i = entry_put_other gone T.nodes x i gone d in
    record { device = ap (λ (m : Node). same_kind m.kind kind.Device) same; parent = ap (λ (m : Node). m.parent.0) same; fine = childless T x i r h within })
    (put_long gone T.nodes x gone) o other (omega arith)

pub rooted_still : (T : Tree) (x : ℕ) → Rooted T → Rooted (tree.destroy T x)
rooted_still T x r = record {
  hollow = λ o h. elim (one_or_two o x) [
    | inl e ↦ rw e (ap (λ (m : Node). m.parent.0) (entry_put_same gone T.nodes x gone))
    | inr n ↦ ap (λ (m : Node). m.parent.0) (entry_put_other gone T.nodes x o gone n) ∙ r.hollow o (sym (ap (λ (m : Node). is_gone m.life) (entry_put_other gone T.nodes x o gone n)) ∙ h)
  ];
  root = elim (one_or_two 0 x) [
    | inl e ↦ subst (λ y. is_gone (life_of (tree.destroy T x) y) ≡ true) (sym e) (ap (λ (m : Node). is_gone m.life) (entry_put_same gone T.nodes x gone))
    | inr n ↦ ap (λ (m : Node). is_gone m.life) (entry_put_other gone T.nodes x 0 gone n) ∙ r.root
  ];
  some = let s = r.some in let more = put_long gone T.nodes x gone in omega arith;
}
