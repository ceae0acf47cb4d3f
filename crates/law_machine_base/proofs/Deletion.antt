-- Asking a deletion: what it leaves alone, and that asking twice is asking once.
use Rattle.std.proofs.Common.{◌≡◌, ◌≢◌, ℕ, zero, suc, ◌==◌, Bool, true, false, ◌||◌, List, [], ◌∷◌, ◌++◌, length, map, filter, fold, refl, ap, subst, ◌∙◌}
use Rattle.std.specs.List.{range_with_len}
use Rattle.wdf_base.specs.declared.object.Life.TheVariants as life
use Rattle.wdf_base.specs.declared.plan.Plan.{Plan}
use Rattle.wdf_base.specs.Lives.{is_live}
use Rattle.wdf_model.specs.declared.entries.Node.{Node}
use Rattle.wdf_model.specs.Tables.{entry, put}
use Rattle.wdf_model.specs.parts.Tree.{Tree, below_marks, gone, is_below, life_of, node_of, subtree, with_life, with_node}
use Rattle.wdf_model.specs.parts.Deferred.Dpcs as dpcs
use Rattle.wdf_model.specs.parts.Deferred.WorkItems as work_items
use Rattle.wdf_model.specs.parts.Deferred.Timers as timers
use Rattle.wdf_model.specs.State.{State}
use Rattle.wdf_model.specs.Ids.{object_id}
use Rattle.wdf_model.specs.declared.deed.Deed.TheVariants.{AskDeletion}
use Rattle.wdf_model.specs.rules.Deeds.{ask_object, ask_objects, do_deed}
use Rattle.wdf_model.proofs.Maps.{entry_put_same, entry_put_other}

-- ---- what is below an object, by the parents alone

-- where a live object is changed but keeps its parent, the parents are the same
parents_kept : (ns : List Node) (x : ℕ) (n : Node) → is_live (entry gone ns x).life ≡ true → n.parent.0 ≡ (entry gone ns x).parent.0
    → map (λ k. k.parent.0) (put gone ns x n) ≡ map (λ k. k.parent.0) ns
parents_kept [] x n h e = absurd (let z : ⊥ = cc in z)
parents_kept (k ∷ ks) zero n h e = cc
parents_kept (k ∷ ks) (suc x) n h e = ap (λ ps. k.parent.0 ∷ ps) (parents_kept ks x n h e)

marks_by_parents : (o : ℕ) (before : List Bool) (ns ms : List Node) → map (λ k. k.parent.0) ns ≡ map (λ k. k.parent.0) ms
    → below_marks o before ns ≡ below_marks o before ms
marks_by_parents o before [] [] e = refl
marks_by_parents o before [] (m ∷ ms) e = absurd (let z : ⊥ = cc in z)
marks_by_parents o before (n ∷ ns) [] e = absurd (let z : ⊥ = cc in z)
marks_by_parents o before (n ∷ ns) (m ∷ ms) e =
    let one : n.parent.0 ≡ m.parent.0 = cc in
    let rest : map (λ k. k.parent.0) ns ≡ map (λ k. k.parent.0) ms = cc in
    rw one (marks_by_parents o (before ++ (m.parent.0 == o || entry false before m.parent.0) ∷ []) ns ms rest)

as_many : (ns ms : List Node) → map (λ k. k.parent.0) ns ≡ map (λ k. k.parent.0) ms → length ns ≡ length ms
as_many [] [] e = refl
as_many [] (m ∷ ms) e = absurd (let z : ⊥ = cc in z)
as_many (n ∷ ns) [] e = absurd (let z : ⊥ = cc in z)
as_many (n ∷ ns) (m ∷ ms) e = ap suc (as_many ns ms (let rest : map (λ k. k.parent.0) ns ≡ map (λ k. k.parent.0) ms = cc in rest))

subtree_by_parents : (T U : Tree) (o : ℕ) → map (λ k. k.parent.0) T.nodes ≡ map (λ k. k.parent.0) U.nodes → subtree T o ≡ subtree U o
subtree_by_parents T U o e =
    ap (λ marks. filter (λ x. x == o || entry false marks x) (range_with_len 0 (length T.nodes))) (marks_by_parents o [] T.nodes U.nodes e)
    ∙ ap (λ n. filter (λ x. x == o || is_below U o x) (range_with_len 0 n)) (as_many T.nodes U.nodes e)

-- ---- one object

pub object_live : {A : Type 0} (S : State A) (x : ℕ) → is_live (life_of S.tree x) ≡ true
    → ask_object S x ≡ record S {
      tree = with_node S.tree x (with_life life.Asked);
      dpcs = dpcs.cancel S.dpcs x;
      work_items = work_items.cancel S.work_items x;
      timers = timers.stop S.timers x;
    }
object_live S x h = rw h refl

pub object_off : {A : Type 0} (S : State A) (x : ℕ) → is_live (life_of S.tree x) ≡ false → ask_object S x ≡ S
object_off S x h = rw h refl

object_parents : {A : Type 0} (S : State A) (x : ℕ) (b : Bool) → is_live (life_of S.tree x) ≡ b
    → map (λ k. k.parent.0) (ask_object S x).tree.nodes ≡ map (λ k. k.parent.0) S.tree.nodes
object_parents S x true h = rw (object_live S x h) (parents_kept S.tree.nodes x (with_life life.Asked (node_of S.tree x)) h refl)
object_parents S x false h = rw (object_off S x h) refl

-- what isn't live stays so, and what is asked isn't live
another : {A : Type 0} (S : State A) (x y : ℕ) → is_live (life_of S.tree x) ≡ true → is_live (life_of S.tree y) ≡ false → y ≢ x
another S x y h off = λ e. let off_too = subst (λ z. is_live (life_of S.tree z) ≡ false) e off in let z : ⊥ = cc in z

stays_off : {A : Type 0} (S : State A) (x y : ℕ) (b : Bool) → is_live (life_of S.tree x) ≡ b → is_live (life_of S.tree y) ≡ false
    → is_live (life_of (ask_object S x).tree y) ≡ false
stays_off S x y true h off =
    rw (object_live S x h) (ap (λ (n : Node). is_live n.life) (entry_put_other gone S.tree.nodes x y (with_life life.Asked (node_of S.tree x)) (another S x y h off)) ∙ off)
stays_off S x y false h off = rw (object_off S x h) off

goes_off : {A : Type 0} (S : State A) (x : ℕ) (b : Bool) → is_live (life_of S.tree x) ≡ b → is_live (life_of (ask_object S x).tree x) ≡ false
goes_off S x true h = rw (object_live S x h) (ap (λ (n : Node). is_live n.life) (entry_put_same gone S.tree.nodes x (with_life life.Asked (node_of S.tree x))))
goes_off S x false h = rw (object_off S x h) h

-- ---- all of them

all_parents : {A : Type 0} (xs : List ℕ) (S : State A) → map (λ k. k.parent.0) (fold ask_object S xs).tree.nodes ≡ map (λ k. k.parent.0) S.tree.nodes
all_parents [] S = refl
all_parents (x ∷ xs) S = all_parents xs (ask_object S x) ∙ object_parents S x (is_live (life_of S.tree x)) refl

all_stay_off : {A : Type 0} (xs : List ℕ) (S : State A) (y : ℕ) → is_live (life_of S.tree y) ≡ false → is_live (life_of (fold ask_object S xs).tree y) ≡ false
all_stay_off [] S y off = off
all_stay_off (x ∷ xs) S y off = all_stay_off xs (ask_object S x) y (stays_off S x y (is_live (life_of S.tree x)) refl off)

-- asked once more, in any state in which they aren't live
off_once_more : {A : Type 0} (xs : List ℕ) (S : State A) (later : State A)
    → ((y : ℕ) → is_live (life_of (fold ask_object S xs).tree y) ≡ false → is_live (life_of later.tree y) ≡ false)
    → fold ask_object later xs ≡ later
off_once_more [] S later h = refl
off_once_more (x ∷ xs) S later h =
    let gone_off : is_live (life_of later.tree x) ≡ false = h x (all_stay_off xs (ask_object S x) x (goes_off S x (is_live (life_of S.tree x)) refl)) in
    let same : ask_object later x ≡ later = object_off later x gone_off in
    ap (λ T. fold ask_object T xs) same ∙ off_once_more xs (ask_object S x) later h

pub asking_twice : {A : Type 0} (plan : Plan) (S : State A) (o : ℕ)
    → do_deed plan (AskDeletion (object_id o)) (do_deed plan (AskDeletion (object_id o)) S) ≡ do_deed plan (AskDeletion (object_id o)) S
asking_twice plan S o =
    let below : subtree (ask_objects S o).tree o ≡ subtree S.tree o = subtree_by_parents (ask_objects S o).tree S.tree o (all_parents (subtree S.tree o) S) in
    ap (λ xs. fold ask_object (ask_objects S o) xs) below ∙ off_once_more (subtree S.tree o) S (ask_objects S o) (λ y off. off)

-- ---- what is left alone

-- the parts but for the tree and the queues of deferred work
pub record OnlyDeletes {A : Type 0} (old new : State A) : Type 0 where
  pub rest : new ≡ record old { tree = new.tree; dpcs = new.dpcs; work_items = new.work_items; timers = new.timers }

object_deletes : {A : Type 0} (S : State A) (x : ℕ) (b : Bool) → is_live (life_of S.tree x) ≡ b → OnlyDeletes S (ask_object S x)
object_deletes S x true h = rw (object_live S x h) (record { rest = refl })
object_deletes S x false h = rw (object_off S x h) (record { rest = refl })

then_deletes : {A : Type 0} (S T U : State A) → OnlyDeletes S T → OnlyDeletes T U → OnlyDeletes S U
then_deletes {A} S T U h k =
    let front : record T { tree = U.tree; dpcs = U.dpcs; work_items = U.work_items; timers = U.timers } ≡ record S { tree = U.tree; dpcs = U.dpcs; work_items = U.work_items; timers = U.timers }
    = ap (λ (V : State A). record V { tree = U.tree; dpcs = U.dpcs; work_items = U.work_items; timers = U.timers }) h.rest in
    record { rest = k.rest ∙ front }

all_delete : {A : Type 0} (xs : List ℕ) (S T : State A) → OnlyDeletes S T → OnlyDeletes S (fold ask_object T xs)
all_delete [] S T h = h
all_delete (x ∷ xs) S T h =
    all_delete xs S (ask_object T x) (then_deletes S T (ask_object T x) h (object_deletes T x (is_live (life_of T.tree x)) refl))

pub asking_deletes : {A : Type 0} (S : State A) (o : ℕ) → OnlyDeletes S (ask_objects S o)
asking_deletes S o = all_delete (subtree S.tree o) S S (record { rest = refl })
