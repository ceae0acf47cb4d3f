-- All objects below a cleaned one are cleaned or gone, at each place of every run.
use Rattle.std.proofs.Common.{◌≡◌, ℕ, zero, suc, ◌+◌, ◌==◌, Bool, true, false, ◌||◌, List, [], ◌∷◌, ◌++◌, inl, inr, length, take, refl, sym, ap, subst, ◌∙◌, arith, length-append}
use Rattle.std.proofs.lemmas.Bool.{cases_Bool, eqb-true, or_cases}
use Rattle.wdf_base.specs.Meaning.{Meaning}
use Rattle.wdf_base.specs.declared.plan.Plan.{Plan}
use Rattle.wdf_base.specs.declared.event.Event.{Event}
use Rattle.wdf_base.specs.declared.object.Life.{Life}
use Rattle.wdf_base.specs.declared.object.Life.TheVariants as life
use Rattle.wdf_base.specs.Lives.{is_cleaned, is_gone, is_past_cleanup}
use Rattle.wdf_model.specs.declared.entries.Node.{Node}
use Rattle.wdf_model.specs.Tables.{entry}
use Rattle.wdf_model.specs.parts.Tree.{Tree, below_marks, gone, is_below, life_of, node_of, parent_of}
use Rattle.wdf_model.specs.State.{State}
use Rattle.wdf_model.specs.declared.deed.Deed.{Deed}
use Rattle.wdf_model.specs.declared.deed.Deed.TheVariants.{EndLife, EndStep, GoOn, ParkFrame, PopFrame, PushFrame, TakeStep, UnparkFrame}
use Rattle.wdf_model.specs.rules.Deeds.{do_deed}
use Rattle.wdf_model.specs.rules.Steps.{deeds}
use Rattle.wdf_model.specs.rules.Ready.{IsRunOf, state_after}
use Rattle.law_machine_base.specs.Fits.{fits}
use Rattle.wdf_model.proofs.Tests.{both}
use Rattle.wdf_model.proofs.Maps.{entry_before, entry_last}
use Rattle.wdf_model.proofs.Counts.{one_or_two}
use Rattle.law_machine_base.proofs.FitsOfEvents.{event_fits}
use Rattle.law_machine_counts.proofs.Trees.{Rooted, rooted_still}
use Rattle.law_machine_counts.proofs.StillFrames.{deeds_still}
use Rattle.law_machine_lives.proofs.Keeping.{deeds_keep, each_place}
use Rattle.law_machine_lives.proofs.CleanedOver.{InOrder, in_order_at_each}
use Rattle.law_machine_states.specs.States.{NothingBelowCleaned, ancestor}
use Rattle.law_machine_counts.proofs.StepsOverRuns.{opening_hollow}

-- ---- what is gone has no parent

rooted_by : {A : Type 0} (plan : Plan) (d : Deed) (S : State A) → fits plan d S ≡ true → Rooted S.tree → Rooted (do_deed plan d S).tree
rooted_by plan (PushFrame cpu f frame level) S fit r = r
rooted_by plan (GoOn f next) S fit r = r
rooted_by plan (PopFrame cpu) S fit r = r
rooted_by plan (ParkFrame cpu) S fit r = r
rooted_by plan (UnparkFrame cpu f) S fit r = r
rooted_by plan (TakeStep d) S fit r = r
rooted_by plan (EndStep d s result) S fit r = r
rooted_by plan (EndLife o) S fit r = rooted_still S.tree o.0 r
rooted_by plan d S fit r = (deeds_still plan (d ∷ []) S refl (both (fits plan d S) true fit refl)).tree.rooted r

pub rooted_at_each : {A : Type 0} (plan : Plan) (m : Meaning A) (run : List Event) → IsRunOf plan m run → (n : ℕ) → Rooted (state_after plan m (take n run)).tree
rooted_at_each {A} plan m run is_run n = each_place plan m (λ (S : State A). Rooted S.tree) (record { hollow = opening_hollow plan; root = refl; some = omega arith })
    (λ S e known may_come r. deeds_keep plan (λ (U : State A). Rooted U.tree) (rooted_by plan) (deeds plan S e) S (event_fits plan m S e may_come) r)
    (λ S time r. r) run is_run n

-- ---- steps from child to parent

past_gone : (l : Life) → is_past_cleanup l ≡ true → is_cleaned l ≡ false → is_gone l ≡ true
past_gone life.Gone h k = refl
past_gone _ h k = absurd (let z : ⊥ = cc in z)

gone_uncleaned : (l : Life) → is_gone l ≡ true → is_cleaned l ≡ false
gone_uncleaned life.Cleaned h = absurd (let z : ⊥ = cc in z)
gone_uncleaned _ h = refl

above_root : (T : Tree) → Rooted T → (n : ℕ) → ancestor T n 0 ≡ 0
above_root T r zero = r.hollow 0 r.root
above_root T r (suc n) = ap (ancestor T n) (r.hollow 0 r.root) ∙ above_root T r n

above_gone : (T : Tree) → Rooted T → (n o : ℕ) → is_gone (life_of T o) ≡ true → ancestor T n o ≡ 0
above_gone T r zero o h = r.hollow o h
above_gone T r (suc n) o h = ap (ancestor T n) (r.hollow o h) ∙ above_root T r n

none_cleaned_above : (T : Tree) → Rooted T → InOrder T → (n o : ℕ) → is_past_cleanup (life_of T o) ≡ false → is_cleaned (life_of T (ancestor T n o)) ≡ false
none_cleaned_above T r q zero o h = q o h
none_cleaned_above T r q (suc n) o h = elim (cases_Bool (is_past_cleanup (life_of T (parent_of T o)))) [
  | inl past ↦
      let none : ancestor T n (parent_of T o) ≡ 0 = above_gone T r n (parent_of T o) (past_gone (life_of T (parent_of T o)) past (q o h)) in
      ap (λ x. is_cleaned (life_of T x)) none ∙ gone_uncleaned (life_of T 0) r.root
  | inr early ↦ none_cleaned_above T r q n (parent_of T o) early
]

past_below : (T : Tree) → Rooted T → InOrder T → (o n : ℕ) → is_cleaned (life_of T (ancestor T n o)) ≡ true → is_past_cleanup (life_of T o) ≡ true
past_below T r q o n h = elim (cases_Bool (is_past_cleanup (life_of T o))) [
  | inl past ↦ past
  | inr early ↦ absurd (let none = none_cleaned_above T r q n o early in let z : ⊥ = cc in z)
]

-- ---- what deletion reaches is below by such steps

abbrev Reaches : Tree → ℕ → ℕ → Type 0
Reaches T o x = (n : ℕ) × (ancestor T n x ≡ o)

reached_by_mark : (T : Tree) (o x : ℕ) (n : Node) (before : List Bool) → n ≡ node_of T x → (n.parent.0 == o || entry false before n.parent.0) ≡ true → ((j : ℕ) → entry false before j ≡ true → Reaches T o j) → Reaches T o x
reached_by_mark T o x n before here h k =
    let up : parent_of T x ≡ n.parent.0 = ap (λ (m : Node). m.parent.0) (sym here) in
    elim (or_cases (n.parent.0 == o) (entry false before n.parent.0) h) [
      | inl e ↦ (0, up ∙ eqb-true n.parent.0 o e)
      | inr e ↦ let r : Reaches T o n.parent.0 = k n.parent.0 e in (suc r.0, ap (ancestor T r.0) up ∙ r.1)
    ]

reached_by_marks : (T : Tree) (o : ℕ) (before : List Bool) (ns : List Node) → ((i : ℕ) → entry gone ns i ≡ node_of T (length before + i)) → ((j : ℕ) → entry false before j ≡ true → Reaches T o j)
    → (j : ℕ) → entry false (below_marks o before ns) j ≡ true → Reaches T o j
reached_by_marks T o before [] here k = k
reached_by_marks T o before (n ∷ ns) here k =
    let b : Bool = n.parent.0 == o || entry false before n.parent.0 in
    let more = length-append before (b ∷ []) in
    let at : length before + 0 ≡ length before = omega arith in
    reached_by_marks T o (before ++ b ∷ []) ns
    (λ i. let next : length before + suc i ≡ length (before ++ b ∷ []) + i = omega arith in here (suc i) ∙ ap (node_of T) next)
    (λ j h. elim (one_or_two j (length before)) [
      | inl e ↦ subst (Reaches T o) (sym e)
          (reached_by_mark T o (length before) n before (here 0 ∙ ap (node_of T) at) (sym (ap (entry false (before ++ b ∷ [])) e ∙ entry_last false before b) ∙ h) k)
      | inr d ↦ k j (sym (entry_before false before b j d) ∙ h)
    ])

pub reached : (T : Tree) (o x : ℕ) → is_below T o x ≡ true → (n : ℕ) × (ancestor T n x ≡ o)
reached T o x h =
    let nil : List Bool = [] in
    reached_by_marks T o nil T.nodes (λ i. let at : i ≡ length nil + i = omega arith in ap (node_of T) at) (λ j e. absurd (let z : ⊥ = cc in z)) x h

-- ---- each place of a run

pub nothing_below_at_each : {A : Type 0} (plan : Plan) (m : Meaning A) (run : List Event) → IsRunOf plan m run → (n : ℕ) → NothingBelowCleaned (state_after plan m (take n run))
nothing_below_at_each plan m run is_run n =
    let T : Tree = (state_after plan m (take n run)).tree in
    let r : Rooted T = rooted_at_each plan m run is_run n in
    let q : InOrder T = in_order_at_each plan m run is_run n in
    record {
      above = past_below T r q;
      below = λ o x h cleaned. let k = reached T o x h in past_below T r q x k.0 (ap (λ y. is_cleaned (life_of T y)) k.1 ∙ cleaned);
    }
