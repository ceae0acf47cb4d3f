-- Counts that are kept: those of the blocks up to one are right, and one more.
use Rattle.std.proofs.Common.{Bool, true, false, ◌≡◌, ℕ, ◌+◌, ◌*◌, ◌-◌, ◌<◌, ◌≤◌, ◌==◌, ◌^◌, ◌⊎◌, inl, inr, List, length, length-set, get_or, get_or-set_same, get_or-set_other, slice_set, slice_get, Some, refl, sym, ◌∙◌, subst, arith}
use Rattle.std.proofs.lemmas.Bool.{eqb-false, eqb-true}
use Rattle.std.proofs.lemmas.List.{get_or_default}
use Rattle.std.proofs.lemmas.Option.{slice_get_within}
use Rattle.wdf_base.specs.Meaning.{Meaning}
use Rattle.wdf_base.specs.declared.plan.Plan.{Plan}
use Rattle.wdf_model.specs.State.{State}
use Rattle.wdf_ready.specs.Blocks.{Grouping, ObjectLists, block_len, groups_in}
use Rattle.wdf_ready.specs.Counts.{IsCountedTo, IsKept, has_stale}
use Rattle.wdf_ready.specs.declared.blocks.Block.{Block}
use Rattle.wdf_ready.specs.declared.stale.Stale.{Stale}
use Rattle.wdf_ready.specs.declared.stale.Stale.TheVariants as stale

-- a number is how many events may come of a block, and it isn't large
abbrev pub IsCountOf : {A : Type 0} → Plan → Meaning A → State A → ObjectLists → Block → ℕ → Type 0
IsCountOf plan m S o b n = (n ≡ block_len plan m S o b) × (n ≤ length (groups_in o b) * 2 ^ 32)

module _ {A : Type 0} (plan : Plan) (m : Meaning A) (S : State A) (all : Grouping) (s : Stale) (each : List ℕ) where
  pub none_counted : IsKept plan m S all (record { each = each; stale = s }) → IsCountedTo plan m S all s each 0
  none_counted k = record {
    filled = k.filled;
    small = k.small;
    right = λ i b is h. elim h [ inl below ↦ absurd (omega arith) | inr known ↦ k.known i b is known ];
  }

  pub all_counted : (at : ℕ) → length all.blocks ≤ at → IsCountedTo plan m S all s each at → IsKept plan m S all (record { each = each; stale = stale.Nothing })
  all_counted at past k = record {
    filled = k.filled;
    small = k.small;
    known = λ i b is known. let within = slice_get_within all.blocks i b is in k.right i b is (inl (omega arith));
  }

  module _ (upto at : ℕ) (b : Block) (n : ℕ) (k : IsCountedTo plan m S all s each upto) (is : slice_get all.blocks at ≡ Some b) (read : n ≡ get_or each at n) where
    read_is : n ≡ get_or each at 0
    read_is =
        let within = slice_get_within all.blocks at b is in
        let filled = k.filled in
        let inside : at < length each = omega arith in
        read ∙ get_or_default each at n 0 inside

    -- a count that is known, as it is read
    pub read_right : has_stale s b ≡ false → n ≡ block_len plan m S all.objects b
    read_right known = read_is ∙ k.right at b is (inr known)

    -- and it isn't large, known or not
    pub read_small : n ≤ length (groups_in all.objects b) * 2 ^ 32
    read_small = subst (λ j. j ≤ length (groups_in all.objects b) * 2 ^ 32) (sym read_is) (k.small at b is)

  module _ (at : ℕ) (d b : Block) (here : slice_get all.blocks at ≡ Some d) (is : slice_get all.blocks at ≡ Some b) (k : IsCountedTo plan m S all s each at) where
    same_block : d ≡ b
    same_block = cc

    -- a count that is known
    pub known_at : has_stale s d ≡ false → IsCountOf plan m S all.objects b (get_or each at 0)
    known_at known = (k.right at b is (inr (subst (λ x. has_stale s x ≡ false) same_block known)), k.small at b is)

    -- that of a block before, which offers as many
    pub alike_at : (step : ℕ) (before : Block) → slice_get all.blocks (at - step) ≡ Some before → 0 < step → step ≤ at
        → (length (groups_in all.objects before) ≡ length (groups_in all.objects d)) × (block_len plan m S all.objects before ≡ block_len plan m S all.objects d)
        → IsCountOf plan m S all.objects b (get_or each (at - step) 0)
    alike_at step before there some low alike =
        let right = k.right (at - step) before there (inl (omega arith)) in
        let small = k.small (at - step) before there in
        subst (λ x. IsCountOf plan m S all.objects x (get_or each (at - step) 0)) same_block
        (right ∙ alike.1, subst (λ j. get_or each (at - step) 0 ≤ j * 2 ^ 32) alike.0 small)

    -- one made anew
    pub anew_at : (n : ℕ) → n ≡ block_len plan m S all.objects d → n ≤ length (groups_in all.objects d) * 2 ^ 32 → IsCountOf plan m S all.objects b n
    anew_at n counted small = subst (λ x. IsCountOf plan m S all.objects x n) same_block (counted, small)

  module _ (at n : ℕ) (b : Block) (is : slice_get all.blocks at ≡ Some b) (counts : IsCountOf plan m S all.objects b n) (k : IsCountedTo plan m S all s each at) where
    inside : at < length each
    inside = let within = slice_get_within all.blocks at b is in let filled = k.filled in omega arith

    still : (i : ℕ) (h : Block) → (i ≡ at → ⊥) → (i < at + 1) ⊎ (has_stale s h ≡ false) → (i < at) ⊎ (has_stale s h ≡ false)
    still i h other (inl below) = inl (omega (arith, other))
    still i h other (inr known) = inr known

    written : (i : ℕ) (h : Block) → i ≡ at → slice_get all.blocks i ≡ Some h → IsCountOf plan m S all.objects h (get_or (slice_set each at n) i 0)
    written i h place here =
        let there : slice_get all.blocks at ≡ Some h = subst (λ j. slice_get all.blocks j ≡ Some h) place here in
        let same : b ≡ h = cc in
        rw (place, get_or-set_same each at n 0 inside) (subst (λ x. IsCountOf plan m S all.objects x n) same counts)

    small_by : (i : ℕ) (h : Block) (c : Bool) → (i == at) ≡ c → slice_get all.blocks i ≡ Some h → get_or (slice_set each at n) i 0 ≤ length (groups_in all.objects h) * 2 ^ 32
    small_by i h true e here = (written i h (eqb-true i at e) here).1
    small_by i h false e here = rw (get_or-set_other each at i n 0 (eqb-false i at e)) (k.small i h here)

    right_by : (i : ℕ) (h : Block) (c : Bool) → (i == at) ≡ c → slice_get all.blocks i ≡ Some h → (i < at + 1) ⊎ (has_stale s h ≡ false) → get_or (slice_set each at n) i 0 ≡ block_len plan m S all.objects h
    right_by i h true e here why = (written i h (eqb-true i at e) here).0
    right_by i h false e here why = get_or-set_other each at i n 0 (eqb-false i at e) ∙ k.right i h here (still i h (eqb-false i at e) why)

    pub one_counted : IsCountedTo plan m S all s (slice_set each at n) (at + 1)
    one_counted = record {
      filled = length-set each at n ∙ k.filled;
      small = λ i h here. small_by i h (i == at) refl here;
      right = λ i h here why. right_by i h (i == at) refl here why;
    }
