-- A search for the first id that passes a test among those that pass a wider one.
use Rattle.std.proofs.Common.{Bool, true, false, ℕ, ◌≡◌, ◌⊎◌, ◌+◌, ◌<◌, ◌≤◌, inl, inr, ap, ◌∙◌, arith}
use Rattle.std.proofs.lemmas.Bool.{cases_lt}
use Rattle.wdf_sets.specs.Nexts.{IsNext, NoneFrom}

module _ (wide test : ℕ → Bool) (fails : (x : ℕ) → wide x ≡ false → test x ≡ false) (from at : ℕ) (none : NoneFrom test from at) where
  -- nor any id from one on up to another that doesn't pass the wider test
  pub none_up_to : (to : ℕ) → NoneFrom wide at to → NoneFrom test from to
  none_up_to to off x above below = by (cases_lt x at)
    where
      by : (x < at) ⊎ (at ≤ x) → test x ≡ false
      by (inl before) = none x above before
      by (inr after) = fails x (off x after below)

  module _ (far end x : ℕ) (h : IsNext wide at far x) where
    pub none_so_far : NoneFrom test from x
    none_so_far = none_up_to x h.before

    -- the next that passes the wider test is past the end
    pub none_within : end ≤ x → NoneFrom test from end
    none_within past y above below = none_so_far y above (omega arith)

    -- it passes the test
    pub next_is : from ≤ at → x < end → test x ≡ true → IsNext test from end x
    next_is after below passes = record { after = let more = h.after in omega arith; within = below; passes = passes; before = none_so_far }

    -- it doesn't
    pub none_past : test x ≡ false → NoneFrom test from (x + 1)
    none_past off y above below = by (cases_lt y x)
      where
        by : (y < x) ⊎ (x ≤ y) → test y ≡ false
        by (inl before) = none_so_far y above before
        by (inr here) = let same : y ≡ x = omega arith in ap test same ∙ off
