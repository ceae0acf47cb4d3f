-- A search up to the last number of 32 bits, and that number by itself.
use Rattle.std.proofs.Common.{ℕ, ◌≡◌, ◌⊎◌, ◌<◌, ◌≤◌, ◌^◌, Bool, true, false, min, inl, inr, arith}
use Rattle.std.proofs.lemmas.Bool.{cases_lt}
use Rattle.wdf_sets.specs.Nexts.{IsNext, NoneFrom}

module _ (test : ℕ → Bool) (from end to : ℕ) (few : end ≤ 2 ^ 32) (is : to ≡ min end 4294967295) where
  -- what is found before it is the first
  pub found_before : (x : ℕ) → IsNext test from to x → IsNext test from end x
  found_before x next = let within = next.within in record { after = next.after; within = omega arith; passes = next.passes; before = next.before }

  -- the number itself passes
  pub found_last : NoneFrom test from to → from < end → to < end → test to ≡ true → IsNext test from end to
  found_last none begins below on = record { after = omega arith; within = below; passes = on; before = none }

  -- it doesn't, or is no place
  pub none_at_all : NoneFrom test from to → (to < end → test to ≡ false) → NoneFrom test from end
  none_at_all none last id above below = by (cases_lt id to)
    where
      by : (id < to) ⊎ (to ≤ id) → test id ≡ false
      by (inl before) = none id above before
      by (inr after) = let same : id ≡ to = omega arith in rw same (last (omega arith))
