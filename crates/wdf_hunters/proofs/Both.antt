-- What two ranges come to that follow one another.
use Rattle.std.proofs.Common.{ℕ, ◌≡◌, ◌≤◌, ◌+◌, ◌-◌, ◌*◌, ◌^◌, List, ◌++◌, Result, Ok, IfOk, subst, arith, sum_by}
use Rattle.std.proofs.lemmas.List.Sums.{sum_by-append}
use Rattle.wdf_base.specs.declared.memory.Memory.{Memory}
use Rattle.wdf_table.specs.declared.row.Row.{Row}
use Rattle.wdf_table.specs.Tables.{IsTallyOf, all_seeds}
use Rattle.wdf_tries.specs.declared.range.Hunted.{Hunted}
use Rattle.wdf_tries.specs.declared.tried.Case.{Case}
use Rattle.wdf_tries.specs.Tries.{IsHuntOf}
use Rattle.wdf_tries.proofs.Ranges.{tries_of_two}

pub hunt_of_both : (tried : Case) (from m n : ℕ) (first second both : Hunted) → IsHuntOf tried from m first → IsHuntOf tried (from + m) n second
    → ((entries others : List Row) → IsTallyOf entries first.tally → IsTallyOf others second.tally → IsTallyOf (entries ++ others) both.tally)
    → both.events ≡ first.events + second.events → IsHuntOf tried from (m + n) both
hunt_of_both tried from m n first second both a b merged added = record {
  tries = a.tries ++ b.tries;
  are = tries_of_two tried from m n a.tries b.tries a.are b.are;
  tally = merged a.tries b.tries a.tally b.tally;
  events = omega (arith, added, a.events, b.events, sum_by-append (λ (row : Row). row.events) a.tries b.tries);
}

-- What a half of a range comes to, as its thread tells it.
abbrev pub IsHalf : Case → ℕ → ℕ → Hunted → Type 0
IsHalf tried from count hunted = IsHuntOf tried from count hunted × (all_seeds hunted.tally ≡ count) × (hunted.events ≤ count * 2 ^ 32)

known : (tried : Case) (from count : ℕ) (told : Result Hunted Memory) (hunted : Hunted) → told ≡ Ok hunted → IfOk told (IsHalf tried from count) → IsHuntOf tried from count hunted
known tried from count told hunted is half = (subst (λ r. IfOk r (IsHalf tried from count)) is half).0

-- the halves of a range, together
pub hunt_of_halves : (tried : Case) (from count half next : ℕ) (told told' whole : Result Hunted Memory) (first second : Hunted) → told ≡ Ok first → told' ≡ Ok second → next ≡ half → half ≤ count
    → IfOk told (IsHalf tried from half) → IfOk told' (IsHalf tried (from + next) (count - half))
    → ((tried : Case) (from m n : ℕ) → IsHuntOf tried from m first → IsHuntOf tried (from + m) n second → IfOk whole (IsHuntOf tried from (m + n)))
    → IfOk whole (IsHuntOf tried from count)
hunt_of_halves tried from count half next told told' whole first second is is' here within a b both =
    let one = known tried from half told first is a in
    let two = known tried (from + next) (count - half) told' second is' b in
    let two' : IsHuntOf tried (from + half) (count - half) second = subst (λ n. IsHuntOf tried (from + n) (count - half) second) here two in
    let sum : half + (count - half) ≡ count = omega arith in
    subst (λ n. IfOk whole (IsHuntOf tried from n)) sum (both tried from half (count - half) one two')
