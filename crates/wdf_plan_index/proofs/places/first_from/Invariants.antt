-- No place so far has the number, and this one has its remainder.
use Rattle.std.proofs.Common.{◌≡◌, ◌≢◌, ℕ, ◌-◌, ◌%◌, ◌<◌, ◌≤◌, length, slice_index}
use Rattle.wdf_plan_index.proofs.places.first_from.Given as goal

abbrev pub invariant-pass : goal.invariant-pass
invariant-pass l = record {
  after : l.from ≤ l.at;
  within : l.at ≤ length l.numbers;
  passed : (j : ℕ) → l.from ≤ j → j < l.at → slice_index l.numbers j ≢ l.number;
  alike : l.at < length l.numbers → slice_index l.numbers l.at % length l.chains.heads.items ≡ l.number % length l.chains.heads.items;
}

abbrev pub decreases-pass : goal.decreases-pass
decreases-pass l = length l.numbers - l.at
