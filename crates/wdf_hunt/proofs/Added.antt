-- What is said of tables.
use Rattle.std.proofs.Common.{ℕ, inl, inr, List, refl}
use Rattle.wdf_input.specs.declared.input.TheConstants.{INPUT_LIMIT}
use Rattle.wdf_input.proofs.Taken.{all_within}
use Rattle.wdf_output.specs.declared.refusal.Refusal.{Refusal}
use Rattle.wdf_output.specs.declared.refusal.Refusal.TheVariants.{ReadFault, TooLarge, NoMemory, NoScene, NoPlan}
use Rattle.wdf_output.specs.Refusals.{no_memory_line, read_fault_line, refusal_line, refusal_status, too_large_line}
use Rattle.wdf_output.specs.Said.{Sinking, Says}
use Rattle.wdf_sum.specs.declared.refused.Why.{Why}
use Rattle.wdf_sum.specs.Sums.{IsRefusedAt}
use Rattle.wdf_top.specs.Top.{Sourcing, IsRead}
use Rattle.wdf_hunt.specs.Sums.{IsReadCauseOf, TellsSum, TellsSumOf, sum_line}

-- that memory was refused was said
pub wanting_told : (input : List ℕ) (k : Sinking) (answer : ℕ) → Says k no_memory_line 15 answer → TellsSumOf input k answer
wanting_told input k answer said = (no_memory_line, 15, inr (refl, refl), said)

-- the line that is wrong was said
pub line_told : (input : List ℕ) (line : ℕ) (y : Why) (k : Sinking) (answer : ℕ) → IsRefusedAt input line y → Says k (sum_line line y) 6 answer → TellsSumOf input k answer
line_told input line y k answer refused said =
    (sum_line line y, 6, inl (inr (record { line = line; reason = y; refused = refused; text_is = refl; status_is = refl })), said)

-- what is said of an input that was read is what `sum` says
pub sum_told : (s : Sourcing) (k : Sinking) (input : List ℕ) (answer : ℕ) → IsRead s input → TellsSumOf input k answer → TellsSum s k answer
sum_told s k input answer is_read (text, status, inl due, said) = (text, status, inl (input, is_read, due), said)
sum_told s k input answer is_read (text, status, inr wants, said) =
    (text, status, inr (inr (inr (is_read.2, all_within s.before s.after input INPUT_LIMIT is_read.0 is_read.1, wants.0, wants.1))), said)

-- that an input wasn't read to its end was said
pub unread_told : (s : Sourcing) (k : Sinking) (refusal : Refusal) (answer : ℕ) → IsReadCauseOf s refusal → Says k (refusal_line refusal) (refusal_status refusal) answer → TellsSum s k answer
unread_told s k ReadFault answer cause said = (read_fault_line, 12, inr (inr (inl (cause.0, cause.1, refl, refl))), said)
unread_told s k TooLarge answer cause said = (too_large_line, 14, inr (inl (cause.0, cause.1, refl, refl)), said)
unread_told s k NoMemory answer cause said = (no_memory_line, 15, inr (inr (inr (cause.0, cause.1, refl, refl))), said)
unread_told s k (NoScene refusal) answer cause said = absurd cause
unread_told s k (NoPlan refusal) answer cause said = absurd cause
