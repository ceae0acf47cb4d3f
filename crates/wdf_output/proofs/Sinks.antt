-- No status of a text is 13, and a sink that failed isn't tried again.
use Rattle.std.proofs.Common.{ℕ, ◌≡◌, ◌∙◌, arith}
use Rattle.wdf_base.specs.declared.event.Ending.{Ending}
use Rattle.wdf_base.specs.declared.event.Ending.TheVariants as ending
use Rattle.wdf_io.specs.Outside.{EndsRefused}
use Rattle.wdf_parse.specs.declared.refusal.ParseRefusal.TheVariants as parse
use Rattle.wdf_refusals.specs.declared.refusal.PlanRefusal.TheVariants as plan
use Rattle.wdf_output.specs.declared.refusal.Refusal.{Refusal}
use Rattle.wdf_output.specs.declared.refusal.Refusal.TheVariants.{NoScene, NoPlan}
use Rattle.wdf_output.specs.Endings.{status_of}
use Rattle.wdf_output.specs.Refusals.{refusal_status}

pub ending_no_sink : (e : Ending) → status_of e ≡ 13 → ⊥
ending_no_sink ending.Running h = omega (arith, h)
ending_no_sink _ h = omega (arith, h)

pub refusal_no_sink : (refusal : Refusal) → refusal_status refusal ≡ 13 → ⊥
refusal_no_sink (NoScene (parse.NotAscii line)) h = omega (arith, h)
refusal_no_sink (NoScene (parse.BadToken line col)) h = omega (arith, h)
refusal_no_sink (NoScene (parse.BadLine line)) h = omega (arith, h)
refusal_no_sink (NoScene (parse.Unclosed line)) h = omega (arith, h)
refusal_no_sink (NoScene (parse.NumberTooLarge line col)) h = omega (arith, h)
refusal_no_sink (NoScene parse.Memory) h = omega (arith, h)
refusal_no_sink (NoPlan (plan.UnknownName line)) h = omega (arith, h)
refusal_no_sink (NoPlan (plan.TwiceNamed line other)) h = omega (arith, h)
refusal_no_sink (NoPlan (plan.WrongCallback line)) h = omega (arith, h)
refusal_no_sink (NoPlan (plan.OverLimit line bound)) h = omega (arith, h)
refusal_no_sink (NoPlan (plan.IncompatibleLevel line)) h = omega (arith, h)
refusal_no_sink (NoPlan (plan.NoParent line)) h = omega (arith, h)
refusal_no_sink (NoPlan plan.Memory) h = omega (arith, h)
refusal_no_sink _ h = omega (arith, h)

-- no call before these failed either
pub ends_later : {K : Type 0} (refused : K → K → Type 0) (faults : K → ℕ) (first old new : K) → faults old ≡ faults first
    → EndsRefused refused faults old new → EndsRefused refused faults first new
ends_later refused faults first old new same (last, refuses, counted) = (last, refuses, counted ∙ same)
