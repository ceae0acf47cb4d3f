-- The status that is read off a kind.
use Rattle.std.proofs.Common.{ℕ, ◌≡◌, Bool, true, false, List, Option, Some, None, refl}
use Rattle.wdf_base.specs.declared.plan.Plan.{Plan}
use Rattle.wdf_base.specs.declared.event.Event.{Event}
use Rattle.wdf_base.specs.declared.event.Ending.{Ending}
use Rattle.wdf_base.specs.declared.event.Ending.TheVariants as ending
use Rattle.wdf_base.specs.declared.wait.WaitLine.{WaitLine}
use Rattle.wdf_base.specs.Meaning.{Meaning}
use Rattle.wdf_model.specs.rules.Ready.{ending_of}
use Rattle.wdf_model.specs.rules.Waits.{wait_list}
use Rattle.wdf_output.specs.Endings.{status_of}
use Rattle.wdf_expect.specs.declared.rules.Expectation.{Expectation}
use Rattle.wdf_expect.specs.Verdicts.{first_broken, is_expected, is_whole, verdict_text}
use Rattle.wdf_kinds.specs.Kinds.{fault_line, kind_text}
use Rattle.wdf_table.specs.Lines.{kind_status}
use Rattle.wdf_tries.specs.Tries.{kind_of}
use Rattle.law_hunt.specs.Statuses.{run_status, status_by}

of_ending : (plan : Plan) (end : Ending) (line : ℕ) (waits : List WaitLine) → kind_status (kind_text plan end line waits) ≡ status_of end
of_ending plan ending.Running line waits = refl
of_ending plan ending.Finished line waits = refl
of_ending plan ending.Limit line waits = refl
of_ending plan (ending.Fault f) line waits = refl
of_ending plan ending.Stuck line waits = refl

by_verdict : (expected : Bool) (broken : Option Expectation) (plan : Plan) (end : Ending) (line : ℕ) (waits : List WaitLine)
    → kind_status (verdict_text expected broken (kind_text plan end line waits)) ≡ status_by expected broken end
by_verdict expected (Some e) plan end line waits = refl
by_verdict true None plan end line waits = refl
by_verdict false None plan end line waits = of_ending plan end line waits

pub kind_is : {A : Type 0} (es : List Expectation) (plan : Plan) (m : Meaning A) (run : List Event) → kind_status (kind_of es plan m run) ≡ run_status es plan m run
kind_is es plan m run =
    let end = ending_of plan m run in
    let expected = is_expected es end (fault_line run) in
    by_verdict expected (first_broken plan run expected (is_whole end expected) es) plan end (fault_line run) (wait_list plan m run)
