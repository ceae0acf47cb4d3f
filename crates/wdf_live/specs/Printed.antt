-- What the printer has written when it ends. (own)
use Rattle.std.specs.Prelude.{◌≡◌, ℕ, ◌≤◌, Bool, true, false, IsTrue, List, length, take}
use Rattle.wdf_base.specs.declared.plan.Plan.{Plan}
use Rattle.wdf_base.specs.declared.event.Event.{Event}
use Rattle.wdf_io.specs.Outside.{Gains, EndsRefused}
use Rattle.wdf_lines.specs.Lines.{lines_from}
use Rattle.wdf_live.specs.declared.printer.Printed.{Printed}
use Rattle.wdf_output.specs.Said.{Sinking, IsCutShort}

-- this text and no more was written and no write failed; or a write failed, and a front of it was written, less than the whole
abbrev pub IsTold : Bool → Sinking → List ℕ → Type 0
IsTold false s text = Gains s.before s.after text × (s.faults_after ≡ s.faults_before)
IsTold true s text = IsCutShort s text

-- Of the one run, what the printer has written is the lines of the first `lines` events, or a front of them where a write failed.
abbrev pub HasPrinted : Plan → List Event → Sinking → Printed → Type 0
HasPrinted plan run s printed =
    (printed.lines ≤ length run) × IsTold printed.failed s (lines_from plan 1 (take printed.lines run))

-- where a write failed, the sink wasn't called again after it
pub record LeavesAlone {K : Type 0} (refused : K → K → Type 0) (faults : K → ℕ) (old new : K) (failed : Bool) : Type 0 where
  pub ends : IsTrue failed → EndsRefused refused faults old new
