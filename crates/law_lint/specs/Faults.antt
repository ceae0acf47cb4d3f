-- The faults that the static check's rules are named for. (own)
use Rattle.std.specs.Prelude.{Bool, true, false}
use Rattle.wdf_base.specs.declared.event.Fault.{Fault}
use Rattle.wdf_base.specs.declared.event.Fault.TheVariants as fault

-- a fault of a request's mark: 5, 6 and 7
abbrev pub is_of_marks : Fault → Bool
is_of_marks fault.CompleteWhileMarked = true
is_of_marks fault.CompleteBeforeCancelCallback = true
is_of_marks fault.MarkedTwice = true
is_of_marks _ = false

-- one of the eight: 4 to 8 and 11 to 13
abbrev pub is_of_scripts : Fault → Bool
is_of_scripts fault.NotOwned = true
is_of_scripts fault.CompleteWhileMarked = true
is_of_scripts fault.CompleteBeforeCancelCallback = true
is_of_scripts fault.MarkedTwice = true
is_of_scripts fault.AckOutsideStop = true
is_of_scripts fault.LockHeldAlready = true
is_of_scripts fault.LockNotHeld = true
is_of_scripts fault.ReturnHoldingLock = true
is_of_scripts _ = false
