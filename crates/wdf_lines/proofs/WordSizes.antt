-- No word of a table is longer than 40 bytes.
use Rattle.std.proofs.Common.{◌≤◌, length, lit≤}
use Rattle.wdf_base.specs.declared.value.Status.{Status}
use Rattle.wdf_base.specs.declared.value.Status.TheVariants as status
use Rattle.wdf_base.specs.declared.call.Callback.{Callback}
use Rattle.wdf_base.specs.declared.call.Callback.TheVariants as callback
use Rattle.wdf_base.specs.declared.call.CallKind.{CallKind}
use Rattle.wdf_base.specs.declared.call.CallKind.TheVariants as call
use Rattle.wdf_base.specs.declared.event.Fault.{Fault}
use Rattle.wdf_base.specs.declared.event.Fault.TheVariants as fault
use Rattle.wdf_base.specs.declared.event.Stage.{Stage}
use Rattle.wdf_base.specs.declared.event.Stage.TheVariants as stage
use Rattle.wdf_base.specs.declared.event.Ask.{Ask}
use Rattle.wdf_base.specs.declared.event.Ask.TheVariants as ask
use Rattle.wdf_base.specs.Words.{status_word, callback_word, call_word, fault_word, stage_word, ask_word}

pub status_word_short : (x : Status) → length (status_word x) ≤ 40
status_word_short status.Success = lit≤ tt
status_word_short _ = lit≤ tt

pub callback_word_short : (x : Callback) → length (callback_word x) ≤ 40
callback_word_short callback.EvtInterruptIsr = lit≤ tt
callback_word_short _ = lit≤ tt

pub call_word_short : (x : CallKind) → length (call_word x) ≤ 40
call_word_short call.WdfObjectCreate = lit≤ tt
call_word_short _ = lit≤ tt

pub fault_word_short : (x : Fault) → length (fault_word x) ≤ 40
fault_word_short fault.StaleHandle = lit≤ tt
fault_word_short _ = lit≤ tt

pub stage_word_short : (x : Stage) → length (stage_word x) ≤ 40
stage_word_short stage.Hardware = lit≤ tt
stage_word_short _ = lit≤ tt

pub ask_word_short : (x : Ask) → length (ask_word x) ≤ 40
ask_word_short ask.Start = lit≤ tt
ask_word_short _ = lit≤ tt
