-- No word of the tables has a line feed.
use Rattle.std.proofs.Common.{refl}
use Rattle.wdf_base.specs.declared.value.Status.{Status}
use Rattle.wdf_base.specs.declared.value.Status.TheVariants as status
use Rattle.wdf_base.specs.declared.call.Callback.{Callback}
use Rattle.wdf_base.specs.declared.call.Callback.TheVariants as callback
use Rattle.wdf_base.specs.declared.call.CallKind.{CallKind}
use Rattle.wdf_base.specs.declared.call.CallKind.TheVariants as call
use Rattle.wdf_base.specs.declared.event.Fault.{Fault}
use Rattle.wdf_base.specs.declared.event.Fault.TheVariants as fault
use Rattle.wdf_base.specs.declared.event.Stage.{Stage}
use Rattle.wdf_base.specs.declared.event.Stage.TheVariants as stage
use Rattle.wdf_base.specs.declared.event.Ask.{Ask}
use Rattle.wdf_base.specs.declared.event.Ask.TheVariants as ask
use Rattle.wdf_base.specs.Words.{status_word, callback_word, call_word, fault_word, stage_word, ask_word}
use Rattle.wdf_trace.proofs.Blanks.{Lacks}

pub status_word_unfed : (x : Status) → Lacks 10 (status_word x)
status_word_unfed status.Success = record { each = refl }
status_word_unfed _ = record { each = refl }

pub callback_word_unfed : (x : Callback) → Lacks 10 (callback_word x)
callback_word_unfed callback.EvtInterruptIsr = record { each = refl }
callback_word_unfed _ = record { each = refl }

pub call_word_unfed : (x : CallKind) → Lacks 10 (call_word x)
call_word_unfed call.WdfObjectCreate = record { each = refl }
call_word_unfed _ = record { each = refl }

pub fault_word_unfed : (x : Fault) → Lacks 10 (fault_word x)
fault_word_unfed fault.StaleHandle = record { each = refl }
fault_word_unfed _ = record { each = refl }

pub stage_word_unfed : (x : Stage) → Lacks 10 (stage_word x)
stage_word_unfed stage.Hardware = record { each = refl }
stage_word_unfed _ = record { each = refl }

pub ask_word_unfed : (x : Ask) → Lacks 10 (ask_word x)
ask_word_unfed ask.Start = record { each = refl }
ask_word_unfed _ = record { each = refl }
