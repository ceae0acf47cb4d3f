-- The words of the tables have no blank, and those that a line must distinguish from others differ from these.
use Rattle.std.proofs.Common.{◌≡◌, true, false, refl, codes}
use Rattle.std.specs.Char.{is_ascii_digit}
use Rattle.std.specs.List.{list_all}
use Rattle.std.specs.Str.{bytes_eq}
use Rattle.wdf_base.specs.declared.value.Status.{Status}
use Rattle.wdf_base.specs.declared.value.Status.TheVariants as status
use Rattle.wdf_base.specs.declared.call.Callback.{Callback}
use Rattle.wdf_base.specs.declared.call.Callback.TheVariants as callback
use Rattle.wdf_base.specs.declared.call.CallKind.{CallKind}
use Rattle.wdf_base.specs.declared.call.CallKind.TheVariants as call
use Rattle.wdf_base.specs.declared.event.Fault.{Fault}
use Rattle.wdf_base.specs.declared.event.Fault.TheVariants as fault
use Rattle.wdf_base.specs.declared.event.Stage.{Stage}
use Rattle.wdf_base.specs.declared.event.Stage.TheVariants as stage
use Rattle.wdf_base.specs.declared.event.Ask.{Ask}
use Rattle.wdf_base.specs.declared.event.Ask.TheVariants as ask
use Rattle.wdf_base.specs.Resolved.{is_reserved}
use Rattle.wdf_base.specs.Words.{status_word, callback_word, call_word, fault_word, stage_word, ask_word}
use Rattle.wdf_trace.specs.Reading.{has_dot}
use Rattle.wdf_trace.proofs.Blanks.{Lacks}

pub status_word_lacks : (x : Status) → Lacks 32 (status_word x)
status_word_lacks status.Success = record { each = refl }
status_word_lacks _ = record { each = refl }

pub callback_word_lacks : (x : Callback) → Lacks 32 (callback_word x)
callback_word_lacks callback.EvtInterruptIsr = record { each = refl }
callback_word_lacks _ = record { each = refl }

pub call_word_lacks : (x : CallKind) → Lacks 32 (call_word x)
call_word_lacks call.WdfObjectCreate = record { each = refl }
call_word_lacks _ = record { each = refl }

pub fault_word_lacks : (x : Fault) → Lacks 32 (fault_word x)
fault_word_lacks fault.StaleHandle = record { each = refl }
fault_word_lacks _ = record { each = refl }

pub stage_word_lacks : (x : Stage) → Lacks 32 (stage_word x)
stage_word_lacks stage.Hardware = record { each = refl }
stage_word_lacks _ = record { each = refl }

pub ask_word_lacks : (x : Ask) → Lacks 32 (ask_word x)
ask_word_lacks ask.Start = record { each = refl }
ask_word_lacks _ = record { each = refl }

pub status_word_no_dot : (x : Status) → has_dot (status_word x) ≡ false
status_word_no_dot status.Success = refl
status_word_no_dot _ = refl

pub status_word_no_digits : (x : Status) → list_all is_ascii_digit (status_word x) ≡ false
status_word_no_digits status.Success = refl
status_word_no_digits _ = refl

pub status_word_reserved : (x : Status) → is_reserved (status_word x) ≡ true
status_word_reserved status.Success = refl
status_word_reserved _ = refl

pub callback_word_no_dot : (x : Callback) → has_dot (callback_word x) ≡ false
callback_word_no_dot callback.EvtInterruptIsr = refl
callback_word_no_dot _ = refl

pub callback_word_other : (x : Callback) → (bytes_eq (callback_word x) (codes "owned") ≡ false) × (bytes_eq (callback_word x) (codes "sent") ≡ false) × (bytes_eq (callback_word x) (codes "returning") ≡ false)
callback_word_other callback.EvtInterruptIsr = (refl, refl, refl)
callback_word_other _ = (refl, refl, refl)

pub stage_word_other : (x : Stage) → (bytes_eq (stage_word x) (codes "owned") ≡ false) × (bytes_eq (stage_word x) (codes "sent") ≡ false) × (bytes_eq (stage_word x) (codes "returning") ≡ false)
stage_word_other stage.Hardware = (refl, refl, refl)
stage_word_other _ = (refl, refl, refl)
