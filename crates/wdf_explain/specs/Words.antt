-- Calls and what a frame is about to do, as words. (own)
use Rattle.std.specs.Prelude.{ℕ, List, ◌++◌, codes, decimal}
use Rattle.wdf_base.specs.declared.plan.Plan.{Plan}
use Rattle.wdf_base.specs.declared.call.Call.{Call}
use Rattle.wdf_base.specs.declared.frame.Intent.{Intent}
use Rattle.wdf_base.specs.declared.frame.Intent.TheVariants as intent
use Rattle.wdf_base.specs.Words.{call_word}
use Rattle.wdf_lines.specs.Lines.{spaced, argument_words, register_text, value_text}

-- a call with its arguments
abbrev pub call_text : Plan → Call → List ℕ
call_text plan c = call_word c.kind ++ spaced (argument_words plan c)

-- What a frame is about to do, a row for each intent. Only the first five come to a fault.
abbrev pub intent_text : Plan → Intent → List ℕ
intent_text plan (intent.Do c) = codes "call " ++ call_text plan c
intent_text plan (intent.Return v) = codes "return " ++ value_text plan v
intent_text plan (intent.Get r) = codes "get " ++ register_text plan r
intent_text plan (intent.Put r n) = codes "put " ++ register_text plan r ++ codes " " ++ decimal n
intent_text plan intent.Broken = codes "do a statement that has no meaning"
intent_text plan (intent.Local change next) = codes "go on"
intent_text plan (intent.Log v) = codes "log " ++ value_text plan v
intent_text plan (intent.Spend n) = codes "spend " ++ decimal n
