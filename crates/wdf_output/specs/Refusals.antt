-- Why an input has no plan: the line and the status of each reason. (own)
use Rattle.std.specs.Prelude.{ℕ, ◌++◌, List, codes, decimal}
use Rattle.wdf_parse.specs.declared.refusal.ParseRefusal.{ParseRefusal}
use Rattle.wdf_parse.specs.declared.refusal.ParseRefusal.TheVariants as parse
use Rattle.wdf_refusals.specs.declared.refusal.PlanRefusal.{PlanRefusal}
use Rattle.wdf_refusals.specs.declared.refusal.PlanRefusal.TheVariants as plan
use Rattle.wdf_refusals.specs.Limits.{limit_word}
use Rattle.wdf_input.specs.declared.input.InputError.{InputError}
use Rattle.wdf_input.specs.declared.input.InputError.TheVariants as input
use Rattle.wdf_output.specs.declared.refusal.Refusal.{Refusal}
use Rattle.wdf_output.specs.declared.refusal.Refusal.TheVariants.{ReadFault, TooLarge, NoMemory, NoScene, NoPlan}

abbrev pub read_fault_line : List ℕ
read_fault_line = codes "read fault\n"

abbrev pub too_large_line : List ℕ
too_large_line = codes "input too large\n"

abbrev pub no_memory_line : List ℕ
no_memory_line = codes "out of memory\n"

-- why a text is no scene, a row for each refusal: the line, and the column of a token
abbrev pub parse_line : ParseRefusal → List ℕ
parse_line (parse.NotAscii line) = codes "parse refused at line " ++ decimal line ++ codes ": NotAscii\n"
parse_line (parse.BadToken line column) = codes "parse refused at line " ++ decimal line ++ codes " column " ++ decimal column ++ codes ": BadToken\n"
parse_line (parse.BadLine line) = codes "parse refused at line " ++ decimal line ++ codes ": BadLine\n"
parse_line (parse.Unclosed line) = codes "parse refused at line " ++ decimal line ++ codes ": Unclosed\n"
parse_line (parse.NumberTooLarge line column) = codes "parse refused at line " ++ decimal line ++ codes " column " ++ decimal column ++ codes ": NumberTooLarge\n"
parse_line parse.Memory = no_memory_line

abbrev pub parse_status : ParseRefusal → ℕ
parse_status parse.Memory = 15
parse_status _ = 10

-- why a scene has no plan, a row for each refusal: the line, and the line of the first declaration or the limit
abbrev pub plan_line : PlanRefusal → List ℕ
plan_line (plan.UnknownName line) = codes "plan refused at line " ++ decimal line ++ codes ": UnknownName\n"
plan_line (plan.TwiceNamed line first) = codes "plan refused at line " ++ decimal line ++ codes ": TwiceNamed first " ++ decimal first ++ codes "\n"
plan_line (plan.WrongCallback line) = codes "plan refused at line " ++ decimal line ++ codes ": WrongCallback\n"
plan_line (plan.OverLimit line limit) = codes "plan refused at line " ++ decimal line ++ codes ": OverLimit " ++ limit_word limit ++ codes "\n"
plan_line (plan.IncompatibleLevel line) = codes "plan refused at line " ++ decimal line ++ codes ": IncompatibleLevel\n"
plan_line (plan.NoParent line) = codes "plan refused at line " ++ decimal line ++ codes ": NoParent\n"
plan_line plan.Memory = no_memory_line

abbrev pub plan_status : PlanRefusal → ℕ
plan_status plan.Memory = 15
plan_status _ = 11

-- why an input has no plan
abbrev pub refusal_line : Refusal → List ℕ
refusal_line ReadFault = read_fault_line
refusal_line TooLarge = too_large_line
refusal_line NoMemory = no_memory_line
refusal_line (NoScene refusal) = parse_line refusal
refusal_line (NoPlan refusal) = plan_line refusal

abbrev pub refusal_status : Refusal → ℕ
refusal_status ReadFault = 12
refusal_status TooLarge = 14
refusal_status NoMemory = 15
refusal_status (NoScene refusal) = parse_status refusal
refusal_status (NoPlan refusal) = plan_status refusal

-- the refusal of an input that wasn't read to its end
abbrev pub refusal_of : InputError → Refusal
refusal_of input.Fault = ReadFault
refusal_of input.TooLarge = TooLarge
refusal_of input.Memory = NoMemory
