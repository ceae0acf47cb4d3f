-- The words of a line, and what each names: a word is taken for what is at its place.
use Rattle.std.specs.Prelude.{if◌then◌else◌, ℕ, ◌==◌, ◌+◌, ◌^◌, nat_lt, Bool, List, [], drop, codes, Option, position, unwrap_or, slice_get}
use Rattle.std.specs.List.{slice_split, list_any}
use Rattle.std.specs.Str.{bytes_eq}
use Rattle.wdf_base.specs.declared.plan.Plan.{Plan}
use Rattle.wdf_base.specs.declared.declared.ClassInfo.{ClassInfo}
use Rattle.wdf_base.specs.declared.declared.RegisterInfo.{RegisterInfo}
use Rattle.wdf_base.specs.declared.script.AgentInfo.{AgentInfo}
use Rattle.wdf_base.specs.declared.ids.Handle.{Handle}
use Rattle.wdf_base.specs.declared.ids.Cpu.{Cpu}
use Rattle.wdf_base.specs.Kinds.{class_name}
use Rattle.wdf_text.specs.Decimals.{small_number}
use Rattle.wdf_lines.specs.Lines.{name_text}

-- ---- words

-- the parts of a text between bytes of this kind
abbrev pub parts : ℕ → List ℕ → List (List ℕ)
parts separator text = slice_split (λ b. b == separator) text

-- the part at this place, or nothing
abbrev pub word : ℕ → List (List ℕ) → List ℕ
word place ws = unwrap_or (slice_get ws place) []

abbrev pub part : ℕ → ℕ → List ℕ → List ℕ
part separator place text = word place (parts separator text)

-- the words of a line
abbrev pub words : List ℕ → List (List ℕ)
words text = parts 32 text

-- ---- numbers

-- a number below this bound, or 0
abbrev pub below : ℕ → ℕ → ℕ
below bound n = if nat_lt n bound then n else 0

-- the number that a word writes, or 0 where it doesn't fit 64 bits
abbrev pub number_of : List ℕ → ℕ
number_of digits = unwrap_or (small_number digits) 0

-- the number that a word writes, if it fits 32 bits
abbrev pub short_of : List ℕ → ℕ
short_of digits = below (2 ^ 32) (number_of digits)

-- the processor that a word names
abbrev pub cpu_of : List ℕ → Cpu
cpu_of w = record { 0 = below (2 ^ 8) (number_of (drop 3 w)) }

-- ---- names

-- a name with these bytes
abbrev pub is_name_with : List ℕ → List ℕ → Bool
is_name_with w n = bytes_eq n w

-- the number of a name
abbrev pub name_of : Plan → List ℕ → ℕ
name_of plan w = unwrap_or (position (is_name_with w) plan.names) 0

-- a word with a dot is an object's
abbrev pub has_dot : List ℕ → Bool
has_dot w = list_any (λ b. b == 46) w

-- the object that a word names
abbrev pub object_of : Plan → List ℕ → Handle
object_of plan w = record { id = record { 0 = short_of (part 46 1 w) }; name = name_of plan (part 46 0 w) }

-- a class with this name
abbrev pub is_class_with : Plan → List ℕ → ClassInfo → Bool
is_class_with plan w c = bytes_eq (name_text plan (class_name c)) w

-- the class that a word names
abbrev pub class_of : Plan → List ℕ → Option ℕ
class_of plan w = position (is_class_with plan w) plan.classes

-- a register with this name
abbrev pub is_register_with : Plan → List ℕ → RegisterInfo → Bool
is_register_with plan w r = bytes_eq (name_text plan r.name) w

-- the register that a word names
abbrev pub register_of : Plan → List ℕ → ℕ
register_of plan w = unwrap_or (position (is_register_with plan w) plan.registers) 0

-- an agent with this name
abbrev pub is_agent_with : Plan → List ℕ → AgentInfo → Bool
is_agent_with plan w a = bytes_eq (name_text plan a.name) w

-- the place among the agents from 1 of the one whose name a word begins with
abbrev pub poster_of : Plan → List ℕ → ℕ
poster_of plan w = unwrap_or (position (is_agent_with plan (part 46 0 w)) plan.agents) 0

-- the agent that a word names
abbrev pub agent_of : Plan → List ℕ → ℕ
agent_of plan w = if bytes_eq w (codes "pnp") then 0 else poster_of plan w + 1
