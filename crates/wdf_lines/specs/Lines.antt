-- The text of each event, as a trace shows it: a list of words.
use Rattle.std.specs.Prelude.{if◌then◌else◌, ℕ, ◌==◌, ◌+◌, ◌-◌, Bool, ◌||◌, List, [], ◌∷◌, ◌++◌, take, codes, decimal, Option, Some, None, option_map, position, slice_get, slice_index_or}
use Rattle.wdf_base.specs.declared.plan.Plan.{Plan}
use Rattle.wdf_base.specs.declared.ids.Handle.{Handle}
use Rattle.wdf_base.specs.declared.ids.Cpu.{Cpu}
use Rattle.wdf_base.specs.declared.value.Value.{Value}
use Rattle.wdf_base.specs.declared.value.Value.TheVariants.{Num, Obj, Stat}
use Rattle.wdf_base.specs.declared.call.Arg.{Arg}
use Rattle.wdf_base.specs.declared.call.Arg.TheVariants.{Val, Class}
use Rattle.wdf_base.specs.declared.call.Call.{Call}
use Rattle.wdf_base.specs.declared.declared.Declared.{Declared}
use Rattle.wdf_base.specs.declared.event.Access.{Access}
use Rattle.wdf_base.specs.declared.event.Access.TheVariants as access
use Rattle.wdf_base.specs.declared.event.Action.{Action}
use Rattle.wdf_base.specs.declared.event.Action.TheVariants as action
use Rattle.wdf_base.specs.declared.event.Post.{Post}
use Rattle.wdf_base.specs.declared.event.Post.TheVariants as post
use Rattle.wdf_base.specs.declared.event.Event.{Event}
use Rattle.wdf_base.specs.declared.event.Event.TheVariants as event
use Rattle.wdf_base.specs.Kinds.{class_name}
use Rattle.wdf_base.specs.Resolved.{agent_name, register_name, device_name, target_name}
use Rattle.wdf_base.specs.Same.{same_option}
use Rattle.wdf_base.specs.Words.{status_word, callback_word, call_word, fault_word, stage_word, ask_word}

-- words, each after a blank
abbrev pub spaced : List (List ℕ) → List ℕ
spaced [] = []
spaced (w ∷ ws) = codes " " ++ (w ++ spaced ws)

-- ---- names

-- the name with this number: `driver`, `req`, then the declared names
abbrev pub name_text : Plan → ℕ → List ℕ
name_text plan n = slice_index_or plan.names n []

-- a name that may be there
abbrev pub named : Plan → Option ℕ → List ℕ
named plan None = []
named plan (Some n) = name_text plan n

-- an object is shown as its name, a dot and its id
abbrev pub object_text : Plan → Handle → List ℕ
object_text plan o = name_text plan o.name ++ (codes "." ++ decimal o.id.0)

-- a class is shown as its name
abbrev pub class_text : Plan → ℕ → List ℕ
class_text plan c = named plan (option_map class_name (slice_get plan.classes c))

-- a register is shown as its name
abbrev pub register_text : Plan → ℕ → List ℕ
register_text plan r = named plan (option_map register_name (slice_get plan.registers r))

-- a device or a target with this name
abbrev pub is_poster : ℕ → Declared → Bool
is_poster n d = same_option ◌==◌ (device_name d) (Some n) || same_option ◌==◌ (target_name d) (Some n)

-- an id, which counts from 1, after a dot
abbrev pub id_text : Option ℕ → List ℕ
id_text None = []
id_text (Some k) = codes "." ++ decimal (k + 1)

-- a device or a target is shown as an object, an app as its name
abbrev pub poster_text : Plan → Option ℕ → List ℕ
poster_text plan None = []
poster_text plan (Some n) = name_text plan n ++ id_text (position (is_poster n) plan.declared)

-- agent 0 is the Plug and Play manager
abbrev pub agent_text : Plan → ℕ → List ℕ
agent_text plan agent =
    if agent == 0 then codes "pnp"
    else poster_text plan (option_map agent_name (slice_get plan.agents (agent - 1)))

-- ---- parts of events

-- a processor
abbrev pub cpu_text : Cpu → List ℕ
cpu_text cpu = codes "cpu" ++ decimal cpu.0

-- a value: a number in decimal, an object, a status by its name
abbrev pub value_text : Plan → Value → List ℕ
value_text plan (Num n) = decimal n
value_text plan (Obj o) = object_text plan o
value_text plan (Stat s) = status_word s

-- an argument of a call: a value or a class
abbrev pub argument_text : Plan → Arg → List ℕ
argument_text plan (Val v) = value_text plan v
argument_text plan (Class c) = class_text plan c

-- the first arguments of a call, as many as it takes
abbrev pub argument_words : Plan → Call → List (List ℕ)
argument_words plan call =
    take call.count (argument_text plan call.a ∷ argument_text plan call.b ∷ argument_text plan call.c ∷ [])

-- a call and its answer
abbrev pub answered_words : Plan → Call → Value → List (List ℕ)
answered_words plan call v = call_word call.kind ∷ (argument_words plan call ++ codes "->" ∷ value_text plan v ∷ [])

-- the read or the write of a register
abbrev pub access_words : Plan → Access → ℕ → ℕ → List (List ℕ)
access_words plan access.Read r n = codes "get" ∷ register_text plan r ∷ codes "->" ∷ decimal n ∷ []
access_words plan access.Write r n = codes "put" ∷ register_text plan r ∷ decimal n ∷ []

-- the request of a callback or the interrupt of a stage, where there is one
abbrev pub optional_words : Plan → Option Handle → List (List ℕ)
optional_words plan None = []
optional_words plan (Some o) = object_text plan o ∷ []

-- the answer to a post
abbrev pub answer_text : Plan → Option Handle → List ℕ
answer_text plan None = codes "none"
answer_text plan (Some request) = object_text plan request

-- what a device does
abbrev pub action_words : Plan → Action → List (List ℕ)
action_words plan (action.Set r n) = codes "set" ∷ register_text plan r ∷ decimal n ∷ []
action_words plan (action.Raise i) = codes "raise" ∷ object_text plan i ∷ []
action_words plan (action.Lower i) = codes "lower" ∷ object_text plan i ∷ []

-- a post and its answer, a row for each form
abbrev pub post_words : Plan → Post → Option Handle → List (List ℕ)
post_words plan (post.Read d n) a = codes "read" ∷ object_text plan d ∷ decimal n ∷ codes "->" ∷ answer_text plan a ∷ []
post_words plan (post.Write d n) a = codes "write" ∷ object_text plan d ∷ decimal n ∷ codes "->" ∷ answer_text plan a ∷ []
post_words plan (post.Control d c n) a = codes "control" ∷ object_text plan d ∷ decimal c ∷ decimal n ∷ codes "->" ∷ answer_text plan a ∷ []
post_words plan (post.Cancel k) a = codes "cancel" ∷ decimal k ∷ codes "->" ∷ answer_text plan a ∷ []
post_words plan (post.Ask ask d) a = ask_word ask ∷ object_text plan d ∷ []
post_words plan (post.Act act) a = action_words plan act
post_words plan (post.Done r s) a = codes "done" ∷ object_text plan r ∷ status_word s ∷ []

-- ---- events

-- The words of an event, a row for each kind.
abbrev pub event_words : Plan → Event → List (List ℕ)
event_words plan (event.Start cpu callback o r) = cpu_text cpu ∷ codes "start" ∷ callback_word callback ∷ object_text plan o ∷ optional_words plan r
event_words plan (event.Local cpu line) = cpu_text cpu ∷ codes "step" ∷ decimal line ∷ []
event_words plan (event.Log cpu v) = cpu_text cpu ∷ codes "log" ∷ value_text plan v ∷ []
event_words plan (event.Spend cpu n) = cpu_text cpu ∷ codes "spend" ∷ decimal n ∷ []
event_words plan (event.Register cpu a r n) = cpu_text cpu ∷ access_words plan a r n
event_words plan (event.Did cpu call v) = cpu_text cpu ∷ codes "call" ∷ answered_words plan call v
event_words plan (event.Waiting cpu call) = cpu_text cpu ∷ codes "wait" ∷ call_word call.kind ∷ argument_words plan call
event_words plan (event.Woke cpu call v) = cpu_text cpu ∷ codes "woke" ∷ answered_words plan call v
event_words plan (event.Park cpu f) = cpu_text cpu ∷ codes "park" ∷ decimal f.0 ∷ []
event_words plan (event.Unpark cpu f) = cpu_text cpu ∷ codes "unpark" ∷ decimal f.0 ∷ []
event_words plan (event.End cpu callback o v) = cpu_text cpu ∷ codes "end" ∷ callback_word callback ∷ object_text plan o ∷ value_text plan v ∷ []
event_words plan (event.Fault cpu fault line) = cpu_text cpu ∷ codes "fault" ∷ fault_word fault ∷ decimal line ∷ []
event_words plan (event.Stage d stage i) = codes "fw" ∷ codes "stage" ∷ object_text plan d ∷ stage_word stage ∷ optional_words plan i
event_words plan (event.Complete r s) = codes "fw" ∷ codes "complete" ∷ object_text plan r ∷ status_word s ∷ []
event_words plan (event.Cleanup o) = codes "fw" ∷ codes "cleanup" ∷ object_text plan o ∷ []
event_words plan (event.Destroy o) = codes "fw" ∷ codes "destroy" ∷ object_text plan o ∷ []
event_words plan (event.Posted agent post a) = agent_text plan agent ∷ post_words plan post a
event_words plan (event.Tick n) = codes "clock" ∷ codes "tick" ∷ decimal n ∷ []

-- the line of an event: its number, and its words
abbrev pub line_text : Plan → ℕ → Event → List ℕ
line_text plan number e = decimal number ++ spaced (event_words plan e)

-- the lines of events whose numbers begin here, each with its line feed
abbrev pub lines_from : Plan → ℕ → List Event → List ℕ
lines_from plan number [] = []
lines_from plan number (e ∷ es) = (line_text plan number e ++ codes "\n") ++ lines_from plan (number + 1) es
