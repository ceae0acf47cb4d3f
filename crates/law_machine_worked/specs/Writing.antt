-- Short words for worked runs, which are long: a handle, a processor, a frame's number, a call, a line of an
-- agent, a statement, a line of a wait list; and for plans, what is declared, agents, scripts, and a plan that has none of these.
use Rattle.std.specs.Prelude.{ℕ, Bool, List, [], Option}
use Rattle.wdf_base.specs.declared.ids.Handle.{Handle}
use Rattle.wdf_base.specs.declared.ids.Cpu.{Cpu}
use Rattle.wdf_base.specs.declared.ids.FrameId.{FrameId}
use Rattle.wdf_base.specs.declared.call.Arg.{Arg}
use Rattle.wdf_base.specs.declared.call.Call.{Call}
use Rattle.wdf_base.specs.declared.call.CallKind.{CallKind}
use Rattle.wdf_base.specs.declared.call.Callback.{Callback}
use Rattle.wdf_base.specs.declared.declared.Declared.{Declared}
use Rattle.wdf_base.specs.declared.declared.Declared.TheVariants as declared
use Rattle.wdf_base.specs.declared.declared.DispatchKind.{DispatchKind}
use Rattle.wdf_base.specs.declared.declared.ExecutionLevel.{ExecutionLevel}
use Rattle.wdf_base.specs.declared.declared.PostLine.{PostLine}
use Rattle.wdf_base.specs.declared.declared.Scope.{Scope}
use Rattle.wdf_base.specs.declared.declared.Serves.{Serves}
use Rattle.wdf_base.specs.declared.event.Post.{Post}
use Rattle.wdf_base.specs.declared.plan.Plan.{Plan}
use Rattle.wdf_base.specs.declared.script.Act.{Act}
use Rattle.wdf_base.specs.declared.script.AgentInfo.{AgentInfo}
use Rattle.wdf_base.specs.declared.script.Script.{Script}
use Rattle.wdf_base.specs.declared.script.Statement.{Statement}
use Rattle.wdf_base.specs.declared.value.Status.{Status}
use Rattle.wdf_base.specs.declared.wait.OpenThing.{OpenThing}
use Rattle.wdf_base.specs.declared.wait.Cause.{Cause}
use Rattle.wdf_base.specs.declared.wait.WaitLine.{WaitLine}

abbrev pub h : ℕ → ℕ → Handle
h id name = record { id = record { 0 = id }; name = name }

abbrev pub p : ℕ → Cpu
p cpu = record { 0 = cpu }

abbrev pub f : ℕ → FrameId
f number = record { 0 = number }

abbrev pub c : CallKind → ℕ → Arg → Arg → Arg → Call
c kind count x y z = record { kind = kind; count = count; a = x; b = y; c = z }

abbrev pub at : ℕ → ℕ → Post → PostLine
at number tick post = record { tick = tick; post = post; line = number }

abbrev pub s : ℕ → ℕ → Act → Statement
s line next act = record { line = line; next = next; act = act }

abbrev pub line : OpenThing → Option Cause → WaitLine
line thing cause = record { thing = thing; cause = cause }

abbrev pub a_device : ℕ → Bool → Scope → ExecutionLevel → Declared
a_device name working scope level = declared.Device (record { name = name; working = working; scope = scope; level = level })

abbrev pub serves : Bool → Bool → Bool → Bool → Serves
serves rest read write control = record { rest = rest; read = read; write = write; control = control }

abbrev pub a_queue : ℕ → ℕ → DispatchKind → Serves → Bool → Bool → Scope → ExecutionLevel → Declared
a_queue name device dispatch served powered zero scope level = declared.Queue (record {
  name = name;
  device = record { 0 = device };
  dispatch = dispatch;
  serves = served;
  powered = powered;
  zero = zero;
  scope = scope;
  level = level;
})

abbrev pub an_interrupt : ℕ → ℕ → ℕ → Declared
an_interrupt name device level = declared.Interrupt (record { name = name; device = record { 0 = device }; level = record { 0 = level } })

abbrev pub a_target : ℕ → ℕ → ℕ → Status → ℕ → Declared
a_target name device delay status depth = declared.Target (record { name = name; device = record { 0 = device }; delay = delay; status = status; depth = depth })

abbrev pub an_agent : ℕ → List PostLine → AgentInfo
an_agent name posts = record { name = name; posts = posts }

abbrev pub a_script : Callback → Declared → ℕ → List Statement → Script
a_script callback owner line statements = record { callback = callback; owner = owner; line = line; statements = statements }

-- processors, events and objects; the rest is none
abbrev pub a_plan : ℕ → ℕ → ℕ → Plan
a_plan cpus limit objects = record {
  cpus = cpus;
  limit = limit;
  objects = objects;
  names = [];
  declared = [];
  classes = [];
  registers = [];
  whens = [];
  pnp = [];
  agents = [];
  exprs = [];
  scripts = [];
  picks = [];
}
