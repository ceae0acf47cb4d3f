-- What the crates above may rely on of a plan that was resolved from a scene: tests that compute.
use Rattle.std.specs.Prelude.{◌≡◌, ℕ, suc, ◌+◌, ◌-◌, Bool, true, false, not, ◌&&◌, ◌||◌, ◌==◌, nat_le, nat_lt, List, [], ◌∷◌, ◌++◌, length, map, drop, take, sum_by, count_by, Option, Some, None, is_some, option_map, option_and_then, slice_get, IsTrue, codes}
use Rattle.std.specs.Char.{is_ascii_digit, is_ascii_alphabetic, is_ascii_alphanumeric}
use Rattle.std.specs.List.{list_all, list_any, filter_map}
use Rattle.std.specs.Str.{bytes_eq}
use Rattle.wdf_base.specs.declared.ids.Handle.{Handle}
use Rattle.wdf_base.specs.declared.object.Kind.{Kind}
use Rattle.wdf_base.specs.declared.object.Kind.TheVariants as kind
use Rattle.wdf_base.specs.declared.event.Action.{Action}
use Rattle.wdf_base.specs.declared.event.Action.TheVariants as action
use Rattle.wdf_base.specs.declared.event.Post.TheVariants as post
use Rattle.wdf_base.specs.declared.call.Callback.{Callback}
use Rattle.wdf_base.specs.declared.call.Callback.TheVariants as callback
use Rattle.wdf_base.specs.declared.rank.Owner.{Owner}
use Rattle.wdf_base.specs.declared.rank.Owner.TheVariants as owner
use Rattle.wdf_base.specs.declared.signature.Sort.{Sort}
use Rattle.wdf_base.specs.declared.signature.Sort.TheVariants as sort
use Rattle.wdf_base.specs.declared.declared.DispatchKind.{DispatchKind}
use Rattle.wdf_base.specs.declared.declared.DispatchKind.TheVariants as dispatch
use Rattle.wdf_base.specs.declared.declared.ExecutionLevel.{ExecutionLevel}
use Rattle.wdf_base.specs.declared.declared.ExecutionLevel.TheVariants as level
use Rattle.wdf_base.specs.declared.declared.Declared.{Declared}
use Rattle.wdf_base.specs.declared.declared.Declared.TheVariants as declared
use Rattle.wdf_base.specs.declared.declared.DeferredKind.{DeferredKind}
use Rattle.wdf_base.specs.declared.declared.DeferredKind.TheVariants as deferred
use Rattle.wdf_base.specs.declared.declared.ClassInfo.{ClassInfo}
use Rattle.wdf_base.specs.declared.declared.ClassInfo.TheVariants as class
use Rattle.wdf_base.specs.declared.declared.RegisterInfo.{RegisterInfo}
use Rattle.wdf_base.specs.declared.declared.WhenLine.{WhenLine}
use Rattle.wdf_base.specs.declared.declared.PostLine.{PostLine}
use Rattle.wdf_base.specs.declared.script.ExprNode.{ExprNode}
use Rattle.wdf_base.specs.declared.script.ExprNode.TheVariants as node
use Rattle.wdf_base.specs.declared.script.ArgNode.{ArgNode}
use Rattle.wdf_base.specs.declared.script.ArgNode.TheVariants as arg
use Rattle.wdf_base.specs.declared.script.Act.{Act}
use Rattle.wdf_base.specs.declared.script.Act.TheVariants as act
use Rattle.wdf_base.specs.declared.script.Statement.{Statement}
use Rattle.wdf_base.specs.declared.script.Script.{Script}
use Rattle.wdf_base.specs.declared.script.AgentInfo.{AgentInfo}
use Rattle.wdf_base.specs.declared.plan.Plan.{Plan}
use Rattle.wdf_base.specs.declared.words.TheConstants.{STATUSES}
use Rattle.wdf_base.specs.Calls.{signature_of}
use Rattle.wdf_base.specs.Callbacks.{row_of}
use Rattle.wdf_base.specs.Kinds.{declared_kind, declared_name, class_kind, class_name}
use Rattle.wdf_base.specs.Plan.{declared_of, script_of}
use Rattle.wdf_base.specs.Same.{same_option, same_kind, same_callback}
use Rattle.wdf_base.specs.SamePlan.{same_declared, same_execution_level}
use Rattle.wdf_base.specs.Words.{status_word}

-- ---- numbers

-- n is from low to high
abbrev pub is_from : ℕ → ℕ → ℕ → Bool
is_from low high n = nat_le low n && nat_le n high

-- a count of ticks
abbrev pub is_ticks : ℕ → Bool
is_ticks n = nat_le n 1000000

-- no two elements are one
abbrev pub all_differ : {T : Type 0} → (T → T → Bool) → List T → Bool
all_differ same [] = true
all_differ same (x ∷ xs) = not (list_any (same x) xs) && all_differ same xs

-- ---- names

-- a letter, then letters, digits and underscores: so no blank and no dot
abbrev pub is_name : List ℕ → Bool
is_name [] = false
is_name (b ∷ bs) =
    is_ascii_alphabetic b && list_all (λ x. is_ascii_alphanumeric x || (x == 95)) bs

-- `cpu` with digits
abbrev pub is_cpu_word : List ℕ → Bool
is_cpu_word word =
    bytes_eq (take 3 word) (codes "cpu") && nat_lt 3 (length word) && list_all is_ascii_digit (drop 3 word)

-- the words that no name may be, beside `cpu` with digits
abbrev pub reserved_words : List (List ℕ)
reserved_words =
    map status_word STATUSES ++ codes "self" ∷ codes "device" ∷ codes "request" ∷ codes "length" ∷ codes "code" ∷ codes "status"
    ∷ codes "req" ∷ codes "fw" ∷ codes "clock" ∷ codes "pnp" ∷ codes "driver" ∷ []

-- a word that no name may be
abbrev pub is_reserved : List ℕ → Bool
is_reserved word = list_any (bytes_eq word) reserved_words || is_cpu_word word

-- the number of a declared device's name, none for another object
abbrev pub device_name : Declared → Option ℕ
device_name (declared.Device d) = Some d.name
device_name _ = None

-- the number of a declared target's name, none for another object
abbrev pub target_name : Declared → Option ℕ
target_name (declared.Target t) = Some t.name
target_name _ = None

-- the devices by id, then the targets by id
abbrev pub posting_names : Plan → List ℕ
posting_names plan = filter_map device_name plan.declared ++ filter_map target_name plan.declared

-- how many agents from 1 on are apps
abbrev pub app_count : Plan → ℕ
app_count plan = length plan.agents - length (posting_names plan)

-- the apps, which are the agents before the devices and the targets
abbrev pub apps : Plan → List AgentInfo
apps plan = take (app_count plan) plan.agents

-- the number of an agent's name
abbrev pub agent_name : AgentInfo → ℕ
agent_name a = a.name

-- the number of a register's name
abbrev pub register_name : RegisterInfo → ℕ
register_name r = r.name

-- the numbers of the names of everything that is declared
abbrev pub used_names : Plan → List ℕ
used_names plan =
    filter_map declared_name (drop 1 plan.declared) ++ map class_name plan.classes ++ map register_name plan.registers ++ map agent_name (apps plan)

-- ---- objects

-- o is an object of this kind in the plan
abbrev pub is_kind : Plan → Kind → ℕ → Bool
is_kind plan k o =
    same_option same_kind (option_and_then declared_kind (declared_of plan o)) (Some k)

-- a declared object of this kind with its name
abbrev pub is_handle : Plan → Kind → Handle → Bool
is_handle plan k h =
    is_kind plan k h.id.0 && same_option ◌==◌ (option_and_then declared_name (declared_of plan h.id.0)) (Some h.name)

-- the objects from this id on: a device, and after it what belongs to it; `device` is the last one before them, 0 for none
abbrev pub in_order : ℕ → ℕ → List Declared → Bool
in_order id device [] = true
in_order id device (declared.Driver ∷ ds) = false
in_order id device (declared.Device d ∷ ds) = in_order (suc id) id ds
in_order id device (declared.Queue q ∷ ds) =
    nat_lt 0 device && (q.device.0 == device) && in_order (suc id) device ds
in_order id device (declared.Interrupt i ∷ ds) =
    nat_lt 0 device && (i.device.0 == device) && in_order (suc id) device ds
in_order id device (declared.Target t ∷ ds) =
    nat_lt 0 device && (t.device.0 == device) && in_order (suc id) device ds
in_order id device (declared.OfClass c ∷ ds) = false

-- the driver object is 1, and the declared objects follow
abbrev pub objects_in_order : List Declared → Bool
objects_in_order (declared.Driver ∷ ds) = in_order 2 0 ds
objects_in_order _ = false

-- a device that works at the opening
abbrev pub is_working : Option Declared → Bool
is_working (Some (declared.Device d)) = d.working
is_working _ = false

-- a parallel queue presents from 1 to 1,024 requests at a time (own)
abbrev pub dispatch_fits : DispatchKind → Bool
dispatch_fits (dispatch.Parallel n) = is_from 1 1024 n
dispatch_fits _ = true

-- the numbers of an object are in their ranges; an interrupt's level is 0 where it is passive, and it has no working device
abbrev pub declared_fits : Plan → Declared → Bool
declared_fits plan (declared.Queue q) = dispatch_fits q.dispatch
declared_fits plan (declared.Interrupt i) =
    ((i.level.0 == 0) || is_from 3 12 i.level.0) && not (is_working (declared_of plan i.device.0))
declared_fits plan (declared.Target t) = is_ticks t.delay && is_from 1 256 t.depth
declared_fits plan _ = true

-- ---- classes, registers, what devices do

-- the effective execution level of a device or a queue
abbrev pub level_of : Option Declared → Option ExecutionLevel
level_of (Some (declared.Device d)) = Some d.level
level_of (Some (declared.Queue q)) = Some q.level
level_of _ = None

-- the level that the parent of a serialized object has
abbrev pub serial_level : DeferredKind → ExecutionLevel
serial_level deferred.Dpc = level.Dispatch
serial_level deferred.Timer = level.Dispatch
serial_level deferred.WorkItem = level.Passive

-- only a timer has a period
abbrev pub period_fits : DeferredKind → ℕ → Bool
period_fits deferred.Timer n = is_ticks n
period_fits _ n = n == 0

-- the parent of a class is a device or a queue, only a timer has a period, and where its objects are serialized, the parent
-- has the level that they need
abbrev pub class_fits : Plan → ClassInfo → Bool
class_fits plan (class.Plain name k) = true
class_fits plan (class.Deferred name k parent serialize period) =
    (is_kind plan kind.Device parent.0 || is_kind plan kind.Queue parent.0) && period_fits k period
    && (not serialize || same_option same_execution_level (level_of (declared_of plan parent.0)) (Some (serial_level k)))

-- the device of a register is declared
abbrev pub register_fits : Plan → RegisterInfo → Bool
register_fits plan r = is_kind plan kind.Device r.device.0

-- the device of a register
abbrev pub device_of_register : Plan → ℕ → Option ℕ
device_of_register plan k = option_map (λ r. r.device.0) (slice_get plan.registers k)

-- the device of an interrupt
abbrev pub device_of_interrupt : Option Declared → Option ℕ
device_of_interrupt (Some (declared.Interrupt i)) = Some i.device.0
device_of_interrupt _ = None

-- what this device may do
abbrev pub action_fits : Plan → Option ℕ → Action → Bool
action_fits plan device (action.Set r v) =
    is_some device && same_option ◌==◌ (device_of_register plan r) device
action_fits plan device (action.Raise i) =
    is_handle plan kind.Interrupt i && same_option ◌==◌ (device_of_interrupt (declared_of plan i.id.0)) device
action_fits plan device (action.Lower i) =
    is_handle plan kind.Interrupt i && same_option ◌==◌ (device_of_interrupt (declared_of plan i.id.0)) device

-- a `when` line acts after a number of ticks in its range, on its register's device
abbrev pub when_fits : Plan → WhenLine → Bool
when_fits plan w =
    is_ticks w.after && action_fits plan (device_of_register plan w.register) w.action

-- ---- agents and their posts

-- what an app may post
abbrev pub app_post : Plan → PostLine → Bool
app_post plan p =
    is_ticks p.tick && (elim p.post as (λ _. Bool) [
      | post.Read d n ↦ is_handle plan kind.Device d
      | post.Write d n ↦ is_handle plan kind.Device d
      | post.Control d c n ↦ is_handle plan kind.Device d
      | post.Cancel k ↦ true
      | post.Ask a d ↦ false
      | post.Act a ↦ false
      | post.Done r s ↦ false
    ])

-- what the Plug and Play manager may post
abbrev pub pnp_post : Plan → PostLine → Bool
pnp_post plan p =
    is_ticks p.tick && (elim p.post as (λ _. Bool) [
      | post.Read d n ↦ false
      | post.Write d n ↦ false
      | post.Control d c n ↦ false
      | post.Cancel k ↦ false
      | post.Ask a d ↦ is_handle plan kind.Device d
      | post.Act a ↦ false
      | post.Done r s ↦ false
    ])

-- what this device may post by its own lines
abbrev pub device_post : Plan → ℕ → PostLine → Bool
device_post plan device p =
    is_ticks p.tick && (elim p.post as (λ _. Bool) [
      | post.Read d n ↦ false
      | post.Write d n ↦ false
      | post.Control d c n ↦ false
      | post.Cancel k ↦ false
      | post.Ask a d ↦ false
      | post.Act a ↦ action_fits plan (Some device) a
      | post.Done r s ↦ false
    ])

-- the ids of the devices among these objects, of which the first has this id
abbrev pub device_ids : ℕ → List Declared → List ℕ
device_ids id [] = []
device_ids id (declared.Device d ∷ ds) = id ∷ device_ids (suc id) ds
device_ids id (_ ∷ ds) = device_ids (suc id) ds

-- the posts of each agent against the device that it is, by the ids of the devices; after the devices come
-- the targets, without posts
abbrev pub device_posts_fit : Plan → List ℕ → List AgentInfo → Bool
device_posts_fit plan [] as' = list_all (λ a. length a.posts == 0) as'
device_posts_fit plan (id ∷ ids) [] = true
device_posts_fit plan (id ∷ ids) (a ∷ as') =
    list_all (device_post plan id) a.posts && device_posts_fit plan ids as'

-- all posts, of which there is one a line with `at`
abbrev pub post_count : Plan → ℕ
post_count plan = length plan.pnp + sum_by (λ a. length a.posts) plan.agents

-- ---- expressions and statements

-- the operands of node k are before it
abbrev pub node_fits : Plan → ℕ → ExprNode → Bool
node_fits plan k (node.Variable v) = nat_lt v 16
node_fits plan k (node.Object h) =
    is_handle plan kind.Device h || is_handle plan kind.Queue h || is_handle plan kind.Interrupt h || is_handle plan kind.Target h
node_fits plan k (node.Binary operator left right) = nat_lt left k && nat_lt right k
node_fits plan k _ = true

-- the nodes from node k on
abbrev pub nodes_fit : Plan → ℕ → List ExprNode → Bool
nodes_fit plan k [] = true
nodes_fit plan k (n ∷ ns) = node_fits plan k n && nodes_fit plan (suc k) ns

-- a node of an expression has this number
abbrev pub is_expr : Plan → ℕ → Bool
is_expr plan e = nat_lt e (length plan.exprs)

-- a register has this number
abbrev pub is_register : Plan → ℕ → Bool
is_register plan k = nat_lt k (length plan.registers)

-- a variable has this number: a callback has at most 16 (own)
abbrev pub is_variable : ℕ → Bool
is_variable v = nat_lt v 16

-- where the answer of a call goes, if anywhere
abbrev pub is_answer_place : Option ℕ → Bool
is_answer_place None = true
is_answer_place (Some v) = is_variable v

-- an argument has the place that the call's row gives it
abbrev pub arg_fits : Plan → Sort → ArgNode → Bool
arg_fits plan sort.Absent arg.NoArgument = true
arg_fits plan sort.Absent _ = false
arg_fits plan (sort.Class k) (arg.OfClass c) =
    same_option same_kind (option_map class_kind (slice_get plan.classes c)) (Some k)
arg_fits plan (sort.Class k) _ = false
arg_fits plan _ (arg.Expression e) = is_expr plan e
arg_fits plan _ _ = false

-- the numbers of a statement in a script of n statements
abbrev pub act_fits : Plan → ℕ → Act → Bool
act_fits plan n (act.Let v e) = is_variable v && is_expr plan e
act_fits plan n (act.Call k into a b c) =
    is_answer_place into && arg_fits plan (signature_of k).a a && arg_fits plan (signature_of k).b b && arg_fits plan (signature_of k).c c
act_fits plan n (act.Get v r) = is_variable v && is_register plan r
act_fits plan n (act.Put r e) = is_register plan r && is_expr plan e
act_fits plan n (act.If e otherwise) = is_expr plan e && nat_le otherwise n
act_fits plan n (act.Repeat e depth past) =
    is_expr plan e && nat_lt depth 16 && nat_le past n
act_fits plan n (act.Again depth body) = nat_lt depth 16 && nat_le body n
act_fits plan n (act.Spend e) = is_expr plan e
act_fits plan n (act.Log e) = is_expr plan e
act_fits plan n (act.Return e) = is_expr plan e

-- a statement goes on within its callback's n statements, or at their end, and names what is there
abbrev pub statement_fits : Plan → ℕ → Statement → Bool
statement_fits plan n s = nat_le s.next n && act_fits plan n s.act

-- ---- scripts

-- an object that has callbacks of this owner
abbrev pub owner_fits : Plan → Owner → Declared → Bool
owner_fits plan (owner.Of k) (declared.OfClass c) =
    same_option same_kind (option_map class_kind (slice_get plan.classes c)) (Some k)
owner_fits plan (owner.Of k) d =
    same_option same_kind (declared_kind d) (Some k) && list_any (same_declared d) plan.declared
owner_fits plan owner.ClassOrDevice (declared.OfClass c) = nat_lt c (length plan.classes)
owner_fits plan owner.ClassOrDevice (declared.Device d) =
    list_any (same_declared (declared.Device d)) plan.declared
owner_fits plan owner.ClassOrDevice _ = false

-- a callback is of an object that may have it, and its statements fit
abbrev pub script_fits : Plan → Script → Bool
script_fits plan s =
    owner_fits plan (row_of s.callback).owner s.owner && list_all (statement_fits plan (length s.statements)) s.statements

-- two scripts of one callback on one object
abbrev pub same_script : Script → Script → Bool
same_script a b = same_callback a.callback b.callback && same_declared a.owner b.owner

-- whether the plan has a script of this callback on this object
abbrev pub has_script : Plan → Callback → Declared → Bool
has_script plan c o = is_some (script_of plan c o)

-- the callbacks that this object can't do without are declared
abbrev pub declared_complete : Plan → Declared → Bool
declared_complete plan (declared.Interrupt i) =
    has_script plan callback.EvtInterruptIsr (declared.Interrupt i)
declared_complete plan (declared.Target t) =
    has_script plan callback.EvtRequestCompletion (declared.Target t)
declared_complete plan _ = true

-- the function of a deferred class
abbrev pub function_of : DeferredKind → Callback
function_of deferred.Dpc = callback.EvtDpcFunc
function_of deferred.Timer = callback.EvtTimerFunc
function_of deferred.WorkItem = callback.EvtWorkItem

-- the classes from class k on
abbrev pub classes_complete : Plan → ℕ → List ClassInfo → Bool
classes_complete plan k [] = true
classes_complete plan k (class.Plain name c ∷ cs) = classes_complete plan (suc k) cs
classes_complete plan k (class.Deferred name c parent serialize period ∷ cs) =
    has_script plan (function_of c) (declared.OfClass k) && classes_complete plan (suc k) cs

-- the statements that count: all but the ends of `repeat`
abbrev pub counts_as_statement : Statement → Bool
counts_as_statement s =
    elim s.act as (λ _. Bool) [
      | act.Let v e ↦ true
      | act.Call k into a b c ↦ true
      | act.Get v r ↦ true
      | act.Put r e ↦ true
      | act.If e otherwise ↦ true
      | act.Repeat e depth past ↦ true
      | act.Again depth body ↦ false
      | act.Spend e ↦ true
      | act.Log e ↦ true
      | act.Return e ↦ true
    ]

-- how many statements of all callbacks count against the limit
abbrev pub statement_count : Plan → ℕ
statement_count plan = sum_by (λ s. count_by counts_as_statement s.statements) plan.scripts

-- ---- the whole

-- the plan stands for some scene: its numbers are in their ranges and stand for what their places need
pub record IsResolved (plan : Plan) : Type 0 where
  pub cpus : IsTrue (is_from 1 8 plan.cpus)
  pub limit : IsTrue (is_from 1 200000 plan.limit)
  pub objects : IsTrue (is_from 1 4096 plan.objects)
  -- the declared objects and the driver object count
  pub counted : IsTrue (nat_le (length plan.declared) plan.objects)
  pub devices : IsTrue (nat_le (length (filter_map device_name plan.declared)) 8)
  pub app_limit : IsTrue (nat_le (app_count plan) 256)
  pub register_limit : IsTrue (nat_le (length plan.registers) 64)
  pub class_limit : IsTrue (nat_le (length plan.classes) 256)
  pub statement_limit : IsTrue (nat_le (statement_count plan) 4096)
  pub post_limit : IsTrue (nat_le (post_count plan) 4096)
  pub pick_limit : IsTrue (nat_le (length plan.picks) 200000)
  -- names
  pub driver_name : slice_get plan.names 0 ≡ Some (codes "driver")
  pub request_name : slice_get plan.names 1 ≡ Some (codes "req")
  pub names_plain : IsTrue (list_all is_name plan.names)
  pub names_short : IsTrue (list_all (λ n. nat_le (length n) 32) plan.names)
  pub names_differ : IsTrue (all_differ bytes_eq plan.names)
  pub names_free : IsTrue (list_all (λ n. not (is_reserved n)) (drop 2 plan.names))
  pub names_used : IsTrue (all_differ ◌==◌ (used_names plan))
  pub names_there : IsTrue (list_all (λ n. nat_le 2 n && nat_lt n (length plan.names)) (used_names plan))
  -- objects, classes, registers
  pub in_order : IsTrue (objects_in_order plan.declared)
  pub declared_fit : IsTrue (list_all (declared_fits plan) plan.declared)
  pub classes_fit : IsTrue (list_all (class_fits plan) plan.classes)
  pub registers_fit : IsTrue (list_all (register_fits plan) plan.registers)
  pub whens_fit : IsTrue (list_all (when_fits plan) plan.whens)
  -- agents
  pub agents_end : drop (app_count plan) (map agent_name plan.agents) ≡ posting_names plan
  pub pnp_posts : IsTrue (list_all (pnp_post plan) plan.pnp)
  pub app_posts : IsTrue (list_all (λ a. list_all (app_post plan) a.posts) (apps plan))
  pub device_posts : IsTrue (device_posts_fit plan (device_ids 1 plan.declared) (drop (app_count plan) plan.agents))
  -- scripts
  pub exprs_fit : IsTrue (nodes_fit plan 0 plan.exprs)
  pub scripts_fit : IsTrue (list_all (script_fits plan) plan.scripts)
  pub scripts_differ : IsTrue (all_differ same_script plan.scripts)
  pub declared_complete : IsTrue (list_all (declared_complete plan) plan.declared)
  pub classes_complete : IsTrue (classes_complete plan 0 plan.classes)
