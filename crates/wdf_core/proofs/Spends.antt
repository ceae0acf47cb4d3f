-- What a frame may spend: a spending that may come is no longer than the greatest number of a `spend`.
use Rattle.std.proofs.Common.{if◌then◌else◌, ◌≡◌, ℕ, ◌≤◌, nat_le, ◌==◌, Bool, true, false, Option, Some, None, refl, arith, rules}
use Rattle.std.proofs.lemmas.Bool.Decides.{nat_tests}
use Rattle.wdf_base.specs.Meaning.{Meaning}
use Rattle.wdf_base.specs.declared.ids.Cpu.{Cpu}
use Rattle.wdf_base.specs.declared.call.Call.{Call}
use Rattle.wdf_base.specs.declared.plan.Plan.{Plan}
use Rattle.wdf_base.specs.declared.value.Value.{Value}
use Rattle.wdf_base.specs.declared.value.Value.TheVariants.{Num, Obj, Stat}
use Rattle.wdf_base.specs.declared.event.Event.{Event}
use Rattle.wdf_base.specs.declared.event.Event.TheVariants as event
use Rattle.wdf_base.specs.declared.event.Fault.{Fault}
use Rattle.wdf_base.specs.declared.frame.Frame.{Frame}
use Rattle.wdf_base.specs.declared.frame.Pending.{Pending}
use Rattle.wdf_base.specs.declared.frame.Intent.{Intent}
use Rattle.wdf_base.specs.declared.frame.Intent.TheVariants as intent
use Rattle.wdf_base.specs.declared.frame.Change.TheVariants as change
use Rattle.wdf_base.specs.declared.script.Act.{Act}
use Rattle.wdf_base.specs.declared.script.Act.TheVariants as act
use Rattle.wdf_base.specs.declared.script.Statement.{Statement}
use Rattle.wdf_base.specs.Same.{same_event, same_option}
use Rattle.wdf_model.specs.Ids.{cpu_of}
use Rattle.wdf_model.specs.parts.Cpus.{frame_of, top}
use Rattle.wdf_model.specs.State.{State}
use Rattle.wdf_model.specs.rules.Script.{act_intent, if_intent, intent_at, intent_of, let_intent, log_intent, put_intent, repeat_intent, return_intent, spend_intent, statement_at, value_of}
use Rattle.wdf_model.specs.rules.Faults.{fault_of}
use Rattle.wdf_model.specs.rules.Calls.{Outcome, is_met, is_met_then, outcome}
use Rattle.wdf_model.specs.rules.Steps.{event_of_frame, event_of_top, fault_event, intent_event, may, own_event, spends, view_of}
use Rattle.wdf_model.proofs.Tests.{both_right}

-- ---- what a statement spends

abbrev SmallIntent : Intent → Type 0
SmallIntent (intent.Spend n) = n ≤ 1000000
SmallIntent _ = Unit

limited : (n : ℕ) (b : Bool) → nat_le n 1000000 ≡ b → SmallIntent (if b then intent.Spend n else intent.Broken)
limited n true h = grind (arith, nat_tests)
limited n false h = tt

spend_intent_small : (x : Option Value) → SmallIntent (spend_intent x)
spend_intent_small None = tt
spend_intent_small (Some (Num n)) = limited n (nat_le n 1000000) refl
spend_intent_small (Some (Obj o)) = tt
spend_intent_small (Some (Stat s)) = tt

let_small : (variable next : ℕ) (x : Option Value) → SmallIntent (let_intent variable next x)
let_small variable next None = tt
let_small variable next (Some v) = tt

put_small : (register : ℕ) (x : Option Value) → SmallIntent (put_intent register x)
put_small register None = tt
put_small register (Some (Num n)) = tt
put_small register (Some (Obj o)) = tt
put_small register (Some (Stat s)) = tt

if_small : (next otherwise : ℕ) (x : Option Value) → SmallIntent (if_intent next otherwise x)
if_small next otherwise None = tt
if_small next otherwise (Some (Num n)) = tt
if_small next otherwise (Some (Obj o)) = tt
if_small next otherwise (Some (Stat s)) = tt

counted_small : (depth n place : ℕ) (b : Bool) → SmallIntent (if b then intent.Local (change.Count depth n) place else intent.Broken)
counted_small depth n place true = tt
counted_small depth n place false = tt

repeat_small : (next depth past : ℕ) (x : Option Value) → SmallIntent (repeat_intent next depth past x)
repeat_small next depth past None = tt
repeat_small next depth past (Some (Num n)) = counted_small depth n (if n == 0 then past else next) (nat_le n 1000)
repeat_small next depth past (Some (Obj o)) = tt
repeat_small next depth past (Some (Stat s)) = tt

log_small : (x : Option Value) → SmallIntent (log_intent x)
log_small None = tt
log_small (Some v) = tt

return_small : (x : Option Value) → SmallIntent (return_intent x)
return_small None = tt
return_small (Some v) = tt

act_small : (plan : Plan) (f : Frame) (next : ℕ) (a : Act) → SmallIntent (act_intent plan f next a)
act_small plan f next (act.Let variable e) = let_small variable next (value_of plan f e)
act_small plan f next (act.Put register e) = put_small register (value_of plan f e)
act_small plan f next (act.If e otherwise) = if_small next otherwise (value_of plan f e)
act_small plan f next (act.Repeat e depth past) = repeat_small next depth past (value_of plan f e)
act_small plan f next (act.Spend e) = spend_intent_small (value_of plan f e)
act_small plan f next (act.Log e) = log_small (value_of plan f e)
act_small plan f next (act.Return e) = return_small (value_of plan f e)
act_small plan f next _ = tt

statement_small : (plan : Plan) (f : Frame) (s : Option Statement) → SmallIntent (intent_at plan f s)
statement_small plan f None = tt
statement_small plan f (Some s) = act_small plan f s.next s.act

-- ---- what an own event spends

abbrev SmallEvent : Event → Type 0
SmallEvent (event.Spend cpu n) = n ≤ 1000000
SmallEvent _ = Unit

abbrev SmallIfAny : Option Event → Type 0
SmallIfAny None = Unit
SmallIfAny (Some e) = SmallEvent e

call_small : {A : Type 0} (plan : Plan) (S : State A) (cpu : ℕ) (c : Call) (o : Outcome) (b : Bool)
    → SmallEvent (if b then event.Did (cpu_of cpu) c o.answer else event.Waiting (cpu_of cpu) c)
call_small plan S cpu c o true = tt
call_small plan S cpu c o false = tt

intent_small : {A : Type 0} (plan : Plan) (m : Meaning A) (S : State A) (cpu f : ℕ) (frame : Frame) (i : Intent)
    → SmallIntent i → SmallEvent (intent_event plan m S cpu f frame i)
intent_small plan m S cpu f frame (intent.Local change next) h = tt
intent_small plan m S cpu f frame (intent.Log v) h = tt
intent_small plan m S cpu f frame (intent.Spend n) h = h
intent_small plan m S cpu f frame (intent.Get k) h = tt
intent_small plan m S cpu f frame (intent.Put k v) h = tt
intent_small plan m S cpu f frame (intent.Do c) h = call_small plan S cpu c (outcome plan S cpu f c) (is_met_then plan S c)
intent_small plan m S cpu f frame (intent.Return v) h = tt
intent_small plan m S cpu f frame intent.Broken h = tt

fault_small : {A : Type 0} (plan : Plan) (m : Meaning A) (S : State A) (cpu f : ℕ) (frame : Frame) (i : Intent) (x : Option Fault)
    → SmallIntent i → SmallEvent (fault_event plan m S cpu f frame i x)
fault_small plan m S cpu f frame i (Some x) h = tt
fault_small plan m S cpu f frame i None h = intent_small plan m S cpu f frame i h

woken_small : (cpu : ℕ) (p : Pending) (b : Bool) → SmallIfAny (if b then Some (event.Woke (cpu_of cpu) p.call p.answer) else None)
woken_small cpu p true = tt
woken_small cpu p false = tt

frame_small : {A : Type 0} (plan : Plan) (m : Meaning A) (S : State A) (cpu f : ℕ) (frame : Frame) (p : Option Pending)
    → SmallIfAny (event_of_frame plan m S cpu f frame p)
frame_small plan m S cpu f frame (Some p) = woken_small cpu p (is_met S p.call)
frame_small plan m S cpu f frame None =
    fault_small plan m S cpu f frame (intent_of plan frame) (fault_of (view_of plan S cpu f) (intent_of plan frame)) (statement_small plan frame (statement_at plan frame))

unless_small : (b : Bool) (e : Option Event) → SmallIfAny e → SmallIfAny (if b then None else e)
unless_small true e h = tt
unless_small false e h = h

top_small : {A : Type 0} (plan : Plan) (m : Meaning A) (S : State A) (cpu : ℕ) (there : Option ℕ) → SmallIfAny (event_of_top plan m S cpu there)
top_small plan m S cpu None = tt
top_small plan m S cpu (Some f) =
    unless_small (spends S (frame_of S.cpus f)) (event_of_frame plan m S cpu f (frame_of S.cpus f) (frame_of S.cpus f).pending)
    (frame_small plan m S cpu f (frame_of S.cpus f) (frame_of S.cpus f).pending)

-- ---- the spending that may come

same_small : (e : Event) (cpu : Cpu) (n : ℕ) → same_event e (event.Spend cpu n) ≡ true → SmallEvent e → n ≤ 1000000
same_small (event.Spend l k) cpu n h small = let same : k ≡ n = search (rules, both_right) in omega arith
same_small _ cpu n h small = absurd (let z : ⊥ = cc in z)

found_small : (found : Option Event) (cpu : Cpu) (n : ℕ) → same_option same_event found (Some (event.Spend cpu n)) ≡ true → SmallIfAny found → n ≤ 1000000
found_small None cpu n h small = absurd (let z : ⊥ = cc in z)
found_small (Some e) cpu n h small = same_small e cpu n h small

pub spend_small : {A : Type 0} (plan : Plan) (m : Meaning A) (S : State A) (cpu : Cpu) (n : ℕ) → may plan m S (event.Spend cpu n) ≡ true → n ≤ 1000000
spend_small plan m S cpu n h = found_small (own_event plan m S cpu.0) cpu n h (top_small plan m S cpu.0 (top S.cpus cpu.0))
