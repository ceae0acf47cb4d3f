-- What a processor would do next may come: the event that its top frame has of its own.
use Rattle.std.proofs.Common.{◌≡◌, ◌==◌, ℕ, Bool, true, false, Option, Some, None, refl, subst, ◌∙◌, rules}
use Rattle.std.specs.Bool.{Decides}
use Rattle.wdf_base.specs.Meaning.{Meaning}
use Rattle.wdf_base.specs.declared.plan.Plan.{Plan}
use Rattle.wdf_base.specs.Same.{same_access, same_arg, same_call, same_callback, same_cpu, same_event, same_fault, same_handle, same_value}
use Rattle.wdf_base.specs.declared.call.Arg.{Arg}
use Rattle.wdf_base.specs.declared.call.Arg.TheVariants.{Val, Class}
use Rattle.wdf_base.specs.declared.call.Call.{Call}
use Rattle.wdf_base.specs.declared.event.Access.{Access}
use Rattle.wdf_base.specs.declared.event.Access.TheVariants as access
use Rattle.wdf_base.specs.declared.event.Event.{Event}
use Rattle.wdf_base.specs.declared.event.Event.TheVariants as event
use Rattle.wdf_base.specs.declared.event.Fault.{Fault}
use Rattle.wdf_base.specs.declared.event.Fault.TheVariants as fault
use Rattle.wdf_base.specs.declared.frame.Frame.{Frame}
use Rattle.wdf_base.specs.declared.frame.Intent.{Intent}
use Rattle.wdf_base.specs.declared.frame.Intent.TheVariants as intent
use Rattle.wdf_base.specs.declared.frame.Pending.{Pending}
use Rattle.wdf_model.specs.Ids.{cpu_of}
use Rattle.wdf_model.specs.Plans.{device_of_register}
use Rattle.wdf_model.specs.State.{State}
use Rattle.wdf_model.specs.parts.Cpus.{frame_of, top}
use Rattle.wdf_model.specs.rules.Calls.{Outcome, is_met, is_met_then, outcome}
use Rattle.wdf_model.specs.rules.Faults.{fault_of}
use Rattle.wdf_model.specs.rules.Script.{intent_of, line_of}
use Rattle.wdf_model.specs.rules.Starts.{shown}
use Rattle.wdf_model.specs.rules.Steps.{call_event, event_of_frame, event_of_top, fault_event, intent_event, is_own_event, may, own_event, spends, view_of, woken_event}
use Rattle.wdf_model.proofs.Tests.{all_four, all_three, both, itself}
use Rattle.wdf_model.proofs.Sames.{call_kind_decides, callback_decides, handle_decides, value_decides}

-- ---- an event is itself

arg_itself : (a : Arg) → same_arg a a ≡ true
arg_itself (Val v) = (value_decides v v).1 refl
arg_itself (Class c) = itself c

access_decides : (a b : Access) → Decides (same_access a b) (a ≡ b)
access_decides a b = search rules

fault_decides : (a b : Fault) → Decides (same_fault a b) (a ≡ b)
fault_decides a b = search rules

call_itself : (c : Call) → same_call c c ≡ true
call_itself c = rw ((call_kind_decides c.kind c.kind).1 refl, itself c.count, arg_itself c.a, arg_itself c.b, arg_itself c.c) refl

-- ---- the own event of a processor may come

module _ {A : Type 0} (plan : Plan) (m : Meaning A) (S : State A) (cpu : ℕ) where
  offered_itself : (e : Event) → own_event plan m S cpu ≡ Some e → same_event e e ≡ true → is_own_event plan m S (cpu_of cpu) e ≡ true
  offered_itself e own is = rw own is

  did_may : (c : Call) (o : Outcome) (b : Bool) → is_met_then plan S c ≡ b → own_event plan m S cpu ≡ Some (call_event plan S cpu c o) → may plan m S (call_event plan S cpu c o) ≡ true
  did_may c o true e own =
      rw e (offered_itself (event.Did (cpu_of cpu) c o.answer) (rw e at own) (all_three (same_cpu (cpu_of cpu) (cpu_of cpu)) (same_call c c) (same_value o.answer o.answer) (itself cpu) (call_itself c) ((value_decides o.answer o.answer).1 refl)))
  did_may c o false e own =
      rw e (offered_itself (event.Waiting (cpu_of cpu) c) (rw e at own) (both (same_cpu (cpu_of cpu) (cpu_of cpu)) (same_call c c) (itself cpu) (call_itself c)))

  intent_may : (f : ℕ) (frame : Frame) (i : Intent) → own_event plan m S cpu ≡ Some (intent_event plan m S cpu f frame i) → may plan m S (intent_event plan m S cpu f frame i) ≡ true
  intent_may f frame (intent.Local change next) own =
      offered_itself (event.Local (cpu_of cpu) (line_of plan frame)) own (both (same_cpu (cpu_of cpu) (cpu_of cpu)) (line_of plan frame == line_of plan frame) (itself cpu) (itself (line_of plan frame)))
  intent_may f frame (intent.Log v) own = offered_itself (event.Log (cpu_of cpu) v) own (both (same_cpu (cpu_of cpu) (cpu_of cpu)) (same_value v v) (itself cpu) ((value_decides v v).1 refl))
  intent_may f frame (intent.Spend n) own = offered_itself (event.Spend (cpu_of cpu) n) own (both (same_cpu (cpu_of cpu) (cpu_of cpu)) (n == n) (itself cpu) (itself n))
  intent_may f frame (intent.Get k) own =
      let v : ℕ = shown plan m S (device_of_register plan k) k in
      offered_itself (event.Register (cpu_of cpu) access.Read k v) own
      (all_four (same_cpu (cpu_of cpu) (cpu_of cpu)) (same_access access.Read access.Read) (k == k) (v == v) (itself cpu) ((access_decides access.Read access.Read).1 refl) (itself k) (itself v))
  intent_may f frame (intent.Put k v) own =
      offered_itself (event.Register (cpu_of cpu) access.Write k v) own
      (all_four (same_cpu (cpu_of cpu) (cpu_of cpu)) (same_access access.Write access.Write) (k == k) (v == v) (itself cpu) ((access_decides access.Write access.Write).1 refl) (itself k) (itself v))
  intent_may f frame (intent.Do c) own = did_may c (outcome plan S cpu f c) (is_met_then plan S c) refl own
  intent_may f frame (intent.Return v) own =
      offered_itself (event.End (cpu_of cpu) frame.callback frame.object v) own
      (all_four (same_cpu (cpu_of cpu) (cpu_of cpu)) (same_callback frame.callback frame.callback) (same_handle frame.object frame.object) (same_value v v) (itself cpu) ((callback_decides frame.callback frame.callback).1 refl)
      ((handle_decides frame.object frame.object).1 refl) ((value_decides v v).1 refl))
  intent_may f frame intent.Broken own =
      offered_itself (event.Fault (cpu_of cpu) fault.ScriptError (line_of plan frame)) own
      (all_three (same_cpu (cpu_of cpu) (cpu_of cpu)) (same_fault fault.ScriptError fault.ScriptError) (line_of plan frame == line_of plan frame) (itself cpu) ((fault_decides fault.ScriptError fault.ScriptError).1 refl) (itself (line_of plan frame)))

  next_may : (f : ℕ) (frame : Frame) (i : Intent) (x : Option Fault) → own_event plan m S cpu ≡ Some (fault_event plan m S cpu f frame i x) → may plan m S (fault_event plan m S cpu f frame i x) ≡ true
  next_may f frame i (Some x) own =
      offered_itself (event.Fault (cpu_of cpu) x (line_of plan frame)) own
      (all_three (same_cpu (cpu_of cpu) (cpu_of cpu)) (same_fault x x) (line_of plan frame == line_of plan frame) (itself cpu) ((fault_decides x x).1 refl) (itself (line_of plan frame)))
  next_may f frame i None own = intent_may f frame i own

  -- ---- whatever the top frame is

  -- a processor has one own event at most
  kept : (d e : Event) → own_event plan m S cpu ≡ Some d → own_event plan m S cpu ≡ Some e → may plan m S d ≡ true → may plan m S e ≡ true
  kept d e at own h = let same : d ≡ e = cc in subst (λ x. may plan m S x ≡ true) same h

  woken_may : (p : Pending) (b : Bool) (e : Event) → is_met S p.call ≡ b → own_event plan m S cpu ≡ woken_event S cpu p → own_event plan m S cpu ≡ Some e → may plan m S e ≡ true
  woken_may p true e met at own =
      let is : woken_event S cpu p ≡ Some (event.Woke (cpu_of cpu) p.call p.answer) = rw met refl in
      kept (event.Woke (cpu_of cpu) p.call p.answer) e (at ∙ is) own
      (offered_itself (event.Woke (cpu_of cpu) p.call p.answer) (at ∙ is)
      (all_three (same_cpu (cpu_of cpu) (cpu_of cpu)) (same_call p.call p.call) (same_value p.answer p.answer) (itself cpu) (call_itself p.call) ((value_decides p.answer p.answer).1 refl)))
  woken_may p false e met at own = let none : woken_event S cpu p ≡ None = rw met refl in absurd (let z : ⊥ = cc in z)

  frame_may : (f : ℕ) (p : Option Pending) (e : Event) → own_event plan m S cpu ≡ event_of_frame plan m S cpu f (frame_of S.cpus f) p → own_event plan m S cpu ≡ Some e → may plan m S e ≡ true
  frame_may f (Some p) e at own = woken_may p (is_met S p.call) e refl at own
  frame_may f None e at own =
      kept (fault_event plan m S cpu f (frame_of S.cpus f) (intent_of plan (frame_of S.cpus f)) (fault_of (view_of plan S cpu f) (intent_of plan (frame_of S.cpus f)))) e at own
      (next_may f (frame_of S.cpus f) (intent_of plan (frame_of S.cpus f)) (fault_of (view_of plan S cpu f) (intent_of plan (frame_of S.cpus f))) at)

  spends_may : (f : ℕ) (b : Bool) (e : Event) → spends S (frame_of S.cpus f) ≡ b → own_event plan m S cpu ≡ event_of_top plan m S cpu (Some f) → own_event plan m S cpu ≡ Some e → may plan m S e ≡ true
  spends_may f true e spent at own = let none : event_of_top plan m S cpu (Some f) ≡ None = rw spent refl in absurd (let z : ⊥ = cc in z)
  spends_may f false e spent at own =
      let is : event_of_top plan m S cpu (Some f) ≡ event_of_frame plan m S cpu f (frame_of S.cpus f) (frame_of S.cpus f).pending = rw spent refl in
      frame_may f (frame_of S.cpus f).pending e (at ∙ is) own

  top_may : (there : Option ℕ) (e : Event) → own_event plan m S cpu ≡ event_of_top plan m S cpu there → own_event plan m S cpu ≡ Some e → may plan m S e ≡ true
  top_may None e at own = let none : event_of_top plan m S cpu None ≡ None = refl in absurd (let z : ⊥ = cc in z)
  top_may (Some f) e at own = spends_may f (spends S (frame_of S.cpus f)) e refl at own

  -- the own event of a processor may come
  pub own_may : (e : Event) → own_event plan m S cpu ≡ Some e → may plan m S e ≡ true
  own_may e own = top_may (top S.cpus cpu) e refl own
