-- A read is answered with what the device of its register shows, and the register is one of the plan.
use Rattle.std.proofs.Common.{if◌then◌else◌, ◌≡◌, ℕ, nat_le, Bool, true, false, length, Option, Some, None, slice_get, refl, sym, ap, ◌∙◌, subst}
use Rattle.std.specs.List.{list_all}
use Rattle.wdf_base.specs.Meaning.{Meaning}
use Rattle.wdf_base.specs.Plan.{script_statements}
use Rattle.wdf_base.specs.Resolved.{IsResolved, act_fits, is_register, is_variable, script_fits, statement_fits}
use Rattle.wdf_base.specs.Same.{same_event, same_option}
use Rattle.wdf_base.specs.declared.plan.Plan.{Plan}
use Rattle.wdf_base.specs.declared.ids.Cpu.{Cpu}
use Rattle.wdf_base.specs.declared.value.Value.{Value}
use Rattle.wdf_base.specs.declared.value.Value.TheVariants.{Num}
use Rattle.wdf_base.specs.declared.call.Call.{Call}
use Rattle.wdf_base.specs.declared.event.Access.TheVariants as access
use Rattle.wdf_base.specs.declared.event.Event.{Event}
use Rattle.wdf_base.specs.declared.event.Event.TheVariants as event
use Rattle.wdf_base.specs.declared.event.Fault.{Fault}
use Rattle.wdf_base.specs.declared.frame.Frame.{Frame}
use Rattle.wdf_base.specs.declared.frame.Intent.{Intent}
use Rattle.wdf_base.specs.declared.frame.Intent.TheVariants as intent
use Rattle.wdf_base.specs.declared.frame.Pending.{Pending}
use Rattle.wdf_base.specs.declared.script.Act.{Act}
use Rattle.wdf_base.specs.declared.script.Act.TheVariants as act
use Rattle.wdf_base.specs.declared.script.Script.{Script}
use Rattle.wdf_base.specs.declared.script.Statement.{Statement}
use Rattle.wdf_model.specs.Ids.{cpu_of}
use Rattle.wdf_model.specs.Plans.{device_of_register}
use Rattle.wdf_model.specs.parts.Cpus.{frame_of, top}
use Rattle.wdf_model.specs.State.{State}
use Rattle.wdf_model.specs.rules.Calls.{is_met, is_met_then, outcome}
use Rattle.wdf_model.specs.rules.Faults.{fault_of}
use Rattle.wdf_model.specs.rules.Script.{REPEAT_LIMIT, SPEND_LIMIT, act_intent, if_intent, intent_at, intent_of, let_intent, log_intent, put_intent, repeat_intent, return_intent, spend_intent, statement_at, value_of}
use Rattle.wdf_model.specs.rules.Starts.{shown}
use Rattle.wdf_model.specs.rules.Steps.{event_of_frame, event_of_top, fault_event, intent_event, may, own_event, spends, view_of}
use Rattle.wdf_model.proofs.Tests.{both_right}
use Rattle.law_machine_counts.proofs.Sames.{register_same}
use Rattle.law_machine_lives.proofs.Lists.{all_at}

-- ---- statements that read

-- what a frame is about to do is a read
abbrev is_get : Intent → Bool
is_get (intent.Get k) = true
is_get _ = false

either_get : (b : Bool) (i j : Intent) → is_get i ≡ false → is_get j ≡ false → is_get (if b then i else j) ≡ false
either_get true i j h k = h
either_get false i j h k = k

no_let : (v n : ℕ) (o : Option Value) → is_get (let_intent v n o) ≡ false
no_let v n None = refl
no_let v n (Some x) = refl

no_put : (r : ℕ) (o : Option Value) → is_get (put_intent r o) ≡ false
no_put r (Some (Num n)) = refl
no_put r _ = refl

no_if : (next other : ℕ) (o : Option Value) → is_get (if_intent next other o) ≡ false
no_if next other (Some (Num n)) = refl
no_if next other _ = refl

no_repeat : (next depth past : ℕ) (o : Option Value) → is_get (repeat_intent next depth past o) ≡ false
no_repeat next depth past (Some (Num n)) = either_get (nat_le n REPEAT_LIMIT) _ _ refl refl
no_repeat next depth past _ = refl

no_spend : (o : Option Value) → is_get (spend_intent o) ≡ false
no_spend (Some (Num n)) = either_get (nat_le n SPEND_LIMIT) _ _ refl refl
no_spend _ = refl

no_log : (o : Option Value) → is_get (log_intent o) ≡ false
no_log None = refl
no_log (Some v) = refl

no_return : (o : Option Value) → is_get (return_intent o) ≡ false
no_return None = refl
no_return (Some v) = refl

not_get : (i : Intent) (k : ℕ) → is_get i ≡ false → i ≡ intent.Get k → ⊥
not_get i k no_one h = let yes : is_get i ≡ true = ap is_get h in let z : ⊥ = cc in z

act_reads : (plan : Plan) (f : Frame) (n next k : ℕ) (a : Act) → act_fits plan n a ≡ true → act_intent plan f next a ≡ intent.Get k → is_register plan k ≡ true
act_reads plan f n next k (act.Get v r) fits h = let same : r ≡ k = cc in subst (λ q. is_register plan q ≡ true) same (both_right (is_variable v) (is_register plan r) fits)
act_reads plan f n next k (act.Let v e) fits h = absurd (not_get _ k (no_let v next (value_of plan f e)) h)
act_reads plan f n next k (act.Call c into a b d) fits h = absurd (let z : ⊥ = cc in z)
act_reads plan f n next k (act.Put r e) fits h = absurd (not_get _ k (no_put r (value_of plan f e)) h)
act_reads plan f n next k (act.If e other) fits h = absurd (not_get _ k (no_if next other (value_of plan f e)) h)
act_reads plan f n next k (act.Repeat e depth past) fits h = absurd (not_get _ k (no_repeat next depth past (value_of plan f e)) h)
act_reads plan f n next k (act.Again depth body) fits h = absurd (let z : ⊥ = cc in z)
act_reads plan f n next k (act.Spend e) fits h = absurd (not_get _ k (no_spend (value_of plan f e)) h)
act_reads plan f n next k (act.Log e) fits h = absurd (not_get _ k (no_log (value_of plan f e)) h)
act_reads plan f n next k (act.Return e) fits h = absurd (not_get _ k (no_return (value_of plan f e)) h)

module _ (plan : Plan) (resolved : IsResolved plan) where
  in_script : (script at k : ℕ) (f : Frame) (o : Option Script) (s : Statement) → slice_get plan.scripts script ≡ o → slice_get (script_statements o) at ≡ Some s → act_intent plan f s.next s.act ≡ intent.Get k → is_register plan k ≡ true
  in_script script at k f None s from here h = absurd (let z : ⊥ = cc in z)
  in_script script at k f (Some x) s from here h =
      let all : script_fits plan x ≡ true = all_at (script_fits plan) plan.scripts script x resolved.scripts_fit from in
      let statements : list_all (statement_fits plan (length x.statements)) x.statements ≡ true = search both_right in
      let fits : statement_fits plan (length x.statements) s ≡ true = all_at (statement_fits plan (length x.statements)) x.statements at s statements here in
      act_reads plan f (length x.statements) s.next k s.act (both_right (nat_le s.next (length x.statements)) _ fits) h

  about_reads : (f : Frame) (k : ℕ) (o : Option Statement) → statement_at plan f ≡ o → intent_at plan f o ≡ intent.Get k → is_register plan k ≡ true
  about_reads f k None at h = absurd (let z : ⊥ = cc in z)
  about_reads f k (Some s) at h = in_script f.script f.at k f (slice_get plan.scripts f.script) s refl at h

-- ---- events that read

-- what a read says
pub record IsRead {A : Type 0} (plan : Plan) (m : Meaning A) (S : State A) (k v : ℕ) : Type 0 where
  pub value : v ≡ shown plan m S (device_of_register plan k) k
  pub there : is_register plan k ≡ true

module _ {A : Type 0} (plan : Plan) (resolved : IsResolved plan) (m : Meaning A) (S : State A) (cpu f : ℕ) (j : Cpu) (k v : ℕ) where
  abbrev read : Event
  read = event.Register j access.Read k v

  by_call : (c : Call) (b : Bool) → Some (if b then event.Did (cpu_of cpu) c (outcome plan S cpu f c).answer else event.Waiting (cpu_of cpu) c) ≡ Some read → ⊥
  by_call c true h = let z : ⊥ = cc in z
  by_call c false h = let z : ⊥ = cc in z

  by_intent : (i : Intent) → intent_of plan (frame_of S.cpus f) ≡ i → Some (intent_event plan m S cpu f (frame_of S.cpus f) i) ≡ Some read → IsRead plan m S k v
  by_intent (intent.Get r) is h =
      let same : r ≡ k = cc in
      let value : shown plan m S (device_of_register plan r) r ≡ v = cc in
      record {
        value = sym value ∙ ap (λ q. shown plan m S (device_of_register plan q) q) same;
        there = subst (λ q. is_register plan q ≡ true) same (about_reads plan resolved (frame_of S.cpus f) r (statement_at plan (frame_of S.cpus f)) refl is);
      }
  by_intent (intent.Do c) is h = absurd (by_call c (is_met_then plan S c) h)
  by_intent (intent.Local change next) is h = absurd (let z : ⊥ = cc in z)
  by_intent (intent.Log x) is h = absurd (let z : ⊥ = cc in z)
  by_intent (intent.Spend n) is h = absurd (let z : ⊥ = cc in z)
  by_intent (intent.Put r x) is h = absurd (let z : ⊥ = cc in z)
  by_intent (intent.Return x) is h = absurd (let z : ⊥ = cc in z)
  by_intent intent.Broken is h = absurd (let z : ⊥ = cc in z)

  by_fault : (i : Intent) (x : Option Fault) → intent_of plan (frame_of S.cpus f) ≡ i → Some (fault_event plan m S cpu f (frame_of S.cpus f) i x) ≡ Some read → IsRead plan m S k v
  by_fault i (Some x) is h = absurd (let z : ⊥ = cc in z)
  by_fault i None is h = by_intent i is h

  by_waking : (p : Pending) (b : Bool) → (if b then Some (event.Woke (cpu_of cpu) p.call p.answer) else None) ≡ Some read → ⊥
  by_waking p true h = let z : ⊥ = cc in z
  by_waking p false h = let z : ⊥ = cc in z

  by_frame : (o : Option Pending) → event_of_frame plan m S cpu f (frame_of S.cpus f) o ≡ Some read → IsRead plan m S k v
  by_frame (Some p) h = absurd (by_waking p (is_met S p.call) h)
  by_frame None h = by_fault (intent_of plan (frame_of S.cpus f)) (fault_of (view_of plan S cpu f) (intent_of plan (frame_of S.cpus f))) refl h

  by_spending : (b : Bool) → (if b then None else event_of_frame plan m S cpu f (frame_of S.cpus f) (frame_of S.cpus f).pending) ≡ Some read → IsRead plan m S k v
  by_spending true h = absurd (let z : ⊥ = cc in z)
  by_spending false h = by_frame (frame_of S.cpus f).pending h

module _ {A : Type 0} (plan : Plan) (resolved : IsResolved plan) (m : Meaning A) (S : State A) (cpu : Cpu) (k v : ℕ) where
  by_top : (o : Option ℕ) → event_of_top plan m S cpu.0 o ≡ Some (event.Register cpu access.Read k v) → IsRead plan m S k v
  by_top None h = absurd (let z : ⊥ = cc in z)
  by_top (Some f) h = by_spending plan resolved m S cpu.0 f cpu k v (spends S (frame_of S.cpus f)) h

  found : (o : Option Event) → same_option same_event o (Some (event.Register cpu access.Read k v)) ≡ true → o ≡ Some (event.Register cpu access.Read k v)
  found None h = absurd (let z : ⊥ = cc in z)
  found (Some e) h = ap Some (register_same e cpu access.Read k v h)

  pub is_read : may plan m S (event.Register cpu access.Read k v) ≡ true → IsRead plan m S k v
  is_read h = by_top (top S.cpus cpu.0) (found (own_event plan m S cpu.0) h)
