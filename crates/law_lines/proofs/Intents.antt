-- What a frame is about to do gives values, calls, registers and lines of the plan.
use Rattle.std.proofs.Common.{if◌then◌else◌, ◌≡◌, ℕ, ◌-◌, ◌==◌, ◌<◌, ◌≤◌, ◌^◌, Bool, true, false, nat_le, nat_lt, length, Option, Some, None, option_map, unwrap_or, slice_get, refl, sym, subst, arith}
use Rattle.std.specs.List.{list_all}
use Rattle.std.proofs.lemmas.Bool.{leb-true, ltb-true}
use Rattle.std.proofs.lemmas.Option.{slice_get_within}
use Rattle.wdf_base.specs.Calls.{argument_count, signature_of}
use Rattle.wdf_base.specs.Kinds.{class_kind}
use Rattle.wdf_base.specs.Plan.{script_statements}
use Rattle.wdf_base.specs.Resolved.{IsResolved, act_fits, arg_fits, script_fits, statement_fits}
use Rattle.wdf_base.specs.Same.{same_kind, same_option}
use Rattle.wdf_base.specs.declared.plan.Plan.{Plan}
use Rattle.wdf_base.specs.declared.call.CallKind.{CallKind}
use Rattle.wdf_base.specs.declared.call.CallKind.TheVariants as call
use Rattle.wdf_base.specs.declared.declared.ClassInfo.{ClassInfo}
use Rattle.wdf_base.specs.declared.frame.Change.{Change}
use Rattle.wdf_base.specs.declared.frame.Change.TheVariants as change
use Rattle.wdf_base.specs.declared.frame.Frame.{Frame}
use Rattle.wdf_base.specs.declared.frame.Intent.{Intent}
use Rattle.wdf_base.specs.declared.frame.Intent.TheVariants as intent
use Rattle.wdf_base.specs.declared.object.Kind.{Kind}
use Rattle.wdf_base.specs.declared.script.Act.{Act}
use Rattle.wdf_base.specs.declared.script.Act.TheVariants as act
use Rattle.wdf_base.specs.declared.script.ArgNode.{ArgNode}
use Rattle.wdf_base.specs.declared.script.ArgNode.TheVariants as arg
use Rattle.wdf_base.specs.declared.script.Script.{Script}
use Rattle.wdf_base.specs.declared.script.Statement.{Statement}
use Rattle.wdf_base.specs.declared.signature.Sort.{Sort}
use Rattle.wdf_base.specs.declared.signature.Sort.TheVariants as sort
use Rattle.wdf_base.specs.declared.value.Value.{Value}
use Rattle.wdf_base.specs.declared.value.Value.TheVariants.{Num, Obj, Stat}
use Rattle.wdf_model.specs.rules.Script.{act_intent, arg_of, call_of, if_intent, intent_at, intent_of, let_intent, line_of, line_of_statement, log_intent, put_intent, repeat_intent, return_intent, spend_intent, statement_at, value_of}
use Rattle.wdf_model.proofs.Tests.{both_left, both_right}
use Rattle.wdf_trace.specs.Events.{IsArgumentOf, IsCallOf, IsValueOf}
use Rattle.law_lines.specs.Fitting.{HasFittingNumbers}
use Rattle.law_lines.specs.Values.{HasFrameValues}
use Rattle.law_lines.proofs.Expressions.{IsResultOf, result_of}
use Rattle.law_machine_lives.proofs.Lists.{all_at}

-- ---- what an intent gives

abbrev pub IsChangeOf : Plan → Change → Type 0
IsChangeOf plan (change.Assign variable v) = IsValueOf plan v
IsChangeOf plan change.Branch = Unit {0}
IsChangeOf plan (change.Count depth left) = Unit {0}

abbrev pub IsIntentOf : Plan → Intent → Type 0
IsIntentOf plan (intent.Local c next) = IsChangeOf plan c
IsIntentOf plan (intent.Log v) = IsValueOf plan v
IsIntentOf plan (intent.Spend n) = n < 2 ^ 64
IsIntentOf plan (intent.Get r) = r < length plan.registers
IsIntentOf plan (intent.Put r n) = (r < length plan.registers) × (n < 2 ^ 64)
IsIntentOf plan (intent.Do c) = IsCallOf plan c
IsIntentOf plan (intent.Return v) = IsValueOf plan v
IsIntentOf plan intent.Broken = Unit {0}

either_intent : (plan : Plan) (b : Bool) (i : Intent) → (b ≡ true → IsIntentOf plan i) → IsIntentOf plan (if b then i else intent.Broken)
either_intent plan true i h = h refl
either_intent plan false i h = tt

let_of : (plan : Plan) (variable next : ℕ) (o : Option Value) → IsResultOf plan o → IsIntentOf plan (let_intent variable next o)
let_of plan variable next None h = tt
let_of plan variable next (Some v) h = h

put_of : (plan : Plan) (r : ℕ) (o : Option Value) → r < length plan.registers → IsResultOf plan o → IsIntentOf plan (put_intent r o)
put_of plan r (Some (Num n)) there h = (there, h)
put_of plan r _ there h = tt

if_of : (plan : Plan) (next otherwise : ℕ) (o : Option Value) → IsIntentOf plan (if_intent next otherwise o)
if_of plan next otherwise None = tt
if_of plan next otherwise (Some (Num n)) = tt
if_of plan next otherwise (Some (Obj o)) = tt
if_of plan next otherwise (Some (Stat s)) = tt

repeat_of : (plan : Plan) (next depth past : ℕ) (o : Option Value) → IsIntentOf plan (repeat_intent next depth past o)
repeat_of plan next depth past (Some (Num n)) = either_intent plan (nat_le n 1000) (intent.Local (change.Count depth n) (if n == 0 then past else next)) (λ _. tt)
repeat_of plan next depth past _ = tt

spend_of : (plan : Plan) (o : Option Value) → IsIntentOf plan (spend_intent o)
spend_of plan (Some (Num n)) = either_intent plan (nat_le n 1000000) (intent.Spend n) (λ e. let few : n ≤ 1000000 = leb-true n 1000000 e in omega (arith, few))
spend_of plan _ = tt

log_of : (plan : Plan) (o : Option Value) → IsResultOf plan o → IsIntentOf plan (log_intent o)
log_of plan None h = tt
log_of plan (Some v) h = h

return_of : (plan : Plan) (o : Option Value) → IsResultOf plan o → IsIntentOf plan (return_intent o)
return_of plan None h = tt
return_of plan (Some v) h = h

-- ---- arguments

-- a row has an argument of this sort
abbrev is_present : Sort → Bool
is_present sort.Absent = false
is_present _ = true

class_there : (plan : Plan) (k : Kind) (c : ℕ) (o : Option ClassInfo) → slice_get plan.classes c ≡ o → same_option same_kind (option_map class_kind o) (Some k) ≡ true → c < length plan.classes
class_there plan k c None at h = absurd (let z : ⊥ = cc in z)
class_there plan k c (Some x) at h = slice_get_within plan.classes c x at

or_zero : (plan : Plan) (o : Option Value) → IsResultOf plan o → IsValueOf plan (unwrap_or o (Num 0))
or_zero plan None h = omega arith
or_zero plan (Some v) h = h

argument_of : (plan : Plan) (f : Frame) → ((e : ℕ) → IsResultOf plan (value_of plan f e)) → (s : Sort) (a : ArgNode) → arg_fits plan s a ≡ true → IsArgumentOf plan (is_present s) (arg_of plan f a)
argument_of plan f each sort.Absent arg.NoArgument h = refl
argument_of plan f each sort.Absent (arg.Expression e) h = absurd (let z : ⊥ = cc in z)
argument_of plan f each sort.Absent (arg.OfClass c) h = absurd (let z : ⊥ = cc in z)
argument_of plan f each (sort.Class k) arg.NoArgument h = absurd (let z : ⊥ = cc in z)
argument_of plan f each (sort.Class k) (arg.Expression e) h = absurd (let z : ⊥ = cc in z)
argument_of plan f each (sort.Class k) (arg.OfClass c) h = class_there plan k c (slice_get plan.classes c) refl h
argument_of plan f each _ (arg.Expression e) h = or_zero plan (value_of plan f e) (each e)
argument_of plan f each _ _ h = absurd (let z : ⊥ = cc in z)

-- a call has its first arguments before its later ones
pub record IsCounted (k : CallKind) : Type 0 where
  pub first : nat_lt 0 (argument_count (signature_of k)) ≡ is_present (signature_of k).a
  pub second : nat_lt 1 (argument_count (signature_of k)) ≡ is_present (signature_of k).b
  pub third : nat_lt 2 (argument_count (signature_of k)) ≡ is_present (signature_of k).c

counted : (k : CallKind) → IsCounted k
counted call.WdfObjectCreate = record { first = refl; second = refl; third = refl }
counted _ = record { first = refl; second = refl; third = refl }

call_is_of : (plan : Plan) (f : Frame) → ((e : ℕ) → IsResultOf plan (value_of plan f e)) → (k : CallKind) (a b c : ArgNode)
    → arg_fits plan (signature_of k).a a ≡ true → arg_fits plan (signature_of k).b b ≡ true → arg_fits plan (signature_of k).c c ≡ true → IsCallOf plan (call_of plan f k a b c)
call_is_of plan f each k a b c x y z =
    let n = counted k in (
      refl,
      subst (λ t. IsArgumentOf plan t (arg_of plan f a)) (sym n.first) (argument_of plan f each (signature_of k).a a x),
      subst (λ t. IsArgumentOf plan t (arg_of plan f b)) (sym n.second) (argument_of plan f each (signature_of k).b b y),
      subst (λ t. IsArgumentOf plan t (arg_of plan f c)) (sym n.third) (argument_of plan f each (signature_of k).c c z),
    )

-- ---- statements

-- what is so of a statement of a callback
record IsStatementOf (plan : Plan) (s : Statement) : Type 0 where
  count : ℕ
  fits : statement_fits plan count s ≡ true
  small : s.line < 2 ^ 32

module _ (plan : Plan) (h : IsResolved plan) (fit : HasFittingNumbers plan) where
  in_script : (script at : ℕ) (o : Option Script) (s : Statement) → slice_get plan.scripts script ≡ o → slice_get (script_statements o) at ≡ Some s → IsStatementOf plan s
  in_script script at None s from here = absurd (let z : ⊥ = cc in z)
  in_script script at (Some x) s from here =
      let all : script_fits plan x ≡ true = all_at (script_fits plan) plan.scripts script x h.scripts_fit from in
      let statements : list_all (statement_fits plan (length x.statements)) x.statements ≡ true = search both_right in
      record {
        count = length x.statements;
        fits = all_at (statement_fits plan (length x.statements)) x.statements at s statements here;
        small = (fit.lines script x from).statements at s here;
      }

  statement_of : (f : Frame) (s : Statement) → statement_at plan f ≡ Some s → IsStatementOf plan s
  statement_of f s at = in_script f.script f.at (slice_get plan.scripts f.script) s refl at

  -- the line of the next statement fits 32 bits
  end_line : (k : ℕ) (o : Option Script) → slice_get plan.scripts k ≡ o → unwrap_or (option_map (λ (s : Script). s.line) o) 0 < 2 ^ 32
  end_line k None at = omega arith
  end_line k (Some s) at = (fit.lines k s at).start

  line_by : (f : Frame) (o : Option Statement) → statement_at plan f ≡ o → (end : ℕ) → end < 2 ^ 32 → line_of_statement end o < 2 ^ 32
  line_by f None at end small = small
  line_by f (Some s) at end small = (statement_of f s at).small

  pub line_small : (f : Frame) → line_of plan f < 2 ^ 32
  line_small f = line_by f (statement_at plan f) refl (unwrap_or (option_map (λ (s : Script). s.line) (slice_get plan.scripts f.script)) 0) (end_line f.script (slice_get plan.scripts f.script) refl)

  module _ (f : Frame) (k : HasFrameValues plan f) where
    value : (e : ℕ) → IsResultOf plan (value_of plan f e)
    value e = result_of plan h fit f k e

    act_of : (n next : ℕ) (a : Act) → act_fits plan n a ≡ true → IsIntentOf plan (act_intent plan f next a)
    act_of n next (act.Let variable e) fits = let_of plan variable next (value_of plan f e) (value e)
    act_of n next (act.Call kind into a b c) fits =
        call_is_of plan f value kind a b c (search (both_left, both_right)) (search (both_left, both_right)) (search both_right)
    act_of n next (act.Get variable r) fits = ltb-true r (length plan.registers) (search both_right)
    act_of n next (act.Put r e) fits = put_of plan r (value_of plan f e) (ltb-true r (length plan.registers) (search both_left)) (value e)
    act_of n next (act.If e otherwise) fits = if_of plan next otherwise (value_of plan f e)
    act_of n next (act.Repeat e depth past) fits = repeat_of plan next depth past (value_of plan f e)
    act_of n next (act.Again depth body) fits = tt
    act_of n next (act.Spend e) fits = spend_of plan (value_of plan f e)
    act_of n next (act.Log e) fits = log_of plan (value_of plan f e) (value e)
    act_of n next (act.Return e) fits = return_of plan (value_of plan f e) (value e)

    by_statement : (o : Option Statement) → statement_at plan f ≡ o → IsIntentOf plan (intent_at plan f o)
    by_statement None at = tt
    by_statement (Some s) at =
        let is = statement_of f s at in
        act_of is.count s.next s.act (both_right (nat_le s.next is.count) (act_fits plan is.count s.act) is.fits)

    -- what a frame is about to do
    pub intent_is_of : IsIntentOf plan (intent_of plan f)
    intent_is_of = by_statement (statement_at plan f) refl
