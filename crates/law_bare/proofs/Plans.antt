-- What is read of a plan is the same without its lines' numbers.
use Rattle.std.proofs.Common.{◌≡◌, ℕ, zero, suc, ◌+◌, Option, Some, None, is_some, option_map, unwrap_or, slice_get, refl, ap, ◌∙◌}
use Rattle.std.proofs.lemmas.List.{length-map}
use Rattle.wdf_base.specs.Plan.{declared_of, is_script_of, script_of, script_statements}
use Rattle.wdf_base.specs.Resolved.{app_count}
use Rattle.wdf_base.specs.Same.{same_callback}
use Rattle.wdf_base.specs.declared.call.CallKind.{CallKind}
use Rattle.wdf_base.specs.declared.call.Callback.{Callback}
use Rattle.wdf_base.specs.declared.declared.Declared.{Declared}
use Rattle.wdf_base.specs.declared.frame.Frame.{Frame}
use Rattle.wdf_base.specs.declared.object.RequestForm.{RequestForm}
use Rattle.wdf_base.specs.declared.plan.Plan.{Plan}
use Rattle.wdf_base.specs.declared.script.Act.{Act}
use Rattle.wdf_base.specs.declared.script.Act.TheVariants as act
use Rattle.wdf_base.specs.declared.script.ArgNode.{ArgNode}
use Rattle.wdf_base.specs.declared.script.ArgNode.TheVariants as arg
use Rattle.wdf_base.specs.declared.script.ExprNode.{ExprNode}
use Rattle.wdf_base.specs.declared.script.ExprNode.TheVariants as node
use Rattle.wdf_base.specs.declared.script.Script.{Script}
use Rattle.wdf_base.specs.declared.script.Statement.{Statement}
use Rattle.wdf_base.specs.declared.value.Value.{Value}
use Rattle.wdf_model.specs.Plans.{agent_count, agent_of_device, declares, device_of_agent, devices_of, first_device_agent, handler_for, has_handler, is_app, place_in, script_on, target_of_agent}
use Rattle.wdf_model.specs.rules.Groups.{is_declared_somewhere}
use Rattle.wdf_model.specs.rules.Script.{act_intent, arg_of, call_of, intent_at, intent_of, line_of, line_of_statement, node_value, statement_at, value_of, value_to}
use Rattle.wdf_model.specs.rules.Steps.{answered, at_next, goes_on, result_of}
use Rattle.law_bare.specs.Lines.{bare_agent, bare_script, bare_statement, bare_plan}
use Rattle.law_bare.proofs.Lists.{any_map, at_mapped, position_map}

-- ---- statements

no_line : (o : Option Script) → unwrap_or (option_map (λ (s : Script). s.line) (option_map bare_script o)) 0 ≡ 0
no_line None = refl
no_line (Some s) = refl

bare_statements : (o : Option Script) (k : ℕ) → slice_get (script_statements (option_map bare_script o)) k ≡ option_map bare_statement (slice_get (script_statements o) k)
bare_statements None k = refl
bare_statements (Some s) k = at_mapped bare_statement s.statements k

next_same : (frame : Frame) (o : Option Statement) → at_next frame (option_map bare_statement o) ≡ at_next frame o
next_same frame None = refl
next_same frame (Some s) = refl

result_same : (o : Option Statement) → result_of (option_map bare_statement o) ≡ result_of o
result_same None = refl
result_same (Some s) = refl

line_zero : (o : Option Statement) → line_of_statement 0 (option_map bare_statement o) ≡ 0
line_zero None = refl
line_zero (Some s) = refl

module _ (plan : Plan) where
  -- ---- callbacks

  script_same : (c : Callback) (d : Declared) → script_of (bare_plan plan) c d ≡ script_of plan c d
  script_same c d = position_map bare_script (is_script_of c d) (is_script_of c d) (λ s. refl) plan.scripts

  pub script_on_same : (c : Callback) (o : Option Declared) → script_on (bare_plan plan) c o ≡ script_on plan c o
  script_on_same c None = refl
  script_on_same c (Some d) = script_same c d

  pub declares_same : (c : Callback) (id : ℕ) → declares (bare_plan plan) c id ≡ declares plan c id
  declares_same c id = ap is_some (script_on_same c (declared_of plan id))

  pub handler_same : (q : ℕ) (f : RequestForm) → handler_for (bare_plan plan) q f ≡ handler_for plan q f
  handler_same q f = rw (declares_same _ q, declares_same _ q) refl

  pub has_handler_same : (q : ℕ) (f : RequestForm) → has_handler (bare_plan plan) q f ≡ has_handler plan q f
  has_handler_same q f = ap is_some (handler_same q f)

  pub somewhere_same : (c : Callback) → is_declared_somewhere (bare_plan plan) c ≡ is_declared_somewhere plan c
  somewhere_same c = any_map bare_script (λ (s : Script). same_callback s.callback c) (λ s. same_callback s.callback c) (λ s. refl) plan.scripts

  -- ---- what a frame does

  node_same : (f : Frame) (x y : ℕ → Option Value) → ((e : ℕ) → x e ≡ y e) → (e : ℕ) (n : Option ExprNode) → node_value f x e n ≡ node_value f y e n
  node_same f x y same e None = refl
  node_same f x y same e (Some (node.Number n)) = refl
  node_same f x y same e (Some (node.Variable v)) = refl
  node_same f x y same e (Some (node.Object h)) = refl
  node_same f x y same e (Some (node.Literal s)) = refl
  node_same f x y same e (Some (node.Context word)) = refl
  node_same f x y same e (Some (node.Binary op left right)) = rw (same left, same right) refl

  value_to_same : (depth : ℕ) (f : Frame) (e : ℕ) → value_to depth (bare_plan plan) f e ≡ value_to depth plan f e
  value_to_same zero f e = refl
  value_to_same (suc depth) f e = node_same f (value_to depth (bare_plan plan) f) (value_to depth plan f) (value_to_same depth f) e (slice_get plan.exprs e)

  value_same : (f : Frame) (e : ℕ) → value_of (bare_plan plan) f e ≡ value_of plan f e
  unfolding value_of
  value_same f e = value_to_same (suc e) f e

  arg_same : (f : Frame) (a : ArgNode) → arg_of (bare_plan plan) f a ≡ arg_of plan f a
  arg_same f arg.NoArgument = refl
  arg_same f (arg.Expression e) = rw (value_same f e) refl
  arg_same f (arg.OfClass c) = refl

  call_same : (f : Frame) (k : CallKind) (a b c : ArgNode) → call_of (bare_plan plan) f k a b c ≡ call_of plan f k a b c
  call_same f k a b c = rw (arg_same f a, arg_same f b, arg_same f c) refl

  act_same : (f : Frame) (next : ℕ) (a : Act) → act_intent (bare_plan plan) f next a ≡ act_intent plan f next a
  act_same f next (act.Let variable e) = rw (value_same f e) refl
  act_same f next (act.Call k into a b c) = rw (call_same f k a b c) refl
  act_same f next (act.Get variable register) = refl
  act_same f next (act.Put register e) = rw (value_same f e) refl
  act_same f next (act.If e otherwise) = rw (value_same f e) refl
  act_same f next (act.Repeat e depth past) = rw (value_same f e) refl
  act_same f next (act.Again depth body) = refl
  act_same f next (act.Spend e) = rw (value_same f e) refl
  act_same f next (act.Log e) = rw (value_same f e) refl
  act_same f next (act.Return e) = rw (value_same f e) refl

  statement_bare : (f : Frame) → statement_at (bare_plan plan) f ≡ option_map bare_statement (statement_at plan f)
  statement_bare f = ap (λ o. slice_get (script_statements o) f.at) (at_mapped bare_script plan.scripts f.script) ∙ bare_statements (slice_get plan.scripts f.script) f.at

  intent_by : (f : Frame) (o : Option Statement) → intent_at (bare_plan plan) f (option_map bare_statement o) ≡ intent_at plan f o
  intent_by f None = refl
  intent_by f (Some s) = act_same f s.next s.act

  pub intent_same : (f : Frame) → intent_of (bare_plan plan) f ≡ intent_of plan f
  intent_same f = ap (intent_at (bare_plan plan) f) (statement_bare f) ∙ intent_by f (statement_at plan f)

  pub goes_on_same : (f : Frame) → goes_on (bare_plan plan) f ≡ goes_on plan f
  goes_on_same f = ap (at_next f) (statement_bare f) ∙ next_same f (statement_at plan f)

  result_here : (f : Frame) → result_of (statement_at (bare_plan plan) f) ≡ result_of (statement_at plan f)
  result_here f = ap result_of (statement_bare f) ∙ result_same (statement_at plan f)

  pub answered_same : (f : Frame) (v : Value) → answered (bare_plan plan) f v ≡ answered plan f v
  answered_same f v = rw (goes_on_same f, result_here f) refl

  pub line_none : (f : Frame) → line_of (bare_plan plan) f ≡ 0
  line_none f =
      ap (λ o. line_of_statement (unwrap_or (option_map (λ (s : Script). s.line) o) 0) (statement_at (bare_plan plan) f)) (at_mapped bare_script plan.scripts f.script)
      ∙ ap (λ n. line_of_statement n (statement_at (bare_plan plan) f)) (no_line (slice_get plan.scripts f.script))
      ∙ ap (line_of_statement 0) (statement_bare f) ∙ line_zero (statement_at plan f)

  -- ---- agents

  apps_same : app_count (bare_plan plan) ≡ app_count plan
  apps_same = rw (length-map plan.agents bare_agent) refl

  pub count_same : agent_count (bare_plan plan) ≡ agent_count plan
  count_same = ap (λ n. 1 + n) (length-map plan.agents bare_agent)

  first_same : first_device_agent (bare_plan plan) ≡ first_device_agent plan
  first_same = ap (λ n. 1 + n) apps_same

  pub device_agent_same : (d : ℕ) → agent_of_device (bare_plan plan) d ≡ agent_of_device plan d
  device_agent_same d = ap (λ n. n + place_in d (devices_of plan)) first_same

  pub device_of_same : (a : ℕ) → device_of_agent (bare_plan plan) a ≡ device_of_agent plan a
  device_of_same a = rw first_same refl

  pub target_of_same : (a : ℕ) → target_of_agent (bare_plan plan) a ≡ target_of_agent plan a
  target_of_same a = rw first_same refl

  pub is_app_same : (a : ℕ) → is_app (bare_plan plan) a ≡ is_app plan a
  is_app_same a = rw first_same refl
