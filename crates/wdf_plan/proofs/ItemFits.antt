-- The items of a plan in which nothing was refused fit their types.
use Rattle.std.proofs.Common.{◌≡◌, ℕ, suc, ◌+◌, ◌<◌, ◌≤◌, ◌^◌, Bool, true, ◌&&◌, nat_le, nat_lt, List, [], ◌∷◌, length, Option, Some, None, IfSome, slice_get, option_map, refl, arith, length-append}
use Rattle.std.proofs.lemmas.Bool.{and_parts, eqb-true, leb-true, ltb-true}
use Rattle.std.proofs.lemmas.Option.{slice_get_within}
use Rattle.std.specs.List.{filter_map, list_all, list_any}
use Rattle.std.specs.Prelude.{◌==◌}
use Rattle.wdf_base.specs.declared.declared.ClassInfo.{ClassInfo}
use Rattle.wdf_base.specs.declared.declared.Declared.{Declared}
use Rattle.wdf_base.specs.declared.declared.Declared.TheVariants as declared
use Rattle.wdf_base.specs.declared.declared.InterruptInfo.{InterruptInfo}
use Rattle.wdf_base.specs.declared.object.Kind.{Kind}
use Rattle.wdf_base.specs.declared.plan.Plan.{Plan}
use Rattle.wdf_base.specs.declared.rank.Owner.{Owner}
use Rattle.wdf_base.specs.declared.rank.Owner.TheVariants as owner
use Rattle.wdf_base.specs.declared.script.Act.{Act}
use Rattle.wdf_base.specs.declared.script.Act.TheVariants as act
use Rattle.wdf_base.specs.declared.script.ArgNode.{ArgNode}
use Rattle.wdf_base.specs.declared.script.ArgNode.TheVariants as node_arg
use Rattle.wdf_base.specs.declared.script.ExprNode.{ExprNode}
use Rattle.wdf_base.specs.declared.script.ExprNode.TheVariants as node
use Rattle.wdf_base.specs.declared.script.Script.{Script}
use Rattle.wdf_base.specs.declared.script.Statement.{Statement}
use Rattle.wdf_base.specs.declared.signature.Sort.{Sort}
use Rattle.wdf_base.specs.declared.signature.Sort.TheVariants as sort
use Rattle.wdf_base.specs.Callbacks.{row_of}
use Rattle.wdf_base.specs.Calls.{signature_of}
use Rattle.wdf_base.specs.Kinds.{class_kind}
use Rattle.wdf_base.specs.Resolved.{is_variable, is_answer_place, is_expr, is_register, arg_fits, act_fits, statement_fits, owner_fits, script_fits, node_fits, nodes_fit, device_name, target_name, posting_names, app_count}
use Rattle.wdf_base.specs.Same.{same_irql, same_kind, same_object_id, same_option}
use Rattle.wdf_base.specs.SamePlan.{same_declared}
use Rattle.wdf_scene.specs.declared.line.InterruptLevel.{InterruptLevel}
use Rattle.wdf_scene.specs.declared.line.SceneLine.{SceneLine}
use Rattle.wdf_scene.specs.declared.line.SceneLine.TheVariants as line
use Rattle.wdf_scene.specs.declared.scene.Scene.{Scene}
use Rattle.wdf_blocks.specs.declared.declaration.Declaration.{Declaration}
use Rattle.wdf_blocks.specs.declared.placed.Placed.{Placed}
use Rattle.wdf_plan.specs.Fitting.{IsFitAct, IsFitArgument, IsFitDeclared, IsFitNode, IsFitPlace, IsFitScript, IsFitStatement}
use Rattle.wdf_refusals.specs.Numbered.{Every}
use Rattle.wdf_plan.specs.Parts.{interrupt_info, irql_of, object_of}
use Rattle.wdf_refusals.proofs.Every.{every_map}
use Rattle.wdf_refusals.proofs.Fitting.{gathered_few}
use Rattle.wdf_plan.proofs.Gathered.{any_item}

-- each item passes a test that all pass
pub each_passes : {T : Type 0} (test : T → Bool) (xs : List T) → list_all test xs ≡ true → Every (λ x. test x ≡ true) xs
each_passes test [] h = tt
each_passes test (x ∷ xs) h =
    let both = and_parts (test x) (list_all test xs) h in
    (both.0, each_passes test xs both.1)

-- ---- interrupts

-- where the object of a line fits, so does its interrupt level
pub interrupt_level : (scene : Scene) (names : List Declaration) (p : Placed) (b : ℕ) (form : SceneLine) (n : List ℕ) (l : InterruptLevel) → form ≡ line.Interrupt n l → IfSome (object_of scene names p b form) IsFitDeclared → (irql_of l).0 < 2 ^ 8
unfolding object_of interrupt_info
interrupt_level scene names p b form n l e h =
    let there : IfSome (object_of scene names p b (line.Interrupt n l)) IsFitDeclared = rw e at h in
    there

-- ---- nodes

node_small : (plan : Plan) (k : ℕ) (n : ExprNode) → node_fits plan k n ≡ true → IsFitNode n
node_small plan k (node.Variable v) h = let less = ltb-true v 16 h in omega (arith, less)
node_small plan k _ h = tt

pub nodes_small : (plan : Plan) (k : ℕ) (ns : List ExprNode) → nodes_fit plan k ns ≡ true → Every IsFitNode ns
nodes_small plan k [] h = tt
nodes_small plan k (n ∷ ns) h =
    let both = and_parts (node_fits plan k n) (nodes_fit plan (suc k) ns) h in
    (node_small plan k n both.0, nodes_small plan (suc k) ns both.1)

-- ---- classes

-- a number at which there is a class of this kind
class_small : (classes : List ClassInfo) (c : ℕ) (k : Kind) (o : Option ClassInfo) → length classes ≤ 256 → slice_get classes c ≡ o → same_option same_kind (option_map class_kind o) (Some k) ≡ true → c < 2 ^ 16
class_small classes c k None few e h = absurd (let z : ⊥ = cc in z)
class_small classes c k (Some x) few e h =
    let there = slice_get_within classes c x e in
    omega (arith, there, few)

-- ---- statements

place_small : (o : Option ℕ) → is_answer_place o ≡ true → IsFitPlace o
place_small None h = tt
place_small (Some v) h = let less = ltb-true v 16 h in omega (arith, less)

argument_small : (plan : Plan) (s : Sort) (a : ArgNode) → length plan.classes ≤ 256 → arg_fits plan s a ≡ true → IsFitArgument a
argument_small plan (sort.Class k) (node_arg.OfClass c) few h = class_small plan.classes c k _ few refl h
argument_small plan sort.Absent (node_arg.OfClass c) few h = absurd (let z : ⊥ = cc in z)
argument_small plan _ (node_arg.OfClass c) few h = absurd (let z : ⊥ = cc in z)
argument_small plan s node_arg.NoArgument few h = tt
argument_small plan s (node_arg.Expression e) few h = tt

variable_small : (v : ℕ) (rest : Bool) → (is_variable v && rest) ≡ true → v < 2 ^ 8
variable_small v rest h =
    let less = ltb-true v 16 (and_parts (is_variable v) rest h).0 in
    omega (arith, less)

act_small : (plan : Plan) (n : ℕ) (a : Act) → length plan.classes ≤ 256 → n < 2 ^ 32 → act_fits plan n a ≡ true → IsFitAct a
act_small plan n (act.Let v e) few long h = variable_small v (is_expr plan e) h
act_small plan n (act.Call k into a b c) few long h =
    let p = arg_fits plan (signature_of k).a a in
    let q = arg_fits plan (signature_of k).b b in
    let r = arg_fits plan (signature_of k).c c in
    let last = and_parts (is_answer_place into && p && q) r h in
    let more = and_parts (is_answer_place into && p) q last.0 in
    let first = and_parts (is_answer_place into) p more.0 in (
      place_small into first.0,
      argument_small plan (signature_of k).a a few first.1,
      argument_small plan (signature_of k).b b few more.1,
      argument_small plan (signature_of k).c c few last.1,
    )
act_small plan n (act.Get v r) few long h = variable_small v (is_register plan r) h
act_small plan n (act.Put r e) few long h = tt
act_small plan n (act.If e otherwise) few long h =
    let near = leb-true otherwise n (and_parts (is_expr plan e) (nat_le otherwise n) h).1 in
    omega (arith, near, long)
act_small plan n (act.Repeat e depth past) few long h =
    let last = and_parts (is_expr plan e && nat_lt depth 16) (nat_le past n) h in
    let near = leb-true past n last.1 in
    let less = ltb-true depth 16 (and_parts (is_expr plan e) (nat_lt depth 16) last.0).1 in
    (omega (arith, less), omega (arith, near, long))
act_small plan n (act.Again depth body) few long h =
    let both = and_parts (nat_lt depth 16) (nat_le body n) h in
    let less = ltb-true depth 16 both.0 in
    let near = leb-true body n both.1 in
    (omega (arith, less), omega (arith, near, long))
act_small plan n _ few long h = tt

statement_small : (plan : Plan) (n : ℕ) (s : Statement) → length plan.classes ≤ 256 → n < 2 ^ 32 → statement_fits plan n s ≡ true → IsFitStatement s
statement_small plan n s few long h =
    let both = and_parts (nat_le s.next n) (act_fits plan n s.act) h in
    let near = leb-true s.next n both.0 in
    record { next = omega (arith, near, long); act' = act_small plan n s.act few long both.1 }

-- ---- what callbacks are declared on

same_level : (i : InterruptInfo) (x : Declared) → IsFitDeclared x → same_declared (declared.Interrupt i) x ≡ true → i.level.0 < 2 ^ 8
same_level i (declared.Interrupt j) fits h =
    let level = and_parts ((i.name == j.name) && same_object_id i.device j.device) (same_irql i.level j.level) h in
    let same = eqb-true i.level.0 j.level.0 level.1 in
    omega (arith, same, fits)
same_level i _ fits h = absurd (let z : ⊥ = cc in z)

-- an interrupt of the plan
interrupt_small : (i : InterruptInfo) (all : List Declared) → Every IsFitDeclared all → list_any (same_declared (declared.Interrupt i)) all ≡ true → i.level.0 < 2 ^ 8
interrupt_small i all each h =
    let found = any_item IsFitDeclared (same_declared (declared.Interrupt i)) all each h in
    same_level i found.item found.has found.passes

owner_small : (plan : Plan) (own : Owner) (d : Declared) → length plan.classes ≤ 256 → Every IsFitDeclared plan.declared → owner_fits plan own d ≡ true → IsFitDeclared d
owner_small plan (owner.Of k) (declared.OfClass c) few each h = class_small plan.classes c k _ few refl h
owner_small plan (owner.Of k) (declared.Interrupt i) few each h =
    interrupt_small i plan.declared each (and_parts _ _ h).1
owner_small plan owner.ClassOrDevice (declared.OfClass c) few each h =
    let less = ltb-true c (length plan.classes) h in
    omega (arith, less, few)
owner_small plan owner.ClassOrDevice (declared.Interrupt i) few each h = absurd (let z : ⊥ = cc in z)
owner_small plan own _ few each h = tt

-- a script of the plan with these few statements
pub script_small : (plan : Plan) (t : Script) → length plan.classes ≤ 256 → Every IsFitDeclared plan.declared → length t.statements < 2 ^ 32 → script_fits plan t ≡ true → IsFitScript t
script_small plan t few each long h =
    let both = and_parts (owner_fits plan (row_of t.callback).owner t.owner) (list_all (statement_fits plan (length t.statements)) t.statements) h in
    record {
      owner = owner_small plan (row_of t.callback).owner t.owner few each both.0;
      statements = every_map (λ s. statement_fits plan (length t.statements) s ≡ true) IsFitStatement (λ s g. statement_small plan (length t.statements) s few long g) t.statements (each_passes (statement_fits plan (length t.statements)) t.statements both.1);
      few = long;
    }

-- ---- agents

-- the apps, and an agent for each device and each target
pub agents_few : (plan : Plan) → app_count plan ≤ 256 → length plan.declared ≤ 4096 → length plan.agents < 65535
agents_few plan apps objects =
    let devices = gathered_few device_name plan.declared in
    let targets = gathered_few target_name plan.declared in
    let both : length (posting_names plan) ≡ length (filter_map device_name plan.declared) + length (filter_map target_name plan.declared) = length-append (filter_map device_name plan.declared) (filter_map target_name plan.declared) in
    omega (arith, apps, objects, devices, targets, both)
