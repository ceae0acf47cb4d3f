-- The plan of a scene whose numbers fit has numbers that fit.
use Rattle.std.proofs.Common.{◌≡◌, ℕ, zero, suc, ◌+◌, ◌-◌, ◌<◌, ◌≤◌, ◌^◌, Bool, true, false, cond, List, [], ◌∷◌, ◌++◌, length, map, take, drop, Option, Some, None, option_map, slice_get, refl, arith, nat_lt}
use Rattle.std.specs.List.{cons_option, filter_map, flat_map}
use Rattle.wdf_base.specs.Plan.{agent_posts, posts_of}
use Rattle.wdf_base.specs.declared.declared.Declared.{Declared}
use Rattle.wdf_base.specs.declared.declared.PostLine.{PostLine}
use Rattle.wdf_base.specs.declared.declared.RegisterInfo.{RegisterInfo}
use Rattle.wdf_base.specs.declared.declared.WhenLine.{WhenLine}
use Rattle.wdf_base.specs.declared.event.Post.TheVariants as post
use Rattle.wdf_base.specs.declared.script.Act.{Act}
use Rattle.wdf_base.specs.declared.script.AgentInfo.{AgentInfo}
use Rattle.wdf_base.specs.declared.script.ExprNode.{ExprNode}
use Rattle.wdf_base.specs.declared.script.ExprNode.TheVariants as node
use Rattle.wdf_base.specs.declared.script.Script.{Script}
use Rattle.wdf_base.specs.declared.script.Statement.{Statement}
use Rattle.wdf_scene.specs.declared.line.NumberedLine.{NumberedLine}
use Rattle.wdf_scene.specs.declared.line.SceneAction.{SceneAction}
use Rattle.wdf_scene.specs.declared.line.SceneAction.TheVariants as scene_action
use Rattle.wdf_scene.specs.declared.line.SceneExpr.{SceneExpr}
use Rattle.wdf_scene.specs.declared.line.SceneExpr.TheVariants as expr
use Rattle.wdf_scene.specs.declared.line.SceneLine.{SceneLine}
use Rattle.wdf_scene.specs.declared.line.SceneLine.TheVariants as line
use Rattle.wdf_scene.specs.declared.scene.Scene.{Scene}
use Rattle.wdf_parse.specs.StandsFor.{StandsFor}
use Rattle.wdf_plan.specs.declared.course.Nest.{Nest}
use Rattle.wdf_plan.specs.declared.course.Nest.TheVariants as nest
use Rattle.wdf_blocks.specs.declared.declaration.Declaration.{Declaration}
use Rattle.wdf_blocks.specs.declared.placed.Counts.{Counts}
use Rattle.wdf_blocks.specs.declared.placed.Placed.{Placed}
use Rattle.wdf_blocks.specs.declared.placed.Stand.{Stand}
use Rattle.wdf_blocks.specs.Declarations.{declarations}
use Rattle.wdf_blocks.specs.Forms.{is_end, nodes_end}
use Rattle.wdf_refusals.specs.Numbers.{action_of}
use Rattle.wdf_plan.specs.Parts.{app_agent, app_post, app_post_in, device_agent, device_post, device_post_in, pnp_post, register_on, stands_in, target_agent, when_on}
use Rattle.wdf_blocks.specs.Placed.{counted, nothing, opened_by, outside, placed, placed_from}
use Rattle.wdf_plan.specs.Plans.{all_agents, plan_of, plan_with}
use Rattle.wdf_refusals.specs.Rows.{nodes_of}
use Rattle.wdf_plan.specs.Scripts.{act_on, nests_after, ends_callback, loop_line, named_node, nest_at, node_of, nodes_on, number_after, owner_of, script_on, statement_at, statement_on, statements_from, statements_of, told_line}
use Rattle.wdf_blocks.specs.Variables.{variable_number, variables, variables_at}
use Rattle.wdf_refusals.proofs.Every.{Every, every_append, every_at, every_kept, some_has}
use Rattle.law_lines.specs.PostNumbers.{ActionNumbersFit, PostNumbersFit}
use Rattle.law_lines.specs.Fitting.{HasFittingLines, HasFittingNumbers}
use Rattle.law_replay.proofs.Scenes.{ExprFits, FormFits, LineFits, SceneActionFits, SceneFits, scene_fits}

-- ---- lists

every_taken : {T : Type 0} (P : T → Type 0) (n : ℕ) (xs : List T) → Every P xs → Every P (take n xs)
every_taken P zero xs h = tt
every_taken P (suc n) [] h = tt
every_taken P (suc n) (x ∷ xs) h = (h.0, every_taken P n xs h.1)

every_dropped : {T : Type 0} (P : T → Type 0) (n : ℕ) (xs : List T) → Every P xs → Every P (drop n xs)
every_dropped P zero xs h = h
every_dropped P (suc n) [] h = tt
every_dropped P (suc n) (x ∷ xs) h = every_dropped P n xs h.1

every_mapped : {T U : Type 0} (P : T → Type 0) (Q : U → Type 0) (f : T → U) → ((x : T) → P x → Q (f x)) → (xs : List T) → Every P xs → Every Q (map f xs)
every_mapped P Q f each [] h = tt
every_mapped P Q f each (x ∷ xs) h = (each x h.0, every_mapped P Q f each xs h.1)

every_flat : {T U : Type 0} (Q : U → Type 0) (f : T → List U) → ((x : T) → Every Q (f x)) → (xs : List T) → Every Q (flat_map f xs)
every_flat Q f each [] = tt
every_flat Q f each (x ∷ xs) = every_append Q (f x) (flat_map f xs) (each x) (every_flat Q f each xs)

-- ---- the lines of a scene where they are

abbrev PlacedFits : ℕ → Placed → Type 0
PlacedFits most p = FormFits p.form × (p.number ≤ most)

placed_lines : (most k : ℕ) (o : Stand) (c : Counts) (ls : List NumberedLine) → Every (LineFits most) ls → Every (PlacedFits most) (placed_from k o c ls)
unfolding placed_from
placed_lines most k o c [] h = tt
placed_lines most k o c (l ∷ ls) h = (h.0, placed_lines most (suc k) (opened_by o k l.form) (counted c l.form (length l.picks)) ls h.1)

placed_fit : (most : ℕ) (scene : Scene) → Every (LineFits most) scene.lines → Every (PlacedFits most) (placed scene)
unfolding placed
placed_fit most scene h = placed_lines most 0 outside nothing scene.lines h

-- ---- registers, and what devices do

register_fits : (names : List Declaration) (p : Placed) (form : SceneLine) (r : RegisterInfo) → FormFits form → register_on names p form ≡ Some r → r.value < 2 ^ 64
unfolding register_on
register_fits names p (line.Register n v) r h e = some_has (λ (i : RegisterInfo). i.value < 2 ^ 64) _ r e h
register_fits names p _ r h e = absurd (let z : ⊥ = cc in z)

action_fits : (names : List Declaration) (device : Option ℕ) (a : SceneAction) → SceneActionFits a → ActionNumbersFit (action_of names device a)
unfolding action_of
action_fits names device (scene_action.Set r v) h = h
action_fits names device (scene_action.Raise i) h = tt
action_fits names device (scene_action.Lower i) h = tt

when_fits : (names : List Declaration) (number : ℕ) (device : Option ℕ) (form : SceneLine) (w : WhenLine) → FormFits form → when_on names number device form ≡ Some w → ActionNumbersFit w.action
unfolding when_on
when_fits names number device (line.When access r a after) w h e = some_has (λ (x : WhenLine). ActionNumbersFit x.action) _ w e (action_fits names device a h)
when_fits names number device _ w h e = absurd (let z : ⊥ = cc in z)

-- ---- posts

abbrev PostLineFits : PostLine → Type 0
PostLineFits l = PostNumbersFit l.post

ask_fits : (names : List Declaration) (number : ℕ) (form : SceneLine) (l : PostLine) → pnp_post names number form ≡ Some l → PostLineFits l
unfolding pnp_post
ask_fits names number (line.AtAsk tick ask d) l e = some_has PostLineFits _ l e tt
ask_fits names number _ l e = absurd (let z : ⊥ = cc in z)

app_fits : (names : List Declaration) (number : ℕ) (form : SceneLine) (l : PostLine) → FormFits form → app_post names number form ≡ Some l → PostLineFits l
unfolding app_post
app_fits names number (line.AtRead tick d n) l h e = some_has PostLineFits _ l e h
app_fits names number (line.AtWrite tick d n) l h e = some_has PostLineFits _ l e h
app_fits names number (line.AtControl tick d code n) l h e = some_has PostLineFits _ l e h
app_fits names number (line.AtCancel tick k) l h e = some_has PostLineFits _ l e h
app_fits names number _ l h e = absurd (let z : ⊥ = cc in z)

device_fits : (names : List Declaration) (number : ℕ) (device : Option ℕ) (form : SceneLine) (l : PostLine) → FormFits form → device_post names number device form ≡ Some l → PostLineFits l
unfolding device_post
device_fits names number device (line.At tick a) l h e = some_has PostLineFits _ l e (action_fits names device a h)
device_fits names number device _ l h e = absurd (let z : ⊥ = cc in z)

-- of a post of the block
in_block : (b : Bool) (o : Option PostLine) (l : PostLine) → (o ≡ Some l → PostLineFits l) → cond b o None ≡ Some l → PostLineFits l
in_block true o l h e = h e
in_block false o l h e = absurd (let z : ⊥ = cc in z)

abbrev AgentFits : AgentInfo → Type 0
AgentFits a = Every PostLineFits a.posts

module _ (most : ℕ) (scene : Scene) (names : List Declaration) (fit : Every (PlacedFits most) (placed scene)) where
  app_posts : (b : ℕ) → Every PostLineFits (filter_map (app_post_in names b) (placed scene))
  app_posts b =
      every_kept (app_post_in names b) (PlacedFits most) PostLineFits
      (λ p l h e. in_block (stands_in b p) (app_post names p.number p.form) l (λ x. app_fits names p.number p.form l h.0 x) e) (placed scene) fit

  device_posts : (b : ℕ) → Every PostLineFits (filter_map (device_post_in names b) (placed scene))
  device_posts b =
      every_kept (device_post_in names b) (PlacedFits most) PostLineFits
      (λ p l h e. in_block (stands_in b p) (device_post names p.number p.stand.device p.form) l (λ x. device_fits names p.number p.stand.device p.form l h.0 x) e) (placed scene) fit

  app_agent_fits : (p : Placed) (form : SceneLine) (a : AgentInfo) → app_agent scene names p form ≡ Some a → AgentFits a
  unfolding app_agent
  app_agent_fits p (line.App n) a e = some_has AgentFits _ a e (app_posts p.at)
  app_agent_fits p _ a e = absurd (let z : ⊥ = cc in z)

  device_agent_fits : (p : Placed) (form : SceneLine) (a : AgentInfo) → device_agent scene names p form ≡ Some a → AgentFits a
  unfolding device_agent
  device_agent_fits p (line.Device n working) a e = some_has AgentFits _ a e (device_posts p.at)
  device_agent_fits p _ a e = absurd (let z : ⊥ = cc in z)

  target_agent_fits : (form : SceneLine) (a : AgentInfo) → target_agent names form ≡ Some a → AgentFits a
  unfolding target_agent
  target_agent_fits (line.Target n delay status depth) a e = some_has AgentFits _ a e tt
  target_agent_fits _ a e = absurd (let z : ⊥ = cc in z)

  agents_fit : Every AgentFits (all_agents scene names)
  unfolding all_agents
  agents_fit =
      every_append AgentFits (filter_map (λ p. app_agent scene names p p.form) (placed scene) ++ filter_map (λ p. device_agent scene names p p.form) (placed scene)) (filter_map (λ p. target_agent names p.form) (placed scene))
      (every_append AgentFits (filter_map (λ p. app_agent scene names p p.form) (placed scene)) (filter_map (λ p. device_agent scene names p p.form) (placed scene))
      (every_kept (λ p. app_agent scene names p p.form) (PlacedFits most) AgentFits (λ p a h e. app_agent_fits p p.form a e) (placed scene) fit)
      (every_kept (λ p. device_agent scene names p p.form) (PlacedFits most) AgentFits (λ p a h e. device_agent_fits p p.form a e) (placed scene) fit))
      (every_kept (λ p. target_agent names p.form) (PlacedFits most) AgentFits (λ p a h e. target_agent_fits p.form a e) (placed scene) fit)

-- the posts of an agent that is there
posts_there : (as' : List AgentInfo) (k : ℕ) (o : Option AgentInfo) → Every AgentFits as' → slice_get as' k ≡ o → Every PostLineFits (agent_posts o)
posts_there as' k None each at = tt
posts_there as' k (Some a) each at = every_at AgentFits as' each k a at

-- ---- expressions

abbrev NodeFits : ExprNode → Type 0
NodeFits (node.Number n) = n < 2 ^ 64
NodeFits _ = Unit {0}

named_fits : (names : List Declaration) (n : List ℕ) (o : Option ℕ) → NodeFits (named_node names n o)
named_fits names n None = tt
named_fits names n (Some v) = tt

node_fits : (names : List Declaration) (vs : List (List ℕ)) (e : SceneExpr) → ExprFits e → NodeFits (node_of names vs e)
unfolding node_of
node_fits names vs (expr.Number n) h = h
node_fits names vs (expr.Named n) h = named_fits names n (variable_number vs n)
node_fits names vs _ h = tt

own_nodes : (scene : Scene) (p : Placed) → Every ExprFits scene.exprs → Every ExprFits (nodes_of scene p)
unfolding nodes_of
own_nodes scene p h = every_taken ExprFits (nodes_end p.counts.nodes p.form - p.counts.nodes) (drop p.counts.nodes scene.exprs) (every_dropped ExprFits p.counts.nodes scene.exprs h)

nodes_fit : (scene : Scene) (names : List Declaration) (p : Placed) → Every ExprFits scene.exprs → Every NodeFits (nodes_on scene names p)
unfolding nodes_on
nodes_fit scene names p h = every_mapped ExprFits NodeFits (node_of names (variables_at scene p)) (node_fits names (variables_at scene p)) (nodes_of scene p) (own_nodes scene p h)

-- ---- the lines of statements

abbrev NestFits : ℕ → Nest → Type 0
NestFits most nest.Branch = Unit {0}
NestFits most (nest.Loop own n) = own ≤ most

blocks_fit : (most : ℕ) (blocks : List Nest) (n number : ℕ) (form : SceneLine) → number ≤ most → Every (NestFits most) blocks → Every (NestFits most) (nests_after blocks n number form)
unfolding nests_after
blocks_fit most blocks n number (line.If e) h each = every_append (NestFits most) blocks (nest.Branch ∷ []) each (tt, tt)
blocks_fit most blocks n number (line.Repeat e) h each = every_append (NestFits most) blocks (nest.Loop number n ∷ []) each (h, tt)
blocks_fit most blocks n number line.End h each = every_taken (NestFits most) (length blocks - 1) blocks each
blocks_fit most blocks n number _ h each = each

loop_small : (most number : ℕ) (o : Option Nest) → number ≤ most → ((x : Nest) → o ≡ Some x → NestFits most x) → loop_line number o ≤ most
loop_small most number None h each = h
loop_small most number (Some nest.Branch) h each = h
loop_small most number (Some (nest.Loop own n)) h each = each (nest.Loop own n) refl

there_fits : (most : ℕ) (blocks : List Nest) (b : Bool) (k : ℕ) (x : Nest) → Every (NestFits most) blocks → cond b (slice_get blocks k) None ≡ Some x → NestFits most x
there_fits most blocks true k x each e = every_at (NestFits most) blocks each k x e
there_fits most blocks false k x each e = absurd (let z : ⊥ = cc in z)

either_small : (most : ℕ) (b : Bool) (x y : ℕ) → x ≤ most → y ≤ most → cond b x y ≤ most
either_small most true x y h k = h
either_small most false x y h k = k

told_small : (most : ℕ) (blocks : List Nest) (number : ℕ) (form : SceneLine) → number ≤ most → Every (NestFits most) blocks → told_line blocks number form ≤ most
unfolding told_line
told_small most blocks number form h each =
    either_small most (is_end form) (loop_line number (nest_at blocks 0)) number
    (loop_small most number (nest_at blocks 0) h (λ x e. there_fits most blocks (nat_lt 0 (length blocks)) (length blocks - suc 0) x each e)) h

abbrev StatementFits : ℕ → Statement → Type 0
StatementFits most s = s.line ≤ most

abbrev FitsIfAny : ℕ → Option Statement → Type 0
FitsIfAny most None = Unit {0}
FitsIfAny most (Some s) = StatementFits most s

made_fits : (most number next : ℕ) (o : Option Act) → number ≤ most → FitsIfAny most (option_map (λ (a : Act). record { line = number; next = next; act = a }) o)
made_fits most number next None h = tt
made_fits most number next (Some a) h = h

statement_fits : (most : ℕ) (names : List Declaration) (vs : List (List ℕ)) (blocks behind : List Nest) (n : ℕ) (l : NumberedLine) (rest : List NumberedLine) → l.number ≤ most → Every (NestFits most) blocks
    → FitsIfAny most (statement_on names vs blocks behind n l rest)
unfolding statement_on
statement_fits most names vs blocks behind n l rest h each = made_fits most (told_line blocks l.number l.form) _ (act_on names vs blocks behind n l.form rest) (told_small most blocks l.number l.form h each)

with_one : (most : ℕ) (o : Option Statement) (ss : List Statement) → FitsIfAny most o → Every (StatementFits most) ss → Every (StatementFits most) (cons_option o ss)
with_one most None ss h each = each
with_one most (Some s) ss h each = (h, each)

either_statements : (most : ℕ) (b : Bool) (ss : List Statement) → Every (StatementFits most) ss → Every (StatementFits most) (cond b [] ss)
either_statements most true ss h = tt
either_statements most false ss h = h

statements_fit : (most : ℕ) (names : List Declaration) (vs : List (List ℕ)) (blocks : List Nest) (n : ℕ) (ls : List NumberedLine) → Every (LineFits most) ls → Every (NestFits most) blocks
    → Every (StatementFits most) (statements_from names vs blocks n ls)
unfolding statements_from
statements_fit most names vs blocks n [] h each = tt
statements_fit most names vs blocks n (l ∷ ls) h each =
    either_statements most (ends_callback blocks l.form) _
    (with_one most (statement_at names vs blocks n l ls) _ (statement_fits most names vs blocks (nests_after blocks n l.number l.form) n l ls h.0.1 each)
    (statements_fit most names vs (nests_after blocks n l.number l.form) (number_after n (statement_at names vs blocks n l ls)) ls h.1 (blocks_fit most blocks n l.number l.form h.0.1 each)))

all_statements : (most : ℕ) (scene : Scene) (names : List Declaration) (k : ℕ) → Every (LineFits most) scene.lines → Every (StatementFits most) (statements_of scene names k)
unfolding statements_of
all_statements most scene names k h = statements_fit most names (variables scene k) [] 0 (drop (suc k) scene.lines) (every_dropped (LineFits most) (suc k) scene.lines h) tt

-- the line of a callback and those of its statements
abbrev ScriptFits : ℕ → Script → Type 0
ScriptFits most s = (s.line ≤ most) × Every (StatementFits most) s.statements

script_made : (most : ℕ) (s : Script) (f : Declared → Script) (o : Option Declared) → ((d : Declared) → ScriptFits most (f d)) → option_map f o ≡ Some s → ScriptFits most s
script_made most s f None h e = absurd (let z : ⊥ = cc in z)
script_made most s f (Some d) h e = some_has (ScriptFits most) (f d) s e (h d)

script_fits : (most : ℕ) (scene : Scene) (names : List Declaration) (p : Placed) (form : SceneLine) (s : Script) → Every (LineFits most) scene.lines → p.number ≤ most → script_on scene names p form ≡ Some s → ScriptFits most s
unfolding script_on
script_fits most scene names p (line.On c) s h small e = script_made most s _ (owner_of scene names p p.stand.block) (λ d. (small, all_statements most scene names p.at h)) e
script_fits most scene names p _ s h small e = absurd (let z : ⊥ = cc in z)

-- ---- the plan

module _ (most : ℕ) (scene : Scene) (few : most < 2 ^ 32) (fit : SceneFits most scene) where
  abbrev own_names : List Declaration
  own_names = declarations scene

  each : Every (PlacedFits most) (placed scene)
  each = placed_fit most scene fit.lines

  lines_small : (s : Script) → ScriptFits most s → HasFittingLines s
  lines_small s h = record {
    start = let small = h.0 in omega (arith, small, few);
    statements = λ k x at. let small : x.line ≤ most = every_at (StatementFits most) s.statements h.1 k x at in omega (arith, small, few);
  }

  posts_fit : (k : ℕ) → Every PostLineFits (posts_of (plan_of scene) k)
  unfolding plan_of plan_with
  posts_fit zero = every_kept (λ p. pnp_post own_names p.number p.form) (PlacedFits most) PostLineFits (λ p l h e. ask_fits own_names p.number p.form l e) (placed scene) each
  posts_fit (suc k) = posts_there (all_agents scene own_names) k (slice_get (all_agents scene own_names) k) (agents_fit most scene own_names each) refl

  plan_numbers : HasFittingNumbers (plan_of scene)
  unfolding plan_of plan_with
  plan_numbers = record {
    literals = λ k n at. every_at NodeFits (flat_map (nodes_on scene own_names) (placed scene)) (every_flat NodeFits (nodes_on scene own_names) (λ p. nodes_fit scene own_names p fit.exprs) (placed scene)) k (node.Number n) at;
    lines = λ k s at. lines_small s (every_at (ScriptFits most) (filter_map (λ p. script_on scene own_names p p.form) (placed scene))
        (every_kept (λ p. script_on scene own_names p p.form) (PlacedFits most) (ScriptFits most) (λ p x h e. script_fits most scene own_names p p.form x fit.lines h.1 e) (placed scene) each) k s at);
    registers = λ k r at. every_at (λ (x : RegisterInfo). x.value < 2 ^ 64) (filter_map (λ p. register_on own_names p p.form) (placed scene))
        (every_kept (λ p. register_on own_names p p.form) (PlacedFits most) (λ (x : RegisterInfo). x.value < 2 ^ 64) (λ p x h e. register_fits own_names p p.form x h.0 e) (placed scene) each) k r at;
    whens = λ k w at. every_at (λ (x : WhenLine). ActionNumbersFit x.action) (filter_map (λ p. when_on own_names p.number p.stand.device p.form) (placed scene))
        (every_kept (λ p. when_on own_names p.number p.stand.device p.form) (PlacedFits most) (λ (x : WhenLine). ActionNumbersFit x.action) (λ p x h e. when_fits own_names p.number p.stand.device p.form x h.0 e) (placed scene) each) k w at;
    posts = λ a k l at. every_at PostLineFits (posts_of (plan_of scene) a) (posts_fit a) k l at;
  }

pub plan_fits : (text : List ℕ) (scene : Scene) → length text ≤ 1048576 → StandsFor text scene → HasFittingNumbers (plan_of scene)
plan_fits text scene short stands = plan_numbers (length text) scene (omega (arith, short)) (scene_fits text scene stands)
