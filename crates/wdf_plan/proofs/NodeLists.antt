-- The nodes of expressions are listed line by line.
use Rattle.std.proofs.Common.{◌≡◌, ℕ, List, [], ◌∷◌, ◌++◌, ◌-◌, Option, None, Result, Ok, Err, OnOk, map, take, drop, refl, ◌∙◌}
use Rattle.std.specs.List.{flat_map}
use Rattle.wdf_base.specs.declared.script.ExprNode.{ExprNode}
use Rattle.wdf_scene.specs.declared.scene.Scene.{Scene}
use Rattle.wdf_blocks.specs.declared.declaration.Declaration.{Declaration}
use Rattle.wdf_blocks.specs.declared.placed.Placed.{Placed}
use Rattle.wdf_blocks.specs.Placed.{placed}
use Rattle.wdf_scene.specs.declared.line.SceneExpr.{SceneExpr}
use Rattle.wdf_blocks.specs.Forms.{nodes_end}
use Rattle.wdf_refusals.specs.Rows.{nodes_of}
use Rattle.wdf_plan.specs.Scripts.{node_of, nodes_on}
use Rattle.wdf_blocks.specs.Variables.{variables_at, variables_in}
use Rattle.wdf_plan.specs.Fitting.{IsFitNode}
use Rattle.wdf_refusals.specs.Numbered.{Every}
use Rattle.wdf_plan.proofs.Rooms.{every_split}

-- the nodes of the lines before these are listed, and the variables are this callback's
pub record IsListed (scene : Scene) (names : List Declaration) (rest : List Placed) (callback : Option ℕ) (variables : List (List ℕ)) (nodes : List ExprNode) : Type 0 where
  pub all : nodes ++ flat_map (nodes_on scene names) rest ≡ flat_map (nodes_on scene names) (placed scene)
  pub own : variables ≡ variables_in scene callback

-- the list begins
pub listing_begins : (scene : Scene) (names : List Declaration) (rest : List Placed) (variables : List (List ℕ)) (nodes : List ExprNode) → rest ≡ placed scene → variables ≡ [] → nodes ≡ [] → IsListed scene names rest None variables nodes
unfolding variables_in
listing_begins scene names rest variables nodes whole none' empty =
    record { all = rw (empty, whole) refl; own = none' }

-- at each line the variables are its callback's
pub listing_own : (scene : Scene) (p : Placed) (variables : List (List ℕ)) → variables ≡ variables_in scene p.stand.callback → variables ≡ variables_at scene p
unfolding variables_at
listing_own scene p variables own = own

-- the nodes of one line
pub line_nodes : (scene : Scene) (names : List Declaration) (variables : List (List ℕ)) (p : Placed) (all part : List SceneExpr) (end' : ℕ) → variables ≡ variables_at scene p → all ≡ scene.exprs → end' ≡ nodes_end p.counts.nodes p.form → part ≡ take (end' - p.counts.nodes) (drop p.counts.nodes all) → map (node_of names variables) part ≡ nodes_on scene names p
unfolding nodes_on nodes_of
line_nodes scene names variables p all part end' own same ends is = rw (is, ends, same, own) refl

-- they fit where all nodes do
pub listing_fits : (scene : Scene) (names : List Declaration) (rest rest' : List Placed) (callback : Option ℕ) (variables : List (List ℕ)) (nodes : List ExprNode) (p : Placed) → IsListed scene names rest callback variables nodes → rest ≡ p ∷ rest' → Every IsFitNode (flat_map (nodes_on scene names) (placed scene)) → Every IsFitNode (nodes_on scene names p)
listing_fits scene names rest rest' callback variables nodes p h next each =
    let all : nodes ++ (nodes_on scene names p ++ flat_map (nodes_on scene names) rest') ≡ flat_map (nodes_on scene names) (placed scene) = rw next at h.all in
    (every_split IsFitNode (nodes_on scene names p) (flat_map (nodes_on scene names) rest') (every_split IsFitNode nodes (nodes_on scene names p ++ flat_map (nodes_on scene names) rest') (rw all each)).1).0

-- the nodes of one line more
pub listing_line : {T E : Type 0} (scene : Scene) (names : List Declaration) (variables : List (List ℕ)) (p : Placed) (all part : List SceneExpr) (nodes nodes' : List ExprNode) (end' : ℕ) (r : Result T E) → variables ≡ variables_at scene p → all ≡ scene.exprs → end' ≡ nodes_end p.counts.nodes p.form → part ≡ take (end' - p.counts.nodes) (drop p.counts.nodes all) → OnOk r (nodes' ≡ nodes ++ map (node_of names variables) part) → OnOk r (nodes' ≡ nodes ++ nodes_on scene names p)
unfolding nodes_on nodes_of
listing_line scene names variables p all part nodes nodes' end' (Ok x) own same ends is e =
    e ∙ rw (is, ends, same, own) refl
listing_line scene names variables p all part nodes nodes' end' (Err x) own same ends is e = tt
