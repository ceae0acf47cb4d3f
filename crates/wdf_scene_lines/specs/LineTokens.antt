-- The tokens of the lines of a scene.
use Rattle.std.specs.Prelude.{ℕ, zero, suc, List, [], ◌∷◌, ◌++◌, map, Option, Some, None, slice_get}
use Rattle.wdf_base.specs.declared.call.CallKind.{CallKind}
use Rattle.wdf_base.specs.Words.{call_word, status_word}
use Rattle.wdf_scene.specs.declared.line.SceneArg.{SceneArg}
use Rattle.wdf_scene.specs.declared.line.SceneArg.TheVariants as arg
use Rattle.wdf_scene.specs.declared.line.SceneExpr.{SceneExpr}
use Rattle.wdf_scene.specs.declared.line.SceneExpr.TheVariants as expr
use Rattle.wdf_scene.specs.declared.line.SceneLine.{SceneLine}
use Rattle.wdf_scene.specs.declared.line.SceneLine.TheVariants as line
use Rattle.wdf_scene.specs.declared.line.StatementHead.TheVariants as head
use Rattle.wdf_scene.specs.Words.{context_word}
use Rattle.wdf_tokens.specs.declared.keyword.Keyword.TheVariants as keyword
use Rattle.wdf_tokens.specs.declared.token.Token.{Token}
use Rattle.wdf_tokens.specs.declared.token.Token.TheVariants as token
use Rattle.wdf_tokens.specs.WordTokens.{word}
use Rattle.wdf_scene_lines.specs.Spelling.{plain_tokens, head_then, into_then}

-- the tokens of a node that is an atom
abbrev pub leaf_tokens : SceneExpr → List Token
leaf_tokens (expr.Number n) = token.Number n ∷ []
leaf_tokens (expr.Named n) = token.Word n ∷ []
leaf_tokens (expr.Literal s) = token.Word (status_word s) ∷ []
leaf_tokens (expr.Context w) = token.Word (context_word w) ∷ []
leaf_tokens (expr.Binary op l r) = []

-- the tokens of a node, by those of its operands
abbrev pub node_tokens : (ℕ → List Token) → SceneExpr → List Token
node_tokens deeper (expr.Binary op l r) = token.Open ∷ (deeper l ++ (token.Infix op ∷ (deeper r ++ token.Close ∷ [])))
node_tokens deeper node = leaf_tokens node

abbrev pub found_tokens : (SceneExpr → List Token) → Option SceneExpr → List Token
found_tokens f None = []
found_tokens f (Some node) = f node

-- the tokens of an expression from its number, where parentheses nest at most so deep
unfoldable pub expr_tokens : ℕ → List SceneExpr → ℕ → List Token
expr_tokens zero exprs e = found_tokens leaf_tokens (slice_get exprs e)
expr_tokens (suc d) exprs e = found_tokens (node_tokens (expr_tokens d exprs)) (slice_get exprs e)

-- the tokens of an argument
abbrev pub arg_tokens : List SceneExpr → SceneArg → List Token
arg_tokens exprs arg.NoArgument = []
arg_tokens exprs (arg.Expression e) = expr_tokens 16 exprs e
arg_tokens exprs (arg.OfClass n) = token.Word n ∷ []

abbrev pub call_tokens : List SceneExpr → CallKind → Option (List ℕ) → SceneArg → SceneArg → SceneArg → List Token
call_tokens exprs kind into a b c =
    word keyword.Call ∷ into_then into (token.Word (call_word kind) ∷ (arg_tokens exprs a ++ (arg_tokens exprs b ++ arg_tokens exprs c)))

-- the tokens of a line with these nodes and picks
abbrev pub line_tokens : List SceneExpr → SceneLine → List ℕ → List Token
line_tokens exprs line.Picks ns = word keyword.Picks ∷ map (λ n. token.Number n) ns
line_tokens exprs (line.Let x e) ns = head_then (head.Let x) (expr_tokens 16 exprs e)
line_tokens exprs (line.Put r e) ns = head_then (head.Put r) (expr_tokens 16 exprs e)
line_tokens exprs (line.If e) ns = head_then head.If (expr_tokens 16 exprs e)
line_tokens exprs (line.Repeat e) ns = head_then head.Repeat (expr_tokens 16 exprs e)
line_tokens exprs (line.Spend e) ns = head_then head.Spend (expr_tokens 16 exprs e)
line_tokens exprs (line.Log e) ns = head_then head.Log (expr_tokens 16 exprs e)
line_tokens exprs (line.Return e) ns = head_then head.Return (expr_tokens 16 exprs e)
line_tokens exprs (line.Call kind into a b c) ns = call_tokens exprs kind into a b c
line_tokens exprs form ns = plain_tokens form
