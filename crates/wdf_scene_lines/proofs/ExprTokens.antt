-- The tokens of a node.
use Rattle.std.proofs.Common.{◌≡◌, ℕ, zero, suc, ◌-◌, ◌<◌, ◌≤◌, List, [], ◌∷◌, ◌++◌, length, slice_get, Option, Some, None, ap, ◌∙◌, sym, arith, append-nil, append_assoc}
use Rattle.std.proofs.lemmas.Option.{slice_get_past}
use Rattle.wdf_base.specs.declared.call.CallKind.{CallKind}
use Rattle.wdf_scene.specs.declared.line.SceneArg.{SceneArg}
use Rattle.wdf_scene.specs.declared.line.SceneExpr.{SceneExpr}
use Rattle.wdf_tokens.specs.declared.token.Token.{Token}
use Rattle.wdf_tokens.specs.declared.token.Token.TheVariants as token
use Rattle.wdf_tokens.specs.declared.keyword.Keyword.TheVariants as keyword
use Rattle.wdf_base.specs.Words.{call_word}
use Rattle.wdf_tokens.specs.WordTokens.{word}
use Rattle.wdf_scene_lines.specs.Spelling.{into_then}
use Rattle.wdf_scene_lines.specs.LineTokens.{leaf_tokens, node_tokens, found_tokens, expr_tokens, arg_tokens, call_tokens}

pub expr_past : (d : ℕ) (exprs : List SceneExpr) (e : ℕ) (done : List Token) → length exprs ≤ e → done ≡ done ++ expr_tokens d exprs e
unfolding expr_tokens
expr_past zero exprs e done h = sym (ap (λ (ts : List Token). done ++ ts) (ap (found_tokens leaf_tokens) (slice_get_past exprs e h)) ∙ append-nil done)
expr_past (suc d) exprs e done h = sym (ap (λ (ts : List Token). done ++ ts) (ap (found_tokens (node_tokens (expr_tokens d exprs))) (slice_get_past exprs e h)) ∙ append-nil done)

pub expr_flat : (d : ℕ) (exprs : List SceneExpr) (e : ℕ) (node : SceneExpr) → d ≡ 0 → slice_get exprs e ≡ Some node → expr_tokens d exprs e ≡ leaf_tokens node
unfolding expr_tokens
expr_flat zero exprs e node h is = ap (found_tokens leaf_tokens) is
expr_flat (suc d) exprs e node h is = absurd (omega arith)

pub expr_deep : (d : ℕ) (exprs : List SceneExpr) (e : ℕ) (node : SceneExpr) → 0 < d → slice_get exprs e ≡ Some node → expr_tokens d exprs e ≡ node_tokens (expr_tokens (d - 1) exprs) node
unfolding expr_tokens
expr_deep zero exprs e node h is = absurd (omega arith)
expr_deep (suc d) exprs e node h is =
    let less : suc d - 1 ≡ d = omega arith in
    ap (found_tokens (node_tokens (expr_tokens d exprs))) is ∙ ap (λ n. node_tokens (expr_tokens n exprs) node) (sym less)

-- a call is added piece by piece
pub call_added : (exprs : List SceneExpr) (kind : CallKind) (into : Option (List ℕ)) (a b c : SceneArg) (done : List Token)
    → (((done ++ word keyword.Call ∷ into_then into (token.Word (call_word kind) ∷ [])) ++ arg_tokens exprs a) ++ arg_tokens exprs b) ++ arg_tokens exprs c ≡ done ++ call_tokens exprs kind into a b c
call_added exprs kind None a b c done = simp append_assoc
call_added exprs kind (Some x) a b c done = simp append_assoc
