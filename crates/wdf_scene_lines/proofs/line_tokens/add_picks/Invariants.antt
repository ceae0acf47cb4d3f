use Rattle.std.proofs.Common.{◌≡◌, ◌++◌, ◌∷◌, take, map}
use Rattle.wdf_tokens.specs.declared.keyword.Keyword.TheVariants as keyword
use Rattle.wdf_tokens.specs.declared.token.Token.TheVariants as token
use Rattle.wdf_tokens.specs.WordTokens.{word}
use Rattle.wdf_scene_lines.proofs.line_tokens.add_picks.Given as goal

abbrev pub invariant-loop-pick : goal.invariant-loop-pick
invariant-loop-pick l = l.tokens.items ≡ l.fn.tokens.items ++ word keyword.Picks ∷ map (λ n. token.Number n) (take l.pick-index l.picks)
