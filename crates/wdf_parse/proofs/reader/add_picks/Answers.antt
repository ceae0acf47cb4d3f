use Rattle.std.proofs.Common.{◌++◌, ◌∷◌, [], ap, ◌∙◌, sym, map, take}
use Rattle.wdf_scene.specs.declared.line.SceneLine.TheVariants as line
use Rattle.wdf_scene.specs.Scene.{with_pick}
use Rattle.wdf_scene_lines.specs.Reading.{number_in}
use Rattle.wdf_parse.specs.Picking.{with_line}
use Rattle.wdf_parse.proofs.Picking.{with_pick_more, picks_next}
use Rattle.wdf_parse.proofs.reader.add_picks.Goals as goal

-- one more number is picked
pub loop-token-preserved : goal.loop-token-preserved
loop-token-preserved c =
    let ns = map number_in (take c.loop-token.token-index c.args.tokens.now) in
    c.in_ok-pick.ensures
    ∙ ap (λ s. with_pick s c.number_in.result) c.loop-token.invariant
    ∙ with_pick_more c.args.builder.now c.args.number c.number_in.result line.Picks ns
    ∙ ap (λ n. with_line c.args.builder.now c.args.number line.Picks (ns ++ n ∷ [])) c.number_in.ensures
    ∙ ap (with_line c.args.builder.now c.args.number line.Picks) (sym (picks_next c.args.tokens.now c.loop-token.token-index c.token-item.result c.loop-token-test.true c.token-item.is))
