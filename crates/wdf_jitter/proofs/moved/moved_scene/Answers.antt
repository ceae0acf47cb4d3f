-- The moved scene is one, and its names are the scene's.
use Rattle.std.proofs.Common.{◌≡◌, subst}
use Rattle.wdf_scene.specs.Naming.{HasProperNames}
use Rattle.wdf_scene.specs.Written.{IsScene}
use Rattle.wdf_jitter.specs.Moved.{moved_scene}
use Rattle.wdf_jitter.proofs.Texts.{moved_has_text, moved_has_names}
use Rattle.wdf_jitter.proofs.moved.moved_scene.Goals as goal

pub returns-clause-scene : goal.returns-clause-scene
returns-clause-scene c is =
    let lines = c.in_ok-lines.ensures in
    let exprs = c.in_ok-exprs.ensures in
    let whole : moved_scene c.args.most c.args.words.now c.args.scene.now ≡ record { version = c.args.scene.now.version; lines = c.in_ok-lines.lines; exprs = c.in_ok-exprs.exprs } = cc in
    subst IsScene whole (moved_has_text c.args.most c.args.words.now c.args.scene.now is)

pub returns-clause-names : goal.returns-clause-names
returns-clause-names c names =
    let lines = c.in_ok-lines.ensures in
    let exprs = c.in_ok-exprs.ensures in
    let whole : moved_scene c.args.most c.args.words.now c.args.scene.now ≡ record { version = c.args.scene.now.version; lines = c.in_ok-lines.lines; exprs = c.in_ok-exprs.exprs } = cc in
    subst HasProperNames whole (moved_has_names c.args.most c.args.words.now c.args.scene.now names)
