use Rattle.wdf_parse.proofs.ReadBack.{canonical_if}
use Rattle.wdf_parse.proofs.printing.print.Goals as goal

-- what is printed of a scene that stands for a text is its canonical text
pub returns-clause-canonical : goal.returns-clause-canonical
returns-clause-canonical c = λ source stands. canonical_if source c.args.scene.now stands c.print_scene.result c.print_scene.ensures
