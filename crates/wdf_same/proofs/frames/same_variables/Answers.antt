use Rattle.std.proofs.Common.{◌≡◌, rules}
use Rattle.std.specs.Cmp.Lexicographic.{pointwise}
use Rattle.std.proofs.lemmas.Slice.Eq.{slice_eq-Decides}
use Rattle.wdf_base.specs.Same.{same_value}
use Rattle.wdf_same.proofs.Decides.{value_decides}
use Rattle.wdf_same.proofs.frames.same_variables.Goals as goal

pub returns-clause-exact : goal.returns-clause-exact
returns-clause-exact c =
    let test : c.eq.result ≡ pointwise same_value c.args.a.now c.args.b.now = search rules in
    slice_eq-Decides value_decides c.args.a.now c.args.b.now c.eq.result test
