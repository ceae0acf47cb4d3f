-- Some object is leaving where one of the sets isn't empty.
use Rattle.std.proofs.Common.{◌≡◌, true, false, refl, ◌∙◌}
use Rattle.std.specs.Prelude.{nat_lt}
use Rattle.std.proofs.lemmas.Bool.{lt-ltb, le-ltb}
use Rattle.wdf_model.specs.parts.Tree.{Tree}
use Rattle.wdf_tree.proofs.Leaving.{some_member}
use Rattle.wdf_tree.proofs.tree.Tree.some_leaving.Goals as goal

pub returns-then-len-gt0 : goal.returns-then-len-gt0
returns-then-len-gt0 c =
    let T : Tree = record { limit = c.self.inside.limit; nodes = c.self.inside.nodes } in
    let some : nat_lt 0 c.len.result ≡ true = lt-ltb 0 c.len.result c.if-len-gt0.true in
    rw (← c.self.view_is) (some ∙ (rw some at (some_member T c.self.inside.asked c.self.inside.cleaned c.len.result _ c.self.invariant.leaving c.len.ensures refl)))

pub returns-else-len-gt0 : goal.returns-else-len-gt0
returns-else-len-gt0 c =
    let T : Tree = record { limit = c.self.inside.limit; nodes = c.self.inside.nodes } in
    let none : nat_lt 0 c.len.result ≡ false = le-ltb 0 c.len.result c.if-len-gt0.false in
    rw (← c.self.view_is) (rw none at (some_member T c.self.inside.asked c.self.inside.cleaned c.len.result c.len-else-len-gt0.result c.self.invariant.leaving c.len.ensures c.len-else-len-gt0.ensures))
