use Rattle.std.proofs.Common.{sym, ap, length, ◌∙◌}
use Rattle.wdf_sets.specs.Members.{members}
use Rattle.wdf_sets.proofs.Ranks.{length_members}
use Rattle.wdf_sets.proofs.id_set.IdSet.len.Goals as goal

pub returns : goal.returns
returns c = c.self.invariant.0.whole ∙ sym (length_members c.self.inside.bits) ∙ ap (λ bits. length (members bits)) c.self.view_is
