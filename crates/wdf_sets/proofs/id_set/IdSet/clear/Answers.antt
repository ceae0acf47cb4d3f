use Rattle.std.proofs.Common.{false, length, replicate, ap, ◌∙◌}
use Rattle.wdf_sets.proofs.Changes.{counted_none}
use Rattle.wdf_sets.proofs.Noted.{noted_none}
use Rattle.wdf_sets.proofs.id_set.IdSet.clear.Goals as goal

pub invariant_of-self : goal.invariant_of-self
invariant_of-self c =
    let set = c.self.inside in (
      rw (c.clear.ensures, c.zero_counts.ensures) (counted_none (length set.bits) (length set.counts.items) c.self.invariant.0.blocks c.self.invariant.0.few),
      rw (c.clear.ensures, c.clear-2.ensures) (noted_none (length set.bits) (length set.words) c.self.invariant.1.long),
    )

pub returns : goal.returns
returns c = c.clear.ensures ∙ ap (λ bits. replicate (length bits) false) c.self.view_is
