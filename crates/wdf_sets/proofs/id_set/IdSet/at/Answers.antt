use Rattle.std.proofs.Common.{◌≡◌, None, length, slice_get, subst, sym, arith}
use Rattle.wdf_sets.specs.Members.{members, rank}
use Rattle.wdf_sets.proofs.Ranks.{no_member_at}
use Rattle.wdf_sets.proofs.id_set.IdSet.at.Goals as goal

pub returns-then-self-k : goal.returns-then-self-k
returns-then-self-k c =
    let bits = c.self.inside.bits in
    let whole : c.self.inside.len ≡ rank (length bits) bits = c.self.invariant.0.whole in
    subst (λ bs. None ≡ slice_get (members bs) c.args.k) c.self.view_is (sym (no_member_at bits c.args.k (omega arith)))
