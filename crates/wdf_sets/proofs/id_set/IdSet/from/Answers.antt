-- The first member is in the word of the id, or in the next one that is noted.
use Rattle.std.proofs.Common.{◌≡◌, ◌+◌, ◌*◌, ◌/◌, Some, None, length, slice_get, subst, sym, ◌∙◌, arith}
use Rattle.wdf_sets.specs.Members.{members, rank}
use Rattle.wdf_sets.proofs.Noted.{next_found, none_found, later_is, none_later}
use Rattle.wdf_sets.proofs.id_set.IdSet.from.Goals as goal

pub returns-then-self-eq0 : goal.returns-then-self-eq0
returns-then-self-eq0 c =
    let bits = c.self.inside.bits in
    let whole : c.self.inside.len ≡ rank (length bits) bits = c.self.invariant.0.whole in
    let none : c.self.inside.len ≡ 0 = c.if-self-eq0.true in
    subst (λ bs. None ≡ slice_get (members bs) (rank c.args.id bs)) c.self.view_is (sym (none_found bits c.args.id (omega arith)))

pub returns-in_err-word-in-None : goal.returns-in_err-word-in-None
returns-in_err-word-in-None c =
    let set = c.self.inside in
    c.from_residual.ensures
    ∙ subst (λ bs. None ≡ slice_get (members bs) (rank c.args.id bs)) c.self.view_is (none_later set.bits set.words c.self.invariant.1 c.args.id c.in-None.ensures c.in_err-word-in-None.ensures)

pub returns-in-Some : goal.returns-in-Some
returns-in-Some c =
    let id = c.args.id in
    subst (λ bs. Some c.in-Some.found ≡ slice_get (members bs) (rank id bs)) c.self.view_is (sym (next_found c.self.inside.bits id (64 * (id / 64) + 64) c.in-Some.found c.in-Some.ensures))

pub returns-in_ok-word-in-None : goal.returns-in_ok-word-in-None
returns-in_ok-word-in-None c =
    let set = c.self.inside in
    subst (λ bs. c.first_in_word-in-None.result ≡ slice_get (members bs) (rank c.args.id bs)) c.self.view_is
    (later_is set.bits set.words c.self.invariant.1 c.args.id c.in-None.ensures c.in_ok-word-in-None.word c.in_ok-word-in-None.ensures c.first_in_word-in-None.result c.first_in_word-in-None.ensures)
