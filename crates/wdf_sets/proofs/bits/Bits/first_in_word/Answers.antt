-- The first one of what the word has from the id on.
use Rattle.std.proofs.Common.{◌+◌, ◌*◌, ◌/◌, ◌%◌, ◌<◌, ◌^◌, w64, subst, arith}
use Rattle.std.specs.Int.{trailing_zeros}
use Rattle.wdf_sets.specs.Members.{is_in}
use Rattle.wdf_sets.specs.Nexts.{IsNext, NoneFrom}
use Rattle.wdf_sets.proofs.Ones.{first_read, none_read}
use Rattle.wdf_sets.proofs.bits.Bits.first_in_word.Goals as goal

pub overflow_add-result : goal.overflow_add-result
overflow_add-result c =
    let id = c.args.id in
    let first = first_read c.self.inside.words id c.get.result c.get.ensures c.get.type_inv (omega (arith, c.if-word-eq0.false)) in
    let below : id + trailing_zeros w64 (c.get.result / 2 ^ (id % 64)) < 64 * (id / 64) + 64 = first.within in
    omega arith

pub returns-then-word-eq0 : goal.returns-then-word-eq0
returns-then-word-eq0 c =
    let id = c.args.id in
    subst (λ bits. NoneFrom (λ x. is_in x bits) id (64 * (id / 64) + 64)) c.self.view_is (none_read c.self.inside.words id c.get.result c.get.ensures c.if-word-eq0.true)

pub returns-else-word-eq0 : goal.returns-else-word-eq0
returns-else-word-eq0 c =
    let id = c.args.id in
    subst (λ bits. IsNext (λ x. is_in x bits) id (64 * (id / 64) + 64) (id + trailing_zeros w64 (c.get.result / 2 ^ (id % 64)))) c.self.view_is
    (first_read c.self.inside.words id c.get.result c.get.ensures c.get.type_inv (omega (arith, c.if-word-eq0.false)))
