-- The words of the block are passed over up to the one that has the member.
use Rattle.std.proofs.Common.{◌≡◌, ◌+◌, subst, arith}
use Rattle.wdf_sets.specs.Counted.{AreNoted}
use Rattle.wdf_sets.specs.Members.{rank}
use Rattle.wdf_sets.proofs.Noted.{goes_on, passes_on}
use Rattle.wdf_sets.proofs.id_set.IdSet.word_of.Goals as goal

pub unwrap-start-requires : goal.unwrap-start-requires
unwrap-start-requires c =
    let noted : AreNoted c.args.self.now c.self.inside.words = subst (λ bs. AreNoted bs c.self.inside.words) c.self.view_is c.self.invariant.1 in
    let counted = subst (λ bs. c.count_word-count.result + rank c.loop-skipped.start bs ≡ rank (c.loop-skipped.start + 64) bs) c.self.view_is c.count_word-count.ensures.count in
    goes_on c.args.self.now c.self.inside.words noted c.args.block c.loop-skipped.skipped c.loop-skipped.start c.count_word-count.result c.requires.block c.loop-skipped.invariant counted c.if-skipped-count.false
    c.first_in_word.result c.first_in_word.ensures

pub loop-skipped-preserved : goal.loop-skipped-preserved
loop-skipped-preserved c =
    let noted : AreNoted c.args.self.now c.self.inside.words = subst (λ bs. AreNoted bs c.self.inside.words) c.self.view_is c.self.invariant.1 in
    let counted = subst (λ bs. c.count_word-count.result + rank c.loop-skipped.start bs ≡ rank (c.loop-skipped.start + 64) bs) c.self.view_is c.count_word-count.ensures.count in
    passes_on c.args.self.now c.self.inside.words noted c.args.block c.loop-skipped.skipped c.loop-skipped.start c.count_word-count.result c.requires.block c.loop-skipped.invariant counted c.if-skipped-count.false
    c.first_in_word.result c.first_in_word.ensures c.unwrap-start.result c.unwrap-start.ensures

pub returns-then-skipped-count-clause-word : goal.returns-then-skipped-count-clause-word
returns-then-skipped-count-clause-word c =
    let bits = c.args.self.now in
    let start = c.loop-skipped.start in
    let block = c.args.block in
    let counted : c.count_word-count.result + rank start bits ≡ rank (start + 64) bits
    = subst (λ bs. c.count_word-count.result + rank start bs ≡ rank (start + 64) bs) c.self.view_is c.count_word-count.ensures.count in
    record { begins = omega arith; there = omega arith; within = omega arith }
