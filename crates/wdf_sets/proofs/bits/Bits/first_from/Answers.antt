-- The words are passed over up to the first that has a one.
use Rattle.std.proofs.Common.{◌≡◌, ◌*◌, false, length, subst, ap, arith}
use Rattle.wdf_sets.specs.Members.{is_in}
use Rattle.wdf_sets.specs.Words.{bits_of}
use Rattle.wdf_sets.proofs.Ones.{length_bits, past_used}
use Rattle.wdf_sets.proofs.Noted.{none_further}
use Rattle.wdf_sets.proofs.bits.Bits.first_from.Goals as goal

pub overflow_mul-word : goal.overflow_mul-word
overflow_mul-word c =
    let long = length_bits c.self.inside.words in
    let same : length (bits_of c.self.inside.words) ≡ length c.args.self.now = ap length c.self.view_is in
    let used = c.used-word-end.ensures.within in
    omega arith

pub returns : goal.returns
returns c =
    none_further c.args.self.now c.args.id (64 * c.search.word) (length c.args.self.now) c.search.invariant
    (λ x past below.
    subst (λ bits. is_in x bits ≡ false) c.self.view_is (past_used c.self.inside.words c.used-word-end.result c.used-word-end.ensures.none x (omega (arith, c.search-test.false))))
