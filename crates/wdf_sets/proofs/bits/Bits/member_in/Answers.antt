use Rattle.std.proofs.Common.{◌≡◌, ◌+◌, ◌<◌, ◌≤◌, length, subst, arith}
use Rattle.wdf_sets.specs.Members.{rank}
use Rattle.wdf_sets.specs.Parts.{number_of}
use Rattle.wdf_sets.proofs.Ranks.{member_between}
use Rattle.wdf_sets.proofs.bits.Bits.member_in.Goals as goal

pub returns : goal.returns
returns c =
    let bits = c.args.self.now in
    let start = c.loop-size.start in
    let size : c.loop-size.size ≡ 1 = omega arith in
    let there : number_of bits c.args.word < rank (start + 1) bits = subst (λ n. number_of bits c.args.word < rank (start + n) bits) size c.loop-size.invariant.there in
    let within : start < length bits = omega arith in
    let low : rank start bits ≤ number_of bits c.args.word = omega arith in
    member_between bits start (number_of bits c.args.word) within low there
