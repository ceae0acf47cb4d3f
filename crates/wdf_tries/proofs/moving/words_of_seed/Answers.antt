-- The next word is added, until none is left.
use Rattle.std.proofs.Common.{◌+◌, ◌-◌, ◌++◌, ap, ◌∙◌, arith, length}
use Rattle.rand_core.specs.Steps.{stream_of}
use Rattle.rand_xoshiro.specs.SplitMix64.{splitmix_steps}
use Rattle.wdf_run.specs.Seeds.{next_words}
use Rattle.wdf_tries.proofs.NextWords.{none_yet, one_more, none_left, words_len}
use Rattle.wdf_tries.proofs.moving.words_of_seed.Goals as goal

pub loop-turn-init : goal.loop-turn-init
loop-turn-init c =
    none_yet c.args.count c.new-words.result.items (stream_of splitmix_steps c.seed_from_u64-stream.result) (stream_of splitmix_steps c.args.seed)
    c.new-words.ensures.items (ap (stream_of splitmix_steps) c.seed_from_u64-stream.ensures.same)

pub loop-turn-preserved : goal.loop-turn-preserved
loop-turn-preserved c =
    let added = one_more c.args.count c.loop-turn._turn c.loop-turn.words.items (next_words c.args.count (stream_of splitmix_steps c.args.seed))
    (stream_of splitmix_steps c.loop-turn.stream) (stream_of splitmix_steps c.next_u64.new.self) c.next_u64.result (omega arith) c.next_u64.ensures c.loop-turn.invariant in
    ap (λ ws. ws ++ next_words (c.args.count - (c.loop-turn._turn + 1)) (stream_of splitmix_steps c.next_u64.new.self)) c.in_ok-push.ensures.items ∙ added

pub returns-clause-words : goal.returns-clause-words
returns-clause-words c =
    none_left c.args.count c.loop-turn._turn c.loop-turn.words.items (next_words c.args.count (stream_of splitmix_steps c.args.seed)) (stream_of splitmix_steps c.loop-turn.stream)
    (omega arith) c.loop-turn.invariant

pub returns-clause-length : goal.returns-clause-length
returns-clause-length c =
    let all = none_left c.args.count c.loop-turn._turn c.loop-turn.words.items (next_words c.args.count (stream_of splitmix_steps c.args.seed)) (stream_of splitmix_steps c.loop-turn.stream)
    (omega arith) c.loop-turn.invariant in
    ap length all ∙ words_len c.args.count (stream_of splitmix_steps c.args.seed)
