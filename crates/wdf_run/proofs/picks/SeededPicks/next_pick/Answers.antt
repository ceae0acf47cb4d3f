-- The pick is the stream's next word, and those after it are the words of what is left.
use Rattle.wdf_run.proofs.Words.{word_first, word_later}
use Rattle.wdf_run.proofs.picks.SeededPicks.next_pick.Goals as goal

pub returns-clause-value : goal.returns-clause-value
returns-clause-value c = word_first _ _ _ c.next_u64.ensures

pub returns-clause-later : goal.returns-clause-later
returns-clause-later c = λ turn. word_later _ _ _ turn c.next_u64.ensures
