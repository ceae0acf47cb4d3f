-- What the value among the workers keeps whenever a seat may take it. (own)
use Rattle.std.specs.Prelude.{◌≡◌, ℕ, ◌+◌, Bool, true, false, List, [], ◌∷◌, ◌++◌}
use Rattle.crossbeam_queue.specs.Passes.{Pass, view}
use Rattle.wdf_base.specs.declared.event.Event.{Event}
use Rattle.wdf_pipe.specs.Pipe.{account}
use Rattle.wdf_pipe.specs.declared.pipe.Account.{Account}
use Rattle.wdf_pipe.specs.declared.item.Item.{Item}
use Rattle.wdf_pipe.specs.declared.item.Item.TheVariants.{Numbered, End}

-- the events, each with its number, of which the first is this
abbrev pub numbered : ℕ → List Event → List Item
numbered number [] = []
numbered number (e ∷ es) = Numbered number e ∷ numbered (number + 1) es

-- what has been sent of a journal: each event with its number, and behind them the end mark, if that was sent
abbrev pub sent_of : List Event → Bool → List Item
sent_of journal false = numbered 1 journal
sent_of journal true = numbered 1 journal ++ End ∷ []

-- The slot's rule: the pass is the sender's, and has sent exactly the journal of the core beside it, each event with its number. Behind them it may
-- have sent the end mark, once.
abbrev pub HasSent : Pass Item Account → List Event → Bool → Type 0
HasSent pass journal ended = view pass ≡ account true false (sent_of journal ended) []
