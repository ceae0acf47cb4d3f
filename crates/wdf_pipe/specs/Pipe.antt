-- The rule of the pipe from the workers to the printer. (own)
use Rattle.std.specs.Prelude.{◌≡◌, ℕ, Bool, true, List, ◌++◌}
use mathlib.Core.Option.{some}
use lib.ListN.{get_elem?}
use Rattle.wdf_pipe.specs.declared.pipe.Account.{Account}
use Rattle.wdf_pipe.specs.declared.item.Item.{Item}

-- what a pass knows: whether it may send, whether it may take, and what it has sent and taken
abbrev pub account : Bool → Bool → List Item → List Item → Account
account sends takes sent taken = record { sends = sends; takes = takes; sent = sent; taken = taken }

-- a pass that may send is the sender's, and has sent all; a pass that may take is the printer's, and has taken all that was taken
abbrev pub Fits : ℕ → ℕ → List Item → List Item → ℕ → Account → Type 0
Fits sender printer sent taken pass v =
    (v.sends ≡ true → (pass ≡ sender) × (v.sent ≡ sent)) × (v.takes ≡ true → (pass ≡ printer) × (v.taken ≡ taken))

-- The rule: what was sent is what was taken, followed by what the pipe holds. One pass at most may send, and one may take.
abbrev pub IsPiped : List Item → List Account → Type 0
IsPiped items views =
    (sender : ℕ) × (printer : ℕ) × (sent : List Item) × (taken : List Item) × (sent ≡ taken ++ items)
    × ((pass : ℕ) (v : Account) → get_elem? views pass ≡ some v → Fits sender printer sent taken pass v)
