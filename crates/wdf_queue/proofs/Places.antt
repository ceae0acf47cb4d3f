-- The request after another, by its place in the waiting list.
use Rattle.std.proofs.Common.{ℕ, ◌≡◌, ◌+◌, Some, None, slice_get}
use Rattle.wdf_ilist.specs.Family.{Family, AreApart, after_in, list_of}
use Rattle.wdf_ilist.proofs.Places.{next_at, owner_at}
use Rattle.wdf_model.specs.parts.Queues.{Queues, waiting_in}

-- the item at the next place of its list, in the words of the queues
pub next_waiting_at : (family : Family) (Q : Queues) → family.lists ≡ Q.waiting → AreApart family → (q k x : ℕ)
    → slice_get (waiting_in Q q) k ≡ Some x → after_in x family.lists ≡ slice_get (waiting_in Q q) (k + 1)
next_waiting_at family Q e a q k x here = rw (← e) (next_at family q k x a (rw (← e) at here))

-- who doesn't wait has no place
pub no_place : (family : Family) (Q : Queues) → family.lists ≡ Q.waiting → AreApart family → (q k x : ℕ)
    → slice_get (waiting_in Q q) k ≡ Some x → list_of x family.lists ≡ None → ⊥
no_place family Q e a q k x here none =
    let there : list_of x family.lists ≡ Some q = owner_at family q k x a (rw (← e) at here) in
    let z : ⊥ = cc in z
