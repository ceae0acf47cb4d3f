-- What is pushed after something that was pushed.
use Rattle.std.proofs.Common.{ℕ, ◌≡◌, List, ◌++◌, Result, Ok, Err, OnOk, ap, ◌∙◌, append_assoc}

-- two pieces, one after the other
pub then_pushed : {T E : Type 0} (r : Result T E) (new old mid a b : List ℕ) → mid ≡ old ++ a → OnOk r (new ≡ mid ++ b) → OnOk r (new ≡ old ++ (a ++ b))
then_pushed (Ok x) new old mid a b first second = second ∙ ap (λ m. m ++ b) first ∙ append_assoc old a b
then_pushed (Err e) new old mid a b first second = tt
