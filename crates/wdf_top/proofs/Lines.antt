-- The line of an accepted trace, put together.
use Rattle.std.proofs.Common.{ℕ, ◌≡◌, ◌++◌, codes, decimal, ap, ◌∙◌, append_assoc}
use Rattle.std.proofs.lemmas.List.{append-nil}
use Rattle.wdf_base.specs.declared.event.Ending.{Ending}
use Rattle.wdf_lines.specs.Endings.{ending_word}
use Rattle.wdf_top.specs.Answers.{accepted_line}

pub accepted_joined : (events : ℕ) (e : Ending) → codes "accepted " ++ ending_word e ++ codes " " ++ decimal events ++ codes "\n" ≡ accepted_line events e
accepted_joined events e =
    rw (append-nil (decimal events))
    (ap (λ l. l ++ codes "\n") (append_assoc (codes "accepted " ++ ending_word e) (codes " ") (decimal events)
    ∙ append_assoc (codes "accepted ") (ending_word e) (codes " " ++ decimal events)))
