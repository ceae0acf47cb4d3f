-- The three pieces come one after the other.
use Rattle.std.proofs.Common.{◌≡◌, ◌++◌, ℕ, List, ap, ◌∙◌, append_assoc}
use Rattle.wdf_shrink.proofs.text.push_block.Goals as goal

block_of : (out one two three a p e : List ℕ) → one ≡ out ++ a → two ≡ one ++ p → three ≡ two ++ e → three ≡ out ++ (a ++ (p ++ e))
block_of out one two three a p e first second third =
    third ∙ ap (λ ws. ws ++ e) (second ∙ ap (λ ws. ws ++ p) first ∙ append_assoc out a p) ∙ append_assoc out (a ++ p) e ∙ ap (λ ws. out ++ ws) (append_assoc a p e)

pub returns : goal.returns
returns c = block_of _ _ _ _ _ _ _ c.in_ok-push_text.ensures c.in_ok-push_picks.ensures c.in_ok-push_text-2.ensures
