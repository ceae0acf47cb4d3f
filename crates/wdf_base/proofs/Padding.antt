-- A name that is copied into zeros is padded.
use Rattle.std.proofs.Common.{◌≡◌, ℕ, ◌+◌, ◌-◌, ◌≤◌, List, ◌++◌, length, drop, replicate, arith, length-append}
use Rattle.std.proofs.lemmas.List.{drop-replicate}
use Rattle.std.proofs.Math.Seq.{drop-append_seam}
use Rattle.std.proofs.Math.ListN.{length-replicate}
use Rattle.wdf_base.specs.Name.{IsPadded}

pub copied_IsPadded : (text : List ℕ) → length text ≤ 32 → IsPadded (text ++ drop (length text) (replicate 32 0)) (length text)
copied_IsPadded text h =
    let rest : length (drop (length text) (replicate {A = ℕ} 32 0)) ≡ 32 - length text = rw drop-replicate (length-replicate (32 - length text) 0) in
    record {
      room = omega (arith, length-append text (drop (length text) (replicate 32 0)));
      small = h;
      zeros = rw (drop-append_seam text (drop (length text) (replicate 32 0))) (drop-replicate (length text) 32 0);
    }
