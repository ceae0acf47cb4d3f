-- One device's sequence is changed.
use Rattle.std.proofs.Common.{◌≡◌, ℕ, ◌<◌, length, get_or, sym, ap, ◌∙◌, slice_set}
use Rattle.std.proofs.lemmas.List.{get_or_default}
use Rattle.wdf_model.specs.Tables.{entry}
use Rattle.wdf_model.specs.parts.Pnp.{Pnp, Sequence, no_sequence, with_sequence}
use Rattle.wdf_model.proofs.Maps.{put_within}

pub sequence_changed : (Q : Pnp) (d : ℕ) (f : Sequence → Sequence) (old new : Sequence) → d < length Q.devices → old ≡ get_or Q.devices d old → new ≡ f old
    → record { devices = slice_set Q.devices d new } ≡ with_sequence Q d f
sequence_changed Q d f old new h o n =
    let was : old ≡ entry no_sequence Q.devices d = o ∙ get_or_default Q.devices d old no_sequence h in
    let is : new ≡ f (entry no_sequence Q.devices d) = n ∙ ap f was in
    rw is (ap (λ ds. record { devices = ds }) (sym (put_within no_sequence Q.devices d (f (entry no_sequence Q.devices d)) h)))
