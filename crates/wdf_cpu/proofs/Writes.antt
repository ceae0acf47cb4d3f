-- Writes of frames by number.
use Rattle.std.proofs.Common.{◌≡◌, ℕ, ◌<◌, List, length, ap, ◌∙◌}
use Rattle.wdf_model.specs.declared.entries.Running.{Running}
use Rattle.wdf_model.specs.Tables.{put}
use Rattle.wdf_model.specs.parts.Cpus.{no_frame}
use Rattle.wdf_model.proofs.Maps.{as_long, put_within}

-- a number that is there is written in its place
pub as_many : (rs : List Running) (f : ℕ) (r : Running) → f < length rs → length (put no_frame rs f r) ≡ length rs
as_many rs f r within = ap length (put_within no_frame rs f r within) ∙ as_long rs f r
