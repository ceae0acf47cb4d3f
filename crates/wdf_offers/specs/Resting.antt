-- When no callback of a rank for requests starts on a processor, on whatever object. (own)
use Rattle.std.specs.Prelude.{ℕ, Bool, false, not, ◌==◌, ◌||◌, length, Option, Some, None}
use Rattle.wdf_base.specs.declared.rank.Rank.{Rank}
use Rattle.wdf_base.specs.declared.rank.Rank.TheVariants as rank
use Rattle.wdf_model.specs.State.{State}
use Rattle.wdf_model.specs.rules.Starts.{level_fits}
use Rattle.wdf_pnp.specs.Stepping.{none_stepping}
use Rattle.wdf_target.specs.Finished.{none_finished}
use Rattle.wdf_offers.specs.declared.for_requests.Herd.{Herd}
use Rattle.wdf_offers.specs.ForRequests.{herd_of, whole}

-- no request is counted for whatever queue; it isn't said of a rank whose callbacks aren't counted by queue
abbrev pub none_counted : {A : Type 0} → State A → Option Herd → Bool
none_counted S None = false
none_counted S (Some h) = length (whole h S) == 0

-- The callbacks of a rank are due for no request, as one part says: no completion routine is due at any target, or none is
-- counted for which the callback could be due, for whatever queue. Of EvtIoStop what is counted is held and not yet asked to
-- stop, and it is due for none also where no device has a step left, so that none is about to pass `settled`.
abbrev pub none_due : {A : Type 0} → State A → Rank → Bool
none_due S rank.Completion = none_finished S.targets
none_due S rank.Stop = none_counted S (herd_of rank.Stop) || none_stepping S.pnp
none_due S r = none_counted S (herd_of r)

-- The callbacks of a rank rest on a processor: it is at DISPATCH_LEVEL or above, at which none for a request starts; or they
-- are due for no request.
abbrev pub rests : {A : Type 0} → State A → ℕ → Rank → Bool
rests S cpu r = not (level_fits S cpu 2) || none_due S r
