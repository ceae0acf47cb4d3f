-- For which objects a callback of a rank for requests may be due, as what is counted says. (own)
use Rattle.std.specs.Prelude.{ℕ, ◌≡◌, ◌<◌, ◌≤◌, Bool, true, not, ◌==◌, nat_lt, ◌||◌, [], length, Option, Some, None}
use Rattle.std.specs.List.{list_any}
use Rattle.wdf_base.specs.Meaning.{Meaning}
use Rattle.wdf_base.specs.declared.plan.Plan.{Plan}
use Rattle.wdf_base.specs.declared.rank.Rank.{Rank}
use Rattle.wdf_base.specs.declared.rank.Rank.TheVariants as rank
use Rattle.wdf_model.specs.State.{State}
use Rattle.wdf_model.specs.declared.enums.Group.TheVariants as group
use Rattle.wdf_power.specs.ForQueues.{resuming_from}
use Rattle.wdf_request.specs.Keys.{is_due_sent}
use Rattle.wdf_target.specs.Finished.{has_finished}
use Rattle.wdf_offers.specs.declared.for_requests.Herd.{Herd}
use Rattle.wdf_offers.specs.declared.for_requests.Herd.TheVariants as herd
use Rattle.wdf_offers.specs.ForRequests.{counted, herd_of}
use Rattle.wdf_offers.specs.Search.{offered_from}

-- some request is counted for a queue
abbrev pub has_counted : {A : Type 0} → Herd → State A → ℕ → Bool
has_counted h S q = nat_lt 0 (length (counted h S q))

-- The callback is due on no queue for which none is counted. That isn't said of EvtRequestCancel where it is due for a request
-- that is sent, nor of EvtIoResume where a resume is due for a request that is held from no power-managed queue.
abbrev pub goes_by_counts : {A : Type 0} → Herd → State A → Bool
goes_by_counts herd.Cancel S = not (list_any is_due_sent S.requests.all)
goes_by_counts herd.Resume S = length (resuming_from S.power 0) == 0
goes_by_counts _ S = true

-- as far as the counts tell, the callback of a herd may be due on a queue; it is said of each where it isn't counted by queue
abbrev pub may_be_due_on : {A : Type 0} → State A → Option Herd → ℕ → Bool
may_be_due_on S None q = true
may_be_due_on S (Some h) q = has_counted h S q || not (goes_by_counts h S)

-- as far as the counts tell, a callback of a rank may be due on an object: a completion routine where the target says so of a
-- request that it has
abbrev pub may_be_due : {A : Type 0} → State A → Rank → ℕ → Bool
may_be_due S rank.Completion t = has_finished S.targets t
may_be_due S r q = may_be_due_on S (herd_of r) q

-- nothing may come for the objects from one on below another, on whatever processor
abbrev pub NothingFor : {A : Type 0} → Plan → Meaning A → State A → Rank → ℕ → ℕ → Type 0
NothingFor plan m S r from to = (cpu o : ℕ) → from ≤ o → o < to → offered_from plan m S (group.StartsFor cpu r o) 0 ≡ []
