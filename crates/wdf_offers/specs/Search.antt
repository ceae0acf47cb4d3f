-- The events that may follow, as a search finds them: by groups and places, each with its test.
use Rattle.std.specs.Prelude.{if◌then◌else◌, ◌≡◌, ℕ, ◌-◌, ◌<◌, ◌≤◌, ◌^◌, Bool, true, false, not, ◌==◌, List, length, slice_get, Option, Some, None}
use Rattle.std.specs.Option.{option_and_then}
use Rattle.std.specs.List.{filter_map, flat_map, list_any, range_with_len}
use Rattle.wdf_base.specs.Callbacks.{carries_request, rank_number, row_of}
use Rattle.wdf_base.specs.Meaning.{Meaning}
use Rattle.wdf_base.specs.declared.event.Event.{Event}
use Rattle.wdf_base.specs.declared.call.Callback.{Callback}
use Rattle.wdf_base.specs.declared.plan.Plan.{Plan}
use Rattle.wdf_base.specs.declared.rank.Rank.{Rank}
use Rattle.wdf_base.specs.declared.rank.Rank.TheVariants as rank
use Rattle.wdf_model.specs.declared.enums.Group.{Group}
use Rattle.wdf_model.specs.declared.enums.Group.TheVariants as group
use Rattle.wdf_model.specs.Plans.{declares}
use Rattle.wdf_model.specs.State.{State}
use Rattle.wdf_model.specs.rules.Steps.{may}
use Rattle.wdf_model.specs.rules.Groups.{callback_for, candidate, places_in}

-- a candidate, if it may come
abbrev pub if_allowed : {A : Type 0} → Plan → Meaning A → State A → Option Event → Option Event
if_allowed plan m S = option_and_then (λ event. if may plan m S event then Some event else None)

-- the candidate of a group at a place, if it may come
abbrev pub offered : {A : Type 0} → Plan → Meaning A → State A → Group → ℕ → Option Event
offered plan m S group place = if_allowed plan m S (candidate plan m S group place)

-- what may come of a group's places from this one on
abbrev pub offered_from : {A : Type 0} → Plan → Meaning A → State A → Group → ℕ → List Event
offered_from plan m S group place = filter_map (offered plan m S group) (range_with_len place (places_in plan S group - place))

-- how many events may come of a group
abbrev pub offered_len : {A : Type 0} → Plan → Meaning A → State A → Group → ℕ
offered_len plan m S g = length (offered_from plan m S g 0)

-- nothing may come of a group's places from one on up to another, which is one
pub record Skips {A : Type 0} (plan : Plan) (m : Meaning A) (S : State A) (group : Group) (from place : ℕ) : Type 0 where
  pub passed : offered_from plan m S group from ≡ offered_from plan m S group place
  pub after : from ≤ place
  pub within : place < places_in plan S group
  pub small : place < 2 ^ 32

-- what may come of all these groups
abbrev pub events_of : {A : Type 0} → Plan → Meaning A → State A → List Group → List Event
events_of plan m S all = flat_map (λ g. offered_from plan m S g 0) all

-- ---- groups with places

-- a callback may start by the group of a rank: it is of that rank; a step of a sequence is any that is for no request
abbrev pub starts_by : Rank → Callback → Bool
starts_by rank.Sequence c = not (carries_request (row_of c).rank)
starts_by r c = rank_number (row_of c).rank == rank_number r

-- something declares a callback that may start by the group of a rank
abbrev pub can_start : Plan → Rank → Bool
can_start plan r = list_any (λ s. starts_by r s.callback) plan.scripts

-- an object declares a rank's callback for requests; the group of completion routines is kept for each target, if anything
-- declares one
abbrev pub can_start_for : Plan → Rank → ℕ → Bool
can_start_for plan rank.Completion o = can_start plan rank.Completion
can_start_for plan r o = declares plan (callback_for r) o

-- a group can have places: a callback that nothing declares doesn't start
abbrev pub has_places : Plan → Group → Bool
has_places plan (group.StartsFor cpu r o) = can_start_for plan r o
has_places plan (group.Starts cpu r) = can_start plan r
has_places plan _ = true

-- ---- the first event of a kind

-- none of the first so many passes a test
abbrev pub NoneBefore : {T : Type 0} → (T → Bool) → List T → ℕ → Type 0
NoneBefore test xs count = (j : ℕ) (x : _) → j < count → slice_get xs j ≡ Some x → test x ≡ false

-- the first one that passes a test is at this place
pub record IsFirst {T : Type 0} (test : T → Bool) (xs : List T) (place : ℕ) : Type 0 where
  pub item : T
  pub at : slice_get xs place ≡ Some item
  pub passes : test item ≡ true
  pub before : NoneBefore test xs place

-- there are so many, and none passes a test
abbrev pub HasNone : {T : Type 0} → (T → Bool) → List T → ℕ → Type 0
HasNone test xs count = (length xs ≡ count) × NoneBefore test xs count
