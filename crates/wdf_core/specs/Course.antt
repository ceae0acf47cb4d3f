-- What contracts see of a core, the plan of its run and the events so far; and what a core keeps.
use Rattle.std.specs.Prelude.{ℕ, ◌≡◌, ◌≤◌, List, filter, length}
use Rattle.wdf_base.specs.Meaning.{Meaning}
use Rattle.wdf_base.specs.Resolved.{IsResolved}
use Rattle.wdf_base.specs.declared.plan.Plan.{Plan}
use Rattle.wdf_base.specs.declared.event.Event.{Event}
use Rattle.wdf_model.specs.declared.enums.Group.{Group}
use Rattle.wdf_model.specs.State.{State}
use Rattle.wdf_model.specs.rules.Groups.{groups}
use Rattle.wdf_model.specs.rules.Ready.{IsRunOf, state_after}
use Rattle.wdf_ready.specs.Blocks.{Grouping, all_of}
use Rattle.wdf_ready.specs.Counts.{Counts, IsKept}
use Rattle.wdf_offers.specs.Search.{has_places}

pub record Course : Type 0 where
  pub plan : Plan
  pub journal : List Event

-- What a core keeps: its state is that of its journal, which is a run; its groups are the plan's that can have places; and there is room for the rest of the run.
pub record IsUnderWay {A : Type 0} (m : Meaning A) (plan : Plan) (journal : List Event) (S : State A) (all : List Group) (space : ℕ) : Type 0 where
  pub resolved : IsResolved plan
  pub state : S ≡ state_after plan m journal
  pub run : IsRunOf plan m journal
  pub counted : S.number ≡ length journal
  pub within : length journal ≤ plan.limit
  pub groups : all ≡ filter (has_places plan) (groups plan)
  pub room : plan.limit ≤ space

-- All that a core keeps: this, and counts that are right where they are known.
pub record IsSound {A : Type 0} (m : Meaning A) (plan : Plan) (journal : List Event) (S : State A) (all : Grouping) (space : ℕ) (c : Counts) : Type 0 where
  pub way : IsUnderWay m plan journal S (all_of all) space
  pub counts : IsKept plan m S all c
