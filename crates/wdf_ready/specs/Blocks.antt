-- Groups of candidates in blocks. The groups of one processor and one rank for requests follow one another, one for each
-- object: they are one block. (own)
use Rattle.std.specs.Prelude.{ℕ, ◌≡◌, ◌<◌, ◌≤◌, Bool, ◌&&◌, List, [], ◌∷◌, drop, filter, is_some, length}
use Rattle.std.specs.List.{flat_map}
use Rattle.wdf_base.specs.Meaning.{Meaning}
use Rattle.wdf_base.specs.declared.event.Event.{Event}
use Rattle.wdf_base.specs.declared.plan.Plan.{Plan}
use Rattle.wdf_base.specs.declared.rank.Rank.{Rank}
use Rattle.wdf_base.specs.declared.rank.Rank.TheVariants as rank
use Rattle.wdf_model.specs.declared.enums.Group.{Group}
use Rattle.wdf_model.specs.Plans.{declared_ids, queue_of, target_of}
use Rattle.wdf_model.specs.State.{State}
use Rattle.wdf_model.specs.rules.Groups.{groups_for}
use Rattle.wdf_offers.specs.Search.{can_start_for, events_of}
use Rattle.wdf_ready.specs.declared.blocks.Block.{Block}
use Rattle.wdf_ready.specs.declared.blocks.Block.TheVariants as block

-- ---- blocks

-- for which objects the groups of each rank for requests are, by rising id, whatever the processor
pub record ObjectLists : Type 0 where
  pub targets : List ℕ
  pub cancels : List ℕ
  pub returns : List ℕ
  pub stops : List ℕ
  pub resumes : List ℕ

-- those of a rank; no other rank has groups for requests
abbrev pub objects_of : ObjectLists → Rank → List ℕ
objects_of o rank.Completion = o.targets
objects_of o rank.Cancel = o.cancels
objects_of o rank.CanceledOnQueue = o.returns
objects_of o rank.Stop = o.stops
objects_of o rank.Resume = o.resumes
objects_of o _ = []

-- the groups of a block, in their order
abbrev pub groups_in : ObjectLists → Block → List Group
groups_in o (block.One g) = g ∷ []
groups_in o (block.ForEach cpu r) = groups_for cpu r (objects_of o r)

-- blocks, and the objects of which they speak
pub record Grouping : Type 0 where
  pub blocks : List Block
  pub objects : ObjectLists

-- the groups of some blocks, those of one after those of the other
abbrev pub joined : ObjectLists → List Block → List Group
joined o bs = flat_map (groups_in o) bs

-- all groups, in their order
abbrev pub all_of : Grouping → List Group
all_of all = joined all.objects all.blocks

-- ---- what may come of them

-- what may come of the groups of a block
abbrev pub events_in : {A : Type 0} → Plan → Meaning A → State A → ObjectLists → Block → List Event
events_in plan m S o b = events_of plan m S (groups_in o b)

-- how many events may come of a block
abbrev pub block_len : {A : Type 0} → Plan → Meaning A → State A → ObjectLists → Block → ℕ
block_len plan m S o b = length (events_in plan m S o b)

-- what may come of the starts of a rank on a processor for the requests of these objects
abbrev pub events_for : {A : Type 0} → Plan → Meaning A → State A → ℕ → Rank → List ℕ → List Event
events_for plan m S cpu r ids = events_of plan m S (groups_for cpu r ids)

-- nothing may come for the objects from a place on, on whatever processor
abbrev pub NothingAfter : {A : Type 0} → Plan → Meaning A → State A → Rank → List ℕ → ℕ → Type 0
NothingAfter plan m S r ids from = (cpu : ℕ) → events_for plan m S cpu r (drop from ids) ≡ []

-- A place of an object, such that nothing may come for those from another place on before it, on whatever processor. It is any
-- such place, not the first one: whether something may come for its own object isn't said.
pub record NothingBetween {A : Type 0} (plan : Plan) (m : Meaning A) (S : State A) (r : Rank) (ids : List ℕ) (from place : ℕ) : Type 0 where
  pub after : from ≤ place
  pub within : place < length ids
  pub passed : (cpu : ℕ) → events_for plan m S cpu r (drop from ids) ≡ events_for plan m S cpu r (drop place ids)

-- ---- those of a plan

-- a rank for requests has a group for an object: completion routines for a target, the others for a queue
abbrev pub has_group : Plan → Rank → ℕ → Bool
has_group plan rank.Completion id = is_some (target_of plan id)
has_group plan _ id = is_some (queue_of plan id)

-- and the group can have places
abbrev pub is_startable : Plan → Rank → ℕ → Bool
is_startable plan r id = has_group plan r id && can_start_for plan r id

-- the objects for which a rank has groups that can have places, by rising id
abbrev pub startable : Plan → Rank → List ℕ
startable plan r = filter (is_startable plan r) (declared_ids plan)

abbrev pub lists_of : Plan → ObjectLists
lists_of plan = record {
  targets = startable plan rank.Completion;
  cancels = startable plan rank.Cancel;
  returns = startable plan rank.CanceledOnQueue;
  stops = startable plan rank.Stop;
  resumes = startable plan rank.Resume;
}
