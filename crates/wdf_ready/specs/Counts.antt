-- Counts that are kept from event to event: of which groups they may have changed, and what holds of the others. (own)
use Rattle.std.specs.Prelude.{ℕ, ◌≡◌, ◌*◌, ◌<◌, ◌≤◌, ◌^◌, ◌⊎◌, Bool, true, false, ◌==◌, ◌||◌, List, length, slice_get, get_or, Some}
use Rattle.wdf_base.specs.Meaning.{Meaning}
use Rattle.wdf_base.specs.declared.event.Event.{Event}
use Rattle.wdf_base.specs.declared.event.Event.TheVariants as event
use Rattle.wdf_base.specs.declared.plan.Plan.{Plan}
use Rattle.wdf_base.specs.declared.rank.Rank.TheVariants as rank
use Rattle.wdf_model.specs.declared.enums.Group.{Group}
use Rattle.wdf_model.specs.declared.enums.Group.TheVariants as group
use Rattle.wdf_model.specs.State.{State}
use Rattle.wdf_ready.specs.Blocks.{Grouping, block_len, groups_in}
use Rattle.wdf_ready.specs.declared.blocks.Block.{Block}
use Rattle.wdf_ready.specs.declared.blocks.Block.TheVariants as block
use Rattle.wdf_ready.specs.declared.stale.Stale.{Stale}
use Rattle.wdf_ready.specs.declared.stale.Stale.TheVariants as stale

-- ---- of which groups a count may have changed

-- a group reads what the agents show or have due
abbrev pub reads_agents : Group → Bool
-- what frames spend, and what registers hold
reads_agents (group.OwnEvent cpu) = true
-- level lines
reads_agents (group.Starts cpu rank.Isr) = true
reads_agents group.Posts = true
reads_agents _ = false

-- a group is the starts of timers
abbrev pub is_timed : Group → Bool
is_timed (group.Starts cpu rank.Timed) = true
is_timed _ = false

-- a group is the own event of this processor
abbrev pub is_own : ℕ → Group → Bool
is_own cpu (group.OwnEvent on) = cpu == on
is_own cpu _ = false

-- the count of a group may have changed
abbrev pub is_stale : Stale → Group → Bool
is_stale stale.Nothing g = false
is_stale (stale.Own cpu) g = is_own cpu g
is_stale stale.OfAgents g = reads_agents g
is_stale stale.OfTime g = reads_agents g || is_timed g
is_stale stale.Everything g = true

-- The count of a block may have changed. Whether that of a group for requests may doesn't depend on its object.
abbrev pub has_stale : Stale → Block → Bool
has_stale s (block.One g) = is_stale s g
has_stale s (block.ForEach cpu r) = is_stale s (group.StartsFor cpu r 0)

-- those that an event may touch: one row for each kind of which less than everything is known
abbrev pub stale_by : Event → Stale
stale_by (event.Local cpu line) = stale.Own cpu.0
stale_by (event.Log cpu v) = stale.Own cpu.0
stale_by (event.Spend cpu n) = stale.OfAgents
stale_by (event.Register cpu a k v) = stale.OfAgents
stale_by (event.Tick time) = stale.OfTime
stale_by _ = stale.Everything

-- after one event more
abbrev pub stale_after : Stale → Event → Stale
stale_after stale.Nothing e = stale_by e
stale_after _ e = stale.Everything

-- ---- the counts

pub record Counts : Type 0 where
  pub each : List ℕ
  pub stale : Stale

-- There is a count for each block, none of them large. A count that is known, since it can't have changed, is the number
-- of events that the block's groups offer in this state.
pub record IsKept {A : Type 0} (plan : Plan) (m : Meaning A) (S : State A) (all : Grouping) (c : Counts) : Type 0 where
  pub filled : length c.each ≡ length all.blocks
  pub small : (i : ℕ) (b : Block) → slice_get all.blocks i ≡ Some b → get_or c.each i 0 ≤ length (groups_in all.objects b) * 2 ^ 32
  pub known : (i : ℕ) (b : Block) → slice_get all.blocks i ≡ Some b → has_stale c.stale b ≡ false → get_or c.each i 0 ≡ block_len plan m S all.objects b

-- the counts of the blocks up to a place are right, and so are those of the others that are known
pub record IsCountedTo {A : Type 0} (plan : Plan) (m : Meaning A) (S : State A) (all : Grouping) (s : Stale) (each : List ℕ) (at : ℕ) : Type 0 where
  pub filled : length each ≡ length all.blocks
  pub small : (i : ℕ) (b : Block) → slice_get all.blocks i ≡ Some b → get_or each i 0 ≤ length (groups_in all.objects b) * 2 ^ 32
  pub right : (i : ℕ) (b : Block) → slice_get all.blocks i ≡ Some b → (i < at) ⊎ (has_stale s b ≡ false) → get_or each i 0 ≡ block_len plan m S all.objects b

-- counts for so many blocks, of which nothing is known
pub record Unknown (blocks : ℕ) (c : Counts) : Type 0 where
  pub filled : length c.each ≡ blocks
  pub zeros : (i : ℕ) → get_or c.each i 0 ≡ 0
  pub nothing : c.stale ≡ stale.Everything
