-- The deletion of an object is asked: what of the state this concerns.
use Rattle.std.specs.Prelude.{if◌then◌else◌, ℕ}
use Rattle.wdf_base.specs.Lives.{is_live}
use Rattle.wdf_model.specs.parts.Deferred.Dpcs as dpcs_of
use Rattle.wdf_model.specs.parts.Deferred.Dpcs.{Dpcs}
use Rattle.wdf_model.specs.parts.Deferred.Timers as timers_of
use Rattle.wdf_model.specs.parts.Deferred.Timers.{Timers}
use Rattle.wdf_model.specs.parts.Deferred.WorkItems as work_items_of
use Rattle.wdf_model.specs.parts.Deferred.WorkItems.{WorkItems}
use Rattle.wdf_model.specs.parts.Tree.{Tree, ask_one, life_of}

-- the tree, and the queues that an object leaves
pub record Askable : Type 0 where
  pub tree : Tree
  pub dpcs : Dpcs
  pub work_items : WorkItems
  pub timers : Timers

abbrev pub askable : Tree → Dpcs → WorkItems → Timers → Askable
askable tree dpcs work_items timers = record { tree = tree; dpcs = dpcs; work_items = work_items; timers = timers }

-- the deletion of one object is asked, and it leaves its queues, if it is live
abbrev pub asked : Askable → ℕ → Askable
asked P o =
    if is_live (life_of P.tree o) then record {
      tree = ask_one P.tree o;
      dpcs = dpcs_of.cancel P.dpcs o;
      work_items = work_items_of.cancel P.work_items o;
      timers = timers_of.stop P.timers o;
    } else P
