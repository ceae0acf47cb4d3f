-- The DPC list of each processor. (KMDF)
use Rattle.std.specs.Prelude.{ℕ, Bool, List, [], ◌∷◌, ◌++◌, map, drop, replicate, Option}
use Rattle.std.specs.List.{list_any}
use Rattle.wdf_base.specs.declared.plan.Plan.{Plan}
use Rattle.wdf_model.specs.Tables.{entry, put, contains, without, first_of_list}

-- the DPC lists; an interrupt is in them for its EvtInterruptDpc, a DPC object for its EvtDpcFunc
pub record Dpcs : Type 0 where
  -- for each processor the ids of its queued DPC objects and interrupts, the first first
  pub lists : List (List ℕ)

-- ---- readers

-- the DPC list of a processor, empty for one that isn't there
abbrev pub dpcs_of : Dpcs → ℕ → List ℕ
dpcs_of D cpu = entry [] D.lists cpu

-- the id that is first in a processor's DPC list: the only one of the list whose callback may start
abbrev pub dpc_head : Dpcs → ℕ → Option ℕ
dpc_head D cpu = first_of_list (dpcs_of D cpu)

-- whether DPC or interrupt o is in the list of any processor: it is queued at most once
abbrev pub is_dpc_queued : Dpcs → ℕ → Bool
is_dpc_queued D o = list_any (contains o) D.lists

-- DPC or interrupt o is put last in the list of this processor, the one on which the call was made
abbrev pub enqueue : Dpcs → ℕ → ℕ → Dpcs
enqueue D cpu o = record { lists = put [] D.lists cpu (dpcs_of D cpu ++ o ∷ []) }

-- DPC or interrupt o leaves the list in which it is; nothing changes where it is in none
abbrev pub cancel : Dpcs → ℕ → Dpcs
cancel D o = record { lists = map (without o) D.lists }

-- the first of a processor's list leaves it, as its callback starts
abbrev pub take : Dpcs → ℕ → Dpcs
take D cpu = record { lists = put [] D.lists cpu (drop 1 (dpcs_of D cpu)) }

-- ---- the opening

-- at the opening the list of each processor is empty
abbrev pub opening_dpcs : Plan → Dpcs
opening_dpcs plan = record { lists = replicate plan.cpus [] }
