-- What is looked for on the processors, one after the other.
use Rattle.std.proofs.Common.{◌≡◌, ℕ, ◌+◌, ◌-◌, ◌<◌, ◌≤◌, Bool, true, false, not, ◌&&◌, Option, None, find, fold, unwrap_or, sym, ap, ◌∙◌}
use Rattle.std.specs.List.{flat_map, list_all, list_any, range_with_len}
use Rattle.wdf_base.specs.declared.plan.Plan.{Plan}
use Rattle.wdf_base.specs.declared.event.Stage.TheVariants as stage
use Rattle.wdf_model.specs.Tables.{contains, least, lesser}
use Rattle.wdf_model.specs.State.{State}
use Rattle.wdf_model.specs.parts.Deferred.Dpcs.{dpcs_of}
use Rattle.wdf_model.specs.rules.Starts.{level_fits}
use Rattle.wdf_model.specs.rules.Waits.{all_cpus, cpu_of_dpc, cpus_with_dpc, has_dpc_of, head_lock, holders_of, no_cpu, stage_cpus}
use Rattle.wdf_maps.specs.Least.{lesser_if}
use Rattle.wdf_causes.specs.Keepers.{head_holders}
use Rattle.wdf_causes.proofs.Ranges.{all_next, all_stops, all_ends, any_filtered, any_next, any_stops, any_ends, range_whole}
use Rattle.wdf_causes.proofs.Searches.{find_next, find_stops, find_ends, flat_map_filtered, least_next, least_ends}

-- ---- whether none can take a start of this level

module _ {A : Type 0} (plan : Plan) (S : State A) (level : ℕ) where
  -- whether none from this one on can
  pub none_from : ℕ → Bool
  none_from cpu = list_all (λ c. not (level_fits S c level)) (range_with_len cpu (plan.cpus - cpu))

  pub none_at_first : none_from 0 ≡ no_cpu plan S level
  unfolding none_from
  none_at_first = ap (list_all (λ c. not (level_fits S c level))) (range_whole plan.cpus)

  pub none_after : (cpu : ℕ) → cpu < plan.cpus → level_fits S cpu level ≡ false → none_from (cpu + 1) ≡ none_from cpu
  unfolding none_from
  none_after cpu h e = all_next (λ c. not (level_fits S c level)) cpu plan.cpus h (ap not e)

  pub none_but_this : (cpu : ℕ) → cpu < plan.cpus → level_fits S cpu level ≡ true → false ≡ none_from cpu
  unfolding none_from
  none_but_this cpu h e = all_stops (λ c. not (level_fits S c level)) cpu plan.cpus h (ap not e)

  pub none_at_all : (cpu : ℕ) → plan.cpus ≤ cpu → true ≡ none_from cpu
  unfolding none_from
  none_at_all cpu h = all_ends (λ c. not (level_fits S c level)) cpu plan.cpus h

-- ---- the processor in whose list a DPC is

module _ {A : Type 0} (plan : Plan) (S : State A) (o : ℕ) where
  -- the first from this one on, else the processor 0
  pub holding_from : ℕ → ℕ
  holding_from cpu = unwrap_or (find (λ c. contains o (dpcs_of S.dpcs c)) (range_with_len cpu (plan.cpus - cpu))) 0

  pub holding_at_first : holding_from 0 ≡ cpu_of_dpc plan S o
  unfolding holding_from
  holding_at_first = ap (λ cpus. unwrap_or (find (λ c. contains o (dpcs_of S.dpcs c)) cpus) 0) (range_whole plan.cpus)

  pub holding_after : (cpu : ℕ) → cpu < plan.cpus → contains o (dpcs_of S.dpcs cpu) ≡ false → holding_from (cpu + 1) ≡ holding_from cpu
  unfolding holding_from
  holding_after cpu h e = ap (λ found. unwrap_or found 0) (find_next (λ c. contains o (dpcs_of S.dpcs c)) cpu plan.cpus h e)

  pub holding_here : (cpu : ℕ) → cpu < plan.cpus → contains o (dpcs_of S.dpcs cpu) ≡ true → cpu ≡ holding_from cpu
  unfolding holding_from
  holding_here cpu h e = ap (λ found. unwrap_or found 0) (find_stops (λ c. contains o (dpcs_of S.dpcs c)) cpu plan.cpus h e)

  pub holding_nowhere : (cpu : ℕ) → plan.cpus ≤ cpu → 0 ≡ holding_from cpu
  unfolding holding_from
  holding_nowhere cpu h = ap (λ found. unwrap_or found 0) (find_ends (λ c. contains o (dpcs_of S.dpcs c)) cpu plan.cpus h)

-- ---- the processors with a DPC of a device in their lists

module _ {A : Type 0} (plan : Plan) (S : State A) (d : ℕ) where
  blocked : ℕ → Bool
  blocked cpu = has_dpc_of plan S d cpu && not (level_fits S cpu 2)

  -- whether one of these from this one on can't take the start of it
  pub blocked_from : ℕ → Bool
  blocked_from cpu = list_any blocked (range_with_len cpu (plan.cpus - cpu))

  pub blocked_at_first : blocked_from 0 ≡ stage_cpus plan S d stage.Quiet
  unfolding blocked_from blocked
  blocked_at_first =
      ap (list_any blocked) (range_whole plan.cpus) ∙ sym (any_filtered (has_dpc_of plan S d) (λ c. not (level_fits S c 2)) (all_cpus plan))

  pub blocked_after : (cpu : ℕ) → cpu < plan.cpus → (has_dpc_of plan S d cpu && not (level_fits S cpu 2)) ≡ false → blocked_from (cpu + 1) ≡ blocked_from cpu
  unfolding blocked_from blocked
  blocked_after cpu h e = any_next blocked cpu plan.cpus h e

  pub blocked_here : (cpu : ℕ) → cpu < plan.cpus → (has_dpc_of plan S d cpu && not (level_fits S cpu 2)) ≡ true → true ≡ blocked_from cpu
  unfolding blocked_from blocked
  blocked_here cpu h e = any_stops blocked cpu plan.cpus h e

  pub blocked_nowhere : (cpu : ℕ) → plan.cpus ≤ cpu → false ≡ blocked_from cpu
  unfolding blocked_from
  blocked_nowhere cpu h = any_ends blocked cpu plan.cpus h

  -- the least of what was found and of those that hold the lock of the first DPC, on these from this one on
  pub heads_from : ℕ → Option ℕ → Option ℕ
  heads_from cpu found = fold lesser found (flat_map (head_holders plan S d) (range_with_len cpu (plan.cpus - cpu)))

  pub heads_at_first : heads_from 0 None ≡ least (flat_map (λ cpu. holders_of S (head_lock plan S cpu)) (cpus_with_dpc plan S d))
  unfolding heads_from
  heads_at_first =
      ap (λ cpus. least (flat_map (head_holders plan S d) cpus)) (range_whole plan.cpus)
      ∙ ap least (sym (flat_map_filtered (has_dpc_of plan S d) (λ cpu. holders_of S (head_lock plan S cpu)) (all_cpus plan)))

  pub heads_after : (cpu : ℕ) (found : Option ℕ) → cpu < plan.cpus → heads_from (cpu + 1) (lesser_if found (least (head_holders plan S d cpu))) ≡ heads_from cpu found
  unfolding heads_from
  heads_after cpu found h = least_next (head_holders plan S d) found cpu plan.cpus h

  pub heads_at_last : (cpu : ℕ) (found : Option ℕ) → plan.cpus ≤ cpu → found ≡ heads_from cpu found
  unfolding heads_from
  heads_at_last cpu found h = least_ends (head_holders plan S d) found cpu plan.cpus h
