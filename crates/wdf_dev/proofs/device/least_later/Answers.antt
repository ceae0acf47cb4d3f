-- The least of the later ticks is what `min` finds.
use Rattle.std.proofs.Common.{rules, tests, sym, ◌∙◌}
use Rattle.std.proofs.lemmas.Iterator.{YieldsList-from_slice}
use Rattle.std.proofs.lemmas.Iterator.Adapters.{option_map_id}
use Rattle.std.proofs.lemmas.Iterator.Consumers.{YieldsList-from_filter_map, min_from_yields_List}
use Rattle.wdf_model.specs.declared.entries.DeviceAction.{DeviceAction}
use Rattle.wdf_model.specs.agents.Device.{later_tick}
use Rattle.wdf_maps.proofs.Leasts.{least_by_min}
use Rattle.wdf_dev.proofs.device.least_later.Goals as goal

pub returns : goal.returns
returns c =
    sym (option_map_id c.min.result)
    ∙ min_from_yields_List _ _ c.min.ensures.ran (YieldsList-from_filter_map _ (λ (a : DeviceAction). later_tick c.args.now a.tick) (YieldsList-from_slice c.args.actions.now cc) c.filter_map.ensures.closure (λ x r q k. search (rules, tests)))
    ∙ least_by_min _
