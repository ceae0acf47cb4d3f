-- What an agent has before it: the place of the first that is due, and the least later tick.
use Rattle.std.specs.Prelude.{ℕ, List}
use Rattle.std.specs.List.{filter_map, position_or_len}
use Rattle.wdf_model.specs.declared.entries.DeviceAction.{DeviceAction}
use Rattle.wdf_model.specs.declared.entries.SentRequest.{SentRequest}
use Rattle.wdf_model.specs.Tables.{least}
use Rattle.wdf_model.specs.agents.Device.{later_tick}
use Rattle.wdf_model.specs.agents.LowerTarget.{is_due_sent, later_sent}
use Rattle.wdf_dev.specs.Actions.{is_due}
use Rattle.wdf_dev.specs.declared.ahead.Ahead.{Ahead}

-- of a device's actions
abbrev pub ahead_of_actions : ℕ → List DeviceAction → Ahead
ahead_of_actions now actions = record {
  first = position_or_len (is_due now) actions;
  next = least (filter_map (λ (a : DeviceAction). later_tick now a.tick) actions);
}

-- of what is sent to a target
abbrev pub ahead_of_sent : ℕ → List SentRequest → Ahead
ahead_of_sent now sent = record {
  first = position_or_len (is_due_sent now) sent;
  next = least (filter_map (later_sent now) sent);
}
