-- How a frame goes on in its place.
use Rattle.wdf_base.specs.declared.frame.Frame.{Frame}
use Rattle.wdf_model.specs.rules.Steps.{changed}
use Rattle.wdf_cpu.specs.declared.frame_update.FrameUpdate.{FrameUpdate}

-- the frame once it has gone on
abbrev pub gone : FrameUpdate → Frame → Frame
gone update frame = record (changed frame update.change) { at = update.at; until = update.until; pending = update.pending }
