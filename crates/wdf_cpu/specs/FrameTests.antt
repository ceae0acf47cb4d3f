-- Tests of a frame.
use Rattle.std.specs.Prelude.{Bool, ◌==◌, ◌&&◌}
use Rattle.wdf_base.specs.declared.frame.Frame.{Frame}
use Rattle.wdf_base.specs.Same.{same_callback}
use Rattle.wdf_model.specs.State.{waits_for}
use Rattle.wdf_cpu.specs.declared.frame_test.FrameTest.{FrameTest}
use Rattle.wdf_cpu.specs.declared.frame_test.FrameTest.TheVariants as tests

abbrev pub passes : FrameTest → Frame → Bool
passes (tests.On o) frame = frame.object.id.0 == o.0
passes (tests.WaitsFor o) frame = waits_for o.0 frame.pending
passes (tests.Runs c device) frame = same_callback frame.callback c && frame.device.id.0 == device.0
