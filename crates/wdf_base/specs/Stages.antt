-- A test of the stages of Plug and Play and power sequences.
use Rattle.std.specs.Prelude.{Bool, true, false}
use Rattle.wdf_base.specs.declared.event.Stage.{Stage}
use Rattle.wdf_base.specs.declared.event.Stage.TheVariants as stage

-- whether a stage is passed for one interrupt
abbrev pub is_for_interrupt : Stage → Bool
is_for_interrupt stage.Enabled = true
is_for_interrupt stage.Disabled = true
is_for_interrupt _ = false
