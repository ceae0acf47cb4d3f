-- The events that give no value of a script: starts of callbacks, moves of frames, and those of the framework and the clock.
use Rattle.std.specs.Prelude.{Bool, true, false}
use Rattle.wdf_base.specs.declared.event.Event.{Event}
use Rattle.wdf_base.specs.declared.event.Event.TheVariants as event

abbrev pub is_of_framework : Event → Bool
is_of_framework (event.Start cpu c o r) = true
is_of_framework (event.Park cpu f) = true
is_of_framework (event.Unpark cpu f) = true
is_of_framework (event.Stage d s i) = true
is_of_framework (event.Complete r s) = true
is_of_framework (event.Cleanup o) = true
is_of_framework (event.Destroy o) = true
is_of_framework (event.Tick n) = true
is_of_framework _ = false
