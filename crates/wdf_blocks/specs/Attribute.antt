-- What a block is given by a line.
use Rattle.std.specs.Prelude.{Bool, true, false, Option, Some, None}
use Rattle.wdf_base.specs.declared.call.Callback.{Callback}
use Rattle.wdf_base.specs.declared.object.RequestForm.{RequestForm}
use Rattle.wdf_base.specs.Same.{same_callback, same_request_form}
use Rattle.wdf_scene.specs.declared.line.SceneLine.{SceneLine}
use Rattle.wdf_scene.specs.declared.line.SceneLine.TheVariants as line
use Rattle.wdf_blocks.specs.declared.attribute.Attribute.{Attribute}
use Rattle.wdf_blocks.specs.declared.attribute.Attribute.TheVariants as attribute

-- a line is `for` this type of requests
unfoldable pub gives_form : RequestForm → SceneLine → Bool
gives_form own (line.For f) = same_request_form own f
gives_form own _ = false

-- a line begins this callback
unfoldable pub gives_callback : Callback → SceneLine → Bool
gives_callback own (line.On c) = same_callback own c
gives_callback own _ = false

-- a line gives the attribute
unfoldable pub gives : Attribute → SceneLine → Bool
gives attribute.Scope (line.Scope s) = true
gives attribute.Level (line.Level l) = true
gives attribute.Serialize line.Serialize = true
gives attribute.Period (line.Period n) = true
gives attribute.PowerOff line.PowerOff = true
gives attribute.Zero line.Zero = true
gives attribute.Default line.Default = true
gives (attribute.For own) form = gives_form own form
gives (attribute.On own) form = gives_callback own form
gives _ _ = false

-- a device has the attribute for one of its queues at most
unfoldable pub is_device_wide : Attribute → Bool
is_device_wide attribute.Default = true
is_device_wide (attribute.For f) = true
is_device_wide _ = false

-- the attribute that a line gives
unfoldable pub attribute_of : SceneLine → Option Attribute
attribute_of (line.Scope s) = Some attribute.Scope
attribute_of (line.Level l) = Some attribute.Level
attribute_of line.Serialize = Some attribute.Serialize
attribute_of (line.Period n) = Some attribute.Period
attribute_of line.PowerOff = Some attribute.PowerOff
attribute_of line.Zero = Some attribute.Zero
attribute_of line.Default = Some attribute.Default
attribute_of (line.For f) = Some (attribute.For f)
attribute_of (line.On c) = Some (attribute.On c)
attribute_of _ = None
