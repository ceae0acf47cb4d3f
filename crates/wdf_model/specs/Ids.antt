-- The ids of the code's types, of the numbers by which the definitions speak of them.
use Rattle.std.specs.Prelude.{ℕ}
use Rattle.wdf_base.specs.declared.ids.ObjectId.{ObjectId}
use Rattle.wdf_base.specs.declared.ids.FrameId.{FrameId}
use Rattle.wdf_base.specs.declared.ids.Cpu.{Cpu}
use Rattle.wdf_base.specs.declared.ids.Irql.{Irql}

-- the id of object o, as the code's types hold it
abbrev pub object_id : ℕ → ObjectId
object_id o = record { 0 = o }

-- the number of frame f, which is that of the event that started it
abbrev pub frame_id : ℕ → FrameId
frame_id f = record { 0 = f }

-- processor number cpu, from 0
abbrev pub cpu_of : ℕ → Cpu
cpu_of cpu = record { 0 = cpu }

-- an interrupt request level (IRQL): PASSIVE_LEVEL is 0, DISPATCH_LEVEL is 2, device levels are 3 to 12
abbrev pub irql_of : ℕ → Irql
irql_of level = record { 0 = level }
