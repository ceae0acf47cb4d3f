-- The numbers are those that the definitions compute.
use Rattle.std.proofs.Common.{refl}
use Rattle.wdf_model.specs.rules.Script.{value_of}
use Rattle.law_ready_worked.proofs.Counts.{serial_port}
use Rattle.law_ready_worked.proofs.ready_len_after.Goals as goal

pub returns : goal.returns
unfolding value_of
returns c = serial_port _ c.args.k refl c.requires
