-- The sixteen faults, each once, by computation.
use Rattle.std.proofs.Common.{◌≡◌, map, replicate, Some, None, refl}
use Rattle.wdf_base.specs.declared.words.TheConstants.{FAULTS}
use Rattle.law_machine_base.specs.FactsOfFaults.{MISTAKES, DONE_RIGHT, fault_in_deal}

pub each_mistake : map fault_in_deal MISTAKES ≡ map Some FAULTS
each_mistake = refl

pub none_done_right : map fault_in_deal DONE_RIGHT ≡ replicate 16 None
none_done_right = refl
