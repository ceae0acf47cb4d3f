-- The parts that the frame sees are those of the state.
use Rattle.wdf_steps.proofs.own.fault_in.Goals as goal

pub returns : goal.returns
returns g c =
    rw (c.tree.ensures, c.requests.ensures, c.targets.ensures, c.power.ensures, c.cpus.ensures, c.locks.ensures) at c.fault_of.ensures
