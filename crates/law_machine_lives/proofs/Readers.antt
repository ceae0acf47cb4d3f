-- Parts of a state.
use Rattle.wdf_model.specs.parts.Tree.{Tree}
use Rattle.wdf_model.specs.State.{State}
use Rattle.wdf_model.specs.parts.Requests.{Requests}
use Rattle.wdf_model.specs.parts.Cpus.{Cpus}
use Rattle.wdf_model.specs.parts.Locks.{Locks}
use Rattle.wdf_model.specs.parts.Power.{Power}

abbrev pub tree_of : {A : Type 0} → State A → Tree
tree_of S = S.tree

abbrev pub requests_of : {A : Type 0} → State A → Requests
requests_of S = S.requests

abbrev pub cpus_of : {A : Type 0} → State A → Cpus
cpus_of S = S.cpus

abbrev pub locks_of : {A : Type 0} → State A → Locks
locks_of S = S.locks

abbrev pub power_of : {A : Type 0} → State A → Power
power_of S = S.power
