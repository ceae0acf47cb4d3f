-- What the parts of a state are after an arrival.
use Rattle.std.proofs.Common.{◌≡◌, ℕ, refl}
use Rattle.wdf_base.specs.declared.object.Place.{Place}
use Rattle.wdf_base.specs.declared.object.Place.TheVariants as place
use Rattle.wdf_base.specs.declared.object.RequestInfo.{RequestInfo}
use Rattle.wdf_model.specs.parts.Requests as requests
use Rattle.wdf_model.specs.parts.Tree.{next_id}
use Rattle.wdf_model.specs.parts.Tree as tree
use Rattle.wdf_model.specs.State.{State}
use Rattle.wdf_model.specs.rules.Deeds.{arrive_at}

pub arrived_tree : {A : Type 0} (S : State A) (device : ℕ) (info : RequestInfo) (p : Place) → (arrive_at S device info p).tree ≡ tree.arrive S.tree device
arrived_tree S device info (place.Queued q) = refl
arrived_tree S device info _ = refl

pub arrived_requests : {A : Type 0} (S : State A) (device : ℕ) (info : RequestInfo) (p : Place) → (arrive_at S device info p).requests ≡ requests.arrive S.requests (next_id S.tree) p info
arrived_requests S device info (place.Queued q) = refl
arrived_requests S device info _ = refl

pub arrived_locks : {A : Type 0} (S : State A) (device : ℕ) (info : RequestInfo) (p : Place) → (arrive_at S device info p).locks ≡ S.locks
arrived_locks S device info (place.Queued q) = refl
arrived_locks S device info _ = refl

pub arrived_power : {A : Type 0} (S : State A) (device : ℕ) (info : RequestInfo) (p : Place) → (arrive_at S device info p).power ≡ S.power
arrived_power S device info (place.Queued q) = refl
arrived_power S device info _ = refl

pub arrived_cpus : {A : Type 0} (S : State A) (device : ℕ) (info : RequestInfo) (p : Place) → (arrive_at S device info p).cpus ≡ S.cpus
arrived_cpus S device info (place.Queued q) = refl
arrived_cpus S device info _ = refl

pub arrived_pnp : {A : Type 0} (S : State A) (device : ℕ) (info : RequestInfo) (p : Place) → (arrive_at S device info p).pnp ≡ S.pnp
arrived_pnp S device info (place.Queued q) = refl
arrived_pnp S device info _ = refl

pub arrived_targets : {A : Type 0} (S : State A) (device : ℕ) (info : RequestInfo) (p : Place) → (arrive_at S device info p).targets ≡ S.targets
arrived_targets S device info (place.Queued q) = refl
arrived_targets S device info _ = refl
