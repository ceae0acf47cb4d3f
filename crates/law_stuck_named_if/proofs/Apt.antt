-- What is so where a deed is done, beside what fits and is sound: of classes, handlers, deferred work and parked frames.
use Rattle.std.proofs.Common.{◌≡◌, ℕ, true, false, List, ◌⊎◌, None, Some, is_some}
use Rattle.std.specs.Prelude.{⊤}
use Rattle.wdf_base.specs.declared.plan.Plan.{Plan}
use Rattle.wdf_base.specs.declared.object.Kind.TheVariants as kind
use Rattle.wdf_base.specs.Same.{same_kind}
use Rattle.wdf_model.specs.Tables.{contains}
use Rattle.wdf_model.specs.Plans.{kind_of_class}
use Rattle.wdf_model.specs.parts.Tree.{kind_of}
use Rattle.wdf_model.specs.parts.Cpus.{frame_of, top}
use Rattle.wdf_model.specs.parts.Requests.{info_of}
use Rattle.wdf_model.specs.State.{State}
use Rattle.wdf_model.specs.declared.deed.Deed.{Deed}
use Rattle.wdf_model.specs.declared.deed.Deed.TheVariants.{Create, MakeRequest, Arrive, PushFrame, GoOn, PopFrame, ParkFrame, Requeue, Forward, GiveBack, EnqueueDpc, EnqueueWork, StartTimer}
use Rattle.wdf_model.specs.rules.Calls.{origin_or_none}
use Rattle.law_machine_lives.proofs.AllOf.{AllOf}
use Rattle.law_machine_lives.proofs.Reasons.{IsTaken, has_function, takes}

abbrev pub Apt : {A : Type 0} → Plan → Deed → State A → Type 0
-- an object is of its class's kind
Apt plan (Create k class parent) S = kind_of_class plan class ≡ k
Apt plan (MakeRequest class parent) S = kind_of_class plan class ≡ kind.Made
-- a request waits where it is taken, and goes back to where it came from
Apt plan (Arrive device info p) S = (info.origin ≡ None) × IsTaken plan p info.form
Apt plan (Requeue r q) S = origin_or_none S r.0 ≡ q.0
Apt plan (Forward r q) S = takes plan q.0 (info_of S.requests r.0).form ≡ true
Apt plan (GiveBack r q) S = (origin_or_none S r.0 ≡ q.0) ⊎ (takes plan q.0 (info_of S.requests r.0).form ≡ true)
-- the frame that begins, goes on or ends isn't parked, and the one that parks waits in a call
Apt plan (PushFrame cpu f frame level) S = contains f.0 S.cpus.parked ≡ false
Apt plan (GoOn f next) S = contains f.0 S.cpus.parked ≡ false
Apt plan (PopFrame cpu) S = (f : ℕ) × (top S.cpus cpu.0 ≡ Some f) × (contains f S.cpus.parked ≡ false)
Apt plan (ParkFrame cpu) S = (f : ℕ) × (top S.cpus cpu.0 ≡ Some f) × (is_some (frame_of S.cpus f).pending ≡ true)
-- what is queued has its function
Apt plan (EnqueueDpc cpu o) S = has_function plan S o.0 ≡ true
Apt plan (EnqueueWork o) S = same_kind (kind_of S.tree o.0) kind.WorkItem ≡ true
Apt plan (StartTimer o ticks) S = same_kind (kind_of S.tree o.0) kind.Timer ≡ true
Apt plan _ S = ⊤

-- each of some deeds is so where it is done
abbrev pub AllApt : {A : Type 0} → Plan → List Deed → State A → Type 0
AllApt {A} plan ds S = AllOf plan (λ (d : Deed) (U : State A). Apt plan d U) ds S
