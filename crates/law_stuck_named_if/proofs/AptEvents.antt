-- The deeds of each event are apt.
use Rattle.std.proofs.Common.{◌≡◌, ℕ, true, inl, inr}
use Rattle.std.specs.Prelude.{⊤}
use Rattle.wdf_base.specs.Meaning.{Meaning}
use Rattle.wdf_base.specs.declared.plan.Plan.{Plan}
use Rattle.wdf_base.specs.declared.event.Event.{Event}
use Rattle.wdf_model.specs.State.{State}
use Rattle.wdf_model.specs.declared.deed.Deed.{Deed}
use Rattle.wdf_model.specs.declared.deed.Deed.TheVariants.{Create, MakeRequest, Arrive, PushFrame, GoOn, PopFrame, ParkFrame, Requeue, Forward, GiveBack, EnqueueDpc, EnqueueWork, StartTimer}
use Rattle.wdf_model.specs.rules.Steps.{deeds, may}
use Rattle.law_machine_lives.proofs.Keeping.{Known}
use Rattle.law_machine_lives.proofs.AllOf.{all_give}
use Rattle.law_machine_lives.proofs.Reasons.{Reason}
use Rattle.law_machine_lives.proofs.ReasonsOfEvents.{event_given, off_by_none, off_by_top}
use Rattle.law_stuck_named_if.proofs.Apt.{AllApt, Apt}

-- no more is asked of a frame that ends
abbrev NoMore : {A : Type 0} → ℕ → State A → Type 0
NoMore f S = ⊤

apt_by : {A : Type 0} (plan : Plan) (d : Deed) (S : State A) → Reason plan NoMore d S → Apt plan d S
apt_by plan (Create k class parent) S r = r
apt_by plan (MakeRequest class parent) S r = r
apt_by plan (Arrive device info p) S r = (r.1, r.3)
apt_by plan (PushFrame cpu f frame level) S r = off_by_none S.cpus f.0 r.1
apt_by plan (GoOn f next) S r = r.1
apt_by plan (PopFrame cpu) S r = (r.0, r.1, off_by_top S.cpus cpu.0 r.0 r.1 r.2)
apt_by plan (ParkFrame cpu) S r = r
apt_by plan (Requeue r q) S k = k
apt_by plan (Forward r q) S k = k.1
apt_by plan (GiveBack r q) S (inl e) = inl e
apt_by plan (GiveBack r q) S (inr k) = inr k.1
apt_by plan (EnqueueDpc cpu o) S r = r.1
apt_by plan (EnqueueWork o) S r = r.1
apt_by plan (StartTimer o ticks) S r = r.1
apt_by plan _ S r = tt

pub event_apt : {A : Type 0} (plan : Plan) (m : Meaning A) (S : State A) (e : Event) → Known plan S → may plan m S e ≡ true → AllApt plan (deeds plan S e) S
event_apt {A} plan m S e known h =
    all_give plan (λ (d : Deed) (U : State A). Reason plan NoMore d U) (λ (d : Deed) (U : State A). Apt plan d U) (apt_by plan) (deeds plan S e) S (event_given plan NoMore m S e known (λ cpu c o v d. tt) h)
