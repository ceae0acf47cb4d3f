-- The deeds of each event that may come are sound where they are done.
use Rattle.std.proofs.Common.{◌≡◌, ◌≢◌, ℕ, true, inl, inr, Option}
use Rattle.wdf_base.specs.Meaning.{Meaning}
use Rattle.wdf_base.specs.declared.plan.Plan.{Plan}
use Rattle.wdf_base.specs.declared.ids.Handle.{Handle}
use Rattle.wdf_base.specs.declared.value.Value.{Value}
use Rattle.wdf_base.specs.declared.call.Callback.{Callback}
use Rattle.wdf_base.specs.declared.event.Event.{Event}
use Rattle.wdf_model.specs.declared.entries.Held.{Held}
use Rattle.wdf_model.specs.parts.Locks.{lock_of_callback}
use Rattle.wdf_model.specs.State.{State, declared_in}
use Rattle.wdf_model.specs.declared.deed.Deed.{Deed}
use Rattle.wdf_model.specs.declared.deed.Deed.TheVariants.{Arrive, PushFrame, GoOn, PopFrame, ParkFrame, UnparkFrame, TakeLock, Requeue, Forward, GiveBack, EnqueueDpc, EnqueueWork, StartTimer}
use Rattle.wdf_model.specs.rules.Deeds.{do_deeds}
use Rattle.wdf_model.specs.rules.Starts.{release_if_any, start_effect}
use Rattle.wdf_model.specs.rules.Steps.{deeds, may}
use Rattle.law_machine_base.proofs.OwnEvents.{IsEnd}
use Rattle.law_machine_lives.proofs.Keeping.{Known}
use Rattle.law_machine_lives.proofs.Lists.{Each}
use Rattle.law_machine_lives.proofs.AllOf.{all_give}
use Rattle.law_machine_lives.proofs.Sound.{AllSound, Sound}
use Rattle.law_machine_lives.proofs.Reasons.{Reason}
use Rattle.law_machine_lives.proofs.ReasonsOfEvents.{event_given, start_effect_given}
pub use Rattle.law_machine_lives.proofs.ReasonsOfEvents.{Before, same_declared, top_on}

-- a frame that ends holds no lock
abbrev NoLock : {A : Type 0} → ℕ → State A → Type 0
NoLock f S = Each (λ (h : Held). h.frame.0 ≢ f) S.locks.held

sound_by : {A : Type 0} (plan : Plan) (d : Deed) (S : State A) → Reason plan NoLock d S → Sound plan d S
sound_by plan (Arrive device info p) S k = (k.0, k.1, k.2)
sound_by plan (PushFrame cpu f frame level) S k = k
sound_by plan (GoOn f next) S k = k.0
sound_by plan (PopFrame cpu) S k = k
sound_by plan (ParkFrame cpu) S k = (k.0, k.1)
sound_by plan (UnparkFrame cpu f) S k = k
sound_by plan (TakeLock l f by_call) S k = k
sound_by plan (Requeue r q) S k = k
sound_by plan (Forward r q) S k = k.0
sound_by plan (GiveBack r q) S (inl e) = inl e
sound_by plan (GiveBack r q) S (inr k) = inr k.0
sound_by plan (EnqueueDpc cpu o) S k = k.0
sound_by plan (EnqueueWork o) S k = k.0
sound_by plan (StartTimer o ticks) S k = k.0
sound_by plan _ S k = tt

-- a frame that ends holds no lock but that of its callback
abbrev pub HoldsNone : {A : Type 0} → Plan → State A → Type 0
HoldsNone plan S = (cpu : ℕ) (c : Callback) (o : Handle) (v : Value) (d : IsEnd plan S cpu c o v)
    → Each (λ (h : Held). h.frame.0 ≢ d.frame) (do_deeds plan (release_if_any (lock_of_callback plan c o.id.0 (declared_in plan S o.id.0))) S).locks.held

pub event_sound : {A : Type 0} (plan : Plan) (m : Meaning A) (S : State A) (e : Event) → Known plan S → HoldsNone plan S → may plan m S e ≡ true → AllSound plan (deeds plan S e) S
event_sound {A} plan m S e known none h =
    all_give plan (λ (d : Deed) (U : State A). Reason plan NoLock d U) (λ (d : Deed) (U : State A). Sound plan d U) (sound_by plan) (deeds plan S e) S (event_given plan NoLock m S e known none h)

pub start_effect_sound : {A : Type 0} (plan : Plan) (S : State A) (cpu : ℕ) (c : Callback) (o : ℕ) (r : Option Handle)
    → AllSound plan (start_effect plan S cpu c o r) S × Before plan S (do_deeds plan (start_effect plan S cpu c o r) S)
start_effect_sound {A} plan S cpu c o r =
    let k = start_effect_given plan NoLock S cpu c o r in
    (all_give plan (λ (d : Deed) (U : State A). Reason plan NoLock d U) (λ (d : Deed) (U : State A). Sound plan d U) (sound_by plan) (start_effect plan S cpu c o r) S k.0, k.1)
