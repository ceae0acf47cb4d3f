-- What the opening has, and each deed that fits and is sound keeps, is so at each place of every run.
use Rattle.std.proofs.Common.{◌≡◌, ℕ, true, List, take, refl}
use Rattle.wdf_base.specs.Meaning.{Meaning}
use Rattle.wdf_base.specs.declared.plan.Plan.{Plan}
use Rattle.wdf_base.specs.declared.event.Event.{Event}
use Rattle.wdf_base.specs.declared.event.Event.TheVariants as event
use Rattle.wdf_model.specs.State.{State, opening}
use Rattle.wdf_model.specs.declared.deed.Deed.{Deed}
use Rattle.wdf_model.specs.declared.deed.Deed.TheVariants.{PassTick}
use Rattle.wdf_model.specs.rules.Deeds.{counted, do_deed, do_deeds}
use Rattle.wdf_model.specs.rules.Steps.{after, deeds, may}
use Rattle.wdf_model.specs.rules.Ready.{IsRunOf, state_after}
use Rattle.law_machine_base.specs.Fits.{fits}
use Rattle.law_machine_base.proofs.FitsOfEvents.{event_fits}
use Rattle.law_machine_lives.proofs.Keeping.{Known, each_place_by, known_now}
use Rattle.law_machine_lives.proofs.AllOf.{all_keep}
use Rattle.law_machine_lives.proofs.Sound.{AllSound, Sound}
use Rattle.law_machine_lives.proofs.SoundEvents.{event_sound}
use Rattle.law_machine_lives.proofs.Framing.{Framing, framing_now, holds_none}

-- what is known of a state of a run, of its frames and locks too
pub record KnownAll {A : Type 0} (plan : Plan) (S : State A) : Type 0 where
  pub known : Known plan S
  pub framing : Framing plan S

pub all_known : {A : Type 0} (plan : Plan) (m : Meaning A) (run : List Event) → IsRunOf plan m run → KnownAll plan (state_after plan m run)
all_known plan m run is_run = record { known = known_now plan m run is_run; framing = framing_now plan m run is_run }

pub all_sound : {A : Type 0} (plan : Plan) (m : Meaning A) (S : State A) (e : Event) → KnownAll plan S → may plan m S e ≡ true → AllSound plan (deeds plan S e) S
all_sound plan m S e k may_come = event_sound plan m S e k.known (holds_none plan S k.framing) may_come

pub known_place : {A : Type 0} (plan : Plan) (m : Meaning A) (Q : State A → Type 0) → Q (opening plan m)
    → ((S : State A) (e : Event) → KnownAll plan S → may plan m S e ≡ true → Q S → Q (after plan m S e))
    → ((S : State A) (time : ℕ) → Q S → Q (after plan m S (event.Tick time)))
    → (run : List Event) → IsRunOf plan m run → (n : ℕ) → Q (state_after plan m (take n run))
known_place plan m Q = each_place_by plan m (KnownAll plan) Q (all_known plan m)

pub sound_place : {A : Type 0} (plan : Plan) (m : Meaning A) (Q : State A → Type 0) → Q (opening plan m)
    → ((d : Deed) (S : State A) → fits plan d S ≡ true → Sound plan d S → Q S → Q (do_deed plan d S))
    → ((e : Event) (S : State A) → Q S → Q (counted m e S))
    → (run : List Event) → IsRunOf plan m run → (n : ℕ) → Q (state_after plan m (take n run))
sound_place {A} plan m Q opens keeps more run is_run n = known_place plan m Q opens
    (λ S e k may_come q. more e (do_deeds plan (deeds plan S e) S) (all_keep plan (λ (d : Deed) (U : State A). Sound plan d U) Q keeps (deeds plan S e) S (event_fits plan m S e may_come) (all_sound plan m S e k may_come) q))
    (λ S time q. more (event.Tick time) (do_deed plan PassTick S) (keeps PassTick S refl tt q))
    run is_run n
