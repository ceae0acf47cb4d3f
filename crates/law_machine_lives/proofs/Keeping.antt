-- What the opening has and each event keeps is so at each place of every run.
use Rattle.std.proofs.Common.{◌≡◌, ℕ, ◌+◌, ◌≤◌, true, List, [], ◌∷◌, ◌⊎◌, inl, inr, length, take, sym, subst, Some, slice_get}
use Rattle.std.proofs.Math.Seq.{take-length}
use Rattle.wdf_base.specs.Meaning.{Meaning}
use Rattle.wdf_base.specs.declared.plan.Plan.{Plan}
use Rattle.wdf_base.specs.declared.event.Event.{Event}
use Rattle.wdf_base.specs.declared.event.Event.TheVariants as event
use Rattle.wdf_model.specs.State.{State, opening}
use Rattle.wdf_model.specs.declared.deed.Deed.{Deed}
use Rattle.wdf_model.specs.rules.Deeds.{do_deed, do_deeds}
use Rattle.wdf_model.specs.rules.Steps.{after, may}
use Rattle.wdf_model.specs.rules.Ready.{IsRunOf, ready, state_after}
use Rattle.law_machine_base.specs.FactsOfEvents.{IsTick}
use Rattle.law_machine_base.specs.Fits.{all_fit, fits}
use Rattle.law_machine_base.specs.OverRuns.{DeclaredAgree, FramesAgree, PlacesAgree}
use Rattle.wdf_model.specs.Runs.{IsRun}
use Rattle.wdf_model.proofs.Runs.{along_run}
use Rattle.wdf_model.proofs.Tests.{both_left, both_right}
use Rattle.law_machine_base.proofs.Follows.{follows, state_goes_on}
use Rattle.law_machine_base.proofs.Kept.{arrived, is_request}
use Rattle.law_machine_base.proofs.LawsOverRuns.{history_now}
use Rattle.law_machine_counts.proofs.DeclaredOverRuns.{declared_agree_at_each}
use Rattle.law_machine_counts.proofs.StepsOverRuns.{frames_agree_at_each}

-- what other laws say of a state of a run
pub record Known {A : Type 0} (plan : Plan) (S : State A) : Type 0 where
  pub places : PlacesAgree S
  pub frames : FramesAgree S
  pub declared : DeclaredAgree plan S
  -- a request has the id of its object, and an object of the kind Request arrived
  pub room : length S.requests.all ≤ length S.tree.nodes
  pub kinds : (r : ℕ) → is_request S.tree r ≡ true → arrived S.requests r ≡ true

pub known_now : {A : Type 0} (plan : Plan) (m : Meaning A) (run : List Event) → IsRunOf plan m run → Known plan (state_after plan m run)
known_now plan m run is_run =
    let k = (history_now plan m run is_run).kept in
    record {
      places = record { queued = k.queued; sent = k.sent };
      frames = subst (λ (es : List Event). FramesAgree (state_after plan m es)) (take-length run) (frames_agree_at_each plan m run is_run (length run));
      declared = subst (λ (es : List Event). DeclaredAgree plan (state_after plan m es)) (take-length run) (declared_agree_at_each plan m run is_run (length run));
      room = k.room;
      kinds = k.kinds;
    }

first_place : {A : Type 0} (plan : Plan) (m : Meaning A) (Q : State A → Type 0) → Q (opening plan m) → Q (state_after plan m [])
unfolding state_after
first_place plan m Q opens = opens

either_keeps : {A : Type 0} (plan : Plan) (m : Meaning A) (Q : State A → Type 0) (S : State A) (offered : List Event) (e : Event) → (may plan m S e ≡ true) ⊎ IsTick m S offered e
    → (may plan m S e ≡ true → Q S → Q (after plan m S e)) → ((time : ℕ) → Q S → Q (after plan m S (event.Tick time))) → Q S → Q (after plan m S e)
either_keeps plan m Q S offered e (inl h) keeps ticks q = keeps h q
either_keeps plan m Q S offered e (inr t) keeps ticks q = subst (λ x. Q (after plan m S x)) (sym t.tick) (ticks (S.clock + 1) q)

-- what the opening has and each event keeps, where something is known of the state before it, is so at each place
pub each_place_by : {A : Type 0} (plan : Plan) (m : Meaning A) (K Q : State A → Type 0) → ((run : List Event) → IsRunOf plan m run → K (state_after plan m run)) → Q (opening plan m)
    → ((S : State A) (e : Event) → K S → may plan m S e ≡ true → Q S → Q (after plan m S e))
    → ((S : State A) (time : ℕ) → Q S → Q (after plan m S (event.Tick time)))
    → (run : List Event) → IsRunOf plan m run → (n : ℕ) → Q (state_after plan m (take n run))
each_place_by {A} plan m K Q known opens keeps ticks run is_run n =
    along_run (λ es. Q (state_after plan m es)) (ready plan m) run (first_place plan m Q opens)
    (λ before e place so_far held at. subst Q (sym (state_goes_on plan m before e))
    (either_keeps plan m Q (state_after plan m before) (ready plan m before) e (follows plan m before place e at)
    (keeps (state_after plan m before) e (known before so_far)) (ticks (state_after plan m before)) held))
    is_run n

pub each_place : {A : Type 0} (plan : Plan) (m : Meaning A) (Q : State A → Type 0) → Q (opening plan m)
    → ((S : State A) (e : Event) → Known plan S → may plan m S e ≡ true → Q S → Q (after plan m S e))
    → ((S : State A) (time : ℕ) → Q S → Q (after plan m S (event.Tick time)))
    → (run : List Event) → IsRunOf plan m run → (n : ℕ) → Q (state_after plan m (take n run))
each_place plan m Q = each_place_by plan m (Known plan) Q (known_now plan m)

-- at the end of a run
pub at_the_end : {A : Type 0} (plan : Plan) (m : Meaning A) (Q : State A → Type 0) (run : List Event) → Q (state_after plan m (take (length run) run)) → Q (state_after plan m run)
at_the_end plan m Q run h = subst (λ (es : List Event). Q (state_after plan m es)) (take-length run) h

-- what each deed that fits keeps, deeds that fit one after another keep
pub deeds_keep : {A : Type 0} (plan : Plan) (Q : State A → Type 0) → ((d : Deed) (S : State A) → fits plan d S ≡ true → Q S → Q (do_deed plan d S))
    → (ds : List Deed) (S : State A) → all_fit plan ds S ≡ true → Q S → Q (do_deeds plan ds S)
deeds_keep plan Q keeps [] S h q = q
deeds_keep plan Q keeps (d ∷ ds) S h q =
    deeds_keep plan Q keeps ds (do_deed plan d S) (both_right (fits plan d S) (all_fit plan ds (do_deed plan d S)) h)
    (keeps d S (both_left (fits plan d S) (all_fit plan ds (do_deed plan d S)) h) q)

-- an event that isn't a tick may come
pub comes : {A : Type 0} (plan : Plan) (m : Meaning A) (run : List Event) (k : ℕ) (e : Event) → IsRunOf plan m run → slice_get run k ≡ Some e → ((time : ℕ) → e ≡ event.Tick time → ⊥)
    → may plan m (state_after plan m (take k run)) e ≡ true
unfolding IsRun
comes plan m run k e is_run at no_tick = elim (follows plan m (take k run) (is_run k e at).0 e (is_run k e at).1) [
  | inl h ↦ h
  | inr t ↦ absurd (no_tick _ t.tick)
]
