-- At each place of every run nothing waits in a queue that is Purged, nor right after a purge.
use Rattle.std.proofs.Common.{◌≡◌, ℕ, suc, true, List, [], is_some, length, take, ◌∙◌, arith}
use Rattle.std.specs.Prelude.{⊤}
use Rattle.std.proofs.lemmas.List.FromFn.{get_or-map-range_with_len}
use Rattle.wdf_base.specs.Meaning.{Meaning}
use Rattle.wdf_base.specs.declared.plan.Plan.{Plan}
use Rattle.wdf_base.specs.declared.event.Event.{Event}
use Rattle.wdf_model.specs.declared.enums.Mode.TheVariants.{Purged}
use Rattle.wdf_model.specs.Plans.{device_of_queue, queue_of}
use Rattle.wdf_model.specs.parts.Queues.{waiting_in}
use Rattle.wdf_model.specs.State.{State, opening}
use Rattle.wdf_model.specs.rules.Ready.{IsRunOf, state_after}
use Rattle.law_machine_lives.proofs.Keeping.{each_place_by}
use Rattle.law_queue_modes.specs.Modes.{PurgedAreEmpty, mode_told}
use Rattle.law_queue_modes.proofs.Told.{is_within, opens_told, told_at}
use Rattle.law_queue_modes.proofs.Empty.{EmptyIn}
use Rattle.law_queue_modes.proofs.Entering.{event_empty}

opens : {A : Type 0} (plan : Plan) (m : Meaning A) → EmptyIn plan (opening plan m)
opens plan m = record {
  device = λ q h. (opens_told plan q h).device;
  empty = λ q h purged. get_or-map-range_with_len {X = List ℕ} (λ _. []) 0 (suc (length plan.declared)) q q [] (is_within plan q h) (omega arith);
}

empty_at : {A : Type 0} (plan : Plan) (m : Meaning A) (run : List Event) → IsRunOf plan m run → (n : ℕ) → EmptyIn plan (state_after plan m (take n run))
empty_at {A} plan m run is_run n =
    each_place_by plan m (λ (S : State A). ⊤) (λ (S : State A). EmptyIn plan S) (λ es r. tt) (opens plan m) (λ S e known h k. event_empty plan m S e h k) (λ S time k. k) run is_run n

pub purged_at_each : {A : Type 0} (plan : Plan) (m : Meaning A) (run : List Event) → IsRunOf plan m run → (n : ℕ) → PurgedAreEmpty plan (state_after plan m (take n run))
purged_at_each plan m run is_run n = λ q h purged. (empty_at plan m run is_run n).empty q h purged

pub told_purged : {A : Type 0} (plan : Plan) (m : Meaning A) (run : List Event) → IsRunOf plan m run → (n q : ℕ) → is_some (queue_of plan q) ≡ true → mode_told (device_of_queue plan q) q (take n run) ≡ Purged
    → waiting_in (state_after plan m (take n run)).queues q ≡ []
told_purged plan m run is_run n q h told = (empty_at plan m run is_run n).empty q h ((told_at plan m run is_run n q h).mode ∙ told)
