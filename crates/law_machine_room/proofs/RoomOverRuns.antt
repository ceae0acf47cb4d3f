-- The room is kept at each place of every run, and each event that may follow can be done. This is the induction
-- along runs, from what an event grows and from the table of what its deeds ask.
use Rattle.std.proofs.Common.{◌≡◌, ℕ, true, List, [], ◌⊎◌, inl, inr, Some, length, take, slice_get, refl, sym, subst}
use Rattle.std.proofs.Math.Seq.{take-length}
use Rattle.wdf_base.specs.Meaning.{Meaning}
use Rattle.wdf_base.specs.declared.plan.Plan.{Plan}
use Rattle.wdf_base.specs.declared.event.Event.{Event}
use Rattle.wdf_model.specs.State.{State, opening}
use Rattle.wdf_model.specs.rules.Steps.{after, deeds, may}
use Rattle.wdf_model.specs.rules.Ready.{IsRunOf, ready, state_after}
use Rattle.law_machine_base.specs.FactsOfEvents.{IsTick}
use Rattle.law_machine_base.specs.Fits.{all_fit}
use Rattle.wdf_model.proofs.Runs.{along_run}
use Rattle.law_machine_base.proofs.Follows.{follows, state_goes_on}
use Rattle.law_machine_base.proofs.FitsOfEvents.{event_fits}
use Rattle.wdf_model.specs.rules.Room.{AreDoable}
use Rattle.law_machine_room.specs.Kept.{GrowthKept, RoomKept}
use Rattle.law_machine_room.proofs.SizesOverEvents.{sizes_kept, sizes_open}
use Rattle.law_machine_room.proofs.NamesOverEvents.{names_kept, names_open}

-- what grows does so by one item an event, at most
abbrev pub GrowsByOne : {A : Type 0} → Plan → Meaning A → Type 0
GrowsByOne {A} plan m = (S : State A) (e : Event) → all_fit plan (deeds plan S e) S ≡ true → AreDoable plan (deeds plan S e) S → RoomKept plan S → GrowthKept plan (after plan m S e)

-- where there is room, each event that may follow a run can be done
abbrev pub DoableByRoom : {A : Type 0} → Plan → Meaning A → Type 0
DoableByRoom plan m = (run : List Event) (k : ℕ) (e : Event) → IsRunOf plan m run → slice_get (ready plan m run) k ≡ Some e → RoomKept plan (state_after plan m run)
    → AreDoable plan (deeds plan (state_after plan m run) e) (state_after plan m run)

comes_fits : {A : Type 0} (plan : Plan) (m : Meaning A) (S : State A) (offered : List Event) (e : Event) → (may plan m S e ≡ true) ⊎ IsTick m S offered e → all_fit plan (deeds plan S e) S ≡ true
comes_fits plan m S offered e (inl may_come) = event_fits plan m S e may_come
comes_fits plan m S offered e (inr t) = subst (λ x. all_fit plan (deeds plan S x) S ≡ true) (sym t.tick) refl

-- the deeds of what may follow a run fit
follows_fits : {A : Type 0} (plan : Plan) (m : Meaning A) (run : List Event) (k : ℕ) (e : Event) → slice_get (ready plan m run) k ≡ Some e → all_fit plan (deeds plan (state_after plan m run) e) (state_after plan m run) ≡ true
follows_fits plan m run k e at = comes_fits plan m (state_after plan m run) (ready plan m run) e (follows plan m run k e at)

room_at_first : {A : Type 0} (plan : Plan) (m : Meaning A) → GrowthKept plan (opening plan m) → RoomKept plan (state_after plan m [])
unfolding state_after
room_at_first plan m opens = record { sizes = sizes_open plan m; growth = opens; names = names_open plan m }

module _ {A : Type 0} (plan : Plan) (m : Meaning A) (opens : GrowthKept plan (opening plan m)) (grows : GrowsByOne plan m) (doable : DoableByRoom plan m) where
  one_event_more : (S : State A) (e : Event) → all_fit plan (deeds plan S e) S ≡ true → AreDoable plan (deeds plan S e) S → RoomKept plan S → RoomKept plan (after plan m S e)
  one_event_more S e fit d k = record { sizes = sizes_kept plan m S e d k.sizes; growth = grows S e fit d k; names = names_kept plan m S e fit d k.sizes k.names }

  pub room_at_each : (run : List Event) → IsRunOf plan m run → (n : ℕ) → RoomKept plan (state_after plan m (take n run))
  room_at_each run is_run n = along_run (λ es. RoomKept plan (state_after plan m es)) (ready plan m) run (room_at_first plan m opens)
      (λ before e place so_far held at. subst (λ T. RoomKept plan T) (sym (state_goes_on plan m before e))
      (one_event_more (state_after plan m before) e (follows_fits plan m before place e at) (doable before place e so_far at held) held))
      is_run n

  pub room_at_end : (run : List Event) → IsRunOf plan m run → RoomKept plan (state_after plan m run)
  room_at_end run is_run = subst (λ es. RoomKept plan (state_after plan m es)) (take-length run) (room_at_each run is_run (length run))

  -- each event that may follow a run can be done
  pub ready_by_room : (run : List Event) (k : ℕ) (e : Event) → IsRunOf plan m run → slice_get (ready plan m run) k ≡ Some e
      → AreDoable plan (deeds plan (state_after plan m run) e) (state_after plan m run)
  ready_by_room run k e is_run at = doable run k e is_run at (room_at_end run is_run)
