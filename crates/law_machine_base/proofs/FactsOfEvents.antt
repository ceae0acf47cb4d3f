-- What some events leave alone, and what they name.
use Rattle.std.proofs.Common.{arith, ◌≡◌, ℕ, true, false, ◌&&◌, List, [], ◌∷◌, inl, inr, Option, Some, None, slice_get, refl, ap}
use Rattle.wdf_base.specs.Meaning.{Meaning}
use Rattle.wdf_base.specs.declared.ids.Cpu.{Cpu}
use Rattle.wdf_base.specs.declared.ids.Handle.{Handle}
use Rattle.wdf_base.specs.declared.value.Value.{Value}
use Rattle.wdf_base.specs.declared.object.Life.{Life}
use Rattle.wdf_base.specs.declared.object.Life.TheVariants as life
use Rattle.wdf_base.specs.declared.plan.Plan.{Plan}
use Rattle.wdf_base.specs.declared.call.Callback.{Callback}
use Rattle.wdf_base.specs.declared.call.Callback.TheVariants as callback
use Rattle.wdf_base.specs.declared.event.Event.{Event}
use Rattle.wdf_base.specs.declared.event.Event.TheVariants as event
use Rattle.wdf_base.specs.declared.frame.Frame.{Frame}
use Rattle.wdf_base.specs.Lives.{is_asked, is_cleaned, is_gone, is_live}
use Rattle.wdf_model.specs.parts.Tree.{life_of}
use Rattle.wdf_model.specs.parts.Cpus.{no_frame, running, frame_of, top}
use Rattle.wdf_model.specs.Plans.{callback_irql}
use Rattle.wdf_model.specs.parts.Locks.{is_free_if_any, lock_of_callback}
use Rattle.wdf_model.specs.State.{State, declares_in, declared_in, is_proper}
use Rattle.wdf_model.specs.Ids.{frame_id}
use Rattle.wdf_model.specs.rules.Starts.{is_ready_for, level_fits, life_fits, may_start}
use Rattle.wdf_model.specs.declared.deed.Deed.{Deed}
use Rattle.wdf_model.specs.declared.deed.Deed.TheVariants.{GoOn}
use Rattle.wdf_model.specs.rules.Deeds.{do_deeds, counted, told}
use Rattle.wdf_model.specs.rules.Steps.{goes_on, stepped, after, is_proper_if_any, may, is_cpu}
use Rattle.wdf_model.specs.rules.Script.{intent_of}
use Rattle.wdf_model.specs.rules.Ready.{ready, state_after}
use Rattle.law_machine_base.specs.FactsOfEvents.{IsTick, MovesOnlyFrame, touches_gone}
use Rattle.wdf_model.proofs.Maps.{entry_put_same, entry_put_other}
use Rattle.wdf_model.proofs.Tests.{both_left, both_right}
use Rattle.law_machine_base.proofs.Follows.{follows}

-- ---- a step inside a frame

-- the deeds of one frame that goes on, where no agent hears of the event
frame_moves : {A : Type 0} (plan : Plan) (m : Meaning A) (S : State A) (e : Event) (f : ℕ) (frame : Frame) → told m e S.agents ≡ S.agents
    → MovesOnlyFrame f S (counted m e (do_deeds plan (GoOn (frame_id f) frame ∷ []) S))
frame_moves plan m S e f frame same = record {
  rest = rw same refl;
  stacks = refl;
  parked = refl;
  others = λ g other. entry_put_other no_frame S.cpus.frames f g (record (running S.cpus f) { frame = frame }) other;
  level = ap (λ r. r.level) (entry_put_same no_frame S.cpus.frames f (record (running S.cpus f) { frame = frame }));
  levels = refl;
}

top_moves : {A : Type 0} (plan : Plan) (m : Meaning A) (S : State A) (e : Event) (next : ℕ → Frame → Frame) (f : ℕ) (there : Option ℕ) → there ≡ Some f
    → told m e S.agents ≡ S.agents
    → MovesOnlyFrame f S (counted m e (do_deeds plan (elim there as (λ _. List Deed) [ None ↦ [] | Some g ↦ GoOn (frame_id g) (next g (frame_of S.cpus g)) ∷ [] ]) S))
top_moves plan m S e next f None h same = absurd (let z : ⊥ = cc in z)
top_moves plan m S e next f (Some g) h same =
    let one : f ≡ g = cc in rw one (frame_moves plan m S e g (next g (frame_of S.cpus g)) same)

pub local_moves_frame : {A : Type 0} (plan : Plan) (m : Meaning A) (S : State A) (cpu : Cpu) (line f : ℕ) → top S.cpus cpu.0 ≡ Some f
    → MovesOnlyFrame f S (after plan m S (event.Local cpu line))
local_moves_frame plan m S cpu line f h =
    top_moves plan m S (event.Local cpu line) (λ f frame. stepped frame (intent_of plan frame)) f (top S.cpus cpu.0) h refl

pub log_moves_frame : {A : Type 0} (plan : Plan) (m : Meaning A) (S : State A) (cpu : Cpu) (v : Value) (f : ℕ) → top S.cpus cpu.0 ≡ Some f
    → MovesOnlyFrame f S (after plan m S (event.Log cpu v))
log_moves_frame plan m S cpu v f h =
    top_moves plan m S (event.Log cpu v) (λ f frame. goes_on plan frame) f (top S.cpus cpu.0) h refl

-- ---- what is named isn't gone

asked_is_there : (l : Life) → is_asked l ≡ true → is_gone l ≡ false
asked_is_there life.Gone h = absurd (let z : ⊥ = cc in z)
asked_is_there _ h = refl

cleaned_is_there : (l : Life) → is_cleaned l ≡ true → is_gone l ≡ false
cleaned_is_there life.Gone h = absurd (let z : ⊥ = cc in z)
cleaned_is_there _ h = refl

live_is_there : (l : Life) → is_live l ≡ true → is_gone l ≡ false
live_is_there life.Gone h = absurd (let z : ⊥ = cc in z)
live_is_there _ h = refl

fitting_is_there : {A : Type 0} (S : State A) (c : Callback) (o : ℕ) → life_fits S c o ≡ true → is_gone (life_of S.tree o) ≡ false
fitting_is_there S callback.EvtCleanupCallback o h = asked_is_there (life_of S.tree o) h
fitting_is_there S callback.EvtDestroyCallback o h = cleaned_is_there (life_of S.tree o) h
fitting_is_there S _ o h = live_is_there (life_of S.tree o) h

started_is_there : {A : Type 0} (plan : Plan) (m : Meaning A) (S : State A) (cpu : ℕ) (c : Callback) (o : ℕ) (r : Option Handle)
    → may_start plan m S cpu c o r ≡ true → is_gone (life_of S.tree o) ≡ false
started_is_there plan m S cpu c o r h =
    fitting_is_there S c o (both_right (declares_in plan S c o) (life_fits S c o) (both_left _ (level_fits S cpu (callback_irql plan c o)) (both_left _ (is_free_if_any S.locks (lock_of_callback plan c o (declared_in plan S o))) (both_left _ (is_ready_for plan m S cpu c o r) h))))

allowed_is_there : {A : Type 0} (plan : Plan) (m : Meaning A) (S : State A) (e : Event) → may plan m S e ≡ true → touches_gone S.tree e ≡ false
allowed_is_there plan m S (event.Start cpu c o r) h =
    started_is_there plan m S cpu.0 c o.id.0 r (both_right (is_cpu plan cpu && is_proper plan S o && is_proper_if_any plan S r) (may_start plan m S cpu.0 c o.id.0 r) h)
allowed_is_there plan m S (event.Cleanup o) h = asked_is_there (life_of S.tree o.id.0) (grind arith)
allowed_is_there plan m S (event.Destroy o) h = cleaned_is_there (life_of S.tree o.id.0) (search (both_left, both_right))
allowed_is_there plan m S _ h = refl

pub nothing_gone_is_touched : {A : Type 0} (plan : Plan) (m : Meaning A) (run : List Event) (k : ℕ) (e : Event)
    → slice_get (ready plan m run) k ≡ Some e → touches_gone (state_after plan m run).tree e ≡ false
nothing_gone_is_touched plan m run k e h =
    elim (follows plan m run k e h) [
      | inl p ↦ allowed_is_there plan m (state_after plan m run) e p
      | inr t ↦ rw t.tick refl
    ]

-- ---- the clock

pub tick_is_alone : {A : Type 0} (plan : Plan) (m : Meaning A) (run : List Event) (k time : ℕ) → slice_get (ready plan m run) k ≡ Some (event.Tick time)
    → IsTick m (state_after plan m run) (ready plan m run) (event.Tick time)
tick_is_alone plan m run k time h =
    elim (follows plan m run k (event.Tick time) h) [
      | inl p ↦ absurd (let z : ⊥ = cc in z)
      | inr t ↦ t
    ]
