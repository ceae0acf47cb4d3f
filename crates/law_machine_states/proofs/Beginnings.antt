-- A frame begins on an object that isn't past its cleanup, but for that of a destroy callback.
use Rattle.std.proofs.Common.{◌≡◌, ℕ, Bool, true, false, ◌&&◌, List, ◌∷◌, Option, Some, None, refl, ap, ◌∙◌}
use Rattle.std.specs.Prelude.{⊤}
use Rattle.std.specs.List.{list_all}
use Rattle.wdf_base.specs.Meaning.{Meaning}
use Rattle.wdf_base.specs.Same.{same_callback}
use Rattle.wdf_base.specs.declared.plan.Plan.{Plan}
use Rattle.wdf_base.specs.declared.ids.Handle.{Handle}
use Rattle.wdf_base.specs.declared.object.LockRef.{LockRef}
use Rattle.wdf_base.specs.declared.call.Callback.{Callback}
use Rattle.wdf_base.specs.declared.call.Callback.TheVariants as callback
use Rattle.wdf_base.specs.declared.event.Event.{Event}
use Rattle.wdf_base.specs.declared.event.Event.TheVariants as event
use Rattle.wdf_base.specs.Lives.{is_past_cleanup}
use Rattle.wdf_model.specs.Plans.{callback_irql}
use Rattle.wdf_model.specs.parts.Tree.{life_of}
use Rattle.wdf_model.specs.parts.Locks.{lock_of_callback}
use Rattle.wdf_model.specs.State.{State, declared_in, is_proper}
use Rattle.wdf_model.specs.Ids.{cpu_of, frame_id, irql_of}
use Rattle.wdf_model.specs.declared.deed.Deed.{Deed}
use Rattle.wdf_model.specs.declared.deed.Deed.TheVariants.{PushFrame}
use Rattle.wdf_model.specs.rules.Deeds.{do_deeds}
use Rattle.wdf_model.specs.rules.Starts.{life_fits, may_start, new_frame, next_number, start_deeds, start_effect, take_if_any}
use Rattle.wdf_model.specs.rules.Steps.{deeds, is_cpu, is_proper_if_any, may}
use Rattle.wdf_model.proofs.Tests.{both_left, both_right}
use Rattle.law_machine_deeds.specs.MayDo.{is_start, may_do}
use Rattle.law_machine_deeds.proofs.Walk.{plain_start}
use Rattle.law_machine_deeds.proofs.Passing.{PassesBeside, event_passes, start_effect_passes, start_of}
use Rattle.law_machine_lives.proofs.SoundEvents.{start_effect_sound}
use Rattle.law_machine_lives.proofs.Lives.{asked_early, live_early}
use Rattle.law_machine_lives.proofs.AllOf.{AllOf, all_behind, all_such}

-- a frame begins before its object's cleanup, but for that of a destroy callback
abbrev pub Early : {A : Type 0} → Deed → State A → Type 0
Early (PushFrame cpu f frame level) S = same_callback frame.callback callback.EvtDestroyCallback ≡ false → is_past_cleanup (life_of S.tree frame.object.id.0) ≡ false
Early _ S = ⊤

-- each of some deeds does so where it is done
abbrev pub AllEarly : {A : Type 0} → Plan → List Deed → State A → Type 0
AllEarly {A} plan ds S = AllOf plan (λ (d : Deed) (U : State A). Early d U) ds S

-- ---- deeds by which no frame begins

abbrev begins_none : Deed → Bool
begins_none (PushFrame cpu f frame level) = false
begins_none _ = true

abbrev none_begin : List Deed → Bool
none_begin ds = list_all begins_none ds

unbegun : (e : Event) → is_start e ≡ false → (d : Deed) → may_do e d ≡ true → begins_none d ≡ true
unbegun e off (PushFrame cpu f frame level) h = absurd (let z : ⊥ = cc in z)
unbegun e off _ h = refl

early_one : {A : Type 0} (d : Deed) (S : State A) → begins_none d ≡ true → Early d S
early_one (PushFrame cpu f frame level) S h = absurd (let z : ⊥ = cc in z)
early_one _ S h = tt

none_early : {A : Type 0} (plan : Plan) (ds : List Deed) (S : State A) → none_begin ds ≡ true → AllEarly plan ds S
none_early {A} plan ds S h = all_such plan (λ (d : Deed) (U : State A). Early d U) begins_none early_one ds S h

-- ---- starts

effect_begins : (c : Callback) → PassesBeside begins_none plain_start (start_of c)
effect_begins c (PushFrame cpu f frame level) h n = absurd (let z : ⊥ = cc in z)
effect_begins c _ h n = refl

taking_begins : (f : ℕ) (l : Option LockRef) → none_begin (take_if_any f l) ≡ true
taking_begins f None = refl
taking_begins f (Some l) = refl

life_early : {A : Type 0} (S : State A) (c : Callback) (o : ℕ) → life_fits S c o ≡ true → same_callback c callback.EvtDestroyCallback ≡ false → is_past_cleanup (life_of S.tree o) ≡ false
life_early S callback.EvtDestroyCallback o h n = absurd (let z : ⊥ = cc in z)
life_early S callback.EvtCleanupCallback o h n = asked_early (life_of S.tree o) h
life_early S _ o h n = live_early (life_of S.tree o) h

start_early : {A : Type 0} (plan : Plan) (m : Meaning A) (S : State A) (cpu : ℕ) (c : Callback) (o : Handle) (r : Option Handle) → may_start plan m S cpu c o.id.0 r ≡ true → AllEarly plan (start_deeds plan S cpu c o r) S
start_early {A} plan m S cpu c o r h =
    let f : ℕ = next_number S in
    let ds : List Deed = start_effect plan S cpu c o.id.0 r in
    let l : Option LockRef = lock_of_callback plan c o.id.0 (declared_in plan S o.id.0) in
    let U : State A = do_deeds plan ds S in
    let alive : life_fits S c o.id.0 ≡ true = search (both_left, both_right) in
    let same : is_past_cleanup (life_of U.tree o.id.0) ≡ is_past_cleanup (life_of S.tree o.id.0) = ap is_past_cleanup ((start_effect_sound plan S cpu c o.id.0 r).1.lives o.id.0) in
    all_behind plan (λ (d : Deed) (U : State A). Early d U) ds (PushFrame (cpu_of cpu) (frame_id f) (new_frame plan S c o r) (irql_of (callback_irql plan c o.id.0)) ∷ take_if_any f l) S
    (none_early plan ds S (start_effect_passes begins_none plan S cpu c o.id.0 r (effect_begins c)))
    ((λ n. same ∙ life_early S c o.id.0 alive n), none_early plan (take_if_any f l) _ (taking_begins f l))

-- ---- all events

pub event_early : {A : Type 0} (plan : Plan) (m : Meaning A) (S : State A) (e : Event) → may plan m S e ≡ true → AllEarly plan (deeds plan S e) S
event_early plan m S (event.Start k c o r) h = start_early plan m S k.0 c o r (both_right (is_cpu plan k && is_proper plan S o && is_proper_if_any plan S r) (may_start plan m S k.0 c o.id.0 r) h)
event_early plan m S e h = none_early plan (deeds plan S e) S (event_passes begins_none plan S e (unbegun e refl))
