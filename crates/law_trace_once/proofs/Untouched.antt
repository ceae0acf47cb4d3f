-- Objects are cleaned up by their cleanups alone: no other event has the deed of one.
use Rattle.std.proofs.Common.{◌≡◌, Bool, true, false, not, List, refl}
use Rattle.std.specs.List.{list_all}
use Rattle.wdf_base.specs.declared.plan.Plan.{Plan}
use Rattle.wdf_base.specs.declared.event.Event.{Event}
use Rattle.wdf_model.specs.State.{State}
use Rattle.wdf_model.specs.declared.deed.Deed.{Deed}
use Rattle.wdf_model.specs.declared.deed.Deed.TheVariants.{CleanUp}
use Rattle.wdf_model.specs.rules.Steps.{deeds}
use Rattle.law_machine_deeds.specs.MayDo.{is_cleanup, may_do}
use Rattle.law_machine_deeds.proofs.Passing.{event_passes}

-- the cleanup of an object
abbrev pub cleans : Deed → Bool
cleans (CleanUp o) = true
cleans _ = false

abbrev pub none_cleans : List Deed → Bool
none_cleans ds = list_all (λ d. not (cleans d)) ds

unclean : (e : Event) → is_cleanup e ≡ false → (d : Deed) → may_do e d ≡ true → not (cleans d) ≡ true
unclean e h (CleanUp o) k = absurd (let z : ⊥ = cc in z)
unclean e h _ k = refl

pub event_none : {A : Type 0} (plan : Plan) (S : State A) (e : Event) → is_cleanup e ≡ false → none_cleans (deeds plan S e) ≡ true
event_none plan S e h = event_passes (λ d. not (cleans d)) plan S e (unclean e h)
