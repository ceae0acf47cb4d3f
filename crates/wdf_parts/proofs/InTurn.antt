-- A list of deeds that is done in two parts, one after the other.
use Rattle.std.proofs.Common.{◌≡◌, List, [], ◌∷◌, ◌++◌, refl}
use Rattle.wdf_base.specs.declared.plan.Plan.{Plan}
use Rattle.wdf_model.specs.State.{State}
use Rattle.wdf_model.specs.declared.deed.Deed.{Deed}
use Rattle.wdf_model.specs.rules.Deeds.{do_deed, do_deeds}
use Rattle.wdf_model.specs.rules.Room.{AreDoable}

pub done_after : {A : Type 0} (plan : Plan) (ds es : List Deed) (S : State A) → do_deeds plan (ds ++ es) S ≡ do_deeds plan es (do_deeds plan ds S)
done_after plan [] es S = refl
done_after plan (d ∷ ds) es S = done_after plan ds es (do_deed plan d S)

pub doable_first : {A : Type 0} (plan : Plan) (ds es : List Deed) (S : State A) → AreDoable plan (ds ++ es) S → AreDoable plan ds S
doable_first plan [] es S h = tt
doable_first plan (d ∷ ds) es S h = (h.0, doable_first plan ds es (do_deed plan d S) h.1)

pub doable_then : {A : Type 0} (plan : Plan) (ds es : List Deed) (S : State A) → AreDoable plan (ds ++ es) S → AreDoable plan es (do_deeds plan ds S)
doable_then plan [] es S h = h
doable_then plan (d ∷ ds) es S h = doable_then plan ds es (do_deed plan d S) h.1
