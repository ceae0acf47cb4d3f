-- Deeds that are done in two parts, where code says the second part in its own words.
use Rattle.std.proofs.Common.{◌≡◌, ◌++◌, List, ap, sym, subst, ◌∙◌}
use Rattle.wdf_base.specs.declared.plan.Plan.{Plan}
use Rattle.wdf_model.specs.State.{State}
use Rattle.wdf_model.specs.declared.deed.Deed.{Deed}
use Rattle.wdf_model.specs.rules.Deeds.{do_deeds}
use Rattle.wdf_model.specs.rules.Room.{AreDoable}
use Rattle.wdf_parts.proofs.InTurn.{doable_then, done_after}

module _ {A : Type 0} (plan : Plan) where
  -- what can be done in a state can be done in the same one
  pub moved : (es fs : List Deed) (T U : State A) → U ≡ T → fs ≡ es → AreDoable plan es T → AreDoable plan fs U
  moved es fs T U same is h = subst (λ V. AreDoable plan fs V) (sym same) (subst (λ xs. AreDoable plan xs T) (sym is) h)

  -- the second part can be done after the first
  pub second_doable : (ds es fs : List Deed) (S U : State A) → U ≡ do_deeds plan ds S → fs ≡ es → AreDoable plan (ds ++ es) S → AreDoable plan fs U
  second_doable ds es fs S U first is h = moved es fs (do_deeds plan ds S) U first is (doable_then plan ds es S h)

  -- and then all of it is done
  pub both_done : (ds es fs : List Deed) (S U V : State A) → U ≡ do_deeds plan ds S → fs ≡ es → V ≡ do_deeds plan fs U → V ≡ do_deeds plan (ds ++ es) S
  both_done ds es fs S U V first is then_is = then_is ∙ ap (λ xs. do_deeds plan xs U) is ∙ ap (do_deeds plan es) first ∙ sym (done_after plan ds es S)
