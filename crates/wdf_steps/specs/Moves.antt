-- How the top frame goes on where a number of the event says how.
use Rattle.std.specs.Prelude.{ℕ, List, [], ◌∷◌}
use Rattle.wdf_base.specs.declared.plan.Plan.{Plan}
use Rattle.wdf_base.specs.declared.value.Value.TheVariants.{Num}
use Rattle.wdf_base.specs.declared.frame.Frame.{Frame}
use Rattle.wdf_model.specs.State.{State}
use Rattle.wdf_model.specs.Ids.{frame_id}
use Rattle.wdf_model.specs.declared.deed.Deed.{Deed}
use Rattle.wdf_model.specs.declared.deed.Deed.TheVariants.{GoOn}
use Rattle.wdf_model.specs.rules.Steps.{answered, spending}

-- it spends so many ticks
abbrev pub spends_on : {A : Type 0} → Plan → State A → ℕ → ℕ → Frame → List Deed
spends_on plan S n f frame = GoOn (frame_id f) (spending plan S frame n) ∷ []

-- its register has this value
abbrev pub goes_on_with : Plan → ℕ → ℕ → Frame → List Deed
goes_on_with plan v f frame = GoOn (frame_id f) (answered plan frame (Num v)) ∷ []
