-- What a device has under way.
use Rattle.std.specs.Prelude.{List, [], ◌∷◌, ◌++◌, Option, Some, None}
use Rattle.wdf_base.specs.declared.event.Step.{Step}
use Rattle.wdf_model.specs.parts.Pnp.{Sequence}

-- own: a step, if there is one
abbrev pub step_if_any : Option Step → List Step
step_if_any None = []
step_if_any (Some s) = s ∷ []

-- own: the step whose callback runs, if there is one, and the steps left
abbrev pub under_way : Sequence → List Step
under_way q = step_if_any q.running ++ q.left
