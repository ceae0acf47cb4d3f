-- The Plug and Play manager: it posts its lines in order, as an app does. (own)
use Rattle.wdf_base.specs.declared.plan.Plan.{Plan}
use Rattle.wdf_model.specs.agents.App.{App, app_at}

-- the manager at the opening: agent 0, with the lines of the text under `pnp`
abbrev pub manager_at : Plan → App
manager_at plan = app_at plan 0
