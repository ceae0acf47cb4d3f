-- Agents of any type that are those of the word `stack`.
use Rattle.std.specs.Prelude.{ℕ, ◌≡◌}
use Rattle.wdf_base.specs.Meaning.{Meaning}
use Rattle.wdf_base.specs.declared.plan.Plan.{Plan}
use Rattle.wdf_base.specs.declared.event.Event.{Event}
use Rattle.wdf_model.specs.agents.StackAgent.{StackAgent, agent_after, agent_at, agent_due}

-- Each agent is seen as one of the model's: it begins as that, hears of events as that does, and posts what that does.
pub record IsStackMeaning {A : Type 0} (m : Meaning A) : Type 0 where
  pub seen : A → StackAgent
  pub begins : (plan : Plan) (k : ℕ) → seen (m.begin plan k) ≡ agent_at plan k
  pub folds : (a : A) (e : Event) → seen (m.fold a e) ≡ agent_after (seen a) e
  pub dues : (a : A) → m.due a ≡ agent_due (seen a)
