-- Each variant is the model's of the same name.
use Rattle.std.proofs.Common.{◌≡◌, ◌==◌, ℕ, Bool, true, false, Option, Some, None, refl}
use Rattle.wdf_base.specs.declared.plan.Plan.{Plan}
use Rattle.wdf_base.specs.declared.event.Event.{Event}
use Rattle.wdf_model.specs.Plans.{device_of_agent, is_app, target_of_agent}
use Rattle.wdf_model.specs.agents.AnyAgent as model
use Rattle.wdf_dev.specs.Agents.{agent_after, agent_at, agent_due, agent_next, agent_value, as_model, device_or_target}
use Rattle.wdf_dev.specs.declared.any.AnyAgent.{AnyAgent}
use Rattle.wdf_dev.specs.declared.any.AnyAgent.TheVariants as agent
use Rattle.wdf_dev.proofs.laws.agents_are_the_models.Goals as goal

owned : (plan : Plan) (k : ℕ) (d t : Option ℕ) → as_model (device_or_target plan k d t) ≡ model.device_or_target plan k d t
owned plan k (Some d) t = refl
owned plan k None (Some t) = refl
owned plan k None None = refl

begins : (plan : Plan) (k : ℕ) (first app : Bool) → (k == 0) ≡ first → is_app plan k ≡ app → as_model (agent_at plan k) ≡ model.agent_at plan k
begins plan k true app e f = rw e refl
begins plan k false true e f = rw (e, f) refl
begins plan k false false e f = rw (e, f) (owned plan k (device_of_agent plan k) (target_of_agent plan k))

folds : (a : AnyAgent) (e : Event) → as_model (agent_after a e) ≡ model.agent_after (as_model a) e
folds (agent.PnpManager p) e = refl
folds _ e = refl

dues : (a : AnyAgent) → agent_due a ≡ model.agent_due (as_model a)
dues (agent.PnpManager p) = refl
dues _ = refl

nexts : (a : AnyAgent) → agent_next a ≡ model.agent_next (as_model a)
nexts (agent.PnpManager p) = refl
nexts _ = refl

values : (a : AnyAgent) (what : ℕ) → agent_value a what ≡ model.agent_value (as_model a) what
values (agent.PnpManager p) what = refl
values _ what = refl

pub returns-clause-begin : goal.returns-clause-begin
returns-clause-begin c = λ plan k. begins plan k (k == 0) (is_app plan k) refl refl

pub returns-clause-fold : goal.returns-clause-fold
returns-clause-fold c = folds

pub returns-clause-due : goal.returns-clause-due
returns-clause-due c = dues

pub returns-clause-next : goal.returns-clause-next
returns-clause-next c = nexts

pub returns-clause-value : goal.returns-clause-value
returns-clause-value c = values
