-- The agents of the program's word `stack` are such agents, and their runs keep the laws on stacks.
use Rattle.std.proofs.Common.{◌≡◌, ◌==◌, ℕ, Bool, true, false, List, take, Option, Some, None, slice_get, refl}
use Rattle.wdf_base.specs.Resolved.{IsResolved}
use Rattle.wdf_base.specs.declared.plan.Plan.{Plan}
use Rattle.wdf_base.specs.declared.event.Event.{Event}
use Rattle.wdf_model.specs.Plans.{device_of_agent, is_app, target_of_agent}
use Rattle.wdf_model.specs.agents.Chains.{connected_to}
use Rattle.wdf_model.specs.agents.StackAgent as model
use Rattle.wdf_model.specs.rules.Ready.{IsRunOf}
use Rattle.wdf_model.proofs.Tests.{both}
use Rattle.wdf_stack.specs.Agents.{agent_after, agent_at, agent_due, as_model, device_or_target, stack_meaning, target_agent}
use Rattle.wdf_stack.specs.declared.agents.StackAgent.{StackAgent}
use Rattle.wdf_stack.specs.declared.agents.StackAgent.TheVariants as agent
use Rattle.law_stack.specs.Agents.{IsStackMeaning}
use Rattle.law_stack.specs.Laws.{order_law, request_law, stack_law}
use Rattle.law_stack.proofs.Ordered.{order_at}
use Rattle.law_stack.proofs.Requests.{requests_keep}

of_target : (plan : Plan) (t k : ℕ) (o : Option ℕ) → as_model (target_agent plan t k o) ≡ model.target_agent plan t k o
of_target plan t k None = refl
of_target plan t k (Some lower) = refl

owned : (plan : Plan) (k : ℕ) (d t : Option ℕ) → as_model (device_or_target plan k d t) ≡ model.device_or_target plan k d t
owned plan k (Some d) t = refl
owned plan k None (Some t) = of_target plan t k (connected_to plan t)
owned plan k None None = refl

begins : (plan : Plan) (k : ℕ) (first app : Bool) → (k == 0) ≡ first → is_app plan k ≡ app → as_model (agent_at plan k) ≡ model.agent_at plan k
begins plan k true app e f = rw e refl
begins plan k false true e f = rw (e, f) refl
begins plan k false false e f = rw (e, f) (owned plan k (device_of_agent plan k) (target_of_agent plan k))

folds : (a : StackAgent) (e : Event) → as_model (agent_after a e) ≡ model.agent_after (as_model a) e
folds (agent.StackManager m) e = refl
folds (agent.App p) e = refl
folds (agent.Device d) e = refl
folds (agent.LowerTarget t) e = refl
folds (agent.Connector c) e = refl

dues : (a : StackAgent) → agent_due a ≡ model.agent_due (as_model a)
dues (agent.StackManager m) = refl
dues (agent.App p) = refl
dues (agent.Device d) = refl
dues (agent.LowerTarget t) = refl
dues (agent.Connector c) = refl

pub stack_agents_are : IsStackMeaning stack_meaning
stack_agents_are = record { seen = as_model; begins = λ plan k. begins plan k (k == 0) (is_app plan k) refl refl; folds = folds; dues = dues }

pub model_agents_are : IsStackMeaning model.stack_agents
model_agents_are = record { seen = λ a. a; begins = λ plan k. refl; folds = λ a e. refl; dues = λ a. refl }

pub stack_runs_keep_laws : (plan : Plan) (run : List Event) (k : ℕ) (e : Event) → IsResolved plan → IsRunOf plan stack_meaning run → slice_get run k ≡ Some e → stack_law plan (take k run) e ≡ true
stack_runs_keep_laws plan run k e resolved is_run at =
    both (request_law plan (take k run) e) (order_law plan (take k run) e)
    (requests_keep plan stack_meaning run k e stack_agents_are is_run at) (order_at plan stack_meaning stack_agents_are resolved run is_run k e at)
