-- A plan after a post or a statement more, or none more.
use Rattle.std.proofs.Common.{◌≡◌, ℕ, suc, Bool, true, false, cond, List, [], ◌∷◌, ◌++◌, slice_get, slice_set, Some, refl, ap}
use Rattle.wdf_base.specs.declared.declared.PostLine.{PostLine}
use Rattle.wdf_base.specs.declared.script.AgentInfo.{AgentInfo}
use Rattle.wdf_base.specs.declared.script.Script.{Script}
use Rattle.wdf_base.specs.declared.script.Statement.{Statement}
use Rattle.wdf_base.specs.declared.plan.Plan.{Plan}
use Rattle.wdf_scene.proofs.ChangeLaws.{set-more}
use Rattle.test_plans.specs.PlanParts.{agent_with_post, with_post, script_with, with_statement}

pub statement_done : (plan : Plan) (k : ℕ) (s : Statement) (t : Script) (b : Bool) (new : List Statement) → slice_get plan.scripts k ≡ Some t → new ≡ cond b (t.statements ++ s ∷ []) t.statements → record plan { scripts = slice_set plan.scripts k (record t { statements = new }) } ≡ cond b (with_statement plan k s) plan
statement_done plan k s t true new here e =
    ap (λ (zs : List Script). record plan { scripts = zs }) (set-more (λ ys x. record x { statements = ys }) (script_with s) plan.scripts k t true t.statements (t.statements ++ s ∷ []) new here refl refl e)
statement_done plan k s t false new here e =
    ap (λ (zs : List Script). record plan { scripts = zs }) (set-more (λ ys x. record x { statements = ys }) (script_with s) plan.scripts k t false t.statements (t.statements ++ s ∷ []) new here refl refl e)

post_more : (plan : Plan) (k : ℕ) (p : PostLine) (a : AgentInfo) (b : Bool) (new : List PostLine) → slice_get plan.agents k ≡ Some a → new ≡ cond b (a.posts ++ p ∷ []) a.posts → record plan { agents = slice_set plan.agents k (record a { posts = new }) } ≡ cond b (with_post plan (suc k) p) plan
post_more plan k p a true new here e =
    ap (λ (zs : List AgentInfo). record plan { agents = zs }) (set-more (λ ys x. record x { posts = ys }) (agent_with_post p) plan.agents k a true a.posts (a.posts ++ p ∷ []) new here refl refl e)
post_more plan k p a false new here e =
    ap (λ (zs : List AgentInfo). record plan { agents = zs }) (set-more (λ ys x. record x { posts = ys }) (agent_with_post p) plan.agents k a false a.posts (a.posts ++ p ∷ []) new here refl refl e)

pub post_done : (plan : Plan) (agent k : ℕ) (p : PostLine) (a : AgentInfo) (b : Bool) (new : List PostLine) → agent ≡ suc k → slice_get plan.agents k ≡ Some a → new ≡ cond b (a.posts ++ p ∷ []) a.posts → record plan { agents = slice_set plan.agents k (record a { posts = new }) } ≡ cond b (with_post plan agent p) plan
post_done plan agent k p a b new is here e = rw is (post_more plan k p a b new here e)
