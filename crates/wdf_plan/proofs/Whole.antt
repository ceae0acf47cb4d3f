-- The plan of a scene that stands for a text, and in which nothing is refused, is a resolved plan.
use Rattle.std.proofs.Common.{◌≡◌, None, Result, Ok, Err, IfOk, MatchResult}
use Rattle.wdf_base.specs.declared.plan.Plan.{Plan}
use Rattle.wdf_base.specs.Resolved.{IsResolved}
use Rattle.wdf_scene.specs.declared.scene.Scene.{Scene}
use Rattle.wdf_scene.specs.Naming.{HasProperNames}
use Rattle.wdf_scene.specs.Written.{IsScene}
use Rattle.wdf_blocks.specs.Declarations.{declarations}
use Rattle.wdf_refusals.specs.First.{first_refusal}
use Rattle.wdf_plan.specs.Plans.{plan_of, plan_with}
use Rattle.wdf_plan.proofs.Bounds.{plan_bounded}
use Rattle.wdf_plan.proofs.Complete.{plan_complete}
use Rattle.wdf_plan.proofs.Naming.{plan_named}
use Rattle.wdf_plan.proofs.ObjectFacts.{plan_fitted}
use Rattle.wdf_plan.proofs.Ordering.{plan_ordered}
use Rattle.wdf_plan.proofs.PostFacts.{plan_posted}
use Rattle.wdf_plan.proofs.ScriptFacts.{scripts_fit}
use Rattle.wdf_plan.proofs.Writable.{plan_writable}

pub plan_resolved : (scene : Scene) → IsScene scene → HasProperNames scene → first_refusal scene ≡ None → IsResolved (plan_of scene)
unfolding plan_of plan_with
plan_resolved scene s h e =
    let bounded = plan_bounded scene s e in
    let named = plan_named scene h e in
    let posted = plan_posted scene e in
    let fitted = plan_fitted scene s e in
    let complete = plan_complete scene s e in
    let writable = plan_writable scene s e in
    record {
      cpus = bounded.cpus;
      limit = bounded.limit;
      objects = bounded.objects;
      counted = bounded.counted;
      devices = bounded.devices;
      app_limit = bounded.apps;
      register_limit = bounded.registers;
      class_limit = bounded.classes;
      statement_limit = writable.statements;
      post_limit = posted.limit;
      pick_limit = bounded.picks;
      driver_name = named.driver;
      request_name = named.request;
      names_plain = named.plain;
      names_short = named.short;
      names_differ = named.differ;
      names_free = named.free;
      names_used = named.used;
      names_there = named.there;
      in_order = plan_ordered scene (declarations scene) s;
      declared_fit = fitted.declared;
      classes_fit = complete.classes;
      registers_fit = fitted.registers;
      whens_fit = fitted.whens;
      agents_end = named.agents_end;
      pnp_posts = posted.pnp;
      app_posts = posted.apps;
      device_posts = fitted.posts;
      exprs_fit = writable.exprs;
      scripts_fit = scripts_fit scene s e;
      scripts_differ = complete.differ;
      declared_complete = complete.declared;
      classes_complete = complete.complete;
    }

-- so an answered plan is one
pub answer_resolved : {E : Type 0} (scene : Scene) (r : Result Plan E) (Q : E → Type 0) → MatchResult r (λ p. (first_refusal scene ≡ None) × (p ≡ plan_of scene)) Q → IsScene scene → HasProperNames scene → IfOk r (λ p. IsResolved p)
answer_resolved scene (Ok p) Q h s n = rw h.1 (plan_resolved scene s n h.0)
answer_resolved scene (Err e) Q h s n = tt
