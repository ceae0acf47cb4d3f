-- The agents of a plan are the apps, the devices and the targets of the lines, with the posts of their blocks.
use Rattle.std.proofs.Common.{◌≡◌, ℕ, Bool, true, false, cond, List, [], ◌∷◌, map, Option, Some, None, option_map, slice_get, refl, ap, sym, ◌∙◌}
use Rattle.std.specs.List.{filter_map}
use Rattle.wdf_base.specs.declared.declared.PostLine.{PostLine}
use Rattle.wdf_scene.specs.declared.block.Block.TheVariants as block
use Rattle.wdf_scene.specs.declared.line.NumberedLine.{NumberedLine}
use Rattle.wdf_scene.specs.declared.line.SceneLine.{SceneLine}
use Rattle.wdf_scene.specs.declared.line.SceneLine.TheVariants as line
use Rattle.wdf_scene.specs.declared.scene.Scene.{Scene}
use Rattle.wdf_scene.specs.Naming.{declared_name}
use Rattle.wdf_scene.specs.Written.{IsScene}
use Rattle.wdf_blocks.specs.declared.placed.Placed.{Placed}
use Rattle.wdf_blocks.specs.Declarations.{declarations, declared_by}
use Rattle.wdf_refusals.specs.First.{first_refusal}
use Rattle.wdf_blocks.specs.Forms.{is_app, is_device}
use Rattle.wdf_plan.specs.Parts.{app_post_in, device_post_in, app_post, device_post, app_agent, device_agent, target_agent, stands_in}
use Rattle.wdf_blocks.specs.Placed.{placed}
use Rattle.wdf_plan.specs.Plans.{all_agents, plan_with, plan_of}
use Rattle.wdf_refusals.specs.Rows.{unknown_word}
use Rattle.wdf_plan.proofs.Accepted.{word_known}
use Rattle.wdf_plan.proofs.Devices.{IsKnown, each_known}
use Rattle.wdf_refusals.proofs.Every.{Every, every_map, every_both}
use Rattle.law_plan.specs.Told.{is_app_post, is_device_post, is_no_post, is_target, kept_line, lines_that, block_lines, IsAgentTold, AreAgentsTold}
use Rattle.law_plan.specs.WrittenOut.{post_line}
use Rattle.law_plan.proofs.BlockLines.{own_line, apps_alone, devices_alone, in_block_of}
use Rattle.law_plan.proofs.ItemLines.{made, some_map, app_row, device_row}
use Rattle.law_plan.proofs.NameTexts.{LineTold, lines_told}
use Rattle.law_plan.proofs.Pairs.{Both, paired}

-- ---- the posts of one block

post_step : (f : PostLine → Option NumberedLine) (t : Bool) (o : Option PostLine) (l : Option NumberedLine) → option_map f o ≡ option_map Some l → option_map f (cond t o None) ≡ option_map Some (cond t l None)
post_step f true o l e = e
post_step f false o l e = refl

app_posts : (scene : Scene) → first_refusal scene ≡ None → (b : ℕ) (p : Placed) → unknown_word (declarations scene) p.stand.device p.form ≡ false → option_map (post_line (plan_of scene)) (app_post_in (declarations scene) b p) ≡ option_map Some (own_line is_app_post b p)
app_posts scene e b p u =
    post_step (post_line (plan_of scene)) (stands_in b p) (app_post (declarations scene) p.number p.form) (kept_line is_app_post p.number p.form) (app_row scene e p.number p.stand.device p.form u)

device_posts : (scene : Scene) → first_refusal scene ≡ None → (b : ℕ) (p : Placed) → unknown_word (declarations scene) p.stand.device p.form ≡ false → option_map (post_line (plan_of scene)) (device_post_in (declarations scene) b p) ≡ option_map Some (own_line is_device_post b p)
device_posts scene e b p u =
    post_step (post_line (plan_of scene)) (stands_in b p) (device_post (declarations scene) p.number p.stand.device p.form) (kept_line is_device_post p.number p.form) (device_row scene e p.number p.stand.device p.form u)

all_posts : (scene : Scene) → IsScene scene → first_refusal scene ≡ None → (f : Placed → Option PostLine) (g : Placed → Option NumberedLine) → ((p : Placed) → unknown_word (declarations scene) p.stand.device p.form ≡ false → option_map (post_line (plan_of scene)) (f p) ≡ option_map Some (g p)) → map (post_line (plan_of scene)) (filter_map f (placed scene)) ≡ map Some (filter_map g (placed scene))
all_posts scene s e f g row =
    made f (post_line (plan_of scene)) (λ p. option_map Some (g p)) (placed scene) (every_map (IsKnown scene) (λ p. option_map (post_line (plan_of scene)) (f p) ≡ option_map Some (g p)) (λ p h. row p (word_known scene p h.accepted)) (placed scene) (each_known scene s e))
    ∙ some_map g (placed scene)

-- ---- agents

-- what is known of a line
record IsAgentRow (scene : Scene) (p : Placed) : Type 0 where
  told : LineTold scene p p.form
  there : slice_get (placed scene) p.at ≡ Some p

agent_rows : (scene : Scene) → IsScene scene → first_refusal scene ≡ None → Every (IsAgentRow scene) (placed scene)
agent_rows scene s e =
    every_map (λ p. LineTold scene p p.form × IsKnown scene p) (IsAgentRow scene) (λ p h. record { told = h.0; there = h.1.there }) (placed scene) (every_both (λ p. LineTold scene p p.form) (IsKnown scene) (placed scene) (lines_told scene e) (each_known scene s e))

app_told : (scene : Scene) → IsScene scene → first_refusal scene ≡ None → (p : Placed) (form : SceneLine) → p.form ≡ form → LineTold scene p form → slice_get (placed scene) p.at ≡ Some p → Both (IsAgentTold (plan_of scene) scene is_app_post) (cond (is_app form) (Some p) None) (app_agent scene (declarations scene) p form)
unfolding app_agent is_app declared_by declared_name
app_told scene s e p (line.App n) is t there =
    record {
      name = ap declared_name is ∙ ap (λ m. Some m) (sym (t _ refl));
      all = all_posts scene s e (app_post_in (declarations scene) p.at) (own_line is_app_post p.at) (app_posts scene e p.at) ∙ ap (map Some) (in_block_of is_app_post apps_alone refl scene s p block.App there (rw is refl));
    }
app_told scene s e p _ is t there = tt

device_told : (scene : Scene) → IsScene scene → first_refusal scene ≡ None → (p : Placed) (form : SceneLine) → p.form ≡ form → LineTold scene p form → slice_get (placed scene) p.at ≡ Some p → Both (IsAgentTold (plan_of scene) scene is_device_post) (cond (is_device form) (Some p) None) (device_agent scene (declarations scene) p form)
unfolding device_agent is_device declared_by declared_name
device_told scene s e p (line.Device n working) is t there =
    record {
      name = ap declared_name is ∙ ap (λ m. Some m) (sym (t _ refl));
      all = all_posts scene s e (device_post_in (declarations scene) p.at) (own_line is_device_post p.at) (device_posts scene e p.at) ∙ ap (map Some) (in_block_of is_device_post devices_alone refl scene s p block.Device there (rw is refl));
    }
device_told scene s e p _ is t there = tt

no_lines : (ls : List NumberedLine) → lines_that is_no_post ls ≡ []
no_lines [] = refl
no_lines (l ∷ ls) = no_lines ls

target_told : (scene : Scene) → first_refusal scene ≡ None → (p : Placed) (form : SceneLine) → p.form ≡ form → LineTold scene p form → Both (IsAgentTold (plan_of scene) scene is_no_post) (cond (is_target form) (Some p) None) (target_agent (declarations scene) form)
unfolding target_agent declared_by declared_name
target_told scene e p (line.Target n delay status depth) is t =
    record {
      name = ap declared_name is ∙ ap (λ m. Some m) (sym (t _ refl));
      all = sym (ap (map Some) (no_lines (block_lines scene p.at)));
    }
target_told scene e p _ is t = tt

-- all agents
pub agents_are : (scene : Scene) → IsScene scene → first_refusal scene ≡ None → AreAgentsTold (plan_of scene) scene
unfolding plan_of plan_with all_agents
agents_are scene s e =
    let names = declarations scene in
    record {
      apps = filter_map (λ p. app_agent scene names p p.form) (placed scene);
      devices = filter_map (λ p. device_agent scene names p p.form) (placed scene);
      targets = filter_map (λ p. target_agent names p.form) (placed scene);
      are = refl;
      app_lines = paired (IsAgentTold (plan_of scene) scene is_app_post) (λ p. cond (is_app p.form) (Some p) None) (λ p. app_agent scene names p p.form) (placed scene) (every_map (IsAgentRow scene) (λ p. Both (IsAgentTold (plan_of scene) scene is_app_post) (cond (is_app p.form) (Some p) None) (app_agent scene names p p.form)) (λ p h. app_told scene s e p p.form refl h.told h.there) (placed scene) (agent_rows scene s e));
      device_lines = paired (IsAgentTold (plan_of scene) scene is_device_post) (λ p. cond (is_device p.form) (Some p) None) (λ p. device_agent scene names p p.form) (placed scene) (every_map (IsAgentRow scene) (λ p. Both (IsAgentTold (plan_of scene) scene is_device_post) (cond (is_device p.form) (Some p) None) (device_agent scene names p p.form)) (λ p h. device_told scene s e p p.form refl h.told h.there) (placed scene) (agent_rows scene s e));
      target_lines = paired (IsAgentTold (plan_of scene) scene is_no_post) (λ p. cond (is_target p.form) (Some p) None) (λ p. target_agent names p.form) (placed scene) (every_map (IsAgentRow scene) (λ p. Both (IsAgentTold (plan_of scene) scene is_no_post) (cond (is_target p.form) (Some p) None) (target_agent names p.form)) (λ p h. target_told scene e p p.form refl h.told) (placed scene) (agent_rows scene s e));
    }
