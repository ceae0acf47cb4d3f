-- The callbacks of a plan are those of the `on` lines, with their owners and their statements.
use Rattle.std.proofs.Common.{◌≡◌, ℕ, suc, cond, List, drop, Option, Some, None, slice_get, refl, ap, sym}
use Rattle.wdf_base.specs.declared.call.Callback.{Callback}
use Rattle.wdf_base.specs.declared.declared.ClassInfo.{ClassInfo}
use Rattle.wdf_base.specs.declared.declared.Declared.{Declared}
use Rattle.wdf_scene.specs.declared.line.SceneLine.{SceneLine}
use Rattle.wdf_scene.specs.declared.line.SceneLine.TheVariants as line
use Rattle.wdf_scene.specs.declared.scene.Scene.{Scene}
use Rattle.wdf_scene.specs.Naming.{declared_name}
use Rattle.wdf_scene.specs.Written.{IsScene}
use Rattle.wdf_blocks.specs.declared.placed.Placed.{Placed}
use Rattle.wdf_blocks.specs.Blocks.{form_at}
use Rattle.wdf_blocks.specs.Declarations.{declarations, declared_by}
use Rattle.wdf_refusals.specs.First.{first_refusal}
use Rattle.wdf_plan.specs.Parts.{object_of, device_info, queue_info, interrupt_info, target_info, class_on}
use Rattle.wdf_blocks.specs.Placed.{placed}
use Rattle.wdf_plan.specs.Plans.{plan_with, plan_of}
use Rattle.wdf_plan.specs.Scripts.{script_on}
use Rattle.wdf_plan.proofs.Bodies.{HasBody, every_body}
use Rattle.wdf_plan.proofs.Devices.{IsKnown, each_known}
use Rattle.wdf_refusals.proofs.Every.{Every, every_map, every_both, every_at, some_has}
use Rattle.wdf_plan.proofs.Nesting.{IsBody}
use Rattle.wdf_plan.proofs.Owners.{owner_at, IsOwner, owner_on}
use Rattle.wdf_plan.proofs.Uses.{ClassThere, classes_there}
use Rattle.law_plan.specs.Told.{placed_that, Paired, is_on, block_name, IsCallbackTold}
use Rattle.law_plan.specs.WrittenOut.{owner_text}
use Rattle.law_plan.proofs.NameTexts.{LineTold, lines_told, classes_are}
use Rattle.law_plan.proofs.Pairs.{Both, paired}
use Rattle.law_plan.proofs.StatementLines.{callback_lines}

-- ---- owners

-- the owner has the name that the line of its block declares
abbrev HasOwnName : Scene → SceneLine → Declared → Type 0
HasOwnName scene form d = declared_name form ≡ Some (owner_text (plan_of scene) d)

owner_row : (scene : Scene) (q : Placed) (form : SceneLine) → LineTold scene q form → ((x : ClassInfo) → class_on scene (declarations scene) q form ≡ Some x → slice_get (plan_of scene).classes q.counts.classes ≡ Some x) → (d : Declared) → owner_at scene (declarations scene) q form ≡ Some d → HasOwnName scene form d
unfolding object_of declared_by device_info queue_info interrupt_info target_info class_on declared_name
owner_row scene q (line.Class n k) t there d e =
    some_has (HasOwnName scene (line.Class n k)) _ d e (rw (there _ refl) (ap (λ m. Some m) (sym (t _ refl))))
owner_row scene q (line.DeferredClass n k parent) t there d e =
    some_has (HasOwnName scene (line.DeferredClass n k parent)) _ d e (rw (there _ refl) (ap (λ m. Some m) (sym (t _ refl))))
owner_row scene q (line.Device n working) t there d e =
    some_has (HasOwnName scene (line.Device n working)) _ d e (ap (λ m. Some m) (sym (t _ refl)))
owner_row scene q (line.Queue n dispatch) t there d e =
    some_has (HasOwnName scene (line.Queue n dispatch)) _ d e (ap (λ m. Some m) (sym (t _ refl)))
owner_row scene q (line.Interrupt n l) t there d e =
    some_has (HasOwnName scene (line.Interrupt n l)) _ d e (ap (λ m. Some m) (sym (t _ refl)))
owner_row scene q (line.Target n delay status depth) t there d e =
    some_has (HasOwnName scene (line.Target n delay status depth)) _ d e (ap (λ m. Some m) (sym (t _ refl)))
owner_row scene q _ t there d e = absurd (let z : ⊥ = cc in z)

-- what is known of the line of a block
record IsHomeLine (scene : Scene) (q : Placed) : Type 0 where
  told : LineTold scene q q.form
  there : ClassThere scene q

home_lines : (scene : Scene) → first_refusal scene ≡ None → Every (IsHomeLine scene) (placed scene)
home_lines scene e =
    every_map (λ p. LineTold scene p p.form × ClassThere scene p) (IsHomeLine scene) (λ p h. record { told = h.0; there = h.1 }) (placed scene) (every_both (λ p. LineTold scene p p.form) (ClassThere scene) (placed scene) (lines_told scene e) (classes_there scene))

-- the name of a block is that of its line
pub block_step : (scene : Scene) (o : Option ℕ) (k : ℕ) (form : SceneLine) (n : List ℕ) → o ≡ Some k → form_at scene k ≡ Some form → declared_name form ≡ Some n → block_name scene o ≡ Some n
block_step scene o k form n e f g = rw (e, f) g

owner_told : (scene : Scene) → first_refusal scene ≡ None → (p : Placed) (i : IsOwner scene p) → block_name scene p.stand.block ≡ Some (owner_text (plan_of scene) i.owner)
owner_told scene e p i =
    let q = i.home.opener in
    let h = every_at (IsHomeLine scene) (placed scene) (home_lines scene e) i.home.line q i.home.there in
    block_step scene p.stand.block i.home.line q.form (owner_text (plan_of scene) i.owner) i.home.block i.form (owner_row scene q q.form h.told (λ x is. rw (classes_are scene) (h.there x is)) i.owner i.own)

-- ---- the callback of a line

-- what is known of a line
record IsScriptRow (scene : Scene) (p : Placed) (form : SceneLine) : Type 0 where
  owner : (c : Callback) → form ≡ line.On c → IsOwner scene p
  body : (c : Callback) → form ≡ line.On c → IsBody 0 (drop (suc p.at) scene.lines)

script_row : (scene : Scene) → first_refusal scene ≡ None → (p : Placed) (form : SceneLine) → p.form ≡ form → IsScriptRow scene p form → Both (IsCallbackTold (plan_of scene) scene) (cond (is_on form) (Some p) None) (script_on scene (declarations scene) p form)
unfolding script_on
script_row scene e p (line.On c) is h =
    let i = h.owner c refl in
    rw i.owned (record {
      on = rw is refl;
      owner = owner_told scene e p i;
      statements = callback_lines scene e p.at (h.body c refl);
    })
script_row scene e p _ is h = tt

-- each callback
pub callbacks_are : (scene : Scene) → IsScene scene → first_refusal scene ≡ None → Paired (IsCallbackTold (plan_of scene) scene) (placed_that is_on scene) (plan_of scene).scripts
unfolding plan_of plan_with
callbacks_are scene s e =
    paired (IsCallbackTold (plan_of scene) scene) (λ p. cond (is_on p.form) (Some p) None) (λ p. script_on scene (declarations scene) p p.form) (placed scene) (every_map (λ p. IsKnown scene p × HasBody scene p) (λ p. Both (IsCallbackTold (plan_of scene) scene) (cond (is_on p.form) (Some p) None) (script_on scene (declarations scene) p p.form)) (λ p h. script_row scene e p p.form refl (record { owner = λ c is. owner_on scene s e p.at p h.0.there c is; body = h.1 })) (placed scene) (every_both (IsKnown scene) (HasBody scene) (placed scene) (each_known scene s e) (every_body scene s)))
