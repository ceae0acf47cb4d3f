-- What is known of a line that nothing refuses.
use Rattle.std.proofs.Common.{◌≡◌, ℕ, Bool, true, false, Option, Some, None, refl}
use Rattle.std.proofs.lemmas.Bool.{or_parts}
use Rattle.std.specs.Option.{option_or}
use Rattle.std.specs.List.{list_any}
use Rattle.wdf_scene.specs.declared.scene.Scene.{Scene}
use Rattle.wdf_refusals.specs.declared.limit.Limit.{Limit}
use Rattle.wdf_refusals.specs.declared.limit.TheConstants.{LIMITS}
use Rattle.wdf_blocks.specs.declared.placed.Placed.{Placed}
use Rattle.wdf_refusals.specs.declared.refusal.PlanRefusal.{PlanRefusal}
use Rattle.wdf_refusals.specs.declared.refusal.PlanRefusal.TheVariants as refusal
use Rattle.wdf_blocks.specs.Declarations.{declarations}
use Rattle.wdf_refusals.specs.First.{refused, refused_at, first_refusal, if_holds, if_twice, if_over}
use Rattle.wdf_refusals.specs.Limits.{exceeds, exceeded}
use Rattle.wdf_blocks.specs.Placed.{placed}
use Rattle.wdf_refusals.specs.Rows.{unknown_name, unknown_word, unknown_node, nodes_of, twice_named, wrong_callback, incompatible_level, no_parent}
use Rattle.wdf_blocks.specs.Variables.{variables_at}
use Rattle.wdf_refusals.proofs.Every.{Every, none_each, find_none, every_map}

-- none of the six refusals
pub record IsAccepted (scene : Scene) (p : Placed) : Type 0 where
  pub known : unknown_name scene (declarations scene) (variables_at scene p) p ≡ false
  pub once : twice_named scene (declarations scene) p ≡ None
  pub fitting : wrong_callback scene p p.form ≡ false
  pub within : Every (λ l. exceeds (declarations scene) (variables_at scene p) p l ≡ false) LIMITS
  pub like : incompatible_level scene (declarations scene) p p.form ≡ false
  pub fathered : no_parent (declarations scene) p.form ≡ false

holds_step : (b : Bool) (r : PlanRefusal) (o : Option PlanRefusal) → option_or (if_holds b r) o ≡ None → (b ≡ false) × (o ≡ None)
holds_step true r o e = absurd (let z : ⊥ = cc in z)
holds_step false r o e = (refl, e)

last_step : (b : Bool) (r : PlanRefusal) → if_holds b r ≡ None → b ≡ false
last_step true r e = absurd (let z : ⊥ = cc in z)
last_step false r e = refl

twice_step : (n : ℕ) (t : Option ℕ) (o : Option PlanRefusal) → option_or (if_twice n t) o ≡ None → (t ≡ None) × (o ≡ None)
twice_step n None o e = (refl, e)
twice_step n (Some k) o e = absurd (let z : ⊥ = cc in z)

over_step : (n : ℕ) (l : Option Limit) (o : Option PlanRefusal) → option_or (if_over n l) o ≡ None → (l ≡ None) × (o ≡ None)
over_step n None o e = (refl, e)
over_step n (Some k) o e = absurd (let z : ⊥ = cc in z)

-- a line that nothing refuses
pub accepted : (scene : Scene) (p : Placed) → refused_at scene p ≡ None → IsAccepted scene p
unfolding refused_at refused exceeded
accepted scene p e =
    let a = holds_step (unknown_name scene (declarations scene) (variables_at scene p) p) (refusal.UnknownName p.number) _ e in
    let b = twice_step p.number (twice_named scene (declarations scene) p) _ a.1 in
    let c = holds_step (wrong_callback scene p p.form) (refusal.WrongCallback p.number) _ b.1 in
    let d = over_step p.number (exceeded (declarations scene) (variables_at scene p) p) _ c.1 in
    let f = holds_step (incompatible_level scene (declarations scene) p p.form) (refusal.IncompatibleLevel p.number) _ d.1 in
    record {
      known = a.0;
      once = b.0;
      fitting = c.0;
      within = find_none (exceeds (declarations scene) (variables_at scene p) p) LIMITS d.0;
      like = f.0;
      fathered = last_step (no_parent (declarations scene) p.form) (refusal.NoParent p.number) f.1;
    }

-- its names are known
pub word_known : (scene : Scene) (p : Placed) → IsAccepted scene p → unknown_word (declarations scene) p.stand.device p.form ≡ false
unfolding unknown_name
word_known scene p a =
    (or_parts (unknown_word (declarations scene) p.stand.device p.form) (list_any (unknown_node (declarations scene) (variables_at scene p)) (nodes_of scene p)) a.known).0

-- in a scene without a refusal each line is accepted
pub each_accepted : (scene : Scene) → first_refusal scene ≡ None → Every (IsAccepted scene) (placed scene)
unfolding first_refusal
each_accepted scene e =
    every_map (λ p. refused_at scene p ≡ None) (IsAccepted scene) (accepted scene) (placed scene) (none_each (refused_at scene) (placed scene) e)
