-- The scripts of a plan fit: each is on an object that has such callbacks, and its statements fit.
use Rattle.std.proofs.Common.{◌≡◌, ℕ, zero, suc, Bool, true, false, IsTrue, List, [], ◌∷◌, drop, length, Option, Some, None, slice_get, refl, sym, subst, ◌∙◌, arith}
use Rattle.std.proofs.lemmas.Bool.{lt-ltb, and_from, not-false, or_right}
use Rattle.std.proofs.lemmas.Option.{slice_get_within}
use Rattle.std.specs.List.{filter_map, list_all, list_any}
use Rattle.wdf_base.specs.declared.call.Callback.{Callback}
use Rattle.wdf_base.specs.declared.declared.ClassInfo.{ClassInfo}
use Rattle.wdf_base.specs.declared.declared.Declared.{Declared}
use Rattle.wdf_base.specs.declared.declared.Declared.TheVariants as declared
use Rattle.wdf_base.specs.declared.rank.Owner.{Owner}
use Rattle.wdf_base.specs.declared.rank.Owner.TheVariants as owner
use Rattle.wdf_base.specs.declared.script.Script.{Script}
use Rattle.wdf_base.specs.Callbacks.{row_of}
use Rattle.wdf_base.specs.Resolved.{owner_fits, script_fits, statement_fits}
use Rattle.wdf_base.specs.SamePlan.{same_declared}
use Rattle.wdf_scene.specs.declared.line.SceneLine.{SceneLine}
use Rattle.wdf_scene.specs.declared.line.SceneLine.TheVariants as line
use Rattle.wdf_scene.specs.declared.scene.Scene.{Scene}
use Rattle.wdf_scene.specs.Written.{IsScene}
use Rattle.wdf_blocks.specs.declared.placed.Placed.{Placed}
use Rattle.wdf_blocks.specs.Blocks.{form_at}
use Rattle.wdf_blocks.specs.Declarations.{declarations}
use Rattle.wdf_refusals.specs.First.{first_refusal}
use Rattle.wdf_blocks.specs.Forms.{block_kind}
use Rattle.wdf_plan.specs.Parts.{class_on, object_of, object_on}
use Rattle.wdf_blocks.specs.Placed.{placed}
use Rattle.wdf_plan.specs.Plans.{all_objects, plan_with, plan_of}
use Rattle.wdf_refusals.specs.Rows.{has_callbacks, is_class_or_device, block_form, block_is, wrong_callback}
use Rattle.wdf_plan.specs.Scripts.{owner_of, script_on, statements_from, statements_of}
use Rattle.wdf_blocks.specs.Variables.{variables}
use Rattle.wdf_plan.proofs.Accepted.{IsAccepted, each_accepted}
use Rattle.wdf_plan.proofs.Bodies.{HasBody, every_body}
use Rattle.wdf_refusals.proofs.Every.{Every, every_kept, every_all, every_at, every_both}
use Rattle.wdf_plan.proofs.Gathered.{any_from}
use Rattle.wdf_plan.proofs.Nesting.{IsBody}
use Rattle.wdf_plan.proofs.Operands.{lines_fit}
use Rattle.wdf_plan.proofs.Owners.{IsOwner, owner_at, owner_on}
use Rattle.wdf_plan.proofs.SameOwners.{object_is}
use Rattle.wdf_plan.proofs.Stacking.{every_there}
use Rattle.wdf_plan.proofs.Statements.{HasNumbers, made, statements_fit}
use Rattle.wdf_plan.proofs.Uses.{classes_there}
use Rattle.wdf_plan.proofs.VariableFacts.{variables_bound, variable_within}

-- ---- the owner

same_owner : (scene : Scene) (own : Owner) (a b : Declared) → Some a ≡ Some b → owner_fits (plan_of scene) own a ≡ true → owner_fits (plan_of scene) own b ≡ true
same_owner scene own a b e h = let same : a ≡ b = cc in rw (← same) h

-- the class and the object of a line are the plan's
record HasParts (scene : Scene) (q : Placed) (form : SceneLine) : Type 0 where
  class' : (x : ClassInfo) → class_on scene (declarations scene) q form ≡ Some x → slice_get (plan_of scene).classes q.counts.classes ≡ Some x
  object : (d : Declared) → object_of scene (declarations scene) q q.at form ≡ Some d → list_any (same_declared d) (plan_of scene).declared ≡ true

owner_in : (scene : Scene) (q : Placed) (form : SceneLine) (own : Owner) (d : Declared) → HasParts scene q form → owner_at scene (declarations scene) q form ≡ Some d → has_callbacks own form ≡ true → owner_fits (plan_of scene) own d ≡ true
unfolding class_on object_of block_kind is_class_or_device
owner_in scene q (line.Class n c) (owner.Of k) d parts e h = same_owner scene (owner.Of k) _ d e (rw (parts.class' _ refl) h)
owner_in scene q (line.DeferredClass n c parent) (owner.Of k) d parts e h = same_owner scene (owner.Of k) _ d e (rw (parts.class' _ refl) h)
owner_in scene q (line.Device n working) (owner.Of k) d parts e h = same_owner scene (owner.Of k) _ d e (and_from _ _ h (parts.object _ refl))
owner_in scene q (line.Queue n dispatch) (owner.Of k) d parts e h = same_owner scene (owner.Of k) _ d e (and_from _ _ h (parts.object _ refl))
owner_in scene q (line.Interrupt n l) (owner.Of k) d parts e h = same_owner scene (owner.Of k) _ d e (and_from _ _ h (parts.object _ refl))
owner_in scene q (line.Target n delay status depth) (owner.Of k) d parts e h = same_owner scene (owner.Of k) _ d e (and_from _ _ h (parts.object _ refl))
owner_in scene q (line.Class n c) owner.ClassOrDevice d parts e h =
    same_owner scene owner.ClassOrDevice _ d e (lt-ltb _ _ (slice_get_within (plan_of scene).classes q.counts.classes _ (parts.class' _ refl)))
owner_in scene q (line.DeferredClass n c parent) owner.ClassOrDevice d parts e h =
    same_owner scene owner.ClassOrDevice _ d e (lt-ltb _ _ (slice_get_within (plan_of scene).classes q.counts.classes _ (parts.class' _ refl)))
owner_in scene q (line.Device n working) owner.ClassOrDevice d parts e h = same_owner scene owner.ClassOrDevice _ d e (parts.object _ refl)
owner_in scene q (line.Queue n dispatch) owner.ClassOrDevice d parts e h = absurd (let z : ⊥ = cc in z)
owner_in scene q (line.Interrupt n l) owner.ClassOrDevice d parts e h = absurd (let z : ⊥ = cc in z)
owner_in scene q (line.Target n delay status depth) owner.ClassOrDevice d parts e h = absurd (let z : ⊥ = cc in z)
owner_in scene q _ own d parts e h = absurd (let z : ⊥ = cc in z)

plan_objects : (scene : Scene) (d : Declared) → list_any (same_declared d) (filter_map (object_on scene (declarations scene)) (placed scene)) ≡ true → list_any (same_declared d) (plan_of scene).declared ≡ true
unfolding plan_of plan_with all_objects
plan_objects scene d h = or_right (same_declared d declared.Driver) _ h

parts_of : (scene : Scene) (k : ℕ) (q : Placed) → slice_get (placed scene) k ≡ Some q → HasParts scene q q.form
unfolding plan_of plan_with
parts_of scene k q there =
    record {
      class' = every_at _ (placed scene) (classes_there scene) k q there;
      object = λ d e. plan_objects scene d (any_from (object_on scene (declarations scene)) (same_declared d) (placed scene) k q d there e (object_is d));
    }

tested : (test : SceneLine → Bool) (o : Option SceneLine) (form : SceneLine) → o ≡ Some form → (elim o as (λ _. Bool) [ None ↦ false | Some x ↦ test x ]) ≡ true → test form ≡ true
tested test None form e h = absurd (let z : ⊥ = cc in z)
tested test (Some x) form e h = let same : x ≡ form = cc in subst (λ y. test y ≡ true) same h

form_passes : (test : SceneLine → Bool) (scene : Scene) (b : Option ℕ) (k : ℕ) (form : SceneLine) → b ≡ Some k → form_at scene k ≡ Some form → block_is test scene b ≡ true → test form ≡ true
form_passes test scene b k form e f h = tested test (block_form scene b) form (rw (e, f) refl) h

owner_has : (scene : Scene) (p : Placed) (form : SceneLine) (c : Callback) → form ≡ line.On c → wrong_callback scene p form ≡ false → block_is (has_callbacks (row_of c).owner) scene p.stand.block ≡ true
unfolding wrong_callback
owner_has scene p form c e h =
    let on : wrong_callback scene p (line.On c) ≡ false = rw e at h in
    not-false (block_is (has_callbacks (row_of c).owner) scene p.stand.block) on

script_owner : (scene : Scene) (p : Placed) (c : Callback) (d : Declared) → IsOwner scene p → IsAccepted scene p → p.form ≡ line.On c → owner_of scene (declarations scene) p p.stand.block ≡ Some d → owner_fits (plan_of scene) (row_of c).owner d ≡ true
script_owner scene p c d o a is e =
    let q = o.home.opener in
    let has = form_passes (has_callbacks (row_of c).owner) scene p.stand.block o.home.line q.form o.home.block o.form (owner_has scene p p.form c is a.fitting) in
    let both : Some o.owner ≡ Some d = sym o.owned ∙ e in
    same_owner scene (row_of c).owner o.owner d both (owner_in scene q q.form (row_of c).owner o.owner (parts_of scene o.home.line q o.home.there) o.own has)

-- ---- the statements

every_drop : {T : Type 0} (P : T → Type 0) (k : ℕ) (xs : List T) → Every P xs → Every P (drop k xs)
every_drop P zero xs h = h
every_drop P (suc k) [] h = tt
every_drop P (suc k) (x ∷ xs) h = every_drop P k xs h.1

script_statements : (scene : Scene) (k : ℕ) → IsScene scene → Every (IsAccepted scene) (placed scene) → (p : Placed) (c : Callback) → slice_get (placed scene) k ≡ Some p → p.form ≡ line.On c → IsBody 0 (drop (suc k) scene.lines) → list_all (statement_fits (plan_of scene) (length (statements_of scene (declarations scene) k))) (statements_of scene (declarations scene) k) ≡ true
unfolding statements_of
script_statements scene k s each p c there is body =
    let names = declarations scene in
    let own = variables scene k in
    let all = statements_from names own [] 0 (drop (suc k) scene.lines) in
    let few = variables_bound scene s each k p c there is in
    every_all (statement_fits (plan_of scene) (length all)) all (statements_fit (plan_of scene) names own [] 0 (length all) (drop (suc k) scene.lines) (λ n. variable_within own n few) (every_drop (λ l. HasNumbers (plan_of scene) names l.form) (suc k) scene.lines (lines_fit scene s each)) body (record { few = omega arith; begun = tt }) (omega arith))

-- ---- the scripts

-- where a line that begins a callback is, and that its callback ends
abbrev IsKnown : Scene → Placed → Type 0
IsKnown scene p = (slice_get (placed scene) p.at ≡ Some p) × HasBody scene p

line_script : (scene : Scene) → IsScene scene → first_refusal scene ≡ None → (p : Placed) (t : Script) → IsKnown scene p → IsAccepted scene p → (form : SceneLine) → p.form ≡ form → script_on scene (declarations scene) p form ≡ Some t → script_fits (plan_of scene) t ≡ true
unfolding script_on
line_script scene s none p t known a (line.On c) is e =
    let o = owner_on scene s none p.at p known.0 c is in
    let m = made (λ d. record { callback = c; owner = d; line = p.number; statements = statements_of scene (declarations scene) p.at }) (owner_of scene (declarations scene) p p.stand.block) t e in
    subst (λ x. script_fits (plan_of scene) x ≡ true) m.makes (and_from _ _ (script_owner scene p c m.from o a is m.is) (script_statements scene p.at s (each_accepted scene none) p c known.0 is (known.1 c is)))
line_script scene s none p t known a _ is e = absurd (let z : ⊥ = cc in z)

pub scripts_fit : (scene : Scene) → IsScene scene → first_refusal scene ≡ None → IsTrue (list_all (script_fits (plan_of scene)) (plan_of scene).scripts)
unfolding plan_of plan_with
scripts_fit scene s none =
    let plan = plan_of scene in
    let on : Placed → Option Script = λ p. script_on scene (declarations scene) p p.form in
    let known = every_both (λ p. slice_get (placed scene) p.at ≡ Some p) (HasBody scene) (placed scene) (every_there scene s) (every_body scene s) in
    let each = every_both (IsKnown scene) (IsAccepted scene) (placed scene) known (each_accepted scene none) in
    every_all (script_fits plan) (filter_map on (placed scene)) (every_kept on (λ p. IsKnown scene p × IsAccepted scene p) (λ t. script_fits plan t ≡ true) (λ p t q e. line_script scene s none p t q.0 q.1 p.form refl e) (placed scene) each)
