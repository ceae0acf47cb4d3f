-- No two scripts of a plan are of one callback on one object.
use Rattle.std.proofs.Common.{◌≡◌, ℕ, ◌<◌, ◌≤◌, true, Option, Some, None, refl, ap, sym, ◌∙◌, arith}
use Rattle.std.proofs.lemmas.Bool.{lt-ltb, and_parts, false_from_ne_true}
use Rattle.std.specs.Prelude.{option_map, option_and_then}
use denote.Enum.Bare.{same_true, true_same}
use Rattle.wdf_base.specs.declared.call.Callback.{Callback}
use Rattle.wdf_base.specs.declared.declared.Declared.{Declared}
use Rattle.wdf_base.specs.declared.script.Script.{Script}
use Rattle.wdf_base.specs.contracts.call.Callback as enum
use Rattle.wdf_base.specs.Resolved.{all_differ, same_script}
use Rattle.wdf_base.specs.Same.{same_callback}
use Rattle.wdf_base.specs.SamePlan.{same_declared}
use Rattle.wdf_scene.specs.declared.line.SceneLine.{SceneLine}
use Rattle.wdf_scene.specs.declared.line.SceneLine.TheVariants as line
use Rattle.wdf_scene.specs.declared.scene.Scene.{Scene}
use Rattle.wdf_scene.specs.Naming.{declared_name}
use Rattle.wdf_scene.specs.Written.{IsScene}
use Rattle.wdf_blocks.specs.declared.attribute.Attribute.{Attribute}
use Rattle.wdf_blocks.specs.declared.attribute.Attribute.TheVariants as attribute
use Rattle.wdf_blocks.specs.declared.placed.Placed.{Placed}
use Rattle.wdf_blocks.specs.Attribute.{gives, gives_callback, attribute_of, is_device_wide}
use Rattle.wdf_blocks.specs.Blocks.{given, number_at}
use Rattle.wdf_blocks.specs.Declarations.{declarations}
use Rattle.wdf_refusals.specs.First.{first_refusal}
use Rattle.wdf_blocks.specs.Forms.{assigned_name}
use Rattle.wdf_blocks.specs.Placed.{outside, nothing, placed}
use Rattle.wdf_plan.specs.Plans.{plan_with, plan_of}
use Rattle.wdf_refusals.specs.Rows.{given_line, twice_given, twice_named}
use Rattle.wdf_plan.specs.Scripts.{owner_of, script_on, statements_of}
use Rattle.wdf_plan.proofs.Accepted.{IsAccepted}
use Rattle.wdf_plan.proofs.Apart.{GiveOthers, all_apart, line_pairs}
use Rattle.wdf_plan.proofs.Devices.{IsKnown, each_known}
use Rattle.wdf_plan.proofs.Gathered.{one_value}
use Rattle.wdf_plan.proofs.Given.{given_found}
use Rattle.wdf_plan.proofs.Owners.{owner_on}
use Rattle.wdf_plan.proofs.OwnLines.{one_owner}

-- ---- the line of a script

-- the line of a script begins its callback, in the block of its owner
record IsScriptLine (scene : Scene) (p : Placed) (form : SceneLine) (s : Script) : Type 0 where
  begins : form ≡ line.On s.callback
  owned : owner_of scene (declarations scene) p p.stand.block ≡ Some s.owner

made_step : (scene : Scene) (p : Placed) (c : Callback) (d : Declared) (t s : Script) → owner_of scene (declarations scene) p p.stand.block ≡ Some d → Some t ≡ Some s → t.callback ≡ c → t.owner ≡ d → IsScriptLine scene p (line.On c) s
made_step scene p c d t s is e called owned' =
    let same : t ≡ s = cc in
    record {
      begins = ap line.On (sym called ∙ ap (λ (x : Script). x.callback) same);
      owned = is ∙ ap (λ x. Some x) (sym owned' ∙ ap (λ (x : Script). x.owner) same);
    }

owner_step : (scene : Scene) (p : Placed) (c : Callback) (s : Script) (o : Option Declared) → owner_of scene (declarations scene) p p.stand.block ≡ o → option_map (λ d. record {
  callback = c;
  owner = d;
  line = p.number;
  statements = statements_of scene (declarations scene) p.at;
}) o ≡ Some s → IsScriptLine scene p (line.On c) s
owner_step scene p c s None is e = absurd (let z : ⊥ = cc in z)
owner_step scene p c s (Some d) is e = made_step scene p c d _ s is e refl refl

script_line : (scene : Scene) (p : Placed) (form : SceneLine) (s : Script) → script_on scene (declarations scene) p form ≡ Some s → IsScriptLine scene p form s
unfolding script_on
script_line scene p (line.On c) s e =
    owner_step scene p c s (owner_of scene (declarations scene) p p.stand.block) refl e
script_line scene p _ s e = absurd (let z : ⊥ = cc in z)

-- ---- a callback that was begun before in the block

given_before : (scene : Scene) (k b g : ℕ) (a : Attribute) (o : Option ℕ) → o ≡ Some b → given scene b a ≡ Some g → g < k → given_line scene k (option_and_then (λ x. given scene x a) o) ≡ None → ⊥
given_before scene k b g a o e f less h =
    let none : given_line scene k (Some g) ≡ None = rw (e, f) at h in
    let found : Some (number_at scene g) ≡ None = rw (lt-ltb g k less) at none in
    let z : ⊥ = cc in
    z

callback_line : (c : Callback) (form : SceneLine) → form ≡ line.On c → (declared_name form ≡ None) × (assigned_name form ≡ None) × (attribute_of form ≡ Some (attribute.On c))
unfolding declared_name assigned_name attribute_of
callback_line c form e = (ap declared_name e, ap assigned_name e, ap attribute_of e)

-- an accepted line that begins a callback has no earlier one in its block
begun_once : (scene : Scene) (q : Placed) (c : Callback) (b g : ℕ) → IsAccepted scene q → q.form ≡ line.On c → q.stand.block ≡ Some b → given scene b (attribute.On c) ≡ Some g → g < q.at → ⊥
unfolding twice_named twice_given is_device_wide
begun_once scene q c b g a e block' f less =
    let h = callback_line c q.form e in
    let once : twice_given scene q (attribute.On c) ≡ None = rw (h.0, h.1, h.2) at a.once in
    given_before scene q.at b g (attribute.On c) q.stand.block block' f less once

gives_own : (c : Callback) (form : SceneLine) → form ≡ line.On c → gives (attribute.On c) form ≡ true
unfolding gives gives_callback
gives_own c form e = rw e (true_same enum.the_type c c refl)

-- ---- two lines

no_second : (scene : Scene) → IsScene scene → first_refusal scene ≡ None → (p q : Placed) (c : Callback) (a b : Declared) → p.at < q.at → IsKnown scene p → IsKnown scene q → p.form ≡ line.On c → q.form ≡ line.On c → owner_of scene (declarations scene) p p.stand.block ≡ Some a → owner_of scene (declarations scene) q q.stand.block ≡ Some b → same_declared a b ≡ true → ⊥
no_second scene s none p q c a b less hp hq fp fq op oq same =
    let ip = owner_on scene s none p.at p hp.there c fp in
    let iq = owner_on scene s none q.at q hq.there c fq in
    let own_p = ip.own ∙ ap (λ x. Some x) (one_value (owner_of scene (declarations scene) p p.stand.block) ip.owner a ip.owned op) in
    let own_q = iq.own ∙ ap (λ x. Some x) (one_value (owner_of scene (declarations scene) q q.stand.block) iq.owner b iq.owned oq) in
    let at' : ip.home.opener.at ≡ iq.home.opener.at = one_owner scene none ip.home.line iq.home.line ip.home.opener iq.home.opener a b ip.home.there iq.home.there own_p own_q same in
    let block' : q.stand.block ≡ Some ip.home.line = iq.home.block ∙ ap (λ x. Some x) (sym iq.home.at ∙ (sym at' ∙ ip.home.at)) in
    let first = given_found scene s p.at ip.home.line p (attribute.On c) hp.there ip.home.block ip.home.no_callback (gives_own c p.form fp) in
    let before : first.g ≤ p.at = first.before in
    begun_once scene q c ip.home.line first.g hq.accepted fq block' first.is (omega arith)

other_scripts : (scene : Scene) → IsScene scene → first_refusal scene ≡ None → (p q : Placed) → p.at < q.at → IsKnown scene p → IsKnown scene q → GiveOthers (λ x. script_on scene (declarations scene) x x.form) same_script p q
other_scripts scene s none p q less hp hq a b e f =
    let la = script_line scene p p.form a e in
    let lb = script_line scene q q.form b f in
    false_from_ne_true (same_script a b) (λ same.
    let both = and_parts (same_callback a.callback b.callback) (same_declared a.owner b.owner) same in
    let c : a.callback ≡ b.callback = same_true enum.the_type tt a.callback b.callback both.0 in
    no_second scene s none p q a.callback a.owner b.owner less hp hq la.begins (lb.begins ∙ ap line.On (sym c)) la.owned lb.owned both.1)

-- no two scripts of a plan are of one callback on one object
pub plan_differ : (scene : Scene) → IsScene scene → first_refusal scene ≡ None → all_differ same_script (plan_of scene).scripts ≡ true
unfolding plan_of plan_with placed
plan_differ scene s none =
    all_apart (λ p. script_on scene (declarations scene) p p.form) same_script (placed scene) (line_pairs (IsKnown scene) (GiveOthers (λ p. script_on scene (declarations scene) p p.form) same_script) (other_scripts scene s none) 0 outside nothing scene.lines (each_known scene s none))
