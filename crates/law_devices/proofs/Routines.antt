-- A service routine starts on an interrupt of the plan alone: a resolved plan declares one for nothing else.
use Rattle.std.proofs.Common.{◌≡◌, ℕ, true, List, [], ◌∷◌, position, Option, Some, None, is_some, slice_get, refl, subst}
use Rattle.std.specs.List.{list_all}
use Rattle.std.proofs.lemmas.List.Quantifiers.{position-Some}
use Rattle.wdf_base.specs.Callbacks.{row_of}
use Rattle.wdf_base.specs.Plan.{is_script_of, script_of}
use Rattle.wdf_base.specs.Resolved.{IsResolved, owner_fits, script_fits}
use Rattle.wdf_base.specs.Same.{same_callback}
use Rattle.wdf_base.specs.SamePlan.{same_declared}
use Rattle.wdf_base.specs.declared.plan.Plan.{Plan}
use Rattle.wdf_base.specs.declared.object.Kind.{Kind}
use Rattle.wdf_base.specs.declared.object.Kind.TheVariants as kind
use Rattle.wdf_base.specs.declared.call.Callback.{Callback}
use Rattle.wdf_base.specs.declared.call.Callback.TheVariants as callback
use Rattle.wdf_base.specs.declared.declared.Declared.{Declared}
use Rattle.wdf_base.specs.declared.declared.Declared.TheVariants as declared
use Rattle.wdf_base.specs.declared.rank.Owner.TheVariants as owner
use Rattle.wdf_base.specs.declared.script.Script.{Script}
use Rattle.wdf_model.specs.Plans.{as_interrupt, interrupt_of, script_on}
use Rattle.wdf_model.specs.Tables.{entry}
use Rattle.wdf_model.specs.State.{State, declares_in}
use Rattle.wdf_model.specs.declared.entries.Node.{Node}
use Rattle.wdf_model.specs.parts.Tree.{kind_of, made_as, node_of}
use Rattle.wdf_model.proofs.Sames.{callback_decides}
use Rattle.wdf_model.proofs.Tests.{both_left, both_right}
use Rattle.law_machine_lives.proofs.LevelCalls.{all_fit_at, class_unlike}

owns : (plan : Plan) (x y : Declared) → same_declared x y ≡ true → owner_fits plan (owner.Of kind.Interrupt) x ≡ true → is_some (as_interrupt (Some y)) ≡ true
owns plan (declared.Interrupt a) (declared.Interrupt b) h k = refl
owns plan (declared.Interrupt a) _ h k = absurd (let z : ⊥ = cc in z)
owns plan (declared.OfClass c) y h k = absurd (class_unlike (slice_get plan.classes c) k)
owns plan _ y h k = absurd (let z : ⊥ = cc in z)

owned_by : (plan : Plan) (x : Declared) (ss : List Script) (found : Option ℕ) → list_all (script_fits plan) ss ≡ true → position (is_script_of callback.EvtInterruptIsr x) ss ≡ found → is_some found ≡ true → is_some (as_interrupt (Some x)) ≡ true
owned_by plan x ss None fits at h = absurd (let z : ⊥ = cc in z)
owned_by plan x [] (Some i) fits at h = absurd (let z : ⊥ = cc in z)
owned_by plan x (t ∷ ts) (Some i) fits at h =
    let p = position-Some (is_script_of callback.EvtInterruptIsr x) (t ∷ ts) i t at in
    let s : Script = entry t (t ∷ ts) i in
    let fit : script_fits plan s ≡ true = all_fit_at (script_fits plan) t (t ∷ ts) i fits p.0 in
    let same : s.callback ≡ callback.EvtInterruptIsr = (callback_decides s.callback callback.EvtInterruptIsr).0 (both_left (same_callback s.callback callback.EvtInterruptIsr) (same_declared s.owner x) p.1) in
    let own : owner_fits plan (row_of s.callback).owner s.owner ≡ true = both_left (owner_fits plan (row_of s.callback).owner s.owner) _ fit in
    owns plan s.owner x (both_right (same_callback s.callback callback.EvtInterruptIsr) (same_declared s.owner x) p.1)
    (subst (λ (c : Callback). owner_fits plan (row_of c).owner s.owner ≡ true) same own)

declared_by : (plan : Plan) → IsResolved plan → (x : Option Declared) → is_some (script_on plan callback.EvtInterruptIsr x) ≡ true → is_some (as_interrupt x) ≡ true
declared_by plan resolved None h = absurd (let z : ⊥ = cc in z)
declared_by plan resolved (Some x) h = owned_by plan x plan.scripts (script_of plan callback.EvtInterruptIsr x) resolved.scripts_fit refl h

of_plan : (plan : Plan) (n : Node) (o : ℕ) (k : Kind) → is_some (as_interrupt (made_as plan n o k)) ≡ true → is_some (interrupt_of plan o) ≡ true
of_plan plan n o kind.Driver h = h
of_plan plan n o kind.Device h = h
of_plan plan n o kind.Queue h = h
of_plan plan n o kind.Interrupt h = h
of_plan plan n o kind.Target h = h
of_plan plan n o _ h = absurd (let z : ⊥ = cc in z)

pub is_interrupt : {A : Type 0} (plan : Plan) (S : State A) (o : ℕ) → IsResolved plan → declares_in plan S callback.EvtInterruptIsr o ≡ true → is_some (interrupt_of plan o) ≡ true
is_interrupt plan S o resolved h = of_plan plan (node_of S.tree o) o (kind_of S.tree o) (declared_by plan resolved (made_as plan (node_of S.tree o) o (kind_of S.tree o)) h)
