-- Each number of a statement's line stands for what its place needs.
use Rattle.std.proofs.Common.{◌≡◌, ℕ, suc, ◌+◌, true, false, not, ◌&&◌, ◌||◌, List, [], ◌∷◌, length, Option, refl}
use Rattle.std.proofs.lemmas.Bool.{lt-ltb, not-false, and_parts, or_parts}
use Rattle.wdf_base.specs.declared.call.CallKind.{CallKind}
use Rattle.wdf_base.specs.declared.signature.Sort.{Sort}
use Rattle.wdf_base.specs.declared.signature.Sort.TheVariants as sort
use Rattle.wdf_base.specs.Calls.{signature_of}
use Rattle.wdf_base.specs.Resolved.{arg_fits}
use Rattle.wdf_scene.specs.declared.line.NumberedLine.{NumberedLine}
use Rattle.wdf_scene.specs.declared.line.SceneArg.TheVariants as arg
use Rattle.wdf_scene.specs.declared.line.SceneLine.{SceneLine}
use Rattle.wdf_scene.specs.declared.line.SceneLine.TheVariants as line
use Rattle.wdf_scene.specs.declared.line.StatementHead.{StatementHead}
use Rattle.wdf_scene.specs.declared.line.StatementHead.TheVariants as head
use Rattle.wdf_scene.specs.declared.scene.Scene.{Scene}
use Rattle.wdf_scene.specs.Written.{Argument, Missing, Valued, OfClass, Written, Plain, Picked, Single, Calling, IsScene, root, head_line, argument_size, numbered_argument, line_at, is_plain_form, is_argument, is_written}
use Rattle.wdf_blocks.specs.declared.placed.Counts.{Counts}
use Rattle.wdf_blocks.specs.declared.placed.Placed.{Placed}
use Rattle.wdf_blocks.specs.declared.placed.Stand.{Stand}
use Rattle.wdf_blocks.specs.declared.declaration.Wanted.TheVariants as wanted
use Rattle.wdf_blocks.specs.Declarations.{declarations, stands}
use Rattle.wdf_blocks.specs.Placed.{outside, nothing, counted, opened_by, placed_from, placed}
use Rattle.wdf_plan.specs.Plans.{plan_of}
use Rattle.wdf_refusals.specs.Rows.{unknown_class, unknown_argument, unknown_word}
use Rattle.wdf_plan.specs.Scripts.{class_number, argument_of}
use Rattle.wdf_plan.proofs.Accepted.{IsAccepted, word_known}
use Rattle.wdf_refusals.proofs.Every.{Every, every_map, every_both}
use Rattle.wdf_plan.proofs.ExprFacts.{IsBelow, AreBelow, line_exprs}
use Rattle.wdf_plan.proofs.Statements.{HasNumbers}
use Rattle.wdf_plan.proofs.WrittenNodes.{IsNumbered, all_numbered}
use Rattle.wdf_plan.proofs.Uses.{register_fits, class_fits}

-- the number of nodes of the plan's expressions
abbrev node_count : Scene → ℕ
node_count scene = length (plan_of scene).exprs

-- ---- the arguments of a call

class_argument : (scene : Scene) (s : Sort) (n : List ℕ) (a : Argument) → a ≡ OfClass n → is_argument s a ≡ true → unknown_class (declarations scene) s n ≡ false → arg_fits (plan_of scene) s (argument_of (declarations scene) s (arg.OfClass n)) ≡ true
unfolding unknown_class argument_of class_number
class_argument scene (sort.Class k) n a e is known =
    class_fits scene n k (not-false (stands (declarations scene) n (wanted.ClassOf k)) known)
class_argument scene _ n a e is known = absurd (let z : ⊥ = cc in z)

argument_fits : (scene : Scene) (s : Sort) (base : ℕ) (a : Argument) → is_argument s a ≡ true → unknown_argument (declarations scene) s (numbered_argument base a) ≡ false → IsBelow (node_count scene) (numbered_argument base a) → arg_fits (plan_of scene) s (argument_of (declarations scene) s (numbered_argument base a)) ≡ true
unfolding unknown_argument argument_of
argument_fits scene s base (OfClass n) is known below = class_argument scene s n (OfClass n) refl is known
argument_fits scene sort.Absent base Missing is known below = refl
argument_fits scene (sort.Class k) base (Valued x) is known below = absurd (let z : ⊥ = cc in z)
argument_fits scene sort.Absent base (Valued x) is known below = absurd (let z : ⊥ = cc in z)
argument_fits scene _ base (Valued x) is known below = lt-ltb base (node_count scene) below
argument_fits scene _ base Missing is known below = absurd (let z : ⊥ = cc in z)

call_fits : (scene : Scene) (device : Option ℕ) (base : ℕ) (k : CallKind) (into : Option (List ℕ)) (a b c : Argument) → is_written (Calling k into a b c) ≡ true → unknown_word (declarations scene) device (line_at base (Calling k into a b c)) ≡ false → AreBelow (node_count scene) (line_at base (Calling k into a b c)) → HasNumbers (plan_of scene) (declarations scene) (line_at base (Calling k into a b c))
unfolding unknown_word
call_fits scene device base k into a b c is known below =
    let names = declarations scene in
    let row = signature_of k in
    let a' = numbered_argument base a in
    let b' = numbered_argument (base + argument_size a) b in
    let c' = numbered_argument (base + argument_size a + argument_size b) c in
    let first' = and_parts (is_argument row.a a) (is_argument row.b b && is_argument row.c c) is in
    let second' = and_parts (is_argument row.b b) (is_argument row.c c) first'.1 in
    let one = or_parts (unknown_argument names row.a a') (unknown_argument names row.b b' || unknown_argument names row.c c') known in
    let two = or_parts (unknown_argument names row.b b') (unknown_argument names row.c c') one.1 in
    (argument_fits scene row.a base a first'.0 one.0 below.0, argument_fits scene row.b (base + argument_size a) b second'.0 two.0 below.1, argument_fits scene row.c (base + argument_size a + argument_size b) c second'.1 two.1 below.2)

-- ---- the other lines

known_register : (scene : Scene) (r : List ℕ) → not (stands (declarations scene) r wanted.Register) ≡ false → HasNumbers (plan_of scene) (declarations scene) (line.Get [] r)
known_register scene r known = register_fits scene r (not-false (stands (declarations scene) r wanted.Register) known)

plain_fits : (scene : Scene) (device : Option ℕ) (form : SceneLine) → is_plain_form form ≡ true → unknown_word (declarations scene) device form ≡ false → HasNumbers (plan_of scene) (declarations scene) form
unfolding unknown_word
plain_fits scene device (line.Get x r) is known = known_register scene r known
plain_fits scene device (line.Let x e) is known = absurd (let z : ⊥ = cc in z)
plain_fits scene device (line.Call k into a b c) is known = absurd (let z : ⊥ = cc in z)
plain_fits scene device (line.Put r e) is known = absurd (let z : ⊥ = cc in z)
plain_fits scene device (line.If e) is known = absurd (let z : ⊥ = cc in z)
plain_fits scene device (line.Repeat e) is known = absurd (let z : ⊥ = cc in z)
plain_fits scene device (line.Spend e) is known = absurd (let z : ⊥ = cc in z)
plain_fits scene device (line.Log e) is known = absurd (let z : ⊥ = cc in z)
plain_fits scene device (line.Return e) is known = absurd (let z : ⊥ = cc in z)
plain_fits scene device _ is known = tt

head_fits : (scene : Scene) (device : Option ℕ) (e : ℕ) (h : StatementHead) → unknown_word (declarations scene) device (head_line h e) ≡ false → AreBelow (node_count scene) (head_line h e) → HasNumbers (plan_of scene) (declarations scene) (head_line h e)
unfolding unknown_word
head_fits scene device e (head.Let x) known below = lt-ltb e (node_count scene) below
head_fits scene device e (head.Put r) known below =
    (known_register scene r known, lt-ltb e (node_count scene) below)
head_fits scene device e _ known below = lt-ltb e (node_count scene) below

written_fits : (scene : Scene) (device : Option ℕ) (base : ℕ) (w : Written) → is_written w ≡ true → unknown_word (declarations scene) device (line_at base w) ≡ false → AreBelow (node_count scene) (line_at base w) → HasNumbers (plan_of scene) (declarations scene) (line_at base w)
written_fits scene device base (Plain form) is known below = plain_fits scene device form is known
written_fits scene device base (Picked ns) is known below = tt
written_fits scene device base (Single h t) is known below = head_fits scene device (root base t) h known below
written_fits scene device base (Calling k into a b c) is known below = call_fits scene device base k into a b c is known below

-- ---- the lines of a scene

line_fits : (scene : Scene) (p : Placed) → IsAccepted scene p → IsNumbered scene p → AreBelow (node_count scene) p.form → HasNumbers (plan_of scene) (declarations scene) p.form
line_fits scene p a h below =
    let known = word_known scene p a in
    rw h.form (written_fits scene p.stand.device p.counts.nodes h.written h.is (rw h.form at known) (rw h.form at below))

lines_of : (P : SceneLine → Type 0) (k : ℕ) (o : Stand) (c : Counts) (ls : List NumberedLine) → Every (λ p. P p.form) (placed_from k o c ls) → Every (λ l. P l.form) ls
unfolding placed_from
lines_of P k o c [] h = tt
lines_of P k o c (l ∷ ls) h =
    (h.0, lines_of P (suc k) (opened_by o k l.form) (counted c l.form (length l.picks)) ls h.1)

pub lines_fit : (scene : Scene) → IsScene scene → Every (IsAccepted scene) (placed scene) → Every (λ l. HasNumbers (plan_of scene) (declarations scene) l.form) scene.lines
unfolding placed
lines_fit scene s each =
    let below = line_exprs scene s in
    let numbered = all_numbered scene s in
    let whole = every_both (IsAccepted scene) (λ p. IsNumbered scene p × AreBelow (node_count scene) p.form) (placed scene) each (every_both (IsNumbered scene) (λ p. AreBelow (node_count scene) p.form) (placed scene) numbered below) in
    let fits : Every (λ p. HasNumbers (plan_of scene) (declarations scene) p.form) (placed scene) =
    every_map (λ p. IsAccepted scene p × (IsNumbered scene p × AreBelow (node_count scene) p.form)) (λ p. HasNumbers (plan_of scene) (declarations scene) p.form) (λ p h. line_fits scene p h.0 h.1.0 h.1.1) (placed scene) whole in
    lines_of (HasNumbers (plan_of scene) (declarations scene)) 0 outside nothing scene.lines fits
