-- What a walk knows of values is so: of expressions, of tests, and after an assignment.
use Rattle.std.proofs.Common.{if◌then◌else◌, ◌≡◌, ℕ, zero, suc, ◌==◌, Bool, true, false, not, ◌&&◌, nat_lt, List, [], ◌∷◌, Option, Some, None, slice_get, slice_index_or, slice_set, refl, sym, ap, subst, ◌∙◌, arith}
use Rattle.std.specs.Prelude.{⊤}
use Rattle.std.proofs.lemmas.Bool.{eqb-true}
use Rattle.std.proofs.lemmas.Bool.Decides.{nat_tests}
use Rattle.wdf_base.specs.declared.plan.Plan.{Plan}
use Rattle.wdf_base.specs.declared.value.Value.{Value}
use Rattle.wdf_base.specs.declared.value.Value.TheVariants.{Num, Stat}
use Rattle.wdf_base.specs.declared.frame.Frame.{Frame}
use Rattle.wdf_base.specs.declared.script.ExprNode.{ExprNode}
use Rattle.wdf_base.specs.declared.script.ExprNode.TheVariants as node
use Rattle.wdf_base.specs.declared.script.Operator.TheVariants as operator
use Rattle.wdf_base.specs.Same.{same_value}
use Rattle.wdf_model.specs.Tables.{flag}
use Rattle.wdf_model.specs.rules.Script.{node_value, operands_by, value_of, value_to}
use Rattle.wdf_model.proofs.Tests.{both_left}
use Rattle.wdf_lint.specs.declared.state.Known.{Known}
use Rattle.wdf_lint.specs.declared.state.Known.TheVariants as known
use Rattle.wdf_lint.specs.declared.state.Abstract.{Abstract}
use Rattle.wdf_lint.specs.Steps.{decided, decided_by, equal_known, known_node, known_number, known_of, known_variable, opposite, written}

-- what is known of a value
abbrev pub KnownIs : Known → Value → Type 0
KnownIs known.Unknown v = ⊤
KnownIs known.Zero v = v ≡ Num 0
KnownIs known.One v = v ≡ Num 1
KnownIs (known.Stat s) v = v ≡ Stat s

-- and of as many values
abbrev pub AllKnown : List Known → List Value → Type 0
AllKnown [] [] = ⊤
AllKnown [] (v ∷ vs) = ⊥
AllKnown (k ∷ ks) [] = ⊥
AllKnown (k ∷ ks) (v ∷ vs) = KnownIs k v × AllKnown ks vs

pub known_at : (ks : List Known) (vs : List Value) (x : ℕ) → AllKnown ks vs → KnownIs (slice_index_or ks x known.Zero) (slice_index_or vs x (Num 0))
known_at [] [] x h = refl
known_at [] (v ∷ vs) x h = absurd h
known_at (k ∷ ks) [] x h = absurd h
known_at (k ∷ ks) (v ∷ vs) zero h = h.0
known_at (k ∷ ks) (v ∷ vs) (suc x) h = known_at ks vs x h.1

pub known_set : (ks : List Known) (vs : List Value) (x : ℕ) (k : Known) (v : Value) → KnownIs k v → AllKnown ks vs → AllKnown (slice_set ks x k) (slice_set vs x v)
known_set [] [] x k v is h = tt
known_set [] (w ∷ vs) x k v is h = absurd h
known_set (j ∷ ks) [] x k v is h = absurd h
known_set (j ∷ ks) (w ∷ vs) zero k v is h = (is, h.1)
known_set (j ∷ ks) (w ∷ vs) (suc x) k v is h = (h.0, known_set ks vs x k v is h.1)

-- ---- expressions

number_if : (n : ℕ) (b c : Bool) → (n == 0) ≡ b → (n == 1) ≡ c → KnownIs (if b then known.Zero else if c then known.One else known.Unknown) (Num n)
number_if n true c e f = ap Num (eqb-true n 0 e)
number_if n false true e f = ap Num (eqb-true n 1 f)
number_if n false false e f = tt

pub number_known : (n : ℕ) → KnownIs (known_number n) (Num n)
number_known n = number_if n (n == 0) (n == 1) refl refl

some_value : {v w : Value} → Some v ≡ Some w → w ≡ v
some_value {v} {w} e = cc

node_known : (a : Abstract) (f : Frame) (operand : ℕ → Option Value) (e : ℕ) (n : Option ExprNode) (v : Value) → AllKnown a.variables f.variables
    → node_value f operand e n ≡ Some v → KnownIs (known_node a n) v
node_known a f operand e None v h is = tt
node_known a f operand e (Some (node.Number n)) v h is = subst (KnownIs (known_number n)) (sym (some_value is)) (number_known n)
node_known a f operand e (Some (node.Variable x)) v h is = subst (KnownIs (slice_index_or a.variables x known.Zero)) (sym (some_value is)) (known_at a.variables f.variables x h)
node_known a f operand e (Some (node.Object o)) v h is = tt
node_known a f operand e (Some (node.Literal s)) v h is = some_value is
node_known a f operand e (Some (node.Context word)) v h is = tt
node_known a f operand e (Some (node.Binary op left right)) v h is = tt

pub value_known : (plan : Plan) (a : Abstract) (f : Frame) (e : ℕ) (v : Value) → AllKnown a.variables f.variables → value_of plan f e ≡ Some v → KnownIs (known_of plan a e) v
unfolding value_of
value_known plan a f e v h is = node_known a f (value_to e plan f) e (slice_get plan.exprs e) v h is

-- ---- tests

same_status_itself : (x y : Known) (v w : Value) (b : Bool) → KnownIs x v → KnownIs y w → equal_known x y ≡ Some b → same_value v w ≡ b
same_status_itself known.Unknown y v w b p q e = absurd (let z : ⊥ = cc in z)
same_status_itself known.Zero known.Unknown v w b p q e = absurd (let z : ⊥ = cc in z)
same_status_itself known.One known.Unknown v w b p q e = absurd (let z : ⊥ = cc in z)
same_status_itself (known.Stat s) known.Unknown v w b p q e = absurd (let z : ⊥ = cc in z)
same_status_itself known.Zero known.Zero v w b p q e = rw (p, q) cc
same_status_itself known.Zero known.One v w b p q e = rw (p, q) cc
same_status_itself known.Zero (known.Stat t) v w b p q e = rw (p, q) cc
same_status_itself known.One known.Zero v w b p q e = rw (p, q) cc
same_status_itself known.One known.One v w b p q e = rw (p, q) cc
same_status_itself known.One (known.Stat t) v w b p q e = rw (p, q) cc
same_status_itself (known.Stat s) known.Zero v w b p q e = rw (p, q) cc
same_status_itself (known.Stat s) known.One v w b p q e = rw (p, q) cc
same_status_itself (known.Stat s) (known.Stat t) v w b p q e = rw (p, q) cc

variable_known : (a : Abstract) (f : Frame) (operand : ℕ → Option Value) (e : ℕ) (n : Option ExprNode) (v : Value) → AllKnown a.variables f.variables
    → node_value f operand e n ≡ Some v → KnownIs (known_variable a n) v
variable_known a f operand e (Some (node.Variable x)) v h is = subst (KnownIs (slice_index_or a.variables x known.Zero)) (sym (some_value is)) (known_at a.variables f.variables x h)
variable_known a f operand e _ v h is = tt

written_known : (f : Frame) (operand : ℕ → Option Value) (e : ℕ) (n : Option ExprNode) (v : Value) → node_value f operand e n ≡ Some v → KnownIs (written n) v
written_known f operand e (Some (node.Number n)) v is = subst (KnownIs (known_number n)) (sym (some_value is)) (number_known n)
written_known f operand e (Some (node.Literal s)) v is = some_value is
written_known f operand e _ v is = tt

-- a comparison of two values gives 1 or 0
abbrev Compared : Plan → Frame → Abstract → ℕ → ℕ → ℕ → Bool → Value → Type 0
Compared plan f a e left right b v = equal_known (known_variable a (slice_get plan.exprs left)) (written (slice_get plan.exprs right)) ≡ Some b → v ≡ Num (flag b)

unopposed : (o : Option Bool) (b : Bool) → opposite o ≡ Some b → o ≡ Some (not b)
unopposed None b e = absurd (let z : ⊥ = cc in z)
unopposed (Some true) true e = absurd (let z : ⊥ = cc in z)
unopposed (Some true) false e = refl
unopposed (Some false) true e = refl
unopposed (Some false) false e = absurd (let z : ⊥ = cc in z)

twice_not : (b : Bool) → not (not b) ≡ b
twice_not true = refl
twice_not false = refl

equals_operands : (x y : Option Value) (v : Value) → operands_by operator.Equals x y ≡ Some v → (p : Value) × (q : Value) × (x ≡ Some p) × (y ≡ Some q) × (v ≡ Num (flag (same_value p q)))
equals_operands (Some p) (Some q) v e = (p, q, refl, refl, some_value e)
equals_operands None y v e = absurd (let z : ⊥ = cc in z)
equals_operands (Some p) None v e = absurd (let z : ⊥ = cc in z)

differs_operands : (x y : Option Value) (v : Value) → operands_by operator.Differs x y ≡ Some v → (p : Value) × (q : Value) × (x ≡ Some p) × (y ≡ Some q) × (v ≡ Num (flag (not (same_value p q))))
differs_operands (Some p) (Some q) v e = (p, q, refl, refl, some_value e)
differs_operands None y v e = absurd (let z : ⊥ = cc in z)
differs_operands (Some p) None v e = absurd (let z : ⊥ = cc in z)

if_given : {T : Type 0} (b : Bool) (x : Option T) (v : T) → (if b then x else None) ≡ Some v → (b ≡ true) × (x ≡ Some v)
if_given true x v e = (refl, e)
if_given false x v e = absurd (let z : ⊥ = cc in z)

test_decided : (plan : Plan) (a : Abstract) (f : Frame) (d e : ℕ) (n : Option ExprNode) (b : Bool) (v : Value) → AllKnown a.variables f.variables
    → decided_by plan a n ≡ Some b → node_value f (value_to (suc d) plan f) e n ≡ Some v → v ≡ Num (flag b)
test_decided plan a f d e (Some (node.Binary operator.Equals left right)) b v h decides is =
    let o = equals_operands (value_to (suc d) plan f left) (value_to (suc d) plan f right) v (if_given (nat_lt left e && nat_lt right e) (operands_by operator.Equals (value_to (suc d) plan f left) (value_to (suc d) plan f right)) v is).1 in
    let p : KnownIs (known_variable a (slice_get plan.exprs left)) o.0 = variable_known a f (value_to d plan f) left (slice_get plan.exprs left) o.0 h o.2 in
    let q : KnownIs (written (slice_get plan.exprs right)) o.1 = written_known f (value_to d plan f) right (slice_get plan.exprs right) o.1 o.3 in
    o.4 ∙ ap (λ x. Num (flag x)) (same_status_itself (known_variable a (slice_get plan.exprs left)) (written (slice_get plan.exprs right)) o.0 o.1 b p q decides)
test_decided plan a f d e (Some (node.Binary operator.Differs left right)) b v h decides is =
    let o = differs_operands (value_to (suc d) plan f left) (value_to (suc d) plan f right) v (if_given (nat_lt left e && nat_lt right e) (operands_by operator.Differs (value_to (suc d) plan f left) (value_to (suc d) plan f right)) v is).1 in
    let p : KnownIs (known_variable a (slice_get plan.exprs left)) o.0 = variable_known a f (value_to d plan f) left (slice_get plan.exprs left) o.0 h o.2 in
    let q : KnownIs (written (slice_get plan.exprs right)) o.1 = written_known f (value_to d plan f) right (slice_get plan.exprs right) o.1 o.3 in
    let r = same_status_itself (known_variable a (slice_get plan.exprs left)) (written (slice_get plan.exprs right)) o.0 o.1 (not b) p q (unopposed (equal_known (known_variable a (slice_get plan.exprs left)) (written (slice_get plan.exprs right))) b decides) in
    o.4 ∙ ap (λ x. Num (flag (not x))) r ∙ ap (λ x. Num (flag x)) (twice_not b)
test_decided plan a f d e _ b v h decides is = absurd (let z : ⊥ = cc in z)

no_operands : (f : Frame) (operand : ℕ → Option Value) (plan : Plan) (a : Abstract) (n : Option ExprNode) (b : Bool) (v : Value) → decided_by plan a n ≡ Some b → node_value f operand 0 n ≡ Some v → ⊥
no_operands f operand plan a (Some (node.Binary op left right)) b v d is =
    let low : nat_lt left 0 ≡ true = both_left (nat_lt left 0) (nat_lt right 0) (if_given (nat_lt left 0 && nat_lt right 0) (operands_by op (operand left) (operand right)) v is).0 in
    let z : ⊥ = grind (arith, nat_tests) in z
no_operands f operand plan a _ b v d is = let z : ⊥ = cc in z

-- a test that a walk decides has that value
pub decided_so : (plan : Plan) (a : Abstract) (f : Frame) (e : ℕ) (b : Bool) (v : Value) → AllKnown a.variables f.variables → decided plan a e ≡ Some b → value_of plan f e ≡ Some v → v ≡ Num (flag b)
unfolding value_of
decided_so plan a f zero b v h d is = absurd (no_operands f (value_to zero plan f) plan a (slice_get plan.exprs zero) b v d is)
decided_so plan a f (suc e) b v h d is = test_decided plan a f e (suc e) (slice_get plan.exprs (suc e)) b v h d is
