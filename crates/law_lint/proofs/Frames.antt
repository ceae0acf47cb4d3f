-- A step of a frame is one of the steps of a walk, as far as the frame's place and variables go.
use Rattle.std.proofs.Common.{if◌then◌else◌, ◌≡◌, ◌≢◌, ℕ, ◌-◌, ◌==◌, Bool, true, false, ◌||◌, nat_le, List, [], ◌∷◌, Option, Some, None, slice_set, ◌⊎◌, inl, inr, refl, sym, ap, subst, ◌∙◌}
use Rattle.wdf_base.specs.declared.plan.Plan.{Plan}
use Rattle.wdf_base.specs.declared.value.Value.{Value}
use Rattle.wdf_base.specs.declared.value.Value.TheVariants.{Num, Obj, Stat}
use Rattle.wdf_base.specs.declared.frame.Frame.{Frame}
use Rattle.wdf_base.specs.declared.frame.Change.{Change}
use Rattle.wdf_base.specs.declared.frame.Change.TheVariants as change
use Rattle.wdf_base.specs.declared.frame.Intent.{Intent}
use Rattle.wdf_base.specs.declared.frame.Intent.TheVariants as intent
use Rattle.wdf_base.specs.declared.script.Act.{Act}
use Rattle.wdf_base.specs.declared.script.Act.TheVariants as act
use Rattle.wdf_base.specs.declared.script.Statement.{Statement}
use Rattle.wdf_model.specs.rules.Script.{REPEAT_LIMIT, SPEND_LIMIT, act_intent, again_intent, if_intent, intent_at, intent_of, let_intent, log_intent, put_intent, repeat_intent, return_intent, runs_left, spend_intent, statement_at, value_of}
use Rattle.wdf_model.specs.rules.Steps.{answered, at_next, goes_on, result_of, stepped, with_answer}
use Rattle.wdf_lint.specs.declared.state.Known.{Known}
use Rattle.wdf_lint.specs.declared.state.Known.TheVariants as known
use Rattle.wdf_lint.specs.declared.state.Abstract.{Abstract}
use Rattle.wdf_lint.specs.Abstracts.{assign, go, lock_after}
use Rattle.wdf_lint.specs.Steps.{branches, decided, known_of, statement_of, steps, steps_at}
use Rattle.wdf_lint.specs.Walks.{IsIn}
use Rattle.law_lint.proofs.Known.{AllKnown, KnownIs, decided_so, known_set, value_known}

-- a walk's state is at the frame's statement, and knows its variables
pub record Simulates (a : Abstract) (f : Frame) : Type 0 where
  pub at : a.at ≡ f.at
  pub known : AllKnown a.variables f.variables

-- the variables and the lock after a step that assigns at most one variable
pub data Assigned (a : Abstract) (f : Frame) (b : Abstract) (g : Frame) : Type 0 where
  Same : b.variables ≡ a.variables → g.variables ≡ f.variables → b.lock ≡ a.lock → Assigned a f b g
  One : (x : ℕ) (k : Known) (v : Value) → KnownIs k v → b.variables ≡ slice_set a.variables x k → g.variables ≡ slice_set f.variables x v → b.lock ≡ lock_after a.lock x → Assigned a f b g

-- one of the states that follow goes with the frame's next state
pub record Went (after : List Abstract) (a : Abstract) (f g : Frame) : Type 0 where
  pub state : Abstract
  pub is_in : IsIn state after
  pub at : state.at ≡ g.at
  pub assigned : Assigned a f state g
  pub hold : state.hold ≡ a.hold
  pub acknowledged : state.acknowledged ≡ a.acknowledged
  pub interrupts : state.interrupts ≡ a.interrupts

pub went_simulates : (after : List Abstract) (a : Abstract) (f g : Frame) (w : Went after a f g) → AllKnown a.variables f.variables → Simulates w.state g
went_simulates after a f g w h = record { at = w.at; known = by w.assigned }
  where
    by : Assigned a f w.state g → AllKnown w.state.variables g.variables
    by (Same e d l) = rw (e, d) h
    by (One x k v is e d l) = rw (e, d) (known_set a.variables f.variables x k v is h)

-- ---- steps inside a frame

let_goes : (plan : Plan) (a : Abstract) (f : Frame) (l n x e : ℕ) (o : Option Value) → AllKnown a.variables f.variables → value_of plan f e ≡ o → (c : Change) (next : ℕ)
    → let_intent x n o ≡ intent.Local c next → Went (go (assign a x (known_of plan a e)) n ∷ []) a f (stepped f (intent.Local c next))
let_goes plan a f l n x e None h is c next w = absurd (let z : ⊥ = cc in z)
let_goes plan a f l n x e (Some v) h is c next w = subst (λ i. Went (go (assign a x (known_of plan a e)) n ∷ []) a f (stepped f i)) w (record {
  state = go (assign a x (known_of plan a e)) n;
  is_in = (0, refl);
  at = refl;
  assigned = One x (known_of plan a e) v (value_known plan a f e v h is) refl refl refl;
  hold = refl;
  acknowledged = refl;
  interrupts = refl;
})

-- a step that assigns nothing
plain : (after : List Abstract) (a : Abstract) (f g : Frame) (next : ℕ) → IsIn (go a next) after → next ≡ g.at → g.variables ≡ f.variables → Went after a f g
plain after a f g next is at vars = record {
  state = go a next;
  is_in = is;
  at = at;
  assigned = Same refl vars refl;
  hold = refl;
  acknowledged = refl;
  interrupts = refl;
}

if_goes : (plan : Plan) (a : Abstract) (f : Frame) (n e otherwise : ℕ) (o : Option Value) (d : Option Bool) → AllKnown a.variables f.variables → value_of plan f e ≡ o → decided plan a e ≡ d → (c : Change) (next : ℕ)
    → if_intent n otherwise o ≡ intent.Local c next → Went (branches a n otherwise d) a f (stepped f (intent.Local c next))
if_goes plan a f n e otherwise None d h is by c next w = absurd (let z : ⊥ = cc in z)
if_goes plan a f n e otherwise (Some (Obj o)) d h is by c next w = absurd (let z : ⊥ = cc in z)
if_goes plan a f n e otherwise (Some (Stat s)) d h is by c next w = absurd (let z : ⊥ = cc in z)
if_goes plan a f n e otherwise (Some (Num v)) None h is by c next w = subst (λ i. Went (branches a n otherwise None) a f (stepped f i)) w (either (v == 0))
  where
    either : (b : Bool) → Went (branches a n otherwise None) a f (stepped f (intent.Local change.Branch (if b then otherwise else n)))
    either true = plain (branches a n otherwise None) a f (stepped f (intent.Local change.Branch otherwise)) otherwise (1, refl) refl refl
    either false = plain (branches a n otherwise None) a f (stepped f (intent.Local change.Branch n)) n (0, refl) refl refl
if_goes plan a f n e otherwise (Some (Num v)) (Some true) h is by c next w =
    let one : v ≡ 1 = let same = decided_so plan a f e true (Num v) h by is in cc in
    subst (λ i. Went (branches a n otherwise (Some true)) a f (stepped f i)) w
    (subst (λ x. Went (branches a n otherwise (Some true)) a f (stepped f (intent.Local change.Branch (if x == 0 then otherwise else n)))) (sym one)
    (plain (branches a n otherwise (Some true)) a f (stepped f (intent.Local change.Branch n)) n (0, refl) refl refl))
if_goes plan a f n e otherwise (Some (Num v)) (Some false) h is by c next w =
    let none : v ≡ 0 = let same = decided_so plan a f e false (Num v) h by is in cc in
    subst (λ i. Went (branches a n otherwise (Some false)) a f (stepped f i)) w
    (subst (λ x. Went (branches a n otherwise (Some false)) a f (stepped f (intent.Local change.Branch (if x == 0 then otherwise else n)))) (sym none)
    (plain (branches a n otherwise (Some false)) a f (stepped f (intent.Local change.Branch otherwise)) otherwise (0, refl) refl refl))

-- one of two ways on
two_ways : (a : Abstract) (f : Frame) (n m depth left : ℕ) (b : Bool)
    → Went (go a n ∷ go a m ∷ []) a f (stepped f (intent.Local (change.Count depth left) (if b then m else n)))
two_ways a f n m depth left true = plain (go a n ∷ go a m ∷ []) a f (stepped f (intent.Local (change.Count depth left) m)) m (1, refl) refl refl
two_ways a f n m depth left false = plain (go a n ∷ go a m ∷ []) a f (stepped f (intent.Local (change.Count depth left) n)) n (0, refl) refl refl

repeat_goes : (a : Abstract) (f : Frame) (n depth past : ℕ) (o : Option Value) (c : Change) (next : ℕ)
    → repeat_intent n depth past o ≡ intent.Local c next → Went (go a n ∷ go a past ∷ []) a f (stepped f (intent.Local c next))
repeat_goes a f n depth past None c next w = absurd (let z : ⊥ = cc in z)
repeat_goes a f n depth past (Some (Obj o)) c next w = absurd (let z : ⊥ = cc in z)
repeat_goes a f n depth past (Some (Stat s)) c next w = absurd (let z : ⊥ = cc in z)
repeat_goes a f n depth past (Some (Num v)) c next w = within (nat_le v REPEAT_LIMIT) w
  where
    within : (b : Bool) → (if b then intent.Local (change.Count depth v) (if v == 0 then past else n) else intent.Broken) ≡ intent.Local c next
        → Went (go a n ∷ go a past ∷ []) a f (stepped f (intent.Local c next))
    within true w = subst (λ i. Went (go a n ∷ go a past ∷ []) a f (stepped f i)) w (two_ways a f n past depth v (v == 0))
    within false w = absurd (let z : ⊥ = cc in z)

again_goes : (a : Abstract) (f : Frame) (n depth body left : ℕ) (c : Change) (next : ℕ)
    → again_intent n depth body left ≡ intent.Local c next → Went (go a body ∷ go a n ∷ []) a f (stepped f (intent.Local c next))
again_goes a f n depth body left c next w =
    subst (λ i. Went (go a body ∷ go a n ∷ []) a f (stepped f i)) w (two_ways a f body n depth (left - 1) (left - 1 == 0))

local_at : (plan : Plan) (a : Abstract) (f : Frame) (l n : ℕ) (x : Act) → AllKnown a.variables f.variables → (c : Change) (next : ℕ)
    → act_intent plan f n x ≡ intent.Local c next → Went (steps_at plan f.script a (Some (record { line = l; next = n; act = x }))) a f (stepped f (intent.Local c next))
local_at plan a f l n (act.Let x e) h c next w = let_goes plan a f l n x e (value_of plan f e) h refl c next w
local_at plan a f l n (act.Call k into x y z) h c next w = absurd (let z : ⊥ = cc in z)
local_at plan a f l n (act.Get v r) h c next w = absurd (let z : ⊥ = cc in z)
local_at plan a f l n (act.Put r e) h c next w = absurd (no_put (value_of plan f e) w)
  where
    no_put : (o : Option Value) → put_intent r o ≡ intent.Local c next → ⊥
    no_put (Some (Num v)) w = let z : ⊥ = cc in z
    no_put (Some (Obj v)) w = let z : ⊥ = cc in z
    no_put (Some (Stat v)) w = let z : ⊥ = cc in z
    no_put None w = let z : ⊥ = cc in z
local_at plan a f l n (act.If e otherwise) h c next w = if_goes plan a f n e otherwise (value_of plan f e) (decided plan a e) h refl refl c next w
local_at plan a f l n (act.Repeat e depth past) h c next w = repeat_goes a f n depth past (value_of plan f e) c next w
local_at plan a f l n (act.Again depth body) h c next w = again_goes a f n depth body (runs_left f depth) c next w
local_at plan a f l n (act.Spend e) h c next w = absurd (no_spend (value_of plan f e) w)
  where
    no_spend_by : (b : Bool) (v : ℕ) → (if b then intent.Spend v else intent.Broken) ≡ intent.Local c next → ⊥
    no_spend_by true v w = let z : ⊥ = cc in z
    no_spend_by false v w = let z : ⊥ = cc in z

    no_spend : (o : Option Value) → spend_intent o ≡ intent.Local c next → ⊥
    no_spend (Some (Num v)) w = no_spend_by _ v w
    no_spend (Some (Obj v)) w = let z : ⊥ = cc in z
    no_spend (Some (Stat v)) w = let z : ⊥ = cc in z
    no_spend None w = let z : ⊥ = cc in z
local_at plan a f l n (act.Log e) h c next w = absurd (no_log (value_of plan f e) w)
  where
    no_log : (o : Option Value) → log_intent o ≡ intent.Local c next → ⊥
    no_log (Some v) w = let z : ⊥ = cc in z
    no_log None w = let z : ⊥ = cc in z
local_at plan a f l n (act.Return e) h c next w = absurd (no_return (value_of plan f e) w)
  where
    no_return : (o : Option Value) → return_intent o ≡ intent.Local c next → ⊥
    no_return (Some v) w = let z : ⊥ = cc in z
    no_return None w = let z : ⊥ = cc in z

local_by : (plan : Plan) (a : Abstract) (f : Frame) (s : Option Statement) → AllKnown a.variables f.variables → (c : Change) (next : ℕ)
    → intent_at plan f s ≡ intent.Local c next → Went (steps_at plan f.script a s) a f (stepped f (intent.Local c next))
local_by plan a f None h c next w = absurd (let z : ⊥ = cc in z)
local_by plan a f (Some s) h c next w = local_at plan a f s.line s.next s.act h c next w

same_statement : (plan : Plan) (a : Abstract) (f : Frame) → a.at ≡ f.at → statement_of plan f.script a ≡ statement_at plan f
same_statement plan a f e = rw e refl

-- a step inside a frame is a step of the walk
pub local_goes : (plan : Plan) (a : Abstract) (f : Frame) (c : Change) (next : ℕ) → Simulates a f → intent_of plan f ≡ intent.Local c next → Went (steps plan f.script a) a f (stepped f (intent.Local c next))
local_goes plan a f c next s w =
    subst (λ x. Went (steps_at plan f.script a x) a f (stepped f (intent.Local c next))) (sym (same_statement plan a f s.at)) (local_by plan a f (statement_at plan f) s.known c next w)

-- ---- steps that are seen from outside

-- what kind of thing a frame is about to do
abbrev pub shape : Intent → ℕ
shape (intent.Local c next) = 0
shape (intent.Log v) = 1
shape (intent.Spend n) = 2
shape (intent.Get k) = 3
shape (intent.Put k v) = 4
shape (intent.Do c) = 5
shape (intent.Return v) = 6
shape intent.Broken = 7

abbrev pub shape_of : Act → ℕ
shape_of (act.Let x e) = 0
shape_of (act.If e otherwise) = 0
shape_of (act.Repeat e depth past) = 0
shape_of (act.Again depth body) = 0
shape_of (act.Log e) = 1
shape_of (act.Spend e) = 2
shape_of (act.Get x r) = 3
shape_of (act.Put r e) = 4
shape_of (act.Call k into x y z) = 5
shape_of (act.Return e) = 6

-- a statement does its kind of thing, or is a script error
abbrev Shaped : Intent → ℕ → Type 0
Shaped i n = (shape i ≡ 7) ⊎ (shape i ≡ n)

let_shape : (x n : ℕ) (o : Option Value) → Shaped (let_intent x n o) 0
let_shape x n None = inl refl
let_shape x n (Some v) = inr refl

put_shape : (r : ℕ) (o : Option Value) → Shaped (put_intent r o) 4
put_shape r (Some (Num v)) = inr refl
put_shape r (Some (Obj v)) = inl refl
put_shape r (Some (Stat v)) = inl refl
put_shape r None = inl refl

if_shape : (n m : ℕ) (o : Option Value) → Shaped (if_intent n m o) 0
if_shape n m (Some (Num v)) = inr refl
if_shape n m (Some (Obj v)) = inl refl
if_shape n m (Some (Stat v)) = inl refl
if_shape n m None = inl refl

within_shape : (b : Bool) (i : Intent) (n : ℕ) → shape i ≡ n → Shaped (if b then i else intent.Broken) n
within_shape true i n e = inr e
within_shape false i n e = inl refl

repeat_shape : (n d p : ℕ) (o : Option Value) → Shaped (repeat_intent n d p o) 0
repeat_shape n d p (Some (Num v)) = within_shape (nat_le v REPEAT_LIMIT) (intent.Local (change.Count d v) (if v == 0 then p else n)) 0 refl
repeat_shape n d p (Some (Obj v)) = inl refl
repeat_shape n d p (Some (Stat v)) = inl refl
repeat_shape n d p None = inl refl

spend_shape : (o : Option Value) → Shaped (spend_intent o) 2
spend_shape (Some (Num v)) = within_shape (nat_le v SPEND_LIMIT) (intent.Spend v) 2 refl
spend_shape (Some (Obj v)) = inl refl
spend_shape (Some (Stat v)) = inl refl
spend_shape None = inl refl

log_shape : (o : Option Value) → Shaped (log_intent o) 1
log_shape (Some v) = inr refl
log_shape None = inl refl

return_shape : (o : Option Value) → Shaped (return_intent o) 6
return_shape (Some v) = inr refl
return_shape None = inl refl

pub act_shape : (plan : Plan) (f : Frame) (n : ℕ) (x : Act) → Shaped (act_intent plan f n x) (shape_of x)
act_shape plan f n (act.Let x e) = let_shape x n (value_of plan f e)
act_shape plan f n (act.If e otherwise) = if_shape n otherwise (value_of plan f e)
act_shape plan f n (act.Repeat e depth past) = repeat_shape n depth past (value_of plan f e)
act_shape plan f n (act.Again depth body) = inr refl
act_shape plan f n (act.Log e) = log_shape (value_of plan f e)
act_shape plan f n (act.Spend e) = spend_shape (value_of plan f e)
act_shape plan f n (act.Get x r) = inr refl
act_shape plan f n (act.Put r e) = put_shape r (value_of plan f e)
act_shape plan f n (act.Call k into x y z) = inr refl
act_shape plan f n (act.Return e) = return_shape (value_of plan f e)

shape_given : (i j : Intent) (n : ℕ) → Shaped i n → i ≡ j → shape j ≢ 7 → n ≡ shape j
shape_given i j n (inl e) s not_seven = absurd (not_seven (ap shape (sym s) ∙ e))
shape_given i j n (inr e) s not_seven = sym e ∙ ap shape s

abbrev pub IsPlain : ℕ → Bool
IsPlain k = k == 1 || k == 2 || k == 4

-- the frame goes on and no variable changes
plain_at : (plan : Plan) (a : Abstract) (f g : Frame) (l n : ℕ) (x : Act) (k : ℕ) → shape_of x ≡ k → IsPlain k ≡ true → n ≡ g.at → g.variables ≡ f.variables
    → Went (steps_at plan f.script a (Some (record { line = l; next = n; act = x }))) a f g
plain_at plan a f g l n (act.Log e) k s is at vars = plain (go a n ∷ []) a f g n (0, refl) at vars
plain_at plan a f g l n (act.Spend e) k s is at vars = plain (go a n ∷ []) a f g n (0, refl) at vars
plain_at plan a f g l n (act.Put r e) k s is at vars = plain (go a n ∷ []) a f g n (0, refl) at vars
plain_at plan a f g l n (act.Let x e) k s is at vars = absurd (let wrong : IsPlain 0 ≡ true = subst (λ q. IsPlain q ≡ true) (sym s) is in let z : ⊥ = cc in z)
plain_at plan a f g l n (act.If e otherwise) k s is at vars = absurd (let wrong : IsPlain 0 ≡ true = subst (λ q. IsPlain q ≡ true) (sym s) is in let z : ⊥ = cc in z)
plain_at plan a f g l n (act.Repeat e depth past) k s is at vars = absurd (let wrong : IsPlain 0 ≡ true = subst (λ q. IsPlain q ≡ true) (sym s) is in let z : ⊥ = cc in z)
plain_at plan a f g l n (act.Again depth body) k s is at vars = absurd (let wrong : IsPlain 0 ≡ true = subst (λ q. IsPlain q ≡ true) (sym s) is in let z : ⊥ = cc in z)
plain_at plan a f g l n (act.Get x r) k s is at vars = absurd (let wrong : IsPlain 3 ≡ true = subst (λ q. IsPlain q ≡ true) (sym s) is in let z : ⊥ = cc in z)
plain_at plan a f g l n (act.Call c into x y z) k s is at vars = absurd (let wrong : IsPlain 5 ≡ true = subst (λ q. IsPlain q ≡ true) (sym s) is in let z : ⊥ = cc in z)
plain_at plan a f g l n (act.Return e) k s is at vars = absurd (let wrong : IsPlain 6 ≡ true = subst (λ q. IsPlain q ≡ true) (sym s) is in let z : ⊥ = cc in z)

plain_by : (plan : Plan) (a : Abstract) (f g : Frame) (s : Option Statement) (i : Intent) → intent_at plan f s ≡ i → IsPlain (shape i) ≡ true
    → ((t : Statement) → s ≡ Some t → (t.next ≡ g.at) × (g.variables ≡ f.variables)) → Went (steps_at plan f.script a s) a f g
plain_by plan a f g None i e is h = absurd (let six : shape i ≡ 6 = sym (ap shape e) in let wrong : IsPlain 6 ≡ true = subst (λ q. IsPlain q ≡ true) six is in let z : ⊥ = cc in z)
plain_by plan a f g (Some s) i e is h =
    let kind : shape_of s.act ≡ shape i = shape_given (act_intent plan f s.next s.act) i (shape_of s.act) (act_shape plan f s.next s.act) e (λ seven. let wrong : IsPlain 7 ≡ true = subst (λ q. IsPlain q ≡ true) seven is in let z : ⊥ = cc in z) in
    plain_at plan a f g s.line s.next s.act (shape i) kind is (h s refl).0 (h s refl).1

goes_by : (f : Frame) (s : Option Statement) (t : Statement) → s ≡ Some t → t.next ≡ (at_next f s).at
goes_by f None t e = absurd (let z : ⊥ = cc in z)
goes_by f (Some s) t e = let same : s ≡ t = cc in ap (λ (x : Statement). x.next) (sym same)

same_variables : (f : Frame) (s : Option Statement) → (at_next f s).variables ≡ f.variables
same_variables f None = refl
same_variables f (Some s) = refl

-- a frame that logs, spends or writes a register
pub plain_goes : (plan : Plan) (a : Abstract) (f g : Frame) (i : Intent) → Simulates a f → intent_of plan f ≡ i → IsPlain (shape i) ≡ true → g.at ≡ (goes_on plan f).at → g.variables ≡ (goes_on plan f).variables
    → Went (steps plan f.script a) a f g
plain_goes plan a f g i s e is at vars =
    subst (λ x. Went (steps_at plan f.script a x) a f g) (sym (same_statement plan a f s.at))
    (plain_by plan a f g (statement_at plan f) i e is
    (λ t same. (goes_by f (statement_at plan f) t same ∙ sym at, vars ∙ same_variables f (statement_at plan f))))

-- ---- a frame that is answered

abbrev answered_at : Frame → Option Statement → Value → Frame
answered_at f s v = record (with_answer (at_next f s) (result_of s) v) { pending = None }

-- a register is read or written
register_at : (plan : Plan) (a : Abstract) (f : Frame) (l n : ℕ) (x : Act) (k : ℕ) (v : Value) → shape_of x ≡ k → (k == 3 || k == 4) ≡ true
    → Went (steps_at plan f.script a (Some (record { line = l; next = n; act = x }))) a f (answered_at f (Some (record { line = l; next = n; act = x })) v)
register_at plan a f l n (act.Get x r) k v s is = record {
  state = go (assign a x known.Unknown) n;
  is_in = (0, refl);
  at = refl;
  assigned = One x known.Unknown v tt refl refl refl;
  hold = refl;
  acknowledged = refl;
  interrupts = refl;
}
register_at plan a f l n (act.Put r e) k v s is = plain (go a n ∷ []) a f (answered_at f (Some (record { line = l; next = n; act = act.Put r e })) v) n (0, refl) refl refl
register_at plan a f l n (act.Let x e) k v s is = absurd (let wrong : (0 == 3 || 0 == 4) ≡ true = subst (λ q. (q == 3 || q == 4) ≡ true) (sym s) is in let z : ⊥ = cc in z)
register_at plan a f l n (act.If e otherwise) k v s is = absurd (let wrong : (0 == 3 || 0 == 4) ≡ true = subst (λ q. (q == 3 || q == 4) ≡ true) (sym s) is in let z : ⊥ = cc in z)
register_at plan a f l n (act.Repeat e depth past) k v s is = absurd (let wrong : (0 == 3 || 0 == 4) ≡ true = subst (λ q. (q == 3 || q == 4) ≡ true) (sym s) is in let z : ⊥ = cc in z)
register_at plan a f l n (act.Again depth body) k v s is = absurd (let wrong : (0 == 3 || 0 == 4) ≡ true = subst (λ q. (q == 3 || q == 4) ≡ true) (sym s) is in let z : ⊥ = cc in z)
register_at plan a f l n (act.Log e) k v s is = absurd (let wrong : (1 == 3 || 1 == 4) ≡ true = subst (λ q. (q == 3 || q == 4) ≡ true) (sym s) is in let z : ⊥ = cc in z)
register_at plan a f l n (act.Spend e) k v s is = absurd (let wrong : (2 == 3 || 2 == 4) ≡ true = subst (λ q. (q == 3 || q == 4) ≡ true) (sym s) is in let z : ⊥ = cc in z)
register_at plan a f l n (act.Call c into x y z) k v s is = absurd (let wrong : (5 == 3 || 5 == 4) ≡ true = subst (λ q. (q == 3 || q == 4) ≡ true) (sym s) is in let z : ⊥ = cc in z)
register_at plan a f l n (act.Return e) k v s is = absurd (let wrong : (6 == 3 || 6 == 4) ≡ true = subst (λ q. (q == 3 || q == 4) ≡ true) (sym s) is in let z : ⊥ = cc in z)

register_by : (plan : Plan) (a : Abstract) (f : Frame) (s : Option Statement) (i : Intent) (v : Value) → intent_at plan f s ≡ i → (shape i == 3 || shape i == 4) ≡ true → Went (steps_at plan f.script a s) a f (answered_at f s v)
register_by plan a f None i v e is = absurd (let wrong : (6 == 3 || 6 == 4) ≡ true = subst (λ q. (q == 3 || q == 4) ≡ true) (sym (ap shape e)) is in let z : ⊥ = cc in z)
register_by plan a f (Some s) i v e is =
    let kind : shape_of s.act ≡ shape i = shape_given (act_intent plan f s.next s.act) i (shape_of s.act) (act_shape plan f s.next s.act) e (λ seven. let wrong : (7 == 3 || 7 == 4) ≡ true = subst (λ q. (q == 3 || q == 4) ≡ true) seven is in let z : ⊥ = cc in z) in
    register_at plan a f s.line s.next s.act (shape i) v kind is

pub register_goes : (plan : Plan) (a : Abstract) (f : Frame) (i : Intent) (v : Value) → Simulates a f → intent_of plan f ≡ i → (shape i == 3 || shape i == 4) ≡ true → Went (steps plan f.script a) a f (answered plan f v)
register_goes plan a f i v s e is =
    subst (λ x. Went (steps_at plan f.script a x) a f (answered plan f v)) (sym (same_statement plan a f s.at)) (register_by plan a f (statement_at plan f) i v e is)
