-- A statement is broken exactly where it has a script error.
use Rattle.std.proofs.Common.{if◌then◌else◌, ◌≡◌, ◌==◌, ℕ, Bool, true, false, not, nat_le, Option, Some, None, is_some, ◌↔◌, IsTrue, refl}
use Rattle.wdf_base.specs.declared.plan.Plan.{Plan}
use Rattle.wdf_base.specs.declared.frame.Frame.{Frame}
use Rattle.wdf_base.specs.declared.frame.Intent.{Intent}
use Rattle.wdf_base.specs.declared.frame.Intent.TheVariants as intent
use Rattle.wdf_base.specs.declared.frame.Change.TheVariants as change
use Rattle.wdf_base.specs.declared.value.Value.{Value}
use Rattle.wdf_base.specs.declared.value.Value.TheVariants.{Num, Obj, Stat}
use Rattle.wdf_base.specs.declared.script.Act.{Act}
use Rattle.wdf_base.specs.declared.script.Act.TheVariants as act
use Rattle.wdf_base.specs.declared.script.Statement.{Statement}
use Rattle.wdf_model.specs.rules.Script.{value_of, intent_of, intent_at, statement_at, act_intent, let_intent, put_intent, if_intent, repeat_intent, spend_intent, log_intent, return_intent}
use Rattle.wdf_script.specs.Errors.{script_error, act_error, is_number, is_number_to}

abbrev pub BrokenWhere : Intent → Bool → Type 0
BrokenWhere i error = (i ≡ intent.Broken) ↔ IsTrue error

pub broken : BrokenWhere intent.Broken true
broken = ((λ h. refl), (λ h. refl))

-- what is about to be done without an error
pub whole : (i : Intent) → (i ≡ intent.Broken → ⊥) → BrokenWhere i false
whole i differs = ((λ h. absurd (differs h)), (λ h. absurd (let z : ⊥ = cc in z)))

-- what is done only below a limit
pub limited : (fits : Bool) (i : Intent) → (i ≡ intent.Broken → ⊥) → BrokenWhere (if fits then i else intent.Broken) (not fits)
limited true i differs = whole i differs
limited false i differs = broken

pub let-broken : (v n : ℕ) (x : Option Value) → BrokenWhere (let_intent v n x) (not (is_some x))
let-broken v n None = broken
let-broken v n (Some x) = whole _ (λ h. cc)

pub put-broken : (r : ℕ) (x : Option Value) → BrokenWhere (put_intent r x) (not (is_number x))
put-broken r None = broken
put-broken r (Some (Num n)) = whole _ (λ h. cc)
put-broken r (Some (Obj o)) = broken
put-broken r (Some (Stat s)) = broken

pub if-broken : (n o : ℕ) (x : Option Value) → BrokenWhere (if_intent n o x) (not (is_number x))
if-broken n o None = broken
if-broken n o (Some (Num m)) = whole _ (λ h. cc)
if-broken n o (Some (Obj h)) = broken
if-broken n o (Some (Stat s)) = broken

pub repeat-broken : (n d p : ℕ) (x : Option Value) → BrokenWhere (repeat_intent n d p x) (not (is_number_to 1000 x))
repeat-broken n d p None = broken
repeat-broken n d p (Some (Num m)) =
    limited (nat_le m 1000) (intent.Local (change.Count d m) (if m == 0 then p else n)) (λ h. cc)
repeat-broken n d p (Some (Obj h)) = broken
repeat-broken n d p (Some (Stat s)) = broken

pub spend-broken : (x : Option Value) → BrokenWhere (spend_intent x) (not (is_number_to 1000000 x))
spend-broken None = broken
spend-broken (Some (Num m)) = limited (nat_le m 1000000) (intent.Spend m) (λ h. cc)
spend-broken (Some (Obj h)) = broken
spend-broken (Some (Stat s)) = broken

pub log-broken : (x : Option Value) → BrokenWhere (log_intent x) (not (is_some x))
log-broken None = broken
log-broken (Some x) = whole _ (λ h. cc)

pub return-broken : (x : Option Value) → BrokenWhere (return_intent x) (not (is_some x))
return-broken None = broken
return-broken (Some x) = whole _ (λ h. cc)

pub act-broken : (plan : Plan) (f : Frame) (n : ℕ) (a : Act) → BrokenWhere (act_intent plan f n a) (act_error plan f a)
act-broken plan f n (act.Let v e) = let-broken v n (value_of plan f e)
act-broken plan f n (act.Put r e) = put-broken r (value_of plan f e)
act-broken plan f n (act.If e o) = if-broken n o (value_of plan f e)
act-broken plan f n (act.Repeat e d p) = repeat-broken n d p (value_of plan f e)
act-broken plan f n (act.Spend e) = spend-broken (value_of plan f e)
act-broken plan f n (act.Log e) = log-broken (value_of plan f e)
act-broken plan f n (act.Return e) = return-broken (value_of plan f e)
act-broken plan f n _ = whole _ (λ h. cc)

pub statement-broken : (plan : Plan) (f : Frame) (s : Option Statement) → BrokenWhere (intent_at plan f s) (script_error plan f s)
statement-broken plan f None = whole _ (λ h. cc)
statement-broken plan f (Some s) = act-broken plan f s.next s.act

pub broken_exactly : (plan : Plan) (f : Frame) → BrokenWhere (intent_of plan f) (script_error plan f (statement_at plan f))
broken_exactly plan f = statement-broken plan f (statement_at plan f)
