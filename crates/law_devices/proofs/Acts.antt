-- What an action, and an access, make of what a device shows, and what they leave of the device.
use Rattle.std.proofs.Common.{if◌then◌else◌, ◌≡◌, ℕ, ◌==◌, Bool, true, false, ◌&&◌, List, [], ◌∷◌, fold, Option, Some, None, refl, sym, ap, ◌∙◌, eqb-true}
use Rattle.std.specs.Prelude.{⊤, unwrap_or, option_map}
use Rattle.std.specs.List.{cons_option, filter_map}
use Rattle.wdf_base.specs.declared.declared.WhenLine.{WhenLine}
use Rattle.wdf_base.specs.declared.event.Access.{Access}
use Rattle.wdf_base.specs.declared.event.Access.TheVariants as access
use Rattle.wdf_base.specs.declared.event.Action.{Action}
use Rattle.wdf_base.specs.declared.event.Action.TheVariants as action
use Rattle.wdf_base.specs.Same.{same_access}
use Rattle.wdf_model.specs.declared.entries.DeviceAction.{DeviceAction}
use Rattle.wdf_model.specs.Tables.{entry, flag, put}
use Rattle.wdf_model.specs.agents.Device.{Device, act_on, at_once, delay_of, has_register, own_register, triggers, with_register}
use Rattle.wdf_model.specs.agents.Device as device
use Rattle.wdf_model.proofs.Maps.{entry_put}
use Rattle.law_devices.specs.Shown.{Shown, Register, Line, acted, set_at_once, stored}

-- what a device holds of what it shows
abbrev pub held : Device → Shown → ℕ
held h (Register k) = unwrap_or (own_register h k) 0
held h (Line i) = flag (entry false h.raised i)

-- a register is the device's own
abbrev pub Has : Device → Shown → Type 0
Has h (Register k) = has_register (own_register h k) ≡ true
Has h (Line i) = ⊤

-- ---- what stays

-- its number, its actions, its clock, and which registers are its own
pub record Keeps (h g : Device) : Type 0 where
  pub number : g.agent ≡ h.agent
  pub actions : g.actions ≡ h.actions
  pub clock : g.clock ≡ h.clock
  pub owns : (k : ℕ) → has_register (own_register g k) ≡ has_register (own_register h k)

pub kept : (h : Device) → Keeps h h
kept h = record { number = refl; actions = refl; clock = refl; owns = λ k. refl }

pub then_kept : (h g f : Device) → Keeps h g → Keeps g f → Keeps h f
then_kept h g f k l = record { number = l.number ∙ k.number; actions = l.actions ∙ k.actions; clock = l.clock ∙ k.clock; owns = λ r. l.owns r ∙ k.owns r }

either_kept : (b : Bool) (h x y : Device) → Keeps h x → Keeps h y → Keeps h (if b then x else y)
either_kept true h x y k l = k
either_kept false h x y k l = l

pub has_still : (h g : Device) (x : Shown) → Keeps h g → Has h x → Has g x
has_still h g (Register k) keeps has = keeps.owns k ∙ has
has_still h g (Line i) keeps has = tt

written_by : (o : Option ℕ) (v : ℕ) (b : Bool) → (b ≡ true → has_register o ≡ true) → has_register (if b then Some v else o) ≡ has_register o
written_by o v true own = sym (own refl)
written_by o v false own = refl

-- a register takes a value, if it is the device's own
pub register_kept : (h : Device) (r v : ℕ) → Keeps h (with_register h r v)
register_kept h r v = by (has_register (own_register h r)) refl
  where
    by : (b : Bool) → has_register (own_register h r) ≡ b → Keeps h (if b then record h { registers = put None h.registers r (Some v) } else h)
    by true own = record {
      number = refl;
      actions = refl;
      clock = refl;
      owns = λ k. ap has_register (entry_put None h.registers r k (Some v))
          ∙ written_by (own_register h k) v (k == r) (λ e. let same : k ≡ r = eqb-true k r e in ap (λ n. has_register (own_register h n)) same ∙ own);
    }
    by false own = kept h

pub act_kept : (h : Device) (a : Action) → Keeps h (act_on h a)
act_kept h (action.Set k v) = register_kept h k v
act_kept h (action.Raise i) = record { number = refl; actions = refl; clock = refl; owns = λ k. refl }
act_kept h (action.Lower i) = record { number = refl; actions = refl; clock = refl; owns = λ k. refl }

pub stored_kept : (a : Access) (r v : ℕ) (h : Device) → Keeps h (device.stored a r v h)
stored_kept access.Read r v h = kept h
stored_kept access.Write r v h = register_kept h r v

pub once_kept : (a : Access) (r : ℕ) (ls : List DeviceAction) (h : Device) → Keeps h (fold (at_once a r) h ls)
once_kept a r [] h = kept h
once_kept a r (l ∷ ls) h =
    then_kept h (at_once a r h l) (fold (at_once a r) (at_once a r h l) ls)
    (either_kept (triggers a r l.trigger && delay_of l.trigger == 0) h (act_on h l.action) h (act_kept h l.action) (kept h)) (once_kept a r ls (at_once a r h l))

-- ---- what changes

-- a register that is the device's own is read after a write
read_by : (h : Device) (k r v : ℕ) (b own : Bool) → (k == r) ≡ b → has_register (own_register h r) ≡ own → has_register (own_register h k) ≡ true
    → unwrap_or (own_register (with_register h r v) k) 0 ≡ (if b then v else unwrap_or (own_register h k) 0)
read_by h k r v true true e o has = rw o (ap (λ x. unwrap_or x 0) (entry_put None h.registers r k (Some v)) ∙ rw e refl)
read_by h k r v false true e o has = rw o (ap (λ x. unwrap_or x 0) (entry_put None h.registers r k (Some v)) ∙ rw e refl)
read_by h k r v true false e o has =
    let same : k ≡ r = eqb-true k r e in
    let no : has_register (own_register h k) ≡ false = ap (λ n. has_register (own_register h n)) same ∙ o in
    absurd (let z : ⊥ = cc in z)
read_by h k r v false false e o has = rw o refl

read_after : (h : Device) (k r v : ℕ) → has_register (own_register h k) ≡ true → unwrap_or (own_register (with_register h r v) k) 0 ≡ (if k == r then v else unwrap_or (own_register h k) 0)
read_after h k r v has = read_by h k r v (k == r) (has_register (own_register h r)) refl refl has

lines_stay : (h : Device) (r v : ℕ) → (with_register h r v).raised ≡ h.raised
lines_stay h r v = by (has_register (own_register h r))
  where
    by : (b : Bool) → (if b then record h { registers = put None h.registers r (Some v) } else h).raised ≡ h.raised
    by true = refl
    by false = refl

given_by : (v before : ℕ) (b : Bool) → (if b then v else before) ≡ unwrap_or (if b then Some v else None) before
given_by v before true = refl
given_by v before false = refl

line_by : (up before b : Bool) → flag (if b then up else before) ≡ unwrap_or (if b then Some (flag up) else None) (flag before)
line_by up before true = refl
line_by up before false = refl

-- an action gives it what it says
pub act_held : (h : Device) (x : Shown) (a : Action) → Has h x → held (act_on h a) x ≡ acted x (held h x) a
act_held h (Register k) (action.Set r v) has = read_after h k r v has ∙ given_by v (unwrap_or (own_register h k) 0) (k == r)
act_held h (Register k) (action.Raise j) has = refl
act_held h (Register k) (action.Lower j) has = refl
act_held h (Line i) (action.Set r v) has = ap (λ raised. flag (entry false raised i)) (lines_stay h r v)
act_held h (Line i) (action.Raise j) has = ap flag (entry_put false h.raised j.id.0 i true) ∙ line_by true (entry false h.raised i) (i == j.id.0)
act_held h (Line i) (action.Lower j) has = ap flag (entry_put false h.raised j.id.0 i false) ∙ line_by false (entry false h.raised i) (i == j.id.0)

-- a write stores its value
pub stored_held : (a : Access) (r v : ℕ) (h : Device) (x : Shown) → Has h x → held (device.stored a r v h) x ≡ stored x a r v (held h x)
stored_held access.Read r v h (Register k) has = refl
stored_held access.Read r v h (Line i) has = refl
stored_held access.Write r v h (Register k) has = read_after h k r v has
stored_held access.Write r v h (Line i) has = ap (λ raised. flag (entry false raised i)) (lines_stay h r v)

-- the `when` line of an action, none for an `at` action
abbrev pub line_of : DeviceAction → Option WhenLine
line_of l = option_map (λ (w : WhenLine). record w { action = l.action }) l.trigger

-- one action of a device is looked at
one_held : (a : Access) (r : ℕ) (x : Shown) (l : DeviceAction) (h : Device) (o : Option WhenLine) → l.trigger ≡ o → Has h x → held (at_once a r h l) x ≡ fold (set_at_once x a r) (held h x) (cons_option (line_of l) [])
one_held a r x l h None e has = rw e refl
one_held a r x l h (Some w) e has = rw e (by (same_access w.access a && w.register == r && w.after == 0))
  where
    by : (b : Bool) → held (if b then act_on h l.action else h) x ≡ (if b then acted x (held h x) l.action else held h x)
    by true = act_held h x l.action has
    by false = refl

with_one : (x : Shown) (a : Access) (r v : ℕ) (o : Option WhenLine) (ws : List WhenLine) → fold (set_at_once x a r) (fold (set_at_once x a r) v (cons_option o [])) ws ≡ fold (set_at_once x a r) v (cons_option o ws)
with_one x a r v None ws = refl
with_one x a r v (Some w) ws = refl

-- what the actions of a device make of it in an access
pub once_held : (a : Access) (r : ℕ) (x : Shown) (ls : List DeviceAction) (h : Device) → Has h x → held (fold (at_once a r) h ls) x ≡ fold (set_at_once x a r) (held h x) (filter_map line_of ls)
once_held a r x [] h has = refl
once_held a r x (l ∷ ls) h has =
    once_held a r x ls (at_once a r h l) (has_still h (at_once a r h l) x (once_kept a r (l ∷ []) h) has)
    ∙ ap (λ v. fold (set_at_once x a r) v (filter_map line_of ls)) (one_held a r x l h l.trigger refl has)
    ∙ with_one x a r (held h x) (line_of l) (filter_map line_of ls)
