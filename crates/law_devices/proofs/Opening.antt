-- At the opening a device shows what the scenario declares.
use Rattle.std.proofs.Common.{if◌then◌else◌, ◌≡◌, ℕ, zero, suc, ◌==◌, nat_lt, Bool, true, false, List, [], ◌∷◌, map, filter, fold, Option, Some, None, refl, ap, ◌∙◌}
use Rattle.std.specs.Prelude.{unwrap_or, option_map, option_and_then, slice_get, slice_index_or}
use Rattle.std.specs.List.{cons_option, filter_map}
use Rattle.wdf_base.specs.Plan.{posts_of}
use Rattle.wdf_base.specs.Same.{same_option}
use Rattle.wdf_base.specs.declared.plan.Plan.{Plan}
use Rattle.wdf_base.specs.declared.declared.PostLine.{PostLine}
use Rattle.wdf_base.specs.declared.declared.RegisterInfo.{RegisterInfo}
use Rattle.wdf_base.specs.declared.declared.WhenLine.{WhenLine}
use Rattle.wdf_base.specs.declared.event.Post.{Post}
use Rattle.wdf_base.specs.declared.event.Post.TheVariants as post
use Rattle.wdf_model.specs.declared.entries.DeviceAction.{DeviceAction}
use Rattle.wdf_model.specs.agents.Device.{among, at_action, device_at, has_register, register_of, when_action}
use Rattle.wdf_model.proofs.Counts.{equal}
use Rattle.law_machine_lives.proofs.Lists.{Each}
use Rattle.law_idle.specs.Idling.{time_after}
use Rattle.law_devices.specs.Shown.{Shown, Register, Line, value_told}
use Rattle.law_devices.proofs.Acts.{held, line_of}
use Rattle.law_devices.proofs.Steps.{Knows, is_on, shower}

-- ---- registers

at_index : (d : ℕ) (rs : List RegisterInfo) (k : ℕ) → slice_index_or (map (register_of d) rs) k None ≡ option_and_then (register_of d) (slice_get rs k)
at_index d [] k = refl
at_index d (r ∷ rs) zero = refl
at_index d (r ∷ rs) (suc k) = at_index d rs k

is_own : (d : ℕ) (o : Option RegisterInfo) → has_register (option_and_then (register_of d) o) ≡ same_option ◌==◌ (option_map (λ (r : RegisterInfo). r.device.0) o) (Some d)
is_own d None = refl
is_own d (Some r) = by (r.device.0 == d)
  where
    by : (b : Bool) → has_register (if b then Some r.value else None) ≡ b
    by true = refl
    by false = refl

declares : (d : ℕ) (o : Option RegisterInfo) → option_map (λ (r : RegisterInfo). r.device.0) o ≡ Some d
    → unwrap_or (option_and_then (register_of d) o) 0 ≡ unwrap_or (option_map (λ (r : RegisterInfo). r.value) o) 0
declares d None is = absurd (let z : ⊥ = cc in z)
declares d (Some r) is = let same : r.device.0 ≡ d = cc in let yes : (r.device.0 == d) ≡ true = equal r.device.0 d same in rw yes refl

-- ---- `when` lines

-- none of these actions has a `when` line
abbrev pub AreAt : List DeviceAction → Type 0
AreAt ls = Each (λ (l : DeviceAction). l.trigger ≡ None) ls

in_order_lines : (l : DeviceAction) (ls : List DeviceAction) → l.trigger ≡ None → filter_map line_of (among ls l) ≡ filter_map line_of ls
in_order_lines l [] at = rw at refl
in_order_lines l (m ∷ ms) at = by (nat_lt l.line m.line) (in_order_lines l ms at)
  where
    by : (b : Bool) → filter_map line_of (among ms l) ≡ filter_map line_of ms → filter_map line_of (if b then l ∷ m ∷ ms else m ∷ among ms l) ≡ filter_map line_of (m ∷ ms)
    by true rest = rw at refl
    by false rest = ap (cons_option (line_of m)) rest

all_among : (ls start : List DeviceAction) → AreAt ls → filter_map line_of (fold among start ls) ≡ filter_map line_of start
all_among [] start at = refl
all_among (l ∷ ls) start at = all_among ls (among start l) at.1 ∙ in_order_lines l start at.0

one_at : (p : Post) (tick line : ℕ) (ls : List DeviceAction) → AreAt ls → AreAt (cons_option (at_action (record { tick = tick; post = p; line = line })) ls)
one_at (post.Act a) tick line ls at = (refl, at)
one_at (post.Read x n) tick line ls at = at
one_at (post.Write x n) tick line ls at = at
one_at (post.Control x c n) tick line ls at = at
one_at (post.Cancel j) tick line ls at = at
one_at (post.Ask a x) tick line ls at = at
one_at (post.Done r s) tick line ls at = at

pub all_at : (ps : List PostLine) → AreAt (filter_map at_action ps)
all_at [] = tt
all_at (p ∷ ps) = one_at p.post p.tick p.line (filter_map at_action ps) (all_at ps)

whens_of : (plan : Plan) (d : ℕ) (ws : List WhenLine) → filter_map line_of (filter_map (when_action plan d) ws) ≡ filter (is_on plan d) ws
whens_of plan d [] = refl
whens_of plan d (w ∷ ws) = by (is_on plan d w) refl (whens_of plan d ws)
  where
    by : (b : Bool) → is_on plan d w ≡ b → filter_map line_of (filter_map (when_action plan d) ws) ≡ filter (is_on plan d) ws → filter_map line_of (filter_map (when_action plan d) (w ∷ ws)) ≡ filter (is_on plan d) (w ∷ ws)
    by true e rest = rw e (ap (λ xs. w ∷ xs) rest)
    by false e rest = rw e rest

pub knows_first : (plan : Plan) (d k : ℕ) → Knows plan d k [] (device_at plan d k)
unfolding value_told time_after
knows_first plan d k = record {
  number = refl;
  clock = refl;
  owns = λ r. ap has_register (at_index d plan.registers r) ∙ is_own d (slice_get plan.registers r);
  lines = all_among (filter_map at_action (posts_of plan k)) (filter_map (when_action plan d) plan.whens) (all_at (posts_of plan k)) ∙ whens_of plan d plan.whens;
  values = values;
}
  where
    values : (x : Shown) → shower plan x ≡ Some d → held (device_at plan d k) x ≡ value_told plan x []
    values (Register r) is = ap (λ o. unwrap_or o 0) (at_index d plan.registers r) ∙ declares d (slice_get plan.registers r) is
    values (Line i) is = refl
