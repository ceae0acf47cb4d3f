-- What an agent keeps fits 64 bits, whatever events of the plan it hears.
use Rattle.std.proofs.Common.{if◌then◌else◌, ◌≡◌, ℕ, zero, suc, ◌-◌, ◌==◌, ◌<◌, ◌^◌, Bool, true, false, ◌&&◌, nat_le, nat_lt, List, [], ◌∷◌, length, map, find, fold, Option, Some, None, option_map, unwrap_or, slice_get, slice_index_or, inl, inr, refl, sym, subst, arith}
use Rattle.std.specs.Prelude.{⊤}
use Rattle.std.specs.List.{cons_option, filter_map}
use Rattle.wdf_base.specs.Plan.{posts_of}
use Rattle.wdf_base.specs.declared.plan.Plan.{Plan}
use Rattle.wdf_base.specs.declared.declared.PostLine.{PostLine}
use Rattle.wdf_base.specs.declared.declared.RegisterInfo.{RegisterInfo}
use Rattle.wdf_base.specs.declared.event.Access.{Access}
use Rattle.wdf_base.specs.declared.event.Access.TheVariants as access
use Rattle.wdf_base.specs.declared.event.Action.{Action}
use Rattle.wdf_base.specs.declared.event.Action.TheVariants as action
use Rattle.wdf_base.specs.declared.event.Event.{Event}
use Rattle.wdf_base.specs.declared.event.Event.TheVariants as event
use Rattle.wdf_base.specs.declared.event.Post.{Post}
use Rattle.wdf_base.specs.declared.event.Post.TheVariants as post
use Rattle.wdf_model.specs.declared.entries.DeviceAction.{DeviceAction}
use Rattle.wdf_model.specs.declared.entries.SentRequest.{SentRequest}
use Rattle.wdf_model.specs.Tables.{entry, in_order_by, put}
use Rattle.wdf_model.specs.Plans.{device_of_agent, device_of_register, is_app, target_of_agent}
use Rattle.wdf_model.specs.agents.App.{App, app_after, due_line, next_line}
use Rattle.wdf_model.specs.agents.Device.{Device, accessed, act_on, among, at_action, at_once, delay_of, device_after, device_value, due_action, first_done, has_register, is_due_at, own_register, posted_action, register_of, set_off, set_off_all, stored, triggers, when_action, with_register, without_tick}
use Rattle.wdf_model.specs.agents.LowerTarget.{done_post}
use Rattle.wdf_model.proofs.Counts.{one_or_two}
use Rattle.wdf_model.proofs.Maps.{entry_put_other, entry_put_same}
use Rattle.law_machine_lives.proofs.Lists.{Each}
use Rattle.wdf_run_text.specs.Texts.{HasEventsOf}
use Rattle.wdf_trace.specs.Events.{IsEventOf}
use Rattle.law_lines.specs.PostNumbers.{ActionNumbersFit, PostNumbersFit}
use Rattle.wdf_dev.specs.Agents.{agent_after, agent_at, agent_due, agent_meaning, agent_value, device_or_target}
use Rattle.wdf_dev.specs.declared.any.AnyAgent.{AnyAgent}
use Rattle.wdf_dev.specs.declared.any.AnyAgent.TheVariants as agent
use Rattle.law_lines.specs.Agents.{HasFittingAgents}
use Rattle.law_lines.specs.Fitting.{HasFittingNumbers}
use Rattle.law_lines.proofs.Expressions.{FitsIfAny, flag_small}

-- ---- apps

-- what the lines post
abbrev LinesFit : List PostLine → Type 0
LinesFit ls = (k : ℕ) (l : PostLine) → slice_get ls k ≡ Some l → PostNumbersFit l.post

either_app : (b : Bool) (p q : App) → LinesFit p.lines → LinesFit q.lines → LinesFit (if b then p else q).lines
either_app true p q h k = h
either_app false p q h k = k

app_keeps : (p : App) (e : Event) → LinesFit p.lines → LinesFit (app_after p e).lines
app_keeps p (event.Posted k x answer) h = either_app (k == p.agent && nat_lt p.posted (length p.lines)) _ p h h
app_keeps p (event.Tick time) h = h
app_keeps p _ h = h

due_fits : (now : ℕ) (o : Option PostLine) (p : Post) → ((l : PostLine) → o ≡ Some l → PostNumbersFit l.post) → due_line now o ≡ Some p → PostNumbersFit p
due_fits now None p h e = absurd (let z : ⊥ = cc in z)
due_fits now (Some l) p h e = by_tick (nat_le l.tick now) e
  where
    by_tick : (b : Bool) → (if b then Some l.post else None) ≡ Some p → PostNumbersFit p
    by_tick true x = let same : l.post ≡ p = cc in subst PostNumbersFit same (h l refl)
    by_tick false x = absurd (let z : ⊥ = cc in z)

-- ---- devices

-- what its actions set
abbrev ActionsFit : List DeviceAction → Type 0
ActionsFit ls = Each (λ (l : DeviceAction). ActionNumbersFit l.action) ls

abbrev RegistersFit : List (Option ℕ) → Type 0
RegistersFit rs = (k : ℕ) → FitsIfAny (slice_index_or rs k None)

record DeviceFits (d : Device) : Type 0 where
  registers : RegistersFit d.registers
  actions : ActionsFit d.actions

registers_put : (rs : List (Option ℕ)) (k : ℕ) (v : Option ℕ) → FitsIfAny v → RegistersFit rs → RegistersFit (put None rs k v)
registers_put rs k v h each x = elim (one_or_two x k) [
  | inl e ↦ rw e (subst FitsIfAny (sym (entry_put_same None rs k v)) h)
  | inr n ↦ subst FitsIfAny (sym (entry_put_other None rs k x v n)) (each x)
]

either_device : (b : Bool) (p q : Device) → DeviceFits p → DeviceFits q → DeviceFits (if b then p else q)
either_device true p q h k = h
either_device false p q h k = k

with_register_fits : (d : Device) (k v : ℕ) → v < 2 ^ 64 → DeviceFits d → DeviceFits (with_register d k v)
with_register_fits d k v h f =
    either_device (has_register (own_register d k)) (record d { registers = put None d.registers k (Some v) }) d
    (record { registers = registers_put d.registers k (Some v) h f.registers; actions = f.actions }) f

act_fits : (d : Device) (a : Action) → ActionNumbersFit a → DeviceFits d → DeviceFits (act_on d a)
act_fits d (action.Set k v) h f = with_register_fits d k v h f
act_fits d (action.Raise i) h f = record { registers = f.registers; actions = f.actions }
act_fits d (action.Lower i) h f = record { registers = f.registers; actions = f.actions }

once_fits : (a : Access) (k : ℕ) (d : Device) (l : DeviceAction) → ActionNumbersFit l.action → DeviceFits d → DeviceFits (at_once a k d l)
once_fits a k d l h f = either_device (triggers a k l.trigger && delay_of l.trigger == 0) (act_on d l.action) d (act_fits d l.action h f) f

all_once : (a : Access) (k : ℕ) (ls : List DeviceAction) (d : Device) → ActionsFit ls → DeviceFits d → DeviceFits (fold (at_once a k) d ls)
all_once a k [] d h f = f
all_once a k (l ∷ ls) d h f = all_once a k ls (at_once a k d l) h.1 (once_fits a k d l h.0 f)

either_action : (b : Bool) (p q : DeviceAction) → ActionNumbersFit p.action → ActionNumbersFit q.action → ActionNumbersFit (if b then p else q).action
either_action true p q h k = h
either_action false p q h k = k

set_off_fits : (a : Access) (k now : ℕ) (ls : List DeviceAction) → ActionsFit ls → ActionsFit (map (set_off a k now) ls)
set_off_fits a k now [] h = tt
set_off_fits a k now (l ∷ ls) h = (either_action (triggers a k l.trigger && nat_lt 0 (delay_of l.trigger)) _ l h.0 h.0, set_off_fits a k now ls h.1)

accessed_fits : (a : Access) (k : ℕ) (d : Device) → DeviceFits d → DeviceFits (accessed a k d)
accessed_fits a k d f = all_once a k d.actions (set_off_all a k d) f.actions (record { registers = f.registers; actions = set_off_fits a k d.clock d.actions f.actions })

stored_fits : (a : Access) (k v : ℕ) (d : Device) → v < 2 ^ 64 → DeviceFits d → DeviceFits (stored a k v d)
stored_fits access.Read k v d h f = f
stored_fits access.Write k v d h f = with_register_fits d k v h f

either_list : (b : Bool) (xs ys : List DeviceAction) → ActionsFit xs → ActionsFit ys → ActionsFit (if b then xs else ys)
either_list true xs ys h k = h
either_list false xs ys h k = k

first_done_fits : (now : ℕ) (ls : List DeviceAction) → ActionsFit ls → ActionsFit (first_done now ls)
first_done_fits now [] h = tt
first_done_fits now (l ∷ ls) h = either_list (is_due_at now l.tick) (without_tick l ∷ ls) (l ∷ first_done now ls) (h.0, h.1) (h.0, first_done_fits now ls h.1)

-- an action, where there is one
abbrev FitsIf : Option DeviceAction → Type 0
FitsIf None = ⊤
FitsIf (Some l) = ActionNumbersFit l.action

found_fits : (p : DeviceAction → Bool) (ls : List DeviceAction) → ActionsFit ls → FitsIf (find p ls)
found_fits p [] h = tt
found_fits p (l ∷ ls) h = by_test (p l) (found_fits p ls h.1)
  where
    by_test : (b : Bool) → FitsIf (find p ls) → FitsIf (if b then Some l else find p ls)
    by_test true rest = h.0
    by_test false rest = rest

posted_fits : (d : Device) (o : Option DeviceAction) → FitsIf o → DeviceFits d → DeviceFits (posted_action d o)
posted_fits d None h f = f
posted_fits d (Some l) h f =
    act_fits (record d { actions = first_done d.clock d.actions }) l.action h (record { registers = f.registers; actions = first_done_fits d.clock d.actions f.actions })

device_keeps : (plan : Plan) (d : Device) (e : Event) → IsEventOf plan e → DeviceFits d → DeviceFits (device_after d e)
device_keeps plan d (event.Register cpu a k v) is f =
    either_device (has_register (own_register d k)) (accessed a k (stored a k v d)) d (accessed_fits a k (stored a k v d) (stored_fits a k v d is.2 f)) f
device_keeps plan d (event.Posted k x answer) is f =
    either_device (k == d.agent) (posted_action d (due_action d)) d (posted_fits d (due_action d) (found_fits (λ l. is_due_at d.clock l.tick) d.actions f.actions) f) f
device_keeps plan d (event.Tick time) is f = record { registers = f.registers; actions = f.actions }
device_keeps plan d _ is f = f

action_due : (o : Option DeviceAction) (p : Post) → FitsIf o → option_map (λ (l : DeviceAction). post.Act l.action) o ≡ Some p → PostNumbersFit p
action_due None p h e = absurd (let z : ⊥ = cc in z)
action_due (Some l) p h e = let same : post.Act l.action ≡ p = cc in subst PostNumbersFit same h

or_none : (o : Option ℕ) → FitsIfAny o → unwrap_or o 0 < 2 ^ 64
or_none None h = omega arith
or_none (Some v) h = h

either_number : (b : Bool) (x y : ℕ) → x < 2 ^ 64 → y < 2 ^ 64 → (if b then x else y) < 2 ^ 64
either_number true x y h k = h
either_number false x y h k = k

value_fits : (d : Device) (what : ℕ) → DeviceFits d → device_value d what < 2 ^ 64
value_fits d what f =
    either_number (nat_lt what 64) (unwrap_or (own_register d what) 0) _ (or_none (own_register d what) (f.registers what)) (flag_small (entry false d.raised (what - 64)))

-- ---- devices as they begin

with_one : (o : Option DeviceAction) (ls : List DeviceAction) → FitsIf o → ActionsFit ls → ActionsFit (cons_option o ls)
with_one None ls h each = each
with_one (Some l) ls h each = (h, each)

gathered : {P : Type 0} (f : P → Option DeviceAction) (xs : List P) → ((k : ℕ) (x : P) → slice_get xs k ≡ Some x → FitsIf (f x)) → ActionsFit (filter_map f xs)
gathered f [] h = tt
gathered f (x ∷ xs) h = with_one (f x) (filter_map f xs) (h 0 x refl) (gathered f xs (λ k y at. h (suc k) y at))

either_found : (b : Bool) (l : DeviceAction) → ActionNumbersFit l.action → FitsIf (if b then Some l else None)
either_found true l h = h
either_found false l h = tt

at_fits : (p : Post) (tick line : ℕ) → PostNumbersFit p → FitsIf (at_action (record { tick = tick; post = p; line = line }))
at_fits (post.Act a) tick line h = h
at_fits (post.Read d n) tick line h = tt
at_fits (post.Write d n) tick line h = tt
at_fits (post.Control d c n) tick line h = tt
at_fits (post.Cancel k) tick line h = tt
at_fits (post.Ask a d) tick line h = tt
at_fits (post.Done r s) tick line h = tt

inserted : (l : DeviceAction) (ls : List DeviceAction) → ActionNumbersFit l.action → ActionsFit ls → ActionsFit (in_order_by (λ (m : DeviceAction). m.line) l ls)
inserted l [] h each = (h, tt)
inserted l (m ∷ ls) h each = either_list (nat_lt l.line m.line) (l ∷ m ∷ ls) (m ∷ in_order_by (λ (x : DeviceAction). x.line) l ls) (h, each) (each.0, inserted l ls h each.1)

all_inserted : (ls into : List DeviceAction) → ActionsFit ls → ActionsFit into → ActionsFit (fold among into ls)
all_inserted [] into h each = each
all_inserted (l ∷ ls) into h each = all_inserted ls (among into l) h.1 (inserted l into h.0 each)

registers_begin : (d : ℕ) (rs : List RegisterInfo) → ((k : ℕ) (r : RegisterInfo) → slice_get rs k ≡ Some r → r.value < 2 ^ 64) → RegistersFit (map (register_of d) rs)
registers_begin d [] h k = tt
registers_begin d (r ∷ rs) h zero = own_value (r.device.0 == d) (h 0 r refl)
  where
    own_value : (b : Bool) → r.value < 2 ^ 64 → FitsIfAny (if b then Some r.value else None)
    own_value true small = small
    own_value false small = tt
registers_begin d (r ∷ rs) h (suc k) = registers_begin d rs (λ j x at. h (suc j) x at) k

-- ---- all agents

abbrev AgentFits : AnyAgent → Type 0
AgentFits (agent.PnpManager p) = LinesFit p.lines
AgentFits (agent.App p) = LinesFit p.lines
AgentFits (agent.Device d) = DeviceFits d
AgentFits (agent.LowerTarget t) = ⊤

agent_keeps : (plan : Plan) (a : AnyAgent) (e : Event) → IsEventOf plan e → AgentFits a → AgentFits (agent_after a e)
agent_keeps plan (agent.PnpManager p) e is f = app_keeps p e f
agent_keeps plan (agent.App p) e is f = app_keeps p e f
agent_keeps plan (agent.Device d) e is f = device_keeps plan d e is f
agent_keeps plan (agent.LowerTarget t) e is f = tt

agents_keep : (plan : Plan) (a : AnyAgent) (es : List Event) → HasEventsOf plan es → AgentFits a → AgentFits (fold agent_after a es)
agents_keep plan a [] is f = f
agents_keep plan a (e ∷ es) is f = agents_keep plan (agent_after a e) es (λ x among. is x (suc among.0, among.1)) (agent_keeps plan a e (is e (0, refl)) f)

posts_fit : (a : AnyAgent) (p : Post) → AgentFits a → agent_due a ≡ Some p → PostNumbersFit p
posts_fit (agent.PnpManager x) p f e = due_fits x.clock (next_line x) p (λ l at. f x.posted l at) e
posts_fit (agent.App x) p f e = due_fits x.clock (next_line x) p (λ l at. f x.posted l at) e
posts_fit (agent.Device d) p f e = action_due (due_action d) p (found_fits (λ l. is_due_at d.clock l.tick) d.actions f.actions) e
posts_fit (agent.LowerTarget t) p f e = done_fits _ p e
  where
    done_fits : (o : Option SentRequest) (x : Post) → option_map (done_post t.status) o ≡ Some x → PostNumbersFit x
    done_fits None x h = absurd (let z : ⊥ = cc in z)
    done_fits (Some s) x h = let same : done_post t.status s ≡ x = cc in subst PostNumbersFit same tt

shown_fits : (a : AnyAgent) (what : ℕ) → AgentFits a → agent_value a what < 2 ^ 64
shown_fits (agent.Device d) what f = value_fits d what f
shown_fits _ what f = omega arith

either_agent : (b : Bool) (x y : AnyAgent) → AgentFits x → AgentFits y → AgentFits (if b then x else y)
either_agent true x y h k = h
either_agent false x y h k = k

module _ (plan : Plan) (fit : HasFittingNumbers plan) where
  device_begins : (d k : ℕ) → AgentFits (device_or_target plan k (Some d) None)
  device_begins d k = record {
    registers = registers_begin d plan.registers fit.registers;
    actions =
        all_inserted (filter_map at_action (posts_of plan k)) (filter_map (when_action plan d) plan.whens)
        (gathered at_action (posts_of plan k) (λ j l at. at_fits l.post l.tick l.line (fit.posts k j l at)))
        (gathered (when_action plan d) plan.whens (λ j w at. either_found (device_of_register plan w.register == d) _ (fit.whens j w at)));
  }

  by_kind : (k : ℕ) (d t : Option ℕ) → AgentFits (device_or_target plan k d t)
  by_kind k (Some d) t = device_begins d k
  by_kind k None (Some t) = tt
  by_kind k None None = λ j l at. fit.posts k j l at

  agent_begins : (k : ℕ) → AgentFits (agent_at plan k)
  agent_begins k =
      either_agent (k == 0) _ _ (λ j l at. fit.posts 0 j l at)
      (either_agent (is_app plan k) _ _ (λ j l at. fit.posts k j l at) (by_kind k (device_of_agent plan k) (target_of_agent plan k)))

pub agents_of_plan : (plan : Plan) → HasFittingNumbers plan → HasFittingAgents plan agent_meaning
agents_of_plan plan fit = record {
  posts = λ k events p is due. posts_fit (fold agent_after (agent_at plan k) events) p (agents_keep plan (agent_at plan k) events is (agent_begins plan fit k)) due;
  values = λ k what events is. shown_fits (fold agent_after (agent_at plan k) events) what (agents_keep plan (agent_at plan k) events is (agent_begins plan fit k));
}
