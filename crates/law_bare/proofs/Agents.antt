-- The program's agents don't see line numbers.
use Rattle.std.proofs.Common.{if◌then◌else◌, ◌≡◌, ℕ, zero, suc, ◌==◌, Bool, true, false, ◌&&◌, nat_lt, List, [], ◌∷◌, fold, length, map, Option, Some, None, option_map, slice_get, refl, sym, ap, ◌∙◌}
use Rattle.std.proofs.lemmas.List.{length-map}
use Rattle.wdf_base.specs.Plan.{agent_posts, posts_of}
use Rattle.wdf_base.specs.declared.declared.PostLine.{PostLine}
use Rattle.wdf_base.specs.declared.declared.WhenLine.{WhenLine}
use Rattle.wdf_base.specs.declared.event.Access.{Access}
use Rattle.wdf_base.specs.declared.event.Access.TheVariants as access
use Rattle.wdf_base.specs.declared.event.Action.{Action}
use Rattle.wdf_base.specs.declared.event.Action.TheVariants as action
use Rattle.wdf_base.specs.declared.event.Event.{Event}
use Rattle.wdf_base.specs.declared.event.Event.TheVariants as event
use Rattle.wdf_base.specs.declared.plan.Plan.{Plan}
use Rattle.wdf_base.specs.declared.script.AgentInfo.{AgentInfo}
use Rattle.wdf_model.specs.declared.entries.DeviceAction.{DeviceAction}
use Rattle.wdf_model.specs.Plans.{device_of_agent, is_app, target_of_agent}
use Rattle.wdf_model.specs.Tables.{least}
use Rattle.wdf_model.specs.rules.Ready.{IsPickedRun, IsRunOf}
use Rattle.wdf_model.specs.agents.App as app
use Rattle.wdf_model.specs.agents.Device.{Device, accessed, act_on, action_post, at_once, delay_of, device_actions, device_after, device_at, device_due, device_next, due_action, first_done, has_register, is_due_at, later_tick, own_register, posted_action, set_off, set_off_all, stored, triggers, with_register}
use Rattle.wdf_model.specs.agents.LowerTarget.{LowerTarget, target_after, target_at}
use Rattle.wdf_dev.specs.Agents as dev
use Rattle.wdf_dev.specs.Agents.{agent_meaning}
use Rattle.wdf_dev.specs.declared.any.AnyAgent.{AnyAgent}
use Rattle.wdf_dev.specs.declared.any.AnyAgent.TheVariants as agent
use Rattle.law_bare.specs.Agents.{SameActions, bare_action, bare_agent_of, bare_app, bare_device}
use Rattle.law_bare.specs.Bare.{HasLikePicked, HasLikeRun, SeesNoLines, bare_event}
use Rattle.law_bare.specs.Lines.{bare_agent, bare_post, bare_when, bare_plan}
use Rattle.law_bare.proofs.Lists.{at_mapped, find_map, gathered_same}
use Rattle.law_bare.proofs.Plans.{device_of_same, is_app_same, target_of_same}
use Rattle.law_bare.proofs.Runs.{like_picked, like_run}

-- ---- apps

due_by : (now : ℕ) (o : Option PostLine) → app.due_line now (option_map bare_post o) ≡ app.due_line now o
due_by now None = refl
due_by now (Some l) = refl

later_by : (now : ℕ) (o : Option PostLine) → app.later_line now (option_map bare_post o) ≡ app.later_line now o
later_by now None = refl
later_by now (Some l) = refl

app_due_same : (p : app.App) → app.app_due (bare_app p) ≡ app.app_due p
app_due_same p = ap (app.due_line p.clock) (at_mapped bare_post p.lines p.posted) ∙ due_by p.clock (slice_get p.lines p.posted)

app_next_same : (p : app.App) → app.app_next (bare_app p) ≡ app.app_next p
app_next_same p = ap (app.later_line p.clock) (at_mapped bare_post p.lines p.posted) ∙ later_by p.clock (slice_get p.lines p.posted)

app_posts_by : (p : app.App) (a : ℕ) (b : Bool) → (a == p.agent && nat_lt p.posted (length p.lines)) ≡ b → app.after_post a (bare_app p) ≡ bare_app (app.after_post a p)
app_posts_by p a true e = rw (length-map p.lines bare_post, e) refl
app_posts_by p a false e = rw (length-map p.lines bare_post, e) refl

app_fold_same : (p : app.App) (e : Event) → app.app_after (bare_app p) (bare_event e) ≡ bare_app (app.app_after p e)
app_fold_same p (event.Posted a q answer) = app_posts_by p a (a == p.agent && nat_lt p.posted (length p.lines)) refl
app_fold_same p (event.Tick time) = refl
app_fold_same p (event.Local cpu line) = refl
app_fold_same p (event.Fault cpu x line) = refl
app_fold_same p _ = refl

-- ---- devices

due_action_same : (d : Device) → due_action (bare_device d) ≡ option_map bare_action (due_action d)
due_action_same d = find_map bare_action (λ l. is_due_at d.clock l.tick) (λ l. is_due_at d.clock l.tick) (λ l. refl) d.actions

post_by : (o : Option DeviceAction) → option_map action_post (option_map bare_action o) ≡ option_map action_post o
post_by None = refl
post_by (Some l) = refl

device_due_same : (d : Device) → device_due (bare_device d) ≡ device_due d
device_due_same d = ap (option_map action_post) (due_action_same d) ∙ post_by (due_action d)

device_next_same : (d : Device) → device_next (bare_device d) ≡ device_next d
device_next_same d = ap least (gathered_same bare_action (λ l. later_tick d.clock l.tick) (λ l. later_tick d.clock l.tick) (λ l. refl) d.actions)

trigger_same : (a : Access) (k : ℕ) (o : Option WhenLine) → triggers a k (option_map bare_when o) ≡ triggers a k o
trigger_same a k None = refl
trigger_same a k (Some w) = refl

delay_same : (o : Option WhenLine) → delay_of (option_map bare_when o) ≡ delay_of o
delay_same None = refl
delay_same (Some w) = refl

register_by : (d : Device) (k v : ℕ) (b : Bool) → has_register (own_register d k) ≡ b → with_register (bare_device d) k v ≡ bare_device (with_register d k v)
register_by d k v true e = rw e refl
register_by d k v false e = rw e refl

act_same : (d : Device) (a : Action) → act_on (bare_device d) a ≡ bare_device (act_on d a)
act_same d (action.Set k v) = register_by d k v (has_register (own_register d k)) refl
act_same d (action.Raise i) = refl
act_same d (action.Lower i) = refl

stored_same : (a : Access) (k v : ℕ) (d : Device) → stored a k v (bare_device d) ≡ bare_device (stored a k v d)
stored_same access.Read k v d = refl
stored_same access.Write k v d = register_by d k v (has_register (own_register d k)) refl

off_by : (a : Access) (k now : ℕ) (l : DeviceAction) (b : Bool) → (triggers a k l.trigger && nat_lt 0 (delay_of l.trigger)) ≡ b → set_off a k now (bare_action l) ≡ bare_action (set_off a k now l)
off_by a k now l true e = rw (trigger_same a k l.trigger, delay_same l.trigger, e) refl
off_by a k now l false e = rw (trigger_same a k l.trigger, delay_same l.trigger, e) refl

off_all : (a : Access) (k now : ℕ) (ls : List DeviceAction) → map (set_off a k now) (map bare_action ls) ≡ map bare_action (map (set_off a k now) ls)
off_all a k now [] = refl
off_all a k now (l ∷ ls) = ap (λ x. x ∷ map (set_off a k now) (map bare_action ls)) (off_by a k now l (triggers a k l.trigger && nat_lt 0 (delay_of l.trigger)) refl) ∙ ap (λ xs. bare_action (set_off a k now l) ∷ xs) (off_all a k now ls)

once_by : (a : Access) (k : ℕ) (d : Device) (l : DeviceAction) (b : Bool) → (triggers a k l.trigger && delay_of l.trigger == 0) ≡ b → at_once a k (bare_device d) (bare_action l) ≡ bare_device (at_once a k d l)
once_by a k d l true e = rw (trigger_same a k l.trigger, delay_same l.trigger, e) (act_same d l.action)
once_by a k d l false e = rw (trigger_same a k l.trigger, delay_same l.trigger, e) refl

once_all : (a : Access) (k : ℕ) (ls : List DeviceAction) (d : Device) → fold (at_once a k) (bare_device d) (map bare_action ls) ≡ bare_device (fold (at_once a k) d ls)
once_all a k [] d = refl
once_all a k (l ∷ ls) d = ap (λ x. fold (at_once a k) x (map bare_action ls)) (once_by a k d l (triggers a k l.trigger && delay_of l.trigger == 0) refl) ∙ once_all a k ls (at_once a k d l)

accessed_same : (a : Access) (k : ℕ) (d : Device) → accessed a k (bare_device d) ≡ bare_device (accessed a k d)
accessed_same a k d =
    ap (λ ls. fold (at_once a k) (record d { actions = ls }) (map bare_action d.actions)) (off_all a k d.clock d.actions) ∙ once_all a k d.actions (set_off_all a k d)

access_by : (a : Access) (k v : ℕ) (d : Device) (b : Bool)
    → (if b then accessed a k (stored a k v (bare_device d)) else bare_device d) ≡ bare_device (if b then accessed a k (stored a k v d) else d)
access_by a k v d true = ap (accessed a k) (stored_same a k v d) ∙ accessed_same a k (stored a k v d)
access_by a k v d false = refl

done_by : (now : ℕ) (l : DeviceAction) (ls : List DeviceAction) (b : Bool) → is_due_at now l.tick ≡ b → first_done now (map bare_action ls) ≡ map bare_action (first_done now ls)
    → first_done now (map bare_action (l ∷ ls)) ≡ map bare_action (first_done now (l ∷ ls))
done_by now l ls true e rest = rw e refl
done_by now l ls false e rest = rw e (ap (λ xs. bare_action l ∷ xs) rest)

done_same : (now : ℕ) (ls : List DeviceAction) → first_done now (map bare_action ls) ≡ map bare_action (first_done now ls)
done_same now [] = refl
done_same now (l ∷ ls) = done_by now l ls (is_due_at now l.tick) refl (done_same now ls)

posted_by : (d : Device) (o : Option DeviceAction) → posted_action (bare_device d) (option_map bare_action o) ≡ bare_device (posted_action d o)
posted_by d None = refl
posted_by d (Some l) = ap (λ ls. act_on (record d { actions = ls }) l.action) (done_same d.clock d.actions) ∙ act_same (record d { actions = first_done d.clock d.actions }) l.action

posts_by : (d : Device) (b : Bool) → (if b then posted_action (bare_device d) (due_action (bare_device d)) else bare_device d) ≡ bare_device (if b then posted_action d (due_action d) else d)
posts_by d true = ap (posted_action (bare_device d)) (due_action_same d) ∙ posted_by d (due_action d)
posts_by d false = refl

device_fold_same : (d : Device) (e : Event) → device_after (bare_device d) (bare_event e) ≡ bare_device (device_after d e)
device_fold_same d (event.Register cpu a k v) = access_by a k v d (has_register (own_register d k))
device_fold_same d (event.Posted a p answer) = posts_by d (a == d.agent)
device_fold_same d (event.Tick time) = refl
device_fold_same d (event.Local cpu line) = refl
device_fold_same d (event.Fault cpu x line) = refl
device_fold_same d _ = refl

-- ---- targets

target_fold_same : (t : LowerTarget) (e : Event) → target_after t (bare_event e) ≡ target_after t e
target_fold_same t (event.Local cpu line) = refl
target_fold_same t (event.Fault cpu x line) = refl
target_fold_same t _ = refl

-- ---- all agents

pub unseen_by_all : SeesNoLines agent_meaning bare_agent_of
unseen_by_all = record { due = due; next = next; value = value; fold = folds }
  where
    due : (a : AnyAgent) → dev.agent_due (bare_agent_of a) ≡ dev.agent_due a
    due (agent.PnpManager p) = app_due_same p
    due (agent.App p) = app_due_same p
    due (agent.Device d) = device_due_same d
    due (agent.LowerTarget t) = refl

    next : (a : AnyAgent) → dev.agent_next (bare_agent_of a) ≡ dev.agent_next a
    next (agent.PnpManager p) = app_next_same p
    next (agent.App p) = app_next_same p
    next (agent.Device d) = device_next_same d
    next (agent.LowerTarget t) = refl

    value : (a : AnyAgent) (what : ℕ) → dev.agent_value (bare_agent_of a) what ≡ dev.agent_value a what
    value (agent.PnpManager p) what = refl
    value (agent.App p) what = refl
    value (agent.Device d) what = refl
    value (agent.LowerTarget t) what = refl

    folds : (a : AnyAgent) (e : Event) → dev.agent_after (bare_agent_of a) (bare_event e) ≡ bare_agent_of (dev.agent_after a e)
    folds (agent.PnpManager p) e = ap agent.PnpManager (app_fold_same p e)
    folds (agent.App p) e = ap agent.App (app_fold_same p e)
    folds (agent.Device d) e = ap agent.Device (device_fold_same d e)
    folds (agent.LowerTarget t) e = ap agent.LowerTarget (target_fold_same t e)

-- ---- the opening

posts_by_agent : (o : Option AgentInfo) → map bare_post (agent_posts o) ≡ agent_posts (option_map bare_agent o)
posts_by_agent None = refl
posts_by_agent (Some a) = refl

-- an agent of a plan whose devices have these actions
abbrev last_from : Plan → (ℕ → List DeviceAction) → ℕ → Option ℕ → Option ℕ → AnyAgent
last_from plan acts k (Some d) t = agent.Device (record (device_at plan d k) { actions = acts d })
last_from plan acts k None (Some t) = agent.LowerTarget (target_at plan t k)
last_from plan acts k None None = agent.App (app.app_at plan k)

abbrev agent_from : Plan → (ℕ → List DeviceAction) → ℕ → AnyAgent
agent_from plan acts k =
    if k == 0 then agent.PnpManager (app.app_at plan 0) else if is_app plan k then agent.App (app.app_at plan k) else last_from plan acts k (device_of_agent plan k) (target_of_agent plan k)

module _ (plan : Plan) (k : ℕ) where
  posts_bare : (j : ℕ) → map bare_post (posts_of plan j) ≡ posts_of (bare_plan plan) j
  posts_bare zero = refl
  posts_bare (suc j) = posts_by_agent (slice_get plan.agents j) ∙ ap agent_posts (sym (at_mapped bare_agent plan.agents j))

  app_bare : (j : ℕ) → bare_app (app.app_at plan j) ≡ app.app_at (bare_plan plan) j
  app_bare j = rw (posts_bare j) refl

  abbrev acts : ℕ → List DeviceAction
  acts d = map bare_action (device_actions plan d k)

  last_bare : (d t : Option ℕ) → bare_agent_of (dev.device_or_target plan k d t) ≡ last_from (bare_plan plan) acts k d t
  last_bare (Some d) t = refl
  last_bare None (Some t) = refl
  last_bare None None = ap agent.App (app_bare k)

  begin_by : (first second : Bool) → (k == 0) ≡ first → is_app plan k ≡ second → bare_agent_of (dev.agent_at plan k) ≡ agent_from (bare_plan plan) acts k
  begin_by true second e f = rw e (ap agent.PnpManager (app_bare 0))
  begin_by false true e f = rw (e, is_app_same plan k, f) (ap agent.App (app_bare k))
  begin_by false false e f = rw (e, is_app_same plan k, f, device_of_same plan k, target_of_same plan k) (last_bare (device_of_agent plan k) (target_of_agent plan k))

  begin_bare : bare_agent_of (dev.agent_at plan k) ≡ agent_from (bare_plan plan) acts k
  begin_bare = begin_by (k == 0) (is_app plan k) refl refl

module _ (one two : Plan) (plans : bare_plan one ≡ bare_plan two) (actions : SameActions one two) (k : ℕ) where
  last_acts : (P : Plan) (d t : Option ℕ) → last_from P (acts one k) k d t ≡ last_from P (acts two k) k d t
  last_acts P (Some d) t = ap (λ ls. agent.Device (record (device_at P d k) { actions = ls })) (actions d k)
  last_acts P None (Some t) = refl
  last_acts P None None = refl

  acts_same : (P : Plan) → agent_from P (acts one k) k ≡ agent_from P (acts two k) k
  acts_same P = ap (λ a. if k == 0 then agent.PnpManager (app.app_at P 0) else if is_app P k then agent.App (app.app_at P k) else a) (last_acts P (device_of_agent P k) (target_of_agent P k))

  pub begins_alike : bare_agent_of (dev.agent_at one k) ≡ bare_agent_of (dev.agent_at two k)
  begins_alike = begin_bare one k ∙ acts_same (bare_plan one) ∙ ap (λ P. agent_from P (acts two k) k) plans ∙ sym (begin_bare two k)

pub usual_picked : (one two : Plan) → bare_plan one ≡ bare_plan two → SameActions one two → (picks : List ℕ) (run : List Event) → IsPickedRun one agent_meaning picks run → HasLikePicked one two agent_meaning picks run
usual_picked one two plans actions picks run p = like_picked agent_meaning bare_agent_of unseen_by_all one two plans (begins_alike one two plans actions) picks run p

pub usual_run : (one two : Plan) → bare_plan one ≡ bare_plan two → SameActions one two → (run : List Event) → IsRunOf one agent_meaning run → HasLikeRun one two agent_meaning run
usual_run one two plans actions run p = like_run agent_meaning bare_agent_of unseen_by_all one two plans (begins_alike one two plans actions) run p
