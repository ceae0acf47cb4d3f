-- The actions of a device are acts of its own, whatever it hears.
use Rattle.std.proofs.Common.{if◌then◌else◌, ◌≡◌, ℕ, suc, ◌==◌, Bool, true, false, ◌&&◌, nat_lt, List, [], ◌∷◌, ◌-◌, map, fold, Option, Some, None, is_some, option_map, slice_get, refl, sym, ◌∙◌, subst, eqb-true}
use Rattle.std.specs.Prelude.{⊤}
use Rattle.std.specs.List.{cons_option, filter_map}
use Rattle.wdf_base.specs.Plan.{posts_of}
use Rattle.wdf_base.specs.Resolved.{IsResolved, action_fits, device_post, is_ticks, when_fits}
use Rattle.wdf_base.specs.Resolved as resolved
use Rattle.wdf_base.specs.declared.plan.Plan.{Plan}
use Rattle.wdf_base.specs.declared.declared.RegisterInfo.{RegisterInfo}
use Rattle.wdf_base.specs.declared.declared.WhenLine.{WhenLine}
use Rattle.wdf_base.specs.declared.event.Access.{Access}
use Rattle.wdf_base.specs.declared.event.Access.TheVariants as access
use Rattle.wdf_base.specs.declared.event.Action.{Action}
use Rattle.wdf_base.specs.declared.event.Action.TheVariants as action
use Rattle.wdf_base.specs.declared.event.Event.{Event}
use Rattle.wdf_base.specs.declared.event.Event.TheVariants as event
use Rattle.wdf_base.specs.declared.event.Post.{Post}
use Rattle.wdf_base.specs.declared.event.Post.TheVariants as post
use Rattle.wdf_model.specs.declared.entries.DeviceAction.{DeviceAction}
use Rattle.wdf_model.specs.Tables.{in_order_by}
use Rattle.wdf_model.specs.Plans.{declared_ids, device_of, device_of_agent, device_of_register, first_device_agent}
use Rattle.wdf_model.specs.agents.Device.{Device, accessed, act_on, among, at_action, at_once, delay_of, device_actions, device_after, due_action, first_done, has_register, is_due_at, own_register, posted_action, set_off, set_off_all, stored, triggers, when_action, with_register, without_tick}
use Rattle.wdf_model.proofs.Tests.{both_right, in_filter}
use Rattle.law_machine_lives.proofs.Lists.{Each, all_at}
use Rattle.law_at_rest.proofs.Lines.{device_lines}

-- ---- what an event changes of the actions are their ticks

module _ (P : Action → Type 0) where
  -- what each of them does is such an act
  abbrev pub AllSuch : List DeviceAction → Type 0
  AllSuch ls = Each (λ (l : DeviceAction). P l.action) ls

  either_such : (b : Bool) (x y : DeviceAction) → P x.action → P y.action → P (if b then x else y).action
  either_such true x y h k = h
  either_such false x y h k = k

  set_off_such : (a : Access) (k now : ℕ) (ls : List DeviceAction) → AllSuch ls → AllSuch (map (set_off a k now) ls)
  set_off_such a k now [] h = tt
  set_off_such a k now (l ∷ ls) h = (either_such (triggers a k l.trigger && nat_lt 0 (delay_of l.trigger)) _ l h.0 h.0, set_off_such a k now ls h.1)

  either_list : (b : Bool) (xs ys : List DeviceAction) → AllSuch xs → AllSuch ys → AllSuch (if b then xs else ys)
  either_list true xs ys h k = h
  either_list false xs ys h k = k

  first_done_such : (now : ℕ) (ls : List DeviceAction) → AllSuch ls → AllSuch (first_done now ls)
  first_done_such now [] h = tt
  first_done_such now (l ∷ ls) h = either_list (is_due_at now l.tick) (without_tick l ∷ ls) (l ∷ first_done now ls) (h.0, h.1) (h.0, first_done_such now ls h.1)

  in_order_such : (key : DeviceAction → ℕ) (l : DeviceAction) (ls : List DeviceAction) → P l.action → AllSuch ls → AllSuch (in_order_by key l ls)
  in_order_such key l [] h k = (h, tt)
  in_order_such key l (x ∷ xs) h k = either_list (nat_lt (key l) (key x)) (l ∷ x ∷ xs) (x ∷ in_order_by key l xs) (h, k) (k.0, in_order_such key l xs h k.1)

  all_among : (ls start : List DeviceAction) → AllSuch ls → AllSuch start → AllSuch (fold among start ls)
  all_among [] start h k = k
  all_among (l ∷ ls) start h k = all_among ls (among start l) h.1 (in_order_such (λ (m : DeviceAction). m.line) l start h.0 k)

  -- an action, where there is one
  abbrev SuchIf : Option DeviceAction → Type 0
  SuchIf None = ⊤
  SuchIf (Some l) = P l.action

  with_one : (o : Option DeviceAction) (ls : List DeviceAction) → SuchIf o → AllSuch ls → AllSuch (cons_option o ls)
  with_one None ls h k = k
  with_one (Some l) ls h k = (h, k)

  gathered : {X : Type 0} (f : X → Option DeviceAction) (xs : List X) → ((k : ℕ) (x : X) → slice_get xs k ≡ Some x → SuchIf (f x)) → AllSuch (filter_map f xs)
  gathered f [] h = tt
  gathered f (x ∷ xs) h = with_one (f x) (filter_map f xs) (h 0 x refl) (gathered f xs (λ k y at. h (suc k) y at))

-- ---- a device after an event

-- its number is as it was, and what its actions do
record Keeps (h k : Device) : Type 0 where
  number : k.agent ≡ h.agent
  actions : k.actions ≡ h.actions

kept : (h : Device) → Keeps h h
kept h = record { number = refl; actions = refl }

either_kept : (b : Bool) (h x y : Device) → Keeps h x → Keeps h y → Keeps h (if b then x else y)
either_kept true h x y k l = k
either_kept false h x y k l = l

then_kept : (h x y : Device) → Keeps h x → Keeps x y → Keeps h y
then_kept h x y k l = record { number = l.number ∙ k.number; actions = l.actions ∙ k.actions }

register_kept : (h : Device) (k v : ℕ) → Keeps h (with_register h k v)
register_kept h k v = either_kept (has_register (own_register h k)) h _ h (record { number = refl; actions = refl }) (kept h)

act_kept : (h : Device) (a : Action) → Keeps h (act_on h a)
act_kept h (action.Set k v) = register_kept h k v
act_kept h (action.Raise i) = record { number = refl; actions = refl }
act_kept h (action.Lower i) = record { number = refl; actions = refl }

once_kept : (a : Access) (k : ℕ) (h : Device) (l : DeviceAction) → Keeps h (at_once a k h l)
once_kept a k h l = either_kept (triggers a k l.trigger && delay_of l.trigger == 0) h (act_on h l.action) h (act_kept h l.action) (kept h)

all_kept : (a : Access) (k : ℕ) (ls : List DeviceAction) (h : Device) → Keeps h (fold (at_once a k) h ls)
all_kept a k [] h = kept h
all_kept a k (l ∷ ls) h = then_kept h (at_once a k h l) (fold (at_once a k) (at_once a k h l) ls) (once_kept a k h l) (all_kept a k ls (at_once a k h l))

stored_kept : (a : Access) (k v : ℕ) (h : Device) → Keeps h (stored a k v h)
stored_kept access.Read k v h = kept h
stored_kept access.Write k v h = register_kept h k v

-- a device with this number whose actions are such acts
pub record IsSuch (P : Action → Type 0) (agent : ℕ) (h : Device) : Type 0 where
  pub number : h.agent ≡ agent
  pub actions : AllSuch P h.actions

such_kept : (P : Action → Type 0) (agent : ℕ) (h k : Device) → Keeps h k → IsSuch P agent h → IsSuch P agent k
such_kept P agent h k same is = record { number = same.number ∙ is.number; actions = subst (AllSuch P) (sym same.actions) is.actions }

either_device : (P : Action → Type 0) (agent : ℕ) (b : Bool) (x y : Device) → IsSuch P agent x → IsSuch P agent y → IsSuch P agent (if b then x else y)
either_device P agent true x y h k = h
either_device P agent false x y h k = k

accessed_such : (P : Action → Type 0) (agent : ℕ) (a : Access) (k : ℕ) (h : Device) → IsSuch P agent h → IsSuch P agent (accessed a k h)
accessed_such P agent a k h is =
    such_kept P agent (set_off_all a k h) (accessed a k h) (all_kept a k h.actions (set_off_all a k h))
    (record { number = is.number; actions = set_off_such P a k h.clock h.actions is.actions })

posted_such : (P : Action → Type 0) (agent : ℕ) (h : Device) (o : Option DeviceAction) → IsSuch P agent h → IsSuch P agent (posted_action h o)
posted_such P agent h None is = is
posted_such P agent h (Some l) is =
    such_kept P agent (record h { actions = first_done h.clock h.actions }) (posted_action h (Some l)) (act_kept (record h { actions = first_done h.clock h.actions }) l.action)
    (record { number = is.number; actions = first_done_such P h.clock h.actions is.actions })

pub such_after : (P : Action → Type 0) (agent : ℕ) (h : Device) (e : Event) → IsSuch P agent h → IsSuch P agent (device_after h e)
such_after P agent h (event.Register cpu a k v) is =
    either_device P agent (has_register (own_register h k)) (accessed a k (stored a k v h)) h
    (accessed_such P agent a k (stored a k v h) (such_kept P agent h (stored a k v h) (stored_kept a k v h) is)) is
such_after P agent h (event.Posted k x answer) is = either_device P agent (k == h.agent) (posted_action h (due_action h)) h (posted_such P agent h (due_action h) is) is
such_after P agent h (event.Tick time) is = record { number = is.number; actions = is.actions }
such_after P agent h _ is = is

-- ---- a device as it begins

-- an act of this device
abbrev pub IsActOf : Plan → Option ℕ → Action → Type 0
IsActOf plan d a = action_fits plan d a ≡ true

module _ (plan : Plan) (is_resolved : IsResolved plan) (k d : ℕ) (own : device_of_agent plan k ≡ Some d) where
  there_by : (b : Bool) → nat_lt k (first_device_agent plan) ≡ b → is_some (device_of plan d) ≡ true
  there_by true e = absurd (let none : None ≡ Some d = rw e at own in let z : ⊥ = cc in z)
  there_by false e = in_filter (λ id. is_some (device_of plan id)) (declared_ids plan) (k - first_device_agent plan) d (rw e at own)

  -- a device has an id above 0
  not_zero : d ≡ 0 → ⊥
  not_zero e = let here = there_by (nat_lt k (first_device_agent plan)) refl in let none : is_some (device_of plan d) ≡ false = rw e refl in let z : ⊥ = cc in z

  when_by : (w : WhenLine) (r : Option RegisterInfo) → slice_get plan.registers w.register ≡ r → (device_of_register plan w.register == d) ≡ true → action_fits plan (resolved.device_of_register plan w.register) w.action ≡ true → IsActOf plan (Some d) w.action
  when_by w None at is fits = absurd (not_zero (sym (eqb-true 0 d (rw at at is))))
  when_by w (Some r) at is fits =
      let here : (r.device.0 == d) ≡ true = rw at at is in
      let said : action_fits plan (Some r.device.0) w.action ≡ true = subst (λ (o : Option RegisterInfo). action_fits plan (option_map (λ (x : RegisterInfo). x.device.0) o) w.action ≡ true) at fits in
      subst (λ x. action_fits plan (Some x) w.action ≡ true) (eqb-true r.device.0 d here) said

  when_such : (w : WhenLine) (b : Bool) → (device_of_register plan w.register == d) ≡ b → when_fits plan w ≡ true → SuchIf (IsActOf plan (Some d)) (when_action plan d w)
  when_such w true is fits =
      rw is (when_by w (slice_get plan.registers w.register) refl is (both_right (is_ticks w.after) (action_fits plan (resolved.device_of_register plan w.register) w.action) fits))
  when_such w false is fits = rw is tt

  at_such : (p : Post) (tick line : ℕ) → device_post plan d (record { tick = tick; post = p; line = line }) ≡ true → SuchIf (IsActOf plan (Some d)) (at_action (record { tick = tick; post = p; line = line }))
  at_such (post.Act a) tick line fits = both_right (is_ticks tick) (action_fits plan (Some d) a) fits
  at_such (post.Read x n) tick line fits = tt
  at_such (post.Write x n) tick line fits = tt
  at_such (post.Control x c n) tick line fits = tt
  at_such (post.Cancel j) tick line fits = tt
  at_such (post.Ask a x) tick line fits = tt
  at_such (post.Done r s) tick line fits = tt

  -- its actions are acts of its own
  pub begin_such : AllSuch (IsActOf plan (Some d)) (device_actions plan d k)
  begin_such =
      all_among (IsActOf plan (Some d)) (filter_map at_action (posts_of plan k)) (filter_map (when_action plan d) plan.whens)
      (gathered (IsActOf plan (Some d)) at_action (posts_of plan k)
      (λ j l at. at_such l.post l.tick l.line (all_at (device_post plan d) (posts_of plan k) j l (device_lines plan is_resolved k d own) at)))
      (gathered (IsActOf plan (Some d)) (when_action plan d) plan.whens
      (λ j w at. when_such w (device_of_register plan w.register == d) refl (all_at (when_fits plan) plan.whens j w is_resolved.whens_fit at)))
