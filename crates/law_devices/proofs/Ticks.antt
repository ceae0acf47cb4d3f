-- From where each action of a device has its tick, after one event more.
use Rattle.std.proofs.Common.{if◌then◌else◌, ◌≡◌, ◌≢◌, ◌⊎◌, inl, inr, ℕ, zero, suc, ◌<◌, ◌==◌, nat_lt, Bool, true, false, ◌&&◌, List, [], ◌∷◌, find, fold, map, Option, Some, None, option_map, slice_get, refl, sym, ap, ◌∙◌, subst, arith, eqb-true}
use Rattle.std.specs.Prelude.{unwrap_or}
use Rattle.std.specs.List.{filter_map}
use Rattle.std.proofs.lemmas.Option.{slice_get-map}
use Rattle.wdf_base.specs.Plan.{posts_of}
use Rattle.wdf_base.specs.Resolved.{IsResolved}
use Rattle.wdf_base.specs.Resolved as resolved
use Rattle.wdf_base.specs.Same.{same_access}
use Rattle.wdf_base.specs.declared.plan.Plan.{Plan}
use Rattle.wdf_base.specs.declared.ids.Cpu.{Cpu}
use Rattle.wdf_base.specs.declared.ids.Handle.{Handle}
use Rattle.wdf_base.specs.declared.declared.RegisterInfo.{RegisterInfo}
use Rattle.wdf_base.specs.declared.declared.WhenLine.{WhenLine}
use Rattle.wdf_base.specs.declared.event.Access.{Access}
use Rattle.wdf_base.specs.declared.event.Event.{Event}
use Rattle.wdf_base.specs.declared.event.Event.TheVariants as event
use Rattle.wdf_base.specs.declared.event.Post.{Post}
use Rattle.wdf_model.specs.declared.entries.DeviceAction.{DeviceAction}
use Rattle.wdf_model.specs.Tables.{tick_after}
use Rattle.wdf_model.specs.Plans.{device_of_register}
use Rattle.wdf_model.specs.agents.Device.{Device, accessed, act_on, among, at_action, delay_of, device_actions, device_after, due_action, first_done, has_register, is_due_at, own_register, posted_action, set_off, set_off_all, triggers, when_action}
use Rattle.wdf_model.specs.agents.Device as device
use Rattle.wdf_model.proofs.Counts.{equal}
use Rattle.wdf_model.proofs.Tests.{both_left, both_right}
use Rattle.law_machine_lives.proofs.Lists.{Each}
use Rattle.law_devices.specs.Posting.{is_post_of, triggers_line}
use Rattle.law_devices.proofs.Acts.{act_kept, once_kept, stored_kept}
use Rattle.law_devices.proofs.Opening.{AreAt, all_at}
use Rattle.law_devices.proofs.Steps.{IsPost, IsPostIf, Knows, is_on, same_if}

-- ---- lists

pub each_there : {T : Type 0} (P : T → Type 0) (xs : List T) (j : ℕ) (x : T) → Each P xs → slice_get xs j ≡ Some x → P x
each_there P [] j x each at = absurd (let z : ⊥ = cc in z)
each_there P (y ∷ ys) zero x each at = subst P (let same : y ≡ x = cc in same) each.0
each_there P (y ∷ ys) (suc j) x each at = each_there P ys j x each.1 at

-- the place of the first action that is due
abbrev pub due_place : ℕ → List DeviceAction → ℕ
due_place now [] = 0
due_place now (l ∷ ls) = if is_due_at now l.tick then 0 else suc (due_place now ls)

pub due_there : (now : ℕ) (ls : List DeviceAction) (l : DeviceAction) → find (λ m. is_due_at now m.tick) ls ≡ Some l → (slice_get ls (due_place now ls) ≡ Some l) × (is_due_at now l.tick ≡ true)
due_there now [] l h = absurd (let z : ⊥ = cc in z)
due_there now (m ∷ ms) l h = by (is_due_at now m.tick) refl (due_there now ms l)
  where
    by : (b : Bool) → is_due_at now m.tick ≡ b → (find (λ x. is_due_at now x.tick) ms ≡ Some l → (slice_get ms (due_place now ms) ≡ Some l) × (is_due_at now l.tick ≡ true))
        → (slice_get (m ∷ ms) (if b then 0 else suc (due_place now ms)) ≡ Some l) × (is_due_at now l.tick ≡ true)
    by true e rest =
        let found : Some m ≡ Some l = rw e at h in
        let same : m ≡ l = cc in
        (found, ap (λ (x : DeviceAction). is_due_at now x.tick) (sym same) ∙ e)
    by false e rest = rest (rw e at h)

-- no action before it is due
pub not_due_before : (now : ℕ) (ls : List DeviceAction) (j : ℕ) (l : DeviceAction) → j < due_place now ls → slice_get ls j ≡ Some l → is_due_at now l.tick ≡ false
not_due_before now [] j l low at = absurd (let z : ⊥ = cc in z)
not_due_before now (m ∷ ms) j l low at = by (is_due_at now m.tick) refl (not_due_before now ms) j low at
  where
    by : (b : Bool) → is_due_at now m.tick ≡ b → ((i : ℕ) (x : DeviceAction) → i < due_place now ms → slice_get ms i ≡ Some x → is_due_at now x.tick ≡ false)
        → (i : ℕ) → i < (if b then 0 else suc (due_place now ms)) → slice_get (m ∷ ms) i ≡ Some l → is_due_at now l.tick ≡ false
    by true e rest i less here = absurd (omega (arith, less))
    by false e rest zero less here = ap (λ (x : DeviceAction). is_due_at now x.tick) (let same : m ≡ l = cc in sym same) ∙ e
    by false e rest (suc i) less here = rest i l (omega (arith, less)) here

-- ---- from where an action has its tick

-- action j of the device after event e, by the device before
pub data From (k : ℕ) (h : Device) (e : Event) (j : ℕ) (l : DeviceAction) : Type 0 where
  -- as before: it isn't posted, and no access triggers it
  Still : slice_get h.actions j ≡ Some l → (is_post_of k e ≡ true → due_place h.clock h.actions ≢ j)
      → ((w : WhenLine) → l.trigger ≡ Some w → nat_lt 0 w.after ≡ true → triggers_line w e ≡ false) → From k h e j l
  -- an access triggers it
  SetOff : (m : DeviceAction) → slice_get h.actions j ≡ Some m → m.trigger ≡ l.trigger → m.action ≡ l.action → (w : WhenLine) → l.trigger ≡ Some w → nat_lt 0 w.after ≡ true → triggers_line w e ≡ true
      → l.tick ≡ Some (tick_after h.clock w.after) → From k h e j l
  -- it is posted
  Done : (m : DeviceAction) → slice_get h.actions j ≡ Some m → m.trigger ≡ l.trigger → m.action ≡ l.action → l.tick ≡ None → is_post_of k e ≡ true → due_place h.clock h.actions ≡ j → From k h e j l

-- an action as it was, or without its tick
abbrev WasOrDone : ℕ → List DeviceAction → ℕ → DeviceAction → Type 0
WasOrDone now ls j l = ((slice_get ls j ≡ Some l) × (due_place now ls ≢ j)) ⊎ ((m : DeviceAction) × (slice_get ls j ≡ Some m) × (m.trigger ≡ l.trigger) × (m.action ≡ l.action) × (l.tick ≡ None) × (due_place now ls ≡ j))

done_by : (now : ℕ) (m : DeviceAction) (ms : List DeviceAction) (b : Bool) → ((i : ℕ) (l : DeviceAction) → slice_get (first_done now ms) i ≡ Some l → WasOrDone now ms i l)
    → (j : ℕ) (l : DeviceAction) → slice_get (if b then device.without_tick m ∷ ms else m ∷ first_done now ms) j ≡ Some l
    → ((slice_get (m ∷ ms) j ≡ Some l) × ((if b then 0 else suc (due_place now ms)) ≢ j)) ⊎ ((x : DeviceAction) × (slice_get (m ∷ ms) j ≡ Some x) × (x.trigger ≡ l.trigger) × (x.action ≡ l.action) × (l.tick ≡ None) × ((if b then 0 else suc (due_place now ms)) ≡ j))
done_by now m ms true rest zero l at = let same : device.without_tick m ≡ l = cc in inr (m, refl, ap (λ (x : DeviceAction). x.trigger) same, ap (λ (x : DeviceAction). x.action) same, ap (λ (x : DeviceAction). x.tick) (sym same), refl)
done_by now m ms true rest (suc j) l at = inl (at, λ e. let z : ⊥ = omega (arith, e) in z)
done_by now m ms false rest zero l at = inl (at, λ e. let z : ⊥ = omega (arith, e) in z)
done_by now m ms false rest (suc j) l at = elim (rest j l at) [
  | inl s ↦ inl (s.0, λ e. s.1 (let same : due_place now ms ≡ j = omega (arith, e) in same))
  | inr d ↦ inr (d.0, d.1, d.2, d.3, d.4, ap suc d.5)
]

was_or_done : (now : ℕ) (ls : List DeviceAction) (j : ℕ) (l : DeviceAction) → slice_get (first_done now ls) j ≡ Some l → WasOrDone now ls j l
was_or_done now [] j l at = absurd (let z : ⊥ = cc in z)
was_or_done now (m ∷ ms) j l at = done_by now m ms (is_due_at now m.tick) (was_or_done now ms) j l at

-- ---- the device's own lines

-- an action has no `when` line, or one on a register of device d, and then no tick at the opening
abbrev pub IsFresh : Plan → ℕ → DeviceAction → Type 0
IsFresh plan d l = (l.trigger ≡ None) ⊎ ((w : WhenLine) × (l.trigger ≡ Some w) × (is_on plan d w ≡ true) × (l.tick ≡ None))

module _ (plan : Plan) (d : ℕ) where
  abbrev AllFresh : List DeviceAction → Type 0
  AllFresh ls = Each (IsFresh plan d) ls

  fresh_among : (l : DeviceAction) (ls : List DeviceAction) → IsFresh plan d l → AllFresh ls → AllFresh (among ls l)
  fresh_among l [] f all = (f, all)
  fresh_among l (m ∷ ms) f all = by (nat_lt l.line m.line) (fresh_among l ms f all.1)
    where
      by : (b : Bool) → AllFresh (among ms l) → AllFresh (if b then l ∷ m ∷ ms else m ∷ among ms l)
      by true rest = (f, all)
      by false rest = (all.0, rest)

  fresh_all : (ls start : List DeviceAction) → AreAt ls → AllFresh start → AllFresh (fold among start ls)
  fresh_all [] start at all = all
  fresh_all (l ∷ ls) start at all = fresh_all ls (among start l) at.1 (fresh_among l start (inl at.0) all)

  fresh_whens : (ws : List WhenLine) → AllFresh (filter_map (when_action plan d) ws)
  fresh_whens [] = tt
  fresh_whens (w ∷ ws) = by (is_on plan d w) refl (fresh_whens ws)
    where
      by : (b : Bool) → is_on plan d w ≡ b → AllFresh (filter_map (when_action plan d) ws) → AllFresh (filter_map (when_action plan d) (w ∷ ws))
      by true e rest = rw e (inr (w, refl, e, refl), rest)
      by false e rest = rw e rest

  pub all_fresh : (k : ℕ) → AllFresh (device_actions plan d k)
  all_fresh k = fresh_all (filter_map at_action (posts_of plan k)) (filter_map (when_action plan d) plan.whens) (all_at (posts_of plan k)) (fresh_whens plan.whens)

-- ---- one event

module _ (plan : Plan) (is_resolved : IsResolved plan) (d k : ℕ) (some : (d == 0) ≡ false) (es : List Event) (h : Device) (knows : Knows plan d k es h) (j : ℕ) (l : DeviceAction)
    (on : slice_get h.actions j ≡ Some l → (w : WhenLine) → l.trigger ≡ Some w → is_on plan d w ≡ true) where
  set_by : (cpu : Cpu) (a : Access) (r v : ℕ) (m : DeviceAction) (o : Option WhenLine) (b : Bool) → m.trigger ≡ o → (triggers a r m.trigger && nat_lt 0 (delay_of m.trigger)) ≡ b → slice_get h.actions j ≡ Some m
      → (if b then record m { tick = Some (tick_after h.clock (delay_of m.trigger)) } else m) ≡ l → From k h (event.Register cpu a r v) j l
  set_by cpu a r v m None true t e at same = absurd (let no : (triggers a r None && nat_lt 0 (delay_of None)) ≡ true = rw t at e in let z : ⊥ = cc in z)
  set_by cpu a r v m (Some w) true t e at same =
      let both : (same_access w.access a && w.register == r && nat_lt 0 w.after) ≡ true = rw t at e in
      SetOff m at (ap (λ (x : DeviceAction). x.trigger) same) (ap (λ (x : DeviceAction). x.action) same) w (ap (λ (x : DeviceAction). x.trigger) (sym same) ∙ t)
      (both_right (same_access w.access a && w.register == r) (nat_lt 0 w.after) both) (both_left (same_access w.access a && w.register == r) (nat_lt 0 w.after) both)
      (ap (λ (x : DeviceAction). x.tick) (sym same) ∙ ap (λ x. Some (tick_after h.clock (delay_of x))) t)
  set_by cpu a r v m o false t e at same = Still (at ∙ ap Some same) (λ y. absurd (let z : ⊥ = cc in z)) (λ w is late. quiet w (ap (λ (x : DeviceAction). x.trigger) same ∙ is) late (same_access w.access a && w.register == r) refl)
    where
      quiet : (w : WhenLine) → m.trigger ≡ Some w → nat_lt 0 w.after ≡ true → (b : Bool) → (same_access w.access a && w.register == r) ≡ b → b ≡ false
      quiet w is late true t2 =
          let yes : (triggers a r m.trigger && nat_lt 0 (delay_of m.trigger)) ≡ true = rw (is, t2, late) refl in
          absurd (let z : ⊥ = cc in z)
      quiet w is late false t2 = refl

  mapped : {T : Type 0} (f : T → T) (o : Option T) (y : T) → option_map f o ≡ Some y → (x : T) × (o ≡ Some x) × (f x ≡ y)
  mapped f None y h = absurd (let z : ⊥ = cc in z)
  mapped f (Some x) y h = (x, refl, (let same : f x ≡ y = cc in same))

  from_access : (cpu : Cpu) (a : Access) (r v : ℕ) (own : Bool) → has_register (own_register h r) ≡ own → slice_get (if own then accessed a r (device.stored a r v h) else h).actions j ≡ Some l → From k h (event.Register cpu a r v) j l
  from_access cpu a r v true own at =
      let g = device.stored a r v h in
      let s = stored_kept a r v h in
      let o = once_kept a r g.actions (set_off_all a r g) in
      let actions : (accessed a r g).actions ≡ map (set_off a r h.clock) h.actions = o.actions ∙ ap (λ now. map (set_off a r now) g.actions) s.clock ∙ ap (map (set_off a r h.clock)) s.actions in
      let there : option_map (set_off a r h.clock) (slice_get h.actions j) ≡ Some l = sym (slice_get-map (set_off a r h.clock) h.actions j) ∙ ap (λ ls. slice_get ls j) (sym actions) ∙ at in
      let m = mapped (set_off a r h.clock) (slice_get h.actions j) l there in
      set_by cpu a r v m.0 m.0.trigger (triggers a r m.0.trigger && nat_lt 0 (delay_of m.0.trigger)) refl refl m.1 m.2
  from_access cpu a r v false own at = Still at (λ y. absurd (let z : ⊥ = cc in z)) (λ w is late. quiet w is (same_access w.access a) (w.register == r) refl)
    where
      its : (o : Option RegisterInfo) → (unwrap_or (option_map (λ (x : RegisterInfo). x.device.0) o) 0 == d) ≡ true → option_map (λ (x : RegisterInfo). x.device.0) o ≡ Some d
      its None e = absurd (let same : 0 ≡ d = eqb-true 0 d e in let yes : (d == 0) ≡ true = equal d 0 (sym same) in let z : ⊥ = cc in z)
      its (Some x) e = ap Some (eqb-true x.device.0 d e)

      quiet : (w : WhenLine) → l.trigger ≡ Some w → (b c : Bool) → (w.register == r) ≡ c → (b && c) ≡ false
      quiet w is true true e =
          let here : (device_of_register plan r == d) ≡ true = ap (λ q. device_of_register plan q == d) (sym (eqb-true w.register r e)) ∙ on at w is in
          let yes : has_register (own_register h r) ≡ true = knows.owns r ∙ same_if (resolved.device_of_register plan r) d (its (slice_get plan.registers r) here) in
          absurd (let z : ⊥ = cc in z)
      quiet w is true false e = refl
      quiet w is false c e = refl

  from_post : (agent : ℕ) (p : Post) (answer : Option Handle) → IsPost plan is_resolved d k es h knows agent p → (b : Bool) → (agent == h.agent) ≡ b → slice_get (if b then posted_action h (due_action h) else h).actions j ≡ Some l → From k h (event.Posted agent p answer) j l
  from_post agent p answer is true e at =
      let due = is.0 (eqb-true agent h.agent e ∙ knows.number) in
      let g = record h { actions = first_done h.clock h.actions } in
      let there : slice_get (act_on g due.0.action).actions j ≡ Some l = ap (λ o. slice_get (posted_action h o).actions j) (sym due.1) ∙ at in
      let here : slice_get (first_done h.clock h.actions) j ≡ Some l = ap (λ ls. slice_get ls j) (sym (act_kept g due.0.action).actions) ∙ there in
      elim (was_or_done h.clock h.actions j l here) [
        | inl s ↦ Still s.0 (λ y. s.1) (λ w t late. refl)
        | inr m ↦ Done m.0 m.1 m.2 m.3 m.4 (ap (λ n. agent == n) (sym knows.number) ∙ e) m.5
      ]
  from_post agent p answer is false e at =
      Still at (λ y. let other : (agent == h.agent) ≡ true = ap (λ n. agent == n) knows.number ∙ y in absurd (let z : ⊥ = cc in z)) (λ w t late. refl)

  pub from_event : (e : Event) → IsPostIf plan is_resolved d k es h knows e → slice_get (device_after h e).actions j ≡ Some l → From k h e j l
  from_event (event.Register cpu a r v) is at = from_access cpu a r v (has_register (own_register h r)) refl at
  from_event (event.Posted agent p answer) is at = from_post agent p answer is (agent == h.agent) refl at
  from_event e is at = Still at (λ y. absurd (let z : ⊥ = cc in z)) (λ w t late. refl)
