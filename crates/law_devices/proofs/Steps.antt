-- A device after one event more shows what the events tell.
use Rattle.std.proofs.Common.{if◌then◌else◌, ◌≡◌, ◌≢◌, ℕ, ◌==◌, nat_lt, Bool, true, false, ◌&&◌, List, [], ◌∷◌, ◌++◌, map, filter, fold, Option, Some, None, refl, sym, ap, ◌∙◌, subst, eqb-true}
use Rattle.std.specs.Prelude.{⊤, unwrap_or, is_some}
use Rattle.std.specs.List.{cons_option, filter_map, list_all}
use Rattle.std.proofs.lemmas.List.Sums.{fold-append}
use Rattle.wdf_base.specs.Plan.{declared_of}
use Rattle.wdf_base.specs.Resolved.{IsResolved, action_fits, is_handle, is_ticks, when_fits}
use Rattle.wdf_base.specs.Resolved as resolved
use Rattle.wdf_base.specs.Same.{same_access, same_option}
use Rattle.wdf_base.specs.declared.plan.Plan.{Plan}
use Rattle.wdf_base.specs.declared.ids.Cpu.{Cpu}
use Rattle.wdf_base.specs.declared.ids.Handle.{Handle}
use Rattle.wdf_base.specs.declared.object.Kind.TheVariants as kind
use Rattle.wdf_base.specs.declared.declared.WhenLine.{WhenLine}
use Rattle.wdf_base.specs.declared.event.Access.{Access}
use Rattle.wdf_base.specs.declared.event.Access.TheVariants as access
use Rattle.wdf_base.specs.declared.event.Action.{Action}
use Rattle.wdf_base.specs.declared.event.Action.TheVariants as action
use Rattle.wdf_base.specs.declared.event.Event.{Event}
use Rattle.wdf_base.specs.declared.event.Event.TheVariants as event
use Rattle.wdf_base.specs.declared.event.Post.{Post}
use Rattle.wdf_base.specs.declared.event.Post.TheVariants as post
use Rattle.wdf_model.specs.declared.entries.DeviceAction.{DeviceAction}
use Rattle.wdf_model.specs.Plans.{device_of_agent, device_of_register}
use Rattle.wdf_model.specs.agents.Device.{Device, accessed, delay_of, device_after, due_action, first_done, has_register, is_due_at, own_register, posted_action, set_off, set_off_all, triggers, without_tick}
use Rattle.wdf_model.specs.agents.Device as device
use Rattle.wdf_model.proofs.Counts.{equal}
use Rattle.wdf_model.proofs.Tests.{both_left, both_right, itself}
use Rattle.law_idle.specs.Idling.{time_after, time_step}
use Rattle.law_devices.specs.Shown.{Shown, Register, Line, acted, first_value, given, set_at_once, stored, value_by, value_told}
use Rattle.law_devices.proofs.Acts.{Has, act_held, act_kept, has_still, held, line_of, once_held, once_kept, stored_held, stored_kept}
use Rattle.law_machine_lives.proofs.Lists.{some_number}
use Rattle.law_idle.proofs.Since.{time_more}

-- the device that shows it
abbrev pub shower : Plan → Shown → Option ℕ
shower plan (Register k) = resolved.device_of_register plan k
shower plan (Line i) = resolved.device_of_interrupt (declared_of plan i)

-- a register is one of this device
abbrev pub is_its : Plan → ℕ → ℕ → Bool
is_its plan d k = same_option ◌==◌ (resolved.device_of_register plan k) (Some d)

-- a `when` line is on a register of this device
abbrev pub is_on : Plan → ℕ → WhenLine → Bool
is_on plan d w = device_of_register plan w.register == d

-- what is known of device d, whose agent has this number, after these events
pub record Knows (plan : Plan) (d k : ℕ) (es : List Event) (h : Device) : Type 0 where
  pub number : h.agent ≡ k
  pub clock : h.clock ≡ time_after es
  pub owns : (r : ℕ) → has_register (own_register h r) ≡ is_its plan d r
  pub lines : filter_map line_of h.actions ≡ filter (is_on plan d) plan.whens
  pub values : (x : Shown) → shower plan x ≡ Some d → held h x ≡ value_told plan x es

told_more : (plan : Plan) (x : Shown) (es : List Event) (e : Event) → value_told plan x (es ++ e ∷ []) ≡ value_by plan x (value_told plan x es) e
unfolding value_told
told_more plan x es e = fold-append (value_by plan x) (first_value plan x) es (e ∷ [])

-- ---- lists of actions

gathered_same : {T U : Type 0} (f : T → Option U) (g : T → T) → ((x : T) → f (g x) ≡ f x) → (xs : List T) → filter_map f (map g xs) ≡ filter_map f xs
gathered_same f g same [] = refl
gathered_same f g same (x ∷ xs) = rw (same x, gathered_same f g same xs) refl

either_line : (b : Bool) (t : Option ℕ) (l : DeviceAction) → line_of (if b then record l { tick = t } else l) ≡ line_of l
either_line true t l = refl
either_line false t l = refl

done_lines : (now : ℕ) (ls : List DeviceAction) → filter_map line_of (first_done now ls) ≡ filter_map line_of ls
done_lines now [] = refl
done_lines now (l ∷ ls) = by (is_due_at now l.tick) (done_lines now ls)
  where
    by : (b : Bool) → filter_map line_of (first_done now ls) ≡ filter_map line_of ls → filter_map line_of (if b then without_tick l ∷ ls else l ∷ first_done now ls) ≡ filter_map line_of (l ∷ ls)
    by true rest = refl
    by false rest = ap (cons_option (line_of l)) rest

off_lines : (a : Access) (r now : ℕ) (ls : List DeviceAction) → filter_map line_of (map (set_off a r now) ls) ≡ filter_map line_of ls
off_lines a r now ls = gathered_same line_of (set_off a r now) (λ l. either_line (triggers a r l.trigger && nat_lt 0 (delay_of l.trigger)) _ l) ls

-- ---- what an action is about

pub same_if : (o : Option ℕ) (d : ℕ) → o ≡ Some d → same_option ◌==◌ o (Some d) ≡ true
same_if o d h = rw h (itself d)

-- an action of another device gives it nothing
module _ (plan : Plan) (d : ℕ) (by : Option ℕ) (other : by ≢ Some d) where
  same_device : (o : Option ℕ) → same_option ◌==◌ o by ≡ true → o ≡ Some d → ⊥
  same_device (Some x) h e = elsewhere by other h e
    where
      elsewhere : (b : Option ℕ) → b ≢ Some d → same_option ◌==◌ (Some x) b ≡ true → Some x ≡ Some d → ⊥
      elsewhere None unlike h e = let z : ⊥ = cc in z
      elsewhere (Some y) unlike h e = unlike (ap Some (sym (eqb-true x y h)) ∙ e)
  same_device None h e = let z : ⊥ = cc in z

  apart : (k r : ℕ) (b : Bool) (v : ℕ) → (k == r) ≡ b → (k ≡ r → ⊥) → (if b then Some v else None) ≡ None
  apart k r true v e never = absurd (never (eqb-true k r e))
  apart k r false v e never = refl

  not_given : (x : Shown) (a : Action) → action_fits plan by a ≡ true → shower plan x ≡ Some d → given x a ≡ None
  not_given (Register k) (action.Set r v) fits is = apart k r (k == r) v refl (λ e. same_device (resolved.device_of_register plan r) (both_right (is_some by) (same_option ◌==◌ (resolved.device_of_register plan r) by) fits) (ap (resolved.device_of_register plan) (sym e) ∙ is))
  not_given (Register k) (action.Raise j) fits is = refl
  not_given (Register k) (action.Lower j) fits is = refl
  not_given (Line i) (action.Set r v) fits is = refl
  not_given (Line i) (action.Raise j) fits is = apart i j.id.0 (i == j.id.0) 1 refl (λ e. same_device (resolved.device_of_interrupt (declared_of plan j.id.0)) (both_right (is_handle plan kind.Interrupt j) _ fits) (ap (λ n. resolved.device_of_interrupt (declared_of plan n)) (sym e) ∙ is))
  not_given (Line i) (action.Lower j) fits is = apart i j.id.0 (i == j.id.0) 0 refl (λ e. same_device (resolved.device_of_interrupt (declared_of plan j.id.0)) (both_right (is_handle plan kind.Interrupt j) _ fits) (ap (λ n. resolved.device_of_interrupt (declared_of plan n)) (sym e) ∙ is))

  pub leaves : (x : Shown) (before : ℕ) (a : Action) → action_fits plan by a ≡ true → shower plan x ≡ Some d → acted x before a ≡ before
  leaves x before a fits is = rw (not_given x a fits is) refl

-- ---- accesses

module _ (plan : Plan) (d : ℕ) (x : Shown) (a : Access) (r : ℕ) where
  own_number : resolved.device_of_register plan r ≡ Some d → device_of_register plan r ≡ d
  own_number own = ap (λ o. unwrap_or o 0) own

  -- of the lines without a delay only those of the register's device count
  own_lines : (own : resolved.device_of_register plan r ≡ Some d) (ws : List WhenLine) (v : ℕ) → fold (set_at_once x a r) v (filter (is_on plan d) ws) ≡ fold (set_at_once x a r) v ws
  own_lines own [] v = refl
  own_lines own (w ∷ ws) v = by (is_on plan d w) (w.register == r) refl refl (own_lines own ws)
    where
      skip : (b : Bool) → ((u : ℕ) → fold (set_at_once x a r) u (filter (is_on plan d) ws) ≡ fold (set_at_once x a r) u ws)
          → fold (set_at_once x a r) v (filter (is_on plan d) ws) ≡ fold (set_at_once x a r) (if b && false && w.after == 0 then acted x v w.action else v) ws
      skip true rest = rest v
      skip false rest = rest v

      by : (b c : Bool) → is_on plan d w ≡ b → (w.register == r) ≡ c → ((u : ℕ) → fold (set_at_once x a r) u (filter (is_on plan d) ws) ≡ fold (set_at_once x a r) u ws)
          → fold (set_at_once x a r) v (filter (is_on plan d) (w ∷ ws)) ≡ fold (set_at_once x a r) v (w ∷ ws)
      by true c e f rest = rw e (rest (set_at_once x a r v w))
      by false true e f rest =
          let same : w.register ≡ r = eqb-true w.register r f in
          let on : is_on plan d w ≡ true = rw (same, own_number own) (itself d) in
          absurd (let z : ⊥ = cc in z)
      by false false e f rest = rw (e, f) (skip (same_access w.access a) rest)

  -- an access to a register of another device changes nothing of it
  module _ (is : shower plan x ≡ Some d) (other : resolved.device_of_register plan r ≢ Some d) where
    other_line : (w : WhenLine) (v : ℕ) → when_fits plan w ≡ true → set_at_once x a r v w ≡ v
    other_line w v fits = by (same_access w.access a) (w.register == r) (w.after == 0) refl
      where
        by : (b c e : Bool) → (w.register == r) ≡ c → (if b && c && e then acted x v w.action else v) ≡ v
        by true true true f =
            let same : w.register ≡ r = eqb-true w.register r f in
            let its : action_fits plan (resolved.device_of_register plan w.register) w.action ≡ true = both_right (is_ticks w.after) _ fits in
            leaves plan d (resolved.device_of_register plan r) other x v w.action (subst (λ n. action_fits plan (resolved.device_of_register plan n) w.action ≡ true) same its) is
        by true true false f = refl
        by true false e f = refl
        by false c e f = refl

    other_lines : (ws : List WhenLine) (v : ℕ) → list_all (when_fits plan) ws ≡ true → fold (set_at_once x a r) v ws ≡ v
    other_lines [] v fits = refl
    other_lines (w ∷ ws) v fits =
        ap (λ u. fold (set_at_once x a r) u ws) (other_line w v (both_left (when_fits plan w) _ fits)) ∙ other_lines ws v (both_right (when_fits plan w) _ fits)

    other_stored : (n v : ℕ) → stored x a r n v ≡ v
    other_stored n v = by x a is
      where
        by : (y : Shown) (c : Access) → shower plan y ≡ Some d → stored y c r n v ≡ v
        by (Register k) access.Write s = at (k == r) refl
          where
            at : (b : Bool) → (k == r) ≡ b → (if b then n else v) ≡ v
            at true e = absurd (other (ap (resolved.device_of_register plan) (sym (eqb-true k r e)) ∙ s))
            at false e = refl
        by (Register k) access.Read s = refl
        by (Line i) access.Write s = refl
        by (Line i) access.Read s = refl

-- ---- an event

module _ (plan : Plan) (is_resolved : IsResolved plan) (d k : ℕ) (es : List Event) (h : Device) (knows : Knows plan d k es h) where
  -- it has what it shows
  has_own : (x : Shown) → shower plan x ≡ Some d → Has h x
  has_own (Register r) is = knows.owns r ∙ same_if (resolved.device_of_register plan r) d is
  has_own (Line i) is = tt

  -- an event that tells nothing of it
  stays : (e : Event) → time_step (time_after es) e ≡ time_after es → ((x : Shown) → shower plan x ≡ Some d → value_by plan x (value_told plan x es) e ≡ value_told plan x es) → Knows plan d k (es ++ e ∷ []) h
  stays e still calm = record { number = knows.number; clock = knows.clock ∙ sym still ∙ sym (time_more es e); owns = knows.owns; lines = knows.lines; values = λ x is. knows.values x is ∙ sym (calm x is) ∙ sym (told_more plan x es e) }

  accessed_knows : (cpu : Cpu) (a : Access) (r v : ℕ) (own : Bool) → has_register (own_register h r) ≡ own → Knows plan d k (es ++ event.Register cpu a r v ∷ []) (if own then accessed a r (device.stored a r v h) else h)
  accessed_knows cpu a r v true own =
      let g = device.stored a r v h in
      let s = stored_kept a r v h in
      let off = set_off_all a r g in
      let o = once_kept a r g.actions off in
      let its : resolved.device_of_register plan r ≡ Some d = some_number (resolved.device_of_register plan r) d (sym (knows.owns r) ∙ own) in
      let same : filter_map line_of g.actions ≡ filter (is_on plan d) plan.whens = ap (filter_map line_of) s.actions ∙ knows.lines in
      record {
        number = o.number ∙ s.number ∙ knows.number;
        clock = o.clock ∙ s.clock ∙ knows.clock ∙ sym (time_more es (event.Register cpu a r v));
        owns = λ q. o.owns q ∙ s.owns q ∙ knows.owns q;
        lines = ap (filter_map line_of) o.actions ∙ off_lines a r g.clock g.actions ∙ same;
        values = λ x is.
            once_held a r x g.actions off (has_still h g x s (has_own x is))
            ∙ ap (λ ws. fold (set_at_once x a r) (held g x) ws) same
            ∙ own_lines plan d x a r its plan.whens (held g x)
            ∙ ap (λ n. fold (set_at_once x a r) n plan.whens) (stored_held a r v h x (has_own x is) ∙ ap (stored x a r v) (knows.values x is))
            ∙ sym (told_more plan x es (event.Register cpu a r v));
      }
  accessed_knows cpu a r v false own =
      let other : resolved.device_of_register plan r ≢ Some d = λ is. let yes : has_register (own_register h r) ≡ true = knows.owns r ∙ same_if (resolved.device_of_register plan r) d is in let z : ⊥ = cc in z in
      stays (event.Register cpu a r v) refl (λ x is.
      ap (λ n. fold (set_at_once x a r) n plan.whens) (other_stored plan d x a r is other v (value_told plan x es)) ∙ other_lines plan d x a r is other plan.whens (value_told plan x es) is_resolved.whens_fit)

  -- what is so of a post: the device's own is its first action that is due, and another agent's is of another device
  abbrev pub IsPost : ℕ → Post → Type 0
  IsPost agent p = (agent ≡ k → (l : DeviceAction) × (due_action h ≡ Some l) × (p ≡ post.Act l.action))
      × ((a : Action) → p ≡ post.Act a → (action_fits plan (device_of_agent plan agent) a ≡ true) × (agent ≢ k → device_of_agent plan agent ≢ Some d))

  acts_knows : (agent : ℕ) (answer : Option Handle) (l : DeviceAction) → Knows plan d k (es ++ event.Posted agent (post.Act l.action) answer ∷ []) (posted_action h (Some l))
  acts_knows agent answer l =
      let g = record h { actions = first_done h.clock h.actions } in
      let kept = act_kept g l.action in
      record {
        number = kept.number ∙ knows.number;
        clock = kept.clock ∙ knows.clock ∙ sym (time_more es (event.Posted agent (post.Act l.action) answer));
        owns = λ q. kept.owns q ∙ knows.owns q;
        lines = ap (filter_map line_of) kept.actions ∙ done_lines h.clock h.actions ∙ knows.lines;
        values = λ x is. act_held g x l.action (has_own_done x is) ∙ ap (λ n. acted x n l.action) (knows.values x is) ∙ sym (told_more plan x es (event.Posted agent (post.Act l.action) answer));
      }
    where
      has_own_done : (x : Shown) → shower plan x ≡ Some d → Has (record h { actions = first_done h.clock h.actions }) x
      has_own_done (Register r) is = has_own (Register r) is
      has_own_done (Line i) is = tt

  posted_knows : (agent : ℕ) (p : Post) (answer : Option Handle) → IsPost agent p → (b : Bool) → (agent == h.agent) ≡ b → Knows plan d k (es ++ event.Posted agent p answer ∷ []) (if b then posted_action h (due_action h) else h)
  posted_knows agent p answer is true e =
      let due = is.0 (eqb-true agent h.agent e ∙ knows.number) in
      rw (due.1, due.2) (acts_knows agent answer due.0)
  posted_knows agent p answer is false e = stays (event.Posted agent p answer) refl (by_post p is.1)
    where
      by_post : (q : Post) → ((a : Action) → q ≡ post.Act a → (action_fits plan (device_of_agent plan agent) a ≡ true) × (agent ≢ k → device_of_agent plan agent ≢ Some d))
          → (x : Shown) → shower plan x ≡ Some d → value_by plan x (value_told plan x es) (event.Posted agent q answer) ≡ value_told plan x es
      by_post (post.Act a) fits x s =
          let other : agent ≢ k = λ same. let yes : (agent == h.agent) ≡ true = equal agent h.agent (same ∙ sym knows.number) in let z : ⊥ = cc in z in
          let f = fits a refl in
          leaves plan d (device_of_agent plan agent) (f.1 other) x (value_told plan x es) a f.0 s
      by_post _ fits x s = refl

  -- a post of any agent is such a one
  abbrev pub IsPostIf : Event → Type 0
  IsPostIf (event.Posted agent p answer) = IsPost agent p
  IsPostIf _ = ⊤

  pub knows_more : (e : Event) → IsPostIf e → Knows plan d k (es ++ e ∷ []) (device_after h e)
  knows_more (event.Register cpu a r v) is = accessed_knows cpu a r v (has_register (own_register h r)) refl
  knows_more (event.Posted agent p answer) is = posted_knows agent p answer is (agent == h.agent) refl
  knows_more (event.Tick time) is = record { number = knows.number; clock = sym (time_more es (event.Tick time)); owns = knows.owns; lines = knows.lines; values = λ x s. knows.values x s ∙ sym (told_more plan x es (event.Tick time)) }
  knows_more e is = stays e refl (λ x s. refl)
