-- What the words on a device and its interrupts say after one event more.
use Rattle.std.proofs.Common.{if◌then◌else◌, ◌≡◌, ℕ, Bool, true, false, not, ◌&&◌, ◌||◌, List, [], ◌∷◌, ◌++◌, fold, refl, ap, ◌∙◌}
use Rattle.std.proofs.lemmas.Grind.{fold-append}
use Rattle.std.proofs.Math.Bool.{or-false}
use Rattle.wdf_base.specs.declared.plan.Plan.{Plan}
use Rattle.wdf_base.specs.declared.call.Callback.TheVariants as callback
use Rattle.wdf_base.specs.declared.event.Event.{Event}
use Rattle.wdf_model.specs.Plans.{declares, device_of}
use Rattle.wdf_model.proofs.Tests.{both, both_left, both_right, first, second}
use Rattle.wdf_laws.specs.declared.sign.Moment.{Moment}
use Rattle.wdf_laws.specs.declared.sign.Sign.{Sign}
use Rattle.wdf_laws.specs.declared.sign.Sign.TheVariants as sign
use Rattle.wdf_laws.specs.Signs.{shows}
use Rattle.wdf_laws.specs.Words.{came_step, ever, moment_step, stands, stands_step, stood_at}
use Rattle.wdf_laws.specs.Laws.{is_enabled_in_power, is_entered, is_up_from_opening, went_up, works_at_opening}

-- ---- the words of lists

pub stands_next : (p q : Sign) (es : List Event) (e : Event) → stands p q (es ++ e ∷ []) ≡ (shows p e || (stands p q es && not (shows q e)))
unfolding stands
stands_next p q es e = fold-append (stands_step p q) false es (e ∷ [])

pub stands_yet : (p q : Sign) → stands p q [] ≡ false
unfolding stands
stands_yet p q = refl

came_next : (p : Sign) (es : List Event) (e : Event) → ever p (es ++ e ∷ []) ≡ (ever p es || shows p e)
unfolding ever
came_next p es e = fold-append (came_step p) false es (e ∷ [])

never_yet : (p : Sign) → ever p [] ≡ false
unfolding ever
never_yet p = refl

-- what holds now, of a moment
moment_now : (p a b : Sign) (es : List Event) (m : Moment) → (fold (moment_step p a b) m es).current ≡ fold (stands_step a b) m.current es
moment_now p a b [] m = refl
moment_now p a b (e ∷ es) m = moment_now p a b es (moment_step p a b m e)

pub stood_next : (p a b : Sign) (es : List Event) (e : Event) → stood_at p a b (es ++ e ∷ []) ≡ (if shows p e then stands a b es else stood_at p a b es)
unfolding stood_at stands
stood_next p a b es e =
    ap (λ (m : Moment). m.at) (fold-append (moment_step p a b) (record { current = false; at = false }) es (e ∷ []))
    ∙ ap (λ c. if shows p e then c else (fold (moment_step p a b) (record { current = false; at = false }) es).at) (moment_now p a b es (record { current = false; at = false }))

-- ---- one sign

-- it holds, and what ends it doesn't come
pub stays : (p q : Sign) (es : List Event) (e : Event) → shows q e ≡ false → stands p q es ≡ true → stands p q (es ++ e ∷ []) ≡ true
stays p q es e n h = stands_next p q es e ∙ second (shows p e) (stands p q es && not (shows q e)) (rw (h, n) refl)

-- it comes
pub comes : (p q : Sign) (es : List Event) (e : Event) → shows p e ≡ true → stands p q (es ++ e ∷ []) ≡ true
comes p q es e s = stands_next p q es e ∙ first (shows p e) (stands p q es && not (shows q e)) s

stood_stays : (p a b : Sign) (es : List Event) (e : Event) → shows p e ≡ false → stood_at p a b (es ++ e ∷ []) ≡ stood_at p a b es
stood_stays p a b es e n = stood_next p a b es e ∙ rw n refl

stood_comes : (p a b : Sign) (es : List Event) (e : Event) → shows p e ≡ true → stood_at p a b (es ++ e ∷ []) ≡ stands a b es
stood_comes p a b es e s = stood_next p a b es e ∙ rw s refl

never : (p : Sign) (es : List Event) (e : Event) → shows p e ≡ false → ever p (es ++ e ∷ []) ≡ ever p es
never p es e n = came_next p es e ∙ rw n (or-false (ever p es))

-- ---- the words of a device and an interrupt

pub or_more : (a b c : Bool) → (b ≡ true → c ≡ true) → (a || b) ≡ true → (a || c) ≡ true
or_more true b c h k = refl
or_more false b c h k = h k

-- the queues of the device have power
abbrev pub powered : Plan → List Event → ℕ → Bool
powered plan es d = went_up plan es d || is_up_from_opening plan es d

module _ (plan : Plan) (d : ℕ) (es : List Event) (e : Event) where
  pub entered_stays : shows (sign.NotEntered d) e ≡ false → is_entered plan es d ≡ true → is_entered plan (es ++ e ∷ []) d ≡ true
  entered_stays n h = or_more (not (declares plan callback.EvtDeviceD0Entry d)) (stands (sign.Entered d) (sign.NotEntered d) es) (stands (sign.Entered d) (sign.NotEntered d) (es ++ e ∷ [])) (stays (sign.Entered d) (sign.NotEntered d) es e n) h

  pub entered_comes : shows (sign.Entered d) e ≡ true → is_entered plan (es ++ e ∷ []) d ≡ true
  entered_comes s = second (not (declares plan callback.EvtDeviceD0Entry d)) (stands (sign.Entered d) (sign.NotEntered d) (es ++ e ∷ [])) (comes (sign.Entered d) (sign.NotEntered d) es e s)

  pub enabled_stays : (i : ℕ) → shows (sign.Enabled i) e ≡ false → shows (sign.ExitBegins d) e ≡ false → is_enabled_in_power plan es i d ≡ true → is_enabled_in_power plan (es ++ e ∷ []) i d ≡ true
  enabled_stays i n x h =
      let a : Bool = stands (sign.Enabled i) (sign.ExitBegins d) es in
      let b : Bool = not (declares plan callback.EvtDeviceD0Entry d) || stood_at (sign.Enabled i) (sign.Entered d) (sign.NotEntered d) es in
      both (stands (sign.Enabled i) (sign.ExitBegins d) (es ++ e ∷ [])) (not (declares plan callback.EvtDeviceD0Entry d) || stood_at (sign.Enabled i) (sign.Entered d) (sign.NotEntered d) (es ++ e ∷ []))
      (stays (sign.Enabled i) (sign.ExitBegins d) es e x (both_left a b h))
      (ap (λ y. not (declares plan callback.EvtDeviceD0Entry d) || y) (stood_stays (sign.Enabled i) (sign.Entered d) (sign.NotEntered d) es e n) ∙ both_right a b h)

  pub enabled_comes : (i : ℕ) → shows (sign.Enabled i) e ≡ true → is_entered plan es d ≡ true → is_enabled_in_power plan (es ++ e ∷ []) i d ≡ true
  enabled_comes i s h =
      both (stands (sign.Enabled i) (sign.ExitBegins d) (es ++ e ∷ [])) (not (declares plan callback.EvtDeviceD0Entry d) || stood_at (sign.Enabled i) (sign.Entered d) (sign.NotEntered d) (es ++ e ∷ []))
      (comes (sign.Enabled i) (sign.ExitBegins d) es e s)
      (ap (λ y. not (declares plan callback.EvtDeviceD0Entry d) || y) (stood_comes (sign.Enabled i) (sign.Entered d) (sign.NotEntered d) es e s) ∙ h)

  pub power_comes : shows (sign.QueuesUp d) e ≡ true → is_entered plan es d ≡ true → powered plan (es ++ e ∷ []) d ≡ true
  power_comes s h =
      first (went_up plan (es ++ e ∷ []) d) (is_up_from_opening plan (es ++ e ∷ []) d)
      (both (stands (sign.QueuesUp d) (sign.QueuesDown d) (es ++ e ∷ []) && stands (sign.QueuesUp d) (sign.ExitBegins d) (es ++ e ∷ [])) (not (declares plan callback.EvtDeviceD0Entry d) || stood_at (sign.QueuesUp d) (sign.Entered d) (sign.NotEntered d) (es ++ e ∷ []))
      (both (stands (sign.QueuesUp d) (sign.QueuesDown d) (es ++ e ∷ [])) (stands (sign.QueuesUp d) (sign.ExitBegins d) (es ++ e ∷ [])) (comes (sign.QueuesUp d) (sign.QueuesDown d) es e s) (comes (sign.QueuesUp d) (sign.ExitBegins d) es e s))
      (ap (λ y. not (declares plan callback.EvtDeviceD0Entry d) || y) (stood_comes (sign.QueuesUp d) (sign.Entered d) (sign.NotEntered d) es e s) ∙ h))

  module _ (up : shows (sign.QueuesUp d) e ≡ false) (down : shows (sign.QueuesDown d) e ≡ false) (exit : shows (sign.ExitBegins d) e ≡ false) where
    went_stays : went_up plan es d ≡ true → went_up plan (es ++ e ∷ []) d ≡ true
    went_stays h =
        let a : Bool = stands (sign.QueuesUp d) (sign.QueuesDown d) es in
        let b : Bool = stands (sign.QueuesUp d) (sign.ExitBegins d) es in
        let c : Bool = not (declares plan callback.EvtDeviceD0Entry d) || stood_at (sign.QueuesUp d) (sign.Entered d) (sign.NotEntered d) es in
        let ab : (a && b) ≡ true = both_left (a && b) c h in
        both (stands (sign.QueuesUp d) (sign.QueuesDown d) (es ++ e ∷ []) && stands (sign.QueuesUp d) (sign.ExitBegins d) (es ++ e ∷ [])) (not (declares plan callback.EvtDeviceD0Entry d) || stood_at (sign.QueuesUp d) (sign.Entered d) (sign.NotEntered d) (es ++ e ∷ []))
        (both (stands (sign.QueuesUp d) (sign.QueuesDown d) (es ++ e ∷ [])) (stands (sign.QueuesUp d) (sign.ExitBegins d) (es ++ e ∷ [])) (stays (sign.QueuesUp d) (sign.QueuesDown d) es e down (both_left a b ab)) (stays (sign.QueuesUp d) (sign.ExitBegins d) es e exit (both_right a b ab)))
        (ap (λ y. not (declares plan callback.EvtDeviceD0Entry d) || y) (stood_stays (sign.QueuesUp d) (sign.Entered d) (sign.NotEntered d) es e up) ∙ both_right (a && b) c h)

    opening_stays : is_up_from_opening plan (es ++ e ∷ []) d ≡ is_up_from_opening plan es d
    opening_stays = rw (never (sign.QueuesUp d) es e up, never (sign.QueuesDown d) es e down, never (sign.ExitBegins d) es e exit) refl

    pub power_stays : powered plan es d ≡ true → powered plan (es ++ e ∷ []) d ≡ true
    power_stays h = by_first (went_up plan es d) (is_up_from_opening plan es d) (went_up plan (es ++ e ∷ []) d) (is_up_from_opening plan (es ++ e ∷ []) d) went_stays opening_stays h
      where
        by_first : (a b c f : Bool) → (a ≡ true → c ≡ true) → f ≡ b → (a || b) ≡ true → (c || f) ≡ true
        by_first true b c f h e k = first c f (h refl)
        by_first false b c f h e k = second c f (e ∙ k)

pub powered_yet : (plan : Plan) (d : ℕ) → works_at_opening (device_of plan d) ≡ true → powered plan [] d ≡ true
powered_yet plan d h = second (went_up plan [] d) (is_up_from_opening plan [] d) (rw (never_yet (sign.QueuesUp d), never_yet (sign.QueuesDown d), never_yet (sign.ExitBegins d), h) refl)
