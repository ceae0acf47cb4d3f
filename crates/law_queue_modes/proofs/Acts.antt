-- What the events tell of a queue's mode, and that each act on modes keeps it so.
use Rattle.std.proofs.Common.{if◌then◌else◌, ◌≡◌, ℕ, ◌==◌, Bool, true, false, ◌||◌, ◌⊎◌, List, [], ◌∷◌, ◌++◌, inl, inr, refl, sym, ap, ◌∙◌}
use Rattle.std.specs.List.{list_any}
use Rattle.std.proofs.lemmas.List.Sums.{fold-append}
use Rattle.std.proofs.lemmas.List.Folds.{list_any-append}
use Rattle.wdf_base.specs.declared.event.Event.{Event}
use Rattle.wdf_model.specs.declared.entries.QueueControl.{QueueControl}
use Rattle.wdf_model.specs.declared.enums.Mode.{Mode}
use Rattle.wdf_model.specs.declared.enums.Mode.TheVariants.{Started, Purged}
use Rattle.wdf_model.specs.Tables.{entry, put}
use Rattle.wdf_model.specs.parts.Control.{Control, control_of, is_closed, mode_of, no_control, set_mode, shut, shut_control, with_control}
use Rattle.wdf_model.proofs.Maps.{entry_map, entry_put_other, entry_put_same}
use Rattle.wdf_model.proofs.Counts.{equal, not_equal, one_or_two}
use Rattle.law_queue_modes.specs.Modes.{closes, last_mode, mode_by, mode_told}
use Rattle.law_queue_modes.proofs.Stays.{SameModes, control_elsewhere, control_here, equal_modes, its_device, its_mode, read_same}
use Rattle.std.proofs.Math.Bool.{or-false, or-true}

-- ---- one event more

closed_more : (d : ℕ) (es : List Event) (e : Event) → list_any (closes d) (es ++ e ∷ []) ≡ (list_any (closes d) es || closes d e)
closed_more d es e = list_any-append (closes d) es (e ∷ []) ∙ ap (λ b. list_any (closes d) es || b) (or-false (closes d e))

last_more : (q : ℕ) (es : List Event) (e : Event) → last_mode q (es ++ e ∷ []) ≡ mode_by q (last_mode q es) e
unfolding last_mode
last_more q es e = fold-append (mode_by q) Started es (e ∷ [])

told_more : (d q : ℕ) (es : List Event) (e : Event) (b : Bool) (m : Mode) → closes d e ≡ b → mode_by q (last_mode q es) e ≡ m
    → mode_told d q (es ++ e ∷ []) ≡ (if list_any (closes d) es || b then Purged else m)
told_more d q es e b m c k = rw (closed_more d es e, last_more q es e, c, k) refl

-- ---- a device that is closed

pub shut_by : (p : ℕ) (c : QueueControl) (b : Bool) → (c.device.0 == p) ≡ b → shut_control p c ≡ (if b then record c { mode = Purged } else c)
shut_by p c b h = rw h refl

shut_blank : (p : ℕ) (b : Bool) → (0 == p) ≡ b → shut_control p no_control ≡ no_control
shut_blank p true h = rw h refl
shut_blank p false h = rw h refl

pub shut_device : (p : ℕ) (c : QueueControl) (b : Bool) → (c.device.0 == p) ≡ b → (shut_control p c).device.0 ≡ c.device.0
shut_device p c true h = rw h refl
shut_device p c false h = rw h refl

pub shut_at : (C : Control) (p q : ℕ) → control_of (shut C p) q ≡ shut_control p (control_of C q)
shut_at C p q = entry_map no_control C.controls (shut_control p) q (shut_blank p (0 == p) refl)

-- ---- what is told of queue q of device d

pub record Told (C : Control) (d q : ℕ) (es : List Event) : Type 0 where
  pub device : (control_of C q).device.0 ≡ d
  pub closed : is_closed C d ≡ list_any (closes d) es
  pub mode : mode_of C q ≡ mode_told d q es

module _ (C : Control) (d q : ℕ) (es : List Event) (e : Event) (k : Told C d q es) where
  abbrev next : List Event
  next = es ++ e ∷ []

  abbrev last : Mode
  last = last_mode q es

  abbrev by_closing : Mode → Bool → Mode
  by_closing m b = if b then Purged else m

  -- an event that closes no device
  module _ (open_ : closes d e ≡ false) where
    still_closed : list_any (closes d) next ≡ list_any (closes d) es
    still_closed = closed_more d es e ∙ ap (λ b. list_any (closes d) es || b) open_ ∙ or-false (list_any (closes d) es)

    told_open : (m : Mode) → mode_by q last e ≡ m → mode_told d q next ≡ by_closing m (list_any (closes d) es)
    told_open m says = told_more d q es e false m open_ says ∙ ap (by_closing m) (or-false (list_any (closes d) es))

    -- and says nothing of the mode
    pub told_same : (D : Control) → SameModes C D → mode_by q last e ≡ last → Told D d q next
    told_same D s calm = record {
      device = s.device q ∙ k.device;
      closed = ap (λ xs. entry false xs d) s.closed ∙ k.closed ∙ sym still_closed;
      mode = s.mode q ∙ k.mode ∙ sym (told_open last calm);
    }

    -- a control call to queue p
    module _ (p : ℕ) (m : Mode) (says : mode_by q last e ≡ (if p == q then m else last)) where
      abbrev gives : QueueControl → QueueControl
      gives c = record c { mode = m }

      says_it : q ≡ p → mode_by q last e ≡ m
      says_it same = says ∙ ap (λ b. if b then m else last) (equal p q (sym same))

      says_other : (q ≡ p → ⊥) → mode_by q last e ≡ last
      says_other n = says ∙ ap (λ b. if b then m else last) (not_equal p q (λ x. n (sym x)))

      -- its device is closed, as the control says, and as the events do
      closed_as : q ≡ p → (b : Bool) → is_closed C (control_of C p).device.0 ≡ b → list_any (closes d) es ≡ b
      closed_as same b f = sym k.closed ∙ ap (is_closed C) (sym k.device ∙ ap (λ x. (control_of C x).device.0) same) ∙ f

      told_set_by : (b : Bool) → is_closed C (control_of C p).device.0 ≡ b → (q ≡ p) ⊎ (q ≡ p → ⊥) → Told (if b then C else with_control C p gives) d q next
      told_set_by true f (inl same) = record {
        device = k.device;
        closed = k.closed ∙ sym still_closed;
        mode = k.mode ∙ ap (by_closing last) (closed_as same true f) ∙ sym (told_open m (says_it same) ∙ ap (by_closing m) (closed_as same true f));
      }
      told_set_by true f (inr n) = told_same C (equal_modes C C refl) (says_other n)
      told_set_by false f (inl same) = record {
        device = read_same its_device C p gives (λ c. refl) q ∙ k.device;
        closed = k.closed ∙ sym still_closed;
        mode = ap (mode_of (with_control C p gives)) same ∙ ap its_mode (control_here C p gives) ∙ sym (told_open m (says_it same) ∙ ap (by_closing m) (closed_as same false f));
      }
      told_set_by false f (inr n) = record {
        device = ap its_device (control_elsewhere C p q gives n) ∙ k.device;
        closed = k.closed ∙ sym still_closed;
        mode = ap its_mode (control_elsewhere C p q gives n) ∙ k.mode ∙ sym (told_open last (says_other n));
      }

      pub told_set : Told (set_mode C p m) d q next
      told_set = told_set_by (is_closed C (control_of C p).device.0) refl (one_or_two q p)

  -- device p is closed
  module _ (p : ℕ) (calm : mode_by q last e ≡ last) where
    told_shut_by : (d ≡ p) ⊎ (d ≡ p → ⊥) → closes d e ≡ (p == d) → Told (shut C p) d q next
    told_shut_by (inl same) says =
        let is : closes d e ≡ true = says ∙ equal p d (sym same) in
        let its : ((control_of C q).device.0 == p) ≡ true = equal (control_of C q).device.0 p (k.device ∙ same) in
        record {
          device = ap its_device (shut_at C p q) ∙ shut_device p (control_of C q) true its ∙ k.device;
          closed = ap (entry false (put false C.closed p true)) same ∙ entry_put_same false C.closed p true ∙ sym (closed_more d es e ∙ ap (λ b. list_any (closes d) es || b) is ∙ or-true (list_any (closes d) es));
          mode = ap its_mode (shut_at C p q ∙ shut_by p (control_of C q) true its) ∙ sym (told_more d q es e true last is calm ∙ ap (by_closing last) (or-true (list_any (closes d) es)));
        }
    told_shut_by (inr n) says =
        let off : closes d e ≡ false = says ∙ not_equal p d (λ x. n (sym x)) in
        let other : ((control_of C q).device.0 == p) ≡ false = not_equal (control_of C q).device.0 p (λ x. n (sym k.device ∙ x)) in
        record {
          device = ap its_device (shut_at C p q) ∙ shut_device p (control_of C q) false other ∙ k.device;
          closed = entry_put_other false C.closed p d true n ∙ k.closed ∙ sym (still_closed off);
          mode = ap its_mode (shut_at C p q ∙ shut_by p (control_of C q) false other) ∙ k.mode ∙ sym (told_open off last calm);
        }

    pub told_shut : closes d e ≡ (p == d) → Told (shut C p) d q next
    told_shut = told_shut_by (one_or_two d p)
