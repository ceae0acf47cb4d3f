-- The first request that is due of those that a target keeps, by the events: its send, what came since, and that none is due of
-- those that were sent earlier.
use Rattle.std.proofs.Common.{if◌then◌else◌, ◌≡◌, ℕ, suc, ◌+◌, ◌<◌, Bool, true, false, nat_le, List, [], ◌∷◌, ◌++◌, find, fold, length, Option, Some, None, refl, sym, ap, subst, ◌∙◌, arith}
use Rattle.std.specs.List.{list_any}
use Rattle.std.proofs.lemmas.Bool.{leb-false}
use Rattle.std.proofs.lemmas.Option.{same_Some}
use Rattle.wdf_base.specs.declared.event.Event.{Event}
use Rattle.wdf_base.specs.declared.ids.Handle.{Handle}
use Rattle.wdf_model.specs.Tables.{tick_after}
use Rattle.wdf_model.specs.agents.LowerTarget.{is_due_sent}
use Rattle.wdf_model.specs.declared.entries.SentRequest.{SentRequest}
use Rattle.wdf_model.proofs.Tests.{either_false}
use Rattle.law_idle.specs.Idling.{time_step}
use Rattle.law_targets.specs.Targets.{cancels, finishes, sent_to}
use Rattle.law_targets.proofs.Kept.{entry_of, kept, kept_if, kept_one}

module _ (t delay end : ℕ) where
  -- a request that was sent at this time isn't due at the end
  abbrev pub IsEarly : ℕ → Handle → List Event → Type 0
  IsEarly now h since = (list_any (cancels t h.id.0) since ≡ false) × (end < now + delay)

  early : (now : ℕ) (h : Handle) (since : List Event) → is_due_sent end (entry_of t delay now h since) ≡ false → IsEarly now h since
  early now h since off =
      let parts = either_false (list_any (cancels t h.id.0) since) (nat_le (tick_after now delay) end) off in
      let before = leb-false (tick_after now delay) end parts.1 in
      (parts.0, omega (arith, before))

  -- the first event of a list isn't a send of a request that is due and kept
  abbrev PassesOver : ℕ → Event → List Event → Type 0
  PassesOver now x xs = (q : Handle) → sent_to t x ≡ Some q → list_any (finishes q.id.0) xs ≡ false → IsEarly now q xs

  -- a send in a list, at a place before this one, isn't one
  abbrev AllEarly : ℕ → List Event → ℕ → Type 0
  AllEarly now es place = (b : List Event) (x : Event) (since : List Event) (q : Handle) → es ≡ b ++ x ∷ since → sent_to t x ≡ Some q → list_any (finishes q.id.0) since ≡ false → length b < place → IsEarly (fold time_step now b) q since

  one_earlier : (now : ℕ) (x : Event) (xs : List Event) (place : ℕ) → PassesOver now x xs → AllEarly (time_step now x) xs place → AllEarly now (x ∷ xs) (suc place)
  one_earlier now x xs place here rest [] y since q parts sent undone low =
      let same : x ≡ y = cc in
      let all : xs ≡ since = cc in
      subst (IsEarly now q) all (here q (ap (sent_to t) same ∙ sent) (ap (list_any (finishes q.id.0)) all ∙ undone))
  one_earlier now x xs place here rest (y ∷ b) z since q parts sent undone low =
      let same : x ≡ y = cc in
      let all : xs ≡ b ++ z ∷ since = cc in
      subst (λ w. IsEarly (fold time_step (time_step now w) b) q since) same (rest b z since q all sent undone (omega (arith, low)))

  -- ---- the first that is due

  pub record IsFound (now : ℕ) (es : List Event) (s : SentRequest) : Type 0 where
    pub before : List Event
    pub send : Event
    pub since : List Event
    pub parts : es ≡ before ++ send ∷ since
    pub sent : sent_to t send ≡ Some s.request
    pub undone : list_any (finishes s.request.id.0) since ≡ false
    pub told : s.told ≡ list_any (cancels t s.request.id.0) since
    pub tick : s.tick ≡ tick_after (fold time_step now before) delay
    pub due : is_due_sent end s ≡ true
    pub ahead : AllEarly now es (length before)

  later : (now : ℕ) (x : Event) (xs : List Event) (s : SentRequest) → PassesOver now x xs → IsFound (time_step now x) xs s → IsFound now (x ∷ xs) s
  later now x xs s over f = record {
    before = x ∷ f.before;
    send = f.send;
    since = f.since;
    parts = ap (λ ys. x ∷ ys) f.parts;
    sent = f.sent;
    undone = f.undone;
    told = f.told;
    tick = f.tick;
    due = f.due;
    ahead = one_earlier now x xs (length f.before) over f.ahead;
  }

  module _ (now : ℕ) (x : Event) (xs : List Event) where
    abbrev rest : List SentRequest
    rest = kept t delay (time_step now x) xs

    none_sent : sent_to t x ≡ None → PassesOver now x xs
    none_sent e q sent undone = absurd (let z : ⊥ = cc in z)

    its_handle : (h q : Handle) → sent_to t x ≡ Some h → sent_to t x ≡ Some q → h ≡ q
    its_handle h q e sent = same_Some h q (sym e ∙ sent)

    is_done : (h : Handle) → sent_to t x ≡ Some h → list_any (finishes h.id.0) xs ≡ true → PassesOver now x xs
    is_done h e done q sent undone = absurd (let d : list_any (finishes q.id.0) xs ≡ true = subst (λ (y : Handle). list_any (finishes y.id.0) xs ≡ true) (its_handle h q e sent) done in let z : ⊥ = cc in z)

    not_due : (h : Handle) → sent_to t x ≡ Some h → is_due_sent end (entry_of t delay now h xs) ≡ false → PassesOver now x xs
    not_due h e off q sent undone = subst (λ y. IsEarly now y xs) (its_handle h q e sent) (early now h xs off)

    first_by : (h : Handle) (s : SentRequest) (due : Bool) → sent_to t x ≡ Some h → list_any (finishes h.id.0) xs ≡ false → is_due_sent end (entry_of t delay now h xs) ≡ due → (find (is_due_sent end) rest ≡ Some s → IsFound (time_step now x) xs s)
        → (if due then Some (entry_of t delay now h xs) else find (is_due_sent end) rest) ≡ Some s → IsFound now (x ∷ xs) s
    first_by h s true e undone due found is =
        subst (IsFound now (x ∷ xs)) (same_Some (entry_of t delay now h xs) s is)
        (record { before = []; send = x; since = xs; parts = refl; sent = e; undone = undone; told = refl; tick = refl; due = due; ahead = λ b y since q parts sent un low. absurd (omega (arith, low)) })
    first_by h s false e undone due found is = later now x xs s (not_due h e due) (found is)

    kept_by : (h : Handle) (s : SentRequest) (done : Bool) → sent_to t x ≡ Some h → list_any (finishes h.id.0) xs ≡ done → (find (is_due_sent end) rest ≡ Some s → IsFound (time_step now x) xs s)
        → find (is_due_sent end) (kept_if done (entry_of t delay now h xs) ++ rest) ≡ Some s → IsFound now (x ∷ xs) s
    kept_by h s true e done found is = later now x xs s (is_done h e done) (found is)
    kept_by h s false e undone found is = first_by h s (is_due_sent end (entry_of t delay now h xs)) e undone refl found is

    sent_by : (s : SentRequest) (o : Option Handle) → sent_to t x ≡ o → (find (is_due_sent end) rest ≡ Some s → IsFound (time_step now x) xs s) → find (is_due_sent end) (kept_one t delay now o xs ++ rest) ≡ Some s → IsFound now (x ∷ xs) s
    sent_by s None e found is = later now x xs s (none_sent e) (found is)
    sent_by s (Some h) e found is = kept_by h s (list_any (finishes h.id.0) xs) e refl found is

    -- ---- where none is due

    none_first : (h : Handle) (due : Bool) → sent_to t x ≡ Some h → is_due_sent end (entry_of t delay now h xs) ≡ due → (if due then Some (entry_of t delay now h xs) else find (is_due_sent end) rest) ≡ None
        → PassesOver now x xs × (find (is_due_sent end) rest ≡ None)
    none_first h true e due none = absurd (let z : ⊥ = cc in z)
    none_first h false e due none = (not_due h e due, none)

    none_kept : (h : Handle) (done : Bool) → sent_to t x ≡ Some h → list_any (finishes h.id.0) xs ≡ done → find (is_due_sent end) (kept_if done (entry_of t delay now h xs) ++ rest) ≡ None → PassesOver now x xs × (find (is_due_sent end) rest ≡ None)
    none_kept h true e done none = (is_done h e done, none)
    none_kept h false e undone none = none_first h (is_due_sent end (entry_of t delay now h xs)) e refl none

    none_by : (o : Option Handle) → sent_to t x ≡ o → find (is_due_sent end) (kept_one t delay now o xs ++ rest) ≡ None → PassesOver now x xs × (find (is_due_sent end) rest ≡ None)
    none_by None e none = (none_sent e, none)
    none_by (Some h) e none = none_kept h (list_any (finishes h.id.0) xs) e refl none

  pub found : (now : ℕ) (es : List Event) (s : SentRequest) → find (is_due_sent end) (kept t delay now es) ≡ Some s → IsFound now es s
  found now [] s is = absurd (let z : ⊥ = cc in z)
  found now (x ∷ xs) s is = sent_by now x xs s (sent_to t x) refl (found (time_step now x) xs s) is

  -- where none is due, each that was sent and is kept is early
  pub none_due : (now : ℕ) (es : List Event) → find (is_due_sent end) (kept t delay now es) ≡ None → AllEarly now es (length es)
  none_due now [] none = λ b x since q parts sent undone low. absurd (omega (arith, low))
  none_due now (x ∷ xs) none =
      let parts = none_by now x xs (sent_to t x) refl none in
      one_earlier now x xs (length xs) parts.0 (none_due (time_step now x) xs parts.1)
