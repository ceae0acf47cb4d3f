-- What a connector keeps of what was sent to it is what the events say of it.
use Rattle.std.proofs.Common.{◌≡◌, ℕ, suc, ◌==◌, Bool, true, false, not, List, [], ◌∷◌, ◌++◌, length, map, filter, Option, Some, None, refl, sym, ap, ◌∙◌}
use Rattle.std.specs.List.{list_any}
use Rattle.std.proofs.lemmas.Bool.{eqb-true}
use Rattle.wdf_base.specs.declared.ids.Handle.{Handle}
use Rattle.wdf_base.specs.declared.value.Status.{Status}
use Rattle.wdf_base.specs.declared.event.Event.{Event}
use Rattle.wdf_base.specs.Posts.{is_request}
use Rattle.wdf_model.specs.declared.stack.Descent.{Descent}
use Rattle.wdf_model.specs.declared.stack.Descent.TheVariants as descent
use Rattle.wdf_model.specs.declared.stack.Forwarded.{Forwarded}
use Rattle.wdf_model.specs.agents.Connector.{arrived_below, cancelled_any, cancelled_one, completed_at, completed_one, first_arrived, is_waiting, passed_on_at, passed_on_one}
use Rattle.wdf_laws.specs.Events.{id_in}
use Rattle.law_stack.specs.Words.{Passing, cancelled_if, completes_with, has_no_arrival, with_arrival, with_cancel, without_done}

-- how far a request has come, as its Send's arrival and the completions say
abbrev pub DescentIs : List Event → Descent → Option (Option ℕ) → Type 0
DescentIs before descent.Waiting arrival = arrival ≡ None
DescentIs before descent.Refused arrival = arrival ≡ Some None
DescentIs before (descent.Below lower number passed) arrival = arrival ≡ Some (Some lower.0)
DescentIs before (descent.Completed s) arrival = (x : ℕ) × (arrival ≡ Some (Some x)) × (list_any (completes_with x s) before ≡ true)

pub record OneAlike (before : List Event) (f : Forwarded) (p : Passing) : Type 0 where
  pub request : p.request ≡ f.request.id.0
  pub cancelled : p.cancelled ≡ f.cancelled
  pub descent : DescentIs before f.descent p.arrival
  pub asks : is_request f.post ≡ true

abbrev pub Alike : List Event → List Forwarded → List Passing → Type 0
Alike before [] [] = Unit {0}
Alike before (f ∷ fs) (p ∷ ps) = OneAlike before f p × Alike before fs ps
Alike before _ _ = ⊥

-- ---- more events

pub any_more : {T : Type 0} (p : T → Bool) (xs ys : List T) → list_any p xs ≡ true → list_any p (xs ++ ys) ≡ true
any_more p [] ys h = absurd (let z : ⊥ = cc in z)
any_more p (x ∷ xs) ys h = by_test (p x) refl (any_more p xs ys) h
  where
    by_test : (b : Bool) → p x ≡ b → (list_any p xs ≡ true → list_any p (xs ++ ys) ≡ true) → list_any p (x ∷ xs) ≡ true → list_any p ((x ∷ xs) ++ ys) ≡ true
    by_test true e rest k = rw e refl
    by_test false e rest k = rw e (rest (rw e at k))

pub any_last : {T : Type 0} (p : T → Bool) (xs : List T) (y : T) → p y ≡ true → list_any p (xs ++ y ∷ []) ≡ true
any_last p [] y h = rw h refl
any_last p (x ∷ xs) y h = by_test (p x) refl (any_last p xs y h)
  where
    by_test : (b : Bool) → p x ≡ b → list_any p (xs ++ y ∷ []) ≡ true → list_any p ((x ∷ xs) ++ y ∷ []) ≡ true
    by_test true e rest = rw e refl
    by_test false e rest = rw e rest

descent_more : (before : List Event) (e : Event) (d : Descent) (a : Option (Option ℕ)) → DescentIs before d a → DescentIs (before ++ e ∷ []) d a
descent_more before e descent.Waiting a h = h
descent_more before e descent.Refused a h = h
descent_more before e (descent.Below lower number passed) a h = h
descent_more before e (descent.Completed s) a h = (h.0, h.1, any_more (completes_with h.0 s) before (e ∷ []) h.2)

pub one_more : (before : List Event) (e : Event) (f : Forwarded) (p : Passing) → OneAlike before f p → OneAlike (before ++ e ∷ []) f p
one_more before e f p h = record { request = h.request; cancelled = h.cancelled; descent = descent_more before e f.descent p.arrival h.descent; asks = h.asks }

pub alike_more : (before : List Event) (e : Event) (fs : List Forwarded) (ps : List Passing) → Alike before fs ps → Alike (before ++ e ∷ []) fs ps
alike_more before e [] [] h = tt
alike_more before e (f ∷ fs) (p ∷ ps) h = (one_more before e f p h.0, alike_more before e fs ps h.1)
alike_more before e [] (p ∷ ps) h = absurd h
alike_more before e (f ∷ fs) [] h = absurd h

-- ---- one more Send

pub alike_joined : (before : List Event) (fs : List Forwarded) (ps : List Passing) (f : Forwarded) (p : Passing) → Alike before fs ps → OneAlike before f p → Alike before (fs ++ f ∷ []) (ps ++ p ∷ [])
alike_joined before [] [] f p h one = (one, tt)
alike_joined before (g ∷ fs) (q ∷ ps) f p h one = (h.0, alike_joined before fs ps f p h.1 one)
alike_joined before [] (q ∷ ps) f p h one = absurd h
alike_joined before (g ∷ fs) [] f p h one = absurd h

pub alike_long : (before : List Event) (fs : List Forwarded) (ps : List Passing) → Alike before fs ps → length fs ≡ length ps
alike_long before [] [] h = refl
alike_long before (f ∷ fs) (p ∷ ps) h = ap suc (alike_long before fs ps h.1)
alike_long before [] (p ∷ ps) h = absurd h
alike_long before (f ∷ fs) [] h = absurd h

-- ---- a change of each

pub alike_mapped : (before : List Event) (g : Forwarded → Forwarded) (k : Passing → Passing) → ((f : Forwarded) (p : Passing) → OneAlike before f p → OneAlike before (g f) (k p))
    → (fs : List Forwarded) (ps : List Passing) → Alike before fs ps → Alike before (map g fs) (map k ps)
alike_mapped before g k each [] [] h = tt
alike_mapped before g k each (f ∷ fs) (p ∷ ps) h = (each f p h.0, alike_mapped before g k each fs ps h.1)
alike_mapped before g k each [] (p ∷ ps) h = absurd h
alike_mapped before g k each (f ∷ fs) [] h = absurd h

pub alike_changed : (before : List Event) (g : Forwarded → Forwarded) → ((f : Forwarded) (p : Passing) → OneAlike before f p → OneAlike before (g f) p)
    → (fs : List Forwarded) (ps : List Passing) → Alike before fs ps → Alike before (map g fs) ps
alike_changed before g each [] [] h = tt
alike_changed before g each (f ∷ fs) (p ∷ ps) h = (each f p h.0, alike_changed before g each fs ps h.1)
alike_changed before g each [] (p ∷ ps) h = absurd h
alike_changed before g each (f ∷ fs) [] h = absurd h

cancelled_by : (before : List Event) (r : ℕ) (f : Forwarded) (p : Passing) (b : Bool) → (f.request.id.0 == r) ≡ b → OneAlike before f p → OneAlike before (cancelled_one r f) (cancelled_if (λ x. x == r) p)
cancelled_by before r f p true e h =
    let too : (p.request == r) ≡ true = ap (λ n. n == r) h.request ∙ e in
    rw (e, too) (record { request = h.request; cancelled = refl; descent = h.descent; asks = h.asks })
cancelled_by before r f p false e h =
    let too : (p.request == r) ≡ false = ap (λ n. n == r) h.request ∙ e in
    rw (e, too) h

pub alike_cancelled : (before : List Event) (r : ℕ) (fs : List Forwarded) (ps : List Passing) → Alike before fs ps → Alike before (map (cancelled_one r) fs) (with_cancel (λ x. x == r) ps)
alike_cancelled before r fs ps h = alike_mapped before (cancelled_one r) (cancelled_if (λ x. x == r)) (λ f p one. cancelled_by before r f p (f.request.id.0 == r) refl one) fs ps h

pub alike_all_cancelled : (before : List Event) (fs : List Forwarded) (ps : List Passing) → Alike before fs ps → Alike before (map cancelled_any fs) (with_cancel (λ x. true) ps)
alike_all_cancelled before fs ps h =
    alike_mapped before cancelled_any (cancelled_if (λ x. true)) (λ f p one. record { request = one.request; cancelled = refl; descent = one.descent; asks = one.asks }) fs ps h

passed_descent : (before : List Event) (k : ℕ) (d : Descent) (a : Option (Option ℕ)) → DescentIs before d a → DescentIs before (passed_on_at k d) a
passed_descent before k descent.Waiting a h = h
passed_descent before k descent.Refused a h = h
passed_descent before k (descent.Below lower number passed) a h = h
passed_descent before k (descent.Completed s) a h = h

pub alike_passed_on : (before : List Event) (k : ℕ) (fs : List Forwarded) (ps : List Passing) → Alike before fs ps → Alike before (map (passed_on_one k) fs) ps
alike_passed_on before k fs ps h =
    alike_changed before (passed_on_one k) (λ f p one. record { request = one.request; cancelled = one.cancelled; descent = passed_descent before k f.descent p.arrival one.descent; asks = one.asks }) fs ps h

-- a completion: an event of the list completes this request with this status
completed_by : (before : List Event) (x : ℕ) (s : Status) (lower : ℕ) (d : Descent) (a : Option (Option ℕ)) (b : Bool) → (lower == x) ≡ b → lower ≡ x → list_any (completes_with x s) before ≡ true → a ≡ Some (Some lower)
    → (y : ℕ) × (a ≡ Some (Some y)) × (list_any (completes_with y s) before ≡ true)
completed_by before x s lower d a b e same h is = (x, is ∙ ap (λ n. Some (Some n)) same, h)

completed_descent : (before : List Event) (x : ℕ) (s : Status) → list_any (completes_with x s) before ≡ true → (d : Descent) (a : Option (Option ℕ)) → DescentIs before d a → DescentIs before (completed_at x s d) a
completed_descent before x s h descent.Waiting a k = k
completed_descent before x s h descent.Refused a k = k
completed_descent before x s h (descent.Completed t) a k = k
completed_descent before x s h (descent.Below lower number passed) a k = by_test (lower.0 == x) refl
  where
    by_test : (b : Bool) → (lower.0 == x) ≡ b → DescentIs before (completed_at x s (descent.Below lower number passed)) a
    by_test true e = rw e (completed_by before x s lower.0 (descent.Below lower number passed) a true e (eqb-true lower.0 x e) h k)
    by_test false e = rw e k

pub alike_completed : (before : List Event) (x : ℕ) (s : Status) → list_any (completes_with x s) before ≡ true → (fs : List Forwarded) (ps : List Passing) → Alike before fs ps → Alike before (map (completed_one x s) fs) ps
alike_completed before x s done fs ps h =
    alike_changed before (completed_one x s) (λ f p one. record { request = one.request; cancelled = one.cancelled; descent = completed_descent before x s done f.descent p.arrival one.descent; asks = one.asks }) fs ps h

-- ---- an arrival

arrived_descent : (before : List Event) (number : ℕ) (answer : Option Handle) → DescentIs before (arrived_below number answer) (Some (id_in answer))
arrived_descent before number None = refl
arrived_descent before number (Some r) = refl

waits_alike : (before : List Event) (d : Descent) (a : Option (Option ℕ)) (f : Forwarded) (p : Passing) → f.descent ≡ d → p.arrival ≡ a → DescentIs before d a → is_waiting f ≡ has_no_arrival p
waits_alike before descent.Waiting a f p e k h = let n : p.arrival ≡ None = k ∙ h in rw (e, n) refl
waits_alike before descent.Refused a f p e k h = let n : p.arrival ≡ Some None = k ∙ h in rw (e, n) refl
waits_alike before (descent.Below lower number passed) a f p e k h = let n : p.arrival ≡ Some (Some lower.0) = k ∙ h in rw (e, n) refl
waits_alike before (descent.Completed s) a f p e k h = let n : p.arrival ≡ Some (Some h.0) = k ∙ h.1 in rw (e, n) refl

pub waits_too : (before : List Event) (f : Forwarded) (p : Passing) → OneAlike before f p → is_waiting f ≡ has_no_arrival p
waits_too before f p h = waits_alike before f.descent p.arrival f p refl refl h.descent

arrived_by : (before : List Event) (number : ℕ) (answer : Option Handle) (f : Forwarded) (p : Passing) (fs : List Forwarded) (ps : List Passing) (b : Bool) → is_waiting f ≡ b → OneAlike before f p → Alike before fs ps
    → Alike before (first_arrived (arrived_below number answer) fs) (with_arrival (id_in answer) ps) → Alike before (first_arrived (arrived_below number answer) (f ∷ fs)) (with_arrival (id_in answer) (p ∷ ps))
arrived_by before number answer f p fs ps true e h all rest =
    let too : has_no_arrival p ≡ true = sym (waits_too before f p h) ∙ e in
    rw (e, too) (record { request = h.request; cancelled = h.cancelled; descent = arrived_descent before number answer; asks = h.asks }, all)
arrived_by before number answer f p fs ps false e h all rest =
    let too : has_no_arrival p ≡ false = sym (waits_too before f p h) ∙ e in
    rw (e, too) (h, rest)

pub alike_arrived : (before : List Event) (number : ℕ) (answer : Option Handle) (fs : List Forwarded) (ps : List Passing) → Alike before fs ps
    → Alike before (first_arrived (arrived_below number answer) fs) (with_arrival (id_in answer) ps)
alike_arrived before number answer [] [] h = tt
alike_arrived before number answer (f ∷ fs) (p ∷ ps) h = arrived_by before number answer f p fs ps (is_waiting f) refl h.0 h.1 (alike_arrived before number answer fs ps h.1)
alike_arrived before number answer [] (p ∷ ps) h = absurd h
alike_arrived before number answer (f ∷ fs) [] h = absurd h

-- ---- a done

done_by : (before : List Event) (r : ℕ) (f : Forwarded) (p : Passing) (fs : List Forwarded) (ps : List Passing) (b : Bool) → (f.request.id.0 == r) ≡ b → OneAlike before f p
    → Alike before (filter (λ x. not (x.request.id.0 == r)) fs) (without_done r ps) → Alike before (filter (λ x. not (x.request.id.0 == r)) (f ∷ fs)) (without_done r (p ∷ ps))
done_by before r f p fs ps true e h rest =
    let too : (p.request == r) ≡ true = ap (λ n. n == r) h.request ∙ e in
    rw (e, too) rest
done_by before r f p fs ps false e h rest =
    let too : (p.request == r) ≡ false = ap (λ n. n == r) h.request ∙ e in
    rw (e, too) (h, rest)

pub alike_done : (before : List Event) (r : ℕ) (fs : List Forwarded) (ps : List Passing) → Alike before fs ps → Alike before (filter (λ x. not (x.request.id.0 == r)) fs) (without_done r ps)
alike_done before r [] [] h = tt
alike_done before r (f ∷ fs) (p ∷ ps) h = done_by before r f p fs ps (f.request.id.0 == r) refl h.0 (alike_done before r fs ps h.1)
alike_done before r [] (p ∷ ps) h = absurd h
alike_done before r (f ∷ fs) [] h = absurd h
