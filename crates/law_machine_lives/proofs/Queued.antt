-- What is in the queues of deferred work after each act.
use Rattle.std.proofs.Common.{if◌then◌else◌, ◌≡◌, ◌≢◌, ℕ, zero, suc, ◌+◌, ◌==◌, nat_lt, Bool, true, false, not, ◌&&◌, ◌||◌, List, [], ◌∷◌, ◌++◌, ◌⊎◌, inl, inr, Some, is_some, map, filter, drop, find, refl, sym, subst, ◌∙◌}
use Rattle.std.specs.List.{list_any}
use Rattle.std.proofs.lemmas.Bool.{eqb-true, or_cases}
use Rattle.wdf_model.specs.declared.entries.Timed.{Timed}
use Rattle.wdf_model.specs.Tables.{contains, entry, in_order, in_order_by, put, without}
use Rattle.wdf_model.specs.parts.Deferred.Dpcs.{Dpcs, dpcs_of, is_dpc_queued}
use Rattle.wdf_model.specs.parts.Deferred.Dpcs as dpcs
use Rattle.wdf_model.specs.parts.Deferred.WorkItems.{WorkItems, is_work_queued}
use Rattle.wdf_model.specs.parts.Deferred.WorkItems as work_items
use Rattle.wdf_model.specs.parts.Deferred.Timers.{Timers, is_timer_queued, later_by, without_timer}
use Rattle.wdf_model.specs.parts.Deferred.Timers as timers
use Rattle.wdf_model.proofs.Tests.{both_left, both_right, first, not_true, second}

-- ---- some of a list

pub any_weaker : {T : Type 0} (p r : T → Bool) (xs : List T) → ((x : T) → p x ≡ true → r x ≡ true) → list_any p xs ≡ true → list_any r xs ≡ true
any_weaker p r [] h k = k
any_weaker p r (x ∷ xs) h k = elim (or_cases (p x) (list_any p xs) k) [
  | inl e ↦ first (r x) (list_any r xs) (h x e)
  | inr e ↦ second (r x) (list_any r xs) (any_weaker p r xs h e)
]

pub any_none : {T : Type 0} (p : T → Bool) (xs : List T) → ((x : T) → p x ≡ true → ⊥) → list_any p xs ≡ true → ⊥
any_none p [] h k = let z : ⊥ = cc in z
any_none p (x ∷ xs) h k = elim (or_cases (p x) (list_any p xs) k) [
  | inl e ↦ h x e
  | inr e ↦ any_none p xs h e
]

pub any_of_two : {T : Type 0} (p : T → Bool) (xs ys : List T) → list_any p (xs ++ ys) ≡ true → (list_any p xs ≡ true) ⊎ (list_any p ys ≡ true)
any_of_two p [] ys k = inr k
any_of_two p (x ∷ xs) ys k = elim (or_cases (p x) (list_any p (xs ++ ys)) k) [
  | inl e ↦ inl (first (p x) (list_any p xs) e)
  | inr e ↦ elim (any_of_two p xs ys e) [
    | inl f ↦ inl (second (p x) (list_any p xs) f)
    | inr f ↦ inr f
  ]
]

any_filtered_by : {T : Type 0} (p keep : T → Bool) (x : T) (xs : List T) (b : Bool) → keep x ≡ b → list_any p (if b then x ∷ filter keep xs else filter keep xs) ≡ true
    → (list_any p (filter keep xs) ≡ true → list_any (λ y. p y && keep y) xs ≡ true) → list_any (λ y. p y && keep y) (x ∷ xs) ≡ true
any_filtered_by p keep x xs true e k rest = elim (or_cases (p x) (list_any p (filter keep xs)) k) [
  | inl f ↦ first (p x && keep x) (list_any (λ y. p y && keep y) xs) (rw (f, e) refl)
  | inr f ↦ second (p x && keep x) (list_any (λ y. p y && keep y) xs) (rest f)
]
any_filtered_by p keep x xs false e k rest = second (p x && keep x) (list_any (λ y. p y && keep y) xs) (rest k)

pub any_filtered : {T : Type 0} (p keep : T → Bool) (xs : List T) → list_any p (filter keep xs) ≡ true → list_any (λ y. p y && keep y) xs ≡ true
any_filtered p keep [] k = k
any_filtered p keep (x ∷ xs) k = any_filtered_by p keep x xs (keep x) refl k (any_filtered p keep xs)

pub any_mapped : {S T : Type 0} (p : T → Bool) (g : S → T) (xs : List S) → list_any p (map g xs) ≡ true → list_any (λ x. p (g x)) xs ≡ true
any_mapped p g [] k = k
any_mapped p g (x ∷ xs) k = elim (or_cases (p (g x)) (list_any p (map g xs)) k) [
  | inl e ↦ first (p (g x)) (list_any (λ y. p (g y)) xs) e
  | inr e ↦ second (p (g x)) (list_any (λ y. p (g y)) xs) (any_mapped p g xs e)
]

pub any_put : {T : Type 0} (blank : T) (p : T → Bool) (xs : List T) (id : ℕ) (new : T) → p blank ≡ false → list_any p (put blank xs id new) ≡ true → (list_any p xs ≡ true) ⊎ (p new ≡ true)
any_put blank p [] zero new off k = elim (or_cases (p new) false k) [
  | inl e ↦ inr e
  | inr e ↦ absurd (let z : ⊥ = cc in z)
]
any_put blank p [] (suc id) new off k = elim (or_cases (p blank) (list_any p (put blank [] id new)) k) [
  | inl e ↦ absurd (let z : ⊥ = cc in z)
  | inr e ↦ any_put blank p [] id new off e
]
any_put blank p (x ∷ xs) zero new off k = elim (or_cases (p new) (list_any p xs) k) [
  | inl e ↦ inr e
  | inr e ↦ inl (second (p x) (list_any p xs) e)
]
any_put blank p (x ∷ xs) (suc id) new off k = elim (or_cases (p x) (list_any p (put blank xs id new)) k) [
  | inl e ↦ inl (first (p x) (list_any p xs) e)
  | inr e ↦ elim (any_put blank p xs id new off e) [
    | inl f ↦ inl (second (p x) (list_any p xs) f)
    | inr f ↦ inr f
  ]
]

pub any_entry : {T : Type 0} (blank : T) (p : T → Bool) (xs : List T) (id : ℕ) → p blank ≡ false → p (entry blank xs id) ≡ true → list_any p xs ≡ true
any_entry blank p [] id off k = absurd (let z : ⊥ = cc in z)
any_entry blank p (x ∷ xs) zero off k = first (p x) (list_any p xs) k
any_entry blank p (x ∷ xs) (suc id) off k = second (p x) (list_any p xs) (any_entry blank p xs id off k)

any_after_first : {T : Type 0} (p : T → Bool) (xs : List T) → list_any p (drop 1 xs) ≡ true → list_any p xs ≡ true
any_after_first p [] k = k
any_after_first p (x ∷ xs) k = second (p x) (list_any p xs) k

any_ordered_by : {T : Type 0} (key : T → ℕ) (p : T → Bool) (x y : T) (ys : List T) (b : Bool) → nat_lt (key x) (key y) ≡ b
    → list_any p (if b then x ∷ y ∷ ys else y ∷ in_order_by key x ys) ≡ true → (list_any p (in_order_by key x ys) ≡ true → (p x ≡ true) ⊎ (list_any p ys ≡ true))
    → (p x ≡ true) ⊎ (list_any p (y ∷ ys) ≡ true)
any_ordered_by key p x y ys true e k rest = or_cases (p x) (list_any p (y ∷ ys)) k
any_ordered_by key p x y ys false e k rest = elim (or_cases (p y) (list_any p (in_order_by key x ys)) k) [
  | inl f ↦ inr (first (p y) (list_any p ys) f)
  | inr f ↦ elim (rest f) [
    | inl g ↦ inl g
    | inr g ↦ inr (second (p y) (list_any p ys) g)
  ]
]

pub any_ordered : {T : Type 0} (key : T → ℕ) (p : T → Bool) (x : T) (xs : List T) → list_any p (in_order_by key x xs) ≡ true → (p x ≡ true) ⊎ (list_any p xs ≡ true)
any_ordered key p x [] k = or_cases (p x) false k
any_ordered key p x (y ∷ ys) k = any_ordered_by key p x y ys (nat_lt (key x) (key y)) refl k (any_ordered key p x ys)

-- ---- ids

one_id : (x o : ℕ) → contains x (o ∷ []) ≡ true → x ≡ o
one_id x o k = elim (or_cases (o == x) false k) [
  | inl e ↦ sym (eqb-true o x e)
  | inr e ↦ absurd (let z : ⊥ = cc in z)
]

both_ways : (x o y : ℕ) → x ≡ o → (y == x && not (y == o)) ≡ true → ⊥
both_ways x o y e k =
    let one : (y == x) ≡ true = both_left (y == x) (not (y == o)) k in
    let other : (y == o) ≡ false = not_true (y == o) (both_right (y == x) (not (y == o)) k) in
    let same : (y == o) ≡ true = subst (λ z. (y == z) ≡ true) e one in
    let z : ⊥ = cc in z

pub left_in : (x o : ℕ) (ids : List ℕ) → contains x (without o ids) ≡ true → (contains x ids ≡ true) × (x ≢ o)
left_in x o ids k =
    let some = any_filtered (λ y. y == x) (λ y. not (y == o)) ids k in (
      any_weaker (λ y. y == x && not (y == o)) (λ y. y == x) ids (λ y e. both_left (y == x) (not (y == o)) e) some,
      λ e. any_none (λ y. y == x && not (y == o)) ids (λ y f. both_ways x o y e f) some,
    )

-- ---- DPCs

pub dpc_cancelled : (D : Dpcs) (o x : ℕ) → is_dpc_queued (dpcs.cancel D o) x ≡ true → (is_dpc_queued D x ≡ true) × (x ≢ o)
dpc_cancelled D o x k =
    let some = any_mapped (contains x) (without o) D.lists k in (
      any_weaker (λ ids. contains x (without o ids)) (contains x) D.lists (λ ids e. (left_in x o ids e).0) some,
      λ e. any_none (λ ids. contains x (without o ids)) D.lists (λ ids f. (left_in x o ids f).1 e) some,
    )

pub dpc_enqueued : (D : Dpcs) (cpu o x : ℕ) → is_dpc_queued (dpcs.enqueue D cpu o) x ≡ true → (is_dpc_queued D x ≡ true) ⊎ (x ≡ o)
dpc_enqueued D cpu o x k = elim (any_put [] (contains x) D.lists cpu (dpcs_of D cpu ++ o ∷ []) refl k) [
  | inl e ↦ inl e
  | inr e ↦ elim (any_of_two (λ y. y == x) (dpcs_of D cpu) (o ∷ []) e) [
    | inl f ↦ inl (any_entry [] (contains x) D.lists cpu refl f)
    | inr f ↦ inr (one_id x o f)
  ]
]

pub dpc_taken : (D : Dpcs) (cpu x : ℕ) → is_dpc_queued (dpcs.take D cpu) x ≡ true → is_dpc_queued D x ≡ true
dpc_taken D cpu x k = elim (any_put [] (contains x) D.lists cpu (drop 1 (dpcs_of D cpu)) refl k) [
  | inl e ↦ e
  | inr e ↦ any_entry [] (contains x) D.lists cpu refl (any_after_first (λ y. y == x) (dpcs_of D cpu) e)
]

-- ---- work items

pub work_cancelled : (W : WorkItems) (o x : ℕ) → is_work_queued (work_items.cancel W o) x ≡ true → (is_work_queued W x ≡ true) × (x ≢ o)
work_cancelled W o x k = left_in x o W.queued k

work_enqueued_by : (W : WorkItems) (o x : ℕ) (b : Bool) → is_work_queued (if b then W else record { queued = in_order o W.queued }) x ≡ true → (is_work_queued W x ≡ true) ⊎ (x ≡ o)
work_enqueued_by W o x true k = inl k
work_enqueued_by W o x false k = elim (any_ordered (λ y. y) (λ y. y == x) o W.queued k) [
  | inl e ↦ inr (sym (eqb-true o x e))
  | inr e ↦ inl e
]

pub work_enqueued : (W : WorkItems) (o x : ℕ) → is_work_queued (work_items.enqueue W o) x ≡ true → (is_work_queued W x ≡ true) ⊎ (x ≡ o)
work_enqueued W o x k = work_enqueued_by W o x (is_work_queued W o) k

-- ---- timers

abbrev is_of : ℕ → Timed → Bool
is_of x t = t.timer.0 == x

found_by : (p : Timed → Bool) (t : Timed) (ts : List Timed) (b : Bool) → p t ≡ b → is_some (if b then Some t else find p ts) ≡ true → (is_some (find p ts) ≡ true → list_any p ts ≡ true) → list_any p (t ∷ ts) ≡ true
found_by p t ts true e k rest = first (p t) (list_any p ts) e
found_by p t ts false e k rest = second (p t) (list_any p ts) (rest k)

some_of : (p : Timed → Bool) (ts : List Timed) → is_some (find p ts) ≡ true → list_any p ts ≡ true
some_of p [] k = k
some_of p (t ∷ ts) k = found_by p t ts (p t) refl k (some_of p ts)

found_back : (p : Timed → Bool) (t : Timed) (ts : List Timed) (b : Bool) → p t ≡ b → (list_any p ts ≡ true → is_some (find p ts) ≡ true) → (b || list_any p ts) ≡ true → is_some (if b then Some t else find p ts) ≡ true
found_back p t ts true e rest k = refl
found_back p t ts false e rest k = rest k

of_some : (p : Timed → Bool) (ts : List Timed) → list_any p ts ≡ true → is_some (find p ts) ≡ true
of_some p [] k = k
of_some p (t ∷ ts) k = found_back p t ts (p t) refl (of_some p ts) k

without_it : (ts : List Timed) (o x : ℕ) → list_any (is_of x) (without_timer o ts) ≡ true → (list_any (is_of x) ts ≡ true) × (x ≢ o)
without_it ts o x k =
    let some = any_filtered (is_of x) (λ t. not (t.timer.0 == o)) ts k in (
      any_weaker (λ t. is_of x t && not (t.timer.0 == o)) (is_of x) ts (λ t e. both_left (is_of x t) (not (t.timer.0 == o)) e) some,
      λ e. any_none (λ t. is_of x t && not (t.timer.0 == o)) ts (λ t f. both_ways x o t.timer.0 e f) some,
    )

pub timer_stopped : (T : Timers) (o x : ℕ) → is_timer_queued (timers.stop T o) x ≡ true → (is_timer_queued T x ≡ true) × (x ≢ o)
timer_stopped T o x k =
    let parts = without_it T.queued o x (some_of (is_of x) (without_timer o T.queued) k) in
    (of_some (is_of x) T.queued parts.0, parts.1)

pub timer_started : (T : Timers) (o now ticks x : ℕ) → is_timer_queued (timers.start T o now ticks) x ≡ true → (is_timer_queued T x ≡ true) ⊎ (x ≡ o)
timer_started T o now ticks x k = elim (any_ordered (λ (t : Timed). t.timer.0) (is_of x) _ (without_timer o T.queued) (some_of (is_of x) _ k)) [
  | inl e ↦ inr (sym (eqb-true o x e))
  | inr e ↦ inl (of_some (is_of x) T.queued (without_it T.queued o x e).0)
]

fired_by : (T : Timers) (o period x : ℕ) (b : Bool) → is_timer_queued (if b then timers.stop T o else record { queued = map (later_by o period) T.queued }) x ≡ true → is_timer_queued T x ≡ true
fired_by T o period x true k = (timer_stopped T o x k).0
fired_by T o period x false k =
    of_some (is_of x) T.queued
    (any_weaker (λ t. is_of x (later_by o period t)) (is_of x) T.queued (λ t e. sym (same_timer t (t.timer.0 == o)) ∙ e)
    (any_mapped (is_of x) (later_by o period) T.queued (some_of (is_of x) (map (later_by o period) T.queued) k)))
  where
    same_timer : (t : Timed) (b : Bool) → is_of x (if b then record t { tick = t.tick + period } else t) ≡ is_of x t
    same_timer t true = refl
    same_timer t false = refl

pub timer_fired : (T : Timers) (o period x : ℕ) → is_timer_queued (timers.fired T o period) x ≡ true → is_timer_queued T x ≡ true
timer_fired T o period x k = fired_by T o period x (period == 0) k
