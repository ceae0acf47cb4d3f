-- No request is at a target longer than the target's delay.
use Rattle.std.proofs.Common.{if◌then◌else◌, ◌≡◌, inl, inr, ℕ, zero, suc, ◌+◌, ◌≤◌, nat_le, Bool, true, false, List, [], ◌∷◌, ◌++◌, filter, find, fold, map, Option, Some, None, slice_get, take, refl, sym, ap, subst, ◌∙◌, arith}
use Rattle.std.specs.List.{list_any}
use Rattle.std.proofs.lemmas.Bool.{leb-false}
use Rattle.std.proofs.lemmas.List.Sums.{fold-append}
use Rattle.wdf_base.specs.Resolved.{IsResolved}
use Rattle.wdf_base.specs.declared.event.Event.{Event}
use Rattle.wdf_base.specs.declared.event.Event.TheVariants as event
use Rattle.wdf_base.specs.declared.ids.Handle.{Handle}
use Rattle.wdf_base.specs.declared.plan.Plan.{Plan}
use Rattle.wdf_model.specs.Plans.{target_of_agent}
use Rattle.wdf_model.specs.agents.LowerTarget.{is_due_sent}
use Rattle.wdf_model.specs.declared.entries.SentRequest.{SentRequest}
use Rattle.wdf_model.specs.rules.Ready.{IsRunOf, state_after}
use Rattle.wdf_model.proofs.Runs.{take_ended, take_next}
use Rattle.wdf_model.proofs.Tests.{either_false}
use Rattle.wdf_dev.specs.Agents.{agent_meaning}
use Rattle.law_idle.specs.Idling.{time_after, time_step}
use Rattle.law_idle.proofs.Meters.{is_tick}
use Rattle.law_machine_lives.proofs.Lists.{Each, each_behind, each_kept, each_still}
use Rattle.law_machine_once.proofs.OnceEach.{each_image}
use Rattle.law_trace_power.proofs.Laws.{comes_by}
use Rattle.law_targets.specs.Targets.{IsAt, cancels, delay_of, finishes, sent_to}
use Rattle.law_targets.proofs.Kept.{entry_of, kept, kept_if, kept_more, kept_one, marked, next, stays}
use Rattle.law_targets.proofs.Runs.{clock_is, not_tick, now_small, same_time, time_is}
use Rattle.law_targets.proofs.Ticks.{none_by}
use Rattle.law_targets.proofs.Agents.{usual_target}

-- ---- each that is kept

each_left : {T : Type 0} (P : T → Type 0) (xs ys : List T) → Each P (xs ++ ys) → Each P ys
each_left P [] ys h = h
each_left P (x ∷ xs) ys h = each_left P xs ys h.1

-- none is found, so each fails
none_by_test : {T : Type 0} (p : T → Bool) (x : T) (xs : List T) (b : Bool) → p x ≡ b → (find p xs ≡ None → Each (λ y. p y ≡ false) xs) → (if b then Some x else find p xs) ≡ None → Each (λ y. p y ≡ false) (x ∷ xs)
none_by_test p x xs true e rest h = absurd (let z : ⊥ = cc in z)
none_by_test p x xs false e rest h = (e, rest h)

none_found : {T : Type 0} (p : T → Bool) (xs : List T) → find p xs ≡ None → Each (λ y. p y ≡ false) xs
none_found p [] h = tt
none_found p (x ∷ xs) h = none_by_test p x xs (p x) refl (none_found p xs) h

module _ (t delay : ℕ) (P : SentRequest → Type 0) where
  first_kept : (now : ℕ) (h : Handle) (since : List Event) (o : Option Handle) (rest : List SentRequest) → o ≡ Some h → list_any (finishes h.id.0) since ≡ false → Each P (kept_one t delay now o since ++ rest) → P (entry_of t delay now h since)
  first_kept now h since None rest is undone each = absurd (let z : ⊥ = cc in z)
  first_kept now h since (Some g) rest is undone each =
      let same : g ≡ h = cc in
      let one : kept_one t delay now (Some g) since ≡ entry_of t delay now h since ∷ [] = ap (λ x. kept_one t delay now (Some x) since) same ∙ ap (λ b. kept_if b (entry_of t delay now h since)) undone in
      (subst (λ xs. Each P (xs ++ rest)) one each).0

  -- what is so of each that is kept is so of each that was sent and isn't done
  sent_kept : (now : ℕ) (es b since : List Event) (x : Event) (h : Handle) → es ≡ b ++ x ∷ since → sent_to t x ≡ Some h → list_any (finishes h.id.0) since ≡ false → Each P (kept t delay now es) → P (entry_of t delay (fold time_step now b) h since)
  sent_kept now [] [] since x h parts sent undone each = absurd (let z : ⊥ = cc in z)
  sent_kept now [] (y ∷ b) since x h parts sent undone each = absurd (let z : ⊥ = cc in z)
  sent_kept now (y ∷ ys) [] since x h parts sent undone each =
      let same : y ≡ x = cc in
      let all : ys ≡ since = cc in
      subst (λ zs. P (entry_of t delay now h zs)) all
      (first_kept now h ys (sent_to t y) (kept t delay (time_step now y) ys) (ap (sent_to t) same ∙ sent) (ap (list_any (finishes h.id.0)) all ∙ undone) each)
  sent_kept now (y ∷ ys) (z ∷ b) since x h parts sent undone each =
      let same : y ≡ z = cc in
      let all : ys ≡ b ++ x ∷ since = cc in
      subst (λ w. P (entry_of t delay (fold time_step (time_step now w) b) h since)) same
      (sent_kept (time_step now y) ys b since x h all sent undone (each_left P (kept_one t delay now (sent_to t y) ys) (kept t delay (time_step now y) ys) each))

  -- and of each after an event, where it is of a new one
  new_kept : (now : ℕ) (o : Option Handle) → ((h : Handle) → o ≡ Some h → P (entry_of t delay now h [])) → Each P (kept_one t delay now o [])
  new_kept now None new = tt
  new_kept now (Some h) new = (new h refl, tt)

  next_kept : (now : ℕ) (e : Event) (xs : List SentRequest) → Each (λ s. P (marked t e s)) xs → ((h : Handle) → sent_to t e ≡ Some h → P (entry_of t delay now h [])) → Each P (next t delay now e xs)
  next_kept now e xs each new =
      each_behind P (map (marked t e) (filter (stays e) xs)) (kept_one t delay now (sent_to t e) [])
      (each_image P (marked t e) (filter (stays e) xs) (each_kept (λ s. P (marked t e s)) (λ s. P (marked t e s)) (stays e) (λ s p keep. p) xs each))
      (new_kept now (sent_to t e) new)

-- a mark moves no tick
same_tick : (t : ℕ) (e : Event) (s : SentRequest) (b : Bool) → cancels t s.request.id.0 e ≡ b → (marked t e s).tick ≡ s.tick
same_tick t e s true h = rw h refl
same_tick t e s false h = rw h refl

-- ---- along a run

module _ (plan : Plan) (run : List Event) (resolved : IsResolved plan) (is_run : IsRunOf plan agent_meaning run) (k t : ℕ) (number : target_of_agent plan k ≡ Some t) where
  abbrev d : ℕ
  d = delay_of plan t

  abbrev now : List Event → ℕ
  now es = fold time_step 0 es

  -- the time isn't past the tick at which a request is due
  abbrev Within : ℕ → SentRequest → Type 0
  Within time s = time ≤ s.tick

  abbrev AllWithin : List Event → Type 0
  AllWithin es = Each (Within (now es)) (kept t d 0 es)

  -- an event that is no tick
  calm : (n : ℕ) (e : Event) → is_tick e ≡ false → AllWithin (take n run) → Each (Within (now (take n run))) (next t d (now (take n run)) e (kept t d 0 (take n run)))
  calm n e off each =
      let es = take n run in
      next_kept t d (Within (now es)) (now es) e (kept t d 0 es)
      (each_still (Within (now es)) (λ s. Within (now es) (marked t e s)) (λ s w. let same = same_tick t e s (cancels t s.request.id.0 e) refl in omega (arith, w, same)) (kept t d 0 es) each)
      (λ h sent. let small = now_small plan agent_meaning run resolved is_run k t (usual_target plan k t number) n in omega (arith, small))

  -- a tick
  passes : (n time : ℕ) → slice_get run n ≡ Some (event.Tick time) → time ≡ now (take n run) + 1 → Each (Within time) (next t d (now (take n run)) (event.Tick time) (kept t d 0 (take n run)))
  passes n time at is =
      let es = take n run in
      let none = none_by plan run resolved is_run n k t number time at (find (is_due_sent (now es)) (kept t d 0 es)) refl in
      next_kept t d (Within time) (now es) (event.Tick time) (kept t d 0 es)
      (each_still (λ s. is_due_sent (now es) s ≡ false) (Within time) (λ s off. let later = leb-false s.tick (now es) (either_false s.told (nat_le s.tick (now es)) off).1 in omega (arith, later, is)) (kept t d 0 es) (none_found (is_due_sent (now es)) (kept t d 0 es) none))
      (λ h sent. absurd (let z : ⊥ = cc in z))

  one_more : (n : ℕ) (e : Event) → slice_get run n ≡ Some e → AllWithin (take n run) → AllWithin (take n run ++ e ∷ [])
  one_more n e at each =
      let es = take n run in
      let time : now (es ++ e ∷ []) ≡ time_step (now es) e = fold-append time_step 0 es (e ∷ []) in
      subst (λ xs. Each (Within (now (es ++ e ∷ []))) xs) (sym (kept_more t d e 0 es))
      (elim (comes_by plan agent_meaning run n e is_run at) [
        | inl may_ ↦
            let off = not_tick plan agent_meaning (state_after plan agent_meaning es) e may_ in
            subst (λ x. Each (Within x) (next t d (now es) e (kept t d 0 es))) (sym (time ∙ same_time (now es) e off)) (calm n e off each)
        | inr tick ↦
            let clock = clock_is plan agent_meaning run is_run n in
            let shows : time_step (now es) e ≡ (state_after plan agent_meaning es).clock + 1 = ap (time_step (now es)) tick.tick in
            let is : (state_after plan agent_meaning es).clock + 1 ≡ now es + 1 = ap (λ x. x + 1) clock in
            subst (λ x. Each (Within x) (next t d (now es) e (kept t d 0 es))) (sym (time ∙ shows))
            (subst (λ y. Each (Within ((state_after plan agent_meaning es).clock + 1)) (next t d (now es) y (kept t d 0 es))) (sym tick.tick)
            (passes n ((state_after plan agent_meaning es).clock + 1) (at ∙ ap Some tick.tick) is))
      ])

  step : (n : ℕ) (o : Option Event) → slice_get run n ≡ o → AllWithin (take n run) → AllWithin (take (suc n) run)
  step n None at each = subst AllWithin (sym (take_ended run n at)) each
  step n (Some e) at each = subst AllWithin (sym (take_next run n e at)) (one_more n e at each)

  all_within : (n : ℕ) → AllWithin (take n run)
  all_within zero = tt
  all_within (suc n) = step n (slice_get run n) refl (all_within n)

  pub in_time : (n : ℕ) (h : Handle) (it : IsAt t h (take n run)) → time_after (take n run) ≤ time_after it.before + d
  in_time n h it =
      let es = take n run in
      let within = sent_kept t d (Within (now es)) 0 es it.before it.since it.send h it.parts it.sent it.undone (all_within n) in
      let before = time_is it.before in
      let after_ = time_is es in
      omega (arith, within, before, after_)
