-- The completion routines of a target that are due, and what is offered of them.
use Rattle.std.proofs.Common.{if◌then◌else◌, ℕ, suc, zero, ◌≡◌, ◌-◌, ◌<◌, ◌≤◌, ◌==◌, Bool, true, false, ◌&&◌, List, [], ◌∷◌, length, map, filter, slice_get, Option, Some, None, is_some, option_map, refl, sym, ap, ◌∙◌, arith}
use Rattle.std.specs.List.{cons_option, count_by, filter_map, range_with_len}
use Rattle.std.proofs.lemmas.Bool.{eq-eqb}
use Rattle.wdf_base.specs.Meaning.{Meaning}
use Rattle.wdf_base.specs.Places.{is_sent_to}
use Rattle.wdf_base.specs.declared.call.Callback.TheVariants as callback
use Rattle.wdf_base.specs.declared.event.Event.{Event}
use Rattle.wdf_base.specs.declared.plan.Plan.{Plan}
use Rattle.wdf_base.specs.declared.rank.Rank.TheVariants as rank
use Rattle.wdf_model.specs.Ids.{cpu_of}
use Rattle.wdf_model.specs.Plans.{callback_irql}
use Rattle.wdf_model.specs.State.{State, declared_in, declares_in}
use Rattle.wdf_model.specs.Tables.{flag}
use Rattle.wdf_model.specs.declared.entries.Sending.{Sending}
use Rattle.wdf_model.specs.declared.enums.Group.TheVariants as group
use Rattle.wdf_model.specs.parts.Locks.{is_free_if_any, lock_of_callback}
use Rattle.wdf_model.specs.parts.Requests.{place_of}
use Rattle.wdf_model.specs.parts.Targets.{routine_due, the_target}
use Rattle.wdf_model.specs.rules.Groups.{places_in, starts_for}
use Rattle.wdf_model.specs.rules.Starts.{level_fits, life_fits}
use Rattle.wdf_model.specs.rules.Steps.{is_cpu, may}
use Rattle.wdf_model.proofs.Counts.{count_cons}
use Rattle.wdf_target.specs.Finished.{finished_in}
use Rattle.wdf_target.specs.Target.{request_id}
use Rattle.wdf_offers.specs.ForRequests.{begins_on}
use Rattle.wdf_offers.specs.Leaving.{IsSettled}
use Rattle.wdf_offers.specs.Search.{if_allowed, offered, offered_from}
use Rattle.wdf_offers.proofs.Begins.{start_parts_for}
use Rattle.wdf_offers.proofs.Herds.{none_mapped, whole_range}
use Rattle.wdf_offers.proofs.Leavers.{listed, mapped_at, mapped_len}

-- ---- a target has what is sent to it

some_flag : (b : Bool) (n : ℕ) → n ≡ flag b → 1 ≤ n → b ≡ true
some_flag true n e h = refl
some_flag false n e h = absurd (let none : flag false ≡ 0 = refl in omega arith)

counted_there : (xs : List Sending) (k : ℕ) (s : Sending) → slice_get xs k ≡ Some s → 1 ≤ count_by (λ (x : Sending). x.request.0 == s.request.0) xs
counted_there [] k s at = absurd (let z : ⊥ = cc in z)
counted_there (x ∷ xs) zero s at =
    let same : x ≡ s = cc in
    let first = count_cons (λ (y : Sending). y.request.0 == s.request.0) x xs in
    let here : flag (x.request.0 == s.request.0) ≡ 1 = ap (λ (y : Sending). flag (y.request.0 == s.request.0)) same ∙ ap flag (eq-eqb s.request.0 s.request.0 refl) in
    omega arith
counted_there (x ∷ xs) (suc k) s at =
    let first = count_cons (λ (y : Sending). y.request.0 == s.request.0) x xs in
    let rest = counted_there xs k s at in
    omega arith

-- ---- one routine

parts : (a e l v f k y : Bool) → k ≡ true → (a && (e && l && v && f && (k && y))) ≡ ((a && e && l && v && f) && y)
parts false e l v f k y on = refl
parts true false l v f k y on = refl
parts true true false v f k y on = refl
parts true true true false f k y on = refl
parts true true true true false k y on = refl
parts true true true true true k y on = ap (λ b. b && y) on

-- a test of what a list is mapped to
map_filter : (p : ℕ → Bool) (xs : List Sending) → filter p (map request_id xs) ≡ map request_id (filter (λ s. p (request_id s)) xs)
map_filter p [] = refl
map_filter p (x ∷ xs) = by (p (request_id x)) (map_filter p xs)
  where
    by : (b : Bool) → filter p (map request_id xs) ≡ map request_id (filter (λ s. p (request_id s)) xs)
        → (if b then request_id x ∷ filter p (map request_id xs) else filter p (map request_id xs)) ≡ map request_id (if b then x ∷ filter (λ s. p (request_id s)) xs else filter (λ s. p (request_id s)) xs)
    by true rest = ap (λ ys. request_id x ∷ ys) rest
    by false rest = rest

module _ {A : Type 0} (plan : Plan) (m : Meaning A) (S : State A) (settled : IsSettled plan S) (cpu t : ℕ) where
  abbrev sent : List Sending
  sent = (the_target S.targets t).sent

  abbrev start : ℕ → Event
  start r = starts_for plan S cpu callback.EvtRequestCompletion t r

  abbrev is_due : ℕ → Bool
  is_due r = is_some (routine_due S.targets r)

  abbrev begins : Bool
  begins = begins_on plan S cpu callback.EvtRequestCompletion t

  there : (k : ℕ) (s : Sending) → slice_get sent k ≡ Some s → is_sent_to t (place_of S.requests s.request.0) ≡ true
  there k s at = some_flag (is_sent_to t (place_of S.requests s.request.0)) _ (settled.sent t s.request.0) (counted_there sent k s at)

  -- the routine of what the target has may start where it is due
  comes : (k : ℕ) (s : Sending) → slice_get sent k ≡ Some s → may plan m S (start s.request.0) ≡ (begins && is_due s.request.0)
  comes k s at =
      let c = callback.EvtRequestCompletion in
      sym (start_parts_for plan m S cpu c t s.request.0)
      ∙ parts (is_cpu plan (cpu_of cpu)) (declares_in plan S c t) (life_fits S c t) (level_fits S cpu (callback_irql plan c t)) (is_free_if_any S.locks (lock_of_callback plan c t (declared_in plan S t)))
      (is_sent_to t (place_of S.requests s.request.0)) (is_due s.request.0) (there k s at)

  -- ---- all of them

  abbrev offered_routine : Option Sending → Option Event
  offered_routine o = if_allowed plan m S (option_map (λ (s : Sending). start s.request.0) o)

  abbrev routine_of : ℕ → Option Event
  routine_of r = if begins && is_due r then Some (start r) else None

  all_routines : (ss : List Sending) → ((k : ℕ) (s : Sending) → slice_get ss k ≡ Some s → may plan m S (start s.request.0) ≡ (begins && is_due s.request.0))
      → filter_map (λ (s : Sending). offered_routine (Some s)) ss ≡ filter_map routine_of (map request_id ss)
  all_routines [] each = refl
  all_routines (s ∷ ss) each =
      ap (λ b. cons_option (if b then Some (start s.request.0) else None) (filter_map (λ (x : Sending). offered_routine (Some x)) ss)) (each 0 s refl)
      ∙ ap (cons_option (routine_of s.request.0)) (all_routines ss (λ k x at. each (suc k) x at))

  routines_from : offered_from plan m S (group.StartsFor cpu rank.Completion t) 0 ≡ filter_map routine_of (map request_id sent)
  routines_from =
      ap (λ n. filter_map (offered plan m S (group.StartsFor cpu rank.Completion t)) (range_with_len 0 n)) (whole_range (places_in plan S (group.StartsFor cpu rank.Completion t)))
      ∙ listed offered_routine [] sent ∙ all_routines sent comes

  gives : begins ≡ true → (r : ℕ) → routine_of r ≡ (if is_due r then Some (start r) else None)
  gives on r = ap (λ b. if b && is_due r then Some (start r) else None) on

  len_by : (b : Bool) → begins ≡ b → length (offered_from plan m S (group.StartsFor cpu rank.Completion t) 0) ≡ (if b then length (finished_in S.targets t) else 0)
  len_by true on = ap length routines_from ∙ mapped_len routine_of is_due start (gives on) (map request_id sent) ∙ ap length (map_filter is_due sent)
  len_by false off = ap length (routines_from ∙ none_mapped routine_of (λ r. ap (λ b. if b && is_due r then Some (start r) else None) off) (map request_id sent))

  -- as many as are due, where one may start
  pub routines_are : length (offered_from plan m S (group.StartsFor cpu rank.Completion t) 0) ≡ (if begins then length (finished_in S.targets t) else 0)
  routines_are = len_by begins refl

  -- where one may start, the k-th is that of the k-th for which it is due
  pub routine_is : begins ≡ true → (k : ℕ) → slice_get (offered_from plan m S (group.StartsFor cpu rank.Completion t) 0) k ≡ option_map start (slice_get (finished_in S.targets t) k)
  routine_is on k =
      ap (λ es. slice_get es k) routines_from ∙ mapped_at routine_of is_due start (gives on) (map request_id sent) k
      ∙ ap (λ xs. option_map start (slice_get xs k)) (map_filter is_due sent)

  -- where there are some, one may start
  pub begun : (k : ℕ) → k < length (offered_from plan m S (group.StartsFor cpu rank.Completion t) 0) → begins ≡ true
  begun k low = by begins refl
    where
      by : (b : Bool) → begins ≡ b → b ≡ true
      by true on = refl
      by false off = absurd (let none = len_by false off in omega arith)
