-- A taking of a request from a power-managed queue came, with no giving up since, exactly where power notes that the
-- driver holds it from there: what each event makes of both.
use Rattle.std.proofs.Common.{if◌then◌else◌, ◌≡◌, ℕ, ◌==◌, Bool, true, false, not, ◌&&◌, ◌||◌, List, [], ◌∷◌, ◌++◌, inl, inr, Option, Some, None, refl, sym, ap, subst, ◌∙◌}
use Rattle.wdf_base.specs.Meaning.{Meaning}
use Rattle.wdf_base.specs.declared.ids.Cpu.{Cpu}
use Rattle.wdf_base.specs.declared.ids.Handle.{Handle}
use Rattle.wdf_base.specs.declared.plan.Plan.{Plan}
use Rattle.wdf_base.specs.declared.rank.Rank.{Rank}
use Rattle.wdf_base.specs.declared.rank.Rank.TheVariants as rank
use Rattle.wdf_base.specs.declared.call.Callback.{Callback}
use Rattle.wdf_base.specs.declared.call.Callback.TheVariants as callback
use Rattle.wdf_base.specs.declared.event.Event.{Event}
use Rattle.wdf_base.specs.declared.event.Event.TheVariants as event
use Rattle.wdf_base.specs.Callbacks.{row_of}
use Rattle.wdf_base.specs.Same.{same_callback}
use Rattle.wdf_model.specs.Tables.{same_id}
use Rattle.wdf_model.specs.Plans.{callback_irql, is_managed}
use Rattle.wdf_model.specs.parts.Locks.{lock_of_callback}
use Rattle.wdf_model.specs.parts.Queues.{front}
use Rattle.wdf_model.specs.parts.Requests.{place_of, request_of}
use Rattle.wdf_model.specs.parts.Power.{Power}
use Rattle.wdf_model.specs.parts.Power as power
use Rattle.wdf_model.specs.parts.Targets.{is_forgotten}
use Rattle.wdf_model.specs.State.{State, declared_in, held_at}
use Rattle.wdf_model.specs.Ids.{frame_id, irql_of, object_id}
use Rattle.wdf_model.specs.declared.deed.Deed.{Deed}
use Rattle.wdf_model.specs.declared.deed.Deed.TheVariants.{AskStop, Present, PushFrame, Receive, Resume}
use Rattle.wdf_model.specs.rules.Deeds.{do_deed, do_deeds, hold_power}
use Rattle.wdf_model.specs.rules.Starts.{effect, effect_for, new_frame, next_number, rank_ready_for, take_if_any}
use Rattle.wdf_model.specs.rules.Steps.{after, may}
use Rattle.wdf_model.proofs.Tests.{both, both_left, both_right, right_fails}
use Rattle.wdf_model.proofs.Counts.{equal, not_equal, one_or_two}
use Rattle.law_machine_base.proofs.KeptByDeeds.{KeptIn}
use Rattle.law_machine_base.specs.Agreement.{managed_origin}
use Rattle.law_machine_counts.proofs.Holding.{HoldsIn}
use Rattle.law_machine_counts.proofs.HeldPlaces.{unheld}
use Rattle.wdf_laws.specs.declared.sign.Sign.TheVariants as sign
use Rattle.wdf_laws.specs.Events.{given_up, is_handler, is_id, pair_of, taken, where_so}
use Rattle.wdf_laws.specs.Signs.{is_taking_of, shows}
use Rattle.wdf_laws.specs.Words.{stands}
use Rattle.law_trace_requests.proofs.Cancels.{stands_next}
use Rattle.law_trace_requests.proofs.CancelsOverRuns.{started}
use Rattle.law_trace_requests.proofs.FirstParts.{start_reads}
use Rattle.law_trace_held.proofs.Holdings.{NotesChange, NotesStay, deed_notes, noted, notes_same, taken_notes}
use Rattle.law_trace_requests.proofs.Marks.{front_queued}
use Rattle.law_trace_requests.proofs.Standing.{stands_no_more, stays_standing}
use Rattle.law_machine_counts.proofs.HeldByDeeds.{queued_unheld, returning_unheld}

-- ---- words

abbrev pub is_taken : ℕ → ℕ → List Event → Bool
is_taken r q es = stands (sign.TakingFrom r q) (sign.GivingUp r) es

-- of each power-managed queue
abbrev pub HeldAsTold : Plan → List Event → Power → Type 0
HeldAsTold plan es P = (r q : ℕ) → is_managed plan q ≡ true → is_taken r q es ≡ (noted P r == q)

-- no power-managed queue has the number 0
pub managed_some : (plan : Plan) (q : ℕ) → is_managed plan q ≡ true → (0 == q) ≡ false
managed_some plan q h = elim (one_or_two 0 q) [
  | inl e ↦ absurd (let right_fails : is_managed plan 0 ≡ true = subst (λ (p : ℕ). is_managed plan p ≡ true) (sym e) h in let z : ⊥ = cc in z)
  | inr n ↦ not_equal 0 q n
]

is_stood : (p s u : Bool) → p ≡ true → (p || (s && not u)) ≡ true
is_stood true s u h = refl
is_stood false s u h = absurd (let z : ⊥ = cc in z)

pub silent_step : (plan : Plan) (es : List Event) (e : Event) (P O : Power) → taken e ≡ None → given_up e ≡ None → NotesStay P O → HeldAsTold plan es P → HeldAsTold plan (es ++ e ∷ []) O
silent_step plan es e P O t g stay held r q h =
    stands_next (sign.TakingFrom r q) (sign.GivingUp r) es e
    ∙ stays_standing (shows (sign.TakingFrom r q) e) (shows (sign.GivingUp r) e) (is_taken r q es) (ap (is_taking_of r q) t) (ap (is_id r) g)
    ∙ held r q h ∙ sym (ap (λ n. n == q) (stay r))

pub give_step : (plan : Plan) (es : List Event) (e : Event) (P O : Power) (x : ℕ) → taken e ≡ None → given_up e ≡ Some x → NotesChange P O x 0 → HeldAsTold plan es P → HeldAsTold plan (es ++ e ∷ []) O
give_step plan es e P O x t g change held r q h = stands_next (sign.TakingFrom r q) (sign.GivingUp r) es e ∙ elim (one_or_two r x) [
  | inl at ↦
      stands_no_more (shows (sign.TakingFrom r q) e) (shows (sign.GivingUp r) e) (is_taken r q es) (ap (is_taking_of r q) t) (ap (is_id r) g ∙ equal x r (sym at))
      ∙ sym (ap (λ n. n == q) (ap (noted O) at ∙ change.here) ∙ managed_some plan q h)
  | inr n ↦
      stays_standing (shows (sign.TakingFrom r q) e) (shows (sign.GivingUp r) e) (is_taken r q es) (ap (is_taking_of r q) t) (ap (is_id r) g ∙ not_equal x r (λ e. n (sym e)))
      ∙ held r q h ∙ sym (ap (λ m. m == q) (change.others r n))
]

taking_told : (e : Event) (x p r q : ℕ) → taken e ≡ Some (record { request = x; queue = p }) → shows (sign.TakingFrom r q) e ≡ (x == r && p == q)
taking_told e x p r q t = ap (is_taking_of r q) t

module _ (plan : Plan) (es : List Event) (e : Event) (P : Power) (x p : ℕ) (t : taken e ≡ Some (record { request = x; queue = p })) (g : given_up e ≡ None) (free : noted P x ≡ 0) where
  others_taken : (O : Power) (r q : ℕ) → (x == r && p == q) ≡ false → noted O r ≡ noted P r → HeldAsTold plan es P → is_managed plan q ≡ true → is_taken r q (es ++ e ∷ []) ≡ (noted O r == q)
  others_taken O r q off same held h =
      stands_next (sign.TakingFrom r q) (sign.GivingUp r) es e
      ∙ stays_standing (shows (sign.TakingFrom r q) e) (shows (sign.GivingUp r) e) (is_taken r q es) (taking_told e x p r q t ∙ off) (ap (is_id r) g)
      ∙ held r q h ∙ sym (ap (λ n. n == q) same)

  take_managed : (O : Power) → NotesChange P O x p → HeldAsTold plan es P → HeldAsTold plan (es ++ e ∷ []) O
  take_managed O change held r q h = elim (one_or_two r x) [
    | inr n ↦ others_taken O r q (ap (λ b. b && p == q) (not_equal x r (λ y. n (sym y)))) (change.others r n) held h
    | inl at ↦ elim (one_or_two p q) [
      | inl here ↦
          stands_next (sign.TakingFrom r q) (sign.GivingUp r) es e
          ∙ is_stood (shows (sign.TakingFrom r q) e) (is_taken r q es) (shows (sign.GivingUp r) e) (taking_told e x p r q t ∙ both (x == r) (p == q) (equal x r (sym at)) (equal p q here))
          ∙ sym (equal (noted O r) q (ap (noted O) at ∙ change.here ∙ here))
      | inr d ↦
          stands_next (sign.TakingFrom r q) (sign.GivingUp r) es e
          ∙ stays_standing (shows (sign.TakingFrom r q) e) (shows (sign.GivingUp r) e) (is_taken r q es) (taking_told e x p r q t ∙ right_fails (x == r) (p == q) (not_equal p q d)) (ap (is_id r) g)
          ∙ held r q h ∙ ap (λ n. n == q) (ap (noted P) at ∙ free) ∙ managed_some plan q h
          ∙ sym (not_equal (noted O r) q (λ y. d (sym (ap (noted O) at ∙ change.here) ∙ y)))
    ]
  ]

  apart_from : is_managed plan p ≡ false → (q : ℕ) → is_managed plan q ≡ true → p ≡ q → ⊥
  apart_from m q h y = let same : is_managed plan p ≡ true = subst (λ (i : ℕ). is_managed plan i ≡ true) (sym y) h in let z : ⊥ = cc in z

  pub take_step : (u : Bool) → is_managed plan p ≡ u → HeldAsTold plan es P → HeldAsTold plan (es ++ e ∷ []) (if u then power.held_more P x p else P)
  take_step true m held r q h = take_managed (power.held_more P x p) (taken_notes P p x) held r q h
  take_step false m held r q h = others_taken P r q (right_fails (x == r) (p == q) (not_equal p q (λ y. apart_from m q h y))) refl held h

-- ---- what isn't held is noted nowhere

pub unheld_noted : {A : Type 0} (plan : Plan) (S : State A) (r : ℕ) → HoldsIn plan S → held_at (is_forgotten S.targets r) (place_of S.requests r) ≡ false → noted S.power r ≡ 0
unheld_noted plan S r h off = h.holdings r ∙ ap (managed_origin plan) (unheld (is_forgotten S.targets r) (request_of S.requests r) off)

-- ---- starts

-- the rank of EvtIoCanceledOnQueue
abbrev same_rank_returns : Rank → Bool
same_rank_returns rank.CanceledOnQueue = true
same_rank_returns _ = false

module _ {A : Type 0} {F B : ℕ → Bool} (plan : Plan) (m : Meaning A) (es : List Event) (S : State A) (k : KeptIn F B S) (hold : HoldsIn plan S) (held : HeldAsTold plan es S.power) where
  start_power : (cpu : Cpu) (c : Callback) (o : Handle) (r : Option Handle) (ds : List Deed)
      → (do_deeds plan (ds ++ PushFrame cpu (frame_id (next_number S)) (new_frame plan S c o r) (irql_of (callback_irql plan c o.id.0)) ∷ take_if_any (next_number S) (lock_of_callback plan c o.id.0 (declared_in plan S o.id.0))) S).power ≡ (do_deeds plan ds S).power
  start_power cpu c o r ds =
      start_reads (λ (T : State A). T.power) (λ T L C. refl) plan S ds cpu.0 (next_number S) (new_frame plan S c o r) (callback_irql plan c o.id.0) (lock_of_callback plan c o.id.0 (declared_in plan S o.id.0))

  -- a start that takes its request from the queue
  start_takes : (cpu : Cpu) (c : Callback) (o r : Handle) (d : Deed) → taken (event.Start cpu c o (Some r)) ≡ Some (record { request = r.id.0; queue = o.id.0 }) → effect_for (row_of c).rank o.id.0 r.id.0 ≡ d ∷ []
      → (do_deed plan d S).power ≡ hold_power plan S.power r.id.0 o.id.0 → noted S.power r.id.0 ≡ 0 → HeldAsTold plan (es ++ event.Start cpu c o (Some r) ∷ []) (after plan m S (event.Start cpu c o (Some r))).power
  start_takes cpu c o r d t is made free =
      subst (HeldAsTold plan (es ++ event.Start cpu c o (Some r) ∷ [])) (sym (start_power cpu c o (Some r) (effect_for (row_of c).rank o.id.0 r.id.0) ∙ ap (λ (ds : List Deed). (do_deeds plan ds S).power) is ∙ made))
      (take_step plan es (event.Start cpu c o (Some r)) S.power r.id.0 o.id.0 t refl free (is_managed plan o.id.0) refl held)

  handler_takes : (cpu : Cpu) (c : Callback) (o r : Handle) → may plan m S (event.Start cpu c o (Some r)) ≡ true → taken (event.Start cpu c o (Some r)) ≡ Some (record { request = r.id.0; queue = o.id.0 })
      → (row_of c).rank ≡ rank.Handler → HeldAsTold plan (es ++ event.Start cpu c o (Some r) ∷ []) (after plan m S (event.Start cpu c o (Some r))).power
  handler_takes cpu c o r h t is =
      let ready_ : rank_ready_for plan S rank.Handler c o.id.0 r.id.0 ≡ true = subst (λ (y : Rank). rank_ready_for plan S y c o.id.0 r.id.0 ≡ true) is (started plan m S cpu c o (Some r) h) in
      let front_ : same_id (front S.queues o.id.0) r.id.0 ≡ true = search (both_left, both_right) in
      start_takes cpu c o r (Present o.id r.id) t (ap (λ (y : Rank). effect_for y o.id.0 r.id.0) is) refl
      (unheld_noted plan S r.id.0 hold (queued_unheld (is_forgotten S.targets r.id.0) o.id.0 (place_of S.requests r.id.0) (front_queued S o.id.0 r.id.0 front_ k)))

  return_takes : (cpu : Cpu) (o r : Handle) → may plan m S (event.Start cpu callback.EvtIoCanceledOnQueue o (Some r)) ≡ true
      → HeldAsTold plan (es ++ event.Start cpu callback.EvtIoCanceledOnQueue o (Some r) ∷ []) (after plan m S (event.Start cpu callback.EvtIoCanceledOnQueue o (Some r))).power
  return_takes cpu o r h =
      let ready_ : rank_ready_for plan S rank.CanceledOnQueue callback.EvtIoCanceledOnQueue o.id.0 r.id.0 ≡ true = started plan m S cpu callback.EvtIoCanceledOnQueue o (Some r) h in
      start_takes cpu callback.EvtIoCanceledOnQueue o r (Receive o.id r.id) refl refl refl
      (unheld_noted plan S r.id.0 hold (returning_unheld (is_forgotten S.targets r.id.0) o.id.0 (place_of S.requests r.id.0) ready_))

  effect_for_notes : (y : Rank) (o r : ℕ) → is_handler y ≡ false → same_rank_returns y ≡ false → NotesStay S.power (do_deeds plan (effect_for y o r) S).power
  effect_for_notes rank.CanceledOnQueue o r h j = absurd (let z : ⊥ = cc in z)
  effect_for_notes rank.Stop o r h j = deed_notes plan (AskStop (object_id r)) S refl
  effect_for_notes rank.Resume o r h j = deed_notes plan (Resume (object_id r)) S refl
  effect_for_notes rank.Handler o r h j = absurd (let z : ⊥ = cc in z)
  effect_for_notes _ o r h j = λ x. refl

  effect_notes : (y : Rank) (cpu : ℕ) (c : Callback) (o : ℕ) → (do_deeds plan (effect plan S y cpu c o) S).power ≡ S.power
  effect_notes rank.Destroy cpu c o = refl
  effect_notes _ cpu c o = refl

  none_told : (b : Bool) (o : Option ℕ) → pair_of (where_so b None) o ≡ None
  none_told true o = refl
  none_told false o = refl

  start_silent : (cpu : Cpu) (c : Callback) (o r : Handle) → taken (event.Start cpu c o (Some r)) ≡ None → is_handler (row_of c).rank ≡ false → same_rank_returns (row_of c).rank ≡ false
      → HeldAsTold plan (es ++ event.Start cpu c o (Some r) ∷ []) (after plan m S (event.Start cpu c o (Some r))).power
  start_silent cpu c o r t h j =
      subst (HeldAsTold plan (es ++ event.Start cpu c o (Some r) ∷ [])) (sym (start_power cpu c o (Some r) (effect_for (row_of c).rank o.id.0 r.id.0)))
      (silent_step plan es (event.Start cpu c o (Some r)) S.power (do_deeds plan (effect_for (row_of c).rank o.id.0 r.id.0) S).power t refl (effect_for_notes (row_of c).rank o.id.0 r.id.0 h j) held)

  pub start_holds : (cpu : Cpu) (c : Callback) (o : Handle) (r : Option Handle) → may plan m S (event.Start cpu c o r) ≡ true → HeldAsTold plan (es ++ event.Start cpu c o r ∷ []) (after plan m S (event.Start cpu c o r)).power
  start_holds cpu c o None h =
      silent_step plan es (event.Start cpu c o None) S.power (after plan m S (event.Start cpu c o None)).power (none_told (is_handler (row_of c).rank || same_callback c callback.EvtIoCanceledOnQueue) (Some o.id.0)) refl
      (notes_same S.power (after plan m S (event.Start cpu c o None)).power (start_power cpu c o None (effect plan S (row_of c).rank cpu.0 c o.id.0) ∙ effect_notes (row_of c).rank cpu.0 c o.id.0)) held
  start_holds cpu callback.EvtIoCanceledOnQueue o (Some r) h = return_takes cpu o r h
  start_holds cpu callback.EvtIoRead o (Some r) h = handler_takes cpu callback.EvtIoRead o r h refl refl
  start_holds cpu callback.EvtIoWrite o (Some r) h = handler_takes cpu callback.EvtIoWrite o r h refl refl
  start_holds cpu callback.EvtIoDeviceControl o (Some r) h = handler_takes cpu callback.EvtIoDeviceControl o r h refl refl
  start_holds cpu callback.EvtIoDefault o (Some r) h = handler_takes cpu callback.EvtIoDefault o r h refl refl
  start_holds cpu c o (Some r) h = start_silent cpu c o r refl refl refl
