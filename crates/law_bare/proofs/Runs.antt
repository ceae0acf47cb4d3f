-- The runs of two plans are the same but for line numbers, where the plans are, and what the agents see of them.
use Rattle.std.proofs.Common.{◌≡◌, ℕ, ◌+◌, ◌-◌, Bool, List, [], ◌∷◌, filter, fold, length, map, Option, Some, None, option_map, slice_get, refl, sym, ap, ◌∙◌}
use Rattle.std.specs.Prelude.{option_and_then}
use Rattle.std.specs.List.{range_with_len}
use Rattle.std.proofs.lemmas.List.{length-map}
use Rattle.wdf_base.specs.Meaning.{Meaning}
use Rattle.wdf_base.specs.declared.call.Callback.TheVariants as callback
use Rattle.wdf_base.specs.declared.declared.DeviceInfo.{DeviceInfo}
use Rattle.wdf_base.specs.declared.event.Ending.{Ending}
use Rattle.wdf_base.specs.declared.event.Event.{Event}
use Rattle.wdf_base.specs.declared.event.Event.TheVariants as event
use Rattle.wdf_base.specs.declared.event.Fault.{Fault}
use Rattle.wdf_base.specs.declared.plan.Plan.{Plan}
use Rattle.wdf_model.specs.Plans.{agent_count, declared_ids, declares, device_of, interrupts_of}
use Rattle.wdf_model.specs.parts.Pnp.{device_steps, interrupt_steps, opening_pnp, opening_sequence}
use Rattle.wdf_model.specs.parts.Power.{opening_power, opening_queue_power}
use Rattle.wdf_model.specs.State.{State, opening, opening_agents}
use Rattle.wdf_model.specs.rules.Deeds.{counted, do_deeds, told}
use Rattle.wdf_model.specs.rules.Ready.{IsPickedRun, IsRunOf, ending_by, ending_of, fault_in, final_ending, is_open, last_fault, ready, ready_in, state_after, unless_fault}
use Rattle.wdf_model.specs.rules.Steps.{after, deeds}
use Rattle.wdf_model.proofs.Counting.{counted_first, counting_commutes}
use Rattle.law_bare.specs.Bare.{HasLikePicked, HasLikeRun, SeesNoLines, bare_event}
use Rattle.law_bare.specs.Lines.{bare_plan}
use Rattle.law_bare.proofs.Alike.{picked_alike, run_alike}
use Rattle.law_bare.proofs.Deeds.{deeds_same, event_deeds_same, with_agents}
use Rattle.law_bare.proofs.Lists.{at_mapped, map_alike}
use Rattle.law_bare.proofs.Plans.{count_same, declares_same}
use Rattle.law_bare.proofs.Ready.{due_same, ready_same, stripped}

-- ---- the last event

fault_same : (e : Event) → fault_in (bare_event e) ≡ fault_in e
fault_same (event.Local cpu line) = refl
fault_same (event.Fault cpu x line) = refl
fault_same _ = refl

fault_by : (o : Option Event) → option_and_then fault_in (option_map bare_event o) ≡ option_and_then fault_in o
fault_by None = refl
fault_by (Some e) = fault_same e

last_same : (run : List Event) → last_fault (map bare_event run) ≡ last_fault run
last_same run =
    ap (λ n. option_and_then fault_in (slice_get (map bare_event run) (n - 1))) (length-map run bare_event)
    ∙ ap (option_and_then fault_in) (at_mapped bare_event run (length run - 1)) ∙ fault_by (slice_get run (length run - 1))

-- ---- the opening

filter_same : {T : Type 0} (p q : T → Bool) → ((x : T) → p x ≡ q x) → (xs : List T) → filter p xs ≡ filter q xs
filter_same p q same [] = refl
filter_same p q same (x ∷ xs) = rw (same x, filter_same p q same xs) refl

module _ (plan : Plan) where
  interrupts_same : (i : ℕ) → interrupt_steps (bare_plan plan) i ≡ interrupt_steps plan i
  interrupts_same i = rw (declares_same plan callback.EvtInterruptEnable i, declares_same plan callback.EvtInterruptDisable i) refl

  steps_same : (d : ℕ) → device_steps (bare_plan plan) d ≡ device_steps plan d
  steps_same d =
      rw (filter_same (λ c. declares (bare_plan plan) c d) (λ c. declares plan c d) (λ c. declares_same plan c d) _, map_alike (interrupt_steps (bare_plan plan)) (interrupt_steps plan) interrupts_same (interrupts_of plan d)) refl

  sequence_same : (d : ℕ) (o : Option DeviceInfo) → opening_sequence (bare_plan plan) d o ≡ opening_sequence plan d o
  sequence_same d None = refl
  sequence_same d (Some i) = rw (steps_same d) refl

  pnp_same : opening_pnp (bare_plan plan) ≡ opening_pnp plan
  pnp_same =
      ap (λ ds. record { devices = ds })
      (map_alike (λ d. opening_sequence (bare_plan plan) d (device_of plan d)) (λ d. opening_sequence plan d (device_of plan d)) (λ d. sequence_same d (device_of plan d)) (declared_ids plan))

  queue_same : (q : ℕ) → opening_queue_power (bare_plan plan) q ≡ opening_queue_power plan q
  queue_same q = rw (declares_same plan callback.EvtIoResume q) refl

  power_same : opening_power (bare_plan plan) ≡ opening_power plan
  power_same = rw (map_alike (opening_queue_power (bare_plan plan)) (opening_queue_power plan) queue_same (declared_ids plan)) refl

  parts_same : {A : Type 0} (m : Meaning A) (agents : List A) → with_agents agents (opening plan m) ≡ with_agents agents (opening (bare_plan plan) m)
  parts_same m agents = rw (pnp_same, power_same) refl

module _ {A : Type 0} (m : Meaning A) (bare : A → A) (unseen : SeesNoLines m bare) where
  -- ---- one event more

  heard_by : (e : Event) (xs : List A) → map (λ a. m.fold a (bare_event e)) (map bare xs) ≡ map bare (map (λ a. m.fold a e) xs)
  heard_by e [] = refl
  heard_by e (a ∷ xs) = ap (λ b. b ∷ map (λ a. m.fold a (bare_event e)) (map bare xs)) (unseen.fold a e) ∙ ap (λ bs. bare (m.fold a e) ∷ bs) (heard_by e xs)

  told_same : (e : Event) (xs : List A) → told m (bare_event e) (map bare xs) ≡ map bare (told m e xs)
  told_same (event.Local cpu line) xs = refl
  told_same (event.Log cpu v) xs = refl
  told_same (event.Fault cpu x line) xs = heard_by (event.Fault cpu x line) xs
  told_same (event.Start cpu c o r) xs = heard_by (event.Start cpu c o r) xs
  told_same (event.Spend cpu n) xs = heard_by (event.Spend cpu n) xs
  told_same (event.Register cpu a r n) xs = heard_by (event.Register cpu a r n) xs
  told_same (event.Did cpu c v) xs = heard_by (event.Did cpu c v) xs
  told_same (event.Waiting cpu c) xs = heard_by (event.Waiting cpu c) xs
  told_same (event.Woke cpu c v) xs = heard_by (event.Woke cpu c v) xs
  told_same (event.Park cpu f) xs = heard_by (event.Park cpu f) xs
  told_same (event.Unpark cpu f) xs = heard_by (event.Unpark cpu f) xs
  told_same (event.End cpu c o v) xs = heard_by (event.End cpu c o v) xs
  told_same (event.Stage d s i) xs = heard_by (event.Stage d s i) xs
  told_same (event.Complete r s) xs = heard_by (event.Complete r s) xs
  told_same (event.Cleanup o) xs = heard_by (event.Cleanup o) xs
  told_same (event.Destroy o) xs = heard_by (event.Destroy o) xs
  told_same (event.Posted a p answer) xs = heard_by (event.Posted a p answer) xs
  told_same (event.Tick time) xs = heard_by (event.Tick time) xs

  module _ (plan : Plan) where
    abbrev strip : State A → State A
    strip S = stripped plan m bare unseen S

    -- no deed changes the agents
    heard_after : (S : State A) (e : Event) → told m e (do_deeds plan (deeds plan S e) S).agents ≡ told m e S.agents
    heard_after S e =
        ap (λ (T : State A). T.agents) (sym (counted_first plan m (deeds plan S e) e S)) ∙ ap (λ (T : State A). T.agents) (counting_commutes plan m (deeds plan S e) e S)

    after_same : (S : State A) (e : Event) → after (bare_plan plan) m (strip S) (bare_event e) ≡ strip (after plan m S e)
    after_same S e =
        let D : State A = do_deeds plan (deeds plan S e) S in
        ap (λ ds. counted m (bare_event e) (do_deeds (bare_plan plan) ds (strip S))) (event_deeds_same plan (map bare S.agents) S e)
        ∙ ap (counted m (bare_event e)) (deeds_same plan (map bare S.agents) (deeds plan S e) S)
        ∙ ap (λ xs. record D { agents = xs; number = D.number + 1 }) (told_same e S.agents ∙ ap (map bare) (sym (heard_after S e)))

    fold_same : (es : List Event) (S : State A) → strip (fold (after plan m) S es) ≡ fold (after (bare_plan plan) m) (strip S) (map bare_event es)
    fold_same [] S = refl
    fold_same (e ∷ es) S = fold_same es (after plan m S e) ∙ ap (λ (T : State A). fold (after (bare_plan plan) m) T (map bare_event es)) (sym (after_same S e))

    state_same : (run : List Event) → strip (state_after plan m run) ≡ fold (after (bare_plan plan) m) (strip (opening plan m)) (map bare_event run)
    unfolding state_after
    state_same run = fold_same run (opening plan m)

    -- ---- what may follow, and how a run ends, by the bare plan, opening and events alone

    unless_by : (x : Option Fault) (es : List Event) → map bare_event (unless_fault x es) ≡ unless_fault x (map bare_event es)
    unless_by None es = refl
    unless_by (Some x) es = refl

  abbrev bare_ready : Plan → State A → List Event → List Event
  bare_ready plan T es = unless_fault (last_fault es) (ready_in plan m (fold (after plan m) T es))

  ready_bare : (plan : Plan) (run : List Event) → map bare_event (ready plan m run) ≡ bare_ready (bare_plan plan) (strip plan (opening plan m)) (map bare_event run)
  unfolding ready
  ready_bare plan run =
      unless_by plan (last_fault run) (ready_in plan m (state_after plan m run))
      ∙ ap (λ x. unless_fault x (map bare_event (ready_in plan m (state_after plan m run)))) (sym (last_same run))
      ∙ ap (unless_fault (last_fault (map bare_event run))) (sym (ready_same plan m bare unseen (state_after plan m run)) ∙ ap (ready_in (bare_plan plan) m) (state_same plan run))

  open_same : (plan : Plan) (S : State A) → is_open (bare_plan plan) m (strip plan S) ≡ is_open plan m S
  open_same plan S = rw (due_same plan m bare unseen S 0) refl

  final_same : (plan : Plan) (S : State A) (x : Option Fault) → final_ending (bare_plan plan) m (strip plan S) x ≡ final_ending plan m S x
  final_same plan S None = rw (open_same plan S) refl
  final_same plan S (Some x) = refl

  ending_same : (plan : Plan) (S : State A) (x : Option Fault) (es : List Event) → ending_by (bare_plan plan) m (strip plan S) x (map bare_event es) ≡ ending_by plan m S x es
  ending_same plan S x [] = final_same plan S x
  ending_same plan S x (e ∷ es) = refl

  abbrev bare_ending : Plan → State A → List Event → Ending
  bare_ending plan T es = ending_by plan m (fold (after plan m) T es) (last_fault es) (bare_ready plan T es)

  ending_bare : (plan : Plan) (run : List Event) → ending_of plan m run ≡ bare_ending (bare_plan plan) (strip plan (opening plan m)) (map bare_event run)
  unfolding ending_of
  ending_bare plan run =
      sym (ending_same plan (state_after plan m run) (last_fault run) (ready plan m run))
      ∙ ap (λ x. ending_by (bare_plan plan) m (strip plan (state_after plan m run)) x (map bare_event (ready plan m run))) (sym (last_same run))
      ∙ ap (λ es. ending_by (bare_plan plan) m (strip plan (state_after plan m run)) (last_fault (map bare_event run)) es) (ready_bare plan run)
      ∙ ap (λ T. ending_by (bare_plan plan) m T (last_fault (map bare_event run)) (bare_ready (bare_plan plan) (strip plan (opening plan m)) (map bare_event run))) (state_same plan run)

  -- ---- two plans

  module _ (one two : Plan) (plans : bare_plan one ≡ bare_plan two) (begins : (k : ℕ) → bare (m.begin one k) ≡ bare (m.begin two k)) where
    mapped_by : (xs : List ℕ) → map bare (map (m.begin one) xs) ≡ map bare (map (m.begin two) xs)
    mapped_by [] = refl
    mapped_by (k ∷ ks) = ap (λ a. a ∷ map bare (map (m.begin one) ks)) (begins k) ∙ ap (λ xs. bare (m.begin two k) ∷ xs) (mapped_by ks)

    counts : agent_count one ≡ agent_count two
    counts = sym (count_same one) ∙ ap agent_count plans ∙ count_same two

    agents_same : map bare (opening_agents one m) ≡ map bare (opening_agents two m)
    agents_same = mapped_by (range_with_len 0 (agent_count one)) ∙ ap (λ n. map bare (map (m.begin two) (range_with_len 0 n))) counts

    opening_same : strip one (opening one m) ≡ strip two (opening two m)
    opening_same =
        parts_same one m (map bare (opening_agents one m)) ∙ ap (λ xs. with_agents xs (opening (bare_plan one) m)) agents_same
        ∙ ap (λ P. with_agents (map bare (opening_agents two m)) (opening P m)) plans ∙ sym (parts_same two m (map bare (opening_agents two m)))

    alike : (xs ys : List Event) → map bare_event xs ≡ map bare_event ys → map bare_event (ready one m xs) ≡ map bare_event (ready two m ys)
    alike xs ys same =
        ready_bare one xs ∙ ap (λ P. bare_ready P (strip one (opening one m)) (map bare_event xs)) plans
        ∙ ap (λ T. bare_ready (bare_plan two) T (map bare_event xs)) opening_same ∙ ap (bare_ready (bare_plan two) (strip two (opening two m))) same ∙ sym (ready_bare two ys)

    endings_alike : (xs ys : List Event) → map bare_event xs ≡ map bare_event ys → ending_of one m xs ≡ ending_of two m ys
    endings_alike xs ys same =
        ending_bare one xs ∙ ap (λ P. bare_ending P (strip one (opening one m)) (map bare_event xs)) plans
        ∙ ap (λ T. bare_ending (bare_plan two) T (map bare_event xs)) opening_same ∙ ap (bare_ending (bare_plan two) (strip two (opening two m))) same ∙ sym (ending_bare two ys)

    picked_runs : (picks : List ℕ) (run : List Event) → IsPickedRun one m picks run → (other : List Event) × IsPickedRun two m picks other × (map bare_event run ≡ map bare_event other)
    picked_runs picks run p = picked_alike bare_event (ready one m) (ready two m) alike picks run p

    any_runs : (run : List Event) → IsRunOf one m run → (other : List Event) × IsRunOf two m other × (map bare_event run ≡ map bare_event other)
    any_runs run p = run_alike bare_event (ready one m) (ready two m) alike run p

    pub like_picked : (picks : List ℕ) (run : List Event) → IsPickedRun one m picks run → HasLikePicked one two m picks run
    like_picked picks run p = let it = picked_runs picks run p in (it.0, it.1, it.2, endings_alike run it.0 it.2)

    pub like_run : (run : List Event) → IsRunOf one m run → HasLikeRun one two m run
    like_run run p = let it = any_runs run p in (it.0, it.1, it.2, endings_alike run it.0 it.2)
