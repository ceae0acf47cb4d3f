-- What the words say of a device's rest stays so in the machine, whatever event comes.
use Rattle.std.proofs.Common.{if◌then◌else◌, ◌≡◌, ℕ, ◌==◌, Bool, true, false, not, ◌&&◌, ◌||◌, List, [], ◌∷◌, ◌++◌, inl, inr, Option, Some, None, drop, length, refl, sym, ap, subst, ◌∙◌}
use Rattle.std.proofs.lemmas.Bool.{eqb-true}
use Rattle.wdf_base.specs.declared.ids.Cpu.{Cpu}
use Rattle.wdf_base.specs.declared.ids.Handle.{Handle}
use Rattle.wdf_base.specs.declared.value.Value.{Value}
use Rattle.wdf_base.specs.declared.call.Callback.{Callback}
use Rattle.wdf_base.specs.declared.call.Callback.TheVariants as callback
use Rattle.wdf_base.specs.declared.event.Ask.{Ask}
use Rattle.wdf_base.specs.declared.event.Ask.TheVariants as asks
use Rattle.wdf_base.specs.declared.event.Event.{Event}
use Rattle.wdf_base.specs.declared.event.Event.TheVariants as event
use Rattle.wdf_base.specs.declared.event.Post.{Post}
use Rattle.wdf_base.specs.declared.event.Post.TheVariants as post
use Rattle.wdf_base.specs.declared.event.Stage.{Stage}
use Rattle.wdf_base.specs.declared.event.Stage.TheVariants as stage
use Rattle.wdf_base.specs.declared.event.Step.{Step}
use Rattle.wdf_base.specs.declared.event.Step.TheVariants as step
use Rattle.wdf_base.specs.Callbacks.{is_query, row_of}
use Rattle.wdf_base.specs.Same.{same_callback}
use Rattle.wdf_base.specs.Lives.{is_gone}
use Rattle.wdf_model.specs.declared.enums.Phase.{Phase}
use Rattle.wdf_model.specs.declared.enums.Phase.TheVariants.{Working, Sleeping}
use Rattle.wdf_model.specs.parts.Tree.{life_of, nearest_device}
use Rattle.wdf_model.specs.parts.Pnp.{Sequence, busy, is_running_step, left_after, left_after_failure, no_sequence, sequence_of, steps_for, steps_left, taken_step}
use Rattle.wdf_model.specs.parts.Pnp as pnp
use Rattle.wdf_model.specs.State.{State}
use Rattle.wdf_model.specs.agents.IdlePolicy.{ends_asleep, ends_awake}
use Rattle.wdf_model.proofs.Counts.{equal, not_equal, one_or_two}
use Rattle.wdf_model.proofs.Maps.{entry_put_other, entry_put_same}
use Rattle.wdf_model.proofs.Tests.{either_false}
use Rattle.wdf_laws.specs.Events.{is_id, where_so}
use Rattle.law_machine_base.specs.Agreement.{is_sequence}
use Rattle.law_trace_power.proofs.Happens.{not_running, taken_pass, taken_run}
use Rattle.law_trace_turns.specs.Turned.{Asked, Begun, Ended, Passed, Still, Turned, is_asking, is_turning}
use Rattle.wdf_model.specs.agents.StackManager.{is_working}
use Rattle.law_idle.specs.Idling.{Rest, asleep_step, awake_step, refuses_removal, refuses_stop, rest_after}
use Rattle.law_idle.specs.Resting.{IsAtRest, Rests, has_query, is_sleeping, is_tidy}
use Rattle.law_idle.proofs.Lists.{end_asks_not, end_tidy, lists_tidy, rest_is_last, tail_asks_not, tail_asks_nothing, tail_is_tidy, tidy_tail}
use Rattle.law_machine_lives.proofs.Lists.{none_left}
use Rattle.law_trace_power.specs.UnderWay.{step_if_any, under_way}
use Rattle.law_trace_power.proofs.Sequences.{refused_query}
use Rattle.wdf_base.specs.Values.{is_success}

-- ---- truth values

nothing_new : (a w : Bool) → ((false || (a && true)) || (w && false)) ≡ a
nothing_new true w = refl
nothing_new false true = refl
nothing_new false false = refl

-- ---- words that stay

rest_same : (ends : Ask → Bool) (W : Rest) → rest_after false ends false None W ≡ W
rest_same ends W = ap (λ b. record W { now = b }) (nothing_new W.now W.before)

same_by : (begins refused : Bool) (asked : Option Ask) (ends : Ask → Bool) (W : Rest) → begins ≡ false → refused ≡ false → asked ≡ None → rest_after begins ends refused asked W ≡ W
same_by begins refused asked ends W a b c = rw (a, b, c) (rest_same ends W)

-- both words stay
abbrev SameWords : ℕ → Rest → Rest → Event → Type 0
SameWords d W Z e = (awake_step d W e ≡ W) × (asleep_step d Z e ≡ Z)

no_refusal : (c : Callback) → is_sequence (row_of c).rank ≡ false → (same_callback c callback.EvtDeviceQueryStop ≡ false) × (same_callback c callback.EvtDeviceQueryRemove ≡ false)
no_refusal callback.EvtDeviceQueryStop h = absurd (let z : ⊥ = cc in z)
no_refusal callback.EvtDeviceQueryRemove h = absurd (let z : ⊥ = cc in z)
no_refusal _ h = (refl, refl)

post_same : (d : ℕ) (W Z : Rest) (agent : ℕ) (p : Post) (answer : Option Handle) → is_asking p ≡ false → SameWords d W Z (event.Posted agent p answer)
post_same d W Z agent (post.Ask a n) answer h = absurd (let z : ⊥ = cc in z)
post_same d W Z agent _ answer h = (rest_same ends_awake W, rest_same ends_asleep Z)

end_same : (d : ℕ) (W Z : Rest) (cpu : Cpu) (c : Callback) (o : Handle) (v : Value) → is_sequence (row_of c).rank ≡ false → SameWords d W Z (event.End cpu c o v)
end_same d W Z cpu c o v h =
    let n = no_refusal c h in
    let e : Event = event.End cpu c o v in
    let stop : refuses_stop d e ≡ false = rw n.0 refl in
    let removal : refuses_removal d e ≡ false = rw n.1 refl in
    (same_by false (refuses_stop d e || refuses_removal d e) None ends_awake W refl (rw (stop, removal) refl) refl, same_by false (refuses_removal d e) None ends_asleep Z refl removal refl)

quiet_same : (d : ℕ) (W Z : Rest) (e : Event) → is_turning e ≡ false → SameWords d W Z e
quiet_same d W Z (event.Stage n s j) h = absurd (let z : ⊥ = cc in z)
quiet_same d W Z (event.Posted agent p answer) h = post_same d W Z agent p answer h
quiet_same d W Z (event.End cpu c o v) h = end_same d W Z cpu c o v h
quiet_same d W Z _ h = (rest_same ends_awake W, rest_same ends_asleep Z)

-- ---- a device of which something is under way

-- it is neither awake nor asleep
record IsBusy (W Z : Rest) : Type 0 where
  awake : W.now ≡ false
  asleep : Z.now ≡ false

falls : (b : Bool) → (b ≡ true → ⊥) → b ≡ false
falls true h = absurd (h refl)
falls false h = refl

busy_left : (W Z : Rest) (q : Sequence) (s : Step) (ss : List Step) → q.left ≡ s ∷ ss → Rests W Z q → IsBusy W Z
busy_left W Z q s ss h r = record {
  awake = falls W.now (λ t. let k = (r.awake_is t).left in let z : ⊥ = cc in z);
  asleep = falls Z.now (λ t. let k = (r.asleep_is t).left in let z : ⊥ = cc in z);
}

busy_running : (W Z : Rest) (q : Sequence) (s : Step) → q.running ≡ Some s → Rests W Z q → IsBusy W Z
busy_running W Z q s h r = record {
  awake = falls W.now (λ t. let k = (r.awake_is t).running in let z : ⊥ = cc in z);
  asleep = falls Z.now (λ t. let k = (r.asleep_is t).running in let z : ⊥ = cc in z);
}

-- ---- a step's callback begins

begins : (W Z : Rest) (q : Sequence) (c : Callback) (j : Option Handle) (ss : List Step) → q.running ≡ None → q.left ≡ step.Run c j ∷ ss → Rests W Z q → Rests W Z (record q { left = ss; running = Some (step.Run c j) })
begins W Z q c j ss idle left r =
    let same : under_way q ≡ step.Run c j ∷ ss = ap (λ x. step_if_any x ++ q.left) idle ∙ left in
    let b : IsBusy W Z = busy_left W Z q (step.Run c j) ss left r in
    record {
      awake_is = λ t. absurd (let f = b.awake in let z : ⊥ = cc in z);
      asleep_is = λ t. absurd (let f = b.asleep in let z : ⊥ = cc in z);
      was_awake = λ h w. r.was_awake (ap has_query same ∙ h) w;
      was_asleep = λ h w. r.was_asleep (ap has_query same ∙ h) w;
      tidy = sym (ap is_tidy same) ∙ r.tidy;
    }

-- ---- a step's callback ends

abbrev refused : ℕ → Event → Bool
refused d e = refuses_stop d e || refuses_removal d e

-- what a refusal is
record IsRefusal (d : ℕ) (c : Callback) (o : Handle) (v : Value) : Type 0 where
  query : is_query c ≡ true
  fails : is_success v ≡ false
  on : o.id.0 ≡ d

told : (d : ℕ) (o : Handle) (v : Value) (b : Bool) → is_success v ≡ b → is_id d (where_so (not b) (Some o.id.0)) ≡ true → (is_success v ≡ false) × (o.id.0 ≡ d)
told d o v true e h = absurd (let z : ⊥ = cc in z)
told d o v false e h = (e, eqb-true o.id.0 d h)

or_none : (b : Bool) → (b || false) ≡ true → b ≡ true
or_none true h = refl
or_none false h = h

removal_by : (d : ℕ) (cpu : Cpu) (c : Callback) (o : Handle) (v : Value) → refuses_removal d (event.End cpu c o v) ≡ true → IsRefusal d c o v
removal_by d cpu callback.EvtDeviceQueryRemove o v h = let t = told d o v (is_success v) refl h in record { query = refl; fails = t.0; on = t.1 }
removal_by d cpu _ o v h = absurd (let z : ⊥ = cc in z)

refusal_by : (d : ℕ) (cpu : Cpu) (c : Callback) (o : Handle) (v : Value) → refused d (event.End cpu c o v) ≡ true → IsRefusal d c o v
refusal_by d cpu callback.EvtDeviceQueryStop o v h = let t = told d o v (is_success v) refl (or_none (is_id d (where_so (not (is_success v)) (Some o.id.0))) h) in record { query = refl; fails = t.0; on = t.1 }
refusal_by d cpu callback.EvtDeviceQueryRemove o v h = let t = told d o v (is_success v) refl h in record { query = refl; fails = t.0; on = t.1 }
refusal_by d cpu _ o v h = absurd (let z : ⊥ = cc in z)

failure_asks_not : (q : Sequence) (c : Callback) → has_query q.left ≡ false → has_query (left_after_failure q c) ≡ false
failure_asks_not q callback.EvtDeviceQueryStop h = refl
failure_asks_not q callback.EvtDeviceQueryRemove h = refl
failure_asks_not q callback.EvtDevicePrepareHardware h = end_asks_not q.steps q.ever_working
failure_asks_not q callback.EvtDeviceD0Entry h = tail_asks_nothing q.steps q.ever_working
failure_asks_not q _ h = h

failure_tidy : (q : Sequence) (c : Callback) → is_tidy q.left ≡ true → is_tidy (left_after_failure q c) ≡ true
failure_tidy q callback.EvtDeviceQueryStop h = refl
failure_tidy q callback.EvtDeviceQueryRemove h = refl
failure_tidy q callback.EvtDevicePrepareHardware h = end_tidy q.steps q.ever_working
failure_tidy q callback.EvtDeviceD0Entry h = tail_is_tidy q.steps q.ever_working
failure_tidy q _ h = h

either_way : (P : List Step → Type 0) (b : Bool) (xs ys : List Step) → P xs → P ys → P (if b then xs else ys)
either_way P true xs ys h k = h
either_way P false xs ys h k = k

comes_back : (a w f : Bool) → a ≡ false → ((false || (a && true)) || (w && f)) ≡ true → (w ≡ true) × (f ≡ true)
comes_back a true f e h = (refl, (rw e at h))
comes_back true false f e h = absurd (let z : ⊥ = cc in z)
comes_back false false f e h = absurd (let z : ⊥ = cc in z)

module _ (d : ℕ) (W Z : Rest) (q : Sequence) (cpu : Cpu) (c : Callback) (j l : Option Handle) (o : Handle) (v : Value) (runs : q.running ≡ Some (step.Run c j)) (r : Rests W Z q) where
  abbrev e : Event
  e = event.End cpu c o v

  abbrev left : List Step
  left = left_after q (step.Run c l) v

  whole : under_way q ≡ step.Run c j ∷ q.left
  whole = ap (λ x. step_if_any x ++ q.left) runs

  was_tidy : is_tidy (step.Run c j ∷ q.left) ≡ true
  was_tidy = sym (ap is_tidy whole) ∙ r.tidy

  asks_not : has_query left ≡ false
  asks_not =
      let rest : has_query q.left ≡ false = tail_asks_not (step.Run c j) q.left was_tidy in
      either_way (λ ss. has_query ss ≡ false) (is_success v) q.left (left_after_failure q c) rest (failure_asks_not q c rest)

  left_tidy : is_tidy left ≡ true
  left_tidy =
      let rest : is_tidy q.left ≡ true = tidy_tail (step.Run c j) q.left was_tidy in
      either_way (λ ss. is_tidy ss ≡ true) (is_success v) q.left (left_after_failure q c) rest (failure_tidy q c rest)

  asked : is_query c ≡ true → has_query (under_way q) ≡ true
  asked h = ap has_query whole ∙ rw h refl

  at_rest : (phase : Phase → Bool) → phase q.phase ≡ true → IsRefusal d c o v → IsAtRest phase (record q { left = left; running = None })
  at_rest phase h f = record {
    phase_is = h;
    left = let n : left ≡ left_after_failure q c = rw f.fails refl in n ∙ refused_query q c f.query;
    running = refl;
  }

  ends : Rests (awake_step d W e) (asleep_step d Z e) (record q { left = left; running = None })
  ends =
      let b : IsBusy W Z = busy_running W Z q (step.Run c j) runs r in
      record {
        awake_is = λ t.
            let w = comes_back W.now W.before (refused d e) b.awake t in
            let f : IsRefusal d c o v = refusal_by d cpu c o v w.1 in
            at_rest is_working (r.was_awake (asked f.query) w.0) f;
        asleep_is = λ t.
            let w = comes_back Z.now Z.before (refuses_removal d e) b.asleep t in
            let f : IsRefusal d c o v = removal_by d cpu c o v w.1 in
            at_rest is_sleeping (r.was_asleep (asked f.query) w.0) f;
        was_awake = λ h w. absurd (let n = asks_not in let z : ⊥ = cc in z);
        was_asleep = λ h w. absurd (let n = asks_not in let z : ⊥ = cc in z);
        tidy = left_tidy;
      }

-- the callback of another device's step ends
ends_elsewhere : (d : ℕ) (W Z : Rest) (cpu : Cpu) (c : Callback) (o : Handle) (v : Value) → (o.id.0 ≡ d → ⊥) → SameWords d W Z (event.End cpu c o v)
ends_elsewhere d W Z cpu c o v other =
    let e : Event = event.End cpu c o v in
    let any : refused d e ≡ false = falls (refused d e) (λ h. other (refusal_by d cpu c o v h).on) in
    let removal : refuses_removal d e ≡ false = falls (refuses_removal d e) (λ h. other (removal_by d cpu c o v h).on) in
    (same_by false (refused d e) None ends_awake W refl any refl, same_by false (refuses_removal d e) None ends_asleep Z refl removal refl)

-- ---- a stage is passed

passes : (d : ℕ) (W Z : Rest) (q : Sequence) (n : Handle) (s : Stage) (j : Option Handle) (ss : List Step) → n.id.0 ≡ d → q.running ≡ None → q.left ≡ step.Pass s j ∷ ss → Rests W Z q
    → Rests (awake_step d W (event.Stage n s j)) (asleep_step d Z (event.Stage n s j)) (pnp.passed s (record q { left = ss }))
passes d W Z q n s j ss is idle left r = by s left
  where
    b : (s : Stage) → q.left ≡ step.Pass s j ∷ ss → IsBusy W Z
    b s left = busy_left W Z q (step.Pass s j) ss left r

    whole : (s : Stage) → q.left ≡ step.Pass s j ∷ ss → is_tidy (step.Pass s j ∷ ss) ≡ true
    whole s left = sym (ap is_tidy (ap (λ x. step_if_any x ++ q.left) idle ∙ left)) ∙ r.tidy

    gone_by : (P : Type 0) (running : Option Step) → running ≡ None → (s : Stage) → q.left ≡ step.Pass s j ∷ ss → has_query (step_if_any running ++ ss) ≡ true → P
    gone_by P running none s left h =
        absurd (let n = tail_asks_not (step.Pass s j) ss (whole s left) in let k : has_query ss ≡ true = sym (ap (λ x. has_query (step_if_any x ++ ss)) none) ∙ h in let z : ⊥ = cc in z)

    tidy_by : (running : Option Step) → running ≡ None → (s : Stage) → q.left ≡ step.Pass s j ∷ ss → is_tidy (step_if_any running ++ ss) ≡ true
    tidy_by running none s left = ap (λ x. is_tidy (step_if_any x ++ ss)) none ∙ tidy_tail (step.Pass s j) ss (whole s left)

    still : (a w : Bool) → a ≡ false → ((false || (a && true)) || (w && false)) ≡ true → ⊥
    still a w e h = let f : ((false || (a && true)) || (w && false)) ≡ false = nothing_new a w ∙ e in let z : ⊥ = cc in z

    by : (s : Stage) → q.left ≡ step.Pass s j ∷ ss → Rests (awake_step d W (event.Stage n s j)) (asleep_step d Z (event.Stage n s j)) (pnp.passed s (record q { left = ss }))
    by stage.Working left = record {
      awake_is = λ t. record { phase_is = refl; left = rest_is_last (step.Pass stage.Working j) ss refl (whole stage.Working left); running = idle };
      asleep_is = λ t. absurd (still Z.now Z.before (b stage.Working left).asleep t);
      was_awake = λ h w. gone_by _ q.running idle stage.Working left h;
      was_asleep = λ h w. gone_by _ q.running idle stage.Working left h;
      tidy = tidy_by q.running idle stage.Working left;
    }
    by stage.Sleeping left = record {
      awake_is = λ t. absurd (still W.now W.before (b stage.Sleeping left).awake t);
      asleep_is = λ t. record { phase_is = refl; left = rest_is_last (step.Pass stage.Sleeping j) ss refl (whole stage.Sleeping left); running = idle };
      was_awake = λ h w. gone_by _ q.running idle stage.Sleeping left h;
      was_asleep = λ h w. gone_by _ q.running idle stage.Sleeping left h;
      tidy = tidy_by q.running idle stage.Sleeping left;
    }
    by stage.Removed left = record {
      awake_is = λ t. absurd (still W.now W.before (b stage.Removed left).awake t);
      asleep_is = λ t. absurd (still Z.now Z.before (b stage.Removed left).asleep t);
      was_awake = λ h w. gone_by _ q.running idle stage.Removed left h;
      was_asleep = λ h w. gone_by _ q.running idle stage.Removed left h;
      tidy = tidy_by q.running idle stage.Removed left;
    }
    by s left = record {
      awake_is = λ t. absurd (still W.now W.before (b s left).awake t);
      asleep_is = λ t. absurd (still Z.now Z.before (b s left).asleep t);
      was_awake = λ h w. gone_by _ q.running idle s left h;
      was_asleep = λ h w. gone_by _ q.running idle s left h;
      tidy = tidy_by q.running idle s left;
    }

passes_elsewhere : (d : ℕ) (W Z : Rest) (n : Handle) (s : Stage) (j : Option Handle) → (n.id.0 == d) ≡ false → SameWords d W Z (event.Stage n s j)
passes_elsewhere d W Z n stage.Working j off = (same_by (n.id.0 == d) false None ends_awake W off refl refl, rest_same ends_asleep Z)
passes_elsewhere d W Z n stage.Sleeping j off = (rest_same ends_awake W, same_by (n.id.0 == d) false None ends_asleep Z off refl refl)
passes_elsewhere d W Z n _ j off = (rest_same ends_awake W, rest_same ends_asleep Z)

-- ---- something is asked

working_is : (p : Phase) → is_working p ≡ true → p ≡ Working
working_is Working h = refl
working_is _ h = absurd (let z : ⊥ = cc in z)

sleeping_is : (p : Phase) → is_sleeping p ≡ true → p ≡ Sleeping
sleeping_is Sleeping h = refl
sleeping_is _ h = absurd (let z : ⊥ = cc in z)

stays_awake : (q : Sequence) (a : Ask) → ends_awake a ≡ false → steps_for q.steps q.ever_working Working a ≡ []
stays_awake q asks.Start h = refl
stays_awake q asks.Wake h = refl
stays_awake q _ h = absurd (let z : ⊥ = cc in z)

stays_asleep : (q : Sequence) (a : Ask) → ends_asleep a ≡ false → steps_for q.steps q.ever_working Sleeping a ≡ []
stays_asleep q asks.Start h = refl
stays_asleep q asks.Sleep h = refl
stays_asleep q asks.Rebalance h = refl
stays_asleep q _ h = absurd (let z : ⊥ = cc in z)

goes_on : (a w x : Bool) → ((false || (a && not x)) || (w && false)) ≡ true → (a ≡ true) × (x ≡ false)
goes_on true w false h = (refl, refl)
goes_on true true true h = absurd (let z : ⊥ = cc in z)
goes_on true false true h = absurd (let z : ⊥ = cc in z)
goes_on false true x h = absurd (let z : ⊥ = cc in z)
goes_on false false x h = absurd (let z : ⊥ = cc in z)

-- the words where something is asked of the device
abbrev asked_rest : (Ask → Bool) → Ask → Rest → Rest
asked_rest ends a W = record { now = (false || (W.now && not (ends a))) || (W.before && false); before = W.now }

asked_words : (d : ℕ) (W Z : Rest) (agent : ℕ) (a : Ask) (n : Handle) (answer : Option Handle) → (n.id.0 == d) ≡ true
    → (awake_step d W (event.Posted agent (post.Ask a n) answer) ≡ asked_rest ends_awake a W) × (asleep_step d Z (event.Posted agent (post.Ask a n) answer) ≡ asked_rest ends_asleep a Z)
asked_words d W Z agent a n answer is = (rw is refl, rw is refl)

asked_elsewhere : (d : ℕ) (W Z : Rest) (agent : ℕ) (a : Ask) (n : Handle) (answer : Option Handle) → (n.id.0 == d) ≡ false → SameWords d W Z (event.Posted agent (post.Ask a n) answer)
asked_elsewhere d W Z agent a n answer off = (rw off (rest_same ends_awake W), rw off (rest_same ends_asleep Z))

asks_for : (W Z : Rest) (q : Sequence) (a : Ask) → q.running ≡ None → q.left ≡ [] → Rests W Z q → Rests (asked_rest ends_awake a W) (asked_rest ends_asleep a Z) (record q { left = steps_for q.steps q.ever_working q.phase a })
asks_for W Z q a idle _ r = record {
  awake_is = λ t.
      let g = goes_on W.now W.before (ends_awake a) t in
      let k : IsAtRest is_working q = r.awake_is g.0 in
      record { phase_is = k.phase_is; left = ap (λ p. steps_for q.steps q.ever_working p a) (working_is q.phase k.phase_is) ∙ stays_awake q a g.1; running = idle };
  asleep_is = λ t.
      let g = goes_on Z.now Z.before (ends_asleep a) t in
      let k : IsAtRest is_sleeping q = r.asleep_is g.0 in
      record { phase_is = k.phase_is; left = ap (λ p. steps_for q.steps q.ever_working p a) (sleeping_is q.phase k.phase_is) ∙ stays_asleep q a g.1; running = idle };
  was_awake = λ h w. (r.awake_is w).phase_is;
  was_asleep = λ h w. (r.asleep_is w).phase_is;
  tidy = ap (λ x. is_tidy (step_if_any x ++ steps_for q.steps q.ever_working q.phase a)) idle ∙ lists_tidy q.steps q.ever_working q.phase a;
}

-- ---- each event

same_rests : (d : ℕ) (W Z : Rest) (e : Event) (q p : Sequence) → SameWords d W Z e → p ≡ q → Rests W Z q → Rests (awake_step d W e) (asleep_step d Z e) p
same_rests d W Z e q p w same r = subst (λ X. Rests X (asleep_step d Z e) p) (sym w.0) (subst (λ X. Rests W X p) (sym w.1) (subst (λ x. Rests W Z x) (sym same) r))

module _ {A : Type 0} (S U : State A) (d : ℕ) (W Z : Rest) (near : (o : ℕ) → is_gone (life_of S.tree o) ≡ false → o ≡ d → nearest_device S.tree o ≡ d) (r : Rests W Z (sequence_of S.pnp d)) where
  abbrev q : Sequence
  q = sequence_of S.pnp d

  pub rests_on : (e : Event) → Turned S U e → Rests (awake_step d W e) (asleep_step d Z e) (sequence_of U.pnp d)
  rests_on e (Still quiet same) = same_rests d W Z e q (sequence_of U.pnp d) (quiet_same d W Z e quiet) (ap (λ Q. sequence_of Q d) same) r
  rests_on e (Begun n c j quiet idle next same) = elim (one_or_two d n) [
    | inl x ↦
        let now : sequence_of U.pnp d ≡ taken_step q = ap (λ Q. sequence_of Q d) same ∙ rw x (entry_put_same no_sequence S.pnp.devices n (taken_step (sequence_of S.pnp n))) in
        let left : q.left ≡ step.Run c j ∷ drop 1 q.left = rw x next in
        let none : q.running ≡ None = rw x idle in
        let w = quiet_same d W Z e quiet in
        subst (λ X. Rests X (asleep_step d Z e) (sequence_of U.pnp d)) (sym w.0) (subst (λ X. Rests W X (sequence_of U.pnp d)) (sym w.1)
        (subst (λ p. Rests W Z p) (sym (now ∙ taken_run q c j (drop 1 q.left) left)) (begins W Z q c j (drop 1 q.left) none left r)))
    | inr y ↦
        let now : sequence_of U.pnp d ≡ q = ap (λ Q. sequence_of Q d) same ∙ entry_put_other no_sequence S.pnp.devices n d (taken_step (sequence_of S.pnp n)) y in
        same_rests d W Z e q (sequence_of U.pnp d) (quiet_same d W Z e quiet) now r
  ]
  rests_on e (Ended cpu c o v j l is lives runs same) = elim (one_or_two d (nearest_device S.tree o.id.0)) [
    | inl x ↦
        let n : ℕ = nearest_device S.tree o.id.0 in
        let now : sequence_of U.pnp d ≡ record q { left = left_after q (step.Run c l) v; running = None }
        = ap (λ Q. sequence_of Q d) same ∙ rw x (entry_put_same no_sequence S.pnp.devices n (record (sequence_of S.pnp n) { left = left_after (sequence_of S.pnp n) (step.Run c l) v; running = None })) in
        let here : q.running ≡ Some (step.Run c j) = rw x runs in
        subst (λ y. Rests (awake_step d W y) (asleep_step d Z y) (sequence_of U.pnp d)) (sym is)
        (subst (λ p. Rests (awake_step d W (event.End cpu c o v)) (asleep_step d Z (event.End cpu c o v)) p) (sym now) (ends d W Z q cpu c j l o v here r))
    | inr y ↦
        let n : ℕ = nearest_device S.tree o.id.0 in
        let now : sequence_of U.pnp d ≡ q = ap (λ Q. sequence_of Q d) same ∙ entry_put_other no_sequence S.pnp.devices n d (record (sequence_of S.pnp n) { left = left_after (sequence_of S.pnp n) (step.Run c l) v; running = None }) y in
        subst (λ z. Rests (awake_step d W z) (asleep_step d Z z) (sequence_of U.pnp d)) (sym is)
        (same_rests d W Z (event.End cpu c o v) q (sequence_of U.pnp d) (ends_elsewhere d W Z cpu c o v (λ at. y (sym (near o.id.0 lives at)))) now r)
  ]
  rests_on e (Passed n s j is idle next same) = elim (one_or_two d n.id.0) [
    | inl x ↦
        let now : sequence_of U.pnp d ≡ taken_step q = ap (λ Q. sequence_of Q d) same ∙ rw x (entry_put_same no_sequence S.pnp.devices n.id.0 (taken_step (sequence_of S.pnp n.id.0))) in
        let left : q.left ≡ step.Pass s j ∷ drop 1 q.left = rw x next in
        let none : q.running ≡ None = rw x idle in
        subst (λ y. Rests (awake_step d W y) (asleep_step d Z y) (sequence_of U.pnp d)) (sym is)
        (subst (λ p. Rests (awake_step d W (event.Stage n s j)) (asleep_step d Z (event.Stage n s j)) p) (sym (now ∙ taken_pass q s j (drop 1 q.left) left)) (passes d W Z q n s j (drop 1 q.left) (sym x) none left r))
    | inr y ↦
        let now : sequence_of U.pnp d ≡ q = ap (λ Q. sequence_of Q d) same ∙ entry_put_other no_sequence S.pnp.devices n.id.0 d (taken_step (sequence_of S.pnp n.id.0)) y in
        subst (λ z. Rests (awake_step d W z) (asleep_step d Z z) (sequence_of U.pnp d)) (sym is)
        (same_rests d W Z (event.Stage n s j) q (sequence_of U.pnp d) (passes_elsewhere d W Z n s j (not_equal n.id.0 d (λ z. y (sym z)))) now r)
  ]
  rests_on e (Asked agent a n answer is free same) = elim (one_or_two d n.id.0) [
    | inl x ↦
        let parts = either_false (is_running_step S.pnp d) (not (length (steps_left S.pnp d) == 0)) (subst (λ y. busy S.pnp y ≡ false) (sym x) free) in
        let now : sequence_of U.pnp d ≡ record q { left = steps_for q.steps q.ever_working q.phase a }
        = ap (λ Q. sequence_of Q d) same ∙ rw x (entry_put_same no_sequence S.pnp.devices n.id.0 (record (sequence_of S.pnp n.id.0) { left = steps_for (sequence_of S.pnp n.id.0).steps (sequence_of S.pnp n.id.0).ever_working (sequence_of S.pnp n.id.0).phase a })) in
        let w = asked_words d W Z agent a n answer (equal n.id.0 d (sym x)) in
        subst (λ y. Rests (awake_step d W y) (asleep_step d Z y) (sequence_of U.pnp d)) (sym is)
        (subst (λ X. Rests X (asleep_step d Z (event.Posted agent (post.Ask a n) answer)) (sequence_of U.pnp d)) (sym w.0) (subst (λ X. Rests (asked_rest ends_awake a W) X (sequence_of U.pnp d)) (sym w.1)
        (subst (λ p. Rests (asked_rest ends_awake a W) (asked_rest ends_asleep a Z) p) (sym now) (asks_for W Z q a (not_running q.running parts.0) (none_left q.left parts.1) r))))
    | inr y ↦
        let now : sequence_of U.pnp d ≡ q
        = ap (λ Q. sequence_of Q d) same ∙ entry_put_other no_sequence S.pnp.devices n.id.0 d (record (sequence_of S.pnp n.id.0) { left = steps_for (sequence_of S.pnp n.id.0).steps (sequence_of S.pnp n.id.0).ever_working (sequence_of S.pnp n.id.0).phase a }) y in
        subst (λ z. Rests (awake_step d W z) (asleep_step d Z z) (sequence_of U.pnp d)) (sym is)
        (same_rests d W Z (event.Posted agent (post.Ask a n) answer) q (sequence_of U.pnp d) (asked_elsewhere d W Z agent a n answer (not_equal n.id.0 d (λ z. y (sym z)))) now r)
  ]
