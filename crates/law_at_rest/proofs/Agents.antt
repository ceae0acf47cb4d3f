-- What each agent is by its number, whatever it hears, it is at each place of a run.
use Rattle.std.proofs.Common.{◌≡◌, Bool, true, false, ℕ, zero, suc, ◌+◌, List, [], ◌∷◌, ◌++◌, map, Some, slice_get, take, refl, sym, ap, ◌∙◌, subst, arith}
use Rattle.std.specs.List.{range_with_len}
use Rattle.std.proofs.lemmas.Option.{same_Some}
use Rattle.wdf_base.specs.Meaning.{Meaning}
use Rattle.wdf_base.specs.declared.plan.Plan.{Plan}
use Rattle.wdf_base.specs.declared.event.Event.{Event}
use Rattle.wdf_base.specs.declared.event.Event.TheVariants as event
use Rattle.wdf_model.specs.State.{State}
use Rattle.wdf_model.specs.rules.Deeds.{told}
use Rattle.wdf_model.specs.rules.Ready.{IsRunOf, ready, state_after}
use Rattle.wdf_model.specs.rules.Steps.{after, deeds}
use Rattle.wdf_model.proofs.Counting.{counted_first, counting_commutes}
use Rattle.wdf_model.proofs.Runs.{along_run}
use Rattle.law_machine_base.proofs.Follows.{state_goes_on}
use Rattle.law_stuck_causes.proofs.Endings.{at_the_end}

-- the agents with the numbers from n on
abbrev pub AllHave : {A : Type 0} → (ℕ → A → Type 0) → ℕ → List A → Type 0
AllHave {A} P n xs = (k : ℕ) (a : A) → slice_get xs k ≡ Some a → P (n + k) a

-- a step inside a frame, of which no agent hears
abbrev pub is_inside : Event → Bool
is_inside (event.Local cpu line) = true
is_inside (event.Log cpu v) = true
is_inside _ = false

-- what an event makes of agents: all hear it, or none does
pub told_as : {A : Type 0} (m : Meaning A) (Q : List A → Type 0) (e : Event) (xs : List A) → (is_inside e ≡ true → Q xs) → Q (map (λ a. m.fold a e) xs) → Q (told m e xs)
told_as m Q (event.Local cpu line) xs still heard = still refl
told_as m Q (event.Log cpu v) xs still heard = still refl
told_as m Q (event.Start cpu c o r) xs still heard = heard
told_as m Q (event.Spend cpu n) xs still heard = heard
told_as m Q (event.Register cpu a r n) xs still heard = heard
told_as m Q (event.Did cpu c v) xs still heard = heard
told_as m Q (event.Waiting cpu c) xs still heard = heard
told_as m Q (event.Woke cpu c v) xs still heard = heard
told_as m Q (event.Park cpu f) xs still heard = heard
told_as m Q (event.Unpark cpu f) xs still heard = heard
told_as m Q (event.End cpu c o v) xs still heard = heard
told_as m Q (event.Fault cpu x line) xs still heard = heard
told_as m Q (event.Stage d s i) xs still heard = heard
told_as m Q (event.Complete r s) xs still heard = heard
told_as m Q (event.Cleanup o) xs still heard = heard
told_as m Q (event.Destroy o) xs still heard = heard
told_as m Q (event.Posted a p answer) xs still heard = heard
told_as m Q (event.Tick time) xs still heard = heard

-- the agents after an event are those that were told of it
pub agents_after : {A : Type 0} (plan : Plan) (m : Meaning A) (S : State A) (e : Event) → (after plan m S e).agents ≡ told m e S.agents
agents_after {A} plan m S e =
    ap (λ (T : State A). T.agents) (sym (counted_first plan m (deeds plan S e) e S)) ∙ ap (λ (T : State A). T.agents) (counting_commutes plan m (deeds plan S e) e S)

module _ {A : Type 0} (plan : Plan) (m : Meaning A) (P : ℕ → A → Type 0) (begins : (k : ℕ) → P k (m.begin plan k)) (folds : (k : ℕ) (a : A) (e : Event) → P k a → P k (m.fold a e)) where
  opens_from : (n count : ℕ) → AllHave P n (map (m.begin plan) (range_with_len n count))
  opens_from n zero k a at = absurd (let z : ⊥ = cc in z)
  opens_from n (suc count) zero a at =
      let here : n ≡ n + 0 = omega arith in
      subst (λ i. P i a) here (subst (P n) (same_Some (m.begin plan n) a at) (begins n))
  opens_from n (suc count) (suc k) a at =
      let there : n + 1 + k ≡ n + suc k = omega arith in
      subst (λ i. P i a) there (opens_from (n + 1) count k a at)

  all_fold : (e : Event) (xs : List A) (n : ℕ) → AllHave P n xs → AllHave P n (map (λ a. m.fold a e) xs)
  all_fold e [] n h k a at = absurd (let z : ⊥ = cc in z)
  all_fold e (x ∷ xs) n h zero a at = subst (P (n + 0)) (same_Some (m.fold x e) a at) (folds (n + 0) x e (h 0 x refl))
  all_fold e (x ∷ xs) n h (suc k) a at =
      let there : suc n + k ≡ n + suc k = omega arith in
      subst (λ i. P i a) there (all_fold e xs (suc n) (λ j y is. let same : n + suc j ≡ suc n + j = omega arith in subst (λ i. P i y) same (h (suc j) y is)) k a at)

  abbrev Have : State A → Type 0
  Have S = AllHave P 0 S.agents

  opens : Have (state_after plan m [])
  unfolding state_after
  opens = opens_from 0 _

  goes_on : (run : List Event) (e : Event) → Have (state_after plan m run) → Have (state_after plan m (run ++ e ∷ []))
  goes_on run e h =
      let S = state_after plan m run in
      let next : AllHave P 0 (after plan m S e).agents = subst (AllHave P 0) (sym (agents_after plan m S e)) (told_as m (AllHave P 0) e S.agents (λ _. h) (all_fold e S.agents 0 h)) in
      subst (λ (T : State A). Have T) (sym (state_goes_on plan m run e)) next

  pub have_at_each : (run : List Event) → IsRunOf plan m run → (n : ℕ) → AllHave P 0 (state_after plan m (take n run)).agents
  have_at_each run is_run n =
      along_run (λ before. Have (state_after plan m before)) (ready plan m) run opens (λ before e place before_run h here. goes_on before e h) is_run n

  -- at the end of a run
  pub have : (run : List Event) → IsRunOf plan m run → (k : ℕ) (a : A) → slice_get (state_after plan m run).agents k ≡ Some a → P k a
  have run is_run k a at =
      let all = at_the_end plan m (λ (T : State A). AllHave P 0 T.agents) run (have_at_each run is_run) in
      let same : 0 + k ≡ k = omega arith in
      subst (λ i. P i a) same (all k a at)
