-- What each agent of a run has heard: one event more.
use Rattle.std.proofs.Common.{◌≡◌, ℕ, zero, suc, ◌+◌, List, [], ◌∷◌, map, Some, slice_get, refl, sym, ap, ◌∙◌, arith}
use Rattle.std.specs.List.{range_with_len}
use Rattle.wdf_base.specs.Meaning.{Meaning}
use Rattle.wdf_base.specs.declared.plan.Plan.{Plan}
use Rattle.wdf_base.specs.declared.ids.Cpu.{Cpu}
use Rattle.wdf_base.specs.declared.value.Value.{Value}
use Rattle.wdf_base.specs.declared.event.Event.{Event}
use Rattle.wdf_base.specs.declared.event.Event.TheVariants as event
use Rattle.wdf_model.specs.State.{State}
use Rattle.wdf_model.specs.rules.Deeds.{counted, do_deeds, told}
use Rattle.wdf_model.specs.rules.Steps.{after, deeds}
use Rattle.wdf_model.specs.agents.StackAgent.{StackAgent, App, Connector, Device, LowerTarget, StackManager, agent_after, agent_at}
use Rattle.wdf_model.proofs.Counting.{counted_first, counting_commutes}
use Rattle.law_stack.specs.Agents.{IsStackMeaning}

-- an event that stays inside a frame changes no agent
by_local : (x : StackAgent) (cpu : Cpu) (line : ℕ) → x ≡ agent_after x (event.Local cpu line)
by_local (StackManager m) cpu line = refl
by_local (App p) cpu line = refl
by_local (Device d) cpu line = refl
by_local (LowerTarget t) cpu line = refl
by_local (Connector c) cpu line = refl

by_log : (x : StackAgent) (cpu : Cpu) (v : Value) → x ≡ agent_after x (event.Log cpu v)
by_log (StackManager m) cpu v = refl
by_log (App p) cpu v = refl
by_log (Device d) cpu v = refl
by_log (LowerTarget t) cpu v = refl
by_log (Connector c) cpu v = refl

module _ {A : Type 0} (m : Meaning A) (is : IsStackMeaning m) where
  -- an agent as it was before an event
  pub record WasBefore (e : Event) (agents : List A) (k : ℕ) (a : A) : Type 0 where
    pub was : A
    pub at : slice_get agents k ≡ Some was
    pub heard : is.seen a ≡ agent_after (is.seen was) e

  all_heard : (e : Event) (agents : List A) (k : ℕ) (a : A) → slice_get (map (λ x. m.fold x e) agents) k ≡ Some a → WasBefore e agents k a
  all_heard e [] k a h = absurd (let z : ⊥ = cc in z)
  all_heard e (x ∷ xs) zero a h =
      let same : m.fold x e ≡ a = cc in
      record { was = x; at = refl; heard = ap is.seen (sym same) ∙ is.folds x e }
  all_heard e (x ∷ xs) (suc k) a h = let w = all_heard e xs k a h in record { was = w.was; at = w.at; heard = w.heard }

  told_before : (e : Event) (agents : List A) (k : ℕ) (a : A) → slice_get (told m e agents) k ≡ Some a → WasBefore e agents k a
  told_before (event.Local cpu line) agents k a h = record { was = a; at = h; heard = by_local (is.seen a) cpu line }
  told_before (event.Log cpu v) agents k a h = record { was = a; at = h; heard = by_log (is.seen a) cpu v }
  told_before (event.Start cpu c o r) agents k a h = all_heard (event.Start cpu c o r) agents k a h
  told_before (event.Spend cpu n) agents k a h = all_heard (event.Spend cpu n) agents k a h
  told_before (event.Register cpu x r n) agents k a h = all_heard (event.Register cpu x r n) agents k a h
  told_before (event.Did cpu c v) agents k a h = all_heard (event.Did cpu c v) agents k a h
  told_before (event.Waiting cpu c) agents k a h = all_heard (event.Waiting cpu c) agents k a h
  told_before (event.Woke cpu c v) agents k a h = all_heard (event.Woke cpu c v) agents k a h
  told_before (event.Park cpu f) agents k a h = all_heard (event.Park cpu f) agents k a h
  told_before (event.Unpark cpu f) agents k a h = all_heard (event.Unpark cpu f) agents k a h
  told_before (event.End cpu c o v) agents k a h = all_heard (event.End cpu c o v) agents k a h
  told_before (event.Fault cpu x line) agents k a h = all_heard (event.Fault cpu x line) agents k a h
  told_before (event.Stage d s i) agents k a h = all_heard (event.Stage d s i) agents k a h
  told_before (event.Complete r s) agents k a h = all_heard (event.Complete r s) agents k a h
  told_before (event.Cleanup o) agents k a h = all_heard (event.Cleanup o) agents k a h
  told_before (event.Destroy o) agents k a h = all_heard (event.Destroy o) agents k a h
  told_before (event.Posted agent p x) agents k a h = all_heard (event.Posted agent p x) agents k a h
  told_before (event.Tick time) agents k a h = all_heard (event.Tick time) agents k a h

  -- no deed changes an agent
  agents_after : (plan : Plan) (S : State A) (e : Event) → (after plan m S e).agents ≡ told m e S.agents
  agents_after plan S e =
      let first : do_deeds plan (deeds plan S e) (counted m e S) ≡ after plan m S e = counted_first plan m (deeds plan S e) e S in
      let then : do_deeds plan (deeds plan S e) (counted m e S) ≡ record (do_deeds plan (deeds plan S e) S) { agents = told m e S.agents; number = S.number + 1 } = counting_commutes plan m (deeds plan S e) e S in
      sym (ap (λ (T : State A). T.agents) first) ∙ ap (λ (T : State A). T.agents) then

  pub agent_before : (plan : Plan) (S : State A) (e : Event) (k : ℕ) (a : A) → slice_get (after plan m S e).agents k ≡ Some a → WasBefore e S.agents k a
  agent_before plan S e k a h = told_before e S.agents k a (ap (λ (xs : List A). slice_get xs k) (sym (agents_after plan S e)) ∙ h)

  -- the agents at the opening
  opened : (plan : Plan) (low n k : ℕ) (a : A) → slice_get (map (m.begin plan) (range_with_len low n)) k ≡ Some a → is.seen a ≡ agent_at plan (low + k)
  opened plan low zero k a h = absurd (let z : ⊥ = cc in z)
  opened plan low (suc n) zero a h =
      let same : m.begin plan low ≡ a = cc in
      ap is.seen (sym same) ∙ is.begins plan low ∙ ap (agent_at plan) (let z : low ≡ low + 0 = omega arith in z)
  opened plan low (suc n) (suc k) a h = opened plan (low + 1) n k a h ∙ ap (agent_at plan) (let z : (low + 1) + k ≡ low + suc k = omega arith in z)

  pub opens_as : (plan : Plan) (n k : ℕ) (a : A) → slice_get (map (m.begin plan) (range_with_len 0 n)) k ≡ Some a → is.seen a ≡ agent_at plan k
  opens_as plan n k a h = opened plan 0 n k a h ∙ ap (agent_at plan) (let z : 0 + k ≡ k = omega arith in z)
