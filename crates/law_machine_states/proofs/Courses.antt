-- What is under way stays the end of one of the lists, whatever happens to a device.
use Rattle.std.proofs.Common.{if◌then◌else◌, ◌≡◌, ℕ, Bool, true, false, not, ◌&&◌, ◌||◌, List, [], ◌∷◌, ◌++◌, inl, inr, Option, Some, None, drop, refl, sym, ap, subst, ◌∙◌, append-nil, append_assoc}
use Rattle.wdf_base.specs.declared.ids.Handle.{Handle}
use Rattle.wdf_base.specs.declared.plan.Plan.{Plan}
use Rattle.wdf_base.specs.declared.call.Callback.{Callback}
use Rattle.wdf_base.specs.declared.call.Callback.TheVariants as callback
use Rattle.wdf_base.specs.declared.event.Ask.{Ask}
use Rattle.wdf_base.specs.declared.event.Event.{Event}
use Rattle.wdf_base.specs.declared.event.Stage.{Stage}
use Rattle.wdf_base.specs.declared.event.Stage.TheVariants as stage
use Rattle.wdf_base.specs.declared.event.Step.{Step}
use Rattle.wdf_base.specs.declared.event.Step.TheVariants as step
use Rattle.wdf_model.specs.Tables.{entry}
use Rattle.wdf_model.specs.parts.Pnp.{Pnp, Sequence, left_after, left_after_failure, no_sequence, run, sequence_of, steps_for, tail_steps, taken_step}
use Rattle.wdf_model.specs.parts.Pnp as pnp
use Rattle.wdf_model.specs.State.{State}
use Rattle.wdf_model.proofs.Maps.{entry_put_other, entry_put_same}
use Rattle.wdf_model.proofs.Tests.{both_left, both_right}
use Rattle.wdf_model.proofs.Counts.{one_or_two}
use Rattle.law_trace_power.proofs.Happens.{taken_pass, taken_run}
use Rattle.law_trace_settled.proofs.Moves as moves
use Rattle.law_trace_settled.proofs.Moves.{Moved}
use Rattle.law_machine_states.specs.Courses.{Asked, ComesFromList, Failed, IsEndOf}
use Rattle.law_machine_states.specs.Settled.{settles_next}
use Rattle.law_machine_states.proofs.Lists.{agree, asked_whole, end_ordered, falls, in_order, is_end, tail_whole, turns_by}
use Rattle.law_trace_power.specs.UnderWay.{step_if_any, under_way}
use Rattle.law_trace_power.proofs.Sequences.{free_runs_none}
use Rattle.wdf_base.specs.Values.{is_success}

-- ---- ends of lists

-- one step fewer
drops_one : (s : Step) (xs whole : List Step) → IsEndOf (s ∷ xs) whole → IsEndOf xs whole
drops_one s xs whole h = (h.0 ++ s ∷ [], append_assoc h.0 (s ∷ []) xs ∙ h.1)

-- nothing is under way
pub rests : (q : Sequence) → q.left ≡ [] → q.running ≡ None → ComesFromList q
rests q left running =
    let none : under_way q ≡ [] = ap (λ r. step_if_any r ++ q.left) running ∙ left in
    Failed (tail_steps q.steps q.ever_working, ap (λ xs. tail_steps q.steps q.ever_working ++ xs) none ∙ append-nil (tail_steps q.steps q.ever_working))

-- what is under way is in order
pub ordered : (q : Sequence) → ComesFromList q → in_order (under_way q) ≡ true
ordered q (Asked a e) = end_ordered e.0 (under_way q) (subst (λ xs. in_order xs ≡ true) (sym e.1) (asked_whole q.steps q.ever_working q.phase a).ordered)
ordered q (Failed e) = end_ordered e.0 (under_way q) (subst (λ xs. in_order xs ≡ true) (sym e.1) (tail_whole q.steps q.ever_working).ordered)

-- another that is the end of the same lists
on_the_way : (q : Sequence) (left : List Step) (running : Option Step) → ((whole : List Step) → IsEndOf (under_way q) whole → IsEndOf (step_if_any running ++ left) whole) → ComesFromList q → ComesFromList (record q { left = left; running = running })
on_the_way q left running h (Asked a e) = Asked a (h (steps_for q.steps q.ever_working q.phase a) e)
on_the_way q left running h (Failed e) = Failed (h (tail_steps q.steps q.ever_working) e)

-- ---- what happens to a device

begins : (q : Sequence) (c : Callback) (j : Option Handle) (ss : List Step) → q.running ≡ None → q.left ≡ step.Run c j ∷ ss → ComesFromList q → ComesFromList (record q { left = ss; running = Some (step.Run c j) })
begins q c j ss idle left k =
    let same : under_way q ≡ step.Run c j ∷ ss = ap (λ r. step_if_any r ++ q.left) idle ∙ left in
    on_the_way q ss (Some (step.Run c j)) (λ whole e. subst (λ xs. IsEndOf xs whole) same e) k

succeeds : (q : Sequence) (s : Step) → q.running ≡ Some s → ComesFromList q → ComesFromList (record q { left = q.left; running = None })
succeeds q s running k =
    let same : under_way q ≡ s ∷ q.left = ap (λ r. step_if_any r ++ q.left) running in
    on_the_way q q.left None (λ whole e. drops_one s q.left whole (subst (λ xs. IsEndOf xs whole) same e)) k

fails : (q : Sequence) (s : Step) (c : Callback) → q.running ≡ Some s → ComesFromList q → ComesFromList (record q { left = left_after_failure q c; running = None })
fails q s callback.EvtDeviceQueryStop running k = rests (record q { left = []; running = None }) refl refl
fails q s callback.EvtDeviceQueryRemove running k = rests (record q { left = []; running = None }) refl refl
fails q s callback.EvtDevicePrepareHardware running k = Failed (run q.steps callback.EvtDeviceReleaseHardware, refl)
fails q s callback.EvtDeviceD0Entry running k = Failed ([], refl)
fails q s _ running k = succeeds q s running k

ends_by : (q : Sequence) (s : Step) (c : Callback) (b : Bool) → q.running ≡ Some s → ComesFromList q → ComesFromList (record q { left = if b then q.left else left_after_failure q c; running = None })
ends_by q s c true running k = succeeds q s running k
ends_by q s c false running k = fails q s c running k

is_empty : (ss : List Step) → is_end ss ≡ true → ss ≡ []
is_empty [] h = refl
is_empty (s ∷ ss) h = absurd (let z : ⊥ = cc in z)

-- a stage that changes the phase is the last step
is_last : (s : Stage) (j : Option Handle) (ss : List Step) → turns_by s ≡ true → in_order (step.Pass s j ∷ ss) ≡ true → ss ≡ []
is_last s j ss t h =
    let a : Bool = agree (falls (step.Pass s j)) (settles_next ss) in
    let b : (not (turns_by s) || is_end ss) ≡ true = both_right a (not (turns_by s) || is_end ss) (both_left (a && (not (turns_by s) || is_end ss)) (in_order ss) h) in
    is_empty ss (rw t at b)

passes_by : (q : Sequence) (s : Stage) (j : Option Handle) (ss : List Step) → q.running ≡ None → q.left ≡ step.Pass s j ∷ ss → ComesFromList q → (turns_by s ≡ true → ss ≡ []) → ComesFromList (pnp.passed s (record q { left = ss }))
passes_by q stage.Working j ss idle left k last = rests (pnp.passed stage.Working (record q { left = ss })) (last refl) idle
passes_by q stage.Sleeping j ss idle left k last = rests (pnp.passed stage.Sleeping (record q { left = ss })) (last refl) idle
passes_by q stage.Removed j ss idle left k last = rests (pnp.passed stage.Removed (record q { left = ss })) (last refl) idle
passes_by q s j ss idle left k last =
    let same : under_way q ≡ step.Pass s j ∷ ss = ap (λ r. step_if_any r ++ q.left) idle ∙ left in
    on_the_way q ss q.running (λ whole e. subst (λ r. IsEndOf (step_if_any r ++ ss) whole) (sym idle) (drops_one (step.Pass s j) ss whole (subst (λ xs. IsEndOf xs whole) same e))) k

passes : (q : Sequence) (s : Stage) (j : Option Handle) (ss : List Step) → q.running ≡ None → q.left ≡ step.Pass s j ∷ ss → ComesFromList q → ComesFromList (pnp.passed s (record q { left = ss }))
passes q s j ss idle left k =
    let same : under_way q ≡ step.Pass s j ∷ ss = ap (λ r. step_if_any r ++ q.left) idle ∙ left in
    passes_by q s j ss idle left k (λ t. is_last s j ss t (subst (λ xs. in_order xs ≡ true) same (ordered q k)))

asks_for : (q : Sequence) (a : Ask) → q.running ≡ None → ComesFromList (record q { left = steps_for q.steps q.ever_working q.phase a })
asks_for q a idle = Asked a ([], ap (λ r. step_if_any r ++ steps_for q.steps q.ever_working q.phase a) idle)

-- ---- each event

abbrev pub Courses : Pnp → Type 0
Courses Q = (d : ℕ) → ComesFromList (sequence_of Q d)

by_device : (Q R : Pnp) (n d : ℕ) (new : Sequence) → R ≡ pnp.with_sequence Q n (λ q. new) → ComesFromList new → Courses Q → ComesFromList (sequence_of R d)
by_device Q R n d new is here k =
    subst (λ P. ComesFromList (sequence_of P d)) (sym is) (elim (one_or_two d n) [
      | inl x ↦ subst (λ q. ComesFromList q) (sym (ap (entry no_sequence (pnp.with_sequence Q n (λ q. new)).devices) x ∙ entry_put_same no_sequence Q.devices n new)) here
      | inr x ↦ subst (λ q. ComesFromList q) (sym (entry_put_other no_sequence Q.devices n d new x)) (k d)
    ])

module _ {A : Type 0} (plan : Plan) (S U : State A) (e : Event) (k : Courses S.pnp) where
  pub courses_after : Moved plan S U e → Courses U.pnp
  courses_after (moves.Unmoved quiet_ same devices) d = subst (λ Q. ComesFromList (sequence_of Q d)) (sym same) (k d)
  courses_after (moves.Begun n c j quiet_ idle next_ same devices) d =
      let q : Sequence = sequence_of S.pnp n in
      by_device S.pnp U.pnp n d (taken_step q) same (subst (λ r. ComesFromList r) (sym (taken_run q c j (drop 1 q.left) next_)) (begins q c j (drop 1 q.left) idle next_ (k n))) k
  courses_after (moves.Ended n c j l v quiet_ running same devices) d =
      let q : Sequence = sequence_of S.pnp n in
      by_device S.pnp U.pnp n d (record q { left = left_after q (step.Run c l) v; running = None }) same (ends_by q (step.Run c j) c (is_success v) running (k n)) k
  courses_after (moves.Passed n s j is may_come idle next_ same devices) d =
      let q : Sequence = sequence_of S.pnp n.id.0 in
      by_device S.pnp U.pnp n.id.0 d (taken_step q) same (subst (λ r. ComesFromList r) (sym (taken_pass q s j (drop 1 q.left) next_)) (passes q s j (drop 1 q.left) idle next_ (k n.id.0))) k
  courses_after (moves.Asked n a quiet_ free same devices) d =
      let q : Sequence = sequence_of S.pnp n in
      by_device S.pnp U.pnp n d (record q { left = steps_for q.steps q.ever_working q.phase a }) same (asks_for q a (free_runs_none S.pnp n free)) k
