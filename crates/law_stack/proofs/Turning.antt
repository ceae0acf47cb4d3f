-- What each event leaves of the steps of devices: their phases, which of them are busy, and that only the last step that is left
-- makes a device Working, Sleeping or Removed.
use Rattle.std.proofs.Common.{if◌then◌else◌, ◌≡◌, ◌≢◌, ℕ, ◌==◌, Bool, true, false, not, ◌||◌, List, [], ◌∷◌, drop, length, Option, Some, None, is_some, inl, inr, refl, sym, ap, subst, ◌∙◌, arith}
use Rattle.wdf_base.specs.declared.ids.Handle.{Handle}
use Rattle.wdf_base.specs.declared.call.Callback.{Callback}
use Rattle.wdf_base.specs.declared.call.Callback.TheVariants as callback
use Rattle.wdf_base.specs.declared.event.Event.{Event}
use Rattle.wdf_base.specs.declared.event.Event.TheVariants as event
use Rattle.wdf_base.specs.declared.event.Stage.{Stage}
use Rattle.wdf_base.specs.declared.event.Stage.TheVariants as stage
use Rattle.wdf_base.specs.declared.event.Step.{Step}
use Rattle.wdf_base.specs.declared.event.Step.TheVariants as step
use Rattle.wdf_model.specs.declared.enums.Phase.{Phase}
use Rattle.wdf_model.specs.parts.Pnp.{Pnp, Sequence, busy, left_after, left_after_failure, no_sequence, passed, running_step, sequence_of, steps_for, steps_left, taken_step, with_sequence}
use Rattle.wdf_model.specs.parts.Pnp as pnp
use Rattle.wdf_model.specs.State.{State}
use Rattle.wdf_model.proofs.Counts.{equal, not_equal, one_or_two}
use Rattle.wdf_model.proofs.Maps.{entry_put_other, entry_put_same}
use Rattle.law_trace_power.proofs.Happens.{taken_pass, taken_run}
use Rattle.law_trace_turns.specs.Turned.{Asked, Begun, Ended, Passed, Still, Turned, is_turning}
use Rattle.law_stack.proofs.Chains.{phase_after}
use Rattle.law_stack.proofs.Knowing.{phases_after}
use Rattle.law_stack.proofs.Sequences.{last_asked, last_dropped, last_end, last_only, last_tail}
use Rattle.law_machine_counts.proofs.StepMoves.{passed_running}
use Rattle.law_trace_power.proofs.Sequences.{passed_left}
use Rattle.wdf_base.specs.Values.{is_success}

-- ---- one device changes, and no other

pub sequence_here : (Q : Pnp) (d : ℕ) (f : Sequence → Sequence) → sequence_of (with_sequence Q d f) d ≡ f (sequence_of Q d)
sequence_here Q d f = entry_put_same no_sequence Q.devices d (f (sequence_of Q d))

pub sequence_elsewhere : (Q : Pnp) (d k : ℕ) (f : Sequence → Sequence) → k ≢ d → sequence_of (with_sequence Q d f) k ≡ sequence_of Q k
sequence_elsewhere Q d k f n = entry_put_other no_sequence Q.devices d k (f (sequence_of Q d)) n

-- what holds of a device still holds where one device has changed
one_holds : (P : Sequence → Type 0) (Q : Pnp) (d k : ℕ) (f : Sequence → Sequence) → (P (sequence_of Q d) → P (f (sequence_of Q d))) → P (sequence_of Q d) → P (sequence_of Q k) → P (sequence_of (with_sequence Q d f) k)
one_holds P Q d k f each here there = elim (one_or_two k d) [
  | inl e ↦ subst (λ x. P (sequence_of (with_sequence Q d f) x)) (sym e) (subst P (sym (sequence_here Q d f)) (each here))
  | inr n ↦ subst P (sym (sequence_elsewhere Q d k f n)) there
]

-- ---- who is busy

pub busy_elsewhere : (Q : Pnp) (d k : ℕ) (f : Sequence → Sequence) → k ≢ d → busy (with_sequence Q d f) k ≡ busy Q k
busy_elsewhere Q d k f n = ap (λ (q : Sequence). is_some q.running || not (length q.left == 0)) (sequence_elsewhere Q d k f n)

pub free_here : (Q : Pnp) (d : ℕ) (f : Sequence → Sequence) → (f (sequence_of Q d)).running ≡ None → (f (sequence_of Q d)).left ≡ [] → busy (with_sequence Q d f) d ≡ false
free_here Q d f r l =
    let now : (is_some (f (sequence_of Q d)).running || not (length (f (sequence_of Q d)).left == 0)) ≡ false = rw (r, l) refl in
    ap (λ (q : Sequence). is_some q.running || not (length q.left == 0)) (sequence_here Q d f) ∙ now

-- all are free, where all others were and this one is
pub all_free : (Q : Pnp) (d : ℕ) (f : Sequence → Sequence) → ((k : ℕ) → k ≢ d → busy Q k ≡ false) → (f (sequence_of Q d)).running ≡ None → (f (sequence_of Q d)).left ≡ [] → (k : ℕ) → busy (with_sequence Q d f) k ≡ false
all_free Q d f others r l k = elim (one_or_two k d) [
  | inl e ↦ ap (busy (with_sequence Q d f)) e ∙ free_here Q d f r l
  | inr n ↦ busy_elsewhere Q d k f n ∙ others k n
]

busy_by : (r : Option Step) (xs ss : List Step) (s : Step) → xs ≡ s ∷ ss → (is_some r || not (length xs == 0)) ≡ true
busy_by None xs ss s h =
    let long : (length xs == 0) ≡ false = rw h (not_equal (length (s ∷ ss)) 0 (λ e. omega (arith, e))) in
    ap not long
busy_by (Some x) xs ss s h = refl

pub busy_left : (Q : Pnp) (d : ℕ) (s : Step) (ss : List Step) → steps_left Q d ≡ s ∷ ss → busy Q d ≡ true
busy_left Q d s ss h = busy_by (running_step Q d) (steps_left Q d) ss s h

pub busy_running : (Q : Pnp) (d : ℕ) (s : Step) → running_step Q d ≡ Some s → busy Q d ≡ true
busy_running Q d s h = rw h refl

-- ---- phases

abbrev pub phase_of : Pnp → ℕ → Phase
phase_of Q d = (sequence_of Q d).phase

one_phase : (Q : Pnp) (d k : ℕ) (f : Sequence → Sequence) → (f (sequence_of Q d)).phase ≡ phase_of Q d → phase_of (with_sequence Q d f) k ≡ phase_of Q k
one_phase Q d k f same = elim (one_or_two k d) [
  | inl e ↦ ap (phase_of (with_sequence Q d f)) e ∙ ap (λ (q : Sequence). q.phase) (sequence_here Q d f) ∙ same ∙ sym (ap (phase_of Q) e)
  | inr n ↦ ap (λ (q : Sequence). q.phase) (sequence_elsewhere Q d k f n)
]

passed_phase : (s : Stage) (q : Sequence) → (passed s q).phase ≡ phase_after s q.phase
passed_phase stage.Working q = refl
passed_phase stage.Sleeping q = refl
passed_phase stage.Removed q = refl
passed_phase _ q = refl

phase_passed : (Q : Pnp) (d k : ℕ) (s : Stage) (j : Option Handle) (ss : List Step) → steps_left Q d ≡ step.Pass s j ∷ ss → phase_of (pnp.taken Q d) k ≡ (if d == k then phase_after s (phase_of Q k) else phase_of Q k)
phase_passed Q d k s j ss h = elim (one_or_two k d) [
  | inl e ↦
      let on : (d == k) ≡ true = equal d k (sym e) in
      let here : phase_of (pnp.taken Q d) d ≡ phase_after s (phase_of Q d)
      = ap (λ (q : Sequence). q.phase) (sequence_here Q d taken_step) ∙ ap (λ (q : Sequence). q.phase) (taken_pass (sequence_of Q d) s j ss h) ∙ passed_phase s (record (sequence_of Q d) { left = ss }) in
      rw on (ap (phase_of (pnp.taken Q d)) e ∙ here ∙ sym (ap (λ x. phase_after s (phase_of Q x)) e))
  | inr n ↦
      let off : (d == k) ≡ false = not_equal d k (λ z. n (sym z)) in
      rw off (ap (λ (q : Sequence). q.phase) (sequence_elsewhere Q d k taken_step n))
]

phases_quiet : (e : Event) (phase : ℕ → Phase) (k : ℕ) → is_turning e ≡ false → phases_after e phase k ≡ phase k
phases_quiet (event.Stage d s i) phase k h = absurd (let z : ⊥ = cc in z)
phases_quiet _ phase k h = refl

-- the phases change by stages alone, as the manager hears of them
pub phase_turns : {A : Type 0} (S U : State A) (e : Event) → Turned S U e → (k : ℕ) → phase_of U.pnp k ≡ phases_after e (phase_of S.pnp) k
phase_turns S U e (Still quiet same) k = ap (λ Q. phase_of Q k) same ∙ sym (phases_quiet e (phase_of S.pnp) k quiet)
phase_turns S U e (Begun n c j quiet idle next same) k =
    ap (λ Q. phase_of Q k) same ∙ one_phase S.pnp n k taken_step (ap (λ (q : Sequence). q.phase) (taken_run (sequence_of S.pnp n) c j (drop 1 (steps_left S.pnp n)) next)) ∙ sym (phases_quiet e (phase_of S.pnp) k quiet)
phase_turns S U e (Ended cpu c o v j l is lives runs same) k =
    ap (λ Q. phase_of Q k) same ∙ one_phase S.pnp _ k (λ q. record q { left = left_after q (step.Run c l) v; running = None }) refl ∙ sym (ap (λ x. phases_after x (phase_of S.pnp) k) is)
phase_turns S U e (Passed n s j is idle next same) k =
    ap (λ Q. phase_of Q k) same ∙ phase_passed S.pnp n.id.0 k s j (drop 1 (steps_left S.pnp n.id.0)) next ∙ sym (ap (λ x. phases_after x (phase_of S.pnp) k) is)
phase_turns S U e (Asked agent a n answer is free same) k =
    ap (λ Q. phase_of Q k) same ∙ one_phase S.pnp n.id.0 k (λ q. record q { left = steps_for q.steps q.ever_working q.phase a }) refl ∙ sym (ap (λ x. phases_after x (phase_of S.pnp) k) is)

-- ---- only the last step that is left is such a stage

-- what is left after a stage
pub left_passed : (q : Sequence) (s : Stage) (j : Option Handle) (ss : List Step) → q.left ≡ step.Pass s j ∷ ss → (taken_step q).left ≡ ss
left_passed q s j ss h = ap (λ (x : Sequence). x.left) (taken_pass q s j ss h) ∙ passed_left s (record q { left = ss })

pub runs_passed : (q : Sequence) (s : Stage) (j : Option Handle) (ss : List Step) → q.left ≡ step.Pass s j ∷ ss → (taken_step q).running ≡ q.running
runs_passed q s j ss h = ap (λ (x : Sequence). x.running) (taken_pass q s j ss h) ∙ passed_running s (record q { left = ss })

-- and where a callback has begun
pub left_begun : (q : Sequence) (c : Callback) (j : Option Handle) (ss : List Step) → q.left ≡ step.Run c j ∷ ss → (taken_step q).left ≡ ss
left_begun q c j ss h = ap (λ (x : Sequence). x.left) (taken_run q c j ss h)

last_failure : (q : Sequence) (c : Callback) → last_only q.left ≡ true → last_only (left_after_failure q c) ≡ true
last_failure q callback.EvtDeviceQueryStop h = refl
last_failure q callback.EvtDeviceQueryRemove h = refl
last_failure q callback.EvtDevicePrepareHardware h = last_end q.steps q.ever_working
last_failure q callback.EvtDeviceD0Entry h = last_tail q.steps q.ever_working
last_failure q _ h = h

last_after : (q : Sequence) (c : Callback) (b : Bool) → last_only q.left ≡ true → last_only (if b then q.left else left_after_failure q c) ≡ true
last_after q c true h = h
last_after q c false h = last_failure q c h

abbrev pub IsInOrder : Sequence → Type 0
IsInOrder q = last_only q.left ≡ true

taken_in_order : (q : Sequence) (left : List Step) → left ≡ drop 1 q.left → (taken_step q).left ≡ left → IsInOrder q → IsInOrder (taken_step q)
taken_in_order q left is now h = subst (λ xs. last_only xs ≡ true) (sym (now ∙ is)) (last_dropped q.left h)

pub last_turns : {A : Type 0} (S U : State A) (e : Event) → Turned S U e → ((k : ℕ) → IsInOrder (sequence_of S.pnp k)) → (k : ℕ) → IsInOrder (sequence_of U.pnp k)
last_turns S U e (Still quiet same) all k = subst (λ Q. IsInOrder (sequence_of Q k)) (sym same) (all k)
last_turns S U e (Begun n c j quiet idle next same) all k =
    subst (λ Q. IsInOrder (sequence_of Q k)) (sym same)
    (one_holds IsInOrder S.pnp n k taken_step (taken_in_order (sequence_of S.pnp n) (drop 1 (steps_left S.pnp n)) refl (left_begun (sequence_of S.pnp n) c j (drop 1 (steps_left S.pnp n)) next)) (all n) (all k))
last_turns S U e (Ended cpu c o v j l is lives runs same) all k =
    subst (λ Q. IsInOrder (sequence_of Q k)) (sym same)
    (one_holds IsInOrder S.pnp _ k (λ q. record q { left = left_after q (step.Run c l) v; running = None }) (λ h. last_after (sequence_of S.pnp _) c (is_success v) h) (all _) (all k))
last_turns S U e (Passed n s j is idle next same) all k =
    subst (λ Q. IsInOrder (sequence_of Q k)) (sym same)
    (one_holds IsInOrder S.pnp n.id.0 k taken_step (taken_in_order (sequence_of S.pnp n.id.0) (drop 1 (steps_left S.pnp n.id.0)) refl (left_passed (sequence_of S.pnp n.id.0) s j (drop 1 (steps_left S.pnp n.id.0)) next)) (all n.id.0) (all k))
last_turns S U e (Asked agent a n answer is free same) all k =
    subst (λ Q. IsInOrder (sequence_of Q k)) (sym same)
    (one_holds IsInOrder S.pnp n.id.0 k (λ q. record q { left = steps_for q.steps q.ever_working q.phase a })
    (λ h. last_asked (sequence_of S.pnp n.id.0).steps (sequence_of S.pnp n.id.0).ever_working (sequence_of S.pnp n.id.0).phase a) (all n.id.0) (all k))
