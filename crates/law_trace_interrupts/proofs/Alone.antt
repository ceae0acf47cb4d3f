-- The callbacks of an interrupt that take its lock begin alone.
use Rattle.std.proofs.Common.{if◌then◌else◌, ◌≡◌, ℕ, ◌==◌, Bool, true, false, not, ◌||◌, List, [], ◌∷◌, inl, inr, Option, Some, length, slice_get, take, refl, ap, subst, ◌∙◌, arith}
use Rattle.std.specs.List.{list_any}
use Rattle.std.proofs.lemmas.Bool.{cases_Bool, eqb-true}
use Rattle.wdf_base.specs.Meaning.{Meaning}
use Rattle.wdf_base.specs.Resolved.{IsResolved}
use Rattle.wdf_base.specs.declared.ids.Cpu.{Cpu}
use Rattle.wdf_base.specs.declared.ids.Handle.{Handle}
use Rattle.wdf_base.specs.declared.plan.Plan.{Plan}
use Rattle.wdf_base.specs.declared.declared.InterruptInfo.{InterruptInfo}
use Rattle.wdf_base.specs.declared.call.Callback.{Callback}
use Rattle.wdf_base.specs.declared.call.Callback.TheVariants as callback
use Rattle.wdf_base.specs.declared.event.Event.{Event}
use Rattle.wdf_base.specs.declared.event.Event.TheVariants as event
use Rattle.wdf_base.specs.declared.declared.Declared.{Declared}
use Rattle.wdf_base.specs.Callbacks.{takes_interrupt_lock}
use Rattle.wdf_model.specs.Plans.{callback_irql, interrupt_of}
use Rattle.wdf_model.specs.parts.Cpus.{frame_of, is_empty_cpu, stack_of}
use Rattle.wdf_model.specs.parts.Locks.{is_free_if_any, is_free_lock, lock_of_callback, object_lock}
use Rattle.wdf_model.specs.State.{State, declared_in}
use Rattle.wdf_model.specs.rules.Ready.{IsRunOf, state_after}
use Rattle.wdf_model.specs.rules.Starts.{level_fits}
use Rattle.wdf_model.specs.rules.Steps.{may}
use Rattle.wdf_model.proofs.Tests.{both, both_left, both_right}
use Rattle.law_machine_lives.proofs.Sound.{lock_of_frame}
use Rattle.wdf_laws.specs.declared.sign.Stacked.{Stacked}
use Rattle.wdf_laws.specs.Frames.{frames_after, is_on}
use Rattle.wdf_laws.specs.Laws.{alone_row, is_alone, is_with_interrupt}
use Rattle.law_trace_scopes.proofs.Frames.{AgreesAfter, IsBegun, agrees_at_each}
use Rattle.law_trace_scopes.proofs.Scopes.{one_of, own_unfree}
use Rattle.law_trace_scopes.proofs.Stacks.{told_stack}
use Rattle.law_machine_lives.proofs.Keeping.{comes}

-- such a callback takes the interrupt's lock
locks_it : (plan : Plan) (c : Callback) (o : ℕ) (d : Option Declared) → takes_interrupt_lock c ≡ true → lock_of_callback plan c o d ≡ Some (object_lock o)
locks_it plan callback.EvtInterruptIsr o d h = refl
locks_it plan callback.EvtInterruptEnable o d h = refl
locks_it plan callback.EvtInterruptDisable o d h = refl
locks_it plan _ o d h = absurd (let z : ⊥ = cc in z)

-- it runs at the interrupt's level
level_is : (plan : Plan) (c : Callback) (o : ℕ) (x : InterruptInfo) → takes_interrupt_lock c ≡ true → interrupt_of plan o ≡ Some x → callback_irql plan c o ≡ x.level.0
level_is plan callback.EvtInterruptIsr o x h at = rw at refl
level_is plan callback.EvtInterruptEnable o x h at = rw at refl
level_is plan callback.EvtInterruptDisable o x h at = rw at refl
level_is plan _ o x h at = absurd (let z : ⊥ = cc in z)

-- ---- an empty processor

none_on_by : (cpu : ℕ) (s : Stacked) (ss : List Stacked) (b : Bool) → (s.cpu == cpu) ≡ b → told_stack cpu (s ∷ ss) ≡ [] → (told_stack cpu ss ≡ [] → list_any (is_on cpu) ss ≡ false) → list_any (is_on cpu) (s ∷ ss) ≡ false
none_on_by cpu s ss true e h rest = absurd (let t : s.frame ∷ told_stack cpu ss ≡ [] = rw e at h in let z : ⊥ = cc in z)
none_on_by cpu s ss false e h rest = let t : told_stack cpu ss ≡ [] = rw e at h in rw e (rest t)

none_on : (cpu : ℕ) (ss : List Stacked) → told_stack cpu ss ≡ [] → list_any (is_on cpu) ss ≡ false
none_on cpu [] h = refl
none_on cpu (s ∷ ss) h = none_on_by cpu s ss (s.cpu == cpu) refl h (none_on cpu ss)

no_frames_in : (fs : List ℕ) → (length fs == 0) ≡ true → fs ≡ []
no_frames_in [] h = refl
no_frames_in (f ∷ fs) h = let e : length (f ∷ fs) ≡ 0 = eqb-true (length (f ∷ fs)) 0 h in absurd (omega arith)

-- ---- a start

module _ {A : Type 0} (plan : Plan) (m : Meaning A) (S : State A) (cpu : Cpu) (c : Callback) (o : Handle) (r : Option Handle) (h : may plan m S (event.Start cpu c o r) ≡ true) where
  level_at : level_fits S cpu.0 (callback_irql plan c o.id.0) ≡ true
  level_at = search (both_left, both_right)

  lock_at : is_free_if_any S.locks (lock_of_callback plan c o.id.0 (declared_in plan S o.id.0)) ≡ true
  lock_at = search (both_left, both_right)

  empty_by : (level : ℕ) → callback_irql plan c o.id.0 ≡ level → (level == 0) ≡ true → stack_of S.cpus cpu.0 ≡ []
  empty_by level is zero_ =
      let t : (if level == 0 then is_empty_cpu S.cpus cpu.0 else _) ≡ true = subst (λ n. level_fits S cpu.0 n ≡ true) is level_at in
      no_frames_in (stack_of S.cpus cpu.0) (rw zero_ at t)

module _ {A : Type 0} (plan : Plan) (m : Meaning A) (run : List Event) (k : ℕ) (cpu : Cpu) (c : Callback) (o : Handle) (r : Option Handle) (x : InterruptInfo) (is_run : IsRunOf plan m run)
    (at : slice_get run k ≡ Some (event.Start cpu c o r)) (info : interrupt_of plan o.id.0 ≡ Some x) (takes : takes_interrupt_lock c ≡ true) where
  abbrev S : State A
  S = state_after plan m (take k run)

  begins : may plan m S (event.Start cpu c o r) ≡ true
  begins = comes plan m run k (event.Start cpu c o r) is_run at (λ time e. let z : ⊥ = cc in z)

  agrees : AgreesAfter plan (take k run) S
  agrees = agrees_at_each plan m run is_run k

  nobody_with : list_any (is_with_interrupt o.id.0) (frames_after (take k run)).begun ≡ true → ⊥
  nobody_with some_ =
      let free : is_free_lock S.locks (object_lock o.id.0) ≡ true = subst (λ l. is_free_if_any S.locks l ≡ true) (locks_it plan c o.id.0 (declared_in plan S o.id.0) takes) (lock_at plan m S cpu c o r begins) in
      let b = one_of (is_with_interrupt o.id.0) (IsBegun S) (frames_after (take k run)).begun some_ agrees.agrees.begun in
      let f : ℕ = b.0.frame in
      let same : b.0.object ≡ o.id.0 = eqb-true b.0.object o.id.0 (both_right (takes_interrupt_lock b.0.callback) (b.0.object == o.id.0) b.1) in
      let own : lock_of_frame plan S f ≡ Some (object_lock o.id.0) =
      ap (λ y. lock_of_callback plan y (frame_of S.cpus f).object.id.0 (declared_in plan S (frame_of S.cpus f).object.id.0)) b.2.1
      ∙ ap (λ y. lock_of_callback plan b.0.callback y (declared_in plan S y)) (b.2.2 ∙ same)
      ∙ locks_it plan b.0.callback o.id.0 (declared_in plan S o.id.0) (both_left (takes_interrupt_lock b.0.callback) (b.0.object == o.id.0) b.1) in
      own_unfree S (object_lock o.id.0) f free (agrees.agrees.holds f (λ z. z) b.2.0 (object_lock o.id.0) own)

  nobody_on_cpu : (b : Bool) → (x.level.0 == 0) ≡ b → (not b || not (list_any (is_on cpu.0) (frames_after (take k run)).stacks)) ≡ true
  nobody_on_cpu false e = refl
  nobody_on_cpu true e =
      let empty : stack_of S.cpus cpu.0 ≡ [] = empty_by plan m S cpu c o r begins x.level.0 (level_is plan c o.id.0 x takes info) e in
      ap not (none_on cpu.0 (frames_after (take k run)).stacks (agrees.agrees.stacks cpu.0 ∙ empty))

  alone : is_alone (frames_after (take k run)) x.level.0 cpu.0 o.id.0 ≡ true
  alone = elim (cases_Bool (list_any (is_with_interrupt o.id.0) (frames_after (take k run)).begun)) [
    | inl some_ ↦ absurd (nobody_with some_)
    | inr none ↦ both (not (list_any (is_with_interrupt o.id.0) (frames_after (take k run)).begun)) (not (x.level.0 == 0) || not (list_any (is_on cpu.0) (frames_after (take k run)).stacks)) (ap not none) (nobody_on_cpu (x.level.0 == 0) refl)
  ]

pub alone_at_each : {A : Type 0} (plan : Plan) (m : Meaning A) (run : List Event) (k : ℕ) (cpu : Cpu) (c : Callback) (o : Handle) (r : Option Handle) (x : InterruptInfo) → IsResolved plan → IsRunOf plan m run
    → slice_get run k ≡ Some (event.Start cpu c o r) → interrupt_of plan o.id.0 ≡ Some x → alone_row (frames_after (take k run)) c x.level.0 cpu.0 o.id.0 ≡ true
alone_at_each plan m run k cpu c o r x resolved is_run at info = elim (cases_Bool (takes_interrupt_lock c)) [
  | inl takes ↦ rw takes (alone plan m run k cpu c o r x is_run at info takes)
  | inr not_ ↦ rw not_ refl
]
