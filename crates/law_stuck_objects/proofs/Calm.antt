-- A frame that waits for something else than a spin lock or an interrupt's lock has the level 0, at each place of every run.
use Rattle.std.proofs.Common.{if◌then◌else◌, ◌≡◌, ◌≢◌, ℕ, suc, max, ◌==◌, nat_lt, Bool, true, false, not, List, [], ◌∷◌, ◌++◌, ◌⊎◌, inl, inr, Option, Some, None, filter, fold, length, map, take, refl, sym, ap, subst, ◌∙◌, arith}
use Rattle.std.specs.List.{list_all}
use Rattle.std.proofs.lemmas.Bool.{eqb-true}
use Rattle.std.proofs.lemmas.Bool.Decides.{nat_tests}
use Rattle.wdf_base.specs.Meaning.{Meaning}
use Rattle.wdf_base.specs.declared.plan.Plan.{Plan}
use Rattle.wdf_base.specs.declared.ids.Handle.{Handle}
use Rattle.wdf_base.specs.declared.value.Value.{Value}
use Rattle.wdf_base.specs.declared.value.Value.TheVariants.{Num}
use Rattle.wdf_base.specs.declared.call.Arg.{Arg}
use Rattle.wdf_base.specs.declared.call.Call.{Call}
use Rattle.wdf_base.specs.declared.call.CallKind.{CallKind}
use Rattle.wdf_base.specs.declared.call.CallKind.TheVariants as call
use Rattle.wdf_base.specs.declared.call.Callback.{Callback}
use Rattle.wdf_base.specs.declared.event.Event.{Event}
use Rattle.wdf_base.specs.declared.event.Event.TheVariants as event
use Rattle.wdf_base.specs.declared.event.Fault.TheVariants as fault
use Rattle.wdf_base.specs.declared.frame.Frame.{Frame}
use Rattle.wdf_base.specs.declared.frame.Pending.{Pending}
use Rattle.wdf_base.specs.declared.object.Kind.TheVariants as kind
use Rattle.wdf_base.specs.declared.object.LockRef.{LockRef}
use Rattle.wdf_base.specs.declared.rank.Rank.{Rank}
use Rattle.wdf_base.specs.declared.rank.Rank.TheVariants as rank
use Rattle.wdf_base.specs.Callbacks.{row_of}
use Rattle.wdf_model.specs.declared.entries.HeldLevel.{HeldLevel}
use Rattle.wdf_model.specs.declared.entries.Running.{Running}
use Rattle.wdf_model.specs.Plans.{callback_irql}
use Rattle.wdf_model.specs.parts.Cpus.{Cpus, frame_level, frame_of, irql, less_one, level_of_top, levels_of, levels_without, no_frame, running, top, without_frame}
use Rattle.wdf_model.specs.parts.Cpus as cpus
use Rattle.wdf_model.specs.parts.Locks.{lock_of_callback}
use Rattle.wdf_model.specs.parts.Tree.{kind_of}
use Rattle.wdf_model.specs.State.{State, declared_in, object_in, opening}
use Rattle.wdf_model.specs.Ids.{cpu_of, frame_id, irql_of}
use Rattle.wdf_model.specs.rules.Calls.{is_met_then, level_of_kind, lock_level, outcome, second_deeds}
use Rattle.wdf_model.specs.declared.deed.Deed.{Deed}
use Rattle.wdf_model.specs.declared.deed.Deed.TheVariants.{GoOn, Lower, ParkFrame, PopFrame, PushFrame, Raise, ReleaseLock, TakeLock, UnparkFrame}
use Rattle.wdf_model.specs.rules.Deeds.{do_deed, do_deeds}
use Rattle.wdf_base.specs.Values.{arg_is}
use Rattle.wdf_model.specs.rules.Ready.{IsRunOf, state_after}
use Rattle.wdf_model.specs.rules.Script.{intent_of, statement_at}
use Rattle.wdf_model.specs.rules.Starts.{end_of_step, new_frame, next_number, release_if_any, stage_deeds, start_deeds, start_effect, take_if_any}
use Rattle.wdf_model.specs.rules.Steps.{answered, by_top, deeds, did_deeds, goes_on, may, spending, stepped, view_of, waiting, waiting_deeds, woke_deeds}
use Rattle.wdf_model.specs.rules.Posts.{post_deeds}
use Rattle.wdf_model.proofs.Tests.{both, both_left, both_right, either_false, itself}
use Rattle.wdf_model.proofs.Maps.{entry_put_other, entry_put_same}
use Rattle.wdf_model.proofs.Counts.{not_equal, one_or_two}
use Rattle.law_machine_base.proofs.Fits.{first_kind, wrong_kind_of_first}
use Rattle.law_machine_base.proofs.FitsOfCalls.{Clean}
use Rattle.law_machine_base.proofs.FitsOfEvents.{by_its_top}
use Rattle.law_machine_base.proofs.OwnEvents.{did_tells, waiting_tells, woke_tells}
use Rattle.wdf_model.proofs.Sames.{kind_decides}
use Rattle.law_machine_counts.proofs.StepStates.{in_turn}
use Rattle.law_machine_lives.proofs.Keeping.{at_the_end, each_place}
use Rattle.law_machine_lives.proofs.LevelEvents.{at_next_waits, stepped_waits}
use Rattle.law_machine_lives.proofs.QuietDeeds.{all_quiet, is_quiet_deed, outcome_none, post_none, stage_none, start_effect_none}
use Rattle.law_machine_lives.proofs.QuietMoves.{quiet_cpus}
use Rattle.law_stuck_objects.specs.Spinning.{is_spin_call}

-- a frame that waits, but not for a spin lock or an interrupt's lock, has the level 0
pub record Calm (C : Cpus) : Type 0 where
  pub level : (f : ℕ) (p : Pending) → (frame_of C f).pending ≡ Some p → is_spin_call p.call.kind ≡ false → frame_level C f ≡ 0

-- ---- the other frames

-- another frame than f stays as it is, with its levels, or it doesn't wait
record OneStays (C D : Cpus) (x : ℕ) : Type 0 where
  is : ((frame_of D x).pending ≡ None) ⊎ ((running D x ≡ running C x) × (levels_of D x ≡ levels_of C x))

abbrev OthersStay : ℕ → Cpus → Cpus → Type 0
OthersStay f C D = (x : ℕ) → x ≢ f → OneStays C D x

same_cpus : (f : ℕ) (C D : Cpus) → D ≡ C → OthersStay f C D
same_cpus f C D e x n = subst (λ E. OneStays C E x) (sym e) (record { is = inr (refl, refl) })

then_one : (C D E : Cpus) (x : ℕ) → OneStays C D x → OneStays D E x → OneStays C E x
then_one C D E x a b = elim b.is [
  | inl none ↦ record { is = inl none }
  | inr same ↦ elim a.is [
    | inl none ↦ record { is = inl (ap (λ (r : Running). r.frame.pending) same.0 ∙ none) }
    | inr before ↦ record { is = inr (same.0 ∙ before.0, same.1 ∙ before.1) }
  ]
]

module _ (C : Cpus) (f x : ℕ) (n : x ≢ f) where
  other_off : (f == x) ≡ false
  other_off = not_equal f x (λ e. n (sym e))

  abbrev of_x : List HeldLevel → List HeldLevel
  of_x ls = filter (λ (l : HeldLevel). l.frame.0 == x) ls

  own_off : (l : HeldLevel) → (l.frame.0 == f) ≡ true → (l.frame.0 == x) ≡ false
  own_off l e = not_equal l.frame.0 x (λ s. n (sym s ∙ eqb-true l.frame.0 f e))

  lowered_by : (v : ℕ) (l : HeldLevel) (ls : List HeldLevel) (a b : Bool) → (l.frame.0 == f) ≡ a → (l.level.0 == v) ≡ b → of_x (less_one f v ls) ≡ of_x ls → of_x (less_one f v (l ∷ ls)) ≡ of_x (l ∷ ls)
  lowered_by v l ls true true e k rest = let off = own_off l e in rw (e, k, off) refl
  lowered_by v l ls true false e k rest = rw (e, k) (ap (λ ys. if l.frame.0 == x then l ∷ ys else ys) rest)
  lowered_by v l ls false b e k rest = rw e (ap (λ ys. if l.frame.0 == x then l ∷ ys else ys) rest)

  lowered : (v : ℕ) (ls : List HeldLevel) → of_x (less_one f v ls) ≡ of_x ls
  lowered v [] = refl
  lowered v (l ∷ ls) = lowered_by v l ls (l.frame.0 == f) (l.level.0 == v) refl refl (lowered v ls)

  ended_by : (l : HeldLevel) (ls : List HeldLevel) (a : Bool) → (l.frame.0 == f) ≡ a → of_x (filter (λ (y : HeldLevel). not (y.frame.0 == f)) ls) ≡ of_x ls → of_x (filter (λ (y : HeldLevel). not (y.frame.0 == f)) (l ∷ ls)) ≡ of_x (l ∷ ls)
  ended_by l ls true e rest = let off = own_off l e in rw (e, off) rest
  ended_by l ls false e rest = rw e (ap (λ ys. if l.frame.0 == x then l ∷ ys else ys) rest)

  ended : (ls : List HeldLevel) → of_x (filter (λ (l : HeldLevel). not (l.frame.0 == f)) ls) ≡ of_x ls
  ended [] = refl
  ended (l ∷ ls) = ended_by l ls (l.frame.0 == f) refl (ended ls)

  raised_other : (v : ℕ) → OneStays C (cpus.raise C f v) x
  raised_other v = record { is = inr (refl, rw other_off refl) }

  lowered_other : (v : ℕ) → OneStays C (cpus.lower C f v) x
  lowered_other v = record { is = inr (refl, ap (λ ys. map (λ (l : HeldLevel). l.level.0) ys) (lowered v C.levels)) }

  changed_other : (a : Frame) → OneStays C (cpus.change C f a) x
  changed_other a = record { is = inr (entry_put_other no_frame C.frames f x (record (running C f) { frame = a }) n, refl) }

  pushed_other : (cpu : ℕ) (a : Frame) (v : ℕ) → OneStays C (cpus.push C cpu f a v) x
  pushed_other cpu a v = record { is = inr (entry_put_other no_frame C.frames f x (record { frame = a; level = record { 0 = v } }) n, refl) }

-- the top frame of a processor ends
popped : (C : Cpus) (cpu x : ℕ) (o : Option ℕ) → top C cpu ≡ o → OneStays C (cpus.pop C cpu) x
popped C cpu x None e = record { is = inr (ap (λ t. entryOf (without_frame C t)) e, ap (λ t. map (λ (l : HeldLevel). l.level.0) (filter (λ (l : HeldLevel). l.frame.0 == x) (levels_without C t))) e) }
  where
    entryOf : List Running → Running
    entryOf fs = running (record C { frames = fs }) x
popped C cpu x (Some g) e = elim (one_or_two x g) [
  | inl same ↦ record { is = inl (ap (λ t. (running (record C { frames = without_frame C t }) x).frame.pending) e ∙ ap (λ y. (running (record C { frames = without_frame C (Some g) }) y).frame.pending) same ∙ ap (λ (r : Running). r.frame.pending) (entry_put_same no_frame C.frames g no_frame)) }
  | inr n ↦ record {
    is = inr (
      ap (λ t. running (record C { frames = without_frame C t }) x) e ∙ entry_put_other no_frame C.frames g x no_frame n,
      ap (λ t. map (λ (l : HeldLevel). l.level.0) (filter (λ (l : HeldLevel). l.frame.0 == x) (levels_without C t))) e ∙ ap (λ ys. map (λ (l : HeldLevel). l.level.0) ys) (ended C g x n C.levels),
    );
  }
]

-- ---- deeds

-- a deed that changes no frame but f
abbrev acts_on : ℕ → Deed → Bool
acts_on f (PushFrame cpu g frame level) = g.0 == f
acts_on f (GoOn g frame) = g.0 == f
acts_on f (Raise g level) = g.0 == f
acts_on f (Lower g level) = g.0 == f
acts_on f _ = true

apart : (g f x : ℕ) → (g == f) ≡ true → x ≢ f → x ≢ g
apart g f x e n s = n (s ∙ eqb-true g f e)

others_by : {A : Type 0} (plan : Plan) (d : Deed) (S : State A) (f : ℕ) → acts_on f d ≡ true → OthersStay f S.cpus (do_deed plan d S).cpus
others_by plan (PushFrame cpu g frame level) S f h x n = pushed_other S.cpus g.0 x (apart g.0 f x h n) cpu.0 frame level.0
others_by plan (GoOn g frame) S f h x n = changed_other S.cpus g.0 x (apart g.0 f x h n) frame
others_by plan (Raise g level) S f h x n = raised_other S.cpus g.0 x (apart g.0 f x h n) level.0
others_by plan (Lower g level) S f h x n = lowered_other S.cpus g.0 x (apart g.0 f x h n) level.0
others_by plan (PopFrame cpu) S f h x n = popped S.cpus cpu.0 x (top S.cpus cpu.0) refl
others_by plan (ParkFrame cpu) S f h x n = record { is = inr (refl, refl) }
others_by plan (UnparkFrame cpu g) S f h x n = record { is = inr (refl, refl) }
others_by plan (TakeLock l g by_call) S f h x n = record { is = inr (refl, refl) }
others_by plan (ReleaseLock l) S f h x n = record { is = inr (refl, refl) }
others_by plan d S f h x n = same_cpus f S.cpus (do_deed plan d S).cpus (quiet_cpus plan d S refl) x n

abbrev all_act : ℕ → List Deed → Bool
all_act f ds = list_all (acts_on f) ds

others_stay : {A : Type 0} (plan : Plan) (f : ℕ) (ds : List Deed) (S : State A) → all_act f ds ≡ true → OthersStay f S.cpus (do_deeds plan ds S).cpus
others_stay plan f [] S h x n = record { is = inr (refl, refl) }
others_stay plan f (d ∷ ds) S h x n =
    then_one S.cpus (do_deed plan d S).cpus (do_deeds plan ds (do_deed plan d S)).cpus x (others_by plan d S f (both_left (acts_on f d) (all_act f ds) h) x n)
    (others_stay plan f ds (do_deed plan d S) (both_right (acts_on f d) (all_act f ds) h) x n)

quiet_acts : (f : ℕ) (d : Deed) → is_quiet_deed d ≡ true → acts_on f d ≡ true
quiet_acts f (PushFrame cpu g frame level) h = absurd (let z : ⊥ = cc in z)
quiet_acts f (GoOn g frame) h = absurd (let z : ⊥ = cc in z)
quiet_acts f (Raise g level) h = absurd (let z : ⊥ = cc in z)
quiet_acts f (Lower g level) h = absurd (let z : ⊥ = cc in z)
quiet_acts f _ h = refl

all_quiet_act : (f : ℕ) (ds : List Deed) → all_quiet ds ≡ true → all_act f ds ≡ true
all_quiet_act f [] h = refl
all_quiet_act f (d ∷ ds) h = both (acts_on f d) (all_act f ds) (quiet_acts f d (both_left (is_quiet_deed d) (all_quiet ds) h)) (all_quiet_act f ds (both_right (is_quiet_deed d) (all_quiet ds) h))

all_act_after : (f : ℕ) (ds es : List Deed) → all_act f ds ≡ true → all_act f es ≡ true → all_act f (ds ++ es) ≡ true
all_act_after f [] es h k = k
all_act_after f (d ∷ ds) es h k = both (acts_on f d) (all_act f (ds ++ es)) (both_left (acts_on f d) (all_act f ds) h) (all_act_after f ds es (both_right (acts_on f d) (all_act f ds) h) k)

quiet_all : {A : Type 0} (plan : Plan) (ds : List Deed) (S : State A) → all_quiet ds ≡ true → (do_deeds plan ds S).cpus ≡ S.cpus
quiet_all plan [] S h = refl
quiet_all plan (d ∷ ds) S h = quiet_all plan ds (do_deed plan d S) (both_right (is_quiet_deed d) (all_quiet ds) h) ∙ quiet_cpus plan d S (both_left (is_quiet_deed d) (all_quiet ds) h)

-- ---- what is calm stays so

level_same : (C D : Cpus) (x : ℕ) → running D x ≡ running C x → levels_of D x ≡ levels_of C x → frame_level D x ≡ frame_level C x
level_same C D x e k = ap (λ (r : Running). fold max r.level.0 (levels_of D x)) e ∙ ap (λ ls. fold max (running C x).level.0 ls) k

waits_not : (o : Option Pending) (p : Pending) → o ≡ None → o ≡ Some p → ⊥
waits_not o p e h = let s : None ≡ Some p = sym e ∙ h in let z : ⊥ = cc in z

one_calm : (C D : Cpus) (x : ℕ) → OneStays C D x → Calm C → (p : Pending) → (frame_of D x).pending ≡ Some p → is_spin_call p.call.kind ≡ false → frame_level D x ≡ 0
one_calm C D x s k p h off = elim s.is [
  | inl none ↦ absurd (waits_not (frame_of D x).pending p none h)
  | inr same ↦ level_same C D x same.0 same.1 ∙ k.level x p (sym (ap (λ (r : Running). r.frame.pending) same.0) ∙ h) off
]

-- frame f is calm, and the others stay
calm_then : (C D : Cpus) (f : ℕ) → OthersStay f C D → ((p : Pending) → (frame_of D f).pending ≡ Some p → is_spin_call p.call.kind ≡ false → frame_level D f ≡ 0) → Calm C → Calm D
calm_then C D f others here k = record {
  level = λ x p h off. elim (one_or_two x f) [
    | inl e ↦ subst (λ y. frame_level D y ≡ 0) (sym e) (here p (subst (λ y. (frame_of D y).pending ≡ Some p) e h) off)
    | inr n ↦ one_calm C D x (others x n) k p h off
  ];
}

-- frame f doesn't wait
calm_idle : (C D : Cpus) (f : ℕ) → OthersStay f C D → (frame_of D f).pending ≡ None → Calm C → Calm D
calm_idle C D f others none k = calm_then C D f others (λ p h off. absurd (waits_not (frame_of D f).pending p none h)) k

-- all stay
calm_all : (C D : Cpus) → ((f : ℕ) → OthersStay f C D) → Calm C → Calm D
calm_all C D others k = record { level = λ x p h off. one_calm C D x (others (suc x) x (λ e. let z : ⊥ = omega arith in z)) k p h off }

-- ---- a frame goes on

goes_here : (C : Cpus) (f : ℕ) (a : Frame) → running (cpus.change C f a) f ≡ record (running C f) { frame = a }
goes_here C f a = entry_put_same no_frame C.frames f (record (running C f) { frame = a })

goes_waiting : (C : Cpus) (f : ℕ) (a : Frame) → (frame_of (cpus.change C f a) f).pending ≡ a.pending
goes_waiting C f a = ap (λ (r : Running). r.frame.pending) (goes_here C f a)

goes_level : (C : Cpus) (f : ℕ) (a : Frame) → frame_level (cpus.change C f a) f ≡ frame_level C f
goes_level C f a = ap (λ (r : Running). fold max r.level.0 (levels_of C f)) (goes_here C f a)

abbrev CalmIn : {A : Type 0} → State A → Type 0
CalmIn S = Calm S.cpus

moves_calm : {A : Type 0} (plan : Plan) (S : State A) (cpu : ℕ) (next : Frame → Frame) (there : Option ℕ) → ((f : ℕ) → top S.cpus cpu ≡ Some f → ((next (frame_of S.cpus f)).pending ≡ (frame_of S.cpus f).pending) ⊎ ((next (frame_of S.cpus f)).pending ≡ None)) → top S.cpus cpu ≡ there
    → CalmIn S → CalmIn (do_deeds plan (elim there as (λ _. List Deed) [ None ↦ [] | Some f ↦ GoOn (frame_id f) (next (frame_of S.cpus f)) ∷ [] ]) S)
moves_calm plan S cpu next None same t k = k
moves_calm {A} plan S cpu next (Some f) same t k =
    let a : Frame = next (frame_of S.cpus f) in
    let D : Cpus = cpus.change S.cpus f a in
    calm_then S.cpus D f (λ x n. changed_other S.cpus f x n a)
    (λ p h off. elim (same f t) [
      | inl e ↦ goes_level S.cpus f a ∙ k.level f p (sym e ∙ (sym (goes_waiting S.cpus f a) ∙ h)) off
      | inr none ↦ absurd (waits_not (frame_of D f).pending p (goes_waiting S.cpus f a ∙ none) h)
    ]) k

-- after deeds of f it goes on and doesn't wait
answered_calm : {A : Type 0} (plan : Plan) (S : State A) (f : ℕ) (ds : List Deed) (a : Frame) → all_act f ds ≡ true → a.pending ≡ None → CalmIn S → CalmIn (do_deeds plan (ds ++ GoOn (frame_id f) a ∷ []) S)
answered_calm {A} plan S f ds a acts none k =
    let U : State A = do_deeds plan ds S in
    let e = in_turn plan ds (GoOn (frame_id f) a ∷ []) S in
    subst (λ (V : State A). CalmIn V) (sym e)
    (calm_idle S.cpus (cpus.change U.cpus f a) f
    (λ x n. then_one S.cpus U.cpus (cpus.change U.cpus f a) x (others_stay plan f ds S acts x n) (changed_other U.cpus f x n a))
    (goes_waiting U.cpus f a ∙ none) k)

-- ---- calls

second_acts : (f : ℕ) (k : CallKind) (n : ℕ) (a b x : Arg) → all_act f (second_deeds f (record { kind = k; count = n; a = a; b = b; c = x })) ≡ true
second_acts f call.WdfInterruptAcquireLock n a b x = refl
second_acts f _ n a b x = refl

module _ {A : Type 0} (plan : Plan) (S : State A) (cpu f : ℕ) where
  outcome_acts : (k : CallKind) (n : ℕ) (a b x : Arg) → all_act f (outcome plan S cpu f (record { kind = k; count = n; a = a; b = b; c = x })).deeds ≡ true
  outcome_acts call.WdfSpinLockAcquire n a b x = both (f == f) true (itself f) refl
  outcome_acts call.WdfWaitLockAcquire n a b x = both (f == f) true (itself f) refl
  outcome_acts call.WdfInterruptAcquireLock n a b x = both (f == f) true (itself f) refl
  outcome_acts call.WdfSpinLockRelease n a b x = both (f == f) true (itself f) refl
  outcome_acts call.WdfWaitLockRelease n a b x = both (f == f) true (itself f) refl
  outcome_acts call.WdfInterruptReleaseLock n a b x = both (f == f) true (itself f) refl
  outcome_acts k n a b x = all_quiet_act f (outcome plan S cpu f (record { kind = k; count = n; a = a; b = b; c = x })).deeds (outcome_none plan S cpu f k n a b x refl)

  none_above : (n : ℕ) → nat_lt 0 n ≡ false → n ≡ 0
  none_above n h = grind (arith, nat_tests)

  none_above_if : (b : Bool) (n : ℕ) → b ≡ false → nat_lt (if b then 2 else 0) n ≡ false → n ≡ 0
  none_above_if true n e h = absurd (let z : ⊥ = cc in z)
  none_above_if false n e h = none_above n h

  -- a call that waits, and spins for no lock, is made at level 0
  waits_low : (k : CallKind) (n : ℕ) (a b x : Arg) → is_spin_call k ≡ false → Clean plan S cpu f (record { kind = k; count = n; a = a; b = b; c = x }) → is_met_then plan S (record { kind = k; count = n; a = a; b = b; c = x }) ≡ false → irql S.cpus cpu ≡ 0
  waits_low call.WdfSpinLockAcquire n a b x off h unmet = absurd (let z : ⊥ = cc in z)
  waits_low call.WdfInterruptAcquireLock n a b x off h unmet = absurd (let z : ⊥ = cc in z)
  waits_low call.WdfWaitLockAcquire n a b x off h unmet = none_above (irql S.cpus cpu) (h fault.IrqlTooHigh)
  waits_low call.WdfIoQueueStopSynchronously n a b x off h unmet = none_above (irql S.cpus cpu) (h fault.IrqlTooHigh)
  waits_low call.WdfIoQueueDrainSynchronously n a b x off h unmet = none_above (irql S.cpus cpu) (h fault.IrqlTooHigh)
  waits_low call.WdfIoQueuePurgeSynchronously n a b x off h unmet = none_above (irql S.cpus cpu) (h fault.IrqlTooHigh)
  waits_low call.WdfWorkItemFlush n a b x off h unmet = none_above (irql S.cpus cpu) (h fault.IrqlTooHigh)
  waits_low call.WdfDpcCancel n a b x off h unmet = none_above_if (arg_is b 0) (irql S.cpus cpu) (either_false (arg_is b 0) _ unmet).0 (h fault.IrqlTooHigh)
  waits_low call.WdfTimerStop n a b x off h unmet = none_above_if (arg_is b 0) (irql S.cpus cpu) (either_false (arg_is b 0) _ unmet).0 (h fault.IrqlTooHigh)
  waits_low call.WdfIoTargetStop n a b x off h unmet = none_above_if (arg_is b 2) (irql S.cpus cpu) (either_false (arg_is b 2) _ unmet).0 (h fault.IrqlTooHigh)
  waits_low k n a b x off h unmet = absurd (let z : ⊥ = cc in z)

  raised_zero : (C : Cpus) (v : ℕ) → v ≡ 0 → frame_level C f ≡ 0 → frame_level (cpus.raise C f v) f ≡ 0
  raised_zero C v e h =
      let l : ℕ = (running C f).level.0 in
      let rest : List ℕ = levels_of C f in
      let same : max l v ≡ l = omega arith in
      rw (itself f) (ap (λ m. fold max m rest) same ∙ h)

  -- its first part leaves the frame at level 0
  waits_level : (k : CallKind) (n : ℕ) (a b x : Arg) → is_spin_call k ≡ false → Clean plan S cpu f (record { kind = k; count = n; a = a; b = b; c = x }) → is_met_then plan S (record { kind = k; count = n; a = a; b = b; c = x }) ≡ false → frame_level S.cpus f ≡ 0
      → frame_level (do_deeds plan (outcome plan S cpu f (record { kind = k; count = n; a = a; b = b; c = x })).deeds S).cpus f ≡ 0
  waits_level call.WdfSpinLockAcquire n a b x off h unmet low = absurd (let z : ⊥ = cc in z)
  waits_level call.WdfInterruptAcquireLock n a b x off h unmet low = absurd (let z : ⊥ = cc in z)
  waits_level call.WdfSpinLockRelease n a b x off h unmet low = absurd (let z : ⊥ = cc in z)
  waits_level call.WdfWaitLockRelease n a b x off h unmet low = absurd (let z : ⊥ = cc in z)
  waits_level call.WdfInterruptReleaseLock n a b x off h unmet low = absurd (let z : ⊥ = cc in z)
  waits_level call.WdfWaitLockAcquire n a b x off h unmet low =
      let is = (kind_decides (kind_of S.tree (object_in a)) kind.WaitLock).0 (first_kind (view_of plan S cpu f) kind.WaitLock a (wrong_kind_of_first (view_of plan S cpu f) (record { kind = call.WdfWaitLockAcquire; count = n; a = a; b = b; c = x }) (h fault.WrongKind))) in
      raised_zero S.cpus (lock_level plan S (object_in a)) (ap (level_of_kind plan (object_in a)) is) low
  waits_level k n a b x off h unmet low =
      ap (λ C. frame_level C f) (quiet_all plan (outcome plan S cpu f (record { kind = k; count = n; a = a; b = b; c = x })).deeds S (outcome_none plan S cpu f k n a b x refl)) ∙ low

  -- a frame begins to wait
  waits_calm : (c : Call) (v : Value) → top S.cpus cpu ≡ Some f → Clean plan S cpu f c → is_met_then plan S c ≡ false → CalmIn S → CalmIn (do_deeds plan ((outcome plan S cpu f c).deeds ++ GoOn (frame_id f) (waiting (frame_of S.cpus f) c v) ∷ []) S)
  waits_calm c v t h unmet k =
      let ds : List Deed = (outcome plan S cpu f c).deeds in
      let next : Frame = waiting (frame_of S.cpus f) c v in
      let U : State A = do_deeds plan ds S in
      let D : Cpus = cpus.change U.cpus f next in
      subst (λ (V : State A). CalmIn V) (sym (in_turn plan ds (GoOn (frame_id f) next ∷ []) S))
      (calm_then S.cpus D f
      (λ x n. then_one S.cpus U.cpus D x (others_stay plan f ds S (outcome_acts c.kind c.count c.a c.b c.c) x n) (changed_other U.cpus f x n next))
      (λ p e off.
      let it : Some (record { call = c; answer = v }) ≡ Some p = sym (goes_waiting U.cpus f next) ∙ e in
      let same : record { call = c; answer = v } ≡ p = cc in
      let spins : is_spin_call c.kind ≡ false = ap (λ (q : Pending). is_spin_call q.call.kind) same ∙ off in
      let low : irql S.cpus cpu ≡ 0 = waits_low c.kind c.count c.a c.b c.c spins h unmet in
      let level_ : frame_level S.cpus f ≡ 0 = sym (ap (level_of_top S.cpus) t) ∙ low in
      goes_level U.cpus f next ∙ waits_level c.kind c.count c.a c.b c.c spins h unmet level_) k)

-- ---- events

taking_acts : (f : ℕ) (l : Option LockRef) → all_act f (take_if_any f l) ≡ true
taking_acts f None = refl
taking_acts f (Some l) = refl

step_acts : {A : Type 0} (plan : Plan) (S : State A) (f : ℕ) (k : Rank) (c : Callback) (o : ℕ) (v : Value) → all_act f (end_of_step plan S k c o v) ≡ true
step_acts plan S f rank.Sequence c o v = refl
step_acts plan S f _ c o v = refl

end_acts : {A : Type 0} (plan : Plan) (S : State A) (f cpu : ℕ) (k : Rank) (c : Callback) (o : ℕ) (v : Value) (l : Option LockRef) → all_act f (release_if_any l ++ PopFrame (cpu_of cpu) ∷ end_of_step plan S k c o v) ≡ true
end_acts plan S f cpu k c o v None = step_acts plan S f k c o v
end_acts plan S f cpu k c o v (Some l) = step_acts plan S f k c o v

-- a callback starts: its frame doesn't wait
starts_calm : {A : Type 0} (plan : Plan) (S : State A) (cpu : ℕ) (c : Callback) (o : Handle) (r : Option Handle) → CalmIn S → CalmIn (do_deeds plan (start_deeds plan S cpu c o r) S)
starts_calm {A} plan S cpu c o r k =
    let f : ℕ = next_number S in
    let frame : Frame = new_frame plan S c o r in
    let level : ℕ = callback_irql plan c o.id.0 in
    let l : Option LockRef = lock_of_callback plan c o.id.0 (declared_in plan S o.id.0) in
    let ds : List Deed = start_effect plan S cpu c o.id.0 r in
    let es : List Deed = PushFrame (cpu_of cpu) (frame_id f) frame (irql_of level) ∷ take_if_any f l in
    let U : State A = do_deeds plan ds S in
    let acts : all_act f (ds ++ es) ≡ true = all_act_after f ds es (all_quiet_act f ds (start_effect_none plan S cpu c o.id.0 r)) (both (f == f) (all_act f (take_if_any f l)) (itself f) (taking_acts f l)) in
    calm_idle S.cpus (do_deeds plan (ds ++ es) S).cpus f (others_stay plan f (ds ++ es) S acts)
    (ap (λ (V : State A). (frame_of V.cpus f).pending) (in_turn plan ds es S) ∙ pushed U f frame level l) k
  where
    pushed : (U : State A) (f : ℕ) (a : Frame) (level : ℕ) (l : Option LockRef) → (frame_of (do_deeds plan (PushFrame (cpu_of cpu) (frame_id f) a (irql_of level) ∷ take_if_any f l) U).cpus f).pending ≡ a.pending
    pushed U f a level None = ap (λ (x : Running). x.frame.pending) (entry_put_same no_frame U.cpus.frames f (record { frame = a; level = record { 0 = level } }))
    pushed U f a level (Some l) = ap (λ (x : Running). x.frame.pending) (entry_put_same no_frame U.cpus.frames f (record { frame = a; level = record { 0 = level } }))

quiet_calm : {A : Type 0} (plan : Plan) (ds : List Deed) (S : State A) → all_quiet ds ≡ true → CalmIn S → CalmIn (do_deeds plan ds S)
quiet_calm plan ds S quiet k = subst Calm (sym (quiet_all plan ds S quiet)) k

at_top : {A : Type 0} (plan : Plan) (S : State A) (cpu f : ℕ) (what : ℕ → Frame → List Deed) → top S.cpus cpu ≡ Some f → CalmIn (do_deeds plan (what f (frame_of S.cpus f)) S) → CalmIn (do_deeds plan (by_top S cpu what) S)
at_top {A} plan S cpu f what t k = subst (λ ds. CalmIn (do_deeds plan ds S)) (sym (by_its_top S cpu f what t)) k

event_calm : {A : Type 0} (plan : Plan) (m : Meaning A) (S : State A) (e : Event) → may plan m S e ≡ true → CalmIn S → CalmIn (do_deeds plan (deeds plan S e) S)
event_calm plan m S (event.Start c k o r) h l = starts_calm plan S c.0 k o r l
event_calm plan m S (event.Local c line) h l = moves_calm plan S c.0 (λ frame. stepped frame (intent_of plan frame)) (top S.cpus c.0) (λ f t. inl (stepped_waits (frame_of S.cpus f) (intent_of plan (frame_of S.cpus f)))) refl l
event_calm plan m S (event.Log c v) h l = moves_calm plan S c.0 (λ frame. goes_on plan frame) (top S.cpus c.0) (λ f t. inl (at_next_waits (frame_of S.cpus f) (statement_at plan (frame_of S.cpus f)))) refl l
event_calm plan m S (event.Spend c n) h l = moves_calm plan S c.0 (λ frame. spending plan S frame n) (top S.cpus c.0) (λ f t. inl (at_next_waits (frame_of S.cpus f) (statement_at plan (frame_of S.cpus f)))) refl l
event_calm plan m S (event.Register c a r v) h l = moves_calm plan S c.0 (λ frame. answered plan frame (Num v)) (top S.cpus c.0) (λ f t. inr refl) refl l
event_calm plan m S (event.Did c k v) h l =
    let d = did_tells plan m S c k v h in
    let f : ℕ = d.frame in
    let ds : List Deed = (outcome plan S c.0 f k).deeds ++ second_deeds f k in
    at_top plan S c.0 f (did_deeds plan S c.0 k v) d.about.top
    (answered_calm plan S f ds (answered plan (frame_of S.cpus f) v) (all_act_after f (outcome plan S c.0 f k).deeds (second_deeds f k) (outcome_acts plan S c.0 f k.kind k.count k.a k.b k.c) (second_acts f k.kind k.count k.a k.b k.c)) refl l)
event_calm plan m S (event.Waiting c k) h l =
    let d = waiting_tells plan m S c k h in
    at_top plan S c.0 d.frame (waiting_deeds plan S c.0 k) d.about.top (waits_calm plan S c.0 d.frame k (outcome plan S c.0 d.frame k).answer d.about.top d.about.clean d.unmet l)
event_calm plan m S (event.Woke c k v) h l =
    let d = woke_tells plan m S c k v h in
    at_top plan S c.0 d.frame (woke_deeds plan k v) d.top (answered_calm plan S d.frame (second_deeds d.frame k) (answered plan (frame_of S.cpus d.frame) v) (second_acts d.frame k.kind k.count k.a k.b k.c) refl l)
event_calm plan m S (event.Park c f) h l = record { level = l.level }
event_calm plan m S (event.Unpark c f) h l = record { level = l.level }
event_calm plan m S (event.End c k o v) h l =
    calm_all S.cpus (do_deeds plan (deeds plan S (event.End c k o v)) S).cpus
    (λ f. others_stay plan f (deeds plan S (event.End c k o v)) S (end_acts plan S f c.0 (row_of k).rank k o.id.0 v (lock_of_callback plan k o.id.0 (declared_in plan S o.id.0)))) l
event_calm plan m S (event.Fault c x line) h l = l
event_calm plan m S (event.Stage d s i) h l = quiet_calm plan (stage_deeds plan d.id.0 s i) S (stage_none plan d.id.0 s i) l
event_calm plan m S (event.Complete r s) h l = quiet_calm plan (deeds plan S (event.Complete r s)) S refl l
event_calm plan m S (event.Cleanup o) h l = quiet_calm plan (deeds plan S (event.Cleanup o)) S refl l
event_calm plan m S (event.Destroy o) h l = quiet_calm plan (deeds plan S (event.Destroy o)) S refl l
event_calm plan m S (event.Posted agent p answer) h l = quiet_calm plan (post_deeds plan S agent p) S (post_none plan S agent p) l
event_calm plan m S (event.Tick time) h l = absurd (let z : ⊥ = cc in z)

-- ---- each place of a run

calm_opens : {A : Type 0} (plan : Plan) (m : Meaning A) → CalmIn (opening plan m)
calm_opens plan m = record { level = λ f p h off. absurd (let z : ⊥ = cc in z) }

calm_at_each : {A : Type 0} (plan : Plan) (m : Meaning A) (run : List Event) → IsRunOf plan m run → (n : ℕ) → CalmIn (state_after plan m (take n run))
calm_at_each {A} plan m run is_run n = each_place plan m (λ (S : State A). CalmIn S) (calm_opens plan m)
    (λ S e k h l. let u = event_calm plan m S e h l in record { level = u.level })
    (λ S time l. record { level = l.level })
    run is_run n

pub calm_now : {A : Type 0} (plan : Plan) (m : Meaning A) (run : List Event) → IsRunOf plan m run → Calm (state_after plan m run).cpus
calm_now {A} plan m run is_run = at_the_end plan m (λ (S : State A). CalmIn S) run (calm_at_each plan m run is_run (length run))
