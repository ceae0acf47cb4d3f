-- What a call names in which a frame waits isn't past its cleanup, at each place of every run.
use Rattle.std.proofs.Common.{◌≡◌, ℕ, ◌==◌, ◌≤◌, Bool, true, false, ◌&&◌, ◌||◌, List, [], ◌∷◌, ◌++◌, Option, Some, None, inl, inr, count_by, take, refl, sym, ap, subst, ◌∙◌, arith}
use Rattle.std.specs.Prelude.{⊤}
use Rattle.std.specs.List.{list_all, list_any}
use Rattle.std.proofs.lemmas.Bool.{cases_Bool, eqb-true, or_cases}
use Rattle.wdf_base.specs.Meaning.{Meaning}
use Rattle.wdf_base.specs.declared.plan.Plan.{Plan}
use Rattle.wdf_base.specs.declared.ids.Handle.{Handle}
use Rattle.wdf_base.specs.declared.value.Value.{Value}
use Rattle.wdf_base.specs.declared.value.Value.TheVariants.{Num, Obj}
use Rattle.wdf_base.specs.declared.call.Arg.{Arg}
use Rattle.wdf_base.specs.declared.call.Arg.TheVariants.{Val}
use Rattle.wdf_base.specs.declared.call.Call.{Call}
use Rattle.wdf_base.specs.declared.call.CallKind.{CallKind}
use Rattle.wdf_base.specs.declared.call.CallKind.TheVariants as call
use Rattle.wdf_base.specs.declared.call.Callback.{Callback}
use Rattle.wdf_base.specs.declared.event.Event.{Event}
use Rattle.wdf_base.specs.declared.event.Event.TheVariants as event
use Rattle.wdf_base.specs.declared.event.Fault.TheVariants as fault
use Rattle.wdf_base.specs.declared.frame.Frame.{Frame}
use Rattle.wdf_base.specs.declared.frame.Pending.{Pending}
use Rattle.wdf_base.specs.declared.object.LockRef.{LockRef}
use Rattle.wdf_base.specs.declared.signature.Sort.{Sort}
use Rattle.wdf_base.specs.Calls.{signature_of}
use Rattle.wdf_base.specs.Lives.{is_cleaned, is_gone, is_past_cleanup}
use Rattle.wdf_model.specs.Ids.{cpu_of, frame_id, irql_of}
use Rattle.wdf_model.specs.Plans.{callback_irql}
use Rattle.wdf_model.specs.Tables.{entry}
use Rattle.wdf_model.specs.declared.entries.Node.{Node}
use Rattle.wdf_model.specs.declared.entries.Running.{Running}
use Rattle.wdf_model.specs.parts.Tree.{Tree, gone, life_of}
use Rattle.wdf_model.specs.parts.Cpus.{Cpus, all_frames, frame_of, no_frame, running, top, without_frame}
use Rattle.wdf_model.specs.parts.Locks.{lock_of_callback}
use Rattle.wdf_model.specs.State.{State, declared_in, is_waited_for, object_in, opening, waits_for}
use Rattle.wdf_model.specs.declared.deed.Deed.{Deed}
use Rattle.wdf_model.specs.declared.deed.Deed.TheVariants.{CleanUp, EndLife, PushFrame, GoOn, PopFrame, ParkFrame, UnparkFrame, Raise, Lower}
use Rattle.wdf_model.specs.rules.Calls.{is_met_then, outcome, second_deeds}
use Rattle.wdf_model.specs.rules.Deeds.{do_deed, do_deeds}
use Rattle.wdf_model.specs.rules.Faults.{is_object_sort}
use Rattle.wdf_model.specs.rules.Script.{intent_of, statement_at}
use Rattle.wdf_model.specs.rules.Starts.{new_frame, next_number, start_effect, take_if_any}
use Rattle.wdf_model.specs.rules.Steps.{answered, deeds, did_deeds, goes_on, may, spending, stepped, view_of, waiting, waiting_deeds, woke_deeds}
use Rattle.wdf_model.specs.rules.Ready.{IsRunOf, state_after}
use Rattle.wdf_model.proofs.Counts.{count_no, equal, one_or_two}
use Rattle.wdf_model.proofs.FrameCounts.{on}
use Rattle.wdf_model.proofs.Maps.{entry_put_other, entry_put_same}
use Rattle.wdf_model.proofs.Tests.{both, both_left, both_right, first, itself, not_true, second}
use Rattle.wdf_laws.specs.Events.{argument_object, is_id}
use Rattle.law_machine_base.specs.Fits.{all_fit, fits}
use Rattle.law_machine_base.proofs.FitsOfEvents.{by_its_top, event_fits}
use Rattle.law_machine_base.proofs.OwnEvents.{IsDid, IsWaiting, IsWoke, did_tells, waiting_tells, woke_tells}
use Rattle.law_machine_counts.proofs.StepStates.{fit_before}
use Rattle.law_machine_counts.proofs.StepsOverRuns.{none_yet}
use Rattle.law_machine_deeds.specs.MayDo.{goes_on as frame_goes_on, is_cleanup, is_destruction, is_start}
use Rattle.law_machine_deeds.proofs.Passing.{Passes, PassesBeside, event_passes, first_of, outcome_passes, second_of, second_passes, start_effect_passes, start_of}
use Rattle.law_machine_deeds.proofs.Walk.{all_after, plain_frame, plain_start}
use Rattle.law_machine_lives.proofs.FramesStay.{Begins, frames_by}
use Rattle.law_machine_lives.proofs.LevelEvents.{at_next_waits, stepped_waits}
use Rattle.law_machine_lives.proofs.Lives.{early_there}
use Rattle.law_machine_lives.proofs.PartsStay.{cpus_stay}
use Rattle.law_machine_lives.proofs.Sound.{AllSound, Sound}
use Rattle.law_machine_lives.proofs.SoundEvents.{top_on}
use Rattle.law_machine_lives.proofs.SoundRuns.{all_sound, known_place}
use Rattle.law_machine_lives.proofs.There.{Ends, deed_there}
use Rattle.law_machine_states.specs.Naming.{has_object, names, names_there}
use Rattle.law_machine_states.specs.States.{WaitsBeforeCleanup}
use Rattle.law_machine_states.proofs.Early.{early_still}
use Rattle.law_machine_states.proofs.Naming.{nameable, object_stays, objects_there}
use Rattle.law_machine_lives.proofs.QuietMoves.{cleaned_past}
use Rattle.law_machine_lives.proofs.AllOf.{AllOf, all_behind, all_both, all_keep, all_such}

-- the row of a call asks for one object, as the first argument, and that isn't to be cleaned
pub record HasOne (k : CallKind) : Type 0 where
  pub late : (signature_of k).cleaned ≡ false
  pub first_ : is_object_sort (signature_of k).a ≡ true
  pub second_ : is_object_sort (signature_of k).b ≡ false
  pub third : is_object_sort (signature_of k).c ≡ false

-- a waiting call has such a row, and its object is there, and isn't past its cleanup
pub record Awaited (T : Tree) (c : Call) : Type 0 where
  pub one : HasOne c.kind
  pub object : has_object T (signature_of c.kind).a c.a ≡ true
  pub early : is_past_cleanup (life_of T (object_in c.a)) ≡ false

abbrev pub AllAwaited : {A : Type 0} → State A → Type 0
AllAwaited S = (f : ℕ) (p : Pending) → 1 ≤ on S.cpus f → (frame_of S.cpus f).pending ≡ Some p → Awaited S.tree p.call

-- ---- what a deed does to objects for which a frame waits

found_in : (q : ℕ → Bool) (f : ℕ) (xs : List ℕ) → q f ≡ true → 1 ≤ count_by (λ x. x == f) xs → list_any q xs ≡ true
found_in q f [] passes more = absurd (omega arith)
found_in q f (x ∷ xs) passes more = elim (cases_Bool (x == f)) [
  | inl here ↦ first (q x) (list_any q xs) (ap q (eqb-true x f here) ∙ passes)
  | inr off ↦ second (q x) (list_any q xs) (found_in q f xs passes (let e = count_no (λ y. y == f) x xs off in omega arith))
]

-- it isn't cleaned up, since a frame waits for it, and doesn't end, since it isn't cleaned
stays_early : {A : Type 0} (plan : Plan) (d : Deed) (S : State A) → fits plan d S ≡ true → (f : ℕ) (p : Pending) → 1 ≤ on S.cpus f → (frame_of S.cpus f).pending ≡ Some p
    → is_past_cleanup (life_of S.tree (object_in p.call.a)) ≡ false → is_past_cleanup (life_of (do_deed plan d S).tree (object_in p.call.a)) ≡ false
stays_early plan (CleanUp x) S fit f p more waits early = early_still plan (CleanUp x) S (object_in p.call.a) (λ same.
    let none : is_waited_for S x.0 ≡ false = not_true (is_waited_for S x.0) (search (both_left, both_right)) in
    let it : waits_for x.0 (frame_of S.cpus f).pending ≡ true = ap (waits_for x.0) waits ∙ equal (object_in p.call.a) x.0 same in
    let some_ : is_waited_for S x.0 ≡ true = found_in (λ y. waits_for x.0 (frame_of S.cpus y).pending) f (all_frames S.cpus) it more in
    let z : ⊥ = cc in z) early
stays_early plan (EndLife x) S fit f p more waits early = early_still plan (EndLife x) S (object_in p.call.a) (λ same.
    let clean : is_cleaned (life_of S.tree x.0) ≡ true = search (both_left, both_right) in
    let late : is_past_cleanup (life_of S.tree (object_in p.call.a)) ≡ true = ap (λ y. is_past_cleanup (life_of S.tree y)) same ∙ cleaned_past (life_of S.tree x.0) clean in
    let z : ⊥ = cc in z) early
stays_early plan d S fit f p more waits early = early_still plan d S (object_in p.call.a) (λ e. e) early

-- nor does its kind change
still_object : {A : Type 0} (plan : Plan) (d : Deed) (S : State A) (c : Call) → fits plan d S ≡ true → Awaited S.tree c → is_past_cleanup (life_of (do_deed plan d S).tree (object_in c.a)) ≡ false
    → has_object (do_deed plan d S).tree (signature_of c.kind).a c.a ≡ true
still_object plan d S c fit it early =
    let there : is_gone (life_of S.tree (object_in c.a)) ≡ false = early_there (life_of S.tree (object_in c.a)) it.early in
    object_stays S.tree (do_deed plan d S).tree (signature_of c.kind).a c.a there
    (deed_there plan d S fit (object_in c.a) (ends_not d (object_in c.a) early) there) it.object
  where
    ends_not : (x : Deed) (o : ℕ) → is_past_cleanup (life_of (do_deed plan x S).tree o) ≡ false → Ends x o → ⊥
    ends_not (EndLife y) o h e =
        let off : is_past_cleanup (life_of (do_deed plan (EndLife y) S).tree o) ≡ true = ap (λ z. is_past_cleanup (life_of (do_deed plan (EndLife y) S).tree z)) e ∙ ap (λ (n : Node). is_past_cleanup n.life) (entry_put_same gone S.tree.nodes y.0 gone) in
        let z : ⊥ = cc in z
    ends_not _ o h e = e

-- ---- a deed puts a waiting frame there only where what its call names is so

abbrev Puts : {A : Type 0} → Deed → State A → Type 0
Puts (PushFrame cpu f frame level) S = (p : Pending) → frame.pending ≡ Some p → Awaited S.tree p.call
Puts (GoOn f frame) S = (p : Pending) → frame.pending ≡ Some p → Awaited S.tree p.call
Puts _ S = ⊤

abbrev AllPut : {A : Type 0} → Plan → List Deed → State A → Type 0
AllPut {A} plan ds S = AllOf plan (λ (d : Deed) (U : State A). Puts d U) ds S

abbrev puts_none : Deed → Bool
puts_none (PushFrame cpu f frame level) = false
puts_none (GoOn f frame) = false
puts_none _ = true

popped : (C : Cpus) (there : Option ℕ) (f : ℕ) (p : Pending) → (entry no_frame (without_frame C there) f).frame.pending ≡ Some p → (frame_of C f).pending ≡ Some p
popped C None f p h = h
popped C (Some g) f p h = elim (one_or_two f g) [
  | inl e ↦ absurd (let none : None ≡ Some p = sym (ap (λ (r : Running). r.frame.pending) (ap (entry no_frame (without_frame C (Some g))) e ∙ entry_put_same no_frame C.frames g no_frame)) ∙ h in let z : ⊥ = cc in z)
  | inr n ↦ sym (ap (λ (r : Running). r.frame.pending) (entry_put_other no_frame C.frames g f no_frame n)) ∙ h
]

-- what waits after another deed waited before it
waited : {A : Type 0} (plan : Plan) (d : Deed) (S : State A) → puts_none d ≡ true → (f : ℕ) (p : Pending) → (frame_of (do_deed plan d S).cpus f).pending ≡ Some p → (frame_of S.cpus f).pending ≡ Some p
waited plan (PushFrame cpu f frame level) S h x p waits = absurd (let z : ⊥ = cc in z)
waited plan (GoOn f frame) S h x p waits = absurd (let z : ⊥ = cc in z)
waited plan (PopFrame cpu) S h x p waits = popped S.cpus (top S.cpus cpu.0) x p waits
waited plan (ParkFrame cpu) S h x p waits = waits
waited plan (UnparkFrame cpu f) S h x p waits = waits
waited plan (Raise f level) S h x p waits = waits
waited plan (Lower f level) S h x p waits = waits
waited plan d S h x p waits = sym (ap (λ (C : Cpus). (frame_of C x).pending) (cpus_stay plan d S refl)) ∙ waits

awaited_by : {A : Type 0} (plan : Plan) (d : Deed) (S : State A) → fits plan d S ≡ true → Sound plan d S → Puts d S → AllAwaited S → AllAwaited (do_deed plan d S)
awaited_by plan (PushFrame cpu f frame level) S fit s put k x p more waits =
    let b : Begins S.cpus (do_deed plan (PushFrame cpu f frame level) S).cpus f.0 frame = frames_by plan (PushFrame cpu f frame level) S s in
    elim (one_or_two x f.0) [
      | inl e ↦ put p (sym (ap (λ y. (frame_of (do_deed plan (PushFrame cpu f frame level) S).cpus y).pending) e ∙ ap (λ (a : Frame). a.pending) b.here) ∙ waits)
      | inr n ↦
          let others = b.others x n in
          let same = others.0 in
          k x p (omega arith) (sym (ap (λ (a : Frame). a.pending) others.1) ∙ waits)
    ]
awaited_by plan (GoOn f next) S fit s put k x p more waits =
    let changed : Running = record (running S.cpus f.0) { frame = next } in
    elim (one_or_two x f.0) [
      | inl e ↦ put p (sym (ap (λ (r : Running). r.frame.pending) (ap (entry no_frame (do_deed plan (GoOn f next) S).cpus.frames) e ∙ entry_put_same no_frame S.cpus.frames f.0 changed)) ∙ waits)
      | inr n ↦ k x p more (sym (ap (λ (r : Running). r.frame.pending) (entry_put_other no_frame S.cpus.frames f.0 x changed n)) ∙ waits)
    ]
awaited_by plan d S fit s put k x p more waits =
    let was : (frame_of S.cpus x).pending ≡ Some p = waited plan d S refl x p waits in
    let there : 1 ≤ on S.cpus x = ((frames_by plan d S s).0 x more).0 in
    let it = k x p there was in
    let early = stays_early plan d S fit x p there was it.early in
    record { one = it.one; object = still_object plan d S p.call fit it early; early = early }

deeds_await : {A : Type 0} (plan : Plan) (ds : List Deed) (S : State A) → all_fit plan ds S ≡ true → AllSound plan ds S → AllPut plan ds S → AllAwaited S → AllAwaited (do_deeds plan ds S)
deeds_await {A} plan ds S h s put k =
    all_keep plan (λ (d : Deed) (U : State A). Sound plan d U × Puts d U) (λ (U : State A). AllAwaited U) (λ d U fit p q. awaited_by plan d U fit p.0 p.1 q)
    ds S h (all_both plan (λ (d : Deed) (U : State A). Sound plan d U) (λ (d : Deed) (U : State A). Puts d U) ds S s put) k

-- ---- lists of deeds that put no frame there, and clean up and end nothing

abbrev is_plain : Deed → Bool
is_plain (CleanUp o) = false
is_plain (EndLife o) = false
is_plain d = puts_none d

abbrev all_plain : List Deed → Bool
all_plain ds = list_all is_plain ds

plain_put : {A : Type 0} (d : Deed) (S : State A) → is_plain d ≡ true → Puts d S
plain_put (PushFrame cpu f frame level) S h = absurd (let z : ⊥ = cc in z)
plain_put (GoOn f frame) S h = absurd (let z : ⊥ = cc in z)
plain_put _ S h = tt

all_put : {A : Type 0} (plan : Plan) (ds : List Deed) (S : State A) → all_plain ds ≡ true → AllPut plan ds S
all_put {A} plan ds S h = all_such plan (λ (d : Deed) (U : State A). Puts d U) is_plain plain_put ds S h

-- such deeds, and others after them
put_then : {A : Type 0} (plan : Plan) (ds es : List Deed) (S : State A) → all_plain ds ≡ true → AllPut plan es (do_deeds plan ds S) → AllPut plan (ds ++ es) S
put_then {A} plan ds es S h k = all_behind plan (λ (d : Deed) (U : State A). Puts d U) ds es S (all_put plan ds S h) k

plain_await : {A : Type 0} (plan : Plan) (ds : List Deed) (S : State A) (c : Call) → all_plain ds ≡ true → all_fit plan ds S ≡ true → Awaited S.tree c → Awaited (do_deeds plan ds S).tree c
plain_await plan [] S c h fit it = it
plain_await plan (d ∷ ds) S c h fit it =
    let fits_ : fits plan d S ≡ true = both_left (fits plan d S) (all_fit plan ds (do_deed plan d S)) fit in
    let early = one d (both_left (is_plain d) (all_plain ds) h) in
    plain_await plan ds (do_deed plan d S) c (both_right (is_plain d) (all_plain ds) h) (both_right (fits plan d S) (all_fit plan ds (do_deed plan d S)) fit)
    (record { one = it.one; object = still_object plan d S c fits_ it early; early = early })
  where
    one : (x : Deed) → is_plain x ≡ true → is_past_cleanup (life_of (do_deed plan x S).tree (object_in c.a)) ≡ false
    one (CleanUp y) e = absurd (let z : ⊥ = cc in z)
    one (EndLife y) e = absurd (let z : ⊥ = cc in z)
    one x e = early_still plan x S (object_in c.a) (λ n. n) it.early

-- whether an event does deeds that aren't plain: of four sorts
abbrev unplain : Event → List Bool
unplain e = is_start e ∷ frame_goes_on e ∷ is_cleanup e ∷ is_destruction e ∷ []

plain_beside : (plain e : Event) → unplain e ≡ unplain plain → PassesBeside is_plain plain e
plain_beside plain e same (PushFrame cpu f frame level) h k = absurd (let z : ⊥ = cc in z)
plain_beside plain e same (GoOn f frame) h k = absurd (let z : ⊥ = cc in z)
plain_beside plain e same (CleanUp o) h k = absurd (let z : ⊥ = cc in z)
plain_beside plain e same (EndLife o) h k = absurd (let z : ⊥ = cc in z)
plain_beside plain e same _ h k = refl

plain_passes : (e : Event) → unplain e ≡ false ∷ false ∷ false ∷ false ∷ [] → Passes is_plain e
plain_passes e none (PushFrame cpu f frame level) h = absurd (let z : ⊥ = cc in z)
plain_passes e none (GoOn f frame) h = absurd (let z : ⊥ = cc in z)
plain_passes e none (CleanUp o) h = absurd (let z : ⊥ = cc in z)
plain_passes e none (EndLife o) h = absurd (let z : ⊥ = cc in z)
plain_passes e none _ h = refl

first_plain : {A : Type 0} (plan : Plan) (S : State A) (cpu f : ℕ) (c : Call) → all_plain (outcome plan S cpu f c).deeds ≡ true
first_plain plan S cpu f c = outcome_passes is_plain plan S cpu f c (plain_beside plain_frame (first_of c) refl)

second_plain : (f : ℕ) (c : Call) → all_plain (second_deeds f c) ≡ true
second_plain f c = second_passes is_plain f c (plain_beside plain_frame (second_of c) refl)

taking_plain : (f : ℕ) (l : Option LockRef) → all_plain (take_if_any f l) ≡ true
taking_plain f None = refl
taking_plain f (Some l) = refl

-- ---- a call that waits

one_object : {A : Type 0} (plan : Plan) (S : State A) (k : CallKind) (n : ℕ) (a b c : Arg) → is_met_then plan S (record { kind = k; count = n; a = a; b = b; c = c }) ≡ false → HasOne k
one_object plan S call.WdfSpinLockAcquire n a b c h = record { late = refl; first_ = refl; second_ = refl; third = refl }
one_object plan S call.WdfWaitLockAcquire n a b c h = record { late = refl; first_ = refl; second_ = refl; third = refl }
one_object plan S call.WdfInterruptAcquireLock n a b c h = record { late = refl; first_ = refl; second_ = refl; third = refl }
one_object plan S call.WdfIoQueueStopSynchronously n a b c h = record { late = refl; first_ = refl; second_ = refl; third = refl }
one_object plan S call.WdfIoQueueDrainSynchronously n a b c h = record { late = refl; first_ = refl; second_ = refl; third = refl }
one_object plan S call.WdfIoQueuePurgeSynchronously n a b c h = record { late = refl; first_ = refl; second_ = refl; third = refl }
one_object plan S call.WdfDpcCancel n a b c h = record { late = refl; first_ = refl; second_ = refl; third = refl }
one_object plan S call.WdfTimerStop n a b c h = record { late = refl; first_ = refl; second_ = refl; third = refl }
one_object plan S call.WdfWorkItemFlush n a b c h = record { late = refl; first_ = refl; second_ = refl; third = refl }
one_object plan S call.WdfIoTargetStop n a b c h = record { late = refl; first_ = refl; second_ = refl; third = refl }
one_object plan S _ n a b c h = absurd (let z : ⊥ = cc in z)

names_it : (o : ℕ) (s : Sort) (a : Arg) → names_there o s a ≡ true → object_in a ≡ o
names_it o s (Val (Obj h)) named = eqb-true h.id.0 o (both_right (is_object_sort s) (h.id.0 == o) named)
names_it o s _ named = absurd (let no_ = both_right (is_object_sort s) false named in let z : ⊥ = cc in z)

pub names_first : (c : Call) → HasOne c.kind → (o : ℕ) → names c o ≡ true → object_in c.a ≡ o
names_first c one o named =
    let n = names_there o in
    let s = signature_of c.kind in
    elim (or_cases (n s.a c.a || n s.b c.b) (n s.c c.c) named) [
      | inl two ↦ elim (or_cases (n s.a c.a) (n s.b c.b) two) [
        | inl it ↦ names_it o s.a c.a it
        | inr it ↦ absurd (let off = one.second_ in let on_ = both_left (is_object_sort s.b) (is_id o (argument_object c.b)) it in let z : ⊥ = cc in z)
      ]
      | inr it ↦ absurd (let off = one.third in let on_ = both_left (is_object_sort s.c) (is_id o (argument_object c.c)) it in let z : ⊥ = cc in z)
    ]

names_own : (T : Tree) (s : Sort) (a : Arg) → is_object_sort s ≡ true → has_object T s a ≡ true → names_there (object_in a) s a ≡ true
names_own T s (Val (Obj h)) asked has = both (is_object_sort s) (h.id.0 == h.id.0) asked (itself h.id.0)
names_own T s _ asked has = absurd (let off : is_object_sort s ≡ false = not_true (is_object_sort s) has in let z : ⊥ = cc in z)

awaits_now : {A : Type 0} (plan : Plan) (S : State A) (cpu : ℕ) (c : Call) → IsWaiting plan S cpu c → Awaited S.tree c
awaits_now plan S cpu c w =
    let one : HasOne c.kind = one_object plan S c.kind c.count c.a c.b c.c w.unmet in
    let has = objects_there plan S cpu w.frame c w.about.clean in
    let s = signature_of c.kind in
    let o : ℕ = object_in c.a in
    let object : has_object S.tree s.a c.a ≡ true = both_left (has_object S.tree s.a c.a) (has_object S.tree s.b c.b) (both_left (has_object S.tree s.a c.a && has_object S.tree s.b c.b) (has_object S.tree s.c c.c) has) in
    record {
      one = one;
      object = object;
      early = (nameable (view_of plan S cpu w.frame) s.cleaned c o (w.about.clean fault.StaleHandle)
          (first (names_there o s.a c.a || names_there o s.b c.b) (names_there o s.c c.c) (first (names_there o s.a c.a) (names_there o s.b c.b) (names_own S.tree s.a c.a one.first_ object)))).early one.late;
    }

-- ---- each event

module _ {A : Type 0} (plan : Plan) (m : Meaning A) (S : State A) (k : AllAwaited S) where
  -- a frame goes on, waiting as before or not at all
  goes : (cpu : ℕ) (next : Frame → Frame) (there : Option ℕ) → top S.cpus cpu ≡ there → ((a : Frame) (p : Pending) → (next a).pending ≡ Some p → a.pending ≡ Some p)
      → AllPut plan (elim there as (λ _. List Deed) [ None ↦ [] | Some f ↦ GoOn (frame_id f) (next (frame_of S.cpus f)) ∷ [] ]) S
  goes cpu next None t same = tt
  goes cpu next (Some f) t same = ((λ p e. k f p (top_on S.cpus cpu f t) (same (frame_of S.cpus f) p e)), tt)

  -- or not at all, after plain deeds
  answers : (ds : List Deed) (f : ℕ) (v : Value) → all_plain ds ≡ true → AllPut plan (ds ++ GoOn (frame_id f) (answered plan (frame_of S.cpus f) v) ∷ []) S
  answers ds f v h = put_then plan ds (GoOn (frame_id f) (answered plan (frame_of S.cpus f) v) ∷ []) S h ((λ p e. absurd (let none : None ≡ Some p = e in let z : ⊥ = cc in z)), tt)

  did_puts : (cpu : ℕ) (c : Call) (v : Value) → IsDid plan S cpu c v → AllPut plan (deeds plan S (event.Did (cpu_of cpu) c v)) S
  did_puts cpu c v d =
      let ds : List Deed = (outcome plan S cpu d.frame c).deeds in
      subst (λ es. AllPut plan es S) (sym (by_its_top S cpu d.frame (did_deeds plan S cpu c v) d.about.top))
      (answers (ds ++ second_deeds d.frame c) d.frame v (all_after is_plain ds (second_deeds d.frame c) (first_plain plan S cpu d.frame c) (second_plain d.frame c)))

  waiting_puts : (cpu : ℕ) (c : Call) → all_fit plan (deeds plan S (event.Waiting (cpu_of cpu) c)) S ≡ true → IsWaiting plan S cpu c → AllPut plan (deeds plan S (event.Waiting (cpu_of cpu) c)) S
  waiting_puts cpu c fit w =
      let f : ℕ = w.frame in
      let ds : List Deed = (outcome plan S cpu f c).deeds in
      let last : List Deed = GoOn (frame_id f) (waiting (frame_of S.cpus f) c (outcome plan S cpu f c).answer) ∷ [] in
      let is : deeds plan S (event.Waiting (cpu_of cpu) c) ≡ ds ++ last = by_its_top S cpu f (waiting_deeds plan S cpu c) w.about.top in
      let plain : all_plain ds ≡ true = first_plain plan S cpu f c in
      let next : Awaited (do_deeds plan ds S).tree c = plain_await plan ds S c plain (fit_before plan ds last S (subst (λ es. all_fit plan es S ≡ true) is fit)) (awaits_now plan S cpu c w) in
      subst (λ es. AllPut plan es S) (sym is)
      (put_then plan ds last S plain
      ((λ p e. let same : record { call = c; answer = (outcome plan S cpu f c).answer } ≡ p = cc in subst (λ (q : Pending). Awaited (do_deeds plan ds S).tree q.call) same next), tt))

  woke_puts : (cpu : ℕ) (c : Call) (v : Value) → IsWoke S cpu c v → AllPut plan (deeds plan S (event.Woke (cpu_of cpu) c v)) S
  woke_puts cpu c v w =
      subst (λ es. AllPut plan es S) (sym (by_its_top S cpu w.frame (woke_deeds plan c v) w.top)) (answers (second_deeds w.frame c) w.frame v (second_plain w.frame c))

  start_puts : (cpu : ℕ) (c : Callback) (o : Handle) (r : Option Handle) → AllPut plan (deeds plan S (event.Start (cpu_of cpu) c o r)) S
  start_puts cpu c o r =
      let f : ℕ = next_number S in
      let ds : List Deed = start_effect plan S cpu c o.id.0 r in
      let l : Option LockRef = lock_of_callback plan c o.id.0 (declared_in plan S o.id.0) in
      put_then plan ds (PushFrame (cpu_of cpu) (frame_id f) (new_frame plan S c o r) (irql_of (callback_irql plan c o.id.0)) ∷ take_if_any f l) S
      (start_effect_passes is_plain plan S cpu c o.id.0 r (plain_beside plain_start (start_of c) refl))
      ((λ p e. absurd (let none : None ≡ Some p = e in let z : ⊥ = cc in z)), all_put plan (take_if_any f l) _ (taking_plain f l))

  event_puts : (e : Event) → may plan m S e ≡ true → AllPut plan (deeds plan S e) S
  event_puts (event.Start cpu c o r) h = start_puts cpu.0 c o r
  event_puts (event.Local cpu line) h = goes cpu.0 (λ a. stepped a (intent_of plan a)) (top S.cpus cpu.0) refl (λ a p e. sym (stepped_waits a (intent_of plan a)) ∙ e)
  event_puts (event.Log cpu v) h = goes cpu.0 (goes_on plan) (top S.cpus cpu.0) refl (λ a p e. sym (at_next_waits a (statement_at plan a)) ∙ e)
  event_puts (event.Spend cpu n) h = goes cpu.0 (λ a. spending plan S a n) (top S.cpus cpu.0) refl (λ a p e. sym (at_next_waits a (statement_at plan a)) ∙ e)
  event_puts (event.Register cpu a r v) h = goes cpu.0 (λ b. answered plan b (Num v)) (top S.cpus cpu.0) refl (λ b p e. absurd (let none : None ≡ Some p = e in let z : ⊥ = cc in z))
  event_puts (event.Did cpu c v) h = did_puts cpu.0 c v (did_tells plan m S cpu c v h)
  event_puts (event.Waiting cpu c) h = waiting_puts cpu.0 c (event_fits plan m S (event.Waiting cpu c) h) (waiting_tells plan m S cpu c h)
  event_puts (event.Woke cpu c v) h = woke_puts cpu.0 c v (woke_tells plan m S cpu c v h)
  event_puts (event.Cleanup o) h = (tt, tt)
  event_puts (event.Destroy o) h = (tt, tt)
  event_puts e h = all_put plan (deeds plan S e) S (event_passes is_plain plan S e (plain_passes e refl))

-- ---- each place of a run

opens : {A : Type 0} (plan : Plan) (m : Meaning A) → AllAwaited (opening plan m)
opens plan m f p more = absurd (let e = none_yet plan (λ x. x == f) in omega arith)

pub awaited_at_each : {A : Type 0} (plan : Plan) (m : Meaning A) (run : List Event) → IsRunOf plan m run → (n : ℕ) → AllAwaited (state_after plan m (take n run))
awaited_at_each {A} plan m run is_run n = known_place plan m (λ (S : State A). AllAwaited S) (opens plan m)
    (λ S e known may_come k. deeds_await plan (deeds plan S e) S (event_fits plan m S e may_come) (all_sound plan m S e known may_come) (event_puts plan m S k e may_come) k)
    (λ S time k. k) run is_run n

pub waits_at_each : {A : Type 0} (plan : Plan) (m : Meaning A) (run : List Event) → IsRunOf plan m run → (n : ℕ) → WaitsBeforeCleanup (state_after plan m (take n run))
waits_at_each plan m run is_run n = record {
  early = λ f p o more waits named.
      let it = awaited_at_each plan m run is_run n f p more waits in
      subst (λ x. is_past_cleanup (life_of (state_after plan m (take n run)).tree x) ≡ false) (names_first p.call it.one o named) it.early;
}
