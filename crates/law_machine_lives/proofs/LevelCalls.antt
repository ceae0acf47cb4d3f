-- Calls, starts and ends keep what levels, locks and objects keep of one another, and so does each event.
use Rattle.std.proofs.Common.{◌≡◌, ℕ, zero, suc, ◌<◌, ◌≤◌, Bool, true, false, ◌&&◌, List, [], ◌∷◌, ◌++◌, inl, inr, Option, Some, None, is_some, length, position, option_map, slice_get, refl, sym, ap, subst, ◌∙◌, arith, append-nil}
use Rattle.std.specs.List.{list_all}
use Rattle.std.proofs.lemmas.Bool.{cases_Bool}
use Rattle.std.proofs.lemmas.List.Quantifiers.{position-Some}
use Rattle.wdf_base.specs.Resolved.{IsResolved, owner_fits, script_fits}
use Rattle.wdf_base.specs.declared.plan.Plan.{Plan}
use Rattle.wdf_base.specs.declared.value.Value.{Value}
use Rattle.wdf_base.specs.declared.call.Arg.{Arg}
use Rattle.wdf_base.specs.declared.call.Call.{Call}
use Rattle.wdf_base.specs.declared.call.CallKind.{CallKind}
use Rattle.wdf_base.specs.declared.call.CallKind.TheVariants as call
use Rattle.wdf_base.specs.declared.call.Callback.{Callback}
use Rattle.wdf_base.specs.declared.call.Callback.TheVariants as callback
use Rattle.wdf_base.specs.declared.declared.ClassInfo.{ClassInfo}
use Rattle.wdf_base.specs.declared.declared.ClassInfo.TheVariants as class
use Rattle.wdf_base.specs.declared.declared.PlainKind.TheVariants as plain
use Rattle.wdf_base.specs.declared.declared.DeferredKind.TheVariants as deferred
use Rattle.wdf_base.specs.declared.declared.Declared.{Declared}
use Rattle.wdf_base.specs.declared.declared.Declared.TheVariants as declared
use Rattle.wdf_base.specs.declared.event.Fault.TheVariants as fault
use Rattle.wdf_base.specs.declared.frame.Frame.{Frame}
use Rattle.wdf_base.specs.declared.frame.Pending.{Pending}
use Rattle.wdf_base.specs.declared.object.Kind.{Kind}
use Rattle.wdf_base.specs.declared.object.Kind.TheVariants as kind
use Rattle.wdf_base.specs.declared.rank.Owner.TheVariants as owner
use Rattle.wdf_base.specs.declared.script.Script.{Script}
use Rattle.wdf_base.specs.declared.signature.Sort.TheVariants as sort
use Rattle.wdf_base.specs.Callbacks.{row_of}
use Rattle.wdf_base.specs.Calls.{is_acquire, signature_of}
use Rattle.wdf_base.specs.Kinds.{class_kind}
use Rattle.wdf_base.specs.Plan.{is_script_of}
use Rattle.wdf_base.specs.Same.{same_callback, same_kind, same_option}
use Rattle.wdf_base.specs.SamePlan.{same_declared}
use Rattle.wdf_base.specs.Lives.{is_past_cleanup}
use Rattle.wdf_model.specs.Tables.{entry}
use Rattle.wdf_model.specs.Plans.{script_on}
use Rattle.wdf_model.specs.parts.Tree.{Tree, kind_of, life_of, made_as, node_of}
use Rattle.wdf_model.specs.parts.Cpus.{frame_of}
use Rattle.wdf_model.specs.parts.Cpus as cpus
use Rattle.wdf_model.specs.parts.Locks as locks
use Rattle.wdf_model.specs.parts.Locks.{holds_by_call, object_lock}
use Rattle.wdf_model.specs.State.{State, declared_in, declares_in, object_in}
use Rattle.wdf_model.specs.Ids.{frame_id}
use Rattle.wdf_model.specs.declared.deed.Deed.{Deed}
use Rattle.wdf_model.specs.declared.deed.Deed.TheVariants.{GoOn}
use Rattle.wdf_model.specs.rules.Deeds.{do_deed, do_deeds}
use Rattle.wdf_model.specs.rules.Faults.{is_stale, is_wrong_kind}
use Rattle.wdf_model.specs.rules.Calls.{is_met_then, level_of_kind, outcome, second_deeds}
use Rattle.wdf_model.specs.rules.Steps.{answered, did_deeds, view_of, waiting, waiting_deeds, woke_deeds}
use Rattle.law_machine_base.specs.Fits.{all_fit}
use Rattle.wdf_model.proofs.Tests.{both_left, both_right, not_false}
use Rattle.wdf_model.proofs.Sames.{callback_decides, kind_decides}
use Rattle.law_machine_base.proofs.Fits.{wrong_kind_of_first}
use Rattle.law_machine_base.proofs.FitsOfCalls.{Clean}
use Rattle.law_machine_counts.proofs.NextFrames.{answered_kept}
use Rattle.law_machine_lives.proofs.LocksOnce.{Once}
use Rattle.law_machine_lives.proofs.Sound.{AllSound}
use Rattle.law_machine_lives.proofs.Framing.{Framing}
use Rattle.law_machine_lives.proofs.Leveled.{Leveled, awaited, gets, gives_back, is_interrupt_lock, plain_goes, takes, waits_for_lock}
use Rattle.law_machine_lives.proofs.QuietDeeds.{all_quiet, outcome_none}
use Rattle.law_machine_lives.proofs.QuietMoves.{LeveledIn}
use Rattle.law_machine_lives.proofs.LevelEvents.{first_early, held_by_frame, nothing_awaited, quietly_goes, stale_first}
use Rattle.law_machine_lives.proofs.ReasonsOfCalls.{call_of}
use Rattle.wdf_model.proofs.FrameCounts.{on}

-- ---- calls

answered_idle : {A : Type 0} (plan : Plan) (S : State A) (f : ℕ) (v : Value) → (frame_of S.cpus f).pending ≡ None → (T : Tree) (n : ℕ) → awaited plan T (answered plan (frame_of S.cpus f) v).pending n ≡ awaited plan T (frame_of S.cpus f).pending n
answered_idle plan S f v idle T n = sym (nothing_awaited plan T (frame_of S.cpus f).pending n idle)

no_acquire : (o : Option Pending) → o ≡ None → (p : Pending) → o ≡ Some p → is_acquire p.call.kind ≡ true → ⊥
no_acquire o e p h a = let none : None ≡ Some p = sym e ∙ h in let z : ⊥ = cc in z

abbrev DidKeeps : {A : Type 0} → Plan → State A → ℕ → ℕ → Value → Call → Type 0
DidKeeps plan S cpu f v c = all_fit plan (did_deeds plan S cpu c v f (frame_of S.cpus f)) S ≡ true → AllSound plan (did_deeds plan S cpu c v f (frame_of S.cpus f)) S → LeveledIn plan S
    → LeveledIn plan (do_deeds plan (did_deeds plan S cpu c v f (frame_of S.cpus f)) S)

module _ {A : Type 0} (plan : Plan) (S : State A) (cpu f : ℕ) (frames : Framing plan S) (once : Once S.locks) (there : 1 ≤ on S.cpus f) (idle : (frame_of S.cpus f).pending ≡ None) where
  acquires : (k : CallKind) (n : ℕ) (a b x : Arg) (v : Value) → is_past_cleanup (life_of S.tree (object_in a)) ≡ false → LeveledIn plan S
      → Leveled plan (cpus.change (cpus.raise S.cpus f (level_of_kind plan (object_in a) (kind_of S.tree (object_in a)))) f (answered plan (frame_of S.cpus f) v)) (locks.take S.locks (object_lock (object_in a)) f true) S.tree
  acquires k n a b x v early l = takes plan S.cpus S.locks S.tree f (answered plan (frame_of S.cpus f) v) l there (answered_kept plan (frame_of S.cpus f) v) (object_in a) early (λ m. nothing_awaited plan S.tree (frame_of S.cpus f).pending m idle) refl

  releases : (a : Arg) (v : Value) → holds_by_call S.locks f (object_lock (object_in a)) ≡ true → LeveledIn plan S
      → Leveled plan (cpus.change (cpus.lower S.cpus f (level_of_kind plan (object_in a) (kind_of S.tree (object_in a)))) f (answered plan (frame_of S.cpus f) v)) (locks.release S.locks (object_lock (object_in a))) S.tree
  releases a v held l = gives_back plan S.cpus S.locks S.tree f (answered plan (frame_of S.cpus f) v) l there (answered_kept plan (frame_of S.cpus f) v) (object_in a) (once (object_lock (object_in a))) (held_by_frame S f (object_lock (object_in a)) held) (λ m. nothing_awaited plan S.tree (frame_of S.cpus f).pending m idle) refl

  others : (c : Call) (v : Value) → second_deeds f c ≡ [] → all_quiet (outcome plan S cpu f c).deeds ≡ true → DidKeeps plan S cpu f v c
  others c v none quiet fit sound l =
      let ds : List Deed = (outcome plan S cpu f c).deeds in
      let next : Frame = answered plan (frame_of S.cpus f) v in
      let e : did_deeds plan S cpu c v f (frame_of S.cpus f) ≡ ds ++ GoOn (frame_id f) next ∷ [] = ap (λ es. ds ++ es ++ GoOn (frame_id f) next ∷ []) none ∙ ap (λ es. es ++ GoOn (frame_id f) next ∷ []) (append-nil ds) in
      subst (λ es. LeveledIn plan (do_deeds plan es S)) (sym e)
      (quietly_goes plan S ds f next there quiet (subst (λ es. all_fit plan es S ≡ true) e fit) (subst (λ es. AllSound plan es S) e sound) frames (answered_kept plan (frame_of S.cpus f) v) (answered_idle plan S f v idle) (λ p h a. no_acquire next.pending refl p h a) l)

  first_of : (k : CallKind) (n : ℕ) (a b x : Arg) → Clean plan S cpu f (call_of k n a b x) → (w : Kind) → (signature_of k).a ≡ sort.ObjectOf w → (signature_of k).cleaned ≡ false → is_past_cleanup (life_of S.tree (object_in a)) ≡ false
  first_of k n a b x h w s c =
      let v = view_of plan S cpu f in
      first_early v w a
      (subst (λ y. is_stale v y (sort.ObjectOf w) a ≡ false) c (subst (λ y. is_stale v (signature_of k).cleaned y a ≡ false) s (stale_first v (call_of k n a b x) (h fault.StaleHandle))))
      (subst (λ y. is_wrong_kind v y a ≡ false) s (wrong_kind_of_first v (call_of k n a b x) (h fault.WrongKind)))

  pub did_call : (k : CallKind) (n : ℕ) (a b x : Arg) (v : Value) → Clean plan S cpu f (call_of k n a b x) → DidKeeps plan S cpu f v (call_of k n a b x)
  did_call call.WdfSpinLockAcquire n a b x v h fit sound l = acquires call.WdfSpinLockAcquire n a b x v (first_of call.WdfSpinLockAcquire n a b x h kind.SpinLock refl refl) l
  did_call call.WdfWaitLockAcquire n a b x v h fit sound l = acquires call.WdfWaitLockAcquire n a b x v (first_of call.WdfWaitLockAcquire n a b x h kind.WaitLock refl refl) l
  did_call call.WdfInterruptAcquireLock n a b x v h fit sound l = acquires call.WdfInterruptAcquireLock n a b x v (first_of call.WdfInterruptAcquireLock n a b x h kind.Interrupt refl refl) l
  did_call call.WdfSpinLockRelease n a b x v h fit sound l = releases a v (not_false (holds_by_call S.locks f (object_lock (object_in a))) (h fault.LockNotHeld)) l
  did_call call.WdfWaitLockRelease n a b x v h fit sound l = releases a v (not_false (holds_by_call S.locks f (object_lock (object_in a))) (h fault.LockNotHeld)) l
  did_call call.WdfInterruptReleaseLock n a b x v h fit sound l = releases a v (not_false (holds_by_call S.locks f (object_lock (object_in a))) (h fault.LockNotHeld)) l
  did_call k n a b x v h fit sound l = others (call_of k n a b x) v refl (outcome_none plan S cpu f k n a b x refl) fit sound l

  abbrev WaitKeeps : Call → Type 0
  WaitKeeps c = is_met_then plan S c ≡ false → all_fit plan (waiting_deeds plan S cpu c f (frame_of S.cpus f)) S ≡ true → AllSound plan (waiting_deeds plan S cpu c f (frame_of S.cpus f)) S → LeveledIn plan S
      → LeveledIn plan (do_deeds plan (waiting_deeds plan S cpu c f (frame_of S.cpus f)) S)

  awaits_lock : (k : CallKind) (n : ℕ) (a b x : Arg) (v : Value) → is_acquire k ≡ true → is_past_cleanup (life_of S.tree (object_in a)) ≡ false → LeveledIn plan S
      → Leveled plan (cpus.change (cpus.raise S.cpus f (level_of_kind plan (object_in a) (kind_of S.tree (object_in a)))) f (waiting (frame_of S.cpus f) (call_of k n a b x) v)) S.locks S.tree
  awaits_lock k n a b x v is early l =
      waits_for_lock plan S.cpus S.locks S.tree f (waiting (frame_of S.cpus f) (call_of k n a b x) v) l there (record { callback = refl; object = refl; device = refl }) (object_in a) early
      (λ m. nothing_awaited plan S.tree (frame_of S.cpus f).pending m idle) (λ m. rw is refl) (λ p e. ap object_in (same_arg p e))
    where
      same_arg : (p : Pending) → Some (record { call = call_of k n a b x; answer = v }) ≡ Some p → p.call.a ≡ a
      same_arg p e = let same : record { call = call_of k n a b x; answer = v } ≡ p = cc in ap (λ (q : Pending). q.call.a) (sym same)

  waits_else : (k : CallKind) (n : ℕ) (a b x : Arg) → is_acquire k ≡ false → all_quiet (outcome plan S cpu f (call_of k n a b x)).deeds ≡ true → WaitKeeps (call_of k n a b x)
  waits_else k n a b x off quiet unmet fit sound l =
      let c : Call = call_of k n a b x in
      let next : Frame = waiting (frame_of S.cpus f) c (outcome plan S cpu f c).answer in
      quietly_goes plan S (outcome plan S cpu f c).deeds f next there quiet fit sound frames (record { callback = refl; object = refl; device = refl })
      (λ T m. rw off (sym (nothing_awaited plan T (frame_of S.cpus f).pending m idle)))
      (λ p e is. never p e is) l
    where
      never : (p : Pending) → Some (record { call = call_of k n a b x; answer = (outcome plan S cpu f (call_of k n a b x)).answer }) ≡ Some p → is_acquire p.call.kind ≡ true → ⊥
      never p e is = let same : record { call = call_of k n a b x; answer = (outcome plan S cpu f (call_of k n a b x)).answer } ≡ p = cc in let no_ : is_acquire p.call.kind ≡ false = sym (ap (λ (q : Pending). is_acquire q.call.kind) same) ∙ off in let z : ⊥ = cc in z

  pub waits_call : (k : CallKind) (n : ℕ) (a b x : Arg) → Clean plan S cpu f (call_of k n a b x) → WaitKeeps (call_of k n a b x)
  waits_call call.WdfSpinLockAcquire n a b x h unmet fit sound l = awaits_lock call.WdfSpinLockAcquire n a b x _ refl (first_of call.WdfSpinLockAcquire n a b x h kind.SpinLock refl refl) l
  waits_call call.WdfWaitLockAcquire n a b x h unmet fit sound l = awaits_lock call.WdfWaitLockAcquire n a b x _ refl (first_of call.WdfWaitLockAcquire n a b x h kind.WaitLock refl refl) l
  waits_call call.WdfInterruptAcquireLock n a b x h unmet fit sound l = awaits_lock call.WdfInterruptAcquireLock n a b x _ refl (first_of call.WdfInterruptAcquireLock n a b x h kind.Interrupt refl refl) l
  waits_call call.WdfSpinLockRelease n a b x h unmet fit sound l = absurd (let z : ⊥ = cc in z)
  waits_call call.WdfWaitLockRelease n a b x h unmet fit sound l = absurd (let z : ⊥ = cc in z)
  waits_call call.WdfInterruptReleaseLock n a b x h unmet fit sound l = absurd (let z : ⊥ = cc in z)
  waits_call k n a b x h unmet fit sound l = waits_else k n a b x refl (outcome_none plan S cpu f k n a b x refl) unmet fit sound l

-- a frame wakes
module _ {A : Type 0} (plan : Plan) (S : State A) (f : ℕ) (there : 1 ≤ on S.cpus f) where
  wakes_with : (k : CallKind) (n : ℕ) (a b x : Arg) (v : Value) → is_acquire k ≡ true → (frame_of S.cpus f).pending ≡ Some (record { call = call_of k n a b x; answer = v }) → LeveledIn plan S
      → Leveled plan (cpus.change S.cpus f (answered plan (frame_of S.cpus f) v)) (locks.take S.locks (object_lock (object_in a)) f true) S.tree
  wakes_with k n a b x v is waits l =
      gets plan S.cpus S.locks S.tree f (answered plan (frame_of S.cpus f) v) l there (answered_kept plan (frame_of S.cpus f) v) (object_in a) (l.awaits f (record { call = call_of k n a b x; answer = v }) there waits is)
      (λ m. ap (λ o. awaited plan S.tree o m) waits ∙ rw is refl) refl

  wakes_else : (k : CallKind) (n : ℕ) (a b x : Arg) (v : Value) → is_acquire k ≡ false → (frame_of S.cpus f).pending ≡ Some (record { call = call_of k n a b x; answer = v }) → LeveledIn plan S
      → LeveledIn plan (do_deed plan (GoOn (frame_id f) (answered plan (frame_of S.cpus f) v)) S)
  wakes_else k n a b x v off waits l =
      plain_goes plan S.cpus S.locks S.tree f (answered plan (frame_of S.cpus f) v) l there (answered_kept plan (frame_of S.cpus f) v)
      (λ m. sym (ap (λ o. awaited plan S.tree o m) waits ∙ rw off refl)) (λ p e a_. absurd (no_acquire None refl p e a_))

  pub woke_call : (k : CallKind) (n : ℕ) (a b x : Arg) (v : Value) → (frame_of S.cpus f).pending ≡ Some (record { call = call_of k n a b x; answer = v }) → LeveledIn plan S
      → LeveledIn plan (do_deeds plan (woke_deeds plan (call_of k n a b x) v f (frame_of S.cpus f)) S)
  woke_call call.WdfSpinLockAcquire n a b x v w l = wakes_with call.WdfSpinLockAcquire n a b x v refl w l
  woke_call call.WdfWaitLockAcquire n a b x v w l = wakes_with call.WdfWaitLockAcquire n a b x v refl w l
  woke_call call.WdfInterruptAcquireLock n a b x v w l = wakes_with call.WdfInterruptAcquireLock n a b x v refl w l
  woke_call k n a b x v w l = wakes_else k n a b x v refl w l

-- ---- a callback that takes its object's lock isn't one of a spin lock

pub not_interrupt : (c : ClassInfo) → same_kind (class_kind c) kind.Interrupt ≡ false
not_interrupt (class.Plain name plain.Object) = refl
not_interrupt (class.Deferred name deferred.Dpc parent serialize period) = refl
not_interrupt _ = refl

pub class_unlike : (o : Option ClassInfo) → same_option same_kind (option_map class_kind o) (Some kind.Interrupt) ≡ true → ⊥
class_unlike None h = let z : ⊥ = cc in z
class_unlike (Some c) h = let no_ = not_interrupt c in let z : ⊥ = cc in z

owner_is : (c : Callback) → is_interrupt_lock (row_of c).lock ≡ true → (row_of c).owner ≡ owner.Of kind.Interrupt
owner_is callback.EvtInterruptIsr h = refl
owner_is callback.EvtInterruptEnable h = refl
owner_is callback.EvtInterruptDisable h = refl
owner_is _ h = absurd (let z : ⊥ = cc in z)

no_owner : (plan : Plan) (d : Declared) (c : ℕ) → same_declared d (declared.OfClass c) ≡ true → owner_fits plan (owner.Of kind.Interrupt) d ≡ true → ⊥
no_owner plan (declared.OfClass x) c h k = class_unlike (slice_get plan.classes x) k
no_owner plan _ c h k = let z : ⊥ = cc in z

pub all_fit_at : (p : Script → Bool) (d : Script) (ss : List Script) (i : ℕ) → list_all p ss ≡ true → i < length ss → p (entry d ss i) ≡ true
all_fit_at p d [] i h within = absurd (omega arith)
all_fit_at p d (s ∷ ss) zero h within = both_left (p s) (list_all p ss) h
all_fit_at p d (s ∷ ss) (suc i) h within = all_fit_at p d ss i (both_right (p s) (list_all p ss) h) (omega arith)

no_script : (plan : Plan) (c : Callback) (class : ℕ) (i : ℕ) (d : Script) → is_interrupt_lock (row_of c).lock ≡ true → list_all (script_fits plan) plan.scripts ≡ true → position (is_script_of c (declared.OfClass class)) plan.scripts ≡ Some i → ⊥
no_script plan c class i d h all at =
    let p = position-Some (is_script_of c (declared.OfClass class)) plan.scripts i d at in
    let s : Script = entry d plan.scripts i in
    let it : (same_callback s.callback c && same_declared s.owner (declared.OfClass class)) ≡ true = p.1 in
    let fit : script_fits plan s ≡ true = all_fit_at (script_fits plan) d plan.scripts i all p.0 in
    let same : s.callback ≡ c = (callback_decides s.callback c).0 (both_left (same_callback s.callback c) (same_declared s.owner (declared.OfClass class)) it) in
    let own : owner_fits plan (row_of s.callback).owner s.owner ≡ true = both_left (owner_fits plan (row_of s.callback).owner s.owner) _ fit in
    let own_too : owner_fits plan (owner.Of kind.Interrupt) s.owner ≡ true = subst (λ x. owner_fits plan x s.owner ≡ true) (owner_is c h) (subst (λ x. owner_fits plan (row_of x).owner s.owner ≡ true) same own) in
    no_owner plan s.owner class (both_right (same_callback s.callback c) (same_declared s.owner (declared.OfClass class)) it) own_too

none_or_one : (o : Option ℕ) → is_some o ≡ true → (i : ℕ) × (o ≡ Some i)
none_or_one None h = absurd (let z : ⊥ = cc in z)
none_or_one (Some i) h = (i, refl)

there_is_one : (plan : Plan) (ss : List Script) (p : Script → Bool) (i : ℕ) → position p ss ≡ Some i → Script
there_is_one plan [] p i h = absurd (let z : ⊥ = cc in z)
there_is_one plan (s ∷ ss) p i h = s

pub unlike : {A : Type 0} (plan : Plan) (S : State A) (c : Callback) (o : ℕ) → IsResolved plan → declares_in plan S c o ≡ true → is_interrupt_lock (row_of c).lock ≡ true → same_kind (kind_of S.tree o) kind.SpinLock ≡ false
unlike plan S c o resolved declares lock = elim (cases_Bool (same_kind (kind_of S.tree o) kind.SpinLock)) [
  | inr e ↦ e
  | inl e ↦
      let spin : kind_of S.tree o ≡ kind.SpinLock = (kind_decides (kind_of S.tree o) kind.SpinLock).0 e in
      let of : declared_in plan S o ≡ Some (declared.OfClass (node_of S.tree o).class) = ap (made_as plan (node_of S.tree o) o) spin in
      let some : is_some (script_on plan c (Some (declared.OfClass (node_of S.tree o).class))) ≡ true = sym (ap (λ d. is_some (script_on plan c d)) of) ∙ declares in
      let at = none_or_one (position (is_script_of c (declared.OfClass (node_of S.tree o).class)) plan.scripts) some in
      absurd (no_script plan c (node_of S.tree o).class at.0 (there_is_one plan plan.scripts (is_script_of c (declared.OfClass (node_of S.tree o).class)) at.0 at.1) lock resolved.scripts_fit at.1)
]
