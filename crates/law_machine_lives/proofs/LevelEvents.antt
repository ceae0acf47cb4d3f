-- Each event that may come keeps what levels, locks and objects keep of one another.
use Rattle.std.proofs.Common.{if◌then◌else◌, ◌≡◌, ℕ, ◌==◌, ◌≤◌, Bool, true, false, ◌&&◌, ◌||◌, List, [], ◌∷◌, ◌++◌, Option, Some, None, count_by, refl, sym, ap, subst, ◌∙◌}
use Rattle.wdf_base.specs.Meaning.{Meaning}
use Rattle.wdf_base.specs.declared.plan.Plan.{Plan}
use Rattle.wdf_base.specs.declared.ids.Cpu.{Cpu}
use Rattle.wdf_base.specs.declared.value.Value.TheVariants.{Obj}
use Rattle.wdf_base.specs.declared.call.Arg.{Arg}
use Rattle.wdf_base.specs.declared.call.Arg.TheVariants.{Val}
use Rattle.wdf_base.specs.declared.call.Call.{Call}
use Rattle.wdf_base.specs.declared.event.Access.{Access}
use Rattle.wdf_base.specs.declared.event.Event.{Event}
use Rattle.wdf_base.specs.declared.event.Event.TheVariants as event
use Rattle.wdf_base.specs.declared.frame.Change.{Change}
use Rattle.wdf_base.specs.declared.frame.Change.TheVariants as change
use Rattle.wdf_base.specs.declared.frame.Frame.{Frame}
use Rattle.wdf_base.specs.declared.frame.Intent.{Intent}
use Rattle.wdf_base.specs.declared.frame.Intent.TheVariants as intent
use Rattle.wdf_base.specs.declared.frame.Pending.{Pending}
use Rattle.wdf_base.specs.declared.object.Kind.{Kind}
use Rattle.wdf_base.specs.declared.object.Life.{Life}
use Rattle.wdf_base.specs.declared.object.Life.TheVariants as life
use Rattle.wdf_base.specs.declared.object.LockRef.{LockRef}
use Rattle.wdf_base.specs.declared.script.Statement.{Statement}
use Rattle.wdf_base.specs.declared.signature.Sort.TheVariants as sort
use Rattle.wdf_base.specs.Calls.{is_acquire, signature_of}
use Rattle.wdf_base.specs.Same.{same_event, same_option}
use Rattle.wdf_base.specs.Lives.{is_cleaned, is_gone, is_past_cleanup}
use Rattle.wdf_model.specs.parts.Tree.{Tree}
use Rattle.wdf_model.specs.parts.Cpus.{frame_of, top}
use Rattle.wdf_model.specs.parts.Locks.{holds_by_call}
use Rattle.wdf_model.specs.State.{State, object_in}
use Rattle.wdf_model.specs.Ids.{frame_id}
use Rattle.wdf_model.specs.declared.deed.Deed.{Deed}
use Rattle.wdf_model.specs.declared.deed.Deed.TheVariants.{GoOn}
use Rattle.wdf_model.specs.rules.Deeds.{do_deed, do_deeds}
use Rattle.wdf_model.specs.rules.Faults.{View, any_argument, is_stale, is_wrong_kind}
use Rattle.wdf_model.specs.rules.Calls.{is_met}
use Rattle.wdf_model.specs.rules.Steps.{at_next, changed, event_of_frame, event_of_top, own_event, spends, stepped}
use Rattle.law_machine_base.specs.Fits.{all_fit}
use Rattle.wdf_model.proofs.Tests.{both, both_left, both_right, either_false}
use Rattle.law_machine_counts.proofs.FrameMoves.{FrameKept}
use Rattle.law_machine_counts.proofs.StepStates.{fit_before, in_turn}
use Rattle.law_machine_lives.proofs.Sound.{AllSound}
use Rattle.law_machine_lives.proofs.SoundEvents.{top_on}
use Rattle.law_machine_lives.proofs.Framing.{Framing}
use Rattle.law_machine_lives.proofs.Counted.{is_hold, is_holder, some_counted}
use Rattle.law_machine_lives.proofs.Leveled.{awaited, plain_goes}
use Rattle.law_machine_lives.proofs.QuietDeeds.{all_quiet}
use Rattle.law_machine_lives.proofs.QuietMoves.{LeveledIn, Quietly, quiet_deeds}
use Rattle.wdf_model.proofs.FrameCounts.{on}

-- ---- a frame goes on

pub at_next_waits : (a : Frame) (s : Option Statement) → (at_next a s).pending ≡ a.pending
at_next_waits a None = refl
at_next_waits a (Some s) = refl

changed_waits : (a : Frame) (c : Change) → (changed a c).pending ≡ a.pending
changed_waits a (change.Assign i v) = refl
changed_waits a _ = refl

pub stepped_waits : (a : Frame) (i : Intent) → (stepped a i).pending ≡ a.pending
stepped_waits a (intent.Local c next) = changed_waits a c
stepped_waits a _ = refl

awaits_same : {A : Type 0} (plan : Plan) (S : State A) (f : ℕ) (next : Frame) → 1 ≤ on S.cpus f → next.pending ≡ (frame_of S.cpus f).pending → FrameKept (frame_of S.cpus f) next → LeveledIn plan S → LeveledIn plan (do_deed plan (GoOn (frame_id f) next) S)
awaits_same plan S f next there same kept k =
    plain_goes plan S.cpus S.locks S.tree f next k there kept (λ n. ap (λ p. awaited plan S.tree p n) same) (λ p e a. k.awaits f p there (sym same ∙ e) a)

pub moving : {A : Type 0} (plan : Plan) (S : State A) (cpu : ℕ) (next : Frame → Frame) (there : Option ℕ) → top S.cpus cpu ≡ there → ((a : Frame) → FrameKept a (next a)) → ((f : ℕ) → top S.cpus cpu ≡ Some f → (next (frame_of S.cpus f)).pending ≡ (frame_of S.cpus f).pending)
    → LeveledIn plan S → LeveledIn plan (do_deeds plan (elim there as (λ _. List Deed) [ None ↦ [] | Some f ↦ GoOn (frame_id f) (next (frame_of S.cpus f)) ∷ [] ]) S)
moving plan S cpu next None t kept same k = k
moving plan S cpu next (Some f) t kept same k = awaits_same plan S f (next (frame_of S.cpus f)) (top_on S.cpus cpu f t) (same f t) (kept (frame_of S.cpus f)) k

-- ---- an access to a register is of a frame that doesn't wait

not_spending : (b : Bool) (x : Option Event) (e : Event) → (if b then None else x) ≡ Some e → x ≡ Some e
not_spending true x e h = absurd (let z : ⊥ = cc in z)
not_spending false x e h = h

woken_apart : {A : Type 0} (S : State A) (cpu : ℕ) (p : Pending) (e : Event) (k : Cpu) (a : Access) (r v : ℕ) (b : Bool) → (if b then Some (event.Woke (record { 0 = cpu }) p.call p.answer) else None) ≡ Some e → same_event e (event.Register k a r v) ≡ true → ⊥
woken_apart S cpu p e k a r v true h s = let same : event.Woke (record { 0 = cpu }) p.call p.answer ≡ e = cc in let off : same_event (event.Woke (record { 0 = cpu }) p.call p.answer) (event.Register k a r v) ≡ true = subst (λ x. same_event x (event.Register k a r v) ≡ true) (sym same) s in let z : ⊥ = cc in z
woken_apart S cpu p e k a r v false h s = let z : ⊥ = cc in z

idle_by : {A : Type 0} (plan : Plan) (m : Meaning A) (S : State A) (cpu f : ℕ) (o : Option Pending) (e : Event) (k : Cpu) (a : Access) (r v : ℕ) → event_of_frame plan m S cpu f (frame_of S.cpus f) o ≡ Some e → same_event e (event.Register k a r v) ≡ true → o ≡ None
idle_by plan m S cpu f None e k a r v h s = refl
idle_by plan m S cpu f (Some p) e k a r v h s = absurd (woken_apart S cpu p e k a r v (is_met S p.call) h s)

pub found_own : (found : Option Event) (e : Event) → same_option same_event found (Some e) ≡ true → (x : Event) × (found ≡ Some x) × (same_event x e ≡ true)
found_own None e h = absurd (let z : ⊥ = cc in z)
found_own (Some x) e h = (x, refl, h)

pub idle_at : {A : Type 0} (plan : Plan) (m : Meaning A) (S : State A) (cpu : Cpu) (a : Access) (r v : ℕ) → same_option same_event (own_event plan m S cpu.0) (Some (event.Register cpu a r v)) ≡ true → (f : ℕ) → top S.cpus cpu.0 ≡ Some f → (frame_of S.cpus f).pending ≡ None
idle_at plan m S cpu a r v h f t =
    let found = found_own (own_event plan m S cpu.0) (event.Register cpu a r v) h in
    let at : event_of_top plan m S cpu.0 (Some f) ≡ Some found.0 = sym (ap (event_of_top plan m S cpu.0) t) ∙ found.1 in
    idle_by plan m S cpu.0 f (frame_of S.cpus f).pending found.0 cpu a r v
    (not_spending (spends S (frame_of S.cpus f)) (event_of_frame plan m S cpu.0 f (frame_of S.cpus f) (frame_of S.cpus f).pending) found.0 at) found.2

-- ---- calls

pub early_life : (l : Life) → (is_gone l || (is_cleaned l && true)) ≡ false → is_past_cleanup l ≡ false
early_life life.Live h = refl
early_life life.Asked h = refl
early_life life.Cleaned h = absurd (let z : ⊥ = cc in z)
early_life life.Gone h = absurd (let z : ⊥ = cc in z)

pub first_early : (v : View) (k : Kind) (a : Arg) → is_stale v false (sort.ObjectOf k) a ≡ false → is_wrong_kind v (sort.ObjectOf k) a ≡ false → is_past_cleanup (v.life (object_in a)) ≡ false
first_early v k (Val (Obj h)) s w = early_life (v.life h.id.0) s
first_early v k _ s w = absurd (let z : ⊥ = cc in z)

pub stale_first : (v : View) (c : Call) → any_argument (is_stale v (signature_of c.kind).cleaned) c ≡ false → is_stale v (signature_of c.kind).cleaned (signature_of c.kind).a c.a ≡ false
stale_first v c h =
    let t = is_stale v (signature_of c.kind).cleaned in
    (either_false (t (signature_of c.kind).a c.a) (t (signature_of c.kind).b c.b) (either_false (t (signature_of c.kind).a c.a || t (signature_of c.kind).b c.b) (t (signature_of c.kind).c c.c) h).0).0

pub nothing_awaited : (plan : Plan) (T : Tree) (o : Option Pending) (n : ℕ) → o ≡ None → awaited plan T o n ≡ 0
nothing_awaited plan T o n e = ap (λ p. awaited plan T p n) e

pub held_by_frame : {A : Type 0} (S : State A) (f : ℕ) (l : LockRef) → holds_by_call S.locks f l ≡ true → 1 ≤ count_by (λ h. is_hold l h && is_holder f true h) S.locks.held
held_by_frame S f l h = some_counted (λ x. is_hold l x && x.frame.0 == f && x.by_call) (λ x. is_hold l x && is_holder f true x)
    (λ x e. both (is_hold l x) (is_holder f true x) (both_left (is_hold l x) (x.frame.0 == f) (both_left (is_hold l x && x.frame.0 == f) x.by_call e))
    (both (x.frame.0 == f) x.by_call (both_right (is_hold l x) (x.frame.0 == f) (both_left (is_hold l x && x.frame.0 == f) x.by_call e)) (both_right (is_hold l x && x.frame.0 == f) x.by_call e)))
    S.locks.held h

pub sound_before : {A : Type 0} (plan : Plan) (ds es : List Deed) (S : State A) → AllSound plan (ds ++ es) S → AllSound plan ds S
sound_before plan [] es S h = tt
sound_before plan (d ∷ ds) es S h = (h.0, sound_before plan ds es (do_deed plan d S) h.1)

pub sound_after : {A : Type 0} (plan : Plan) (ds es : List Deed) (S : State A) → AllSound plan (ds ++ es) S → AllSound plan es (do_deeds plan ds S)
sound_after plan [] es S h = h
sound_after plan (d ∷ ds) es S h = sound_after plan ds es (do_deed plan d S) h.1

-- a frame goes on after quiet deeds
pub quietly_goes : {A : Type 0} (plan : Plan) (S : State A) (ds : List Deed) (f : ℕ) (next : Frame) → 1 ≤ on S.cpus f → all_quiet ds ≡ true → all_fit plan (ds ++ GoOn (frame_id f) next ∷ []) S ≡ true → AllSound plan (ds ++ GoOn (frame_id f) next ∷ []) S → Framing plan S
    → FrameKept (frame_of S.cpus f) next → ((T : Tree) (n : ℕ) → awaited plan T next.pending n ≡ awaited plan T (frame_of S.cpus f).pending n) → ((p : Pending) → next.pending ≡ Some p → is_acquire p.call.kind ≡ true → ⊥)
    → LeveledIn plan S → LeveledIn plan (do_deeds plan (ds ++ GoOn (frame_id f) next ∷ []) S)
quietly_goes {A} plan S ds f next there quiet fit sound frames kept same none k =
    let U = do_deeds plan ds S in
    let q : Quietly plan S U = quiet_deeds plan ds S quiet (fit_before plan ds (GoOn (frame_id f) next ∷ []) S fit) (sound_before plan ds (GoOn (frame_id f) next ∷ []) S sound) frames k in
    subst (λ (V : State A). LeveledIn plan V) (sym (in_turn plan ds (GoOn (frame_id f) next ∷ []) S))
    (plain_goes plan U.cpus U.locks U.tree f next q.levels (subst (λ C. 1 ≤ on C f) (sym q.cpus) there) (subst (λ C. FrameKept (frame_of C f) next) (sym q.cpus) kept)
    (λ n. same U.tree n ∙ sym (ap (λ C. awaited plan U.tree (frame_of C f).pending n) q.cpus)) (λ p e a. absurd (none p e a)))
