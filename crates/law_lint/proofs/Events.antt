-- The invariant over events inside a frame.
use Rattle.std.proofs.Common.{if◌then◌else◌, ◌≡◌, ℕ, ◌==◌, Bool, true, false, ◌&&◌, ◌||◌, [], ◌∷◌, Option, Some, None, nat_lt, refl, sym, ap, subst, ◌∙◌}
use Rattle.wdf_base.specs.Meaning.{Meaning}
use Rattle.wdf_base.specs.declared.plan.Plan.{Plan}
use Rattle.wdf_base.specs.declared.ids.Cpu.{Cpu}
use Rattle.wdf_base.specs.declared.value.Value.{Value}
use Rattle.wdf_base.specs.declared.value.Value.TheVariants.{Num}
use Rattle.wdf_base.specs.declared.event.Event.{Event}
use Rattle.wdf_base.specs.declared.event.Event.TheVariants as event
use Rattle.wdf_base.specs.declared.event.Access.{Access}
use Rattle.wdf_base.specs.declared.event.Access.TheVariants as access
use Rattle.wdf_base.specs.declared.event.Fault.{Fault}
use Rattle.wdf_base.specs.declared.frame.Frame.{Frame}
use Rattle.wdf_base.specs.declared.call.Call.{Call}
use Rattle.wdf_base.specs.declared.script.Statement.{Statement}
use Rattle.wdf_base.specs.declared.frame.Change.{Change}
use Rattle.wdf_base.specs.declared.frame.Change.TheVariants as change
use Rattle.wdf_base.specs.declared.frame.Pending.{Pending}
use Rattle.wdf_base.specs.declared.frame.Intent.{Intent}
use Rattle.wdf_base.specs.declared.frame.Intent.TheVariants as intent
use Rattle.wdf_base.specs.Same.{same_access, same_cpu, same_event}
use Rattle.wdf_model.specs.declared.entries.Running.{Running}
use Rattle.wdf_model.specs.Ids.{cpu_of, frame_id}
use Rattle.wdf_model.specs.parts.Cpus.{frame_of, no_frame, running, top}
use Rattle.wdf_model.specs.State.{State}
use Rattle.wdf_model.specs.declared.deed.Deed.TheVariants.{GoOn}
use Rattle.wdf_model.specs.rules.Calls.{is_met, is_met_then, outcome}
use Rattle.wdf_model.specs.rules.Deeds.{counted, do_deed, do_deeds}
use Rattle.wdf_model.specs.rules.Faults.{fault_of}
use Rattle.wdf_model.specs.rules.Script.{intent_of, statement_at}
use Rattle.wdf_model.specs.rules.Steps.{after, answered, at_next, by_top, changed, deeds, goes_on, result_of, spending, with_answer, event_of_frame, event_of_top, fault_event, intent_event, is_own_event, may, own_event, spends, stepped, view_of}
use Rattle.wdf_model.proofs.Maps.{entry_put_other, entry_put_same}
use Rattle.law_machine_base.proofs.FitsOfEvents.{by_its_top}
use Rattle.wdf_model.proofs.Tests.{both_left, both_right}
use Rattle.wdf_lint.specs.Steps.{steps}
use Rattle.law_lint.proofs.Began.{Alike, alike_itself, alike_then}
use Rattle.law_lint.proofs.Frames.{IsPlain, Went, local_goes, plain_goes, register_goes, shape}
use Rattle.law_lint.proofs.Stands.{FrameGoes, Stands, inside_stands}
use Rattle.law_machine_lives.proofs.LevelEvents.{found_own}
use Rattle.law_machine_lives.proofs.ReasonsOfEvents.{top_on}

-- ---- what an own event says

-- a frame is on top of the processor, doesn't wait, and is about to do this
pub record Acts {A : Type 0} (plan : Plan) (S : State A) (cpu : ℕ) (i : Intent) : Type 0 where
  pub frame : ℕ
  pub top : top S.cpus cpu ≡ Some frame
  pub idle : (frame_of S.cpus frame).pending ≡ None
  pub about : intent_of plan (frame_of S.cpus frame) ≡ i

-- the three ways of an own event: a frame wakes, has a fault, or does what its statement says
pub data Own {A : Type 0} (plan : Plan) (m : Meaning A) (S : State A) (cpu : ℕ) (e : Event) : Type 0 where
  Wakes : (p : Pending) → e ≡ event.Woke (cpu_of cpu) p.call p.answer → Own plan m S cpu e
  Faults : (i : Intent) (a : Acts plan S cpu i) (x : Fault) → fault_of (view_of plan S cpu a.frame) i ≡ Some x → e ≡ fault_event plan m S cpu a.frame (frame_of S.cpus a.frame) i (Some x) → Own plan m S cpu e
  Does : (i : Intent) (a : Acts plan S cpu i) → fault_of (view_of plan S cpu a.frame) i ≡ None → e ≡ intent_event plan m S cpu a.frame (frame_of S.cpus a.frame) i → Own plan m S cpu e

same_some : {T : Type 0} {x y : T} → Some x ≡ Some y → y ≡ x
same_some {x} {y} e = cc

own_by_fault : {A : Type 0} (plan : Plan) (m : Meaning A) (S : State A) (cpu : ℕ) (e : Event) (i : Intent) (a : Acts plan S cpu i) (x : Option Fault)
    → fault_of (view_of plan S cpu a.frame) i ≡ x → Some (fault_event plan m S cpu a.frame (frame_of S.cpus a.frame) i x) ≡ Some e → Own plan m S cpu e
own_by_fault plan m S cpu e i a (Some x) w h = Faults i a x w (same_some h)
own_by_fault plan m S cpu e i a None w h = Does i a w (same_some h)

own_by_waking : {A : Type 0} (plan : Plan) (m : Meaning A) (S : State A) (cpu : ℕ) (e : Event) (p : Pending) (b : Bool) → (if b then Some (event.Woke (cpu_of cpu) p.call p.answer) else None) ≡ Some e → Own plan m S cpu e
own_by_waking plan m S cpu e p true h = Wakes p (same_some h)
own_by_waking plan m S cpu e p false h = absurd (let z : ⊥ = cc in z)

own_by_frame : {A : Type 0} (plan : Plan) (m : Meaning A) (S : State A) (cpu f : ℕ) (e : Event) (p : Option Pending) → top S.cpus cpu ≡ Some f → (frame_of S.cpus f).pending ≡ p
    → event_of_frame plan m S cpu f (frame_of S.cpus f) p ≡ Some e → Own plan m S cpu e
own_by_frame plan m S cpu f e (Some p) t w h = own_by_waking plan m S cpu e p (is_met S p.call) h
own_by_frame plan m S cpu f e None t w h =
    own_by_fault plan m S cpu e (intent_of plan (frame_of S.cpus f)) (record { frame = f; top = t; idle = w; about = refl }) (fault_of (view_of plan S cpu f) (intent_of plan (frame_of S.cpus f))) refl h

own_by_spending : {A : Type 0} (plan : Plan) (m : Meaning A) (S : State A) (cpu f : ℕ) (e : Event) (b : Bool) → top S.cpus cpu ≡ Some f
    → (if b then None else event_of_frame plan m S cpu f (frame_of S.cpus f) (frame_of S.cpus f).pending) ≡ Some e → Own plan m S cpu e
own_by_spending plan m S cpu f e true t h = absurd (let z : ⊥ = cc in z)
own_by_spending plan m S cpu f e false t h = own_by_frame plan m S cpu f e (frame_of S.cpus f).pending t refl h

own_by_top : {A : Type 0} (plan : Plan) (m : Meaning A) (S : State A) (cpu : ℕ) (e : Event) (there : Option ℕ) → top S.cpus cpu ≡ there → event_of_top plan m S cpu there ≡ Some e → Own plan m S cpu e
own_by_top plan m S cpu e None t h = absurd (let z : ⊥ = cc in z)
own_by_top plan m S cpu e (Some f) t h = own_by_spending plan m S cpu f e (spends S (frame_of S.cpus f)) t h

pub owns : {A : Type 0} (plan : Plan) (m : Meaning A) (S : State A) (cpu : ℕ) (e : Event) → own_event plan m S cpu ≡ Some e → Own plan m S cpu e
owns plan m S cpu e h = own_by_top plan m S cpu e (top S.cpus cpu) refl h

-- ---- the frames after one goes on

pub goes_on_frames : {A : Type 0} (plan : Plan) (S : State A) (f : ℕ) (next : Frame) → FrameGoes S (do_deed plan (GoOn (frame_id f) next) S) f next
goes_on_frames plan S f next = record {
  here = ap (λ (r : Running). r.frame) (entry_put_same no_frame S.cpus.frames f (record (running S.cpus f) { frame = next }));
  others = λ x n. ap (λ (r : Running). r.frame) (entry_put_other no_frame S.cpus.frames f x (record (running S.cpus f) { frame = next }) n);
  there = λ x. refl;
}

-- ---- the events of a frame's own statements

abbrev access_shape : Access → ℕ
access_shape access.Read = 3
access_shape access.Write = 4

-- the kind of thing that an event shows
abbrev shown_shape : Event → ℕ
shown_shape (event.Local k line) = 0
shown_shape (event.Log k v) = 1
shown_shape (event.Spend k n) = 2
shown_shape (event.Register k a r v) = access_shape a
shown_shape (event.Did k c v) = 5
shown_shape (event.Waiting k c) = 5
shown_shape (event.End k c o v) = 6
shown_shape (event.Fault k x line) = 7
shown_shape (event.Woke k c v) = 8
shown_shape _ = 9

access_same : (a b : Access) → same_access a b ≡ true → access_shape a ≡ access_shape b
access_same access.Read access.Read h = refl
access_same access.Write access.Write h = refl
access_same access.Read access.Write h = absurd (let z : ⊥ = cc in z)
access_same access.Write access.Read h = absurd (let z : ⊥ = cc in z)

local_shape : (x : Event) (k : Cpu) (line : ℕ) → same_event x (event.Local k line) ≡ true → shown_shape x ≡ 0
local_shape (event.Local j l) k line h = refl
local_shape _ k line h = absurd (let z : ⊥ = cc in z)

log_shown : (x : Event) (k : Cpu) (v : Value) → same_event x (event.Log k v) ≡ true → shown_shape x ≡ 1
log_shown (event.Log j w) k v h = refl
log_shown _ k v h = absurd (let z : ⊥ = cc in z)

spend_shown : (x : Event) (k : Cpu) (n : ℕ) → same_event x (event.Spend k n) ≡ true → shown_shape x ≡ 2
spend_shown (event.Spend j w) k n h = refl
spend_shown _ k n h = absurd (let z : ⊥ = cc in z)

register_shown : (x : Event) (k : Cpu) (a : Access) (r v : ℕ) → same_event x (event.Register k a r v) ≡ true → shown_shape x ≡ access_shape a
register_shown (event.Register j b r w) k a r2 v h = access_same b a (both_right (same_cpu j k) (same_access b a) (both_left (same_cpu j k && same_access b a) (r == r2) (both_left (same_cpu j k && same_access b a && r == r2) (w == v) h)))
register_shown _ k a r v h = absurd (let z : ⊥ = cc in z)

call_shape : (cpu : ℕ) (c : Call) (v : Value) (b : Bool) → shown_shape (if b then event.Did (cpu_of cpu) c v else event.Waiting (cpu_of cpu) c) ≡ 5
call_shape cpu c v true = refl
call_shape cpu c v false = refl

intent_shape : {A : Type 0} (plan : Plan) (m : Meaning A) (S : State A) (cpu f : ℕ) (frame : Frame) (i : Intent) → shown_shape (intent_event plan m S cpu f frame i) ≡ shape i
intent_shape plan m S cpu f frame (intent.Local c next) = refl
intent_shape plan m S cpu f frame (intent.Log v) = refl
intent_shape plan m S cpu f frame (intent.Spend n) = refl
intent_shape plan m S cpu f frame (intent.Get k) = refl
intent_shape plan m S cpu f frame (intent.Put k v) = refl
intent_shape plan m S cpu f frame (intent.Do c) = call_shape cpu c (outcome plan S cpu f c).answer (is_met_then plan S c)
intent_shape plan m S cpu f frame (intent.Return v) = refl
intent_shape plan m S cpu f frame intent.Broken = refl

-- an event that shows what a statement does is that of a frame that is about to do it
acts_by : {A : Type 0} (plan : Plan) (m : Meaning A) (S : State A) (cpu : ℕ) (x : Event) (n : ℕ) → shown_shape x ≡ n → nat_lt n 7 ≡ true → Own plan m S cpu x → (i : Intent) × Acts plan S cpu i × (shape i ≡ n)
acts_by plan m S cpu x n s low (Wakes p e) = absurd (let eight : 8 ≡ n = sym (ap shown_shape e) ∙ s in let wrong : nat_lt 8 7 ≡ true = subst (λ q. nat_lt q 7 ≡ true) (sym eight) low in let z : ⊥ = cc in z)
acts_by plan m S cpu x n s low (Faults i a w found e) = absurd (let seven : 7 ≡ n = sym (ap shown_shape e) ∙ s in let wrong : nat_lt 7 7 ≡ true = subst (λ q. nat_lt q 7 ≡ true) (sym seven) low in let z : ⊥ = cc in z)
acts_by plan m S cpu x n s low (Does i a clean e) = (i, a, sym (intent_shape plan m S cpu a.frame (frame_of S.cpus a.frame) i) ∙ sym (ap shown_shape e) ∙ s)

acts_of : {A : Type 0} (plan : Plan) (m : Meaning A) (S : State A) (k : Cpu) (e : Event) (n : ℕ) → ((x : Event) → same_event x e ≡ true → shown_shape x ≡ n) → nat_lt n 7 ≡ true → is_own_event plan m S k e ≡ true
    → (i : Intent) × Acts plan S k.0 i × (shape i ≡ n)
acts_of plan m S k e n shows low h =
    let found = found_own (own_event plan m S k.0) e h in
    acts_by plan m S k.0 found.0 n (shows found.0 found.2) low (owns plan m S k.0 found.0 found.1)

pub told : {A : Type 0} (plan : Plan) (m : Meaning A) (e : Event) (S : State A) → Stands plan S → Stands plan (counted m e S)
told plan m e S st = record { states = st.states; stands = λ f more. let k = st.stands f more in record { reached = k.reached; simulates = k.simulates; grips = k.grips; has = k.has; waits = k.waits; locks = k.locks; began = k.began; own = k.own }; off = st.off; alone = λ f g x ft gt fg gg. st.alone f g x ft gt (record { request = fg.request; has = fg.has; same = fg.same; in_hand = fg.in_hand }) (record { request = gg.request; has = gg.has; same = gg.same; in_hand = gg.in_hand }) }

-- a step that changes nothing but its frame
frame_event : {A : Type 0} (plan : Plan) (m : Meaning A) (S : State A) (e : Event) (cpu : ℕ) (f : ℕ) (step : Frame → Frame) → top S.cpus cpu ≡ Some f → deeds plan S e ≡ by_top S cpu (λ g frame. GoOn (frame_id g) (step frame) ∷ [])
    → (st : Stands plan S) → Went (steps plan (frame_of S.cpus f).script (st.states f)) (st.states f) (frame_of S.cpus f) (step (frame_of S.cpus f))
    → Alike (frame_of S.cpus f) (step (frame_of S.cpus f)) → (step (frame_of S.cpus f)).pending ≡ None → Stands plan (after plan m S e)
frame_event {A} plan m S e cpu f step t ds st w alike idle =
    let next : Frame = step (frame_of S.cpus f) in
    let same : deeds plan S e ≡ GoOn (frame_id f) next ∷ [] = ds ∙ by_its_top S cpu f (λ g frame. GoOn (frame_id g) (step frame) ∷ []) t in
    told plan m e (do_deeds plan (deeds plan S e) S)
    (subst (λ es. Stands plan (do_deeds plan es S)) (sym same)
    (inside_stands plan S (do_deed plan (GoOn (frame_id f) next) S) f next st (goes_on_frames plan S f next) (top_on S.cpus cpu f t) refl refl refl w alike idle))

local_of : (i : Intent) → shape i ≡ 0 → (c : Change) × (next : ℕ) × (i ≡ intent.Local c next)
local_of (intent.Local c next) h = (c, next, refl)
local_of (intent.Log v) h = absurd (let z : ⊥ = cc in z)
local_of (intent.Spend n) h = absurd (let z : ⊥ = cc in z)
local_of (intent.Get n) h = absurd (let z : ⊥ = cc in z)
local_of (intent.Put n v) h = absurd (let z : ⊥ = cc in z)
local_of (intent.Do c) h = absurd (let z : ⊥ = cc in z)
local_of (intent.Return v) h = absurd (let z : ⊥ = cc in z)
local_of intent.Broken h = absurd (let z : ⊥ = cc in z)

-- a frame whose place or variables change
same_rest : (f g : Frame) → g.script ≡ f.script → g.callback ≡ f.callback → g.object ≡ f.object → g.request ≡ f.request → Alike f g
same_rest f g s c o r = record { script = s; callback = c; object = o; request = r }

changed_rest : (f : Frame) (c : Change) → Alike f (changed f c) × ((changed f c).pending ≡ f.pending)
changed_rest f (change.Assign x v) = (same_rest f (changed f (change.Assign x v)) refl refl refl refl, refl)
changed_rest f change.Branch = (alike_itself f, refl)
changed_rest f (change.Count d l) = (same_rest f (changed f (change.Count d l)) refl refl refl refl, refl)

next_rest : (f : Frame) (s : Option Statement) → Alike f (at_next f s) × ((at_next f s).pending ≡ f.pending)
next_rest f None = (alike_itself f, refl)
next_rest f (Some s) = (same_rest f (at_next f (Some s)) refl refl refl refl, refl)

pub local_stands : {A : Type 0} (plan : Plan) (m : Meaning A) (S : State A) (k : Cpu) (line : ℕ) → may plan m S (event.Local k line) ≡ true → Stands plan S → Stands plan (after plan m S (event.Local k line))
local_stands plan m S k line h st =
    let acts = acts_of plan m S k (event.Local k line) 0 (λ x same. local_shape x k line same) refl h in
    let a = acts.1 in
    let l = local_of acts.0 acts.2 in
    let does : intent_of plan (frame_of S.cpus a.frame) ≡ intent.Local l.0 l.1 = a.about ∙ l.2 in
    let f : Frame = frame_of S.cpus a.frame in
    let next : stepped f (intent_of plan f) ≡ stepped f (intent.Local l.0 l.1) = ap (stepped f) does in
    let rest = changed_rest f l.0 in
    frame_event plan m S (event.Local k line) k.0 a.frame (λ g. stepped g (intent_of plan g)) a.top refl st
    (subst (λ g. Went (steps plan f.script (st.states a.frame)) (st.states a.frame) f g) (sym next) (local_goes plan (st.states a.frame) f l.0 l.1 (st.stands a.frame (top_on S.cpus k.0 a.frame a.top)).simulates does))
    (subst (Alike f) (sym next) (same_rest f (stepped f (intent.Local l.0 l.1)) rest.0.script rest.0.callback rest.0.object rest.0.request)) (ap (λ (g : Frame). g.pending) next ∙ rest.1 ∙ a.idle)

plain_event : {A : Type 0} (plan : Plan) (m : Meaning A) (S : State A) (k : Cpu) (e : Event) (n : ℕ) (step : Frame → Frame) → ((x : Event) → same_event x e ≡ true → shown_shape x ≡ n) → nat_lt n 7 ≡ true → IsPlain n ≡ true → is_own_event plan m S k e ≡ true
    → deeds plan S e ≡ by_top S k.0 (λ g frame. GoOn (frame_id g) (step frame) ∷ [])
    → ((f : Frame) → (step f).at ≡ (goes_on plan f).at) → ((f : Frame) → (step f).variables ≡ (goes_on plan f).variables) → ((f : Frame) → Alike f (step f)) → ((f : Frame) → f.pending ≡ None → (step f).pending ≡ None)
    → Stands plan S → Stands plan (after plan m S e)
plain_event plan m S k e n step shows low is h ds at vars alike idle st =
    let acts = acts_of plan m S k e n shows low h in
    let a = acts.1 in
    let f : Frame = frame_of S.cpus a.frame in
    frame_event plan m S e k.0 a.frame step a.top ds st
    (plain_goes plan (st.states a.frame) f (step f) acts.0 (st.stands a.frame (top_on S.cpus k.0 a.frame a.top)).simulates a.about (subst (λ q. IsPlain q ≡ true) (sym acts.2) is) (at f) (vars f))
    (alike f) (idle f a.idle)

pub log_stands : {A : Type 0} (plan : Plan) (m : Meaning A) (S : State A) (k : Cpu) (v : Value) → may plan m S (event.Log k v) ≡ true → Stands plan S → Stands plan (after plan m S (event.Log k v))
log_stands plan m S k v h st = plain_event plan m S k (event.Log k v) 1 (goes_on plan) (λ x same. log_shown x k v same) refl refl h refl (λ f. refl) (λ f. refl)
    (λ f. (next_rest f (statement_at plan f)).0) (λ f i. (next_rest f (statement_at plan f)).1 ∙ i) st

pub spend_stands : {A : Type 0} (plan : Plan) (m : Meaning A) (S : State A) (k : Cpu) (n : ℕ) → may plan m S (event.Spend k n) ≡ true → Stands plan S → Stands plan (after plan m S (event.Spend k n))
spend_stands plan m S k n h st = plain_event plan m S k (event.Spend k n) 2 (λ f. spending plan S f n) (λ x same. spend_shown x k n same) refl refl h refl (λ f. refl) (λ f. refl)
    (λ f. let a = (next_rest f (statement_at plan f)).0 in same_rest f (spending plan S f n) a.script a.callback a.object a.request) (λ f i. (next_rest f (statement_at plan f)).1 ∙ i) st

answer_rest : (f : Frame) (into : Option ℕ) (v : Value) → Alike f (with_answer f into v)
answer_rest f None v = alike_itself f
answer_rest f (Some x) v = same_rest f (with_answer f (Some x) v) refl refl refl refl

pub answered_rest : (plan : Plan) (f : Frame) (v : Value) → Alike f (answered plan f v)
answered_rest plan f v =
    let one = answer_rest (goes_on plan f) (result_of (statement_at plan f)) v in
    let two = next_rest f (statement_at plan f) in
    let a = alike_then f (goes_on plan f) (with_answer (goes_on plan f) (result_of (statement_at plan f)) v) two.0 one in
    same_rest f (answered plan f v) a.script a.callback a.object a.request

accessed : (a : Access) (n : ℕ) → n ≡ access_shape a → (n == 3 || n == 4) ≡ true
accessed access.Read n e = rw e refl
accessed access.Write n e = rw e refl

low_access : (a : Access) → nat_lt (access_shape a) 7 ≡ true
low_access access.Read = refl
low_access access.Write = refl

pub register_stands : {A : Type 0} (plan : Plan) (m : Meaning A) (S : State A) (k : Cpu) (w : Access) (r v : ℕ) → may plan m S (event.Register k w r v) ≡ true → Stands plan S → Stands plan (after plan m S (event.Register k w r v))
register_stands plan m S k w r v h st =
    let acts = acts_of plan m S k (event.Register k w r v) (access_shape w) (λ x same. register_shown x k w r v same) (low_access w) h in
    let a = acts.1 in
    let f : Frame = frame_of S.cpus a.frame in
    let rest = answered_rest plan f (Num v) in
    frame_event plan m S (event.Register k w r v) k.0 a.frame (λ g. answered plan g (Num v)) a.top refl st
    (register_goes plan (st.states a.frame) f acts.0 (Num v) (st.stands a.frame (top_on S.cpus k.0 a.frame a.top)).simulates a.about (accessed w (shape acts.0) acts.2)) rest refl
