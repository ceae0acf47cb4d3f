-- The invariant over the calls that aren't on a callback's own request.
use Rattle.std.proofs.Common.{◌≡◌, ◌≢◌, ℕ, ◌==◌, ◌<◌, ◌≤◌, Bool, true, false, List, [], ◌∷◌, ◌++◌, Option, Some, None, length, count_by, refl, sym, ap, subst, ◌∙◌, arith}
use Rattle.std.specs.List.{flat_map}
use Rattle.wdf_base.specs.Meaning.{Meaning}
use Rattle.wdf_base.specs.declared.plan.Plan.{Plan}
use Rattle.wdf_base.specs.declared.ids.Cpu.{Cpu}
use Rattle.wdf_base.specs.declared.value.Value.{Value}
use Rattle.wdf_base.specs.declared.call.Arg.{Arg}
use Rattle.wdf_base.specs.Same.{same_call_kind}
use Rattle.wdf_base.specs.declared.call.Call.{Call}
use Rattle.wdf_base.specs.declared.call.CallKind.{CallKind}
use Rattle.wdf_base.specs.declared.call.CallKind.TheVariants as call
use Rattle.wdf_base.specs.declared.event.Event.TheVariants as event
use Rattle.wdf_base.specs.declared.frame.Frame.{Frame}
use Rattle.wdf_base.specs.declared.frame.Intent.TheVariants as intent
use Rattle.wdf_base.specs.declared.script.ExprNode.{ExprNode}
use Rattle.wdf_model.specs.Ids.{frame_id}
use Rattle.wdf_model.specs.parts.Cpus.{all_frames, frame_of}
use Rattle.wdf_model.specs.parts.Requests.{request_of}
use Rattle.wdf_model.specs.State.{State, object_in}
use Rattle.wdf_model.specs.declared.deed.Deed.{Deed}
use Rattle.wdf_model.specs.declared.deed.Deed.TheVariants.{GoOn}
use Rattle.wdf_model.specs.rules.Calls.{outcome, second_deeds}
use Rattle.wdf_model.specs.rules.Deeds.{do_deed, do_deeds}
use Rattle.wdf_model.specs.rules.Script.{arg_of, intent_of, statement_at}
use Rattle.wdf_model.specs.rules.Steps.{after, answered, deeds, did_deeds, may, woke_deeds}
use Rattle.law_machine_base.specs.Fits.{all_fit}
use Rattle.law_machine_base.proofs.OwnEvents.{IsDid, IsWoke, did_tells, woke_tells}
use Rattle.law_machine_base.proofs.FitsOfEvents.{by_its_top, event_fits}
use Rattle.law_machine_counts.proofs.StillDeeds.{all_still, none_behind, outcome_none, second_none}
use Rattle.law_machine_counts.proofs.StillFrames.{Still, deeds_still}
use Rattle.law_machine_counts.proofs.StepStates.{fit_before, in_turn}
use Rattle.wdf_lint.specs.declared.state.Abstract.{Abstract}
use Rattle.wdf_lint.specs.declared.state.Hold.{Hold}
use Rattle.wdf_lint.specs.declared.state.Known.TheVariants as known
use Rattle.wdf_lint.specs.Steps.{acquired, acquired_at, interrupt_in, is_own_or_marked, node_of, released_at, rule_of_call, variable_in, way, ways}
use Rattle.wdf_lint.specs.Walks.{IsClean, IsIn, IsReached}
use Rattle.law_lint.proofs.Calls.{GripOf}
use Rattle.law_lint.proofs.Grips.{LaterAt}
use Rattle.law_lint.proofs.Others.{event_later, is_owners_call}
use Rattle.law_lint.proofs.Stands.{FrameGoes, FrameStands, InHand, Stands, goes_stands, is_on_request, reaches, stays_later}
use Rattle.law_lint.proofs.Calming.{event_calms}
use Rattle.law_lint.proofs.Owning.{Calms, grip_later, hand_before, own_answered}
use Rattle.law_lint.proofs.Events.{answered_rest, goes_on_frames, told}
use Rattle.law_lint.proofs.Faults.{Calls, calls, rule_off}
use Rattle.law_lint.proofs.Answers.{CallWent, call_went}
use Rattle.wdf_base.specs.declared.event.Fault.TheVariants as fault
use Rattle.wdf_base.specs.Calls.{is_acquire, is_release}
use Rattle.wdf_lint.specs.Steps.{called}
use Rattle.law_free_runs.proofs.FreeStates.{FreeState}
use Rattle.law_lint.proofs.Began.{Alike, Began, began_alike}
use Rattle.law_lint.proofs.HeldAs.{HeldAs, held_assigned}
use Rattle.law_lint.proofs.Holdings.{Left, event_left}
use Rattle.law_lint.proofs.Locking.{Locked, Names, OfKind, did_locks, names, of_kind, woke_locks}
use Rattle.law_lint.proofs.Frames.{Simulates}
use Rattle.wdf_model.proofs.FrameCounts.{on}
use Rattle.law_machine_lives.proofs.ReasonsOfEvents.{top_on}

-- ---- deeds that touch no frame, and then a frame goes on

pub still_goes : {A : Type 0} (plan : Plan) (S : State A) (ds : List Deed) (f : ℕ) (next : Frame) → all_still ds ≡ true → all_fit plan ds S ≡ true
    → FrameGoes S (do_deeds plan (ds ++ GoOn (frame_id f) next ∷ []) S) f next
still_goes {A} plan S ds f next still fit =
    let W : State A = do_deeds plan ds S in
    let s : Still S W = deeds_still plan ds S still fit in
    let g : FrameGoes W (do_deed plan (GoOn (frame_id f) next) W) f next = goes_on_frames plan W f next in
    let same : all_frames W.cpus ≡ all_frames S.cpus = ap (λ ss. flat_map (λ (fs : List ℕ). fs) ss ++ W.cpus.parked) s.stacks ∙ ap (λ ps. flat_map (λ (fs : List ℕ). fs) S.cpus.stacks ++ ps) s.parked in
    subst (λ (U : State A). FrameGoes S U f next) (sym (in_turn plan ds (GoOn (frame_id f) next ∷ []) S)) (record {
      here = g.here;
      others = λ x n. g.others x n ∙ s.frames x;
      there = λ x. g.there x ∙ ap (λ fs. count_by (λ y. y == x) fs) same;
    })

-- ---- a call that is answered

-- the calls whose ways are rows of the table
abbrev pub has_ways : CallKind → Bool
has_ways call.WdfRequestComplete = true
has_ways call.WdfRequestRequeue = true
has_ways call.WdfRequestForwardToIoQueue = true
has_ways call.WdfRequestSend = true
has_ways call.WdfRequestMarkCancelableEx = true
has_ways call.WdfRequestUnmarkCancelable = true
has_ways _ = false

off_request : (k : CallKind) → is_on_request k ≡ false → has_ways k ≡ false
off_request call.WdfRequestComplete off = absurd (let z : ⊥ = cc in z)
off_request call.WdfRequestRequeue off = absurd (let z : ⊥ = cc in z)
off_request call.WdfRequestForwardToIoQueue off = absurd (let z : ⊥ = cc in z)
off_request call.WdfRequestSend off = absurd (let z : ⊥ = cc in z)
off_request call.WdfRequestMarkCancelableEx off = absurd (let z : ⊥ = cc in z)
off_request call.WdfRequestUnmarkCancelable off = absurd (let z : ⊥ = cc in z)
off_request _ off = refl

-- a call whose answer the walk doesn't know, and that leaves the request alone
unknown_way : (k : CallKind) (h : Hold) → has_ways k ≡ false → IsIn (way h known.Unknown) (ways k h)
unknown_way call.WdfRequestComplete h off = absurd (let z : ⊥ = cc in z)
unknown_way call.WdfRequestRequeue h off = absurd (let z : ⊥ = cc in z)
unknown_way call.WdfRequestForwardToIoQueue h off = absurd (let z : ⊥ = cc in z)
unknown_way call.WdfRequestSend h off = absurd (let z : ⊥ = cc in z)
unknown_way call.WdfRequestMarkCancelableEx h off = absurd (let z : ⊥ = cc in z)
unknown_way call.WdfRequestUnmarkCancelable h off = absurd (let z : ⊥ = cc in z)
unknown_way _ h off = (0, refl)

-- what the call leaves of each request that is to be acknowledged; of the frame's own only where it acknowledges none
pub record CalmHere {A : Type 0} (plan : Plan) (S U : State A) (f : ℕ) (st : Stands plan S) (c : CallKind) (x : Option ExprNode) : Type 0 where
  pub fresh : Bool
  pub ends : (called plan (frame_of S.cpus f).script (st.states f) c x).acknowledged ≡ false → (fresh ≡ true) × ((st.states f).acknowledged ≡ false)
  pub mine : Calms plan (frame_of S.cpus f) (st.states f) fresh S.power U.power
  pub others : (g : ℕ) → g ≢ f → 1 ≤ on S.cpus g → Calms plan (frame_of S.cpus g) (st.states g) true S.power U.power

-- the frame is answered, the others may do what they may: the invariant is kept
answer_stands : {A : Type 0} (plan : Plan) (S U : State A) (f : ℕ) (v : Value) (st : Stands plan S) → FrameGoes S U f (answered plan (frame_of S.cpus f) v) → 1 ≤ on S.cpus f
    → (c : CallKind) (x : Option ExprNode) → CallWent plan (st.states f) (frame_of S.cpus f) (st.states f).hold v c x → ((x : ℕ) → x < length S.requests.all → LaterAt x S.requests U.requests)
    → Locked plan S.locks U.locks f (frame_of S.cpus f).variables (called plan (frame_of S.cpus f).script (st.states f) c x) → CalmHere plan S U f st c x → Stands plan U
answer_stands plan S U f v st go there c x_ w later l calm =
    let old : FrameStands plan S f (st.states f) = st.stands f there in
    let rest = answered_rest plan (frame_of S.cpus f) v in
    let now : (frame_of U.cpus f).request ≡ (frame_of S.cpus f).request = ap (λ (x : Frame). x.request) go.here ∙ rest.request in
    goes_stands plan S U f (answered plan (frame_of S.cpus f) v) w.state st go there
    (record {
      reached = subst (λ k. IsReached plan k w.state) (sym (ap (λ (x : Frame). x.script) go.here ∙ rest.script)) (reaches plan (frame_of S.cpus f).script (st.states f) w.state old.reached w.is_in);
      simulates = subst (λ g. Simulates w.state g) (sym go.here) w.simulates;
      grips = λ r has.
          let g = old.grips r (sym now ∙ has) in
          let l = later r.id.0 g.1 in
          let long = l.long in
          let within : r.id.0 < length S.requests.all = g.1 in
          (subst (λ h. GripOf h (request_of U.requests r.id.0)) (sym w.hold) (grip_later (st.states f).hold (request_of S.requests r.id.0) (request_of U.requests r.id.0) l.later g.0), omega arith);
      has = λ h. let is = old.has (subst (λ x. is_own_or_marked x ≡ true) w.hold h) in (is.0, now ∙ is.1);
      waits = λ p e. absurd (let none : (frame_of U.cpus f).pending ≡ None = ap (λ (x : Frame). x.pending) go.here in let z : ⊥ = cc in z);
      locks = subst (λ (x : Frame). HeldAs plan U.locks f x.variables w.state) (sym go.here)
          (held_assigned plan U.locks f (called plan (frame_of S.cpus f).script (st.states f) c x_) (frame_of S.cpus f) w.state (answered plan (frame_of S.cpus f) v) w.assigned w.interrupts l.now);
      began = began_alike plan (frame_of S.cpus f) (frame_of U.cpus f) (subst (Alike (frame_of S.cpus f)) (sym go.here) rest) old.began;
      own = own_answered plan S.requests U.requests S.power U.power (frame_of S.cpus f) (frame_of U.cpus f) (st.states f) w.state calm.fresh (subst (Alike (frame_of S.cpus f)) (sym go.here) rest) w.hold (λ e. calm.ends (sym w.acknowledged ∙ e))
          (λ r has. let g = old.grips r has in (g.0, later r.id.0 g.1)) calm.mine old.own;
    })
    (λ x k.
    let has : (frame_of S.cpus f).request ≡ Some k.request = sym now ∙ k.has in
    let g = old.grips k.request has in
    record {
      request = k.request;
      has = has;
      same = k.same;
      in_hand = subst (λ y. InHand (st.states f).hold S.requests y) k.same
          (hand_before (st.states f).hold S.requests U.requests k.request.id.0 (later k.request.id.0 g.1).later g.0
          (subst (λ h. InHand h U.requests k.request.id.0) w.hold (subst (λ y. InHand w.state.hold U.requests y) (sym k.same) k.in_hand)));
    })
    (λ g n more. stays_later plan S U g (st.states g) (st.stands g more) (λ r has. later r.id.0 ((st.stands g more).grips r has).1) (calm.others g n more))
    l.others

-- a frame that is about to make a call on nothing of its own is answered as the walk says
plain_went : {A : Type 0} (plan : Plan) (S : State A) (cpu f : ℕ) (a : Abstract) (c : Call) (v : Value) → IsClean plan → FrameStands plan S f a → (does : intent_of plan (frame_of S.cpus f) ≡ intent.Do c) → has_ways c.kind ≡ false
    → CallWent plan a (frame_of S.cpus f) a.hold v (calls plan (frame_of S.cpus f) c does).kind (node_of plan (calls plan (frame_of S.cpus f) c does).x)
plain_went plan S cpu f a c v clean st does off =
    let k : Calls plan (frame_of S.cpus f) (statement_at plan (frame_of S.cpus f)) c = calls plan (frame_of S.cpus f) c does in
    let kind : c.kind ≡ k.kind = ap (λ (d : Call). d.kind) k.call in
    call_went plan a (frame_of S.cpus f) c k (way a.hold known.Unknown) v st.simulates (rule_off plan S cpu f a clean st c k) (unknown_way k.kind a.hold (sym (ap has_ways kind) ∙ off)) tt

-- what the first argument of a call names, by its statement
pub call_names : (plan : Plan) (frame : Frame) (c : Call) (s : Calls plan frame (statement_at plan frame) c) → Began plan frame → OfKind plan c.kind (object_in c.a) → Names plan frame c.kind (object_in c.a) (node_of plan s.x)
call_names plan frame c s b of =
    let first_ : c.a ≡ arg_of plan frame s.x = ap (λ (q : Call). q.a) s.call in
    subst (λ (y : Arg). Names plan frame c.kind (object_in y) (node_of plan s.x)) (sym first_) (names plan frame c.kind s.x b (subst (λ (y : Arg). OfKind plan c.kind (object_in y)) first_ of))

-- what a call that is answered leaves of locks
pub did_locked : {A : Type 0} (plan : Plan) (S : State A) (k : Cpu) (c : Call) (v : Value) (a : Abstract) (d : IsDid plan S k.0 c v) → FreeState plan S → IsClean plan → FrameStands plan S d.frame a
    → Locked plan S.locks (do_deeds plan (deeds plan S (event.Did k c v)) S).locks d.frame (frame_of S.cpus d.frame).variables
    (called plan (frame_of S.cpus d.frame).script a (calls plan (frame_of S.cpus d.frame) c d.about.about).kind (node_of plan (calls plan (frame_of S.cpus d.frame) c d.about.about).x))
did_locked {A} plan S k c v a d free clean fs =
    let f : ℕ = d.frame in
    let frame : Frame = frame_of S.cpus f in
    let s : Calls plan frame (statement_at plan frame) c = calls plan frame c d.about.about in
    let kind : s.kind ≡ c.kind = sym (ap (λ (q : Call). q.kind) s.call) in
    let same : deeds plan S (event.Did k c v) ≡ did_deeds plan S k.0 c v f frame = by_its_top S k.0 f (did_deeds plan S k.0 c v) d.about.top in
    let rule : rule_of_call plan frame.script a s.kind (node_of plan s.x) (node_of plan s.y) ≡ None = rule_off plan S k.0 f a clean fs c s in
    let left : is_acquire c.kind ≡ false → is_release c.kind ≡ false → (g : ℕ) → Left S.locks (do_deeds plan (did_deeds plan S k.0 c v f frame) S).locks g =
    λ off unreleased g. subst (λ es. Left S.locks (do_deeds plan es S).locks g) same (event_left plan S (event.Did k c v) g refl off unreleased) in
    let named : Names plan frame c.kind (object_in c.a) (node_of plan s.x) = call_names plan frame c s fs.began (of_kind plan S free k.0 f c (d.about.clean fault.StaleHandle) (d.about.clean fault.WrongKind)) in
    subst (λ es. Locked plan S.locks (do_deeds plan es S).locks f frame.variables (called plan frame.script a s.kind (node_of plan s.x))) (sym same)
    (subst (λ q. Locked plan S.locks (do_deeds plan (did_deeds plan S k.0 c v f frame) S).locks f frame.variables (called plan frame.script a q (node_of plan s.x))) (sym kind)
    (did_locks plan S k f frame a free.once fs.locks c.kind c.count c.a c.b c.c (node_of plan s.x) (node_of plan s.y) v (subst (λ q. rule_of_call plan frame.script a q (node_of plan s.x) (node_of plan s.y) ≡ None) kind rule) (d.about.clean fault.LockNotHeld) named left))

-- and one whose wait is over
woke_locked : {A : Type 0} (plan : Plan) (S : State A) (k : Cpu) (f : ℕ) (c : Call) (v : Value) (a : Abstract) → FreeState plan S → IsClean plan → (fs : FrameStands plan S f a) → (does : intent_of plan (frame_of S.cpus f) ≡ intent.Do c) → is_release c.kind ≡ false → OfKind plan c.kind (object_in c.a)
    → Locked plan S.locks (do_deeds plan (woke_deeds plan c v f (frame_of S.cpus f)) S).locks f (frame_of S.cpus f).variables (called plan (frame_of S.cpus f).script a (calls plan (frame_of S.cpus f) c does).kind (node_of plan (calls plan (frame_of S.cpus f) c does).x))
woke_locked {A} plan S k f c v a free clean fs does off of =
    let frame : Frame = frame_of S.cpus f in
    let s : Calls plan frame (statement_at plan frame) c = calls plan frame c does in
    let kind : s.kind ≡ c.kind = sym (ap (λ (q : Call). q.kind) s.call) in
    let rule : rule_of_call plan frame.script a s.kind (node_of plan s.x) (node_of plan s.y) ≡ None = rule_off plan S k.0 f a clean fs c s in
    subst (λ q. Locked plan S.locks (do_deeds plan (woke_deeds plan c v f frame) S).locks f frame.variables (called plan frame.script a q (node_of plan s.x))) (sym kind)
    (woke_locks plan S k f frame a free.once fs.locks c.kind c.count c.a c.b c.c (node_of plan s.x) (node_of plan s.y) v (subst (λ q. rule_of_call plan frame.script a q (node_of plan s.x) (node_of plan s.y) ≡ None) kind rule) off (call_names plan frame c s fs.began of))

-- what the call leaves of requests to be acknowledged, by its frame and its statement
abbrev pub CalmDid : {A : Type 0} (plan : Plan) (m : Meaning A) (S : State A) (k : Cpu) (c : Call) (v : Value) → may plan m S (event.Did k c v) ≡ true → Stands plan S → Type 0
CalmDid plan m S k c v h st =
    let d : IsDid plan S k.0 c v = did_tells plan m S k c v h in
    let s : Calls plan (frame_of S.cpus d.frame) (statement_at plan (frame_of S.cpus d.frame)) c = calls plan (frame_of S.cpus d.frame) c d.about.about in
    CalmHere plan S (do_deeds plan (deeds plan S (event.Did k c v)) S) d.frame st s.kind (node_of plan s.x)

pub did_stands : {A : Type 0} (plan : Plan) (m : Meaning A) (S : State A) (k : Cpu) (c : Call) (v : Value) → FreeState plan S → IsClean plan → has_ways c.kind ≡ false → (h : may plan m S (event.Did k c v) ≡ true)
    → ((x : ℕ) → x < length S.requests.all → LaterAt x S.requests (do_deeds plan (deeds plan S (event.Did k c v)) S).requests) → (st : Stands plan S)
    → CalmDid plan m S k c v h st → Stands plan (after plan m S (event.Did k c v))
did_stands {A} plan m S k c v free clean off h later st calm =
    let d : IsDid plan S k.0 c v = did_tells plan m S k c v h in
    let f = d.frame in
    let ds : List Deed = (outcome plan S k.0 f c).deeds ++ second_deeds f c in
    let there : 1 ≤ on S.cpus f = top_on S.cpus k.0 f d.about.top in
    let same : deeds plan S (event.Did k c v) ≡ ds ++ GoOn (frame_id f) (answered plan (frame_of S.cpus f) v) ∷ [] = by_its_top S k.0 f (did_deeds plan S k.0 c v) d.about.top in
    let fit : all_fit plan (deeds plan S (event.Did k c v)) S ≡ true = event_fits plan m S (event.Did k c v) h in
    let still : all_still ds ≡ true = none_behind (outcome plan S k.0 f c).deeds (second_deeds f c) (outcome_none plan S k.0 f c) (second_none f c) in
    let fits_ : all_fit plan ds S ≡ true = fit_before plan ds (GoOn (frame_id f) (answered plan (frame_of S.cpus f) v) ∷ []) S (subst (λ es. all_fit plan es S ≡ true) same fit) in
    told plan m (event.Did k c v) (do_deeds plan (deeds plan S (event.Did k c v)) S)
    (answer_stands plan S (do_deeds plan (deeds plan S (event.Did k c v)) S) f v st
    (subst (λ es. FrameGoes S (do_deeds plan es S) f (answered plan (frame_of S.cpus f) v)) (sym same) (still_goes plan S ds f (answered plan (frame_of S.cpus f) v) still fits_))
    there (calls plan (frame_of S.cpus f) c d.about.about).kind (node_of plan (calls plan (frame_of S.cpus f) c d.about.about).x)
    (plain_went plan S k.0 f (st.states f) c v clean (st.stands f there) d.about.about off)
    later (did_locked plan S k c v (st.states f) d free clean (st.stands f there)) calm)

-- such a call acknowledges nothing
acquired_done : (a : Abstract) (v : Option ℕ) → (acquired a v).acknowledged ≡ a.acknowledged
acquired_done a None = refl
acquired_done a (Some v) = refl

acquired_at_done : (a : Abstract) (i : Option ℕ) → (acquired_at a i).acknowledged ≡ a.acknowledged
acquired_at_done a None = refl
acquired_at_done a (Some i) = refl

released_at_done : (a : Abstract) (i : Option ℕ) → (released_at a i).acknowledged ≡ a.acknowledged
released_at_done a None = refl
released_at_done a (Some i) = refl

called_done : (plan : Plan) (k : ℕ) (a : Abstract) (c : CallKind) (x : Option ExprNode) → same_call_kind c call.WdfRequestStopAcknowledge ≡ false → (called plan k a c x).acknowledged ≡ a.acknowledged
called_done plan k a call.WdfRequestStopAcknowledge x off = absurd (let z : ⊥ = cc in z)
called_done plan k a call.WdfSpinLockAcquire x off = acquired_done a (variable_in x)
called_done plan k a call.WdfWaitLockAcquire x off = acquired_done a (variable_in x)
called_done plan k a call.WdfInterruptAcquireLock x off = acquired_at_done a (interrupt_in plan k x)
called_done plan k a call.WdfInterruptReleaseLock x off = released_at_done a (interrupt_in plan k x)
called_done plan k a _ x off = refl

no_owners : (k : CallKind) → is_owners_call k ≡ false → same_call_kind k call.WdfRequestStopAcknowledge ≡ false
no_owners call.WdfRequestStopAcknowledge off = absurd (let z : ⊥ = cc in z)
no_owners _ off = refl

calm_plain : {A : Type 0} (plan : Plan) (S U : State A) (f : ℕ) (st : Stands plan S) → 1 ≤ on S.cpus f → (c : CallKind) (x : Option ExprNode) → same_call_kind c call.WdfRequestStopAcknowledge ≡ false
    → ((g : ℕ) → 1 ≤ on S.cpus g → Calms plan (frame_of S.cpus g) (st.states g) true S.power U.power) → CalmHere plan S U f st c x
calm_plain plan S U f st there c x off calm = record {
  fresh = true;
  ends = λ e. (refl, sym (called_done plan (frame_of S.cpus f).script (st.states f) c x off) ∙ e);
  mine = calm f there;
  others = λ g n more. calm g more;
}

-- a call that no owner makes
pub plain_stands : {A : Type 0} (plan : Plan) (m : Meaning A) (S : State A) (k : Cpu) (c : Call) (v : Value) → IsClean plan → has_ways c.kind ≡ false → is_owners_call c.kind ≡ false → may plan m S (event.Did k c v) ≡ true → FreeState plan S → Stands plan S
    → Stands plan (after plan m S (event.Did k c v))
plain_stands plan m S k c v clean off none h free st =
    let calm = event_calms plan S (event.Did k c v) st none refl (event_fits plan m S (event.Did k c v) h) free.places in
    did_stands plan m S k c v free clean off h (λ x old. event_later plan S (event.Did k c v) x none (event_fits plan m S (event.Did k c v) h) free.places old) st (
    let d : IsDid plan S k.0 c v = did_tells plan m S k c v h in
    let frame : Frame = frame_of S.cpus d.frame in
    let there : 1 ≤ on S.cpus d.frame = top_on S.cpus k.0 d.frame d.about.top in
    let s : Calls plan frame (statement_at plan frame) c = calls plan frame c d.about.about in
    let kind : c.kind ≡ s.kind = ap (λ (q : Call). q.kind) s.call in
    calm_plain plan S _ d.frame st there s.kind (node_of plan s.x) (no_owners s.kind (sym (ap is_owners_call kind) ∙ none)) calm)

-- ---- a wait that is over

on_none : (k : CallKind) → is_on_request k ≡ false → same_call_kind k call.WdfRequestStopAcknowledge ≡ false
on_none call.WdfRequestStopAcknowledge off = absurd (let z : ⊥ = cc in z)
on_none _ off = refl

pub woke_stands : {A : Type 0} (plan : Plan) (m : Meaning A) (S : State A) (k : Cpu) (c : Call) (v : Value) → IsClean plan → may plan m S (event.Woke k c v) ≡ true → FreeState plan S → Stands plan S
    → Stands plan (after plan m S (event.Woke k c v))
woke_stands {A} plan m S k c v clean h free st =
    let d : IsWoke S k.0 c v = woke_tells plan m S k c v h in
    let f = d.frame in
    let there : 1 ≤ on S.cpus f = top_on S.cpus k.0 f d.top in
    let w = (st.stands f there).waits (record { call = c; answer = v }) d.waits in
    let same : deeds plan S (event.Woke k c v) ≡ second_deeds f c ++ GoOn (frame_id f) (answered plan (frame_of S.cpus f) v) ∷ [] = by_its_top S k.0 f (woke_deeds plan c v) d.top in
    let fit : all_fit plan (deeds plan S (event.Woke k c v)) S ≡ true = event_fits plan m S (event.Woke k c v) h in
    let fits_ : all_fit plan (second_deeds f c) S ≡ true = fit_before plan (second_deeds f c) (GoOn (frame_id f) (answered plan (frame_of S.cpus f) v) ∷ []) S (subst (λ es. all_fit plan es S ≡ true) same fit) in
    told plan m (event.Woke k c v) (do_deeds plan (deeds plan S (event.Woke k c v)) S)
    (answer_stands plan S (do_deeds plan (deeds plan S (event.Woke k c v)) S) f v st
    (subst (λ es. FrameGoes S (do_deeds plan es S) f (answered plan (frame_of S.cpus f) v)) (sym same) (still_goes plan S (second_deeds f c) f (answered plan (frame_of S.cpus f) v) (second_none f c) fits_))
    there (calls plan (frame_of S.cpus f) c w.about).kind (node_of plan (calls plan (frame_of S.cpus f) c w.about).x)
    (plain_went plan S k.0 f (st.states f) c v clean (st.stands f there) w.about (off_request c.kind w.on_request))
    (λ x old. event_later plan S (event.Woke k c v) x refl fit free.places old)
    (subst (λ es. Locked plan S.locks (do_deeds plan es S).locks f (frame_of S.cpus f).variables (called plan (frame_of S.cpus f).script (st.states f) (calls plan (frame_of S.cpus f) c w.about).kind (node_of plan (calls plan (frame_of S.cpus f) c w.about).x)))
    (sym (by_its_top S k.0 f (woke_deeds plan c v) d.top)) (woke_locked plan S k f c v (st.states f) free clean (st.stands f there) w.about w.release w.kind))
    (calm_plain plan S _ f st there (calls plan (frame_of S.cpus f) c w.about).kind (node_of plan (calls plan (frame_of S.cpus f) c w.about).x)
    (on_none (calls plan (frame_of S.cpus f) c w.about).kind (sym (ap (λ (q : Call). is_on_request q.kind) (calls plan (frame_of S.cpus f) c w.about).call) ∙ w.on_request))
    (event_calms plan S (event.Woke k c v) st refl refl fit free.places)))
