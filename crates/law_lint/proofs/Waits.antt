-- The invariant over frames that begin to wait, leave their processor, come back, end or have a fault.
use Rattle.std.proofs.Common.{if◌then◌else◌, ◌≡◌, ◌≢◌, ℕ, zero, suc, ◌==◌, ◌<◌, ◌≤◌, nat_lt, true, false, ◌&&◌, List, [], ◌∷◌, ◌++◌, ◌⊎◌, inl, inr, Option, Some, None, length, unwrap_or, slice_get, refl, sym, ap, subst, ◌∙◌, arith}
use Rattle.wdf_base.specs.Meaning.{Meaning}
use Rattle.wdf_base.specs.declared.plan.Plan.{Plan}
use Rattle.wdf_base.specs.declared.ids.Cpu.{Cpu}
use Rattle.wdf_base.specs.declared.ids.FrameId.{FrameId}
use Rattle.wdf_base.specs.declared.ids.Handle.{Handle}
use Rattle.wdf_base.specs.declared.value.Value.{Value}
use Rattle.wdf_base.specs.declared.value.Value.TheVariants.{Num}
use Rattle.wdf_base.specs.declared.call.Arg.{Arg}
use Rattle.wdf_base.specs.declared.call.Arg.TheVariants.{Val}
use Rattle.wdf_base.specs.declared.call.Call.{Call}
use Rattle.wdf_base.specs.declared.call.CallKind.{CallKind}
use Rattle.wdf_base.specs.declared.call.CallKind.TheVariants as call
use Rattle.wdf_base.specs.declared.call.Callback.{Callback}
use Rattle.wdf_base.specs.declared.event.Event.{Event}
use Rattle.wdf_base.specs.declared.event.Event.TheVariants as event
use Rattle.wdf_base.specs.declared.object.LockRef.{LockRef}
use Rattle.wdf_base.specs.declared.rank.Rank.{Rank}
use Rattle.wdf_base.specs.declared.rank.Rank.TheVariants as rank
use Rattle.wdf_base.specs.Callbacks.{row_of}
use Rattle.wdf_base.specs.declared.event.Fault.{Fault}
use Rattle.wdf_base.specs.declared.frame.Frame.{Frame}
use Rattle.wdf_base.specs.declared.frame.Pending.{Pending}
use Rattle.wdf_base.specs.declared.frame.Intent.TheVariants as intent
use Rattle.wdf_base.specs.declared.script.Act.{Act}
use Rattle.wdf_base.specs.declared.script.Act.TheVariants as act
use Rattle.wdf_base.specs.declared.script.ArgNode.{ArgNode}
use Rattle.wdf_base.specs.declared.script.ArgNode.TheVariants as arg
use Rattle.wdf_base.specs.declared.script.ExprNode.{ExprNode}
use Rattle.wdf_base.specs.declared.script.ExprNode.TheVariants as node
use Rattle.wdf_base.specs.declared.script.ContextWord.{ContextWord}
use Rattle.wdf_base.specs.declared.script.ContextWord.TheVariants as context
use Rattle.wdf_base.specs.declared.script.Statement.{Statement}
use Rattle.wdf_model.specs.Ids.{cpu_of, frame_id}
use Rattle.wdf_model.specs.Tables.{contains, entry, flag, same_id}
use Rattle.wdf_model.specs.parts.Cpus.{Cpus, frame_of, irql, is_empty_cpu, no_frame, top, without_frame}
use Rattle.wdf_model.specs.parts.Cpus as cpus
use Rattle.wdf_model.specs.parts.Locks.{lock_of_callback}
use Rattle.wdf_model.specs.declared.entries.Running.{Running}
use Rattle.wdf_model.specs.State.{State, declared_in, object_in}
use Rattle.wdf_model.specs.declared.deed.Deed.{Deed}
use Rattle.wdf_model.specs.declared.deed.Deed.TheVariants.{GoOn, PopFrame}
use Rattle.wdf_model.specs.rules.Calls.{is_met_then, outcome}
use Rattle.wdf_model.specs.rules.Deeds.{do_deeds}
use Rattle.wdf_model.specs.rules.Script.{act_intent, arg_of, call_of, context_value, if_intent, intent_at, intent_of, let_intent, log_intent, node_value, operands_by, put_intent, repeat_intent, return_intent, spend_intent, statement_at, value_of, value_to}
use Rattle.wdf_model.specs.rules.Steps.{after, deeds, is_cpu, may, may_unpark, wait_is_over, waiting, waiting_deeds, waits_on}
use Rattle.wdf_model.specs.rules.Starts.{end_deeds, end_of_step, release_if_any}
use Rattle.law_machine_base.specs.Fits.{all_fit}
use Rattle.law_machine_base.proofs.OwnEvents.{IsEnd, IsWaiting, end_tells, waiting_tells}
use Rattle.wdf_model.proofs.Maps.{entry_put_other}
use Rattle.wdf_base.specs.declared.event.Fault.TheVariants as fault
use Rattle.wdf_base.specs.Calls.{is_release}
use Rattle.wdf_model.specs.parts.Locks.{held_by_call}
use Rattle.law_free_runs.proofs.FreeStates.{FreeState}
use Rattle.law_machine_lives.proofs.Sound.{lock_of_frame}
use Rattle.law_lint.proofs.Began.{Alike, began_alike}
use Rattle.law_lint.proofs.HeldAs.{HeldAs, held_later}
use Rattle.law_lint.proofs.Holdings.{Left, ended_left, event_left, left_same}
use Rattle.law_lint.proofs.Locking.{OfKind, of_kind}
use Rattle.wdf_model.proofs.Counts.{equal, not_equal, one_or_two}
use Rattle.wdf_model.proofs.Tests.{both_left, both_right}
use Rattle.law_machine_base.proofs.FitsOfEvents.{by_its_top, event_fits}
use Rattle.wdf_model.proofs.FrameCounts.{on, parked_once, parks, popped, unparks}
use Rattle.law_machine_counts.proofs.StepTable.{top_is}
use Rattle.law_machine_counts.proofs.StillDeeds.{outcome_none}
use Rattle.law_machine_counts.proofs.StepStates.{fit_before}
use Rattle.wdf_lint.specs.Walks.{IsReached}
use Rattle.law_lint.proofs.Acting.{calling}
use Rattle.law_lint.proofs.Grips.{LaterAt, at_same}
use Rattle.law_lint.proofs.Others.{event_later, is_owners_call}
use Rattle.law_lint.proofs.Stands.{FrameGoes, FrameStands, InHand, Stands, fewer_stand, goes_stands, is_on_request, stays_later}
use Rattle.law_lint.proofs.Calming.{event_calms}
use Rattle.law_lint.proofs.Events.{told}
use Rattle.law_lint.proofs.Flags.{flags_same}
use Rattle.law_lint.proofs.Owning.{Calms, grip_later, hand_before, own_answered}
use Rattle.law_lint.proofs.Frames.{Simulates}
use Rattle.law_lint.proofs.Framework.{FramesSame}
use Rattle.law_lint.proofs.Dids.{still_goes}
use Rattle.wdf_model.specs.parts.Requests.{request_of}
use Rattle.law_machine_counts.proofs.Releases.{none_named}
use Rattle.law_machine_lives.proofs.ReasonsOfEvents.{top_on}

-- ---- what a frame is about to do doesn't depend on what it waits for

module _ (plan : Plan) (f : Frame) (p : Option Pending) where
  abbrev other : Frame
  other = record f { pending = p }

  context_same : (w : ContextWord) → context_value other w ≡ context_value f w
  context_same context.OwnObject = refl
  context_same context.NearestDevice = refl
  context_same context.OwnRequest = refl
  context_same context.RequestLength = refl
  context_same context.RequestCode = refl
  context_same context.CompletionStatus = refl

  node_same : (x y : ℕ → Option Value) → ((e : ℕ) → x e ≡ y e) → (e : ℕ) (n : Option ExprNode) → node_value other x e n ≡ node_value f y e n
  node_same x y h e None = refl
  node_same x y h e (Some (node.Number n)) = refl
  node_same x y h e (Some (node.Variable v)) = refl
  node_same x y h e (Some (node.Object o)) = refl
  node_same x y h e (Some (node.Literal s)) = refl
  node_same x y h e (Some (node.Context w)) = ap Some (context_same w)
  node_same x y h e (Some (node.Binary op l r)) =
      ap (λ o. if nat_lt l e && nat_lt r e then operands_by op o (x r) else None) (h l) ∙ ap (λ o. if nat_lt l e && nat_lt r e then operands_by op (y l) o else None) (h r)

  value_to_same : (d e : ℕ) → value_to d plan other e ≡ value_to d plan f e
  value_to_same zero e = refl
  value_to_same (suc d) e = node_same (value_to d plan other) (value_to d plan f) (value_to_same d) e (slice_get plan.exprs e)

  value_same : (e : ℕ) → value_of plan other e ≡ value_of plan f e
  unfolding value_of
  value_same e = value_to_same (suc e) e

  arg_same : (x : ArgNode) → arg_of plan other x ≡ arg_of plan f x
  arg_same arg.NoArgument = refl
  arg_same (arg.Expression e) = ap (λ (o : Option Value). Val (unwrap_or o (Num 0))) (value_same e)
  arg_same (arg.OfClass c) = refl

  act_same : (n : ℕ) (x : Act) → act_intent plan other n x ≡ act_intent plan f n x
  act_same n (act.Let x e) = ap (let_intent x n) (value_same e)
  act_same n (act.Call k into x y z) =
      ap (λ (q : Arg). intent.Do (record (call_of plan other k x y z) { a = q })) (arg_same x)
      ∙ ap (λ (q : Arg). intent.Do (record (call_of plan other k x y z) { a = arg_of plan f x; b = q })) (arg_same y)
      ∙ ap (λ (q : Arg). intent.Do (record (call_of plan f k x y z) { c = q })) (arg_same z)
  act_same n (act.Get x r) = refl
  act_same n (act.Put r e) = ap (put_intent r) (value_same e)
  act_same n (act.If e otherwise) = ap (if_intent n otherwise) (value_same e)
  act_same n (act.Repeat e depth past) = ap (repeat_intent n depth past) (value_same e)
  act_same n (act.Again depth body) = refl
  act_same n (act.Spend e) = ap spend_intent (value_same e)
  act_same n (act.Log e) = ap log_intent (value_same e)
  act_same n (act.Return e) = ap return_intent (value_same e)

  intent_by : (s : Option Statement) → intent_at plan other s ≡ intent_at plan f s
  intent_by None = refl
  intent_by (Some s) = act_same s.next s.act

  pub intent_same : intent_of plan other ≡ intent_of plan f
  intent_same = intent_by (statement_at plan f)

-- ---- a frame begins to wait

pub waits_for_none : {A : Type 0} (plan : Plan) (S : State A) (k : CallKind) (n : ℕ) (x y z : Arg) → is_met_then plan S (calling k n x y z) ≡ false → (is_on_request k ≡ false) × (is_owners_call k ≡ false)
waits_for_none plan S call.WdfRequestComplete n x y z h = absurd (let q : ⊥ = cc in q)
waits_for_none plan S call.WdfRequestRequeue n x y z h = absurd (let q : ⊥ = cc in q)
waits_for_none plan S call.WdfRequestForwardToIoQueue n x y z h = absurd (let q : ⊥ = cc in q)
waits_for_none plan S call.WdfRequestSend n x y z h = absurd (let q : ⊥ = cc in q)
waits_for_none plan S call.WdfRequestMarkCancelableEx n x y z h = absurd (let q : ⊥ = cc in q)
waits_for_none plan S call.WdfRequestUnmarkCancelable n x y z h = absurd (let q : ⊥ = cc in q)
waits_for_none plan S call.WdfRequestIsCanceled n x y z h = absurd (let q : ⊥ = cc in q)
waits_for_none plan S call.WdfRequestStopAcknowledge n x y z h = absurd (let q : ⊥ = cc in q)
waits_for_none plan S _ n x y z h = (refl, refl)

-- nor does a release
waits_for_no_release : {A : Type 0} (plan : Plan) (S : State A) (k : CallKind) (n : ℕ) (x y z : Arg) → is_met_then plan S (calling k n x y z) ≡ false → is_release k ≡ false
waits_for_no_release plan S call.WdfSpinLockRelease n x y z h = absurd (let q : ⊥ = cc in q)
waits_for_no_release plan S call.WdfWaitLockRelease n x y z h = absurd (let q : ⊥ = cc in q)
waits_for_no_release plan S call.WdfInterruptReleaseLock n x y z h = absurd (let q : ⊥ = cc in q)
waits_for_no_release plan S _ n x y z h = refl

pub waiting_stands : {A : Type 0} (plan : Plan) (m : Meaning A) (S : State A) (k : Cpu) (c : Call) → may plan m S (event.Waiting k c) ≡ true → FreeState plan S → Stands plan S → Stands plan (after plan m S (event.Waiting k c))
waiting_stands {A} plan m S k c h free st =
    let d : IsWaiting plan S k.0 c = waiting_tells plan m S k c h in
    let f = d.frame in
    let frame : Frame = frame_of S.cpus f in
    let there : 1 ≤ on S.cpus f = top_on S.cpus k.0 f d.about.top in
    let fs : FrameStands plan S f (st.states f) = st.stands f there in
    let off = waits_for_none plan S c.kind c.count c.a c.b c.c d.unmet in
    let v : Value = (outcome plan S k.0 f c).answer in
    let next : Frame = waiting frame c v in
    let ds : List Deed = (outcome plan S k.0 f c).deeds in
    let U : State A = do_deeds plan (deeds plan S (event.Waiting k c)) S in
    let same : deeds plan S (event.Waiting k c) ≡ ds ++ GoOn (frame_id f) next ∷ [] = by_its_top S k.0 f (waiting_deeds plan S k.0 c) d.about.top in
    let fit : all_fit plan (deeds plan S (event.Waiting k c)) S ≡ true = event_fits plan m S (event.Waiting k c) h in
    let fits_ : all_fit plan ds S ≡ true = fit_before plan ds (GoOn (frame_id f) next ∷ []) S (subst (λ es. all_fit plan es S ≡ true) same fit) in
    let go : FrameGoes S U f next = subst (λ es. FrameGoes S (do_deeds plan es S) f next) (sym same) (still_goes plan S ds f next (outcome_none plan S k.0 f c) fits_) in
    let later : (x : ℕ) → x < length S.requests.all → LaterAt x S.requests U.requests = λ x old. event_later plan S (event.Waiting k c) x off.1 fit free.places old in
    let now : (frame_of U.cpus f).request ≡ frame.request = ap (λ (x : Frame). x.request) go.here in
    let unreleased : is_release c.kind ≡ false = waits_for_no_release plan S c.kind c.count c.a c.b c.c d.unmet in
    let left : (g : ℕ) → Left S.locks U.locks g = λ g. event_left plan S (event.Waiting k c) g refl refl unreleased in
    let calm : (g : ℕ) → 1 ≤ on S.cpus g → Calms plan (frame_of S.cpus g) (st.states g) true S.power U.power = event_calms plan S (event.Waiting k c) st off.1 refl fit free.places in
    told plan m (event.Waiting k c) U
    (goes_stands plan S U f next (st.states f) st go there
    (record {
      reached = subst (λ (x : Frame). IsReached plan x.script (st.states f)) (sym go.here) fs.reached;
      simulates = subst (Simulates (st.states f)) (sym go.here) (record { at = fs.simulates.at; known = fs.simulates.known });
      grips = λ r has.
          let g = fs.grips r (sym now ∙ has) in
          let l = later r.id.0 g.1 in
          let long = l.long in
          let within : r.id.0 < length S.requests.all = g.1 in
          (grip_later (st.states f).hold (request_of S.requests r.id.0) (request_of U.requests r.id.0) l.later g.0, omega arith);
      has = λ q. let is = fs.has q in (is.0, now ∙ is.1);
      waits = λ p e.
          let it : Some (record { call = c; answer = v }) ≡ Some p = sym (ap (λ (x : Frame). x.pending) go.here) ∙ e in
          let call_ : c ≡ p.call = cc in
          record {
            about = ap (intent_of plan) go.here ∙ intent_same plan frame (Some (record { call = c; answer = v })) ∙ d.about.about ∙ ap intent.Do call_;
            on_request = ap (λ (q : Call). is_on_request q.kind) (sym call_) ∙ off.0;
            release = ap (λ (q : Call). is_release q.kind) (sym call_) ∙ unreleased;
            kind = subst (λ (q : Call). OfKind plan q.kind (object_in q.a)) call_ (of_kind plan S free k.0 f c (d.about.clean fault.StaleHandle) (d.about.clean fault.WrongKind));
          };
      locks = subst (λ (x : Frame). HeldAs plan U.locks f x.variables (st.states f)) (sym go.here) (held_later plan S.locks U.locks f frame.variables (st.states f) (left f) fs.locks);
      began = began_alike plan frame (frame_of U.cpus f) (subst (Alike frame) (sym go.here) (record { script = refl; callback = refl; object = refl; request = refl })) fs.began;
      own = own_answered plan S.requests U.requests S.power U.power frame (frame_of U.cpus f) (st.states f) (st.states f) true (subst (Alike frame) (sym go.here) (record { script = refl; callback = refl; object = refl; request = refl })) refl (λ e. (refl, e))
          (λ r has. let g = fs.grips r has in (g.0, later r.id.0 g.1)) (calm f there) fs.own;
    })
    (λ x g.
    let has = sym now ∙ g.has in
    let grip = fs.grips g.request has in
    record {
      request = g.request;
      has = has;
      same = g.same;
      in_hand = subst (λ y. InHand (st.states f).hold S.requests y) g.same
          (hand_before (st.states f).hold S.requests U.requests g.request.id.0 (later g.request.id.0 grip.1).later grip.0 (subst (λ y. InHand (st.states f).hold U.requests y) (sym g.same) g.in_hand));
    })
    (λ g n more. stays_later plan S U g (st.states g) (st.stands g more) (λ r has. later r.id.0 ((st.stands g more).grips r has).1) (calm g more))
    (λ g n. left g))

-- ---- a frame parks, comes back, ends or has a fault

-- the frames, each there at most once
abbrev pub Once : Cpus → Type 0
Once C = (f : ℕ) → on C f ≤ 1

quiet_frames : {A : Type 0} (plan : Plan) (m : Meaning A) (S : State A) (e : Event) → FramesSame S.cpus (do_deeds plan (deeds plan S e) S).cpus
    → ((x : ℕ) → x < length S.requests.all → LaterAt x S.requests (do_deeds plan (deeds plan S e) S).requests) → ((g : ℕ) → Left S.locks (do_deeds plan (deeds plan S e) S).locks g)
    → ((x : ℕ) → on (do_deeds plan (deeds plan S e) S).cpus x ≡ 0 → (held_by_call S.locks x ≡ 0) ⊎ (on S.cpus x ≡ 0)) → (st : Stands plan S)
    → ((g : ℕ) → 1 ≤ on S.cpus g → Calms plan (frame_of S.cpus g) (st.states g) true S.power (do_deeds plan (deeds plan S e) S).power) → Stands plan (after plan m S e)
quiet_frames plan m S e frames later left ended st calm =
    told plan m e (do_deeds plan (deeds plan S e) S)
    (fewer_stand plan S (do_deeds plan (deeds plan S e) S) st frames later calm left
    (λ g none. let l = left g in let less = l.fewer in elim (ended g none) [
      | inl held ↦ omega arith
      | inr off ↦ let was = st.off g off in omega arith
    ]))

pub park_stands : {A : Type 0} (plan : Plan) (m : Meaning A) (S : State A) (k : Cpu) (f : FrameId) → may plan m S (event.Park k f) ≡ true → Stands plan S → Stands plan (after plan m S (event.Park k f))
park_stands plan m S k f h st =
    let on_top : top S.cpus k.0 ≡ Some f.0 = top_is (top S.cpus k.0) f.0 (both_left (same_id (top S.cpus k.0) f.0) (irql S.cpus k.0 == 0) (both_left (same_id (top S.cpus k.0) f.0 && irql S.cpus k.0 == 0) (waits_on S (frame_of S.cpus f.0).pending) h)) in
    quiet_frames plan m S (event.Park k f) (λ x more. (let e = parks (λ y. y == x) S.cpus k.0 f.0 on_top in omega arith, refl)) (λ x old. at_same x S.requests S.requests refl) (λ g. left_same S.locks S.locks g refl) (λ x none. inr (let e = parks (λ y. y == x) S.cpus k.0 f.0 on_top in omega arith)) st (λ g more r has guard is. flags_same true S.power S.power r.id.0 refl)

pub unpark_stands : {A : Type 0} (plan : Plan) (m : Meaning A) (S : State A) (k : Cpu) (f : FrameId) → may plan m S (event.Unpark k f) ≡ true → Once S.cpus → Stands plan S → Stands plan (after plan m S (event.Unpark k f))
unpark_stands plan m S k f h once st =
    let comes : may_unpark S k.0 f.0 ≡ true = both_right (is_cpu plan k) (may_unpark S k.0 f.0) h in
    let listed : contains f.0 S.cpus.parked ≡ true = both_left (contains f.0 S.cpus.parked) (is_empty_cpu S.cpus k.0) (both_left (contains f.0 S.cpus.parked && is_empty_cpu S.cpus k.0) (wait_is_over S (frame_of S.cpus f.0).pending) comes) in
    quiet_frames plan m S (event.Unpark k f) (λ x more. (let e = unparks (λ y. y == x) S.cpus k.0 f.0 (parked_once S.cpus f.0 (once f.0) listed) in omega arith, refl)) (λ x old. at_same x S.requests S.requests refl) (λ g. left_same S.locks S.locks g refl) (λ x none. inr (let e = unparks (λ y. y == x) S.cpus k.0 f.0 (parked_once S.cpus f.0 (once f.0) listed) in omega arith)) st (λ g more r has guard is. flags_same true S.power S.power r.id.0 refl)

pub fault_stands : {A : Type 0} (plan : Plan) (m : Meaning A) (S : State A) (k : Cpu) (x : Fault) (line : ℕ) → Stands plan S → Stands plan (after plan m S (event.Fault k x line))
fault_stands plan m S k x line st = quiet_frames plan m S (event.Fault k x line) (λ y more. (more, refl)) (λ y old. at_same y S.requests S.requests refl) (λ g. left_same S.locks S.locks g refl) (λ y none. inr none) st (λ g more r has guard is. flags_same true S.power S.power r.id.0 refl)

ended_cpus : {A : Type 0} (plan : Plan) (S : State A) (cpu : ℕ) (c : Callback) (o : ℕ) (v : Value) (l : Option LockRef) (r : Rank) → (do_deeds plan (release_if_any l ++ PopFrame (cpu_of cpu) ∷ end_of_step plan S r c o v) S).cpus ≡ cpus.pop S.cpus cpu
ended_cpus plan S cpu c o v None rank.Sequence = refl
ended_cpus plan S cpu c o v (Some l) rank.Sequence = refl
ended_cpus plan S cpu c o v None _ = refl
ended_cpus plan S cpu c o v (Some l) _ = refl

popped_frames : (C : Cpus) (cpu f : ℕ) → top C cpu ≡ Some f → Once C → FramesSame C (cpus.pop C cpu)
popped_frames C cpu f t once x more =
    let e = popped (λ y. y == x) C cpu f t in
    let apart : x ≢ f = λ same. (let one : flag (f == x) ≡ 1 = ap flag (equal f x (sym same)) in let o = once x in let q : ⊥ = omega arith in q) in
    (omega arith, ap (λ (s : Option ℕ). (entry no_frame (without_frame C s) x).frame) t ∙ ap (λ (r : Running). r.frame) (entry_put_other no_frame C.frames f x no_frame apart))

-- the locks that calls took stay where a callback ends
ended_locks : {A : Type 0} (plan : Plan) (S : State A) (cpu : ℕ) (c : Callback) (o : Handle) (v : Value) → IsEnd plan S cpu c o v → FreeState plan S → (g : ℕ) → Left S.locks (do_deeds plan (end_deeds plan S cpu c o.id.0 v) S).locks g
ended_locks {A} plan S cpu c o v d free g = by (lock_of_callback plan c o.id.0 (declared_in plan S o.id.0)) refl (row_of c).rank
  where
    own : lock_of_frame plan S d.frame ≡ lock_of_callback plan c o.id.0 (declared_in plan S o.id.0)
    own = sym (ap (λ x. lock_of_callback plan x o.id.0 (declared_in plan S o.id.0)) d.callback ∙ ap (λ (x : Handle). lock_of_callback plan (frame_of S.cpus d.frame).callback x.id.0 (declared_in plan S x.id.0)) d.object)

    by : (l : Option LockRef) → lock_of_callback plan c o.id.0 (declared_in plan S o.id.0) ≡ l → (r : Rank) → Left S.locks (do_deeds plan (release_if_any l ++ PopFrame (cpu_of cpu) ∷ end_of_step plan S r c o.id.0 v) S).locks g
    by None e rank.Sequence = left_same S.locks S.locks g refl
    by None e _ = left_same S.locks S.locks g refl
    by (Some l) e rank.Sequence = ended_left S.locks l d.frame g free.once (free.agrees.holds d.frame (λ z. z) (top_on S.cpus cpu d.frame d.about.top) l (own ∙ e))
    by (Some l) e _ = ended_left S.locks l d.frame g free.once (free.agrees.holds d.frame (λ z. z) (top_on S.cpus cpu d.frame d.about.top) l (own ∙ e))

pub end_stands : {A : Type 0} (plan : Plan) (m : Meaning A) (S : State A) (k : Cpu) (c : Callback) (o : Handle) (v : Value) → may plan m S (event.End k c o v) ≡ true → FreeState plan S → Stands plan S → Stands plan (after plan m S (event.End k c o v))
end_stands plan m S k c o v h free st =
    let d : IsEnd plan S k.0 c o v = end_tells plan m S k c o v h in
    let once : Once S.cpus = free.steps.framed.once in
    quiet_frames plan m S (event.End k c o v)
    (subst (λ (C : Cpus). FramesSame S.cpus C) (sym (ended_cpus plan S k.0 c o.id.0 v (lock_of_callback plan c o.id.0 (declared_in plan S o.id.0)) (row_of c).rank)) (popped_frames S.cpus k.0 d.frame d.about.top once))
    (λ x old. event_later plan S (event.End k c o v) x refl (event_fits plan m S (event.End k c o v) h) free.places old) (ended_locks plan S k.0 c o v d free)
    (λ x none. elim (one_or_two x d.frame) [
      | inl e ↦ inl (ap (held_by_call S.locks) e ∙ none_named (held_by_call S.locks d.frame) (d.about.clean fault.ReturnHoldingLock))
      | inr n ↦
          let gone : on (cpus.pop S.cpus k.0) x ≡ 0 = sym (ap (λ (C : Cpus). on C x) (ended_cpus plan S k.0 c o.id.0 v (lock_of_callback plan c o.id.0 (declared_in plan S o.id.0)) (row_of c).rank)) ∙ none in
          let count = popped (λ y. y == x) S.cpus k.0 d.frame d.about.top in
          let other : flag (d.frame == x) ≡ 0 = ap flag (not_equal d.frame x (λ e. n (sym e))) in
          inr (omega arith)
    ]) st (event_calms plan S (event.End k c o v) st refl refl (event_fits plan m S (event.End k c o v) h) free.places)
