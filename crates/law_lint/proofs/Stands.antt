-- The invariant of the requests' half: each frame is at a state that a walk comes to, has of its request what that says,
-- and a request is in the hands of one frame at most.
use Rattle.std.proofs.Common.{if◌then◌else◌, ◌≡◌, ◌≢◌, ℕ, ◌==◌, ◌<◌, ◌≤◌, Bool, true, false, ◌∷◌, inl, inr, Some, None, length, refl, sym, ap, subst, ◌∙◌, arith}
use Rattle.wdf_base.specs.declared.plan.Plan.{Plan}
use Rattle.wdf_base.specs.declared.ids.Handle.{Handle}
use Rattle.wdf_base.specs.declared.call.CallKind.{CallKind}
use Rattle.wdf_base.specs.declared.call.CallKind.TheVariants as call
use Rattle.wdf_base.specs.declared.frame.Frame.{Frame}
use Rattle.wdf_base.specs.declared.frame.Pending.{Pending}
use Rattle.wdf_base.specs.declared.frame.Intent.TheVariants as intent
use Rattle.wdf_base.specs.Calls.{is_release}
use Rattle.wdf_model.specs.parts.Cpus.{frame_of}
use Rattle.wdf_model.specs.parts.Requests.{Requests, request_of}
use Rattle.wdf_model.specs.State.{State, object_in}
use Rattle.wdf_model.specs.rules.Script.{intent_of}
use Rattle.wdf_model.proofs.Counts.{equal, not_equal, one_or_two}
use Rattle.wdf_lint.specs.declared.state.Abstract.{Abstract}
use Rattle.wdf_lint.specs.Steps.{is_own_or_marked, steps}
use Rattle.wdf_lint.specs.Walks.{IsIn, IsReached}
use Rattle.law_lint.proofs.Began.{Alike, Began, alike_itself, began_alike}
use Rattle.law_lint.proofs.HeldAs.{HeldAs, held_assigned, held_later}
use Rattle.law_lint.proofs.Holdings.{Left, left_same}
use Rattle.law_lint.proofs.Locking.{OfKind}
use Rattle.wdf_model.specs.parts.Locks.{Locks, held_by_call}
use Rattle.law_lint.proofs.Frames.{Simulates, Went, went_simulates}
use Rattle.law_lint.proofs.Grips.{LaterAt}
use Rattle.law_lint.proofs.Owning.{Calms, OwnAs, grip_later, hand_before, own_later, own_still}
use Rattle.wdf_model.proofs.FrameCounts.{on}
pub use Rattle.law_lint.proofs.Calls.{GripOf, InHand}

-- the calls on a callback's own request
abbrev pub is_on_request : CallKind → Bool
is_on_request call.WdfRequestComplete = true
is_on_request call.WdfRequestRequeue = true
is_on_request call.WdfRequestForwardToIoQueue = true
is_on_request call.WdfRequestSend = true
is_on_request call.WdfRequestMarkCancelableEx = true
is_on_request call.WdfRequestUnmarkCancelable = true
is_on_request call.WdfRequestIsCanceled = true
is_on_request call.WdfRequestStopAcknowledge = true
is_on_request _ = false

-- what a frame waits in: a call of its statement, on no request of its own, that gives no lock back
pub record Awaits (plan : Plan) (frame : Frame) (p : Pending) : Type 0 where
  pub about : intent_of plan frame ≡ intent.Do p.call
  pub on_request : is_on_request p.call.kind ≡ false
  pub release : is_release p.call.kind ≡ false
  pub kind : OfKind plan p.call.kind (object_in p.call.a)

-- a frame is at a state that a walk of its callback comes to
pub record FrameStands {A : Type 0} (plan : Plan) (S : State A) (f : ℕ) (a : Abstract) : Type 0 where
  pub reached : IsReached plan (frame_of S.cpus f).script a
  pub simulates : Simulates a (frame_of S.cpus f)
  -- it has its request as the state says, and that is a request of the machine
  pub grips : (r : Handle) → (frame_of S.cpus f).request ≡ Some r → GripOf a.hold (request_of S.requests r.id.0) × (r.id.0 < length S.requests.all)
  pub has : is_own_or_marked a.hold ≡ true → (r : Handle) × ((frame_of S.cpus f).request ≡ Some r)
  -- where it waits, the call is its statement's
  pub waits : (p : Pending) → (frame_of S.cpus f).pending ≡ Some p → Awaits plan (frame_of S.cpus f) p
  -- by calls it holds the locks that the state says
  pub locks : HeldAs plan S.locks f (frame_of S.cpus f).variables a
  -- its script is its callback's
  pub began : Began plan (frame_of S.cpus f)
  -- its request is of its queue, and one to be acknowledged can be
  pub own : OwnAs plan S.requests S.power (frame_of S.cpus f) a

-- a frame has a request in its hands
pub record Grasps {A : Type 0} (S : State A) (f : ℕ) (a : Abstract) (x : ℕ) : Type 0 where
  pub request : Handle
  pub has : (frame_of S.cpus f).request ≡ Some request
  pub same : request.id.0 ≡ x
  pub in_hand : InHand a.hold S.requests x

pub record Stands {A : Type 0} (plan : Plan) (S : State A) : Type 0 where
  pub states : ℕ → Abstract
  pub stands : (f : ℕ) → 1 ≤ on S.cpus f → FrameStands plan S f (states f)
  pub alone : (f g x : ℕ) → 1 ≤ on S.cpus f → 1 ≤ on S.cpus g → Grasps S f (states f) x → Grasps S g (states g) x → f ≡ g
  -- a frame that isn't there holds no lock by a call
  pub off : (f : ℕ) → on S.cpus f ≡ 0 → held_by_call S.locks f ≡ 0

-- ---- a walk goes on

pub reaches : (plan : Plan) (k : ℕ) (a b : Abstract) → IsReached plan k a → IsIn b (steps plan k a) → IsReached plan k b
reaches plan k a b r is = (a ∷ r.0, (is, r.1))

-- ---- one frame goes on, and the others stay where they are

-- frame f is now this, and the others are as they were
pub record FrameGoes {A : Type 0} (S U : State A) (f : ℕ) (next : Frame) : Type 0 where
  pub here : frame_of U.cpus f ≡ next
  pub others : (x : ℕ) → x ≢ f → frame_of U.cpus x ≡ frame_of S.cpus x
  pub there : (x : ℕ) → on U.cpus x ≡ on S.cpus x

-- of another frame: what it has of its request, and that it has no more in its hands than before
pub record Stays {A : Type 0} (plan : Plan) (S U : State A) (g : ℕ) (a : Abstract) : Type 0 where
  pub grips : (r : Handle) → (frame_of S.cpus g).request ≡ Some r → GripOf a.hold (request_of U.requests r.id.0) × (r.id.0 < length U.requests.all)
  pub before : (r : Handle) → (frame_of S.cpus g).request ≡ Some r → InHand a.hold U.requests r.id.0 → InHand a.hold S.requests r.id.0
  pub own : OwnAs plan U.requests U.power (frame_of S.cpus g) a

-- a frame whose request others left alone
pub stays_later : {A : Type 0} (plan : Plan) (S U : State A) (g : ℕ) (a : Abstract) → FrameStands plan S g a
    → ((r : Handle) → (frame_of S.cpus g).request ≡ Some r → LaterAt r.id.0 S.requests U.requests) → Calms plan (frame_of S.cpus g) a true S.power U.power → Stays plan S U g a
stays_later plan S U g a st later calm = record {
  grips = λ r has.
      let l = later r has in
      let old = st.grips r has in
      let long = l.long in
      let in_ : r.id.0 < length S.requests.all = old.1 in
      (grip_later a.hold (request_of S.requests r.id.0) (request_of U.requests r.id.0) l.later old.0, omega arith);
  before = λ r has i. hand_before a.hold S.requests U.requests r.id.0 (later r has).later (st.grips r has).0 i;
  own = own_later plan S.requests U.requests S.power U.power (frame_of S.cpus g) a a true refl (λ e. (refl, e)) (λ r has. ((st.grips r has).0, later r has)) calm st.own;
}

moved_stands : {A : Type 0} (plan : Plan) (S U : State A) (g : ℕ) (a : Abstract) → frame_of U.cpus g ≡ frame_of S.cpus g → Left S.locks U.locks g → Stays plan S U g a → FrameStands plan S g a → FrameStands plan U g a
moved_stands plan S U g a e left s st = record {
  locks = subst (λ (x : Frame). HeldAs plan U.locks g x.variables a) (sym e) (held_later plan S.locks U.locks g (frame_of S.cpus g).variables a left st.locks);
  began = subst (Began plan) (sym e) st.began;
  own = subst (λ (x : Frame). OwnAs plan U.requests U.power x a) (sym e) s.own;
  reached = subst (λ (x : Frame). IsReached plan x.script a) (sym e) st.reached;
  simulates = subst (Simulates a) (sym e) st.simulates;
  grips = λ r has. s.grips r (sym (ap (λ (x : Frame). x.request) e) ∙ has);
  has = λ h. let is = st.has h in (is.0, ap (λ (x : Frame). x.request) e ∙ is.1);
  waits = λ p w. subst (λ (x : Frame). Awaits plan x p) (sym e) (st.waits p (sym (ap (λ (x : Frame). x.pending) e) ∙ w));
}

grasped_before : {A : Type 0} (plan : Plan) (S U : State A) (g x : ℕ) (a : Abstract) → frame_of U.cpus g ≡ frame_of S.cpus g → Stays plan S U g a → Grasps U g a x → Grasps S g a x
grasped_before plan S U g x a e s k =
    let has : (frame_of S.cpus g).request ≡ Some k.request = sym (ap (λ (y : Frame). y.request) e) ∙ k.has in
    record {
      request = k.request;
      has = has;
      same = k.same;
      in_hand = subst (λ y. InHand a.hold S.requests y) k.same (s.before k.request has (subst (λ y. InHand a.hold U.requests y) (sym k.same) k.in_hand));
    }

abbrev with_state : (ℕ → Abstract) → ℕ → Abstract → ℕ → Abstract
with_state states f b x = if x == f then b else states x

state_here : (states : ℕ → Abstract) (f : ℕ) (b : Abstract) → with_state states f b f ≡ b
state_here states f b = rw (equal f f refl) refl

state_there : (states : ℕ → Abstract) (f : ℕ) (b : Abstract) (x : ℕ) → x ≢ f → with_state states f b x ≡ states x
state_there states f b x n = rw (not_equal x f n) refl

-- the invariant after a frame goes on
pub goes_stands : {A : Type 0} (plan : Plan) (S U : State A) (f : ℕ) (next : Frame) (b : Abstract) (st : Stands plan S) → FrameGoes S U f next → 1 ≤ on S.cpus f
    → FrameStands plan U f b → ((x : ℕ) → Grasps U f b x → Grasps S f (st.states f) x)
    → ((g : ℕ) → g ≢ f → 1 ≤ on S.cpus g → Stays plan S U g (st.states g)) → ((g : ℕ) → g ≢ f → Left S.locks U.locks g) → Stands plan U
goes_stands {A} plan S U f next b st go there new shrinks stay left = record {
  off = λ g none. (let same = go.there g in let was : on S.cpus g ≡ 0 = sym same ∙ none in elim (one_or_two g f) [
    | inl e ↦ absurd (let here : 1 ≤ on S.cpus g = subst (λ y. 1 ≤ on S.cpus y) (sym e) there in let z : ⊥ = omega arith in z)
    | inr n ↦ let l = left g n in let less = l.fewer in let old = st.off g was in omega arith
  ]);
  states = with_state st.states f b;
  stands = λ g more. elim (one_or_two g f) [
    | inl e ↦ subst (λ y. FrameStands plan U y (with_state st.states f b y)) (sym e) (subst (FrameStands plan U f) (sym (state_here st.states f b)) new)
    | inr n ↦
        let was : 1 ≤ on S.cpus g = let same = go.there g in omega arith in
        subst (FrameStands plan U g) (sym (state_there st.states f b g n)) (moved_stands plan S U g (st.states g) (go.others g n) (left g n) (stay g n was) (st.stands g was))
  ];
  alone = λ g h x gt ht gg hg.
      let gw : 1 ≤ on S.cpus g = let same = go.there g in omega arith in
      let hw : 1 ≤ on S.cpus h = let same = go.there h in omega arith in
      st.alone g h x gw hw (back g x gw gg) (back h x hw hg);
}
  where
    back : (g x : ℕ) → 1 ≤ on S.cpus g → Grasps U g (with_state st.states f b g) x → Grasps S g (st.states g) x
    back g x was k = elim (one_or_two g f) [
      | inl e ↦
          subst (λ y. Grasps S y (st.states y) x) (sym e)
          (shrinks x (subst (λ s. Grasps U f s x) (state_here st.states f b) (subst (λ y. Grasps U y (with_state st.states f b y) x) e k)))
      | inr n ↦ grasped_before plan S U g x (st.states g) (go.others g n) (stay g n was) (subst (λ s. Grasps U g s x) (state_there st.states f b g n) k)
    ]

-- ---- a step inside a frame, or one that is seen but changes no request

-- the frame goes on as a walk does, and no request changes
pub inside_stands : {A : Type 0} (plan : Plan) (S U : State A) (f : ℕ) (next : Frame) (st : Stands plan S) → FrameGoes S U f next → 1 ≤ on S.cpus f → U.requests ≡ S.requests → U.locks ≡ S.locks → U.power ≡ S.power
    → (w : Went (steps plan (frame_of S.cpus f).script (st.states f)) (st.states f) (frame_of S.cpus f) next)
    → Alike (frame_of S.cpus f) next → next.pending ≡ None → Stands plan U
inside_stands {A} plan S U f next st go there same locks_ power w alike idle =
    let old : FrameStands plan S f (st.states f) = st.stands f there in
    let now : (frame_of U.cpus f).request ≡ (frame_of S.cpus f).request = ap (λ (x : Frame). x.request) go.here ∙ alike.request in
    goes_stands plan S U f next w.state st go there
    (record {
      reached = subst (λ k. IsReached plan k w.state) (sym (ap (λ (x : Frame). x.script) go.here ∙ alike.script)) (reaches plan (frame_of S.cpus f).script (st.states f) w.state old.reached w.is_in);
      simulates = subst (Simulates w.state) (sym go.here) (went_simulates (steps plan (frame_of S.cpus f).script (st.states f)) (st.states f) (frame_of S.cpus f) next w old.simulates.known);
      grips = λ r has. subst (λ (R : Requests). GripOf w.state.hold (request_of R r.id.0) × (r.id.0 < length R.all)) (sym same)
          (subst (λ h. GripOf h (request_of S.requests r.id.0) × (r.id.0 < length S.requests.all)) (sym w.hold) (old.grips r (sym now ∙ has)));
      has = λ h. let is = old.has (subst (λ x. is_own_or_marked x ≡ true) w.hold h) in (is.0, now ∙ is.1);
      waits = λ p e. absurd (let none : (frame_of U.cpus f).pending ≡ None = ap (λ (x : Frame). x.pending) go.here ∙ idle in let z : ⊥ = cc in z);
      locks = subst (λ (x : Frame). HeldAs plan U.locks f x.variables w.state) (sym go.here) (subst (λ (L : Locks). HeldAs plan L f next.variables w.state) (sym locks_)
          (held_assigned plan S.locks f (st.states f) (frame_of S.cpus f) w.state next w.assigned w.interrupts old.locks));
      began = began_alike plan (frame_of S.cpus f) (frame_of U.cpus f) (subst (Alike (frame_of S.cpus f)) (sym go.here) alike) old.began;
      own = own_still plan S.requests U.requests S.power U.power (frame_of S.cpus f) (frame_of U.cpus f) (st.states f) w.state same power (subst (Alike (frame_of S.cpus f)) (sym go.here) alike) w.hold w.acknowledged old.own;
    })
    (λ x k. record {
      request = k.request;
      has = sym now ∙ k.has;
      same = k.same;
      in_hand = subst (λ (R : Requests). InHand (st.states f).hold R x) same (subst (λ h. InHand h U.requests x) w.hold k.in_hand);
    })
    (λ g n more. record {
      grips = λ r has. subst (λ (R : Requests). GripOf (st.states g).hold (request_of R r.id.0) × (r.id.0 < length R.all)) (sym same) ((st.stands g more).grips r has);
      before = λ r has i. subst (λ (R : Requests). InHand (st.states g).hold R r.id.0) same i;
      own = own_still plan S.requests U.requests S.power U.power (frame_of S.cpus g) (frame_of S.cpus g) (st.states g) (st.states g) same power (alike_itself (frame_of S.cpus g)) refl refl (st.stands g more).own;
    })
    (λ g n. left_same S.locks U.locks g locks_)

-- ---- no frame goes on

-- the frames that are there were there, and are as they were; others did to requests what others may
pub fewer_stand : {A : Type 0} (plan : Plan) (S U : State A) (st : Stands plan S) → ((x : ℕ) → 1 ≤ on U.cpus x → (1 ≤ on S.cpus x) × (frame_of U.cpus x ≡ frame_of S.cpus x))
    → ((x : ℕ) → x < length S.requests.all → LaterAt x S.requests U.requests) → ((g : ℕ) → 1 ≤ on S.cpus g → Calms plan (frame_of S.cpus g) (st.states g) true S.power U.power)
    → ((g : ℕ) → Left S.locks U.locks g) → ((f : ℕ) → on U.cpus f ≡ 0 → held_by_call U.locks f ≡ 0) → Stands plan U
fewer_stand {A} plan S U st same later calm left off = record {
  states = st.states;
  off = off;
  stands = λ g more. let is = same g more in moved_stands plan S U g (st.states g) is.1 (left g) (stay g is.0) (st.stands g is.0);
  alone = λ g h x gt ht gg hg.
      let gs = same g gt in
      let hs = same h ht in
      st.alone g h x gs.0 hs.0 (grasped_before plan S U g x (st.states g) gs.1 (stay g gs.0) gg) (grasped_before plan S U h x (st.states h) hs.1 (stay h hs.0) hg);
}
  where
    stay : (g : ℕ) → 1 ≤ on S.cpus g → Stays plan S U g (st.states g)
    stay g more = stays_later plan S U g (st.states g) (st.stands g more) (λ r has. later r.id.0 ((st.stands g more).grips r has).1) (calm g more)

-- ---- a frame begins

pub record FrameBegins {A : Type 0} (S U : State A) (f : ℕ) (frame : Frame) : Type 0 where
  pub new : on S.cpus f ≡ 0
  pub here : frame_of U.cpus f ≡ frame
  pub others : (x : ℕ) → x ≢ f → (on U.cpus x ≡ on S.cpus x) × (frame_of U.cpus x ≡ frame_of S.cpus x)

-- the invariant after a frame begins: what is in its hands was in no other's
pub begins_stands : {A : Type 0} (plan : Plan) (S U : State A) (f : ℕ) (frame : Frame) (b : Abstract) (st : Stands plan S) → FrameBegins S U f frame → FrameStands plan U f b
    → ((x : ℕ) → x < length S.requests.all → LaterAt x S.requests U.requests) → ((g : ℕ) → 1 ≤ on S.cpus g → Calms plan (frame_of S.cpus g) (st.states g) true S.power U.power)
    → ((g x : ℕ) → 1 ≤ on S.cpus g → Grasps U f b x → Grasps S g (st.states g) x → ⊥)
    → ((g : ℕ) → Left S.locks U.locks g) → Stands plan U
begins_stands {A} plan S U f frame b st k new later calm free left = record {
  off = λ g none. elim (one_or_two g f) [
    | inl e ↦ let was : held_by_call S.locks g ≡ 0 = st.off g (ap (on S.cpus) e ∙ k.new) in let l = left g in let less = l.fewer in omega arith
    | inr n ↦ let is = k.others g n in let was : held_by_call S.locks g ≡ 0 = st.off g (sym is.0 ∙ none) in let l = left g in let less = l.fewer in omega arith
  ];
  states = with_state st.states f b;
  stands = λ g more. elim (one_or_two g f) [
    | inl e ↦ subst (λ y. FrameStands plan U y (with_state st.states f b y)) (sym e) (subst (FrameStands plan U f) (sym (state_here st.states f b)) new)
    | inr n ↦
        let is = k.others g n in
        let was : 1 ≤ on S.cpus g = let same = is.0 in omega arith in
        subst (FrameStands plan U g) (sym (state_there st.states f b g n)) (moved_stands plan S U g (st.states g) is.1 (left g) (stay g was) (st.stands g was))
  ];
  alone = λ g h x gt ht gg hg. elim (one_or_two g f) [
    | inl eg ↦ elim (one_or_two h f) [
      | inl eh ↦ eg ∙ sym eh
      | inr nh ↦ absurd (free h x (there h nh ht) (mine g x eg gg) (theirs h x nh ht hg))
    ]
    | inr ng ↦ elim (one_or_two h f) [
      | inl eh ↦ absurd (free g x (there g ng gt) (mine h x eh hg) (theirs g x ng gt gg))
      | inr nh ↦ st.alone g h x (there g ng gt) (there h nh ht) (theirs g x ng gt gg) (theirs h x nh ht hg)
    ]
  ];
}
  where
    stay : (g : ℕ) → 1 ≤ on S.cpus g → Stays plan S U g (st.states g)
    stay g more = stays_later plan S U g (st.states g) (st.stands g more) (λ r has. later r.id.0 ((st.stands g more).grips r has).1) (calm g more)

    there : (g : ℕ) → g ≢ f → 1 ≤ on U.cpus g → 1 ≤ on S.cpus g
    there g n more = let is = k.others g n in let same = is.0 in omega arith

    mine : (g x : ℕ) → g ≡ f → Grasps U g (with_state st.states f b g) x → Grasps U f b x
    mine g x e gg = subst (λ s. Grasps U f s x) (state_here st.states f b) (subst (λ y. Grasps U y (with_state st.states f b y) x) e gg)

    theirs : (g x : ℕ) → (n : g ≢ f) → 1 ≤ on U.cpus g → Grasps U g (with_state st.states f b g) x → Grasps S g (st.states g) x
    theirs g x n more gg = grasped_before plan S U g x (st.states g) (k.others g n).1 (stay g (there g n more)) (subst (λ s. Grasps U g s x) (state_there st.states f b g n) gg)
