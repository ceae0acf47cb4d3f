-- The ranks that one callback has, and what tests of equality say.
use Rattle.std.proofs.Common.{◌≡◌, ◌==◌, Bool, true, ◌&&◌, Option, Some, None, refl, ap, rules}
use Rattle.std.specs.Bool.{Decides}
use Rattle.std.proofs.lemmas.Bool.{eqb-true}
use Rattle.wdf_base.specs.Callbacks.{row_of}
use Rattle.wdf_base.specs.Same.{same_action, same_ask, same_handle, same_option, same_post, same_status}
use Rattle.wdf_base.specs.declared.call.Callback.{Callback}
use Rattle.wdf_base.specs.declared.call.Callback.TheVariants as callback
use Rattle.wdf_base.specs.declared.event.Action.{Action}
use Rattle.wdf_base.specs.declared.event.Post.{Post}
use Rattle.wdf_base.specs.declared.event.Post.TheVariants as post
use Rattle.wdf_base.specs.declared.rank.Rank.TheVariants as rank
use Rattle.wdf_model.proofs.Sames.{handle_same, status_decides}
use Rattle.wdf_model.proofs.Tests.{both_left, both_right}
use Rattle.law_machine_counts.proofs.Sames.{ask_decides}

pub isr_only : (c : Callback) → (row_of c).rank ≡ rank.Isr → c ≡ callback.EvtInterruptIsr
isr_only callback.EvtInterruptIsr h = refl
isr_only _ h = absurd (let z : ⊥ = cc in z)

pub timer_only : (c : Callback) → (row_of c).rank ≡ rank.Timed → c ≡ callback.EvtTimerFunc
timer_only callback.EvtTimerFunc h = refl
timer_only _ h = absurd (let z : ⊥ = cc in z)

pub state_only : (c : Callback) → (row_of c).rank ≡ rank.QueueState → c ≡ callback.EvtIoQueueState
state_only callback.EvtIoQueueState h = refl
state_only _ h = absurd (let z : ⊥ = cc in z)

pub work_only : (c : Callback) → (row_of c).rank ≡ rank.Work → c ≡ callback.EvtWorkItem
work_only callback.EvtWorkItem h = refl
work_only _ h = absurd (let z : ⊥ = cc in z)

pub cleanup_only : (c : Callback) → (row_of c).rank ≡ rank.Cleanup → c ≡ callback.EvtCleanupCallback
cleanup_only callback.EvtCleanupCallback h = refl
cleanup_only _ h = absurd (let z : ⊥ = cc in z)

pub destroy_only : (c : Callback) → (row_of c).rank ≡ rank.Destroy → c ≡ callback.EvtDestroyCallback
destroy_only callback.EvtDestroyCallback h = refl
destroy_only _ h = absurd (let z : ⊥ = cc in z)

pub completion_only : (c : Callback) → (row_of c).rank ≡ rank.Completion → c ≡ callback.EvtRequestCompletion
completion_only callback.EvtRequestCompletion h = refl
completion_only _ h = absurd (let z : ⊥ = cc in z)

pub cancel_only : (c : Callback) → (row_of c).rank ≡ rank.Cancel → c ≡ callback.EvtRequestCancel
cancel_only callback.EvtRequestCancel h = refl
cancel_only _ h = absurd (let z : ⊥ = cc in z)

pub canceled_only : (c : Callback) → (row_of c).rank ≡ rank.CanceledOnQueue → c ≡ callback.EvtIoCanceledOnQueue
canceled_only callback.EvtIoCanceledOnQueue h = refl
canceled_only _ h = absurd (let z : ⊥ = cc in z)

pub stop_only : (c : Callback) → (row_of c).rank ≡ rank.Stop → c ≡ callback.EvtIoStop
stop_only callback.EvtIoStop h = refl
stop_only _ h = absurd (let z : ⊥ = cc in z)

pub resume_only : (c : Callback) → (row_of c).rank ≡ rank.Resume → c ≡ callback.EvtIoResume
resume_only callback.EvtIoResume h = refl
resume_only _ h = absurd (let z : ⊥ = cc in z)

-- ---- tests of equality

pub some_same : {T : Type 0} (same : T → T → Bool) → ((a b : T) → same a b ≡ true → a ≡ b) → (x : Option T) (y : T) → same_option same x (Some y) ≡ true → x ≡ Some y
some_same same is None y h = absurd (let z : ⊥ = cc in z)
some_same same is (Some x) y h = ap Some (is x y h)

action_decides : (a b : Action) → Decides (same_action a b) (a ≡ b)
action_decides a b = search rules

pub post_is : (a b : Post) → same_post a b ≡ true → a ≡ b
post_is (post.Read d l) (post.Read e k) h =
    let x : d ≡ e = handle_same d e (both_left (same_handle d e) (l == k) h) in
    let y : l ≡ k = eqb-true l k (both_right (same_handle d e) (l == k) h) in
    cc
post_is (post.Read d l) _ h = absurd (let z : ⊥ = cc in z)
post_is (post.Write d l) (post.Write e k) h =
    let x : d ≡ e = handle_same d e (both_left (same_handle d e) (l == k) h) in
    let y : l ≡ k = eqb-true l k (both_right (same_handle d e) (l == k) h) in
    cc
post_is (post.Write d l) _ h = absurd (let z : ⊥ = cc in z)
post_is (post.Control d c l) (post.Control e b k) h =
    let front = both_left (same_handle d e && (c == b)) (l == k) h in
    let x : d ≡ e = handle_same d e (both_left (same_handle d e) (c == b) front) in
    let w : c ≡ b = eqb-true c b (both_right (same_handle d e) (c == b) front) in
    let y : l ≡ k = eqb-true l k (both_right (same_handle d e && (c == b)) (l == k) h) in
    cc
post_is (post.Control d c l) _ h = absurd (let z : ⊥ = cc in z)
post_is (post.Cancel n) (post.Cancel k) h = let x : n ≡ k = eqb-true n k h in cc
post_is (post.Cancel n) _ h = absurd (let z : ⊥ = cc in z)
post_is (post.Ask a d) (post.Ask b e) h =
    let x : a ≡ b = (ask_decides a b).0 (both_left (same_ask a b) (same_handle d e) h) in
    let y : d ≡ e = handle_same d e (both_right (same_ask a b) (same_handle d e) h) in
    cc
post_is (post.Ask a d) _ h = absurd (let z : ⊥ = cc in z)
post_is (post.Act a) (post.Act b) h = let x : a ≡ b = (action_decides a b).0 h in cc
post_is (post.Act a) _ h = absurd (let z : ⊥ = cc in z)
post_is (post.Done r s) (post.Done q t) h =
    let x : r ≡ q = handle_same r q (both_left (same_handle r q) (same_status s t) h) in
    let y : s ≡ t = (status_decides s t).0 (both_right (same_handle r q) (same_status s t) h) in
    cc
post_is (post.Done r s) _ h = absurd (let z : ⊥ = cc in z)
