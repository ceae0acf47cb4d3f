-- A request is completed once, after it arrived.
use Rattle.std.proofs.Common.{◌≡◌, ℕ, suc, ◌==◌, ◌≤◌, Bool, true, false, ◌&&◌, List, [], ◌∷◌, ◌++◌, Option, Some, None, take, count_by, slice_get, refl, sym, ap, subst, ◌∙◌, arith}
use Rattle.std.specs.List.{list_any}
use Rattle.wdf_base.specs.Meaning.{Meaning}
use Rattle.wdf_base.specs.declared.ids.Handle.{Handle}
use Rattle.wdf_base.specs.declared.plan.Plan.{Plan}
use Rattle.wdf_base.specs.declared.value.Value.TheVariants.{Num, Obj, Stat}
use Rattle.wdf_base.specs.declared.call.Arg.{Arg}
use Rattle.wdf_base.specs.declared.call.Arg.TheVariants.{Val, Class}
use Rattle.wdf_base.specs.declared.call.CallKind.TheVariants as call
use Rattle.wdf_base.specs.declared.event.Event.{Event}
use Rattle.wdf_base.specs.declared.event.Event.TheVariants as event
use Rattle.wdf_base.specs.declared.event.Post.{Post}
use Rattle.wdf_base.specs.declared.event.Post.TheVariants as post
use Rattle.wdf_base.specs.Same.{same_call_kind}
use Rattle.wdf_model.specs.State.{object_in}
use Rattle.wdf_model.specs.rules.Ready.{IsRunOf, ready}
use Rattle.law_machine_base.specs.OverRuns.{CompletedOnce, arrives, completes, is_answer}
use Rattle.wdf_base.specs.Posts.{is_request}
use Rattle.wdf_model.proofs.Runs.{run_front, take_next}
use Rattle.law_machine_base.proofs.LawsOverRuns.{completed_once}
use Rattle.wdf_model.proofs.Tests.{itself}
use Rattle.wdf_laws.specs.declared.sign.Sign.TheVariants as sign
use Rattle.wdf_laws.specs.Signs.{shows}
use Rattle.wdf_laws.specs.Words.{ever}
use Rattle.wdf_laws.specs.Events.{argument_object, brought_to, completed, id_in, is_id, is_there, where_so}
use Rattle.wdf_laws.specs.Laws.{completes_once}
use Rattle.law_machine_lives.proofs.Choices.{and_not}
use Rattle.law_trace_once.proofs.Words.{any_weaker, counted_twice, ever_is}

-- ---- an arrival shows its sign

answered : (r : ℕ) (answer : Option Handle) → is_answer r answer ≡ true → is_id r (id_in answer) ≡ true
answered r None h = h
answered r (Some x) h = h

arrival_shows_post : (r : ℕ) (p : Post) (answer : Option Handle) → (is_request p && is_answer r answer) ≡ true → is_id r (where_so (is_there (brought_to p)) (id_in answer)) ≡ true
arrival_shows_post r (post.Read device length) answer h = answered r answer h
arrival_shows_post r (post.Write device length) answer h = answered r answer h
arrival_shows_post r (post.Control device code length) answer h = answered r answer h
arrival_shows_post r _ answer h = h

pub arrival_shows : (r : ℕ) (e : Event) → arrives r e ≡ true → shows (sign.Arrival r) e ≡ true
arrival_shows r (event.Posted agent p answer) h = arrival_shows_post r p answer h
arrival_shows r _ h = absurd (let z : ⊥ = cc in z)

-- ---- what shows a completion is one

completed_call : (r : ℕ) (b : Bool) (a : Arg) → is_id r (where_so b (argument_object a)) ≡ true → (b && object_in a == r) ≡ true
completed_call r true (Val (Obj h)) e = e
completed_call r true (Val (Num n)) e = absurd (let z : ⊥ = cc in z)
completed_call r true (Val (Stat s)) e = absurd (let z : ⊥ = cc in z)
completed_call r true (Class c) e = absurd (let z : ⊥ = cc in z)
completed_call r false a e = absurd (let z : ⊥ = cc in z)

pub completion_completes : (r : ℕ) (e : Event) → shows (sign.Completion r) e ≡ true → completes r e ≡ true
completion_completes r (event.Did cpu c v) h = completed_call r (same_call_kind c.kind call.WdfRequestComplete) c.a h
completion_completes r (event.Complete q s) h = h
completion_completes r _ h = absurd (let z : ⊥ = cc in z)

-- ---- the law

never_before : (r : ℕ) (before : List Event) (e : Event) → completes r e ≡ true → count_by (completes r) (before ++ e ∷ []) ≤ 1 → (b : Bool) → ever (sign.Completion r) before ≡ b → b ≡ false
never_before r before e c most false h = refl
never_before r before e c most true h =
    let found : list_any (completes r) before ≡ true = any_weaker (shows (sign.Completion r)) (completes r) (completion_completes r) before (sym (ever_is (sign.Completion r) before) ∙ h) in
    let twice = counted_twice (completes r) before e found c in
    absurd (omega arith)

completes_by : {A : Type 0} (plan : Plan) (m : Meaning A) (run : List Event) (k : ℕ) (e : Event) → IsRunOf plan m run → slice_get run k ≡ Some e → (x : Option ℕ) → completed e ≡ x
    → completes_once (take k run) x ≡ true
completes_by plan m run k e is_run at None h = refl
completes_by plan m run k e is_run at (Some r) h =
    let shown : shows (sign.Completion r) e ≡ true = ap (is_id r) h ∙ itself r in
    let c : completes r e ≡ true = completion_completes r e shown in
    let front : CompletedOnce (take (suc k) run) = completed_once plan m (take (suc k) run) (run_front (ready plan m) run (suc k) is_run) in
    let most : count_by (completes r) (take k run ++ e ∷ []) ≤ 1 = subst (λ es. count_by (completes r) es ≤ 1) (take_next run k e at) (front.once r) in
    let came : ever (sign.Arrival r) (take k run) ≡ true = ever_is (sign.Arrival r) (take k run) ∙ any_weaker (arrives r) (shows (sign.Arrival r)) (arrival_shows r) (take k run) ((completed_once plan m run is_run).after k r e at c) in
    and_not (ever (sign.Arrival r) (take k run)) (ever (sign.Completion r) (take k run)) came (never_before r (take k run) e c most (ever (sign.Completion r) (take k run)) refl)

pub completes_at_each : {A : Type 0} (plan : Plan) (m : Meaning A) (run : List Event) (k : ℕ) (e : Event) → IsRunOf plan m run → slice_get run k ≡ Some e
    → completes_once (take k run) (completed e) ≡ true
completes_at_each plan m run k e is_run at = completes_by plan m run k e is_run at (completed e) refl
