-- A device ends after the completion of each request that arrived for it.
use Rattle.std.proofs.Common.{◌≡◌, ◌≢◌, ℕ, zero, suc, ◌+◌, ◌<◌, ◌≤◌, ◌==◌, Bool, true, false, not, ◌||◌, List, [], ◌∷◌, ◌++◌, ◌⊎◌, inl, inr, Option, Some, None, drop, slice_get, take, refl, sym, ap, subst, ◌∙◌, arith}
use Rattle.std.proofs.lemmas.Bool.{cases_Bool, eqb-true}
use Rattle.std.proofs.Math.Bool.{or-true}
use Rattle.wdf_base.specs.Meaning.{Meaning}
use Rattle.wdf_base.specs.declared.ids.Cpu.{Cpu}
use Rattle.wdf_base.specs.declared.ids.Handle.{Handle}
use Rattle.wdf_base.specs.declared.plan.Plan.{Plan}
use Rattle.wdf_base.specs.declared.value.Value.{Value}
use Rattle.wdf_base.specs.declared.value.Value.TheVariants.{Obj}
use Rattle.wdf_base.specs.declared.object.Kind.{Kind}
use Rattle.wdf_base.specs.declared.object.Kind.TheVariants as kind
use Rattle.wdf_base.specs.declared.object.Life.{Life}
use Rattle.wdf_base.specs.declared.call.Arg.{Arg}
use Rattle.wdf_base.specs.declared.call.Arg.TheVariants.{Val}
use Rattle.wdf_base.specs.declared.call.Call.{Call}
use Rattle.wdf_base.specs.declared.call.CallKind.{CallKind}
use Rattle.wdf_base.specs.declared.call.CallKind.TheVariants as call
use Rattle.wdf_base.specs.declared.event.Event.{Event}
use Rattle.wdf_base.specs.declared.event.Event.TheVariants as event
use Rattle.wdf_base.specs.declared.event.Fault.TheVariants as fault
use Rattle.wdf_base.specs.declared.event.Post.{Post}
use Rattle.wdf_base.specs.declared.signature.Sort.TheVariants as sort
use Rattle.wdf_base.specs.Calls.{signature_of}
use Rattle.wdf_base.specs.Same.{same_call_kind, same_kind}
use Rattle.wdf_base.specs.Lives.{is_asked, is_gone}
use Rattle.wdf_base.specs.Places.{is_done}
use Rattle.wdf_model.specs.parts.Tree.{kind_of, life_of, next_id}
use Rattle.wdf_model.specs.parts.Requests.{Requests, place_of, request_of}
use Rattle.wdf_model.specs.parts.Requests as requests
use Rattle.wdf_model.specs.State.{State, object_in}
use Rattle.wdf_model.specs.rules.Calls.{is_met_then}
use Rattle.wdf_model.specs.rules.Faults.{View, is_wrong_kind}
use Rattle.wdf_model.specs.rules.Starts.{clean_ready, is_finished}
use Rattle.wdf_model.specs.rules.Steps.{after, deeds, may, view_of}
use Rattle.wdf_model.specs.rules.Ready.{IsRunOf, ready, state_after}
use Rattle.law_machine_base.specs.FactsOfEvents.{IsTick}
use Rattle.law_machine_base.specs.OverRuns.{completes}
use Rattle.wdf_model.proofs.Runs.{along_run, in_front, run_front, take-take-below, take_ended, take_next}
use Rattle.law_machine_base.proofs.Follows.{follows, state_goes_on}
use Rattle.wdf_model.proofs.Tests.{both, both_left, both_right, itself, right_so}
use Rattle.wdf_model.proofs.Counts.{equal, one_or_two}
use Rattle.law_machine_base.proofs.Fits.{wrong_kind_of_first}
use Rattle.law_machine_base.proofs.FitsOfEvents.{event_fits}
use Rattle.law_machine_base.proofs.LawsOverRuns.{Completing}
use Rattle.law_machine_base.proofs.LawsOverRuns as laws_over_runs
use Rattle.law_machine_base.proofs.OwnEvents.{did_tells, waiting_tells}
use Rattle.wdf_model.proofs.Sames.{call_kind_decides}
use Rattle.law_machine_counts.proofs.StillFrames.{asked_there}
use Rattle.law_machine_lives.proofs.Keeping.{comes, known_now}
use Rattle.wdf_laws.specs.declared.sign.Sign.{Sign}
use Rattle.wdf_laws.specs.declared.sign.Sign.TheVariants as sign
use Rattle.wdf_laws.specs.declared.sign.Told.{Told}
use Rattle.wdf_laws.specs.Events.{argument_object, brought_to, completed, destroyed, id_in, is_id, is_there, or_none, told, told_of, where_so}
use Rattle.wdf_laws.specs.Family.{first_told}
use Rattle.wdf_laws.specs.Laws.{completes_once, ends_after_requests, is_completed, is_settled, law_1}
use Rattle.wdf_laws.specs.Signs.{shows}
use Rattle.wdf_laws.specs.Words.{ever}
use Rattle.law_trace_once.proofs.Words.{ever_next, never_yet}
use Rattle.law_trace_once.proofs.Completions.{completes_at_each}
use Rattle.law_trace_once.proofs.Ends.{cleans, cleanup_tells, told_at_each}
use Rattle.law_machine_deeds.specs.MayDo.{completing}
use Rattle.law_machine_deeds.proofs.Walk.{event_may}
use Rattle.law_trace_families.proofs.Families.{Family, family_at_each, one_event, told_later, told_still}
use Rattle.law_trace_families.proofs.Gone.{cleaned_told, ever_now, ever_still}
use Rattle.law_trace_families.proofs.Orders.{all_by, child_gone, cleanup_of, earlier_or_later, ever_later, late_by, makes_at, take_drop}
use Rattle.law_trace_families.proofs.Undone.{completed_one, deeds_finish, finished, none_complete}

-- ---- what is finished was completed

-- an argument that is no wrong kind of the sort of a request names its object
pub names : (v : View) (a : Arg) → is_wrong_kind v (sort.ObjectOf kind.Request) a ≡ false → argument_object a ≡ Some (object_in a)
names v (Val (Obj h)) e = refl
names v _ e = absurd (let z : ⊥ = cc in z)

-- the completion of one request leaves the others
others_finished : {A : Type 0} (plan : Plan) (m : Meaning A) (S : State A) (e : Event) (r x : ℕ) → may plan m S e ≡ true → completes r e ≡ true → x ≢ r → finished (after plan m S e).requests x ≡ true → finished S.requests x ≡ true
others_finished plan m S e r x h c n k =
    let done : Completing plan S e r = laws_over_runs.completing plan m S e r h c in
    completed_one S.requests r x n (sym (ap (λ (R : Requests). finished R x) done.done) ∙ k)

by_call : {A : Type 0} (plan : Plan) (m : Meaning A) (S : State A) (k : Cpu) (c : Call) (v : Value) (x : ℕ) → may plan m S (event.Did k c v) ≡ true → same_call_kind c.kind call.WdfRequestComplete ≡ true
    → finished (after plan m S (event.Did k c v)).requests x ≡ true → (finished S.requests x ≡ true) ⊎ (shows (sign.Completion x) (event.Did k c v) ≡ true)
by_call plan m S k c v x h is fin = elim (one_or_two x (object_in c.a)) [
  | inl e ↦
      let d = did_tells plan m S k c v h in
      let kind_is : c.kind ≡ call.WdfRequestComplete = (call_kind_decides c.kind call.WdfRequestComplete).0 is in
      let right : is_wrong_kind (view_of plan S k.0 d.frame) (signature_of c.kind).a c.a ≡ false = wrong_kind_of_first (view_of plan S k.0 d.frame) c (d.about.clean fault.WrongKind) in
      let so : is_wrong_kind (view_of plan S k.0 d.frame) (sort.ObjectOf kind.Request) c.a ≡ false = subst (λ y. is_wrong_kind (view_of plan S k.0 d.frame) (signature_of y).a c.a ≡ false) kind_is right in
      let named : argument_object c.a ≡ Some (object_in c.a) = names (view_of plan S k.0 d.frame) c.a so in
      inr (ap (λ b. is_id x (where_so b (argument_object c.a))) is ∙ ap (is_id x) named ∙ equal (object_in c.a) x (sym e))
  | inr n ↦ inl (others_finished plan m S (event.Did k c v) (object_in c.a) x h (both (same_call_kind c.kind call.WdfRequestComplete) (object_in c.a == object_in c.a) is (itself (object_in c.a))) n fin)
]

quietly : {A : Type 0} (plan : Plan) (m : Meaning A) (S : State A) (e : Event) (x : ℕ) → may plan m S e ≡ true → completing e ≡ false → finished (after plan m S e).requests x ≡ true → finished S.requests x ≡ true
quietly plan m S e x h off fin = deeds_finish plan x (deeds plan S e) S (event_fits plan m S e h) (none_complete e (deeds plan S e) x off (event_may plan S e)) fin

-- a completion doesn't wait
waits_never : {A : Type 0} (plan : Plan) (S : State A) (c : Call) → is_met_then plan S c ≡ false → (b : Bool) → same_call_kind c.kind call.WdfRequestComplete ≡ b → b ≡ false
waits_never plan S c unmet false e = refl
waits_never plan S c unmet true e =
    let kind_is : c.kind ≡ call.WdfRequestComplete = (call_kind_decides c.kind call.WdfRequestComplete).0 e in
    absurd (met c.kind c.count c.a c.b c.c kind_is unmet)
  where
    met : (k : CallKind) (n : ℕ) (a b x : Arg) → k ≡ call.WdfRequestComplete → is_met_then plan S (record { kind = k; count = n; a = a; b = b; c = x }) ≡ false → ⊥
    met k n a b x e no_ = let yes_ : true ≡ false = subst (λ y. is_met_then plan S (record { kind = y; count = n; a = a; b = b; c = x }) ≡ false) e no_ in let z : ⊥ = cc in z

finishes : {A : Type 0} (plan : Plan) (m : Meaning A) (S : State A) (e : Event) (x : ℕ) → may plan m S e ≡ true → finished (after plan m S e).requests x ≡ true → (finished S.requests x ≡ true) ⊎ (shows (sign.Completion x) e ≡ true)
finishes plan m S (event.Did k c v) x h fin = elim (cases_Bool (same_call_kind c.kind call.WdfRequestComplete)) [
  | inl is ↦ by_call plan m S k c v x h is fin
  | inr other ↦ inl (quietly plan m S (event.Did k c v) x h other fin)
]
finishes plan m S (event.Complete q s) x h fin = elim (one_or_two x q.id.0) [
  | inl e ↦ inr (equal q.id.0 x (sym e))
  | inr n ↦ inl (others_finished plan m S (event.Complete q s) q.id.0 x h (itself q.id.0) n fin)
]
finishes plan m S (event.Waiting k c) x h fin = inl (quietly plan m S (event.Waiting k c) x h (waits_never plan S c (waiting_tells plan m S k c h).unmet (same_call_kind c.kind call.WdfRequestComplete) refl) fin)
finishes plan m S (event.Start cpu c o r) x h fin = inl (quietly plan m S (event.Start cpu c o r) x h refl fin)
finishes plan m S (event.Local cpu line) x h fin = inl (quietly plan m S (event.Local cpu line) x h refl fin)
finishes plan m S (event.Log cpu v) x h fin = inl (quietly plan m S (event.Log cpu v) x h refl fin)
finishes plan m S (event.Spend cpu n) x h fin = inl (quietly plan m S (event.Spend cpu n) x h refl fin)
finishes plan m S (event.Register cpu a b v) x h fin = inl (quietly plan m S (event.Register cpu a b v) x h refl fin)
finishes plan m S (event.Woke cpu c v) x h fin = inl (quietly plan m S (event.Woke cpu c v) x h refl fin)
finishes plan m S (event.Park cpu f) x h fin = inl (quietly plan m S (event.Park cpu f) x h refl fin)
finishes plan m S (event.Unpark cpu f) x h fin = inl (quietly plan m S (event.Unpark cpu f) x h refl fin)
finishes plan m S (event.End cpu c o v) x h fin = inl (quietly plan m S (event.End cpu c o v) x h refl fin)
finishes plan m S (event.Fault cpu f line) x h fin = inl (quietly plan m S (event.Fault cpu f line) x h refl fin)
finishes plan m S (event.Stage d s i) x h fin = inl (quietly plan m S (event.Stage d s i) x h refl fin)
finishes plan m S (event.Cleanup o) x h fin = inl (quietly plan m S (event.Cleanup o) x h refl fin)
finishes plan m S (event.Destroy o) x h fin = inl (quietly plan m S (event.Destroy o) x h refl fin)
finishes plan m S (event.Posted agent p answer) x h fin = inl (quietly plan m S (event.Posted agent p answer) x h refl fin)
finishes plan m S (event.Tick time) x h fin = inl (quietly plan m S (event.Tick time) x h refl fin)

abbrev FinishedTold : {A : Type 0} → List Event → State A → Type 0
FinishedTold es S = (x : ℕ) → finished S.requests x ≡ true → ever (sign.Completion x) es ≡ true

finished_goes_on : {A : Type 0} (plan : Plan) (m : Meaning A) (es : List Event) (S : State A) (offered : List Event) (e : Event) → (may plan m S e ≡ true) ⊎ IsTick m S offered e
    → FinishedTold es S → FinishedTold (es ++ e ∷ []) (after plan m S e)
finished_goes_on plan m es S offered e (inl h) k = λ x fin. elim (finishes plan m S e x h fin) [
  | inl was ↦ ever_still (sign.Completion x) es e (k x was)
  | inr now_ ↦ ever_now (sign.Completion x) es e now_
]
finished_goes_on plan m es S offered e (inr t) k =
    subst (λ y. FinishedTold (es ++ y ∷ []) (after plan m S y)) (sym t.tick) (λ x fin. ever_still (sign.Completion x) es (event.Tick (S.clock + 1)) (k x fin))

finished_opens : {A : Type 0} (plan : Plan) (m : Meaning A) → FinishedTold [] (state_after plan m [])
unfolding state_after
finished_opens plan m x fin = absurd (let z : ⊥ = cc in z)

pub finished_at_each : {A : Type 0} (plan : Plan) (m : Meaning A) (run : List Event) → IsRunOf plan m run → (n : ℕ) → FinishedTold (take n run) (state_after plan m (take n run))
finished_at_each {A} plan m run is_run n = along_run (λ es. FinishedTold es (state_after plan m es)) (ready plan m) run (finished_opens plan m)
    (λ before e place so_far held at. subst (λ (T : State A). FinishedTold (before ++ e ∷ []) T) (sym (state_goes_on plan m before e))
    (finished_goes_on plan m before (state_after plan m before) (ready plan m before) e (follows plan m before place e at) held))
    is_run n

-- ---- a request is completed before its cleanup

-- where a sign came before a place, it came at one
ever_place_by : (s : Sign) (run : List Event) (k : ℕ) (found : Option Event) → slice_get run k ≡ found → ((ever s (take k run) ≡ true) → (i : ℕ) × (i < k) × ((e : Event) × (slice_get run i ≡ Some e) × (shows s e ≡ true)))
    → ever s (take (suc k) run) ≡ true → (i : ℕ) × (i < suc k) × ((e : Event) × (slice_get run i ≡ Some e) × (shows s e ≡ true))
ever_place_by s run k None at before h = let p = before (subst (λ es. ever s es ≡ true) (take_ended run k at) h) in (p.0, (let l = p.1 in omega arith), p.2)
ever_place_by s run k (Some e) at before h = elim (cases_Bool (ever s (take k run))) [
  | inl was ↦ let p = before was in (p.0, (let l = p.1 in omega arith), p.2)
  | inr new ↦
      let told_ : (ever s (take k run) || shows s e) ≡ true = sym (ever_next s (take k run) e) ∙ subst (λ es. ever s es ≡ true) (take_next run k e at) h in
      (k, omega arith, (e, at, right_so (ever s (take k run)) (shows s e) new told_))
]

pub ever_place : (s : Sign) (run : List Event) (k : ℕ) → ever s (take k run) ≡ true → (i : ℕ) × (i < k) × ((e : Event) × (slice_get run i ≡ Some e) × (shows s e ≡ true))
ever_place s run zero h = absurd (let no_ = never_yet s in let z : ⊥ = cc in z)
ever_place s run (suc k) h = ever_place_by s run k (slice_get run k) refl (ever_place s run k) h

-- what an event told is told first from then on
pub told_from : {A : Type 0} (plan : Plan) (m : Meaning A) (run : List Event) (j n : ℕ) (e : Event) (t : Told) → IsRunOf plan m run → slice_get run j ≡ Some e → told plan e ≡ Some t → j < n → first_told plan (take n run) t.object ≡ Some t
told_from {A} plan m run j n e t is_run at h before =
    let S : State A = state_after plan m (take j run) in
    let f : Family plan (take j run) S.tree = family_at_each plan m run is_run j in
    let made = makes_at plan m run j e t is_run at h in
    let none : first_told plan (take j run) t.object ≡ None = new (first_told plan (take j run) t.object) refl f made.next in
    let first_ : first_told plan (take j run ++ e ∷ []) t.object ≡ Some t = told_later plan (take j run) (e ∷ []) t.object none ∙ alone_ in
    let then_ : first_told plan (take (suc j) run) t.object ≡ Some t = subst (λ es. first_told plan es t.object ≡ Some t) (sym (take_next run j e at)) first_ in
    let parts : take (suc j) run ++ drop (suc j) (take n run) ≡ take n run = ap (λ es. es ++ drop (suc j) (take n run)) (sym (take-take-below run n (suc j) (omega arith))) ∙ take_drop (suc j) (take n run) in
    subst (λ es. first_told plan es t.object ≡ Some t) parts (told_still plan (take (suc j) run) (drop (suc j) (take n run)) t.object t then_)
  where
    new : (was : Option Told) → first_told plan (take j run) t.object ≡ was → Family plan (take j run) (state_after plan m (take j run)).tree → t.object ≡ next_id (state_after plan m (take j run)).tree → was ≡ None
    new None k f next = refl
    new (Some u) k f next = absurd (let within = (f.after t.object u k).1 in let z : ⊥ = omega arith in z)

    alone_ : first_told plan (e ∷ []) t.object ≡ Some t
    alone_ = one_event plan e t h

asked_is : {A : Type 0} (S : State A) (r : ℕ) → clean_ready S r ≡ true → kind_of S.tree r ≡ kind.Request → is_done (place_of S.requests r) ≡ true
asked_is S r h k =
    let fin : is_finished S r ≡ true = search (both_left, both_right) in
    let first_ : (not (same_kind (kind_of S.tree r) kind.Request) || is_done (place_of S.requests r)) ≡ true = both_left (not (same_kind (kind_of S.tree r) kind.Request) || is_done (place_of S.requests r)) _ fin in
    by (kind_of S.tree r) k first_
  where
    by : (x : Kind) → x ≡ kind.Request → (not (same_kind x kind.Request) || is_done (place_of S.requests r)) ≡ true → is_done (place_of S.requests r) ≡ true
    by x e w = subst (λ y. (not (same_kind y kind.Request) || is_done (place_of S.requests r)) ≡ true) e w

-- an object that arrived and was cleaned up was completed before
completed_first : {A : Type 0} (plan : Plan) (m : Meaning A) (run : List Event) (j k : ℕ) (e : Event) (t : Told) → IsRunOf plan m run → slice_get run j ≡ Some e → told plan e ≡ Some t → t.class ≡ None
    → ever (sign.Cleaned t.object) (take k run) ≡ true → ever (sign.Completion t.object) (take k run) ≡ true
completed_first {A} plan m run j k e t is_run at h none done =
    let r : ℕ = t.object in
    let place_ = ever_place (sign.Cleaned r) run k done in
    let i : ℕ = place_.0 in
    let o = cleanup_of r place_.2.0 place_.2.2 in
    let here : slice_get run i ≡ Some (event.Cleanup o.0) = place_.2.1 ∙ ap Some o.1 in
    let S : State A = state_after plan m (take i run) in
    let may_ : may plan m S (event.Cleanup o.0) ≡ true = comes plan m run i (event.Cleanup o.0) is_run here (λ time x. let z : ⊥ = cc in z) in
    let ready_ : clean_ready S o.0.id.0 ≡ true = cleanup_ready plan m S o.0 may_ in
    let asked : is_asked (life_of S.tree r) ≡ true = subst (λ y. is_asked (life_of S.tree y) ≡ true) o.2 (cleans plan m S o.0 may_) in
    elim (earlier_or_later i j) [
      | inl early ↦
          let first_ : first_told plan (take i run) r ≡ Some t = told_from plan m run j i e t is_run at h early in
          let f : Family plan (take i run) S.tree = family_at_each plan m run is_run i in
          let is : kind_of S.tree r ≡ kind.Request = (f.told r t first_ (asked_there_ (life_of S.tree r) asked)).2 none in
          let there : is_done (place_of S.requests r) ≡ true = asked_is S r (subst (λ y. clean_ready S y ≡ true) o.2 ready_) is in
          let came : requests.has_arrived (request_of S.requests r) ≡ true = (known_now plan m (take i run) (run_front (ready plan m) run i is_run)).kinds r (ap (λ y. same_kind y kind.Request) is) in
          let fin : finished S.requests r ≡ true = both (requests.has_arrived (request_of S.requests r)) (is_done (place_of S.requests r)) came there in
          ever_later (sign.Completion r) run i k (let l = place_.1 in omega arith) (finished_at_each plan m run is_run i r fin)
      | inr late ↦ absurd (later late o here)
    ]
  where
    asked_there_ : (l : Life) → is_asked l ≡ true → is_gone l ≡ false
    asked_there_ l h = asked_there l h

    cleanup_ready : (plan : Plan) (m : Meaning A) (S : State A) (o : Handle) → may plan m S (event.Cleanup o) ≡ true → clean_ready S o.id.0 ≡ true
    cleanup_ready plan m S o h = search (both_left, both_right)

    later : {i : ℕ} → i ≤ j → {x : Event} (o : (o : Handle) × (x ≡ event.Cleanup o) × (o.id.0 ≡ t.object)) → slice_get run i ≡ Some (event.Cleanup o.0) → ⊥
    later {i} late o here = elim (one_or_two i j) [
      | inl same ↦
          let it : e ≡ event.Cleanup o.0 = (let s : Some e ≡ Some (event.Cleanup o.0) = sym at ∙ ap (slice_get run) (sym same) ∙ here in let z : e ≡ event.Cleanup o.0 = cc in z) in
          let no_ : None ≡ Some t = subst (λ y. told plan y ≡ Some t) it h in
          let z : ⊥ = cc in z
      | inr apart ↦
          let now_ : ever (sign.Cleaned t.object) (take (suc i) run) ≡ true = subst (λ es. ever (sign.Cleaned t.object) es ≡ true) (sym (take_next run i (event.Cleanup o.0) here)) (ever_now (sign.Cleaned t.object) (take i run) (event.Cleanup o.0) (equal o.0.id.0 t.object o.2)) in
          let then_ : ever (sign.Cleaned t.object) (take j run) ≡ true = ever_later (sign.Cleaned t.object) run (suc i) j (omega arith) now_ in
          let within = (told_at_each _ sign.Cleaned plan m (cleanup_tells plan m) run is_run j t.object then_).1 in
          let next = (makes_at plan m run j e t is_run at h).next in
          let z : ⊥ = omega arith in z
    ]

-- ---- the law

brought_told : (plan : Plan) (agent : ℕ) (p : Post) (x : Handle) (d : ℕ) → brought_to p ≡ Some d → told plan (event.Posted agent p (Some x)) ≡ Some (record { object = x.id.0; parent = d; class = None })
brought_told plan agent p x d h = ap (λ b. law_told b x) h
  where
    law_told : Option ℕ → Handle → Option Told
    law_told b x = told_of (or_none b) None (where_so (is_there b) (id_in (Some x)))

settled_request : {A : Type 0} (plan : Plan) (m : Meaning A) (run : List Event) (k j : ℕ) (o x : Handle) (agent : ℕ) (p : Post) → IsRunOf plan m run → slice_get run k ≡ Some (event.Destroy o) → j < k → slice_get run j ≡ Some (event.Posted agent p (Some x)) → brought_to p ≡ Some o.id.0
    → ever (sign.Completion x.id.0) (take k run) ≡ true
settled_request {A} plan m run k j o x agent p is_run end early at to =
    let t : Told = record { object = x.id.0; parent = o.id.0; class = None } in
    let h : told plan (event.Posted agent p (Some x)) ≡ Some t = brought_told plan agent p x o.id.0 to in
    let first_ : first_told plan (take k run) x.id.0 ≡ Some t = told_from plan m run j k (event.Posted agent p (Some x)) t is_run at h early in
    let f : Family plan (take k run) (state_after plan m (take k run)).tree = family_at_each plan m run is_run k in
    let off : is_gone (life_of (state_after plan m (take k run)).tree x.id.0) ≡ true = child_gone plan m run k x.id.0 o is_run end (inr (t, first_)) (λ there. (f.told x.id.0 t first_ there).0) in
    completed_first plan m run j k (event.Posted agent p (Some x)) t is_run at h refl
    (cleaned_told plan m run is_run k x.id.0 (inr (t, first_)) (late_by (life_of (state_after plan m (take k run)).tree x.id.0) off))

settled_by : {A : Type 0} (plan : Plan) (m : Meaning A) (run : List Event) (k j : ℕ) (o : Handle) (agent : ℕ) (p : Post) (answer : Option Handle) → IsRunOf plan m run → slice_get run k ≡ Some (event.Destroy o) → j < k → slice_get run j ≡ Some (event.Posted agent p answer)
    → (b : Bool) → is_id o.id.0 (brought_to p) ≡ b → (to : Option ℕ) → brought_to p ≡ to → (not (is_id o.id.0 to) || is_completed (take k run) (where_so (is_there to) (id_in answer))) ≡ true
settled_by plan m run k j o agent p answer is_run end early at b e None to = refl
settled_by plan m run k j o agent p None is_run end early at b e (Some d) to = or-true (not (d == o.id.0))
settled_by plan m run k j o agent p (Some x) is_run end early at false e (Some d) to = let off : (d == o.id.0) ≡ false = sym (ap (is_id o.id.0) to) ∙ e in rw off refl
settled_by plan m run k j o agent p (Some x) is_run end early at true e (Some d) to =
    let it : (d == o.id.0) ≡ true = sym (ap (is_id o.id.0) to) ∙ e in
    let done : ever (sign.Completion x.id.0) (take k run) ≡ true = settled_request plan m run k j o x agent p is_run end early at (to ∙ ap Some (eqb-true d o.id.0 it)) in
    rw it done

settled_event : {A : Type 0} (plan : Plan) (m : Meaning A) (run : List Event) (k j : ℕ) (o : Handle) (e : Event) → IsRunOf plan m run → slice_get run k ≡ Some (event.Destroy o) → j < k → slice_get run j ≡ Some e → is_settled (take k run) o.id.0 e ≡ true
settled_event plan m run k j o (event.Posted agent p answer) is_run end early at = settled_by plan m run k j o agent p answer is_run end early at (is_id o.id.0 (brought_to p)) refl (brought_to p) refl
settled_event plan m run k j o _ is_run end early at = refl

after_requests : {A : Type 0} (plan : Plan) (m : Meaning A) (run : List Event) (k : ℕ) (e : Event) → IsRunOf plan m run → slice_get run k ≡ Some e → ends_after_requests (take k run) (destroyed e) ≡ true
after_requests plan m run k (event.Destroy o) is_run at =
    all_by (is_settled (take k run) o.id.0) (take k run) (λ j e here. let p = in_front run k j e here in settled_event plan m run k j o e is_run at p.0 p.1)
after_requests plan m run k _ is_run at = refl

pub law_1_at_each : {A : Type 0} (plan : Plan) (m : Meaning A) (run : List Event) (k : ℕ) (e : Event) → IsRunOf plan m run → slice_get run k ≡ Some e → law_1 (take k run) e ≡ true
law_1_at_each plan m run k e is_run at =
    both (completes_once (take k run) (completed e)) (ends_after_requests (take k run) (destroyed e)) (completes_at_each plan m run k e is_run at) (after_requests plan m run k e is_run at)
