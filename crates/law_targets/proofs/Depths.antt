-- A target has at most as many requests as its depth.
use Rattle.std.proofs.Common.{◌≡◌, inl, inr, ℕ, suc, ◌+◌, ◌==◌, ◌≤◌, Bool, true, false, not, List, [], ◌∷◌, ◌++◌, count_by, filter, fold, length, map, Option, Some, None, take, refl, sym, ap, subst, ◌∙◌, arith, length-append}
use Rattle.std.specs.Prelude.{is_some}
use Rattle.std.proofs.lemmas.Bool.{ltb-true}
use Rattle.std.proofs.lemmas.List.{length-map}
use Rattle.std.proofs.Math.Seq.{take-length}
use Rattle.wdf_base.specs.Meaning.{Meaning}
use Rattle.wdf_base.specs.Places.{is_sent_to}
use Rattle.wdf_base.specs.declared.event.Event.{Event}
use Rattle.wdf_base.specs.declared.event.Event.TheVariants as event
use Rattle.wdf_base.specs.declared.event.Post.{Post}
use Rattle.wdf_base.specs.declared.event.Post.TheVariants as post
use Rattle.wdf_base.specs.declared.ids.Handle.{Handle}
use Rattle.wdf_base.specs.declared.plan.Plan.{Plan}
use Rattle.wdf_base.specs.declared.value.Status.{Status}
use Rattle.wdf_model.specs.State.{State}
use Rattle.wdf_model.specs.Tables.{flag}
use Rattle.wdf_model.specs.declared.entries.Sending.{Sending}
use Rattle.wdf_model.specs.declared.entries.SentRequest.{SentRequest}
use Rattle.wdf_model.specs.parts.Requests.{place_of}
use Rattle.wdf_model.specs.parts.Targets.{is_at_target, the_target}
use Rattle.wdf_model.specs.rules.Ready.{IsRunOf, ready, state_after}
use Rattle.wdf_model.specs.rules.Steps.{may}
use Rattle.wdf_model.proofs.Counts.{both_fewer, count_behind, count_cons, count_of_one}
use Rattle.wdf_model.proofs.Runs.{along_run}
use Rattle.law_idle.specs.Idling.{time_step}
use Rattle.law_machine_base.specs.OverRuns.{PlacesAgree}
use Rattle.law_machine_base.proofs.Follows.{follows}
use Rattle.law_machine_base.proofs.LawsOverRuns.{places_agree}
use Rattle.law_stack.specs.Words.{Passing, passings}
use Rattle.law_stuck_causes.proofs.Endings.{at_the_end}
use Rattle.law_targets.specs.Targets.{IsTargetAgent, delay_of, depth_of, is_done_by, sends, sent_to}
use Rattle.law_targets.proofs.Hearing.{all_stay}
use Rattle.law_targets.proofs.Kept.{kept, kept_more, kept_one, marked, next, stays}
use Rattle.law_targets.proofs.Runs.{Knows, knows_at, room, spares}
use Rattle.law_targets.proofs.There.{asks, passes, read_counted}
use Rattle.wdf_model.proofs.FrameCounts.{flag_small}

one_left : (s : SentRequest) (xs : List SentRequest) (r : ℕ) (b : Bool) → (s.request.id.0 == r) ≡ b → length (filter (λ (x : SentRequest). not (x.request.id.0 == r)) (s ∷ xs)) + flag (s.request.id.0 == r) ≡ suc (length (filter (λ (x : SentRequest). not (x.request.id.0 == r)) xs))
one_left s xs r true e = rw e (omega arith)
one_left s xs r false e = rw e (omega arith)

-- what is left where a request is taken out
all_left : (xs : List SentRequest) (r : ℕ) → length xs ≤ length (filter (λ (x : SentRequest). not (x.request.id.0 == r)) xs) + count_by (λ (x : SentRequest). x.request.id.0 == r) xs
all_left [] r = omega arith
all_left (s ∷ xs) r =
    let rest = all_left xs r in
    let one = one_left s xs r (s.request.id.0 == r) refl in
    let count = count_cons (λ (x : SentRequest). x.request.id.0 == r) s xs in
    omega (arith, rest, one, count)

new_ones : (t delay now : ℕ) (o : Option Handle) → length (kept_one t delay now o []) ≡ flag (is_some o)
new_ones t delay now None = refl
new_ones t delay now (Some h) = refl

next_long : (t delay now : ℕ) (e : Event) (xs : List SentRequest) → length (next t delay now e xs) ≡ length (filter (stays e) xs) + flag (sends t e)
next_long t delay now e xs =
    length-append (map (marked t e) (filter (stays e) xs)) (kept_one t delay now (sent_to t e) [])
    ∙ ap (λ n. n + length (kept_one t delay now (sent_to t e) [])) (length-map (filter (stays e) xs) (marked t e)) ∙ ap (λ n. length (filter (stays e) xs) + n) (new_ones t delay now (sent_to t e))

no_longer_left : (p : SentRequest → Bool) (xs : List SentRequest) → length (filter p xs) ≤ length xs
no_longer_left p [] = omega arith
no_longer_left p (x ∷ xs) = by_test (p x) refl (no_longer_left p xs)
  where
    by_test : (b : Bool) → p x ≡ b → length (filter p xs) ≤ length xs → length (filter p (x ∷ xs)) ≤ length (x ∷ xs)
    by_test true e rest = rw e (omega (arith, rest))
    by_test false e rest = rw e (omega (arith, rest))

module _ {A : Type 0} (plan : Plan) (m : Meaning A) (k t : ℕ) (is : IsTargetAgent plan m k t) where
  abbrev has : List Event → List SentRequest
  has es = kept t (delay_of plan t) 0 es

  -- the sends and the ends so far
  record Within (es : List Event) : Type 0 where
    few : length (has es) ≤ depth_of plan t
    counted : count_by (sends t) es ≤ count_by (is_done_by k) es + length (has es)

  module _ (es : List Event) (S : State A) (places : PlacesAgree S) (h : Knows plan m k t is es S) where
    -- a request is there once at most
    once : (r : ℕ) → count_by (λ (x : SentRequest). x.request.id.0 == r) (has es) ≤ 1
    once r =
        let a = read_counted (λ (x : SentRequest). x.request.id.0) (λ x. x == r) (has es) in
        let b : count_by (λ x. x == r) (asks (has es)) ≡ count_by (λ x. x == r) (passes (passings t k es)) = ap (count_by (λ x. x == r)) h.alike in
        let c = read_counted (λ (p : Passing). p.request) (λ x. x == r) (passings t k es) in
        let there = h.there r in
        let fewer = both_fewer (λ (s : Sending). s.request.0 == r) (λ s. is_at_target s.outcome) (the_target S.targets t).sent in
        let count = places.sent t r in
        let small = flag_small (is_sent_to t (place_of S.requests r)) in
        omega (arith, a, b, c, there, fewer, count, small)

    done_left : (by : ℕ) (q : Handle) (s : Status) (answer : Option Handle) → may plan m S (event.Posted by (post.Done q s) answer) ≡ true → (mine : Bool) → (by == k) ≡ mine
        → length (has es) ≤ length (filter (λ (x : SentRequest). not (x.request.id.0 == q.id.0)) (has es)) + flag (by == k)
    done_left by q s answer comes true e = let all = all_left (has es) q.id.0 in let one = once q.id.0 in let f : flag (by == k) ≡ 1 = ap flag e in omega (arith, all, one, f)
    done_left by q s answer comes false e = let same = ap length (spares plan m k t is es S places h (event.Posted by (post.Done q s) answer) comes e) in omega (arith, same)

    posts_left : (by : ℕ) (p : Post) (answer : Option Handle) → may plan m S (event.Posted by p answer) ≡ true → length (has es) ≤ length (filter (stays (event.Posted by p answer)) (has es)) + flag (is_done_by k (event.Posted by p answer))
    posts_left by (post.Done q s) answer comes = done_left by q s answer comes (by == k) refl
    posts_left by (post.Cancel j) answer comes = let same = ap length (all_stay (has es)) in omega (arith, same)
    posts_left by (post.Read x n) answer comes = let same = ap length (all_stay (has es)) in omega (arith, same)
    posts_left by (post.Write x n) answer comes = let same = ap length (all_stay (has es)) in omega (arith, same)
    posts_left by (post.Control x c n) answer comes = let same = ap length (all_stay (has es)) in omega (arith, same)
    posts_left by (post.Ask a x) answer comes = let same = ap length (all_stay (has es)) in omega (arith, same)
    posts_left by (post.Act a) answer comes = let same = ap length (all_stay (has es)) in omega (arith, same)

    left : (e : Event) → may plan m S e ≡ true → length (has es) ≤ length (filter (stays e) (has es)) + flag (is_done_by k e)
    left (event.Posted by p answer) comes = posts_left by p answer comes
    left _ comes = let same = ap length (all_stay (has es)) in omega (arith, same)

    finds : (e : Event) → may plan m S e ≡ true → (b : Bool) → sends t e ≡ b → length (has es) ≤ depth_of plan t → length (has es) + flag (sends t e) ≤ depth_of plan t
    finds e comes true sent few =
        let low = ltb-true (length (has es)) (depth_of plan t) (room plan m k t is es S places h e comes sent) in
        let one : flag (sends t e) ≡ 1 = ap flag sent in
        omega (arith, low, one)
    finds e comes false sent few = let none : flag (sends t e) ≡ 0 = ap flag sent in omega (arith, few, none)

    within_by : (e : Event) → length (has es) + flag (sends t e) ≤ depth_of plan t → length (has es) ≤ length (filter (stays e) (has es)) + flag (is_done_by k e) → Within es → Within (es ++ e ∷ [])
    within_by e room_ left_ w =
        let now : ℕ = fold time_step 0 es in
        let long : length (has (es ++ e ∷ [])) ≡ length (filter (stays e) (has es)) + flag (sends t e) = ap length (kept_more t (delay_of plan t) e 0 es) ∙ next_long t (delay_of plan t) now e (has es) in
        let less = no_longer_left (stays e) (has es) in
        let a = count_behind (sends t) es (e ∷ []) in
        let b = count_of_one (sends t) e in
        let c = count_behind (is_done_by k) es (e ∷ []) in
        let d = count_of_one (is_done_by k) e in
        let counted_ = w.counted in
        record { few = omega (arith, room_, long, less); counted = omega (arith, long, a, b, c, d, counted_, left_) }

  pub sent_few : (run : List Event) → IsRunOf plan m run → (n : ℕ) → count_by (sends t) (take n run) ≤ count_by (is_done_by k) (take n run) + depth_of plan t
  sent_few run is_run n =
      let w = along_run Within (ready plan m) run (record { few = omega arith; counted = omega arith })
      (λ before e place so_far held at.
      let S = state_after plan m before in
      let places = at_the_end plan m (λ (T : State A). PlacesAgree T) before (places_agree plan m before so_far) in
      let knows = at_the_end_knows before so_far in
      elim (follows plan m before place e at) [
        | inl comes ↦ within_by before S places knows e (finds before S places knows e comes (sends t e) refl held.few) (left before S places knows e comes) held
        | inr tick ↦ subst (λ x. Within (before ++ x ∷ [])) (sym tick.tick)
            (within_by before S places knows (event.Tick (S.clock + 1)) (let few = held.few in omega (arith, few)) (let same = ap length (all_stay (has before)) in omega (arith, same)) held)
      ])
      is_run n in
      let few = w.few in
      let counted_ = w.counted in
      omega (arith, few, counted_)
    where
      at_the_end_knows : (before : List Event) → IsRunOf plan m before → Knows plan m k t is before (state_after plan m before)
      at_the_end_knows before so_far = subst (λ es. Knows plan m k t is es (state_after plan m es)) (take-length before) (knows_at plan m k t is before so_far (length before))
