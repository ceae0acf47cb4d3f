-- A finished run has nothing left that is open.
use Rattle.std.proofs.Common.{if◌then◌else◌, ◌≡◌, inl, inr, ℕ, zero, suc, ◌==◌, ◌<◌, Bool, true, false, not, ◌&&◌, ◌||◌, nat_lt, List, [], ◌∷◌, Option, Some, None, is_some, filter, length, count_by, refl, ap, ◌∙◌, arith}
use Rattle.std.specs.List.{list_all, range_with_len}
use Rattle.wdf_base.specs.Meaning.{Meaning}
use Rattle.wdf_base.specs.declared.plan.Plan.{Plan}
use Rattle.wdf_base.specs.declared.event.Event.{Event}
use Rattle.wdf_base.specs.declared.event.Ending.TheVariants as ending
use Rattle.wdf_base.specs.declared.event.Step.{Step}
use Rattle.wdf_base.specs.declared.object.Place.{Place}
use Rattle.wdf_base.specs.declared.object.Place.TheVariants as place
use Rattle.wdf_base.specs.Lives.{is_asked, is_cleaned, is_gone}
use Rattle.wdf_base.specs.Places.{is_done, is_sent}
use Rattle.wdf_model.specs.declared.entries.Node.{Node}
use Rattle.wdf_model.specs.Tables.{entry}
use Rattle.wdf_model.specs.Plans.{devices_of}
use Rattle.wdf_model.specs.parts.Tree.{gone, life_of}
use Rattle.wdf_model.specs.parts.Cpus.{all_frames, frame_of}
use Rattle.wdf_model.specs.parts.Requests.{has_arrived, no_request, place_of, request_of}
use Rattle.wdf_model.specs.parts.Pnp.{is_running_step, running_step, steps_left}
use Rattle.wdf_model.specs.parts.Deferred.Timers.{timer_due}
use Rattle.wdf_model.specs.parts.Deferred.Dpcs.{is_dpc_queued}
use Rattle.wdf_model.specs.parts.Deferred.WorkItems.{is_work_queued}
use Rattle.wdf_model.specs.State.{State}
use Rattle.wdf_model.specs.rules.Posts.{due_of}
use Rattle.wdf_model.specs.rules.Ready.{IsRunOf, ending_of, is_leaving, is_open, is_open_post, is_open_request, is_open_work, open_devices, open_objects, open_requests, open_work, state_after}
use Rattle.law_machine_base.specs.Agreement.{is_step_frame, steps_agree}
use Rattle.wdf_model.proofs.Tests.{both_left, both_right, either_false}
use Rattle.law_machine_counts.proofs.StepsOverRuns.{steps_agree_at_each}
use Rattle.law_stuck_causes.specs.Left.{NothingLeft}
use Rattle.law_stuck_causes.proofs.Members.{Has, has_id, has_range, no_length, none_passes}
use Rattle.law_stuck_causes.proofs.Endings.{at_rest, at_the_end}

-- ---- entries

-- what the blank entry doesn't pass, an entry past the end doesn't
fails_by : {T : Type 0} (blank : T) (p : T → Bool) (xs : List T) (n : ℕ) → p blank ≡ false → ((x : ℕ) → x < length xs → p (entry blank xs x) ≡ false) → p (entry blank xs n) ≡ false
fails_by blank p [] n off h = off
fails_by blank p (x ∷ xs) zero off h = h 0 (omega arith)
fails_by blank p (x ∷ xs) (suc n) off h = fails_by blank p xs n off (λ k low. h (suc k) (omega arith))

-- an entry that isn't blank is there
there_by : {T : Type 0} (blank : T) (p : T → Bool) (xs : List T) (n : ℕ) → p blank ≡ true → p (entry blank xs n) ≡ false → n < length xs
there_by blank p [] n on h = absurd (let z : ⊥ = cc in z)
there_by blank p (x ∷ xs) zero on h = omega arith
there_by blank p (x ∷ xs) (suc n) on h = let less : n < length xs = there_by blank p xs n on h in omega arith

-- ---- tests

open_by : (arrived done sent : Bool) → ((arrived && not done) || (not arrived && sent)) ≡ false → arrived ≡ true → done ≡ true
open_by true true sent h k = refl
open_by true false sent h k = absurd (let z : ⊥ = cc in z)
open_by false done sent h k = absurd (let z : ⊥ = cc in z)

not_sent : (p : Place) → is_done p ≡ true → is_sent p ≡ false
not_sent (place.Sent t) h = absurd (let z : ⊥ = cc in z)
not_sent _ h = refl

sent_by : (p : Place) (arrived : Bool) → ((arrived && not (is_done p)) || (not arrived && is_sent p)) ≡ false → is_sent p ≡ false
sent_by p true h = not_sent p (open_by true (is_done p) (is_sent p) h refl)
sent_by p false h = h

no_step : (s : Option Step) (n : ℕ) → n ≡ 0 → (n == (if is_some s then 1 else 0)) ≡ true → s ≡ None
no_step None n e h = refl
no_step (Some s) n e h = absurd (let k = rw e at h in let z : ⊥ = cc in z)

-- ---- lists of which nothing is kept

kept_none : {A : Type 0} (S : State A) (p : ℕ → Bool) (n x : ℕ) → nat_lt 0 (length (filter p (range_with_len 0 n))) ≡ false → x < n → p x ≡ false
kept_none S p n x h low = none_passes p (range_with_len 0 n) (no_length (filter p (range_with_len 0 n)) h) x (has_range x 0 n (omega arith) (omega arith))

passes_all : (p : ℕ → Bool) (xs : List ℕ) → list_all p xs ≡ true → (x : ℕ) → Has x xs → p x ≡ true
passes_all p [] h x k = absurd k
passes_all p (y ∷ ys) h x (inl e) = ap p e ∙ both_left (p y) (list_all p ys) h
passes_all p (y ∷ ys) h x (inr k) = passes_all p ys (both_right (p y) (list_all p ys) h) x k

-- ---- the law

record Closed (a b c d e f : Bool) : Type 0 where
  frames : a ≡ false
  requests : b ≡ false
  devices : c ≡ false
  objects : d ≡ false
  work : e ≡ false
  posts : f ≡ false

six_false : (a b c d e f : Bool) → (a || b || c || d || e || f) ≡ false → Closed a b c d e f
six_false false false false false false false h = record { frames = refl; requests = refl; devices = refl; objects = refl; work = refl; posts = refl }
six_false true b c d e f h = absurd (let z : ⊥ = cc in z)
six_false false true c d e f h = absurd (let z : ⊥ = cc in z)
six_false false false true d e f h = absurd (let z : ⊥ = cc in z)
six_false false false false true e f h = absurd (let z : ⊥ = cc in z)
six_false false false false false true f h = absurd (let z : ⊥ = cc in z)
six_false false false false false false true h = absurd (let z : ⊥ = cc in z)

three_false : (a b c : Bool) → (a || b || c) ≡ false → (a ≡ false) × (b ≡ false) × (c ≡ false)
three_false false false false h = (refl, refl, refl)
three_false true b c h = absurd (let z : ⊥ = cc in z)
three_false false true c h = absurd (let z : ⊥ = cc in z)
three_false false false true h = absurd (let z : ⊥ = cc in z)

nothing_left : {A : Type 0} (plan : Plan) (m : Meaning A) (S : State A) → is_open plan m S ≡ false → steps_agree plan S ≡ true → NothingLeft plan m S
nothing_left plan m S h agree =
    let closed = six_false (nat_lt 0 (length (all_frames S.cpus))) (nat_lt 0 (length (open_requests S))) (nat_lt 0 (length (open_devices plan S))) (nat_lt 0 (length (open_objects S)))
    (nat_lt 0 (length (open_work S))) (is_open_post S (due_of m S 0)) h in
    let frames : all_frames S.cpus ≡ [] = no_length (all_frames S.cpus) closed.frames in
    let request : (r : ℕ) → is_open_request (request_of S.requests r) ≡ false =
    λ r. fails_by no_request is_open_request S.requests.all r refl (λ x low. kept_none S (λ y. is_open_request (request_of S.requests y)) (length S.requests.all) x closed.requests low) in
    let object : (o : ℕ) → (is_asked (life_of S.tree o) || is_cleaned (life_of S.tree o)) ≡ false =
    λ o. fails_by gone (λ (n : Node). is_asked n.life || is_cleaned n.life) S.tree.nodes o refl (λ x low. kept_none S (is_leaving S) (length S.tree.nodes) x closed.objects low) in
    let work : (o : ℕ) → is_gone (life_of S.tree o) ≡ false → is_open_work S o ≡ false =
    λ o there. kept_none S (is_open_work S) (length S.tree.nodes) o closed.work (there_by gone (λ (n : Node). is_gone n.life) S.tree.nodes o refl there) in
    record {
      frames = frames;
      arrived = λ r is. open_by (has_arrived (request_of S.requests r)) (is_done (place_of S.requests r)) (is_sent (place_of S.requests r)) (request r) is;
      sent = λ r. sent_by (place_of S.requests r) (has_arrived (request_of S.requests r)) (request r);
      asked = λ o. (either_false (is_asked (life_of S.tree o)) (is_cleaned (life_of S.tree o)) (object o)).0;
      cleaned = λ o. (either_false (is_asked (life_of S.tree o)) (is_cleaned (life_of S.tree o)) (object o)).1;
      steps = λ d is. no_length (steps_left S.pnp d)
          (none_passes (λ x. nat_lt 0 (length (steps_left S.pnp x))) (devices_of plan) (no_length (open_devices plan S) closed.devices) d (has_id d (devices_of plan) is));
      running = λ d is. no_step (running_step S.pnp d) (count_by (λ f. is_step_frame d (frame_of S.cpus f)) (all_frames S.cpus)) (rw frames refl)
          (passes_all (λ x. count_by (λ f. is_step_frame x (frame_of S.cpus f)) (all_frames S.cpus) == (if is_running_step S.pnp x then 1 else 0)) (devices_of plan) agree d (has_id d (devices_of plan) is));
      dpcs = λ o there. (three_false (is_dpc_queued S.dpcs o) (is_work_queued S.work_items o) (timer_due S.timers o S.clock) (work o there)).0;
      items = λ o there. (three_false (is_dpc_queued S.dpcs o) (is_work_queued S.work_items o) (timer_due S.timers o S.clock) (work o there)).1;
      timers = λ o there. (three_false (is_dpc_queued S.dpcs o) (is_work_queued S.work_items o) (timer_due S.timers o S.clock) (work o there)).2;
      posts = closed.posts;
    }

pub finished : {A : Type 0} (plan : Plan) (m : Meaning A) (run : List Event) → IsRunOf plan m run → ending_of plan m run ≡ ending.Finished → NothingLeft plan m (state_after plan m run)
finished plan m run is_run ends =
    nothing_left plan m (state_after plan m run) (at_rest plan m run false ends).open_is
    (at_the_end plan m (λ S. steps_agree plan S ≡ true) run (steps_agree_at_each plan m run is_run))
