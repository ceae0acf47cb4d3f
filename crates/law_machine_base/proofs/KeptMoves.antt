-- The moves of a request that deeds make, each keeping places, lines, targets and kinds in step.
use Rattle.std.proofs.Common.{◌≡◌, ◌≢◌, ℕ, zero, suc, ◌+◌, ◌==◌, ◌<◌, ◌≤◌, Bool, true, false, List, [], ◌∷◌, ◌++◌, ◌⊎◌, inl, inr, drop, length, count_by, refl, ap, sym, ◌∙◌, arith}
use Rattle.wdf_base.specs.declared.object.Place.{Place}
use Rattle.wdf_base.specs.declared.object.Place.TheVariants as place
use Rattle.wdf_base.specs.Places.{is_done, is_queued_in, is_sent_to}
use Rattle.std.proofs.lemmas.Bool.{eqb-true}
use Rattle.wdf_model.specs.declared.entries.Request.{Request}
use Rattle.wdf_model.specs.Tables.{entry, without, flag, same_id}
use Rattle.wdf_model.specs.parts.Tree.{Tree}
use Rattle.wdf_model.specs.parts.Requests.{Requests, has_arrived, moved, no_request, place_of, request_of, with_request}
use Rattle.wdf_model.specs.parts.Requests as requests
use Rattle.wdf_model.specs.parts.Queues.{Queues, front, waiting_in, with_waiting}
use Rattle.wdf_model.specs.parts.Queues as queues
use Rattle.wdf_model.specs.parts.Targets.{Target, Targets, no_target, the_target, with_target}
use Rattle.wdf_model.proofs.Maps.{entry_map, entry_put_other, entry_put_same, put_short}
use Rattle.wdf_model.proofs.Counts.{at_head, at_tail, equal, flag_yes, front_leaves, it_leaves, not_equal, one_or_two, others_stay}
use Rattle.law_machine_base.proofs.Kept.{Kept, arrived, forgets, is_made_place, is_request, kept_by_move, sends, stands}

-- ---- places

-- neither in a line nor at a target
abbrev pub is_still : Place → Bool
is_still (place.Queued q) = false
is_still (place.Sent t) = false
is_still _ = true

pub still_unqueued : (q : ℕ) (p : Place) → is_still p ≡ true → is_queued_in q p ≡ false
still_unqueued q (place.Queued r) h = absurd (let z : ⊥ = cc in z)
still_unqueued q _ h = refl

pub still_unsent : (t : ℕ) (p : Place) → is_still p ≡ true → is_sent_to t p ≡ false
still_unsent t (place.Sent u) h = absurd (let z : ⊥ = cc in z)
still_unsent t _ h = refl

pub queued_unsent : (q t : ℕ) (p : Place) → is_queued_in q p ≡ true → is_sent_to t p ≡ false
queued_unsent q t (place.Sent u) h = absurd (let z : ⊥ = cc in z)
queued_unsent q t _ h = refl

-- a request is in one line only
pub queued_once : (q p : ℕ) (x : Place) → is_queued_in q x ≡ true → p ≢ q → is_queued_in p x ≡ false
queued_once q p (place.Queued r) h n = not_equal r.0 p (λ e. n (sym e ∙ eqb-true r.0 q h))
queued_once q p _ h n = refl

-- ---- readers after a change

pub request_here : (R : Requests) (r : ℕ) (f : Request → Request) → request_of (with_request R r f) r ≡ f (request_of R r)
request_here R r f = entry_put_same no_request R.all r (f (request_of R r))

pub request_elsewhere : (R : Requests) (r x : ℕ) (f : Request → Request) → x ≢ r → request_of (with_request R r f) x ≡ request_of R x
request_elsewhere R r x f n = entry_put_other no_request R.all r x (f (request_of R r)) n

-- what isn't done, or arrived, is an entry
within_list : (xs : List Request) (r : ℕ) → is_done (entry no_request xs r).place ≡ false → r < length xs
within_list [] r h = absurd (let z : ⊥ = cc in z)
within_list (x ∷ xs) zero h = omega arith
within_list (x ∷ xs) (suc r) h = let e = within_list xs r h in omega arith

pub within : (R : Requests) (r : ℕ) → is_done (place_of R r) ≡ false → r < length R.all
within R r h = within_list R.all r h

arrived_in_list : (xs : List Request) (r : ℕ) → has_arrived (entry no_request xs r) ≡ true → r < length xs
arrived_in_list [] r h = absurd (let z : ⊥ = cc in z)
arrived_in_list (x ∷ xs) zero h = omega arith
arrived_in_list (x ∷ xs) (suc r) h = let e = arrived_in_list xs r h in omega arith

pub arrived_within : (R : Requests) (r : ℕ) → arrived R r ≡ true → r < length R.all
arrived_within R r h = arrived_in_list R.all r h

pub queue_here : (Q : Queues) (q : ℕ) (f : List ℕ → List ℕ) → waiting_in (with_waiting Q q f) q ≡ f (waiting_in Q q)
queue_here Q q f = entry_put_same [] Q.waiting q (f (waiting_in Q q))

pub queue_elsewhere : (Q : Queues) (q p : ℕ) (f : List ℕ → List ℕ) → p ≢ q → waiting_in (with_waiting Q q f) p ≡ waiting_in Q p
queue_elsewhere Q q p f n = entry_put_other [] Q.waiting q p (f (waiting_in Q q)) n

pub target_here : (T : Targets) (t : ℕ) (f : Target → Target) → the_target (with_target T t f) t ≡ f (the_target T t)
target_here T t f = entry_put_same no_target T.targets t (f (the_target T t))

pub target_elsewhere : (T : Targets) (t u : ℕ) (f : Target → Target) → u ≢ t → the_target (with_target T t f) u ≡ the_target T u
target_elsewhere T t u f n = entry_put_other no_target T.targets t u (f (the_target T t)) n

-- ---- what is alike

pub same_requests : {F B : ℕ → Bool} {R R' : Requests} {Q : Queues} {T : Targets} {N : Tree} → Kept F B R Q T N → ((x : ℕ) → place_of R' x ≡ place_of R x) → ((x : ℕ) → arrived R' x ≡ arrived R x)
    → length R'.all ≤ length N.nodes → Kept F B R' Q T N
same_requests k places arrivals room = record {
  queued = λ q x. rw (places x) (k.queued q x);
  sent = λ t x. rw (places x) (k.sent t x);
  room = room;
  kinds = λ x h. arrivals x ∙ k.kinds x h;
  made = λ x h. rw (places x) (k.made x (sym (arrivals x) ∙ h));
  returns = λ t x h. k.returns t x (sym (arrivals x) ∙ h);
  ended = λ x h. rw (places x) (k.ended x h);
  numbered = k.numbered;
  begun = λ x h. k.begun x (sym (arrivals x) ∙ h);
}

pub same_lines : {F B : ℕ → Bool} {R : Requests} {Q Q' : Queues} {T : Targets} {N : Tree} → Kept F B R Q T N → ((q : ℕ) → waiting_in Q' q ≡ waiting_in Q q) → Kept F B R Q' T N
same_lines k queues = record {
  queued = λ q x. rw (queues q) (k.queued q x);
  sent = k.sent;
  room = k.room;
  kinds = k.kinds;
  made = k.made;
  returns = k.returns;
  ended = k.ended;
  numbered = k.numbered;
  begun = k.begun;
}

pub same_targets : {F B : ℕ → Bool} {R : Requests} {Q : Queues} {T T' : Targets} {N : Tree} → Kept F B R Q T N → ((t : ℕ) → (the_target T' t).sent ≡ (the_target T t).sent) → Kept F B R Q T' N
same_targets k targets = record {
  queued = k.queued;
  sent = λ t x. rw (targets t) (k.sent t x);
  room = k.room;
  kinds = k.kinds;
  made = k.made;
  returns = λ t x h. rw (targets t) (k.returns t x h);
  ended = k.ended;
  numbered = k.numbered;
  begun = k.begun;
}

pub same_tree : {F B : ℕ → Bool} {R : Requests} {Q : Queues} {T : Targets} {N N' : Tree} → Kept F B R Q T N → ((x : ℕ) → is_request N' x ≡ true → is_request N x ≡ true) → length N.nodes ≤ length N'.nodes
    → Kept F B R Q T N'
same_tree k kinds longer = record {
  queued = k.queued;
  sent = k.sent;
  room = let r = k.room in omega arith;
  kinds = λ x h. k.kinds x (kinds x h);
  made = k.made;
  returns = k.returns;
  ended = k.ended;
  numbered = λ x h. let within = k.numbered x h in omega arith;
  begun = k.begun;
}

-- a request whose mark or cancel changes
pub marks_change : {F B : ℕ → Bool} {R : Requests} {Q : Queues} {T : Targets} {N : Tree} (r : ℕ) (f : Request → Request) → Kept F B R Q T N → r < length R.all
    → ((q : Request) → (f q).place ≡ q.place) → ((q : Request) → has_arrived (f q) ≡ has_arrived q) → Kept F B (with_request R r f) Q T N
marks_change {F} {B} {R} r f k inside places arrivals = same_requests k
    (λ x. elim (one_or_two x r) [
      | inl e ↦ rw e (ap (λ (q : Request). q.place) (request_here R r f) ∙ places (request_of R r))
      | inr n ↦ ap (λ (q : Request). q.place) (request_elsewhere R r x f n)
    ])
    (λ x. elim (one_or_two x r) [
      | inl e ↦ rw e (ap has_arrived (request_here R r f) ∙ arrivals (request_of R r))
      | inr n ↦ ap has_arrived (request_elsewhere R r x f n)
    ])
    (let room = k.room in put_short no_request R.all r (f (request_of R r)) _ (omega arith) room)

-- ---- a request that is there moves

pub move_request : {F B : ℕ → Bool} {R : Requests} {Q Q' : Queues} {T T' : Targets} {N : Tree} (r : ℕ) (p : Place) → Kept F B R Q T N → is_done (place_of R r) ≡ false
    → (arrived R r ≡ false → is_made_place p ≡ true)
    → ((q x : ℕ) → x ≢ r → stands Q' q x ≡ stands Q q x) → ((q : ℕ) → stands Q' q r ≡ flag (is_queued_in q p))
    → ((t x : ℕ) → x ≢ r → sends T' t x ≡ sends T t x) → ((t : ℕ) → sends T' t r ≡ flag (is_sent_to t p))
    → ((t x : ℕ) → x ≢ r → forgets T' t x ≤ forgets T t x) → ((t : ℕ) → arrived R r ≡ false → forgets T' t r ≡ 0)
    → Kept F B (requests.move_to R r p) Q' T' N
move_request {F} {B} {R} {Q} {Q'} {T} {T'} {N} r p k there made queues line targets target others returns = kept_by_move {r = r} {p = p} k (record {
  elsewhere = λ x n. ap (λ (q : Request). q.place) (request_elsewhere R r x (moved p) n);
  here = ap (λ (q : Request). q.place) (request_here R r (moved p));
  arrivals = λ x n. ap has_arrived (request_elsewhere R r x (moved p) n);
  room = let room = k.room in let inside = within R r there in put_short no_request R.all r (moved p (request_of R r)) (length N.nodes) (omega arith) room;
  other_kinds = λ x n h. h;
  kind = λ h. ap has_arrived (request_here R r (moved p)) ∙ k.kinds r h;
  other_lines = queues;
  line = line;
  other_targets = targets;
  target = target;
  made = λ h. made (sym (ap has_arrived (request_here R r (moved p))) ∙ h);
  other_returns = others;
  returns = λ t h. returns t (sym (ap has_arrived (request_here R r (moved p))) ∙ h);
  longer = omega arith;
  unended = λ h. absurd (let done_ = k.ended r h in let z : ⊥ = cc in z);
  begun = λ h. k.begun r (sym (ap has_arrived (request_here R r (moved p))) ∙ h);
})

-- from a place to another, where it is in no line and at no target
pub still_move : {F B : ℕ → Bool} {R : Requests} {Q : Queues} {T : Targets} {N : Tree} (r : ℕ) (p : Place) → Kept F B R Q T N → is_done (place_of R r) ≡ false → is_still (place_of R r) ≡ true → is_still p ≡ true
    → (arrived R r ≡ false → is_made_place p ≡ true) → Kept F B (requests.move_to R r p) Q T N
still_move {F} {B} {R} {Q} {T} {N} r p k there old new made = move_request r p k there made
    (λ q x n. refl)
    (λ q. k.queued q r ∙ ap flag (still_unqueued q (place_of R r) old ∙ sym (still_unqueued q p new)))
    (λ t x n. refl)
    (λ t. k.sent t r ∙ ap flag (still_unsent t (place_of R r) old ∙ sym (still_unsent t p new)))
    (λ t x n. omega arith)
    (λ t h. k.returns t r h)

-- ---- lines

-- a line that one request enters
pub record Enters (Q Q' : Queues) (q r : ℕ) : Type 0 where
  pub here : (x : ℕ) → stands Q' q x ≡ stands Q q x + flag (r == x)
  pub elsewhere : (p x : ℕ) → p ≢ q → stands Q' p x ≡ stands Q p x

pub tail_enters : (Q : Queues) (q r : ℕ) → Enters Q (queues.enter Q q r) q r
tail_enters Q q r = record {
  here = λ x. ap (λ (ws : List ℕ). count_by (λ y. y == x) ws) (queue_here Q q (λ ws. ws ++ r ∷ [])) ∙ at_tail x r (waiting_in Q q);
  elsewhere = λ p x n. ap (λ (ws : List ℕ). count_by (λ y. y == x) ws) (queue_elsewhere Q q p (λ ws. ws ++ r ∷ []) n);
}

head_counts : (Q : Queues) (q r x : ℕ) → count_by (λ y. y == x) (r ∷ waiting_in Q q) ≡ stands Q q x + flag (r == x)
head_counts Q q r x = let e = at_head x r (waiting_in Q q) in omega arith

pub head_enters : (Q : Queues) (q r : ℕ) → Enters Q (queues.requeue Q q r) q r
head_enters Q q r = record {
  here = λ x. ap (λ (ws : List ℕ). count_by (λ y. y == x) ws) (queue_here Q q (λ ws. r ∷ ws)) ∙ head_counts Q q r x;
  elsewhere = λ p x n. ap (λ (ws : List ℕ). count_by (λ y. y == x) ws) (queue_elsewhere Q q p (λ ws. r ∷ ws) n);
}

-- what an entry does to the others, and to the request, which stood nowhere
pub enters_others : {Q Q' : Queues} {q r : ℕ} → Enters Q Q' q r → (p x : ℕ) → x ≢ r → (p ≡ q) ⊎ (p ≢ q) → stands Q' p x ≡ stands Q p x
enters_others {Q} {Q'} {q} {r} e p x n (inl same) = rw same (let here = e.here x in let no : flag (r == x) ≡ 0 = ap flag (not_equal r x (λ f. n (sym f))) in omega arith)
enters_others e p x n (inr other) = e.elsewhere p x other

pub enters_once : {Q Q' : Queues} {q r : ℕ} → Enters Q Q' q r → ((p : ℕ) → stands Q p r ≡ 0) → (p : ℕ) → (p ≡ q) ⊎ (p ≢ q) → stands Q' p r ≡ flag (q == p)
enters_once {Q} {Q'} {q} {r} e none p (inl same) =
    rw same (let here = e.here r in let zero_ = none q in let yes : flag (r == r) ≡ 1 = ap flag (equal r r refl) in let one : flag (q == q) ≡ 1 = ap flag (equal q q refl) in omega arith)
enters_once {Q} {Q'} {q} {r} e none p (inr other) = e.elsewhere p r other ∙ none p ∙ sym (ap flag (not_equal q p (λ f. other (sym f))))

pub enter_line : {F B : ℕ → Bool} {R : Requests} {Q Q' : Queues} {T : Targets} {N : Tree} (q r : ℕ) → Kept F B R Q T N → is_done (place_of R r) ≡ false → is_still (place_of R r) ≡ true → arrived R r ≡ true
    → Enters Q Q' q r → Kept F B (requests.move_to R r (place.Queued (record { 0 = q }))) Q' T N
enter_line {F} {B} {R} {Q} {Q'} {T} {N} q r k there old came e = move_request r (place.Queued (record { 0 = q })) k there
    (λ h. absurd (let z : ⊥ = cc in z))
    (λ p x n. enters_others e p x n (one_or_two p q))
    (λ p. enters_once e (λ o. k.queued o r ∙ ap flag (still_unqueued o (place_of R r) old)) p (one_or_two p q))
    (λ t x n. refl)
    (λ t. k.sent t r ∙ ap flag (still_unsent t (place_of R r) old))
    (λ t x n. omega arith)
    (λ t h. k.returns t r h)

-- a request leaves the line that it is in
pub leave_line : {F B : ℕ → Bool} {R : Requests} {Q Q' : Queues} {T : Targets} {N : Tree} (r : ℕ) (p : Place) → Kept F B R Q T N → is_done (place_of R r) ≡ false → ((t : ℕ) → is_sent_to t (place_of R r) ≡ false)
    → is_still p ≡ true → (arrived R r ≡ false → is_made_place p ≡ true) → ((q x : ℕ) → x ≢ r → stands Q' q x ≡ stands Q q x) → ((q : ℕ) → stands Q' q r ≡ 0)
    → Kept F B (requests.move_to R r p) Q' T N
leave_line {F} {B} {R} {Q} {Q'} {T} {N} r p k there unsent new made others gone_ = move_request r p k there made
    others
    (λ q. gone_ q ∙ sym (ap flag (still_unqueued q p new)))
    (λ t x n. refl)
    (λ t. k.sent t r ∙ ap flag (unsent t ∙ sym (still_unsent t p new)))
    (λ t x n. omega arith)
    (λ t h. k.returns t r h)

-- the front of a queue's line is Queued there
pub front_queued : {F B : ℕ → Bool} {R : Requests} {Q : Queues} {T : Targets} {N : Tree} (q r : ℕ) → Kept F B R Q T N → same_id (front Q q) r ≡ true → is_queued_in q (place_of R r) ≡ true
front_queued {F} {B} {R} {Q} q r k h =
    let e = front_leaves r r (waiting_in Q q) h in
    let yes : flag (r == r) ≡ 1 = ap flag (equal r r refl) in
    let is = k.queued q r in
    flag_yes (is_queued_in q (place_of R r)) (count_by (λ x. x == r) (drop 1 (waiting_in Q q))) (omega arith)

behind_front : {F B : ℕ → Bool} {R : Requests} {Q : Queues} {T : Targets} {N : Tree} (q r x : ℕ) → Kept F B R Q T N → same_id (front Q q) r ≡ true → x ≢ r
    → count_by (λ y. y == x) (drop 1 (waiting_in Q q)) ≡ stands Q q x
behind_front {F} {B} {R} {Q} q r x k h n =
    let e = front_leaves x r (waiting_in Q q) h in
    let no : flag (r == x) ≡ 0 = ap flag (not_equal r x (λ f. n (sym f))) in
    omega arith

no_more_behind : {F B : ℕ → Bool} {R : Requests} {Q : Queues} {T : Targets} {N : Tree} (q r : ℕ) → Kept F B R Q T N → same_id (front Q q) r ≡ true → count_by (λ y. y == r) (drop 1 (waiting_in Q q)) ≡ 0
no_more_behind {F} {B} {R} {Q} q r k h =
    let e = front_leaves r r (waiting_in Q q) h in
    let yes : flag (r == r) ≡ 1 = ap flag (equal r r refl) in
    let is = k.queued q r in
    let one : flag (is_queued_in q (place_of R r)) ≡ 1 = ap flag (front_queued q r k h) in
    omega arith

front_others : {F B : ℕ → Bool} {R : Requests} {Q : Queues} {T : Targets} {N : Tree} (q r : ℕ) → Kept F B R Q T N → same_id (front Q q) r ≡ true → (p x : ℕ) → x ≢ r → (p ≡ q) ⊎ (p ≢ q)
    → stands (queues.take Q q) p x ≡ stands Q p x
front_others {F} {B} {R} {Q} q r k h p x n (inl same) =
    rw same
    (ap (λ (ws : List ℕ). count_by (λ y. y == x) ws) (queue_here Q q (drop 1))
    ∙ behind_front q r x k h n)
front_others {F} {B} {R} {Q} q r k h p x n (inr other) =
    ap (λ (ws : List ℕ). count_by (λ y. y == x) ws) (queue_elsewhere Q q p (drop 1) other)

front_gone : {F B : ℕ → Bool} {R : Requests} {Q : Queues} {T : Targets} {N : Tree} (q r : ℕ) → Kept F B R Q T N → same_id (front Q q) r ≡ true → (p : ℕ) → (p ≡ q) ⊎ (p ≢ q) → stands (queues.take Q q) p r ≡ 0
front_gone {F} {B} {R} {Q} q r k h p (inl same) =
    rw same
    (ap (λ (ws : List ℕ). count_by (λ y. y == r) ws) (queue_here Q q (drop 1))
    ∙ no_more_behind q r k h)
front_gone {F} {B} {R} {Q} q r k h p (inr other) =
    ap (λ (ws : List ℕ). count_by (λ y. y == r) ws) (queue_elsewhere Q q p (drop 1) other)
    ∙ k.queued p r ∙ ap flag (queued_once q p (place_of R r) (front_queued q r k h) other)

queued_undone : (q : ℕ) (p : Place) → is_queued_in q p ≡ true → is_done p ≡ false
queued_undone q place.Done h = absurd (let z : ⊥ = cc in z)
queued_undone q _ h = refl

-- the front becomes Owned
pub present_front : {F B : ℕ → Bool} {R : Requests} {Q : Queues} {T : Targets} {N : Tree} (q r : ℕ) → Kept F B R Q T N → same_id (front Q q) r ≡ true → Kept F B (requests.move_to R r place.Owned) (queues.take Q q) T N
present_front {F} {B} {R} {Q} {T} {N} q r k h =
    let here : is_queued_in q (place_of R r) ≡ true = front_queued q r k h in
    leave_line r place.Owned k (queued_undone q (place_of R r) here) (λ t. queued_unsent q t (place_of R r) here) refl (λ _. refl)
    (λ p x n. front_others q r k h p x n (one_or_two p q)) (λ p. front_gone q r k h p (one_or_two p q))

cancelled_line : (Q : Queues) (r p : ℕ) → waiting_in (queues.take_cancelled Q r) p ≡ without r (waiting_in Q p)
cancelled_line Q r p = entry_map [] Q.waiting (without r) p refl

-- a request leaves its line, wherever it is
pub withdraw_from_line : {F B : ℕ → Bool} {R : Requests} {Q : Queues} {T : Targets} {N : Tree} (r : ℕ) (p : Place) → Kept F B R Q T N → is_done (place_of R r) ≡ false → ((t : ℕ) → is_sent_to t (place_of R r) ≡ false)
    → is_still p ≡ true → (arrived R r ≡ false → is_made_place p ≡ true) → Kept F B (requests.move_to R r p) (queues.take_cancelled Q r) T N
withdraw_from_line {F} {B} {R} {Q} r p k there unsent new made = leave_line r p k there unsent new made
    (λ q x n. ap (λ (ws : List ℕ). count_by (λ y. y == x) ws) (cancelled_line Q r q) ∙ others_stay x r (waiting_in Q q) (λ e. n (sym e)))
    (λ q. ap (λ (ws : List ℕ). count_by (λ y. y == r) ws) (cancelled_line Q r q) ∙ it_leaves r (waiting_in Q q))
