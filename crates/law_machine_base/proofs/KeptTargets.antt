-- The moves of a request to a target, at it and back, and the requests that come into being.
use Rattle.std.proofs.Common.{if◌then◌else◌, ◌≡◌, ◌≢◌, ℕ, suc, ◌==◌, Bool, true, false, not, ◌&&◌, List, [], ◌∷◌, ◌++◌, ◌⊎◌, inl, inr, filter, find, length, count_by, refl, ap, sym, ◌∙◌, arith, length-append}
use Rattle.std.proofs.lemmas.Bool.{and_left}
use Rattle.std.proofs.Math.Bool.{and-false}
use Rattle.wdf_base.specs.declared.object.Kind.{Kind}
use Rattle.wdf_base.specs.declared.object.Kind.TheVariants as kind
use Rattle.wdf_base.specs.declared.object.Place.{Place}
use Rattle.wdf_base.specs.declared.object.Place.TheVariants as place
use Rattle.wdf_base.specs.declared.object.RequestInfo.{RequestInfo}
use Rattle.wdf_base.specs.declared.value.Status.{Status}
use Rattle.wdf_base.specs.Same.{same_kind}
use Rattle.wdf_base.specs.Places.{is_done, is_queued_in, is_sent, is_sent_to}
use Rattle.wdf_model.specs.declared.entries.Node.{Node}
use Rattle.wdf_model.specs.declared.entries.Request.{Request}
use Rattle.wdf_model.specs.declared.entries.Sending.{Sending}
use Rattle.wdf_model.specs.Tables.{flag}
use Rattle.wdf_model.specs.parts.Tree.{Tree, gone, new_node, next_id}
use Rattle.wdf_model.specs.parts.Tree as tree
use Rattle.wdf_model.specs.parts.Requests.{Requests, has_arrived, no_request, place_of, request_of}
use Rattle.wdf_model.specs.parts.Requests as requests
use Rattle.wdf_model.specs.parts.Queues.{Queues}
use Rattle.wdf_model.specs.parts.Targets.{Target, Targets, done_sending, is_forgotten, is_forgotten_sending, new_sending, no_target, sending_in_order, target_done, the_target, without_sending}
use Rattle.wdf_model.specs.parts.Targets as targets
use Rattle.wdf_model.specs.rules.Deeds.{finished_at}
use Rattle.wdf_model.proofs.Maps.{entry_before, entry_last, entry_map, entry_past, entry_put_other, entry_put_same, put_short}
use Rattle.wdf_model.proofs.Counts.{by_request, differs, done_asks, equal, filter_less, forgotten_counts, found_at_its_target, it_comes_back, left_over, less_left, not_equal, one_is_sent, one_left, one_or_two, others_left, others_stay_sent}
use Rattle.law_machine_base.proofs.Kept.{Kept, arrived, forgets, is_made_place, kept_by_move, sends, stands}
use Rattle.law_machine_base.proofs.KeptMoves.{is_still, move_request, still_unqueued, still_unsent, target_elsewhere, target_here}

-- ---- a request is sent

sent_others : (T : Targets) (t r : ℕ) (forget : Bool) (test : ℕ → Sending → Bool) (u x : ℕ) → test x (new_sending r forget) ≡ false → (u ≡ t) ⊎ (u ≢ t)
    → count_by (test x) (the_target (targets.send T t r forget) u).sent ≡ count_by (test x) (the_target T u).sent
sent_others T t r forget test u x differs_ (inl same) =
    rw same
    (ap (λ (y : Target). count_by (test x) y.sent) (target_here T t (λ y. record y { sent = sending_in_order (new_sending r forget) y.sent }))
    ∙ one_is_sent (test x) (new_sending r forget) (the_target T t).sent
    ∙ (let e : flag (test x (new_sending r forget)) ≡ 0 = ap flag differs_ in omega arith))
sent_others T t r forget test u x differs_ (inr other) =
    ap (λ (y : Target). count_by (test x) y.sent) (target_elsewhere T t u (λ y. record y { sent = sending_in_order (new_sending r forget) y.sent }) other)

sent_once : (T : Targets) (t r : ℕ) (forget : Bool) → ((u : ℕ) → sends T u r ≡ 0) → (u : ℕ) → (u ≡ t) ⊎ (u ≢ t) → sends (targets.send T t r forget) u r ≡ flag (t == u)
sent_once T t r forget none u (inl same) =
    rw same
    (ap (λ (y : Target). count_by (λ s. s.request.0 == r) y.sent) (target_here T t (λ y. record y { sent = sending_in_order (new_sending r forget) y.sent }))
    ∙ one_is_sent (λ s. s.request.0 == r) (new_sending r forget) (the_target T t).sent
    ∙ (let zero_ = none t in let yes : flag (r == r) ≡ 1 = ap flag (equal r r refl) in let one : flag (t == t) ≡ 1 = ap flag (equal t t refl) in omega arith))
sent_once T t r forget none u (inr other) =
    ap (λ (y : Target). count_by (λ s. s.request.0 == r) y.sent) (target_elsewhere T t u (λ y. record y { sent = sending_in_order (new_sending r forget) y.sent }) other)
    ∙ none u ∙ sym (ap flag (not_equal t u (λ f. other (sym f))))

pub send_request : {F B : ℕ → Bool} {R : Requests} {Q : Queues} {T : Targets} {N : Tree} (r t : ℕ) (forget : Bool) → Kept F B R Q T N → is_done (place_of R r) ≡ false → is_still (place_of R r) ≡ true
    → (arrived R r ≡ false → forget ≡ false) → Kept F B (requests.move_to R r (place.Sent (record { 0 = t }))) Q (targets.send T t r forget) N
send_request {F} {B} {R} {Q} {T} {N} r t forget k there old comes = move_request r (place.Sent (record { 0 = t })) k there
    (λ _. refl)
    (λ q x n. refl)
    (λ q. k.queued q r ∙ ap flag (still_unqueued q (place_of R r) old))
    (λ u x n. sent_others T t r forget (λ y s. s.request.0 == y) u x (not_equal r x (λ e. n (sym e))) (one_or_two u t))
    (λ u. sent_once T t r forget (λ v. k.sent v r ∙ ap flag (still_unsent v (place_of R r) old)) u (one_or_two u t))
    (λ u x n. let e = sent_others T t r forget (λ y s. s.request.0 == y && s.forgotten) u x (and_left (r == x) forget (not_equal r x (λ e. n (sym e)))) (one_or_two u t) in omega arith)
    (λ u h. sent_others T t r forget (λ y s. s.request.0 == y && s.forgotten) u r (rw (comes h) (and-false (r == r))) (one_or_two u t) ∙ k.returns u r h)

-- ---- it comes back

sent_unqueued : (q : ℕ) (p : Place) → is_sent p ≡ true → is_queued_in q p ≡ false
sent_unqueued q (place.Queued r) h = absurd (let z : ⊥ = cc in z)
sent_unqueued q _ h = refl

sent_undone : (p : Place) → is_sent p ≡ true → is_done p ≡ false
sent_undone place.Done h = absurd (let z : ⊥ = cc in z)
sent_undone _ h = refl

pub back_at : (T : Targets) (r u : ℕ) → (the_target (targets.back T r) u).sent ≡ filter (λ s. not (s.request.0 == r)) (the_target T u).sent
back_at T r u = ap (λ (y : Target). y.sent) (entry_map no_target T.targets (without_sending r) u refl)

less_back : {F B : ℕ → Bool} {R : Requests} {Q : Queues} {T : Targets} {N : Tree} (r u : ℕ) → Kept F B R Q T N → arrived R r ≡ false → forgets (targets.back T r) u r ≡ 0
less_back {F} {B} {R} {Q} {T} r u k a =
    let less = filter_less (λ s. s.request.0 == r && s.forgotten) (λ s. not (s.request.0 == r)) (the_target T u).sent in
    let none = k.returns u r a in
    ap (λ (xs : List Sending). count_by (λ s. s.request.0 == r && s.forgotten) xs) (back_at T r u) ∙ omega arith

pub come_back : {F B : ℕ → Bool} {R : Requests} {Q : Queues} {T : Targets} {N : Tree} (r : ℕ) → Kept F B R Q T N → is_sent (place_of R r) ≡ true → Kept F B (requests.move_to R r place.Owned) Q (targets.back T r) N
come_back {F} {B} {R} {Q} {T} {N} r k h = move_request r place.Owned k (sent_undone (place_of R r) h)
    (λ _. refl)
    (λ q x n. refl)
    (λ q. k.queued q r ∙ ap flag (sent_unqueued q (place_of R r) h))
    (λ u x n. ap (λ (xs : List Sending). count_by (λ s. s.request.0 == x) xs) (back_at T r u) ∙ others_stay_sent (λ s. s.request.0 == x) r (the_target T u).sent (λ s e. differs s.request.0 r x e (λ f. n (sym f))))
    (λ u. ap (λ (xs : List Sending). count_by (λ s. s.request.0 == r) xs) (back_at T r u) ∙ it_comes_back r (the_target T u).sent)
    (λ u x n.
    let e : forgets (targets.back T r) u x ≡ forgets T u x =
    ap (λ (xs : List Sending). count_by (λ s. s.request.0 == x && s.forgotten) xs) (back_at T r u)
    ∙ others_stay_sent (λ s. s.request.0 == x && s.forgotten) r (the_target T u).sent (λ s e. and_left (s.request.0 == x) s.forgotten (differs s.request.0 r x e (λ f. n (sym f))))
    in omega arith)
    (λ u a. less_back r u k a)

-- ---- its target is done with it

pub left_at : (T : Targets) (r : ℕ) (status : Status) (u : ℕ) → (the_target (targets.done T r status) u).sent ≡ left_over r status (the_target T u).sent
left_at T r status u = ap (λ (y : Target). y.sent) (entry_map no_target T.targets (target_done r status) u refl)

finished_still : (u : ℕ) (b : Bool) (s : Status) (t : ℕ) → flag (is_sent_to u (finished_at b s (place.Sent (record { 0 = t })))) ≡ (if b then 0 else flag (t == u))
finished_still u true s t = refl
finished_still u false s t = refl

finished_unqueued : (q : ℕ) (b : Bool) (s : Status) (t : ℕ) → is_queued_in q (finished_at b s (place.Sent (record { 0 = t }))) ≡ false
finished_unqueued q true s t = refl
finished_unqueued q false s t = refl

by_both : (x y : ℕ) (status : Status) (s : Sending) → ((done_sending y status s).request.0 == x && (done_sending y status s).forgotten) ≡ (s.request.0 == x && s.forgotten)
by_both x y status s = ap (λ n. n == x && (done_sending y status s).forgotten) (done_asks y status s).0 ∙ ap (λ b. s.request.0 == x && b) (done_asks y status s).1

-- the request is at this target, and at no other
module _ {F B : ℕ → Bool} {R : Requests} {Q : Queues} {T : Targets} {N : Tree} (r t : ℕ) (status : Status) (k : Kept F B R Q T N) (at : place_of R r ≡ place.Sent (record { 0 = t })) where
  here_once : sends T t r ≡ 1
  here_once = k.sent t r ∙ ap (λ p. flag (is_sent_to t p)) at ∙ ap flag (equal t t refl)

  nowhere_else : (u : ℕ) → u ≢ t → sends T u r ≡ 0
  nowhere_else u n = k.sent u r ∙ ap (λ p. flag (is_sent_to u p)) at ∙ ap flag (not_equal t u (λ e. n (sym e)))

  found_here : is_forgotten T r ≡ is_forgotten_sending (find (λ s. s.request.0 == r) (the_target T t).sent)
  found_here = ap is_forgotten_sending (found_at_its_target r T.targets t nowhere_else)

  left_here : (b : Bool) → is_forgotten T r ≡ b → sends (targets.done T r status) t r ≡ flag (not b)
  left_here b e =
      ap (λ (xs : List Sending). count_by (λ s. s.request.0 == r) xs) (left_at T r status t)
      ∙ one_left r status (the_target T t).sent here_once ∙ ap (λ c. flag (not c)) (sym found_here ∙ e)

  left_elsewhere : (u : ℕ) → u ≢ t → sends (targets.done T r status) u r ≡ 0
  left_elsewhere u n =
      let less = less_left (λ s. s.request.0 == r) r status (the_target T u).sent (by_request r r status) in
      let none = nowhere_else u n in
      ap (λ (xs : List Sending). count_by (λ s. s.request.0 == r) xs) (left_at T r status u) ∙ omega arith

  left_by : (b : Bool) → is_forgotten T r ≡ b → (u : ℕ) → (u ≡ t) ⊎ (u ≢ t) → sends (targets.done T r status) u r ≡ flag (is_sent_to u (finished_at b status (place.Sent (record { 0 = t }))))
  left_by true e u (inl same) = rw same (left_here true e)
  left_by false e u (inl same) = rw same (left_here false e ∙ sym (ap flag (equal t t refl)))
  left_by true e u (inr other) = left_elsewhere u other
  left_by false e u (inr other) = left_elsewhere u other ∙ sym (ap flag (not_equal t u (λ f. other (sym f))))

  -- a request that didn't arrive comes back
  made_at : (b : Bool) → is_forgotten T r ≡ b → arrived R r ≡ false → is_made_place (finished_at b status (place.Sent (record { 0 = t }))) ≡ true
  made_at false e a = refl
  made_at true e a =
      let counts = forgotten_counts r (the_target T t).sent (sym found_here ∙ e) in
      let none = k.returns t r a in
      absurd (omega arith)

  pub finish_at : (b : Bool) → is_forgotten T r ≡ b → Kept F B (requests.move_to R r (finished_at b status (place.Sent (record { 0 = t })))) Q (targets.done T r status) N
  finish_at b e = move_request r (finished_at b status (place.Sent (record { 0 = t }))) k (ap is_done at)
      (made_at b e)
      (λ q x n. refl)
      (λ q. k.queued q r ∙ ap (λ p. flag (is_queued_in q p)) at ∙ sym (ap flag (finished_unqueued q b status t)))
      (λ u x n.
      ap (λ (xs : List Sending). count_by (λ s. s.request.0 == x) xs) (left_at T r status u)
      ∙ others_left (λ s. s.request.0 == x) r status (the_target T u).sent (by_request x r status) (λ s e. differs s.request.0 r x e (λ f. n (sym f))))
      (λ u. left_by b e u (one_or_two u t))
      (λ u x n.
      let less = less_left (λ s. s.request.0 == x && s.forgotten) r status (the_target T u).sent (by_both x r status) in
      let same : forgets (targets.done T r status) u x ≡ count_by (λ s. s.request.0 == x && s.forgotten) (left_over r status (the_target T u).sent) = ap (λ (xs : List Sending). count_by (λ s. s.request.0 == x && s.forgotten) xs) (left_at T r status u) in
      omega arith)
      (λ u a.
      let less = less_left (λ s. s.request.0 == r && s.forgotten) r status (the_target T u).sent (by_both r r status) in
      let same : forgets (targets.done T r status) u r ≡ count_by (λ s. s.request.0 == r && s.forgotten) (left_over r status (the_target T u).sent) = ap (λ (xs : List Sending). count_by (λ s. s.request.0 == r && s.forgotten) xs) (left_at T r status u) in
      let none = k.returns u r a in
      omega arith)

finish_by : {F B : ℕ → Bool} {R : Requests} {Q : Queues} {T : Targets} {N : Tree} (r : ℕ) (status : Status) (p : Place) → Kept F B R Q T N → place_of R r ≡ p → is_sent p ≡ true
    → Kept F B (requests.move_to R r (finished_at (is_forgotten T r) status p)) Q (targets.done T r status) N
finish_by {T = T} r status (place.Sent t) k at h = finish_at r t.0 status k at (is_forgotten T r) refl
finish_by r status (place.Queued q) k at h = absurd (let z : ⊥ = cc in z)
finish_by r status (place.Returning q) k at h = absurd (let z : ⊥ = cc in z)
finish_by r status (place.Closing s) k at h = absurd (let z : ⊥ = cc in z)
finish_by r status place.Owned k at h = absurd (let z : ⊥ = cc in z)
finish_by r status place.Done k at h = absurd (let z : ⊥ = cc in z)

pub finish_sending : {F B : ℕ → Bool} {R : Requests} {Q : Queues} {T : Targets} {N : Tree} (r : ℕ) (status : Status) → Kept F B R Q T N → is_sent (place_of R r) ≡ true
    → Kept F B (requests.move_to R r (finished_at (is_forgotten T r) status (place_of R r))) Q (targets.done T r status) N
finish_sending {F} {B} {R} r status k h = finish_by r status (place_of R r) k refl h

-- ---- a request comes into being

-- nothing is told of a number that no object has
fresh : {F B : ℕ → Bool} {R : Requests} {Q : Queues} {T : Targets} {N : Tree} → Kept F B R Q T N → request_of R (next_id N) ≡ no_request
fresh {F} {B} {R} {N = N} k = entry_past no_request R.all (next_id N) k.room

pub new_request : {F B : ℕ → Bool} {R : Requests} {Q Q' : Queues} {T : Targets} {N : Tree} (what : Kind) (class parent : ℕ) (p : Place) (info : RequestInfo) → Kept F B R Q T N
    → ((t : ℕ) → is_sent_to t p ≡ false) → (same_kind what kind.Request ≡ true → has_arrived (record { place = p; info = info }) ≡ true)
    → (has_arrived (record { place = p; info = info }) ≡ false → is_made_place p ≡ true)
    → (has_arrived (record { place = p; info = info }) ≡ true → B (next_id N) ≡ true)
    → ((q x : ℕ) → x ≢ next_id N → stands Q' q x ≡ stands Q q x) → ((q : ℕ) → stands Q' q (next_id N) ≡ flag (is_queued_in q p))
    → Kept F B (requests.arrive R (next_id N) p info) Q' T (tree.create N what class parent)
new_request {F} {B} {R} {Q} {Q'} {T} {N} what class parent p info k unsent known made told queues line = kept_by_move {r = next_id N} {p = p} k (record {
  elsewhere = λ x n. ap (λ (q : Request). q.place) (entry_put_other no_request R.all (next_id N) x (record { place = p; info = info }) n);
  here = ap (λ (q : Request). q.place) (entry_put_same no_request R.all (next_id N) (record { place = p; info = info }));
  arrivals = λ x n. ap has_arrived (entry_put_other no_request R.all (next_id N) x (record { place = p; info = info }) n);
  room =
      let longer : length (N.nodes ++ new_node what class parent ∷ []) ≡ suc (length N.nodes) = omega (arith, length-append N.nodes (new_node what class parent ∷ [])) in
      let room = k.room in
      put_short no_request R.all (next_id N) (record { place = p; info = info }) (length (N.nodes ++ new_node what class parent ∷ [])) (omega arith) (omega arith);
  other_kinds = λ x n h. sym (ap (λ (o : Node). same_kind o.kind kind.Request) (entry_before gone N.nodes (new_node what class parent) x n)) ∙ h;
  kind = λ h.
      ap has_arrived (entry_put_same no_request R.all (next_id N) (record { place = p; info = info }))
      ∙ known (sym (ap (λ (o : Node). same_kind o.kind kind.Request) (entry_last gone N.nodes (new_node what class parent))) ∙ h);
  other_lines = queues;
  line = line;
  other_targets = λ t x n. refl;
  target = λ t. k.sent t (next_id N) ∙ ap (λ (q : Request). flag (is_sent_to t q.place)) (fresh k) ∙ sym (ap flag (unsent t));
  made = λ h. made (sym (ap has_arrived (entry_put_same no_request R.all (next_id N) (record { place = p; info = info }))) ∙ h);
  other_returns = λ t x n. omega arith;
  returns = λ t h. k.returns t (next_id N) (ap has_arrived (fresh k));
  longer = omega (arith, length-append N.nodes (new_node what class parent ∷ []));
  unended = λ h. absurd (let within = k.numbered (next_id N) h in omega arith);
  begun = λ h. told (sym (ap has_arrived (entry_put_same no_request R.all (next_id N) (record { place = p; info = info }))) ∙ h);
})

pub nowhere_yet : {F B : ℕ → Bool} {R : Requests} {Q : Queues} {T : Targets} {N : Tree} → Kept F B R Q T N → (q : ℕ) → stands Q q (next_id N) ≡ 0
nowhere_yet {N = N} k q = k.queued q (next_id N) ∙ ap (λ (x : Request). flag (is_queued_in q x.place)) (fresh k)
