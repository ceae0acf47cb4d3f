-- A request that arrived and isn't live any more is done, unless its device goes too: each deed keeps this.
use Rattle.std.proofs.Common.{◌≡◌, ◌≢◌, ℕ, ◌==◌, ◌<◌, nat_lt, true, false, inl, inr, fold, length, refl, sym, ap, subst, ◌∙◌, arith}
use Rattle.std.proofs.lemmas.Bool.{cases_Bool, eqb-true}
use Rattle.wdf_base.specs.declared.plan.Plan.{Plan}
use Rattle.wdf_base.specs.declared.object.Kind.TheVariants as kind
use Rattle.wdf_base.specs.declared.object.Place.{Place}
use Rattle.wdf_base.specs.declared.object.Place.TheVariants as place
use Rattle.wdf_base.specs.declared.object.RequestInfo.{RequestInfo}
use Rattle.wdf_base.specs.Same.{same_kind}
use Rattle.wdf_base.specs.Lives.{is_live}
use Rattle.wdf_base.specs.Places.{is_done}
use Rattle.wdf_model.specs.declared.entries.Node.{Node}
use Rattle.wdf_model.specs.declared.entries.Request.{Request}
use Rattle.wdf_model.specs.Tables.{contains}
use Rattle.wdf_model.specs.parts.Tree.{Tree, gone, life_of, new_node, next_id, node_of, parent_of, subtree}
use Rattle.wdf_model.specs.parts.Tree as tree
use Rattle.wdf_model.specs.parts.Requests.{Requests, moved, no_request, place_of, request_of}
use Rattle.wdf_model.specs.parts.Requests as requests
use Rattle.wdf_model.specs.State.{State}
use Rattle.wdf_model.specs.Ids.{object_id}
use Rattle.wdf_model.specs.declared.deed.Deed.{Deed}
use Rattle.wdf_model.specs.declared.deed.Deed.TheVariants.{Arrive, AskDeletion, CompleteRequest}
use Rattle.wdf_model.specs.rules.Deeds.{ask_object, do_deed, give_up}
use Rattle.law_machine_base.specs.Fits.{fits}
use Rattle.wdf_model.proofs.Tests.{both_left, itself}
use Rattle.wdf_model.proofs.Maps.{entry_before, entry_last, entry_put_other, entry_put_same}
use Rattle.wdf_model.proofs.Counts.{one_or_two}
use Rattle.law_machine_base.proofs.Kept.{is_request}
use Rattle.law_machine_base.proofs.KeptByDeeds.{KeptIn, deed_keeps, is_arrival}
use Rattle.law_machine_counts.proofs.HeldMoves.{Placed}
use Rattle.law_machine_lives.proofs.Lists.{inside}
use Rattle.law_machine_lives.proofs.Sound.{Sound}
use Rattle.law_machine_lives.proofs.Stays.{asks_all, gives_up}
use Rattle.law_stuck_named.proofs.Standing.{Comes, LivesStay, asks_none, lives_by}
use Rattle.law_machine_lives.proofs.Subtrees.{live_unasked, parent_in, unasked_stays}
use Rattle.law_machine_lives.proofs.ArrivedStay.{arrival_in}
use Rattle.law_machine_lives.proofs.Readers.{requests_of, tree_of}
use Rattle.law_stuck_objects.proofs.Arrivals.{device_in, devices_stay, parents_stay}
use Rattle.law_machine_counts.proofs.Arrived.{arrived_requests, arrived_tree}

pub record EndsWell {A : Type 0} (S : State A) : Type 0 where
  -- an object of the kind Request is a child of its device, and younger
  pub owner : (x : ℕ) → is_request S.tree x ≡ true → parent_of S.tree x ≡ device_in S.requests x
  pub older : (x : ℕ) → is_request S.tree x ≡ true → parent_of S.tree x < x
  -- where it isn't live and its device is, it is done
  pub ended : (x : ℕ) → is_request S.tree x ≡ true → is_live (life_of S.tree x) ≡ false → is_live (life_of S.tree (parent_of S.tree x)) ≡ true → is_done (place_of S.requests x) ≡ true

pub request_within : (T : Tree) (x : ℕ) → is_request T x ≡ true → x < length T.nodes
request_within T x h = inside gone (λ n. same_kind n.kind kind.Request) T.nodes x refl h

-- what is done stays so
done_stays : {A : Type 0} (plan : Plan) (d : Deed) (S : State A) → fits plan d S ≡ true → Placed S → (x : ℕ) → x < length S.tree.nodes → is_done (place_of S.requests x) ≡ true → is_done (place_of (do_deed plan d S).requests x) ≡ true
done_stays {A} plan d S f p x low done =
    let here : KeptIn (λ y. y == x) (λ _. true) S = record {
      queued = p.queued;
      sent = p.sent;
      room = p.room;
      kinds = p.kinds;
      made = p.made;
      returns = p.returns;
      ended = λ r h. subst (λ y. is_done (place_of S.requests y) ≡ true) (sym (eqb-true r x h)) done;
      numbered = λ r h. let e : r ≡ x = eqb-true r x h in omega arith;
      begun = p.begun;
    } in
    (deed_keeps plan d S f (λ _. refl) here).ended x (itself x)

pub placed_then : {A : Type 0} (plan : Plan) (d : Deed) (S : State A) → fits plan d S ≡ true → Placed S → Placed (do_deed plan d S)
placed_then plan d S f p = deed_keeps plan d S f (λ _. refl) p

unlike : (x o : ℕ) (T : Tree) → is_request T x ≡ true → same_kind (tree.kind_of T o) kind.Request ≡ false → x ≢ o
unlike x o T is other e = let yes : is_request T o ≡ true = subst (λ y. is_request T y ≡ true) e is in let z : ⊥ = cc in z

-- ---- a deed by which nothing arrives

module _ {A : Type 0} (plan : Plan) (d : Deed) (S : State A) (none : is_arrival d ≡ false) (f : fits plan d S ≡ true) (p : Placed S) (k : EndsWell S) where
  abbrev U : State A
  U = do_deed plan d S

  owner_then : (x : ℕ) → is_request U.tree x ≡ true → parent_of U.tree x ≡ device_in U.requests x
  owner_then x h =
      let q = parents_stay plan d S none f x h in
      elim (devices_stay plan d S none x) [
        | inl e ↦ q.1 ∙ k.owner x q.0 ∙ sym e
        | inr zero_ ↦ absurd (
            let arrived_requests : nat_lt 0 (arrival_in U.requests x) ≡ true = (placed_then plan d S f p).kinds x h in
            let off : nat_lt 0 (arrival_in U.requests x) ≡ false = ap (nat_lt 0) zero_ in
            let z : ⊥ = cc in z)
      ]

  older_then : (x : ℕ) → is_request U.tree x ≡ true → parent_of U.tree x < x
  older_then x h = let q = parents_stay plan d S none f x h in let e = q.1 in let o = k.older x q.0 in omega arith

  with_ended : ((x : ℕ) → is_request U.tree x ≡ true → is_live (life_of U.tree x) ≡ false → is_live (life_of U.tree (parent_of U.tree x)) ≡ true → is_done (place_of U.requests x) ≡ true) → EndsWell U
  with_ended e = record { owner = owner_then; older = older_then; ended = e }

  -- a deed that asks for no deletion
  without_asking : asks_none d ≡ true → EndsWell U
  without_asking quiet = with_ended (λ x h off above.
      let l : LivesStay S.tree U.tree = lives_by plan d S quiet f in
      let q = parents_stay plan d S none f x h in
      let up : parent_of U.tree x ≡ parent_of S.tree x = q.1 in
      let low : x < length S.tree.nodes = request_within S.tree x q.0 in
      let before = k.older x q.0 in
      let above_was : is_live (life_of S.tree (parent_of S.tree x)) ≡ true = l.was (parent_of S.tree x) (omega arith) (subst (λ y. is_live (life_of U.tree y) ≡ true) up above) in
      elim (cases_Bool (is_live (life_of S.tree x))) [
        | inl live ↦ absurd (let still : is_live (life_of U.tree x) ≡ true = l.gains x live in let z : ⊥ = cc in z)
        | inr was ↦ done_stays plan d S f p x low (k.ended x q.0 was above_was)
      ])

-- ---- a deletion is asked

-- with what is below o the deletion is asked in W, of which the tree is that of S
module _ {A : Type 0} (S W : State A) (o : ℕ) (same : W.tree ≡ S.tree) (k : EndsWell S) where
  abbrev V : State A
  V = fold ask_object W (subtree W.tree o)

  below : (y : ℕ) → contains y (subtree W.tree o) ≡ contains y (subtree S.tree o)
  below y = ap (λ T. contains y (subtree T o)) same

  -- a request with a live parent whose deletion is asked is the one that is named
  pub asked_is : (x : ℕ) → is_request S.tree x ≡ true → is_live (life_of S.tree x) ≡ true → is_live (life_of V.tree x) ≡ false → is_live (life_of V.tree (parent_of S.tree x)) ≡ true → x ≢ o → ⊥
  asked_is x is live off above n =
      let up : ℕ = parent_of S.tree x in
      let out : contains up (subtree S.tree o) ≡ false = sym (below up) ∙ (live_unasked (subtree W.tree o) W up above).0 in
      elim (cases_Bool (contains x (subtree S.tree o))) as (λ _. ⊥) [
        | inl in_ ↦
            let there : contains up (subtree S.tree o) ≡ true = parent_in S.tree o x (request_within S.tree x is) (k.older x is) in_ n in
            let z : ⊥ = cc in z
        | inr no_ ↦
            let stays : node_of V.tree x ≡ node_of S.tree x = unasked_stays (subtree W.tree o) W x (below x ∙ no_) ∙ ap (λ T. node_of T x) same in
            let still : is_live (life_of V.tree x) ≡ true = ap (λ (m : Node). is_live m.life) stays ∙ live in
            let z : ⊥ = cc in z
      ]

  -- what is live then was live
  pub live_was : (y : ℕ) → is_live (life_of V.tree y) ≡ true → is_live (life_of S.tree y) ≡ true
  live_was y h = sym (ap (λ (m : Node). is_live m.life) ((live_unasked (subtree W.tree o) W y h).1 ∙ ap (λ T. node_of T y) same)) ∙ h

asks : {A : Type 0} (plan : Plan) (S : State A) (o : ℕ) → fits plan (AskDeletion (object_id o)) S ≡ true → Comes plan (AskDeletion (object_id o)) S → Placed S → EndsWell S → EndsWell (do_deed plan (AskDeletion (object_id o)) S)
asks {A} plan S o f c p k = with_ended plan (AskDeletion (object_id o)) S refl f p k (λ x h off above.
    let q = parents_stay plan (AskDeletion (object_id o)) S refl f x h in
    let above_here = subst (λ y. is_live (life_of (do_deed plan (AskDeletion (object_id o)) S).tree y) ≡ true) q.1 above in
    elim (cases_Bool (is_live (life_of S.tree x))) [
      | inl live ↦ absurd (asked_is S S o refl k x q.0 live off above_here (unlike x o S.tree q.0 c.1))
      | inr was ↦ done_stays plan (AskDeletion (object_id o)) S f p x (request_within S.tree x q.0) (k.ended x q.0 was (live_was S S o refl k (parent_of S.tree x) above_here))
    ])

completes : {A : Type 0} (plan : Plan) (S : State A) (r : ℕ) → fits plan (CompleteRequest (object_id r)) S ≡ true → Placed S → EndsWell S → EndsWell (do_deed plan (CompleteRequest (object_id r)) S)
completes {A} plan S r f p k =
    let W : State A = record (give_up S r) { requests = requests.complete S.requests r } in
    let same : W.tree ≡ S.tree = gives_up tree_of (λ S Q R P. refl) S r in
    with_ended plan (CompleteRequest (object_id r)) S refl f p k (λ x h off above.
    let q = parents_stay plan (CompleteRequest (object_id r)) S refl f x h in
    let above_here = subst (λ y. is_live (life_of (do_deed plan (CompleteRequest (object_id r)) S).tree y) ≡ true) q.1 above in
    elim (one_or_two x r) [
      | inl e ↦
          let there : (do_deed plan (CompleteRequest (object_id r)) S).requests ≡ requests.complete S.requests r = asks_all requests_of (λ S T D W U. refl) (subtree (give_up S r).tree r) W in
          let done : is_done (place_of (requests.complete S.requests r) r) ≡ true = ap (λ (y : Request). is_done y.place) (entry_put_same no_request S.requests.all r (moved place.Done (request_of S.requests r))) in
          subst (λ y. is_done (place_of (do_deed plan (CompleteRequest (object_id r)) S).requests y) ≡ true) (sym e) (ap (λ (R : Requests). is_done (place_of R r)) there ∙ done)
      | inr n ↦ elim (cases_Bool (is_live (life_of S.tree x))) [
        | inl live ↦ absurd (asked_is S W r same k x q.0 live off above_here n)
        | inr was ↦ done_stays plan (CompleteRequest (object_id r)) S f p x (request_within S.tree x q.0) (k.ended x q.0 was (live_was S W r same k (parent_of S.tree x) above_here))
      ]
    ])

-- ---- a request arrives

module _ {A : Type 0} (plan : Plan) (S : State A) (device : ℕ) (info : RequestInfo) (at : Place) (f : fits plan (Arrive (object_id device) info at) S ≡ true) (s : Sound plan (Arrive (object_id device) info at) S) (p : Placed S) (k : EndsWell S) where
  abbrev Then : State A
  Then = do_deed plan (Arrive (object_id device) info at) S

  new : ℕ
  new = next_id S.tree

  tree_then : Then.tree ≡ tree.create S.tree kind.Request 0 device
  tree_then = arrived_tree S device info at

  here : node_of Then.tree (next_id S.tree) ≡ new_node kind.Request 0 device
  here = ap (λ T. node_of T (next_id S.tree)) tree_then ∙ entry_last gone S.tree.nodes (new_node kind.Request 0 device)

  there : (x : ℕ) → x ≢ next_id S.tree → node_of Then.tree x ≡ node_of S.tree x
  there x n = ap (λ T. node_of T x) tree_then ∙ entry_before gone S.tree.nodes (new_node kind.Request 0 device) x n

  device_live : is_live (life_of S.tree device) ≡ true
  device_live = search both_left

  device_low : device < next_id S.tree
  device_low = inside gone (λ n. is_live n.life) S.tree.nodes device refl device_live

  device_here : device_in Then.requests (next_id S.tree) ≡ device
  device_here = ap (λ (R : Requests). device_in R (next_id S.tree)) (arrived_requests S device info at) ∙ ap (λ (y : Request). y.info.device.0) (entry_put_same no_request S.requests.all (next_id S.tree) (record { place = at; info = info })) ∙ s.0

  device_there : (x : ℕ) → x ≢ next_id S.tree → device_in Then.requests x ≡ device_in S.requests x
  device_there x n = ap (λ (R : Requests). device_in R x) (arrived_requests S device info at) ∙ ap (λ (y : Request). y.info.device.0) (entry_put_other no_request S.requests.all (next_id S.tree) x (record { place = at; info = info }) n)

  was : (x : ℕ) → x ≢ next_id S.tree → is_request Then.tree x ≡ true → is_request S.tree x ≡ true
  was x n h = sym (ap (λ (m : Node). same_kind m.kind kind.Request) (there x n)) ∙ h

  up : (x : ℕ) → x ≢ next_id S.tree → parent_of Then.tree x ≡ parent_of S.tree x
  up x n = ap (λ (m : Node). m.parent.0) (there x n)

  pub arrives : EndsWell Then
  arrives = record {
    owner = λ x h. elim (one_or_two x (next_id S.tree)) [
      | inl e ↦ subst (λ y. parent_of Then.tree y ≡ device_in Then.requests y) (sym e) (ap (λ (m : Node). m.parent.0) here ∙ sym device_here)
      | inr n ↦ up x n ∙ k.owner x (was x n h) ∙ sym (device_there x n)
    ];
    older = λ x h. elim (one_or_two x (next_id S.tree)) [
      | inl e ↦ let a : parent_of Then.tree (next_id S.tree) ≡ device = ap (λ (m : Node). m.parent.0) here in let b : parent_of Then.tree x ≡ parent_of Then.tree (next_id S.tree) = ap (parent_of Then.tree) e in let low = device_low in omega arith
      | inr n ↦ let a = up x n in let o = k.older x (was x n h) in omega arith
    ];
    ended = λ x h off above. elim (one_or_two x (next_id S.tree)) [
      | inl e ↦ absurd (let live : is_live (life_of Then.tree x) ≡ true = ap (λ y. is_live (life_of Then.tree y)) e ∙ ap (λ (m : Node). is_live m.life) here in let z : ⊥ = cc in z)
      | inr n ↦
          let is = was x n h in
          let low = request_within S.tree x is in
          let before = k.older x is in
          let apart : parent_of S.tree x ≢ next_id S.tree = λ e. let z : ⊥ = omega arith in z in
          let off_was : is_live (life_of S.tree x) ≡ false = sym (ap (λ (m : Node). is_live m.life) (there x n)) ∙ off in
          let above_was : is_live (life_of S.tree (parent_of S.tree x)) ≡ true = sym (ap (λ (m : Node). is_live m.life) (there (parent_of S.tree x) apart)) ∙ subst (λ y. is_live (life_of Then.tree y) ≡ true) (up x n) above in
          done_stays plan (Arrive (object_id device) info at) S f p x low (k.ended x is off_was above_was)
    ];
  }

-- ---- each deed

pub ends_by : {A : Type 0} (plan : Plan) (d : Deed) (S : State A) → fits plan d S ≡ true → Sound plan d S → Comes plan d S → Placed S → EndsWell S → EndsWell (do_deed plan d S)
ends_by plan (Arrive device info at) S f s c p k = arrives plan S device.0 info at f s p k
ends_by plan (AskDeletion o) S f s c p k = asks plan S o.0 f c p k
ends_by plan (CompleteRequest r) S f s c p k = completes plan S r.0 f p k
ends_by plan d S f s c p k = without_asking plan d S refl f p k refl
