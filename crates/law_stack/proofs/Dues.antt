-- The post that is due for a connector, and the Send that it is for.
use Rattle.std.proofs.Common.{◌≡◌, ℕ, ◌+◌, ◌-◌, ◌==◌, Bool, true, false, not, ◌&&◌, List, [], ◌∷◌, count_by, Option, Some, None, refl, sym, ap, subst, ◌∙◌, arith}
use Rattle.std.specs.List.{filter_map, list_any}
use Rattle.std.proofs.lemmas.Bool.{eqb-true, le-leb}
use Rattle.wdf_base.specs.declared.plan.Plan.{Plan}
use Rattle.wdf_base.specs.declared.ids.Handle.{Handle}
use Rattle.wdf_base.specs.declared.value.Status.{Status}
use Rattle.wdf_base.specs.declared.value.Status.TheVariants as status
use Rattle.wdf_base.specs.declared.event.Post.{Post}
use Rattle.wdf_base.specs.declared.event.Post.TheVariants as post
use Rattle.wdf_base.specs.declared.event.Event.{Event}
use Rattle.wdf_base.specs.Same.{same_handle, same_post, same_status}
use Rattle.wdf_base.specs.Posts.{is_request}
use Rattle.wdf_model.specs.declared.stack.Descent.{Descent}
use Rattle.wdf_model.specs.declared.stack.Descent.TheVariants as descent
use Rattle.wdf_model.specs.declared.stack.Forwarded.{Forwarded}
use Rattle.wdf_model.specs.Tables.{first_of_list}
use Rattle.wdf_model.specs.rules.Posts.{ARRIVALS}
use Rattle.wdf_model.specs.agents.Connector.{done_with, is_waiting, post_below, post_of, post_waiting, request_lines}
use Rattle.wdf_model.proofs.Sames.{handle_same, status_decides}
use Rattle.wdf_model.proofs.Tests.{both, both_left, both_right, itself}
use Rattle.law_stack.specs.Laws.{is_cause, is_caused, is_full}
use Rattle.law_stack.specs.Words.{Passing, completes_with, has_no_arrival, is_connector_arrival}
use Rattle.law_stack.proofs.Alike.{Alike, DescentIs, OneAlike, waits_too}

-- ---- the request that has a post

pub record IsFor (before : List Event) (room : ℕ) (ps : List Passing) (q : Post) : Type 0 where
  pub sent : Forwarded
  pub send : Passing
  pub posts : post_of room sent ≡ Some q
  pub alike : OneAlike before sent send
  pub among : (test : Passing → Bool) → test send ≡ true → list_any test ps ≡ true

any_first : (test : Passing → Bool) (p : Passing) (ps : List Passing) → test p ≡ true → list_any test (p ∷ ps) ≡ true
any_first test p ps h = rw h refl

any_behind_by : (test : Passing → Bool) (p : Passing) (ps : List Passing) (b : Bool) → test p ≡ b → list_any test ps ≡ true → list_any test (p ∷ ps) ≡ true
any_behind_by test p ps true e h = rw e refl
any_behind_by test p ps false e h = rw e h

for_by : (before : List Event) (room : ℕ) (f : Forwarded) (p : Passing) (fs : List Forwarded) (ps : List Passing) (q : Post) (o : Option Post) → post_of room f ≡ o → OneAlike before f p
    → (first_of_list (filter_map (post_of room) fs) ≡ Some q → IsFor before room ps q) → first_of_list (filter_map (post_of room) (f ∷ fs)) ≡ Some q → IsFor before room (p ∷ ps) q
for_by before room f p fs ps q (Some x) e one rest h =
    let first : Some x ≡ Some q = rw e at h in
    record { sent = f; send = p; posts = e ∙ first; alike = one; among = λ test k. any_first test p ps k }
for_by before room f p fs ps q None e one rest h =
    let it = rest (rw e at h) in
    record { sent = it.sent; send = it.send; posts = it.posts; alike = it.alike; among = λ test k. any_behind_by test p ps (test p) refl (it.among test k) }

pub due_is_for : (before : List Event) (room : ℕ) (fs : List Forwarded) (ps : List Passing) (q : Post) → Alike before fs ps → first_of_list (filter_map (post_of room) fs) ≡ Some q → IsFor before room ps q
due_is_for before room [] [] q h e = absurd (let z : ⊥ = cc in z)
due_is_for before room (f ∷ fs) (p ∷ ps) q h e = for_by before room f p fs ps q (post_of room f) refl h.0 (due_is_for before room fs ps q h.1) e
due_is_for before room [] (p ∷ ps) q h e = absurd h
due_is_for before room (f ∷ fs) [] q h e = absurd h

-- ---- an arrival is for a request without one

below_asks : (f : Forwarded) (number : ℕ) (passed : Bool) (q : Post) (b : Bool) → (f.cancelled && not passed) ≡ b → post_below f number passed ≡ Some q → is_request q ≡ false
below_asks f number passed q true e h = let n : Some (post.Cancel number) ≡ Some q = rw e at h in let same : post.Cancel number ≡ q = cc in sym (ap is_request same)
below_asks f number passed q false e h = absurd (let n : None ≡ Some q = rw e at h in let z : ⊥ = cc in z)

waits_by : (room : ℕ) (f : Forwarded) (d : Descent) (q : Post) → f.descent ≡ d → post_of room f ≡ Some q → is_request q ≡ true → is_waiting f ≡ true
waits_by room f descent.Waiting q e h is = rw e refl
waits_by room f descent.Refused q e h is =
    let n : Some (done_with f status.InvalidDeviceState) ≡ Some q = rw e at h in
    let same : done_with f status.InvalidDeviceState ≡ q = cc in
    absurd (let f_ : is_request q ≡ false = sym (ap is_request same) in let z : ⊥ = cc in z)
waits_by room f (descent.Completed s) q e h is =
    let n : Some (done_with f s) ≡ Some q = rw e at h in
    let same : done_with f s ≡ q = cc in
    absurd (let f_ : is_request q ≡ false = sym (ap is_request same) in let z : ⊥ = cc in z)
waits_by room f (descent.Below lower number passed) q e h is =
    let n : post_below f number passed ≡ Some q = rw e at h in
    absurd (let f_ : is_request q ≡ false = below_asks f number passed q (f.cancelled && not passed) refl n in let z : ⊥ = cc in z)

pub arrival_is_sent : (before : List Event) (room : ℕ) (ps : List Passing) (q : Post) → IsFor before room ps q → is_request q ≡ true → list_any has_no_arrival ps ≡ true
arrival_is_sent before room ps q h is =
    h.among has_no_arrival (sym (waits_too before h.sent h.send h.alike) ∙ waits_by room h.sent h.sent.descent q refl h.posts is)

-- ---- a done has a cause

abbrev full : Plan → List Event → ℕ
full plan before = request_lines plan + count_by (is_connector_arrival plan) before

is_full_by : (plan : Plan) (before : List Event) (room : ℕ) → room ≡ ARRIVALS - full plan before → room ≡ 0 → is_full plan before ≡ true
is_full_by plan before room is none = le-leb ARRIVALS (full plan before) (omega (arith, is, none))

-- of a request that waits: it is cancelled, or there is no room
waiting_caused_by : (plan : Plan) (before : List Event) (room : ℕ) (f : Forwarded) (p : Passing) (r : Handle) (s : Status) (c z : Bool) → f.cancelled ≡ c → (room == 0) ≡ z → room ≡ ARRIVALS - full plan before
    → OneAlike before f p → p.arrival ≡ None → post_waiting room f ≡ post.Done r s → is_caused plan before r.id.0 s p ≡ true
waiting_caused_by plan before room f p r s true z ec ez room_ one none h =
    let n : done_with f status.Cancelled ≡ post.Done r s = rw ec at h in
    let same_r : f.request ≡ r = cc in
    let same_s : status.Cancelled ≡ s = cc in
    let asked : (p.request == r.id.0) ≡ true = ap (λ k. k == r.id.0) (one.request ∙ ap (λ (x : Handle). x.id.0) same_r) ∙ itself r.id.0 in
    let cancelled : p.cancelled ≡ true = one.cancelled ∙ ec in
    let st : same_status s status.Cancelled ≡ true = (status_decides s status.Cancelled).1 (sym same_s) in
    both (p.request == r.id.0) (is_cause plan before s p) asked (rw (none, cancelled, st) refl)
waiting_caused_by plan before room f p r s false true ec ez room_ one none h =
    let n : done_with f status.InsufficientResources ≡ post.Done r s = rw (ec, ez) at h in
    let same_r : f.request ≡ r = cc in
    let same_s : status.InsufficientResources ≡ s = cc in
    let asked : (p.request == r.id.0) ≡ true = ap (λ k. k == r.id.0) (one.request ∙ ap (λ (x : Handle). x.id.0) same_r) ∙ itself r.id.0 in
    let cancelled : p.cancelled ≡ false = one.cancelled ∙ ec in
    let st : same_status s status.InsufficientResources ≡ true = (status_decides s status.InsufficientResources).1 (sym same_s) in
    let filled = is_full_by plan before room room_ (eqb-true room 0 ez) in
    both (p.request == r.id.0) (is_cause plan before s p) asked (rw (none, cancelled, filled, st) refl)
waiting_caused_by plan before room f p r s false false ec ez room_ one none h =
    let n : f.post ≡ post.Done r s = rw (ec, ez) at h in
    absurd (let is : is_request f.post ≡ false = ap is_request n in let yes : is_request f.post ≡ true = one.asks in let z : ⊥ = cc in z)

below_done : (f : Forwarded) (number : ℕ) (passed : Bool) (r : Handle) (s : Status) (b : Bool) → (f.cancelled && not passed) ≡ b → post_below f number passed ≡ Some (post.Done r s) → ⊥
below_done f number passed r s true e h = let n : Some (post.Cancel number) ≡ Some (post.Done r s) = rw e at h in let z : ⊥ = cc in z
below_done f number passed r s false e h = let n : None ≡ Some (post.Done r s) = rw e at h in let z : ⊥ = cc in z

caused_by : (plan : Plan) (before : List Event) (room : ℕ) (f : Forwarded) (p : Passing) (r : Handle) (s : Status) (d : Descent) → f.descent ≡ d → room ≡ ARRIVALS - full plan before
    → OneAlike before f p → DescentIs before d p.arrival → post_of room f ≡ Some (post.Done r s) → is_caused plan before r.id.0 s p ≡ true
caused_by plan before room f p r s descent.Waiting e room_ one told h =
    let n : Some (post_waiting room f) ≡ Some (post.Done r s) = rw e at h in
    waiting_caused_by plan before room f p r s f.cancelled (room == 0) refl refl room_ one told cc
caused_by plan before room f p r s descent.Refused e room_ one told h =
    let n : Some (done_with f status.InvalidDeviceState) ≡ Some (post.Done r s) = rw e at h in
    let same_r : f.request ≡ r = cc in
    let same_s : status.InvalidDeviceState ≡ s = cc in
    let asked : (p.request == r.id.0) ≡ true = ap (λ k. k == r.id.0) (one.request ∙ ap (λ (x : Handle). x.id.0) same_r) ∙ itself r.id.0 in
    let st : same_status s status.InvalidDeviceState ≡ true = (status_decides s status.InvalidDeviceState).1 (sym same_s) in
    both (p.request == r.id.0) (is_cause plan before s p) asked (rw told st)
caused_by plan before room f p r s (descent.Completed x) e room_ one told h =
    let n : Some (done_with f x) ≡ Some (post.Done r s) = rw e at h in
    let same_r : f.request ≡ r = cc in
    let same_s : x ≡ s = cc in
    let asked : (p.request == r.id.0) ≡ true = ap (λ k. k == r.id.0) (one.request ∙ ap (λ (y : Handle). y.id.0) same_r) ∙ itself r.id.0 in
    both (p.request == r.id.0) (is_cause plan before s p) asked (rw told.1 (subst (λ y. list_any (completes_with told.0 y) before ≡ true) same_s told.2))
caused_by plan before room f p r s (descent.Below lower number passed) e room_ one told h =
    let n : post_below f number passed ≡ Some (post.Done r s) = rw e at h in
    absurd (below_done f number passed r s (f.cancelled && not passed) refl n)

pub done_has_cause : (plan : Plan) (before : List Event) (room : ℕ) (ps : List Passing) (r : Handle) (s : Status) → room ≡ ARRIVALS - full plan before → IsFor before room ps (post.Done r s) → list_any (is_caused plan before r.id.0 s) ps ≡ true
done_has_cause plan before room ps r s room_ h =
    h.among (is_caused plan before r.id.0 s) (caused_by plan before room h.sent h.send r s h.sent.descent refl room_ h.alike h.alike.descent h.posts)

-- ---- a post that passes a test of equality

pub same_asks : (x p : Post) → same_post x p ≡ true → is_request p ≡ true → is_request x ≡ true
same_asks (post.Read d n) p e h = refl
same_asks (post.Write d n) p e h = refl
same_asks (post.Control d c n) p e h = refl
same_asks (post.Cancel k) (post.Read d n) e h = absurd (let z : ⊥ = cc in z)
same_asks (post.Cancel k) (post.Write d n) e h = absurd (let z : ⊥ = cc in z)
same_asks (post.Cancel k) (post.Control d c n) e h = absurd (let z : ⊥ = cc in z)
same_asks (post.Ask a f) (post.Read d n) e h = absurd (let z : ⊥ = cc in z)
same_asks (post.Ask a f) (post.Write d n) e h = absurd (let z : ⊥ = cc in z)
same_asks (post.Ask a f) (post.Control d c n) e h = absurd (let z : ⊥ = cc in z)
same_asks (post.Act a) (post.Read d n) e h = absurd (let z : ⊥ = cc in z)
same_asks (post.Act a) (post.Write d n) e h = absurd (let z : ⊥ = cc in z)
same_asks (post.Act a) (post.Control d c n) e h = absurd (let z : ⊥ = cc in z)
same_asks (post.Done r s) (post.Read d n) e h = absurd (let z : ⊥ = cc in z)
same_asks (post.Done r s) (post.Write d n) e h = absurd (let z : ⊥ = cc in z)
same_asks (post.Done r s) (post.Control d c n) e h = absurd (let z : ⊥ = cc in z)
same_asks _ (post.Cancel k) e h = absurd (let z : ⊥ = cc in z)
same_asks _ (post.Ask a f) e h = absurd (let z : ⊥ = cc in z)
same_asks _ (post.Act a) e h = absurd (let z : ⊥ = cc in z)
same_asks _ (post.Done r s) e h = absurd (let z : ⊥ = cc in z)

pub same_done : (x : Post) (r : Handle) (s : Status) → same_post x (post.Done r s) ≡ true → x ≡ post.Done r s
same_done (post.Done q u) r s e =
    let a : q ≡ r = handle_same q r (both_left (same_handle q r) (same_status u s) e) in
    let b : u ≡ s = (status_decides u s).0 (both_right (same_handle q r) (same_status u s) e) in
    cc
same_done (post.Read d n) r s e = absurd (let z : ⊥ = cc in z)
same_done (post.Write d n) r s e = absurd (let z : ⊥ = cc in z)
same_done (post.Control d c n) r s e = absurd (let z : ⊥ = cc in z)
same_done (post.Cancel k) r s e = absurd (let z : ⊥ = cc in z)
same_done (post.Ask a d) r s e = absurd (let z : ⊥ = cc in z)
same_done (post.Act a) r s e = absurd (let z : ⊥ = cc in z)
