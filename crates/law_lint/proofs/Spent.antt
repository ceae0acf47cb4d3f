-- A request that is cancelled or completed stays so, also where its owner acts on it; and no request that is there goes.
use Rattle.std.proofs.Common.{if◌then◌else◌, ◌≡◌, ℕ, ◌<◌, ◌≤◌, Bool, true, false, ◌&&◌, List, [], ◌∷◌, inl, inr, length, refl, sym, subst, arith}
use Rattle.wdf_base.specs.declared.plan.Plan.{Plan}
use Rattle.wdf_base.specs.declared.object.Mark.TheVariants as marks
use Rattle.wdf_base.specs.declared.object.Place.{Place}
use Rattle.wdf_base.specs.declared.object.Place.TheVariants as place
use Rattle.wdf_base.specs.Places.{is_marked, is_owned}
use Rattle.wdf_model.specs.declared.entries.Request.{Request}
use Rattle.wdf_model.specs.parts.Requests.{Requests, cancelled, is_cancelled, mark_cancelled, mark_of, marked, moved, no_request, place_of, request_of, unmarked, with_mark, with_request}
use Rattle.wdf_model.specs.parts.Requests as requests
use Rattle.wdf_model.specs.State.{State, withdrawn_place}
use Rattle.wdf_model.specs.declared.deed.Deed.{Deed}
use Rattle.wdf_model.specs.declared.deed.Deed.TheVariants.{CompleteRequest, Forward, GiveBack, MarkRequest, Requeue, SendRequest, UnmarkRequest}
use Rattle.wdf_model.specs.rules.Deeds.{do_deed, do_deeds, give_up, give_up_if, queued}
use Rattle.law_machine_base.specs.Fits.{all_fit, fits, is_given}
use Rattle.wdf_model.proofs.Tests.{both_left, both_right}
use Rattle.wdf_model.proofs.Maps.{entry_put_other, entry_put_same, put_long}
use Rattle.wdf_model.proofs.Counts.{one_or_two}
use Rattle.law_machine_base.proofs.KeptByDeeds.{deed_keeps, owned_of, owned_undone}
use Rattle.law_lint.proofs.Grips.{LaterAt, Spent, asked, deed_later, given_up_if, mark_moved, never_marked}
use Rattle.law_lint.proofs.Others.{Places, apart_of}
use Rattle.law_trace_settled.proofs.Returning.{given_requests}

-- request x stays spent, and stays
pub record StaysSpent (x : ℕ) (R U : Requests) : Type 0 where
  pub spent : Spent (request_of R x) → Spent (request_of U x)
  pub long : length R.all ≤ length U.all

by_later : (x : ℕ) (R U : Requests) → LaterAt x R U → StaysSpent x R U
by_later x R U l = record { spent = l.later.spent; long = l.long }

spent_same : (x : ℕ) (R U V : Requests) → V ≡ U → StaysSpent x R U → StaysSpent x R V
spent_same x R U V e s = subst (StaysSpent x R) (sym e) s

spent_then : (x : ℕ) (R U V : Requests) → StaysSpent x R U → StaysSpent x U V → StaysSpent x R V
spent_then x R U V h k = record { spent = λ s. k.spent (h.spent s); long = let a = h.long in let b = k.long in omega arith }

one_changes : (x : ℕ) (R : Requests) (r : ℕ) (f : Request → Request) → (x ≡ r → Spent (request_of R r) → Spent (f (request_of R r))) → StaysSpent x R (with_request R r f)
one_changes x R r f h = record {
  spent = λ s. elim (one_or_two x r) [
    | inl e ↦ subst (λ y. Spent (request_of (with_request R r f) y)) (sym e) (subst Spent (sym (entry_put_same no_request R.all r (f (request_of R r)))) (h e (subst (λ y. Spent (request_of R y)) e s)))
    | inr n ↦ subst Spent (sym (entry_put_other no_request R.all r x (f (request_of R r)) n)) s
  ];
  long = put_long no_request R.all r (f (request_of R r));
}

-- an owned request that is spent is cancelled
owned_spent : (q : Request) → is_owned q.place ≡ true → Spent q → q.info.cancelled ≡ true
owned_spent q own s = elim s.over [
  | inl e ↦ e
  | inr d ↦ absurd (let no_done = owned_undone q.place own in let z : ⊥ = cc in z)
]

moves_spent : (q : Request) (p : Place) → is_owned q.place ≡ true → Spent q → Spent (moved p q)
moves_spent q p own s = record { off = mark_moved p q.info.mark s.off; over = inl (owned_spent q own s) }

completes_spent : (q : Request) → Spent q → Spent (moved place.Done q)
completes_spent q s = record { off = s.off; over = inr refl }

marks_spent : (q : Request) (b : Bool) → q.info.cancelled ≡ b → is_owned q.place ≡ true → Spent q → Spent (if b then q else with_mark marks.Marked q)
marks_spent q true e own s = s
marks_spent q false e own s = absurd (let is = owned_spent q own s in let z : ⊥ = cc in z)

unmarks_spent : (q : Request) (b : Bool) → is_marked q.info.mark ≡ b → Spent q → Spent (if b then with_mark marks.Unmarked q else q)
unmarks_spent q true e s = absurd (let off = s.off in let z : ⊥ = cc in z)
unmarks_spent q false e s = s

gives_spent : (q : Request) (p : Place) → Spent (moved p (cancelled q))
gives_spent q p = record { off = mark_moved p (mark_cancelled q.info.mark) (never_marked q.info.mark); over = inl refl }

moves_at : (x : ℕ) (R U : Requests) (r : ℕ) (p : Place) → U ≡ R → is_owned (place_of R r) ≡ true → StaysSpent x R (requests.move_to U r p)
moves_at x R U r p e own = subst (λ (V : Requests). StaysSpent x R (requests.move_to V r p)) (sym e) (one_changes x R r (moved p) (λ _ s. moves_spent (request_of R r) p own s))

given_back : (x : ℕ) (R U : Requests) (r : ℕ) (p : Place) → U ≡ R → StaysSpent x R (requests.move_to (requests.cancel U r) r p)
given_back x R U r p e =
    subst (λ (V : Requests). StaysSpent x R (requests.move_to (requests.cancel V r) r p)) (sym e)
    (spent_then x R (requests.cancel R r) (requests.move_to (requests.cancel R r) r p)
    (one_changes x R r cancelled (λ _ s. record { off = never_marked (mark_of R r); over = inl refl }))
    (one_changes x (requests.cancel R r) r (moved p) (λ _ s. subst (λ (q : Request). Spent (moved p q)) (sym (entry_put_same no_request R.all r (cancelled (request_of R r)))) (gives_spent (request_of R r) p))))

pub deed_spent : {A : Type 0} (plan : Plan) (d : Deed) (S : State A) (x : ℕ) → fits plan d S ≡ true → Places S → x < length S.requests.all → StaysSpent x S.requests (do_deed plan d S).requests
deed_spent plan (Requeue r q) S x f k old = moves_at x S.requests (give_up S r.0).requests r.0 (queued q.0) (given_requests S r.0) (owned_of S r.0 f)
deed_spent plan (Forward r q) S x f k old = moves_at x S.requests (give_up S r.0).requests r.0 (queued q.0) (given_requests S r.0) (owned_of S r.0 (both_left (is_given S r.0) _ f))
deed_spent plan (GiveBack r q) S x f k old = given_back x S.requests (give_up S r.0).requests r.0 (withdrawn_place plan (give_up S r.0) q.0 r.0) (given_requests S r.0)
deed_spent plan (MarkRequest r) S x f k old = one_changes x S.requests r.0 marked (λ _ s. marks_spent (request_of S.requests r.0) (is_cancelled S.requests r.0) refl (owned_of S r.0 f) s)
deed_spent plan (UnmarkRequest r) S x f k old = one_changes x S.requests r.0 unmarked (λ _ s. unmarks_spent (request_of S.requests r.0) (is_marked (mark_of S.requests r.0)) refl s)
deed_spent plan (SendRequest r t forget) S x f k old = moves_at x S.requests (give_up_if forget S r.0).requests r.0 (place.Sent (record { 0 = t.0 })) (given_up_if S forget r.0) (both_left (is_owned (place_of S.requests r.0)) _ (both_left (is_owned (place_of S.requests r.0) && _) _ f))
deed_spent plan (CompleteRequest r) S x f k old =
    spent_same x S.requests (requests.move_to S.requests r.0 place.Done) _ (asked (record (give_up S r.0) { requests = requests.complete S.requests r.0 }) r.0)
    (one_changes x S.requests r.0 (moved place.Done) (λ _ s. completes_spent (request_of S.requests r.0) s))
deed_spent plan d S x f k old = by_later x S.requests (do_deed plan d S).requests (deed_later plan d S x f k old (apart_of d S x refl))

pub deeds_spent : {A : Type 0} (plan : Plan) (ds : List Deed) (S : State A) (x : ℕ) → all_fit plan ds S ≡ true → Places S → x < length S.requests.all → StaysSpent x S.requests (do_deeds plan ds S).requests
deeds_spent plan [] S x f k old = record { spent = λ s. s; long = omega arith }
deeds_spent plan (d ∷ ds) S x f k old =
    let fit : fits plan d S ≡ true = both_left (fits plan d S) (all_fit plan ds (do_deed plan d S)) f in
    let one : StaysSpent x S.requests (do_deed plan d S).requests = deed_spent plan d S x fit k old in
    spent_then x S.requests (do_deed plan d S).requests (do_deeds plan ds (do_deed plan d S)).requests one
    (deeds_spent plan ds (do_deed plan d S) x (both_right (fits plan d S) (all_fit plan ds (do_deed plan d S)) f) (deed_keeps plan d S fit (λ _. refl) k) (let long = one.long in omega arith))
