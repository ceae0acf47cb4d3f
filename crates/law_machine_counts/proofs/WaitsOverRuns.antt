-- Whether a call waits is told from the state before it: the test says the same as doing the call's first part and testing.
use Rattle.std.proofs.Common.{if◌then◌else◌, ◌≡◌, ◌≢◌, ℕ, zero, suc, ◌-◌, ◌==◌, ◌≤◌, Bool, true, false, not, ◌&&◌, ◌||◌, List, [], ◌∷◌, fold, count_by, refl, sym, ap, ◌∙◌, arith}
use Rattle.std.specs.List.{list_any}
use Rattle.std.proofs.Math.Bool.{or-false}
use Rattle.wdf_base.specs.Meaning.{Meaning}
use Rattle.wdf_base.specs.declared.plan.Plan.{Plan}
use Rattle.wdf_base.specs.declared.event.Event.{Event}
use Rattle.wdf_base.specs.declared.object.Place.{Place}
use Rattle.wdf_base.specs.declared.object.Place.TheVariants as place
use Rattle.wdf_base.specs.declared.value.Status.TheVariants as status
use Rattle.wdf_base.specs.declared.call.Arg.{Arg}
use Rattle.wdf_base.specs.declared.call.Call.{Call}
use Rattle.wdf_base.specs.declared.call.Callback.TheVariants as callback
use Rattle.wdf_base.specs.declared.call.CallKind.{CallKind}
use Rattle.wdf_base.specs.declared.call.CallKind.TheVariants as call
use Rattle.wdf_base.specs.Places.{is_queued_in, is_returning_to}
use Rattle.wdf_model.specs.declared.enums.Mode.TheVariants as mode
use Rattle.wdf_model.specs.declared.entries.Request.{Request}
use Rattle.wdf_model.specs.Tables.{entry, flag, put}
use Rattle.wdf_model.specs.parts.Requests.{cancelled, info_of, moved, no_request, place_of, request_of}
use Rattle.wdf_model.specs.parts.Queues.{held_count, waiting_in}
use Rattle.wdf_model.specs.parts.Control.{Control, control_of, is_closed}
use Rattle.wdf_model.specs.parts.Control as control
use Rattle.wdf_model.specs.State.{State, is_powered, object_in, returns_to, withdrawn_place}
use Rattle.wdf_model.specs.Plans.{declares, device_of_queue}
use Rattle.wdf_model.specs.Ids.{object_id}
use Rattle.wdf_model.specs.declared.deed.Deed.TheVariants.{PurgeQueue}
use Rattle.wdf_model.specs.rules.Deeds.{do_deed, do_deeds, withdraw}
use Rattle.wdf_model.specs.rules.Calls.{is_met, is_met_then, nothing_held, nothing_returns, outcome, purge_returns}
use Rattle.wdf_model.specs.rules.Ready.{IsRunOf, state_after}
use Rattle.wdf_model.proofs.Maps.{entry_put_other, entry_put_same}
use Rattle.wdf_model.proofs.Counts.{at_head, equal, flag_yes}
use Rattle.law_machine_base.proofs.KeptByDeeds.{KeptIn}
use Rattle.law_machine_base.proofs.LawsOverRuns.{history_now}
use Rattle.wdf_model.proofs.FrameCounts.{flag_small}

-- ---- what is returning after one request is withdrawn

or_turned : (a b : Bool) → (a || b) ≡ (b || a)
or_turned true true = refl
or_turned true false = refl
or_turned false true = refl
or_turned false false = refl

pub or_together : (a b c : Bool) → (a || (b || c)) ≡ ((a || b) || c)
or_together true b c = refl
or_together false b c = refl

-- one entry is written that passed no test before
any_put : {T : Type 0} (p : T → Bool) (blank : T) (xs : List T) (id : ℕ) (new : T) → p blank ≡ false → p (entry blank xs id) ≡ false → list_any p (put blank xs id new) ≡ (list_any p xs || p new)
any_put p blank [] zero new none old = or-false (p new)
any_put p blank [] (suc id) new none old = rw none (any_put p blank [] id new none none)
any_put p blank (x ∷ xs) zero new none old = rw old (or_turned (p new) (list_any p xs))
any_put p blank (x ∷ xs) (suc id) new none old = ap (λ b. p x || b) (any_put p blank xs id new none old) ∙ or_together (p x) (list_any p xs) (p new)

returned_by : (q : ℕ) (a b : Bool) → is_returning_to q (if a && b then place.Returning (record { 0 = q }) else place.Closing status.Cancelled) ≡ (a && b)
returned_by q true true = equal q q refl
returned_by q true false = refl
returned_by q false b = refl

queued_stays : (q p : ℕ) (x : Place) → is_queued_in q x ≡ true → is_returning_to p x ≡ false
queued_stays q p (place.Returning r) h = absurd (let z : ⊥ = cc in z)
queued_stays q p _ h = refl

abbrev returning : ℕ → Request → Bool
returning q r = is_returning_to q r.place

abbrev received : {A : Type 0} → State A → ℕ → Bool
received S r = (info_of S.requests r).received

-- the entries after one request is withdrawn
one_withdrawn : {A : Type 0} (plan : Plan) (q : ℕ) (S : State A) (r : ℕ) → is_queued_in q (place_of S.requests r) ≡ true
    → list_any (returning q) (withdraw plan q S r).requests.all ≡ (list_any (returning q) S.requests.all || (received S r && returns_to plan S q))
one_withdrawn plan q S r queued =
    let was : is_returning_to q (place_of S.requests r) ≡ false = queued_stays q q (place_of S.requests r) queued in
    let old : Request = cancelled (request_of S.requests r) in
    let here : entry no_request (put no_request S.requests.all r old) r ≡ old = entry_put_same no_request S.requests.all r old in
    let first : list_any (returning q) (put no_request S.requests.all r old) ≡ list_any (returning q) S.requests.all =
    any_put (returning q) no_request S.requests.all r old refl was ∙ ap (λ b. list_any (returning q) S.requests.all || b) was ∙ or-false (list_any (returning q) S.requests.all) in
    let p : Place = withdrawn_place plan S q r in
    any_put (returning q) no_request (put no_request S.requests.all r old) r (moved p (entry no_request (put no_request S.requests.all r old) r)) refl (ap (returning q) here ∙ was)
    ∙ ap (λ b. b || is_returning_to q p) first
    ∙ ap (λ b. list_any (returning q) S.requests.all || b) (returned_by q (received S r) (returns_to plan S q))

others_stay : {A : Type 0} (plan : Plan) (q : ℕ) (S : State A) (r x : ℕ) → x ≢ r → request_of (withdraw plan q S r).requests x ≡ request_of S.requests x
others_stay plan q S r x n =
    entry_put_other no_request (put no_request S.requests.all r (cancelled (request_of S.requests r))) r x _ n
    ∙ entry_put_other no_request S.requests.all r x (cancelled (request_of S.requests r)) n

-- ---- a purge

abbrev times : ℕ → List ℕ → ℕ
times x rs = count_by (λ y. y == x) rs

same_any : (p p' : ℕ → Bool) (rs : List ℕ) → ((x : ℕ) → 1 ≤ times x rs → p x ≡ p' x) → list_any p rs ≡ list_any p' rs
same_any p p' [] h = refl
same_any p p' (r ∷ rs) h =
    let one : flag (r == r) ≡ 1 = ap flag (equal r r refl) in
    let first : p r ≡ p' r = h r (let e = at_head r r rs in omega arith) in
    let rest : list_any p rs ≡ list_any p' rs = same_any p p' rs (λ x more. h x (let e = at_head x r rs in omega arith)) in
    ap (λ b. b || list_any p rs) first ∙ ap (λ b. p' r || b) rest

gathered : (a b c d : Bool) → ((a || (b && c)) || (c && d)) ≡ (a || (c && (b || d)))
gathered true b c d = refl
gathered false true true d = refl
gathered false true false d = refl
gathered false false true d = refl
gathered false false false d = refl

differ : (r x : ℕ) (rs : List ℕ) → times r (r ∷ rs) ≤ 1 → 1 ≤ times x rs → x ≢ r
differ r x rs once more = λ e. let head = at_head r r rs in let one : flag (r == r) ≡ 1 = ap flag (equal r r refl) in let it : 1 ≤ times r rs = rw e at more in let z : ⊥ = omega arith in z

none_more : (a b : Bool) → (a || (b && false)) ≡ a
none_more true b = refl
none_more false true = refl
none_more false false = refl

all_withdrawn : {A : Type 0} (plan : Plan) (q : ℕ) (rs : List ℕ) (S : State A) → ((x : ℕ) → times x rs ≤ 1) → ((x : ℕ) → 1 ≤ times x rs → is_queued_in q (place_of S.requests x) ≡ true)
    → list_any (returning q) (fold (withdraw plan q) S rs).requests.all ≡ (list_any (returning q) S.requests.all || (returns_to plan S q && list_any (received S) rs))
all_withdrawn plan q [] S once queued = sym (none_more (list_any (returning q) S.requests.all) (returns_to plan S q))
all_withdrawn plan q (r ∷ rs) S once queued =
    let there : is_queued_in q (place_of S.requests r) ≡ true = queued r (let e = at_head r r rs in let one : flag (r == r) ≡ 1 = ap flag (equal r r refl) in omega arith) in
    all_withdrawn plan q rs (withdraw plan q S r) (λ x. let o = once x in let e = at_head x r rs in omega arith)
    (λ x more. ap (λ (y : Request). is_queued_in q y.place) (others_stay plan q S r x (differ r x rs (once r) more)) ∙ queued x (let e = at_head x r rs in omega arith))
    ∙ ap (λ b. b || (returns_to plan S q && list_any (received (withdraw plan q S r)) rs)) (one_withdrawn plan q S r there)
    ∙ ap (λ b. (list_any (returning q) S.requests.all || (received S r && returns_to plan S q)) || (returns_to plan S q && b))
    (same_any (received (withdraw plan q S r)) (received S) rs (λ x more. ap (λ (y : Request). y.info.received) (others_stay plan q S r x (differ r x rs (once r) more))))
    ∙ gathered (list_any (returning q) S.requests.all) (received S r) (returns_to plan S q) (list_any (received S) rs)

held_still : {A : Type 0} (plan : Plan) (q p : ℕ) (rs : List ℕ) (S : State A) → held_count (fold (withdraw plan q) S rs).queues p ≡ held_count S.queues p
held_still plan q p [] S = refl
held_still plan q p (r ∷ rs) S = held_still plan q p rs (withdraw plan q S r)

-- a purge leaves what is closed as it is
closed_by : (M : Control) (q d : ℕ) (b : Bool) → is_closed M (control_of M q).device.0 ≡ b → is_closed (control.set_mode M q mode.Purged) d ≡ is_closed M d
closed_by M q d true e = rw e refl
closed_by M q d false e = rw e refl

returns_still : {A : Type 0} (plan : Plan) (S : State A) (q : ℕ) → returns_to plan (record S { control = control.set_mode S.control q mode.Purged }) q ≡ returns_to plan S q
returns_still plan S q =
    ap (λ b. declares plan callback.EvtIoCanceledOnQueue q && not b && is_powered plan S q)
    (closed_by S.control q (device_of_queue plan q) (is_closed S.control (control_of S.control q).device.0) refl)

apart : (h a p : Bool) → (h && not (a || p)) ≡ ((h && not a) && not p)
apart true true p = refl
apart true false p = refl
apart false a p = refl

purge_told : {A : Type 0} {F B : ℕ → Bool} (plan : Plan) (S : State A) (q : ℕ) → KeptIn F B S
    → (nothing_held (do_deed plan (PurgeQueue (object_id q)) S) q && nothing_returns (do_deed plan (PurgeQueue (object_id q)) S) q) ≡ ((nothing_held S q && nothing_returns S q) && not (purge_returns plan S q))
purge_told {A} plan S q k =
    let T : State A = record S { control = control.set_mode S.control q mode.Purged } in
    let rs : List ℕ = waiting_in S.queues q in
    let back : list_any (returning q) (fold (withdraw plan q) T rs).requests.all ≡ (list_any (returning q) S.requests.all || (returns_to plan T q && list_any (received T) rs)) =
    all_withdrawn plan q rs T
    (λ x. let is = k.queued q x in let small = flag_small (is_queued_in q (place_of S.requests x)) in omega arith)
    (λ x more. flag_yes (is_queued_in q (place_of S.requests x)) (times x rs - 1) (let is = k.queued q x in omega arith)) in
    ap (λ n. (n == 0) && nothing_returns (fold (withdraw plan q) T rs) q) (held_still plan q q rs T)
    ∙ ap (λ b. nothing_held S q && not b) back
    ∙ ap (λ b. nothing_held S q && not (list_any (returning q) S.requests.all || (b && list_any (received S) rs))) (returns_still plan S q)
    ∙ apart (nothing_held S q) (list_any (returning q) S.requests.all) (purge_returns plan S q)

-- ---- the law

told : {A : Type 0} {F B : ℕ → Bool} (plan : Plan) (S : State A) (cpu f : ℕ) (k : CallKind) (n : ℕ) (a b x : Arg) → KeptIn F B S
    → is_met (do_deeds plan (outcome plan S cpu f (record { kind = k; count = n; a = a; b = b; c = x })).deeds S) (record { kind = k; count = n; a = a; b = b; c = x }) ≡ is_met_then plan S (record { kind = k; count = n; a = a; b = b; c = x })
told plan S cpu f call.WdfIoQueuePurgeSynchronously n a b x k = purge_told plan S (object_in a) k
told plan S cpu f _ n a b x k = refl

pub waits_as_tested : {A : Type 0} (plan : Plan) (m : Meaning A) (run : List Event) (cpu f : ℕ) (c : Call) → IsRunOf plan m run
    → is_met (do_deeds plan (outcome plan (state_after plan m run) cpu f c).deeds (state_after plan m run)) c ≡ is_met_then plan (state_after plan m run) c
waits_as_tested plan m run cpu f c is_run = told plan (state_after plan m run) cpu f c.kind c.count c.a c.b c.c (history_now plan m run is_run).kept
