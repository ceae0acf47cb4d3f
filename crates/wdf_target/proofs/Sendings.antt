-- What is sent to one target, after its acts.
use Rattle.std.proofs.Common.{if◌then◌else◌, ◌≡◌, ◌≢◌, ℕ, suc, ◌<◌, Bool, true, false, not, ◌==◌, ◌&&◌, List, [], ◌∷◌, map, filter, Some, None, is_some, refl, sym, ap, ◌∙◌, subst, arith}
use Rattle.std.proofs.lemmas.Bool.{eqb-true}
use Rattle.std.proofs.lemmas.Bool.Decides.{nat_tests}
use Rattle.wdf_base.specs.declared.value.Status.{Status}
use Rattle.wdf_model.specs.declared.entries.Sending.{Sending}
use Rattle.wdf_model.specs.parts.Targets.{Target, done_sending, target_done, without_sending, new_sending, sending_in_order}
use Rattle.wdf_maps.specs.Places.{rises, entry_of, others, with_entry}
use Rattle.wdf_maps.proofs.PlacesOfKeys.{none_below, rises_rest, rises_with_entry}
use Rattle.wdf_maps.proofs.EntriesById.{entry_below, entry_key, others_absent, map_absent, map_present, entry_put, entry_removed}
use Rattle.wdf_target.specs.Target.{request_id}

-- the test of `target_done`
abbrev pub stays : ℕ → Sending → Bool
stays r s = not (s.request.0 == r && s.forgotten)

-- ---- a request that it doesn't hold

all_stay : (r : ℕ) (xs : List Sending) → entry_of request_id xs r ≡ None → filter (stays r) xs ≡ xs
all_stay r [] h = refl
all_stay r (x ∷ xs) h = let e : entry_of request_id xs r ≡ None → filter (stays r) xs ≡ xs = all_stay r xs in grind (arith, nat_tests)

pub done_absent : (r : ℕ) (status : Status) (t : Target) → entry_of request_id t.sent r ≡ None → target_done r status t ≡ t
done_absent r status t h =
    let mapped : map (done_sending r status) t.sent ≡ t.sent = map_absent request_id (λ s. record s { outcome = Some status }) r t.sent h in
    let Q : List Sending → Target = λ xs. record t { sent = xs } in
    ap Q (ap (filter (stays r)) mapped ∙ all_stay r t.sent h)

pub without_absent : (r : ℕ) (t : Target) → entry_of request_id t.sent r ≡ None → without_sending r t ≡ t
without_absent r t h = let Q : List Sending → Target = λ xs. record t { sent = xs } in ap Q (others_absent request_id r t.sent h)

-- ---- the others

pub done_others : (r : ℕ) (status : Status) (other : ℕ) (xs : List Sending) → other ≢ r → entry_of request_id (filter (stays r) (map (done_sending r status) xs)) other ≡ entry_of request_id xs other
done_others r status other [] h = refl
done_others r status other (x ∷ xs) h =
    let e : entry_of request_id (filter (stays r) (map (done_sending r status) xs)) other ≡ entry_of request_id xs other = done_others r status other xs h in
    done_others_by r status other x xs (x.request.0 == r) x.forgotten refl refl h e
  where
    other_id : (a r other : ℕ) → (a == r) ≡ true → other ≢ r → (a == other) ≡ false
    other_id a r other e h = grind (arith, nat_tests)

    done_others_by : (r : ℕ) (status : Status) (other : ℕ) (x : Sending) (xs : List Sending) (b f : Bool) → (x.request.0 == r) ≡ b → x.forgotten ≡ f → other ≢ r
        → entry_of request_id (filter (stays r) (map (done_sending r status) xs)) other ≡ entry_of request_id xs other
        → entry_of request_id (filter (stays r) (map (done_sending r status) (x ∷ xs))) other ≡ entry_of request_id (x ∷ xs) other
    done_others_by r status other x xs false f b_is f_is h e = rw (b_is, b_is, e) refl
    done_others_by r status other x xs true true b_is f_is h e = let ne : (x.request.0 == other) ≡ false = other_id x.request.0 r other b_is h in rw (b_is, b_is, f_is, ne, e) refl
    done_others_by r status other x xs true false b_is f_is h e = let ne : (x.request.0 == other) ≡ false = other_id x.request.0 r other b_is h in rw (b_is, b_is, f_is, ne, e) refl

-- ---- the request

first_or_later : (r : ℕ) (x : Sending) (xs : List Sending) (s : Sending) (b : Bool) → (x.request.0 == r) ≡ b → entry_of request_id (x ∷ xs) r ≡ Some s → (if b then Some x else entry_of request_id xs r) ≡ Some s
first_or_later r x xs s b e h = rw e at h

same_some : (x s : Sending) → Some x ≡ Some s → x ≡ s
same_some x s e = cc

rest_absent : (low high r : ℕ) (x : Sending) (xs : List Sending) → rises request_id low high (x ∷ xs) ≡ true → (x.request.0 == r) ≡ true → entry_of request_id xs r ≡ None
rest_absent low high r x xs h e =
    let same : x.request.0 ≡ r = eqb-true x.request.0 r e in
    none_below request_id (suc x.request.0) high r xs (rises_rest request_id low high x xs h) (omega arith)

mapped_absent : (r : ℕ) (status : Status) (xs : List Sending) → entry_of request_id xs r ≡ None → filter (stays r) (map (done_sending r status) xs) ≡ xs
mapped_absent r status xs h = ap (filter (stays r)) (map_absent request_id (λ s. record s { outcome = Some status }) r xs h) ∙ all_stay r xs h

pub done_forgotten : (low high r : ℕ) (status : Status) (xs : List Sending) (s : Sending) → rises request_id low high xs ≡ true → entry_of request_id xs r ≡ Some s → s.forgotten ≡ true
    → filter (stays r) (map (done_sending r status) xs) ≡ others request_id r xs
done_forgotten low high r status [] s h e f = absurd (let z : ⊥ = cc in z)
done_forgotten low high r status (x ∷ xs) s h e f =
    goes low high r status x xs s (x.request.0 == r) refl h (first_or_later r x xs s (x.request.0 == r) refl e) f (λ later. done_forgotten (suc x.request.0) high r status xs s (rises_rest request_id low high x xs h) later f)
  where
    goes : (low high r : ℕ) (status : Status) (x : Sending) (xs : List Sending) (s : Sending) (b : Bool) → (x.request.0 == r) ≡ b → rises request_id low high (x ∷ xs) ≡ true
        → (if b then Some x else entry_of request_id xs r) ≡ Some s → s.forgotten ≡ true
        → (entry_of request_id xs r ≡ Some s → filter (stays r) (map (done_sending r status) xs) ≡ others request_id r xs)
        → filter (stays r) (map (done_sending r status) (x ∷ xs)) ≡ others request_id r (x ∷ xs)
    goes low high r status x xs s true b_is h e f later =
        let none = rest_absent low high r x xs h b_is in
        let forgotten : x.forgotten ≡ true = ap (λ y. y.forgotten) (same_some x s e) ∙ f in
        rw (b_is, b_is, forgotten) (mapped_absent r status xs none ∙ sym (others_absent request_id r xs none))
    goes low high r status x xs s false b_is h e f later = rw (b_is, b_is) (ap (λ ys. x ∷ ys) (later e))

filter_keeps : (p : Sending → Bool) (x : Sending) (xs ys : List Sending) → p x ≡ true → filter p xs ≡ ys → filter p (x ∷ xs) ≡ x ∷ ys
filter_keeps p x xs ys e h = rw e (ap (λ zs. x ∷ zs) h)

unforgotten : (r : ℕ) (x : Sending) → x.forgotten ≡ false → stays r x ≡ true
unforgotten r x f = ap (λ b. not (x.request.0 == r && b)) f ∙ never (x.request.0 == r)
  where
    never : (b : Bool) → not (b && false) ≡ true
    never true = refl
    never false = refl

-- one that isn't forgotten stays
one_stays : (low high r : ℕ) (xs : List Sending) (s : Sending) → rises request_id low high xs ≡ true → entry_of request_id xs r ≡ Some s → s.forgotten ≡ false → filter (stays r) xs ≡ xs
one_stays low high r [] s h e f = refl
one_stays low high r (x ∷ xs) s h e f =
    kept low high r x xs s (x.request.0 == r) refl h (first_or_later r x xs s (x.request.0 == r) refl e) f (λ later. one_stays (suc x.request.0) high r xs s (rises_rest request_id low high x xs h) later f)
  where
    kept : (low high r : ℕ) (x : Sending) (xs : List Sending) (s : Sending) (b : Bool) → (x.request.0 == r) ≡ b → rises request_id low high (x ∷ xs) ≡ true
        → (if b then Some x else entry_of request_id xs r) ≡ Some s → s.forgotten ≡ false
        → (entry_of request_id xs r ≡ Some s → filter (stays r) xs ≡ xs)
        → filter (stays r) (x ∷ xs) ≡ x ∷ xs
    kept low high r x xs s true b_is h e f later =
        let forgotten : x.forgotten ≡ false = ap (λ y. y.forgotten) (same_some x s e) ∙ f in
        filter_keeps (stays r) x xs xs (unforgotten r x forgotten) (all_stay r xs (rest_absent low high r x xs h b_is))
    kept low high r x xs s false b_is h e f later = rw b_is (ap (λ ys. x ∷ ys) (later e))

pub done_kept : (high r : ℕ) (status : Status) (xs : List Sending) (s : Sending) → rises request_id 0 high xs ≡ true → entry_of request_id xs r ≡ Some s → s.forgotten ≡ false
    → filter (stays r) (map (done_sending r status) xs) ≡ with_entry request_id (record s { outcome = Some status }) xs
done_kept high r status xs s h e f =
    let new : Sending = record s { outcome = Some status } in
    let id : s.request.0 ≡ r = entry_key request_id r xs s e in
    let below : r < high = entry_below request_id 0 high r xs s h e in
    let mapped : map (done_sending r status) xs ≡ with_entry request_id new xs = map_present request_id (λ y. record y { outcome = Some status }) high r xs s h e id in
    let P : ℕ → Type 0 = λ n. entry_of request_id (with_entry request_id new xs) n ≡ Some new in
    let there = subst P id (entry_put request_id new xs) in
    ap (filter (stays r)) mapped ∙ one_stays 0 high r (with_entry request_id new xs) new (rises_with_entry request_id high new xs (omega arith) h) there f

-- ---- what the acts leave

pub added : (t : Target) (r : ℕ) (forget : Bool) (sent after : List Sending) (depth : ℕ) (stopped : Bool) → record { depth = depth; stopped = stopped; sent = sent } ≡ t
    → entry_of request_id t.sent r ≡ None → after ≡ with_entry request_id (new_sending r forget) sent
    → record { depth = depth; stopped = stopped; sent = after } ≡ record t { sent = sending_in_order (new_sending r forget) t.sent }
added t r forget sent after depth stopped e none is =
    let Q : List Sending → Target = λ xs. record t { sent = xs } in
    let P : Target → Type 0 = λ u. record { depth = depth; stopped = stopped; sent = after } ≡ record u { sent = after } in
    let same : sent ≡ t.sent = ap (λ u. u.sent) e in
    subst P e refl ∙ ap Q (is ∙ (ap (with_entry request_id (new_sending r forget)) same ∙ ap (sending_in_order (new_sending r forget)) (others_absent request_id r t.sent none)))

pub finished_forgotten : (t : Target) (high r : ℕ) (status : Status) (sent after : List Sending) (depth : ℕ) (stopped : Bool) (s : Sending) → record { depth = depth; stopped = stopped; sent = sent } ≡ t
    → rises request_id 0 high sent ≡ true → entry_of request_id sent r ≡ Some s → s.forgotten ≡ true → after ≡ others request_id r sent
    → (record { depth = depth; stopped = stopped; sent = after } ≡ target_done r status t) × (is_some (entry_of request_id after r) ≡ false)
finished_forgotten t high r status sent after depth stopped s e h there f is =
    let Q : List Sending → Target = λ xs. record { depth = depth; stopped = stopped; sent = xs } in
    let a : after ≡ filter (stays r) (map (done_sending r status) sent) = is ∙ sym (done_forgotten 0 high r status sent s h there f) in
    (ap Q a ∙ ap (target_done r status) e, ap (λ xs. is_some (entry_of request_id xs r)) is ∙ ap is_some (entry_removed request_id r sent))

pub finished_kept : (t : Target) (high r : ℕ) (status : Status) (sent after : List Sending) (depth : ℕ) (stopped : Bool) (s : Sending) → record { depth = depth; stopped = stopped; sent = sent } ≡ t
    → rises request_id 0 high sent ≡ true → entry_of request_id sent r ≡ Some s → s.forgotten ≡ false → after ≡ with_entry request_id (record s { outcome = Some status }) sent
    → (record { depth = depth; stopped = stopped; sent = after } ≡ target_done r status t) × (is_some (entry_of request_id after r) ≡ true)
finished_kept t high r status sent after depth stopped s e h there f is =
    let new : Sending = record s { outcome = Some status } in
    let Q : List Sending → Target = λ xs. record { depth = depth; stopped = stopped; sent = xs } in
    let a : after ≡ filter (stays r) (map (done_sending r status) sent) = is ∙ sym (done_kept high r status sent s h there f) in
    let id : s.request.0 ≡ r = entry_key request_id r sent s there in
    let P : ℕ → Type 0 = λ n. entry_of request_id (with_entry request_id new sent) n ≡ Some new in
    let put : entry_of request_id (with_entry request_id new sent) r ≡ Some new = subst P id (entry_put request_id new sent) in
    (ap Q a ∙ ap (target_done r status) e, ap (λ xs. is_some (entry_of request_id xs r)) is ∙ ap is_some put)
