-- Whether a request was sent to be forgotten, after each change that the targets make.
use Rattle.std.proofs.Common.{if◌then◌else◌, ◌≡◌, ◌≢◌, ℕ, zero, suc, ◌==◌, nat_lt, Bool, true, false, not, ◌&&◌, List, [], ◌∷◌, ◌++◌, Some, None, map, filter, find, count_by, refl, ap, sym, ◌∙◌}
use Rattle.std.specs.List.{flat_map}
use Rattle.std.specs.Option.{option_or}
use Rattle.std.proofs.lemmas.List.Folds.{find-append}
use Rattle.std.proofs.lemmas.List.Elements.{filter-append}
use Rattle.std.proofs.lemmas.List.{map-append}
use Rattle.wdf_base.specs.declared.value.Status.{Status}
use Rattle.wdf_model.specs.declared.entries.Sending.{Sending}
use Rattle.wdf_model.specs.Tables.{entry, put}
use Rattle.wdf_model.specs.parts.Targets.{Target, Targets, done_sending, is_forgotten, is_forgotten_sending, new_sending, no_target, sending_in_order, target_done, the_target, with_target, without_sending}
use Rattle.wdf_model.specs.parts.Targets as targets
use Rattle.wdf_model.proofs.Tests.{both_left, itself, not_false}
use Rattle.wdf_model.proofs.Counts.{by_request, differs, done_asks, found_at_its_target, left_over, none_found, not_equal}
use Rattle.law_machine_base.proofs.Kept.{sends}
use Rattle.law_machine_base.proofs.KeptMoves.{target_elsewhere, target_here}

-- ---- lists

found_after : {X : Type 0} (p : X → Bool) (x : X) (xs ys : List X) → find p xs ≡ find p ys → find p (x ∷ xs) ≡ find p (x ∷ ys)
found_after p x xs ys h = ap (λ y. if p x then Some x else y) h

passed : {X : Type 0} (p : X → Bool) (x : X) (xs : List X) → p x ≡ false → find p (x ∷ xs) ≡ find p xs
passed p x xs h = rw h refl

found_first : {X : Type 0} (p : X → Bool) (x : X) (xs : List X) → p x ≡ true → find p (x ∷ xs) ≡ Some x
found_first p x xs h = rw h refl

filtered_by : {X : Type 0} (p keep : X → Bool) (x : X) (xs : List X) (b : Bool) → keep x ≡ b → (keep x ≡ false → p x ≡ false) → find p (filter keep xs) ≡ find p xs
    → find p (filter keep (x ∷ xs)) ≡ find p (x ∷ xs)
filtered_by p keep x xs true e h rest = rw e (found_after p x (filter keep xs) xs rest)
filtered_by p keep x xs false e h rest = rw e (rest ∙ sym (passed p x xs (h e)))

-- what is filtered away isn't found
found_in_filter : {X : Type 0} (p keep : X → Bool) → ((x : X) → keep x ≡ false → p x ≡ false) → (xs : List X) → find p (filter keep xs) ≡ find p xs
found_in_filter p keep h [] = refl
found_in_filter p keep h (x ∷ xs) = filtered_by p keep x xs (keep x) refl (h x) (found_in_filter p keep h xs)

mapped_by : {X : Type 0} (p : X → Bool) (g : X → X) (x : X) (xs : List X) (b : Bool) → p x ≡ b → p (g x) ≡ p x → (p x ≡ true → g x ≡ x) → find p (map g xs) ≡ find p xs
    → find p (map g (x ∷ xs)) ≡ find p (x ∷ xs)
mapped_by p g x xs true e asks same rest = rw (same e) (found_after p x (map g xs) xs rest)
mapped_by p g x xs false e asks same rest = passed p (g x) (map g xs) (asks ∙ e) ∙ rest ∙ sym (passed p x xs e)

-- what is found isn't changed
found_in_map : {X : Type 0} (p : X → Bool) (g : X → X) → ((x : X) → p (g x) ≡ p x) → ((x : X) → p x ≡ true → g x ≡ x) → (xs : List X) → find p (map g xs) ≡ find p xs
found_in_map p g asks same [] = refl
found_in_map p g asks same (x ∷ xs) = mapped_by p g x xs (p x) refl (asks x) (same x) (found_in_map p g asks same xs)

-- ---- a target's sendings

ordered_by : (p : Sending → Bool) (s x : Sending) (xs : List Sending) (b : Bool) → nat_lt s.request.0 x.request.0 ≡ b → p s ≡ false
    → find p (sending_in_order s xs) ≡ find p xs → find p (sending_in_order s (x ∷ xs)) ≡ find p (x ∷ xs)
ordered_by p s x xs true e h rest = rw e (passed p s (x ∷ xs) h)
ordered_by p s x xs false e h rest = rw e (found_after p x (sending_in_order s xs) xs rest)

-- another is sent
found_in_order : (p : Sending → Bool) (s : Sending) → p s ≡ false → (xs : List Sending) → find p (sending_in_order s xs) ≡ find p xs
found_in_order p s h [] = passed p s [] h
found_in_order p s h (x ∷ xs) = ordered_by p s x xs (nat_lt s.request.0 x.request.0) refl h (found_in_order p s h xs)

it_by : (p : Sending → Bool) (s x : Sending) (xs : List Sending) (b : Bool) → nat_lt s.request.0 x.request.0 ≡ b → p s ≡ true → p x ≡ false
    → find p (sending_in_order s xs) ≡ Some s → find p (sending_in_order s (x ∷ xs)) ≡ Some s
it_by p s x xs true e h n rest = rw e (found_first p s (x ∷ xs) h)
it_by p s x xs false e h n rest = rw e (passed p x (sending_in_order s xs) n ∙ rest)

not_first : (p : Sending → Bool) (x : Sending) (xs : List Sending) (b : Bool) → p x ≡ b → find p (x ∷ xs) ≡ None → (p x ≡ false) × (find p xs ≡ None)
not_first p x xs true e h = absurd (let k : Some x ≡ None = sym (found_first p x xs e) ∙ h in let z : ⊥ = cc in z)
not_first p x xs false e h = (e, sym (passed p x xs e) ∙ h)

-- one that wasn't there is sent
found_in_its_order : (p : Sending → Bool) (s : Sending) → p s ≡ true → (xs : List Sending) → find p xs ≡ None → find p (sending_in_order s xs) ≡ Some s
found_in_its_order p s h [] n = found_first p s [] h
found_in_its_order p s h (x ∷ xs) n =
    let parts = not_first p x xs (p x) refl n in
    it_by p s x xs (nat_lt s.request.0 x.request.0) refl h parts.0 (found_in_its_order p s h xs parts.1)

unchanged_by : (r : ℕ) (status : Status) (s : Sending) (b : Bool) → (s.request.0 == r) ≡ b → b ≡ false → done_sending r status s ≡ s
unchanged_by r status s true e f = absurd (let z : ⊥ = cc in z)
unchanged_by r status s false e f = rw e refl

-- the target is done with another
found_in_left : (r x : ℕ) (status : Status) → x ≢ r → (xs : List Sending) → find (λ s. s.request.0 == x) (left_over r status xs) ≡ find (λ s. s.request.0 == x) xs
found_in_left r x status n xs =
    found_in_filter (λ s. s.request.0 == x) (λ s. not (s.request.0 == r && s.forgotten))
    (λ s e. differs s.request.0 r x (both_left (s.request.0 == r) s.forgotten (not_false (s.request.0 == r && s.forgotten) e)) (λ f. n (sym f))) (map (done_sending r status) xs)
    ∙ found_in_map (λ s. s.request.0 == x) (done_sending r status) (λ s. by_request x r status s) (λ s e. unchanged_by r status s (s.request.0 == r) refl (differs s.request.0 x r e n)) xs

-- another comes back
found_in_back : (r x : ℕ) → x ≢ r → (xs : List Sending) → find (λ s. s.request.0 == x) (filter (λ s. not (s.request.0 == r)) xs) ≡ find (λ s. s.request.0 == x) xs
found_in_back r x n xs = found_in_filter (λ s. s.request.0 == x) (λ s. not (s.request.0 == r)) (λ s e. differs s.request.0 r x (not_false (s.request.0 == r) e) (λ f. n (sym f))) xs

-- ---- all targets

abbrev sent_to_all : List Target → List Sending
sent_to_all ts = flat_map (λ t. t.sent) ts

found_in_put : (p : Sending → Bool) (ts : List Target) (t : ℕ) (new : Target) → find p new.sent ≡ find p (entry no_target ts t).sent → find p (sent_to_all (put no_target ts t new)) ≡ find p (sent_to_all ts)
found_in_put p [] zero new h = find-append p new.sent [] ∙ ap (λ o. option_or o None) h
found_in_put p [] (suc t) new h = found_in_put p [] t new h
found_in_put p (y ∷ ys) zero new h = find-append p new.sent (sent_to_all ys) ∙ ap (λ o. option_or o (find p (sent_to_all ys))) h ∙ sym (find-append p y.sent (sent_to_all ys))
found_in_put p (y ∷ ys) (suc t) new h =
    find-append p y.sent (sent_to_all (put no_target ys t new)) ∙ ap (λ o. option_or (find p y.sent) o) (found_in_put p ys t new h) ∙ sym (find-append p y.sent (sent_to_all ys))

found_in_all : (p : Sending → Bool) (g : Target → Target) → ((y : Target) → find p (g y).sent ≡ find p y.sent) → (ts : List Target) → find p (sent_to_all (map g ts)) ≡ find p (sent_to_all ts)
found_in_all p g h [] = refl
found_in_all p g h (y ∷ ys) =
    find-append p (g y).sent (sent_to_all (map g ys)) ∙ ap (λ o. option_or o (find p (sent_to_all (map g ys)))) (h y)
    ∙ ap (λ o. option_or (find p y.sent) o) (found_in_all p g h ys) ∙ sym (find-append p y.sent (sent_to_all ys))

-- ---- the other requests

pub sent_other : (T : Targets) (t r x : ℕ) (forget : Bool) → x ≢ r → is_forgotten (targets.send T t r forget) x ≡ is_forgotten T x
sent_other T t r x forget n =
    ap is_forgotten_sending (found_in_put (λ s. s.request.0 == x) T.targets t (record (the_target T t) { sent = sending_in_order (new_sending r forget) (the_target T t).sent })
    (found_in_order (λ s. s.request.0 == x) (new_sending r forget) (not_equal r x (λ e. n (sym e))) (the_target T t).sent))

pub done_other : (T : Targets) (r x : ℕ) (status : Status) → x ≢ r → is_forgotten (targets.done T r status) x ≡ is_forgotten T x
done_other T r x status n = ap is_forgotten_sending (found_in_all (λ s. s.request.0 == x) (target_done r status) (λ y. found_in_left r x status n y.sent) T.targets)

pub back_other : (T : Targets) (r x : ℕ) → x ≢ r → is_forgotten (targets.back T r) x ≡ is_forgotten T x
back_other T r x n = ap is_forgotten_sending (found_in_all (λ s. s.request.0 == x) (without_sending r) (λ y. found_in_back r x n y.sent) T.targets)

-- ---- the request itself

-- it is forgotten as it is sent
pub sent_itself : (T : Targets) (t r : ℕ) (forget : Bool) → ((u : ℕ) → sends T u r ≡ 0) → is_forgotten (targets.send T t r forget) r ≡ forget
sent_itself T t r forget none =
    ap is_forgotten_sending
    (found_at_its_target r (targets.send T t r forget).targets t
    (λ u n. ap (λ (y : Target). count_by (λ s. s.request.0 == r) y.sent) (target_elsewhere T t u (λ y. record y { sent = sending_in_order (new_sending r forget) y.sent }) n) ∙ none u)
    ∙ ap (λ (y : Target). find (λ s. s.request.0 == r) y.sent) (target_here T t (λ y. record y { sent = sending_in_order (new_sending r forget) y.sent }))
    ∙ found_in_its_order (λ s. s.request.0 == r) (new_sending r forget) (itself r) (the_target T t).sent (none_found (λ s. s.request.0 == r) (the_target T t).sent (none t)))

remembered_by : (r : ℕ) (status : Status) (s : Sending) (xs : List Sending) (b : Bool) → (s.request.0 == r) ≡ b → is_forgotten_sending (find (λ y. y.request.0 == r) (s ∷ xs)) ≡ false
    → (is_forgotten_sending (find (λ y. y.request.0 == r) xs) ≡ false → is_forgotten_sending (find (λ y. y.request.0 == r) (left_over r status xs)) ≡ false)
    → is_forgotten_sending (find (λ y. y.request.0 == r) (left_over r status (s ∷ xs))) ≡ false
remembered_by r status s xs true e h rest =
    let f : s.forgotten ≡ false = sym (ap is_forgotten_sending (found_first (λ y. y.request.0 == r) s xs e)) ∙ h in
    let stays : (not ((done_sending r status s).request.0 == r && (done_sending r status s).forgotten)) ≡ true = rw ((done_asks r status s).0, (done_asks r status s).1, e, f) refl in
    rw stays (ap is_forgotten_sending (found_first (λ y. y.request.0 == r) (done_sending r status s) (left_over r status xs) (by_request r r status s ∙ e)) ∙ (done_asks r status s).1 ∙ f)
remembered_by r status s xs false e h rest =
    let stays : (not ((done_sending r status s).request.0 == r && (done_sending r status s).forgotten)) ≡ true = rw ((done_asks r status s).0, e) refl in
    rw stays
    (ap is_forgotten_sending (passed (λ y. y.request.0 == r) (done_sending r status s) (left_over r status xs) (by_request r r status s ∙ e))
    ∙ rest (sym (ap is_forgotten_sending (passed (λ y. y.request.0 == r) s xs e)) ∙ h))

remembered : (r : ℕ) (status : Status) (xs : List Sending) → is_forgotten_sending (find (λ y. y.request.0 == r) xs) ≡ false → is_forgotten_sending (find (λ y. y.request.0 == r) (left_over r status xs)) ≡ false
remembered r status [] h = refl
remembered r status (s ∷ xs) h = remembered_by r status s xs (s.request.0 == r) refl h (remembered r status xs)

-- what is left over of all sendings
left_of_all : (r : ℕ) (status : Status) (ts : List Target) → sent_to_all (map (target_done r status) ts) ≡ left_over r status (sent_to_all ts)
left_of_all r status [] = refl
left_of_all r status (y ∷ ys) =
    ap (λ xs. left_over r status y.sent ++ xs) (left_of_all r status ys)
    ∙ sym (filter-append (λ s. not (s.request.0 == r && s.forgotten)) (map (done_sending r status) y.sent) (map (done_sending r status) (sent_to_all ys)))
    ∙ ap (λ xs. filter (λ s. not (s.request.0 == r && s.forgotten)) xs) (sym (map-append (done_sending r status) y.sent (sent_to_all ys)))

-- one that comes back does so when its target is done with it
pub done_itself : (T : Targets) (r : ℕ) (status : Status) → is_forgotten T r ≡ false → is_forgotten (targets.done T r status) r ≡ false
done_itself T r status h =
    ap (λ xs. is_forgotten_sending (find (λ y. y.request.0 == r) xs)) (left_of_all r status T.targets) ∙ remembered r status (sent_to_all T.targets) h

-- a target is stopped or started
pub stops_other : (T : Targets) (t x : ℕ) (b : Bool) → is_forgotten (with_target T t (λ y. record y { stopped = b })) x ≡ is_forgotten T x
stops_other T t x b = ap is_forgotten_sending (found_in_put (λ s. s.request.0 == x) T.targets t (record (the_target T t) { stopped = b }) refl)
