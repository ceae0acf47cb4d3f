-- A request is presented in its turn, by what its queue has presented.
use Rattle.std.proofs.Common.{◌≡◌, ℕ, zero, suc, ◌+◌, ◌<◌, ◌≤◌, Bool, true, false, not, ◌==◌, ◌&&◌, ◌||◌, if◌then◌else◌, nat_lt, nat_le, nat_eq, max, ◌⊎◌, inl, inr, List, [], ◌∷◌, length, take, drop, slice_get, Option, Some, None, refl, sym, ap, ◌∙◌, arith}
use Rattle.std.specs.List.{list_any}
use Rattle.std.proofs.lemmas.Bool.{cases_lt}
use Rattle.std.proofs.lemmas.Bool.Decides.{nat_tests}
use Rattle.std.proofs.lemmas.List.{take-take, drop_all, drop-append-le, length-take, length-take-le}
use Rattle.std.proofs.lemmas.List.Folds.{list_any-append}
use Rattle.std.proofs.lemmas.Option.{slice_get_within}
use Rattle.std.proofs.Math.Bool.{and-true}
use Rattle.wdf_base.specs.declared.event.Event.{Event}
use Rattle.wdf_laws.specs.declared.sign.Sign.{Sign}
use Rattle.wdf_laws.specs.declared.sign.Sign.TheVariants as sign
use Rattle.wdf_laws.specs.declared.sign.Taking.{Taking}
use Rattle.wdf_laws.specs.Signs.{shows}
use Rattle.wdf_laws.specs.Words.{ever}
use Rattle.wdf_laws.specs.Events.{is_id, where_so}
use Rattle.wdf_laws.specs.Laws.{came_at_head, is_in_order, waited, is_in_turn, presented_in, all_in_turn, is_presented_in_turn}
use Rattle.wdf_model.proofs.Runs.{take_next, slice_get-take, take_ended}
use Rattle.check_past.specs.declared.shown.Shown.{Shown}
use Rattle.check_past.specs.Last.{shows_in, last}
use Rattle.check_trace.specs.Order.{covers, is_next}
use Rattle.check_past.specs.Order.{shown_by, with_entry, tail_entry, with_number, tail_number, with_head, heads}
use Rattle.check_past.specs.Past.{Read, before}
use Rattle.check_past.proofs.Words.{ever_next, ever_last, stands_last, last_within}

-- ---- when a sign came last, in a part of the events

kept_case : (b : Bool) (k m l : ℕ) → k ≤ m → (if b then suc m else l) ≤ k → (if b then suc m else l) ≡ l
kept_case true k m l h le = absurd (let below : suc m ≤ k = le in omega arith)
kept_case false k m l h le = refl

kept_where : (p : Sign) (all : List Event) (k m : ℕ) → (k ≤ m → last p all m ≤ k → last p all k ≡ last p all m) → (k < suc m) ⊎ (suc m ≤ k) → k ≤ suc m → last p all (suc m) ≤ k → last p all k ≡ last p all (suc m)
unfolding last
kept_where p all k m later (inl b) h le =
    let same : last p all (suc m) ≡ last p all m = kept_case (shows_in p (slice_get all m)) k m (last p all m) (omega arith) le in
    later (omega arith) (omega (arith, same, le)) ∙ sym same
kept_where p all k m later (inr b) h le = let e : k ≡ suc m = omega arith in ap (last p all) e

-- a sign that didn't come after the first k events came last among them
pub last_kept : (p : Sign) (all : List Event) (k n : ℕ) → k ≤ n → last p all n ≤ k → last p all k ≡ last p all n
last_kept p all k zero h le = let e : k ≡ 0 = omega arith in ap (last p all) e
last_kept p all k (suc m) h le = kept_where p all k m (last_kept p all k m) (cases_lt k (suc m)) h le

-- ---- a sign among the events after the first k

after_case : (c b : Bool) (k m l : ℕ) → k ≤ m → c ≡ nat_lt k l → (c || b) ≡ nat_lt k (if b then suc m else l)
after_case true true k m l h e = grind (arith, nat_tests)
after_case true false k m l h e = e
after_case false true k m l h e = grind (arith, nat_tests)
after_case false false k m l h e = e

none_after : (k l : ℕ) → l ≤ k → false ≡ nat_lt k l
none_after k l h = grind (arith, nat_tests)

no_more : (p : Sign) (all : List Event) (k n : ℕ) → n ≤ k → ever p (drop k (take n all)) ≡ nat_lt k (last p all n)
unfolding ever
no_more p all k n h =
    let short : length (take n all) ≤ k = simp length-take (omega arith) in
    let below : last p all n ≤ n = last_within p all n in
    ap (ever p) (drop_all k (take n all) short) ∙ none_after k (last p all n) (omega arith)

ever_more : (p : Sign) (all : List Event) (k m : ℕ) (o : Option Event) → slice_get all m ≡ o → k ≤ m → ever p (drop k (take m all)) ≡ nat_lt k (last p all m)
    → ever p (drop k (take (suc m) all)) ≡ nat_lt k (if shows_in p o then suc m else last p all m)
ever_more p all k m None h le so_far = ap (λ es. ever p (drop k es)) (take_ended all m h) ∙ so_far
ever_more p all k m (Some e) h le so_far =
    let within : m < length all = slice_get_within all m e h in
    let enough : k ≤ length (take m all) = simp length-take (omega arith) in
    ap (λ es. ever p (drop k es)) (take_next all m e h) ∙ ap (ever p) (drop-append-le k (take m all) (e ∷ []) enough)
    ∙ ever_next p (drop k (take m all)) e
    ∙ after_case (ever p (drop k (take m all))) (shows p e) k m (last p all m) le so_far

ever_where : (p : Sign) (all : List Event) (k m : ℕ) → (k < suc m) ⊎ (suc m ≤ k) → (k ≤ m → ever p (drop k (take m all)) ≡ nat_lt k (last p all m)) → ever p (drop k (take (suc m) all)) ≡ nat_lt k (last p all (suc m))
unfolding last
ever_where p all k m (inl b) so_far = ever_more p all k m (slice_get all m) refl (omega arith) (so_far (omega arith))
ever_where p all k m (inr b) so_far = no_more p all k (suc m) b

-- an event with the sign came after the first k of n
pub ever_after : (p : Sign) (all : List Event) (k n : ℕ) → k ≤ n → ever p (drop k (take n all)) ≡ nat_lt k (last p all n)
ever_after p all k zero h = no_more p all k zero (omega arith)
ever_after p all k (suc m) h = ever_where p all k m (cases_lt k (suc m)) (ever_after p all k m)

-- ---- an entry at the head is an entry

shows_entry : (r : ℕ) (o : Option Event) → shows_in (sign.AtHead r) o ≡ true → shows_in (sign.Entry r) o ≡ true
shows_entry r None h = h
shows_entry r (Some e) h = rw h refl

head_case : (b c : Bool) (k l m : ℕ) → (b ≡ true → c ≡ true) → l ≤ k → l ≤ m → (if b then suc k else l) ≤ (if c then suc k else m)
head_case true c k l m only h le = rw (only refl) (omega arith)
head_case false true k l m only h le = omega arith
head_case false false k l m only h le = le

head_below : (r : ℕ) (all : List Event) (k : ℕ) → last (sign.AtHead r) all k ≤ last (sign.Entry r) all k
unfolding last
head_below r all zero = omega arith
head_below r all (suc k) =
    head_case (shows_in (sign.AtHead r) (slice_get all k)) (shows_in (sign.Entry r) (slice_get all k)) k (last (sign.AtHead r) all k) (last (sign.Entry r) all k) (shows_entry r (slice_get all k))
    (last_within (sign.AtHead r) all k) (head_below r all k)

-- whether the last entry was at the head, where no entry came since
head_kept : (r : ℕ) (all : List Event) (k n : ℕ) → k ≤ n → last (sign.Entry r) all n ≤ k → came_at_head (take k all) r ≡ came_at_head (take n all) r
head_kept r all k n h le =
    let below : last (sign.AtHead r) all n ≤ last (sign.Entry r) all n = head_below r all n in
    let a : last (sign.AtHead r) all k ≡ last (sign.AtHead r) all n = last_kept (sign.AtHead r) all k n h (omega arith) in
    let b : last (sign.Entry r) all k ≡ last (sign.Entry r) all n = last_kept (sign.Entry r) all k n h le in
    stands_last (sign.AtHead r) (sign.Entry r) all k ∙ ap (λ x. nat_lt 0 x && nat_le (last (sign.Entry r) all k) x) a
    ∙ ap (λ x. nat_lt 0 (last (sign.AtHead r) all n) && nat_le x (last (sign.AtHead r) all n)) b
    ∙ sym (stands_last (sign.AtHead r) (sign.Entry r) all n)

-- ---- one presentation

-- a presentation after k events, of a request with this entry, was in its turn
abbrev pub is_turn : ℕ → ℕ → ℕ → Bool → Bool → Bool
is_turn k entry earlier at_head earlier_at_head =
    not (nat_lt 0 earlier && nat_lt 0 entry && nat_le entry k) || (if earlier_at_head then (not at_head || nat_lt entry earlier) else (not at_head && nat_lt earlier entry))

waited_after : (k entry earlier at : ℕ) (at_head earlier_at_head was : Bool) → k < entry
    → (not (nat_lt 0 earlier && nat_lt 0 at && not (nat_lt k entry))
    || (if earlier_at_head then (not was || (nat_lt 0 at && not (nat_lt 0 at && nat_le earlier at))) else (not was && (nat_lt 0 earlier && not (nat_lt 0 earlier && nat_le at earlier)))))
    ≡ is_turn k entry earlier at_head earlier_at_head
waited_after k entry earlier at at_head earlier_at_head was h = grind (arith, nat_tests)

waited_before : (k entry earlier : ℕ) (at_head earlier_at_head : Bool) → entry ≤ k
    → (not (nat_lt 0 earlier && nat_lt 0 entry && not (nat_lt k entry))
    || (if earlier_at_head then (not at_head || (nat_lt 0 entry && not (nat_lt 0 entry && nat_le earlier entry))) else (not at_head && (nat_lt 0 earlier && not (nat_lt 0 earlier && nat_le entry earlier)))))
    ≡ is_turn k entry earlier at_head earlier_at_head
waited_before k entry earlier at_head earlier_at_head h = grind (arith, nat_tests)

turn_case : (k entry earlier at : ℕ) (at_head earlier_at_head was : Bool) → (k < entry) ⊎ (entry ≤ k) → (entry ≤ k → at ≡ entry) → (entry ≤ k → was ≡ at_head)
    → (not (nat_lt 0 earlier && nat_lt 0 at && not (nat_lt k entry))
    || (if earlier_at_head then (not was || (nat_lt 0 at && not (nat_lt 0 at && nat_le earlier at))) else (not was && (nat_lt 0 earlier && not (nat_lt 0 earlier && nat_le at earlier)))))
    ≡ is_turn k entry earlier at_head earlier_at_head
turn_case k entry earlier at at_head earlier_at_head was (inl h) same same_head = waited_after k entry earlier at at_head earlier_at_head was h
turn_case k entry earlier at at_head earlier_at_head was (inr h) same same_head = rw (same h, same_head h) (waited_before k entry earlier at_head earlier_at_head h)

-- of the same queue
turn_is : (all : List Event) (k n : ℕ) (r r2 : ℕ) → k ≤ n
    → (not (waited (take k all) (drop k (take n all)) r r2) || is_in_order (take k all) r r2)
    ≡ is_turn k (last (sign.Entry r2) all n) (last (sign.Entry r) all k) (came_at_head (take n all) r2) (came_at_head (take k all) r)
turn_is all k n r r2 h =
    rw (ever_last (sign.Entry r) all k, ever_last (sign.Entry r2) all k, ever_after (sign.Entry r2) all k n h, stands_last (sign.Entry r2) (sign.Entry r) all k, stands_last (sign.Entry r) (sign.Entry r2) all k)
    (turn_case k (last (sign.Entry r2) all n) (last (sign.Entry r) all k) (last (sign.Entry r2) all k) (came_at_head (take n all) r2) (came_at_head (take k all) r) (came_at_head (take k all) r2)
    (cases_lt k (last (sign.Entry r2) all n)) (last_kept (sign.Entry r2) all k n h) (head_kept r2 all k n h))

-- ---- what a queue has presented, one presentation more

abbrev pub next_by : ℕ → Bool → ℕ → ℕ → List Shown → Bool
next_by entry at_head te tn hs = (entry == 0) || (if at_head then nat_le tn entry && not (list_any (covers entry) hs) else nat_lt te entry)

head_head : (k entry earlier tn : ℕ) (covered : Bool) → 0 < earlier
    → ((entry == 0) || (nat_le tn entry && not (covered || ((nat_le earlier entry && nat_lt entry (k + 1)) || false)))) ≡ (((entry == 0) || (nat_le tn entry && not covered)) && is_turn k entry earlier true true)
head_head k entry earlier tn covered h0 = grind (arith, nat_tests)

head_tail : (k entry earlier te : ℕ) → ((entry == 0) || nat_lt te entry) ≡ (((entry == 0) || nat_lt te entry) && is_turn k entry earlier false true)
head_tail k entry earlier te = grind (arith, nat_tests)

tail_head : (k entry earlier tn : ℕ) (covered : Bool) → 0 < earlier → earlier ≤ k → tn ≤ k
    → ((entry == 0) || (nat_le (k + 1) entry && not covered)) ≡ (((entry == 0) || (nat_le tn entry && not covered)) && is_turn k entry earlier true false)
tail_head k entry earlier tn covered h0 h1 h2 = grind (arith, nat_tests)

tail_tail : (k entry earlier te : ℕ) → 0 < earlier → earlier ≤ k → ((entry == 0) || nat_lt (max te earlier) entry) ≡ (((entry == 0) || nat_lt te entry) && is_turn k entry earlier false false)
tail_tail k entry earlier te h0 h1 = grind (arith, nat_tests)

-- a presentation of a request that had entered, from this queue or not
shown_case : (q k entry te tn queue earlier : ℕ) (at_head hk b : Bool) (hs : List Shown) → nat_eq queue q ≡ b → 0 < earlier → earlier ≤ k → tn ≤ k
    → let s : Shown = record { queue = queue; at_head = hk; entry = earlier; number = k + 1 } in
    next_by entry at_head (with_entry q (Some s) te) (with_number q (Some s) tn) (with_head q (Some s) hs) ≡ (next_by entry at_head te tn hs && (not b || is_turn k entry earlier at_head hk))
shown_case q k entry te tn queue earlier true true true hs h h0 h1 h2 =
    rw h (ap (λ c. (entry == 0) || (nat_le tn entry && not c)) (list_any-append (covers entry) hs _) ∙ head_head k entry earlier tn (list_any (covers entry) hs) h0)
shown_case q k entry te tn queue earlier false true true hs h h0 h1 h2 = head_tail k entry earlier te
shown_case q k entry te tn queue earlier true false true hs h h0 h1 h2 = rw h (tail_head k entry earlier tn (list_any (covers entry) hs) h0 h1 h2)
shown_case q k entry te tn queue earlier false false true hs h h0 h1 h2 = rw h (tail_tail k entry earlier te h0 h1)
shown_case q k entry te tn queue earlier true true false hs h h0 h1 h2 = rw h (sym (and-true _))
shown_case q k entry te tn queue earlier false true false hs h h0 h1 h2 = sym (and-true _)
shown_case q k entry te tn queue earlier true false false hs h h0 h1 h2 = rw h (sym (and-true _))
shown_case q k entry te tn queue earlier false false false hs h h0 h1 h2 = rw h (sym (and-true _))

-- a presentation of one that hadn't
unseen : (b hk at_head : Bool) (k entry earlier : ℕ) → nat_lt 0 earlier ≡ false → (not b || is_turn k entry earlier at_head hk) ≡ true
unseen b hk at_head k entry earlier h = grind (arith, nat_tests)

seen_case : (all : List Event) (q k entry te tn : ℕ) (at_head b seen : Bool) (t : Taking) (hs : List Shown) → nat_eq t.queue q ≡ b → nat_lt 0 (last (sign.Entry t.request) all k) ≡ seen → last (sign.Entry t.request) all k ≤ k → tn ≤ k
    → let o : Option Shown = if seen then Some (record { queue = t.queue; at_head = came_at_head (take k all) t.request; entry = last (sign.Entry t.request) all k; number = k + 1 }) else None in
    next_by entry at_head (with_entry q o te) (with_number q o tn) (with_head q o hs)
    ≡ (next_by entry at_head te tn hs && (not b || is_turn k entry (last (sign.Entry t.request) all k) at_head (came_at_head (take k all) t.request)))
seen_case all q k entry te tn at_head b true t hs h seen h1 h2 =
    let h0 : 0 < last (sign.Entry t.request) all k = grind (arith, nat_tests) in
    shown_case q k entry te tn t.queue (last (sign.Entry t.request) all k) at_head (came_at_head (take k all) t.request) b hs h h0 h1 h2
seen_case all q k entry te tn at_head b false t hs h seen h1 h2 =
    sym (and-true _) ∙ ap (λ c. next_by entry at_head te tn hs && c) (sym (unseen b (came_at_head (take k all) t.request) at_head k entry (last (sign.Entry t.request) all k) seen))

-- the test of one presentation, by its queue
queue_case : (all : List Event) (k n : ℕ) (t later : Taking) (b : Bool) → nat_eq t.queue later.queue ≡ b → k ≤ n
    → (not b || is_turn k (last (sign.Entry later.request) all n) (last (sign.Entry t.request) all k) (came_at_head (take n all) later.request) (came_at_head (take k all) t.request))
    ≡ is_in_turn (take k all) (drop k (take n all)) later (Some t)
queue_case all k n t later true h le = rw h (sym (turn_is all k n t.request later.request le))
queue_case all k n t later false h le = rw h refl

next_in : (all : List Event) (k n te tn : ℕ) (later : Taking) (hs : List Shown) (p : Option Taking) → k ≤ n → tn ≤ k
    → let entry : ℕ = last (sign.Entry later.request) all n in
    let at_head : Bool = came_at_head (take n all) later.request in
    next_by entry at_head (with_entry later.queue (shown_by all k p) te) (with_number later.queue (shown_by all k p) tn) (with_head later.queue (shown_by all k p) hs)
    ≡ (next_by entry at_head te tn hs && is_in_turn (take k all) (drop k (take n all)) later p)
next_in all k n te tn later hs None le h = sym (and-true _)
next_in all k n te tn later hs (Some t) le h =
    seen_case all later.queue k (last (sign.Entry later.request) all n) te tn (came_at_head (take n all) later.request) (nat_eq t.queue later.queue) (nat_lt 0 (last (sign.Entry t.request) all k)) t hs refl refl (last_within (sign.Entry t.request) all k) h
    ∙ ap (λ c. next_by (last (sign.Entry later.request) all n) (came_at_head (take n all) later.request) te tn hs && c) (queue_case all k n t later (nat_eq t.queue later.queue) refl le)

-- ---- all of them

number_case : (b : Bool) (k n : ℕ) → n ≤ k → (if b then k + 1 else n) ≤ suc k
number_case true k n h = omega arith
number_case false k n h = omega arith

seen_number : (all : List Event) (q k : ℕ) (t : Taking) (n : ℕ) (seen : Bool) → n ≤ k
    → with_number q (if seen then Some (record { queue = t.queue; at_head = came_at_head (take k all) t.request; entry = last (sign.Entry t.request) all k; number = k + 1 }) else None) n ≤ suc k
seen_number all q k t n true h = number_case (is_id q (where_so (not (came_at_head (take k all) t.request)) (Some t.queue))) k n h
seen_number all q k t n false h = omega arith

shown_number : (all : List Event) (q k : ℕ) (p : Option Taking) (n : ℕ) → n ≤ k → with_number q (shown_by all k p) n ≤ suc k
shown_number all q k None n h = omega arith
shown_number all q k (Some t) n h = seen_number all q k t n (nat_lt 0 (last (sign.Entry t.request) all k)) h

tail_within : (all : List Event) (q k : ℕ) → tail_number all q k ≤ k
unfolding tail_number
tail_within all q zero = omega arith
tail_within all q (suc k) = shown_number all q k (presented_in (slice_get all k)) (tail_number all q k) (tail_within all q k)

opens : (entry : ℕ) (at_head : Bool) → true ≡ next_by entry at_head 0 0 []
opens entry true = grind (arith, nat_tests)
opens entry false = grind (arith, nat_tests)

turns : (all : List Event) (n : ℕ) (later : Taking) (k : ℕ) → k ≤ n → all_in_turn (take n all) later k ≡ is_next all later.queue k (last (sign.Entry later.request) all n) (came_at_head (take n all) later.request)
unfolding tail_entry tail_number heads
turns all n later zero h = opens (last (sign.Entry later.request) all n) (came_at_head (take n all) later.request)
turns all n later (suc k) h =
    let le : k ≤ n = omega arith in
    let lt : k < n = omega arith in
    ap (λ b. b && is_in_turn (take k (take n all)) (drop k (take n all)) later (presented_in (slice_get (take n all) k))) (turns all n later k le)
    ∙ ap (λ es. is_next all later.queue k (last (sign.Entry later.request) all n) (came_at_head (take n all) later.request) && is_in_turn es (drop k (take n all)) later (presented_in (slice_get (take n all) k))) (take-take k n all le)
    ∙ ap (λ o. is_next all later.queue k (last (sign.Entry later.request) all n) (came_at_head (take n all) later.request) && is_in_turn (take k all) (drop k (take n all)) later (presented_in o)) (slice_get-take all n k lt)
    ∙ sym (next_in all k n (tail_entry all later.queue k) (tail_number all later.queue k) later (heads all later.queue k) (presented_in (slice_get all k)) le (tail_within all later.queue k))

-- a request is presented in its turn
pub presented_in_turn : (R : Read) (later : Taking) → R.number ≤ length R.all
    → is_next R.all later.queue R.number (last (sign.Entry later.request) R.all R.number) (came_at_head (before R) later.request) ≡ is_presented_in_turn (before R) (Some later)
presented_in_turn R later h = sym (ap (all_in_turn (before R) later) (length-take-le R.number R.all h) ∙ turns R.all R.number later R.number (omega arith))

pub turn_by : (R : Read) (later : Taking) (entry : ℕ) (at_head r : Bool) → entry ≡ last (sign.Entry later.request) R.all R.number → at_head ≡ came_at_head (before R) later.request → R.number ≤ length R.all
    → r ≡ is_next R.all later.queue R.number entry at_head → r ≡ is_presented_in_turn (before R) (Some later)
turn_by R later entry at_head r is_entry is_head within is =
    is ∙ ap (λ n. is_next R.all later.queue R.number n at_head) is_entry ∙ ap (is_next R.all later.queue R.number (last (sign.Entry later.request) R.all R.number)) is_head ∙ presented_in_turn R later within
