-- Where the requests of a line are, after what changes it.
use Rattle.std.proofs.Common.{if◌then◌else◌, ◌≡◌, ◌≢◌, ℕ, zero, suc, ◌+◌, ◌-◌, ◌==◌, ◌<◌, ◌≤◌, ◌⊎◌, inl, inr, nat_lt, Bool, true, false, not, List, [], ◌∷◌, ◌++◌, filter, length, map, min, Option, Some, None, slice_get, slice_set, refl, sym, ap, subst, ◌∙◌, arith}
use Rattle.std.proofs.lemmas.List.Sums.{count_by-le-length, length-filter}
use Rattle.wdf_model.specs.declared.room.TheConstants.{OBJECTS}
use Rattle.wdf_model.specs.declared.stack.Forwarded.{Forwarded}
use Rattle.wdf_model.specs.Tables.{entry, put}
use Rattle.wdf_model.proofs.Counts.{equal, one_or_two}
use Rattle.wdf_model.proofs.Maps.{entry_put_other, entry_put_same}
use Rattle.wdf_model.proofs.Runs.{split_last}
use Rattle.wdf_stack.specs.declared.spans.Span.{Span}
use Rattle.wdf_model.specs.declared.stack.Descent.{Descent}
use Rattle.wdf_stack.specs.Line.{IsSetAt, StaysOutside, is_in_front, stays}
use Rattle.wdf_stack.specs.Spans.{ArePlaced, IsWithin, anywhere, forgotten, joined, noted, noted_if_any, nowhere, request_key, span_of}

-- ---- spans

joined_first : (s t : Span) (p l f : ℕ) → IsWithin s p l f → IsWithin (joined s t) p l f
joined_first s t p l f w =
    let a = w.small in let b = w.low in let c = w.high in
    record { small = omega (arith, a); low = omega (arith, b); high = omega (arith, c) }

joined_second : (s t : Span) (p l f : ℕ) → IsWithin t p l f → IsWithin (joined s t) p l f
joined_second s t p l f w =
    let a = w.small in let b = w.low in let c = w.high in
    record { small = omega (arith, a); low = omega (arith, b); high = omega (arith, c) }

span_by : (spans : List Span) (k : ℕ) (b : Bool) → nat_lt k OBJECTS ≡ b → span_of spans k ≡ (if b then entry nowhere spans k else anywhere)
span_by spans k b e = rw e refl

noted_by : (spans : List Span) (key : ℕ) (s : Span) (b : Bool) → nat_lt key OBJECTS ≡ b → noted spans key s ≡ (if b then put nowhere spans key (joined (entry nowhere spans key) s) else spans)
noted_by spans key s b e = rw e refl

module _ (spans : List Span) (key : ℕ) (s : Span) (p l f : ℕ) where
  abbrev wider : Span
  wider = joined (entry nowhere spans key) s

  put_within : (k : ℕ) → IsWithin (entry nowhere spans k) p l f → IsWithin (entry nowhere (put nowhere spans key wider) k) p l f
  put_within k w = elim (one_or_two k key) [
    | inl e ↦
        let here : IsWithin (entry nowhere spans key) p l f = subst (λ x. IsWithin (entry nowhere spans x) p l f) e w in
        subst (λ x. IsWithin (entry nowhere (put nowhere spans key wider) x) p l f) (sym e)
        (subst (λ x. IsWithin x p l f) (sym (entry_put_same nowhere spans key wider)) (joined_first (entry nowhere spans key) s p l f here))
    | inr n ↦ subst (λ x. IsWithin x p l f) (sym (entry_put_other nowhere spans key k wider n)) w
  ]

  stays_by : (k : ℕ) (b c : Bool) → nat_lt k OBJECTS ≡ b → nat_lt key OBJECTS ≡ c → IsWithin (span_of spans k) p l f → IsWithin (span_of (noted spans key s) k) p l f
  stays_by k false c e d w = subst (λ x. IsWithin x p l f) (span_by spans k false e ∙ sym (span_by (noted spans key s) k false e)) w
  stays_by k true false e d w = subst (λ xs. IsWithin (span_of xs k) p l f) (sym (noted_by spans key s false d)) w
  stays_by k true true e d w =
      subst (λ xs. IsWithin (span_of xs k) p l f) (sym (noted_by spans key s true d))
      (subst (λ x. IsWithin x p l f) (sym (span_by (put nowhere spans key wider) k true e)) (put_within k (subst (λ x. IsWithin x p l f) (span_by spans k true e) w)))

  -- a place within a span stays there when more is noted
  pub noted_stays : (k : ℕ) → IsWithin (span_of spans k) p l f → IsWithin (span_of (noted spans key s) k) p l f
  noted_stays k w = stays_by k (nat_lt k OBJECTS) (nat_lt key OBJECTS) refl refl w

  here_by : (b : Bool) → nat_lt key OBJECTS ≡ b → p + f < 4294967295 → IsWithin s p l f → IsWithin (span_of (noted spans key s) key) p l f
  here_by false e small w =
      subst (λ x. IsWithin x p l f) (sym (span_by (noted spans key s) key false e))
      (record { small = omega arith; low = omega arith; high = small })
  here_by true e small w =
      subst (λ xs. IsWithin (span_of xs key) p l f) (sym (noted_by spans key s true e))
      (subst (λ x. IsWithin x p l f) (sym (span_by (put nowhere spans key wider) key true e ∙ entry_put_same nowhere spans key wider)) (joined_second (entry nowhere spans key) s p l f w))

  -- and what is noted is in the span
  pub noted_here : p + f < 4294967295 → IsWithin s p l f → IsWithin (span_of (noted spans key s) key) p l f
  noted_here small w = here_by (nat_lt key OBJECTS) refl small w

-- what is forgotten is that key alone
forgotten_by : (spans : List Span) (key k : ℕ) (b c : Bool) → nat_lt k OBJECTS ≡ b → nat_lt key OBJECTS ≡ c → k ≢ key → span_of (forgotten spans key) k ≡ span_of spans k
forgotten_by spans key k false c e d n = span_by (forgotten spans key) k false e ∙ sym (span_by spans k false e)
forgotten_by spans key k true false e d n = let same : forgotten spans key ≡ spans = rw d refl in ap (λ xs. span_of xs k) same
forgotten_by spans key k true true e d n =
    let now : forgotten spans key ≡ put nowhere spans key nowhere = rw d refl in
    ap (λ xs. span_of xs k) now ∙ span_by (put nowhere spans key nowhere) k true e ∙ entry_put_other nowhere spans key k nowhere n ∙ sym (span_by spans k true e)

-- ---- items of changed lists

pub record Mapped (g : Forwarded → Forwarded) (xs : List Forwarded) (place : ℕ) (y : Forwarded) : Type 0 where
  pub item : Forwarded
  pub at : slice_get xs place ≡ Some item
  pub is : g item ≡ y

pub in_mapped : (g : Forwarded → Forwarded) (xs : List Forwarded) (place : ℕ) (y : Forwarded) → slice_get (map g xs) place ≡ Some y → Mapped g xs place y
in_mapped g [] place y h = absurd (let z : ⊥ = cc in z)
in_mapped g (x ∷ xs) zero y h = record { item = x; at = refl; is = cc }
in_mapped g (x ∷ xs) (suc place) y h = let it = in_mapped g xs place y h in record { item = it.item; at = it.at; is = it.is }

pub in_set : (xs : List Forwarded) (n : ℕ) (y : Forwarded) (place : ℕ) (z : Forwarded) → slice_get (slice_set xs n y) place ≡ Some z → ((place ≡ n) × (z ≡ y)) ⊎ (slice_get xs place ≡ Some z)
in_set [] n y place z h = absurd (let w : ⊥ = cc in w)
in_set (x ∷ xs) zero y zero z h = inl (refl, (let e : y ≡ z = cc in sym e))
in_set (x ∷ xs) zero y (suc place) z h = inr h
in_set (x ∷ xs) (suc n) y zero z h = inr h
in_set (x ∷ xs) (suc n) y (suc place) z h = elim (in_set xs n y place z h) [
  | inl two ↦ inl (ap suc two.0, two.1)
  | inr at ↦ inr at
]

-- an item that stays in a filtered list, and where it was
pub record Stayed (p : Forwarded → Bool) (xs : List Forwarded) (place : ℕ) (y : Forwarded) : Type 0 where
  pub was : ℕ
  pub at : slice_get xs was ≡ Some y
  pub passes : p y ≡ true
  pub low : place ≤ was
  pub high : was + length (filter p xs) ≤ place + length xs

one_passed : (p : Forwarded → Bool) (x : Forwarded) (xs : List Forwarded) (b : Bool) → p x ≡ b → length (filter p (x ∷ xs)) ≡ (if b then suc (length (filter p xs)) else length (filter p xs))
one_passed p x xs true e = rw e refl
one_passed p x xs false e = rw e refl

stayed_by : (p : Forwarded → Bool) (x : Forwarded) (xs : List Forwarded) (b : Bool) → p x ≡ b → ((place : ℕ) (y : Forwarded) → slice_get (filter p xs) place ≡ Some y → Stayed p xs place y)
    → (place : ℕ) (y : Forwarded) → slice_get (filter p (x ∷ xs)) place ≡ Some y → Stayed p (x ∷ xs) place y
stayed_by p x xs true e rest zero y h =
    let now : slice_get (x ∷ filter p xs) zero ≡ Some y = rw e at h in
    let same : x ≡ y = cc in
    let long = one_passed p x xs true e in
    let short = length-filter p xs in
    let few = count_by-le-length p xs in
    record { was = 0; at = ap Some same; passes = ap p (sym same) ∙ e; low = omega arith; high = omega (arith, long, short, few) }
stayed_by p x xs true e rest (suc place) y h =
    let now : slice_get (filter p xs) place ≡ Some y = rw e at h in
    let it = rest place y now in
    let long = one_passed p x xs true e in
    let a = it.low in let b = it.high in
    record { was = suc it.was; at = it.at; passes = it.passes; low = omega (arith, a); high = omega (arith, long, b) }
stayed_by p x xs false e rest place y h =
    let now : slice_get (filter p xs) place ≡ Some y = rw e at h in
    let it = rest place y now in
    let long = one_passed p x xs false e in
    let a = it.low in let b = it.high in
    record { was = suc it.was; at = it.at; passes = it.passes; low = omega (arith, a); high = omega (arith, long, b) }

pub in_filtered : (p : Forwarded → Bool) (xs : List Forwarded) (place : ℕ) (y : Forwarded) → slice_get (filter p xs) place ≡ Some y → Stayed p xs place y
in_filtered p [] place y h = absurd (let z : ⊥ = cc in z)
in_filtered p (x ∷ xs) place y h = stayed_by p x xs (p x) refl (in_filtered p xs) place y h

-- behind a first item that doesn't stay all items come a place nearer
stayed_behind : (p : Forwarded → Bool) (x : Forwarded) (xs : List Forwarded) (place : ℕ) (y : Forwarded) → p x ≡ false → slice_get (filter p (x ∷ xs)) place ≡ Some y → (it : Stayed p (x ∷ xs) place y) × (place < it.was)
stayed_behind p x xs place y e h =
    let now : slice_get (filter p xs) place ≡ Some y = rw e at h in
    let it = in_filtered p xs place y now in
    let long = one_passed p x xs false e in
    let a = it.low in let b = it.high in
    (record { was = suc it.was; at = it.at; passes = it.passes; low = omega (arith, a); high = omega (arith, long, b) }, omega (arith, a))

-- ---- where they are

module _ (key : Forwarded → Option ℕ) (spans : List Span) (sent : List Forwarded) (left front : ℕ) (all : ArePlaced key spans sent left front) where
  pub placed_noted : (k : ℕ) (s : Span) → ArePlaced key (noted spans k s) sent left front
  placed_noted k s place f j at is = noted_stays spans k s place left front j (all place f j at is)

  pub placed_pushed : (x : Forwarded) → key x ≡ None → ArePlaced key spans (sent ++ x ∷ []) left front
  placed_pushed x none place f k at is = elim (split_last sent x f place at) [
    | inl h ↦ all place f k h.1 is
    | inr h ↦ absurd (let e : key x ≡ Some k = ap key h.1 ∙ is in let z : ⊥ = cc in z)
  ]

  -- where they are still those keys, or have lost them
  pub placed_mapped : (g : Forwarded → Forwarded) → ((f : Forwarded) (k : ℕ) → key (g f) ≡ Some k → key f ≡ Some k) → ArePlaced key spans (map g sent) left front
  placed_mapped g same place f k at is =
      let it = in_mapped g sent place f at in
      all place it.item k it.at (same it.item k (ap key it.is ∙ is))

  pub placed_set : (n : ℕ) (y : Forwarded) → ((k : ℕ) → key y ≡ Some k → IsWithin (span_of spans k) n left front) → ArePlaced key spans (slice_set sent n y) left front
  placed_set n y here place f k at is = elim (in_set sent n y place f at) [
    | inl two ↦ subst (λ p. IsWithin (span_of spans k) p left front) (sym two.0) (here k (sym (ap key two.1) ∙ is))
    | inr was ↦ all place f k was is
  ]

-- where the request at a place has come further, and its key is noted
pub placed_there : (key : Forwarded → Option ℕ) (of_descent : Descent → Option ℕ) → ((f : Forwarded) → key f ≡ of_descent f.descent) → (spans : List Span) (old new : List Forwarded) (left front place : ℕ) (d : Descent) (s : Span)
    → ArePlaced key spans old left front → IsSetAt old new place d → IsWithin s place left front → place + front < 4294967295 → ArePlaced key (noted_if_any spans (of_descent d) s) new left front
placed_there key of_descent same spans old new left front place d s all set here small =
    subst (λ xs. ArePlaced key (noted_if_any spans (of_descent d) s) xs left front) (sym set.is) (by_key (of_descent d) refl)
  where
    key_is : key (record set.was { descent = d }) ≡ of_descent d
    key_is = same (record set.was { descent = d })

    by_key : (o : Option ℕ) → of_descent d ≡ o → ArePlaced key (noted_if_any spans o s) (slice_set old place (record set.was { descent = d })) left front
    by_key None e = placed_set key spans old left front all place (record set.was { descent = d }) (λ k is. absurd (let n : None ≡ Some k = sym e ∙ sym key_is ∙ is in let z : ⊥ = cc in z))
    by_key (Some j) e =
        placed_set key (noted spans j s) old left front (placed_noted key spans old left front all j s) place (record set.was { descent = d })
        (λ k is. let id : j ≡ k = (let n : Some j ≡ Some k = sym e ∙ sym key_is ∙ is in cc) in subst (λ x. IsWithin (span_of (noted spans j s) x) place left front) id (noted_here spans j s place left front small here))

-- and its request is still found
pub placed_still : (spans : List Span) (old new : List Forwarded) (left front place : ℕ) (d : Descent) → ArePlaced request_key spans old left front → IsSetAt old new place d → ArePlaced request_key spans new left front
placed_still spans old new left front place d all set =
    subst (λ xs. ArePlaced request_key spans xs left front) (sym set.is)
    (placed_set request_key spans old left front all place (record set.was { descent = d }) (λ k is. all place set.was k set.at is))

-- one more is sent
pub placed_sent : (spans : List Span) (sent : List Forwarded) (left front : ℕ) (x : Forwarded) (s : Span) → ArePlaced request_key spans sent left front → IsWithin s (length sent) left front → length sent + front < 4294967295
    → ArePlaced request_key (noted spans x.request.id.0 s) (sent ++ x ∷ []) left front
placed_sent spans sent left front x s all here small place f k at is = elim (split_last sent x f place at) [
  | inl h ↦ noted_stays spans x.request.id.0 s place left front k (all place f k h.1 is)
  | inr h ↦
      let id : x.request.id.0 ≡ k = (let e : request_key x ≡ Some k = ap request_key h.1 ∙ is in cc) in
      subst (λ p. IsWithin (span_of (noted spans x.request.id.0 s) k) p left front) (sym h.0)
      (subst (λ j. IsWithin (span_of (noted spans x.request.id.0 s) j) (length sent) left front) id (noted_here spans x.request.id.0 s (length sent) left front small here))
]

-- ---- some leave

-- how many have left is counted, and of those at the front one at most
pub record Counts (r : ℕ) (sent : List Forwarded) (gone left front left' front' : ℕ) : Type 0 where
  pub all : min (left + gone) 4294967295 ≤ left'
  pub ahead : (is_in_front r sent ≡ true → front' ≤ front + 1) × (is_in_front r sent ≡ false → front' ≤ front)

further : (r : ℕ) (sent : List Forwarded) (gone left front left' front' : ℕ) (s : Span) (place was : ℕ) → length sent ≡ length (filter (stays r) sent) + gone → Counts r sent gone left front left' front'
    → IsWithin s was left front → was + length (filter (stays r) sent) ≤ place + length sent → place + front' ≤ was + front → IsWithin s place left' front'
further r sent gone left front left' front' s place was long counts w high near =
    let a = w.small in let b = w.low in let c = w.high in let d = counts.all in
    record { small = a; low = omega (arith, a, b, d, high, long); high = omega (arith, c, near) }

gone_by : (key : Forwarded → Option ℕ) (spans : List Span) (r : ℕ) (sent : List Forwarded) (gone left front left' front' : ℕ) → ArePlaced key spans sent left front → length sent ≡ length (filter (stays r) sent) + gone
    → Counts r sent gone left front left' front' → (place : ℕ) (f : Forwarded) (k : ℕ) → slice_get (filter (stays r) sent) place ≡ Some f → key f ≡ Some k → IsWithin (span_of spans k) place left' front'
gone_by key spans r [] gone left front left' front' all long counts place f k at is = absurd (let z : ⊥ = cc in z)
gone_by key spans r (x ∷ xs) gone left front left' front' all long counts place f k at is = in_front_or (x.request.id.0 == r) refl
  where
    in_front_or : (b : Bool) → (x.request.id.0 == r) ≡ b → IsWithin (span_of spans k) place left' front'
    in_front_or true e =
        let off : stays r x ≡ false = rw e refl in
        let two = stayed_behind (stays r) x xs place f off at in
        let near = two.1 in let more = counts.ahead.0 e in
        further r (x ∷ xs) gone left front left' front' (span_of spans k) place two.0.was long counts (all two.0.was f k two.0.at is) two.0.high (omega (arith, near, more))
    in_front_or false e =
        let it = in_filtered (stays r) (x ∷ xs) place f at in
        let near = it.low in let more = counts.ahead.1 e in
        further r (x ∷ xs) gone left front left' front' (span_of spans k) place it.was long counts (all it.was f k it.at is) it.high (omega (arith, near, more))

-- the others are within their spans when a request is here no more
pub placed_gone : (key : Forwarded → Option ℕ) (spans : List Span) (r : ℕ) (sent : List Forwarded) (gone left front left' front' : ℕ) → ArePlaced key spans sent left front → length sent ≡ length (filter (stays r) sent) + gone
    → Counts r sent gone left front left' front' → ArePlaced key spans (filter (stays r) sent) left' front'
placed_gone = gone_by

other_id : (a r : ℕ) (b : Bool) → (a == r) ≡ b → not b ≡ true → a ≢ r
other_id a r true e h same = absurd (let z : ⊥ = cc in z)
other_id a r false e h same = let on = equal a r same in let z : ⊥ = cc in z

-- also where its key is forgotten
pub placed_forgotten : (spans : List Span) (r : ℕ) (sent : List Forwarded) (left front : ℕ) → ArePlaced request_key spans (filter (stays r) sent) left front → ArePlaced request_key (forgotten spans r) (filter (stays r) sent) left front
placed_forgotten spans r sent left front all place f k at is =
    let it = in_filtered (stays r) sent place f at in
    let id : f.request.id.0 ≡ k = cc in
    let apart : k ≢ r = subst (λ x. x ≢ r) id (other_id f.request.id.0 r (f.request.id.0 == r) refl it.passes) in
    subst (λ x. IsWithin x place left front) (sym (forgotten_by spans r k (nat_lt k OBJECTS) (nat_lt r OBJECTS) refl refl apart)) (all place f k at is)

-- ---- who isn't in a span isn't the request

module _ (key : Forwarded → Option ℕ) (spans : List Span) (sent : List Forwarded) (left front k : ℕ) (change : Forwarded → Forwarded) (all : ArePlaced key spans sent left front) where
  outside : (place : ℕ) (f : Forwarded) → slice_get sent place ≡ Some f → place < length sent → (place < (span_of spans k).low - left) ⊎ (min ((span_of spans k).high - front) (length sent) ≤ place) → key f ≡ Some k → ⊥
  outside place f at short (inl less) is = let w = all place f k at is in let a = w.low in omega (arith, a, less)
  outside place f at short (inr from) is = let w = all place f k at is in let a = w.high in omega (arith, a, from, short)

  within : (xs : List Forwarded) (place : ℕ) (f : Forwarded) → slice_get xs place ≡ Some f → place < length xs
  within [] place f h = absurd (let z : ⊥ = cc in z)
  within (x ∷ xs) zero f h = omega arith
  within (x ∷ xs) (suc place) f h = let l = within xs place f h in omega (arith, l)

  pub stays_outside : ((f : Forwarded) → (key f ≡ Some k) ⊎ (change f ≡ f)) → (from to : ℕ) → from ≡ (span_of spans k).low - left → to ≡ min ((span_of spans k).high - front) (length sent) → StaysOutside change from to sent
  stays_outside or from to a b place f at out = elim (or f) [
    | inl is ↦ absurd (outside place f at (within sent place f at) (subst (λ x. (place < x) ⊎ (min ((span_of spans k).high - front) (length sent) ≤ place)) a (subst (λ x. (place < from) ⊎ (x ≤ place)) b out)) is)
    | inr same ↦ same
  ]
