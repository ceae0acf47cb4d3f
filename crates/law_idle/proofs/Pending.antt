-- The requests that the policy keeps as pending are those that the words of the law say.
use Rattle.std.proofs.Common.{if◌then◌else◌, ◌≡◌, ◌≤◌, ℕ, zero, suc, ◌+◌, ◌==◌, Bool, true, false, not, ◌&&◌, ◌||◌, nat_lt, List, [], ◌∷◌, ◌++◌, inl, inr, Option, Some, None, refl, sym, ap, subst, ◌∙◌, arith, zero-add}
use Rattle.std.specs.List.{list_all, list_any}
use Rattle.std.proofs.Math.Bool.{and-false, and-true, or-false}
use Rattle.std.proofs.lemmas.Bool.{eqb-true}
use Rattle.std.proofs.lemmas.Bool.Decides.{nat_tests}
use Rattle.std.proofs.lemmas.List.Folds.{list_any-append}
use Rattle.wdf_base.proofs.Tests.{both_left, both_right, both, not_true, second}
use Rattle.wdf_base.specs.declared.event.Event.{Event}
use Rattle.wdf_model.specs.Tables.{entry, flag, put}
use Rattle.wdf_model.specs.agents.IdlePolicy.{IdleDevice, count_of, pending_after, with_completion}
use Rattle.wdf_model.proofs.Counts.{count_cons, equal, not_equal, one_or_two}
use Rattle.wdf_model.proofs.Maps.{entry_put_other, entry_put_same}
use Rattle.wdf_maps.proofs.Counting.{count_put}
use Rattle.wdf_laws.specs.declared.sign.Sign.TheVariants as sign
use Rattle.wdf_laws.specs.Events.{arrived, arrived_at, is_id}
use Rattle.wdf_laws.specs.Laws.{is_completed, is_settled}
use Rattle.wdf_laws.specs.Signs.{shows}
use Rattle.wdf_laws.specs.Words.{ever}
use Rattle.law_trace_once.proofs.Words.{ever_next}
use Rattle.law_idle.specs.Idling.{has_pending}
use Rattle.law_idle.proofs.Told.{has_some}

-- an event brings request r to device d
abbrev pub brings : ℕ → ℕ → Event → Bool
brings d r e = is_id d (arrived_at e) && is_id r (arrived e)

-- request r came to device d, and wasn't completed
abbrev pub pends : ℕ → ℕ → List Event → Bool
pends d r es = list_any (brings d r) es && not (ever (sign.Completion r) es)

pub record Pending (es : List Event) (x : IdleDevice) : Type 0 where
  pub entries : (r : ℕ) → entry false x.pending r ≡ pends x.device.id.0 r es

-- ---- truth values and lists

pub same_so : (a b : Bool) → (a ≡ true → b ≡ true) → (b ≡ true → a ≡ true) → a ≡ b
same_so true b h k = sym (h refl)
same_so false true h k = k refl
same_so false false h k = refl

any_last : {T : Type 0} (p : T → Bool) (xs : List T) (y : T) → list_any p (xs ++ y ∷ []) ≡ (list_any p xs || p y)
any_last p xs y = list_any-append p xs (y ∷ []) ∙ ap (λ b. list_any p xs || b) (or-false (p y))

-- an item that passes
record Passes {T : Type 0} (p : T → Bool) (xs : List T) : Type 0 where
  item : T
  passes : p item ≡ true
  there : (q : T → Bool) → q item ≡ true → list_any q xs ≡ true

passes_by : {T : Type 0} (p : T → Bool) (x : T) (xs : List T) (b : Bool) → p x ≡ b → (list_any p xs ≡ true → Passes p xs) → (b || list_any p xs) ≡ true → Passes p (x ∷ xs)
passes_by p x xs true e rest h = record { item = x; passes = e; there = λ q k. rw k refl }
passes_by p x xs false e rest h = let r = rest h in record { item = r.item; passes = r.passes; there = λ q k. second (q x) (list_any q xs) (r.there q k) }

passing : {T : Type 0} (p : T → Bool) (xs : List T) → list_any p xs ≡ true → Passes p xs
passing p [] h = absurd (let z : ⊥ = cc in z)
passing p (x ∷ xs) h = passes_by p x xs (p x) refl (passing p xs) h

none_fails : {T : Type 0} (p : T → Bool) (xs : List T) → list_all p xs ≡ true → list_any (λ x. not (p x)) xs ≡ true → ⊥
none_fails p [] h k = let z : ⊥ = cc in z
none_fails p (x ∷ xs) h k =
    let one : p x ≡ true = both_left (p x) (list_all p xs) h in
    none_fails p xs (both_right (p x) (list_all p xs) h) (rw one at k)

some_fails_by : {T : Type 0} (p : T → Bool) (x : T) (xs : List T) (b : Bool) → p x ≡ b → (list_all p xs ≡ false → list_any (λ y. not (p y)) xs ≡ true) → (b && list_all p xs) ≡ false → (not b || list_any (λ y. not (p y)) xs) ≡ true
some_fails_by p x xs true e rest h = rest h
some_fails_by p x xs false e rest h = refl

some_fails : {T : Type 0} (p : T → Bool) (xs : List T) → list_all p xs ≡ false → list_any (λ x. not (p x)) xs ≡ true
some_fails p [] h = absurd (let z : ⊥ = cc in z)
some_fails p (x ∷ xs) h = some_fails_by p x xs (p x) refl (some_fails p xs) h

-- ---- bits

counted_by : (b : Bool) (n : ℕ) (any : Bool) → nat_lt 0 n ≡ any → nat_lt 0 (flag b + n) ≡ (b || any)
counted_by true n any h = positive n
  where
    positive : (n : ℕ) → nat_lt 0 (1 + n) ≡ true
    positive n = grind (arith, nat_tests)
counted_by false n any h = ap (nat_lt 0) (zero-add n) ∙ h

counted : (bits : List Bool) → nat_lt 0 (count_of bits) ≡ list_any (λ (b : Bool). b) bits
counted [] = refl
counted (b ∷ bits) = ap (nat_lt 0) (count_cons (λ (x : Bool). x) b bits) ∙ counted_by b (count_of bits) (list_any (λ (x : Bool). x) bits) (counted bits)

bit_by : (b : Bool) (bits : List Bool) → (list_any (λ (x : Bool). x) bits ≡ true → (r : ℕ) × (entry false bits r ≡ true)) → (b || list_any (λ (x : Bool). x) bits) ≡ true → (r : ℕ) × (entry false (b ∷ bits) r ≡ true)
bit_by true bits rest h = (0, refl)
bit_by false bits rest h = let r = rest h in (suc r.0, r.1)

bit_there : (bits : List Bool) → list_any (λ (x : Bool). x) bits ≡ true → (r : ℕ) × (entry false bits r ≡ true)
bit_there [] h = absurd (let z : ⊥ = cc in z)
bit_there (b ∷ bits) h = bit_by b bits (bit_there bits) h

there_bit : (bits : List Bool) (r : ℕ) → entry false bits r ≡ true → list_any (λ (x : Bool). x) bits ≡ true
there_bit [] r h = absurd (let z : ⊥ = cc in z)
there_bit (b ∷ bits) zero h = let is : b ≡ true = h in rw is refl
there_bit (b ∷ bits) (suc r) h = second b (list_any (λ (x : Bool). x) bits) (there_bit bits r h)

-- ---- an event that isn't settled brings a request that pends

record Unsettled (es : List Event) (b : Bool) (o : Option ℕ) : Type 0 where
  here : b ≡ true
  request : ℕ
  is : o ≡ Some request
  open_ : ever (sign.Completion request) es ≡ false

unsettled_by : (es : List Event) (b : Bool) (o : Option ℕ) → not (not b || is_completed es o) ≡ true → Unsettled es b o
unsettled_by es true None h = absurd (let z : ⊥ = cc in z)
unsettled_by es true (Some r) h = record { here = refl; request = r; is = refl; open_ = not_true (ever (sign.Completion r) es) h }
unsettled_by es false o h = absurd (let z : ⊥ = cc in z)

itself : (r : ℕ) → is_id r (Some r) ≡ true
itself r = equal r r refl

pends_by : (d : ℕ) (es : List Event) → list_any (λ e. not (is_settled es d e)) es ≡ true → (r : ℕ) × (pends d r es ≡ true)
pends_by d es h =
    let p = passing (λ e. not (is_settled es d e)) es h in
    let u = unsettled_by es (is_id d (arrived_at p.item)) (arrived p.item) p.passes in
    let brought : brings d u.request p.item ≡ true = both (is_id d (arrived_at p.item)) (is_id u.request (arrived p.item)) u.here (ap (is_id u.request) u.is ∙ itself u.request) in
    (u.request, both (list_any (brings d u.request) es) (not (ever (sign.Completion u.request) es)) (p.there (brings d u.request) brought) (ap not u.open_))

pub is_some_id : (r : ℕ) (o : Option ℕ) → is_id r o ≡ true → o ≡ Some r
is_some_id r None h = absurd (let z : ⊥ = cc in z)
is_some_id r (Some x) h = ap Some (eqb-true x r h)

unsettled_of : (es : List Event) (d r : ℕ) (e : Event) → brings d r e ≡ true → not (ever (sign.Completion r) es) ≡ true → not (is_settled es d e) ≡ true
unsettled_of es d r e b h =
    let here : is_id d (arrived_at e) ≡ true = both_left (is_id d (arrived_at e)) (is_id r (arrived e)) b in
    let is : arrived e ≡ Some r = is_some_id r (arrived e) (both_right (is_id d (arrived_at e)) (is_id r (arrived e)) b) in
    rw (here, is) h

fails_by : (d : ℕ) (es : List Event) (r : ℕ) → pends d r es ≡ true → list_any (λ e. not (is_settled es d e)) es ≡ true
fails_by d es r h =
    let any : list_any (brings d r) es ≡ true = both_left (list_any (brings d r) es) (not (ever (sign.Completion r) es)) h in
    let p = passing (brings d r) es any in
    p.there (λ e. not (is_settled es d e)) (unsettled_of es d r p.item p.passes (both_right (list_any (brings d r) es) (not (ever (sign.Completion r) es)) h))

falls : (b : Bool) → (b ≡ true → ⊥) → not b ≡ true
falls true h = absurd (h refl)
falls false h = refl

-- a request is kept exactly where one is pending
pub some_pending : (es : List Event) (x : IdleDevice) → Pending es x → has_some x ≡ has_pending x.device.id.0 es
some_pending es x k =
    let d : ℕ = x.device.id.0 in
    counted x.pending ∙ same_so (list_any (λ (b : Bool). b) x.pending) (has_pending d es)
    (λ h.
    let b = bit_there x.pending h in
    let p : pends d b.0 es ≡ true = sym (k.entries b.0) ∙ b.1 in
    falls (list_all (is_settled es d) es) (λ all. none_fails (is_settled es d) es all (fails_by d es b.0 p)))
    (λ h.
    let f = some_fails (is_settled es d) es (not_true (list_all (is_settled es d) es) h) in
    let p = pends_by d es f in
    there_bit x.pending p.0 (k.entries p.0 ∙ p.1))

-- ---- one event more

pends_more : (d r : ℕ) (es : List Event) (e : Event) → pends d r (es ++ e ∷ []) ≡ ((list_any (brings d r) es || brings d r e) && not (ever (sign.Completion r) es || shows (sign.Completion r) e))
pends_more d r es e = rw (any_last (brings d r) es e, ever_next (sign.Completion r) es e) refl

quiet_by : (a c b s : Bool) → b ≡ false → s ≡ false → ((a || b) && not (c || s)) ≡ (a && not c)
quiet_by true true b s h k = refl
quiet_by true false b s h k = rw k refl
quiet_by false c b s h k = rw h refl

done_by : (a c b s : Bool) → b ≡ false → ((a || b) && not (c || s)) ≡ ((a && not c) && not s)
done_by true true b s h = refl
done_by true false b s h = refl
done_by false c b s h = rw h refl

-- what is known of what the policy keeps after an event
pub record More (es : List Event) (e : Event) (x : IdleDevice) (brought : ℕ) : Type 0 where
  pub entries : (r : ℕ) → entry false (pending_after x e) r ≡ pends x.device.id.0 r (es ++ e ∷ [])
  pub few : count_of (pending_after x e) ≤ count_of x.pending + brought

module _ (es : List Event) (x : IdleDevice) (k : Pending es x) where
  abbrev d : ℕ
  d = x.device.id.0

  pub quiet : (e : Event) (n : ℕ) → pending_after x e ≡ x.pending → ((r : ℕ) → brings d r e ≡ false) → ((r : ℕ) → shows (sign.Completion r) e ≡ false) → More es e x n
  quiet e n same none off = record {
    entries = λ r. ap (λ bits. entry false bits r) same ∙ k.entries r ∙ sym (pends_more d r es e ∙ quiet_by (list_any (brings d r) es) (ever (sign.Completion r) es) (brings d r e) (shows (sign.Completion r) e) (none r) (off r));
    few = let s = ap count_of same in omega (arith, s);
  }

  -- ---- a completion

  kept_by : (o r : ℕ) (b : Bool) → entry false x.pending o ≡ b → entry false (if b then put false x.pending o false else x.pending) r ≡ (entry false x.pending r && not (o == r))
  kept_by o r true e = elim (one_or_two r o) [
    | inl same ↦ rw (same, equal o o refl) (entry_put_same false x.pending o false ∙ sym (and-false (entry false x.pending o)))
    | inr other ↦ rw (not_equal o r (λ y. other (sym y))) (entry_put_other false x.pending o r false other ∙ sym (and-true (entry false x.pending r)))
  ]
  kept_by o r false e = elim (one_or_two r o) [
    | inl same ↦ rw (same, e) refl
    | inr other ↦ rw (not_equal o r (λ y. other (sym y))) (sym (and-true (entry false x.pending r)))
  ]

  fewer_by : (o : ℕ) (b : Bool) → count_of (if b then put false x.pending o false else x.pending) ≤ count_of x.pending
  fewer_by o true =
      let c = count_put (λ (y : Bool). y) false x.pending o false refl in
      let z : flag false ≡ 0 = refl in
      omega (arith, c, z)
  fewer_by o false = omega arith

  pub completes : (e : Event) (o n : ℕ) → pending_after x e ≡ with_completion x.pending o → ((r : ℕ) → brings d r e ≡ false) → ((r : ℕ) → shows (sign.Completion r) e ≡ (o == r)) → More es e x n
  completes e o n same none is = record {
    entries = λ r.
        ap (λ bits. entry false bits r) same ∙ kept_by o r (entry false x.pending o) refl ∙ ap (λ b. b && not (o == r)) (k.entries r)
        ∙ sym (pends_more d r es e ∙ done_by (list_any (brings d r) es) (ever (sign.Completion r) es) (brings d r e) (shows (sign.Completion r) e) (none r) ∙ ap (λ s. pends d r es && not s) (is r));
    few = let s = ap count_of same in let f = fewer_by o (entry false x.pending o) in omega (arith, s, f);
  }

  -- ---- an arrival

  pub keeps : (e : Event) (o : ℕ) → pending_after x e ≡ put false x.pending o true → ((r : ℕ) → brings d r e ≡ (o == r)) → ((r : ℕ) → shows (sign.Completion r) e ≡ false) → ever (sign.Completion o) es ≡ false → More es e x 1
  keeps e o same is off fresh = record {
    entries = λ r. ap (λ bits. entry false bits r) same ∙ elim (one_or_two r o) [
      | inl here ↦
          let all : pends d o (es ++ e ∷ []) ≡ true = pends_more d o es e ∙ came (list_any (brings d o) es) (ever (sign.Completion o) es) (brings d o e) (shows (sign.Completion o) e) fresh (is o ∙ equal o o refl) (off o) in
          subst (λ y. entry false (put false x.pending o true) y ≡ pends d y (es ++ e ∷ [])) (sym here) (entry_put_same false x.pending o true ∙ sym all)
      | inr other ↦
          entry_put_other false x.pending o r true other ∙ k.entries r
          ∙ sym (pends_more d r es e ∙ quiet_by (list_any (brings d r) es) (ever (sign.Completion r) es) (brings d r e) (shows (sign.Completion r) e) (is r ∙ not_equal o r (λ y. other (sym y))) (off r))
    ];
    few =
        let s = ap count_of same in
        let c = count_put (λ (y : Bool). y) false x.pending o true refl in
        let z : flag true ≡ 1 = refl in
        omega (arith, s, c, z);
  }
    where
      came : (a c b s : Bool) → c ≡ false → b ≡ true → s ≡ false → ((a || b) && not (c || s)) ≡ true
      came true c b s h j l = rw (h, l) refl
      came false c b s h j l = rw (h, j, l) refl
