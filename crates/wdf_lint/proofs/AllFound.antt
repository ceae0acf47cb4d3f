-- The findings of all callbacks, put in order, are the answer.
use Rattle.std.proofs.Common.{◌≡◌, ℕ, zero, suc, ◌+◌, ◌-◌, ◌==◌, ◌<◌, ◌≤◌, nat_lt, Bool, true, false, ◌&&◌, ◌||◌, ◌⊎◌, inl, inr, List, [], ◌∷◌, ◌++◌, length, get_or, map, Option, Some, None, option_map, slice_get, refl, sym, ap, subst, ◌∙◌, arith, Ordering, Less, Equal}
use Rattle.std.specs.Ordering.{is_lt, nat_cmp, ordering_then}
use Rattle.std.specs.List.{sum_by}
use Rattle.std.specs.List.Sorted.{IsPermutation}
use Rattle.std.proofs.lemmas.Bool.Decides.{Decides-eqb, nat_tests}
use Rattle.std.proofs.lemmas.List.{length-map}
use Rattle.std.proofs.lemmas.List.Sums.{sum_by-cons}
use Rattle.std.proofs.lemmas.List.Sorted.{length_permutation, sum_by-IsPermutation}
use Rattle.std.proofs.lemmas.Option.{get_or_from_slice_get, slice_get-map, slice_get_past, slice_get_within}
use Rattle.wdf_base.specs.declared.plan.Plan.{Plan}
use Rattle.wdf_base.specs.declared.event.Fault.{Fault}
use Rattle.wdf_base.specs.Plan.{script_statements}
use Rattle.wdf_lint.specs.declared.state.Abstract.{Abstract}
use Rattle.wdf_lint.specs.declared.findings.Found.{Found}
use Rattle.wdf_lint.specs.declared.static_check.LintAnswer.TheVariants as answer
use Rattle.wdf_lint.specs.Abstracts.{start}
use Rattle.wdf_lint.specs.Steps.{breaks, rule_at, statement_of, steps, steps_at}
use Rattle.wdf_lint.specs.Walks.{IsClean, IsReached, line_of_callback}
use Rattle.wdf_lint.specs.Findings.{Finding, IsBig, IsFinding, IsWalkTo, STATES, Spot, comes_before, rule_number}
use Rattle.wdf_lint.specs.Answers.{IsAnswer}
use Rattle.wdf_lint.specs.Found.{IsAllOf, IsNoted, finding_of, spot_of}
use Rattle.wdf_lint.proofs.Places.{before_or_not, in_both, in_moved, in_second, in_unmoved, item_at, not_both, on_by, same_some, sooner_or_there, stays}
use Rattle.wdf_lint.proofs.PathOrder.{first_less, first_same}

-- spots with the same script, statement and rule
same_spot : (a b c x y z : ℕ) → a ≡ x → b ≡ y → c ≡ z → ◌≡◌ {A = Spot} (record { script = a; at = b; rule = c }) (record { script = x; at = y; rule = z })
same_spot a b c x y z p q r = rw p (rw q (rw r refl))

-- ---- one callback that is too big

pub size_is_all : (plan : Plan) (k : ℕ) (f : Found) → IsBig plan k → f.script ≡ k → f.at ≡ 0 → f.rule ≡ 0 → f.line ≡ line_of_callback plan k → f.path ≡ [] → IsAllOf plan (λ n. n ≡ k) (f ∷ [])
size_is_all plan k f big script at rule line path = record {
  each = each;
  size = λ n e b. (0, f, refl, spot n e);
  statement = λ n e small. absurd (small (subst (IsBig plan) (sym e) big));
  once = once;
}
  where
    spot : (n : ℕ) → n ≡ k → spot_of f ≡ record { script = n; at = 0; rule = 0 }
    spot n e = same_spot f.script f.at f.rule n 0 0 (script ∙ sym e) at rule

    finding : finding_of f ≡ record { line = line_of_callback plan f.script; rule = 0; path = [] }
    finding = rw (line ∙ ap (line_of_callback plan) (sym script)) (rw rule (rw path refl))

    each : (n : ℕ) (g : Found) → slice_get (f ∷ []) n ≡ Some g → (g.script ≡ k) × IsFinding plan (spot_of g) (finding_of g)
    each zero g h = subst (λ (x : Found). (x.script ≡ k) × IsFinding plan (spot_of x) (finding_of x)) (same_some h) (script, inl (record { big = subst (IsBig plan) (sym script) big; at = at; rule = rule; finding = finding }))
    each (suc n) g h = not_both h refl

    once : (m n : ℕ) (g h : Found) → slice_get (f ∷ []) m ≡ Some g → slice_get (f ∷ []) n ≡ Some h → spot_of g ≡ spot_of h → m ≡ n
    once zero zero g h a b e = refl
    once zero (suc n) g h a b e = not_both b refl
    once (suc m) n g h a b e = not_both a refl

-- ---- callback after callback

pub none_found : (plan : Plan) → IsAllOf plan (λ k. k < 0) []
none_found plan = record {
  each = λ n f at. not_both at refl;
  size = λ k less big. absurd (omega arith);
  statement = λ k less small. absurd (omega arith);
  once = λ m n f g at. not_both at refl;
}

pub joined : (plan : Plan) (n : ℕ) (found more : List Found) → IsAllOf plan (λ k. k < n) found → IsAllOf plan (λ k. k ≡ n) more → IsAllOf plan (λ k. k < n + 1) (found ++ more)
joined plan n found more old new = record { each = each; size = size; statement = statement; once = once }
  where
    each : (m : ℕ) (f : Found) → slice_get (found ++ more) m ≡ Some f → (f.script < n + 1) × IsFinding plan (spot_of f) (finding_of f)
    each m f h = elim (in_both found more m f h) [
      | inl first ↦ let r = old.each m f first.1 in (let less = r.0 in omega arith, r.1)
      | inr second ↦ let r = new.each (m - length found) f second.1 in (let e = r.0 in omega arith, r.1)
    ]

    in_old : (s : Spot) → IsNoted found s → IsNoted (found ++ more) s
    in_old s (m, f, at, is) = (m, f, stays found (found ++ more) (on_by found more) m f at, is)

    in_new : (s : Spot) → IsNoted more s → IsNoted (found ++ more) s
    in_new s (m, f, at, is) = (length found + m, f, in_second found more m f at, is)

    size : (k : ℕ) → k < n + 1 → IsBig plan k → IsNoted (found ++ more) (record { script = k; at = 0; rule = 0 })
    size k less big = elim (sooner_or_there k n less) [
      | inl before ↦ in_old (record { script = k; at = 0; rule = 0 }) (old.size k before big)
      | inr e ↦ in_new (record { script = k; at = 0; rule = 0 }) (new.size k e big)
    ]

    statement : (k : ℕ) → k < n + 1 → (IsBig plan k → ⊥) → (a : Abstract) → IsReached plan k a → (x : Fault) → breaks plan k a ≡ Some x → IsNoted (found ++ more) (record { script = k; at = a.at; rule = rule_number x })
    statement k less small a reached x is = elim (sooner_or_there k n less) [
      | inl before ↦ in_old (record { script = k; at = a.at; rule = rule_number x }) (old.statement k before small a reached x is)
      | inr e ↦ in_new (record { script = k; at = a.at; rule = rule_number x }) (new.statement k e small a reached x is)
    ]

    apart : (f g : Found) → f.script < n → g.script ≡ n → spot_of f ≡ spot_of g → ⊥
    apart f g less e same = let scripts : f.script ≡ g.script = ap (λ (s : Spot). s.script) same in let z : ⊥ = omega arith in z

    once : (m l : ℕ) (f g : Found) → slice_get (found ++ more) m ≡ Some f → slice_get (found ++ more) l ≡ Some g → spot_of f ≡ spot_of g → m ≡ l
    once m l f g at_m at_l e = elim (in_both found more m f at_m) [
      | inl first ↦ elim (in_both found more l g at_l) [
        | inl both ↦ old.once m l f g first.1 both.1 e
        | inr other ↦ absurd (apart f g (old.each m f first.1).0 (new.each (l - length found) g other.1).0 e)
      ]
      | inr second ↦ elim (in_both found more l g at_l) [
        | inl other ↦ absurd (apart g f (old.each l g other.1).0 (new.each (m - length found) f second.1).0 (sym e))
        | inr both ↦ let same = new.once (m - length found) (l - length found) f g second.1 both.1 e in let low = second.0 in let low_ = both.0 in omega arith
      ]
    ]

-- ---- no callback at all

module _ (plan : Plan) (k : ℕ) (past : length plan.scripts ≤ k) where
  no_statement : (a : Abstract) → statement_of plan k a ≡ None
  no_statement a = ap (λ s. slice_get (script_statements s) a.at) (slice_get_past plan.scripts k past)

  only_start : (a : Abstract) → IsReached plan k a → a ≡ start plan k
  only_start a ([], w) = w
  only_start a (b ∷ before, w) =
      let none : steps plan k b ≡ [] = ap (steps_at plan k b) (no_statement b) in
      absurd (not_both {P = ⊥} (subst (λ xs. slice_get xs w.0.0 ≡ Some a) none w.0.1) refl)

  keeps_all : (a : Abstract) → IsReached plan k a → breaks plan k a ≡ None
  keeps_all a r = subst (λ b. breaks plan k b ≡ None) (sym (only_start a r)) (ap (rule_at plan k (start plan k)) (no_statement (start plan k)))

  not_so_big : IsBig plan k → ⊥
  not_so_big big =
      let more : STATES < length big.states = big.more in
      let first = item_at big.states 0 (omega (arith, more)) in
      let second = item_at big.states 1 (omega (arith, more)) in
      let one : first.0 ≡ start plan k = only_start first.0 (big.reached 0 first.0 first.1) in
      let two : second.0 ≡ start plan k = only_start second.0 (big.reached 1 second.0 second.1) in
      let a : get_or big.states 0 (start plan k) ≡ start plan k = get_or_from_slice_get big.states 0 first.0 (start plan k) first.1 ∙ one in
      let b : get_or big.states 1 (start plan k) ≡ start plan k = get_or_from_slice_get big.states 1 second.0 (start plan k) second.1 ∙ two in
      big.once 0 1 (start plan k) (omega arith) (omega (arith, more)) (a ∙ sym b)

-- ---- nothing was found

none_noted : (s : Spot) → IsNoted [] s → ⊥
none_noted s (n, f, at, is) = not_both at refl

pub clean : (plan : Plan) → IsAllOf plan (λ k. k < length plan.scripts) [] → IsAnswer plan answer.Clean
clean plan all = (keeps, small)
  where
    small : (k : ℕ) → IsBig plan k → ⊥
    small k big = elim (before_or_not k (length plan.scripts)) [
      | inl within ↦ none_noted (record { script = k; at = 0; rule = 0 }) (all.size k within big)
      | inr past ↦ not_so_big plan k past big
    ]

    none_by : (k : ℕ) (a : Abstract) (o : Option Fault) → breaks plan k a ≡ o → k < length plan.scripts → IsReached plan k a → breaks plan k a ≡ None
    none_by k a None e within r = e
    none_by k a (Some x) e within r = absurd (none_noted (record { script = k; at = a.at; rule = rule_number x }) (all.statement k within (small k) a r x e))

    keeps : IsClean plan
    keeps k a r = elim (before_or_not k (length plan.scripts)) [
      | inl within ↦ none_by k a (breaks plan k a) refl within r
      | inr past ↦ keeps_all plan k past a r
    ]

pub empty_list : (found : List Found) (n : ℕ) → n ≡ length found → (n == 0) ≡ true → found ≡ []
empty_list [] n e h = refl
empty_list (f ∷ fs) n e h = absurd (let z : n ≡ 0 = (Decides-eqb n 0).0 h in omega arith)

pub some_list : (found : List Found) (n : ℕ) → n ≡ length found → (n == 0) ≡ false → found ≡ [] → ⊥
some_list found n e h is = let none : n ≡ 0 = e ∙ ap length is in let yes : (n == 0) ≡ true = (Decides-eqb n 0).1 none in let z : ⊥ = cc in z

-- ---- another order

-- whether a finding is at a spot
abbrev is_at : Spot → Found → Bool
is_at s f = (s.script == f.script) && ((s.at == f.at) && (s.rule == f.rule))

abbrev one_if : Bool → ℕ
one_if true = 1
one_if false = 0

abbrev at_spot : Spot → Found → ℕ
at_spot s f = one_if (is_at s f)

both_parts : (b c : Bool) → (b && c) ≡ true → (b ≡ true) × (c ≡ true)
both_parts true c h = (refl, h)
both_parts false c h = absurd (let z : ⊥ = cc in z)

both_so : (b c : Bool) → b ≡ true → c ≡ true → (b && c) ≡ true
both_so b c e f = rw e (rw f refl)

spot_counts : (s : Spot) (f : Found) → spot_of f ≡ s → at_spot s f ≡ 1
spot_counts s f e =
    let script : (s.script == f.script) ≡ true = (Decides-eqb s.script f.script).1 (sym (ap (λ (x : Spot). x.script) e)) in
    let at : (s.at == f.at) ≡ true = (Decides-eqb s.at f.at).1 (sym (ap (λ (x : Spot). x.at) e)) in
    let rule : (s.rule == f.rule) ≡ true = (Decides-eqb s.rule f.rule).1 (sym (ap (λ (x : Spot). x.rule) e)) in
    ap one_if (both_so (s.script == f.script) ((s.at == f.at) && (s.rule == f.rule)) script (both_so (s.at == f.at) (s.rule == f.rule) at rule))

-- one that isn't at the spot counts for nothing
spot_or_none : (s : Spot) (f : Found) → ((spot_of f ≡ s) × (at_spot s f ≡ 1)) ⊎ (at_spot s f ≡ 0)
spot_or_none s f = by (is_at s f) refl
  where
    by : (b : Bool) → is_at s f ≡ b → ((spot_of f ≡ s) × (at_spot s f ≡ 1)) ⊎ (at_spot s f ≡ 0)
    by true e =
        let first = both_parts (s.script == f.script) ((s.at == f.at) && (s.rule == f.rule)) e in
        let second = both_parts (s.at == f.at) (s.rule == f.rule) first.1 in
        inl (same_spot f.script f.at f.rule s.script s.at s.rule (sym ((Decides-eqb s.script f.script).0 first.0)) (sym ((Decides-eqb s.at f.at).0 second.0)) (sym ((Decides-eqb s.rule f.rule).0 second.1)), ap one_if e)
    by false e = inr (ap one_if e)

abbrev Once : List Found → Type 0
Once found = (m n : ℕ) (f g : Found) → slice_get found m ≡ Some f → slice_get found n ≡ Some g → spot_of f ≡ spot_of g → m ≡ n

none_left : (s : Spot) (fs : List Found) → ((n : ℕ) (f : Found) → slice_get fs n ≡ Some f → spot_of f ≡ s → ⊥) → sum_by (at_spot s) fs ≡ 0
none_left s [] h = refl
none_left s (f ∷ fs) h =
    let rest = none_left s fs (λ n g at. h (suc n) g at) in
    let all = sum_by-cons (at_spot s) f fs in
    elim (spot_or_none s f) [
      | inl here ↦ absurd (h 0 f refl here.0)
      | inr no_ ↦ omega arith
    ]

at_most_one : (s : Spot) (fs : List Found) → Once fs → sum_by (at_spot s) fs ≤ 1
at_most_one s [] once = omega arith
at_most_one s (f ∷ fs) once = let all = sum_by-cons (at_spot s) f fs in elim (spot_or_none s f) [
  | inl here ↦ let one = here.1 in let rest = none_left s fs (λ n g at e. let z : 0 ≡ suc n = once 0 (suc n) f g refl at (here.0 ∙ sym e) in let y : ⊥ = omega arith in y) in omega arith
  | inr no_ ↦ let rest = at_most_one s fs (λ m n g h at_m at_n e. let z : suc m ≡ suc n = once (suc m) (suc n) g h at_m at_n e in omega arith) in omega arith
]

counted : (s : Spot) (fs : List Found) (n : ℕ) (f : Found) → slice_get fs n ≡ Some f → spot_of f ≡ s → 1 ≤ sum_by (at_spot s) fs
counted s [] n f at e = not_both at refl
counted s (g ∷ gs) zero f at e = let all = sum_by-cons (at_spot s) g gs in let one : at_spot s g ≡ 1 = spot_counts s g (ap spot_of (same_some at) ∙ e) in omega arith
counted s (g ∷ gs) (suc n) f at e = let all = sum_by-cons (at_spot s) g gs in let rest = counted s gs n f at e in omega arith

-- two neighbors at one spot count twice
twice : (s : Spot) (fs : List Found) (n : ℕ) (f g : Found) → slice_get fs n ≡ Some f → slice_get fs (n + 1) ≡ Some g → spot_of f ≡ s → spot_of g ≡ s → 2 ≤ sum_by (at_spot s) fs
twice s [] n f g at at_ e d = not_both at refl
twice s (h ∷ hs) zero f g at at_ e d = let all = sum_by-cons (at_spot s) h hs in let one : at_spot s h ≡ 1 = spot_counts s h (ap spot_of (same_some at) ∙ e) in let z : 0 + 1 ≡ suc 0 = omega arith in let rest = counted s hs 0 g (subst (λ m. slice_get (h ∷ hs) m ≡ Some g) z at_) d in omega arith
twice s (h ∷ hs) (suc n) f g at at_ e d = let all = sum_by-cons (at_spot s) h hs in let z : suc n + 1 ≡ suc (n + 1) = omega arith in let rest = twice s hs n f g at (subst (λ m. slice_get (h ∷ hs) m ≡ Some g) z at_) e d in omega arith

apart_still : (xs ys : List Found) → Once xs → IsPermutation xs ys → (n : ℕ) (f g : Found) → slice_get ys n ≡ Some f → slice_get ys (n + 1) ≡ Some g → spot_of f ≡ spot_of g → ⊥
apart_still xs ys once moved n f g at at_ e =
    let most = at_most_one (spot_of g) xs once in
    let same : sum_by (at_spot (spot_of g)) ys ≡ sum_by (at_spot (spot_of g)) xs = sum_by-IsPermutation (at_spot (spot_of g)) xs ys moved in
    let two = twice (spot_of g) ys n f g at at_ e refl in
    let z : ⊥ = omega arith in z

-- ---- the order of four numbers

abbrev pub order_of : Found → Found → Ordering
order_of f g = ordering_then (ordering_then (ordering_then (nat_cmp f.line g.line) (nat_cmp f.rule g.rule)) (nat_cmp f.script g.script)) (nat_cmp f.at g.at)

three_ways : (a b : ℕ) → ((a < b) ⊎ (a ≡ b)) ⊎ (b < a)
three_ways a b = elim (before_or_not a b) [
  | inl less ↦ inl (inl less)
  | inr more ↦ elim (before_or_not b a) [
    | inl less ↦ inr less
    | inr most ↦ inl (inr (omega arith))
  ]
]

cmp_less : (a b : ℕ) → a < b → nat_cmp a b ≡ Less
cmp_less a b h = grind (arith, nat_tests)

cmp_same : (a b : ℕ) → a ≡ b → nat_cmp a b ≡ Equal
cmp_same a b h = grind (arith, nat_tests)

-- the first number decides, or the rest does
by_first : (a b : ℕ) (rest : Ordering → Ordering) (t : Bool) → rest Less ≡ Less → is_lt (rest (nat_cmp b a)) ≡ false → (a ≡ b → is_lt (rest Equal) ≡ false → t ≡ true) → (nat_lt a b || (a == b && t)) ≡ true
by_first a b rest t less off more = elim (three_ways a b) [
  | inl up ↦ elim up [
    | inl below ↦ first_less a b t below
    | inr same ↦ first_same a b t same (more same (subst (λ o. is_lt (rest o) ≡ false) (cmp_same b a (sym same)) off))
  ]
  | inr above ↦ absurd (let e : is_lt (rest (nat_cmp b a)) ≡ true = ap (λ o. is_lt (rest o)) (cmp_less b a above) ∙ ap is_lt less in let z : ⊥ = cc in z)
]

pub in_order_of : (f g : Found) → is_lt (order_of g f) ≡ false → (spot_of f ≡ spot_of g → ⊥) → comes_before (finding_of f) (spot_of f) (finding_of g) (spot_of g) ≡ true
in_order_of f g off apart =
    by_first f.line g.line (λ o. ordering_then (ordering_then (ordering_then o (nat_cmp g.rule f.rule)) (nat_cmp g.script f.script)) (nat_cmp g.at f.at))
    (nat_lt f.rule g.rule || (f.rule == g.rule && (nat_lt f.script g.script || (f.script == g.script && nat_lt f.at g.at)))) refl off (λ line off_.
    by_first f.rule g.rule (λ o. ordering_then (ordering_then o (nat_cmp g.script f.script)) (nat_cmp g.at f.at)) (nat_lt f.script g.script || (f.script == g.script && nat_lt f.at g.at)) refl off_ (λ rule off__.
    by_first f.script g.script (λ o. ordering_then o (nat_cmp g.at f.at)) (nat_lt f.at g.at) refl off__ (λ script last. by_at rule script last)))
  where
    by_at : f.rule ≡ g.rule → f.script ≡ g.script → is_lt (nat_cmp g.at f.at) ≡ false → nat_lt f.at g.at ≡ true
    by_at rule script last = elim (three_ways f.at g.at) [
      | inl up ↦ elim up [
        | inl below ↦ grind (arith, nat_tests)
        | inr same ↦ absurd (apart (same_spot f.script f.at f.rule g.script g.at g.rule script same rule))
      ]
      | inr above ↦ absurd (let e : is_lt (nat_cmp g.at f.at) ≡ true = ap is_lt (cmp_less g.at f.at above) in let z : ⊥ = cc in z)
    ]

-- ---- what was found, in order

module _ (plan : Plan) (xs ys : List Found) (all : IsAllOf plan (λ k. k < length plan.scripts) xs) (moved : IsPermutation xs ys)
    (sorted : (n : ℕ) (d : Found) → n + 1 < length ys → is_lt (order_of (get_or ys (n + 1) d) (get_or ys n d)) ≡ false) where
  found_at : (n : ℕ) (f : Finding) → slice_get (map finding_of ys) n ≡ Some f → (g : Found) × (slice_get ys n ≡ Some g) × (finding_of g ≡ f)
  found_at n f at =
      let within = slice_get_within (map finding_of ys) n f at in
      let many = length-map ys finding_of in
      let g = item_at ys n (omega arith) in
      let same : slice_get (map finding_of ys) n ≡ Some (finding_of g.0) = slice_get-map finding_of ys n ∙ ap (λ o. option_map finding_of o) g.1 in
      (g.0, g.1, same_some (sym same ∙ at))

  spot_at : (n : ℕ) (s : Spot) (g : Found) → slice_get (map spot_of ys) n ≡ Some s → slice_get ys n ≡ Some g → s ≡ spot_of g
  spot_at n s g at is = same_some (sym at ∙ slice_get-map spot_of ys n ∙ ap (λ o. option_map spot_of o) is)

  each : (n : ℕ) (s : Spot) (f : Finding) → slice_get (map spot_of ys) n ≡ Some s → slice_get (map finding_of ys) n ≡ Some f → IsFinding plan s f
  each n s f at_s at_f =
      let g = found_at n f at_f in
      let old = in_unmoved xs ys g.0 moved (n, g.1) in
      let is = (all.each old.0 g.0 old.1).1 in
      subst (λ x. IsFinding plan x f) (sym (spot_at n s g.0 at_s g.1)) (subst (IsFinding plan (spot_of g.0)) g.2 is)

  noted : (s : Spot) → IsNoted xs s → (n : ℕ) × (slice_get (map spot_of ys) n ≡ Some s)
  noted s (m, f, at, is) =
      let new = in_moved xs ys f moved (m, at) in
      (new.0, slice_get-map spot_of ys new.0 ∙ ap (λ o. option_map spot_of o) new.1 ∙ ap Some is)

  every : (s : Spot) (f : Finding) → IsFinding plan s f → (n : ℕ) × (slice_get (map spot_of ys) n ≡ Some s)
  every s f (inl size) =
      let same : record { script = s.script; at = 0; rule = 0 } ≡ s = same_spot s.script 0 0 s.script s.at s.rule refl (sym size.at) (sym size.rule) in
      elim (before_or_not s.script (length plan.scripts)) [
        | inl within ↦ noted s (subst (IsNoted xs) same (all.size s.script within size.big))
        | inr past ↦ absurd (not_so_big plan s.script past size.big)
      ]
  every s f (inr statement) = by statement.walk statement.best.goes
    where
      by : (walk : List Abstract) → IsWalkTo plan s walk → (n : ℕ) × (slice_get (map spot_of ys) n ≡ Some s)
      by [] w = absurd w
      by (a ∷ before) (w, at, x, is, rule) = elim (before_or_not s.script (length plan.scripts)) [
        | inl within ↦
            let same : record { script = s.script; at = a.at; rule = rule_number x } ≡ s = same_spot s.script a.at (rule_number x) s.script s.at s.rule refl at rule in
            noted s (subst (IsNoted xs) same (all.statement s.script within statement.small a (before, w) x is))
        | inr past ↦ not_both is (keeps_all plan s.script past a (before, w))
      ]

  in_turn : (n : ℕ) (s t : Spot) (f g : Finding) → slice_get (map spot_of ys) n ≡ Some s → slice_get (map finding_of ys) n ≡ Some f → slice_get (map spot_of ys) (n + 1) ≡ Some t → slice_get (map finding_of ys) (n + 1) ≡ Some g → comes_before f s g t ≡ true
  in_turn n s t f g at_s at_f at_t at_g =
      let x = found_at n f at_f in
      let y = found_at (n + 1) g at_g in
      let one : get_or ys n x.0 ≡ x.0 = get_or_from_slice_get ys n x.0 x.0 x.1 in
      let two : get_or ys (n + 1) x.0 ≡ y.0 = get_or_from_slice_get ys (n + 1) y.0 x.0 y.1 in
      let off : is_lt (order_of y.0 x.0) ≡ false = subst (λ (v : Found). is_lt (order_of v x.0) ≡ false) two (subst (λ (v : Found). is_lt (order_of (get_or ys (n + 1) x.0) v) ≡ false) one (sorted n x.0 (slice_get_within ys (n + 1) y.0 y.1))) in
      let first : comes_before (finding_of x.0) (spot_of x.0) (finding_of y.0) (spot_of y.0) ≡ true = in_order_of x.0 y.0 off (apart_still xs ys once moved n x.0 y.0 x.1 y.1) in
      subst (λ u. comes_before u s g t ≡ true) x.2 (subst (λ u. comes_before (finding_of x.0) s u t ≡ true) y.2
      (subst (λ u. comes_before (finding_of x.0) u (finding_of y.0) t ≡ true) (sym (spot_at n s x.0 at_s x.1)) (subst (λ u. comes_before (finding_of x.0) (spot_of x.0) (finding_of y.0) u ≡ true) (sym (spot_at (n + 1) t y.0 at_t y.1)) first)))
    where
      once : Once xs
      once = all.once

  pub found_all : (xs ≡ [] → ⊥) → IsAnswer plan (answer.Findings (map finding_of ys))
  found_all some_ = (
    some_still,
    record {
      spots = map spot_of ys;
      many = simp length-map;
      each = each;
      all = every;
      sorted = in_turn;
    },
  )
    where
      none_by : (zs : List Found) → length zs ≡ 0 → zs ≡ []
      none_by [] h = refl
      none_by (z ∷ zs) h = absurd (omega arith)

      some_still : map finding_of ys ≡ [] → ⊥
      some_still e =
          let none : length (map finding_of ys) ≡ 0 = ap length e in
          let many = length-map ys finding_of in
          let same : length ys ≡ length xs = length_permutation xs ys moved in
          some_ (none_by xs (omega arith))
