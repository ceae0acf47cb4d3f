-- A search goes on, path by path; at its end it has each state that a walk comes to, by a path that isn't later.
use Rattle.std.proofs.Common.{◌≡◌, ◌≢◌, ℕ, zero, suc, ◌+◌, ◌-◌, ◌<◌, ◌≤◌, Bool, true, false, ◌||◌, inl, inr, List, [], ◌∷◌, ◌++◌, length, fold, get_or, map, take, drop, Some, None, slice_get, refl, sym, ap, subst, ◌∙◌, arith}
use Rattle.std.specs.Bool.{Decides}
use Rattle.std.specs.Cmp.{IsEquivalence}
use Rattle.std.specs.List.{IsDistinct, flat_map, list_any}
use Rattle.std.specs.List.Sorted.{IsNonDecreasingBy, IsPermutation}
use Rattle.std.proofs.lemmas.Map.Made.{AllPairs-from_IsDistinct, IsDistinct-from_AllPairs, length-le_from_is_member}
use Rattle.std.proofs.lemmas.List.{length-append, reverse-append}
use Rattle.std.proofs.lemmas.Option.{get_or_from_slice_get, slice_get_within}
use Rattle.wdf_base.specs.declared.plan.Plan.{Plan}
use Rattle.wdf_lint.specs.declared.state.Abstract.{Abstract}
use Rattle.wdf_lint.specs.Abstracts.{start}
use Rattle.wdf_lint.specs.Steps.{steps}
use Rattle.wdf_lint.specs.Walks.{IsIn, IsWalk, line_at, lines_of}
use Rattle.wdf_lint.specs.Findings.{IsBig, STATES}
use Rattle.wdf_lint.specs.Paths.{NoLater, goes_before}
use Rattle.wdf_lint.specs.Searches.{Adding, IsSearch, IsSearched, IsTable, PathAt, Table, added_by}
use Rattle.wdf_lint.proofs.Places.{as_before, before_or_not, flat_in, in_flat, in_moved, in_range, in_unmoved, item_at, not_both, on_itself, range_in, same_some, stays}
use Rattle.wdf_lint.proofs.PathOrder.{before_more, before_then, later_more, later_then, shorter}
use Rattle.wdf_lint.proofs.Adding.{IsAdded, IsAdding, IsNext, Rises, all_added}
use Rattle.wdf_lint.proofs.SameState.{eq, eq_itself, eq_same}

-- ---- the start

pub begins : (plan : Plan) (k : ℕ) → IsSearch plan k (record { states = start plan k ∷ []; ranks = 0 ∷ []; paths = (line_at plan k (start plan k) ∷ []) ∷ [] }) 0
begins plan k = record {
  table = record {
    first = refl;
    opens = (0, refl, refl);
    many = refl;
    named = named;
    walked = walked;
    in_order = in_order;
    rising = rising;
  };
  apart = λ i j r s less more at_i at_j. absurd (omega arith);
  closed = λ i a b p less at path is. absurd (omega arith);
  open_ = open_;
}
  where
    line : ℕ
    line = line_at plan k (start plan k)

    t : Table
    t = record { states = start plan k ∷ []; ranks = 0 ∷ []; paths = (line ∷ []) ∷ [] }

    named : (i r : ℕ) → slice_get t.ranks i ≡ Some r → r < 1
    named zero r h = let e : 0 ≡ r = same_some h in omega arith
    named (suc i) r h = not_both h refl

    one_path : (i : ℕ) (p : List ℕ) → PathAt t i p → p ≡ line ∷ []
    one_path i p (zero, at, is) = sym (same_some is)
    one_path i p (suc r, at, is) = not_both is refl

    walked : (i : ℕ) (a : Abstract) (p : List ℕ) → slice_get t.states i ≡ Some a → PathAt t i p → (before : List Abstract) × IsWalk plan k (a ∷ before) × (p ≡ lines_of plan k (a ∷ before))
    walked zero a p h path = let e : start plan k ≡ a = same_some h in ([], sym e, one_path 0 p path ∙ ap (λ b. line_at plan k b ∷ []) e)
    walked (suc i) a p h path = not_both h refl

    in_order : (i j r s : ℕ) → i ≤ j → slice_get t.ranks i ≡ Some r → slice_get t.ranks j ≡ Some s → r ≤ s
    in_order i j r s le at_i at_j = let a = named i r at_i in omega arith

    rising : (m n : ℕ) (p q : List ℕ) → m < n → slice_get t.paths m ≡ Some p → slice_get t.paths n ≡ Some q → goes_before p q ≡ true
    rising m zero p q less at_m at_n = absurd (omega arith)
    rising m (suc n) p q less at_m at_n = not_both at_n refl

    open_ : (n j : ℕ) (p q : List ℕ) (l : ℕ) → 0 ≤ j → slice_get t.paths n ≡ Some p → PathAt t j q → goes_before p (q ++ l ∷ []) ≡ true
    open_ zero j p q l low at path =
        let one : p ≡ line ∷ [] = sym (same_some at) in
        let two : q ≡ line ∷ [] = one_path j q path in
        subst (λ x. goes_before x (q ++ l ∷ []) ≡ true) (sym one) (subst (λ y. goes_before (line ∷ []) (y ++ l ∷ []) ≡ true) (sym two) (shorter (line ∷ []) (line ∷ l ∷ []) (omega arith)))
    open_ (suc n) j p q l low at path = not_both at refl

-- ---- the states of one path are followed

lines_more : (plan : Plan) (k : ℕ) (b : Abstract) (walk : List Abstract) → lines_of plan k (b ∷ walk) ≡ lines_of plan k walk ++ line_at plan k b ∷ []
lines_more plan k b walk = reverse-append (line_at plan k b ∷ []) (map (line_at plan k) walk)

-- each state of a table has a path
pub path_of : (plan : Plan) (k : ℕ) (t : Table) → IsTable plan k t → (i : ℕ) (a : Abstract) → slice_get t.states i ≡ Some a → (p : List ℕ) × PathAt t i p
path_of plan k t is i a at =
    let many = is.many in
    let within = slice_get_within t.states i a at in
    let rank = item_at t.ranks i (omega arith) in
    let path = item_at t.paths rank.0 (is.named i rank.0 rank.1) in
    (path.0, (rank.0, rank.1, path.1))

same_path : (t : Table) (i : ℕ) (p q : List ℕ) → PathAt t i p → PathAt t i q → p ≡ q
same_path t i p q (r, at, is) (s, at_, is_) =
    let e : r ≡ s = same_some (sym at ∙ at_) in
    same_some (sym is ∙ subst (λ n. slice_get t.paths n ≡ Some q) (sym e) is_)

-- the states from a place on that have its path
pub record IsGroup (ranks : List ℕ) (from end r : ℕ) : Type 0 where
  pub here : slice_get ranks from ≡ Some r
  pub past : from < end
  pub within : end ≤ length ranks
  pub same : (i s : ℕ) → from ≤ i → i < end → slice_get ranks i ≡ Some s → s ≡ r
  pub other : (s : ℕ) → slice_get ranks end ≡ Some s → s ≢ r

module _ (plan : Plan) (k : ℕ) (t : Table) (from end r : ℕ) (s : IsSearch plan k t from) (g : IsGroup t.ranks from end r) where
  abbrev p_ : (p : List ℕ) × (slice_get t.paths r ≡ Some p)
  p_ = item_at t.paths r (s.table.named from r g.here)

  abbrev p : List ℕ
  p = p_.0

  at_from : PathAt t from p
  at_from = (r, g.here, p_.1)

  up_to : (i m : ℕ) → i < end → slice_get t.ranks i ≡ Some m → m ≤ r
  up_to i m less at = elim (before_or_not i from) [
    | inl before ↦ let lower = s.apart i from m r before (omega arith) at g.here in omega arith
    | inr more ↦ let e = g.same i m more less at in omega arith
  ]

  beyond : (j m : ℕ) → end ≤ j → slice_get t.ranks j ≡ Some m → r < m
  beyond j m more at =
      let past = g.past in
      let inside = slice_get_within t.ranks j m at in
      let first = item_at t.ranks end (omega arith) in
      let low = s.table.in_order from end r first.0 (omega arith) g.here first.1 in
      let high = s.table.in_order end j first.0 m more first.1 at in
      elim (before_or_not r m) [
        | inl less ↦ less
        | inr most ↦ absurd (g.other first.0 first.1 (omega arith))
      ]

  pub followed : (found sorted : List Abstract) → found ≡ flat_map (steps plan k) (take (end - from) (drop from t.states)) → IsPermutation found sorted → IsNonDecreasingBy (line_at plan k) sorted
      → IsSearch plan k (fold (added_by eq (line_at plan k) r) (record { table = t; last = None }) sorted).table end
  followed found sorted made moved rises = record {
    table = add.table;
    apart = apart;
    closed = closed;
    open_ = open_;
  }
    where
      below : (n : ℕ) (q : List ℕ) (line : ℕ) → slice_get t.paths n ≡ Some q → goes_before q (p ++ line ∷ []) ≡ true
      below n q line at = s.open_ n from q p line (omega arith) at at_from

      x : Adding
      x = record { table = t; last = None }

      opened : IsAdding plan k t p x
      opened = record {
        table = s.table;
        states = on_itself t.states;
        ranks = on_itself t.ranks;
        paths = on_itself t.paths;
        path = λ i a q high at path. absurd (let within = slice_get_within t.states i a at in let z : ⊥ = omega arith in z);
        rank = λ i m high at. absurd (let within = slice_get_within t.ranks i m at in let many = s.table.many in let z : ⊥ = omega arith in z);
        new = λ n q high at. absurd (let within = slice_get_within t.paths n q at in let z : ⊥ = omega arith in z);
        last = tt;
      }

      next : (n : ℕ) (a : Abstract) → slice_get sorted n ≡ Some a → IsNext plan k p a
      next n a at =
          let in_found : IsIn a found = in_unmoved found sorted a moved (n, at) in
          let in_all : IsIn a (flat_map (steps plan k) (take (end - from) (drop from t.states))) = subst (λ l. IsIn a l) made in_found in
          let from_ = in_flat (steps plan k) (take (end - from) (drop from t.states)) in_all.0 a in_all.1 in
          let b : Abstract = from_.1 in
          let place = in_range t.states from end from_.0 b from_.2 in
          let i : ℕ = from + from_.0 in
          let path = path_of plan k t s.table i b place.1 in
          let one : path.1.0 ≡ r = g.same i path.1.0 (omega arith) place.0 path.1.1 in
          let same : path.0 ≡ p = same_some (sym path.1.2 ∙ subst (λ m. slice_get t.paths m ≡ Some p) (sym one) p_.1) in
          let walk = s.table.walked i b path.0 place.1 path.1 in
          (b ∷ walk.0, (from_.3, walk.1), ap (λ l. l ++ line_at plan k a ∷ []) (sym same ∙ walk.2) ∙ sym (lines_more plan k a (b ∷ walk.0)))

      ordered : Rises plan k t r p p_.1 below sorted
      ordered m n a b le at_m at_n =
          let up = rises m n a le (slice_get_within sorted n b at_n) in
          let one : get_or sorted m a ≡ a = get_or_from_slice_get sorted m a a at_m in
          let two : get_or sorted n a ≡ b = get_or_from_slice_get sorted n b a at_n in
          let first : line_at plan k (get_or sorted m a) ≡ line_at plan k a = ap (line_at plan k) one in
          let last : line_at plan k (get_or sorted n a) ≡ line_at plan k b = ap (line_at plan k) two in
          omega arith

      y : Adding
      y = fold (added_by eq (line_at plan k) r) x sorted

      all : IsAdded plan k t r p p_.1 below x sorted y
      all = all_added plan k t r p p_.1 below sorted x opened (λ n a at. tt) ordered next

      add : IsAdding plan k t p y
      add = all.adding

      U : Table
      U = y.table

      lifted : (i : ℕ) (q : List ℕ) → PathAt t i q → PathAt U i q
      lifted i q (m, at, is) = (m, stays t.ranks U.ranks add.ranks i m at, stays t.paths U.paths add.paths m q is)

      lowered : (i : ℕ) (q : List ℕ) → i < length t.states → PathAt U i q → PathAt t i q
      lowered i q less (m, at, is) =
          let many = s.table.many in
          let old : slice_get t.ranks i ≡ Some m = as_before t.ranks U.ranks add.ranks i m (omega arith) at in
          (m, old, as_before t.paths U.paths add.paths m q (s.table.named i m old) is)

      inside : end ≤ length t.states
      inside = let many = s.table.many in let within = g.within in omega arith

      apart : (i j m n : ℕ) → i < end → end ≤ j → slice_get U.ranks i ≡ Some m → slice_get U.ranks j ≡ Some n → m < n
      apart i j m n less more at_i at_j =
          let many = s.table.many in
          let within = g.within in
          let low = up_to i m less (as_before t.ranks U.ranks add.ranks i m (omega arith) at_i) in
          elim (before_or_not j (length t.states)) [
            | inl old ↦ let high = beyond j n more (as_before t.ranks U.ranks add.ranks j n (omega arith) at_j) in omega arith
            | inr new ↦ let high = add.rank j n new at_j in let less_ = s.table.named from r g.here in omega arith
          ]

      -- what follows a state of the path
      here : (i : ℕ) (a b : Abstract) (q : List ℕ) → from ≤ i → i < end → slice_get t.states i ≡ Some a → PathAt t i q → IsIn b (steps plan k a)
          → (j : ℕ) × (u : List ℕ) × (slice_get U.states j ≡ Some b) × PathAt U j u × NoLater u (q ++ line_at plan k b ∷ [])
      here i a b q low less at path is =
          let one : path.0 ≡ r = g.same i path.0 low less path.1 in
          let same : q ≡ p = same_some (sym path.2 ∙ subst (λ m. slice_get t.paths m ≡ Some p) (sym one) p_.1) in
          let in_all = flat_in (steps plan k) (take (end - from) (drop from t.states)) (i - from) a b (range_in t.states from end i a low less at) is in
          let in_found : IsIn b found = subst (λ l. IsIn b l) (sym made) in_all in
          let there = all.has b (in_moved found sorted b moved in_found) in
          let u = path_of plan k U add.table there.0 b there.1 in
          (there.0, u.0, there.1, u.1, subst (λ v. NoLater u.0 (v ++ line_at plan k b ∷ [])) (sym same) (later there.0 u.0 there.1 u.1))
        where
          later : (j : ℕ) (u : List ℕ) → slice_get U.states j ≡ Some b → PathAt U j u → NoLater u (p ++ line_at plan k b ∷ [])
          later j u at_j path_j = elim (before_or_not j (length t.states)) [
            | inl old ↦ let old_path = lowered j u old path_j in inr (below old_path.0 u (line_at plan k b) old_path.2)
            | inr new ↦ inl (add.path j b u new at_j path_j)
          ]

      closed : (i : ℕ) (a b : Abstract) (q : List ℕ) → i < end → slice_get U.states i ≡ Some a → PathAt U i q → IsIn b (steps plan k a)
          → (j : ℕ) × (u : List ℕ) × (slice_get U.states j ≡ Some b) × PathAt U j u × NoLater u (q ++ line_at plan k b ∷ [])
      closed i a b q less at path is =
          let within = inside in
          let old_at : slice_get t.states i ≡ Some a = as_before t.states U.states add.states i a (omega arith) at in
          let old_path : PathAt t i q = lowered i q (omega arith) path in
          elim (before_or_not i from) [
            | inl before ↦ let c = s.closed i a b q before old_at old_path is in (c.0, c.1, stays t.states U.states add.states c.0 b c.2, lifted c.0 c.1 c.3, c.4)
            | inr more ↦ here i a b q more less old_at old_path is
          ]

      new_before : (q : List ℕ) (l line : ℕ) → q ≡ p ++ l ∷ [] → goes_before q (q ++ line ∷ []) ≡ true
      new_before q l line e = let long = length-append q (line ∷ []) in shorter q (q ++ line ∷ []) (omega arith)

      open_ : (n j : ℕ) (u v : List ℕ) (line : ℕ) → end ≤ j → slice_get U.paths n ≡ Some u → PathAt U j v → goes_before u (v ++ line ∷ []) ≡ true
      open_ n j u v line more at path = elim (before_or_not j (length t.states)) [
        | inl old ↦
            let old_path : PathAt t j v = lowered j v old path in
            let after = beyond j old_path.0 more old_path.1 in
            let past = g.past in
            elim (before_or_not n (length t.paths)) [
              | inl low ↦ s.open_ n j u v line (omega arith) (as_before t.paths U.paths add.paths n u low at) old_path
              | inr high ↦
                  let one = add.new n u high at in
                  let first : goes_before p v ≡ true = s.table.rising r old_path.0 p v after p_.1 old_path.2 in
                  subst (λ w. goes_before w (v ++ line ∷ []) ≡ true) (sym one.1) (before_more p v one.0 line first)
            ]
        | inr new ↦
            let many = add.table.many in
            let within = slice_get_within U.ranks j path.0 path.1 in
            let state = item_at U.states j (omega arith) in
            let l : ℕ = line_at plan k state.0 in
            let is : v ≡ p ++ l ∷ [] = add.path j state.0 v new state.1 path in
            elim (before_or_not n (length t.paths)) [
              | inl low ↦
                  let first : goes_before u v ≡ true = subst (λ w. goes_before u w ≡ true) (sym is) (below n u l (as_before t.paths U.paths add.paths n u low at)) in
                  before_then u v (v ++ line ∷ []) first (new_before v l line is)
              | inr high ↦
                  let one = add.new n u high at in
                  let long_u : length u ≡ length p + 1 = ap length one.1 ∙ length-append p (one.0 ∷ []) in
                  let long_v : length v ≡ length p + 1 = ap length is ∙ length-append p (l ∷ []) in
                  let longer_ = length-append v (line ∷ []) in
                  shorter u (v ++ line ∷ []) (omega arith)
            ]
      ]

-- ---- the end

pub ends : (plan : Plan) (k : ℕ) (t : Table) (next : ℕ) → IsSearch plan k t next → length t.states ≤ next → length t.states ≤ STATES → IsSearched plan k t
ends plan k t next s all_ few = record { table = s.table; few = few; all = all }
  where
    all : (a : Abstract) (before : List Abstract) → IsWalk plan k (a ∷ before)
        → (i : ℕ) × (p : List ℕ) × (slice_get t.states i ≡ Some a) × PathAt t i p × NoLater p (lines_of plan k (a ∷ before))
    all a [] w = (0, line_at plan k (start plan k) ∷ [], s.table.first ∙ ap Some (sym w), s.table.opens, inl (ap (λ b. line_at plan k b ∷ []) (sym w)))
    all a (b ∷ before) w =
        let r = all b before w.1 in
        let within = slice_get_within t.states r.0 b r.2 in
        let c = s.closed r.0 b a r.1 (omega arith) r.2 r.3 w.0 in (
          c.0,
          c.1,
          c.2,
          c.3,
          later_then c.1 (r.1 ++ line_at plan k a ∷ []) (lines_of plan k (a ∷ b ∷ before)) c.4
              (subst (NoLater (r.1 ++ line_at plan k a ∷ [])) (sym (lines_more plan k a (b ∷ before))) (later_more r.1 (lines_of plan k (b ∷ before)) (line_at plan k a) r.4)),
        )

-- ---- too many states

alike : (x y : Abstract) → x ≡ y → eq x y ≡ true
alike x y e = subst (λ z. eq x z ≡ true) e (eq_itself x)

decides : (x y : Abstract) → Decides (eq x y) (x ≡ y)
decides x y = (eq_same x y, alike x y)

pub big : (plan : Plan) (k : ℕ) (t : Table) → IsTable plan k t → STATES < length t.states → IsDistinct eq t.states → IsBig plan k
big plan k t is more once = record {
  states = t.states;
  more = more;
  reached = λ n a at. let p = path_of plan k t is n a at in let w = is.walked n a p.0 at p.1 in (w.0, w.1);
  once = AllPairs-from_IsDistinct {K = Abstract} {eq = eq} decides t.states once;
}

found_in : (xs : List Abstract) (a : Abstract) → list_any (eq a) xs ≡ true → IsIn a xs
found_in [] a h = absurd (let z : ⊥ = cc in z)
found_in (x ∷ xs) a h = by (eq a x) refl (λ e. found_in xs a (sym (ap (λ c. c || list_any (eq a) xs) e) ∙ h))
  where
    by : (b : Bool) → eq a x ≡ b → (eq a x ≡ false → IsIn a xs) → IsIn a (x ∷ xs)
    by true e rest = (zero, ap Some (sym (eq_same a x e)))
    by false e rest = let r = rest e in (suc r.0, r.1)

in_found : (xs : List Abstract) (q : Abstract) (n : ℕ) → slice_get xs n ≡ Some q → list_any (eq q) xs ≡ true
in_found [] q n h = not_both h refl
in_found (x ∷ xs) q zero h = let same : x ≡ q = same_some h in rw (alike q x (sym same)) refl
in_found (x ∷ xs) q (suc n) h = by (eq q x) (in_found xs q n h)
  where
    by : (b : Bool) → list_any (eq q) xs ≡ true → (b || list_any (eq q) xs) ≡ true
    by true e = refl
    by false e = e

turned : (x y : Abstract) → eq x y ≡ eq y x
turned x y = by (eq x y) (eq y x) refl refl
  where
    by : (b c : Bool) → eq x y ≡ b → eq y x ≡ c → b ≡ c
    by true true e f = refl
    by false false e f = refl
    by true false e f = sym (alike y x (sym (eq_same x y e))) ∙ f
    by false true e f = sym e ∙ alike x y (sym (eq_same y x f))

laws : IsEquivalence eq
laws = record { refl = eq_itself; symm = turned; congr = λ x y z e. ap (λ w. eq w z) (eq_same x y e) }

-- states that are all among a few, each two of them different, are no more
pub no_more : (many few : List Abstract) → ((n : ℕ) (a : Abstract) → slice_get many n ≡ Some a → IsIn a few) → IsDistinct eq many → length many ≤ length few
no_more many few has once = length-le_from_is_member {K = Abstract} {eq = eq} laws many few once (λ q m. let old = found_in many q m in let new = has old.0 q old.1 in in_found few q new.0 new.1)

pub apart_of_big : (plan : Plan) (k : ℕ) (b : IsBig plan k) → IsDistinct eq b.states
apart_of_big plan k b = IsDistinct-from_AllPairs {K = Abstract} {eq = eq} decides b.states b.once

-- a whole search has few states
pub not_big : (plan : Plan) (k : ℕ) (t : Table) → IsSearched plan k t → IsBig plan k → ⊥
not_big plan k t s b =
    let few = s.few in
    let more : STATES < length b.states = b.more in
    let le : length b.states ≤ length t.states = no_more b.states t.states (λ n a at. let w = b.reached n a at in let r = s.all a w.0 w.1 in (r.0, r.2)) (apart_of_big plan k b) in
    let z : ⊥ = omega (arith, few, more, le) in z

-- the places of one number, as a loop finds them
pub group : (ranks : List ℕ) (from end r : ℕ) → from < end → end ≤ length ranks → ((i : ℕ) → from ≤ i → i < end → get_or ranks i 0 ≡ get_or ranks from 0) → (end < length ranks → get_or ranks end 0 ≢ get_or ranks from 0) → slice_get ranks from ≡ Some r → IsGroup ranks from end r
group ranks from end r past within same other here =
    let first : get_or ranks from 0 ≡ r = get_or_from_slice_get ranks from r 0 here in
    record {
      here = here;
      past = past;
      within = within;
      same = λ i s low less at. sym (get_or_from_slice_get ranks i s 0 at) ∙ same i low less ∙ first;
      other = λ s at e. other (slice_get_within ranks end s at) (get_or_from_slice_get ranks end s 0 at ∙ e ∙ sym first);
    }
