-- A table to which the states are added that follow those of one path: each new state's path goes on it.
use Rattle.std.proofs.Common.{◌≡◌, ◌≢◌, ℕ, zero, suc, ◌+◌, ◌-◌, ◌==◌, ◌<◌, ◌≤◌, Bool, true, false, ◌||◌, inl, inr, List, [], ◌∷◌, ◌++◌, length, fold, Option, Some, None, slice_get, refl, sym, ap, subst, ◌∙◌, arith}
use Rattle.std.specs.Prelude.{⊤}
use Rattle.std.specs.List.{list_any}
use Rattle.std.proofs.lemmas.Bool.Decides.{Decides-eqb}
use Rattle.std.proofs.lemmas.Option.{get_or_from_slice_get, slice_get_within}
use Rattle.wdf_base.specs.declared.plan.Plan.{Plan}
use Rattle.wdf_lint.specs.declared.state.Abstract.{Abstract}
use Rattle.wdf_lint.specs.Walks.{IsIn, IsWalk, line_at, lines_of}
use Rattle.wdf_lint.specs.Paths.{goes_before, longer}
use Rattle.wdf_lint.specs.Searches.{Adding, IsTable, PathAt, Table, added, added_by, with_path, with_state}
use Rattle.wdf_lint.proofs.Places.{GoesOn, as_before, before_or_not, get_last, in_last, not_both, on_by, on_from, on_itself, on_length, one_more, same_some, stays}
use Rattle.wdf_lint.proofs.PathOrder.{before_last}
use Rattle.wdf_lint.proofs.SameState.{eq, eq_same}

-- ---- the paths

abbrev pub IsUpTo : ℕ → Option ℕ → Type 0
IsUpTo line None = ⊥
IsUpTo line (Some last) = line ≤ last

abbrev pub IsAtLeast : Option ℕ → ℕ → Type 0
IsAtLeast None line = ⊤
IsAtLeast (Some last) line = last ≤ line

-- the last path that was made for these states
abbrev pub IsLast : List (List ℕ) → List ℕ → List (List ℕ) → Option ℕ → Type 0
IsLast old p paths None = ⊤
IsLast old p paths (Some last) = (slice_get paths (length paths - 1) ≡ Some (p ++ last ∷ [])) × (length old < length paths)

-- the paths with that of a new state
record Pathed (old paths now : List (List ℕ)) (new : List ℕ) (last : Option ℕ) (line : ℕ) : Type 0 where
  on : GoesOn paths now
  here : slice_get now (length now - 1) ≡ Some new
  past : length old < length now
  most : length now ≤ length paths + 1
  only : (n : ℕ) (p : List ℕ) → length paths ≤ n → slice_get now n ≡ Some p → p ≡ new
  fresh : length paths < length now → (l : ℕ) → last ≡ Some l → l ≢ line

pushed : (old paths : List (List ℕ)) (new : List ℕ) (last : Option ℕ) (line : ℕ) → length old ≤ length paths → ((l : ℕ) → last ≡ Some l → l ≢ line) → Pathed old paths (paths ++ new ∷ []) new last line
pushed old paths new last line more other =
    let long = one_more paths new in
    let end : length (paths ++ new ∷ []) - 1 ≡ length paths = omega arith in
    record {
      on = on_by paths (new ∷ []);
      here = subst (λ n. slice_get (paths ++ new ∷ []) n ≡ Some new) (sym end) (get_last paths new);
      past = omega arith;
      most = omega arith;
      only = λ n p high at. elim (in_last paths new n p at) [
        | inl below ↦ absurd (let less = below.0 in let z : ⊥ = omega arith in z)
        | inr last_ ↦ last_.1
      ];
      fresh = λ longer_ l is. other l is;
    }

pathed : (old paths : List (List ℕ)) (r : ℕ) (p : List ℕ) (last : Option ℕ) (line : ℕ) → length old ≤ length paths → slice_get paths r ≡ Some p → IsLast old p paths last → Pathed old paths (with_path paths r last line) (p ++ line ∷ []) last line
pathed old paths r p None line more at is =
    let path : longer paths r line ≡ p ++ line ∷ [] = ap (λ l. l ++ line ∷ []) (get_or_from_slice_get paths r p [] at) in
    rw path (pushed old paths (p ++ line ∷ []) None line more (λ l e. absurd (let z : ⊥ = cc in z)))
pathed old paths r p (Some last) line more at is = by (last == line) refl
  where
    path : longer paths r line ≡ p ++ line ∷ []
    path = ap (λ l. l ++ line ∷ []) (get_or_from_slice_get paths r p [] at)

    by : (b : Bool) → (last == line) ≡ b → Pathed old paths (with_path paths r (Some last) line) (p ++ line ∷ []) (Some last) line
    by true e =
        let same : last ≡ line = (Decides-eqb last line).0 e in
        rw e (record {
          on = on_itself paths;
          here = is.0 ∙ ap (λ l. Some (p ++ l ∷ [])) same;
          past = is.1;
          most = omega arith;
          only = λ n q high found. absurd (let within = slice_get_within paths n q found in let z : ⊥ = omega arith in z);
          fresh = λ longer_ l is_. absurd (omega arith);
        })
    by false e = rw (e, path) (pushed old paths (p ++ line ∷ []) (Some last) line more (λ l is_ same. let one : last ≡ l = same_some is_ in let yes : (last == line) ≡ true = (Decides-eqb last line).1 (one ∙ same) in let z : ⊥ = cc in z))

-- ---- one state more

-- what adding keeps, where t is the table before, and p the path whose states are followed
pub record IsAdding (plan : Plan) (k : ℕ) (t : Table) (p : List ℕ) (x : Adding) : Type 0 where
  pub table : IsTable plan k x.table
  pub states : GoesOn t.states x.table.states
  pub ranks : GoesOn t.ranks x.table.ranks
  pub paths : GoesOn t.paths x.table.paths
  -- a new state's path is new, and goes on this one by the state's line
  pub path : (i : ℕ) (a : Abstract) (q : List ℕ) → length t.states ≤ i → slice_get x.table.states i ≡ Some a → PathAt x.table i q → q ≡ p ++ line_at plan k a ∷ []
  pub rank : (i s : ℕ) → length t.states ≤ i → slice_get x.table.ranks i ≡ Some s → length t.paths ≤ s
  pub new : (n : ℕ) (q : List ℕ) → length t.paths ≤ n → slice_get x.table.paths n ≡ Some q → (line : ℕ) × (q ≡ p ++ line ∷ []) × IsUpTo line x.last
  pub last : IsLast t.paths p x.table.paths x.last

-- a walk to a state, by this path and the state's line
abbrev pub IsNext : Plan → ℕ → List ℕ → Abstract → Type 0
IsNext plan k p a = (before : List Abstract) × IsWalk plan k (a ∷ before) × (p ++ line_at plan k a ∷ [] ≡ lines_of plan k (a ∷ before))

up_to : (l line : ℕ) (last : Option ℕ) → IsUpTo l last → IsAtLeast last line → l ≤ line
up_to l line None h k = absurd h
up_to l line (Some last) h k = omega arith

less_than : (l line : ℕ) (last : Option ℕ) → IsUpTo l last → IsAtLeast last line → ((m : ℕ) → last ≡ Some m → m ≢ line) → l < line
less_than l line None h k other = absurd h
less_than l line (Some last) h k other = let n = other last refl in elim (before_or_not last line) [
  | inl less ↦ omega arith
  | inr more ↦ absurd (n (omega arith))
]

module _ (plan : Plan) (k : ℕ) (t : Table) (r : ℕ) (p : List ℕ) (at_r : slice_get t.paths r ≡ Some p) (below : (n : ℕ) (q : List ℕ) (line : ℕ) → slice_get t.paths n ≡ Some q → goes_before q (p ++ line ∷ []) ≡ true) where
  with_new : (x : Adding) (a : Abstract) → IsAdding plan k t p x → IsAtLeast x.last (line_at plan k a) → IsNext plan k p a → IsAdding plan k t p (added false r (line_at plan k a) x a)
  with_new x a is least next = record {
    table = record {
      first = stays T.states U.states on_states 0 _ is.table.first;
      opens = lifted 0 _ is.table.opens;
      many = one_more T.ranks (length U.paths - 1) ∙ ap (λ n. n + 1) is.table.many ∙ sym (one_more T.states a);
      named = named;
      walked = walked;
      in_order = in_order;
      rising = rising;
    };
    states = on_from t.states T.states U.states is.states on_states;
    ranks = on_from t.ranks T.ranks U.ranks is.ranks on_ranks;
    paths = on_from t.paths T.paths U.paths is.paths P.on;
    path = path;
    rank = rank;
    new = new;
    last = (P.here, P.past);
  }
    where
      line : ℕ
      line = line_at plan k a

      T : Table
      T = x.table

      U : Table
      U = with_state T r x.last line a

      q : List ℕ
      q = p ++ line ∷ []

      P : Pathed t.paths T.paths U.paths q x.last line
      P = pathed t.paths T.paths r p x.last line (on_length t.paths T.paths is.paths) (stays t.paths T.paths is.paths r p at_r) is.last

      on_states : GoesOn T.states U.states
      on_states = on_by T.states (a ∷ [])

      on_ranks : GoesOn T.ranks U.ranks
      on_ranks = on_by T.ranks ((length U.paths - 1) ∷ [])

      lifted : (i : ℕ) (s : List ℕ) → PathAt T i s → PathAt U i s
      lifted i s (m, at, is_) = (m, stays T.ranks U.ranks on_ranks i m at, stays T.paths U.paths P.on m s is_)

      lowered : (i : ℕ) (s : List ℕ) → i < length T.states → PathAt U i s → PathAt T i s
      lowered i s less (m, at, is_) =
          let many = is.table.many in
          let old : slice_get T.ranks i ≡ Some m = as_before T.ranks U.ranks on_ranks i m (omega arith) at in
          (m, old, as_before T.paths U.paths P.on m s (is.table.named i m old) is_)

      last_path : (i : ℕ) (s : List ℕ) → i ≡ length T.states → PathAt U i s → s ≡ q
      last_path i s e (m, at, is_) =
          let many = is.table.many in
          let end : slice_get U.ranks i ≡ Some (length U.paths - 1) = subst (λ n. slice_get U.ranks n ≡ Some (length U.paths - 1)) (many ∙ sym e) (get_last T.ranks (length U.paths - 1)) in
          let same : m ≡ length U.paths - 1 = same_some (sym at ∙ end) in
          same_some (sym is_ ∙ subst (λ n. slice_get U.paths n ≡ Some q) (sym same) P.here)

      named : (i m : ℕ) → slice_get U.ranks i ≡ Some m → m < length U.paths
      named i m at = elim (in_last T.ranks (length U.paths - 1) i m at) [
        | inl old ↦ let less = is.table.named i m old.1 in let more = on_length T.paths U.paths P.on in omega arith
        | inr new_ ↦ let e = new_.1 in let some = P.past in omega arith
      ]

      walked : (i : ℕ) (b : Abstract) (s : List ℕ) → slice_get U.states i ≡ Some b → PathAt U i s → (before : List Abstract) × IsWalk plan k (b ∷ before) × (s ≡ lines_of plan k (b ∷ before))
      walked i b s at path_ = elim (in_last T.states a i b at) [
        | inl old ↦ is.table.walked i b s old.1 (lowered i s old.0 path_)
        | inr new_ ↦ subst (λ c. (before : List Abstract) × IsWalk plan k (c ∷ before) × (s ≡ lines_of plan k (c ∷ before))) (sym new_.1) (next.0, next.1, last_path i s new_.0 path_ ∙ next.2)
      ]

      in_order : (i j m n : ℕ) → i ≤ j → slice_get U.ranks i ≡ Some m → slice_get U.ranks j ≡ Some n → m ≤ n
      in_order i j m n le at_i at_j = elim (in_last T.ranks (length U.paths - 1) i m at_i) [
        | inl old ↦ elim (in_last T.ranks (length U.paths - 1) j n at_j) [
          | inl both ↦ is.table.in_order i j m n le old.1 both.1
          | inr new_ ↦ let e = new_.1 in let less = is.table.named i m old.1 in let more = on_length T.paths U.paths P.on in omega arith
        ]
        | inr first ↦ elim (in_last T.ranks (length U.paths - 1) j n at_j) [
          | inl old ↦ absurd (let e = first.0 in let less = old.0 in let z : ⊥ = omega arith in z)
          | inr new_ ↦ let e = first.1 in let f = new_.1 in omega arith
        ]
      ]

      earlier : (m : ℕ) (s : List ℕ) → slice_get T.paths m ≡ Some s → length T.paths < length U.paths → goes_before s q ≡ true
      earlier m s at fresh = elim (before_or_not m (length t.paths)) [
        | inl old ↦ below m s line (as_before t.paths T.paths is.paths m s old at)
        | inr more ↦ let one = is.new m s more at in subst (λ y. goes_before y q ≡ true) (sym one.1) (before_last p one.0 line (less_than one.0 line x.last one.2 least (P.fresh fresh)))
      ]

      rising : (m n : ℕ) (s u : List ℕ) → m < n → slice_get U.paths m ≡ Some s → slice_get U.paths n ≡ Some u → goes_before s u ≡ true
      rising m n s u less at_m at_n = elim (before_or_not n (length T.paths)) [
        | inl old ↦ is.table.rising m n s u less (as_before T.paths U.paths P.on m s (omega arith) at_m) (as_before T.paths U.paths P.on n u old at_n)
        | inr new_ ↦
            let most = P.most in
            let within = slice_get_within U.paths n u at_n in
            let before : goes_before s q ≡ true = earlier m s (as_before T.paths U.paths P.on m s (omega arith) at_m) (omega arith) in
            subst (λ y. goes_before s y ≡ true) (sym (P.only n u new_ at_n)) before
      ]

      path : (i : ℕ) (b : Abstract) (s : List ℕ) → length t.states ≤ i → slice_get U.states i ≡ Some b → PathAt U i s → s ≡ p ++ line_at plan k b ∷ []
      path i b s high at path_ = elim (in_last T.states a i b at) [
        | inl old ↦ is.path i b s high old.1 (lowered i s old.0 path_)
        | inr new_ ↦ last_path i s new_.0 path_ ∙ ap (λ (c : Abstract). p ++ line_at plan k c ∷ []) (sym new_.1)
      ]

      rank : (i m : ℕ) → length t.states ≤ i → slice_get U.ranks i ≡ Some m → length t.paths ≤ m
      rank i m high at = elim (in_last T.ranks (length U.paths - 1) i m at) [
        | inl old ↦ is.rank i m high old.1
        | inr new_ ↦ let e = new_.1 in let more = P.past in omega arith
      ]

      new : (n : ℕ) (s : List ℕ) → length t.paths ≤ n → slice_get U.paths n ≡ Some s → (l : ℕ) × (s ≡ p ++ l ∷ []) × IsUpTo l (Some line)
      new n s high at = elim (before_or_not n (length T.paths)) [
        | inl old ↦ let one = is.new n s high (as_before T.paths U.paths P.on n s old at) in (one.0, one.1, up_to one.0 line x.last one.2 least)
        | inr more ↦ (line, P.only n s more at, let z : line ≤ line = omega arith in z)
      ]

  -- ---- all states of a list

  found_in : (xs : List Abstract) (a : Abstract) → list_any (eq a) xs ≡ true → IsIn a xs
  found_in [] a h = absurd (let z : ⊥ = cc in z)
  found_in (x ∷ xs) a h = by (eq a x) refl (λ e. found_in xs a (sym (ap (λ c. c || list_any (eq a) xs) e) ∙ h))
    where
      by : (b : Bool) → eq a x ≡ b → (eq a x ≡ false → IsIn a xs) → IsIn a (x ∷ xs)
      by true e rest = (zero, ap Some (sym (eq_same a x e)))
      by false e rest = let r = rest e in (suc r.0, r.1)

  -- what is added, with the states that are there then
  pub record IsAdded (x : Adding) (xs : List Abstract) (y : Adding) : Type 0 where
    pub adding : IsAdding plan k t p y
    pub on : GoesOn x.table.states y.table.states
    pub has : (a : Abstract) → IsIn a xs → IsIn a y.table.states

  abbrev AllNext : List Abstract → Type 0
  AllNext xs = (n : ℕ) (a : Abstract) → slice_get xs n ≡ Some a → IsNext plan k p a

  abbrev AllFrom : Option ℕ → List Abstract → Type 0
  AllFrom last xs = (n : ℕ) (a : Abstract) → slice_get xs n ≡ Some a → IsAtLeast last (line_at plan k a)

  abbrev pub Rises : List Abstract → Type 0
  Rises xs = (m n : ℕ) (a b : Abstract) → m ≤ n → slice_get xs m ≡ Some a → slice_get xs n ≡ Some b → line_at plan k a ≤ line_at plan k b

  one_added : (x : Adding) (a : Abstract) (xs : List Abstract) (b : Bool) → list_any (eq a) x.table.states ≡ b → IsAdding plan k t p x → AllFrom x.last (a ∷ xs) → Rises (a ∷ xs) → IsNext plan k p a
      → IsAdded x (a ∷ []) (added b r (line_at plan k a) x a) × AllFrom (added b r (line_at plan k a) x a).last xs
  one_added x a xs true e is from rises next = (
    record { adding = is; on = on_itself x.table.states; has = λ c i. only c i (found_in x.table.states a e) },
    λ n c at. from (suc n) c at,
  )
    where
      only : (c : Abstract) → IsIn c (a ∷ []) → IsIn a x.table.states → IsIn c x.table.states
      only c (zero, h) i = subst (λ d. IsIn d x.table.states) (same_some h) i
      only c (suc n, h) i = not_both h refl
  one_added x a xs false e is from rises next = (
    record { adding = with_new x a is (from 0 a refl) next; on = on_by x.table.states (a ∷ []); has = only },
    λ n c at. rises 0 (suc n) a c (omega arith) refl at,
  )
    where
      only : (c : Abstract) → IsIn c (a ∷ []) → IsIn c (x.table.states ++ a ∷ [])
      only c (zero, h) = (length x.table.states, get_last x.table.states a ∙ h)
      only c (suc n, h) = not_both h refl

  pub all_added : (xs : List Abstract) (x : Adding) → IsAdding plan k t p x → AllFrom x.last xs → Rises xs → AllNext xs → IsAdded x xs (fold (added_by eq (line_at plan k) r) x xs)
  all_added [] x is from rises next = record { adding = is; on = on_itself x.table.states; has = λ a i. not_both i.1 refl }
  all_added (a ∷ xs) x is from rises next =
      let b : Bool = list_any (eq a) x.table.states in
      let y : Adding = added b r (line_at plan k a) x a in
      let one = one_added x a xs b refl is from rises (next 0 a refl) in
      let rest : IsAdded y xs (fold (added_by eq (line_at plan k) r) y xs) = all_added xs y one.0.adding one.1 (λ m n c d le at_c at_d. rises (suc m) (suc n) c d (omega arith) at_c at_d) (λ n c at. next (suc n) c at) in
      record {
        adding = rest.adding;
        on = on_from x.table.states y.table.states (fold (added_by eq (line_at plan k) r) y xs).table.states one.0.on rest.on;
        has = has y one.0 rest;
      }
    where
      has : (y : Adding) → IsAdded x (a ∷ []) y → IsAdded y xs (fold (added_by eq (line_at plan k) r) y xs) → (c : Abstract) → IsIn c (a ∷ xs) → IsIn c (fold (added_by eq (line_at plan k) r) y xs).table.states
      has y one rest c (zero, h) =
          let there = one.has a (0, refl) in
          subst (λ d. IsIn d (fold (added_by eq (line_at plan k) r) y xs).table.states) (same_some h) (there.0, stays y.table.states (fold (added_by eq (line_at plan k) r) y xs).table.states rest.on there.0 a there.1)
      has y one rest c (suc n, h) = rest.has c (n, h)
