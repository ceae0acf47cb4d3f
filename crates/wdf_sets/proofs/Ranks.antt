-- Lemmas on ranks and members, for this crate and those that keep a set.
use Rattle.std.proofs.Common.{ℕ, zero, suc, ◌≡◌, ◌⊎◌, ◌+◌, ◌-◌, ◌<◌, ◌≤◌, Bool, true, false, cond, List, [], ◌∷◌, ◌++◌, length, replicate, take, slice_set, Some, None, slice_get, refl, sym, subst, ap, ◌∙◌, inl, inr, arith}
use Rattle.std.specs.List.{count_by, filter, range_with_len}
use Rattle.std.proofs.lemmas.Bool.{cases_lt}
use Rattle.std.proofs.lemmas.List.{append_assoc, get_or_past, length_push, take_all}
use Rattle.std.proofs.lemmas.List.Sums.{count_by_more_yes, count_by_more_no, sum_by-cons}
use Rattle.wdf_sets.specs.Members.{is_in, members, rank}

-- 1 for a member
abbrev pub one : Bool → ℕ
one b = cond b 1 0

rank_cons : (x : ℕ) (b : Bool) (bs : List Bool) → rank (suc x) (b ∷ bs) ≡ one b + rank x bs
rank_cons x b bs = sum_by-cons one b (take x bs)

-- no member is below any id of a set without members
pub rank_none : (n x : ℕ) → rank x (replicate n false) ≡ 0
rank_none zero zero = refl
rank_none zero (suc x) = refl
rank_none (suc n) zero = refl
rank_none (suc n) (suc x) = let tail = rank_none n x in let head : rank (suc x) (false ∷ replicate n false) ≡ 0 + rank x (replicate n false) = rank_cons x false (replicate n false) in omega arith

more_by : (bits : List Bool) (x : ℕ) (b : Bool) → x < length bits → is_in x bits ≡ b → rank (x + 1) bits ≡ rank x bits + one b
more_by bits x true h e = count_by_more_yes (λ b. b) bits x false h e
more_by bits x false h e = count_by_more_no (λ b. b) bits x false h e ∙ omega arith

-- one id more
pub rank_more : (bits : List Bool) (x : ℕ) → x < length bits → rank (x + 1) bits ≡ rank x bits + one (is_in x bits)
rank_more bits x h = more_by bits x (is_in x bits) h refl

-- from the last id on
pub rank_past : (bits : List Bool) (x : ℕ) → length bits ≤ x → rank x bits ≡ rank (length bits) bits
rank_past bits x h = ap (count_by (λ b. b)) (take_all x bits h ∙ sym (take_all (length bits) bits (omega arith)))

-- ranks rise
rank_rises : (bits : List Bool) (x n : ℕ) → rank x bits ≤ rank (x + n) bits
rank_rises [] zero zero = omega arith
rank_rises [] (suc x) zero = omega arith
rank_rises [] zero (suc n) = omega arith
rank_rises [] (suc x) (suc n) = omega arith
rank_rises (b ∷ bs) zero n = omega arith
rank_rises (b ∷ bs) (suc x) n =
    let e : suc x + n ≡ suc (x + n) = omega arith in
    let h : rank x bs ≤ rank (x + n) bs = rank_rises bs x n in
    rw (e, rank_cons x b bs, rank_cons (x + n) b bs) (omega arith)

pub rank_mono : (bits : List Bool) (x y : ℕ) → x ≤ y → rank x bits ≤ rank y bits
rank_mono bits x y h = let e : x + (y - x) ≡ y = omega arith in subst (λ z. rank x bits ≤ rank z bits) e (rank_rises bits x (y - x))

-- there are no more members below an id than ids
pub rank_le : (bits : List Bool) (x : ℕ) → rank x bits ≤ x
rank_le bits zero = omega arith
rank_le [] (suc x) = omega arith
rank_le (b ∷ bs) (suc x) =
    let h : rank x bs ≤ x = rank_le bs x in
    rw (rank_cons x b bs) (by_bit b h)
  where
    by_bit : (b : Bool) → rank x bs ≤ x → one b + rank x bs ≤ suc x
    by_bit true h = omega arith
    by_bit false h = omega arith

-- a lower rank is that of a lower id
pub rank_below : (bits : List Bool) (x y : ℕ) → rank x bits < rank y bits → x < y
rank_below bits x y h = by_order (cases_lt x y)
  where
    by_order : (x < y) ⊎ (y ≤ x) → x < y
    by_order (inl l) = l
    by_order (inr g) = absurd (let m : rank y bits ≤ rank x bits = rank_mono bits y x g in omega arith)

-- ---- a bit is written

-- below the id nothing changes
pub rank_set_below : (bits : List Bool) (x y : ℕ) (on : Bool) → y ≤ x → rank y (slice_set bits x on) ≡ rank y bits
rank_set_below bits x zero on h = refl
rank_set_below [] x (suc y) on h = refl
rank_set_below (b ∷ bs) zero (suc y) on h = absurd (omega arith)
rank_set_below (b ∷ bs) (suc x) (suc y) on h =
    let rest : rank y (slice_set bs x on) ≡ rank y bs = rank_set_below bs x y on (omega arith) in
    rank_cons y b (slice_set bs x on) ∙ ap (λ n. one b + n) rest ∙ sym (rank_cons y b bs)

-- above it the new bit counts for the old one
pub rank_set_above : (bits : List Bool) (x y : ℕ) (on : Bool) → x < y → x < length bits → rank y (slice_set bits x on) + one (is_in x bits) ≡ rank y bits + one on
rank_set_above [] x y on h l = absurd (omega arith)
rank_set_above (b ∷ bs) x zero on h l = absurd (omega arith)
rank_set_above (b ∷ bs) zero (suc y) on h l = rw (rank_cons y on bs, rank_cons y b bs) (omega arith)
rank_set_above (b ∷ bs) (suc x) (suc y) on h l =
    let rest : rank y (slice_set bs x on) + one (is_in x bs) ≡ rank y bs + one on = rank_set_above bs x y on (omega arith) (omega arith) in
    rw (rank_cons y b (slice_set bs x on), rank_cons y b bs) (omega arith)

-- ---- members

-- the members of bits that begin with this id
members_from : ℕ → List Bool → List ℕ
members_from n [] = []
members_from n (b ∷ bs) = cond b (n ∷ members_from (n + 1) bs) (members_from (n + 1) bs)

in_after : (front : List Bool) (b : Bool) (bs : List Bool) → is_in (length front) (front ++ b ∷ bs) ≡ b
in_after [] b bs = refl
in_after (a ∷ front) b bs = in_after front b bs

filtered : (front bits : List Bool) → filter (λ x. is_in x (front ++ bits)) (range_with_len (length front) (length bits)) ≡ members_from (length front) bits
unfolding members_from
filtered front [] = refl
filtered front (b ∷ bs) =
    let joined : (front ++ b ∷ []) ++ bs ≡ front ++ b ∷ bs = append_assoc front (b ∷ []) bs in
    let n : length (front ++ b ∷ []) ≡ length front + 1 = length_push front b in
    let rest : filter (λ x. is_in x (front ++ b ∷ bs)) (range_with_len (length front + 1) (length bs)) ≡ members_from (length front + 1) bs
    = subst (λ z. filter (λ x. is_in x z) (range_with_len (length front + 1) (length bs)) ≡ members_from (length front + 1) bs) joined
    (subst (λ z. filter (λ x. is_in x ((front ++ b ∷ []) ++ bs)) (range_with_len z (length bs)) ≡ members_from z bs) n (filtered (front ++ b ∷ []) bs)) in
    rw (in_after front b bs) (ap (λ z. cond b (length front ∷ z) z) rest)

members_are : (bits : List Bool) → members bits ≡ members_from 0 bits
members_are bits = filtered [] bits

member_from : (bits : List Bool) (n x : ℕ) → is_in x bits ≡ true → slice_get (members_from n bits) (rank x bits) ≡ Some (n + x)
unfolding members_from
member_from [] n x on = absurd (let z : ⊥ = cc in z)
member_from (true ∷ bs) n zero on = ap Some (omega arith)
member_from (false ∷ bs) n zero on = absurd (let z : ⊥ = cc in z)
member_from (true ∷ bs) n (suc x) on =
    let rest : slice_get (members_from (n + 1) bs) (rank x bs) ≡ Some (n + 1 + x) = member_from bs (n + 1) x on in
    let e : rank (suc x) (true ∷ bs) ≡ suc (rank x bs) = rank_cons x true bs ∙ omega arith in
    let f : n + 1 + x ≡ n + suc x = omega arith in
    rw e (rest ∙ ap Some f)
member_from (false ∷ bs) n (suc x) on =
    let rest : slice_get (members_from (n + 1) bs) (rank x bs) ≡ Some (n + 1 + x) = member_from bs (n + 1) x on in
    let e : rank (suc x) (false ∷ bs) ≡ rank x bs = rank_cons x false bs ∙ omega arith in
    let f : n + 1 + x ≡ n + suc x = omega arith in
    rw e (rest ∙ ap Some f)

-- a member is at its rank
pub member_at_rank : (bits : List Bool) (x : ℕ) → is_in x bits ≡ true → slice_get (members bits) (rank x bits) ≡ Some x
member_at_rank bits x on = rw (members_are bits) (member_from bits 0 x on ∙ ap Some (omega arith))

length_from : (bits : List Bool) (n : ℕ) → length (members_from n bits) ≡ rank (length bits) bits
unfolding members_from
length_from [] n = refl
length_from (true ∷ bs) n = rw (rank_cons (length bs) true bs) (let rest : length (members_from (n + 1) bs) ≡ rank (length bs) bs = length_from bs (n + 1) in omega arith)
length_from (false ∷ bs) n = rw (rank_cons (length bs) false bs) (let rest : length (members_from (n + 1) bs) ≡ rank (length bs) bs = length_from bs (n + 1) in omega arith)

-- how many members there are
pub length_members : (bits : List Bool) → length (members bits) ≡ rank (length bits) bits
length_members bits = ap length (members_are bits) ∙ length_from bits 0

get_past : (xs : List ℕ) (k : ℕ) → length xs ≤ k → slice_get xs k ≡ None
get_past [] k h = refl
get_past (x ∷ xs) zero h = absurd (omega arith)
get_past (x ∷ xs) (suc k) h = get_past xs k (omega arith)

-- from their number on there is none
pub no_member_at : (bits : List Bool) (k : ℕ) → rank (length bits) bits ≤ k → slice_get (members bits) k ≡ None
no_member_at bits k h = let e : length (members bits) ≡ rank (length bits) bits = length_members bits in get_past (members bits) k (omega arith)

-- ---- parts

-- a part has no more members than ids
pub rank_part : (bits : List Bool) (x n : ℕ) → rank (x + n) bits ≤ rank x bits + n
rank_part [] zero n = let h : rank n [] ≤ 0 = none n in let e : zero + n ≡ n = omega arith in rw e (omega arith)
  where
    none : (k : ℕ) → rank k [] ≤ 0
    none zero = omega arith
    none (suc k) = omega arith
rank_part [] (suc x) n = let e : suc x + n ≡ suc (x + n) = omega arith in rw e (omega arith)
rank_part (b ∷ bs) zero n = let h : rank n (b ∷ bs) ≤ n = rank_le (b ∷ bs) n in let e : zero + n ≡ n = omega arith in rw e (omega arith)
rank_part (b ∷ bs) (suc x) n =
    let h : rank (x + n) bs ≤ rank x bs + n = rank_part bs x n in
    let e : suc x + n ≡ suc (x + n) = omega arith in
    rw (e, rank_cons x b bs, rank_cons (x + n) b bs) (omega arith)

found_by : (bits : List Bool) (x k : ℕ) (b : Bool) → is_in x bits ≡ b → rank x bits ≤ k → k < rank x bits + one b → slice_get (members bits) k ≡ Some x
found_by bits x k true e low high = let here : k ≡ rank x bits = omega arith in rw here (member_at_rank bits x e)
found_by bits x k false e low high = absurd (omega arith)

-- the member with as many before it, by the ranks around it
pub member_between : (bits : List Bool) (x k : ℕ) → x < length bits → rank x bits ≤ k → k < rank (x + 1) bits → slice_get (members bits) k ≡ Some x
member_between bits x k h low high = found_by bits x k (is_in x bits) refl low (let e : rank (x + 1) bits ≡ rank x bits + one (is_in x bits) = rank_more bits x h in omega arith)

-- ---- the members of a set that says where a test is met

none_from : (p : ℕ → Bool) (a n : ℕ) → ((x : ℕ) → a ≤ x → p x ≡ false) → filter p (range_with_len a n) ≡ []
none_from p a zero no_more = refl
none_from p a (suc n) no_more = rw (no_more a (omega arith)) (none_from p (a + 1) n (λ x h. no_more x (omega arith)))

-- a longer range adds none
none_past : (p : ℕ → Bool) (a n m : ℕ) → n ≤ m → ((x : ℕ) → a + n ≤ x → p x ≡ false) → filter p (range_with_len a m) ≡ filter p (range_with_len a n)
none_past p a zero m h no_more = none_from p a m (λ x l. no_more x (omega arith))
none_past p a (suc n) zero h no_more = absurd (omega arith)
none_past p a (suc n) (suc m) h no_more = ap (λ xs. cond (p a) (a ∷ xs) xs) (none_past p (a + 1) n m (omega arith) (λ x l. no_more x (omega arith)))

same_filter : (p q : ℕ → Bool) (a n : ℕ) → ((x : ℕ) → p x ≡ q x) → filter p (range_with_len a n) ≡ filter q (range_with_len a n)
same_filter p q a zero e = refl
same_filter p q a (suc n) e = rw (e a, same_filter p q (a + 1) n e) refl

-- the rising ids below a bound that meet a test, where each bit says whether its id meets it and none past the bound does
pub members_where : (bits : List Bool) (p : ℕ → Bool) (n : ℕ) → ((x : ℕ) → is_in x bits ≡ p x) → ((x : ℕ) → n ≤ x → p x ≡ false) → members bits ≡ filter p (range_with_len 0 n)
members_where bits p n e past = same_filter (λ x. is_in x bits) p 0 (length bits) e ∙ by_length (cases_lt (length bits) n)
  where
    by_length : (length bits < n) ⊎ (n ≤ length bits) → filter p (range_with_len 0 (length bits)) ≡ filter p (range_with_len 0 n)
    by_length (inl shorter) = sym (none_past p 0 (length bits) n (omega arith) (λ x h. sym (e x) ∙ get_or_past bits x false (omega arith)))
    by_length (inr longer) = none_past p 0 n (length bits) longer (λ x h. past x (omega arith))

-- ---- how many members a part of the ids has

pub rank_step : (bits : List Bool) (x : ℕ) → rank (x + 1) bits ≡ rank x bits + one (is_in x bits)
rank_step bits x = by (cases_lt x (length bits))
  where
    by : (x < length bits) ⊎ (length bits ≤ x) → rank (x + 1) bits ≡ rank x bits + one (is_in x bits)
    by (inl there) = rank_more bits x there
    by (inr past) =
        let off : one (is_in x bits) ≡ 0 = ap one (get_or_past bits x false past) in
        let here = rank_past bits x past in
        let more = rank_past bits (x + 1) (omega arith) in
        omega arith

-- as many as ids there meet the test
rank_further : (bits : List Bool) (p : ℕ → Bool) → ((x : ℕ) → is_in x bits ≡ p x) → (a n : ℕ) → rank (a + n) bits ≡ rank a bits + length (filter p (range_with_len a n))
rank_further bits p e a zero = let z : a + 0 ≡ a = omega arith in rw z (omega arith)
rank_further bits p e a (suc n) =
    let z : a + suc n ≡ a + 1 + n = omega arith in
    let rest : rank (a + 1 + n) bits ≡ rank (a + 1) bits + length (filter p (range_with_len (a + 1) n)) = rank_further bits p e (a + 1) n in
    let step : rank (a + 1) bits ≡ rank a bits + one (p a) = rank_step bits a ∙ ap (λ b. rank a bits + one b) (e a) in
    ap (λ k. rank k bits) z ∙ rest ∙ by (p a) step
  where
    by : (b : Bool) → rank (a + 1) bits ≡ rank a bits + one b → rank (a + 1) bits + length (filter p (range_with_len (a + 1) n)) ≡ rank a bits + length (cond b (a ∷ filter p (range_with_len (a + 1) n)) (filter p (range_with_len (a + 1) n)))
    by true step = omega arith
    by false step = omega arith

-- the members below an id
pub rank_first : (bits : List Bool) (p : ℕ → Bool) → ((x : ℕ) → is_in x bits ≡ p x) → (id : ℕ) → rank id bits ≡ length (filter p (range_with_len 0 id))
rank_first bits p e id =
    let first : rank 0 bits ≡ 0 = refl in
    let z : 0 + id ≡ id = omega arith in
    let all : rank (0 + id) bits ≡ rank 0 bits + length (filter p (range_with_len 0 id)) = rank_further bits p e 0 id in
    ap (λ k. rank k bits) (sym z) ∙ all ∙ omega arith
