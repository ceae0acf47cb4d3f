-- The ones of a word are the members among its ids.
use Rattle.std.proofs.Common.{ℕ, zero, suc, ◌≡◌, ◌≢◌, ◌⊎◌, ◌+◌, ◌-◌, ◌*◌, ◌/◌, ◌%◌, ◌^◌, ◌<◌, ◌≤◌, ◌==◌, Bool, false, List, length, replicate, slice_index, slice_set, get_or-set_same, get_or-set_other, length-set, add-one, add_comm, w64, refl, sym, subst, ap, ◌∙◌, inl, inr, arith}
use Rattle.std.specs.Int.{bit_at, trailing_zeros}
use Rattle.std.specs.Int.RustNames.{count_ones}
use Rattle.std.specs.Int.Count.{ones_cat}
use Rattle.std.proofs.lemmas.Bool.{cases_lt, cases_eq, ne_eqb}
use Rattle.std.proofs.lemmas.List.{ext_get_or, get_or_past, get_or-replicate, length-replicate}
use Rattle.std.proofs.lemmas.List.FromFn.{length-map-range_with_len, get_or-map-range_with_len}
use Rattle.std.proofs.lemmas.Nat.{mod-pow-add, shr-shr}
use Rattle.std.proofs.Math.Nat.{div-le_self, mod-eq_of_lt, one-mul}
use Rattle.std.proofs.Math.Pow.{pow_pos, pow-lt}
use Rattle.std.proofs.lemmas.Nat.Bits.{bit_at-lt, bit_at-trailing_zeros, bit_at-zero, bit_at_above}
use Rattle.wdf_sets.specs.Members.{is_in, rank}
use Rattle.wdf_sets.specs.Nexts.{IsNext, NoneFrom}
use Rattle.wdf_sets.specs.Words.{bit_in, bits_of, Writes}
use Rattle.wdf_sets.proofs.Ranks.{one, rank_more}

-- ---- the bits of words

pub length_bits : (words : List ℕ) → length (bits_of words) ≡ 64 * length words
unfolding bits_of
length_bits words = length-map-range_with_len (bit_in words) 0 (64 * length words)

no_bit : (i : ℕ) → (bit_at 0 i == 1) ≡ false
no_bit i = ap (λ n. n == 1) (bit_at-zero i)

in_by : (words : List ℕ) (id : ℕ) → (id < 64 * length words) ⊎ (64 * length words ≤ id) → is_in id (bits_of words) ≡ bit_in words id
unfolding bits_of
in_by words id (inl h) = get_or-map-range_with_len (bit_in words) 0 (64 * length words) id id false h (omega arith)
in_by words id (inr h) =
    let long : length (bits_of words) ≡ 64 * length words = length_bits words in
    let past : slice_index words (id / 64) ≡ 0 = get_or_past words (id / 64) 0 (omega arith) in
    get_or_past (bits_of words) id false (omega arith) ∙ sym (ap (λ w. bit_at w (id % 64) == 1) past ∙ no_bit (id % 64))

-- whether an id is a member
pub in_bits : (words : List ℕ) (id : ℕ) → is_in id (bits_of words) ≡ bit_in words id
in_bits words id = in_by words id (cases_lt id (64 * length words))

-- ---- the ones of a word

pub no_one : (n : ℕ) → n ≡ 0 → (n == 1) ≡ false
no_one n e = ne_eqb n 1 (λ h. absurd (omega arith))

one_of_bit : (n : ℕ) → n < 2 → one (n == 1) ≡ n
one_of_bit zero h = refl
one_of_bit (suc zero) h = refl
one_of_bit (suc (suc n)) h = absurd (omega arith)

ones_of_bit : (n : ℕ) → n < 2 → count_ones n ≡ n
unfolding count_ones
ones_of_bit zero h = refl
ones_of_bit (suc zero) h = refl
ones_of_bit (suc (suc n)) h = absurd (omega arith)

-- a number cut at one bit more
cut_more : (v b : ℕ) → v % 2 ^ (b + 1) ≡ bit_at v b * 2 ^ b + v % 2 ^ b
cut_more v b = ap (λ n. v % 2 ^ n) (add_comm b 1) ∙ mod-pow-add v 1 b

-- the ones below one bit more
ones_more : (v b : ℕ) → count_ones (v % 2 ^ (b + 1)) ≡ bit_at v b + count_ones (v % 2 ^ b)
ones_more v b =
    let some : 0 < 2 ^ b = pow_pos b in
    ap count_ones (cut_more v b) ∙ ones_cat b (bit_at v b) (v % 2 ^ b) (omega arith) ∙ ap (λ n. n + count_ones (v % 2 ^ b)) (ones_of_bit (bit_at v b) (bit_at-lt v b))

-- the ones of a number's low bits are the members among as many ids
pub ones_are : (bits : List Bool) (v start b : ℕ) → start + b ≤ length bits → ((j : ℕ) → j < b → is_in (start + j) bits ≡ (bit_at v j == 1)) → count_ones (v % 2 ^ b) + rank start bits ≡ rank (start + b) bits
ones_are bits v start zero h e =
    let none : count_ones (v % 1) ≡ 0 = ap count_ones (let z : v % 1 ≡ 0 = omega arith in z) ∙ ones_of_bit 0 (omega arith) in
    let here : start + 0 ≡ start = omega arith in
    rw (none, here) (omega arith)
ones_are bits v start (suc b) h e =
    let below : count_ones (v % 2 ^ b) + rank start bits ≡ rank (start + b) bits = ones_are bits v start b (omega arith) (λ j k. e j (omega arith)) in
    let more : count_ones (v % 2 ^ (b + 1)) ≡ bit_at v b + count_ones (v % 2 ^ b) = ones_more v b in
    let bit : one (is_in (start + b) bits) ≡ bit_at v b = ap one (e b (omega arith)) ∙ one_of_bit (bit_at v b) (bit_at-lt v b) in
    let next : rank (start + b + 1) bits ≡ rank (start + b) bits + one (is_in (start + b) bits) = rank_more bits (start + b) (omega arith) in
    let at : start + b + 1 ≡ start + suc b = omega arith in
    let exp : b + 1 ≡ suc b = add-one b in
    subst (λ n. count_ones (v % 2 ^ n) + rank start bits ≡ rank (start + suc b) bits) exp
    (subst (λ n. count_ones (v % 2 ^ (b + 1)) + rank start bits ≡ rank n bits) at (omega arith))

-- the ones of a word are the members among its ids
pub ones_of_word : (words : List ℕ) (k start : ℕ) → start ≡ 64 * k → k < length words → count_ones (slice_index words k % 2 ^ 64) + rank start (bits_of words) ≡ rank (start + 64) (bits_of words)
ones_of_word words k start at h =
    let word = slice_index words k in
    let long : length (bits_of words) ≡ 64 * length words = length_bits words in
    let bits : (j : ℕ) → j < 64 → is_in (start + j) (bits_of words) ≡ (bit_at word j == 1)
    = λ j l.
    let quotient : (start + j) / 64 ≡ k = omega arith in
    let rest : (start + j) % 64 ≡ j = omega arith in
    in_bits words (start + j) ∙ ap (λ q. bit_at (slice_index words q) ((start + j) % 64) == 1) quotient ∙ ap (λ r. bit_at word r == 1) rest in
    ones_are (bits_of words) word start 64 (omega arith) bits

-- a bit of what a word has from an id on
rest_of_word : (words : List ℕ) (start j : ℕ) → start % 64 + j < 64 → is_in (start + j) (bits_of words) ≡ (bit_at (slice_index words (start / 64) / 2 ^ (start % 64)) j == 1)
rest_of_word words start j l =
    let word = slice_index words (start / 64) in
    let quotient : (start + j) / 64 ≡ start / 64 = omega arith in
    let rest : (start + j) % 64 ≡ start % 64 + j = omega arith in
    in_bits words (start + j) ∙ ap (λ q. bit_at (slice_index words q) ((start + j) % 64) == 1) quotient ∙ ap (λ r. bit_at word r == 1) rest
    ∙ sym (ap (λ w. w % 2 == 1) (shr-shr word (start % 64) j))

-- the ones of a part of a word are the members among its ids
pub ones_of_part : (words : List ℕ) (start width : ℕ) → start / 64 < length words → start % 64 + width ≤ 64
    → count_ones (slice_index words (start / 64) / 2 ^ (start % 64) % 2 ^ width) + rank start (bits_of words) ≡ rank (start + width) (bits_of words)
ones_of_part words start width h within =
    let long : length (bits_of words) ≡ 64 * length words = length_bits words in
    ones_are (bits_of words) (slice_index words (start / 64) / 2 ^ (start % 64)) start width (omega arith) (λ j l. rest_of_word words start j (omega arith))

-- ---- the first one of a word from an id on

module _ (words : List ℕ) (id : ℕ) where
  -- what the word has from the id on
  abbrev left : ℕ
  left = slice_index words (id / 64) / 2 ^ (id % 64)

  bit_left : (x : ℕ) → id ≤ x → x < 64 * (id / 64) + 64 → is_in x (bits_of words) ≡ (bit_at left (x - id) == 1)
  bit_left x above below =
      let same : id + (x - id) ≡ x = omega arith in
      subst (λ y. is_in y (bits_of words) ≡ (bit_at left (x - id) == 1)) same (rest_of_word words id (x - id) (omega arith))

  none_left : left ≡ 0 → NoneFrom (λ x. is_in x (bits_of words)) id (64 * (id / 64) + 64)
  none_left e x above below = bit_left x above below ∙ ap (λ w. bit_at w (x - id) == 1) e ∙ no_bit (x - id)

  -- a word has no bit past its own
  fits_by : (place : ℕ) → slice_index words (id / 64) < 2 ^ 64 → bit_at left place ≡ 1 → (id % 64 + place < 64) ⊎ (64 ≤ id % 64 + place) → id % 64 + place < 64
  fits_by place small e (inl l) = l
  fits_by place small e (inr g) =
      let word = slice_index words (id / 64) in
      let none : bit_at word (id % 64 + place) ≡ 0 = bit_at_above word 64 (id % 64 + place) small g in
      let same : bit_at left place ≡ bit_at word (id % 64 + place) = ap (λ w. w % 2) (shr-shr word (id % 64) place) in
      absurd (omega arith)

  first_left : slice_index words (id / 64) < 2 ^ 64 → 0 < left → IsNext (λ x. is_in x (bits_of words)) id (64 * (id / 64) + 64) (id + trailing_zeros w64 left)
  first_left small some_left =
      let less : left ≤ slice_index words (id / 64) = div-le_self (slice_index words (id / 64)) (2 ^ (id % 64)) in
      let lowest = bit_at-trailing_zeros w64 left some_left (omega arith) in
      let place : ℕ = trailing_zeros w64 left in
      let within : id % 64 + place < 64 = fits_by place small lowest.1 (cases_lt (id % 64 + place) 64) in
      record {
        after = omega arith;
        within = omega arith;
        passes = rest_of_word words id place within ∙ ap (λ n. n == 1) lowest.1;
        before = λ x above below. bit_left x above (omega arith) ∙ no_one (bit_at left (x - id)) (lowest.2 (x - id) (omega arith));
      }

-- the same of a word that was read
module _ (words : List ℕ) (id word : ℕ) (read : word ≡ slice_index words (id / 64)) where
  pub none_read : word / 2 ^ (id % 64) ≡ 0 → NoneFrom (λ x. is_in x (bits_of words)) id (64 * (id / 64) + 64)
  none_read e = none_left words id (ap (λ w. w / 2 ^ (id % 64)) (sym read) ∙ e)

  pub first_read : word < 2 ^ 64 → 0 < word / 2 ^ (id % 64) → IsNext (λ x. is_in x (bits_of words)) id (64 * (id / 64) + 64) (id + trailing_zeros w64 (word / 2 ^ (id % 64)))
  first_read small some_left =
      subst (λ w. IsNext (λ x. is_in x (bits_of words)) id (64 * (id / 64) + 64) (id + trailing_zeros w64 (w / 2 ^ (id % 64)))) (sym read)
      (first_left words id (subst (λ w. w < 2 ^ 64) read small) (subst (λ w. 0 < w / 2 ^ (id % 64)) read some_left))

-- no id of later words is a member, where all of them are 0
pub past_used : (words : List ℕ) (used : ℕ) → ((k : ℕ) → used ≤ k → slice_index words k ≡ 0) → (x : ℕ) → 64 * used ≤ x → is_in x (bits_of words) ≡ false
past_used words used none x past = in_bits words x ∙ ap (λ w. bit_at w (x % 64) == 1) (none (x / 64) (omega arith)) ∙ no_bit (x % 64)

-- ---- a bit is written

pub bits_written : (words : List ℕ) (id word : ℕ) (on : Bool) → id / 64 < length words → Writes (slice_index words (id / 64)) word (id % 64) on
    → bits_of (slice_set words (id / 64) word) ≡ slice_set (bits_of words) id on
bits_written words id word on h w =
    let long : length (bits_of words) ≡ 64 * length words = length_bits words in
    let same : length (slice_set words (id / 64) word) ≡ length words = length-set words (id / 64) word in
    let new : length (bits_of (slice_set words (id / 64) word)) ≡ 64 * length words = length_bits (slice_set words (id / 64) word) ∙ ap (λ n. 64 * n) same in
    ext_get_or false (bits_of (slice_set words (id / 64) word)) (slice_set (bits_of words) id on) (new ∙ sym long ∙ sym (length-set (bits_of words) id on))
    (λ y l. in_bits (slice_set words (id / 64) word) y ∙ at_id y (cases_eq y id))
  where
    other_bit : (y : ℕ) → y ≢ id → (y / 64 ≡ id / 64) ⊎ (y / 64 ≡ id / 64 → ⊥) → bit_in (slice_set words (id / 64) word) y ≡ bit_in words y
    other_bit y other (inl same) =
        let it : slice_index (slice_set words (id / 64) word) (id / 64) ≡ word = get_or-set_same words (id / 64) word 0 h in
        let place : y % 64 ≢ id % 64 = λ e. other (omega arith) in
        ap (λ q. bit_at (slice_index (slice_set words (id / 64) word) q) (y % 64) == 1) same ∙ ap (λ v. bit_at v (y % 64) == 1) it ∙ ap (λ n. n == 1) (w.others (y % 64) (omega arith) place)
        ∙ sym (ap (λ q. bit_at (slice_index words q) (y % 64) == 1) same)
    other_bit y other (inr apart) = ap (λ v. bit_at v (y % 64) == 1) (get_or-set_other words (id / 64) (y / 64) word 0 apart)

    at_id : (y : ℕ) → (y ≡ id) ⊎ (y ≡ id → ⊥) → bit_in (slice_set words (id / 64) word) y ≡ is_in y (slice_set (bits_of words) id on)
    at_id y (inl same) =
        let long : length (bits_of words) ≡ 64 * length words = length_bits words in
        let it : slice_index (slice_set words (id / 64) word) (id / 64) ≡ word = get_or-set_same words (id / 64) word 0 h in
        subst (λ z. bit_in (slice_set words (id / 64) word) z ≡ is_in z (slice_set (bits_of words) id on)) (sym same)
        (ap (λ v. bit_at v (id % 64) == 1) it ∙ w.here ∙ sym (get_or-set_same (bits_of words) id on false (omega arith)))
    at_id y (inr other) = other_bit y other (cases_eq (y / 64) (id / 64)) ∙ sym (in_bits words y) ∙ sym (get_or-set_other (bits_of words) id y on false other)

-- ---- words of zeros

pub zero_word : (n k : ℕ) → slice_index (replicate n 0) k ≡ 0
zero_word zero k = refl
zero_word (suc n) zero = refl
zero_word (suc n) (suc k) = zero_word n k

pub bits_of_zeros : (n : ℕ) → bits_of (replicate n 0) ≡ replicate (64 * n) false
bits_of_zeros n =
    let zeros : List ℕ = replicate n 0 in
    let words : length zeros ≡ n = length-replicate n 0 in
    let long : length (bits_of zeros) ≡ 64 * n = length_bits zeros ∙ ap (λ k. 64 * k) words in
    ext_get_or false (bits_of zeros) (replicate (64 * n) false) (long ∙ sym (length-replicate (64 * n) false))
    (λ id h.
    in_bits zeros id ∙ ap (λ w. bit_at w (id % 64) == 1) (zero_word n (id / 64)) ∙ no_bit (id % 64) ∙ sym (get_or-replicate (64 * n) id false false (omega arith)))

-- as many low ones
pub mask_of : (width : ℕ) → width < 64 → 1 * 2 ^ width % 2 ^ 64 - 1 ≡ 2 ^ width - 1
mask_of width h =
    let low : 1 * 2 ^ width < 2 ^ 64 = rw (one-mul (2 ^ width)) (pow-lt h) in
    ap (λ n. n - 1) (mod-eq_of_lt low ∙ one-mul (2 ^ width))

-- a part of a word is a word
pub part_fits : (v width : ℕ) → width < 64 → v % 2 ^ width < 2 ^ 64
part_fits v width h =
    let some : 0 < 2 ^ width = pow_pos width in
    let less : 2 ^ width < 2 ^ 64 = pow-lt h in
    omega arith
