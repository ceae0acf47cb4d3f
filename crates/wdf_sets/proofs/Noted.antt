-- The words that have a member are noted, so that the first member from an id on is found by them.
use Rattle.std.proofs.Common.{ℕ, zero, suc, ◌≡◌, ◌⊎◌, ◌+◌, ◌-◌, ◌*◌, ◌/◌, ◌%◌, ◌<◌, ◌≤◌, Bool, true, false, not, List, length, replicate, slice_set, Option, Some, None, is_some, slice_get, length-set, get_or-set_same, get_or-set_other, refl, sym, subst, ap, ◌∙◌, inl, inr, arith}
use Rattle.std.specs.Prelude.{IsSome, MatchOption}
use Rattle.std.specs.Bool.{beq}
use Rattle.std.proofs.lemmas.Bool.{cases_eq, cases_lt, le-leb, lt-leb, leb-true, leb-false}
use Rattle.std.proofs.lemmas.List.{get_or_past, length-replicate}
use Rattle.wdf_sets.specs.Counted.{AreNoted, has_some}
use Rattle.wdf_sets.specs.Members.{is_in, members, rank}
use Rattle.wdf_sets.specs.Nexts.{IsNext, NoneFrom}
use Rattle.wdf_sets.specs.Parts.{HasMember, number_of}
use Rattle.wdf_sets.specs.declared.bits.Part.{Part}
use Rattle.wdf_sets.proofs.Passing.{Passes}
use Rattle.wdf_sets.proofs.Ranks.{one, member_at_rank, no_member_at, rank_below, rank_mono, rank_none, rank_set_above, rank_set_below, rank_step}

-- whether an id is a member, as a test
abbrev pub in_set : List Bool → ℕ → Bool
in_set bits id = is_in id bits

-- ---- no member from an id on

none_for : (bits : List Bool) (a n : ℕ) → ((x : ℕ) → a ≤ x → x < a + n → is_in x bits ≡ false) → rank (a + n) bits ≡ rank a bits
none_for bits a zero h = let e : a + 0 ≡ a = omega arith in ap (λ x. rank x bits) e
none_for bits a (suc n) h =
    let rest : rank (a + n) bits ≡ rank a bits = none_for bits a n (λ x above below. h x above (omega arith)) in
    let off : one (is_in (a + n) bits) ≡ 0 = ap one (h (a + n) (omega arith) (omega arith)) in
    let more : rank (a + n + 1) bits ≡ rank (a + n) bits + one (is_in (a + n) bits) = rank_step bits (a + n) in
    let e : a + n + 1 ≡ a + suc n = omega arith in
    subst (λ x. rank x bits ≡ rank a bits) e (omega arith)

-- the rank stays where there is no member
pub none_between : (bits : List Bool) (a b : ℕ) → a ≤ b → NoneFrom (in_set bits) a b → rank b bits ≡ rank a bits
none_between bits a b h none =
    let e : a + (b - a) ≡ b = omega arith in
    subst (λ x. rank x bits ≡ rank a bits) e (none_for bits a (b - a) (λ x above below. none x above (omega arith)))

-- a member is below the bound
pub member_there : (bits : List Bool) (x : ℕ) → is_in x bits ≡ true → x < length bits
member_there bits x on = by (cases_lt x (length bits))
  where
    by : (x < length bits) ⊎ (length bits ≤ x) → x < length bits
    by (inl there) = there
    by (inr past) = let off : is_in x bits ≡ false = get_or_past bits x false past in absurd (let z : ⊥ = cc in z)

-- no member in two parts one after the other
pub none_further : (bits : List Bool) (a b c : ℕ) → NoneFrom (in_set bits) a b → NoneFrom (in_set bits) b c → NoneFrom (in_set bits) a c
none_further bits a b c low high x above below = by (cases_lt x b)
  where
    by : (x < b) ⊎ (b ≤ x) → is_in x bits ≡ false
    by (inl l) = low x above l
    by (inr g) = high x g below

-- the first member of a part is that of all ids from an earlier one on, where none is between
pub next_further : (bits : List Bool) (a b end x : ℕ) → a ≤ b → NoneFrom (in_set bits) a b → IsNext (in_set bits) b end x → IsNext (in_set bits) a (length bits) x
next_further bits a b end x h none next =
    let above : b ≤ x = next.after in
    record { after = omega arith; within = member_there bits x next.passes; passes = next.passes; before = none_further bits a b x none next.before }

-- a member counts above it
member_counts : (bits : List Bool) (x : ℕ) → is_in x bits ≡ true → rank (x + 1) bits ≡ rank x bits + 1
member_counts bits x on = let more = rank_step bits x in let here : one (is_in x bits) ≡ 1 = ap one on in omega arith

-- the first member from an id on, as contracts say it
pub next_found : (bits : List Bool) (id end x : ℕ) → IsNext (in_set bits) id end x → slice_get (members bits) (rank id bits) ≡ Some x
next_found bits id end x h =
    let same : rank x bits ≡ rank id bits = none_between bits id x h.after h.before in
    subst (λ k. slice_get (members bits) k ≡ Some x) same (member_at_rank bits x h.passes)

-- none in what is left
pub none_found : (bits : List Bool) (id : ℕ) → rank (length bits) bits ≤ rank id bits → slice_get (members bits) (rank id bits) ≡ None
none_found bits id h = no_member_at bits (rank id bits) h

-- ---- a word

word_by : (bits : List Bool) (word : ℕ) (b : Bool) → has_some word bits ≡ b → (b ≡ true → rank (64 * word) bits < rank (64 * word + 64) bits) × (b ≡ false → rank (64 * word + 64) bits ≡ rank (64 * word) bits)
word_by bits word true e = (λ h. (let less = leb-true (rank (64 * word) bits + 1) (rank (64 * word + 64) bits) e in omega arith), λ h. absurd (let z : ⊥ = cc in z))
word_by bits word false e = (
  λ h. absurd (let z : ⊥ = cc in z),
  λ h.
      let no_more = leb-false (rank (64 * word) bits + 1) (rank (64 * word + 64) bits) e in
      let less : rank (64 * word) bits ≤ rank (64 * word + 64) bits = rank_mono bits (64 * word) (64 * word + 64) (omega arith) in
      omega arith,
)

pub word_some : (bits : List Bool) (word : ℕ) → has_some word bits ≡ true → rank (64 * word) bits < rank (64 * word + 64) bits
word_some bits word e = (word_by bits word true e).0 refl

word_none : (bits : List Bool) (word : ℕ) → has_some word bits ≡ false → rank (64 * word + 64) bits ≡ rank (64 * word) bits
word_none bits word e = (word_by bits word false e).1 refl

-- the first id of a word, and what follows the word
word_start : (word : ℕ) → 64 * (64 * word / 64) + 64 ≡ 64 * word + 64
word_start word = omega arith

-- a member of a word
pub some_in_word : (bits : List Bool) (word x : ℕ) → IsNext (in_set bits) (64 * word) (64 * (64 * word / 64) + 64) x → true ≡ has_some word bits
some_in_word bits word x h =
    let above : 64 * word ≤ x = h.after in
    let below : x < 64 * (64 * word / 64) + 64 = h.within in
    let low : rank (64 * word) bits ≤ rank x bits = rank_mono bits (64 * word) x above in
    let more : rank (x + 1) bits ≡ rank x bits + 1 = member_counts bits x h.passes in
    let high : rank (x + 1) bits ≤ rank (64 * word + 64) bits = rank_mono bits (x + 1) (64 * word + 64) (omega arith) in
    sym (le-leb (rank (64 * word) bits + 1) (rank (64 * word + 64) bits) (omega arith))

pub none_in_word : (bits : List Bool) (word : ℕ) → NoneFrom (in_set bits) (64 * word) (64 * (64 * word / 64) + 64) → false ≡ has_some word bits
none_in_word bits word none =
    let same : rank (64 * word + 64) bits ≡ rank (64 * word) bits = none_between bits (64 * word) (64 * word + 64) (omega arith) (subst (NoneFrom (in_set bits) (64 * word)) (word_start word) none) in
    sym (lt-leb (rank (64 * word) bits + 1) (rank (64 * word + 64) bits) (omega arith))

-- whether a word has a member, by its first one
pub is_some_word : (bits : List Bool) (word : ℕ) (found : Option ℕ)
    → MatchOption found (NoneFrom (in_set bits) (64 * word) (64 * (64 * word / 64) + 64)) (IsNext (in_set bits) (64 * word) (64 * (64 * word / 64) + 64)) → is_some found ≡ has_some word bits
is_some_word bits word None none = none_in_word bits word none
is_some_word bits word (Some x) first = some_in_word bits word x first

-- a bit that is the other
pub same_bit : (a b : Bool) → not (beq a b) ≡ false → a ≡ b
same_bit true true e = refl
same_bit true false e = absurd (let z : ⊥ = cc in z)
same_bit false true e = absurd (let z : ⊥ = cc in z)
same_bit false false e = refl

-- ---- words that are noted

module _ (bits words : List Bool) (noted : AreNoted bits words) where
  words_for : (a n : ℕ) → ((w : ℕ) → a ≤ w → w < a + n → is_in w words ≡ false) → rank (64 * (a + n)) bits ≡ rank (64 * a) bits
  words_for a zero h = let e : 64 * (a + 0) ≡ 64 * a = omega arith in ap (λ x. rank x bits) e
  words_for a (suc n) h =
      let rest : rank (64 * (a + n)) bits ≡ rank (64 * a) bits = words_for a n (λ x above below. h x above (omega arith)) in
      let off : has_some (a + n) bits ≡ false = sym (noted.each (a + n)) ∙ h (a + n) (omega arith) (omega arith) in
      let same : rank (64 * (a + n) + 64) bits ≡ rank (64 * (a + n)) bits = word_none bits (a + n) off in
      let e : 64 * (a + n) + 64 ≡ 64 * (a + suc n) = omega arith in
      subst (λ x. rank x bits ≡ rank (64 * a) bits) e (same ∙ rest)

  -- the rank stays where no word is noted
  pub no_words : (a b : ℕ) → a ≤ b → NoneFrom (in_set words) a b → rank (64 * b) bits ≡ rank (64 * a) bits
  no_words a b h none =
      let e : a + (b - a) ≡ b = omega arith in
      subst (λ x. rank (64 * x) bits ≡ rank (64 * a) bits) e (words_for a (b - a) (λ x above below. none x above (omega arith)))

  -- a noted word has a member
  pub noted_some : (w : ℕ) → is_in w words ≡ true → rank (64 * w) bits < rank (64 * w + 64) bits
  noted_some w on = word_some bits w (sym (noted.each w) ∙ on)

  -- ---- the first member after the word of an id

  module _ (id : ℕ) (none : NoneFrom (in_set bits) id (64 * (id / 64) + 64)) where
    after_word : rank (64 * (id / 64 + 1)) bits ≡ rank id bits
    after_word =
        let e : 64 * (id / 64) + 64 ≡ 64 * (id / 64 + 1) = omega arith in
        subst (λ x. rank x bits ≡ rank id bits) e (none_between bits id (64 * (id / 64) + 64) (omega arith) none)

    -- no later word is noted
    pub none_later : NoneFrom (in_set words) (id / 64 + 1) (length words) → None ≡ slice_get (members bits) (rank id bits)
    none_later words_none = sym (none_found bits id (by (cases_lt (id / 64 + 1) (length words))))
      where
        long : length bits ≡ 64 * length words
        long = noted.long

        by : (id / 64 + 1 < length words) ⊎ (length words ≤ id / 64 + 1) → rank (length bits) bits ≤ rank id bits
        by (inl within) =
            let all : rank (64 * length words) bits ≡ rank (64 * (id / 64 + 1)) bits = no_words (id / 64 + 1) (length words) (omega arith) words_none in
            let same : rank (length bits) bits ≡ rank (64 * length words) bits = ap (λ x. rank x bits) long in
            let start = after_word in
            omega arith
        by (inr past) =
            let high : rank (length bits) bits ≤ rank (64 * (id / 64 + 1)) bits = rank_mono bits (length bits) (64 * (id / 64 + 1)) (omega arith) in
            let start = after_word in
            omega arith

    module _ (w : ℕ) (next : IsNext (in_set words) (id / 64 + 1) (length words) w) where
      same_rank : rank (64 * w) bits ≡ rank id bits
      same_rank = no_words (id / 64 + 1) w next.after next.before ∙ after_word

      -- it is the first of its ids
      pub later_is : (found : Option ℕ) → MatchOption found (NoneFrom (in_set bits) (64 * w) (64 * (64 * w / 64) + 64)) (IsNext (in_set bits) (64 * w) (64 * (64 * w / 64) + 64))
          → found ≡ slice_get (members bits) (rank id bits)
      later_is None none_there =
          let off : false ≡ has_some w bits = none_in_word bits w none_there in
          let on : is_in w words ≡ true = next.passes in
          let each : is_in w words ≡ has_some w bits = noted.each w in
          absurd (let z : ⊥ = cc in z)
      later_is (Some x) first = sym (subst (λ k. slice_get (members bits) k ≡ Some x) same_rank (next_found bits (64 * w) (64 * (64 * w / 64) + 64) x first))

-- ---- a bit is written

other_word : (bits : List Bool) (x w : ℕ) (on : Bool) → x < length bits → (w < x / 64) ⊎ (x / 64 < w) → has_some w (slice_set bits x on) ≡ has_some w bits
other_word bits x w on there (inl less) =
    let low : rank (64 * w) (slice_set bits x on) ≡ rank (64 * w) bits = rank_set_below bits x (64 * w) on (omega arith) in
    let high : rank (64 * w + 64) (slice_set bits x on) ≡ rank (64 * w + 64) bits = rank_set_below bits x (64 * w + 64) on (omega arith) in
    rw (low, high) refl
other_word bits x w on there (inr more) =
    let low : rank (64 * w) (slice_set bits x on) + one (is_in x bits) ≡ rank (64 * w) bits + one on = rank_set_above bits x (64 * w) on (omega arith) there in
    let high : rank (64 * w + 64) (slice_set bits x on) + one (is_in x bits) ≡ rank (64 * w + 64) bits + one on = rank_set_above bits x (64 * w + 64) on (omega arith) there in
    by (has_some w bits) refl low high
  where
    by : (b : Bool) → has_some w bits ≡ b → rank (64 * w) (slice_set bits x on) + one (is_in x bits) ≡ rank (64 * w) bits + one on
        → rank (64 * w + 64) (slice_set bits x on) + one (is_in x bits) ≡ rank (64 * w + 64) bits + one on → has_some w (slice_set bits x on) ≡ b
    by true e low high =
        let less = word_some bits w e in
        le-leb (rank (64 * w) (slice_set bits x on) + 1) (rank (64 * w + 64) (slice_set bits x on)) (omega arith)
    by false e low high =
        let same = word_none bits w e in
        lt-leb (rank (64 * w) (slice_set bits x on) + 1) (rank (64 * w + 64) (slice_set bits x on)) (omega arith)

-- the words stay noted
pub noted_put : (bits words : List Bool) (x : ℕ) (on : Bool) → AreNoted bits words → x < length bits → AreNoted (slice_set bits x on) (slice_set words (x / 64) (has_some (x / 64) (slice_set bits x on)))
noted_put bits words x on noted there =
    let long : length bits ≡ 64 * length words = noted.long in
    let within : x / 64 < length words = omega arith in
    record {
      long = length-set bits x on ∙ long ∙ ap (λ n. 64 * n) (sym (length-set words (x / 64) (has_some (x / 64) (slice_set bits x on))));
      each = λ w. by w within (cases_eq w (x / 64));
    }
  where
    apart : (w : ℕ) → (w ≡ x / 64 → ⊥) → (w < x / 64) ⊎ (x / 64 ≤ w) → (w < x / 64) ⊎ (x / 64 < w)
    apart w other (inl less) = inl less
    apart w other (inr more) = inr (by_eq (cases_lt (x / 64) w))
      where
        by_eq : (x / 64 < w) ⊎ (w ≤ x / 64) → x / 64 < w
        by_eq (inl l) = l
        by_eq (inr g) = absurd (other (omega arith))

    by : (w : ℕ) → x / 64 < length words → (w ≡ x / 64) ⊎ (w ≡ x / 64 → ⊥) → is_in w (slice_set words (x / 64) (has_some (x / 64) (slice_set bits x on))) ≡ has_some w (slice_set bits x on)
    by w within (inl same) =
        subst (λ v. is_in v (slice_set words (x / 64) (has_some (x / 64) (slice_set bits x on))) ≡ has_some v (slice_set bits x on)) (sym same)
        (get_or-set_same words (x / 64) (has_some (x / 64) (slice_set bits x on)) false within)
    by w within (inr other) =
        get_or-set_other words (x / 64) w (has_some (x / 64) (slice_set bits x on)) false other ∙ noted.each w ∙ sym (other_word bits x w on there (apart w other (cases_lt w (x / 64))))

-- a set without members
pub noted_none : (n m : ℕ) → n ≡ 64 * m → AreNoted (replicate n false) (replicate m false)
noted_none n m e = record {
  long = length-replicate n false ∙ e ∙ ap (λ k. 64 * k) (sym (length-replicate m false));
  each = λ w.
      off (is_in w (replicate m false)) (zero_bit m w)
      ∙ sym (lt-leb (rank (64 * w) (replicate n false) + 1) (rank (64 * w + 64) (replicate n false)) (let a = rank_none n (64 * w) in let b = rank_none n (64 * w + 64) in omega arith));
}
  where
    off : (b : Bool) → b ≡ false → b ≡ false
    off b h = h

    zero_bit : (k w : ℕ) → is_in w (replicate k false) ≡ false
    zero_bit zero w = refl
    zero_bit (suc k) zero = refl
    zero_bit (suc k) (suc w) = zero_bit k w

-- ---- a member is looked for in a block

module _ (bits words : List Bool) (noted : AreNoted bits words) (block : Part) (skipped start count : ℕ)
    (has : HasMember bits block 512) (passes : Passes bits block skipped start) (counted : count + rank start bits ≡ rank (start + 64) bits) (few : count ≤ skipped) where
  -- the block goes on after the word
  more_words : start + 64 < block.start + 512
  more_words =
      let number : skipped + rank start bits ≡ number_of bits block = passes.number in
      let there : number_of bits block < rank (block.start + 512) bits = has.there in
      rank_below bits (start + 64) (block.start + 512) (omega arith)

  next_start : 64 * (start / 64 + 1) ≡ start + 64
  next_start = let begins : start % 64 ≡ 0 = passes.begins in omega arith

  -- the words that are noted together go as far as the block
  far : block.start + 512 ≤ 64 * (64 * ((start / 64 + 1) / 64) + 64)
  far =
      let more = more_words in
      let low : block.start ≤ start = passes.low in
      let first : block.start % 512 ≡ 0 = has.begins in
      let begins : start % 64 ≡ 0 = passes.begins in
      omega arith

  -- some later word of the block is noted
  not_none : NoneFrom (in_set words) (start / 64 + 1) (64 * ((start / 64 + 1) / 64) + 64) → ⊥
  not_none none =
      let all : rank (64 * (64 * ((start / 64 + 1) / 64) + 64)) bits ≡ rank (64 * (start / 64 + 1)) bits = no_words bits words noted (start / 64 + 1) (64 * ((start / 64 + 1) / 64) + 64) (omega arith) none in
      let high : rank (block.start + 512) bits ≤ rank (64 * (64 * ((start / 64 + 1) / 64) + 64)) bits = rank_mono bits (block.start + 512) (64 * (64 * ((start / 64 + 1) / 64) + 64)) far in
      let low : rank (64 * (start / 64 + 1)) bits ≡ rank (start + 64) bits = ap (λ x. rank x bits) next_start in
      let number : skipped + rank start bits ≡ number_of bits block = passes.number in
      let there : number_of bits block < rank (block.start + 512) bits = has.there in
      let z : ⊥ = omega arith in z

  module _ (found : Option ℕ) (first : MatchOption found (NoneFrom (in_set words) (start / 64 + 1) (64 * ((start / 64 + 1) / 64) + 64)) (IsNext (in_set words) (start / 64 + 1) (64 * ((start / 64 + 1) / 64) + 64))) where
    pub goes_on : IsSome found
    goes_on = by found first
      where
        by : (r : Option ℕ) → MatchOption r (NoneFrom (in_set words) (start / 64 + 1) (64 * ((start / 64 + 1) / 64) + 64)) (IsNext (in_set words) (start / 64 + 1) (64 * ((start / 64 + 1) / 64) + 64)) → IsSome r
        by None none = absurd (not_none none)
        by (Some w) next = refl

    module _ (w : ℕ) (is : found ≡ Some w) where
      next : IsNext (in_set words) (start / 64 + 1) (64 * ((start / 64 + 1) / 64) + 64) w
      next = subst (λ r. MatchOption r (NoneFrom (in_set words) (start / 64 + 1) (64 * ((start / 64 + 1) / 64) + 64)) (IsNext (in_set words) (start / 64 + 1) (64 * ((start / 64 + 1) / 64) + 64))) is first

      pub passes_on : Passes bits block (skipped - count) (64 * w)
      passes_on =
          let above : start / 64 + 1 ≤ w = next.after in
          let same : rank (64 * w) bits ≡ rank (64 * (start / 64 + 1)) bits = no_words bits words noted (start / 64 + 1) w above next.before in
          let low : rank (64 * (start / 64 + 1)) bits ≡ rank (start + 64) bits = ap (λ x. rank x bits) next_start in
          let number : skipped + rank start bits ≡ number_of bits block = passes.number in
          let there : number_of bits block < rank (block.start + 512) bits = has.there in
          let first_id : block.start ≤ start = passes.low in
          record { number = omega arith; begins = omega arith; low = omega arith; high = rank_below bits (64 * w) (block.start + 512) (omega arith) }
