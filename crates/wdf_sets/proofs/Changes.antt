-- The counts of a set go on as a bit is written.
use Rattle.std.proofs.Common.{ℕ, ◌≡◌, ◌+◌, ◌-◌, ◌*◌, ◌/◌, ◌<◌, ◌≤◌, ◌^◌, ◌⊎◌, Bool, true, false, List, length, replicate, slice_index, slice_set, get_or, length-set, get_or-set_same, get_or-set_other, sym, ap, ◌∙◌, refl, subst, inl, inr, arith}
use Rattle.std.specs.Bool.{beq}
use Rattle.std.proofs.lemmas.List.{get_or_read, length-replicate}
use Rattle.std.proofs.lemmas.Bool.{cases_order}
use Rattle.wdf_sets.specs.Counted.{AreCounted}
use Rattle.wdf_sets.specs.Members.{is_in, rank}
use Rattle.wdf_sets.proofs.Ones.{zero_word}
use Rattle.wdf_sets.proofs.Ranks.{one, rank_more, rank_mono, rank_none, rank_part, rank_set_below, rank_set_above}

-- a set without members
pub counted_none : (n m : ℕ) → n ≡ 512 * m → n ≤ 2 ^ 31 → AreCounted (replicate n false) (replicate m 0) 0
counted_none n m e few = record {
  blocks = length-replicate n false ∙ e ∙ ap (λ k. 512 * k) (sym (length-replicate m 0));
  few = subst (λ k. k ≤ 2 ^ 31) (sym (length-replicate n false)) few;
  whole = sym (rank_none n (length (replicate n false)));
  counted = λ b h. rw (zero_word m b, rank_none n (512 * b), rank_none n (512 * b + 512)) refl;
}

-- a count with a bit written
counted_by : (bits : List Bool) (counts : List ℕ) (x new b : ℕ) (on : Bool) → x < length bits → length bits ≡ 512 * length counts → new + one (is_in x bits) ≡ slice_index counts (x / 512) + one on
    → b < length counts → slice_index counts b + rank (512 * b) bits ≡ rank (512 * b + 512) bits → (b ≡ x / 512) ⊎ ((b < x / 512) ⊎ (x / 512 < b))
    → slice_index (slice_set counts (x / 512) new) b + rank (512 * b) (slice_set bits x on) ≡ rank (512 * b + 512) (slice_set bits x on)
counted_by bits counts x new b on there blocks change h counted (inl same) =
    let it : slice_index (slice_set counts (x / 512) new) (x / 512) ≡ new = get_or-set_same counts (x / 512) new 0 (omega arith) in
    let here : slice_index (slice_set counts (x / 512) new) b ≡ new = ap (slice_index (slice_set counts (x / 512) new)) same ∙ it in
    let was : slice_index counts b ≡ slice_index counts (x / 512) = ap (slice_index counts) same in
    let below : rank (512 * b) (slice_set bits x on) ≡ rank (512 * b) bits = rank_set_below bits x (512 * b) on (omega arith) in
    let above : rank (512 * b + 512) (slice_set bits x on) + one (is_in x bits) ≡ rank (512 * b + 512) bits + one on = rank_set_above bits x (512 * b + 512) on (omega arith) there in
    omega arith
counted_by bits counts x new b on there blocks change h counted (inr (inl less)) =
    let here : slice_index (slice_set counts (x / 512) new) b ≡ slice_index counts b = get_or-set_other counts (x / 512) b new 0 (λ e. absurd (omega arith)) in
    let below : rank (512 * b) (slice_set bits x on) ≡ rank (512 * b) bits = rank_set_below bits x (512 * b) on (omega arith) in
    let above : rank (512 * b + 512) (slice_set bits x on) ≡ rank (512 * b + 512) bits = rank_set_below bits x (512 * b + 512) on (omega arith) in
    omega arith
counted_by bits counts x new b on there blocks change h counted (inr (inr more)) =
    let here : slice_index (slice_set counts (x / 512) new) b ≡ slice_index counts b = get_or-set_other counts (x / 512) b new 0 (λ e. absurd (omega arith)) in
    let below : rank (512 * b) (slice_set bits x on) + one (is_in x bits) ≡ rank (512 * b) bits + one on = rank_set_above bits x (512 * b) on (omega arith) there in
    let above : rank (512 * b + 512) (slice_set bits x on) + one (is_in x bits) ≡ rank (512 * b + 512) bits + one on = rank_set_above bits x (512 * b + 512) on (omega arith) there in
    omega arith

-- the counts go on as a bit is written
counted_put : (bits : List Bool) (counts : List ℕ) (len x new len' : ℕ) (on : Bool) → AreCounted bits counts len → x < length bits
    → new + one (is_in x bits) ≡ slice_index counts (x / 512) + one on → len' + one (is_in x bits) ≡ len + one on
    → AreCounted (slice_set bits x on) (slice_set counts (x / 512) new) len'
counted_put bits counts len x new len' on s there change grown =
    let long : length (slice_set bits x on) ≡ length bits = length-set bits x on in
    let many : length (slice_set counts (x / 512) new) ≡ length counts = length-set counts (x / 512) new in
    let blocks : length bits ≡ 512 * length counts = s.blocks in
    let whole : len ≡ rank (length bits) bits = s.whole in
    let above : rank (length bits) (slice_set bits x on) + one (is_in x bits) ≡ rank (length bits) bits + one on = rank_set_above bits x (length bits) on there there in
    record {
      blocks = omega arith;
      few = subst (λ n. n ≤ 2 ^ 31) (sym long) s.few;
      whole = (let e : len' ≡ rank (length bits) (slice_set bits x on) = omega arith in e) ∙ ap (λ n. rank n (slice_set bits x on)) (sym long);
      counted = λ b h.
          let within : b < length counts = omega arith in
          counted_by bits counts x new b on there blocks change within (s.counted b within) (cases_order b (x / 512));
    }

-- a bit that isn't the other
not_true : (a b : Bool) → beq a b ≡ false → b ≡ true → a ≡ false
not_true true b e h = absurd (let f : beq true true ≡ false = subst (λ z. beq true z ≡ false) h e in let z : ⊥ = cc in z)
not_true false b e h = refl

not_false : (a b : Bool) → beq a b ≡ false → b ≡ false → a ≡ true
not_false true b e h = refl
not_false false b e h = absurd (let f : beq false false ≡ false = subst (λ z. beq false z ≡ false) h e in let z : ⊥ = cc in z)

-- A bit is to be written that isn't so: the set, and what is read of it.
pub record IsChange (bits : List Bool) (counts : List ℕ) (len id count : ℕ) (was on : Bool) : Type 0 where
  pub counted : AreCounted bits counts len
  pub there : id < length bits
  pub read : count ≡ get_or counts (id / 512) count
  pub bit : was ≡ is_in id bits
  pub differs : beq was on ≡ false

count_read : (bits : List Bool) (counts : List ℕ) (len id count : ℕ) (was on : Bool) → IsChange bits counts len id count was on → (id / 512 < length counts) × (count ≡ slice_index counts (id / 512))
count_read bits counts len id count was on c =
    let blocks : length bits ≡ 512 * length counts = c.counted.blocks in
    let there : id < length bits = c.there in
    let within : id / 512 < length counts = omega arith in
    (within, get_or_read counts (id / 512) count within c.read 0)

-- the id becomes a member: its block has no more members than ids
pub grows : (bits : List Bool) (counts : List ℕ) (len id count : ℕ) (was on : Bool) → IsChange bits counts len id count was on → on ≡ true
    → (count ≤ 512) × AreCounted (slice_set bits id on) (slice_set counts (id / 512) (count + 1)) (len + 1)
grows bits counts len id count was on c on_now =
    let read : (id / 512 < length counts) × (count ≡ slice_index counts (id / 512)) = count_read bits counts len id count was on c in
    let counted : slice_index counts (id / 512) + rank (512 * (id / 512)) bits ≡ rank (512 * (id / 512) + 512) bits = c.counted.counted (id / 512) read.0 in
    let part : rank (512 * (id / 512) + 512) bits ≤ rank (512 * (id / 512)) bits + 512 = rank_part bits (512 * (id / 512)) 512 in
    let same : count ≡ slice_index counts (id / 512) = read.1 in
    let old : one (is_in id bits) ≡ 0 = ap one (sym c.bit ∙ not_true was on c.differs on_now) in
    let new : one on ≡ 1 = ap one on_now in
    (omega arith, counted_put bits counts len id (count + 1) (len + 1) on c.counted c.there (omega arith) (omega arith))

-- the id is taken out: its block has a member, and so does the set
pub shrinks : (bits : List Bool) (counts : List ℕ) (len id count : ℕ) (was on : Bool) → IsChange bits counts len id count was on → on ≡ false
    → (0 < count) × AreCounted (slice_set bits id on) (slice_set counts (id / 512) (count - 1)) (len - 1)
shrinks bits counts len id count was on c no_more =
    let read : (id / 512 < length counts) × (count ≡ slice_index counts (id / 512)) = count_read bits counts len id count was on c in
    let counted : slice_index counts (id / 512) + rank (512 * (id / 512)) bits ≡ rank (512 * (id / 512) + 512) bits = c.counted.counted (id / 512) read.0 in
    let there : id < length bits = c.there in
    let old : one (is_in id bits) ≡ 1 = ap one (sym c.bit ∙ not_false was on c.differs no_more) in
    let new : one on ≡ 0 = ap one no_more in
    let more : rank (id + 1) bits ≡ rank id bits + one (is_in id bits) = rank_more bits id there in
    let below : rank (512 * (id / 512)) bits ≤ rank id bits = rank_mono bits (512 * (id / 512)) id (omega arith) in
    let above : rank (id + 1) bits ≤ rank (512 * (id / 512) + 512) bits = rank_mono bits (id + 1) (512 * (id / 512) + 512) (omega arith) in
    let all : rank (id + 1) bits ≤ rank (length bits) bits = rank_mono bits (id + 1) (length bits) (omega arith) in
    let whole : len ≡ rank (length bits) bits = c.counted.whole in
    let same : count ≡ slice_index counts (id / 512) = read.1 in
    (omega arith, counted_put bits counts len id (count - 1) (len - 1) on c.counted c.there (omega arith) (omega arith))
