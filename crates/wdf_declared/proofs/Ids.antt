-- A table by id, filled id by id.
use Rattle.std.proofs.Common.{◌≡◌, ℕ, suc, ◌+◌, ◌<◌, ◌≤◌, ◌⊎◌, inl, inr, List, [], ◌∷◌, ◌++◌, length, map, get_or, slice_set, get_or-set_same, get_or-set_other, length-set, refl, sym, ap, ◌∙◌, arith}
use Rattle.std.specs.List.{range_with_len}
use Rattle.std.proofs.lemmas.Bool.{cases_eq}
use Rattle.std.proofs.lemmas.List.{ext_get_or}
use Rattle.std.proofs.lemmas.List.FromFn.{length-map-range_with_len, get_or-map-range_with_len, map-range_with_len_more}

-- one id more
pub ids_more : {T : Type 0} (f : ℕ → T) (before after : List T) (entry : T) (id : ℕ) → before ≡ map f (range_with_len 0 id) → entry ≡ f id → after ≡ before ++ entry ∷ []
    → after ≡ map f (range_with_len 0 (id + 1))
ids_more f before after entry id b e a = let more = map-range_with_len_more f 0 id id (omega arith) in cc

-- all ids
pub ids_all : {T : Type 0} (f : ℕ → T) (all : List T) (id n : ℕ) → all ≡ map f (range_with_len 0 id) → id ≡ suc n → all ≡ map f (range_with_len 0 (suc n))
ids_all f all id n a e = let same = ap (λ k. map f (range_with_len 0 k)) e in cc

-- ---- a table whose entries are written anew, id by id

-- The entries before an id are anew, and the others are as they were.
pub record IsAnew {T : Type 0} (f : ℕ → T) (old now : List T) (id : ℕ) : Type 0 where
  pub as_many : length now ≡ length old
  pub anew : (blank : T) (k : ℕ) → k < id → get_or now k blank ≡ f k
  pub left : (blank : T) (k : ℕ) → id ≤ k → get_or now k blank ≡ get_or old k blank

pub anew_none : {T : Type 0} (f : ℕ → T) (old : List T) → IsAnew f old old 0
anew_none f old = record { as_many = refl; anew = λ blank k h. absurd (omega arith); left = λ blank k h. refl }

pub anew_more : {T : Type 0} (f : ℕ → T) (old now : List T) (id : ℕ) (new : T) → id < length old → new ≡ f id → IsAnew f old now id → IsAnew f old (slice_set now id new) (id + 1)
anew_more f old now id new h e a = record {
  as_many = length-set now id new ∙ a.as_many;
  anew = λ blank k below. at blank k below (cases_eq k id);
  left = λ blank k above. get_or-set_other now id k new blank (λ same. absurd (omega arith)) ∙ a.left blank k (omega arith);
}
  where
    at : (blank : _) (k : ℕ) → k < id + 1 → (k ≡ id) ⊎ (k ≡ id → ⊥) → get_or (slice_set now id new) k blank ≡ f k
    at blank k below (inl same) =
        let within : id < length now = let many = a.as_many in omega arith in
        ap (λ n. get_or (slice_set now id new) n blank) same ∙ get_or-set_same now id new blank within ∙ e ∙ ap f (sym same)
    at blank k below (inr other) = get_or-set_other now id k new blank other ∙ a.anew blank k (omega arith)

-- all are
pub anew_all : {T : Type 0} (blank : T) (f : ℕ → T) (old now : List T) (id n : ℕ) → IsAnew f old now id → length old ≡ suc n → id ≡ suc n → now ≡ map f (range_with_len 0 (suc n))
anew_all blank f old now id n a many all =
    let long : length (map f (range_with_len 0 (suc n))) ≡ suc n = length-map-range_with_len f 0 (suc n) in
    ext_get_or blank now (map f (range_with_len 0 (suc n))) (a.as_many ∙ many ∙ sym long)
    (λ k h. let as_many = a.as_many in a.anew blank k (omega arith) ∙ sym (get_or-map-range_with_len f 0 (suc n) k k blank (omega arith) (omega arith)))
