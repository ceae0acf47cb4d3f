-- The list that the set of enabled interrupts stands for: what is read of it, and a write.
use Rattle.std.proofs.Common.{ℕ, zero, suc, ◌≡◌, ◌⊎◌, ◌+◌, ◌<◌, ◌≤◌, max, Bool, true, false, List, [], ◌∷◌, take, length, replicate, slice_set, refl, ap, ◌∙◌, inl, inr, get_or-set_other, length-set, arith}
use Rattle.std.proofs.lemmas.Bool.{cases_lt}
use Rattle.std.proofs.lemmas.List.{length-replicate}
use Rattle.wdf_model.specs.declared.room.TheConstants.{OBJECTS}
use Rattle.wdf_model.specs.Tables.{put}
use Rattle.wdf_model.specs.parts.Interrupts.{Interrupts, is_enabled}
use Rattle.wdf_sets.specs.Members.{is_in}
use Rattle.wdf_sets.proofs.SetOf.{none_in}
use Rattle.wdf_intr.specs.Enabled.{HoldsEnabled}

abbrev list_of : List Bool → ℕ → Interrupts
list_of bits end = record { enabled = take end bits }

-- ---- what is read

read_of : (bits : List Bool) (end id : ℕ) → ((x : ℕ) → end ≤ x → is_in x bits ≡ false) → is_in id bits ≡ is_in id (take end bits)
read_of [] zero id none = refl
read_of [] (suc end) id none = refl
read_of (b ∷ bits) zero id none = none id (omega arith)
read_of (b ∷ bits) (suc end) zero none = refl
read_of (b ∷ bits) (suc end) (suc id) none = read_of bits end id (λ x h. none (suc x) (omega arith))

pub read : (bits : List Bool) (end id : ℕ) → HoldsEnabled bits end → is_in id bits ≡ is_enabled (list_of bits end) id
read bits end id h = read_of bits end id h.none

-- what is enabled is an object
pub member_low : (bits : List Bool) (end id : ℕ) → HoldsEnabled bits end → is_in id bits ≡ true → id < OBJECTS
member_low bits end id h there = by (cases_lt id end)
  where
    by : (id < end) ⊎ (end ≤ id) → id < OBJECTS
    by (inl low) = let within = h.within in omega arith
    by (inr past) = let out = h.none id past in absurd (let z : ⊥ = cc in z)

-- ---- none is enabled

pub none_enabled : (n : ℕ) (bits : List Bool) → OBJECTS ≤ n → bits ≡ replicate n false → HoldsEnabled bits 0
none_enabled n bits room e = record {
  room = rw (e, length-replicate n false) room;
  within = omega arith;
  none = λ id past. rw e (none_in n id);
}

-- ---- a write

put_before : (bits : List Bool) (end id : ℕ) (on : Bool) → id < end → id < length bits → take end (slice_set bits id on) ≡ put false (take end bits) id on
put_before [] end id on low there = absurd (omega arith)
put_before (b ∷ bits) zero id on low there = absurd (omega arith)
put_before (b ∷ bits) (suc end) zero on low there = refl
put_before (b ∷ bits) (suc end) (suc id) on low there = ap (λ bs. b ∷ bs) (put_before bits end id on (omega arith) (omega arith))

put_past : (bits : List Bool) (end id : ℕ) (on : Bool) → end ≤ id → id < length bits → ((x : ℕ) → end ≤ x → is_in x bits ≡ false)
    → take (suc id) (slice_set bits id on) ≡ put false (take end bits) id on
put_past [] end id on past there none = absurd (omega arith)
put_past (b ∷ bits) zero zero on past there none = refl
put_past (b ∷ bits) zero (suc id) on past there none =
    let first : b ≡ false = none 0 (omega arith) in
    rw first (ap (λ bs. false ∷ bs) (put_past bits zero id on (omega arith) (omega arith) (λ x h. none (suc x) (omega arith))))
put_past (b ∷ bits) (suc end) zero on past there none = absurd (omega arith)
put_past (b ∷ bits) (suc end) (suc id) on past there none = ap (λ bs. b ∷ bs) (put_past bits end id on (omega arith) (omega arith) (λ x h. none (suc x) (omega arith)))

pub put_is : (bits : List Bool) (end id : ℕ) (on : Bool) → HoldsEnabled bits end → id < OBJECTS → take (max end (id + 1)) (slice_set bits id on) ≡ put false (take end bits) id on
put_is bits end id on h low = by (cases_lt id end)
  where
    there : id < length bits
    there = let room = h.room in omega arith

    by : (id < end) ⊎ (end ≤ id) → take (max end (id + 1)) (slice_set bits id on) ≡ put false (take end bits) id on
    by (inl before) = let e : max end (id + 1) ≡ end = omega arith in rw e (put_before bits end id on before there)
    by (inr past) = let e : max end (id + 1) ≡ suc id = omega arith in rw e (put_past bits end id on past there h.none)

pub put_holds : (bits : List Bool) (end id : ℕ) (on : Bool) → HoldsEnabled bits end → id < OBJECTS → HoldsEnabled (slice_set bits id on) (max end (id + 1))
put_holds bits end id on h low = record {
  room = let room = h.room in let long = length-set bits id on in omega arith;
  within = let within = h.within in omega arith;
  none = λ x past. get_or-set_other bits id x on false (λ same. absurd (omega arith)) ∙ h.none x (omega arith);
}
