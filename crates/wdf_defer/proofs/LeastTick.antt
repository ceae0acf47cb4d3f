-- The least due tick is the definition's.
use Rattle.std.proofs.Common.{ℕ, ◌≡◌, min, Bool, true, false, nat_le, List, [], ◌∷◌, Option, Some, None, fold, map, refl, sym, ap, ◌∙◌, arith}
use Rattle.std.proofs.lemmas.Bool.Decides.{nat_tests}
use Rattle.wdf_model.specs.declared.entries.Timed.{Timed}
use Rattle.wdf_model.specs.Tables.{least, lesser}
use Rattle.wdf_defer.specs.Ticks.{earlier, earliest_of}

-- ---- the earlier of two ticks

pub in_turn : (a b c : Option ℕ) → earlier (earlier a b) c ≡ earlier a (earlier b c)
in_turn None b c = refl
in_turn (Some a) None c = refl
in_turn (Some a) (Some b) None = refl
in_turn (Some a) (Some b) (Some c) = let e : min (min a b) c ≡ min a (min b c) = omega arith in ap Some e

-- ---- the least is the definition's

lesser_is : (a : Option ℕ) (n : ℕ) → lesser a n ≡ earlier a (Some n)
lesser_is None n = refl
lesser_is (Some a) n = by_order (nat_le a n) refl
  where
    by_order : (b : Bool) → nat_le a n ≡ b → lesser (Some a) n ≡ Some (min a n)
    by_order true e = let m : min a n ≡ a = grind (arith, nat_tests) in rw (e, m) refl
    by_order false e = let m : min a n ≡ n = grind (arith, nat_tests) in rw (e, m) refl

least_from : (a : Option ℕ) (ts : List Timed) → fold lesser a (map (λ (t : Timed). t.tick) ts) ≡ earlier a (earliest_of ts)
least_from None [] = refl
least_from (Some a) [] = refl
least_from a (t ∷ ts) = least_from (lesser a t.tick) ts ∙ ap (λ x. earlier x (earliest_of ts)) (lesser_is a t.tick) ∙ in_turn a (Some t.tick) (earliest_of ts)

pub least_is : (ts : List Timed) → earliest_of ts ≡ least (map (λ (t : Timed). t.tick) ts)
least_is ts = sym (least_from None ts)

pub none_later : (t : Option ℕ) → earlier t None ≡ t
none_later None = refl
none_later (Some tick) = refl
