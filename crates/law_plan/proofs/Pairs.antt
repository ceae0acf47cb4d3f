-- Items that the same lines give belong together.
use Rattle.std.proofs.Common.{List, [], ◌∷◌, Option, Some, None}
use Rattle.std.specs.List.{filter_map, cons_option}
use Rattle.wdf_refusals.proofs.Every.{Every}
use Rattle.law_plan.specs.Told.{Each, Paired}

-- two items that belong together, or none
abbrev pub Both : {A B : Type 0} → (A → B → Type 0) → Option A → Option B → Type 0
Both R None None = Unit {0}
Both R (Some a) (Some b) = R a b
Both R _ _ = ⊥

pair_step : {A B : Type 0} (R : A → B → Type 0) (o : Option A) (q : Option B) (as' : List A) (bs : List B) → Both R o q → Paired R as' bs → Paired R (cons_option o as') (cons_option q bs)
pair_step R None None as' bs h g = g
pair_step R (Some a) (Some b) as' bs h g = (h, g)
pair_step R None (Some b) as' bs h g = absurd h
pair_step R (Some a) None as' bs h g = absurd h

pub paired : {P A B : Type 0} (R : A → B → Type 0) (f : P → Option A) (g : P → Option B) (ps : List P) → Every (λ p. Both R (f p) (g p)) ps → Paired R (filter_map f ps) (filter_map g ps)
paired R f g [] h = tt
paired R f g (p ∷ ps) h =
    pair_step R (f p) (g p) (filter_map f ps) (filter_map g ps) h.0 (paired R f g ps h.1)

-- ---- each item

pub each_of : {T : Type 0} (P : T → Type 0) (xs : List T) → Every P xs → Each P xs
each_of P [] h = tt
each_of P (x ∷ xs) h = (h.0, each_of P xs h.1)
