-- What is gathered line by line.
use Rattle.std.proofs.Common.{◌≡◌, List, [], ◌∷◌, ◌++◌, Option, Some, None, ap, sym, ◌∙◌, append_assoc}
use Rattle.std.specs.Option.{option_to_list}
use Rattle.std.specs.List.{filter_map, cons_option}
use Rattle.std.proofs.lemmas.List.{append-nil}
use Rattle.wdf_refusals.specs.First.{first_some}
use Rattle.wdf_refusals.specs.Numbered.{Every}

-- what was gathered, and what is still to come
pub record IsGathered {P T : Type 0} (f : P → Option T) (rest : List P) (so_far whole : List T) : Type 0 where
  pub is : so_far ++ filter_map f rest ≡ whole

-- one item more at the end of the first list, or at the head of the second
pub cons-append : {T : Type 0} (xs ys : List T) (o : Option T) → xs ++ cons_option o ys ≡ (xs ++ option_to_list o) ++ ys
cons-append xs ys None = ap (λ zs. zs ++ ys) (sym (append-nil xs))
cons-append xs ys (Some x) = sym (append_assoc xs (x ∷ []) ys)

-- and what is to hold of each item still to come
pub record IsGathering {P T : Type 0} (f : P → Option T) (R : P → Type 0) (rest : List P) (so_far whole : List T) : Type 0 where
  pub gathered : IsGathered f rest so_far whole
  pub fit : Every R rest

-- nothing was found so far
pub record IsSought {P T : Type 0} (f : P → Option T) (rest : List P) (answer : Option T) : Type 0 where
  pub is : first_some f rest ≡ answer

-- the search goes on after an item that gives nothing
pub seek_more : {P T : Type 0} (f : P → Option T) (rest rest' : List P) (answer o : Option T) (p : P) → IsSought f rest answer → rest ≡ p ∷ rest' → o ≡ f p → o ≡ None → IsSought f rest' answer
seek_more f rest rest' answer o p s next found nothing' =
    let e : first_some f (p ∷ rest') ≡ answer = rw next at s.is in
    let z : f p ≡ None = sym found ∙ nothing' in
    record { is = rw z at e }

-- it ends at one that gives something
pub seek_found : {P T : Type 0} (f : P → Option T) (rest rest' : List P) (answer o : Option T) (p : P) (x : T) → IsSought f rest answer → rest ≡ p ∷ rest' → o ≡ f p → o ≡ Some x → Some x ≡ answer
seek_found f rest rest' answer o p x s next found is =
    let e : first_some f (p ∷ rest') ≡ answer = rw next at s.is in
    let z : f p ≡ Some x = sym found ∙ is in
    rw z at e
