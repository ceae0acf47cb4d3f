-- What passes a test is in the list of those that pass, so a search finds something.
use Rattle.std.proofs.Common.{◌≡◌, inl, inr, ℕ, ◌<◌, ◌≤◌, ◌==◌, Bool, true, false, not, ◌&&◌, nat_lt, List, [], ◌∷◌, length, Option, Some, None, is_some, filter, filter_map, refl, sym, ap, ◌∙◌, arith, eqb-true}
use Rattle.std.specs.Prelude.{option_map}
use Rattle.std.specs.List.{list_any}
use Rattle.std.proofs.lemmas.Bool.{and_parts, cases_Bool, ltb-false, ltb-true}
use Rattle.wdf_base.specs.declared.object.LockRef.{LockRef}
use Rattle.wdf_base.specs.declared.object.Place.{Place}
use Rattle.wdf_base.specs.declared.object.Place.TheVariants as place
use Rattle.wdf_base.specs.declared.wait.Cause.{Cause}
use Rattle.wdf_model.specs.declared.entries.Node.{Node}
use Rattle.wdf_model.specs.declared.entries.Request.{Request}
use Rattle.wdf_model.specs.Tables.{ids_of, least, same_id}
use Rattle.wdf_model.specs.parts.Tree.{children, gone, is_child}
use Rattle.wdf_base.specs.Lives.{is_gone}
use Rattle.wdf_model.specs.parts.Cpus.{all_frames, is_on}
use Rattle.wdf_model.specs.parts.Locks.{holder}
use Rattle.wdf_model.specs.parts.Requests.{no_request, origin_of, place_of}
use Rattle.wdf_model.specs.parts.Targets.{is_forgotten}
use Rattle.wdf_model.specs.State.{State, held_at, held_from, is_held_from}
use Rattle.wdf_model.specs.rules.Waits.{holders_of, requests_where}
use Rattle.wdf_model.proofs.Maps.{entry_past}
use Rattle.law_stuck_causes.specs.Causes.{has_lock, has_lock_if_any, is_there, runs_on}
use Rattle.law_stuck_causes.proofs.Members.{Has, has_id, has_kept, has_range}
use Rattle.law_stuck_blame.proofs.Rows.{there_least}
use Rattle.std.proofs.Math.Bool.{and-false}

-- ---- lists

not_empty : {T : Type 0} (x : T) (xs : List T) → Has x xs → xs ≡ [] → ⊥
not_empty x [] h e = h
not_empty x (y ∷ ys) h e = let z : ⊥ = cc in z

-- of a list with something in it there is a least number
pub some_least : (g : ℕ → Cause) (x : ℕ) (ns : List ℕ) → Has x ns → is_some (option_map g (least ns)) ≡ true
some_least g x ns h = there_least g ns (not_empty x ns h)

-- one of a list that passes
pub record Passes {T : Type 0} (p : T → Bool) (xs : List T) : Type 0 where
  pub it : T
  pub there : Has it xs
  pub so : p it ≡ true

passes_by : {T : Type 0} (p : T → Bool) (x : T) (xs : List T) (b : Bool) → p x ≡ b → list_any p (x ∷ xs) ≡ true → (list_any p xs ≡ true → Passes p xs) → Passes p (x ∷ xs)
passes_by p x xs true e h rest = record { it = x; there = inl refl; so = e }
passes_by p x xs false e h rest = let one = rest (rw e at h) in record { it = one.it; there = inr one.there; so = one.so }

pub some_passes : {T : Type 0} (p : T → Bool) (xs : List T) → list_any p xs ≡ true → Passes p xs
some_passes p [] h = absurd (let z : ⊥ = cc in z)
some_passes p (x ∷ xs) h = passes_by p x xs (p x) refl h (some_passes p xs)

-- ---- tables

-- an id that passes is one of the table's, where the blank entry doesn't pass
pub in_table : {T : Type 0} (xs : List T) (p : ℕ → Bool) (r : ℕ) → (length xs ≤ r → p r ≡ false) → p r ≡ true → Has r (filter p (ids_of xs))
in_table xs p r off h = elim (cases_Bool (nat_lt r (length xs))) [
  | inl low ↦ let less : r < length xs = ltb-true r (length xs) low in has_kept p r (ids_of xs) (has_range r 0 (length xs) (omega arith) (omega (arith, less))) h
  | inr late ↦ let z : ⊥ = cc (sym h ∙ off (ltb-false r (length xs) late)) in absurd z
]

-- ---- frames

module _ {A : Type 0} (S : State A) where
  pub frame_on : (o f : ℕ) → runs_on S o f ≡ true → Has f (filter (is_on S.cpus o) (all_frames S.cpus))
  frame_on o f h =
      let parts = and_parts (is_there S f) (is_on S.cpus o f) h in
      has_kept (is_on S.cpus o) f (all_frames S.cpus) (has_id f (all_frames S.cpus) parts.0) parts.1

  -- ---- locks

  held_one : (o : Option ℕ) (g : ℕ) → same_id o g ≡ true → Has g (filter_map (λ x. x) (o ∷ []))
  held_one None g h = absurd (let z : ⊥ = cc in z)
  held_one (Some x) g h = inl (sym (eqb-true x g h))

  pub lock_by : (l : LockRef) (g : ℕ) → has_lock S l g ≡ true → Has g (holders_of S (Some l))
  lock_by l g h = held_one (holder S.locks l) g h

  pub lock_by_any : (l : Option LockRef) (g : ℕ) → has_lock_if_any S l g ≡ true → Has g (holders_of S l)
  lock_by_any None g h = absurd (let z : ⊥ = cc in z)
  lock_by_any (Some l) g h = lock_by l g h

  -- ---- requests

  pub held_there : (q r : ℕ) → is_held_from S q r ≡ true → Has r (held_from S q)
  held_there q r h =
      in_table S.requests.all (is_held_from S q) r
      (λ late. ap (λ (x : Request). same_id (origin_of S.requests r) q && held_at (is_forgotten S.targets r) x.place) (entry_past no_request S.requests.all r late) ∙ and-false (same_id (origin_of S.requests r) q))
      h

  pub placed_there : (test : Place → Bool) (r : ℕ) → test place.Done ≡ false → test (place_of S.requests r) ≡ true → Has r (requests_where S test)
  placed_there test r off h =
      in_table S.requests.all (λ x. test (place_of S.requests x)) r (λ late. ap (λ (x : Request). test x.place) (entry_past no_request S.requests.all r late) ∙ off) h

  -- ---- objects

  pub child_there : (p x : ℕ) → is_child S.tree p x ≡ true → Has x (children S.tree p)
  child_there p x h =
      in_table S.tree.nodes (is_child S.tree p) x (λ late. ap (λ (n : Node). n.parent.0 == p && not (is_gone n.life)) (entry_past gone S.tree.nodes x late) ∙ and-false (gone.parent.0 == p)) h

-- ---- a lock that is held

pub some_holder : (g : ℕ → Cause) (o : Option ℕ) (f : ℕ) → same_id o f ≡ true → is_some (option_map g o) ≡ true
some_holder g None f h = absurd (let z : ⊥ = cc in z)
some_holder g (Some x) f h = refl
