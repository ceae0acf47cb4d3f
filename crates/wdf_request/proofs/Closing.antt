-- A list of requests whose entries are closed one after the other.
use Rattle.std.proofs.Common.{◌≡◌, ℕ, zero, suc, ◌+◌, ◌<◌, Bool, false, List, [], ◌∷◌, ◌++◌, length, map, take, drop, refl, ap, add-one, arith}
use Rattle.std.specs.List.{list_any}
use Rattle.std.proofs.lemmas.Bool.{or_parts}
use Rattle.wdf_base.specs.declared.object.Place.{Place}
use Rattle.wdf_model.specs.declared.entries.Request.{Request}
use Rattle.wdf_model.specs.Tables.{change_at}
use Rattle.wdf_model.specs.parts.Requests.{Requests, closed_at, no_request, with_request}

-- the first entries are changed, the others aren't yet
abbrev pub changed_to : {T : Type 0} → (T → T) → ℕ → List T → List T
changed_to f k xs = map f (take k xs) ++ drop k xs

-- one entry more
pub changed_next : {T : Type 0} (blank : T) (f : T → T) (xs : List T) (k : ℕ) → k < length xs → change_at blank (changed_to f k xs) k f ≡ changed_to f (suc k) xs
changed_next blank f [] k h = absurd (omega arith)
changed_next blank f (x ∷ xs) zero h = refl
changed_next blank f (x ∷ xs) (suc k) h = ap (λ ys. f x ∷ ys) (changed_next blank f xs k (omega arith))

-- the requests with smaller ids are closed, and one more is
pub close_next : (here : Place → Bool) (R S : Requests) (k : ℕ) → S ≡ record R { all = changed_to (closed_at here) k R.all } → k < length R.all
    → with_request S k (closed_at here) ≡ record R { all = changed_to (closed_at here) (k + 1) R.all }
close_next here R S k e h = rw (e, add-one) (ap (λ rs. record R { all = rs }) (changed_next no_request (closed_at here) R.all k h))

-- where no request is at one of these places, none changes
pub none_closed : (here : Place → Bool) (rs : List Request) → list_any (λ (r : Request). here r.place) rs ≡ false → map (closed_at here) rs ≡ rs
none_closed here [] e = refl
none_closed here (r ∷ rs) e =
    let parts = or_parts (here r.place) (list_any (λ (x : Request). here x.place) rs) e in
    rw (parts.0, none_closed here rs parts.1) refl
