-- Rows of seats: how they are made, what turns leave of them, and how they are taken apart.
use Rattle.std.proofs.Common.{◌≡◌, ◌≢◌, ℕ, zero, suc, ◌+◌, ◌-◌, ◌<◌, ◌≤◌, List, [], ◌∷◌, ◌++◌, length, refl, sym, ap, ◌∙◌, subst, arith, length-append, append-nil, get_or, take, drop}
use Rattle.std.specs.List.{All}
use Rattle.std.specs.Prelude.{slice_set}
use Rattle.std.proofs.lemmas.List.{get_or_append_left}
use Rattle.std.proofs.Math.Seq.{get_or-append_seam}
use Rattle.wdf_turn.specs.Tokens.{split_off, new_token, joined, looked}
use Rattle.wdf_turn.specs.Turns.{IsSeatOf, token}
use Rattle.wdf_turn.specs.declared.seat.Seat.{Seat}
use Rattle.wdf_turn.specs.declared.token.Token.{Token}
use Rattle.wdf_turn.specs.declared.turn.Turn.{Turn}
use Rattle.wdf_turn.proofs.Noted.{All-snoc}
use Rattle.wdf_crew.specs.Rows.{IsIdleSeat, IsFirst, IsOtherSeat, IsSameSeat, IsRow}

-- what holds of each item of a list holds of each before the last, and of the last
All-front : {A : Type 0} (P : A → Type 0) (xs : List A) (x : A) → All P (xs ++ x ∷ []) → All P xs
All-front P xs x all k d h = subst P (get_or_append_left xs (x ∷ []) d k h) (all k d (let n = length-append xs (x ∷ []) in omega arith))

All-last : {A : Type 0} (P : A → Type 0) (xs : List A) (x : A) → All P (xs ++ x ∷ []) → P x
All-last P xs x all = subst P (get_or-append_seam xs x [] x) (all (length xs) x (let n = length-append xs (x ∷ []) in omega arith))

pub one_longer : {A : Type 0} (xs ys : List A) (x : A) → ys ≡ xs ++ x ∷ [] → length ys ≡ length xs + 1
one_longer xs ys x e = ap length e ∙ length-append xs (x ∷ [])

drop_all : {A : Type 0} (xs : List A) → drop (length xs) xs ≡ []
drop_all [] = refl
drop_all (x ∷ xs) = drop_all xs

take_all : {A : Type 0} (xs : List A) → take (length xs) xs ≡ xs
take_all [] = refl
take_all (x ∷ xs) = ap (λ ys. x ∷ ys) (take_all xs)

-- a list that was written over the whole of another
pub written_over : {A : Type 0} (n : ℕ) (xs ys : List A) → length ys ≡ length xs → n ≡ length xs → take n (ys ++ drop (length ys) xs) ≡ ys
written_over {A} n xs ys same len =
    ap (λ (k : ℕ). take n (ys ++ drop k xs)) same ∙ ap (λ (l : List A). take n (ys ++ l)) (drop_all xs) ∙ ap (λ (l : List A). take n l) (append-nil ys)
    ∙ ap (λ (k : ℕ). take k ys) (len ∙ sym same) ∙ take_all ys

module _ {T R : Type 0} (turn : Turn T R) where
  -- ---- a seat for each worker

  -- a seat that was split off is another than the first
  pub split_is_other : (seat : Seat T) (v : Token T) → IsSeatOf turn seat → token seat ≡ new_token v → 1 ≤ v.made → IsOtherSeat turn seat
  split_is_other seat v own e some = ((own, ap (λ (w : Token T). w.hold) e), λ is. let n = ap (λ (w : Token T). w.number) e in omega arith)

  -- the seat from which it was split stays the first, and counts it
  pub split_counts : (old new : Seat T) (xs ys : List (Seat T)) (seat : Seat T) → token new ≡ split_off (token old) → IsFirst (length xs) old → ys ≡ xs ++ seat ∷ [] → IsFirst (length ys) new
  split_counts old new xs ys seat e first grown =
      let more : (token new).unjoined ≡ (token old).unjoined + 1 = ap (λ (w : Token T). w.unjoined) e in
      let longer = one_longer xs ys seat grown in
      let was = first.1 in
      (ap (λ (w : Token T). w.number) e ∙ first.0, omega arith)

  pub others_more : (xs ys : List (Seat T)) (seat : Seat T) → ys ≡ xs ++ seat ∷ [] → All (IsOtherSeat turn) xs → IsOtherSeat turn seat → All (IsOtherSeat turn) ys
  others_more xs ys seat e all one = subst (λ (l : List (Seat T)). All (IsOtherSeat turn) l) (sym e) (All-snoc (IsOtherSeat turn) xs seat all one)

  row_of : (others : List (Seat T)) (first : Seat T) → All (IsOtherSeat turn) others → IsIdleSeat turn first → IsFirst (length others) first
      → IsRow turn (length others) (others ++ first ∷ [])
  row_of others first all idle is_first = record {
    count = length-append others (first ∷ []);
    idle = All-snoc (IsIdleSeat turn) others first (λ k d h. (all k d h).0) idle;
    other = λ k d h. subst (λ (s : Seat T). (token s).number ≢ 1) (sym (get_or_append_left others (first ∷ []) d k h)) (all k d h).1;
    first = λ d. subst (λ (s : Seat T). IsFirst (length others) s) (sym (get_or-append_seam others first [] d)) is_first;
  }

  -- the others, and the first after them, are a row
  pub row_made : (n : ℕ) (others seats : List (Seat T)) (first : Seat T) → seats ≡ others ++ first ∷ [] → length others ≡ n
      → All (IsOtherSeat turn) others → IsIdleSeat turn first → IsFirst (length others) first → IsRow turn n seats
  row_made n others seats first e count all idle is_first =
      subst (λ (m : ℕ). IsRow turn m seats) count (subst (λ (l : List (Seat T)). IsRow turn (length others) l) (sym e) (row_of others first all idle is_first))

  -- ---- the work

  -- seats that hold nothing and are the same stay a row
  pub row_worked : (n : ℕ) (xs ys : List (Seat T)) → IsRow turn n xs → length ys ≡ length xs
      → ((k : ℕ) (d : Seat T) → k < length xs → IsIdleSeat turn (get_or ys k d) × IsSameSeat (get_or xs k d) (get_or ys k d))
      → IsRow turn n ys
  row_worked n xs ys row same worked = record {
    count = same ∙ row.count;
    idle = λ k d h. (worked k d (omega (arith, same))).0;
    other = λ k d h is. row.other k d h (sym (worked k d (let c = row.count in omega arith)).1.0 ∙ is);
    first = λ d.
        let w = (worked n d (let c = row.count in omega arith)).1 in
        (w.0 ∙ (row.first d).0, w.1 ∙ (row.first d).1);
  }

  -- ---- the seats come together

  -- the seats before the last of a row are others
  row_front : (n : ℕ) (others : List (Seat T)) (first : Seat T) → IsRow turn n (others ++ first ∷ []) → length others ≡ n → All (IsOtherSeat turn) others
  row_front n others first row count k d h = (
    All-front (IsIdleSeat turn) others first row.idle k d h,
    subst (λ (s : Seat T). (token s).number ≢ 1) (get_or_append_left others (first ∷ []) d k h) (row.other k d (omega (arith, count))),
  )

  told_each : (x s : Seat T) (xs : List (Seat T)) → IsIdleSeat turn s × IsSameSeat x s → All (IsIdleSeat turn) (x ∷ xs) → (k : ℕ) (d : Seat T) → k < length (x ∷ xs)
      → IsIdleSeat turn (get_or (s ∷ xs) k d) × IsSameSeat (get_or (x ∷ xs) k d) (get_or (s ∷ xs) k d)
  told_each x s xs told all zero d h = told
  told_each x s xs told all (suc k) d h = (all (suc k) d h, (refl, refl))

  -- one seat was used, holds nothing and is the same
  pub row_told : (n : ℕ) (xs : List (Seat T)) (s d : Seat T) → IsRow turn n xs → IsIdleSeat turn s × IsSameSeat (get_or xs 0 d) s → IsRow turn n (slice_set xs 0 s)
  row_told n [] s d row told = absurd (let count = row.count in omega arith)
  row_told n (x ∷ xs) s d row told = row_worked n (x ∷ xs) (s ∷ xs) row refl (told_each x s xs told row.idle)

  row_last : (n : ℕ) (others : List (Seat T)) (first : Seat T) → IsRow turn n (others ++ first ∷ []) → length others ≡ n → IsFirst n first
  row_last n others first row count =
      subst (λ (s : Seat T). IsFirst n s) (ap (λ (k : ℕ). get_or (others ++ first ∷ []) k first) (sym count) ∙ get_or-append_seam others first [] first) (row.first first)

  -- a row without its last seat, and that seat
  pub row_opened : (n : ℕ) (seats others : List (Seat T)) (first : Seat T) → IsRow turn n seats → seats ≡ others ++ first ∷ []
      → All (IsOtherSeat turn) others × IsIdleSeat turn first × IsFirst (length others) first
  row_opened n seats others first row e =
      let here : IsRow turn n (others ++ first ∷ []) = subst (λ (l : List (Seat T)). IsRow turn n l) e row in
      let longer = length-append others (first ∷ []) in
      let counted = here.count in
      let count : length others ≡ n = omega arith in
      (row_front n others first here count, All-last (IsIdleSeat turn) others first here.idle, subst (λ (m : ℕ). IsFirst m first) (sym count) (row_last n others first here count))

  -- one of the others is taken off
  pub others_less : (xs ys : List (Seat T)) (seat : Seat T) → xs ≡ ys ++ seat ∷ [] → All (IsOtherSeat turn) xs → All (IsOtherSeat turn) ys × IsOtherSeat turn seat
  others_less xs ys seat e all =
      let here : All (IsOtherSeat turn) (ys ++ seat ∷ []) = subst (λ (l : List (Seat T)). All (IsOtherSeat turn) l) e all in
      (All-front (IsOtherSeat turn) ys seat here, All-last (IsOtherSeat turn) ys seat here)

  -- the first seat has joined one of the others: it holds nothing, and counts one fewer
  pub first_joins : (old new : Seat T) (v : Token T) (n : ℕ) (xs ys : List (Seat T)) (seat : Seat T) → IsSeatOf turn new → token new ≡ looked (joined (token old) v) n
      → IsIdleSeat turn old → IsFirst (length xs) old → xs ≡ ys ++ seat ∷ [] → IsIdleSeat turn new × IsFirst (length ys) new
  first_joins old new v n xs ys seat own e idle first cut =
      let less : (token new).unjoined ≡ (token old).unjoined - 1 = ap (λ (w : Token T). w.unjoined) e in
      let longer = one_longer ys xs seat cut in
      let was = first.1 in
      ((own, ap (λ (w : Token T). w.hold) e ∙ idle.1), (ap (λ (w : Token T). w.number) e ∙ first.0, omega arith))
