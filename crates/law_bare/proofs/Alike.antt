-- Two machines of which what may follow is the same but for what f takes away have the same runs but for that.
use Rattle.std.proofs.Common.{◌≡◌, ℕ, ◌+◌, List, [], ◌∷◌, ◌++◌, length, map, take, Option, Some, None, option_map, slice_get, refl, sym, ap, ◌∙◌, subst, arith, append-nil, append_assoc}
use Rattle.std.proofs.Math.Seq.{take-append_seam}
use Rattle.std.proofs.lemmas.List.{length-map, map-append}
use Rattle.wdf_model.specs.Runs.{IsPickedFrom, IsRun, Picked, picked_place}
use Rattle.wdf_model.proofs.Runs.{picked_goes_on, picked_opens, run_goes_on, run_opens, slice_get-append-right}
use Rattle.law_bare.proofs.Lists.{at_mapped}

module _ {E : Type 0} (f : E → E) where
  mapped_nil : (xs : List E) → map f xs ≡ [] → xs ≡ []
  mapped_nil [] h = refl
  mapped_nil (x ∷ xs) h = absurd (let z : ⊥ = cc in z)

  same_long : (xs ys : List E) → map f xs ≡ map f ys → length xs ≡ length ys
  same_long xs ys same = sym (length-map xs f) ∙ ap length same ∙ length-map ys f

  -- an event at a place of one list has its like at that place of the other
  like_by : (e : E) (o : Option E) → option_map f o ≡ Some (f e) → (other : E) × (o ≡ Some other) × (f e ≡ f other)
  like_by e None h = absurd (let z : ⊥ = cc in z)
  like_by e (Some x) h = (x, refl, let same : f x ≡ f e = cc in sym same)

  like_at : (xs ys : List E) → map f xs ≡ map f ys → (k : ℕ) (e : E) → slice_get xs k ≡ Some e → (other : E) × (slice_get ys k ≡ Some other) × (f e ≡ f other)
  like_at xs ys same k e at = like_by e (slice_get ys k) (sym (at_mapped f ys k) ∙ ap (λ zs. slice_get zs k) (sym same) ∙ at_mapped f xs k ∙ ap (option_map f) at)

  one_more : (xs ys : List E) (x y : E) → map f xs ≡ map f ys → f x ≡ f y → map f (xs ++ x ∷ []) ≡ map f (ys ++ y ∷ [])
  one_more xs ys x y same h = map-append f xs (x ∷ []) ∙ ap (λ zs. zs ++ f x ∷ []) same ∙ ap (λ z. map f ys ++ z ∷ []) h ∙ sym (map-append f ys (y ∷ []))

  module _ (one two : List E → List E) (alike : (xs ys : List E) → map f xs ≡ map f ys → map f (one xs) ≡ map f (two ys)) where
    -- ---- runs by picks

    next_picked : (picks : List ℕ) (xs : List E) (e : E) (more : List E) → IsPickedFrom one picks [] (xs ++ e ∷ more) → slice_get (one xs) (picked_place picks (length xs) (length (one xs))) ≡ Some e
    unfolding IsPickedFrom
    next_picked picks xs e more p =
        let here : slice_get (xs ++ e ∷ more) (length xs) ≡ Some e = (let z : length xs + 0 ≡ length xs = omega arith in rw z at (slice_get-append-right xs (e ∷ more) 0)) in
        let zeroth : 0 + length xs ≡ length xs = omega arith in
        let there : slice_get (xs ++ e ∷ more) (0 + length xs) ≡ Some e = rw zeroth here in
        let front : take (0 + length xs) (xs ++ e ∷ more) ≡ xs = rw zeroth (take-append_seam xs (e ∷ more)) in
        subst (λ zs. slice_get (one zs) (picked_place picks (length xs) (length (one zs))) ≡ Some e) front (p (length xs) e there)

    follow : (picks : List ℕ) (xs ys more : List E) → map f xs ≡ map f ys → IsPickedFrom one picks [] (xs ++ more) → IsPickedFrom two picks [] ys → (whole : List E) × IsPickedFrom two picks [] whole × (map f (xs ++ more) ≡ map f whole)
    follow picks xs ys [] same p q = (ys, q, ap (map f) (append-nil xs) ∙ same)
    follow picks xs ys (e ∷ more) same p q =
        let here = next_picked picks xs e more p in
        let ready_ = alike xs ys same in
        let place : picked_place picks (length xs) (length (one xs)) ≡ picked_place picks (length xs) (length (two ys)) = ap (picked_place picks (length xs)) (same_long (one xs) (two ys) ready_) in
        let like = like_at (one xs) (two ys) ready_ (picked_place picks (length xs) (length (one xs))) e here in
        let there : slice_get (two ys) (picked_place picks (length xs) (length (two ys))) ≡ Some like.0 = subst (λ n. slice_get (two ys) n ≡ Some like.0) place like.1 in
        let long : length ys ≡ 0 + length xs = (let l = same_long xs ys same in omega (arith, l)) in
        let seam : (xs ++ e ∷ []) ++ more ≡ xs ++ e ∷ more = append_assoc xs (e ∷ []) more in
        let rest = follow picks (xs ++ e ∷ []) (ys ++ like.0 ∷ []) more (one_more xs ys e like.0 same like.2) (subst (IsPickedFrom one picks []) (sym seam) p) (picked_goes_on two picks [] ys like.0 (length xs) long q there) in
        (rest.0, rest.1, ap (map f) (sym seam) ∙ rest.2)

    pub picked_alike : (picks : List ℕ) (run : List E) → Picked one picks [] run → (other : List E) × Picked two picks [] other × (map f run ≡ map f other)
    picked_alike picks run p =
        let whole = follow picks [] [] run refl p.picked (picked_opens two picks []) in
        let ends : two whole.0 ≡ [] = mapped_nil (two whole.0) (sym (alike run whole.0 whole.2) ∙ ap (map f) p.ends) in
        (whole.0, record { begins = (whole.0, refl); picked = whole.1; ends = ends }, whole.2)

    -- ---- any runs

    next_run : (xs : List E) (e : E) (more : List E) → IsRun one (xs ++ e ∷ more) → (place : ℕ) × (slice_get (one xs) place ≡ Some e)
    unfolding IsRun
    next_run xs e more p =
        let here : slice_get (xs ++ e ∷ more) (length xs) ≡ Some e = (let z : length xs + 0 ≡ length xs = omega arith in rw z at (slice_get-append-right xs (e ∷ more) 0)) in
        let it = p (length xs) e here in
        (it.0, subst (λ zs. slice_get (one zs) it.0 ≡ Some e) (take-append_seam xs (e ∷ more)) it.1)

    follow_run : (xs ys more : List E) → map f xs ≡ map f ys → IsRun one (xs ++ more) → IsRun two ys → (whole : List E) × IsRun two whole × (map f (xs ++ more) ≡ map f whole)
    follow_run xs ys [] same p q = (ys, q, ap (map f) (append-nil xs) ∙ same)
    follow_run xs ys (e ∷ more) same p q =
        let here = next_run xs e more p in
        let like = like_at (one xs) (two ys) (alike xs ys same) here.0 e here.1 in
        let seam : (xs ++ e ∷ []) ++ more ≡ xs ++ e ∷ more = append_assoc xs (e ∷ []) more in
        let rest = follow_run (xs ++ e ∷ []) (ys ++ like.0 ∷ []) more (one_more xs ys e like.0 same like.2) (subst (IsRun one) (sym seam) p) (run_goes_on two ys like.0 here.0 q like.1) in
        (rest.0, rest.1, ap (map f) (sym seam) ∙ rest.2)

    pub run_alike : (run : List E) → IsRun one run → (other : List E) × IsRun two other × (map f run ≡ map f other)
    run_alike run p = follow_run [] [] run refl p (run_opens two)
