-- One event more in a walk over the events of a run.
use Rattle.std.proofs.Common.{◌≡◌, ℕ, ◌+◌, ◌<◌, List, [], ◌∷◌, ◌++◌, length, get_or, take, sym, append_assoc, arith, option_to_list, map, append-nil, Option, Some, None}
use Rattle.std.proofs.lemmas.List.{take_more, length-take-le, map-append}
use Rattle.wdf_base.specs.declared.event.Event.{Event}
use Rattle.wdf_spans.specs.declared.begun.Begun.{Begun}
use Rattle.wdf_spans.specs.declared.born.Birth.{Birth}
use Rattle.wdf_spans.specs.declared.boxes.FrameBox.{FrameBox}
use Rattle.wdf_spans.specs.declared.requests.RequestSpan.{RequestSpan}
use Rattle.wdf_spans.specs.Starts.{begun_by, starts_from}
use Rattle.wdf_spans.specs.Births.{birth_by, births_from}

-- the list so far, and the item that an event gives
pub one_more : {A B : Type 0} (f : A → B) (xs : List A) (x : A) (ys zs : List B) (o : Option B) (b : B)
    → map f xs ≡ ys → zs ≡ ys ++ option_to_list o → o ≡ Some b → f x ≡ b → map f (xs ++ x ∷ []) ≡ zs
one_more f xs x ys zs o b so_far more given same = grind (arith, map-append f xs (x ∷ []), so_far, more, given, same)

-- the list so far, where an event gives no item
pub none_more : {A B : Type 0} (f : A → B) (xs : List A) (ys zs : List B) (o : Option B)
    → map f xs ≡ ys → zs ≡ ys ++ option_to_list o → o ≡ None → map f xs ≡ zs
none_more f xs ys zs o so_far more given = grind (arith, append-nil ys, so_far, more, given)

-- the starts of events with one more at the end
pub starts_from-append : (n : ℕ) (es : List Event) (e : Event) → starts_from n (es ++ e ∷ []) ≡ starts_from n es ++ option_to_list (begun_by (n + length es) e)
starts_from-append n [] e = grind arith
starts_from-append n (d ∷ es) e = grind (arith, append_assoc, starts_from-append (n + 1) es e)

-- the starts among the events up to a place, and that at it
pub starts_more : (es : List Event) (i : ℕ) (d : Event) → i < length es → starts_from 1 (take (i + 1) es) ≡ starts_from 1 (take i es) ++ option_to_list (begun_by (i + 1) (get_or es i d))
starts_more es i d h =
    let counted : length (take i es) ≡ i = length-take-le i es (omega (arith, h)) in
    grind (arith, take_more es i d h, counted, starts_from-append 1 (take i es) (get_or es i d))

-- the births of events with one more at the end
pub births_from-append : (n : ℕ) (es : List Event) (e : Event) → births_from n (es ++ e ∷ []) ≡ births_from n es ++ option_to_list (birth_by (n + length es) e)
births_from-append n [] e = grind arith
births_from-append n (d ∷ es) e = grind (arith, append_assoc, births_from-append (n + 1) es e)

-- the births among the events up to a place, and that at it
pub births_more : (es : List Event) (i : ℕ) (d : Event) → i < length es → births_from 1 (take (i + 1) es) ≡ births_from 1 (take i es) ++ option_to_list (birth_by (i + 1) (get_or es i d))
births_more es i d h =
    let counted : length (take i es) ≡ i = length-take-le i es (omega (arith, h)) in
    grind (arith, take_more es i d h, counted, births_from-append 1 (take i es) (get_or es i d))

-- the boxes so far, with that of a start
pub boxes_more : (es : List Event) (k : ℕ) (d : Event) (boxes : List FrameBox) (one : FrameBox) (b : Begun) → k < length es
    → map (λ b. b.begun) boxes ≡ starts_from 1 (take k es) → Some b ≡ begun_by (k + 1) (get_or es k d) → one.begun ≡ b
    → map (λ b. b.begun) (boxes ++ one ∷ []) ≡ starts_from 1 (take (k + 1) es)
boxes_more es k d boxes one b h so_far given same =
    one_more (λ b. b.begun) boxes one (starts_from 1 (take k es)) (starts_from 1 (take (k + 1) es)) (begun_by (k + 1) (get_or es k d)) b
    so_far (starts_more es k d h) (sym given) same

-- the spans so far, with that of a birth
pub spans_more : (es : List Event) (k : ℕ) (d : Event) (spans : List RequestSpan) (one : RequestSpan) (b : Birth) → k < length es
    → map (λ s. s.birth) spans ≡ births_from 1 (take k es) → Some b ≡ birth_by (k + 1) (get_or es k d) → one.birth ≡ b
    → map (λ s. s.birth) (spans ++ one ∷ []) ≡ births_from 1 (take (k + 1) es)
spans_more es k d spans one b h so_far given same =
    one_more (λ s. s.birth) spans one (births_from 1 (take k es)) (births_from 1 (take (k + 1) es)) (birth_by (k + 1) (get_or es k d)) b
    so_far (births_more es k d h) (sym given) same

-- the boxes so far, where an event is no start
pub boxes_same : (es : List Event) (k : ℕ) (d : Event) (boxes : List FrameBox) → k < length es
    → map (λ b. b.begun) boxes ≡ starts_from 1 (take k es) → None ≡ begun_by (k + 1) (get_or es k d)
    → map (λ b. b.begun) boxes ≡ starts_from 1 (take (k + 1) es)
boxes_same es k d boxes h so_far given =
    none_more (λ b. b.begun) boxes (starts_from 1 (take k es)) (starts_from 1 (take (k + 1) es)) (begun_by (k + 1) (get_or es k d)) so_far (starts_more es k d h) (sym given)

-- the spans so far, where an event brings no request into being
pub spans_same : (es : List Event) (k : ℕ) (d : Event) (spans : List RequestSpan) → k < length es
    → map (λ s. s.birth) spans ≡ births_from 1 (take k es) → None ≡ birth_by (k + 1) (get_or es k d)
    → map (λ s. s.birth) spans ≡ births_from 1 (take (k + 1) es)
spans_same es k d spans h so_far given =
    none_more (λ s. s.birth) spans (births_from 1 (take k es)) (births_from 1 (take (k + 1) es)) (birth_by (k + 1) (get_or es k d)) so_far (births_more es k d h) (sym given)
