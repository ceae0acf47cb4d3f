-- One event more in a walk over the pieces of a band.
use Rattle.std.proofs.Common.{◌≡◌, ℕ, ◌+◌, ◌<◌, ◌≤◌, List, [], ◌∷◌, ◌++◌, length, get_or, drop, append_assoc, arith, Some, None}
use Rattle.std.proofs.lemmas.List.{drop_more, drop_all}
use Rattle.wdf_base.specs.declared.event.Event.{Event}
use Rattle.wdf_spans.specs.declared.bands.BandOf.{BandOf}
use Rattle.wdf_spans.specs.declared.bands.BandPiece.{BandPiece}
use Rattle.wdf_spans.specs.declared.bands.Standing.{Standing}
use Rattle.wdf_spans.specs.Bands.{next, piece, pieces_from}

-- an event from which on something else holds
pub pieces_more : (of : BandOf) (done whole : List BandPiece) (one : BandPiece) (s t after : Standing) (since from k : ℕ) (es : List Event) (d : Event) → k < length es
    → done ++ pieces_from of s since k (drop k es) ≡ whole → Some t ≡ next of s (get_or es k d)
    → one ≡ piece s since k → after ≡ t → from ≡ k
    → (done ++ one ∷ []) ++ pieces_from of after from (k + 1) (drop (k + 1) es) ≡ whole
pieces_more of done whole one s t after since from k es d h so_far given ended turned here =
    grind (arith, append_assoc, drop_more es k d h, so_far, given, ended, turned, here)

-- an event that leaves what holds
pub pieces_same : (of : BandOf) (done whole : List BandPiece) (s after : Standing) (since from k : ℕ) (es : List Event) (d : Event) → k < length es
    → done ++ pieces_from of s since k (drop k es) ≡ whole → None ≡ next of s (get_or es k d)
    → after ≡ s → from ≡ since
    → done ++ pieces_from of after from (k + 1) (drop (k + 1) es) ≡ whole
pieces_same of done whole s after since from k es d h so_far given same here =
    grind (arith, append_assoc, drop_more es k d h, so_far, given, same, here)

-- no event is left
pub pieces_end : (of : BandOf) (done whole : List BandPiece) (s : Standing) (since k : ℕ) (es : List Event) → length es ≤ k
    → done ++ pieces_from of s since k (drop k es) ≡ whole → done ++ piece s since k ∷ [] ≡ whole
pieces_end of done whole s since k es h so_far = grind (arith, drop_all k es h, so_far)
