-- What a source gives and what a sink gains over several calls.
use Rattle.std.proofs.Common.{ℕ, ◌≡◌, ◌+◌, ◌-◌, ◌≤◌, List, [], ◌++◌, length, take, drop, append_assoc, arith, length-drop, length-append, length-take-le, ap, ◌∙◌, sym, refl}
use Rattle.std.specs.Prelude.{Option, None, Some, ◌↔◌, IfSome}
use Rattle.std.specs.Io.KnownBytes.{Keeps, Consumes, Appends, IsAtEnd}
use Rattle.std.proofs.Math.Seq.{take-add}
use Rattle.std.proofs.lemmas.List.{take_rest, append-nil}
use Rattle.wdf_io.specs.Outside.{Gains, Takes}

-- two gains in a row are one gain of both
pub gains_both : (old middle new : Option (List ℕ)) (a b : List ℕ) → Gains old middle a → Gains middle new b → Gains old new (a ++ b)
gains_both None middle new a b first second = tt
gains_both (Some x) None new a b first second = absurd first
gains_both (Some x) (Some y) None a b first second = absurd second
gains_both (Some x) (Some y) (Some z) a b first second = second ∙ ap (λ s. s ++ b) first ∙ append_assoc x a b

-- after a front of the piece, a front of what is left of it
pub gains_front : (old middle new : Option (List ℕ)) (piece : List ℕ) (done count : ℕ)
    → Gains old middle (take done piece) → Gains middle new (take count (take (length piece - done) (drop done piece)))
    → Gains old new (take (done + count) piece)
gains_front old middle new piece done count first second =
    rw take-add (gains_both old middle new (take done piece) (take count (drop done piece)) first (rw take_rest at second))

-- a front of what is left stays within the piece
pub front_within : (piece : List ℕ) (done count : ℕ) → done ≤ length piece
    → count ≤ length (take (length piece - done) (drop done piece)) → done + count ≤ length piece
front_within piece done count within small = omega (arith, rw take_rest at small, length-drop done piece)

-- what isn't touched stays
pub keeps_same : (bytes : Option (List ℕ)) → Keeps bytes bytes
keeps_same None = tt
keeps_same (Some x) = refl

-- a gain, and then nothing
pub gains_kept : (old middle new : Option (List ℕ)) (a : List ℕ) → Gains old middle a → Keeps middle new → Gains old new a
gains_kept None middle new a first second = tt
gains_kept (Some x) None new a first second = absurd first
gains_kept (Some x) (Some y) None a first second = absurd second
gains_kept (Some x) (Some y) (Some z) a first second = second ∙ first

-- bytes were taken, and then none
pub takes_kept : (old middle new : Option (List ℕ)) (a : List ℕ) → Takes old middle a → Keeps middle new → Takes old new a
takes_kept None middle new a first second = tt
takes_kept (Some x) None new a first second = absurd first
takes_kept (Some x) (Some y) None a first second = absurd second
takes_kept (Some x) (Some y) (Some z) a first second = first ∙ ap (λ s. a ++ s) (sym second)

-- a reader that says what is left gives nothing exactly where nothing is left
pub end_of_reader : (old new : Option (List ℕ)) (buf : List ℕ) (n : ℕ) → Consumes old new (take n buf) → (n ≡ 0 → IsAtEnd new) → n ≤ length buf
    → IfSome old (λ bytes. (n ≡ 0) ↔ (bytes ≡ []))
end_of_reader None new buf n consumed ends within = tt
end_of_reader (Some left) None buf n consumed ends within = absurd consumed
end_of_reader (Some left) (Some rest) buf n consumed ends within = (
  λ none. let empty : rest ≡ [] = ends none in rw (none, empty) at consumed,
  λ nothing. omega (arith, ap length consumed, ap length nothing, length-append (take n buf) rest, length-take-le n buf within),
)

-- a writer that took no byte keeps what it has
pub nothing_taken : (old new : Option (List ℕ)) (piece : List ℕ) (n : ℕ) → Appends old new (take n piece) → n ≡ 0 → Keeps old new
nothing_taken None new piece n appended none = tt
nothing_taken (Some x) None piece n appended none = absurd appended
nothing_taken (Some x) (Some y) piece n appended none = (rw none at appended) ∙ append-nil x
