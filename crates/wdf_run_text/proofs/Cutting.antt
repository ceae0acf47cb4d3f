-- A trace is cut into its lines, one after the other.
use Rattle.std.proofs.Common.{◌≡◌, ℕ, suc, ◌+◌, ◌<◌, ◌≤◌, ◌==◌, List, [], ◌∷◌, ◌++◌, length, get_or, drop, take, Bool, true, false, refl, ap, ◌∙◌, sym, subst, arith, drop-cons, drop-drop, append_assoc, append-nil}
use Rattle.std.specs.Prelude.{slice_index_or}
use Rattle.std.proofs.lemmas.Bool.{eq-eqb, ne_eqb}
use Rattle.std.proofs.lemmas.List.{drop_all, take_all, take_more}
use Rattle.wdf_run_text.specs.Lines.{with_byte, trace_lines, first_line, joined_lines}

-- the first line of some bytes, and the lines after it
abbrev BeginsWith : List ℕ → List ℕ → Type 0
BeginsWith bytes line = trace_lines bytes ≡ line ∷ trace_lines (drop (length line) bytes)

begins_with_byte : (b c : ℕ) (rest line : List ℕ) → (b == 10) ≡ false → BeginsWith (c ∷ rest) line → BeginsWith (b ∷ c ∷ rest) (b ∷ line)
begins_with_byte b c rest line inside after = rw inside (ap (with_byte b) after)

begins_by : (b : ℕ) (rest : List ℕ) (test : Bool) → (b == 10) ≡ test
    → ((b == 10) ≡ false → BeginsWith (b ∷ rest) (b ∷ first_line rest)) → BeginsWith (b ∷ rest) (first_line (b ∷ rest))
begins_by b rest true is inside = rw is refl
begins_by b rest false is inside = rw is (rw is at (inside is))

begins : (b : ℕ) (rest : List ℕ) → BeginsWith (b ∷ rest) (first_line (b ∷ rest))
begins b [] = begins_by b [] (b == 10) refl (λ inside. rw inside refl)
begins b (c ∷ rest) = begins_by b (c ∷ rest) (b == 10) refl (λ inside. begins_with_byte b c rest (first_line (c ∷ rest)) inside (begins c rest))

-- the line at a place, and the lines after it
pub line_there : (trace : List ℕ) (at : ℕ) → at < length trace
    → trace_lines (drop at trace) ≡ first_line (drop at trace) ∷ trace_lines (drop (at + length (first_line (drop at trace))) trace)
line_there trace at inside =
    let cut : drop at trace ≡ get_or trace at 0 ∷ drop (suc at) trace = drop-cons trace at 0 inside in
    let P : List ℕ → Type 0 = λ bytes. BeginsWith bytes (first_line bytes) in
    let here : BeginsWith (drop at trace) (first_line (drop at trace)) = subst P (sym cut) (begins (get_or trace at 0) (drop (suc at) trace)) in
    here ∙ ap (λ bytes. first_line (drop at trace) ∷ trace_lines bytes) (drop-drop (length (first_line (drop at trace))) at trace)

with_byte_joined : (b : ℕ) (lines : List (List ℕ)) → joined_lines (with_byte b lines) ≡ b ∷ joined_lines lines
with_byte_joined b [] = refl
with_byte_joined b (line ∷ lines) = refl

joined_by : (b : ℕ) (bytes : List ℕ) (test : Bool) → (b == 10) ≡ test → joined_lines (trace_lines bytes) ≡ bytes → joined_lines (trace_lines (b ∷ bytes)) ≡ b ∷ bytes
joined_by b bytes true is rest = rw is (ap (λ t. b ∷ t) rest)
joined_by b bytes false is rest = rw is (with_byte_joined b (trace_lines bytes) ∙ ap (λ t. b ∷ t) rest)

-- the lines of a trace make it up
pub lines_join : (trace : List ℕ) → joined_lines (trace_lines trace) ≡ trace
lines_join [] = refl
lines_join (b ∷ bytes) = joined_by b bytes (b == 10) refl (lines_join bytes)

-- ---- the first line, byte by byte

-- no line feed is among the bytes before this place
pub record IsInside (trace : List ℕ) (k : ℕ) : Type 0 where
  pub opens : first_line trace ≡ take k trace ++ first_line (drop k trace)

pub inside_opens : (trace : List ℕ) → IsInside trace 0
inside_opens trace = record { opens = refl }

first_by : (b : ℕ) (rest : List ℕ) → (b == 10) ≡ false → first_line (b ∷ rest) ≡ b ∷ first_line rest
first_by b rest no_feed = rw no_feed refl

pub inside_goes_on : (trace : List ℕ) (k : ℕ) → k < length trace → (slice_index_or trace k 0 ≡ 10 → ⊥) → IsInside trace k → IsInside trace (k + 1)
inside_goes_on trace k within no_feed before =
    let b : ℕ = slice_index_or trace k 0 in
    let cut : drop k trace ≡ slice_index_or trace k 0 ∷ drop (suc k) trace = drop-cons trace k 0 within in
    let e : k + 1 ≡ suc k = omega arith in
    record {
      opens =
          before.opens
          ∙ ap (λ bytes. take k trace ++ first_line bytes) cut
          ∙ ap (λ l. take k trace ++ l) (first_by (slice_index_or trace k 0) (drop (suc k) trace) (ne_eqb (slice_index_or trace k 0) 10 no_feed))
          ∙ sym (append_assoc (take k trace) (slice_index_or trace k 0 ∷ []) (first_line (drop (suc k) trace)))
          ∙ ap (λ l. l ++ first_line (drop (suc k) trace)) (sym (take_more trace k 0 within))
          ∙ ap (λ n. take (k + 1) trace ++ first_line (drop n trace)) (sym e);
    }

ends_by : (b : ℕ) (rest : List ℕ) → (b == 10) ≡ true → first_line (b ∷ rest) ≡ b ∷ []
ends_by b rest is = rw is refl

pub inside_ends : (trace : List ℕ) (k : ℕ) → k < length trace → slice_index_or trace k 0 ≡ 10 → IsInside trace k → first_line trace ≡ take (k + 1) trace
inside_ends trace k within feed before =
    let cut : drop k trace ≡ slice_index_or trace k 0 ∷ drop (suc k) trace = drop-cons trace k 0 within in
    before.opens
    ∙ ap (λ bytes. take k trace ++ first_line bytes) cut
    ∙ ap (λ l. take k trace ++ l) (ends_by (slice_index_or trace k 0) (drop (suc k) trace) (eq-eqb (slice_index_or trace k 0) 10 feed))
    ∙ sym (take_more trace k 0 within)

pub inside_whole : (trace : List ℕ) (k : ℕ) → length trace ≤ k → IsInside trace k → first_line trace ≡ trace
inside_whole trace k past before =
    before.opens
    ∙ ap (λ bytes. take k trace ++ first_line bytes) (drop_all k trace past)
    ∙ append-nil (take k trace)
    ∙ take_all k trace past
