-- Which line's only token is `trace`.
use Rattle.std.proofs.Common.{ℕ, ◌≡◌, ◌≢◌, ◌==◌, ◌&&◌, Bool, true, false, List, [], ◌∷◌, ◌++◌, length, drop, take, Some, None, refl, sym, ap, ◌∙◌, codes, slice_get, if◌then◌else◌}
use Rattle.std.proofs.lemmas.List.{take-append-drop}
use Rattle.std.proofs.lemmas.List.Sums.{take_while-cons}
use Rattle.std.proofs.lemmas.Slice.Eq.{bytes_eq-Decides}
use Rattle.std.specs.List.{list_all, take_while}
use Rattle.std.specs.Str.{bytes_eq}
use Rattle.wdf_tokens.specs.Tokens.{is_plain, is_blank}
use Rattle.wdf_split.specs.Inputs.{is_idle, is_mark, is_trace_alone, is_trace_first, is_within}

-- the bytes after the blanks
abbrev pub unblanked : List ℕ → List ℕ
unblanked text = drop (length (take_while is_blank text)) text

-- ---- blanks in front

unblanked_more : (b : ℕ) (bytes : List ℕ) → is_blank b ≡ true → unblanked (b ∷ bytes) ≡ unblanked bytes
unblanked_more b bytes is =
    let cut : take_while is_blank (b ∷ bytes) ≡ b ∷ take_while is_blank bytes = take_while-cons is_blank b bytes ∙ ap (λ t. if t then (b ∷ take_while is_blank bytes) else []) is in
    ap (λ w. drop (length w) (b ∷ bytes)) cut

unblanked_here : (b : ℕ) (bytes : List ℕ) → is_blank b ≡ false → unblanked (b ∷ bytes) ≡ b ∷ bytes
unblanked_here b bytes is =
    let cut : take_while is_blank (b ∷ bytes) ≡ [] = take_while-cons is_blank b bytes ∙ ap (λ t. if t then (b ∷ take_while is_blank bytes) else []) is in
    ap (λ w. drop (length w) (b ∷ bytes)) cut

-- ---- no token

-- no bytes, or a comment
abbrev idle_at : List ℕ → Bool
idle_at [] = true
idle_at (b ∷ bytes) = b == 35

pub idle_more : (b : ℕ) (bytes : List ℕ) → is_blank b ≡ true → is_idle (b ∷ bytes) ≡ is_idle bytes
idle_more b bytes is = ap (λ t. if t then is_idle bytes else b == 35) is

pub idle_here : (b : ℕ) (bytes : List ℕ) → is_blank b ≡ false → is_idle (b ∷ bytes) ≡ (b == 35)
idle_here b bytes is = ap (λ t. if t then is_idle bytes else b == 35) is

idle_by : (b : ℕ) (bytes : List ℕ) (test : Bool) → is_blank b ≡ test → is_idle bytes ≡ idle_at (unblanked bytes) → is_idle (b ∷ bytes) ≡ idle_at (unblanked (b ∷ bytes))
idle_by b bytes true is rest = idle_more b bytes is ∙ rest ∙ ap idle_at (sym (unblanked_more b bytes is))
idle_by b bytes false is rest = idle_here b bytes is ∙ ap idle_at (sym (unblanked_here b bytes is))

idle_is : (text : List ℕ) → is_idle text ≡ idle_at (unblanked text)
idle_is [] = refl
idle_is (b ∷ bytes) = idle_by b bytes (is_blank b) refl (idle_is bytes)

idle_there : (rest : List ℕ) (first : ℕ) → slice_get rest 0 ≡ Some first → (first == 35) ≡ idle_at rest
idle_there [] first here = absurd (let z : ⊥ = cc in z)
idle_there (b ∷ bytes) first here = let same : b ≡ first = cc in ap (λ x. x == 35) (sym same)

-- a first byte after the blanks is a comment's mark exactly where there is no token
pub idle_first : (text : List ℕ) (first : ℕ) → slice_get (unblanked text) 0 ≡ Some first → (first == 35) ≡ is_idle text
idle_first text first here = idle_there (unblanked text) first here ∙ sym (idle_is text)

idle_empty : (rest : List ℕ) → slice_get rest 0 ≡ None → true ≡ idle_at rest
idle_empty [] here = refl
idle_empty (b ∷ bytes) here = absurd (let z : ⊥ = cc in z)

pub idle_none : (text : List ℕ) → slice_get (unblanked text) 0 ≡ None → true ≡ is_idle text
idle_none text here = idle_empty (unblanked text) here ∙ sym (idle_is text)

-- ---- the word

abbrev trace_at : List ℕ → Bool
trace_at [] = false
trace_at (b ∷ bytes) = is_trace_first (b ∷ bytes)

pub alone_more : (b : ℕ) (bytes : List ℕ) → is_blank b ≡ true → is_trace_alone (b ∷ bytes) ≡ is_trace_alone bytes
alone_more b bytes is = ap (λ t. if t then is_trace_alone bytes else is_trace_first (b ∷ bytes)) is

pub alone_here : (b : ℕ) (bytes : List ℕ) → is_blank b ≡ false → is_trace_alone (b ∷ bytes) ≡ is_trace_first (b ∷ bytes)
alone_here b bytes is = ap (λ t. if t then is_trace_alone bytes else is_trace_first (b ∷ bytes)) is

alone_by : (b : ℕ) (bytes : List ℕ) (test : Bool) → is_blank b ≡ test → is_trace_alone bytes ≡ trace_at (unblanked bytes) → is_trace_alone (b ∷ bytes) ≡ trace_at (unblanked (b ∷ bytes))
alone_by b bytes true is rest = alone_more b bytes is ∙ rest ∙ ap trace_at (sym (unblanked_more b bytes is))
alone_by b bytes false is rest = alone_here b bytes is ∙ ap trace_at (sym (unblanked_here b bytes is))

alone_is : (text : List ℕ) → is_trace_alone text ≡ trace_at (unblanked text)
alone_is [] = refl
alone_is (b ∷ bytes) = alone_by b bytes (is_blank b) refl (alone_is bytes)

-- the word after the blanks is alone exactly where no token is after it
pub trace_there : (text rest : List ℕ) → unblanked text ≡ codes "trace" ++ rest → is_idle rest ≡ is_trace_alone text
trace_there text rest here = sym (alone_is text ∙ ap trace_at here)

other_word : (b : ℕ) (bytes : List ℕ) (test : Bool) → bytes_eq (take 5 (b ∷ bytes)) (codes "trace") ≡ test → ((rest : List ℕ) → b ∷ bytes ≢ codes "trace" ++ rest) → false ≡ is_trace_first (b ∷ bytes)
other_word b bytes true is other =
    let word : take 5 (b ∷ bytes) ≡ codes "trace" = (bytes_eq-Decides (take 5 (b ∷ bytes)) (codes "trace")).0 is in
    absurd (other (drop 5 (b ∷ bytes)) (sym (take-append-drop 5 (b ∷ bytes)) ∙ ap (λ w. w ++ drop 5 (b ∷ bytes)) word))
other_word b bytes false is other = sym (ap (λ t. t && is_idle (drop 5 (b ∷ bytes))) is)

other_at : (rest : List ℕ) → ((more : List ℕ) → rest ≢ codes "trace" ++ more) → false ≡ trace_at rest
other_at [] other = refl
other_at (b ∷ bytes) other = other_word b bytes (bytes_eq (take 5 (b ∷ bytes)) (codes "trace")) refl other

pub no_trace_there : (text : List ℕ) → ((rest : List ℕ) → unblanked text ≢ codes "trace" ++ rest) → false ≡ is_trace_alone text
no_trace_there text other = other_at (unblanked text) other ∙ sym (alone_is text)

-- ---- a whole line

pub mark_plain : (line : List ℕ) (answer : Bool) → list_all is_plain (take_while is_within line) ≡ true → answer ≡ is_trace_alone (take_while is_within line) → answer ≡ is_mark line
unfolding is_mark
mark_plain line answer is same = same ∙ sym (ap (λ t. t && is_trace_alone (take_while is_within line)) is)

pub mark_foreign : (line : List ℕ) → list_all is_plain (take_while is_within line) ≡ false → false ≡ is_mark line
unfolding is_mark
mark_foreign line is = sym (ap (λ t. t && is_trace_alone (take_while is_within line)) is)
