-- Lemmas on what a sink gains, and on the lines of a run.
use Rattle.std.proofs.Common.{ℕ, zero, suc, ◌≡◌, ◌+◌, ◌<◌, ◌≤◌, List, [], ◌∷◌, ◌++◌, length, take, Option, Some, None, ◌⊎◌, inl, inr, refl, sym, ap, subst, ◌∙◌, arith, codes, length-append, append_assoc, slice_get, le_of_lt}
use Rattle.std.proofs.lemmas.List.{append-nil, take-append-le}
use Rattle.std.proofs.Math.Seq.{take-append-add}
use Rattle.wdf_base.specs.declared.plan.Plan.{Plan}
use Rattle.wdf_base.specs.declared.event.Event.{Event}
use Rattle.wdf_base.specs.declared.wait.WaitLine.{WaitLine}
use Rattle.wdf_io.specs.Outside.{Gains, Rose}
use Rattle.wdf_lines.specs.Endings.{wait_text, wait_lines}
use Rattle.wdf_lines.specs.Lines.{line_text, lines_from}
use Rattle.wdf_output.specs.Said.{Adds, IsCutShort, Sinking}

-- two gains, one after the other
pub gains_more : (a b c : Option (List ℕ)) (xs ys : List ℕ) → Gains a b xs → Gains b c ys → Gains a c (xs ++ ys)
gains_more None b c xs ys p q = tt
gains_more (Some a) None c xs ys p q = absurd p
gains_more (Some a) (Some b) None xs ys p q = absurd q
gains_more (Some a) (Some b) (Some c) xs ys p q = q ∙ rw (p, append_assoc) refl

-- nothing is gained
pub gains_nothing : (a : Option (List ℕ)) → Gains a a []
gains_nothing None = tt
gains_nothing (Some a) = sym (append-nil a)

-- a front of what comes after a text is a front of both
pub front_behind : (xs ys zs : List ℕ) (n : ℕ) → n ≤ length ys → take (length xs + n) ((xs ++ ys) ++ zs) ≡ xs ++ take n ys
front_behind xs ys zs n h =
    rw (append_assoc, take-append-add xs (ys ++ zs) n, take-append-le n ys zs h) refl

-- nothing was added to a page
pub adds_nothing : (a : Option (List ℕ)) (page : List ℕ) → Adds a a page page []
adds_nothing a page = record { out = []; gained = gains_nothing a; is = sym (append-nil page) }

-- what comes behind a text comes behind the page, too
is_behind : (out page old xs ys : List ℕ) → out ++ page ≡ old ++ xs → out ++ (page ++ ys) ≡ old ++ (xs ++ ys)
is_behind out page old xs ys e = sym (append_assoc out page ys) ∙ ap (λ zs. zs ++ ys) e ∙ append_assoc old xs ys

adds_behind : (a b : Option (List ℕ)) (old page xs ys : List ℕ) → Adds a b old page xs → Adds a b old (page ++ ys) (xs ++ ys)
adds_behind a b old page xs ys p = record { out = p.out; gained = p.gained; is = is_behind p.out page old xs ys p.is }

-- two texts were added to a page, one after the other
pub adds_more : (a b c : Option (List ℕ)) (first page last xs ys : List ℕ) → Adds a b first page xs → Adds b c page last ys
    → Adds a c first last (xs ++ ys)
adds_more a b c first page last xs ys p q = record {
  out = p.out ++ q.out;
  gained = gains_more a b c p.out q.out p.gained q.gained;
  is = append_assoc p.out q.out last ∙ ap (λ zs. p.out ++ zs) q.is ∙ is_behind p.out page first xs ys p.is;
}

-- the lines of the first events and of the next one
pub lines_next : (plan : Plan) (events : List Event) (event : Event) (n k : ℕ) → slice_get events k ≡ Some event
    → lines_from plan n (take (suc k) events) ≡ lines_from plan n (take k events) ++ (line_text plan (n + k) event ++ codes "\n")
lines_next plan [] event n k h = absurd (let z : ⊥ = cc in z)
lines_next plan (e ∷ es) event n zero h =
    let same : e ≡ event = cc in
    let first : n + 0 ≡ n = omega arith in
    rw (same, first, append-nil (line_text plan n event ++ codes "\n")) refl
lines_next plan (e ∷ es) event n (suc k) h =
    let more : lines_from plan (n + 1) (take (suc k) es) ≡ lines_from plan (n + 1) (take k es) ++ (line_text plan (n + 1 + k) event ++ codes "\n") = lines_next plan es event (n + 1) k h in
    let number : n + suc k ≡ n + 1 + k = omega arith in
    rw (number, more) (sym (append_assoc (line_text plan n e ++ codes "\n") (lines_from plan (n + 1) (take k es)) _))

-- the lines of the first events, and of the rest
pub lines_split : (plan : Plan) (events : List Event) (n k : ℕ) → (rest : List ℕ) × (lines_from plan n events ≡ lines_from plan n (take k events) ++ rest)
lines_split plan events n zero = (lines_from plan n events, refl)
lines_split plan [] n (suc k) = ([], refl)
lines_split plan (e ∷ es) n (suc k) =
    let p : (rest : List ℕ) × (lines_from plan (n + 1) es ≡ lines_from plan (n + 1) (take k es) ++ rest) = lines_split plan es (n + 1) k in
    (p.0, rw p.1 (sym (append_assoc (line_text plan n e ++ codes "\n") (lines_from plan (n + 1) (take k es)) p.0)))

-- the lines of one event more
pub lines_more : (plan : Plan) (events : List Event) (event : Event) (k : ℕ) → slice_get events k ≡ Some event
    → lines_from plan 1 (take (k + 1) events) ≡ lines_from plan 1 (take k events) ++ (line_text plan (k + 1) event ++ codes "\n")
lines_more plan events event k h =
    let here : suc k ≡ k + 1 = omega arith in
    let number : 1 + k ≡ k + 1 = omega arith in
    let numbered : lines_from plan 1 (take (suc k) events) ≡ lines_from plan 1 (take k events) ++ (line_text plan (k + 1) event ++ codes "\n") =
    subst (λ (n : ℕ). lines_from plan 1 (take (suc k) events) ≡ lines_from plan 1 (take k events) ++ (line_text plan n event ++ codes "\n")) number (lines_next plan events event 1 k h) in
    subst (λ (n : ℕ). lines_from plan 1 (take n events) ≡ lines_from plan 1 (take k events) ++ (line_text plan (k + 1) event ++ codes "\n")) here numbered

-- the first lines of a wait list and the next one
waits_next : (plan : Plan) (waits : List WaitLine) (wait : WaitLine) (k : ℕ) → slice_get waits k ≡ Some wait
    → wait_lines plan (take (suc k) waits) ≡ wait_lines plan (take k waits) ++ (wait_text plan wait ++ codes "\n")
waits_next plan [] wait k h = absurd (let z : ⊥ = cc in z)
waits_next plan (w ∷ ws) wait zero h =
    let same : w ≡ wait = cc in
    rw (same, append-nil (wait_text plan wait ++ codes "\n")) refl
waits_next plan (w ∷ ws) wait (suc k) h =
    rw (waits_next plan ws wait k h) (sym (append_assoc (wait_text plan w ++ codes "\n") (wait_lines plan (take k ws)) _))

-- the first lines of a wait list, and the rest
pub waits_split : (plan : Plan) (waits : List WaitLine) (k : ℕ) → (rest : List ℕ) × (wait_lines plan waits ≡ wait_lines plan (take k waits) ++ rest)
waits_split plan waits zero = (wait_lines plan waits, refl)
waits_split plan [] (suc k) = ([], refl)
waits_split plan (w ∷ ws) (suc k) =
    let p : (rest : List ℕ) × (wait_lines plan ws ≡ wait_lines plan (take k ws) ++ rest) = waits_split plan ws k in
    (p.0, rw p.1 (sym (append_assoc (wait_text plan w ++ codes "\n") (wait_lines plan (take k ws)) p.0)))

-- the lines of a wait list with one line more
pub waits_more : (plan : Plan) (waits : List WaitLine) (wait : WaitLine) (k : ℕ) → slice_get waits k ≡ Some wait
    → wait_lines plan (take (k + 1) waits) ≡ wait_lines plan (take k waits) ++ (wait_text plan wait ++ codes "\n")
waits_more plan waits wait k h =
    let here : suc k ≡ k + 1 = omega arith in
    subst (λ (n : ℕ). wait_lines plan (take n waits) ≡ wait_lines plan (take k waits) ++ (wait_text plan wait ++ codes "\n")) here (waits_next plan waits wait k h)

-- below, or the same
le_cases : (a b : ℕ) → a ≤ b → (a < b) ⊎ (a ≡ b)
le_cases zero zero h = inr refl
le_cases zero (suc b) h = inl (omega arith)
le_cases (suc a) zero h = absurd (omega arith)
le_cases (suc a) (suc b) h =
    elim (le_cases a b (omega arith)) [
      | inl below ↦ let b : a < b = below in inl (omega arith)
      | inr same ↦ inr (ap suc same)
    ]

-- a count that rose in a later call rose
rose_later : (first before after : ℕ) → first ≤ before → before ≤ after → Rose before after → Rose first after
rose_later first before after low high (inl rose) = inl (omega (arith, rose))
rose_later first before after low high (inr last) =
    elim (le_cases first before low) [
      | inl below ↦ let b : first < before = below in inl (omega arith)
      | inr same ↦ inr (same ∙ last)
    ]

-- a text whose front was written, and whose next piece was cut short, was cut short
pub cut_behind : (a b c : Option (List ℕ)) (first before after : ℕ) (front piece rest text : List ℕ)
    → Gains a b front → first ≤ before → before ≤ after
    → IsCutShort (record { before = b; after = c; faults_before = before; faults_after = after }) piece
    → text ≡ (front ++ piece) ++ rest
    → IsCutShort (record { before = a; after = c; faults_before = first; faults_after = after }) text
cut_behind a b c first before after front piece rest text gained low high cut text_is = record {
  rose = rose_later first before after low high cut.rose;
  size = length front + cut.size;
  within = omega (arith, ap length text_is, length-append (front ++ piece) rest, length-append front piece, cut.within);
  front = rw (text_is, front_behind front piece rest cut.size (le_of_lt cut.within)) (gains_more a b c front (take cut.size piece) gained cut.front);
}

-- a text of which a front was cut short was cut short
pub cut_longer : (s : Sinking) (xs ys : List ℕ) → IsCutShort s xs → IsCutShort s (xs ++ ys)
cut_longer s xs ys cut = record {
  rose = cut.rose;
  size = cut.size;
  within = omega (arith, length-append xs ys, cut.within);
  front = rw (take-append-le cut.size xs ys (le_of_lt cut.within)) cut.front;
}

-- a text was added to a page, and that was cut short
pub page_cut : (a b c : Option (List ℕ)) (first before after : ℕ) (old page text : List ℕ)
    → Adds a b old page text → first ≤ before → before ≤ after
    → IsCutShort (record { before = b; after = c; faults_before = before; faults_after = after }) page
    → IsCutShort (record { before = a; after = c; faults_before = first; faults_after = after }) (old ++ text)
page_cut a b c first before after old page text p low high cut =
    cut_behind a b c first before after p.out page [] (old ++ text) p.gained low high cut (sym p.is ∙ sym (append-nil (p.out ++ page)))

-- a text was added to a page, and that was cut short with what comes behind it
pub later_cut : (a b c : Option (List ℕ)) (first before after : ℕ) (old page xs ys : List ℕ)
    → Adds a b old page xs → first ≤ before → before ≤ after
    → IsCutShort (record { before = b; after = c; faults_before = before; faults_after = after }) (page ++ ys)
    → IsCutShort (record { before = a; after = c; faults_before = first; faults_after = after }) (old ++ (xs ++ ys))
later_cut a b c first before after old page xs ys p low high cut =
    page_cut a b c first before after old (page ++ ys) (xs ++ ys) (adds_behind a b old page xs ys p) low high cut

-- all events
pub all_lines : (plan : Plan) (events : List Event) (n k : ℕ) → length events ≡ k → lines_from plan n (take k events) ≡ lines_from plan n events
all_lines plan [] n k e = let zero_is : k ≡ 0 = sym e in rw zero_is refl
all_lines plan (x ∷ xs) n zero e = absurd (omega arith)
all_lines plan (x ∷ xs) n (suc k) e = ap (λ ls. (line_text plan n x ++ codes "\n") ++ ls) (all_lines plan xs (n + 1) k (omega arith))
