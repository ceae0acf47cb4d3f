-- A trace has one verdict.
use Rattle.std.proofs.Common.{◌≡◌, ◌⊎◌, inl, inr, ℕ, suc, ◌+◌, ◌<◌, ◌≤◌, ◌^◌, Bool, true, false, nat_lt, List, [], ◌∷◌, ◌++◌, length, take, Some, refl, ap, ◌∙◌, sym, subst, arith, slice_get, append_assoc, append-nil, length-append}
use Rattle.std.proofs.lemmas.Bool.{ltb-true, ltb-false}
use Rattle.std.proofs.lemmas.List.{append_cancel_left, length-take-le}
use Rattle.wdf_base.specs.Meaning.{Meaning}
use Rattle.wdf_base.specs.Resolved.{IsResolved}
use Rattle.wdf_base.specs.declared.plan.Plan.{Plan}
use Rattle.wdf_base.specs.declared.event.Event.{Event}
use Rattle.wdf_base.specs.declared.event.Ending.{Ending}
use Rattle.wdf_base.specs.declared.event.Ending.TheVariants as ending
use Rattle.wdf_model.specs.rules.Ready.{IsRunOf}
use Rattle.wdf_model.proofs.Runs.{slice_get-append-left, slice_get-append-right, slice_get-take}
use Rattle.wdf_lines.specs.Lines.{line_text}
use Rattle.wdf_trace.specs.Events.{IsEventOf}
use Rattle.wdf_run_text.specs.Lines.{fed, trace_lines}
use Rattle.wdf_run_text.specs.Texts.{event_lines, end_lines, lines_so_far, HasEventsOf}
use Rattle.wdf_replay.specs.declared.verdict.Why.{Why}
use Rattle.wdf_replay.specs.declared.verdict.Why.TheVariants as why
use Rattle.wdf_replay.specs.declared.verdict.Verdict.TheVariants as verdict
use Rattle.wdf_replay.specs.Verdicts.{IsAccepted, IsBad, IsBadFor, IsEventText, IsRefused, IsWhole}
use Rattle.wdf_replay.proofs.RunLines.{fed_once, length-event_lines, no_end_lines, runs_on}
use Rattle.wdf_replay.proofs.Complete.{at_front, complete, few, follows, next_is_good, same_line}
use Rattle.law_replay.specs.Claims.{HasOneVerdict}

-- ---- two lists of events that give the same lines: one goes on from the other

valid_first : (plan : Plan) (e : Event) (es : List Event) → HasEventsOf plan (e ∷ es) → IsEventOf plan e
valid_first plan e es h = h e (0, refl)

valid_rest : (plan : Plan) (e : Event) (es : List Event) → HasEventsOf plan (e ∷ es) → HasEventsOf plan es
valid_rest plan e es h event among = h event (suc among.0, among.1)

head_same : (k l : List ℕ) (ks ls : List (List ℕ)) → k ∷ ks ≡ l ∷ ls → k ≡ l
head_same k l ks ls h = cc

rest_same : (k l : List ℕ) (ks ls : List (List ℕ)) → k ∷ ks ≡ l ∷ ls → ks ≡ ls
rest_same k l ks ls h = cc

abbrev GoesOn : List Event → List Event → Type 0
GoesOn a b = (more : List Event) × (b ≡ a ++ more)

one_goes_on : (plan : Plan) → IsResolved plan → (n : ℕ) (a b : List Event) (x y : List (List ℕ)) → HasEventsOf plan a → HasEventsOf plan b → n + length a < 2 ^ 64
    → event_lines plan n a ++ x ≡ event_lines plan n b ++ y → GoesOn a b ⊎ GoesOn b a
one_goes_on plan h n [] b x y valid_a valid_b small same = inl (b, refl)
one_goes_on plan h n (e ∷ es) [] x y valid_a valid_b small same = inr (e ∷ es, refl)
one_goes_on plan h n (e ∷ es) (f ∷ fs) x y valid_a valid_b small same =
    let fits : n < 2 ^ 64 = omega (arith, small) in
    let texts : line_text plan n e ≡ line_text plan n f = fed_once (line_text plan n e) (line_text plan n f) (head_same _ _ _ _ same) in
    let one : e ≡ f = (same_line plan h n n e f fits fits (valid_first plan e es valid_a) (valid_first plan f fs valid_b) texts).1 in
    let deeper = one_goes_on plan h (n + 1) es fs x y (valid_rest plan e es valid_a) (valid_rest plan f fs valid_b) (omega (arith, small)) (rest_same _ _ _ _ same) in
    elim deeper [
      | inl on ↦ inl (on.0, ap (λ z. z ∷ fs) (sym one) ∙ ap (λ z. e ∷ z) on.1)
      | inr on ↦ inr (on.0, ap (λ z. z ∷ es) one ∙ ap (λ z. f ∷ z) on.1)
    ]

-- ---- lines of a run so far that a trace begins with

record IsBegun {A : Type 0} (plan : Plan) (m : Meaning A) (trace : List ℕ) (run : List Event) (told : ℕ) (left : List (List ℕ)) : Type 0 where
  is_run : IsRunOf plan m run
  valid : HasEventsOf plan run
  limited : length run ≤ plan.limit
  within : told ≤ length (end_lines plan m run)
  good : trace_lines trace ≡ lines_so_far plan m run told ++ left

begun : {A : Type 0} (plan : Plan) (m : Meaning A) (trace : List ℕ) (line : ℕ) (y : Why) (r : IsRefused plan m trace line y) → IsBegun plan m trace r.run r.told r.left
begun plan m trace line y r = record { is_run = r.is_run; valid = r.valid; limited = r.limited; within = r.within; good = r.good }

-- the lines of the two, put side by side
beside : {A : Type 0} (plan : Plan) (m : Meaning A) (trace : List ℕ) (r s : List Event) (j k : ℕ) (x y : List (List ℕ)) → IsBegun plan m trace r j x → IsBegun plan m trace s k y
    → event_lines plan 1 r ++ (take j (end_lines plan m r) ++ x) ≡ event_lines plan 1 s ++ (take k (end_lines plan m s) ++ y)
beside plan m trace r s j k x y a b =
    sym (append_assoc (event_lines plan 1 r) (take j (end_lines plan m r)) x)
    ∙ sym a.good ∙ b.good
    ∙ append_assoc (event_lines plan 1 s) (take k (end_lines plan m s)) y

-- the place of a list that is just past these
just_past : (lines : List (List ℕ)) (line : List ℕ) (rest : List (List ℕ)) → slice_get (lines ++ line ∷ rest) (length lines) ≡ Some line
just_past lines line rest =
    let z : length lines + 0 ≡ length lines = omega arith in
    ap (λ i. slice_get (lines ++ line ∷ rest) i) (sym z) ∙ slice_get-append-right lines (line ∷ rest) 0

-- of one run: where more of the lines after its events are there, what is left isn't bad
more_told : {A : Type 0} (plan : Plan) (m : Meaning A) (run : List Event) (j k : ℕ) (why : Why) (x y : List (List ℕ))
    → j ≤ length (end_lines plan m run) → k < j → take j (end_lines plan m run) ++ x ≡ take k (end_lines plan m run) ++ y → IsBad plan m run k why y → ⊥
more_told plan m run j k why x [] within more same bad =
    let long : length (take j (end_lines plan m run)) ≡ j = length-take-le j (end_lines plan m run) within in
    let short : length (take k (end_lines plan m run)) ≡ k = length-take-le k (end_lines plan m run) (omega (arith, within, more)) in
    absurd (omega (arith, more, long, short, length-append (take j (end_lines plan m run)) x, length-append (take k (end_lines plan m run)) [], ap length same))
more_told plan m run j k why x (line ∷ rest) within more same bad =
    let long : length (take j (end_lines plan m run)) ≡ j = length-take-le j (end_lines plan m run) within in
    let short : length (take k (end_lines plan m run)) ≡ k = length-take-le k (end_lines plan m run) (omega (arith, within, more)) in
    let here : slice_get (take k (end_lines plan m run) ++ line ∷ rest) k ≡ Some line =
    ap (λ i. slice_get (take k (end_lines plan m run) ++ line ∷ rest) i) (sym short) ∙ just_past (take k (end_lines plan m run)) line rest in
    bad.1 (
    sym (slice_get-take (end_lines plan m run) j k more)
    ∙ sym (slice_get-append-left (take j (end_lines plan m run)) x k (omega (arith, more, long)))
    ∙ ap (λ ls. slice_get ls k) same ∙ here
    )

-- a run that goes on has no lines after its events
none_told : {A : Type 0} (plan : Plan) (m : Meaning A) (run : List Event) (e : Event) (es : List Event) (told : ℕ) → IsRunOf plan m (run ++ e ∷ es) → told ≤ length (end_lines plan m run) → told ≡ 0
none_told plan m run e es told is_run within =
    let none : end_lines plan m run ≡ [] = no_end_lines plan m run (runs_on plan m run e (follows plan m run e es is_run)) in
    omega (arith, within, ap length none)

-- ---- no lines of a run so far reach past a bad line

same_run_no_further : {A : Type 0} (plan : Plan) (m : Meaning A) (trace : List ℕ) (r s : List Event) (j k : ℕ) (why : Why) (x y : List (List ℕ))
    → IsBegun plan m trace r j x → IsBegun plan m trace s k y → IsBad plan m s k why y → r ≡ s → (b : Bool) → nat_lt k j ≡ b → j ≤ k
same_run_no_further plan m trace r s j k why x y a b bad one false is = ltb-false k j is
same_run_no_further plan m trace r s j k why x y a b bad one true is =
    let same = append_cancel_left (event_lines plan 1 s) (take j (end_lines plan m s) ++ x) (take k (end_lines plan m s) ++ y)
    (subst (λ q. event_lines plan 1 q ++ (take j (end_lines plan m q) ++ x) ≡ event_lines plan 1 s ++ (take k (end_lines plan m s) ++ y)) one (beside plan m trace r s j k x y a b)) in
    absurd (more_told plan m s j k why x y (subst (λ q. j ≤ length (end_lines plan m q)) one a.within) (ltb-true k j is) same bad)

lines_apart : (plan : Plan) (n : ℕ) (s more : List Event) → event_lines plan n (s ++ more) ≡ event_lines plan n s ++ event_lines plan (length s + n) more
lines_apart plan n [] more = let z : n ≡ 0 + n = omega arith in ap (λ i. event_lines plan i more) z
lines_apart plan n (z ∷ zs) more =
    let place : length zs + (n + 1) ≡ suc (length zs) + n = omega arith in
    ap (λ ls. fed (line_text plan n z) ∷ ls) (lines_apart plan (n + 1) zs more ∙ ap (λ i. event_lines plan (n + 1) zs ++ event_lines plan i more) place)

set_apart : (plan : Plan) (s more : List Event) (after : List (List ℕ)) → event_lines plan 1 (s ++ more) ++ after ≡ event_lines plan 1 s ++ (event_lines plan (length s + 1) more ++ after)
set_apart plan s more after = ap (λ ls. ls ++ after) (lines_apart plan 1 s more) ∙ append_assoc (event_lines plan 1 s) (event_lines plan (length s + 1) more) after

no_further : {A : Type 0} (plan : Plan) (m : Meaning A) → IsResolved plan → (trace : List ℕ) (r s : List Event) (j k : ℕ) (why : Why) (x y : List (List ℕ))
    → IsBegun plan m trace r j x → IsBegun plan m trace s k y → IsBad plan m s k why y → length r + j ≤ length s + k
no_further plan m h trace r s j k why x y a b bad =
    elim (one_goes_on plan h 1 r s (take j (end_lines plan m r) ++ x) (take k (end_lines plan m s) ++ y) a.valid b.valid (omega (arith, few plan h (length r) a.limited)) (beside plan m trace r s j k x y a b)) [
      | inl on ↦ shorter on.0 on.1
      | inr on ↦ longer on.0 on.1
    ]
  where
    shorter : (more : List Event) → s ≡ r ++ more → length r + j ≤ length s + k
    shorter [] is =
        let one : r ≡ s = sym (is ∙ append-nil r) in
        omega (arith, ap length one, same_run_no_further plan m trace r s j k why x y a b bad one (nat_lt k j) refl)
    shorter (e ∷ es) is =
        let zeroth : j ≡ 0 = none_told plan m r e es j (subst (IsRunOf plan m) is b.is_run) a.within in
        omega (arith, zeroth, ap length is, length-append r (e ∷ es))

    longer : (more : List Event) → r ≡ s ++ more → length r + j ≤ length s + k
    longer [] is =
        let one : r ≡ s = is ∙ append-nil s in
        omega (arith, ap length one, same_run_no_further plan m trace r s j k why x y a b bad one (nat_lt k j) refl)
    longer (e ∷ es) is =
        let is_run = subst (IsRunOf plan m) is a.is_run in
        let after : List (List ℕ) = take j (end_lines plan m r) ++ x in
        let whole : event_lines plan 1 (s ++ e ∷ es) ++ after ≡ event_lines plan 1 s ++ (take k (end_lines plan m s) ++ y) =
        subst (λ q. event_lines plan 1 q ++ after ≡ event_lines plan 1 s ++ (take k (end_lines plan m s) ++ y)) is (beside plan m trace r s j k x y a b) in
        let lines : event_lines plan (length s + 1) (e ∷ es) ++ after ≡ take k (end_lines plan m s) ++ y =
        append_cancel_left (event_lines plan 1 s) (event_lines plan (length s + 1) (e ∷ es) ++ after) (take k (end_lines plan m s) ++ y) (sym (set_apart plan s (e ∷ es) after) ∙ whole) in
        absurd (next_is_good plan m h s k why e es (event_lines plan (length s + 1 + 1) es ++ after) y (few plan h (length s) b.limited) b.within
        (subst (HasEventsOf plan) is a.valid e (length s, at_front s e es)) (follows plan m s e es is_run) lines bad)

-- ---- two refusals are one

length_so_far : {A : Type 0} (plan : Plan) (m : Meaning A) (run : List Event) (told : ℕ) → told ≤ length (end_lines plan m run) → length (lines_so_far plan m run told) ≡ length run + told
length_so_far plan m run told within =
    omega (arith, length-append (event_lines plan 1 run) (take told (end_lines plan m run)), length-event_lines plan 1 run, length-take-le told (end_lines plan m run) within)

same_reason : {A : Type 0} (plan : Plan) (m : Meaning A) (run : List Event) (y z : Why) (line : List ℕ) → IsBadFor plan m run y line → IsBadFor plan m run z line → y ≡ z
same_reason plan m run why.Missing z line b c = absurd b
same_reason plan m run why.NotALine why.Missing line b c = absurd c
same_reason plan m run why.NotALine why.NotALine line b c = refl
same_reason plan m run why.NotALine why.NotReady line b c = absurd ((b c.0 c.1).0 (c.2.0, c.2.1, c.2.2))
same_reason plan m run why.NotALine why.WrongEnding line b c =
    absurd (elim c.3 [
      | inl ends ↦ (b c.0 c.1).1 ends
      | inr waits ↦ (b c.0 c.1).2 waits
    ])
same_reason plan m run why.NotReady why.Missing line b c = absurd c
same_reason plan m run why.NotReady why.NotALine line b c = absurd ((c b.0 b.1).0 (b.2.0, b.2.1, b.2.2))
same_reason plan m run why.NotReady why.NotReady line b c = refl
same_reason plan m run why.NotReady why.WrongEnding line b c =
    let one : c.0 ≡ b.0 = fed_once c.0 b.0 (sym c.1 ∙ b.1) in
    absurd (c.2 (subst (IsEventText plan) (sym one) (b.2.0, b.2.1, b.2.2)))
same_reason plan m run why.WrongEnding why.Missing line b c = absurd c
same_reason plan m run why.WrongEnding why.NotALine line b c =
    absurd (elim b.3 [
      | inl ends ↦ (c b.0 b.1).1 ends
      | inr waits ↦ (c b.0 b.1).2 waits
    ])
same_reason plan m run why.WrongEnding why.NotReady line b c =
    let one : b.0 ≡ c.0 = fed_once b.0 c.0 (sym b.1 ∙ c.1) in
    absurd (b.2 (subst (IsEventText plan) (sym one) (c.2.0, c.2.1, c.2.2)))
same_reason plan m run why.WrongEnding why.WrongEnding line b c = refl

same_why : {A : Type 0} (plan : Plan) (m : Meaning A) (run : List Event) (told : ℕ) (y z : Why) (left : List (List ℕ)) → IsBad plan m run told y left → IsBad plan m run told z left → y ≡ z
same_why plan m run told y z [] b c = b.0 ∙ sym c.0
same_why plan m run told y z (line ∷ rest) b c = same_reason plan m run y z line b.0 c.0

same_run : {A : Type 0} (plan : Plan) (m : Meaning A) → IsResolved plan → (trace : List ℕ) (r s : List Event) (j k : ℕ) (x y : List (List ℕ))
    → IsBegun plan m trace r j x → IsBegun plan m trace s k y → length r + j ≡ length s + k → r ≡ s
same_run plan m h trace r s j k x y a b level =
    elim (one_goes_on plan h 1 r s (take j (end_lines plan m r) ++ x) (take k (end_lines plan m s) ++ y) a.valid b.valid (omega (arith, few plan h (length r) a.limited)) (beside plan m trace r s j k x y a b)) [
      | inl on ↦ below on.0 on.1
      | inr on ↦ above on.0 on.1
    ]
  where
    below : (more : List Event) → s ≡ r ++ more → r ≡ s
    below [] is = sym (is ∙ append-nil r)
    below (e ∷ es) is =
        let zeroth : j ≡ 0 = none_told plan m r e es j (subst (IsRunOf plan m) is b.is_run) a.within in
        absurd (omega (arith, zeroth, level, ap length is, length-append r (e ∷ es)))

    above : (more : List Event) → r ≡ s ++ more → r ≡ s
    above [] is = is ∙ append-nil s
    above (e ∷ es) is =
        let zeroth : k ≡ 0 = none_told plan m s e es k (subst (IsRunOf plan m) is a.is_run) b.within in
        absurd (omega (arith, zeroth, level, ap length is, length-append s (e ∷ es)))

-- what is bad of one run is so of the same run with as many lines after it
carried : {A : Type 0} (plan : Plan) (m : Meaning A) (r s : List Event) (j k : ℕ) (y : Why) (x left : List (List ℕ)) → r ≡ s → j ≡ k → x ≡ left → IsBad plan m r j y x → IsBad plan m s k y left
carried plan m r s j k y x left one told rest bad = subst (λ q. IsBad plan m q k y left) one (subst (λ n. IsBad plan m r n y left) told (subst (IsBad plan m r j y) rest bad))

one_refusal : {A : Type 0} (plan : Plan) (m : Meaning A) → IsResolved plan → (trace : List ℕ) (i j : ℕ) (y z : Why)
    → IsRefused plan m trace i y → IsRefused plan m trace j z → (i ≡ j) × (y ≡ z)
one_refusal plan m h trace i j y z a b =
    let first = begun plan m trace i y a in
    let other = begun plan m trace j z b in
    let there : length a.run + a.told ≤ length b.run + b.told = no_further plan m h trace a.run b.run a.told b.told z a.left b.left first other b.bad in
    let back : length b.run + b.told ≤ length a.run + a.told = no_further plan m h trace b.run a.run b.told a.told y b.left a.left other first a.bad in
    let level : length a.run + a.told ≡ length b.run + b.told = omega (arith, there, back) in
    let one : a.run ≡ b.run = same_run plan m h trace a.run b.run a.told b.told a.left b.left first other level in
    let told : a.told ≡ b.told = omega (arith, level, ap length one) in
    let lines : lines_so_far plan m a.run a.told ≡ lines_so_far plan m b.run b.told =
    ap (λ q. lines_so_far plan m q a.told) one ∙ ap (λ n. lines_so_far plan m b.run n) told in
    let rest : a.left ≡ b.left = append_cancel_left (lines_so_far plan m b.run b.told) a.left b.left (ap (λ ls. ls ++ a.left) (sym lines) ∙ sym a.good ∙ b.good) in (
      a.number ∙ ap (λ ls. length ls + 1) lines ∙ sym b.number,
      same_why plan m b.run b.told y z b.left (carried plan m a.run b.run a.told b.told y a.left b.left one told rest a.bad) b.bad,
    )

-- ---- verdicts

accepted_whole : {A : Type 0} (plan : Plan) (m : Meaning A) (trace : List ℕ) (e : Ending) (a : IsAccepted plan m trace e) → IsWhole plan m trace a.run
accepted_whole plan m trace e a = record { is_run = a.is_run; over = λ h. a.over (sym a.ended ∙ h); valid = a.valid; lines = a.lines }

pub one_of_two : {A : Type 0} (plan : Plan) (m : Meaning A) → IsResolved plan → HasOneVerdict plan m
one_of_two plan m h trace (verdict.Accepted e) w gives also =
    ap (λ x. verdict.Accepted x) (sym gives.ended) ∙ sym (complete plan m h trace gives.run w (accepted_whole plan m trace e gives) also)
one_of_two plan m h trace (verdict.RefusedAt line y) (verdict.Accepted e) gives also =
    complete plan m h trace also.run (verdict.RefusedAt line y) (accepted_whole plan m trace e also) gives ∙ ap (λ x. verdict.Accepted x) also.ended
one_of_two plan m h trace (verdict.RefusedAt i y) (verdict.RefusedAt j z) gives also =
    let p = one_refusal plan m h trace i j y z gives also in
    ap (λ n. verdict.RefusedAt n y) p.0 ∙ ap (λ w. verdict.RefusedAt j w) p.1
