-- The lines of a run that has ended are accepted: no line of them is bad, and no other run has them.
use Rattle.std.proofs.Common.{◌≡◌, inl, inr, ℕ, ◌+◌, ◌<◌, ◌≤◌, ◌^◌, List, [], ◌∷◌, ◌++◌, length, take, Some, refl, ap, ◌∙◌, sym, subst, arith, slice_get, append_assoc, append-nil, length-append, nat_le}
use Rattle.std.proofs.lemmas.Bool.{and_parts, leb-true}
use Rattle.std.proofs.lemmas.List.{length-take-le}
use Rattle.std.proofs.Math.Seq.{take-append_seam}
use Rattle.wdf_base.specs.Meaning.{Meaning}
use Rattle.wdf_base.specs.Resolved.{IsResolved}
use Rattle.wdf_base.specs.declared.plan.Plan.{Plan}
use Rattle.wdf_base.specs.declared.event.Event.{Event}
use Rattle.wdf_base.specs.declared.event.Ending.{Ending}
use Rattle.wdf_base.specs.declared.event.Ending.TheVariants as ending
use Rattle.wdf_model.specs.Runs.{IsRun}
use Rattle.wdf_model.specs.rules.Ready.{IsRunOf, ending_of, ending_by, ready, state_after, last_fault}
use Rattle.wdf_model.proofs.Runs.{slice_get-append-right}
use Rattle.wdf_lines.specs.Lines.{line_text}
use Rattle.wdf_trace.specs.Events.{IsEventOf}
use Rattle.wdf_trace.specs.Reading.{word, words, number_of}
use Rattle.wdf_trace.specs.Told.{event_in}
use Rattle.wdf_trace.proofs.EventLaws.{line_number, line_event}
use Rattle.wdf_trace.proofs.ResolvedLaws.{HasNames-resolved}
use Rattle.wdf_replay.specs.declared.verdict.Why.{Why}
use Rattle.wdf_replay.specs.declared.verdict.Why.TheVariants as why
use Rattle.wdf_replay.specs.declared.verdict.Verdict.{Verdict}
use Rattle.wdf_replay.specs.declared.verdict.Verdict.TheVariants as verdict
use Rattle.wdf_run_text.specs.Lines.{fed}
use Rattle.wdf_run_text.specs.Texts.{event_lines, end_lines, IsAmong, HasEventsOf}
use Rattle.wdf_replay.specs.Verdicts.{IsAccepted, IsRefused, IsBadFor, IsBad, IsWhole, GivesVerdict}
use Rattle.wdf_replay.proofs.RunLines.{fed_once, runs_on, no_end_lines}

-- two events of the plan with one line are one
pub same_line : (plan : Plan) → IsResolved plan → (j k : ℕ) (e f : Event) → j < 2 ^ 64 → k < 2 ^ 64 → IsEventOf plan e → IsEventOf plan f
    → line_text plan j e ≡ line_text plan k f → (j ≡ k) × (e ≡ f)
same_line plan resolved j k e f small fits valid right same =
    let names = HasNames-resolved plan resolved in (
      sym (line_number plan names j e small valid) ∙ ap (λ t. number_of (word 0 (words t))) same ∙ line_number plan names k f fits right,
      sym (line_event plan names j e small valid) ∙ ap (λ t. event_in plan (words t)) same ∙ line_event plan names k f fits right,
    )

-- the first event after a front of a run may follow the front
pub at_front : (s : List Event) (e : Event) (es : List Event) → slice_get (s ++ e ∷ es) (length s) ≡ Some e
at_front s e es =
    let z : length s + 0 ≡ length s = omega arith in
    ap (λ k. slice_get (s ++ e ∷ es) k) (sym z) ∙ slice_get-append-right s (e ∷ es) 0

pub follows : {A : Type 0} (plan : Plan) (m : Meaning A) (s : List Event) (e : Event) (es : List Event) → IsRunOf plan m (s ++ e ∷ es) → IsAmong e (ready plan m s)
unfolding IsRun
follows plan m s e es is_run =
    let p = is_run (length s) e (at_front s e es) in
    (p.0, rw (take-append_seam s (e ∷ es)) at p.1)

-- a run that has ended has nothing that may follow
none_by : {A : Type 0} (plan : Plan) (m : Meaning A) (run events : List Event) → (ending_by plan m (state_after plan m run) (last_fault run) events ≡ ending.Running → ⊥) → events ≡ []
none_by plan m run [] over = refl
none_by plan m run (e ∷ es) over = absurd (over refl)

none_follows : {A : Type 0} (plan : Plan) (m : Meaning A) (run : List Event) → (ending_of plan m run ≡ ending.Running → ⊥) → ready plan m run ≡ []
unfolding ending_of
none_follows plan m run over = none_by plan m run (ready plan m run) over

nowhere : (events : List Event) (e : Event) → events ≡ [] → IsAmong e events → ⊥
nowhere events e none among =
    let there : slice_get [] among.0 ≡ Some e = subst (λ es. slice_get es among.0 ≡ Some e) none among.1 in
    let z : ⊥ = cc in z

head_same : (k l : List ℕ) (ks ls : List (List ℕ)) → k ∷ ks ≡ l ∷ ls → k ≡ l
head_same k l ks ls h = cc

rest_same : (k l : List ℕ) (ks ls : List (List ℕ)) → k ∷ ks ≡ l ∷ ls → ks ≡ ls
rest_same k l ks ls h = cc

-- of two runs with events of the plan, one that has ended and one with the same lines in front, the second is a front of the first
pub record IsFront (plan : Plan) (whole front : List Event) (lines left : List (List ℕ)) : Type 0 where
  pub more : List Event
  pub is : whole ≡ front ++ more
  pub rest : event_lines plan (length front + 1) more ++ lines ≡ left

front : {A : Type 0} (plan : Plan) (m : Meaning A) → IsResolved plan → (s a b : List Event) (lines left : List (List ℕ))
    → IsRunOf plan m (s ++ a) → IsRunOf plan m (s ++ b) → HasEventsOf plan (s ++ a) → HasEventsOf plan (s ++ b)
    → length (s ++ b) < 2 ^ 60 → ready plan m (s ++ a) ≡ []
    → event_lines plan (length s + 1) a ++ lines ≡ event_lines plan (length s + 1) b ++ left
    → IsFront plan (s ++ a) (s ++ b) lines left
front plan m resolved s a [] lines left run_a run_b valid_a valid_b small none same = record {
  more = a;
  is = ap (λ es. es ++ a) (sym (append-nil s));
  rest = ap (λ es. event_lines plan (length es + 1) a ++ lines) (append-nil s) ∙ same;
}
front plan m resolved s [] (f ∷ fs) lines left run_a run_b valid_a valid_b small none same =
    absurd (nowhere (ready plan m s) f (rw (append-nil s) at none) (follows plan m s f fs run_b))
front plan m resolved s (e ∷ es) (f ∷ fs) lines left run_a run_b valid_a valid_b small none same =
    let n : length s + 1 < 2 ^ 64 = omega (arith, small, length-append s (f ∷ fs)) in
    let valid_e : IsEventOf plan e = valid_a e (length s, at_front s e es) in
    let valid_f : IsEventOf plan f = valid_b f (length s, at_front s f fs) in
    let texts : line_text plan (length s + 1) e ≡ line_text plan (length s + 1) f =
    fed_once (line_text plan (length s + 1) e) (line_text plan (length s + 1) f) (head_same _ _ _ _ same) in
    let one : e ≡ f = (same_line plan resolved (length s + 1) (length s + 1) e f n n valid_e valid_f texts).1 in
    let next : length s + 1 + 1 ≡ length (s ++ e ∷ []) + 1 = omega (arith, length-append s (e ∷ [])) in
    let left_a : (s ++ e ∷ []) ++ es ≡ s ++ e ∷ es = append_assoc s (e ∷ []) es in
    let left_b : (s ++ e ∷ []) ++ fs ≡ s ++ f ∷ fs = append_assoc s (e ∷ []) fs ∙ ap (λ x. s ++ x ∷ fs) one in
    let tails : event_lines plan (length s + 1 + 1) es ++ lines ≡ event_lines plan (length s + 1 + 1) fs ++ left = rest_same _ _ _ _ same in
    let deeper = front plan m resolved (s ++ e ∷ []) es fs lines left
    (subst (IsRunOf plan m) (sym left_a) run_a) (subst (IsRunOf plan m) (sym left_b) run_b)
    (subst (HasEventsOf plan) (sym left_a) valid_a) (subst (HasEventsOf plan) (sym left_b) valid_b)
    (rw left_b small) (rw left_a none)
    (subst (λ k. event_lines plan k es ++ lines ≡ event_lines plan k fs ++ left) next tails) in
    subst (λ w. IsFront plan w (s ++ f ∷ fs) lines left) left_a (subst (λ v. IsFront plan ((s ++ e ∷ []) ++ es) v lines left) left_b deeper)

-- ---- no line of a run that has ended is bad

-- the next event's line isn't bad
event_is_good : {A : Type 0} (plan : Plan) (m : Meaning A) → IsResolved plan → (run : List Event) (e : Event) (y : Why) (line : List ℕ)
    → length run < 2 ^ 60 → IsEventOf plan e → IsAmong e (ready plan m run) → line ≡ fed (line_text plan (length run + 1) e) → IsBadFor plan m run y line → ⊥
event_is_good plan m resolved run e why.NotALine line small valid among is bad =
    let n : length run + 1 < 2 ^ 64 = omega (arith, small) in
    (bad (line_text plan (length run + 1) e) is).0 (length run + 1, e, (n, valid, refl))
event_is_good plan m resolved run e why.NotReady line small valid among is bad =
    let n : length run + 1 < 2 ^ 64 = omega (arith, small) in
    let text = bad.0 in
    let number = bad.2.0 in
    let event = bad.2.1 in
    let texts : text ≡ line_text plan (length run + 1) e = fed_once text (line_text plan (length run + 1) e) (sym bad.1 ∙ is) in
    let one = same_line plan resolved number (length run + 1) event e bad.2.2.0 n bad.2.2.1 valid (bad.2.2.2 ∙ texts) in
    bad.2.3 one.0 (subst (λ x. IsAmong x (ready plan m run)) (sym one.1) among)
event_is_good plan m resolved run e why.WrongEnding line small valid among is bad =
    let n : length run + 1 < 2 ^ 64 = omega (arith, small) in
    let texts : bad.0 ≡ line_text plan (length run + 1) e = fed_once bad.0 (line_text plan (length run + 1) e) (sym bad.1 ∙ is) in
    bad.2 (length run + 1, e, (n, valid, sym texts))
event_is_good plan m resolved run e why.Missing line small valid among is bad = bad

at_place : (lines : List (List ℕ)) (k : ℕ) (line : List ℕ) (rest : List (List ℕ)) → k ≤ length lines → lines ≡ take k lines ++ line ∷ rest → slice_get lines k ≡ Some line
at_place lines k line rest within is =
    let long : length (take k lines) ≡ k = length-take-le k lines within in
    let z : length (take k lines) + 0 ≡ k = omega (arith, long) in
    ap (λ ls. slice_get ls k) is ∙ ap (λ i. slice_get (take k lines ++ line ∷ rest) i) (sym z) ∙ slice_get-append-right (take k lines) (line ∷ rest) 0

last_is_good : {A : Type 0} (plan : Plan) (m : Meaning A) (run : List Event) (told : ℕ) (y : Why) (left : List (List ℕ))
    → (ending_of plan m run ≡ ending.Running → ⊥) → told ≤ length (end_lines plan m run) → end_lines plan m run ≡ take told (end_lines plan m run) ++ left
    → IsBad plan m run told y left → ⊥
last_is_good plan m run told y [] over within is bad =
    elim bad.1 [
      | inl running ↦ over running
      | inr below ↦
          let short : length (end_lines plan m run) ≡ told = ap length (is ∙ append-nil (take told (end_lines plan m run))) ∙ length-take-le told (end_lines plan m run) within in
          absurd (omega (arith, below, short))
    ]
last_is_good plan m run told y (line ∷ rest) over within is bad = bad.1 (at_place (end_lines plan m run) told line rest within is)

pub next_is_good : {A : Type 0} (plan : Plan) (m : Meaning A) → IsResolved plan → (run : List Event) (told : ℕ) (y : Why) (e : Event) (es : List Event) (lines left : List (List ℕ))
    → length run < 2 ^ 60 → told ≤ length (end_lines plan m run) → IsEventOf plan e → IsAmong e (ready plan m run)
    → fed (line_text plan (length run + 1) e) ∷ lines ≡ take told (end_lines plan m run) ++ left → IsBad plan m run told y left → ⊥
next_is_good plan m resolved run told y e es lines left small within valid among same bad =
    let none : end_lines plan m run ≡ [] = no_end_lines plan m run (runs_on plan m run e among) in
    let zeroth : told ≡ 0 = omega (arith, within, ap length none) in
    by_lines left (subst (λ k. fed (line_text plan (length run + 1) e) ∷ lines ≡ take k (end_lines plan m run) ++ left) zeroth same) bad
  where
    by_lines : (ls : List (List ℕ)) → fed (line_text plan (length run + 1) e) ∷ lines ≡ ls → IsBad plan m run told y ls → ⊥
    by_lines [] is bad = let z : ⊥ = cc in z
    by_lines (line ∷ rest) is bad = event_is_good plan m resolved run e y line small valid among (sym (head_same _ _ _ _ is)) bad.0

-- a run has no more events than its limit
pub few : (plan : Plan) → IsResolved plan → (n : ℕ) → n ≤ plan.limit → n < 2 ^ 60
few plan resolved n below =
    let both = and_parts (nat_le 1 plan.limit) (nat_le plan.limit 200000) resolved.limit in
    let limit : plan.limit ≤ 200000 = leb-true plan.limit 200000 both.1 in
    omega (arith, below, limit)

refused_not : {A : Type 0} (plan : Plan) (m : Meaning A) → IsResolved plan → (trace : List ℕ) (run : List Event) (line : ℕ) (y : Why)
    → IsWhole plan m trace run → IsRefused plan m trace line y → ⊥
refused_not plan m resolved trace run line y whole denied =
    let f = front plan m resolved [] run denied.run (end_lines plan m run) (take denied.told (end_lines plan m denied.run) ++ denied.left)
    whole.is_run denied.is_run whole.valid denied.valid (few plan resolved (length denied.run) denied.limited) (none_follows plan m run whole.over)
    (sym whole.lines ∙ denied.good ∙ append_assoc (event_lines plan 1 denied.run) (take denied.told (end_lines plan m denied.run)) denied.left) in
    by_more f.more f.is f.rest
  where
    by_more : (more : List Event) → run ≡ denied.run ++ more → event_lines plan (length denied.run + 1) more ++ end_lines plan m run ≡ take denied.told (end_lines plan m denied.run) ++ denied.left → ⊥
    by_more [] is rest =
        let one : run ≡ denied.run = is ∙ append-nil denied.run in
        last_is_good plan m denied.run denied.told y denied.left (subst (λ r. ending_of plan m r ≡ ending.Running → ⊥) one whole.over) denied.within
        (subst (λ r. end_lines plan m r ≡ take denied.told (end_lines plan m denied.run) ++ denied.left) one rest) denied.bad
    by_more (e ∷ es) is rest =
        let run_is = subst (IsRunOf plan m) is whole.is_run in
        let valid = subst (HasEventsOf plan) is whole.valid in
        next_is_good plan m resolved denied.run denied.told y e es (event_lines plan (length denied.run + 1 + 1) es ++ end_lines plan m run) denied.left (few plan resolved (length denied.run) denied.limited) denied.within
        (valid e (length denied.run, at_front denied.run e es)) (follows plan m denied.run e es run_is) rest denied.bad

accepted_so : {A : Type 0} (plan : Plan) (m : Meaning A) → IsResolved plan → (trace : List ℕ) (run : List Event) (e : Ending)
    → IsWhole plan m trace run → IsAccepted plan m trace e → e ≡ ending_of plan m run
accepted_so plan m resolved trace run e whole granted =
    let f = front plan m resolved [] run granted.run (end_lines plan m run) (end_lines plan m granted.run)
    whole.is_run granted.is_run whole.valid granted.valid (few plan resolved (length granted.run) granted.limited) (none_follows plan m run whole.over)
    (sym whole.lines ∙ granted.lines) in
    by_more f.more f.is
  where
    by_more : (more : List Event) → run ≡ granted.run ++ more → e ≡ ending_of plan m run
    by_more [] is = sym granted.ended ∙ ap (ending_of plan m) (sym (is ∙ append-nil granted.run))
    by_more (x ∷ xs) is = absurd (granted.over (sym granted.ended ∙ runs_on plan m granted.run x (follows plan m granted.run x xs (subst (IsRunOf plan m) is whole.is_run))))

-- the lines of a run that has ended, with events of the plan, are accepted
pub complete : {A : Type 0} (plan : Plan) (m : Meaning A) → IsResolved plan → (trace : List ℕ) (run : List Event) (v : Verdict)
    → IsWhole plan m trace run → GivesVerdict plan m trace v → v ≡ verdict.Accepted (ending_of plan m run)
complete plan m resolved trace run (verdict.Accepted e) whole gives = ap (λ x. verdict.Accepted x) (accepted_so plan m resolved trace run e whole gives)
complete plan m resolved trace run (verdict.RefusedAt line y) whole gives = absurd (refused_not plan m resolved trace run line y whole gives)
