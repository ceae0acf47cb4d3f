-- Two runs that have ended with one text are one.
use Rattle.std.proofs.Common.{◌≡◌, ℕ, ◌+◌, ◌<◌, ◌≤◌, ◌^◌, List, [], ◌∷◌, ◌++◌, length, Some, slice_get, refl, sym, ap, ◌∙◌, subst, arith, append_assoc, append-nil, length-append, nat_le, codes}
use Rattle.std.proofs.lemmas.Bool.{and_parts, leb-true}
use Rattle.std.proofs.Math.Seq.{take-append_seam}
use Rattle.wdf_base.specs.Meaning.{Meaning}
use Rattle.wdf_base.specs.Resolved.{IsResolved}
use Rattle.wdf_base.specs.declared.plan.Plan.{Plan}
use Rattle.wdf_base.specs.declared.event.Event.{Event}
use Rattle.wdf_base.specs.declared.event.Ending.TheVariants as ending
use Rattle.wdf_model.specs.Runs.{IsRun}
use Rattle.wdf_model.specs.rules.Ready.{IsRunOf, ending_of, ending_by, ready, state_after, last_fault}
use Rattle.wdf_model.specs.rules.Waits.{wait_list}
use Rattle.wdf_model.proofs.Runs.{slice_get-append-right}
use Rattle.wdf_lines.specs.Lines.{line_text, lines_from}
use Rattle.wdf_lines.specs.Endings.{ending_text, wait_lines}
use Rattle.wdf_trace.specs.Events.{IsEventOf}
use Rattle.wdf_trace.specs.Reading.{words}
use Rattle.wdf_trace.specs.Told.{event_in}
use Rattle.wdf_trace.proofs.EventLaws.{line_event}
use Rattle.wdf_trace.proofs.ResolvedLaws.{HasNames-resolved}
use Rattle.law_machine_once.proofs.Numbers.{within_limit_of}
use Rattle.wdf_run_text.specs.Texts.{text_of, HasEventsOf}
use Rattle.law_lines.proofs.Cut.{first_cut}
use Rattle.law_lines.proofs.Unfed.{line_unfed}

at_front : (s : List Event) (e : Event) (es : List Event) → slice_get (s ++ e ∷ es) (length s) ≡ Some e
at_front s e es =
    let z : length s + 0 ≡ length s = omega arith in
    ap (λ k. slice_get (s ++ e ∷ es) k) (sym z) ∙ slice_get-append-right s (e ∷ es) 0

first_of : (events : List Event) (event : Event) (place : ℕ) → slice_get events place ≡ Some event → (e : Event) × (es : List Event) × (events ≡ e ∷ es)
first_of [] event place h = absurd (let z : ⊥ = cc in z)
first_of (e ∷ es) event place h = (e, es, refl)

-- a run goes on after each of its fronts but the whole
goes_on : {A : Type 0} (plan : Plan) (m : Meaning A) (s : List Event) (e : Event) (es : List Event) → IsRunOf plan m (s ++ e ∷ es) → ending_of plan m s ≡ ending.Running
unfolding IsRun ending_of
goes_on plan m s e es is_run =
    let p = is_run (length s) e (at_front s e es) in
    let here : slice_get (ready plan m s) p.0 ≡ Some e = rw (take-append_seam s (e ∷ es)) at p.1 in
    let q = first_of (ready plan m s) e p.0 here in
    ap (ending_by plan m (state_after plan m s) (last_fault s)) q.2

same_event_of : (plan : Plan) → IsResolved plan → (n : ℕ) (e f : Event) → n < 2 ^ 64 → IsEventOf plan e → IsEventOf plan f → line_text plan n e ≡ line_text plan n f → e ≡ f
same_event_of plan h n e f small valid right same =
    let names = HasNames-resolved plan h in
    sym (line_event plan names n e small valid) ∙ ap (λ t. event_in plan (words t)) same ∙ line_event plan names n f small right

-- the lines of events after one, and a text after them
shifted : (plan : Plan) (n : ℕ) (e : Event) (es : List Event) (x : List ℕ) → lines_from plan n (e ∷ es) ++ x ≡ (line_text plan n e ++ codes "\n") ++ (lines_from plan (n + 1) es ++ x)
shifted plan n e es x = append_assoc (line_text plan n e ++ codes "\n") (lines_from plan (n + 1) es) x

-- two runs that have ended, with a common front and the same text after it, are one
after_front : {A : Type 0} (plan : Plan) (m : Meaning A) → IsResolved plan → (s es fs : List Event) (x y : List ℕ)
    → IsRunOf plan m (s ++ es) → IsRunOf plan m (s ++ fs) → (ending_of plan m (s ++ es) ≡ ending.Running → ⊥) → (ending_of plan m (s ++ fs) ≡ ending.Running → ⊥)
    → HasEventsOf plan (s ++ es) → HasEventsOf plan (s ++ fs) → length (s ++ es) < 2 ^ 60
    → lines_from plan (length s + 1) es ++ x ≡ lines_from plan (length s + 1) fs ++ y → s ++ es ≡ s ++ fs
after_front plan m h s [] [] x y run_a run_b over_a over_b valid_a valid_b small same = refl
after_front plan m h s [] (f ∷ fs) x y run_a run_b over_a over_b valid_a valid_b small same =
    absurd (over_a (ap (ending_of plan m) (append-nil s) ∙ goes_on plan m s f fs run_b))
after_front plan m h s (e ∷ es) [] x y run_a run_b over_a over_b valid_a valid_b small same =
    absurd (over_b (ap (ending_of plan m) (append-nil s) ∙ goes_on plan m s e es run_a))
after_front plan m h s (e ∷ es) (f ∷ fs) x y run_a run_b over_a over_b valid_a valid_b small same =
    let n : length s + 1 < 2 ^ 64 = omega (arith, small, length-append s (e ∷ es)) in
    let cut = first_cut (line_text plan (length s + 1) e) (line_text plan (length s + 1) f) (lines_from plan (length s + 1 + 1) es ++ x) (lines_from plan (length s + 1 + 1) fs ++ y)
    (line_unfed plan h (length s + 1) e).each (line_unfed plan h (length s + 1) f).each
    (sym (shifted plan (length s + 1) e es x) ∙ same ∙ shifted plan (length s + 1) f fs y) in
    let one : e ≡ f = same_event_of plan h (length s + 1) e f n (valid_a e (length s, at_front s e es)) (valid_b f (length s, at_front s f fs)) cut.0 in
    let next : length s + 1 + 1 ≡ length (s ++ e ∷ []) + 1 = omega (arith, length-append s (e ∷ [])) in
    let left_a : (s ++ e ∷ []) ++ es ≡ s ++ e ∷ es = append_assoc s (e ∷ []) es in
    let left_b : (s ++ e ∷ []) ++ fs ≡ s ++ f ∷ fs = append_assoc s (e ∷ []) fs ∙ ap (λ z. s ++ z ∷ fs) one in
    sym left_a
    ∙ after_front plan m h (s ++ e ∷ []) es fs x y
    (subst (IsRunOf plan m) (sym left_a) run_a) (subst (IsRunOf plan m) (sym left_b) run_b)
    (subst (λ r. ending_of plan m r ≡ ending.Running → ⊥) (sym left_a) over_a) (subst (λ r. ending_of plan m r ≡ ending.Running → ⊥) (sym left_b) over_b)
    (subst (HasEventsOf plan) (sym left_a) valid_a) (subst (HasEventsOf plan) (sym left_b) valid_b)
    (rw left_a small)
    (subst (λ k. lines_from plan k es ++ x ≡ lines_from plan k fs ++ y) next cut.1)
    ∙ left_b

pub same_text : {A : Type 0} (plan : Plan) (m : Meaning A) → IsResolved plan → (a b : List Event) → IsRunOf plan m a → IsRunOf plan m b
    → (ending_of plan m a ≡ ending.Running → ⊥) → (ending_of plan m b ≡ ending.Running → ⊥) → HasEventsOf plan a → HasEventsOf plan b
    → text_of plan m a ≡ text_of plan m b → a ≡ b
same_text plan m h a b run_a run_b over_a over_b valid_a valid_b same =
    let few : length a ≤ plan.limit = within_limit_of plan m a run_a in
    let both = and_parts (nat_le 1 plan.limit) (nat_le plan.limit 200000) h.limit in
    let limit : plan.limit ≤ 200000 = leb-true plan.limit 200000 both.1 in
    let small : length a < 2 ^ 60 = omega (arith, few, limit) in
    after_front plan m h [] a b
    ((ending_text (length a) (ending_of plan m a) ++ codes "\n") ++ wait_lines plan (wait_list plan m a)) ((ending_text (length b) (ending_of plan m b) ++ codes "\n") ++ wait_lines plan (wait_list plan m b))
    run_a run_b over_a over_b valid_a valid_b small same
