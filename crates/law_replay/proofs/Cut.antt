-- The text of a run is cut into the run's lines.
use Rattle.std.proofs.Common.{◌≡◌, ℕ, ◌+◌, ◌==◌, not, true, List, [], ◌∷◌, ◌++◌, length, map, refl, sym, ap, ◌∙◌, append_assoc}
use Rattle.std.specs.List.{list_all}
use Rattle.std.proofs.lemmas.Bool.{and_parts, not-true}
use Rattle.wdf_base.specs.Meaning.{Meaning}
use Rattle.wdf_base.specs.Resolved.{IsResolved}
use Rattle.wdf_base.specs.declared.plan.Plan.{Plan}
use Rattle.wdf_base.specs.declared.event.Event.{Event}
use Rattle.wdf_base.specs.declared.event.Ending.TheVariants as ending
use Rattle.wdf_base.specs.declared.wait.WaitLine.{WaitLine}
use Rattle.wdf_model.specs.rules.Ready.{IsRunOf, ending_of}
use Rattle.wdf_model.specs.rules.Waits.{wait_list}
use Rattle.wdf_lines.specs.Lines.{line_text, lines_from}
use Rattle.wdf_lines.specs.Endings.{ending_text, wait_text, wait_lines}
use Rattle.wdf_trace.proofs.Blanks.{Lacks}
use Rattle.law_lines.proofs.Unfed.{line_unfed, ending_unfed, wait_unfed}
use Rattle.wdf_run_text.specs.Lines.{fed, with_byte, trace_lines, joined_lines}
use Rattle.wdf_run_text.specs.Texts.{text_of, event_lines, fed_wait, end_lines, HasEventsOf}
use Rattle.wdf_replay.specs.Verdicts.{IsWhole}
use Rattle.wdf_run_text.proofs.Cutting.{lines_join}
use Rattle.wdf_replay.proofs.RunLines.{end_lines_over, whole_joined}

-- a text without a line feed, and its line feed, are the first line
pub first_cut : (text rest : List ℕ) → Lacks 10 text → trace_lines (fed text ++ rest) ≡ fed text ∷ trace_lines rest
first_cut [] rest h = refl
first_cut (b ∷ text) rest h =
    let k = and_parts (not (b == 10)) (list_all (λ x. not (x == 10)) text) h.each in
    rw (not-true (b == 10) k.0) (ap (with_byte b) (first_cut text rest (record { each = k.1 })))

events_cut : (plan : Plan) → IsResolved plan → (n : ℕ) (run : List Event) (rest : List ℕ) → trace_lines (lines_from plan n run ++ rest) ≡ event_lines plan n run ++ trace_lines rest
events_cut plan h n [] rest = refl
events_cut plan h n (e ∷ es) rest =
    ap trace_lines (append_assoc (fed (line_text plan n e)) (lines_from plan (n + 1) es) rest)
    ∙ first_cut (line_text plan n e) (lines_from plan (n + 1) es ++ rest) (line_unfed plan h n e)
    ∙ ap (λ ls. fed (line_text plan n e) ∷ ls) (events_cut plan h (n + 1) es rest)

waits_cut : (plan : Plan) → IsResolved plan → (waits : List WaitLine) → trace_lines (wait_lines plan waits) ≡ map (fed_wait plan) waits
waits_cut plan h [] = refl
waits_cut plan h (w ∷ ws) =
    first_cut (wait_text plan w) (wait_lines plan ws) (wait_unfed plan h w) ∙ ap (λ ls. fed (wait_text plan w) ∷ ls) (waits_cut plan h ws)

text_cut : {A : Type 0} (plan : Plan) (m : Meaning A) (run : List Event) → IsResolved plan → (ending_of plan m run ≡ ending.Running → ⊥)
    → trace_lines (text_of plan m run) ≡ event_lines plan 1 run ++ end_lines plan m run
text_cut plan m run h over =
    events_cut plan h 1 run (fed (ending_text (length run) (ending_of plan m run)) ++ wait_lines plan (wait_list plan m run))
    ∙ ap (λ ls. event_lines plan 1 run ++ ls) (first_cut (ending_text (length run) (ending_of plan m run)) (wait_lines plan (wait_list plan m run)) (ending_unfed (length run) (ending_of plan m run))
    ∙ ap (λ ls. fed (ending_text (length run) (ending_of plan m run)) ∷ ls) (waits_cut plan h (wait_list plan m run)) ∙ sym (end_lines_over plan m run over))

-- the lines of the text are those of the run
pub text_lines : {A : Type 0} (plan : Plan) (m : Meaning A) (run : List Event) (trace : List ℕ) → IsResolved plan → (ending_of plan m run ≡ ending.Running → ⊥)
    → trace ≡ text_of plan m run → trace_lines trace ≡ event_lines plan 1 run ++ end_lines plan m run
text_lines plan m run trace h over is = ap trace_lines is ∙ text_cut plan m run h over

-- and no other trace has these lines
pub lines_text : {A : Type 0} (plan : Plan) (m : Meaning A) (run : List Event) (trace : List ℕ) → (ending_of plan m run ≡ ending.Running → ⊥)
    → trace_lines trace ≡ event_lines plan 1 run ++ end_lines plan m run → trace ≡ text_of plan m run
lines_text plan m run trace over is = sym (lines_join trace) ∙ ap joined_lines is ∙ whole_joined plan m run over

pub text_whole : {A : Type 0} (plan : Plan) (m : Meaning A) (run : List Event) (trace : List ℕ) → IsResolved plan → IsRunOf plan m run → (ending_of plan m run ≡ ending.Running → ⊥)
    → HasEventsOf plan run → trace ≡ text_of plan m run → IsWhole plan m trace run
text_whole plan m run trace h is_run over valid is = record { is_run = is_run; over = over; valid = valid; lines = text_lines plan m run trace h over is }
