-- A trace of which the lines up to a place are those of a run so far.
use Rattle.std.proofs.Common.{◌≡◌, subst, ℕ, ◌+◌, ◌<◌, ◌≤◌, List, [], ◌∷◌, ◌++◌, length, drop, refl, ap, ◌∙◌, sym, arith, append_assoc, append-nil, length-append}
use Rattle.std.proofs.lemmas.List.{drop_all}
use Rattle.wdf_base.specs.Meaning.{Meaning}
use Rattle.wdf_base.specs.declared.plan.Plan.{Plan}
use Rattle.wdf_base.specs.declared.event.Event.{Event}
use Rattle.wdf_run_text.specs.Lines.{trace_lines, first_line}
use Rattle.wdf_run_text.specs.Texts.{end_lines, lines_so_far, HasEventsOf}
use Rattle.wdf_run_text.proofs.Cutting.{line_there}
use Rattle.wdf_run_text.proofs.EventsOfPlans.{none_among}

pub record IsReplayedTo {A : Type 0} (plan : Plan) (m : Meaning A) (trace : List ℕ) (at number : ℕ) (run : List Event) (told : ℕ) : Type 0 where
  pub inside : at ≤ length trace
  pub within : told ≤ length (end_lines plan m run)
  pub good : trace_lines trace ≡ lines_so_far plan m run told ++ trace_lines (drop at trace)
  pub counted : number ≡ length (lines_so_far plan m run told) + 1
  pub small : number ≤ at + 1
  pub few : told + 1 ≤ number
  pub valid : HasEventsOf plan run

no_events : (plan : Plan) (run : List Event) → run ≡ [] → HasEventsOf plan run
no_events plan run is = subst (HasEventsOf plan) (sym is) (none_among plan)

pub replayed_opens : {A : Type 0} (plan : Plan) (m : Meaning A) (trace : List ℕ) (run : List Event) → run ≡ [] → IsReplayedTo plan m trace 0 1 run 0
replayed_opens plan m trace run is = record {
  inside = omega arith;
  within = omega arith;
  good = rw is refl;
  counted = rw is refl;
  small = omega arith;
  few = omega arith;
  valid = no_events plan run is;
}

-- the line at the place, and the lines after it
pub next_line : {A : Type 0} (plan : Plan) (m : Meaning A) (trace : List ℕ) (at number : ℕ) (run : List Event) (told : ℕ) (line : List ℕ)
    → IsReplayedTo plan m trace at number run told → at < length trace → line ≡ first_line (drop at trace)
    → trace_lines trace ≡ lines_so_far plan m run told ++ line ∷ trace_lines (drop (at + length line) trace)
next_line plan m trace at number run told line before more is =
    before.good ∙ ap (λ ls. lines_so_far plan m run told ++ ls) (rw is (line_there trace at more))

pub replayed_goes_on : {A : Type 0} (plan : Plan) (m : Meaning A) (trace : List ℕ) (at number : ℕ) (run : List Event) (told : ℕ) (line : List ℕ) (next : List Event) (now : ℕ)
    → IsReplayedTo plan m trace at number run told → at < length trace → line ≡ first_line (drop at trace)
    → 0 < length line → at + length line ≤ length trace
    → lines_so_far plan m next now ≡ lines_so_far plan m run told ++ line ∷ [] → now ≤ length (end_lines plan m next) → now ≤ told + 1 → (HasEventsOf plan run → HasEventsOf plan next)
    → IsReplayedTo plan m trace (at + length line) (number + 1) next now
replayed_goes_on plan m trace at number run told line next now before more is some inside taken within few valid = record {
  inside = inside;
  within = within;
  good =
      next_line plan m trace at number run told line before more is
      ∙ sym (append_assoc (lines_so_far plan m run told) (line ∷ []) (trace_lines (drop (at + length line) trace)))
      ∙ ap (λ ls. ls ++ trace_lines (drop (at + length line) trace)) (sym taken);
  counted = omega (arith, before.counted, ap length taken, length-append (lines_so_far plan m run told) (line ∷ []));
  small = omega (arith, before.small, some);
  few = omega (arith, before.few, few);
  valid = valid before.valid;
}

-- at the end of the trace its lines are those so far
pub replayed_all : {A : Type 0} (plan : Plan) (m : Meaning A) (trace : List ℕ) (at number : ℕ) (run : List Event) (told : ℕ)
    → IsReplayedTo plan m trace at number run told → length trace ≤ at → trace_lines trace ≡ lines_so_far plan m run told
replayed_all plan m trace at number run told before past =
    before.good ∙ ap (λ bytes. lines_so_far plan m run told ++ trace_lines bytes) (drop_all at trace past) ∙ append-nil (lines_so_far plan m run told)
