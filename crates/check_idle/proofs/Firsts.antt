-- The first event that breaks the law, and that there is none where each keeps it.
use Rattle.std.proofs.Common.{◌≡◌, ◌↔◌, inl, inr, ℕ, suc, ◌+◌, Bool, false, not, List, [], length, map, option_map, slice_get, take, Option, Some, None, Result, Ok, Err, IfOk, IsNone, refl, sym, ap, ◌∙◌, arith}
use Rattle.std.specs.List.{list_all}
use Rattle.std.proofs.lemmas.Option.{slice_get_within}
use Rattle.wdf_base.specs.Resolved.{IsResolved}
use Rattle.wdf_base.specs.declared.plan.Plan.{Plan}
use Rattle.wdf_base.specs.declared.event.Event.{Event}
use Rattle.wdf_base.proofs.Tests.{not_false}
use Rattle.wdf_model.specs.rules.Ready.{IsRunOf}
use Rattle.wdf_model.proofs.Counts.{one_or_two}
use Rattle.wdf_model.proofs.Runs.{take_next}
use Rattle.wdf_idle.specs.Agents.{idle_meaning}
use Rattle.law_idle.specs.First.{breaks_at, breaks_law, first_break}
use Rattle.law_idle.specs.Idling.{time_after, time_step}
use Rattle.law_idle.specs.Law.{KeepsIdleLaw, keeps_idle_law}
use Rattle.law_idle.proofs.Program.{idle_runs_keep_law}
use Rattle.law_idle.proofs.Since.{time_more}
use Rattle.check_past.specs.Past.{Read, before}
use Rattle.check_idle.specs.First.{IsFirstBreak, NoneBefore}
use Rattle.check_idle.specs.Watched.{Watched, keeps, watched_after}
use Rattle.check_idle.specs.Timed.{watches_after}
use Rattle.check_idle.proofs.Lists.{first_is, first_none}
use Rattle.check_idle.proofs.Laws.{law_as}
use Rattle.check_idle.proofs.Words.{all_more}

-- ---- one event, by what is kept of those before

pub breaks_as : (plan : Plan) (all : List Event) (k : ℕ) (e : Event) (now : ℕ) (watches : List Watched) (b : Bool) → slice_get all k ≡ Some e → now ≡ time_after (take k all) → watches ≡ watches_after plan (take k all)
    → b ≡ not (list_all (keeps now e) watches) → breaks_at plan all k ≡ b
breaks_as plan all k e now watches b at time kept is =
    ap (breaks_law plan (take k all)) at
    ∙ ap not (law_as plan (take k all) e ∙ sym (ap (λ t. list_all (keeps t e) watches) time ∙ ap (list_all (keeps (time_after (take k all)) e)) kept))
    ∙ sym is

pub time_next : (all : List Event) (k : ℕ) (e : Event) (now r : ℕ) → slice_get all k ≡ Some e → now ≡ time_after (take k all) → r ≡ time_step now e → r ≡ time_after (take (k + 1) all)
time_next all k e now r at time is =
    let n : k + 1 ≡ suc k = omega arith in
    is ∙ ap (λ t. time_step t e) time ∙ sym (time_more (take k all) e) ∙ sym (ap time_after (ap (λ i. take i all) n ∙ take_next all k e at))

pub time_none : 0 ≡ time_after []
unfolding time_after
time_none = refl

pub watches_next : (plan : Plan) (all : List Event) (k : ℕ) (e : Event) (R : Read) (now : ℕ) (was watches : List Watched) → slice_get all k ≡ Some e → R ≡ record { plan = plan; all = all; number = k } → now ≡ time_after (take k all) → was ≡ watches_after plan (take k all)
    → watches ≡ map (watched_after (before R) now e) was → watches ≡ watches_after plan (take (k + 1) all)
watches_next plan all k e R now was watches at read time kept is =
    let n : suc k ≡ k + 1 = omega arith in
    is ∙ ap (λ (S : Read). map (watched_after (before S) now e) was) read ∙ ap (λ t. map (watched_after (take k all) t e) was) time ∙ ap (map (watched_after (take k all) (time_after (take k all)) e)) kept
    ∙ all_more plan all k e at ∙ ap (λ i. watches_after plan (take i all)) n

pub none_more : (plan : Plan) (all : List Event) (k : ℕ) → NoneBefore plan all k → breaks_at plan all k ≡ false → NoneBefore plan all (k + 1)
none_more plan all k before here = λ j low. elim (one_or_two j k) [
  | inl same ↦ ap (breaks_at plan all) same ∙ here
  | inr other ↦ before j (omega (arith, other))
]

-- ---- the whole list

pub first_of : (plan : Plan) (all : List Event) (found : Option ℕ) → IsFirstBreak plan all found → found ≡ first_break plan all
first_of plan all None h = sym (ap (option_map suc) (first_none (breaks_at plan all) (length all) h))
first_of plan all (Some n) h = ap Some h.1 ∙ sym (ap (option_map suc) (first_is (breaks_at plan all) (length all) h.0 h.2 h.4 h.3) ∙ (let next : suc h.0 ≡ h.0 + 1 = omega arith in ap Some next))

kept_by : (plan : Plan) (all : List Event) → NoneBefore plan all (length all) → KeepsIdleLaw plan all
kept_by plan all h k e at = not_false (keeps_idle_law plan (take k all) e) (sym (ap (breaks_law plan (take k all)) at) ∙ h k (slice_get_within all k e at))

breaks_not : (plan : Plan) (all : List Event) → KeepsIdleLaw plan all → (k : ℕ) (o : Option Event) → slice_get all k ≡ o → breaks_law plan (take k all) o ≡ false
breaks_not plan all h k None at = refl
breaks_not plan all h k (Some e) at = ap not (h k e at)

-- none is found exactly where each event keeps the law
none_exactly : (plan : Plan) (all : List Event) (found : Option ℕ) → IsFirstBreak plan all found → IsNone found ↔ KeepsIdleLaw plan all
none_exactly plan all None h = (λ _. kept_by plan all h, λ _. refl)
none_exactly plan all (Some n) h = (
  λ off. absurd (let z : ⊥ = cc in z),
  λ kept. let off : breaks_at plan all h.0 ≡ false = breaks_not plan all kept h.0 (slice_get all h.0) refl in absurd (let on = h.3 in let z : ⊥ = cc in z),
)

-- ---- the answer

pub first_if : {E : Type 0} (plan : Plan) (all : List Event) (r : Result (Option ℕ) E) → IfOk r (IsFirstBreak plan all) → IfOk r (λ found. found ≡ first_break plan all)
first_if plan all (Ok found) h = first_of plan all found h
first_if plan all (Err e) h = h

pub kept_if : {E : Type 0} (plan : Plan) (all : List Event) (r : Result (Option ℕ) E) → IfOk r (IsFirstBreak plan all) → IfOk r (λ found. IsNone found ↔ KeepsIdleLaw plan all)
kept_if plan all (Ok found) h = none_exactly plan all found h
kept_if plan all (Err e) h = h

pub runs_if : {E : Type 0} (plan : Plan) (all : List Event) (r : Result (Option ℕ) E) → IfOk r (IsFirstBreak plan all) → IfOk r (λ found. IsResolved plan → IsRunOf plan idle_meaning all → IsNone found)
runs_if plan all (Ok found) h = λ resolved is_run. (none_exactly plan all found h).1 (λ k e at. idle_runs_keep_law plan all k e resolved is_run at)
runs_if plan all (Err e) h = h
