-- No law is broken at any place exactly where each event keeps the nine laws.
use Rattle.std.proofs.Common.{if◌then◌else◌, ◌≡◌, ◌↔◌, ℕ, Bool, true, false, List, length, take, slice_get, Option, None, Some, Result, Ok, Err, IfOk, IsNone, refl, sym, ap, ◌∙◌}
use Rattle.std.proofs.lemmas.Option.{slice_get_within}
use Rattle.wdf_base.specs.declared.plan.Plan.{Plan}
use Rattle.wdf_base.specs.declared.event.Event.{Event}
use Rattle.wdf_laws.specs.First.{IsFirstBroken, Kept, broken_at, broken_by, broken_in}
use Rattle.wdf_laws.specs.Frames.{frames_after}
use Rattle.wdf_laws.specs.Laws.{law_1, law_2, law_3, law_4, law_5, law_6, law_7, law_8, law_9}
use Rattle.law_trace_all.specs.Kept.{KeepsAt, KeepsLaws}

-- ---- one event

-- where none of a row of tests names a law, each of them holds
peel : (b : Bool) (x : Option ℕ) (n : ℕ) → (if b then x else Some n) ≡ None → (b ≡ true) × (x ≡ None)
peel true x n h = (refl, h)
peel false x n h = absurd (let z : ⊥ = cc in z)

wrap : (b : Bool) (x : Option ℕ) (n : ℕ) → b ≡ true → x ≡ None → (if b then x else Some n) ≡ None
wrap true x n h k = k
wrap false x n h k = absurd (let z : ⊥ = cc in z)

kept_by : (plan : Plan) (run : List Event) (k : ℕ) (e : Event) → broken_by plan run (take k run) (frames_after (take k run)) e ≡ None → KeepsAt plan run k e
kept_by plan run k e h =
    let a = peel (law_1 (take k run) e) _ 1 h in
    let b = peel (law_2 plan run (frames_after (take k run)) e) _ 2 a.1 in
    let c = peel (law_3 plan run (take k run) e) _ 3 b.1 in
    let d = peel (law_4 plan (take k run) (frames_after (take k run)) e) _ 4 c.1 in
    let f = peel (law_5 plan (take k run) e) _ 5 d.1 in
    let g = peel (law_6 plan (take k run) e) _ 6 f.1 in
    let i = peel (law_7 (take k run) e) _ 7 g.1 in
    let j = peel (law_8 (take k run) e) _ 8 i.1 in
    let l = peel (law_9 plan run (take k run) e) None 9 j.1 in
    record {
      completed = a.0;
      scoped = b.0;
      cleaned = c.0;
      served = d.0;
      powered = f.0;
      acknowledged = g.0;
      cancelled = i.0;
      in_turn = j.0;
      ended = l.0;
    }

none_by : (plan : Plan) (run : List Event) (k : ℕ) (e : Event) → KeepsAt plan run k e → broken_by plan run (take k run) (frames_after (take k run)) e ≡ None
none_by plan run k e h =
    wrap (law_1 (take k run) e) _ 1 h.completed (
    wrap (law_2 plan run (frames_after (take k run)) e) _ 2 h.scoped (
    wrap (law_3 plan run (take k run) e) _ 3 h.cleaned (
    wrap (law_4 plan (take k run) (frames_after (take k run)) e) _ 4 h.served (
    wrap (law_5 plan (take k run) e) _ 5 h.powered (
    wrap (law_6 plan (take k run) e) _ 6 h.acknowledged (
    wrap (law_7 (take k run) e) _ 7 h.cancelled (
    wrap (law_8 (take k run) e) _ 8 h.in_turn (
    wrap (law_9 plan run (take k run) e) None 9 h.ended refl))))))))

-- ---- the whole list

laws_kept : (plan : Plan) (run : List Event) → Kept plan run (length run) → KeepsLaws plan run
laws_kept plan run h k e at = kept_by plan run k e (sym (ap (broken_in plan run k) at) ∙ h k (slice_get_within run k e at))

none_in : (plan : Plan) (run : List Event) (k : ℕ) → KeepsLaws plan run → (o : Option Event) → slice_get run k ≡ o → broken_in plan run k o ≡ None
none_in plan run k h None at = refl
none_in plan run k h (Some e) at = none_by plan run k e (h k e at)

none_at : (plan : Plan) (run : List Event) → KeepsLaws plan run → (k : ℕ) → broken_at plan run k ≡ None
none_at plan run h k = none_in plan run k h (slice_get run k) refl

pub none_exactly : (plan : Plan) (run : List Event) (found : Option (ℕ × ℕ)) → IsFirstBroken plan run found → IsNone found ↔ KeepsLaws plan run
none_exactly plan run None h = (λ _. laws_kept plan run h, λ _. refl)
none_exactly plan run (Some x) h = (λ off. absurd (let z : ⊥ = cc in z), λ kept. let none : broken_at plan run h.0 ≡ None = none_at plan run kept h.0 in absurd (let z : ⊥ = cc (sym none ∙ h.3) in z))

pub kept_if : {E : Type 0} (plan : Plan) (run : List Event) (r : Result (Option (ℕ × ℕ)) E) → IfOk r (IsFirstBroken plan run) → IfOk r (λ found. IsNone found ↔ KeepsLaws plan run)
kept_if plan run (Ok found) h = none_exactly plan run found h
kept_if plan run (Err e) h = h
