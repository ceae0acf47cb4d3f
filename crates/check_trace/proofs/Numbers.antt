-- How many events there were.
use Rattle.std.proofs.Common.{◌≡◌, ◌⊎◌, inl, inr, ℕ, suc, ◌+◌, ◌<◌, ◌≤◌, List, [], ◌∷◌, ◌++◌, Some, None, length, take, slice_get, fold, refl, ap, ◌∙◌, arith}
use Rattle.std.proofs.lemmas.Bool.{cases_lt}
use Rattle.std.proofs.lemmas.List.{length-take-le}
use Rattle.wdf_base.specs.declared.plan.Plan.{Plan}
use Rattle.wdf_model.proofs.Runs.{take_next}
use Rattle.wdf_laws.specs.First.{Kept, broken_at}
use Rattle.std.proofs.lemmas.Grind.{fold-append}
use Rattle.wdf_base.specs.declared.event.Event.{Event}
use Rattle.wdf_base.specs.declared.event.Event.TheVariants as event
use Rattle.wdf_laws.specs.Frames.{Frames, frames_step, frames_after, no_frames}

pub number_step : (F : Frames) (e : Event) → (frames_step F e).number ≡ F.number + 1
number_step F (event.Start cpu c o r) = refl
number_step F _ = refl

number_along : (F : Frames) (es : List Event) → (fold frames_step F es).number ≡ F.number + length es
number_along F [] = omega arith
number_along F (e ∷ es) =
    let next = number_along (frames_step F e) es in
    let one = number_step F e in
    omega arith

pub number_after : (es : List Event) → (frames_after es).number ≡ length es
unfolding frames_after
number_after es = let h : (fold frames_step no_frames es).number ≡ 0 + length es = number_along no_frames es in omega arith

pub frames_none : frames_after [] ≡ no_frames
unfolding frames_after
frames_none = refl

-- before event k there were k events
pub number_at : (es : List Event) (k : ℕ) → k ≤ length es → (frames_after (take k es)).number ≡ k
number_at es k h = number_after (take k es) ∙ length-take-le k es h

-- one event more
pub frames_next : (es : List Event) (e : Event) → frames_after (es ++ e ∷ []) ≡ frames_step (frames_after es) e
unfolding frames_after
frames_next es e = fold-append frames_step no_frames es (e ∷ [])

pub frames_at : (es : List Event) (k : ℕ) (e : Event) → slice_get es k ≡ Some e → frames_after (take (k + 1) es) ≡ frames_step (frames_after (take k es)) e
frames_at es k e h =
    let n : k + 1 ≡ suc k = omega arith in
    ap frames_after (ap (λ i. take i es) n ∙ take_next es k e h) ∙ frames_next (take k es) e

-- no law is broken up to and with place k
kept_by : (plan : Plan) (es : List Event) (k : ℕ) → Kept plan es k → broken_at plan es k ≡ None → (j : ℕ) → (j < k) ⊎ (k ≤ j) → j < k + 1 → broken_at plan es j ≡ None
kept_by plan es k kept now j (inl h) m = kept j h
kept_by plan es k kept now j (inr h) m = let same : j ≡ k = omega arith in ap (broken_at plan es) same ∙ now

pub kept_more : (plan : Plan) (es : List Event) (k : ℕ) → Kept plan es k → broken_at plan es k ≡ None → Kept plan es (k + 1)
kept_more plan es k kept now = λ j h. kept_by plan es k kept now j (cases_lt j k) h
