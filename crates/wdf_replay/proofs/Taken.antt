-- One line is taken, or it is bad.
use Rattle.std.proofs.Common.{◌≡◌, inl, ℕ, ◌+◌, ◌<◌, ◌≤◌, ◌^◌, List, [], ◌∷◌, ◌++◌, length, Option, Some, None, Result, Ok, Err, refl, ap, ◌∙◌, sym, subst, arith, slice_get}
use Rattle.wdf_base.specs.Meaning.{Meaning}
use Rattle.wdf_base.specs.Resolved.{IsResolved}
use Rattle.wdf_base.specs.declared.plan.Plan.{Plan}
use Rattle.wdf_base.specs.declared.event.Event.{Event}
use Rattle.wdf_lines.specs.Lines.{line_text}
use Rattle.wdf_trace.specs.Events.{IsEventOf}
use Rattle.wdf_trace.specs.Waits.{IsEndingText}
use Rattle.wdf_replay.specs.declared.verdict.Why.{Why}
use Rattle.wdf_replay.specs.declared.verdict.Why.TheVariants as why
use Rattle.wdf_replay.specs.declared.told.Told.{Told}
use Rattle.wdf_replay.specs.declared.step.Reading.{Reading}
use Rattle.wdf_replay.specs.declared.step.Reading.TheVariants as reading
use Rattle.wdf_run_text.specs.Lines.{fed}
use Rattle.wdf_run_text.specs.Texts.{end_lines, lines_so_far}
use Rattle.wdf_run_text.proofs.EventsOfPlans.{one_more}
use Rattle.wdf_replay.specs.Verdicts.{IsEventText, IsWaitText, IsBadLine}
use Rattle.wdf_replay.specs.Steps.{IsReadAs, IsTakenEnd, IsNoEventFor, IsTakenLine}
use Rattle.wdf_replay.proofs.RunLines.{event_taken, end_taken, end_line_fed, fed_once, none_yet}

-- ---- a text that is read

nothing_found : {T : Type 0} (r : Option T) (x : T) → r ≡ None → r ≡ Some x → ⊥
nothing_found r x none found = let z : ⊥ = cc in z

pub read_no_event : {A : Type 0} (plan : Plan) (m : Meaning A) (old new : List Event) (text : List ℕ) (same : Plan) (r : Option (ℕ × Event))
    → same ≡ plan → IsResolved plan → r ≡ None → new ≡ old
    → (IsResolved same → (number : ℕ) (event : Event) → number < 2 ^ 64 → IsEventOf same event → line_text same number event ≡ text → r ≡ Some (number, event))
    → IsReadAs plan m old new text reading.NoEvent
read_no_event plan m old new text same r is resolved none left each = (
  left,
  λ it.
      let number = it.0 in
      let event = it.1 in
      let found = each (subst IsResolved (sym is) resolved) number event it.2.0 (subst (λ P. IsEventOf P event) (sym is) it.2.1) (ap (λ P. line_text P number event) is ∙ it.2.2) in
      nothing_found r (number, event) none found,
)

-- ---- a line that is taken

pub taken_event : {A : Type 0} (plan : Plan) (m : Meaning A) (old new : List Event) (told : Told) (text : List ℕ) (r : Reading)
    → r ≡ reading.Taken → told.lines ≤ length (end_lines plan m old) → IsReadAs plan m old new text r → IsTakenLine plan m old new told (fed text) (Ok told)
taken_event plan m old new told text reading.NotReady is within read = absurd (let z : ⊥ = cc in z)
taken_event plan m old new told text reading.NoEvent is within read = absurd (let z : ⊥ = cc in z)
taken_event plan m old new told text reading.Taken is within read =
    let p = event_taken plan m old told.lines (length old + 1) read.0 (fed text) text within read.2 refl read.3 refl in
    rw read.4 (p.0, p.1, omega arith, λ valid. one_more plan old read.0 valid read.1, inl (none_yet plan m old told.lines read.0 within read.2))

not_next_fed : {A : Type 0} (plan : Plan) (m : Meaning A) (old new : List Event) (told : Told) (text : List ℕ) (y : Why) (r : Result Told Why)
    → new ≡ old → IsTakenEnd plan m old told (fed text) y r
    → ((slice_get (end_lines plan m old) told.lines ≡ Some (fed text) → ⊥) → IsBadLine plan m old told.lines y (fed text))
    → IsTakenLine plan m old new told (fed text) r
not_next_fed plan m old new told text y (Ok now) left taken bad =
    let p = end_taken plan m old told.lines (fed text) taken.1 in
    let came : lines_so_far plan m old now.lines ≡ lines_so_far plan m old told.lines ++ fed text ∷ [] = rw taken.0 p.0 in
    let within : now.lines ≤ length (end_lines plan m old) = rw taken.0 p.1 in
    rw left (came, within, omega (arith, taken.0), λ valid. valid, taken.2)
not_next_fed plan m old new told text y (Err z) left taken bad = (subst (λ w. IsBadLine plan m old told.lines w (fed text)) (sym taken.0) (bad taken.1), left)

pub taken_not_ready : {A : Type 0} (plan : Plan) (m : Meaning A) (old new : List Event) (told : Told) (text : List ℕ) (read : Reading) (r : Result Told Why)
    → read ≡ reading.NotReady → IsReadAs plan m old new text read → IsTakenEnd plan m new told (fed text) why.NotReady r
    → IsTakenLine plan m old new told (fed text) r
taken_not_ready plan m old new told text reading.Taken r is was taken = absurd (let z : ⊥ = cc in z)
taken_not_ready plan m old new told text reading.NoEvent r is was taken = absurd (let z : ⊥ = cc in z)
taken_not_ready plan m old new told text reading.NotReady r is was taken =
    not_next_fed plan m old new told text why.NotReady r was.0 (subst (λ es. IsTakenEnd plan m es told (fed text) why.NotReady r) was.0 taken)
    (λ other. ((text, refl, was.1), other))

no_event_bad : {A : Type 0} (plan : Plan) (m : Meaning A) (old : List Event) (told : ℕ) (text : List ℕ) (y : Why)
    → (IsEventText plan text → ⊥) → IsNoEventFor plan text y → (slice_get (end_lines plan m old) told ≡ Some (fed text) → ⊥) → IsBadLine plan m old told y (fed text)
no_event_bad plan m old told text why.WrongEnding none for other = ((text, refl, none, for), other)
no_event_bad plan m old told text why.NotALine none for other =
    (λ t same. let e : text ≡ t = fed_once text t same in subst (λ u. (IsEventText plan u → ⊥) × (IsEndingText u → ⊥) × (IsWaitText plan u → ⊥)) e (none, for.0, for.1), other)
no_event_bad plan m old told text why.NotReady none for other = absurd for
no_event_bad plan m old told text why.Missing none for other = absurd for

pub taken_no_event : {A : Type 0} (plan : Plan) (m : Meaning A) (old new : List Event) (told : Told) (text : List ℕ) (read : Reading) (y : Why) (r : Result Told Why) (same : Plan)
    → read ≡ reading.NoEvent → IsReadAs plan m old new text read → same ≡ plan → IsNoEventFor same text y → IsTakenEnd plan m new told (fed text) y r
    → IsTakenLine plan m old new told (fed text) r
taken_no_event plan m old new told text reading.Taken y r same is was is_plan for taken = absurd (let z : ⊥ = cc in z)
taken_no_event plan m old new told text reading.NotReady y r same is was is_plan for taken = absurd (let z : ⊥ = cc in z)
taken_no_event plan m old new told text reading.NoEvent y r same is was is_plan for taken =
    not_next_fed plan m old new told text y r was.0 (subst (λ es. IsTakenEnd plan m es told (fed text) y r) was.0 taken)
    (no_event_bad plan m old told.lines text y was.1 (subst (λ P. IsNoEventFor P text y) is_plan for))

-- a line that no line feed ends
pub taken_none : {A : Type 0} (plan : Plan) (m : Meaning A) (old new : List Event) (told : Told) (line : List ℕ)
    → new ≡ old → ((text : List ℕ) → line ≡ fed text → ⊥) → IsTakenLine plan m old new told line (Err why.NotALine)
taken_none plan m old new told line left none =
    ((λ text is. absurd (none text is), λ here. let p = end_line_fed plan m old told.lines line here in none p.0 p.1), left)
