-- The lines after the events of a run, one by one.
use Rattle.std.proofs.Common.{◌≡◌, ◌≢◌, inl, inr, ℕ, ◌+◌, ◌-◌, ◌<◌, Bool, List, ◌∷◌, drop, length, map, Some, slice_get, ap, sym, ◌∙◌, arith, IsTrue}
use Rattle.std.proofs.lemmas.List.{length-drop, length-map}
use Rattle.wdf_base.specs.Meaning.{Meaning}
use Rattle.wdf_base.specs.declared.plan.Plan.{Plan}
use Rattle.wdf_base.specs.declared.event.Event.{Event}
use Rattle.wdf_base.specs.declared.event.Ending.TheVariants as ending
use Rattle.wdf_base.specs.declared.wait.WaitLine.{WaitLine}
use Rattle.wdf_model.specs.rules.Ready.{ending_of}
use Rattle.wdf_model.specs.rules.Waits.{wait_list}
use Rattle.wdf_lines.specs.Endings.{wait_text}
use Rattle.wdf_core.specs.Walks.{waits_from}
use Rattle.wdf_core.proofs.Walking.{item_at, rest_left}
use Rattle.wdf_run_text.specs.Lines.{fed}
use Rattle.wdf_run_text.specs.Texts.{end_lines, fed_wait}
use Rattle.wdf_replay.specs.declared.told.Told.{Told}
use Rattle.wdf_replay.specs.Steps.{IsTold}
use Rattle.wdf_replay.proofs.RunLines.{end_lines_over, fed_once, no_end_lines, none_past}

module _ {A : Type 0} (plan : Plan) (m : Meaning A) (run : List Event) where
  -- after the line of the ending the whole wait list is left
  pub waits_follow : (left : List WaitLine) → 0 < length (end_lines plan m run) → left ≡ wait_list plan m run → drop 1 (end_lines plan m run) ≡ map (fed_wait plan) left
  waits_follow left some is =
      let over : ending_of plan m run ≡ ending.Running → ⊥ = λ h. let none = ap length (no_end_lines plan m run h) in let z : ⊥ = omega (arith, none, some) in z in
      ap (drop 1) (end_lines_over plan m run over) ∙ ap (map (fed_wait plan)) (sym is)

  -- the lines that are left once some have come
  abbrev pub IsLeft : Told → Type 0
  IsLeft told = (drop told.lines (end_lines plan m run) ≡ map (fed_wait plan) (waits_from plan m run told.place)) × (length (waits_from plan m run told.place) ≡ told.left)

  pub waits_left : (told : Told) → IsTold plan m run told → told.lines ≢ 0 → IsLeft told
  waits_left told (inl none) some = absurd (some none)
  waits_left told (inr left) some = left

  pub some_wait : (told : Told) → IsLeft told → told.lines < length (end_lines plan m run) → 0 < length (waits_from plan m run told.place)
  some_wait told left there =
      omega (arith, there, ap length left.0, length-drop told.lines (end_lines plan m run), length-map (waits_from plan m run told.place) (fed_wait plan))

  -- the line at the place is the next one
  pub wait_comes : (told : Told) (wait : WaitLine) (rest : List WaitLine) → IsLeft told → waits_from plan m run told.place ≡ wait ∷ rest
      → slice_get (end_lines plan m run) told.lines ≡ Some (fed_wait plan wait)
  wait_comes told wait rest left opens =
      item_at (end_lines plan m run) (map (fed_wait plan) rest) told.lines (fed_wait plan wait) (left.0 ∙ ap (map (fed_wait plan)) opens)

  -- and the others are left after it
  pub waits_rest : (told : Told) (wait : WaitLine) (rest : List WaitLine) → IsLeft told → waits_from plan m run told.place ≡ wait ∷ rest
      → (drop (told.lines + 1) (end_lines plan m run) ≡ map (fed_wait plan) rest) × (length rest ≡ told.left - 1)
  waits_rest told wait rest left opens = (
    sym (rest_left (end_lines plan m run) (map (fed_wait plan) rest) told.lines (fed_wait plan wait) (left.0 ∙ ap (map (fed_wait plan)) opens)),
    omega (arith, left.1, ap length opens),
  )

  -- where none is left, no line is the next one
  pub no_wait : (told : Told) (line : List ℕ) → IsLeft told → told.left ≡ 0 → slice_get (end_lines plan m run) told.lines ≡ Some line → ⊥
  no_wait told line left none here =
      none_past (end_lines plan m run) told.lines line
      (omega (arith, none, left.1, ap length left.0, length-drop told.lines (end_lines plan m run), length-map (waits_from plan m run told.place) (fed_wait plan))) here

-- a text is the line of a wait where it is that wait's text
pub wait_there : (plan same : Plan) (lines : List (List ℕ)) (k : ℕ) (text : List ℕ) (w : WaitLine) (b : Bool)
    → same ≡ plan → slice_get lines k ≡ Some (fed_wait plan w)
    → (IsTrue b → wait_text same w ≡ text) × (wait_text same w ≡ text → IsTrue b)
    → (IsTrue b → slice_get lines k ≡ Some (fed text)) × (slice_get lines k ≡ Some (fed text) → IsTrue b)
wait_there plan same lines k text w b is here tells = (
  λ yes. here ∙ ap (λ t. Some (fed t)) (ap (λ P. wait_text P w) (sym is) ∙ tells.0 yes),
  λ there. tells.1 (ap (λ P. wait_text P w) is ∙ fed_once (wait_text plan w) text (let e : fed (wait_text plan w) ≡ fed text = cc (sym here ∙ there) in e)),
)
