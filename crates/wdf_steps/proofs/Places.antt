-- A frame that changes and one that is placed: the order doesn't matter.
use Rattle.std.proofs.Common.{◌≡◌, ℕ, Option, Some, None, refl}
use Rattle.wdf_base.specs.declared.frame.Change.{Change}
use Rattle.wdf_base.specs.declared.frame.Change.TheVariants as change
use Rattle.wdf_base.specs.declared.frame.Frame.{Frame}
use Rattle.wdf_base.specs.declared.value.Value.{Value}
use Rattle.wdf_model.specs.rules.Steps.{changed, with_answer}

-- a change leaves the rest of the frame
pub placed_is : (frame : Frame) (c : Change) (at : ℕ) → record (changed frame c) { at = at; until = frame.until; pending = frame.pending } ≡ record (changed frame c) { at = at }
placed_is frame (change.Assign variable v) at = refl
placed_is frame change.Branch at = refl
placed_is frame (change.Count depth left) at = refl

-- an answer leaves the rest of the frame
pub answer_placed : (frame : Frame) (at : ℕ) (variable : Option ℕ) (v : Value)
    → record (with_answer frame variable v) { at = at; until = frame.until; pending = None } ≡ record (with_answer (record frame { at = at }) variable v) { pending = None }
answer_placed frame at None v = refl
answer_placed frame at (Some variable) v = refl
