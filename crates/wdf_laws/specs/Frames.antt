-- Which frames are on the processors' stacks, and which callbacks have begun and not ended.
use Rattle.std.specs.Prelude.{ℕ, ◌+◌, Bool, ◌==◌, not, List, [], ◌∷◌, ◌++◌, filter, fold, find, position, remove, insert, Option, Some, None}
use Rattle.wdf_base.specs.declared.event.Event.{Event}
use Rattle.wdf_base.specs.declared.event.Event.TheVariants as event
use Rattle.wdf_laws.specs.declared.sign.Stacked.{Stacked}
use Rattle.wdf_laws.specs.declared.sign.Begun.{Begun}

pub record Frames : Type 0 where
  -- how many events there were
  pub number : ℕ
  -- the frames on the stacks; of one processor the first is the top
  pub stacks : List Stacked
  -- the callbacks that have begun and not ended
  pub begun : List Begun

abbrev pub is_on : ℕ → Stacked → Bool
is_on cpu s = s.cpu == cpu

-- the frame of a processor's event: the top of its stack
abbrev pub top_of : ℕ → List Stacked → Option Stacked
top_of cpu stacks = find (is_on cpu) stacks

-- without what is at a place
abbrev pub without_at : Option ℕ → List Stacked → List Stacked
without_at None stacks = stacks
without_at (Some k) stacks = remove stacks k

-- without a processor's top
abbrev pub without_top : ℕ → List Stacked → List Stacked
without_top cpu stacks = without_at (position (is_on cpu) stacks) stacks

abbrev pub pushed : ℕ → ℕ → List Stacked → List Stacked
pushed cpu frame stacks = insert stacks 0 (record { cpu = cpu; frame = frame })

abbrev pub is_other : ℕ → Begun → Bool
is_other frame b = not (b.frame == frame)

-- without the callback that ends, if there is one
abbrev pub without_ended : Option Stacked → List Begun → List Begun
without_ended None begun = begun
without_ended (Some s) begun = filter (is_other s.frame) begun

-- One event more. A start pushes the number of its event and an unpark the frame that it names; a park and an end
-- take the top.
abbrev pub frames_step : Frames → Event → Frames
frames_step F (event.Start cpu c object request) = record {
  number = F.number + 1;
  stacks = pushed cpu.0 (F.number + 1) F.stacks;
  begun = F.begun ++ (record { frame = F.number + 1; callback = c; object = object.id.0 }) ∷ [];
}
frames_step F (event.Unpark cpu f) = record { number = F.number + 1; stacks = pushed cpu.0 f.0 F.stacks; begun = F.begun }
frames_step F (event.Park cpu f) = record { number = F.number + 1; stacks = without_top cpu.0 F.stacks; begun = F.begun }
frames_step F (event.End cpu c object v) = record {
  number = F.number + 1;
  stacks = without_top cpu.0 F.stacks;
  begun = without_ended (top_of cpu.0 F.stacks) F.begun;
}
frames_step F _ = record { number = F.number + 1; stacks = F.stacks; begun = F.begun }

abbrev pub no_frames : Frames
no_frames = record { number = 0; stacks = []; begun = [] }

unfoldable pub frames_after : List Event → Frames
frames_after events = fold frames_step no_frames events
