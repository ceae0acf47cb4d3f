-- The numbers after the keys so far.
use Rattle.std.proofs.Common.{◌≡◌, take}
use Rattle.wdf_laws.specs.declared.sign.Sign.{Sign}
use Rattle.check_past.specs.Keys.{noted_each, number_of}
use Rattle.check_past.proofs.key.note_each.Given as goal

abbrev pub invariant-loop-key : goal.invariant-loop-key
invariant-loop-key l = (s : Sign) → number_of l.numbers s ≡ noted_each (take l.key-index l.shown) l.number s (number_of l.initial.numbers s)
