use Rattle.std.proofs.Common.{◌≡◌, ◌++◌, map, string_bytes, take}
use Rattle.wdf_perfetto.specs.Titles.{plain}
use Rattle.wdf_perfetto.proofs.text.add.Given as goal

abbrev pub invariant-loop-byte : goal.invariant-loop-byte
invariant-loop-byte l = string_bytes l.text ≡ string_bytes l.initial.text ++ map plain (take l.byte-index l.bytes)
