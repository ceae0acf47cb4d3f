use Rattle.std.proofs.Common.{◌≡◌, ◌++◌, take}
use Rattle.wdf_page.specs.Escaped.{escaped}
use Rattle.wdf_page.proofs.page.Page.text.Given as goal

abbrev pub invariant-loop-byte : goal.invariant-loop-byte
invariant-loop-byte l = l.self ≡ l.initial.self ++ escaped (take l.byte-index l.text)
