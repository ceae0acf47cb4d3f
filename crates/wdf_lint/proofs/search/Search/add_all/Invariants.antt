-- The states so far are added, and paths only become more.
use Rattle.std.proofs.Common.{◌≡◌, ◌<◌, fold, length, None, take}
use Rattle.wdf_lint.specs.Searches.{Adding, added_by, table_of}
use Rattle.wdf_lint.specs.Walks.{line_at}
use Rattle.wdf_lint.proofs.SameState.{eq}
use Rattle.wdf_lint.proofs.search.Search.add_all.Given as goal

abbrev pub invariant-loop-a : goal.invariant-loop-a
invariant-loop-a l =
    (l.path < length l.self.paths)
    × (◌≡◌ {A = Adding} (record { table = table_of l.self; last = l.last }) (fold (added_by eq (line_at l.plan l.w.script) l.path) (record { table = table_of l.fn.self; last = None }) (take l.a-index l.states)))
