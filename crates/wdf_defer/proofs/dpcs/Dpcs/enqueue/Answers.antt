use Rattle.std.proofs.Common.{◌<◌, List, ℕ, [], length, sym, ap, subst}
use Rattle.wdf_model.specs.parts.Deferred.Dpcs.{Dpcs}
use Rattle.wdf_model.proofs.Maps.{put_within}
use Rattle.wdf_defer.proofs.dpcs.Dpcs.enqueue.Goals as goal

pub returns-clause-done : goal.returns-clause-done
returns-clause-done c =
    let P : Dpcs → Type 0 = λ D. c.args.cpu.0 < length D.lists in
    let known : c.args.cpu.0 < length c.self.inside.queued.lists = subst P (sym c.self.view_is) c.requires.cpu in
    let Q : List (List ℕ) → Dpcs = λ lists. record { lists = lists } in
    rw (c.push_back.ensures, c.from.ensures, ← c.self.view_is) (ap Q (sym (put_within [] c.self.inside.queued.lists c.args.cpu.0 _ known)))
