-- No object before this one is work that is open.
use Rattle.std.proofs.Common.{ap, sym, ◌∙◌, length, arith}
use Rattle.wdf_model.specs.Tables.{ids_of}
use Rattle.wdf_model.specs.parts.Tree.{Tree}
use Rattle.wdf_model.specs.rules.Ready.{is_open_work}
use Rattle.wdf_ready.proofs.AnyOf.{next_id_fails, no_id, some_filtered, some_id}
use Rattle.wdf_ready.proofs.endings.any_open_work.Goals as goal

pub returns-then-is_open_work : goal.returns-then-is_open_work
returns-then-is_open_work g c =
    let S = c.args.parts.now in
    let all = ap (λ (T : Tree). length T.nodes) c.tree.ensures in
    let below = c.loop-id-test.true in
    sym (some_filtered (is_open_work S) (ids_of S.tree.nodes)
    ∙ some_id (is_open_work S) (length S.tree.nodes) c.loop-id.id (omega (arith, c.len-id-end.ensures, all)) (sym c.is_open_work.ensures ∙ c.if-is_open_work.true))

pub loop-id-preserved : goal.loop-id-preserved
loop-id-preserved g c =
    next_id_fails (is_open_work c.args.parts.now) c.loop-id.id c.loop-id.invariant (sym c.is_open_work.ensures ∙ c.if-is_open_work.false)

pub returns : goal.returns
returns g c =
    let S = c.args.parts.now in
    let all = ap (λ (T : Tree). length T.nodes) c.tree.ensures in
    let over = c.loop-id-test.false in
    sym (some_filtered (is_open_work S) (ids_of S.tree.nodes)
    ∙ no_id (is_open_work S) (length S.tree.nodes) c.loop-id.id (omega (arith, c.len-id-end.ensures, all)) c.loop-id.invariant)
