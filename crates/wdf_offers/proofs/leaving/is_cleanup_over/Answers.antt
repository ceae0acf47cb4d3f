-- None is declared, or what has its turn declares none.
use Rattle.std.proofs.Common.{sym, ap, not, ◌∙◌}
use Rattle.wdf_base.specs.declared.call.Callback.TheVariants as callback
use Rattle.wdf_offers.proofs.Leavers.{turns_over, none_is, none_over}
use Rattle.wdf_offers.proofs.leaving.is_cleanup_over.Goals as goal

pub returns-then-not-declares_cleanup_callback : goal.returns-then-not-declares_cleanup_callback
returns-then-not-declares_cleanup_callback g c h o on =
    none_over c.args.plan.now c.args.parts.now callback.EvtCleanupCallback (sym c.declares_cleanup_callback.ensures ∙ c.if-not-declares_cleanup_callback.true) o

pub returns : goal.returns
returns g c h o on =
    turns_over c.args.plan.now c.args.parts.now c.len-end.result (rw c.tree.ensures at c.len-end.ensures)
    (none_is c.next_counted_turn.result _ _ (rw c.tree-2.ensures at c.next_counted_turn.ensures) (c.is_none.ensures ∙ ap not h)) o on
