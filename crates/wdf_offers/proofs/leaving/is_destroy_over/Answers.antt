-- None is declared, or what is cleaned declares none.
use Rattle.std.proofs.Common.{sym, ap, not, ◌∙◌}
use Rattle.wdf_base.specs.declared.call.Callback.TheVariants as callback
use Rattle.wdf_offers.proofs.Leavers.{ends_over, none_is, none_over}
use Rattle.wdf_offers.proofs.leaving.is_destroy_over.Goals as goal

pub returns-then-not-declares_destroy_callback : goal.returns-then-not-declares_destroy_callback
returns-then-not-declares_destroy_callback g c h o on =
    none_over c.args.plan.now c.args.parts.now callback.EvtDestroyCallback (sym c.declares_destroy_callback.ensures ∙ c.if-not-declares_destroy_callback.true) o

pub returns : goal.returns
returns g c h o on =
    ends_over c.args.plan.now c.args.parts.now c.len-end.result (rw c.tree.ensures at c.len-end.ensures)
    (none_is c.next_counted_cleaned.result _ _ (rw c.tree-2.ensures at c.next_counted_cleaned.ensures) (c.is_none.ensures ∙ ap not h)) o on
