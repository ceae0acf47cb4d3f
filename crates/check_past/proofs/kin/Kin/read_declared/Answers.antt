-- None at first, and one declared object more.
use Rattle.std.proofs.Common.{◌+◌, Some, nat_eq, ap, ◌∙◌, sym}
use Rattle.std.specs.Map.{lookup}
use Rattle.check_past.specs.Maps.{or_empty, group_at, added_at}
use Rattle.check_past.proofs.Groups.{none_declared, one_declared}
use Rattle.check_past.proofs.kin.Kin.read_declared.Goals as goal

pub loop-n-init : goal.loop-n-init
loop-n-init c = λ o. ap (λ es. or_empty (lookup (nat_eq o) es)) c.new-children.ensures.empty ∙ sym (none_declared c.args.self.now.plan c.args.self.now.all o)

pub loop-n-preserved : goal.loop-n-preserved
loop-n-preserved c = λ o.
    c.in_ok-add.ensures o ∙ ap (λ p. added_at (Some p) (c.loop-n.n + 1) o (group_at c.loop-n.children o)) c.parent_of.ensures
    ∙ one_declared c.args.self.now.plan c.args.self.now.all o c.loop-n.n _ (c.loop-n.invariant o)
