-- A rank for requests has a group for each of its objects.
use Rattle.std.proofs.Common.{◌≡◌, ◌++◌, OnOk, ap, subst, ◌∙◌}
use Rattle.wdf_model.specs.rules.Groups.{groups_for}
use Rattle.wdf_ready.specs.Blocks.{ObjectLists, joined, objects_of}
use Rattle.wdf_ready.proofs.Grouping.{for_rank}
use Rattle.wdf_ready.proofs.groups.push_rank.Goals as goal

pub returns-in-Completion : goal.returns-in-Completion
returns-in-Completion c =
    let each = for_rank c.args.plan.now c.args.cpu c.args.rank c.in-Completion.is in
    subst (λ gs. OnOk c.push_for_each.result (joined c.args.objects.now c.push_for_each.new.made.items ≡ joined c.args.objects.now c.args.made.now.items ++ gs))
    (ap (λ (o : ObjectLists). groups_for c.args.cpu c.args.rank (objects_of o c.args.rank)) c.requires.objects ∙ each) c.push_for_each.ensures
