use Rattle.wdf_plan.proofs.Detours.{detours_own}
use Rattle.wdf_plan.proofs.scripts.with_detour.Goals as goal

pub returns-clause-kept : goal.returns-clause-kept
returns-clause-kept c =
    rw (c.in_ok-push.ensures.items, c.in_ok-all.ensures.items) (detours_own _ _ _ _ c.requires.one_more c.requires.kept c.kept_way-own.ensures)
