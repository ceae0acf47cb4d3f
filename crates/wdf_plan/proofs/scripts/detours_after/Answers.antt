use Rattle.wdf_plan.proofs.Detours.{after_if, after_repeat, after_end, after_same, kept_inside, one_inside, kept_outside, each_outside, kept_same}
use Rattle.wdf_plan.proofs.scripts.detours_after.Goals as goal

pub with_detour-requires-clause-kept : goal.with_detour-requires-clause-kept
with_detour-requires-clause-kept c =
    kept_inside _ _ _ _ _ (after_if _ _ _ _ _ _ c.requires.after c.in-If.is) c.requires.each c.requires.kept

pub with_detour-requires-clause-one_more : goal.with_detour-requires-clause-one_more
with_detour-requires-clause-one_more c =
    one_inside _ _ _ _ (after_if _ _ _ _ _ _ c.requires.after c.in-If.is) c.requires.each

pub with_detour-requires-in-Repeat-clause-kept : goal.with_detour-requires-in-Repeat-clause-kept
with_detour-requires-in-Repeat-clause-kept c =
    kept_inside _ _ _ _ _ (after_repeat _ _ _ _ _ _ c.requires.after c.in-Repeat.is) c.requires.each c.requires.kept

pub with_detour-requires-in-Repeat-clause-one_more : goal.with_detour-requires-in-Repeat-clause-one_more
with_detour-requires-in-Repeat-clause-one_more c =
    one_inside _ _ _ _ (after_repeat _ _ _ _ _ _ c.requires.after c.in-Repeat.is) c.requires.each

pub returns-in-End-clause-kept : goal.returns-in-End-clause-kept
returns-in-End-clause-kept c =
    kept_outside (λ v. v.items) _ _ _ _ c.copied_detours.result (after_end _ _ _ _ _ c.requires.after c.in-End.is) c.requires.each c.requires.kept (rw c.outer_detours.ensures at c.copied_detours.ensures)

pub returns-in-End-clause-each : goal.returns-in-End-clause-each
returns-in-End-clause-each c =
    each_outside (λ v. v.items) _ _ _ c.copied_detours.result (after_end _ _ _ _ _ c.requires.after c.in-End.is) c.requires.each (rw c.outer_detours.ensures at c.copied_detours.ensures)

pub returns-in_default : goal.returns-in_default
returns-in_default c =
    let same = kept_same (λ v. v.items) _ _ _ _ c.copied_detours-in_default.result (after_same _ _ _ _ _ c.requires.after c.in_default.not-If c.in_default.not-Repeat c.in_default.not-End) c.requires.each c.requires.kept c.copied_detours-in_default.ensures in
    record { kept = same.0; each = same.1 }
