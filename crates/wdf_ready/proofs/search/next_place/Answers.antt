-- What isn't due, closing or cleaned, or whose turn hasn't come, is passed over.
use Rattle.std.proofs.Common.{sym, ◌∙◌}
use Rattle.wdf_offers.proofs.Skips.{cleanups_answer, completions_answer, destroys_answer, due_answer, group_answer, searched, search_over, stages_answer, stays}
use Rattle.wdf_ready.proofs.search.next_place.Goals as goal

pub returns-then-from-end : goal.returns-then-from-end
returns-then-from-end g c = search_over c.args.plan.now g.A.Agent.meaning c.args.parts.now c.args.group c.args.from c.args.end c.requires.all c.if-from-end.true

pub returns-in-Starts : goal.returns-in-Starts
returns-in-Starts g c =
    group_answer c.args.plan.now g.A.Agent.meaning c.args.parts.now c.args.group _ c.args.from c.next_start.result (sym c.in-Starts.is) c.next_start.ensures

pub returns-in-Stages : goal.returns-in-Stages
returns-in-Stages g c =
    let all = searched c.args.plan.now g.A.Agent.meaning c.args.parts.now c.args.group c.args.from c.args.end c.requires.all c.if-from-end.false c.requires.few in
    stages_answer c.args.plan.now g.A.Agent.meaning c.args.parts.now c.args.group c.args.from c.args.end c.next_startable.result (sym c.in-Stages.is) all.is c.if-from-end.false c.requires.few c.next_startable.ensures

pub returns-in-StartsFor : goal.returns-in-StartsFor
returns-in-StartsFor g c =
    let all = searched c.args.plan.now g.A.Agent.meaning c.args.parts.now c.args.group c.args.from c.args.end c.requires.all c.if-from-end.false c.requires.few in
    due_answer c.args.plan.now g.A.Agent.meaning c.args.parts.now c.args.group _ c.in-StartsFor.rank _ c.args.from c.args.end c.next_due.result (sym c.in-StartsFor.is) all.is c.if-from-end.false c.requires.few c.next_due.ensures

pub returns-in-Completions : goal.returns-in-Completions
returns-in-Completions g c =
    let all = searched c.args.plan.now g.A.Agent.meaning c.args.parts.now c.args.group c.args.from c.args.end c.requires.all c.if-from-end.false c.requires.few in
    completions_answer c.args.plan.now g.A.Agent.meaning c.args.parts.now c.args.group c.args.from c.place_of.result (sym c.in-Completions.is) all.below all.few
    (sym (c.place_of.ensures ∙ rw c.requests.ensures at c.next_closing.ensures))

pub returns-in-Cleanups : goal.returns-in-Cleanups
returns-in-Cleanups g c =
    let all = searched c.args.plan.now g.A.Agent.meaning c.args.parts.now c.args.group c.args.from c.args.end c.requires.all c.if-from-end.false c.requires.few in
    cleanups_answer c.args.plan.now g.A.Agent.meaning c.args.parts.now c.args.group c.args.from c.place_of-in-Cleanups.result (sym c.in-Cleanups.is) all.below all.few
    (sym (c.place_of-in-Cleanups.ensures ∙ rw c.tree.ensures at c.turn_from.ensures))

pub returns-in-Destroys : goal.returns-in-Destroys
returns-in-Destroys g c =
    let all = searched c.args.plan.now g.A.Agent.meaning c.args.parts.now c.args.group c.args.from c.args.end c.requires.all c.if-from-end.false c.requires.few in
    destroys_answer c.args.plan.now g.A.Agent.meaning c.args.parts.now c.args.group c.args.from c.place_of-in-Destroys.result (sym c.in-Destroys.is) all.below all.few
    (sym (c.place_of-in-Destroys.ensures ∙ rw c.tree-in-Destroys.ensures at c.cleaned_from.ensures))

pub returns-in_default : goal.returns-in_default
returns-in_default g c =
    let all = searched c.args.plan.now g.A.Agent.meaning c.args.parts.now c.args.group c.args.from c.args.end c.requires.all c.if-from-end.false c.requires.few in
    stays c.args.plan.now g.A.Agent.meaning c.args.parts.now c.args.group c.args.from all.below all.few
