-- A frame's own event may come, and so may each completion.
use Rattle.std.proofs.Common.{sym, ap, ◌∙◌}
use Rattle.wdf_offers.specs.Search.{if_allowed, offered}
use Rattle.wdf_offers.proofs.Own.{own_is_offered}
use Rattle.wdf_offers.proofs.Straight.{completion_is_offered}
use Rattle.wdf_ready.proofs.search.offered.Goals as goal

pub returns-in-OwnEvent : goal.returns-in-OwnEvent
returns-in-OwnEvent g c = c.own_event.ensures ∙ own_is_offered c.args.plan.now g.A.Agent.meaning c.args.parts.now c.in-OwnEvent.cpu c.args.group c.args.place (sym c.in-OwnEvent.is)

pub returns-in-Completions : goal.returns-in-Completions
returns-in-Completions g c = c.completion_at.ensures ∙ completion_is_offered c.args.plan.now g.A.Agent.meaning c.args.parts.now c.args.group c.args.place (sym c.in-Completions.is)

pub returns-in-Cleanups : goal.returns-in-Cleanups
returns-in-Cleanups g c = c.cleanup_offered.ensures ∙ ap (λ h. offered c.args.plan.now g.A.Agent.meaning c.args.parts.now h c.args.place) (sym c.in-Cleanups.is)

pub returns-in-Destroys : goal.returns-in-Destroys
returns-in-Destroys g c = c.end_offered.ensures ∙ ap (λ h. offered c.args.plan.now g.A.Agent.meaning c.args.parts.now h c.args.place) (sym c.in-Destroys.is)

pub returns-in-Starts : goal.returns-in-Starts
returns-in-Starts g c = c.start_offered.ensures ∙ ap (λ h. offered c.args.plan.now g.A.Agent.meaning c.args.parts.now h c.args.place) (sym c.in-Starts.is)

pub returns-in-Parks : goal.returns-in-Parks
returns-in-Parks g c = c.allowed.ensures ∙ ap (if_allowed c.args.plan.now g.A.Agent.meaning c.args.parts.now) c.parks.ensures ∙ ap (λ h. offered c.args.plan.now g.A.Agent.meaning c.args.parts.now h c.args.place) (sym c.in-Parks.is)

pub returns-in-Unparks : goal.returns-in-Unparks
returns-in-Unparks g c = c.allowed-in-Unparks.ensures ∙ ap (if_allowed c.args.plan.now g.A.Agent.meaning c.args.parts.now) c.unparks.ensures ∙ ap (λ h. offered c.args.plan.now g.A.Agent.meaning c.args.parts.now h c.args.place) (sym c.in-Unparks.is)

pub returns-in-StartsFor : goal.returns-in-StartsFor
returns-in-StartsFor g c = c.allowed-in-StartsFor.ensures ∙ ap (if_allowed c.args.plan.now g.A.Agent.meaning c.args.parts.now) c.start_for-event.ensures ∙ ap (λ h. offered c.args.plan.now g.A.Agent.meaning c.args.parts.now h c.args.place) (sym c.in-StartsFor.is)

pub returns-in-Stages : goal.returns-in-Stages
returns-in-Stages g c = c.allowed-in-Stages.ensures ∙ ap (if_allowed c.args.plan.now g.A.Agent.meaning c.args.parts.now) c.stage_at.ensures ∙ ap (λ h. offered c.args.plan.now g.A.Agent.meaning c.args.parts.now h c.args.place) (sym c.in-Stages.is)

pub returns-in-Posts : goal.returns-in-Posts
returns-in-Posts g c = c.post_offered.ensures ∙ ap (λ h. offered c.args.plan.now g.A.Agent.meaning c.args.parts.now h c.args.place) (sym c.in-Posts.is)
