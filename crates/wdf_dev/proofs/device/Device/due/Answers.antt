-- The action at the place of the first that is due.
use Rattle.std.proofs.Common.{◌≡◌, Some, None, slice_get, ap, sym, subst, ◌∙◌}
use Rattle.wdf_base.specs.declared.event.Post.TheVariants as post
use Rattle.wdf_model.specs.declared.entries.DeviceAction.{DeviceAction}
use Rattle.std.proofs.Common.{List}
use Rattle.wdf_model.specs.agents.Device as model
use Rattle.wdf_model.specs.agents.Device.{Device}
use Rattle.wdf_dev.specs.declared.ahead.Ahead.{Ahead}
use Rattle.wdf_dev.proofs.Acting.{due_is}
use Rattle.wdf_dev.proofs.device.Device.due.Goals as goal

pub returns-in-Some : goal.returns-in-Some
returns-in-Some c =
    let s = c.self.inside in
    let V : Device = record { agent = s.agent; registers = s.registers.items; raised = s.raised.items; actions = s.actions.items; clock = s.clock } in
    let there : Some c.in-Some.due ≡ slice_get s.actions.items s.ahead.first = sym c.in-Some.is ∙ c.action_at.ensures ∙ ap (λ (xs : List DeviceAction). slice_get xs s.ahead.first) c.as_slice.ensures.value in
    subst (λ (W : Device). Some (post.Act c.in-Some.due.action) ≡ model.device_due W) c.self.view_is (due_is V s.ahead.first (Some c.in-Some.due) (ap (λ (a : Ahead). a.first) c.self.invariant.ahead) there)

pub returns-in-None : goal.returns-in-None
returns-in-None c =
    let s = c.self.inside in
    let V : Device = record { agent = s.agent; registers = s.registers.items; raised = s.raised.items; actions = s.actions.items; clock = s.clock } in
    let there : None ≡ slice_get s.actions.items s.ahead.first = sym c.in-None.is ∙ c.action_at.ensures ∙ ap (λ (xs : List DeviceAction). slice_get xs s.ahead.first) c.as_slice.ensures.value in
    subst (λ (W : Device). None ≡ model.device_due W) c.self.view_is (due_is V s.ahead.first None (ap (λ (a : Ahead). a.first) c.self.invariant.ahead) there)
