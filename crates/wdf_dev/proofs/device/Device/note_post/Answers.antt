-- The first action that is due, if there is one.
use Rattle.std.proofs.Common.{◌≡◌, ◌≤◌, ◌<◌, length, ap, subst, arith}
use Rattle.std.specs.List.{position_or_len}
use Rattle.wdf_model.specs.agents.Device as model
use Rattle.wdf_model.specs.agents.Device.{Device}
use Rattle.wdf_dev.specs.Actions.{is_due}
use Rattle.wdf_dev.specs.declared.ahead.Ahead.{Ahead}
use Rattle.wdf_dev.proofs.Acting.{not_posted, posted}
use Rattle.wdf_dev.proofs.device.Device.note_post.Goals as goal

pub returns-then-at-len : goal.returns-then-at-len
returns-then-at-len c =
    let s = c.self.inside in
    let V : Device = record { agent = s.agent; registers = s.registers.items; raised = s.raised.items; actions = s.actions.items; clock = s.clock } in
    let place : s.ahead.first ≡ position_or_len (is_due s.clock) s.actions.items = ap (λ (a : Ahead). a.first) c.self.invariant.ahead in
    let within : s.ahead.first < length s.actions.items = omega (arith, c.if-at-len.true, c.len.ensures) in
    subst (λ (W : Device). c.act.new.self ≡ model.posted_action W (model.due_action W)) c.self.view_is
    (posted V c.act.new.self s.ahead.first c.index_mut.result.now place c.index_mut.ensures.value within c.act.ensures)

pub returns-else-at-len : goal.returns-else-at-len
returns-else-at-len c =
    let s = c.self.inside in
    let V : Device = record { agent = s.agent; registers = s.registers.items; raised = s.raised.items; actions = s.actions.items; clock = s.clock } in
    let place : s.ahead.first ≡ position_or_len (is_due s.clock) s.actions.items = ap (λ (a : Ahead). a.first) c.self.invariant.ahead in
    let past : length s.actions.items ≤ s.ahead.first = omega (arith, c.if-at-len.false, c.len.ensures) in
    subst (λ (W : Device). W ≡ model.posted_action W (model.due_action W)) c.self.view_is (not_posted V s.ahead.first place past)
