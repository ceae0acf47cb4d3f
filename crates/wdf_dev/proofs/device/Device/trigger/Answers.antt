-- One action more; then what is triggered with a delay.
use Rattle.std.proofs.Common.{◌≡◌, ◌≤◌, ◌<◌, length, map, vec_capacity, ap, ◌∙◌, arith}
use Rattle.wdf_model.specs.agents.Device.{Device, set_off}
use Rattle.wdf_dev.specs.Ahead.{ahead_of_actions}
use Rattle.wdf_dev.proofs.Acting.{all_triggered, as_long, one_more, within_after, written_all}
use Rattle.wdf_dev.proofs.device.Device.trigger.Goals as goal

pub act_at_once-requires : goal.act_at_once-requires
act_at_once-requires c =
    let size = ap (λ (H : Device). length H.actions) c.self.view_is in
    let same = as_long c.args.access c.args.k c.args.self.now c.loop-at.self c.loop-at.at c.loop-at.invariant in
    omega (arith, c.self.inside.actions.ok.0, c.len-at-end.ensures, c.loop-at-test.true)

pub loop-at-preserved : goal.loop-at-preserved
loop-at-preserved c =
    let size = ap (λ (H : Device). length H.actions) c.self.view_is in
    let within : c.loop-at.at < length c.args.self.now.actions = omega (arith, c.self.inside.actions.ok.0, c.len-at-end.ensures, c.loop-at-test.true) in
    one_more c.args.access c.args.k c.args.self.now c.loop-at.self c.act_at_once.new.self c.loop-at.at c.loop-at.invariant within c.act_at_once.ensures

pub invariant_of-self : goal.invariant_of-self
invariant_of-self c =
    let s = c.self-2.inside in
    let changed = c.set_off_all.ensures ∙ ap (map (set_off c.args.access c.args.k s.clock)) c.as_mut_slice.ensures.value in
    let long : s.actions.len ≡ length s.actions.items = omega (arith, s.actions.ok.0) in
    record {
      within = within_after (vec_capacity s.raised) c.args.access c.args.k s.clock _ s.actions.items
          (written_all c.args.access c.args.k s.clock s.actions.len c.set_off_all.new.actions s.actions.items _ changed long) c.self-2.invariant.within;
      ahead = c.ahead_of-self-inside.ensures ∙ ap (ahead_of_actions s.clock) c.as_slice.ensures.value;
    }

pub returns : goal.returns
returns c =
    let s = c.self-2.inside in
    let V : Device = record { agent = s.agent; registers = s.registers.items; raised = s.raised.items; actions = s.actions.items; clock = s.clock } in
    let size = ap (λ (H : Device). length H.actions) c.self.view_is in
    let past : length c.args.self.now.actions ≤ c.loop-at.at = omega (arith, c.self.inside.actions.ok.0, c.len-at-end.ensures, c.loop-at-test.false) in
    let changed = c.set_off_all.ensures ∙ ap (map (set_off c.args.access c.args.k s.clock)) c.as_mut_slice.ensures.value in
    let long : s.actions.len ≡ length s.actions.items = omega (arith, s.actions.ok.0) in
    all_triggered c.args.access c.args.k c.args.self.now V c.loop-at.at _ (c.self-2.view_is ∙ c.loop-at.invariant) past
    (written_all c.args.access c.args.k s.clock s.actions.len c.set_off_all.new.actions s.actions.items _ changed long)
