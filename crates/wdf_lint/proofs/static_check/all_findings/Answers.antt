-- The findings of one callback more are put behind those of the others.
use Rattle.std.proofs.Common.{◌≡◌, ◌<◌, ◌+◌, length, ℕ, sym, subst, arith}
use Rattle.wdf_lint.specs.Found.{IsAllOf}
use Rattle.wdf_lint.proofs.AllFound.{joined, none_found}
use Rattle.wdf_lint.proofs.static_check.all_findings.Goals as goal

pub loop-script-init : goal.loop-script-init
loop-script-init c = subst (IsAllOf c.args.plan.now (λ k. k < 0)) (sym c.new-found.ensures.items) (none_found c.args.plan.now)

pub loop-script-preserved : goal.loop-script-preserved
loop-script-preserved c =
    let n = c.loop-script.script in
    let new : IsAllOf c.args.plan.now (λ k. k ≡ n) c.in_ok-more.more.items = subst (λ (s : ℕ). IsAllOf c.args.plan.now (λ k. k ≡ s) c.in_ok-more.more.items) c.walk_of.ensures.script c.in_ok-more.ensures in
    subst (IsAllOf c.args.plan.now (λ k. k < n + 1)) (sym c.in_ok-append.ensures.items) (joined c.args.plan.now n c.loop-script.found.items c.in_ok-more.more.items c.loop-script.invariant new)

pub returns : goal.returns
returns c =
    let end : c.loop-script.script ≡ length c.args.plan.now.scripts = omega (arith, c.loop-script-test.false, c.loop-script.auto.script-end, c.script_len-script-end.ensures) in
    subst (λ (n : ℕ). IsAllOf c.args.plan.now (λ k. k < n) c.loop-script.found.items) end c.loop-script.invariant
