-- No object so far is work that is open.
use Rattle.std.proofs.Common.{ℕ, ◌≡◌, ◌<◌, false}
use Rattle.wdf_model.specs.rules.Ready.{is_open_work}
use Rattle.wdf_ready.proofs.endings.any_open_work.Given as goal

abbrev pub invariant-loop-id : goal.invariant-loop-id
invariant-loop-id g l = (j : ℕ) → j < l.id → is_open_work l.parts j ≡ false
