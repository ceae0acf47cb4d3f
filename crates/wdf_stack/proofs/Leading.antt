-- The first device of a list, step by step.
use Rattle.std.proofs.Common.{◌≡◌, ℕ, zero, suc, ◌+◌, ◌-◌, ◌<◌, ◌≤◌, List, Some, None, refl, sym, arith}
use Rattle.wdf_base.specs.declared.ids.Handle.{Handle}
use Rattle.wdf_base.specs.declared.event.Ask.{Ask}
use Rattle.wdf_model.specs.declared.stack.StackDevice.{StackDevice}
use Rattle.wdf_model.specs.agents.StackManager.{first_in, leader}

goes_back : (devices : List StackDevice) (a : Ask) (n : ℕ) (d e : Handle) → leader devices a d.id.0 ≡ Some e → first_in devices a (suc n) d ≡ first_in devices a n e
goes_back devices a n d e h = rw (first_in, h) refl

stays_first : (devices : List StackDevice) (a : Ask) (n : ℕ) (d : Handle) → leader devices a d.id.0 ≡ None → first_in devices a n d ≡ d
stays_first devices a zero d h = refl
stays_first devices a (suc n) d h = rw (first_in, h) refl

pub one_back : (devices : List StackDevice) (a : Ask) (steps k : ℕ) (d e : Handle) → k < steps → leader devices a d.id.0 ≡ Some e → first_in devices a (steps - (k + 1)) e ≡ first_in devices a (steps - k) d
one_back devices a steps k d e l h =
    let left : steps - k ≡ suc (steps - (k + 1)) = omega (arith, l) in
    rw left (sym (goes_back devices a (steps - (k + 1)) d e h))

pub at_first : (devices : List StackDevice) (a : Ask) (n : ℕ) (d : Handle) → leader devices a d.id.0 ≡ None → d ≡ first_in devices a n d
at_first devices a n d h = sym (stays_first devices a n d h)

pub no_steps : (devices : List StackDevice) (a : Ask) (steps k : ℕ) (d : Handle) → steps ≤ k → d ≡ first_in devices a (steps - k) d
no_steps devices a steps k d l =
    let left : steps - k ≡ 0 = omega (arith, l) in
    rw left refl
