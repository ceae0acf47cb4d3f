-- What passes a test of equality is equal: stages, steps, and the events of frames.
use Rattle.std.proofs.Common.{◌≡◌, ℕ, true, Option, Some, None, rules}
use Rattle.std.specs.Bool.{Decides}
use Rattle.wdf_base.specs.Same.{same_access, same_ask, same_event, same_fault, same_handle, same_option, same_stage, same_step}
use Rattle.wdf_base.specs.declared.event.Access.{Access}
use Rattle.wdf_base.specs.declared.event.Ask.{Ask}
use Rattle.wdf_base.specs.declared.event.Event.{Event}
use Rattle.wdf_base.specs.declared.event.Event.TheVariants as event
use Rattle.wdf_base.specs.declared.event.Fault.{Fault}
use Rattle.wdf_base.specs.declared.event.Stage.{Stage}
use Rattle.wdf_base.specs.declared.event.Step.{Step}
use Rattle.wdf_base.specs.declared.event.Step.TheVariants as step
use Rattle.wdf_base.specs.declared.ids.Cpu.{Cpu}
use Rattle.wdf_base.specs.declared.ids.Handle.{Handle}
use Rattle.wdf_base.specs.declared.value.Value.{Value}
use Rattle.wdf_model.proofs.Sames.{cpu_same, value_same}
use Rattle.wdf_model.proofs.Tests.{both_left, both_right}

pub stage_decides : (a b : Stage) → Decides (same_stage a b) (a ≡ b)
stage_decides a b = search rules

pub ask_decides : (a b : Ask) → Decides (same_ask a b) (a ≡ b)
ask_decides a b = search rules

option_handle_decides : (a b : Option Handle) → Decides (same_option same_handle a b) (a ≡ b)
option_handle_decides a b = search rules

pub option_handle_is : (a b : Option Handle) → same_option same_handle a b ≡ true → a ≡ b
option_handle_is a b h = (option_handle_decides a b).0 h

pub pass_is : (x : Option Step) (s : Stage) (i : Option Handle) → same_option same_step x (Some (step.Pass s i)) ≡ true → x ≡ Some (step.Pass s i)
pass_is None s i h = absurd (let z : ⊥ = cc in z)
pass_is (Some (step.Run c j)) s i h = absurd (let z : ⊥ = cc in z)
pass_is (Some (step.Pass t j)) s i h =
    let a : t ≡ s = (stage_decides t s).0 (both_left (same_stage t s) (same_option same_handle j i) h) in
    let b : j ≡ i = option_handle_is j i (both_right (same_stage t s) (same_option same_handle j i) h) in
    cc

-- ---- the events of frames

pub fault_decides : (a b : Fault) → Decides (same_fault a b) (a ≡ b)
fault_decides a b = search rules

pub access_decides : (a b : Access) → Decides (same_access a b) (a ≡ b)
access_decides a b = search rules

pub local_same : (e : Event) (k : Cpu) (n : ℕ) → same_event e (event.Local k n) ≡ true → e ≡ event.Local k n
local_same (event.Local l x) k n h =
    let a : l ≡ k = cpu_same l k (search (rules, both_left)) in
    let b : x ≡ n = search (rules, both_left, both_right) in
    cc
local_same _ k n h = absurd (let z : ⊥ = cc in z)

pub log_same : (e : Event) (k : Cpu) (v : Value) → same_event e (event.Log k v) ≡ true → e ≡ event.Log k v
log_same (event.Log l w) k v h =
    let a : l ≡ k = cpu_same l k (search (rules, both_left)) in
    let b : w ≡ v = value_same w v (search (both_left, both_right)) in
    cc
log_same _ k v h = absurd (let z : ⊥ = cc in z)

pub spend_same : (e : Event) (k : Cpu) (n : ℕ) → same_event e (event.Spend k n) ≡ true → e ≡ event.Spend k n
spend_same (event.Spend l x) k n h =
    let a : l ≡ k = cpu_same l k (search (rules, both_left)) in
    let b : x ≡ n = search (rules, both_left, both_right) in
    cc
spend_same _ k n h = absurd (let z : ⊥ = cc in z)

pub register_same : (e : Event) (k : Cpu) (x : Access) (r n : ℕ) → same_event e (event.Register k x r n) ≡ true → e ≡ event.Register k x r n
register_same (event.Register l y q o) k x r n h =
    let a : l ≡ k = cpu_same l k (search (rules, both_left, both_right)) in
    let b : y ≡ x = (access_decides y x).0 (search (both_left, both_right)) in
    let c : q ≡ r = search (rules, both_left, both_right) in
    let d : o ≡ n = search (rules, both_left, both_right) in
    cc
register_same _ k x r n h = absurd (let z : ⊥ = cc in z)

pub fault_same : (e : Event) (k : Cpu) (x : Fault) (n : ℕ) → same_event e (event.Fault k x n) ≡ true → e ≡ event.Fault k x n
fault_same (event.Fault l y o) k x n h =
    let a : l ≡ k = cpu_same l k (search (rules, both_left, both_right)) in
    let b : y ≡ x = (fault_decides y x).0 (search (both_left, both_right)) in
    let d : o ≡ n = search (rules, both_left, both_right) in
    cc
fault_same _ k x n h = absurd (let z : ⊥ = cc in z)
