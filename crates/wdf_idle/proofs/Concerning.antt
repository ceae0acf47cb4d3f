-- An event that concerns no device leaves the policy as it was.
use Rattle.std.proofs.Common.{if◌then◌else◌, ℕ, ◌≡◌, ◌==◌, Bool, true, false, not, nat_lt, ◌&&◌, List, [], ◌∷◌, map, refl, ap, sym, subst, arith}
use Rattle.std.proofs.Math.Bool.{and-false, or-false}
use Rattle.std.proofs.lemmas.Bool.Decides.{nat_tests}
use Rattle.wdf_base.specs.declared.ids.Cpu.{Cpu}
use Rattle.wdf_base.specs.declared.ids.Handle.{Handle}
use Rattle.wdf_base.specs.declared.value.Value.{Value}
use Rattle.wdf_base.specs.declared.event.Event.{Event}
use Rattle.wdf_base.specs.declared.event.Event.TheVariants as event
use Rattle.wdf_base.specs.declared.call.Call.{Call}
use Rattle.wdf_base.specs.declared.call.CallKind.{CallKind}
use Rattle.wdf_base.specs.declared.call.CallKind.TheVariants as call
use Rattle.wdf_base.specs.declared.call.Callback.{Callback}
use Rattle.wdf_base.specs.declared.call.Callback.TheVariants as callback
use Rattle.wdf_base.specs.Callbacks.{is_query}
use Rattle.wdf_model.specs.agents.IdlePolicy.{IdleDevice, IdlePolicy, changed, count_of, idle_after, is_removal_query, manager_after, pending_after_call, policy_after, starts_anew}
use Rattle.wdf_idle.specs.Ahead.{concerns, is_completion}

not_both : (b : Bool) → (not b && b) ≡ false
not_both true = refl
not_both false = refl

both_not : (b : Bool) → (b && not b) ≡ false
both_not true = refl
both_not false = refl

not_none : (n : ℕ) → (nat_lt 0 n && n == 0) ≡ false
not_none n = grind (arith, nat_tests)

-- what stays as it is starts nothing
starts_not : (x : IdleDevice) → starts_anew x x ≡ false
starts_not x = rw (not_both x.awake, both_not x.hold, not_none (count_of x.pending)) refl

same_after : (now : ℕ) (x y : IdleDevice) → y ≡ x → record y { since = if starts_anew x y then now else x.since } ≡ x
same_after now x y h =
    subst (λ z. record z { since = if starts_anew x z then now else x.since } ≡ x) (sym h) (ap (λ b. record x { since = if b then now else x.since }) (starts_not x))

pub quiet : (now : ℕ) (e : Event) (x : IdleDevice) → changed x e ≡ x → idle_after now e x ≡ x
quiet now e x h = same_after now x (changed x e) h

quiet_all : (now : ℕ) (e : Event) (xs : List IdleDevice) → ((x : IdleDevice) → changed x e ≡ x) → map (idle_after now e) xs ≡ xs
quiet_all now e [] h = refl
quiet_all now e (x ∷ xs) h = rw (quiet now e x (h x), quiet_all now e xs h) refl

stays : (p : IdlePolicy) (e : Event) → ((x : IdleDevice) → changed x e ≡ x) → manager_after p e ≡ p.manager → policy_after p e ≡ p
stays p e h m = rw (quiet_all p.manager.clock e p.devices h, m) refl

-- a callback that no driver refuses by
no_query : (c : Callback) → is_query c ≡ false → is_removal_query c ≡ false
no_query callback.EvtDeviceQueryRemove h = let z : ⊥ = cc in absurd z
no_query _ h = refl

no_completion : (k : CallKind) → is_completion k ≡ false → (c : Call) → c.kind ≡ k → (pending : List Bool) → pending_after_call pending c ≡ pending
no_completion call.WdfRequestComplete h c e pending = let z : ⊥ = cc in absurd z
no_completion _ h c e pending = rw e refl

-- the end of another callback
other_end : (cpu : Cpu) (c : Callback) (o : Handle) (v : Value) → is_query c ≡ false → (x : IdleDevice) → changed x (event.End cpu c o v) ≡ x
other_end cpu c o v h x = rw (h, no_query c h, and-false x.was_awake, and-false x.was_asleep, or-false x.awake, or-false x.asleep) refl

-- another call
other_call : (cpu : Cpu) (c : Call) (answer : Value) → is_completion c.kind ≡ false → (x : IdleDevice) → changed x (event.Did cpu c answer) ≡ x
other_call cpu c answer h x = rw (no_completion c.kind h c refl x.pending) refl

pub as_it_was : (p : IdlePolicy) (e : Event) → concerns e ≡ false → policy_after p e ≡ p
as_it_was p (event.Stage d s i) h = let z : ⊥ = cc in absurd z
as_it_was p (event.Posted agent q answer) h = let z : ⊥ = cc in absurd z
as_it_was p (event.Register cpu a k v) h = let z : ⊥ = cc in absurd z
as_it_was p (event.Complete r s) h = let z : ⊥ = cc in absurd z
as_it_was p (event.Tick time) h = let z : ⊥ = cc in absurd z
as_it_was p (event.End cpu c o v) h = stays p (event.End cpu c o v) (other_end cpu c o v h) refl
as_it_was p (event.Did cpu c answer) h = stays p (event.Did cpu c answer) (other_call cpu c answer h) refl
as_it_was p (event.Start cpu c o r) h = stays p (event.Start cpu c o r) (λ x. refl) refl
as_it_was p (event.Local cpu line) h = stays p (event.Local cpu line) (λ x. refl) refl
as_it_was p (event.Log cpu v) h = stays p (event.Log cpu v) (λ x. refl) refl
as_it_was p (event.Spend cpu n) h = stays p (event.Spend cpu n) (λ x. refl) refl
as_it_was p (event.Waiting cpu c) h = stays p (event.Waiting cpu c) (λ x. refl) refl
as_it_was p (event.Woke cpu c v) h = stays p (event.Woke cpu c v) (λ x. refl) refl
as_it_was p (event.Park cpu f) h = stays p (event.Park cpu f) (λ x. refl) refl
as_it_was p (event.Unpark cpu f) h = stays p (event.Unpark cpu f) (λ x. refl) refl
as_it_was p (event.Fault cpu x line) h = stays p (event.Fault cpu x line) (λ x. refl) refl
as_it_was p (event.Cleanup o) h = stays p (event.Cleanup o) (λ x. refl) refl
as_it_was p (event.Destroy o) h = stays p (event.Destroy o) (λ x. refl) refl
