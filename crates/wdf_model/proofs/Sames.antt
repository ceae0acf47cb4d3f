-- What passes a test of equality is equal.
use Rattle.std.proofs.Common.{◌≡◌, true, refl, rules}
use Rattle.std.specs.Bool.{Decides}
use Rattle.wdf_base.specs.declared.ids.Cpu.{Cpu}
use Rattle.wdf_base.specs.declared.ids.Handle.{Handle}
use Rattle.wdf_base.specs.declared.object.Kind.{Kind}
use Rattle.wdf_base.specs.declared.object.LockRef.{LockRef}
use Rattle.wdf_base.specs.declared.value.Status.{Status}
use Rattle.wdf_base.specs.declared.value.Value.{Value}
use Rattle.wdf_base.specs.declared.value.Value.TheVariants.{Num, Obj, Stat}
use Rattle.wdf_base.specs.declared.call.Arg.{Arg}
use Rattle.wdf_base.specs.declared.call.Arg.TheVariants.{Val, Class}
use Rattle.wdf_base.specs.declared.call.Call.{Call}
use Rattle.wdf_base.specs.declared.call.CallKind.{CallKind}
use Rattle.wdf_base.specs.declared.call.Callback.{Callback}
use Rattle.wdf_base.specs.declared.event.Event.{Event}
use Rattle.wdf_base.specs.declared.event.Event.TheVariants as event
use Rattle.wdf_base.specs.Same.{same_arg, same_call, same_call_kind, same_callback, same_event, same_handle, same_kind, same_lock, same_status, same_value}
use Rattle.wdf_model.proofs.Tests.{both_left, both_right}

pub status_decides : (a b : Status) → Decides (same_status a b) (a ≡ b)
status_decides a b = search rules

pub callback_decides : (a b : Callback) → Decides (same_callback a b) (a ≡ b)
callback_decides a b = search rules

pub call_kind_decides : (a b : CallKind) → Decides (same_call_kind a b) (a ≡ b)
call_kind_decides a b = search rules

pub kind_decides : (a b : Kind) → Decides (same_kind a b) (a ≡ b)
kind_decides a b = search rules

pub lock_decides : (a b : LockRef) → Decides (same_lock a b) (a ≡ b)
lock_decides a b = search rules

pub one_lock : (a b : LockRef) → same_lock a b ≡ true → a ≡ b
one_lock a b h = (lock_decides a b).0 h

pub lock_itself : (a : LockRef) → same_lock a a ≡ true
lock_itself a = (lock_decides a a).1 refl

pub handle_decides : (a b : Handle) → Decides (same_handle a b) (a ≡ b)
handle_decides a b = search rules

pub value_decides : (a b : Value) → Decides (same_value a b) (a ≡ b)
value_decides (Num a) (Num b) = search rules
value_decides (Num a) (Obj b) = search rules
value_decides (Num a) (Stat b) = search rules
value_decides (Obj a) (Num b) = search rules
value_decides (Obj a) (Obj b) = search rules
value_decides (Obj a) (Stat b) = search rules
value_decides (Stat a) (Num b) = search rules
value_decides (Stat a) (Obj b) = search rules
value_decides (Stat a) (Stat b) = search rules

pub value_same : (a b : Value) → same_value a b ≡ true → a ≡ b
value_same a b h = (value_decides a b).0 h

pub handle_same : (a b : Handle) → same_handle a b ≡ true → a ≡ b
handle_same a b h = (handle_decides a b).0 h

pub arg_same : (a b : Arg) → same_arg a b ≡ true → a ≡ b
arg_same (Val a) (Val b) h = let e : a ≡ b = value_same a b h in cc
arg_same (Val a) (Class b) h = absurd (let z : ⊥ = cc in z)
arg_same (Class a) (Val b) h = absurd (let z : ⊥ = cc in z)
arg_same (Class a) (Class b) h = let e : a ≡ b = search rules in cc

by_parts : (a b : Call) → a.kind ≡ b.kind → a.count ≡ b.count → a.a ≡ b.a → a.b ≡ b.b → a.c ≡ b.c → a ≡ b
by_parts a b k n x y z = λ i. record { kind = k i; count = n i; a = x i; b = y i; c = z i }

pub call_same : (a b : Call) → same_call a b ≡ true → a ≡ b
call_same a b h =
    let k : a.kind ≡ b.kind = (call_kind_decides a.kind b.kind).0 (search (both_left, both_right)) in
    let n : a.count ≡ b.count = search (rules, both_left, both_right) in
    let x : a.a ≡ b.a = arg_same a.a b.a (search (both_left, both_right)) in
    let y : a.b ≡ b.b = arg_same a.b b.b (search (both_left, both_right)) in
    let z : a.c ≡ b.c = arg_same a.c b.c (search (both_left, both_right)) in
    by_parts a b k n x y z

pub cpu_same : (a b : Cpu) → a.0 ≡ b.0 → a ≡ b
cpu_same a b h = λ i. record { 0 = h i }

did_by_parts : (l k : Cpu) (d c : Call) (w v : Value) → l.0 ≡ k.0 → d ≡ c → w ≡ v → event.Did l d w ≡ event.Did k c v
did_by_parts l k d c w v x y z = let e : l ≡ k = cpu_same l k x in cc

waiting_by_parts : (l k : Cpu) (d c : Call) → l.0 ≡ k.0 → d ≡ c → event.Waiting l d ≡ event.Waiting k c
waiting_by_parts l k d c x y = let e : l ≡ k = cpu_same l k x in cc

woke_by_parts : (l k : Cpu) (d c : Call) (w v : Value) → l.0 ≡ k.0 → d ≡ c → w ≡ v → event.Woke l d w ≡ event.Woke k c v
woke_by_parts l k d c w v x y z = let e : l ≡ k = cpu_same l k x in cc

end_by_parts : (l k : Cpu) (d c : Callback) (p o : Handle) (w v : Value) → l.0 ≡ k.0 → d ≡ c → p ≡ o → w ≡ v → event.End l d p w ≡ event.End k c o v
end_by_parts l k d c p o w v x y u z = let e : l ≡ k = cpu_same l k x in cc

-- the events of frames that give a call, and an end
pub did_same : (e : Event) (k : Cpu) (c : Call) (v : Value) → same_event e (event.Did k c v) ≡ true → e ≡ event.Did k c v
did_same (event.Did l d w) k c v h =
    let x : l.0 ≡ k.0 = search (rules, both_left, both_right) in
    let y : d ≡ c = call_same d c (search (both_left, both_right)) in
    let z : w ≡ v = value_same w v (search (both_left, both_right)) in
    did_by_parts l k d c w v x y z
did_same _ k c v h = absurd (let z : ⊥ = cc in z)

pub waiting_same : (e : Event) (k : Cpu) (c : Call) → same_event e (event.Waiting k c) ≡ true → e ≡ event.Waiting k c
waiting_same (event.Waiting l d) k c h =
    let x : l.0 ≡ k.0 = search (rules, both_left) in
    let y : d ≡ c = call_same d c (search (both_left, both_right)) in
    waiting_by_parts l k d c x y
waiting_same _ k c h = absurd (let z : ⊥ = cc in z)

pub woke_same : (e : Event) (k : Cpu) (c : Call) (v : Value) → same_event e (event.Woke k c v) ≡ true → e ≡ event.Woke k c v
woke_same (event.Woke l d w) k c v h =
    let x : l.0 ≡ k.0 = search (rules, both_left, both_right) in
    let y : d ≡ c = call_same d c (search (both_left, both_right)) in
    let z : w ≡ v = value_same w v (search (both_left, both_right)) in
    woke_by_parts l k d c w v x y z
woke_same _ k c v h = absurd (let z : ⊥ = cc in z)

pub end_same : (e : Event) (k : Cpu) (c : Callback) (o : Handle) (v : Value) → same_event e (event.End k c o v) ≡ true → e ≡ event.End k c o v
end_same (event.End l d p w) k c o v h =
    let x : l.0 ≡ k.0 = search (rules, both_left, both_right) in
    let y : d ≡ c = (callback_decides d c).0 (search (both_left, both_right)) in
    let u : p ≡ o = handle_same p o (search (both_left, both_right)) in
    let z : w ≡ v = value_same w v (search (both_left, both_right)) in
    end_by_parts l k d c p o w v x y u z
end_same _ k c o v h = absurd (let z : ⊥ = cc in z)
