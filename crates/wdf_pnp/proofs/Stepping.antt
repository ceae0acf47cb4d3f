-- The set of the devices that have a step left, after one device's sequence is changed and at the opening; and where it has no member.
use Rattle.std.proofs.Common.{ℕ, suc, ◌≡◌, ◌+◌, ◌<◌, ◌≤◌, ◌==◌, nat_lt, Bool, true, false, List, [], Option, Some, None, length, replicate, slice_set, refl, arith}
use Rattle.std.proofs.lemmas.Bool.{eqb-true}
use Rattle.std.proofs.lemmas.List.{nil_from_length}
use Rattle.std.proofs.lemmas.List.FromFn.{length-map-range_with_len}
use Rattle.wdf_base.specs.declared.declared.DeviceInfo.{DeviceInfo}
use Rattle.wdf_base.specs.declared.plan.Plan.{Plan}
use Rattle.wdf_model.specs.Plans.{declared_ids, device_of}
use Rattle.wdf_model.specs.parts.Pnp.{Pnp, Sequence, no_sequence, opening_pnp, opening_sequence, steps_left}
use Rattle.wdf_sets.specs.Members.{members}
use Rattle.wdf_sets.specs.SetOf.{IsSetOf}
use Rattle.wdf_sets.proofs.SetOf.{each_passes, empty_set, entry_written, no_member_is, none_is, none_made}
use Rattle.wdf_pnp.specs.Opening.{sequence_at}
use Rattle.wdf_pnp.specs.Stepping.{has_steps, none_stepping}

abbrev has_left : Sequence → Bool
has_left q = nat_lt 0 (length q.left)

-- the bit of a device says whether it has a step left after its sequence is changed, and the others stay
pub noted : (devices : List Sequence) (bits : List Bool) (d : ℕ) (new : Sequence) → d < length devices → IsSetOf (has_steps (record { devices = devices })) (length devices) bits
    → IsSetOf (has_steps (record { devices = slice_set devices d new })) (length (slice_set devices d new)) (slice_set bits d (has_left new))
noted devices bits d new h set = entry_written no_sequence has_left devices bits d new set h

-- ---- the opening

no_step_at : (plan : Plan) (d : ℕ) (info : Option DeviceInfo) → has_left (opening_sequence plan d info) ≡ false
no_step_at plan d None = refl
no_step_at plan d (Some i) = refl

-- there is an entry for the id 0 and for each declared object
pub opening_long : (plan : Plan) → length (opening_pnp plan).devices ≡ 1 + length plan.declared
opening_long plan =
    let long : length (opening_pnp plan).devices ≡ suc (length plan.declared) = length-map-range_with_len (sequence_at plan) 0 (suc (length plan.declared)) in
    omega (arith, long)

-- no device has a step left
pub opening_stepping : (plan : Plan) (devices : List Sequence) (bits : List Bool) (n : ℕ) → devices ≡ (opening_pnp plan).devices → bits ≡ replicate n false → length (opening_pnp plan).devices ≤ n
    → IsSetOf (has_steps (record { devices = devices })) (length devices) bits
opening_stepping plan devices bits n e b room =
    rw e (empty_set (has_steps (opening_pnp plan)) (length (opening_pnp plan).devices) n bits b room (none_made no_sequence has_left (sequence_at plan) refl (λ id. no_step_at plan id (device_of plan id)) (declared_ids plan)))

-- ---- whether no device has a step left

-- the set has no member exactly where no device has a step left
pub none_noted : (P : Pnp) (bits : List Bool) → IsSetOf (has_steps P) (length P.devices) bits → (length (members bits) == 0) ≡ none_stepping P
none_noted P bits set =
    no_member_is no_sequence has_left (λ (q : Sequence). length q.left == 0) P.devices (length P.devices) bits (λ q. none_is (length q.left)) refl set

-- where no device has a step left, none has one
pub at_rest : (P : Pnp) (d : ℕ) → none_stepping P ≡ true → steps_left P d ≡ []
at_rest P d h = nil_from_length (steps_left P d) (eqb-true (length (steps_left P d)) 0 (each_passes no_sequence (λ (q : Sequence). length q.left == 0) refl P.devices d h))
