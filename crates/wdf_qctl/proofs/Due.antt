-- The set of the queues whose notification is due: at the opening, and what is found in it.
use Rattle.std.proofs.Common.{if◌then◌else◌, ℕ, ◌≡◌, ◌*◌, ◌≤◌, Bool, true, false, List, Option, Some, None, length, replicate, refl, sym, ap, ◌∙◌, arith}
use Rattle.std.specs.Int.{div_ceil}
use Rattle.wdf_base.specs.declared.declared.QueueInfo.{QueueInfo}
use Rattle.wdf_base.specs.declared.plan.Plan.{Plan}
use Rattle.wdf_model.specs.Plans.{queue_of, declared_ids}
use Rattle.wdf_model.specs.Tables.{entry}
use Rattle.wdf_model.specs.declared.entries.QueueControl.{QueueControl}
use Rattle.wdf_model.specs.declared.enums.Mode.TheVariants.{Purged}
use Rattle.wdf_model.specs.parts.Control.{no_control, notify_due, opening_control, opening_mode}
use Rattle.wdf_model.proofs.Maps.{entry_map}
use Rattle.wdf_sets.specs.Members.{is_in}
use Rattle.wdf_sets.specs.SetOf.{passes}
use Rattle.wdf_sets.proofs.SetOf.{empty_set, none_made}
use Rattle.wdf_qctl.specs.Kept.{HoldsDue, seen}
use Rattle.wdf_qctl.proofs.Closing.{held}

-- ---- none is due at the opening

abbrev is_due : QueueControl → Bool
is_due c = c.due

opens_undue : (info : Option QueueInfo) → (opening_mode info).due ≡ false
opens_undue None = refl
opens_undue (Some q) = refl

pub none_due : (plan : Plan) (kept : List QueueControl) (n : ℕ) (bits : List Bool) → kept ≡ (opening_control plan).controls → bits ≡ replicate n false → length kept ≤ n → HoldsDue kept bits
none_due plan kept n bits k e room =
    empty_set (passes no_control is_due kept) (length kept) n bits e room
    (rw k (none_made no_control is_due (λ x. opening_mode (queue_of plan x)) refl (λ x. opens_undue (queue_of plan x)) (declared_ids plan)))

pub rounded_up : (bound : ℕ) → bound ≤ 4096 * div_ceil bound 4096
rounded_up bound = omega arith

-- ---- what is found

-- of what is no queue the same is seen, whatever is closed
blank_seen : (closed : List Bool) → seen closed no_control ≡ no_control
blank_seen closed = by (entry false closed 0)
  where
    by : (b : Bool) → (if b then no_control else no_control) ≡ no_control
    by true = refl
    by false = refl

due_seen : (closed : List Bool) (c : QueueControl) → (seen closed c).due ≡ c.due
due_seen closed c = by (entry false closed c.device.0)
  where
    by : (b : Bool) → (if b then record c { mode = Purged } else c).due ≡ c.due
    by true = refl
    by false = refl

pub due_is : (kept : List QueueControl) (closed bits : List Bool) (q : ℕ) → HoldsDue kept bits → is_in q bits ≡ notify_due (held kept closed) q
due_is kept closed bits q h =
    h.same q ∙ sym (ap (λ (c : QueueControl). c.due) (entry_map no_control kept (seen closed) q (blank_seen closed)) ∙ due_seen closed (entry no_control kept q))
