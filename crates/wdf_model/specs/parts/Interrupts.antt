-- The interrupts: which are enabled. (KMDF)
use Rattle.std.specs.Prelude.{ℕ, Bool, true, false, ◌&&◌, List, []}
use Rattle.wdf_model.specs.Tables.{entry, put}

-- which interrupts are enabled; the level lines are with the devices
pub record Interrupts : Type 0 where
  -- by the interrupt's id
  pub enabled : List Bool

-- whether interrupt i is enabled: from its stage `enabled` to its stage `disabled`; at the opening and for an id that
-- is no interrupt's it isn't
abbrev pub is_enabled : Interrupts → ℕ → Bool
is_enabled I i = entry false I.enabled i

-- whether the service routine of interrupt i is due: its level line, the last argument, is up, and it is enabled
-- (KMDF)
abbrev pub isr_due : Interrupts → ℕ → Bool → Bool
isr_due I i line = line && is_enabled I i

-- interrupt i is enabled
abbrev pub enable : Interrupts → ℕ → Interrupts
enable I i = record { enabled = put false I.enabled i true }

-- interrupt i is disabled
abbrev pub disable : Interrupts → ℕ → Interrupts
disable I i = record { enabled = put false I.enabled i false }

-- at the opening no interrupt is enabled: a device that the text calls working has none (own)
abbrev pub no_interrupts : Interrupts
no_interrupts = record { enabled = [] }
