-- What the events say of objects.
use Rattle.std.specs.Prelude.{if◌then◌else◌, ◌≡◌, ℕ, nat_eq, List, Option, Some, None}
use Rattle.std.specs.HashMap.{HashMap, get}
use Rattle.wdf_base.specs.declared.plan.Plan.{Plan}
use Rattle.wdf_base.specs.declared.event.Event.{Event}
use Rattle.wdf_laws.specs.declared.sign.Told.{Told}
use Rattle.wdf_laws.specs.Family.{is_told, first_told}

-- a run of a plan, as a list of events
pub record Whole : Type 0 where
  pub plan : Plan
  pub all : List Event

-- what was told of an object first, after one thing more is told
abbrev pub with_told : ℕ → Option Told → Option Told → Option Told
with_told o t (Some kept) = Some kept
with_told o t None = if is_told o t then t else None

-- for each object, what the earliest event that says anything of it says
pub record AreTold {S : Type 0} (plan : Plan) (all : List Event) (told : HashMap ℕ Told S) : Type 0 where
  pub first_is : (o : ℕ) → get nat_eq told o ≡ first_told plan all o
