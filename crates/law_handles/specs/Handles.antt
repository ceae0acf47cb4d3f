-- The handles that scripts know: each is of an object that was made, with its name. (own)
use Rattle.std.specs.Prelude.{◌≡◌, ◌<◌, ℕ, false, ⊤, length, Option, Some, None, slice_index_or}
use Rattle.wdf_base.specs.declared.plan.Plan.{Plan}
use Rattle.wdf_base.specs.declared.ids.Handle.{Handle}
use Rattle.wdf_base.specs.declared.value.Value.{Value}
use Rattle.wdf_base.specs.declared.value.Value.TheVariants.{Num, Obj, Stat}
use Rattle.wdf_base.specs.declared.call.Arg.{Arg}
use Rattle.wdf_base.specs.declared.call.Arg.TheVariants.{Class, Val}
use Rattle.wdf_base.specs.declared.call.Call.{Call}
use Rattle.wdf_base.specs.declared.frame.Frame.{Frame}
use Rattle.wdf_base.specs.declared.frame.Pending.{Pending}
use Rattle.wdf_base.specs.Lives.{is_gone}
use Rattle.wdf_model.specs.parts.Tree.{Tree, cell_of, handle_of, life_of}
use Rattle.wdf_model.specs.parts.Cpus.{frame_of}
use Rattle.wdf_model.specs.State.{State}

-- A handle is of an object that was made. It has the number of the object's name, unless the object is gone.
abbrev pub IsNamed : Plan → Tree → Handle → Type 0
IsNamed plan T h = (h.id.0 < length T.nodes) × (is_gone (life_of T h.id.0) ≡ false → h.name ≡ (handle_of plan T h.id.0).name)

-- the handle in a value is such a handle, if there is one
abbrev pub InValue : (Handle → Type 0) → Value → Type 0
InValue P (Num n) = ⊤
InValue P (Stat s) = ⊤
InValue P (Obj h) = P h

-- the one in an argument
abbrev pub InArg : (Handle → Type 0) → Arg → Type 0
InArg P (Val v) = InValue P v
InArg P (Class c) = ⊤

-- those in a call
abbrev pub InCall : (Handle → Type 0) → Call → Type 0
InCall P c = InArg P c.a × InArg P c.b × InArg P c.c

-- those in the call in which a frame waits, if it does, and in its answer
abbrev pub InPending : (Handle → Type 0) → Option Pending → Type 0
InPending P None = ⊤
InPending P (Some p) = InCall P p.call × InValue P p.answer

-- a handle, if there is one
abbrev pub InOption : (Handle → Type 0) → Option Handle → Type 0
InOption P None = ⊤
InOption P (Some h) = P h

-- all handles of a frame
pub record InFrame (P : Handle → Type 0) (f : Frame) : Type 0 where
  pub own : P f.object
  pub nearest : P f.device
  pub carried : InOption P f.request
  pub variable : (v : ℕ) → InValue P (slice_index_or f.variables v (Num 0))
  pub waits : InPending P f.pending

-- All handles of frames and of context cells are named.
pub record AllNamed {A : Type 0} (plan : Plan) (S : State A) : Type 0 where
  pub frames : (f : ℕ) → InFrame (IsNamed plan S.tree) (frame_of S.cpus f)
  pub cells : (o k : ℕ) → InValue (IsNamed plan S.tree) (cell_of S.tree o k)
