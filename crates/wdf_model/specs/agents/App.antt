-- An app: it posts its lines in order, each once, as a fold of the events of the run. (own)
use Rattle.std.specs.Prelude.{if◌then◌else◌, ℕ, ◌+◌, ◌==◌, nat_lt, nat_le, ◌&&◌, List, length, Option, Some, None, slice_get}
use Rattle.wdf_base.specs.declared.plan.Plan.{Plan}
use Rattle.wdf_base.specs.declared.event.Post.{Post}
use Rattle.wdf_base.specs.declared.event.Event.{Event}
use Rattle.wdf_base.specs.declared.event.Event.TheVariants as event
use Rattle.wdf_base.specs.declared.declared.PostLine.{PostLine}
use Rattle.wdf_base.specs.Plan.{posts_of}

-- an app, or the Plug and Play manager: its lines, and how far it has come
pub record App : Type 0 where
  -- its number among the agents
  pub agent : ℕ
  -- what its lines post, in their order
  pub lines : List PostLine
  -- how many of them it has posted
  pub posted : ℕ
  pub clock : ℕ

-- agent k at the opening: all the plan's lines for it, none of them posted
abbrev pub app_at : Plan → ℕ → App
app_at plan k = record { agent = k; lines = posts_of plan k; posted = 0; clock = 0 }

-- an app after a post by this agent: if it is the app's own, one line more is posted
abbrev pub after_post : ℕ → App → App
after_post agent p = if agent == p.agent && nat_lt p.posted (length p.lines) then record p { posted = p.posted + 1 } else p

-- an app after one event more: it counts its own posts, and reads the clock off the ticks
abbrev pub app_after : App → Event → App
app_after p (event.Posted agent post answer) = after_post agent p
app_after p (event.Tick time) = record p { clock = time }
app_after p _ = p

-- the first line of an app that isn't posted, None after the last
abbrev pub next_line : App → Option PostLine
next_line p = slice_get p.lines p.posted

-- what a line posts, where the clock has reached its tick
abbrev pub due_line : ℕ → Option PostLine → Option Post
due_line now None = None
due_line now (Some l) = if nat_le l.tick now then Some l.post else None

-- what an app posts now: its first line that isn't posted, where that is due
abbrev pub app_due : App → Option Post
app_due p = due_line p.clock (next_line p)

-- the tick of a line, where it is later than now
abbrev pub later_line : ℕ → Option PostLine → Option ℕ
later_line now None = None
later_line now (Some l) = if nat_lt now l.tick then Some l.tick else None

-- the later tick that an app waits for, None where a line is due or all are posted
abbrev pub app_next : App → Option ℕ
app_next p = later_line p.clock (next_line p)
