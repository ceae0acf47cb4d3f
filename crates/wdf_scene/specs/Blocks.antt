-- Which lines may come where: what a line does to the blocks that are open.
use Rattle.std.specs.Prelude.{Bool, true, false, ℕ, ◌==◌, ◌&&◌, not, nat_lt, List, [], ◌∷◌, length, drop, Option, Some, None, option_map, IsSomeAnd, IsTrue, if◌then◌else◌}
use Rattle.std.specs.List.{take_while}
use Rattle.std.specs.Option.{is_none, option_and_then}
use Rattle.wdf_scene.specs.declared.block.Block.{Block}
use Rattle.wdf_scene.specs.declared.block.Block.TheVariants as block
use Rattle.wdf_scene.specs.declared.line.InterruptLevel.{InterruptLevel}
use Rattle.wdf_scene.specs.declared.line.InterruptLevel.TheVariants as level
use Rattle.wdf_scene.specs.declared.line.SceneLine.{SceneLine}
use Rattle.wdf_scene.specs.declared.line.SceneLine.TheVariants as line

-- where the text is between two lines
pub record Position : Type 0 where
  -- 1, or 2 after `version 2`
  pub version : ℕ
  -- how many of the first three lines were seen
  pub headers : ℕ
  -- the open blocks, innermost first
  pub blocks : List Block
  -- whether these blocks were begun
  pub driver : Bool
  pub pnp : Bool
  pub order : Bool

-- before the first line of a text of this version
abbrev pub front : ℕ → Position
front v = record { version = v; headers = 0; blocks = []; driver = false; pnp = false; order = false }

-- the innermost open block
abbrev pub innermost : List Block → Option Block
innermost [] = None
innermost (b ∷ blocks) = Some b

-- after the first three lines and in no block
abbrev pub is_outside : Position → Bool
is_outside p = p.headers == 3 && is_none (innermost p.blocks)

-- in a block with one of these forms, innermost
abbrev pub in_class : Option Block → Bool
in_class (Some block.Class) = true
in_class _ = false

abbrev pub in_device : Option Block → Bool
in_device (Some block.Device) = true
in_device _ = false

abbrev pub in_queue : Option Block → Bool
in_queue (Some block.Queue) = true
in_queue _ = false

abbrev pub in_app : Option Block → Bool
in_app (Some block.App) = true
in_app _ = false

abbrev pub in_pnp : Option Block → Bool
in_pnp (Some block.Pnp) = true
in_pnp _ = false

abbrev pub in_order : Option Block → Bool
in_order (Some block.Order) = true
in_order _ = false

-- before the `else` of an `if`
abbrev pub in_if : Option Block → Bool
in_if (Some block.If) = true
in_if _ = false

-- where a scope and a level may be `inherit`
abbrev pub in_heir : Option Block → Bool
in_heir (Some block.Device) = true
in_heir (Some block.Queue) = true
in_heir _ = false

-- where a scope and a level may be given
abbrev pub in_scoped : Option Block → Bool
in_scoped (Some block.Driver) = true
in_scoped b = in_heir b

-- where a callback may be declared
abbrev pub in_owner : Option Block → Bool
in_owner (Some block.Class) = true
in_owner (Some block.Device) = true
in_owner (Some block.Interrupt) = true
in_owner (Some block.Queue) = true
in_owner (Some block.Target) = true
in_owner _ = false

-- in a block of statements inside a callback
abbrev pub in_branch : Option Block → Bool
in_branch (Some block.If) = true
in_branch (Some block.Else) = true
in_branch (Some block.Repeat) = true
in_branch _ = false

-- where a statement may come
abbrev pub in_callback : Option Block → Bool
in_callback (Some block.On) = true
in_callback b = in_branch b

-- how many `if` and `repeat` are open in the callback
abbrev pub nesting : List Block → ℕ
nesting blocks = length (take_while (λ b. in_branch (Some b)) blocks)

-- where a statement that opens a block may come: at most 16 of them are open at a time
abbrev pub may_nest : List Block → Bool
may_nest blocks = in_callback (innermost blocks) && nat_lt (nesting blocks) 16

-- an interrupt without a number needs version 2
abbrev pub has_level : ℕ → InterruptLevel → Bool
has_level version (level.Numbered n) = true
has_level version level.AtPassive = version == 2

-- whether a line may come at a position
abbrev pub may_stand : Position → SceneLine → Bool
may_stand p (line.Cpus n) = p.headers == 0
may_stand p (line.Limit n) = p.headers == 1
may_stand p (line.Objects n) = p.headers == 2
may_stand p line.Driver = is_outside p && not p.driver
may_stand p (line.Class n k) = is_outside p
may_stand p (line.DeferredClass n k parent) = is_outside p
may_stand p (line.Device n working) = is_outside p
may_stand p (line.Interrupt n l) = in_device (innermost p.blocks) && has_level p.version l
may_stand p (line.Queue n dispatch) = in_device (innermost p.blocks)
may_stand p (line.Target n delay status depth) = in_device (innermost p.blocks)
may_stand p (line.App n) = is_outside p
may_stand p line.Pnp = is_outside p && not p.pnp
may_stand p line.Order = is_outside p && not p.order
may_stand p (line.On callback) = in_owner (innermost p.blocks)
may_stand p line.End = not (is_none (innermost p.blocks))
may_stand p (line.Scope None) = in_heir (innermost p.blocks)
may_stand p (line.Scope (Some s)) = in_scoped (innermost p.blocks)
may_stand p (line.Level None) = in_heir (innermost p.blocks)
may_stand p (line.Level (Some l)) = in_scoped (innermost p.blocks)
may_stand p line.Serialize = in_class (innermost p.blocks)
may_stand p (line.Period n) = in_class (innermost p.blocks)
may_stand p (line.Register n v) = in_device (innermost p.blocks)
may_stand p (line.When access n action after) = in_device (innermost p.blocks)
may_stand p (line.At tick action) = in_device (innermost p.blocks)
may_stand p line.Default = in_queue (innermost p.blocks)
may_stand p (line.For form) = in_queue (innermost p.blocks)
may_stand p line.PowerOff = in_queue (innermost p.blocks)
may_stand p line.Zero = in_queue (innermost p.blocks)
may_stand p (line.AtRead tick d length) = in_app (innermost p.blocks)
may_stand p (line.AtWrite tick d length) = in_app (innermost p.blocks)
may_stand p (line.AtControl tick d code length) = in_app (innermost p.blocks)
may_stand p (line.AtCancel tick k) = in_app (innermost p.blocks)
may_stand p (line.AtAsk tick ask d) = in_pnp (innermost p.blocks)
may_stand p line.Picks = in_order (innermost p.blocks)
may_stand p (line.Let x e) = in_callback (innermost p.blocks)
may_stand p (line.Call kind into a b c) = in_callback (innermost p.blocks)
may_stand p (line.Get x register) = in_callback (innermost p.blocks)
may_stand p (line.Put register e) = in_callback (innermost p.blocks)
may_stand p (line.If e) = may_nest p.blocks
may_stand p line.Else = in_if (innermost p.blocks)
may_stand p (line.Repeat e) = may_nest p.blocks
may_stand p (line.Spend e) = in_callback (innermost p.blocks)
may_stand p (line.Log e) = in_callback (innermost p.blocks)
may_stand p (line.Return e) = in_callback (innermost p.blocks)

-- the block that a line opens
abbrev pub opened : SceneLine → Option Block
opened line.Driver = Some block.Driver
opened (line.Class n k) = Some block.Class
opened (line.DeferredClass n k parent) = Some block.Class
opened (line.Device n working) = Some block.Device
opened (line.Interrupt n l) = Some block.Interrupt
opened (line.Queue n dispatch) = Some block.Queue
opened (line.Target n delay status depth) = Some block.Target
opened (line.App n) = Some block.App
opened line.Pnp = Some block.Pnp
opened line.Order = Some block.Order
opened (line.On callback) = Some block.On
opened (line.If e) = Some block.If
opened (line.Repeat e) = Some block.Repeat
opened _ = None

-- one more, if there is one
abbrev pub with_opened : {A : Type 0} → Option A → List A → List A
with_opened None xs = xs
with_opened (Some x) xs = x ∷ xs

-- the open blocks after a line
abbrev pub blocks_after : List Block → SceneLine → List Block
blocks_after blocks line.End = drop 1 blocks
blocks_after blocks line.Else = block.Else ∷ drop 1 blocks
blocks_after blocks form = with_opened (opened form) blocks

-- the lines of which there is one are noted
abbrev pub noted : Position → SceneLine → Position
noted p (line.Cpus n) = record p { headers = 1 }
noted p (line.Limit n) = record p { headers = 2 }
noted p (line.Objects n) = record p { headers = 3 }
noted p line.Driver = record p { driver = true }
noted p line.Pnp = record p { pnp = true }
noted p line.Order = record p { order = true }
noted p _ = p

-- the position after a line that may come there
abbrev pub moved : Position → SceneLine → Position
moved p form = record (noted p form) { blocks = blocks_after p.blocks form }

-- the position after a line, if the line may come there
abbrev pub after_line : Position → SceneLine → Option Position
after_line p form = if may_stand p form then Some (moved p form) else None

-- the position after some lines, if each may come where it does
abbrev pub after_lines : Option Position → List SceneLine → Option Position
after_lines p [] = p
after_lines p (form ∷ forms) = after_lines (option_and_then (λ q. after_line q form) p) forms

-- the lines of a text: each may come where it does, the first three are there, and in the end no block is open
abbrev pub IsWhole : ℕ → List SceneLine → Type 0
IsWhole version forms = IsSomeAnd (after_lines (Some (front version)) forms) (λ p. IsTrue (is_outside p))

-- the lines that opened the blocks that are open, innermost first, after a line with this number
abbrev pub openers_after : List ℕ → ℕ → SceneLine → List ℕ
openers_after openers number line.End = drop 1 openers
openers_after openers number form = with_opened (option_map (λ b. number) (opened form)) openers
