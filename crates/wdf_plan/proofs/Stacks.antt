-- The blocks that are open at a line, with the lines that opened them: what is where, and what was counted there.
use Rattle.std.proofs.Common.{◌≡◌, ℕ, suc, ◌+◌, ◌<◌, Bool, true, false, List, [], ◌∷◌, map, drop, length, Option, Some, None, slice_get, refl, ap}
use Rattle.std.specs.Option.{is_none}
use Rattle.wdf_scene.specs.declared.block.Block.{Block}
use Rattle.wdf_scene.specs.declared.block.Block.TheVariants as block
use Rattle.wdf_scene.specs.declared.line.SceneLine.{SceneLine}
use Rattle.wdf_scene.specs.declared.line.SceneLine.TheVariants as line
use Rattle.wdf_scene.specs.declared.line.NumberedLine.{NumberedLine}
use Rattle.wdf_scene.specs.Blocks.{Position, innermost, in_owner, in_callback, in_device, may_stand, opened}
use Rattle.wdf_blocks.specs.declared.placed.Counts.{Counts}
use Rattle.wdf_blocks.specs.declared.placed.Placed.{Placed}
use Rattle.wdf_blocks.specs.declared.placed.Stand.{Stand}
use Rattle.wdf_blocks.specs.Placed.{outside, counted, opened_by, placed_line}

-- ---- open blocks

-- a block that is open, and the place of the line that opened it
pub record Opener : Type 0 where
  pub block : Block
  pub line : ℕ

-- the block that was opened
abbrev pub block_of : Opener → Block
block_of x = x.block

-- the stand in a block that line k opened, where that line has the given stand
abbrev pub pushed : Block → ℕ → Stand → Stand
pushed block.On k o = record o { callback = Some k; nested = 0 }
pushed block.If k o = record o { nested = o.nested + 1 }
pushed block.Else k o = record o { nested = o.nested + 1 }
pushed block.Repeat k o = record o { nested = o.nested + 1 }
pushed block.Device k o = record o { block = Some k; device = Some k }
pushed _ k o = record o { block = Some k }

-- the stand in the open blocks, innermost first
abbrev pub stand_of : List Opener → Stand
stand_of [] = outside
stand_of (x ∷ xs) = pushed x.block x.line (stand_of xs)

-- the open blocks after line k
abbrev pub with_block : List Opener → ℕ → Option Block → List Opener
with_block stack k None = stack
with_block stack k (Some b) = record { block = b; line = k } ∷ stack

-- `else` makes the innermost open block an else block, with the line of its `if`
abbrev turned : List Opener → List Opener
turned [] = []
turned (x ∷ xs) = record x { block = block.Else } ∷ xs

-- what is open after a line
abbrev pub stack_after : List Opener → ℕ → SceneLine → List Opener
stack_after stack k line.End = drop 1 stack
stack_after stack k line.Else = turned stack
stack_after stack k form = with_block stack k (opened form)

-- the block as its first line opened it
abbrev pub begun : Block → Block
begun block.Else = block.If
begun b = b

-- inside which block another one is opened
abbrev pub opens_in : Block → Option Block → Bool
opens_in block.On b = in_owner b
opens_in block.If b = in_callback b
opens_in block.Else b = in_callback b
opens_in block.Repeat b = in_callback b
opens_in block.Interrupt b = in_device b
opens_in block.Queue b = in_device b
opens_in block.Target b = in_device b
opens_in _ b = is_none b

-- each of these was opened before line k
abbrev pub AreBefore : ℕ → List Opener → Type 0
AreBefore k [] = Unit {0}
AreBefore k (x ∷ xs) = (x.line < k) × AreBefore x.line xs

-- the line that opened a block, with the blocks that were open there
pub record IsOpened (whole : List Placed) (x : Opener) (outer : List Opener) : Type 0 where
  pub placed : Placed
  pub there : slice_get whole x.line ≡ Some placed
  pub at : placed.at ≡ x.line
  pub opens : opened placed.form ≡ Some (begun x.block)
  pub stand : placed.stand ≡ stand_of outer
  pub fits : opens_in x.block (innermost (map block_of outer)) ≡ true

-- each was opened by its line
abbrev pub AreOpened : List Placed → List Opener → Type 0
AreOpened whole [] = Unit {0}
AreOpened whole (x ∷ xs) = IsOpened whole x xs × AreOpened whole xs

-- a line may be where these blocks are open, and is there
pub record IsStacked (whole : List Placed) (stack : List Opener) (p : Placed) : Type 0 where
  pub position : Position
  pub may : may_stand position p.form ≡ true
  pub blocks : position.blocks ≡ map block_of stack
  pub there : slice_get whole p.at ≡ Some p
  pub stand : p.stand ≡ stand_of stack
  pub before : AreBefore p.at stack
  pub open' : AreOpened whole stack

-- so do the lines from line k on
abbrev pub AreStacked : List Placed → ℕ → Stand → Counts → List Opener → List NumberedLine → Type 0
AreStacked whole k o c stack [] = Unit {0}
AreStacked whole k o c stack (l ∷ ls) =
    IsStacked whole stack (placed_line k o c l)
    × AreStacked whole (suc k) (opened_by o k l.form) (counted c l.form (length l.picks)) (stack_after stack k l.form) ls

-- ---- what fits

-- each is in a block where it may be, opened before it
abbrev pub AreFitting : List Opener → Type 0
AreFitting [] = Unit {0}
AreFitting (x ∷ xs) =
    (opens_in x.block (innermost (map block_of xs)) ≡ true) × AreBefore x.line xs × AreFitting xs

-- open blocks fit
pub fitting : (whole : List Placed) (k : ℕ) (stack : List Opener) → AreBefore k stack → AreOpened whole stack → AreFitting stack
fitting whole k [] b h = tt
fitting whole k (x ∷ xs) b h = (h.0.fits, b.1, fitting whole x.line xs b.1 h.1)

-- a block that comes only outside all others
pub none_open : (xs : List Opener) → is_none (innermost (map block_of xs)) ≡ true → xs ≡ []
none_open [] e = refl
none_open (x ∷ xs) e = absurd (let z : ⊥ = cc in z)

-- inside a device is what belongs to it, and outside it nothing
pub record IsInDevice (xs : List Opener) : Type 0 where
  pub line : ℕ
  pub is : xs ≡ record { block = block.Device; line = line } ∷ []

-- where a device is the innermost, it is the only one open
pub device_open : (xs : List Opener) → AreFitting xs → in_device (innermost (map block_of xs)) ≡ true → IsInDevice xs
device_open [] f e = absurd (let z : ⊥ = cc in z)
device_open (x ∷ xs) f e = by_block x.block x.line xs f.0 e
  where
    by_block : (b : Block) (l : ℕ) (ys : List Opener) → opens_in b (innermost (map block_of ys)) ≡ true → in_device (Some b) ≡ true → IsInDevice (record { block = b; line = l } ∷ ys)
    by_block block.Device l ys g e = record { line = l; is = ap (λ zs. record { block = block.Device; line = l } ∷ zs) (none_open ys g) }
    by_block _ l ys g e = absurd (let z : ⊥ = cc in z)

-- ---- the stand in a callback and outside one

-- no callback is open, and nothing inside one
pub record IsQuiet (o : Stand) : Type 0 where
  pub no_callback : o.callback ≡ None
  pub no_nesting : o.nested ≡ 0

-- outside callbacks none is open
pub quiet : (xs : List Opener) → AreFitting xs → in_callback (innermost (map block_of xs)) ≡ false → IsQuiet (stand_of xs)
quiet [] f e = record { no_callback = refl; no_nesting = refl }
quiet (x ∷ xs) f e = by_block x.block x.line xs f.0 f.2 e
  where
    alone : (b : Block) (l : ℕ) (ys : List Opener) → ys ≡ [] → IsQuiet (pushed b l outside) → IsQuiet (pushed b l (stand_of ys))
    alone b l ys e h = rw e h

    inside : (b : Block) (l : ℕ) (ys : List Opener) → IsInDevice ys → ((d : ℕ) → IsQuiet (pushed b l (pushed block.Device d outside))) → IsQuiet (pushed b l (stand_of ys))
    inside b l ys d h = rw d.is (h d.line)

    by_block : (b : Block) (l : ℕ) (ys : List Opener) → opens_in b (innermost (map block_of ys)) ≡ true → AreFitting ys → in_callback (Some b) ≡ false → IsQuiet (pushed b l (stand_of ys))
    by_block block.Driver l ys g f e = alone block.Driver l ys (none_open ys g) (record { no_callback = refl; no_nesting = refl })
    by_block block.Class l ys g f e = alone block.Class l ys (none_open ys g) (record { no_callback = refl; no_nesting = refl })
    by_block block.Device l ys g f e = alone block.Device l ys (none_open ys g) (record { no_callback = refl; no_nesting = refl })
    by_block block.App l ys g f e = alone block.App l ys (none_open ys g) (record { no_callback = refl; no_nesting = refl })
    by_block block.Pnp l ys g f e = alone block.Pnp l ys (none_open ys g) (record { no_callback = refl; no_nesting = refl })
    by_block block.Order l ys g f e = alone block.Order l ys (none_open ys g) (record { no_callback = refl; no_nesting = refl })
    by_block block.Interrupt l ys g f e = inside block.Interrupt l ys (device_open ys f g) (λ d. record { no_callback = refl; no_nesting = refl })
    by_block block.Queue l ys g f e = inside block.Queue l ys (device_open ys f g) (λ d. record { no_callback = refl; no_nesting = refl })
    by_block block.Target l ys g f e = inside block.Target l ys (device_open ys f g) (λ d. record { no_callback = refl; no_nesting = refl })
    by_block _ l ys g f e = absurd (let z : ⊥ = cc in z)

-- a callback is open
pub record IsInCallback (o : Stand) : Type 0 where
  pub line : ℕ
  pub is : o.callback ≡ Some line

-- inside a callback one is open
pub in_a_callback : (xs : List Opener) → AreFitting xs → in_callback (innermost (map block_of xs)) ≡ true → IsInCallback (stand_of xs)
in_a_callback [] f e = absurd (let z : ⊥ = cc in z)
in_a_callback (x ∷ xs) f e = by_block x.block x.line xs f.0 f.2 e (in_a_callback xs f.2)
  where
    by_block : (b : Block) (l : ℕ) (ys : List Opener) → opens_in b (innermost (map block_of ys)) ≡ true → AreFitting ys → in_callback (Some b) ≡ true → (in_callback (innermost (map block_of ys)) ≡ true → IsInCallback (stand_of ys)) → IsInCallback (pushed b l (stand_of ys))
    by_block block.On l ys g f e h = record { line = l; is = refl }
    by_block block.If l ys g f e h = let i = h g in record { line = i.line; is = i.is }
    by_block block.Else l ys g f e h = let i = h g in record { line = i.line; is = i.is }
    by_block block.Repeat l ys g f e h = let i = h g in record { line = i.line; is = i.is }
    by_block _ l ys g f e h = absurd (let z : ⊥ = cc in z)

-- a block that has callbacks is in none
pub owner_quiet : (b : Option Block) → in_owner b ≡ true → in_callback b ≡ false
owner_quiet None e = refl
owner_quiet (Some block.Class) e = refl
owner_quiet (Some block.Device) e = refl
owner_quiet (Some block.Interrupt) e = refl
owner_quiet (Some block.Queue) e = refl
owner_quiet (Some block.Target) e = refl
owner_quiet (Some _) e = absurd (let z : ⊥ = cc in z)
