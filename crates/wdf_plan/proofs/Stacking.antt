-- Each line of a scene is where the open blocks say, and so is the next one after it.
use Rattle.std.proofs.Common.{◌≡◌, ℕ, zero, suc, ◌+◌, ◌-◌, ◌<◌, ◌≤◌, true, false, not, List, [], ◌∷◌, ◌++◌, map, drop, length, Option, Some, None, slice_get, refl, ap, sym, ◌∙◌, arith, append_assoc, length-append}
use Rattle.std.proofs.lemmas.Bool.{eq-eqb, ne_eqb, and_parts, not-true}
use Rattle.std.specs.Prelude.{◌==◌, nat_lt}
use Rattle.std.specs.Option.{is_none}
use Rattle.wdf_scene.specs.declared.block.Block.{Block}
use Rattle.wdf_scene.specs.declared.block.Block.TheVariants as block
use Rattle.wdf_scene.specs.declared.line.SceneLine.{SceneLine}
use Rattle.wdf_scene.specs.declared.line.SceneLine.TheVariants as line
use Rattle.wdf_scene.specs.declared.line.NumberedLine.{NumberedLine}
use Rattle.wdf_scene.specs.declared.scene.Scene.{Scene}
use Rattle.wdf_scene.specs.Blocks.{Position, front, moved, is_outside, innermost, in_callback, in_device, in_if, has_level, nesting, blocks_after, may_stand, opened}
use Rattle.wdf_scene.specs.Written.{IsScene, lines_at}
use Rattle.wdf_blocks.specs.declared.placed.Counts.{Counts}
use Rattle.wdf_blocks.specs.declared.placed.Placed.{Placed}
use Rattle.wdf_blocks.specs.declared.placed.Stand.{Stand}
use Rattle.wdf_blocks.specs.Placed.{outside, nothing, closed, counted, opened_by, placed_line, placed_from, placed}
use Rattle.wdf_refusals.proofs.Every.{Every, every_map}
use Rattle.wdf_refusals.proofs.Heads.{form_of, Ends, stood}
use Rattle.wdf_plan.proofs.Places.{item_there}
use Rattle.wdf_plan.proofs.Stacks.{Opener, block_of, pushed, stand_of, stack_after, begun, opens_in, AreBefore, IsOpened, AreOpened, IsStacked, AreStacked, AreFitting, fitting, IsInDevice, none_open, device_open, IsQuiet, quiet, IsInCallback, in_a_callback, owner_quiet}

-- ---- after an `end` the outer block is as it was

restored : (o : Stand) (c : Option ℕ) (n : ℕ) → o.callback ≡ c → o.nested ≡ n → record o { callback = c; nested = n } ≡ o
restored o c n e f = rw (← e, ← f) refl

-- the end of a callback
callback_closed : (k : ℕ) (o : Stand) → IsQuiet o → closed (pushed block.On k o) ≡ o
callback_closed k o q = restored o None 0 q.no_callback q.no_nesting

-- the end of an `if` or a `repeat`
branch_closed : (k : ℕ) (o : Stand) → IsInCallback o → closed (pushed block.If k o) ≡ o
branch_closed k o c =
    let more : (o.nested + 1 == 0) ≡ false = ne_eqb (o.nested + 1) 0 (λ e. absurd (omega arith)) in
    let less : o.nested + 1 - 1 ≡ o.nested = omega arith in
    rw (c.is, more, less) refl

-- the end of a block that is outside all others
alone_closed : (b : Block) (k : ℕ) (xs : List Opener) → xs ≡ [] → closed (pushed b k outside) ≡ outside → closed (pushed b k (stand_of xs)) ≡ stand_of xs
alone_closed b k xs e h = rw e h

device_closed : (k : ℕ) → closed (pushed block.Device k outside) ≡ outside
device_closed k = rw (eq-eqb k k refl) refl

-- the end of what is in a device, which was opened later than the device
inside_closed : (b : Block) (k : ℕ) (xs : List Opener) → AreBefore k xs → IsInDevice xs → ((d : ℕ) → d < k → closed (pushed b k (pushed block.Device d outside)) ≡ pushed block.Device d outside) → closed (pushed b k (stand_of xs)) ≡ stand_of xs
inside_closed b k xs before d h =
    let below = rw d.is at before in
    rw d.is (h d.line below.0)

stand_closed : (x : Opener) (xs : List Opener) → AreFitting (x ∷ xs) → closed (stand_of (x ∷ xs)) ≡ stand_of xs
stand_closed x xs f = by_block x.block x.line xs f.0 f.1 f.2
  where
    apart : (d k : ℕ) → d < k → (k == d) ≡ false
    apart d k h = ne_eqb k d (λ e. absurd (omega arith))

    by_block : (b : Block) (l : ℕ) (ys : List Opener) → opens_in b (innermost (map block_of ys)) ≡ true → AreBefore l ys → AreFitting ys → closed (pushed b l (stand_of ys)) ≡ stand_of ys
    by_block block.On l ys g b f = callback_closed l (stand_of ys) (quiet ys f (owner_quiet (innermost (map block_of ys)) g))
    by_block block.Driver l ys g b f = alone_closed block.Driver l ys (none_open ys g) refl
    by_block block.Class l ys g b f = alone_closed block.Class l ys (none_open ys g) refl
    by_block block.App l ys g b f = alone_closed block.App l ys (none_open ys g) refl
    by_block block.Pnp l ys g b f = alone_closed block.Pnp l ys (none_open ys g) refl
    by_block block.Order l ys g b f = alone_closed block.Order l ys (none_open ys g) refl
    by_block block.Device l ys g b f = alone_closed block.Device l ys (none_open ys g) (device_closed l)
    by_block block.Interrupt l ys g b f = inside_closed block.Interrupt l ys b (device_open ys f g) (λ d h. rw (apart d l h) refl)
    by_block block.Queue l ys g b f = inside_closed block.Queue l ys b (device_open ys f g) (λ d h. rw (apart d l h) refl)
    by_block block.Target l ys g b f = inside_closed block.Target l ys b (device_open ys f g) (λ d h. rw (apart d l h) refl)
    by_block _ l ys g b f = branch_closed l (stand_of ys) (in_a_callback ys f g)

-- ---- a line that opens a block

-- its block may be opened there
record IsOpening (q : Position) (form : SceneLine) (b : Block) : Type 0 where
  fits : opens_in b (innermost q.blocks) ≡ true
  own : begun b ≡ b

some_block : (a b : Block) → Some a ≡ Some b → a ≡ b
some_block a b e = cc

outside_none : (q : Position) → is_outside q ≡ true → is_none (innermost q.blocks) ≡ true
outside_none q h = (and_parts (q.headers == 3) (is_none (innermost q.blocks)) h).1

opening : (q : Position) (form : SceneLine) (b : Block) → may_stand q form ≡ true → opened form ≡ Some b → IsOpening q form b
opening q line.Driver b m e =
    rw (← some_block _ b e) (record { fits = outside_none q (and_parts (is_outside q) (not q.driver) m).0; own = refl })
opening q (line.Class n k) b m e = rw (← some_block _ b e) (record { fits = outside_none q m; own = refl })
opening q (line.DeferredClass n k parent) b m e = rw (← some_block _ b e) (record { fits = outside_none q m; own = refl })
opening q (line.Device n working) b m e = rw (← some_block _ b e) (record { fits = outside_none q m; own = refl })
opening q (line.Interrupt n l) b m e =
    rw (← some_block _ b e) (record { fits = (and_parts (in_device (innermost q.blocks)) (has_level q.version l) m).0; own = refl })
opening q (line.Queue n dispatch) b m e = rw (← some_block _ b e) (record { fits = m; own = refl })
opening q (line.Target n delay status depth) b m e = rw (← some_block _ b e) (record { fits = m; own = refl })
opening q (line.App n) b m e = rw (← some_block _ b e) (record { fits = outside_none q m; own = refl })
opening q line.Pnp b m e =
    rw (← some_block _ b e) (record { fits = outside_none q (and_parts (is_outside q) (not q.pnp) m).0; own = refl })
opening q line.Order b m e =
    rw (← some_block _ b e) (record { fits = outside_none q (and_parts (is_outside q) (not q.order) m).0; own = refl })
opening q (line.On callback) b m e = rw (← some_block _ b e) (record { fits = m; own = refl })
opening q (line.If x) b m e =
    rw (← some_block _ b e) (record { fits = (and_parts (in_callback (innermost q.blocks)) (nat_lt (nesting q.blocks) 16) m).0; own = refl })
opening q (line.Repeat x) b m e =
    rw (← some_block _ b e) (record { fits = (and_parts (in_callback (innermost q.blocks)) (nat_lt (nesting q.blocks) 16) m).0; own = refl })
opening q _ b m e = absurd (let z : ⊥ = cc in z)

-- ---- one line

-- what a line makes of the open blocks
record IsKept (whole : List Placed) (stack : List Opener) (k : ℕ) (o : Stand) (blocks : List Block) (form : SceneLine) : Type 0 where
  stand : opened_by o k form ≡ stand_of (stack_after stack k form)
  blocks' : blocks_after blocks form ≡ map block_of (stack_after stack k form)
  before : AreBefore (suc k) (stack_after stack k form)
  open' : AreOpened whole (stack_after stack k form)

weaken : (j k : ℕ) (xs : List Opener) → j ≤ k → AreBefore j xs → AreBefore k xs
weaken j k [] h b = tt
weaken j k (x ∷ xs) h b = let below : x.line < j = b.0 in (omega arith, b.1)

-- a line that opens no block and closes none
plain_kept : (whole : List Placed) (stack : List Opener) (p : Placed) (s : IsStacked whole stack p) (form : SceneLine) → opened_by p.stand p.at form ≡ p.stand → blocks_after s.position.blocks form ≡ s.position.blocks → stack_after stack p.at form ≡ stack → IsKept whole stack p.at p.stand s.position.blocks form
plain_kept whole stack p s form stands blocks' after =
    record {
      stand = rw (after, stands) s.stand;
      blocks' = rw (after, blocks') s.blocks;
      before = rw after (weaken p.at (suc p.at) stack (omega arith) s.before);
      open' = rw after s.open';
    }

-- a line that opens one
opener_of : (whole : List Placed) (stack : List Opener) (p : Placed) (b : Block) → IsStacked whole stack p → opened p.form ≡ Some b → IsOpened whole (record { block = b; line = p.at }) stack
opener_of whole stack p b s e =
    let i = opening s.position p.form b s.may e in
    record { placed = p; there = s.there; at = refl; opens = rw i.own e; stand = s.stand; fits = rw s.blocks at i.fits }

-- an `end`
end_kept : (whole : List Placed) (stack : List Opener) (k : ℕ) (o : Stand) → o ≡ stand_of stack → is_none (innermost (map block_of stack)) ≡ false → AreBefore k stack → AreOpened whole stack → IsKept whole stack k o (map block_of stack) line.End
unfolding opened_by
end_kept whole [] k o e some b h = absurd (let z : ⊥ = cc in z)
end_kept whole (x ∷ xs) k o e some b h =
    let f = fitting whole k (x ∷ xs) b h in
    let below : x.line < k = b.0 in
    record { stand = rw e (stand_closed x xs f); blocks' = refl; before = weaken x.line (suc k) xs (omega arith) b.1; open' = h.1 }

-- an `else`
else_kept : (whole : List Placed) (stack : List Opener) (k : ℕ) (o : Stand) → o ≡ stand_of stack → in_if (innermost (map block_of stack)) ≡ true → AreBefore k stack → AreOpened whole stack → IsKept whole stack k o (map block_of stack) line.Else
unfolding opened_by
else_kept whole [] k o e i b h = absurd (let z : ⊥ = cc in z)
else_kept whole (x ∷ xs) k o e i b h = by_block x.block x.line xs (o) e i b h
  where
    by_block : (c : Block) (l : ℕ) (ys : List Opener) (o : Stand) → o ≡ stand_of (record { block = c; line = l } ∷ ys) → in_if (Some c) ≡ true → AreBefore k (record { block = c; line = l } ∷ ys) → AreOpened whole (record { block = c; line = l } ∷ ys) → IsKept whole (record { block = c; line = l } ∷ ys) k o (map block_of (record { block = c; line = l } ∷ ys)) line.Else
    by_block block.If l ys o e i b h =
        let f = h.0 in
        let below : l < k = b.0 in
        record {
          stand = e;
          blocks' = refl;
          before = (omega arith, b.1);
          open' = (record { placed = f.placed; there = f.there; at = f.at; opens = f.opens; stand = f.stand; fits = f.fits }, h.1);
        }
    by_block _ l ys o e i b h = absurd (let z : ⊥ = cc in z)

opens_kept : (whole : List Placed) (stack : List Opener) (p : Placed) (s : IsStacked whole stack p) (form : SceneLine) (b : Block) → opened p.form ≡ Some b → opened_by p.stand p.at form ≡ pushed b p.at p.stand → blocks_after s.position.blocks form ≡ b ∷ s.position.blocks → stack_after stack p.at form ≡ record { block = b; line = p.at } ∷ stack → IsKept whole stack p.at p.stand s.position.blocks form
opens_kept whole stack p s form b e stands blocks' after =
    record {
      stand = rw (after, stands, s.stand) refl;
      blocks' = rw (after, blocks', s.blocks) refl;
      before = rw after (omega arith, s.before);
      open' = rw after (opener_of whole stack p b s e, s.open');
    }

line_kept : (whole : List Placed) (stack : List Opener) (p : Placed) (s : IsStacked whole stack p) (form : SceneLine) → p.form ≡ form → IsKept whole stack p.at p.stand s.position.blocks form
unfolding opened_by
line_kept whole stack p s line.Driver e = opens_kept whole stack p s line.Driver block.Driver (rw e refl) refl refl refl
line_kept whole stack p s (line.Class n k) e = opens_kept whole stack p s (line.Class n k) block.Class (rw e refl) refl refl refl
line_kept whole stack p s (line.DeferredClass n k parent) e =
    opens_kept whole stack p s (line.DeferredClass n k parent) block.Class (rw e refl) refl refl refl
line_kept whole stack p s (line.Device n working) e =
    opens_kept whole stack p s (line.Device n working) block.Device (rw e refl) refl refl refl
line_kept whole stack p s (line.Interrupt n l) e =
    opens_kept whole stack p s (line.Interrupt n l) block.Interrupt (rw e refl) refl refl refl
line_kept whole stack p s (line.Queue n dispatch) e =
    opens_kept whole stack p s (line.Queue n dispatch) block.Queue (rw e refl) refl refl refl
line_kept whole stack p s (line.Target n delay status depth) e =
    opens_kept whole stack p s (line.Target n delay status depth) block.Target (rw e refl) refl refl refl
line_kept whole stack p s (line.App n) e = opens_kept whole stack p s (line.App n) block.App (rw e refl) refl refl refl
line_kept whole stack p s line.Pnp e = opens_kept whole stack p s line.Pnp block.Pnp (rw e refl) refl refl refl
line_kept whole stack p s line.Order e = opens_kept whole stack p s line.Order block.Order (rw e refl) refl refl refl
line_kept whole stack p s (line.On c) e = opens_kept whole stack p s (line.On c) block.On (rw e refl) refl refl refl
line_kept whole stack p s (line.If x) e = opens_kept whole stack p s (line.If x) block.If (rw e refl) refl refl refl
line_kept whole stack p s (line.Repeat x) e = opens_kept whole stack p s (line.Repeat x) block.Repeat (rw e refl) refl refl refl
line_kept whole stack p s line.End e =
    let m : may_stand s.position line.End ≡ true = rw e at s.may in
    rw s.blocks (end_kept whole stack p.at p.stand s.stand (not-true (is_none (innermost (map block_of stack))) (rw s.blocks at m)) s.before s.open')
line_kept whole stack p s line.Else e =
    let m : may_stand s.position line.Else ≡ true = rw e at s.may in
    rw s.blocks (else_kept whole stack p.at p.stand s.stand (rw s.blocks at m) s.before s.open')
line_kept whole stack p s form e = plain_kept whole stack p s form refl refl refl

-- ---- all lines

stacked_from : (whole ahead : List Placed) (k : ℕ) (o : Stand) (c : Counts) (q : Position) (stack : List Opener) (ls : List NumberedLine) → whole ≡ ahead ++ placed_from k o c ls → length ahead ≡ k → Ends q (map form_of ls) → q.blocks ≡ map block_of stack → o ≡ stand_of stack → AreBefore k stack → AreOpened whole stack → AreStacked whole k o c stack ls
unfolding placed_from
stacked_from whole ahead k o c q stack [] is long h blocks' stands before open' = tt
stacked_from whole ahead k o c q stack (l ∷ ls) is long h blocks' stands before open' =
    let p = placed_line k o c l in
    let rest = placed_from (suc k) (opened_by o k l.form) (counted c l.form (length l.picks)) ls in
    let st = stood q l.form (map form_of ls) (may_stand q l.form) refl h in
    let there : slice_get whole k ≡ Some p = item_there whole ahead p rest k is long in
    let s : IsStacked whole stack p =
    record { position = q; may = st.0; blocks = blocks'; there = there; stand = stands; before = before; open' = open' } in
    let kept = line_kept whole stack p s l.form refl in
    let longer : length (ahead ++ p ∷ []) ≡ suc k = simp length-append (omega (arith, long)) in
    (s, stacked_from whole (ahead ++ p ∷ []) (suc k) (opened_by o k l.form) (counted c l.form (length l.picks)) (moved q l.form) (stack_after stack k l.form) ls (is ∙ sym (append_assoc ahead (p ∷ []) rest)) longer st.1 kept.blocks' kept.stand kept.before kept.open')

all_stacked : (scene : Scene) → IsScene scene → AreStacked (placed scene) 0 outside nothing [] scene.lines
unfolding placed
all_stacked scene s =
    let lines : scene.lines ≡ lines_at 0 s.ws = ap (λ (x : Scene). x.lines) s.is in
    let whole : Ends (front scene.version) (map form_of scene.lines) = rw lines s.lines.whole in
    stacked_from (placed scene) [] 0 outside nothing (front scene.version) [] scene.lines refl refl whole refl refl tt tt

-- ---- from one line on

-- line m, which is number n of these lines, with what is open there and what follows
record IsReached (whole ps : List Placed) (ls : List NumberedLine) (n m : ℕ) (p : Placed) : Type 0 where
  stack : List Opener
  line : NumberedLine
  is : slice_get ls n ≡ Some line
  placed' : p ≡ placed_line m p.stand p.counts line
  stacked : IsStacked whole stack p
  behind : drop (suc n) ps ≡ placed_from (suc m) (opened_by p.stand m p.form) (counted p.counts p.form (length line.picks)) (drop (suc n) ls)
  rest : AreStacked whole (suc m) (opened_by p.stand m p.form) (counted p.counts p.form (length line.picks)) (stack_after stack m p.form) (drop (suc n) ls)

reached : (whole : List Placed) (k : ℕ) (o : Stand) (c : Counts) (stack : List Opener) (ls : List NumberedLine) (n m : ℕ) (p : Placed) → AreStacked whole k o c stack ls → m ≡ k + n → slice_get (placed_from k o c ls) n ≡ Some p → IsReached whole (placed_from k o c ls) ls n m p
unfolding placed_from
reached whole k o c stack [] n m p h at' e = absurd (let z : ⊥ = cc in z)
reached whole k o c stack (l ∷ ls) zero m p h at' e =
    let same : placed_line k o c l ≡ p = cc in
    let here : m ≡ k = omega arith in
    rw (← same, here) (record { stack = stack; line = l; is = refl; placed' = refl; stacked = h.0; behind = refl; rest = h.1 })
reached whole k o c stack (l ∷ ls) (suc n) m p h at' e =
    let r = reached whole (suc k) (opened_by o k l.form) (counted c l.form (length l.picks)) (stack_after stack k l.form) ls n m p h.1 (omega arith) e in
    record { stack = r.stack; line = r.line; is = r.is; placed' = r.placed'; stacked = r.stacked; behind = r.behind; rest = r.rest }

-- line k of the scene, with what was open there and what follows
pub record IsPassed (scene : Scene) (k : ℕ) (p : Placed) : Type 0 where
  pub stack : List Opener
  pub line : NumberedLine
  pub is : slice_get scene.lines k ≡ Some line
  pub placed' : p ≡ placed_line k p.stand p.counts line
  pub stacked : IsStacked (placed scene) stack p
  pub behind : drop (suc k) (placed scene) ≡ placed_from (suc k) (opened_by p.stand k p.form) (counted p.counts p.form (length line.picks)) (drop (suc k) scene.lines)
  pub rest : AreStacked (placed scene) (suc k) (opened_by p.stand k p.form) (counted p.counts p.form (length line.picks)) (stack_after stack k p.form) (drop (suc k) scene.lines)

-- what is known of line k
pub passed : (scene : Scene) → IsScene scene → (k : ℕ) (p : Placed) → slice_get (placed scene) k ≡ Some p → IsPassed scene k p
unfolding placed
passed scene s k p e =
    let r = reached (placed scene) 0 outside nothing [] scene.lines k k p (all_stacked scene s) (omega arith) e in
    record { stack = r.stack; line = r.line; is = r.is; placed' = r.placed'; stacked = r.stacked; behind = r.behind; rest = r.rest }

there_from : (whole : List Placed) (k : ℕ) (o : Stand) (c : Counts) (stack : List Opener) (ls : List NumberedLine) → AreStacked whole k o c stack ls → Every (λ p. slice_get whole p.at ≡ Some p) (placed_from k o c ls)
unfolding placed_from
there_from whole k o c stack [] h = tt
there_from whole k o c stack (l ∷ ls) h =
    (h.0.there, there_from whole (suc k) (opened_by o k l.form) (counted c l.form (length l.picks)) (stack_after stack k l.form) ls h.1)

-- each line is at its place
pub every_there : (scene : Scene) → IsScene scene → Every (λ p. slice_get (placed scene) p.at ≡ Some p) (placed scene)
unfolding placed
every_there scene s = there_from (placed scene) 0 outside nothing [] scene.lines (all_stacked scene s)

-- so of each line
pub every_passed : (scene : Scene) → IsScene scene → Every (λ p. (slice_get (placed scene) p.at ≡ Some p) × IsPassed scene p.at p) (placed scene)
every_passed scene s =
    every_map (λ p. slice_get (placed scene) p.at ≡ Some p) (λ p. (slice_get (placed scene) p.at ≡ Some p) × IsPassed scene p.at p) (λ p e. (e, passed scene s p.at p e)) (placed scene) (every_there scene s)
