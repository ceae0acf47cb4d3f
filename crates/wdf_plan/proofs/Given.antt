-- The line that gives a block an attribute is in the block, and each line in a block gives it what it says.
use Rattle.std.proofs.Common.{◌≡◌, ℕ, zero, suc, ◌+◌, ◌-◌, ◌<◌, ◌≤◌, Bool, true, false, not, cond, List, [], ◌∷◌, ◌++◌, drop, length, Option, Some, None, slice_get, refl, ap, sym, subst, ◌∙◌, arith}
use Rattle.wdf_scene.specs.declared.block.Block.{Block}
use Rattle.wdf_scene.specs.declared.line.SceneLine.{SceneLine}
use Rattle.wdf_scene.specs.declared.line.SceneLine.TheVariants as line
use Rattle.wdf_scene.specs.declared.line.NumberedLine.{NumberedLine}
use Rattle.wdf_scene.specs.declared.scene.Scene.{Scene}
use Rattle.wdf_scene.specs.Blocks.{in_callback, opened}
use Rattle.wdf_scene.specs.Written.{IsScene}
use Rattle.wdf_blocks.specs.declared.attribute.Attribute.{Attribute}
use Rattle.wdf_blocks.specs.declared.placed.Counts.{Counts}
use Rattle.wdf_blocks.specs.declared.placed.Placed.{Placed}
use Rattle.wdf_blocks.specs.declared.placed.Stand.{Stand}
use Rattle.wdf_blocks.specs.Attribute.{gives, is_device_wide}
use Rattle.wdf_blocks.specs.Blocks.{depth_after, counts_for, ends_block, given_from, given}
use Rattle.wdf_blocks.specs.Forms.{is_end}
use Rattle.wdf_blocks.specs.Placed.{counted, opened_by, placed_line, placed_from, placed}
use Rattle.wdf_refusals.proofs.Every.{Every, drop_get}
use Rattle.wdf_plan.proofs.Stacks.{Opener, stand_of, with_block, stack_after, begun, AreBefore, IsOpened, AreOpened, IsStacked, AreStacked, AreFitting, fitting, quiet}
use Rattle.wdf_plan.proofs.Stacking.{passed}
use Rattle.wdf_plan.proofs.Inside.{gives_some, attribute_quiet, block_told, no_callback_open, split, after_opener}

-- ---- what is found is in the block

-- line g gives the attribute in the block of line b, in no callback
record IsFound (whole : List Placed) (b : ℕ) (a : Attribute) (k g : ℕ) : Type 0 where
  line : Placed
  there : slice_get whole g ≡ Some line
  gives_it : gives a line.form ≡ true
  block : line.stand.block ≡ Some b
  no_callback : line.stand.callback ≡ None
  after : k ≤ g

narrow : (a : Attribute) (n : ℕ) (form : SceneLine) → is_device_wide a ≡ false → counts_for a (suc n) form ≡ false
narrow a n form w = rw w refl

-- the line itself gives it
found_here : (whole : List Placed) (inner : List Opener) (x : Opener) (outer : List Opener) (a : Attribute) (p : Placed) → is_device_wide a ≡ false → IsStacked whole (inner ++ x ∷ outer) p → counts_for a (length inner) p.form ≡ true → IsFound whole x.line a p.at p.at
found_here whole [] x outer a p w s e =
    let q : in_callback (Some x.block) ≡ false = rw s.blocks at (attribute_quiet s.position p.form (gives_some a p.form e) s.may) in
    record {
      line = p;
      there = s.there;
      gives_it = e;
      block = rw s.stand (block_told x outer q);
      no_callback = rw s.stand (quiet (x ∷ outer) (fitting whole p.at (x ∷ outer) s.before s.open') q).no_callback;
      after = omega arith;
    }
found_here whole (y ∷ ys) x outer a p w s e =
    let n : counts_for a (suc (length ys)) p.form ≡ false = narrow a (length ys) p.form w in
    absurd (let z : ⊥ = cc in z)

found_earlier : (whole : List Placed) (b c : ℕ) (a : Attribute) (k g : ℕ) → b ≡ c → IsFound whole b a (suc k) g → IsFound whole c a k g
found_earlier whole b c a k g e f =
    let past : suc k ≤ g = f.after in
    record { line = f.line; there = f.there; gives_it = f.gives_it; block = rw (← e) f.block; no_callback = f.no_callback; after = omega arith }

found_step : (whole : List Placed) (b : ℕ) (a : Attribute) (k g : ℕ) (here ends : Bool) (rest : Option ℕ) → cond here (Some k) (cond ends None rest) ≡ Some g → (here ≡ true → IsFound whole b a k k) → (ends ≡ false → rest ≡ Some g → IsFound whole b a k g) → IsFound whole b a k g
found_step whole b a k g true ends rest e now later =
    let same : k ≡ g = cc in
    rw (← same) (now refl)
found_step whole b a k g false true rest e now later = absurd (let z : ⊥ = cc in z)
found_step whole b a k g false false rest e now later = later refl e

found_from : (whole : List Placed) (a : Attribute) (inner : List Opener) (x : Opener) (outer : List Opener) (k : ℕ) (o : Stand) (c : Counts) (ls : List NumberedLine) (g : ℕ) → is_device_wide a ≡ false → AreStacked whole k o c (inner ++ x ∷ outer) ls → given_from a (length inner) k ls ≡ Some g → IsFound whole x.line a k g
unfolding given_from
found_from whole a inner x outer k o c [] g w h e = absurd (let z : ⊥ = cc in z)
found_from whole a inner x outer k o c (l ∷ ls) g w h e =
    found_step whole x.line a k g (counts_for a (length inner) l.form) (ends_block (length inner) l.form) (given_from a (depth_after (length inner) l.form) (suc k) ls) e (λ t. found_here whole inner x outer a (placed_line k o c l) w h.0 t) (λ u f.
    let s = split inner x outer k l.form u in
    found_earlier whole s.own.line x.line a k g s.line (found_from whole a s.within s.own outer (suc k) (opened_by o k l.form) (counted c l.form (length l.picks)) ls g w (rw s.is at h.1) (rw s.depth at f)))

-- the line that gives a block an attribute is in that block, in no callback
pub record IsGiven (scene : Scene) (b g : ℕ) (a : Attribute) : Type 0 where
  pub line : Placed
  pub there : slice_get (placed scene) g ≡ Some line
  pub gives_it : gives a line.form ≡ true
  pub block : line.stand.block ≡ Some b
  pub no_callback : line.stand.callback ≡ None
  pub after : b < g

-- what is found is in the block
pub given_stands : (scene : Scene) → IsScene scene → (b : ℕ) (opener : Placed) (blk : Block) (a : Attribute) (g : ℕ) → slice_get (placed scene) b ≡ Some opener → opened opener.form ≡ Some blk → is_device_wide a ≡ false → given scene b a ≡ Some g → IsGiven scene b g a
unfolding given
given_stands scene s b opener blk a g there opens' w e =
    let i = passed scene s b opener there in
    let f = found_from (placed scene) a [] (record { block = blk; line = b }) i.stack (suc b) (opened_by opener.stand b opener.form) (counted opener.counts opener.form (length i.line.picks)) (drop (suc b) scene.lines) g w (rw (after_opener i.stack b opener.form blk opens') at i.rest) e in
    let past : suc b ≤ g = f.after in
    record { line = f.line; there = f.there; gives_it = f.gives_it; block = f.block; no_callback = f.no_callback; after = omega arith }

-- ---- what is in a block is found

-- the innermost open block was opened by line b
record IsInnermost (xs : List Opener) (b : ℕ) : Type 0 where
  head : Opener
  outer : List Opener
  is : xs ≡ head ∷ outer
  line : head.line ≡ b

-- line b opened a block
record HasOpener (whole : List Placed) (b : ℕ) : Type 0 where
  placed' : Placed
  block : Block
  there : slice_get whole b ≡ Some placed'
  opens' : opened placed'.form ≡ Some block

-- the block that a line is in, outside callbacks, is the innermost open one
innermost_line : (xs : List Opener) (b : ℕ) → AreFitting xs → (stand_of xs).block ≡ Some b → (stand_of xs).callback ≡ None → IsInnermost xs b
innermost_line [] b f e n = absurd (let z : ⊥ = cc in z)
innermost_line (x ∷ xs) b f e n =
    let told : Some x.line ≡ Some b = sym (block_told x xs (no_callback_open (x ∷ xs) f n)) ∙ e in
    record { head = x; outer = xs; is = refl; line = cc }

-- no open block was opened by line b
abbrev HasNot : ℕ → List Opener → Type 0
HasNot b xs = Every (λ y. y.line ≡ b → ⊥) xs

has_not_after : (b : ℕ) (stack : List Opener) (k : ℕ) (form : SceneLine) → b < k → HasNot b stack → HasNot b (stack_after stack k form)
has_not_after b [] k line.End h n = tt
has_not_after b (x ∷ xs) k line.End h n = n.1
has_not_after b [] k line.Else h n = tt
has_not_after b (x ∷ xs) k line.Else h n = (n.0, n.1)
has_not_after b stack k form h n = with_block_not (opened form)
  where
    with_block_not : (t : Option Block) → HasNot b (with_block stack k t)
    with_block_not None = n
    with_block_not (Some c) = (λ e. absurd (omega arith), n)

not_here : (b : ℕ) (xs : List Opener) → IsInnermost xs b → HasNot b xs → ⊥
not_here b xs m n =
    let opened' : HasNot b (m.head ∷ m.outer) = subst (HasNot b) m.is n in
    opened'.0 m.line

-- a line is in the block of line b
record StandsIn (p : Placed) (b : ℕ) : Type 0 where
  block : p.stand.block ≡ Some b
  no_callback : p.stand.callback ≡ None

-- after the end of a block no line is in it
never_again : (whole : List Placed) (b k : ℕ) (o : Stand) (c : Counts) (stack : List Opener) (ls : List NumberedLine) (n : ℕ) (p : Placed) → b < k → HasNot b stack → AreStacked whole k o c stack ls → slice_get (placed_from k o c ls) n ≡ Some p → StandsIn p b → ⊥
unfolding placed_from
never_again whole b k o c stack [] n p h not h' e i = absurd (let z : ⊥ = cc in z)
never_again whole b k o c stack (l ∷ ls) zero p h not s e i =
    let same : placed_line k o c l ≡ p = cc in
    let w : StandsIn (placed_line k o c l) b = rw same i in
    let f = fitting whole k stack s.0.before s.0.open' in
    let m = innermost_line stack b f (rw (← s.0.stand) w.block) (rw (← s.0.stand) w.no_callback) in
    not_here b stack m not
never_again whole b k o c stack (l ∷ ls) (suc n) p h not s e i =
    never_again whole b (suc k) (opened_by o k l.form) (counted c l.form (length l.picks)) (stack_after stack k l.form) ls n p (omega arith) (has_not_after b stack k l.form h not) s.1 e i

-- the attribute is given at line k or before
record IsBefore (found : Option ℕ) (k : ℕ) : Type 0 where
  g : ℕ
  is : found ≡ Some g
  before : g ≤ k

found_by_here : (a : Attribute) (b : ℕ) (inner : List Opener) (x : Opener) (outer : List Opener) (form : SceneLine) (k : ℕ) (rest : Option ℕ) → x.line ≡ b → Every (λ y. x.line < y.line) inner → IsInnermost (inner ++ x ∷ outer) b → gives a form ≡ true → IsBefore (cond (counts_for a (length inner) form) (Some k) rest) k
found_by_here a b [] x outer form k rest own h m e = rw e (record { g = k; is = refl; before = omega arith })
found_by_here a b (y ∷ ys) x outer form k rest own h m e =
    let same : m.head ≡ y = first_same m.head y m.outer (ys ++ x ∷ outer) (sym m.is) in
    let below : x.line < y.line = h.0 in
    let l : m.head.line ≡ b = m.line in
    let i : y.line ≡ b = rw same at l in
    absurd (omega arith)
  where
    first_same : (v w : Opener) (vs ws : List Opener) → v ∷ vs ≡ w ∷ ws → v ≡ w
    first_same v w vs ws e = cc

before_step : (k m : ℕ) (here ends : Bool) (rest : Option ℕ) → k ≤ m → (ends ≡ true → ⊥) → (ends ≡ false → IsBefore rest m) → IsBefore (cond here (Some k) (cond ends None rest)) m
before_step k m true ends rest less no_end later = record { g = k; is = refl; before = less }
before_step k m false true rest less no_end later = absurd (no_end refl)
before_step k m false false rest less no_end later = later refl

ended_all : (inner : List Opener) (x : Opener) (outer : List Opener) (k : ℕ) (form : SceneLine) → ends_block (length inner) form ≡ true → stack_after (inner ++ x ∷ outer) k form ≡ outer
unfolding is_end
ended_all [] x outer k line.End e = refl
ended_all (y ∷ ys) x outer k form e = absurd (let z : ⊥ = cc in z)
ended_all [] x outer k _ e = absurd (let z : ⊥ = cc in z)

before_from : (whole : List Placed) (a : Attribute) (b : ℕ) (inner : List Opener) (x : Opener) (outer : List Opener) (k : ℕ) (o : Stand) (c : Counts) (ls : List NumberedLine) (n m : ℕ) (p : Placed) → x.line ≡ b → b < k → Every (λ y. x.line < y.line) inner → HasNot b outer → AreStacked whole k o c (inner ++ x ∷ outer) ls → slice_get (placed_from k o c ls) n ≡ Some p → m ≡ k + n → StandsIn p b → gives a p.form ≡ true → IsBefore (given_from a (length inner) k ls) m
unfolding given_from placed_from
before_from whole a b inner x outer k o c [] n m p is past later not s e at' i g = absurd (let z : ⊥ = cc in z)
before_from whole a b inner x outer k o c (l ∷ ls) zero m p is past later not s e at' i g =
    let same : placed_line k o c l ≡ p = cc in
    let here : m ≡ k = omega arith in
    let w : StandsIn (placed_line k o c l) b = rw same i in
    let f = fitting whole k (inner ++ x ∷ outer) s.0.before s.0.open' in
    let t = innermost_line (inner ++ x ∷ outer) b f (rw (← s.0.stand) w.block) (rw (← s.0.stand) w.no_callback) in
    rw here (found_by_here a b inner x outer l.form k (cond (ends_block (length inner) l.form) None (given_from a (depth_after (length inner) l.form) (suc k) ls)) is later t (rw (ap (λ (q : Placed). q.form) same) g))
before_from whole a b inner x outer k o c (l ∷ ls) (suc n) m p is past later not s e at' i g =
    before_step k m (counts_for a (length inner) l.form) (ends_block (length inner) l.form) (given_from a (depth_after (length inner) l.form) (suc k) ls) (omega arith) (λ t. never_again whole b (suc k) (opened_by o k l.form) (counted c l.form (length l.picks)) outer ls n p (omega arith) not (rw (ended_all inner x outer k l.form t) at s.1) e i) (λ t.
    let v = split inner x outer k l.form t in
    let line' : v.own.line ≡ b = v.line ∙ is in
    let after : x.line < k = omega (arith, is) in
    rw v.depth (before_from whole a b v.within v.own outer (suc k) (opened_by o k l.form) (counted c l.form (length l.picks)) ls n m p line' (omega arith) (rw v.line (v.later later after)) not (rw v.is at s.1) e (omega arith) i g))

-- a line that gives its block an attribute is found, or an earlier one
pub record IsFirst (scene : Scene) (b : ℕ) (a : Attribute) (k : ℕ) : Type 0 where
  pub g : ℕ
  pub is : given scene b a ≡ Some g
  pub before : g ≤ k

opener_before : (xs : List Opener) (k b : ℕ) → AreBefore k xs → IsInnermost xs b → b < k
opener_before xs k b h m =
    let below : AreBefore k (m.head ∷ m.outer) = subst (AreBefore k) m.is h in
    let l : m.head.line ≡ b = m.line in
    let less : m.head.line < k = below.0 in
    omega arith

-- the line of the innermost open block
opener_line : (whole : List Placed) (xs : List Opener) (b : ℕ) → AreOpened whole xs → IsInnermost xs b → HasOpener whole b
opener_line whole xs b h m =
    let all : AreOpened whole (m.head ∷ m.outer) = subst (AreOpened whole) m.is h in
    by_line m.head m.outer m.line all.0
  where
    by_line : (x : Opener) (ys : List Opener) → x.line ≡ b → IsOpened whole x ys → HasOpener whole b
    by_line x ys e i = record { placed' = i.placed; block = begun x.block; there = rw (← e) i.there; opens' = i.opens }

all_not : (b k : ℕ) (xs : List Opener) → k ≤ b → AreBefore k xs → HasNot b xs
all_not b k [] h n = tt
all_not b k (x ∷ xs) h n =
    let below : x.line < k = n.0 in
    (λ e. absurd (omega arith), all_not b x.line xs (omega arith) n.1)

-- a line in the block is found, or an earlier one
pub given_found : (scene : Scene) → IsScene scene → (k b : ℕ) (p : Placed) (a : Attribute) → slice_get (placed scene) k ≡ Some p → p.stand.block ≡ Some b → p.stand.callback ≡ None → gives a p.form ≡ true → IsFirst scene b a k
unfolding given
given_found scene s k b p a there block' quiet' g =
    let i = passed scene s k p there in
    let t = i.stacked in
    let here : p.at ≡ k = rw i.placed' refl in
    let f = fitting (placed scene) p.at i.stack t.before t.open' in
    let m = innermost_line i.stack b f (rw (← t.stand) block') (rw (← t.stand) quiet') in
    let less : b < k = rw here at (opener_before i.stack p.at b t.before m) in
    let o = opener_line (placed scene) i.stack b t.open' m in
    let j = passed scene s b o.placed' o.there in
    let at' : o.placed'.at ≡ b = rw j.placed' refl in
    let x : Opener = record { block = o.block; line = b } in
    let far : suc b + (k - suc b) ≡ k = omega arith in
    let e : slice_get (drop (suc b) (placed scene)) (k - suc b) ≡ Some p = drop_get (placed scene) (suc b) (k - suc b) k p (sym far) there in
    let not : HasNot b j.stack = all_not b b j.stack (omega arith) (rw at' at j.stacked.before) in
    let r = before_from (placed scene) a b [] x j.stack (suc b) (opened_by o.placed'.stand b o.placed'.form) (counted o.placed'.counts o.placed'.form (length j.line.picks)) (drop (suc b) scene.lines) (k - suc b) k p refl (omega arith) tt not (rw (after_opener j.stack b o.placed'.form o.block o.opens') at j.rest) (rw j.behind at e) (sym far) (record { block = block'; no_callback = quiet' }) g in
    record { g = r.g; is = r.is; before = r.before }
