-- The counts stay within the lines, and a walk goes on by one line.
use Rattle.std.proofs.Common.{◌≡◌, ℕ, suc, ◌+◌, ◌-◌, ◌<◌, ◌≤◌, ◌^◌, Bool, true, false, cond, List, [], ◌∷◌, ◌++◌, length, drop, get_or, Some, None, refl, ap, arith, drop-cons, add-one, length-append}
use Rattle.std.proofs.lemmas.List.{drop_all}
use Rattle.wdf_scene.specs.declared.line.SceneLine.{SceneLine}
use Rattle.wdf_scene.specs.declared.line.SceneLine.TheVariants as line
use Rattle.wdf_scene.specs.declared.line.NumberedLine.{NumberedLine}
use Rattle.wdf_scene.specs.declared.scene.Scene.{Scene}
use Rattle.wdf_blocks.specs.declared.placed.Stand.{Stand}
use Rattle.wdf_blocks.specs.declared.placed.Counts.{Counts}
use Rattle.wdf_blocks.specs.declared.placed.Placed.{Placed}
use Rattle.wdf_blocks.specs.Forms.{is_device, is_object, is_app, is_register, is_class, is_statement, is_post}
use Rattle.wdf_blocks.specs.Placed.{outside, nothing, placed, closed, closed_block, closed_in_callback, opened_by, one_more, counted, placed_line, placed_from}
use Rattle.wdf_blocks.specs.Walk.{IsWithin}

one_more_within : (n k : ℕ) (b : Bool) → n ≤ k → one_more n b ≤ suc k
one_more_within n k true h = omega arith
one_more_within n k false h = omega arith

cond_nested : (b : Bool) (x y : Stand) (k : ℕ) → x.nested ≤ k → y.nested ≤ k → (cond b x y).nested ≤ k
cond_nested true x y k p q = p
cond_nested false x y k p q = q

closed_nested : (o : Stand) (k : ℕ) → o.nested ≤ k → (closed o).nested ≤ suc k
closed_nested o k h =
    elim o.callback as (λ c. (elim c as (λ _. Stand) [ None ↦ closed_block o | Some j ↦ closed_in_callback o ]).nested ≤ suc k) [
      | None ↦ cond_nested _ outside (record o { block = o.device }) (suc k) (omega arith) (omega arith)
      | Some j ↦ cond_nested _ (record o { callback = None }) (record o { nested = o.nested - 1 }) (suc k) (omega arith) (omega arith)
    ]

opened_nested : (o : Stand) (k : ℕ) (form : SceneLine) → o.nested ≤ k → (opened_by o k form).nested ≤ suc k
unfolding opened_by
opened_nested o k line.End h = closed_nested o k h
opened_nested o k (line.If e) h = omega arith
opened_nested o k (line.Repeat e) h = omega arith
opened_nested o k (line.On c) h = omega arith
opened_nested o k _ h = omega arith

within_next : (lines : List NumberedLine) (k : ℕ) (o : Stand) (c : Counts) (form : SceneLine) (picks : ℕ) → IsWithin lines k o c → k < length lines → picks < 2 ^ 32 → IsWithin lines (suc k) (opened_by o k form) (counted c form picks)
unfolding counted
within_next lines k o c form picks w here fits =
    record {
      lines_fit = w.lines_fit;
      there = omega arith;
      nested = opened_nested o k form w.nested;
      devices = one_more_within c.devices k (is_device form) w.devices;
      objects = one_more_within c.objects k (is_object form) w.objects;
      apps = one_more_within c.apps k (is_app form) w.apps;
      registers = one_more_within c.registers k (is_register form) w.registers;
      classes = one_more_within c.classes k (is_class form) w.classes;
      statements = one_more_within c.statements k (is_statement form) w.statements;
      posts = one_more_within c.posts k (is_post form) w.posts;
      picks = omega (arith, w.picks);
    }

placed_next : (lines : List NumberedLine) (k : ℕ) (o : Stand) (c : Counts) (l : NumberedLine) → k < length lines → l ≡ get_or lines k l → placed_from k o c (drop k lines) ≡ placed_line k o c l ∷ placed_from (suc k) (opened_by o k l.form) (counted c l.form (length l.picks)) (drop (suc k) lines)
unfolding placed_from
placed_next lines k o c l here is =
    rw (drop-cons lines k l) (rw (← is) refl)

-- after the last line nothing is placed
pub placed_end : (lines : List NumberedLine) (k : ℕ) (o : Stand) (c : Counts) → length lines ≤ k → placed_from k o c (drop k lines) ≡ []
unfolding placed_from
placed_end lines k o c h = rw (drop_all k lines h) refl

-- what `next` leaves
pub walk_next : (lines slice : List NumberedLine) (k : ℕ) (o o' : Stand) (c c' : Counts) (l : NumberedLine) (picks : ℕ) (now : List Placed) → placed_from k o c (drop k lines) ≡ now → slice ≡ lines → k < length slice → l ≡ get_or slice k l → picks ≡ length l.picks → o' ≡ opened_by o k l.form → c' ≡ counted c l.form picks → now ≡ record { at = k; number = l.number; form = l.form; picks = picks; stand = o; counts = c } ∷ placed_from (k + 1) o' c' (drop (k + 1) lines)
walk_next lines slice k o o' c c' l picks now view same here is many stood counts =
    let here' : k < length lines = rw (← same) here in
    let is' : l ≡ get_or lines k l = rw (← same) is in
    rw (← view, stood, counts, many, add-one) (placed_next lines k o c l here' is')

-- its counts stay within
pub within_walk : (lines slice : List NumberedLine) (k : ℕ) (o o' : Stand) (c c' : Counts) (form : SceneLine) (picks : ℕ) → IsWithin lines k o c → slice ≡ lines → k < length slice → picks < 2 ^ 32 → o' ≡ opened_by o k form → c' ≡ counted c form picks → IsWithin lines (k + 1) o' c'
within_walk lines slice k o o' c c' form picks w same here fits stood counts =
    let here' : k < length lines = rw (← same) here in
    rw (stood, counts, add-one) (within_next lines k o c form picks w here' fits)

-- ---- all lines are placed

pub placed_length : (k : ℕ) (o : Stand) (c : Counts) (ls : List NumberedLine) → length (placed_from k o c ls) ≡ length ls
unfolding placed_from
placed_length k o c [] = refl
placed_length k o c (l ∷ ls) =
    ap suc (placed_length (suc k) (opened_by o k l.form) (counted c l.form (length l.picks)) ls)

-- where one more is to come, there are fewer so far than lines
pub placed_room : (scene : Scene) (so_far rest rest' : List Placed) (p : Placed) → length scene.lines < 2 ^ 32 → so_far ++ rest ≡ placed scene → rest ≡ p ∷ rest' → length so_far + 1 < 2 ^ 32
unfolding placed
placed_room scene so_far rest rest' p lines is next =
    let all : length (so_far ++ rest) ≡ length scene.lines = rw is (placed_length 0 outside nothing scene.lines) in
    let both : length (so_far ++ rest) ≡ length so_far + length rest = length-append so_far rest in
    let more : length rest ≡ suc (length rest') = ap length next in
    omega (arith, all, both, more, lines)
