-- What is known of the device in which a line is.
use Rattle.std.proofs.Common.{◌≡◌, ℕ, zero, suc, ◌-◌, Bool, true, false, cond, List, [], ◌∷◌, ◌++◌, length, Option, Some, None, slice_get, refl, ap, sym, ◌∙◌, arith, append_assoc, length-append, ◌<◌}
use Rattle.std.proofs.lemmas.Bool.{and_parts}
use Rattle.std.specs.Prelude.{◌==◌, option_map, map, option_and_then}
use Rattle.wdf_base.specs.Same.{same_option}
use Rattle.wdf_scene.specs.declared.line.SceneLine.{SceneLine}
use Rattle.wdf_scene.specs.declared.line.SceneLine.TheVariants as line
use Rattle.wdf_scene.specs.declared.line.NumberedLine.{NumberedLine}
use Rattle.wdf_scene.specs.declared.scene.Scene.{Scene}
use Rattle.wdf_scene.specs.Blocks.{Position, innermost, in_device, has_level, may_stand}
use Rattle.wdf_scene.specs.Written.{IsScene}
use Rattle.wdf_blocks.specs.declared.placed.Counts.{Counts}
use Rattle.wdf_blocks.specs.declared.placed.Placed.{Placed}
use Rattle.wdf_blocks.specs.declared.placed.Stand.{Stand}
use Rattle.wdf_blocks.specs.Blocks.{form_at}
use Rattle.wdf_blocks.specs.Forms.{is_device}
use Rattle.wdf_blocks.specs.Placed.{outside, nothing, closed_block, closed_in_callback, counted, opened_by, placed_line, placed_from, placed}
use Rattle.wdf_plan.proofs.Accepted.{IsAccepted, each_accepted}
use Rattle.wdf_refusals.proofs.Every.{Every, every_map, every_both, every_at}
use Rattle.wdf_plan.proofs.Places.{item_there}
use Rattle.wdf_plan.proofs.Stacking.{IsPassed, every_passed}
use Rattle.wdf_plan.proofs.Stacks.{Opener, block_of, stand_of, IsStacked, IsInDevice, fitting, device_open}
use Rattle.wdf_refusals.specs.Rows.{block_is}
use Rattle.wdf_refusals.specs.First.{first_refusal}

-- line k begins a device, before which so many objects were declared
pub record IsDeviceAt (whole : List Placed) (k order : ℕ) : Type 0 where
  pub line : Placed
  pub there : slice_get whole k ≡ Some line
  pub is : is_device line.form ≡ true
  pub counted : order ≡ line.counts.objects

-- the device that is open, if one is, was begun by its line, and counted
abbrev pub HasDevice : List Placed → Stand → Counts → Type 0
HasDevice whole o c = (k : ℕ) → o.device ≡ Some k → IsDeviceAt whole k c.device × (0 < c.devices)

-- ---- what one line does

in_block : (b : Bool) (o : Stand) (k : ℕ) → (cond b outside (record o { block = o.device })).device ≡ Some k → o.device ≡ Some k
in_block true o k e = absurd (let z : ⊥ = cc in z)
in_block false o k e = e

in_callback : (b : Bool) (o : Stand) (k : ℕ) → (cond b (record o { callback = None }) (record o { nested = o.nested - 1 })).device ≡ Some k → o.device ≡ Some k
in_callback true o k e = e
in_callback false o k e = e

closed_device : (o : Stand) (callback : Option ℕ) (k : ℕ) → (elim callback as (λ _. Stand) [ None ↦ closed_block o | Some j ↦ closed_in_callback o ]).device ≡ Some k → o.device ≡ Some k
closed_device o None k e = in_block (same_option ◌==◌ o.block o.device) o k e
closed_device o (Some j) k e = in_callback (o.nested == 0) o k e

kept_device : (o : Stand) (j : ℕ) (form : SceneLine) (k : ℕ) → is_device form ≡ false → (opened_by o j form).device ≡ Some k → o.device ≡ Some k
unfolding opened_by is_device
kept_device o j (line.Device n working) k no' e = absurd (let z : ⊥ = cc in z)
kept_device o j line.End k no' e = closed_device o o.callback k e
kept_device o j _ k no' e = e

begun_device : (o : Stand) (j : ℕ) (form : SceneLine) → is_device form ≡ true → (opened_by o j form).device ≡ Some j
unfolding opened_by is_device
begun_device o j (line.Device n working) is = refl
begun_device o j _ is = absurd (let z : ⊥ = cc in z)

device_after : (whole : List Placed) (o : Stand) (c : Counts) (j : ℕ) (l : NumberedLine) (b : Bool) → is_device l.form ≡ b → slice_get whole j ≡ Some (placed_line j o c l) → HasDevice whole o c → HasDevice whole (opened_by o j l.form) (counted c l.form (length l.picks))
unfolding counted
device_after whole o c j l true is there h k e =
    let own : Some j ≡ Some k = sym (begun_device o j l.form is) ∙ e in
    let same : j ≡ k = cc in
    (record { line = placed_line j o c l; there = rw (← same) there; is = is; counted = rw is refl }, rw is (omega arith))
device_after whole o c j l false is there h k e =
    let i = h k (kept_device o j l.form k is e) in
    (record { line = i.0.line; there = i.0.there; is = i.0.is; counted = rw is i.0.counted }, rw is i.1)

-- ---- all lines

devices_from : (whole front : List Placed) (k : ℕ) (o : Stand) (c : Counts) (ls : List NumberedLine) → length front ≡ k → whole ≡ front ++ placed_from k o c ls → HasDevice whole o c → Every (λ p. HasDevice whole p.stand p.counts) (placed_from k o c ls)
unfolding placed_from
devices_from whole front k o c [] long is h = tt
devices_from whole front k o c (l ∷ ls) long is h =
    let p = placed_line k o c l in
    let rest = placed_from (suc k) (opened_by o k l.form) (counted c l.form (length l.picks)) ls in
    let there : slice_get whole k ≡ Some p = item_there whole front p rest k is long in
    let longer : length (front ++ p ∷ []) ≡ suc k = omega (arith, length-append front (p ∷ []), long) in
    (h, devices_from whole (front ++ p ∷ []) (suc k) (opened_by o k l.form) (counted c l.form (length l.picks)) ls longer (is ∙ sym (append_assoc front (p ∷ []) rest)) (device_after whole o c k l (is_device l.form) refl there h))

-- the device in which a line is was begun by its line, and so many objects were declared before
pub devices_known : (scene : Scene) → Every (λ p. HasDevice (placed scene) p.stand p.counts) (placed scene)
unfolding placed
devices_known scene =
    devices_from (placed scene) [] 0 outside nothing scene.lines refl refl (λ k e. absurd (let z : ⊥ = cc in z))

device_of_line : (scene : Scene) (at k : ℕ) (p : Placed) → slice_get (placed scene) at ≡ Some p → p.stand.device ≡ Some k → IsDeviceAt (placed scene) k p.counts.device
device_of_line scene at k p there e =
    (every_at (λ q. HasDevice (placed scene) q.stand q.counts) (placed scene) (devices_known scene) at p there k e).0

-- a device has one line, so one order
order_is : (whole : List Placed) (k order : ℕ) (p : Placed) → IsDeviceAt whole k order → slice_get whole k ≡ Some p → order ≡ p.counts.objects
order_is whole k order p d there =
    let both : Some d.line ≡ Some p = sym d.there ∙ there in
    let same : d.line ≡ p = cc in
    d.counted ∙ ap (λ (x : Placed). x.counts.objects) same

-- a device has one order
pub same_order : (whole : List Placed) (k a b : ℕ) → IsDeviceAt whole k a → IsDeviceAt whole k b → a ≡ b
same_order whole k a b d e = order_is whole k a e.line d e.there ∙ sym e.counted

-- two lines in one device
pub same_device : (scene : Scene) (i j k : ℕ) (p q : Placed) → slice_get (placed scene) i ≡ Some p → slice_get (placed scene) j ≡ Some q → p.stand.device ≡ Some k → q.stand.device ≡ Some k → p.counts.device ≡ q.counts.device
same_device scene i j k p q there there' e e' =
    same_order (placed scene) k p.counts.device q.counts.device (device_of_line scene i k p there e) (device_of_line scene j k q there' e')

-- ---- lines that come only in a device

-- lines that come only in a device, outside its blocks
abbrev pub belongs : SceneLine → Bool
belongs (line.Queue n dispatch) = true
belongs (line.Interrupt n level) = true
belongs (line.Target n delay status depth) = true
belongs (line.Register n v) = true
belongs (line.When access r action after) = true
belongs (line.At tick action) = true
belongs _ = false

may_belong : (q : Position) (form : SceneLine) → belongs form ≡ true → may_stand q form ≡ true → in_device (innermost q.blocks) ≡ true
may_belong q (line.Queue n dispatch) b m = m
may_belong q (line.Interrupt n l) b m = (and_parts (in_device (innermost q.blocks)) (has_level q.version l) m).0
may_belong q (line.Target n delay status depth) b m = m
may_belong q (line.Register n v) b m = m
may_belong q (line.When access r action after) b m = m
may_belong q (line.At tick action) b m = m
may_belong q _ b m = absurd (let z : ⊥ = cc in z)

-- the line is in a device and in no block inside it
pub record IsInside (o : Stand) : Type 0 where
  pub line : ℕ
  pub block : o.block ≡ Some line
  pub device : o.device ≡ Some line

inside_open : (stack : List Opener) → IsInDevice stack → IsInside (stand_of stack)
inside_open stack d = rw d.is (record { line = d.line; block = refl; device = refl })

-- such a line is in a device
pub stands_inside : (whole : List Placed) (stack : List Opener) (p : Placed) → IsStacked whole stack p → belongs p.form ≡ true → IsInside p.stand
stands_inside whole stack p s b =
    let inner : in_device (innermost (map block_of stack)) ≡ true = rw (← s.blocks) (may_belong s.position p.form b s.may) in
    rw s.stand (inside_open stack (device_open stack (fitting whole p.at stack s.before s.open') inner))

-- ---- the forms of the lines

form_in : (at k : ℕ) (o : Stand) (c : Counts) (ls : List NumberedLine) (p : Placed) → slice_get (placed_from k o c ls) at ≡ Some p → option_map (λ l. l.form) (slice_get ls at) ≡ Some p.form
unfolding placed_from
form_in at k o c [] p e = absurd (let z : ⊥ = cc in z)
form_in zero k o c (l ∷ ls) p e = ap (option_map (λ (x : Placed). x.form)) e
form_in (suc at) k o c (l ∷ ls) p e =
    form_in at (suc k) (opened_by o k l.form) (counted c l.form (length l.picks)) ls p e

-- the form of a line
pub form_there : (scene : Scene) (k : ℕ) (p : Placed) → slice_get (placed scene) k ≡ Some p → form_at scene k ≡ Some p.form
unfolding placed form_at
form_there scene k p e = form_in k 0 outside nothing scene.lines p e

-- what a test says of the block that line b opened
pub block_tells : (test : SceneLine → Bool) (scene : Scene) (o : Option ℕ) (b : ℕ) (form : SceneLine) → o ≡ Some b → form_at scene b ≡ Some form → block_is test scene o ≡ test form
block_tells test scene o b form e f =
    let is : option_and_then (form_at scene) o ≡ Some form = ap (option_and_then (form_at scene)) e ∙ f in
    ap (λ x. elim x as (λ _. Bool) [ None ↦ false | Some g ↦ test g ]) is

-- ---- what is known of an accepted line

-- of a line that comes only in a device: the line of that device
pub record IsHome (scene : Scene) (p : Placed) : Type 0 where
  pub line : ℕ
  pub block : p.stand.block ≡ Some line
  pub device : p.stand.device ≡ Some line
  pub own : IsDeviceAt (placed scene) line p.counts.device
  pub counted : 0 < p.counts.devices

-- an accepted line, at its place
pub record IsKnown (scene : Scene) (p : Placed) : Type 0 where
  pub there : slice_get (placed scene) p.at ≡ Some p
  pub accepted : IsAccepted scene p
  pub home : belongs p.form ≡ true → IsHome scene p

pub at_home : (scene : Scene) (p : Placed) → HasDevice (placed scene) p.stand p.counts → IsPassed scene p.at p → belongs p.form ≡ true → IsHome scene p
at_home scene p h q b =
    let i = stands_inside (placed scene) q.stack p q.stacked b in
    let d = h i.line i.device in
    record { line = i.line; block = i.block; device = i.device; own = d.0; counted = d.1 }

-- in a scene that nothing refuses each line is so
pub each_known : (scene : Scene) → IsScene scene → first_refusal scene ≡ None → Every (IsKnown scene) (placed scene)
each_known scene s none =
    every_map (λ p. (IsAccepted scene p × HasDevice (placed scene) p.stand p.counts) × ((slice_get (placed scene) p.at ≡ Some p) × IsPassed scene p.at p)) (IsKnown scene) (λ p h. record { there = h.1.0; accepted = h.0.0; home = at_home scene p h.0.1 h.1.1 }) (placed scene) (every_both _ _ (placed scene) (every_both (IsAccepted scene) (λ p. HasDevice (placed scene) p.stand p.counts) (placed scene) (each_accepted scene none) (devices_known scene)) (every_passed scene s))
