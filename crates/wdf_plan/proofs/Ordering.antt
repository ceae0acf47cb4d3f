-- The objects of a plan come in the order of their devices.
use Rattle.std.proofs.Common.{◌≡◌, ℕ, suc, ◌+◌, ◌<◌, Bool, true, false, not, cond, ◌&&◌, List, [], ◌∷◌, length, Some, refl, sym, arith, slice_get}
use Rattle.std.proofs.lemmas.Bool.{lt-ltb, eq-eqb, ne_eqb}
use Rattle.std.specs.Prelude.{◌==◌}
use Rattle.std.specs.List.{filter_map, cons_option}
use Rattle.wdf_base.specs.declared.declared.Declared.{Declared}
use Rattle.wdf_base.specs.Resolved.{in_order, objects_in_order}
use Rattle.wdf_scene.specs.declared.line.SceneLine.{SceneLine}
use Rattle.wdf_scene.specs.declared.line.SceneLine.TheVariants as line
use Rattle.wdf_scene.specs.declared.line.NumberedLine.{NumberedLine}
use Rattle.wdf_scene.specs.declared.scene.Scene.{Scene}
use Rattle.wdf_scene.specs.Written.{IsScene}
use Rattle.wdf_blocks.specs.declared.declaration.Declaration.{Declaration}
use Rattle.wdf_blocks.specs.declared.placed.Counts.{Counts}
use Rattle.wdf_blocks.specs.declared.placed.Placed.{Placed}
use Rattle.wdf_blocks.specs.declared.placed.Stand.{Stand}
use Rattle.wdf_blocks.specs.Forms.{is_device, is_object}
use Rattle.wdf_plan.specs.Parts.{object_of, object_on, queue_info, interrupt_info, target_info}
use Rattle.wdf_blocks.specs.Placed.{outside, nothing, counted, opened_by, placed_line, placed_from, placed}
use Rattle.wdf_plan.specs.Plans.{all_objects}
use Rattle.wdf_plan.proofs.Devices.{HasDevice, at_home, belongs, devices_known}
use Rattle.wdf_refusals.proofs.Every.{Every, every_map, every_both}
use Rattle.wdf_plan.proofs.Stacking.{IsPassed, every_passed}

-- a queue, an interrupt or a target
abbrev is_inside : SceneLine → Bool
is_inside form = is_object form && not (is_device form)

-- such a line comes only in a device
belongs_inside : (form : SceneLine) → is_inside form ≡ true → belongs form ≡ true
unfolding is_object is_device
belongs_inside (line.Queue n dispatch) e = refl
belongs_inside (line.Interrupt n l) e = refl
belongs_inside (line.Target n delay status depth) e = refl
belongs_inside (line.Device n working) e = absurd (let z : ⊥ = cc in z)
belongs_inside _ e = absurd (let z : ⊥ = cc in z)

-- before such a line a device was counted
abbrev IsBehindDevice : Placed → Type 0
IsBehindDevice p = is_inside p.form ≡ true → 0 < p.counts.devices

all_after : (scene : Scene) → IsScene scene → Every IsBehindDevice (placed scene)
all_after scene s =
    every_map (λ p. HasDevice (placed scene) p.stand p.counts × ((slice_get (placed scene) p.at ≡ Some p) × IsPassed scene p.at p)) IsBehindDevice (λ p h e. (at_home scene p h.0 h.1.1 (belongs_inside p.form e)).counted) (placed scene) (every_both _ _ (placed scene) (devices_known scene) (every_passed scene s))

-- the id of the last device, 0 for none
abbrev last_id : Counts → ℕ
last_id c = cond (c.devices == 0) 0 (c.device + 2)

-- ---- one line

line_order : (scene : Scene) (names : List Declaration) (p : Placed) (b : ℕ) (form : SceneLine) (rest : List Declared) (id dev : ℕ) → (is_inside form ≡ true → (0 < dev) × (p.counts.device + 2 ≡ dev)) → (is_device form ≡ true → in_order (suc id) id rest ≡ true) → (is_inside form ≡ true → in_order (suc id) dev rest ≡ true) → (is_object form ≡ false → in_order id dev rest ≡ true) → in_order id dev (cons_option (object_of scene names p b form) rest) ≡ true
unfolding object_of is_object is_device queue_info interrupt_info target_info
line_order scene names p b (line.Device n working) rest id dev i d t o = d refl
line_order scene names p b (line.Queue n dispatch) rest id dev i d t o =
    let h = i refl in
    rw (lt-ltb 0 dev h.0, eq-eqb (p.counts.device + 2) dev h.1, t refl) refl
line_order scene names p b (line.Interrupt n l) rest id dev i d t o =
    let h = i refl in
    rw (lt-ltb 0 dev h.0, eq-eqb (p.counts.device + 2) dev h.1, t refl) refl
line_order scene names p b (line.Target n delay status depth) rest id dev i d t o =
    let h = i refl in
    rw (lt-ltb 0 dev h.0, eq-eqb (p.counts.device + 2) dev h.1, t refl) refl
line_order scene names p b _ rest id dev i d t o = o refl

last_at : (n d : ℕ) → 0 < n → cond (n == 0) 0 (d + 2) ≡ d + 2
last_at n d h = rw (ne_eqb n 0 (λ e. absurd (omega arith))) refl

device_object : (form : SceneLine) → is_device form ≡ true → is_object form ≡ true
unfolding is_device is_object
device_object (line.Device n working) h = refl
device_object _ h = absurd (let z : ⊥ = cc in z)

no_device : (form : SceneLine) → is_object form ≡ false → is_device form ≡ false
unfolding is_device is_object
no_device (line.Device n working) h = absurd (let z : ⊥ = cc in z)
no_device _ h = refl

inside_parts : (a b : Bool) → (a && not b) ≡ true → (a ≡ true) × (b ≡ false)
inside_parts true true h = absurd (let z : ⊥ = cc in z)
inside_parts true false h = (refl, refl)
inside_parts false b h = absurd (let z : ⊥ = cc in z)

-- the order from the next ids on
abbrev Goes : Counts → List Declared → Type 0
Goes c rest = in_order (c.objects + 2) (last_id c) rest ≡ true

after_device : (c : Counts) (form : SceneLine) (n : ℕ) (rest : List Declared) → Goes (counted c form n) rest → is_device form ≡ true → in_order (suc (c.objects + 2)) (c.objects + 2) rest ≡ true
unfolding counted
after_device c form n rest g e =
    let ob : is_object form ≡ true = device_object form e in
    let g' : in_order (c.objects + 1 + 2) (cond (c.devices + 1 == 0) 0 (c.objects + 2)) rest ≡ true = rw (ob, e) at g in
    let l : cond (c.devices + 1 == 0) 0 (c.objects + 2) ≡ c.objects + 2 = last_at (c.devices + 1) c.objects (omega arith) in
    let i : c.objects + 1 + 2 ≡ suc (c.objects + 2) = omega arith in
    rw (i, l) at g'

after_inside : (c : Counts) (form : SceneLine) (n : ℕ) (rest : List Declared) → Goes (counted c form n) rest → is_inside form ≡ true → in_order (suc (c.objects + 2)) (last_id c) rest ≡ true
unfolding counted
after_inside c form n rest g e =
    let both = inside_parts (is_object form) (is_device form) e in
    let g' : in_order (c.objects + 1 + 2) (last_id c) rest ≡ true = rw (both.0, both.1) at g in
    let i : c.objects + 1 + 2 ≡ suc (c.objects + 2) = omega arith in
    rw i at g'

after_other : (c : Counts) (form : SceneLine) (n : ℕ) (rest : List Declared) → Goes (counted c form n) rest → is_object form ≡ false → in_order (c.objects + 2) (last_id c) rest ≡ true
unfolding counted
after_other c form n rest g e = rw (e, no_device form e) at g

order_from : (scene : Scene) (names : List Declaration) (k : ℕ) (o : Stand) (c : Counts) (ls : List NumberedLine) → Every IsBehindDevice (placed_from k o c ls) → Goes c (filter_map (object_on scene names) (placed_from k o c ls))
unfolding placed_from
order_from scene names k o c [] behind = refl
order_from scene names k o c (l ∷ ls) behind =
    let g = order_from scene names (suc k) (opened_by o k l.form) (counted c l.form (length l.picks)) ls behind.1 in
    let rest = filter_map (object_on scene names) (placed_from (suc k) (opened_by o k l.form) (counted c l.form (length l.picks)) ls) in
    line_order scene names (placed_line k o c l) k l.form rest (c.objects + 2) (last_id c) (λ e.
    let seen : 0 < c.devices = behind.0 e in
    let i : last_id c ≡ c.device + 2 = last_at c.devices c.device seen in
    (rw i (omega arith), sym i)) (after_device c l.form (length l.picks) rest g) (after_inside c l.form (length l.picks) rest g) (after_other c l.form (length l.picks) rest g)

-- the objects are in the order of their devices
pub plan_ordered : (scene : Scene) (names : List Declaration) → IsScene scene → objects_in_order (all_objects scene names) ≡ true
unfolding all_objects placed
plan_ordered scene names s =
    order_from scene names 0 outside nothing scene.lines (all_after scene s)
