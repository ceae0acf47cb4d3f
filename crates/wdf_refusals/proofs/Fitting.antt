-- The numbers of names and objects, and the lengths of what is gathered, fit their types.
use Rattle.std.proofs.Common.{◌≡◌, ℕ, suc, ◌+◌, ◌<◌, ◌≤◌, ◌^◌, Bool, true, false, cond, List, [], ◌∷◌, ◌++◌, length, find, Option, Some, None, IfSome, refl, sym, ◌∙◌, arith, length-append}
use Rattle.std.specs.List.{filter_map, cons_option}
use Rattle.wdf_scene.specs.declared.line.NumberedLine.{NumberedLine}
use Rattle.wdf_scene.specs.declared.line.SceneLine.{SceneLine}
use Rattle.wdf_scene.specs.declared.line.SceneLine.TheVariants as line
use Rattle.wdf_scene.specs.declared.scene.Scene.{Scene}
use Rattle.wdf_scene.specs.Written.{IsScene}
use Rattle.wdf_blocks.specs.declared.declaration.Declaration.{Declaration}
use Rattle.wdf_blocks.specs.declared.placed.Counts.{Counts}
use Rattle.wdf_blocks.specs.declared.placed.Placed.{Placed}
use Rattle.wdf_blocks.specs.declared.placed.Stand.{Stand}
use Rattle.wdf_blocks.specs.declared.declaration.Wanted.{Wanted}
use Rattle.wdf_blocks.specs.Declarations.{declarations, declared_by, declared_on, found, is_wanted}
use Rattle.wdf_refusals.specs.Numbered.{AreNumbered, HasFitOrder}
use Rattle.wdf_blocks.specs.Forms.{is_app, is_class, is_device, is_object, is_register}
use Rattle.wdf_refusals.specs.Names.{place_from}
use Rattle.wdf_blocks.specs.Placed.{one_more, opened_by, counted, placed_line, placed_from, placed, outside, nothing}
use Rattle.wdf_blocks.proofs.Walks.{placed_length}
use Rattle.wdf_refusals.proofs.Every.{Every, every_append, every_kept, some_has}
use Rattle.wdf_refusals.proofs.Gather.{IsGathered}
use Rattle.wdf_refusals.proofs.Heads.{scene_head}

-- ---- lengths

cons_at_most : {T : Type 0} (o : Option T) (ts : List T) (n : ℕ) → length ts ≤ n → length (cons_option o ts) ≤ suc n
cons_at_most None ts n h = omega arith
cons_at_most (Some t) ts n h = omega arith

-- no more is gathered than there are items
pub gathered_few : {P T : Type 0} (f : P → Option T) (ps : List P) → length (filter_map f ps) ≤ length ps
gathered_few f [] = omega arith
gathered_few f (p ∷ ps) = cons_at_most (f p) (filter_map f ps) (length ps) (gathered_few f ps)

-- nor than there are lines
pub lines_few : {T : Type 0} (scene : Scene) (f : Placed → Option T) → length (filter_map f (placed scene)) ≤ length scene.lines
unfolding placed
lines_few scene f =
    let few = gathered_few f (placed_from 0 outside nothing scene.lines) in
    let same = placed_length 0 outside nothing scene.lines in
    omega (arith, few, same)

pub lines_room : {T : Type 0} (scene : Scene) (f : Placed → Option T) → length scene.lines < 2 ^ 32 → length (filter_map f (placed scene)) < 2 ^ 32
lines_room scene f lines = let few = lines_few scene f in omega (arith, few, lines)

-- ---- names

-- one declaration more
pub numbered_more : (names names' : List Declaration) (d : Declaration) → AreNumbered names → HasFitOrder d → length names + 3 < 2 ^ 32 → names' ≡ names ++ d ∷ [] → AreNumbered names'
numbered_more names names' d a fits room is =
    let both : length (names ++ d ∷ []) ≡ length names + 1 = length-append names (d ∷ []) in
    rw is (record { few = omega (arith, both, room); orders = every_append HasFitOrder names (d ∷ []) a.orders (fits, tt) })

place_step : {T : Type 0} (b : Bool) (k j : ℕ) (xs : List T) (later : Option ℕ) → (later ≡ Some j → j < suc k + length xs) → cond b (Some k) later ≡ Some j → j < k + suc (length xs)
place_step true k j xs later h e = let same : k ≡ j = cc in omega (arith, same)
place_step false k j xs later h e = let less = h e in omega (arith, less)

place_within : {T : Type 0} (test : T → Bool) (k j : ℕ) (xs : List T) → place_from test k xs ≡ Some j → j < k + length xs
place_within test k j [] e = absurd (let z : ⊥ = cc in z)
place_within test k j (x ∷ xs) e =
    place_step (test x) k j xs (place_from test (suc k) xs) (place_within test (suc k) j xs) e

-- the number of a name
pub place_small : (names : List Declaration) (test : Declaration → Bool) (o : Option ℕ) → AreNumbered names → o ≡ place_from test 0 names → IfSome o (λ k. k + 2 < 2 ^ 32)
place_small names test None a e = tt
place_small names test (Some k) a e =
    let less = place_within test 0 k names (sym e) in
    let few = a.few in
    omega (arith, less, few)

find_step : {T : Type 0} (R : T → Type 0) (b : Bool) (x d : T) (later : Option T) → R x → (later ≡ Some d → R d) → cond b (Some x) later ≡ Some d → R d
find_step R true x d later r h e = some_has R x d e r
find_step R false x d later r h e = h e

-- what holds of each item holds of one that is found
pub found_has : {T : Type 0} (R : T → Type 0) (test : T → Bool) (xs : List T) → Every R xs → (d : T) → find test xs ≡ Some d → R d
found_has R test [] each d e = absurd (let z : ⊥ = cc in z)
found_has R test (x ∷ xs) each d e = find_step R (test x) x d (find test xs) each.0 (found_has R test xs each.1 d) e

-- the order of what a name stands for
pub found_small : (names : List Declaration) (n : List ℕ) (w : Wanted) (o : Option Declaration) → AreNumbered names → o ≡ found names n w → IfSome o HasFitOrder
unfolding found
found_small names n w None a e = tt
found_small names n w (Some d) a e = found_has HasFitOrder (is_wanted n w) names a.orders d (sym e)

-- ---- how many were declared before

-- what was counted is fewer than the lines before
pub record AreFewer (k : ℕ) (c : Counts) : Type 0 where
  pub device : c.device + 1 ≤ k
  pub objects : c.objects + 1 ≤ k
  pub classes : c.classes + 1 ≤ k
  pub registers : c.registers + 1 ≤ k
  pub apps : c.apps + 1 ≤ k

one_at_most : (n k : ℕ) (b : Bool) → n + 1 ≤ k → one_more n b + 1 ≤ suc k
one_at_most n k true h = omega arith
one_at_most n k false h = omega arith

last_at_most : (n m k : ℕ) (b : Bool) → n + 1 ≤ k → m + 1 ≤ k → cond b n m + 1 ≤ suc k
last_at_most n m k true h g = omega arith
last_at_most n m k false h g = omega arith

fewer_next : (k : ℕ) (c : Counts) (form : SceneLine) (picks : ℕ) → AreFewer k c → AreFewer (suc k) (counted c form picks)
unfolding counted
fewer_next k c form picks h =
    record {
      device = last_at_most c.objects c.device k (is_device form) h.objects h.device;
      objects = one_at_most c.objects k (is_object form) h.objects;
      classes = one_at_most c.classes k (is_class form) h.classes;
      registers = one_at_most c.registers k (is_register form) h.registers;
      apps = one_at_most c.apps k (is_app form) h.apps;
    }

-- ---- the orders of what a line declares

order_row : (p : Placed) (form : SceneLine) (total : ℕ) → AreFewer p.at p.counts → p.at + 1 ≤ total → (d : Declaration) → declared_by p form ≡ Some d → d.order + 2 ≤ total
unfolding declared_by
order_row p (line.Class n k) total h less d e = some_has (λ (x : Declaration). x.order + 2 ≤ total) _ d e (omega (arith, h.classes, less))
order_row p (line.DeferredClass n k parent) total h less d e = some_has (λ (x : Declaration). x.order + 2 ≤ total) _ d e (omega (arith, h.classes, less))
order_row p (line.Device n working) total h less d e = some_has (λ (x : Declaration). x.order + 2 ≤ total) _ d e (omega (arith, h.objects, less))
order_row p (line.Queue n dispatch) total h less d e = some_has (λ (x : Declaration). x.order + 2 ≤ total) _ d e (omega (arith, h.objects, less))
order_row p (line.Interrupt n l) total h less d e = some_has (λ (x : Declaration). x.order + 2 ≤ total) _ d e (omega (arith, h.objects, less))
order_row p (line.Target n delay status depth) total h less d e = some_has (λ (x : Declaration). x.order + 2 ≤ total) _ d e (omega (arith, h.objects, less))
order_row p (line.Register n v) total h less d e = some_has (λ (x : Declaration). x.order + 2 ≤ total) _ d e (omega (arith, h.registers, less))
order_row p (line.App n) total h less d e = some_has (λ (x : Declaration). x.order + 2 ≤ total) _ d e (omega (arith, h.apps, less))
order_row p _ total h less d e = absurd (let z : ⊥ = cc in z)

-- the order of what this line declares, and that of the last device before it, are at most the number of lines less 2
pub record HasOrders (total : ℕ) (p : Placed) : Type 0 where
  pub device : p.counts.device + 2 ≤ total
  pub declared : (d : Declaration) → declared_on p ≡ Some d → d.order + 2 ≤ total

orders_from : (total k : ℕ) (o : Stand) (c : Counts) (ls : List NumberedLine) → AreFewer k c → k + length ls ≤ total → Every (HasOrders total) (placed_from k o c ls)
unfolding placed_from
orders_from total k o c [] h less = tt
orders_from total k o c (l ∷ ls) h less = (
  record {
    device = omega (arith, h.device, less);
    declared = λ d e. order_row (placed_line k o c l) l.form total h (omega arith) d e;
  },
  orders_from total (suc k) (opened_by o k l.form) (counted c l.form (length l.picks)) ls (fewer_next k c l.form (length l.picks) h) (omega arith),
)

-- ---- the first three lines declare nothing

no_declaration : (p : Placed) (form : SceneLine) (n : ℕ) → form ≡ line.Cpus n → declared_by p form ≡ None
unfolding declared_by
no_declaration p form n e = rw e refl

no_limit : (p : Placed) (form : SceneLine) (n : ℕ) → form ≡ line.Limit n → declared_by p form ≡ None
unfolding declared_by
no_limit p form n e = rw e refl

no_objects : (p : Placed) (form : SceneLine) (n : ℕ) → form ≡ line.Objects n → declared_by p form ≡ None
unfolding declared_by
no_objects p form n e = rw e refl

head_orders : (total : ℕ) (a : NumberedLine) (n : ℕ) → 2 ≤ total → a.form ≡ line.Cpus n → HasOrders total (placed_line 0 outside nothing a)
head_orders total a n long is =
    record {
      device = long;
      declared = λ d e.
          let none : declared_by (placed_line 0 outside nothing a) a.form ≡ None = no_declaration (placed_line 0 outside nothing a) a.form n is in
          let both : None ≡ Some d = sym none ∙ e in
          absurd (let z : ⊥ = cc in z);
    }

head_counted : (form : SceneLine) (n picks : ℕ) → form ≡ line.Cpus n → AreFewer 1 (counted nothing form picks)
unfolding counted is_object is_class is_register is_app is_device
head_counted form n picks e =
    rw e (record { device = omega arith; objects = omega arith; classes = omega arith; registers = omega arith; apps = omega arith })

by_lines : (lines : List NumberedLine) (a : NumberedLine) (ls : List NumberedLine) (n : ℕ) → lines ≡ a ∷ ls → 1 ≤ length ls → a.form ≡ line.Cpus n → Every (HasOrders (length lines)) (placed_from 0 outside nothing lines)
unfolding placed_from
by_lines lines a ls n e more is =
    rw e (head_orders (length (a ∷ ls)) a n (omega (arith, more)) is, orders_from (length (a ∷ ls)) 1 (opened_by outside 0 a.form) (counted nothing a.form (length a.picks)) ls (head_counted a.form n (length a.picks) is) (omega arith))

-- each line of a scene that has a text
pub scene_orders : (scene : Scene) → IsScene scene → Every (HasOrders (length scene.lines)) (placed scene)
unfolding placed
scene_orders scene s =
    let h = scene_head scene s in
    by_lines scene.lines h.first (h.second ∷ h.third ∷ h.rest) h.cpus h.are (omega arith) h.is_cpus

-- ---- the declarations of a scene

skip_none : (f : Placed → Option Declaration) (k : ℕ) (o : Stand) (c : Counts) (l : NumberedLine) (ls : List NumberedLine) → f (placed_line k o c l) ≡ None → filter_map f (placed_from k o c (l ∷ ls)) ≡ filter_map f (placed_from (suc k) (opened_by o k l.form) (counted c l.form (length l.picks)) ls)
unfolding placed_from
skip_none f k o c l ls e = rw e refl

by_heads : (lines : List NumberedLine) (a b c : NumberedLine) (ls : List NumberedLine) (i j k : ℕ) → lines ≡ a ∷ b ∷ c ∷ ls → a.form ≡ line.Cpus i → b.form ≡ line.Limit j → c.form ≡ line.Objects k → length (filter_map declared_on (placed_from 0 outside nothing lines)) + 3 ≤ length lines
by_heads lines a b c ls i j k e x y z =
    let o = opened_by outside 0 a.form in
    let n = counted nothing a.form (length a.picks) in
    let o' = opened_by o 1 b.form in
    let n' = counted n b.form (length b.picks) in
    let rest = placed_from 3 (opened_by o' 2 c.form) (counted n' c.form (length c.picks)) ls in
    let one = skip_none declared_on 0 outside nothing a (b ∷ c ∷ ls) (no_declaration _ a.form i x) in
    let two = skip_none declared_on 1 o n b (c ∷ ls) (no_limit _ b.form j y) in
    let three = skip_none declared_on 2 o' n' c ls (no_objects _ c.form k z) in
    let all : filter_map declared_on (placed_from 0 outside nothing (a ∷ b ∷ c ∷ ls)) ≡ filter_map declared_on rest = one ∙ two ∙ three in
    let few = gathered_few declared_on rest in
    let same = placed_length 3 (opened_by o' 2 c.form) (counted n' c.form (length c.picks)) ls in
    rw e (rw all (omega (arith, few, same)))

-- the first three lines declare nothing
pub declarations_few : (scene : Scene) → IsScene scene → length (declarations scene) + 3 ≤ length scene.lines
unfolding declarations placed
declarations_few scene s =
    let h = scene_head scene s in
    by_heads scene.lines h.first h.second h.third h.rest h.cpus h.limit h.objects h.are h.is_cpus h.is_limit h.is_objects

-- each object's id, and the number of each class and register, is at most the number of lines
pub orders_few : (scene : Scene) → IsScene scene → Every (λ d. d.order + 2 ≤ length scene.lines) (declarations scene)
unfolding declarations
orders_few scene s =
    every_kept declared_on (HasOrders (length scene.lines)) (λ d. d.order + 2 ≤ length scene.lines) (λ p d h e. h.declared d e) (placed scene) (scene_orders scene s)

-- ---- the declarations are listed line by line

-- so far these declarations were made, and each later line has its orders
pub record IsDeclaring (scene : Scene) (rest : List Placed) (names : List Declaration) : Type 0 where
  pub gathered : IsGathered declared_on rest names (declarations scene)
  pub orders : Every (HasOrders (length scene.lines)) rest
  pub few : length (declarations scene) + 3 ≤ length scene.lines
  pub lines : length scene.lines < 2 ^ 32

pub declaring_begins : (scene : Scene) (rest : List Placed) (names : List Declaration) → IsScene scene → length scene.lines < 2 ^ 32 → names ≡ [] → rest ≡ placed scene → IsDeclaring scene rest names
unfolding declarations
declaring_begins scene rest names s lines none' all =
    record {
      gathered = record { is = rw (none', all) refl };
      orders = rw all (scene_orders scene s);
      few = declarations_few scene s;
      lines = lines;
    }
