-- No two declarations have one name, and none has a word of the language.
use Rattle.std.proofs.Common.{◌≡◌, ℕ, suc, ◌<◌, ◌≤◌, Bool, true, false, cond, List, [], ◌∷◌, map, find, Option, Some, None, refl, ap, sym, ◌∙◌, arith}
use Rattle.std.proofs.lemmas.Slice.Eq.{bytes_eq-Decides}
use Rattle.std.proofs.lemmas.Bool.{lt-ltb, and_parts, false_from_ne_true}
use Rattle.std.specs.Prelude.{nat_lt, length}
use Rattle.std.specs.List.{list_all, list_any}
use Rattle.std.specs.Str.{bytes_eq}
use Rattle.wdf_base.specs.Resolved.{all_differ, is_reserved}
use Rattle.wdf_scene.specs.declared.line.NumberedLine.{NumberedLine}
use Rattle.wdf_scene.specs.declared.line.SceneLine.{SceneLine}
use Rattle.wdf_scene.specs.declared.line.SceneLine.TheVariants as line
use Rattle.wdf_scene.specs.declared.scene.Scene.{Scene}
use Rattle.wdf_scene.specs.Naming.{HasProperNames, declared_name, is_proper_name, is_proper_if_there, names_properly}
use Rattle.wdf_blocks.specs.declared.declaration.Declaration.{Declaration}
use Rattle.wdf_blocks.specs.declared.placed.Counts.{Counts}
use Rattle.wdf_blocks.specs.declared.placed.Placed.{Placed}
use Rattle.wdf_blocks.specs.declared.placed.Stand.{Stand}
use Rattle.wdf_blocks.specs.Declarations.{declarations, declared_by, declared_on, has_name}
use Rattle.wdf_blocks.specs.Placed.{outside, nothing, opened_by, counted, placed_from, placed}
use Rattle.wdf_plan.specs.Plans.{name_in}
use Rattle.wdf_refusals.specs.Rows.{earlier_line, reserved_line, first_line, twice_declared, twice_named}
use Rattle.wdf_plan.proofs.Accepted.{IsAccepted}
use Rattle.wdf_refusals.proofs.Every.{Every, every_map, every_kept}
use Rattle.wdf_plan.proofs.Rising.{AreRising, rising_every, rising_from}

-- ---- what a line declares

declares_step : (a d : Declaration) → Some a ≡ Some d → (Some a.name ≡ Some d.name) × (d.at ≡ a.at)
declares_step a d e =
    let i : a ≡ d = cc in
    (ap (λ (x : Declaration). Some x.name) i, ap (λ (x : Declaration). x.at) (sym i))

-- a declaration has the name that its line declares, and the place of the line
pub declares : (p : Placed) (form : SceneLine) (d : Declaration) → declared_by p form ≡ Some d → (declared_name form ≡ Some d.name) × (d.at ≡ p.at)
unfolding declared_by declared_name
declares p (line.Class n k) d e = declares_step _ d e
declares p (line.DeferredClass n k parent) d e = declares_step _ d e
declares p (line.Device n working) d e = declares_step _ d e
declares p (line.Queue n dispatch) d e = declares_step _ d e
declares p (line.Interrupt n level) d e = declares_step _ d e
declares p (line.Target n delay status depth) d e = declares_step _ d e
declares p (line.Register n v) d e = declares_step _ d e
declares p (line.App n) d e = declares_step _ d e
declares p _ d e = absurd (let z : ⊥ = cc in z)

-- no earlier declaration of these has its name, and it is no word of the language
abbrev IsFresh : List Declaration → Declaration → Type 0
IsFresh ds d = earlier_line d.at d.name (find (has_name d.name) ds) ≡ None

fresh_line : (scene : Scene) (p : Placed) (d : Declaration) → IsAccepted scene p → declared_on p ≡ Some d → IsFresh (declarations scene) d
unfolding twice_named first_line
fresh_line scene p d a e =
    let h = declares p p.form d e in
    let t : twice_declared scene (declarations scene) p (Some d.name) ≡ None = rw h.0 at a.once in
    rw h.1 t

all_fresh : (scene : Scene) → Every (IsAccepted scene) (placed scene) → Every (IsFresh (declarations scene)) (declarations scene)
unfolding declarations
all_fresh scene each =
    every_kept declared_on (IsAccepted scene) (IsFresh (declarations scene)) (fresh_line scene) (placed scene) each

-- ---- the declarations come in the order of their lines

rising_all : (scene : Scene) → AreRising (λ (d : Declaration). d.at) 0 (declarations scene)
unfolding declarations placed
rising_all scene =
    rising_from (λ (d : Declaration). d.at) declared_on (λ p d e. (declares p p.form d e).1) 0 outside nothing scene.lines

-- ---- no two have one name

-- the names of these differ
abbrev pub AreDistinct : List Declaration → Type 0
AreDistinct [] = Unit {0}
AreDistinct (x ∷ xs) = Every (λ d. bytes_eq x.name d.name ≡ false) xs × AreDistinct xs

one : (x d : Declaration) (o : Option Declaration) → suc x.at ≤ d.at → (b : Bool) → has_name d.name x ≡ b → earlier_line d.at d.name (cond b (Some x) o) ≡ None → (bytes_eq x.name d.name ≡ false) × (earlier_line d.at d.name o ≡ None)
one x d o below true e fresh =
    let less : x.at < d.at = omega arith in
    let is : nat_lt x.at d.at ≡ true = lt-ltb x.at d.at less in
    let w : Some x.number ≡ None = rw is at fresh in
    absurd (let z : ⊥ = cc in z)
one x d o below false e fresh = (e, fresh)

others : (x : Declaration) (inner ds : List Declaration) → Every (λ d. suc x.at ≤ d.at) ds → Every (IsFresh (x ∷ inner)) ds → Every (λ d. (bytes_eq x.name d.name ≡ false) × IsFresh inner d) ds
others x inner [] below fresh = tt
others x inner (d ∷ ds) below fresh =
    (one x d (find (has_name d.name) inner) below.0 (has_name d.name x) refl fresh.0, others x inner ds below.1 fresh.1)

distinct : (k : ℕ) (ds : List Declaration) → AreRising (λ (d : Declaration). d.at) k ds → Every (IsFresh ds) ds → AreDistinct ds
distinct k [] r f = tt
distinct k (x ∷ xs) r f =
    let o = others x xs xs (rising_every (λ (d : Declaration). d.at) (suc x.at) xs r.1) f.1 in
    (every_map (λ d. (bytes_eq x.name d.name ≡ false) × IsFresh xs d) (λ d. bytes_eq x.name d.name ≡ false) (λ d h. h.0) xs o, distinct (suc x.at) xs r.1 (every_map (λ d. (bytes_eq x.name d.name ≡ false) × IsFresh xs d) (IsFresh xs) (λ d h. h.1) xs o))

-- no two declarations have one name
pub all_distinct : (scene : Scene) → Every (IsAccepted scene) (placed scene) → AreDistinct (declarations scene)
all_distinct scene each =
    distinct 0 (declarations scene) (rising_all scene) (all_fresh scene each)

-- ---- none is a word of the language

free_cond : (b : Bool) (n : ℕ) (o : Option ℕ) → cond b (Some n) o ≡ None → o ≡ None
free_cond true n o e = absurd (let z : ⊥ = cc in z)
free_cond false n o e = e

free_step : (at' : ℕ) (n : List ℕ) (o : Option Declaration) → earlier_line at' n o ≡ None → reserved_line n ≡ None
free_step at' n None e = e
free_step at' n (Some d) e = free_cond (nat_lt d.at at') d.number (reserved_line n) e

not_cond : (b : Bool) → cond {A = Option ℕ} b (Some 0) None ≡ None → b ≡ false
not_cond true e = absurd (let z : ⊥ = cc in z)
not_cond false e = refl

not_reserved : (n : List ℕ) → reserved_line n ≡ None → is_reserved n ≡ false
unfolding reserved_line
not_reserved n e = not_cond (is_reserved n) e

-- none has a word of the language
pub all_free : (scene : Scene) → Every (IsAccepted scene) (placed scene) → Every (λ d. is_reserved d.name ≡ false) (declarations scene)
all_free scene each =
    every_map (IsFresh (declarations scene)) (λ d. is_reserved d.name ≡ false) (λ d h. not_reserved d.name (free_step d.at d.name (find (has_name d.name) (declarations scene)) h)) (declarations scene) (all_fresh scene each)

-- ---- each is a name of the language

properly_step : (n : List ℕ) (form : SceneLine) → is_proper_if_there (declared_name form) ≡ true → declared_name form ≡ Some n → is_proper_name n ≡ true
properly_step n form h e = rw e at h

proper_from : (k : ℕ) (o : Stand) (c : Counts) (ls : List NumberedLine) → list_all names_properly ls ≡ true → Every (λ p. is_proper_if_there (declared_name p.form) ≡ true) (placed_from k o c ls)
unfolding placed_from
proper_from k o c [] h = tt
proper_from k o c (l ∷ ls) h =
    let both = and_parts (names_properly l) (list_all names_properly ls) h in
    (both.0, proper_from (suc k) (opened_by o k l.form) (counted c l.form (length l.picks)) ls both.1)

-- each has a name of the language
pub all_proper : (scene : Scene) → HasProperNames scene → Every (λ d. is_proper_name d.name ≡ true) (declarations scene)
unfolding declarations placed
all_proper scene h =
    every_kept declared_on (λ p. is_proper_if_there (declared_name p.form) ≡ true) (λ d. is_proper_name d.name ≡ true) (λ p d q e. properly_step d.name p.form q (declares p p.form d e).0) (placed scene) (proper_from 0 outside nothing scene.lines h.each)

-- ---- the list of names

-- no name of the list is this one
pub none_any : (n : List ℕ) (ds : List Declaration) → Every (λ d. bytes_eq n d.name ≡ false) ds → list_any (bytes_eq n) (map name_in ds) ≡ false
none_any n [] h = refl
none_any n (d ∷ ds) h = rw (h.0, none_any n ds h.1) refl

-- the names differ
pub differ : (ds : List Declaration) → AreDistinct ds → all_differ bytes_eq (map name_in ds) ≡ true
differ [] h = refl
differ (x ∷ xs) h = rw (none_any x.name xs h.0, differ xs h.1) refl

-- a test that all names pass
pub all_names : (f : List ℕ → Bool) (ds : List Declaration) → Every (λ d. f d.name ≡ true) ds → list_all f (map name_in ds) ≡ true
all_names f [] h = refl
all_names f (d ∷ ds) h = rw (h.0, all_names f ds h.1) refl

-- a name that is no word of the language isn't this one
pub word_free : (w n : List ℕ) → is_reserved w ≡ true → is_reserved n ≡ false → bytes_eq w n ≡ false
word_free w n taken free =
    false_from_ne_true (bytes_eq w n) (λ e.
    let i : w ≡ n = (bytes_eq-Decides w n).0 e in
    let t : is_reserved n ≡ true = ap is_reserved (sym i) ∙ taken in
    let z : ⊥ = cc in z)
