-- Whether a line is refused is the same where the lines are at other places, but for the limit of picks.
use Rattle.std.proofs.Common.{◌≡◌, ℕ, ◌-◌, Bool, true, false, cond, not, ◌||◌, nat_le, arith, List, [], ◌∷◌, find, take, drop, Option, Some, None, option_map, refl, sym, ap, ◌∙◌}
use Rattle.std.specs.Prelude.{option_and_then}
use Rattle.std.specs.Option.{option_or}
use Rattle.wdf_base.specs.Resolved.{is_from}
use Rattle.wdf_scene.specs.declared.line.SceneLine.{SceneLine}
use Rattle.wdf_scene.specs.declared.line.SceneLine.TheVariants as line
use Rattle.wdf_scene.specs.declared.scene.Scene.{Scene}
use Rattle.wdf_scene.specs.Naming.{declared_name}
use Rattle.wdf_blocks.specs.declared.attribute.Attribute.{Attribute}
use Rattle.wdf_blocks.specs.declared.declaration.Declaration.{Declaration}
use Rattle.wdf_blocks.specs.declared.declaration.Wanted.{Wanted}
use Rattle.wdf_blocks.specs.declared.placed.Placed.{Placed}
use Rattle.wdf_blocks.specs.Attribute.{attribute_of, is_device_wide}
use Rattle.wdf_blocks.specs.Blocks.{given}
use Rattle.wdf_blocks.specs.Declarations.{has_name, stands}
use Rattle.wdf_blocks.specs.Forms.{assigned_name, is_app, is_class, is_device, is_post, is_register, is_statement, nodes_end}
use Rattle.wdf_refusals.specs.declared.limit.Limit.{Limit}
use Rattle.wdf_refusals.specs.declared.limit.Limit.TheVariants as limit
use Rattle.wdf_refusals.specs.declared.limit.TheConstants.{LIMITS}
use Rattle.wdf_refusals.specs.declared.refusal.PlanRefusal.{PlanRefusal}
use Rattle.wdf_refusals.specs.declared.refusal.PlanRefusal.TheVariants as refusal
use Rattle.wdf_refusals.specs.First.{if_holds, if_over, if_twice, refused}
use Rattle.wdf_refusals.specs.Limits.{exceeded, exceeds, over_cpus, over_depth, over_level, over_limit, over_objects, over_parallel, over_picks, over_ticks}
use Rattle.wdf_refusals.specs.Rows.{earlier_line, first_line, given_line, home, incompatible_level, no_parent, nodes_of, reserved_line, taken_line, twice_assigned, twice_attribute, twice_declared, twice_given, twice_named, unknown_name, unknown_word, wrong_callback}
use Rattle.law_bare.proofs.Lists.{find_map}
use Rattle.law_bare.proofs.Scenes.{AreReadAlike, IsPlaceOf, callback_alike, incompatible_alike, no_parent_alike, unknown_alike}
use Rattle.law_order.proofs.Moves.{IsMoved, block_alike, has_given_alike, moved_declared, moved_names, moved_placed, moved_wanted, objects_alike, parent_level_alike, stands_alike}

-- ---- limits

find_by : {X : Type 0} (f g : X → Bool) (x : X) (xs : List X) (b c : Bool) → f x ≡ b → g x ≡ c → (b ≡ false → c ≡ false) → (find f xs ≡ None → find g xs ≡ None)
    → cond b (Some x) (find f xs) ≡ None → cond c (Some x) (find g xs) ≡ None
find_by f g x xs true c e d h rest z = absurd (let w : ⊥ = cc in w)
find_by f g x xs false false e d h rest z = rest z
find_by f g x xs false true e d h rest z = absurd (let w : true ≡ false = h refl in let v : ⊥ = cc in v)

-- where no item passes the first test, none passes the second
find_none : {X : Type 0} (f g : X → Bool) → ((x : X) → f x ≡ false → g x ≡ false) → (xs : List X) → find f xs ≡ None → find g xs ≡ None
find_none f g h [] e = refl
find_none f g h (x ∷ xs) e = find_by f g x xs (f x) (g x) refl refl (h x) (find_none f g h xs) e

-- a line's refusal, with this one for its limits
abbrev with_limit : Scene → List Declaration → List (List ℕ) → Placed → Option PlanRefusal → Option PlanRefusal
with_limit s names variables p o =
    option_or (if_holds (unknown_name s names variables p) (refusal.UnknownName p.number))
    (option_or (if_twice p.number (twice_named s names p))
    (option_or (if_holds (wrong_callback s p p.form) (refusal.WrongCallback p.number))
    (option_or o
    (option_or (if_holds (incompatible_level s names p p.form) (refusal.IncompatibleLevel p.number))
    (if_holds (no_parent names p.form) (refusal.NoParent p.number))))))

none_within : (a b c d e f : Option PlanRefusal) → (d ≡ None → e ≡ None) → option_or a (option_or b (option_or c (option_or d f))) ≡ None → option_or a (option_or b (option_or c (option_or e f))) ≡ None
none_within (Some a) b c d e f h z = absurd (let w : ⊥ = cc in w)
none_within None (Some b) c d e f h z = absurd (let w : ⊥ = cc in w)
none_within None None (Some c) d e f h z = absurd (let w : ⊥ = cc in w)
none_within None None None (Some d) e f h z = absurd (let w : ⊥ = cc in w)
none_within None None None None e f h z = rw (h refl) z

limit_none : (s : Scene) (names : List Declaration) (variables : List (List ℕ)) (p : Placed) (d e : Option PlanRefusal) → (d ≡ None → e ≡ None) → with_limit s names variables p d ≡ None → with_limit s names variables p e ≡ None
limit_none s names variables p d e h z =
    none_within (if_holds (unknown_name s names variables p) (refusal.UnknownName p.number)) (if_twice p.number (twice_named s names p)) (if_holds (wrong_callback s p p.form) (refusal.WrongCallback p.number)) d e
    (option_or (if_holds (incompatible_level s names p p.form) (refusal.IncompatibleLevel p.number)) (if_holds (no_parent names p.form) (refusal.NoParent p.number))) h z

over_none : (n : ℕ) (o q : Option Limit) → (o ≡ None → q ≡ None) → if_over n o ≡ None → if_over n q ≡ None
over_none n (Some l) q h z = absurd (let w : ⊥ = cc in w)
over_none n None q h z = rw (h refl) refl

-- ---- names that stand for the same

module _ (to : ℕ → ℕ) (one two : Scene) (m : IsMoved to one two) (names : List Declaration) where
  same : (n : List ℕ) (w : Wanted) → stands (moved_names to names) n (moved_wanted to w) ≡ stands names n w
  same n w = stands_alike to m.same names n w

  pub nodes_alike : (n : ℕ) (p : Placed) → nodes_of two (moved_placed to n p) ≡ nodes_of one p
  unfolding nodes_of
  nodes_alike n p = ap (λ es. take (nodes_end p.counts.nodes p.form - p.counts.nodes) (drop p.counts.nodes es)) m.exprs

  read : AreReadAlike (option_map to) to (moved_declared to) one two
  read = record { block = block_alike to one two m; has = has_given_alike to one two m; parent = parent_level_alike to one two m }

  moves : (n : ℕ) (p : Placed) → IsPlaceOf (option_map to) to p (moved_placed to n p)
  moves n p = record { at = refl; block = refl; device = refl }

  -- ---- names and attributes that are given twice

  first_line_alike : (n : List ℕ) → first_line (moved_names to names) n ≡ option_map (moved_declared to) (first_line names n)
  unfolding first_line
  first_line_alike n = find_map (moved_declared to) (has_name n) (has_name n) (λ d. refl) names

  earlier_alike : (at : ℕ) (n : List ℕ) (o : Option Declaration) → earlier_line (to at) n (option_map (moved_declared to) o) ≡ earlier_line at n o
  earlier_alike at n None = refl
  earlier_alike at n (Some d) = ap (λ b. cond b (Some d.number) (reserved_line n)) (m.less d.at at)

  taken_alike : (n : List ℕ) (o : Option Declaration) → taken_line n (option_map (moved_declared to) o) ≡ taken_line n o
  taken_alike n None = refl
  taken_alike n (Some d) = refl

  given_line_alike : (at : ℕ) (o : Option ℕ) → given_line two (to at) (option_map to o) ≡ given_line one at o
  given_line_alike at None = refl
  given_line_alike at (Some k) = rw (m.less k at, m.number k) refl

  home_by : (b : Bool) (d o : Option ℕ) → cond b (option_map to d) (option_map to o) ≡ option_map to (cond b d o)
  home_by true d o = refl
  home_by false d o = refl

  home_gives : (a : Attribute) (o : Option ℕ) → option_and_then (λ b. given two b a) (option_map to o) ≡ option_map to (option_and_then (λ b. given one b a) o)
  home_gives a None = refl
  home_gives a (Some b) = m.gives b a

  twice_given_alike : (n : ℕ) (p : Placed) (a : Attribute) → twice_given two (moved_placed to n p) a ≡ twice_given one p a
  unfolding twice_given
  twice_given_alike n p a =
      ap (λ o. given_line two (to p.at) (option_and_then (λ b. given two b a) o)) (home_by (is_device_wide a) p.stand.device p.stand.block)
      ∙ ap (given_line two (to p.at)) (home_gives a (home p a)) ∙ given_line_alike p.at (option_and_then (λ b. given one b a) (home p a))

  attribute_alike : (n : ℕ) (p : Placed) (o : Option Attribute) → twice_attribute two (moved_placed to n p) o ≡ twice_attribute one p o
  attribute_alike n p None = refl
  attribute_alike n p (Some a) = twice_given_alike n p a

  assigned_twice : (n : ℕ) (p : Placed) (o : Option (List ℕ)) → twice_assigned two (moved_names to names) (moved_placed to n p) o ≡ twice_assigned one names p o
  assigned_twice n p None = attribute_alike n p (attribute_of p.form)
  assigned_twice n p (Some x) = ap (taken_line x) (first_line_alike x) ∙ taken_alike x (first_line names x)

  declared_twice : (n : ℕ) (p : Placed) (o : Option (List ℕ)) → twice_declared two (moved_names to names) (moved_placed to n p) o ≡ twice_declared one names p o
  declared_twice n p None = assigned_twice n p (assigned_name p.form)
  declared_twice n p (Some x) = ap (earlier_line (to p.at) x) (first_line_alike x) ∙ earlier_alike p.at x (first_line names x)

  twice_alike : (n : ℕ) (p : Placed) → twice_named two (moved_names to names) (moved_placed to n p) ≡ twice_named one names p
  unfolding twice_named
  twice_alike n p = declared_twice n p (declared_name p.form)

  -- ---- limits

  over_objects_alike : (form : SceneLine) → over_objects (moved_names to names) form ≡ over_objects names form
  unfolding over_objects
  over_objects_alike (line.Objects n) = ap (λ c. not (is_from 1 4096 n) || nat_le n c) (objects_alike to names)
  over_objects_alike _ = refl

  fewer : (variables : List (List ℕ)) (n : ℕ) (p : Placed) → (over_picks (moved_placed to n p) ≡ false → over_picks p ≡ false) → (l : Limit) → exceeds (moved_names to names) variables (moved_placed to n p) l ≡ false → exceeds names variables p l ≡ false
  unfolding exceeds
  fewer variables n p h limit.Objects e = sym (over_objects_alike p.form) ∙ e
  fewer variables n p h limit.Picks e = h e
  fewer variables n p h _ e = e

  further : (variables : List (List ℕ)) (n : ℕ) (p : Placed) → over_picks (moved_placed to n p) ≡ false → (l : Limit) → exceeds names variables p l ≡ false → exceeds (moved_names to names) variables (moved_placed to n p) l ≡ false
  unfolding exceeds
  further variables n p h limit.Objects e = over_objects_alike p.form ∙ e
  further variables n p h limit.Picks e = h
  further variables n p h _ e = e

  none_fewer : (variables : List (List ℕ)) (n : ℕ) (p : Placed) → (over_picks (moved_placed to n p) ≡ false → over_picks p ≡ false) → exceeded (moved_names to names) variables (moved_placed to n p) ≡ None → exceeded names variables p ≡ None
  unfolding exceeded
  none_fewer variables n p h = find_none (exceeds (moved_names to names) variables (moved_placed to n p)) (exceeds names variables p) (fewer variables n p h) LIMITS

  none_further : (variables : List (List ℕ)) (n : ℕ) (p : Placed) → over_picks (moved_placed to n p) ≡ false → exceeded names variables p ≡ None → exceeded (moved_names to names) variables (moved_placed to n p) ≡ None
  unfolding exceeded
  none_further variables n p h = find_none (exceeds names variables p) (exceeds (moved_names to names) variables (moved_placed to n p)) (further variables n p h) LIMITS

  -- ---- a line is refused

  parts_alike : (variables : List (List ℕ)) (n : ℕ) (p : Placed) (o : Option PlanRefusal) → with_limit two (moved_names to names) variables (moved_placed to n p) o ≡ with_limit one names variables p o
  parts_alike variables n p o =
      rw (
        unknown_alike (option_map to) names (moved_names to names) same one two variables p (moved_placed to n p) refl refl (nodes_alike n p),
        twice_alike n p,
        callback_alike (option_map to) to (moved_declared to) one two read p (moved_placed to n p) (moves n p) p.form,
        incompatible_alike (option_map to) to (moved_declared to) one two read names same p (moved_placed to n p) (moves n p) p.form,
        no_parent_alike (option_map to) names (moved_names to names) same p.form,
      ) refl

  -- a line that isn't refused at its new place isn't refused
  pub refused_before : (variables : List (List ℕ)) (n : ℕ) (p : Placed) → (over_picks (moved_placed to n p) ≡ false → over_picks p ≡ false) → refused two (moved_names to names) variables (moved_placed to n p) ≡ None → refused one names variables p ≡ None
  unfolding refused
  refused_before variables n p h e =
      let q = moved_placed to n p in
      let here : with_limit one names variables p (if_over p.number (exceeded (moved_names to names) variables q)) ≡ None = sym (parts_alike variables n p (if_over p.number (exceeded (moved_names to names) variables q))) ∙ e in
      limit_none one names variables p (if_over p.number (exceeded (moved_names to names) variables q)) (if_over p.number (exceeded names variables p)) (over_none p.number (exceeded (moved_names to names) variables q) (exceeded names variables p) (none_fewer variables n p h)) here

  -- and the other way round, where the picks aren't too many there
  pub refused_after : (variables : List (List ℕ)) (n : ℕ) (p : Placed) → over_picks (moved_placed to n p) ≡ false → refused one names variables p ≡ None → refused two (moved_names to names) variables (moved_placed to n p) ≡ None
  unfolding refused
  refused_after variables n p h e =
      let q = moved_placed to n p in
      let here : with_limit one names variables p (if_over p.number (exceeded (moved_names to names) variables q)) ≡ None =
      limit_none one names variables p (if_over p.number (exceeded names variables p)) (if_over p.number (exceeded (moved_names to names) variables q)) (over_none p.number (exceeded names variables p) (exceeded (moved_names to names) variables q) (none_further variables n p h)) e in
      parts_alike variables n p (if_over p.number (exceeded (moved_names to names) variables q)) ∙ here

-- ---- the lines of an `order` block

-- a line of an `order` block
abbrev pub is_of_order : SceneLine → Bool
is_of_order line.Order = true
is_of_order line.Picks = true
is_of_order line.End = true
is_of_order _ = false

-- what holds of the three forms of its lines holds of each of them
pub in_order : (P : SceneLine → Type 0) → P line.Order → P line.Picks → P line.End → (form : SceneLine) → is_of_order form ≡ true → P form
in_order P order picks end line.Order h = order
in_order P order picks end line.Picks h = picks
in_order P order picks end line.End h = end
in_order P order picks end _ h = absurd (let z : ⊥ = cc in z)

pub nodes_stay : (n : ℕ) (form : SceneLine) → is_of_order form ≡ true → nodes_end n form ≡ n
unfolding nodes_end
nodes_stay n = in_order (λ f. nodes_end n f ≡ n) refl refl refl

module _ (scene : Scene) (names : List Declaration) (variables : List (List ℕ)) where
  pub no_nodes : (p : Placed) → is_of_order p.form ≡ true → nodes_of scene p ≡ []
  unfolding nodes_of
  no_nodes p e =
      let stays = nodes_stay p.counts.nodes p.form e in
      let none' : nodes_end p.counts.nodes p.form - p.counts.nodes ≡ 0 = omega (arith, stays) in
      ap (λ n. take n (drop p.counts.nodes scene.exprs)) none'

  unknown_in_order : (p : Placed) (form : SceneLine) → p.form ≡ form → is_of_order form ≡ true → unknown_name scene names variables p ≡ false
  unfolding unknown_name unknown_word
  unknown_in_order p line.Order e h = rw (no_nodes p (ap is_of_order e ∙ h), e) refl
  unknown_in_order p line.Picks e h = rw (no_nodes p (ap is_of_order e ∙ h), e) refl
  unknown_in_order p line.End e h = rw (no_nodes p (ap is_of_order e ∙ h), e) refl
  unknown_in_order p _ e h = absurd (let z : ⊥ = cc in z)

  twice_in_order : (p : Placed) (form : SceneLine) → p.form ≡ form → is_of_order form ≡ true → twice_named scene names p ≡ None
  unfolding twice_named declared_name assigned_name attribute_of
  twice_in_order p line.Order e h = rw e refl
  twice_in_order p line.Picks e h = rw e refl
  twice_in_order p line.End e h = rw e refl
  twice_in_order p _ e h = absurd (let z : ⊥ = cc in z)

  callback_in_order : (p : Placed) (form : SceneLine) → is_of_order form ≡ true → wrong_callback scene p form ≡ false
  unfolding wrong_callback
  callback_in_order p = in_order (λ f. wrong_callback scene p f ≡ false) refl refl refl

  level_in_order : (p : Placed) (form : SceneLine) → is_of_order form ≡ true → incompatible_level scene names p form ≡ false
  unfolding incompatible_level
  level_in_order p = in_order (λ f. incompatible_level scene names p f ≡ false) refl refl refl

  parent_in_order : (form : SceneLine) → is_of_order form ≡ true → no_parent names form ≡ false
  unfolding no_parent
  parent_in_order = in_order (λ f. no_parent names f ≡ false) refl refl refl

  exceeded_in_order : (p : Placed) (form : SceneLine) → p.form ≡ form → is_of_order form ≡ true → over_picks p ≡ false → exceeded names variables p ≡ None
  unfolding exceeded exceeds over_cpus over_limit over_objects over_level over_parallel over_depth over_ticks is_device is_app is_register is_class is_statement is_post assigned_name
  exceeded_in_order p line.Order e h few = rw (e, few) refl
  exceeded_in_order p line.Picks e h few = rw (e, few) refl
  exceeded_in_order p line.End e h few = rw (e, few) refl
  exceeded_in_order p _ e h few = absurd (let z : ⊥ = cc in z)

  -- such a line is refused for its picks alone
  pub order_refused : (p : Placed) → is_of_order p.form ≡ true → over_picks p ≡ false → refused scene names variables p ≡ None
  unfolding refused
  order_refused p h few =
      rw (unknown_in_order p p.form refl h, twice_in_order p p.form refl h, callback_in_order p p.form h, exceeded_in_order p p.form refl h few, level_in_order p p.form h, parent_in_order p.form h) refl
