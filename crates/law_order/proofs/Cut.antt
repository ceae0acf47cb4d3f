-- A scene with an `order` block, and the scene without it: what is the same of both.
use Rattle.std.proofs.Common.{◌≡◌, inl, inr, ℕ, suc, ◌+◌, ◌<◌, ◌==◌, true, not, List, [], ◌∷◌, ◌++◌, map, length, drop, Option, Some, None, option_map, slice_get, refl, sym, ap, ◌∙◌, subst, arith, append_assoc, length-append}
use Rattle.std.specs.Option.{is_none, unwrap_or}
use Rattle.std.proofs.lemmas.Bool.{and_parts}
use Rattle.wdf_base.specs.declared.call.Callback.{Callback}
use Rattle.wdf_scene.specs.declared.line.NumberedLine.{NumberedLine}
use Rattle.wdf_scene.specs.declared.line.SceneExpr.{SceneExpr}
use Rattle.wdf_scene.specs.declared.line.SceneLine.{SceneLine}
use Rattle.wdf_scene.specs.declared.line.SceneLine.TheVariants as line
use Rattle.wdf_scene.specs.declared.scene.Scene.{Scene}
use Rattle.wdf_scene.specs.Blocks.{innermost, is_outside}
use Rattle.wdf_scene.specs.Written.{IsScene}
use Rattle.wdf_blocks.specs.declared.attribute.Attribute.{Attribute}
use Rattle.wdf_blocks.specs.declared.declaration.Declaration.{Declaration}
use Rattle.wdf_blocks.specs.declared.placed.Counts.{Counts}
use Rattle.wdf_blocks.specs.declared.placed.Stand.{Stand}
use Rattle.wdf_blocks.specs.Blocks.{driver_line, form_at, given, is_driver_line, number_at}
use Rattle.wdf_blocks.specs.Forms.{is_driver}
use Rattle.wdf_blocks.specs.Placed.{counted, nothing, opened_by, outside, placed, placed_from, placed_line}
use Rattle.wdf_blocks.specs.Variables.{assigned_from, variables}
use Rattle.wdf_blocks.proofs.Walks.{placed_length}
use Rattle.wdf_refusals.specs.Numbered.{Every}
use Rattle.wdf_refusals.proofs.Heads.{HasHead, scene_head}
use Rattle.wdf_plan.specs.Flow.{HasTree}
use Rattle.wdf_plan.specs.Scripts.{statements_from, statements_of}
use Rattle.wdf_plan.proofs.Places.{item_there}
use Rattle.wdf_plan.proofs.Stacking.{passed}
use Rattle.wdf_plan.proofs.Stacks.{none_open, stand_of}
use Rattle.wdf_plan.proofs.Trees.{has_tree}
use Rattle.law_order.specs.Order.{PicksLine, order_block, picks_line}
use Rattle.law_order.proofs.Bodies.{across}
use Rattle.law_order.proofs.Inserted.{IsInserted, IsThere}
use Rattle.law_order.proofs.Lists.{every_back, every_front}
use Rattle.law_order.proofs.Moves.{IsMoved, more, moved_placed}
use Rattle.law_order.proofs.Placing.{block_counts, block_of_order, block_stand, counts_after, goes_after, picks_in, placed_both, placed_moved, stand_after, stays_before}
use Rattle.law_order.proofs.Scans.{assigned_across, given_shifted, place_after, place_is}
use Rattle.law_order.proofs.Shift.{NonePass, behind, further_is, get_shifted, less_same, option_same, position_shifted, rises, shifted}

-- ---- the first three lines come before an `order` block

record IsLong (ls : List NumberedLine) : Type 0 where
  a : NumberedLine
  b : NumberedLine
  c : NumberedLine
  rest : List NumberedLine
  is : ls ≡ a ∷ b ∷ c ∷ rest

not_cpus : (o l : NumberedLine) (n : ℕ) → o ≡ l → o.form ≡ line.Order → l.form ≡ line.Cpus n → ⊥
not_cpus o l n e f g = let z : line.Order ≡ line.Cpus n = sym f ∙ ap (λ (x : NumberedLine). x.form) e ∙ g in let y : ⊥ = cc in y

not_limit : (o l : NumberedLine) (n : ℕ) → o ≡ l → o.form ≡ line.Order → l.form ≡ line.Limit n → ⊥
not_limit o l n e f g = let z : line.Order ≡ line.Limit n = sym f ∙ ap (λ (x : NumberedLine). x.form) e ∙ g in let y : ⊥ = cc in y

not_objects : (o l : NumberedLine) (n : ℕ) → o ≡ l → o.form ≡ line.Order → l.form ≡ line.Objects n → ⊥
not_objects o l n e f g = let z : line.Order ≡ line.Objects n = sym f ∙ ap (λ (x : NumberedLine). x.form) e ∙ g in let y : ⊥ = cc in y

is_long : (v : ℕ) (ls : List NumberedLine) (o : NumberedLine) (rest : List NumberedLine) → o.form ≡ line.Order → HasHead v (ls ++ o ∷ rest) → IsLong ls
is_long v [] o rest e h = let are = h.are in let same : o ≡ h.first = cc in absurd (not_cpus o h.first h.cpus same e h.is_cpus)
is_long v (a ∷ []) o rest e h = let are = h.are in let same : o ≡ h.second = cc in absurd (not_limit o h.second h.limit same e h.is_limit)
is_long v (a ∷ b ∷ []) o rest e h = let are = h.are in let same : o ≡ h.third = cc in absurd (not_objects o h.third h.objects same e h.is_objects)
is_long v (a ∷ b ∷ c ∷ ls) o rest e h = record { a = a; b = b; c = c; rest = ls; is = refl }

module _ (version : ℕ) (exprs : List SceneExpr) (before : List NumberedLine) (first : ℕ) (ps : List PicksLine) (last : ℕ) (after : List NumberedLine) where
  abbrev block : List NumberedLine
  block = order_block first ps last

  abbrev pub two : Scene
  two = record { version = version; lines = before ++ (block ++ after); exprs = exprs }

  abbrev pub one : Scene
  one = record { version = version; lines = before ++ after; exprs = exprs }

  abbrev pub to : ℕ → ℕ
  to = shifted (length before) (length block)

  up : (i j : ℕ) → i < j → to i < to j
  up i j h = rises (length before) (length block) i j h

  -- ---- single lines

  form_shifted : (k : ℕ) → form_at two (to k) ≡ form_at one k
  unfolding form_at
  form_shifted k = ap (option_map (λ (l : NumberedLine). l.form)) (get_shifted before block after k)

  number_shifted : (k : ℕ) → number_at two (to k) ≡ number_at one k
  unfolding number_at
  number_shifted k = ap (λ o. unwrap_or (option_map (λ (l : NumberedLine). l.number) o) 0) (get_shifted before block after k)

  gives_shifted : (b : ℕ) (a : Attribute) → given two (to b) a ≡ option_map to (given one b a)
  unfolding given
  gives_shifted b a = given_shifted a first ps last before after b

  no_driver_in : (qs : List PicksLine) → NonePass is_driver_line (map picks_line qs ++ record { number = last; form = line.End; picks = [] } ∷ [])
  unfolding is_driver
  no_driver_in [] = (refl, tt)
  no_driver_in (q ∷ qs) = (refl, no_driver_in qs)

  no_driver : NonePass is_driver_line block
  unfolding is_driver
  no_driver = (refl, no_driver_in ps)

  driver_shifted : driver_line two ≡ option_map to (driver_line one)
  unfolding driver_line
  driver_shifted = position_shifted is_driver_line before block after no_driver

  variables_shifted : (k : ℕ) → variables two (to k) ≡ variables one k
  unfolding variables
  variables_shifted k = elim (behind before block after k) [
    | inl w ↦ ap (assigned_from [] 0) w.wide_is ∙ assigned_across [] 0 first ps last w.front after ∙ ap (assigned_from [] 0) (sym w.narrow_is)
    | inr e ↦ ap (assigned_from [] 0) e
  ]

  is_moved : IsMoved to one two
  is_moved = record {
    less = less_same to up;
    same = option_same to up;
    form = form_shifted;
    number = number_shifted;
    gives = gives_shifted;
    driver = driver_shifted;
    variables = variables_shifted;
    exprs = refl;
  }

  -- ---- statements

  line_there : (o : Option NumberedLine) (f : SceneLine) → option_map (λ l. l.form) o ≡ Some f → (l : NumberedLine) × (o ≡ Some l) × (l.form ≡ f)
  line_there None f e = absurd (let z : ⊥ = cc in z)
  line_there (Some l) f e = (l, refl, cc)

  module _ (is : IsScene two) where
    tree_of : (k : ℕ) (c : Callback) → form_at two k ≡ Some (line.On c) → HasTree two k
    unfolding form_at
    tree_of k c e = let l = line_there (slice_get two.lines k) (line.On c) e in has_tree two is k l.0 c l.1 l.2

    statements_shifted : (names : List Declaration) (k : ℕ) (c : Callback) → form_at one k ≡ Some (line.On c) → statements_of two names (to k) ≡ statements_of one names k
    unfolding statements_of
    statements_shifted names k c e =
        let tree = tree_of (to k) c (form_shifted k ∙ e) in
        ap (λ vs. statements_from names vs [] 0 (drop (suc (to k)) two.lines)) (variables_shifted k)
        ∙ elim (behind before block after k) [
          | inl w ↦
              ap (statements_from names (variables one k) [] 0) w.wide_is
              ∙ across names (variables one k) tree.body tree.closing w.front tree.lines_after _ _ after refl (sym w.wide_is ∙ tree.spelled)
              ∙ ap (statements_from names (variables one k) [] 0) (sym w.narrow_is)
          | inr same ↦ ap (statements_from names (variables one k) [] 0) same
        ]

    -- ---- where the lines are

    abbrev start : ℕ
    start = place_after 0 before

    abbrev counts : Counts
    counts = counts_after nothing before

    start_is : start ≡ length before
    start_is = place_is 0 before ∙ further_is (length before) 0 ∙ omega arith

    block_there : slice_get (placed two) (length before) ≡ Some (placed_line start (stand_after 0 outside before) counts (record { number = first; form = line.Order; picks = [] }))
    unfolding placed placed_from
    block_there = item_there (placed two) (placed_from 0 outside nothing before) _ _ (length before) (placed_both 0 outside nothing before (block ++ after)) (placed_length 0 outside nothing before)

    stand_there : stand_after 0 outside before ≡ outside
    stand_there =
        let p = passed two is (length before) _ block_there in
        let may = p.stacked.may in
        let outer = (and_parts (is_outside p.stacked.position) (not p.stacked.position.order) may).0 in
        let none' : is_none (innermost p.stacked.position.blocks) ≡ true = (and_parts (p.stacked.position.headers == 3) (is_none (innermost p.stacked.position.blocks)) outer).1 in
        let empty : p.stack ≡ [] = none_open p.stack (ap (λ bs. is_none (innermost bs)) (sym p.stacked.blocks) ∙ none') in
        p.stacked.stand ∙ ap stand_of empty

    one_placed : placed one ≡ placed_from 0 outside nothing before ++ placed_from start outside counts after
    unfolding placed
    one_placed = placed_both 0 outside nothing before after ∙ ap (λ s. placed_from 0 outside nothing before ++ placed_from start s counts after) stand_there

    front_moved : placed_from 0 outside nothing before ≡ map (moved_placed to 0) (placed_from 0 outside nothing before)
    front_moved = placed_moved to (option_same to up) 0 0 0 outside nothing before (stays_before (length block) before)

    end_is : place_after start block ≡ length before + length block
    end_is = let here = start_is in place_is start block ∙ further_is (length block) start ∙ omega (arith, here)

    back_moved : placed_from (place_after start block) outside (more (picks_in ps) counts) after ≡ map (moved_placed to (picks_in ps)) (placed_from start outside counts after)
    back_moved = placed_moved to (option_same to up) (picks_in ps) start (place_after start block) outside counts after (goes_after (length before) (length block) start (place_after start block) after start_is end_is)

    two_placed : placed two ≡ map (moved_placed to 0) (placed_from 0 outside nothing before) ++ (placed_from start outside counts block ++ map (moved_placed to (picks_in ps)) (placed_from start outside counts after))
    unfolding placed
    two_placed =
        placed_both 0 outside nothing before (block ++ after)
        ∙ ap (λ s. placed_from 0 outside nothing before ++ placed_from start s counts (block ++ after)) stand_there
        ∙ ap (λ xs. placed_from 0 outside nothing before ++ xs)
        (placed_both start outside counts block after
        ∙ ap (λ s. placed_from start outside counts block ++ placed_from (place_after start block) s (counts_after counts block) after) (block_stand start first ps last)
        ∙ ap (λ c. placed_from start outside counts block ++ placed_from (place_after start block) outside c after) (block_counts counts first ps last)
        ∙ ap (λ xs. placed_from start outside counts block ++ xs) back_moved)
        ∙ ap (λ xs. xs ++ (placed_from start outside counts block ++ map (moved_placed to (picks_in ps)) (placed_from start outside counts after))) front_moved

    -- ---- each line is at its place

    there_from : (front : List NumberedLine) (k : ℕ) (o : Stand) (c : Counts) (ls : List NumberedLine) → one.lines ≡ front ++ ls → length front ≡ k → Every (IsThere one) (placed_from k o c ls)
    unfolding placed_from form_at
    there_from front k o c [] e long = tt
    there_from front k o c (l ∷ ls) e long =
        let longer : length (front ++ l ∷ []) ≡ suc k = let both = length-append front (l ∷ []) in omega (arith, both, long) in (
          ap (option_map (λ (x : NumberedLine). x.form)) (item_there one.lines front l ls k e long),
          there_from (front ++ l ∷ []) (suc k) (opened_by o k l.form) (counted c l.form (length l.picks)) ls (e ∙ sym (append_assoc front (l ∷ []) ls)) longer,
        )

    all_there : Every (IsThere one) (placed_from 0 outside nothing before ++ placed_from start outside counts after)
    unfolding placed
    all_there = subst (Every (IsThere one)) one_placed (there_from [] 0 outside nothing one.lines refl refl)

    -- ---- the first three lines

    long : IsLong before
    long = is_long version before (record { number = first; form = line.Order; picks = [] }) _ refl (scene_head two is)

    same_front : (k : ℕ) → ((xs : List NumberedLine) → slice_get (before ++ xs) k ≡ slice_get (long.a ∷ long.b ∷ long.c ∷ []) k) → form_at two k ≡ form_at one k
    unfolding form_at
    same_front k h = ap (option_map (λ (l : NumberedLine). l.form)) (h (block ++ after) ∙ sym (h after))

    pub inserted : IsInserted to one two
    inserted =
        record {
          moved = is_moved;
          before = placed_from 0 outside nothing before;
          block = placed_from start outside counts block;
          after = placed_from start outside counts after;
          more = picks_in ps;
          one_is = one_placed;
          two_is = two_placed;
          of_order = block_of_order start outside counts first ps last;
          before_there = every_front (IsThere one) (placed_from 0 outside nothing before) (placed_from start outside counts after) all_there;
          after_there = every_back (IsThere one) (placed_from 0 outside nothing before) (placed_from start outside counts after) all_there;
          first = same_front 0 (λ xs. ap (λ bs. slice_get (bs ++ xs) 0) long.is);
          second = same_front 1 (λ xs. ap (λ bs. slice_get (bs ++ xs) 1) long.is);
          third = same_front 2 (λ xs. ap (λ bs. slice_get (bs ++ xs) 2) long.is);
          statements = statements_shifted;
        }
