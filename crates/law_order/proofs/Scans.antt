-- What is read of the lines behind one is read past an `order` block as if it weren't there.
use Rattle.std.proofs.Common.{◌≡◌, ℕ, zero, suc, Bool, true, false, cond, List, [], ◌∷◌, ◌++◌, map, length, drop, Option, Some, None, option_map, refl, sym, ap, ◌∙◌, arith}
use Rattle.wdf_scene.specs.declared.line.NumberedLine.{NumberedLine}
use Rattle.wdf_scene.specs.declared.line.SceneLine.{SceneLine}
use Rattle.wdf_scene.specs.declared.line.SceneLine.TheVariants as line
use Rattle.wdf_blocks.specs.declared.attribute.Attribute.{Attribute}
use Rattle.wdf_blocks.specs.declared.attribute.Attribute.TheVariants as attribute
use Rattle.wdf_blocks.specs.Attribute.{gives, gives_callback, gives_form, is_device_wide}
use Rattle.wdf_blocks.specs.Blocks.{counts_for, depth_after, ends_block, given_from}
use Rattle.wdf_blocks.specs.Forms.{assigned_name, is_end, opens}
use Rattle.wdf_blocks.specs.Variables.{assigned_from, with_assigned}
use Rattle.law_order.specs.Order.{PicksLine, order_block, picks_line}
use Rattle.law_order.proofs.Refusals.{is_of_order}
use Rattle.law_order.proofs.Shift.{drop_further, further, shifted}

-- ---- an `order` block gives nothing

gives_none : (a : Attribute) (form : SceneLine) → is_of_order form ≡ true → gives a form ≡ false
unfolding gives gives_form gives_callback
gives_none attribute.Scope line.Order h = refl
gives_none attribute.Scope line.Picks h = refl
gives_none attribute.Scope line.End h = refl
gives_none attribute.Level line.Order h = refl
gives_none attribute.Level line.Picks h = refl
gives_none attribute.Level line.End h = refl
gives_none attribute.Serialize line.Order h = refl
gives_none attribute.Serialize line.Picks h = refl
gives_none attribute.Serialize line.End h = refl
gives_none attribute.Period line.Order h = refl
gives_none attribute.Period line.Picks h = refl
gives_none attribute.Period line.End h = refl
gives_none attribute.PowerOff line.Order h = refl
gives_none attribute.PowerOff line.Picks h = refl
gives_none attribute.PowerOff line.End h = refl
gives_none attribute.Zero line.Order h = refl
gives_none attribute.Zero line.Picks h = refl
gives_none attribute.Zero line.End h = refl
gives_none attribute.Default line.Order h = refl
gives_none attribute.Default line.Picks h = refl
gives_none attribute.Default line.End h = refl
gives_none (attribute.For f) line.Order h = refl
gives_none (attribute.For f) line.Picks h = refl
gives_none (attribute.For f) line.End h = refl
gives_none (attribute.On c) line.Order h = refl
gives_none (attribute.On c) line.Picks h = refl
gives_none (attribute.On c) line.End h = refl
gives_none _ _ h = absurd (let z : ⊥ = cc in z)

cond_false : (b : Bool) (x : Bool) → x ≡ false → cond b x false ≡ false
cond_false true x e = e
cond_false false x e = refl

counts_none : (a : Attribute) (depth : ℕ) (form : SceneLine) → is_of_order form ≡ true → counts_for a depth form ≡ false
counts_none a zero form h = gives_none a form h
counts_none a (suc depth) form h = cond_false (is_device_wide a) (gives a form) (gives_none a form h)

-- none of its lines ends the block in which it is read, and after it the depth is as before
order_ends : (depth : ℕ) → ends_block depth line.Order ≡ false
unfolding is_end
order_ends zero = refl
order_ends (suc depth) = refl

order_depth : (depth : ℕ) → depth_after depth line.Order ≡ suc depth
unfolding opens
order_depth depth = refl

picks_depth : (depth : ℕ) → depth_after depth line.Picks ≡ depth
unfolding opens is_end
picks_depth depth = refl

end_depth : (depth : ℕ) → depth_after (suc depth) line.End ≡ depth
unfolding opens is_end
end_depth depth = omega arith

-- ---- attributes

-- the place after these lines
abbrev pub place_after : {T : Type 0} → ℕ → List T → ℕ
place_after k [] = k
place_after k (l ∷ ls) = place_after (suc k) ls

further_next : (g k : ℕ) → further g (suc k) ≡ suc (further g k)
further_next zero k = refl
further_next (suc g) k = ap suc (further_next g k)

pub place_is : {T : Type 0} (k : ℕ) (ls : List T) → place_after k ls ≡ further (length ls) k
place_is k [] = refl
place_is k (l ∷ ls) = place_is (suc k) ls ∙ further_next (length ls) k

pushed : (f : ℕ → ℕ) (b e : Bool) (k : ℕ) (o : Option ℕ) → cond b (Some (f k)) (cond e None (option_map f o)) ≡ option_map f (cond b (Some k) (cond e None o))
pushed f true e k o = refl
pushed f false true k o = refl
pushed f false false k o = refl

module _ (a : Attribute) where
  given_next : (depth k : ℕ) (ls : List NumberedLine) → given_from a depth (suc k) ls ≡ option_map suc (given_from a depth k ls)
  unfolding given_from
  given_next depth k [] = refl
  given_next depth k (l ∷ ls) =
      ap (λ o. cond (counts_for a depth l.form) (Some (suc k)) (cond (ends_block depth l.form) None o)) (given_next (depth_after depth l.form) (suc k) ls)
      ∙ pushed suc (counts_for a depth l.form) (ends_block depth l.form) k (given_from a (depth_after depth l.form) (suc k) ls)

  mapped_suc : (g : ℕ) (o : Option ℕ) → option_map suc (option_map (further g) o) ≡ option_map (further (suc g)) o
  mapped_suc g None = refl
  mapped_suc g (Some k) = refl

  mapped_zero : (o : Option ℕ) → o ≡ option_map (further zero) o
  mapped_zero None = refl
  mapped_zero (Some k) = refl

  given_further : (g depth k : ℕ) (ls : List NumberedLine) → given_from a depth (further g k) ls ≡ option_map (further g) (given_from a depth k ls)
  given_further zero depth k ls = mapped_zero (given_from a depth k ls)
  given_further (suc g) depth k ls = given_next depth (further g k) ls ∙ ap (option_map suc) (given_further g depth k ls) ∙ mapped_suc g (given_from a depth k ls)

  -- one line that gives nothing and ends nothing
  passed_line : (depth k : ℕ) (l : NumberedLine) (ls : List NumberedLine) → is_of_order l.form ≡ true → ends_block depth l.form ≡ false → given_from a depth k (l ∷ ls) ≡ given_from a (depth_after depth l.form) (suc k) ls
  unfolding given_from
  passed_line depth k l ls h e = rw (counts_none a depth l.form h, e) refl

  passed_picks : (depth k : ℕ) (ps : List PicksLine) (last : ℕ) (ls : List NumberedLine)
      → given_from a (suc depth) k ((map picks_line ps ++ record { number = last; form = line.End; picks = [] } ∷ []) ++ ls) ≡ given_from a depth (place_after k (map picks_line ps ++ record { number = last; form = line.End; picks = [] } ∷ [])) ls
  passed_picks depth k [] last ls =
      passed_line (suc depth) k (record { number = last; form = line.End; picks = [] }) ls refl refl ∙ ap (λ d. given_from a d (suc k) ls) (end_depth depth)
  passed_picks depth k (p ∷ ps) last ls =
      let rest = (map picks_line ps ++ record { number = last; form = line.End; picks = [] } ∷ []) ++ ls in
      passed_line (suc depth) k (picks_line p) rest refl refl ∙ ap (λ d. given_from a d (suc k) rest) (picks_depth (suc depth)) ∙ passed_picks depth (suc k) ps last ls

  passed_block : (depth k first : ℕ) (ps : List PicksLine) (last : ℕ) (ls : List NumberedLine)
      → given_from a depth k (order_block first ps last ++ ls) ≡ given_from a depth (place_after k (order_block first ps last)) ls
  passed_block depth k first ps last ls =
      let rest = (map picks_line ps ++ record { number = last; form = line.End; picks = [] } ∷ []) ++ ls in
      passed_line depth k (record { number = first; form = line.Order; picks = [] }) rest refl (order_ends depth)
      ∙ ap (λ d. given_from a d (suc k) rest) (order_depth depth) ∙ passed_picks depth (suc k) ps last ls

  module _ (first : ℕ) (ps : List PicksLine) (last : ℕ) where
    abbrev block : List NumberedLine
    block = order_block first ps last

    further_block : (depth k : ℕ) (ls : List NumberedLine) → given_from a depth k (block ++ ls) ≡ option_map (further (length block)) (given_from a depth k ls)
    further_block depth k ls =
        passed_block depth k first ps last ls ∙ ap (λ n. given_from a depth n ls) (place_is k block) ∙ given_further (length block) depth k ls

    step : (c : ℕ) (b e : Bool) (o : Option ℕ) → cond b (Some 0) (cond e None (option_map suc (option_map (shifted c (length block)) o))) ≡ option_map (shifted (suc c) (length block)) (cond b (Some 0) (cond e None (option_map suc o)))
    step c true e o = refl
    step c false true o = refl
    step c false false None = refl
    step c false false (Some k) = refl

    scan : (xs ys : List NumberedLine) (depth : ℕ) → given_from a depth 0 (xs ++ (block ++ ys)) ≡ option_map (shifted (length xs) (length block)) (given_from a depth 0 (xs ++ ys))
    unfolding given_from
    scan [] ys depth = further_block depth 0 ys
    scan (x ∷ xs) ys depth =
        let d = depth_after depth x.form in
        let counts = counts_for a depth x.form in
        let ends = ends_block depth x.form in
        ap (λ o. cond counts (Some 0) (cond ends None o)) (given_next d 0 (xs ++ (block ++ ys)) ∙ ap (option_map suc) (scan xs ys d))
        ∙ step (length xs) counts ends (given_from a d 0 (xs ++ ys))
        ∙ ap (λ o. option_map (shifted (suc (length xs)) (length block)) (cond counts (Some 0) (cond ends None o))) (sym (given_next d 0 (xs ++ ys)))

    mapped_step : (c : ℕ) (o : Option ℕ) → option_map suc (option_map (shifted c (length block)) o) ≡ option_map (shifted (suc c) (length block)) (option_map suc o)
    mapped_step c None = refl
    mapped_step c (Some k) = refl

    -- the line that gives it is at its new place
    pub given_shifted : (xs ys : List NumberedLine) (k : ℕ)
        → given_from a 0 (suc (shifted (length xs) (length block) k)) (drop (suc (shifted (length xs) (length block) k)) (xs ++ (block ++ ys)))
        ≡ option_map (shifted (length xs) (length block)) (given_from a 0 (suc k) (drop (suc k) (xs ++ ys)))
    given_shifted [] ys k =
        ap (given_from a 0 (suc (further (length block) k))) (drop_further block ys k)
        ∙ ap (λ n. given_from a 0 n (drop (suc k) ys)) (sym (further_next (length block) k)) ∙ given_further (length block) 0 (suc k) (drop (suc k) ys)
    given_shifted (x ∷ xs) ys zero =
        given_next 0 0 (xs ++ (block ++ ys)) ∙ ap (option_map suc) (scan xs ys 0) ∙ mapped_step (length xs) (given_from a 0 0 (xs ++ ys))
        ∙ ap (option_map (shifted (suc (length xs)) (length block))) (sym (given_next 0 0 (xs ++ ys)))
    given_shifted (x ∷ xs) ys (suc k) =
        let there = shifted (length xs) (length block) k in
        given_next 0 (suc there) (drop (suc there) (xs ++ (block ++ ys))) ∙ ap (option_map suc) (given_shifted xs ys k) ∙ mapped_step (length xs) (given_from a 0 (suc k) (drop (suc k) (xs ++ ys)))
        ∙ ap (option_map (shifted (suc (length xs)) (length block))) (sym (given_next 0 (suc k) (drop (suc k) (xs ++ ys))))

-- ---- variables

assigned_line : (names : List (List ℕ)) (depth : ℕ) (l : NumberedLine) (ls : List NumberedLine) → assigned_name l.form ≡ None → ends_block depth l.form ≡ false → assigned_from names depth (l ∷ ls) ≡ assigned_from names (depth_after depth l.form) ls
unfolding assigned_from
assigned_line names depth l ls n e = rw (n, e) refl

assigns_none : (form : SceneLine) → is_of_order form ≡ true → assigned_name form ≡ None
unfolding assigned_name
assigns_none line.Order h = refl
assigns_none line.Picks h = refl
assigns_none line.End h = refl
assigns_none _ h = absurd (let z : ⊥ = cc in z)

assigned_picks : (names : List (List ℕ)) (depth : ℕ) (ps : List PicksLine) (last : ℕ) (ls : List NumberedLine)
    → assigned_from names (suc depth) ((map picks_line ps ++ record { number = last; form = line.End; picks = [] } ∷ []) ++ ls) ≡ assigned_from names depth ls
assigned_picks names depth [] last ls =
    assigned_line names (suc depth) (record { number = last; form = line.End; picks = [] }) ls (assigns_none line.End refl) refl ∙ ap (λ d. assigned_from names d ls) (end_depth depth)
assigned_picks names depth (p ∷ ps) last ls =
    let rest = (map picks_line ps ++ record { number = last; form = line.End; picks = [] } ∷ []) ++ ls in
    assigned_line names (suc depth) (picks_line p) rest (assigns_none line.Picks refl) refl ∙ ap (λ d. assigned_from names d rest) (picks_depth (suc depth)) ∙ assigned_picks names depth ps last ls

assigned_block : (names : List (List ℕ)) (depth first : ℕ) (ps : List PicksLine) (last : ℕ) (ls : List NumberedLine) → assigned_from names depth (order_block first ps last ++ ls) ≡ assigned_from names depth ls
assigned_block names depth first ps last ls =
    let rest = (map picks_line ps ++ record { number = last; form = line.End; picks = [] } ∷ []) ++ ls in
    assigned_line names depth (record { number = first; form = line.Order; picks = [] }) rest (assigns_none line.Order refl) (order_ends depth)
    ∙ ap (λ d. assigned_from names d rest) (order_depth depth) ∙ assigned_picks names depth ps last ls

pub assigned_across : (names : List (List ℕ)) (depth first : ℕ) (ps : List PicksLine) (last : ℕ) (xs ys : List NumberedLine) → assigned_from names depth (xs ++ (order_block first ps last ++ ys)) ≡ assigned_from names depth (xs ++ ys)
unfolding assigned_from
assigned_across names depth first ps last [] ys = assigned_block names depth first ps last ys
assigned_across names depth first ps last (x ∷ xs) ys =
    ap (λ ns. cond (ends_block depth x.form) names ns) (assigned_across (with_assigned names (assigned_name x.form)) (depth_after depth x.form) first ps last xs ys)
