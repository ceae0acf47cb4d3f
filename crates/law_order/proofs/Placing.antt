-- The lines of a scene with an `order` block are those of the scene without it, at their new places, and the block's.
use Rattle.std.proofs.Common.{◌≡◌, ℕ, zero, suc, ◌+◌, ◌==◌, Bool, true, false, cond, List, [], ◌∷◌, ◌++◌, map, length, Option, Some, None, option_map, refl, sym, ap, ◌∙◌, arith}
use Rattle.wdf_base.specs.Same.{same_option}
use Rattle.wdf_scene.specs.declared.line.NumberedLine.{NumberedLine}
use Rattle.wdf_scene.specs.declared.line.SceneLine.{SceneLine}
use Rattle.wdf_scene.specs.declared.line.SceneLine.TheVariants as line
use Rattle.wdf_blocks.specs.declared.placed.Counts.{Counts}
use Rattle.wdf_blocks.specs.declared.placed.Stand.{Stand}
use Rattle.wdf_blocks.specs.Forms.{is_app, is_class, is_device, is_object, is_post, is_register, is_statement, nodes_end}
use Rattle.wdf_blocks.specs.Placed.{closed_block, closed_in_callback, counted, opened_by, outside, placed_from, placed_line}
use Rattle.wdf_refusals.specs.Numbered.{Every}
use Rattle.law_order.specs.Order.{PicksLine, order_block, picks_line}
use Rattle.law_order.proofs.Moves.{more, moved_placed, moved_stand}
use Rattle.law_order.proofs.Refusals.{is_of_order}
use Rattle.law_order.proofs.Scans.{place_after}
use Rattle.law_order.proofs.Shift.{further, further_is, shifted}

-- ---- after some lines

abbrev pub stand_after : ℕ → Stand → List NumberedLine → Stand
stand_after k o [] = o
stand_after k o (l ∷ ls) = stand_after (suc k) (opened_by o k l.form) ls

abbrev pub counts_after : Counts → List NumberedLine → Counts
counts_after c [] = c
counts_after c (l ∷ ls) = counts_after (counted c l.form (length l.picks)) ls

pub placed_both : (k : ℕ) (o : Stand) (c : Counts) (xs ys : List NumberedLine) → placed_from k o c (xs ++ ys) ≡ placed_from k o c xs ++ placed_from (place_after k xs) (stand_after k o xs) (counts_after c xs) ys
unfolding placed_from
placed_both k o c [] ys = refl
placed_both k o c (x ∷ xs) ys = ap (λ ps. placed_line k o c x ∷ ps) (placed_both (suc k) (opened_by o k x.form) (counted c x.form (length x.picks)) xs ys)

-- ---- more picks before

counted_more : (n : ℕ) (c : Counts) (form : SceneLine) (picks : ℕ) → counted (more n c) form picks ≡ more n (counted c form picks)
unfolding counted
counted_more n c form picks =
    let sum : c.picks + n + picks ≡ c.picks + picks + n = omega arith in
    ap (λ s. record (counted c form picks) { picks = s }) sum

-- ---- lines at other places

-- the lines from one on have these places in a row
abbrev pub Follows : (ℕ → ℕ) → ℕ → ℕ → List NumberedLine → Type 0
Follows to k j [] = Unit {0}
Follows to k j (l ∷ ls) = (to k ≡ j) × Follows to (suc k) (suc j) ls

module _ (to : ℕ → ℕ) (same : (a b : Option ℕ) → same_option ◌==◌ (option_map to a) (option_map to b) ≡ same_option ◌==◌ a b) where
  block_by : (o : Stand) (b : Bool) → cond b outside (record (moved_stand to o) { block = option_map to o.device }) ≡ moved_stand to (cond b outside (record o { block = o.device }))
  block_by o true = refl
  block_by o false = refl

  block_moved : (o : Stand) → closed_block (moved_stand to o) ≡ moved_stand to (closed_block o)
  block_moved o =
      ap (λ b. cond b outside (record (moved_stand to o) { block = option_map to o.device })) (same o.block o.device) ∙ block_by o (same_option ◌==◌ o.block o.device)

  callback_by : (o : Stand) (b : Bool) → cond b (record (moved_stand to o) { callback = None }) (record (moved_stand to o) { nested = (closed_in_callback o).nested }) ≡ moved_stand to (cond b (record o { callback = None }) (record o { nested = (closed_in_callback o).nested }))
  callback_by o true = refl
  callback_by o false = refl

  in_callback_moved : (o : Stand) → closed_in_callback (moved_stand to o) ≡ moved_stand to (closed_in_callback o)
  in_callback_moved o = by_test (o.nested == 0) refl
    where
      by_test : (b : Bool) → (o.nested == 0) ≡ b → closed_in_callback (moved_stand to o) ≡ moved_stand to (closed_in_callback o)
      by_test true e = rw e refl
      by_test false e = rw e refl

  closed_by : (o : Stand) (c : Option ℕ) → (elim (option_map to c) as (λ _. Stand) [ None ↦ closed_block (moved_stand to o) | Some k ↦ closed_in_callback (moved_stand to o) ]) ≡ moved_stand to (elim c as (λ _. Stand) [ None ↦ closed_block o | Some k ↦ closed_in_callback o ])
  closed_by o None = block_moved o
  closed_by o (Some k) = in_callback_moved o

  opened_moved : (o : Stand) (k : ℕ) (form : SceneLine) → opened_by (moved_stand to o) (to k) form ≡ moved_stand to (opened_by o k form)
  unfolding opened_by
  opened_moved o k line.Driver = refl
  opened_moved o k (line.Class n c) = refl
  opened_moved o k (line.DeferredClass n c parent) = refl
  opened_moved o k (line.App n) = refl
  opened_moved o k line.Pnp = refl
  opened_moved o k line.Order = refl
  opened_moved o k (line.Interrupt n level) = refl
  opened_moved o k (line.Queue n dispatch) = refl
  opened_moved o k (line.Target n delay status depth) = refl
  opened_moved o k (line.Device n working) = refl
  opened_moved o k (line.On callback) = refl
  opened_moved o k (line.If e) = refl
  opened_moved o k (line.Repeat e) = refl
  opened_moved o k line.End = closed_by o o.callback
  opened_moved o k _ = refl

  pub placed_moved : (n k j : ℕ) (o : Stand) (c : Counts) (ls : List NumberedLine) → Follows to k j ls → placed_from j (moved_stand to o) (more n c) ls ≡ map (moved_placed to n) (placed_from k o c ls)
  unfolding placed_from
  placed_moved n k j o c [] h = refl
  placed_moved n k j o c (l ∷ ls) h =
      ap (λ i. placed_line i (moved_stand to o) (more n c) l ∷ placed_from (suc j) (opened_by (moved_stand to o) j l.form) (counted (more n c) l.form (length l.picks)) ls) (sym h.0)
      ∙ ap (λ ps. moved_placed to n (placed_line k o c l) ∷ ps)
      (ap (λ i. placed_from (suc j) (opened_by (moved_stand to o) i l.form) (counted (more n c) l.form (length l.picks)) ls) (sym h.0)
      ∙ ap (λ s. placed_from (suc j) s (counted (more n c) l.form (length l.picks)) ls) (opened_moved o k l.form)
      ∙ ap (λ d. placed_from (suc j) (moved_stand to (opened_by o k l.form)) d ls) (counted_more n c l.form (length l.picks))
      ∙ placed_moved n (suc k) (suc j) (opened_by o k l.form) (counted c l.form (length l.picks)) ls h.1)

-- ---- the places of the lines before a block and after it

module _ (to : ℕ → ℕ) where
  stays_from : (k c g : ℕ) (ls : List NumberedLine) → ((i : ℕ) → to (k + i) ≡ k + shifted c g i) → c ≡ length ls → Follows to k k ls
  stays_from k c g [] h e = tt
  stays_from k zero g (l ∷ ls) h e = absurd (omega (arith, e))
  stays_from k (suc c) g (l ∷ ls) h e =
      let here : k + 0 ≡ k = omega arith in
      let first : to (k + 0) ≡ k + shifted (suc c) g 0 = h 0 in (
        sym (ap to here) ∙ first ∙ here,
        stays_from (suc k) c g ls
            (λ i. let next : suc k + i ≡ k + suc i = omega arith in let step : to (k + suc i) ≡ k + suc (shifted c g i) = h (suc i) in let last : k + suc (shifted c g i) ≡ suc k + shifted c g i = omega arith in ap to next ∙ step ∙ last)
            (omega (arith, e)),
      )

  goes_from : (k j : ℕ) (ls : List NumberedLine) → ((i : ℕ) → to (k + i) ≡ j + i) → Follows to k j ls
  goes_from k j [] h = tt
  goes_from k j (l ∷ ls) h =
      let here : k + 0 ≡ k = omega arith in
      let there : j + 0 ≡ j = omega arith in (
        sym (ap to here) ∙ h 0 ∙ there,
        goes_from (suc k) (suc j) ls (λ i. let next : suc k + i ≡ k + suc i = omega arith in let last : j + suc i ≡ suc j + i = omega arith in ap to next ∙ h (suc i) ∙ last),
      )

pub stays_before : (g : ℕ) (ls : List NumberedLine) → Follows (shifted (length ls) g) 0 0 ls
stays_before g ls = stays_from (shifted (length ls) g) 0 (length ls) g ls (λ i. let none' : 0 + i ≡ i = omega arith in let also : shifted (length ls) g i ≡ 0 + shifted (length ls) g i = omega arith in ap (shifted (length ls) g) none' ∙ also) refl

shifted_past : (c g i : ℕ) → shifted c g (c + i) ≡ c + i + g
shifted_past zero g i = let none' : 0 + i ≡ i = omega arith in ap (further g) none' ∙ further_is g i ∙ omega arith
shifted_past (suc c) g i = let next : suc c + i ≡ suc (c + i) = omega arith in let rest = shifted_past c g i in ap (shifted (suc c) g) next ∙ omega (arith, rest)

pub goes_after : (c g k j : ℕ) (ls : List NumberedLine) → k ≡ c → j ≡ c + g → Follows (shifted c g) k j ls
goes_after c g k j ls e f =
    goes_from (shifted c g) k j ls (λ i. let past = shifted_past c g i in let here : k + i ≡ c + i = omega (arith, e) in ap (shifted c g) here ∙ past ∙ omega (arith, f))

-- ---- the block

opened_order : (k : ℕ) → opened_by outside k line.Order ≡ record outside { block = Some k }
unfolding opened_by
opened_order k = refl

opened_picks : (o : Stand) (k : ℕ) → opened_by o k line.Picks ≡ o
unfolding opened_by
opened_picks o k = refl

closed_order : (b k : ℕ) → opened_by (record outside { block = Some b }) k line.End ≡ outside
unfolding opened_by
closed_order b k = refl

pub picks_stand : (b k : ℕ) (ps : List PicksLine) (last : ℕ) → stand_after k (record outside { block = Some b }) (map picks_line ps ++ record { number = last; form = line.End; picks = [] } ∷ []) ≡ outside
picks_stand b k [] last = closed_order b k
picks_stand b k (p ∷ ps) last =
    ap (λ o. stand_after (suc k) o (map picks_line ps ++ record { number = last; form = line.End; picks = [] } ∷ [])) (opened_picks (record outside { block = Some b }) k) ∙ picks_stand b (suc k) ps last

-- after it no block is open
pub block_stand : (k first : ℕ) (ps : List PicksLine) (last : ℕ) → stand_after k outside (order_block first ps last) ≡ outside
block_stand k first ps last =
    ap (λ o. stand_after (suc k) o (map picks_line ps ++ record { number = last; form = line.End; picks = [] } ∷ [])) (opened_order k) ∙ picks_stand k (suc k) ps last

counted_none : (c : Counts) (form : SceneLine) (n : ℕ) → is_of_order form ≡ true → counted c form n ≡ more n c
unfolding counted nodes_end is_device is_object is_app is_register is_class is_statement is_post
counted_none c line.Order n h = refl
counted_none c line.Picks n h = refl
counted_none c line.End n h = refl
counted_none c _ n h = absurd (let z : ⊥ = cc in z)

-- how many picks the lines of a block have
abbrev pub picks_in : List PicksLine → ℕ
picks_in [] = 0
picks_in (p ∷ ps) = length p.picks + picks_in ps

picks_counts : (c : Counts) (ps : List PicksLine) (last : ℕ) → counts_after c (map picks_line ps ++ record { number = last; form = line.End; picks = [] } ∷ []) ≡ more (picks_in ps) c
picks_counts c [] last = counted_none c line.End 0 refl
picks_counts c (p ∷ ps) last =
    let sum : c.picks + length p.picks + picks_in ps ≡ c.picks + (length p.picks + picks_in ps) = omega arith in
    ap (λ d. counts_after d (map picks_line ps ++ record { number = last; form = line.End; picks = [] } ∷ [])) (counted_none c line.Picks (length p.picks) refl)
    ∙ picks_counts (more (length p.picks) c) ps last ∙ ap (λ s. record c { picks = s }) sum

pub block_counts : (c : Counts) (first : ℕ) (ps : List PicksLine) (last : ℕ) → counts_after c (order_block first ps last) ≡ more (picks_in ps) c
block_counts c first ps last =
    let sum : c.picks + 0 ≡ c.picks = omega arith in
    ap (λ d. counts_after d (map picks_line ps ++ record { number = last; form = line.End; picks = [] } ∷ [])) (counted_none c line.Order 0 refl ∙ ap (λ s. record c { picks = s }) sum)
    ∙ picks_counts c ps last

picks_of_order : (k : ℕ) (o : Stand) (c : Counts) (ps : List PicksLine) (last : ℕ) → Every (λ p. is_of_order p.form ≡ true) (placed_from k o c (map picks_line ps ++ record { number = last; form = line.End; picks = [] } ∷ []))
unfolding placed_from
picks_of_order k o c [] last = (refl, tt)
picks_of_order k o c (p ∷ ps) last = (refl, picks_of_order (suc k) (opened_by o k line.Picks) (counted c line.Picks (length p.picks)) ps last)

pub block_of_order : (k : ℕ) (o : Stand) (c : Counts) (first : ℕ) (ps : List PicksLine) (last : ℕ) → Every (λ p. is_of_order p.form ≡ true) (placed_from k o c (order_block first ps last))
unfolding placed_from
block_of_order k o c first ps last = (refl, picks_of_order (suc k) (opened_by o k line.Order) (counted c line.Order 0) ps last)
