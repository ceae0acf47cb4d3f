-- The lines of a scene are those before its `order` block, the block, and those after it; or it has none.
use Rattle.std.proofs.Common.{◌≡◌, ◌⊎◌, inl, inr, ℕ, ◌+◌, Bool, true, false, not, List, [], ◌∷◌, ◌++◌, map, Some, None, refl, sym, ap, ◌∙◌, subst, append_assoc, arith}
use Rattle.std.specs.Prelude.{◌==◌}
use Rattle.std.specs.List.{list_all}
use Rattle.std.specs.Option.{is_none}
use Rattle.std.proofs.lemmas.Bool.{and_parts, eqb-true}
use Rattle.wdf_scene.specs.declared.block.Block.{Block}
use Rattle.wdf_scene.specs.declared.block.Block.TheVariants as block
use Rattle.wdf_scene.specs.declared.line.SceneLine.{SceneLine}
use Rattle.wdf_scene.specs.declared.line.SceneLine.TheVariants as line
use Rattle.wdf_scene.specs.declared.line.StatementHead.{StatementHead}
use Rattle.wdf_scene.specs.declared.line.StatementHead.TheVariants as head
use Rattle.wdf_scene.specs.Blocks.{Position, innermost, is_outside, may_stand, moved}
use Rattle.wdf_scene.specs.Written.{Written, Plain, Picked, Single, Calling, WrittenLine, head_line, is_plain_form, is_written, line_at, lines_at, root, written_size}
use Rattle.wdf_refusals.specs.Numbered.{Every}
use Rattle.wdf_refusals.proofs.Heads.{Ends, form_of, stood}
use Rattle.law_order.specs.Order.{PicksLine}
use Rattle.law_order.proofs.Bodies.{begins_order}

-- a line `order`
abbrev pub is_order_line : WrittenLine → Bool
is_order_line w = begins_order (line_at 0 w.written)

abbrev pub IsOtherLine : WrittenLine → Type 0
IsOtherLine w = is_order_line w ≡ false

-- the lines of an `order` block as they are written
abbrev pub picks_written : PicksLine → WrittenLine
picks_written p = record { number = p.number; written = Picked p.picks }

abbrev pub order_written : ℕ → List PicksLine → ℕ → List WrittenLine
order_written first ps last =
    record { number = first; written = Plain line.Order } ∷ (map picks_written ps ++ record { number = last; written = Plain line.End } ∷ [])

-- the one `order` block of some lines
pub record HasOrder (ws : List WrittenLine) : Type 0 where
  pub before : List WrittenLine
  pub first : ℕ
  pub picked : List PicksLine
  pub last : ℕ
  pub after : List WrittenLine
  pub is : ws ≡ before ++ (order_written first picked last ++ after)
  pub none_before : Every IsOtherLine before
  pub none_after : Every IsOtherLine after

-- ---- which line `order` is

head_other : (h : StatementHead) (e : ℕ) → begins_order (head_line h e) ≡ false
head_other (head.Let x) e = refl
head_other (head.Put r) e = refl
head_other head.If e = refl
head_other head.Repeat e = refl
head_other head.Spend e = refl
head_other head.Log e = refl
head_other head.Return e = refl

-- it is, wherever its expressions are numbered from
pub order_anywhere : (base : ℕ) (w : Written) → begins_order (line_at base w) ≡ begins_order (line_at 0 w)
order_anywhere base (Plain form) = refl
order_anywhere base (Picked ns) = refl
order_anywhere base (Single h t) = head_other h (root base t) ∙ sym (head_other h (root 0 t))
order_anywhere base (Calling kind into a b c) = refl

-- ---- in the block

-- after the three first lines and in an `order` block
abbrev in_it : ℕ → List Block → Bool → Bool → Bool → Position
in_it v bs d p o = record { version = v; headers = 3; blocks = block.Order ∷ bs; driver = d; pnp = p; order = o }

abbrev outside_it : ℕ → List Block → Bool → Bool → Bool → Position
outside_it v bs d p o = record { version = v; headers = 3; blocks = bs; driver = d; pnp = p; order = o }

-- the lines from one on that is in the block
record RestOf (base : ℕ) (out : Position) (ws : List WrittenLine) : Type 0 where
  picked : List PicksLine
  last : ℕ
  after : List WrittenLine
  is : ws ≡ map picks_written picked ++ (record { number = last; written = Plain line.End } ∷ after)
  ends : Ends out (map form_of (lines_at base after))

abbrev is_in_order : SceneLine → Bool
is_in_order line.End = true
is_in_order line.Picks = true
is_in_order _ = false

stands_in_order : (v : ℕ) (bs : List Block) (d p o : Bool) (form : SceneLine) → may_stand (in_it v bs d p o) form ≡ true → is_in_order form ≡ true
stands_in_order v bs d p o line.End h = refl
stands_in_order v bs d p o line.Picks h = refl
stands_in_order v bs d p o (line.Scope None) h = absurd (let z : ⊥ = cc in z)
stands_in_order v bs d p o (line.Scope (Some s)) h = absurd (let z : ⊥ = cc in z)
stands_in_order v bs d p o (line.Level None) h = absurd (let z : ⊥ = cc in z)
stands_in_order v bs d p o (line.Level (Some l)) h = absurd (let z : ⊥ = cc in z)
stands_in_order v bs d p o _ h = absurd (let z : ⊥ = cc in z)

head_not_in : (h : StatementHead) (e : ℕ) → is_in_order (head_line h e) ≡ false
head_not_in (head.Let x) e = refl
head_not_in (head.Put r) e = refl
head_not_in head.If e = refl
head_not_in head.Repeat e = refl
head_not_in head.Spend e = refl
head_not_in head.Log e = refl
head_not_in head.Return e = refl

not_both : (b : Bool) → b ≡ true → b ≡ false → ⊥
not_both b h e = let z : true ≡ false = sym h ∙ e in let y : ⊥ = cc in y

more_picks : (base : ℕ) (out : Position) (number : ℕ) (ns : List ℕ) (ws : List WrittenLine) → RestOf base out ws → RestOf base out (record { number = number; written = Picked ns } ∷ ws)
more_picks base out number ns ws r =
    record { picked = record { number = number; picks = ns } ∷ r.picked; last = r.last; after = r.after; is = ap (λ xs. record { number = number; written = Picked ns } ∷ xs) r.is; ends = r.ends }

same_base : (base : ℕ) (out : Position) (ws : List WrittenLine) → Ends out (map form_of (lines_at (base + 0) ws)) → Ends out (map form_of (lines_at base ws))
same_base base out ws h = let e : base + 0 ≡ base = omega arith in subst (λ b. Ends out (map form_of (lines_at b ws))) e h

is_the_end : (form : SceneLine) → is_in_order form ≡ true → is_plain_form form ≡ true → form ≡ line.End
is_the_end line.End h e = refl
is_the_end line.Picks h e = absurd (let z : ⊥ = cc in z)
is_the_end _ h e = absurd (let z : ⊥ = cc in z)

by_written : (base v : ℕ) (bs : List Block) (d p o : Bool) (number : ℕ) (w : Written) (ws : List WrittenLine) → is_written w ≡ true
    → may_stand (in_it v bs d p o) (line_at base w) ≡ true → Ends (moved (in_it v bs d p o) (line_at base w)) (map form_of (lines_at (base + written_size w) ws))
    → (Ends (in_it v bs d p o) (map form_of (lines_at (base + 0) ws)) → RestOf base (outside_it v bs d p o) ws)
    → RestOf base (outside_it v bs d p o) (record { number = number; written = w } ∷ ws)
by_written base v bs d p o number (Plain form) ws good may ends on =
    let e : form ≡ line.End = is_the_end form (stands_in_order v bs d p o form may) good in
    let out : Ends (moved (in_it v bs d p o) line.End) (map form_of (lines_at (base + 0) ws)) = subst (λ f. Ends (moved (in_it v bs d p o) f) (map form_of (lines_at (base + 0) ws))) e ends in
    record { picked = []; last = number; after = ws; is = ap (λ f. record { number = number; written = Plain f } ∷ ws) e; ends = same_base base (outside_it v bs d p o) ws out }
by_written base v bs d p o number (Picked ns) ws good may ends on = more_picks base (outside_it v bs d p o) number ns ws (on ends)
by_written base v bs d p o number (Single h t) ws good may ends on = absurd (not_both (is_in_order (head_line h (root base t))) (stands_in_order v bs d p o (head_line h (root base t)) may) (head_not_in h (root base t)))
by_written base v bs d p o number (Calling kind into a b c) ws good may ends on = absurd (let z : ⊥ = cc in z)

rest_of : (base v : ℕ) (bs : List Block) (d p o : Bool) (ws : List WrittenLine) → list_all (λ w. is_written w.written) ws ≡ true → Ends (in_it v bs d p o) (map form_of (lines_at base ws)) → RestOf base (outside_it v bs d p o) ws
rest_of base v bs d p o [] good ends = absurd (let e : false ≡ true = ends in let z : ⊥ = cc in z)
rest_of base v bs d p o (w ∷ ws) good ends =
    let parts = and_parts (is_written w.written) (list_all (λ x. is_written x.written) ws) good in
    let form = line_at base w.written in
    let st = stood (in_it v bs d p o) form (map form_of (lines_at (base + written_size w.written) ws)) (may_stand (in_it v bs d p o) form) refl ends in
    by_written base v bs d p o w.number w.written ws parts.0 st.0 st.1 (λ e. rest_of base v bs d p o ws parts.1 (same_base base (in_it v bs d p o) ws e))

-- ---- after the block

-- a line that may come there isn't `order`, where there was one
no_second : (q : Position) (form : SceneLine) → q.order ≡ true → may_stand q form ≡ true → begins_order form ≡ false
no_second q line.Order seen may =
    let parts = and_parts (is_outside q) (not q.order) may in
    let z : not true ≡ true = subst (λ b. not b ≡ true) seen parts.1 in
    absurd (let y : ⊥ = cc in y)
no_second q _ seen may = refl

still_seen : (q : Position) (form : SceneLine) → q.order ≡ true → (moved q form).order ≡ true
still_seen q (line.Cpus n) seen = seen
still_seen q (line.Limit n) seen = seen
still_seen q (line.Objects n) seen = seen
still_seen q line.Driver seen = seen
still_seen q line.Pnp seen = seen
still_seen q line.Order seen = refl
still_seen q _ seen = seen

none_later : (q : Position) (base : ℕ) (ws : List WrittenLine) → q.order ≡ true → Ends q (map form_of (lines_at base ws)) → Every IsOtherLine ws
none_later q base [] seen ends = tt
none_later q base (w ∷ ws) seen ends =
    let form = line_at base w.written in
    let st = stood q form (map form_of (lines_at (base + written_size w.written) ws)) (may_stand q form) refl ends in
    (sym (order_anywhere base w.written) ∙ no_second q form seen st.0, none_later (moved q form) (base + written_size w.written) ws (still_seen q form seen) st.1)

-- ---- all lines

is_the_order : (base : ℕ) (w : Written) → is_written w ≡ true → begins_order (line_at base w) ≡ true → w ≡ Plain line.Order
is_the_order base (Plain form) good h = ap Plain (only_order form h)
  where
    only_order : (form : SceneLine) → begins_order form ≡ true → form ≡ line.Order
    only_order line.Order h = refl
    only_order _ h = absurd (let z : ⊥ = cc in z)
is_the_order base (Picked ns) good h = absurd (let z : ⊥ = cc in z)
is_the_order base (Single k t) good h = absurd (not_both (begins_order (head_line k (root base t))) h (head_other k (root base t)))
is_the_order base (Calling kind into a b c) good h = absurd (let z : ⊥ = cc in z)

one_more : (w : WrittenLine) (ws : List WrittenLine) → is_order_line w ≡ false → (Every IsOtherLine ws ⊎ HasOrder ws) → (Every IsOtherLine (w ∷ ws) ⊎ HasOrder (w ∷ ws))
one_more w ws other (inl h) = inl (other, h)
one_more w ws other (inr h) =
    inr (record { before = w ∷ h.before; first = h.first; picked = h.picked; last = h.last; after = h.after; is = ap (λ xs. w ∷ xs) h.is; none_before = (other, h.none_before); none_after = h.none_after })

-- here the block begins
here : (q : Position) (base number : ℕ) (ws : List WrittenLine) → list_all (λ w. is_written w.written) ws ≡ true → may_stand q line.Order ≡ true → Ends (moved q line.Order) (map form_of (lines_at base ws)) → HasOrder (record { number = number; written = Plain line.Order } ∷ ws)
here q base number ws good may ends =
    let outer = (and_parts (is_outside q) (not q.order) may).0 in
    let seen : q.headers ≡ 3 = eqb-true q.headers 3 (and_parts (q.headers == 3) (is_none (innermost q.blocks)) outer).0 in
    let there : Ends (in_it q.version q.blocks q.driver q.pnp true) (map form_of (lines_at base ws)) =
    subst (λ n. Ends (record { version = q.version; headers = n; blocks = block.Order ∷ q.blocks; driver = q.driver; pnp = q.pnp; order = true }) (map form_of (lines_at base ws))) seen ends in
    let r = rest_of base q.version q.blocks q.driver q.pnp true ws good there in
    record {
      before = [];
      first = number;
      picked = r.picked;
      last = r.last;
      after = r.after;
      is = ap (λ xs. record { number = number; written = Plain line.Order } ∷ xs) (r.is ∙ sym (append_assoc (map picks_written r.picked) (record { number = r.last; written = Plain line.End } ∷ []) r.after));
      none_before = tt;
      none_after = none_later (outside_it q.version q.blocks q.driver q.pnp true) base r.after refl r.ends;
    }

by_line : (q : Position) (base : ℕ) (w : WrittenLine) (ws : List WrittenLine) (b : Bool) → is_written w.written ≡ true → list_all (λ x. is_written x.written) ws ≡ true → begins_order (line_at base w.written) ≡ b
    → may_stand q (line_at base w.written) ≡ true → Ends (moved q (line_at base w.written)) (map form_of (lines_at (base + written_size w.written) ws))
    → (Every IsOtherLine ws ⊎ HasOrder ws) → Every IsOtherLine (w ∷ ws) ⊎ HasOrder (w ∷ ws)
by_line q base w ws false good goods other may ends rest = one_more w ws (sym (order_anywhere base w.written) ∙ other) rest
by_line q base w ws true good goods is may ends rest =
    let e : w.written ≡ Plain line.Order = is_the_order base w.written good is in
    let stands : may_stand q line.Order ≡ true = subst (λ x. may_stand q (line_at base x) ≡ true) e may in
    let further : Ends (moved q line.Order) (map form_of (lines_at (base + 0) ws)) = subst (λ x. Ends (moved q (line_at base x)) (map form_of (lines_at (base + written_size x) ws))) e ends in
    inr (subst (λ (x : Written). HasOrder (record { number = w.number; written = x } ∷ ws)) (sym e) (here q (base + 0) w.number ws goods stands further))

pub split : (q : Position) (base : ℕ) (ws : List WrittenLine) → list_all (λ w. is_written w.written) ws ≡ true → Ends q (map form_of (lines_at base ws)) → Every IsOtherLine ws ⊎ HasOrder ws
split q base [] good ends = inl tt
split q base (w ∷ ws) good ends =
    let parts = and_parts (is_written w.written) (list_all (λ x. is_written x.written) ws) good in
    let form = line_at base w.written in
    let st = stood q form (map form_of (lines_at (base + written_size w.written) ws)) (may_stand q form) refl ends in
    by_line q base w ws (begins_order form) parts.0 parts.1 refl st.0 st.1 (split (moved q form) (base + written_size w.written) ws parts.1 st.1)
