-- The statements of a callback are the same without an `order` block, which isn't in it.
use Rattle.std.proofs.Common.{◌≡◌, ℕ, Bool, true, false, List, [], ◌∷◌, ◌++◌, refl, sym, ap, ◌∙◌, append_assoc}
use Rattle.wdf_scene.specs.declared.line.NumberedLine.{NumberedLine}
use Rattle.wdf_scene.specs.declared.line.SceneLine.{SceneLine}
use Rattle.wdf_scene.specs.declared.line.SceneLine.TheVariants as line
use Rattle.wdf_blocks.specs.declared.declaration.Declaration.{Declaration}
use Rattle.wdf_blocks.specs.Forms.{is_end, is_statement, opens}
use Rattle.wdf_refusals.specs.Numbered.{Every}
use Rattle.wdf_refusals.proofs.Every.{every_append}
use Rattle.wdf_plan.specs.Flow.{Body, Empty, If, IfElse, Plain, Repeat, flow, is_plain, lines_of, numbered, size}
use Rattle.wdf_plan.specs.Scripts.{statements_from}
use Rattle.wdf_plan.proofs.Flows.{statements_flow}

-- the first line of an `order` block
abbrev pub begins_order : SceneLine → Bool
begins_order line.Order = true
begins_order _ = false

abbrev pub IsOther : NumberedLine → Type 0
IsOther l = begins_order l.form ≡ false

plain_other : (f : SceneLine) → is_plain f ≡ true → begins_order f ≡ false
unfolding is_statement opens
plain_other line.Order h = absurd (let z : ⊥ = cc in z)
plain_other _ h = refl

body_other : (body : Body) → Every IsOther (lines_of body)
unfolding lines_of
body_other Empty = tt
body_other (Plain l is rest) = (plain_other l.form is, body_other rest)
body_other (If h branch closing rest) = (refl, every_append IsOther (lines_of branch) (numbered closing line.End ∷ lines_of rest) (body_other branch) (refl, body_other rest))
body_other (IfElse h first middle second closing rest) = (
  refl,
  every_append IsOther (lines_of first) (numbered middle line.Else ∷ (lines_of second ++ numbered closing line.End ∷ lines_of rest)) (body_other first)
      (refl, every_append IsOther (lines_of second) (numbered closing line.End ∷ lines_of rest) (body_other second) (refl, body_other rest)),
)
body_other (Repeat h body closing rest) = (refl, every_append IsOther (lines_of body) (numbered closing line.End ∷ lines_of rest) (body_other body) (refl, body_other rest))

-- a list begins with these lines
record BeginsWith (xs ls : List NumberedLine) : Type 0 where
  rest : List NumberedLine
  is : ls ≡ xs ++ rest

-- lines none of which begins an `order` block come before it
comes_first : (xs front rest after : List NumberedLine) (o : NumberedLine) → begins_order o.form ≡ true → Every IsOther xs → front ++ o ∷ rest ≡ xs ++ after → BeginsWith xs front
comes_first [] front rest after o begins h e = record { rest = front; is = refl }
comes_first (x ∷ xs) [] rest after o begins h e =
    let same : o ≡ x = cc in
    let other : begins_order o.form ≡ false = ap (λ (l : NumberedLine). begins_order l.form) same ∙ h.0 in
    absurd (let z : true ≡ false = sym begins ∙ other in let y : ⊥ = cc in y)
comes_first (x ∷ xs) (y ∷ front) rest after o begins h e =
    let same : y ≡ x = cc in
    let behind : front ++ o ∷ rest ≡ xs ++ after = cc in
    let b = comes_first xs front rest after o begins h.1 behind in
    record { rest = b.rest; is = ap (λ l. l ∷ front) same ∙ ap (λ ls. x ∷ ls) b.is }

module _ (names : List Declaration) (vs : List (List ℕ)) (body : Body) (closing : ℕ) where
  with_more : (mid more : List NumberedLine) → statements_from names vs [] 0 (((lines_of body ++ numbered closing line.End ∷ []) ++ mid) ++ more) ≡ flow names vs 0 0 (size body) body
  unfolding is_end
  with_more mid more =
      ap (statements_from names vs [] 0) (append_assoc (lines_of body ++ numbered closing line.End ∷ []) mid more ∙ append_assoc (lines_of body) (numbered closing line.End ∷ []) (mid ++ more))
      ∙ statements_flow names vs body (numbered closing line.End) (mid ++ more) refl

  -- the callback ends before the block
  pub across : (front after rest : List NumberedLine) (o : NumberedLine) (others : List NumberedLine) → begins_order o.form ≡ true → front ++ o ∷ rest ≡ lines_of body ++ numbered closing line.End ∷ after
      → statements_from names vs [] 0 (front ++ o ∷ rest) ≡ statements_from names vs [] 0 (front ++ others)
  across front after rest o others begins e =
      let xs = lines_of body ++ numbered closing line.End ∷ [] in
      let whole : front ++ o ∷ rest ≡ xs ++ after = e ∙ sym (append_assoc (lines_of body) (numbered closing line.End ∷ []) after) in
      let b = comes_first xs front rest after o begins (every_append IsOther (lines_of body) (numbered closing line.End ∷ []) (body_other body) (refl, tt)) whole in
      ap (λ ls. statements_from names vs [] 0 (ls ++ o ∷ rest)) b.is ∙ with_more b.rest (o ∷ rest)
      ∙ sym (ap (λ ls. statements_from names vs [] 0 (ls ++ others)) b.is ∙ with_more b.rest others)
