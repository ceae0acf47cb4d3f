-- What is known in a block: which lines give attributes there, which block a stand gives, and what opens and ends in it.
use Rattle.std.proofs.Common.{◌≡◌, ℕ, ◌<◌, Bool, true, false, List, [], ◌∷◌, ◌++◌, map, length, Option, Some, None, refl, ap, sym, ◌∙◌, arith}
use Rattle.std.specs.Option.{is_some}
use Rattle.wdf_scene.specs.declared.block.Block.{Block}
use Rattle.wdf_scene.specs.declared.block.Block.TheVariants as block
use Rattle.wdf_scene.specs.declared.line.SceneLine.{SceneLine}
use Rattle.wdf_scene.specs.declared.line.SceneLine.TheVariants as line
use Rattle.wdf_scene.specs.Blocks.{Position, innermost, in_heir, in_scoped, in_class, in_queue, in_callback, may_stand, opened}
use Rattle.wdf_blocks.specs.declared.attribute.Attribute.{Attribute}
use Rattle.wdf_blocks.specs.declared.attribute.Attribute.TheVariants as attribute
use Rattle.wdf_blocks.specs.Attribute.{gives, gives_form, gives_callback, attribute_of}
use Rattle.wdf_blocks.specs.Blocks.{depth_after, ends_block}
use Rattle.wdf_blocks.specs.Forms.{opens, is_end}
use Rattle.wdf_refusals.proofs.Every.{Every}
use Rattle.wdf_plan.proofs.Stacks.{Opener, block_of, pushed, stand_of, with_block, stack_after, AreFitting, in_a_callback, owner_quiet}

-- ---- only attributes are given, and none inside a callback

heir_quiet : (b : Option Block) → in_heir b ≡ true → in_callback b ≡ false
heir_quiet (Some block.Device) e = refl
heir_quiet (Some block.Queue) e = refl
heir_quiet _ e = absurd (let z : ⊥ = cc in z)

scoped_quiet : (b : Option Block) → in_scoped b ≡ true → in_callback b ≡ false
scoped_quiet (Some block.Driver) e = refl
scoped_quiet b e = heir_quiet b e

class_quiet : (b : Option Block) → in_class b ≡ true → in_callback b ≡ false
class_quiet (Some block.Class) e = refl
class_quiet _ e = absurd (let z : ⊥ = cc in z)

queue_quiet : (b : Option Block) → in_queue b ≡ true → in_callback b ≡ false
queue_quiet (Some block.Queue) e = refl
queue_quiet _ e = absurd (let z : ⊥ = cc in z)

-- the line gives an attribute
pub gives_some : (a : Attribute) (form : SceneLine) → gives a form ≡ true → is_some (attribute_of form) ≡ true
unfolding gives gives_form gives_callback attribute_of
gives_some attribute.Scope (line.Scope s) e = refl
gives_some attribute.Scope _ e = absurd (let z : ⊥ = cc in z)
gives_some attribute.Level (line.Level l) e = refl
gives_some attribute.Level _ e = absurd (let z : ⊥ = cc in z)
gives_some attribute.Serialize line.Serialize e = refl
gives_some attribute.Serialize _ e = absurd (let z : ⊥ = cc in z)
gives_some attribute.Period (line.Period n) e = refl
gives_some attribute.Period _ e = absurd (let z : ⊥ = cc in z)
gives_some attribute.PowerOff line.PowerOff e = refl
gives_some attribute.PowerOff _ e = absurd (let z : ⊥ = cc in z)
gives_some attribute.Zero line.Zero e = refl
gives_some attribute.Zero _ e = absurd (let z : ⊥ = cc in z)
gives_some attribute.Default line.Default e = refl
gives_some attribute.Default _ e = absurd (let z : ⊥ = cc in z)
gives_some (attribute.For own) (line.For f) e = refl
gives_some (attribute.For own) _ e = absurd (let z : ⊥ = cc in z)
gives_some (attribute.On own) (line.On c) e = refl
gives_some (attribute.On own) _ e = absurd (let z : ⊥ = cc in z)

-- such a line is in no callback
pub attribute_quiet : (q : Position) (form : SceneLine) → is_some (attribute_of form) ≡ true → may_stand q form ≡ true → in_callback (innermost q.blocks) ≡ false
unfolding attribute_of
attribute_quiet q (line.Scope None) e m = heir_quiet (innermost q.blocks) m
attribute_quiet q (line.Scope (Some s)) e m = scoped_quiet (innermost q.blocks) m
attribute_quiet q (line.Level None) e m = heir_quiet (innermost q.blocks) m
attribute_quiet q (line.Level (Some l)) e m = scoped_quiet (innermost q.blocks) m
attribute_quiet q line.Serialize e m = class_quiet (innermost q.blocks) m
attribute_quiet q (line.Period n) e m = class_quiet (innermost q.blocks) m
attribute_quiet q line.PowerOff e m = queue_quiet (innermost q.blocks) m
attribute_quiet q line.Zero e m = queue_quiet (innermost q.blocks) m
attribute_quiet q line.Default e m = queue_quiet (innermost q.blocks) m
attribute_quiet q (line.For f) e m = queue_quiet (innermost q.blocks) m
attribute_quiet q (line.On c) e m = owner_quiet (innermost q.blocks) m
attribute_quiet q _ e m = absurd (let z : ⊥ = cc in z)

-- ---- the block that a stand gives

-- outside callbacks it is the innermost open one
pub block_told : (x : Opener) (xs : List Opener) → in_callback (Some x.block) ≡ false → (stand_of (x ∷ xs)).block ≡ Some x.line
block_told x xs e = by_block x.block x.line xs e
  where
    by_block : (b : Block) (l : ℕ) (ys : List Opener) → in_callback (Some b) ≡ false → (pushed b l (stand_of ys)).block ≡ Some l
    by_block block.Driver l ys e = refl
    by_block block.Class l ys e = refl
    by_block block.Device l ys e = refl
    by_block block.Interrupt l ys e = refl
    by_block block.Queue l ys e = refl
    by_block block.Target l ys e = refl
    by_block block.App l ys e = refl
    by_block block.Pnp l ys e = refl
    by_block block.Order l ys e = refl
    by_block _ l ys e = absurd (let z : ⊥ = cc in z)

-- and in no callback the innermost open block is none of a callback's
pub no_callback_open : (xs : List Opener) → AreFitting xs → (stand_of xs).callback ≡ None → in_callback (innermost (map block_of xs)) ≡ false
no_callback_open xs f e = by_test (in_callback (innermost (map block_of xs))) refl
  where
    by_test : (t : Bool) → in_callback (innermost (map block_of xs)) ≡ t → in_callback (innermost (map block_of xs)) ≡ false
    by_test false h = h
    by_test true h = let i = in_a_callback xs f h in let w : None ≡ Some i.line = sym e ∙ i.is in absurd (let z : ⊥ = cc in z)

-- ---- the open blocks inside a block

-- after a line inside block x, or in it, that doesn't end it
pub record IsSplit (inner : List Opener) (x : Opener) (outer : List Opener) (k : ℕ) (form : SceneLine) : Type 0 where
  pub within : List Opener
  pub own : Opener
  pub is : stack_after (inner ++ x ∷ outer) k form ≡ within ++ own ∷ outer
  pub depth : depth_after (length inner) form ≡ length within
  pub line : own.line ≡ x.line
  pub later : Every (λ y. x.line < y.line) inner → x.line < k → Every (λ y. x.line < y.line) within

end_split : (inner : List Opener) (x : Opener) (outer : List Opener) (k : ℕ) → ends_block (length inner) line.End ≡ false → IsSplit inner x outer k line.End
unfolding is_end opens
end_split [] x outer k e = absurd (let z : ⊥ = cc in z)
end_split (y ∷ ys) x outer k e =
    record { within = ys; own = x; is = refl; depth = omega arith; line = refl; later = λ h b. h.1 }

else_split : (inner : List Opener) (x : Opener) (outer : List Opener) (k : ℕ) → IsSplit inner x outer k line.Else
unfolding is_end opens
else_split [] x outer k =
    record { within = []; own = record x { block = block.Else }; is = refl; depth = refl; line = refl; later = λ h b. h }
else_split (y ∷ ys) x outer k =
    record { within = record y { block = block.Else } ∷ ys; own = x; is = refl; depth = refl; line = refl; later = λ h b. h }

other_split : (inner : List Opener) (x : Opener) (outer : List Opener) (k : ℕ) (form : SceneLine) (t : Option Block) → opened form ≡ t → is_end form ≡ false → stack_after (inner ++ x ∷ outer) k form ≡ with_block (inner ++ x ∷ outer) k t → IsSplit inner x outer k form
unfolding opens
other_split inner x outer k form None o e is =
    record { within = inner; own = x; is = is; depth = rw (o, e) refl; line = refl; later = λ h b. h }
other_split inner x outer k form (Some c) o e is =
    record { within = record { block = c; line = k } ∷ inner; own = x; is = is; depth = rw o refl; line = refl; later = λ h b. (b, h) }

-- what is open after a line
pub split : (inner : List Opener) (x : Opener) (outer : List Opener) (k : ℕ) (form : SceneLine) → ends_block (length inner) form ≡ false → IsSplit inner x outer k form
unfolding is_end
split inner x outer k line.End e = end_split inner x outer k e
split inner x outer k line.Else e = else_split inner x outer k
split inner x outer k form e = other_split inner x outer k form (opened form) refl refl refl

-- after the line that opened the block
pub after_opener : (stack : List Opener) (k : ℕ) (form : SceneLine) (b : Block) → opened form ≡ Some b → stack_after stack k form ≡ record { block = b; line = k } ∷ stack
after_opener stack k line.End b e = absurd (let z : ⊥ = cc in z)
after_opener stack k line.Else b e = absurd (let z : ⊥ = cc in z)
after_opener stack k form b e = ap (λ t. with_block stack k t) e
