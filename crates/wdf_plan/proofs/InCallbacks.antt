-- Which callback is open at a line, and what a line of a callback does to it.
use Rattle.std.proofs.Common.{◌≡◌, ℕ, zero, suc, ◌+◌, ◌-◌, true, false, List, [], ◌∷◌, Some, None, slice_get, refl, ap, ◌∙◌, arith}
use Rattle.std.proofs.lemmas.Bool.{not-true, ne_eqb}
use Rattle.std.specs.Prelude.{◌==◌}
use Rattle.wdf_base.specs.declared.call.Callback.{Callback}
use Rattle.wdf_scene.specs.declared.block.Block.{Block}
use Rattle.wdf_scene.specs.declared.block.Block.TheVariants as block
use Rattle.wdf_scene.specs.declared.line.SceneLine.{SceneLine}
use Rattle.wdf_scene.specs.declared.line.SceneLine.TheVariants as line
use Rattle.wdf_scene.specs.Blocks.{opened}
use Rattle.wdf_blocks.specs.declared.placed.Placed.{Placed}
use Rattle.wdf_blocks.specs.declared.placed.Stand.{Stand}
use Rattle.wdf_blocks.specs.Blocks.{depth_after, ends_block}
use Rattle.wdf_blocks.specs.Forms.{opens, is_end}
use Rattle.wdf_blocks.specs.Placed.{closed, opened_by}
use Rattle.wdf_plan.proofs.Nesting.{stands_inside}
use Rattle.wdf_plan.proofs.Stacks.{Opener, pushed, stand_of, begun, IsOpened, AreOpened}

-- ---- where a callback is open

-- a callback that is open was begun by a line
pub record IsBegun (whole : List Placed) (k : ℕ) : Type 0 where
  pub opener : Placed
  pub there : slice_get whole k ≡ Some opener
  pub callback : Callback
  pub is : opener.form ≡ line.On callback

record IsOn (form : SceneLine) : Type 0 where
  callback : Callback
  is : form ≡ line.On callback

on_line : (form : SceneLine) → opened form ≡ Some block.On → IsOn form
on_line (line.On c) e = record { callback = c; is = refl }
on_line _ e = absurd (let z : ⊥ = cc in z)

begun_by : (whole : List Placed) (x : Opener) (xs : List Opener) (b : Block) (k : ℕ) → x.block ≡ b → IsOpened whole x xs → (pushed b x.line (stand_of xs)).callback ≡ Some k → ((stand_of xs).callback ≡ Some k → IsBegun whole k) → IsBegun whole k
begun_by whole x xs block.On k is h e later =
    let same : x.line ≡ k = cc in
    let form : opened h.placed.form ≡ Some block.On = h.opens ∙ ap (λ b. Some (begun b)) is in
    let on = on_line h.placed.form form in
    record { opener = h.placed; there = rw (← same) h.there; callback = on.callback; is = on.is }
begun_by whole x xs _ k is h e later = later e

pub callback_begun : (whole : List Placed) (stack : List Opener) (k : ℕ) → AreOpened whole stack → (stand_of stack).callback ≡ Some k → IsBegun whole k
callback_begun whole [] k h e = absurd (let z : ⊥ = cc in z)
callback_begun whole (x ∷ xs) k h e =
    begun_by whole x xs x.block k refl h.0 e (callback_begun whole xs k h.1)

-- ---- after a line of a callback

-- the callback is open at this depth
pub record IsWithin (o : Stand) (k depth : ℕ) : Type 0 where
  pub callback : o.callback ≡ Some k
  pub nested : o.nested ≡ depth

end_within : (o : Stand) (k j depth : ℕ) → IsWithin o k depth → ends_block depth line.End ≡ false → IsWithin (opened_by o j line.End) k (depth_after depth line.End)
unfolding opened_by opens is_end
end_within o k j zero w e = absurd (let z : ⊥ = cc in z)
end_within o k j (suc d) w e =
    let deeper : (suc d == 0) ≡ false = ne_eqb (suc d) 0 (λ e. absurd (omega arith)) in
    let c : closed o ≡ record o { nested = o.nested - 1 } = rw (w.callback, w.nested, deeper) refl in
    record {
      callback = ap (λ (s : Stand). s.callback) c ∙ w.callback;
      nested = ap (λ (s : Stand). s.nested) c ∙ ap (λ n. n - 1) w.nested;
    }

one_deeper : (n d : ℕ) → n ≡ d → n + 1 ≡ suc d
one_deeper n d e = omega arith

as_deep : (n d : ℕ) (form : SceneLine) → n ≡ d → opens form ≡ false → is_end form ≡ false → n ≡ depth_after d form
as_deep n d form e o i = rw (o, i) e

-- a line that doesn't end the callback leaves it open
pub goes_on : (o : Stand) (k j depth : ℕ) (form : SceneLine) → IsWithin o k depth → ends_block depth form ≡ false → stands_inside depth form ≡ true → IsWithin (opened_by o j form) k (depth_after depth form)
unfolding opened_by opens is_end
goes_on o k j depth (line.If x) w e s =
    record { callback = w.callback; nested = one_deeper o.nested depth w.nested }
goes_on o k j depth (line.Repeat x) w e s =
    record { callback = w.callback; nested = one_deeper o.nested depth w.nested }
goes_on o k j depth line.End w e s = end_within o k j depth w e
goes_on o k j depth line.Else w e s = w
goes_on o k j depth (line.On c) w e s = absurd (let z : ⊥ = cc in z)
goes_on o k j depth form w e s =
    record { callback = w.callback; nested = as_deep o.nested depth form w.nested (not-true (opens form) s) refl }

-- and after the one that ends it no callback is open
pub leaves : (o : Stand) (k j depth : ℕ) (form : SceneLine) → IsWithin o k depth → ends_block depth form ≡ true → (opened_by o j form).callback ≡ None
unfolding opened_by is_end
leaves o k j zero line.End w e =
    let c : closed o ≡ record o { callback = None } = rw (w.callback, w.nested) refl in
    ap (λ (s : Stand). s.callback) c
leaves o k j zero _ w e = absurd (let z : ⊥ = cc in z)
leaves o k j (suc d) _ w e = absurd (let z : ⊥ = cc in z)
