-- What is kept of the lines of devices and queues is what their blocks give, and what counts for a device or a queue follows from it.
use Rattle.std.proofs.Common.{◌≡◌, ℕ, zero, suc, ◌+◌, Bool, true, false, cond, List, [], ◌∷◌, length, Option, Some, None, slice_get, refl, sym, ◌∙◌, arith}
use Rattle.std.specs.Prelude.{option_and_then}
use Rattle.std.specs.Option.{option_or, unwrap_or}
use Rattle.std.specs.List.{filter_map}
use Rattle.wdf_base.specs.declared.declared.ExecutionLevel.{ExecutionLevel}
use Rattle.wdf_base.specs.declared.declared.ExecutionLevel.TheVariants as level
use Rattle.wdf_base.specs.declared.declared.Scope.{Scope}
use Rattle.wdf_base.specs.declared.declared.Scope.TheVariants as scope
use Rattle.wdf_scene.specs.declared.line.NumberedLine.{NumberedLine}
use Rattle.wdf_scene.specs.declared.scene.Scene.{Scene}
use Rattle.wdf_refusals.specs.declared.heritage.Given.{Given}
use Rattle.wdf_blocks.specs.declared.placed.Counts.{Counts}
use Rattle.wdf_blocks.specs.declared.placed.Stand.{Stand}
use Rattle.wdf_blocks.specs.Blocks.{given_level, given_scope, effective_level, effective_scope}
use Rattle.wdf_refusals.specs.Heritage.{given_in, driver_given, has_level, kept_of, effective, IsKept}
use Rattle.wdf_blocks.specs.Placed.{outside, nothing, counted, opened_by, placed_from, placed}

kept_here : (scene : Scene) (k : ℕ) (b : Bool) (g : Given) → Some (cond b (Some (given_in scene k)) None) ≡ Some (Some g) → g ≡ given_in scene k
kept_here scene k true g e = cc
kept_here scene k false g e = absurd (let z : ⊥ = cc in z)

kept_from : (scene : Scene) (k : ℕ) (o : Stand) (c : Counts) (ls : List NumberedLine) (n m : ℕ) (g : Given) → m ≡ k + n → slice_get (filter_map (kept_of scene) (placed_from k o c ls)) n ≡ Some (Some g) → g ≡ given_in scene m
unfolding placed_from kept_of
kept_from scene k o c [] n m g i e = absurd (let z : ⊥ = cc in z)
kept_from scene k o c (l ∷ ls) zero m g i e =
    let here : m ≡ k = omega arith in
    rw here (kept_here scene k (has_level l.form) g e)
kept_from scene k o c (l ∷ ls) (suc n) m g i e =
    kept_from scene (suc k) (opened_by o k l.form) (counted c l.form (length l.picks)) ls n m g (omega arith) e

-- what is kept of a block is what its lines give
pub kept_right : (scene : Scene) (blocks : List (Option Given)) (driver : Given) (n : ℕ) (g : Given) → IsKept scene blocks driver → Some (Some g) ≡ slice_get blocks n → g ≡ given_in scene n
unfolding placed
kept_right scene blocks driver n g h e =
    kept_from scene 0 outside nothing scene.lines n n g (omega arith) (rw h.of_blocks at (sym e))

or_or : {T : Type 0} (a b c : Option T) → option_or (option_or a b) c ≡ option_or a (option_or b c)
or_or None b c = refl
or_or (Some x) b c = refl

-- what counts is what the block gives, its device, and then the driver
pub effective_is : (scene : Scene) (b : ℕ) (device : Option ℕ) (own inherited driver : Given) (l : ExecutionLevel) (s : Scope) → own ≡ given_in scene b → inherited.level ≡ option_and_then (given_level scene) device → inherited.scope ≡ option_and_then (given_scope scene) device → driver ≡ driver_given scene → l ≡ unwrap_or (option_or (option_or own.level inherited.level) driver.level) level.Dispatch → s ≡ unwrap_or (option_or (option_or own.scope inherited.scope) driver.scope) scope.Unscoped → record { level = l; scope = s } ≡ effective scene b device
unfolding effective effective_level effective_scope given_in driver_given
effective_is scene b device own inherited driver l s o il is' d le se =
    let levels : l ≡ effective_level scene b device = le ∙ rw (or_or own.level inherited.level driver.level, o, il, d) refl in
    let scopes : s ≡ effective_scope scene b device = se ∙ rw (or_or own.scope inherited.scope driver.scope, o, is', d) refl in
    rw (levels, scopes) refl
