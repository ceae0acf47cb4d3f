-- A write of a changed item, and a write of the item that is there.
use Rattle.std.proofs.Common.{◌≡◌, ℕ, zero, suc, ◌-◌, Bool, true, false, cond, List, [], ◌∷◌, ◌++◌, length, slice_get, slice_set, Some, refl, ap}
use Rattle.wdf_scene.specs.declared.line.NumberedLine.{NumberedLine}
use Rattle.wdf_scene.specs.declared.scene.Scene.{Scene}
use Rattle.wdf_scene.specs.Change.{changed_at}
use Rattle.wdf_scene.specs.Scene.{line_with_pick, with_pick}

pub set-changed : {T : Type 0} (f : T → T) (xs : List T) (k : ℕ) (x : T) → slice_get xs k ≡ Some x → slice_set xs k (f x) ≡ changed_at f k xs
set-changed f [] k x e = refl
set-changed f (y ∷ ys) zero x e = let same : y ≡ x = cc in cc
set-changed f (y ∷ ys) (suc k) x e = ap (λ zs. y ∷ zs) (set-changed f ys k x e)

pub set-same : {T : Type 0} (xs : List T) (k : ℕ) (x : T) → slice_get xs k ≡ Some x → slice_set xs k x ≡ xs
set-same [] k x e = refl
set-same (y ∷ ys) zero x e = let same : y ≡ x = cc in cc
set-same (y ∷ ys) (suc k) x e = ap (λ zs. y ∷ zs) (set-same ys k x e)

-- the same for one more item of a list in the item, or none more
pub set-more : {T X : Type 0} (put : List X → T → T) (more : T → T) (xs : List T) (k : ℕ) (x : T) (b : Bool) (old grown new : List X) → slice_get xs k ≡ Some x → put old x ≡ x → put grown x ≡ more x → new ≡ cond b grown old → slice_set xs k (put new x) ≡ cond b (changed_at more k xs) xs
set-more put more xs k x true old grown new here kept changed e =
    rw (e, changed) (set-changed more xs k x here)
set-more put more xs k x false old grown new here kept changed e =
    rw (e, kept) (set-same xs k x here)

pick_more : (scene : Scene) (n : ℕ) (l : NumberedLine) (b : Bool) (new : List ℕ) → slice_get scene.lines (length scene.lines - 1) ≡ Some l → new ≡ cond b (l.picks ++ n ∷ []) l.picks → record scene { lines = slice_set scene.lines (length scene.lines - 1) (record l { picks = new }) } ≡ cond b (with_pick scene n) scene
pick_more scene n l true new here e =
    ap (λ (zs : List NumberedLine). record scene { lines = zs }) (set-more (λ ys x. record x { picks = ys }) (line_with_pick n) scene.lines (length scene.lines - 1) l true l.picks (l.picks ++ n ∷ []) new here refl refl e)
pick_more scene n l false new here e =
    ap (λ (zs : List NumberedLine). record scene { lines = zs }) (set-more (λ ys x. record x { picks = ys }) (line_with_pick n) scene.lines (length scene.lines - 1) l false l.picks (l.picks ++ n ∷ []) new here refl refl e)

pub pick_done : (scene : Scene) (k n : ℕ) (l : NumberedLine) (b : Bool) (new : List ℕ) → k ≡ length scene.lines - 1 → slice_get scene.lines k ≡ Some l → new ≡ cond b (l.picks ++ n ∷ []) l.picks → record scene { lines = slice_set scene.lines k (record l { picks = new }) } ≡ cond b (with_pick scene n) scene
pick_done scene k n l b new is here e =
    let there : slice_get scene.lines (length scene.lines - 1) ≡ Some l = rw (← is) here in
    rw is (pick_more scene n l b new there e)
