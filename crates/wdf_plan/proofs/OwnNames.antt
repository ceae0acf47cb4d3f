-- A name stands for what the line that declares it declares.
use Rattle.std.proofs.Common.{◌≡◌, true, false, List, [], ◌∷◌, find, Some, None, refl}
use Rattle.std.proofs.lemmas.Slice.Eq.{bytes_eq-Decides}
use Rattle.std.specs.Str.{bytes_eq}
use Rattle.wdf_scene.specs.declared.scene.Scene.{Scene}
use Rattle.wdf_blocks.specs.declared.declaration.Declaration.{Declaration}
use Rattle.wdf_blocks.specs.declared.declaration.Wanted.{Wanted}
use Rattle.wdf_blocks.specs.Declarations.{declarations, declared_on, is_wanted, suits}
use Rattle.wdf_refusals.specs.First.{first_refusal}
use Rattle.wdf_blocks.specs.Placed.{placed}
use Rattle.wdf_plan.proofs.Accepted.{each_accepted}
use Rattle.wdf_plan.proofs.Distinct.{AreDistinct, all_distinct}
use Rattle.wdf_refusals.proofs.Every.{Every}
use Rattle.wdf_plan.proofs.Gathered.{every_from}

-- wherever the name may stand for this declaration, it does
abbrev pub IsOwn : List Declaration → Declaration → Type 0
IsOwn ds d = (w : Wanted) → suits w d ≡ true → find (is_wanted d.name w) ds ≡ Some d

own_later : (x : Declaration) (xs ds : List Declaration) → Every (λ d. bytes_eq x.name d.name ≡ false) ds → Every (IsOwn xs) ds → Every (IsOwn (x ∷ xs)) ds
own_later x xs [] h g = tt
own_later x xs (d ∷ ds) h g = (λ w s. rw h.0 (g.0 w s), own_later x xs ds h.1 g.1)

own_first : (x : Declaration) (xs : List Declaration) → IsOwn (x ∷ xs) x
own_first x xs w s = rw ((bytes_eq-Decides x.name x.name).1 refl, s) refl

all_own : (ds : List Declaration) → AreDistinct ds → Every (IsOwn ds) ds
all_own [] h = tt
all_own (x ∷ xs) h = (own_first x xs, own_later x xs xs h.0 (all_own xs h.1))

-- each name stands for its own declaration
pub names_own : (scene : Scene) → first_refusal scene ≡ None → Every (IsOwn (declarations scene)) (declarations scene)
names_own scene e =
    all_own (declarations scene) (all_distinct scene (each_accepted scene e))

-- so does the name that a line declares
pub lines_own : (scene : Scene) → first_refusal scene ≡ None → Every (λ p. (d : Declaration) → declared_on p ≡ Some d → IsOwn (declarations scene) d) (placed scene)
unfolding declarations
lines_own scene e =
    every_from declared_on (IsOwn (declarations scene)) (placed scene) (names_own scene e)
