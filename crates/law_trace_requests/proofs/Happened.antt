-- One event more, in the words of the laws; and what may come at a place of a run.
use Rattle.std.proofs.Common.{◌≡◌, false, ◌||◌, List, [], ◌∷◌, ◌++◌, refl}
use Rattle.std.proofs.lemmas.List.Sums.{fold-append}
use Rattle.wdf_base.specs.declared.event.Event.{Event}
use Rattle.wdf_laws.specs.declared.sign.Sign.{Sign}
use Rattle.wdf_laws.specs.Signs.{shows}
use Rattle.wdf_laws.specs.Words.{came_step, ever}

pub ever_next : (p : Sign) (es : List Event) (e : Event) → ever p (es ++ e ∷ []) ≡ (ever p es || shows p e)
unfolding ever
ever_next p es e = fold-append (came_step p) false es (e ∷ [])

pub never_yet : (p : Sign) → ever p [] ≡ false
unfolding ever
never_yet p = refl
