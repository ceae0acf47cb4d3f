-- What a call is asked and says that changes a list behind a reference.
use Rattle.std.specs.Prelude.{◌≡◌, List}
use denote.Ref.{MutBor}
use denote.Param.Members.{Shared}

module _ {F X : Type 0} (g : Shared F (MutBor (List X) × Unit {0}) (Unit {0} × (MutBor (List X) × Unit {0}))) (f : F) where
  -- f may be called with a `&mut` to xs
  abbrev pub TakesItems : List X → Type 0
  TakesItems xs = (p : MutBor (List X)) → p.now ≡ xs → g.pre f (p, tt)

  -- a call of f with a `&mut` to xs may leave ys there
  pub record ChangesItems (xs ys : List X) : Type 0 where
    pub argument : MutBor (List X)
    pub argument_is : argument.now ≡ xs
    pub after_call : MutBor (List X)
    pub call : g.post f (argument, tt) (tt, (after_call, tt))
    pub left : after_call.now ≡ ys
