-- The levels that frames hold, in a list.
use Rattle.std.specs.Prelude.{ℕ, ◌≡◌, ◌<◌, ◌==◌, List, length, filter, map, take, get_or}
use Rattle.wdf_model.specs.declared.entries.HeldLevel.{HeldLevel}

-- those that a frame holds
abbrev pub held_by : List HeldLevel → ℕ → List ℕ
held_by ls f = map (λ (l : HeldLevel). l.level.0) (filter (λ (l : HeldLevel). l.frame.0 == f) ls)

-- The place has a level of the frame, and there is none from a place on before it.
pub record IsNextLevel (f : ℕ) (ls : List HeldLevel) (from place : ℕ) : Type 0 where
  pub within : place < length ls
  pub its : (d : HeldLevel) → (get_or ls place d).frame.0 ≡ f
  pub none : held_by (take place ls) f ≡ held_by (take from ls) f
