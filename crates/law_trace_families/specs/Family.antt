-- What the plan and the events say of parents and classes, beside what the tree has.
use Rattle.std.specs.Prelude.{◌≡◌, ℕ, ◌<◌, Bool, true, false, ◌||◌, List, length, is_some}
use Rattle.wdf_base.specs.declared.plan.Plan.{Plan}
use Rattle.wdf_base.specs.declared.event.Event.{Event}
use Rattle.wdf_base.specs.Plan.{declared_of}
use Rattle.wdf_base.specs.Lives.{is_gone}
use Rattle.wdf_model.specs.parts.Tree as tree
use Rattle.wdf_model.specs.State.{State, declared_in}
use Rattle.wdf_laws.specs.Family.{first_told, made_as, parent_of}

-- the plan declares an object, or one of the events says something of it
abbrev pub is_known : Plan → List Event → ℕ → Bool
is_known plan events o = is_some (declared_of plan o) || is_some (first_told plan events o)

-- What is known of an object that is there is what the tree has.
pub record FamilyAgrees {A : Type 0} (plan : Plan) (events : List Event) (S : State A) : Type 0 where
  -- nothing is known of an object before it is made
  pub made : (o : ℕ) → is_known plan events o ≡ true → o < length S.tree.nodes
  pub parent : (o : ℕ) → is_known plan events o ≡ true → is_gone (tree.life_of S.tree o) ≡ false → parent_of plan events o ≡ tree.parent_of S.tree o

-- What an object is in the plan, for an object of which an event says something, and that is there.
pub record ClassesAgree {A : Type 0} (plan : Plan) (events : List Event) (S : State A) : Type 0 where
  pub class : (o : ℕ) → is_some (first_told plan events o) ≡ true → is_gone (tree.life_of S.tree o) ≡ false → made_as plan events o ≡ declared_in plan S o
