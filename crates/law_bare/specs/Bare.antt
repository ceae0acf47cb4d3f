-- Events without the numbers of lines, and agents that don't see them. (own)
use Rattle.std.specs.Prelude.{◌≡◌, ℕ, List, map}
use Rattle.wdf_base.specs.Meaning.{Meaning}
use Rattle.wdf_base.specs.declared.event.Event.{Event}
use Rattle.wdf_base.specs.declared.event.Event.TheVariants as event
use Rattle.wdf_base.specs.declared.plan.Plan.{Plan}
use Rattle.wdf_model.specs.rules.Ready.{IsPickedRun, IsRunOf, ending_of}

-- An event with the number 0 for its line. Only a step inside a frame and a fault tell a line.
abbrev pub bare_event : Event → Event
bare_event (event.Local cpu line) = event.Local cpu 0
bare_event (event.Fault cpu x line) = event.Fault cpu x 0
bare_event e = e

-- What agents post, wait for and show doesn't depend on what `bare` takes from them, nor on the lines of events.
pub record SeesNoLines {A : Type 0} (m : Meaning A) (bare : A → A) : Type 0 where
  pub due : (a : A) → m.due (bare a) ≡ m.due a
  pub next : (a : A) → m.next (bare a) ≡ m.next a
  pub value : (a : A) (what : ℕ) → m.value (bare a) what ≡ m.value a what
  pub fold : (a : A) (e : Event) → m.fold (bare a) (bare_event e) ≡ bare (m.fold a e)

-- The second plan has a run by the same picks, with the same events but for line numbers, that ends as the run of the first.
abbrev pub HasLikePicked : {A : Type 0} → Plan → Plan → Meaning A → List ℕ → List Event → Type 0
HasLikePicked one two m picks run =
    (other : List Event) × IsPickedRun two m picks other × (map bare_event run ≡ map bare_event other) × (ending_of one m run ≡ ending_of two m other)

-- The second plan has a run with the same events but for line numbers, that ends as the run of the first, or goes on as it does.
abbrev pub HasLikeRun : {A : Type 0} → Plan → Plan → Meaning A → List Event → Type 0
HasLikeRun one two m run =
    (other : List Event) × IsRunOf two m other × (map bare_event run ≡ map bare_event other) × (ending_of one m run ≡ ending_of two m other)
