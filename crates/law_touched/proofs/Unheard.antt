-- An event by which no agent changes touches no group by its agents.
use Rattle.std.proofs.Common.{if◌then◌else◌, ◌≡◌, Bool, true, false, not, List, [], ◌∷◌, filter, refl, ap}
use Rattle.wdf_base.specs.Meaning.{Meaning}
use Rattle.wdf_base.specs.declared.plan.Plan.{Plan}
use Rattle.wdf_base.specs.declared.event.Event.{Event}
use Rattle.wdf_model.specs.State.{State}
use Rattle.wdf_model.specs.declared.enums.Group.{Group}
use Rattle.wdf_model.specs.rules.Steps.{after, may}
use Rattle.wdf_model.proofs.Tests.{either_false}
use Rattle.law_machine_base.specs.OverRuns.{FramesAgree}
use Rattle.law_machine_once.specs.Owned.{StepsOwned}
use Rattle.law_touched.specs.Touched.{Piece, AgentStates, changed, has_piece, is_of_agents, offers, read_by, same_piece, touches_beside_agents}
use Rattle.law_touched.proofs.Events.{stays}
use Rattle.law_touched.proofs.Groups.{offers_alike}
use Rattle.law_touched.proofs.Law.{ranked}
use Rattle.law_touched.proofs.Same.{Same, apart, piece_is}

-- a piece that isn't the agents is another than one that is
unlike : (p q : Piece) (b : Bool) → is_of_agents p ≡ false → is_of_agents q ≡ true → same_piece p q ≡ b → b ≡ false
unlike p q true far near same = absurd (let one : p ≡ q = piece_is p q same in let both : is_of_agents p ≡ is_of_agents q = ap is_of_agents one in let z : ⊥ = cc in z)
unlike p q false far near same = refl

in_rest : (p q : Piece) (ps qs : List Piece) (b : Bool) → is_of_agents p ≡ false → is_of_agents q ≡ b → has_piece p (if not b then q ∷ qs else qs) ≡ false → (has_piece p qs ≡ false → has_piece p ps ≡ false) → has_piece p (q ∷ ps) ≡ false
in_rest p q ps qs true far is h more = let first : same_piece p q ≡ false = unlike p q (same_piece p q) far is refl in rw (first, more h) refl
in_rest p q ps qs false far is h more = let both = either_false (same_piece p q) (has_piece p qs) h in rw (both.0, more both.1) refl

-- a piece that isn't the agents is in a list where it is in what is left without them
beside : (p : Piece) (ps : List Piece) → is_of_agents p ≡ false → has_piece p (filter (λ q. not (is_of_agents q)) ps) ≡ false → has_piece p ps ≡ false
beside p [] far h = refl
beside p (q ∷ ps) far h = in_rest p q ps (filter (λ x. not (is_of_agents x)) ps) (is_of_agents q) far refl h (beside p ps far)

module _ {A : Type 0} (plan : Plan) (m : Meaning A) (S : State A) (agree : FramesAgree S) (owned : StepsOwned plan S) (e : Event) (comes : may plan m S e ≡ true) (agents : S.agents ≡ (after plan m S e).agents) where
  beside_stays : (p : Piece) → has_piece p (filter (λ q. not (is_of_agents q)) (changed plan S e)) ≡ false → Same p S (after plan m S e)
  beside_stays AgentStates h = agents
  beside_stays p h = stays plan m S agree e comes p (beside p (changed plan S e) refl h)

  pub untouched_unheard : (g : Group) → touches_beside_agents plan S e g ≡ false → offers plan m S g ≡ offers plan m (after plan m S e) g
  untouched_unheard g off = offers_alike plan m S (after plan m S e) g (ranked plan m S agree owned) (λ p is. beside_stays p (apart (filter (λ q. not (is_of_agents q)) (changed plan S e)) (read_by g) off p is))
