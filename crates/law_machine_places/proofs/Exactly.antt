-- What may come is among what may come, time aside, exactly where it has a place.
use Rattle.std.proofs.Common.{◌≡◌, ◌↔◌, true, ◌&&◌}
use Rattle.wdf_base.specs.Meaning.{Meaning}
use Rattle.wdf_base.specs.declared.plan.Plan.{Plan}
use Rattle.wdf_base.specs.declared.event.Event.{Event}
use Rattle.wdf_model.specs.State.{State}
use Rattle.law_machine_base.specs.OverRuns.{PlacesAgree}
use Rattle.wdf_model.specs.rules.Groups.{candidates}
use Rattle.wdf_model.specs.rules.Ready.{allowed}
use Rattle.wdf_model.specs.rules.Steps.{may}
use Rattle.wdf_model.proofs.Tests.{both, both_left, both_right}
use Rattle.law_machine_once.specs.Owned.{StepsOwned}
use Rattle.law_machine_places.specs.Placed.{IsAmong, has_place}
use Rattle.law_machine_places.proofs.Found.{found}
use Rattle.law_machine_places.proofs.Listed.{has_its_place}
use Rattle.law_machine_places.proofs.Members.{has_of, was_there}
use Rattle.law_stuck_causes.proofs.Members.{among_of, has_kept}

module _ {A : Type 0} (plan : Plan) (m : Meaning A) (S : State A) (e : Event) (agree : PlacesAgree S) (owned : StepsOwned plan S) where
  pub is_among : (may plan m S e && has_place plan S e) ≡ true → IsAmong e (allowed plan m S)
  is_among h =
      let comes = both_left (may plan m S e) (has_place plan S e) h in
      among_of e (allowed plan m S) (has_kept (may plan m S) e (candidates plan m S) (found plan m S agree e comes (both_right (may plan m S e) (has_place plan S e) h)) comes)

  pub has_both : IsAmong e (allowed plan m S) → (may plan m S e && has_place plan S e) ≡ true
  has_both at =
      let was = was_there (may plan m S) e (candidates plan m S) (has_of e (allowed plan m S) at.0 at.1) in
      both (may plan m S e) (has_place plan S e) was.1 (has_its_place plan m S owned e was.0)

  pub exactly : ((may plan m S e && has_place plan S e) ≡ true) ↔ IsAmong e (allowed plan m S)
  exactly = (is_among, has_both)
