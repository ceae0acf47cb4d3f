-- What a loop over the agents has passed of the posts that may come.
use Rattle.std.proofs.Common.{true, false, ℕ, ◌≡◌, ◌+◌, ◌<◌, ◌≤◌, ◌^◌, List, [], length, Some, is_some, slice_get, refl, sym, arith}
use Rattle.wdf_base.specs.Meaning.{Meaning}
use Rattle.wdf_base.specs.declared.event.Event.{Event}
use Rattle.wdf_base.specs.declared.plan.Plan.{Plan}
use Rattle.wdf_model.specs.declared.enums.Group.TheVariants as group
use Rattle.wdf_model.specs.State.{State}
use Rattle.wdf_offers.specs.Search.{Skips, offered, offered_from}
use Rattle.wdf_offers.proofs.Passing.{Passed, all_passed, hits, offers, offers_none, passes, same_rest, takes}
use Rattle.wdf_offers.proofs.Places.{past}
use Rattle.wdf_offers.proofs.Skips.{stays}

module _ {A : Type 0} (plan : Plan) (m : Meaning A) (S : State A) (few : length S.agents ≤ 2 ^ 16) (all : List Event) (agent count : ℕ) (passed : Passed all (offered_from plan m S group.Posts agent) count) where
  here : agent < length S.agents → Skips plan m S group.Posts agent agent
  here below = stays plan m S group.Posts agent below (omega arith)

  -- an agent whose post may not come is passed over
  pub post_passes : agent < length S.agents → is_some (offered plan m S group.Posts agent) ≡ false → Passed all (offered_from plan m S group.Posts (agent + 1)) count
  post_passes below none = passes plan m S group.Posts all agent agent count passed (here below) (offers_none (offered plan m S group.Posts agent) (offered plan m S group.Posts agent) refl none)

  -- one whose post may come has one more
  pub post_counts : agent < length S.agents → is_some (offered plan m S group.Posts agent) ≡ true → Passed all (offered_from plan m S group.Posts (agent + 1)) (count + 1)
  post_counts below some =
      let one = offers (offered plan m S group.Posts agent) (offered plan m S group.Posts agent) refl some in
      takes plan m S group.Posts all agent agent count one.0 passed (here below) one.1

  -- and its post is the next one
  pub post_there : agent < length S.agents → is_some (offered plan m S group.Posts agent) ≡ true → (event : Event) × (slice_get all count ≡ Some event) × (offered plan m S group.Posts agent ≡ Some event)
  post_there below some =
      let one = offers (offered plan m S group.Posts agent) (offered plan m S group.Posts agent) refl some in
      (one.0, hits plan m S group.Posts all agent agent count one.0 passed (here below) one.1, sym one.1)

  -- past the last agent all are passed
  pub posts_end : length S.agents ≤ agent → length all ≡ count
  posts_end over = all_passed all count (same_rest all (offered_from plan m S group.Posts agent) [] count (past plan m S group.Posts agent over) passed)
