-- A request that goes down a stack of devices, level by level. (own)
use Rattle.std.specs.Prelude.{ℕ, zero, suc, ◌≡◌, ◌==◌, Bool, true, false, List, find, Option, Some, option_map, slice_get, take}
use Rattle.wdf_base.specs.declared.plan.Plan.{Plan}
use Rattle.wdf_base.specs.declared.ids.Handle.{Handle}
use Rattle.wdf_base.specs.declared.event.Post.{Post}
use Rattle.wdf_base.specs.declared.event.Post.TheVariants as post
use Rattle.wdf_base.specs.declared.event.Event.{Event}
use Rattle.wdf_base.specs.declared.event.Event.TheVariants as event
use Rattle.wdf_base.specs.Posts.{is_request}
use Rattle.law_stack.specs.Words.{Passing, connector_of, has_no_arrival, passings}

-- the request of the first Send without an arrival
abbrev pub next_request : List Passing → Option ℕ
next_request ss = option_map (λ (s : Passing). s.request) (find has_no_arrival ss)

-- An arrival by a connector, which belongs to a Send of r, makes the request x.
pub record GoesDown (plan : Plan) (run : List Event) (r x : ℕ) : Type 0 where
  pub place : ℕ
  pub agent : ℕ
  pub target : ℕ
  pub post : Post
  pub made : Handle
  pub event : slice_get run place ≡ Some (event.Posted agent post (Some made))
  pub is_arrival : is_request post ≡ true
  pub connector : connector_of plan agent ≡ Some target
  pub sent : next_request (passings target agent (take place run)) ≡ Some r
  pub is_made : made.id.0 ≡ x

-- x is the request so many levels below r
abbrev pub IsBelow : Plan → List Event → ℕ → ℕ → ℕ → Type 0
IsBelow plan run zero r x = r ≡ x
IsBelow plan run (suc n) r x = (y : ℕ) × IsBelow plan run n r y × GoesDown plan run y x

-- a post asks something of this device
abbrev pub arrives_at : Post → ℕ → Bool
arrives_at (post.Read device length) d = device.id.0 == d
arrives_at (post.Write device length) d = device.id.0 == d
arrives_at (post.Control device code length) d = device.id.0 == d
arrives_at _ d = false
