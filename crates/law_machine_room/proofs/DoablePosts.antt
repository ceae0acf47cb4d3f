-- The deeds of posts can be done.
use Rattle.std.proofs.Common.{if◌then◌else◌, ◌≡◌, ℕ, ◌<◌, ◌==◌, Bool, true, false, not, ◌&&◌, ◌||◌, List, [], ◌∷◌, length, Option, Some, None, is_some, option_and_then, slice_get, refl, ap, arith}
use Rattle.std.proofs.lemmas.Option.{slice_get_within}
use Rattle.wdf_base.specs.Meaning.{Meaning}
use Rattle.wdf_base.specs.declared.ids.Handle.{Handle}
use Rattle.wdf_base.specs.declared.value.Status.{Status}
use Rattle.wdf_base.specs.declared.value.Status.TheVariants as status
use Rattle.wdf_base.specs.declared.object.Kind.TheVariants as kind
use Rattle.wdf_base.specs.declared.object.Place.{Place}
use Rattle.wdf_base.specs.declared.object.Place.TheVariants as place
use Rattle.wdf_base.specs.declared.object.RequestForm.{RequestForm}
use Rattle.wdf_base.specs.declared.object.RequestForm.TheVariants as form
use Rattle.wdf_base.specs.declared.plan.Plan.{Plan}
use Rattle.wdf_base.specs.declared.event.Post.{Post}
use Rattle.wdf_base.specs.declared.event.Post.TheVariants as post
use Rattle.wdf_base.specs.Resolved.{is_handle}
use Rattle.wdf_base.specs.Same.{same_option, same_post}
use Rattle.wdf_base.specs.Lives.{is_live}
use Rattle.wdf_base.specs.Places.{is_closing, is_done, is_queued_in, is_sent_to}
use Rattle.wdf_model.specs.Plans.{has_handler, is_manual_queue, queue_for, queue_of, target_of_agent}
use Rattle.wdf_model.specs.parts.Tree.{life_of, next_id}
use Rattle.wdf_model.specs.parts.Requests.{arrival_of, no_request, place_of}
use Rattle.wdf_model.specs.parts.Control.{accepts, accepts_in, no_control}
use Rattle.wdf_model.specs.State.{State}
use Rattle.wdf_model.specs.Ids.{object_id}
use Rattle.wdf_model.specs.declared.deed.Deed.TheVariants.{Arrive, CountArrival}
use Rattle.wdf_model.specs.rules.Posts.{arrival_deeds, arrival_info, arrival_place, cancel_at, cancel_deeds, due_of, in_reach, is_data, may_finish, may_post, place_if_any, place_in_queue, post_deeds, post_fits, takes_empty}
use Rattle.wdf_model.proofs.Maps.{entry_past}
use Rattle.wdf_model.proofs.Tests.{both_left, both_right, either_false, not_false}
use Rattle.wdf_model.specs.rules.Room.{AreDoable, IsQueue, MayEnterIfQueued}
use Rattle.law_machine_room.proofs.DoableDeclared.{handle_there}
use Rattle.law_machine_room.proofs.Doable.{Fine, agents_few, apart, arrivals_small, arrived_few, inside, objects_few, request_here}
use Rattle.law_machine_room.proofs.DoableStarts.{sent_undone}

post_there : (p : Option Post) (q : Post) → same_option same_post p (Some q) ≡ true → is_some p ≡ true
post_there None q h = h
post_there (Some p) q h = refl

module _ {A : Type 0} {plan : Plan} {S : State A} (k : Fine plan S) where
  -- ---- agents

  due_there : (m : Meaning A) (agent : ℕ) (a : Option A) → slice_get S.agents agent ≡ a → is_some (option_and_then m.due a) ≡ true → agent < length S.agents
  due_there m agent None e h = absurd (let z : ⊥ = cc in z)
  due_there m agent (Some a) e h = slice_get_within S.agents agent a e

  -- ---- arrivals

  -- a queue that accepts is there
  pub accepting_queue : (q : ℕ) → accepts S.control q ≡ true → IsQueue S q
  accepting_queue q h =
      let there : q < length S.control.controls = inside no_control (λ c. accepts_in c.mode) S.control.controls q refl h in
      let controls = k.room.sizes.controls in
      let dispatch = k.room.sizes.dispatch in
      record { dispatch = omega arith; control = there }

  -- the object that is made next is no request yet
  next_apart : (q : ℕ) → is_queued_in q (place_of S.requests (next_id S.tree)) ≡ false
  next_apart q = ap (λ x. is_queued_in q x.place) (entry_past no_request S.requests.all (next_id S.tree) k.room.growth.requests)

  abbrev Enters : Place → Type 0
  Enters p = MayEnterIfQueued S p (next_id S.tree)

  enters_if : (b : Bool) (p q : Place) → Enters p → (b ≡ false → Enters q) → Enters (if b then p else q)
  enters_if true p q h r = h
  enters_if false p q h r = r refl

  enters_queue : (f : RequestForm) (n q : ℕ) → Enters (place_in_queue plan S f n q)
  enters_queue f n q =
      enters_if (not (accepts S.control q)) (place.Closing status.InvalidDeviceState) _ tt
      (λ open_. enters_if (is_data f && n == 0 && not (takes_empty (queue_of plan q))) (place.Closing status.Success) _ tt
      (λ _. enters_if (not (is_manual_queue plan q || has_handler plan q f)) (place.Closing status.InvalidDeviceRequest) (place.Queued (record { 0 = q })) tt
      (λ _. record { queue = accepting_queue q (not_false (accepts S.control q) open_); apart = apart k (next_id S.tree) next_apart })))

  enters_if_any : (f : RequestForm) (n : ℕ) (q : Option ℕ) → Enters (place_if_any plan S f n q)
  enters_if_any f n None = tt
  enters_if_any f n (Some q) = enters_queue f n q

  -- what MayEnterIfQueued reads is the same after an arrival is counted
  counted_too : (p : Place) (agent : ℕ) (xs : List ℕ) → Enters p → MayEnterIfQueued (record S { arrivals = xs }) p (next_id S.tree)
  counted_too (place.Queued q) agent xs h = record { queue = record { dispatch = h.queue.dispatch; control = h.queue.control }; apart = h.apart }
  counted_too _ agent xs h = tt

  arrival_if : (agent : ℕ) (f : RequestForm) (n code device : ℕ) (b : Bool) → agent < length S.agents
      → AreDoable plan (CountArrival agent ∷ (if b then Arrive (object_id device) (arrival_info S agent f n code device) (arrival_place plan S f n device) ∷ [] else [])) S
  arrival_if agent f n code device true there = (
    (agents_few k agent there, arrivals_small k agent),
    ((objects_few k, arrived_few k, counted_too (arrival_place plan S f n device) agent _ (enters_if_any f n (queue_for plan device f))), tt),
  )
  arrival_if agent f n code device false there = ((agents_few k agent there, arrivals_small k agent), tt)

  arrival_doable : (agent : ℕ) (f : RequestForm) (n code device : ℕ) → agent < length S.agents → AreDoable plan (arrival_deeds plan S agent f n code device) S
  arrival_doable agent f n code device there = arrival_if agent f n code device (is_live (life_of S.tree device)) there

  -- ---- cancels

  cancel_at_doable : (r : ℕ) (p : Place) → is_done (place_of S.requests r) ≡ false → AreDoable plan (cancel_at p r) S
  cancel_at_doable r (place.Queued q) h = (request_here k r h, tt)
  cancel_at_doable r _ h = (request_here k r h, tt)

  cancel_in_reach : (r : ℕ) (b : Bool) → (is_done (place_of S.requests r) || is_closing (place_of S.requests r)) ≡ b → AreDoable plan (cancel_deeds S (if b then None else Some r)) S
  cancel_in_reach r true e = tt
  cancel_in_reach r false e = cancel_at_doable r (place_of S.requests r) (either_false (is_done (place_of S.requests r)) (is_closing (place_of S.requests r)) e).0

  cancel_doable : (found : Option ℕ) → AreDoable plan (cancel_deeds S (option_and_then (in_reach S) found)) S
  cancel_doable None = tt
  cancel_doable (Some r) = cancel_in_reach r (is_done (place_of S.requests r) || is_closing (place_of S.requests r)) refl

  -- ---- the table

  finish_doable : (t : Option ℕ) (r : Handle) (s : Status) → may_finish plan S t r ≡ true → AreDoable plan (post_deeds plan S 0 (post.Done r s)) S
  finish_doable None r s h = absurd (let z : ⊥ = cc in z)
  finish_doable (Some t) r s h =
      let sent : is_sent_to t (place_of S.requests r.id.0) ≡ true = search (both_left, both_right) in
      (request_here k r.id.0 (sent_undone t (place_of S.requests r.id.0) sent), tt)

  post_deeds_doable : (agent : ℕ) (p : Post) → agent < length S.agents → post_fits plan S agent p ≡ true → AreDoable plan (post_deeds plan S agent p) S
  post_deeds_doable agent (post.Read device n) there h = arrival_doable agent form.Read n 0 device.id.0 there
  post_deeds_doable agent (post.Write device n) there h = arrival_doable agent form.Write n 0 device.id.0 there
  post_deeds_doable agent (post.Control device code n) there h = arrival_doable agent form.Control n code device.id.0 there
  post_deeds_doable agent (post.Cancel n) there h = cancel_doable (arrival_of S.requests agent n)
  post_deeds_doable agent (post.Ask a device) there h =
      let declared : is_handle plan kind.Device device ≡ true = search (both_left, both_right) in
      let inside_ = handle_there plan kind.Device device declared in
      let size = k.room.sizes.sequences in
      (omega arith, tt)
  post_deeds_doable agent (post.Act action) there h = tt
  post_deeds_doable agent (post.Done r s) there h = finish_doable (target_of_agent plan agent) r s h

  pub post_doable : (m : Meaning A) (agent : ℕ) (p : Post) (answer : Option Handle) → may_post plan m S agent p answer ≡ true → AreDoable plan (post_deeds plan S agent p) S
  post_doable m agent p answer h =
      let due : same_option same_post (due_of m S agent) (Some p) ≡ true = search (both_left, both_right) in
      let fits_ : post_fits plan S agent p ≡ true = search (both_left, both_right) in
      post_deeds_doable agent p (due_there m agent (slice_get S.agents agent) refl (post_there (due_of m S agent) p due)) fits_
