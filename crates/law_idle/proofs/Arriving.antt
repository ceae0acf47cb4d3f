-- A request that arrives is new, and is one of few.
use Rattle.std.proofs.Common.{if◌then◌else◌, ◌≡◌, ℕ, ◌+◌, Bool, true, false, ◌&&◌, nat_lt, [], ◌∷◌, Some, None, refl, sym, ap, subst, ◌∙◌, arith}
use Rattle.std.proofs.lemmas.Bool.Decides.{nat_tests}
use Rattle.wdf_base.proofs.Tests.{both_left, both_right}
use Rattle.wdf_base.specs.Meaning.{Meaning}
use Rattle.wdf_base.specs.declared.ids.Handle.{Handle}
use Rattle.wdf_base.specs.declared.plan.Plan.{Plan}
use Rattle.wdf_base.specs.declared.object.Place.{Place}
use Rattle.wdf_base.specs.declared.object.Place.TheVariants as place
use Rattle.wdf_base.specs.declared.object.RequestForm.{RequestForm}
use Rattle.wdf_base.specs.declared.object.RequestForm.TheVariants as form
use Rattle.wdf_base.specs.declared.object.RequestInfo.{RequestInfo}
use Rattle.wdf_base.specs.declared.event.Event.{Event}
use Rattle.wdf_base.specs.declared.event.Event.TheVariants as event
use Rattle.wdf_base.specs.declared.event.Post.{Post}
use Rattle.wdf_base.specs.declared.event.Post.TheVariants as post
use Rattle.wdf_base.specs.Same.{same_handle, same_option, same_post}
use Rattle.wdf_base.specs.Lives.{is_live}
use Rattle.wdf_base.specs.Resolved.{is_handle}
use Rattle.wdf_base.specs.declared.object.Kind.TheVariants as kind
use Rattle.wdf_model.specs.parts.Tree.{life_of, next_id}
use Rattle.wdf_model.specs.State.{State}
use Rattle.wdf_model.specs.declared.deed.Deed.TheVariants.{Arrive, CountArrival}
use Rattle.wdf_model.specs.Ids.{object_id}
use Rattle.wdf_model.specs.rules.Deeds.{arrive_at, do_deed, do_deeds}
use Rattle.wdf_model.specs.rules.Posts.{ARRIVALS, arrival_answer, arrival_deeds, arrival_info, arrival_place, arriving, due_of, may_arrive}
use Rattle.wdf_model.specs.rules.Steps.{after, may}
use Rattle.wdf_model.specs.agents.IdlePolicy.{arrives_for}
use Rattle.wdf_model.proofs.Sames.{handle_decides}

pub record Arriving {A : Type 0} (plan : Plan) (m : Meaning A) (S : State A) (e : Event) (r : Handle) : Type 0 where
  pub fresh : r.id.0 ≡ next_id S.tree
  pub few : nat_lt S.requests.arrived ARRIVALS ≡ true
  pub counted : (after plan m S e).requests.arrived ≡ S.requests.arrived + 1

live_answer : {A : Type 0} (S : State A) (r : Handle) (b : Bool) → same_option same_handle (if b then Some (arriving S) else None) (Some r) ≡ true → (b ≡ true) × (arriving S ≡ r)
live_answer S r true h = (refl, (handle_decides (arriving S) r).0 h)
live_answer S r false h = absurd (let z : ⊥ = cc in z)

one_more : {A : Type 0} (S : State A) (device : ℕ) (info : RequestInfo) (p : Place) → nat_lt 0 info.arrival ≡ true → (arrive_at S device info p).requests.arrived ≡ S.requests.arrived + 1
one_more S device info (place.Queued q) h = rw h refl
one_more S device info _ h = rw h refl

positive : (n : ℕ) → nat_lt 0 (n + 1) ≡ true
positive n = grind (arith, nat_tests)

counts : {A : Type 0} (plan : Plan) (S : State A) (agent : ℕ) (f : RequestForm) (n code device : ℕ) (b : Bool) → is_live (life_of S.tree device) ≡ b → b ≡ true → (do_deeds plan (arrival_deeds plan S agent f n code device) S).requests.arrived ≡ S.requests.arrived + 1
counts plan S agent f n code device false e h = absurd (let z : ⊥ = cc in z)
counts {A} plan S agent f n code device true e h =
    let T : State A = do_deed plan (CountArrival agent) S in
    let info : RequestInfo = arrival_info S agent f n code device in
    let p : Place = arrival_place plan S f n device in
    let one : (do_deeds plan (CountArrival agent ∷ Arrive (object_id device) info p ∷ []) S).requests.arrived ≡ S.requests.arrived + 1 = one_more T device info p (positive _) in
    subst (λ c. (do_deeds plan (CountArrival agent ∷ (if c then Arrive (object_id device) info p ∷ [] else [])) S).requests.arrived ≡ S.requests.arrived + 1) (sym e) one

by_parts : {A : Type 0} (plan : Plan) (m : Meaning A) (S : State A) (agent : ℕ) (p : Post) (r device : Handle) (f : RequestForm) (n code : ℕ)
    → may_arrive plan S device ≡ true → same_option same_handle (arrival_answer S device.id.0) (Some r) ≡ true
    → (after plan m S (event.Posted agent p (Some r))).requests.arrived ≡ (do_deeds plan (arrival_deeds plan S agent f n code device.id.0) S).requests.arrived
    → Arriving plan m S (event.Posted agent p (Some r)) r
by_parts plan m S agent p r device f n code fits answer is =
    let live = live_answer S r (is_live (life_of S.tree device.id.0)) answer in
    record {
      fresh = sym (ap (λ (x : Handle). x.id.0) live.1);
      few = both_right (is_handle plan kind.Device device) (nat_lt S.requests.arrived ARRIVALS) fits;
      counted = is ∙ counts plan S agent f n code device.id.0 (is_live (life_of S.tree device.id.0)) refl live.0;
    }

pub arrives_new : {A : Type 0} (plan : Plan) (m : Meaning A) (S : State A) (agent d : ℕ) (p : Post) (r : Handle) → may plan m S (event.Posted agent p (Some r)) ≡ true → arrives_for p ≡ Some d → Arriving plan m S (event.Posted agent p (Some r)) r
arrives_new plan m S agent d (post.Read device n) r h is =
    let due = same_option same_post (due_of m S agent) (Some (post.Read device n)) in
    by_parts plan m S agent (post.Read device n) r device form.Read n 0
    (both_right due (may_arrive plan S device) (both_left (due && may_arrive plan S device) (same_option same_handle (arrival_answer S device.id.0) (Some r)) h))
    (both_right (due && may_arrive plan S device) (same_option same_handle (arrival_answer S device.id.0) (Some r)) h) refl
arrives_new plan m S agent d (post.Write device n) r h is =
    let due = same_option same_post (due_of m S agent) (Some (post.Write device n)) in
    by_parts plan m S agent (post.Write device n) r device form.Write n 0
    (both_right due (may_arrive plan S device) (both_left (due && may_arrive plan S device) (same_option same_handle (arrival_answer S device.id.0) (Some r)) h))
    (both_right (due && may_arrive plan S device) (same_option same_handle (arrival_answer S device.id.0) (Some r)) h) refl
arrives_new plan m S agent d (post.Control device code n) r h is =
    let due = same_option same_post (due_of m S agent) (Some (post.Control device code n)) in
    by_parts plan m S agent (post.Control device code n) r device form.Control n code
    (both_right due (may_arrive plan S device) (both_left (due && may_arrive plan S device) (same_option same_handle (arrival_answer S device.id.0) (Some r)) h))
    (both_right (due && may_arrive plan S device) (same_option same_handle (arrival_answer S device.id.0) (Some r)) h) refl
arrives_new plan m S agent d (post.Cancel k) r h is = absurd (let z : ⊥ = cc in z)
arrives_new plan m S agent d (post.Ask a n) r h is = absurd (let z : ⊥ = cc in z)
arrives_new plan m S agent d (post.Act a) r h is = absurd (let z : ⊥ = cc in z)
arrives_new plan m S agent d (post.Done q s) r h is = absurd (let z : ⊥ = cc in z)
