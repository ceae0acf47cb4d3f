-- Posts are events of the plan, where their numbers fit.
use Rattle.std.proofs.Common.{if◌then◌else◌, ◌≡◌, ℕ, zero, suc, ◌==◌, ◌<◌, ◌≤◌, Bool, true, false, not, ◌&&◌, List, Option, Some, None, is_some, length, unwrap_or, option_map, option_and_then, slice_get, inl, inr, refl, subst, arith}
use Rattle.std.proofs.lemmas.Bool.{eqb-true}
use Rattle.std.proofs.lemmas.Option.{slice_get_within}
use Rattle.wdf_base.specs.Meaning.{Meaning}
use Rattle.wdf_base.specs.Resolved.{IsResolved, action_fits, device_of_register, is_handle, is_kind}
use Rattle.wdf_base.specs.declared.plan.Plan.{Plan}
use Rattle.wdf_base.specs.declared.ids.Handle.{Handle}
use Rattle.wdf_base.specs.declared.declared.Declared.{Declared}
use Rattle.wdf_base.specs.declared.declared.RegisterInfo.{RegisterInfo}
use Rattle.wdf_base.specs.declared.event.Action.{Action}
use Rattle.wdf_base.specs.declared.event.Action.TheVariants as action
use Rattle.wdf_base.specs.declared.event.Event.{Event}
use Rattle.wdf_base.specs.declared.event.Event.TheVariants as event
use Rattle.wdf_base.specs.declared.event.Post.{Post}
use Rattle.wdf_base.specs.declared.event.Post.TheVariants as post
use Rattle.wdf_base.specs.declared.object.Kind.{Kind}
use Rattle.wdf_base.specs.declared.object.Kind.TheVariants as kind
use Rattle.wdf_base.specs.declared.object.Place.{Place}
use Rattle.wdf_base.specs.declared.object.Place.TheVariants as place
use Rattle.wdf_base.specs.Kinds.{declared_name}
use Rattle.wdf_base.specs.Plan.{declared_of}
use Rattle.wdf_base.specs.Same.{same_handle, same_option, same_post}
use Rattle.wdf_base.specs.Lives.{is_live}
use Rattle.wdf_model.specs.Plans.{device_of_agent, target_of_agent}
use Rattle.wdf_model.specs.parts.Tree.{life_of}
use Rattle.wdf_model.specs.parts.Requests.{place_of}
use Rattle.wdf_model.specs.parts.Pnp.{busy}
use Rattle.wdf_model.specs.State.{State, handle_in, is_proper}
use Rattle.wdf_model.specs.rules.Posts.{arriving, cancel_at, cancel_deeds, cancel_reaches, due_of, may_finish, post_answer, post_deeds, post_fits}
use Rattle.wdf_model.specs.rules.Steps.{deeds, may}
use Rattle.wdf_model.specs.rules.Ready.{IsRunOf, ready, state_after}
use Rattle.law_machine_base.proofs.Follows.{follows}
use Rattle.wdf_model.proofs.Tests.{both_left, both_right}
use Rattle.wdf_model.specs.rules.Room.{AreDoable}
use Rattle.law_machine_room.proofs.DoableRuns.{ready_doable}
use Rattle.wdf_trace.specs.Events.{IsActionOf, IsEventOf, IsHandleOf, IsOptionalOf, IsPostOf}
use Rattle.law_lines.specs.PostNumbers.{ActionNumbersFit, PostNumbersFit}
use Rattle.law_lines.proofs.ProperNames.{at_id, handle_name, proper_name, some_name}
use Rattle.law_lines.proofs.OfPlan.{Bounded, bounded, few_declared, requests_few}
use Rattle.law_machine_counts.proofs.Sames.{option_handle_is}

-- ---- handles of declared objects

same_name : (n bound : ℕ) (o : Option ℕ) → unwrap_or o 0 < bound → same_option ◌==◌ o (Some n) ≡ true → n < bound
same_name n bound None below h = absurd (let z : ⊥ = cc in z)
same_name n bound (Some x) below h = let same : x ≡ n = eqb-true x n h in omega (arith, below, same)

named : (n bound : ℕ) (x : Option Declared) → ((d : Declared) → x ≡ Some d → unwrap_or (declared_name d) 0 < bound) → same_option ◌==◌ (option_and_then declared_name x) (Some n) ≡ true → n < bound
named n bound None below h = absurd (let z : ⊥ = cc in z)
named n bound (Some d) below h = same_name n bound (declared_name d) (below d refl) h

there_by : (plan : Plan) (n k : ℕ) (o : Option Declared) → slice_get plan.declared k ≡ o → same_option ◌==◌ (option_and_then declared_name o) (Some n) ≡ true → k < length plan.declared
there_by plan n k None e h = absurd (let z : ⊥ = cc in z)
there_by plan n k (Some d) e h = slice_get_within plan.declared k d e

declared_there : (plan : Plan) (n id : ℕ) → same_option ◌==◌ (option_and_then declared_name (declared_of plan id)) (Some n) ≡ true → id ≤ length plan.declared
declared_there plan n zero h = omega arith
declared_there plan n (suc k) h = let there = there_by plan n k (slice_get plan.declared k) refl h in omega (arith, there)

pub handle_of_plan : (plan : Plan) → IsResolved plan → (k : Kind) (o : Handle) → is_handle plan k o ≡ true → IsHandleOf plan o
handle_of_plan plan h k o is =
    let same : same_option ◌==◌ (option_and_then declared_name (declared_of plan o.id.0)) (Some o.name) ≡ true = both_right (is_kind plan k o.id.0) _ is in
    let there = declared_there plan o.name o.id.0 same in
    let few = few_declared plan h in
    (omega (arith, there, few), named o.name (length plan.names) (declared_of plan o.id.0) (at_id plan h o.id.0) same)

-- ---- actions

register_by : (plan : Plan) (r : ℕ) (o : Option RegisterInfo) (d : Option ℕ) → slice_get plan.registers r ≡ o → is_some d ≡ true → same_option ◌==◌ (option_map (λ (x : RegisterInfo). x.device.0) o) d ≡ true → r < length plan.registers
register_by plan r None None e is h = absurd (let z : ⊥ = cc in z)
register_by plan r None (Some d) e is h = absurd (let z : ⊥ = cc in z)
register_by plan r (Some x) d e is h = slice_get_within plan.registers r x e

action_of_plan : (plan : Plan) → IsResolved plan → (d : Option ℕ) (a : Action) → ActionNumbersFit a → action_fits plan d a ≡ true → IsActionOf plan a
action_of_plan plan h d (action.Set r n) fit is =
    (register_by plan r (slice_get plan.registers r) d refl (both_left (is_some d) (same_option ◌==◌ (device_of_register plan r) d) is) (both_right (is_some d) (same_option ◌==◌ (device_of_register plan r) d) is), fit)
action_of_plan plan h d (action.Raise i) fit is = handle_of_plan plan h kind.Interrupt i (both_left (is_handle plan kind.Interrupt i) _ is)
action_of_plan plan h d (action.Lower i) fit is = handle_of_plan plan h kind.Interrupt i (both_left (is_handle plan kind.Interrupt i) _ is)

-- ---- agents

due_by : {A : Type 0} (m : Meaning A) (agents : List A) (k : ℕ) (o : Option A) (p : Post) → slice_get agents k ≡ o → same_option same_post (option_and_then m.due o) (Some p) ≡ true → k < length agents
due_by m agents k None p e h = absurd (let z : ⊥ = cc in z)
due_by m agents k (Some a) p e h = slice_get_within agents k a e

module _ {A : Type 0} (plan : Plan) (m : Meaning A) (S : State A) (b : Bounded plan S) where
  arrival_of_plan : (x : Bool) → IsOptionalOf plan (if x then Some (arriving S) else None)
  arrival_of_plan false = tt
  arrival_of_plan true =
      let grown = b.room.growth.objects in
      let declared = few_declared plan b.resolved in
      let number = b.number in
      (omega (arith, grown, declared, number), some_name plan b.resolved)

  cancel_there : (p : Place) (r : ℕ) → AreDoable plan (cancel_at p r) S → r < length S.requests.all
  cancel_there (place.Queued q) r k = k.0.there
  cancel_there _ r k = k.0.there

  cancel_of_plan : (x : Option ℕ) → AreDoable plan (cancel_deeds S x) S → IsOptionalOf plan (option_map (handle_in plan S) x)
  cancel_of_plan None k = tt
  cancel_of_plan (Some r) k = (requests_few plan m S b r (cancel_there (place_of S.requests r) r k), handle_name plan S b.resolved r)

  finish_proper : (t : Option ℕ) (r : Handle) → may_finish plan S t r ≡ true → is_proper plan S r ≡ true
  finish_proper None r h = absurd (let z : ⊥ = cc in z)
  finish_proper (Some t) r h = search both_left

  post_of_plan : (agent : ℕ) (p : Post) → PostNumbersFit p → post_fits plan S agent p ≡ true → AreDoable plan (post_deeds plan S agent p) S → IsPostOf plan p (post_answer plan S agent p)
  post_of_plan agent (post.Read d n) fit h k = (handle_of_plan plan b.resolved kind.Device d (both_left (is_handle plan kind.Device d) _ h), fit, arrival_of_plan (is_live (life_of S.tree d.id.0)))
  post_of_plan agent (post.Write d n) fit h k = (handle_of_plan plan b.resolved kind.Device d (both_left (is_handle plan kind.Device d) _ h), fit, arrival_of_plan (is_live (life_of S.tree d.id.0)))
  post_of_plan agent (post.Control d c n) fit h k = (handle_of_plan plan b.resolved kind.Device d (both_left (is_handle plan kind.Device d) _ h), fit.0, fit.1, arrival_of_plan (is_live (life_of S.tree d.id.0)))
  post_of_plan agent (post.Cancel c) fit h k = (fit, cancel_of_plan (cancel_reaches S agent c) k)
  post_of_plan agent (post.Ask a d) fit h k =
      let is : is_handle plan kind.Device d ≡ true = both_right (agent == 0) (is_handle plan kind.Device d) (both_left (agent == 0 && is_handle plan kind.Device d) (not (busy S.pnp d.id.0)) h) in
      (handle_of_plan plan b.resolved kind.Device d is, refl)
  post_of_plan agent (post.Act a) fit h k = (action_of_plan plan b.resolved (device_of_agent plan agent) a fit h, refl)
  post_of_plan agent (post.Done r s) fit h k =
      ((requests_few plan m S b r.id.0 k.0.there, proper_name plan S b.resolved r (finish_proper (target_of_agent plan agent) r h)), refl)

  posted_of_plan : (agent : ℕ) (p : Post) (a : Option Handle) → PostNumbersFit p → may plan m S (event.Posted agent p a) ≡ true → AreDoable plan (deeds plan S (event.Posted agent p a)) S → IsEventOf plan (event.Posted agent p a)
  posted_of_plan agent p a fit h k =
      let two : (same_option same_post (due_of m S agent) (Some p) && post_fits plan S agent p) ≡ true = both_left (same_option same_post (due_of m S agent) (Some p) && post_fits plan S agent p) (same_option same_handle (post_answer plan S agent p) a) h in
      let same : post_answer plan S agent p ≡ a = option_handle_is (post_answer plan S agent p) a (both_right (same_option same_post (due_of m S agent) (Some p) && post_fits plan S agent p) (same_option same_handle (post_answer plan S agent p) a) h) in
      let there = due_by m S.agents agent (slice_get S.agents agent) p refl (both_left (same_option same_post (due_of m S agent) (Some p)) (post_fits plan S agent p) two) in
      let size = b.room.sizes.agents in
      let inside : agent ≤ length plan.agents = omega (arith, there, size) in
      let post = post_of_plan agent p fit (both_right (same_option same_post (due_of m S agent) (Some p)) (post_fits plan S agent p) two) k in
      (inside, subst (IsPostOf plan p) same post)

pub posts_of_plan : {A : Type 0} (plan : Plan) (m : Meaning A) (run : List Event) (place agent : ℕ) (p : Post) (a : Option Handle) → IsResolved plan → IsRunOf plan m run
    → slice_get (ready plan m run) place ≡ Some (event.Posted agent p a) → PostNumbersFit p → IsEventOf plan (event.Posted agent p a)
posts_of_plan plan m run place agent p a h is_run at fit =
    let S = state_after plan m run in
    let b = bounded plan m run h is_run in
    elim (follows plan m run place (event.Posted agent p a) at) [
      | inl comes ↦ posted_of_plan plan m S b agent p a fit comes (ready_doable plan m run place (event.Posted agent p a) h is_run b.room at)
      | inr t ↦ absurd (let e = t.tick in let z : ⊥ = cc in z)
    ]
