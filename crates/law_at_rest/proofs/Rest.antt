-- Where a run has finished or is stuck, nothing waits for time, and nothing that may come is due.
use Rattle.std.proofs.Common.{◌≡◌, ◌⊎◌, inl, inr, ℕ, zero, suc, ◌<◌, ◌==◌, Bool, true, false, ◌&&◌, ◌||◌, List, [], ◌∷◌, length, Option, Some, None, is_some, slice_get, refl, sym, ap, ◌∙◌}
use Rattle.std.specs.Prelude.{option_and_then, option_map}
use Rattle.std.specs.List.{list_any}
use Rattle.std.proofs.lemmas.Bool.{and_from, cases_Bool}
use Rattle.std.proofs.lemmas.Option.{same_Some, slice_get_within}
use Rattle.wdf_base.specs.Meaning.{Meaning}
use Rattle.wdf_base.specs.Same.{same_action, same_ask, same_handle, same_option, same_post, same_status}
use Rattle.wdf_base.specs.declared.event.Ask.{Ask}
use Rattle.wdf_base.specs.declared.event.Ask.TheVariants as ask
use Rattle.wdf_base.specs.declared.ids.Handle.{Handle}
use Rattle.wdf_base.specs.declared.plan.Plan.{Plan}
use Rattle.wdf_base.specs.declared.event.Event.{Event}
use Rattle.wdf_base.specs.declared.event.Ending.TheVariants as ending
use Rattle.wdf_base.specs.declared.event.Action.{Action}
use Rattle.wdf_base.specs.declared.event.Action.TheVariants as action
use Rattle.wdf_base.specs.declared.event.Post.{Post}
use Rattle.wdf_base.specs.declared.event.Post.TheVariants as post
use Rattle.wdf_model.specs.declared.enums.Group.TheVariants as group
use Rattle.wdf_model.specs.parts.Deferred.Timers.{any_later_timer}
use Rattle.wdf_model.specs.State.{State}
use Rattle.wdf_model.specs.rules.Groups.{posted}
use Rattle.wdf_model.specs.rules.Posts.{due_of, may_post, post_answer, post_fits}
use Rattle.wdf_model.specs.rules.Ready.{any_spends, ending_of, state_after}
use Rattle.wdf_model.proofs.Sames.{handle_decides, status_decides}
use Rattle.wdf_model.proofs.Tests.{itself, either_false}
use Rattle.law_stuck_causes.proofs.Endings.{AtRest, at_rest, may_not}
use Rattle.law_stuck_causes.proofs.Needs.{framework_group, placed_at}
use Rattle.law_stuck_causes.proofs.Stages.{handle_itself as answer_itself}
use Rattle.law_at_rest.specs.Rest.{NothingComes}

-- ---- a post is the same as itself

handle_itself : (h : Handle) → same_handle h h ≡ true
handle_itself h = (handle_decides h h).1 refl

action_itself : (a : Action) → same_action a a ≡ true
action_itself (action.Set r n) = and_from (r == r) (n == n) (itself r) (itself n)
action_itself (action.Raise i) = handle_itself i
action_itself (action.Lower i) = handle_itself i

ask_itself : (a : Ask) → same_ask a a ≡ true
ask_itself ask.Start = refl
ask_itself ask.Sleep = refl
ask_itself ask.Wake = refl
ask_itself ask.Rebalance = refl
ask_itself ask.Remove = refl
ask_itself ask.Surprise = refl

post_itself : (p : Post) → same_post p p ≡ true
post_itself (post.Read d n) = and_from (same_handle d d) (n == n) (handle_itself d) (itself n)
post_itself (post.Write d n) = and_from (same_handle d d) (n == n) (handle_itself d) (itself n)
post_itself (post.Control d c n) = and_from (same_handle d d && (c == c)) (n == n) (and_from (same_handle d d) (c == c) (handle_itself d) (itself c)) (itself n)
post_itself (post.Cancel k) = itself k
post_itself (post.Ask a d) = and_from (same_ask a a) (same_handle d d) (ask_itself a) (handle_itself d)
post_itself (post.Act a) = action_itself a
post_itself (post.Done r s) = and_from (same_handle r r) (same_status s s) (handle_itself r) ((status_decides s s).1 refl)

-- ---- time

none_of : {T : Type 0} (o : Option T) → is_some o ≡ false → o ≡ None
none_of None h = refl
none_of (Some x) h = absurd (let z : ⊥ = cc in z)

no_one : {T : Type 0} (p : T → Bool) (xs : List T) (k : ℕ) (x : T) → list_any p xs ≡ false → slice_get xs k ≡ Some x → p x ≡ false
no_one p [] k x h at = absurd (let z : ⊥ = cc in z)
no_one p (y ∷ ys) zero x h at = ap p (sym (same_Some y x at)) ∙ (either_false (p y) (list_any p ys) h).0
no_one p (y ∷ ys) (suc k) x h at = no_one p ys k x (either_false (p y) (list_any p ys) h).1 at

-- ---- posts

due_low : {A : Type 0} (m : Meaning A) (agents : List A) (k : ℕ) (o : Option A) (p : Post) → slice_get agents k ≡ o → option_and_then m.due o ≡ Some p → k < length agents
due_low m agents k (Some a) p at due = slice_get_within agents k a at
due_low m agents k None p at due = absurd (let z : ⊥ = cc in z)

module _ {A : Type 0} (plan : Plan) (m : Meaning A) (S : State A) (any : Bool) (rest : AtRest plan m S any) where
  held : (k : ℕ) (p : Post) → due_of m S k ≡ Some p → post_fits plan S k p ≡ false
  held k p due = elim (cases_Bool (post_fits plan S k p)) [
    | inr off ↦ off
    | inl fits ↦ absurd (
        let low : k < length S.agents = due_low m S.agents k (slice_get S.agents k) p refl due in
        let offered : option_map (posted plan S k) (due_of m S k) ≡ Some (posted plan S k p) = ap (option_map (posted plan S k)) due in
        let there = framework_group plan m S group.Posts (posted plan S k p) (inr (inr (inr (inr (inl refl))))) (placed_at plan m S group.Posts (length S.agents) k (posted plan S k p) low offered) in
        let never : may_post plan m S k p (post_answer plan S k p) ≡ false = may_not plan m S any (posted plan S k p) rest there in
        let same : same_option same_post (due_of m S k) (Some p) ≡ true = ap (λ o. same_option same_post o (Some p)) due ∙ post_itself p in
        let comes : may_post plan m S k p (post_answer plan S k p) ≡ true =
        and_from (same_option same_post (due_of m S k) (Some p) && post_fits plan S k p) (same_option same_handle (post_answer plan S k p) (post_answer plan S k p))
        (and_from (same_option same_post (due_of m S k) (Some p)) (post_fits plan S k p) same fits) (answer_itself (post_answer plan S k p)) in
        let z : ⊥ = cc (sym never ∙ comes) in z)
  ]

  quiet : NothingComes plan m S
  quiet =
      let first = either_false (any_spends S || any_later_timer S.timers S.clock) (list_any (λ a. is_some (m.next a)) S.agents) rest.untimed in
      let second = either_false (any_spends S) (any_later_timer S.timers S.clock) first.0 in
      record {
        spends = second.0;
        timers = second.1;
        later = λ k a at. none_of (m.next a) (no_one (λ b. is_some (m.next b)) S.agents k a first.1 at);
        posts = held;
      }

pub nothing_comes : {A : Type 0} (plan : Plan) (m : Meaning A) (run : List Event) → (ending_of plan m run ≡ ending.Finished) ⊎ (ending_of plan m run ≡ ending.Stuck) → NothingComes plan m (state_after plan m run)
nothing_comes plan m run (inl ends) = quiet plan m (state_after plan m run) false (at_rest plan m run false ends)
nothing_comes plan m run (inr ends) = quiet plan m (state_after plan m run) true (at_rest plan m run true ends)
