-- What each agent of the program is by its number, at each place of a run.
use Rattle.std.proofs.Common.{if◌then◌else◌, ◌≡◌, inl, inr, ℕ, ◌<◌, ◌≤◌, ◌==◌, Bool, true, false, ◌&&◌, nat_lt, List, length, Option, Some, None, slice_get, refl, sym, ap, arith, eqb-true}
use Rattle.std.specs.List.{list_all}
use Rattle.std.proofs.lemmas.Bool.{ltb-true}
use Rattle.wdf_base.specs.Plan.{posts_of}
use Rattle.wdf_base.specs.Resolved.{IsResolved, app_post}
use Rattle.wdf_base.specs.declared.plan.Plan.{Plan}
use Rattle.wdf_base.specs.declared.event.Event.{Event}
use Rattle.wdf_base.specs.declared.event.Event.TheVariants as event
use Rattle.wdf_base.specs.declared.event.Post.{Post}
use Rattle.wdf_base.specs.declared.event.Post.TheVariants as post
use Rattle.wdf_base.specs.declared.ids.Handle.{Handle}
use Rattle.wdf_base.specs.declared.value.Value.{Value}
use Rattle.wdf_base.specs.declared.value.Value.TheVariants.{Num}
use Rattle.wdf_base.specs.declared.call.Arg.{Arg}
use Rattle.wdf_base.specs.declared.call.Call.{Call}
use Rattle.wdf_base.specs.declared.call.CallKind.{CallKind}
use Rattle.wdf_base.specs.declared.call.CallKind.TheVariants as call
use Rattle.wdf_base.specs.Same.{same_value}
use Rattle.wdf_model.specs.Plans.{device_of_agent, is_app, target_of_agent}
use Rattle.wdf_model.specs.State.{object_in}
use Rattle.wdf_base.specs.Values.{arg_is}
use Rattle.wdf_model.specs.rules.Ready.{IsRunOf, state_after}
use Rattle.wdf_model.specs.agents.App as app
use Rattle.wdf_model.specs.agents.LowerTarget.{LowerTarget, handle_in_arg, stop_called, target_after, target_called, target_posted, told, told_all, told_if_any, with_sent, without_request}
use Rattle.wdf_model.proofs.Tests.{both_right}
use Rattle.wdf_dev.specs.Agents as dev
use Rattle.wdf_dev.specs.Agents.{agent_at, agent_meaning}
use Rattle.wdf_dev.specs.declared.any.AnyAgent.{AnyAgent}
use Rattle.wdf_dev.specs.declared.any.AnyAgent.TheVariants as agent
use Rattle.law_at_rest.proofs.Agents.{have}
use Rattle.law_at_rest.proofs.Devices.{IsActOf, IsSuch, begin_such, such_after}
use Rattle.law_at_rest.proofs.Lines.{app_lines}

-- ---- apps and the manager

-- it has the lines of its number, and has posted some of them
pub record HasLines (plan : Plan) (k : ℕ) (p : app.App) : Type 0 where
  pub number : p.agent ≡ k
  pub lines : p.lines ≡ posts_of plan k
  pub within : p.posted ≤ length p.lines

posted_more : (plan : Plan) (k a : ℕ) (p : app.App) (b : Bool) → (a == p.agent && nat_lt p.posted (length p.lines)) ≡ b → HasLines plan k p → HasLines plan k (app.after_post a p)
posted_more plan k a p true e h =
    let low : p.posted < length p.lines = ltb-true p.posted (length p.lines) (both_right (a == p.agent) (nat_lt p.posted (length p.lines)) e) in
    rw e (record { number = h.number; lines = h.lines; within = omega (arith, low) })
posted_more plan k a p false e h = rw e h

lines_after : (plan : Plan) (k : ℕ) (p : app.App) (e : Event) → HasLines plan k p → HasLines plan k (app.app_after p e)
lines_after plan k p (event.Posted a q answer) h = posted_more plan k a p (a == p.agent && nat_lt p.posted (length p.lines)) refl h
lines_after plan k p (event.Tick time) h = record { number = h.number; lines = h.lines; within = h.within }
lines_after plan k p _ h = h

begin_lines : (plan : Plan) (k : ℕ) → HasLines plan k (app.app_at plan k)
begin_lines plan k = record { number = refl; lines = refl; within = omega arith }

-- ---- targets

-- the target of its number
pub record IsOfTarget (plan : Plan) (k : ℕ) (t : LowerTarget) : Type 0 where
  pub number : t.agent ≡ k
  pub target : target_of_agent plan k ≡ Some t.target

module _ (plan : Plan) (k : ℕ) where
  either_target : (b : Bool) (t u : LowerTarget) → IsOfTarget plan k t → IsOfTarget plan k u → IsOfTarget plan k (if b then t else u)
  either_target true t u h i = h
  either_target false t u h i = i

  sent_of : (t : LowerTarget) (r : Option Handle) → IsOfTarget plan k t → IsOfTarget plan k (with_sent t r)
  sent_of t None h = h
  sent_of t (Some r) h = either_target (nat_lt (length t.sent) t.depth) _ t (record { number = h.number; target = h.target }) h

  told_of : (t : LowerTarget) (r : Option Handle) → IsOfTarget plan k t → IsOfTarget plan k (told_if_any t r)
  told_of t None h = h
  told_of t (Some r) h = record { number = h.number; target = h.target }

  stop_of : (t : LowerTarget) (c : Call) → IsOfTarget plan k t → IsOfTarget plan k (stop_called t c)
  stop_of t c h = either_target (object_in c.a == t.target && arg_is c.b 0) (told_all t) t (record { number = h.number; target = h.target }) h

  called_by : (t : LowerTarget) (kind : CallKind) (n : ℕ) (a b c : Arg) (v : Value) → IsOfTarget plan k t → IsOfTarget plan k (target_called t (record { kind = kind; count = n; a = a; b = b; c = c }) v)
  called_by t call.WdfRequestSend n a b c v h = either_target (object_in b == t.target && same_value v (Num 1)) (with_sent t (handle_in_arg a)) t (sent_of t (handle_in_arg a) h) h
  called_by t call.WdfRequestCancelSentRequest n a b c v h = either_target (same_value v (Num 1)) (told t (object_in a)) t (record { number = h.number; target = h.target }) h
  called_by t call.WdfIoTargetStop n a b c v h = stop_of t (record { kind = call.WdfIoTargetStop; count = n; a = a; b = b; c = c }) h
  called_by t _ n a b c v h = h

  awaited_by : (t : LowerTarget) (kind : CallKind) (n : ℕ) (a b c : Arg) → IsOfTarget plan k t → IsOfTarget plan k (target_after t (event.Waiting (record { 0 = 0 }) (record { kind = kind; count = n; a = a; b = b; c = c })))
  awaited_by t call.WdfIoTargetStop n a b c h = stop_of t (record { kind = call.WdfIoTargetStop; count = n; a = a; b = b; c = c }) h
  awaited_by t _ n a b c h = h

  posted_of : (t : LowerTarget) (by : ℕ) (p : Post) (answer : Option Handle) → IsOfTarget plan k t → IsOfTarget plan k (target_posted t by p answer)
  posted_of t by (post.Done r s) answer h = either_target (by == t.agent) (without_request t r.id.0) t (record { number = h.number; target = h.target }) h
  posted_of t by (post.Cancel j) answer h = told_of t answer h
  posted_of t by (post.Read d n) answer h = h
  posted_of t by (post.Write d n) answer h = h
  posted_of t by (post.Control d c n) answer h = h
  posted_of t by (post.Ask a d) answer h = h
  posted_of t by (post.Act a) answer h = h

  target_still : (t : LowerTarget) (e : Event) → IsOfTarget plan k t → IsOfTarget plan k (target_after t e)
  target_still t (event.Did cpu c v) h = called_by t c.kind c.count c.a c.b c.c v h
  target_still t (event.Waiting cpu c) h = awaited_by t c.kind c.count c.a c.b c.c h
  target_still t (event.Posted by p answer) h = posted_of t by p answer h
  target_still t (event.Tick time) h = record { number = h.number; target = h.target }
  target_still t _ h = h

-- ---- all agents

-- what an agent of the program is by its number
abbrev pub IsItself : Plan → ℕ → AnyAgent → Type 0
IsItself plan k (agent.PnpManager p) = HasLines plan k p × (k ≡ 0)
IsItself plan k (agent.App p) = HasLines plan k p × (list_all (app_post plan) (posts_of plan k) ≡ true)
IsItself plan k (agent.Device d) = IsSuch (IsActOf plan (device_of_agent plan k)) k d
IsItself plan k (agent.LowerTarget t) = IsOfTarget plan k t

itself_after : (plan : Plan) (k : ℕ) (a : AnyAgent) (e : Event) → IsItself plan k a → IsItself plan k (dev.agent_after a e)
itself_after plan k (agent.PnpManager p) e h = (lines_after plan k p e h.0, h.1)
itself_after plan k (agent.App p) e h = (lines_after plan k p e h.0, h.1)
itself_after plan k (agent.Device d) e h = such_after (IsActOf plan (device_of_agent plan k)) k d e h
itself_after plan k (agent.LowerTarget t) e h = target_still plan k t e h

module _ (plan : Plan) (resolved : IsResolved plan) where
  begin_last : (k : ℕ) → (k == 0) ≡ false → is_app plan k ≡ false → (d t : Option ℕ) → device_of_agent plan k ≡ d → target_of_agent plan k ≡ t → IsItself plan k (dev.device_or_target plan k d t)
  begin_last k e f (Some d) t at on =
      rw at (record { number = refl; actions = begin_such plan resolved k d at })
  begin_last k e f None (Some t) at on = record { number = refl; target = on }
  begin_last k e f None None at on = (begin_lines plan k, app_lines plan resolved k e (inr (f, at)))

  begin_by : (k : ℕ) (first second : Bool) → (k == 0) ≡ first → is_app plan k ≡ second → IsItself plan k (agent_at plan k)
  begin_by k true second e f =
      let same : k ≡ 0 = eqb-true k 0 e in
      rw e (record { number = sym same; lines = ap (posts_of plan) (sym same); within = omega arith }, same)
  begin_by k false true e f = rw (e, f) (begin_lines plan k, app_lines plan resolved k e (inl f))
  begin_by k false false e f = rw (e, f) (begin_last k e f (device_of_agent plan k) (target_of_agent plan k) refl refl)

  pub itself_at_first : (k : ℕ) → IsItself plan k (agent_at plan k)
  itself_at_first k = begin_by k (k == 0) (is_app plan k) refl refl

  -- at the end of a run
  pub itself : (run : List Event) → IsRunOf plan agent_meaning run → (k : ℕ) (a : AnyAgent) → slice_get (state_after plan agent_meaning run).agents k ≡ Some a → IsItself plan k a
  itself run is_run k a at = have plan agent_meaning (IsItself plan) itself_at_first (itself_after plan) run is_run k a at
