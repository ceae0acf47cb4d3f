-- What the policy knows of a device changes with an event as the words of the law do.
use Rattle.std.proofs.Common.{if◌then◌else◌, ℕ, ◌≡◌, ◌==◌, Bool, true, false, not, ◌&&◌, ◌||◌, Option, Some, None, is_some, refl, sym}
use Rattle.std.proofs.Math.Bool.{or-false}
use Rattle.wdf_base.specs.declared.ids.Cpu.{Cpu}
use Rattle.wdf_base.specs.declared.ids.Handle.{Handle}
use Rattle.wdf_base.specs.declared.value.Value.{Value}
use Rattle.wdf_base.specs.declared.call.Callback.{Callback}
use Rattle.wdf_base.specs.declared.call.Callback.TheVariants as callback
use Rattle.wdf_base.specs.declared.event.Access.TheVariants as access
use Rattle.wdf_base.specs.declared.event.Action.{Action}
use Rattle.wdf_base.specs.declared.event.Action.TheVariants as action
use Rattle.wdf_base.specs.declared.event.Ask.{Ask}
use Rattle.wdf_base.specs.declared.event.Stage.{Stage}
use Rattle.wdf_base.specs.declared.event.Stage.TheVariants as stage
use Rattle.wdf_base.specs.declared.event.Post.{Post}
use Rattle.wdf_base.specs.declared.event.Post.TheVariants as post
use Rattle.wdf_base.specs.declared.event.Event.{Event}
use Rattle.wdf_base.specs.declared.event.Event.TheVariants as event
use Rattle.wdf_model.specs.agents.IdlePolicy.{IdleDevice, asleep_after, awake_after, ends_asleep, ends_awake, hold_after, is_of, was_asleep_after, was_awake_after}
use Rattle.wdf_laws.specs.Events.{is_id, where_so}
use Rattle.law_idle.specs.Idling.{Rest, asleep_step, awake_step, hold_step, is_ended}
use Rattle.wdf_base.specs.Values.{is_success}

-- ---- truth values

comes : (a o w : Bool) → (a || o) ≡ ((o || (a && true)) || (w && false))
comes true true w = refl
comes true false true = refl
comes true false false = refl
comes false true w = refl
comes false false true = refl
comes false false false = refl

stays : (a w : Bool) → a ≡ ((false || (a && true)) || (w && false))
stays true w = refl
stays false true = refl
stays false false = refl

goes : (ends : Ask → Bool) (a w b : Bool) (x : Ask) → (a && not (b && ends x)) ≡ ((false || (a && not (is_ended ends (if b then Some x else None)))) || (w && false))
goes ends a true true x = sym (or-false (a && not (ends x)))
goes ends a false true x = sym (or-false (a && not (ends x)))
goes ends true w false x = refl
goes ends false true false x = refl
goes ends false false false x = refl

was : (a w b : Bool) (x : Ask) → (if b then a else w) ≡ (if is_some (if b then Some x else None) then a else w)
was a w true x = refl
was a w false x = refl

shown : (d o : ℕ) (b : Bool) → is_id d (where_so b (Some o)) ≡ (b && o == d)
shown d o true = refl
shown d o false = refl

comes_back : (a w o b : Bool) → (a || (w && true && (o && not b))) ≡ ((false || (a && true)) || (w && ((not b && o) || false)))
comes_back true w o b = refl
comes_back false true true true = refl
comes_back false true true false = refl
comes_back false true false true = refl
comes_back false true false false = refl
comes_back false false o b = refl

comes_back_too : (a w o b : Bool) → (a || (w && true && (o && not b))) ≡ ((false || (a && true)) || (w && (not b && o)))
comes_back_too true w o b = refl
comes_back_too false true true true = refl
comes_back_too false true true false = refl
comes_back_too false true false true = refl
comes_back_too false true false false = refl
comes_back_too false false o b = refl

no_way : (a w c : Bool) → (a || (w && false && c)) ≡ ((false || (a && true)) || (w && false))
no_way true w c = refl
no_way false true c = refl
no_way false false c = refl

module _ (x : IdleDevice) where
  abbrev d : ℕ
  d = x.device.id.0

  abbrev pub awake_now : Rest
  awake_now = record { now = x.awake; before = x.was_awake }

  abbrev pub asleep_now : Rest
  asleep_now = record { now = x.asleep; before = x.was_asleep }

  -- ---- stages

  awake_stage : (n : Handle) (s : Stage) (i : Option Handle) → awake_after x (event.Stage n s i) ≡ (awake_step d awake_now (event.Stage n s i)).now
  awake_stage n stage.Working i = comes x.awake (is_of x n) x.was_awake
  awake_stage n _ i = stays x.awake x.was_awake

  asleep_stage : (n : Handle) (s : Stage) (i : Option Handle) → asleep_after x (event.Stage n s i) ≡ (asleep_step d asleep_now (event.Stage n s i)).now
  asleep_stage n stage.Sleeping i = comes x.asleep (is_of x n) x.was_asleep
  asleep_stage n _ i = stays x.asleep x.was_asleep

  -- ---- posts

  awake_post : (agent : ℕ) (p : Post) (answer : Option Handle) → awake_after x (event.Posted agent p answer) ≡ (awake_step d awake_now (event.Posted agent p answer)).now
  awake_post agent (post.Ask a n) answer = goes ends_awake x.awake x.was_awake (is_of x n) a
  awake_post agent _ answer = stays x.awake x.was_awake

  asleep_post : (agent : ℕ) (p : Post) (answer : Option Handle) → asleep_after x (event.Posted agent p answer) ≡ (asleep_step d asleep_now (event.Posted agent p answer)).now
  asleep_post agent (post.Ask a n) answer = goes ends_asleep x.asleep x.was_asleep (is_of x n) a
  asleep_post agent _ answer = stays x.asleep x.was_asleep

  was_awake_post : (agent : ℕ) (p : Post) (answer : Option Handle) → was_awake_after x (event.Posted agent p answer) ≡ (awake_step d awake_now (event.Posted agent p answer)).before
  was_awake_post agent (post.Ask a n) answer = was x.awake x.was_awake (is_of x n) a
  was_awake_post agent _ answer = refl

  was_asleep_post : (agent : ℕ) (p : Post) (answer : Option Handle) → was_asleep_after x (event.Posted agent p answer) ≡ (asleep_step d asleep_now (event.Posted agent p answer)).before
  was_asleep_post agent (post.Ask a n) answer = was x.asleep x.was_asleep (is_of x n) a
  was_asleep_post agent _ answer = refl

  -- ---- ends

  awake_end : (cpu : Cpu) (c : Callback) (o : Handle) (v : Value) → awake_after x (event.End cpu c o v) ≡ (awake_step d awake_now (event.End cpu c o v)).now
  awake_end cpu callback.EvtDeviceQueryStop o v =
      rw (shown d o.id.0 (not (is_success v))) (comes_back x.awake x.was_awake (is_of x o) (is_success v))
  awake_end cpu callback.EvtDeviceQueryRemove o v =
      rw (shown d o.id.0 (not (is_success v))) (comes_back_too x.awake x.was_awake (is_of x o) (is_success v))
  awake_end cpu _ o v = no_way x.awake x.was_awake (is_of x o && not (is_success v))

  asleep_end : (cpu : Cpu) (c : Callback) (o : Handle) (v : Value) → asleep_after x (event.End cpu c o v) ≡ (asleep_step d asleep_now (event.End cpu c o v)).now
  asleep_end cpu callback.EvtDeviceQueryRemove o v =
      rw (shown d o.id.0 (not (is_success v))) (comes_back_too x.asleep x.was_asleep (is_of x o) (is_success v))
  asleep_end cpu _ o v = no_way x.asleep x.was_asleep (is_of x o && not (is_success v))

  -- ---- any event

  pub awake_as : (e : Event) → awake_after x e ≡ (awake_step d awake_now e).now
  awake_as (event.Stage n s i) = awake_stage n s i
  awake_as (event.Posted agent p answer) = awake_post agent p answer
  awake_as (event.End cpu c o v) = awake_end cpu c o v
  awake_as _ = stays x.awake x.was_awake

  pub asleep_as : (e : Event) → asleep_after x e ≡ (asleep_step d asleep_now e).now
  asleep_as (event.Stage n s i) = asleep_stage n s i
  asleep_as (event.Posted agent p answer) = asleep_post agent p answer
  asleep_as (event.End cpu c o v) = asleep_end cpu c o v
  asleep_as _ = stays x.asleep x.was_asleep

  pub was_awake_as : (e : Event) → was_awake_after x e ≡ (awake_step d awake_now e).before
  was_awake_as (event.Posted agent p answer) = was_awake_post agent p answer
  was_awake_as _ = refl

  pub was_asleep_as : (e : Event) → was_asleep_after x e ≡ (asleep_step d asleep_now e).before
  was_asleep_as (event.Posted agent p answer) = was_asleep_post agent p answer
  was_asleep_as _ = refl

  held_action : (agent : ℕ) (a : Action) (answer : Option Handle) → hold_after x (event.Posted agent (post.Act a) answer) ≡ hold_step x.hold_register x.hold (event.Posted agent (post.Act a) answer)
  held_action agent (action.Set k v) answer = refl
  held_action agent _ answer = refl

  held_post : (agent : ℕ) (p : Post) (answer : Option Handle) → hold_after x (event.Posted agent p answer) ≡ hold_step x.hold_register x.hold (event.Posted agent p answer)
  held_post agent (post.Act a) answer = held_action agent a answer
  held_post agent _ answer = refl

  pub hold_as : (e : Event) → hold_after x e ≡ hold_step x.hold_register x.hold e
  hold_as (event.Register cpu access.Write k v) = refl
  hold_as (event.Register cpu access.Read k v) = refl
  hold_as (event.Posted agent p answer) = held_post agent p answer
  hold_as _ = refl
