-- The event of a processor's top frame is what its place offers, and whether there is one.
use Rattle.std.proofs.Common.{◌≡◌, ◌<◌, ◌+◌, ◌-◌, ℕ, Bool, true, false, not, ◌&&◌, List, Option, Some, None, is_some, length, slice_get, refl, sym, ap, ◌∙◌, subst, arith}
use Rattle.std.specs.Option.{option_to_list}
use Rattle.wdf_base.specs.Meaning.{Meaning}
use Rattle.wdf_base.specs.declared.plan.Plan.{Plan}
use Rattle.wdf_base.specs.declared.event.Event.{Event}
use Rattle.wdf_base.specs.declared.frame.Frame.{Frame}
use Rattle.wdf_base.specs.declared.frame.Pending.{Pending}
use Rattle.wdf_model.specs.State.{State}
use Rattle.wdf_model.specs.Tables.{flag}
use Rattle.wdf_model.specs.declared.enums.Group.{Group}
use Rattle.wdf_model.specs.declared.enums.Group.TheVariants as group
use Rattle.wdf_model.specs.parts.Cpus.{frame_of, top}
use Rattle.wdf_model.specs.rules.Calls.{is_met}
use Rattle.wdf_model.specs.rules.Steps.{event_of_frame, event_of_top, own_event, spends, waits_on, woken_event}
use Rattle.law_machine_own.proofs.MayCome.{own_may}
use Rattle.wdf_offers.specs.Search.{if_allowed, offered, offered_from}

module _ {A : Type 0} (plan : Plan) (m : Meaning A) (S : State A) (cpu : ℕ) where
  own_kept : (o : Option Event) → own_event plan m S cpu ≡ o → o ≡ if_allowed plan m S o
  own_kept None own = refl
  own_kept (Some e) own = rw (own_may plan m S cpu e own) refl

  pub own_is_offered : (g : Group) (k : ℕ) → group.OwnEvent cpu ≡ g → own_event plan m S cpu ≡ offered plan m S g k
  own_is_offered g k is = subst (λ h. own_event plan m S cpu ≡ offered plan m S h k) is (own_kept (own_event plan m S cpu) refl)

  -- ---- whether there is one

  woken_some : (p : Pending) (b : Bool) → is_met S p.call ≡ b → is_some (woken_event S cpu p) ≡ not (not (is_met S p.call))
  woken_some p true e = rw e refl
  woken_some p false e = rw e refl

  frame_some : (f : ℕ) (frame : Frame) (p : Option Pending) → is_some (event_of_frame plan m S cpu f frame p) ≡ not (waits_on S p)
  frame_some f frame None = refl
  frame_some f frame (Some p) = woken_some p (is_met S p.call) refl

  top_some : (f : ℕ) (b : Bool) → spends S (frame_of S.cpus f) ≡ b → is_some (event_of_top plan m S cpu (Some f)) ≡ (not (spends S (frame_of S.cpus f)) && not (waits_on S (frame_of S.cpus f).pending))
  top_some f true e = rw e refl
  top_some f false e = rw e (frame_some f (frame_of S.cpus f) (frame_of S.cpus f).pending)

  -- a frame that neither spends nor waits in vain has one, and another none
  pub awake_has_own : (f : ℕ) → top S.cpus cpu ≡ Some f → (not (spends S (frame_of S.cpus f)) && not (waits_on S (frame_of S.cpus f).pending)) ≡ is_some (own_event plan m S cpu)
  awake_has_own f e = sym (top_some f (spends S (frame_of S.cpus f)) refl) ∙ ap (λ t. is_some (event_of_top plan m S cpu t)) (sym e)

  pub empty_has_none : top S.cpus cpu ≡ None → false ≡ is_some (own_event plan m S cpu)
  empty_has_none e = ap (λ t. is_some (event_of_top plan m S cpu t)) (sym e)

  counted_by : (o : Option Event) → offered plan m S (group.OwnEvent cpu) 0 ≡ o → length (offered_from plan m S (group.OwnEvent cpu) 0) ≡ flag (is_some o)
  counted_by None e = rw e refl
  counted_by (Some x) e = rw e refl

  own_counted : length (offered_from plan m S (group.OwnEvent cpu) 0) ≡ flag (is_some (own_event plan m S cpu))
  own_counted = counted_by (own_event plan m S cpu) (sym (own_is_offered (group.OwnEvent cpu) 0 refl))

  pub one_own : is_some (own_event plan m S cpu) ≡ true → 1 ≡ length (offered_from plan m S (group.OwnEvent cpu) 0)
  one_own e = sym (own_counted ∙ ap flag e)

  pub no_own : is_some (own_event plan m S cpu) ≡ false → 0 ≡ length (offered_from plan m S (group.OwnEvent cpu) 0)
  no_own e = sym (own_counted ∙ ap flag e)

-- ---- a group with one place

module _ {A : Type 0} (plan : Plan) (m : Meaning A) (S : State A) (cpu : ℕ) where
  own_by : (o : Option Event) → offered plan m S (group.OwnEvent cpu) 0 ≡ o → offered_from plan m S (group.OwnEvent cpu) 0 ≡ option_to_list o
  own_by None e = rw e refl
  own_by (Some x) e = rw e refl

  -- what may come of a frame's own group is its own event
  pub own_alone : (o : Option Event) → o ≡ own_event plan m S cpu → offered_from plan m S (group.OwnEvent cpu) 0 ≡ option_to_list o
  own_alone o e = own_by o (sym (own_is_offered plan m S cpu (group.OwnEvent cpu) 0 refl) ∙ sym e)

  -- and of the group of those that leave a processor the one at its place
  pub park_alone : (o : Option Event) → o ≡ offered plan m S (group.Parks cpu) 0 → offered_from plan m S (group.Parks cpu) 0 ≡ option_to_list o
  park_alone None e = rw (← e) refl
  park_alone (Some x) e = rw (← e) refl

pub first_alone : (all : List Event) (o : Option Event) (k : ℕ) (e : Event) → all ≡ option_to_list o → o ≡ Some e → k ≡ 0 → slice_get all k ≡ Some e
first_alone all o k e is some first = rw (is, some, first) refl

pub passed_alone : (all : List Event) (o : Option Event) (k : ℕ) (e : Event) → all ≡ option_to_list o → o ≡ Some e → 0 < k → length all + (k - 1) ≡ k
passed_alone all o k e is some after = rw (is, some) (omega arith)

pub none_alone : (all : List Event) (o : Option Event) (k : ℕ) → all ≡ option_to_list o → o ≡ None → length all + k ≡ k
none_alone all o k is none = rw (is, none) (omega arith)

pub one_alone : (all : List Event) (o : Option Event) (e : Event) → all ≡ option_to_list o → o ≡ Some e → 1 ≡ length all
one_alone all o e is some = rw (is, some) refl

pub zero_alone : (all : List Event) (o : Option Event) → all ≡ option_to_list o → o ≡ None → 0 ≡ length all
zero_alone all o is none = rw (is, none) refl
