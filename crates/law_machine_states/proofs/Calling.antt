-- At each event of a run with a call: the call has the objects that its row asks for. They haven't ended, and nothing from
-- there upwards was cleaned up, but for the calls that may come late.
use Rattle.std.proofs.Common.{◌≡◌, ℕ, true, false, List, Some, None, slice_get, take, refl, subst, ◌∙◌}
use Rattle.wdf_base.specs.Meaning.{Meaning}
use Rattle.wdf_base.specs.declared.plan.Plan.{Plan}
use Rattle.wdf_base.specs.declared.call.Call.{Call}
use Rattle.wdf_base.specs.declared.event.Event.{Event}
use Rattle.wdf_base.specs.declared.event.Event.TheVariants as event
use Rattle.wdf_base.specs.declared.event.Fault.{Fault}
use Rattle.wdf_base.specs.declared.event.Fault.TheVariants as fault
use Rattle.wdf_base.specs.declared.object.Life.{Life}
use Rattle.wdf_base.specs.declared.object.Life.TheVariants as life
use Rattle.wdf_base.specs.Calls.{signature_of}
use Rattle.wdf_base.specs.Lives.{is_cleaned, is_gone, is_past_cleanup}
use Rattle.wdf_model.specs.parts.Tree.{life_of}
use Rattle.wdf_model.specs.State.{State}
use Rattle.wdf_model.specs.rules.Faults.{call_faults}
use Rattle.wdf_model.specs.rules.Steps.{may, view_of}
use Rattle.wdf_model.specs.rules.Ready.{IsRunOf, state_after}
use Rattle.wdf_model.proofs.Tests.{all_three}
use Rattle.wdf_laws.specs.declared.sign.Sign.TheVariants as sign
use Rattle.wdf_laws.specs.Family.{cleaned_above, most_above}
use Rattle.wdf_laws.specs.Family as law
use Rattle.wdf_laws.specs.Words.{ever}
use Rattle.law_machine_base.proofs.OwnEvents.{did_tells, waiting_tells, woke_tells}
use Rattle.law_machine_lives.proofs.Keeping.{comes}
use Rattle.law_machine_lives.proofs.Lives.{early_there}
use Rattle.law_machine_lives.proofs.SoundEvents.{top_on}
use Rattle.law_trace_once.proofs.Ends.{cleanup_tells, end_tells, never, told_at_each}
use Rattle.law_trace_families.proofs.Orders.{closed_at, none_above}
use Rattle.law_machine_states.specs.Naming.{call_of, has_object, has_objects, may_come_late, names}
use Rattle.law_machine_states.proofs.Naming.{IsNameable, late_rows, nameable, none_asked, objects_there}
use Rattle.law_machine_states.proofs.Waiting.{Awaited, awaited_at_each, names_first}

neither : (l : Life) → is_cleaned l ≡ false → is_gone l ≡ false → is_past_cleanup l ≡ false
neither life.Live h k = refl
neither life.Asked h k = refl
neither life.Cleaned h k = absurd (let z : ⊥ = cc in z)
neither life.Gone h k = absurd (let z : ⊥ = cc in z)

module _ {A : Type 0} (plan : Plan) (m : Meaning A) (run : List Event) (is_run : IsRunOf plan m run) (n : ℕ) where
  abbrev S : State A
  S = state_after plan m (take n run)

  -- ---- what a call names

  -- a call has the objects that its row asks for, and each object that it names is as it needs it
  abbrev Apt : Call → Type 0
  Apt c = (has_objects S.tree c ≡ true) × ((o : ℕ) → names c o ≡ true → IsNameable (signature_of c.kind).cleaned (life_of S.tree o))

  clean_apt : (cpu f : ℕ) (c : Call) → ((x : Fault) → call_faults (view_of plan S cpu f) c x ≡ false) → Apt c
  clean_apt cpu f c clean = (objects_there plan S cpu f c clean, λ o named. nameable (view_of plan S cpu f) (signature_of c.kind).cleaned c o (clean fault.StaleHandle) named)

  awaited_apt : (c : Call) → Awaited S.tree c → Apt c
  awaited_apt c it = (
    all_three (has_object S.tree (signature_of c.kind).a c.a) (has_object S.tree (signature_of c.kind).b c.b) (has_object S.tree (signature_of c.kind).c c.c)
        it.object (none_asked S.tree (signature_of c.kind).b c.b it.one.second_) (none_asked S.tree (signature_of c.kind).c c.c it.one.third),
    λ o named.
        let early : is_past_cleanup (life_of S.tree o) ≡ false = subst (λ x. is_past_cleanup (life_of S.tree x) ≡ false) (names_first c it.one o named) it.early in
        record { there = early_there (life_of S.tree o) early; early = λ e. early },
  )

  apt_by : (e : Event) (c : Call) → may plan m S e ≡ true → call_of e ≡ Some c → Apt c
  apt_by (event.Did cpu d v) c h is = let t = did_tells plan m S cpu d v h in let same : d ≡ c = cc in subst Apt same (clean_apt cpu.0 t.frame d t.about.clean)
  apt_by (event.Waiting cpu d) c h is = let t = waiting_tells plan m S cpu d h in let same : d ≡ c = cc in subst Apt same (clean_apt cpu.0 t.frame d t.about.clean)
  apt_by (event.Woke cpu d v) c h is =
      let t = woke_tells plan m S cpu d v h in
      let same : d ≡ c = cc in
      subst Apt same (awaited_apt d (awaited_at_each plan m run is_run n t.frame (record { call = d; answer = v }) (top_on S.cpus cpu.0 t.frame t.top) t.waits))
  apt_by _ c h is = absurd (let z : ⊥ = cc in z)

  apt_at : (e : Event) (c : Call) → slice_get run n ≡ Some e → call_of e ≡ Some c → Apt c
  apt_at e c at is = apt_by e c (comes plan m run n e is_run at (λ time same. let none : None ≡ Some c = subst (λ x. call_of x ≡ Some c) same is in let z : ⊥ = cc in z)) is

  pub objects_at : (e : Event) (c : Call) → slice_get run n ≡ Some e → call_of e ≡ Some c → has_objects S.tree c ≡ true
  objects_at e c at is = (apt_at e c at is).0

  -- ---- in the words of the events

  pub not_ended : (e : Event) (c : Call) (o : ℕ) → slice_get run n ≡ Some e → call_of e ≡ Some c → names c o ≡ true → ever (sign.Destroyed o) (take n run) ≡ false
  not_ended e c o at is named =
      never is_gone sign.Destroyed (take n run) S o (told_at_each is_gone sign.Destroyed plan m (end_tells plan m) run is_run n) ((apt_at e c at is).1 o named).there (ever (sign.Destroyed o) (take n run)) refl

  not_cleaned : (o : ℕ) → is_past_cleanup (life_of S.tree o) ≡ false → ever (sign.Cleaned o) (take n run) ≡ false
  not_cleaned o early = never is_past_cleanup sign.Cleaned (take n run) S o (told_at_each is_past_cleanup sign.Cleaned plan m (cleanup_tells plan m) run is_run n) early (ever (sign.Cleaned o) (take n run)) refl

  pub nothing_cleaned_above : (e : Event) (c : Call) (o : ℕ) → slice_get run n ≡ Some e → call_of e ≡ Some c → names c o ≡ true → may_come_late c.kind ≡ false → cleaned_above plan run (take n run) (most_above plan run) o ≡ false
  nothing_cleaned_above e c o at is named late =
      none_above plan run (take n run) (closed_at plan m run is_run n) (most_above plan run) o (not_cleaned o (((apt_at e c at is).1 o named).early (late_rows c.kind ∙ late)))
