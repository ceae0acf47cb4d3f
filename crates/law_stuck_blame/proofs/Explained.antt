-- Each line of a stuck run's wait list explains why what it is about doesn't go on.
use Rattle.std.proofs.Common.{◌≡◌, ℕ, ◌<◌, ◌≤◌, List, Some, true, nat_le, slice_get, refl, subst, arith}
use Rattle.std.proofs.lemmas.Bool.{and_parts, leb-true}
use Rattle.wdf_base.specs.Meaning.{Meaning}
use Rattle.wdf_base.specs.Resolved.{IsResolved}
use Rattle.wdf_base.specs.declared.plan.Plan.{Plan}
use Rattle.wdf_base.specs.declared.event.Event.{Event}
use Rattle.wdf_base.specs.declared.event.Ending.TheVariants as ending
use Rattle.wdf_base.specs.declared.wait.Cause.{Cause}
use Rattle.wdf_base.specs.declared.wait.Cause.TheVariants as cause
use Rattle.wdf_base.specs.declared.wait.OpenThing.{OpenThing}
use Rattle.wdf_base.specs.declared.wait.OpenThing.TheVariants as thing
use Rattle.wdf_model.specs.State.{State}
use Rattle.wdf_model.specs.rules.Ready.{IsRunOf, ending_of, state_after}
use Rattle.wdf_model.specs.rules.Waits.{wait_list}
use Rattle.law_machine_base.specs.OverRuns.{FramesAgree, PlacesAgree}
use Rattle.law_machine_base.proofs.LawsOverRuns.{places_agree}
use Rattle.law_machine_counts.proofs.StepsOverRuns.{frames_agree_at_each}
use Rattle.law_stuck_causes.proofs.EachLine.{each_line}
use Rattle.law_stuck_causes.proofs.Endings.{at_the_end}
use Rattle.law_stuck_causes.proofs.Told.{line_so}
use Rattle.law_stuck_objects.proofs.Spinning.{taken_processors_spin}
use Rattle.law_stuck_objects.proofs.Told.{each_line_named, objects_find_no_processor}
use Rattle.law_stuck_blame.specs.Blame.{IsExplained, is_blamed}
use Rattle.law_stuck_blame.proofs.Children.{ChildGoes, children_go}
use Rattle.law_stuck_blame.proofs.First.{LineFirst, lines_first}
use Rattle.law_stuck_blame.proofs.Spinning.{means_spinning}

-- the test of a line's form is the stated one, but of an object without a processor and of its child
blamed : {A : Type 0} (plan : Plan) (m : Meaning A) (run : List Event) → IsRunOf plan m run → ending_of plan m run ≡ ending.Stuck → (k : ℕ) (t : OpenThing) (x : Cause)
    → slice_get (wait_list plan m run) k ≡ Some (record { thing = t; cause = Some x }) → is_blamed plan (state_after plan m run) t x ≡ true
blamed plan m run is_run ends k (thing.Leaving o) (cause.ByChild x) h =
    each_line plan m run (ChildGoes (state_after plan m run)) (children_go plan (state_after plan m run)) ends k (record { thing = thing.Leaving o; cause = Some (cause.ByChild x) }) h o x refl refl
blamed plan m run is_run ends k (thing.Leaving o) cause.NoCpu h = objects_find_no_processor plan m run is_run ends k o h
blamed plan m run is_run ends k (thing.Leaving o) x h = line_so plan m run is_run ends k (thing.Leaving o) x h
blamed plan m run is_run ends k t x h = line_so plan m run is_run ends k t x h

some_cpu : (plan : Plan) → IsResolved plan → 0 < plan.cpus
some_cpu plan h =
    let least : 1 ≤ plan.cpus = leb-true 1 plan.cpus (and_parts (nat_le 1 plan.cpus) (nat_le plan.cpus 8) h.cpus).0 in
    omega (arith, least)

pub explained : {A : Type 0} (plan : Plan) (m : Meaning A) (run : List Event) → IsResolved plan → IsRunOf plan m run → ending_of plan m run ≡ ending.Stuck → IsExplained plan m run
explained {A} plan m run resolved is_run ends k t o h =
    let S : State A = state_after plan m run in
    let at : (x : Cause) → o ≡ Some x → slice_get (wait_list plan m run) k ≡ Some (record { thing = t; cause = Some x }) =
    λ x e. subst (λ c. slice_get (wait_list plan m run) k ≡ Some (record { thing = t; cause = c })) e h in
    record {
      named = λ has. each_line_named plan m run resolved is_run ends k t o h has;
      so = λ x e. blamed plan m run is_run ends k t x (at x e);
      first = each_line plan m run (LineFirst plan S) (lines_first plan S (at_the_end plan m (λ S. PlacesAgree S) run (places_agree plan m run is_run)) (at_the_end plan m (λ S. FramesAgree S) run (frames_agree_at_each plan m run is_run))) ends k (record { thing = t; cause = o }) h;
      spins = λ e. means_spinning plan S (λ level cpu low taken. taken_processors_spin plan m run is_run ends level cpu low taken) (some_cpu plan resolved) t (blamed plan m run is_run ends k t cause.NoCpu (at cause.NoCpu e));
    }
