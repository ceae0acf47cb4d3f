-- What is so of each line of a stuck run's wait list.
use Rattle.std.proofs.Common.{◌≡◌, inl, inr, ℕ, ◌==◌, ◌<◌, Bool, true, false, not, ◌||◌, List, [], ◌∷◌, ◌++◌, ◌⊎◌, Option, Some, None, is_some, length, count_by, slice_get, refl, ap, ◌∙◌, arith}
use Rattle.std.specs.List.{flat_map, list_any}
use Rattle.wdf_base.specs.Meaning.{Meaning}
use Rattle.wdf_base.specs.Resolved.{IsResolved}
use Rattle.wdf_base.specs.declared.plan.Plan.{Plan}
use Rattle.wdf_base.specs.declared.object.Place.{Place}
use Rattle.wdf_base.specs.declared.object.Place.TheVariants as place
use Rattle.wdf_base.specs.declared.event.Event.{Event}
use Rattle.wdf_base.specs.declared.event.Ending.TheVariants as ending
use Rattle.wdf_base.specs.declared.event.Stage.TheVariants as stage
use Rattle.wdf_base.specs.declared.event.Step.{Step}
use Rattle.wdf_base.specs.declared.event.Step.TheVariants as step
use Rattle.wdf_base.specs.declared.wait.WaitLine.{WaitLine}
use Rattle.wdf_base.specs.Places.{is_queued_in, is_returning_to}
use Rattle.wdf_model.specs.Tables.{contains, flag, ids_of}
use Rattle.wdf_model.specs.parts.Cpus.{all_frames}
use Rattle.wdf_model.specs.parts.Queues.{held_count, waiting_in}
use Rattle.wdf_model.specs.parts.Requests.{place_of}
use Rattle.wdf_model.specs.parts.Pnp.{follows_queues_up, is_running_step, next_step, running_step}
use Rattle.wdf_model.specs.State.{State, held_from}
use Rattle.law_machine_base.specs.OverRuns.{DeclaredAgree}
use Rattle.wdf_model.specs.rules.Groups.{declared_end}
use Rattle.wdf_model.specs.rules.Ready.{IsRunOf, ending_of, is_open_work, state_after}
use Rattle.wdf_model.specs.rules.Waits.{deferred_cause, deferred_line, dpc_cause, first_cause, frame_cause, frames_in_order, queued_cause, request_line, resumes_cause, returning_cause, sequence_line, step_cause, wait_list}
use Rattle.wdf_model.specs.rules.Starts.{resumes_over}
use Rattle.wdf_model.proofs.Tests.{first, itself, second}
use Rattle.law_machine_base.proofs.LawsOverRuns.{history_now}
use Rattle.law_machine_counts.proofs.DeclaredOverRuns.{declared_agree_at_each}
use Rattle.law_machine_room.specs.Kept.{RoomKept}
use Rattle.law_machine_room.proofs.RoomLaws.{room_is_kept}
use Rattle.law_stuck_named_if.specs.Named.{Named, StepMayCome}
use Rattle.law_stuck_causes.proofs.Members.{Has}
use Rattle.law_stuck_causes.proofs.Endings.{AtRest, at_rest, at_the_end}
use Rattle.law_stuck_causes.proofs.EachLine.{OfLines, each_line}
use Rattle.law_stuck_causes.proofs.Gives.{IfThere, has_kept}
use Rattle.law_stuck_causes.proofs.Needs.{none_first, some_or}
use Rattle.law_stuck_causes.proofs.Tops.{frame_named, held_now, one_parked, one_running}
use Rattle.law_stuck_named_if.proofs.Parked.{Parking, parking_at_each}
use Rattle.law_machine_lives.proofs.FromQueues.{queued_suits, returning_suits}
use Rattle.law_stuck_named_if.proofs.Taken.{Forms, TakesForm, forms_at_each}
use Rattle.law_stuck_named_if.proofs.Presents.{queued_waits, returning_waits}
use Rattle.law_stuck_named_if.proofs.Dpcs.{dpc_waits, listed_at}
use Rattle.law_stuck_named_if.proofs.Steps.{callback_comes, quiet_waits}
use Rattle.wdf_model.proofs.FrameCounts.{listed}

-- what is known of the state of a stuck run
pub record AtEnd {A : Type 0} (plan : Plan) (m : Meaning A) (S : State A) : Type 0 where
  pub rest : AtRest plan m S true
  pub held : (q : ℕ) → held_count S.queues q ≡ length (held_from S q)
  pub declared : DeclaredAgree plan S
  pub queued : (q r : ℕ) → count_by (λ x. x == r) (waiting_in S.queues q) ≡ flag (is_queued_in q (place_of S.requests r))
  pub stacks : length S.cpus.stacks ≡ plan.cpus
  pub dpcs : length S.dpcs.lists ≡ plan.cpus
  pub parking : Parking S.cpus
  pub forms : Forms plan S

pub at_end : {A : Type 0} (plan : Plan) (m : Meaning A) (run : List Event) → IsResolved plan → IsRunOf plan m run → ending_of plan m run ≡ ending.Stuck → AtEnd plan m (state_after plan m run)
at_end {A} plan m run resolved is_run ends =
    let room : RoomKept plan (state_after plan m run) = at_the_end plan m (λ (S : State A). RoomKept plan S) run (room_is_kept plan m run resolved is_run) in
    record {
      rest = at_rest plan m run true ends;
      held = held_now plan m run is_run;
      declared = at_the_end plan m (λ (S : State A). DeclaredAgree plan S) run (declared_agree_at_each plan m run is_run);
      queued = (history_now plan m run is_run).kept.queued;
      stacks = room.sizes.stacks;
      dpcs = room.sizes.dpcs;
      forms = at_the_end plan m (λ (S : State A). Forms plan S) run (forms_at_each plan m run is_run);
      parking = at_the_end plan m (λ (S : State A). Parking S.cpus) run (parking_at_each plan m run is_run);
    }

-- ---- lists

in_either : (f : ℕ) (xs ys : List ℕ) → contains f (xs ++ ys) ≡ true → (contains f xs ≡ true) ⊎ (contains f ys ≡ true)
in_either f [] ys h = inr h
in_either f (x ∷ xs) ys h = by (x == f) (contains f xs) (contains f (xs ++ ys)) (in_either f xs ys) h
  where
    by : (b c d : Bool) → (d ≡ true → (c ≡ true) ⊎ (contains f ys ≡ true)) → (b || d) ≡ true → ((b || c) ≡ true) ⊎ (contains f ys ≡ true)
    by true c d rest h = inl refl
    by false c d rest h = rest h

in_stacks : (f : ℕ) (ss : List (List ℕ)) → contains f (flat_map (λ (fs : List ℕ). fs) ss) ≡ true → list_any (contains f) ss ≡ true
in_stacks f [] h = h
in_stacks f (s ∷ ss) h = elim (in_either f s (flat_map (λ (fs : List ℕ). fs) ss) h) as (λ _. list_any (contains f) (s ∷ ss) ≡ true) [
  | inl e ↦ rw e refl
  | inr e ↦ second (contains f s) (list_any (contains f) ss) (in_stacks f ss e)
]

-- ---- the lines

abbrev LineNamed : {A : Type 0} → Plan → State A → WaitLine → Type 0
LineNamed plan S l = Named plan S l.thing l.cause

frame_line_named : {A : Type 0} (plan : Plan) (m : Meaning A) (S : State A) → AtEnd plan m S → (f : ℕ) → Has f (frames_in_order S) → is_some (frame_cause plan S f) ≡ true
frame_line_named plan m S k f there =
    let on : contains f (all_frames S.cpus) ≡ true = (has_kept (λ x. contains x (all_frames S.cpus)) f (ids_of S.cpus.frames) there).0 in
    frame_named plan m S k.rest k.held f
    (elim (in_either f (flat_map (λ (fs : List ℕ). fs) S.cpus.stacks) S.cpus.parked on) [
      | inl e ↦
          let at = listed_at (contains f) S.cpus.stacks (in_stacks f S.cpus.stacks e) in
          let low : at.place < length S.cpus.stacks = at.low in
          let size = k.stacks in
          one_running plan S at.place f (omega arith) at.passes
      | inr e ↦ one_parked plan S f e (k.parking.waits f e)
    ])

request_named : {A : Type 0} (plan : Plan) (m : Meaning A) (S : State A) → AtEnd plan m S → (r : ℕ) (p : Place) → place_of S.requests r ≡ p → IfThere (LineNamed plan S) (request_line plan S r p)
request_named plan m S k r (place.Queued q) e = λ live.
    some_or (queued_cause plan S q.0 r)
    (λ none.
    let one : count_by (λ x. x == r) (waiting_in S.queues q.0) ≡ flag (is_queued_in q.0 (place.Queued q)) = k.queued q.0 r ∙ ap (λ x. flag (is_queued_in q.0 x)) e in
    let it : flag (is_queued_in q.0 (place.Queued q)) ≡ 1 = ap flag (itself q.0) in
    queued_waits plan m S k.rest q.0 r (listed r (waiting_in S.queues q.0) (omega arith)) live (queued_suits plan (TakesForm plan) S.requests q.0 r k.forms.1 (ap (is_queued_in q.0) e ∙ itself q.0)) none)
request_named plan m S k r (place.Returning q) e = λ live.
    some_or (returning_cause plan S q.0) (λ none. returning_waits plan m S k.rest k.declared q.0 r (ap (is_returning_to q.0) e ∙ itself q.0) live (returning_suits plan (TakesForm plan) S.requests q.0 r k.forms.1 (ap (is_returning_to q.0) e ∙ itself q.0)).1 none)
request_named plan m S k r _ e = tt

next_named : {A : Type 0} (plan : Plan) (m : Meaning A) (S : State A) → AtEnd plan m S → (d : ℕ) (s : Step) → d < declared_end plan → next_step S.pnp d ≡ Some s → is_running_step S.pnp d ≡ false → follows_queues_up S.pnp d ≡ false → StepMayCome plan S d s
    → step_cause plan S d s ≡ None → ⊥
next_named plan m S k d (step.Run c i) low next calm early may_be none = callback_comes plan m S k.rest d c i low next (ap not calm) (first (not (follows_queues_up S.pnp d)) (resumes_over S d) (ap not early)) may_be none
next_named plan m S k d (step.Pass stage.Quiet i) low next calm early may_be none = quiet_waits plan m S k.rest k.dpcs may_be d i low next (ap not calm) (ap not early) none
next_named plan m S k d (step.Pass s i) low next calm early may_be none = let z : ⊥ = cc in z

running_off : (o : Option Step) (s : Step) → o ≡ Some s → is_some o ≡ false → ⊥
running_off None s e h = let z : ⊥ = cc in z
running_off (Some t) s e h = let z : ⊥ = cc in z

device_named : {A : Type 0} (plan : Plan) (m : Meaning A) (S : State A) → AtEnd plan m S → (d : ℕ) → d < declared_end plan → (now next : Option Step) → running_step S.pnp d ≡ now → next_step S.pnp d ≡ next → IfThere (LineNamed plan S) (sequence_line plan S d now next)
device_named plan m S k d low (Some s) next e h = λ calm early may_be. absurd (running_off (running_step S.pnp d) s e calm)
device_named plan m S k d low None (Some s) e h = λ calm early may_be.
    some_or (first_cause (resumes_cause plan S d ∷ step_cause plan S d s ∷ []))
    (λ none.
    let parts = none_first (resumes_cause plan S d) (step_cause plan S d s ∷ []) none in
    next_named plan m S k d s low h calm early may_be (none_first (step_cause plan S d s) [] parts.1).0)
device_named plan m S k d low None None e h = tt

work_named_by : {A : Type 0} (plan : Plan) (m : Meaning A) (S : State A) → AtEnd plan m S → (o : ℕ) → is_open_work S o ≡ true → LineNamed plan S (deferred_line plan S o)
work_named_by plan m S k o opened = (
  opened,
  λ queued may_be.
      let same : deferred_cause plan S o ≡ dpc_cause plan S o = rw queued refl in
      ap is_some same ∙ some_or (dpc_cause plan S o) (λ none. dpc_waits plan m S k.rest k.dpcs o queued may_be none),
)

lines_named : {A : Type 0} (plan : Plan) (m : Meaning A) (S : State A) → AtEnd plan m S → OfLines plan S (LineNamed plan S)
lines_named plan m S k = record {
  frames = λ f there. frame_line_named plan m S k f there;
  requests = λ r. request_named plan m S k r (place_of S.requests r) refl;
  devices = λ d low. device_named plan m S k d low (running_step S.pnp d) (next_step S.pnp d) refl refl;
  objects = λ o low leaving. tt;
  work = λ o opened. work_named_by plan m S k o opened;
  asking = λ d. tt;
}

pub line_names : {A : Type 0} (plan : Plan) (m : Meaning A) (run : List Event) → IsResolved plan → IsRunOf plan m run → ending_of plan m run ≡ ending.Stuck → (k : ℕ) (l : WaitLine)
    → slice_get (wait_list plan m run) k ≡ Some l → Named plan (state_after plan m run) l.thing l.cause
line_names plan m run resolved is_run ends k l h = each_line plan m run (LineNamed plan (state_after plan m run)) (lines_named plan m (state_after plan m run) (at_end plan m run resolved is_run ends)) ends k l h
