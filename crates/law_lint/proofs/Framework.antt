-- The invariant over the events of the framework, of agents and of the clock.
use Rattle.std.proofs.Common.{◌≡◌, ℕ, ◌==◌, ◌<◌, ◌≤◌, Bool, true, false, List, [], ◌∷◌, ◌++◌, inl, inr, Option, length, count_by, refl, sym, ap, subst, ◌∙◌, arith}
use Rattle.std.specs.List.{flat_map}
use Rattle.wdf_base.specs.Meaning.{Meaning}
use Rattle.wdf_base.specs.declared.plan.Plan.{Plan}
use Rattle.wdf_base.specs.declared.ids.Handle.{Handle}
use Rattle.wdf_base.specs.declared.value.Status.{Status}
use Rattle.wdf_base.specs.declared.object.Place.{Place}
use Rattle.wdf_base.specs.declared.object.Place.TheVariants as place
use Rattle.wdf_base.specs.declared.event.Event.{Event}
use Rattle.wdf_base.specs.declared.event.Event.TheVariants as event
use Rattle.wdf_base.specs.declared.event.Post.{Post}
use Rattle.wdf_base.specs.declared.event.Stage.{Stage}
use Rattle.wdf_base.specs.declared.event.Step.TheVariants as step
use Rattle.wdf_base.specs.Places.{is_closing, is_owned}
use Rattle.wdf_base.specs.Calls.{is_acquire}
use Rattle.wdf_model.specs.Ids.{object_id}
use Rattle.wdf_model.specs.parts.Cpus.{Cpus, all_frames, frame_of}
use Rattle.wdf_model.specs.parts.Requests.{place_of, request_of}
use Rattle.wdf_model.specs.State.{State, is_proper}
use Rattle.wdf_model.specs.declared.deed.Deed.TheVariants.{AdvancePower, CompleteRequest, TakeStep}
use Rattle.wdf_model.specs.rules.Deeds.{do_deed, do_deeds}
use Rattle.wdf_model.specs.rules.Starts.{stage_effect}
use Rattle.wdf_model.specs.rules.Steps.{after, deeds, is_closing_with, may}
use Rattle.law_machine_base.specs.Fits.{all_fit, fits}
use Rattle.wdf_model.proofs.Tests.{both_right}
use Rattle.wdf_model.proofs.Counts.{one_or_two}
use Rattle.law_machine_base.proofs.FitsOfEvents.{event_fits}
use Rattle.law_machine_counts.proofs.StillDeeds.{all_still, post_none, stage_none}
use Rattle.law_machine_counts.proofs.StillFrames.{Still, deeds_still}
use Rattle.law_lint.proofs.Grips.{LaterAt, at_same, is_armed}
use Rattle.law_lint.proofs.Sane.{Sane}
use Rattle.law_lint.proofs.Others.{AllApart, Places, deeds_later, event_later}
use Rattle.law_lint.proofs.Around.{Around}
use Rattle.law_lint.proofs.Calming.{calms_by, event_calms}
use Rattle.law_lint.proofs.Flags.{flags_same}
use Rattle.law_lint.proofs.Owning.{Calms, has_origin}
use Rattle.law_lint.proofs.Resting.{deeds_flags}
use Rattle.law_lint.proofs.StageCalms.{stage_calms}
use Rattle.law_machine_deeds.specs.MayDo.{is_start, releasing, second_part}
use Rattle.law_lint.proofs.Events.{told}
use Rattle.law_lint.proofs.Holdings.{event_left, left_same}
use Rattle.law_lint.proofs.Stands.{Stands, fewer_stand}
use Rattle.wdf_model.proofs.FrameCounts.{on}

-- frames that are as they were
abbrev pub FramesSame : Cpus → Cpus → Type 0
FramesSame C D = (x : ℕ) → 1 ≤ on D x → (1 ≤ on C x) × (frame_of D x ≡ frame_of C x)

still_frames : {A : Type 0} (S U : State A) → Still S U → FramesSame S.cpus U.cpus
still_frames S U s x more =
    let same : all_frames U.cpus ≡ all_frames S.cpus = ap (λ ss. flat_map (λ (fs : List ℕ). fs) ss ++ U.cpus.parked) s.stacks ∙ ap (λ ps. flat_map (λ (fs : List ℕ). fs) S.cpus.stacks ++ ps) s.parked in
    (subst (λ fs. 1 ≤ count_by (λ y. y == x) fs) same more, s.frames x)

still_there : {A : Type 0} (S U : State A) → Still S U → (x : ℕ) → on U.cpus x ≡ on S.cpus x
still_there S U s x =
    let same : all_frames U.cpus ≡ all_frames S.cpus = ap (λ ss. flat_map (λ (fs : List ℕ). fs) ss ++ U.cpus.parked) s.stacks ∙ ap (λ ps. flat_map (λ (fs : List ℕ). fs) S.cpus.stacks ++ ps) s.parked in
    ap (λ fs. count_by (λ y. y == x) fs) same

-- ---- each kind of event

-- an event whose deeds touch no frame, and that is no owner's
quiet_event : {A : Type 0} (plan : Plan) (m : Meaning A) (S : State A) (e : Event) → may plan m S e ≡ true → is_start e ≡ false → second_part is_acquire e ≡ false → releasing e ≡ false → FramesSame S.cpus (do_deeds plan (deeds plan S e) S).cpus
    → ((x : ℕ) → on (do_deeds plan (deeds plan S e) S).cpus x ≡ on S.cpus x)
    → ((x : ℕ) → x < length S.requests.all → LaterAt x S.requests (do_deeds plan (deeds plan S e) S).requests) → (st : Stands plan S)
    → ((g : ℕ) → 1 ≤ on S.cpus g → Calms plan (frame_of S.cpus g) (st.states g) true S.power (do_deeds plan (deeds plan S e) S).power) → Stands plan (after plan m S e)
quiet_event plan m S e h no_start no_acquire no_release frames there later st calm =
    told plan m e (do_deeds plan (deeds plan S e) S)
    (fewer_stand plan S (do_deeds plan (deeds plan S e) S) st frames later calm (λ g. event_left plan S e g no_start no_acquire no_release)
    (λ g none. let l = event_left plan S e g no_start no_acquire no_release in let less = l.fewer in let was = st.off g (sym (there g) ∙ none) in omega arith))

still_event : {A : Type 0} (plan : Plan) (m : Meaning A) (S : State A) (e : Event) → may plan m S e ≡ true → is_start e ≡ false → second_part is_acquire e ≡ false → releasing e ≡ false → all_still (deeds plan S e) ≡ true
    → ((x : ℕ) → x < length S.requests.all → LaterAt x S.requests (do_deeds plan (deeds plan S e) S).requests) → (st : Stands plan S)
    → ((g : ℕ) → 1 ≤ on S.cpus g → Calms plan (frame_of S.cpus g) (st.states g) true S.power (do_deeds plan (deeds plan S e) S).power) → Stands plan (after plan m S e)
still_event plan m S e h no_start no_acquire no_release still later st calm =
    let s = deeds_still plan (deeds plan S e) S still (event_fits plan m S e h) in
    quiet_event plan m S e h no_start no_acquire no_release (still_frames S (do_deeds plan (deeds plan S e) S) s) (still_there S (do_deeds plan (deeds plan S e) S) s) later st calm

closing_at : (p : Place) (s : Status) → is_closing_with p s ≡ true → is_closing p ≡ true
closing_at (place.Closing s) t h = refl
closing_at place.Owned t h = absurd (let z : ⊥ = cc in z)
closing_at (place.Queued q) t h = absurd (let z : ⊥ = cc in z)
closing_at (place.Returning q) t h = absurd (let z : ⊥ = cc in z)
closing_at (place.Sent q) t h = absurd (let z : ⊥ = cc in z)
closing_at place.Done t h = absurd (let z : ⊥ = cc in z)

pub completion_stands : {A : Type 0} (plan : Plan) (m : Meaning A) (S : State A) (r : Handle) (s : Status) → may plan m S (event.Complete r s) ≡ true → Places S → Stands plan S → Stands plan (after plan m S (event.Complete r s))
completion_stands plan m S r s h k st =
    let closing : is_closing (place_of S.requests r.id.0) ≡ true = closing_at (place_of S.requests r.id.0) s (both_right (is_proper plan S r) (is_closing_with (place_of S.requests r.id.0) s) h) in
    let fit : all_fit plan (deeds plan S (event.Complete r s)) S ≡ true = event_fits plan m S (event.Complete r s) h in
    let apart : (x : ℕ) → AllApart plan (CompleteRequest r.id ∷ []) S x = λ x. elim (one_or_two x r.id.0) [
      | inl e ↦ (inr (subst (λ y. is_closing (place_of S.requests y) ≡ true) (sym e) closing), tt)
      | inr n ↦ (inl n, tt)
    ] in
    still_event plan m S (event.Complete r s) h refl refl refl refl (λ x old. deeds_later plan (CompleteRequest r.id ∷ []) S x fit k old (apart x)) st
    (λ g more. calms_by plan S (do_deeds plan (CompleteRequest r.id ∷ []) S).power g (st.states g) true (st.stands g more)
    (λ guard w old. deeds_flags plan true (CompleteRequest r.id ∷ []) S w.request.id.0 fit k old w.owned (has_origin (request_of S.requests w.request.id.0).info.origin (frame_of S.cpus g).object.id.0 w.origin) (apart w.request.id.0) (tt, tt)))

pub post_stands : {A : Type 0} (plan : Plan) (m : Meaning A) (S : State A) (agent : ℕ) (p : Post) (answer : Option Handle) → may plan m S (event.Posted agent p answer) ≡ true → Places S → Stands plan S
    → Stands plan (after plan m S (event.Posted agent p answer))
post_stands plan m S agent p answer h k st =
    still_event plan m S (event.Posted agent p answer) h refl refl refl (post_none plan S agent p) (λ x old. event_later plan S (event.Posted agent p answer) x refl (event_fits plan m S (event.Posted agent p answer) h) k old) st
    (event_calms plan S (event.Posted agent p answer) st refl refl (event_fits plan m S (event.Posted agent p answer) h) k)

pub cleanup_stands : {A : Type 0} (plan : Plan) (m : Meaning A) (S : State A) (o : Handle) → may plan m S (event.Cleanup o) ≡ true → Places S → Stands plan S → Stands plan (after plan m S (event.Cleanup o))
cleanup_stands plan m S o h k st = still_event plan m S (event.Cleanup o) h refl refl refl refl (λ x old. event_later plan S (event.Cleanup o) x refl (event_fits plan m S (event.Cleanup o) h) k old) st
    (event_calms plan S (event.Cleanup o) st refl refl (event_fits plan m S (event.Cleanup o) h) k)

pub destroy_stands : {A : Type 0} (plan : Plan) (m : Meaning A) (S : State A) (o : Handle) → may plan m S (event.Destroy o) ≡ true → Places S → Stands plan S → Stands plan (after plan m S (event.Destroy o))
destroy_stands plan m S o h k st = quiet_event plan m S (event.Destroy o) h refl refl refl (λ x more. (more, refl)) (λ x. refl) (λ x old. event_later plan S (event.Destroy o) x refl (event_fits plan m S (event.Destroy o) h) k old) st
    (event_calms plan S (event.Destroy o) st refl refl (event_fits plan m S (event.Destroy o) h) k)

pub stage_stands : {A : Type 0} (plan : Plan) (m : Meaning A) (S : State A) (d : Handle) (s : Stage) (i : Option Handle) → may plan m S (event.Stage d s i) ≡ true → Places S → Around plan S → Stands plan S
    → Stands plan (after plan m S (event.Stage d s i))
stage_stands {A} plan m S d s i h k around st =
    let T : State A = do_deed plan (TakeStep (object_id d.id.0)) S in
    let fit : all_fit plan (deeds plan S (event.Stage d s i)) S ≡ true = event_fits plan m S (event.Stage d s i) h in
    let still = deeds_still plan (AdvancePower (object_id d.id.0) (step.Pass s i) ∷ stage_effect plan d.id.0 s i) T (stage_none plan d.id.0 s i)
    (both_right (fits plan (TakeStep (object_id d.id.0)) S) (all_fit plan (AdvancePower (object_id d.id.0) (step.Pass s i) ∷ stage_effect plan d.id.0 s i) T) fit) in
    quiet_event plan m S (event.Stage d s i) h refl refl refl
    (still_frames T (do_deeds plan (AdvancePower (object_id d.id.0) (step.Pass s i) ∷ stage_effect plan d.id.0 s i) T) still)
    (still_there T (do_deeds plan (AdvancePower (object_id d.id.0) (step.Pass s i) ∷ stage_effect plan d.id.0 s i) T) still)
    (λ x old. event_later plan S (event.Stage d s i) x refl fit k old) st (stage_calms plan m S d s i h k around st)

pub tick_stands : {A : Type 0} (plan : Plan) (m : Meaning A) (S : State A) (time : ℕ) → Stands plan S → Stands plan (after plan m S (event.Tick time))
tick_stands plan m S time st = told plan m (event.Tick time) (do_deeds plan (deeds plan S (event.Tick time)) S) (fewer_stand plan S (do_deeds plan (deeds plan S (event.Tick time)) S) st (λ x more. (more, refl)) (λ x old. at_same x S.requests S.requests refl) (λ g more r has guard is. flags_same true S.power S.power r.id.0 refl) (λ g. left_same S.locks S.locks g refl) st.off)

not_owned : (p : Place) → is_closing p ≡ true → is_owned p ≡ false
not_owned (place.Closing s) h = refl
not_owned _ h = absurd (let z : ⊥ = cc in z)

-- what is closing isn't cancelable
pub closing_unarmed : {A : Type 0} (plan : Plan) (m : Meaning A) (S : State A) (r : Handle) (s : Status) → may plan m S (event.Complete r s) ≡ true → Sane (request_of S.requests r.id.0) → is_armed (request_of S.requests r.id.0).info.mark ≡ false
closing_unarmed plan m S r s h sane =
    let closing : is_closing (place_of S.requests r.id.0) ≡ true = closing_at (place_of S.requests r.id.0) s (both_right (is_proper plan S r) (is_closing_with (place_of S.requests r.id.0) s) h) in
    by (is_armed (request_of S.requests r.id.0).info.mark) refl (not_owned (place_of S.requests r.id.0) closing)
  where
    by : (b : Bool) → is_armed (request_of S.requests r.id.0).info.mark ≡ b → is_owned (place_of S.requests r.id.0) ≡ false → is_armed (request_of S.requests r.id.0).info.mark ≡ false
    by true e off = absurd (let own = sane.armed e in let z : ⊥ = cc in z)
    by false e off = e
