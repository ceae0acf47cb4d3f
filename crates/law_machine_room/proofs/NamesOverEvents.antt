-- What is named is there over each event, from the opening on.
use Rattle.std.proofs.Common.{if◌then◌else◌, ◌≡◌, ℕ, Bool, true, false, not, List, [], ◌∷◌, inl, inr, refl}
use Rattle.std.proofs.lemmas.Bool.{cases_Bool}
use Rattle.wdf_base.specs.Meaning.{Meaning}
use Rattle.wdf_base.specs.declared.plan.Plan.{Plan}
use Rattle.wdf_base.specs.declared.object.RequestForm.{RequestForm}
use Rattle.wdf_base.specs.declared.object.RequestForm.TheVariants as form
use Rattle.wdf_base.specs.declared.event.Event.{Event}
use Rattle.wdf_base.specs.declared.event.Event.TheVariants as event
use Rattle.wdf_base.specs.declared.event.Post.TheVariants as post
use Rattle.wdf_base.specs.Lives.{is_live}
use Rattle.wdf_model.specs.parts.Tree.{life_of}
use Rattle.wdf_model.specs.State.{State, opening}
use Rattle.wdf_model.specs.Ids.{object_id}
use Rattle.wdf_model.specs.declared.deed.Deed.{Deed}
use Rattle.wdf_model.specs.declared.deed.Deed.TheVariants.{Arrive, CountArrival}
use Rattle.wdf_model.specs.rules.Deeds.{counted, do_deeds}
use Rattle.wdf_model.specs.rules.Posts.{arrival_info, arrival_place}
use Rattle.wdf_model.specs.rules.Steps.{after, deeds}
use Rattle.law_machine_base.specs.Fits.{all_fit}
use Rattle.wdf_model.proofs.Tests.{both, both_left, both_right}
use Rattle.law_machine_base.proofs.KeptByDeeds.{is_arrival, none_arrives}
use Rattle.law_machine_base.proofs.Arrivals.{event_none, is_arrival_event}
use Rattle.wdf_model.specs.rules.Room.{AreDoable}
use Rattle.law_machine_room.specs.Kept.{NamesKept, SizesKept}
use Rattle.wdf_model.specs.rules.Groups.{declared_end}
use Rattle.law_machine_room.proofs.NamesOfRequests.{none_named}
use Rattle.law_machine_room.proofs.NamesOfFrames.{opening_named}
use Rattle.law_machine_room.proofs.NamesOfSteps.{opening_steps_named}
use Rattle.law_machine_room.proofs.NamesByDeeds.{Named, all_anew, arrives_anew, deeds_names, kept_of_named, named_of_kept}

-- ---- a request that arrives has no origin

one_anew : (d : Deed) → not (is_arrival d) ≡ true → arrives_anew d ≡ true
one_anew (Arrive device info p) h = absurd (let z : ⊥ = cc in z)
one_anew _ h = refl

none_anew : (ds : List Deed) → none_arrives ds ≡ true → all_anew ds ≡ true
none_anew [] h = refl
none_anew (d ∷ ds) h =
    both (arrives_anew d) (all_anew ds) (one_anew d (both_left (not (is_arrival d)) (none_arrives ds) h)) (none_anew ds (both_right (not (is_arrival d)) (none_arrives ds) h))

arrival_anew : {A : Type 0} (plan : Plan) (S : State A) (agent : ℕ) (f : RequestForm) (length code device : ℕ) (b : Bool)
    → all_anew (CountArrival agent ∷ (if b then Arrive (object_id device) (arrival_info S agent f length code device) (arrival_place plan S f length device) ∷ [] else [])) ≡ true
arrival_anew plan S agent f length code device true = refl
arrival_anew plan S agent f length code device false = refl

arrival_event_anew : {A : Type 0} (plan : Plan) (S : State A) (e : Event) → is_arrival_event e ≡ true → all_anew (deeds plan S e) ≡ true
arrival_event_anew plan S (event.Posted agent (post.Read device length) answer) h = arrival_anew plan S agent form.Read length 0 device.id.0 (is_live (life_of S.tree device.id.0))
arrival_event_anew plan S (event.Posted agent (post.Write device length) answer) h = arrival_anew plan S agent form.Write length 0 device.id.0 (is_live (life_of S.tree device.id.0))
arrival_event_anew plan S (event.Posted agent (post.Control device code length) answer) h = arrival_anew plan S agent form.Control length code device.id.0 (is_live (life_of S.tree device.id.0))
arrival_event_anew plan S _ h = absurd (let z : ⊥ = cc in z)

event_anew : {A : Type 0} (plan : Plan) (S : State A) (e : Event) → all_anew (deeds plan S e) ≡ true
event_anew plan S e = elim (cases_Bool (is_arrival_event e)) [
  | inl h ↦ arrival_event_anew plan S e h
  | inr h ↦ none_anew (deeds plan S e) (event_none plan S e h)
]

-- ---- the opening, and one event more

pub names_open : {A : Type 0} (plan : Plan) (m : Meaning A) → NamesKept plan (opening plan m)
names_open plan m = kept_of_named plan (opening plan m) (record { requests = λ r. none_named (declared_end plan); frames = opening_named plan; steps = opening_steps_named plan })

names_counted : {A : Type 0} (plan : Plan) (m : Meaning A) (e : Event) (S : State A) → Named plan S → Named plan (counted m e S)
names_counted plan m e S k = record { requests = k.requests; frames = k.frames; steps = k.steps }

pub names_kept : {A : Type 0} (plan : Plan) (m : Meaning A) (S : State A) (e : Event) → all_fit plan (deeds plan S e) S ≡ true → AreDoable plan (deeds plan S e) S
    → SizesKept plan S → NamesKept plan S → NamesKept plan (after plan m S e)
names_kept plan m S e f d z k =
    kept_of_named plan (after plan m S e)
    (names_counted plan m e (do_deeds plan (deeds plan S e) S) (deeds_names plan (deeds plan S e) S f (event_anew plan S e) d z (named_of_kept plan S k)))
