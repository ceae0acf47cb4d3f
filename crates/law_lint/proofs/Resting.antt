-- What the deeds of an event leave of what power knows of a request that somebody owns.
use Rattle.std.proofs.Common.{◌≡◌, ℕ, ◌<◌, Bool, true, false, not, List, [], ◌∷◌, is_none, length, refl, ap, ◌∙◌, arith}
use Rattle.std.specs.List.{list_all}
use Rattle.wdf_base.specs.declared.plan.Plan.{Plan}
use Rattle.wdf_base.specs.declared.call.CallKind.TheVariants as call
use Rattle.wdf_base.specs.declared.event.Event.{Event}
use Rattle.wdf_base.specs.Places.{is_owned}
use Rattle.wdf_model.specs.parts.Requests.{place_of, request_of}
use Rattle.wdf_model.specs.State.{State}
use Rattle.wdf_model.specs.declared.deed.Deed.{Deed}
use Rattle.wdf_model.specs.declared.deed.Deed.TheVariants.{Acknowledge, AdvancePower}
use Rattle.wdf_model.specs.rules.Deeds.{do_deed, do_deeds}
use Rattle.wdf_model.specs.rules.Steps.{deeds}
use Rattle.wdf_model.proofs.Tests.{both_left, both_right, not_true, second}
use Rattle.law_machine_base.specs.Fits.{all_fit, fits}
use Rattle.law_machine_base.proofs.KeptByDeeds.{deed_keeps}
use Rattle.law_machine_deeds.specs.MayDo.{calls, first_part, is_completion, is_stage, may_do}
use Rattle.law_machine_deeds.proofs.Passing.{calls_among, event_passes}
use Rattle.law_machine_lives.proofs.AllOf.{AllOf, all_such}
use Rattle.law_lint.proofs.Flags.{Calm, FlagsKept, deed_flags, flags_same, flags_then}
use Rattle.law_lint.proofs.Grips.{LaterAt, deed_later}
use Rattle.law_lint.proofs.Others.{AllApart, Places, all_apart, is_owners, is_owners_call, is_owners_event, not_owners}

abbrev pub AllCalm : {A : Type 0} → Plan → Bool → List Deed → State A → ℕ → Type 0
AllCalm {A} plan fresh ds S x = AllOf plan (λ (d : Deed) (U : State A). Calm fresh d U x) ds S

pub deeds_flags : {A : Type 0} (plan : Plan) (fresh : Bool) (ds : List Deed) (S : State A) (x : ℕ) → all_fit plan ds S ≡ true → Places S → x < length S.requests.all → is_owned (place_of S.requests x) ≡ true → is_none (request_of S.requests x).info.origin ≡ false
    → AllApart plan ds S x → AllCalm plan fresh ds S x → FlagsKept fresh S.power (do_deeds plan ds S).power x
deeds_flags plan fresh [] S x f k old own came a c = flags_same fresh S.power S.power x refl
deeds_flags plan fresh (d ∷ ds) S x f k old own came a c =
    let fit : fits plan d S ≡ true = both_left (fits plan d S) (all_fit plan ds (do_deed plan d S)) f in
    let one : LaterAt x S.requests (do_deed plan d S).requests = deed_later plan d S x fit k old a.0 in
    let rests = one.later.rests own came in
    let more : x < length (do_deed plan d S).requests.all = let long = one.long in omega arith in
    flags_then fresh S.power (do_deed plan d S).power (do_deeds plan ds (do_deed plan d S)).power x (deed_flags fresh plan d S x fit k own a.0 c.0)
    (deeds_flags plan fresh ds (do_deed plan d S) x (both_right (fits plan d S) (all_fit plan ds (do_deed plan d S)) f) (deed_keeps plan d S fit (λ _. refl) k) more rests.0 (ap is_none rests.1 ∙ came) a.1 c.1)

-- ---- deeds that ask for nothing

abbrev pub is_flagging : Deed → Bool
is_flagging (Acknowledge r) = true
is_flagging (AdvancePower d s) = true
is_flagging _ = false

calm_of : {A : Type 0} (fresh : Bool) (d : Deed) (S : State A) (x : ℕ) → is_flagging d ≡ false → Calm fresh d S x
calm_of fresh (Acknowledge r) S x h = absurd (let z : ⊥ = cc in z)
calm_of fresh (AdvancePower d s) S x h = absurd (let z : ⊥ = cc in z)
calm_of fresh _ S x h = tt

pub all_calm : {A : Type 0} (plan : Plan) (fresh : Bool) (ds : List Deed) (S : State A) (x : ℕ) → list_all (λ d. not (is_flagging d)) ds ≡ true → AllCalm plan fresh ds S x
all_calm {A} plan fresh ds S x h = all_such plan (λ (d : Deed) (U : State A). Calm fresh d U x) (λ d. not (is_flagging d)) (λ d U k. calm_of fresh d U x (not_true (is_flagging d) k)) ds S h

unflagging : (e : Event) → calls call.WdfRequestStopAcknowledge e ≡ false → is_stage e ≡ false → (d : Deed) → may_do e d ≡ true → not (is_flagging d) ≡ true
unflagging e off n (Acknowledge r) h = absurd (let z : ⊥ = cc in z)
unflagging e off n (AdvancePower d s) h = absurd (let z : ⊥ = cc in z)
unflagging e off n _ h = refl

-- no deed of such an event acknowledges, or advances power
pub none_flagging : {A : Type 0} (plan : Plan) (S : State A) (e : Event) → calls call.WdfRequestStopAcknowledge e ≡ false → is_stage e ≡ false → list_all (λ d. not (is_flagging d)) (deeds plan S e) ≡ true
none_flagging plan S e off n = event_passes (λ d. not (is_flagging d)) plan S e (unflagging e off n)

pub no_acknowledge : (e : Event) → is_owners_event e ≡ false → calls call.WdfRequestStopAcknowledge e ≡ false
no_acknowledge e off = by (calls call.WdfRequestStopAcknowledge e) refl
  where
    by : (b : Bool) → calls call.WdfRequestStopAcknowledge e ≡ b → b ≡ false
    by true h = absurd (let yes : is_owners_event e ≡ true = second (is_completion e) (first_part is_owners_call e) (calls_among call.WdfRequestStopAcknowledge is_owners_call e refl h) in let z : ⊥ = cc in z)
    by false h = refl

pub apart_beside : {A : Type 0} (plan : Plan) (S : State A) (e : Event) (x : ℕ) → is_owners_event e ≡ false → AllApart plan (deeds plan S e) S x
apart_beside plan S e x off = all_apart plan (deeds plan S e) S x (event_passes (λ d. not (is_owners d)) plan S e (not_owners e off))

-- an event that isn't an owner's and no stage leaves the flags of each request that somebody owns
pub event_flags : {A : Type 0} (plan : Plan) (S : State A) (e : Event) (x : ℕ) → is_owners_event e ≡ false → is_stage e ≡ false → all_fit plan (deeds plan S e) S ≡ true → Places S → x < length S.requests.all
    → is_owned (place_of S.requests x) ≡ true → is_none (request_of S.requests x).info.origin ≡ false → FlagsKept true S.power (do_deeds plan (deeds plan S e) S).power x
event_flags plan S e x off n f k old own came =
    deeds_flags plan true (deeds plan S e) S x f k old own came (apart_beside plan S e x off)
    (all_calm plan true (deeds plan S e) S x (none_flagging plan S e (no_acknowledge e off) n))
