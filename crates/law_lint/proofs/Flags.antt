-- What deeds leave of what power knows of a request that the driver holds: whether it is acknowledged, and asked to stop.
use Rattle.std.proofs.Common.{if◌then◌else◌, ◌≡◌, ◌≢◌, ℕ, Bool, true, false, not, List, [], ◌∷◌, inl, inr, refl, sym, ap, subst, ◌∙◌}
use Rattle.std.specs.Prelude.{⊤}
use Rattle.wdf_base.specs.declared.plan.Plan.{Plan}
use Rattle.wdf_base.specs.declared.event.Stage.{Stage}
use Rattle.wdf_base.specs.declared.event.Stage.TheVariants as stage
use Rattle.wdf_base.specs.declared.event.Step.{Step}
use Rattle.wdf_base.specs.declared.event.Step.TheVariants as step
use Rattle.wdf_base.specs.declared.object.Place.{Place}
use Rattle.wdf_base.specs.declared.object.Place.TheVariants as place
use Rattle.wdf_base.specs.Places.{is_closing, is_owned, is_queued_in, is_returning_to}
use Rattle.wdf_model.specs.declared.entries.Holding.{Holding}
use Rattle.wdf_model.specs.declared.enums.Mode.TheVariants as mode
use Rattle.wdf_model.specs.Plans.{is_managed, managed_queues, queues_of}
use Rattle.wdf_model.specs.parts.Control as control
use Rattle.wdf_model.specs.parts.Power.{Power, acknowledged, advance_stage, held_less, held_more, holding_of, is_held, is_held_at, no_holding, stop_was_asked, wake_holdings, with_holding, with_up, woken, queue_power}
use Rattle.wdf_model.specs.parts.Power as power
use Rattle.wdf_model.specs.parts.Queues.{waiting_in}
use Rattle.wdf_model.specs.parts.Requests.{place_of, origin_of}
use Rattle.wdf_model.specs.parts.Requests as requests
use Rattle.wdf_model.specs.parts.Tree.{subtree}
use Rattle.wdf_model.specs.State.{State, is_with_driver}
use Rattle.wdf_model.specs.declared.deed.Deed.{Deed}
use Rattle.wdf_model.specs.declared.deed.Deed.TheVariants.{Acknowledge, AdvancePower, Arrive, AskDeletion, AskStop, CloseDevice, CloseReturning, CompleteRequest, Forward, GiveBack, Present, PurgeQueue, Receive, Requeue, Resume, SendRequest}
use Rattle.wdf_model.specs.rules.Deeds.{do_deed, do_deeds, give_up, release_power, release_line}
use Rattle.std.specs.List.{list_all}
use Rattle.wdf_base.specs.declared.call.CallKind.TheVariants as call
use Rattle.wdf_base.specs.declared.event.Event.{Event}
use Rattle.wdf_model.proofs.Tests.{not_true}
use Rattle.law_machine_deeds.specs.MayDo.{calls, may_do}
use Rattle.law_machine_lives.proofs.AllOf.{AllOf, all_such}
use Rattle.law_machine_base.specs.Fits.{fits}
use Rattle.law_machine_base.proofs.KeptMoves.{front_queued}
use Rattle.wdf_model.proofs.Counts.{one_or_two}
use Rattle.wdf_model.proofs.Maps.{entry_map}
use Rattle.law_machine_lives.proofs.Stays.{asks_all, closed_power, returning_power, withdrawn_power}
use Rattle.law_lint.proofs.Grips.{Apart}
use Rattle.law_lint.proofs.Others.{Places}
use Rattle.law_machine_counts.proofs.Releases.{holding_elsewhere, holding_here}
use Rattle.law_machine_counts.proofs.Arrived.{arrived_power}

-- what is so of request x is so after; of its acknowledgement only where `fresh` says so
pub record FlagsKept (fresh : Bool) (P O : Power) (x : ℕ) : Type 0 where
  pub unacknowledged : fresh ≡ true → acknowledged P x ≡ false → acknowledged O x ≡ false
  pub asked : stop_was_asked P x ≡ true → stop_was_asked O x ≡ true

pub flags_by : (fresh : Bool) (P O : Power) (x : ℕ) → holding_of O x ≡ holding_of P x → FlagsKept fresh P O x
flags_by fresh P O x e = record { unacknowledged = λ _ h. ap (λ (k : Holding). k.acknowledged) e ∙ h; asked = λ h. ap (λ (k : Holding). k.stop_asked) e ∙ h }

pub flags_same : (fresh : Bool) (P O : Power) (x : ℕ) → O ≡ P → FlagsKept fresh P O x
flags_same fresh P O x e = flags_by fresh P O x (ap (λ (Q : Power). holding_of Q x) e)

pub flags_then : (fresh : Bool) (P O Q : Power) (x : ℕ) → FlagsKept fresh P O x → FlagsKept fresh O Q x → FlagsKept fresh P Q x
flags_then fresh P O Q x a b = record { unacknowledged = λ f h. b.unacknowledged f (a.unacknowledged f h); asked = λ h. b.asked (a.asked h) }

-- another request's holding changes
flags_other : (fresh : Bool) (P : Power) (r : ℕ) (f : Holding → Holding) (x : ℕ) → x ≢ r → FlagsKept fresh P (with_holding P r f) x
flags_other fresh P r f x n = flags_by fresh P (with_holding P r f) x (holding_elsewhere P r x f n)

-- ---- each deed

-- what is asked of an acknowledgement and of a stage of power
abbrev pub Calm : {A : Type 0} → Bool → Deed → State A → ℕ → Type 0
Calm fresh (Acknowledge r) S x = fresh ≡ true → x ≢ r.0
Calm fresh (AdvancePower d s) S x = FlagsKept fresh S.power (power.advance S.power d.0 s) x
Calm fresh _ S x = ⊤

-- what is noted of a request that is held anew
abbrev taken : ℕ → Holding → Holding
taken q h = record { queue = record { 0 = q }; acknowledged = false; stop_asked = false; resume_due = false }

held_other : (fresh : Bool) (P : Power) (r q x : ℕ) (b : Bool) → x ≢ r → FlagsKept fresh P (if b then held_more P r q else P) x
held_other fresh P r q x true n = flags_other fresh P r (taken q) x n
held_other fresh P r q x false n = flags_same fresh P P x refl

released_other : (fresh : Bool) (P : Power) (r x : ℕ) (b : Bool) → x ≢ r → FlagsKept fresh P (if b then held_less P r else P) x
released_other fresh P r x true n = flags_other fresh P r (λ h. no_holding) x n
released_other fresh P r x false n = flags_same fresh P P x refl

given_other : {A : Type 0} (fresh : Bool) (S : State A) (r x : ℕ) → x ≢ r → FlagsKept fresh S.power (give_up S r).power x
given_other {A} fresh S r x n = by (is_with_driver S r) refl
  where
    by : (b : Bool) → is_with_driver S r ≡ b → FlagsKept fresh S.power (give_up S r).power x
    by true e = subst (λ (T : State A). FlagsKept fresh S.power T.power x) (sym (gives e)) (released_other fresh S.power r x (is_held (holding_of S.power r)) n)
      where
        gives : is_with_driver S r ≡ true → give_up S r ≡ record S { queues = release_line S.queues (origin_of S.requests r); power = release_power S.power r }
        gives e = rw e refl
    by false e = subst (λ (T : State A). FlagsKept fresh S.power T.power x) (sym (keeps e)) (flags_same fresh S.power S.power x refl)
      where
        keeps : is_with_driver S r ≡ false → give_up S r ≡ S
        keeps e = rw e refl

queued_unowned : (q : ℕ) (p : Place) → is_queued_in q p ≡ true → is_owned p ≡ true → ⊥
queued_unowned q (place.Queued w) h o = let z : ⊥ = cc in z
queued_unowned q _ h o = let z : ⊥ = cc in z

returning_unowned : (q : ℕ) (p : Place) → is_returning_to q p ≡ true → is_owned p ≡ true → ⊥
returning_unowned q (place.Returning w) h o = let z : ⊥ = cc in z
returning_unowned q _ h o = let z : ⊥ = cc in z

closing_unowned : (p : Place) → is_closing p ≡ true → is_owned p ≡ true → ⊥
closing_unowned (place.Closing s) h o = let z : ⊥ = cc in z
closing_unowned _ h o = let z : ⊥ = cc in z

pub deed_flags : {A : Type 0} (fresh : Bool) (plan : Plan) (d : Deed) (S : State A) (x : ℕ) → fits plan d S ≡ true → Places S → is_owned (place_of S.requests x) ≡ true → Apart d S x → Calm fresh d S x → FlagsKept fresh S.power (do_deed plan d S).power x
deed_flags fresh plan (Arrive device info p) S x f k own a c = flags_same fresh S.power _ x (arrived_power S device.0 info p)
deed_flags fresh plan (AskDeletion o) S x f k own a c = flags_same fresh S.power _ x (asks_all (λ (T : State _). T.power) (λ S T D W U. refl) (subtree S.tree o.0) S)
deed_flags fresh plan (Present q r) S x f k own a c = held_other fresh S.power r.0 q.0 x (is_managed plan q.0) (λ e. queued_unowned q.0 (place_of S.requests r.0) (front_queued q.0 r.0 k f) (subst (λ y. is_owned (place_of S.requests y) ≡ true) e own))
deed_flags fresh plan (Receive q r) S x f k own a c = held_other fresh S.power r.0 q.0 x (is_managed plan q.0) (λ e. returning_unowned q.0 (place_of S.requests r.0) f (subst (λ y. is_owned (place_of S.requests y) ≡ true) e own))
deed_flags fresh plan (Requeue r q) S x f k own a c = given_other fresh S r.0 x a
deed_flags fresh plan (Forward r q) S x f k own a c = given_other fresh S r.0 x a
deed_flags fresh plan (GiveBack r q) S x f k own a c = given_other fresh S r.0 x a
deed_flags fresh plan (SendRequest r t true) S x f k own a c = given_other fresh S r.0 x a
deed_flags fresh plan (SendRequest r t false) S x f k own a c = flags_same fresh S.power S.power x refl
deed_flags fresh plan (CompleteRequest r) S x f k own a c =
    flags_then fresh S.power (give_up S r.0).power _ x (given_other fresh S r.0 x (elim a [
      | inl n ↦ n
      | inr closing ↦ absurd (closing_unowned (place_of S.requests x) closing own)
    ]))
    (flags_same fresh (give_up S r.0).power _ x (asks_all (λ (T : State _). T.power) (λ S T D W U. refl) (subtree (give_up S r.0).tree r.0) (record (give_up S r.0) { requests = requests.complete S.requests r.0 })))
deed_flags fresh plan (PurgeQueue q) S x f k own a c = flags_same fresh S.power _ x (withdrawn_power plan q.0 (waiting_in S.queues q.0) (record S { control = control.set_mode S.control q.0 mode.Purged }))
deed_flags fresh plan (CloseReturning d) S x f k own a c = flags_same fresh S.power _ x (returning_power (managed_queues plan d.0) S)
deed_flags fresh plan (CloseDevice d) S x f k own a c = flags_same fresh S.power _ x (closed_power (queues_of plan d.0) (record S { control = control.shut S.control d.0 }))
deed_flags fresh plan (AdvancePower d s) S x f k own a c = c
deed_flags fresh plan (Acknowledge r) S x f k own a c = elim (one_or_two x r.0) [
  | inl e ↦ record {
    unacknowledged = λ g h. absurd (c g e);
    asked = λ h. ap (stop_was_asked (power.acknowledge S.power r.0)) e ∙ ap (λ (y : Holding). y.stop_asked) (holding_here S.power r.0 (λ y. record y { acknowledged = true })) ∙ sym (ap (stop_was_asked S.power) e) ∙ h;
  }
  | inr n ↦ flags_other fresh S.power r.0 (λ y. record y { acknowledged = true }) x n
]
deed_flags fresh plan (AskStop r) S x f k own a c = elim (one_or_two x r.0) [
  | inl e ↦ record {
    unacknowledged = λ g h. ap (acknowledged (power.stop_asked S.power r.0)) e ∙ ap (λ (y : Holding). y.acknowledged) (holding_here S.power r.0 (λ y. record y { stop_asked = true })) ∙ sym (ap (acknowledged S.power) e) ∙ h;
    asked = λ h. ap (stop_was_asked (power.stop_asked S.power r.0)) e ∙ ap (λ (y : Holding). y.stop_asked) (holding_here S.power r.0 (λ y. record y { stop_asked = true }));
  }
  | inr n ↦ flags_other fresh S.power r.0 (λ y. record y { stop_asked = true }) x n
]
deed_flags fresh plan (Resume r) S x f k own a c = elim (one_or_two x r.0) [
  | inl e ↦ record {
    unacknowledged = λ g h. ap (acknowledged (power.resumed S.power r.0)) e ∙ ap (λ (y : Holding). y.acknowledged) (holding_here S.power r.0 (λ y. record y { resume_due = false })) ∙ sym (ap (acknowledged S.power) e) ∙ h;
    asked = λ h. ap (stop_was_asked (power.resumed S.power r.0)) e ∙ ap (λ (y : Holding). y.stop_asked) (holding_here S.power r.0 (λ y. record y { resume_due = false })) ∙ sym (ap (stop_was_asked S.power) e) ∙ h;
  }
  | inr n ↦ flags_other fresh S.power r.0 (λ y. record y { resume_due = false }) x n
]
deed_flags fresh plan _ S x f k own a c = flags_same fresh S.power S.power x refl

-- ---- what is acknowledged was asked to stop

abbrev Fine : Holding → Type 0
Fine h = h.acknowledged ≡ true → h.stop_asked ≡ true

abbrev pub AllAsked : Power → Type 0
AllAsked P = (x : ℕ) → Fine (holding_of P x)

fine_same : (P O : Power) → O ≡ P → AllAsked P → AllAsked O
fine_same P O e h = subst AllAsked (sym e) h

fine_one : (P : Power) (r : ℕ) (f : Holding → Holding) → Fine (f (holding_of P r)) → AllAsked P → AllAsked (with_holding P r f)
fine_one P r f new h x = elim (one_or_two x r) [
  | inl e ↦ subst (λ y. Fine (holding_of (with_holding P r f) y)) (sym e) (subst Fine (sym (holding_here P r f)) new)
  | inr n ↦ subst Fine (sym (holding_elsewhere P r x f n)) (h x)
]

fine_held : (P : Power) (r q : ℕ) (b : Bool) → AllAsked P → AllAsked (if b then held_more P r q else P)
fine_held P r q true h = fine_one P r (taken q) (λ t. absurd (let z : ⊥ = cc in z)) h
fine_held P r q false h = h

fine_released : (P : Power) (r : ℕ) (b : Bool) → AllAsked P → AllAsked (if b then held_less P r else P)
fine_released P r true h = fine_one P r (λ x. no_holding) (λ t. absurd (let z : ⊥ = cc in z)) h
fine_released P r false h = h

fine_given : {A : Type 0} (S : State A) (r : ℕ) → AllAsked S.power → AllAsked (give_up S r).power
fine_given {A} S r h = by (is_with_driver S r) refl
  where
    by : (b : Bool) → is_with_driver S r ≡ b → AllAsked (give_up S r).power
    by true e = subst (λ (T : State A). AllAsked T.power) (sym (gives e)) (fine_released S.power r (is_held (holding_of S.power r)) h)
      where
        gives : is_with_driver S r ≡ true → give_up S r ≡ record S { queues = release_line S.queues (origin_of S.requests r); power = release_power S.power r }
        gives e = rw e refl
    by false e = subst (λ (T : State A). AllAsked T.power) (sym (keeps e)) h
      where
        keeps : is_with_driver S r ≡ false → give_up S r ≡ S
        keeps e = rw e refl

woken_fine : (P : Power) (d : ℕ) (h : Holding) (b : Bool) → is_held_at P d h ≡ b → Fine h → Fine (woken P d h)
woken_fine P d h true e k = subst Fine (sym (wakes e)) (λ t. absurd (let z : ⊥ = cc in z))
  where
    wakes : is_held_at P d h ≡ true → woken P d h ≡ record { queue = h.queue; acknowledged = false; stop_asked = false; resume_due = (queue_power P h.queue.0).resumes }
    wakes e = rw e refl
woken_fine P d h false e k = subst Fine (sym (rests e)) k
  where
    rests : is_held_at P d h ≡ false → woken P d h ≡ h
    rests e = rw e refl

fine_woken : (P : Power) (d : ℕ) → AllAsked P → AllAsked (wake_holdings P d)
fine_woken P d h x = subst Fine (sym (entry_map no_holding P.holdings (woken P d) x refl)) (woken_fine P d (holding_of P x) (is_held_at P d (holding_of P x)) refl (h x))

fine_stage : (P : Power) (d : ℕ) (s : Stage) → AllAsked P → AllAsked (advance_stage P d s)
fine_stage P d stage.QueuesUp h = fine_woken (with_up P d true) d h
fine_stage P d _ h = h

fine_step : (P : Power) (d : ℕ) (s : Step) → AllAsked P → AllAsked (power.advance P d s)
fine_step P d (step.Run c i) h = h
fine_step P d (step.Pass s i) h = fine_stage P d s h

-- an acknowledgement is of one that was asked
abbrev pub Asks : {A : Type 0} → Deed → State A → Type 0
Asks (Acknowledge r) S = stop_was_asked S.power r.0 ≡ true
Asks _ S = ⊤

pub deed_asked : {A : Type 0} (plan : Plan) (d : Deed) (S : State A) → Asks d S → AllAsked S.power → AllAsked (do_deed plan d S).power
deed_asked plan (Arrive device info p) S a h = fine_same S.power _ (arrived_power S device.0 info p) h
deed_asked plan (AskDeletion o) S a h = fine_same S.power _ (asks_all (λ (T : State _). T.power) (λ S T D W U. refl) (subtree S.tree o.0) S) h
deed_asked plan (Present q r) S a h = fine_held S.power r.0 q.0 (is_managed plan q.0) h
deed_asked plan (Receive q r) S a h = fine_held S.power r.0 q.0 (is_managed plan q.0) h
deed_asked plan (Requeue r q) S a h = fine_given S r.0 h
deed_asked plan (Forward r q) S a h = fine_given S r.0 h
deed_asked plan (GiveBack r q) S a h = fine_given S r.0 h
deed_asked plan (SendRequest r t true) S a h = fine_given S r.0 h
deed_asked plan (SendRequest r t false) S a h = h
deed_asked plan (CompleteRequest r) S a h =
    fine_same (give_up S r.0).power _ (asks_all (λ (T : State _). T.power) (λ S T D W U. refl) (subtree (give_up S r.0).tree r.0) (record (give_up S r.0) { requests = requests.complete S.requests r.0 })) (fine_given S r.0 h)
deed_asked plan (PurgeQueue q) S a h = fine_same S.power _ (withdrawn_power plan q.0 (waiting_in S.queues q.0) (record S { control = control.set_mode S.control q.0 mode.Purged })) h
deed_asked plan (CloseReturning d) S a h = fine_same S.power _ (returning_power (managed_queues plan d.0) S) h
deed_asked plan (CloseDevice d) S a h = fine_same S.power _ (closed_power (queues_of plan d.0) (record S { control = control.shut S.control d.0 })) h
deed_asked plan (AdvancePower d s) S a h = fine_step S.power d.0 s h
deed_asked plan (Acknowledge r) S a h = fine_one S.power r.0 (λ y. record y { acknowledged = true }) (λ t. a) h
deed_asked plan (AskStop r) S a h = fine_one S.power r.0 (λ y. record y { stop_asked = true }) (λ t. refl) h
deed_asked plan (Resume r) S a h = fine_one S.power r.0 (λ y. record y { resume_due = false }) (h r.0) h
deed_asked plan _ S a h = h

-- those deeds one after another
abbrev pub AllAskDeeds : {A : Type 0} → Plan → List Deed → State A → Type 0
AllAskDeeds {A} plan ds S = AllOf plan (λ (d : Deed) (U : State A). Asks d U) ds S

pub deeds_asked : {A : Type 0} (plan : Plan) (ds : List Deed) (S : State A) → AllAskDeeds plan ds S → AllAsked S.power → AllAsked (do_deeds plan ds S).power
deeds_asked plan [] S a h = h
deeds_asked plan (d ∷ ds) S a h = deeds_asked plan ds (do_deed plan d S) a.1 (deed_asked plan d S a.0 h)

abbrev pub is_acknowledging : Deed → Bool
is_acknowledging (Acknowledge r) = true
is_acknowledging _ = false

pub none_acknowledging : (e : Event) → calls call.WdfRequestStopAcknowledge e ≡ false → (d : Deed) → may_do e d ≡ true → not (is_acknowledging d) ≡ true
none_acknowledging e off (Acknowledge r) h = absurd (let z : ⊥ = cc in z)
none_acknowledging e off _ h = refl

unasking_by : {A : Type 0} (d : Deed) (S : State A) → is_acknowledging d ≡ false → Asks d S
unasking_by (Acknowledge r) S h = absurd (let z : ⊥ = cc in z)
unasking_by _ S h = tt

pub all_unasking : {A : Type 0} (plan : Plan) (ds : List Deed) (S : State A) → list_all (λ d. not (is_acknowledging d)) ds ≡ true → AllAskDeeds plan ds S
all_unasking {A} plan ds S h = all_such plan (λ (d : Deed) (U : State A). Asks d U) (λ d. not (is_acknowledging d)) (λ d U k. unasking_by d U (not_true (is_acknowledging d) k)) ds S h
