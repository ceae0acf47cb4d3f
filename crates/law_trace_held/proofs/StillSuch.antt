-- Of the requests held from power-managed queues, those that are acknowledged, or those that aren't: `on` says which, of
-- an acknowledgement. After a deed that takes or acknowledges none, one is such only where it was before, held from the
-- same queue.
use Rattle.std.proofs.Common.{if◌then◌else◌, ◌≡◌, ℕ, Bool, true, false, ◌&&◌, [], ◌∷◌, inl, inr, refl, sym, ap, subst, ◌∙◌}
use Rattle.std.specs.Prelude.{⊤}
use Rattle.wdf_base.specs.declared.plan.Plan.{Plan}
use Rattle.wdf_base.specs.declared.rank.Rank.{Rank}
use Rattle.wdf_base.specs.declared.rank.Rank.TheVariants as rank
use Rattle.wdf_base.specs.declared.call.Callback.{Callback}
use Rattle.wdf_model.specs.declared.enums.Mode.TheVariants as mode
use Rattle.wdf_model.specs.declared.entries.Holding.{Holding}
use Rattle.wdf_model.specs.Plans.{managed_queues, queues_of}
use Rattle.wdf_model.specs.parts.Tree.{subtree}
use Rattle.wdf_model.specs.parts.Control as control
use Rattle.wdf_model.specs.parts.Queues.{waiting_in}
use Rattle.wdf_model.specs.parts.Power.{Power, holding_of, is_held, no_holding, with_holding}
use Rattle.wdf_model.specs.parts.Power as power
use Rattle.wdf_model.specs.State.{State, is_with_driver}
use Rattle.wdf_model.specs.Ids.{object_id}
use Rattle.wdf_model.specs.declared.deed.Deed.{Deed}
use Rattle.wdf_model.specs.declared.deed.Deed.TheVariants.{Arrive, AskDeletion, Acknowledge, AdvancePower, AskStop, CloseDevice, CloseReturning, CompleteRequest, Forward, GiveBack, Present, PurgeQueue, Receive, Requeue, Resume, SendRequest}
use Rattle.wdf_model.specs.rules.Deeds.{do_deed, do_deeds, give_up, release_power}
use Rattle.wdf_model.specs.rules.Calls.{Outcome, number, success}
use Rattle.wdf_model.specs.rules.Starts.{effect}
use Rattle.wdf_model.proofs.Counts.{one_or_two}
use Rattle.law_machine_lives.proofs.Stays.{asks_all, closed_power, returning_power, withdrawn_power}
use Rattle.law_machine_counts.proofs.Releases.{holding_elsewhere, holding_here}
use Rattle.law_trace_requests.proofs.Entries.{forward_by}
use Rattle.law_machine_lives.proofs.Readers.{power_of}
use Rattle.law_trace_held.proofs.Holdings.{completed_power, is_holding}
use Rattle.law_machine_counts.proofs.Arrived.{arrived_power}

give_power : {A : Type 0} (S : State A) (r : ℕ) (b : Bool) → is_with_driver S r ≡ b → (give_up S r).power ≡ (if b then release_power S.power r else S.power)
give_power S r true e = rw e refl
give_power S r false e = rw e refl

module _ (on : Bool → Bool) where
  abbrev pub is_such : Holding → Bool
  is_such h = is_held h && on h.acknowledged

  abbrev pub Still : Holding → Holding → Type 0
  Still h k = is_such k ≡ true → (is_such h ≡ true) × (k.queue.0 ≡ h.queue.0)

  pub still_same : (h k : Holding) → k ≡ h → Still h k
  still_same h k e t = (subst (λ (y : Holding). is_such y ≡ true) e t, ap (λ (y : Holding). y.queue.0) e)

  pub still_then : (h k l : Holding) → Still h k → Still k l → Still h l
  still_then h k l a b t = let second_ = b t in let first_ = a second_.0 in (first_.0, second_.1 ∙ first_.1)

  -- each request
  abbrev pub StillSuch : Power → Power → Type 0
  StillSuch P O = (x : ℕ) → Still (holding_of P x) (holding_of O x)

  pub still_power : (P O : Power) → O ≡ P → StillSuch P O
  still_power P O e x = still_same (holding_of P x) (holding_of O x) (ap (λ (Q : Power). holding_of Q x) e)

  pub still_one : (P : Power) (r : ℕ) (f : Holding → Holding) → ((h : Holding) → Still h (f h)) → StillSuch P (with_holding P r f)
  still_one P r f g x = elim (one_or_two x r) [
    | inl e ↦ subst (λ y. Still (holding_of P y) (holding_of (with_holding P r f) y)) (sym e) (subst (λ (k : Holding). Still (holding_of P r) k) (sym (holding_here P r f)) (g (holding_of P r)))
    | inr n ↦ still_same (holding_of P x) (holding_of (with_holding P r f) x) (holding_elsewhere P r x f n)
  ]

  -- ---- what deeds make of it

  still_released : (P : Power) (r : ℕ) (b : Bool) → StillSuch P (if b then power.held_less P r else P)
  still_released P r true = still_one P r (λ _. no_holding) (λ h t. absurd (let z : false ≡ true = t in let y : ⊥ = cc in y))
  still_released P r false = still_power P P refl

  given_by : {A : Type 0} (S : State A) (r : ℕ) (b : Bool) → StillSuch S.power (if b then release_power S.power r else S.power)
  given_by S r true = still_released S.power r (is_held (holding_of S.power r))
  given_by S r false = still_power S.power S.power refl

  pub still_given : {A : Type 0} (S : State A) (r : ℕ) → StillSuch S.power (give_up S r).power
  still_given S r = subst (StillSuch S.power) (sym (give_power S r (is_with_driver S r) refl)) (given_by S r (is_with_driver S r))

  pub still_completed : {A : Type 0} (plan : Plan) (S : State A) (r : ℕ) → StillSuch S.power (do_deed plan (CompleteRequest (object_id r)) S).power
  still_completed plan S r = subst (StillSuch S.power) (sym (completed_power plan S r)) (still_given S r)

  -- where a device's power goes on, that step has to keep it
  abbrev pub Advances : Deed → Power → Type 0
  Advances (AdvancePower d s) P = StillSuch P (power.advance P d.0 s)
  Advances _ P = ⊤

  pub deed_still : {A : Type 0} (plan : Plan) (d : Deed) (S : State A) → is_holding d ≡ false → Advances d S.power → StillSuch S.power (do_deed plan d S).power
  deed_still plan (Present q r) S h n = absurd (let z : ⊥ = cc in z)
  deed_still plan (Receive q r) S h n = absurd (let z : ⊥ = cc in z)
  deed_still plan (Requeue r q) S h n = absurd (let z : ⊥ = cc in z)
  deed_still plan (Forward r q) S h n = absurd (let z : ⊥ = cc in z)
  deed_still plan (GiveBack r q) S h n = absurd (let z : ⊥ = cc in z)
  deed_still plan (CompleteRequest r) S h n = absurd (let z : ⊥ = cc in z)
  deed_still plan (Acknowledge r) S h n = absurd (let z : ⊥ = cc in z)
  deed_still plan (SendRequest r t true) S h n = absurd (let z : ⊥ = cc in z)
  deed_still plan (Arrive device info p) S h n = still_power S.power _ (arrived_power S device.0 info p)
  deed_still plan (AskDeletion o) S h n = still_power S.power _ (asks_all power_of (λ S T D W U. refl) (subtree S.tree o.0) S)
  deed_still plan (PurgeQueue q) S h n = still_power S.power _ (withdrawn_power plan q.0 (waiting_in S.queues q.0) (record S { control = control.set_mode S.control q.0 mode.Purged }))
  deed_still plan (CloseReturning d) S h n = still_power S.power _ (returning_power (managed_queues plan d.0) S)
  deed_still plan (CloseDevice d) S h n = still_power S.power _ (closed_power (queues_of plan d.0) (record S { control = control.shut S.control d.0 }))
  deed_still plan (AdvancePower d s) S h n = n
  deed_still plan (AskStop r) S h n = still_one S.power r.0 (λ y. record y { stop_asked = true }) (λ y t. (t, refl))
  deed_still plan (Resume r) S h n = still_one S.power r.0 (λ y. record y { resume_due = false }) (λ y t. (t, refl))
  deed_still plan _ S h n = still_power S.power S.power refl

  -- ---- what calls and starts make of it

  module _ {A : Type 0} (plan : Plan) (S : State A) where
    abbrev pub By : Outcome → Type 0
    By o = StillSuch S.power (do_deeds plan o.deeds S).power

    by_if : (u : Bool) (o p : Outcome) → By o → By p → By (if u then o else p)
    by_if true o p a b = a
    by_if false o p a b = b

    pub gives_still : (r q : ℕ) (u : Bool) → By (if u then success (GiveBack (object_id r) (object_id q) ∷ []) else success (Requeue (object_id r) (object_id q) ∷ []))
    gives_still r q u = by_if u (success (GiveBack (object_id r) (object_id q) ∷ [])) (success (Requeue (object_id r) (object_id q) ∷ [])) (still_given S r) (still_given S r)

    pub forwards_still : (r q : ℕ) (a b c : Bool) → By (forward_by r q a b c)
    forwards_still r q true b c = still_power S.power S.power refl
    forwards_still r q false true c = still_power S.power S.power refl
    forwards_still r q false false true = still_given S r
    forwards_still r q false false false = still_given S r

    pub sends_still : (r t : ℕ) (u forget : Bool) → By (if u then number 1 (SendRequest (object_id r) (object_id t) forget ∷ []) else number 0 [])
    sends_still r t true true = still_given S r
    sends_still r t true false = still_power S.power S.power refl
    sends_still r t false forget = still_power S.power S.power refl

    pub effect_still : (y : Rank) (cpu : ℕ) (c : Callback) (o : ℕ) → StillSuch S.power (do_deeds plan (effect plan S y cpu c o) S).power
    effect_still rank.Destroy cpu c o = still_power S.power _ refl
    effect_still _ cpu c o = still_power S.power _ refl
