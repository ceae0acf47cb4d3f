-- How far each device is on its way down, and what the events say of it: `queues_down` came, and after `settled` each request
-- that is held was acknowledged since.
use Rattle.std.proofs.Common.{if◌then◌else◌, ◌≡◌, ◌≢◌, ℕ, Bool, true, false, not, ◌&&◌, ◌||◌, List, [], ◌∷◌, ◌++◌, inl, inr, Option, Some, None, is_some, drop, refl, sym, ap, subst, ◌∙◌}
use Rattle.std.proofs.lemmas.Bool.{cases_Bool}
use Rattle.wdf_base.specs.declared.ids.Handle.{Handle}
use Rattle.wdf_base.specs.declared.plan.Plan.{Plan}
use Rattle.wdf_base.specs.declared.value.Value.{Value}
use Rattle.wdf_base.specs.declared.call.Callback.{Callback}
use Rattle.wdf_base.specs.declared.event.Ask.{Ask}
use Rattle.wdf_base.specs.declared.event.Event.{Event}
use Rattle.wdf_base.specs.declared.event.Event.TheVariants as event
use Rattle.wdf_base.specs.declared.event.Stage.{Stage}
use Rattle.wdf_base.specs.declared.event.Stage.TheVariants as stage
use Rattle.wdf_base.specs.declared.event.Step.{Step}
use Rattle.wdf_base.specs.declared.event.Step.TheVariants as step
use Rattle.wdf_model.specs.declared.entries.DevicePower.{DevicePower}
use Rattle.wdf_model.specs.Tables.{entry}
use Rattle.wdf_model.specs.Plans.{queue_of}
use Rattle.wdf_model.specs.parts.Power.{Power, advance_stage, no_device_power}
use Rattle.wdf_model.specs.parts.Pnp.{Pnp, Sequence, left_after, left_after_failure, no_sequence, sequence_of, steps_for, taken_step}
use Rattle.wdf_model.specs.parts.Pnp as pnp
use Rattle.wdf_model.specs.State.{State}
use Rattle.wdf_model.proofs.Maps.{entry_put_other, entry_put_same}
use Rattle.wdf_model.proofs.Tests.{both, both_left, both_right, not_true}
use Rattle.wdf_model.proofs.Counts.{equal, not_equal, one_or_two}
use Rattle.wdf_laws.specs.declared.sign.Sign.{Sign}
use Rattle.wdf_laws.specs.declared.sign.Sign.TheVariants as sign
use Rattle.wdf_laws.specs.Laws.{is_managed_of}
use Rattle.wdf_laws.specs.Signs.{shows}
use Rattle.wdf_laws.specs.Words.{ever, followed, stands}
use Rattle.law_trace_requests.proofs.Cancels.{stands_next}
use Rattle.law_trace_power.proofs.Happens.{taken_pass, taken_run}
use Rattle.law_trace_families.proofs.Gone.{ever_now, ever_still}
use Rattle.law_trace_settled.proofs.Along.{Way, asked, failed, fits, may_begin, may_pass, next, passes}
use Rattle.law_trace_settled.proofs.Moves.{Asked, Begun, Ended, Moved, Passed, Unmoved}
use Rattle.law_machine_counts.proofs.StepMoves.{passed_running}
use Rattle.law_trace_power.proofs.Sequences.{passed_left}
use Rattle.wdf_base.specs.Values.{is_success}

-- ---- words

-- what stood before is still followed, or is followed now
not_standing : (p s q : Bool) → p ≡ false → (s ≡ false) → not (p || (s && not q)) ≡ true
not_standing true s q h k = absurd (let z : ⊥ = cc in z)
not_standing false true q h k = absurd (let z : ⊥ = cc in z)
not_standing false false q h k = refl

ended_now : (p s q : Bool) → p ≡ false → q ≡ true → not (p || (s && not q)) ≡ true
ended_now true s q h k = absurd (let z : ⊥ = cc in z)
ended_now false true true h k = refl
ended_now false false true h k = refl
ended_now false s false h k = absurd (let z : ⊥ = cc in z)

pub followed_on : (p q : Sign) (es : List Event) (e : Event) → shows p e ≡ false → followed p q es ≡ true → followed p q (es ++ e ∷ []) ≡ true
followed_on p q es e off h =
    both (ever p (es ++ e ∷ [])) (not (stands p q (es ++ e ∷ []))) (ever_still p es e (both_left (ever p es) (not (stands p q es)) h))
    (ap not (stands_next p q es e) ∙ not_standing (shows p e) (stands p q es) (shows q e) off (not_true (stands p q es) (both_right (ever p es) (not (stands p q es)) h)))

pub followed_now : (p q : Sign) (es : List Event) (e : Event) → shows p e ≡ false → shows q e ≡ true → ever p es ≡ true → followed p q (es ++ e ∷ []) ≡ true
followed_now p q es e off on h =
    both (ever p (es ++ e ∷ [])) (not (stands p q (es ++ e ∷ []))) (ever_still p es e h)
    (ap not (stands_next p q es e) ∙ ended_now (shows p e) (stands p q es) (shows q e) off on)

-- ---- what is held of a device

abbrev pub AllAcked : Plan → List Event → ℕ → Type 0
AllAcked plan es d = (r q : ℕ) → is_managed_of d (queue_of plan q) ≡ true → stands (sign.TakingFrom r q) (sign.GivingUp r) es ≡ true → followed (sign.QueuesDown d) (sign.Acknowledgement r) es ≡ true

abbrev pub up_in : List DevicePower → ℕ → Bool
up_in D d = (entry no_device_power D d).up

-- only a device whose queues are up loses a request to the driver
abbrev pub TakesUp : Plan → List DevicePower → Event → Type 0
TakesUp plan D e = (r q d : ℕ) → is_managed_of d (queue_of plan q) ≡ true → shows (sign.TakingFrom r q) e ≡ true → up_in D d ≡ true

pub stood : (p s q : Bool) → p ≡ false → (p || (s && not q)) ≡ true → s ≡ true
stood true s q h k = absurd (let z : ⊥ = cc in z)
stood false true q h k = refl
stood false false q h k = absurd (let z : ⊥ = cc in z)

acked_on : (plan : Plan) (D : List DevicePower) (es : List Event) (e : Event) (d : ℕ) → TakesUp plan D e → up_in D d ≡ false → shows (sign.QueuesDown d) e ≡ false → AllAcked plan es d → AllAcked plan (es ++ e ∷ []) d
acked_on plan D es e d takes low quiet_ k r q of held =
    followed_on (sign.QueuesDown d) (sign.Acknowledgement r) es e quiet_
    (k r q of (stood (shows (sign.TakingFrom r q) e) (stands (sign.TakingFrom r q) (sign.GivingUp r) es) (shows (sign.GivingUp r) e) (elim (cases_Bool (shows (sign.TakingFrom r q) e)) [
      | inr off ↦ off
      | inl on ↦ absurd (let up : up_in D d ≡ true = takes r q d of on in let z : true ≡ false = sym up ∙ low in let y : ⊥ = cc in y)
    ]) (sym (stands_next (sign.TakingFrom r q) (sign.GivingUp r) es e) ∙ held)))

-- ---- one device

-- of its sequence and whether its queues are up
pub record OnCourse (plan : Plan) (q : Sequence) (up : Bool) (es : List Event) (d : ℕ) : Type 0 where
  pub way : Way
  pub fits : fits q.left way ≡ true
  pub idle : is_some q.running ≡ true → way.down ≡ false
  pub down : way.down ≡ true → (ever (sign.QueuesDown d) es ≡ true) × (up ≡ false)
  pub settled : way.settled ≡ true → AllAcked plan es d × (up ≡ false)

-- it speaks of the steps left and of the running step alone
same_course : (plan : Plan) (q r : Sequence) (up : Bool) (es : List Event) (d : ℕ) → r.left ≡ q.left → r.running ≡ q.running → OnCourse plan q up es d → OnCourse plan r up es d
same_course plan q r up es d left running k = record {
  way = k.way;
  fits = subst (λ ss. fits ss k.way ≡ true) (sym left) k.fits;
  idle = λ h. k.idle (subst (λ x. is_some x ≡ true) running h);
  down = k.down;
  settled = k.settled;
}

abbrev pub Course : Plan → Pnp → List DevicePower → List Event → Type 0
Course plan Q D es = (d : ℕ) → OnCourse plan (sequence_of Q d) (up_in D d) es d

module _ (plan : Plan) (D : List DevicePower) (es : List Event) (e : Event) (d : ℕ) (takes : TakesUp plan D e) (quiet_ : shows (sign.QueuesDown d) e ≡ false) where
  settled_on : {x : Bool} → (x ≡ true → AllAcked plan es d × (up_in D d ≡ false)) → x ≡ true → AllAcked plan (es ++ e ∷ []) d × (up_in D d ≡ false)
  settled_on k h = let old = k h in (acked_on plan D es e d takes old.1 quiet_ old.0, old.1)

  -- the steps left, or those that come in their place, go on as they were
  with_left : (q r : Sequence) → (k : OnCourse plan q (up_in D d) es d) → fits r.left k.way ≡ true → (is_some r.running ≡ true → k.way.down ≡ false) → OnCourse plan r (up_in D d) (es ++ e ∷ []) d
  with_left q r k left idle = record {
    way = k.way;
    fits = left;
    idle = idle;
    down = λ h. let old = k.down h in (ever_still (sign.QueuesDown d) es e old.0, old.1);
    settled = settled_on k.settled;
  }

  goes_on : (q : Sequence) → OnCourse plan q (up_in D d) es d → OnCourse plan q (up_in D d) (es ++ e ∷ []) d
  goes_on q k = with_left q q k k.fits k.idle

  begins : (q : Sequence) (c : Callback) (j : Option Handle) (ss : List Step) → q.left ≡ step.Run c j ∷ ss → OnCourse plan q (up_in D d) es d → OnCourse plan (record q { left = ss; running = Some (step.Run c j) }) (up_in D d) (es ++ e ∷ []) d
  begins q c j ss here k = record {
    way = next (step.Run c j) k.way;
    fits = both_right (may_begin c k.way) (fits ss (next (step.Run c j) k.way)) (subst (λ ts. fits ts k.way ≡ true) here k.fits);
    idle = λ h. refl;
    down = λ h. absurd (let z : ⊥ = cc in z);
    settled = settled_on k.settled;
  }

  left_fits : (q : Sequence) (c : Callback) (w : Way) (b : Bool) → fits q.left w ≡ true → fits (if b then q.left else left_after_failure q c) w ≡ true
  left_fits q c w true h = h
  left_fits q c w false h = failed q c w h

  ends : (q : Sequence) (c : Callback) (l : Option Handle) (v : Value) → OnCourse plan q (up_in D d) es d → OnCourse plan (record q { left = left_after q (step.Run c l) v; running = None }) (up_in D d) (es ++ e ∷ []) d
  ends q c l v k = with_left q (record q { left = left_after q (step.Run c l) v; running = None }) k (left_fits q c k.way (is_success v) k.fits) (λ h. absurd (let z : ⊥ = cc in z))

  asks : (q : Sequence) (a : Ask) → OnCourse plan q (up_in D d) es d → OnCourse plan (record q { left = steps_for q.steps q.ever_working q.phase a }) (up_in D d) (es ++ e ∷ []) d
  asks q a k = with_left q (record q { left = steps_for q.steps q.ever_working q.phase a }) k (asked q.steps q.ever_working q.phase a k.way) k.idle

-- ---- a stage

-- whether the queues are up after a stage
abbrev pub up_by : Stage → Bool → Bool
up_by stage.QueuesUp u = true
up_by stage.QueuesDown u = false
up_by _ u = u

pub up_here : (P : Power) (n : ℕ) (s : Stage) → up_in (advance_stage P n s).devices n ≡ up_by s (up_in P.devices n)
up_here P n stage.Hardware = ap (λ p. p.up) (entry_put_same no_device_power P.devices n (record (entry no_device_power P.devices n) { hardware = true }))
up_here P n stage.NoHardware = ap (λ p. p.up) (entry_put_same no_device_power P.devices n (record (entry no_device_power P.devices n) { hardware = false }))
up_here P n stage.QueuesUp = ap (λ p. p.up) (entry_put_same no_device_power P.devices n (record (entry no_device_power P.devices n) { up = true }))
up_here P n stage.QueuesDown = ap (λ p. p.up) (entry_put_same no_device_power P.devices n (record (entry no_device_power P.devices n) { up = false }))
up_here P n _ = refl

pub up_there : (P : Power) (n : ℕ) (s : Stage) (d : ℕ) → d ≢ n → up_in (advance_stage P n s).devices d ≡ up_in P.devices d
up_there P n stage.Hardware d x = ap (λ p. p.up) (entry_put_other no_device_power P.devices n d (record (entry no_device_power P.devices n) { hardware = true }) x)
up_there P n stage.NoHardware d x = ap (λ p. p.up) (entry_put_other no_device_power P.devices n d (record (entry no_device_power P.devices n) { hardware = false }) x)
up_there P n stage.QueuesUp d x = ap (λ p. p.up) (entry_put_other no_device_power P.devices n d (record (entry no_device_power P.devices n) { up = true }) x)
up_there P n stage.QueuesDown d x = ap (λ p. p.up) (entry_put_other no_device_power P.devices n d (record (entry no_device_power P.devices n) { up = false }) x)
up_there P n _ d x = refl

-- a stage of another device
pub not_shown : (n : Handle) (s : Stage) (j : Option Handle) (d : ℕ) → d ≢ n.id.0 → (shows (sign.QueuesUp d) (event.Stage n s j) ≡ false) × (shows (sign.QueuesDown d) (event.Stage n s j) ≡ false)
not_shown n stage.QueuesUp j d x = (not_equal n.id.0 d (λ e. x (sym e)), refl)
not_shown n stage.QueuesDown j d x = (refl, not_equal n.id.0 d (λ e. x (sym e)))
not_shown n _ j d x = (refl, refl)

module _ (plan : Plan) (D : List DevicePower) (es : List Event) (n : Handle) (j : Option Handle) (ss : List Step) (q : Sequence) (k : OnCourse plan q (up_in D n.id.0) es n.id.0) where
  fits_next : (s : Stage) → q.left ≡ step.Pass s j ∷ ss → (may_pass s k.way && fits ss (passes s k.way)) ≡ true
  fits_next s here = subst (λ ts. fits ts k.way ≡ true) here k.fits

  -- a stage that leaves the queues as they are, and isn't `settled`
  passes_plain : (s : Stage) (takes : TakesUp plan D (event.Stage n s j)) → shows (sign.QueuesDown n.id.0) (event.Stage n s j) ≡ false → passes s k.way ≡ record { down = false; settled = k.way.settled } → q.left ≡ step.Pass s j ∷ ss → up_by s (up_in D n.id.0) ≡ up_in D n.id.0
      → OnCourse plan (record (pnp.passed s (record q { left = ss })) { left = ss; running = None }) (up_by s (up_in D n.id.0)) (es ++ event.Stage n s j ∷ []) n.id.0
  passes_plain s takes quiet_ same here up = record {
    way = record { down = false; settled = k.way.settled };
    fits = subst (λ w. fits ss w ≡ true) same (both_right (may_pass s k.way) (fits ss (passes s k.way)) (fits_next s here));
    idle = λ h. refl;
    down = λ h. absurd (let z : ⊥ = cc in z);
    settled = λ h. let t = settled_on plan D es (event.Stage n s j) n.id.0 takes quiet_ k.settled h in (t.0, up ∙ t.1);
  }

  stage_passes : (s : Stage) → TakesUp plan D (event.Stage n s j) → (s ≡ stage.Settled → AllAcked plan es n.id.0) → q.left ≡ step.Pass s j ∷ ss
      → OnCourse plan (record (pnp.passed s (record q { left = ss })) { left = ss; running = None }) (up_by s (up_in D n.id.0)) (es ++ event.Stage n s j ∷ []) n.id.0
  stage_passes stage.QueuesUp takes acked here = record {
    way = record { down = false; settled = false };
    fits = both_right true (fits ss (record { down = false; settled = false })) (fits_next stage.QueuesUp here);
    idle = λ h. refl;
    down = λ h. absurd (let z : ⊥ = cc in z);
    settled = λ h. absurd (let z : ⊥ = cc in z);
  }
  stage_passes stage.QueuesDown takes acked here = record {
    way = record { down = true; settled = false };
    fits = both_right true (fits ss (record { down = true; settled = false })) (fits_next stage.QueuesDown here);
    idle = λ h. absurd (let z : ⊥ = cc in z);
    down = λ h. (ever_now (sign.QueuesDown n.id.0) es (event.Stage n stage.QueuesDown j) (equal n.id.0 n.id.0 refl), refl);
    settled = λ h. absurd (let z : ⊥ = cc in z);
  }
  stage_passes stage.Settled takes acked here =
      let both_ = fits_next stage.Settled here in
      let low : up_in D n.id.0 ≡ false = (k.down (both_left k.way.down (fits ss (record { down = false; settled = true })) both_)).1 in
      record {
        way = record { down = false; settled = true };
        fits = both_right k.way.down (fits ss (record { down = false; settled = true })) both_;
        idle = λ h. refl;
        down = λ h. absurd (let z : ⊥ = cc in z);
        settled = λ h. (acked_on plan D es (event.Stage n stage.Settled j) n.id.0 takes low refl (acked refl), low);
      }
  stage_passes s takes acked here = passes_plain s takes refl refl here refl

-- ---- each event

module _ {A : Type 0} (plan : Plan) (S U : State A) (es : List Event) (e : Event) (takes : TakesUp plan S.power.devices e) (k : Course plan S.pnp S.power.devices es) where
  -- where the device's sequence and power stay
  stays : (d : ℕ) → shows (sign.QueuesDown d) e ≡ false → sequence_of U.pnp d ≡ sequence_of S.pnp d → up_in U.power.devices d ≡ up_in S.power.devices d → OnCourse plan (sequence_of U.pnp d) (up_in U.power.devices d) (es ++ e ∷ []) d
  stays d quiet_ same up =
      subst (λ x. OnCourse plan x (up_in U.power.devices d) (es ++ e ∷ []) d) (sym same)
      (subst (λ u. OnCourse plan (sequence_of S.pnp d) u (es ++ e ∷ []) d) (sym up) (goes_on plan S.power.devices es e d takes quiet_ (sequence_of S.pnp d) (k d)))

  -- where the device's sequence changes to another
  changes_to : (d : ℕ) (r : Sequence) → sequence_of U.pnp d ≡ r → U.power.devices ≡ S.power.devices → OnCourse plan r (up_in S.power.devices d) (es ++ e ∷ []) d → OnCourse plan (sequence_of U.pnp d) (up_in U.power.devices d) (es ++ e ∷ []) d
  changes_to d r same devices new =
      subst (λ x. OnCourse plan x (up_in U.power.devices d) (es ++ e ∷ []) d) (sym same) (subst (λ D. OnCourse plan r (up_in D d) (es ++ e ∷ []) d) (sym devices) new)

  same_up : U.power.devices ≡ S.power.devices → (d : ℕ) → up_in U.power.devices d ≡ up_in S.power.devices d
  same_up devices d = ap (λ D. up_in D d) devices

  by_device : (n d : ℕ) (Q : Pnp) (new : Sequence) → Q ≡ pnp.with_sequence S.pnp n (λ q. new) → U.pnp ≡ Q → U.power.devices ≡ S.power.devices → shows (sign.QueuesDown d) e ≡ false
      → OnCourse plan new (up_in S.power.devices n) (es ++ e ∷ []) n → OnCourse plan (sequence_of U.pnp d) (up_in U.power.devices d) (es ++ e ∷ []) d
  by_device n d Q new is moves devices quiet_ here = elim (one_or_two d n) [
    | inl x ↦
        changes_to d new (ap (λ R. sequence_of R d) (moves ∙ is) ∙ ap (entry no_sequence (pnp.with_sequence S.pnp n (λ q. new)).devices) x ∙ entry_put_same no_sequence S.pnp.devices n new) devices
        (subst (λ y. OnCourse plan new (up_in S.power.devices y) (es ++ e ∷ []) y) (sym x) here)
    | inr x ↦ stays d quiet_ (ap (λ R. sequence_of R d) (moves ∙ is) ∙ entry_put_other no_sequence S.pnp.devices n d new x) (same_up devices d)
  ]

  pub course_after : ((n : Handle) (s : Stage) (j : Option Handle) → e ≡ event.Stage n s j → s ≡ stage.Settled → AllAcked plan es n.id.0) → Moved plan S U e → Course plan U.pnp U.power.devices (es ++ e ∷ [])
  course_after acked (Unmoved quiet_ same devices) d = stays d (quiet_ d).1 (ap (λ R. sequence_of R d) same) (same_up devices d)
  course_after acked (Begun n c j quiet_ idle next_ moves devices) d =
      let q : Sequence = sequence_of S.pnp n in
      by_device n d (pnp.taken S.pnp n) (taken_step q) refl moves devices (quiet_ d).1
      (subst (λ x. OnCourse plan x (up_in S.power.devices n) (es ++ e ∷ []) n) (sym (taken_run q c j (drop 1 q.left) next_)) (begins plan S.power.devices es e n takes (quiet_ n).1 q c j (drop 1 q.left) next_ (k n)))
  course_after acked (Ended n c j l v quiet_ runs moves devices) d =
      let q : Sequence = sequence_of S.pnp n in
      by_device n d (pnp.ended S.pnp n (step.Run c l) v) (record q { left = left_after q (step.Run c l) v; running = None }) refl moves devices (quiet_ d).1 (ends plan S.power.devices es e n takes (quiet_ n).1 q c l v (k n))
  course_after acked (Asked n a quiet_ free moves devices) d =
      let q : Sequence = sequence_of S.pnp n in
      by_device n d (pnp.ask S.pnp n a) (record q { left = steps_for q.steps q.ever_working q.phase a }) refl moves devices (quiet_ d).1 (asks plan S.power.devices es e n takes (quiet_ n).1 q a (k n))
  course_after acked (Passed n s j is may_come idle next_ moves devices) d = elim (one_or_two d n.id.0) [
    | inr x ↦
        stays d (ap (shows (sign.QueuesDown d)) is ∙ (not_shown n s j d x).1) (ap (λ R. sequence_of R d) moves ∙ entry_put_other no_sequence S.pnp.devices n.id.0 d (taken_step (sequence_of S.pnp n.id.0)) x)
        (ap (λ D. up_in D d) devices ∙ up_there S.power n.id.0 s d x)
    | inl x ↦
        let q : Sequence = sequence_of S.pnp n.id.0 in
        let r : Sequence = pnp.passed s (record q { left = drop 1 q.left }) in
        let at : sequence_of U.pnp n.id.0 ≡ r = ap (λ R. sequence_of R n.id.0) moves ∙ entry_put_same no_sequence S.pnp.devices n.id.0 (taken_step q) ∙ taken_pass q s j (drop 1 q.left) next_ in
        let up : up_in U.power.devices n.id.0 ≡ up_by s (up_in S.power.devices n.id.0) = ap (λ D. up_in D n.id.0) devices ∙ up_here S.power n.id.0 s in
        let new : OnCourse plan (record r { left = drop 1 q.left; running = None }) (up_by s (up_in S.power.devices n.id.0)) (es ++ event.Stage n s j ∷ []) n.id.0
        = stage_passes plan S.power.devices es n j (drop 1 q.left) q (k n.id.0) s (subst (TakesUp plan S.power.devices) is takes) (acked n s j is) next_ in
        let as_is : OnCourse plan r (up_by s (up_in S.power.devices n.id.0)) (es ++ event.Stage n s j ∷ []) n.id.0
        = same_course plan (record r { left = drop 1 q.left; running = None }) r (up_by s (up_in S.power.devices n.id.0)) (es ++ event.Stage n s j ∷ []) n.id.0
        (passed_left s (record q { left = drop 1 q.left })) (passed_running s (record q { left = drop 1 q.left }) ∙ idle) new in
        subst (λ y. OnCourse plan (sequence_of U.pnp y) (up_in U.power.devices y) (es ++ e ∷ []) y) (sym x)
        (subst (λ f. OnCourse plan (sequence_of U.pnp n.id.0) (up_in U.power.devices n.id.0) (es ++ f ∷ []) n.id.0) (sym is)
        (subst (λ y. OnCourse plan y (up_in U.power.devices n.id.0) (es ++ event.Stage n s j ∷ []) n.id.0) (sym at)
        (subst (λ u. OnCourse plan r u (es ++ event.Stage n s j ∷ []) n.id.0) (sym up) as_is)))
  ]
