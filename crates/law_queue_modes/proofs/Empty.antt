-- Nothing waits in a queue that is Purged: what a deed keeps of that.
use Rattle.std.proofs.Common.{if◌then◌else◌, ◌≡◌, ℕ, suc, ◌==◌, Bool, true, false, not, List, [], ◌∷◌, ◌++◌, ◌⊎◌, inl, inr, Option, Some, None, is_some, fold, length, refl, sym, ap, subst, ◌∙◌, arith}
use Rattle.std.specs.Prelude.{⊤}
use Rattle.std.specs.List.{list_all}
use Rattle.wdf_base.specs.declared.plan.Plan.{Plan}
use Rattle.wdf_base.specs.declared.declared.QueueInfo.{QueueInfo}
use Rattle.wdf_base.specs.declared.object.Place.{Place}
use Rattle.wdf_base.specs.declared.object.Place.TheVariants as place
use Rattle.wdf_base.specs.declared.object.RequestInfo.{RequestInfo}
use Rattle.wdf_model.specs.declared.enums.Mode.{Mode}
use Rattle.wdf_model.specs.declared.enums.Mode.TheVariants.{Purged}
use Rattle.wdf_model.specs.Tables.{contains, without}
use Rattle.wdf_model.specs.Plans.{device_of_queue, is_queue_of, queue_of, queues_of}
use Rattle.wdf_model.specs.parts.Tree.{next_id}
use Rattle.wdf_model.specs.parts.Queues.{Queues, is_empty_queue, waiting_in}
use Rattle.wdf_model.specs.parts.Control.{Control, control_of, is_closed, mode_of, set_mode, shut, with_control}
use Rattle.wdf_model.specs.State.{State}
use Rattle.wdf_model.specs.Ids.{object_id}
use Rattle.wdf_model.specs.declared.deed.Deed.{Deed}
use Rattle.wdf_model.specs.declared.deed.Deed.TheVariants.{Arrive, CloseDevice, Forward, PurgeQueue, Requeue, SetMode}
use Rattle.wdf_model.specs.rules.Deeds.{arrive_at, close_queue, do_deed, do_deeds, give_up, withdraw}
use Rattle.wdf_model.proofs.Maps.{entry_map}
use Rattle.wdf_model.proofs.Counts.{equal, not_equal, one_or_two}
use Rattle.wdf_model.proofs.Tests.{both, both_left, both_right, right_so}
use Rattle.law_machine_base.proofs.KeptMoves.{queue_elsewhere, queue_here}
use Rattle.law_machine_lives.proofs.Subtrees.{kept_there}
use Rattle.law_trace_requests.proofs.Lines.{Line, LinesShrink, Shrinks, deed_shrinks, each_in, given_lines}
use Rattle.law_queue_modes.proofs.Stays.{SameModes, closed_control, control_elsewhere, control_here, deed_modes, entered_modes, its_device, its_mode, purged_control, read_same}
use Rattle.law_queue_modes.proofs.Acts.{shut_at, shut_by, shut_device}
use Rattle.law_queue_modes.proofs.Told.{is_within}

-- ---- lines

nothing : (ys : List ℕ) → list_all (λ y. false) ys ≡ true → ys ≡ []
nothing [] h = refl
nothing (y ∷ ys) h = absurd (let z : ⊥ = cc in z)

-- an empty line shrinks to an empty one
stays_empty : (xs ys : List ℕ) → Shrinks xs ys → xs ≡ [] → ys ≡ []
stays_empty xs ys shrinks e = nothing ys (shrinks (λ x y. true) (λ y. false) (subst (Line (λ x y. true) (λ y. false)) (sym e) (record { ordered = refl; each = refl }))).each

left_by : (r : ℕ) (rs : List ℕ) (x : ℕ) (xs : List ℕ) (b : Bool) → (x == r) ≡ b → contains x (r ∷ rs) ≡ true → list_all (λ y. contains y rs) (without r xs) ≡ true
    → list_all (λ y. contains y rs) (if not b then x ∷ without r xs else without r xs) ≡ true
left_by r rs x xs true e h k = k
left_by r rs x xs false e h k =
    let apart : (r == x) ≡ false = not_equal r x (λ same. let on = equal x r (sym same) in let z : ⊥ = cc in z) in
    both (contains x rs) (list_all (λ y. contains y rs) (without r xs)) (right_so (r == x) (contains x rs) apart h) k

left : (r : ℕ) (rs xs : List ℕ) → list_all (λ y. contains y (r ∷ rs)) xs ≡ true → list_all (λ y. contains y rs) (without r xs) ≡ true
left r rs [] h = refl
left r rs (x ∷ xs) h = left_by r rs x xs (x == r) refl (both_left (contains x (r ∷ rs)) (list_all (λ y. contains y (r ∷ rs)) xs) h) (left r rs xs (both_right (contains x (r ∷ rs)) (list_all (λ y. contains y (r ∷ rs)) xs) h))

abbrev pub leaves : List ℕ → ℕ → List ℕ
leaves xs r = without r xs

-- where each leaves, nothing is left
pub all_leave : (rs xs : List ℕ) → list_all (λ y. contains y rs) xs ≡ true → fold leaves xs rs ≡ []
all_leave [] xs h = nothing xs h
all_leave (r ∷ rs) xs h = all_leave rs (without r xs) (left r rs xs h)

pub withdrawn_line : {A : Type 0} (plan : Plan) (q : ℕ) (rs : List ℕ) (S : State A) (p : ℕ) → waiting_in (fold (withdraw plan q) S rs).queues p ≡ fold leaves (waiting_in S.queues p) rs
withdrawn_line plan q [] S p = refl
withdrawn_line plan q (r ∷ rs) S p = withdrawn_line plan q rs (withdraw plan q S r) p ∙ ap (λ xs. fold leaves xs rs) (entry_map [] S.queues.waiting (without r) p refl)

closed_line : {A : Type 0} (qs : List ℕ) (S : State A) (q : ℕ) → (waiting_in S.queues q ≡ []) ⊎ (contains q qs ≡ true) → waiting_in (fold close_queue S qs).queues q ≡ []
closed_line [] S q (inl e) = e
closed_line [] S q (inr h) = absurd (let z : ⊥ = cc in z)
closed_line {A} (p ∷ qs) S q h = closed_line qs (close_queue S p) q (elim (one_or_two q p) [
  | inl same ↦ inl (ap (waiting_in (close_queue S p).queues) same ∙ queue_here S.queues p (λ _. []))
  | inr n ↦ elim h [
    | inl e ↦ inl (queue_elsewhere S.queues p q (λ _. []) n ∙ e)
    | inr c ↦ inr (right_so (p == q) (contains q qs) (not_equal p q (λ same. n (sym same))) c)
  ]
])

-- ---- the property

-- each queue of the plan is of its device, and nothing waits in it where it is Purged
pub record Empty (plan : Plan) (C : Control) (Q : Queues) : Type 0 where
  pub device : (q : ℕ) → is_some (queue_of plan q) ≡ true → (control_of C q).device.0 ≡ device_of_queue plan q
  pub empty : (q : ℕ) → is_some (queue_of plan q) ≡ true → mode_of C q ≡ Purged → waiting_in Q q ≡ []

abbrev pub EmptyIn : {A : Type 0} → Plan → State A → Type 0
EmptyIn plan S = Empty plan S.control S.queues

-- no mode changes, and no request enters
shrinks_empty : (plan : Plan) (C D : Control) (Q U : Queues) → SameModes C D → LinesShrink Q U → Empty plan C Q → Empty plan D U
shrinks_empty plan C D Q U same shrinks k = record {
  device = λ q h. same.device q ∙ k.device q h;
  empty = λ q h p. stays_empty (waiting_in Q q) (waiting_in U q) (shrinks q) (k.empty q h (sym (same.mode q) ∙ p));
}

-- a request enters a queue that isn't Purged
pub enters_empty : (plan : Plan) (C D : Control) (Q U : Queues) (q : ℕ) → SameModes C D → (mode_of C q ≡ Purged → ⊥) → ((p : ℕ) → (p ≡ q → ⊥) → waiting_in U p ≡ waiting_in Q p) → Empty plan C Q → Empty plan D U
enters_empty plan C D Q U q same off others k = record {
  device = λ p h. same.device p ∙ k.device p h;
  empty = λ p h purged. elim (one_or_two p q) [
    | inl e ↦ absurd (off (ap (mode_of C) (sym e) ∙ sym (same.mode p) ∙ purged))
    | inr n ↦ others p n ∙ k.empty p h (sym (same.mode p) ∙ purged)
  ];
}

-- ---- a queue gets a mode

module _ (C : Control) (p : ℕ) (m : Mode) where
  abbrev given : Control
  given = with_control C p (λ c. record c { mode = m })

  set_device : (b : Bool) (q : ℕ) → (control_of (if b then C else given) q).device.0 ≡ (control_of C q).device.0
  set_device true q = refl
  set_device false q = read_same its_device C p (λ c. record c { mode = m }) (λ c. refl) q

  set_elsewhere : (b : Bool) (q : ℕ) → (q ≡ p → ⊥) → mode_of (if b then C else given) q ≡ mode_of C q
  set_elsewhere true q n = refl
  set_elsewhere false q n = ap its_mode (control_elsewhere C p q (λ c. record c { mode = m }) n)

  set_here : (b : Bool) → (m ≡ Purged → ⊥) → mode_of (if b then C else given) p ≡ Purged → mode_of C p ≡ Purged
  set_here true off purged = purged
  set_here false off purged = absurd (off (sym (ap its_mode (control_here C p (λ c. record c { mode = m }))) ∙ purged))

  abbrev shuts : Bool
  shuts = is_closed C (control_of C p).device.0

  pub set_empty : (plan : Plan) (Q : Queues) → (m ≡ Purged → ⊥) → Empty plan C Q → Empty plan (set_mode C p m) Q
  set_empty plan Q off k = record {
    device = λ q h. set_device shuts q ∙ k.device q h;
    empty = λ q h purged. elim (one_or_two q p) [
      | inl same ↦ k.empty q h (ap (mode_of C) same ∙ set_here shuts off (ap (mode_of (set_mode C p m)) (sym same) ∙ purged))
      | inr n ↦ k.empty q h (sym (set_elsewhere shuts q n) ∙ purged)
    ];
  }

module _ {A : Type 0} (plan : Plan) (S : State A) (k : EmptyIn plan S) where
  -- ---- a purge

  abbrev purged_state : ℕ → State A
  purged_state p = do_deed plan (PurgeQueue (object_id p)) S

  pub nothing_left : (p : ℕ) → waiting_in (purged_state p).queues p ≡ []
  nothing_left p = withdrawn_line plan p (waiting_in S.queues p) (record S { control = set_mode S.control p Purged }) p ∙ all_leave (waiting_in S.queues p) (waiting_in S.queues p) (each_in (waiting_in S.queues p))

  pub purge_empty : (p : ℕ) → EmptyIn plan (purged_state p)
  purge_empty p = subst (λ D. Empty plan D (purged_state p).queues) (sym (purged_control plan S p)) (record {
    device = λ q h. set_device S.control p Purged (shuts S.control p Purged) q ∙ k.device q h;
    empty = λ q h purged. elim (one_or_two q p) [
      | inl same ↦ ap (waiting_in (purged_state p).queues) same ∙ nothing_left p
      | inr n ↦ stays_empty (waiting_in S.queues q) (waiting_in (purged_state p).queues q) (deed_shrinks plan (PurgeQueue (object_id p)) S refl q) (k.empty q h (sym (set_elsewhere S.control p Purged (shuts S.control p Purged) q n) ∙ purged))
    ];
  })

  -- ---- a device that is closed

  abbrev closed_state : ℕ → State A
  closed_state d = do_deed plan (CloseDevice (object_id d)) S

  its_queue : (d q : ℕ) (o : Option QueueInfo) → queue_of plan q ≡ o → is_some o ≡ true → device_of_queue plan q ≡ d → is_queue_of d (queue_of plan q) ≡ true
  its_queue d q None e h at = absurd (let z : ⊥ = cc in z)
  its_queue d q (Some i) e h at = rw e (equal i.device.0 d (rw e at at))

  listed : (d q : ℕ) → is_some (queue_of plan q) ≡ true → device_of_queue plan q ≡ d → contains q (queues_of plan d) ≡ true
  listed d q h at = kept_there (λ id. is_queue_of d (queue_of plan id)) q 0 (suc (length plan.declared)) (omega arith) (let inside = is_within plan q h in omega arith) (its_queue d q (queue_of plan q) refl h at)

  pub close_empty : (d : ℕ) → EmptyIn plan (closed_state d)
  close_empty d = subst (λ D. Empty plan D (closed_state d).queues) (sym (closed_control plan S d)) (record {
    device = λ q h. ap its_device (shut_at S.control d q) ∙ shut_device d (control_of S.control q) ((control_of S.control q).device.0 == d) refl ∙ k.device q h;
    empty = λ q h purged. elim (one_or_two (control_of S.control q).device.0 d) [
      | inl same ↦ closed_line (queues_of plan d) (record S { control = shut S.control d }) q (inr (listed d q h (sym (k.device q h) ∙ same)))
      | inr n ↦ closed_line (queues_of plan d) (record S { control = shut S.control d }) q
          (inl (k.empty q h (sym (ap its_mode (shut_at S.control d q ∙ shut_by d (control_of S.control q) false (not_equal (control_of S.control q).device.0 d n))) ∙ purged)))
    ];
  })

-- ---- deeds by which no request enters, and no mode but Purged comes

abbrev pub is_calm : Deed → Bool
is_calm (Arrive device info p) = false
is_calm (Requeue r q) = false
is_calm (Forward r q) = false
is_calm (SetMode q m) = false
is_calm _ = true

deed_empty : {A : Type 0} (plan : Plan) (d : Deed) (S : State A) → is_calm d ≡ true → EmptyIn plan S → EmptyIn plan (do_deed plan d S)
deed_empty plan (Arrive device info p) S h k = absurd (let z : ⊥ = cc in z)
deed_empty plan (Requeue r q) S h k = absurd (let z : ⊥ = cc in z)
deed_empty plan (Forward r q) S h k = absurd (let z : ⊥ = cc in z)
deed_empty plan (SetMode q m) S h k = absurd (let z : ⊥ = cc in z)
deed_empty plan (PurgeQueue q) S h k = purge_empty plan S k q.0
deed_empty plan (CloseDevice d) S h k = close_empty plan S k d.0
deed_empty plan d S h k = shrinks_empty plan S.control (do_deed plan d S).control S.queues (do_deed plan d S).queues (deed_modes plan d S refl) (deed_shrinks plan d S refl) k

pub deeds_empty : {A : Type 0} (plan : Plan) (ds : List Deed) (S : State A) → list_all is_calm ds ≡ true → EmptyIn plan S → EmptyIn plan (do_deeds plan ds S)
deeds_empty plan [] S h k = k
deeds_empty plan (d ∷ ds) S h k = deeds_empty plan ds (do_deed plan d S) (both_right (is_calm d) (list_all is_calm ds) h) (deed_empty plan d S (both_left (is_calm d) (list_all is_calm ds) h) k)

-- ---- deeds by which a request enters

-- a queue at which a request is put isn't Purged
abbrev pub IsOpenAt : Control → Place → Type 0
IsOpenAt C (place.Queued q) = mode_of C q.0 ≡ Purged → ⊥
IsOpenAt C _ = ⊤

pub arrive_empty : {A : Type 0} (plan : Plan) (S : State A) (device : ℕ) (info : RequestInfo) (p : Place) → IsOpenAt S.control p → EmptyIn plan S → EmptyIn plan (arrive_at S device info p)
arrive_empty plan S device info (place.Queued q) off k = enters_empty plan S.control _ S.queues _ q.0 (entered_modes S.control q.0 (is_empty_queue S.queues q.0)) off (λ p n. queue_elsewhere S.queues q.0 p (λ rs. rs ++ next_id S.tree ∷ []) n) k
arrive_empty plan S device info _ off k = k

module _ {A : Type 0} (plan : Plan) (S : State A) (r q : ℕ) (off : mode_of S.control q ≡ Purged → ⊥) (k : EmptyIn plan S) where
  pub requeue_empty : EmptyIn plan (do_deed plan (Requeue (object_id r) (object_id q)) S)
  requeue_empty = enters_empty plan S.control _ S.queues _ q (deed_modes plan (Requeue (object_id r) (object_id q)) S refl) off (λ p n. queue_elsewhere (give_up S r).queues q p (λ rs. r ∷ rs) n ∙ given_lines S r p) k

  pub forward_empty : EmptyIn plan (do_deed plan (Forward (object_id r) (object_id q)) S)
  forward_empty = enters_empty plan S.control _ S.queues _ q (deed_modes plan (Forward (object_id r) (object_id q)) S refl) off (λ p n. queue_elsewhere (give_up S r).queues q p (λ rs. rs ++ r ∷ []) n ∙ given_lines S r p) k
