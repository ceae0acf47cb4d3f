-- What is sent to a target is sent to a live target of the plan: each deed keeps this.
use Rattle.std.proofs.Common.{◌≡◌, ◌≢◌, ℕ, ◌==◌, ◌≤◌, nat_lt, Bool, true, false, not, ◌&&◌, ◌||◌, inl, inr, is_some, count_by, fold, refl, sym, ap, subst, ◌∙◌, arith}
use Rattle.std.specs.List.{list_any}
use Rattle.std.proofs.lemmas.Bool.{cases_Bool}
use Rattle.std.proofs.lemmas.Bool.Decides.{nat_tests}
use Rattle.wdf_base.specs.declared.plan.Plan.{Plan}
use Rattle.wdf_base.specs.declared.object.Kind.TheVariants as kind
use Rattle.wdf_base.specs.Same.{same_kind}
use Rattle.wdf_base.specs.Lives.{is_live}
use Rattle.wdf_base.specs.Places.{is_owned, is_sent_to}
use Rattle.wdf_model.specs.declared.entries.Node.{Node}
use Rattle.wdf_model.specs.declared.entries.Request.{Request}
use Rattle.wdf_model.specs.Tables.{contains, flag}
use Rattle.wdf_model.specs.Plans.{target_of}
use Rattle.wdf_model.specs.parts.Tree.{kind_of, life_of, node_of, subtree}
use Rattle.wdf_model.specs.parts.Requests.{is_cancelled, no_request, place_of}
use Rattle.wdf_model.specs.parts.Requests as requests
use Rattle.wdf_model.specs.parts.Targets.{Target, Targets, new_sending, pending, sending_in_order, takes_more, target_done, the_target, without_sending}
use Rattle.wdf_model.specs.parts.Targets as targets
use Rattle.wdf_model.specs.State.{State, nothing_at}
use Rattle.wdf_model.specs.Ids.{object_id}
use Rattle.wdf_model.specs.declared.deed.Deed.{Deed}
use Rattle.wdf_model.specs.declared.deed.Deed.TheVariants.{AskDeletion, ComeBack, CompleteRequest, FinishSending, SendRequest, StartTarget, StopTarget}
use Rattle.wdf_model.specs.rules.Deeds.{ask_object, do_deed, give_up}
use Rattle.wdf_model.specs.rules.Calls.{may_send}
use Rattle.law_machine_base.specs.Fits.{fits}
use Rattle.wdf_model.proofs.Tests.{both_left, both_right, not_true}
use Rattle.wdf_model.proofs.Counts.{by_request, filter_less, less_left, one_or_two}
use Rattle.law_machine_base.proofs.Kept.{sends}
use Rattle.law_machine_base.proofs.KeptMoves.{target_elsewhere}
use Rattle.law_machine_counts.proofs.HeldMoves.{Placed}
use Rattle.law_machine_lives.proofs.Queued.{any_entry}
use Rattle.law_machine_lives.proofs.Stays.{gives_up}
use Rattle.law_stuck_named.proofs.Standing.{Comes, Removable, lives_by}
use Rattle.law_machine_lives.proofs.Subtrees.{unasked_stays}
use Rattle.law_machine_lives.proofs.Readers.{tree_of}
use Rattle.law_stuck_objects.proofs.Sendings.{AllFair, all_targets, one_target, targets_stay}

-- a target of the plan that is live
abbrev pub is_there : {A : Type 0} → Plan → State A → ℕ → Bool
is_there plan S t = is_some (target_of plan t) && is_live (life_of S.tree t)

pub record SentToLive {A : Type 0} (plan : Plan) (S : State A) : Type 0 where
  pub targets : (t r : ℕ) → 1 ≤ sends S.targets t r → is_some (target_of plan t) ≡ true
  pub lives : (t r : ℕ) → 1 ≤ sends S.targets t r → is_live (life_of S.tree t) ≡ true

-- ---- what a target has, it had, or it is sent

abbrev SentBefore : Targets → Targets → Type 0
SentBefore T U = (t r : ℕ) → 1 ≤ sends U t r → 1 ≤ sends T t r

before_same : (T U : Targets) → U ≡ T → SentBefore T U
before_same T U e t r h = subst (λ (V : Targets). 1 ≤ sends V t r) e h

abbrev HadBefore : Targets → ℕ → Target → Type 0
HadBefore T t x = (r : ℕ) → count_by (λ s. s.request.0 == r) x.sent ≤ sends T t r

had_same : (T : Targets) (t : ℕ) → HadBefore T t (the_target T t)
had_same T t r = omega arith

before_by : (T U : Targets) → ((t : ℕ) → HadBefore T t (the_target U t)) → SentBefore T U
before_by T U k t r h = let less = k t r in omega arith

-- the deeds by which nothing is sent
abbrev sends_one : Deed → Bool
sends_one (SendRequest r t forget) = true
sends_one _ = false

sent_before : {A : Type 0} (plan : Plan) (d : Deed) (S : State A) → sends_one d ≡ false → SentBefore S.targets (do_deed plan d S).targets
sent_before plan (SendRequest r t forget) S off = absurd (let z : ⊥ = cc in z)
sent_before plan (FinishSending r s) S off =
    before_by S.targets (targets.done S.targets r.0 s)
    (all_targets (HadBefore S.targets) S.targets (target_done r.0 s) refl
    (λ t x had q. let less = less_left (λ y. y.request.0 == q) r.0 s x.sent (by_request q r.0 s) in let old = had q in omega arith) (had_same S.targets))
sent_before plan (ComeBack r) S off =
    before_by S.targets (targets.back S.targets r.0)
    (all_targets (HadBefore S.targets) S.targets (without_sending r.0) refl
    (λ t x had q. let less = filter_less (λ y. y.request.0 == q) (λ y. not (y.request.0 == r.0)) x.sent in let old = had q in omega arith) (had_same S.targets))
sent_before plan (StopTarget t) S off = before_by S.targets (targets.stop S.targets t.0) (one_target (HadBefore S.targets) S.targets t.0 (λ x. record x { stopped = true }) (had_same S.targets t.0) (had_same S.targets))
sent_before plan (StartTarget t) S off = before_by S.targets (targets.start S.targets t.0) (one_target (HadBefore S.targets) S.targets t.0 (λ x. record x { stopped = false }) (had_same S.targets t.0) (had_same S.targets))
sent_before plan d S off = before_same S.targets (do_deed plan d S).targets (targets_stay plan d S refl)

-- ---- a request is sent

takes_by : (n depth : ℕ) → nat_lt n depth ≡ true → depth ≡ 0 → ⊥
takes_by n depth h e = grind (arith, nat_tests)

-- only a target of the plan takes one
takes_target : (plan : Plan) (T : Targets) (t : ℕ) → AllFair plan T → takes_more T t ≡ true → is_some (target_of plan t) ≡ true
takes_target plan T t fair h = elim (cases_Bool (is_some (target_of plan t))) [
  | inl e ↦ e
  | inr off ↦ absurd (takes_by (pending T t) (the_target T t).depth (both_right (not (the_target T t).stopped) (nat_lt (pending T t) (the_target T t).depth) h) ((fair t).depth off))
]

sends_to : {A : Type 0} (plan : Plan) (S : State A) (r t : ℕ) (forget : Bool) → fits plan (SendRequest (object_id r) (object_id t) forget) S ≡ true → AllFair plan S.targets → (is_some (target_of plan t) ≡ true) × (is_live (life_of S.tree t) ≡ true)
sends_to plan S r t forget f fair =
    let may : may_send S r t ≡ true = both_right (is_owned (place_of S.requests r)) (may_send S r t) (both_left (is_owned (place_of S.requests r) && may_send S r t) (not forget || same_kind (kind_of S.tree r) kind.Request) f) in
    let both_ : (is_live (life_of S.tree t) && takes_more S.targets t) ≡ true = both_left (is_live (life_of S.tree t) && takes_more S.targets t) (not (is_cancelled S.requests r)) may in
    (takes_target plan S.targets t fair (both_right (is_live (life_of S.tree t)) (takes_more S.targets t) both_), both_left (is_live (life_of S.tree t)) (takes_more S.targets t) both_)

sent_one : {A : Type 0} (plan : Plan) (S : State A) (r t : ℕ) (forget : Bool) → fits plan (SendRequest (object_id r) (object_id t) forget) S ≡ true → AllFair plan S.targets → SentToLive plan S → SentToLive plan (do_deed plan (SendRequest (object_id r) (object_id t) forget) S)
sent_one {A} plan S r t forget f fair k =
    let U : State A = do_deed plan (SendRequest (object_id r) (object_id t) forget) S in
    let it = sends_to plan S r t forget f fair in
    let l = lives_by plan (SendRequest (object_id r) (object_id t) forget) S refl f in
    let other : (u x : ℕ) → u ≢ t → 1 ≤ sends U.targets u x → 1 ≤ sends S.targets u x = λ u x n h.
    subst (λ (y : Target). 1 ≤ count_by (λ s. s.request.0 == x) y.sent) (target_elsewhere S.targets t u (λ y. record y { sent = sending_in_order (new_sending r forget) y.sent }) n) h in
    record {
      targets = λ u x h. elim (one_or_two u t) [
        | inl e ↦ subst (λ y. is_some (target_of plan y) ≡ true) (sym e) it.0
        | inr n ↦ k.targets u x (other u x n h)
      ];
      lives = λ u x h. elim (one_or_two u t) [
        | inl e ↦ subst (λ y. is_live (life_of U.tree y) ≡ true) (sym e) (l.gains t it.1)
        | inr n ↦ l.gains u (k.lives u x (other u x n h))
      ];
    }

-- ---- a deletion is asked

-- something is at a target to which it is sent
at_it : {A : Type 0} (S : State A) (t r : ℕ) → Placed S → 1 ≤ sends S.targets t r → nothing_at S t ≡ true → ⊥
at_it S t r p h none =
    let n = p.sent t r in
    let there : is_sent_to t (place_of S.requests r) ≡ true = sent_flag (is_sent_to t (place_of S.requests r)) (omega arith) in
    let some : list_any (λ (y : Request). is_sent_to t y.place) S.requests.all ≡ true = any_entry no_request (λ (y : Request). is_sent_to t y.place) S.requests.all r refl there in
    let off : list_any (λ (y : Request). is_sent_to t y.place) S.requests.all ≡ false = not_true (list_any (λ (y : Request). is_sent_to t y.place) S.requests.all) none in
    let z : ⊥ = cc in z
  where
    sent_flag : (b : Bool) → 1 ≤ flag b → b ≡ true
    sent_flag true h = refl
    sent_flag false h = absurd (omega arith)

-- with what is below o the deletion is asked in W, of which the tree is that of S
module _ {A : Type 0} (plan : Plan) (S W : State A) (o : ℕ) (same : W.tree ≡ S.tree) (p : Placed S) (free : Removable plan S o) (k : SentToLive plan S) where
  pub still_live : (t r : ℕ) → 1 ≤ sends S.targets t r → is_live (life_of (fold ask_object W (subtree W.tree o)).tree t) ≡ true
  still_live t r h =
      let live : is_live (life_of S.tree t) ≡ true = k.lives t r h in
      elim (cases_Bool (contains t (subtree S.tree o))) [
        | inl in_ ↦ absurd (at_it S t r p h (free.targets t (k.targets t r h) live in_))
        | inr out ↦
            let stays : node_of (fold ask_object W (subtree W.tree o)).tree t ≡ node_of S.tree t = unasked_stays (subtree W.tree o) W t (ap (λ T. contains t (subtree T o)) same ∙ out) ∙ ap (λ T. node_of T t) same in
            ap (λ (m : Node). is_live m.life) stays ∙ live
      ]

-- ---- each deed

pub sent_by : {A : Type 0} (plan : Plan) (d : Deed) (S : State A) → fits plan d S ≡ true → Comes plan d S → Placed S → AllFair plan S.targets → SentToLive plan S → SentToLive plan (do_deed plan d S)
sent_by plan (SendRequest r t forget) S f c p fair k = sent_one plan S r.0 t.0 forget f fair k
sent_by plan (AskDeletion o) S f c p fair k =
    let before = sent_before plan (AskDeletion o) S refl in
    record { targets = λ t r h. k.targets t r (before t r h); lives = λ t r h. still_live plan S S o.0 refl p c.0 k t r (before t r h) }
sent_by plan (CompleteRequest r) S f c p fair k =
    let before = sent_before plan (CompleteRequest r) S refl in
    record {
      targets = λ t x h. k.targets t x (before t x h);
      lives = λ t x h. still_live plan S (record (give_up S r.0) { requests = requests.complete S.requests r.0 }) r.0 (gives_up tree_of (λ S Q R P. refl) S r.0) p c k t x (before t x h);
    }
sent_by plan d S f c p fair k =
    let before = sent_before plan d S refl in
    record { targets = λ t r h. k.targets t r (before t r h); lives = λ t r h. (lives_by plan d S refl f).gains t (k.lives t r (before t r h)) }
