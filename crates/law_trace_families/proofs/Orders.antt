-- Below a cleaned object all is cleaned, so nothing begins there but destroy callbacks; and an object ends after its children.
use Rattle.std.proofs.Common.{if◌then◌else◌, ◌≡◌, ◌≢◌, ℕ, zero, suc, ◌+◌, ◌-◌, ◌<◌, ◌≤◌, ◌==◌, Bool, true, false, not, ◌&&◌, ◌||◌, List, [], ◌∷◌, ◌++◌, ◌⊎◌, inl, inr, Option, Some, None, drop, find, length, slice_get, take, refl, sym, ap, subst, ◌∙◌, arith}
use Rattle.std.specs.List.{list_all}
use Rattle.std.proofs.lemmas.Bool.{cases_Bool, eqb-true, false_from_ne_true}
use Rattle.wdf_base.specs.Meaning.{Meaning}
use Rattle.wdf_base.specs.declared.ids.Handle.{Handle}
use Rattle.wdf_base.specs.declared.plan.Plan.{Plan}
use Rattle.wdf_base.specs.declared.call.Callback.TheVariants as callback
use Rattle.wdf_base.specs.declared.event.Event.{Event}
use Rattle.wdf_base.specs.declared.event.Event.TheVariants as event
use Rattle.wdf_base.specs.Plan.{declared_of}
use Rattle.wdf_base.specs.Same.{same_callback}
use Rattle.wdf_model.specs.declared.entries.Node.{Node}
use Rattle.wdf_model.specs.parts.Tree.{Tree, children, gone, is_child, life_of, node_of, parent_of, with_life}
use Rattle.wdf_base.specs.declared.object.Life.{Life}
use Rattle.wdf_base.specs.declared.object.Life.TheVariants as life
use Rattle.wdf_base.specs.Lives.{is_cleaned, is_gone, is_past_cleanup}
use Rattle.wdf_model.specs.State.{State}
use Rattle.wdf_model.specs.rules.Steps.{after, may}
use Rattle.wdf_model.specs.rules.Ready.{IsRunOf, state_after}
use Rattle.wdf_model.proofs.Runs.{slice_get-take, take_ended, take_next}
use Rattle.law_machine_base.proofs.Follows.{state_goes_on}
use Rattle.wdf_model.proofs.Tests.{all_four, both, both_left, both_right, first as left_holds, left_fails, right_fails, right_so, second}
use Rattle.wdf_model.proofs.Counts.{equal}
use Rattle.wdf_model.proofs.Maps.{entry_put_same}
use Rattle.law_machine_base.proofs.OwnEvents.{not_found}
use Rattle.law_machine_lives.proofs.CleanedOver.{in_order_at_each}
use Rattle.law_machine_lives.proofs.Lists.{all_of_kept}
use Rattle.wdf_laws.specs.declared.sign.Sign.{Sign}
use Rattle.wdf_laws.specs.declared.sign.Sign.TheVariants as sign
use Rattle.wdf_laws.specs.declared.sign.Told.{Told}
use Rattle.wdf_laws.specs.Events.{told}
use Rattle.wdf_laws.specs.Family.{cleaned_above, first_told, most_above, tells_of}
use Rattle.wdf_laws.specs.Family as law
use Rattle.wdf_laws.specs.Laws.{declared_ended, ends_well, is_ended_at, is_ended_child, is_ended_told, law_3, law_9}
use Rattle.wdf_laws.specs.Signs.{shows}
use Rattle.wdf_laws.specs.Words.{ever, times}
use Rattle.law_trace_once.proofs.Words.{ever_next, never_yet}
use Rattle.law_trace_once.proofs.Cleanups.{ends_after_cleanup}
use Rattle.law_trace_once.proofs.Ends.{begins_early, cleanup_tells, ends_once, never, told_at_each}
use Rattle.law_trace_once.proofs.References.{ends_balanced}
use Rattle.law_machine_lives.proofs.Lives.{early_there, live_early}
use Rattle.law_machine_lives.proofs.Choices.{or_not}
use Rattle.law_machine_lives.proofs.Keeping.{comes}
use Rattle.law_trace_families.proofs.Families.{Family, First_by, First_none, Knows_declared, Knows_none, Knows_told, Tells, family_at_each, first, knows, told_still}
use Rattle.law_trace_families.proofs.Telling.{Makes, event_makes}
use Rattle.law_trace_families.proofs.Gone.{Known, cleaned_told, ended_told, ever_still, known_within}

-- ---- lists

pub take_drop : {T : Type 0} (n : ℕ) (xs : List T) → take n xs ++ drop n xs ≡ xs
take_drop zero xs = refl
take_drop (suc n) [] = refl
take_drop (suc n) (x ∷ xs) = ap (λ ys. x ∷ ys) (take_drop n xs)

found_place_first : {T : Type 0} (p : T → Bool) (y : T) (ys : List T) (x : T) (b : Bool) → p y ≡ b → ((find p ys ≡ Some x) → (j : ℕ) × (slice_get ys j ≡ Some x)) → (if b then Some y else find p ys) ≡ Some x
    → (j : ℕ) × (slice_get (y ∷ ys) j ≡ Some x)
found_place_first p y ys x true e rest h = (0, h)
found_place_first p y ys x false e rest h = let r = rest h in (suc r.0, r.1)

-- what is found is at some place
pub found_place : {T : Type 0} (p : T → Bool) (xs : List T) (x : T) → find p xs ≡ Some x → (j : ℕ) × (slice_get xs j ≡ Some x)
found_place p [] x h = absurd (let z : ⊥ = cc in z)
found_place p (y ∷ ys) x h = found_place_first p y ys x (p y) refl (found_place p ys x) h

-- what each item of a list passes
pub all_by : {T : Type 0} (p : T → Bool) (xs : List T) → ((j : ℕ) (x : T) → slice_get xs j ≡ Some x → p x ≡ true) → list_all p xs ≡ true
all_by p [] h = refl
all_by p (x ∷ xs) h = both (p x) (list_all p xs) (h 0 x refl) (all_by p xs (λ j y at. h (suc j) y at))

-- ---- what is told is told later too

more_events : (s : Sign) (run : List Event) (n i : ℕ) (found : Option Event) → slice_get run (n + i) ≡ found → ever s (take (n + i) run) ≡ true → ever s (take (suc (n + i)) run) ≡ true
more_events s run n i None at h = subst (λ es. ever s es ≡ true) (sym (take_ended run (n + i) at)) h
more_events s run n i (Some e) at h = subst (λ es. ever s es ≡ true) (sym (take_next run (n + i) e at)) (ever_still s (take (n + i) run) e h)

ever_by : (s : Sign) (run : List Event) (n i : ℕ) → ever s (take n run) ≡ true → ever s (take (n + i) run) ≡ true
ever_by s run n zero h = let e : n + 0 ≡ n = omega arith in rw e h
ever_by s run n (suc i) h = let e : n + suc i ≡ suc (n + i) = omega arith in rw e (more_events s run n i (slice_get run (n + i)) refl (ever_by s run n i h))

pub ever_later : (s : Sign) (run : List Event) (n j : ℕ) → n ≤ j → ever s (take n run) ≡ true → ever s (take j run) ≡ true
ever_later s run n j h e = let same : n + (j - n) ≡ j = omega arith in subst (λ k. ever s (take k run) ≡ true) same (ever_by s run n (j - n) e)

-- ---- an object that is told later has a parent that isn't cleaned yet

no_tick : (plan : Plan) (e : Event) (t : Told) → told plan e ≡ Some t → (time : ℕ) → e ≡ event.Tick time → ⊥
no_tick plan e t h time same = let none : None ≡ Some t = subst (λ x. told plan x ≡ Some t) same h in let z : ⊥ = cc in z

-- an object of which an event of a run says something is made there
pub makes_at : {A : Type 0} (plan : Plan) (m : Meaning A) (run : List Event) (j : ℕ) (e : Event) (t : Told) → IsRunOf plan m run → slice_get run j ≡ Some e → told plan e ≡ Some t
    → Makes plan (state_after plan m (take j run)).tree (after plan m (state_after plan m (take j run)) e).tree t
makes_at plan m run j e t is_run at h = event_makes plan m (state_after plan m (take j run)) e t (comes plan m run j e is_run at (no_tick plan e t h)) h

pub earlier_or_later : (n j : ℕ) → (j < n) ⊎ (n ≤ j)
earlier_or_later zero j = inr (omega arith)
earlier_or_later (suc n) zero = inl (omega arith)
earlier_or_later (suc n) (suc j) = elim (earlier_or_later n j) [
  | inl h ↦ inl (omega arith)
  | inr h ↦ inr (omega arith)
]

tells_it : (plan : Plan) (o : ℕ) (e : Event) (t : Told) → Tells plan o e t → tells_of plan o e ≡ true
tells_it plan o e t k = ap (law.is_told o) k.told ∙ equal t.object o k.object

pub later_live : {A : Type 0} (plan : Plan) (m : Meaning A) (run : List Event) (n x : ℕ) (t : Told) → IsRunOf plan m run → first_told plan (take n run) x ≡ None → first_told plan run x ≡ Some t
    → ever (sign.Cleaned t.parent) (take n run) ≡ false
later_live {A} plan m run n x t is_run none some_ = elim (first plan run x) [
  | First_none none_found is ↦ absurd (let z : ⊥ = cc in z)
  | First_by e u found tells is ↦
      let same : u ≡ t = (let s : Some u ≡ Some t = sym is ∙ some_ in let k : u ≡ t = cc in k) in
      let at = found_place (tells_of plan x) run e found in
      elim (earlier_or_later n at.0) [
        | inl early ↦ absurd (told_already e u tells at.0 (slice_get-take run n at.0 early ∙ at.1))
        | inr late ↦ false_from_ne_true (ever (sign.Cleaned t.parent) (take n run)) (λ yes.
            let S : State A = state_after plan m (take at.0 run) in
            let made : Makes plan S.tree (after plan m S e).tree u = makes_at plan m run at.0 e u is_run at.1 tells.told in
            let off : ever (sign.Cleaned u.parent) (take at.0 run) ≡ false =
            never is_past_cleanup sign.Cleaned (take at.0 run) S u.parent (told_at_each is_past_cleanup sign.Cleaned plan m (cleanup_tells plan m) run is_run at.0)
            (live_early (life_of S.tree u.parent) made.live) (ever (sign.Cleaned u.parent) (take at.0 run)) refl in
            let on_ : ever (sign.Cleaned u.parent) (take at.0 run) ≡ true = ever_later (sign.Cleaned u.parent) run n at.0 late (subst (λ v. ever (sign.Cleaned v) (take n run) ≡ true) (ap (λ (w : Told). w.parent) (sym same)) yes) in
            let z : ⊥ = cc in z)
      ]
]
  where
    told_already : (e : Event) (u : Told) → Tells plan x e u → (j : ℕ) → slice_get (take n run) j ≡ Some e → ⊥
    told_already e u tells j at = elim (first plan (take n run) x) [
      | First_by f v found told_ is ↦ let z : ⊥ = cc in z
      | First_none none_found is ↦ let off : tells_of plan x e ≡ false = not_found (tells_of plan x) (take n run) none_found j e at in let on_ = tells_it plan x e u tells in let z : ⊥ = cc in z
    ]

-- what is known of an object in the whole run is known at a place, with its parent; or it is told later
pub data At (plan : Plan) (run : List Event) (n x : ℕ) (T : Tree) : Type 0 where
  At_now : Known plan (take n run) x → (is_gone (life_of T x) ≡ false → parent_of T x ≡ law.parent_of plan run x) → At plan run n x T
  At_later : (t : Told) → first_told plan (take n run) x ≡ None → first_told plan run x ≡ Some t → law.parent_of plan run x ≡ t.parent → At plan run n x T
  At_never : declared_of plan x ≡ None → first_told plan run x ≡ None → law.parent_of plan run x ≡ 0 → At plan run n x T

at_by : (plan : Plan) (run : List Event) (n x : ℕ) (T : Tree) (t : Told) (was : Option Told) → Family plan (take n run) T → first_told plan (take n run) x ≡ was → first_told plan run x ≡ Some t → law.parent_of plan run x ≡ t.parent
    → At plan run n x T
at_by plan run n x T t None k h is up = At_later t h is up
at_by plan run n x T t (Some u) k h is up =
    let still : first_told plan run x ≡ Some u = subst (λ es. first_told plan es x ≡ Some u) (take_drop n run) (told_still plan (take n run) (drop n run) x u h) in
    let same : u ≡ t = (let s : Some u ≡ Some t = sym still ∙ is in let z : u ≡ t = cc in z) in
    At_now (inr (u, h)) (λ there. (k.told x u h there).0 ∙ ap (λ (w : Told). w.parent) same ∙ sym up)

pub at_place : (plan : Plan) (run : List Event) (n x : ℕ) (T : Tree) → Family plan (take n run) T → At plan run n x T
at_place plan run n x T k = elim (knows plan run x) [
  | Knows_declared d is up ↦ At_now (inl (d, is)) (λ there. (k.declared x d is there).0 ∙ sym up)
  | Knows_told t free is up ↦ at_by plan run n x T t (first_told plan (take n run) x) k refl is up
  | Knows_none free is up ↦ At_never free is up
]

-- ---- below a cleaned object all is cleaned

-- what is below is cleaned where what is above is
abbrev Closed : Plan → List Event → List Event → Type 0
Closed plan all before = (x : ℕ) → law.parent_of plan all x ≢ 0 → ever (sign.Cleaned (law.parent_of plan all x)) before ≡ true → ever (sign.Cleaned x) before ≡ true

pub cleanup_of : (p : ℕ) (e : Event) → shows (sign.Cleaned p) e ≡ true → (o : Handle) × (e ≡ event.Cleanup o) × (o.id.0 ≡ p)
cleanup_of p (event.Cleanup o) h = (o, refl, eqb-true o.id.0 p h)
cleanup_of p _ h = absurd (let z : ⊥ = cc in z)

pub late_by : (l : Life) → is_gone l ≡ true → is_past_cleanup l ≡ true
late_by life.Gone h = refl
late_by _ h = absurd (let z : ⊥ = cc in z)

-- at the cleanup of an object, what is below it was cleaned
below_cleaned : {A : Type 0} (plan : Plan) (m : Meaning A) (run : List Event) (k x : ℕ) (o : Handle) → IsRunOf plan m run → slice_get run k ≡ Some (event.Cleanup o) → law.parent_of plan run x ≡ o.id.0 → law.parent_of plan run x ≢ 0
    → ever (sign.Cleaned (law.parent_of plan run x)) (take (suc k) run) ≡ true → ever (sign.Cleaned x) (take (suc k) run) ≡ true
below_cleaned {A} plan m run k x o is_run at up some_ done =
    let S : State A = state_after plan m (take k run) in
    let U : State A = state_after plan m (take (suc k) run) in
    let next : U ≡ after plan m S (event.Cleanup o) = ap (state_after plan m) (take_next run k (event.Cleanup o) at) ∙ state_goes_on plan m (take k run) (event.Cleanup o) in
    let cleaned : is_cleaned (life_of U.tree o.id.0) ≡ true =
    ap (λ (V : State A). is_cleaned (life_of V.tree o.id.0)) next ∙ ap (λ (n : Node). is_cleaned n.life) (entry_put_same gone S.tree.nodes o.id.0 (with_life life.Cleaned (node_of S.tree o.id.0))) in
    elim (at_place plan run (suc k) x U.tree (family_at_each plan m run is_run (suc k))) [
      | At_now known parent ↦ elim (cases_Bool (is_past_cleanup (life_of U.tree x))) [
        | inl late ↦ cleaned_told plan m run is_run (suc k) x known late
        | inr early ↦ absurd (
            let order : is_cleaned (life_of U.tree (parent_of U.tree x)) ≡ false = in_order_at_each plan m run is_run (suc k) x early in
            let is : parent_of U.tree x ≡ o.id.0 = parent (early_there (life_of U.tree x) early) ∙ up in
            let off : is_cleaned (life_of U.tree o.id.0) ≡ false = subst (λ y. is_cleaned (life_of U.tree y) ≡ false) is order in
            let z : ⊥ = cc in z)
      ]
      | At_later t none is above ↦ absurd (
          let off : ever (sign.Cleaned t.parent) (take (suc k) run) ≡ false = later_live plan m run (suc k) x t is_run none is in
          let on_ : ever (sign.Cleaned t.parent) (take (suc k) run) ≡ true = subst (λ y. ever (sign.Cleaned y) (take (suc k) run) ≡ true) above done in
          let z : ⊥ = cc in z)
      | At_never free none above ↦ absurd (some_ above)
    ]

closed_by : {A : Type 0} (plan : Plan) (m : Meaning A) (run : List Event) (k x : ℕ) (found : Option Event) → IsRunOf plan m run → slice_get run k ≡ found → Closed plan run (take k run) → law.parent_of plan run x ≢ 0
    → ever (sign.Cleaned (law.parent_of plan run x)) (take (suc k) run) ≡ true → ever (sign.Cleaned x) (take (suc k) run) ≡ true
closed_by plan m run k x None is_run at before some_ done =
    subst (λ es. ever (sign.Cleaned x) es ≡ true) (sym (take_ended run k at)) (before x some_ (subst (λ es. ever (sign.Cleaned (law.parent_of plan run x)) es ≡ true) (take_ended run k at) done))
closed_by plan m run k x (Some e) is_run at before some_ done =
    let p : ℕ = law.parent_of plan run x in
    elim (cases_Bool (ever (sign.Cleaned p) (take k run))) [
      | inl was ↦ subst (λ es. ever (sign.Cleaned x) es ≡ true) (sym (take_next run k e at)) (ever_still (sign.Cleaned x) (take k run) e (before x some_ was))
      | inr new ↦
          let told_ : (ever (sign.Cleaned p) (take k run) || shows (sign.Cleaned p) e) ≡ true = sym (ever_next (sign.Cleaned p) (take k run) e) ∙ subst (λ es. ever (sign.Cleaned p) es ≡ true) (take_next run k e at) done in
          let shown : shows (sign.Cleaned p) e ≡ true = right_so (ever (sign.Cleaned p) (take k run)) (shows (sign.Cleaned p) e) new told_ in
          let o = cleanup_of p e shown in
          below_cleaned plan m run k x o.0 is_run (at ∙ ap Some o.1) (sym o.2) some_ done
    ]

pub closed_at : {A : Type 0} (plan : Plan) (m : Meaning A) (run : List Event) → IsRunOf plan m run → (n : ℕ) → Closed plan run (take n run)
closed_at plan m run is_run zero x some_ done = absurd (let no_ = never_yet (sign.Cleaned (law.parent_of plan run x)) in let z : ⊥ = cc in z)
closed_at plan m run is_run (suc k) x some_ done = closed_by plan m run k x (slice_get run k) is_run refl (closed_at plan m run is_run k) some_ done

pub none_above : (plan : Plan) (all before : List Event) → Closed plan all before → (n o : ℕ) → ever (sign.Cleaned o) before ≡ false → cleaned_above plan all before n o ≡ false
none_above plan all before closed zero o h = refl
none_above plan all before closed (suc n) o h =
    let p : ℕ = law.parent_of plan all o in
    or_not (ever (sign.Cleaned o) before) (not (p == 0) && cleaned_above plan all before n p) h
    (elim (cases_Bool (p == 0)) [
      | inl root ↦ left_fails (not (p == 0)) (cleaned_above plan all before n p) (ap not root)
      | inr above ↦
          let some_ : p ≢ 0 = λ e. (let z : (p == 0) ≡ true = equal p 0 e in let w : ⊥ = cc in w) in
          right_fails (not (p == 0)) (cleaned_above plan all before n p)
          (none_above plan all before closed n p (false_from_ne_true (ever (sign.Cleaned p) before) (λ yes. let on_ = closed o some_ yes in let z : ⊥ = cc in z)))
    ])

law_3_by : {A : Type 0} (plan : Plan) (m : Meaning A) (run : List Event) (k : ℕ) (e : Event) → IsRunOf plan m run → slice_get run k ≡ Some e → law_3 plan run (take k run) e ≡ true
law_3_by plan m run k (event.Start cpu c o r) is_run at = elim (cases_Bool (same_callback c callback.EvtDestroyCallback)) [
  | inl it ↦ left_holds (same_callback c callback.EvtDestroyCallback) (not (cleaned_above plan run (take k run) (most_above plan run) o.id.0)) it
  | inr other ↦
      let early : ever (sign.Cleaned o.id.0) (take k run) ≡ false = begins_early plan m run k cpu c o r is_run at other in
      second (same_callback c callback.EvtDestroyCallback) (not (cleaned_above plan run (take k run) (most_above plan run) o.id.0))
      (ap not (none_above plan run (take k run) (closed_at plan m run is_run k) (most_above plan run) o.id.0 early))
]
law_3_by plan m run k _ is_run at = refl

pub law_3_at_each : {A : Type 0} (plan : Plan) (m : Meaning A) (run : List Event) (k : ℕ) (e : Event) → IsRunOf plan m run → slice_get run k ≡ Some e → law_3 plan run (take k run) e ≡ true
law_3_at_each plan m run k e is_run at = law_3_by plan m run k e is_run at

-- ---- an object ends after its children

empty_by : {T : Type 0} (xs : List T) → (length xs == 0) ≡ true → xs ≡ []
empty_by [] h = refl
empty_by (x ∷ xs) h = absurd (let e : suc (length xs) ≡ 0 = eqb-true (suc (length xs)) 0 h in let z : ⊥ = omega arith in z)

-- what may end has no child
childless : (T : Tree) (o x : ℕ) → (length (children T o) == 0) ≡ true → x < length T.nodes → is_child T o x ≡ true → ⊥
childless T o x none within child =
    let all : list_all (λ y. false) (children T o) ≡ true = rw (empty_by (children T o) none) refl in
    let no_ : false ≡ true = all_of_kept (λ y. false) (is_child T o) x 0 (length T.nodes) (omega arith) (omega arith) all child in
    let z : ⊥ = cc in z

no_children : {A : Type 0} (plan : Plan) (m : Meaning A) (S : State A) (o : Handle) → may plan m S (event.Destroy o) ≡ true → (length (children S.tree o.id.0) == 0) ≡ true
no_children plan m S o h = search (both_left, both_right)

-- at the end of an object, each child that is known has its end
pub child_gone : {A : Type 0} (plan : Plan) (m : Meaning A) (run : List Event) (k x : ℕ) (o : Handle) → IsRunOf plan m run → slice_get run k ≡ Some (event.Destroy o) → Known plan (take k run) x
    → (is_gone (life_of (state_after plan m (take k run)).tree x) ≡ false → parent_of (state_after plan m (take k run)).tree x ≡ o.id.0) → is_gone (life_of (state_after plan m (take k run)).tree x) ≡ true
child_gone {A} plan m run k x o is_run at known parent =
    let S : State A = state_after plan m (take k run) in
    let h : may plan m S (event.Destroy o) ≡ true = comes plan m run k (event.Destroy o) is_run at (λ time e. let z : ⊥ = cc in z) in
    elim (cases_Bool (is_gone (life_of S.tree x))) [
      | inl off ↦ off
      | inr there ↦ absurd (childless S.tree o.id.0 x (no_children plan m S o h) (known_within plan (take k run) S.tree x (family_at_each plan m run is_run k) known)
          (both (parent_of S.tree x == o.id.0) (not (is_gone (life_of S.tree x))) (equal (parent_of S.tree x) o.id.0 (parent there)) (ap not there)))
    ]

child_ended : {A : Type 0} (plan : Plan) (m : Meaning A) (run : List Event) (k x : ℕ) (o : Handle) → IsRunOf plan m run → slice_get run k ≡ Some (event.Destroy o) → Known plan run x → law.parent_of plan run x ≡ o.id.0
    → ever (sign.Destroyed x) (take k run) ≡ true
child_ended {A} plan m run k x o is_run at known up = elim (at_place plan run k x (state_after plan m (take k run)).tree (family_at_each plan m run is_run k)) [
  | At_now here parent ↦ ended_told plan m run is_run k x here (child_gone plan m run k x o is_run at here (λ there. parent there ∙ up))
  | At_later t none is above ↦ absurd (
      let off : ever (sign.Cleaned t.parent) (take k run) ≡ false = later_live plan m run k x t is_run none is in
      let on_ : ever (sign.Cleaned t.parent) (take k run) ≡ true = subst (λ y. ever (sign.Cleaned y) (take k run) ≡ true) (sym up ∙ above) (ends_after_cleanup plan m run k o is_run at) in
      let z : ⊥ = cc in z)
  | At_never free none above ↦ absurd (elim known [
    | inl p ↦ let d = p.1 in let z : ⊥ = cc in z
    | inr p ↦ let t = p.1 in let z : ⊥ = cc in z
  ])
]

child_by : {A : Type 0} (plan : Plan) (m : Meaning A) (run : List Event) (k x : ℕ) (o : Handle) → IsRunOf plan m run → slice_get run k ≡ Some (event.Destroy o) → Known plan run x → is_ended_child plan run (take k run) o.id.0 x ≡ true
child_by plan m run k x o is_run at known = by (law.parent_of plan run x == o.id.0) refl
  where
    by : (b : Bool) → (law.parent_of plan run x == o.id.0) ≡ b → (not (law.parent_of plan run x == o.id.0) || ever (sign.Destroyed x) (take k run)) ≡ true
    by true e = rw e (child_ended plan m run k x o is_run at known (eqb-true (law.parent_of plan run x) o.id.0 e))
    by false e = rw e refl

pub get_within : {T : Type 0} (xs : List T) (k : ℕ) → k < length xs → (y : T) × (slice_get xs k ≡ Some y)
get_within [] k h = absurd (omega arith)
get_within (x ∷ xs) zero h = (x, refl)
get_within (x ∷ xs) (suc k) h = get_within xs k (omega arith)

declared_children : {A : Type 0} (plan : Plan) (m : Meaning A) (run : List Event) (k : ℕ) (o : Handle) → IsRunOf plan m run → slice_get run k ≡ Some (event.Destroy o) → (n : ℕ) → n ≤ length plan.declared
    → declared_ended plan run (take k run) o.id.0 n ≡ true
declared_children plan m run k o is_run at zero h = refl
declared_children plan m run k o is_run at (suc n) h =
    let d = get_within plan.declared n (omega arith) in
    let e : suc n ≡ n + 1 = omega arith in
    both (declared_ended plan run (take k run) o.id.0 n) (is_ended_child plan run (take k run) o.id.0 (n + 1)) (declared_children plan m run k o is_run at n (omega arith))
    (subst (λ y. is_ended_child plan run (take k run) o.id.0 y ≡ true) e (child_by plan m run k (suc n) o is_run at (inl (d.0, d.1))))

-- an object of which an event of a run says something is known in the run
told_known : (plan : Plan) (run : List Event) (j : ℕ) (e : Event) (t : Told) → slice_get run j ≡ Some e → told plan e ≡ Some t → Known plan run t.object
told_known plan run j e t at h = elim (first plan run t.object) [
  | First_by f u found tells is ↦ inr (u, is)
  | First_none none_found is ↦ absurd (
      let off : tells_of plan t.object e ≡ false = not_found (tells_of plan t.object) run none_found j e at in
      let on_ : tells_of plan t.object e ≡ true = tells_it plan t.object e t (record { told = h; object = refl }) in
      let z : ⊥ = cc in z)
]

told_child : {A : Type 0} (plan : Plan) (m : Meaning A) (run : List Event) (k : ℕ) (o : Handle) → IsRunOf plan m run → slice_get run k ≡ Some (event.Destroy o) → (j : ℕ) (e : Event) → slice_get run j ≡ Some e → (x : Option Told) → told plan e ≡ x
    → is_ended_told plan run (take k run) o.id.0 x ≡ true
told_child plan m run k o is_run at j e here None h = refl
told_child plan m run k o is_run at j e here (Some t) h = child_by plan m run k t.object o is_run at (told_known plan run j e t here h)

ends_well_at : {A : Type 0} (plan : Plan) (m : Meaning A) (run : List Event) (k : ℕ) (o : Handle) → IsRunOf plan m run → slice_get run k ≡ Some (event.Destroy o) → ends_well plan run (take k run) (Some o.id.0) ≡ true
ends_well_at plan m run k o is_run at =
    all_four (ever (sign.Cleaned o.id.0) (take k run)) (not (ever (sign.Destroyed o.id.0) (take k run)))
    (declared_ended plan run (take k run) o.id.0 (length plan.declared) && list_all (is_ended_at plan run (take k run) o.id.0) run)
    (times (sign.Dereferenced o.id.0) (take k run) == times (sign.Referenced o.id.0) (take k run))
    (ends_after_cleanup plan m run k o is_run at) (ap not (ends_once plan m run k o is_run at))
    (both (declared_ended plan run (take k run) o.id.0 (length plan.declared)) (list_all (is_ended_at plan run (take k run) o.id.0) run)
    (declared_children plan m run k o is_run at (length plan.declared) (omega arith))
    (all_by (is_ended_at plan run (take k run) o.id.0) run (λ j e here. told_child plan m run k o is_run at j e here (told plan e) refl)))
    (equal (times (sign.Dereferenced o.id.0) (take k run)) (times (sign.Referenced o.id.0) (take k run)) (ends_balanced plan m run k o is_run at))

pub law_9_at_each : {A : Type 0} (plan : Plan) (m : Meaning A) (run : List Event) (k : ℕ) (e : Event) → IsRunOf plan m run → slice_get run k ≡ Some e → law_9 plan run (take k run) e ≡ true
law_9_at_each plan m run k (event.Destroy o) is_run at = ends_well_at plan m run k o is_run at
law_9_at_each plan m run k _ is_run at = refl
