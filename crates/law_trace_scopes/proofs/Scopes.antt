-- Callbacks under one scope lock come one after the other.
use Rattle.std.proofs.Common.{◌≡◌, ℕ, zero, suc, ◌+◌, ◌-◌, ◌==◌, ◌<◌, ◌≤◌, Bool, true, false, not, ◌&&◌, ◌||◌, List, [], ◌∷◌, ◌⊎◌, inl, inr, Option, Some, None, drop, length, slice_get, take, unwrap_or, refl, sym, ap, subst, ◌∙◌, arith}
use Rattle.std.specs.List.{list_any}
use Rattle.std.proofs.lemmas.Bool.{cases_Bool}
use Rattle.wdf_base.specs.Meaning.{Meaning}
use Rattle.wdf_base.specs.Resolved.{IsResolved, in_order, objects_in_order}
use Rattle.wdf_base.specs.declared.ids.Cpu.{Cpu}
use Rattle.wdf_base.specs.declared.ids.Handle.{Handle}
use Rattle.wdf_base.specs.declared.plan.Plan.{Plan}
use Rattle.wdf_base.specs.declared.object.LockRef.{LockRef}
use Rattle.wdf_base.specs.declared.object.Kind.TheVariants as kind
use Rattle.wdf_base.specs.declared.call.Callback.{Callback}
use Rattle.wdf_base.specs.declared.rank.CallbackLock.{CallbackLock}
use Rattle.wdf_base.specs.declared.rank.CallbackLock.TheVariants as callback_lock
use Rattle.wdf_base.specs.declared.declared.Declared.{Declared}
use Rattle.wdf_base.specs.declared.declared.Declared.TheVariants as declared
use Rattle.wdf_base.specs.declared.event.Event.{Event}
use Rattle.wdf_base.specs.declared.event.Event.TheVariants as event
use Rattle.wdf_base.specs.Callbacks.{row_of}
use Rattle.wdf_base.specs.Kinds.{declared_kind}
use Rattle.wdf_base.specs.Plan.{declared_of}
use Rattle.wdf_base.specs.Same.{same_lock}
use Rattle.wdf_base.specs.Lives.{is_gone}
use Rattle.wdf_model.specs.declared.entries.Held.{Held}
use Rattle.wdf_model.specs.parts.Tree.{Tree, declared_as, gone, kind_of, life_of, made_as, node_of}
use Rattle.wdf_model.specs.parts.Cpus.{frame_of}
use Rattle.wdf_model.specs.parts.Locks.{is_free_if_any, is_free_lock, lock_of_callback, own_lock, scope_needed, scope_of}
use Rattle.wdf_model.specs.State.{State, declared_in}
use Rattle.wdf_model.specs.rules.Starts.{life_fits}
use Rattle.wdf_model.specs.rules.Steps.{after, may}
use Rattle.wdf_model.specs.rules.Ready.{IsRunOf, state_after}
use Rattle.wdf_model.specs.Runs.{IsRun}
use Rattle.wdf_model.proofs.Runs.{slice_get-take, take_ended, take_next}
use Rattle.law_machine_base.proofs.Follows.{follows, state_goes_on}
use Rattle.wdf_model.proofs.Tests.{both_left, both_right, right_so}
use Rattle.wdf_model.proofs.Counts.{equal}
use Rattle.law_machine_base.proofs.OwnEvents.{not_found}
use Rattle.law_machine_lives.proofs.Framing.{Framing, framing_at_each}
use Rattle.law_machine_lives.proofs.Lists.{Each, inside}
use Rattle.wdf_model.proofs.Sames.{one_lock}
use Rattle.law_machine_lives.proofs.LocksOnce.{free_unheld}
use Rattle.law_machine_lives.proofs.Sound.{lock_of_frame}
use Rattle.wdf_laws.specs.declared.sign.Begun.{Begun}
use Rattle.wdf_laws.specs.declared.sign.Told.{Told}
use Rattle.wdf_laws.specs.Events.{told}
use Rattle.wdf_laws.specs.Family.{first_told, scope_on, tells_of, told_class}
use Rattle.wdf_laws.specs.Family as law
use Rattle.wdf_laws.specs.Frames.{frames_after}
use Rattle.wdf_laws.specs.Laws.{is_free_scope, is_under, law_2, needs}
use Rattle.law_trace_families.proofs.Families.{Family, First_by, First_none, Knows_declared, Knows_none, Knows_told, family_at_each, first, knows, told_still}
use Rattle.law_trace_families.proofs.Orders.{earlier_or_later, found_place, makes_at, take_drop}
use Rattle.law_trace_families.proofs.Stays.{event_stays}
use Rattle.law_machine_lives.proofs.Keeping.{comes}
use Rattle.law_trace_scopes.proofs.Frames.{AgreesAfter, IsBegun, agrees_at_each, fewer}
use Rattle.law_trace_scopes.proofs.Holding.{is_own_hold, own_holds}
use Rattle.law_machine_counts.proofs.StepEvents.{lives_within}

-- ---- a resolved plan declares no class as an object

none_of_class : (id device : ℕ) (ds : List Declared) (k c : ℕ) → in_order id device ds ≡ true → slice_get ds k ≡ Some (declared.OfClass c) → ⊥
none_of_class id device [] k c order at = let z : ⊥ = cc in z
none_of_class id device (declared.Driver ∷ ds) k c order at = let z : ⊥ = cc in z
none_of_class id device (declared.OfClass x ∷ ds) k c order at = let z : ⊥ = cc in z
none_of_class id device (declared.Device x ∷ ds) zero c order at = let z : ⊥ = cc in z
none_of_class id device (declared.Device x ∷ ds) (suc k) c order at = none_of_class (suc id) id ds k c order at
none_of_class id device (declared.Queue x ∷ ds) zero c order at = let z : ⊥ = cc in z
none_of_class id device (declared.Queue x ∷ ds) (suc k) c order at = none_of_class (suc id) device ds k c (both_right _ (in_order (suc id) device ds) order) at
none_of_class id device (declared.Interrupt x ∷ ds) zero c order at = let z : ⊥ = cc in z
none_of_class id device (declared.Interrupt x ∷ ds) (suc k) c order at = none_of_class (suc id) device ds k c (both_right _ (in_order (suc id) device ds) order) at
none_of_class id device (declared.Target x ∷ ds) zero c order at = let z : ⊥ = cc in z
none_of_class id device (declared.Target x ∷ ds) (suc k) c order at = none_of_class (suc id) device ds k c (both_right _ (in_order (suc id) device ds) order) at

none_in : (ds : List Declared) (k c : ℕ) → objects_in_order ds ≡ true → slice_get ds k ≡ Some (declared.OfClass c) → ⊥
none_in [] k c order at = let z : ⊥ = cc in z
none_in (declared.Driver ∷ ds) zero c order at = let z : ⊥ = cc in z
none_in (declared.Driver ∷ ds) (suc k) c order at = none_of_class 2 0 ds k c order at
none_in (declared.Device x ∷ ds) k c order at = let z : ⊥ = cc in z
none_in (declared.Queue x ∷ ds) k c order at = let z : ⊥ = cc in z
none_in (declared.Interrupt x ∷ ds) k c order at = let z : ⊥ = cc in z
none_in (declared.Target x ∷ ds) k c order at = let z : ⊥ = cc in z
none_in (declared.OfClass x ∷ ds) k c order at = let z : ⊥ = cc in z

no_class : (plan : Plan) (o c : ℕ) → objects_in_order plan.declared ≡ true → declared_of plan o ≡ Some (declared.OfClass c) → ⊥
no_class plan zero c order at = let z : ⊥ = cc in z
no_class plan (suc k) c order at = none_in plan.declared k c order at

-- a declared object is in the tree what the plan declares
declared_made : (plan : Plan) (T : Tree) (o : ℕ) (d : Declared) → objects_in_order plan.declared ≡ true → declared_of plan o ≡ Some d → kind_of T o ≡ unwrap_or (declared_kind d) kind.General → declared_as plan T o ≡ Some d
declared_made plan T o (declared.OfClass c) order is k = absurd (no_class plan o c order is)
declared_made plan T o _ order is k = ap (made_as plan (node_of T o) o) k ∙ is

-- ---- objects only become more

longer_next : {A : Type 0} (plan : Plan) (m : Meaning A) (run : List Event) (k : ℕ) (found : Option Event) → IsRunOf plan m run → slice_get run k ≡ found → length (state_after plan m (take k run)).tree.nodes ≤ length (state_after plan m (take (suc k) run)).tree.nodes
unfolding IsRun
longer_next {A} plan m run k None is_run at = subst (λ es. length (state_after plan m (take k run)).tree.nodes ≤ length (state_after plan m es).tree.nodes) (sym (take_ended run k at)) (omega arith)
longer_next {A} plan m run k (Some e) is_run at =
    let S : State A = state_after plan m (take k run) in
    let grows : length S.tree.nodes ≤ length (after plan m S e).tree.nodes = elim (follows plan m (take k run) (is_run k e at).0 e (is_run k e at).1) [
      | inl h ↦ (event_stays plan m S e h).longer
      | inr t ↦ subst (λ x. length S.tree.nodes ≤ length (after plan m S x).tree.nodes) (sym t.tick) (omega arith)
    ] in
    subst (λ es. length S.tree.nodes ≤ length (state_after plan m es).tree.nodes) (sym (take_next run k e at)) (subst (λ (U : State A). length S.tree.nodes ≤ length U.tree.nodes) (sym (state_goes_on plan m (take k run) e)) grows)

longer_by : {A : Type 0} (plan : Plan) (m : Meaning A) (run : List Event) (n i : ℕ) → IsRunOf plan m run → length (state_after plan m (take n run)).tree.nodes ≤ length (state_after plan m (take (n + i) run)).tree.nodes
longer_by plan m run n zero is_run = let e : n + 0 ≡ n = omega arith in rw e (let z : length (state_after plan m (take n run)).tree.nodes ≤ length (state_after plan m (take n run)).tree.nodes = omega arith in z)
longer_by plan m run n (suc i) is_run =
    let e : suc (n + i) ≡ n + suc i = omega arith in
    let before = longer_by plan m run n i is_run in
    let next = longer_next plan m run (n + i) (slice_get run (n + i)) is_run refl in
    subst (λ k. length (state_after plan m (take n run)).tree.nodes ≤ length (state_after plan m (take k run)).tree.nodes) e (omega arith)

longer_later : {A : Type 0} (plan : Plan) (m : Meaning A) (run : List Event) (n j : ℕ) → IsRunOf plan m run → n ≤ j → length (state_after plan m (take n run)).tree.nodes ≤ length (state_after plan m (take j run)).tree.nodes
longer_later plan m run n j is_run h = let e : n + (j - n) ≡ j = omega arith in subst (λ k. length (state_after plan m (take n run)).tree.nodes ≤ length (state_after plan m (take k run)).tree.nodes) e (longer_by plan m run n (j - n) is_run)

-- an object that is there isn't told for the first time later
not_later : {A : Type 0} (plan : Plan) (m : Meaning A) (run : List Event) (k x : ℕ) (t : Told) → IsRunOf plan m run → is_gone (life_of (state_after plan m (take k run)).tree x) ≡ false → first_told plan (take k run) x ≡ None → first_told plan run x ≡ Some t → ⊥
not_later {A} plan m run k x t is_run there none is = elim (first plan run x) [
  | First_none none_found no_told ↦ let z : ⊥ = cc in z
  | First_by e u found tells so ↦
      let at = found_place (tells_of plan x) run e found in
      let next = (makes_at plan m run at.0 e u is_run at.1 tells.told).next in
      let same = tells.object in
      let within : x < length (state_after plan m (take k run)).tree.nodes = inside gone (λ n. not (is_gone n.life)) (state_after plan m (take k run)).tree.nodes x refl (ap not there) in
      elim (earlier_or_later k at.0) [
        | inl early ↦ told_before e u tells.told same at.0 (slice_get-take run k at.0 early ∙ at.1)
        | inr late ↦ let more = longer_later plan m run k at.0 is_run late in let z : ⊥ = omega arith in z
      ]
]
  where
    told_before : (e : Event) (u : Told) → told plan e ≡ Some u → u.object ≡ x → (j : ℕ) → slice_get (take k run) j ≡ Some e → ⊥
    told_before e u h same j at = elim (first plan (take k run) x) [
      | First_by f v found tells so ↦ let z : ⊥ = cc in z
      | First_none none_found no_told ↦
          let off : tells_of plan x e ≡ false = not_found (tells_of plan x) (take k run) none_found j e at in
          let on_ : tells_of plan x e ≡ true = ap (law.is_told x) h ∙ equal u.object x same in
          let z : ⊥ = cc in z
    ]

-- ---- the scope that events give is the state's

none_scope : (plan : Plan) (k : CallbackLock) (o : ℕ) → scope_needed plan k o None ≡ None
none_scope plan callback_lock.NoLock o = refl
none_scope plan _ o = refl

own_scope : (plan : Plan) (k : CallbackLock) (o : ℕ) (d : Option Declared) (s : LockRef) → scope_needed plan k o d ≡ Some s → own_lock k o (scope_needed plan k o d) ≡ Some s
own_scope plan callback_lock.InterruptLock o d s h = absurd (let z : ⊥ = cc in z)
own_scope plan callback_lock.NoLock o d s h = absurd (let z : ⊥ = cc in z)
own_scope plan callback_lock.ParentScope o d s h = h
own_scope plan callback_lock.QueueLock o d s h = h

-- what an object that is there is in the plan, as all events give it, is what it is in the state, or nothing gives it
same_made : {A : Type 0} (plan : Plan) (m : Meaning A) (run : List Event) (k x : ℕ) → IsResolved plan → IsRunOf plan m run → is_gone (life_of (state_after plan m (take k run)).tree x) ≡ false
    → (law.made_as plan run x ≡ declared_in plan (state_after plan m (take k run)) x) ⊎ (law.made_as plan run x ≡ None)
same_made {A} plan m run k x resolved is_run there =
    let S : State A = state_after plan m (take k run) in
    let f : Family plan (take k run) S.tree = family_at_each plan m run is_run k in
    elim (knows plan run x) [
      | Knows_declared d is up ↦ inl (ap (λ v. law.declared_by v (first_told plan run x)) is ∙ sym (declared_made plan S.tree x d resolved.in_order is (f.declared x d is there).1))
      | Knows_told t free is up ↦
          let told_ : law.made_as plan run x ≡ told_class (Some t) = ap (λ v. law.declared_by v (first_told plan run x)) free ∙ ap (law.declared_by None) is in
          by t (first_told plan (take k run) x) refl is told_ f
      | Knows_none free is up ↦ inr (ap (λ v. law.declared_by v (first_told plan run x)) free ∙ ap (law.declared_by None) is)
    ]
  where
    by : (t : Told) (was : Option Told) → first_told plan (take k run) x ≡ was → first_told plan run x ≡ Some t → law.made_as plan run x ≡ told_class (Some t) → Family plan (take k run) (state_after plan m (take k run)).tree
        → (law.made_as plan run x ≡ declared_in plan (state_after plan m (take k run)) x) ⊎ (law.made_as plan run x ≡ None)
    by t None h is told_ f = absurd (not_later plan m run k x t is_run there h is)
    by t (Some u) h is told_ f =
        let still : first_told plan run x ≡ Some u = subst (λ es. first_told plan es x ≡ Some u) (take_drop k run) (told_still plan (take k run) (drop k run) x u h) in
        let same : u ≡ t = (let s : Some u ≡ Some t = sym still ∙ is in let z : u ≡ t = cc in z) in
        inl (told_ ∙ ap (λ w. told_class (Some w)) (sym same) ∙ sym (f.told x u h there).1)

lock_by_scope : {A : Type 0} (plan : Plan) (m : Meaning A) (run : List Event) (k x : ℕ) (c : Callback) (s : LockRef) → IsResolved plan → IsRunOf plan m run → is_gone (life_of (state_after plan m (take k run)).tree x) ≡ false → scope_on plan run c x ≡ Some s
    → lock_of_callback plan c x (declared_in plan (state_after plan m (take k run)) x) ≡ Some s
lock_by_scope {A} plan m run k x c s resolved is_run there is =
    let S : State A = state_after plan m (take k run) in
    elim (same_made plan m run k x resolved is_run there) [
      | inl same ↦
          let scope : scope_of plan c x (declared_in plan S x) ≡ Some s = ap (scope_of plan c x) (sym same) ∙ is in
          own_scope plan (row_of c).lock x (declared_in plan S x) s scope
      | inr none ↦ absurd (let off : None ≡ Some s = sym (ap (scope_of plan c x) none ∙ none_scope plan (row_of c).lock x) ∙ is in let z : ⊥ = cc in z)
    ]

-- ---- a start

start_parts : {A : Type 0} (plan : Plan) (m : Meaning A) (S : State A) (cpu : Cpu) (c : Callback) (o : Handle) (r : Option Handle) → may plan m S (event.Start cpu c o r) ≡ true
    → (life_fits S c o.id.0 ≡ true) × (is_free_if_any S.locks (lock_of_callback plan c o.id.0 (declared_in plan S o.id.0)) ≡ true)
start_parts plan m S cpu c o r h = (search (both_left, both_right), search (both_left, both_right))

found_by : (p : Begun → Bool) (P : Begun → Type 0) (b : Begun) (bs : List Begun) (t : Bool) → p b ≡ t → (list_any p bs ≡ true → Each P bs → (x : Begun) × (p x ≡ true) × P x) → (p b || list_any p bs) ≡ true → P b → Each P bs → (x : Begun) × (p x ≡ true) × P x
found_by p P b bs true e rest h at all = (b, e, at)
found_by p P b bs false e rest h at all = rest (right_so (p b) (list_any p bs) e h) all

-- what one of a list passes, and what is so of each
pub one_of : (p : Begun → Bool) (P : Begun → Type 0) (bs : List Begun) → list_any p bs ≡ true → Each P bs → (x : Begun) × (p x ≡ true) × P x
one_of p P [] h all = absurd (let z : ⊥ = cc in z)
one_of p P (b ∷ bs) h all = found_by p P b bs (p b) refl (one_of p P bs) h all.0 all.1

needs_is : (s : LockRef) (o : Option LockRef) → needs s o ≡ true → o ≡ Some s
needs_is s None h = absurd (let z : ⊥ = cc in z)
needs_is s (Some l) h = ap Some (one_lock l s h)

-- a lock that a frame has as its own isn't free
pub own_unfree : {A : Type 0} (S : State A) (s : LockRef) (f : ℕ) → is_free_lock S.locks s ≡ true → 1 ≤ own_holds S.locks s f → ⊥
own_unfree S s f free own =
    let none = free_unheld S.locks s free in
    let less = fewer (is_own_hold s f) (λ (h : Held). same_lock h.lock s) (λ h e. both_left (same_lock h.lock s) (h.frame.0 == f) (both_left (same_lock h.lock s && (h.frame.0 == f)) (not h.by_call) e)) S.locks.held in
    omega arith

no_one_under : {A : Type 0} (plan : Plan) (m : Meaning A) (run : List Event) (k : ℕ) (cpu : Cpu) (c : Callback) (o : Handle) (r : Option Handle) (s : LockRef) → IsResolved plan → IsRunOf plan m run → slice_get run k ≡ Some (event.Start cpu c o r)
    → scope_on plan run c o.id.0 ≡ Some s → list_any (is_under plan run s) (frames_after (take k run)).begun ≡ true → ⊥
no_one_under {A} plan m run k cpu c o r s resolved is_run at scope some_ =
    let S : State A = state_after plan m (take k run) in
    let h : may plan m S (event.Start cpu c o r) ≡ true = comes plan m run k (event.Start cpu c o r) is_run at (λ time e. let z : ⊥ = cc in z) in
    let parts = start_parts plan m S cpu c o r h in
    let mine : lock_of_callback plan c o.id.0 (declared_in plan S o.id.0) ≡ Some s = lock_by_scope plan m run k o.id.0 c s resolved is_run (lives_within S c o.id.0 parts.0) scope in
    let free : is_free_lock S.locks s ≡ true = subst (λ l. is_free_if_any S.locks l ≡ true) mine parts.1 in
    let agrees : AgreesAfter plan (take k run) S = agrees_at_each plan m run is_run k in
    let b = one_of (is_under plan run s) (IsBegun S) (frames_after (take k run)).begun some_ agrees.agrees.begun in
    let f : ℕ = b.0.frame in
    let under : scope_on plan run b.0.callback b.0.object ≡ Some s = needs_is s (scope_on plan run b.0.callback b.0.object) b.1 in
    let framing : Framing plan S = framing_at_each plan m run is_run k in
    let there : is_gone (life_of S.tree b.0.object) ≡ false = subst (λ x. is_gone (life_of S.tree x) ≡ false) b.2.2 (framing.there f b.2.0) in
    let theirs : lock_of_callback plan b.0.callback b.0.object (declared_in plan S b.0.object) ≡ Some s = lock_by_scope plan m run k b.0.object b.0.callback s resolved is_run there under in
    let own : lock_of_frame plan S f ≡ Some s =
    ap (λ x. lock_of_callback plan x (frame_of S.cpus f).object.id.0 (declared_in plan S (frame_of S.cpus f).object.id.0)) b.2.1
    ∙ ap (λ x. lock_of_callback plan b.0.callback x (declared_in plan S x)) b.2.2 ∙ theirs in
    own_unfree S s f free (agrees.agrees.holds f (λ z. z) b.2.0 s own)

free_by : {A : Type 0} (plan : Plan) (m : Meaning A) (run : List Event) (k : ℕ) (cpu : Cpu) (c : Callback) (o : Handle) (r : Option Handle) (x : Option LockRef) → IsResolved plan → IsRunOf plan m run → slice_get run k ≡ Some (event.Start cpu c o r) → scope_on plan run c o.id.0 ≡ x
    → is_free_scope plan run (frames_after (take k run)) x ≡ true
free_by plan m run k cpu c o r None resolved is_run at e = refl
free_by plan m run k cpu c o r (Some s) resolved is_run at e = elim (cases_Bool (list_any (is_under plan run s) (frames_after (take k run)).begun)) [
  | inl some_ ↦ absurd (no_one_under plan m run k cpu c o r s resolved is_run at e some_)
  | inr none ↦ ap not none
]

pub law_2_at_each : {A : Type 0} (plan : Plan) (m : Meaning A) (run : List Event) (k : ℕ) (e : Event) → IsResolved plan → IsRunOf plan m run → slice_get run k ≡ Some e → law_2 plan run (frames_after (take k run)) e ≡ true
law_2_at_each plan m run k (event.Start cpu c o r) resolved is_run at = free_by plan m run k cpu c o r (scope_on plan run c o.id.0) resolved is_run at refl
law_2_at_each plan m run k _ resolved is_run at = refl
