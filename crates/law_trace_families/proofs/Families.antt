-- What the plan and the events say of an object that is there is what the tree has, at each place of every run.
use Rattle.std.proofs.Common.{if◌then◌else◌, ◌≡◌, ℕ, zero, suc, ◌+◌, ◌<◌, ◌≤◌, Bool, true, false, ◌||◌, List, [], ◌∷◌, ◌++◌, ◌⊎◌, inl, inr, Option, Some, None, find, is_some, length, map, option_and_then, slice_get, take, unwrap_or, refl, sym, ap, subst, ◌∙◌, arith}
use Rattle.std.proofs.lemmas.Bool.{eqb-true}
use Rattle.std.proofs.lemmas.Option.{slice_get_within}
use Rattle.wdf_base.specs.Meaning.{Meaning}
use Rattle.wdf_base.specs.declared.plan.Plan.{Plan}
use Rattle.wdf_base.specs.declared.object.Kind.TheVariants as kind
use Rattle.wdf_base.specs.declared.declared.Declared.{Declared}
use Rattle.wdf_base.specs.declared.declared.Declared.TheVariants as declared
use Rattle.wdf_base.specs.declared.declared.DeviceInfo.{DeviceInfo}
use Rattle.wdf_base.specs.declared.event.Event.{Event}
use Rattle.wdf_base.specs.declared.event.Event.TheVariants as event
use Rattle.wdf_base.specs.Kinds.{declared_kind}
use Rattle.wdf_base.specs.Plan.{declared_of}
use Rattle.wdf_model.specs.declared.entries.Node.{Node}
use Rattle.wdf_model.specs.Tables.{entry}
use Rattle.wdf_model.specs.Plans.{as_device}
use Rattle.wdf_model.specs.parts.Tree.{Tree, declared_as, declared_node, declared_parent, gone, kind_of, life_of, opening_tree, parent_of}
use Rattle.wdf_model.specs.State.{State, declared_in}
use Rattle.wdf_model.specs.rules.Steps.{after, may}
use Rattle.wdf_model.specs.rules.Ready.{IsRunOf, ready, state_after}
use Rattle.law_machine_base.specs.FactsOfEvents.{IsTick}
use Rattle.wdf_model.proofs.Runs.{along_run}
use Rattle.law_machine_base.proofs.Follows.{follows, state_goes_on}
use Rattle.wdf_model.proofs.Counts.{find_behind}
use Rattle.wdf_model.proofs.Tests.{itself}
use Rattle.law_machine_lives.proofs.SoundEvents.{same_declared}
use Rattle.wdf_laws.specs.declared.sign.Told.{Told}
use Rattle.wdf_laws.specs.Events.{told}
use Rattle.wdf_laws.specs.Family.{first_told, is_told, tells_of, told_class}
use Rattle.wdf_laws.specs.Family as law
use Rattle.law_trace_families.specs.Family.{ClassesAgree, FamilyAgrees, is_known}
use Rattle.wdf_base.proofs.WordLaws.{find_passes}
use Rattle.wdf_base.specs.Lives.{is_gone}
use Rattle.law_trace_families.proofs.Stays.{Stays, WasAt, event_stays, stays_same}
use Rattle.law_trace_families.proofs.Telling.{Makes, event_makes}

-- ---- the earliest event that says something of an object

found_first : {T : Type 0} (p : T → Bool) (y : T) (ys zs : List T) (x : T) (b : Bool) → p y ≡ b → ((find p ys ≡ Some x) → find p (ys ++ zs) ≡ Some x) → (if b then Some y else find p ys) ≡ Some x
    → (if b then Some y else find p (ys ++ zs)) ≡ Some x
found_first p y ys zs x true e rest h = h
found_first p y ys zs x false e rest h = rest h

-- what is found first in a list is found first where the list goes on
pub found_still : {T : Type 0} (p : T → Bool) (xs zs : List T) (x : T) → find p xs ≡ Some x → find p (xs ++ zs) ≡ Some x
found_still p [] zs x h = absurd (let z : ⊥ = cc in z)
found_still p (y ∷ ys) zs x h = found_first p y ys zs x (p y) refl (found_still p ys zs x) h

found_passes_first : {T : Type 0} (p : T → Bool) (y : T) (ys : List T) (x : T) (b : Bool) → p y ≡ b → ((find p ys ≡ Some x) → p x ≡ true) → (if b then Some y else find p ys) ≡ Some x → p x ≡ true
found_passes_first p y ys x true e rest h = let same : y ≡ x = cc in subst (λ z. p z ≡ true) same e
found_passes_first p y ys x false e rest h = rest h

-- an event that says something of an object, and what it says
pub record Tells (plan : Plan) (o : ℕ) (e : Event) (t : Told) : Type 0 where
  pub told : told plan e ≡ Some t
  pub object : t.object ≡ o

tells_by : (plan : Plan) (o : ℕ) (e : Event) (found : Option Told) → told plan e ≡ found → is_told o found ≡ true → (t : Told) × Tells plan o e t
tells_by plan o e None h is = absurd (let z : ⊥ = cc in z)
tells_by plan o e (Some t) h is = (t, record { told = h; object = eqb-true t.object o is })

-- what is told first is told by the earliest event, and else no event says anything of the object
pub data First (plan : Plan) (all : List Event) (o : ℕ) : Type 0 where
  First_by : (e : Event) (t : Told) → find (tells_of plan o) all ≡ Some e → Tells plan o e t → first_told plan all o ≡ Some t → First plan all o
  First_none : find (tells_of plan o) all ≡ None → first_told plan all o ≡ None → First plan all o

first_by : (plan : Plan) (all : List Event) (o : ℕ) (found : Option Event) → find (tells_of plan o) all ≡ found → First plan all o
first_by plan all o None h = First_none h (ap (option_and_then (told plan)) h)
first_by plan all o (Some e) h =
    let t = tells_by plan o e (told plan e) refl (find_passes (tells_of plan o) all e h) in
    First_by e t.0 h t.1 (ap (option_and_then (told plan)) h ∙ t.1.told)

pub first : (plan : Plan) (all : List Event) (o : ℕ) → First plan all o
first plan all o = first_by plan all o (find (tells_of plan o) all) refl

-- what is told first stays so
pub told_still : (plan : Plan) (es more : List Event) (o : ℕ) (t : Told) → first_told plan es o ≡ Some t → first_told plan (es ++ more) o ≡ Some t
told_still plan es more o t h = elim (first plan es o) [
  | First_by e u found tells is ↦ ap (option_and_then (told plan)) (found_still (tells_of plan o) es more e found) ∙ tells.told ∙ sym is ∙ h
  | First_none none is ↦ absurd (let z : ⊥ = cc in z)
]

-- where nothing was told, what is told later is told first
pub told_later : (plan : Plan) (es more : List Event) (o : ℕ) → first_told plan es o ≡ None → first_told plan (es ++ more) o ≡ first_told plan more o
told_later plan es more o h = elim (first plan es o) [
  | First_by e u found tells is ↦ absurd (let z : ⊥ = cc in z)
  | First_none none is ↦ ap (option_and_then (told plan)) (find_behind (tells_of plan o) es more none)
]

-- what one event says
pub one_event : (plan : Plan) (e : Event) (t : Told) → told plan e ≡ Some t → first_told plan (e ∷ []) t.object ≡ Some t
one_event plan e t h = by (tells_of plan t.object e) refl (ap (is_told t.object) h ∙ itself t.object)
  where
    by : (b : Bool) → tells_of plan t.object e ≡ b → tells_of plan t.object e ≡ true → first_told plan (e ∷ []) t.object ≡ Some t
    by true k is = rw k h
    by false k is = absurd (let z : ⊥ = cc in z)

-- one event more
told_first : (plan : Plan) (e : Event) (o : ℕ) (t : Told) → first_told plan (e ∷ []) o ≡ Some t → Tells plan o e t
told_first plan e o t h = elim (first plan (e ∷ []) o) [
  | First_by x u found tells is ↦
      let same : u ≡ t = (let s : Some u ≡ Some t = sym is ∙ h in let k : u ≡ t = cc in k) in
      let it : e ≡ x = only (tells_of plan o e) refl found in
      subst (λ y. Tells plan o y t) (sym it) (subst (λ y. Tells plan o x y) same tells)
  | First_none none is ↦ absurd (let z : ⊥ = cc in z)
]
  where
    only : {x : Event} (b : Bool) → tells_of plan o e ≡ b → find (tells_of plan o) (e ∷ []) ≡ Some x → e ≡ x
    only {x} true y f = let k : (if true then Some e else None) ≡ Some x = rw y at f in let same : e ≡ x = cc in same
    only {x} false y f = let k : (if false then Some e else None) ≡ Some x = rw y at f in absurd (let z : ⊥ = cc in z)

-- what is told after one event more was told before, or this event says it
pub told_next : (plan : Plan) (es : List Event) (e : Event) (o : ℕ) (t : Told) → first_told plan (es ++ e ∷ []) o ≡ Some t
    → (first_told plan es o ≡ Some t) ⊎ ((first_told plan es o ≡ None) × Tells plan o e t)
told_next plan es e o t h = by (first_told plan es o) refl
  where
    by : (was : Option Told) → first_told plan es o ≡ was → (first_told plan es o ≡ Some t) ⊎ ((first_told plan es o ≡ None) × Tells plan o e t)
    by None k = inr (k, told_first plan e o t (sym (told_later plan es (e ∷ []) o k) ∙ h))
    by (Some u) k = inl (k ∙ sym (told_still plan es (e ∷ []) o u k) ∙ h)

-- ---- the family, at each place of a run

pub record Family (plan : Plan) (es : List Event) (T : Tree) : Type 0 where
  -- the declared objects are the first
  pub declared_first : length plan.declared < length T.nodes
  -- the others are made after them
  pub after : (o : ℕ) (t : Told) → first_told plan es o ≡ Some t → (length plan.declared < o) × (o < length T.nodes)
  pub declared : (o : ℕ) (d : Declared) → declared_of plan o ≡ Some d → is_gone (life_of T o) ≡ false → (parent_of T o ≡ declared_parent d) × (kind_of T o ≡ unwrap_or (declared_kind d) kind.General)
  pub told : (o : ℕ) (t : Told) → first_told plan es o ≡ Some t → is_gone (life_of T o) ≡ false → (parent_of T o ≡ t.parent) × (declared_as plan T o ≡ told_class (Some t)) × (t.class ≡ None → kind_of T o ≡ kind.Request)

pub declared_within : (plan : Plan) (o : ℕ) (d : Declared) → declared_of plan o ≡ Some d → o ≤ length plan.declared
declared_within plan zero d h = absurd (let z : ⊥ = cc in z)
declared_within plan (suc k) d h = let w = slice_get_within plan.declared k d h in omega arith

undeclared_by : (plan : Plan) (o : ℕ) (x : Option Declared) → declared_of plan o ≡ x → length plan.declared < o → x ≡ None
undeclared_by plan o None h past = refl
undeclared_by plan o (Some d) h past = absurd (let w = declared_within plan o d h in let z : ⊥ = omega arith in z)

pub undeclared : (plan : Plan) (o : ℕ) → length plan.declared < o → declared_of plan o ≡ None
undeclared plan o past = undeclared_by plan o (declared_of plan o) refl past

-- a step of the run
family_goes_on : (plan : Plan) (es : List Event) (e : Event) (T U : Tree) → Stays T U → ((t : Told) → told plan e ≡ Some t → Makes plan T U t) → Family plan es T → Family plan (es ++ e ∷ []) U
family_goes_on plan es e T U stays makes k = record {
  declared_first = let l = stays.longer in let w = k.declared_first in omega arith;
  after = λ o t h. elim (told_next plan es e o t h) [
    | inl old ↦ let w = k.after o t old in let low = w.0 in let high = w.1 in let l = stays.longer in (low, omega arith)
    | inr new ↦
        let m : Makes plan T U t = makes t new.1.told in let next = m.next in let is = new.1.object in let w = k.declared_first in let in_ = m.within in
        ((let z : length plan.declared < o = omega arith in z), (let z : o < length U.nodes = omega arith in z))
  ];
  declared = λ o d h there.
      let w = declared_within plan o d h in let l = k.declared_first in
      let was : WasAt T U o = stays.was o (omega arith) there in
      let old = k.declared o d h was.there in
      (was.parent ∙ old.0, was.kind ∙ old.1);
  told = λ o t h there. elim (told_next plan es e o t h) [
    | inl old ↦
        let w = k.after o t old in let high = w.1 in
        let was : WasAt T U o = stays.was o high there in
        let before = k.told o t old was.there in
        (was.parent ∙ before.0, same_declared plan T U o was.kind was.class ∙ before.1, λ none. was.kind ∙ before.2 none)
    | inr new ↦
        let m : Makes plan T U t = makes t new.1.told in
        (subst (λ x. parent_of U x ≡ t.parent) new.1.object m.parent, subst (λ x. declared_as plan U x ≡ told_class (Some t)) new.1.object m.class, λ none. subst (λ x. kind_of U x ≡ kind.Request) new.1.object (m.request none))
  ];
}

-- ---- the opening

same_parent : (d : Declared) → (declared_node d).parent.0 ≡ declared_parent d
same_parent declared.Driver = refl
same_parent _ = refl

-- what is a device is declared as one
pub device_info : (o : Option Declared) → is_some (as_device o) ≡ true → (d : DeviceInfo) × (o ≡ Some (declared.Device d))
device_info (Some (declared.Device d)) h = (d, refl)
device_info _ h = absurd (let z : ⊥ = cc in z)

pub declared_at : (ds : List Declared) (k : ℕ) (d : Declared) → slice_get ds k ≡ Some d → entry gone (map declared_node ds) k ≡ declared_node d
declared_at [] k d h = absurd (let z : ⊥ = cc in z)
declared_at (x ∷ xs) zero d h = let same : x ≡ d = cc in ap declared_node same
declared_at (x ∷ xs) (suc k) d h = declared_at xs k d h

opening_node : (plan : Plan) (o : ℕ) (d : Declared) → declared_of plan o ≡ Some d → (parent_of (opening_tree plan) o ≡ declared_parent d) × (kind_of (opening_tree plan) o ≡ unwrap_or (declared_kind d) kind.General)
opening_node plan zero d h = absurd (let z : ⊥ = cc in z)
opening_node plan (suc k) d h =
    let e = declared_at plan.declared k d h in
    (ap (λ (n : Node). n.parent.0) e ∙ same_parent d, ap (λ (n : Node). n.kind) e)

as_many : {S T : Type 0} (f : S → T) (xs : List S) → length (map f xs) ≡ length xs
as_many f [] = refl
as_many f (x ∷ xs) = let e = as_many f xs in omega arith

family_opens : {A : Type 0} (plan : Plan) (m : Meaning A) → Family plan [] (state_after plan m []).tree
unfolding state_after
family_opens plan m = record {
  declared_first = let e = as_many declared_node plan.declared in omega arith;
  after = λ o t h. absurd (let z : ⊥ = cc in z);
  declared = λ o d h there. opening_node plan o d h;
  told = λ o t h there. absurd (let z : ⊥ = cc in z);
}

-- ---- each place of a run

either_goes_on : {A : Type 0} (plan : Plan) (m : Meaning A) (es : List Event) (S : State A) (offered : List Event) (e : Event) → (may plan m S e ≡ true) ⊎ IsTick m S offered e
    → Family plan es S.tree → Family plan (es ++ e ∷ []) (after plan m S e).tree
either_goes_on plan m es S offered e (inl h) k = family_goes_on plan es e S.tree (after plan m S e).tree (event_stays plan m S e h) (λ t is. event_makes plan m S e t h is) k
either_goes_on plan m es S offered e (inr t) k =
    subst (λ y. Family plan (es ++ y ∷ []) (after plan m S y).tree) (sym t.tick)
    (family_goes_on plan es (event.Tick (S.clock + 1)) S.tree S.tree (stays_same S.tree S.tree refl) (λ u is. absurd (let z : ⊥ = cc in z)) k)

pub family_at_each : {A : Type 0} (plan : Plan) (m : Meaning A) (run : List Event) → IsRunOf plan m run → (n : ℕ) → Family plan (take n run) (state_after plan m (take n run)).tree
family_at_each {A} plan m run is_run n = along_run (λ es. Family plan es (state_after plan m es).tree) (ready plan m) run (family_opens plan m)
    (λ before e place _ held at. subst (λ (T : State A). Family plan (before ++ e ∷ []) T.tree) (sym (state_goes_on plan m before e))
    (either_goes_on plan m before (state_after plan m before) (ready plan m before) e (follows plan m before place e at) held))
    is_run n

-- ---- in the words of the laws

-- what is known of an object: it is declared, or first told
pub data Knows (plan : Plan) (es : List Event) (o : ℕ) : Type 0 where
  Knows_declared : (d : Declared) → declared_of plan o ≡ Some d → law.parent_of plan es o ≡ declared_parent d → Knows plan es o
  Knows_told : (t : Told) → declared_of plan o ≡ None → first_told plan es o ≡ Some t → law.parent_of plan es o ≡ t.parent → Knows plan es o
  Knows_none : declared_of plan o ≡ None → first_told plan es o ≡ None → law.parent_of plan es o ≡ 0 → Knows plan es o

knows_by : (plan : Plan) (es : List Event) (o : ℕ) (x : Option Declared) (y : Option Told) → declared_of plan o ≡ x → first_told plan es o ≡ y → Knows plan es o
knows_by plan es o (Some d) y h k = Knows_declared d h (ap (λ v. law.parent_by v (first_told plan es o)) h)
knows_by plan es o None (Some t) h k = Knows_told t h k (ap (λ v. law.parent_by v (first_told plan es o)) h ∙ ap (law.parent_by None) k)
knows_by plan es o None None h k = Knows_none h k (ap (λ v. law.parent_by v (first_told plan es o)) h ∙ ap (law.parent_by None) k)

pub knows : (plan : Plan) (es : List Event) (o : ℕ) → Knows plan es o
knows plan es o = knows_by plan es o (declared_of plan o) (first_told plan es o) refl refl

no_option : (a b : Bool) → a ≡ false → b ≡ false → (a || b) ≡ true → ⊥
no_option true b h k e = absurd (let z : ⊥ = cc in z)
no_option false true h k e = absurd (let z : ⊥ = cc in z)
no_option false false h k e = absurd (let z : ⊥ = cc in z)

unknown : (plan : Plan) (es : List Event) (o : ℕ) → declared_of plan o ≡ None → first_told plan es o ≡ None → is_known plan es o ≡ true → ⊥
unknown plan es o h k e = no_option (is_some (declared_of plan o)) (is_some (first_told plan es o)) (ap is_some h) (ap is_some k) e

agrees : {A : Type 0} (plan : Plan) (es : List Event) (S : State A) → Family plan es S.tree → FamilyAgrees plan es S
agrees plan es S k = record {
  made = λ o h. elim (knows plan es o) [
    | Knows_declared d is up ↦ let w = declared_within plan o d is in let l = k.declared_first in let z : o < length S.tree.nodes = omega arith in z
    | Knows_told t free is up ↦ (k.after o t is).1
    | Knows_none free is up ↦ absurd (unknown plan es o free is h)
  ];
  parent = λ o h there. elim (knows plan es o) [
    | Knows_declared d is up ↦ up ∙ sym (k.declared o d is there).0
    | Knows_told t free is up ↦ up ∙ sym (k.told o t is there).0
    | Knows_none free is up ↦ absurd (unknown plan es o free is h)
  ];
}

pub family_agrees_at_each : {A : Type 0} (plan : Plan) (m : Meaning A) (run : List Event) → IsRunOf plan m run → (n : ℕ) → FamilyAgrees plan (take n run) (state_after plan m (take n run))
family_agrees_at_each plan m run is_run n = agrees plan (take n run) (state_after plan m (take n run)) (family_at_each plan m run is_run n)

classes_by : {A : Type 0} (plan : Plan) (es : List Event) (S : State A) (o : ℕ) (y : Option Told) → Family plan es S.tree → first_told plan es o ≡ y → is_some y ≡ true → is_gone (life_of S.tree o) ≡ false
    → law.made_as plan es o ≡ declared_in plan S o
classes_by plan es S o None k is h there = absurd (let z : ⊥ = cc in z)
classes_by plan es S o (Some t) k is h there =
    ap (λ v. law.declared_by v (first_told plan es o)) (undeclared plan o (k.after o t is).0) ∙ ap (law.declared_by None) is ∙ sym (k.told o t is there).1

pub classes_agree_at_each : {A : Type 0} (plan : Plan) (m : Meaning A) (run : List Event) → IsRunOf plan m run → (n : ℕ) → ClassesAgree plan (take n run) (state_after plan m (take n run))
classes_agree_at_each plan m run is_run n = record {
  class = λ o h there. classes_by plan (take n run) (state_after plan m (take n run)) o (first_told plan (take n run) o) (family_at_each plan m run is_run n) refl h there;
}
