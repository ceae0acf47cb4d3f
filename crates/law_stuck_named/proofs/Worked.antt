-- Queued work is live and has its function, at each place of every run of a resolved plan.
use Rattle.std.proofs.Common.{◌≡◌, ℕ, zero, suc, ◌+◌, Bool, true, false, not, ◌||◌, List, [], ◌∷◌, Option, Some, None, is_some, length, map, option_map, slice_get, take, unwrap_or, refl, sym, ap, subst, ◌∙◌, arith}
use Rattle.wdf_base.specs.Meaning.{Meaning}
use Rattle.wdf_base.specs.Kinds.{class_kind}
use Rattle.wdf_base.specs.Resolved.{IsResolved, classes_complete, function_of, has_script}
use Rattle.wdf_base.specs.Same.{same_kind}
use Rattle.wdf_base.specs.declared.plan.Plan.{Plan}
use Rattle.wdf_base.specs.declared.declared.ClassInfo.{ClassInfo}
use Rattle.wdf_base.specs.declared.declared.ClassInfo.TheVariants as class
use Rattle.wdf_base.specs.declared.declared.PlainKind.TheVariants as plain
use Rattle.wdf_base.specs.declared.declared.DeferredKind.TheVariants as deferred
use Rattle.wdf_base.specs.declared.declared.Declared.{Declared}
use Rattle.wdf_base.specs.declared.declared.Declared.TheVariants as declared
use Rattle.wdf_base.specs.declared.object.Kind.{Kind}
use Rattle.wdf_base.specs.declared.object.Kind.TheVariants as kind
use Rattle.wdf_base.specs.declared.call.Callback.{Callback}
use Rattle.wdf_base.specs.declared.call.Callback.TheVariants as callback
use Rattle.wdf_base.specs.declared.event.Event.{Event}
use Rattle.wdf_base.specs.Lives.{is_live}
use Rattle.wdf_model.specs.declared.entries.Node.{Node}
use Rattle.wdf_model.specs.Tables.{entry}
use Rattle.wdf_model.specs.Plans.{kind_of_class, script_on}
use Rattle.wdf_model.specs.parts.Tree.{declared_node, gone, made_as, node_of}
use Rattle.wdf_model.specs.State.{State, declares_in, opening}
use Rattle.wdf_model.specs.declared.deed.Deed.{Deed}
use Rattle.wdf_model.specs.rules.Deeds.{do_deed, do_deeds}
use Rattle.wdf_model.specs.rules.Ready.{IsRunOf, state_after}
use Rattle.wdf_model.specs.rules.Steps.{deeds}
use Rattle.law_machine_base.specs.Fits.{all_fit, fits}
use Rattle.law_machine_base.proofs.FitsOfEvents.{event_fits}
use Rattle.wdf_model.proofs.Tests.{both, both_left, both_right}
use Rattle.wdf_model.proofs.Sames.{kind_decides}
use Rattle.law_machine_lives.proofs.Keeping.{at_the_end, each_place_by}
use Rattle.law_machine_lives.proofs.Sound.{AllSound}
use Rattle.law_machine_lives.proofs.SoundRuns.{all_sound}
use Rattle.law_stuck_named_if.specs.Starts.{has_callback}
use Rattle.law_stuck_named_if.proofs.Apt.{AllApt}
use Rattle.law_stuck_named_if.proofs.AptEvents.{event_apt}
use Rattle.law_stuck_named.specs.Owners.{WorkMayRun}
use Rattle.law_machine_lives.proofs.Deferring.{none_queued, work_of}
use Rattle.law_stuck_named.proofs.Standing.{AllComes, Stands, ready_in}
use Rattle.law_stuck_named.proofs.Coming.{event_comes}
use Rattle.law_stuck_named.proofs.Runs.{Known, known_now, stands_now}
use Rattle.law_stuck_named.proofs.Works.{WorkKept, is_classed, is_work_kind, works_by}

-- ---- each place of a run

deeds_work : {A : Type 0} (plan : Plan) (ds : List Deed) (S : State A) → all_fit plan ds S ≡ true → AllSound plan ds S → AllApt plan ds S → AllComes plan ds S → WorkKept plan (work_of S) → WorkKept plan (work_of (do_deeds plan ds S))
deeds_work plan [] S f s a c k = k
deeds_work plan (d ∷ ds) S f s a c k =
    deeds_work plan ds (do_deed plan d S) (both_right (fits plan d S) (all_fit plan ds (do_deed plan d S)) f) s.1 a.1 c.1
    (works_by plan d S (both_left (fits plan d S) (all_fit plan ds (do_deed plan d S)) f) s.0 a.0 c.0 k)

declared_plain : (plan : Plan) (d : Declared) → is_classed plan (declared_node d) ≡ true
declared_plain plan declared.Driver = refl
declared_plain plan _ = refl

opening_plain : (plan : Plan) (ds : List Declared) (o : ℕ) → is_classed plan (entry gone (map declared_node ds) o) ≡ true
opening_plain plan [] o = refl
opening_plain plan (d ∷ ds) zero = declared_plain plan d
opening_plain plan (d ∷ ds) (suc o) = opening_plain plan ds o

classed_open : {A : Type 0} (plan : Plan) (m : Meaning A) (o : ℕ) → is_classed plan (node_of (opening plan m).tree o) ≡ true
classed_open plan m zero = refl
classed_open plan m (suc o) = opening_plain plan plan.declared o

opening_works : {A : Type 0} (plan : Plan) (m : Meaning A) → WorkKept plan (work_of (opening plan m))
opening_works plan m = record {
  classes = classed_open plan m;
  dpcs = λ o h. absurd (none_queued o plan.cpus h);
  items = λ o h. absurd (let z : ⊥ = cc in z);
  timers = λ o h. absurd (let z : ⊥ = cc in z);
}

pub record KnownToo {A : Type 0} (plan : Plan) (S : State A) : Type 0 where
  pub known : Known plan S
  pub stands : Stands plan S

pub known_too : {A : Type 0} (plan : Plan) (m : Meaning A) → IsResolved plan → (run : List Event) → IsRunOf plan m run → KnownToo plan (state_after plan m run)
known_too plan m resolved run is_run = record { known = known_now plan m resolved run is_run; stands = stands_now plan m run resolved is_run }

pub works_at_each : {A : Type 0} (plan : Plan) (m : Meaning A) (run : List Event) → IsResolved plan → IsRunOf plan m run → (n : ℕ) → WorkKept plan (work_of (state_after plan m (take n run)))
works_at_each {A} plan m run resolved is_run n = each_place_by plan m (λ (S : State A). KnownToo plan S) (λ (S : State A). WorkKept plan (work_of S))
    (known_too plan m resolved) (opening_works plan m)
    (λ S e k h w.
    deeds_work plan (deeds plan S e) S (event_fits plan m S e h) (all_sound plan m S e k.known.facts.known h) (event_apt plan m S e k.known.facts.known.known h) (event_comes plan S resolved k.known.facts k.stands m e h) w)
    (λ S time w. w)
    run is_run n

pub works_now : {A : Type 0} (plan : Plan) (m : Meaning A) (run : List Event) → IsResolved plan → IsRunOf plan m run → WorkKept plan (work_of (state_after plan m run))
works_now {A} plan m run resolved is_run = at_the_end plan m (λ (S : State A). WorkKept plan (work_of S)) run (works_at_each plan m run resolved is_run (length run))

-- ---- a class has its function

-- the function of the objects of a class
abbrev pub function_for : Kind → Callback
function_for kind.Timer = callback.EvtTimerFunc
function_for kind.WorkItem = callback.EvtWorkItem
function_for _ = callback.EvtDpcFunc

has_function : (plan : Plan) (c : ℕ) (x : ClassInfo) → is_work_kind (class_kind x) ≡ true → classes_complete plan c (x ∷ []) ≡ true → has_script plan (function_for (class_kind x)) (declared.OfClass c) ≡ true
has_function plan c (class.Plain name plain.Object) w h = absurd (let z : ⊥ = cc in z)
has_function plan c (class.Deferred name deferred.Dpc parent serialize period) w h = both_left (has_script plan callback.EvtDpcFunc (declared.OfClass c)) true h
has_function plan c (class.Deferred name deferred.Timer parent serialize period) w h = both_left (has_script plan callback.EvtTimerFunc (declared.OfClass c)) true h
has_function plan c (class.Deferred name deferred.WorkItem parent serialize period) w h = both_left (has_script plan callback.EvtWorkItem (declared.OfClass c)) true h
has_function plan c _ w h = absurd (let z : ⊥ = cc in z)

first_complete : (plan : Plan) (k : ℕ) (x : ClassInfo) (xs : List ClassInfo) → classes_complete plan k (x ∷ xs) ≡ true → (classes_complete plan k (x ∷ []) ≡ true) × (classes_complete plan (suc k) xs ≡ true)
first_complete plan k (class.Plain name c) xs h = (refl, h)
first_complete plan k (class.Deferred name c parent serialize period) xs h = (
  both (has_script plan (function_of c) (declared.OfClass k)) true (both_left (has_script plan (function_of c) (declared.OfClass k)) (classes_complete plan (suc k) xs) h) refl,
  both_right (has_script plan (function_of c) (declared.OfClass k)) (classes_complete plan (suc k) xs) h,
)

complete_at : (plan : Plan) (xs : List ClassInfo) (k c : ℕ) (x : ClassInfo) → classes_complete plan k xs ≡ true → slice_get xs c ≡ Some x → classes_complete plan (k + c) (x ∷ []) ≡ true
complete_at plan [] k c x h at = absurd (let z : ⊥ = cc in z)
complete_at plan (y ∷ ys) k zero x h at =
    let same : y ≡ x = cc in
    let e : k + 0 ≡ k = omega arith in
    rw e (subst (λ z. classes_complete plan k (z ∷ []) ≡ true) same (first_complete plan k y ys h).0)
complete_at plan (y ∷ ys) k (suc c) x h at =
    let e : k + suc c ≡ suc k + c = omega arith in
    rw e (complete_at plan ys (suc k) c x (first_complete plan k y ys h).1 at)

class_has_by : (plan : Plan) (c : ℕ) (k : Kind) (o : Option ClassInfo) → IsResolved plan → slice_get plan.classes c ≡ o → is_work_kind k ≡ true → unwrap_or (option_map class_kind o) kind.General ≡ k → has_script plan (function_for k) (declared.OfClass c) ≡ true
class_has_by plan c k None resolved at w e = absurd (let off : is_work_kind k ≡ false = ap is_work_kind (sym e) in let z : ⊥ = cc in z)
class_has_by plan c k (Some x) resolved at w e =
    let start : 0 + c ≡ c = omega arith in
    let complete : classes_complete plan c (x ∷ []) ≡ true = subst (λ y. classes_complete plan y (x ∷ []) ≡ true) start (complete_at plan plan.classes 0 c x resolved.classes_complete at) in
    subst (λ y. has_script plan (function_for y) (declared.OfClass c) ≡ true) e (has_function plan c x (ap is_work_kind e ∙ w) complete)

class_has : (plan : Plan) (c : ℕ) (k : Kind) → IsResolved plan → is_work_kind k ≡ true → kind_of_class plan c ≡ k → has_script plan (function_for k) (declared.OfClass c) ≡ true
class_has plan c k resolved w e = class_has_by plan c k (slice_get plan.classes c) resolved refl w e

classed_is : (plan : Plan) (n : Node) (k : Kind) → n.kind ≡ k → is_work_kind k ≡ true → is_classed plan n ≡ true → kind_of_class plan n.class ≡ k
classed_is plan n k e w h =
    let t : (not (is_work_kind k) || same_kind (kind_of_class plan n.class) k) ≡ true = subst (λ y. (not (is_work_kind y) || same_kind (kind_of_class plan n.class) y) ≡ true) e h in
    (kind_decides (kind_of_class plan n.class) k).0 (by (is_work_kind k) w t)
  where
    by : (b : Bool) → b ≡ true → (not b || same_kind (kind_of_class plan n.class) k) ≡ true → same_kind (kind_of_class plan n.class) k ≡ true
    by true p t = t
    by false p t = absurd (let z : ⊥ = cc in z)

made_by_class : (plan : Plan) (n : Node) (o : ℕ) (k : Kind) → is_work_kind k ≡ true → made_as plan n o k ≡ Some (declared.OfClass n.class)
made_by_class plan n o kind.Dpc w = refl
made_by_class plan n o kind.Timer w = refl
made_by_class plan n o kind.WorkItem w = refl
made_by_class plan n o _ w = absurd (let z : ⊥ = cc in z)

-- a live object of such a kind has its function
pub ready_has : {A : Type 0} (plan : Plan) (S : State A) (k : Kind) (o : ℕ) → IsResolved plan → is_work_kind k ≡ true → is_classed plan (node_of S.tree o) ≡ true → ready_in k S.tree o ≡ true → has_callback plan S (function_for k) o ≡ true
ready_has plan S k o resolved w classed ready =
    let n : Node = node_of S.tree o in
    let live : is_live n.life ≡ true = both_left (is_live n.life) (same_kind n.kind k) ready in
    let e : n.kind ≡ k = (kind_decides n.kind k).0 (both_right (is_live n.life) (same_kind n.kind k) ready) in
    let script : has_script plan (function_for k) (declared.OfClass n.class) ≡ true = class_has plan n.class k resolved w (classed_is plan n k e w classed) in
    let told : made_as plan n o n.kind ≡ Some (declared.OfClass n.class) = ap (made_as plan n o) e ∙ made_by_class plan n o k w in
    both (is_live n.life) (declares_in plan S (function_for k) o) live (ap (λ x. is_some (script_on plan (function_for k) x)) told ∙ script)

pub work_may_run : {A : Type 0} (plan : Plan) (m : Meaning A) (run : List Event) → IsResolved plan → IsRunOf plan m run → WorkMayRun plan (state_after plan m run)
work_may_run {A} plan m run resolved is_run =
    let S : State A = state_after plan m run in
    let w : WorkKept plan (work_of S) = works_now plan m run resolved is_run in
    record {
      items = λ o h. ready_has plan S kind.WorkItem o resolved refl (w.classes o) (w.items o h);
      timers = λ o h. ready_has plan S kind.Timer o resolved refl (w.classes o) (w.timers o h);
    }
