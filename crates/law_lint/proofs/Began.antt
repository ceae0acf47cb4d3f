-- A frame's script is that of its callback, and belongs to its object.
use Rattle.std.proofs.Common.{◌≡◌, ℕ, zero, suc, ◌+◌, ◌==◌, ◌<◌, Bool, true, false, not, ◌&&◌, nat_lt, List, [], ◌∷◌, ◌++◌, drop, filter_map, length, map, option_map, position, Option, Some, None, is_some, slice_get, unwrap_or, refl, sym, ap, subst, ◌∙◌, arith, get_or}
use Rattle.std.specs.List.{list_any, position_or_len}
use Rattle.std.proofs.lemmas.Bool.{eqb-true}
use Rattle.std.proofs.lemmas.Bool.Decides.{nat_tests}
use Rattle.std.proofs.lemmas.Option.{slice_get_within, slice_get-get_or}
use Rattle.wdf_base.specs.declared.plan.Plan.{Plan}
use Rattle.wdf_base.specs.declared.object.Kind.{Kind}
use Rattle.wdf_base.specs.declared.object.Kind.TheVariants as kind
use Rattle.wdf_base.specs.declared.call.Callback.{Callback}
use Rattle.wdf_base.specs.declared.declared.Declared.{Declared}
use Rattle.wdf_base.specs.declared.declared.Declared.TheVariants as declared
use Rattle.wdf_base.specs.declared.declared.QueueInfo.{QueueInfo}
use Rattle.wdf_base.specs.declared.declared.Scope.{Scope}
use Rattle.wdf_base.specs.declared.declared.Scope.TheVariants as scope
use Rattle.wdf_base.specs.declared.frame.Frame.{Frame}
use Rattle.wdf_base.specs.declared.rank.Owner.{Owner}
use Rattle.wdf_base.specs.declared.rank.Owner.TheVariants as owner
use Rattle.wdf_base.specs.declared.script.Script.{Script}
use Rattle.wdf_base.specs.Callbacks.{row_of}
use Rattle.wdf_base.specs.Kinds.{declared_name, class_name}
use Rattle.wdf_base.specs.Plan.{declared_of, is_script_of}
use Rattle.wdf_base.specs.Resolved.{IsResolved, all_differ, owner_fits, script_fits, agent_name, apps, objects_in_order, register_name}
use Rattle.wdf_base.specs.Same.{same_callback, same_kind, same_irql, same_object_id}
use Rattle.wdf_base.specs.SamePlan.{same_declared, same_queue, same_scope}
use Rattle.wdf_model.specs.declared.entries.Node.{Node}
use Rattle.wdf_model.specs.Plans.{script_on, as_interrupt}
use Rattle.wdf_model.specs.parts.Tree.{kind_of, made_as, node_of}
use Rattle.wdf_model.specs.State.{State, declared_in}
use Rattle.wdf_model.proofs.Sames.{callback_decides}
use Rattle.wdf_model.proofs.Tests.{both_left, both_right, second}
use Rattle.wdf_lint.specs.Abstracts.{callback_of, id_of, owner_of}
use Rattle.wdf_lint.specs.Steps.{is_of_interrupt, is_scoped, is_scoped_queue}
use Rattle.law_lint.proofs.HeldAs.{is_interrupt}
use Rattle.wdf_base.specs.declared.declared.InterruptInfo.{InterruptInfo}
use Rattle.wdf_model.proofs.Counts.{equal}
use Rattle.std.proofs.lemmas.List.{append_assoc}
use Rattle.wdf_base.specs.declared.ids.Handle.{Handle}
use Rattle.std.proofs.lemmas.List.Quantifiers.{position-Some}
use Rattle.law_machine_lives.proofs.Lists.{all_at}
use Rattle.law_machine_lives.proofs.LevelCalls.{class_unlike}

-- a declared queue whose scope keeps its callbacks apart
pub record Scoped (plan : Plan) (o : ℕ) : Type 0 where
  pub queue : QueueInfo
  pub there : declared_of plan o ≡ Some (declared.Queue queue)
  pub scoped : is_scoped queue.scope ≡ true

pub record Began (plan : Plan) (frame : Frame) : Type 0 where
  pub callback : callback_of plan frame.script ≡ frame.callback
  -- in a resolved plan an interrupt's callback is on the interrupt that owns its script
  pub interrupt : IsResolved plan → is_of_interrupt (row_of frame.callback).owner ≡ true → (frame.object.id.0 ≡ id_of plan (owner_of plan frame.script)) × (is_interrupt plan frame.object.id.0 ≡ true)
  -- the callback of such a queue is on one
  pub queue : is_scoped_queue (owner_of plan frame.script) ≡ true → Scoped plan frame.object.id.0

-- what it speaks of is the same of another frame
pub record Alike (f g : Frame) : Type 0 where
  pub script : g.script ≡ f.script
  pub callback : g.callback ≡ f.callback
  pub object : g.object ≡ f.object
  pub request : g.request ≡ f.request

pub alike_itself : (f : Frame) → Alike f f
alike_itself f = record { script = refl; callback = refl; object = refl; request = refl }

pub alike_then : (f g h : Frame) → Alike f g → Alike g h → Alike f h
alike_then f g h a b = record { script = b.script ∙ a.script; callback = b.callback ∙ a.callback; object = b.object ∙ a.object; request = b.request ∙ a.request }

pub began_alike : (plan : Plan) (f g : Frame) → Alike f g → Began plan f → Began plan g
began_alike plan f g a b = record {
  callback = ap (callback_of plan) a.script ∙ b.callback ∙ sym a.callback;
  interrupt = λ res is.
      let old = b.interrupt res (ap (λ c. is_of_interrupt (row_of c).owner) (sym a.callback) ∙ is) in
      (ap (λ (o : Handle). o.id.0) a.object ∙ old.0 ∙ ap (λ k. id_of plan (owner_of plan k)) (sym a.script), ap (λ (o : Handle). is_interrupt plan o.id.0) a.object ∙ old.1);
  queue = λ is. subst (λ (o : Handle). Scoped plan o.id.0) (sym a.object) (b.queue (ap (λ k. is_scoped_queue (owner_of plan k)) (sym a.script) ∙ is));
}

-- ---- the only one of a list

place_is : {T : Type 0} (p : T → Bool) (xs : List T) (j : ℕ) (x : T) → slice_get xs j ≡ Some x → p x ≡ true → ((m : ℕ) (y : T) → slice_get xs m ≡ Some y → p y ≡ true → m ≡ j) → position_or_len p xs ≡ j
place_is p [] j x at is one = absurd (let z : ⊥ = cc in z)
place_is p (y ∷ ys) zero x at is one = let same : y ≡ x = cc in let passes : p y ≡ true = ap p same ∙ is in rw passes refl
place_is {T} p (y ∷ ys) (suc j) x at is one = by (p y) refl (λ k. place_is p ys j x at is k)
  where
    by : (b : Bool) → p y ≡ b → (((m : ℕ) (w : T) → slice_get ys m ≡ Some w → p w ≡ true → m ≡ j) → position_or_len p ys ≡ j) → position_or_len p (y ∷ ys) ≡ suc j
    by true e rest = absurd (let z : 0 ≡ suc j = one 0 y refl e in let q : ⊥ = omega arith in q)
    by false e rest = rw e (ap (λ n. 1 + n) (rest (λ m w there passes. (let next : suc m ≡ suc j = one (suc m) w there passes in omega arith))) ∙ (let more : 1 + j ≡ suc j = omega arith in more))

pub only_place : {T : Type 0} (p : T → Bool) (xs : List T) (j : ℕ) (x : T) → slice_get xs j ≡ Some x → p x ≡ true → ((m : ℕ) (y : T) → slice_get xs m ≡ Some y → p y ≡ true → m ≡ j) → position p xs ≡ Some j
only_place p xs j x at is one =
    let e : position_or_len p xs ≡ j = place_is p xs j x at is one in
    let within : j < length xs = slice_get_within xs j x at in
    let low : nat_lt j (length xs) ≡ true = grind (arith, nat_tests) in
    rw e (rw low refl)

-- ---- declared objects of one name are one

named_in : {T : Type 0} (f : T → Option ℕ) (xs : List T) (ys : List ℕ) (k n : ℕ) (x : T) → slice_get xs k ≡ Some x → f x ≡ Some n → list_any (◌==◌ n) (filter_map f xs ++ ys) ≡ true
named_in f [] ys k n x at is = absurd (let z : ⊥ = cc in z)
named_in f (y ∷ xs) ys zero n x at is =
    let same : f y ≡ Some n = (let e : y ≡ x = cc in ap f e ∙ is) in
    rw same (rw (equal n n refl) refl)
named_in f (y ∷ xs) ys (suc k) n x at is = by (f y) refl (named_in f xs ys k n x at is)
  where
    by : (o : Option ℕ) → f y ≡ o → list_any (◌==◌ n) (filter_map f xs ++ ys) ≡ true → list_any (◌==◌ n) (filter_map f (y ∷ xs) ++ ys) ≡ true
    by None e rest = rw e rest
    by (Some m) e rest = rw e (second (n == m) (list_any (◌==◌ n) (filter_map f xs ++ ys)) rest)

-- the name of the first isn't there again
first_again : {T : Type 0} (f : T → Option ℕ) (w : T) (xs : List T) (ys : List ℕ) → all_differ ◌==◌ (filter_map f (w ∷ xs) ++ ys) ≡ true → (k n : ℕ) (y : T) → slice_get xs k ≡ Some y → f w ≡ Some n → f y ≡ Some n → ⊥
first_again f w xs ys h k n y b same q =
    let there = named_in f xs ys k n y b q in
    let all : all_differ ◌==◌ (n ∷ filter_map f xs ++ ys) ≡ true = sym (differ_at same) ∙ h in
    let off = both_left (not (list_any (◌==◌ n) (filter_map f xs ++ ys))) (all_differ ◌==◌ (filter_map f xs ++ ys)) all in
    let on : not (list_any (◌==◌ n) (filter_map f xs ++ ys)) ≡ false = ap not there in
    let z : ⊥ = cc in z
  where
    differ_at : f w ≡ Some n → all_differ ◌==◌ (filter_map f (w ∷ xs) ++ ys) ≡ all_differ ◌==◌ (n ∷ filter_map f xs ++ ys)
    differ_at e = rw e refl

one_name : {T : Type 0} (f : T → Option ℕ) (xs : List T) (ys : List ℕ) → all_differ ◌==◌ (filter_map f xs ++ ys) ≡ true → (j k n : ℕ) (x y : T) → slice_get xs j ≡ Some x → slice_get xs k ≡ Some y → f x ≡ Some n → f y ≡ Some n → j ≡ k
one_name f [] ys h j k n x y a b p q = absurd (let z : ⊥ = cc in z)
one_name f (w ∷ xs) ys h zero zero n x y a b p q = refl
one_name f (w ∷ xs) ys h zero (suc k) n x y a b p q = absurd (first_again f w xs ys h k n y b (let e : w ≡ x = cc in ap f e ∙ p) q)
one_name f (w ∷ xs) ys h (suc j) zero n x y a b p q = absurd (first_again f w xs ys h j n x a (let e : w ≡ y = cc in ap f e ∙ q) p)
one_name f (w ∷ xs) ys h (suc j) (suc k) n x y a b p q = ap suc (one_name f xs ys (by (f w) refl) j k n x y a b p q)
  where
    by : (o : Option ℕ) → f w ≡ o → all_differ ◌==◌ (filter_map f xs ++ ys) ≡ true
    by None e = sym (none_at e) ∙ h
      where
        none_at : f w ≡ None → all_differ ◌==◌ (filter_map f (w ∷ xs) ++ ys) ≡ all_differ ◌==◌ (filter_map f xs ++ ys)
        none_at e = rw e refl
    by (Some m) e = both_right (not (list_any (◌==◌ m) (filter_map f xs ++ ys))) (all_differ ◌==◌ (filter_map f xs ++ ys)) (sym (some_at e) ∙ h)
      where
        some_at : f w ≡ Some m → all_differ ◌==◌ (filter_map f (w ∷ xs) ++ ys) ≡ all_differ ◌==◌ (m ∷ filter_map f xs ++ ys)
        some_at e = rw e refl

-- ---- the interrupt that owns a script

-- a declared interrupt of this name
abbrev IsNamed : Declared → ℕ → Type 0
IsNamed d n = declared_name d ≡ Some n

fits_interrupt : (plan : Plan) (d : Declared) → owner_fits plan (owner.Of kind.Interrupt) d ≡ true → (i : InterruptInfo) × (d ≡ declared.Interrupt i)
fits_interrupt plan (declared.Interrupt i) h = (i, refl)
fits_interrupt plan (declared.OfClass c) h = absurd (class_unlike (slice_get plan.classes c) h)
fits_interrupt plan declared.Driver h = absurd (let z : ⊥ = cc in z)
fits_interrupt plan (declared.Device d) h = absurd (let z : ⊥ = cc in z)
fits_interrupt plan (declared.Queue q) h = absurd (let z : ⊥ = cc in z)
fits_interrupt plan (declared.Target t) h = absurd (let z : ⊥ = cc in z)

interrupt_kind : (k : Kind) → same_kind k kind.Interrupt ≡ true → k ≡ kind.Interrupt
interrupt_kind kind.Interrupt h = refl
interrupt_kind _ h = absurd (let z : ⊥ = cc in z)

of_interrupt : (o : Owner) → is_of_interrupt o ≡ true → o ≡ owner.Of kind.Interrupt
of_interrupt (owner.Of k) h = ap owner.Of (interrupt_kind k h)
of_interrupt owner.ClassOrDevice h = absurd (let z : ⊥ = cc in z)

-- what is the same as an interrupt is one, of that name
like_interrupt : (i : InterruptInfo) (d : Declared) → same_declared (declared.Interrupt i) d ≡ true → (j : InterruptInfo) × (d ≡ declared.Interrupt j) × (j.name ≡ i.name)
like_interrupt i (declared.Interrupt j) h =
    (j, refl, sym (eqb-true i.name j.name (both_left (i.name == j.name) (same_object_id i.device j.device) (both_left (i.name == j.name && same_object_id i.device j.device) (same_irql i.level j.level) h))))
like_interrupt i declared.Driver h = absurd (let z : ⊥ = cc in z)
like_interrupt i (declared.Device d) h = absurd (let z : ⊥ = cc in z)
like_interrupt i (declared.Queue d) h = absurd (let z : ⊥ = cc in z)
like_interrupt i (declared.Target d) h = absurd (let z : ⊥ = cc in z)
like_interrupt i (declared.OfClass d) h = absurd (let z : ⊥ = cc in z)

-- what a declared interrupt is in the state, it is in the plan
made_interrupt : (plan : Plan) (n : Node) (o : ℕ) (k : Kind) (j : InterruptInfo) → made_as plan n o k ≡ Some (declared.Interrupt j) → declared_of plan o ≡ Some (declared.Interrupt j)
made_interrupt plan n o kind.Driver j h = h
made_interrupt plan n o kind.Device j h = h
made_interrupt plan n o kind.Queue j h = h
made_interrupt plan n o kind.Interrupt j h = h
made_interrupt plan n o kind.Target j h = h
made_interrupt plan n o _ j h = absurd (let z : ⊥ = cc in z)

-- the names of the declared objects behind the driver differ
behind_driver : (plan : Plan) → IsResolved plan → (j k n : ℕ) (x y : Declared) → slice_get plan.declared (suc j) ≡ Some x → slice_get plan.declared (suc k) ≡ Some y → declared_name x ≡ Some n → declared_name y ≡ Some n → j ≡ k
behind_driver plan resolved j k n x y a b p q = one_name declared_name (drop 1 plan.declared) (map class_name plan.classes ++ (map register_name plan.registers ++ map agent_name (apps plan))) names_ j k n x y (dropped plan.declared j x a) (dropped plan.declared k y b) p q
  where
    dropped : (ds : List Declared) (j : ℕ) (x : Declared) → slice_get ds (suc j) ≡ Some x → slice_get (drop 1 ds) j ≡ Some x
    dropped [] j x h = absurd (let z : ⊥ = cc in z)
    dropped (d ∷ ds) j x h = h

    names_ : all_differ ◌==◌ (filter_map declared_name (drop 1 plan.declared) ++ (map class_name plan.classes ++ (map register_name plan.registers ++ map agent_name (apps plan)))) ≡ true
    names_ = subst (λ ns. all_differ ◌==◌ ns ≡ true)
        (append_assoc (filter_map declared_name (drop 1 plan.declared) ++ map class_name plan.classes) (map register_name plan.registers) (map agent_name (apps plan))
        ∙ append_assoc (filter_map declared_name (drop 1 plan.declared)) (map class_name plan.classes) (map register_name plan.registers ++ map agent_name (apps plan)))
        resolved.names_used

-- the first declared object is the driver, which is no interrupt
not_first : (ds : List Declared) (i : InterruptInfo) → objects_in_order ds ≡ true → slice_get ds 0 ≡ Some (declared.Interrupt i) → ⊥
not_first [] i h at = let z : ⊥ = cc in z
not_first (declared.Driver ∷ ds) i h at = let z : ⊥ = cc in z
not_first (declared.Device d ∷ ds) i h at = let z : ⊥ = cc in z
not_first (declared.Queue d ∷ ds) i h at = let z : ⊥ = cc in z
not_first (declared.Interrupt d ∷ ds) i h at = let z : ⊥ = cc in z
not_first (declared.Target d ∷ ds) i h at = let z : ⊥ = cc in z
not_first (declared.OfClass d ∷ ds) i h at = let z : ⊥ = cc in z

-- the id of a declared interrupt is where it stands
interrupt_id : (plan : Plan) → IsResolved plan → (i j : InterruptInfo) (o : ℕ) → j.name ≡ i.name → same_declared (declared.Interrupt i) (declared.Interrupt j) ≡ true → declared_of plan o ≡ Some (declared.Interrupt j) → o ≡ id_of plan (declared.Interrupt i)
interrupt_id plan resolved i j zero named same h = absurd (let z : ⊥ = cc in z)
interrupt_id plan resolved i j (suc zero) named same h = absurd (not_first plan.declared j resolved.in_order h)
interrupt_id plan resolved i j (suc (suc k)) named same h =
    let at : position (same_declared (declared.Interrupt i)) plan.declared ≡ Some (suc k) = only_place (same_declared (declared.Interrupt i)) plan.declared (suc k) (declared.Interrupt j) h same one in
    let is : suc (suc k) ≡ suc k + 1 = omega arith in
    is ∙ sym (ap (λ o. unwrap_or (option_map (λ n. n + 1) o) 0) at)
  where
    one : (m : ℕ) (y : Declared) → slice_get plan.declared m ≡ Some y → same_declared (declared.Interrupt i) y ≡ true → m ≡ suc k
    one zero y there passes = let l = like_interrupt i y passes in absurd (not_first plan.declared l.0 resolved.in_order (there ∙ ap Some l.1))
    one (suc m) y there passes =
        let l = like_interrupt i y passes in
        ap suc (behind_driver plan resolved m k i.name y (declared.Interrupt j) there h (ap declared_name l.1 ∙ ap Some l.2) (ap Some named))

-- ---- a callback begins

abbrev pub FoundAt : {T : Type 0} → (T → Bool) → List T → ℕ → Type 0
FoundAt {T} p xs k = (x : T) × (slice_get xs k ≡ Some x) × (p x ≡ true)

pub found_by : {T : Type 0} (p : T → Bool) (xs : List T) (k : ℕ) → position p xs ≡ Some k → FoundAt p xs k
found_by p [] k h = absurd (let z : ⊥ = cc in z)
found_by p (x ∷ xs) k h = let q = position-Some p (x ∷ xs) k x h in (get_or (x ∷ xs) k x, slice_get-get_or (x ∷ xs) k x q.0, q.1)

owner_here : (plan : Plan) (k : ℕ) (s : Script) → slice_get plan.scripts k ≡ Some s → owner_of plan k ≡ s.owner
owner_here plan k s at = ap (λ (o : Option Script). unwrap_or (option_map (λ (x : Script). x.owner) o) declared.Driver) at

-- ---- the queue that owns a script

scoped_like : (s t : Scope) → same_scope s t ≡ true → is_scoped s ≡ true → is_scoped t ≡ true
scoped_like s scope.PerDevice same is = refl
scoped_like s scope.PerQueue same is = refl
scoped_like scope.PerDevice scope.Unscoped same is = absurd (let z : ⊥ = cc in z)
scoped_like scope.PerQueue scope.Unscoped same is = absurd (let z : ⊥ = cc in z)
scoped_like scope.Unscoped scope.Unscoped same is = is

queues_scope : (a b : QueueInfo) → same_queue a b ≡ true → same_scope a.scope b.scope ≡ true
queues_scope a b h = both_right _ (same_scope a.scope b.scope) (both_left (_ && same_scope a.scope b.scope) _ h)

-- what is the same as such a queue is one
like_scoped : (a b : Declared) → same_declared a b ≡ true → is_scoped_queue a ≡ true → (q : QueueInfo) × (b ≡ declared.Queue q) × (is_scoped q.scope ≡ true)
like_scoped (declared.Queue i) (declared.Queue j) same is = (j, refl, scoped_like i.scope j.scope (queues_scope i j same) is)
like_scoped (declared.Queue i) declared.Driver same is = absurd (let z : ⊥ = cc in z)
like_scoped (declared.Queue i) (declared.Device d) same is = absurd (let z : ⊥ = cc in z)
like_scoped (declared.Queue i) (declared.Interrupt d) same is = absurd (let z : ⊥ = cc in z)
like_scoped (declared.Queue i) (declared.Target d) same is = absurd (let z : ⊥ = cc in z)
like_scoped (declared.Queue i) (declared.OfClass d) same is = absurd (let z : ⊥ = cc in z)
like_scoped declared.Driver b same is = absurd (let z : ⊥ = cc in z)
like_scoped (declared.Device d) b same is = absurd (let z : ⊥ = cc in z)
like_scoped (declared.Interrupt d) b same is = absurd (let z : ⊥ = cc in z)
like_scoped (declared.Target d) b same is = absurd (let z : ⊥ = cc in z)
like_scoped (declared.OfClass d) b same is = absurd (let z : ⊥ = cc in z)

-- what a declared queue is in the state, it is in the plan
made_queue : (plan : Plan) (n : Node) (o : ℕ) (k : Kind) (j : QueueInfo) → made_as plan n o k ≡ Some (declared.Queue j) → declared_of plan o ≡ Some (declared.Queue j)
made_queue plan n o kind.Driver j h = h
made_queue plan n o kind.Device j h = h
made_queue plan n o kind.Queue j h = h
made_queue plan n o kind.Interrupt j h = h
made_queue plan n o kind.Target j h = h
made_queue plan n o _ j h = absurd (let z : ⊥ = cc in z)

pub queue_began : {A : Type 0} (plan : Plan) (S : State A) (c : Callback) (o k : ℕ) → script_on plan c (declared_in plan S o) ≡ Some k → is_scoped_queue (owner_of plan k) ≡ true → Scoped plan o
queue_began plan S c o k found is = by (declared_in plan S o) refl found
  where
    by : (d : Option Declared) → declared_in plan S o ≡ d → script_on plan c d ≡ Some k → Scoped plan o
    by None e h = absurd (let z : ⊥ = cc in z)
    by (Some d) e h =
        let f = found_by (is_script_of c d) plan.scripts k h in
        let s : Script = f.0 in
        let own : is_scoped_queue s.owner ≡ true = ap is_scoped_queue (sym (owner_here plan k s f.1)) ∙ is in
        let q = like_scoped s.owner d (both_right (same_callback s.callback c) (same_declared s.owner d) f.2) own in
        record { queue = q.0; there = made_queue plan (node_of S.tree o) o (kind_of S.tree o) q.0 (e ∙ ap Some q.1); scoped = q.2 }

own_id : (plan : Plan) (k : ℕ) (s : Script) (i : InterruptInfo) → slice_get plan.scripts k ≡ Some s → s.owner ≡ declared.Interrupt i → id_of plan (declared.Interrupt i) ≡ id_of plan (owner_of plan k)
own_id plan k s i at is = ap (id_of plan) (sym is) ∙ sym (ap (id_of plan) (owner_here plan k s at))

pub interrupt_began : {A : Type 0} (plan : Plan) (S : State A) (c : Callback) (o k : ℕ) → IsResolved plan → script_on plan c (declared_in plan S o) ≡ Some k → is_of_interrupt (row_of c).owner ≡ true → (o ≡ id_of plan (owner_of plan k)) × (is_interrupt plan o ≡ true)
interrupt_began plan S c o k resolved found is = by (declared_in plan S o) refl found
  where
    by : (d : Option Declared) → declared_in plan S o ≡ d → script_on plan c d ≡ Some k → (o ≡ id_of plan (owner_of plan k)) × (is_interrupt plan o ≡ true)
    by None e h = absurd (let z : ⊥ = cc in z)
    by (Some d) e h =
        let f = found_by (is_script_of c d) plan.scripts k h in
        let s : Script = f.0 in
        let same : s.callback ≡ c = (callback_decides s.callback c).0 (both_left (same_callback s.callback c) (same_declared s.owner d) f.2) in
        let fit : script_fits plan s ≡ true = all_at (script_fits plan) plan.scripts k s resolved.scripts_fit f.1 in
        let own : owner_fits plan (row_of s.callback).owner s.owner ≡ true = both_left (owner_fits plan (row_of s.callback).owner s.owner) _ fit in
        let of_it : owner_fits plan (owner.Of kind.Interrupt) s.owner ≡ true = subst (λ x. owner_fits plan x s.owner ≡ true) (of_interrupt (row_of c).owner is) (subst (λ x. owner_fits plan (row_of x).owner s.owner ≡ true) same own) in
        let i = fits_interrupt plan s.owner of_it in
        let alike : same_declared (declared.Interrupt i.0) d ≡ true = subst (λ x. same_declared x d ≡ true) i.1 (both_right (same_callback s.callback c) (same_declared s.owner d) f.2) in
        let l = like_interrupt i.0 d alike in
        let stands : declared_of plan o ≡ Some (declared.Interrupt l.0) = made_interrupt plan (node_of S.tree o) o (kind_of S.tree o) l.0 (e ∙ ap Some l.1) in (
          interrupt_id plan resolved i.0 l.0 o l.2 (subst (λ x. same_declared (declared.Interrupt i.0) x ≡ true) l.1 alike) stands ∙ own_id plan k s i.0 f.1 i.1,
          ap (λ x. is_some (as_interrupt x)) stands,
        )
