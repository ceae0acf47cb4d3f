-- The handle of an object has a name of the plan.
use Rattle.std.proofs.Common.{◌≡◌, ℕ, zero, suc, ◌<◌, Bool, true, ◌&&◌, List, [], ◌∷◌, ◌++◌, Option, Some, None, length, map, drop, unwrap_or, option_map, slice_get, nat_le, nat_lt, refl, sym, subst, ◌∙◌, arith}
use Rattle.std.specs.List.{cons_option, filter_map, list_all}
use Rattle.std.proofs.lemmas.Bool.{and_parts, eqb-true, ltb-true}
use Rattle.std.proofs.lemmas.List.Folds.{list_all-append}
use Rattle.std.proofs.lemmas.Option.{slice_get_within}
use Rattle.wdf_base.specs.declared.plan.Plan.{Plan}
use Rattle.wdf_base.specs.declared.ids.Handle.{Handle}
use Rattle.wdf_base.specs.declared.object.Kind.{Kind}
use Rattle.wdf_base.specs.declared.object.Kind.TheVariants as kind
use Rattle.wdf_base.specs.declared.declared.Declared.{Declared}
use Rattle.wdf_base.specs.declared.declared.Declared.TheVariants as declared
use Rattle.wdf_base.specs.declared.declared.ClassInfo.{ClassInfo}
use Rattle.wdf_base.specs.Kinds.{class_name, declared_name}
use Rattle.wdf_base.specs.Plan.{declared_of}
use Rattle.wdf_base.specs.Resolved.{IsResolved, agent_name, apps, objects_in_order, register_name}
use Rattle.wdf_model.specs.declared.entries.Node.{Node}
use Rattle.wdf_model.specs.Plans.{as_interrupt, interrupt_of}
use Rattle.wdf_model.specs.parts.Pnp.{interrupt_name}
use Rattle.wdf_model.specs.parts.Tree.{kind_of, made_as, name_as, node_of}
use Rattle.wdf_model.specs.State.{State, handle_in, is_proper}

-- a number passes for a name that is used
abbrev is_used : Plan → ℕ → Bool
is_used plan n = nat_le 2 n && nat_lt n (length plan.names)

used_below : (plan : Plan) (n : ℕ) → is_used plan n ≡ true → n < length plan.names
used_below plan n h = ltb-true n (length plan.names) (and_parts (nat_le 2 n) (nat_lt n (length plan.names)) h).1

front_all : (p : ℕ → Bool) (xs ys : List ℕ) → list_all p (xs ++ ys) ≡ true → (list_all p xs ≡ true) × (list_all p ys ≡ true)
front_all p xs ys h = and_parts (list_all p xs) (list_all p ys) (sym (list_all-append p xs ys) ∙ h)

pub used_parts : (plan : Plan) → IsResolved plan → (list_all (is_used plan) (filter_map declared_name (drop 1 plan.declared)) ≡ true) × (list_all (is_used plan) (map class_name plan.classes) ≡ true)
used_parts plan h =
    let a = front_all (is_used plan) ((filter_map declared_name (drop 1 plan.declared) ++ map class_name plan.classes) ++ map register_name plan.registers) (map agent_name (apps plan)) h.names_there in
    let b = front_all (is_used plan) (filter_map declared_name (drop 1 plan.declared) ++ map class_name plan.classes) (map register_name plan.registers) a.0 in
    front_all (is_used plan) (filter_map declared_name (drop 1 plan.declared)) (map class_name plan.classes) b.0

pub some_name : (plan : Plan) → IsResolved plan → 1 < length plan.names
some_name plan h = slice_get_within plan.names 1 _ h.request_name

pub class_below : (plan : Plan) → IsResolved plan → (cs : List ClassInfo) (k : ℕ) → list_all (is_used plan) (map class_name cs) ≡ true → unwrap_or (option_map class_name (slice_get cs k)) 0 < length plan.names
class_below plan h [] k all = let n = some_name plan h in omega arith
class_below plan h (c ∷ cs) zero all = used_below plan (class_name c) (and_parts (is_used plan (class_name c)) (list_all (is_used plan) (map class_name cs)) all).0
class_below plan h (c ∷ cs) (suc k) all = class_below plan h cs k (and_parts (is_used plan (class_name c)) (list_all (is_used plan) (map class_name cs)) all).1

named_first : (plan : Plan) → IsResolved plan → (n : Option ℕ) (ns : List ℕ) → list_all (is_used plan) (cons_option n ns) ≡ true → (unwrap_or n 0 < length plan.names) × (list_all (is_used plan) ns ≡ true)
named_first plan h None ns all = (let n = some_name plan h in omega arith, all)
named_first plan h (Some n) ns all =
    let p = and_parts (is_used plan n) (list_all (is_used plan) ns) all in
    (used_below plan n p.0, p.1)

declared_below : (plan : Plan) → IsResolved plan → (ds : List Declared) (k : ℕ) (d : Declared) → list_all (is_used plan) (filter_map declared_name ds) ≡ true → slice_get ds k ≡ Some d → unwrap_or (declared_name d) 0 < length plan.names
declared_below plan h [] k d all at = absurd (let z : ⊥ = cc in z)
declared_below plan h (x ∷ xs) zero d all at =
    let same : x ≡ d = cc in
    subst (λ y. unwrap_or (declared_name y) 0 < length plan.names) same (named_first plan h (declared_name x) (filter_map declared_name xs) all).0
declared_below plan h (x ∷ xs) (suc k) d all at = declared_below plan h xs k d (named_first plan h (declared_name x) (filter_map declared_name xs) all).1 at

-- the name of a declared object
name_of_declared : (plan : Plan) → IsResolved plan → (ds : List Declared) → objects_in_order ds ≡ true → list_all (is_used plan) (filter_map declared_name (drop 1 ds)) ≡ true
    → (k : ℕ) (d : Declared) → slice_get ds k ≡ Some d → unwrap_or (declared_name d) 0 < length plan.names
name_of_declared plan h [] order all k d at = absurd (let z : ⊥ = cc in z)
name_of_declared plan h (declared.Driver ∷ ds) order all zero d at =
    let same : declared.Driver ≡ d = cc in
    subst (λ y. unwrap_or (declared_name y) 0 < length plan.names) same (let n = some_name plan h in omega arith)
name_of_declared plan h (declared.Device x ∷ ds) order all zero d at = absurd (let z : ⊥ = cc in z)
name_of_declared plan h (declared.Queue x ∷ ds) order all zero d at = absurd (let z : ⊥ = cc in z)
name_of_declared plan h (declared.Interrupt x ∷ ds) order all zero d at = absurd (let z : ⊥ = cc in z)
name_of_declared plan h (declared.Target x ∷ ds) order all zero d at = absurd (let z : ⊥ = cc in z)
name_of_declared plan h (declared.OfClass x ∷ ds) order all zero d at = absurd (let z : ⊥ = cc in z)
name_of_declared plan h (x ∷ ds) order all (suc k) d at = declared_below plan h ds k d all at

named_as : (plan : Plan) → IsResolved plan → (x : Option Declared) → ((d : Declared) → x ≡ Some d → unwrap_or (declared_name d) 0 < length plan.names) → name_as plan x < length plan.names
named_as plan h None k = some_name plan h
named_as plan h (Some (declared.OfClass c)) k = class_below plan h plan.classes c (used_parts plan h).1
named_as plan h (Some declared.Driver) k = k declared.Driver refl
named_as plan h (Some (declared.Device d)) k = k (declared.Device d) refl
named_as plan h (Some (declared.Queue d)) k = k (declared.Queue d) refl
named_as plan h (Some (declared.Interrupt d)) k = k (declared.Interrupt d) refl
named_as plan h (Some (declared.Target d)) k = k (declared.Target d) refl

pub at_id : (plan : Plan) → IsResolved plan → (o : ℕ) (d : Declared) → declared_of plan o ≡ Some d → unwrap_or (declared_name d) 0 < length plan.names
at_id plan h zero d at = absurd (let z : ⊥ = cc in z)
at_id plan h (suc k) d at = name_of_declared plan h plan.declared h.in_order (used_parts plan h).0 k d at

made_name : (plan : Plan) → IsResolved plan → (n : Node) (o : ℕ) (k : Kind) → name_as plan (made_as plan n o k) < length plan.names
made_name plan h n o kind.Request = some_name plan h
made_name plan h n o kind.Driver = named_as plan h (declared_of plan o) (at_id plan h o)
made_name plan h n o kind.Device = named_as plan h (declared_of plan o) (at_id plan h o)
made_name plan h n o kind.Queue = named_as plan h (declared_of plan o) (at_id plan h o)
made_name plan h n o kind.Interrupt = named_as plan h (declared_of plan o) (at_id plan h o)
made_name plan h n o kind.Target = named_as plan h (declared_of plan o) (at_id plan h o)
made_name plan h n o _ = class_below plan h plan.classes n.class (used_parts plan h).1

pub handle_name : {A : Type 0} (plan : Plan) (S : State A) → IsResolved plan → (o : ℕ) → (handle_in plan S o).name < length plan.names
handle_name plan S h o = made_name plan h (node_of S.tree o) o (kind_of S.tree o)

pub proper_name : {A : Type 0} (plan : Plan) (S : State A) → IsResolved plan → (o : Handle) → is_proper plan S o ≡ true → o.name < length plan.names
proper_name plan S h o proper =
    let same : o.name ≡ (handle_in plan S o.id.0).name = eqb-true o.name (handle_in plan S o.id.0).name proper in
    let below = handle_name plan S h o.id.0 in
    omega (arith, same, below)

named_interrupt : (plan : Plan) → IsResolved plan → (x : Option Declared) → ((d : Declared) → x ≡ Some d → unwrap_or (declared_name d) 0 < length plan.names) → interrupt_name (as_interrupt x) < length plan.names
named_interrupt plan h (Some (declared.Interrupt d)) k = k (declared.Interrupt d) refl
named_interrupt plan h _ k = let n = some_name plan h in omega arith

pub name_of_interrupt : (plan : Plan) → IsResolved plan → (i : ℕ) → interrupt_name (interrupt_of plan i) < length plan.names
name_of_interrupt plan h i = named_interrupt plan h (declared_of plan i) (at_id plan h i)
