-- A resolved plan has names that a line can be read by.
use Rattle.std.proofs.Common.{◌≡◌, ℕ, zero, suc, ◌==◌, ◌<◌, ◌≤◌, ◌^◌, Bool, true, false, not, ◌&&◌, List, [], ◌∷◌, ◌++◌, length, map, take, drop, get_or, refl, sym, ap, ◌∙◌, subst, arith, inl, inr, ◌⊎◌, leb, ltb, unwrap_or}
use Rattle.std.specs.List.{list_all, list_any, filter_map}
use Rattle.std.specs.Str.{bytes_eq}
use Rattle.std.proofs.lemmas.Bool.{and_parts, not-true, eq-eqb, both_ways, leb-true, ltb-true, or_parts}
use Rattle.std.proofs.lemmas.List.Sums.{AllPass-from_list_all}
use Rattle.wdf_base.specs.declared.plan.Plan.{Plan}
use Rattle.wdf_base.specs.declared.declared.Declared.{Declared}
use Rattle.wdf_base.specs.declared.declared.Declared.TheVariants as declared
use Rattle.wdf_base.specs.Kinds.{declared_name, class_name}
use Rattle.wdf_base.specs.Resolved.{all_differ, is_name, is_reserved, device_name, target_name, posting_names, app_count, apps, agent_name, register_name, used_names, objects_in_order, IsResolved}
use Rattle.wdf_lines.specs.Lines.{name_text}
use Rattle.wdf_trace.specs.Reading.{is_name_with}
use Rattle.wdf_trace.proofs.NameLaws.{IsNamedBy, HasNames, same_bytes, first_place}

-- ---- lists without a number twice

-- n is one of the numbers
abbrev pub In : ℕ → List ℕ → Type 0
In n [] = ⊥
In n (x ∷ xs) = (n ≡ x) ⊎ In n xs

-- no number comes twice
abbrev pub Unique : List ℕ → Type 0
Unique [] = Unit {0}
Unique (x ∷ xs) = (In x xs → ⊥) × Unique xs

in_left : (n : ℕ) (xs ys : List ℕ) → In n xs → In n (xs ++ ys)
in_left n [] ys h = absurd h
in_left n (x ∷ xs) ys h = elim h [ inl e ↦ inl e | inr k ↦ inr (in_left n xs ys k) ]

in_right : (n : ℕ) (xs ys : List ℕ) → In n ys → In n (xs ++ ys)
in_right n [] ys h = h
in_right n (x ∷ xs) ys h = inr (in_right n xs ys h)

in_cases : (n : ℕ) (xs ys : List ℕ) → In n (xs ++ ys) → In n xs ⊎ In n ys
in_cases n [] ys h = inr h
in_cases n (x ∷ xs) ys h =
    elim h [ inl e ↦ inl (inl e) | inr k ↦ elim (in_cases n xs ys k) [ inl a ↦ inl (inr a) | inr b ↦ inr b ] ]

unique_left : (xs ys : List ℕ) → Unique (xs ++ ys) → Unique xs
unique_left [] ys h = tt
unique_left (x ∷ xs) ys h = (λ k. h.0 (in_left x xs ys k), unique_left xs ys h.1)

unique_right : (xs ys : List ℕ) → Unique (xs ++ ys) → Unique ys
unique_right [] ys h = h
unique_right (x ∷ xs) ys h = unique_right xs ys h.1

unique_apart : (xs ys : List ℕ) → Unique (xs ++ ys) → (n : ℕ) → In n xs → In n ys → ⊥
unique_apart [] ys h n k l = k
unique_apart (x ∷ xs) ys h n k l =
    elim k [
      | inl e ↦ (let P : ℕ → Type 0 = λ m. In m ys in h.0 (in_right x xs ys (subst P e l)))
      | inr r ↦ unique_apart xs ys h.1 n r l
    ]

unique_join : (xs ys : List ℕ) → Unique xs → Unique ys → ((n : ℕ) → In n xs → In n ys → ⊥) → Unique (xs ++ ys)
unique_join [] ys h k apart = k
unique_join (x ∷ xs) ys h k apart = (
  λ l. elim (in_cases x xs ys l) [ inl a ↦ h.0 a | inr b ↦ apart x (inl refl) b ],
  unique_join xs ys h.1 k (λ n a b. apart n (inr a) b),
)

-- a number that no test finds isn't there
not_in : (n : ℕ) (xs : List ℕ) → list_any (λ y. n == y) xs ≡ false → In n xs → ⊥
not_in n [] h k = k
not_in n (x ∷ xs) h k =
    let p = or_parts (n == x) (list_any (λ y. n == y) xs) h in
    elim k [ inl e ↦ both_ways (n == x) p.0 (eq-eqb n x e) | inr l ↦ not_in n xs p.1 l ]

unique_from : (xs : List ℕ) → all_differ ◌==◌ xs ≡ true → Unique xs
unique_from [] h = tt
unique_from (x ∷ xs) h =
    let p = and_parts (not (list_any (◌==◌ x) xs)) (all_differ ◌==◌ xs) h in
    (not_in x xs (not-true (list_any (◌==◌ x) xs) p.0), unique_from xs p.1)

-- a number that is there passes what all pass
in_passes : (p : ℕ → Bool) (n : ℕ) (xs : List ℕ) → list_all p xs ≡ true → In n xs → p n ≡ true
in_passes p n [] h k = absurd k
in_passes p n (x ∷ xs) h k =
    let q = and_parts (p x) (list_all p xs) h in
    elim k [ inl e ↦ ap p e ∙ q.0 | inr l ↦ in_passes p n xs q.1 l ]

-- ---- items by their numbers

in_map : {T : Type 0} (f : T → ℕ) (xs : List T) (k : ℕ) (d : T) → k < length xs → In (f (get_or xs k d)) (map f xs)
in_map f [] k d h = absurd (omega arith)
in_map f (x ∷ xs) zero d h = inl refl
in_map f (x ∷ xs) (suc k) d h = inr (in_map f xs k d (omega arith))

unique_places : {T : Type 0} (f : T → ℕ) (xs : List T) → Unique (map f xs) → (j k : ℕ) (d : T) → j < k → k < length xs → f (get_or xs j d) ≡ f (get_or xs k d) → ⊥
unique_places f [] h j k d below within e = absurd (omega arith)
unique_places f (x ∷ xs) h j zero d below within e = absurd (omega arith)
unique_places f (x ∷ xs) h zero (suc k) d below within e =
    let P : ℕ → Type 0 = λ n. In n (map f xs) in
    h.0 (subst P (sym e) (in_map f xs k d (omega arith)))
unique_places f (x ∷ xs) h (suc j) (suc k) d below within e = unique_places f xs h.1 j k d (omega arith) (omega arith) e

named_by : {T : Type 0} (plan : Plan) (f : T → ℕ) (xs : List T) → Unique (map f xs) → ((n : ℕ) → In n (map f xs) → n < length plan.names) → IsNamedBy T plan f xs
named_by plan f xs unique there = record {
  there = λ k d within. there (f (get_or xs k d)) (in_map f xs k d within);
  apart = unique_places f xs unique;
}

-- ---- the names of devices and targets are among those of what is declared

device_declared : (n : ℕ) (ds : List Declared) → In n (filter_map device_name ds) → In n (filter_map declared_name ds)
device_declared n [] h = h
device_declared n (declared.Driver ∷ ds) h = inr (device_declared n ds h)
device_declared n (declared.Device d ∷ ds) h = elim h [ inl e ↦ inl e | inr k ↦ inr (device_declared n ds k) ]
device_declared n (declared.Queue q ∷ ds) h = inr (device_declared n ds h)
device_declared n (declared.Interrupt i ∷ ds) h = inr (device_declared n ds h)
device_declared n (declared.Target t ∷ ds) h = inr (device_declared n ds h)
device_declared n (declared.OfClass c ∷ ds) h = device_declared n ds h

target_declared : (n : ℕ) (ds : List Declared) → In n (filter_map target_name ds) → In n (filter_map declared_name ds)
target_declared n [] h = h
target_declared n (declared.Driver ∷ ds) h = inr (target_declared n ds h)
target_declared n (declared.Device d ∷ ds) h = inr (target_declared n ds h)
target_declared n (declared.Queue q ∷ ds) h = inr (target_declared n ds h)
target_declared n (declared.Interrupt i ∷ ds) h = inr (target_declared n ds h)
target_declared n (declared.Target t ∷ ds) h = elim h [ inl e ↦ inl e | inr k ↦ inr (target_declared n ds k) ]
target_declared n (declared.OfClass c ∷ ds) h = target_declared n ds h

devices_unique : (ds : List Declared) → Unique (filter_map declared_name ds) → Unique (filter_map device_name ds)
devices_unique [] h = tt
devices_unique (declared.Driver ∷ ds) h = devices_unique ds h.1
devices_unique (declared.Device d ∷ ds) h = (λ k. h.0 (device_declared d.name ds k), devices_unique ds h.1)
devices_unique (declared.Queue q ∷ ds) h = devices_unique ds h.1
devices_unique (declared.Interrupt i ∷ ds) h = devices_unique ds h.1
devices_unique (declared.Target t ∷ ds) h = devices_unique ds h.1
devices_unique (declared.OfClass c ∷ ds) h = devices_unique ds h

targets_unique : (ds : List Declared) → Unique (filter_map declared_name ds) → Unique (filter_map target_name ds)
targets_unique [] h = tt
targets_unique (declared.Driver ∷ ds) h = targets_unique ds h.1
targets_unique (declared.Device d ∷ ds) h = targets_unique ds h.1
targets_unique (declared.Queue q ∷ ds) h = targets_unique ds h.1
targets_unique (declared.Interrupt i ∷ ds) h = targets_unique ds h.1
targets_unique (declared.Target t ∷ ds) h = (λ k. h.0 (target_declared t.name ds k), targets_unique ds h.1)
targets_unique (declared.OfClass c ∷ ds) h = targets_unique ds h

-- no device has the name of a target
devices_apart : (ds : List Declared) → Unique (filter_map declared_name ds) → (n : ℕ) → In n (filter_map device_name ds) → In n (filter_map target_name ds) → ⊥
devices_apart [] h n k l = k
devices_apart (declared.Driver ∷ ds) h n k l = devices_apart ds h.1 n k l
devices_apart (declared.Device d ∷ ds) h n k l =
    elim k [
      | inl e ↦ (let P : ℕ → Type 0 = λ m. In m (filter_map declared_name ds) in h.0 (subst P e (target_declared n ds l)))
      | inr r ↦ devices_apart ds h.1 n r l
    ]
devices_apart (declared.Queue q ∷ ds) h n k l = devices_apart ds h.1 n k l
devices_apart (declared.Interrupt i ∷ ds) h n k l = devices_apart ds h.1 n k l
devices_apart (declared.Target t ∷ ds) h n k l =
    elim l [
      | inl e ↦ (let P : ℕ → Type 0 = λ m. In m (filter_map declared_name ds) in h.0 (subst P e (device_declared n ds k)))
      | inr r ↦ devices_apart ds h.1 n k r
    ]
devices_apart (declared.OfClass c ∷ ds) h n k l = devices_apart ds h n k l

posting_unique : (ds : List Declared) → Unique (filter_map declared_name ds) → Unique (filter_map device_name ds ++ filter_map target_name ds)
posting_unique ds h = unique_join (filter_map device_name ds) (filter_map target_name ds) (devices_unique ds h) (targets_unique ds h) (devices_apart ds h)

posting_declared : (n : ℕ) (ds : List Declared) → In n (filter_map device_name ds ++ filter_map target_name ds) → In n (filter_map declared_name ds)
posting_declared n ds h =
    elim (in_cases n (filter_map device_name ds) (filter_map target_name ds) h) [ inl a ↦ device_declared n ds a | inr b ↦ target_declared n ds b ]

-- ---- a resolved plan

-- the driver object is neither a device nor a target
posting_rest : (ds : List Declared) → objects_in_order ds ≡ true → (filter_map device_name ds ++ filter_map target_name ds) ≡ filter_map device_name (drop 1 ds) ++ filter_map target_name (drop 1 ds)
posting_rest [] h = absurd (let z : ⊥ = cc in z)
posting_rest (declared.Driver ∷ ds) h = refl
posting_rest (declared.Device d ∷ ds) h = absurd (let z : ⊥ = cc in z)
posting_rest (declared.Queue q ∷ ds) h = absurd (let z : ⊥ = cc in z)
posting_rest (declared.Interrupt i ∷ ds) h = absurd (let z : ⊥ = cc in z)
posting_rest (declared.Target t ∷ ds) h = absurd (let z : ⊥ = cc in z)
posting_rest (declared.OfClass c ∷ ds) h = absurd (let z : ⊥ = cc in z)

-- a list of numbers in two parts
map_split : {T : Type 0} (f : T → ℕ) (n : ℕ) (xs : List T) → map f xs ≡ map f (take n xs) ++ drop n (map f xs)
map_split f zero [] = refl
map_split f (suc n) [] = refl
map_split f zero (x ∷ xs) = refl
map_split f (suc n) (x ∷ xs) = ap (λ t. f x ∷ t) (map_split f n xs)

any_at : {T : Type 0} (p : T → Bool) (xs : List T) (k : ℕ) (d : T) → list_any p xs ≡ false → k < length xs → p (get_or xs k d) ≡ false
any_at p [] k d h within = absurd (omega arith)
any_at p (x ∷ xs) zero d h within = (or_parts (p x) (list_any p xs) h).0
any_at p (x ∷ xs) (suc k) d h within = any_at p xs k d (or_parts (p x) (list_any p xs) h).1 (omega arith)

-- no two items at two places are one
differ_at : {T : Type 0} (same : T → T → Bool) (xs : List T) (j k : ℕ) (d : T) → all_differ same xs ≡ true → j < k → k < length xs → same (get_or xs j d) (get_or xs k d) ≡ false
differ_at same [] j k d h below within = absurd (omega arith)
differ_at same (x ∷ xs) j zero d h below within = absurd (omega arith)
differ_at same (x ∷ xs) zero (suc k) d h below within =
    any_at (same x) xs k d (not-true (list_any (same x) xs) (and_parts (not (list_any (same x) xs)) (all_differ same xs) h).0) (omega arith)
differ_at same (x ∷ xs) (suc j) (suc k) d h below within =
    differ_at same xs j k d (and_parts (not (list_any (same x) xs)) (all_differ same xs) h).1 (omega arith) (omega arith)

-- what all but the first two pass
past_two : (p : List ℕ → Bool) (xs : List (List ℕ)) (n : ℕ) → list_all p (drop 2 xs) ≡ true → 2 ≤ n → n < length xs → p (get_or xs n []) ≡ true
past_two p [] n h low within = absurd (omega arith)
past_two p (x ∷ []) n h low within = absurd (omega arith)
past_two p (x ∷ y ∷ xs) zero h low within = absurd (omega arith)
past_two p (x ∷ y ∷ xs) (suc zero) h low within = absurd (omega arith)
past_two p (x ∷ y ∷ xs) (suc (suc n)) h low within = AllPass-from_list_all p xs h n [] (omega arith)

-- ---- the parts of the names that are used

abbrev pub objects_part : Plan → List ℕ
objects_part plan = filter_map declared_name (drop 1 plan.declared)

abbrev pub classes_part : Plan → List ℕ
classes_part plan = map class_name plan.classes

abbrev pub registers_part : Plan → List ℕ
registers_part plan = map register_name plan.registers

abbrev pub apps_part : Plan → List ℕ
apps_part plan = map agent_name (apps plan)

used_unique : (plan : Plan) → IsResolved plan → Unique (used_names plan)
used_unique plan h = unique_from (used_names plan) h.names_used

-- the numbers of used names are those of declared names
used_range : (plan : Plan) → IsResolved plan → (n : ℕ) → In n (used_names plan) → (2 ≤ n) × (n < length plan.names)
used_range plan h n k =
    let p = and_parts (leb 2 n) (ltb n (length plan.names)) (in_passes (λ m. leb 2 m && ltb m (length plan.names)) n (used_names plan) h.names_there k) in
    (leb-true 2 n p.0, ltb-true n (length plan.names) p.1)

in_objects : (plan : Plan) (n : ℕ) → In n (objects_part plan) → In n (used_names plan)
in_objects plan n k =
    in_left n ((objects_part plan ++ classes_part plan) ++ registers_part plan) (apps_part plan)
    (in_left n (objects_part plan ++ classes_part plan) (registers_part plan) (in_left n (objects_part plan) (classes_part plan) k))

in_classes : (plan : Plan) (n : ℕ) → In n (classes_part plan) → In n (used_names plan)
in_classes plan n k =
    in_left n ((objects_part plan ++ classes_part plan) ++ registers_part plan) (apps_part plan)
    (in_left n (objects_part plan ++ classes_part plan) (registers_part plan) (in_right n (objects_part plan) (classes_part plan) k))

in_registers : (plan : Plan) (n : ℕ) → In n (registers_part plan) → In n (used_names plan)
in_registers plan n k =
    in_left n ((objects_part plan ++ classes_part plan) ++ registers_part plan) (apps_part plan) (in_right n (objects_part plan ++ classes_part plan) (registers_part plan) k)

in_apps : (plan : Plan) (n : ℕ) → In n (apps_part plan) → In n (used_names plan)
in_apps plan n k = in_right n ((objects_part plan ++ classes_part plan) ++ registers_part plan) (apps_part plan) k

objects_unique : (plan : Plan) → IsResolved plan → Unique (objects_part plan)
objects_unique plan h =
    unique_left (objects_part plan) (classes_part plan) (unique_left (objects_part plan ++ classes_part plan) (registers_part plan) (unique_left ((objects_part plan ++ classes_part plan) ++ registers_part plan) (apps_part plan) (used_unique plan h)))

classes_unique : (plan : Plan) → IsResolved plan → Unique (classes_part plan)
classes_unique plan h =
    unique_right (objects_part plan) (classes_part plan) (unique_left (objects_part plan ++ classes_part plan) (registers_part plan) (unique_left ((objects_part plan ++ classes_part plan) ++ registers_part plan) (apps_part plan) (used_unique plan h)))

registers_unique : (plan : Plan) → IsResolved plan → Unique (registers_part plan)
registers_unique plan h =
    unique_right (objects_part plan ++ classes_part plan) (registers_part plan) (unique_left ((objects_part plan ++ classes_part plan) ++ registers_part plan) (apps_part plan) (used_unique plan h))

apps_unique : (plan : Plan) → IsResolved plan → Unique (apps_part plan)
apps_unique plan h = unique_right ((objects_part plan ++ classes_part plan) ++ registers_part plan) (apps_part plan) (used_unique plan h)

-- ---- the agents are the apps, then the devices, then the targets

posting_objects : (plan : Plan) → IsResolved plan → (n : ℕ) → In n (posting_names plan) → In n (objects_part plan)
posting_objects plan h n k =
    let P : List ℕ → Type 0 = λ t. In n t in
    posting_declared n (drop 1 plan.declared) (subst P (posting_rest plan.declared h.in_order) k)

posting_names_unique : (plan : Plan) → IsResolved plan → Unique (posting_names plan)
posting_names_unique plan h =
    subst Unique (sym (posting_rest plan.declared h.in_order)) (posting_unique (drop 1 plan.declared) (objects_unique plan h))

agents_split : (plan : Plan) → IsResolved plan → map agent_name plan.agents ≡ apps_part plan ++ posting_names plan
agents_split plan h =
    map_split agent_name (app_count plan) plan.agents ∙ ap (λ t. apps_part plan ++ t) h.agents_end

agents_unique : (plan : Plan) → IsResolved plan → Unique (map agent_name plan.agents)
agents_unique plan h =
    subst Unique (sym (agents_split plan h))
    (unique_join (apps_part plan) (posting_names plan) (apps_unique plan h) (posting_names_unique plan h)
    (λ n a b. unique_apart ((objects_part plan ++ classes_part plan) ++ registers_part plan) (apps_part plan) (used_unique plan h) n
    (in_left n (objects_part plan ++ classes_part plan) (registers_part plan) (in_left n (objects_part plan) (classes_part plan) (posting_objects plan h n b))) a))

in_agents : (plan : Plan) → IsResolved plan → (n : ℕ) → In n (map agent_name plan.agents) → In n (used_names plan)
in_agents plan h n k =
    let P : List ℕ → Type 0 = λ t. In n t in
    elim (in_cases n (apps_part plan) (posting_names plan) (subst P (agents_split plan h) k)) [
      | inl a ↦ in_apps plan n a
      | inr b ↦ in_objects plan n (posting_objects plan h n b)
    ]

-- ---- the whole

-- a declared name is none of the words that have a meaning of their own
free_name : (plan : Plan) → IsResolved plan → (n : ℕ) → In n (used_names plan) → is_reserved (name_text plan n) ≡ false
free_name plan h n k =
    let r = used_range plan h n k in
    not-true (is_reserved (name_text plan n)) (past_two (λ w. not (is_reserved w)) plan.names n h.names_free r.0 r.1)

few_declared : (plan : Plan) → IsResolved plan → length plan.declared < 2 ^ 32
few_declared plan h =
    let counted : length plan.declared ≤ plan.objects = leb-true (length plan.declared) plan.objects h.counted in
    let limit : plan.objects ≤ 4096 = leb-true plan.objects 4096 (and_parts (leb 1 plan.objects) (leb plan.objects 4096) h.objects).1 in
    omega arith

pub HasNames-resolved : (plan : Plan) → IsResolved plan → HasNames plan
HasNames-resolved plan h = record {
  plain = λ n within. AllPass-from_list_all is_name plan.names h.names_plain n [] within;
  back = λ n within. ap (λ o. unwrap_or o 0) (first_place (is_name_with (name_text plan n)) plan.names n [] within (same_bytes (name_text plan n)) (λ j below. differ_at bytes_eq plan.names j n [] h.names_differ below within));
  classes = named_by plan class_name plan.classes (classes_unique plan h) (λ n k. (used_range plan h n (in_classes plan n k)).1);
  registers = named_by plan register_name plan.registers (registers_unique plan h) (λ n k. (used_range plan h n (in_registers plan n k)).1);
  agents = named_by plan agent_name plan.agents (agents_unique plan h) (λ n k. (used_range plan h n (in_agents plan h n k)).1);
  class_free = λ k d within. free_name plan h (class_name (get_or plan.classes k d)) (in_classes plan (class_name (get_or plan.classes k d)) (in_map class_name plan.classes k d within));
  few = few_declared plan h;
  agent_free = λ k d within. free_name plan h (agent_name (get_or plan.agents k d)) (in_agents plan h (agent_name (get_or plan.agents k d)) (in_map agent_name plan.agents k d within));
}
