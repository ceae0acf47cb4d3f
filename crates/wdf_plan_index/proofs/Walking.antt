-- Walks over the scripts of one name, and over what belongs to one device.
use Rattle.std.proofs.Common.{◌≡◌, ◌≢◌, ℕ, zero, suc, ◌+◌, ◌-◌, ◌<◌, ◌≤◌, ◌==◌, ◌&&◌, Bool, true, false, List, [], ◌∷◌, length, map, filter, get_or, position, slice_get, slice_index, Option, Some, None, inl, inr, refl, sym, ap, ◌∙◌, subst, arith}
use Rattle.std.specs.List.{All, range_with_len}
use Rattle.std.proofs.lemmas.List.Elements.{All-filter}
use Rattle.std.proofs.lemmas.List.FromFn.{get_or-range_with_len, length-range_with_len}
use Rattle.std.proofs.lemmas.Bool.{cases_lt, eqb-true}
use Rattle.std.proofs.lemmas.Bool.Decides.{nat_tests}
use Rattle.std.proofs.lemmas.List.{length-map}
use Rattle.std.proofs.lemmas.Option.{slice_get_within}
use Rattle.wdf_base.specs.declared.call.Callback.{Callback}
use Rattle.wdf_base.specs.declared.declared.Declared.{Declared}
use Rattle.wdf_base.specs.declared.declared.Declared.TheVariants as declared
use Rattle.wdf_base.specs.declared.plan.Plan.{Plan}
use Rattle.wdf_base.specs.declared.script.Script.{Script}
use Rattle.wdf_base.specs.Plan.{declared_of, is_script_of}
use Rattle.wdf_base.specs.Same.{same_callback}
use Rattle.wdf_base.specs.SamePlan.{same_declared}
use Rattle.wdf_model.specs.Plans.{as_interrupt, as_queue, as_target, declared_ids, is_interrupt_of, is_queue_of, is_target_of, queue_of, queues_of}
use Rattle.wdf_plan_index.specs.Belongings.{ids_at, ids_of, is_of}
use Rattle.wdf_plan_index.specs.Keys.{belongs_to, device_over, devices_over, owner_name, script_name, script_names}
use Rattle.wdf_plan_index.specs.Places.{places_of}
use Rattle.wdf_plan_index.proofs.Finding.{first_place, no_place}
use Rattle.wdf_plan_index.specs.declared.belongings.Sort.{Sort}
use Rattle.wdf_plan_index.specs.declared.belongings.Sort.TheVariants as sort

-- ---- reading a mapped list

read_mapped : {T : Type 0} (f : T → ℕ) (xs : List T) (k : ℕ) (x : T) → slice_get xs k ≡ Some x → slice_index (map f xs) k ≡ f x
read_mapped f [] k x h = absurd (let z : ⊥ = cc in z)
read_mapped f (y ∷ ys) zero x h = let e : y ≡ x = cc in ap f e
read_mapped f (y ∷ ys) (suc k) x h = read_mapped f ys k x h

-- ---- scripts

-- what is declared alike has one name
same_name : (plan : Plan) (a b : Declared) → same_declared a b ≡ true → owner_name plan a ≡ owner_name plan b
same_name plan declared.Driver declared.Driver h = refl
same_name plan (declared.Device a) (declared.Device b) h = grind (arith, nat_tests)
same_name plan (declared.Queue a) (declared.Queue b) h = grind (arith, nat_tests)
same_name plan (declared.Interrupt a) (declared.Interrupt b) h = grind (arith, nat_tests)
same_name plan (declared.Target a) (declared.Target b) h = grind (arith, nat_tests)
same_name plan (declared.OfClass a) (declared.OfClass b) h = ap (λ c. owner_name plan (declared.OfClass c)) (eqb-true a b h)
same_name plan a b h = absurd (let z : ⊥ = cc in z)

other_by : (plan : Plan) (c : Bool) (a b : Declared) (same : Bool) → same_declared a b ≡ same → owner_name plan a ≢ owner_name plan b → (c && same_declared a b) ≡ false
other_by plan c a b true e h = absurd (h (same_name plan a b e))
other_by plan true a b false e h = e
other_by plan false a b false e h = refl

-- a script of another name isn't the one
other_script : (plan : Plan) (c : Callback) (owner : Declared) (s : Script) → script_name plan s ≢ owner_name plan owner → is_script_of c owner s ≡ false
other_script plan c owner s h = other_by plan (same_callback s.callback c) s.owner owner (same_declared s.owner owner) refl h

module _ (plan : Plan) (c : Callback) (owner : Declared) where
  -- no script below a place is the one
  abbrev HasNone : ℕ → Type 0
  HasNone n = (j : ℕ) (s : Script) → j < n → slice_get plan.scripts j ≡ Some s → is_script_of c owner s ≡ false

  -- The first of these places whose script is the one leads to it; where there is none, no script is the one.
  abbrev pub Leads : List ℕ → Type 0
  Leads [] = position (is_script_of c owner) plan.scripts ≡ None
  Leads (k ∷ ks) =
      (k < length plan.scripts)
      × ((s : Script) → slice_get plan.scripts k ≡ Some s → is_script_of c owner s ≡ true → position (is_script_of c owner) plan.scripts ≡ Some k)
      × ((s : Script) → slice_get plan.scripts k ≡ Some s → is_script_of c owner s ≡ false → Leads ks)

  none_more : (n : ℕ) → HasNone n → ((s : Script) → slice_get plan.scripts n ≡ Some s → is_script_of c owner s ≡ false) → HasNone (n + 1)
  none_more n before here j s l e = elim (cases_lt j n) as (λ _. is_script_of c owner s ≡ false) [
    | inl early ↦ before j s early e
    | inr late ↦
        let same : j ≡ n = omega arith in
        here s (subst (λ k. slice_get plan.scripts k ≡ Some s) same e)
  ]

  module _ (names : List ℕ) (is : names ≡ script_names plan) where
    long : length names ≡ length plan.scripts
    long = ap length is ∙ length-map plan.scripts (script_name plan)

    other_named : (n : ℕ) (s : Script) → (slice_index names n == owner_name plan owner) ≡ false → slice_get plan.scripts n ≡ Some s → is_script_of c owner s ≡ false
    other_named n s h e =
        let name : slice_index names n ≡ script_name plan s = ap (λ xs. slice_index xs n) is ∙ read_mapped (script_name plan) plan.scripts n s e in
        let other : slice_index names n ≢ owner_name plan owner = grind (arith, nat_tests) in
        other_script plan c owner s (λ z. other (name ∙ z))

    leads_by : (n : ℕ) (ks : List ℕ) (b : Bool) → (slice_index names n == owner_name plan owner) ≡ b → n < length names → HasNone n
        → (HasNone (n + 1) → Leads (filter (λ k. slice_index names k == owner_name plan owner) ks)) → Leads (filter (λ k. slice_index names k == owner_name plan owner) (n ∷ ks))
    leads_by n ks false e l before rest = rw e (rest (none_more n before (λ s at. other_named n s e at)))
    leads_by n ks true e l before rest =
        rw e (
          (let all = long in omega arith),
          (λ s at this. first_place (is_script_of c owner) plan.scripts n s before at this),
          (λ s at this. rest (none_more n before (λ x here. let same : x ≡ s = cc in ap (is_script_of c owner) same ∙ this))),
        )

    leads_from : (m n : ℕ) → n + m ≡ length names → HasNone n → Leads (filter (λ k. slice_index names k == owner_name plan owner) (range_with_len n m))
    leads_from zero n e before =
        let all = long in
        no_place (is_script_of c owner) plan.scripts (λ j s at. let l = slice_get_within plan.scripts j s at in before j s (omega arith) at)
    leads_from (suc m) n e before =
        leads_by n (range_with_len (n + 1) m) (slice_index names n == owner_name plan owner) refl (omega arith) before (leads_from m (n + 1) (omega arith))

    -- the places of the owner's name lead to the script
    pub leads : (places : List ℕ) → places ≡ places_of names (owner_name plan owner) → Leads places
    leads places e =
        let all : length names - 0 ≡ length names = omega arith in
        rw (e, all) (leads_from (length names) 0 (omega arith) (λ j s l at. absurd (omega arith)))

-- ---- what belongs to a device

belongs_at : (os : List Declared) (device k : ℕ) → k < length os → belongs_to device (slice_get os k) ≡ (slice_index (map device_over os) k == device)
belongs_at [] device k l = absurd (omega arith)
belongs_at (o ∷ os) device zero l = refl
belongs_at (o ∷ os) device (suc k) l = belongs_at os device k (omega arith)

-- the objects at places
module _ (plan : Plan) (devices : List ℕ) (is : devices ≡ devices_over plan) where
  as_long : length devices ≡ length plan.declared
  as_long = ap length is ∙ length-map plan.declared device_over

  belongs_as : (device k : ℕ) → k < length devices → belongs_to device (declared_of plan (suc k)) ≡ (slice_index devices k == device)
  belongs_as device k l =
      let long = as_long in
      belongs_at plan.declared device k (omega arith) ∙ sym (ap (λ xs. slice_index xs k == device) is)

-- what doesn't belong to a device is no queue, no interrupt and no target of it
no_queue : (device : ℕ) (o : Option Declared) → belongs_to device o ≡ false → is_queue_of device (as_queue o) ≡ false
no_queue device (Some (declared.Queue q)) h = h
no_queue device (Some (declared.Driver)) h = refl
no_queue device (Some (declared.Device d)) h = refl
no_queue device (Some (declared.Interrupt i)) h = refl
no_queue device (Some (declared.Target t)) h = refl
no_queue device (Some (declared.OfClass c)) h = refl
no_queue device None h = refl

no_interrupt : (device : ℕ) (o : Option Declared) → belongs_to device o ≡ false → is_interrupt_of device (as_interrupt o) ≡ false
no_interrupt device (Some (declared.Interrupt i)) h = h
no_interrupt device (Some (declared.Driver)) h = refl
no_interrupt device (Some (declared.Device d)) h = refl
no_interrupt device (Some (declared.Queue q)) h = refl
no_interrupt device (Some (declared.Target t)) h = refl
no_interrupt device (Some (declared.OfClass c)) h = refl
no_interrupt device None h = refl

no_target : (device : ℕ) (o : Option Declared) → belongs_to device o ≡ false → is_target_of device (as_target o) ≡ false
no_target device (Some (declared.Target t)) h = h
no_target device (Some (declared.Driver)) h = refl
no_target device (Some (declared.Device d)) h = refl
no_target device (Some (declared.Queue q)) h = refl
no_target device (Some (declared.Interrupt i)) h = refl
no_target device (Some (declared.OfClass c)) h = refl
no_target device None h = refl

-- what is of a sort belongs to the device
none_of : (s : Sort) (plan : Plan) (device o : ℕ) → belongs_to device (declared_of plan o) ≡ false → is_of s plan device o ≡ false
none_of sort.Queue plan device o h = no_queue device (declared_of plan o) h
none_of sort.Interrupt plan device o h = no_interrupt device (declared_of plan o) h
none_of sort.Target plan device o h = no_target device (declared_of plan o) h

none_first : (s : Sort) (plan : Plan) (device : ℕ) → is_of s plan device 0 ≡ false
none_first sort.Queue plan device = refl
none_first _ plan device = refl

-- of some numbers, those whose next one passes a test, by a test that these pass too
shifted_by : (p q : ℕ → Bool) (a : ℕ) (xs ys : List ℕ) (b c : Bool) → q a ≡ b → p (a + 1) ≡ c → (q a ≡ false → p (a + 1) ≡ false) → map (λ k. k + 1) (filter (λ k. p (k + 1)) (filter q xs)) ≡ filter p ys
    → map (λ k. k + 1) (filter (λ k. p (k + 1)) (filter q (a ∷ xs))) ≡ filter p ((a + 1) ∷ ys)
shifted_by p q a xs ys true true e f only rest = rw (e, f) (ap (λ zs. (a + 1) ∷ zs) rest)
shifted_by p q a xs ys true false e f only rest = rw (e, f) rest
shifted_by p q a xs ys false true e f only rest = absurd (let z = only e in let w : ⊥ = cc in w)
shifted_by p q a xs ys false false e f only rest = rw (e, f) rest

shifted : (p q : ℕ → Bool) (a n : ℕ) → ((k : ℕ) → k < a + n → q k ≡ false → p (k + 1) ≡ false) → map (λ k. k + 1) (filter (λ k. p (k + 1)) (filter q (range_with_len a n))) ≡ filter p (range_with_len (a + 1) n)
shifted p q a zero only = refl
shifted p q a (suc n) only =
    shifted_by p q a (range_with_len (a + 1) n) (range_with_len (a + 1 + 1) n) (q a) (p (a + 1)) refl refl (only a (omega arith))
    (shifted p q (a + 1) n (λ k l. only k (omega arith)))

-- the ids of a sort, at the places of their device
pub ids_are : (s : Sort) (plan : Plan) (device : ℕ) (devices : List ℕ) → devices ≡ devices_over plan → ids_at s plan device (places_of devices device) ≡ ids_of s plan device
ids_are s plan device devices is =
    let long = as_long plan devices is in
    let count : length devices - 0 ≡ length plan.declared = omega arith in
    let first = none_first s plan device in
    rw (count, first) (shifted (is_of s plan device) (λ k. slice_index devices k == device) 0 (length plan.declared) only)
  where
    only : (k : ℕ) → k < 0 + length plan.declared → (slice_index devices k == device) ≡ false → is_of s plan device (k + 1) ≡ false
    only k l h =
        let long = as_long plan devices is in
        let e : suc k ≡ k + 1 = omega arith in
        none_of s plan device (k + 1) (subst (λ o. belongs_to device (declared_of plan o) ≡ false) e (belongs_as plan devices is device k (omega arith) ∙ h))

-- at one place more
pub ids_taken : (s : Sort) (plan : Plan) (device place : ℕ) (places : List ℕ) → is_of s plan device (place + 1) ≡ true → ids_at s plan device (place ∷ places) ≡ (place + 1) ∷ ids_at s plan device places
ids_taken s plan device place places e = rw e refl

pub ids_passed : (s : Sort) (plan : Plan) (device place : ℕ) (places : List ℕ) → is_of s plan device (place + 1) ≡ false → ids_at s plan device (place ∷ places) ≡ ids_at s plan device places
ids_passed s plan device place places e = rw e refl

-- the queues are declared
pub queues_declared : (plan : Plan) (device : ℕ) → All (λ q. q ≤ length plan.declared) (queues_of plan device)
queues_declared plan device =
    All-filter (λ id. is_queue_of device (queue_of plan id)) (λ q. q ≤ length plan.declared) (declared_ids plan) (λ k d l. below k d (subst (λ n. k < n) (length-range_with_len 0 (suc (length plan.declared))) l))
  where
    below : (k d : ℕ) → k < suc (length plan.declared) → get_or (declared_ids plan) k d ≤ length plan.declared
    below k d l = subst (λ n. n ≤ length plan.declared) (sym (get_or-range_with_len 0 (suc (length plan.declared)) k d l)) (omega arith)
