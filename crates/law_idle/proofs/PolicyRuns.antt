-- At each place of a run the policy knows of each device what the words of the law say.
use Rattle.std.proofs.Common.{if◌then◌else◌, ◌≡◌, ◌≤◌, ◌<◌, ℕ, zero, suc, ◌+◌, Bool, true, false, nat_lt, List, [], ◌∷◌, ◌++◌, ◌⊎◌, inl, inr, Option, Some, None, is_some, option_map, length, map, slice_get, take, refl, sym, ap, subst, ◌∙◌, arith}
use Rattle.std.specs.List.{filter_map, range_with_len}
use Rattle.std.proofs.lemmas.Bool.{ltb-true}
use Rattle.std.proofs.lemmas.Bool.Decides.{nat_tests}
use Rattle.wdf_base.specs.Meaning.{Meaning}
use Rattle.wdf_base.specs.Resolved.{IsResolved}
use Rattle.wdf_base.specs.declared.plan.Plan.{Plan}
use Rattle.wdf_base.specs.declared.ids.Cpu.{Cpu}
use Rattle.wdf_base.specs.declared.ids.Handle.{Handle}
use Rattle.wdf_base.specs.declared.value.Value.{Value}
use Rattle.wdf_base.specs.declared.object.Kind.TheVariants as kind
use Rattle.wdf_base.specs.declared.call.Call.{Call}
use Rattle.wdf_base.specs.declared.call.CallKind.TheVariants as call
use Rattle.wdf_base.specs.declared.declared.DeviceInfo.{DeviceInfo}
use Rattle.wdf_base.specs.declared.event.Event.{Event}
use Rattle.wdf_base.specs.declared.event.Event.TheVariants as event
use Rattle.wdf_base.specs.declared.event.Fault.TheVariants as fault
use Rattle.wdf_base.specs.declared.event.Post.{Post}
use Rattle.wdf_base.specs.declared.event.Post.TheVariants as post
use Rattle.wdf_base.specs.declared.signature.Sort.TheVariants as sort
use Rattle.wdf_base.specs.Calls.{signature_of}
use Rattle.wdf_base.specs.Same.{same_call_kind}
use Rattle.wdf_model.specs.Runs.{IsRun}
use Rattle.wdf_model.specs.Plans.{agent_count, declared_ids, device_of, devices_of}
use Rattle.wdf_model.specs.State.{State, object_in, opening}
use Rattle.wdf_model.specs.rules.Faults.{is_wrong_kind}
use Rattle.wdf_model.specs.rules.Posts.{ARRIVALS}
use Rattle.wdf_model.specs.rules.Steps.{after, may, view_of}
use Rattle.wdf_model.specs.rules.Ready.{IsRunOf, ready, state_after}
use Rattle.wdf_model.specs.agents.IdlePolicy.{IdleDevice, IdlePolicy, arrives_for, count_of, device_at, device_if_part, idle_after, policy_after, policy_at, timeout_of}
use Rattle.wdf_model.proofs.Runs.{take_ended, take_next}
use Rattle.wdf_model.proofs.Sames.{call_kind_decides}
use Rattle.law_machine_base.specs.FactsOfEvents.{IsTick}
use Rattle.law_machine_base.proofs.Fits.{wrong_kind_of_first}
use Rattle.law_machine_base.proofs.Follows.{state_goes_on}
use Rattle.law_machine_base.proofs.OwnEvents.{did_tells}
use Rattle.law_machine_room.specs.Kept.{RoomKept}
use Rattle.law_machine_room.proofs.DoableRuns.{ready_within}
use Rattle.law_machine_room.proofs.RoomLaws.{room_is_kept}
use Rattle.law_stuck_causes.proofs.Members.{Has, among_of, has_kept, has_mapped, has_range}
use Rattle.law_trace_power.proofs.Laws.{comes_by}
use Rattle.law_trace_families.proofs.Families.{declared_within}
use Rattle.wdf_laws.specs.Events.{argument_object}
use Rattle.law_idle.specs.Idling.{asleep_rest, awake_rest, is_held, time_after, time_step}
use Rattle.law_idle.specs.Policies.{HasPolicy}
use Rattle.law_idle.proofs.Arriving.{Arriving, arrives_new}
use Rattle.law_idle.proofs.Fresh.{is_fresh}
use Rattle.law_idle.proofs.Meters.{event_steady, is_tick}
use Rattle.law_idle.proofs.Pending.{More, Pending, some_pending}
use Rattle.law_idle.proofs.PendingEvents.{IsKnown, IsNew, brought, more}
use Rattle.law_idle.proofs.Policy.{IsPolicy, clock_goes_on, from_mapped, lines_stay, mapped_at, policy_goes_on}
use Rattle.law_idle.proofs.RestRuns.{device_is_declared}
use Rattle.law_idle.proofs.Since.{time_more}
use Rattle.law_idle.proofs.Told.{Told, told_more}
use Rattle.law_trace_families.proofs.Drained.{names}

-- what the policy knows of one device
pub record Knows {A : Type 0} (plan : Plan) (S : State A) (es : List Event) (x : IdleDevice) : Type 0 where
  pub info : DeviceInfo
  pub declared : device_of plan x.device.id.0 ≡ Some info
  pub name : x.device.name ≡ info.name
  pub part : nat_lt 0 (timeout_of plan x.device.id.0) ≡ true
  pub room : x.room ≡ suc (length plan.declared) + plan.limit
  pub told : Told plan es x
  pub pending : Pending es x
  pub few : count_of x.pending ≤ S.requests.arrived

-- and of all that take part
pub record KnowsAll {A : Type 0} (plan : Plan) (policy : A → Option IdlePolicy) (S : State A) (es : List Event) : Type 0 where
  pub now : IdlePolicy
  pub is : IsPolicy policy S now
  pub clock : now.manager.clock ≡ time_after es
  pub lines : now.manager.lines ≡ plan.pnp
  pub machine : S.clock ≡ time_after es
  pub devices : (j : ℕ) (x : IdleDevice) → slice_get now.devices j ≡ Some x → Knows plan S es x
  pub covers : (d : ℕ) (info : DeviceInfo) → device_of plan d ≡ Some info → nat_lt 0 (timeout_of plan d) ≡ true → (j : ℕ) × (x : IdleDevice) × (slice_get now.devices j ≡ Some x) × (x.device.id.0 ≡ d)

-- ---- the opening

opens_words : (plan : Plan) (d : ℕ) (i : DeviceInfo) → device_of plan d ≡ Some i → Told plan [] (device_at plan d i)
unfolding awake_rest asleep_rest is_held time_after
opens_words plan d i at = record { timeout = refl; register = refl; awake = rw at refl; asleep = refl; hold = refl; pending = refl; since = refl }

opens_one : {A : Type 0} (plan : Plan) (S : State A) (d : ℕ) (i : DeviceInfo) → device_of plan d ≡ Some i → nat_lt 0 (timeout_of plan d) ≡ true → Knows plan S [] (device_at plan d i)
opens_one plan S d i at part = record { info = i; declared = at; name = refl; part = part; room = refl; told = opens_words plan d i at; pending = record { entries = λ r. refl }; few = omega arith }

part_by : (plan : Plan) (d : ℕ) (b : Bool) (o : Option DeviceInfo) (x : IdleDevice) → nat_lt 0 (timeout_of plan d) ≡ b → device_of plan d ≡ o → (if b then option_map (device_at plan d) o else None) ≡ Some x
    → (b ≡ true) × ((i : DeviceInfo) × (device_of plan d ≡ Some i) × (device_at plan d i ≡ x))
part_by plan d true (Some i) x e f h = (refl, (i, f, (let s : device_at plan d i ≡ x = cc in s)))
part_by plan d true None x e f h = absurd (let z : ⊥ = cc in z)
part_by plan d false o x e f h = absurd (let z : ⊥ = cc in z)

gathered_by : {T U : Type 0} (f : T → Option U) (x : T) (xs : List T) (j : ℕ) (y : U) (o : Option U) → f x ≡ o → slice_get (filter_map f (x ∷ xs)) j ≡ Some y
    → ((k : ℕ) → slice_get (filter_map f xs) k ≡ Some y → (z : T) × (f z ≡ Some y)) → (z : T) × (f z ≡ Some y)
gathered_by f x xs j y None e h rest = rest j (rw e at h)
gathered_by f x xs zero y (Some w) e h rest = (x, e ∙ (let k : Some w ≡ Some y = (rw e at h) in k))
gathered_by f x xs (suc j) y (Some w) e h rest = rest j (let k : slice_get (filter_map f xs) j ≡ Some y = (rw e at h) in k)

gathered : {T U : Type 0} (f : T → Option U) (xs : List T) (j : ℕ) (y : U) → slice_get (filter_map f xs) j ≡ Some y → (z : T) × (f z ≡ Some y)
gathered f [] j y h = absurd (let z : ⊥ = cc in z)
gathered f (x ∷ xs) j y h = gathered_by f x xs j y (f x) refl h (λ k. gathered f xs k y)

opens_each : {A : Type 0} (plan : Plan) (S : State A) (j : ℕ) (x : IdleDevice) → slice_get (policy_at plan).devices j ≡ Some x → Knows plan S [] x
opens_each plan S j x h =
    let g = gathered (device_if_part plan) (devices_of plan) j x h in
    let p = part_by plan g.0 (nat_lt 0 (timeout_of plan g.0)) (device_of plan g.0) x refl refl g.1 in
    subst (λ y. Knows plan S [] y) p.1.2 (opens_one plan S g.0 p.1.0 p.1.1 p.0)

opens_covers : (plan : Plan) (d : ℕ) (info : DeviceInfo) → device_of plan d ≡ Some info → nat_lt 0 (timeout_of plan d) ≡ true → (j : ℕ) × (x : IdleDevice) × (slice_get (policy_at plan).devices j ≡ Some x) × (x.device.id.0 ≡ d)
opens_covers plan d info at part =
    let within = declared_within plan d _ (device_is_declared plan d info at) in
    let there : Has d (declared_ids plan) = has_range d 0 (suc (length plan.declared)) (omega arith) (omega (arith, within)) in
    let device : Has d (devices_of plan) = has_kept (λ id. is_some (device_of plan id)) d (declared_ids plan) there (rw at refl) in
    let is : device_if_part plan d ≡ Some (device_at plan d info) = rw (part, at) refl in
    let slot = among_of (device_at plan d info) (policy_at plan).devices (has_mapped (device_if_part plan) d (device_at plan d info) (devices_of plan) device is) in
    (slot.0, device_at plan d info, slot.1, refl)

first_agent : {A : Type 0} (plan : Plan) (m : Meaning A) → slice_get (opening plan m).agents 0 ≡ Some (m.begin plan 0)
first_agent plan m = by (agent_count plan) (length plan.agents) (omega arith)
  where
    by : (n k : ℕ) → n ≡ suc k → slice_get (map (m.begin plan) (range_with_len 0 n)) 0 ≡ Some (m.begin plan 0)
    by n k h = rw h refl

opens_all : {A : Type 0} (plan : Plan) (m : Meaning A) (policy : A → Option IdlePolicy) → HasPolicy m policy → KnowsAll plan policy (opening plan m) []
unfolding time_after
opens_all plan m policy has = record {
  now = policy_at plan;
  is = record { agent = m.begin plan 0; at = first_agent plan m; is = has.begins plan };
  clock = refl;
  lines = refl;
  machine = refl;
  devices = opens_each plan (opening plan m);
  covers = opens_covers plan;
}

all_first : {A : Type 0} (plan : Plan) (m : Meaning A) (policy : A → Option IdlePolicy) → HasPolicy m policy → KnowsAll plan policy (state_after plan m []) []
unfolding state_after
all_first plan m policy has = opens_all plan m policy has

-- ---- what is known of an event

named_by : {A : Type 0} (plan : Plan) (m : Meaning A) (S : State A) (cpu : Cpu) (c : Call) (v : Value) → may plan m S (event.Did cpu c v) ≡ true → same_call_kind c.kind call.WdfRequestComplete ≡ true → argument_object c.a ≡ Some (object_in c.a)
named_by plan m S cpu c v h is =
    let d = did_tells plan m S cpu c v h in
    let kind_is : c.kind ≡ call.WdfRequestComplete = (call_kind_decides c.kind call.WdfRequestComplete).0 is in
    let right : is_wrong_kind (view_of plan S cpu.0 d.frame) (signature_of c.kind).a c.a ≡ false = wrong_kind_of_first (view_of plan S cpu.0 d.frame) c (d.about.clean fault.WrongKind) in
    let so : is_wrong_kind (view_of plan S cpu.0 d.frame) (sort.ObjectOf kind.Request) c.a ≡ false = subst (λ y. is_wrong_kind (view_of plan S cpu.0 d.frame) (signature_of y).a c.a ≡ false) kind_is right in
    names (view_of plan S cpu.0 d.frame) c.a so

below : (n m k : ℕ) → n ≤ m → m < k → nat_lt n k ≡ true
below n m k h l = grind (arith, nat_tests)

brought_is : (p : Post) (d : ℕ) → arrives_for p ≡ Some d → (agent : ℕ) (r : Handle) → brought (event.Posted agent p (Some r)) ≡ 1
brought_is (post.Read device n) d h agent r = refl
brought_is (post.Write device n) d h agent r = refl
brought_is (post.Control device code n) d h agent r = refl
brought_is _ d h agent r = absurd (let z : ⊥ = cc in z)

brings_for : (p : Post) → ((d : ℕ) × (arrives_for p ≡ Some d)) ⊎ ((agent : ℕ) (r : Handle) → brought (event.Posted agent p (Some r)) ≡ 0)
brings_for (post.Read device n) = inl (device.id.0, refl)
brings_for (post.Write device n) = inl (device.id.0, refl)
brings_for (post.Control device code n) = inl (device.id.0, refl)
brings_for _ = inr (λ agent r. refl)

-- ---- each place

module _ {A : Type 0} (plan : Plan) (m : Meaning A) (policy : A → Option IdlePolicy) (has : HasPolicy m policy) (run : List Event) (resolved : IsResolved plan) (is_run : IsRunOf plan m run) where
  abbrev at_place : ℕ → State A
  at_place n = state_after plan m (take n run)

  abbrev Comes : ℕ → Event → Type 0
  Comes n e = (may plan m (at_place n) e ≡ true) ⊎ IsTick m (at_place n) (ready plan m (take n run)) e

  number_below : (n : ℕ) (e : Event) → slice_get run n ≡ Some e → (at_place n).number < plan.limit
  unfolding IsRun
  number_below n e at = let p = is_run n e at in ready_within plan m (take n run) p.0 e p.1

  is_new : (n : ℕ) (e : Event) → slice_get run n ≡ Some e → Comes n e → (x : IdleDevice) → Knows plan (at_place n) (take n run) x → (agent : ℕ) (p : Post) (r : Handle) (d : ℕ) → e ≡ event.Posted agent p (Some r) → arrives_for p ≡ Some d → IsNew (take n run) x r
  is_new n e at (inr t) x k agent p r d is for_ = absurd (let s = t.tick in let z : ⊥ = cc in z)
  is_new n e at (inl h) x k agent p r d is for_ =
      let S : State A = at_place n in
      let a : Arriving plan m S (event.Posted agent p (Some r)) r = arrives_new plan m S agent d p r (subst (λ y. may plan m S y ≡ true) is h) for_ in
      let kept : RoomKept plan S = room_is_kept plan m run resolved is_run n in
      let low = number_below n e at in
      let g = kept.growth.objects in
      let f = a.fresh in
      let b = k.room in
      let w = k.few in
      let q : S.requests.arrived < ARRIVALS = ltb-true S.requests.arrived ARRIVALS a.few in
      record {
        fresh = is_fresh plan m run is_run n r.id.0 a.fresh;
        room = ap (nat_lt r.id.0) b ∙ below r.id.0 r.id.0 (suc (length plan.declared) + plan.limit) (omega arith) (omega (arith, f, g, low));
        few = below (count_of x.pending) S.requests.arrived ARRIVALS w q;
      }

  known_of : (n : ℕ) (e : Event) → slice_get run n ≡ Some e → Comes n e → (x : IdleDevice) → Knows plan (at_place n) (take n run) x → IsKnown (take n run) x e
  known_of n e at c x k = record {
    arrival = is_new n e at c x k;
    names = λ cpu d v is same. named c cpu d v is same;
  }
    where
      named : Comes n e → (cpu : Cpu) (d : Call) (v : Value) → e ≡ event.Did cpu d v → same_call_kind d.kind call.WdfRequestComplete ≡ true → argument_object d.a ≡ Some (object_in d.a)
      named (inl h) cpu d v is same = named_by plan m (at_place n) cpu d v (subst (λ y. may plan m (at_place n) y ≡ true) is h) same
      named (inr t) cpu d v is same = absurd (let s = t.tick in let z : ⊥ = cc in z)

  -- ---- what an event does to the clock and to the count of arrivals

  record Moved (n : ℕ) (e : Event) : Type 0 where
    clock : (after plan m (at_place n) e).clock ≡ time_step (at_place n).clock e
    arrived : (at_place n).requests.arrived + brought e ≤ (after plan m (at_place n) e).requests.arrived

  not_tick : (n : ℕ) (e : Event) → may plan m (at_place n) e ≡ true → is_tick e ≡ false
  not_tick n (event.Tick time) h = absurd (let z : ⊥ = cc in z)
  not_tick n _ h = refl

  same_time : (now : ℕ) (e : Event) → is_tick e ≡ false → time_step now e ≡ now
  same_time now (event.Tick time) h = absurd (let z : ⊥ = cc in z)
  same_time now _ h = refl

  arrives_by : (n : ℕ) (agent : ℕ) (p : Post) (answer : Option Handle) → may plan m (at_place n) (event.Posted agent p answer) ≡ true
      → (at_place n).requests.arrived + brought (event.Posted agent p answer) ≤ (after plan m (at_place n) (event.Posted agent p answer)).requests.arrived
  arrives_by n agent p None h = let s = (event_steady plan m (at_place n) (event.Posted agent p None) refl).arrived in omega arith
  arrives_by n agent p (Some r) h = elim (brings_for p) [
    | inl b ↦
        let a : Arriving plan m (at_place n) (event.Posted agent p (Some r)) r = arrives_new plan m (at_place n) agent b.0 p r h b.1 in
        let one = brought_is p b.0 b.1 agent r in
        let c = a.counted in
        omega (arith, one, c)
    | inr none ↦
        let zero_ = none agent r in
        let s = (event_steady plan m (at_place n) (event.Posted agent p (Some r)) refl).arrived in
        omega (arith, zero_, s)
  ]

  arrived_by : (n : ℕ) (e : Event) → may plan m (at_place n) e ≡ true → is_tick e ≡ false → (at_place n).requests.arrived + brought e ≤ (after plan m (at_place n) e).requests.arrived
  arrived_by n (event.Posted agent p answer) h off = arrives_by n agent p answer h
  arrived_by n (event.Tick time) h off = absurd (let z : ⊥ = cc in z)
  arrived_by n e h off = let s = (event_steady plan m (at_place n) e off).arrived in omega (arith, s)

  moved : (n : ℕ) (e : Event) → Comes n e → Moved n e
  moved n e (inl h) =
      let off = not_tick n e h in
      record { clock = (event_steady plan m (at_place n) e off).clock ∙ sym (same_time (at_place n).clock e off); arrived = arrived_by n e h off }
  moved n e (inr t) = subst (λ x. Moved n x) (sym t.tick) (record { clock = refl; arrived = omega arith })

  -- ---- one event more

  one_more : (n : ℕ) (e : Event) → slice_get run n ≡ Some e → Comes n e → (now : ℕ) → now ≡ time_after (take n run) → (x : IdleDevice) → Knows plan (at_place n) (take n run) x
      → Knows plan (after plan m (at_place n) e) (take n run ++ e ∷ []) (idle_after now e x)
  one_more n e at c now t x k =
      let es : List Event = take n run in
      let f : More es e x (brought e) = more es x k.pending e (known_of n e at c x k) in
      let p : Pending (es ++ e ∷ []) (idle_after now e x) = record { entries = f.entries } in
      let v = moved n e c in
      let g = f.few in
      let w = k.few in
      let a = v.arrived in
      record {
        info = k.info;
        declared = k.declared;
        name = k.name;
        part = k.part;
        room = k.room;
        told = told_more plan es e x k.told now t (some_pending (es ++ e ∷ []) (idle_after now e x) p);
        pending = p;
        few = omega (arith, g, w, a);
      }

  all_more : (n : ℕ) (e : Event) → slice_get run n ≡ Some e → Comes n e → KnowsAll plan policy (at_place n) (take n run) → KnowsAll plan policy (after plan m (at_place n) e) (take n run ++ e ∷ [])
  all_more n e at c k =
      let now : ℕ = k.now.manager.clock in
      record {
        now = policy_after k.now e;
        is = policy_goes_on plan m policy has (at_place n) k.now k.is e;
        clock = clock_goes_on k.now e ∙ ap (λ t. time_step t e) k.clock ∙ sym (time_more (take n run) e);
        lines = lines_stay k.now e ∙ k.lines;
        machine = (moved n e c).clock ∙ ap (λ t. time_step t e) k.machine ∙ sym (time_more (take n run) e);
        devices = λ j y h.
            let f = from_mapped (idle_after now e) k.now.devices j y h in
            subst (λ z. Knows plan (after plan m (at_place n) e) (take n run ++ e ∷ []) z) f.2 (one_more n e at c now k.clock f.0 (k.devices j f.0 f.1));
        covers = λ d info at_plan part.
            let q = k.covers d info at_plan part in
            (q.0, idle_after now e q.1, mapped_at (idle_after now e) k.now.devices q.0 q.1 q.2, q.3);
      }

  next : (n : ℕ) (found : Option Event) → slice_get run n ≡ found → KnowsAll plan policy (at_place n) (take n run) → KnowsAll plan policy (at_place (suc n)) (take (suc n) run)
  next n None at k = subst (λ es. KnowsAll plan policy (state_after plan m es) es) (sym (take_ended run n at)) k
  next n (Some e) at k =
      subst (λ es. KnowsAll plan policy (state_after plan m es) es) (sym (take_next run n e at))
      (subst (λ (U : State A). KnowsAll plan policy U (take n run ++ e ∷ [])) (sym (state_goes_on plan m (take n run) e))
      (all_more n e at (comes_by plan m run n e is_run at) k))

  pub knows_at : (n : ℕ) → KnowsAll plan policy (at_place n) (take n run)
  knows_at zero = all_first plan m policy has
  knows_at (suc n) = next n (slice_get run n) refl (knows_at n)
