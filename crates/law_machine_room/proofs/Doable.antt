-- What the table of doable deeds asks of a state before an event, and how far its numbers go.
use Rattle.std.proofs.Common.{if◌then◌else◌, ◌≡◌, ℕ, zero, suc, ◌+◌, ◌<◌, ◌≤◌, ◌^◌, nat_le, ◌==◌, Bool, true, false, not, ◌&&◌, inl, inr, List, [], ◌∷◌, ◌++◌, length, filter_map, count_by, Option, Some, None, is_some, unwrap_or, refl, ap, ◌∙◌, arith, length-append}
use Rattle.std.specs.List.{cons_option, list_any}
use Rattle.std.proofs.lemmas.Bool.Decides.{nat_tests}
use Rattle.wdf_base.specs.declared.plan.Plan.{Plan}
use Rattle.wdf_base.specs.declared.ids.Cpu.{Cpu}
use Rattle.wdf_base.specs.declared.object.Kind.TheVariants as kind
use Rattle.wdf_base.specs.Same.{same_kind}
use Rattle.wdf_base.specs.Resolved.{IsResolved, app_count, device_name, posting_names, target_name}
use Rattle.wdf_base.specs.Places.{is_done, is_queued_in}
use Rattle.wdf_model.specs.declared.room.TheConstants.{EVENTS, FRAMES, OBJECTS}
use Rattle.wdf_model.specs.Tables.{contains, entry, first_of_list, flag}
use Rattle.wdf_model.specs.parts.Tree.{kind_of, references_in}
use Rattle.wdf_model.specs.parts.Cpus.{all_frames, top}
use Rattle.wdf_model.specs.parts.Requests.{has_arrived, no_request, origin_of, place_of, request_of}
use Rattle.wdf_model.specs.parts.Queues.{held_in, is_waiting}
use Rattle.wdf_model.specs.State.{State}
use Rattle.wdf_model.specs.declared.deed.Deed.{Deed}
use Rattle.wdf_model.specs.rules.Deeds.{do_deed, do_deeds}
use Rattle.wdf_model.specs.rules.Calls.{Outcome}
use Rattle.wdf_model.specs.rules.Steps.{is_cpu}
use Rattle.law_machine_base.specs.OverRuns.{DeclaredAgree, FramesAgree, PlacesAgree}
use Rattle.wdf_model.proofs.Counts.{count_no, count_yes, equal}
use Rattle.wdf_model.proofs.FrameCounts.{listed, none_or_some, popped}
use Rattle.law_machine_room.specs.Kept.{RoomKept}
use Rattle.wdf_model.specs.rules.Groups.{declared_end}
use Rattle.wdf_model.specs.rules.Room.{AGENTS, AreDoable, IsRequest, MayGiveUp}

-- what is so of a state before an event
pub record Fine {A : Type 0} (plan : Plan) (S : State A) : Type 0 where
  pub resolved : IsResolved plan
  pub within : S.number < plan.limit
  pub room : RoomKept plan S
  pub places : PlacesAgree S
  pub declared : DeclaredAgree plan S
  pub frames : FramesAgree S
  -- an object of the kind Request arrived
  pub arrived : (r : ℕ) → same_kind (kind_of S.tree r) kind.Request ≡ true → has_arrived (request_of S.requests r) ≡ true

-- ---- lists

-- where an entry isn't the blank one, it is there
pub inside : {T : Type 0} (blank : T) (p : T → Bool) (xs : List T) (id : ℕ) → p blank ≡ false → p (entry blank xs id) ≡ true → id < length xs
inside blank p [] id off h = absurd (let z : ⊥ = cc in z)
inside blank p (x ∷ xs) zero off h = omega arith
inside blank p (x ∷ xs) (suc id) off h = let rest = inside blank p xs id off h in omega arith

not_listed_by : (r x : ℕ) (xs : List ℕ) (b : Bool) → (x == r) ≡ b → count_by (λ y. y == r) (x ∷ xs) ≡ 0 → (count_by (λ y. y == r) xs ≡ 0 → contains r xs ≡ false) → contains r (x ∷ xs) ≡ false
not_listed_by r x xs true e h rest = absurd (let k = count_yes (λ y. y == r) x xs e in omega arith)
not_listed_by r x xs false e h rest = rw e (rest (let k = count_no (λ y. y == r) x xs e in omega arith))

pub not_listed : (r : ℕ) (xs : List ℕ) → count_by (λ y. y == r) xs ≡ 0 → contains r xs ≡ false
not_listed r [] h = refl
not_listed r (x ∷ xs) h = not_listed_by r x xs (x == r) refl h (not_listed r xs)

pub nowhere : (r : ℕ) (lines : List (List ℕ)) → ((q : ℕ) → count_by (λ y. y == r) (entry [] lines q) ≡ 0) → list_any (contains r) lines ≡ false
nowhere r [] h = refl
nowhere r (line ∷ lines) h = rw (not_listed r line (h 0)) (nowhere r lines (λ q. h (suc q)))

shorter_by : {Y : Type 0} (o : Option Y) (ys : List Y) (n : ℕ) → length ys ≤ n → length (cons_option o ys) ≤ suc n
shorter_by None ys n h = omega arith
shorter_by (Some y) ys n h = omega arith

pub shorter : {X Y : Type 0} (f : X → Option Y) (xs : List X) → length (filter_map f xs) ≤ length xs
shorter f [] = omega arith
shorter f (x ∷ xs) = shorter_by (f x) (filter_map f xs) (length xs) (shorter f xs)

-- ---- deeds one after another

pub doable_after : {A : Type 0} (plan : Plan) (ds es : List Deed) (S : State A) → AreDoable plan ds S → AreDoable plan es (do_deeds plan ds S) → AreDoable plan (ds ++ es) S
doable_after plan [] es S h k = k
doable_after plan (d ∷ ds) es S h k = (h.0, doable_after plan ds es (do_deed plan d S) h.1 k)

pub either_doable : {A : Type 0} (plan : Plan) (S : State A) (b : Bool) (x y : Outcome) → (b ≡ true → AreDoable plan x.deeds S) → (b ≡ false → AreDoable plan y.deeds S)
    → AreDoable plan (if b then x else y).deeds S
either_doable plan S true x y h k = h refl
either_doable plan S false x y h k = k refl

-- ---- numbers

upper : (low high n : ℕ) → (nat_le low n && nat_le n high) ≡ true → n ≤ high
upper low high n h = grind (arith, nat_tests)

at_most : (high n : ℕ) → nat_le n high ≡ true → n ≤ high
at_most high n h = grind (arith, nat_tests)

module _ {A : Type 0} {plan : Plan} {S : State A} (k : Fine plan S) where
  pub few_events : S.number < EVENTS
  few_events =
      let most : plan.limit ≤ 200000 = upper 1 200000 plan.limit k.resolved.limit in
      let before = k.within in
      omega arith

  pub table_small : declared_end plan ≤ 4097
  table_small =
      let most : plan.objects ≤ 4096 = upper 1 4096 plan.objects k.resolved.objects in
      let counted : length plan.declared ≤ plan.objects = at_most plan.objects (length plan.declared) k.resolved.counted in
      omega arith

  pub objects_few : length S.tree.nodes < OBJECTS
  objects_few =
      let few = few_events in
      let small = table_small in
      let objects = k.room.growth.objects in
      omega arith

  pub room_of : (o : ℕ) → o < length S.tree.nodes → o < OBJECTS
  room_of o there = let few = objects_few in omega arith

  pub declared_room : (o : ℕ) → o < declared_end plan → o < OBJECTS
  declared_room o there = let small = table_small in let few = few_events in omega arith

  pub no_object_room : 0 < OBJECTS
  no_object_room = let few = objects_few in omega arith

  pub next_frame_few : S.number + 1 < FRAMES
  next_frame_few = let few = few_events in omega arith

  pub references_few : references_in S.tree < EVENTS
  references_few = let few = few_events in let kept = k.room.growth.references in omega arith

  pub held_few : held_in S.queues < EVENTS
  held_few = let few = few_events in let kept = k.room.growth.held in omega arith

  pub levels_few : length S.cpus.levels < EVENTS
  levels_few = let few = few_events in let kept = k.room.growth.levels in omega arith

  pub locks_few : length S.locks.held < EVENTS
  locks_few = let few = few_events in let kept = k.room.growth.locks in omega arith

  pub arrived_few : S.requests.arrived < EVENTS
  arrived_few = let few = few_events in let kept = k.room.growth.arrived in omega arith

  pub clock_small : S.clock < 200000
  clock_small = let few = few_events in let kept = k.room.growth.clock in omega arith

  pub arrivals_small : (agent : ℕ) → entry 0 S.arrivals agent + 1 < 2 ^ 32
  arrivals_small agent = let few = few_events in let kept = k.room.growth.arrivals agent in omega arith

  pub agents_few : (agent : ℕ) → agent < length S.agents → agent < AGENTS
  agents_few agent there =
      let apps : app_count plan ≤ 256 = at_most 256 (app_count plan) k.resolved.app_limit in
      let devices : length (filter_map device_name plan.declared) ≤ 8 = at_most 8 (length (filter_map device_name plan.declared)) k.resolved.devices in
      let targets : length (filter_map target_name plan.declared) ≤ length plan.declared = shorter target_name plan.declared in
      let posting : length (posting_names plan) ≡ length (filter_map device_name plan.declared) + length (filter_map target_name plan.declared) = length-append (filter_map device_name plan.declared) (filter_map target_name plan.declared) in
      let small = table_small in
      let kept : length S.agents ≡ 1 + length plan.agents = k.room.sizes.agents in
      let all : length plan.agents ≤ app_count plan + length (posting_names plan) = omega arith in
      omega arith

  -- ---- objects and requests

  pub request_room : (r : ℕ) → r < length S.requests.all → IsRequest S r
  request_room r there =
      let few = objects_few in
      let kept = k.room.growth.requests in
      record { there = there; room = omega arith }

  pub request_here : (r : ℕ) → is_done (place_of S.requests r) ≡ false → IsRequest S r
  request_here r h = request_room r (inside no_request (λ q. not (is_done q.place)) S.requests.all r refl (ap not h))

  origin_by : (o : Option ℕ) → ((q : ℕ) → o ≡ Some q → q < declared_end plan) → unwrap_or o 0 < declared_end plan
  origin_by None h = omega arith
  origin_by (Some q) h = h q refl

  pub origin_there : (r : ℕ) → unwrap_or (origin_of S.requests r) 0 < declared_end plan
  origin_there r = origin_by (origin_of S.requests r) (k.room.names.origins r)

  pub may_give_up : (r : ℕ) → is_done (place_of S.requests r) ≡ false → MayGiveUp S r
  may_give_up r h =
      let inside_ = origin_there r in
      let size = k.room.sizes.dispatch in
      record { request = request_here r h; origin = omega arith }

  pub apart : (r : ℕ) → ((q : ℕ) → is_queued_in q (place_of S.requests r) ≡ false) → is_waiting S.queues r ≡ false
  apart r h = nowhere r S.queues.waiting (λ q. k.places.queued q r ∙ ap flag (h q))

  -- ---- frames

  pub top_counted : (cpu f : ℕ) → top S.cpus cpu ≡ Some f → 1 ≤ count_by (λ x. x == f) (all_frames S.cpus)
  top_counted cpu f h =
      let gone = popped (λ x. x == f) S.cpus cpu f h in
      let one : flag (f == f) ≡ 1 = ap flag (equal f f refl) in
      omega arith

  pub top_there : (cpu f : ℕ) → top S.cpus cpu ≡ Some f → f < length S.cpus.frames
  top_there cpu f h = k.room.names.frames f (listed f (all_frames S.cpus) (top_counted cpu f h))

  pub top_few : (cpu f : ℕ) → top S.cpus cpu ≡ Some f → f < FRAMES
  top_few cpu f h =
      let numbered = k.frames.numbered f (top_counted cpu f h) in
      let few = few_events in
      omega arith

  pub cpu_there : (cpu : ℕ) → is_some (top S.cpus cpu) ≡ true → cpu < length S.cpus.stacks
  cpu_there cpu h = inside [] (λ fs. is_some (first_of_list fs)) S.cpus.stacks cpu refl h

  pub next_frame_fresh : contains (S.number + 1) (all_frames S.cpus) ≡ false
  next_frame_fresh = not_listed (S.number + 1) (all_frames S.cpus) (elim (none_or_some (count_by (λ x. x == S.number + 1) (all_frames S.cpus))) [
    | inl e ↦ e
    | inr there ↦ let numbered = k.frames.numbered (S.number + 1) there in absurd (omega arith)
  ])

  pub cpu_of_plan : (cpu : Cpu) → is_cpu plan cpu ≡ true → cpu.0 < plan.cpus
  cpu_of_plan cpu h = grind (arith, nat_tests)

  pub stack_there : (cpu : Cpu) → is_cpu plan cpu ≡ true → cpu.0 < length S.cpus.stacks
  stack_there cpu h = let here = cpu_of_plan cpu h in let size = k.room.sizes.stacks in omega arith
