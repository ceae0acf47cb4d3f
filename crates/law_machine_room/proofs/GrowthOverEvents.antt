-- What grows has at most one item for each event: at the opening, and after one event more.
use Rattle.std.proofs.Common.{◌≡◌, ℕ, ◌+◌, List, [], ◌∷◌, length, map, refl, arith}
use Rattle.std.specs.List.{sum_by}
use Rattle.std.proofs.lemmas.List.{length-map}
use Rattle.std.proofs.lemmas.List.Sums.{sum-map, sum_by-cons}
use Rattle.wdf_base.specs.Meaning.{Meaning}
use Rattle.wdf_base.specs.declared.plan.Plan.{Plan}
use Rattle.wdf_base.specs.declared.event.Event.{Event}
use Rattle.wdf_model.specs.declared.entries.Node.{Node}
use Rattle.wdf_model.specs.Plans.{declared_ids}
use Rattle.wdf_model.specs.parts.Tree.{declared_node, gone, opening_tree, references_in}
use Rattle.wdf_model.specs.parts.Queues.{held_in, opening_queues}
use Rattle.wdf_model.specs.State.{State, opening}
use Rattle.wdf_model.specs.rules.Deeds.{do_deeds}
use Rattle.wdf_model.specs.rules.Steps.{after, deeds}
use Rattle.law_machine_room.specs.Kept.{GrowthKept}
use Rattle.wdf_model.specs.rules.Room.{AreDoable}
use Rattle.law_machine_room.proofs.GrowthCounts.{Arrival_more, Grows, Holding_more, Level_more, Lock_more, Object_more, Reference_more, Tick_more, counts_of}
use Rattle.law_machine_room.proofs.GrowthDeeds.{all_gains, deeds_grow}
use Rattle.law_machine_room.proofs.GrowthFew.{Few}
use Rattle.law_machine_room.proofs.GrowthEvents.{few_of_event}

-- ---- the opening

sums_to_none : {X T : Type 0} (f : T → ℕ) (g : X → T) → ((x : X) → f (g x) ≡ 0) → (xs : List X) → sum_by f (map g xs) ≡ 0
sums_to_none f g none [] = refl
sums_to_none f g none (x ∷ xs) = let e = sum_by-cons f (g x) (map g xs) in let k = none x in let rest = sums_to_none f g none xs in omega arith

pub growth_opens : {A : Type 0} (plan : Plan) (m : Meaning A) → GrowthKept plan (opening plan m)
growth_opens plan m =
    let long : length (map declared_node plan.declared) ≡ length plan.declared = length-map plan.declared declared_node in
    let none_referred : sum_by (λ (n : Node). n.references) (map declared_node plan.declared) ≡ 0 = sums_to_none (λ (n : Node). n.references) declared_node (λ d. refl) plan.declared in
    let head : sum_by (λ (n : Node). n.references) (gone ∷ map declared_node plan.declared) ≡ 0 + sum_by (λ (n : Node). n.references) (map declared_node plan.declared)
    = sum_by-cons (λ (n : Node). n.references) gone (map declared_node plan.declared) in
    let references : references_in (opening_tree plan) ≡ sum_by (λ (n : Node). n.references) (gone ∷ map declared_node plan.declared)
    = sum-map (λ (n : Node). n.references) (gone ∷ map declared_node plan.declared) in
    let none_held : held_in (opening_queues plan) ≡ 0 = sums_to_none (λ n. n) (λ _. 0) (λ q. refl) (declared_ids plan) in
    record {
      objects = omega arith;
      declared = omega arith;
      requests = omega arith;
      arrived = omega arith;
      references = omega arith;
      held = omega arith;
      levels = omega arith;
      locks = omega arith;
      arrivals = λ agent. omega arith;
      clock = omega arith;
    }

-- ---- one event more

grown : {A : Type 0} (plan : Plan) (m : Meaning A) (S : State A) (e : Event) → Few (deeds plan S e) → Grows (all_gains (deeds plan S e)) (counts_of S) (counts_of (do_deeds plan (deeds plan S e) S))
    → GrowthKept plan S → GrowthKept plan (after plan m S e)
grown plan m S e p grows h =
    let object = p.few Object_more refl in
    let reference = p.few Reference_more refl in
    let holding = p.few Holding_more refl in
    let level = p.few Level_more refl in
    let lock = p.few Lock_more refl in
    let arrival = p.few Arrival_more refl in
    let tick = p.few Tick_more refl in
    record {
      objects = omega arith;
      declared = omega arith;
      requests = grows.requests_within h.requests;
      arrived = omega arith;
      references = omega arith;
      held = omega arith;
      levels = omega arith;
      locks = omega arith;
      arrivals = λ agent. let more = grows.fewer_arrivals agent in let few = h.arrivals agent in omega arith;
      clock = omega arith;
    }

-- after an event whose deeds can be done
pub growth_kept : {A : Type 0} (plan : Plan) (m : Meaning A) (S : State A) (e : Event) → AreDoable plan (deeds plan S e) S → GrowthKept plan S → GrowthKept plan (after plan m S e)
growth_kept plan m S e doable h = grown plan m S e (few_of_event plan S e) (deeds_grow plan (deeds plan S e) S doable) h
