-- The events of the framework are events of the plan.
use Rattle.std.proofs.Common.{◌≡◌, ℕ, ◌+◌, ◌==◌, ◌<◌, ◌≤◌, ◌^◌, true, false, ◌&&◌, List, ◌++◌, inl, inr, Option, Some, None, length, count_by, nat_le, slice_get, refl, sym, subst, arith}
use Rattle.std.specs.List.{flat_map}
use Rattle.std.proofs.lemmas.Bool.{and_parts, leb-true, ltb-true}
use Rattle.std.proofs.Common.{is_some}
use Rattle.wdf_base.specs.declared.event.Stage.{Stage}
use Rattle.wdf_base.specs.declared.event.Stage.TheVariants as stage
use Rattle.wdf_base.specs.declared.event.Step.TheVariants as step
use Rattle.wdf_base.specs.Same.{same_option, same_step}
use Rattle.wdf_model.specs.parts.Pnp.{next_step}
use Rattle.wdf_model.specs.rules.Starts.{may_pass, stage_effect}
use Rattle.law_machine_once.specs.Owned.{IsStepOf, StepsOwned}
use Rattle.law_machine_once.proofs.Steps.{steps_owned_at_each}
use Rattle.wdf_base.specs.Stages.{is_for_interrupt}
use Rattle.wdf_trace.specs.Events.{IsOptionalOf}
use Rattle.law_lines.proofs.ProperNames.{name_of_interrupt}
use Rattle.wdf_base.specs.Meaning.{Meaning}
use Rattle.wdf_base.specs.Resolved.{IsResolved}
use Rattle.wdf_base.specs.declared.plan.Plan.{Plan}
use Rattle.wdf_base.specs.declared.ids.Handle.{Handle}
use Rattle.wdf_base.specs.declared.ids.Cpu.{Cpu}
use Rattle.wdf_base.specs.declared.call.Callback.{Callback}
use Rattle.wdf_base.specs.declared.call.Callback.TheVariants as callback
use Rattle.wdf_base.specs.declared.event.Event.{Event}
use Rattle.wdf_base.specs.declared.event.Event.TheVariants as event
use Rattle.wdf_base.specs.declared.rank.Rank.{Rank}
use Rattle.wdf_base.specs.declared.rank.Rank.TheVariants as rank
use Rattle.wdf_base.specs.Callbacks.{carries_request, row_of}
use Rattle.wdf_base.specs.Lives.{is_asked, is_cleaned, is_live}
use Rattle.wdf_model.specs.Tables.{same_id}
use Rattle.wdf_model.specs.parts.Tree.{gone, life_of, may_destroy}
use Rattle.wdf_model.specs.parts.Cpus.{all_frames, top}
use Rattle.wdf_model.specs.State.{State, is_proper}
use Rattle.wdf_model.specs.declared.deed.Deed.{Deed}
use Rattle.wdf_model.specs.rules.Starts.{effect_for, life_fits, may_start, rank_ready, rank_ready_for}
use Rattle.wdf_model.specs.rules.Steps.{deeds, is_cpu, may}
use Rattle.wdf_model.specs.rules.Ready.{IsRunOf, ready, state_after}
use Rattle.wdf_model.proofs.Counts.{count_behind}
use Rattle.law_machine_base.proofs.Follows.{follows}
use Rattle.wdf_model.proofs.Tests.{both_left, both_right}
use Rattle.law_machine_lives.proofs.Keeping.{Known, at_the_end, known_now}
use Rattle.law_machine_lives.proofs.Lists.{inside}
use Rattle.law_machine_lives.proofs.SoundEvents.{top_on}
use Rattle.law_machine_room.specs.Kept.{RoomKept}
use Rattle.wdf_model.specs.rules.Room.{AreDoable}
use Rattle.law_machine_room.proofs.DoableRuns.{ready_doable}
use Rattle.law_machine_room.proofs.RoomLaws.{room_is_kept}
use Rattle.law_machine_once.proofs.Numbers.{number_is, within_limit_of}
use Rattle.wdf_trace.specs.Events.{IsEventOf, IsHandleOf}
use Rattle.law_lines.specs.Framework.{is_of_framework}
use Rattle.law_lines.proofs.ProperNames.{proper_name}
use Rattle.law_machine_counts.proofs.StepTable.{top_is}
use Rattle.wdf_model.proofs.FrameCounts.{parked_once}
use Rattle.law_machine_counts.proofs.Sames.{pass_is}

-- ---- bounds

pub few_cpus : (plan : Plan) → IsResolved plan → (n : ℕ) → n < plan.cpus → n < 2 ^ 8
few_cpus plan h n below =
    let most : plan.cpus ≤ 8 = leb-true plan.cpus 8 (and_parts (nat_le 1 plan.cpus) (nat_le plan.cpus 8) h.cpus).1 in
    omega (arith, below, most)

pub few_declared : (plan : Plan) → IsResolved plan → length plan.declared ≤ 4096
few_declared plan h =
    let counted : length plan.declared ≤ plan.objects = leb-true (length plan.declared) plan.objects h.counted in
    let limit : plan.objects ≤ 4096 = leb-true plan.objects 4096 (and_parts (nat_le 1 plan.objects) (nat_le plan.objects 4096) h.objects).1 in
    omega (arith, counted, limit)

pub few_events : (plan : Plan) → IsResolved plan → plan.limit ≤ 200000
few_events plan h = leb-true plan.limit 200000 (and_parts (nat_le 1 plan.limit) (nat_le plan.limit 200000) h.limit).1

-- what is known of the state after a run of a resolved plan
pub record Bounded {A : Type 0} (plan : Plan) (S : State A) : Type 0 where
  pub resolved : IsResolved plan
  pub known : Known plan S
  pub room : RoomKept plan S
  pub number : S.number ≤ 200000
  pub owned : StepsOwned plan S

-- ---- the stage that comes next

module _ {A : Type 0} (plan : Plan) (m : Meaning A) (S : State A) (b : Bounded plan S) where
  pub objects_few : (o : ℕ) → o < length S.tree.nodes → o < 2 ^ 32
  objects_few o there =
      let grown = b.room.growth.objects in
      let declared = few_declared plan b.resolved in
      let number = b.number in
      omega (arith, there, grown, declared, number)

  pub requests_few : (r : ℕ) → r < length S.requests.all → r < 2 ^ 32
  requests_few r there =
      let below = b.room.growth.requests in
      objects_few r (omega (arith, there, below))

  frames_few : (f : ℕ) → 1 ≤ count_by (λ x. x == f) (all_frames S.cpus) → f < 2 ^ 32
  frames_few f there =
      let old = b.known.frames.numbered f there in
      let number = b.number in
      omega (arith, old, number)

  pub cpus_few : (cpu : ℕ) → cpu < length S.cpus.stacks → cpu < 2 ^ 8
  cpus_few cpu there =
      let same = b.room.sizes.stacks in
      few_cpus plan b.resolved cpu (omega (arith, there, same))

  handle_of_object : (o : Handle) → is_proper plan S o ≡ true → o.id.0 < length S.tree.nodes → IsHandleOf plan o
  handle_of_object o proper there = (objects_few o.id.0 there, proper_name plan S b.resolved o proper)

  -- ---- starts

  life_there : (c : Callback) (o : ℕ) → life_fits S c o ≡ true → o < length S.tree.nodes
  life_there callback.EvtCleanupCallback o h = inside gone (λ n. is_asked n.life) S.tree.nodes o refl h
  life_there callback.EvtDestroyCallback o h = inside gone (λ n. is_cleaned n.life) S.tree.nodes o refl h
  life_there _ o h = inside gone (λ n. is_live n.life) S.tree.nodes o refl h

  carried : (r : Rank) (c : Callback) (o q : ℕ) → rank_ready_for plan S r c o q ≡ true → carries_request r ≡ true
  carried rank.Completion c o q h = refl
  carried rank.Cancel c o q h = refl
  carried rank.CanceledOnQueue c o q h = refl
  carried rank.Stop c o q h = refl
  carried rank.Resume c o q h = refl
  carried rank.Handler c o q h = refl
  carried _ c o q h = absurd (let z : ⊥ = cc in z)

  uncarried : (r : Rank) (cpu : ℕ) (c : Callback) (o : ℕ) → rank_ready plan m S r cpu c o ≡ true → carries_request r ≡ false
  uncarried rank.Completion cpu c o h = absurd (let z : ⊥ = cc in z)
  uncarried rank.Cancel cpu c o h = absurd (let z : ⊥ = cc in z)
  uncarried rank.CanceledOnQueue cpu c o h = absurd (let z : ⊥ = cc in z)
  uncarried rank.Stop cpu c o h = absurd (let z : ⊥ = cc in z)
  uncarried rank.Resume cpu c o h = absurd (let z : ⊥ = cc in z)
  uncarried rank.Handler cpu c o h = absurd (let z : ⊥ = cc in z)
  uncarried _ cpu c o h = refl

  request_few : (r : Rank) (o q : ℕ) (ds : List Deed) → carries_request r ≡ true → AreDoable plan (effect_for r o q ++ ds) S → q < 2 ^ 32
  request_few rank.Completion o q ds h k = requests_few q k.0.there
  request_few rank.Cancel o q ds h k = requests_few q k.0.there
  request_few rank.CanceledOnQueue o q ds h k = requests_few q k.0.request.there
  request_few rank.Stop o q ds h k = omega (arith, k.0)
  request_few rank.Resume o q ds h k = omega (arith, k.0)
  request_few rank.Handler o q ds h k = requests_few q k.0.1.request.there
  request_few _ o q ds h k = absurd (let z : ⊥ = cc in z)

  start_of_plan : (cpu : Cpu) (c : Callback) (o : Handle) (r : Option Handle) → may plan m S (event.Start cpu c o r) ≡ true → AreDoable plan (deeds plan S (event.Start cpu c o r)) S → IsEventOf plan (event.Start cpu c o r)
  start_of_plan cpu c o None h k =
      let starts : may_start plan m S cpu.0 c o.id.0 None ≡ true = both_right (is_cpu plan cpu && is_proper plan S o && true) (may_start plan m S cpu.0 c o.id.0 None) h in
      let before : (is_cpu plan cpu && is_proper plan S o && true) ≡ true = both_left (is_cpu plan cpu && is_proper plan S o && true) (may_start plan m S cpu.0 c o.id.0 None) h in
      let two : (is_cpu plan cpu && is_proper plan S o) ≡ true = both_left (is_cpu plan cpu && is_proper plan S o) true before in
      let lives : life_fits S c o.id.0 ≡ true = search (both_left, both_right) in
      let due : rank_ready plan m S (row_of c).rank cpu.0 c o.id.0 ≡ true = search both_right in (
        few_cpus plan b.resolved cpu.0 (ltb-true cpu.0 plan.cpus (both_left (is_cpu plan cpu) (is_proper plan S o) two)),
        handle_of_object o (both_right (is_cpu plan cpu) (is_proper plan S o) two) (life_there c o.id.0 lives),
        tt,
        uncarried (row_of c).rank cpu.0 c o.id.0 due,
      )
  start_of_plan cpu c o (Some r) h k =
      let starts : may_start plan m S cpu.0 c o.id.0 (Some r) ≡ true = both_right (is_cpu plan cpu && is_proper plan S o && is_proper plan S r) (may_start plan m S cpu.0 c o.id.0 (Some r)) h in
      let before : (is_cpu plan cpu && is_proper plan S o && is_proper plan S r) ≡ true = both_left (is_cpu plan cpu && is_proper plan S o && is_proper plan S r) (may_start plan m S cpu.0 c o.id.0 (Some r)) h in
      let two : (is_cpu plan cpu && is_proper plan S o) ≡ true = both_left (is_cpu plan cpu && is_proper plan S o) (is_proper plan S r) before in
      let lives : life_fits S c o.id.0 ≡ true = search (both_left, both_right) in
      let due : rank_ready_for plan S (row_of c).rank c o.id.0 r.id.0 ≡ true = search both_right in
      let carries = carried (row_of c).rank c o.id.0 r.id.0 due in (
        few_cpus plan b.resolved cpu.0 (ltb-true cpu.0 plan.cpus (both_left (is_cpu plan cpu) (is_proper plan S o) two)),
        handle_of_object o (both_right (is_cpu plan cpu) (is_proper plan S o) two) (life_there c o.id.0 lives),
        (request_few (row_of c).rank o.id.0 r.id.0 _ carries k, proper_name plan S b.resolved r (both_right (is_cpu plan cpu && is_proper plan S o) (is_proper plan S r) before)),
        carries,
      )

  -- ---- stages

  stage_few : (d : ℕ) (s : Stage) (h : Handle) (T : State A) → is_for_interrupt s ≡ true → AreDoable plan (stage_effect plan d s (Some h)) T → h.id.0 < 2 ^ 32
  stage_few d stage.Enabled h T is k = omega (arith, k.0)
  stage_few d stage.Disabled h T is k = omega (arith, k.0)
  stage_few d _ h T is k = absurd (let z : ⊥ = cc in z)

  interrupt_of_stage : (d : ℕ) (s : Stage) (i : Option Handle) (T : State A) → IsStepOf plan d (step.Pass s i) → AreDoable plan (stage_effect plan d s i) T → IsOptionalOf plan i × (is_for_interrupt s ≡ is_some i)
  interrupt_of_stage d s None T own k = (tt, own)
  interrupt_of_stage d s (Some h) T own k =
      let below = name_of_interrupt plan b.resolved h.id.0 in
      let same = own.1 in
      ((stage_few d s h T own.0 k, omega (arith, below, same)), own.0)

  stage_of_plan : (d : Handle) (s : Stage) (i : Option Handle) → may plan m S (event.Stage d s i) ≡ true → AreDoable plan (deeds plan S (event.Stage d s i)) S → IsEventOf plan (event.Stage d s i)
  stage_of_plan d s i h k =
      let proper : is_proper plan S d ≡ true = both_left (is_proper plan S d) (may_pass plan S d.id.0 s i) h in
      let passes : may_pass plan S d.id.0 s i ≡ true = both_right (is_proper plan S d) (may_pass plan S d.id.0 s i) h in
      let next : same_option same_step (next_step S.pnp d.id.0) (Some (step.Pass s i)) ≡ true = search both_left in
      let own = b.owned.next d.id.0 (step.Pass s i) (pass_is (next_step S.pnp d.id.0) s i next) in
      let there : d.id.0 < length S.pnp.devices = k.0 in
      let size = b.room.sizes.sequences in
      let declared = few_declared plan b.resolved in
      let tells = interrupt_of_stage d.id.0 s i _ own k.1.1 in
      ((omega (arith, there, size, declared), proper_name plan S b.resolved d proper), tells.0, tells.1)

  -- ---- the others

  unparked_there : (f : ℕ) → count_by (λ x. x == f) S.cpus.parked ≡ 1 → 1 ≤ count_by (λ x. x == f) (all_frames S.cpus)
  unparked_there f one =
      let all = count_behind (λ x. x == f) (flat_map (λ (fs : List ℕ). fs) S.cpus.stacks) S.cpus.parked in
      omega (arith, one, all)

  event_of_plan : (e : Event) → is_of_framework e ≡ true → may plan m S e ≡ true → AreDoable plan (deeds plan S e) S → IsEventOf plan e
  event_of_plan (event.Start cpu c o r) is h k = start_of_plan cpu c o r h k
  event_of_plan (event.Park cpu f) is h k =
      let t : same_id (top S.cpus cpu.0) f.0 ≡ true = search (both_left, both_right) in
      (cpus_few cpu.0 k.0, frames_few f.0 (top_on S.cpus cpu.0 f.0 (top_is (top S.cpus cpu.0) f.0 t)))
  event_of_plan (event.Unpark cpu f) is h k = (cpus_few cpu.0 k.0.0, frames_few f.0 (unparked_there f.0 (parked_once S.cpus f.0 (b.known.frames.once f.0) k.0.1)))
  event_of_plan (event.Stage d s i) is h k = stage_of_plan d s i h k
  event_of_plan (event.Complete r s) is h k =
      let proper : is_proper plan S r ≡ true = search both_left in
      (requests_few r.id.0 k.0.request.there, proper_name plan S b.resolved r proper)
  event_of_plan (event.Cleanup o) is h k =
      let proper : is_proper plan S o ≡ true = search both_left in
      handle_of_object o proper (inside gone (λ n. is_asked n.life) S.tree.nodes o.id.0 refl k.0)
  event_of_plan (event.Destroy o) is h k =
      let proper : is_proper plan S o ≡ true = search both_left in
      let dead : may_destroy S.tree o.id.0 ≡ true = k.0 in
      let done : is_cleaned (life_of S.tree o.id.0) ≡ true = search both_left in
      handle_of_object o proper (inside gone (λ n. is_cleaned n.life) S.tree.nodes o.id.0 refl done)
  event_of_plan _ is h k = absurd (let z : ⊥ = cc in z)

  tick_of_plan : (e : Event) → e ≡ event.Tick (S.clock + 1) → IsEventOf plan e
  tick_of_plan e same =
      let late = b.room.growth.clock in
      let number = b.number in
      let small : S.clock + 1 < 2 ^ 64 = omega (arith, late, number) in
      subst (IsEventOf plan) (sym same) small

-- ---- over runs

pub bounded : {A : Type 0} (plan : Plan) (m : Meaning A) (run : List Event) → IsResolved plan → IsRunOf plan m run → Bounded plan (state_after plan m run)
bounded {A} plan m run h is_run = record {
  resolved = h;
  known = known_now plan m run is_run;
  room = at_the_end plan m (λ (U : State A). RoomKept plan U) run (room_is_kept plan m run h is_run (length run));
  owned = at_the_end plan m (λ (U : State A). StepsOwned plan U) run (steps_owned_at_each plan m run is_run (length run));
  number = let same = number_is plan m run is_run in let few = within_limit_of plan m run is_run in let limit = few_events plan h in omega (arith, same, few, limit);
}

ready_of_plan : {A : Type 0} (plan : Plan) (m : Meaning A) (run : List Event) (place : ℕ) (e : Event) → IsResolved plan → IsRunOf plan m run → slice_get (ready plan m run) place ≡ Some e → is_of_framework e ≡ true → IsEventOf plan e
ready_of_plan plan m run place e h is_run at is =
    let S = state_after plan m run in
    let b = bounded plan m run h is_run in
    elim (follows plan m run place e at) [
      | inl comes ↦ event_of_plan plan m S b e is comes (ready_doable plan m run place e h is_run b.room at)
      | inr t ↦ tick_of_plan plan m S b e t.tick
    ]

pub framework_of_plan : {A : Type 0} (plan : Plan) (m : Meaning A) (run : List Event) (place : ℕ) (e : Event) → IsResolved plan → IsRunOf plan m run → slice_get (ready plan m run) place ≡ Some e → is_of_framework e ≡ true → IsEventOf plan e
framework_of_plan = ready_of_plan
