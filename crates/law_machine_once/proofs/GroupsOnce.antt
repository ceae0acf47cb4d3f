-- The groups of candidates are listed once each.
use Rattle.std.proofs.Common.{◌≡◌, ℕ, Bool, true, false, List, [], ◌∷◌, suc, length, is_some, refl, ap, ◌∙◌}
use Rattle.std.specs.List.{flat_map, range_with_len}
use Rattle.wdf_base.specs.declared.plan.Plan.{Plan}
use Rattle.wdf_base.specs.declared.rank.Rank.{Rank}
use Rattle.wdf_base.specs.declared.rank.Rank.TheVariants as rank
use Rattle.wdf_model.specs.declared.enums.Group.{Group}
use Rattle.wdf_model.specs.declared.enums.Group.TheVariants as group
use Rattle.wdf_model.specs.Plans.{queue_of, target_of, targets_of, declared_ids}
use Rattle.wdf_model.specs.rules.Groups.{RANKS, groups, groups_for, groups_of_cpu, groups_of_rank, queues_in}
use Rattle.law_machine_lives.proofs.Lists.{Each, each_behind, each_still}
use Rattle.law_machine_once.proofs.OnceEach.{Once, each_flat, each_image, each_of_all, once_behind, once_filtered, once_flat, once_from, once_image, once_range, once_tested}

-- ---- numbers that tell groups apart

abbrev rank_number : Rank → ℕ
rank_number rank.Isr = 0
rank_number rank.Deferred = 1
rank_number rank.Timed = 2
rank_number rank.Completion = 3
rank_number rank.Cancel = 4
rank_number rank.CanceledOnQueue = 5
rank_number rank.Stop = 6
rank_number rank.Resume = 7
rank_number rank.QueueState = 8
rank_number rank.Handler = 9
rank_number rank.Sequence = 10
rank_number rank.Work = 11
rank_number rank.Cleanup = 12
rank_number rank.Destroy = 13

-- the ranks whose callbacks are for requests, a group for each object
abbrev pub is_rank_for : Rank → Bool
is_rank_for rank.Completion = true
is_rank_for rank.Cancel = true
is_rank_for rank.CanceledOnQueue = true
is_rank_for rank.Stop = true
is_rank_for rank.Resume = true
is_rank_for _ = false

abbrev rank_of : Group → ℕ
rank_of (group.Starts cpu r) = rank_number r
rank_of (group.StartsFor cpu r o) = rank_number r
rank_of _ = 0

abbrev cpu_of_group : Group → ℕ
cpu_of_group (group.OwnEvent cpu) = cpu
cpu_of_group (group.Parks cpu) = cpu
cpu_of_group (group.Unparks cpu) = cpu
cpu_of_group (group.Starts cpu r) = cpu
cpu_of_group (group.StartsFor cpu r o) = cpu
cpu_of_group _ = 0

abbrev object_of_group : Group → ℕ
object_of_group (group.StartsFor cpu r o) = o
object_of_group _ = 0

abbrev is_start_group : Group → Bool
is_start_group (group.Starts cpu r) = true
is_start_group (group.StartsFor cpu r o) = true
is_start_group _ = false

abbrev is_cpu_group : Group → Bool
is_cpu_group group.Stages = false
is_cpu_group group.Completions = false
is_cpu_group group.Cleanups = false
is_cpu_group group.Destroys = false
is_cpu_group group.Posts = false
is_cpu_group _ = true

abbrev tail_number : Group → ℕ
tail_number group.Stages = 1
tail_number group.Completions = 2
tail_number group.Cleanups = 3
tail_number group.Destroys = 4
tail_number group.Posts = 5
tail_number _ = 0

-- a group of starts for requests is of a rank that has them
abbrev pub is_known_group : Group → Bool
is_known_group (group.StartsFor cpu r o) = is_rank_for r
is_known_group _ = true

-- ---- the groups of a rank

record OfRank (cpu : ℕ) (r : Rank) (g : Group) : Type 0 where
  ranked : rank_of g ≡ rank_number r
  placed : cpu_of_group g ≡ cpu
  starts : is_start_group g ≡ true
  known : is_known_group g ≡ true

for_each : (cpu : ℕ) (r : Rank) (os : List ℕ) → is_rank_for r ≡ true → Each (OfRank cpu r) (groups_for cpu r os)
for_each cpu r os h = each_image (OfRank cpu r) (λ o. group.StartsFor cpu r o) os (each_of_all (λ o. OfRank cpu r (group.StartsFor cpu r o)) (λ o. record { ranked = refl; placed = refl; starts = refl; known = h }) os)

of_rank : (plan : Plan) (cpu : ℕ) (r : Rank) → Each (OfRank cpu r) (groups_of_rank plan cpu r)
of_rank plan cpu rank.Completion = for_each cpu rank.Completion (targets_of plan) refl
of_rank plan cpu rank.Cancel = for_each cpu rank.Cancel (queues_in plan) refl
of_rank plan cpu rank.CanceledOnQueue = for_each cpu rank.CanceledOnQueue (queues_in plan) refl
of_rank plan cpu rank.Stop = for_each cpu rank.Stop (queues_in plan) refl
of_rank plan cpu rank.Resume = for_each cpu rank.Resume (queues_in plan) refl
of_rank plan cpu r = (record { ranked = refl; placed = refl; starts = refl; known = refl }, tt)

for_once : (cpu : ℕ) (r : Rank) (os : List ℕ) → Once os → Once (groups_for cpu r os)
for_once cpu r os h = once_from object_of_group (groups_for cpu r os) (once_image object_of_group (λ o. group.StartsFor cpu r o) os h)

targets_once : (plan : Plan) → Once (targets_of plan)
targets_once plan = once_filtered (λ x. x) (λ id. is_some (target_of plan id)) (declared_ids plan) (once_range 0 (suc (length plan.declared)))

queues_once : (plan : Plan) → Once (queues_in plan)
queues_once plan = once_filtered (λ x. x) (λ id. is_some (queue_of plan id)) (declared_ids plan) (once_range 0 (suc (length plan.declared)))

rank_once : (plan : Plan) (cpu : ℕ) (r : Rank) → Once (groups_of_rank plan cpu r)
rank_once plan cpu rank.Completion = for_once cpu rank.Completion (targets_of plan) (targets_once plan)
rank_once plan cpu rank.Cancel = for_once cpu rank.Cancel (queues_in plan) (queues_once plan)
rank_once plan cpu rank.CanceledOnQueue = for_once cpu rank.CanceledOnQueue (queues_in plan) (queues_once plan)
rank_once plan cpu rank.Stop = for_once cpu rank.Stop (queues_in plan) (queues_once plan)
rank_once plan cpu rank.Resume = for_once cpu rank.Resume (queues_in plan) (queues_once plan)
rank_once plan cpu r = (tt, tt)

-- ---- the groups of a processor

abbrev starts_of : Plan → ℕ → List Group
starts_of plan cpu = flat_map (groups_of_rank plan cpu) RANKS

each_start : (plan : Plan) (cpu : ℕ) (P : Group → Type 0) → ((r : Rank) (g : Group) → OfRank cpu r g → P g) → Each P (starts_of plan cpu)
each_start plan cpu P h =
    each_flat P (groups_of_rank plan cpu) RANKS (each_of_all (λ r. Each P (groups_of_rank plan cpu r)) (λ r. each_still (OfRank cpu r) P (h r) (groups_of_rank plan cpu r) (of_rank plan cpu r)) RANKS)

starts_once : (plan : Plan) (cpu : ℕ) → Once (starts_of plan cpu)
starts_once plan cpu =
    once_flat rank_of rank_number (groups_of_rank plan cpu) RANKS (once_tested rank_number RANKS refl)
    (each_of_all (λ r. Each (λ g. rank_of g ≡ rank_number r) (groups_of_rank plan cpu r)) (λ r. each_still (OfRank cpu r) (λ g. rank_of g ≡ rank_number r) (λ g k. k.ranked) (groups_of_rank plan cpu r) (of_rank plan cpu r)) RANKS)
    (each_of_all (λ r. Once (groups_of_rank plan cpu r)) (rank_once plan cpu) RANKS)

no_start : (plan : Plan) (cpu : ℕ) (x : Group) → is_start_group x ≡ false → Each (λ y. x ≡ y → ⊥) (starts_of plan cpu)
no_start plan cpu x h = each_start plan cpu (λ y. x ≡ y → ⊥) (λ r g k e. let other : is_start_group x ≡ true = ap is_start_group e ∙ k.starts in let z : ⊥ = cc in z)

abbrev front_number : Group → ℕ
front_number (group.OwnEvent cpu) = 0
front_number (group.Parks cpu) = 1
front_number (group.Unparks cpu) = 2
front_number _ = 3

cpu_once : (plan : Plan) (cpu : ℕ) → Once (groups_of_cpu plan cpu)
cpu_once plan cpu = (
  (λ e. absurd (let f : 0 ≡ 1 = ap front_number e in let z : ⊥ = cc in z), (λ e. absurd (let f : 0 ≡ 2 = ap front_number e in let z : ⊥ = cc in z), no_start plan cpu (group.OwnEvent cpu) refl)),
  (
    (λ e. absurd (let f : 1 ≡ 2 = ap front_number e in let z : ⊥ = cc in z), no_start plan cpu (group.Parks cpu) refl),
    (no_start plan cpu (group.Unparks cpu) refl, starts_once plan cpu),
  ),
)

each_of_cpu : (plan : Plan) (cpu : ℕ) (P : Group → Type 0) → P (group.OwnEvent cpu) → P (group.Parks cpu) → P (group.Unparks cpu) → ((r : Rank) (g : Group) → OfRank cpu r g → P g) → Each P (groups_of_cpu plan cpu)
each_of_cpu plan cpu P a b c h = (a, (b, (c, each_start plan cpu P h)))

-- ---- all groups

abbrev groups_of_cpus : Plan → List Group
groups_of_cpus plan = flat_map (groups_of_cpu plan) (range_with_len 0 plan.cpus)

start_of_cpu : (g : Group) → is_start_group g ≡ true → is_cpu_group g ≡ true
start_of_cpu group.Stages h = absurd (let z : ⊥ = cc in z)
start_of_cpu group.Completions h = absurd (let z : ⊥ = cc in z)
start_of_cpu group.Cleanups h = absurd (let z : ⊥ = cc in z)
start_of_cpu group.Destroys h = absurd (let z : ⊥ = cc in z)
start_of_cpu group.Posts h = absurd (let z : ⊥ = cc in z)
start_of_cpu _ h = refl

on_cpus : (plan : Plan) → Each (λ g. is_cpu_group g ≡ true) (groups_of_cpus plan)
on_cpus plan =
    each_flat (λ g. is_cpu_group g ≡ true) (groups_of_cpu plan) (range_with_len 0 plan.cpus)
    (each_of_all (λ cpu. Each (λ g. is_cpu_group g ≡ true) (groups_of_cpu plan cpu)) (λ cpu. each_of_cpu plan cpu (λ g. is_cpu_group g ≡ true) refl refl refl (λ r g k. start_of_cpu g k.starts)) (range_with_len 0 plan.cpus))

cpus_once : (plan : Plan) → Once (groups_of_cpus plan)
cpus_once plan =
    once_flat cpu_of_group (λ x. x) (groups_of_cpu plan) (range_with_len 0 plan.cpus) (once_range 0 plan.cpus)
    (each_of_all (λ cpu. Each (λ g. cpu_of_group g ≡ cpu) (groups_of_cpu plan cpu)) (λ cpu. each_of_cpu plan cpu (λ g. cpu_of_group g ≡ cpu) refl refl refl (λ r g k. k.placed)) (range_with_len 0 plan.cpus))
    (each_of_all (λ cpu. Once (groups_of_cpu plan cpu)) (cpu_once plan) (range_with_len 0 plan.cpus))

abbrev last_groups : List Group
last_groups = group.Stages ∷ group.Completions ∷ group.Cleanups ∷ group.Destroys ∷ group.Posts ∷ []

off_cpus : Each (λ g. is_cpu_group g ≡ true → ⊥) last_groups
off_cpus = (λ e. let z : ⊥ = cc in z, (λ e. let z : ⊥ = cc in z, (λ e. let z : ⊥ = cc in z, (λ e. let z : ⊥ = cc in z, (λ e. let z : ⊥ = cc in z, tt)))))

pub groups_once : (plan : Plan) → Once (groups plan)
groups_once plan = once_behind (λ g. is_cpu_group g ≡ true) (groups_of_cpus plan) last_groups (on_cpus plan) off_cpus (cpus_once plan) (once_from tail_number last_groups (once_tested tail_number last_groups refl))

pub groups_known : (plan : Plan) → Each (λ g. is_known_group g ≡ true) (groups plan)
groups_known plan =
    each_behind (λ g. is_known_group g ≡ true) (groups_of_cpus plan) last_groups
    (each_flat (λ g. is_known_group g ≡ true) (groups_of_cpu plan) (range_with_len 0 plan.cpus)
    (each_of_all (λ cpu. Each (λ g. is_known_group g ≡ true) (groups_of_cpu plan cpu)) (λ cpu. each_of_cpu plan cpu (λ g. is_known_group g ≡ true) refl refl refl (λ r g k. k.known)) (range_with_len 0 plan.cpus)))
    (refl, (refl, (refl, (refl, (refl, tt)))))
