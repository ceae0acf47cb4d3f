-- The groups of candidates, in blocks: one more of each loop, and how many there are.
use Rattle.std.proofs.Common.{if◌then◌else◌, ◌&&◌, ◌⊎◌, inl, inr, ◌≡◌, ℕ, zero, suc, ◌+◌, ◌*◌, ◌^◌, ◌<◌, ◌≤◌, Bool, true, false, List, [], ◌∷◌, ◌++◌, filter, is_some, get_or, length, map, take, refl, sym, ap, ◌∙◌, arith, append_assoc, length-append}
use Rattle.std.specs.List.{flat_map, range_with_len}
use Rattle.std.proofs.lemmas.Grind.{flat_map-append}
use Rattle.std.proofs.lemmas.List.{take_more}
use Rattle.std.proofs.lemmas.List.Elements.{filter-append}
use Rattle.std.proofs.lemmas.List.FromFn.{length-range_with_len}
use Rattle.wdf_base.specs.declared.plan.Plan.{Plan}
use Rattle.wdf_base.specs.declared.rank.Rank.{Rank}
use Rattle.wdf_base.specs.declared.rank.Rank.TheVariants as rank
use Rattle.wdf_model.specs.declared.enums.Group.{Group}
use Rattle.wdf_model.specs.declared.enums.Group.TheVariants as group
use Rattle.wdf_model.proofs.Tests.{left_fails}
use Rattle.wdf_model.specs.Plans.{declared_ids, queue_of, target_of}
use Rattle.wdf_model.specs.rules.Groups.{RANKS, groups, groups_for, groups_of_cpu, groups_of_rank}
use Rattle.wdf_offers.specs.Search.{can_start_for, has_places}
use Rattle.wdf_ready.specs.Blocks.{ObjectLists, groups_in, has_group, is_startable, joined, lists_of, objects_of}
use Rattle.wdf_ready.specs.declared.blocks.Block.{Block}

-- ---- loops

range_more : (a n : ℕ) → range_with_len a (suc n) ≡ range_with_len a n ++ (a + n) ∷ []
range_more a zero = let e : a + 0 ≡ a = omega arith in rw e refl
range_more a (suc n) = let e : a + 1 + n ≡ a + suc n = omega arith in ap (λ xs. a ∷ xs) (range_more (a + 1) n ∙ ap (λ x. range_with_len (a + 1) n ++ x ∷ []) e)

range_next : (n : ℕ) → range_with_len 0 (n + 1) ≡ range_with_len 0 n ++ n ∷ []
range_next n =
    let m : n + 1 ≡ suc n = omega arith in
    let e : 0 + n ≡ n = omega arith in
    rw m (range_more 0 n ∙ ap (λ x. range_with_len 0 n ++ x ∷ []) e)

append_nothing : {X : Type 0} (xs : List X) → xs ++ [] ≡ xs
append_nothing [] = refl
append_nothing (x ∷ xs) = ap (λ ys. x ∷ ys) (append_nothing xs)

-- ---- the objects of a rank

-- the ids up to k that pass
abbrev pub up_to : (ℕ → Bool) → ℕ → List ℕ
up_to p k = filter p (range_with_len 0 (suc k))

up_to_next : (p : ℕ → Bool) (k : ℕ) → up_to p (k + 1) ≡ up_to p k ++ filter p ((k + 1) ∷ [])
up_to_next p k =
    let m : suc (k + 1) ≡ suc k + 1 = omega arith in
    let n : suc k ≡ k + 1 = omega arith in
    ap (λ j. filter p (range_with_len 0 j)) m
    ∙ ap (filter p) (range_next (suc k))
    ∙ filter-append p (range_with_len 0 (suc k)) (suc k ∷ [])
    ∙ ap (λ j. up_to p k ++ filter p (j ∷ [])) n

none_at_first : (plan : Plan) (r : Rank) → has_group plan r 0 ≡ false
none_at_first plan rank.Completion = refl
none_at_first plan _ = refl

module _ (plan : Plan) (r : Rank) where
  -- 0 is no object
  pub none_yet : [] ≡ up_to (is_startable plan r) 0
  none_yet = let e = left_fails (has_group plan r 0) (can_start_for plan r 0) (none_at_first plan r) in rw e refl

  -- one id more, which has a group that can have places, or not
  module _ (k : ℕ) (ids : List ℕ) (so_far : ids ≡ up_to (is_startable plan r) k) where
    pub one_startable : is_startable plan r (k + 1) ≡ true → ids ++ (k + 1) ∷ [] ≡ up_to (is_startable plan r) (k + 1)
    one_startable e =
        let this : filter (is_startable plan r) ((k + 1) ∷ []) ≡ (k + 1) ∷ [] = rw e refl in
        ap (λ xs. xs ++ (k + 1) ∷ []) so_far ∙ sym (up_to_next (is_startable plan r) k ∙ ap (λ xs. up_to (is_startable plan r) k ++ xs) this)

    pub not_startable : is_startable plan r (k + 1) ≡ false → ids ≡ up_to (is_startable plan r) (k + 1)
    not_startable e =
        let this : filter (is_startable plan r) ((k + 1) ∷ []) ≡ [] = rw e refl in
        so_far ∙ sym (up_to_next (is_startable plan r) k ∙ ap (λ xs. up_to (is_startable plan r) k ++ xs) this ∙ append_nothing (up_to (is_startable plan r) k))

-- ---- the groups for them

both_kept : (p q : ℕ → Bool) (ids : List ℕ) → filter q (filter p ids) ≡ filter (λ x. p x && q x) ids
both_kept p q [] = refl
both_kept p q (x ∷ ids) = by (p x) refl (both_kept p q ids)
  where
    by : (b : Bool) → p x ≡ b → filter q (filter p ids) ≡ filter (λ y. p y && q y) ids → filter q (if b then x ∷ filter p ids else filter p ids) ≡ filter (λ y. p y && q y) (x ∷ ids)
    by true e rest = rw (e, rest) refl
    by false e rest = rw (e, rest) refl

kept_groups : (plan : Plan) (cpu : ℕ) (r : Rank) (ids : List ℕ) → filter (has_places plan) (groups_for cpu r ids) ≡ groups_for cpu r (filter (can_start_for plan r) ids)
kept_groups plan cpu r [] = refl
kept_groups plan cpu r (o ∷ ids) = by (can_start_for plan r o) refl (kept_groups plan cpu r ids)
  where
    by : (b : Bool) → can_start_for plan r o ≡ b → filter (has_places plan) (groups_for cpu r ids) ≡ groups_for cpu r (filter (can_start_for plan r) ids)
        → filter (has_places plan) (groups_for cpu r (o ∷ ids)) ≡ groups_for cpu r (filter (can_start_for plan r) (o ∷ ids))
    by true e rest = rw (e, rest) refl
    by false e rest = rw (e, rest) refl

-- a rank has a group for each of its objects
abbrev pub IsForObjects : Plan → ℕ → Rank → Type 0
IsForObjects plan cpu r = groups_for cpu r (objects_of (lists_of plan) r) ≡ filter (has_places plan) (groups_of_rank plan cpu r)

for_objects : (plan : Plan) (cpu : ℕ) (r : Rank) (p : ℕ → Bool) → groups_for cpu r (filter (λ x. p x && can_start_for plan r x) (declared_ids plan)) ≡ filter (has_places plan) (groups_for cpu r (filter p (declared_ids plan)))
for_objects plan cpu r p = sym (kept_groups plan cpu r (filter p (declared_ids plan)) ∙ ap (groups_for cpu r) (both_kept p (can_start_for plan r) (declared_ids plan)))

-- it is a rank for requests
abbrev pub IsForRequests : Rank → Type 0
IsForRequests r = (r ≡ rank.Completion) ⊎ ((r ≡ rank.Cancel) ⊎ ((r ≡ rank.CanceledOnQueue) ⊎ ((r ≡ rank.Stop) ⊎ (r ≡ rank.Resume))))

pub for_rank : (plan : Plan) (cpu : ℕ) (r : Rank) → IsForRequests r → IsForObjects plan cpu r
for_rank plan cpu r (inl e) = rw e (for_objects plan cpu rank.Completion (λ id. is_some (target_of plan id)))
for_rank plan cpu r (inr (inl e)) = rw e (for_objects plan cpu rank.Cancel (λ id. is_some (queue_of plan id)))
for_rank plan cpu r (inr (inr (inl e))) = rw e (for_objects plan cpu rank.CanceledOnQueue (λ id. is_some (queue_of plan id)))
for_rank plan cpu r (inr (inr (inr (inl e)))) = rw e (for_objects plan cpu rank.Stop (λ id. is_some (queue_of plan id)))
for_rank plan cpu r (inr (inr (inr (inr e)))) = rw e (for_objects plan cpu rank.Resume (λ id. is_some (queue_of plan id)))

-- ---- one piece more

-- a block more
pub pushed : (o : ObjectLists) (bs : List Block) (b : Block) → joined o (bs ++ b ∷ []) ≡ joined o bs ++ groups_in o b
pushed o bs b = flat_map-append (groups_in o) bs (b ∷ []) ∙ ap (λ gs. joined o bs ++ gs) (append_nothing (groups_in o b))

-- no block, where there would be no group
pub not_pushed : (o : ObjectLists) (bs : List Block) (gs : List Group) → gs ≡ [] → joined o bs ≡ joined o bs ++ gs
not_pushed o bs gs none = sym (ap (λ xs. joined o bs ++ xs) none ∙ append_nothing (joined o bs))

pub no_objects : (cpu : ℕ) (r : Rank) (ids : List ℕ) → length ids ≡ 0 → groups_for cpu r ids ≡ []
no_objects cpu r [] h = refl
no_objects cpu r (x ∷ ids) h = absurd (omega arith)

module _ (plan : Plan) (made before : List Group) where
  one_piece : {X : Type 0} (f : X → List Group) (xs : List X) (x : X) (ys : List X) → ys ≡ xs ++ x ∷ [] → made ≡ before ++ filter (has_places plan) (flat_map f xs)
      → made ++ filter (has_places plan) (f x) ≡ before ++ filter (has_places plan) (flat_map f ys)
  one_piece f xs x ys e so_far =
      ap (λ gs. gs ++ filter (has_places plan) (f x)) so_far
      ∙ append_assoc before (filter (has_places plan) (flat_map f xs)) (filter (has_places plan) (f x))
      ∙ ap (λ gs. before ++ gs)
      (sym (ap (λ zs. filter (has_places plan) (flat_map f zs)) e ∙ ap (filter (has_places plan)) (flat_map-append f xs (x ∷ []) ∙ ap (λ gs. flat_map f xs ++ gs) (append_nothing (f x)))
      ∙ filter-append (has_places plan) (flat_map f xs) (f x)))

  -- one processor more
  pub one_processor : (n : ℕ) → made ≡ before ++ filter (has_places plan) (flat_map (groups_of_cpu plan) (range_with_len 0 n))
      → made ++ filter (has_places plan) (groups_of_cpu plan n) ≡ before ++ filter (has_places plan) (flat_map (groups_of_cpu plan) (range_with_len 0 (n + 1)))
  one_processor n = one_piece (groups_of_cpu plan) (range_with_len 0 n) n (range_with_len 0 (n + 1)) (range_next n)

  -- one rank more
  pub one_rank : (cpu i : ℕ) (r : Rank) → i < 14 → made ≡ before ++ filter (has_places plan) (flat_map (groups_of_rank plan cpu) (take i RANKS))
      → made ++ filter (has_places plan) (groups_of_rank plan cpu (get_or RANKS i r)) ≡ before ++ filter (has_places plan) (flat_map (groups_of_rank plan cpu) (take (i + 1) RANKS))
  one_rank cpu i r h = one_piece (groups_of_rank plan cpu) (take i RANKS) (get_or RANKS i r) (take (i + 1) RANKS) (take_more RANKS i r h)

-- ---- how many there are

fewer_by : (p : ℕ → Bool) (x : ℕ) (xs : List ℕ) (b : Bool) → p x ≡ b → length (filter p xs) ≤ length xs → length (filter p (x ∷ xs)) ≤ length (x ∷ xs)
fewer_by p x xs true e h = rw e (omega (arith, h))
fewer_by p x xs false e h = rw e (omega (arith, h))

fewer_pass : (p : ℕ → Bool) (xs : List ℕ) → length (filter p xs) ≤ length xs
fewer_pass p [] = omega arith
fewer_pass p (x ∷ xs) = fewer_by p x xs (p x) refl (fewer_pass p xs)

as_many : {X Y : Type 0} (f : X → Y) (xs : List X) → length (map f xs) ≡ length xs
as_many f [] = refl
as_many f (x ∷ xs) = ap suc (as_many f xs)

pieces : {X Y : Type 0} (f : X → List Y) (most : ℕ) → ((x : X) → length (f x) ≤ most) → (xs : List X) → length (flat_map f xs) ≤ length xs * most
pieces f most each [] = omega arith
pieces f most each (x ∷ xs) =
    let all = length-append (f x) (flat_map f xs) in
    let rest = pieces f most each xs in
    let one = each x in
    omega (arith, all, rest, one)

module _ (plan : Plan) (few : length plan.declared ≤ 4096) where
  few_ids : (p : ℕ → Bool) (cpu : ℕ) (r : Rank) → length (groups_for cpu r (filter p (declared_ids plan))) ≤ 4097
  few_ids p cpu r =
      let same = as_many (λ o. group.StartsFor cpu r o) (filter p (declared_ids plan)) in
      let passed = fewer_pass p (declared_ids plan) in
      let all = length-range_with_len 0 (suc (length plan.declared)) in
      omega (arith, same, passed, all, few)

  few_of_rank : (cpu : ℕ) (r : Rank) → length (groups_of_rank plan cpu r) ≤ 4097
  few_of_rank cpu rank.Completion = few_ids (λ id. is_some (target_of plan id)) cpu rank.Completion
  few_of_rank cpu rank.Cancel = few_ids (λ id. is_some (queue_of plan id)) cpu rank.Cancel
  few_of_rank cpu rank.CanceledOnQueue = few_ids (λ id. is_some (queue_of plan id)) cpu rank.CanceledOnQueue
  few_of_rank cpu rank.Stop = few_ids (λ id. is_some (queue_of plan id)) cpu rank.Stop
  few_of_rank cpu rank.Resume = few_ids (λ id. is_some (queue_of plan id)) cpu rank.Resume
  few_of_rank cpu _ = omega arith

  few_of_cpu : (cpu : ℕ) → length (groups_of_cpu plan cpu) ≤ 57361
  few_of_cpu cpu = let h = pieces (groups_of_rank plan cpu) 4097 (few_of_rank cpu) RANKS in omega (arith, h)

-- at most 8 processors and 4,096 declared objects make fewer than 2 ^ 20 groups
pub few_groups : (plan : Plan) → plan.cpus ≤ 8 → length plan.declared ≤ 4096 → length (groups plan) < 2 ^ 20
few_groups plan cpus few =
    let each = pieces (groups_of_cpu plan) 57361 (few_of_cpu plan few) (range_with_len 0 plan.cpus) in
    let ends = length-append (flat_map (groups_of_cpu plan) (range_with_len 0 plan.cpus)) (group.Stages ∷ group.Completions ∷ group.Cleanups ∷ group.Destroys ∷ group.Posts ∷ []) in
    let many = length-range_with_len 0 plan.cpus in
    omega (arith, each, ends, many, cpus)
