-- Blocks and their groups: what may come of all is what may come of the blocks, one after another.
use Rattle.std.proofs.Common.{ℕ, zero, suc, ◌≡◌, ◌+◌, ◌*◌, ◌<◌, ◌≤◌, ◌^◌, List, [], ◌∷◌, ◌++◌, drop, length, map, Some, slice_get, refl, sym, ap, ◌∙◌, subst, arith, append-nil, length-append}
use Rattle.std.specs.Prelude.{Result, MatchResult}
use Rattle.std.specs.List.{flat_map}
use Rattle.std.proofs.lemmas.Grind.{flat_map-append}
use Rattle.std.proofs.lemmas.List.Folds.{flat_map-map}
use Rattle.wdf_base.specs.Meaning.{Meaning}
use Rattle.wdf_base.specs.declared.event.Event.{Event}
use Rattle.wdf_base.specs.declared.event.Actor.{Actor}
use Rattle.wdf_base.specs.declared.plan.Plan.{Plan}
use Rattle.wdf_base.specs.declared.rank.Rank.{Rank}
use Rattle.wdf_model.specs.declared.enums.Group.{Group}
use Rattle.wdf_model.specs.declared.enums.Group.TheVariants as group
use Rattle.wdf_model.specs.State.{State}
use Rattle.wdf_offers.specs.Search.{HasNone, IsFirst, events_of, offered_from}
use Rattle.wdf_offers.proofs.Passing.{piece_opens}
use Rattle.wdf_ready.specs.Actors.{is_by}
use Rattle.wdf_ready.specs.Blocks.{ObjectLists, events_for, events_in, groups_in, joined, objects_of}
use Rattle.wdf_ready.specs.declared.blocks.Block.{Block}
use Rattle.wdf_ready.specs.declared.blocks.Block.TheVariants as block

-- the k-th, or how many places are left
abbrev pub AtOrLeft : Result Event ℕ → List Event → ℕ → Type 0
AtOrLeft r es k = MatchResult r (λ e. slice_get es k ≡ Some e) (λ rest. length es + rest ≡ k)

-- the first of an actor, or how many there are
abbrev pub FirstOrNone : Actor → Result ℕ ℕ → List Event → Type 0
FirstOrNone who r es = MatchResult r (IsFirst (is_by who) es) (HasNone (is_by who) es)

-- what may come for the requests of an object
abbrev pub for_object : {A : Type 0} → Plan → Meaning A → State A → ℕ → Rank → ℕ → List Event
for_object plan m S cpu r o = offered_from plan m S (group.StartsFor cpu r o) 0

as_many : {X Y : Type 0} (f : X → Y) (xs : List X) → length (map f xs) ≡ length xs
as_many f [] = refl
as_many f (x ∷ xs) = ap suc (as_many f xs)

none_of_all : {X T : Type 0} (f : X → List T) → ((x : X) → f x ≡ []) → (xs : List X) → flat_map f xs ≡ []
none_of_all f none [] = refl
none_of_all f none (x ∷ xs) = rw (none x, none_of_all f none xs) refl

-- where one of the pieces has something, all have
pub some_events : {X T : Type 0} (f : X → List T) (xs : List X) (i : ℕ) (x : X) → slice_get xs i ≡ Some x → 0 < length (f x) → 0 < length (flat_map f xs)
some_events f [] i x at some = absurd (let z : ⊥ = cc in z)
some_events f (y ∷ xs) zero x at some =
    let same : y ≡ x = cc in
    let here : 0 < length (f y) = subst (λ z. 0 < length (f z)) (sym same) some in
    let sum = length-append (f y) (flat_map f xs) in
    omega arith
some_events f (y ∷ xs) (suc i) x at some =
    let rest = some_events f xs i x at some in
    let sum = length-append (f y) (flat_map f xs) in
    omega arith

module _ {A : Type 0} (plan : Plan) (m : Meaning A) (S : State A) where
  -- object by object
  pub each_are : (cpu : ℕ) (r : Rank) (ids : List ℕ) → events_for plan m S cpu r ids ≡ flat_map (for_object plan m S cpu r) ids
  each_are cpu r ids = flat_map-map (λ g. offered_from plan m S g 0) (λ o. group.StartsFor cpu r o) ids

  -- block by block
  pub blocks_are : (o : ObjectLists) (bs : List Block) → events_of plan m S (joined o bs) ≡ flat_map (events_in plan m S o) bs
  blocks_are o [] = refl
  blocks_are o (b ∷ bs) = flat_map-append (λ g. offered_from plan m S g 0) (groups_in o b) (joined o bs) ∙ ap (λ es. events_in plan m S o b ++ es) (blocks_are o bs)

  -- ---- a block

  module _ (o : ObjectLists) (b : Block) where
    pub in_one : (g : Group) → b ≡ block.One g → events_in plan m S o b ≡ offered_from plan m S g 0
    in_one g is = rw is (append-nil (offered_from plan m S g 0))

    pub in_each : (cpu : ℕ) (r : Rank) (ids : List ℕ) → b ≡ block.ForEach cpu r → ids ≡ objects_of o r → events_in plan m S o b ≡ events_for plan m S cpu r ids
    in_each cpu r ids is all = rw (is, all) refl

    pub in_resting : (cpu : ℕ) (r : Rank) → b ≡ block.ForEach cpu r → ((x : ℕ) → for_object plan m S cpu r x ≡ []) → events_in plan m S o b ≡ []
    in_resting cpu r is none = rw is (each_are cpu r (objects_of o r) ∙ none_of_all (for_object plan m S cpu r) none (objects_of o r))

-- ---- how many groups there are

module _ (o : ObjectLists) where
  pub one_group : (b : Block) (g : Group) → b ≡ block.One g → length (groups_in o b) ≡ 1
  one_group b g is = rw is refl

  pub each_groups : (b : Block) (cpu : ℕ) (r : Rank) (ids : List ℕ) → b ≡ block.ForEach cpu r → ids ≡ objects_of o r → length (groups_in o b) ≡ length ids
  each_groups b cpu r ids is all = rw (is, all) (as_many (λ x. group.StartsFor cpu r x) (objects_of o r))

  -- a block has no more groups than all have
  pub block_within : (bs : List Block) (i : ℕ) (b : Block) → slice_get bs i ≡ Some b → length (groups_in o b) ≤ length (joined o bs)
  block_within [] i b at = absurd (let z : ⊥ = cc in z)
  block_within (x ∷ bs) zero b at =
      let same : x ≡ b = cc in
      let sum = length-append (groups_in o x) (joined o bs) in
      subst (λ y. length (groups_in o y) ≤ length (joined o (x ∷ bs))) same (omega (arith, sum))
  block_within (x ∷ bs) (suc i) b at =
      let rest = block_within bs i b at in
      let sum = length-append (groups_in o x) (joined o bs) in
      omega (arith, rest, sum)

  -- what is counted, and the most that the blocks left can have, is no more than all can have
  pub fewer_left : (bs : List Block) (i sum n most : ℕ) (b : Block) → slice_get bs i ≡ Some b → n ≤ length (groups_in o b) * 2 ^ 32 → sum + length (joined o (drop i bs)) * 2 ^ 32 ≤ most
      → sum + n + length (joined o (drop (i + 1) bs)) * 2 ^ 32 ≤ most
  fewer_left bs i sum n most b at low few =
      let opens = ap length (piece_opens (groups_in o) bs i b at) in
      let more = length-append (groups_in o b) (joined o (drop (i + 1) bs)) in
      omega (arith, opens, more, low, few)

-- ---- places and counts that aren't large

abbrev pub IsSmall : Result ℕ ℕ → ℕ → Type 0
IsSmall r groups = MatchResult r (λ place. place ≤ groups * 2 ^ 32) (λ count. count ≤ groups * 2 ^ 32)

pub small_enough : (r : Result ℕ ℕ) (n groups : ℕ) → n ≡ groups → IsSmall r n → IsSmall r groups
small_enough r n groups same small = subst (IsSmall r) same small
