-- A group that an event doesn't touch offers the same events before and after it.
use Rattle.std.proofs.Common.{◌≡◌, ℕ, Bool, true, false, ◌==◌, ◌||◌, List, [], ◌∷◌, ◌++◌, ◌+◌, filter, length, length-append, Some, None, refl, ap, sym, subst, ◌∙◌}
use Rattle.std.proofs.lemmas.List.Elements.{filter-append}
use Rattle.std.proofs.lemmas.List.Sums.{sum_by-cons}
use Rattle.std.specs.List.{flat_map, sum_by}
use Rattle.wdf_base.specs.Meaning.{Meaning}
use Rattle.wdf_base.specs.declared.plan.Plan.{Plan}
use Rattle.wdf_base.specs.declared.ids.Cpu.{Cpu}
use Rattle.wdf_base.specs.declared.event.Event.{Event}
use Rattle.wdf_base.specs.declared.event.Event.TheVariants as event
use Rattle.wdf_base.specs.declared.rank.Rank.{Rank}
use Rattle.wdf_base.specs.declared.rank.Rank.TheVariants as rank
use Rattle.wdf_base.specs.declared.value.Value.{Value}
use Rattle.wdf_model.specs.State.{State}
use Rattle.wdf_model.specs.declared.enums.Group.{Group}
use Rattle.wdf_model.specs.declared.enums.Group.TheVariants as group
use Rattle.wdf_model.specs.rules.Groups.{candidates_in, groups}
use Rattle.wdf_model.specs.rules.Ready.{allowed}
use Rattle.wdf_model.specs.rules.Steps.{after, may}
use Rattle.wdf_base.specs.declared.event.Step.TheVariants as step
use Rattle.law_machine_base.specs.OverRuns.{FramesAgree}
use Rattle.law_machine_once.specs.Owned.{StepsOwned}
use Rattle.law_touched.proofs.Ranks.{StepsRanked}
use Rattle.law_touched.specs.Touched.{TopFrame, changed, has_piece, is_of_time, is_own_of, offers, read_by, read_by_rank, read_for_rank, touches}
use Rattle.law_touched.proofs.Events.{stays, tick_stays}
use Rattle.law_touched.proofs.Groups.{offers_alike}
use Rattle.law_touched.proofs.Same.{apart}

module _ {A : Type 0} (plan : Plan) (m : Meaning A) (S : State A) (agree : FramesAgree S) (owned : StepsOwned plan S) where
  pub ranked : StepsRanked S
  ranked d c None at = (owned.next d (step.Run c None) at).0
  ranked d c (Some i) at = (owned.next d (step.Run c (Some i)) at).0

  pub untouched : (e : Event) → may plan m S e ≡ true → (g : Group) → touches plan S e g ≡ false → offers plan m S g ≡ offers plan m (after plan m S e) g
  untouched e comes g off = offers_alike plan m S (after plan m S e) g ranked (λ p is. stays plan m S agree e comes p (apart (changed plan S e) (read_by g) off p is))

  pub untouched_by_the_tick : (time : ℕ) (g : Group) → touches plan S (event.Tick time) g ≡ false → offers plan m S g ≡ offers plan m (after plan m S (event.Tick time)) g
  untouched_by_the_tick time g off = offers_alike plan m S (after plan m S (event.Tick time)) g ranked (λ p is. tick_stays plan m S agree time p (apart (changed plan S (event.Tick time)) (read_by g) off p is))

  pub untouched_by_tick : (e : Event) (time : ℕ) → e ≡ event.Tick time → (g : Group) → touches plan S e g ≡ false → offers plan m S g ≡ offers plan m (after plan m S e) g
  untouched_by_tick e time is g off = subst (λ x. touches plan S x g ≡ false → offers plan m S g ≡ offers plan m (after plan m S x) g) (sym is) (untouched_by_the_tick time g) off

-- ---- an event inside a frame

-- the groups that read the top frame of a processor
rank_not : (cpu : ℕ) (r : Rank) → has_piece (TopFrame cpu) (read_by_rank r) ≡ false
rank_not cpu rank.Isr = refl
rank_not cpu rank.Deferred = refl
rank_not cpu rank.Timed = refl
rank_not cpu rank.QueueState = refl
rank_not cpu rank.Handler = refl
rank_not cpu rank.Sequence = refl
rank_not cpu rank.Work = refl
rank_not cpu rank.Cleanup = refl
rank_not cpu rank.Destroy = refl
rank_not cpu _ = refl

for_rank_not : (cpu : ℕ) (r : Rank) → has_piece (TopFrame cpu) (read_for_rank r) ≡ false
for_rank_not cpu rank.Cancel = refl
for_rank_not cpu rank.CanceledOnQueue = refl
for_rank_not cpu rank.Stop = refl
for_rank_not cpu rank.Resume = refl
for_rank_not cpu _ = refl

none_more : (b : Bool) → (b || false || false) ≡ b
none_more true = refl
none_more false = refl

reads_top : (cpu : ℕ) (g : Group) → (has_piece (TopFrame cpu) (read_by g) || false) ≡ is_own_of cpu g
reads_top cpu (group.OwnEvent on) = none_more (cpu == on)
reads_top cpu (group.Parks on) = refl
reads_top cpu (group.Unparks on) = refl
reads_top cpu (group.Starts on r) = ap (λ b. b || false) (rank_not cpu r)
reads_top cpu (group.StartsFor on r o) = ap (λ b. b || false) (for_rank_not cpu r)
reads_top cpu group.Stages = refl
reads_top cpu group.Completions = refl
reads_top cpu group.Cleanups = refl
reads_top cpu group.Destroys = refl
reads_top cpu group.Posts = refl

pub local_touches : {A : Type 0} (plan : Plan) (S : State A) (cpu : Cpu) (line : ℕ) (g : Group) → touches plan S (event.Local cpu line) g ≡ is_own_of cpu.0 g
local_touches plan S cpu line g = reads_top cpu.0 g

pub log_touches : {A : Type 0} (plan : Plan) (S : State A) (cpu : Cpu) (v : Value) (g : Group) → touches plan S (event.Log cpu v) g ≡ is_own_of cpu.0 g
log_touches plan S cpu v g = reads_top cpu.0 g

-- ---- a tick

tick_by_rank : {A : Type 0} (plan : Plan) (S : State A) (time on : ℕ) (r : Rank) → touches plan S (event.Tick time) (group.Starts on r) ≡ is_of_time (group.Starts on r)
tick_by_rank plan S time on rank.Isr = refl
tick_by_rank plan S time on rank.Timed = refl
tick_by_rank plan S time on _ = refl

tick_for_rank : {A : Type 0} (plan : Plan) (S : State A) (time on o : ℕ) (r : Rank) → touches plan S (event.Tick time) (group.StartsFor on r o) ≡ is_of_time (group.StartsFor on r o)
tick_for_rank plan S time on o rank.Cancel = refl
tick_for_rank plan S time on o _ = refl

pub tick_touches : {A : Type 0} (plan : Plan) (S : State A) (time : ℕ) (g : Group) → touches plan S (event.Tick time) g ≡ is_of_time g
tick_touches plan S time (group.Starts on r) = tick_by_rank plan S time on r
tick_touches plan S time (group.StartsFor on r o) = tick_for_rank plan S time on o r
tick_touches plan S time _ = refl

-- ---- all groups

filter_flat : {X Y : Type 0} (p : Y → Bool) (f : X → List Y) (xs : List X) → filter p (flat_map f xs) ≡ flat_map (λ x. filter p (f x)) xs
filter_flat p f [] = refl
filter_flat p f (x ∷ xs) = filter-append p (f x) (flat_map f xs) ∙ ap (λ ys. filter p (f x) ++ ys) (filter_flat p f xs)

pub allowed_by_groups : {A : Type 0} (plan : Plan) (m : Meaning A) (S : State A) → allowed plan m S ≡ flat_map (offers plan m S) (groups plan)
allowed_by_groups plan m S = filter_flat (may plan m S) (candidates_in plan m S) (groups plan)

length_flat : {X Y : Type 0} (f : X → List Y) (xs : List X) → length (flat_map f xs) ≡ sum_by (λ x. length (f x)) xs
length_flat f [] = refl
length_flat f (x ∷ xs) = length-append (f x) (flat_map f xs) ∙ ap (λ n. length (f x) + n) (length_flat f xs) ∙ sym (sum_by-cons (λ y. length (f y)) x xs)

pub allowed_count : {A : Type 0} (plan : Plan) (m : Meaning A) (S : State A) → length (allowed plan m S) ≡ sum_by (λ g. length (offers plan m S g)) (groups plan)
allowed_count plan m S = ap length (allowed_by_groups plan m S) ∙ length_flat (offers plan m S) (groups plan)
