-- The counts that an event leaves known stay right: it doesn't touch the groups of their blocks.
use Rattle.std.proofs.Common.{false, ◌≡◌, ◌||◌, ◌+◌, ℕ, List, [], ◌∷◌, ◌++◌, append-nil, length, length-append, slice_get, Some, refl, sym, ap, ◌∙◌, arith}
use Rattle.std.specs.List.{list_any}
use Rattle.wdf_base.specs.Meaning.{Meaning}
use Rattle.wdf_base.specs.declared.plan.Plan.{Plan}
use Rattle.wdf_base.specs.declared.event.Event.{Event}
use Rattle.wdf_base.specs.declared.event.Event.TheVariants as event
use Rattle.wdf_base.specs.declared.rank.Rank.{Rank}
use Rattle.wdf_base.specs.declared.rank.Rank.TheVariants as rank
use Rattle.wdf_model.specs.declared.enums.Group.{Group}
use Rattle.wdf_model.specs.declared.enums.Group.TheVariants as group
use Rattle.wdf_model.specs.State.{State}
use Rattle.wdf_model.specs.rules.Ready.{ready, state_after}
use Rattle.wdf_model.specs.rules.Steps.{after}
use Rattle.law_machine_base.proofs.Follows.{state_goes_on}
use Rattle.law_touched.specs.Touched.{AgentStates, TopFrame, has_piece, is_of_time, is_own_of, read_by, touches}
use Rattle.law_touched.proofs.Law.{local_touches, log_touches, tick_touches}
use Rattle.law_touched.proofs.Runs.{untouched_in_run}
use Rattle.wdf_ready.specs.Blocks.{Grouping, ObjectLists, all_of, block_len, events_for, objects_of}
use Rattle.wdf_ready.specs.declared.blocks.Block.{Block}
use Rattle.wdf_ready.specs.declared.blocks.Block.TheVariants as block
use Rattle.wdf_ready.specs.Counts.{Counts, IsKept, Unknown, has_stale, is_own, is_stale, is_timed, reads_agents, stale_after, stale_by}
use Rattle.wdf_offers.specs.Search.{offered_from, offered_len}
use Rattle.wdf_ready.specs.declared.stale.Stale.{Stale}
use Rattle.wdf_ready.specs.declared.stale.Stale.TheVariants as stale
use Rattle.wdf_core.specs.Course.{IsUnderWay}
use Rattle.wdf_core.proofs.Found.{group_offers}

-- ---- what an event touches is stale after it

own_of : (cpu : ℕ) (g : Group) → is_own_of cpu g ≡ is_own cpu g
own_of cpu (group.OwnEvent on) = refl
own_of cpu _ = refl

-- a top frame and the agents
no_rank : (cpu on : ℕ) (r : Rank) → reads_agents (group.Starts on r) ≡ false → list_any (λ p. has_piece p (read_by (group.Starts on r))) (TopFrame cpu ∷ AgentStates ∷ []) ≡ false
no_rank cpu on rank.Isr h = absurd (let z : ⊥ = cc in z)
no_rank cpu on rank.Deferred h = refl
no_rank cpu on rank.Timed h = refl
no_rank cpu on rank.QueueState h = refl
no_rank cpu on rank.Handler h = refl
no_rank cpu on rank.Sequence h = refl
no_rank cpu on rank.Work h = refl
no_rank cpu on rank.Cleanup h = refl
no_rank cpu on rank.Destroy h = refl
no_rank cpu on _ h = refl

no_rank_for : (cpu on o : ℕ) (r : Rank) → list_any (λ p. has_piece p (read_by (group.StartsFor on r o))) (TopFrame cpu ∷ AgentStates ∷ []) ≡ false
no_rank_for cpu on o rank.Cancel = refl
no_rank_for cpu on o rank.CanceledOnQueue = refl
no_rank_for cpu on o rank.Stop = refl
no_rank_for cpu on o rank.Resume = refl
no_rank_for cpu on o _ = refl

no_agents : (cpu : ℕ) (g : Group) → reads_agents g ≡ false → list_any (λ p. has_piece p (read_by g)) (TopFrame cpu ∷ AgentStates ∷ []) ≡ false
no_agents cpu (group.OwnEvent on) h = absurd (let z : ⊥ = cc in z)
no_agents cpu (group.Parks on) h = refl
no_agents cpu (group.Unparks on) h = refl
no_agents cpu (group.Starts on r) h = no_rank cpu on r h
no_agents cpu (group.StartsFor on r o) h = no_rank_for cpu on o r
no_agents cpu group.Stages h = refl
no_agents cpu group.Completions h = refl
no_agents cpu group.Cleanups h = refl
no_agents cpu group.Destroys h = refl
no_agents cpu group.Posts h = absurd (let z : ⊥ = cc in z)

-- the agents and the clock
time_by_rank : (on : ℕ) (r : Rank) → is_of_time (group.Starts on r) ≡ (reads_agents (group.Starts on r) || is_timed (group.Starts on r))
time_by_rank on rank.Isr = refl
time_by_rank on rank.Timed = refl
time_by_rank on _ = refl

of_time : (g : Group) → is_of_time g ≡ (reads_agents g || is_timed g)
of_time (group.OwnEvent on) = refl
of_time (group.Starts on r) = time_by_rank on r
of_time group.Posts = refl
of_time _ = refl

not_touched : {A : Type 0} (plan : Plan) (S : State A) (e : Event) (g : Group) → is_stale (stale_by e) g ≡ false → touches plan S e g ≡ false
not_touched plan S (event.Local cpu line) g h = local_touches plan S cpu line g ∙ own_of cpu.0 g ∙ h
not_touched plan S (event.Log cpu v) g h = log_touches plan S cpu v g ∙ own_of cpu.0 g ∙ h
not_touched plan S (event.Spend cpu n) g h = no_agents cpu.0 g h
not_touched plan S (event.Register cpu a k v) g h = no_agents cpu.0 g h
not_touched plan S (event.Tick time) g h = tick_touches plan S time g ∙ of_time g ∙ h
not_touched plan S _ g h = absurd (let z : ⊥ = cc in z)

-- a group for requests is stale whatever its object
not_of_object : (s : Stale) (cpu : ℕ) (r : Rank) (o : ℕ) → is_stale s (group.StartsFor cpu r 0) ≡ false → is_stale s (group.StartsFor cpu r o) ≡ false
not_of_object stale.Nothing cpu r o h = refl
not_of_object (stale.Own on) cpu r o h = refl
not_of_object stale.OfAgents cpu r o h = refl
not_of_object stale.OfTime cpu r o h = refl
not_of_object stale.Everything cpu r o h = absurd (let z : ⊥ = cc in z)

-- where everything may have changed no block is known
all_unknown : (s : Stale) (b : Block) → s ≡ stale.Everything → has_stale s b ≡ false → ⊥
all_unknown s (block.One g) e h = let f = rw e at h in let z : ⊥ = cc in z
all_unknown s (block.ForEach cpu r) e h = let f = rw e at h in let z : ⊥ = cc in z

-- ---- the counts after an event

module _ {A : Type 0} (m : Meaning A) (plan : Plan) (journal : List Event) (S : State A) (all : Grouping) (space : ℕ) (u : IsUnderWay m plan journal S (all_of all) space) where
  module _ (k : ℕ) (e : Event) (at : slice_get (ready plan m journal) k ≡ Some e) where
    now_then : after plan m S e ≡ state_after plan m (journal ++ e ∷ [])
    now_then = ap (λ (T : State A). after plan m T e) u.state ∙ sym (state_goes_on plan m journal e)

    -- a group that stays known offers as many events after it
    stays : (g : Group) → is_stale (stale_by e) g ≡ false → offered_len plan m S g ≡ offered_len plan m (after plan m S e) g
    stays g h =
        ap (λ (T : State A). offered_len plan m T g) u.state
        ∙ ap length (sym (group_offers plan m (state_after plan m journal) g))
        ∙ ap length (untouched_in_run plan m journal u.run k e g (not_touched plan (state_after plan m journal) e g h) at)
        ∙ ap length (group_offers plan m (state_after plan m (journal ++ e ∷ [])) g)
        ∙ ap (λ (T : State A). offered_len plan m T g) (sym now_then)

    stays_each : (cpu : ℕ) (r : Rank) (ids : List ℕ) → is_stale (stale_by e) (group.StartsFor cpu r 0) ≡ false → length (events_for plan m S cpu r ids) ≡ length (events_for plan m (after plan m S e) cpu r ids)
    stays_each cpu r [] h = refl
    stays_each cpu r (o ∷ ids) h =
        length-append (offered_from plan m S (group.StartsFor cpu r o) 0) (events_for plan m S cpu r ids)
        ∙ ap (λ n. n + length (events_for plan m S cpu r ids)) (stays (group.StartsFor cpu r o) (not_of_object (stale_by e) cpu r o h))
        ∙ ap (λ n. offered_len plan m (after plan m S e) (group.StartsFor cpu r o) + n) (stays_each cpu r ids h)
        ∙ sym (length-append (offered_from plan m (after plan m S e) (group.StartsFor cpu r o) 0) (events_for plan m (after plan m S e) cpu r ids))

    -- and so does a block
    stays_block : (o : ObjectLists) (b : Block) → has_stale (stale_by e) b ≡ false → block_len plan m S o b ≡ block_len plan m (after plan m S e) o b
    stays_block o (block.One g) h =
        ap length (append-nil (offered_from plan m S g 0)) ∙ stays g h ∙ ap length (sym (append-nil (offered_from plan m (after plan m S e) g 0)))
    stays_block o (block.ForEach cpu r) h = stays_each cpu r (objects_of o r) h

    none_stale : (b : Block) → has_stale stale.Nothing b ≡ false
    none_stale (block.One g) = refl
    none_stale (block.ForEach cpu r) = refl

    known_by : (s : Stale) (n : ℕ) (b : Block) → (has_stale s b ≡ false → n ≡ block_len plan m S all.objects b) → has_stale (stale_after s e) b ≡ false → n ≡ block_len plan m (after plan m S e) all.objects b
    known_by stale.Nothing n b was h = was (none_stale b) ∙ stays_block all.objects b h
    known_by _ n b was h = absurd (all_unknown stale.Everything b refl h)

    pub counts_go_on : (c : Counts) → IsKept plan m S all c → IsKept plan m (after plan m S e) all (record { each = c.each; stale = stale_after c.stale e })
    counts_go_on c kept = record {
      filled = kept.filled;
      small = kept.small;
      known = λ i b is h. known_by c.stale _ b (kept.known i b is) h;
    }

-- ---- counts of which nothing is known

pub unknown_kept : {A : Type 0} (m : Meaning A) (plan : Plan) (S : State A) (all : Grouping) (c : Counts) → Unknown (length all.blocks) c → IsKept plan m S all c
unknown_kept m plan S all c k = record {
  filled = k.filled;
  small = λ i b is. let zero = k.zeros i in omega (arith, zero);
  known = λ i b is h. absurd (all_unknown c.stale b k.nothing h);
}

-- and nothing is from here on
pub forgotten : {A : Type 0} (m : Meaning A) (plan : Plan) (S T : State A) (all : Grouping) (c : Counts) → IsKept plan m S all c → IsKept plan m T all (record { each = c.each; stale = stale.Everything })
forgotten m plan S T all c kept = record {
  filled = kept.filled;
  small = kept.small;
  known = λ i b is h. absurd (all_unknown stale.Everything b refl h);
}
