-- An object is cleaned up once and ends once, and nothing begins on it after its cleanup but its destroy callback.
use Rattle.std.proofs.Common.{◌≡◌, ℕ, ◌+◌, ◌<◌, ◌≤◌, Bool, true, false, ◌||◌, List, [], ◌∷◌, ◌++◌, ◌⊎◌, inl, inr, Option, Some, length, take, slice_get, refl, sym, ap, subst, ◌∙◌, arith}
use Rattle.std.proofs.lemmas.Bool.{eqb-true}
use Rattle.wdf_base.specs.Meaning.{Meaning}
use Rattle.wdf_base.specs.declared.ids.Cpu.{Cpu}
use Rattle.wdf_base.specs.declared.ids.Handle.{Handle}
use Rattle.wdf_base.specs.declared.plan.Plan.{Plan}
use Rattle.wdf_base.specs.declared.object.Life.{Life}
use Rattle.wdf_base.specs.declared.object.Life.TheVariants as life
use Rattle.wdf_base.specs.declared.call.Callback.{Callback}
use Rattle.wdf_base.specs.declared.call.Callback.TheVariants as callback
use Rattle.wdf_base.specs.declared.event.Event.{Event}
use Rattle.wdf_base.specs.declared.event.Event.TheVariants as event
use Rattle.wdf_base.specs.Same.{same_callback}
use Rattle.wdf_base.specs.Lives.{is_asked, is_cleaned, is_gone, is_past_cleanup}
use Rattle.wdf_model.specs.declared.entries.Node.{Node}
use Rattle.wdf_model.specs.parts.Tree.{gone, life_of, node_of, with_life}
use Rattle.wdf_model.specs.State.{State}
use Rattle.wdf_model.specs.rules.Starts.{life_fits}
use Rattle.wdf_model.specs.rules.Steps.{after, deeds, may}
use Rattle.wdf_model.specs.rules.Ready.{IsRunOf, ready, state_after}
use Rattle.law_machine_base.specs.FactsOfEvents.{IsTick}
use Rattle.wdf_model.proofs.Runs.{along_run}
use Rattle.law_machine_base.proofs.Follows.{follows, state_goes_on}
use Rattle.law_machine_base.proofs.FitsOfEvents.{event_fits}
use Rattle.wdf_model.proofs.Tests.{both_left, both_right}
use Rattle.wdf_model.proofs.Maps.{entry_put_same, put_long}
use Rattle.law_machine_lives.proofs.Keeping.{comes, deeds_keep}
use Rattle.law_machine_lives.proofs.Lists.{inside}
use Rattle.wdf_laws.specs.declared.sign.Sign.{Sign}
use Rattle.wdf_laws.specs.declared.sign.Sign.TheVariants as sign
use Rattle.wdf_laws.specs.Signs.{shows}
use Rattle.wdf_laws.specs.Words.{ever}
use Rattle.law_machine_counts.proofs.Trees.{cleaned_there}
use Rattle.law_machine_lives.proofs.Lives.{asked_early, live_early}
use Rattle.law_machine_lives.proofs.Choices.{left_of}
use Rattle.law_trace_once.proofs.Words.{ever_next, never_yet}
use Rattle.law_trace_once.proofs.Lasting.{Late, Past, deed_keeps}
use Rattle.law_machine_counts.proofs.StillFrames.{asked_at}

-- ---- what was told of lives, at each place of a run

-- a sign of an object says that it passes a test of lives from then on
pub record Marks {A : Type 0} (P : Life → Bool) (s : ℕ → Sign) (plan : Plan) (m : Meaning A) : Type 0 where
  pub late : Late P
  pub passes : (S : State A) (e : Event) (x : ℕ) → may plan m S e ≡ true → shows (s x) e ≡ true → (P (life_of (after plan m S e).tree x) ≡ true) × (x < length (after plan m S e).tree.nodes)
  pub quiet : (x time : ℕ) → shows (s x) (event.Tick time) ≡ false

abbrev pub Told : {A : Type 0} → (Life → Bool) → (ℕ → Sign) → List Event → State A → Type 0
Told P s es S = Past P (λ x. ever (s x) es) S.tree

goes_on : {A : Type 0} (P : Life → Bool) (s : ℕ → Sign) (plan : Plan) (m : Meaning A) → Marks P s plan m → (es : List Event) (S : State A) (e : Event) → may plan m S e ≡ true
    → Past P (λ x. ever (s x) es) (after plan m S e).tree → (x : ℕ) (b : Bool) → ever (s x) es ≡ b → (b || shows (s x) e) ≡ true → (P (life_of (after plan m S e).tree x) ≡ true) × (x < length (after plan m S e).tree.nodes)
goes_on P s plan m marks es S e h k x true told more = k x told
goes_on P s plan m marks es S e h k x false told more = marks.passes S e x h more

step_by_may : {A : Type 0} (P : Life → Bool) (s : ℕ → Sign) (plan : Plan) (m : Meaning A) → Marks P s plan m → (es : List Event) (S : State A) (e : Event) → may plan m S e ≡ true
    → Told P s es S → Told P s (es ++ e ∷ []) (after plan m S e)
step_by_may {A} P s plan m marks es S e h k x told =
    goes_on P s plan m marks es S e h
    (deeds_keep plan (λ (U : State A). Past P (λ y. ever (s y) es) U.tree) (deed_keeps P (λ y. ever (s y) es) marks.late plan) (deeds plan S e) S (event_fits plan m S e h) k)
    x (ever (s x) es) refl (sym (ever_next (s x) es e) ∙ told)

step_by_tick : {A : Type 0} (P : Life → Bool) (s : ℕ → Sign) (plan : Plan) (m : Meaning A) → Marks P s plan m → (es : List Event) (S : State A) (time : ℕ)
    → Told P s es S → Told P s (es ++ event.Tick time ∷ []) (after plan m S (event.Tick time))
step_by_tick P s plan m marks es S time k x told =
    k x (left_of (ever (s x) es) (shows (s x) (event.Tick time)) (marks.quiet x time) (sym (ever_next (s x) es (event.Tick time)) ∙ told))

step_by_either : {A : Type 0} (P : Life → Bool) (s : ℕ → Sign) (plan : Plan) (m : Meaning A) → Marks P s plan m → (es : List Event) (S : State A) (offered : List Event) (e : Event)
    → (may plan m S e ≡ true) ⊎ IsTick m S offered e → Told P s es S → Told P s (es ++ e ∷ []) (after plan m S e)
step_by_either P s plan m marks es S offered e (inl h) k = step_by_may P s plan m marks es S e h k
step_by_either P s plan m marks es S offered e (inr t) k = subst (λ y. Told P s (es ++ y ∷ []) (after plan m S y)) (sym t.tick) (step_by_tick P s plan m marks es S (S.clock + 1) k)

told_opens : {A : Type 0} (P : Life → Bool) (s : ℕ → Sign) (S : State A) → Told P s [] S
told_opens P s S x told = absurd (let never = never_yet (s x) in let z : ⊥ = cc in z)

pub told_at_each : {A : Type 0} (P : Life → Bool) (s : ℕ → Sign) (plan : Plan) (m : Meaning A) → Marks P s plan m → (run : List Event) → IsRunOf plan m run → (n : ℕ) → Told P s (take n run) (state_after plan m (take n run))
told_at_each P s plan m marks run is_run n = along_run (λ es. Told P s es (state_after plan m es)) (ready plan m) run (told_opens P s (state_after plan m []))
    (λ before e place _ held at. subst (λ T. Told P s (before ++ e ∷ []) T) (sym (state_goes_on plan m before e))
    (step_by_either P s plan m marks before (state_after plan m before) (ready plan m before) e (follows plan m before place e at) held))
    is_run n

-- ---- the cleanup

pub cleans : {A : Type 0} (plan : Plan) (m : Meaning A) (S : State A) (o : Handle) → may plan m S (event.Cleanup o) ≡ true → is_asked (life_of S.tree o.id.0) ≡ true
cleans plan m S o h = asked_at S o.id.0 (search (both_left, both_right))

cleaned_now : {A : Type 0} (plan : Plan) (m : Meaning A) (S : State A) (o : Handle) → is_asked (life_of S.tree o.id.0) ≡ true
    → (is_past_cleanup (life_of (after plan m S (event.Cleanup o)).tree o.id.0) ≡ true) × (o.id.0 < length (after plan m S (event.Cleanup o)).tree.nodes)
cleaned_now plan m S o asked =
    let within : o.id.0 < length S.tree.nodes = inside gone (λ n. is_asked n.life) S.tree.nodes o.id.0 refl asked in
    let longer : length S.tree.nodes ≤ length (after plan m S (event.Cleanup o)).tree.nodes = put_long gone S.tree.nodes o.id.0 (with_life life.Cleaned (node_of S.tree o.id.0)) in
    (ap (λ (n : Node). is_past_cleanup n.life) (entry_put_same gone S.tree.nodes o.id.0 (with_life life.Cleaned (node_of S.tree o.id.0))), omega arith)

cleaned_marks : {A : Type 0} (plan : Plan) (m : Meaning A) (S : State A) (e : Event) (x : ℕ) → may plan m S e ≡ true → shows (sign.Cleaned x) e ≡ true
    → (is_past_cleanup (life_of (after plan m S e).tree x) ≡ true) × (x < length (after plan m S e).tree.nodes)
cleaned_marks {A} plan m S (event.Cleanup o) x h shown =
    subst (λ y. (is_past_cleanup (life_of (after plan m S (event.Cleanup o)).tree y) ≡ true) × (y < length (after plan m S (event.Cleanup o)).tree.nodes)) (eqb-true o.id.0 x shown)
    (cleaned_now plan m S o (cleans plan m S o h))
cleaned_marks plan m S _ x h shown = absurd (let z : ⊥ = cc in z)

pub cleanup_tells : {A : Type 0} (plan : Plan) (m : Meaning A) → Marks is_past_cleanup sign.Cleaned plan m
cleanup_tells plan m = record { late = record { live = refl; asked = refl; gone = refl }; passes = cleaned_marks plan m; quiet = λ x time. refl }

-- ---- the end

pub ends : {A : Type 0} (plan : Plan) (m : Meaning A) (S : State A) (o : Handle) → may plan m S (event.Destroy o) ≡ true → is_cleaned (life_of S.tree o.id.0) ≡ true
ends plan m S o h = search (both_left, both_right)

ended_now : {A : Type 0} (plan : Plan) (m : Meaning A) (S : State A) (o : Handle) → is_cleaned (life_of S.tree o.id.0) ≡ true
    → (is_gone (life_of (after plan m S (event.Destroy o)).tree o.id.0) ≡ true) × (o.id.0 < length (after plan m S (event.Destroy o)).tree.nodes)
ended_now plan m S o clean =
    let within : o.id.0 < length S.tree.nodes = inside gone (λ n. is_cleaned n.life) S.tree.nodes o.id.0 refl clean in
    let longer : length S.tree.nodes ≤ length (after plan m S (event.Destroy o)).tree.nodes = put_long gone S.tree.nodes o.id.0 gone in
    (ap (λ (n : Node). is_gone n.life) (entry_put_same gone S.tree.nodes o.id.0 gone), omega arith)

ended_marks : {A : Type 0} (plan : Plan) (m : Meaning A) (S : State A) (e : Event) (x : ℕ) → may plan m S e ≡ true → shows (sign.Destroyed x) e ≡ true
    → (is_gone (life_of (after plan m S e).tree x) ≡ true) × (x < length (after plan m S e).tree.nodes)
ended_marks {A} plan m S (event.Destroy o) x h shown =
    subst (λ y. (is_gone (life_of (after plan m S (event.Destroy o)).tree y) ≡ true) × (y < length (after plan m S (event.Destroy o)).tree.nodes)) (eqb-true o.id.0 x shown)
    (ended_now plan m S o (ends plan m S o h))
ended_marks plan m S _ x h shown = absurd (let z : ⊥ = cc in z)

pub end_tells : {A : Type 0} (plan : Plan) (m : Meaning A) → Marks is_gone sign.Destroyed plan m
end_tells plan m = record { late = record { live = refl; asked = refl; gone = refl }; passes = ended_marks plan m; quiet = λ x time. refl }

-- ---- the laws

-- what the life says isn't so was never told
pub never : {A : Type 0} (P : Life → Bool) (s : ℕ → Sign) (es : List Event) (S : State A) (o : ℕ) → Told P s es S → P (life_of S.tree o) ≡ false → (b : Bool) → ever (s o) es ≡ b → b ≡ false
never P s es S o k no_ false h = refl
never P s es S o k no_ true h = absurd (let yes_ : P (life_of S.tree o) ≡ true = (k o h).0 in let z : ⊥ = cc in z)

pub cleaned_once : {A : Type 0} (plan : Plan) (m : Meaning A) (run : List Event) (k : ℕ) (o : Handle) → IsRunOf plan m run → slice_get run k ≡ Some (event.Cleanup o) → ever (sign.Cleaned o.id.0) (take k run) ≡ false
cleaned_once plan m run k o is_run at =
    let h : may plan m (state_after plan m (take k run)) (event.Cleanup o) ≡ true = comes plan m run k (event.Cleanup o) is_run at (λ time e. let z : ⊥ = cc in z) in
    never is_past_cleanup sign.Cleaned (take k run) (state_after plan m (take k run)) o.id.0 (told_at_each is_past_cleanup sign.Cleaned plan m (cleanup_tells plan m) run is_run k)
    (asked_early (life_of (state_after plan m (take k run)).tree o.id.0) (cleans plan m (state_after plan m (take k run)) o h)) (ever (sign.Cleaned o.id.0) (take k run)) refl

pub ends_once : {A : Type 0} (plan : Plan) (m : Meaning A) (run : List Event) (k : ℕ) (o : Handle) → IsRunOf plan m run → slice_get run k ≡ Some (event.Destroy o) → ever (sign.Destroyed o.id.0) (take k run) ≡ false
ends_once plan m run k o is_run at =
    let h : may plan m (state_after plan m (take k run)) (event.Destroy o) ≡ true = comes plan m run k (event.Destroy o) is_run at (λ time e. let z : ⊥ = cc in z) in
    never is_gone sign.Destroyed (take k run) (state_after plan m (take k run)) o.id.0 (told_at_each is_gone sign.Destroyed plan m (end_tells plan m) run is_run k)
    (cleaned_there (life_of (state_after plan m (take k run)).tree o.id.0) (ends plan m (state_after plan m (take k run)) o h)) (ever (sign.Destroyed o.id.0) (take k run)) refl

life_early : {A : Type 0} (S : State A) (c : Callback) (o : ℕ) → same_callback c callback.EvtDestroyCallback ≡ false → life_fits S c o ≡ true → is_past_cleanup (life_of S.tree o) ≡ false
life_early S callback.EvtDestroyCallback o other h = absurd (let z : ⊥ = cc in z)
life_early S callback.EvtCleanupCallback o other h = asked_early (life_of S.tree o) h
life_early S _ o other h = live_early (life_of S.tree o) h

start_fits : {A : Type 0} (plan : Plan) (m : Meaning A) (S : State A) (cpu : Cpu) (c : Callback) (o : Handle) (r : Option Handle) → may plan m S (event.Start cpu c o r) ≡ true → life_fits S c o.id.0 ≡ true
start_fits plan m S cpu c o r h = search (both_left, both_right)

pub begins_early : {A : Type 0} (plan : Plan) (m : Meaning A) (run : List Event) (k : ℕ) (cpu : Cpu) (c : Callback) (o : Handle) (r : Option Handle) → IsRunOf plan m run → slice_get run k ≡ Some (event.Start cpu c o r)
    → same_callback c callback.EvtDestroyCallback ≡ false → ever (sign.Cleaned o.id.0) (take k run) ≡ false
begins_early plan m run k cpu c o r is_run at other =
    let h : may plan m (state_after plan m (take k run)) (event.Start cpu c o r) ≡ true = comes plan m run k (event.Start cpu c o r) is_run at (λ time e. let z : ⊥ = cc in z) in
    never is_past_cleanup sign.Cleaned (take k run) (state_after plan m (take k run)) o.id.0 (told_at_each is_past_cleanup sign.Cleaned plan m (cleanup_tells plan m) run is_run k)
    (life_early (state_after plan m (take k run)) c o.id.0 other (start_fits plan m (state_after plan m (take k run)) cpu c o r h)) (ever (sign.Cleaned o.id.0) (take k run)) refl
