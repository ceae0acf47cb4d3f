-- The stack manager beside the machine: while it waits for no end no device is busy, and else only the one that it waits for is.
-- When a post has ended its device has come to what was asked, or the rest of the list is dropped.
use Rattle.std.proofs.Common.{if◌then◌else◌, ◌≡◌, ◌≢◌, ℕ, ◌==◌, Bool, true, false, not, ◌&&◌, List, [], ◌∷◌, ◌++◌, drop, Option, Some, None, option_map, inl, inr, refl, sym, ap, subst, ◌∙◌}
use Rattle.std.specs.List.{list_all}
use Rattle.std.proofs.lemmas.Bool.{eqb-true}
use Rattle.wdf_base.specs.declared.plan.Plan.{Plan}
use Rattle.wdf_base.specs.declared.ids.Handle.{Handle}
use Rattle.wdf_base.specs.declared.value.Value.{Value}
use Rattle.wdf_base.specs.declared.call.Callback.{Callback}
use Rattle.wdf_base.specs.declared.call.Callback.TheVariants as callback
use Rattle.wdf_base.specs.declared.event.Ask.{Ask}
use Rattle.wdf_base.specs.declared.event.Ask.TheVariants as asks
use Rattle.wdf_base.specs.declared.event.Event.{Event}
use Rattle.wdf_base.specs.declared.event.Event.TheVariants as event
use Rattle.wdf_base.specs.declared.event.Post.{Post}
use Rattle.wdf_base.specs.declared.event.Post.TheVariants as post
use Rattle.wdf_base.specs.declared.event.Stage.{Stage}
use Rattle.wdf_base.specs.declared.event.Stage.TheVariants as stage
use Rattle.wdf_base.specs.declared.event.Step.{Step}
use Rattle.wdf_base.specs.declared.event.Step.TheVariants as step
use Rattle.wdf_base.specs.Callbacks.{is_query, row_of}
use Rattle.wdf_model.specs.declared.enums.Phase.{Phase}
use Rattle.wdf_model.specs.declared.enums.Phase.TheVariants.{Off, Working, Sleeping, Removed}
use Rattle.wdf_model.specs.declared.stack.AskPost.{AskPost}
use Rattle.wdf_model.specs.parts.Pnp.{Pnp, Sequence, busy, left_after, left_after_failure, sequence_of, steps_for, steps_left, taken_step, with_sequence}
use Rattle.wdf_model.specs.parts.Pnp as pnp
use Rattle.wdf_model.specs.agents.StackManager.{StackManager, asked, awaited_drops, awaits, came_to, changes_nothing, drops, ended, follower, goes_up, is_alone, is_working, manager_posted, phase_in, phase_of_stage, post_after, query_ended, stack_manager_after, unless_dropped, with_post}
use Rattle.wdf_model.proofs.Counts.{equal, one_or_two}
use Rattle.wdf_model.proofs.Tests.{both_left, both_right, itself, not_false}
use Rattle.law_machine_base.specs.Agreement.{is_sequence}
use Rattle.law_trace_turns.specs.Turned.{is_turning}
use Rattle.law_stack.specs.Laws.{asked_in_order}
use Rattle.law_stack.specs.Words.{works, works_after, works_step}
use Rattle.law_stack.proofs.Chains.{works_next}
use Rattle.law_stack.proofs.Orders.{follower_of, next_in_order, order_stays}
use Rattle.law_stack.proofs.Sequences.{down_asked, down_end, down_tail, is_last, last_only, not_up, nothing_after, nothing_asked}
use Rattle.law_stack.proofs.Turning.{all_free, busy_elsewhere, busy_left, busy_running, left_begun, left_passed, phase_of, runs_passed, sequence_here}
use Rattle.law_trace_power.proofs.Sequences.{free_runs_none, refused_query}
use Rattle.wdf_base.specs.Values.{is_success}

-- ---- what holds of the manager

-- what is left of the list of a post: the post after it, or nothing
abbrev pub Follows : Plan → AskPost → Option AskPost → Type 0
Follows plan y rest = (x : AskPost) → rest ≡ Some x → (x.ask ≡ y.ask) × (follower_of plan y.ask y.device.id.0 ≡ Some x.device)

-- it waits for the end of a post: no other device is busy, and one that goes down doesn't come to Working
pub record Waits (plan : Plan) (Q : Pnp) (y : AskPost) (rest : Option AskPost) : Type 0 where
  pub others : (d : ℕ) → d ≢ y.device.id.0 → busy Q d ≡ false
  pub down : goes_up y.ask ≡ false → is_alone y.ask ≡ false → list_all not_up (steps_left Q y.device.id.0) ≡ true
  pub follows : Follows plan y rest

-- it waits for none: no device is busy, and the next post of a list is in order
pub record Goes (plan : Plan) (es : List Event) (Q : Pnp) (rest : Option AskPost) : Type 0 where
  pub free : (d : ℕ) → busy Q d ≡ false
  pub next : (x : AskPost) → rest ≡ Some x → asked_in_order plan es x.ask x.device.id.0 ≡ true

abbrev pub Stands : Plan → List Event → Pnp → Option AskPost → Option AskPost → Type 0
Stands plan es Q None rest = Goes plan es Q rest
Stands plan es Q (Some y) rest = Waits plan Q y rest

-- ---- lists that are dropped

module _ (o : Option AskPost) (x : AskPost) where
  not_dropped : (b : Bool) → unless_dropped b o ≡ Some x → (b ≡ false) × (o ≡ Some x)
  not_dropped true h = absurd (let z : ⊥ = cc in z)
  not_dropped false h = (refl, h)

-- a start or a wake that isn't dropped has left its device Working
up_works : (a : Ask) (p : Phase) (up : Bool) → goes_up a ≡ up → drops a p ≡ false → up ≡ true → is_working p ≡ true
up_works a p true e h is = not_false (is_working p) (sym (ap (λ b. b && not (is_working p)) e) ∙ h)
up_works a p false e h is = absurd (let z : ⊥ = cc in z)

come_by : (plan : Plan) (es : List Event) (d : ℕ) (w up : Bool) → w ≡ works plan d es → (up ≡ true → w ≡ true) → (up ≡ false → w ≡ false) → (if up then works plan d es else not (works plan d es)) ≡ true
come_by plan es d w true same on off = sym same ∙ on refl
come_by plan es d w false same on off = ap not (sym same ∙ off refl)

-- a post has ended: the next one of its list, if it isn't dropped, is in order
next_comes : (plan : Plan) (es : List Event) (y : AskPost) (rest : Option AskPost) (p : Phase) → Follows plan y rest → is_working p ≡ works plan y.device.id.0 es → (goes_up y.ask ≡ false → is_alone y.ask ≡ false → is_working p ≡ false)
    → (x : AskPost) → unless_dropped (drops y.ask p) rest ≡ Some x → asked_in_order plan es x.ask x.device.id.0 ≡ true
next_comes plan es y rest p follows works_ down x h =
    let kept = not_dropped rest x (drops y.ask p) h in
    let f = follows x kept.1 in
    subst (λ a. asked_in_order plan es a x.device.id.0 ≡ true) (sym f.0)
    (next_in_order plan es y.ask y.device.id.0 x.device f.1
    (λ alone. come_by plan es y.device.id.0 (is_working p) (goes_up y.ask) works_ (λ up. up_works y.ask p (goes_up y.ask) refl kept.0 up) (λ off. down off alone)))

-- ---- one device goes on, and the manager waits

waits_on : (plan : Plan) (Q R : Pnp) (y : AskPost) (rest : Option AskPost) (n : ℕ) (f : Sequence → Sequence) → R ≡ with_sequence Q n f → n ≡ y.device.id.0
    → (goes_up y.ask ≡ false → is_alone y.ask ≡ false → list_all not_up (steps_left Q n) ≡ true → list_all not_up (f (sequence_of Q n)).left ≡ true)
    → Waits plan Q y rest → Waits plan R y rest
waits_on plan Q R y rest n f same here down w = record {
  others = λ d apart. ap (λ x. busy x d) same ∙ busy_elsewhere Q n d f (λ is. apart (is ∙ here)) ∙ w.others d apart;
  down = λ off alone.
      let was : list_all not_up (steps_left Q n) ≡ true = ap (λ x. list_all not_up (steps_left Q x)) here ∙ w.down off alone in
      ap (λ x. list_all not_up (steps_left x y.device.id.0)) same ∙ sym (ap (λ x. list_all not_up (steps_left (with_sequence Q n f) x)) here)
      ∙ ap (λ (q : Sequence). list_all not_up q.left) (sequence_here Q n f) ∙ down off alone was;
  follows = w.follows;
}

-- the busy device is the one that it waits for
is_awaited : (plan : Plan) (Q : Pnp) (y : AskPost) (rest : Option AskPost) (n : ℕ) → busy Q n ≡ true → Waits plan Q y rest → n ≡ y.device.id.0
is_awaited plan Q y rest n b w = elim (one_or_two n y.device.id.0) [
  | inl same ↦ same
  | inr apart ↦ absurd (let f = w.others n apart in let z : ⊥ = cc in z)
]

down_dropped : (s : Step) (xs ys : List Step) → xs ≡ s ∷ ys → list_all not_up xs ≡ true → list_all not_up ys ≡ true
down_dropped s xs ys h k = both_right (not_up s) (list_all not_up ys) (sym (ap (list_all not_up) h) ∙ k)

-- ---- events that tell nothing of devices

no_query : (c : Callback) → is_sequence (row_of c).rank ≡ false → is_query c ≡ false
no_query callback.EvtDeviceQueryStop h = absurd (let z : ⊥ = cc in z)
no_query callback.EvtDeviceQueryRemove h = absurd (let z : ⊥ = cc in z)
no_query _ h = refl

-- the manager waits for the same end, and has the same to post
record SamePosts (m k : StackManager) : Type 0 where
  awaited : k.awaited ≡ m.awaited
  rest : k.rest ≡ m.rest

post_same : (m : StackManager) (agent : ℕ) (p : Post) (answer : Option Handle) → is_turning (event.Posted agent p answer) ≡ false → SamePosts m (manager_posted m agent p)
post_same m agent (post.Ask a n) answer h = absurd (let z : ⊥ = cc in z)
post_same m agent _ answer h = record { awaited = refl; rest = refl }

end_same : (m : StackManager) (c : Callback) (o : ℕ) (v : Value) (b : Bool) → is_query c ≡ b → b ≡ false → SamePosts m (query_ended m c o v)
end_same m c o v true e h = absurd (let z : ⊥ = cc in z)
end_same m c o v false e h = rw e (record { awaited = refl; rest = refl })

quiet_posts : (m : StackManager) (e : Event) → is_turning e ≡ false → SamePosts m (stack_manager_after m e)
quiet_posts m (event.Stage d s i) h = absurd (let z : ⊥ = cc in z)
quiet_posts m (event.Posted agent p answer) h = post_same m agent p answer h
quiet_posts m (event.End cpu c d v) h = end_same m c d.id.0 v (is_query c) refl (no_query c h)
quiet_posts m (event.Tick time) h = record { awaited = refl; rest = refl }
quiet_posts m _ h = record { awaited = refl; rest = refl }

quiet_works : (e : Event) (d : ℕ) (was : Bool) → is_turning e ≡ false → works_step d was e ≡ was
quiet_works (event.Stage n s i) d was h = absurd (let z : ⊥ = cc in z)
quiet_works _ d was h = refl

goes_on : (plan : Plan) (es : List Event) (e : Event) (Q : Pnp) (rest : Option AskPost) → ((d : ℕ) → works_step d (works plan d es) e ≡ works plan d es) → Goes plan es Q rest → Goes plan (es ++ e ∷ []) Q rest
goes_on plan es e Q rest stays g = record { free = g.free; next = λ x h. order_stays plan es e stays x.ask x.device.id.0 (g.next x h) }

stands_by : (plan : Plan) (es : List Event) (e : Event) (Q : Pnp) (awaited rest : Option AskPost) → ((d : ℕ) → works_step d (works plan d es) e ≡ works plan d es) → Stands plan es Q awaited rest → Stands plan (es ++ e ∷ []) Q awaited rest
stands_by plan es e Q None rest stays g = goes_on plan es e Q rest stays g
stands_by plan es e Q (Some y) rest stays w = w

-- what stands for the manager as it was stands for it as it is
stands_for : (plan : Plan) (es : List Event) (Q : Pnp) (m k : StackManager) → SamePosts m k → Stands plan es Q m.awaited m.rest → Stands plan es Q k.awaited k.rest
stands_for plan es Q m k same h = subst (λ a. Stands plan es Q a k.rest) (sym same.awaited) (subst (λ r. Stands plan es Q m.awaited r) (sym same.rest) h)

pub stands_still : (plan : Plan) (es : List Event) (m : StackManager) (e : Event) (Q R : Pnp) → is_turning e ≡ false → R ≡ Q → Stands plan es Q m.awaited m.rest
    → Stands plan (es ++ e ∷ []) R (stack_manager_after m e).awaited (stack_manager_after m e).rest
stands_still plan es m e Q R quiet same h =
    stands_for plan (es ++ e ∷ []) R m (stack_manager_after m e) (quiet_posts m e quiet)
    (subst (λ x. Stands plan (es ++ e ∷ []) x m.awaited m.rest) (sym same) (stands_by plan es e Q m.awaited m.rest (λ d. quiet_works e d (works plan d es) quiet) h))

-- ---- a callback begins

begun_by : (plan : Plan) (es : List Event) (Q R : Pnp) (n : ℕ) (c : Callback) (j : Option Handle) (awaited rest : Option AskPost) → steps_left Q n ≡ step.Run c j ∷ drop 1 (steps_left Q n) → R ≡ pnp.taken Q n
    → Stands plan es Q awaited rest → Stands plan es R awaited rest
begun_by plan es Q R n c j None rest next same g = absurd (let f = g.free n in let b = busy_left Q n (step.Run c j) (drop 1 (steps_left Q n)) next in let z : ⊥ = cc in z)
begun_by plan es Q R n c j (Some y) rest next same w =
    let here = is_awaited plan Q y rest n (busy_left Q n (step.Run c j) (drop 1 (steps_left Q n)) next) w in
    let now : (taken_step (sequence_of Q n)).left ≡ drop 1 (steps_left Q n) = left_begun (sequence_of Q n) c j (drop 1 (steps_left Q n)) next in
    waits_on plan Q R y rest n taken_step same here
    (λ off alone was. ap (list_all not_up) now ∙ down_dropped (step.Run c j) (steps_left Q n) (drop 1 (steps_left Q n)) next was) w

pub stands_begun : (plan : Plan) (es : List Event) (m : StackManager) (e : Event) (Q R : Pnp) (n : ℕ) (c : Callback) (j : Option Handle) → is_turning e ≡ false → steps_left Q n ≡ step.Run c j ∷ drop 1 (steps_left Q n) → R ≡ pnp.taken Q n
    → Stands plan es Q m.awaited m.rest → Stands plan (es ++ e ∷ []) R (stack_manager_after m e).awaited (stack_manager_after m e).rest
stands_begun plan es m e Q R n c j quiet next same h =
    stands_for plan (es ++ e ∷ []) R m (stack_manager_after m e) (quiet_posts m e quiet)
    (stands_by plan es e R m.awaited m.rest (λ d. quiet_works e d (works plan d es) quiet) (begun_by plan es Q R n c j m.awaited m.rest next same h))

-- ---- a callback ends

down_failure : (q : Sequence) (c : Callback) → list_all not_up q.left ≡ true → list_all not_up (left_after_failure q c) ≡ true
down_failure q callback.EvtDeviceQueryStop h = refl
down_failure q callback.EvtDeviceQueryRemove h = refl
down_failure q callback.EvtDevicePrepareHardware h = down_end q.steps q.ever_working
down_failure q callback.EvtDeviceD0Entry h = down_tail q.steps q.ever_working
down_failure q _ h = h

down_after : (q : Sequence) (c : Callback) (b : Bool) → list_all not_up q.left ≡ true → list_all not_up (if b then q.left else left_after_failure q c) ≡ true
down_after q c true h = h
down_after q c false h = down_failure q c h

refused_left : (q : Sequence) (c : Callback) (b : Bool) → is_query c ≡ true → not b ≡ true → (if b then q.left else left_after_failure q c) ≡ []
refused_left q c true h k = absurd (let z : ⊥ = cc in z)
refused_left q c false h k = refused_query q c h

awaits_is : (y : AskPost) (o : Option AskPost) (d : ℕ) → o ≡ Some y → elim o as (λ _. Bool) [ None ↦ false | Some x ↦ x.device.id.0 == d ] ≡ true → y.device.id.0 ≡ d
awaits_is y o d e h = eqb-true y.device.id.0 d (rw e at h)

module _ (plan : Plan) (es later : List Event) (Q R : Pnp) (n : ℕ) (c : Callback) (l : Option Handle) (v : Value) (same : R ≡ pnp.ended Q n (step.Run c l) v) where
  abbrev after_end : Sequence → Sequence
  after_end q = record q { left = left_after q (step.Run c l) v; running = None }

  ended_by : (m : StackManager) (y : AskPost) (o : ℕ) (b : Bool) → (is_query c && not (is_success v) && awaits m o) ≡ b → m.awaited ≡ Some y → n ≡ y.device.id.0 → Waits plan Q y m.rest
      → Stands plan later R (if b then ended m true else m).awaited (if b then ended m true else m).rest
  ended_by m y o true e at here w =
      let both_ : (is_query c && not (is_success v)) ≡ true = both_left (is_query c && not (is_success v)) (awaits m o) e in
      let left : left_after (sequence_of Q n) (step.Run c l) v ≡ [] = refused_left (sequence_of Q n) c (is_success v) (both_left (is_query c) (not (is_success v)) both_) (both_right (is_query c) (not (is_success v)) both_) in
      record {
        free = λ k. ap (λ x. busy x k) same ∙ all_free Q n after_end (λ d apart. w.others d (λ is. apart (is ∙ sym here))) refl left k;
        next = λ x h. absurd (let z : ⊥ = cc in z);
      }
  ended_by m y o false e at here w =
      subst (λ a. Stands plan later R a m.rest) (sym at)
      (waits_on plan Q R y m.rest n after_end same here (λ off alone was. down_after (sequence_of Q n) c (is_success v) was) w)

  ended_if : (m : StackManager) (o : ℕ) (j : Option Handle) (awaited : Option AskPost) → m.awaited ≡ awaited → pnp.running_step Q n ≡ Some (step.Run c j) → Stands plan es Q awaited m.rest
      → Stands plan later R (query_ended m c o v).awaited (query_ended m c o v).rest
  ended_if m o j None at runs g = absurd (let f = g.free n in let b = busy_running Q n (step.Run c j) runs in let z : ⊥ = cc in z)
  ended_if m o j (Some y) at runs w =
      ended_by m y o (is_query c && not (is_success v) && awaits m o) refl at (is_awaited plan Q y m.rest n (busy_running Q n (step.Run c j) runs) w) w

  pub stands_ended : (m : StackManager) (o : ℕ) (j : Option Handle) → pnp.running_step Q n ≡ Some (step.Run c j) → Stands plan es Q m.awaited m.rest → Stands plan later R (query_ended m c o v).awaited (query_ended m c o v).rest
  stands_ended m o j runs h = ended_if m o j m.awaited refl runs h

-- ---- a stage is passed

stage_says : (s : Stage) (p : Phase) (was : Bool) → phase_of_stage s ≡ Some p → works_after s was ≡ is_working p
stage_says stage.Working p was h = ap is_working (let z : Working ≡ p = cc in z)
stage_says stage.Sleeping p was h = ap is_working (let z : Sleeping ≡ p = cc in z)
stage_says stage.Removed p was h = ap is_working (let z : Removed ≡ p = cc in z)
stage_says _ p was h = absurd (let z : ⊥ = cc in z)

stage_down : (s : Stage) (j : Option Handle) (p : Phase) → phase_of_stage s ≡ Some p → not_up (step.Pass s j) ≡ true → is_working p ≡ false
stage_down stage.Working j p h off = absurd (let z : ⊥ = cc in z)
stage_down stage.Sleeping j p h off = sym (ap is_working (let z : Sleeping ≡ p = cc in z))
stage_down stage.Removed j p h off = sym (ap is_working (let z : Removed ≡ p = cc in z))
stage_down _ j p h off = absurd (let z : ⊥ = cc in z)

last_stage : (s : Stage) (j : Option Handle) (p : Phase) → phase_of_stage s ≡ Some p → is_last (step.Pass s j) ≡ true
last_stage s j p h = rw h refl

record Ends (m : StackManager) (y : AskPost) (n : ℕ) (p : Phase) : Type 0 where
  awaited : (came_to m n (Some p)).awaited ≡ None
  rest : (came_to m n (Some p)).rest ≡ unless_dropped (drops y.ask p) m.rest

ends_there : (m : StackManager) (y : AskPost) (n : ℕ) (p : Phase) → m.awaited ≡ Some y → n ≡ y.device.id.0 → Ends m y n p
ends_there m y n p at here =
    let on : awaits m n ≡ true = rw at (equal y.device.id.0 n (sym here)) in
    let dropped : awaited_drops m p ≡ drops y.ask p = rw at refl in
    record { awaited = rw on refl; rest = rw (on, dropped) refl }

module _ (plan : Plan) (es : List Event) (Q R : Pnp) (n : Handle) (s : Stage) (j : Option Handle)
    (idle : pnp.running_step Q n.id.0 ≡ None) (next : steps_left Q n.id.0 ≡ step.Pass s j ∷ drop 1 (steps_left Q n.id.0)) (same : R ≡ pnp.taken Q n.id.0) (last : last_only (steps_left Q n.id.0) ≡ true) where
  abbrev after : List Event
  after = es ++ event.Stage n s j ∷ []

  works_now : (p : Phase) → phase_of_stage s ≡ Some p → is_working p ≡ works plan n.id.0 after
  works_now p h =
      let on : (n.id.0 == n.id.0) ≡ true = itself n.id.0 in
      let now : works_step n.id.0 (works plan n.id.0 es) (event.Stage n s j) ≡ works_after s (works plan n.id.0 es) = rw on refl in
      sym (works_next plan n.id.0 es (event.Stage n s j) ∙ now ∙ stage_says s p (works plan n.id.0 es) h)

  passed_by : (m : StackManager) (y : AskPost) (o : Option Phase) → phase_of_stage s ≡ o → m.awaited ≡ Some y → n.id.0 ≡ y.device.id.0 → Waits plan Q y m.rest
      → Stands plan after R (came_to m n.id.0 o).awaited (came_to m n.id.0 o).rest
  passed_by m y None e at here w =
      subst (λ a. Stands plan after R a m.rest) (sym at)
      (waits_on plan Q R y m.rest n.id.0 taken_step same here
      (λ off alone was. ap (list_all not_up) (left_passed (sequence_of Q n.id.0) s j (drop 1 (steps_left Q n.id.0)) next) ∙ down_dropped (step.Pass s j) (steps_left Q n.id.0) (drop 1 (steps_left Q n.id.0)) next was) w)
  passed_by m y (Some p) e at here w =
      let t = ends_there m y n.id.0 p at here in
      let none : drop 1 (steps_left Q n.id.0) ≡ [] = nothing_after (step.Pass s j) (drop 1 (steps_left Q n.id.0)) (sym (ap last_only next) ∙ last) (last_stage s j p e) in
      let left : (taken_step (sequence_of Q n.id.0)).left ≡ [] = left_passed (sequence_of Q n.id.0) s j (drop 1 (steps_left Q n.id.0)) next ∙ none in
      let runs : (taken_step (sequence_of Q n.id.0)).running ≡ None = runs_passed (sequence_of Q n.id.0) s j (drop 1 (steps_left Q n.id.0)) next ∙ idle in
      let off_works : goes_up y.ask ≡ false → is_alone y.ask ≡ false → is_working p ≡ false = (λ off alone.
      let was : list_all not_up (steps_left Q n.id.0) ≡ true = ap (λ x. list_all not_up (steps_left Q x)) here ∙ w.down off alone in
      stage_down s j p e (both_left (not_up (step.Pass s j)) (list_all not_up (drop 1 (steps_left Q n.id.0))) (sym (ap (list_all not_up) next) ∙ was))) in
      let goes : Goes plan after R (unless_dropped (drops y.ask p) m.rest) = record {
        free = λ k. ap (λ x. busy x k) same ∙ all_free Q n.id.0 taken_step (λ d apart. w.others d (λ is. apart (is ∙ sym here))) runs left k;
        next = next_comes plan after y m.rest p w.follows (works_now p e ∙ ap (λ x. works plan x after) here) off_works;
      } in
      subst (λ a. Stands plan after R a (came_to m n.id.0 (Some p)).rest) (sym t.awaited) (subst (λ r. Goes plan after R r) (sym t.rest) goes)

  passed_if : (m : StackManager) (awaited : Option AskPost) → m.awaited ≡ awaited → Stands plan es Q awaited m.rest → Stands plan after R (came_to m n.id.0 (phase_of_stage s)).awaited (came_to m n.id.0 (phase_of_stage s)).rest
  passed_if m None at g = absurd (let f = g.free n.id.0 in let b = busy_left Q n.id.0 (step.Pass s j) (drop 1 (steps_left Q n.id.0)) next in let z : ⊥ = cc in z)
  passed_if m (Some y) at w = passed_by m y (phase_of_stage s) refl at (is_awaited plan Q y m.rest n.id.0 (busy_left Q n.id.0 (step.Pass s j) (drop 1 (steps_left Q n.id.0)) next) w) w

  pub stands_passed : (m : StackManager) → Stands plan es Q m.awaited m.rest → Stands plan after R (came_to m n.id.0 (phase_of_stage s)).awaited (came_to m n.id.0 (phase_of_stage s)).rest
  stands_passed m h = passed_if m m.awaited refl h

-- ---- something is asked

-- a post that goes down and changes nothing finds its device not Working
idle_down : (p : Phase) (a : Ask) → changes_nothing p a ≡ true → goes_up a ≡ false → is_alone a ≡ false → is_working p ≡ false
idle_down Working asks.Start h off alone = absurd (let z : ⊥ = cc in z)
idle_down Working asks.Wake h off alone = absurd (let z : ⊥ = cc in z)
idle_down Working asks.Sleep h off alone = absurd (let z : ⊥ = cc in z)
idle_down Working asks.Rebalance h off alone = absurd (let z : ⊥ = cc in z)
idle_down Working asks.Remove h off alone = absurd (let z : ⊥ = cc in z)
idle_down Working asks.Surprise h off alone = absurd (let z : ⊥ = cc in z)
idle_down Off a h off alone = refl
idle_down Sleeping a h off alone = refl
idle_down Removed a h off alone = refl

module _ (plan : Plan) (es : List Event) (Q R : Pnp) (agent : ℕ) (a : Ask) (n : Handle) (answer : Option Handle) (same : R ≡ pnp.ask Q n.id.0 a) where
  abbrev posted : Event
  posted = event.Posted agent (post.Ask a n) answer

  abbrev steps_given : Sequence → Sequence
  steps_given q = record q { left = steps_for q.steps q.ever_working q.phase a }

  abbrev this : AskPost
  this = record { ask = a; device = n }

  follows_by : (o : Option Handle) (x : AskPost) → option_map (λ (e : Handle). (let y : AskPost = record { ask = a; device = e } in y)) o ≡ Some x → (x.ask ≡ a) × (o ≡ Some x.device)
  follows_by None x h = absurd (let z : ⊥ = cc in z)
  follows_by (Some e) x h =
      let is : record { ask = a; device = e } ≡ x = cc in
      (sym (ap (λ (y : AskPost). y.ask) is), ap (λ (y : AskPost). Some y.device) is)

  module _ (m : StackManager) (free : (d : ℕ) → busy Q d ≡ false) (known : follower m.devices a n.id.0 ≡ follower_of plan a n.id.0) (phase : phase_in m.devices n.id.0 ≡ phase_of Q n.id.0) (works_ : is_working (phase_of Q n.id.0) ≡ works plan n.id.0 es) where
    follows_it : Follows plan this (post_after m.devices a n)
    follows_it x h = let f = follows_by (follower m.devices a n.id.0) x h in (f.0, sym known ∙ f.1)

    abbrev p : Phase
    p = phase_of Q n.id.0

    asked_by : (b : Bool) → changes_nothing (phase_in m.devices n.id.0) a ≡ b
        → Stands plan (es ++ posted ∷ []) R (if b then ended (with_post m a n) (drops a (phase_in m.devices n.id.0)) else with_post m a n).awaited (if b then ended (with_post m a n) (drops a (phase_in m.devices n.id.0)) else with_post m a n).rest
    asked_by true e =
        let nothing : changes_nothing p a ≡ true = sym (ap (λ x. changes_nothing x a) phase) ∙ e in
        record {
          free = λ k. ap (λ x. busy x k) same ∙ all_free Q n.id.0 steps_given (λ d apart. free d) (free_runs_none Q n.id.0 (free n.id.0)) (nothing_asked (sequence_of Q n.id.0).steps (sequence_of Q n.id.0).ever_working p a nothing) k;
          next = λ x h.
              next_comes plan (es ++ posted ∷ []) this (post_after m.devices a n) p follows_it (works_ ∙ sym (works_next plan n.id.0 es posted)) (λ off alone. idle_down p a nothing off alone) x
              (sym (ap (λ y. unless_dropped (drops a y) (post_after m.devices a n)) phase) ∙ h);
        }
    asked_by false e = record {
      others = λ d apart. ap (λ x. busy x d) same ∙ busy_elsewhere Q n.id.0 d steps_given apart ∙ free d;
      down = λ off alone.
          ap (λ x. list_all not_up (steps_left x n.id.0)) same ∙ ap (λ (q : Sequence). list_all not_up q.left) (sequence_here Q n.id.0 steps_given)
          ∙ down_asked (sequence_of Q n.id.0).steps (sequence_of Q n.id.0).ever_working p a off alone;
      follows = follows_it;
    }

    pub stands_asked : Stands plan (es ++ posted ∷ []) R (asked m a n).awaited (asked m a n).rest
    stands_asked = asked_by (changes_nothing (phase_in m.devices n.id.0) a) refl
