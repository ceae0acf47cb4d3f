-- What the stack manager knows of the devices, event by event.
use Rattle.std.proofs.Common.{if◌then◌else◌, ◌≡◌, ℕ, ◌==◌, Bool, true, false, not, ◌&&◌, List, [], ◌∷◌, ◌++◌, length, map, Option, Some, None, option_map, unwrap_or, refl, sym, ap, subst, ◌∙◌}
use Rattle.std.proofs.lemmas.Bool.{eqb-true}
use Rattle.std.proofs.lemmas.List.{length-map}
use Rattle.wdf_base.specs.declared.plan.Plan.{Plan}
use Rattle.wdf_base.specs.declared.ids.Handle.{Handle}
use Rattle.wdf_base.specs.declared.event.Ask.{Ask}
use Rattle.wdf_base.specs.declared.event.Post.{Post}
use Rattle.wdf_base.specs.declared.event.Post.TheVariants as post
use Rattle.wdf_base.specs.declared.event.Stage.{Stage}
use Rattle.wdf_base.specs.declared.event.Event.{Event}
use Rattle.wdf_base.specs.declared.event.Event.TheVariants as event
use Rattle.wdf_base.specs.Callbacks.{is_query}
use Rattle.wdf_model.specs.declared.enums.Phase.{Phase}
use Rattle.wdf_model.specs.declared.stack.StackDevice.{StackDevice}
use Rattle.wdf_model.specs.agents.StackManager.{StackManager, asked, awaited_drops, awaits, came_to, changes_nothing, drops, ended, is_device, is_working, known, manager_posted, phase_in, phase_of_stage, stack_manager_after, with_phase, with_phase_one, with_post}
use Rattle.wdf_model.proofs.Tests.{itself}
use Rattle.law_stack.specs.Words.{works, works_after, works_step}
use Rattle.law_stack.proofs.Chains.{Knows, at_phase, known_phase, phase_after, stage_works, works_next}
use Rattle.wdf_base.specs.Values.{is_success}

-- ---- the devices after an event

abbrev in_phase : ℕ → Option Phase → List StackDevice → List StackDevice
in_phase d None xs = xs
in_phase d (Some p) xs = map (with_phase_one d p) xs

abbrev pub devices_after : Event → List StackDevice → List StackDevice
devices_after (event.Stage d s i) xs = in_phase d.id.0 (phase_of_stage s) xs
devices_after _ xs = xs

at_once_by : (m : StackManager) (a : Ask) (p : Phase) (b : Bool) → (if b then ended m (drops a p) else m).devices ≡ m.devices
at_once_by m a p true = refl
at_once_by m a p false = refl

posted_by : (m : StackManager) (a : Ask) (d : Handle) (b : Bool) → (if b then asked m a d else m).devices ≡ m.devices
posted_by m a d true = at_once_by (with_post m a d) a (phase_in m.devices d.id.0) (changes_nothing (phase_in m.devices d.id.0) a)
posted_by m a d false = refl

posted_devices : (m : StackManager) (agent : ℕ) (p : Post) → (manager_posted m agent p).devices ≡ m.devices
posted_devices m agent (post.Ask a d) = posted_by m a d (agent == 0)
posted_devices m agent _ = refl

came_by : (m : StackManager) (d : ℕ) (p : Phase) (b : Bool) → (if b then ended (with_phase m d p) (awaited_drops m p) else with_phase m d p).devices ≡ map (with_phase_one d p) m.devices
came_by m d p true = refl
came_by m d p false = refl

came_devices : (m : StackManager) (d : ℕ) (o : Option Phase) → (came_to m d o).devices ≡ in_phase d o m.devices
came_devices m d None = refl
came_devices m d (Some p) = came_by m d p (awaits m d)

query_by : (m : StackManager) (b : Bool) → (if b then ended m true else m).devices ≡ m.devices
query_by m true = refl
query_by m false = refl

pub manager_devices : (m : StackManager) (e : Event) → (stack_manager_after m e).devices ≡ devices_after e m.devices
manager_devices m (event.Posted agent p answer) = posted_devices m agent p
manager_devices m (event.Stage d s i) = came_devices m d.id.0 (phase_of_stage s)
manager_devices m (event.End cpu c d v) = query_by m (is_query c && not (is_success v) && awaits m d.id.0)
manager_devices m _ = refl

-- as many as before
pub as_many : (m : StackManager) (e : Event) → length (stack_manager_after m e).devices ≡ length m.devices
as_many m e = ap (λ (xs : List StackDevice). length xs) (manager_devices m e) ∙ after_long e m.devices
  where
    phase_long : (d : ℕ) (o : Option Phase) (xs : List StackDevice) → length (in_phase d o xs) ≡ length xs
    phase_long d None xs = refl
    phase_long d (Some p) xs = length-map xs (with_phase_one d p)

    after_long : (x : Event) (xs : List StackDevice) → length (devices_after x xs) ≡ length xs
    after_long (event.Stage d s i) xs = phase_long d.id.0 (phase_of_stage s) xs
    after_long _ xs = refl

-- ---- its lines

either_lines : (m k l : StackManager) (b : Bool) → k.lines ≡ m.lines → l.lines ≡ m.lines → (if b then k else l).lines ≡ m.lines
either_lines m k l true e f = e
either_lines m k l false e f = f

posted_lines : (m : StackManager) (agent : ℕ) (p : Post) → (manager_posted m agent p).lines ≡ m.lines
posted_lines m agent (post.Ask a d) = either_lines m (asked m a d) m (agent == 0) (either_lines m (ended (with_post m a d) (drops a (phase_in m.devices d.id.0))) (with_post m a d) (changes_nothing (phase_in m.devices d.id.0) a) refl refl) refl
posted_lines m agent _ = refl

came_lines : (m : StackManager) (d : ℕ) (o : Option Phase) → (came_to m d o).lines ≡ m.lines
came_lines m d None = refl
came_lines m d (Some p) = either_lines m (ended (with_phase m d p) (awaited_drops m p)) (with_phase m d p) (awaits m d) refl refl

-- they stay
pub same_lines : (m : StackManager) (e : Event) → (stack_manager_after m e).lines ≡ m.lines
same_lines m (event.Posted agent p answer) = posted_lines m agent p
same_lines m (event.Stage d s i) = came_lines m d.id.0 (phase_of_stage s)
same_lines m (event.End cpu c d v) = either_lines m (ended m true) m (is_query c && not (is_success v) && awaits m d.id.0) refl refl
same_lines m _ = refl

-- ---- the phases after an event

abbrev pub phases_after : Event → (ℕ → Phase) → ℕ → Phase
phases_after (event.Stage d s i) phase k = if d.id.0 == k then phase_after s (phase k) else phase k
phases_after _ phase k = phase k

stage_works_by : (s : Stage) (p : Phase) (was b : Bool) → is_working p ≡ was → is_working (if b then phase_after s p else p) ≡ (if b then works_after s was else was)
stage_works_by s p was true h = stage_works s p was h
stage_works_by s p was false h = h

step_works : (e : Event) (phase : ℕ → Phase) (k : ℕ) (was : Bool) → is_working (phase k) ≡ was → is_working (phases_after e phase k) ≡ works_step k was e
step_works (event.Stage d s i) phase k was h = stage_works_by s (phase k) was (d.id.0 == k) h
step_works _ phase k was h = h

swap_false : (a b : ℕ) (y : Bool) → (b == a) ≡ y → (a == b) ≡ false → (b == a) ≡ false
swap_false a b true e h =
    let same : b ≡ a = eqb-true b a e in
    let on : (a == b) ≡ true = ap (λ z. a == z) same ∙ itself a in
    let no : true ≡ false = sym on ∙ h in
    absurd (let z : ⊥ = cc in z)
swap_false a b false e h = e

swap : (a b : ℕ) (x : Bool) → (a == b) ≡ x → (b == a) ≡ x
swap a b true h = ap (λ z. b == z) (eqb-true a b h) ∙ itself b
swap a b false h = swap_false a b (b == a) refl h

same_phase : (b : Bool) (p : Phase) → p ≡ (if b then p else p)
same_phase true p = refl
same_phase false p = refl

with_phase_by : (plan : Plan) (d k : ℕ) (p q : Phase) (b : Bool) → (d == k) ≡ b → with_phase_one d p (at_phase plan k q) ≡ at_phase plan k (if b then p else q)
with_phase_by plan d k p q true h = let on : is_device d (at_phase plan k q) ≡ true = swap d k true h in rw on refl
with_phase_by plan d k p q false h = let off : is_device d (at_phase plan k q) ≡ false = swap d k false h in rw off refl

known_stage : (plan : Plan) (d k : ℕ) (o : Option Phase) (xs : List StackDevice) (q : Phase) → known xs k ≡ Some (at_phase plan k q) → known (in_phase d o xs) k ≡ Some (at_phase plan k (if d == k then unwrap_or o q else q))
known_stage plan d k None xs q h = h ∙ ap (λ p. Some (at_phase plan k p)) (same_phase (d == k) q)
known_stage plan d k (Some p) xs q h =
    known_phase d k p xs ∙ ap (option_map (with_phase_one d p)) h ∙ ap Some (with_phase_by plan d k p q (d == k) refl)

known_next : (plan : Plan) (e : Event) (phase : ℕ → Phase) (k : ℕ) (xs : List StackDevice) → known xs k ≡ Some (at_phase plan k (phase k)) → known (devices_after e xs) k ≡ Some (at_phase plan k (phases_after e phase k))
known_next plan (event.Stage d s i) phase k xs h = known_stage plan d.id.0 k (phase_of_stage s) xs (phase k) h
known_next plan _ phase k xs h = h

-- what it knows stays true
pub knows_next : (plan : Plan) (es : List Event) (m : StackManager) (e : Event) (phase : ℕ → Phase) → Knows plan es m.devices phase → Knows plan (es ++ e ∷ []) (stack_manager_after m e).devices (phases_after e phase)
knows_next plan es m e phase K = record {
  knows = λ k there. subst (λ xs. known xs k ≡ Some (at_phase plan k (phases_after e phase k))) (sym (manager_devices m e)) (known_next plan e phase k m.devices (K.knows k there));
  works_so = λ k. step_works e phase k (works plan k es) (K.works_so k) ∙ sym (works_next plan k es e);
}
