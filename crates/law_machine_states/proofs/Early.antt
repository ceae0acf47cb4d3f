-- No frame runs on a cleaned or gone object, but for that of a destroy callback, at each place of every run.
use Rattle.std.proofs.Common.{◌≡◌, ◌≢◌, ℕ, ◌+◌, ◌-◌, ◌==◌, ◌≤◌, Bool, true, false, not, ◌&&◌, List, [], ◌∷◌, inl, inr, fold, slice_set, take, refl, sym, ap, subst, ◌∙◌, arith}
use Rattle.wdf_base.specs.Meaning.{Meaning}
use Rattle.wdf_base.specs.Same.{same_callback}
use Rattle.wdf_base.specs.declared.plan.Plan.{Plan}
use Rattle.wdf_base.specs.declared.ids.Handle.{Handle}
use Rattle.wdf_base.specs.declared.object.Kind.{Kind}
use Rattle.wdf_base.specs.declared.object.Kind.TheVariants as kind
use Rattle.wdf_base.specs.declared.object.Life.TheVariants as life
use Rattle.wdf_base.specs.declared.call.Callback.TheVariants as callback
use Rattle.wdf_base.specs.declared.event.Event.{Event}
use Rattle.wdf_base.specs.declared.frame.Frame.{Frame}
use Rattle.wdf_base.specs.Lives.{is_live, is_past_cleanup}
use Rattle.wdf_model.specs.declared.entries.Node.{Node}
use Rattle.wdf_model.specs.parts.Tree.{Tree, gone, life_of, may_clean, may_destroy, new_node, next_id, node_of, noted, subtree, with_life, with_node}
use Rattle.wdf_model.specs.parts.Tree as tree
use Rattle.wdf_model.specs.parts.Cpus.{frame_of, nobody_on}
use Rattle.wdf_model.specs.parts.Requests as requests
use Rattle.wdf_model.specs.State.{State, is_locked, is_waited_for, nothing_at, opening}
use Rattle.wdf_model.specs.declared.deed.Deed.{Deed}
use Rattle.wdf_model.specs.declared.deed.Deed.TheVariants.{Create, MakeRequest, Arrive, AskDeletion, Refer, Unrefer, WriteCell, Note, CleanUp, EndLife, PushFrame, PopFrame, CompleteRequest}
use Rattle.wdf_model.specs.rules.Deeds.{ask_object, do_deed, do_deeds, give_up}
use Rattle.wdf_model.specs.rules.Starts.{is_finished, is_unused}
use Rattle.wdf_model.specs.rules.Steps.{deeds}
use Rattle.wdf_model.specs.rules.Ready.{IsRunOf, state_after}
use Rattle.law_machine_base.specs.Fits.{all_fit, fits}
use Rattle.wdf_model.proofs.Tests.{both_left, both_right}
use Rattle.wdf_model.proofs.Maps.{entry_before, entry_past, entry_put_other}
use Rattle.wdf_model.proofs.Counts.{one_or_two}
use Rattle.law_machine_base.proofs.Deletion.{object_live, object_off}
use Rattle.law_machine_base.proofs.FitsOfEvents.{event_fits}
use Rattle.law_machine_counts.proofs.FrameMoves.{FrameKept}
use Rattle.law_machine_lives.proofs.Stays.{gives_up}
use Rattle.law_machine_lives.proofs.Lists.{reads_same}
use Rattle.law_machine_lives.proofs.Sound.{AllSound, Sound}
use Rattle.law_machine_lives.proofs.SoundRuns.{all_sound, known_place}
use Rattle.law_machine_lives.proofs.Framing.{off_it, object_of}
use Rattle.law_machine_lives.proofs.FramesStay.{Begins, FramesGoOn, frames_by}
use Rattle.law_machine_states.specs.States.{FramesBeforeCleanup}
use Rattle.law_machine_lives.proofs.Readers.{tree_of}
use Rattle.law_machine_lives.proofs.Lives.{live_early, noted_kept}
use Rattle.law_machine_lives.proofs.PartsStay.{tree_stays}
use Rattle.law_machine_states.proofs.Beginnings.{AllEarly, Early, event_early}
use Rattle.law_machine_counts.proofs.StepsOverRuns.{none_yet}
use Rattle.wdf_model.proofs.FrameCounts.{on}
use Rattle.law_machine_counts.proofs.Arrived.{arrived_tree}
use Rattle.law_machine_lives.proofs.AllOf.{all_both, all_keep}

-- ---- an object that isn't past its cleanup isn't after a deed, until its cleanup or its end

abbrev EarlyStill : Tree → Tree → Type 0
EarlyStill T U = (x : ℕ) → is_past_cleanup (life_of T x) ≡ false → is_past_cleanup (life_of U x) ≡ false

early_same : (T U : Tree) → U ≡ T → EarlyStill T U
early_same T U e = subst (λ (V : Tree). EarlyStill T V) (sym e) (λ x h. h)

early_changes : (T : Tree) (o : ℕ) (f : Node → Node) → is_past_cleanup (f (node_of T o)).life ≡ is_past_cleanup (life_of T o) → EarlyStill T (with_node T o f)
early_changes T o f same x h = reads_same (λ n. is_past_cleanup n.life) T o f same x ∙ h

early_made : (T : Tree) (k : Kind) (class parent : ℕ) → EarlyStill T (tree.create T k class parent)
early_made T k class parent x h =
    let apart : x ≢ next_id T = λ e. let past : is_past_cleanup (life_of T x) ≡ true = rw e (ap (λ (n : Node). is_past_cleanup n.life) (entry_past gone T.nodes (next_id T) (omega arith))) in let z : ⊥ = cc in z in
    ap (λ (n : Node). is_past_cleanup n.life) (entry_before gone T.nodes (new_node k class parent) x apart) ∙ h

asked_one : {A : Type 0} (S : State A) (x : ℕ) (b : Bool) → is_live (life_of S.tree x) ≡ b → EarlyStill S.tree (ask_object S x).tree
asked_one {A} S x true e = subst (λ (U : State A). EarlyStill S.tree U.tree) (sym (object_live S x e)) (early_changes S.tree x (with_life life.Asked) (sym (live_early (life_of S.tree x) e)))
asked_one {A} S x false e = early_same S.tree (ask_object S x).tree (ap (λ (U : State A). U.tree) (object_off S x e))

all_asked : {A : Type 0} (xs : List ℕ) (S : State A) → EarlyStill S.tree (fold ask_object S xs).tree
all_asked [] S x h = h
all_asked (y ∷ ys) S x h = all_asked ys (ask_object S y) x (asked_one S y (is_live (life_of S.tree y)) refl x h)

-- the object that a deed cleans up or ends, if any
abbrev pub Finishes : Deed → ℕ → Type 0
Finishes (CleanUp o) x = x ≡ o.0
Finishes (EndLife o) x = x ≡ o.0
Finishes _ x = ⊥

others_stay : (T : Tree) (o x : ℕ) (f : Node → Node) → x ≢ o → is_past_cleanup (life_of T x) ≡ false → is_past_cleanup (life_of (with_node T o f) x) ≡ false
others_stay T o x f n h = ap (λ (m : Node). is_past_cleanup m.life) (entry_put_other gone T.nodes o x (f (node_of T o)) n) ∙ h

pub early_still : {A : Type 0} (plan : Plan) (d : Deed) (S : State A) (x : ℕ) → (Finishes d x → ⊥) → is_past_cleanup (life_of S.tree x) ≡ false → is_past_cleanup (life_of (do_deed plan d S).tree x) ≡ false
early_still plan (Create k class parent) S x n h = early_made S.tree k class parent.0 x h
early_still plan (MakeRequest class parent) S x n h = early_made S.tree kind.Made class parent.0 x h
early_still plan (Arrive device info p) S x n h = ap (λ T. is_past_cleanup (life_of T x)) (arrived_tree S device.0 info p) ∙ early_made S.tree kind.Request 0 device.0 x h
early_still plan (AskDeletion o) S x n h = all_asked (subtree S.tree o.0) S x h
early_still plan (Refer o) S x n h = early_changes S.tree o.0 (λ m. record m { references = m.references + 1 }) refl x h
early_still plan (Unrefer o) S x n h = early_changes S.tree o.0 (λ m. record m { references = m.references - 1 }) refl x h
early_still plan (WriteCell o k v) S x n h = early_changes S.tree o.0 (λ m. record m { cells = slice_set m.cells k v }) refl x h
early_still plan (Note o c) S x n h = early_changes S.tree o.0 (noted c) (ap is_past_cleanup (noted_kept c (node_of S.tree o.0)).0) x h
early_still plan (CleanUp o) S x n h = others_stay S.tree o.0 x (with_life life.Cleaned) n h
early_still plan (EndLife o) S x n h = others_stay S.tree o.0 x (λ _. gone) n h
early_still plan (CompleteRequest r) S x n h =
    all_asked (subtree (give_up S r.0).tree r.0) (record (give_up S r.0) { requests = requests.complete S.requests r.0 }) x (early_same S.tree (give_up S r.0).tree (gives_up tree_of (λ S Q R P. refl) S r.0) x h)
early_still plan d S x n h = early_same _ _ (tree_stays plan d S refl) x h

-- ---- frames

-- a frame is one that may run: its object isn't past its cleanup, or it is that of a destroy callback
abbrev MayRun : {A : Type 0} → State A → ℕ → Type 0
MayRun S f = same_callback (frame_of S.cpus f).callback callback.EvtDestroyCallback ≡ false → is_past_cleanup (life_of S.tree (object_of S f)) ≡ false

abbrev AllMayRun : {A : Type 0} → State A → Type 0
AllMayRun S = (f : ℕ) → 1 ≤ on S.cpus f → MayRun S f

runs_still : {A : Type 0} (S U : State A) → FramesGoOn S.cpus U.cpus → ((f : ℕ) → 1 ≤ on S.cpus f → is_past_cleanup (life_of S.tree (object_of S f)) ≡ false → is_past_cleanup (life_of U.tree (object_of S f)) ≡ false) → AllMayRun S → AllMayRun U
runs_still S U go stay k f more n =
    let g = go f more in
    let kept : FrameKept (frame_of S.cpus f) (frame_of U.cpus f) = g.1 in
    let was : same_callback (frame_of S.cpus f).callback callback.EvtDestroyCallback ≡ false = sym (ap (λ c. same_callback c callback.EvtDestroyCallback) kept.callback) ∙ n in
    ap (λ (h : Handle). is_past_cleanup (life_of U.tree h.id.0)) kept.object ∙ stay f g.0 (k f g.0 was)

-- no frame runs on an object that is cleaned up or ends
stays_there : {A : Type 0} (plan : Plan) (d : Deed) (S : State A) → fits plan d S ≡ true → (f : ℕ) → 1 ≤ on S.cpus f → is_past_cleanup (life_of S.tree (object_of S f)) ≡ false
    → is_past_cleanup (life_of (do_deed plan d S).tree (object_of S f)) ≡ false
stays_there plan (CleanUp o) S fit f more h =
    let unused : is_unused S o.0 ≡ true = both_right (may_clean S.tree o.0) (is_unused S o.0) (both_left (may_clean S.tree o.0 && is_unused S o.0) (is_finished S o.0) (both_left (may_clean S.tree o.0 && is_unused S o.0 && is_finished S o.0) (nothing_at S o.0) fit)) in
    let nobody : nobody_on S.cpus o.0 ≡ true = both_left (nobody_on S.cpus o.0) (not (is_locked S o.0)) (both_left (nobody_on S.cpus o.0 && not (is_locked S o.0)) (not (is_waited_for S o.0)) unused) in
    early_still plan (CleanUp o) S (object_of S f) (off_it S.cpus o.0 f nobody more) h
stays_there plan (EndLife o) S fit f more h = early_still plan (EndLife o) S (object_of S f) (off_it S.cpus o.0 f (both_right (may_destroy S.tree o.0) (nobody_on S.cpus o.0) fit) more) h
stays_there plan d S fit f more h = early_still plan d S (object_of S f) (λ e. e) h

runs_by : {A : Type 0} (plan : Plan) (d : Deed) (S : State A) → fits plan d S ≡ true → Sound plan d S → Early d S → AllMayRun S → AllMayRun (do_deed plan d S)
runs_by plan (PushFrame cpu f frame level) S fit s early k =
    let U = do_deed plan (PushFrame cpu f frame level) S in
    let b : Begins S.cpus U.cpus f.0 frame = frames_by plan (PushFrame cpu f frame level) S s in
    λ x more. elim (one_or_two x f.0) [
      | inl e ↦ subst (MayRun U) (sym e) (λ n. ap (λ (a : Frame). is_past_cleanup (life_of S.tree a.object.id.0)) b.here ∙ early (sym (ap (λ (a : Frame). same_callback a.callback callback.EvtDestroyCallback) b.here) ∙ n))
      | inr d ↦
          let others = b.others x d in
          let same = others.0 in
          λ n. ap (λ (a : Frame). is_past_cleanup (life_of S.tree a.object.id.0)) others.1 ∙ k x (omega arith) (sym (ap (λ (a : Frame). same_callback a.callback callback.EvtDestroyCallback) others.1) ∙ n)
    ]
runs_by plan (PopFrame cpu) S fit s early k = runs_still S (do_deed plan (PopFrame cpu) S) (frames_by plan (PopFrame cpu) S s).0 (stays_there plan (PopFrame cpu) S fit) k
runs_by plan d S fit s early k = runs_still S (do_deed plan d S) (frames_by plan d S s).0 (stays_there plan d S fit) k

-- ---- each place of a run

deeds_run : {A : Type 0} (plan : Plan) (ds : List Deed) (S : State A) → all_fit plan ds S ≡ true → AllSound plan ds S → AllEarly plan ds S → AllMayRun S → AllMayRun (do_deeds plan ds S)
deeds_run {A} plan ds S h s early k =
    all_keep plan (λ (d : Deed) (U : State A). Sound plan d U × Early d U) (λ (U : State A). AllMayRun U) (λ d U fit p q. runs_by plan d U fit p.0 p.1 q)
    ds S h (all_both plan (λ (d : Deed) (U : State A). Sound plan d U) (λ (d : Deed) (U : State A). Early d U) ds S s early) k

opens : {A : Type 0} (plan : Plan) (m : Meaning A) → AllMayRun (opening plan m)
opens plan m f more = absurd (let e = none_yet plan (λ x. x == f) in omega arith)

pub runs_at_each : {A : Type 0} (plan : Plan) (m : Meaning A) (run : List Event) → IsRunOf plan m run → (n : ℕ) → AllMayRun (state_after plan m (take n run))
runs_at_each {A} plan m run is_run n = known_place plan m (λ (S : State A). AllMayRun S) (opens plan m)
    (λ S e known may_come k. deeds_run plan (deeds plan S e) S (event_fits plan m S e may_come) (all_sound plan m S e known may_come) (event_early plan m S e may_come) k)
    (λ S time k. k) run is_run n

pub frames_at_each : {A : Type 0} (plan : Plan) (m : Meaning A) (run : List Event) → IsRunOf plan m run → (n : ℕ) → FramesBeforeCleanup (state_after plan m (take n run))
frames_at_each plan m run is_run n = record { early = runs_at_each plan m run is_run n }
