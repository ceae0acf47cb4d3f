-- Deeds that tell such handles alone leave such handles alone in frames and context cells.
use Rattle.std.proofs.Common.{◌≡◌, ℕ, ◌+◌, ◌-◌, Bool, true, false, not, List, [], ◌∷◌, fold, length, slice_set, Option, Some, None, inl, inr, refl, sym, subst}
use Rattle.std.specs.Prelude.{⊤}
use Rattle.std.specs.List.{list_all}
use Rattle.wdf_base.specs.Lives.{is_live}
use Rattle.wdf_base.specs.declared.plan.Plan.{Plan}
use Rattle.wdf_base.specs.declared.ids.Handle.{Handle}
use Rattle.wdf_base.specs.declared.object.Kind.{Kind}
use Rattle.wdf_base.specs.declared.object.Kind.TheVariants as kind
use Rattle.wdf_base.specs.declared.object.Life.TheVariants as life
use Rattle.wdf_base.specs.declared.object.Place.{Place}
use Rattle.wdf_base.specs.declared.object.Place.TheVariants as place
use Rattle.wdf_base.specs.declared.object.RequestInfo.{RequestInfo}
use Rattle.wdf_base.specs.declared.call.Callback.{Callback}
use Rattle.wdf_base.specs.declared.call.Callback.TheVariants as callback
use Rattle.wdf_model.specs.declared.entries.Node.{Node}
use Rattle.wdf_model.specs.declared.entries.Running.{Running}
use Rattle.wdf_model.specs.Tables.{entry, put}
use Rattle.wdf_model.specs.parts.Cpus.{Cpus, blank_frame, frame_of, no_frame, running, top, without_frame}
use Rattle.wdf_model.specs.parts.Requests as requests
use Rattle.wdf_model.specs.parts.Tree.{Tree, gone, life_of, new_node, node_of, noted, subtree, with_life, with_node}
use Rattle.wdf_model.specs.parts.Tree as tree
use Rattle.wdf_model.specs.State.{State}
use Rattle.wdf_model.specs.declared.deed.Deed.{Deed}
use Rattle.wdf_model.specs.declared.deed.Deed.TheVariants.{Create, MakeRequest, Arrive, AskDeletion, Refer, Unrefer, WriteCell, Note, CleanUp, EndLife, PushFrame, GoOn, Raise, Lower, PopFrame, ParkFrame, UnparkFrame, TakeLock, ReleaseLock, CompleteRequest}
use Rattle.wdf_model.specs.rules.Deeds.{arrive_at, ask_object, do_deed, do_deeds, give_up}
use Rattle.wdf_model.proofs.Counts.{one_or_two}
use Rattle.wdf_model.proofs.Maps.{entry_before, entry_last, entry_put_other, entry_put_same}
use Rattle.wdf_model.proofs.Tests.{both_left, both_right}
use Rattle.law_machine_base.proofs.Deletion.{object_live, object_off}
use Rattle.law_machine_lives.proofs.Lists.{Each}
use Rattle.law_machine_lives.proofs.PartsStay.{tree_stays}
use Rattle.law_machine_lives.proofs.QuietMoves.{quiet_cpus}
use Rattle.law_machine_lives.proofs.Readers.{tree_of}
use Rattle.law_machine_lives.proofs.Stays.{gives_up}
use Rattle.law_handles.specs.Handles.{InFrame, InValue}
use Rattle.law_handles.proofs.Values.{InValues, value_set, zeros}

-- ---- what a deed tells

-- the handles that a deed puts into a frame or a cell
abbrev pub Tells : (Handle → Type 0) → Deed → Type 0
Tells P (PushFrame cpu f frame level) = InFrame P frame
Tells P (GoOn f frame) = InFrame P frame
Tells P (WriteCell o k v) = InValue P v
Tells P _ = ⊤

abbrev pub AllTell : (Handle → Type 0) → List Deed → Type 0
AllTell P ds = Each (Tells P) ds

-- a deed that puts anything there
abbrev pub is_telling : Deed → Bool
is_telling (PushFrame cpu f frame level) = true
is_telling (GoOn f frame) = true
is_telling (WriteCell o k v) = true
is_telling _ = false

none_told : (P : Handle → Type 0) (d : Deed) → not (is_telling d) ≡ true → Tells P d
none_told P (PushFrame cpu f frame level) h = absurd (let z : ⊥ = cc in z)
none_told P (GoOn f frame) h = absurd (let z : ⊥ = cc in z)
none_told P (WriteCell o k v) h = absurd (let z : ⊥ = cc in z)
none_told P _ h = tt

pub none_tell : (P : Handle → Type 0) (ds : List Deed) → list_all (λ d. not (is_telling d)) ds ≡ true → AllTell P ds
none_tell P [] h = tt
none_tell P (d ∷ ds) h =
    (none_told P d (both_left (not (is_telling d)) (list_all (λ x. not (is_telling x)) ds) h), none_tell P ds (both_right (not (is_telling d)) (list_all (λ x. not (is_telling x)) ds) h))

-- ---- frames

module _ (P : Handle → Type 0) (blank : InFrame P blank_frame) where
  abbrev pub FramesIn : Cpus → Type 0
  FramesIn C = (f : ℕ) → InFrame P (frame_of C f)

  frame_put : (fs : List Running) (f : ℕ) (new : Running) → InFrame P new.frame → ((x : ℕ) → InFrame P (entry no_frame fs x).frame) → (x : ℕ) → InFrame P (entry no_frame (put no_frame fs f new) x).frame
  frame_put fs f new h each x = elim (one_or_two x f) [
    | inl e ↦ rw e (subst (λ (r : Running). InFrame P r.frame) (sym (entry_put_same no_frame fs f new)) h)
    | inr n ↦ subst (λ (r : Running). InFrame P r.frame) (sym (entry_put_other no_frame fs f x new n)) (each x)
  ]

  popped : (C : Cpus) → FramesIn C → (there : Option ℕ) (x : ℕ) → InFrame P (entry no_frame (without_frame C there) x).frame
  popped C each None x = each x
  popped C each (Some f) x = frame_put C.frames f no_frame blank each x

  frames_by : {A : Type 0} (plan : Plan) (d : Deed) (S : State A) → Tells P d → FramesIn S.cpus → FramesIn (do_deed plan d S).cpus
  frames_by plan (PushFrame cpu f frame level) S t each = frame_put S.cpus.frames f.0 (record { frame = frame; level = record { 0 = level.0 } }) t each
  frames_by plan (GoOn f frame) S t each = frame_put S.cpus.frames f.0 (record (running S.cpus f.0) { frame = frame }) t each
  frames_by plan (PopFrame cpu) S t each = popped S.cpus each (top S.cpus cpu.0)
  frames_by plan (ParkFrame cpu) S t each = each
  frames_by plan (UnparkFrame cpu f) S t each = each
  frames_by plan (Raise f level) S t each = each
  frames_by plan (Lower f level) S t each = each
  frames_by plan (TakeLock l f by_call) S t each = each
  frames_by plan (ReleaseLock l) S t each = each
  frames_by plan d S t each = subst (λ (C : Cpus). FramesIn C) (sym (quiet_cpus plan d S refl)) each

  -- ---- context cells

  abbrev pub CellsIn : Tree → Type 0
  CellsIn T = (o : ℕ) → InValues P (node_of T o).cells

  node_changes : (T : Tree) (o : ℕ) (f : Node → Node) → InValues P (f (node_of T o)).cells → CellsIn T → CellsIn (with_node T o f)
  node_changes T o f h each x = elim (one_or_two x o) [
    | inl e ↦ rw e (subst (λ (n : Node). InValues P n.cells) (sym (entry_put_same gone T.nodes o (f (node_of T o)))) h)
    | inr n ↦ subst (λ (n : Node). InValues P n.cells) (sym (entry_put_other gone T.nodes o x (f (node_of T o)) n)) (each x)
  ]

  node_comes : (T : Tree) (k : Kind) (class parent : ℕ) → CellsIn T → CellsIn (tree.create T k class parent)
  node_comes T k class parent each x = elim (one_or_two x (length T.nodes)) [
    | inl e ↦ rw e (subst (λ (n : Node). InValues P n.cells) (sym (entry_last gone T.nodes (new_node k class parent))) (zeros P 8))
    | inr n ↦ subst (λ (n : Node). InValues P n.cells) (sym (entry_before gone T.nodes (new_node k class parent) x n)) (each x)
  ]

  asked_one : {A : Type 0} (S : State A) (x : ℕ) (b : Bool) → is_live (life_of S.tree x) ≡ b → CellsIn S.tree → CellsIn (ask_object S x).tree
  asked_one {A} S x true e each = subst (λ (U : State A). CellsIn U.tree) (sym (object_live S x e)) (node_changes S.tree x (with_life life.Asked) (each x) each)
  asked_one {A} S x false e each = subst (λ (U : State A). CellsIn U.tree) (sym (object_off S x e)) each

  asked_all : {A : Type 0} (xs : List ℕ) (S : State A) → CellsIn S.tree → CellsIn (fold ask_object S xs).tree
  asked_all [] S each = each
  asked_all (x ∷ xs) S each = asked_all xs (ask_object S x) (asked_one S x (is_live (life_of S.tree x)) refl each)

  noted_cells : (c : Callback) (n : Node) → InValues P n.cells → InValues P (noted c n).cells
  noted_cells callback.EvtDestroyCallback n each = each
  noted_cells _ n each = each

  arrived : {A : Type 0} (S : State A) (device : ℕ) (info : RequestInfo) (p : Place) → CellsIn S.tree → CellsIn (arrive_at S device info p).tree
  arrived S device info (place.Queued q) each = node_comes S.tree kind.Request 0 device each
  arrived S device info _ each = node_comes S.tree kind.Request 0 device each

  same_cells : (T U : Tree) → U ≡ T → CellsIn T → CellsIn U
  same_cells T U e each = subst (λ (V : Tree). CellsIn V) (sym e) each

  cells_by : {A : Type 0} (plan : Plan) (d : Deed) (S : State A) → Tells P d → CellsIn S.tree → CellsIn (do_deed plan d S).tree
  cells_by plan (Create k class parent) S t each = node_comes S.tree k class parent.0 each
  cells_by plan (MakeRequest class parent) S t each = node_comes S.tree kind.Made class parent.0 each
  cells_by plan (Arrive device info p) S t each = arrived S device.0 info p each
  cells_by plan (AskDeletion o) S t each = asked_all (subtree S.tree o.0) S each
  cells_by plan (Refer o) S t each = node_changes S.tree o.0 (λ n. record n { references = n.references + 1 }) (each o.0) each
  cells_by plan (Unrefer o) S t each = node_changes S.tree o.0 (λ n. record n { references = n.references - 1 }) (each o.0) each
  cells_by plan (WriteCell o k v) S t each = node_changes S.tree o.0 (λ n. record n { cells = slice_set n.cells k v }) (value_set P (node_of S.tree o.0).cells k v t (each o.0)) each
  cells_by plan (Note o c) S t each = node_changes S.tree o.0 (noted c) (noted_cells c (node_of S.tree o.0) (each o.0)) each
  cells_by plan (CleanUp o) S t each = node_changes S.tree o.0 (with_life life.Cleaned) (each o.0) each
  cells_by plan (EndLife o) S t each = node_changes S.tree o.0 (λ _. gone) (zeros P 8) each
  cells_by plan (CompleteRequest r) S t each =
      asked_all (subtree (give_up S r.0).tree r.0) (record (give_up S r.0) { requests = requests.complete S.requests r.0 }) (same_cells S.tree _ (gives_up tree_of (λ S Q R P. refl) S r.0) each)
  cells_by plan d S t each = same_cells S.tree _ (tree_stays plan d S refl) each

  -- ---- both

  pub deeds_in : {A : Type 0} (plan : Plan) (ds : List Deed) (S : State A) → AllTell P ds → FramesIn S.cpus → CellsIn S.tree → FramesIn (do_deeds plan ds S).cpus × CellsIn (do_deeds plan ds S).tree
  deeds_in plan [] S t frames cells = (frames, cells)
  deeds_in plan (d ∷ ds) S t frames cells = deeds_in plan ds (do_deed plan d S) t.1 (frames_by plan d S t.0 frames) (cells_by plan d S t.0 cells)
