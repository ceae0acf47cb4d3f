-- The counts by id after one left and one came.
use Rattle.std.proofs.Common.{◌≡◌, ℕ, ◌+◌, ◌<◌, ◌≤◌, Bool, true, false, List, Option, Some, None, refl, ap, sym, ◌∙◌, arith}
use Rattle.std.specs.Option.{option_map}
use Rattle.wdf_base.specs.declared.frame.Frame.{Frame}
use Rattle.wdf_base.specs.declared.frame.Change.{Change}
use Rattle.wdf_base.specs.declared.frame.Change.TheVariants as change
use Rattle.wdf_base.specs.declared.ids.ObjectId.{ObjectId}
use Rattle.wdf_model.specs.declared.room.TheConstants.{OBJECTS}
use Rattle.wdf_model.specs.Tables.{entry, flag, same_id}
use Rattle.wdf_model.specs.parts.Cpus.{Cpus}
use Rattle.wdf_model.specs.rules.Steps.{changed}
use Rattle.wdf_maps.specs.Counts.{is_at, moved_count}
use Rattle.wdf_maps.proofs.Counting.{at_moved}
use Rattle.wdf_cpu.specs.FrameUpdate.{gone}
use Rattle.wdf_cpu.specs.declared.frame_update.FrameUpdate.{FrameUpdate}
use Rattle.wdf_cpu.specs.Keys.{CountsFrames, Swapped, keyed, object_key}

-- what is of an id
at_same : (id : ℕ) (o : Option ObjectId) → is_at id o ≡ same_id (option_map (λ (x : ObjectId). x.0) o) id
at_same id None = refl
at_same id (Some o) = refl

at_least : (b : Bool) (n : ℕ) → (b ≡ true → 1 ≤ n) → flag b ≤ n
at_least true n h = h refl
at_least false n h = omega arith

moved_swaps : (counts : List ℕ) (from to : Option ObjectId)
    → ((id : ℕ) → id < OBJECTS → same_id (option_map (λ (x : ObjectId). x.0) from) id ≡ true → 1 ≤ entry 0 counts id)
    → Swapped (option_map (λ (x : ObjectId). x.0) from) (option_map (λ (x : ObjectId). x.0) to) counts (moved_count counts from to)
moved_swaps counts from to some = record {
  counted = λ id h.
      let moved = at_moved counts from to id h in
      let f : flag (is_at id from) ≡ flag (same_id (option_map (λ (x : ObjectId). x.0) from) id) = ap flag (at_same id from) in
      let t : flag (is_at id to) ≡ flag (same_id (option_map (λ (x : ObjectId). x.0) to) id) = ap flag (at_same id to) in
      let most = at_least (same_id (option_map (λ (x : ObjectId). x.0) from) id) (entry 0 counts id) (some id h) in
      omega arith;
}

-- one left that was counted, and one came
pub swapped_by : (counts counts' : List ℕ) (from to : Option ObjectId) (left came : Option ℕ)
    → counts' ≡ moved_count counts from to → option_map (λ (x : ObjectId). x.0) from ≡ left → option_map (λ (x : ObjectId). x.0) to ≡ came
    → ((id : ℕ) → id < OBJECTS → same_id left id ≡ true → 1 ≤ entry 0 counts id) → Swapped left came counts counts'
swapped_by counts counts' from to left came e f t some =
    rw (e, sym f, sym t) (moved_swaps counts from to (λ id h s. some id h (ap (λ k. same_id k id) (sym f) ∙ s)))

-- a frame that goes on stays on its object
pub gone_object : (update : FrameUpdate) (frame : Frame) → object_key (gone update frame) ≡ object_key frame
gone_object update frame = by_change update.change
  where
    by_change : (c : Change) → object_key (changed frame c) ≡ object_key frame
    by_change (change.Assign variable v) = refl
    by_change change.Branch = refl
    by_change (change.Count depth left) = refl

-- what is counted where it was leaves the counts as they are
pub stays_counted : (counts : List ℕ) (left came : Option ℕ) → came ≡ left → Swapped left came counts counts
stays_counted counts left came same = rw same (record { counted = λ id h. refl })

-- where none left, nothing is asked of the counts
pub none_left : (counts : List ℕ) (id : ℕ) → id < OBJECTS → same_id None id ≡ true → 1 ≤ entry 0 counts id
none_left counts id h s = absurd (let z : ⊥ = cc in z)

-- the counts follow the frames
pub counts_follow : (key : Frame → Option ℕ) (C D : Cpus) (old new : List ℕ) (left came : Option ℕ)
    → ((id : ℕ) → keyed key D id + flag (same_id left id) ≡ keyed key C id + flag (same_id came id))
    → Swapped left came old new → CountsFrames key C old → CountsFrames key D new
counts_follow key C D old new left came moved swapped counts = record {
  counted = λ id h. let a = moved id in let b = swapped.counted id h in let c = counts.counted id h in omega arith;
}
