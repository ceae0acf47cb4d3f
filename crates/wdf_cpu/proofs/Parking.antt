-- How many parked frames wait for each wait lock, after each act.
use Rattle.std.proofs.Common.{if◌then◌else◌, ◌≡◌, ◌≢◌, ℕ, ◌+◌, ◌^◌, ◌==◌, ◌<◌, ◌≤◌, nat_lt, drop, filter, not, Bool, true, false, List, [], ◌∷◌, Option, Some, None, length, count_by, refl, ap, sym, ◌∙◌, arith, length-append}
use Rattle.std.specs.List.{flat_map}
use Rattle.std.specs.Option.{option_map}
use Rattle.std.proofs.lemmas.List.Sums.{count_by-le-length}
use Rattle.wdf_base.specs.declared.frame.Frame.{Frame}
use Rattle.wdf_base.specs.declared.ids.ObjectId.{ObjectId}
use Rattle.wdf_base.specs.declared.plan.Plan.{Plan}
use Rattle.wdf_model.specs.declared.room.TheConstants.{OBJECTS}
use Rattle.wdf_model.specs.Tables.{contains, entry, flag, in_order, put, same_id, without}
use Rattle.wdf_model.specs.declared.entries.HeldLevel.{HeldLevel}
use Rattle.wdf_model.specs.declared.entries.Running.{Running}
use Rattle.wdf_model.specs.parts.Cpus.{Cpus, all_frames, frame_of, no_frame, opening_cpus, running, stack_of, top}
use Rattle.wdf_model.specs.parts.Cpus as cpus
use Rattle.wdf_model.proofs.Counts.{count_behind, count_cons, it_leaves}
use Rattle.wdf_model.proofs.FrameCounts.{on, seen}
use Rattle.wdf_model.proofs.Maps.{entry_put_other}
use Rattle.wdf_maps.specs.Counts.{count_at, moved_count}
use Rattle.wdf_maps.proofs.Counting.{room_for_one}
use Rattle.wdf_cpu.specs.Keys.{Swapped}
use Rattle.wdf_cpu.specs.Kept.{IsLive, IsSound, cpus_in}
use Rattle.wdf_cpu.specs.ParkedFor.{CountsParked, is_for, lock_key}
use Rattle.wdf_cpu.specs.declared.cpus.Cpus.TheInside.{Inside}
use Rattle.wdf_cpu.proofs.Live.{few_frames, parked_once, top_not_parked}
use Rattle.wdf_cpu.proofs.Numbers.{absent_from}
use Rattle.wdf_cpu.proofs.Passing.{change_elsewhere, change_here, others_agree, push_elsewhere, taken}
use Rattle.wdf_cpu.proofs.Swapping.{swapped_by}

-- ---- what is counted

parked_few : (C : Cpus) → length C.parked ≤ length (all_frames C)
parked_few C =
    let both : length (all_frames C) ≡ length (flat_map (λ fs. fs) C.stacks) + length C.parked = length-append (flat_map (λ fs. fs) C.stacks) C.parked in
    omega arith

-- no count is greater than the frames are many
pub parked_fits : (a : Inside) → IsSound a → (to : Option ObjectId) → count_at a.parked_for to + 1 < 2 ^ 32
parked_fits a h to = room_for_one a.parked_for to (λ id within.
    let e = h.parked_for.counted id within in
    let l = count_by-le-length (is_for (cpus_in a) id) a.parked.entries in
    let p = parked_few (cpus_in a) in
    let few = few_frames (cpus_in a) a.live.items h.kept.live in
    omega arith)

-- a parked frame is counted under its key
pub parked_counted : (C : Cpus) (counts : List ℕ) (f : ℕ) → count_by (λ y. y == f) C.parked ≡ 1 → CountsParked C counts
    → (id : ℕ) → id < OBJECTS → same_id (Some (lock_key (frame_of C f))) id ≡ true → 1 ≤ entry 0 counts id
parked_counted C counts f one t id within same =
    let e = t.counted id within in
    let s = seen (is_for C id) f C.parked (omega arith) same in
    omega arith

-- the counts follow the parked frames
follows : (C D : Cpus) (old new : List ℕ) (left came : Option ℕ)
    → ((id : ℕ) → count_by (is_for D id) D.parked + flag (same_id left id) ≡ count_by (is_for C id) C.parked + flag (same_id came id))
    → Swapped left came old new → CountsParked C old → CountsParked D new
follows C D old new left came moved swapped counts = record {
  counted = λ id h. let a = moved id in let b = swapped.counted id h in let c = counts.counted id h in omega arith;
}

-- they stay where a frame changes that isn't parked
stays : (C D : Cpus) (f : ℕ) (counts : List ℕ) → D.parked ≡ C.parked → count_by (λ y. y == f) C.parked ≡ 0 → ((x : ℕ) → x ≢ f → running D x ≡ running C x)
    → CountsParked C counts → CountsParked D counts
stays C D f counts same none elsewhere h = record {
  counted = λ id within. h.counted id within ∙ sym (ap (count_by (is_for D id)) same ∙ others_agree (is_for C id) (is_for D id) f C.parked none (λ x n. ap (λ (r : Running). lock_key r.frame == id) (elsewhere x n)));
}

not_parked : (C : Cpus) (f : ℕ) → on C f ≡ 0 → count_by (λ y. y == f) C.parked ≡ 0
not_parked C f none =
    let both : on C f ≡ count_by (λ y. y == f) (flat_map (λ fs. fs) C.stacks) + count_by (λ y. y == f) C.parked = count_behind (λ y. y == f) (flat_map (λ fs. fs) C.stacks) C.parked in
    omega arith

-- ---- the acts

pub parking_opening : (plan : Plan) → CountsParked (opening_cpus plan) []
parking_opening plan = record { counted = λ id within. refl }

pub parking_push : (C : Cpus) (counts : List ℕ) (cpu f : ℕ) (frame : Frame) (level : ℕ) → on C f ≡ 0 → CountsParked C counts → CountsParked (cpus.push C cpu f frame level) counts
parking_push C counts cpu f frame level none h = stays C (cpus.push C cpu f frame level) f counts refl (not_parked C f none) (push_elsewhere C cpu f frame level) h

-- a parked frame changes
change_counts : (C : Cpus) (f : ℕ) (frame : Frame) (id : ℕ) → count_by (λ y. y == f) C.parked ≡ 1
    → count_by (is_for (cpus.change C f frame) id) C.parked + flag (same_id (Some (lock_key (frame_of C f))) id) ≡ count_by (is_for C id) C.parked + flag (same_id (Some (lock_key frame)) id)
change_counts C f frame id one =
    let old : count_by (is_for C id) C.parked ≡ flag (same_id (Some (lock_key (frame_of C f))) id) + count_by (is_for C id) (without f C.parked) = taken (is_for C id) f C.parked one in
    let new : count_by (is_for (cpus.change C f frame) id) C.parked ≡ flag (is_for (cpus.change C f frame) id f) + count_by (is_for (cpus.change C f frame) id) (without f C.parked) = taken (is_for (cpus.change C f frame) id) f C.parked one in
    let rest = others_agree (is_for C id) (is_for (cpus.change C f frame) id) f (without f C.parked) (it_leaves f C.parked)
    (λ x n. ap (λ (r : Running). lock_key r.frame == id) (change_elsewhere C f frame x n)) in
    let here : flag (is_for (cpus.change C f frame) id f) ≡ flag (same_id (Some (lock_key frame)) id) = ap (λ (r : Running). flag (lock_key r.frame == id)) (change_here C f frame) in
    omega arith

change_by : (C : Cpus) (flags : List Bool) (f : ℕ) (frame : Frame) (parked : Bool) (from to : Option ObjectId) (counts new : List ℕ)
    → IsLive C flags → parked ≡ contains f C.parked → new ≡ (if parked then moved_count counts from to else counts)
    → option_map (λ (o : ObjectId). o.0) from ≡ Some (lock_key (frame_of C f)) → option_map (λ (o : ObjectId). o.0) to ≡ Some (lock_key frame)
    → CountsParked C counts → CountsParked (cpus.change C f frame) new
change_by C flags f frame true from to counts new live is moved was now h =
    let one = parked_once C flags f live (sym is) in
    follows C (cpus.change C f frame) counts new (Some (lock_key (frame_of C f))) (Some (lock_key frame)) (λ id. change_counts C f frame id one)
    (swapped_by counts new from to _ _ moved was now (parked_counted C counts f one h)) h
change_by C flags f frame false from to counts new live is moved was now h =
    rw moved (stays C (cpus.change C f frame) f counts refl (absent_from f C.parked (sym is)) (change_elsewhere C f frame) h)

pub parking_change : (a : Inside) → IsSound a → (f : ℕ) (frame : Frame) (parked : Bool) (from to : Option ObjectId) (new : List ℕ)
    → parked ≡ contains f a.parked.entries → new ≡ (if parked then moved_count a.parked_for from to else a.parked_for)
    → option_map (λ (o : ObjectId). o.0) from ≡ Some (lock_key (frame_of (cpus_in a) f)) → option_map (λ (o : ObjectId). o.0) to ≡ Some (lock_key frame)
    → CountsParked (cpus.change (cpus_in a) f frame) new
parking_change a h f frame parked from to new is moved was now = change_by (cpus_in a) a.live.items f frame parked from to a.parked_for new h.kept.live is moved was now h.parked_for

-- as the acts write it
pub parking_popped : (C : Cpus) (flags : List Bool) (counts : List ℕ) (cpu f : ℕ) → top C cpu ≡ Some f → IsLive C flags → CountsParked C counts
    → CountsParked (record {
      frames = put no_frame C.frames f no_frame;
      stacks = put [] C.stacks cpu (drop 1 (stack_of C cpu));
      parked = C.parked;
      levels = filter (λ (l : HeldLevel). not (l.frame.0 == f)) C.levels;
    }) counts
parking_popped C flags counts cpu f is_top live h =
    stays C (record {
      frames = put no_frame C.frames f no_frame;
      stacks = put [] C.stacks cpu (drop 1 (stack_of C cpu));
      parked = C.parked;
      levels = filter (λ (l : HeldLevel). not (l.frame.0 == f)) C.levels;
    }) f counts refl (top_not_parked C flags cpu f is_top live) (λ x n. entry_put_other no_frame C.frames f x no_frame n) h

ordered_by : (p : ℕ → Bool) (f x : ℕ) (xs : List ℕ) (b : Bool) → nat_lt f x ≡ b → count_by p (in_order f xs) ≡ flag (p f) + count_by p xs → count_by p (in_order f (x ∷ xs)) ≡ flag (p f) + count_by p (x ∷ xs)
ordered_by p f x xs true e rest = rw e (count_cons p f (x ∷ xs))
ordered_by p f x xs false e rest = rw e (let k = count_cons p x (in_order f xs) in let l = count_cons p x xs in omega arith)

ordered : (p : ℕ → Bool) (f : ℕ) (xs : List ℕ) → count_by p (in_order f xs) ≡ flag (p f) + count_by p xs
ordered p f [] = count_cons p f []
ordered p f (x ∷ xs) = ordered_by p f x xs (nat_lt f x) refl (ordered p f xs)

-- the top frame is parked
pub parking_parked : (C : Cpus) (counts new : List ℕ) (cpu f : ℕ) → Swapped None (Some (lock_key (frame_of C f))) counts new → CountsParked C counts
    → CountsParked (record { frames = C.frames; stacks = put [] C.stacks cpu (drop 1 (stack_of C cpu)); parked = in_order f C.parked; levels = C.levels }) new
parking_parked C counts new cpu f swapped h =
    follows C (record { frames = C.frames; stacks = put [] C.stacks cpu (drop 1 (stack_of C cpu)); parked = in_order f C.parked; levels = C.levels }) counts new None (Some (lock_key (frame_of C f)))
    (λ id. let e : count_by (is_for C id) (in_order f C.parked) ≡ flag (same_id (Some (lock_key (frame_of C f))) id) + count_by (is_for C id) C.parked = ordered (is_for C id) f C.parked in omega arith)
    swapped h

-- a parked frame comes back
pub parking_unpark : (C : Cpus) (counts new : List ℕ) (cpu f : ℕ) → count_by (λ y. y == f) C.parked ≡ 1 → Swapped (Some (lock_key (frame_of C f))) None counts new → CountsParked C counts
    → CountsParked (cpus.unpark C cpu f) new
parking_unpark C counts new cpu f one swapped h =
    follows C (cpus.unpark C cpu f) counts new (Some (lock_key (frame_of C f))) None
    (λ id. let e : count_by (is_for C id) C.parked ≡ flag (same_id (Some (lock_key (frame_of C f))) id) + count_by (is_for C id) (without f C.parked) = taken (is_for C id) f C.parked one in omega arith)
    swapped h
