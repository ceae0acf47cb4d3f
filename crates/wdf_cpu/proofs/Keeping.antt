-- What is kept beside the state, after each act.
use Rattle.std.proofs.Common.{if◌then◌else◌, ◌≡◌, ℕ, zero, suc, ◌+◌, ◌^◌, ◌==◌, ◌<◌, ◌≤◌, max, fold, drop, filter, not, subst, Bool, true, false, List, [], ◌∷◌, ◌++◌, replicate, Option, Some, None, length, count_by, refl, ap, sym, ◌∙◌, arith}
use Rattle.std.specs.List.{flat_map}
use Rattle.std.specs.Option.{option_map}
use Rattle.std.proofs.lemmas.List.Sums.{count_by-le-length}
use Rattle.wdf_base.specs.declared.frame.Frame.{Frame}
use Rattle.wdf_base.specs.declared.ids.ObjectId.{ObjectId}
use Rattle.wdf_base.specs.declared.plan.Plan.{Plan}
use Rattle.wdf_model.specs.declared.room.TheConstants.{FRAMES, OBJECTS}
use Rattle.wdf_model.specs.Tables.{contains, entry, first_of_list, in_order, put, same_id}
use Rattle.wdf_model.specs.declared.entries.HeldLevel.{HeldLevel}
use Rattle.wdf_model.specs.parts.Cpus.{Cpus, all_frames, frame_of, less_one, levels_of, levels_without, no_frame, opening_cpus, parked_with, running, stack_of, top, without_frame}
use Rattle.wdf_model.specs.parts.Cpus as cpus
use Rattle.wdf_model.proofs.Maps.{put_within, set_as_it_was}
use Rattle.wdf_maps.specs.Counts.{count_at, moved_count}
use Rattle.wdf_maps.proofs.Counting.{room_for_one}
use Rattle.wdf_cpu.specs.Keys.{CountsFrames, Swapped, object_key, wait_key}
use Rattle.wdf_cpu.specs.Kept.{IsKept, IsSound, cpus_in}
use Rattle.wdf_cpu.specs.ParkedFor.{CountsParked}
use Rattle.wdf_cpu.specs.declared.cpus.Cpus.TheInside.{Inside}
use Rattle.wdf_cpu.specs.Levels.{held_by}
use Rattle.wdf_cpu.specs.Spending.{IsMoved}
use Rattle.wdf_cpu.proofs.Live.{few_frames, live_is_off, live_is_on, live_park, live_pop, live_push, live_unpark, parked_once, top_goes_off}
use Rattle.wdf_cpu.proofs.Numbers.{absent_from}
use Rattle.wdf_cpu.proofs.Passing.{passing_change, passing_change_off, passing_park, passing_pop, passing_push, passing_unpark}
use Rattle.wdf_cpu.proofs.Peaks.{peaks_change, peaks_lower, peaks_pop, peaks_push, peaks_raise}
use Rattle.wdf_cpu.proofs.Swapping.{counts_follow, swapped_by}
use Rattle.wdf_cpu.proofs.Ticks.{few_ticks, spending_change_by, until_there}
use Rattle.wdf_model.proofs.FrameCounts.{on, seen}

-- ---- what is counted

-- no count is greater than the frames are many
pub counts_fit : (key : Frame → Option ℕ) (C : Cpus) (flags : List Bool) (levels counts awaited keyed : List ℕ) → IsKept C flags levels counts awaited → CountsFrames key C keyed
    → (to : Option ObjectId) → count_at keyed to + 1 < 2 ^ 32
counts_fit key C flags levels counts awaited keyed h t to = room_for_one keyed to (λ id within.
    let e = t.counted id within in
    let l = count_by-le-length (λ f. same_id (key (frame_of C f)) id) (all_frames C) in
    let few = few_frames C flags h.live in
    omega arith)

-- a frame that is there is counted under its key
pub live_is_counted : (key : Frame → Option ℕ) (C : Cpus) (counts : List ℕ) (f : ℕ) (left : Option ℕ) → left ≡ key (frame_of C f) → on C f ≡ 1 → CountsFrames key C counts
    → (id : ℕ) → id < OBJECTS → same_id left id ≡ true → 1 ≤ entry 0 counts id
live_is_counted key C counts f left is one t id within same =
    let e = t.counted id within in
    let s = seen (λ x. same_id (key (frame_of C x)) id) f (all_frames C) (omega arith) (ap (λ k. same_id k id) (sym is) ∙ same) in
    omega arith

-- the bounds and the places of what is kept, by the fields
pub on_fits : (a : Inside) → IsSound a → (to : Option ObjectId) → count_at a.on to + 1 < 2 ^ 32
on_fits a h = counts_fit object_key (cpus_in a) a.live.items a.peaks.items a.on a.waits a.on h.kept h.kept.on

pub waits_fit : (a : Inside) → IsSound a → (to : Option ObjectId) → count_at a.waits to + 1 < 2 ^ 32
waits_fit a h = counts_fit wait_key (cpus_in a) a.live.items a.peaks.items a.on a.waits a.waits h.kept h.kept.waits

pub on_counted : (a : Inside) (f : ℕ) (left : Option ℕ) → IsSound a → left ≡ object_key (frame_of (cpus_in a) f) → on (cpus_in a) f ≡ 1
    → (id : ℕ) → id < OBJECTS → same_id left id ≡ true → 1 ≤ entry 0 a.on id
on_counted a f left h is one = live_is_counted object_key (cpus_in a) a.on f left is one h.kept.on

pub wait_counted : (a : Inside) (f : ℕ) (left : Option ℕ) → IsSound a → left ≡ wait_key (frame_of (cpus_in a) f) → on (cpus_in a) f ≡ 1
    → (id : ℕ) → id < OBJECTS → same_id left id ≡ true → 1 ≤ entry 0 a.waits id
wait_counted a f left h is one = live_is_counted wait_key (cpus_in a) a.waits f left is one h.kept.waits

-- the ticks until which frames spend are no more than there is room for
pub untils_fit : (a : Inside) → IsSound a → length a.untils ≤ FRAMES
untils_fit a h = few_ticks (cpus_in a) a.untils FRAMES h.untils (few_frames (cpus_in a) a.live.items h.kept.live)

-- ---- the acts

pub kept_opening : (plan : Plan) → IsKept (opening_cpus plan) [] [] [] []
kept_opening plan = record {
  live = record { once = λ f. none_stacked (λ x. x == f) plan.cpus; few = omega arith };
  peaks = record { level = λ f. refl };
  on = record { counted = λ id h. sym (none_stacked (λ f. same_id (object_key (frame_of (opening_cpus plan) f)) id) plan.cpus) };
  waits = record { counted = λ id h. sym (none_stacked (λ f. same_id (wait_key (frame_of (opening_cpus plan) f)) id) plan.cpus) };
}
  where
    none_stacked : (p : ℕ → Bool) (n : ℕ) → count_by p (flat_map (λ fs. fs) (replicate n []) ++ []) ≡ 0
    none_stacked p zero = refl
    none_stacked p (suc n) = none_stacked p n

pub kept_push : (C : Cpus) (flags : List Bool) (levels counts awaited : List ℕ) (cpu f : ℕ) (frame : Frame) (level peak : ℕ) (counts' awaited' : List ℕ)
    → f < FRAMES → contains f (all_frames C) ≡ false → peak ≡ fold max level (levels_of C f)
    → Swapped None (object_key frame) counts counts' → Swapped None (wait_key frame) awaited awaited'
    → IsKept C flags levels counts awaited → IsKept (cpus.push C cpu f frame level) (put false flags f true) (put 0 levels f peak) counts' awaited'
kept_push C flags levels counts awaited cpu f frame level peak counts' awaited' within fresh is ons waits h =
    let none : on C f ≡ 0 = absent_from f (all_frames C) fresh in record {
      live = live_push C flags cpu f frame level none within h.live;
      peaks = peaks_push C levels cpu f frame level peak is h.peaks;
      on = counts_follow object_key C (cpus.push C cpu f frame level) counts counts' None (object_key frame) (λ id. let e = passing_push (λ fr. same_id (object_key fr) id) C cpu f frame level none in omega arith) ons h.on;
      waits = counts_follow wait_key C (cpus.push C cpu f frame level) awaited awaited' None (wait_key frame) (λ id. let e = passing_push (λ fr. same_id (wait_key fr) id) C cpu f frame level none in omega arith) waits h.waits;
    }

pub kept_change : (C : Cpus) (flags : List Bool) (levels counts awaited : List ℕ) (f : ℕ) (frame : Frame) (counts' awaited' : List ℕ)
    → entry false flags f ≡ true → Swapped (object_key (frame_of C f)) (object_key frame) counts counts' → Swapped (wait_key (frame_of C f)) (wait_key frame) awaited awaited'
    → IsKept C flags levels counts awaited → IsKept (cpus.change C f frame) flags levels counts' awaited'
kept_change C flags levels counts awaited f frame counts' awaited' is ons waits h =
    let one : on C f ≡ 1 = live_is_on C flags f h.live is in record {
      live = record { once = h.live.once; few = h.live.few };
      peaks = peaks_change C levels f frame h.peaks;
      on = counts_follow object_key C (cpus.change C f frame) counts counts' (object_key (frame_of C f)) (object_key frame) (λ id. passing_change (λ fr. same_id (object_key fr) id) C f frame one) ons h.on;
      waits = counts_follow wait_key C (cpus.change C f frame) awaited awaited' (wait_key (frame_of C f)) (wait_key frame) (λ id. passing_change (λ fr. same_id (wait_key fr) id) C f frame one) waits h.waits;
    }

pub kept_change_off : (C : Cpus) (flags : List Bool) (levels counts awaited : List ℕ) (f : ℕ) (frame : Frame)
    → entry false flags f ≡ false → IsKept C flags levels counts awaited → IsKept (cpus.change C f frame) flags levels counts awaited
kept_change_off C flags levels counts awaited f frame is h =
    let none : on C f ≡ 0 = live_is_off C flags f h.live is in record {
      live = record { once = h.live.once; few = h.live.few };
      peaks = peaks_change C levels f frame h.peaks;
      on = record { counted = λ id within. h.on.counted id within ∙ sym (passing_change_off (λ fr. same_id (object_key fr) id) C f frame none) };
      waits = record { counted = λ id within. h.waits.counted id within ∙ sym (passing_change_off (λ fr. same_id (wait_key fr) id) C f frame none) };
    }

pub kept_change_by : (C : Cpus) (flags : List Bool) (levels counts awaited : List ℕ) (f : ℕ) (frame : Frame) (counts' awaited' : List ℕ) (live : Bool)
    → live ≡ entry false flags f
    → (live ≡ true → Swapped (object_key (frame_of C f)) (object_key frame) counts counts') → (live ≡ false → counts' ≡ counts)
    → (live ≡ true → Swapped (wait_key (frame_of C f)) (wait_key frame) awaited awaited') → (live ≡ false → awaited' ≡ awaited)
    → IsKept C flags levels counts awaited → IsKept (cpus.change C f frame) flags levels counts' awaited'
kept_change_by C flags levels counts awaited f frame counts' awaited' true is ons same waits same' h =
    kept_change C flags levels counts awaited f frame counts' awaited' (sym is) (ons refl) (waits refl) h
kept_change_by C flags levels counts awaited f frame counts' awaited' false is ons same waits same' h =
    rw (same refl, same' refl) (kept_change_off C flags levels counts awaited f frame (sym is) h)

pub kept_raise : (C : Cpus) (flags : List Bool) (levels counts awaited : List ℕ) (f level : ℕ)
    → IsKept C flags levels counts awaited → IsKept (cpus.raise C f level) flags (put 0 levels f (max (entry 0 levels f) level)) counts awaited
kept_raise C flags levels counts awaited f level h = record {
  live = record { once = h.live.once; few = h.live.few };
  peaks = peaks_raise C levels f level h.peaks;
  on = record { counted = h.on.counted };
  waits = record { counted = h.waits.counted };
}

pub kept_lower : (C : Cpus) (flags : List Bool) (levels counts awaited : List ℕ) (f level peak : ℕ)
    → peak ≡ fold max (running C f).level.0 (held_by (less_one f level C.levels) f)
    → IsKept C flags levels counts awaited → IsKept (cpus.lower C f level) flags (put 0 levels f peak) counts awaited
kept_lower C flags levels counts awaited f level peak is h = record {
  live = record { once = h.live.once; few = h.live.few };
  peaks = peaks_lower C levels f level peak is h.peaks;
  on = record { counted = h.on.counted };
  waits = record { counted = h.waits.counted };
}

popped_keeps : (C : Cpus) (flags : List Bool) (levels counts awaited : List ℕ) (cpu f : ℕ) (counts' awaited' : List ℕ)
    → top C cpu ≡ Some f → Swapped (object_key (frame_of C f)) None counts counts' → Swapped (wait_key (frame_of C f)) None awaited awaited'
    → IsKept C flags levels counts awaited → IsKept (cpus.pop C cpu) (put false flags f false) (put 0 levels f 0) counts' awaited'
popped_keeps C flags levels counts awaited cpu f counts' awaited' is_top ons waits h =
    let off = top_goes_off C flags cpu f is_top h.live in record {
      live = live_pop C flags cpu f is_top h.live;
      peaks = peaks_pop C levels cpu f is_top h.peaks;
      on = counts_follow object_key C (cpus.pop C cpu) counts counts' (object_key (frame_of C f)) None (λ id. let e = passing_pop (λ fr. same_id (object_key fr) id) C cpu f is_top off in omega arith) ons h.on;
      waits = counts_follow wait_key C (cpus.pop C cpu) awaited awaited' (wait_key (frame_of C f)) None (λ id. let e = passing_pop (λ fr. same_id (wait_key fr) id) C cpu f is_top off in omega arith) waits h.waits;
    }

pub kept_pop : (C : Cpus) (flags : List Bool) (levels counts awaited : List ℕ) (cpu f : ℕ) (counts' awaited' : List ℕ)
    → top C cpu ≡ Some f → Swapped (object_key (frame_of C f)) None counts counts' → Swapped (wait_key (frame_of C f)) None awaited awaited'
    → IsKept C flags levels counts awaited
    → IsKept (record {
      frames = put no_frame C.frames f no_frame;
      stacks = put [] C.stacks cpu (drop 1 (stack_of C cpu));
      parked = C.parked;
      levels = filter (λ (l : HeldLevel). not (l.frame.0 == f)) C.levels;
    }) (put false flags f false) (put 0 levels f 0) counts' awaited'
kept_pop C flags levels counts awaited cpu f counts' awaited' is_top ons waits h =
    subst (λ t. IsKept (record { frames = without_frame C t; stacks = put [] C.stacks cpu (drop 1 (stack_of C cpu)); parked = C.parked; levels = levels_without C t }) (put false flags f false) (put 0 levels f 0) counts' awaited')
    is_top (popped_keeps C flags levels counts awaited cpu f counts' awaited' is_top ons waits h)

parked_keeps : (C : Cpus) (flags : List Bool) (levels counts awaited : List ℕ) (cpu f : ℕ)
    → top C cpu ≡ Some f → IsKept C flags levels counts awaited → IsKept (cpus.park C cpu) flags levels counts awaited
parked_keeps C flags levels counts awaited cpu f is_top h = record {
  live = live_park C flags cpu f is_top h.live;
  peaks = record { level = h.peaks.level };
  on = record { counted = λ id within. h.on.counted id within ∙ sym (passing_park (λ fr. same_id (object_key fr) id) C cpu f is_top) };
  waits = record { counted = λ id within. h.waits.counted id within ∙ sym (passing_park (λ fr. same_id (wait_key fr) id) C cpu f is_top) };
}

pub kept_park : (C : Cpus) (flags : List Bool) (levels counts awaited : List ℕ) (cpu f : ℕ) → top C cpu ≡ Some f → IsKept C flags levels counts awaited
    → IsKept (record { frames = C.frames; stacks = put [] C.stacks cpu (drop 1 (stack_of C cpu)); parked = in_order f C.parked; levels = C.levels }) flags levels counts awaited
kept_park C flags levels counts awaited cpu f is_top h =
    subst (λ t. IsKept (record { frames = C.frames; stacks = put [] C.stacks cpu (drop 1 (stack_of C cpu)); parked = parked_with C t; levels = C.levels }) flags levels counts awaited)
    is_top (parked_keeps C flags levels counts awaited cpu f is_top h)

-- the state after the top frame parked
pub park_is : (C : Cpus) (cpu f : ℕ) → top C cpu ≡ Some f
    → record { frames = C.frames; stacks = put [] C.stacks cpu (drop 1 (stack_of C cpu)); parked = in_order f C.parked; levels = C.levels } ≡ cpus.park C cpu
park_is C cpu f is_top = ap (λ t. record { frames = C.frames; stacks = put [] C.stacks cpu (drop 1 (stack_of C cpu)); parked = parked_with C t; levels = C.levels }) (sym is_top)

pub nothing_else : {T : Type 0} (r other : Option T) → r ≡ other → ((x : T) → r ≡ Some x → ⊥) → other ≡ None
nothing_else None other e h = sym e
nothing_else (Some x) other e h = absurd (h x refl)

nothing_first : (fs : List ℕ) → first_of_list fs ≡ None → drop 1 fs ≡ fs
nothing_first [] h = refl
nothing_first (x ∷ xs) h = absurd (let z : ⊥ = cc in z)

-- where a processor is empty its stack stays
pub empty_stays : (stacks : List (List ℕ)) (cpu : ℕ) → cpu < length stacks → first_of_list (entry [] stacks cpu) ≡ None → put [] stacks cpu (drop 1 (entry [] stacks cpu)) ≡ stacks
empty_stays stacks cpu there none =
    ap (put [] stacks cpu) (nothing_first (entry [] stacks cpu) none) ∙ put_within [] stacks cpu (entry [] stacks cpu) there ∙ set_as_it_was [] stacks cpu

pub kept_unpark : (C : Cpus) (flags : List Bool) (levels counts awaited : List ℕ) (cpu f : ℕ)
    → contains f C.parked ≡ true → IsKept C flags levels counts awaited → IsKept (cpus.unpark C cpu f) flags levels counts awaited
kept_unpark C flags levels counts awaited cpu f is h =
    let one = parked_once C flags f h.live is in record {
      live = live_unpark C flags cpu f one h.live;
      peaks = record { level = h.peaks.level };
      on = record { counted = λ id within. h.on.counted id within ∙ sym (passing_unpark (λ fr. same_id (object_key fr) id) C cpu f one) };
      waits = record { counted = λ id within. h.waits.counted id within ∙ sym (passing_unpark (λ fr. same_id (wait_key fr) id) C cpu f one) };
    }

-- ---- a frame that is there changes

module _ (a : Inside) (h : IsSound a) (f : ℕ) (live : Bool) (is : live ≡ entry false a.live.items f) where
  live_once : live ≡ true → on (cpus_in a) f ≡ 1
  live_once e = live_is_on (cpus_in a) a.live.items f h.kept.live (sym is ∙ e)

  -- the tick of a live frame is there
  pub live_until : (until : ℕ) → until ≡ (frame_of (cpus_in a) f).until → live ≡ true → 0 < until → 1 ≤ count_by (λ u. u == until) a.untils
  live_until until same e = until_there (cpus_in a) a.untils f until same (live_once e) h.untils

  -- an object that a live frame is on counts it
  pub live_on : (e : live ≡ true) (id : ℕ) → id < OBJECTS → same_id (object_key (frame_of (cpus_in a) f)) id ≡ true → 1 ≤ entry 0 a.on id
  live_on e = on_counted a f (object_key (frame_of (cpus_in a) f)) h refl (live_once e)

  -- where it is live, it is counted as it is from now on
  pub sound_change : (frame : Frame) (from to : Option ObjectId) (until : ℕ) (counts awaited parking ticks : List ℕ)
      → (live ≡ true → Swapped (object_key (frame_of (cpus_in a) f)) (object_key frame) a.on counts) → (live ≡ false → counts ≡ a.on)
      → option_map (λ (o : ObjectId). o.0) from ≡ wait_key (frame_of (cpus_in a) f) → option_map (λ (o : ObjectId). o.0) to ≡ wait_key frame
      → awaited ≡ (if live then moved_count a.waits from to else a.waits)
      → CountsParked (cpus.change (cpus_in a) f frame) parking
      → until ≡ (frame_of (cpus_in a) f).until → (live ≡ true → IsMoved until frame.until a.untils ticks) → (live ≡ false → ticks ≡ a.untils)
      → IsSound (record a { frames = (cpus.change (cpus_in a) f frame).frames; on = counts; waits = awaited; parked_for = parking; untils = ticks })
  sound_change frame from to until counts awaited parking ticks ons same was now moved parked spent moves other = record {
    live_room = h.live_room;
    peaks_room = h.peaks_room;
    parked_room = h.parked_room;
    kept = kept_change_by (cpus_in a) a.live.items a.peaks.items a.on a.waits f frame counts awaited live is ons same
        (λ e. swapped_by a.waits awaited from to _ _ (rw e at moved) was now (wait_counted a f _ h refl (live_once e)))
        (λ e. rw e at moved)
        h.kept;
    parked_for = parked;
    untils = spending_change_by (cpus_in a) a.untils ticks f frame live live_once
        (λ e. live_is_off (cpus_in a) a.live.items f h.kept.live (sym is ∙ e))
        (λ e. subst (λ n. IsMoved n frame.until a.untils ticks) spent (moves e))
        other h.untils;
  }
