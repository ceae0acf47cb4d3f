-- Which frames are live after a frame begins, ends, parks or comes back; and the room for them.
use Rattle.std.proofs.Common.{◌≡◌, ℕ, zero, suc, ◌+◌, ◌==◌, ◌<◌, ◌≤◌, Bool, true, false, List, [], ◌∷◌, inl, inr, Some, length, count_by, refl, ap, sym, ◌∙◌, arith, length-append}
use Rattle.std.specs.List.{flat_map}
use Rattle.std.proofs.lemmas.Bool.{cases_lt}
use Rattle.wdf_base.specs.declared.frame.Frame.{Frame}
use Rattle.wdf_model.specs.declared.room.TheConstants.{FRAMES}
use Rattle.wdf_model.specs.Tables.{contains, entry, first_of_list, flag, put}
use Rattle.wdf_model.specs.parts.Cpus.{Cpus, all_frames, stack_of, top}
use Rattle.wdf_model.specs.parts.Cpus as cpus
use Rattle.wdf_model.proofs.Maps.{entry_past, entry_put_other, entry_put_same, put_short}
use Rattle.wdf_model.proofs.Counts.{at_head, count_behind, equal, not_equal, one_or_two}
use Rattle.wdf_cpu.specs.Kept.{IsLive}
use Rattle.wdf_model.proofs.FrameCounts.{flag_small, on, parks, pushed, unparks}
use Rattle.wdf_model.proofs.FrameCounts as moves
use Rattle.wdf_cpu.proofs.Numbers.{few_numbers}
use Rattle.wdf_cpu.proofs.Passing.{pop_leaves}

pub live_once : (C : Cpus) (live : List Bool) → IsLive C live → (x : ℕ) → on C x ≤ 1
live_once C live h x = let o = h.once x in let s = flag_small (entry false live x) in omega arith

-- a live frame has a number for which there is room
pub live_within : (C : Cpus) (live : List Bool) → IsLive C live → (f : ℕ) → 1 ≤ on C f → f < FRAMES
live_within C live h f is =
    elim (cases_lt f FRAMES) [
      | inl e ↦ e
      | inr past ↦ absurd (let few = h.few in let o = h.once f in let none : flag (entry false live f) ≡ 0 = ap flag (entry_past false live f (omega arith)) in omega arith)
    ]

pub live_is_on : (C : Cpus) (live : List Bool) (f : ℕ) → IsLive C live → entry false live f ≡ true → on C f ≡ 1
live_is_on C live f h e = h.once f ∙ ap flag e

pub live_is_off : (C : Cpus) (live : List Bool) (f : ℕ) → IsLive C live → entry false live f ≡ false → on C f ≡ 0
live_is_off C live f h e = h.once f ∙ ap flag e

contains_counted_by : (f x : ℕ) (xs : List ℕ) (b c : Bool) → (x == f) ≡ c → count_by (λ y. y == f) (x ∷ xs) ≡ flag b → (count_by (λ y. y == f) xs ≡ flag b → b ≡ contains f xs) → b ≡ contains f (x ∷ xs)
contains_counted_by f x xs true true e h rest = rw e refl
contains_counted_by f x xs false true e h rest = absurd (let a = at_head f x xs in let yes : flag (x == f) ≡ 1 = ap flag e in omega arith)
contains_counted_by f x xs b false e h rest = rw e (rest (let a = at_head f x xs in let no : flag (x == f) ≡ 0 = ap flag e in omega arith))

contains_counted : (f : ℕ) (xs : List ℕ) (b : Bool) → count_by (λ y. y == f) xs ≡ flag b → b ≡ contains f xs
contains_counted f [] true h = absurd (let z : ⊥ = omega arith in z)
contains_counted f [] false h = refl
contains_counted f (x ∷ xs) b h = contains_counted_by f x xs b (x == f) refl h (contains_counted f xs b)

pub live_is_contained : (C : Cpus) (live : List Bool) (f : ℕ) → IsLive C live → entry false live f ≡ contains f (all_frames C)
live_is_contained C live f h = contains_counted f (all_frames C) (entry false live f) (h.once f)

-- ---- acts

pub live_push : (C : Cpus) (live : List Bool) (cpu f : ℕ) (frame : Frame) (level : ℕ) → on C f ≡ 0 → f < FRAMES → IsLive C live → IsLive (cpus.push C cpu f frame level) (put false live f true)
live_push C live cpu f frame level none within h = record {
  once = λ x. let p = pushed (λ y. y == x) C cpu f frame level in let o = h.once x in elim (one_or_two x f) [
    | inl e ↦
        let here : entry false (put false live f true) x ≡ true = ap (entry false (put false live f true)) e ∙ entry_put_same false live f true in
        let one : flag (entry false (put false live f true) x) ≡ 1 = ap flag here in
        let old : on C x ≡ 0 = ap (on C) e ∙ none in
        let yes : flag (f == x) ≡ 1 = ap flag (equal f x (sym e)) in
        omega arith
    | inr n ↦
        let there : flag (entry false (put false live f true) x) ≡ flag (entry false live x) = ap flag (entry_put_other false live f x true n) in
        let no : flag (f == x) ≡ 0 = ap flag (not_equal f x (λ e. n (sym e))) in
        omega arith
  ];
  few = put_short false live f true FRAMES within h.few;
}

-- the top frame of a processor is live, and isn't once it ended
pub top_is_on : (C : Cpus) (live : List Bool) (cpu f : ℕ) → top C cpu ≡ Some f → IsLive C live → on C f ≡ 1
top_is_on C live cpu f is_top h =
    let p = pop_leaves C cpu f is_top f in
    let yes : flag (f == f) ≡ 1 = ap flag (equal f f refl) in
    let o = live_once C live h f in
    omega arith

pub top_within : (C : Cpus) (live : List Bool) (cpu f : ℕ) → top C cpu ≡ Some f → IsLive C live → f < FRAMES
top_within C live cpu f is_top h = let one = top_is_on C live cpu f is_top h in live_within C live h f (omega arith)

pub top_goes_off : (C : Cpus) (live : List Bool) (cpu f : ℕ) → top C cpu ≡ Some f → IsLive C live → on (cpus.pop C cpu) f ≡ 0
top_goes_off C live cpu f is_top h =
    let p = pop_leaves C cpu f is_top f in
    let yes : flag (f == f) ≡ 1 = ap flag (equal f f refl) in
    let o = live_once C live h f in
    omega arith

-- it isn't parked
pub top_not_parked : (C : Cpus) (live : List Bool) (cpu f : ℕ) → top C cpu ≡ Some f → IsLive C live → count_by (λ y. y == f) C.parked ≡ 0
top_not_parked C live cpu f is_top h =
    let off = top_goes_off C live cpu f is_top h in
    let both = count_behind (λ y. y == f) (flat_map (λ fs. fs) (cpus.pop C cpu).stacks) C.parked in
    omega arith

pub live_pop : (C : Cpus) (live : List Bool) (cpu f : ℕ) → top C cpu ≡ Some f → IsLive C live → IsLive (cpus.pop C cpu) (put false live f false)
live_pop C live cpu f is_top h = record {
  once = λ x. let p = pop_leaves C cpu f is_top x in let o = h.once x in elim (one_or_two x f) [
    | inl e ↦
        let here : flag (entry false (put false live f false) x) ≡ 0 = ap (λ y. flag (entry false (put false live f false) y)) e ∙ ap flag (entry_put_same false live f false) in
        let off : on (cpus.pop C cpu) x ≡ 0 = ap (on (cpus.pop C cpu)) e ∙ top_goes_off C live cpu f is_top h in
        omega arith
    | inr n ↦
        let there : flag (entry false (put false live f false) x) ≡ flag (entry false live x) = ap flag (entry_put_other false live f x false n) in
        let no : flag (f == x) ≡ 0 = ap flag (not_equal f x (λ e. n (sym e))) in
        omega arith
  ];
  few = put_short false live f false FRAMES (top_within C live cpu f is_top h) h.few;
}

pub live_park : (C : Cpus) (live : List Bool) (cpu f : ℕ) → top C cpu ≡ Some f → IsLive C live → IsLive (cpus.park C cpu) live
live_park C live cpu f is_top h = record { once = λ x. parks (λ y. y == x) C cpu f is_top ∙ h.once x; few = h.few }

pub parked_once : (C : Cpus) (live : List Bool) (f : ℕ) → IsLive C live → contains f C.parked ≡ true → count_by (λ y. y == f) C.parked ≡ 1
parked_once C live f h is = moves.parked_once C f (live_once C live h f) is

pub live_unpark : (C : Cpus) (live : List Bool) (cpu f : ℕ) → count_by (λ y. y == f) C.parked ≡ 1 → IsLive C live → IsLive (cpus.unpark C cpu f) live
live_unpark C live cpu f one h = record { once = λ x. unparks (λ y. y == x) C cpu f one ∙ h.once x; few = h.few }

-- ---- room

none_beyond : (C : Cpus) (live : List Bool) → IsLive C live → (x : ℕ) → FRAMES ≤ x → on C x ≡ 0
none_beyond C live h x past = let few = h.few in h.once x ∙ ap flag (entry_past false live x (omega arith))

pub few_frames : (C : Cpus) (live : List Bool) → IsLive C live → length (all_frames C) ≤ FRAMES
few_frames C live h = few_numbers FRAMES (all_frames C) (live_once C live h) (none_beyond C live h)

-- there is room for a frame that isn't there
pub few_with_one : (C : Cpus) (live : List Bool) (f : ℕ) → on C f ≡ 0 → f < FRAMES → IsLive C live → suc (length (all_frames C)) ≤ FRAMES
few_with_one C live f none within h =
    few_numbers FRAMES (f ∷ all_frames C)
    (λ x. let a = at_head x f (all_frames C) in elim (one_or_two f x) [
      | inl e ↦ let yes : flag (f == x) ≡ 1 = ap flag (equal f x e) in let old : on C x ≡ 0 = ap (on C) (sym e) ∙ none in omega arith
      | inr n ↦ let no : flag (f == x) ≡ 0 = ap flag (not_equal f x n) in let o = live_once C live h x in omega arith
    ])
    (λ x past. let a = at_head x f (all_frames C) in let no : flag (f == x) ≡ 0 = ap flag (not_equal f x (λ e. let z : ⊥ = omega arith in z)) in let o = none_beyond C live h x past in omega arith)

one_of_many : (ss : List (List ℕ)) (k : ℕ) → length (entry [] ss k) ≤ length (flat_map (λ fs. fs) ss)
one_of_many [] k = omega arith
one_of_many (fs ∷ ss) zero = let e = length-append fs (flat_map (λ gs. gs) ss) in omega arith
one_of_many (fs ∷ ss) (suc k) = let e = length-append fs (flat_map (λ gs. gs) ss) in let rest = one_of_many ss k in omega arith

-- a processor has no more frames than there are
stack_few : (C : Cpus) (cpu : ℕ) → length (stack_of C cpu) + length C.parked ≤ length (all_frames C)
stack_few C cpu =
    let one = one_of_many C.stacks cpu in
    let both : length (all_frames C) ≡ length (flat_map (λ fs. fs) C.stacks) + length C.parked = length-append (flat_map (λ fs. fs) C.stacks) C.parked in
    omega arith

pub room_to_push : (C : Cpus) (live : List Bool) (cpu f : ℕ) → on C f ≡ 0 → f < FRAMES → IsLive C live → length (stack_of C cpu) < FRAMES
room_to_push C live cpu f none within h = let few = few_with_one C live f none within h in let s = stack_few C cpu in omega arith

some_there : (fs : List ℕ) (f : ℕ) → first_of_list fs ≡ Some f → 1 ≤ length fs
some_there [] f h = absurd (let z : ⊥ = cc in z)
some_there (x ∷ xs) f h = omega arith

pub room_to_park : (C : Cpus) (live : List Bool) (cpu f : ℕ) → top C cpu ≡ Some f → IsLive C live → length C.parked < FRAMES
room_to_park C live cpu f is_top h =
    let few = few_frames C live h in
    let s = stack_few C cpu in
    let t = some_there (stack_of C cpu) f is_top in
    omega arith

some_counted : (p : ℕ → Bool) (xs : List ℕ) → 1 ≤ count_by p xs → 1 ≤ length xs
some_counted p [] h = absurd (omega arith)
some_counted p (x ∷ xs) h = omega arith

pub room_to_unpark : (C : Cpus) (live : List Bool) (cpu f : ℕ) → count_by (λ y. y == f) C.parked ≡ 1 → IsLive C live → length (stack_of C cpu) < FRAMES
room_to_unpark C live cpu f one h =
    let few = few_frames C live h in
    let s = stack_few C cpu in
    let t = some_counted (λ y. y == f) C.parked (omega arith) in
    omega arith
