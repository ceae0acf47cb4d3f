-- The numbers on the processors and among the parked frames are below the number of frames, after each act
-- of the processors.
use Rattle.std.proofs.Common.{if◌then◌else◌, ◌≡◌, ℕ, zero, suc, ◌==◌, ◌<◌, ◌≤◌, nat_lt, Bool, true, false, not, List, [], ◌∷◌, ◌++◌, inl, inr, Option, Some, None, length, drop, replicate, refl, arith}
use Rattle.std.specs.List.{All, flat_map}
use Rattle.std.proofs.lemmas.Bool.{eqb-true, or_cases}
use Rattle.std.proofs.lemmas.List.Elements.{All-append, All-cons, All-drop, All-filter, All-head, All-nil, All-tail, All-weaker}
use Rattle.wdf_base.specs.declared.plan.Plan.{Plan}
use Rattle.wdf_base.specs.declared.frame.Frame.{Frame}
use Rattle.wdf_model.specs.declared.entries.Running.{Running}
use Rattle.wdf_model.specs.Tables.{contains, entry, in_order, put, first_of_list}
use Rattle.wdf_model.specs.parts.Cpus.{Cpus, all_frames, no_frame, opening_cpus, parked_with, running, stack_of, top, without_frame}
use Rattle.wdf_model.specs.parts.Cpus as cpus
use Rattle.wdf_model.proofs.Tests.{first, itself, second}
use Rattle.wdf_model.proofs.Maps.{put_long}
use Rattle.law_machine_counts.proofs.HeldPlaces.{put_inside}

-- ---- lists of numbers

abbrev pub AllBelow : ℕ → List ℕ → Type 0
AllBelow n xs = All (λ x. x < n) xs

below_by_contains : (n : ℕ) (xs : List ℕ) → ((x : ℕ) → contains x xs ≡ true → x < n) → AllBelow n xs
below_by_contains n [] h = All-nil (λ x. x < n)
below_by_contains n (x ∷ xs) h =
    All-cons (λ y. y < n) x xs (h x (first (x == x) (contains x xs) (itself x))) (below_by_contains n xs (λ y e. h y (second (x == y) (contains y xs) e)))

below_contained : (n : ℕ) (xs : List ℕ) → AllBelow n xs → (x : ℕ) → contains x xs ≡ true → x < n
below_contained n [] h x e = absurd (let z : ⊥ = cc in z)
below_contained n (y ∷ ys) h x e = elim (or_cases (y == x) (contains x ys) e) [
  | inl here ↦ let same : y ≡ x = eqb-true y x here in let below : y < n = All-head (λ z. z < n) y ys h in omega arith
  | inr there ↦ below_contained n ys (All-tail (λ z. z < n) y ys h) x there
]

below_more : (n m : ℕ) (xs : List ℕ) → n ≤ m → AllBelow n xs → AllBelow m xs
below_more n m xs h k = All-weaker (λ x. x < n) (λ x. x < m) (λ x below. let b : x < n = below in omega arith) xs k

below_front : (n : ℕ) (xs ys : List ℕ) → AllBelow n (xs ++ ys) → AllBelow n xs
below_front n [] ys h = All-nil (λ x. x < n)
below_front n (x ∷ xs) ys h = All-cons (λ y. y < n) x xs (All-head (λ y. y < n) x (xs ++ ys) h) (below_front n xs ys (All-tail (λ y. y < n) x (xs ++ ys) h))

below_after : (n : ℕ) (xs ys : List ℕ) → AllBelow n (xs ++ ys) → AllBelow n ys
below_after n [] ys h = h
below_after n (x ∷ xs) ys h = below_after n xs ys (All-tail (λ y. y < n) x (xs ++ ys) h)

ordered_by : (n f x : ℕ) (xs : List ℕ) (b : Bool) → f < n → AllBelow n (x ∷ xs) → AllBelow n (in_order f xs) → AllBelow n (if b then f ∷ x ∷ xs else x ∷ in_order f xs)
ordered_by n f x xs true h k rest = All-cons (λ y. y < n) f (x ∷ xs) h k
ordered_by n f x xs false h k rest = All-cons (λ y. y < n) x (in_order f xs) (All-head (λ y. y < n) x xs k) rest

ordered : (n f : ℕ) (xs : List ℕ) → f < n → AllBelow n xs → AllBelow n (in_order f xs)
ordered n f [] h k = All-cons (λ y. y < n) f [] h k
ordered n f (x ∷ xs) h k = ordered_by n f x xs (nat_lt f x) h k (ordered n f xs h (All-tail (λ y. y < n) x xs k))

-- ---- stacks

abbrev stacked : List (List ℕ) → List ℕ
stacked ss = flat_map (λ fs. fs) ss

stack_below : (n : ℕ) (ss : List (List ℕ)) (cpu : ℕ) → AllBelow n (stacked ss) → AllBelow n (entry [] ss cpu)
stack_below n [] cpu h = All-nil (λ x. x < n)
stack_below n (fs ∷ ss) zero h = below_front n fs (stacked ss) h
stack_below n (fs ∷ ss) (suc cpu) h = stack_below n ss cpu (below_after n fs (stacked ss) h)

stacks_below : (n : ℕ) (ss : List (List ℕ)) (cpu : ℕ) (new : List ℕ) → AllBelow n new → AllBelow n (stacked ss) → AllBelow n (stacked (put [] ss cpu new))
stacks_below n [] zero new h k = All-append (λ x. x < n) new [] h k
stacks_below n [] (suc cpu) new h k = stacks_below n [] cpu new h k
stacks_below n (fs ∷ ss) zero new h k = All-append (λ x. x < n) new (stacked ss) h (below_after n fs (stacked ss) k)
stacks_below n (fs ∷ ss) (suc cpu) new h k =
    All-append (λ x. x < n) fs (stacked (put [] ss cpu new)) (below_front n fs (stacked ss) k) (stacks_below n ss cpu new h (below_after n fs (stacked ss) k))

top_below : (n f : ℕ) (fs : List ℕ) → first_of_list fs ≡ Some f → AllBelow n fs → f < n
top_below n f [] e h = absurd (let z : ⊥ = cc in z)
top_below n f (x ∷ xs) e h = let same : x ≡ f = cc in let below : x < n = All-head (λ y. y < n) x xs h in omega arith

-- ---- the processors

pub record FramesBelow (n : ℕ) (C : Cpus) : Type 0 where
  pub stacks : AllBelow n (stacked C.stacks)
  pub parked : AllBelow n C.parked

abbrev pub FramesNamed : Cpus → Type 0
FramesNamed C = FramesBelow (length C.frames) C

pub frames_named : (C : Cpus) → ((f : ℕ) → contains f (all_frames C) ≡ true → f < length C.frames) → FramesNamed C
frames_named C h =
    let all = below_by_contains (length C.frames) (all_frames C) h in
    record { stacks = below_front (length C.frames) (stacked C.stacks) C.parked all; parked = below_after (length C.frames) (stacked C.stacks) C.parked all }

pub named_frames : (C : Cpus) → FramesNamed C → (f : ℕ) → contains f (all_frames C) ≡ true → f < length C.frames
named_frames C k = below_contained (length C.frames) (all_frames C) (All-append (λ x. x < length C.frames) (stacked C.stacks) C.parked k.stacks k.parked)

pub pushed_named : (C : Cpus) (cpu f : ℕ) (frame : Frame) (level : ℕ) → FramesNamed C → FramesNamed (cpus.push C cpu f frame level)
pushed_named C cpu f frame level k =
    let new : Running = record { frame = frame; level = record { 0 = level } } in
    let n = length (put no_frame C.frames f new) in
    let more : length C.frames ≤ n = put_long no_frame C.frames f new in
    let here : f < n = put_inside no_frame C.frames f new in
    let old : AllBelow n (stacked C.stacks) = below_more (length C.frames) n (stacked C.stacks) more k.stacks in
    record {
      stacks = stacks_below n C.stacks cpu (f ∷ stack_of C cpu) (All-cons (λ x. x < n) f (stack_of C cpu) here (stack_below n C.stacks cpu old)) old;
      parked = below_more (length C.frames) n C.parked more k.parked;
    }

pub changed_named : (C : Cpus) (f : ℕ) (frame : Frame) → FramesNamed C → FramesNamed (cpus.change C f frame)
changed_named C f frame k =
    let new : Running = record (running C f) { frame = frame } in
    let n = length (put no_frame C.frames f new) in
    let more : length C.frames ≤ n = put_long no_frame C.frames f new in
    record { stacks = below_more (length C.frames) n (stacked C.stacks) more k.stacks; parked = below_more (length C.frames) n C.parked more k.parked }

frames_longer : (C : Cpus) (there : Option ℕ) → length C.frames ≤ length (without_frame C there)
frames_longer C None = omega arith
frames_longer C (Some f) = put_long no_frame C.frames f no_frame

pub popped_named : (C : Cpus) (cpu : ℕ) → FramesNamed C → FramesNamed (cpus.pop C cpu)
popped_named C cpu k =
    let n = length (without_frame C (top C cpu)) in
    let more : length C.frames ≤ n = frames_longer C (top C cpu) in
    let old : AllBelow n (stacked C.stacks) = below_more (length C.frames) n (stacked C.stacks) more k.stacks in
    record {
      stacks = stacks_below n C.stacks cpu (drop 1 (stack_of C cpu)) (All-drop (λ x. x < n) 1 (stack_of C cpu) (stack_below n C.stacks cpu old)) old;
      parked = below_more (length C.frames) n C.parked more k.parked;
    }

parks_below : (C : Cpus) (cpu : ℕ) (there : Option ℕ) → top C cpu ≡ there → FramesNamed C → AllBelow (length C.frames) (parked_with C there)
parks_below C cpu None e k = k.parked
parks_below C cpu (Some f) e k =
    ordered (length C.frames) f C.parked (top_below (length C.frames) f (stack_of C cpu) e (stack_below (length C.frames) C.stacks cpu k.stacks)) k.parked

pub parked_named : (C : Cpus) (cpu : ℕ) → FramesNamed C → FramesNamed (cpus.park C cpu)
parked_named C cpu k = record {
  stacks =
      stacks_below (length C.frames) C.stacks cpu (drop 1 (stack_of C cpu))
      (All-drop (λ x. x < length C.frames) 1 (stack_of C cpu) (stack_below (length C.frames) C.stacks cpu k.stacks)) k.stacks;
  parked = parks_below C cpu (top C cpu) refl k;
}

pub unparked_named : (C : Cpus) (cpu f : ℕ) → contains f C.parked ≡ true → FramesNamed C → FramesNamed (cpus.unpark C cpu f)
unparked_named C cpu f h k =
    let n = length C.frames in
    let here : f < n = below_contained n C.parked k.parked f h in
    record {
      stacks = stacks_below n C.stacks cpu (f ∷ stack_of C cpu) (All-cons (λ x. x < n) f (stack_of C cpu) here (stack_below n C.stacks cpu k.stacks)) k.stacks;
      parked = All-filter (λ other. not (other == f)) (λ x. x < n) C.parked k.parked;
    }

-- ---- the opening

no_stacks : (n cpus : ℕ) → AllBelow n (stacked (replicate cpus []))
no_stacks n zero = All-nil (λ x. x < n)
no_stacks n (suc cpus) = no_stacks n cpus

pub opening_named : (plan : Plan) → FramesNamed (opening_cpus plan)
opening_named plan = record { stacks = no_stacks 0 plan.cpus; parked = All-nil (λ x. x < 0) }
