-- How many frames pass a test after a frame begins, goes on, ends, parks or comes back.
use Rattle.std.proofs.Common.{◌≡◌, ◌≢◌, ℕ, ◌+◌, ◌==◌, ◌≤◌, Bool, List, [], Some, count_by, ap, sym, subst, ◌∙◌, arith}
use Rattle.wdf_base.specs.declared.frame.Frame.{Frame}
use Rattle.wdf_model.specs.declared.entries.Running.{Running}
use Rattle.wdf_model.specs.Tables.{entry, flag, without}
use Rattle.wdf_model.specs.parts.Cpus.{Cpus, all_frames, frame_of, no_frame, running, top, without_frame}
use Rattle.wdf_model.specs.parts.Cpus as cpus
use Rattle.wdf_model.proofs.Maps.{entry_put_other, entry_put_same}
use Rattle.wdf_model.proofs.Counts.{count_cons, it_leaves}
use Rattle.wdf_model.proofs.FrameCounts.{on, parks, popped, pushed, same_on, unparks}

abbrev pub passing : (Frame → Bool) → Cpus → ℕ
passing test C = count_by (λ f. test (frame_of C f)) (all_frames C)

-- ---- a frame begins

pub push_here : (C : Cpus) (cpu f : ℕ) (frame : Frame) (level : ℕ) → running (cpus.push C cpu f frame level) f ≡ record { frame = frame; level = record { 0 = level } }
push_here C cpu f frame level = entry_put_same no_frame C.frames f (record { frame = frame; level = record { 0 = level } })

pub push_elsewhere : (C : Cpus) (cpu f : ℕ) (frame : Frame) (level x : ℕ) → x ≢ f → running (cpus.push C cpu f frame level) x ≡ running C x
push_elsewhere C cpu f frame level x n = entry_put_other no_frame C.frames f x (record { frame = frame; level = record { 0 = level } }) n

pub passing_push : (test : Frame → Bool) (C : Cpus) (cpu f : ℕ) (frame : Frame) (level : ℕ) → on C f ≡ 0 → passing test (cpus.push C cpu f frame level) ≡ passing test C + flag (test frame)
passing_push test C cpu f frame level none =
    pushed (λ x. test (frame_of (cpus.push C cpu f frame level) x)) C cpu f frame level
    ∙ ap (λ n. n + flag (test (frame_of (cpus.push C cpu f frame level) f)))
    (same_on (λ x. test (frame_of C x)) (λ x. test (frame_of (cpus.push C cpu f frame level) x)) (all_frames C)
    (λ x more. ap (λ (r : Running). test r.frame) (push_elsewhere C cpu f frame level x (λ e. let there : 1 ≤ on C f = subst (λ y. 1 ≤ on C y) e more in let z : ⊥ = omega arith in z))))
    ∙ ap (λ (r : Running). passing test C + flag (test r.frame)) (push_here C cpu f frame level)

-- ---- a frame goes on

pub change_here : (C : Cpus) (f : ℕ) (frame : Frame) → running (cpus.change C f frame) f ≡ record (running C f) { frame = frame }
change_here C f frame = entry_put_same no_frame C.frames f (record (running C f) { frame = frame })

pub change_elsewhere : (C : Cpus) (f : ℕ) (frame : Frame) (x : ℕ) → x ≢ f → running (cpus.change C f frame) x ≡ running C x
change_elsewhere C f frame x n = entry_put_other no_frame C.frames f x (record (running C f) { frame = frame }) n

-- tests that agree on all numbers but one
pub others_agree : (p q : ℕ → Bool) (f : ℕ) (xs : List ℕ) → count_by (λ y. y == f) xs ≡ 0 → ((x : ℕ) → x ≢ f → q x ≡ p x) → count_by q xs ≡ count_by p xs
others_agree p q f xs none same =
    same_on p q xs (λ x more. same x (λ e. let there : 1 ≤ count_by (λ y. y == f) xs = subst (λ z. 1 ≤ count_by (λ y. y == z) xs) e more in let z : ⊥ = omega arith in z))

-- one number taken out of a list, as a parked frame is that comes back
pub taken : (p : ℕ → Bool) (f : ℕ) (xs : List ℕ) → count_by (λ y. y == f) xs ≡ 1 → count_by p xs ≡ flag (p f) + count_by p (without f xs)
taken p f xs one = sym (unparks p (record { frames = []; stacks = []; parked = xs; levels = [] }) 0 f one) ∙ count_cons p f (without f xs)

pub passing_change : (test : Frame → Bool) (C : Cpus) (f : ℕ) (frame : Frame) → on C f ≡ 1 → passing test (cpus.change C f frame) + flag (test (frame_of C f)) ≡ passing test C + flag (test frame)
passing_change test C f frame one =
    let old = taken (λ x. test (frame_of C x)) f (all_frames C) one in
    let new = taken (λ x. test (frame_of (cpus.change C f frame) x)) f (all_frames C) one in
    let rest = others_agree (λ x. test (frame_of C x)) (λ x. test (frame_of (cpus.change C f frame) x)) f (without f (all_frames C)) (it_leaves f (all_frames C))
    (λ x n. ap (λ (r : Running). test r.frame) (change_elsewhere C f frame x n)) in
    let here : flag (test (frame_of (cpus.change C f frame) f)) ≡ flag (test frame) = ap (λ (r : Running). flag (test r.frame)) (change_here C f frame) in
    omega arith

pub passing_change_off : (test : Frame → Bool) (C : Cpus) (f : ℕ) (frame : Frame) → on C f ≡ 0 → passing test (cpus.change C f frame) ≡ passing test C
passing_change_off test C f frame none =
    others_agree (λ x. test (frame_of C x)) (λ x. test (frame_of (cpus.change C f frame) x)) f (all_frames C) none
    (λ x n. ap (λ (r : Running). test r.frame) (change_elsewhere C f frame x n))

-- ---- a frame ends

pub pop_here : (C : Cpus) (cpu f : ℕ) → top C cpu ≡ Some f → running (cpus.pop C cpu) f ≡ no_frame
pop_here C cpu f is_top = ap (λ t. entry no_frame (without_frame C t) f) is_top ∙ entry_put_same no_frame C.frames f no_frame

pub pop_elsewhere : (C : Cpus) (cpu f : ℕ) → top C cpu ≡ Some f → (x : ℕ) → x ≢ f → running (cpus.pop C cpu) x ≡ running C x
pop_elsewhere C cpu f is_top x n = ap (λ t. entry no_frame (without_frame C t) x) is_top ∙ entry_put_other no_frame C.frames f x no_frame n

pub pop_leaves : (C : Cpus) (cpu f : ℕ) → top C cpu ≡ Some f → (x : ℕ) → on (cpus.pop C cpu) x + flag (f == x) ≡ on C x
pop_leaves C cpu f is_top x = popped (λ y. y == x) C cpu f is_top

pub passing_pop : (test : Frame → Bool) (C : Cpus) (cpu f : ℕ) → top C cpu ≡ Some f → on (cpus.pop C cpu) f ≡ 0 → passing test (cpus.pop C cpu) + flag (test (frame_of C f)) ≡ passing test C
passing_pop test C cpu f is_top off =
    ap (λ n. n + flag (test (frame_of C f)))
    (same_on (λ x. test (frame_of C x)) (λ x. test (frame_of (cpus.pop C cpu) x)) (all_frames (cpus.pop C cpu))
    (λ x more. ap (λ (r : Running). test r.frame) (pop_elsewhere C cpu f is_top x (λ e. let there : 1 ≤ on (cpus.pop C cpu) f = subst (λ y. 1 ≤ on (cpus.pop C cpu) y) e more in let z : ⊥ = omega arith in z))))
    ∙ popped (λ x. test (frame_of C x)) C cpu f is_top

-- ---- a frame parks and comes back

pub passing_park : (test : Frame → Bool) (C : Cpus) (cpu f : ℕ) → top C cpu ≡ Some f → passing test (cpus.park C cpu) ≡ passing test C
passing_park test C cpu f is_top = parks (λ x. test (frame_of C x)) C cpu f is_top

pub passing_unpark : (test : Frame → Bool) (C : Cpus) (cpu f : ℕ) → count_by (λ y. y == f) C.parked ≡ 1 → passing test (cpus.unpark C cpu f) ≡ passing test C
passing_unpark test C cpu f one = unparks (λ x. test (frame_of C x)) C cpu f one
