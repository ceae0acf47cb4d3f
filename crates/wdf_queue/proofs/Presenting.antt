-- Which queues present one request more, after a list was written.
use Rattle.std.proofs.Common.{ℕ, ◌≡◌, ◌*◌, ◌<◌, ◌≤◌, ◌==◌, ◌&&◌, not, Bool, true, false, List, [], Some, length, map, replicate, slice_set, get_or-set_same, get_or-set_other, refl, ap, ◌∙◌, arith}
use Rattle.std.specs.Int.{div_ceil}
use Rattle.wdf_ilist.specs.Family.{Family, AreApart, is_on, list_at, list_of, without}
use Rattle.wdf_ilist.proofs.Lists.{list_within, on_list_of, one_leaves}
use Rattle.wdf_model.specs.parts.Queues.{Queues, is_free}
use Rattle.wdf_sets.proofs.SetOf.{empty_set, set_put}
use Rattle.wdf_queue.specs.Queues.{HoldsPresentable, presents}
use Rattle.wdf_queue.proofs.Rising.{empty_at}

-- ---- one list is written

-- with the bit of its queue the set stays right
pub list_written : (Q : Queues) (bits : List Bool) (q : ℕ) (list : List ℕ) (on : Bool) → HoldsPresentable Q bits → q < length Q.dispatch → q < length Q.waiting
    → on ≡ (not (length list == 0) && is_free Q q) → HoldsPresentable (record Q { waiting = slice_set Q.waiting q list }) (slice_set bits q on)
list_written Q bits q list on h there known here =
    let after : Queues = record Q { waiting = slice_set Q.waiting q list } in
    let within : q < length bits = let r = h.room in omega arith in
    set_put (presents Q) (presents after) (length Q.dispatch) bits q on h within (rw (get_or-set_same Q.waiting q list [] known) here)
    (λ p other. rw (get_or-set_other Q.waiting q p list [] other) refl)

-- ---- one leaves its list

pub cancelled : (Q : Queues) (family : Family) (bits : List Bool) (q r : ℕ) (on : Bool) → family.lists ≡ Q.waiting → AreApart family → list_of r family.lists ≡ Some q
    → HoldsPresentable Q bits → length Q.waiting ≡ length Q.dispatch → on ≡ (not (length (list_at (map (without r) Q.waiting) q) == 0) && is_free Q q)
    → HoldsPresentable (record Q { waiting = map (without r) Q.waiting }) (slice_set bits q on)
cancelled Q family bits q r on e apart its h long here =
    let has : is_on r (list_at family.lists q) ≡ true = on_list_of r family.lists q its in
    let left : map (without r) Q.waiting ≡ slice_set Q.waiting q (without r (list_at Q.waiting q)) = rw e at (one_leaves family r q apart has) in
    let known : q < length Q.waiting = rw e at (list_within r family.lists q has) in
    let rest : list_at (map (without r) Q.waiting) q ≡ without r (list_at Q.waiting q) = rw left (get_or-set_same Q.waiting q (without r (list_at Q.waiting q)) [] known) in
    rw left (list_written Q bits q (without r (list_at Q.waiting q)) on h (omega arith) known (here ∙ ap (λ (xs : List ℕ). not (length xs == 0) && is_free Q q) rest))

-- the list of who waits is one of the lists
pub list_known : (family : Family) (bits : List Bool) (n r q : ℕ) → list_of r family.lists ≡ Some q → length family.lists ≡ n → n ≤ length bits → q < length bits
list_known family bits n r q its long room =
    let known : q < length family.lists = list_within r family.lists q (on_list_of r family.lists q its) in
    omega arith

-- ---- nobody waits

pub none_present : (Q : Queues) (n m : ℕ) (bits : List Bool) → Q.waiting ≡ replicate n [] → bits ≡ replicate m false → length Q.dispatch ≤ m → HoldsPresentable Q bits
none_present Q n m bits nobody none room =
    empty_set (presents Q) (length Q.dispatch) m bits none room (λ p. ap (λ (xs : List ℕ). not (length xs == 0) && is_free Q p) (ap (λ lists. list_at lists p) nobody ∙ empty_at n p))

-- a set has room for each id
pub rounded_up : (n bound : ℕ) → n ≤ bound → n ≤ 4096 * div_ceil bound 4096
rounded_up n bound h = omega arith
