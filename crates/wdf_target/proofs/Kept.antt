-- What is kept by request, and what the targets have: reading, and the acts.
use Rattle.std.proofs.Common.{◌≡◌, ◌≢◌, ◌⊎◌, inl, inr, ℕ, zero, suc, ◌<◌, Bool, true, false, ◌==◌, nat_lt, List, [], ◌∷◌, length, map, find, slice_set, get_or-set_same, ltb-true, ltb-false, Option, Some, None, is_some, refl, sym, ap, ◌∙◌, subst, arith}
use Rattle.std.specs.List.{flat_map}
use Rattle.std.proofs.lemmas.Bool.{eq-eqb, eqb-true, cases_eq}
use Rattle.std.proofs.lemmas.List.Folds.{find-append}
use Rattle.wdf_base.specs.declared.ids.ObjectId.{ObjectId}
use Rattle.wdf_base.specs.declared.plan.Plan.{Plan}
use Rattle.wdf_base.specs.declared.declared.TargetInfo.{TargetInfo}
use Rattle.wdf_model.specs.declared.entries.Sending.{Sending}
use Rattle.wdf_model.specs.Tables.{entry}
use Rattle.wdf_model.specs.Plans.{target_of}
use Rattle.wdf_model.specs.parts.Targets.{Target, no_target, opening_target, sending_of}
use Rattle.wdf_model.proofs.Maps.{entry_past, entry_set_other}
use Rattle.wdf_maps.specs.Places.{entry_of}
use Rattle.wdf_target.specs.Target.{request_id}
use Rattle.wdf_target.specs.Targets.{is_with, IsKept}

-- ---- which target has a request

pub with_itself : (q : ObjectId) → is_with q.0 (Some q) ≡ true
with_itself q = eq-eqb q.0 q.0 refl

with_other_by : (t : ℕ) (q : ObjectId) (b : Bool) → (q.0 == t) ≡ b → t ≢ q.0 → b ≡ false
with_other_by t q true e ne = absurd (ne (sym (eqb-true q.0 t e)))
with_other_by t q false e ne = refl

pub with_other : (t : ℕ) (q : ObjectId) → t ≢ q.0 → is_with t (Some q) ≡ false
with_other t q ne = with_other_by t q (q.0 == t) refl ne

pub none_by : (e : Option Sending) → is_some e ≡ false → e ≡ None
none_by None h = refl
none_by (Some s) h = absurd (let z : ⊥ = cc in z)

-- its target has the request
pub its_target : (ts : List Target) (hs : List (Option ObjectId)) (r : ℕ) (q : ObjectId) → IsKept ts hs → entry None hs r ≡ Some q → is_some (entry_of request_id (entry no_target ts q.0).sent r) ≡ true
its_target ts hs r q k e = k.kept q.0 r ∙ (ap (is_with q.0) e ∙ with_itself q)

-- the others haven't
pub other_target : (ts : List Target) (hs : List (Option ObjectId)) (r : ℕ) (q : ObjectId) (t : ℕ) → IsKept ts hs → entry None hs r ≡ Some q → t ≢ q.0 → entry_of request_id (entry no_target ts t).sent r ≡ None
other_target ts hs r q t k e ne = none_by (entry_of request_id (entry no_target ts t).sent r) (k.kept t r ∙ (ap (is_with t) e ∙ with_other t q ne))

pub no_target_has : (ts : List Target) (hs : List (Option ObjectId)) (r t : ℕ) → IsKept ts hs → entry None hs r ≡ None → entry_of request_id (entry no_target ts t).sent r ≡ None
no_target_has ts hs r t k e = none_by (entry_of request_id (entry no_target ts t).sent r) (k.kept t r ∙ ap (is_with t) e)

within_by : (ts : List Target) (q r : ℕ) (b : Bool) → nat_lt q (length ts) ≡ b → is_some (entry_of request_id (entry no_target ts q).sent r) ≡ true → q < length ts
within_by ts q r true l e = ltb-true q (length ts) l
within_by ts q r false l e =
    let past : entry no_target ts q ≡ no_target = entry_past no_target ts q (omega (arith, ltb-false q (length ts) l)) in
    let P : Target → Type 0 = λ t. is_some (entry_of request_id t.sent r) ≡ true in
    let none : is_some (entry_of request_id no_target.sent r) ≡ true = subst P past e in
    absurd (let z : ⊥ = cc in z)

-- it is one of the targets
pub target_within : (ts : List Target) (hs : List (Option ObjectId)) (r : ℕ) (q : ObjectId) → IsKept ts hs → entry None hs r ≡ Some q → q.0 < length ts
target_within ts hs r q k e = within_by ts q.0 r (nat_lt q.0 (length ts)) refl (its_target ts hs r q k e)

-- ---- what is sent at all

none_sent : (ts : List Target) (r : ℕ) → ((t : ℕ) → entry_of request_id (entry no_target ts t).sent r ≡ None) → find (λ s. s.request.0 == r) (flat_map (λ t. t.sent) ts) ≡ None
none_sent [] r h = refl
none_sent (x ∷ ts) r h =
    let first : entry_of request_id x.sent r ≡ None = h 0 in
    let rest : find (λ s. s.request.0 == r) (flat_map (λ t. t.sent) ts) ≡ None = none_sent ts r (λ t. h (suc t)) in
    find-append (λ s. s.request.0 == r) x.sent (flat_map (λ t. t.sent) ts) ∙ rw (first, rest) refl

one_sent : (ts : List Target) (r q : ℕ) (s : Sending) → entry_of request_id (entry no_target ts q).sent r ≡ Some s → ((t : ℕ) → t ≢ q → entry_of request_id (entry no_target ts t).sent r ≡ None)
    → find (λ s. s.request.0 == r) (flat_map (λ t. t.sent) ts) ≡ Some s
one_sent [] r q s e h = absurd (let z : ⊥ = cc in z)
one_sent (x ∷ ts) r zero s e h = find-append (λ s. s.request.0 == r) x.sent (flat_map (λ t. t.sent) ts) ∙ rw e refl
one_sent (x ∷ ts) r (suc q) s e h =
    let first : entry_of request_id x.sent r ≡ None = h 0 (omega arith) in
    let rest : find (λ s. s.request.0 == r) (flat_map (λ t. t.sent) ts) ≡ Some s = one_sent ts r q s e (λ t ne. h (suc t) (omega arith)) in
    find-append (λ s. s.request.0 == r) x.sent (flat_map (λ t. t.sent) ts) ∙ rw (first, rest) refl

-- where no target has the request nothing is found of it
pub found_none : (ts : List Target) (hs : List (Option ObjectId)) (r : ℕ) → IsKept ts hs → entry None hs r ≡ None → sending_of (record { targets = ts }) r ≡ None
found_none ts hs r k e = none_sent ts r (λ t. no_target_has ts hs r t k e)

found_by : (ts : List Target) (hs : List (Option ObjectId)) (r : ℕ) (q : ObjectId) (found : Option Sending) → IsKept ts hs → entry None hs r ≡ Some q
    → entry_of request_id (entry no_target ts q.0).sent r ≡ found → is_some found ≡ true → sending_of (record { targets = ts }) r ≡ found
found_by ts hs r q None k e is h = absurd (let z : ⊥ = cc in z)
found_by ts hs r q (Some s) k e is h = one_sent ts r q.0 s is (λ t ne. other_target ts hs r q t k e ne)

-- else what its target has of it
pub found_there : (ts : List Target) (hs : List (Option ObjectId)) (r : ℕ) (q : ObjectId) → IsKept ts hs → entry None hs r ≡ Some q
    → sending_of (record { targets = ts }) r ≡ entry_of request_id (entry no_target ts q.0).sent r
found_there ts hs r q k e = found_by ts hs r q (entry_of request_id (entry no_target ts q.0).sent r) k e refl (its_target ts hs r q k e)

-- ---- a change of one target

pub none_changes : (g : Target → Target) (ts : List Target) → ((t : ℕ) → g (entry no_target ts t) ≡ entry no_target ts t) → map g ts ≡ ts
none_changes g [] h = refl
none_changes g (x ∷ ts) h = let first : g x ≡ x = h 0 in let rest : map g ts ≡ ts = none_changes g ts (λ t. h (suc t)) in cc

pub one_changes : (g : Target → Target) (ts : List Target) (q : ℕ) → ((t : ℕ) → t ≢ q → g (entry no_target ts t) ≡ entry no_target ts t) → map g ts ≡ slice_set ts q (g (entry no_target ts q))
one_changes g [] q h = refl
one_changes g (x ∷ ts) zero h = let rest : map g ts ≡ ts = none_changes g ts (λ t. h (suc t) (omega arith)) in ap (λ ys. g x ∷ ys) rest
one_changes g (x ∷ ts) (suc q) h =
    let first : g x ≡ x = h 0 (omega arith) in
    let rest : map g ts ≡ slice_set ts q (g (entry no_target ts q)) = one_changes g ts q (λ t ne. h (suc t) (omega arith)) in
    cc

-- ---- what is kept after an act

-- A request is with one target at most, before and after, and that target alone changes.
pub record Moves (ts : List Target) (hs hs' : List (Option ObjectId)) (q r : ℕ) (new : Target) (after : Option ObjectId) : Type 0 where
  pub within : q < length ts
  pub here : entry None hs' r ≡ after
  pub others_kept : (other : ℕ) → other ≢ r → entry None hs' other ≡ entry None hs other
  pub was_there : (t : ℕ) → t ≢ q → is_with t (entry None hs r) ≡ false
  pub is_there : (t : ℕ) → t ≢ q → is_with t after ≡ false
  pub new_here : is_some (entry_of request_id new.sent r) ≡ is_with q after
  pub new_others : (other : ℕ) → other ≢ r → entry_of request_id new.sent other ≡ entry_of request_id (entry no_target ts q).sent other

set_same : (ts : List Target) (q : ℕ) (new : Target) → q < length ts → entry no_target (slice_set ts q new) q ≡ new
set_same ts q new l = get_or-set_same ts q new no_target l

-- whether a target has a request
abbrev has : Target → ℕ → Bool
has t r = is_some (entry_of request_id t.sent r)

moved_by : (ts : List Target) (hs hs' : List (Option ObjectId)) (q r : ℕ) (new : Target) (after : Option ObjectId) → IsKept ts hs → Moves ts hs hs' q r new after
    → (t j : ℕ) → (t ≡ q) ⊎ (t ≢ q) → (j ≡ r) ⊎ (j ≢ r) → has (entry no_target (slice_set ts q new) t) j ≡ is_with t (entry None hs' j)
moved_by ts hs hs' q r new after k m t j (inl tq) (inl jr) =
    let at_q : entry no_target (slice_set ts q new) q ≡ new = set_same ts q new m.within in
    let goal_here : has (entry no_target (slice_set ts q new) q) r ≡ is_with q (entry None hs' r) = ap (λ x. has x r) at_q ∙ (m.new_here ∙ ap (is_with q) (sym m.here)) in
    rw (tq, jr) goal_here
moved_by ts hs hs' q r new after k m t j (inl tq) (inr jr) =
    let at_q : entry no_target (slice_set ts q new) q ≡ new = set_same ts q new m.within in
    let goal_here : has (entry no_target (slice_set ts q new) q) j ≡ is_with q (entry None hs' j) =
    ap (λ x. has x j) at_q ∙ (ap is_some (m.new_others j jr) ∙ (k.kept q j ∙ ap (is_with q) (sym (m.others_kept j jr)))) in
    rw tq goal_here
moved_by ts hs hs' q r new after k m t j (inr tq) (inl jr) =
    let at_t : entry no_target (slice_set ts q new) t ≡ entry no_target ts t = entry_set_other no_target ts q t new tq in
    let goal_here : has (entry no_target (slice_set ts q new) t) r ≡ is_with t (entry None hs' r) =
    ap (λ x. has x r) at_t ∙ (k.kept t r ∙ (m.was_there t tq ∙ (sym (m.is_there t tq) ∙ ap (is_with t) (sym m.here)))) in
    rw jr goal_here
moved_by ts hs hs' q r new after k m t j (inr tq) (inr jr) =
    let at_t : entry no_target (slice_set ts q new) t ≡ entry no_target ts t = entry_set_other no_target ts q t new tq in
    ap (λ x. has x j) at_t ∙ (k.kept t j ∙ ap (is_with t) (sym (m.others_kept j jr)))

pub kept_moved : (ts : List Target) (hs hs' : List (Option ObjectId)) (q r : ℕ) (new : Target) (after : Option ObjectId) → IsKept ts hs → Moves ts hs hs' q r new after → IsKept (slice_set ts q new) hs'
kept_moved ts hs hs' q r new after k m = record { kept = λ t j. moved_by ts hs hs' q r new after k m t j (cases_eq t q) (cases_eq j r) }

stopped_by : (ts : List Target) (hs : List (Option ObjectId)) (q : ℕ) (new : Target) → IsKept ts hs → q < length ts → new.sent ≡ (entry no_target ts q).sent
    → (t j : ℕ) → (t ≡ q) ⊎ (t ≢ q) → has (entry no_target (slice_set ts q new) t) j ≡ is_with t (entry None hs j)
stopped_by ts hs q new k l e t j (inl tq) =
    let at_q : entry no_target (slice_set ts q new) q ≡ new = set_same ts q new l in
    let goal_here : has (entry no_target (slice_set ts q new) q) j ≡ is_with q (entry None hs j) =
    ap (λ x. has x j) at_q ∙ (ap (λ xs. is_some (entry_of request_id xs j)) e ∙ k.kept q j) in
    rw tq goal_here
stopped_by ts hs q new k l e t j (inr tq) =
    let at_t : entry no_target (slice_set ts q new) t ≡ entry no_target ts t = entry_set_other no_target ts q t new tq in
    ap (λ x. has x j) at_t ∙ k.kept t j

-- a target that has what it had
pub kept_same : (ts : List Target) (hs : List (Option ObjectId)) (q : ℕ) (new : Target) → IsKept ts hs → q < length ts → new.sent ≡ (entry no_target ts q).sent → IsKept (slice_set ts q new) hs
kept_same ts hs q new k l e = record { kept = λ t j. stopped_by ts hs q new k l e t j (cases_eq t q) }

-- ---- the opening

nothing_opened : (info : Option TargetInfo) → (opening_target info).sent ≡ []
nothing_opened None = refl
nothing_opened (Some i) = refl

pub nothing_sent : (plan : Plan) (ids : List ℕ) (t : ℕ) → (entry no_target (map (λ id. opening_target (target_of plan id)) ids) t).sent ≡ []
nothing_sent plan [] t = refl
nothing_sent plan (id ∷ ids) zero = nothing_opened (target_of plan id)
nothing_sent plan (id ∷ ids) (suc t) = nothing_sent plan ids t

pub kept_opened : (plan : Plan) (ids : List ℕ) → IsKept (map (λ id. opening_target (target_of plan id)) ids) []
kept_opened plan ids = record { kept = λ t r. ap (λ xs. is_some (entry_of request_id xs r)) (nothing_sent plan ids t) }
