-- What the acts on the targets leave, of the targets and of what is kept by request.
use Rattle.std.proofs.Common.{◌≡◌, ◌≢◌, ℕ, zero, suc, ◌<◌, Bool, true, false, not, nat_lt, ◌&&◌, List, [], ◌∷◌, length, slice_set, slice_index_or, get_or-set_same, ltb-true, ltb-false, Option, Some, None, is_some, refl, sym, ap, ◌∙◌, subst, arith}
use Rattle.std.specs.Bool.{then_some}
use Rattle.wdf_base.specs.declared.ids.ObjectId.{ObjectId}
use Rattle.wdf_base.specs.declared.value.Status.{Status}
use Rattle.wdf_model.specs.Tables.{entry, put}
use Rattle.wdf_model.specs.parts.Targets.{Target, Targets, no_target, takes_more, sending_of, new_sending, sending_in_order, without_sending, target_done, with_target, back, done}
use Rattle.wdf_model.proofs.Maps.{entry_past, entry_blanked, entry_set_other, entry_put_same, entry_put_other, put_within}
use Rattle.wdf_maps.specs.Places.{entry_of}
use Rattle.wdf_maps.proofs.EntriesById.{entry_added, entry_beside, entry_left, entry_removed}
use Rattle.wdf_target.specs.Target.{request_id}
use Rattle.wdf_target.specs.Targets.{is_with, IsKept}
use Rattle.wdf_target.proofs.Kept.{with_itself, with_other, its_target, other_target, no_target_has, target_within, found_there, none_changes, one_changes, Moves}
use Rattle.wdf_target.proofs.Sendings.{done_absent, done_others, without_absent}

-- an item as it is read
pub read_as : (ts : List Target) (q : ℕ) (x : Target) → q < length ts → x ≡ slice_index_or ts q x → entry no_target ts q ≡ x
read_as [] q x l e = absurd (omega arith)
read_as (y ∷ ts) zero x l e = sym e
read_as (y ∷ ts) (suc q) x l e = read_as ts q x (omega arith) e

-- an item that was looked up
pub entry_read : (ts us : List Target) (q : ℕ) (x : Target) → us ≡ ts → true ≡ nat_lt q (length us) → x ≡ slice_index_or us q x → entry no_target ts q ≡ x
entry_read ts us q x same within read =
    read_as ts q x (subst (λ xs. q < length xs) same (ltb-true q (length us) (sym within))) (read ∙ ap (λ xs. slice_index_or xs q x) same)

-- the target of a request, as what is kept of it was read
pub holder_read : (hs rs : List (Option ObjectId)) (r : ℕ) (found o : Option ObjectId) → found ≡ entry None rs r → rs ≡ hs → found ≡ o → entry None hs r ≡ o
holder_read hs rs r found o e same is = sym (e ∙ ap (λ os. entry None os r) same) ∙ is

-- what an act leaves of the target of a request, which was read before
pub changed_as_read : (ts : List Target) (hs : List (Option ObjectId)) (r : ℕ) (q : ObjectId) (f : Target → Target) (old new : Target) → IsKept ts hs → entry None hs r ≡ Some q
    → old ≡ slice_index_or ts q.0 old → new ≡ f old → new ≡ f (entry no_target ts q.0)
changed_as_read ts hs r q f old new k there read is = is ∙ ap f (sym (read_as ts q.0 old (target_within ts hs r q k there) read))

some_within_by : (hs : List (Option ObjectId)) (r : ℕ) (q : ObjectId) (b : Bool) → nat_lt r (length hs) ≡ b → entry None hs r ≡ Some q → r < length hs
some_within_by hs r q true l e = ltb-true r (length hs) l
some_within_by hs r q false l e =
    let past : entry None hs r ≡ None = entry_past None hs r (omega (arith, ltb-false r (length hs) l)) in
    absurd (let z : ⊥ = cc in z)

pub some_within : (hs : List (Option ObjectId)) (r : ℕ) (q : ObjectId) → entry None hs r ≡ Some q → r < length hs
some_within hs r q e = some_within_by hs r q (nat_lt r (length hs)) refl e

-- ---- the completion routine starts

pub back_none : (T : Targets) (ts : List Target) (hs : List (Option ObjectId)) (r : ℕ) → record { targets = ts } ≡ T → IsKept ts hs → entry None hs r ≡ None → T ≡ back T r
back_none T ts hs r e k none =
    let P : Targets → Type 0 = λ U. U ≡ back U r in
    let Q : List Target → Targets = λ us. record { targets = us } in
    subst P e (ap Q (sym (none_changes (without_sending r) ts (λ t. without_absent r (entry no_target ts t) (no_target_has ts hs r t k none)))))

pub back_moves : (ts : List Target) (hs : List (Option ObjectId)) (r : ℕ) (q : ObjectId) (new : Target) → IsKept ts hs → entry None hs r ≡ Some q → new ≡ without_sending r (entry no_target ts q.0)
    → Moves ts hs (slice_set hs r None) q.0 r new None
back_moves ts hs r q new k there is = record {
  within = target_within ts hs r q k there;
  here = entry_blanked None hs r;
  others_kept = λ other ne. entry_set_other None hs r other None ne;
  was_there = λ t ne. ap (is_with t) there ∙ with_other t q ne;
  is_there = λ t ne. refl;
  new_here = ap (λ x. is_some (entry_of request_id x.sent r)) is ∙ ap is_some (entry_removed request_id r (entry no_target ts q.0).sent);
  new_others = λ other ne. ap (λ x. entry_of request_id x.sent other) is ∙ entry_left request_id r other (entry no_target ts q.0).sent ne;
}

pub back_done : (T : Targets) (ts : List Target) (hs : List (Option ObjectId)) (r : ℕ) (q : ObjectId) (new : Target) → record { targets = ts } ≡ T → IsKept ts hs → entry None hs r ≡ Some q
    → new ≡ without_sending r (entry no_target ts q.0) → record { targets = slice_set ts q.0 new } ≡ back T r
back_done T ts hs r q new e k there is =
    let P : Targets → Type 0 = λ U. record { targets = slice_set ts q.0 new } ≡ back U r in
    let Q : List Target → Targets = λ us. record { targets = us } in
    let all = one_changes (without_sending r) ts q.0 (λ t ne. without_absent r (entry no_target ts t) (other_target ts hs r q t k there ne)) in
    subst P e (ap Q (ap (slice_set ts q.0) is ∙ sym all))

-- ---- the target is done with a request

pub done_none : (T : Targets) (ts : List Target) (hs : List (Option ObjectId)) (r : ℕ) (status : Status) → record { targets = ts } ≡ T → IsKept ts hs → entry None hs r ≡ None → T ≡ done T r status
done_none T ts hs r status e k none =
    let P : Targets → Type 0 = λ U. U ≡ done U r status in
    let Q : List Target → Targets = λ us. record { targets = us } in
    subst P e (ap Q (sym (none_changes (target_done r status) ts (λ t. done_absent r status (entry no_target ts t) (no_target_has ts hs r t k none)))))

-- what is kept of it: its target, where that still has it
kept_there : (q : ObjectId) (keeps : Bool) → keeps ≡ is_with q.0 (then_some keeps q)
kept_there q true = sym (with_itself q)
kept_there q false = refl

kept_elsewhere : (q : ObjectId) (keeps : Bool) (t : ℕ) → t ≢ q.0 → is_with t (then_some keeps q) ≡ false
kept_elsewhere q true t ne = with_other t q ne
kept_elsewhere q false t ne = refl

pub done_moves : (ts : List Target) (hs : List (Option ObjectId)) (r : ℕ) (status : Status) (q : ObjectId) (new : Target) (keeps : Bool) → IsKept ts hs → entry None hs r ≡ Some q
    → new ≡ target_done r status (entry no_target ts q.0) → is_some (entry_of request_id new.sent r) ≡ keeps
    → Moves ts hs (slice_set hs r (then_some keeps q)) q.0 r new (then_some keeps q)
done_moves ts hs r status q new keeps k there is it = record {
  within = target_within ts hs r q k there;
  here = get_or-set_same hs r (then_some keeps q) None (some_within hs r q there);
  others_kept = λ other ne. entry_set_other None hs r other (then_some keeps q) ne;
  was_there = λ t ne. ap (is_with t) there ∙ with_other t q ne;
  is_there = λ t ne. kept_elsewhere q keeps t ne;
  new_here = it ∙ kept_there q keeps;
  new_others = λ other ne. ap (λ x. entry_of request_id x.sent other) is ∙ done_others r status other (entry no_target ts q.0).sent ne;
}

pub done_done : (T : Targets) (ts : List Target) (hs : List (Option ObjectId)) (r : ℕ) (status : Status) (q : ObjectId) (new : Target) → record { targets = ts } ≡ T → IsKept ts hs → entry None hs r ≡ Some q
    → new ≡ target_done r status (entry no_target ts q.0) → record { targets = slice_set ts q.0 new } ≡ done T r status
done_done T ts hs r status q new e k there is =
    let P : Targets → Type 0 = λ U. record { targets = slice_set ts q.0 new } ≡ done U r status in
    let Q : List Target → Targets = λ us. record { targets = us } in
    let all = one_changes (target_done r status) ts q.0 (λ t ne. done_absent r status (entry no_target ts t) (other_target ts hs r q t k there ne)) in
    subst P e (ap Q (ap (slice_set ts q.0) is ∙ sym all))

-- ---- a request is sent

nothing_kept_by : (T : Targets) (ts : List Target) (hs : List (Option ObjectId)) (r : ℕ) (e : Option ObjectId) → entry None hs r ≡ e → record { targets = ts } ≡ T → IsKept ts hs
    → is_some (sending_of T r) ≡ false → e ≡ None
nothing_kept_by T ts hs r None h same k free = refl
nothing_kept_by T ts hs r (Some q) h same k free =
    let there : is_some (sending_of T r) ≡ true = ap (λ U. is_some (sending_of U r)) (sym same) ∙ (ap is_some (found_there ts hs r q k h) ∙ its_target ts hs r q k h) in
    absurd (let z : ⊥ = cc in z)

pub nothing_kept : (T : Targets) (ts : List Target) (hs : List (Option ObjectId)) (r : ℕ) → record { targets = ts } ≡ T → IsKept ts hs → is_some (sending_of T r) ≡ false → entry None hs r ≡ None
nothing_kept T ts hs r e k free = nothing_kept_by T ts hs r (entry None hs r) refl e k free

pub send_moves : (ts : List Target) (hs : List (Option ObjectId)) (t : ObjectId) (r : ℕ) (forget : Bool) (new : Target) → IsKept ts hs → t.0 < length ts → entry None hs r ≡ None
    → new ≡ record (entry no_target ts t.0) { sent = sending_in_order (new_sending r forget) (entry no_target ts t.0).sent }
    → Moves ts hs (put None hs r (Some t)) t.0 r new (Some t)
send_moves ts hs t r forget new k within none is = record {
  within = within;
  here = entry_put_same None hs r (Some t);
  others_kept = λ other ne. entry_put_other None hs r other (Some t) ne;
  was_there = λ u ne. ap (is_with u) none;
  is_there = λ u ne. with_other u t ne;
  new_here = ap (λ x. is_some (entry_of request_id x.sent r)) is ∙ (ap is_some (entry_added request_id (new_sending r forget) (entry no_target ts t.0).sent (no_target_has ts hs r t.0 k none)) ∙ sym (with_itself t));
  new_others = λ other ne. ap (λ x. entry_of request_id x.sent other) is ∙ entry_beside request_id (new_sending r forget) other (entry no_target ts t.0).sent ne;
}

-- one target is written
pub target_written : (T : Targets) (ts : List Target) (t : ℕ) (f : Target → Target) (new : Target) → record { targets = ts } ≡ T → t < length ts → new ≡ f (entry no_target ts t)
    → record { targets = slice_set ts t new } ≡ with_target T t f
target_written T ts t f new e l is =
    let P : Targets → Type 0 = λ U. record { targets = slice_set ts t new } ≡ with_target U t f in
    let Q : List Target → Targets = λ us. record { targets = us } in
    subst P e (ap Q (ap (slice_set ts t) is ∙ sym (put_within no_target ts t (f (entry no_target ts t)) l)))

taker_by : (T : Targets) (t : ℕ) (b : Bool) → nat_lt t (length T.targets) ≡ b → takes_more T t ≡ true → t < length T.targets
taker_by T t true l h = ltb-true t (length T.targets) l
taker_by T t false l h =
    let past : entry no_target T.targets t ≡ no_target = entry_past no_target T.targets t (omega (arith, ltb-false t (length T.targets) l)) in
    let P : Target → Type 0 = λ x. (not x.stopped && nat_lt (length x.sent) x.depth) ≡ true in
    let none : false ≡ true = subst P past h in
    absurd (let z : ⊥ = cc in z)

-- what takes one more is one of the targets
pub taker_within : (T : Targets) (ts : List Target) (t : ℕ) {takes : Bool} → record { targets = ts } ≡ T → takes_more T t ≡ takes → takes ≡ true → t < length ts
taker_within T ts t e is h = let P : Targets → Type 0 = λ U. t < length U.targets in subst P (sym e) (taker_by T t (nat_lt t (length T.targets)) refl (is ∙ h))
