-- A lock is held at most once, at each place of every run.
use Rattle.std.proofs.Common.{if◌then◌else◌, ◌≡◌, ℕ, ◌+◌, ◌≤◌, Bool, true, false, not, List, [], ◌∷◌, inl, inr, Some, find, count_by, take, refl, sym, ap, subst, ◌∙◌, arith}
use Rattle.std.proofs.lemmas.Bool.{cases_Bool}
use Rattle.wdf_base.specs.Meaning.{Meaning}
use Rattle.wdf_base.specs.declared.plan.Plan.{Plan}
use Rattle.wdf_base.specs.declared.event.Event.{Event}
use Rattle.wdf_base.specs.declared.object.LockRef.{LockRef}
use Rattle.wdf_base.specs.declared.object.LockRef.TheVariants as lock
use Rattle.wdf_base.specs.Same.{same_lock}
use Rattle.wdf_model.specs.declared.entries.Held.{Held}
use Rattle.wdf_model.specs.Tables.{flag}
use Rattle.wdf_model.specs.parts.Locks.{Locks, is_free_hold, is_free_lock}
use Rattle.wdf_model.specs.parts.Locks as locks
use Rattle.wdf_model.specs.State.{State}
use Rattle.wdf_model.specs.declared.deed.Deed.{Deed}
use Rattle.wdf_model.specs.declared.deed.Deed.TheVariants.{TakeLock, ReleaseLock}
use Rattle.wdf_model.specs.rules.Deeds.{do_deed}
use Rattle.wdf_model.specs.rules.Steps.{deeds}
use Rattle.wdf_model.specs.rules.Ready.{IsRunOf, state_after}
use Rattle.law_machine_base.specs.Fits.{fits}
use Rattle.wdf_model.proofs.Sames.{one_lock}
use Rattle.wdf_model.proofs.Counts.{count_behind, count_cons, count_of_one, filter_less}
use Rattle.law_machine_base.proofs.FitsOfEvents.{event_fits}
use Rattle.law_machine_lives.proofs.Keeping.{deeds_keep, each_place}
use Rattle.law_machine_lives.proofs.PartsStay.{locks_stay}

-- ---- a lock is taken, or given back

abbrev pub holds_of : Locks → LockRef → ℕ
holds_of L l = count_by (λ h. same_lock h.lock l) L.held

abbrev pub Once : Locks → Type 0
Once L = (l : LockRef) → holds_of L l ≤ 1

none_by : (p : Held → Bool) (h : Held) (hs : List Held) (b : Bool) → p h ≡ b → is_free_hold (if b then Some h else find p hs) ≡ true → (is_free_hold (find p hs) ≡ true → count_by p hs ≡ 0) → flag b + count_by p hs ≡ 0
none_by p h hs true e free rest = absurd (let z : ⊥ = cc in z)
none_by p h hs false e free rest = let none = rest free in omega arith

none_held : (p : Held → Bool) (hs : List Held) → is_free_hold (find p hs) ≡ true → count_by p hs ≡ 0
none_held p [] free = refl
none_held p (h ∷ hs) free = count_cons p h hs ∙ none_by p h hs (p h) refl free (none_held p hs)

-- a free lock isn't held
pub free_unheld : (L : Locks) (l : LockRef) → is_free_lock L l ≡ true → holds_of L l ≡ 0
free_unheld L l free = none_held (λ h. same_lock h.lock l) L.held free

taken : (L : Locks) (l : LockRef) (f : ℕ) (by_call : Bool) → is_free_lock L l ≡ true → Once L → Once (locks.take L l f by_call)
taken L l f by_call free q x =
    let new : Held = record { lock = l; frame = record { 0 = f }; by_call = by_call } in
    let all : holds_of (locks.take L l f by_call) x ≡ holds_of L x + flag (same_lock l x) = count_behind (λ (h : Held). same_lock h.lock x) L.held (new ∷ []) ∙ ap (λ n. holds_of L x + n) (count_of_one (λ (h : Held). same_lock h.lock x) new) in
    let old = q x in
    elim (cases_Bool (same_lock l x)) [
      | inl e ↦ let none : holds_of L x ≡ 0 = ap (holds_of L) (sym (one_lock l x e)) ∙ free_unheld L l free in let one : flag (same_lock l x) ≡ 1 = ap flag e in omega arith
      | inr e ↦ let no : flag (same_lock l x) ≡ 0 = ap flag e in omega arith
    ]

released : (L : Locks) (l : LockRef) → Once L → Once (locks.release L l)
released L l q x = let old = q x in let less = filter_less (λ (h : Held). same_lock h.lock x) (λ h. not (same_lock h.lock l)) L.held in omega arith

-- ---- each deed

same_once : (K L : Locks) → L ≡ K → Once K → Once L
same_once K L e q = subst Once (sym e) q

pub deed_keeps : {A : Type 0} (plan : Plan) (d : Deed) (S : State A) → fits plan d S ≡ true → Once S.locks → Once (do_deed plan d S).locks
deed_keeps plan (TakeLock l f by_call) S free q = taken S.locks l f.0 by_call free q
deed_keeps plan (ReleaseLock l) S h q = released S.locks l q
deed_keeps plan d S h q = same_once _ _ (locks_stay plan d S refl) q

-- ---- each place of a run

pub once_at_each : {A : Type 0} (plan : Plan) (m : Meaning A) (run : List Event) → IsRunOf plan m run → (n : ℕ) → Once (state_after plan m (take n run)).locks
once_at_each {A} plan m run is_run n = each_place plan m (λ (S : State A). Once S.locks) (λ l. omega arith)
    (λ S e known may q. deeds_keep plan (λ (U : State A). Once U.locks) (deed_keeps plan) (deeds plan S e) S (event_fits plan m S e may) q)
    (λ S time q. q) run is_run n
