-- The queues of closed devices, which are Purged without a write.
use Rattle.std.proofs.Common.{if◌then◌else◌, ℕ, zero, suc, ◌≡◌, ◌<◌, ◌==◌, Bool, true, false, List, [], ◌∷◌, length, map, slice_set, refl, sym, ap, ◌∙◌, subst}
use Rattle.wdf_base.specs.declared.plan.Plan.{Plan}
use Rattle.wdf_model.specs.Tables.{entry, put}
use Rattle.wdf_model.specs.declared.entries.QueueControl.{QueueControl}
use Rattle.wdf_model.specs.declared.enums.Mode.TheVariants.{Purged}
use Rattle.wdf_model.specs.parts.Control.{Control, no_control, opening_control, shut, shut_control}
use Rattle.wdf_model.proofs.Maps.{entry_put, put_within}
use Rattle.wdf_qctl.specs.Kept.{seen}

abbrev purged : QueueControl → QueueControl
purged c = record c { mode = Purged }

abbrev pub held : List QueueControl → List Bool → Control
held kept closed = record { controls = map (seen closed) kept; closed = closed }

-- no device is closed at the opening
none_closed : (kept : List QueueControl) → map (seen []) kept ≡ kept
none_closed [] = refl
none_closed (c ∷ cs) = ap (λ ds. c ∷ ds) (none_closed cs)

pub opened : (kept : List QueueControl) (closed : List Bool) (plan : Plan) → kept ≡ (opening_control plan).controls → closed ≡ [] → held kept closed ≡ opening_control plan
opened kept closed plan k e =
    let C : List QueueControl → Control = λ cs. record { controls = cs; closed = [] } in
    ap (held kept) e ∙ ap C (none_closed kept ∙ k)

-- ---- a write

map_set : (f : QueueControl → QueueControl) (xs : List QueueControl) (q : ℕ) (c : QueueControl) → map f (slice_set xs q c) ≡ slice_set (map f xs) q (f c)
map_set f [] q c = refl
map_set f (x ∷ xs) zero c = refl
map_set f (x ∷ xs) (suc q) c = ap (λ ys. f x ∷ ys) (map_set f xs q c)

write_here : (kept : List QueueControl) (closed : List Bool) (q : ℕ) (c : QueueControl) → q < length (map (seen closed) kept) → seen closed c ≡ c
    → held (slice_set kept q c) closed ≡ record (held kept closed) { controls = put no_control (map (seen closed) kept) q c }
write_here kept closed q c l s =
    let C : List QueueControl → Control = λ cs. record { controls = cs; closed = closed } in
    ap C (map_set (seen closed) kept q c ∙ ap (slice_set (map (seen closed) kept) q) s ∙ sym (put_within no_control (map (seen closed) kept) q c l))

pub written : (kept : List QueueControl) (closed : List Bool) (q : ℕ) (c : QueueControl) (M : Control) → held kept closed ≡ M → q < length M.controls → seen M.closed c ≡ c
    → held (slice_set kept q c) closed ≡ record M { controls = put no_control M.controls q c }
written kept closed q c M is =
    subst (λ (N : Control). q < length N.controls → seen N.closed c ≡ c → held (slice_set kept q c) closed ≡ record N { controls = put no_control N.controls q c }) is (write_here kept closed q c)

-- ---- a device is closed

closed_by : (d : ℕ) (c : QueueControl) (own was : Bool) → (c.device.0 == d) ≡ own → (if (if own then true else was) then purged c else c) ≡ shut_control d (if was then purged c else c)
closed_by d c true true e = rw e refl
closed_by d c true false e = rw e refl
closed_by d c false true e = rw e refl
closed_by d c false false e = rw e refl

one_closed : (closed : List Bool) (d : ℕ) (c : QueueControl) → seen (put false closed d true) c ≡ shut_control d (seen closed c)
one_closed closed d c =
    ap (λ (b : Bool). if b then purged c else c) (entry_put false closed d c.device.0 true) ∙ closed_by d c (c.device.0 == d) (entry false closed c.device.0) refl

all_closed : (closed : List Bool) (d : ℕ) (kept : List QueueControl) → map (seen (put false closed d true)) kept ≡ map (shut_control d) (map (seen closed) kept)
all_closed closed d [] = refl
all_closed closed d (c ∷ cs) = rw (one_closed closed d c, all_closed closed d cs) refl

pub shut_is : (kept : List QueueControl) (closed after : List Bool) (d : ℕ) (M : Control) → held kept closed ≡ M → after ≡ put false closed d true → held kept after ≡ shut M d
shut_is kept closed after d M is e =
    let C : List QueueControl → Control = λ cs. record { controls = cs; closed = put false closed d true } in
    ap (held kept) e ∙ ap C (all_closed closed d kept) ∙ ap (λ (W : Control). shut W d) is
