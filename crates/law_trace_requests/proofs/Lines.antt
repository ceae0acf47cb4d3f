-- Lines of waiting requests: a line that loses some of its items keeps the order of the rest. Each deed shrinks the lines,
-- but for those that let a request enter.
use Rattle.std.proofs.Common.{if◌then◌else◌, ◌≡◌, ℕ, ◌+◌, ◌==◌, Bool, true, false, not, ◌&&◌, List, [], ◌∷◌, ◌++◌, inl, inr, Option, Some, None, count_by, drop, filter, fold, refl, sym, ap, subst, arith}
use Rattle.std.proofs.lemmas.Bool.{eqb-true, or_cases}
use Rattle.std.specs.List.{list_all}
use Rattle.wdf_base.specs.declared.plan.Plan.{Plan}
use Rattle.wdf_model.specs.declared.enums.Mode.TheVariants as mode
use Rattle.wdf_model.specs.Tables.{contains, first_of_list, flag, same_id, without}
use Rattle.wdf_model.specs.Plans.{queues_of}
use Rattle.wdf_model.specs.parts.Tree.{subtree}
use Rattle.wdf_model.specs.parts.Requests as requests
use Rattle.wdf_model.specs.parts.Queues.{Queues, waiting_in, with_waiting}
use Rattle.wdf_model.specs.parts.Queues as queues
use Rattle.wdf_model.specs.parts.Control as control
use Rattle.wdf_model.specs.parts.Power.{Power}
use Rattle.wdf_model.specs.State.{State, is_with_driver}
use Rattle.wdf_model.specs.declared.deed.Deed.{Deed}
use Rattle.wdf_model.specs.declared.deed.Deed.TheVariants.{Arrive, AskDeletion, CloseDevice, CloseReturning, CompleteRequest, Forward, GiveBack, Present, PurgeQueue, Requeue, SendRequest, Withdraw}
use Rattle.wdf_model.specs.rules.Deeds.{close_queue, close_returning, do_deed, do_deeds, give_up, give_up_if, release_line, withdraw}
use Rattle.wdf_model.specs.Plans.{managed_queues}
use Rattle.wdf_model.proofs.Tests.{both, both_left, both_right, first, itself, not_true, second}
use Rattle.wdf_model.proofs.Maps.{entry_map}
use Rattle.wdf_model.proofs.Counts.{count_cons, equal, one_or_two}
use Rattle.law_machine_lives.proofs.Stays.{asks_all}
use Rattle.law_machine_base.proofs.KeptMoves.{queue_elsewhere, queue_here}
use Rattle.law_trace_requests.proofs.Quiet.{is_loud, none_loud}

-- ---- lines

-- each item passes a test with each after it
abbrev pub in_line : (ℕ → ℕ → Bool) → List ℕ → Bool
in_line P [] = true
in_line P (x ∷ xs) = list_all (P x) xs && in_line P xs

-- a line in an order, each of whose items passes a test
pub record Line (P : ℕ → ℕ → Bool) (E : ℕ → Bool) (xs : List ℕ) : Type 0 where
  pub ordered : in_line P xs ≡ true
  pub each : list_all E xs ≡ true

-- whatever the order and the test are, the second line has them where the first does
abbrev pub Shrinks : List ℕ → List ℕ → Type 0
Shrinks xs ys = (P : ℕ → ℕ → Bool) (E : ℕ → Bool) → Line P E xs → Line P E ys

pub shrinks_same : (xs ys : List ℕ) → ys ≡ xs → Shrinks xs ys
shrinks_same xs ys e P E l = subst (Line P E) (sym e) l

shrinks_then : (xs ys zs : List ℕ) → Shrinks xs ys → Shrinks ys zs → Shrinks xs zs
shrinks_then xs ys zs h k P E l = k P E (h P E l)

shrinks_away : (xs : List ℕ) → Shrinks xs []
shrinks_away xs P E l = record { ordered = refl; each = refl }

shrinks_first : (xs : List ℕ) → Shrinks xs (drop 1 xs)
shrinks_first [] P E l = l
shrinks_first (x ∷ xs) P E l = record { ordered = both_right (list_all (P x) xs) (in_line P xs) l.ordered; each = both_right (E x) (list_all E xs) l.each }

some_pass_by : (E keep : ℕ → Bool) (x : ℕ) (xs : List ℕ) (b : Bool) → E x ≡ true → list_all E (filter keep xs) ≡ true → list_all E (if b then x ∷ filter keep xs else filter keep xs) ≡ true
some_pass_by E keep x xs true h k = both (E x) (list_all E (filter keep xs)) h k
some_pass_by E keep x xs false h k = k

some_pass : (E keep : ℕ → Bool) (xs : List ℕ) → list_all E xs ≡ true → list_all E (filter keep xs) ≡ true
some_pass E keep [] h = refl
some_pass E keep (x ∷ xs) h = some_pass_by E keep x xs (keep x) (both_left (E x) (list_all E xs) h) (some_pass E keep xs (both_right (E x) (list_all E xs) h))

some_in_line_by : (P : ℕ → ℕ → Bool) (keep : ℕ → Bool) (x : ℕ) (xs : List ℕ) (b : Bool) → list_all (P x) xs ≡ true → in_line P (filter keep xs) ≡ true → in_line P (if b then x ∷ filter keep xs else filter keep xs) ≡ true
some_in_line_by P keep x xs true h k = both (list_all (P x) (filter keep xs)) (in_line P (filter keep xs)) (some_pass (P x) keep xs h) k
some_in_line_by P keep x xs false h k = k

some_in_line : (P : ℕ → ℕ → Bool) (keep : ℕ → Bool) (xs : List ℕ) → in_line P xs ≡ true → in_line P (filter keep xs) ≡ true
some_in_line P keep [] h = refl
some_in_line P keep (x ∷ xs) h = some_in_line_by P keep x xs (keep x) (both_left (list_all (P x) xs) (in_line P xs) h) (some_in_line P keep xs (both_right (list_all (P x) xs) (in_line P xs) h))

shrinks_without : (r : ℕ) (xs : List ℕ) → Shrinks xs (without r xs)
shrinks_without r xs P E l = record { ordered = some_in_line P (λ y. not (y == r)) xs l.ordered; each = some_pass E (λ y. not (y == r)) xs l.each }

-- ---- the lines of all queues

abbrev pub LinesShrink : Queues → Queues → Type 0
LinesShrink Q U = (q : ℕ) → Shrinks (waiting_in Q q) (waiting_in U q)

lines_then : (Q U V : Queues) → LinesShrink Q U → LinesShrink U V → LinesShrink Q V
lines_then Q U V h k q = shrinks_then (waiting_in Q q) (waiting_in U q) (waiting_in V q) (h q) (k q)

pub lines_same : (Q U : Queues) → U ≡ Q → LinesShrink Q U
lines_same Q U e q = shrinks_same (waiting_in Q q) (waiting_in U q) (ap (λ (V : Queues). waiting_in V q) e)

one_line : (Q : Queues) (q : ℕ) (f : List ℕ → List ℕ) → Shrinks (waiting_in Q q) (f (waiting_in Q q)) → LinesShrink Q (with_waiting Q q f)
one_line Q q f h x = elim (one_or_two x q) [
  | inl e ↦
      subst (λ (y : ℕ). Shrinks (waiting_in Q y) (waiting_in (with_waiting Q q f) y)) (sym e)
      (shrinks_then (waiting_in Q q) (f (waiting_in Q q)) (waiting_in (with_waiting Q q f) q) h (shrinks_same (f (waiting_in Q q)) (waiting_in (with_waiting Q q f) q) (queue_here Q q f)))
  | inr n ↦ shrinks_same (waiting_in Q x) (waiting_in (with_waiting Q q f) x) (queue_elsewhere Q q x f n)
]

line_cancelled : (Q : Queues) (r : ℕ) → LinesShrink Q (queues.take_cancelled Q r)
line_cancelled Q r x =
    shrinks_then (waiting_in Q x) (without r (waiting_in Q x)) (waiting_in (queues.take_cancelled Q r) x) (shrinks_without r (waiting_in Q x))
    (shrinks_same (without r (waiting_in Q x)) (waiting_in (queues.take_cancelled Q r) x) (entry_map [] Q.waiting (without r) x refl))

released : (Q : Queues) (from : Option ℕ) (q : ℕ) → waiting_in (release_line Q from) q ≡ waiting_in Q q
released Q None q = refl
released Q (Some p) q = refl

given_by : {A : Type 0} (S : State A) (b : Bool) (from : Option ℕ) (power : Power) (q : ℕ) → waiting_in (if b then record S { queues = release_line S.queues from; power = power } else S).queues q ≡ waiting_in S.queues q
given_by S true from power q = released S.queues from q
given_by S false from power q = refl

-- what is given up waits nowhere
pub given_lines : {A : Type 0} (S : State A) (r q : ℕ) → waiting_in (give_up S r).queues q ≡ waiting_in S.queues q
given_lines S r q = given_by S (is_with_driver S r) _ _ q

given_lines_if : {A : Type 0} (S : State A) (forget : Bool) (r q : ℕ) → waiting_in (give_up_if forget S r).queues q ≡ waiting_in S.queues q
given_lines_if S true r q = given_lines S r q
given_lines_if S false r q = refl

-- ---- deeds

abbrev queues_in : {A : Type 0} → State A → Queues
queues_in S = S.queues

all_withdrawn : {A : Type 0} (plan : Plan) (q : ℕ) (rs : List ℕ) (S : State A) → LinesShrink S.queues (fold (withdraw plan q) S rs).queues
all_withdrawn plan q [] S = λ x P E l. l
all_withdrawn plan q (r ∷ rs) S = lines_then S.queues (withdraw plan q S r).queues (fold (withdraw plan q) (withdraw plan q S r) rs).queues (line_cancelled S.queues r) (all_withdrawn plan q rs (withdraw plan q S r))

all_returning : {A : Type 0} (qs : List ℕ) (S : State A) → (fold close_returning S qs).queues ≡ S.queues
all_returning [] S = refl
all_returning (q ∷ qs) S = all_returning qs (close_returning S q)

all_closed : {A : Type 0} (qs : List ℕ) (S : State A) → LinesShrink S.queues (fold close_queue S qs).queues
all_closed [] S = λ x P E l. l
all_closed (q ∷ qs) S = lines_then S.queues (close_queue S q).queues (fold close_queue (close_queue S q) qs).queues (one_line S.queues q (λ _. []) (shrinks_away (waiting_in S.queues q))) (all_closed qs (close_queue S q))

-- a deed by which a request enters a queue
abbrev pub is_entry : Deed → Bool
is_entry (Arrive device info p) = true
is_entry (Requeue r q) = true
is_entry (Forward r q) = true
is_entry _ = false

pub deed_shrinks : {A : Type 0} (plan : Plan) (d : Deed) (S : State A) → is_entry d ≡ false → LinesShrink S.queues (do_deed plan d S).queues
deed_shrinks plan (Arrive device info p) S h = absurd (let z : ⊥ = cc in z)
deed_shrinks plan (Requeue r q) S h = absurd (let z : ⊥ = cc in z)
deed_shrinks plan (Forward r q) S h = absurd (let z : ⊥ = cc in z)
deed_shrinks plan (AskDeletion o) S h = lines_same S.queues (do_deed plan (AskDeletion o) S).queues (asks_all queues_in (λ S T D W U. refl) (subtree S.tree o.0) S)
deed_shrinks plan (Present q r) S h = one_line S.queues q.0 (drop 1) (shrinks_first (waiting_in S.queues q.0))
deed_shrinks plan (GiveBack r q) S h = λ x. shrinks_same (waiting_in S.queues x) (waiting_in (give_up S r.0).queues x) (given_lines S r.0 x)
deed_shrinks plan (Withdraw q r) S h = line_cancelled S.queues r.0
deed_shrinks plan (SendRequest r t forget) S h = λ x. shrinks_same (waiting_in S.queues x) (waiting_in (give_up_if forget S r.0).queues x) (given_lines_if S forget r.0 x)
deed_shrinks plan (CompleteRequest r) S h =
    lines_then S.queues (give_up S r.0).queues (do_deed plan (CompleteRequest r) S).queues (λ x. shrinks_same (waiting_in S.queues x) (waiting_in (give_up S r.0).queues x) (given_lines S r.0 x))
    (lines_same (give_up S r.0).queues (do_deed plan (CompleteRequest r) S).queues (asks_all queues_in (λ S T D W U. refl) (subtree (give_up S r.0).tree r.0) (record (give_up S r.0) { requests = requests.complete S.requests r.0 })))
deed_shrinks plan (PurgeQueue q) S h = all_withdrawn plan q.0 (waiting_in S.queues q.0) (record S { control = control.set_mode S.control q.0 mode.Purged })
deed_shrinks plan (CloseReturning d) S h = lines_same S.queues (do_deed plan (CloseReturning d) S).queues (all_returning (managed_queues plan d.0) S)
deed_shrinks plan (CloseDevice d) S h = all_closed (queues_of plan d.0) (record S { control = control.shut S.control d.0 })
deed_shrinks plan _ S h = λ x P E l. l

loud_entry : (d : Deed) → is_loud d ≡ false → is_entry d ≡ false
loud_entry (Arrive device info p) h = absurd (let z : ⊥ = cc in z)
loud_entry (Requeue r q) h = absurd (let z : ⊥ = cc in z)
loud_entry (Forward r q) h = absurd (let z : ⊥ = cc in z)
loud_entry _ h = refl

pub deeds_shrink : {A : Type 0} (plan : Plan) (ds : List Deed) (S : State A) → none_loud ds ≡ true → LinesShrink S.queues (do_deeds plan ds S).queues
deeds_shrink plan [] S h = λ x P E l. l
deeds_shrink plan (d ∷ ds) S h =
    lines_then S.queues (do_deed plan d S).queues (do_deeds plan ds (do_deed plan d S)).queues
    (deed_shrinks plan d S (loud_entry d (not_true (is_loud d) (both_left (not (is_loud d)) (none_loud ds) h))))
    (deeds_shrink plan ds (do_deed plan d S) (both_right (not (is_loud d)) (none_loud ds) h))

-- ---- tests of lines

pub all_such : (E : ℕ → Bool) (xs : List ℕ) → ((x : ℕ) → E x ≡ true) → list_all E xs ≡ true
all_such E [] h = refl
all_such E (x ∷ xs) h = both (E x) (list_all E xs) (h x) (all_such E xs h)

pub all_more : (N P E : ℕ → Bool) (xs : List ℕ) → ((y : ℕ) → N y ≡ true → P y ≡ true → E y ≡ true) → list_all N xs ≡ true → list_all P xs ≡ true → list_all E xs ≡ true
all_more N P E [] h n p = refl
all_more N P E (x ∷ xs) h n p =
    both (E x) (list_all E xs) (h x (both_left (N x) (list_all N xs) n) (both_left (P x) (list_all P xs) p))
    (all_more N P E xs h (both_right (N x) (list_all N xs) n) (both_right (P x) (list_all P xs) p))

fresh_one : (T : ℕ → Bool) (r x : ℕ) (b : Bool) → T x ≡ b → (T x ≡ true → x ≡ r) → flag (x == r) ≡ 0 → not b ≡ true
fresh_one T r x false e h n = refl
fresh_one T r x true e h n = absurd (let y : (x == r) ≡ true = equal x r (h e) in let f : flag (x == r) ≡ 1 = ap flag y in omega arith)

-- a test that one item alone passes, which isn't in the line
pub fresh_of : (T : ℕ → Bool) (r : ℕ) (xs : List ℕ) → ((x : ℕ) → T x ≡ true → x ≡ r) → count_by (λ x. x == r) xs ≡ 0 → list_all (λ x. not (T x)) xs ≡ true
fresh_of T r [] h c = refl
fresh_of T r (x ∷ xs) h c =
    let e : count_by (λ y. y == r) (x ∷ xs) ≡ flag (x == r) + count_by (λ y. y == r) xs = count_cons (λ y. y == r) x xs in
    both (not (T x)) (list_all (λ y. not (T y)) xs) (fresh_one T r x (T x) refl (h x) (omega arith)) (fresh_of T r xs h (omega arith))

pub found_passes : (T : ℕ → Bool) (r : ℕ) (xs : List ℕ) → contains r xs ≡ true → list_all T xs ≡ true → T r ≡ true
found_passes T r [] h a = absurd (let z : ⊥ = cc in z)
found_passes T r (x ∷ xs) h a = elim (or_cases (x == r) (contains r xs) h) [
  | inl e ↦ subst (λ y. T y ≡ true) (eqb-true x r e) (both_left (T x) (list_all T xs) a)
  | inr e ↦ found_passes T r xs e (both_right (T x) (list_all T xs) a)
]

pub first_passes : (T : ℕ → Bool) (r : ℕ) (xs : List ℕ) → same_id (first_of_list xs) r ≡ true → list_all T xs ≡ true → T r ≡ true
first_passes T r [] h a = absurd (let z : ⊥ = cc in z)
first_passes T r (x ∷ xs) h a = subst (λ y. T y ≡ true) (eqb-true x r h) (both_left (T x) (list_all T xs) a)

pub first_before : (P : ℕ → ℕ → Bool) (r : ℕ) (xs : List ℕ) → same_id (first_of_list xs) r ≡ true → in_line P xs ≡ true → list_all (P r) (drop 1 xs) ≡ true
first_before P r [] h a = refl
first_before P r (x ∷ xs) h a = subst (λ y. list_all (P y) xs ≡ true) (eqb-true x r h) (both_left (list_all (P x) xs) (in_line P xs) a)

pub each_in : (xs : List ℕ) → list_all (λ y. contains y xs) xs ≡ true
each_in [] = refl
each_in (x ∷ xs) = both (contains x (x ∷ xs)) (list_all (λ y. contains y (x ∷ xs)) xs) (first (x == x) (contains x xs) (itself x))
    (all_more (λ y. true) (λ y. contains y xs) (λ y. contains y (x ∷ xs)) xs (λ y n p. second (x == y) (contains y xs) p) (all_such (λ y. true) xs (λ y. refl)) (each_in xs))

pub line_more : (N : ℕ → Bool) (P O : ℕ → ℕ → Bool) (E F : ℕ → Bool) (xs : List ℕ) → ((x y : ℕ) → N x ≡ true → N y ≡ true → P x y ≡ true → O x y ≡ true) → ((x : ℕ) → E x ≡ true → F x ≡ true)
    → list_all N xs ≡ true → Line P E xs → Line O F xs
line_more N P O E F [] h k n l = record { ordered = refl; each = refl }
line_more N P O E F (x ∷ xs) h k n l =
    let here : N x ≡ true = both_left (N x) (list_all N xs) n in
    let others : list_all N xs ≡ true = both_right (N x) (list_all N xs) n in
    let rest : Line O F xs = line_more N P O E F xs h k others (record { ordered = both_right (list_all (P x) xs) (in_line P xs) l.ordered; each = both_right (E x) (list_all E xs) l.each }) in
    record {
      ordered = both (list_all (O x) xs) (in_line O xs) (all_more N (P x) (O x) xs (λ y m p. h x y here m p) others (both_left (list_all (P x) xs) (in_line P xs) l.ordered)) rest.ordered;
      each = both (F x) (list_all F xs) (k x (both_left (E x) (list_all E xs) l.each)) rest.each;
    }

pub all_at_tail : (E : ℕ → Bool) (r : ℕ) (xs : List ℕ) → list_all E xs ≡ true → E r ≡ true → list_all E (xs ++ r ∷ []) ≡ true
all_at_tail E r [] h e = both (E r) true e refl
all_at_tail E r (x ∷ xs) h e = both (E x) (list_all E (xs ++ r ∷ [])) (both_left (E x) (list_all E xs) h) (all_at_tail E r xs (both_right (E x) (list_all E xs) h) e)

pub line_at_tail : (P : ℕ → ℕ → Bool) (r : ℕ) (xs : List ℕ) → in_line P xs ≡ true → list_all (λ x. P x r) xs ≡ true → in_line P (xs ++ r ∷ []) ≡ true
line_at_tail P r [] h k = refl
line_at_tail P r (x ∷ xs) h k =
    both (list_all (P x) (xs ++ r ∷ [])) (in_line P (xs ++ r ∷ []))
    (all_at_tail (P x) r xs (both_left (list_all (P x) xs) (in_line P xs) h) (both_left (P x r) (list_all (λ y. P y r) xs) k))
    (line_at_tail P r xs (both_right (list_all (P x) xs) (in_line P xs) h) (both_right (P x r) (list_all (λ y. P y r) xs) k))
