-- At each place of every run, each line of waiting requests is in the order that the events say. First come those that
-- entered at the head, the last of them first. Then come those that entered at the tail, the first of them first.
use Rattle.std.proofs.Common.{if◌then◌else◌, ◌≡◌, ℕ, zero, suc, Bool, true, false, not, ◌&&◌, ◌||◌, List, [], ◌∷◌, ◌++◌, inl, inr, Some, None, map, slice_get, take, refl, sym, ap, subst, ◌∙◌}
use Rattle.std.specs.List.{list_all}
use Rattle.wdf_base.specs.Meaning.{Meaning}
use Rattle.wdf_base.specs.declared.plan.Plan.{Plan}
use Rattle.wdf_base.specs.declared.event.Event.{Event}
use Rattle.wdf_model.specs.Tables.{entry}
use Rattle.wdf_model.specs.Plans.{declared_ids}
use Rattle.wdf_model.specs.parts.Queues.{Queues, waiting_in}
use Rattle.wdf_model.specs.State.{State}
use Rattle.wdf_model.specs.rules.Ready.{IsRunOf, ready, state_after}
use Rattle.wdf_model.proofs.Tests.{both, first, itself, not_true, second}
use Rattle.wdf_model.proofs.Runs.{along_run}
use Rattle.law_machine_base.proofs.Follows.{follows, state_goes_on}
use Rattle.law_machine_base.proofs.LawsOverRuns.{history_now}
use Rattle.wdf_laws.specs.declared.sign.Sign.{Sign}
use Rattle.wdf_laws.specs.declared.sign.Sign.TheVariants as sign
use Rattle.wdf_laws.specs.Events.{headed, is_id, tailed}
use Rattle.wdf_laws.specs.Signs.{shows}
use Rattle.wdf_laws.specs.Words.{ever, followed, stands}
use Rattle.wdf_laws.specs.Laws.{came_at_head, is_in_order}
use Rattle.law_trace_requests.proofs.Happened.{ever_next}
use Rattle.law_trace_requests.proofs.Cancels.{stands_next}
use Rattle.law_trace_requests.proofs.Lines.{Line, all_at_tail, all_more, all_such, in_line, line_at_tail, line_more}
use Rattle.law_trace_requests.proofs.Standing.{stands_no_more, stays_standing}
use Rattle.law_trace_requests.proofs.Entries.{LineStep, LineSteps, either_steps}

-- ---- words of requests that an event doesn't give

abbrev pub entered : List Event → ℕ → Bool
entered es x = ever (sign.Entry x) es

abbrev is_new : Event → ℕ → Bool
is_new e x = not (shows (sign.Entry x) e)

not_either : (a b : Bool) → not (a || b) ≡ true → a ≡ false
not_either true b h = absurd (let z : ⊥ = cc in z)
not_either false b h = refl

untold : (e : Event) (x : ℕ) → is_new e x ≡ true → (shows (sign.Entry x) e ≡ false) × (shows (sign.AtHead x) e ≡ false)
untold e x h = (not_true (shows (sign.Entry x) e) h, not_either (is_id x (headed e)) (is_id x (tailed e)) h)

or_nothing : (a b : Bool) → b ≡ false → (a || b) ≡ a
or_nothing true b h = refl
or_nothing false b h = h

same_ever : (p : Sign) (es : List Event) (e : Event) → shows p e ≡ false → ever p (es ++ e ∷ []) ≡ ever p es
same_ever p es e h = ever_next p es e ∙ or_nothing (ever p es) (shows p e) h

same_stands : (p q : Sign) (es : List Event) (e : Event) → shows p e ≡ false → shows q e ≡ false → stands p q (es ++ e ∷ []) ≡ stands p q es
same_stands p q es e h k = stands_next p q es e ∙ stays_standing (shows p e) (shows q e) (stands p q es) h k

same_followed : (p q : Sign) (es : List Event) (e : Event) → shows p e ≡ false → shows q e ≡ false → followed p q (es ++ e ∷ []) ≡ followed p q es
same_followed p q es e h k = rw (same_ever p es e h, same_stands p q es e h k) refl

-- the order, by who came at the head and who was followed
abbrev order_by : Bool → Bool → Bool → Bool → Bool
order_by a b c d = if a then not b || c else not b && d

-- the order of two requests that an event doesn't give is as before
same_order : (es : List Event) (e : Event) (x y : ℕ) → is_new e x ≡ true → is_new e y ≡ true → is_in_order (es ++ e ∷ []) x y ≡ is_in_order es x y
same_order es e x y n m =
    let u : (shows (sign.Entry x) e ≡ false) × (shows (sign.AtHead x) e ≡ false) = untold e x n in
    let v : (shows (sign.Entry y) e ≡ false) × (shows (sign.AtHead y) e ≡ false) = untold e y m in
    let a : came_at_head (es ++ e ∷ []) x ≡ came_at_head es x = same_stands (sign.AtHead x) (sign.Entry x) es e u.1 u.0 in
    let b : came_at_head (es ++ e ∷ []) y ≡ came_at_head es y = same_stands (sign.AtHead y) (sign.Entry y) es e v.1 v.0 in
    let c : followed (sign.Entry y) (sign.Entry x) (es ++ e ∷ []) ≡ followed (sign.Entry y) (sign.Entry x) es = same_followed (sign.Entry y) (sign.Entry x) es e v.0 u.0 in
    let d : followed (sign.Entry x) (sign.Entry y) (es ++ e ∷ []) ≡ followed (sign.Entry x) (sign.Entry y) es = same_followed (sign.Entry x) (sign.Entry y) es e u.0 v.0 in
    ap (λ t. order_by t (came_at_head (es ++ e ∷ []) y) (followed (sign.Entry y) (sign.Entry x) (es ++ e ∷ [])) (followed (sign.Entry x) (sign.Entry y) (es ++ e ∷ []))) a
    ∙ ap (λ t. order_by (came_at_head es x) t (followed (sign.Entry y) (sign.Entry x) (es ++ e ∷ [])) (followed (sign.Entry x) (sign.Entry y) (es ++ e ∷ []))) b
    ∙ ap (λ t. order_by (came_at_head es x) (came_at_head es y) t (followed (sign.Entry x) (sign.Entry y) (es ++ e ∷ []))) c
    ∙ ap (order_by (came_at_head es x) (came_at_head es y) (followed (sign.Entry y) (sign.Entry x) es)) d

still_entered : (es : List Event) (e : Event) (x : ℕ) → entered es x ≡ true → entered (es ++ e ∷ []) x ≡ true
still_entered es e x h = ever_next (sign.Entry x) es e ∙ first (entered es x) (shows (sign.Entry x) e) h

now_entered : (es : List Event) (e : Event) (x : ℕ) → shows (sign.Entry x) e ≡ true → entered (es ++ e ∷ []) x ≡ true
now_entered es e x h = ever_next (sign.Entry x) es e ∙ second (entered es x) (shows (sign.Entry x) e) h

-- ---- a request that enters

-- who entered before is followed by who enters now
follows_it : (es : List Event) (e : Event) (x r : ℕ) → is_new e x ≡ true → entered es x ≡ true → shows (sign.Entry r) e ≡ true → followed (sign.Entry x) (sign.Entry r) (es ++ e ∷ []) ≡ true
follows_it es e x r n was now_ =
    let gone : stands (sign.Entry x) (sign.Entry r) (es ++ e ∷ []) ≡ false = stands_next (sign.Entry x) (sign.Entry r) es e ∙ stands_no_more (shows (sign.Entry x) e) (shows (sign.Entry r) e) (stands (sign.Entry x) (sign.Entry r) es) (untold e x n).0 now_ in
    both (ever (sign.Entry x) (es ++ e ∷ [])) (not (stands (sign.Entry x) (sign.Entry r) (es ++ e ∷ []))) (still_entered es e x was) (ap not gone)

at_its_head : (e : Event) (r : ℕ) → headed e ≡ Some r → (shows (sign.AtHead r) e ≡ true) × (shows (sign.Entry r) e ≡ true)
at_its_head e r h = let there : is_id r (headed e) ≡ true = ap (is_id r) h ∙ itself r in (there, first (is_id r (headed e)) (is_id r (tailed e)) there)

before_all : (es : List Event) (e : Event) (r y : ℕ) → headed e ≡ Some r → is_new e y ≡ true → entered es y ≡ true → is_in_order (es ++ e ∷ []) r y ≡ true
before_all es e r y h n was =
    let it = at_its_head e r h in
    let head_ : came_at_head (es ++ e ∷ []) r ≡ true = stands_next (sign.AtHead r) (sign.Entry r) es e ∙ first (shows (sign.AtHead r) e) (stands (sign.AtHead r) (sign.Entry r) es && not (shows (sign.Entry r) e)) it.0 in
    let after_ : followed (sign.Entry y) (sign.Entry r) (es ++ e ∷ []) ≡ true = follows_it es e y r n was it.1 in
    in_front (came_at_head (es ++ e ∷ []) r) (came_at_head (es ++ e ∷ []) y) (followed (sign.Entry y) (sign.Entry r) (es ++ e ∷ [])) (followed (sign.Entry r) (sign.Entry y) (es ++ e ∷ [])) head_ after_
  where
    in_front : (a b c d : Bool) → a ≡ true → c ≡ true → order_by a b c d ≡ true
    in_front true b c d h k = second (not b) c k
    in_front false b c d h k = absurd (let z : ⊥ = cc in z)

at_its_tail : (e : Event) (r : ℕ) → headed e ≡ None → tailed e ≡ Some r → (shows (sign.AtHead r) e ≡ false) × (shows (sign.Entry r) e ≡ true)
at_its_tail e r h t = (ap (is_id r) h, second (is_id r (headed e)) (is_id r (tailed e)) (ap (is_id r) t ∙ itself r))

after_all : (es : List Event) (e : Event) (r x : ℕ) → headed e ≡ None → tailed e ≡ Some r → is_new e x ≡ true → entered es x ≡ true → is_in_order (es ++ e ∷ []) x r ≡ true
after_all es e r x h t n was =
    let it = at_its_tail e r h t in
    let tail_ : came_at_head (es ++ e ∷ []) r ≡ false = stands_next (sign.AtHead r) (sign.Entry r) es e ∙ stands_no_more (shows (sign.AtHead r) e) (shows (sign.Entry r) e) (stands (sign.AtHead r) (sign.Entry r) es) it.0 it.1 in
    let after_ : followed (sign.Entry x) (sign.Entry r) (es ++ e ∷ []) ≡ true = follows_it es e x r n was it.1 in
    in_place (came_at_head (es ++ e ∷ []) x) (came_at_head (es ++ e ∷ []) r) (followed (sign.Entry r) (sign.Entry x) (es ++ e ∷ [])) (followed (sign.Entry x) (sign.Entry r) (es ++ e ∷ [])) tail_ after_
  where
    in_place : (a b c d : Bool) → b ≡ false → d ≡ true → order_by a b c d ≡ true
    in_place a true c d h k = absurd (let z : ⊥ = cc in z)
    in_place true false c d h k = refl
    in_place false false c d h k = k

-- ---- one event more

abbrev pub InOrder : List Event → List ℕ → Type 0
InOrder es xs = Line (is_in_order es) (entered es) xs

same_line : (es : List Event) (e : Event) (xs : List ℕ) → list_all (is_new e) xs ≡ true → InOrder es xs → InOrder (es ++ e ∷ []) xs
same_line es e xs n l =
    line_more (is_new e) (is_in_order es) (is_in_order (es ++ e ∷ [])) (entered es) (entered (es ++ e ∷ [])) xs (λ x y a b h. same_order es e x y a b ∙ h) (still_entered es e) n l

next_line : (es : List Event) (e : Event) (xs ys : List ℕ) → list_all (is_new e) xs ≡ true → LineStep e xs ys → InOrder es xs → InOrder (es ++ e ∷ []) ys
next_line es e xs ys n (inl shrunk) l = shrunk (is_in_order (es ++ e ∷ [])) (entered (es ++ e ∷ [])) (same_line es e xs n l)
next_line es e xs ys n (inr (inl (r, h, is))) l =
    let rest : InOrder (es ++ e ∷ []) xs = same_line es e xs n l in
    subst (InOrder (es ++ e ∷ [])) (sym is)
    (record {
      ordered = both (list_all (is_in_order (es ++ e ∷ []) r) xs) (in_line (is_in_order (es ++ e ∷ [])) xs)
          (all_more (is_new e) (entered es) (is_in_order (es ++ e ∷ []) r) xs (λ y a b. before_all es e r y h a b) n l.each) rest.ordered;
      each = both (entered (es ++ e ∷ []) r) (list_all (entered (es ++ e ∷ [])) xs) (now_entered es e r (at_its_head e r h).1) rest.each;
    })
next_line es e xs ys n (inr (inr (r, t, h, is))) l =
    let rest : InOrder (es ++ e ∷ []) xs = same_line es e xs n l in
    subst (InOrder (es ++ e ∷ [])) (sym is)
    (record {
      ordered = line_at_tail (is_in_order (es ++ e ∷ [])) r xs rest.ordered (all_more (is_new e) (entered es) (λ x. is_in_order (es ++ e ∷ []) x r) xs (λ x a b. after_all es e r x h t a b) n l.each);
      each = all_at_tail (entered (es ++ e ∷ [])) r xs rest.each (now_entered es e r (at_its_tail e r h t).1);
    })

never_out : (xs : List ℕ) → in_line (λ x y. true) xs ≡ true
never_out [] = refl
never_out (x ∷ xs) = both (list_all (λ y. true) xs) (in_line (λ x y. true) xs) (all_such (λ y. true) xs (λ y. refl)) (never_out xs)

-- who passes a test, or enters now
pub next_each : (T : ℕ → Bool) (e : Event) (xs ys : List ℕ) → LineStep e xs ys → list_all T xs ≡ true → list_all (λ x. T x || shows (sign.Entry x) e) ys ≡ true
next_each T e xs ys s h = next_by s
  where
    wider : list_all (λ x. T x || shows (sign.Entry x) e) xs ≡ true
    wider = all_more T T (λ x. T x || shows (sign.Entry x) e) xs (λ x a b. first (T x) (shows (sign.Entry x) e) a) h h

    next_by : LineStep e xs ys → list_all (λ x. T x || shows (sign.Entry x) e) ys ≡ true
    next_by (inl shrunk) = (shrunk (λ x y. true) (λ x. T x || shows (sign.Entry x) e) (record { ordered = never_out xs; each = wider })).each
    next_by (inr (inl (r, at, is))) = subst (λ zs. list_all (λ x. T x || shows (sign.Entry x) e) zs ≡ true) (sym is)
        (both (T r || shows (sign.Entry r) e) (list_all (λ x. T x || shows (sign.Entry x) e) xs) (second (T r) (shows (sign.Entry r) e) (at_its_head e r at).1) wider)
    next_by (inr (inr (r, at, none, is))) = subst (λ zs. list_all (λ x. T x || shows (sign.Entry x) e) zs ≡ true) (sym is)
        (all_at_tail (λ x. T x || shows (sign.Entry x) e) r xs wider (second (T r) (shows (sign.Entry r) e) (at_its_tail e r none at).1))

-- ---- each place of a run

abbrev pub AllInOrder : List Event → Queues → Type 0
AllInOrder es Q = (q : ℕ) → InOrder es (waiting_in Q q)

empty_lines : (ids : List ℕ) (q : ℕ) → entry {T = List ℕ} [] (map (λ _. []) ids) q ≡ []
empty_lines [] q = refl
empty_lines (x ∷ ids) zero = refl
empty_lines (x ∷ ids) (suc q) = empty_lines ids q

in_order_opens : {A : Type 0} (plan : Plan) (m : Meaning A) → AllInOrder [] (state_after plan m []).queues
unfolding state_after
in_order_opens plan m q = subst (InOrder []) (sym (empty_lines (declared_ids plan) q)) (record { ordered = refl; each = refl })

pub steps_now : {A : Type 0} (plan : Plan) (m : Meaning A) (before : List Event) (e : Event) (place : ℕ) → IsRunOf plan m before → slice_get (ready plan m before) place ≡ Some e
    → LineSteps e (state_after plan m before).queues (state_after plan m (before ++ e ∷ [])).queues
steps_now {A} plan m before e place is_run at =
    subst (λ (T : State A). LineSteps e (state_after plan m before).queues T.queues) (sym (state_goes_on plan m before e))
    (either_steps plan m (state_after plan m before) (history_now plan m before is_run).kept (ready plan m before) e (follows plan m before place e at))

pub in_order_at_each : {A : Type 0} (plan : Plan) (m : Meaning A) (run : List Event) → IsRunOf plan m run → (n : ℕ) → AllInOrder (take n run) (state_after plan m (take n run)).queues
in_order_at_each plan m run is_run n = along_run (λ es. AllInOrder es (state_after plan m es).queues) (ready plan m) run (in_order_opens plan m)
    (λ before e place so_far held at q.
    let s = steps_now plan m before e place so_far at in
    next_line before e (waiting_in (state_after plan m before).queues q) (waiting_in (state_after plan m (before ++ e ∷ [])).queues q) (s.fresh q) (s.step q) (held q))
    is_run n
