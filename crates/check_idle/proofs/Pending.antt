-- The requests that are kept as pending are those that the words of the law say.
use Rattle.std.proofs.Common.{◌≡◌, ℕ, suc, ◌==◌, Bool, true, false, not, ◌&&◌, ◌||◌, List, [], ◌∷◌, ◌++◌, length, filter, Option, Some, None, refl, sym, ap, ◌∙◌, arith}
use Rattle.std.specs.List.{filter_map, list_all}
use Rattle.std.proofs.lemmas.Bool.Decides.{nat_tests}
use Rattle.std.proofs.lemmas.List.Elements.{filter-append, filter_map-append}
use Rattle.wdf_base.specs.declared.event.Event.{Event}
use Rattle.wdf_laws.specs.declared.sign.Sign.TheVariants as sign
use Rattle.wdf_laws.specs.Events.{arrived, arrived_at, completed, is_id}
use Rattle.wdf_laws.specs.Laws.{is_settled}
use Rattle.wdf_laws.specs.Words.{ever}
use Rattle.law_idle.specs.Idling.{has_pending}
use Rattle.check_past.proofs.Words.{ever_next}
use Rattle.check_idle.specs.Watched.{arrival_for, is_open, pending_of, with_arrival, without_completed}
use Rattle.check_idle.proofs.Lists.{append_none, kept_alike, kept_twice}

-- ---- none is pending where each arrival is settled

some_there : (n : ℕ) → (suc n == 0) ≡ false
some_there n = grind (arith, nat_tests)

-- the requests that arrived for d by es and aren't completed by B
abbrev left_open : List Event → ℕ → List Event → List ℕ
left_open B d es = filter (is_open B) (filter_map (arrival_for d) es)

module _ (B : List Event) (d : ℕ) (e : Event) (es : List Event) (rest : list_all (is_settled B d) es ≡ (length (left_open B d es) == 0)) where
  brought : (r : ℕ) (c : Bool) → is_id d (arrived_at e) ≡ true → arrived e ≡ Some r → ever (sign.Completion r) B ≡ c → list_all (is_settled B d) (e ∷ es) ≡ (length (left_open B d (e ∷ es)) == 0)
  brought r true h k l = rw (h, k, l) rest
  brought r false h k l = rw (h, k, l) (sym (some_there (length (left_open B d es))))

  one : (b : Bool) (o : Option ℕ) → is_id d (arrived_at e) ≡ b → arrived e ≡ o → list_all (is_settled B d) (e ∷ es) ≡ (length (left_open B d (e ∷ es)) == 0)
  one false o h k = rw h rest
  one true None h k = rw (h, k) rest
  one true (Some r) h k = brought r (ever (sign.Completion r) B) h k refl

settled_as : (B : List Event) (d : ℕ) (es : List Event) → list_all (is_settled B d) es ≡ (length (left_open B d es) == 0)
settled_as B d [] = refl
settled_as B d (e ∷ es) = one B d e es (settled_as B d es) (is_id d (arrived_at e)) (arrived e) refl refl

pub used_as : (d : ℕ) (es : List Event) → not (length (pending_of d es) == 0) ≡ has_pending d es
used_as d es = ap not (sym (settled_as es d es))

-- ---- after one event more

flipped : (a b : ℕ) → (a == b) ≡ (b == a)
flipped a b = grind (arith, nat_tests)

or_no : (a : Bool) → (a || false) ≡ a
or_no true = refl
or_no false = refl

nor : (a b : Bool) → not (a || b) ≡ (not a && not b)
nor true b = refl
nor false b = refl

completed_by : (es : List Event) (e : Event) (o : Option ℕ) → completed e ≡ o → (xs : List ℕ) → filter (is_open (es ++ e ∷ [])) xs ≡ without_completed o (filter (is_open es) xs)
completed_by es e None h xs = kept_alike (is_open (es ++ e ∷ [])) (is_open es) (λ r. sym (ap not (ever_next (sign.Completion r) es e ∙ ap (λ o. ever (sign.Completion r) es || is_id r o) h ∙ or_no (ever (sign.Completion r) es)))) xs
completed_by es e (Some c) h xs =
    kept_twice (is_open es) (λ r. not (r == c)) (is_open (es ++ e ∷ []))
    (λ r. ap not (ever_next (sign.Completion r) es e ∙ ap (λ o. ever (sign.Completion r) es || is_id r o) h) ∙ nor (ever (sign.Completion r) es) (c == r) ∙ ap (λ b. is_open es r && not b) (flipped c r)) xs

kept_if : (es : List Event) (r : ℕ) (rs : List ℕ) (c : Bool) → ever (sign.Completion r) es ≡ c → rs ++ filter (is_open es) (r ∷ []) ≡ with_arrival es (Some r) rs
kept_if es r rs true h = rw h (append_none rs)
kept_if es r rs false h = rw h refl

arrived_by : (es : List Event) (d : ℕ) (e : Event) (o : Option ℕ) (rs : List ℕ) → arrival_for d e ≡ o → rs ++ filter (is_open es) (filter_map (arrival_for d) (e ∷ [])) ≡ with_arrival es o rs
arrived_by es d e None rs h = rw h (append_none rs)
arrived_by es d e (Some r) rs h = rw h (kept_if es r rs (ever (sign.Completion r) es) refl)

pub pending_more : (d : ℕ) (es : List Event) (e : Event) → without_completed (completed e) (with_arrival es (arrival_for d e) (pending_of d es)) ≡ pending_of d (es ++ e ∷ [])
pending_more d es e =
    ap (without_completed (completed e)) (sym (arrived_by es d e (arrival_for d e) (pending_of d es) refl) ∙ sym (filter-append (is_open es) (filter_map (arrival_for d) es) (filter_map (arrival_for d) (e ∷ []))))
    ∙ sym (completed_by es e (completed e) refl (filter_map (arrival_for d) es ++ filter_map (arrival_for d) (e ∷ [])))
    ∙ ap (filter (is_open (es ++ e ∷ []))) (sym (filter_map-append (arrival_for d) es (e ∷ [])))
