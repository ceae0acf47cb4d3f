-- The words over the first k events, by when the signs came last.
use Rattle.std.proofs.Common.{◌≡◌, ℕ, zero, suc, ◌+◌, ◌≤◌, Bool, true, false, not, ◌&&◌, ◌||◌, if◌then◌else◌, nat_lt, nat_le, List, [], ◌∷◌, ◌++◌, take, slice_get, fold, Option, Some, None, refl, sym, ap, ◌∙◌, arith}
use Rattle.std.proofs.lemmas.Bool.Decides.{nat_tests}
use Rattle.std.proofs.lemmas.Grind.{common_steps, fold-append}
use Rattle.wdf_base.specs.declared.event.Event.{Event}
use Rattle.wdf_laws.specs.declared.sign.Sign.{Sign}
use Rattle.wdf_laws.specs.declared.sign.Moment.{Moment}
use Rattle.wdf_laws.specs.Signs.{shows}
use Rattle.wdf_laws.specs.Words.{came_step, ever, times, stands_step, stands, moment_step, stood_at}
use Rattle.wdf_model.proofs.Runs.{take_next, take_ended}
use Rattle.check_past.specs.Last.{shows_in, last, stood}

-- one step, where there is an event
abbrev pub step_in : {B : Type 0} → (B → Event → B) → B → Option Event → B
step_in step b None = b
step_in step b (Some e) = step b e

next_by : {B : Type 0} (f : List Event → B) (step : B → Event → B) → ((es : List Event) (e : Event) → f (es ++ e ∷ []) ≡ step (f es) e)
    → (all : List Event) (k : ℕ) (o : Option Event) → slice_get all k ≡ o → f (take (suc k) all) ≡ step_in step (f (take k all)) o
next_by f step grows all k None h = ap f (take_ended all k h)
next_by f step grows all k (Some e) h = ap f (take_next all k e h) ∙ grows (take k all) e

-- a word over one event more
pub at_next : {B : Type 0} (f : List Event → B) (step : B → Event → B) → ((es : List Event) (e : Event) → f (es ++ e ∷ []) ≡ step (f es) e)
    → (all : List Event) (k : ℕ) → f (take (suc k) all) ≡ step_in step (f (take k all)) (slice_get all k)
at_next f step grows all k = next_by f step grows all k (slice_get all k) refl

within_case : (b : Bool) (k l : ℕ) → l ≤ k → (if b then suc k else l) ≤ suc k
within_case true k l h = omega arith
within_case false k l h = omega arith

pub last_within : (p : Sign) (all : List Event) (k : ℕ) → last p all k ≤ k
unfolding last
last_within p all zero = omega arith
last_within p all (suc k) = within_case (shows_in p (slice_get all k)) k (last p all k) (last_within p all k)

-- ---- ever

pub ever_next : (p : Sign) (es : List Event) (e : Event) → ever p (es ++ e ∷ []) ≡ came_step p (ever p es) e
unfolding ever
ever_next p es e = fold-append (came_step p) false es (e ∷ [])

came_case : (c b : Bool) (k l : ℕ) → c ≡ nat_lt 0 l → (c || b) ≡ nat_lt 0 (if b then suc k else l)
came_case c b k l h = grind (arith, nat_tests)

came_in : (p : Sign) (c : Bool) (o : Option Event) (k l : ℕ) → c ≡ nat_lt 0 l → step_in (came_step p) c o ≡ nat_lt 0 (if shows_in p o then suc k else l)
came_in p c None k l h = h
came_in p c (Some e) k l h = came_case c (shows p e) k l h

pub ever_last : (p : Sign) (all : List Event) (k : ℕ) → ever p (take k all) ≡ nat_lt 0 (last p all k)
unfolding last ever
ever_last p all zero = refl
ever_last p all (suc k) = at_next (ever p) (came_step p) (ever_next p) all k ∙ came_in p (ever p (take k all)) (slice_get all k) k (last p all k) (ever_last p all k)

-- ---- stands

stands_next : (p q : Sign) (es : List Event) (e : Event) → stands p q (es ++ e ∷ []) ≡ stands_step p q (stands p q es) e
unfolding stands
stands_next p q es e = fold-append (stands_step p q) false es (e ∷ [])

stands_case : (s b1 b2 : Bool) (k l1 l2 : ℕ) → l1 ≤ k → l2 ≤ k → s ≡ (nat_lt 0 l1 && nat_le l2 l1)
    → (b1 || (s && not b2)) ≡ (nat_lt 0 (if b1 then suc k else l1) && nat_le (if b2 then suc k else l2) (if b1 then suc k else l1))
stands_case s b1 b2 k l1 l2 h1 h2 h = grind (arith, nat_tests)

stands_in : (p q : Sign) (s : Bool) (o : Option Event) (k l1 l2 : ℕ) → l1 ≤ k → l2 ≤ k → s ≡ (nat_lt 0 l1 && nat_le l2 l1)
    → step_in (stands_step p q) s o ≡ (nat_lt 0 (if shows_in p o then suc k else l1) && nat_le (if shows_in q o then suc k else l2) (if shows_in p o then suc k else l1))
stands_in p q s None k l1 l2 h1 h2 h = h
stands_in p q s (Some e) k l1 l2 h1 h2 h = stands_case s (shows p e) (shows q e) k l1 l2 h1 h2 h

pub stands_last : (p q : Sign) (all : List Event) (k : ℕ) → stands p q (take k all) ≡ (nat_lt 0 (last p all k) && nat_le (last q all k) (last p all k))
unfolding last stands
stands_last p q all zero = refl
stands_last p q all (suc k) =
    at_next (stands p q) (stands_step p q) (stands_next p q) all k
    ∙ stands_in p q (stands p q (take k all)) (slice_get all k) k (last p all k) (last q all k) (last_within p all k) (last_within q all k) (stands_last p q all k)

-- ---- times

pub times_next : (p : Sign) (es : List Event) (e : Event) → times p (es ++ e ∷ []) ≡ times p es + (if shows p e then 1 else 0)
unfolding times
times_next p es e = grind (arith, common_steps)

-- ---- stood_at

abbrev opening : Moment
opening = record { current = false; at = false }

abbrev pub moment_after : Sign → Sign → Sign → List Event → Moment
moment_after p a b es = fold (moment_step p a b) opening es

moment_next : (p a b : Sign) (es : List Event) (e : Event) → moment_after p a b (es ++ e ∷ []) ≡ moment_step p a b (moment_after p a b es) e
moment_next p a b es e = fold-append (moment_step p a b) opening es (e ∷ [])

current_in : (p a b : Sign) (m : Moment) (s : Bool) (o : Option Event) → m.current ≡ s → (step_in (moment_step p a b) m o).current ≡ step_in (stands_step a b) s o
current_in p a b m s None h = h
current_in p a b m s (Some e) h = ap (λ c. stands_step a b c e) h

current_stands : (p a b : Sign) (all : List Event) (k : ℕ) → (moment_after p a b (take k all)).current ≡ stands a b (take k all)
unfolding stands
current_stands p a b all zero = refl
current_stands p a b all (suc k) =
    ap (λ (m : Moment). m.current) (at_next (moment_after p a b) (moment_step p a b) (moment_next p a b) all k)
    ∙ current_in p a b (moment_after p a b (take k all)) (stands a b (take k all)) (slice_get all k) (current_stands p a b all k)
    ∙ sym (at_next (stands a b) (stands_step a b) (stands_next a b) all k)

at_in : (p a b : Sign) (m : Moment) (s t : Bool) (o : Option Event) → m.current ≡ s → m.at ≡ t → (step_in (moment_step p a b) m o).at ≡ (if shows_in p o then s else t)
at_in p a b m s t None h g = g
at_in p a b m s t (Some e) h g = rw (h, g) refl

moment_stood : (p a b : Sign) (all : List Event) (k : ℕ) → (moment_after p a b (take k all)).at ≡ stood p a b all k
unfolding stood
moment_stood p a b all zero = refl
moment_stood p a b all (suc k) =
    ap (λ (m : Moment). m.at) (at_next (moment_after p a b) (moment_step p a b) (moment_next p a b) all k)
    ∙ at_in p a b (moment_after p a b (take k all)) (stands a b (take k all)) (stood p a b all k) (slice_get all k) (current_stands p a b all k) (moment_stood p a b all k)

pub stood_last : (p a b : Sign) (all : List Event) (k : ℕ) → stood_at p a b (take k all) ≡ stood p a b all k
unfolding stood_at
stood_last p a b all k = moment_stood p a b all k
