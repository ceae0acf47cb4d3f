-- What is kept of the events, one event more.
use Rattle.std.proofs.Common.{◌≡◌, ℕ, suc, ◌+◌, ◌≤◌, Bool, true, false, if◌then◌else◌, nat_eq, count_by, List, [], length, take, slice_get, Option, Some, None, refl, sym, ap, ◌∙◌, arith}
use Rattle.std.specs.HashMap.{get}
use Rattle.std.specs.Map.{lookup}
use Rattle.std.proofs.lemmas.List.{length-take}
use Rattle.std.proofs.lemmas.List.Sums.{count_by-le-length}
use Rattle.wdf_base.specs.declared.plan.Plan.{Plan}
use Rattle.wdf_base.specs.declared.event.Event.{Event}
use Rattle.wdf_base.specs.declared.event.Stage.TheVariants as stage
use Rattle.wdf_base.specs.declared.call.CallKind.TheVariants as call
use Rattle.wdf_laws.specs.declared.sign.Taking.{Taking}
use Rattle.check_past.specs.declared.shown.Shown.{Shown}
use Rattle.wdf_laws.specs.declared.sign.Sign.{Sign}
use Rattle.wdf_laws.specs.declared.sign.Sign.TheVariants as sign
use Rattle.wdf_laws.specs.Events.{is_id, called, passed, passed_for, arrived, arrived_at, taken, presented}
use Rattle.wdf_laws.specs.Signs.{shows}
use Rattle.wdf_laws.specs.Words.{times, stands}
use Rattle.wdf_model.proofs.Runs.{take_next}
use Rattle.check_past.specs.declared.signs.Signs.{Signs}
use Rattle.check_past.specs.declared.lists.Lists.{Lists}
use Rattle.check_past.specs.Last.{last, stood}
use Rattle.check_past.specs.Maps.{or_zero, or_false, or_empty, number_at, group_at, put_at, counted}
use Rattle.check_past.specs.Keys.{key_of, same_key, number_of, noted_each, keys_of}
use Rattle.check_past.specs.Groups.{with_arrival, arrived_for, with_taking, takings_for}
use Rattle.check_past.specs.Order.{shown_by, with_entry, tail_entry, with_number, tail_number, with_head, heads}
use Rattle.check_past.specs.Past.{Read, before, is_device_entered, device_of_interrupt}
use Rattle.check_past.specs.Tables.{AreSigns, AreLists}
use Rattle.check_past.proofs.Putting.{same_id}
use Rattle.check_past.proofs.Keys.{sign_noted}
use Rattle.check_past.proofs.Words.{times_next}

-- ---- signs

last_more : (p : Sign) (all : List Event) (k : ℕ) (e : Event) → slice_get all k ≡ Some e → (if shows p e then k + 1 else last p all k) ≡ last p all (k + 1)
unfolding last
last_more p all k e h = let n : k + 1 ≡ suc k = omega arith in rw (n, h) refl

lasts_more : (p : Sign) (all : List Event) (k : ℕ) (e : Event) (was now : ℕ) → slice_get all k ≡ Some e → was ≡ last p all k → now ≡ noted_each (keys_of e) (k + 1) p was → now ≡ last p all (k + 1)
lasts_more p all k e was now h is step = step ∙ sign_noted p e (k + 1) was ∙ ap (λ n. if shows p e then k + 1 else n) is ∙ last_more p all k e h

stood_more : (p a b : Sign) (all : List Event) (k : ℕ) (e : Event) → slice_get all k ≡ Some e → (if shows p e then stands a b (take k all) else stood p a b all k) ≡ stood p a b all (k + 1)
unfolding stood
stood_more p a b all k e h = let n : k + 1 ≡ suc k = omega arith in rw (n, h) refl

up_case : (es : List Event) (d y : ℕ) (kept : Option Bool) (b : Bool) → nat_eq y d ≡ b
    → or_false (if b then Some (is_device_entered es (Some y)) else kept) ≡ (if b then stands (sign.Entered d) (sign.NotEntered d) es else or_false kept)
up_case es d y kept true h = ap (λ x. stands (sign.Entered x) (sign.NotEntered x) es) (same_id y d h)
up_case es d y kept false h = refl

up_where : (es : List Event) (d : ℕ) (o : Option ℕ) (kept : Option Bool)
    → or_false (put_at o (is_device_entered es o) d kept) ≡ (if is_id d o then stands (sign.Entered d) (sign.NotEntered d) es else or_false kept)
up_where es d None kept = refl
up_where es d (Some y) kept = up_case es d y kept (nat_eq y d) refl

enabled_case : (plan : Plan) (es : List Event) (i d y : ℕ) (kept : Option Bool) (b : Bool) → device_of_interrupt plan (Some i) ≡ Some d → nat_eq y i ≡ b
    → or_false (if b then Some (is_device_entered es (device_of_interrupt plan (Some y))) else kept) ≡ (if b then stands (sign.Entered d) (sign.NotEntered d) es else or_false kept)
enabled_case plan es i d y kept true is h = ap (λ x. is_device_entered es (device_of_interrupt plan (Some x))) (same_id y i h) ∙ ap (is_device_entered es) is
enabled_case plan es i d y kept false is h = refl

enabled_where : (plan : Plan) (es : List Event) (i d : ℕ) (o : Option ℕ) (kept : Option Bool) → device_of_interrupt plan (Some i) ≡ Some d
    → or_false (put_at o (is_device_entered es (device_of_interrupt plan o)) i kept) ≡ (if is_id i o then stands (sign.Entered d) (sign.NotEntered d) es else or_false kept)
enabled_where plan es i d None kept is = refl
enabled_where plan es i d (Some y) kept is = enabled_case plan es i d y kept (nat_eq y i) is refl

times_more : (p : Sign) (all : List Event) (k : ℕ) (e : Event) (was now : ℕ) → slice_get all k ≡ Some e → was ≡ times p (take k all) → now ≡ was + (if shows p e then 1 else 0) → now ≡ times p (take (k + 1) all)
times_more p all k e was now h is step =
    let n : k + 1 ≡ suc k = omega arith in
    step ∙ ap (λ x. x + (if shows p e then 1 else 0)) is ∙ sym (times_next p (take k all) e) ∙ sym (ap (times p) (ap (λ i. take i all) n ∙ take_next all k e h))

pub signs_more : (plan : Plan) (all : List Event) (k : ℕ) (e : Event) (s s' : Signs) (up enabled : Bool) → slice_get all k ≡ Some e → AreSigns plan all k s
    → up ≡ is_device_entered (take k all) (passed stage.QueuesUp e)
    → enabled ≡ is_device_entered (take k all) (device_of_interrupt plan (passed_for stage.Enabled e))
    → ((p : Sign) → number_of s'.lasts p ≡ noted_each (keys_of e) (k + 1) p (number_of s.lasts p))
    → ((d : ℕ) → get nat_eq s'.up d ≡ put_at (passed stage.QueuesUp e) up d (get nat_eq s.up d))
    → ((i : ℕ) → get nat_eq s'.enabled i ≡ put_at (passed_for stage.Enabled e) enabled i (get nat_eq s.enabled i))
    → ((o : ℕ) → number_at s'.referenced o ≡ counted (called call.WdfObjectReference e) o (number_at s.referenced o))
    → ((o : ℕ) → number_at s'.dereferenced o ≡ counted (called call.WdfObjectDereference e) o (number_at s.dereferenced o))
    → AreSigns plan all (k + 1) s'
signs_more plan all k e s s' up enabled h was is_up is_enabled lasts ups enableds referenced dereferenced =
    record {
      last_is = λ p. lasts_more p all k e _ _ h (was.last_is p) (lasts p);
      up_is = λ d.
          ap or_false (ups d) ∙ ap (λ x. or_false (put_at (passed stage.QueuesUp e) x d (get nat_eq s.up d))) is_up ∙ up_where (take k all) d (passed stage.QueuesUp e) (get nat_eq s.up d)
          ∙ ap (λ x. if is_id d (passed stage.QueuesUp e) then stands (sign.Entered d) (sign.NotEntered d) (take k all) else x) (was.up_is d)
          ∙ stood_more (sign.QueuesUp d) (sign.Entered d) (sign.NotEntered d) all k e h;
      enabled_is = λ i d is.
          ap or_false (enableds i) ∙ ap (λ x. or_false (put_at (passed_for stage.Enabled e) x i (get nat_eq s.enabled i))) is_enabled
          ∙ enabled_where plan (take k all) i d (passed_for stage.Enabled e) (get nat_eq s.enabled i) is
          ∙ ap (λ x. if is_id i (passed_for stage.Enabled e) then stands (sign.Entered d) (sign.NotEntered d) (take k all) else x) (was.enabled_is i d is)
          ∙ stood_more (sign.Enabled i) (sign.Entered d) (sign.NotEntered d) all k e h;
      referenced_is = λ o. times_more (sign.Referenced o) all k e _ _ h (was.referenced_is o) (referenced o);
      dereferenced_is = λ o. times_more (sign.Dereferenced o) all k e _ _ h (was.dereferenced_is o) (dereferenced o);
    }

-- nothing was read
pub signs_none : (plan : Plan) (all : List Event) (s : Signs) → s.lasts.entries ≡ [] → s.up.entries ≡ [] → s.enabled.entries ≡ [] → s.referenced.entries ≡ [] → s.dereferenced.entries ≡ [] → AreSigns plan all 0 s
unfolding last stood times
signs_none plan all s lasts up enabled referenced dereferenced =
    record {
      last_is = λ p. ap (λ es. or_zero (lookup (same_key (key_of p)) es)) lasts;
      up_is = λ d. ap (λ es. or_false (lookup (nat_eq d) es)) up;
      enabled_is = λ i d is. ap (λ es. or_false (lookup (nat_eq i) es)) enabled;
      referenced_is = λ o. ap (λ es. or_zero (lookup (nat_eq o) es)) referenced;
      dereferenced_is = λ o. ap (λ es. or_zero (lookup (nat_eq o) es)) dereferenced;
    }

-- ---- lists

pub lists_none : (plan : Plan) (all : List Event) (l : Lists) → l.arrivals.entries ≡ [] → l.takings.entries ≡ [] → l.tail_entries.entries ≡ [] → l.tail_numbers.entries ≡ [] → l.heads.entries ≡ [] → AreLists plan all 0 l
unfolding arrived_for takings_for tail_entry tail_number heads
lists_none plan all l arrivals takings entries numbers tops =
    record {
      arrivals_are = λ d. ap (λ es. or_empty (lookup (nat_eq d) es)) arrivals;
      takings_are = λ d. ap (λ es. or_empty (lookup (nat_eq d) es)) takings;
      tail_entry_is = λ q. ap (λ es. or_zero (lookup (nat_eq q) es)) entries;
      tail_number_is = λ q. ap (λ es. or_zero (lookup (nat_eq q) es)) numbers;
      heads_are = λ q. ap (λ es. or_empty (lookup (nat_eq q) es)) tops;
    }

arrived_more : (all : List Event) (d k : ℕ) (e : Event) → slice_get all k ≡ Some e → with_arrival d (arrived_at e) (arrived e) (arrived_for all d k) ≡ arrived_for all d (k + 1)
unfolding arrived_for
arrived_more all d k e h = let n : k + 1 ≡ suc k = omega arith in rw (n, h) refl

takings_more : (plan : Plan) (all : List Event) (d k : ℕ) (e : Event) → slice_get all k ≡ Some e → with_taking plan d (taken e) (takings_for plan all d k) ≡ takings_for plan all d (k + 1)
unfolding takings_for
takings_more plan all d k e h = let n : k + 1 ≡ suc k = omega arith in rw (n, h) refl

entry_more : (all : List Event) (q k : ℕ) (e : Event) → slice_get all k ≡ Some e → with_entry q (shown_by all k (presented e)) (tail_entry all q k) ≡ tail_entry all q (k + 1)
unfolding tail_entry
entry_more all q k e h = let n : k + 1 ≡ suc k = omega arith in rw (n, h) refl

number_more : (all : List Event) (q k : ℕ) (e : Event) → slice_get all k ≡ Some e → with_number q (shown_by all k (presented e)) (tail_number all q k) ≡ tail_number all q (k + 1)
unfolding tail_number
number_more all q k e h = let n : k + 1 ≡ suc k = omega arith in rw (n, h) refl

heads_more : (all : List Event) (q k : ℕ) (e : Event) → slice_get all k ≡ Some e → with_head q (shown_by all k (presented e)) (heads all q k) ≡ heads all q (k + 1)
unfolding heads
heads_more all q k e h = let n : k + 1 ≡ suc k = omega arith in rw (n, h) refl

pub lists_more : (plan : Plan) (all : List Event) (k : ℕ) (e : Event) (l l' : Lists) → slice_get all k ≡ Some e → AreLists plan all k l
    → ((d : ℕ) → group_at l'.arrivals d ≡ with_arrival d (arrived_at e) (arrived e) (group_at l.arrivals d))
    → ((d : ℕ) → group_at l'.takings d ≡ with_taking plan d (taken e) (group_at l.takings d))
    → ((q : ℕ) → number_at l'.tail_entries q ≡ with_entry q (shown_by all k (presented e)) (number_at l.tail_entries q))
    → ((q : ℕ) → number_at l'.tail_numbers q ≡ with_number q (shown_by all k (presented e)) (number_at l.tail_numbers q))
    → ((q : ℕ) → group_at l'.heads q ≡ with_head q (shown_by all k (presented e)) (group_at l.heads q))
    → AreLists plan all (k + 1) l'
lists_more plan all k e l l' h was arrivals takings entries numbers tops =
    record {
      arrivals_are = λ d. arrivals d ∙ ap (with_arrival d (arrived_at e) (arrived e)) (was.arrivals_are d) ∙ arrived_more all d k e h;
      takings_are = λ d. takings d ∙ ap (with_taking plan d (taken e)) (was.takings_are d) ∙ takings_more plan all d k e h;
      tail_entry_is = λ q. entries q ∙ ap (with_entry q (shown_by all k (presented e))) (was.tail_entry_is q) ∙ entry_more all q k e h;
      tail_number_is = λ q. numbers q ∙ ap (with_number q (shown_by all k (presented e))) (was.tail_number_is q) ∙ number_more all q k e h;
      heads_are = λ q. tops q ∙ ap (with_head q (shown_by all k (presented e))) (was.heads_are q) ∙ heads_more all q k e h;
    }

-- ---- what is read before the step, by the view of what is kept

pub entered_is : (V R : Read) (o o' : Option ℕ) (b : Bool) → V ≡ R → b ≡ is_device_entered (before R) o → o ≡ o' → b ≡ is_device_entered (before V) o'
entered_is V R o o' b v is same = is ∙ ap (λ (S : Read). is_device_entered (before S) o) (sym v) ∙ ap (is_device_entered (before V)) same

pub shown_is : (V R : Read) (t t' : Option Taking) (s : Option Shown) → V ≡ R → s ≡ shown_by R.all R.number t → t ≡ t' → s ≡ shown_by V.all V.number t'
shown_is V R t t' s v is same = is ∙ ap (λ (S : Read). shown_by S.all S.number t) (sym v) ∙ ap (shown_by V.all V.number) same

pub times_within : (p : Sign) (all : List Event) (k : ℕ) → times p (take k all) ≤ k
unfolding times
times_within p all k = let a : count_by (shows p) (take k all) ≤ length (take k all) = count_by-le-length (shows p) (take k all) in let b : length (take k all) ≤ k = simp length-take (omega arith) in omega arith
