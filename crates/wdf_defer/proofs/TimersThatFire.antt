-- What it leaves that a timer fires.
use Rattle.std.proofs.Common.{if◌then◌else◌, ◌≡◌, ◌≢◌, ℕ, ◌+◌, ◌<◌, Bool, true, false, ◌==◌, List, map, Option, Some, None, IfSome, sym, ap, ◌∙◌, arith}
use Rattle.std.proofs.lemmas.Bool.Decides.{nat_tests}
use Rattle.wdf_model.specs.declared.entries.Timed.{Timed}
use Rattle.wdf_model.specs.parts.Deferred.Timers.{Timers, timed_of, fired, stop, later_by}
use Rattle.wdf_maps.specs.Places.{rises, entry_of, with_entry}
use Rattle.wdf_maps.proofs.EntriesById.{entry_below, entry_key, map_present, map_absent, others_absent}
use Rattle.wdf_defer.specs.Ticks.{timer_id}

-- a periodic timer is due later
fired_again : (period : ℕ) (T : Timers) (o : ℕ) → period ≢ 0 → fired T o period ≡ record { queued = map (later_by o period) T.queued }
fired_again period T o h = grind (arith, nat_tests)

pub fired_present : (T : Timers) (o period : ℕ) (t : Timed) (after : List Timed) (high : ℕ)
    → rises timer_id 0 high T.queued ≡ true → timed_of T o ≡ Some t → period ≢ 0
    → after ≡ with_entry timer_id (record t { tick = t.tick + period }) T.queued
    → record { queued = after } ≡ fired T o period
fired_present T o period t after high h there more is =
    let e = map_present timer_id (λ x. record x { tick = x.tick + period }) high o T.queued t h there (entry_key timer_id o T.queued t there) in
    let Q : List Timed → Timers = λ qs. record { queued = qs } in
    ap Q (is ∙ sym e) ∙ sym (fired_again period T o more)

absent_by : (T : Timers) (o period : ℕ) (b : Bool) → timed_of T o ≡ None → T ≡ (if b then stop T o else record { queued = map (later_by o period) T.queued })
absent_by T o period true none = let Q : List Timed → Timers = λ qs. record { queued = qs } in ap Q (sym (others_absent timer_id o T.queued none))
absent_by T o period false none =
    let Q : List Timed → Timers = λ qs. record { queued = qs } in
    ap Q (sym (map_absent timer_id (λ x. record x { tick = x.tick + period }) o T.queued none))

pub fired_absent : (T : Timers) (o period : ℕ) → timed_of T o ≡ None → T ≡ fired T o period
fired_absent T o period none = absent_by T o period (period == 0) none

-- what is queued are objects
pub objects_alone : (high o : ℕ) (ts : List Timed) (r : Option Timed) → rises timer_id 0 high ts ≡ true → r ≡ entry_of timer_id ts o → IfSome r (λ t. t.timer.0 < high)
objects_alone high o ts None h e = tt
objects_alone high o ts (Some t) h e =
    let same = entry_key timer_id o ts t (sym e) in
    let below = entry_below timer_id 0 high o ts t h (sym e) in
    omega arith
