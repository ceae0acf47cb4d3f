-- The queued timers as the members of a set of ids, with a due tick for each; and what the set of the reached ones answers.
use Rattle.std.proofs.Common.{if◌then◌else◌, ℕ, zero, suc, ◌≡◌, ◌≢◌, ◌⊎◌, inl, inr, ◌+◌, ◌-◌, ◌/◌, ◌<◌, ◌≤◌, min, Bool, true, false, cond, not, ◌==◌, ◌&&◌, ◌||◌, nat_le, nat_lt, List, [], ◌∷◌, length, map, filter, drop, slice_get, slice_set, get_or-set_same, get_or-set_other, length-set, Option, Some, None, is_some, refl, sym, ap, ◌∙◌, subst, arith}
use Rattle.std.specs.List.{list_any, range_with_len}
use Rattle.std.proofs.lemmas.Bool.{cases_eq, cases_lt, eq-eqb, eqb-true, le-leb, lt-ltb}
use Rattle.std.proofs.lemmas.Bool.Decides.{nat_tests}
use Rattle.wdf_model.specs.declared.room.TheConstants.{OBJECTS}
use Rattle.wdf_model.specs.declared.entries.Timed.{Timed}
use Rattle.wdf_model.specs.Tables.{contains, entry, in_order, in_order_by, put, without}
use Rattle.wdf_model.specs.parts.Deferred.Timers.{Timers, any_later_timer, is_reached, is_timer_queued, stop, timed_of, timer_due}
use Rattle.wdf_model.proofs.Maps.{entry_put_other, entry_put_same}
use Rattle.wdf_model.proofs.Tests.{both, both_left, both_right}
use Rattle.wdf_maps.specs.Places.{entry_of, others, rises, with_entry}
use Rattle.wdf_maps.proofs.EntriesById.{others_absent}
use Rattle.wdf_maps.proofs.PlacesOfKeys.{key_from, rises_rest}
use Rattle.wdf_sets.specs.Members.{is_in, members, rank}
use Rattle.wdf_sets.specs.Nexts.{IsNext, NoneFrom}
use Rattle.wdf_sets.proofs.Ranks.{length_members, member_at_rank, members_where, one, rank_below, rank_first, rank_mono, rank_step}
use Rattle.wdf_defer.specs.Floors.{NEVER, floor_of}
use Rattle.wdf_defer.specs.Reached.{AreReached, HaveRoom, IsLeast, is_reached_at}
use Rattle.wdf_defer.specs.Ticks.{timer_id}
use Rattle.wdf_defer.specs.Timers.{AreApart, AreTimersInOrder, IsSound, due_from, due_ids, is_due_at, timed_at}
use Rattle.wdf_defer.proofs.QueuedWork.{is_member, member_within, one_less, one_more, there}

-- the timers of a set
abbrev pub timers_of : List Bool → List ℕ → Timers
timers_of bits ticks = record { queued = map (timed_at ticks) (members bits) }

late : (a b : ℕ) → b < a → nat_le a b ≡ false
late a b l = grind (arith, nat_tests)

-- ---- a timer by its id

found_in : (ticks : List ℕ) (o : ℕ) (xs : List ℕ) → entry_of timer_id (map (timed_at ticks) xs) o ≡ (if contains o xs then Some (timed_at ticks o) else None)
found_in ticks o [] = refl
found_in ticks o (x ∷ xs) = by (x == o) refl (found_in ticks o xs)
  where
    by : (b : Bool) → (x == o) ≡ b → entry_of timer_id (map (timed_at ticks) xs) o ≡ (if contains o xs then Some (timed_at ticks o) else None)
        → (if b then Some (timed_at ticks x) else entry_of timer_id (map (timed_at ticks) xs) o) ≡ (if b || contains o xs then Some (timed_at ticks o) else None)
    by true e rest = ap (λ y. Some (timed_at ticks y)) (eqb-true x o e)
    by false e rest = rest

pub timed_is : (bits : List Bool) (ticks : List ℕ) (o : ℕ) → timed_of (timers_of bits ticks) o ≡ (if is_in o bits then Some (timed_at ticks o) else None)
timed_is bits ticks o = found_in ticks o (members bits) ∙ ap (λ b. if b then Some (timed_at ticks o) else None) (sym (is_member o bits))

pub timed_there : (bits : List Bool) (ticks : List ℕ) (o : ℕ) → is_in o bits ≡ true → timed_of (timers_of bits ticks) o ≡ Some (timed_at ticks o)
timed_there bits ticks o on = timed_is bits ticks o ∙ ap (λ b. if b then Some (timed_at ticks o) else None) on

pub timed_none : (bits : List Bool) (ticks : List ℕ) (o : ℕ) → is_in o bits ≡ false → timed_of (timers_of bits ticks) o ≡ None
timed_none bits ticks o off = timed_is bits ticks o ∙ ap (λ b. if b then Some (timed_at ticks o) else None) off

pub queued_is : (bits : List Bool) (ticks : List ℕ) (o : ℕ) → is_in o bits ≡ is_timer_queued (timers_of bits ticks) o
queued_is bits ticks o = by (is_in o bits) ∙ sym (ap is_some (timed_is bits ticks o))
  where
    by : (b : Bool) → b ≡ is_some (if b then Some (timed_at ticks o) else None)
    by true = refl
    by false = refl

pub due_is : (bits : List Bool) (ticks : List ℕ) (now o : ℕ) → is_reached_at bits ticks now o ≡ timer_due (timers_of bits ticks) o now
due_is bits ticks now o = by (is_in o bits) ∙ sym (ap (is_reached now) (timed_is bits ticks o))
  where
    by : (b : Bool) → (b && nat_le (entry 0 ticks o) now) ≡ is_reached now (if b then Some (timed_at ticks o) else None)
    by true = refl
    by false = refl

-- ---- in order

rise_from : (ticks : List ℕ) (p : ℕ → Bool) (a n low high : ℕ) → low ≤ a → ((x : ℕ) → p x ≡ true → x < high) → rises timer_id low high (map (timed_at ticks) (filter p (range_with_len a n))) ≡ true
rise_from ticks p a zero low high l h = refl
rise_from ticks p a (suc n) low high l h = by (p a) refl (rise_from ticks p (a + 1) n (suc a) high (omega arith) h) (rise_from ticks p (a + 1) n low high (omega arith) h)
  where
    by : (b : Bool) → p a ≡ b → rises timer_id (suc a) high (map (timed_at ticks) (filter p (range_with_len (a + 1) n))) ≡ true → rises timer_id low high (map (timed_at ticks) (filter p (range_with_len (a + 1) n))) ≡ true
        → rises timer_id low high (map (timed_at ticks) (cond b (a ∷ filter p (range_with_len (a + 1) n)) (filter p (range_with_len (a + 1) n)))) ≡ true
    by true e rest other =
        both (nat_le low a) (nat_lt a high && rises timer_id (suc a) high (map (timed_at ticks) (filter p (range_with_len (a + 1) n)))) (le-leb low a l)
        (both (nat_lt a high) (rises timer_id (suc a) high (map (timed_at ticks) (filter p (range_with_len (a + 1) n)))) (lt-ltb a high (h a e)) rest)
    by false e rest other = other

pub they_rise : (bits : List Bool) (ticks : List ℕ) (high : ℕ) → ((o : ℕ) → is_in o bits ≡ true → o < high) → rises timer_id 0 high (map (timed_at ticks) (members bits)) ≡ true
they_rise bits ticks high h = rise_from ticks (λ id. is_in id bits) 0 (length bits) 0 high (omega arith) h

ids_back : (ticks : List ℕ) (xs : List ℕ) → map timer_id (map (timed_at ticks) xs) ≡ xs
ids_back ticks [] = refl
ids_back ticks (x ∷ xs) = ap (λ ys. x ∷ ys) (ids_back ticks xs)

none_from : (p : ℕ → Bool) (a n : ℕ) → ((x : ℕ) → a ≤ x → p x ≡ false) → filter p (range_with_len a n) ≡ []
none_from p a zero off = refl
none_from p a (suc n) off = rw (off a (omega arith)) (none_from p (a + 1) n (λ x l. off x (omega arith)))

-- a longer range adds none
none_past : (p : ℕ → Bool) (a n m : ℕ) → n ≤ m → ((x : ℕ) → a + n ≤ x → p x ≡ false) → filter p (range_with_len a m) ≡ filter p (range_with_len a n)
none_past p a zero m h off = none_from p a m (λ x l. off x (omega arith))
none_past p a (suc n) zero h off = absurd (omega arith)
none_past p a (suc n) (suc m) h off = ap (λ xs. cond (p a) (a ∷ xs) xs) (none_past p (a + 1) n m (omega arith) (λ x l. off x (omega arith)))

even_ranges : (p : ℕ → Bool) (n m : ℕ) → ((x : ℕ) → n ≤ x → p x ≡ false) → ((x : ℕ) → m ≤ x → p x ≡ false) → filter p (range_with_len 0 n) ≡ filter p (range_with_len 0 m)
even_ranges p n m off past = by (cases_lt n m)
  where
    by : (n < m) ⊎ (m ≤ n) → filter p (range_with_len 0 n) ≡ filter p (range_with_len 0 m)
    by (inl less) = sym (none_past p 0 n m (omega arith) (λ x l. off x (omega arith)))
    by (inr more) = none_past p 0 m n more (λ x l. past x (omega arith))

off_by : (bits : List Bool) (ticks : List ℕ) (now o : ℕ) (b : Bool) → is_in o bits ≡ b → (b ≡ true → ⊥) → timer_due (timers_of bits ticks) o now ≡ false
off_by bits ticks now o true e h = absurd (h refl)
off_by bits ticks now o false e h = ap (is_reached now) (timed_none bits ticks o e)

pub ordered : (bits : List Bool) (ticks : List ℕ) → ((o : ℕ) → is_in o bits ≡ true → o < OBJECTS) → AreTimersInOrder (timers_of bits ticks)
unfolding due_from
ordered bits ticks objects = record {
  rising = λ end none. ids_back ticks (members bits) ∙ members_where bits (is_timer_queued (timers_of bits ticks)) end (queued_is bits ticks) none;
  due = λ now end none. even_ranges (λ o. timer_due (timers_of bits ticks) o now) (OBJECTS - 0) end (λ o past. off_by bits ticks now o (is_in o bits) refl (λ on. let low = objects o on in absurd (omega arith))) none;
}

-- ---- each timer is found by its id

own_by : (x t : Timed) (ts : List Timed) (b : Bool) → timer_id x < timer_id t → (timer_id x == timer_id t) ≡ b → entry_of timer_id ts (timer_id t) ≡ Some t → (if b then Some x else entry_of timer_id ts (timer_id t)) ≡ Some t
own_by x t ts true low e rest = absurd (let same = eqb-true (timer_id x) (timer_id t) e in omega arith)
own_by x t ts false low e rest = rest

own_place : (low high k : ℕ) (ts : List Timed) (t : Timed) → rises timer_id low high ts ≡ true → slice_get ts k ≡ Some t → entry_of timer_id ts (timer_id t) ≡ Some t
own_place low high k [] t h at = absurd (let z : ⊥ = cc in z)
own_place low high zero (x ∷ ts) t h at =
    let same : x ≡ t = cc in
    let itself : (timer_id x == timer_id t) ≡ true = eq-eqb (timer_id x) (timer_id t) (ap timer_id same) in
    rw (itself, same) refl
own_place low high (suc k) (x ∷ ts) t h at =
    let rest = rises_rest timer_id low high x ts h in
    let above = key_from timer_id (suc (timer_id x)) high k ts t rest at in
    own_by x t ts (timer_id x == timer_id t) (omega arith) refl (own_place (suc (timer_id x)) high k ts t rest at)

pub apart : (ts : List Timed) → rises timer_id 0 OBJECTS ts ≡ true → AreApart (record { queued = ts })
apart ts h = record { found = λ k t at. own_place 0 OBJECTS k ts t h at }

-- ---- a timer comes, or goes

others_map : (ticks : List ℕ) (o : ℕ) (xs : List ℕ) → others timer_id o (map (timed_at ticks) xs) ≡ map (timed_at ticks) (without o xs)
others_map ticks o [] = refl
others_map ticks o (x ∷ xs) = by (not (x == o)) (others_map ticks o xs)
  where
    by : (b : Bool) → others timer_id o (map (timed_at ticks) xs) ≡ map (timed_at ticks) (without o xs)
        → (if b then timed_at ticks x ∷ others timer_id o (map (timed_at ticks) xs) else others timer_id o (map (timed_at ticks) xs)) ≡ map (timed_at ticks) (if b then x ∷ without o xs else without o xs)
    by true rest = ap (λ ts. timed_at ticks x ∷ ts) rest
    by false rest = rest

module _ (old new : List ℕ) (t : Timed) (others_stay : (y : ℕ) → y ≢ timer_id t → timed_at old y ≡ timed_at new y) (is : timed_at new (timer_id t) ≡ t) where
  either_off : (a b : Bool) → (a || b) ≡ false → (a ≡ false) × (b ≡ false)
  either_off true b h = absurd (let z : ⊥ = cc in z)
  either_off false b h = (refl, h)

  differs : (x : ℕ) → (x == timer_id t) ≡ false → x ≢ timer_id t
  differs x off same = let on : (x == timer_id t) ≡ true = eq-eqb x (timer_id t) same in let z : ⊥ = cc in z

  same_map : (xs : List ℕ) → contains (timer_id t) xs ≡ false → map (timed_at old) xs ≡ map (timed_at new) xs
  same_map [] off = refl
  same_map (x ∷ xs) off =
      let parts = either_off (x == timer_id t) (contains (timer_id t) xs) off in
      ap (λ y. y ∷ map (timed_at old) xs) (others_stay x (differs x parts.0)) ∙ ap (λ ts. timed_at new x ∷ ts) (same_map xs parts.1)

  in_order_map : (xs : List ℕ) → contains (timer_id t) xs ≡ false → in_order_by timer_id t (map (timed_at old) xs) ≡ map (timed_at new) (in_order (timer_id t) xs)
  in_order_map [] off = ap (λ x. x ∷ []) (sym is)
  in_order_map (x ∷ xs) off =
      let parts = either_off (x == timer_id t) (contains (timer_id t) xs) off in
      by (nat_lt (timer_id t) x) (ap (λ y. y ∷ map (timed_at old) xs) (others_stay x (differs x parts.0)) ∙ ap (λ ts. timed_at new x ∷ ts) (same_map xs parts.1))
      (ap (λ y. y ∷ in_order_by timer_id t (map (timed_at old) xs)) (others_stay x (differs x parts.0)) ∙ ap (λ ts. timed_at new x ∷ ts) (in_order_map xs parts.1))
    where
      by : (b : Bool) → timed_at old x ∷ map (timed_at old) xs ≡ timed_at new x ∷ map (timed_at new) xs
          → timed_at old x ∷ in_order_by timer_id t (map (timed_at old) xs) ≡ timed_at new x ∷ map (timed_at new) (in_order (timer_id t) xs)
          → (if b then t ∷ timed_at old x ∷ map (timed_at old) xs else timed_at old x ∷ in_order_by timer_id t (map (timed_at old) xs)) ≡ map (timed_at new) (if b then timer_id t ∷ x ∷ xs else x ∷ in_order (timer_id t) xs)
      by true all rest = ap (λ y. y ∷ timed_at old x ∷ map (timed_at old) xs) (sym is) ∙ ap (λ ts. timed_at new (timer_id t) ∷ ts) all
      by false all rest = rest

-- the queued timers with one more, or with another due tick of one
pub queued_put : (bits : List Bool) (ticks : List ℕ) (t : Timed) → t.timer.0 < length bits
    → map (timed_at (put 0 ticks t.timer.0 t.tick)) (members (slice_set bits t.timer.0 true)) ≡ with_entry timer_id t (map (timed_at ticks) (members bits))
queued_put bits ticks t low =
    let o = t.timer.0 in
    let gone : is_in o (slice_set bits o false) ≡ false = get_or-set_same bits o false false low in
    let come : is_in o (slice_set bits o true) ≡ true = get_or-set_same bits o true false low in
    let less : without o (members bits) ≡ filter (λ id. is_in id (slice_set bits o false)) (range_with_len 0 (length bits)) =
    one_less (λ id. is_in id bits) (λ id. is_in id (slice_set bits o false)) o 0 (length bits) (λ y ne. get_or-set_other bits o y false false ne) gone in
    let more : in_order o (filter (λ id. is_in id (slice_set bits o false)) (range_with_len 0 (length bits))) ≡ filter (λ id. is_in id (slice_set bits o true)) (range_with_len 0 (length bits)) =
    one_more (λ id. is_in id (slice_set bits o false)) (λ id. is_in id (slice_set bits o true)) o 0 (length bits)
    (λ y ne. get_or-set_other bits o y true false ne ∙ sym (get_or-set_other bits o y false false ne)) gone come (omega arith) (omega arith) in
    let absent : contains o (filter (λ id. is_in id (slice_set bits o false)) (range_with_len 0 (length bits))) ≡ false = there (λ id. is_in id (slice_set bits o false)) o 0 (length bits) (omega arith) (omega arith) ∙ gone in
    let all : members (slice_set bits o true) ≡ in_order o (without o (members bits)) =
    ap (λ n. filter (λ id. is_in id (slice_set bits o true)) (range_with_len 0 n)) (length-set bits o true) ∙ sym more ∙ ap (in_order o) (sym less) in
    ap (map (timed_at (put 0 ticks o t.tick))) all
    ∙ sym (in_order_map ticks (put 0 ticks o t.tick) t (λ y ne. ap (λ n. record { timer = record { 0 = y }; tick = n }) (sym (entry_put_other 0 ticks o y t.tick ne)))
    (ap (λ n. record { timer = record { 0 = o }; tick = n }) (entry_put_same 0 ticks o t.tick)) (without o (members bits)) (ap (contains o) less ∙ absent))
    ∙ sym (ap (in_order_by timer_id t) (others_map ticks o (members bits)))

pub queued_stopped : (bits : List Bool) (ticks : List ℕ) (o : ℕ) → o < length bits → timers_of (slice_set bits o false) ticks ≡ stop (timers_of bits ticks) o
queued_stopped bits ticks o low =
    let less : without o (members bits) ≡ filter (λ id. is_in id (slice_set bits o false)) (range_with_len 0 (length bits)) =
    one_less (λ id. is_in id bits) (λ id. is_in id (slice_set bits o false)) o 0 (length bits) (λ y ne. get_or-set_other bits o y false false ne) (get_or-set_same bits o false false low) in
    let all : members (slice_set bits o false) ≡ without o (members bits) = ap (λ n. filter (λ id. is_in id (slice_set bits o false)) (range_with_len 0 n)) (length-set bits o false) ∙ sym less in
    let Q : List Timed → Timers = λ ts. record { queued = ts } in
    ap Q (ap (map (timed_at ticks)) all ∙ sym (others_map ticks o (members bits)))

pub none_stopped : (T : Timers) (o : ℕ) → timed_of T o ≡ None → T ≡ stop T o
none_stopped T o none = let Q : List Timed → Timers = λ ts. record { queued = ts } in ap Q (sym (others_absent timer_id o T.queued none))

-- ---- what is kept beside them

module _ (queued reached : List Bool) (ticks floors : List ℕ) (seen : ℕ) (room : HaveRoom queued reached) (a : AreReached queued ticks reached floors (λ o. seen)) where
  module _ (o tick : ℕ) (low : o < OBJECTS) where
    abbrev ticks_then : List ℕ
    ticks_then = put 0 ticks o tick

    queued_here : is_in o (slice_set queued o true) ≡ true
    queued_here = get_or-set_same queued o true false (let r = room.queued_room in omega arith)

    pub room_put : HaveRoom (slice_set queued o true) (slice_set reached o (nat_le tick seen))
    room_put =
        let q = room.queued_room in
        let r = room.reached_room in
        record {
          objects = λ x on. by x on (cases_eq x o);
          queued_room = rw (length-set queued o true) q;
          reached_room = rw (length-set reached o (nat_le tick seen)) r;
        }
      where
        by : (x : ℕ) → is_in x (slice_set queued o true) ≡ true → (x ≡ o) ⊎ (x ≢ o) → x < OBJECTS
        by x on (inl same) = omega arith
        by x on (inr other) = room.objects x (sym (get_or-set_other queued o x true false other) ∙ on)

    pub reached_put : (after : List ℕ) → ((x : ℕ) → floor_of after x ≤ floor_of floors x) → (seen < tick → floor_of after o ≤ tick)
        → AreReached (slice_set queued o true) ticks_then (slice_set reached o (nat_le tick seen)) after (λ o. seen)
    reached_put after lower here = record { due = λ x. due_by x (cases_eq x o); low = λ x on more. low_by x on more (cases_eq x o) }
      where
        due_by : (x : ℕ) → (x ≡ o) ⊎ (x ≢ o) → is_in x (slice_set reached o (nat_le tick seen)) ≡ is_reached_at (slice_set queued o true) ticks_then seen x
        due_by x (inl same) =
            let set : is_in o (slice_set reached o (nat_le tick seen)) ≡ nat_le tick seen = get_or-set_same reached o (nat_le tick seen) false (let r = room.reached_room in omega arith) in
            let tick_is : entry 0 ticks_then o ≡ tick = entry_put_same 0 ticks o tick in
            let so : is_in o (slice_set reached o (nat_le tick seen)) ≡ is_reached_at (slice_set queued o true) ticks_then seen o =
            set ∙ sym (ap (λ b. b && nat_le (entry 0 ticks_then o) seen) queued_here ∙ ap (λ n. nat_le n seen) tick_is) in
            subst (λ y. is_in y (slice_set reached o (nat_le tick seen)) ≡ is_reached_at (slice_set queued o true) ticks_then seen y) (sym same) so
        due_by x (inr other) =
            get_or-set_other reached o x (nat_le tick seen) false other ∙ a.due x
            ∙ sym (ap (λ b. b && nat_le (entry 0 ticks_then x) seen) (get_or-set_other queued o x true false other) ∙ ap (λ n. is_in x queued && nat_le n seen) (entry_put_other 0 ticks o x tick other))

        low_by : (x : ℕ) → is_in x (slice_set queued o true) ≡ true → seen < entry 0 ticks_then x → (x ≡ o) ⊎ (x ≢ o) → floor_of after x ≤ entry 0 ticks_then x
        low_by x on more (inl same) =
            let tick_is : entry 0 ticks_then x ≡ tick = ap (entry 0 ticks_then) same ∙ entry_put_same 0 ticks o tick in
            let floor = here (omega arith) in
            let floor_is : floor_of after x ≡ floor_of after o = ap (floor_of after) same in
            omega arith
        low_by x on more (inr other) =
            let tick_is : entry 0 ticks_then x ≡ entry 0 ticks x = entry_put_other 0 ticks o x tick other in
            let was = a.low x (sym (get_or-set_other queued o x true false other) ∙ on) (omega arith) in
            let no_more = lower x in
            omega arith

    pub least_put : (least after : ℕ) → IsLeast queued ticks OBJECTS seen least → after ≤ least → (seen < tick → after ≤ tick) → IsLeast (slice_set queued o true) ticks_then OBJECTS seen after
    least_put least after l lower here = record { low = λ x below on more. by x below on more (cases_eq x o) }
      where
        by : (x : ℕ) → x < OBJECTS → is_in x (slice_set queued o true) ≡ true → seen < entry 0 ticks_then x → (x ≡ o) ⊎ (x ≢ o) → after ≤ entry 0 ticks_then x
        by x below on more (inl same) =
            let tick_is : entry 0 ticks_then x ≡ tick = ap (entry 0 ticks_then) same ∙ entry_put_same 0 ticks o tick in
            let low = here (omega arith) in
            omega arith
        by x below on more (inr other) =
            let tick_is : entry 0 ticks_then x ≡ entry 0 ticks x = entry_put_other 0 ticks o x tick other in
            let was = l.low x below (sym (get_or-set_other queued o x true false other) ∙ on) (omega arith) in
            omega arith

  module _ (o : ℕ) (low : o < OBJECTS) where
    still_in : (bits : List Bool) (x : ℕ) → o < length bits → is_in x (slice_set bits o false) ≡ true → (x ≢ o) × (is_in x bits ≡ true)
    still_in bits x within on = by (cases_eq x o)
      where
        by : (x ≡ o) ⊎ (x ≢ o) → (x ≢ o) × (is_in x bits ≡ true)
        by (inl same) = absurd (let off : is_in x (slice_set bits o false) ≡ false = ap (λ y. is_in y (slice_set bits o false)) same ∙ get_or-set_same bits o false false within in let z : ⊥ = cc in z)
        by (inr other) = (other, sym (get_or-set_other bits o x false false other) ∙ on)

    pub room_stopped : HaveRoom (slice_set queued o false) (slice_set reached o false)
    room_stopped =
        let q = room.queued_room in
        let r = room.reached_room in
        record {
          objects = λ x on. room.objects x (still_in queued x (omega arith) on).1;
          queued_room = rw (length-set queued o false) q;
          reached_room = rw (length-set reached o false) r;
        }

    pub reached_stopped : AreReached (slice_set queued o false) ticks (slice_set reached o false) floors (λ o. seen)
    reached_stopped =
        let q = room.queued_room in
        let r = room.reached_room in
        record { due = λ x. due_by x (omega arith) (omega arith) (cases_eq x o); low = λ x on more. a.low x (still_in queued x (omega arith) on).1 more }
      where
        due_by : (x : ℕ) → o < length queued → o < length reached → (x ≡ o) ⊎ (x ≢ o) → is_in x (slice_set reached o false) ≡ is_reached_at (slice_set queued o false) ticks seen x
        due_by x q r (inl same) =
            ap (λ y. is_in y (slice_set reached o false)) same ∙ get_or-set_same reached o false false r
            ∙ sym (ap (λ b. b && nat_le (entry 0 ticks x) seen) (ap (λ y. is_in y (slice_set queued o false)) same ∙ get_or-set_same queued o false false q))
        due_by x q r (inr other) =
            get_or-set_other reached o x false false other ∙ a.due x ∙ sym (ap (λ b. b && nat_le (entry 0 ticks x) seen) (get_or-set_other queued o x false false other))

    pub least_stopped : (least : ℕ) → IsLeast queued ticks OBJECTS seen least → IsLeast (slice_set queued o false) ticks OBJECTS seen least
    least_stopped least l =
        let q = room.queued_room in
        record { low = λ x below on more. l.low x below (still_in queued x (omega arith) on).1 more }

  -- ---- what the reached ones say

  reached_due : (o : ℕ) → is_in o reached ≡ timer_due (timers_of queued ticks) o seen
  reached_due o = a.due o ∙ due_is queued ticks seen o

  pub due_counted : (o : ℕ) → rank o reached ≡ length (filter (λ x. timer_due (timers_of queued ticks) x seen) (range_with_len 0 o))
  due_counted o = rank_first reached (λ x. timer_due (timers_of queued ticks) x seen) reached_due o

  pub due_members : members reached ≡ due_ids (timers_of queued ticks) seen
  unfolding due_from
  due_members = members_where reached (λ x. timer_due (timers_of queued ticks) x seen) (OBJECTS - 0) reached_due (λ x past. off_by queued ticks seen x (is_in x queued) refl (λ on. let low = room.objects x on in absurd (omega arith)))

  -- ---- some are due later

  filter_both : (p q : ℕ → Bool) (xs : List ℕ) → filter (λ x. p x && q x) xs ≡ filter q (filter p xs)
  filter_both p q [] = refl
  filter_both p q (x ∷ xs) = by (p x) (q x) refl (filter_both p q xs)
    where
      by : (b c : Bool) → q x ≡ c → filter (λ y. p y && q y) xs ≡ filter q (filter p xs)
          → (if b && c then x ∷ filter (λ y. p y && q y) xs else filter (λ y. p y && q y) xs) ≡ filter q (if b then x ∷ filter p xs else filter p xs)
      by true true e rest = rw e (ap (λ ys. x ∷ ys) rest)
      by true false e rest = rw e rest
      by false c e rest = rest

  fewer : (q : ℕ → Bool) (xs : List ℕ) → length (filter q xs) ≤ length xs
  fewer q [] = omega arith
  fewer q (x ∷ xs) = by (q x) (fewer q xs)
    where
      by : (b : Bool) → length (filter q xs) ≤ length xs → length (if b then x ∷ filter q xs else filter q xs) ≤ suc (length xs)
      by true h = omega arith
      by false h = omega arith

  some_left : (xs : List ℕ) → nat_lt (length (filter (λ x. nat_le (entry 0 ticks x) seen) xs)) (length xs) ≡ list_any (λ (t : Timed). nat_lt seen t.tick) (map (timed_at ticks) xs)
  some_left [] = refl
  some_left (x ∷ xs) = by (nat_le (entry 0 ticks x) seen) refl (fewer (λ y. nat_le (entry 0 ticks y) seen) xs) (some_left xs)
    where
      not_later : (t : ℕ) → nat_le t seen ≡ true → nat_lt seen t ≡ false
      not_later t e = grind (arith, nat_tests)

      is_later : (t : ℕ) → nat_le t seen ≡ false → nat_lt seen t ≡ true
      is_later t e = grind (arith, nat_tests)

      one_on : (m n : ℕ) → nat_lt (suc m) (suc n) ≡ nat_lt m n
      one_on m n = grind (arith, nat_tests)

      by : (b : Bool) → nat_le (entry 0 ticks x) seen ≡ b → length (filter (λ y. nat_le (entry 0 ticks y) seen) xs) ≤ length xs
          → nat_lt (length (filter (λ y. nat_le (entry 0 ticks y) seen) xs)) (length xs) ≡ list_any (λ (t : Timed). nat_lt seen t.tick) (map (timed_at ticks) xs)
          → nat_lt (length (if b then x ∷ filter (λ y. nat_le (entry 0 ticks y) seen) xs else filter (λ y. nat_le (entry 0 ticks y) seen) xs)) (suc (length xs)) ≡ (nat_lt seen (entry 0 ticks x) || list_any (λ (t : Timed). nat_lt seen t.tick) (map (timed_at ticks) xs))
      by true e few rest =
          let at_once : nat_lt seen (entry 0 ticks x) ≡ false = not_later (entry 0 ticks x) e in
          one_on (length (filter (λ y. nat_le (entry 0 ticks y) seen) xs)) (length xs) ∙ rest ∙ sym (ap (λ b. b || list_any (λ (t : Timed). nat_lt seen t.tick) (map (timed_at ticks) xs)) at_once)
      by false e few rest =
          let later : nat_lt seen (entry 0 ticks x) ≡ true = is_later (entry 0 ticks x) e in
          lt-ltb (length (filter (λ y. nat_le (entry 0 ticks y) seen) xs)) (suc (length xs)) (omega arith) ∙ sym (ap (λ b. b || list_any (λ (t : Timed). nat_lt seen t.tick) (map (timed_at ticks) xs)) later)

  pub later_counted : nat_lt (length (members reached)) (length (members queued)) ≡ any_later_timer (timers_of queued ticks) seen
  later_counted =
      let none : (x : ℕ) → length queued ≤ x → is_reached_at queued ticks seen x ≡ false = λ x past. nothing x past (is_in x queued) refl in
      let all : members reached ≡ filter (λ x. nat_le (entry 0 ticks x) seen) (members queued) =
      members_where reached (is_reached_at queued ticks seen) (length queued) a.due none ∙ filter_both (λ x. is_in x queued) (λ x. nat_le (entry 0 ticks x) seen) (range_with_len 0 (length queued)) in
      ap (λ xs. nat_lt (length xs) (length (members queued))) all ∙ some_left (members queued)
    where
      nothing : (x : ℕ) → length queued ≤ x → (b : Bool) → is_in x queued ≡ b → (b && nat_le (entry 0 ticks x) seen) ≡ false
      nothing x past true e = absurd (let low = member_within x queued e in omega arith)
      nothing x past false e = refl

-- ---- places

pub map_at : (ticks : List ℕ) (xs : List ℕ) (k x : ℕ) → slice_get xs k ≡ Some x → slice_get (map (timed_at ticks) xs) k ≡ Some (timed_at ticks x)
map_at ticks [] k x e = absurd (let z : ⊥ = cc in z)
map_at ticks (y ∷ ys) zero x e = let same : y ≡ x = cc in ap (λ z. Some (timed_at ticks z)) same
map_at ticks (y ∷ ys) (suc k) x e = map_at ticks ys k x e

pub map_past : (ticks : List ℕ) (xs : List ℕ) (k : ℕ) → slice_get xs k ≡ None → length (map (timed_at ticks) xs) ≤ k
map_past ticks [] k e = omega arith
map_past ticks (y ∷ ys) zero e = absurd (let z : ⊥ = cc in z)
map_past ticks (y ∷ ys) (suc k) e = let rest = map_past ticks ys k e in omega arith

pub length_map : (ticks : List ℕ) (xs : List ℕ) → length (map (timed_at ticks) xs) ≡ length xs
length_map ticks [] = refl
length_map ticks (x ∷ xs) = ap suc (length_map ticks xs)

pub place_there : (xs : List ℕ) (k : ℕ) → k < length xs → (x : ℕ) × (slice_get xs k ≡ Some x)
place_there [] k l = absurd (omega arith)
place_there (x ∷ xs) zero l = (x, refl)
place_there (x ∷ xs) (suc k) l = place_there xs k (omega arith)

-- a number at a place passes the test, and as many before it do
placed_back : (p : ℕ → Bool) (a n k x : ℕ) → slice_get (filter p (range_with_len a n)) k ≡ Some x → (m : ℕ) × (x ≡ a + m) × (p x ≡ true) × (length (filter p (range_with_len a m)) ≡ k)
placed_back p a zero k x e = absurd (let z : ⊥ = cc in z)
placed_back p a (suc n) k x e = by (λ j. placed_back p (a + 1) n j x) (p a) refl k e
  where
    by : ((j : ℕ) → slice_get (filter p (range_with_len (a + 1) n)) j ≡ Some x → (m : ℕ) × (x ≡ a + 1 + m) × (p x ≡ true) × (length (filter p (range_with_len (a + 1) m)) ≡ j))
        → (b : Bool) → p a ≡ b → (j : ℕ) → slice_get (cond b (a ∷ filter p (range_with_len (a + 1) n)) (filter p (range_with_len (a + 1) n))) j ≡ Some x
        → (m : ℕ) × (x ≡ a + m) × (p x ≡ true) × (length (filter p (range_with_len a m)) ≡ j)
    by more true on zero at = let same : a ≡ x = cc in (0, omega arith, ap p (sym same) ∙ on, refl)
    by more true on (suc j) at =
        let rest = more j at in
        (suc rest.0, (let is = rest.1 in omega arith), rest.2, rw on (ap suc rest.3))
    by more false off j at =
        let rest = more j at in
        (suc rest.0, (let is = rest.1 in omega arith), rest.2, rw off rest.3)

-- the member at a place has that rank
pub ranked : (bits : List Bool) (k x : ℕ) → slice_get (members bits) k ≡ Some x → (is_in x bits ≡ true) × (rank x bits ≡ k)
ranked bits k x e =
    let found = placed_back (λ id. is_in id bits) 0 (length bits) k x e in
    let same : found.0 ≡ x = (let is = found.1 in omega arith) in
    (found.2, rank_first bits (λ id. is_in id bits) (λ y. refl) x ∙ ap (λ n. length (filter (λ id. is_in id bits) (range_with_len 0 n))) (sym same) ∙ found.3)

module _ (queued reached : List Bool) (ticks floors : List ℕ) (now from start : ℕ) (room : HaveRoom queued reached) (a : AreReached queued ticks reached floors (λ o. now)) (first : slice_get (members queued) from ≡ Some start) where
  off_due : (k y : ℕ) → slice_get (members queued) k ≡ Some y → is_in y reached ≡ false → is_due_at (timers_of queued ticks) now k ≡ false
  off_due k y at off =
      let on : is_in y queued ≡ true = (ranked queued k y at).0 in
      let not_due : is_reached_at queued ticks now y ≡ false = sym (a.due y) ∙ off in
      ap (is_reached now) (map_at ticks (members queued) k y at) ∙ sym (ap (λ b. b && nat_le (entry 0 ticks y) now) on) ∙ not_due

  -- none of the places up to the rank of an id is due, where none of the ids is reached
  none_due_by : (o k : ℕ) (found : Option ℕ) → NoneFrom (λ y. is_in y reached) start o → from ≤ k → ((y : ℕ) → found ≡ Some y → y < o) → slice_get (members queued) k ≡ found → is_due_at (timers_of queued ticks) now k ≡ false
  none_due_by o k None none above under at = ap (is_reached now) (past (members queued) k at)
    where
      past : (xs : List ℕ) (j : ℕ) → slice_get xs j ≡ None → slice_get (map (timed_at ticks) xs) j ≡ None
      past [] j e = refl
      past (y ∷ ys) zero e = absurd (let z : ⊥ = cc in z)
      past (y ∷ ys) (suc j) e = past ys j e
  none_due_by o k (Some y) none above under at =
      let mine = ranked queued k y at in
      let firsts = ranked queued from start first in
      off_due k y at (none y (not_before y mine.0 mine.1 firsts.1 (cases_lt y start)) (under y refl))
    where
      not_before : (y : ℕ) → is_in y queued ≡ true → rank y queued ≡ k → rank start queued ≡ from → (y < start) ⊎ (start ≤ y) → start ≤ y
      not_before y on is first_is (inl less) = absurd (
          let step : rank (y + 1) queued ≡ rank y queued + 1 = rank_step queued y ∙ ap (λ b. rank y queued + one b) on in
          let up = rank_mono queued (y + 1) start (omega arith) in
          omega arith)
      not_before y on is first_is (inr more) = more

  pub next_place : (o : ℕ) → IsNext (λ y. is_in y reached) start OBJECTS o → IsNext (is_due_at (timers_of queued ticks) now) from (length (map (timed_at ticks) (members queued))) (rank o queued)
  next_place o next =
      let on : is_reached_at queued ticks now o ≡ true = sym (a.due o) ∙ next.passes in
      let here : is_in o queued ≡ true = both_left (is_in o queued) (nat_le (entry 0 ticks o) now) on in
      let firsts = ranked queued from start first in
      let up = rank_mono queued start o next.after in
      let low = member_within o queued here in
      let step : rank (o + 1) queued ≡ rank o queued + 1 = rank_step queued o ∙ ap (λ b. rank o queued + one b) here in
      let end = rank_mono queued (o + 1) (length queued) (omega arith) in
      let all : length (map (timed_at ticks) (members queued)) ≡ rank (length queued) queued = length_map ticks (members queued) ∙ length_members queued in
      record {
        after = (let first_is = firsts.1 in omega arith);
        within = omega arith;
        passes = ap (is_reached now) (map_at ticks (members queued) (rank o queued) o (member_at_rank queued o here)) ∙ both_right (is_in o queued) (nat_le (entry 0 ticks o) now) on;
        before = λ k above below. none_due_by o k (slice_get (members queued) k) next.before above (λ y at. rank_below queued y o (let mine = (ranked queued k y at).1 in omega arith)) refl;
      }

  pub no_place : (end : ℕ) → NoneFrom (λ y. is_in y reached) start OBJECTS → NoneFrom (is_due_at (timers_of queued ticks) now) from end
  no_place end none k above below = none_due_by OBJECTS k (slice_get (members queued) k) none above (λ y at. room.objects y (ranked queued k y at).0) refl

pub none_after : (p : ℕ → Bool) (from end : ℕ) → end ≤ from → NoneFrom p from end
none_after p from end h k above below = absurd (omega arith)

-- ---- none is queued

nothing_in : (bits : List Bool) (o : ℕ) → members bits ≡ [] → is_in o bits ≡ false
nothing_in bits o none = is_member o bits ∙ ap (contains o) none

pub sound_none : (queued reached : List Bool) (ticks floors : List ℕ) (least : ℕ) → members queued ≡ [] → OBJECTS ≤ length queued → members reached ≡ [] → OBJECTS ≤ length reached
    → IsSound (record { queued = queued; ticks = ticks; reached = reached; floors = floors; least = least; seen = 0 })
sound_none queued reached ticks floors least none long no_more wide = record {
  room = record {
    objects = λ o on. absurd (let off : is_in o queued ≡ false = nothing_in queued o none in let z : ⊥ = cc in z);
    queued_room = long;
    reached_room = wide;
  };
  reached = record {
    due = λ o. nothing_in reached o no_more ∙ sym (ap (λ b. b && nat_le (entry 0 ticks o) 0) (nothing_in queued o none));
    low = λ o on late. absurd (let off : is_in o queued ≡ false = nothing_in queued o none in let z : ⊥ = cc in z);
  };
  least = record { low = λ o below on late. absurd (let off : is_in o queued ≡ false = nothing_in queued o none in let z : ⊥ = cc in z) };
}

-- ---- a floor is lowered

pub floor_lowered : (floors : List ℕ) (o tick : ℕ) → ((x : ℕ) → floor_of (put NEVER floors (o / 64) (min (floor_of floors o) tick)) x ≤ floor_of floors x) × (floor_of (put NEVER floors (o / 64) (min (floor_of floors o) tick)) o ≤ tick)
floor_lowered floors o tick = (
  λ x. by x (cases_eq (x / 64) (o / 64)),
  (let is : floor_of (put NEVER floors (o / 64) (min (floor_of floors o) tick)) o ≡ min (floor_of floors o) tick = entry_put_same NEVER floors (o / 64) (min (floor_of floors o) tick) in omega arith),
)
  where
    by : (x : ℕ) → (x / 64 ≡ o / 64) ⊎ (x / 64 ≢ o / 64) → floor_of (put NEVER floors (o / 64) (min (floor_of floors o) tick)) x ≤ floor_of floors x
    by x (inl same) =
        let is : floor_of (put NEVER floors (o / 64) (min (floor_of floors o) tick)) x ≡ min (floor_of floors o) tick = ap (entry NEVER (put NEVER floors (o / 64) (min (floor_of floors o) tick))) same ∙ entry_put_same NEVER floors (o / 64) (min (floor_of floors o) tick) in
        let was : floor_of floors x ≡ floor_of floors o = ap (entry NEVER floors) same in
        omega arith
    by x (inr other) =
        let is : floor_of (put NEVER floors (o / 64) (min (floor_of floors o) tick)) x ≡ floor_of floors x = entry_put_other NEVER floors (o / 64) (x / 64) (min (floor_of floors o) tick) other in
        omega arith

-- ---- loops

drop_suc : {T : Type 0} (xs : List T) (k : ℕ) (x : T) → slice_get xs k ≡ Some x → drop k xs ≡ x ∷ drop (suc k) xs
drop_suc [] k x e = absurd (let z : ⊥ = cc in z)
drop_suc (y ∷ ys) zero x e = let same : y ≡ x = cc in ap (λ z. z ∷ ys) same
drop_suc (y ∷ ys) (suc k) x e = drop_suc ys k x e

pub drop_at : {T : Type 0} (xs : List T) (k : ℕ) (x : T) → slice_get xs k ≡ Some x → drop k xs ≡ x ∷ drop (k + 1) xs
drop_at xs k x e = let more : suc k ≡ k + 1 = omega arith in drop_suc xs k x e ∙ ap (λ n. x ∷ drop n xs) more

pub drop_all : {T : Type 0} (xs : List T) (k : ℕ) → length xs ≤ k → drop k xs ≡ []
drop_all [] zero h = refl
drop_all [] (suc k) h = refl
drop_all (x ∷ xs) zero h = absurd (omega arith)
drop_all (x ∷ xs) (suc k) h = drop_all xs k (omega arith)

-- the ids from one on, by whether the first passes
pub first_passes : (p : ℕ → Bool) (id end : ℕ) → id < end → p id ≡ true → filter p (range_with_len id (end - id)) ≡ id ∷ filter p (range_with_len (id + 1) (end - (id + 1)))
first_passes p id end l on = let e : end - id ≡ suc (end - (id + 1)) = omega arith in rw (e, on) refl

pub first_fails : (p : ℕ → Bool) (id end : ℕ) → id < end → p id ≡ false → filter p (range_with_len id (end - id)) ≡ filter p (range_with_len (id + 1) (end - (id + 1)))
first_fails p id end l off = let e : end - id ≡ suc (end - (id + 1)) = omega arith in rw (e, off) refl

pub due_here : (T : Timers) (now id : ℕ) → id < OBJECTS → timer_due T id now ≡ true → due_from T now id ≡ id ∷ due_from T now (id + 1)
unfolding due_from
due_here T now id l on = first_passes (λ o. timer_due T o now) id OBJECTS l on

pub not_here : (T : Timers) (now id : ℕ) → id < OBJECTS → timer_due T id now ≡ false → due_from T now id ≡ due_from T now (id + 1)
unfolding due_from
not_here T now id l off = first_fails (λ o. timer_due T o now) id OBJECTS l off

pub none_further : (T : Timers) (now id : ℕ) → OBJECTS ≤ id → due_from T now id ≡ []
unfolding due_from
none_further T now id l = let e : OBJECTS - id ≡ 0 = omega arith in rw e refl

-- the ids below an end are counted
pub one_counted : (p : ℕ → Bool) (id end count all : ℕ) → id < end → p id ≡ true → count + length (filter p (range_with_len id (end - id))) ≡ all → count + 1 + length (filter p (range_with_len (id + 1) (end - (id + 1)))) ≡ all
one_counted p id end count all l on h = let e = ap length (first_passes p id end l on) in omega arith

pub none_counted : (p : ℕ → Bool) (id end count all : ℕ) → id < end → p id ≡ false → count + length (filter p (range_with_len id (end - id))) ≡ all → count + length (filter p (range_with_len (id + 1) (end - (id + 1)))) ≡ all
none_counted p id end count all l off h = let e = ap length (first_fails p id end l off) in omega arith

pub not_later : (now t : ℕ) → t ≤ now → nat_lt now t ≡ false
not_later now t h = grind (arith, nat_tests)
