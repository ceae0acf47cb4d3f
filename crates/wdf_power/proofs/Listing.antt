-- The lists of the requests that are held, by device.
use Rattle.std.proofs.Common.{◌≡◌, ◌≢◌, ◌⊎◌, inl, inr, ℕ, zero, suc, ◌<◌, Bool, true, false, ◌==◌, not, ◌&&◌, ◌||◌, List, [], ◌∷◌, ◌++◌, length, map, slice_set, get_or-set_same, Some, None, replicate, refl, sym, ap, ◌∙◌}
use Rattle.std.proofs.Math.Bool.{and-false, and-true, or-false}
use Rattle.std.proofs.lemmas.Bool.{and_parts, cases_eq, cases_lt, eq-eqb, eqb-true, ne_eqb}
use Rattle.std.proofs.lemmas.List.{get_or-set_other, length-replicate}
use Rattle.std.proofs.lemmas.List.FromFn.{length-map-range_with_len}
use Rattle.wdf_base.specs.declared.plan.Plan.{Plan}
use Rattle.wdf_model.specs.Plans.{declared_ids}
use Rattle.wdf_model.specs.declared.entries.DevicePower.{DevicePower}
use Rattle.wdf_model.specs.declared.entries.Holding.{Holding}
use Rattle.wdf_model.specs.declared.entries.QueuePower.{QueuePower}
use Rattle.wdf_model.specs.Tables.{entry, put}
use Rattle.wdf_model.specs.parts.Power.{Power, is_held, is_held_at, is_unsettled_at, no_holding, opening_power, opening_queue_power, woken}
use Rattle.wdf_model.proofs.Counts.{one_or_two}
use Rattle.wdf_model.proofs.Maps.{entry_map, entry_past, entry_put_other, entry_put_same}
use Rattle.wdf_ilist.specs.Family.{Family, is_on, is_on_any, list_at, without}
use Rattle.wdf_ilist.proofs.Items.{off_without, on_without, on_pushed}
use Rattle.wdf_ilist.proofs.Lists.{map_at, off_all}
use Rattle.wdf_power.specs.Held.{AreListed}
use Rattle.wdf_power.specs.Power.{device_at, held_list, is_list, device_list, opening_device_at, IsMoved}

-- ---- a request is on another list

pub off_left : (lists : List (List ℕ)) (r l : ℕ) → is_on r (list_at (map (without r) lists) l) ≡ false
off_left lists r l = ap (is_on r) (map_at (without r) lists l refl) ∙ off_without r (list_at lists l)

pub on_left : (lists : List (List ℕ)) (r k l : ℕ) → k ≢ r → is_on k (list_at (map (without r) lists) l) ≡ is_on k (list_at lists l)
on_left lists r k l ne = ap (is_on k) (map_at (without r) lists l refl) ∙ on_without r k (list_at lists l) ne

pub free_left : (lists : List (List ℕ)) (r : ℕ) → is_on_any r (map (without r) lists) ≡ false
free_left lists r = off_all r (map (without r) lists) (λ l. off_left lists r l)

-- on none
pub moved_off : (lists : List (List ℕ)) (r : ℕ) → IsMoved lists (map (without r) lists) r None
moved_off lists r = record { here = λ l. off_left lists r l; others = λ k l ne. on_left lists r k l ne }

-- the lists after a push
pushed_on : (lists : List (List ℕ)) (t r k l : ℕ) → t < length lists → (l ≡ t) ⊎ (l ≢ t)
    → is_on k (list_at (slice_set lists t (list_at lists t ++ r ∷ [])) l) ≡ (is_on k (list_at lists l) || ((r == k) && (t == l)))
pushed_on lists t r k l h (inl e) =
    let same : (t == t) ≡ true = eq-eqb t t refl in
    let both : ((r == k) && true) ≡ (r == k) = and-true (r == k) in
    rw e (ap (is_on k) (get_or-set_same lists t (list_at lists t ++ r ∷ []) [] h) ∙ on_pushed r k (list_at lists t) ∙ ap (λ b. is_on k (list_at lists t) || b) (sym both ∙ ap (λ b. (r == k) && b) (sym same)))
pushed_on lists t r k l h (inr ne) =
    let differs : (t == l) ≡ false = ne_eqb t l (λ e. ne (sym e)) in
    let none : ((r == k) && false) ≡ false = and-false (r == k) in
    ap (is_on k) (get_or-set_other lists t l (list_at lists t ++ r ∷ []) [] ne) ∙ sym (or-false (is_on k (list_at lists l))) ∙ ap (λ b. is_on k (list_at lists l) || b) (sym none ∙ ap (λ b. (r == k) && b) (sym differs))

moved_here : (lists : List (List ℕ)) (r t l : ℕ) → t < length lists → is_on r (list_at lists l) ≡ false → is_on r (list_at (slice_set lists t (list_at lists t ++ r ∷ [])) l) ≡ (t == l)
moved_here lists r t l h off =
    let same : (r == r) ≡ true = eq-eqb r r refl in
    pushed_on lists t r r l h (cases_eq l t) ∙ (ap (λ b. b || ((r == r) && (t == l))) off ∙ ap (λ b. b && (t == l)) same)

moved_other : (lists : List (List ℕ)) (r t k l : ℕ) → t < length lists → k ≢ r → is_on k (list_at (slice_set lists t (list_at lists t ++ r ∷ [])) l) ≡ is_on k (list_at lists l)
moved_other lists r t k l h ne =
    let differs : (r == k) ≡ false = ne_eqb r k (λ e. ne (sym e)) in
    pushed_on lists t r k l h (cases_eq l t) ∙ (ap (λ b. is_on k (list_at lists l) || (b && (t == l))) differs ∙ or-false (is_on k (list_at lists l)))

-- on list t
pub moved_on : (lists left : List (List ℕ)) (r t : ℕ) → left ≡ map (without r) lists → t < length left → IsMoved lists (slice_set left t (list_at left t ++ r ∷ [])) r (Some t)
moved_on lists left r t e h =
    record {
      here = λ l. moved_here left r t l h (rw e (off_left lists r l));
      others = λ k l ne. moved_other left r t k l h ne ∙ rw e (on_left lists r k l ne);
    }

-- ---- what a write of a request leaves

listed_by : (qs : List QueuePower) (hs : List Holding) (lists lists' : List (List ℕ)) (r : ℕ) (new : Holding) (k l : ℕ) → AreListed qs hs lists → IsMoved lists lists' r (held_list qs new)
    → (k ≡ r) ⊎ (k ≢ r) → is_on k (list_at lists' l) ≡ is_list l (held_list qs (entry no_holding (put no_holding hs r new) k))
listed_by qs hs lists lists' r new k l a m (inl e) = rw e (m.here l ∙ ap (λ h. is_list l (held_list qs h)) (sym (entry_put_same no_holding hs r new)))
listed_by qs hs lists lists' r new k l a m (inr ne) = m.others k l ne ∙ (a.on k l ∙ ap (λ h. is_list l (held_list qs h)) (sym (entry_put_other no_holding hs r k new ne)))

pub listed_written : (qs : List QueuePower) (hs : List Holding) (lists lists' : List (List ℕ)) (r : ℕ) (new : Holding) → AreListed qs hs lists → IsMoved lists lists' r (held_list qs new)
    → AreListed qs (put no_holding hs r new) lists'
listed_written qs hs lists lists' r new a m = record { on = λ k l. listed_by qs hs lists lists' r new k l a m (one_or_two k r) }

-- ---- what a waking leaves

kept_queue_by : (P : Power) (d : ℕ) (h : Holding) (b : Bool) → is_held_at P d h ≡ b → (woken P d h).queue ≡ h.queue
kept_queue_by P d h true e = rw e refl
kept_queue_by P d h false e = rw e refl

-- who is woken is still held from the same queue
pub kept_queue : (P : Power) (d : ℕ) (h : Holding) → (woken P d h).queue ≡ h.queue
kept_queue P d h = kept_queue_by P d h (is_held_at P d h) refl

pub same_list : (qs : List QueuePower) (h g : Holding) → h.queue ≡ g.queue → held_list qs h ≡ held_list qs g
same_list qs h g e = rw e refl

pub listed_woken : (P : Power) (d : ℕ) (lists : List (List ℕ)) → AreListed P.queues P.holdings lists → AreListed P.queues (map (woken P d) P.holdings) lists
listed_woken P d lists a =
    record {
      on = λ r l.
          let h = entry no_holding P.holdings r in
          let same : held_list P.queues (woken P d h) ≡ held_list P.queues h = same_list P.queues (woken P d h) h (kept_queue P d h) in
          a.on r l ∙ ap (is_list l) (sym same ∙ ap (held_list P.queues) (sym (entry_map no_holding P.holdings (woken P d) r refl)));
    }

-- ---- who is on a list

-- a request that is held at a device is on its list
pub on_own : (P : Power) (d r : ℕ) (lists : List (List ℕ)) → AreListed P.queues P.holdings lists → is_held_at P d (entry no_holding P.holdings r) ≡ true → is_on r (list_at lists (device_list d)) ≡ true
on_own P d r lists a e =
    let h = entry no_holding P.holdings r in
    a.on r (device_list d) ∙ own P d h (is_held h) refl e
  where
    own : (P : Power) (d : ℕ) (h : Holding) (b : Bool) → is_held h ≡ b → is_held_at P d h ≡ true → is_list (device_list d) (held_list P.queues h) ≡ true
    own P d h true b e =
        let here : ((device_at P.queues h).0 == d) ≡ true = ap (λ c. c && ((device_at P.queues h).0 == d)) (sym b) ∙ e in
        let device : (device_at P.queues h).0 ≡ d = eqb-true (device_at P.queues h).0 d here in
        rw (b, device) (eq-eqb (device_list d) (device_list d) refl)
    own P d h false b e = absurd (let z : ⊥ = cc in z)

-- who is held has an entry
pub listed_there : (qs : List QueuePower) (hs : List Holding) (r l : ℕ) → is_list l (held_list qs (entry no_holding hs r)) ≡ true → r < length hs
listed_there qs hs r l e =
    elim (cases_lt r (length hs)) [
      | inl h ↦ h
      | inr past ↦ absurd (let none : is_list l (held_list qs (entry no_holding hs r)) ≡ false = ap (λ h. is_list l (held_list qs h)) (entry_past no_holding hs r past) in let z : ⊥ = cc in z)
    ]

-- nobody is on a list at first
pub none_listed : (qs : List QueuePower) (n : ℕ) → AreListed qs [] (replicate n [])
none_listed qs n = record { on = λ r l. ap (is_on r) (empty_at n l) }
  where
    empty_at : (n l : ℕ) → list_at (replicate n []) l ≡ []
    empty_at zero l = refl
    empty_at (suc n) zero = refl
    empty_at (suc n) (suc l) = empty_at n l

pub listed_made : (qs : List QueuePower) (hs : List Holding) (F : Family) (n m : ℕ) → hs ≡ [] → F ≡ record { lists = replicate n []; items = m } → AreListed qs hs F.lists
listed_made qs hs F n m h e = rw (h, e) (none_listed qs n)

pub lists_made : (F : Family) (n m : ℕ) → F ≡ record { lists = replicate n []; items = m } → length F.lists ≡ n
lists_made F n m e = rw e (length-replicate n [])

-- each declared id is in both tables
pub as_many_made : (plan : Plan) (queues : List QueuePower) (devices : List DevicePower) → queues ≡ (opening_power plan).queues → devices ≡ map (opening_device_at plan) (declared_ids plan) → length queues ≡ length devices
as_many_made plan queues devices q d =
    let n : ℕ = suc (length plan.declared) in
    ap length q ∙ length-map-range_with_len (opening_queue_power plan) 0 n ∙ sym (ap length d ∙ length-map-range_with_len (opening_device_at plan) 0 n)

-- ---- who is unsettled

unsettled_parts : (P : Power) (d : ℕ) (h : Holding) → is_unsettled_at P d h ≡ true → is_held_at P d h ≡ true
unsettled_parts P d h e = (and_parts (is_held_at P d h) (not h.acknowledged) e).0

pub unsettled_on : (P : Power) (d : ℕ) (lists : List (List ℕ)) → AreListed P.queues P.holdings lists → (r : ℕ) → is_unsettled_at P d (entry no_holding P.holdings r) ≡ true → is_on r (list_at lists (device_list d)) ≡ true
unsettled_on P d lists a r e = on_own P d r lists a (unsettled_parts P d (entry no_holding P.holdings r) e)

pub unsettled_there : (P : Power) (d : ℕ) (lists : List (List ℕ)) → AreListed P.queues P.holdings lists → (r : ℕ) → is_unsettled_at P d (entry no_holding P.holdings r) ≡ true → r < length P.holdings
unsettled_there P d lists a r e = listed_there P.queues P.holdings r (device_list d) (sym (a.on r (device_list d)) ∙ unsettled_on P d lists a r e)
