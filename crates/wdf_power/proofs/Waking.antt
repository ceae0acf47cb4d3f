-- The queues of a device come up: its held requests are woken one by one.
use Rattle.std.proofs.Common.{◌⊎◌, inl, inr, ◌≡◌, ◌≢◌, ℕ, zero, suc, ◌<◌, Bool, true, false, List, [], ◌∷◌, ◌++◌, length, map, refl, sym, ap, ◌∙◌, arith}
use Rattle.std.proofs.lemmas.Bool.{cases_Bool}
use Rattle.wdf_model.specs.declared.entries.Holding.{Holding}
use Rattle.wdf_model.specs.Tables.{entry, put}
use Rattle.wdf_model.specs.parts.Power.{Power, is_held_at, no_holding, woken}
use Rattle.wdf_model.proofs.Counts.{one_or_two}
use Rattle.wdf_model.proofs.Maps.{entry_put_other, entry_put_same}
use Rattle.wdf_ilist.specs.Family.{is_on, list_at}
use Rattle.wdf_power.specs.Held.{AreListed}
use Rattle.wdf_power.specs.Power.{held_list, is_list, device_list}
use Rattle.wdf_power.proofs.Low.{one_of}
use Rattle.wdf_power.proofs.Listing.{kept_queue, listed_there, on_own, same_list}

-- How far the waking of a device's requests has come from P: those on the list are done.
pub record Waking (P now : Power) (d : ℕ) (xs : List ℕ) : Type 0 where
  pub devices : now.devices ≡ P.devices
  pub queues : now.queues ≡ P.queues
  pub to_come : map (woken P d) now.holdings ≡ map (woken P d) P.holdings
  pub same_queue : (k : ℕ) → (entry no_holding now.holdings k).queue ≡ (entry no_holding P.holdings k).queue
  pub awake : (k : ℕ) → is_on k xs ≡ true → woken P d (entry no_holding now.holdings k) ≡ entry no_holding now.holdings k

-- who is awake stays as it is
awake_by : (P : Power) (d : ℕ) (h : Holding) (b : Bool) → is_held_at P d h ≡ b → woken P d (woken P d h) ≡ woken P d h
awake_by P d h true e = rw (e, e) refl
awake_by P d h false e = rw (e, e) refl

pub woken_once : (P : Power) (d : ℕ) (h : Holding) → woken P d (woken P d h) ≡ woken P d h
woken_once P d h = awake_by P d h (is_held_at P d h) refl

-- to wake one first makes no difference to all
map_put : {T : Type 0} (g : T → T) → ((x : T) → g (g x) ≡ g x) → (blank : T) (xs : List T) (id : ℕ) → id < length xs → map g (put blank xs id (g (entry blank xs id))) ≡ map g xs
map_put g once blank [] id h = absurd (omega arith)
map_put g once blank (x ∷ xs) zero h = ap (λ y. y ∷ map g xs) (once x)
map_put g once blank (x ∷ xs) (suc id) h = ap (λ ys. g x ∷ ys) (map_put g once blank xs id (omega arith))

-- who is awake, all of them, is woken
map_fixed : {T : Type 0} (g : T → T) (blank : T) (xs : List T) → ((k : ℕ) → k < length xs → g (entry blank xs k) ≡ entry blank xs k) → map g xs ≡ xs
map_fixed g blank [] h = refl
map_fixed g blank (x ∷ xs) h =
    let first : g x ≡ x = h 0 (omega arith) in
    let rest : map g xs ≡ xs = map_fixed g blank xs (λ k l. h (suc k) (omega arith)) in
    cc

pub waking_none : (P : Power) (d : ℕ) → Waking P P d []
waking_none P d = record { devices = refl; queues = refl; to_come = refl; same_queue = λ k. refl; awake = λ k h. absurd (let z : ⊥ = cc in z) }

-- one more is awake, and the others as before
awake_more : (P : Power) (d : ℕ) (hs : List Holding) (xs : List ℕ) (n k : ℕ) → (k ≡ n) ⊎ (k ≢ n) → (is_on k xs ≡ true → woken P d (entry no_holding hs k) ≡ entry no_holding hs k) → is_on k (xs ++ n ∷ []) ≡ true
    → woken P d (entry no_holding (put no_holding hs n (woken P d (entry no_holding hs n))) k) ≡ entry no_holding (put no_holding hs n (woken P d (entry no_holding hs n))) k
awake_more P d hs xs n k (inl e) before h = rw (e, entry_put_same no_holding hs n (woken P d (entry no_holding hs n))) (woken_once P d (entry no_holding hs n))
awake_more P d hs xs n k (inr o) before h =
    let on : is_on k xs ≡ true = elim (one_of k n xs h) [ inl a ↦ a | inr b ↦ absurd (o b) ] in
    rw (entry_put_other no_holding hs n k (woken P d (entry no_holding hs n)) o) (before on)

queue_more : (P : Power) (d : ℕ) (hs : List Holding) (n k : ℕ) → (k ≡ n) ⊎ (k ≢ n) → (entry no_holding (put no_holding hs n (woken P d (entry no_holding hs n))) k).queue ≡ (entry no_holding hs k).queue
queue_more P d hs n k (inl e) = rw (e, entry_put_same no_holding hs n (woken P d (entry no_holding hs n))) (kept_queue P d (entry no_holding hs n))
queue_more P d hs n k (inr o) = ap (λ h. h.queue) (entry_put_other no_holding hs n k (woken P d (entry no_holding hs n)) o)

-- one more is awake
pub waking_more : (P now next : Power) (d n : ℕ) (xs : List ℕ) → Waking P now d xs → n < length now.holdings
    → next ≡ record now { holdings = put no_holding now.holdings n (woken now d (entry no_holding now.holdings n)) } → Waking P next d (xs ++ n ∷ [])
waking_more P now next d n xs w h e =
    let same : woken now d ≡ woken P d = ap (λ (qs : _). woken (record P { queues = qs }) d) w.queues in
    let hs : next.holdings ≡ put no_holding now.holdings n (woken P d (entry no_holding now.holdings n)) =
    ap (λ Q. Q.holdings) e ∙ ap (λ g. put no_holding now.holdings n (g (entry no_holding now.holdings n))) same in
    record {
      devices = ap (λ Q. Q.devices) e ∙ w.devices;
      queues = ap (λ Q. Q.queues) e ∙ w.queues;
      to_come = rw hs (map_put (woken P d) (woken_once P d) no_holding now.holdings n h ∙ w.to_come);
      same_queue = λ k. rw hs (queue_more P d now.holdings n k (one_or_two k n) ∙ w.same_queue k);
      awake = λ k l. rw hs (awake_more P d now.holdings xs n k (one_or_two k n) (λ m. w.awake k m) l);
    }

-- who is still held from the same queue has an entry
pub still_there : (P now : Power) (d r l : ℕ) (xs : List ℕ) (lists : List (List ℕ)) → Waking P now d xs → AreListed P.queues P.holdings lists → is_on r (list_at lists l) ≡ true → r < length now.holdings
still_there P now d r l xs lists w a e =
    let same : held_list P.queues (entry no_holding now.holdings r) ≡ held_list P.queues (entry no_holding P.holdings r) = same_list P.queues (entry no_holding now.holdings r) (entry no_holding P.holdings r) (w.same_queue r) in
    let there : is_list l (held_list P.queues (entry no_holding now.holdings r)) ≡ true = ap (is_list l) same ∙ (sym (a.on r l) ∙ e) in
    listed_there P.queues now.holdings r l there

-- all are awake
asleep_none : (P : Power) (d : ℕ) (h : Holding) → is_held_at P d h ≡ false → woken P d h ≡ h
asleep_none P d h e = rw e refl

held_as : (P : Power) (d : ℕ) (h g : Holding) → h.queue ≡ g.queue → is_held_at P d h ≡ is_held_at P d g
held_as P d h g e = rw e refl

awake_by_list : (P now : Power) (d k : ℕ) (xs : List ℕ) (lists : List (List ℕ)) → Waking P now d xs → AreListed P.queues P.holdings lists → xs ≡ list_at lists (device_list d)
    → (is_held_at P d (entry no_holding now.holdings k) ≡ true) ⊎ (is_held_at P d (entry no_holding now.holdings k) ≡ false)
    → woken P d (entry no_holding now.holdings k) ≡ entry no_holding now.holdings k
awake_by_list P now d k xs lists w a e (inl held) =
    let own : is_held_at P d (entry no_holding P.holdings k) ≡ true = sym (held_as P d (entry no_holding now.holdings k) (entry no_holding P.holdings k) (w.same_queue k)) ∙ held in
    w.awake k (ap (is_on k) e ∙ on_own P d k lists a own)
awake_by_list P now d k xs lists w a e (inr free) = asleep_none P d (entry no_holding now.holdings k) free

pub waking_all : (P now : Power) (d : ℕ) (xs : List ℕ) (lists : List (List ℕ)) → Waking P now d xs → AreListed P.queues P.holdings lists → xs ≡ list_at lists (device_list d)
    → now ≡ record P { holdings = map (woken P d) P.holdings }
waking_all P now d xs lists w a e =
    let all : map (woken P d) now.holdings ≡ now.holdings = map_fixed (woken P d) no_holding now.holdings (λ k l. awake_by_list P now d k xs lists w a e (cases_Bool (is_held_at P d (entry no_holding now.holdings k)))) in
    let hs : now.holdings ≡ map (woken P d) P.holdings = sym all ∙ w.to_come in
    let ds = w.devices in
    let qs = w.queues in
    let same : record { devices = now.devices; queues = now.queues; holdings = now.holdings } ≡ record { devices = P.devices; queues = P.queues; holdings = map (woken P d) P.holdings } = cc in
    same
