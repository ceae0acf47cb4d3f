-- The rule at the start, at a split, at a join and at the end.
use Rattle.std.proofs.Common.{◌≡◌, ◌≢◌, ⊎_elim, ℕ, zero, suc, Bool, true, false, ◌==◌, ◌+◌, ◌-◌, ◌^◌, ◌≤◌, ◌<◌, List, [], ◌∷◌, ◌++◌, length, Option, Some, None, set, refl, ap, sym, ◌∙◌, subst, arith, if◌then◌else◌, nat_lt, eq-eqb, ne_eqb, length-set}
use Rattle.std.proofs.lemmas.Bool.{ltb-true, ltb-false}
use Rattle.std.proofs.lemmas.List.Elements.{All-append, All-nil}
use mathlib.Core.List.{IsPrefix}
use mathlib.Core.Logic.{dite}
use mathlib.Core.Option as maybe
use native.Mathlib.Decide.{ℕ_discrete}
use lib.ListN.{get_elem?}
use Rattle.atomic_table.specs.Table.{State, Splits, Joins, Final, Seen, opening as opening_state}
use Rattle.atomic_table.proofs.Lists.{set_else, set_here}
use Rattle.wdf_base.specs.declared.event.Event.{Event}
use Rattle.wdf_turn.specs.declared.token.Token.{Token}
use Rattle.wdf_turn.specs.declared.token.Hold.{Hold}
use Rattle.wdf_turn.specs.declared.token.Hold.TheVariants.{Idle, Out, Stored}
use Rattle.wdf_turn.specs.Notes.{total, times, within, IsNoteOf, IsAccountOf}
use Rattle.wdf_turn.specs.Tokens.{IsOther, longer, shorter, first_token, split_off, new_token, joined, spent, is_settled}
use Rattle.wdf_turn.specs.Story.{Common, IsLive, Fits, Holds, alive, alive_as, held, held_as, taken}
use Rattle.wdf_turn.proofs.Prefixes.{prefix_self, prefix_shorter, All-weaken}
use Rattle.wdf_turn.proofs.Sums.{total-set, total-append, total-least, total-one, at_end, at_below}
use Rattle.wdf_turn.proofs.Stories.{Rule, live, reseated, fits_as, moves, each_set, apart}

longest_as : (a b h : List Event) (t : Bool) → nat_lt (length a) (length b) ≡ t → IsPrefix a h → IsPrefix b h
    → IsPrefix (if t then b else a) h × IsPrefix (if t then a else b) (if t then b else a)
longest_as a b h true e p q = let l : length a < length b = ltb-true (length a) (length b) e in (q, prefix_shorter a b h p q (omega arith))
longest_as a b h false e p q = (p, prefix_shorter b a h q p (ltb-false (length a) (length b) e))

-- the longer and the shorter of two beginnings
longest : (a b h : List Event) → IsPrefix a h → IsPrefix b h → IsPrefix (longer a b) h × IsPrefix (shorter a b) (longer a b)
longest a b h p q = longest_as a b h (nat_lt (length a) (length b)) refl p q

-- a list that holds nothing stored is as before where more was seen
still_holds : (h : List Event) (holder n : ℕ) (seen seen' : List Event) (hold : Hold) → is_settled hold ≡ true → Holds h holder n seen hold → Holds h holder n seen' hold
still_holds h holder n seen seen' Idle settled k = k
still_holds h holder n seen seen' (Out list) settled k = k
still_holds h holder n seen seen' Stored settled k = absurd (cc (settled))

-- a number that is given changes the places of no other
put_else : (n k a b : ℕ) → n ≢ k → (if n == k then a else b) ≡ b
put_else n k a b other = ap (λ (t : Bool). if t then a else b) (ne_eqb n k other)

put_here : (k a b : ℕ) → (if k == k then a else b) ≡ a
put_here k a b = ap (λ (t : Bool). if t then a else b) (eq-eqb k k refl)

same_some : {A : Type 0} {x y : A} → Some x ≡ Some y → x ≡ y
same_some e = cc (e)

-- a place of no history is within none
nowhere : (from : ℕ) (h : List Event) (place : ℕ) → from ≡ length h → within from h place ≡ 0
nowhere from h place e = grind arith

module _ {T R : Type 0} (root : T → R) (events : T → List Event) (seats : ℕ) (opening : T) where
  abbrev Tok : Type 0
  Tok = Token T

  abbrev Keeps : State (Option T) Tok → Type 0
  Keeps = Rule root events seats opening

  first_common : Common
  first_common = record {
    history = events opening;
    from = length (events opening);
    holder = 0;
    seats = seats;
    made = 1;
    live = 1;
    place = λ _. 0;
  }

  first_live : IsLive first_common 0 (first_token events seats opening)
  unfolding first_common
  first_live = record {
    seen = prefix_self (events opening);
    told = (events opening, refl);
    own = All-nil (IsNoteOf (length (events opening)) (events opening));
    looks = All-nil (λ n. n ≤ length (events opening));
    found = All-nil (IsOther 1 1);
    number = (omega arith, omega arith);
    only = refl;
    seats = refl;
    first = λ _. (refl, refl);
    other = λ more. absurd (more refl);
    holds = λ same. absurd (omega arith);
  }

  pub opens : (n : ℕ) → 0 < seats → seats < 2 ^ 32 → n ≡ length (events opening) → Keeps (opening_state (0 ∷ n ∷ []) (Some opening ∷ []) (first_token events seats opening))
  unfolding first_common
  opens n some few len = record {
    common = first_common;
    begins = prefix_self (events opening);
    start = refl;
    words = ap (λ k. 0 ∷ k ∷ []) len;
    free = λ _. (opening, refl, refl, refl);
    busy = λ more. absurd (more refl);
    one_holds = refl;
    numbers = (omega arith, omega arith, few, refl);
    counted = refl;
    once = λ p. sym (nowhere (length (events opening)) (events opening) p refl);
    each = first_each;
  }
    where
      first_each : (at : ℕ) (v : Tok) → get_elem? (first_token events seats opening ∷ []) at ≡ maybe.some v → Fits opening first_common at v v.opening
      first_each zero v e = subst (λ (z : Tok). Fits opening first_common zero z z.opening) (maybe.some-injective (first_token events seats opening) v e) (refl, first_live)
      first_each (suc at) v e = absurd (maybe.some-ne-none v (sym e))

  only_first : (c : Common) (id : ℕ) (v : Tok) → IsLive c id v → v.made < v.seats → v.number ≡ 1
  only_first c id v l more = dite (ℕ_discrete v.number 1) (λ e. e) (λ not. let o = l.other not in let st = l.seats in absurd (omega arith))

  after_split : Common → ℕ → Common
  after_split c count = record c {
    made = c.made + 1;
    live = c.live + 1;
    place = λ n. if n == c.made + 1 then count else c.place n;
  }

  split_live : (c : Common) (count id : ℕ) (v : Tok) → v.number ≡ 1 → IsLive c id v → IsLive (after_split c count) id (split_off v)
  unfolding after_split
  split_live c count id v one l = record {
    seen = l.seen;
    told = l.told;
    own = l.own;
    looks = l.looks;
    found = All-weaken (IsOther c.made v.number) (IsOther (c.made + 1) v.number) v.found (λ n h. (h.0, omega arith, h.2)) l.found;
    number = let n = l.number in (n.0, omega arith);
    only = let n = l.number in put_else v.number (c.made + 1) count (c.place v.number) (λ e. omega arith) ∙ l.only;
    seats = l.seats;
    first = λ _. let a = l.first one in (omega arith, omega arith);
    other = λ more. absurd (more one);
    holds = l.holds;
  }

  new_live : (c : Common) (count id : ℕ) (v : Tok) → v.number ≡ 1 → c.holder ≤ c.made → IsLive c id v → IsLive (after_split c count) count (new_token v)
  unfolding after_split
  new_live c count id v one below l = let f = l.first one in let m : v.made ≡ c.made = f.0 in let n = l.number in record {
    seen = l.seen;
    told = (v.seen, refl);
    own = All-nil (IsNoteOf c.from c.history);
    looks = All-nil (λ n. n ≤ length c.history);
    found = All-nil (IsOther (c.made + 1) (v.made + 1));
    number = (omega arith, omega arith);
    only = ap (λ (k : ℕ). if k == c.made + 1 then count else c.place k) (ap (λ (k : ℕ). k + 1) m) ∙ put_here (c.made + 1) count (c.place (c.made + 1));
    seats = l.seats;
    first = λ e. absurd (omega arith);
    other = λ _. (l.seats, refl);
    holds = λ e. omega arith;
  }

  pub splits : (id : ℕ) (v : Tok) → v.opening ≡ Some opening → v.made < v.seats → Splits Keeps id v (split_off v) (new_token v)
  unfolding after_split
  splits id v is more s r at =
      let c : Common = r.common in
      let l : IsLive c id v = live root events seats opening s r id v is at in
      let one : v.number ≡ 1 = only_first c id v l more in
      let count : ℕ = length s.views in
      let c' : Common = after_split c count in
      let left : Tok = split_off v in
      let right : Tok = new_token v in
      let numbers = r.numbers in
      let first = l.first one in
      let st = l.seats in
      let place : ℕ → ℕ = λ n. if n == c.made + 1 then count else c.place n in
      reseated root events seats opening s r (c.made + 1) (c.live + 1) place (set s.views id left ++ right ∷ []) (omega arith) (omega arith)
      (let t = total-set held s.views id v left at in let a = total-append held (set s.views id left) (right ∷ []) in omega arith)
      (let t = total-set alive s.views id v left at in let a = total-append alive (set s.views id left) (right ∷ []) in let o = r.counted in let e : alive v ≡ 1 = ap alive_as is in omega arith)
      (λ p. let t = total-set (λ (u : Tok). times p u.own) s.views id v left at in let a = total-append (λ (u : Tok). times p u.own) (set s.views id left) (right ∷ []) in omega arith)
      (λ j u e. ⊎_elim
      (λ (t : get_elem? (set s.views id left) j ≡ maybe.some u). each_set opening c c' s.views id left (fits_as opening c' id left is (split_live c count id v one l)) r.each
      (λ k x other there m. moves c c' k x (prefix_self c.history) refl refl (omega arith) (let n = m.number in put_else x.number (c.made + 1) count (c.place x.number) (λ e. omega arith))
      (λ first. absurd (apart c k id x v m l other (first ∙ sym one))) m.holds m) j u t)
      (λ (t : (j ≡ length (set s.views id left)) × (right ≡ u)). subst (λ (z : ℕ × Tok). Fits opening c' z.0 z.1 z.1.opening) (λ i. (sym (t.0 ∙ length-set s.views id left) i, t.1 i))
      (fits_as opening c' count right is (new_live c count id v one numbers.0 l)))
      (at_end (set s.views id left) right u j e))

  after_join : Common → Common
  after_join c = record c { live = c.live - 1 }

  joined_live : (c : Common) (id other : ℕ) (v w : Tok) → v.number ≡ 1 → is_settled v.hold ≡ true → 1 < c.live → IsLive c id v → IsLive c other w → IsLive (after_join c) id (joined v w)
  unfolding after_join
  joined_live c id other v w one settled some l m = let both = longest v.seen w.seen c.history l.seen m.seen in record {
    seen = both.0;
    told = both.1;
    own = All-append (IsNoteOf c.from c.history) v.own w.own l.own m.own;
    looks = l.looks;
    found = l.found;
    number = l.number;
    only = l.only;
    seats = l.seats;
    first = λ _. let f = l.first one in (f.0, omega arith);
    other = λ more. absurd (more one);
    holds = still_holds c.history c.holder v.number v.seen (longer v.seen w.seen) v.hold settled l.holds;
  }

  pub joins : (id : ℕ) (v : Tok) (other : ℕ) (w : Tok) → v.opening ≡ Some opening → w.opening ≡ Some opening → v.number ≡ 1 → is_settled v.hold ≡ true → w.hold ≡ Idle → Joins Keeps id v other w (joined v w) spent
  unfolding after_join
  joins id v other w is is' one settled idle s r at differ there =
      let c : Common = r.common in
      let c' : Common = after_join c in
      let both : Tok = joined v w in
      let there' : get_elem? s.views other ≡ maybe.some w = sym (set_else s.views id other both differ) ∙ there in
      let l : IsLive c id v = live root events seats opening s r id v is at in
      let m : IsLive c other w = live root events seats opening s r other w is' there' in
      let a : alive v ≡ 1 = ap alive_as is in
      let b : alive w ≡ 1 = ap alive_as is' in
      let z : held w ≡ 0 = ap held_as idle in
      let here : get_elem? (set (set s.views id both) other spent) id ≡ maybe.some both = set_else (set s.views id both) other id spent (λ e. differ (sym e)) ∙ set_here s.views id both (at_below s.views id v at) in
      let least = total-least alive (set (set s.views id both) other spent) id both here in
      let t = total-set alive s.views id v both at in
      let t' = total-set alive (set s.views id both) other w spent there in
      let counted = r.counted in
      let some : 1 < c.live = omega arith in
      let numbers = r.numbers in
      reseated root events seats opening s r c.made (c.live - 1) c.place (set (set s.views id both) other spent) (omega arith) (omega arith)
      (let h = total-set held s.views id v both at in let h' = total-set held (set s.views id both) other w spent there in omega arith)
      (omega arith)
      (λ p. let h = total-set (λ (u : Tok). times p u.own) s.views id v both at in let h' = total-set (λ (u : Tok). times p u.own) (set s.views id both) other w spent there in
      let e = total-append (λ (n : ℕ × Event). if n.0 == p then 1 else 0) v.own w.own in omega arith)
      (each_set opening c' c' (set s.views id both) other spent (refl, refl)
      (each_set opening c c' s.views id both (fits_as opening c' id both is (joined_live c id other v w one settled some l m)) r.each
      (λ k x away stays m. moves c c' k x (prefix_self c.history) refl refl (omega arith) refl (λ first. absurd (apart c k id x v m l away (first ∙ sym one))) m.holds m))
      (λ k x away stays m. m))

  dead : (c : Common) (at : ℕ) (u : Tok) (o : Option T) → Fits opening c at u o → alive_as o ≡ 0 → (u.own ≡ []) × (u.hold ≡ Idle)
  dead c at u None fits z = fits
  dead c at u (Some o) fits z = absurd (omega arith)

  free_holder : (n : ℕ) → taken n ≡ 0 → n ≡ 0
  free_holder n z = grind arith

  -- what the last seat knows: the value lies in the slot, and all that is new is its own
  pub closes : (s : State (Option T) Tok) (r : Keeps s) (id : ℕ) (v : Tok) → v.opening ≡ Some opening → get_elem? s.views id ≡ maybe.some v → v.number ≡ 1 → v.unjoined ≡ 0 → v.hold ≡ Idle
      → (x : T) × (s.homes ≡ maybe.some (Some x) ∷ []) × (root x ≡ root opening) × IsPrefix (events opening) (events x) × IsPrefix v.seen (events x) × IsAccountOf (length (events opening)) (events x) v.own
  closes s r id v is at one none idle =
      let c : Common = r.common in
      let l : IsLive c id v = live root events seats opening s r id v is at in
      let first = l.first one in
      let alone : total alive s.views ≡ alive v = let t = r.counted in let a : alive v ≡ 1 = ap alive_as is in omega arith in
      let quiet : total held s.views ≡ 0 = total-one held alive s.views id v at alone (λ j u e z. ap held_as (dead c j u u.opening (r.each j u e) z).1) ∙ ap held_as idle in
      let at_home = r.free (free_holder c.holder (sym r.one_holds ∙ quiet)) in
      let same : events at_home.0 ≡ c.history = at_home.3 in (
        at_home.0,
        at_home.1,
        at_home.2,
        subst (IsPrefix (events opening)) (sym same) r.begins,
        subst (IsPrefix v.seen) (sym same) l.seen,
        subst (λ (z : ℕ × List Event). IsAccountOf z.0 z.1 v.own) (λ i. (r.start i, sym same i))
            (l.own, λ p. sym (total-one (λ (u : Tok). times p u.own) alive s.views id v at alone (λ j u e z. ap (times p) (dead c j u u.opening (r.each j u e) z).0)) ∙ r.once p),
      )

  -- the same of a table that was closed, and of what was taken out of its slot
  pub finished : (ws : List ℕ) (xs : List (Option T)) (id : ℕ) (v : Tok) → Final (Seen Keeps id v) ws xs → v.opening ≡ Some opening → v.number ≡ 1 → v.unjoined ≡ 0 → v.hold ≡ Idle → (y : Option T) → get_elem? xs 0 ≡ maybe.some y
      → (x : T) × (y ≡ Some x) × (root x ≡ root opening) × IsPrefix (events opening) (events x) × IsPrefix v.seen (events x) × IsAccountOf (length (events opening)) (events x) v.own
  finished ws xs id v final is one none idle y there =
      let end = closes final.0 final.1.0 id v is final.1.1 one none idle in
      let out : get_elem? xs 0 ≡ maybe.some (Some end.0) = final.4 0 (Some end.0) (ap (λ hs. get_elem? hs 0) end.1) in
      (end.0, maybe.some-injective y (Some end.0) (sym there ∙ out), end.2, end.3, end.4, end.5)

  pub finished_with : (ws : List ℕ) (xs : List (Option T)) (id : ℕ) (v : Tok) → Final (Seen Keeps id v) ws xs → v.opening ≡ Some opening → v.number ≡ 1 → v.unjoined ≡ 0 → v.hold ≡ Idle → (y : T) → get_elem? xs 0 ≡ maybe.some (Some y)
      → (root y ≡ root opening) × IsPrefix (events opening) (events y) × IsPrefix v.seen (events y) × IsAccountOf (length (events opening)) (events y) v.own
  finished_with ws xs id v final is one none idle y there =
      let end = finished ws xs id v final is one none idle (Some y) there in
      let same : y ≡ end.0 = same_some end.1 in
      subst (λ (x : T). (root x ≡ root opening) × IsPrefix (events opening) (events x) × IsPrefix v.seen (events x) × IsAccountOf (length (events opening)) (events x) v.own) (sym same) (end.2, end.3, end.4, end.5)
