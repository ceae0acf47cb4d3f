-- The rule at each step on a word: the load of the length, the try, the exchange of the length, and letting go.
use Rattle.std.proofs.Common.{◌≡◌, ◌≢◌, ℕ, ◌==◌, eqb, ◌≤◌, ◌<◌, List, [], ◌∷◌, ◌++◌, length, Option, Some, None, set, get_or, refl, ap, sym, ◌∙◌, subst, arith, if◌then◌else◌, eq-eqb, ne_eqb}
use Rattle.std.specs.List.{All}
use Rattle.std.proofs.lemmas.List.Elements.{All-append}
use mathlib.Core.List.{IsPrefix}
use mathlib.Core.Logic.{dite}
use mathlib.Core.Option as maybe
use native.Mathlib.Decide.{ℕ_discrete}
use lib.ListN.{get_elem?}
use lib.Seq.{set-get_or}
use prog.Atomic.{either}
use Rattle.atomic_table.specs.Table.{Me, State, step, Act, keeps, takes, gives, stepped, Valid, carried_after, put_back, rest, Allows}
use Rattle.wdf_base.specs.declared.event.Event.{Event}
use Rattle.wdf_turn.specs.declared.token.Token.{Token}
use Rattle.wdf_turn.specs.declared.token.Hold.{Hold}
use Rattle.wdf_turn.specs.declared.token.Hold.TheVariants.{Idle, Out, Stored}
use Rattle.wdf_turn.specs.Notes.{times, IsNoteOf, notes_beyond}
use Rattle.wdf_turn.specs.Tokens.{IsOther, IsGrown, looked, failed, holding, stored, given, slots_of, Tries, Records, LetsGo, Looks}
use Rattle.wdf_turn.specs.Story.{Common, IsLive, Holds, held, held_as, taken}
use Rattle.wdf_turn.proofs.Prefixes.{prefix_self, prefix_trans, prefix_length, All-weaken}
use Rattle.wdf_turn.proofs.Sums.{total-append}
use Rattle.wdf_turn.proofs.Noted.{grown_prefix, notes_stay, notes_gain, notes_once, All-snoc}
use Rattle.wdf_turn.proofs.Stories.{Rule, live, relive, turned, others_hold}

abbrev taken_list : List Event → Hold → List Event
taken_list d (Out list) = list
taken_list d _ = d

same_some : {A : Type 0} {x y : A} → Some x ≡ Some y → x ≡ y
same_some e = cc (e)

same_value : {A : Type 0} {x y : A} → maybe.some (Some x) ≡ maybe.some (Some y) → x ≡ y
same_value e = cc (e)

taken_one : (n : ℕ) → 0 < n → taken n ≡ 1
taken_one n some = grind arith

module _ {T R : Type 0} (root : T → R) (events : T → List Event) (seats : ℕ) (opening : T) where
  abbrev Tok : Type 0
  Tok = Token T

  abbrev Slots : Type 0
  Slots = List (ℕ × Option T)

  abbrev Keeps : State (Option T) Tok → Type 0
  Keeps = Rule root events seats opening

  pub looks : (slots id : ℕ) (v : Tok) (has : Slots) → v.opening ≡ Some opening → Allows Keeps slots id (v, has) 1 (λ n. n) (Looks (step slots 1 0 0 maybe.none) (v, has))
  looks slots id v has is s r _ at _ =
      let c : Common = r.common in
      let l : IsLive c id v = live root events seats opening s r id v is at in
      let n : ℕ = get_or s.words 1 0 in
      let found : n ≡ length c.history = ap (λ (ws : List ℕ). get_or ws 1 0) r.words in
      let w : Tok = looked v n in
      let numbers = r.numbers in
      let long = prefix_length v.seen c.history l.seen in (
        w,
        keeps,
        tt,
        turned root events seats opening s r c 1 n id v w has keeps is at (prefix_self c.history) refl refl refl refl (λ _. refl) (set-get_or s.words 1 0 ∙ r.words) r.free r.busy refl numbers.0 (λ _. refl) refl
            (relive c c.holder id v (v.looks ++ n ∷ []) v.found v.hold (All-snoc (λ k. k ≤ length c.history) v.looks n l.looks (omega arith)) l.found l.holds l)
            (λ j u there other m. m.holds),
        (refl, omega arith, l.told),
      )

  -- what a try makes of the rule, by what it finds
  abbrev Tried : State (Option T) Tok → ℕ → ℕ → ℕ → Tok → Slots → ℕ → Type 0
  Tried s slots new id v has x = (w : Tok) × (a : Act (Option T)) × Valid s.homes has a × Keeps (stepped s 0 (either (eqb (get_or s.words 0 0) 0) new (get_or s.words 0 0)) id has w a)
      × Tries root events (step slots 0 0 new maybe.none) (v, has) x (w, carried_after has a)

  wins : (slots id : ℕ) (v : Tok) (has : Slots) (s : State (Option T) Tok) (r : Keeps s) → v.opening ≡ Some opening → v.hold ≡ Idle → get_elem? s.views id ≡ maybe.some v → get_or s.words 0 0 ≡ 0
      → Tried s slots v.number id v has (get_or s.words 0 0)
  wins slots id v has s r is idle at hit =
      let c : Common = r.common in
      let l : IsLive c id v = live root events seats opening s r id v is at in
      let found : get_or s.words 0 0 ≡ c.holder = ap (λ (ws : List ℕ). get_or ws 0 0) r.words in
      let none : c.holder ≡ 0 = sym found ∙ hit in
      let at_home = r.free none in
      let x : T = at_home.0 in
      let w : Tok = holding v (events x) in
      let c' : Common = record c { holder = v.number } in
      let number = l.number in
      let numbers = r.numbers in
      let one = taken_one v.number number.0 in
      let free : taken c.holder ≡ 0 = ap taken none in
      let z : held v ≡ 0 = ap held_as idle in (
        w,
        takes 0 (Some x),
        ap (λ hs. get_elem? hs 0) at_home.1,
        subst (λ b. Keeps (stepped s 0 (either b v.number (get_or s.words 0 0)) id has w (takes 0 (Some x)))) (sym (eq-eqb (get_or s.words 0 0) 0 hit))
            (turned root events seats opening s r c' 0 v.number id v w has (takes 0 (Some x)) is at (prefix_self c.history) refl refl refl refl (λ _. refl) (ap (λ ws. set ws 0 v.number) r.words)
            (λ nobody. absurd (omega arith)) (λ _. ap (λ hs. set hs 0 maybe.none) at_home.1) (omega arith) number.1 (λ _. refl) refl
            (relive c v.number id v v.looks v.found (Out (events x)) l.looks l.found (refl, at_home.3) l)
            (λ j u there other m. let n = m.number in others_hold c.history c.history c.holder v.number u.number u.seen u.hold m.holds (λ e. omega arith) other)),
        (
          (λ _. (x, ((λ o e. at_home.2 ∙ ap root (same_some (sym is ∙ e))), subst (IsPrefix v.seen) (sym at_home.3) l.seen), refl)),
          λ other. absurd (other hit),
        ),
      )

  misses : (slots id : ℕ) (v : Tok) (has : Slots) (s : State (Option T) Tok) (r : Keeps s) → v.opening ≡ Some opening → v.hold ≡ Idle → get_elem? s.views id ≡ maybe.some v → get_or s.words 0 0 ≢ 0
      → Tried s slots v.number id v has (get_or s.words 0 0)
  misses slots id v has s r is idle at miss =
      let c : Common = r.common in
      let l : IsLive c id v = live root events seats opening s r id v is at in
      let n : ℕ = get_or s.words 0 0 in
      let found : n ≡ c.holder = ap (λ (ws : List ℕ). get_or ws 0 0) r.words in
      let w : Tok = failed v n in
      let numbers = r.numbers in
      let away : v.number ≢ c.holder = subst (Holds c.history c.holder v.number v.seen) idle l.holds in
      let differ : n ≢ v.number = λ e. away (sym e ∙ found) in
      let made : c.made ≤ v.made = dite (ℕ_discrete v.number 1) (λ first. let f = l.first first in omega arith) (λ more. let f = l.other more in omega arith) in (
        w,
        keeps,
        tt,
        subst (λ b. Keeps (stepped s 0 (either b v.number n) id has w keeps)) (sym (ne_eqb n 0 miss))
            (turned root events seats opening s r c 0 n id v w has keeps is at (prefix_self c.history) refl refl refl refl (λ _. refl) (set-get_or s.words 0 0 ∙ r.words) r.free r.busy refl numbers.0 (λ _. refl) refl
            (relive c c.holder id v v.looks (v.found ++ n ∷ []) v.hold l.looks (All-snoc (IsOther c.made v.number) v.found n l.found (omega arith, omega arith, differ)) l.holds l)
            (λ j u there other m. m.holds)),
        ((λ hit. absurd (miss hit)), λ _. ((omega arith, omega arith, differ), omega arith, refl)),
      )

  pub tries : (slots id : ℕ) (v : Tok) (has : Slots) → v.opening ≡ Some opening → v.hold ≡ Idle → Allows Keeps slots id (v, has) 0 (λ n. either (eqb n 0) v.number n) (Tries root events (step slots 0 0 v.number maybe.none) (v, has))
  tries slots id v has is idle s r _ at _ = dite (ℕ_discrete (get_or s.words 0 0) 0) (wins slots id v has s r is idle at) (misses slots id v has s r is idle at)

  -- the history becomes that of the value, which is told
  pub records : (slots id : ℕ) (v : Tok) (has : Slots) (x : T) (old : List Event) (a b : ℕ) → v.opening ≡ Some opening → v.hold ≡ Out old → a ≡ length old → b ≡ length (events x) → IsGrown old (events x)
      → Allows Keeps slots id (v, has) 1 (λ n. either (eqb n a) b n) (Records events (step slots 1 a b (maybe.some (Some x))) (v, has))
  records slots id v has x old a b is takes_it from to grown s r _ at _ =
      let c : Common = r.common in
      let l : IsLive c id v = live root events seats opening s r id v is at in
      let mine : (v.number ≡ c.holder) × (old ≡ c.history) = subst (Holds c.history c.holder v.number v.seen) takes_it l.holds in
      let n : ℕ = get_or s.words 1 0 in
      let found : n ≡ length c.history = ap (λ (ws : List ℕ). get_or ws 1 0) r.words in
      let hit : n ≡ a = found ∙ (sym (ap length mine.1) ∙ sym from) in
      let new : List Event = events x in
      let w : Tok = stored v old new in
      let c' : Common = record c { history = new } in
      let grows : IsGrown c.history new = subst (λ (h : List Event). IsGrown h new) mine.1 grown in
      let pre : IsPrefix c.history new = grown_prefix c.history new grows in
      let longer = prefix_length c.history new pre in
      let base : c.from ≤ length c.history = let k = prefix_length (events opening) c.history r.begins in let st = r.start in omega arith in
      let notes : notes_beyond old new ≡ notes_beyond c.history new = ap (λ (h : List Event). notes_beyond h new) mine.1 in
      let number = l.number in
      let numbers = r.numbers in
      let z : held v ≡ 1 = ap held_as takes_it in (
        w,
        keeps,
        tt,
        subst (λ t. Keeps (stepped s 1 (either t b n) id has w keeps)) (sym (eq-eqb n a hit))
            (turned root events seats opening s r c' 1 b id v w has keeps is at pre refl refl refl refl (λ _. refl) (ap (λ ws. set ws 1 b) r.words ∙ ap (λ k. c.holder ∷ k ∷ []) to)
            (λ nobody. absurd (let e = mine.0 in omega arith)) r.busy (omega arith) numbers.0
            (λ p. let e = total-append (λ (m : ℕ × Event). if m.0 == p then 1 else 0) v.own (notes_beyond old new) in
            let o = notes_once c.from c.history new p grows base in let q : times p (notes_beyond old new) ≡ times p (notes_beyond c.history new) = ap (times p) notes in omega arith) refl
            record {
              seen = prefix_self new;
              told = prefix_trans v.told v.seen new l.told (prefix_trans v.seen c.history new l.seen pre);
              own = All-append (IsNoteOf c.from new) v.own (notes_beyond old new) (notes_stay c.from c.history new v.own pre l.own) (subst (All (IsNoteOf c.from new)) (sym notes) (notes_gain c.from c.history new grows base));
              looks = All-weaken (λ k. k ≤ length c.history) (λ k. k ≤ length new) v.looks (λ k h. omega arith) l.looks;
              found = l.found;
              number = l.number;
              only = l.only;
              seats = l.seats;
              first = l.first;
              other = l.other;
              holds = (mine.0, refl);
            }
            (λ j u there other m. let away : u.number ≢ c.holder = (λ e. other (e ∙ sym mine.0)) in others_hold c.history new c.holder c.holder u.number u.seen u.hold m.holds away away)),
        λ x' old' said takes_it'. let e : x ≡ x' = same_value said in let e' : old ≡ old' = ap (taken_list []) (sym takes_it ∙ takes_it') in λ i. (stored v (e' i) (events (e i)), has),
      )

  -- the value is in the slot again, and the seat lets go
  pub lets_go : (slots id : ℕ) (v : Tok) (has : Slots) (x : T) → v.opening ≡ Some opening → v.hold ≡ Stored → has ≡ (0, Some x) ∷ [] → root x ≡ root opening → events x ≡ v.seen
      → Allows Keeps slots id (v, has) 0 (λ _. 0) (λ _. LetsGo (step slots 0 0 0 maybe.none) (v, has) 0)
  lets_go slots id v has x is stored_it full rooted whole s r _ at _ =
      let c : Common = r.common in
      let l : IsLive c id v = live root events seats opening s r id v is at in
      let mine : (v.number ≡ c.holder) × (v.seen ≡ c.history) = subst (Holds c.history c.holder v.number v.seen) stored_it l.holds in
      let w : Tok = record v { hold = Idle } in
      let c' : Common = record c { holder = 0 } in
      let number = l.number in
      let numbers = r.numbers in
      let out : s.homes ≡ maybe.none ∷ [] = r.busy (let e = mine.0 in λ z. omega arith) in
      let one = taken_one c.holder (let e = mine.0 in omega arith) in
      let z : held v ≡ 1 = ap held_as stored_it in (
        w,
        gives,
        tt,
        turned root events seats opening s r c' 0 0 id v w has gives is at (prefix_self c.history) refl refl refl refl (λ _. refl) (ap (λ ws. set ws 0 0) r.words)
            (λ _. (x, (ap (put_back s.homes) full ∙ ap (λ hs. set hs 0 (maybe.some (Some x))) out), rooted, whole ∙ mine.1)) (λ some. absurd (some refl)) (omega arith) (omega arith) (λ _. refl) refl
            (relive c 0 id v v.looks v.found Idle l.looks l.found (λ e. let some = number.0 in omega arith) l)
            (λ j u there other m. let n = m.number in others_hold c.history c.history c.holder 0 u.number u.seen u.hold m.holds (λ e. other (e ∙ sym mine.0)) (λ e. omega arith)),
        refl,
      )

  -- the same with the number as the code has it
  pub tries_with : (slots id : ℕ) (v : Tok) (has : Slots) (number : ℕ) → number ≡ v.number → v.opening ≡ Some opening → v.hold ≡ Idle
      → Allows Keeps slots id (v, has) 0 (λ n. either (eqb n 0) number n) (Tries root events (step slots 0 0 number maybe.none) (v, has))
  tries_with slots id v has number same is idle =
      subst (λ (k : ℕ). Allows Keeps slots id (v, has) 0 (λ n. either (eqb n 0) k n) (Tries root events (step slots 0 0 k maybe.none) (v, has))) (sym same) (tries slots id v has is idle)

module _ {T : Type 0} where
  -- a seat that has won has the slot, and the exchange of its slot gives the value
  pub won_slot : (has had : List (ℕ × Option T)) (x : T) → has ≡ (0, Some x) ∷ had → has ≡ (0, Some x) ∷ rest has
  won_slot has had x e = e ∙ ap (λ (l : List (ℕ × Option T)). (0, Some x) ∷ rest l) (sym e)

  abbrev front : Option T → List (ℕ × Option T) → Option T
  front d [] = d
  front d (x ∷ xs) = x.1

  pub same_front : (has : List (ℕ × Option T)) (a b : Option T) (xs ys : List (ℕ × Option T)) → has ≡ (0, a) ∷ xs → has ≡ (0, b) ∷ ys → a ≡ b
  same_front has a b xs ys e f = ap (front a) (sym e ∙ f)

  -- what the exchange of the length leaves a seat that has taken the value
  pub recorded : (events : T → List Event) (me me' : Me (Option T) (Token T)) (x : T) (old : List Event) → me' ≡ (stored me.0 old (events x), me.1) → me.0.hold ≡ Out old → me.1 ≡ slots_of me.0.hold
      → me' ≡ (stored me.0 old (events x), (0, None) ∷ [])
  recorded events me me' x old told taken_it has = told ∙ ap (λ (l : List (ℕ × Option T)). (stored me.0 old (events x), l)) (has ∙ ap slots_of taken_it)

  -- the three steps of a give
  pub gave : (events : T → List Event) (me me1 me2 me3 : Me (Option T) (Token T)) (x : T) (old : List Event) → me1 ≡ (stored me.0 old (events x), (0, None) ∷ []) → me2 ≡ (me1.0, (0, Some x) ∷ rest me1.1) → me3 ≡ (record me2.0 { hold = Idle }, rest me2.1)
      → me3 ≡ (given me.0 old (events x), [])
  gave events me me1 me2 me3 x old now put let_go =
      let full : me2 ≡ (stored me.0 old (events x), (0, Some x) ∷ []) = put ∙ ap (λ (m : Me (Option T) (Token T)). (m.0, (0, Some x) ∷ rest m.1)) now in
      let_go ∙ ap (λ (m : Me (Option T) (Token T)). (record m.0 { hold = Idle }, rest m.1)) full
