-- What a step leaves the other seats, and the rule after a step from the rule before it.
use Rattle.std.proofs.Common.{◌≡◌, ◌≢◌, ⊎_elim, ℕ, ◌+◌, ◌≤◌, List, [], ◌∷◌, length, Option, Some, None, set, refl, ap, sym, ◌∙◌, subst, arith}
use Rattle.std.specs.List.{All}
use mathlib.Core.List.{IsPrefix}
use mathlib.Core.Option as maybe
use lib.ListN.{get_elem?}
use Rattle.atomic_table.specs.Table.{State, Act, homes_after, stepped}
use Rattle.atomic_table.proofs.Lists.{at_set}
use Rattle.wdf_base.specs.declared.event.Event.{Event}
use Rattle.wdf_turn.specs.declared.token.Token.{Token}
use Rattle.wdf_turn.specs.declared.token.Hold.{Hold}
use Rattle.wdf_turn.specs.declared.token.Hold.TheVariants.{Idle, Out, Stored}
use Rattle.wdf_turn.specs.Notes.{total, times, within, IsNoteOf}
use Rattle.wdf_turn.specs.Tokens.{IsOther}
use Rattle.wdf_turn.specs.Story.{Common, IsLive, Fits, Kept, Holds, alive, held, taken}
use Rattle.wdf_turn.proofs.Prefixes.{prefix_trans, prefix_length, All-weaken}
use Rattle.wdf_turn.proofs.Sums.{total-set}
use Rattle.wdf_turn.proofs.Noted.{notes_stay}

-- a seat that isn't the holder, before or after, is idle
pub others_hold : (h h' : List Event) (m m' n : ℕ) (seen : List Event) (hold : Hold) → Holds h m n seen hold → n ≢ m → n ≢ m' → Holds h' m' n seen hold
others_hold h h' m m' n seen Idle k a b = b
others_hold h h' m m' n seen (Out list) k a b = absurd (a k.0)
others_hold h h' m m' n seen Stored k a b = absurd (a k.0)

module _ {T : Type 0} where
  -- what a step leaves another seat
  pub moves : (c c' : Common) (at : ℕ) (v : Token T) → IsPrefix c.history c'.history → c'.from ≡ c.from → c'.seats ≡ c.seats → c.made ≤ c'.made → c'.place v.number ≡ c.place v.number
      → (v.number ≡ 1 → (c'.made ≡ c.made) × (c'.live ≡ c.live)) → Holds c'.history c'.holder v.number v.seen v.hold → IsLive c at v → IsLive c' at v
  moves c c' at v pre from seats made place first holds l = let longer = prefix_length c.history c'.history pre in record {
    seen = prefix_trans v.seen c.history c'.history l.seen pre;
    told = l.told;
    own = subst (λ (n : ℕ). All (IsNoteOf n c'.history) v.own) (sym from) (notes_stay c.from c.history c'.history v.own pre l.own);
    looks = All-weaken (λ n. n ≤ length c.history) (λ n. n ≤ length c'.history) v.looks (λ n h. omega arith) l.looks;
    found = All-weaken (IsOther c.made v.number) (IsOther c'.made v.number) v.found (λ n h. (h.0, omega arith, h.2)) l.found;
    number = let n = l.number in (n.0, omega arith);
    only = place ∙ l.only;
    seats = l.seats ∙ sym seats;
    first = λ one. let a = l.first one in let b = first one in (a.0 ∙ sym b.0, a.1 ∙ sym b.1);
    other = λ more. let a = l.other more in (a.0 ∙ sym seats, a.1);
    holds = holds;
  }

  -- a seat whose looks, failed tries or hold have changed, under a holder
  pub relive : (c : Common) (holder id : ℕ) (v : Token T) (looks found : List ℕ) (hold : Hold) → All (λ n. n ≤ length c.history) looks → All (IsOther c.made v.number) found → Holds c.history holder v.number v.seen hold → IsLive c id v
      → IsLive (record c { holder = holder }) id (record v { looks = looks; found = found; hold = hold })
  relive c holder id v looks found hold looked failed holds l = record {
    seen = l.seen;
    told = l.told;
    own = l.own;
    looks = looked;
    found = failed;
    number = l.number;
    only = l.only;
    seats = l.seats;
    first = l.first;
    other = l.other;
    holds = holds;
  }

  module _ (opening : T) where
    pub live_as : (c : Common) (at : ℕ) (v : Token T) → v.opening ≡ Some opening → Fits opening c at v v.opening → IsLive c at v
    live_as c at v is fits = let f : Fits opening c at v (Some opening) = subst (Fits opening c at v) is fits in f.1

    pub fits_as : (c : Common) (at : ℕ) (v : Token T) → v.opening ≡ Some opening → IsLive c at v → Fits opening c at v v.opening
    fits_as c at v is l = subst (Fits opening c at v) (sym is) (refl, l)

    carry : (c c' : Common) (at : ℕ) (v : Token T) (o : Option T) → Fits opening c at v o → (IsLive c at v → IsLive c' at v) → Fits opening c' at v o
    carry c c' at v None fits go = fits
    carry c c' at v (Some o) fits go = (fits.0, go fits.1)

    -- the seats of a list in which one token has changed
    pub each_set : (c c' : Common) (views : List (Token T)) (id : ℕ) (w : Token T) → Fits opening c' id w w.opening
        → ((at : ℕ) (v : Token T) → get_elem? views at ≡ maybe.some v → Fits opening c at v v.opening)
        → ((at : ℕ) (v : Token T) → at ≢ id → get_elem? views at ≡ maybe.some v → IsLive c at v → IsLive c' at v)
        → (at : ℕ) (v : Token T) → get_elem? (set views id w) at ≡ maybe.some v → Fits opening c' at v v.opening
    each_set c c' views id w mine each go at v e = ⊎_elim
        (λ (t : (at ≡ id) × (w ≡ v)). subst (λ (z : ℕ × Token T). Fits opening c' z.0 z.1 z.1.opening) (λ i. (sym t.0 i, t.1 i)) mine)
        (λ (t : (at ≢ id) × (get_elem? views at ≡ maybe.some v)). carry c c' at v v.opening (each at v t.1) (go at v t.0 t.1))
        (at_set views id at w v e)

  -- two seats with different places have different numbers
  pub apart : (c : Common) (at id : ℕ) (u v : Token T) → IsLive c at u → IsLive c id v → at ≢ id → u.number ≢ v.number
  apart c at id u v l m other same = other (sym l.only ∙ (ap c.place same ∙ m.only))

module _ {T R : Type 0} (root : T → R) (events : T → List Event) (seats : ℕ) (opening : T) where
  abbrev pub Rule : State (Option T) (Token T) → Type 0
  Rule = Kept root events seats opening

  pub live : (s : State (Option T) (Token T)) (r : Rule s) (id : ℕ) (v : Token T) → v.opening ≡ Some opening → get_elem? s.views id ≡ maybe.some v → IsLive r.common id v
  live s r id v is at = live_as opening r.common id v is (r.each id v at)

  -- the rule after a step of the seat `id`, on the word i
  pub turned : (s : State (Option T) (Token T)) (r : Rule s) (c' : Common) (i n id : ℕ) (v w : Token T) (slots : List (ℕ × Option T)) (act : Act (Option T)) → v.opening ≡ Some opening → get_elem? s.views id ≡ maybe.some v
      → IsPrefix r.common.history c'.history → c'.from ≡ r.common.from → c'.seats ≡ r.common.seats → c'.made ≡ r.common.made → c'.live ≡ r.common.live → ((k : ℕ) → c'.place k ≡ r.common.place k)
      → set s.words i n ≡ c'.holder ∷ length c'.history ∷ []
      → (c'.holder ≡ 0 → (x : T) × (homes_after s.homes slots act ≡ maybe.some (Some x) ∷ []) × (root x ≡ root opening) × (events x ≡ c'.history))
      → (c'.holder ≢ 0 → homes_after s.homes slots act ≡ maybe.none ∷ [])
      → taken r.common.holder + held w ≡ taken c'.holder + held v → c'.holder ≤ c'.made
      → ((p : ℕ) → within r.common.from r.common.history p + times p w.own ≡ within c'.from c'.history p + times p v.own)
      → w.opening ≡ v.opening → IsLive c' id w
      → ((at : ℕ) (u : Token T) → get_elem? s.views at ≡ maybe.some u → u.number ≢ v.number → IsLive r.common at u → Holds c'.history c'.holder u.number u.seen u.hold)
      → Rule (stepped s i n id slots w act)
  turned s r c' i n id v w slots act is at pre from sts made lv place words free busy holders below once same mine others = record {
    common = c';
    begins = prefix_trans (events opening) r.common.history c'.history r.begins pre;
    start = from ∙ r.start;
    words = words;
    free = free;
    busy = busy;
    one_holds = let t = total-set held s.views id v w at in let o = r.one_holds in omega arith;
    numbers = let a = r.numbers in (below, omega arith, a.2, sts ∙ a.3);
    counted = let t = total-set alive s.views id v w at in let o = r.counted in let e : alive w ≡ alive v = ap Rattle.wdf_turn.specs.Story.alive_as same in omega arith;
    once = λ p. let t = total-set (λ (u : Token T). times p u.own) s.views id v w at in let o = r.once p in let e = once p in omega arith;
    each = each_set opening r.common c' s.views id w (fits_as opening c' id w (same ∙ is) mine) r.each
        (λ j u other there l. moves r.common c' j u pre from sts (omega arith) (place u.number) (λ _. (made, lv)) (others j u there (apart r.common j id u v l (live s r id v is at) other) l) l);
  }

  -- the rule after seats have come or gone, where the words and the slot stay
  pub reseated : (s : State (Option T) (Token T)) (r : Rule s) (made more : ℕ) (place : ℕ → ℕ) (views : List (Token T)) → r.common.made ≤ made → made ≤ seats → total held views ≡ total held s.views → total alive views ≡ more
      → ((p : ℕ) → total (λ (u : Token T). times p u.own) views ≡ total (λ (u : Token T). times p u.own) s.views)
      → ((at : ℕ) (v : Token T) → get_elem? views at ≡ maybe.some v → Fits opening (record r.common { made = made; live = more; place = place }) at v v.opening)
      → Rule record { words = s.words; homes = s.homes; views = views }
  reseated s r made more place views up room same_held same_live same_own each = record {
    common = record r.common { made = made; live = more; place = place };
    begins = r.begins;
    start = r.start;
    words = r.words;
    free = r.free;
    busy = r.busy;
    one_holds = same_held ∙ r.one_holds;
    numbers = let a = r.numbers in (omega arith, room, a.2, a.3);
    counted = same_live;
    once = λ p. same_own p ∙ r.once p;
    each = each;
  }
