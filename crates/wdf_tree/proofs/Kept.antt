-- What is kept beside the objects: after an object more, after a change of one, and after an end.
use Rattle.std.proofs.Common.{map, replicate, ◌==◌, ◌&&◌, not, Bool, true, false, sym, cond, ◌≡◌, ◌≢◌, ℕ, zero, suc, ◌+◌, ◌<◌, ◌≤◌, List, [], ◌∷◌, ◌++◌, length, refl, ap, ◌∙◌, arith, IsTrue}
use Rattle.std.specs.Prelude.{slice_index_or, slice_set}
use Rattle.std.specs.List.{list_all}
use Rattle.std.proofs.lemmas.Bool.{and_parts, and_from, eq-eqb, eqb-true, false≢true, not-true}
use Rattle.std.proofs.lemmas.List.{length_push, length-map, map-append, map-set, get_or_read, set-append_left}
use Rattle.std.proofs.Math.Seq.{set-append_seam}
use Rattle.std.proofs.lemmas.List.Sums.{count_by-le-length, sum_by-set, sum_by_push, get_or-le-sum_by, sum-map}
use Rattle.std.proofs.lemmas.List.Folds.{list_all-append}
use Rattle.wdf_base.specs.declared.ids.ObjectId.{ObjectId}
use Rattle.wdf_base.specs.declared.object.Kind.TheVariants as kind
use Rattle.wdf_base.specs.declared.object.Life.{Life}
use Rattle.wdf_base.specs.declared.object.Life.TheVariants as life
use Rattle.wdf_base.specs.Same.{same_kind}
use Rattle.wdf_base.specs.Lives.{is_asked, is_cleaned, is_gone, is_live, is_past_cleanup}
use Rattle.wdf_ilist.specs.Family.{Family, without}
use Rattle.wdf_model.specs.Tables.{entry}
use Rattle.wdf_model.specs.declared.entries.Node.{Node}
use Rattle.wdf_model.specs.declared.room.TheConstants.{OBJECTS}
use Rattle.wdf_model.specs.parts.Tree.{Tree, counts, children, gone, life_of, may_destroy, nearest_devices, own_device, references_in, references_of}
use Rattle.wdf_model.proofs.Maps.{entry_before, entry_set_other, as_long}
use Rattle.wdf_tree.specs.Inside.{EndsAlone, IsKept, ends_alone}
use Rattle.wdf_tree.specs.Kin.{HoldsKin, is_left, is_waiting, joined}
use Rattle.wdf_tree.proofs.Children.{all_gone, is_gone_under}
use Rattle.wdf_tree.proofs.Kin.{holds_joined, holds_kept, holds_none, holds_off, holds_without}

-- ---- lists

pub all_of_entry : {T : Type 0} (p : T → Bool) (blank : T) (xs : List T) (k : ℕ) → p blank ≡ true → list_all p xs ≡ true → p (entry blank xs k) ≡ true
all_of_entry p blank [] k b h = b
all_of_entry p blank (x ∷ xs) zero b h = (and_parts (p x) (list_all p xs) h).0
all_of_entry p blank (x ∷ xs) (suc k) b h = all_of_entry p blank xs k b (and_parts (p x) (list_all p xs) h).1

all_of_set : {T : Type 0} (p : T → Bool) (xs : List T) (k : ℕ) (x : T) → p x ≡ true → list_all p xs ≡ true → list_all p (slice_set xs k x) ≡ true
all_of_set p [] k x e h = refl
all_of_set p (y ∷ ys) zero x e h = and_from (p x) (list_all p ys) e (and_parts (p y) (list_all p ys) h).1
all_of_set p (y ∷ ys) (suc k) x e h =
    let both = and_parts (p y) (list_all p ys) h in
    and_from (p y) (list_all p (slice_set ys k x)) both.0 (all_of_set p ys k x e both.1)

-- ---- nearest devices

pub nearest_push : (before : List ℕ) (ns : List Node) (n : Node)
    → nearest_devices before (ns ++ n ∷ []) ≡ nearest_devices before ns ++ own_device (nearest_devices before ns) (length (nearest_devices before ns)) n ∷ []
nearest_push before [] n = refl
nearest_push before (m ∷ ms) n = nearest_push (before ++ own_device before (length before) m ∷ []) ms n

pub nearest_length : (before : List ℕ) (ns : List Node) → length (nearest_devices before ns) ≡ length before + length ns
nearest_length before [] = omega arith
nearest_length before (n ∷ ns) =
    let d = own_device before (length before) n in
    let rest = nearest_length (before ++ d ∷ []) ns in
    let one = length_push before d in
    omega arith

-- a change of an object keeps its kind and its parent, and whether it is gone
pub record Stays (n m : Node) : Type 0 where
  pub kind : m.kind ≡ n.kind
  pub parent : m.parent.0 ≡ n.parent.0
  pub gone : is_gone m.life ≡ is_gone n.life

nearest_kept : (before : List ℕ) (ns : List Node) (o : ℕ) (m : Node) → m.kind ≡ (entry gone ns o).kind → m.parent.0 ≡ (entry gone ns o).parent.0
    → nearest_devices before (slice_set ns o m) ≡ nearest_devices before ns
nearest_kept before [] o m k p = refl
nearest_kept before (n ∷ ns) zero m k p =
    let same : own_device before (length before) m ≡ own_device before (length before) n = rw (k, p) refl in
    ap (λ d. nearest_devices (before ++ d ∷ []) ns) same
nearest_kept before (n ∷ ns) (suc o) m k p = nearest_kept (before ++ own_device before (length before) n ∷ []) ns o m k p

-- ---- an object more

-- no object is counted but what is there
pub few_counts : {ns : List Node} {ds : List ObjectId} {count s : ℕ} {kin waiting : Family} → IsKept ns ds count s kin waiting → count ≤ length ns
few_counts {ns} {ds} {count} {s} {kin} {waiting} h = let few = count_by-le-length counts ns in omega (arith, h.counted)

pub devices_as_many : {ns : List Node} {ds : List ObjectId} {count s : ℕ} {kin waiting : Family} → IsKept ns ds count s kin waiting → length ds ≡ length ns
devices_as_many {ns} {ds} {count} {s} {kin} {waiting} h =
    let one = length-map ds (λ (d : ObjectId). d.0) in
    let other = nearest_length [] ns in
    let same = ap length h.devices in
    omega arith

-- the id 0 alone
pub kept_at_first : (ns : List Node) (ds : List ObjectId) (s n : ℕ) (kin waiting : Family) → ns ≡ gone ∷ [] → ds ≡ record { 0 = 1 } ∷ [] → OBJECTS ≤ s → n ≡ OBJECTS
    → kin ≡ record { lists = replicate n []; items = n } → waiting ≡ record { lists = replicate n []; items = n } → IsKept ns ds 0 s kin waiting
kept_at_first ns ds s n kin waiting one first k all empty none = rw (one, first) (record {
  few = omega arith;
  room_for_devices = k;
  devices = refl;
  counted = refl;
  ends = record { some = omega arith; none = refl; alone = refl };
  kin = rw empty (holds_none is_left n all refl);
  waiting_kin = rw none (holds_none is_waiting n all refl);
})

live_waits : (l : Life) → is_live l ≡ true → is_waiting l ≡ true
live_waits life.Live h = refl
live_waits _ h = absurd (false≢true h)

live_left : (l : Life) → is_live l ≡ true → is_gone l ≡ false
live_left life.Gone h = absurd (false≢true h)
live_left _ h = refl

pub kept_by_push : {ns : List Node} {ds : List ObjectId} {count s : ℕ} {kin waiting : Family} (n : Node) (d : ObjectId) (id : ℕ) → IsKept ns ds count s kin waiting → length ns < OBJECTS → is_live n.life ≡ true
    → d.0 ≡ own_device (nearest_devices [] ns) (length ns) n → id ≡ length ns
    → IsKept (ns ++ n ∷ []) (ds ++ d ∷ []) (count + cond (counts n) 1 0) s (joined kin n.parent.0 id) (joined waiting n.parent.0 id)
kept_by_push {ns} {ds} {count} {s} {kin} {waiting} n d id h room live e next =
    let there = live_left n.life live in
    rw next (record {
      few = let one = length_push ns n in omega (arith, h.few);
      room_for_devices = h.room_for_devices;
      devices =
          let as_many : length (nearest_devices [] ns) ≡ length ns = nearest_length [] ns ∙ omega arith in
          map-append (λ (x : ObjectId). x.0) ds (d ∷ [])
          ∙ ap (λ xs. xs ++ d.0 ∷ []) h.devices
          ∙ ap (λ x. nearest_devices [] ns ++ x ∷ []) (e ∙ ap (λ k. own_device (nearest_devices [] ns) k n) (sym as_many))
          ∙ sym (nearest_push [] ns n);
      counted = let more = sum_by_push (λ (x : Node). cond (counts x) 1 0) ns n in omega (arith, h.counted);
      ends = record {
        some = let one = length_push ns n in omega arith;
        none = let past : 0 ≢ length ns = let some = h.ends.some in omega arith in rw (entry_before gone ns n 0 past) h.ends.none;
        alone = list_all-append ends_alone ns (n ∷ []) ∙ and_from (list_all ends_alone ns) (ends_alone n && true) h.ends.alone (rw there refl);
      };
      kin = holds_joined is_left ns n kin h.kin (ap not there);
      waiting_kin = holds_joined is_waiting ns n waiting h.waiting_kin (live_waits n.life live);
    })

-- ---- a change of one object

first_kept : (ns : List Node) (o : ℕ) (m : Node) → is_gone m.life ≡ is_gone (entry gone ns o).life
    → is_gone (entry gone (slice_set ns o m) 0).life ≡ is_gone (entry gone ns 0).life
first_kept [] o m e = refl
first_kept (n ∷ ns) zero m e = e
first_kept (n ∷ ns) (suc o) m e = refl

pub kept_by_set : {ns : List Node} {ds : List ObjectId} {count s : ℕ} {kin waiting : Family} (o : ℕ) (m : Node) (kin' waiting' : Family) → IsKept ns ds count s kin waiting → o < length ns → Stays (entry gone ns o) m
    → HoldsKin is_left (slice_set ns o m) kin' → HoldsKin is_waiting (slice_set ns o m) waiting' → IsKept (slice_set ns o m) ds count s kin' waiting'
kept_by_set {ns} {ds} {count} {s} {kin} {waiting} o m kin' waiting' h there stays left waits = record {
  few = let one = as_long ns o m in omega (arith, h.few);
  room_for_devices = h.room_for_devices;
  devices = h.devices ∙ sym (nearest_kept [] ns o m stays.kind stays.parent);
  counted =
      let same : counts m ≡ counts (entry gone ns o) = rw (stays.gone, stays.kind) refl in
      let both : cond {A = ℕ} (counts m) 1 0 ≡ cond {A = ℕ} (counts (entry gone ns o)) 1 0 = ap (λ (b : Bool). cond {A = ℕ} b 1 0) same in
      let more = sum_by-set (λ (x : Node). cond (counts x) 1 0) ns o m gone there in
      omega (arith, h.counted);
  ends = record {
    some = let one = as_long ns o m in omega (arith, h.ends.some);
    none = first_kept ns o m stays.gone ∙ h.ends.none;
    alone =
        let was : ends_alone (entry gone ns o) ≡ true = all_of_entry ends_alone gone ns o refl h.ends.alone in
        all_of_set ends_alone ns o m (rw (stays.gone, stays.kind, stays.parent) was) h.ends.alone;
  };
  kin = left;
  waiting_kin = waits;
}

-- an element that was read is the entry
pub read_entry : {T : Type 0} (blank : T) (xs : List T) (o : ℕ) (x : T) → o < length xs → x ≡ slice_index_or xs o x → entry blank xs o ≡ x
read_entry blank xs o x h e = sym (get_or_read xs o x h e blank)

-- an entry that is there was read
pub read_there : {T : Type 0} (blank : T) (xs : List T) (o : ℕ) (x : T) → o < length xs → x ≡ entry blank xs o → x ≡ slice_index_or xs o x
read_there blank [] o x h e = absurd (omega arith)
read_there blank (y ∷ ys) zero x h e = e
read_there blank (y ∷ ys) (suc o) x h e = read_there blank ys o x (omega arith) e

stays_read : (ns : List Node) (o : ℕ) (n m : Node) → o < length ns → n ≡ slice_index_or ns o n → Stays n m → Stays (entry gone ns o) m
stays_read ns o n m there read stays =
    let e = read_entry gone ns o n there read in
    record {
      kind = stays.kind ∙ ap (λ (x : Node). x.kind) (sym e);
      parent = stays.parent ∙ ap (λ (x : Node). x.parent.0) (sym e);
      gone = stays.gone ∙ ap (λ (x : Node). is_gone x.life) (sym e);
    }

-- a write that keeps the life as far as the children of its parent are concerned
pub kept_by_write : {ns : List Node} {ds : List ObjectId} {count s : ℕ} {kin waiting : Family} (o : ℕ) (n m : Node) → IsKept ns ds count s kin waiting → o < length ns → n ≡ slice_index_or ns o n
    → Stays n m → is_past_cleanup m.life ≡ is_past_cleanup n.life → IsKept (slice_set ns o m) ds count s kin waiting
kept_by_write {ns} {ds} {count} {s} {kin} {waiting} o n m h there read stays past =
    let all = stays_read ns o n m there read stays in
    let waits : is_waiting m.life ≡ is_waiting (entry gone ns o).life = ap not past ∙ ap (λ (x : Node). is_waiting x.life) (sym (read_entry gone ns o n there read)) in
    kept_by_set o m kin waiting h there all (holds_kept is_left ns kin o m h.kin all.parent (ap not all.gone)) (holds_kept is_waiting ns waiting o m h.waiting_kin all.parent waits)

-- a cleanup: the object leaves the list of those that wait
pub kept_by_cleanup : {ns : List Node} {ds : List ObjectId} {count s : ℕ} {kin waiting : Family} (o : ℕ) (n m : Node) → IsKept ns ds count s kin waiting → o < length ns → n ≡ slice_index_or ns o n
    → Stays n m → is_past_cleanup m.life ≡ true → IsKept (slice_set ns o m) ds count s kin (record waiting { lists = map (without o) waiting.lists })
kept_by_cleanup {ns} {ds} {count} {s} {kin} {waiting} o n m h there read stays past =
    let all = stays_read ns o n m there read stays in
    kept_by_set o m kin (record waiting { lists = map (without o) waiting.lists }) h there all (holds_kept is_left ns kin o m h.kin all.parent (ap not all.gone))
    (holds_without is_waiting ns waiting o m h.waiting_kin (ap not past))

-- ---- an end

-- where nothing is a child of o, another nearest device of o is that of no other
apart_at : (before : List ℕ) (ns : List Node) (o d : ℕ) → o < length before → list_all (λ (n : Node). not (n.parent.0 == o)) ns ≡ true
    → nearest_devices (slice_set before o d) ns ≡ slice_set (nearest_devices before ns) o d
apart_at before [] o d there h = refl
apart_at before (n ∷ ns) o d there h =
    let both = and_parts (not (n.parent.0 == o)) (list_all (λ (m : Node). not (m.parent.0 == o)) ns) h in
    let other : n.parent.0 ≢ o = λ e. let yes = eq-eqb n.parent.0 o e in let z : ⊥ = false≢true (sym (ap not yes) ∙ both.0) in z in
    let here : own_device (slice_set before o d) (length (slice_set before o d)) n ≡ own_device before (length before) n
    = rw (as_long before o d, entry_set_other 1 before o n.parent.0 d other) refl in
    let one = own_device before (length before) n in
    ap (λ x. nearest_devices (slice_set before o d ++ x ∷ []) ns) here
    ∙ ap (λ xs. nearest_devices xs ns) (sym (set-append_left before (one ∷ []) o d there))
    ∙ apart_at (before ++ one ∷ []) ns o d (let more = length_push before one in omega arith) both.1

-- the nearest devices where an object with no child has ended, and the id 0 has the driver object
nearest_ended : (before : List ℕ) (ns : List Node) (o at : ℕ) → at ≡ length (1 ∷ before) + o → o < length ns → list_all (λ (n : Node). not (n.parent.0 == at)) ns ≡ true
    → nearest_devices (1 ∷ before) (slice_set ns o gone) ≡ slice_set (nearest_devices (1 ∷ before) ns) at 1
nearest_ended before [] o at e there h = absurd (omega arith)
nearest_ended before (n ∷ ns) zero at e there h =
    let both = and_parts (not (n.parent.0 == at)) (list_all (λ (m : Node). not (m.parent.0 == at)) ns) h in
    let place : at ≡ length (1 ∷ before) = omega arith in
    let one = own_device (1 ∷ before) (length (1 ∷ before)) n in
    ap (λ xs. nearest_devices xs ns) (sym (set-append_seam (1 ∷ before) one [] 1) ∙ ap (λ k. slice_set ((1 ∷ before) ++ one ∷ []) k 1) (sym place))
    ∙ apart_at ((1 ∷ before) ++ one ∷ []) ns at 1 (let more = length_push (1 ∷ before) one in omega arith) both.1
nearest_ended before (n ∷ ns) (suc o) at e there h =
    let both = and_parts (not (n.parent.0 == at)) (list_all (λ (m : Node). not (m.parent.0 == at)) ns) h in
    let one = own_device (1 ∷ before) (length (1 ∷ before)) n in
    nearest_ended (before ++ one ∷ []) ns o at (let more = length_push before one in omega arith) (omega arith) both.1

-- an object with no child that isn't gone has none at all
pub no_child : (ns : List Node) (o : ℕ) → 0 < o → list_all ends_alone ns ≡ true → list_all (is_gone_under o) ns ≡ true → list_all (λ (n : Node). not (n.parent.0 == o)) ns ≡ true
no_child [] o h k l = refl
no_child (n ∷ ns) o h k l =
    let alone = and_parts (ends_alone n) (list_all ends_alone ns) k in
    let under = and_parts (is_gone_under o n) (list_all (is_gone_under o) ns) l in
    and_from (not (n.parent.0 == o)) (list_all (λ (m : Node). not (m.parent.0 == o)) ns) (elsewhere (n.parent.0 == o) refl alone.0 under.0) (no_child ns o h alone.1 under.1)
  where
    elsewhere : (b : Bool) → (n.parent.0 == o) ≡ b → ends_alone n ≡ true → is_gone_under o n ≡ true → not (n.parent.0 == o) ≡ true
    elsewhere false e f g = ap not e
    elsewhere true e f g =
        let ended : is_gone n.life ≡ true = rw e at g in
        let first = rw ended at f in
        let root : n.parent.0 ≡ 0 = eqb-true n.parent.0 0 (and_parts (n.parent.0 == 0) (not (same_kind n.kind kind.Device)) first).0 in
        let place : n.parent.0 ≡ o = eqb-true n.parent.0 o e in
        absurd (omega arith)

pub there_if_asked : (ns : List Node) (o : ℕ) → is_asked (entry gone ns o).life ≡ true → o < length ns
there_if_asked [] o h = absurd (false≢true h)
there_if_asked (n ∷ ns) zero h = omega arith
there_if_asked (n ∷ ns) (suc o) h = let there = there_if_asked ns o h in omega arith

pub there_if_cleaned : (ns : List Node) (o : ℕ) → is_cleaned (entry gone ns o).life ≡ true → o < length ns
there_if_cleaned [] o h = absurd (false≢true h)
there_if_cleaned (n ∷ ns) zero h = omega arith
there_if_cleaned (n ∷ ns) (suc o) h = let there = there_if_cleaned ns o h in omega arith

-- what is live is not gone, and its cleanup is still to come
pub record IsLiving (l : Life) : Type 0 where
  pub live : is_live l ≡ true
  pub gone : is_gone l ≡ false
  pub waits : is_past_cleanup l ≡ false

pub live_stands : (l : Life) → is_live l ≡ true → IsLiving l
live_stands life.Live h = record { live = refl; gone = refl; waits = refl }
live_stands _ h = absurd (false≢true h)

-- the id 0 is not live
pub none_live : {ns : List Node} {ds : List ObjectId} {count s : ℕ} {kin waiting : Family} → IsKept ns ds count s kin waiting → is_live (entry gone ns 0).life ≡ false
none_live {ns} {ds} {count} {s} {kin} {waiting} h = gone_off (entry gone ns 0).life h.ends.none
  where
    gone_off : (l : Life) → is_gone l ≡ true → is_live l ≡ false
    gone_off life.Live e = absurd (false≢true e)
    gone_off _ e = refl

pub asked_stands : (l : Life) → is_asked l ≡ true → is_gone l ≡ false
asked_stands life.Gone h = absurd (false≢true h)
asked_stands _ h = refl

-- what is cleaned up is not gone
cleaned_stands : (l : Life) → is_cleaned l ≡ true → is_gone l ≡ false
cleaned_stands life.Gone h = absurd (false≢true h)
cleaned_stands _ h = refl

pub few_counted : {ns : List Node} {ds : List ObjectId} {count s : ℕ} {kin waiting : Family} (o : ℕ) (n : Node) → IsKept ns ds count s kin waiting → o < length ns → n ≡ slice_index_or ns o n
    → cond (counts n) 1 0 ≤ count
few_counted {ns} {ds} {count} {s} {kin} {waiting} o n h there read =
    let one = get_or-le-sum_by (λ (x : Node). cond (counts x) 1 0) ns o n there in
    let same : cond {A = ℕ} (counts (slice_index_or ns o n)) 1 0 ≡ cond {A = ℕ} (counts n) 1 0 = ap (λ (x : Node). cond {A = ℕ} (counts x) 1 0) (sym read) in
    omega (arith, h.counted)

-- the first entry isn't o
later : (ns : List Node) (o : ℕ) → is_gone (entry gone ns 0).life ≡ true → is_cleaned (entry gone ns o).life ≡ true → 0 < o
later ns zero h k = absurd (false≢true (sym (cleaned_stands (entry gone ns 0).life k) ∙ h))
later ns (suc o) h k = omega arith

ended_devices : (ns : List Node) (o : ℕ) → EndsAlone ns → 0 < o → o < length ns → list_all (λ (n : Node). not (n.parent.0 == o)) ns ≡ true
    → nearest_devices [] (slice_set ns o gone) ≡ slice_set (nearest_devices [] ns) o 1
ended_devices [] o h first there none = absurd (omega arith)
ended_devices (n ∷ ns) zero h first there none = absurd (omega arith)
ended_devices (n ∷ ns) (suc o) h first there none =
    let alone = and_parts (ends_alone n) (list_all ends_alone ns) h.alone in
    let placeless = and_parts (n.parent.0 == 0) (not (same_kind n.kind kind.Device)) (rw h.none at alone.0) in
    let other : same_kind n.kind kind.Device ≡ false = not-true (same_kind n.kind kind.Device) placeless.1 in
    let both = and_parts (not (n.parent.0 == suc o)) (list_all (λ (m : Node). not (m.parent.0 == suc o)) ns) none in
    let start : own_device [] 0 n ≡ 1 = rw other refl in
    ap (λ d. nearest_devices (d ∷ []) (slice_set ns o gone)) start
    ∙ nearest_ended [] ns o (suc o) (omega arith) (omega arith) both.1
    ∙ sym (ap (λ d. slice_set (nearest_devices (d ∷ []) ns) (suc o) 1) start)

-- an object that may be destroyed is cleaned up, and its children are gone
pub record MayEnd (ns : List Node) (o : ℕ) : Type 0 where
  pub cleaned : is_cleaned (entry gone ns o).life ≡ true
  pub childless : list_all (is_gone_under o) ns ≡ true

pub may_end : (T U : Tree) (o : ℕ) → T ≡ U → IsTrue (may_destroy U o) → MayEnd T.nodes o
may_end T U o e h =
    let may : may_destroy T o ≡ true = ap (λ V. may_destroy V o) e ∙ h in
    let outer = and_parts (is_cleaned (life_of T o) && references_of T o == 0) (length (children T o) == 0) may in
    record {
      cleaned = (and_parts (is_cleaned (life_of T o)) (references_of T o == 0) outer.0).0;
      childless = all_gone T o ∙ outer.1;
    }

cleaned_off : (l : Life) → is_cleaned l ≡ true → is_waiting l ≡ false
cleaned_off life.Cleaned h = refl
cleaned_off _ h = absurd (false≢true h)

pub kept_by_end : {ns : List Node} {ds : List ObjectId} {count s : ℕ} {kin waiting : Family} (o less : ℕ) (n m : Node) (d : ObjectId) → IsKept ns ds count s kin waiting → MayEnd ns o
    → n ≡ slice_index_or ns o n → m ≡ gone → d.0 ≡ 1 → less + cond (counts n) 1 0 ≡ count → IsKept (slice_set ns o m) (slice_set ds o d) less s (record kin { lists = map (without o) kin.lists }) waiting
kept_by_end {ns} {ds} {count} {s} {kin} {waiting} o less n m d h may read blank driver e =
    let cleaned = may.cleaned in
    let none = may.childless in
    let there : o < length ns = there_if_cleaned ns o cleaned in
    let first : 0 < o = later ns o h.ends.none cleaned in
    let same : cond {A = ℕ} (counts (entry gone ns o)) 1 0 ≡ cond {A = ℕ} (counts n) 1 0 = ap (λ (x : Node). cond {A = ℕ} (counts x) 1 0) (read_entry gone ns o n there read) in
    rw blank (record {
      few = let one = as_long ns o gone in omega (arith, h.few);
      room_for_devices = h.room_for_devices;
      devices =
          map-set (λ (x : ObjectId). x.0) ds o d
          ∙ rw driver (ap (λ xs. slice_set xs o 1) h.devices)
          ∙ sym (ended_devices ns o h.ends first there (no_child ns o first h.ends.alone none));
      counted = let more = sum_by-set (λ (x : Node). cond (counts x) 1 0) ns o gone gone there in omega (arith, h.counted);
      ends = record {
        some = let one = as_long ns o gone in omega (arith, h.ends.some);
        none = first_ended ns o first h.ends.none;
        alone = all_of_set ends_alone ns o gone refl h.ends.alone;
      };
      kin = holds_without is_left ns kin o gone h.kin refl;
      waiting_kin = holds_off is_waiting ns waiting o gone h.waiting_kin (cleaned_off (entry gone ns o).life cleaned) refl;
    })
  where
    first_ended : (ms : List Node) (k : ℕ) → 0 < k → is_gone (entry gone ms 0).life ≡ true → is_gone (entry gone (slice_set ms k gone) 0).life ≡ true
    first_ended [] k f e = refl
    first_ended (m ∷ ms) zero f e = refl
    first_ended (m ∷ ms) (suc k) f e = e

-- ---- references

pub few_of_one : (T : Tree) (o : ℕ) → o < length T.nodes → references_of T o ≤ references_in T
few_of_one T o there =
    let one = get_or-le-sum_by (λ (x : Node). x.references) T.nodes o gone there in
    let whole = sum-map (λ (x : Node). x.references) T.nodes in
    omega arith
