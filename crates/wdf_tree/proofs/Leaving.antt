-- The sets of the objects whose deletion isn't finished: after a change of an object, and what they answer.
use Rattle.std.proofs.Common.{if◌then◌else◌, ℕ, zero, suc, ◌≡◌, ◌⊎◌, ◌+◌, ◌-◌, ◌<◌, ◌≤◌, nat_le, nat_lt, Bool, true, false, ◌&&◌, ◌||◌, List, [], ◌∷◌, ◌++◌, Option, Some, length, filter, find, slice_get, slice_set, replicate, refl, ap, sym, ◌∙◌, inl, inr, get_or-set_same, get_or-set_other, length-set, arith}
use Rattle.std.specs.Prelude.{slice_index_or}
use Rattle.std.specs.List.{list_any, range_with_len}
use Rattle.std.proofs.lemmas.Bool.{cases_eq, false≢true, lt-ltb}
use Rattle.std.proofs.lemmas.Bool.Decides.{nat_tests}
use Rattle.std.proofs.lemmas.List.{length-replicate}
use Rattle.wdf_base.specs.declared.object.Life.{Life}
use Rattle.wdf_base.specs.declared.object.Life.TheVariants as life
use Rattle.wdf_base.specs.Lives.{is_asked, is_cleaned, is_live}
use Rattle.wdf_model.specs.Tables.{entry, ids_of}
use Rattle.wdf_model.specs.declared.entries.Node.{Node}
use Rattle.wdf_model.specs.declared.room.TheConstants.{OBJECTS}
use Rattle.wdf_model.specs.parts.Tree.{Tree, gone, life_of}
use Rattle.wdf_model.proofs.Maps.{entry_before, entry_last, entry_past}
use Rattle.wdf_sets.specs.Members.{is_in, members, rank}
use Rattle.wdf_sets.proofs.Ranks.{members_where, one, rank_more, rank_mono}
use Rattle.wdf_tree.specs.Leaving.{HoldsLeaving, HoldsLives}
use Rattle.wdf_tree.proofs.Kept.{read_entry}

-- ---- one set

written_at : (test : Life → Bool) (ns : List Node) (bits : List Bool) (o id : ℕ) (m : Node) → o < length bits → o < length ns → HoldsLives test ns bits → (id ≡ o) ⊎ (id ≡ o → ⊥)
    → is_in id (slice_set bits o (test m.life)) ≡ test (entry gone (slice_set ns o m) id).life
written_at test ns bits o id m h there set (inl same) =
    rw (same, get_or-set_same bits o (test m.life) false h, get_or-set_same ns o m gone there) refl
written_at test ns bits o id m h there set (inr other) =
    rw (get_or-set_other bits o id (test m.life) false other, get_or-set_other ns o id m gone other) (set.same id)

-- an object and its bit are written
holds_written : (test : Life → Bool) (ns : List Node) (bits : List Bool) (o : ℕ) (m : Node) (on : Bool) → length ns ≤ OBJECTS → o < length ns → on ≡ test m.life → HoldsLives test ns bits
    → HoldsLives test (slice_set ns o m) (slice_set bits o on)
holds_written test ns bits o m on few there e set =
    let room = set.room in
    rw e (record {
      room = rw (length-set bits o (test m.life)) room;
      same = λ id. written_at test ns bits o id m (omega arith) there set (cases_eq id o);
    })

stays_at : (test : Life → Bool) (ns : List Node) (bits : List Bool) (o id : ℕ) (m : Node) → o < length ns → test m.life ≡ test (entry gone ns o).life → HoldsLives test ns bits
    → (id ≡ o) ⊎ (id ≡ o → ⊥) → is_in id bits ≡ test (entry gone (slice_set ns o m) id).life
stays_at test ns bits o id m there e set (inl same) = rw (same, get_or-set_same ns o m gone there, e) (set.same o)
stays_at test ns bits o id m there e set (inr other) = rw (get_or-set_other ns o id m gone other) (set.same id)

-- an object is written whose life passes as before
holds_same : (test : Life → Bool) (ns : List Node) (bits : List Bool) (o : ℕ) (m : Node) → o < length ns → test m.life ≡ test (entry gone ns o).life → HoldsLives test ns bits
    → HoldsLives test (slice_set ns o m) bits
holds_same test ns bits o m there e set = record { room = set.room; same = λ id. stays_at test ns bits o id m there e set (cases_eq id o) }

pushed_at : (test : Life → Bool) (ns : List Node) (bits : List Bool) (n : Node) (id : ℕ) → test life.Gone ≡ false → test n.life ≡ false → HoldsLives test ns bits
    → (id ≡ length ns) ⊎ (id ≡ length ns → ⊥) → is_in id bits ≡ test (entry gone (ns ++ n ∷ []) id).life
pushed_at test ns bits n id none off set (inl same) =
    rw (same, entry_last gone ns n) (set.same (length ns) ∙ ap (λ (x : Node). test x.life) (entry_past gone ns (length ns) (omega arith)) ∙ none ∙ sym off)
pushed_at test ns bits n id none off set (inr other) = rw (entry_before gone ns n id other) (set.same id)

-- an object more, whose life doesn't pass
holds_pushed : (test : Life → Bool) (ns : List Node) (bits : List Bool) (n : Node) → test life.Gone ≡ false → test n.life ≡ false → HoldsLives test ns bits → HoldsLives test (ns ++ n ∷ []) bits
holds_pushed test ns bits n none off set = record { room = set.room; same = λ id. pushed_at test ns bits n id none off set (cases_eq id (length ns)) }

pub none_in : (n id : ℕ) → is_in id (replicate n false) ≡ false
none_in zero id = refl
none_in (suc n) zero = refl
none_in (suc n) (suc id) = none_in n id

pub gone_alone : (id : ℕ) → entry gone (gone ∷ []) id ≡ gone
gone_alone zero = refl
gone_alone (suc id) = entry_past gone [] id (omega arith)

-- the empty set
holds_empty : (test : Life → Bool) (n : ℕ) (bits : List Bool) → test life.Gone ≡ false → OBJECTS ≤ n → bits ≡ replicate n false → HoldsLives test (gone ∷ []) bits
holds_empty test n bits none room e = record {
  room = rw (e, length-replicate n false) room;
  same = λ id. rw (e, gone_alone id) (none_in n id ∙ sym none);
}

-- ---- both sets

-- the id 0 alone
pub leaving_at_first : (ns : List Node) (n k : ℕ) (asked cleaned : List Bool) → ns ≡ gone ∷ [] → OBJECTS ≤ n → OBJECTS ≤ k → asked ≡ replicate n false → cleaned ≡ replicate k false → HoldsLeaving ns asked cleaned
leaving_at_first ns n k asked cleaned one room space a c =
    rw one (record { asked = holds_empty is_asked n asked refl room a; cleaned = holds_empty is_cleaned k cleaned refl space c })

pub live_unasked : (l : Life) → is_live l ≡ true → is_asked l ≡ false
live_unasked life.Live h = refl
live_unasked _ h = absurd (false≢true h)

pub live_uncleaned : (l : Life) → is_live l ≡ true → is_cleaned l ≡ false
live_uncleaned life.Live h = refl
live_uncleaned _ h = absurd (false≢true h)

-- a live object more
pub leaving_by_push : {ns : List Node} {asked cleaned : List Bool} (n : Node) → HoldsLeaving ns asked cleaned → is_live n.life ≡ true → HoldsLeaving (ns ++ n ∷ []) asked cleaned
leaving_by_push {ns} {asked} {cleaned} n h live = record {
  asked = holds_pushed is_asked ns asked n refl (live_unasked n.life live) h.asked;
  cleaned = holds_pushed is_cleaned ns cleaned n refl (live_uncleaned n.life live) h.cleaned;
}

read_life : (ns : List Node) (o : ℕ) (n : Node) → o < length ns → n ≡ slice_index_or ns o n → n.life ≡ (entry gone ns o).life
read_life ns o n there read = ap (λ (x : Node). x.life) (sym (read_entry gone ns o n there read))

-- a write that keeps the life
pub leaving_by_write : {ns : List Node} {asked cleaned : List Bool} (o : ℕ) (n m : Node) → HoldsLeaving ns asked cleaned → o < length ns → n ≡ slice_index_or ns o n → m.life ≡ n.life
    → HoldsLeaving (slice_set ns o m) asked cleaned
leaving_by_write {ns} {asked} {cleaned} o n m h there read e =
    let same = e ∙ read_life ns o n there read in
    record { asked = holds_same is_asked ns asked o m there (ap is_asked same) h.asked; cleaned = holds_same is_cleaned ns cleaned o m there (ap is_cleaned same) h.cleaned }

-- the deletion of a live object is asked
pub leaving_by_ask : {ns : List Node} {asked cleaned : List Bool} (o : ℕ) (m : Node) → HoldsLeaving ns asked cleaned → length ns ≤ OBJECTS → o < length ns → is_live (entry gone ns o).life ≡ true → m.life ≡ life.Asked
    → HoldsLeaving (slice_set ns o m) (slice_set asked o true) cleaned
leaving_by_ask {ns} {asked} {cleaned} o m h few there live e = record {
  asked = holds_written is_asked ns asked o m true few there (sym (ap is_asked e)) h.asked;
  cleaned = holds_same is_cleaned ns cleaned o m there (ap is_cleaned e ∙ sym (live_uncleaned (entry gone ns o).life live)) h.cleaned;
}

-- the cleanup of an object is done
pub leaving_by_cleanup : {ns : List Node} {asked cleaned : List Bool} (o : ℕ) (m : Node) → HoldsLeaving ns asked cleaned → length ns ≤ OBJECTS → o < length ns → m.life ≡ life.Cleaned
    → HoldsLeaving (slice_set ns o m) (slice_set asked o false) (slice_set cleaned o true)
leaving_by_cleanup {ns} {asked} {cleaned} o m h few there e = record {
  asked = holds_written is_asked ns asked o m false few there (sym (ap is_asked e)) h.asked;
  cleaned = holds_written is_cleaned ns cleaned o m true few there (sym (ap is_cleaned e)) h.cleaned;
}

pub cleaned_unasked : (l : Life) → is_cleaned l ≡ true → is_asked l ≡ false
cleaned_unasked life.Asked h = absurd (false≢true h)
cleaned_unasked _ h = refl

-- an object that is cleaned up ends
pub leaving_by_end : {ns : List Node} {asked cleaned : List Bool} (o : ℕ) (m : Node) → HoldsLeaving ns asked cleaned → length ns ≤ OBJECTS → o < length ns → is_cleaned (entry gone ns o).life ≡ true → m ≡ gone
    → HoldsLeaving (slice_set ns o m) asked (slice_set cleaned o false)
leaving_by_end {ns} {asked} {cleaned} o m h few there was e =
    let ended : m.life ≡ life.Gone = ap (λ (x : Node). x.life) e in
    record {
      asked = holds_same is_asked ns asked o m there (ap is_asked ended ∙ sym (cleaned_unasked (entry gone ns o).life was)) h.asked;
      cleaned = holds_written is_cleaned ns cleaned o m false few there (sym (ap is_cleaned ended)) h.cleaned;
    }

-- ---- the first member from an id on

first_by : (id a k k' : ℕ) (rest : List ℕ) (found : Option ℕ) (b : Bool) → nat_le id a ≡ b → (id ≤ a → k ≡ 0) → (a < id → k ≡ suc k')
    → slice_get rest k' ≡ found → slice_get (a ∷ rest) k ≡ (if b && true then Some a else found)
first_by id a k k' rest found true e none more further =
    let near : id ≤ a = grind (arith, nat_tests) in
    rw (none near) refl
first_by id a k k' rest found false e none more further =
    let far : a < id = grind (arith, nat_tests) in
    rw (more far) further

passed_over : (b : Bool) (x : Option ℕ) (found : Option ℕ) → found ≡ (if b && false then x else found)
passed_over true x found = refl
passed_over false x found = refl

from_by : (bits : List Bool) (id a : ℕ) (rest : List ℕ) (found : Option ℕ) (b : Bool) → is_in a bits ≡ b → a < length bits
    → slice_get rest (rank id bits - rank (a + 1) bits) ≡ found
    → slice_get (if b then a ∷ rest else rest) (rank id bits - rank a bits) ≡ (if nat_le id a && b then Some a else found)
from_by bits id a rest found false e h further =
    let more : rank (a + 1) bits ≡ rank a bits + one (is_in a bits) = rank_more bits a h in
    let none : one (is_in a bits) ≡ 0 = ap one e in
    let same : rank (a + 1) bits ≡ rank a bits = omega arith in
    (rw same at further) ∙ passed_over (nat_le id a) (Some a) found
from_by bits id a rest found true e h further =
    let more : rank (a + 1) bits ≡ rank a bits + one (is_in a bits) = rank_more bits a h in
    let here : one (is_in a bits) ≡ 1 = ap one e in
    first_by id a (rank id bits - rank a bits) (rank id bits - rank (a + 1) bits) rest found (nat_le id a) refl
    (λ near. let below = rank_mono bits id a near in omega arith)
    (λ far. let below = rank_mono bits (a + 1) id (omega arith) in omega arith)
    further

pub from_part : (bits : List Bool) (p : ℕ → Bool) (id a n : ℕ) → ((x : ℕ) → is_in x bits ≡ p x) → a + n ≤ length bits
    → slice_get (filter p (range_with_len a n)) (rank id bits - rank a bits) ≡ find (λ x. nat_le id x && p x) (range_with_len a n)
from_part bits p id a zero e h = refl
from_part bits p id a (suc n) e h =
    from_by bits id a (filter p (range_with_len (a + 1) n)) (find (λ x. nat_le id x && p x) (range_with_len (a + 1) n)) (p a) (e a) (omega arith)
    (from_part bits p id (a + 1) n e (omega arith))

-- the members are the objects that pass
members_pass : (test : Life → Bool) (ns : List Node) (bits : List Bool) → test life.Gone ≡ false → HoldsLives test ns bits
    → members bits ≡ filter (λ id. test (entry gone ns id).life) (ids_of ns)
members_pass test ns bits none set =
    members_where bits (λ id. test (entry gone ns id).life) (length ns) set.same (λ id past. ap (λ (x : Node). test x.life) (entry_past gone ns id past) ∙ none)

-- the first object from an id on in a life that passes
pub first_passing : (test : Life → Bool) (ns : List Node) (bits : List Bool) (id : ℕ) → test life.Gone ≡ false → length ns ≤ OBJECTS → HoldsLives test ns bits
    → slice_get (members bits) (rank id bits) ≡ find (λ o. nat_le id o && test (entry gone ns o).life) (ids_of ns)
first_passing test ns bits id none few set =
    let room = set.room in
    let start : rank id bits - rank 0 bits ≡ rank id bits = omega arith in
    ap (λ ids. slice_get ids (rank id bits)) (members_pass test ns bits none set)
    ∙ (rw start at (from_part bits (λ o. test (entry gone ns o).life) id 0 (length ns) set.same (omega arith)))

-- ---- whether there is any

any_left : (p : ℕ → Bool) (ids : List ℕ) → nat_lt 0 (length (filter p ids)) ≡ list_any p ids
any_left p [] = refl
any_left p (x ∷ xs) = by_test (p x) refl (any_left p xs)
  where
    by_test : (b : Bool) → p x ≡ b → nat_lt 0 (length (filter p xs)) ≡ list_any p xs → nat_lt 0 (length (filter p (x ∷ xs))) ≡ list_any p (x ∷ xs)
    by_test true e rest = rw e (let some : 0 < length (x ∷ filter p xs) = omega arith in lt-ltb 0 (length (x ∷ filter p xs)) some)
    by_test false e rest = rw e rest

either_or : (a b c d : Bool) → ((a || b) || (c || d)) ≡ ((a || c) || (b || d))
either_or true b c d = refl
either_or false b true d = or_true b d
  where
    or_true : (x y : Bool) → (x || true) ≡ true
    or_true true y = refl
    or_true false y = refl
either_or false true false d = refl
either_or false false false d = refl

any_of_both : (p q : ℕ → Bool) (ids : List ℕ) → (list_any p ids || list_any q ids) ≡ list_any (λ x. p x || q x) ids
any_of_both p q [] = refl
any_of_both p q (x ∷ xs) = either_or (p x) (list_any p xs) (q x) (list_any q xs) ∙ ap (λ b. (p x || q x) || b) (any_of_both p q xs)

-- some object is leaving where one of the sets isn't empty
pub some_member : (T : Tree) (asked cleaned : List Bool) (n m : ℕ) → HoldsLeaving T.nodes asked cleaned → n ≡ length (members asked) → m ≡ length (members cleaned)
    → (nat_lt 0 n || nat_lt 0 m) ≡ list_any (λ o. is_asked (life_of T o) || is_cleaned (life_of T o)) (ids_of T.nodes)
some_member T asked cleaned n m h e f =
    let a = ap (λ ids. nat_lt 0 (length ids)) (members_pass is_asked T.nodes asked refl h.asked) ∙ any_left (λ o. is_asked (life_of T o)) (ids_of T.nodes) in
    let c = ap (λ ids. nat_lt 0 (length ids)) (members_pass is_cleaned T.nodes cleaned refl h.cleaned) ∙ any_left (λ o. is_cleaned (life_of T o)) (ids_of T.nodes) in
    rw (e, f, a, c) (any_of_both (λ o. is_asked (life_of T o)) (λ o. is_cleaned (life_of T o)) (ids_of T.nodes))
