-- The set of the objects whose cleanup may come by lives alone: after a change of an object, and what it answers.
use Rattle.std.proofs.Common.{if◌then◌else◌, ℕ, ◌≡◌, ◌≢◌, ◌⊎◌, ◌-◌, ◌<◌, ◌≤◌, ◌==◌, nat_le, nat_lt, not, Bool, true, false, ◌&&◌, ◌||◌, List, [], ◌∷◌, ◌++◌, Option, Some, None, filter, map, length, find, slice_get, slice_set, replicate, refl, ap, sym, subst, ◌∙◌, inl, inr, get_or-set_same, get_or-set_other, length-set, arith}
use Rattle.std.specs.Prelude.{IfSome, slice_index_or}
use Rattle.std.specs.List.{range_with_len}
use Rattle.std.proofs.Math.Bool.{or-true}
use Rattle.std.proofs.lemmas.Bool.{and_right, cases_eq, cases_lt, eq-eqb, false≢true, ltb-true, ne_eqb}
use Rattle.std.proofs.lemmas.List.{length_push, length-replicate}
use Rattle.wdf_base.specs.declared.object.Life.{Life}
use Rattle.wdf_base.specs.declared.object.Life.TheVariants as life
use Rattle.wdf_base.specs.Lives.{is_asked, is_gone, is_live, is_past_cleanup}
use Rattle.wdf_ilist.specs.Family.{Family, is_on, last_of, list_at, without}
use Rattle.wdf_ilist.proofs.Lists.{map_at}
use Rattle.wdf_model.specs.Tables.{entry, ids_of, same_id}
use Rattle.wdf_model.specs.declared.entries.Node.{Node}
use Rattle.wdf_model.specs.declared.room.TheConstants.{OBJECTS}
use Rattle.wdf_model.specs.parts.Tree.{Tree, gone, life_of, may_clean, parent_of}
use Rattle.wdf_model.proofs.Maps.{as_long, entry_before, entry_last, entry_past, entry_set_other}
use Rattle.wdf_sets.specs.Members.{is_in, members, rank}
use Rattle.wdf_sets.proofs.Ranks.{members_where, rank_first}
use Rattle.wdf_tree.specs.Kin.{HoldsKin, is_kin, is_waiting, joined}
use Rattle.wdf_tree.specs.Turns.{AreNoted, HoldsTurns, is_turn, turns_of}
use Rattle.wdf_tree.proofs.Lists.{same_id_is}
use Rattle.wdf_tree.proofs.Children.{is_gone_under, last_waiting, no_waiting_child}
use Rattle.wdf_tree.proofs.Kept.{MayEnd, all_of_entry, read_entry, there_if_asked}
use Rattle.wdf_tree.proofs.Kin.{holds_without, on_places, places_kept}
use Rattle.wdf_tree.proofs.Leaving.{cleaned_unasked, from_part, gone_alone, live_unasked, none_in}

-- ---- noting

pub noted_none : (test : ℕ → Bool) (bits : List Bool) → AreNoted test bits bits
noted_none test bits = record { size = refl; each = λ id. inl refl }

pub noted_set : (test : ℕ → Bool) (bits : List Bool) (x : ℕ) → x < length bits → AreNoted test bits (slice_set bits x (test x))
noted_set test bits x h = record { size = length-set bits x (test x); each = λ id. at id (cases_eq id x) }
  where
    at : (id : ℕ) → (id ≡ x) ⊎ (id ≡ x → ⊥) → (is_in id (slice_set bits x (test x)) ≡ is_in id bits) ⊎ (is_in id (slice_set bits x (test x)) ≡ test id)
    at id (inl same) = inr (rw same (get_or-set_same bits x (test x) false h))
    at id (inr other) = inl (get_or-set_other bits x id (test x) false other)

pub noted_more : (test : ℕ → Bool) (a b c : List Bool) → AreNoted test a b → AreNoted test b c → AreNoted test a c
noted_more test a b c h k = record { size = k.size ∙ h.size; each = λ id. both id (h.each id) (k.each id) }
  where
    both : (id : ℕ) → (is_in id b ≡ is_in id a) ⊎ (is_in id b ≡ test id) → (is_in id c ≡ is_in id b) ⊎ (is_in id c ≡ test id) → (is_in id c ≡ is_in id a) ⊎ (is_in id c ≡ test id)
    both id first (inr e) = inr e
    both id (inl f) (inl e) = inl (e ∙ f)
    both id (inr f) (inl e) = inr (e ∙ f)

-- what is right stays so
pub stays_right : (test : ℕ → Bool) (b c : List Bool) (id : ℕ) → AreNoted test b c → is_in id b ≡ test id → is_in id c ≡ test id
stays_right test b c id k e = by (k.each id)
  where
    by : (is_in id c ≡ is_in id b) ⊎ (is_in id c ≡ test id) → is_in id c ≡ test id
    by (inl f) = f ∙ e
    by (inr f) = f

-- the one that was found was noted
pub found_right : (test : ℕ → Bool) (bits : List Bool) (n : ℕ) (found : Option ℕ) (x : ℕ) → IfSome found (λ y. y < n → is_in y bits ≡ test y) → found ≡ Some x → x < n → is_in x bits ≡ test x
found_right test bits n None x h e = absurd (let z : ⊥ = cc in z)
found_right test bits n (Some y) x h e = let same : y ≡ x = cc in subst (λ z. z < n → is_in z bits ≡ test z) same h

-- one item more of a list was noted
pub one_more : (test : ℕ → Bool) (b c : List Bool) (n : ℕ) (found : Option ℕ) (id : ℕ) (at : Option ℕ) (before : Bool) → AreNoted test b c → IfSome found (λ x. x < n → is_in x c ≡ test x) → id < n
    → (before ≡ true → is_in id b ≡ test id) → found ≡ at → (before ≡ true) ⊎ (at ≡ Some id) → is_in id c ≡ test id
one_more test b c n found id at before noted own below earlier e (inl on) = stays_right test b c id noted (earlier on)
one_more test b c n found id at before noted own below earlier e (inr here) = found_right test c n found id own (e ∙ here) below

-- ---- the turn of one object

no_turn : (ns : List Node) (ls : List (List ℕ)) (id : ℕ) → is_asked (entry gone ns id).life ≡ false → is_turn ns ls id ≡ false
no_turn ns ls id e = rw e refl

past_turn : (ns : List Node) (ls : List (List ℕ)) (id : ℕ) → length ns ≤ id → is_turn ns ls id ≡ false
past_turn ns ls id h = no_turn ns ls id (ap (λ (n : Node). is_asked n.life) (entry_past gone ns id h))

-- the same entries, children that wait where there were some, and the same last child that waits
same_turn : (ns ms : List Node) (ls ks : List (List ℕ)) (id : ℕ) → entry gone ms id ≡ entry gone ns id → entry gone ms (entry gone ns id).parent.0 ≡ entry gone ns (entry gone ns id).parent.0
    → list_at ks id ≡ list_at ls id
    → same_id (last_of (list_at ls (entry gone ns id).parent.0)) id ≡ same_id (last_of (list_at ks (entry gone ns id).parent.0)) id
    → is_turn ns ls id ≡ is_turn ms ks id
same_turn ns ms ls ks id here above children last = rw (here, above, children, last) refl

-- another entry was written, and not that of the parent
turn_kept : (ns : List Node) (ls : List (List ℕ)) (o id : ℕ) (m : Node) → id ≢ o → (entry gone ns id).parent.0 ≢ o → is_turn ns ls id ≡ is_turn (slice_set ns o m) ls id
turn_kept ns ls o id m other apart =
    same_turn ns (slice_set ns o m) ls ls id (entry_set_other gone ns o id m other) (entry_set_other gone ns o (entry gone ns id).parent.0 m apart) refl refl

-- Where the bits were right for one test, and were written where another says otherwise, they are right for that.
pub bits_noted : {p q : ℕ → Bool} {before after : List Bool} (n : ℕ) → ((id : ℕ) → is_in id before ≡ p id) → AreNoted q before after → ((id : ℕ) → id < n → (is_in id after ≡ q id) ⊎ (p id ≡ q id))
    → ((id : ℕ) → n ≤ id → p id ≡ q id) → (id : ℕ) → is_in id after ≡ q id
bits_noted {p} {q} {before} {after} n right k changed past id = at (cases_lt id n)
  where
    by : (is_in id after ≡ is_in id before) ⊎ (is_in id after ≡ q id) → (is_in id after ≡ q id) ⊎ (p id ≡ q id) → is_in id after ≡ q id
    by (inr f) either = f
    by (inl f) (inl g) = g
    by (inl f) (inr g) = f ∙ right id ∙ g

    at : (id < n) ⊎ (n ≤ id) → is_in id after ≡ q id
    at (inl there) = by (k.each id) (changed id there)
    at (inr beyond) = by (k.each id) (inr (past id beyond))

turns_noted : {ns ms : List Node} {ls ks : List (List ℕ)} {before after : List Bool} → length ns ≤ length ms → HoldsTurns ns ls before → AreNoted (is_turn ms ks) before after
    → ((id : ℕ) → id < length ms → (is_in id after ≡ is_turn ms ks id) ⊎ (is_turn ns ls id ≡ is_turn ms ks id)) → HoldsTurns ms ks after
turns_noted {ns} {ms} {ls} {ks} {before} {after} longer h k changed = record {
  room = let room = h.room in rw k.size room;
  same = bits_noted (length ms) h.same k changed (λ id past. past_turn ns ls id (omega arith) ∙ sym (past_turn ms ks id past));
}

-- ---- children that wait

unwaiting_unasked : (l : Life) → is_waiting l ≡ false → is_asked l ≡ false
unwaiting_unasked life.Asked h = absurd (false≢true (sym h))
unwaiting_unasked _ h = refl

-- a child that isn't on the list of those that wait isn't asked
off_unasked : (ns : List Node) (waiting : Family) (o id : ℕ) → HoldsKin is_waiting ns waiting → o < OBJECTS → id < length ns → is_on id (list_at waiting.lists o) ≡ false → (entry gone ns id).parent.0 ≡ o
    → is_asked (entry gone ns id).life ≡ false
off_unasked ns waiting o id h below there off child =
    let passes : is_kin is_waiting o (entry gone ns id) ≡ false
    = sym (on_places (is_kin is_waiting o) 0 ns id id (omega arith) there) ∙ ap (is_on id) (sym (h.kin o below)) ∙ off in
    unwaiting_unasked (entry gone ns id).life (rw (eq-eqb (entry gone ns id).parent.0 o child) at passes)

is_same_id : (found : Option ℕ) (x : ℕ) → found ≡ Some x → same_id found x ≡ true
is_same_id found x e = rw e (eq-eqb x x refl)

last_more : (y x : ℕ) (xs : List ℕ) → last_of xs ≡ Some x → last_of (y ∷ xs) ≡ Some x
last_more y x [] h = absurd (let z : ⊥ = cc in z)
last_more y x (z ∷ zs) h = h

-- the last item of a list stays so where another one goes
last_without : (o x : ℕ) (xs : List ℕ) → x ≢ o → last_of xs ≡ Some x → last_of (without o xs) ≡ Some x
last_without o x [] other h = h
last_without o x (y ∷ []) other h =
    let same : y ≡ x = cc in
    rw (same, ne_eqb x o other) refl
last_without o x (y ∷ z ∷ zs) other h = by_test (y == o) refl (last_without o x (z ∷ zs) other h)
  where
    by_test : (b : Bool) → (y == o) ≡ b → last_of (without o (z ∷ zs)) ≡ Some x → last_of (without o (y ∷ z ∷ zs)) ≡ Some x
    by_test true e rest = rw e rest
    by_test false e rest = rw e (last_more y x (without o (z ∷ zs)) rest)

last_push : (xs : List ℕ) (y : ℕ) → last_of (xs ++ y ∷ []) ≡ Some y
last_push [] y = refl
last_push (x ∷ xs) y = last_more x y (xs ++ y ∷ []) (last_push xs y)

-- ---- the set, after a change of one object

-- the id 0 alone
pub turns_at_first : (ns : List Node) (ls : List (List ℕ)) (n : ℕ) (bits : List Bool) → ns ≡ gone ∷ [] → OBJECTS ≤ n → bits ≡ replicate n false → HoldsTurns ns ls bits
turns_at_first ns ls n bits one room e =
    rw (one, e) (record {
      room = let long = length-replicate n false in omega arith;
      same = λ id. none_in n id ∙ sym (no_turn (gone ∷ []) ls id (ap (λ (x : Node). is_asked x.life) (gone_alone id)));
    })

-- a write that keeps the life and the parent
pub turns_by_write : {ns : List Node} {ls : List (List ℕ)} {bits : List Bool} (o : ℕ) (n m : Node) → HoldsTurns ns ls bits → o < length ns → n ≡ slice_index_or ns o n → m.life ≡ n.life → m.parent.0 ≡ n.parent.0
    → HoldsTurns (slice_set ns o m) ls bits
turns_by_write {ns} {ls} {bits} o n m h there read same parent = record { room = h.room; same = λ id. h.same id ∙ sym (rw (parents id, lives id, lives (entry gone ns id).parent.0) refl) }
  where
    life_at : (id : ℕ) → (id ≡ o) ⊎ (id ≡ o → ⊥) → (entry gone (slice_set ns o m) id).life ≡ (entry gone ns id).life
    life_at id (inl e) = rw (e, get_or-set_same ns o m gone there, read_entry gone ns o n there read) same
    life_at id (inr other) = ap (λ (x : Node). x.life) (entry_set_other gone ns o id m other)

    lives : (id : ℕ) → (entry gone (slice_set ns o m) id).life ≡ (entry gone ns id).life
    lives id = life_at id (cases_eq id o)

    parent_at : (id : ℕ) → (id ≡ o) ⊎ (id ≡ o → ⊥) → (entry gone (slice_set ns o m) id).parent.0 ≡ (entry gone ns id).parent.0
    parent_at id (inl e) = rw (e, get_or-set_same ns o m gone there, read_entry gone ns o n there read) parent
    parent_at id (inr other) = ap (λ (x : Node). x.parent.0) (entry_set_other gone ns o id m other)

    parents : (id : ℕ) → (entry gone (slice_set ns o m) id).parent.0 ≡ (entry gone ns id).parent.0
    parents id = parent_at id (cases_eq id o)

joined_as : (family : Family) (parent id : ℕ) (b : Bool) → nat_lt parent OBJECTS ≡ b
    → joined family parent id ≡ (if b then record family { lists = slice_set family.lists parent (list_at family.lists parent ++ id ∷ []) } else family)
joined_as family parent id b e = ap (λ (c : Bool). if c then record family { lists = slice_set family.lists parent (list_at family.lists parent ++ id ∷ []) } else family) e

-- the lists of other parents stay
pub joined_other : (family : Family) (parent id q : ℕ) → q ≢ parent → list_at (joined family parent id).lists q ≡ list_at family.lists q
joined_other family parent id q other = by (nat_lt parent OBJECTS) refl
  where
    by : (b : Bool) → nat_lt parent OBJECTS ≡ b → list_at (joined family parent id).lists q ≡ list_at family.lists q
    by true e =
        ap (λ (f : Family). list_at f.lists q) (joined_as family parent id true e)
        ∙ entry_set_other [] family.lists parent q (list_at family.lists parent ++ id ∷ []) other
    by false e = ap (λ (f : Family). list_at f.lists q) (joined_as family parent id false e)

-- a live object more: its parent and the last child there before it may lose their turn
pub turns_by_push : {ns : List Node} {waiting : Family} {before after : List Bool} (n : Node) (id : ℕ) → HoldsTurns ns waiting.lists before → HoldsKin is_waiting ns waiting → is_live n.life ≡ true → id ≡ length ns
    → AreNoted (is_turn (ns ++ n ∷ []) (joined waiting n.parent.0 id).lists) before after
    → (n.parent.0 < length (ns ++ n ∷ []) → is_in n.parent.0 after ≡ is_turn (ns ++ n ∷ []) (joined waiting n.parent.0 id).lists n.parent.0)
    → ((x : ℕ) → last_of (list_at waiting.lists n.parent.0) ≡ Some x → x < length (ns ++ n ∷ []) → is_in x after ≡ is_turn (ns ++ n ∷ []) (joined waiting n.parent.0 id).lists x)
    → HoldsTurns (ns ++ n ∷ []) (joined waiting n.parent.0 id).lists after
turns_by_push {ns} {waiting} {before} {after} n new h kin live next noted above sibling =
    turns_noted (let one = length_push ns n in omega arith) h noted (λ id there. at id there (cases_eq id (length ns)) (cases_eq id n.parent.0))
  where
    ms : List Node
    ms = ns ++ n ∷ []

    ks : List (List ℕ)
    ks = (joined waiting n.parent.0 new).lists

    unasked : is_asked (entry gone ms (length ns)).life ≡ false
    unasked = ap (λ (x : Node). is_asked x.life) (entry_last gone ns n) ∙ live_unasked n.life live

    blank : is_asked (entry gone ns (length ns)).life ≡ false
    blank = ap (λ (x : Node). is_asked x.life) (entry_past gone ns (length ns) (omega arith))

    last_at : (id : ℕ) → id ≢ length ns → (b : Bool) → nat_lt n.parent.0 OBJECTS ≡ b → (c : Bool) → same_id (last_of (list_at waiting.lists n.parent.0)) id ≡ c
        → (last_of (list_at waiting.lists n.parent.0) ≡ Some id) ⊎ (same_id (last_of (list_at waiting.lists n.parent.0)) id ≡ same_id (last_of (list_at ks n.parent.0)) id)
    last_at id apart b e true f = inl (same_id_is (last_of (list_at waiting.lists n.parent.0)) id f)
    last_at id apart false e false f = inr (sym (ap (λ (g : Family). same_id (last_of (list_at g.lists n.parent.0)) id) (joined_as waiting n.parent.0 new false e)))
    last_at id apart true e false f =
        let many = kin.as_many in
        let below : n.parent.0 < OBJECTS = ltb-true n.parent.0 OBJECTS e in
        let list : list_at ks n.parent.0 ≡ list_at waiting.lists n.parent.0 ++ new ∷ []
        = ap (λ (g : Family). list_at g.lists n.parent.0) (joined_as waiting n.parent.0 new true e)
        ∙ get_or-set_same waiting.lists n.parent.0 (list_at waiting.lists n.parent.0 ++ new ∷ []) [] (omega arith) in
        let differs : new ≢ id = λ z. apart (sym z ∙ next) in
        inr (f ∙ sym (ap (λ xs. same_id (last_of xs) id) list ∙ ap (λ found. same_id found id) (last_push (list_at waiting.lists n.parent.0) new) ∙ ne_eqb new id differs))

    under : (id : ℕ) → id < length ms → (other : id ≢ length ns) → id ≢ n.parent.0 → ((entry gone ns id).parent.0 ≡ length ns) ⊎ ((entry gone ns id).parent.0 ≡ length ns → ⊥)
        → ((entry gone ns id).parent.0 ≡ n.parent.0) ⊎ ((entry gone ns id).parent.0 ≡ n.parent.0 → ⊥)
        → (is_in id after ≡ is_turn ms ks id) ⊎ (is_turn ns waiting.lists id ≡ is_turn ms ks id)
    under id there other below (inl up) either =
        let here = entry_before gone ns n id other in
        let children : list_at ks id ≡ list_at waiting.lists id = joined_other waiting n.parent.0 new id below in
        inr (rw (here, up, unasked, blank, children) refl)
    under id there other below (inr up) (inr apart) =
        inr (same_turn ns ms waiting.lists ks id (entry_before gone ns n id other) (entry_before gone ns n (entry gone ns id).parent.0 up) (joined_other waiting n.parent.0 new id below)
        (ap (λ xs. same_id (last_of xs) id) (sym (joined_other waiting n.parent.0 new (entry gone ns id).parent.0 apart))))
    under id there other below (inr up) (inl mine) =
        by (last_at id other (nat_lt n.parent.0 OBJECTS) refl (same_id (last_of (list_at waiting.lists n.parent.0)) id) refl)
      where
        by : (last_of (list_at waiting.lists n.parent.0) ≡ Some id) ⊎ (same_id (last_of (list_at waiting.lists n.parent.0)) id ≡ same_id (last_of (list_at ks n.parent.0)) id)
            → (is_in id after ≡ is_turn ms ks id) ⊎ (is_turn ns waiting.lists id ≡ is_turn ms ks id)
        by (inl last) = inl (sibling id last there)
        by (inr same) =
            inr (same_turn ns ms waiting.lists ks id (entry_before gone ns n id other) (entry_before gone ns n (entry gone ns id).parent.0 up) (joined_other waiting n.parent.0 new id below)
            (rw mine same))

    at : (id : ℕ) → id < length ms → (id ≡ length ns) ⊎ (id ≡ length ns → ⊥) → (id ≡ n.parent.0) ⊎ (id ≡ n.parent.0 → ⊥) → (is_in id after ≡ is_turn ms ks id) ⊎ (is_turn ns waiting.lists id ≡ is_turn ms ks id)
    at id there (inl same) either = inr (rw same (no_turn ns waiting.lists (length ns) blank ∙ sym (no_turn ms ks (length ns) unasked)))
    at id there (inr other) (inl up) = inl (rw up (above (omega arith)))
    at id there (inr other) (inr below) = under id there other below (cases_eq (entry gone ns id).parent.0 (length ns)) (cases_eq (entry gone ns id).parent.0 n.parent.0)

-- the same, as code has it
pub record IsNotedAbove (ms : List Node) (ks : List (List ℕ)) (parent : ℕ) (found : Option ℕ) (before after : List Bool) : Type 0 where
  pub noted : AreNoted (is_turn ms ks) before after
  pub parent_right : parent < length ms → is_in parent after ≡ is_turn ms ks parent
  pub sibling : IfSome found (λ x. x < length ms → is_in x after ≡ is_turn ms ks x)

pub turns_after_push : {ns : List Node} {waiting : Family} {before after : List Bool} (n : Node) (id : ℕ) (ms : List Node) (left : Family) (found : Option ℕ) → ms ≡ ns ++ n ∷ [] → left ≡ joined waiting n.parent.0 id
    → HoldsTurns ns waiting.lists before → HoldsKin is_waiting ns waiting → is_live n.life ≡ true → id ≡ length ns → found ≡ last_of (list_at waiting.lists n.parent.0)
    → IsNotedAbove ms left.lists n.parent.0 found before after → HoldsTurns ms left.lists after
turns_after_push {ns} {waiting} {before} {after} n id ms left found e f h kin live next last =
    subst (λ g. IsNotedAbove ms g.lists n.parent.0 found before after → HoldsTurns ms g.lists after) (sym f)
    (subst (λ xs. IsNotedAbove xs (joined waiting n.parent.0 id).lists n.parent.0 found before after → HoldsTurns xs (joined waiting n.parent.0 id).lists after) (sym e)
    (λ k. turns_by_push n id h kin live next k.noted k.parent_right
    (λ x is. found_right (is_turn (ns ++ n ∷ []) (joined waiting n.parent.0 id).lists) after (length (ns ++ n ∷ [])) found x k.sibling (last ∙ is))))

-- What is written where an object changed: its own bit, and those of its children that wait.
pub record IsNotedAt (ms : List Node) (ks : List (List ℕ)) (o : ℕ) (before after : List Bool) : Type 0 where
  pub noted : AreNoted (is_turn ms ks) before after
  pub own : o < length ms → is_in o after ≡ is_turn ms ks o
  pub children : (id : ℕ) → id < length ms → is_on id (list_at ks o) ≡ true → is_in id after ≡ is_turn ms ks id

-- the deletion of an object is asked
pub turns_by_ask : {ns : List Node} {waiting : Family} {before after : List Bool} (o : ℕ) (m : Node) → HoldsTurns ns waiting.lists before → HoldsKin is_waiting ns waiting → length ns ≤ OBJECTS → o < length ns
    → IsNotedAt (slice_set ns o m) waiting.lists o before after → HoldsTurns (slice_set ns o m) waiting.lists after
turns_by_ask {ns} {waiting} {before} {after} o m h kin few there k =
    turns_noted (let same = as_long ns o m in omega arith) h k.noted (λ id below. at id below (cases_eq id o) (cases_eq (entry gone ns id).parent.0 o) (is_on id (list_at waiting.lists o)) refl)
  where
    ms : List Node
    ms = slice_set ns o m

    long : length ms ≡ length ns
    long = as_long ns o m

    at : (id : ℕ) → id < length ms → (id ≡ o) ⊎ (id ≡ o → ⊥) → ((entry gone ns id).parent.0 ≡ o) ⊎ ((entry gone ns id).parent.0 ≡ o → ⊥) → (b : Bool) → is_on id (list_at waiting.lists o) ≡ b
        → (is_in id after ≡ is_turn ms waiting.lists id) ⊎ (is_turn ns waiting.lists id ≡ is_turn ms waiting.lists id)
    at id below (inl same) either b e = inl (rw same (k.own (omega (arith, long))))
    at id below (inr other) (inr apart) b e = inr (turn_kept ns waiting.lists o id m other apart)
    at id below (inr other) (inl child) true e = inl (k.children id below e)
    at id below (inr other) (inl child) false e =
        let none = off_unasked ns waiting o id kin (omega arith) (omega (arith, long)) e child in
        inr (no_turn ns waiting.lists id none ∙ sym (no_turn ms waiting.lists id (ap (λ (x : Node). is_asked x.life) (entry_set_other gone ns o id m other) ∙ none)))

-- an object leaves its list: the lists of other parents stay
pub without_other : (test : Life → Bool) (ns : List Node) (family : Family) (o : ℕ) (m : Node) (q : ℕ) → HoldsKin test ns family → test m.life ≡ false → q ≢ (entry gone ns o).parent.0
    → list_at (map (without o) family.lists) q ≡ list_at family.lists q
without_other test ns family o m q h off apart = by (cases_lt q OBJECTS)
  where
    left : HoldsKin test (slice_set ns o m) (record family { lists = map (without o) family.lists })
    left = holds_without test ns family o m h off

    by : (q < OBJECTS) ⊎ (OBJECTS ≤ q) → list_at (map (without o) family.lists) q ≡ list_at family.lists q
    by (inl below) =
        let flipped : (entry gone ns o).parent.0 ≢ q = λ z. apart (sym z) in
        let was : is_kin test q (entry gone ns o) ≡ false = rw (ne_eqb (entry gone ns o).parent.0 q flipped) refl in
        let is : is_kin test q m ≡ false = and_right (m.parent.0 == q) (test m.life) off in
        left.kin q below ∙ places_kept (is_kin test q) 0 ns o m (is ∙ sym was) ∙ sym (h.kin q below)
    by (inr past_all) =
        let many = h.as_many in
        let all = left.as_many in
        entry_past [] (map (without o) family.lists) q (omega arith) ∙ sym (entry_past [] family.lists q (omega arith))

-- an object is cleaned up: its parent and the last sibling that waits may get their turn
pub turns_by_cleanup : {ns : List Node} {waiting : Family} {before after : List Bool} (o : ℕ) (m : Node) → HoldsTurns ns waiting.lists before → HoldsKin is_waiting ns waiting → length ns ≤ OBJECTS → o < length ns
    → is_past_cleanup m.life ≡ true → IsNotedAt (slice_set ns o m) (map (without o) waiting.lists) o before after
    → ((entry gone ns o).parent.0 < length (slice_set ns o m) → is_in (entry gone ns o).parent.0 after ≡ is_turn (slice_set ns o m) (map (without o) waiting.lists) (entry gone ns o).parent.0)
    → ((x : ℕ) → last_of (list_at (map (without o) waiting.lists) (entry gone ns o).parent.0) ≡ Some x → x < length (slice_set ns o m)
    → is_in x after ≡ is_turn (slice_set ns o m) (map (without o) waiting.lists) x)
    → HoldsTurns (slice_set ns o m) (map (without o) waiting.lists) after
turns_by_cleanup {ns} {waiting} {before} {after} o m h kin few there past k above sibling =
    turns_noted (let same = as_long ns o m in omega arith) h k.noted (λ id below. at id below (cases_eq id o) (cases_eq id (entry gone ns o).parent.0) (cases_eq (entry gone ns id).parent.0 o))
  where
    ms : List Node
    ms = slice_set ns o m

    ls : List (List ℕ)
    ls = waiting.lists

    ks : List (List ℕ)
    ks = map (without o) waiting.lists

    long : length ms ≡ length ns
    long = as_long ns o m

    left : HoldsKin is_waiting ms (record waiting { lists = map (without o) waiting.lists })
    left = holds_without is_waiting ns waiting o m kin (ap not past)

    -- the children of another parent
    list_other : (q : ℕ) → q ≢ (entry gone ns o).parent.0 → list_at ks q ≡ list_at ls q
    list_other q apart = without_other is_waiting ns waiting o m q kin (ap not past) apart

    by_last : (id q : ℕ) → id ≢ o → (b c : Bool) → same_id (last_of (list_at ls q)) id ≡ b → same_id (last_of (list_at ks q)) id ≡ c
        → (last_of (list_at ks q) ≡ Some id) ⊎ (same_id (last_of (list_at ls q)) id ≡ same_id (last_of (list_at ks q)) id)
    by_last id q other b true e f = inl (same_id_is (last_of (list_at ks q)) id f)
    by_last id q other false false e f = inr (e ∙ sym f)
    by_last id q other true false e f =
        let stays : last_of (list_at ks q) ≡ Some id
        = ap last_of (map_at (without o) ls q refl) ∙ last_without o id (list_at ls q) other (same_id_is (last_of (list_at ls q)) id e) in
        absurd (false≢true (sym f ∙ is_same_id (last_of (list_at ks q)) id stays))

    changed : (id : ℕ) → id < length ms → id ≢ o → id ≢ (entry gone ns o).parent.0 → (entry gone ns id).parent.0 ≢ o → ((entry gone ns id).parent.0 ≡ (entry gone ns o).parent.0) ⊎ ((entry gone ns id).parent.0 ≡ (entry gone ns o).parent.0 → ⊥)
        → (is_in id after ≡ is_turn ms ks id) ⊎ (is_turn ns ls id ≡ is_turn ms ks id)
    changed id below other aside apart (inr elsewhere) =
        inr (same_turn ns ms ls ks id (entry_set_other gone ns o id m other) (entry_set_other gone ns o (entry gone ns id).parent.0 m apart) (list_other id aside)
        (ap (λ xs. same_id (last_of xs) id) (sym (list_other (entry gone ns id).parent.0 elsewhere))))
    changed id below other aside apart (inl mine) =
        by (by_last id (entry gone ns id).parent.0 other (same_id (last_of (list_at ls (entry gone ns id).parent.0)) id) (same_id (last_of (list_at ks (entry gone ns id).parent.0)) id) refl refl)
      where
        by : (last_of (list_at ks (entry gone ns id).parent.0) ≡ Some id) ⊎ (same_id (last_of (list_at ls (entry gone ns id).parent.0)) id ≡ same_id (last_of (list_at ks (entry gone ns id).parent.0)) id)
            → (is_in id after ≡ is_turn ms ks id) ⊎ (is_turn ns ls id ≡ is_turn ms ks id)
        by (inl last) = inl (sibling id (ap (λ q. last_of (list_at ks q)) (sym mine) ∙ last) below)
        by (inr same) = inr (same_turn ns ms ls ks id (entry_set_other gone ns o id m other) (entry_set_other gone ns o (entry gone ns id).parent.0 m apart) (list_other id aside) same)

    child_of : (id : ℕ) → id < length ms → id ≢ o → (entry gone ns id).parent.0 ≡ o → (b : Bool) → is_on id (list_at ks o) ≡ b → (is_in id after ≡ is_turn ms ks id) ⊎ (is_turn ns ls id ≡ is_turn ms ks id)
    child_of id below other child true e = inl (k.children id below e)
    child_of id below other child false e =
        let same = entry_set_other gone ns o id m other in
        let none = off_unasked ms (record waiting { lists = ks }) o id left (omega arith) below e (ap (λ (x : Node). x.parent.0) same ∙ child) in
        inr (no_turn ns ls id (ap (λ (x : Node). is_asked x.life) (sym same) ∙ none) ∙ sym (no_turn ms ks id none))

    at : (id : ℕ) → id < length ms → (id ≡ o) ⊎ (id ≡ o → ⊥) → (id ≡ (entry gone ns o).parent.0) ⊎ (id ≡ (entry gone ns o).parent.0 → ⊥) → ((entry gone ns id).parent.0 ≡ o) ⊎ ((entry gone ns id).parent.0 ≡ o → ⊥)
        → (is_in id after ≡ is_turn ms ks id) ⊎ (is_turn ns ls id ≡ is_turn ms ks id)
    at id below (inl same) up either = inl (rw same (k.own (omega (arith, long))))
    at id below (inr other) (inl up) either = inl (rw up (above (omega arith)))
    at id below (inr other) (inr aside) (inr apart) = changed id below other aside apart (cases_eq (entry gone ns id).parent.0 (entry gone ns o).parent.0)
    at id below (inr other) (inr aside) (inl child) = child_of id below other child (is_on id (list_at ks o)) refl

-- the same, as code has it
pub record IsNotedAround (ms : List Node) (ks : List (List ℕ)) (o parent : ℕ) (found : Option ℕ) (before after : List Bool) : Type 0 where
  pub at : IsNotedAt ms ks o before after
  pub parent_right : parent < length ms → is_in parent after ≡ is_turn ms ks parent
  pub sibling : IfSome found (λ x. x < length ms → is_in x after ≡ is_turn ms ks x)

pub turns_after_cleanup : {ns : List Node} {waiting : Family} {before after : List Bool} (o parent : ℕ) (m : Node) (left : Family) (found : Option ℕ) → left ≡ record waiting { lists = map (without o) waiting.lists }
    → HoldsTurns ns waiting.lists before → HoldsKin is_waiting ns waiting → length ns ≤ OBJECTS → o < length ns → is_past_cleanup m.life ≡ true
    → parent ≡ (entry gone ns o).parent.0 → found ≡ last_of (list_at left.lists parent)
    → IsNotedAround (slice_set ns o m) left.lists o parent found before after → HoldsTurns (slice_set ns o m) left.lists after
turns_after_cleanup {ns} {waiting} {before} {after} o parent m left found e h kin few there past up =
    subst (λ g. found ≡ last_of (list_at g.lists parent) → IsNotedAround (slice_set ns o m) g.lists o parent found before after → HoldsTurns (slice_set ns o m) g.lists after) (sym e)
    (λ last k. turns_by_cleanup o m h kin few there past k.at
    (subst (λ p. p < length (slice_set ns o m) → is_in p after ≡ is_turn (slice_set ns o m) (map (without o) waiting.lists) p) up k.parent_right)
    (λ x is. found_right (is_turn (slice_set ns o m) (map (without o) waiting.lists)) after (length (slice_set ns o m)) found x k.sibling (last ∙ ap (λ q. last_of (list_at (map (without o) waiting.lists) q)) up ∙ is)))

gone_unasked : (b : Bool) (l : Life) → b ≡ true → (not b || is_gone l) ≡ true → is_asked l ≡ false
gone_unasked true life.Live e h = refl
gone_unasked true life.Asked e h = absurd (false≢true h)
gone_unasked true life.Cleaned e h = refl
gone_unasked true life.Gone e h = refl
gone_unasked false l e h = absurd (false≢true e)

-- an object that is cleaned up ends, and has no child
pub turns_by_end : {ns : List Node} {ls : List (List ℕ)} {bits : List Bool} (o : ℕ) (m : Node) → HoldsTurns ns ls bits → o < length ns → MayEnd ns o → m ≡ gone → HoldsTurns (slice_set ns o m) ls bits
turns_by_end {ns} {ls} {bits} o m h there may e = record { room = h.room; same = λ id. h.same id ∙ at id (cases_eq id o) (cases_eq (entry gone ns id).parent.0 o) }
  where
    ended : is_asked (entry gone (slice_set ns o m) o).life ≡ false
    ended = ap (λ (x : Node). is_asked x.life) (get_or-set_same ns o m gone there ∙ e)

    at : (id : ℕ) → (id ≡ o) ⊎ (id ≡ o → ⊥) → ((entry gone ns id).parent.0 ≡ o) ⊎ ((entry gone ns id).parent.0 ≡ o → ⊥) → is_turn ns ls id ≡ is_turn (slice_set ns o m) ls id
    at id (inl same) either = rw same (no_turn ns ls o (cleaned_unasked (entry gone ns o).life may.cleaned) ∙ sym (no_turn (slice_set ns o m) ls o ended))
    at id (inr other) (inr apart) = turn_kept ns ls o id m other apart
    at id (inr other) (inl child) =
        let none : is_asked (entry gone ns id).life ≡ false
        = gone_unasked ((entry gone ns id).parent.0 == o) (entry gone ns id).life (eq-eqb (entry gone ns id).parent.0 o child) (all_of_entry (is_gone_under o) gone ns id (or-true (not (0 == o))) may.childless) in
        no_turn ns ls id none ∙ sym (no_turn (slice_set ns o m) ls id (ap (λ (x : Node). is_asked x.life) (entry_set_other gone ns o id m other) ∙ none))

-- ---- what it answers

turn_by : (T : Tree) (waiting : Family) (id : ℕ) (b c : Bool) → HoldsKin is_waiting T.nodes waiting → length T.nodes ≤ OBJECTS → is_asked (life_of T id) ≡ b → is_asked (life_of T (parent_of T id)) ≡ c
    → is_turn T.nodes waiting.lists id ≡ may_clean T id
turn_by T waiting id false c kin few e f = rw e refl
turn_by T waiting id true false kin few e f =
    let there = there_if_asked T.nodes id e in
    let childless = ap (λ xs. length xs == 0) (kin.kin id (omega arith)) ∙ no_waiting_child T id in
    rw (e, f, childless) refl
turn_by T waiting id true true kin few e f =
    let there = there_if_asked T.nodes id e in
    let above = there_if_asked T.nodes (parent_of T id) f in
    let childless = ap (λ xs. length xs == 0) (kin.kin id (omega arith)) ∙ no_waiting_child T id in
    let last = ap (λ xs. same_id (last_of xs) id) (kin.kin (parent_of T id) (omega arith)) ∙ last_waiting T id there e in
    rw (e, f, childless, last) refl

module _ (T : Tree) (waiting : Family) (bits : List Bool) (h : HoldsTurns T.nodes waiting.lists bits) (kin : HoldsKin is_waiting T.nodes waiting) (few : length T.nodes ≤ OBJECTS) where
  pub turns_right : (x : ℕ) → is_in x bits ≡ may_clean T x
  turns_right x = h.same x ∙ turn_by T waiting x (is_asked (life_of T x)) (is_asked (life_of T (parent_of T x))) kin few refl refl

  turns_past : (x : ℕ) → length T.nodes ≤ x → may_clean T x ≡ false
  turns_past x past = sym (turns_right x) ∙ h.same x ∙ past_turn T.nodes waiting.lists x past

  -- the members are the objects whose cleanup may come
  pub turns_are : members bits ≡ turns_of T
  turns_are = members_where bits (may_clean T) (length T.nodes) turns_right turns_past

  -- the first one from an id on
  pub first_turn : (id : ℕ) → slice_get (members bits) (rank id bits) ≡ find (λ o. nat_le id o && may_clean T o) (ids_of T.nodes)
  first_turn id =
      let room = h.room in
      let start : rank id bits - rank 0 bits ≡ rank id bits = omega arith in
      ap (λ ids. slice_get ids (rank id bits)) turns_are
      ∙ (rw start at (from_part bits (may_clean T) id 0 (length T.nodes) turns_right (omega arith)))

  -- how many have a lesser id
  pub turns_below : (id : ℕ) → rank id bits ≡ length (filter (may_clean T) (range_with_len 0 id))
  turns_below id = rank_first bits (may_clean T) turns_right id
