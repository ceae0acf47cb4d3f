-- The set of the objects that may be destroyed by the tree alone: after a change of an object, and what it answers.
use Rattle.std.proofs.Common.{ℕ, ◌≡◌, ◌⊎◌, ◌<◌, ◌≤◌, Bool, true, false, List, [], ◌∷◌, ◌++◌, filter, map, length, slice_set, replicate, refl, ap, sym, ◌∙◌, inl, inr, get_or-set_same, arith}
use Rattle.std.specs.Prelude.{slice_index_or}
use Rattle.std.specs.List.{range_with_len}
use Rattle.std.proofs.lemmas.Bool.{cases_eq}
use Rattle.std.proofs.lemmas.List.{length_push, length-replicate}
use Rattle.wdf_base.specs.declared.object.Life.TheVariants as life
use Rattle.wdf_base.specs.Lives.{is_cleaned, is_live}
use Rattle.wdf_ilist.specs.Family.{Family, list_at, without}
use Rattle.wdf_model.specs.Tables.{entry}
use Rattle.wdf_model.specs.declared.entries.Node.{Node}
use Rattle.wdf_model.specs.declared.room.TheConstants.{OBJECTS}
use Rattle.wdf_model.specs.parts.Tree.{Tree, children, gone, life_of, may_destroy}
use Rattle.wdf_model.proofs.Maps.{as_long, entry_before, entry_last, entry_past, entry_set_other}
use Rattle.wdf_sets.specs.Members.{is_in, members, rank}
use Rattle.wdf_sets.proofs.Ranks.{members_where, rank_first}
use Rattle.wdf_tree.specs.Kin.{HoldsKin, is_left, joined}
use Rattle.wdf_tree.specs.Turns.{AreNoted, HoldsEnds, ends_of, is_end}
use Rattle.wdf_tree.proofs.Children.{left_children}
use Rattle.wdf_tree.proofs.Kept.{read_entry, there_if_cleaned}
use Rattle.wdf_tree.proofs.Leaving.{gone_alone, live_uncleaned, none_in}
use Rattle.wdf_tree.proofs.Turns.{bits_noted, joined_other, without_other}

-- ---- one object

no_end : (ns : List Node) (ls : List (List ℕ)) (id : ℕ) → is_cleaned (entry gone ns id).life ≡ false → is_end ns ls id ≡ false
no_end ns ls id e = rw e refl

past_end : (ns : List Node) (ls : List (List ℕ)) (id : ℕ) → length ns ≤ id → is_end ns ls id ≡ false
past_end ns ls id h = no_end ns ls id (ap (λ (n : Node). is_cleaned n.life) (entry_past gone ns id h))

-- the same entry and the same children
same_end : (ns ms : List Node) (ls ks : List (List ℕ)) (id : ℕ) → entry gone ms id ≡ entry gone ns id → list_at ks id ≡ list_at ls id → is_end ns ls id ≡ is_end ms ks id
same_end ns ms ls ks id here left = rw (here, left) refl

ends_noted : {ns ms : List Node} {ls ks : List (List ℕ)} {before after : List Bool} → length ns ≤ length ms → HoldsEnds ns ls before → AreNoted (is_end ms ks) before after
    → ((id : ℕ) → id < length ms → (is_in id after ≡ is_end ms ks id) ⊎ (is_end ns ls id ≡ is_end ms ks id)) → HoldsEnds ms ks after
ends_noted {ns} {ms} {ls} {ks} {before} {after} longer h k changed = record {
  room = let room = h.room in rw k.size room;
  same = bits_noted (length ms) h.same k changed (λ id past. past_end ns ls id (omega arith) ∙ sym (past_end ms ks id past));
}

-- ---- the set, after a change of one object

-- the id 0 alone
pub ends_at_first : (ns : List Node) (ls : List (List ℕ)) (n : ℕ) (bits : List Bool) → ns ≡ gone ∷ [] → OBJECTS ≤ n → bits ≡ replicate n false → HoldsEnds ns ls bits
ends_at_first ns ls n bits one room e =
    rw (one, e) (record {
      room = let long = length-replicate n false in omega arith;
      same = λ id. none_in n id ∙ sym (no_end (gone ∷ []) ls id (ap (λ (x : Node). is_cleaned x.life) (gone_alone id)));
    })

-- an object is written, and its bit
pub ends_by_set : {ns : List Node} {ls : List (List ℕ)} {before after : List Bool} (o : ℕ) (m : Node) → HoldsEnds ns ls before → o < length ns → AreNoted (is_end (slice_set ns o m) ls) before after
    → (o < length (slice_set ns o m) → is_in o after ≡ is_end (slice_set ns o m) ls o) → HoldsEnds (slice_set ns o m) ls after
ends_by_set {ns} {ls} {before} {after} o m h there noted own =
    ends_noted (let same = as_long ns o m in omega arith) h noted (λ id below. at id below (cases_eq id o))
  where
    at : (id : ℕ) → id < length (slice_set ns o m) → (id ≡ o) ⊎ (id ≡ o → ⊥) → (is_in id after ≡ is_end (slice_set ns o m) ls id) ⊎ (is_end ns ls id ≡ is_end (slice_set ns o m) ls id)
    at id below (inl same) = inl (rw same (own (let long = as_long ns o m in omega arith)))
    at id below (inr other) = inr (same_end ns (slice_set ns o m) ls ls id (entry_set_other gone ns o id m other) refl)

-- an object is written that may be destroyed as before
ends_kept : {ns : List Node} {ls : List (List ℕ)} {bits : List Bool} (o : ℕ) (m : Node) → HoldsEnds ns ls bits → is_end ns ls o ≡ is_end (slice_set ns o m) ls o → HoldsEnds (slice_set ns o m) ls bits
ends_kept {ns} {ls} {bits} o m h e = record { room = h.room; same = λ id. h.same id ∙ at id (cases_eq id o) }
  where
    at : (id : ℕ) → (id ≡ o) ⊎ (id ≡ o → ⊥) → is_end ns ls id ≡ is_end (slice_set ns o m) ls id
    at id (inl same) = rw same e
    at id (inr other) = same_end ns (slice_set ns o m) ls ls id (entry_set_other gone ns o id m other) refl

-- a write that keeps the life and the references
pub ends_by_write : {ns : List Node} {ls : List (List ℕ)} {bits : List Bool} (o : ℕ) (n m : Node) → HoldsEnds ns ls bits → o < length ns → n ≡ slice_index_or ns o n → m.life ≡ n.life → m.references ≡ n.references
    → HoldsEnds (slice_set ns o m) ls bits
ends_by_write {ns} {ls} {bits} o n m h there read same held =
    ends_kept o m h (rw (get_or-set_same ns o m gone there, read_entry gone ns o n there read, same, held) refl)

-- the deletion of a live object is asked
pub ends_by_ask : {ns : List Node} {ls : List (List ℕ)} {bits : List Bool} (o : ℕ) (m : Node) → HoldsEnds ns ls bits → o < length ns → is_live (entry gone ns o).life ≡ true → m.life ≡ life.Asked
    → HoldsEnds (slice_set ns o m) ls bits
ends_by_ask {ns} {ls} {bits} o m h there live e =
    ends_kept o m h (
    no_end ns ls o (live_uncleaned (entry gone ns o).life live)
    ∙ sym (no_end (slice_set ns o m) ls o (ap (λ (x : Node). is_cleaned x.life) (get_or-set_same ns o m gone there) ∙ ap is_cleaned e)))

-- a live object more
pub ends_by_push : {ns : List Node} {before after : List Bool} (kin : Family) (n : Node) (id : ℕ) (ms : List Node) (more : Family) → ms ≡ ns ++ n ∷ [] → more ≡ joined kin n.parent.0 id
    → HoldsEnds ns kin.lists before → is_live n.life ≡ true → AreNoted (is_end ms more.lists) before after
    → (n.parent.0 < length ms → is_in n.parent.0 after ≡ is_end ms more.lists n.parent.0) → HoldsEnds ms more.lists after
ends_by_push {ns} {before} {after} kin n new ms more e f h live noted own =
    ends_noted (let one = ap length e ∙ length_push ns n in omega arith) h noted (λ id there. at id there (cases_eq id (length ns)) (cases_eq id n.parent.0))
  where
    last : is_cleaned (entry gone ms (length ns)).life ≡ false
    last = ap (λ xs. is_cleaned (entry gone xs (length ns)).life) e ∙ ap (λ (x : Node). is_cleaned x.life) (entry_last gone ns n) ∙ live_uncleaned n.life live

    blank : is_cleaned (entry gone ns (length ns)).life ≡ false
    blank = ap (λ (x : Node). is_cleaned x.life) (entry_past gone ns (length ns) (omega arith))

    at : (id : ℕ) → id < length ms → (id ≡ length ns) ⊎ (id ≡ length ns → ⊥) → (id ≡ n.parent.0) ⊎ (id ≡ n.parent.0 → ⊥) → (is_in id after ≡ is_end ms more.lists id) ⊎ (is_end ns kin.lists id ≡ is_end ms more.lists id)
    at id there (inl same) either = inr (rw same (no_end ns kin.lists (length ns) blank ∙ sym (no_end ms more.lists (length ns) last)))
    at id there (inr other) (inl up) = inl (rw up (own (omega arith)))
    at id there (inr other) (inr aside) =
        inr (same_end ns ms kin.lists more.lists id (ap (λ xs. entry gone xs id) e ∙ entry_before gone ns n id other)
        (ap (λ (g : Family). list_at g.lists id) f ∙ joined_other kin n.parent.0 new id aside))

-- an object ends
pub ends_by_end : {ns : List Node} {kin : Family} {before after : List Bool} (o parent : ℕ) (m : Node) (left : Family) → left ≡ record kin { lists = map (without o) kin.lists } → HoldsEnds ns kin.lists before
    → HoldsKin is_left ns kin → o < length ns → m ≡ gone → parent ≡ (entry gone ns o).parent.0 → AreNoted (is_end (slice_set ns o m) left.lists) before after
    → (o < length (slice_set ns o m) → is_in o after ≡ is_end (slice_set ns o m) left.lists o) → (parent < length (slice_set ns o m) → is_in parent after ≡ is_end (slice_set ns o m) left.lists parent)
    → HoldsEnds (slice_set ns o m) left.lists after
ends_by_end {ns} {kin} {before} {after} o parent m left f h k there e up noted own above =
    ends_noted (let same = as_long ns o m in omega arith) h noted (λ id below. at id below (cases_eq id o) (cases_eq id parent))
  where
    off : is_left m.life ≡ false
    off = ap (λ (x : Node). is_left x.life) e

    at : (id : ℕ) → id < length (slice_set ns o m) → (id ≡ o) ⊎ (id ≡ o → ⊥) → (id ≡ parent) ⊎ (id ≡ parent → ⊥)
        → (is_in id after ≡ is_end (slice_set ns o m) left.lists id) ⊎ (is_end ns kin.lists id ≡ is_end (slice_set ns o m) left.lists id)
    at id below (inl same) either = inl (rw same (own (let long = as_long ns o m in omega arith)))
    at id below (inr other) (inl same) = inl (rw same (above (omega arith)))
    at id below (inr other) (inr aside) =
        inr (same_end ns (slice_set ns o m) kin.lists left.lists id (entry_set_other gone ns o id m other)
        (ap (λ (g : Family). list_at g.lists id) f ∙ without_other is_left ns kin o m id k off (λ z. aside (z ∙ sym up))))

-- ---- what it answers

end_by : (T : Tree) (kin : Family) (id : ℕ) (b : Bool) → HoldsKin is_left T.nodes kin → length T.nodes ≤ OBJECTS → is_cleaned (life_of T id) ≡ b → is_end T.nodes kin.lists id ≡ may_destroy T id
end_by T kin id false k few e = rw e refl
end_by T kin id true k few e =
    let there = there_if_cleaned T.nodes id e in
    let left : list_at kin.lists id ≡ children T id = k.kin id (omega arith) ∙ left_children T id in
    rw left refl

module _ (T : Tree) (kin : Family) (bits : List Bool) (h : HoldsEnds T.nodes kin.lists bits) (k : HoldsKin is_left T.nodes kin) (few : length T.nodes ≤ OBJECTS) where
  ends_right : (x : ℕ) → is_in x bits ≡ may_destroy T x
  ends_right x = h.same x ∙ end_by T kin x (is_cleaned (life_of T x)) k few refl

  ends_past : (x : ℕ) → length T.nodes ≤ x → may_destroy T x ≡ false
  ends_past x past = sym (ends_right x) ∙ h.same x ∙ past_end T.nodes kin.lists x past

  -- the members are the objects that may be destroyed
  pub ends_are : members bits ≡ ends_of T
  ends_are = members_where bits (may_destroy T) (length T.nodes) ends_right ends_past

  -- how many have a lesser id
  pub ends_below : (id : ℕ) → rank id bits ≡ length (filter (may_destroy T) (range_with_len 0 id))
  ends_below id = rank_first bits (may_destroy T) ends_right id
