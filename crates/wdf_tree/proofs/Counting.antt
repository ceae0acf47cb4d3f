-- The set of the objects that count against the limit: after a change of one object, and what it answers with another set.
use Rattle.std.proofs.Common.{ℕ, ◌≡◌, ◌⊎◌, ◌+◌, ◌-◌, ◌<◌, ◌≤◌, Bool, false, ◌&&◌, List, [], ◌∷◌, ◌++◌, Option, Some, None, MatchOption, length, slice_set, replicate, refl, ap, sym, ◌∙◌, inl, inr, get_or-set_same, get_or-set_other, length-set, arith}
use Rattle.std.specs.Prelude.{slice_index_or}
use Rattle.std.proofs.lemmas.Bool.{cases_eq}
use Rattle.std.proofs.lemmas.List.{length-replicate}
use Rattle.wdf_base.specs.declared.object.Kind.TheVariants as kind
use Rattle.wdf_model.specs.Tables.{entry}
use Rattle.wdf_model.specs.declared.entries.Node.{Node}
use Rattle.wdf_model.specs.declared.room.TheConstants.{OBJECTS}
use Rattle.wdf_model.specs.parts.Tree.{counts, gone}
use Rattle.wdf_model.proofs.Maps.{entry_before, entry_last}
use Rattle.wdf_sets.specs.Members.{is_in}
use Rattle.wdf_sets.specs.Nexts.{IsNext, NoneFrom}
use Rattle.wdf_sets.proofs.Nexts.{next_also, none_also}
use Rattle.wdf_tree.specs.Turns.{HoldsCounted}
use Rattle.wdf_tree.proofs.Kept.{Stays, read_entry}
use Rattle.wdf_tree.proofs.Leaving.{gone_alone, none_in}

-- ---- the set, after a change of one object

-- the id 0 alone
pub counted_at_first : (ns : List Node) (n : ℕ) (bits : List Bool) → ns ≡ gone ∷ [] → OBJECTS ≤ n → bits ≡ replicate n false → HoldsCounted ns bits
counted_at_first ns n bits one room e =
    rw (one, e) (record {
      room = let long = length-replicate n false in omega arith;
      same = λ id. none_in n id ∙ sym (ap counts (gone_alone id));
    })

-- an object more
pub counted_by_push : {ns : List Node} {bits : List Bool} (n : Node) (id : ℕ) (on : Bool) → HoldsCounted ns bits → length ns < OBJECTS → id ≡ length ns → on ≡ counts n → HoldsCounted (ns ++ n ∷ []) (slice_set bits id on)
counted_by_push {ns} {bits} n id on h few next e =
    let room = h.room in
    rw (next, e) (record { room = rw (length-set bits (length ns) (counts n)) room; same = λ x. at x (cases_eq x (length ns)) (omega arith) })
  where
    at : (x : ℕ) → (x ≡ length ns) ⊎ (x ≡ length ns → ⊥) → length ns < length bits → is_in x (slice_set bits (length ns) (counts n)) ≡ counts (entry gone (ns ++ n ∷ []) x)
    at x (inl same) there = rw (same, entry_last gone ns n) (get_or-set_same bits (length ns) (counts n) false there)
    at x (inr other) there = get_or-set_other bits (length ns) x (counts n) false other ∙ h.same x ∙ sym (ap counts (entry_before gone ns n x other))

-- an object is written that counts as before
pub counted_by_write : {ns : List Node} {bits : List Bool} (o : ℕ) (n m : Node) → HoldsCounted ns bits → o < length ns → n ≡ slice_index_or ns o n → Stays n m → HoldsCounted (slice_set ns o m) bits
counted_by_write {ns} {bits} o n m h there read stays = record { room = h.room; same = λ x. at x (cases_eq x o) }
  where
    same_count : counts m ≡ counts n
    same_count = rw (stays.kind, stays.gone) refl

    at : (x : ℕ) → (x ≡ o) ⊎ (x ≡ o → ⊥) → is_in x bits ≡ counts (entry gone (slice_set ns o m) x)
    at x (inl same) = rw (same, get_or-set_same ns o m gone there) (h.same o ∙ ap counts (read_entry gone ns o n there read) ∙ sym same_count)
    at x (inr other) = h.same x ∙ sym (ap counts (get_or-set_other ns o x m gone other))

-- an object ends
pub counted_by_end : {ns : List Node} {bits : List Bool} (o : ℕ) (m : Node) → HoldsCounted ns bits → length ns ≤ OBJECTS → o < length ns → m ≡ gone → HoldsCounted (slice_set ns o m) (slice_set bits o false)
counted_by_end {ns} {bits} o m h few there e =
    let room = h.room in
    rw e (record { room = rw (length-set bits o false) room; same = λ x. at x (cases_eq x o) (omega arith) })
  where
    at : (x : ℕ) → (x ≡ o) ⊎ (x ≡ o → ⊥) → o < length bits → is_in x (slice_set bits o false) ≡ counts (entry gone (slice_set ns o gone) x)
    at x (inl same) within = rw (same, get_or-set_same ns o gone gone there) (get_or-set_same bits o false false within)
    at x (inr other) within = get_or-set_other bits o x false false other ∙ h.same x ∙ sym (ap counts (get_or-set_other ns o x gone gone other))

-- ---- the first that two sets have

-- a test of both
abbrev pub in_both : List Bool → List Bool → ℕ → Bool
in_both one other id = is_in id one && is_in id other

-- None was found yet, from an id on up to a later one.
pub record Passed (test : ℕ → Bool) (from at : ℕ) : Type 0 where
  pub low : from ≤ at
  pub none : NoneFrom test from at

-- what is found, by another test that says the same
pub found_also : (p q : ℕ → Bool) (from end : ℕ) → ((id : ℕ) → p id ≡ q id) → (found : Option ℕ) → MatchOption found (NoneFrom p from end) (IsNext p from end) → MatchOption found (NoneFrom q from end) (IsNext q from end)
found_also p q from end same None none = none_also p q from end (λ id above below. same id) none
found_also p q from end same (Some x) first = next_also p q from end (λ id above below. same id) x first
