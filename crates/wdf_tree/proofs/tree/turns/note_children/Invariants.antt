-- The children so far were noted.
use Rattle.std.proofs.Common.{ℕ, ◌≡◌, ◌<◌, true, length, slice_get, take}
use Rattle.wdf_ilist.specs.Family.{is_on, list_at}
use Rattle.wdf_sets.specs.Members.{is_in}
use Rattle.wdf_tree.specs.Turns.{AreNoted, is_turn}
use Rattle.wdf_tree.proofs.tree.turns.note_children.Given as goal

abbrev pub invariant-loop-place : goal.invariant-loop-place
invariant-loop-place l = record {
  at : l.child ≡ slice_get (list_at l.waiting.lists l.fn.o.0) l.place;
  noted : AreNoted (is_turn l.nodes l.waiting.lists) l.fn.turns l.turns;
  children : (id : ℕ) → id < length l.nodes → is_on id (take l.place (list_at l.waiting.lists l.fn.o.0)) ≡ true → is_in id l.turns ≡ is_turn l.nodes l.waiting.lists id;
}
