-- What the making of an object answers.
use Rattle.std.specs.Prelude.{if◌then◌else◌, ℕ, not, Result, Ok, Err}
use Rattle.wdf_base.specs.declared.ids.ObjectId.{ObjectId}
use Rattle.wdf_base.specs.Lives.{is_live}
use Rattle.wdf_model.specs.parts.Tree.{Tree, is_full, life_of, next_id}
use Rattle.wdf_tree.specs.declared.tree.CreateRefusal.{CreateRefusal}
use Rattle.wdf_tree.specs.declared.tree.CreateRefusal.TheVariants.{ParentDeleted, Full}

-- the id of the new object; refused under a parent that isn't live, and else where the tree is full
abbrev pub create_answer : Tree → ℕ → Result ObjectId CreateRefusal
create_answer T parent =
    if not (is_live (life_of T parent)) then Err ParentDeleted
    else if is_full T then Err Full
    else Ok (record { 0 = next_id T })
