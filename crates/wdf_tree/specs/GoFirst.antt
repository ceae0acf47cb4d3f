-- What has to go before an object, in the order of cleanups and destructions.
use Rattle.std.specs.Prelude.{if◌then◌else◌, ℕ, not, List, [], ◌++◌, filter}
use Rattle.wdf_base.specs.Lives.{is_asked, is_cleaned, is_past_cleanup}
use Rattle.wdf_model.specs.parts.Tree.{Tree, children, life_of, parent_of, younger_siblings}

-- the younger siblings, where the deletion of the parent was asked too
abbrev pub siblings_first : Tree → ℕ → List ℕ
siblings_first T o = if is_asked (life_of T (parent_of T o)) then younger_siblings T o else []

-- once an object is cleaned up, the children that are left; before that the children and the younger siblings
-- whose cleanup is still to come
abbrev pub go_first : Tree → ℕ → List ℕ
go_first T o =
    if is_cleaned (life_of T o) then children T o
    else filter (λ x. not (is_past_cleanup (life_of T x))) (children T o ++ siblings_first T o)
