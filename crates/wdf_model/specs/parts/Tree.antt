-- The tree of objects: kinds, parents, lives, references and context cells. (KMDF)
use Rattle.std.specs.Prelude.{sum, if◌then◌else◌, ℕ, ◌+◌, ◌-◌, Bool, true, false, ◌==◌, nat_lt, not, ◌&&◌, ◌||◌, List, [], ◌∷◌, ◌++◌, length, map, filter, count_by, replicate, fold, slice_set, slice_index_or, Option, Some, None, unwrap_or}
use Rattle.std.specs.List.{list_all}
use Rattle.wdf_base.specs.declared.plan.Plan.{Plan}
use Rattle.wdf_base.specs.declared.ids.Handle.{Handle}
use Rattle.wdf_base.specs.declared.value.Value.{Value}
use Rattle.wdf_base.specs.declared.value.Value.TheVariants.{Num}
use Rattle.wdf_base.specs.declared.object.Kind.{Kind}
use Rattle.wdf_base.specs.declared.object.Kind.TheVariants as kind
use Rattle.wdf_base.specs.declared.object.Life.{Life}
use Rattle.wdf_base.specs.declared.object.Life.TheVariants as life
use Rattle.wdf_base.specs.declared.declared.Declared.{Declared}
use Rattle.wdf_base.specs.declared.declared.Declared.TheVariants as declared
use Rattle.wdf_base.specs.declared.call.Callback.{Callback}
use Rattle.wdf_base.specs.declared.call.Callback.TheVariants as callback
use Rattle.wdf_base.specs.Kinds.{declared_kind, declared_name}
use Rattle.wdf_base.specs.Plan.{declared_of}
use Rattle.wdf_base.specs.Same.{same_kind}
use Rattle.wdf_base.specs.Lives.{is_asked, is_cleaned, is_gone, is_live, is_past_cleanup}
use Rattle.wdf_model.specs.Tables.{entry, change_at, ids_of}
use Rattle.wdf_model.specs.Plans.{name_of_class}
use Rattle.wdf_model.specs.declared.entries.Node.{Node}

-- the objects, and how many the driver may have at one time
pub record Tree : Type 0 where
  -- the most counted objects at one time
  pub limit : ℕ
  -- the objects by id; the id 0 is none
  pub nodes : List Node

-- own: the context of a new object: eight cells, each with the number 0
abbrev pub blank_cells : List Value
blank_cells = replicate 8 (Num 0)

-- what reads for an id without an object: gone, of kind General, with no parent and no reference
abbrev pub gone : Node
gone = record {
  life = life.Gone;
  kind = kind.General;
  class = 0;
  parent = record { 0 = 0 };
  references = 0;
  cells = blank_cells;
  cleanup_started = false;
  destroy_started = false;
}

-- a new object of kind k and class c with this parent: live, no reference held, its context blank
abbrev pub new_node : Kind → ℕ → ℕ → Node
new_node k c parent = record {
  life = life.Live;
  kind = k;
  class = c;
  parent = record { 0 = parent };
  references = 0;
  cells = blank_cells;
  cleanup_started = false;
  destroy_started = false;
}

-- ---- readers

-- object o; an id that isn't there reads as one that is gone
abbrev pub node_of : Tree → ℕ → Node
node_of T o = entry gone T.nodes o

-- how far object o is: Live, Asked (its deletion), Cleaned or Gone
abbrev pub life_of : Tree → ℕ → Life
life_of T o = (node_of T o).life

-- the kind of object o: device, queue, request, and so on; General for one that is gone
abbrev pub kind_of : Tree → ℕ → Kind
kind_of T o = (node_of T o).kind

-- the number of object o's class, 0 for what has none
abbrev pub class_of : Tree → ℕ → ℕ
class_of T o = (node_of T o).class

-- the id of object o's parent, 0 for the driver object and for one that is gone
abbrev pub parent_of : Tree → ℕ → ℕ
parent_of T o = (node_of T o).parent.0

-- how many references to object o the driver holds
abbrev pub references_of : Tree → ℕ → ℕ
references_of T o = (node_of T o).references

-- how many references the driver holds in all
abbrev pub references_in : Tree → ℕ
references_in T = sum (map (λ (n : Node). n.references) T.nodes)

-- the value in context cell k of object o; cells are 0 to 7, and a greater k reads as the number 0 (own)
abbrev pub cell_of : Tree → ℕ → ℕ → Value
cell_of T o k = slice_index_or (node_of T o).cells k (Num 0)

-- the id of the object that is made next; ids aren't used again (own)
abbrev pub next_id : Tree → ℕ
next_id T = length T.nodes

-- whether an object counts against the limit: all do that aren't gone, but for requests that arrived (own)
abbrev pub counts : Node → Bool
counts n = not (is_gone n.life) && not (same_kind n.kind kind.Request)

-- how many objects count against the limit
abbrev pub counted : Tree → ℕ
counted T = count_by counts T.nodes

-- whether the limit is reached: then calls that make an object answer INSUFFICIENT_RESOURCES (KMDF, the limit own)
abbrev pub is_full : Tree → Bool
is_full T = not (nat_lt (counted T) T.limit)

-- what object o of a kind is in the plan: declared under its id, or else of its class. A request that arrived is
-- nothing there.
abbrev pub made_as : Plan → Node → ℕ → Kind → Option Declared
made_as plan n o kind.Request = None
made_as plan n o kind.Driver = declared_of plan o
made_as plan n o kind.Device = declared_of plan o
made_as plan n o kind.Queue = declared_of plan o
made_as plan n o kind.Interrupt = declared_of plan o
made_as plan n o kind.Target = declared_of plan o
made_as plan n o _ = Some (declared.OfClass n.class)

-- what object o is in the plan; an id that is gone reads as an object of class 0
abbrev pub declared_as : Plan → Tree → ℕ → Option Declared
declared_as plan T o = made_as plan (node_of T o) o (kind_of T o)

-- the number of a name: the declared one or the class's; 0 is `driver`, 1 is `req`
abbrev pub name_as : Plan → Option Declared → ℕ
name_as plan None = 1
name_as plan (Some (declared.OfClass c)) = name_of_class plan c
name_as plan (Some d) = unwrap_or (declared_name d) 0

-- object o as events and values name it: its id, with the number of its name
abbrev pub handle_of : Plan → Tree → ℕ → Handle
handle_of plan T o = record { id = record { 0 = o }; name = name_as plan (declared_as plan T o) }

-- ---- who is above whom

-- the nearest device of object o, where those of the ids before it are known: itself for a device, else its parent's;
-- the driver object, id 1, where there is none
abbrev pub own_device : List ℕ → ℕ → Node → ℕ
own_device before o n = if same_kind n.kind kind.Device then o else entry 1 before n.parent.0

-- the nearest devices of all objects by id, those before the first of the list being known: a parent comes before its
-- children
abbrev pub nearest_devices : List ℕ → List Node → List ℕ
nearest_devices before [] = before
nearest_devices before (n ∷ ns) = nearest_devices (before ++ own_device before (length before) n ∷ []) ns

-- the id of the nearest device at or above object o, 1 (the driver object) where there is none
abbrev pub nearest_device : Tree → ℕ → ℕ
nearest_device T o = entry 1 (nearest_devices [] T.nodes) o

-- for each object by id whether it is below o: its parent is o, or is below o. A parent comes before its children.
abbrev pub below_marks : ℕ → List Bool → List Node → List Bool
below_marks o before [] = before
below_marks o before (n ∷ ns) = below_marks o (before ++ (n.parent.0 == o || entry false before n.parent.0) ∷ []) ns

-- whether object x is below o: a child of it, or below a child of it
abbrev pub is_below : Tree → ℕ → ℕ → Bool
is_below T o x = entry false (below_marks o [] T.nodes) x

-- of these ids, o and those that are marked
abbrev pub with_marked : ℕ → List Bool → List ℕ → List ℕ
with_marked o marks ids = filter (λ x. x == o || entry false marks x) ids

-- o and the objects below it, by rising id
abbrev pub subtree : Tree → ℕ → List ℕ
subtree T o = with_marked o (below_marks o [] T.nodes) (ids_of T.nodes)

-- whether object x has o as parent and isn't gone
abbrev pub is_child : Tree → ℕ → ℕ → Bool
is_child T o x = parent_of T x == o && not (is_gone (life_of T x))

-- the children of object o that aren't gone, by rising id
abbrev pub children : Tree → ℕ → List ℕ
children T o = filter (is_child T o) (ids_of T.nodes)

-- the children of object o's parent that were made after o and aren't gone
abbrev pub younger_siblings : Tree → ℕ → List ℕ
younger_siblings T o = filter (nat_lt o) (children T (parent_of T o))

-- whether the cleanup of object o may come, by lives alone: its deletion was asked, and no child still waits for
-- cleanup (KMDF); own: where its parent's was asked too, no younger sibling does either
abbrev pub may_clean : Tree → ℕ → Bool
may_clean T o =
    is_asked (life_of T o)
    && list_all (λ x. is_past_cleanup (life_of T x)) (children T o)
    && (not (is_asked (life_of T (parent_of T o))) || list_all (λ x. is_past_cleanup (life_of T x)) (younger_siblings T o))

-- whether object o may end, by the tree alone: after its cleanup, with no reference held and no child left (KMDF)
abbrev pub may_destroy : Tree → ℕ → Bool
may_destroy T o = is_cleaned (life_of T o) && references_of T o == 0 && length (children T o) == 0

-- whether the cleanup callback, or the destroy callback, of object o has started: each starts once
abbrev pub started : Tree → ℕ → Callback → Bool
started T o callback.EvtCleanupCallback = (node_of T o).cleanup_started
started T o callback.EvtDestroyCallback = (node_of T o).destroy_started
started T o _ = false

-- ---- acts

-- object o changes by f, and no other
abbrev pub with_node : Tree → ℕ → (Node → Node) → Tree
with_node T o f = record T { nodes = change_at gone T.nodes o f }

-- a new object of kind k and class c, with this parent; it gets the next id
abbrev pub create : Tree → Kind → ℕ → ℕ → Tree
create T k c parent = record T { nodes = T.nodes ++ new_node k c parent ∷ [] }

-- a request arrives at a device, which is its parent; it gets the next id
abbrev pub arrive : Tree → ℕ → Tree
arrive T device = create T kind.Request 0 device

-- an object with life l, and nothing else changed
abbrev pub with_life : Life → Node → Node
with_life l n = record n { life = l }

-- the deletion of one object is asked, if it is live
abbrev pub asked_if_live : Node → Node
asked_if_live n = if is_live n.life then with_life life.Asked n else n

-- the deletion of object o alone is asked, if it is live
abbrev pub ask_one : Tree → ℕ → Tree
ask_one T o = with_node T o asked_if_live

-- the deletion of object o and of all below it is asked (KMDF)
abbrev pub ask_delete : Tree → ℕ → Tree
ask_delete T o = fold ask_one T (subtree T o)

-- the cleanup of object o is done
abbrev pub clean : Tree → ℕ → Tree
clean T o = with_node T o (with_life life.Cleaned)

-- object o is destroyed, and nothing of it is kept
abbrev pub destroy : Tree → ℕ → Tree
destroy T o = with_node T o (λ _. gone)

-- the driver holds one reference more to object o (KMDF)
abbrev pub reference : Tree → ℕ → Tree
reference T o = with_node T o (λ n. record n { references = n.references + 1 })

-- the driver holds one reference less to object o (KMDF)
abbrev pub dereference : Tree → ℕ → Tree
dereference T o = with_node T o (λ n. record n { references = n.references - 1 })

-- an object whose cleanup callback, or destroy callback, has started
abbrev pub noted : Callback → Node → Node
noted callback.EvtCleanupCallback n = record n { cleanup_started = true }
noted callback.EvtDestroyCallback n = record n { destroy_started = true }
noted _ n = n

-- the cleanup callback, or the destroy callback, of object o has started
abbrev pub note_start : Tree → ℕ → Callback → Tree
note_start T o c = with_node T o (noted c)

-- context cell k of object o takes value v (own)
abbrev pub set : Tree → ℕ → ℕ → Value → Tree
set T o k v = with_node T o (λ n. record n { cells = slice_set n.cells k v })

-- ---- the opening

-- the id of what a declared object has as parent: its device; for a device the driver object, id 1; for the driver
-- object 0, which is none
abbrev pub declared_parent : Declared → ℕ
declared_parent declared.Driver = 0
declared_parent (declared.Device d) = 1
declared_parent (declared.Queue q) = q.device.0
declared_parent (declared.Interrupt i) = i.device.0
declared_parent (declared.Target t) = t.device.0
declared_parent (declared.OfClass c) = 0

-- a declared object exists, live, from the opening
abbrev pub declared_node : Declared → Node
declared_node d = new_node (unwrap_or (declared_kind d) kind.General) 0 (declared_parent d)

-- own: the objects at the opening: the id 0 that none has, the driver object, then what is declared, in the order of
-- the text
abbrev pub opening_tree : Plan → Tree
opening_tree plan = record { limit = plan.objects; nodes = gone ∷ map declared_node plan.declared }
