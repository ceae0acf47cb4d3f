-- At each place of every run of a resolved plan the handles that scripts know are of objects that were made, with their names.
use Rattle.std.proofs.Common.{◌≡◌, inl, inr, ℕ, zero, suc, ◌<◌, ◌==◌, true, false, ◌||◌, List, [], ◌∷◌, length, map, slice_index_or, Option, Some, None, option_and_then, slice_get, take, refl, sym, ap, ◌∙◌, subst, arith}
use Rattle.std.proofs.lemmas.Bool.{cases_Bool, or_cases}
use Rattle.std.specs.Option.{unwrap_or}
use Rattle.std.proofs.lemmas.List.{length-map}
use Rattle.std.proofs.lemmas.Option.{slice_get_within}
use Rattle.wdf_base.specs.Meaning.{Meaning}
use Rattle.wdf_base.specs.Kinds.{declared_kind, declared_name}
use Rattle.wdf_base.specs.Lives.{is_gone}
use Rattle.wdf_base.specs.Plan.{declared_of}
use Rattle.wdf_base.specs.Resolved.{IsResolved, is_handle, is_kind, node_fits, nodes_fit, objects_in_order}
use Rattle.wdf_base.specs.Same.{same_kind, same_option}
use Rattle.wdf_base.specs.declared.plan.Plan.{Plan}
use Rattle.wdf_base.specs.declared.ids.Handle.{Handle}
use Rattle.wdf_base.specs.declared.object.Kind.{Kind}
use Rattle.wdf_base.specs.declared.object.Kind.TheVariants as kind
use Rattle.wdf_base.specs.declared.declared.Declared.{Declared}
use Rattle.wdf_base.specs.declared.declared.Declared.TheVariants as declared
use Rattle.wdf_base.specs.declared.call.Call.{Call}
use Rattle.wdf_base.specs.declared.event.Event.{Event}
use Rattle.wdf_base.specs.declared.event.Event.TheVariants as event
use Rattle.wdf_base.specs.declared.script.ExprNode.{ExprNode}
use Rattle.wdf_base.specs.declared.script.ExprNode.TheVariants as node
use Rattle.wdf_base.specs.declared.value.Value.{Value}
use Rattle.wdf_base.specs.declared.value.Value.TheVariants.{Num}
use Rattle.wdf_model.specs.declared.entries.Node.{Node}
use Rattle.wdf_model.specs.Ids.{cpu_of}
use Rattle.wdf_model.specs.Plans.{kind_of_class}
use Rattle.wdf_model.specs.Tables.{entry}
use Rattle.wdf_model.specs.parts.Cpus.{blank_frame, frame_of}
use Rattle.wdf_model.specs.parts.Tree.{Tree, cell_of, declared_node, gone, life_of, made_as, name_as, node_of, opening_tree}
use Rattle.wdf_model.specs.parts.Tree as tree
use Rattle.wdf_model.specs.State.{State, opening}
use Rattle.wdf_model.specs.rules.Calls.{creation, new_handle, outcome}
use Rattle.wdf_model.specs.rules.Deeds.{do_deeds}
use Rattle.wdf_model.specs.rules.Ready.{IsRunOf, state_after}
use Rattle.wdf_model.specs.rules.Steps.{after, deeds, may}
use Rattle.wdf_model.proofs.Tests.{both_left, both_right}
use Rattle.law_machine_base.proofs.OwnEvents.{IsDid}
use Rattle.law_machine_lives.proofs.Keeping.{Known, at_the_end, each_place}
use Rattle.law_trace_families.proofs.Stays.{Stays, event_stays}
use Rattle.law_trace_requests.proofs.FirstParts.{did_after}
use Rattle.law_handles.specs.Handles.{AllNamed, InCall, InFrame, InValue, IsNamed}
use Rattle.law_handles.proofs.Changes.{deeds_in}
use Rattle.law_handles.proofs.Events.{event_tells, named_still, new_named}
use Rattle.law_handles.proofs.Values.{InIntent, frame_more, intent_in, value_more, zeros}
use Rattle.law_machine_lives.proofs.Lists.{some_number}
use Rattle.law_trace_families.proofs.Families.{declared_at}
use Rattle.law_trace_families.proofs.Telling.{creates}

-- what is so of a state, and with it of the id 0 and of the objects that the plan's expressions name
pub record Named {A : Type 0} (plan : Plan) (S : State A) : Type 0 where
  pub zeroth : is_gone (life_of S.tree 0) ≡ true
  pub two : 1 < length S.tree.nodes
  pub literals : (e : ℕ) (o : Handle) → slice_get plan.exprs e ≡ Some (node.Object o) → IsNamed plan S.tree o
  pub named : AllNamed plan S

-- what is of the id 0, which is gone
none_named : (plan : Plan) (T : Tree) (h : Handle) → h.id.0 ≡ 0 → is_gone (life_of T 0) ≡ true → 1 < length T.nodes → IsNamed plan T h
none_named plan T h zeroth none two = (
  omega (arith, zeroth, two),
  λ there. absurd (let off : is_gone (life_of T 0) ≡ false = subst (λ o. is_gone (life_of T o) ≡ false) zeroth there in let z : ⊥ = cc (sym none ∙ off) in z),
)

-- the frame that is none
blank_named : (plan : Plan) (T : Tree) → is_gone (life_of T 0) ≡ true → 1 < length T.nodes → InFrame (IsNamed plan T) blank_frame
blank_named plan T none two = record {
  own = none_named plan T blank_frame.object refl none two;
  nearest = none_named plan T blank_frame.device refl none two;
  carried = tt;
  variable = zeros (IsNamed plan T) 16;
  waits = tt;
}

-- ---- the opening

node_at : (plan : Plan) (from : ℕ) (ns : List ExprNode) (k : ℕ) (n : ExprNode) → nodes_fit plan from ns ≡ true → slice_get ns k ≡ Some n → (place : ℕ) × (node_fits plan place n ≡ true)
node_at plan from [] k n h at = absurd (let z : ⊥ = cc in z)
node_at plan from (x ∷ xs) zero n h at =
    let same : x ≡ n = cc in
    (from, subst (λ y. node_fits plan from y ≡ true) same (both_left (node_fits plan from x) (nodes_fit plan (suc from) xs) h))
node_at plan from (x ∷ xs) (suc k) n h at = node_at plan (suc from) xs k n (both_right (node_fits plan from x) (nodes_fit plan (suc from) xs) h) at

-- the name of a declared object, which is no object of a class
name_by : (plan : Plan) (k : Kind) (name j : ℕ) (d : Declared) → declared_of plan (suc j) ≡ Some d → same_option same_kind (declared_kind d) (Some k) ≡ true → declared_name d ≡ Some name
    → name ≡ name_as plan (made_as plan (declared_node d) (suc j) (declared_node d).kind)
name_by plan k name j declared.Driver at is named = rw at (ap (λ o. unwrap_or o 0) (sym named))
name_by plan k name j (declared.Device d) at is named = rw at (ap (λ o. unwrap_or o 0) (sym named))
name_by plan k name j (declared.Queue q) at is named = rw at (ap (λ o. unwrap_or o 0) (sym named))
name_by plan k name j (declared.Interrupt i) at is named = rw at (ap (λ o. unwrap_or o 0) (sym named))
name_by plan k name j (declared.Target t) at is named = rw at (ap (λ o. unwrap_or o 0) (sym named))
name_by plan k name j (declared.OfClass c) at is named = absurd (let z : ⊥ = cc in z)

-- what is said of a handle by its id and its name
abbrev NamedAt : Plan → ℕ → ℕ → Type 0
NamedAt plan o name = (o < length (opening_tree plan).nodes) × (name ≡ (tree.handle_of plan (opening_tree plan) o).name)

declared_named : (plan : Plan) (k : Kind) (name j : ℕ) (o : Option Declared) → slice_get plan.declared j ≡ o → same_option same_kind (option_and_then declared_kind o) (Some k) ≡ true
    → same_option ◌==◌ (option_and_then declared_name o) (Some name) ≡ true → NamedAt plan (suc j) name
declared_named plan k name j None at is named = absurd (let z : ⊥ = cc in z)
declared_named plan k name j (Some d) at is named =
    let low : j < length plan.declared = slice_get_within plan.declared j d at in
    let node : node_of (opening_tree plan) (suc j) ≡ declared_node d = declared_at plan.declared j d at in (
      (let long = length-map plan.declared declared_node in omega (arith, low, long)),
      name_by plan k name j d at is (some_number (declared_name d) name named) ∙ ap (λ (n : Node). name_as plan (made_as plan n (suc j) n.kind)) (sym node),
    )

id_named : (plan : Plan) (k : Kind) (o name : ℕ) → is_kind plan k o ≡ true → same_option ◌==◌ (option_and_then declared_name (declared_of plan o)) (Some name) ≡ true → NamedAt plan o name
id_named plan k zero name is named = absurd (let z : ⊥ = cc in z)
id_named plan k (suc j) name is named = declared_named plan k name j (slice_get plan.declared j) refl is named

handle_named : (plan : Plan) (k : Kind) (h : Handle) → is_handle plan k h ≡ true → IsNamed plan (opening_tree plan) h
handle_named plan k h is =
    let at = id_named plan k h.id.0 h.name (both_left (is_kind plan k h.id.0) (same_option ◌==◌ (option_and_then declared_name (declared_of plan h.id.0)) (Some h.name)) is)
    (both_right (is_kind plan k h.id.0) (same_option ◌==◌ (option_and_then declared_name (declared_of plan h.id.0)) (Some h.name)) is) in
    (at.0, λ there. at.1)

literal_named : (plan : Plan) → IsResolved plan → (e : ℕ) (o : Handle) → slice_get plan.exprs e ≡ Some (node.Object o) → IsNamed plan (opening_tree plan) o
literal_named plan resolved e o at =
    let fit = node_at plan 0 plan.exprs e (node.Object o) resolved.exprs_fit at in
    elim (or_cases (is_handle plan kind.Device o || is_handle plan kind.Queue o || is_handle plan kind.Interrupt o) (is_handle plan kind.Target o) fit.1) as (λ _. IsNamed plan (opening_tree plan) o) [
      | inl three ↦ elim (or_cases (is_handle plan kind.Device o || is_handle plan kind.Queue o) (is_handle plan kind.Interrupt o) three) as (λ _. IsNamed plan (opening_tree plan) o) [
        | inl two ↦ elim (or_cases (is_handle plan kind.Device o) (is_handle plan kind.Queue o) two) as (λ _. IsNamed plan (opening_tree plan) o) [
          | inl one ↦ handle_named plan kind.Device o one
          | inr one ↦ handle_named plan kind.Queue o one
        ]
        | inr one ↦ handle_named plan kind.Interrupt o one
      ]
      | inr one ↦ handle_named plan kind.Target o one
    ]

two_nodes : (ds : List Declared) → objects_in_order ds ≡ true → 1 < suc (length (map declared_node ds))
two_nodes [] h = absurd (let z : ⊥ = cc in z)
two_nodes (d ∷ ds) h = omega arith

cells_by : (P : Handle → Type 0) (ds : List Declared) (o k : ℕ) → InValue P (slice_index_or (entry gone (map declared_node ds) o).cells k (Num 0))
cells_by P [] o k = zeros P 8 k
cells_by P (d ∷ ds) zero k = zeros P 8 k
cells_by P (d ∷ ds) (suc o) k = cells_by P ds o k

cells_open : (P : Handle → Type 0) (plan : Plan) (o k : ℕ) → InValue P (cell_of (opening_tree plan) o k)
cells_open P plan zero k = zeros P 8 k
cells_open P plan (suc o) k = cells_by P plan.declared o k

opens : {A : Type 0} (plan : Plan) (m : Meaning A) → IsResolved plan → Named plan (opening plan m)
opens plan m resolved =
    let more : 1 < length (opening_tree plan).nodes = two_nodes plan.declared resolved.in_order in
    record {
      zeroth = refl;
      two = more;
      literals = literal_named plan resolved;
      named = record { frames = λ f. blank_named plan (opening_tree plan) refl more; cells = cells_open (IsNamed plan (opening_tree plan)) plan };
    }

-- ---- an event

module _ {A : Type 0} (plan : Plan) (m : Meaning A) (S : State A) where
  new_by : (e : Event) (cpu : ℕ) (c : Call) (v : Value) (d : IsDid plan S cpu c v) (class parent : ℕ) → e ≡ event.Did (cpu_of cpu) c v
      → (outcome plan S cpu d.frame c).deeds ≡ creation (kind_of_class plan class) class parent ∷ [] → IsNamed plan (after plan m S e).tree (new_handle plan S class)
  new_by e cpu c v d class parent is same =
      let made : (after plan m S (event.Did (cpu_of cpu) c v)).tree ≡ tree.create S.tree (kind_of_class plan class) class parent =
      did_after (λ (T : State A). T.tree) (λ T L C. refl) plan S cpu c v d ∙ ap (λ ds. (do_deeds plan ds S).tree) same ∙ creates plan S (kind_of_class plan class) class parent in
      subst (λ x. IsNamed plan (after plan m S x).tree (new_handle plan S class)) (sym is)
      (subst (λ T. IsNamed plan T (new_handle plan S class)) (sym made) (new_named plan S.tree class parent))

  module _ (e : Event) (known : Known plan S) (h : may plan m S e ≡ true) (n : Named plan S) where
    abbrev next : Tree
    next = (after plan m S e).tree

    stays : Stays S.tree next
    stays = event_stays plan m S e h

    up : (o : Handle) → IsNamed plan S.tree o → IsNamed plan next o
    up o k = named_still plan S.tree next stays o k

    zeroth_still : is_gone (life_of next 0) ≡ true
    zeroth_still = elim (cases_Bool (is_gone (life_of next 0))) [
      | inl gone_still ↦ gone_still
      | inr there ↦
          let low : 0 < length S.tree.nodes = (let more = n.two in omega (arith, more)) in
          let was : is_gone (life_of S.tree 0) ≡ false = (stays.was 0 low there).there in
          let z : ⊥ = cc (sym n.zeroth ∙ was) in absurd z
    ]

    two_still : 1 < length next.nodes
    two_still = let more = n.two in let longer = stays.longer in omega (arith, more, longer)

    frames_more : (f : ℕ) → InFrame (IsNamed plan next) (frame_of S.cpus f)
    frames_more f = frame_more (IsNamed plan S.tree) (IsNamed plan next) up (frame_of S.cpus f) (n.named.frames f)

    cells_more : (o k : ℕ) → InValue (IsNamed plan next) (cell_of S.tree o k)
    cells_more o k = value_more (IsNamed plan S.tree) (IsNamed plan next) up (cell_of S.tree o k) (n.named.cells o k)

    step : Named plan (after plan m S e)
    step =
        let literals = λ (x : ℕ) (o : Handle) (at : slice_get plan.exprs x ≡ Some (node.Object o)). up o (n.literals x o at) in
        let tells = event_tells plan m S known n.two (IsNamed plan next) up frames_more cells_more literals e h (λ cpu c v d class parent is same. new_by e cpu c v d class parent is same) in
        let both = deeds_in (IsNamed plan next) (blank_named plan next zeroth_still two_still) plan (deeds plan S e) S tells frames_more cells_more in
        record { zeroth = zeroth_still; two = two_still; literals = literals; named = record { frames = both.0; cells = both.1 } }

named_each : {A : Type 0} (plan : Plan) (m : Meaning A) (run : List Event) → IsResolved plan → IsRunOf plan m run → (n : ℕ) → Named plan (state_after plan m (take n run))
named_each plan m run resolved is_run n =
    each_place plan m (Named plan) (opens plan m resolved) (λ S e known h held. step plan m S e known h held)
    (λ S time held. record { zeroth = held.zeroth; two = held.two; literals = held.literals; named = record { frames = held.named.frames; cells = held.named.cells } }) run is_run n

pub named_at_each : {A : Type 0} (plan : Plan) (m : Meaning A) (run : List Event) → IsResolved plan → IsRunOf plan m run → (n : ℕ) → AllNamed plan (state_after plan m (take n run))
named_at_each plan m run resolved is_run n = (named_each plan m run resolved is_run n).named

-- the handles in a call that is done after a run
pub call_named : {A : Type 0} (plan : Plan) (m : Meaning A) (run : List Event) → IsResolved plan → IsRunOf plan m run → (cpu : ℕ) (c : Call) (v : Value) → IsDid plan (state_after plan m run) cpu c v
    → InCall (IsNamed plan (state_after plan m run).tree) c
call_named {A} plan m run resolved is_run cpu c v d =
    let S : State A = state_after plan m run in
    let P : Handle → Type 0 = IsNamed plan S.tree in
    let n : Named plan S = at_the_end plan m (λ (T : State A). Named plan T) run (named_each plan m run resolved is_run (length run)) in
    let f = frame_of S.cpus d.frame in
    subst (InIntent P plan n.literals f (n.named.frames d.frame)) d.about.about (intent_in P plan n.literals f (n.named.frames d.frame))
