-- As many references were taken of an object as are held or were given back, at each place of every run.
use Rattle.std.proofs.Common.{◌≡◌, ◌≢◌, ℕ, zero, suc, ◌+◌, ◌-◌, ◌==◌, ◌<◌, nat_lt, Bool, true, false, not, List, [], ◌∷◌, ◌++◌, ◌⊎◌, inl, inr, Option, Some, map, fold, count_by, slice_get, slice_set, take, refl, sym, ap, subst, ◌∙◌, arith}
use Rattle.std.proofs.lemmas.Bool.{eqb-true}
use Rattle.std.proofs.lemmas.Bool.Decides.{nat_tests}
use Rattle.wdf_base.specs.Meaning.{Meaning}
use Rattle.wdf_base.specs.declared.ids.Handle.{Handle}
use Rattle.wdf_base.specs.declared.plan.Plan.{Plan}
use Rattle.wdf_base.specs.declared.event.Event.{Event}
use Rattle.wdf_base.specs.declared.event.Event.TheVariants as event
use Rattle.wdf_base.specs.declared.declared.Declared.{Declared}
use Rattle.wdf_base.specs.declared.object.Kind.{Kind}
use Rattle.wdf_base.specs.declared.object.Kind.TheVariants as kind
use Rattle.wdf_base.specs.declared.object.Life.TheVariants as life
use Rattle.wdf_model.specs.declared.entries.Node.{Node}
use Rattle.wdf_model.specs.Tables.{entry}
use Rattle.wdf_model.specs.parts.Tree.{Tree, declared_node, gone, life_of, new_node, next_id, node_of, noted, opening_tree, subtree, with_life, with_node}
use Rattle.wdf_model.specs.parts.Tree as tree
use Rattle.wdf_model.specs.parts.Requests as requests
use Rattle.wdf_model.specs.State.{State}
use Rattle.wdf_model.specs.declared.deed.Deed.{Deed}
use Rattle.wdf_model.specs.declared.deed.Deed.TheVariants.{Create, MakeRequest, Arrive, AskDeletion, Refer, Unrefer, WriteCell, Note, CleanUp, EndLife, CompleteRequest}
use Rattle.wdf_model.specs.rules.Deeds.{ask_object, do_deed, do_deeds, give_up}
use Rattle.wdf_model.specs.rules.Steps.{after, deeds, may}
use Rattle.wdf_model.specs.rules.Ready.{IsRunOf, ready, state_after}
use Rattle.wdf_model.proofs.Runs.{along_run}
use Rattle.law_machine_base.proofs.Follows.{state_goes_on}
use Rattle.wdf_model.proofs.Tests.{both_left, both_right, not_true}
use Rattle.wdf_model.proofs.Maps.{entry_before, entry_last, entry_past, entry_put_other, entry_put_same}
use Rattle.wdf_model.proofs.Counts.{equal, not_equal, one_or_two}
use Rattle.law_machine_base.proofs.FitsOfCalls.{outcome_fits}
use Rattle.law_machine_base.proofs.FitsOfEvents.{by_its_top}
use Rattle.law_machine_base.proofs.OwnEvents.{IsDid, did_tells, waiting_tells}
use Rattle.law_machine_base.proofs.FitsOfEvents.{event_fits}
use Rattle.wdf_model.specs.rules.Calls.{is_met_then}
use Rattle.law_machine_base.specs.FactsOfEvents.{IsTick}
use Rattle.law_machine_base.proofs.Follows.{follows}
use Rattle.law_machine_lives.proofs.Keeping.{comes, deeds_keep as keep_deeds, each_place}
use Rattle.law_machine_counts.proofs.Trees.{cleaned_there, noted_references}
use Rattle.law_machine_lives.proofs.Readers.{tree_of}
use Rattle.law_machine_lives.proofs.PartsStay.{tree_stays}
use Rattle.law_trace_once.proofs.Lasting.{Past, deed_keeps}
use Rattle.wdf_model.specs.rules.Steps.{did_deeds}
use Rattle.law_machine_base.proofs.Deletion.{object_live, object_off}
use Rattle.law_machine_lives.proofs.Stays.{gives_up}
use Rattle.law_machine_lives.proofs.Lists.{reads_same}
use Rattle.wdf_laws.specs.declared.sign.Sign.{Sign}
use Rattle.wdf_laws.specs.declared.sign.Sign.TheVariants as sign
use Rattle.wdf_laws.specs.Signs.{shows}
use Rattle.wdf_laws.specs.Words.{ever}
use Rattle.law_trace_once.proofs.Words.{ever_next}
use Rattle.law_trace_once.proofs.Ends.{ends, ends_once}
use Rattle.wdf_base.specs.declared.ids.Cpu.{Cpu}
use Rattle.wdf_base.specs.declared.call.Arg.{Arg}
use Rattle.wdf_base.specs.declared.call.Arg.TheVariants.{Val}
use Rattle.wdf_base.specs.declared.call.Call.{Call}
use Rattle.wdf_base.specs.declared.call.CallKind.{CallKind}
use Rattle.wdf_base.specs.declared.call.CallKind.TheVariants as call
use Rattle.wdf_base.specs.declared.value.Value.{Value}
use Rattle.wdf_base.specs.declared.value.Value.TheVariants.{Obj}
use Rattle.wdf_base.specs.Same.{same_call_kind}
use Rattle.wdf_base.specs.Lives.{is_cleaned, is_gone, is_live}
use Rattle.wdf_model.specs.Tables.{flag}
use Rattle.wdf_model.specs.parts.Tree.{references_of}
use Rattle.wdf_model.specs.State.{object_in}
use Rattle.wdf_model.proofs.Counts.{count_behind, count_of_one}
use Rattle.wdf_model.proofs.Tests.{either_false}
use Rattle.wdf_laws.specs.Words.{times}
use Rattle.wdf_laws.specs.Events.{argument_object, is_id, where_so}
use Rattle.law_trace_once.proofs.Uncounted.{event_none, is_counting, is_counting_event, is_reference_call, none_counts}
use Rattle.law_machine_counts.proofs.Arrived.{arrived_tree}

-- ---- deeds that leave references alone

abbrev pub SameRefs : Tree → Tree → Type 0
SameRefs T U = (x : ℕ) → references_of U x ≡ references_of T x

changes : (T : Tree) (o : ℕ) (f : Node → Node) → (f (node_of T o)).references ≡ references_of T o → SameRefs T (with_node T o f)
changes T o f same x = reads_same (λ n. n.references) T o f same x

made : (T : Tree) (k : Kind) (class parent : ℕ) → SameRefs T (tree.create T k class parent)
made T k class parent x = elim (one_or_two x (next_id T)) [
  | inl e ↦
      let new : references_of (tree.create T k class parent) (next_id T) ≡ 0 = ap (λ (n : Node). n.references) (entry_last gone T.nodes (new_node k class parent)) in
      let old : references_of T (next_id T) ≡ 0 = ap (λ (n : Node). n.references) (entry_past gone T.nodes (next_id T) (omega arith)) in
      rw e (new ∙ sym old)
  | inr n ↦ ap (λ (m : Node). m.references) (entry_before gone T.nodes (new_node k class parent) x n)
]

same_tree : (T U : Tree) → U ≡ T → SameRefs T U
same_tree T U e x = ap (λ (V : Tree). references_of V x) e

asked_one : {A : Type 0} (S : State A) (x : ℕ) (b : Bool) → is_live (life_of S.tree x) ≡ b → SameRefs S.tree (ask_object S x).tree
asked_one {A} S x true e = subst (λ (U : State A). SameRefs S.tree U.tree) (sym (object_live S x e)) (changes S.tree x (with_life life.Asked) refl)
asked_one {A} S x false e = same_tree S.tree (ask_object S x).tree (ap (λ (U : State A). U.tree) (object_off S x e))

all_asked : {A : Type 0} (xs : List ℕ) (S : State A) → SameRefs S.tree (fold ask_object S xs).tree
all_asked [] S y = refl
all_asked (x ∷ xs) S y = all_asked xs (ask_object S x) y ∙ asked_one S x (is_live (life_of S.tree x)) refl y

deed_same : {A : Type 0} (plan : Plan) (d : Deed) (S : State A) → is_counting d ≡ false → SameRefs S.tree (do_deed plan d S).tree
deed_same plan (Create k class parent) S f x = made S.tree k class parent.0 x
deed_same plan (MakeRequest class parent) S f x = made S.tree kind.Made class parent.0 x
deed_same plan (Arrive device info p) S f x = same_tree _ _ (arrived_tree S device.0 info p) x ∙ made S.tree kind.Request 0 device.0 x
deed_same plan (AskDeletion o) S f x = all_asked (subtree S.tree o.0) S x
deed_same plan (Refer o) S f x = absurd (let z : ⊥ = cc in z)
deed_same plan (Unrefer o) S f x = absurd (let z : ⊥ = cc in z)
deed_same plan (WriteCell o k v) S f x = changes S.tree o.0 (λ n. record n { cells = slice_set n.cells k v }) refl x
deed_same plan (Note o c) S f x = changes S.tree o.0 (noted c) (noted_references c (node_of S.tree o.0)) x
deed_same plan (CleanUp o) S f x = changes S.tree o.0 (with_life life.Cleaned) refl x
deed_same plan (EndLife o) S f x = absurd (let z : ⊥ = cc in z)
deed_same plan (CompleteRequest r) S f x =
    all_asked (subtree (give_up S r.0).tree r.0) (record (give_up S r.0) { requests = requests.complete S.requests r.0 }) x ∙ same_tree _ _ (gives_up tree_of (λ S Q R P. refl) S r.0) x
deed_same plan d S f x = same_tree _ _ (tree_stays plan d S refl) x

deeds_same : {A : Type 0} (plan : Plan) (ds : List Deed) (S : State A) → none_counts ds ≡ true → SameRefs S.tree (do_deeds plan ds S).tree
deeds_same plan [] S n x = refl
deeds_same plan (d ∷ ds) S n x =
    deeds_same plan ds (do_deed plan d S) (both_right (not (is_counting d)) (none_counts ds) n) x
    ∙ deed_same plan d S (not_true (is_counting d) (both_left (not (is_counting d)) (none_counts ds) n)) x

-- ---- what one event says

times_next : (p : Sign) (es : List Event) (e : Event) → times p (es ++ e ∷ []) ≡ times p es + flag (shows p e)
unfolding times
times_next p es e = count_behind (shows p) es (e ∷ []) ∙ ap (λ n. count_by (shows p) es + n) (count_of_one (shows p) e)

-- of each object but 0 that hasn't ended: what is held and what was given back is what was taken
abbrev Balanced : {A : Type 0} → List Event → State A → Type 0
Balanced es S = (x : ℕ) → x ≢ 0 → ever (sign.Destroyed x) es ≡ false → references_of S.tree x + times (sign.Dereferenced x) es ≡ times (sign.Referenced x) es

not_before : (es : List Event) (e : Event) (x : ℕ) → ever (sign.Destroyed x) (es ++ e ∷ []) ≡ false → (ever (sign.Destroyed x) es ≡ false) × (shows (sign.Destroyed x) e ≡ false)
not_before es e x h = either_false (ever (sign.Destroyed x) es) (shows (sign.Destroyed x) e) (sym (ever_next (sign.Destroyed x) es e) ∙ h)

-- from the count of one event to that of the next
step_of : {A : Type 0} (es : List Event) (e : Event) (S U : State A) (x r d : ℕ) → flag (shows (sign.Referenced x) e) ≡ r → flag (shows (sign.Dereferenced x) e) ≡ d
    → references_of U.tree x + d ≡ references_of S.tree x + r
    → references_of S.tree x + times (sign.Dereferenced x) es ≡ times (sign.Referenced x) es
    → references_of U.tree x + times (sign.Dereferenced x) (es ++ e ∷ []) ≡ times (sign.Referenced x) (es ++ e ∷ [])
step_of es e S U x r d er ed moved k =
    let a : times (sign.Dereferenced x) (es ++ e ∷ []) ≡ times (sign.Dereferenced x) es + flag (shows (sign.Dereferenced x) e) = times_next (sign.Dereferenced x) es e in
    let b : times (sign.Referenced x) (es ++ e ∷ []) ≡ times (sign.Referenced x) es + flag (shows (sign.Referenced x) e) = times_next (sign.Referenced x) es e in
    omega arith

no_flag : (b : Bool) → b ≡ false → flag b ≡ 0
no_flag b h = ap flag h

where_no : (x : ℕ) (b : Bool) (o : Option ℕ) → b ≡ false → is_id x (where_so b o) ≡ false
where_no x true o h = absurd (let z : ⊥ = cc in z)
where_no x false o h = refl

unreferred : (x : ℕ) (e : Event) → is_counting_event e ≡ false → (shows (sign.Referenced x) e ≡ false) × (shows (sign.Dereferenced x) e ≡ false)
unreferred x (event.Did k c v) h =
    let both_ = either_false (same_call_kind c.kind call.WdfObjectReference) (same_call_kind c.kind call.WdfObjectDereference) h in
    (where_no x (same_call_kind c.kind call.WdfObjectReference) (argument_object c.a) both_.0, where_no x (same_call_kind c.kind call.WdfObjectDereference) (argument_object c.a) both_.1)
unreferred x _ h = (refl, refl)

other_event : {A : Type 0} (plan : Plan) (m : Meaning A) (es : List Event) (S : State A) (e : Event) → is_counting_event e ≡ false → Balanced es S → Balanced (es ++ e ∷ []) (after plan m S e)
other_event plan m es S e none k x there alive =
    let quiet = unreferred x e none in
    let same : references_of (after plan m S e).tree x ≡ references_of S.tree x = deeds_same plan (deeds plan S e) S (event_none plan S e none) x in
    step_of es e S (after plan m S e) x 0 0 (no_flag (shows (sign.Referenced x) e) quiet.0) (no_flag (shows (sign.Dereferenced x) e) quiet.1) (omega arith) (k x there (not_before es e x alive).0)

-- the end of an object
end_event : {A : Type 0} (plan : Plan) (m : Meaning A) (es : List Event) (S : State A) (o : Handle) → Balanced es S → Balanced (es ++ event.Destroy o ∷ []) (after plan m S (event.Destroy o))
end_event plan m es S o k x there alive =
    let parts = not_before es (event.Destroy o) x alive in
    let apart : x ≢ o.id.0 = λ e. let same_ : (o.id.0 == x) ≡ true = equal o.id.0 x (sym e) in let z : ⊥ = cc in z in
    let same : references_of (after plan m S (event.Destroy o)).tree x ≡ references_of S.tree x = ap (λ (n : Node). n.references) (entry_put_other gone S.tree.nodes o.id.0 x gone apart) in
    step_of es (event.Destroy o) S (after plan m S (event.Destroy o)) x 0 0 refl refl (omega arith) (k x there parts.0)

lt_of : (n : ℕ) → nat_lt 0 n ≡ true → 0 < n
lt_of n h = grind (arith, nat_tests)

-- an argument names an object, or it doesn't
named : (a : Arg) (x : ℕ) → x ≢ 0 → ((is_id x (argument_object a) ≡ true) × (x ≡ object_in a)) ⊎ ((is_id x (argument_object a) ≡ false) × (x ≢ object_in a))
named (Val (Obj h)) x there = elim (one_or_two x h.id.0) [
  | inl e ↦ inl (equal h.id.0 x (sym e), e)
  | inr n ↦ inr (not_equal h.id.0 x (λ e. n (sym e)), n)
]
named _ x there = inr (refl, there)

refer_event : {A : Type 0} (plan : Plan) (m : Meaning A) (es : List Event) (S : State A) (k : Cpu) (n : ℕ) (a b c : Arg) (v : Value)
    → may plan m S (event.Did k (record { kind = call.WdfObjectReference; count = n; a = a; b = b; c = c }) v) ≡ true
    → Balanced es S → Balanced (es ++ event.Did k (record { kind = call.WdfObjectReference; count = n; a = a; b = b; c = c }) v ∷ []) (after plan m S (event.Did k (record { kind = call.WdfObjectReference; count = n; a = a; b = b; c = c }) v))
refer_event {A} plan m es S k n a b c v h bal x there alive =
    let c_ : Call = record { kind = call.WdfObjectReference; count = n; a = a; b = b; c = c } in
    let d : IsDid plan S k.0 c_ v = did_tells plan m S k c_ v h in
    let moved : (after plan m S (event.Did k c_ v)).tree ≡ tree.reference S.tree (object_in a) = ap (λ (ds : List Deed). (do_deeds plan ds S).tree) (by_its_top S k.0 d.frame (did_deeds plan S k.0 c_ v) d.about.top) in
    let so_far = bal x there (not_before es (event.Did k c_ v) x alive).0 in
    elim (named a x there) [
      | inl p ↦
          let new : references_of (tree.reference S.tree (object_in a)) (object_in a) ≡ references_of S.tree (object_in a) + 1 = ap (λ (y : Node). y.references) (entry_put_same gone S.tree.nodes (object_in a) (record (node_of S.tree (object_in a)) { references = references_of S.tree (object_in a) + 1 })) in
          let at_x : references_of (after plan m S (event.Did k c_ v)).tree x ≡ references_of S.tree x + 1 = ap (λ (T : Tree). references_of T x) moved ∙ subst (λ y. references_of (tree.reference S.tree (object_in a)) y ≡ references_of S.tree y + 1) (sym p.1) new in
          step_of es (event.Did k c_ v) S (after plan m S (event.Did k c_ v)) x 1 0 (ap flag p.0) refl (omega arith) so_far
      | inr p ↦
          let at_x : references_of (after plan m S (event.Did k c_ v)).tree x ≡ references_of S.tree x = ap (λ (T : Tree). references_of T x) moved ∙ ap (λ (y : Node). y.references) (entry_put_other gone S.tree.nodes (object_in a) x (record (node_of S.tree (object_in a)) { references = references_of S.tree (object_in a) + 1 }) p.1) in
          step_of es (event.Did k c_ v) S (after plan m S (event.Did k c_ v)) x 0 0 (ap flag p.0) refl (omega arith) so_far
    ]

unrefer_event : {A : Type 0} (plan : Plan) (m : Meaning A) (es : List Event) (S : State A) (k : Cpu) (n : ℕ) (a b c : Arg) (v : Value)
    → may plan m S (event.Did k (record { kind = call.WdfObjectDereference; count = n; a = a; b = b; c = c }) v) ≡ true
    → Balanced es S → Balanced (es ++ event.Did k (record { kind = call.WdfObjectDereference; count = n; a = a; b = b; c = c }) v ∷ []) (after plan m S (event.Did k (record { kind = call.WdfObjectDereference; count = n; a = a; b = b; c = c }) v))
unrefer_event {A} plan m es S k n a b c v h bal x there alive =
    let c_ : Call = record { kind = call.WdfObjectDereference; count = n; a = a; b = b; c = c } in
    let d : IsDid plan S k.0 c_ v = did_tells plan m S k c_ v h in
    let moved : (after plan m S (event.Did k c_ v)).tree ≡ tree.dereference S.tree (object_in a) = ap (λ (ds : List Deed). (do_deeds plan ds S).tree) (by_its_top S k.0 d.frame (did_deeds plan S k.0 c_ v) d.about.top) in
    let fit : nat_lt 0 (references_of S.tree (object_in a)) ≡ true = both_left (nat_lt 0 (references_of S.tree (object_in a))) true (outcome_fits plan S k.0 d.frame call.WdfObjectDereference n a b c d.about.clean) in
    let held : 0 < references_of S.tree (object_in a) = lt_of (references_of S.tree (object_in a)) fit in
    let so_far = bal x there (not_before es (event.Did k c_ v) x alive).0 in
    elim (named a x there) [
      | inl p ↦
          let new : references_of (tree.dereference S.tree (object_in a)) (object_in a) ≡ references_of S.tree (object_in a) - 1 = ap (λ (y : Node). y.references) (entry_put_same gone S.tree.nodes (object_in a) (record (node_of S.tree (object_in a)) { references = references_of S.tree (object_in a) - 1 })) in
          let one : references_of (tree.dereference S.tree (object_in a)) (object_in a) + 1 ≡ references_of S.tree (object_in a) = omega arith in
          let at_x : references_of (after plan m S (event.Did k c_ v)).tree x + 1 ≡ references_of S.tree x = ap (λ (T : Tree). references_of T x + 1) moved ∙ subst (λ y. references_of (tree.dereference S.tree (object_in a)) y + 1 ≡ references_of S.tree y) (sym p.1) one in
          step_of es (event.Did k c_ v) S (after plan m S (event.Did k c_ v)) x 0 1 refl (ap flag p.0) (omega arith) so_far
      | inr p ↦
          let at_x : references_of (after plan m S (event.Did k c_ v)).tree x ≡ references_of S.tree x = ap (λ (T : Tree). references_of T x) moved ∙ ap (λ (y : Node). y.references) (entry_put_other gone S.tree.nodes (object_in a) x (record (node_of S.tree (object_in a)) { references = references_of S.tree (object_in a) - 1 }) p.1) in
          step_of es (event.Did k c_ v) S (after plan m S (event.Did k c_ v)) x 0 0 refl (ap flag p.0) (omega arith) so_far
    ]

abbrev DidKeeps : {A : Type 0} → Plan → Meaning A → List Event → State A → Cpu → CallKind → Type 0
DidKeeps plan m es S k kind_ = (n : ℕ) (a b c : Arg) (v : Value) → may plan m S (event.Did k (record { kind = kind_; count = n; a = a; b = b; c = c }) v) ≡ true → Balanced es S
    → Balanced (es ++ event.Did k (record { kind = kind_; count = n; a = a; b = b; c = c }) v ∷ []) (after plan m S (event.Did k (record { kind = kind_; count = n; a = a; b = b; c = c }) v))

did_by : {A : Type 0} (plan : Plan) (m : Meaning A) (es : List Event) (S : State A) (k : Cpu) (kind_ : CallKind) → DidKeeps plan m es S k kind_
did_by plan m es S k call.WdfObjectReference = refer_event plan m es S k
did_by plan m es S k call.WdfObjectDereference = unrefer_event plan m es S k
did_by plan m es S k _ = λ n a b c v h bal. other_event plan m es S (event.Did k (record { kind = _; count = n; a = a; b = b; c = c }) v) refl bal

-- a call that changes references doesn't wait
pub waits_not : {A : Type 0} (plan : Plan) (S : State A) (kind_ : CallKind) (n : ℕ) (a b c : Arg) → is_met_then plan S (record { kind = kind_; count = n; a = a; b = b; c = c }) ≡ false → is_reference_call kind_ ≡ false
waits_not plan S call.WdfObjectReference n a b c h = absurd (let z : ⊥ = cc in z)
waits_not plan S call.WdfObjectDereference n a b c h = absurd (let z : ⊥ = cc in z)
waits_not plan S _ n a b c h = refl

each_event : {A : Type 0} (plan : Plan) (m : Meaning A) (es : List Event) (S : State A) (e : Event) → may plan m S e ≡ true → Balanced es S → Balanced (es ++ e ∷ []) (after plan m S e)
each_event plan m es S (event.Did k c v) h bal = did_by plan m es S k c.kind c.count c.a c.b c.c v h bal
each_event plan m es S (event.Waiting k c) h bal = other_event plan m es S (event.Waiting k c) (waits_not plan S c.kind c.count c.a c.b c.c (waiting_tells plan m S k c h).unmet) bal
each_event plan m es S (event.Destroy o) h bal = end_event plan m es S o bal
each_event plan m es S (event.Start cpu c o r) h bal = other_event plan m es S (event.Start cpu c o r) refl bal
each_event plan m es S (event.Local cpu line) h bal = other_event plan m es S (event.Local cpu line) refl bal
each_event plan m es S (event.Log cpu v) h bal = other_event plan m es S (event.Log cpu v) refl bal
each_event plan m es S (event.Spend cpu n) h bal = other_event plan m es S (event.Spend cpu n) refl bal
each_event plan m es S (event.Register cpu a b v) h bal = other_event plan m es S (event.Register cpu a b v) refl bal
each_event plan m es S (event.Woke cpu c v) h bal = other_event plan m es S (event.Woke cpu c v) refl bal
each_event plan m es S (event.Park cpu f) h bal = other_event plan m es S (event.Park cpu f) refl bal
each_event plan m es S (event.Unpark cpu f) h bal = other_event plan m es S (event.Unpark cpu f) refl bal
each_event plan m es S (event.End cpu c o v) h bal = other_event plan m es S (event.End cpu c o v) refl bal
each_event plan m es S (event.Fault cpu f line) h bal = other_event plan m es S (event.Fault cpu f line) refl bal
each_event plan m es S (event.Stage d s i) h bal = other_event plan m es S (event.Stage d s i) refl bal
each_event plan m es S (event.Complete q s) h bal = other_event plan m es S (event.Complete q s) refl bal
each_event plan m es S (event.Cleanup o) h bal = other_event plan m es S (event.Cleanup o) refl bal
each_event plan m es S (event.Posted agent p answer) h bal = other_event plan m es S (event.Posted agent p answer) refl bal
each_event plan m es S (event.Tick t) h bal = other_event plan m es S (event.Tick t) refl bal

either_event : {A : Type 0} (plan : Plan) (m : Meaning A) (es : List Event) (S : State A) (offered : List Event) (e : Event) → (may plan m S e ≡ true) ⊎ IsTick m S offered e → Balanced es S → Balanced (es ++ e ∷ []) (after plan m S e)
either_event plan m es S offered e (inl h) bal = each_event plan m es S e h bal
either_event plan m es S offered e (inr t) bal = subst (λ y. Balanced (es ++ y ∷ []) (after plan m S y)) (sym t.tick) (other_event plan m es S (event.Tick (S.clock + 1)) refl bal)

none_held : (ds : List Declared) (x : ℕ) → (entry gone (map declared_node ds) x).references ≡ 0
none_held [] x = refl
none_held (d ∷ ds) zero = refl
none_held (d ∷ ds) (suc x) = none_held ds x

none_at_opening : (plan : Plan) (x : ℕ) → references_of (opening_tree plan) x ≡ 0
none_at_opening plan zero = refl
none_at_opening plan (suc x) = none_held plan.declared x

balance_opens : {A : Type 0} (plan : Plan) (m : Meaning A) → Balanced [] (state_after plan m [])
unfolding state_after times
balance_opens plan m x there alive = let none = none_at_opening plan x in omega arith

balanced_at_each : {A : Type 0} (plan : Plan) (m : Meaning A) (run : List Event) → IsRunOf plan m run → (n : ℕ) → Balanced (take n run) (state_after plan m (take n run))
balanced_at_each plan m run is_run n = along_run (λ es. Balanced es (state_after plan m es)) (ready plan m) run (balance_opens plan m)
    (λ before e place _ held at. subst (λ T. Balanced (before ++ e ∷ []) T) (sym (state_goes_on plan m before e))
    (either_event plan m before (state_after plan m before) (ready plan m before) e (follows plan m before place e at) held))
    is_run n

-- the id 0 is no object's
no_object : {A : Type 0} (plan : Plan) (m : Meaning A) (run : List Event) → IsRunOf plan m run → (n : ℕ) → Past is_gone (λ x. x == 0) (state_after plan m (take n run)).tree
no_object {A} plan m run is_run n = each_place plan m (λ (S : State A). Past is_gone (λ x. x == 0) S.tree)
    (λ x h. let zero_ : x ≡ 0 = eqb-true x 0 h in rw zero_ (refl, omega arith))
    (λ S e known may_ q. keep_deeds plan (λ (U : State A). Past is_gone (λ x. x == 0) U.tree) (deed_keeps is_gone (λ x. x == 0) (record { live = refl; asked = refl; gone = refl }) plan) (deeds plan S e) S (event_fits plan m S e may_) q)
    (λ S time q. q) run is_run n

none_left : {A : Type 0} (plan : Plan) (m : Meaning A) (S : State A) (o : Handle) → may plan m S (event.Destroy o) ≡ true → (references_of S.tree o.id.0 == 0) ≡ true
none_left plan m S o h = search (both_left, both_right)

pub ends_balanced : {A : Type 0} (plan : Plan) (m : Meaning A) (run : List Event) (k : ℕ) (o : Handle) → IsRunOf plan m run → slice_get run k ≡ Some (event.Destroy o)
    → times (sign.Dereferenced o.id.0) (take k run) ≡ times (sign.Referenced o.id.0) (take k run)
ends_balanced plan m run k o is_run at =
    let h : may plan m (state_after plan m (take k run)) (event.Destroy o) ≡ true = comes plan m run k (event.Destroy o) is_run at (λ time e. let z : ⊥ = cc in z) in
    let clean : is_cleaned (life_of (state_after plan m (take k run)).tree o.id.0) ≡ true = ends plan m (state_after plan m (take k run)) o h in
    let there : o.id.0 ≢ 0 = λ e. let g : is_gone (life_of (state_after plan m (take k run)).tree o.id.0) ≡ true = (no_object plan m run is_run k o.id.0 (equal o.id.0 0 e)).0 in let n : is_gone (life_of (state_after plan m (take k run)).tree o.id.0) ≡ false = cleaned_there (life_of (state_after plan m (take k run)).tree o.id.0) clean in let z : ⊥ = cc in z in
    let none : references_of (state_after plan m (take k run)).tree o.id.0 ≡ 0 = eqb-true (references_of (state_after plan m (take k run)).tree o.id.0) 0 (none_left plan m (state_after plan m (take k run)) o h) in
    let bal = balanced_at_each plan m run is_run k o.id.0 there (ends_once plan m run k o is_run at) in
    omega arith
