-- What an event leaves of objects: what is there after it was there before, with the same parent, kind and class, or is new.
use Rattle.std.proofs.Common.{◌≡◌, ◌≢◌, ℕ, ◌+◌, ◌-◌, ◌<◌, ◌≤◌, Bool, true, false, List, [], ◌∷◌, inl, inr, length, fold, slice_set, refl, sym, ap, subst, ◌∙◌, arith, length-append}
use Rattle.wdf_base.specs.Meaning.{Meaning}
use Rattle.wdf_base.specs.declared.plan.Plan.{Plan}
use Rattle.wdf_base.specs.declared.object.Kind.{Kind}
use Rattle.wdf_base.specs.declared.object.Kind.TheVariants as kind
use Rattle.wdf_base.specs.declared.object.Life.TheVariants as life
use Rattle.wdf_base.specs.declared.call.Callback.{Callback}
use Rattle.wdf_base.specs.declared.call.Callback.TheVariants as callback
use Rattle.wdf_base.specs.declared.event.Event.{Event}
use Rattle.wdf_base.specs.Lives.{is_asked, is_gone, is_live}
use Rattle.wdf_model.specs.declared.entries.Node.{Node}
use Rattle.wdf_model.specs.parts.Tree.{Tree, class_of, gone, kind_of, life_of, new_node, next_id, node_of, noted, parent_of, subtree, with_life, with_node}
use Rattle.wdf_model.specs.parts.Tree as tree
use Rattle.wdf_model.specs.parts.Requests as requests
use Rattle.wdf_model.specs.State.{State}
use Rattle.wdf_model.specs.declared.deed.Deed.{Deed}
use Rattle.wdf_model.specs.declared.deed.Deed.TheVariants.{Create, MakeRequest, Arrive, AskDeletion, Refer, Unrefer, WriteCell, Note, CleanUp, EndLife, CompleteRequest}
use Rattle.wdf_model.specs.rules.Deeds.{ask_object, do_deed, give_up}
use Rattle.wdf_model.specs.rules.Steps.{after, deeds, may}
use Rattle.law_machine_base.specs.Fits.{fits}
use Rattle.wdf_model.proofs.Tests.{both_left}
use Rattle.wdf_model.proofs.Maps.{entry_before, entry_put_other, entry_put_same, put_long}
use Rattle.wdf_model.proofs.Counts.{one_or_two}
use Rattle.law_machine_base.proofs.Deletion.{object_live, object_off}
use Rattle.law_machine_base.proofs.FitsOfEvents.{event_fits}
use Rattle.law_machine_counts.proofs.StillFrames.{asked_there, live_there}
use Rattle.law_machine_lives.proofs.Keeping.{deeds_keep}
use Rattle.law_machine_lives.proofs.Stays.{gives_up}
use Rattle.law_machine_lives.proofs.Lists.{reads_same}
use Rattle.law_machine_lives.proofs.Readers.{tree_of}
use Rattle.law_machine_lives.proofs.PartsStay.{tree_stays}
use Rattle.law_machine_counts.proofs.Arrived.{arrived_tree}

-- an object was there, with the parent, the kind and the class that it has
pub record WasAt (T U : Tree) (x : ℕ) : Type 0 where
  pub there : is_gone (life_of T x) ≡ false
  pub parent : parent_of U x ≡ parent_of T x
  pub kind : kind_of U x ≡ kind_of T x
  pub class : class_of U x ≡ class_of T x

pub record Stays (T U : Tree) : Type 0 where
  pub longer : length T.nodes ≤ length U.nodes
  pub was : (x : ℕ) → x < length T.nodes → is_gone (life_of U x) ≡ false → WasAt T U x

pub stays_same : (T U : Tree) → U ≡ T → Stays T U
stays_same T U e = subst (λ (V : Tree). Stays T V) (sym e) (record { longer = omega arith; was = λ x w h. record { there = h; parent = refl; kind = refl; class = refl } })

stays_then : (T U V : Tree) → Stays T U → Stays U V → Stays T V
stays_then T U V a b = record {
  longer = let l = a.longer in let k = b.longer in omega arith;
  was = λ x w h.
      let l = a.longer in
      let q : WasAt U V x = b.was x (omega arith) h in
      let p : WasAt T U x = a.was x w q.there in
      record { there = p.there; parent = q.parent ∙ p.parent; kind = q.kind ∙ p.kind; class = q.class ∙ p.class };
}

changes : (T : Tree) (o : ℕ) (f : Node → Node) → is_gone (f (node_of T o)).life ≡ is_gone (life_of T o) → (f (node_of T o)).parent.0 ≡ parent_of T o → (f (node_of T o)).kind ≡ kind_of T o → (f (node_of T o)).class ≡ class_of T o → Stays T (with_node T o f)
changes T o f lives parents kinds classes = record {
  longer = put_long gone T.nodes o (f (node_of T o));
  was = λ x w h. record {
    there = sym (reads_same (λ n. is_gone n.life) T o f lives x) ∙ h;
    parent = reads_same (λ n. n.parent.0) T o f parents x;
    kind = reads_same (λ n. n.kind) T o f kinds x;
    class = reads_same (λ n. n.class) T o f classes x;
  };
}

made : (T : Tree) (k : Kind) (class parent : ℕ) → Stays T (tree.create T k class parent)
made T k class parent = record {
  longer = let e = length-append T.nodes (new_node k class parent ∷ []) in omega arith;
  was = λ x w h.
      let apart : x ≢ next_id T = λ e. let z : ⊥ = omega arith in z in
      let same : node_of (tree.create T k class parent) x ≡ node_of T x = entry_before gone T.nodes (new_node k class parent) x apart in
      record { there = sym (ap (λ (n : Node). is_gone n.life) same) ∙ h; parent = ap (λ (n : Node). n.parent.0) same; kind = ap (λ (n : Node). n.kind) same; class = ap (λ (n : Node). n.class) same };
}

ended : (T : Tree) (o : ℕ) → Stays T (tree.destroy T o)
ended T o = record {
  longer = put_long gone T.nodes o gone;
  was = λ x w h. elim (one_or_two x o) [
    | inl e ↦ absurd (let off : is_gone (life_of (tree.destroy T o) x) ≡ true = rw e (ap (λ (n : Node). is_gone n.life) (entry_put_same gone T.nodes o gone)) in let z : ⊥ = cc in z)
    | inr n ↦
        let same : node_of (tree.destroy T o) x ≡ node_of T x = entry_put_other gone T.nodes o x gone n in
        record { there = sym (ap (λ (n : Node). is_gone n.life) same) ∙ h; parent = ap (λ (n : Node). n.parent.0) same; kind = ap (λ (n : Node). n.kind) same; class = ap (λ (n : Node). n.class) same }
  ];
}

asked_one : {A : Type 0} (S : State A) (x : ℕ) (b : Bool) → is_live (life_of S.tree x) ≡ b → Stays S.tree (ask_object S x).tree
asked_one {A} S x true e = subst (λ (U : State A). Stays S.tree U.tree) (sym (object_live S x e)) (changes S.tree x (with_life life.Asked) (sym (live_there (life_of S.tree x) e)) refl refl refl)
asked_one {A} S x false e = stays_same S.tree (ask_object S x).tree (ap (λ (U : State A). U.tree) (object_off S x e))

all_asked : {A : Type 0} (xs : List ℕ) (S : State A) → Stays S.tree (fold ask_object S xs).tree
all_asked [] S = stays_same S.tree S.tree refl
all_asked (x ∷ xs) S = stays_then S.tree (ask_object S x).tree (fold ask_object (ask_object S x) xs).tree (asked_one S x (is_live (life_of S.tree x)) refl) (all_asked xs (ask_object S x))

noted_kept : (c : Callback) (n : Node) → ((noted c n).life ≡ n.life) × ((noted c n).parent.0 ≡ n.parent.0) × ((noted c n).kind ≡ n.kind) × ((noted c n).class ≡ n.class)
noted_kept callback.EvtDestroyCallback n = (refl, refl, refl, refl)
noted_kept _ n = (refl, refl, refl, refl)

pub deed_stays : {A : Type 0} (plan : Plan) (d : Deed) (S : State A) → fits plan d S ≡ true → Stays S.tree (do_deed plan d S).tree
deed_stays plan (Create k class parent) S f = made S.tree k class parent.0
deed_stays plan (MakeRequest class parent) S f = made S.tree kind.Made class parent.0
deed_stays plan (Arrive device info p) S f = subst (λ (V : Tree). Stays S.tree V) (sym (arrived_tree S device.0 info p)) (made S.tree kind.Request 0 device.0)
deed_stays plan (AskDeletion o) S f = all_asked (subtree S.tree o.0) S
deed_stays plan (Refer o) S f = changes S.tree o.0 (λ m. record m { references = m.references + 1 }) refl refl refl refl
deed_stays plan (Unrefer o) S f = changes S.tree o.0 (λ m. record m { references = m.references - 1 }) refl refl refl refl
deed_stays plan (WriteCell o k v) S f = changes S.tree o.0 (λ m. record m { cells = slice_set m.cells k v }) refl refl refl refl
deed_stays plan (Note o c) S f = let k = noted_kept c (node_of S.tree o.0) in changes S.tree o.0 (noted c) (ap is_gone k.0) k.1 k.2 k.3
deed_stays plan (CleanUp o) S f =
    let asked : is_asked (life_of S.tree o.0) ≡ true = search both_left in
    changes S.tree o.0 (with_life life.Cleaned) (sym (asked_there (life_of S.tree o.0) asked)) refl refl refl
deed_stays plan (EndLife o) S f = ended S.tree o.0
deed_stays plan (CompleteRequest r) S f =
    stays_then S.tree (give_up S r.0).tree _ (stays_same _ _ (gives_up tree_of (λ S Q R P. refl) S r.0))
    (all_asked (subtree (give_up S r.0).tree r.0) (record (give_up S r.0) { requests = requests.complete S.requests r.0 }))
deed_stays plan d S f = stays_same _ _ (tree_stays plan d S refl)

-- an event that may come leaves what was there, or ends it
pub event_stays : {A : Type 0} (plan : Plan) (m : Meaning A) (S : State A) (e : Event) → may plan m S e ≡ true → Stays S.tree (after plan m S e).tree
event_stays {A} plan m S e h =
    deeds_keep plan (λ (U : State A). Stays S.tree U.tree) (λ d U f k. stays_then S.tree U.tree (do_deed plan d U).tree k (deed_stays plan d U f)) (deeds plan S e) S (event_fits plan m S e h)
    (stays_same S.tree S.tree refl)
