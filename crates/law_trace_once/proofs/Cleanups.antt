-- What is cleaned had its cleanup: at each place of every run.
use Rattle.std.proofs.Common.{◌≡◌, ℕ, ◌+◌, ◌-◌, Bool, true, false, not, List, [], ◌∷◌, ◌++◌, inl, inr, Some, fold, slice_get, slice_set, take, refl, sym, ap, subst, ◌∙◌}
use Rattle.wdf_base.specs.Meaning.{Meaning}
use Rattle.wdf_base.specs.declared.ids.Handle.{Handle}
use Rattle.wdf_base.specs.declared.plan.Plan.{Plan}
use Rattle.wdf_base.specs.declared.event.Event.{Event}
use Rattle.wdf_base.specs.declared.event.Event.TheVariants as event
use Rattle.wdf_base.specs.declared.object.Kind.{Kind}
use Rattle.wdf_base.specs.declared.object.Kind.TheVariants as kind
use Rattle.wdf_base.specs.declared.object.Life.TheVariants as life
use Rattle.wdf_base.specs.Lives.{is_cleaned, is_live}
use Rattle.wdf_model.specs.declared.entries.Node.{Node}
use Rattle.wdf_model.specs.parts.Tree.{Tree, gone, life_of, node_of, noted, subtree, with_life, with_node}
use Rattle.wdf_model.specs.parts.Tree as tree
use Rattle.wdf_model.specs.parts.Requests as requests
use Rattle.wdf_model.specs.State.{State}
use Rattle.wdf_model.specs.declared.deed.Deed.{Deed}
use Rattle.wdf_model.specs.declared.deed.Deed.TheVariants.{Create, MakeRequest, Arrive, AskDeletion, Refer, Unrefer, WriteCell, Note, CleanUp, EndLife, CompleteRequest}
use Rattle.wdf_model.specs.rules.Deeds.{ask_object, do_deed, do_deeds, give_up}
use Rattle.wdf_model.specs.rules.Steps.{after, deeds, may}
use Rattle.wdf_model.specs.rules.Ready.{IsRunOf, ready, state_after}
use Rattle.wdf_model.proofs.Runs.{along_run}
use Rattle.law_machine_base.proofs.Follows.{state_goes_on}
use Rattle.wdf_model.proofs.Tests.{both_left, both_right, first, not_true, second}
use Rattle.wdf_model.proofs.Maps.{entry_put_other, entry_put_same}
use Rattle.wdf_model.proofs.Counts.{equal, one_or_two}
use Rattle.law_machine_base.proofs.Deletion.{object_live, object_off}
use Rattle.law_machine_lives.proofs.Stays.{gives_up}
use Rattle.law_machine_lives.proofs.Lists.{reads_same}
use Rattle.wdf_laws.specs.declared.sign.Sign.TheVariants as sign
use Rattle.wdf_laws.specs.Signs.{shows}
use Rattle.wdf_laws.specs.Words.{ever}
use Rattle.law_machine_lives.proofs.Readers.{tree_of}
use Rattle.law_machine_lives.proofs.Lives.{noted_life}
use Rattle.law_machine_lives.proofs.CleanedOver.{live_uncleaned, none_cleaned, unmade}
use Rattle.law_machine_lives.proofs.Keeping.{comes}
use Rattle.law_machine_lives.proofs.PartsStay.{tree_stays}
use Rattle.law_trace_once.proofs.Words.{ever_next}
use Rattle.law_machine_deeds.specs.MayDo.{is_cleanup}
use Rattle.law_trace_once.proofs.Untouched.{cleans, event_none, none_cleans}
use Rattle.law_trace_once.proofs.Ends.{ends}
use Rattle.law_machine_counts.proofs.Arrived.{arrived_tree}

-- C is true of each object that is cleaned
abbrev pub Seen : (ℕ → Bool) → Tree → Type 0
Seen C T = (x : ℕ) → is_cleaned (life_of T x) ≡ true → C x ≡ true

object_changes : (C : ℕ → Bool) (T : Tree) (o : ℕ) (f : Node → Node) → is_cleaned (f (node_of T o)).life ≡ is_cleaned (life_of T o) → Seen C T → Seen C (with_node T o f)
object_changes C T o f same k x h = k x (sym (reads_same (λ n. is_cleaned n.life) T o f same x) ∙ h)

object_made : (C : ℕ → Bool) (T : Tree) (k : Kind) (class parent : ℕ) → Seen C T → Seen C (tree.create T k class parent)
object_made C T k class parent q x h = q x (sym (unmade T k class parent x) ∙ h)

asked_one : {A : Type 0} (C : ℕ → Bool) (S : State A) (x : ℕ) (b : Bool) → is_live (life_of S.tree x) ≡ b → Seen C S.tree → Seen C (ask_object S x).tree
asked_one {A} C S x true e q = subst (λ (U : State A). Seen C U.tree) (sym (object_live S x e)) (object_changes C S.tree x (with_life life.Asked) (sym (live_uncleaned (life_of S.tree x) e)) q)
asked_one {A} C S x false e q = subst (λ (U : State A). Seen C U.tree) (sym (object_off S x e)) q

all_asked : {A : Type 0} (C : ℕ → Bool) (xs : List ℕ) (S : State A) → Seen C S.tree → Seen C (fold ask_object S xs).tree
all_asked C [] S q = q
all_asked C (x ∷ xs) S q = all_asked C xs (ask_object S x) (asked_one C S x (is_live (life_of S.tree x)) refl q)

ended : (C : ℕ → Bool) (T : Tree) (o : ℕ) → Seen C T → Seen C (tree.destroy T o)
ended C T o q x h = elim (one_or_two x o) [
  | inl e ↦ absurd (let here : is_cleaned (life_of (tree.destroy T o) x) ≡ false = rw e (ap (λ (n : Node). is_cleaned n.life) (entry_put_same gone T.nodes o gone)) in let z : ⊥ = cc in z)
  | inr n ↦ q x (sym (ap (λ (m : Node). is_cleaned m.life) (entry_put_other gone T.nodes o x gone n)) ∙ h)
]

same_tree : (C : ℕ → Bool) (T U : Tree) → U ≡ T → Seen C T → Seen C U
same_tree C T U e q = subst (Seen C) (sym e) q

deed_keeps : {A : Type 0} (C : ℕ → Bool) (plan : Plan) (d : Deed) (S : State A) → cleans d ≡ false → Seen C S.tree → Seen C (do_deed plan d S).tree
deed_keeps C plan (Create k class parent) S f q = object_made C S.tree k class parent.0 q
deed_keeps C plan (MakeRequest class parent) S f q = object_made C S.tree kind.Made class parent.0 q
deed_keeps C plan (Arrive device info p) S f q = same_tree C _ _ (arrived_tree S device.0 info p) (object_made C S.tree kind.Request 0 device.0 q)
deed_keeps C plan (AskDeletion o) S f q = all_asked C (subtree S.tree o.0) S q
deed_keeps C plan (Refer o) S f q = object_changes C S.tree o.0 (λ n. record n { references = n.references + 1 }) refl q
deed_keeps C plan (Unrefer o) S f q = object_changes C S.tree o.0 (λ n. record n { references = n.references - 1 }) refl q
deed_keeps C plan (WriteCell o k v) S f q = object_changes C S.tree o.0 (λ n. record n { cells = slice_set n.cells k v }) refl q
deed_keeps C plan (Note o c) S f q = object_changes C S.tree o.0 (noted c) (ap is_cleaned (noted_life c (node_of S.tree o.0))) q
deed_keeps C plan (CleanUp o) S f q = absurd (let z : ⊥ = cc in z)
deed_keeps C plan (EndLife o) S f q = ended C S.tree o.0 q
deed_keeps C plan (CompleteRequest r) S f q =
    all_asked C (subtree (give_up S r.0).tree r.0) (record (give_up S r.0) { requests = requests.complete S.requests r.0 }) (same_tree C _ _ (gives_up tree_of (λ S Q R P. refl) S r.0) q)
deed_keeps C plan d S f q = same_tree C _ _ (tree_stays plan d S refl) q

deeds_keep : {A : Type 0} (C : ℕ → Bool) (plan : Plan) (ds : List Deed) (S : State A) → none_cleans ds ≡ true → Seen C S.tree → Seen C (do_deeds plan ds S).tree
deeds_keep C plan [] S n q = q
deeds_keep C plan (d ∷ ds) S n q =
    deeds_keep C plan ds (do_deed plan d S) (both_right (not (cleans d)) (none_cleans ds) n)
    (deed_keeps C plan d S (not_true (cleans d) (both_left (not (cleans d)) (none_cleans ds) n)) q)

-- ---- each place of a run

more_told : (C D : ℕ → Bool) (T : Tree) → ((x : ℕ) → C x ≡ true → D x ≡ true) → Seen C T → Seen D T
more_told C D T more k x h = more x (k x h)

told_still : (es : List Event) (e : Event) (x : ℕ) → ever (sign.Cleaned x) es ≡ true → ever (sign.Cleaned x) (es ++ e ∷ []) ≡ true
told_still es e x h = ever_next (sign.Cleaned x) es e ∙ first (ever (sign.Cleaned x) es) (shows (sign.Cleaned x) e) h

told_now : (es : List Event) (e : Event) (x : ℕ) → shows (sign.Cleaned x) e ≡ true → ever (sign.Cleaned x) (es ++ e ∷ []) ≡ true
told_now es e x h = ever_next (sign.Cleaned x) es e ∙ second (ever (sign.Cleaned x) es) (shows (sign.Cleaned x) e) h

abbrev pub AllSeen : {A : Type 0} → List Event → State A → Type 0
AllSeen es S = Seen (λ x. ever (sign.Cleaned x) es) S.tree

cleanup_seen : {A : Type 0} (plan : Plan) (m : Meaning A) (es : List Event) (S : State A) (o : Handle) → AllSeen es S → AllSeen (es ++ event.Cleanup o ∷ []) (after plan m S (event.Cleanup o))
cleanup_seen plan m es S o k x h = elim (one_or_two x o.id.0) [
  | inl e ↦ told_now es (event.Cleanup o) x (equal o.id.0 x (sym e))
  | inr n ↦ told_still es (event.Cleanup o) x (k x (sym (ap (λ (a : Node). is_cleaned a.life) (entry_put_other gone S.tree.nodes o.id.0 x (with_life life.Cleaned (node_of S.tree o.id.0)) n)) ∙ h))
]

other_seen : {A : Type 0} (plan : Plan) (m : Meaning A) (es : List Event) (S : State A) (e : Event) → is_cleanup e ≡ false → AllSeen es S → AllSeen (es ++ e ∷ []) (after plan m S e)
other_seen plan m es S e none k =
    more_told (λ x. ever (sign.Cleaned x) es) (λ x. ever (sign.Cleaned x) (es ++ e ∷ [])) (after plan m S e).tree (told_still es e)
    (deeds_keep (λ x. ever (sign.Cleaned x) es) plan (deeds plan S e) S (event_none plan S e none) k)

each_seen : {A : Type 0} (plan : Plan) (m : Meaning A) (es : List Event) (S : State A) (e : Event) → AllSeen es S → AllSeen (es ++ e ∷ []) (after plan m S e)
each_seen plan m es S (event.Cleanup o) k = cleanup_seen plan m es S o k
each_seen plan m es S (event.Start cpu c o r) k = other_seen plan m es S (event.Start cpu c o r) refl k
each_seen plan m es S (event.Local cpu line) k = other_seen plan m es S (event.Local cpu line) refl k
each_seen plan m es S (event.Log cpu v) k = other_seen plan m es S (event.Log cpu v) refl k
each_seen plan m es S (event.Spend cpu n) k = other_seen plan m es S (event.Spend cpu n) refl k
each_seen plan m es S (event.Register cpu a b v) k = other_seen plan m es S (event.Register cpu a b v) refl k
each_seen plan m es S (event.Did cpu c v) k = other_seen plan m es S (event.Did cpu c v) refl k
each_seen plan m es S (event.Waiting cpu c) k = other_seen plan m es S (event.Waiting cpu c) refl k
each_seen plan m es S (event.Woke cpu c v) k = other_seen plan m es S (event.Woke cpu c v) refl k
each_seen plan m es S (event.Park cpu f) k = other_seen plan m es S (event.Park cpu f) refl k
each_seen plan m es S (event.Unpark cpu f) k = other_seen plan m es S (event.Unpark cpu f) refl k
each_seen plan m es S (event.End cpu c o v) k = other_seen plan m es S (event.End cpu c o v) refl k
each_seen plan m es S (event.Fault cpu f line) k = other_seen plan m es S (event.Fault cpu f line) refl k
each_seen plan m es S (event.Stage d s i) k = other_seen plan m es S (event.Stage d s i) refl k
each_seen plan m es S (event.Complete q s) k = other_seen plan m es S (event.Complete q s) refl k
each_seen plan m es S (event.Destroy o) k = other_seen plan m es S (event.Destroy o) refl k
each_seen plan m es S (event.Posted agent p answer) k = other_seen plan m es S (event.Posted agent p answer) refl k
each_seen plan m es S (event.Tick t) k = other_seen plan m es S (event.Tick t) refl k

seen_opens : {A : Type 0} (plan : Plan) (m : Meaning A) → AllSeen [] (state_after plan m [])
unfolding state_after
seen_opens plan m x h = absurd (let never = none_cleaned plan x in let z : ⊥ = cc in z)

pub seen_at_each : {A : Type 0} (plan : Plan) (m : Meaning A) (run : List Event) → IsRunOf plan m run → (n : ℕ) → AllSeen (take n run) (state_after plan m (take n run))
seen_at_each plan m run is_run n = along_run (λ es. AllSeen es (state_after plan m es)) (ready plan m) run (seen_opens plan m)
    (λ before e place _ held at. subst (λ T. AllSeen (before ++ e ∷ []) T) (sym (state_goes_on plan m before e)) (each_seen plan m before (state_after plan m before) e held))
    is_run n

pub ends_after_cleanup : {A : Type 0} (plan : Plan) (m : Meaning A) (run : List Event) (k : ℕ) (o : Handle) → IsRunOf plan m run → slice_get run k ≡ Some (event.Destroy o) → ever (sign.Cleaned o.id.0) (take k run) ≡ true
ends_after_cleanup plan m run k o is_run at =
    let h : may plan m (state_after plan m (take k run)) (event.Destroy o) ≡ true = comes plan m run k (event.Destroy o) is_run at (λ time e. let z : ⊥ = cc in z) in
    seen_at_each plan m run is_run k o.id.0 (ends plan m (state_after plan m (take k run)) o h)
