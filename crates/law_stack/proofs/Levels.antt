-- A request at any level below another is completed at most once, and once where its device was destroyed.
use Rattle.std.proofs.Common.{◌≡◌, ℕ, zero, suc, ◌==◌, ◌<◌, ◌≤◌, Bool, true, not, ◌||◌, List, [], ◌∷◌, ◌++◌, take, drop, count_by, Some, None, slice_get, sym, ap, subst, ◌∙◌, arith}
use Rattle.std.specs.List.{list_any}
use Rattle.std.proofs.lemmas.Bool.{eqb-true}
use Rattle.std.proofs.lemmas.List.{take-append-drop}
use Rattle.wdf_base.specs.Meaning.{Meaning}
use Rattle.wdf_base.specs.declared.plan.Plan.{Plan}
use Rattle.wdf_base.specs.declared.ids.Handle.{Handle}
use Rattle.wdf_base.specs.declared.event.Post.{Post}
use Rattle.wdf_base.specs.declared.event.Post.TheVariants as post
use Rattle.wdf_base.specs.declared.event.Event.{Event}
use Rattle.wdf_base.specs.declared.event.Event.TheVariants as event
use Rattle.wdf_model.specs.rules.Ready.{IsRunOf}
use Rattle.wdf_model.proofs.Tests.{both_right, itself}
use Rattle.wdf_model.proofs.Counts.{count_behind}
use Rattle.law_machine_base.specs.OverRuns.{completes}
use Rattle.law_machine_base.proofs.LawsOverRuns.{completed_once}
use Rattle.wdf_laws.specs.declared.sign.Sign.TheVariants as sign
use Rattle.wdf_laws.specs.Events.{brought_to}
use Rattle.wdf_laws.specs.Laws.{completes_once, ends_after_requests, is_settled}
use Rattle.wdf_laws.specs.Signs.{shows}
use Rattle.wdf_laws.specs.Words.{ever}
use Rattle.law_trace_once.proofs.Completions.{completion_completes}
use Rattle.law_trace_once.proofs.Words.{any_weaker, ever_is, found_counts}
use Rattle.law_trace_families.proofs.Drained.{law_1_at_each}
use Rattle.law_stack.specs.Descents.{GoesDown, arrives_at}
use Rattle.law_machine_lives.proofs.Lists.{all_at}

at_front : {T : Type 0} (xs : List T) (n k : ℕ) (x : T) → k < n → slice_get xs k ≡ Some x → slice_get (take n xs) k ≡ Some x
at_front xs zero k x l h = absurd (omega (arith, l))
at_front [] (suc n) k x l h = h
at_front (y ∷ ys) (suc n) zero x l h = h
at_front (y ∷ ys) (suc n) (suc k) x l h = at_front ys n k x (omega (arith, l)) h

front_counts : {T : Type 0} (p : T → Bool) (xs : List T) (n : ℕ) → count_by p (take n xs) ≤ count_by p xs
front_counts p xs n =
    let joined = count_behind p (take n xs) (drop n xs) in
    let whole : count_by p (take n xs ++ drop n xs) ≡ count_by p xs = ap (count_by p) (take-append-drop n xs) in
    omega (arith, joined, whole)

brought : (p : Post) (d : ℕ) → arrives_at p d ≡ true → brought_to p ≡ Some d
brought (post.Read device n) d h = ap Some (eqb-true device.id.0 d h)
brought (post.Write device n) d h = ap Some (eqb-true device.id.0 d h)
brought (post.Control device c n) d h = ap Some (eqb-true device.id.0 d h)
brought (post.Cancel k) d h = absurd (let z : ⊥ = cc in z)
brought (post.Ask a x) d h = absurd (let z : ⊥ = cc in z)
brought (post.Act a) d h = absurd (let z : ⊥ = cc in z)
brought (post.Done r s) d h = absurd (let z : ⊥ = cc in z)

settled_is : (before : List Event) (d : ℕ) (agent : ℕ) (p : Post) (x : Handle) → brought_to p ≡ Some d → is_settled before d (event.Posted agent p (Some x)) ≡ true → ever (sign.Completion x.id.0) before ≡ true
settled_is before d agent p x to h =
    let on : (d == d) ≡ true = itself d in
    let it : (not (d == d) || ever (sign.Completion x.id.0) before) ≡ true = rw to at h in
    rw on at it

module _ {A : Type 0} (plan : Plan) (m : Meaning A) (run : List Event) (is_run : IsRunOf plan m run) where
  pub once_at_most : (x : ℕ) → count_by (completes x) run ≤ 1
  once_at_most x = (completed_once plan m run is_run).once x

  pub once_where_destroyed : (r x j : ℕ) (d : Handle) (down : GoesDown plan run r x) → arrives_at down.post d.id.0 ≡ true → down.place < j → slice_get run j ≡ Some (event.Destroy d) → count_by (completes x) run ≡ 1
  once_where_destroyed r x j d down at early end =
      let law = both_right (completes_once (take j run) None) (ends_after_requests (take j run) (Some d.id.0)) (law_1_at_each plan m run j (event.Destroy d) is_run end) in
      let here = at_front run j down.place (event.Posted down.agent down.post (Some down.made)) early down.event in
      let settled = all_at (is_settled (take j run) d.id.0) (take j run) down.place (event.Posted down.agent down.post (Some down.made)) law here in
      let done = settled_is (take j run) d.id.0 down.agent down.post down.made (brought down.post d.id.0 at) settled in
      let shown : list_any (shows (sign.Completion down.made.id.0)) (take j run) ≡ true = sym (ever_is (sign.Completion down.made.id.0) (take j run)) ∙ done in
      let completed = any_weaker (shows (sign.Completion down.made.id.0)) (completes down.made.id.0) (completion_completes down.made.id.0) (take j run) shown in
      let counted : 1 ≤ count_by (completes x) (take j run) = subst (λ y. 1 ≤ count_by (completes y) (take j run)) down.is_made (found_counts (completes down.made.id.0) (take j run) completed) in
      let more = front_counts (completes x) run j in
      let most = once_at_most x in
      omega (arith, counted, more, most)
