-- What the events say of an object, one event more.
use Rattle.std.proofs.Common.{◌≡◌, ℕ, suc, ◌+◌, ◌<◌, Bool, true, false, cond, if◌then◌else◌, List, [], ◌∷◌, ◌++◌, length, get_or, take, slice_get, find, Option, Some, None, option_and_then, refl, sym, ap, ◌∙◌, arith}
use Rattle.std.proofs.lemmas.Option.{slice_get-get_or}
use Rattle.wdf_base.specs.declared.plan.Plan.{Plan}
use Rattle.wdf_base.specs.declared.event.Event.{Event}
use Rattle.wdf_laws.specs.declared.sign.Told.{Told}
use Rattle.wdf_laws.specs.Events.{told}
use Rattle.wdf_laws.specs.Family.{is_told, tells_of, first_told}
use Rattle.wdf_model.proofs.Runs.{take_next}
use Rattle.check_past.specs.Kin.{with_told}

kept_told : (o : ℕ) (t kept : Option Told) → is_told o kept ≡ true → kept ≡ with_told o t kept
kept_told o t None h = absurd (let z : ⊥ = cc in z)
kept_told o t (Some x) h = refl

new_told : (plan : Plan) (o : ℕ) (e : Event) (b : Bool) → is_told o (told plan e) ≡ b → option_and_then (told plan) (cond b (Some e) None) ≡ (if b then told plan e else None)
new_told plan o e true h = refl
new_told plan o e false h = refl

told_case : (plan : Plan) (o : ℕ) (x : Event) (rest rest' : Option Event) (t : Option Told) (b : Bool) → is_told o (told plan x) ≡ b
    → option_and_then (told plan) rest' ≡ with_told o t (option_and_then (told plan) rest)
    → option_and_then (told plan) (cond b (Some x) rest') ≡ with_told o t (option_and_then (told plan) (cond b (Some x) rest))
told_case plan o x rest rest' t true h later = kept_told o t (told plan x) h
told_case plan o x rest rest' t false h later = later

pub told_next : (plan : Plan) (o : ℕ) (es : List Event) (e : Event) → first_told plan (es ++ e ∷ []) o ≡ with_told o (told plan e) (first_told plan es o)
told_next plan o [] e = new_told plan o e (is_told o (told plan e)) refl
told_next plan o (x ∷ xs) e = told_case plan o x (find (tells_of plan o) xs) (find (tells_of plan o) (xs ++ e ∷ [])) (told plan e) (is_told o (told plan x)) refl (told_next plan o xs e)

told_more : (plan : Plan) (o : ℕ) (all : List Event) (k : ℕ) (e : Event) (kept : Option Told) → slice_get all k ≡ Some e
    → kept ≡ first_told plan (take k all) o → with_told o (told plan e) kept ≡ first_told plan (take (k + 1) all) o
told_more plan o all k e kept h was =
    let n : k + 1 ≡ suc k = omega arith in
    ap (with_told o (told plan e)) was ∙ sym (told_next plan o (take k all) e) ∙ sym (ap (λ es. first_told plan es o) (ap (λ i. take i all) n ∙ take_next all k e h))

pub one_event : (plan : Plan) (o : ℕ) (all : List Event) (k : ℕ) (d : Event) (t kept new : Option Told) → k < length all → kept ≡ first_told plan (take k all) o
    → t ≡ told plan (get_or all k d) → new ≡ with_told o t kept → new ≡ first_told plan (take (k + 1) all) o
one_event plan o all k d t kept new h was is step =
    step ∙ ap (λ x. with_told o x kept) is ∙ told_more plan o all k (get_or all k d) kept (slice_get-get_or all k d h) was
