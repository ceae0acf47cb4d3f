-- Deeds each of which has a property where it is done.
use Rattle.std.proofs.Common.{if◌then◌else◌, ◌≡◌, Bool, true, false, List, [], ◌∷◌, ◌++◌, refl}
use Rattle.std.specs.Prelude.{⊤}
use Rattle.std.specs.List.{list_all}
use Rattle.wdf_base.specs.declared.plan.Plan.{Plan}
use Rattle.wdf_model.specs.State.{State}
use Rattle.wdf_model.specs.declared.deed.Deed.{Deed}
use Rattle.law_machine_base.specs.Fits.{all_fit, fits}
use Rattle.wdf_model.specs.rules.Calls.{Outcome}
use Rattle.wdf_model.specs.rules.Deeds.{do_deed, do_deeds}
use Rattle.wdf_model.proofs.Tests.{both_left, both_right}

abbrev pub AllOf : {A : Type 0} → Plan → (Deed → State A → Type 0) → List Deed → State A → Type 0
AllOf plan P [] S = ⊤
AllOf plan P (d ∷ ds) S = P d S × AllOf plan P ds (do_deed plan d S)

module _ {A : Type 0} (plan : Plan) (P : Deed → State A → Type 0) where
  pub all_behind : (ds es : List Deed) (S : State A) → AllOf plan P ds S → AllOf plan P es (do_deeds plan ds S) → AllOf plan P (ds ++ es) S
  all_behind [] es S h k = k
  all_behind (d ∷ ds) es S h k = (h.0, all_behind ds es (do_deed plan d S) h.1 k)

  pub all_either : (S : State A) (b : Bool) (x y : Outcome) → (b ≡ true → AllOf plan P x.deeds S) → (b ≡ false → AllOf plan P y.deeds S) → AllOf plan P (if b then x else y).deeds S
  all_either S true x y h k = h refl
  all_either S false x y h k = k refl

  -- what gives another property gives it of each
  pub all_give : (Q : Deed → State A → Type 0) → ((d : Deed) (S : State A) → P d S → Q d S) → (ds : List Deed) (S : State A) → AllOf plan P ds S → AllOf plan Q ds S
  all_give Q gives [] S h = tt
  all_give Q gives (d ∷ ds) S h = (gives d S h.0, all_give Q gives ds (do_deed plan d S) h.1)

  -- deeds that pass a test that gives it
  pub all_such : (ok : Deed → Bool) → ((d : Deed) (S : State A) → ok d ≡ true → P d S) → (ds : List Deed) (S : State A) → list_all ok ds ≡ true → AllOf plan P ds S
  all_such ok gives [] S h = tt
  all_such ok gives (d ∷ ds) S h = (gives d S (both_left (ok d) (list_all ok ds) h), all_such ok gives ds (do_deed plan d S) (both_right (ok d) (list_all ok ds) h))

  -- with another property, each has both
  pub all_both : (Q : Deed → State A → Type 0) → (ds : List Deed) (S : State A) → AllOf plan P ds S → AllOf plan Q ds S → AllOf plan (λ (d : Deed) (U : State A). P d U × Q d U) ds S
  all_both Q [] S h k = tt
  all_both Q (d ∷ ds) S h k = ((h.0, k.0), all_both Q ds (do_deed plan d S) h.1 k.1)

  -- what each such deed keeps, those deeds one after another keep
  pub all_keep : (Q : State A → Type 0) → ((d : Deed) (S : State A) → fits plan d S ≡ true → P d S → Q S → Q (do_deed plan d S))
      → (ds : List Deed) (S : State A) → all_fit plan ds S ≡ true → AllOf plan P ds S → Q S → Q (do_deeds plan ds S)
  all_keep Q keeps [] S h s q = q
  all_keep Q keeps (d ∷ ds) S h s q =
      all_keep Q keeps ds (do_deed plan d S) (both_right (fits plan d S) (all_fit plan ds (do_deed plan d S)) h) s.1
      (keeps d S (both_left (fits plan d S) (all_fit plan ds (do_deed plan d S)) h) s.0 q)
