-- Places, lines, targets and kinds, whatever was told of requests: what an event that may come leaves of them.
use Rattle.std.proofs.Common.{◌≡◌, true, false, List, [], ◌∷◌, refl, subst}
use Rattle.wdf_base.specs.Meaning.{Meaning}
use Rattle.wdf_base.specs.declared.plan.Plan.{Plan}
use Rattle.wdf_model.specs.State.{State, opening}
use Rattle.wdf_model.specs.declared.deed.Deed.{Deed}
use Rattle.wdf_model.specs.rules.Deeds.{do_deed, do_deeds}
use Rattle.wdf_model.specs.rules.Ready.{ready, state_after}
use Rattle.law_machine_base.specs.Fits.{all_fit, fits}
use Rattle.wdf_model.proofs.Runs.{run_opens}
use Rattle.wdf_model.proofs.Tests.{both_left, both_right}
use Rattle.law_machine_base.proofs.KeptByDeeds.{KeptIn, deed_keeps}
use Rattle.law_machine_base.proofs.LawsOverRuns.{history}

-- what is known of places and lines, whatever was told
abbrev pub Places : {A : Type 0} → State A → Type 0
Places S = KeptIn (λ _. false) (λ _. true) S

pub places_after : {A : Type 0} (plan : Plan) (ds : List Deed) (S : State A) → all_fit plan ds S ≡ true → Places S → Places (do_deeds plan ds S)
places_after plan [] S f k = k
places_after plan (d ∷ ds) S f k = places_after plan ds (do_deed plan d S) (both_right (fits plan d S) (all_fit plan ds (do_deed plan d S)) f) (deed_keeps plan d S (both_left (fits plan d S) (all_fit plan ds (do_deed plan d S)) f) (λ _. refl) k)

pub first_state : {A : Type 0} (plan : Plan) (m : Meaning A) → state_after plan m [] ≡ opening plan m
unfolding state_after
first_state plan m = refl

pub opening_places : {A : Type 0} (plan : Plan) (m : Meaning A) → Places (opening plan m)
opening_places {A} plan m =
    let k = (history plan m [] (run_opens (ready plan m)) 0).kept in
    subst (λ (S : State A). Places S) (first_state plan m) (record { queued = k.queued; sent = k.sent; room = k.room; kinds = k.kinds; made = k.made; returns = k.returns; ended = λ r h. absurd (let z : ⊥ = cc in z); numbered = λ r h. absurd (let z : ⊥ = cc in z); begun = λ r h. refl })
