-- What a list of deeds leaves as it was.
use Rattle.std.proofs.Common.{◌≡◌, ◌+◌, List, ap, arith}
use Rattle.wdf_base.specs.Meaning.{Meaning}
use Rattle.wdf_base.specs.declared.event.Event.{Event}
use Rattle.wdf_base.specs.declared.plan.Plan.{Plan}
use Rattle.wdf_model.specs.State.{State}
use Rattle.wdf_model.specs.declared.deed.Deed.{Deed}
use Rattle.wdf_model.specs.rules.Deeds.{counted, do_deeds}
use Rattle.wdf_model.proofs.Counting.{counted_first, counting_commutes}

-- no deed counts an event
pub number_kept : {A : Type 0} (plan : Plan) (m : Meaning A) (ds : List Deed) (e : Event) (S : State A) → (do_deeds plan ds S).number ≡ S.number
number_kept {A} plan m ds e S =
    let after : (do_deeds plan ds (counted m e S)).number ≡ (do_deeds plan ds S).number + 1 = ap (λ (T : State A). T.number) (counted_first plan m ds e S) in
    let before : (do_deeds plan ds (counted m e S)).number ≡ S.number + 1 = ap (λ (T : State A). T.number) (counting_commutes plan m ds e S) in
    omega arith
