-- Nothing may come back where no frame is parked.
use Rattle.std.proofs.Common.{if◌then◌else◌, ◌≡◌, ◌≤◌, ◌+◌, ℕ, Bool, true, false, length, ap, refl, sym, ◌∙◌, arith}
use Rattle.wdf_model.specs.declared.enums.Group.TheVariants as group
use Rattle.wdf_offers.specs.Idle.{is_idle, search_len}
use Rattle.wdf_offers.specs.Search.{offered_from}
use Rattle.wdf_offers.proofs.Skips.{search_over}
use Rattle.wdf_ready.proofs.search.unparks_at.Goals as goal

none_either : (b : Bool) (n : ℕ) → n ≡ 0 → (if b then 0 else n) ≡ 0
none_either true n h = refl
none_either false n h = h

pub returns-then-parked_len-eq0 : goal.returns-then-parked_len-eq0
returns-then-parked_len-eq0 g c =
    let parked : length c.args.parts.now.cpus.parked ≡ 0 = cc in
    let over : 0 ≡ search_len c.args.plan.now c.args.parts.now (group.Unparks c.args.cpu) =
    sym (none_either (is_idle c.args.plan.now c.args.parts.now (group.Unparks c.args.cpu)) (length c.args.parts.now.cpus.parked) parked) in
    let end : 0 ≤ 0 = omega arith in
    let none : length (offered_from c.args.plan.now g.A.Agent.meaning c.args.parts.now (group.Unparks c.args.cpu) 0) ≡ 0 =
    ap length (search_over c.args.plan.now g.A.Agent.meaning c.args.parts.now (group.Unparks c.args.cpu) 0 0 over end) in
    ap (λ n. n + c.args.k) none ∙ (let zero_is : 0 + c.args.k ≡ c.args.k = omega arith in zero_is)
