-- Each target begins anew, and no request has one.
use Rattle.std.proofs.Common.{ℕ, ◌≡◌, length, sym, ap, subst, ◌∙◌, arith}
use Rattle.wdf_model.specs.parts.Targets.{Targets, opening_targets, the_target}
use Rattle.wdf_target.proofs.Openings.{kept_at_first}
use Rattle.wdf_target.proofs.Noting.{noted_opened, opened_len}
use Rattle.wdf_target.proofs.targets.Targets.begin_again.Goals as goal

pub begin_all-requires-clause-ids : goal.begin_all-requires-clause-ids
begin_all-requires-clause-ids c = ap (λ (T : Targets). length T.targets) c.self.view_is ∙ c.requires.ids

pub begin_all-requires-clause-depths : goal.begin_all-requires-clause-depths
begin_all-requires-clause-depths c =
    subst (λ (T : Targets). (t : ℕ) → (the_target T t).depth ≡ (the_target (opening_targets c.args.plan.now) t).depth) (sym c.self.view_is) c.requires.depths

pub invariant_of-self : goal.invariant_of-self
invariant_of-self c =
    let were = ap (λ (T : Targets). length T.targets) c.self.view_is in
    let are = opened_len c.args.plan.now c.begin_all.new.all.items c.begin_all.ensures in
    record {
      kept = rw c.clear.ensures.items (kept_at_first c.args.plan.now c.begin_all.new.all.items c.begin_all.ensures);
      room = rw c.clear.ensures.capacity c.self.invariant.room;
      noted = noted_opened c.args.plan.now c.begin_all.new.all.items c.clear-2.new.self (length c.self.inside.with_done) c.begin_all.ensures (omega (arith, c.requires.ids, c.self.invariant.noted.room)) c.clear-2.ensures;
    }

pub returns : goal.returns
returns c = ap (λ ts. record { targets = ts }) c.begin_all.ensures
