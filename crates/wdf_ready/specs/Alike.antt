-- Groups that offer as much as the same group of another processor, since both processors are empty. (own)
use Rattle.std.specs.Prelude.{◌≡◌, ℕ, Bool, true, false}
use Rattle.wdf_base.specs.declared.plan.Plan.{Plan}
use Rattle.wdf_base.specs.declared.rank.Rank.{Rank}
use Rattle.wdf_base.specs.declared.rank.Rank.TheVariants as rank
use Rattle.wdf_model.specs.Ids.{cpu_of}
use Rattle.wdf_model.specs.State.{State}
use Rattle.wdf_model.specs.parts.Cpus.{is_empty_cpu}
use Rattle.wdf_model.specs.rules.Steps.{is_cpu}

-- both are empty processors of the plan
pub record AreAlike {A : Type 0} (plan : Plan) (S : State A) (one other : ℕ) : Type 0 where
  pub one_is : is_cpu plan (cpu_of one) ≡ true
  pub other_is : is_cpu plan (cpu_of other) ≡ true
  pub one_empty : is_empty_cpu S.cpus one ≡ true
  pub other_empty : is_empty_cpu S.cpus other ≡ true

-- the callbacks of a rank may start on any empty processor: they aren't of a list of DPCs, of which each processor has one,
-- nor steps of a sequence, which may be any callback
abbrev pub is_shared : Rank → Bool
is_shared rank.Deferred = false
is_shared rank.Sequence = false
is_shared _ = true
