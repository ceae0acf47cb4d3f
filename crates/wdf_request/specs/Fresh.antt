-- What is kept of requests, as it is made: counts of none, and sets without a member.
use Rattle.std.specs.Prelude.{◌≡◌, [], List, Bool, false, replicate}
use Rattle.wdf_request.specs.declared.fresh.FreshCounts.{FreshCounts}
use Rattle.wdf_request.specs.declared.fresh.FreshSets.{FreshSets}

pub record HaveNone (c : FreshCounts) : Type 0 where
  pub returning : c.returning ≡ []
  pub sent : c.sent ≡ []
  pub unfinished : c.unfinished ≡ []
  pub due_held : c.due_held ≡ []

-- a set without a member, as large as any
abbrev pub no_ids : List Bool
no_ids = replicate 204800 false

pub record AreEmpty (s : FreshSets) : Type 0 where
  pub closing : s.closing ≡ no_ids
  pub due : s.due ≡ no_ids
  pub sendings : s.sendings ≡ no_ids
  pub returns : s.returns ≡ no_ids
