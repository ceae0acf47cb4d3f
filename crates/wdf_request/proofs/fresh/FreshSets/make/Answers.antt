-- Four sets without a member.
use Rattle.wdf_request.proofs.fresh.FreshSets.make.Goals as goal

pub returns : goal.returns
returns c =
    let sets = c.in_ok-closing.ensures in
    record { closing = sets.first; due = sets.second; sendings = sets.third; returns = sets.fourth }
