use Rattle.std.proofs.Common.{◌≡◌, Some, None, sym, ap, ◌∙◌, rules}
use Rattle.wdf_model.specs.Tables.{entry}
use Rattle.wdf_model.specs.parts.Targets.{sending_of}
use Rattle.wdf_maps.specs.Places.{entry_of}
use Rattle.wdf_target.specs.Target.{request_id}
use Rattle.wdf_target.proofs.Kept.{target_within, found_none, found_there}
use Rattle.wdf_target.proofs.Acts.{read_as}
use Rattle.wdf_target.proofs.targets.Targets.sending_of.Goals as goal

pub returns-in-None : goal.returns-in-None
returns-in-None c =
    let none : entry None c.self.inside.holders.items c.args.r.0 ≡ None = sym (c.entry_at.ensures ∙ ap (λ hs. entry None hs c.args.r.0) c.as_slice.ensures.value) ∙ c.in-None.is in
    sym (found_none c.self.inside.targets.items c.self.inside.holders.items c.args.r.0 c.self.invariant.kept none) ∙ ap (λ T. sending_of T c.args.r.0) c.self.view_is

pub index-requires : goal.index-requires
index-requires c =
    let there : entry None c.self.inside.holders.items c.args.r.0 ≡ Some c.in-Some.t = sym (c.entry_at.ensures ∙ ap (λ hs. entry None hs c.args.r.0) c.as_slice.ensures.value) ∙ c.in-Some.is in
    let within = target_within c.self.inside.targets.items c.self.inside.holders.items c.args.r.0 c.in-Some.t c.self.invariant.kept there in
    search rules

pub returns-in-Some : goal.returns-in-Some
returns-in-Some c =
    let there : entry None c.self.inside.holders.items c.args.r.0 ≡ Some c.in-Some.t = sym (c.entry_at.ensures ∙ ap (λ hs. entry None hs c.args.r.0) c.as_slice.ensures.value) ∙ c.in-Some.is in
    let within = target_within c.self.inside.targets.items c.self.inside.holders.items c.args.r.0 c.in-Some.t c.self.invariant.kept there in
    let read = read_as c.self.inside.targets.items c.in-Some.t.0 c.index.result.now within c.index.ensures in
    c.sending.ensures ∙ (ap (λ x. entry_of request_id x.sent c.args.r.0) (sym read)
    ∙ (sym (found_there c.self.inside.targets.items c.self.inside.holders.items c.args.r.0 c.in-Some.t c.self.invariant.kept there) ∙ ap (λ T. sending_of T c.args.r.0) c.self.view_is))
