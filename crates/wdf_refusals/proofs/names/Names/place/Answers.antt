use Rattle.std.proofs.Common.{◌≡◌, ◌∙◌}
use Rattle.wdf_blocks.specs.Declarations.{has_name}
use Rattle.wdf_refusals.specs.Names.{place_from}
use Rattle.wdf_refusals.proofs.Fitting.{place_small}
use Rattle.wdf_refusals.proofs.names.Names.place.Goals as goal

pub returns-clause-small : goal.returns-clause-small
returns-clause-small c =
    let e : c.copied.result ≡ place_from (has_name c.args.name.now) 0 c.self.inside.declarations.items = c.copied.ensures ∙ (c.get.ensures.value ∙ c.self.invariant.0.first c.args.name.now) in
    place_small c.self.inside.declarations.items (has_name c.args.name.now) c.copied.result c.self.invariant.1 e
