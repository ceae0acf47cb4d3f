-- What is added is what comes after the first argument.
use Rattle.std.proofs.Common.{refl, ap, ◌∙◌}
use Rattle.std.proofs.lemmas.Iterator.Adapters.{items_from_extend, YieldsList-from_skip, YieldsList-from_vec}
use Rattle.std.specs.Vec.Iter.{into_iter_items}
use Rattle.wdf_arguments.proofs.after_name.Goals as goal

pub returns : goal.returns
returns c =
    let added = items_from_extend c.extend.result c.extend.ensures.ran (YieldsList-from_skip 1 (YieldsList-from_vec (into_iter_items c.args.arguments) (ap into_iter_items c.skip.ensures.source) (ap (λ it. it.rest.len) c.skip.ensures.source ∙ c.args.arguments.rest.ok.0)) c.skip.ensures.count) in
    (rw c.in_ok-extend.was at added).0 ∙ rw c.in_ok-words.ensures.items refl
