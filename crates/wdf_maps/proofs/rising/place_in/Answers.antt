use Rattle.std.proofs.Common.{◌^◌, rules}
use Rattle.std.proofs.lemmas.List.Sorted.{answers_always}
use Rattle.wdf_maps.proofs.PlacesOfKeys.{is_place}
use Rattle.wdf_maps.proofs.rising.place_in.Goals as goal

-- the closure gives an entry's id, and the ids rise
pub returns : goal.returns
returns g c =
    let facts = c.binary_search_by_key.ensures in
    is_place g.T.Entry.id (2 ^ 32) c.args.id _ _ c.requires facts.bound (facts.position g.T.Entry.id (answers_always _ _ _ (λ f a r q called. search rules)))
