-- The words name a range of seeds.
use Rattle.std.proofs.Common.{◌≡◌, Some, map, string_bytes}
use Rattle.wdf_hunt.specs.declared.words.Form.TheVariants.{Seeds}
use Rattle.wdf_hunt.specs.Words.{form_of_words}
use Rattle.wdf_hunt.proofs.Ranges.{range_of_form}
use Rattle.wdf_hunt.proofs.top.hunt.Goals as goal

pub seek-requires-clause-some : goal.seek-requires-clause-some
seek-requires-clause-some g c = λ lifetimes outlive.
    let same : form_of_words (map string_bytes c.args.words.now) ≡ Some (Seeds c.in-Some-Seeds.from c.in-Some-Seeds.count c.in-Some-Seeds.jitter) = cc in
    (range_of_form (map string_bytes c.args.words.now) c.in-Some-Seeds.from c.in-Some-Seeds.count c.in-Some-Seeds.jitter same).some

pub seek-requires-clause-fits : goal.seek-requires-clause-fits
seek-requires-clause-fits g c = λ lifetimes outlive.
    let same : form_of_words (map string_bytes c.args.words.now) ≡ Some (Seeds c.in-Some-Seeds.from c.in-Some-Seeds.count c.in-Some-Seeds.jitter) = cc in
    (range_of_form (map string_bytes c.args.words.now) c.in-Some-Seeds.from c.in-Some-Seeds.count c.in-Some-Seeds.jitter same).fits
