-- The request leaves its list, and is put on another one.
use Rattle.std.proofs.Common.{◌≡◌, ℕ, ◌<◌, Option, length, map, ap, subst, arith}
use Rattle.std.specs.Prelude.{IfSome}
use Rattle.std.proofs.lemmas.List.{length-map}
use Rattle.wdf_ilist.specs.Family.{Family, without}
use Rattle.wdf_power.proofs.Listing.{free_left, moved_off, moved_on}
use Rattle.wdf_power.proofs.power.move_to.Goals as goal

pub push_back-requires-clause-free : goal.push_back-requires-clause-free
push_back-requires-clause-free c = rw (c.unlink-from.ensures.gone) (free_left c.args.held.now.lists c.args.r.0)

pub returns-in_default-clause-moved : goal.returns-in_default-clause-moved
returns-in_default-clause-moved c = rw (c.unlink-from.ensures.gone, c.in_default.is) (moved_off c.args.held.now.lists c.args.r.0)

pub returns-in-Some-clause-moved : goal.returns-in-Some-clause-moved
returns-in-Some-clause-moved c =
    let lists = c.args.held.now.lists in
    let left = c.unlink-from.new.self.lists in
    let gone : left ≡ map (without c.args.r.0) lists = ap (λ (F : Family). F.lists) c.unlink-from.ensures.gone in
    let P : Option ℕ → Type 0 = λ o. IfSome o (λ l. l < length lists) in
    let known : c.in-Some.list < length lists = subst P c.in-Some.is c.requires.list in
    let within : c.in-Some.list < length left = omega (arith, ap length gone, length-map lists (without c.args.r.0), known) in
    rw (c.in-Some.is, c.push_back.ensures) (moved_on lists left c.args.r.0 c.in-Some.list gone within)
