-- Each line more is that of the path's end; the first path is one line.
use Rattle.std.proofs.Common.{◌≡◌, ◌<◌, ◌++◌, ◌∷◌, [], length, reverse, Some, slice_get, sym, ap, subst, ◌∙◌, arith, rules}
use Rattle.std.proofs.lemmas.Option.{slice_get_read}
use Rattle.wdf_lint.specs.Paths.{paths_of}
use Rattle.wdf_lint.proofs.PathTables.{IsReading, before_less, paths_many, reads, reads_all, reads_on}
use Rattle.wdf_lint.proofs.paths.Paths.lines.Goals as goal

pub loop-at-init : goal.loop-at-init
loop-at-init c =
    let many = paths_many c.self.inside.ends.items in
    let same : length c.args.self.now ≡ length (paths_of c.self.inside.ends.items) = cc in
    let within : c.args.n < length c.self.inside.ends.items = omega (arith, c.requires) in
    subst (IsReading c.self.inside.ends.items c.args.n c.args.n) (sym c.new-lines.ensures) (reads c.self.inside.ends.items c.args.n within)

pub loop-at-smaller : goal.loop-at-smaller
loop-at-smaller c = before_less c.self.inside.ends.items c.loop-at.at c.index-in-loop-at.result.now c.self.invariant c.loop-at-test.true
    (slice_get_read c.self.inside.ends.items (length c.self.inside.ends.items) c.loop-at.at c.index-in-loop-at.result.now (search rules) c.loop-at.invariant.within c.index-in-loop-at.ensures)

pub loop-at-preserved : goal.loop-at-preserved
loop-at-preserved c =
    let at_ = slice_get_read c.self.inside.ends.items (length c.self.inside.ends.items) c.loop-at.at c.index.result.now (search rules) c.loop-at.invariant.within c.index.ensures in
    let again = slice_get_read c.self.inside.ends.items (length c.self.inside.ends.items) c.loop-at.at c.index-in-loop-at.result.now (search rules) c.loop-at.invariant.within c.index-in-loop-at.ensures in
    let same : c.index.result.now ≡ c.index-in-loop-at.result.now = cc in
    let more : c.push.new.self ≡ c.loop-at.lines ++ c.index-in-loop-at.result.now.line ∷ [] = c.in_ok-push.ensures ∙ ap (λ e. c.loop-at.lines ++ e.line ∷ []) same in
    subst (IsReading c.self.inside.ends.items c.args.n c.index-in-loop-at.result.now.before) (sym more)
    (reads_on c.self.inside.ends.items c.args.n c.loop-at.at c.index-in-loop-at.result.now c.loop-at.lines c.self.invariant c.loop-at.invariant c.loop-at-test.true again)

pub returns : goal.returns
returns c =
    let many = paths_many c.self.inside.ends.items in
    let same : length c.args.self.now ≡ length (paths_of c.self.inside.ends.items) = cc in
    let within : c.args.n < length c.self.inside.ends.items = omega (arith, c.requires) in
    let view : paths_of c.self.inside.ends.items ≡ c.args.self.now = cc in
    let end : c.loop-at.at ≡ 0 = omega (arith, c.loop-at-test.false) in
    let read : IsReading c.self.inside.ends.items c.args.n 0 c.loop-at.lines = subst (λ at. IsReading c.self.inside.ends.items c.args.n at c.loop-at.lines) end c.loop-at.invariant in
    let here = slice_get_read c.self.inside.ends.items (length c.self.inside.ends.items) 0 c.index-2.result.now (search rules) (search rules) c.index-2.ensures in
    let all = reads_all c.self.inside.ends.items c.args.n c.index-2.result.now c.loop-at.lines within read here in
    let is : c.reverse.new.self ≡ reverse (c.loop-at.lines ++ c.index-2.result.now.line ∷ []) = c.reverse.ensures ∙ ap reverse c.in_ok-push-2.ensures in
    subst (λ ps. slice_get ps c.args.n ≡ Some c.reverse.new.self) view (all ∙ ap Some (sym is))
