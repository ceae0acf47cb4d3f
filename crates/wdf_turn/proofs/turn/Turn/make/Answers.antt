use Rattle.std.proofs.Common.{rules, ◌≡◌, List, [], ◌∷◌, length, Option, Some, sym, ap, ◌∙◌, subst, arith}
use Rattle.std.proofs.lemmas.Grind.{common_steps}
use Rattle.atomic_table.specs.Table.{opening as opening_state}
use Rattle.wdf_turn.specs.Tokens.{first_token}
use Rattle.wdf_turn.specs.Story.{Kept}
use Rattle.wdf_turn.proofs.Seats.{opens}
use Rattle.wdf_turn.proofs.turn.Turn.make.Goals as goal

pub new-requires : goal.new-requires
new-requires g c =
    let items : c.push.new.self.items ≡ Some c.of.result.value ∷ [] = (first_of (search rules, grind (arith, common_steps))) in
    subst (λ (l : List (Option g.row.T.Denot)). Kept g.T.Chronicle.root g.T.Chronicle.events c.args.seats c.of.result.value (opening_state (0 ∷ c.length-length.result ∷ []) l (first_token g.T.Chronicle.events c.args.seats c.of.result.value))) (sym items)
    (opens g.T.Chronicle.root g.T.Chronicle.events c.args.seats c.of.result.value c.length-length.result (search rules) (search rules) (c.length-length.ensures ∙ ap (λ (x : g.row.T.Denot). length (g.T.Chronicle.events x)) (sym c.of.ensures)))
