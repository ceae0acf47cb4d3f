-- The one finding is that of the size.
use Rattle.std.proofs.Common.{◌≡◌, ◌∷◌, ◌++◌, [], List, refl, sym, ap, subst, ◌∙◌, unwrap_or}
use Rattle.wdf_lint.specs.declared.findings.Found.{Found}
use Rattle.wdf_lint.specs.Found.{IsAllOf}
use Rattle.wdf_lint.proofs.AllFound.{size_is_all}
use Rattle.wdf_lint.proofs.static_check.too_big.Goals as goal

pub returns : goal.returns
returns c =
    let f : Found = record { line = c.script_line.result; rule = 0; script = c.args.script; at = 0; path = c.new.result } in
    let items : c.push.new.self.items ≡ f ∷ [] = c.in_ok-push.ensures.items ∙ ap (λ (xs : List Found). xs ++ f ∷ []) c.new-found.ensures.items in
    subst (IsAllOf c.args.plan.now (λ k. k ≡ c.args.script)) (sym items)
    (size_is_all c.args.plan.now c.args.script f c.requires.big refl refl refl (sym (ap (λ o. unwrap_or o 0) c.script_line.ensures)) c.new.ensures)
