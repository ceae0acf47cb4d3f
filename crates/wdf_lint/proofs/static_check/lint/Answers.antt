-- Nothing was found, or what was found is put in order.
use Rattle.std.proofs.Common.{◌≡◌, ◌<◌, ◌≤◌, [], length, sym, subst, ◌∙◌, arith, rules}
use Rattle.std.proofs.lemmas.List.Sorted.{answers_always}
use Rattle.wdf_lint.specs.declared.findings.Found.{Found}
use Rattle.wdf_lint.specs.declared.static_check.LintAnswer.TheVariants as answer
use Rattle.wdf_lint.specs.Answers.{IsAnswer}
use Rattle.wdf_lint.specs.Found.{IsAllOf}
use Rattle.wdf_lint.proofs.AllFound.{clean, empty_list, found_all, some_list}
use Rattle.wdf_lint.proofs.static_check.lint.Goals as goal

pub returns-then-is_empty : goal.returns-then-is_empty
returns-then-is_empty c =
    let none : c.in_ok-found.found.items ≡ [] = empty_list c.in_ok-found.found.items c.in_ok-found.found.len (search rules) (sym c.is_empty.ensures ∙ c.if-is_empty.true) in
    clean c.args.plan.now (subst (IsAllOf c.args.plan.now (λ k. k < length c.args.plan.now.scripts)) none c.in_ok-found.ensures)

pub returns : goal.returns
returns c =
    subst (λ fs. IsAnswer c.args.plan.now (answer.Findings fs)) (sym c.new-list.ensures)
    (found_all c.args.plan.now c.in_ok-found.found.items c.sort_by_key.new.self.items c.in_ok-found.ensures c.sort_by_key.ensures.permutation
    (λ n d less. c.in_ok-sort_by_key.ensures.sorted (λ (f : Found). (f.line, f.rule, f.script, f.at)) (answers_always _ _ _ (λ f a r g h. search rules)) n d (let low : 0 ≤ n = omega arith in low) less)
    (some_list c.in_ok-found.found.items c.in_ok-found.found.len (search rules) (sym c.is_empty.ensures ∙ c.if-is_empty.false)))
