-- A state that breaks no rule adds nothing; one that breaks a rule adds a finding, unless there is one of its statement and rule.
use Rattle.std.proofs.Common.{◌≡◌, ◌<◌, ◌+◌, ◌++◌, ◌∷◌, [], ◌==◌, ◌&&◌, length, None, Some, slice_get, refl, sym, ap, subst, ◌∙◌, arith, rules}
use Rattle.std.specs.List.{list_any}
use Rattle.std.proofs.lemmas.Option.{slice_get_read}
use Rattle.wdf_lint.specs.declared.findings.Found.{Found}
use Rattle.wdf_lint.specs.Steps.{breaks, rule_at}
use Rattle.wdf_lint.specs.Searches.{PathAt, table_of}
use Rattle.wdf_lint.proofs.Best.{AreBreaches, breaches_are_all, notes, passes, repeats}
use Rattle.wdf_lint.proofs.static_check.breaches.Goals as goal
use Rattle.wdf_lint.proofs.static_check.breaches.Goals.{then-not-is_noted+in_ok-lines+in_ok-push, else-not-is_noted}

pub loop-n-preserved-in_default : goal.loop-n-preserved-in_default
loop-n-preserved-in_default c =
    let plan = c.args.plan.now in
    let k = c.args.w.now.script in
    let a = c.a-item.result in
    let keys = c.as_slice-a-items.ensures.keys in
    let there = slice_get_read c.as_slice-a-items.result.now (length c.as_slice-a-items.result.now) c.loop-n.n a (search rules) c.loop-n-test.true c.a-item.is in
    let at_ : slice_get c.args.search.now.states.keys c.loop-n.n ≡ Some a = subst (λ xs. slice_get xs c.loop-n.n ≡ Some a) keys there in
    let is : c.rule_at.result ≡ breaks plan k a = c.rule_at.ensures ∙ ap (rule_at plan k a) c.statement_of.ensures in
    let off : breaks plan k a ≡ None = cc in
    passes plan k (table_of c.args.search.now) c.loop-n.found.items c.loop-n.n a at_ off c.loop-n.invariant

pub lines-requires : goal.lines-requires
lines-requires c =
    let keys = c.as_slice-a-items.ensures.keys in
    let same : length c.as_slice-a-items.result.now ≡ length c.args.search.now.states.keys = ap length keys in
    let less : c.loop-n.n < length c.args.search.now.ranks.items = omega (arith, c.requires.search.table.many, c.loop-n-test.true) in
    c.requires.search.table.named c.loop-n.n c.index.result.now (slice_get_read c.args.search.now.ranks.items (length c.args.search.now.ranks.items) c.loop-n.n c.index.result.now (search rules) less c.index.ensures)

pub loop-n-preserved : goal.loop-n-preserved
loop-n-preserved c =
    let plan = c.args.plan.now in
    let k = c.args.w.now.script in
    let t = table_of c.args.search.now in
    let n = c.loop-n.n in
    let a = c.a-item.result in
    let keys = c.as_slice-a-items.ensures.keys in
    let there = slice_get_read c.as_slice-a-items.result.now (length c.as_slice-a-items.result.now) n a (search rules) c.loop-n-test.true c.a-item.is in
    let at_ : slice_get c.args.search.now.states.keys n ≡ Some a = subst (λ xs. slice_get xs n ≡ Some a) keys there in
    let is : breaks plan k a ≡ Some c.in-Some.broken = sym (c.rule_at.ensures ∙ ap (rule_at plan k a) c.statement_of.ensures) ∙ c.in-Some.is in
    let test : c.is_noted.result ≡ list_any (λ (f : Found). (f.at == a.at) && (f.rule == c.rule_number-rule.result)) c.loop-n.found.items =
    c.is_noted.ensures ∙ ap (list_any (λ (f : Found). (f.at == a.at) && (f.rule == c.rule_number-rule.result))) c.as_slice.ensures.value in
    elim c.if-not-is_noted.branch [
      | then-not-is_noted+in_ok-lines+in_ok-push w ↦
          let new : Found = record { line = w.line_at.result; rule = c.rule_number-rule.result; script = k; at = a.at; path = w.in_ok-lines.field-0 } in
          let less : n < length c.args.search.now.ranks.items = omega (arith, c.requires.search.table.many, ap length keys, c.loop-n-test.true) in
          let path : PathAt t n w.in_ok-lines.field-0 = (w.index.result.now, slice_get_read c.args.search.now.ranks.items (length c.args.search.now.ranks.items) n w.index.result.now (search rules) less w.index.ensures, w.in_ok-lines.ensures) in
          let items : c.if-not-is_noted.found.items ≡ c.loop-n.found.items ++ new ∷ [] = ap (λ v. v.items) w.found-is ∙ w.in_ok-push.ensures.items in
          subst (λ xs. AreBreaches plan k t xs (n + 1)) (sym items)
          (notes plan k t c.loop-n.found.items n a c.in-Some.broken new at_ is refl refl c.rule_number-rule.ensures w.line_at.ensures path (sym test ∙ w.if-not-is_noted.true) c.loop-n.invariant)
      | else-not-is_noted w ↦
          let items : c.if-not-is_noted.found.items ≡ c.loop-n.found.items = ap (λ v. v.items) w.found-is in
          subst (λ xs. AreBreaches plan k t xs (n + 1)) (sym items)
          (repeats plan k t c.loop-n.found.items n a c.in-Some.broken c.rule_number-rule.result at_ is c.rule_number-rule.ensures (sym test ∙ w.if-not-is_noted.false) c.loop-n.invariant)
    ]

pub returns : goal.returns
returns c =
    let keys = c.as_slice-a-items.ensures.keys in
    let same : length c.as_slice-a-items.result.now ≡ length c.args.search.now.states.keys = ap length keys in
    let end : c.loop-n.n ≡ length c.args.search.now.states.keys = omega (arith, c.loop-n-test.false, c.loop-n.auto.n-end) in
    breaches_are_all c.args.plan.now c.args.w.now.script (table_of c.args.search.now) c.requires.search c.loop-n.found.items
    (subst (AreBreaches c.args.plan.now c.args.w.now.script (table_of c.args.search.now) c.loop-n.found.items) end c.loop-n.invariant)
