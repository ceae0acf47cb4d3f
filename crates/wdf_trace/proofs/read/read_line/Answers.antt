-- The event of a line is the one that its words give, so that no other has the line.
use Rattle.std.proofs.Common.{ℕ, Option, Some, ap, sym, subst, ◌∙◌}
use Rattle.std.proofs.lemmas.Bool.{iff_false}
use Rattle.wdf_base.specs.declared.event.Event.{Event}
use Rattle.wdf_lines.specs.Lines.{line_text}
use Rattle.wdf_trace.specs.Reading.{number_of, word}
use Rattle.wdf_trace.specs.Told.{event_in}
use Rattle.wdf_trace.specs.Events.{IsEventOf}
use Rattle.wdf_trace.proofs.EventLaws.{read_each}
use Rattle.wdf_trace.proofs.ResolvedLaws.{HasNames-resolved}
use Rattle.wdf_trace.proofs.ValueLaws.{ap2}
use Rattle.wdf_trace.proofs.read.read_line.Goals as goal

pub returns-then-is_line_of-clause-each : goal.returns-then-is_line_of-clause-each
returns-then-is_line_of-clause-each c = λ h number event small valid same.
    let back = read_each c.args.plan.now (HasNames-resolved c.args.plan.now h) c.args.text.now c.number_of-number.result c.event_in-event.result (c.number_of-number.ensures ∙ ap number_of (c.at.ensures ∙ ap (word 0) c.of-words.ensures)) (c.event_in-event.ensures ∙ ap (event_in c.args.plan.now) c.of-words.ensures) number event small valid same in
    let make : ℕ → Event → Option (ℕ × Event) = λ k e. Some (k, e) in
    ap2 make back.0 back.1

pub returns-else-is_line_of-clause-each : goal.returns-else-is_line_of-clause-each
returns-else-is_line_of-clause-each c = λ h number event small valid same.
    let back = read_each c.args.plan.now (HasNames-resolved c.args.plan.now h) c.args.text.now c.number_of-number.result c.event_in-event.result (c.number_of-number.ensures ∙ ap number_of (c.at.ensures ∙ ap (word 0) c.of-words.ensures)) (c.event_in-event.ensures ∙ ap (event_in c.args.plan.now) c.of-words.ensures) number event small valid same in
    let P : Event → Type 0 = λ e. IsEventOf c.args.plan.now e in
    absurd (iff_false c.is_line_of.ensures c.if-is_line_of.false
    (ap2 (line_text c.args.plan.now) back.0 back.1 ∙ same, subst P (sym back.1) valid))
