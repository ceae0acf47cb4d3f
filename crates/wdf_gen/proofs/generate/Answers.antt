-- The head and the four apps are the whole text.
use Rattle.std.proofs.Common.{◌∙◌, codes}
use Rattle.wdf_gen.proofs.Reading.{app_named, text_written}
use Rattle.wdf_gen.proofs.generate.Goals as goal

pub returns : goal.returns
returns c =
    let n = c.args.n in
    let head = c.add_head.new.self in
    let first = c.add_app.new.self in
    let second = c.add_app-2.new.self in
    let third = c.add_app-3.new.self in
    let fourth = c.add_app-4.new.self in
    c.finish.ensures
    ∙ text_written n c.new-writer.result head first second third fourth c.new-writer.ensures c.in_ok-add_head.ensures.written
    (app_named head first 0 n c.new.result (codes "A0") c.new.ensures c.in_ok-add_app.ensures.written)
    (app_named first second 1 n c.new-2.result (codes "A1") c.new-2.ensures c.in_ok-add_app-2.ensures.written)
    (app_named second third 2 n c.new-3.result (codes "A2") c.new-3.ensures c.in_ok-add_app-3.ensures.written)
    (app_named third fourth 3 n c.new-4.result (codes "A3") c.new-4.ensures c.in_ok-add_app-4.ensures.written)
