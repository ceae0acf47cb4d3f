use Rattle.std.proofs.Common.{◌≡◌, ◌+◌, ap, ◌∙◌, sym, subst, arith, length, true, Err, if◌then◌else◌, length-drop}
use Rattle.std.specs.List.{list_all}
use Rattle.wdf_tokens.specs.declared.lexer.TokenFault.TheVariants.{NotAscii}
use Rattle.wdf_tokens.specs.Tokens.{piece_of, is_plain, tokens_from}
use Rattle.wdf_tokens.proofs.LineReading.{ReadUpTo, read_up_to_next, read_up_to_fault, few_next, slice_after}
use Rattle.wdf_tokens.proofs.lexer.read_tokens.Goals as goal

-- the piece is read, and its token joins those before
pub loop-at-preserved : goal.loop-at-preserved
loop-at-preserved c =
    let is = c.piece_of-piece.ensures.piece ∙ ap piece_of (slice_after c.args.line.now c.loop-at.at) in
    record {
      so_far = subst (ReadUpTo c.args.line.now (c.loop-at.at + c.piece_of-piece.result.size)) (sym c.in-Ok-push_some.ensures)
          (read_up_to_next c.args.line.now c.loop-at.at c.loop-at.tokens.items c.piece_of-piece.result c.in-Ok.token c.loop-at.invariant.so_far c.loop-at-test.true is c.piece_of-piece.ensures.some (sym c.in-Ok.ensures));
      few = few_next c.loop-at.tokens.items c.in-Ok.token _ c.loop-at.at c.piece_of-piece.result.size c.loop-at.invariant.few c.piece_of-piece.ensures.some c.in-Ok-push_some.ensures;
      within = omega (arith, length-drop c.loop-at.at c.args.line.now, ap length (slice_after c.args.line.now c.loop-at.at), c.piece_of-piece.ensures.within);
    }

-- a piece is no token
pub returns-in-Err-clause-fault : goal.returns-in-Err-clause-fault
returns-in-Err-clause-fault c =
    let line = c.args.line.now in
    let is = c.piece_of-piece.ensures.piece ∙ ap piece_of (slice_after line c.loop-at.at) in
    let plain : list_all is_plain line ≡ true = cc in
    ap (λ b. if b then tokens_from 1 0 line else Err NotAscii) plain
    ∙ read_up_to_fault line c.loop-at.at c.loop-at.tokens.items c.piece_of-piece.result c.in-Err.fault c.loop-at.invariant.so_far c.loop-at-test.true is c.piece_of-piece.ensures.some (sym c.in-Err.ensures)
