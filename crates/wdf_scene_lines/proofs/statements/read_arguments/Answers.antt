use Rattle.std.proofs.Common.{◌≡◌, refl, false, true}
use Rattle.wdf_base.specs.Calls.{signature_of}
use Rattle.wdf_scene_lines.specs.Reading.{read_argument}
use Rattle.wdf_scene_lines.proofs.CallBuilding.{call_read, call_overfull, call_without_first, call_without_second, call_without_third}
use Rattle.wdf_scene_lines.proofs.statements.read_arguments.Goals as goal

pub returns-in_default-clause-read : goal.returns-in_default-clause-read
returns-in_default-clause-read c =
    let row = c.signature-signature.ensures in
    call_without_first c.args.kind c.args.into (read_argument (signature_of c.args.kind).a c.args.tokens.now)
    c.read_argument.new.cursor c.args.builder.now c.read_argument.new.builder
    (rw (← row, ← c.new-cursor.ensures) (rw c.in_default.is at c.in_ok-a.ensures.read))

pub returns-in_default-2-clause-read : goal.returns-in_default-2-clause-read
returns-in_default-2-clause-read c =
    let row = c.signature-signature.ensures in
    call_without_second c.args.kind c.args.into (read_argument (signature_of c.args.kind).a c.args.tokens.now)
    (read_argument (signature_of c.args.kind).b c.read_argument.new.cursor)
    c.read_argument.new.cursor c.read_argument-2.new.cursor
    c.args.builder.now c.read_argument.new.builder c.read_argument-2.new.builder c.in-Some.a
    (rw (← row, ← c.new-cursor.ensures) (rw c.in-Some.is at c.in_ok-a.ensures.read)) refl
    (rw (← row) (rw c.in_default-2.is at c.in_ok-b.ensures.read))

pub returns-in_default-3-clause-read : goal.returns-in_default-3-clause-read
returns-in_default-3-clause-read c =
    let row = c.signature-signature.ensures in
    call_without_third c.args.kind c.args.into (read_argument (signature_of c.args.kind).a c.args.tokens.now)
    (read_argument (signature_of c.args.kind).b c.read_argument.new.cursor) (read_argument (signature_of c.args.kind).c c.read_argument-2.new.cursor)
    c.read_argument.new.cursor c.read_argument-2.new.cursor c.read_argument-3.new.cursor
    c.args.builder.now c.read_argument.new.builder c.read_argument-2.new.builder c.read_argument-3.new.builder c.in-Some.a c.in-Some-2.b
    (rw (← row, ← c.new-cursor.ensures) (rw c.in-Some.is at c.in_ok-a.ensures.read)) refl
    (rw (← row) (rw c.in-Some-2.is at c.in_ok-b.ensures.read)) refl
    (rw (← row) (rw c.in_default-3.is at c.in_ok-c.ensures.read))

pub returns-then-not-is_empty-clause-read : goal.returns-then-not-is_empty-clause-read
returns-then-not-is_empty-clause-read c =
    let row = c.signature-signature.ensures in
    call_overfull c.args.kind c.args.into (read_argument (signature_of c.args.kind).a c.args.tokens.now)
    (read_argument (signature_of c.args.kind).b c.read_argument.new.cursor) (read_argument (signature_of c.args.kind).c c.read_argument-2.new.cursor)
    c.read_argument.new.cursor c.read_argument-2.new.cursor c.read_argument-3.new.cursor
    c.args.builder.now c.read_argument.new.builder c.read_argument-2.new.builder c.read_argument-3.new.builder
    c.in-Some.a c.in-Some-2.b c.in-Some-3.c
    (rw (← row, ← c.new-cursor.ensures) (rw c.in-Some.is at c.in_ok-a.ensures.read)) refl
    (rw (← row) (rw c.in-Some-2.is at c.in_ok-b.ensures.read)) refl
    (rw (← row) (rw c.in-Some-3.is at c.in_ok-c.ensures.read)) (λ e. let f : false ≡ true = c.if-not-is_empty.ensures.1 e in cc)

pub returns-clause-read : goal.returns-clause-read
returns-clause-read c =
    let row = c.signature-signature.ensures in
    call_read c.args.kind c.args.into (read_argument (signature_of c.args.kind).a c.args.tokens.now)
    (read_argument (signature_of c.args.kind).b c.read_argument.new.cursor) (read_argument (signature_of c.args.kind).c c.read_argument-2.new.cursor)
    c.read_argument.new.cursor c.read_argument-2.new.cursor c.read_argument-3.new.cursor
    c.args.builder.now c.read_argument.new.builder c.read_argument-2.new.builder c.read_argument-3.new.builder
    c.in-Some.a c.in-Some-2.b c.in-Some-3.c
    (rw (← row, ← c.new-cursor.ensures) (rw c.in-Some.is at c.in_ok-a.ensures.read)) refl
    (rw (← row) (rw c.in-Some-2.is at c.in_ok-b.ensures.read)) refl
    (rw (← row) (rw c.in-Some-3.is at c.in_ok-c.ensures.read)) (c.if-not-is_empty.ensures.0 refl)
