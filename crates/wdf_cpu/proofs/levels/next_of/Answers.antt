-- Not all levels of the frame are before the place, so there is one at it or after it.
use Rattle.std.proofs.Common.{length, refl, ap, sym, ◌∙◌, arith}
use Rattle.std.proofs.lemmas.List.{get_or_default}
use Rattle.wdf_model.specs.declared.entries.HeldLevel.{HeldLevel}
use Rattle.wdf_cpu.proofs.HeldLevels.{held_by_no, more_within}
use Rattle.wdf_cpu.proofs.levels.next_of.Goals as goal

pub loop-f-init : goal.loop-f-init
loop-f-init c = refl

pub index-requires : goal.index-requires
index-requires c =
    let met = ap length c.loop-f.invariant in
    let within = more_within c.args.levels.now.items c.loop-f.place c.args.f.0 (omega arith) in
    let len = c.args.levels.now.ok.0 in
    omega arith

pub overflow_add-place : goal.overflow_add-place
overflow_add-place c =
    let met = ap length c.loop-f.invariant in
    let within = more_within c.args.levels.now.items c.loop-f.place c.args.f.0 (omega arith) in
    let len = c.args.levels.now.ok.0 in
    omega arith

pub loop-f-smaller : goal.loop-f-smaller
loop-f-smaller c =
    let met = ap length c.loop-f.invariant in
    let within = more_within c.args.levels.now.items c.loop-f.place c.args.f.0 (omega arith) in
    omega arith

pub loop-f-preserved : goal.loop-f-preserved
loop-f-preserved c =
    let met = ap length c.loop-f.invariant in
    let within = more_within c.args.levels.now.items c.loop-f.place c.args.f.0 (omega arith) in
    held_by_no c.args.levels.now.items c.loop-f.place c.args.f.0 c.index.result.now within
    (λ its. c.loop-f-test.true (ap (λ (l : HeldLevel). l.frame.0) c.index.ensures ∙ its)) ∙ c.loop-f.invariant

pub returns : goal.returns
returns c =
    let met = ap length c.loop-f.invariant in
    let within = more_within c.args.levels.now.items c.loop-f.place c.args.f.0 (omega arith) in
    record {
      within = within;
      its = λ d. ap (λ (l : HeldLevel). l.frame.0) (get_or_default c.args.levels.now.items c.loop-f.place d c.index.result.now within ∙ sym c.index.ensures) ∙ c.loop-f-test.false;
      none = c.loop-f.invariant;
    }
