-- The first of these levels is removed, if there is one.
use Rattle.std.proofs.Common.{◌≡◌, false, [], ◌∷◌, length, take, refl, ap, sym, ◌∙◌, arith, length-append}
use Rattle.std.specs.VecDeque.{deque_capacity}
use Rattle.std.specs.List.{remove}
use Rattle.std.specs.declared.collections.VecDeque.{VecDeque}
use Rattle.wdf_model.specs.Tables.{contains}
use Rattle.wdf_model.specs.declared.entries.HeldLevel.{HeldLevel}
use Rattle.wdf_model.specs.parts.Cpus.{less_one}
use Rattle.wdf_cpu.specs.Levels.{held_by}
use Rattle.wdf_cpu.proofs.HeldLevels.{held_by_all, held_by_yes, less_one_at, less_one_none, removed_there, shorter, unmet}
use Rattle.wdf_cpu.proofs.levels.drop_level.Goals as goal

pub loop-met-init : goal.loop-met-init
loop-met-init c = record { same = refl; met = refl; before = refl }

pub next_of-place-requires : goal.next_of-place-requires
next_of-place-requires c =
    let met = c.loop-met.invariant.met in
    let many = ap (λ (q : VecDeque _ _). length (held_by q.items c.args.f.0)) c.loop-met.invariant.same in
    omega arith

pub returns-then-index-level-clause-items : goal.returns-then-index-level-clause-items
returns-then-index-level-clause-items c =
    let n = c.next_of-place.ensures in
    let len = c.loop-met.levels.ok.0 in
    let removed : c.remove-held.new.self.items ≡ remove c.loop-met.levels.items c.next_of-place.result =
    removed_there c.next_of-place.result c.loop-met.levels.len c.loop-met.levels.items c.remove-held.new.self.items c.remove-held.result len n.within c.remove-held.ensures.items c.remove-held.ensures.variant in
    let before : contains c.args.level.0 (held_by (take c.next_of-place.result c.loop-met.levels.items) c.args.f.0) ≡ false = ap (contains c.args.level.0) n.none ∙ c.loop-met.invariant.before in
    removed
    ∙ less_one_at c.args.f.0 c.args.level.0 c.loop-met.levels.items c.next_of-place.result c.index.result.now n.within (n.its c.index.result.now)
    (ap (λ (l : HeldLevel). l.level.0) (sym c.index.ensures) ∙ c.if-index-level.true) before
    ∙ ap (λ (q : VecDeque _ _). less_one c.args.f.0 c.args.level.0 q.items) c.loop-met.invariant.same

pub returns-then-index-level-clause-less : goal.returns-then-index-level-clause-less
returns-then-index-level-clause-less c =
    let n = c.next_of-place.ensures in
    let len = c.loop-met.levels.ok.0 in
    let removed : c.remove-held.new.self.items ≡ remove c.loop-met.levels.items c.next_of-place.result =
    removed_there c.next_of-place.result c.loop-met.levels.len c.loop-met.levels.items c.remove-held.new.self.items c.remove-held.result len n.within c.remove-held.ensures.items c.remove-held.ensures.variant in
    let one = shorter c.args.f.0 c.loop-met.levels.items c.next_of-place.result c.index.result.now n.within (n.its c.index.result.now) in
    let many = ap (λ (q : VecDeque _ _). length (held_by q.items c.args.f.0)) c.loop-met.invariant.same in
    rw removed (omega arith)

pub returns-then-index-level-clause-capacity : goal.returns-then-index-level-clause-capacity
returns-then-index-level-clause-capacity c = c.remove-held.ensures.capacity ∙ ap (λ (q : VecDeque _ _). deque_capacity q) c.loop-met.invariant.same

pub loop-met-preserved : goal.loop-met-preserved
loop-met-preserved c =
    let n = c.next_of-place.ensures in
    let more = held_by_yes c.loop-met.levels.items c.next_of-place.result c.args.f.0 c.index.result.now n.within (n.its c.index.result.now) in
    let long = length-append (held_by (take c.next_of-place.result c.loop-met.levels.items) c.args.f.0) (c.index.result.now.level.0 ∷ []) in
    let none = ap length n.none in
    let met = c.loop-met.invariant.met in
    record {
      same = c.loop-met.invariant.same;
      met = rw (more, ← c.index.ensures) (omega arith);
      before = rw (more, ← c.index.ensures) (unmet c.args.level.0 c.index.result.now.level.0 (held_by (take c.next_of-place.result c.loop-met.levels.items) c.args.f.0) (ap (contains c.args.level.0) n.none ∙ c.loop-met.invariant.before) c.if-index-level.false);
    }

pub returns-clause-items : goal.returns-clause-items
returns-clause-items c =
    let many = ap (λ (q : VecDeque _ _). length (held_by q.items c.args.f.0)) c.loop-met.invariant.same in
    let met = c.loop-met.invariant.met in
    let all : held_by (take c.loop-met.place c.loop-met.levels.items) c.args.f.0 ≡ held_by c.loop-met.levels.items c.args.f.0 = held_by_all c.loop-met.levels.items c.loop-met.place c.args.f.0 (omega arith) in
    less_one_none c.args.f.0 c.args.level.0 c.loop-met.levels.items (ap (contains c.args.level.0) (sym all) ∙ c.loop-met.invariant.before)
    ∙ ap (λ (q : VecDeque _ _). less_one c.args.f.0 c.args.level.0 q.items) c.loop-met.invariant.same

pub returns-clause-less : goal.returns-clause-less
returns-clause-less c =
    let many = ap (λ (q : VecDeque _ _). length (held_by q.items c.args.f.0)) c.loop-met.invariant.same in
    omega arith

pub returns-clause-capacity : goal.returns-clause-capacity
returns-clause-capacity c = ap (λ (q : VecDeque _ _). deque_capacity q) c.loop-met.invariant.same
