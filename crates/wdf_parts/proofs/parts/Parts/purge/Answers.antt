-- The front is withdrawn, and what waits after it is left.
use Rattle.std.proofs.Common.{◌≡◌, ◌≤◌, ◌==◌, Some, None, count_by, fold, option_map, refl, ap, sym, ◌∙◌, arith}
use Rattle.wdf_base.specs.declared.ids.ObjectId.{ObjectId}
use Rattle.wdf_model.specs.parts.Queues.{front, waiting_in}
use Rattle.wdf_model.specs.rules.Deeds.{withdraw}
use Rattle.wdf_parts.proofs.Walks.{counted_then, fewer_wait, front_waits, nothing_waits, purge_goes_on}
use Rattle.wdf_parts.proofs.parts.Parts.purge.Goals as goal

pub waiting-init : goal.waiting-init
waiting-init g c = rw c.set_mode.ensures (record {
  rest = refl;
  once = c.requires.once;
  there = c.requires.requests;
})

pub withdraw-requires : goal.withdraw-requires
withdraw-requires g c =
    let first : front c.waiting.self.queues c.args.q.0 ≡ Some c.in-Some.r.0 = sym c.in-Some.ensures in
    c.waiting.invariant.there c.in-Some.r.0 (front_waits c.args.plan.now c.waiting.self c.args.q.0 c.in-Some.r.0 first)

pub waiting-smaller : goal.waiting-smaller
waiting-smaller g c =
    let first : front c.waiting.self.queues c.args.q.0 ≡ Some c.in-Some.r.0 = sym c.in-Some.ensures in
    rw c.withdraw.ensures.done (fewer_wait c.args.plan.now c.waiting.self c.args.q.0 c.in-Some.r.0 first (c.waiting.invariant.once c.in-Some.r.0))

pub waiting-preserved : goal.waiting-preserved
waiting-preserved g c =
    let first : front c.waiting.self.queues c.args.q.0 ≡ Some c.in-Some.r.0 = sym c.in-Some.ensures in
    rw c.withdraw.ensures.done (record {
      rest = purge_goes_on c.args.plan.now c.waiting.self c.args.q.0 c.in-Some.r.0 first (c.waiting.invariant.once c.in-Some.r.0) ∙ c.waiting.invariant.rest;
      once = λ y. let fewer = counted_then c.args.plan.now c.waiting.self c.args.q.0 c.in-Some.r.0 y in let before = c.waiting.invariant.once y in omega arith;
      there = λ y h.
          let fewer = counted_then c.args.plan.now c.waiting.self c.args.q.0 c.in-Some.r.0 y in
          let before : 1 ≤ count_by (λ x. x == y) (waiting_in c.waiting.self.queues c.args.q.0) = omega arith in
          let size = rw c.withdraw.ensures.done at c.withdraw.ensures.size in
          let within = c.waiting.invariant.there y before in
          omega arith;
    })

pub returns : goal.returns
returns g c =
    let none : front c.waiting.self.queues c.args.q.0 ≡ None = sym c.front.ensures ∙ ap (option_map (λ (x : ObjectId). x.0)) c.in_default.is in
    sym (ap (fold (withdraw c.args.plan.now c.args.q.0) c.waiting.self) (nothing_waits (waiting_in c.waiting.self.queues c.args.q.0) none)) ∙ c.waiting.invariant.rest
