-- The hold of the lock settles it.
use Rattle.std.proofs.Common.{◌==◌, ◌&&◌, refl, ap, sym, ◌∙◌}
use Rattle.wdf_model.proofs.Counts.{equal, not_equal}
use Rattle.wdf_lock.specs.Holds.{is_call_of, is_of, passes}
use Rattle.wdf_lock.proofs.Finding.{found_any}
use Rattle.wdf_lock.proofs.locks.Locks.holds_by_call.Goals as goal

pub returns-then-held-f : goal.returns-then-held-f
returns-then-held-f c =
    let q = is_call_of c.args.f.0 in
    sym (ap (λ b. b && c.in-Some.held.by_call) (equal c.in-Some.held.frame.0 c.args.f.0 c.if-held-f.true))
    ∙ ap (passes q) (sym c.in-Some.is)
    ∙ ap (passes q) c.hold_of.ensures.value
    ∙ found_any (is_of c.args.lock) q (λ h. is_of c.args.lock h && (h.frame.0 == c.args.f.0) && h.by_call) (λ h e. rw e refl) (λ h e. rw e refl) c.args.self.now.held c.hold_of.ensures.once

pub returns-else-held-f : goal.returns-else-held-f
returns-else-held-f c =
    let q = is_call_of c.args.f.0 in
    let no_other = not_equal c.in-Some.held.frame.0 c.args.f.0 c.if-held-f.false in
    no_other
    ∙ sym (ap (λ b. b && c.in-Some.held.by_call) no_other)
    ∙ ap (passes q) (sym c.in-Some.is)
    ∙ ap (passes q) c.hold_of.ensures.value
    ∙ found_any (is_of c.args.lock) q (λ h. is_of c.args.lock h && (h.frame.0 == c.args.f.0) && h.by_call) (λ h e. rw e refl) (λ h e. rw e refl) c.args.self.now.held c.hold_of.ensures.once

pub returns-in-None : goal.returns-in-None
returns-in-None c =
    let q = is_call_of c.args.f.0 in
    ap (passes q) (sym c.in-None.is)
    ∙ ap (passes q) c.hold_of.ensures.value
    ∙ found_any (is_of c.args.lock) q (λ h. is_of c.args.lock h && (h.frame.0 == c.args.f.0) && h.by_call) (λ h e. rw e refl) (λ h e. rw e refl) c.args.self.now.held c.hold_of.ensures.once
