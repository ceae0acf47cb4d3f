-- The hold of the lock settles it.
use Rattle.std.proofs.Common.{◌==◌, ◌&&◌, refl, ap, sym, ◌∙◌}
use Rattle.wdf_model.specs.declared.entries.Held.{Held}
use Rattle.wdf_lock.specs.Holds.{is_of, passes}
use Rattle.wdf_lock.proofs.Finding.{found_any}
use Rattle.wdf_lock.proofs.locks.Locks.holds.Goals as goal

pub returns-in-Some : goal.returns-in-Some
returns-in-Some c =
    let q = λ (h : Held). h.frame.0 == c.args.f.0 in
    ap (passes q) (sym c.in-Some.is)
    ∙ ap (passes q) c.hold_of.ensures.value
    ∙ found_any (is_of c.args.lock) q (λ h. is_of c.args.lock h && q h) (λ h e. rw e refl) (λ h e. rw e refl) c.args.self.now.held c.hold_of.ensures.once

pub returns-in-None : goal.returns-in-None
returns-in-None c =
    let q = λ (h : Held). h.frame.0 == c.args.f.0 in
    ap (passes q) (sym c.in-None.is)
    ∙ ap (passes q) c.hold_of.ensures.value
    ∙ found_any (is_of c.args.lock) q (λ h. is_of c.args.lock h && q h) (λ h e. rw e refl) (λ h e. rw e refl) c.args.self.now.held c.hold_of.ensures.once
