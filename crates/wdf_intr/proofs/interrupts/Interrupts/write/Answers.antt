-- One bit is written.
use Rattle.std.proofs.Common.{false, ap, ◌∙◌}
use Rattle.wdf_model.specs.Tables.{put}
use Rattle.wdf_model.specs.parts.Interrupts.{Interrupts}
use Rattle.wdf_intr.proofs.Writing.{put_is, put_holds}
use Rattle.wdf_intr.proofs.interrupts.Interrupts.write.Goals as goal

pub invariant_of-self : goal.invariant_of-self
invariant_of-self c = rw (c.put.ensures, c.max-self-inside.ensures) (put_holds c.self.inside.set c.self.inside.end c.args.i.0 c.args.on c.self.invariant c.requires)

pub returns : goal.returns
returns c =
    rw (c.put.ensures, c.max-self-inside.ensures) (put_is c.self.inside.set c.self.inside.end c.args.i.0 c.args.on c.self.invariant c.requires)
    ∙ ap (λ (I : Interrupts). put false I.enabled c.args.i.0 c.args.on) c.self.view_is
