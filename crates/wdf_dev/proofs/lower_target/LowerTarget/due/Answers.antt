-- The request at the place of the first that is due.
use Rattle.std.proofs.Common.{◌≡◌, List, Some, None, slice_get, ap, sym, subst, ◌∙◌}
use Rattle.wdf_base.specs.declared.event.Post.TheVariants as post
use Rattle.wdf_model.specs.declared.entries.SentRequest.{SentRequest}
use Rattle.wdf_model.specs.agents.LowerTarget as target
use Rattle.wdf_model.specs.agents.LowerTarget.{LowerTarget}
use Rattle.wdf_dev.specs.declared.ahead.Ahead.{Ahead}
use Rattle.wdf_dev.proofs.Acting.{sent_due_is}
use Rattle.wdf_dev.proofs.lower_target.LowerTarget.due.Goals as goal

pub returns-in-Some : goal.returns-in-Some
returns-in-Some c =
    let s = c.self.inside in
    let T : LowerTarget = record { agent = s.agent; target = s.target.0; delay = s.delay; status = s.status; depth = s.depth; sent = s.sent.items; clock = s.clock } in
    let there : Some c.in-Some.sent ≡ slice_get s.sent.items s.ahead.first = sym c.in-Some.is ∙ c.sent_at.ensures ∙ ap (λ (xs : List SentRequest). slice_get xs s.ahead.first) c.as_slice.ensures.value in
    let due = sent_due_is T s.ahead.first (Some c.in-Some.sent) (ap (λ (a : Ahead). a.first) c.self.invariant.ahead) there in
    subst (λ (W : LowerTarget). Some (post.Done c.in-Some.sent.request c.final_status.result) ≡ target.target_due W) c.self.view_is (ap (λ status. Some (post.Done c.in-Some.sent.request status)) c.final_status.ensures ∙ due)

pub returns-in-None : goal.returns-in-None
returns-in-None c =
    let s = c.self.inside in
    let T : LowerTarget = record { agent = s.agent; target = s.target.0; delay = s.delay; status = s.status; depth = s.depth; sent = s.sent.items; clock = s.clock } in
    let there : None ≡ slice_get s.sent.items s.ahead.first = sym c.in-None.is ∙ c.sent_at.ensures ∙ ap (λ (xs : List SentRequest). slice_get xs s.ahead.first) c.as_slice.ensures.value in
    subst (λ (W : LowerTarget). None ≡ target.target_due W) c.self.view_is (sent_due_is T s.ahead.first None (ap (λ (a : Ahead). a.first) c.self.invariant.ahead) there)
