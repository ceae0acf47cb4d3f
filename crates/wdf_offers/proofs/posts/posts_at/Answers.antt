-- The post is the agent's.
use Rattle.std.proofs.Common.{◌∙◌, sym}
use Rattle.wdf_offers.proofs.posts.posts_at.Goals as goal

pub returns-in-Some : goal.returns-in-Some
returns-in-Some g c =
    let here = c.in-Ok.ensures in
    here.1 ∙ sym here.2 ∙ sym c.post_offered.ensures ∙ c.in-Some.is

pub returns-in-None : goal.returns-in-None
returns-in-None g c =
    let here = c.in-Ok.ensures in
    absurd (let e = sym here.2 ∙ sym c.post_offered.ensures ∙ c.in-None.is in let z : ⊥ = cc in z)
