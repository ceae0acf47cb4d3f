-- Agent 0 of a run with the policy is the policy, and knows of each device what the words of the law say.
use Rattle.std.proofs.Common.{if◌then◌else◌, ◌≡◌, ℕ, zero, suc, ◌+◌, Bool, true, false, List, [], ◌∷◌, Option, Some, map, slice_get, refl, sym, ap, ◌∙◌}
use Rattle.wdf_base.specs.Meaning.{Meaning}
use Rattle.wdf_base.specs.declared.plan.Plan.{Plan}
use Rattle.wdf_base.specs.declared.event.Event.{Event}
use Rattle.wdf_base.specs.declared.event.Event.TheVariants as event
use Rattle.wdf_base.specs.declared.event.Post.{Post}
use Rattle.wdf_model.specs.State.{State}
use Rattle.wdf_model.specs.rules.Deeds.{told}
use Rattle.wdf_model.specs.rules.Steps.{after, deeds}
use Rattle.wdf_model.specs.agents.App.{App}
use Rattle.wdf_model.specs.agents.IdlePolicy.{IdlePolicy, policy_after}
use Rattle.wdf_model.proofs.Counting.{counted_first, counting_commutes}
use Rattle.wdf_idle.proofs.Concerning.{as_it_was}
use Rattle.law_idle.specs.Idling.{time_step}
use Rattle.law_idle.specs.Policies.{HasPolicy}

-- ---- agents

-- an event is told to the agents, and changes none of them otherwise
pub agents_told : {A : Type 0} (plan : Plan) (m : Meaning A) (S : State A) (e : Event) → (after plan m S e).agents ≡ told m e S.agents
agents_told {A} plan m S e =
    let ds = deeds plan S e in
    ap (λ (T : State A). T.agents) (sym (counted_first plan m ds e S)) ∙ ap (λ (T : State A). T.agents) (counting_commutes plan m ds e S)

pub mapped_at : {T U : Type 0} (f : T → U) (xs : List T) (j : ℕ) (x : T) → slice_get xs j ≡ Some x → slice_get (map f xs) j ≡ Some (f x)
mapped_at f [] j x h = absurd (let z : ⊥ = cc in z)
mapped_at f (y ∷ ys) zero x h = let same : y ≡ x = cc in ap (λ z. Some (f z)) same
mapped_at f (y ∷ ys) (suc j) x h = mapped_at f ys j x h

pub from_mapped : {T U : Type 0} (f : T → U) (xs : List T) (j : ℕ) (y : U) → slice_get (map f xs) j ≡ Some y → (x : T) × (slice_get xs j ≡ Some x) × (f x ≡ y)
from_mapped f [] j y h = absurd (let z : ⊥ = cc in z)
from_mapped f (x ∷ xs) zero y h = (x, refl, (let same : f x ≡ y = cc in same))
from_mapped f (x ∷ xs) (suc j) y h = from_mapped f xs j y h

-- ---- agent 0

pub record IsPolicy {A : Type 0} (policy : A → Option IdlePolicy) (S : State A) (p : IdlePolicy) : Type 0 where
  pub agent : A
  pub at : slice_get S.agents 0 ≡ Some agent
  pub is : policy agent ≡ Some p

module _ {A : Type 0} (plan : Plan) (m : Meaning A) (policy : A → Option IdlePolicy) (has : HasPolicy m policy) (S : State A) (p : IdlePolicy) (k : IsPolicy policy S p) where
  heard : (e : Event) → told m e S.agents ≡ map (λ a. m.fold a e) S.agents → IsPolicy policy (after plan m S e) (policy_after p e)
  heard e t = record {
    agent = m.fold k.agent e;
    at = ap (λ xs. slice_get xs 0) (agents_told plan m S e ∙ t) ∙ mapped_at (λ a. m.fold a e) S.agents 0 k.agent k.at;
    is = has.hears k.agent p e k.is;
  }

  untold : (e : Event) → told m e S.agents ≡ S.agents → policy_after p e ≡ p → IsPolicy policy (after plan m S e) (policy_after p e)
  untold e t same = record {
    agent = k.agent;
    at = ap (λ xs. slice_get xs 0) (agents_told plan m S e ∙ t) ∙ k.at;
    is = k.is ∙ ap Some (sym same);
  }

  pub policy_goes_on : (e : Event) → IsPolicy policy (after plan m S e) (policy_after p e)
  policy_goes_on (event.Local cpu line) = untold (event.Local cpu line) refl (as_it_was p (event.Local cpu line) refl)
  policy_goes_on (event.Log cpu v) = untold (event.Log cpu v) refl (as_it_was p (event.Log cpu v) refl)
  policy_goes_on e = heard e refl

-- ---- the manager's clock

after_post_clock : (p : IdlePolicy) (agent : ℕ) (q : Post) (b : Bool) (line : App) → line.clock ≡ p.manager.clock → (if b then p.manager else line).clock ≡ p.manager.clock
after_post_clock p agent q true line h = refl
after_post_clock p agent q false line h = h

posted_clock : (p : App) (b : Bool) → (if b then record p { posted = p.posted + 1 } else p).clock ≡ p.clock
posted_clock p true = refl
posted_clock p false = refl

pub clock_goes_on : (p : IdlePolicy) (e : Event) → (policy_after p e).manager.clock ≡ time_step p.manager.clock e
clock_goes_on p (event.Posted agent q answer) = after_post_clock p agent q _ _ (posted_clock p.manager _)
clock_goes_on p (event.Tick time) = refl
clock_goes_on p _ = refl

lines_by : (p : IdlePolicy) (b : Bool) (line : App) → line.lines ≡ p.manager.lines → (if b then p.manager else line).lines ≡ p.manager.lines
lines_by p true line h = refl
lines_by p false line h = h

posted_lines : (p : App) (b : Bool) → (if b then record p { posted = p.posted + 1 } else p).lines ≡ p.lines
posted_lines p true = refl
posted_lines p false = refl

pub lines_stay : (p : IdlePolicy) (e : Event) → (policy_after p e).manager.lines ≡ p.manager.lines
lines_stay p (event.Posted agent q answer) = lines_by p _ _ (posted_lines p.manager _)
lines_stay p (event.Tick time) = refl
lines_stay p _ = refl
