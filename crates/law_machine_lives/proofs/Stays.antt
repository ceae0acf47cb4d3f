-- What several deeds leave alone: a reader of a state that they don't reach reads the same.
use Rattle.std.proofs.Common.{if◌then◌else◌, ◌≡◌, ℕ, Bool, true, false, List, [], ◌∷◌, fold, refl, ap, ◌∙◌}
use Rattle.wdf_base.specs.declared.plan.Plan.{Plan}
use Rattle.wdf_base.specs.Lives.{is_live}
use Rattle.wdf_model.specs.parts.Tree.{Tree, life_of}
use Rattle.wdf_model.specs.parts.Requests.{Requests}
use Rattle.wdf_model.specs.parts.Queues.{Queues}
use Rattle.wdf_model.specs.parts.Power.{Power}
use Rattle.wdf_model.specs.parts.Deferred.Dpcs.{Dpcs}
use Rattle.wdf_model.specs.parts.Deferred.WorkItems.{WorkItems}
use Rattle.wdf_model.specs.parts.Deferred.Timers.{Timers}
use Rattle.wdf_model.specs.State.{State, is_with_driver}
use Rattle.wdf_model.specs.rules.Deeds.{ask_object, close_queue, close_returning, give_up, give_up_if, withdraw}
use Rattle.law_machine_base.proofs.Deletion.{object_live, object_off}

module _ {A X : Type 0} (reads : State A → X) where
  -- a reader of no queue's counts and no power
  module _ (apart : (S : State A) (Q : Queues) (P : Power) → reads (record S { queues = Q; power = P }) ≡ reads S) where
    given_by : (S : State A) (Q : Queues) (P : Power) (b : Bool) → reads (if b then record S { queues = Q; power = P } else S) ≡ reads S
    given_by S Q P true = apart S Q P
    given_by S Q P false = refl

    pub given : (S : State A) (r : ℕ) → reads (give_up S r) ≡ reads S
    given S r = given_by S _ _ (is_with_driver S r)

    pub given_if : (S : State A) (forget : Bool) (r : ℕ) → reads (give_up_if forget S r) ≡ reads S
    given_if S true r = given S r
    given_if S false r = refl

  -- a reader of no queue, request or power
  module _ (apart : (S : State A) (Q : Queues) (R : Requests) (P : Power) → reads (record S { queues = Q; requests = R; power = P }) ≡ reads S) where
    pub gives_up : (S : State A) (r : ℕ) → reads (give_up S r) ≡ reads S
    gives_up S r = given (λ T Q P. apart T Q T.requests P) S r

    pub gives_up_if : (S : State A) (forget : Bool) (r : ℕ) → reads (give_up_if forget S r) ≡ reads S
    gives_up_if S forget r = given_if (λ T Q P. apart T Q T.requests P) S forget r

    pub withdraws : (plan : Plan) (q : ℕ) (rs : List ℕ) (S : State A) → reads (fold (withdraw plan q) S rs) ≡ reads S
    withdraws plan q [] S = refl
    withdraws plan q (r ∷ rs) S = withdraws plan q rs (withdraw plan q S r) ∙ apart S _ _ S.power

    pub returns_closed : (qs : List ℕ) (S : State A) → reads (fold close_returning S qs) ≡ reads S
    returns_closed [] S = refl
    returns_closed (q ∷ qs) S = returns_closed qs (close_returning S q) ∙ apart S S.queues _ S.power

    pub queues_closed : (qs : List ℕ) (S : State A) → reads (fold close_queue S qs) ≡ reads S
    queues_closed [] S = refl
    queues_closed (q ∷ qs) S = queues_closed qs (close_queue S q) ∙ apart S _ _ S.power

  -- a reader of no object and no deferred work
  module _ (apart : (S : State A) (T : Tree) (D : Dpcs) (W : WorkItems) (U : Timers) → reads (record S { tree = T; dpcs = D; work_items = W; timers = U }) ≡ reads S) where
    asks_one : (S : State A) (x : ℕ) (b : Bool) → is_live (life_of S.tree x) ≡ b → reads (ask_object S x) ≡ reads S
    asks_one S x true e = ap reads (object_live S x e) ∙ apart S _ _ _ _
    asks_one S x false e = ap reads (object_off S x e)

    pub asks_all : (xs : List ℕ) (S : State A) → reads (fold ask_object S xs) ≡ reads S
    asks_all [] S = refl
    asks_all (x ∷ xs) S = asks_all xs (ask_object S x) ∙ asks_one S x (is_live (life_of S.tree x)) refl

pub withdrawn_power : {A : Type 0} (plan : Plan) (q : ℕ) (rs : List ℕ) (S : State A) → (fold (withdraw plan q) S rs).power ≡ S.power
withdrawn_power plan q [] S = refl
withdrawn_power plan q (r ∷ rs) S = withdrawn_power plan q rs (withdraw plan q S r)

pub returning_power : {A : Type 0} (qs : List ℕ) (S : State A) → (fold close_returning S qs).power ≡ S.power
returning_power [] S = refl
returning_power (q ∷ qs) S = returning_power qs (close_returning S q)

pub closed_power : {A : Type 0} (qs : List ℕ) (S : State A) → (fold close_queue S qs).power ≡ S.power
closed_power [] S = refl
closed_power (q ∷ qs) S = closed_power qs (close_queue S q)
