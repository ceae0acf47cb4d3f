-- At each place of every run the agent of each device knows what the events before tell.
use Rattle.std.proofs.Common.{◌≡◌, ◌⊎◌, inl, inr, ℕ, zero, suc, ◌+◌, ◌<◌, true, ◌&&◌, List, [], ◌∷◌, ◌++◌, map, fold, take, Option, Some, None, option_map, slice_get, refl, sym, ap, ◌∙◌, subst, arith}
use Rattle.std.specs.Prelude.{option_and_then}
use Rattle.std.specs.List.{range_with_len}
use Rattle.std.proofs.lemmas.Option.{slice_get-map}
use Rattle.std.proofs.lemmas.List.Sums.{fold-append}
use Rattle.wdf_base.specs.Meaning.{Meaning}
use Rattle.wdf_base.specs.Resolved.{IsResolved}
use Rattle.wdf_base.specs.Same.{same_handle, same_option, same_post}
use Rattle.wdf_base.specs.declared.plan.Plan.{Plan}
use Rattle.wdf_base.specs.declared.event.Event.{Event}
use Rattle.wdf_base.specs.declared.event.Event.TheVariants as event
use Rattle.wdf_base.specs.declared.event.Post.{Post}
use Rattle.wdf_base.specs.declared.event.Post.TheVariants as post
use Rattle.wdf_model.specs.declared.entries.DeviceAction.{DeviceAction}
use Rattle.wdf_model.specs.Plans.{agent_count, device_of_agent}
use Rattle.wdf_model.specs.State.{State}
use Rattle.wdf_model.specs.agents.Device.{Device, action_post, device_after, device_at, due_action}
use Rattle.wdf_model.specs.rules.Deeds.{told}
use Rattle.wdf_model.specs.rules.Posts.{due_of, post_answer, post_fits}
use Rattle.wdf_model.specs.rules.Ready.{IsRunOf, ready, state_after}
use Rattle.wdf_model.specs.rules.Steps.{after, may}
use Rattle.wdf_model.proofs.Runs.{along_run}
use Rattle.wdf_model.proofs.Tests.{both_left, both_right}
use Rattle.law_machine_base.specs.FactsOfEvents.{IsTick}
use Rattle.law_machine_base.proofs.Follows.{follows, state_goes_on}
use Rattle.law_machine_places.proofs.Rows.{post_is, some_same}
use Rattle.law_devices.specs.Agents.{HasDevices}
use Rattle.law_devices.proofs.Numbers.{agent_there, own_number}
use Rattle.law_devices.proofs.Opening.{knows_first}
use Rattle.law_devices.proofs.Steps.{IsPostIf, Knows, knows_more}
use Rattle.law_idle.proofs.Policy.{agents_told}

range_there : (a n k : ℕ) → k < n → slice_get (range_with_len a n) k ≡ Some (a + k)
range_there a zero k h = absurd (omega (arith, h))
range_there a (suc n) zero h = let same : a ≡ a + 0 = omega arith in ap Some same
range_there a (suc n) (suc k) h = let same : a + 1 + k ≡ a + suc k = omega arith in range_there (a + 1) n k (omega (arith, h)) ∙ ap Some same

module _ {A : Type 0} (plan : Plan) (resolved : IsResolved plan) (m : Meaning A) (device : A → Option Device) (has : HasDevices m device) where
  -- among the agents number k is device d, and knows what these events tell
  pub record IsDevice (d k : ℕ) (es : List Event) (agents : List A) : Type 0 where
    pub agent : A
    pub at : slice_get agents k ≡ Some agent
    pub now : Device
    pub is : device agent ≡ Some now
    pub knows : Knows plan d k es now
    -- what it heard
    pub history : now ≡ fold device_after (device_at plan d k) es

  -- each device is among the agents
  abbrev pub AllKnow : List Event → List A → Type 0
  AllKnow es agents = (k d : ℕ) → device_of_agent plan k ≡ Some d → IsDevice d k es agents

  -- ---- the opening

  opens : AllKnow [] (state_after plan m []).agents
  unfolding state_after
  opens k d own =
      let within : k < agent_count plan = agent_there plan resolved k d own in
      let number : 0 + k ≡ k = omega arith in
      record {
        agent = m.begin plan k;
        at = slice_get-map (m.begin plan) (range_with_len 0 (agent_count plan)) k ∙ ap (option_map (m.begin plan)) (range_there 0 (agent_count plan) k within ∙ ap Some number);
        now = device_at plan d k;
        is = has.begins plan k d own;
        knows = knows_first plan d k;
        history = refl;
      }

  -- ---- one event more

  module _ (S : State A) (es : List Event) (all : AllKnow es S.agents) where
    -- a post of any agent is what it has due
    abbrev PostsFit : Event → Type 0
    PostsFit e = (k d : ℕ) (own : device_of_agent plan k ≡ Some d) → IsPostIf plan resolved d k es (all k d own).now (all k d own).knows e

    heard : (e : Event) → PostsFit e → AllKnow (es ++ e ∷ []) (map (λ x. m.fold x e) S.agents)
    heard e fits k d own = let i = all k d own in record {
      agent = m.fold i.agent e;
      at = slice_get-map (λ x. m.fold x e) S.agents k ∙ ap (option_map (λ x. m.fold x e)) i.at;
      now = device_after i.now e;
      is = has.hears i.agent i.now e i.is;
      knows = knows_more plan resolved d k es i.now i.knows e (fits k d own);
      history = ap (λ h. device_after h e) i.history ∙ sym (fold-append device_after (device_at plan d k) es (e ∷ []));
    }

    -- no agent hears of a step inside a frame
    unheard : (e : Event) → ((h : Device) → device_after h e ≡ h) → PostsFit e → AllKnow (es ++ e ∷ []) S.agents
    unheard e still fits k d own = let i = all k d own in record {
      agent = i.agent;
      at = i.at;
      now = i.now;
      is = i.is;
      knows = subst (Knows plan d k (es ++ e ∷ [])) (still i.now) (knows_more plan resolved d k es i.now i.knows e (fits k d own));
      history = sym (still i.now) ∙ ap (λ h. device_after h e) i.history ∙ sym (fold-append device_after (device_at plan d k) es (e ∷ []));
    }

    next : (e : Event) → PostsFit e → AllKnow (es ++ e ∷ []) (told m e S.agents)
    next (event.Local cpu line) fits = unheard (event.Local cpu line) (λ h. refl) fits
    next (event.Log cpu v) fits = unheard (event.Log cpu v) (λ h. refl) fits
    next e fits = heard e fits

    due_by : (h : Device) (p : Post) (o : Option DeviceAction) → due_action h ≡ o → option_map action_post o ≡ Some p → (l : DeviceAction) × (due_action h ≡ Some l) × (p ≡ post.Act l.action)
    due_by h p None e is = absurd (let z : ⊥ = cc in z)
    due_by h p (Some l) e is = (l, e, (let same : post.Act l.action ≡ p = cc in sym same))

    posts_fit : (e : Event) → may plan m S e ≡ true → PostsFit e
    posts_fit (event.Posted agent p answer) h k d own =
        let i = all k d own in
        let two : (same_option same_post (due_of m S agent) (Some p) && post_fits plan S agent p) ≡ true = both_left _ (same_option same_handle (post_answer plan S agent p) answer) h in
        let due : due_of m S agent ≡ Some p = some_same same_post post_is (due_of m S agent) p (both_left (same_option same_post (due_of m S agent) (Some p)) (post_fits plan S agent p) two) in
        let fits : post_fits plan S agent p ≡ true = both_right (same_option same_post (due_of m S agent) (Some p)) (post_fits plan S agent p) two in (
          λ same. due_by i.now p (due_action i.now) refl (sym (has.posts i.agent i.now i.is) ∙ ap (option_and_then m.due) (sym i.at) ∙ ap (due_of m S) (sym same) ∙ due),
          λ x is. (subst (λ q. post_fits plan S agent q ≡ true) is fits, λ other its. other (own_number plan agent d its ∙ sym (own_number plan k d own))),
        )
    posts_fit _ h k d own = tt

  pub fits_at : (S : State A) (offered es : List Event) (all : AllKnow es S.agents) (e : Event) → (may plan m S e ≡ true) ⊎ IsTick m S offered e → PostsFit S es all e
  fits_at S offered es all e (inl h) = posts_fit S es all e h
  fits_at S offered es all e (inr t) = subst (PostsFit S es all) (sym t.tick) (λ k d own. tt)

  next_at : (S : State A) (offered es : List Event) (e : Event) → (may plan m S e ≡ true) ⊎ IsTick m S offered e → AllKnow es S.agents → AllKnow (es ++ e ∷ []) (after plan m S e).agents
  next_at S offered es e comes all = subst (AllKnow (es ++ e ∷ [])) (sym (agents_told plan m S e)) (next S es all e (fits_at S offered es all e comes))

  -- ---- each place

  pub all_know : (run : List Event) → IsRunOf plan m run → (n : ℕ) → AllKnow (take n run) (state_after plan m (take n run)).agents
  all_know run is_run n = along_run (λ es. AllKnow es (state_after plan m es).agents) (ready plan m) run opens
      (λ before e place _ all at. subst (λ (T : State A). AllKnow (before ++ e ∷ []) T.agents) (sym (state_goes_on plan m before e))
      (next_at (state_after plan m before) (ready plan m before) before e (follows plan m before place e at) all))
      is_run n
