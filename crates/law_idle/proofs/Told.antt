-- What the policy knows of a device is what the words of the law say of it.
use Rattle.std.proofs.Common.{ℕ, ◌≡◌, ◌==◌, nat_lt, Bool, not, ◌&&◌, ◌||◌, List, [], ◌∷◌, ◌++◌, refl, ap, sym, ◌∙◌, arith}
use Rattle.std.proofs.lemmas.Bool.Decides.{nat_tests}
use Rattle.wdf_base.specs.declared.plan.Plan.{Plan}
use Rattle.wdf_base.specs.declared.event.Event.{Event}
use Rattle.wdf_model.specs.agents.IdlePolicy.{IdleDevice, changed, count_of, idle_after, timeout_of}
use Rattle.wdf_model.specs.agents.IdlePolicy as policy
use Rattle.law_idle.specs.Idling.{Rest, asleep_rest, asleep_step, awake_rest, awake_step, has_pending, hold_register, hold_step, is_awake, is_held, since, starts_anew, time_after}
use Rattle.law_idle.proofs.Steps.{asleep_as, asleep_now, awake_as, awake_now, hold_as, was_asleep_as, was_awake_as}
use Rattle.law_idle.proofs.Since.{asleep_more, awake_more, held_more, since_more}

-- a request is pending by what the policy knows
abbrev pub has_some : IdleDevice → Bool
has_some x = nat_lt 0 (count_of x.pending)

pub record Told (plan : Plan) (es : List Event) (x : IdleDevice) : Type 0 where
  pub timeout : x.timeout ≡ timeout_of plan x.device.id.0
  pub register : x.hold_register ≡ hold_register plan x.device.id.0
  pub awake : awake_now x ≡ awake_rest plan x.device.id.0 es
  pub asleep : asleep_now x ≡ asleep_rest x.device.id.0 es
  pub hold : x.hold ≡ is_held plan x.device.id.0 es
  pub pending : has_some x ≡ has_pending x.device.id.0 es
  pub since : x.since ≡ since plan x.device.id.0 es

pub none_as : (n : ℕ) → (n == 0) ≡ not (nat_lt 0 n)
none_as n = grind (arith, nat_tests)

-- whether it starts anew, by what was and what is
abbrev anew : Bool → Bool → Bool → Bool → Bool → Bool → Bool
anew a b p q h k = (not a && b) || (p && q) || (h && not k)

six : (a b p q h k a' b' p' q' h' k' : Bool) → a ≡ a' → b ≡ b' → p ≡ p' → q ≡ q' → h ≡ h' → k ≡ k' → anew a b p q h k ≡ anew a' b' p' q' h' k'
six a b p q h k a' b' p' q' h' k' i j l m n o = rw (i, j, l, m, n, o) refl

module _ (plan : Plan) (es : List Event) (e : Event) (x : IdleDevice) (k : Told plan es x) where
  abbrev d : ℕ
  d = x.device.id.0

  abbrev y : IdleDevice
  y = changed x e

  awake_same : awake_now y ≡ awake_rest plan d (es ++ e ∷ [])
  awake_same =
      let one : awake_now y ≡ awake_step d (awake_now x) e = rw (awake_as x e, was_awake_as x e) refl in
      one ∙ ap (λ r. awake_step d r e) k.awake ∙ sym (awake_more plan d es e)

  asleep_same : asleep_now y ≡ asleep_rest d (es ++ e ∷ [])
  asleep_same =
      let one : asleep_now y ≡ asleep_step d (asleep_now x) e = rw (asleep_as x e, was_asleep_as x e) refl in
      one ∙ ap (λ r. asleep_step d r e) k.asleep ∙ sym (asleep_more d es e)

  hold_same : y.hold ≡ is_held plan d (es ++ e ∷ [])
  hold_same = hold_as x e ∙ ap (λ r. hold_step r x.hold e) k.register ∙ ap (λ b. hold_step (hold_register plan d) b e) k.hold ∙ sym (held_more plan d es e)

  anew_same : has_some y ≡ has_pending d (es ++ e ∷ []) → policy.starts_anew x y ≡ starts_anew plan d es (es ++ e ∷ [])
  anew_same p =
      six x.awake y.awake (has_some x) (count_of y.pending == 0) x.hold y.hold
      (is_awake plan d es) (is_awake plan d (es ++ e ∷ [])) (has_pending d es) (not (has_pending d (es ++ e ∷ []))) (is_held plan d es) (is_held plan d (es ++ e ∷ []))
      (ap (λ (r : Rest). r.now) k.awake) (ap (λ (r : Rest). r.now) awake_same) k.pending (none_as (count_of y.pending) ∙ ap not p) k.hold hold_same

  pub told_more : (now : ℕ) → now ≡ time_after es → has_some y ≡ has_pending d (es ++ e ∷ []) → Told plan (es ++ e ∷ []) (idle_after now e x)
  told_more now t p = record {
    timeout = k.timeout;
    register = k.register;
    awake = awake_same;
    asleep = asleep_same;
    hold = hold_same;
    pending = p;
    since = rw (anew_same p, t, k.since) (sym (since_more plan d es e));
  }
