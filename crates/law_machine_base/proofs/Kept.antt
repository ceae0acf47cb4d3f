-- What each deed keeps of places, lines, targets and kinds: the invariant, the move lemma, and a line
-- for each deed.
use Rattle.std.proofs.Common.{◌≡◌, ◌≢◌, ℕ, ◌==◌, ◌<◌, ◌≤◌, Bool, true, false, ◌&&◌, ◌⊎◌, inl, inr, length, count_by, sym, ◌∙◌, arith}
use Rattle.wdf_base.specs.declared.object.Kind.TheVariants as kind
use Rattle.wdf_base.specs.declared.object.Place.{Place}
use Rattle.wdf_base.specs.declared.object.Place.TheVariants as place
use Rattle.wdf_base.specs.Same.{same_kind}
use Rattle.wdf_base.specs.Places.{is_done, is_queued_in, is_sent_to}
use Rattle.wdf_model.specs.Tables.{flag}
use Rattle.wdf_model.specs.parts.Tree.{Tree, kind_of}
use Rattle.wdf_model.specs.parts.Requests.{Requests, has_arrived, place_of, request_of}
use Rattle.wdf_model.specs.parts.Queues.{Queues, waiting_in}
use Rattle.wdf_model.specs.parts.Targets.{Targets, the_target}
use Rattle.wdf_model.proofs.Counts.{one_or_two}

-- ---- readers

-- how often a request is in a queue's line, and among a target's sendings
abbrev pub stands : Queues → ℕ → ℕ → ℕ
stands Q q r = count_by (λ x. x == r) (waiting_in Q q)

abbrev pub sends : Targets → ℕ → ℕ → ℕ
sends T t r = count_by (λ s. s.request.0 == r) (the_target T t).sent

-- among those that don't come back
abbrev pub forgets : Targets → ℕ → ℕ → ℕ
forgets T t r = count_by (λ s. s.request.0 == r && s.forgotten) (the_target T t).sent

abbrev pub arrived : Requests → ℕ → Bool
arrived R r = has_arrived (request_of R r)

abbrev pub is_request : Tree → ℕ → Bool
is_request N r = same_kind (kind_of N r) kind.Request

-- where a request may be that the driver made
abbrev pub is_made_place : Place → Bool
is_made_place place.Owned = true
is_made_place (place.Sent t) = true
is_made_place place.Done = true
is_made_place _ = false

-- ---- the invariant

-- F says which requests were completed, and B which arrived.
pub record Kept (F B : ℕ → Bool) (R : Requests) (Q : Queues) (T : Targets) (N : Tree) : Type 0 where
  -- a request is Queued where it is in that queue's line, once; and Sent where that target has it, once
  pub queued : (q r : ℕ) → stands Q q r ≡ flag (is_queued_in q (place_of R r))
  pub sent : (t r : ℕ) → sends T t r ≡ flag (is_sent_to t (place_of R r))
  -- no request is numbered beyond the objects
  pub room : length R.all ≤ length N.nodes
  -- an object of the kind Request arrived
  pub kinds : (r : ℕ) → is_request N r ≡ true → arrived R r ≡ true
  -- a request that didn't arrive is the driver's, sent or done, and comes back
  pub made : (r : ℕ) → arrived R r ≡ false → is_made_place (place_of R r) ≡ true
  pub returns : (t r : ℕ) → arrived R r ≡ false → forgets T t r ≡ 0
  -- what was completed is Done for good
  pub ended : (r : ℕ) → F r ≡ true → is_done (place_of R r) ≡ true
  pub numbered : (r : ℕ) → F r ≡ true → r < length N.nodes
  -- a request that arrived is told among those that arrived
  pub begun : (r : ℕ) → arrived R r ≡ true → B r ≡ true

-- ---- a request moves, and the others stay

pub record Moves (F B : ℕ → Bool) (R R' : Requests) (Q Q' : Queues) (T T' : Targets) (N N' : Tree) (r : ℕ) (p : Place) : Type 0 where
  pub elsewhere : (x : ℕ) → x ≢ r → place_of R' x ≡ place_of R x
  pub here : place_of R' r ≡ p
  pub arrivals : (x : ℕ) → x ≢ r → arrived R' x ≡ arrived R x
  pub room : length R'.all ≤ length N'.nodes
  pub other_kinds : (x : ℕ) → x ≢ r → is_request N' x ≡ true → is_request N x ≡ true
  pub kind : is_request N' r ≡ true → arrived R' r ≡ true
  pub other_lines : (q x : ℕ) → x ≢ r → stands Q' q x ≡ stands Q q x
  pub line : (q : ℕ) → stands Q' q r ≡ flag (is_queued_in q p)
  pub other_targets : (t x : ℕ) → x ≢ r → sends T' t x ≡ sends T t x
  pub target : (t : ℕ) → sends T' t r ≡ flag (is_sent_to t p)
  pub made : arrived R' r ≡ false → is_made_place p ≡ true
  pub other_returns : (t x : ℕ) → x ≢ r → forgets T' t x ≤ forgets T t x
  pub returns : (t : ℕ) → arrived R' r ≡ false → forgets T' t r ≡ 0
  pub longer : length N.nodes ≤ length N'.nodes
  pub unended : F r ≡ true → is_done p ≡ true
  pub begun : arrived R' r ≡ true → B r ≡ true

module _ {F B : ℕ → Bool} {R R' : Requests} {Q Q' : Queues} {T T' : Targets} {N N' : Tree} {r : ℕ} {p : Place} where
  queued_after : Kept F B R Q T N → Moves F B R R' Q Q' T T' N N' r p → (q x : ℕ) → (x ≡ r) ⊎ (x ≢ r) → stands Q' q x ≡ flag (is_queued_in q (place_of R' x))
  queued_after k m q x (inl e) = rw (e, m.here) (m.line q)
  queued_after k m q x (inr n) = rw (m.elsewhere x n) (m.other_lines q x n ∙ k.queued q x)

  sent_after : Kept F B R Q T N → Moves F B R R' Q Q' T T' N N' r p → (t x : ℕ) → (x ≡ r) ⊎ (x ≢ r) → sends T' t x ≡ flag (is_sent_to t (place_of R' x))
  sent_after k m t x (inl e) = rw (e, m.here) (m.target t)
  sent_after k m t x (inr n) = rw (m.elsewhere x n) (m.other_targets t x n ∙ k.sent t x)

  kinds_after : Kept F B R Q T N → Moves F B R R' Q Q' T T' N N' r p → (x : ℕ) → (x ≡ r) ⊎ (x ≢ r) → is_request N' x ≡ true → arrived R' x ≡ true
  kinds_after k m x (inl e) h = rw e (m.kind (rw e at h))
  kinds_after k m x (inr n) h = m.arrivals x n ∙ k.kinds x (m.other_kinds x n h)

  made_after : Kept F B R Q T N → Moves F B R R' Q Q' T T' N N' r p → (x : ℕ) → (x ≡ r) ⊎ (x ≢ r) → arrived R' x ≡ false → is_made_place (place_of R' x) ≡ true
  made_after k m x (inl e) h = rw (e, m.here) (m.made (rw e at h))
  made_after k m x (inr n) h = rw (m.elsewhere x n) (k.made x (sym (m.arrivals x n) ∙ h))

  returns_after : Kept F B R Q T N → Moves F B R R' Q Q' T T' N N' r p → (t x : ℕ) → (x ≡ r) ⊎ (x ≢ r) → arrived R' x ≡ false → forgets T' t x ≡ 0
  returns_after k m t x (inl e) h = rw e (m.returns t (rw e at h))
  returns_after k m t x (inr n) h = let none = k.returns t x (sym (m.arrivals x n) ∙ h) in let less = m.other_returns t x n in omega arith

  ended_after : Kept F B R Q T N → Moves F B R R' Q Q' T T' N N' r p → (x : ℕ) → (x ≡ r) ⊎ (x ≢ r) → F x ≡ true → is_done (place_of R' x) ≡ true
  ended_after k m x (inl e) h = rw (e, m.here) (m.unended (rw e at h))
  ended_after k m x (inr n) h = rw (m.elsewhere x n) (k.ended x h)

  begun_after : Kept F B R Q T N → Moves F B R R' Q Q' T T' N N' r p → (x : ℕ) → (x ≡ r) ⊎ (x ≢ r) → arrived R' x ≡ true → B x ≡ true
  begun_after k m x (inl e) h = rw e (m.begun (rw e at h))
  begun_after k m x (inr n) h = k.begun x (sym (m.arrivals x n) ∙ h)

  pub kept_by_move : Kept F B R Q T N → Moves F B R R' Q Q' T T' N N' r p → Kept F B R' Q' T' N'
  kept_by_move k m = record {
    queued = λ q x. queued_after k m q x (one_or_two x r);
    sent = λ t x. sent_after k m t x (one_or_two x r);
    room = m.room;
    kinds = λ x. kinds_after k m x (one_or_two x r);
    made = λ x. made_after k m x (one_or_two x r);
    returns = λ t x. returns_after k m t x (one_or_two x r);
    ended = λ x. ended_after k m x (one_or_two x r);
    numbered = λ x h. let within = k.numbered x h in let longer = m.longer in omega arith;
    begun = λ x. begun_after k m x (one_or_two x r);
  }
