-- What a target keeps, by the events alone: one item for each send after which it isn't done with the request. One event more.
use Rattle.std.proofs.Common.{if◌then◌else◌, ◌≡◌, ℕ, Bool, true, false, not, ◌||◌, List, [], ◌∷◌, ◌++◌, filter, fold, map, Option, Some, None, refl, sym, ap, ◌∙◌, append_assoc, append-nil}
use Rattle.std.specs.List.{list_any}
use Rattle.std.proofs.lemmas.List.{map-append}
use Rattle.std.proofs.lemmas.List.Elements.{filter-append}
use Rattle.std.proofs.lemmas.List.Folds.{list_any-append}
use Rattle.wdf_base.specs.declared.event.Event.{Event}
use Rattle.wdf_base.specs.declared.ids.Handle.{Handle}
use Rattle.wdf_model.specs.Tables.{tick_after}
use Rattle.wdf_model.specs.declared.entries.SentRequest.{SentRequest}
use Rattle.law_idle.specs.Idling.{time_step}
use Rattle.law_targets.specs.Targets.{cancels, finishes, sent_to}

-- a request that was sent at this time, by what came since
abbrev pub entry_of : ℕ → ℕ → ℕ → Handle → List Event → SentRequest
entry_of t delay now h since = record { request = h; tick = tick_after now delay; told = list_any (cancels t h.id.0) since }

-- it is kept until the target is done with it
abbrev pub kept_if : Bool → SentRequest → List SentRequest
kept_if done s = if done then [] else s ∷ []

abbrev pub kept_one : ℕ → ℕ → ℕ → Option Handle → List Event → List SentRequest
kept_one t delay now None since = []
kept_one t delay now (Some h) since = kept_if (list_any (finishes h.id.0) since) (entry_of t delay now h since)

abbrev pub kept : ℕ → ℕ → ℕ → List Event → List SentRequest
kept t delay now [] = []
kept t delay now (e ∷ es) = kept_one t delay now (sent_to t e) es ++ kept t delay (time_step now e) es

-- an event that cancels a request
abbrev pub marked : ℕ → Event → SentRequest → SentRequest
marked t e s = if cancels t s.request.id.0 e then record s { told = true } else s

-- an event by which the target isn't done with a request
abbrev pub stays : Event → SentRequest → Bool
stays e s = not (finishes s.request.id.0 e)

-- what it keeps after an event
abbrev pub next : ℕ → ℕ → ℕ → Event → List SentRequest → List SentRequest
next t delay now e xs = map (marked t e) (filter (stays e) xs) ++ kept_one t delay now (sent_to t e) []

module _ (t delay : ℕ) (e : Event) where
  told_by : (x b : Bool) (h : Handle) (tick : ℕ) → cancels t h.id.0 e ≡ b → record { request = h; tick = tick; told = x || (b || false) } ≡ marked t e (record { request = h; tick = tick; told = x })
  told_by true true h tick c = rw c refl
  told_by false true h tick c = rw c refl
  told_by true false h tick c = rw c refl
  told_by false false h tick c = rw c refl

  entry_more : (now : ℕ) (h : Handle) (since : List Event) → entry_of t delay now h (since ++ e ∷ []) ≡ marked t e (entry_of t delay now h since)
  entry_more now h since =
      ap (λ (b : Bool). record { request = h; tick = tick_after now delay; told = b }) (list_any-append (cancels t h.id.0) since (e ∷ []))
      ∙ ap (λ (b : Bool). record { request = h; tick = tick_after now delay; told = list_any (cancels t h.id.0) since || (b || false) }) refl
      ∙ told_by (list_any (cancels t h.id.0) since) (cancels t h.id.0 e) h (tick_after now delay) refl

  kept_by : (x b : Bool) (s : SentRequest) → finishes s.request.id.0 e ≡ b → kept_if (x || (b || false)) (marked t e s) ≡ map (marked t e) (filter (stays e) (kept_if x s))
  kept_by true b s f = refl
  kept_by false true s f = rw f refl
  kept_by false false s f = rw f refl

  one_more : (now : ℕ) (o : Option Handle) (since : List Event) → kept_one t delay now o (since ++ e ∷ []) ≡ map (marked t e) (filter (stays e) (kept_one t delay now o since))
  one_more now None since = refl
  one_more now (Some h) since =
      ap (λ b. kept_if b (entry_of t delay now h (since ++ e ∷ []))) (list_any-append (finishes h.id.0) since (e ∷ []))
      ∙ ap (kept_if (list_any (finishes h.id.0) since || (finishes h.id.0 e || false))) (entry_more now h since)
      ∙ kept_by (list_any (finishes h.id.0) since) (finishes h.id.0 e) (entry_of t delay now h since) refl

  pub kept_more : (now : ℕ) (es : List Event) → kept t delay now (es ++ e ∷ []) ≡ next t delay (fold time_step now es) e (kept t delay now es)
  kept_more now [] = append-nil (kept_one t delay now (sent_to t e) [])
  kept_more now (x ∷ es) =
      let one : List SentRequest = kept_one t delay now (sent_to t x) es in
      let rest : List SentRequest = kept t delay (time_step now x) es in
      let new : List SentRequest = kept_one t delay (fold time_step (time_step now x) es) (sent_to t e) [] in
      ap (λ ys. ys ++ kept t delay (time_step now x) (es ++ e ∷ [])) (one_more now (sent_to t x) es)
      ∙ ap (λ ys. map (marked t e) (filter (stays e) one) ++ ys) (kept_more (time_step now x) es)
      ∙ sym (append_assoc (map (marked t e) (filter (stays e) one)) (map (marked t e) (filter (stays e) rest)) new)
      ∙ ap (λ ys. ys ++ new) (sym (map-append (marked t e) (filter (stays e) one) (filter (stays e) rest)))
      ∙ ap (λ ys. map (marked t e) ys ++ new) (sym (filter-append (stays e) one rest))
