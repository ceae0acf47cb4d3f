-- The requests that a target is done with and that come back to the driver: their completion routine is due.
use Rattle.std.specs.Prelude.{ℕ, Bool, false, not, List, filter, map, Option, Some, None, is_some, option_and_then, slice_get}
use Rattle.std.specs.List.{list_all, list_any}
use Rattle.wdf_model.specs.declared.entries.Sending.{Sending}
use Rattle.wdf_model.specs.parts.Targets.{Target, Targets, routine_due, routine_outcome, the_target}
use Rattle.wdf_maps.specs.Places.{entry_of}

-- ---- of all targets

-- the completion routine of what is kept of a request is due
abbrev pub is_finished : Targets → Sending → Bool
is_finished T s = is_some (routine_due T s.request.0)

-- target t has a request whose completion routine is due
abbrev pub has_finished : Targets → ℕ → Bool
has_finished T t = list_any (is_finished T) (the_target T t).sent

-- these requests, by rising id
abbrev pub finished_in : Targets → ℕ → List ℕ
finished_in T t = map (λ (s : Sending). s.request.0) (filter (is_finished T) (the_target T t).sent)

-- no target has one
abbrev pub none_finished : Targets → Bool
none_finished T = list_all (λ t. not (list_any (is_finished T) t.sent)) T.targets

-- a test of an item, which fails where there is none
abbrev pub passes_if : (Sending → Bool) → Option Sending → Bool
passes_if p None = false
passes_if p (Some s) = p s

-- at place k of what target t has, by rising id from 0, the completion routine is due
abbrev pub finished_at : Targets → ℕ → ℕ → Bool
finished_at T t k = passes_if (is_finished T) (slice_get (the_target T t).sent k)

-- ---- of one target

-- the target is done with what it has of a request, and that isn't forgotten
abbrev pub comes_back : Sending → Bool
comes_back s = is_some (routine_outcome s)

-- a target is done with request r, which comes back
abbrev pub is_done_with : Target → ℕ → Bool
is_done_with t r = is_some (option_and_then routine_outcome (entry_of (λ (s : Sending). s.request.0) t.sent r))

-- those that it is done with, by rising id
abbrev pub done_in : Target → List ℕ
done_in t = map (λ (s : Sending). s.request.0) (filter (λ (s : Sending). is_done_with t s.request.0) t.sent)

-- it is done with some
abbrev pub has_done : Target → Bool
has_done t = list_any (λ (s : Sending). is_done_with t s.request.0) t.sent

-- it is done with the request at place k of what it has
abbrev pub done_at : Target → ℕ → Bool
done_at t k = passes_if (λ (s : Sending). is_done_with t s.request.0) (slice_get t.sent k)
