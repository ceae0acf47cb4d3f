-- The lines of each section, by ids.
use Rattle.std.proofs.Common.{◌≡◌, if◌then◌else◌, ℕ, suc, Bool, true, false, List, [], ◌∷◌, Option, None, is_some, nat_lt, filter, length, map, refl, subst, sym, ap, ◌∙◌}
use Rattle.std.specs.List.{cons_option, filter_map, range_with_len}
use Rattle.wdf_base.specs.Meaning.{Meaning}
use Rattle.wdf_base.specs.declared.plan.Plan.{Plan}
use Rattle.wdf_base.specs.declared.wait.WaitLine.{WaitLine}
use Rattle.wdf_model.specs.Tables.{contains, ids_of, least}
use Rattle.wdf_model.specs.Plans.{declared_ids, device_of}
use Rattle.wdf_model.specs.State.{State}
use Rattle.wdf_model.specs.parts.Cpus.{Cpus, all_frames}
use Rattle.wdf_model.specs.parts.Requests.{Requests, place_of, request_of}
use Rattle.wdf_model.specs.parts.Tree.{Tree}
use Rattle.wdf_model.specs.parts.Pnp.{steps_left}
use Rattle.wdf_model.specs.rules.Ready.{is_leaving, is_open_request, is_open_work}
use Rattle.wdf_model.specs.rules.Waits.{children_first, deferred_line, device_line, frame_line, frames_in_order, object_line, request_line}
use Rattle.wdf_tree.specs.GoFirst.{go_first}
use Rattle.wdf_starts.proofs.Passing.{filter_twice}
use Rattle.wdf_waits.specs.Lines.{is_open_device, line_if, lines_below, section_lines}
use Rattle.wdf_waits.specs.declared.section.Section.{Section}
use Rattle.wdf_waits.specs.declared.section.Section.TheVariants as section

pub children_go_first : {A : Type 0} (S : State A) (o : ℕ) → least (go_first S.tree o) ≡ least (children_first S o)
children_go_first S o = refl

-- ---- a line for each thing that passes a test

if_by : (p : ℕ → Bool) (f : ℕ → WaitLine) (x : ℕ) (xs : List ℕ) (b : Bool) → p x ≡ b → filter_map (λ y. line_if (p y) (f y)) xs ≡ map f (filter p xs)
    → filter_map (λ y. line_if (p y) (f y)) (x ∷ xs) ≡ map f (filter p (x ∷ xs))
if_by p f x xs true e rest = rw e (ap (λ ls. f x ∷ ls) rest)
if_by p f x xs false e rest = rw e rest

lines_if : (p : ℕ → Bool) (f : ℕ → WaitLine) (xs : List ℕ) → filter_map (λ x. line_if (p x) (f x)) xs ≡ map f (filter p xs)
lines_if p f [] = refl
lines_if p f (x ∷ xs) = if_by p f x xs (p x) refl (lines_if p f xs)

kept_by : (p : ℕ → Bool) (f : ℕ → Option WaitLine) (x : ℕ) (xs : List ℕ) (b : Bool) → p x ≡ b → filter_map (λ y. if p y then f y else None) xs ≡ filter_map f (filter p xs)
    → filter_map (λ y. if p y then f y else None) (x ∷ xs) ≡ filter_map f (filter p (x ∷ xs))
kept_by p f x xs true e rest = rw e (ap (cons_option (f x)) rest)
kept_by p f x xs false e rest = rw e rest

lines_kept : (p : ℕ → Bool) (f : ℕ → Option WaitLine) (xs : List ℕ) → filter_map (λ x. if p x then f x else None) xs ≡ filter_map f (filter p xs)
lines_kept p f [] = refl
lines_kept p f (x ∷ xs) = kept_by p f x xs (p x) refl (lines_kept p f xs)

-- ---- the sections

module _ {A : Type 0} (plan : Plan) (m : Meaning A) (S : State A) (end : ℕ) where
  frames_below : filter (λ f. contains f (all_frames S.cpus)) (range_with_len 0 end) ≡ frames_in_order S → lines_below plan m S section.Frames end ≡ section_lines plan m S section.Frames
  frames_below h = lines_if (λ f. contains f (all_frames S.cpus)) (frame_line plan S) (range_with_len 0 end) ∙ ap (map (frame_line plan S)) h

  requests_below : end ≡ length S.requests.all → lines_below plan m S section.Requests end ≡ section_lines plan m S section.Requests
  requests_below h =
      ap (lines_below plan m S section.Requests) h
      ∙ lines_kept (λ r. is_open_request (request_of S.requests r)) (λ r. request_line plan S r (place_of S.requests r)) (ids_of S.requests.all)

  devices_below : end ≡ suc (length plan.declared) → lines_below plan m S section.Devices end ≡ section_lines plan m S section.Devices
  devices_below h =
      ap (lines_below plan m S section.Devices) h
      ∙ lines_kept (is_open_device plan S) (device_line plan S) (declared_ids plan)
      ∙ ap (filter_map (device_line plan S)) (sym (filter_twice (λ d. is_some (device_of plan d)) (λ d. nat_lt 0 (length (steps_left S.pnp d))) (declared_ids plan)))

  objects_below : end ≡ length S.tree.nodes → lines_below plan m S section.Objects end ≡ section_lines plan m S section.Objects
  objects_below h = ap (lines_below plan m S section.Objects) h ∙ lines_if (is_leaving S) (object_line plan S) (ids_of S.tree.nodes)

  work_below : end ≡ length S.tree.nodes → lines_below plan m S section.Work end ≡ section_lines plan m S section.Work
  work_below h = ap (lines_below plan m S section.Work) h ∙ lines_if (is_open_work S) (deferred_line plan S) (ids_of S.tree.nodes)

  at_section : (s this : Section) → s ≡ this → lines_below plan m S this end ≡ section_lines plan m S this → lines_below plan m S s end ≡ section_lines plan m S s
  at_section s this is h = let P : Section → Type 0 = λ x. lines_below plan m S x end ≡ section_lines plan m S x in subst P (sym is) h

  pub at_frames : (s : Section) (C : Cpus) → s ≡ section.Frames → C ≡ S.cpus → filter (λ f. contains f (all_frames C)) (range_with_len 0 end) ≡ filter (λ f. contains f (all_frames C)) (ids_of C.frames)
      → lines_below plan m S s end ≡ section_lines plan m S s
  at_frames s C is same h =
      let P : Cpus → Type 0 = λ x. filter (λ f. contains f (all_frames x)) (range_with_len 0 end) ≡ filter (λ f. contains f (all_frames x)) (ids_of x.frames) in
      at_section s section.Frames is (frames_below (subst P same h))

  pub at_requests : (s : Section) (R : Requests) → s ≡ section.Requests → R ≡ S.requests → end ≡ length R.all → lines_below plan m S s end ≡ section_lines plan m S s
  at_requests s R is same h = at_section s section.Requests is (requests_below (h ∙ ap (λ (x : Requests). length x.all) same))

  pub at_devices : (s : Section) → s ≡ section.Devices → end ≡ suc (length plan.declared) → lines_below plan m S s end ≡ section_lines plan m S s
  at_devices s is h = at_section s section.Devices is (devices_below h)

  pub at_objects : (s : Section) (T : Tree) → s ≡ section.Objects → T ≡ S.tree → end ≡ length T.nodes → lines_below plan m S s end ≡ section_lines plan m S s
  at_objects s T is same h = at_section s section.Objects is (objects_below (h ∙ ap (λ (x : Tree). length x.nodes) same))

  pub at_work : (s : Section) (T : Tree) → s ≡ section.Work → T ≡ S.tree → end ≡ length T.nodes → lines_below plan m S s end ≡ section_lines plan m S s
  at_work s T is same h = at_section s section.Work is (work_below (h ∙ ap (λ (x : Tree). length x.nodes) same))
