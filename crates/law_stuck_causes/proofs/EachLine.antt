-- What is so of each line of a wait list: it is so of the lines of frames, requests, devices, objects, work and agents.
use Rattle.std.proofs.Common.{if◌then◌else◌, ◌≡◌, inl, ℕ, zero, suc, ◌+◌, ◌<◌, slice_get, Bool, true, false, nat_lt, List, [], ◌∷◌, ◌++◌, Option, Some, None, is_some, map, length, inr, refl, sym, ap, subst, ◌∙◌, arith}
use Rattle.std.specs.Prelude.{filter_map}
use Rattle.std.specs.List.{range_with_len}
use Rattle.std.proofs.lemmas.Option.{same_Some}
use Rattle.wdf_base.specs.Meaning.{Meaning}
use Rattle.wdf_base.specs.declared.ids.Handle.{Handle}
use Rattle.wdf_base.specs.declared.plan.Plan.{Plan}
use Rattle.wdf_base.specs.declared.event.Event.{Event}
use Rattle.wdf_base.specs.declared.event.Ending.TheVariants as ending
use Rattle.wdf_base.specs.declared.event.Post.{Post}
use Rattle.wdf_base.specs.declared.event.Post.TheVariants as post
use Rattle.wdf_base.specs.declared.wait.OpenThing.TheVariants as thing
use Rattle.wdf_base.specs.declared.wait.WaitLine.{WaitLine}
use Rattle.wdf_model.specs.Tables.{ids_of}
use Rattle.wdf_model.specs.Plans.{device_of, devices_of}
use Rattle.wdf_model.specs.parts.Tree.{next_id}
use Rattle.wdf_model.specs.parts.Requests.{place_of}
use Rattle.wdf_model.specs.parts.Pnp.{steps_left}
use Rattle.wdf_model.specs.State.{State}
use Rattle.wdf_model.specs.rules.Groups.{declared_end}
use Rattle.wdf_model.specs.rules.Posts.{due_of}
use Rattle.wdf_model.specs.rules.Ready.{ending_of, is_leaving, is_open_post, is_open_work, open_devices, open_objects, open_requests, open_work, state_after}
use Rattle.wdf_model.specs.rules.Waits.{asking_line, deferred_line, device_line, frame_line, frames_in_order, object_line, request_line, wait_lines, wait_list}
use Rattle.law_stuck_causes.proofs.Members.{Each, Has, below_range}
use Rattle.law_stuck_causes.proofs.Gives.{IfThere, each_behind, has_kept}
use Rattle.law_stuck_causes.proofs.Endings.{stuck_lines}

-- ---- lists

mapped_in : {T U : Type 0} (P : U → Type 0) (f : T → U) (xs : List T) → ((x : T) → Has x xs → P (f x)) → Each P (map f xs)
mapped_in P f [] h = tt
mapped_in P f (x ∷ xs) h = (h x (inl refl), mapped_in P f xs (λ y k. h y (inr k)))

chosen_by : {T U : Type 0} (P : U → Type 0) (f : T → Option U) (x : T) (xs : List T) (o : Option U) → f x ≡ o → IfThere P o → Each P (filter_map f xs) → Each P (filter_map f (x ∷ xs))
chosen_by P f x xs None e h rest = rw e rest
chosen_by P f x xs (Some y) e h rest = rw e (h, rest)

chosen_in : {T U : Type 0} (P : U → Type 0) (f : T → Option U) (xs : List T) → ((x : T) → Has x xs → IfThere P (f x)) → Each P (filter_map f xs)
chosen_in P f [] h = tt
chosen_in P f (x ∷ xs) h = chosen_by P f x xs (f x) refl (h x (inl refl)) (chosen_in P f xs (λ y k. h y (inr k)))

each_at : {T : Type 0} (P : T → Type 0) (xs : List T) (k : ℕ) (x : T) → Each P xs → slice_get xs k ≡ Some x → P x
each_at P [] k x e h = absurd (let z : ⊥ = cc in z)
each_at P (y ∷ ys) zero x e h = subst P (same_Some y x h) e.0
each_at P (y ∷ ys) (suc k) x e h = each_at P ys k x e.1 h

-- ---- the lines

pub record OfLines {A : Type 0} (plan : Plan) (S : State A) (P : WaitLine → Type 0) : Type 0 where
  pub frames : (f : ℕ) → Has f (frames_in_order S) → P (frame_line plan S f)
  pub requests : (r : ℕ) → IfThere P (request_line plan S r (place_of S.requests r))
  pub devices : (d : ℕ) → d < declared_end plan → IfThere P (device_line plan S d)
  pub objects : (o : ℕ) → o < next_id S.tree → is_leaving S o ≡ true → P (object_line plan S o)
  pub work : (o : ℕ) → is_open_work S o ≡ true → P (deferred_line plan S o)
  pub asking : (d : Handle) → P (record { thing = thing.Asking d; cause = None })

module _ {A : Type 0} (plan : Plan) (S : State A) (P : WaitLine → Type 0) (k : OfLines plan S P) where
  asking_by : (l : WaitLine) (b : Bool) → P l → Each P (if b then l ∷ [] else [])
  asking_by l true h = (h, tt)
  asking_by l false h = tt

  asking_all : (p : Option Post) → Each P (asking_line S p)
  asking_all (Some (post.Ask a device)) = asking_by (record { thing = thing.Asking device; cause = None }) (is_open_post S (Some (post.Ask a device))) (k.asking device)
  asking_all _ = tt

  device_low : (d : ℕ) → Has d (open_devices plan S) → d < declared_end plan
  device_low d there =
      let open_ = has_kept (λ x. nat_lt 0 (length (steps_left S.pnp x))) d (devices_of plan) there in
      let low : d < 0 + declared_end plan = below_range d 0 (declared_end plan) (has_kept (λ x. is_some (device_of plan x)) d (range_with_len 0 (declared_end plan)) open_.1).1 in
      omega arith

  object_low : (o : ℕ) → Has o (open_objects S) → P (object_line plan S o)
  object_low o there =
      let leaving = has_kept (is_leaving S) o (ids_of S.tree.nodes) there in
      let low : o < 0 + next_id S.tree = below_range o 0 (next_id S.tree) leaving.1 in
      k.objects o (omega arith) leaving.0

  lines_all : (m : Meaning A) → Each P (wait_lines plan m S)
  lines_all m =
      let frames : List WaitLine = map (frame_line plan S) (frames_in_order S) in
      let requests : List WaitLine = filter_map (λ r. request_line plan S r (place_of S.requests r)) (open_requests S) in
      let devices : List WaitLine = filter_map (device_line plan S) (open_devices plan S) in
      let objects : List WaitLine = map (object_line plan S) (open_objects S) in
      let work : List WaitLine = map (deferred_line plan S) (open_work S) in
      let asking : List WaitLine = asking_line S (due_of m S 0) in
      each_behind P (frames ++ requests ++ devices ++ objects ++ work) asking
      (each_behind P (frames ++ requests ++ devices ++ objects) work
      (each_behind P (frames ++ requests ++ devices) objects
      (each_behind P (frames ++ requests) devices
      (each_behind P frames requests
      (mapped_in P (frame_line plan S) (frames_in_order S) k.frames)
      (chosen_in P (λ r. request_line plan S r (place_of S.requests r)) (open_requests S) (λ r there. k.requests r)))
      (chosen_in P (device_line plan S) (open_devices plan S) (λ d there. k.devices d (device_low d there))))
      (mapped_in P (object_line plan S) (open_objects S) object_low))
      (mapped_in P (deferred_line plan S) (open_work S) (λ o there. k.work o (has_kept (is_open_work S) o (ids_of S.tree.nodes) there).0)))
      (asking_all (due_of m S 0))

-- so it is of each line of a stuck run's wait list
pub each_line : {A : Type 0} (plan : Plan) (m : Meaning A) (run : List Event) (P : WaitLine → Type 0) → OfLines plan (state_after plan m run) P → ending_of plan m run ≡ ending.Stuck → (k : ℕ) (l : WaitLine) → slice_get (wait_list plan m run) k ≡ Some l → P l
each_line plan m run P of ends k l h =
    each_at P (wait_lines plan m (state_after plan m run)) k l (lines_all plan (state_after plan m run) P of m) (ap (λ ls. slice_get ls k) (sym (stuck_lines plan m run ends)) ∙ h)
