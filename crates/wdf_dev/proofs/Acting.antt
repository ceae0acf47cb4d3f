-- What an action of a device does to it.
use Rattle.std.proofs.Common.{◌≡◌, ℕ, zero, suc, ◌+◌, ◌==◌, ◌&&◌, ◌<◌, ◌≤◌, nat_lt, is_some, ◌++◌, add-one, Bool, true, false, List, [], ◌∷◌, Option, Some, None, fold, length, map, take, slice_get, slice_index_or, slice_set, option_map, refl, sym, ap, subst, ◌∙◌, arith}
use Rattle.std.specs.List.{position_or_len}
use Rattle.std.proofs.lemmas.List.Folds.{find_at}
use Rattle.std.proofs.lemmas.Option.{slice_get-get_or}
use Rattle.std.proofs.lemmas.List.{length-map, take_all}
use Rattle.std.proofs.Math.Seq.{take-append_seam}
use Rattle.wdf_base.specs.declared.ids.Handle.{Handle}
use Rattle.wdf_base.specs.declared.event.Access.{Access}
use Rattle.wdf_base.specs.declared.event.Action.{Action}
use Rattle.wdf_base.specs.declared.event.Action.TheVariants as action
use Rattle.wdf_model.specs.declared.entries.DeviceAction.{DeviceAction}
use Rattle.wdf_model.specs.Tables.{put}
use Rattle.wdf_model.specs.agents.Device as model
use Rattle.wdf_model.specs.agents.Device.{Device}
use Rattle.wdf_model.specs.agents.LowerTarget as target
use Rattle.wdf_model.specs.agents.LowerTarget.{LowerTarget}
use Rattle.wdf_model.specs.declared.entries.SentRequest.{SentRequest}
use Rattle.wdf_dev.specs.Actions.{interrupt_in, is_due, IsWithin}
use Rattle.wdf_model.proofs.Maps.{put_within}
use Rattle.wdf_model.proofs.Runs.{take_next}
use Rattle.wdf_dev.proofs.Gathering.{fold_last, one_and}

-- ---- there is room

pub fits : (room : ℕ) (acts : List DeviceAction) (k : ℕ) (a : DeviceAction) (what : Action) → IsWithin room acts → slice_get acts k ≡ Some a → a.action ≡ what → interrupt_in what < room
fits room acts k a what within at e = subst (λ x. interrupt_in x < room) e (within k a at)

-- ---- one action

pub acts : (H after : Device) (xs : List DeviceAction) (k : ℕ) (x : DeviceAction) (what : Action) → slice_get xs k ≡ Some x → x.action ≡ what → after ≡ model.act_on H what
    → (a : DeviceAction) → slice_get xs k ≡ Some a → after ≡ model.act_on H a.action
acts H after xs k x what at e done a at' =
    let same : x ≡ a = cc in
    done ∙ ap (model.act_on H) (sym e ∙ ap (λ (y : DeviceAction). y.action) same)

pub at_is : (xs : List DeviceAction) (k : ℕ) (x : DeviceAction) → x ≡ slice_index_or xs k x → k < length xs → slice_get xs k ≡ Some x
at_is xs k x e h = slice_get-get_or xs k x h ∙ ap Some (sym e)

-- ---- registers and level lines

pub turned : (H V : Device) (r : List Bool) (i : Handle) (b : Bool) → V ≡ H → r ≡ put false V.raised i.id.0 b
    → record { agent = V.agent; registers = V.registers; raised = r; actions = V.actions; clock = V.clock } ≡ record H { raised = put false H.raised i.id.0 b }
turned H V r i b e f = rw f (ap (λ (W : Device). record W { raised = put false W.raised i.id.0 b }) e)

register_there : (xs : List (Option ℕ)) (k : ℕ) → model.has_register (slice_index_or xs k None) ≡ true → k < length xs
register_there [] k h = absurd (let z : ⊥ = cc in z)
register_there (x ∷ xs) zero h = omega arith
register_there (x ∷ xs) (suc k) h = let l = register_there xs k h in omega arith

pub some_register : (o : Option ℕ) → is_some o ≡ true → model.has_register o ≡ true
some_register None h = h
some_register (Some v) h = refl

pub stored_in : (H V : Device) (k v : ℕ) (r : List (Option ℕ)) → V ≡ H → model.has_register (model.own_register H k) ≡ true → r ≡ slice_set V.registers k (Some v)
    → record { agent = V.agent; registers = r; raised = V.raised; actions = V.actions; clock = V.clock } ≡ model.with_register H k v
stored_in H V k v r e h f =
    let w = register_there H.registers k h in
    let g : record { agent = V.agent; registers = r; raised = V.raised; actions = V.actions; clock = V.clock } ≡ record H { registers = slice_set H.registers k (Some v) } =
    rw f (ap (λ (W : Device). record W { registers = slice_set W.registers k (Some v) }) e) in
    rw (h, put_within None H.registers k (Some v) w) g

-- ---- what an access triggers

-- what neither the registers nor the level lines change
module _ {T : Type 0} (f : Device → T) (registers : (H : Device) (r : List (Option ℕ)) → f (record H { registers = r }) ≡ f H) (raised : (H : Device) (r : List Bool) → f (record H { raised = r }) ≡ f H) where
  kept_by_store : (H : Device) (k v : ℕ) (b : Bool) → model.has_register (model.own_register H k) ≡ b → f (model.with_register H k v) ≡ f H
  kept_by_store H k v true e = rw e (registers H (put None H.registers k (Some v)))
  kept_by_store H k v false e = rw e refl

  kept_by_act : (H : Device) (what : Action) → f (model.act_on H what) ≡ f H
  kept_by_act H (action.Set k v) = kept_by_store H k v (model.has_register (model.own_register H k)) refl
  kept_by_act H (action.Raise i) = raised H (put false H.raised i.id.0 true)
  kept_by_act H (action.Lower i) = raised H (put false H.raised i.id.0 false)

  kept_once : (a : Access) (k : ℕ) (H : Device) (l : DeviceAction) (b : Bool) → (model.triggers a k l.trigger && model.delay_of l.trigger == 0) ≡ b → f (model.at_once a k H l) ≡ f H
  kept_once a k H l true e = rw e (kept_by_act H l.action)
  kept_once a k H l false e = rw e refl

  kept_along : (a : Access) (k : ℕ) (H : Device) (ls : List DeviceAction) → f (fold (model.at_once a k) H ls) ≡ f H
  kept_along a k H [] = refl
  kept_along a k H (l ∷ ls) = kept_along a k (model.at_once a k H l) ls ∙ kept_once a k H l (model.triggers a k l.trigger && model.delay_of l.trigger == 0) refl

pub kept_actions : (a : Access) (k : ℕ) (H : Device) (ls : List DeviceAction) → (fold (model.at_once a k) H ls).actions ≡ H.actions
kept_actions = kept_along (λ (H : Device). H.actions) (λ H r. refl) (λ H r. refl)

pub kept_clock : (a : Access) (k : ℕ) (H : Device) (ls : List DeviceAction) → (fold (model.at_once a k) H ls).clock ≡ H.clock
kept_clock = kept_along (λ (H : Device). H.clock) (λ H r. refl) (λ H r. refl)

-- the actions of a device are others, and the rest is as it was
abbrev pub with_actions : Device → List DeviceAction → Device
with_actions H ls = record H { actions = ls }

stored_apart : (H : Device) (ls : List DeviceAction) (k v : ℕ) (b : Bool) → model.has_register (model.own_register H k) ≡ b → model.with_register (with_actions H ls) k v ≡ with_actions (model.with_register H k v) ls
stored_apart H ls k v true e = rw e refl
stored_apart H ls k v false e = rw e refl

acts_apart : (H : Device) (ls : List DeviceAction) (what : Action) → model.act_on (with_actions H ls) what ≡ with_actions (model.act_on H what) ls
acts_apart H ls (action.Set k v) = stored_apart H ls k v (model.has_register (model.own_register H k)) refl
acts_apart H ls (action.Raise i) = refl
acts_apart H ls (action.Lower i) = refl

once_apart : (a : Access) (k : ℕ) (H : Device) (ls : List DeviceAction) (l : DeviceAction) (b : Bool) → (model.triggers a k l.trigger && model.delay_of l.trigger == 0) ≡ b
    → model.at_once a k (with_actions H ls) l ≡ with_actions (model.at_once a k H l) ls
once_apart a k H ls l true e = rw e (acts_apart H ls l.action)
once_apart a k H ls l false e = rw e refl

pub apart : (a : Access) (k : ℕ) (H : Device) (ls xs : List DeviceAction) → fold (model.at_once a k) (with_actions H ls) xs ≡ with_actions (fold (model.at_once a k) H xs) ls
apart a k H ls [] = refl
apart a k H ls (x ∷ xs) =
    ap (λ (W : Device). fold (model.at_once a k) W xs) (once_apart a k H ls x (model.triggers a k x.trigger && model.delay_of x.trigger == 0) refl) ∙ apart a k (model.at_once a k H x) ls xs

-- ---- a post

done_by : (now : ℕ) (x : DeviceAction) (xs : List DeviceAction) (d : DeviceAction) (b : Bool) → is_due now x ≡ b
    → (position_or_len (is_due now) xs < length xs → model.first_done now xs ≡ slice_set xs (position_or_len (is_due now) xs) (model.without_tick (slice_index_or xs (position_or_len (is_due now) xs) d)))
    → position_or_len (is_due now) (x ∷ xs) < length (x ∷ xs)
    → model.first_done now (x ∷ xs) ≡ slice_set (x ∷ xs) (position_or_len (is_due now) (x ∷ xs)) (model.without_tick (slice_index_or (x ∷ xs) (position_or_len (is_due now) (x ∷ xs)) d))
done_by now x xs d true e rest h = rw e refl
done_by now x xs d false e rest h =
    let l : 1 + position_or_len (is_due now) xs < suc (length xs) = rw e at h in
    rw (e, one_and) (ap (λ ys. x ∷ ys) (rest (omega (arith, l))))

pub done_at_first : (now : ℕ) (xs : List DeviceAction) (d : DeviceAction) → position_or_len (is_due now) xs < length xs
    → model.first_done now xs ≡ slice_set xs (position_or_len (is_due now) xs) (model.without_tick (slice_index_or xs (position_or_len (is_due now) xs) d))
done_at_first now [] d h = absurd (omega arith)
done_at_first now (x ∷ xs) d h = done_by now x xs d (is_due now x) refl (done_at_first now xs d) h

get_set : {T : Type 0} (xs : List T) (k : ℕ) (x : T) → k < length xs → slice_get (slice_set xs k x) k ≡ Some x
get_set [] k x h = absurd (omega arith)
get_set (y ∷ ys) zero x h = refl
get_set (y ∷ ys) (suc k) x h = get_set ys k x (omega arith)

get_past : {T : Type 0} (xs : List T) (k : ℕ) → length xs ≤ k → slice_get xs k ≡ None
get_past [] k h = refl
get_past (y ∷ ys) zero h = absurd (omega arith)
get_past (y ∷ ys) (suc k) h = get_past ys k (omega arith)

pub posted : (V after : Device) (at : ℕ) (x : DeviceAction) → at ≡ position_or_len (is_due V.clock) V.actions → x ≡ slice_index_or V.actions at x → at < length V.actions
    → ((a : DeviceAction) → slice_get (slice_set V.actions at (model.without_tick x)) at ≡ Some a → after ≡ model.act_on (with_actions V (slice_set V.actions at (model.without_tick x))) a.action)
    → after ≡ model.posted_action V (model.due_action V)
posted V after at x first it within done =
    let found : model.due_action V ≡ Some x = find_at (is_due V.clock) V.actions ∙ ap (slice_get V.actions) (sym first) ∙ at_is V.actions at x it within in
    let there : position_or_len (is_due V.clock) V.actions < length V.actions = omega (arith, first) in
    let ends : model.first_done V.clock V.actions ≡ slice_set V.actions at (model.without_tick x) =
    done_at_first V.clock V.actions x there ∙ ap (λ k. slice_set V.actions k (model.without_tick (slice_index_or V.actions k x))) (sym first) ∙ ap (λ y. slice_set V.actions at (model.without_tick y)) (sym it) in
    rw (found, ends) (done (model.without_tick x) (get_set V.actions at (model.without_tick x) within))

pub not_posted : (V : Device) (at : ℕ) → at ≡ position_or_len (is_due V.clock) V.actions → length V.actions ≤ at → V ≡ model.posted_action V (model.due_action V)
not_posted V at first past =
    let found : model.due_action V ≡ None = find_at (is_due V.clock) V.actions ∙ ap (slice_get V.actions) (sym first) ∙ get_past V.actions at past in
    rw found refl

-- what is at the place of the first action that is due, as a post
pub due_is : (V : Device) (at : ℕ) (o : Option DeviceAction) → at ≡ position_or_len (is_due V.clock) V.actions → o ≡ slice_get V.actions at → option_map model.action_post o ≡ model.device_due V
due_is V at o first there = ap (option_map model.action_post) (there ∙ ap (slice_get V.actions) first ∙ sym (find_at (is_due V.clock) V.actions))

-- what is at the place of the first request that is due, as a post
pub sent_due_is : (T : LowerTarget) (at : ℕ) (o : Option SentRequest) → at ≡ position_or_len (target.is_due_sent T.clock) T.sent → o ≡ slice_get T.sent at → option_map (target.done_post T.status) o ≡ target.target_due T
sent_due_is T at o first there = ap (option_map (target.done_post T.status)) (there ∙ ap (slice_get T.sent) first ∙ sym (find_at (target.is_due_sent T.clock) T.sent))

-- ---- there is room after an access, and after a post

within_mapped : (f : DeviceAction → DeviceAction) → ((x : DeviceAction) → (f x).action ≡ x.action) → (room : ℕ) (xs : List DeviceAction) → IsWithin room xs → IsWithin room (map f xs)
within_mapped f same room [] w k a h = absurd (let z : ⊥ = cc in z)
within_mapped f same room (x ∷ xs) w zero a h =
    let e : f x ≡ a = cc in
    subst (λ y. interrupt_in y < room) (sym (same x) ∙ ap (λ (y : DeviceAction). y.action) e) (w zero x refl)
within_mapped f same room (x ∷ xs) w (suc k) a h = within_mapped f same room xs (λ j b l. w (suc j) b l) k a h

set_off_same : (a : Access) (k now : ℕ) (x : DeviceAction) (b : Bool) → (model.triggers a k x.trigger && nat_lt 0 (model.delay_of x.trigger)) ≡ b → (model.set_off a k now x).action ≡ x.action
set_off_same a k now x true e = rw e refl
set_off_same a k now x false e = rw e refl

written : (n : ℕ) (new old : List DeviceAction) → n ≡ length new → take n (new ++ old) ≡ new
written n new old e = rw e (take-append_seam new old)

pub written_all : (a : Access) (k now n : ℕ) (new xs rest : List DeviceAction) → new ≡ map (model.set_off a k now) xs → n ≡ length xs → take n (new ++ rest) ≡ map (model.set_off a k now) xs
written_all a k now n new xs rest e l =
    let long : n ≡ length new = l ∙ sym (length-map xs (model.set_off a k now)) ∙ ap length (sym e) in
    written n new rest long ∙ e

pub within_after : (room : ℕ) (a : Access) (k now : ℕ) (ys xs : List DeviceAction) → ys ≡ map (model.set_off a k now) xs → IsWithin room xs → IsWithin room ys
within_after room a k now ys xs e w =
    subst (IsWithin room) (sym e) (within_mapped (model.set_off a k now) (λ x. set_off_same a k now x (model.triggers a k x.trigger && nat_lt 0 (model.delay_of x.trigger)) refl) room xs w)

-- ---- the loop over the actions

blank : DeviceAction
blank = record { action = action.Set 0 0; trigger = None; tick = None; line = 0 }

pub one_more : (a : Access) (k : ℕ) (H W after : Device) (at : ℕ) → W ≡ fold (model.at_once a k) H (take at H.actions) → at < length H.actions
    → ((l : DeviceAction) → slice_get W.actions at ≡ Some l → after ≡ model.at_once a k W l) → after ≡ fold (model.at_once a k) H (take (at + 1) H.actions)
one_more a k H W after at so_far within does =
    let x = slice_index_or H.actions at blank in
    let it : slice_get H.actions at ≡ Some x = slice_get-get_or H.actions at blank within in
    let same : W.actions ≡ H.actions = ap (λ (D : Device). D.actions) so_far ∙ kept_actions a k H (take at H.actions) in
    let done = does x (ap (λ ls. slice_get ls at) same ∙ it) in
    done ∙ ap (λ D. model.at_once a k D x) so_far ∙ sym (rw (add-one, take_next H.actions at x it, fold_last) refl)

pub as_long : (a : Access) (k : ℕ) (H W : Device) (at : ℕ) → W ≡ fold (model.at_once a k) H (take at H.actions) → length W.actions ≡ length H.actions
as_long a k H W at so_far = ap (λ (D : Device). length D.actions) so_far ∙ ap length (kept_actions a k H (take at H.actions))

pub all_triggered : (a : Access) (k : ℕ) (H W : Device) (at : ℕ) (ls : List DeviceAction) → W ≡ fold (model.at_once a k) H (take at H.actions) → length H.actions ≤ at
    → ls ≡ map (model.set_off a k W.clock) W.actions → with_actions W ls ≡ model.accessed a k H
all_triggered a k H W at ls so_far past e =
    let whole : W ≡ fold (model.at_once a k) H H.actions = so_far ∙ ap (fold (model.at_once a k) H) (take_all at H.actions past) in
    let same : W.actions ≡ H.actions = ap (λ (D : Device). D.actions) whole ∙ kept_actions a k H H.actions in
    let clock : W.clock ≡ H.clock = ap (λ (D : Device). D.clock) whole ∙ kept_clock a k H H.actions in
    let ls' : ls ≡ map (model.set_off a k H.clock) H.actions = e ∙ ap (λ c. map (model.set_off a k c) W.actions) clock ∙ ap (map (model.set_off a k H.clock)) same in
    ap (λ zs. with_actions W zs) ls' ∙ ap (λ D. with_actions D (map (model.set_off a k H.clock) H.actions)) whole ∙ sym (apart a k H (map (model.set_off a k H.clock) H.actions) H.actions)
