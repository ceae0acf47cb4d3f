-- What a deed leaves alone: each part of the state that isn't in its row.
use Rattle.std.proofs.Common.{if◌then◌else◌, ◌≡◌, ◌≢◌, ℕ, Bool, true, false, ◌==◌, ◌&&◌, ◌||◌, List, [], ◌∷◌, filter, map, fold, refl, ap, sym, ◌∙◌}
use Rattle.std.proofs.lemmas.Bool.{eqb-true}
use Rattle.std.specs.List.{flat_map, list_all}
use Rattle.wdf_base.specs.Lives.{is_live}
use Rattle.wdf_base.specs.declared.object.Place.{Place}
use Rattle.wdf_base.specs.declared.object.Place.TheVariants as place
use Rattle.wdf_base.specs.declared.object.RequestInfo.{RequestInfo}
use Rattle.wdf_base.specs.declared.plan.Plan.{Plan}
use Rattle.wdf_model.specs.Plans.{managed_queues, queues_of}
use Rattle.wdf_model.specs.State.{State, is_with_driver}
use Rattle.wdf_model.specs.declared.deed.Deed.{Deed}
use Rattle.wdf_model.specs.declared.deed.Deed.TheVariants as deed
use Rattle.wdf_model.proofs.Counts.{differs}
use Rattle.wdf_model.proofs.Tests.{both_left, both_right, itself}
use Rattle.wdf_model.specs.declared.entries.HeldLevel.{HeldLevel}
use Rattle.wdf_model.specs.parts.Cpus.{less_one, levels_of}
use Rattle.wdf_model.specs.declared.enums.Mode.TheVariants as mode
use Rattle.wdf_model.specs.parts.Control as control
use Rattle.wdf_model.specs.parts.Control.{Control}
use Rattle.wdf_model.specs.parts.Power.{Power}
use Rattle.wdf_model.specs.parts.Queues.{Queues, waiting_in}
use Rattle.wdf_model.specs.parts.Requests as requests
use Rattle.wdf_model.specs.parts.Requests.{Requests}
use Rattle.wdf_model.specs.parts.Targets.{Targets}
use Rattle.wdf_model.specs.parts.Tree.{Tree, life_of, subtree}
use Rattle.wdf_model.specs.parts.Deferred.Dpcs.{Dpcs}
use Rattle.wdf_model.specs.parts.Deferred.Timers.{Timers}
use Rattle.wdf_model.specs.parts.Deferred.WorkItems.{WorkItems}
use Rattle.wdf_model.specs.rules.Deeds.{arrive_at, ask_object, close_queue, close_returning, do_deed, do_deeds, give_up, give_up_if, withdraw}
use Rattle.law_touched.specs.Touched.{Piece, ObjectTree, Processor, TopFrame, HeldLocks, RequestTable, QueueLines, QueueControl, DevicePower, DeviceSteps, EnabledInterrupts, DpcLists, WorkQueue, TimerQueue, TargetTable, ClockTick, changed_by, has_piece}
use Rattle.law_touched.proofs.Same.{none_before}

-- what a part is, read off a state
module _ {A X : Type 0} (F : State A → X) where
  each : (step : State A → ℕ → State A) → ((S : State A) (x : ℕ) → F S ≡ F (step S x)) → (xs : List ℕ) (S : State A) → F S ≡ F (fold step S xs)
  each step h [] S = refl
  each step h (x ∷ xs) S = h S x ∙ each step h xs (step S x)

  either : (b : Bool) (S U V : State A) → F S ≡ F U → F S ≡ F V → F S ≡ F (if b then U else V)
  either true S U V h k = h
  either false S U V h k = k

  asks : ((S : State A) (T : Tree) (D : Dpcs) (W : WorkItems) (M : Timers) → F S ≡ F (record S { tree = T; dpcs = D; work_items = W; timers = M })) → (xs : List ℕ) (S : State A) → F S ≡ F (fold ask_object S xs)
  asks h xs S = each ask_object (λ U o. either (is_live (life_of U.tree o)) U _ U (h U _ _ _ _) refl) xs S

  gives : ((S : State A) (Q : Queues) (P : Power) → F S ≡ F (record S { queues = Q; power = P })) → (r : ℕ) (S : State A) → F S ≡ F (give_up S r)
  gives h r S = either (is_with_driver S r) S _ S (h S _ _) refl

  gives_if : ((S : State A) (Q : Queues) (P : Power) → F S ≡ F (record S { queues = Q; power = P })) → (forget : Bool) (r : ℕ) (S : State A) → F S ≡ F (give_up_if forget S r)
  gives_if h true r S = gives h r S
  gives_if h false r S = refl

  arrives : ((S : State A) (T : Tree) (R : Requests) → F S ≡ F (record S { tree = T; requests = R })) → ((S : State A) (Q : Queues) (K : Control) → F S ≡ F (record S { queues = Q; control = K }))
      → (S : State A) (device : ℕ) (info : RequestInfo) (p : Place) → F S ≡ F (arrive_at S device info p)
  arrives h k S device info (place.Queued q) = h S _ _ ∙ k _ _ _
  arrives h k S device info _ = h S _ _

-- a deed that moves a request, or asks the deletion of objects: it may change several parts, or many objects
abbrev pub is_compound : Deed → Bool
is_compound (deed.Arrive device info p) = true
is_compound (deed.AskDeletion o) = true
is_compound (deed.Requeue r q) = true
is_compound (deed.Forward r q) = true
is_compound (deed.GiveBack r q) = true
is_compound (deed.SendRequest r t forget) = true
is_compound (deed.CompleteRequest r) = true
is_compound (deed.PurgeQueue q) = true
is_compound (deed.CloseReturning d) = true
is_compound (deed.CloseDevice d) = true
is_compound _ = false

-- what none of these changes
module _ {A X : Type 0} (plan : Plan) (F : State A → X)
    (blind : (S : State A) (T : Tree) (D : Dpcs) (W : WorkItems) (M : Timers) (Q : Queues) (P : Power) (R : Requests) (K : Control) (N : Targets)
    → F S ≡ F (record S { tree = T; dpcs = D; work_items = W; timers = M; queues = Q; power = P; requests = R; control = K; targets = N })) where
  asked : (S : State A) (T : Tree) (D : Dpcs) (W : WorkItems) (M : Timers) → F S ≡ F (record S { tree = T; dpcs = D; work_items = W; timers = M })
  asked S T D W M = blind S T D W M S.queues S.power S.requests S.control S.targets

  given : (S : State A) (Q : Queues) (P : Power) → F S ≡ F (record S { queues = Q; power = P })
  given S Q P = blind S S.tree S.dpcs S.work_items S.timers Q P S.requests S.control S.targets

  placed : (S : State A) (R : Requests) → F S ≡ F (record S { requests = R })
  placed S R = blind S S.tree S.dpcs S.work_items S.timers S.queues S.power R S.control S.targets

  lined : (S : State A) (Q : Queues) (K : Control) → F S ≡ F (record S { queues = Q; control = K })
  lined S Q K = blind S S.tree S.dpcs S.work_items S.timers Q S.power S.requests K S.targets

  taken : (S : State A) (Q : Queues) (R : Requests) → F S ≡ F (record S { queues = Q; requests = R })
  taken S Q R = blind S S.tree S.dpcs S.work_items S.timers Q S.power R S.control S.targets

  pub compound_stays : (d : Deed) (S : State A) → is_compound d ≡ true → F S ≡ F (do_deed plan d S)
  compound_stays (deed.Arrive device info p) S is = arrives F (λ U T R. blind U T U.dpcs U.work_items U.timers U.queues U.power R U.control U.targets) lined S device.0 info p
  compound_stays (deed.AskDeletion o) S is = asks F asked (subtree S.tree o.0) S
  compound_stays (deed.Requeue r q) S is = gives F given r.0 S ∙ placed (give_up S r.0) _ ∙ lined _ _ _
  compound_stays (deed.Forward r q) S is = gives F given r.0 S ∙ placed (give_up S r.0) _ ∙ lined _ _ _
  compound_stays (deed.GiveBack r q) S is = gives F given r.0 S ∙ placed (give_up S r.0) _
  compound_stays (deed.SendRequest r t forget) S is =
      gives_if F given forget r.0 S ∙ (let U = give_up_if forget S r.0 in blind U U.tree U.dpcs U.work_items U.timers U.queues U.power _ U.control _)
  compound_stays (deed.CompleteRequest r) S is =
      gives F given r.0 S ∙ placed (give_up S r.0) (requests.complete S.requests r.0) ∙ asks F asked (subtree (give_up S r.0).tree r.0) (record (give_up S r.0) { requests = requests.complete S.requests r.0 })
  compound_stays (deed.PurgeQueue q) S is =
      lined S S.queues (control.set_mode S.control q.0 mode.Purged) ∙ each F (withdraw plan q.0) (λ U r. taken U _ _) (waiting_in S.queues q.0) (record S { control = control.set_mode S.control q.0 mode.Purged })
  compound_stays (deed.CloseReturning d) S is = each F close_returning (λ U q. placed U _) (managed_queues plan d.0) S
  compound_stays (deed.CloseDevice d) S is = lined S S.queues (control.shut S.control d.0) ∙ each F close_queue (λ U q. taken U _ _) (queues_of plan d.0) (record S { control = control.shut S.control d.0 })
  compound_stays _ S is = absurd (let z : ⊥ = cc in z)

  stays_by : (d : Deed) (S : State A) (b : Bool) → is_compound d ≡ b → (is_compound d ≡ false → F S ≡ F (do_deed plan d S)) → F S ≡ F (do_deed plan d S)
  stays_by d S true is plain = compound_stays d S is
  stays_by d S false is plain = plain is

  -- a part stays that these leave alone, where it stays by each other deed
  pub stays : (d : Deed) (S : State A) → (is_compound d ≡ false → F S ≡ F (do_deed plan d S)) → F S ≡ F (do_deed plan d S)
  stays d S plain = stays_by d S (is_compound d) refl plain

-- a deed that does nothing to the processors
abbrev pub is_quiet : Deed → Bool
is_quiet (deed.PushFrame on f frame level) = false
is_quiet (deed.GoOn f frame) = false
is_quiet (deed.Raise f level) = false
is_quiet (deed.Lower f level) = false
is_quiet (deed.PopFrame on) = false
is_quiet (deed.ParkFrame on) = false
is_quiet (deed.UnparkFrame on f) = false
is_quiet _ = true

-- a deed that begins and ends no frame, parks none, and raises and lowers the level of frame e alone
abbrev pub is_of_frame : ℕ → Deed → Bool
is_of_frame e (deed.PushFrame on f frame level) = false
is_of_frame e (deed.Raise f level) = f.0 == e
is_of_frame e (deed.Lower f level) = f.0 == e
is_of_frame e (deed.PopFrame on) = false
is_of_frame e (deed.ParkFrame on) = false
is_of_frame e (deed.UnparkFrame on f) = false
is_of_frame e _ = true

-- to lower another frame leaves a frame's levels alone
less_by : (f level x : ℕ) (l : HeldLevel) (ls : List HeldLevel) (b : Bool) → (f == x) ≡ false → (l.frame.0 == f && l.level.0 == level) ≡ b
    → filter (λ (k : HeldLevel). k.frame.0 == x) ls ≡ filter (λ (k : HeldLevel). k.frame.0 == x) (less_one f level ls)
    → filter (λ (k : HeldLevel). k.frame.0 == x) (l ∷ ls) ≡ filter (λ (k : HeldLevel). k.frame.0 == x) (if b then ls else l ∷ less_one f level ls)
less_by f level x l ls true other is rest =
    let it : l.frame.0 ≡ f = eqb-true l.frame.0 f (both_left (l.frame.0 == f) (l.level.0 == level) is) in
    let no_one : (l.frame.0 == x) ≡ false = ap (λ y. y == x) it ∙ other in
    rw no_one refl
less_by f level x l ls false other is rest = λ i. if l.frame.0 == x then l ∷ rest i else rest i

less_other : (f level x : ℕ) → (f == x) ≡ false → (ls : List HeldLevel) → filter (λ (k : HeldLevel). k.frame.0 == x) ls ≡ filter (λ (k : HeldLevel). k.frame.0 == x) (less_one f level ls)
less_other f level x other [] = refl
less_other f level x other (l ∷ ls) = less_by f level x l ls (l.frame.0 == f && l.level.0 == level) other refl (less_other f level x other ls)

it_is_there : (cpu : ℕ) → ((cpu == cpu) || false) ≡ false → ⊥
it_is_there cpu h = let k : (cpu == cpu) ≡ true = itself cpu in let z : ⊥ = cc in z

module _ {A : Type 0} (plan : Plan) (cpu : ℕ) where
  -- ---- the parts that such deeds change

  pub tree_by : (d : Deed) (S : State A) → has_piece ObjectTree (changed_by cpu d) ≡ false → S.tree ≡ (do_deed plan d S).tree
  tree_by (deed.Requeue r q) S h = gives (λ (S : State A). S.tree) (λ S Q P. refl) r.0 S
  tree_by (deed.Forward r q) S h = gives (λ (S : State A). S.tree) (λ S Q P. refl) r.0 S
  tree_by (deed.GiveBack r q) S h = gives (λ (S : State A). S.tree) (λ S Q P. refl) r.0 S
  tree_by (deed.SendRequest r t forget) S h = gives_if (λ (S : State A). S.tree) (λ S Q P. refl) forget r.0 S
  tree_by (deed.PurgeQueue q) S h = each (λ (S : State A). S.tree) (withdraw plan q.0) (λ S r. refl) (waiting_in S.queues q.0) (record S { control = control.set_mode S.control q.0 mode.Purged })
  tree_by (deed.CloseReturning d) S h = each (λ (S : State A). S.tree) close_returning (λ S q. refl) (managed_queues plan d.0) S
  tree_by (deed.CloseDevice d) S h = each (λ (S : State A). S.tree) close_queue (λ S q. refl) (queues_of plan d.0) (record S { control = control.shut S.control d.0 })
  tree_by _ S h = cc

  pub requests_by : (d : Deed) (S : State A) → has_piece RequestTable (changed_by cpu d) ≡ false → S.requests ≡ (do_deed plan d S).requests
  requests_by (deed.AskDeletion o) S h = asks (λ (S : State A). S.requests) (λ S T D W M. refl) (subtree S.tree o.0) S
  requests_by _ S h = cc

  pub queues_by : (d : Deed) (S : State A) → has_piece QueueLines (changed_by cpu d) ≡ false → S.queues ≡ (do_deed plan d S).queues
  queues_by (deed.AskDeletion o) S h = asks (λ (S : State A). S.queues) (λ S T D W M. refl) (subtree S.tree o.0) S
  queues_by (deed.CloseReturning d) S h = each (λ (S : State A). S.queues) close_returning (λ S q. refl) (managed_queues plan d.0) S
  queues_by _ S h = cc

  pub control_by : (d : Deed) (S : State A) → has_piece QueueControl (changed_by cpu d) ≡ false → S.control ≡ (do_deed plan d S).control
  control_by (deed.AskDeletion o) S h = asks (λ (S : State A). S.control) (λ S T D W M. refl) (subtree S.tree o.0) S
  control_by (deed.GiveBack r q) S h = gives (λ (S : State A). S.control) (λ S Q P. refl) r.0 S
  control_by (deed.SendRequest r t forget) S h = gives_if (λ (S : State A). S.control) (λ S Q P. refl) forget r.0 S
  control_by (deed.CompleteRequest r) S h = gives (λ (S : State A). S.control) (λ S Q P. refl) r.0 S ∙ asks (λ (S : State A). S.control) (λ S T D W M. refl) (subtree (give_up S r.0).tree r.0) (record (give_up S r.0) { requests = requests.complete S.requests r.0 })
  control_by (deed.CloseReturning d) S h = each (λ (S : State A). S.control) close_returning (λ S q. refl) (managed_queues plan d.0) S
  control_by _ S h = cc

  pub power_by : (d : Deed) (S : State A) → has_piece DevicePower (changed_by cpu d) ≡ false → S.power ≡ (do_deed plan d S).power
  power_by (deed.Arrive device info p) S h = arrives (λ (S : State A). S.power) (λ S T R. refl) (λ S Q K. refl) S device.0 info p
  power_by (deed.AskDeletion o) S h = asks (λ (S : State A). S.power) (λ S T D W M. refl) (subtree S.tree o.0) S
  power_by (deed.PurgeQueue q) S h = each (λ (S : State A). S.power) (withdraw plan q.0) (λ S r. refl) (waiting_in S.queues q.0) (record S { control = control.set_mode S.control q.0 mode.Purged })
  power_by (deed.CloseReturning d) S h = each (λ (S : State A). S.power) close_returning (λ S q. refl) (managed_queues plan d.0) S
  power_by (deed.CloseDevice d) S h = each (λ (S : State A). S.power) close_queue (λ S q. refl) (queues_of plan d.0) (record S { control = control.shut S.control d.0 })
  power_by _ S h = cc

  pub dpcs_by : (d : Deed) (S : State A) → has_piece DpcLists (changed_by cpu d) ≡ false → S.dpcs ≡ (do_deed plan d S).dpcs
  dpcs_by (deed.Arrive device info p) S h = arrives (λ (S : State A). S.dpcs) (λ S T R. refl) (λ S Q K. refl) S device.0 info p
  dpcs_by (deed.Requeue r q) S h = gives (λ (S : State A). S.dpcs) (λ S Q P. refl) r.0 S
  dpcs_by (deed.Forward r q) S h = gives (λ (S : State A). S.dpcs) (λ S Q P. refl) r.0 S
  dpcs_by (deed.GiveBack r q) S h = gives (λ (S : State A). S.dpcs) (λ S Q P. refl) r.0 S
  dpcs_by (deed.SendRequest r t forget) S h = gives_if (λ (S : State A). S.dpcs) (λ S Q P. refl) forget r.0 S
  dpcs_by (deed.PurgeQueue q) S h = each (λ (S : State A). S.dpcs) (withdraw plan q.0) (λ S r. refl) (waiting_in S.queues q.0) (record S { control = control.set_mode S.control q.0 mode.Purged })
  dpcs_by (deed.CloseReturning d) S h = each (λ (S : State A). S.dpcs) close_returning (λ S q. refl) (managed_queues plan d.0) S
  dpcs_by (deed.CloseDevice d) S h = each (λ (S : State A). S.dpcs) close_queue (λ S q. refl) (queues_of plan d.0) (record S { control = control.shut S.control d.0 })
  dpcs_by _ S h = cc

  pub work_items_by : (d : Deed) (S : State A) → has_piece WorkQueue (changed_by cpu d) ≡ false → S.work_items ≡ (do_deed plan d S).work_items
  work_items_by (deed.Arrive device info p) S h = arrives (λ (S : State A). S.work_items) (λ S T R. refl) (λ S Q K. refl) S device.0 info p
  work_items_by (deed.Requeue r q) S h = gives (λ (S : State A). S.work_items) (λ S Q P. refl) r.0 S
  work_items_by (deed.Forward r q) S h = gives (λ (S : State A). S.work_items) (λ S Q P. refl) r.0 S
  work_items_by (deed.GiveBack r q) S h = gives (λ (S : State A). S.work_items) (λ S Q P. refl) r.0 S
  work_items_by (deed.SendRequest r t forget) S h = gives_if (λ (S : State A). S.work_items) (λ S Q P. refl) forget r.0 S
  work_items_by (deed.PurgeQueue q) S h = each (λ (S : State A). S.work_items) (withdraw plan q.0) (λ S r. refl) (waiting_in S.queues q.0) (record S { control = control.set_mode S.control q.0 mode.Purged })
  work_items_by (deed.CloseReturning d) S h = each (λ (S : State A). S.work_items) close_returning (λ S q. refl) (managed_queues plan d.0) S
  work_items_by (deed.CloseDevice d) S h = each (λ (S : State A). S.work_items) close_queue (λ S q. refl) (queues_of plan d.0) (record S { control = control.shut S.control d.0 })
  work_items_by _ S h = cc

  pub timers_by : (d : Deed) (S : State A) → has_piece TimerQueue (changed_by cpu d) ≡ false → S.timers ≡ (do_deed plan d S).timers
  timers_by (deed.Arrive device info p) S h = arrives (λ (S : State A). S.timers) (λ S T R. refl) (λ S Q K. refl) S device.0 info p
  timers_by (deed.Requeue r q) S h = gives (λ (S : State A). S.timers) (λ S Q P. refl) r.0 S
  timers_by (deed.Forward r q) S h = gives (λ (S : State A). S.timers) (λ S Q P. refl) r.0 S
  timers_by (deed.GiveBack r q) S h = gives (λ (S : State A). S.timers) (λ S Q P. refl) r.0 S
  timers_by (deed.SendRequest r t forget) S h = gives_if (λ (S : State A). S.timers) (λ S Q P. refl) forget r.0 S
  timers_by (deed.PurgeQueue q) S h = each (λ (S : State A). S.timers) (withdraw plan q.0) (λ S r. refl) (waiting_in S.queues q.0) (record S { control = control.set_mode S.control q.0 mode.Purged })
  timers_by (deed.CloseReturning d) S h = each (λ (S : State A). S.timers) close_returning (λ S q. refl) (managed_queues plan d.0) S
  timers_by (deed.CloseDevice d) S h = each (λ (S : State A). S.timers) close_queue (λ S q. refl) (queues_of plan d.0) (record S { control = control.shut S.control d.0 })
  timers_by _ S h = cc

  pub targets_by : (d : Deed) (S : State A) → has_piece TargetTable (changed_by cpu d) ≡ false → S.targets ≡ (do_deed plan d S).targets
  targets_by (deed.Arrive device info p) S h = arrives (λ (S : State A). S.targets) (λ S T R. refl) (λ S Q K. refl) S device.0 info p
  targets_by (deed.AskDeletion o) S h = asks (λ (S : State A). S.targets) (λ S T D W M. refl) (subtree S.tree o.0) S
  targets_by (deed.Requeue r q) S h = gives (λ (S : State A). S.targets) (λ S Q P. refl) r.0 S
  targets_by (deed.Forward r q) S h = gives (λ (S : State A). S.targets) (λ S Q P. refl) r.0 S
  targets_by (deed.GiveBack r q) S h = gives (λ (S : State A). S.targets) (λ S Q P. refl) r.0 S
  targets_by (deed.CompleteRequest r) S h = gives (λ (S : State A). S.targets) (λ S Q P. refl) r.0 S ∙ asks (λ (S : State A). S.targets) (λ S T D W M. refl) (subtree (give_up S r.0).tree r.0) (record (give_up S r.0) { requests = requests.complete S.requests r.0 })
  targets_by (deed.PurgeQueue q) S h = each (λ (S : State A). S.targets) (withdraw plan q.0) (λ S r. refl) (waiting_in S.queues q.0) (record S { control = control.set_mode S.control q.0 mode.Purged })
  targets_by (deed.CloseReturning d) S h = each (λ (S : State A). S.targets) close_returning (λ S q. refl) (managed_queues plan d.0) S
  targets_by (deed.CloseDevice d) S h = each (λ (S : State A). S.targets) close_queue (λ S q. refl) (queues_of plan d.0) (record S { control = control.shut S.control d.0 })
  targets_by _ S h = cc

  -- ---- the other parts

  plain_locks : (d : Deed) (S : State A) → has_piece HeldLocks (changed_by cpu d) ≡ false → is_compound d ≡ false → S.locks ≡ (do_deed plan d S).locks
  plain_locks (deed.TakeLock l f by_call) S h is = absurd (let z : ⊥ = cc in z)
  plain_locks _ S h is = cc

  pub locks_by : (d : Deed) (S : State A) → has_piece HeldLocks (changed_by cpu d) ≡ false → S.locks ≡ (do_deed plan d S).locks
  locks_by d S h = stays plan (λ (U : State A). U.locks) (λ S T D W M Q P R K N. refl) d S (plain_locks d S h)

  plain_pnp : (d : Deed) (S : State A) → has_piece DeviceSteps (changed_by cpu d) ≡ false → is_compound d ≡ false → S.pnp ≡ (do_deed plan d S).pnp
  plain_pnp (deed.AskDevice d a) S h is = absurd (let z : ⊥ = cc in z)
  plain_pnp _ S h is = cc

  pub pnp_by : (d : Deed) (S : State A) → has_piece DeviceSteps (changed_by cpu d) ≡ false → S.pnp ≡ (do_deed plan d S).pnp
  pnp_by d S h = stays plan (λ (U : State A). U.pnp) (λ S T D W M Q P R K N. refl) d S (plain_pnp d S h)

  plain_interrupts : (d : Deed) (S : State A) → has_piece EnabledInterrupts (changed_by cpu d) ≡ false → is_compound d ≡ false → S.interrupts ≡ (do_deed plan d S).interrupts
  plain_interrupts (deed.EnableInterrupt i) S h is = absurd (let z : ⊥ = cc in z)
  plain_interrupts _ S h is = cc

  pub interrupts_by : (d : Deed) (S : State A) → has_piece EnabledInterrupts (changed_by cpu d) ≡ false → S.interrupts ≡ (do_deed plan d S).interrupts
  interrupts_by d S h = stays plan (λ (U : State A). U.interrupts) (λ S T D W M Q P R K N. refl) d S (plain_interrupts d S h)

  plain_clock : (d : Deed) (S : State A) → has_piece ClockTick (changed_by cpu d) ≡ false → is_compound d ≡ false → S.clock ≡ (do_deed plan d S).clock
  plain_clock deed.PassTick S h is = absurd (let z : ⊥ = cc in z)
  plain_clock _ S h is = cc

  pub clock_by : (d : Deed) (S : State A) → has_piece ClockTick (changed_by cpu d) ≡ false → S.clock ≡ (do_deed plan d S).clock
  clock_by d S h = stays plan (λ (U : State A). U.clock) (λ S T D W M Q P R K N. refl) d S (plain_clock d S h)

  plain_levels : (d : Deed) (S : State A) → has_piece (Processor cpu) (changed_by cpu d) ≡ false → is_compound d ≡ false → S.cpus.levels ≡ (do_deed plan d S).cpus.levels
  plain_levels (deed.Raise f level) S h is = absurd (it_is_there cpu h)
  plain_levels (deed.Lower f level) S h is = absurd (it_is_there cpu h)
  plain_levels (deed.PopFrame on) S h is = absurd (it_is_there cpu h)
  plain_levels _ S h is = cc

  pub levels_by : (d : Deed) (S : State A) → has_piece (Processor cpu) (changed_by cpu d) ≡ false → S.cpus.levels ≡ (do_deed plan d S).cpus.levels
  levels_by d S h = stays plan (λ (U : State A). U.cpus.levels) (λ S T D W M Q P R K N. refl) d S (plain_levels d S h)

  plain_frames : (d : Deed) (S : State A) → has_piece (TopFrame cpu) (changed_by cpu d) ≡ false → is_compound d ≡ false → S.cpus.frames ≡ (do_deed plan d S).cpus.frames
  plain_frames (deed.PushFrame on f frame level) S h is = absurd (it_is_there cpu h)
  plain_frames (deed.GoOn f frame) S h is = absurd (it_is_there cpu h)
  plain_frames (deed.PopFrame on) S h is = absurd (it_is_there cpu h)
  plain_frames _ S h is = cc

  pub frames_by : (d : Deed) (S : State A) → has_piece (TopFrame cpu) (changed_by cpu d) ≡ false → S.cpus.frames ≡ (do_deed plan d S).cpus.frames
  frames_by d S h = stays plan (λ (U : State A). U.cpus.frames) (λ S T D W M Q P R K N. refl) d S (plain_frames d S h)

  plain_stacks_at : (d : Deed) (S : State A) → has_piece (TopFrame cpu) (changed_by cpu d) ≡ false → is_compound d ≡ false → S.cpus.stacks ≡ (do_deed plan d S).cpus.stacks
  plain_stacks_at (deed.PushFrame on f frame level) S h is = absurd (it_is_there cpu h)
  plain_stacks_at (deed.PopFrame on) S h is = absurd (it_is_there cpu h)
  plain_stacks_at (deed.ParkFrame on) S h is = absurd (it_is_there cpu h)
  plain_stacks_at (deed.UnparkFrame on f) S h is = absurd (it_is_there cpu h)
  plain_stacks_at _ S h is = cc

  pub stacks_at_by : (d : Deed) (S : State A) → has_piece (TopFrame cpu) (changed_by cpu d) ≡ false → S.cpus.stacks ≡ (do_deed plan d S).cpus.stacks
  stacks_at_by d S h = stays plan (λ (U : State A). U.cpus.stacks) (λ S T D W M Q P R K N. refl) d S (plain_stacks_at d S h)

  plain_parked_at : (d : Deed) (S : State A) → has_piece (TopFrame cpu) (changed_by cpu d) ≡ false → is_compound d ≡ false → S.cpus.parked ≡ (do_deed plan d S).cpus.parked
  plain_parked_at (deed.ParkFrame on) S h is = absurd (it_is_there cpu h)
  plain_parked_at (deed.UnparkFrame on f) S h is = absurd (it_is_there cpu h)
  plain_parked_at _ S h is = cc

  pub parked_at_by : (d : Deed) (S : State A) → has_piece (TopFrame cpu) (changed_by cpu d) ≡ false → S.cpus.parked ≡ (do_deed plan d S).cpus.parked
  parked_at_by d S h = stays plan (λ (U : State A). U.cpus.parked) (λ S T D W M Q P R K N. refl) d S (plain_parked_at d S h)

  -- ---- lists of deeds

  module _ {X : Type 0} (F : State A → X) (p : Piece) (by : (d : Deed) (S : State A) → has_piece p (changed_by cpu d) ≡ false → F S ≡ F (do_deed plan d S)) where
    pub all_by : (ds : List Deed) (S : State A) → has_piece p (flat_map (changed_by cpu) ds) ≡ false → F S ≡ F (do_deeds plan ds S)
    all_by [] S h = refl
    all_by (d ∷ ds) S h =
        let none = none_before p (changed_by cpu d) (flat_map (changed_by cpu) ds) h in
        by d S none.0 ∙ all_by ds (do_deed plan d S) none.1

-- ---- the processors

module _ {A : Type 0} (plan : Plan) where
  plain_cpus : (d : Deed) (S : State A) → is_quiet d ≡ true → is_compound d ≡ false → S.cpus ≡ (do_deed plan d S).cpus
  plain_cpus (deed.PushFrame on f frame level) S h is = absurd (let z : ⊥ = cc in z)
  plain_cpus _ S h is = cc

  -- the processors stay by a deed that is none of theirs
  cpus_by : (d : Deed) (S : State A) → is_quiet d ≡ true → S.cpus ≡ (do_deed plan d S).cpus
  cpus_by d S h = stays plan (λ (U : State A). U.cpus) (λ S T D W M Q P R K N. refl) d S (plain_cpus d S h)

  pub all_quiet_by : (ds : List Deed) (S : State A) → list_all is_quiet ds ≡ true → S.cpus ≡ (do_deeds plan ds S).cpus
  all_quiet_by [] S h = refl
  all_quiet_by (d ∷ ds) S h = cpus_by d S (both_left (is_quiet d) (list_all is_quiet ds) h) ∙ all_quiet_by ds (do_deed plan d S) (both_right (is_quiet d) (list_all is_quiet ds) h)

  plain_levels_of : (e x : ℕ) → x ≢ e → (d : Deed) (S : State A) → is_of_frame e d ≡ true → is_compound d ≡ false → levels_of S.cpus x ≡ levels_of (do_deed plan d S).cpus x
  plain_levels_of e x n (deed.Raise f level) S h is = rw (differs f.0 e x h (λ same. n (sym same))) refl
  plain_levels_of e x n (deed.Lower f level) S h is = ap (map (λ (l : HeldLevel). l.level.0)) (less_other f.0 level.0 x (differs f.0 e x h (λ same. n (sym same))) S.cpus.levels)
  plain_levels_of e x n _ S h is = cc

  -- the levels of a frame stay by a deed that raises and lowers another alone
  levels_of_by : (e x : ℕ) → x ≢ e → (d : Deed) (S : State A) → is_of_frame e d ≡ true → levels_of S.cpus x ≡ levels_of (do_deed plan d S).cpus x
  levels_of_by e x n d S h = stays plan (λ (U : State A). levels_of U.cpus x) (λ S T D W M Q P R K N. refl) d S (plain_levels_of e x n d S h)

  pub all_levels_of : (f x : ℕ) → x ≢ f → (ds : List Deed) (S : State A) → list_all (is_of_frame f) ds ≡ true → levels_of S.cpus x ≡ levels_of (do_deeds plan ds S).cpus x
  all_levels_of f x n [] S h = refl
  all_levels_of f x n (d ∷ ds) S h = levels_of_by f x n d S (both_left (is_of_frame f d) (list_all (is_of_frame f) ds) h) ∙ all_levels_of f x n ds (do_deed plan d S) (both_right (is_of_frame f d) (list_all (is_of_frame f) ds) h)
