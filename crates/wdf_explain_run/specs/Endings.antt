-- The story of a run: what is told is read off its state at the end. (own)
use Rattle.std.specs.Prelude.{ℕ, ◌-◌, List, length, Option, Some, None, slice_get}
use Rattle.wdf_base.specs.Meaning.{Meaning}
use Rattle.wdf_base.specs.declared.plan.Plan.{Plan}
use Rattle.wdf_base.specs.declared.ids.Cpu.{Cpu}
use Rattle.wdf_base.specs.declared.ids.Handle.{Handle}
use Rattle.wdf_base.specs.declared.value.Value.TheVariants.{Num, Obj}
use Rattle.wdf_base.specs.declared.call.Arg.{Arg}
use Rattle.wdf_base.specs.declared.call.Arg.TheVariants.{Val}
use Rattle.wdf_base.specs.declared.object.Kind.{Kind}
use Rattle.wdf_base.specs.declared.object.Kind.TheVariants as kind
use Rattle.wdf_base.specs.declared.object.Place.{Place}
use Rattle.wdf_base.specs.declared.object.Place.TheVariants as place
use Rattle.wdf_base.specs.declared.event.Event.{Event}
use Rattle.wdf_base.specs.declared.event.Event.TheVariants as event
use Rattle.wdf_base.specs.declared.frame.Frame.{Frame}
use Rattle.wdf_base.specs.declared.frame.Intent.{Intent}
use Rattle.wdf_base.specs.declared.frame.Intent.TheVariants as intent
use Rattle.wdf_model.specs.State.{State, handle_in}
use Rattle.wdf_model.specs.Ids.{frame_id}
use Rattle.wdf_model.specs.parts.Cpus.{frame_of, top}
use Rattle.wdf_model.specs.parts.Locks.{holder, object_lock}
use Rattle.wdf_model.specs.parts.Requests.{mark_of, place_of}
use Rattle.wdf_model.specs.parts.Tree.{kind_of, life_of, references_of}
use Rattle.wdf_model.specs.rules.Ready.{ending_of, state_after}
use Rattle.wdf_model.specs.rules.Script.{intent_of}
use Rattle.wdf_model.specs.rules.Waits.{wait_list}
use Rattle.wdf_explain.specs.declared.told.Having.{Having}
use Rattle.wdf_explain.specs.declared.told.Having.TheVariants as having
use Rattle.wdf_explain.specs.declared.told.Standing.{Standing}
use Rattle.wdf_explain.specs.declared.told.Doing.{Doing}
use Rattle.wdf_explain.specs.Stories.{story_of}

-- ---- of a state

-- who has a request at this place
abbrev pub having_at : {A : Type 0} → Plan → State A → Place → Having
having_at plan S (place.Queued q) = having.Queued (handle_in plan S q.0)
having_at plan S (place.Returning q) = having.Returning (handle_in plan S q.0)
having_at plan S (place.Closing s) = having.Closing s
having_at plan S place.Owned = having.Driver
having_at plan S (place.Sent t) = having.Target (handle_in plan S t.0)
having_at plan S place.Done = having.Done

-- who has an object of this kind: a request is at a place, a lock is held by a frame or by none
abbrev pub having_of : {A : Type 0} → Plan → State A → ℕ → Kind → Having
having_of plan S o kind.Request = having_at plan S (place_of S.requests o)
having_of plan S o kind.Made = having_at plan S (place_of S.requests o)
having_of plan S o kind.SpinLock = having.Lock (holder S.locks (object_lock o))
having_of plan S o kind.WaitLock = having.Lock (holder S.locks (object_lock o))
having_of plan S o kind.Interrupt = having.Lock (holder S.locks (object_lock o))
having_of plan S o _ = having.Nobody

-- How an object is in a state.
abbrev pub standing_in : {A : Type 0} → Plan → State A → Handle → Standing
standing_in plan S h = record {
  object = h;
  having = having_of plan S h.id.0 (kind_of S.tree h.id.0);
  mark = mark_of S.requests h.id.0;
  references = references_of S.tree h.id.0;
  life = life_of S.tree h.id.0;
}

-- the same of an argument, where it is an object
abbrev pub standing_of : {A : Type 0} → Plan → State A → Arg → Option Standing
standing_of plan S (Val (Obj h)) = Some (standing_in plan S h)
standing_of plan S _ = None

-- an argument of what a frame is about to do; the number 0 where that is no call
abbrev pub first_of : Intent → Arg
first_of (intent.Do c) = c.a
first_of _ = Val (Num 0)

abbrev pub second_of : Intent → Arg
second_of (intent.Do c) = c.b
second_of _ = Val (Num 0)

abbrev pub third_of : Intent → Arg
third_of (intent.Do c) = c.c
third_of _ = Val (Num 0)

-- what a frame on a processor is about to do, and how the objects are that it names
abbrev pub doing_of : {A : Type 0} → Plan → State A → Cpu → ℕ → Frame → Intent → Doing
doing_of plan S cpu f frame i = record {
  cpu = cpu;
  number = frame_id f;
  callback = frame.callback;
  object = frame.object;
  intent = i;
  first = standing_of plan S (first_of i);
  second = standing_of plan S (second_of i);
  third = standing_of plan S (third_of i);
}

-- what the top frame of a processor is about to do; none on an empty one
abbrev pub top_doing : {A : Type 0} → Plan → State A → Cpu → Option ℕ → Option Doing
top_doing plan S cpu None = None
top_doing plan S cpu (Some f) = Some (doing_of plan S cpu f (frame_of S.cpus f) (intent_of plan (frame_of S.cpus f)))

-- what was about to be done where an event is a fault
abbrev pub faulted : {A : Type 0} → Plan → State A → Option Event → Option Doing
faulted plan S (Some (event.Fault cpu f line)) = top_doing plan S cpu (top S.cpus cpu.0)
faulted plan S _ = None

-- The story of a run of a plan: how it ended, and why.
unfoldable pub story : {A : Type 0} → Plan → Meaning A → List Event → List ℕ
story plan m run = story_of plan run (faulted plan (state_after plan m run) (slice_get run (length run - 1))) (wait_list plan m run) (ending_of plan m run)
