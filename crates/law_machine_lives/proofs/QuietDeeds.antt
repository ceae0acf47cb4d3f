-- Calls, starts, stages and posts leave the processors and the locks alone, but for what starts or ends frames, and calls on locks.
use Rattle.std.proofs.Common.{◌≡◌, ℕ, Bool, true, false, ◌||◌, List, Option}
use Rattle.std.specs.List.{list_all}
use Rattle.wdf_base.specs.declared.plan.Plan.{Plan}
use Rattle.wdf_base.specs.declared.ids.Handle.{Handle}
use Rattle.wdf_base.specs.declared.call.Arg.{Arg}
use Rattle.wdf_base.specs.declared.call.Call.{Call}
use Rattle.wdf_base.specs.declared.call.CallKind.{CallKind}
use Rattle.wdf_base.specs.declared.call.Callback.{Callback}
use Rattle.wdf_base.specs.declared.event.Post.{Post}
use Rattle.wdf_base.specs.declared.event.Stage.{Stage}
use Rattle.wdf_base.specs.Calls.{is_acquire, is_release}
use Rattle.wdf_model.specs.State.{State}
use Rattle.wdf_model.specs.declared.deed.Deed.{Deed}
use Rattle.wdf_model.specs.declared.deed.Deed.TheVariants.{GoOn, Lower, ParkFrame, PopFrame, PushFrame, Raise, ReleaseLock, TakeLock, UnparkFrame}
use Rattle.wdf_model.specs.rules.Calls.{outcome}
use Rattle.wdf_model.specs.rules.Posts.{post_deeds}
use Rattle.wdf_model.specs.rules.Starts.{stage_effect, start_effect}
use Rattle.wdf_model.proofs.Tests.{either_false}
use Rattle.law_machine_deeds.proofs.Walk.{plain_frame, plain_stage, plain_start}
use Rattle.law_machine_deeds.proofs.Passing.{Passes, PassesBeside, first_of, outcome_passes, post_of, post_passes, stage_of, stage_passes, start_effect_passes, start_of}

-- a deed that leaves the processors and the locks alone
abbrev pub is_quiet_deed : Deed → Bool
is_quiet_deed (PushFrame cpu f frame level) = false
is_quiet_deed (GoOn f frame) = false
is_quiet_deed (PopFrame cpu) = false
is_quiet_deed (ParkFrame cpu) = false
is_quiet_deed (UnparkFrame cpu f) = false
is_quiet_deed (Raise f level) = false
is_quiet_deed (Lower f level) = false
is_quiet_deed (TakeLock l f by_call) = false
is_quiet_deed (ReleaseLock l) = false
is_quiet_deed _ = true

abbrev pub all_quiet : List Deed → Bool
all_quiet ds = list_all is_quiet_deed ds

-- the calls that acquire or release a lock
abbrev pub is_lock_call : CallKind → Bool
is_lock_call k = is_acquire k || is_release k

call_quiet : (c : Call) → is_lock_call c.kind ≡ false → PassesBeside is_quiet_deed plain_frame (first_of c)
call_quiet c l (Raise f level) h n = absurd (let off = either_false (is_acquire c.kind) (is_release c.kind) l in let z : ⊥ = cc in z)
call_quiet c l (Lower f level) h n = absurd (let off = either_false (is_acquire c.kind) (is_release c.kind) l in let z : ⊥ = cc in z)
call_quiet c l (ReleaseLock x) h n = absurd (let off = either_false (is_acquire c.kind) (is_release c.kind) l in let z : ⊥ = cc in z)
call_quiet c l _ h n = cc

pub outcome_none : {A : Type 0} (plan : Plan) (S : State A) (cpu f : ℕ) (k : CallKind) (n : ℕ) (a b x : Arg) → is_lock_call k ≡ false → all_quiet (outcome plan S cpu f (record { kind = k; count = n; a = a; b = b; c = x })).deeds ≡ true
outcome_none plan S cpu f k n a b x h = outcome_passes is_quiet_deed plan S cpu f (record { kind = k; count = n; a = a; b = b; c = x }) (call_quiet (record { kind = k; count = n; a = a; b = b; c = x }) h)

start_quiet : (c : Callback) → PassesBeside is_quiet_deed plain_start (start_of c)
start_quiet c (GoOn f frame) h n = h
start_quiet c _ h n = cc

pub start_effect_none : {A : Type 0} (plan : Plan) (S : State A) (cpu : ℕ) (c : Callback) (o : ℕ) (r : Option Handle) → all_quiet (start_effect plan S cpu c o r) ≡ true
start_effect_none plan S cpu c o r = start_effect_passes is_quiet_deed plan S cpu c o r (start_quiet c)

stage_quiet : (s : Stage) → PassesBeside is_quiet_deed plain_stage (stage_of s)
stage_quiet s (GoOn f frame) h n = h
stage_quiet s _ h n = cc

pub stage_none : (plan : Plan) (d : ℕ) (s : Stage) (i : Option Handle) → all_quiet (stage_effect plan d s i) ≡ true
stage_none plan d s i = stage_passes is_quiet_deed plan d s i (stage_quiet s)

post_quiet : (p : Post) → Passes is_quiet_deed (post_of p)
post_quiet p (GoOn f frame) h = h
post_quiet p _ h = cc

pub post_none : {A : Type 0} (plan : Plan) (S : State A) (agent : ℕ) (p : Post) → all_quiet (post_deeds plan S agent p) ≡ true
post_none plan S agent p = post_passes is_quiet_deed plan S agent p (post_quiet p)
