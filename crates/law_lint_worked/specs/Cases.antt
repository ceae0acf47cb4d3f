-- Plans and their findings, which were worked out by hand.
use Rattle.std.specs.Prelude.{List, [], ◌∷◌, Some, None, true, false, codes}
use Rattle.wdf_base.specs.declared.declared.Declared.TheVariants as declared
use Rattle.wdf_base.specs.declared.declared.ClassInfo.TheVariants as class
use Rattle.wdf_base.specs.declared.declared.DeferredKind.TheVariants as deferred
use Rattle.wdf_base.specs.declared.declared.Scope.TheVariants as scope
use Rattle.wdf_base.specs.declared.declared.ExecutionLevel.TheVariants as level
use Rattle.wdf_base.specs.declared.declared.DispatchKind.TheVariants as dispatch
use Rattle.wdf_base.specs.declared.event.Post.TheVariants as post
use Rattle.wdf_base.specs.declared.event.Fault.TheVariants as fault
use Rattle.wdf_base.specs.declared.event.Event.TheVariants as event
use Rattle.wdf_base.specs.declared.script.ExprNode.TheVariants as node
use Rattle.wdf_base.specs.declared.script.ContextWord.TheVariants as context
use Rattle.wdf_base.specs.declared.script.Operator.TheVariants as operator
use Rattle.wdf_base.specs.declared.script.ArgNode.TheVariants as arg
use Rattle.wdf_base.specs.declared.script.Act.TheVariants as act
use Rattle.wdf_base.specs.declared.call.CallKind.TheVariants as call
use Rattle.wdf_base.specs.declared.call.Callback.TheVariants as callback
use Rattle.wdf_base.specs.declared.value.Status.TheVariants as status
use Rattle.wdf_base.specs.declared.plan.Plan.{Plan}
use Rattle.law_lint_worked.specs.Writing.{h, at, s}
use Rattle.wdf_base.specs.declared.declared.PlainKind.TheVariants as plain
use Rattle.law_lint_worked.specs.Computed.{Finding, found}

-- a request is unmarked before it is completed
abbrev pub unmarked_plan : Plan
unmarked_plan = record {
  cpus = 1;
  limit = 100;
  objects = 16;
  names = (codes "driver") ∷ (codes "req") ∷ (codes "D") ∷ (codes "Q") ∷ (codes "A") ∷ [];
  declared = (declared.Driver)
      ∷ (declared.Device (record { name = 2; working = true; scope = scope.Unscoped; level = level.Dispatch }))
      ∷ (declared.Queue (record { name = 3; device = record { 0 = 2 }; dispatch = dispatch.Sequential; serves = record { rest = true; read = false; write = false; control = false }; powered = true; zero = false; scope = scope.Unscoped; level = level.Dispatch }))
      ∷ [];
  classes = [];
  registers = [];
  whens = [];
  pnp = [];
  agents = (record { name = 4; posts = (at 20 0 (post.Read (h 2 2) 16)) ∷ (at 21 0 (post.Cancel 1)) ∷ [] })
      ∷ (record { name = 2; posts = [] })
      ∷ [];
  exprs = (node.Context context.OwnRequest) ∷ (node.Context context.OwnRequest) ∷ (node.Variable 1) ∷ (node.Literal status.Success) ∷ (node.Binary operator.Equals 2 3) ∷ (node.Context context.OwnRequest) ∷ (node.Literal status.Success) ∷ (node.Context context.OwnRequest) ∷ (node.Literal status.Cancelled) ∷ [];
  scripts = (record {
    callback = callback.EvtIoRead;
    owner = declared.Queue (record { name = 3; device = record { 0 = 2 }; dispatch = dispatch.Sequential; serves = record { rest = true; read = false; write = false; control = false }; powered = true; zero = false; scope = scope.Unscoped; level = level.Dispatch });
    line = 7;
    statements = s 8 1 (act.Call call.WdfRequestMarkCancelableEx (Some 0) (arg.Expression 0) arg.NoArgument arg.NoArgument)
        ∷ s 9 2 (act.Call call.WdfRequestUnmarkCancelable (Some 1) (arg.Expression 1) arg.NoArgument arg.NoArgument)
        ∷ s 10 3 (act.If 4 4)
        ∷ s 11 4 (act.Call call.WdfRequestComplete None (arg.Expression 5) (arg.Expression 6) arg.NoArgument)
        ∷ [];
  })
      ∷ (record {
        callback = callback.EvtRequestCancel;
        owner = declared.Queue (record { name = 3; device = record { 0 = 2 }; dispatch = dispatch.Sequential; serves = record { rest = true; read = false; write = false; control = false }; powered = true; zero = false; scope = scope.Unscoped; level = level.Dispatch });
        line = 14;
        statements = s 15 1 (act.Call call.WdfRequestComplete None (arg.Expression 7) (arg.Expression 8) arg.NoArgument)
            ∷ [];
      })
      ∷ [];
  picks = (0) ∷ (0) ∷ (0) ∷ (1) ∷ [];
}

-- its findings
abbrev pub unmarked_findings : List Finding
unmarked_findings = []

-- it is completed whatever the unmark answers
abbrev pub anyway_plan : Plan
anyway_plan = record {
  cpus = 1;
  limit = 100;
  objects = 16;
  names = (codes "driver") ∷ (codes "req") ∷ (codes "D") ∷ (codes "Q") ∷ (codes "A") ∷ [];
  declared = (declared.Driver)
      ∷ (declared.Device (record { name = 2; working = true; scope = scope.Unscoped; level = level.Dispatch }))
      ∷ (declared.Queue (record { name = 3; device = record { 0 = 2 }; dispatch = dispatch.Sequential; serves = record { rest = true; read = false; write = false; control = false }; powered = true; zero = false; scope = scope.Unscoped; level = level.Dispatch }))
      ∷ [];
  classes = [];
  registers = [];
  whens = [];
  pnp = [];
  agents = (record { name = 4; posts = (at 18 0 (post.Read (h 2 2) 16)) ∷ (at 19 0 (post.Cancel 1)) ∷ [] })
      ∷ (record { name = 2; posts = [] })
      ∷ [];
  exprs = (node.Context context.OwnRequest) ∷ (node.Context context.OwnRequest) ∷ (node.Context context.OwnRequest) ∷ (node.Literal status.Success) ∷ (node.Context context.OwnRequest) ∷ (node.Literal status.Cancelled) ∷ [];
  scripts = (record {
    callback = callback.EvtIoRead;
    owner = declared.Queue (record { name = 3; device = record { 0 = 2 }; dispatch = dispatch.Sequential; serves = record { rest = true; read = false; write = false; control = false }; powered = true; zero = false; scope = scope.Unscoped; level = level.Dispatch });
    line = 7;
    statements = s 8 1 (act.Call call.WdfRequestMarkCancelableEx (Some 0) (arg.Expression 0) arg.NoArgument arg.NoArgument)
        ∷ s 9 2 (act.Call call.WdfRequestUnmarkCancelable (Some 1) (arg.Expression 1) arg.NoArgument arg.NoArgument)
        ∷ s 10 3 (act.Call call.WdfRequestComplete None (arg.Expression 2) (arg.Expression 3) arg.NoArgument)
        ∷ [];
  })
      ∷ (record {
        callback = callback.EvtRequestCancel;
        owner = declared.Queue (record { name = 3; device = record { 0 = 2 }; dispatch = dispatch.Sequential; serves = record { rest = true; read = false; write = false; control = false }; powered = true; zero = false; scope = scope.Unscoped; level = level.Dispatch });
        line = 12;
        statements = s 13 1 (act.Call call.WdfRequestComplete None (arg.Expression 4) (arg.Expression 5) arg.NoArgument)
            ∷ [];
      })
      ∷ [];
  picks = (0) ∷ (0) ∷ (0) ∷ (1) ∷ [];
}

-- its findings
abbrev pub anyway_findings : List Finding
anyway_findings = (found 10 fault.NotOwned (8 ∷ 9 ∷ 10 ∷ [])) ∷ []

-- a request is completed twice
abbrev pub twice_plan : Plan
twice_plan = record {
  cpus = 1;
  limit = 100;
  objects = 16;
  names = (codes "driver") ∷ (codes "req") ∷ (codes "D") ∷ (codes "Q") ∷ (codes "A") ∷ [];
  declared = (declared.Driver)
      ∷ (declared.Device (record { name = 2; working = true; scope = scope.Unscoped; level = level.Dispatch }))
      ∷ (declared.Queue (record { name = 3; device = record { 0 = 2 }; dispatch = dispatch.Sequential; serves = record { rest = true; read = false; write = false; control = false }; powered = true; zero = false; scope = scope.Unscoped; level = level.Dispatch }))
      ∷ [];
  classes = [];
  registers = [];
  whens = [];
  pnp = [];
  agents = (record { name = 4; posts = (at 14 0 (post.Read (h 2 2) 16)) ∷ [] })
      ∷ (record { name = 2; posts = [] })
      ∷ [];
  exprs = (node.Context context.OwnRequest) ∷ (node.Literal status.Success) ∷ (node.Context context.OwnRequest) ∷ (node.Literal status.Success) ∷ [];
  scripts = (record {
    callback = callback.EvtIoRead;
    owner = declared.Queue (record { name = 3; device = record { 0 = 2 }; dispatch = dispatch.Sequential; serves = record { rest = true; read = false; write = false; control = false }; powered = true; zero = false; scope = scope.Unscoped; level = level.Dispatch });
    line = 7;
    statements = s 8 1 (act.Call call.WdfRequestComplete None (arg.Expression 0) (arg.Expression 1) arg.NoArgument)
        ∷ s 9 2 (act.Call call.WdfRequestComplete None (arg.Expression 2) (arg.Expression 3) arg.NoArgument)
        ∷ [];
  })
      ∷ [];
  picks = [];
}

-- its findings
abbrev pub twice_findings : List Finding
twice_findings = (found 9 fault.NotOwned (8 ∷ 9 ∷ [])) ∷ []

-- a test of the mark's answer decides
abbrev pub decided_plan : Plan
decided_plan = record {
  cpus = 1;
  limit = 100;
  objects = 16;
  names = (codes "driver") ∷ (codes "req") ∷ (codes "D") ∷ (codes "Q") ∷ [];
  declared = (declared.Driver)
      ∷ (declared.Device (record { name = 2; working = true; scope = scope.Unscoped; level = level.Dispatch }))
      ∷ (declared.Queue (record { name = 3; device = record { 0 = 2 }; dispatch = dispatch.Sequential; serves = record { rest = true; read = false; write = false; control = false }; powered = true; zero = false; scope = scope.Unscoped; level = level.Dispatch }))
      ∷ [];
  classes = [];
  registers = [];
  whens = [];
  pnp = [];
  agents = (record { name = 2; posts = [] })
      ∷ [];
  exprs = (node.Context context.OwnRequest) ∷ (node.Variable 0) ∷ (node.Literal status.Success) ∷ (node.Binary operator.Equals 1 2) ∷ (node.Literal status.Success) ∷ (node.Context context.OwnRequest) ∷ (node.Variable 0) ∷ [];
  scripts = (record {
    callback = callback.EvtIoRead;
    owner = declared.Queue (record { name = 3; device = record { 0 = 2 }; dispatch = dispatch.Sequential; serves = record { rest = true; read = false; write = false; control = false }; powered = true; zero = false; scope = scope.Unscoped; level = level.Dispatch });
    line = 7;
    statements = s 8 1 (act.Call call.WdfRequestMarkCancelableEx (Some 0) (arg.Expression 0) arg.NoArgument arg.NoArgument)
        ∷ s 9 2 (act.If 3 3)
        ∷ s 10 3 (act.Return 4)
        ∷ s 12 4 (act.Call call.WdfRequestComplete None (arg.Expression 5) (arg.Expression 6) arg.NoArgument)
        ∷ [];
  })
      ∷ [];
  picks = [];
}

-- its findings
abbrev pub decided_findings : List Finding
decided_findings = []

-- the same test the other way round doesn't
abbrev pub undecided_plan : Plan
undecided_plan = record {
  cpus = 1;
  limit = 100;
  objects = 16;
  names = (codes "driver") ∷ (codes "req") ∷ (codes "D") ∷ (codes "Q") ∷ [];
  declared = (declared.Driver)
      ∷ (declared.Device (record { name = 2; working = true; scope = scope.Unscoped; level = level.Dispatch }))
      ∷ (declared.Queue (record { name = 3; device = record { 0 = 2 }; dispatch = dispatch.Sequential; serves = record { rest = true; read = false; write = false; control = false }; powered = true; zero = false; scope = scope.Unscoped; level = level.Dispatch }))
      ∷ [];
  classes = [];
  registers = [];
  whens = [];
  pnp = [];
  agents = (record { name = 2; posts = [] })
      ∷ [];
  exprs = (node.Context context.OwnRequest) ∷ (node.Literal status.Success) ∷ (node.Variable 0) ∷ (node.Binary operator.Equals 1 2) ∷ (node.Literal status.Success) ∷ (node.Context context.OwnRequest) ∷ (node.Variable 0) ∷ [];
  scripts = (record {
    callback = callback.EvtIoRead;
    owner = declared.Queue (record { name = 3; device = record { 0 = 2 }; dispatch = dispatch.Sequential; serves = record { rest = true; read = false; write = false; control = false }; powered = true; zero = false; scope = scope.Unscoped; level = level.Dispatch });
    line = 7;
    statements = s 8 1 (act.Call call.WdfRequestMarkCancelableEx (Some 0) (arg.Expression 0) arg.NoArgument arg.NoArgument)
        ∷ s 9 2 (act.If 3 3)
        ∷ s 10 3 (act.Return 4)
        ∷ s 12 4 (act.Call call.WdfRequestComplete None (arg.Expression 5) (arg.Expression 6) arg.NoArgument)
        ∷ [];
  })
      ∷ [];
  picks = [];
}

-- its findings
abbrev pub undecided_findings : List Finding
undecided_findings = (found 12 fault.CompleteWhileMarked (8 ∷ 9 ∷ 12 ∷ [])) ∷ []

-- requests are forwarded
abbrev pub forwards_plan : Plan
forwards_plan = record {
  cpus = 1;
  limit = 100;
  objects = 16;
  names = (codes "driver") ∷ (codes "req") ∷ (codes "D") ∷ (codes "Q") ∷ (codes "R") ∷ [];
  declared = (declared.Driver)
      ∷ (declared.Device (record { name = 2; working = true; scope = scope.Unscoped; level = level.Dispatch }))
      ∷ (declared.Queue (record { name = 3; device = record { 0 = 2 }; dispatch = dispatch.Sequential; serves = record { rest = true; read = false; write = false; control = false }; powered = true; zero = false; scope = scope.Unscoped; level = level.Dispatch }))
      ∷ (declared.Queue (record { name = 4; device = record { 0 = 2 }; dispatch = dispatch.Manual; serves = record { rest = false; read = false; write = false; control = false }; powered = true; zero = false; scope = scope.Unscoped; level = level.Dispatch }))
      ∷ [];
  classes = [];
  registers = [];
  whens = [];
  pnp = [];
  agents = (record { name = 2; posts = [] })
      ∷ [];
  exprs = (node.Context context.OwnRequest) ∷ (node.Object (h 4 4)) ∷ (node.Variable 0) ∷ (node.Literal status.Success) ∷ (node.Binary operator.Differs 2 3) ∷ (node.Context context.OwnRequest) ∷ (node.Variable 0) ∷ [];
  scripts = (record {
    callback = callback.EvtIoRead;
    owner = declared.Queue (record { name = 3; device = record { 0 = 2 }; dispatch = dispatch.Sequential; serves = record { rest = true; read = false; write = false; control = false }; powered = true; zero = false; scope = scope.Unscoped; level = level.Dispatch });
    line = 7;
    statements = s 8 1 (act.Call call.WdfRequestForwardToIoQueue (Some 0) (arg.Expression 0) (arg.Expression 1) arg.NoArgument)
        ∷ s 9 2 (act.If 4 3)
        ∷ s 10 3 (act.Call call.WdfRequestComplete None (arg.Expression 5) (arg.Expression 6) arg.NoArgument)
        ∷ [];
  })
      ∷ [];
  picks = [];
}

-- its findings
abbrev pub forwards_findings : List Finding
forwards_findings = []

-- a body runs again
abbrev pub loop_plan : Plan
loop_plan = record {
  cpus = 1;
  limit = 100;
  objects = 16;
  names = (codes "driver") ∷ (codes "req") ∷ (codes "D") ∷ (codes "Q") ∷ [];
  declared = (declared.Driver)
      ∷ (declared.Device (record { name = 2; working = true; scope = scope.Unscoped; level = level.Dispatch }))
      ∷ (declared.Queue (record { name = 3; device = record { 0 = 2 }; dispatch = dispatch.Sequential; serves = record { rest = true; read = false; write = false; control = false }; powered = true; zero = false; scope = scope.Unscoped; level = level.Dispatch }))
      ∷ [];
  classes = [];
  registers = [];
  whens = [];
  pnp = [];
  agents = (record { name = 2; posts = [] })
      ∷ [];
  exprs = (node.Context context.RequestLength) ∷ (node.Context context.OwnRequest) ∷ (node.Literal status.Success) ∷ [];
  scripts = (record {
    callback = callback.EvtIoRead;
    owner = declared.Queue (record { name = 3; device = record { 0 = 2 }; dispatch = dispatch.Sequential; serves = record { rest = true; read = false; write = false; control = false }; powered = true; zero = false; scope = scope.Unscoped; level = level.Dispatch });
    line = 7;
    statements = s 8 1 (act.Repeat 0 0 3)
        ∷ s 9 2 (act.Call call.WdfRequestComplete None (arg.Expression 1) (arg.Expression 2) arg.NoArgument)
        ∷ s 8 3 (act.Again 0 1)
        ∷ [];
  })
      ∷ [];
  picks = [];
}

-- its findings
abbrev pub loop_findings : List Finding
loop_findings = (found 9 fault.NotOwned (8 ∷ 9 ∷ 8 ∷ 9 ∷ [])) ∷ []

-- a lock is taken twice, its variable written
abbrev pub locks_plan : Plan
locks_plan = record {
  cpus = 1;
  limit = 100;
  objects = 16;
  names = (codes "driver") ∷ (codes "req") ∷ (codes "D") ∷ (codes "Q") ∷ [];
  declared = (declared.Driver)
      ∷ (declared.Device (record { name = 2; working = true; scope = scope.Unscoped; level = level.Dispatch }))
      ∷ (declared.Queue (record { name = 3; device = record { 0 = 2 }; dispatch = dispatch.Sequential; serves = record { rest = true; read = false; write = false; control = false }; powered = true; zero = false; scope = scope.Unscoped; level = level.Dispatch }))
      ∷ [];
  classes = [];
  registers = [];
  whens = [];
  pnp = [];
  agents = (record { name = 2; posts = [] })
      ∷ [];
  exprs = (node.Context context.NearestDevice) ∷ (node.Number 0) ∷ (node.Variable 0) ∷ (node.Variable 0) ∷ (node.Number 0) ∷ (node.Variable 0) ∷ [];
  scripts = (record {
    callback = callback.EvtIoRead;
    owner = declared.Queue (record { name = 3; device = record { 0 = 2 }; dispatch = dispatch.Sequential; serves = record { rest = true; read = false; write = false; control = false }; powered = true; zero = false; scope = scope.Unscoped; level = level.Dispatch });
    line = 7;
    statements = s 8 1 (act.Call call.GetContext (Some 0) (arg.Expression 0) (arg.Expression 1) arg.NoArgument)
        ∷ s 9 2 (act.Call call.WdfSpinLockAcquire None (arg.Expression 2) arg.NoArgument arg.NoArgument)
        ∷ s 10 3 (act.Call call.WdfSpinLockAcquire (Some 1) (arg.Expression 3) arg.NoArgument arg.NoArgument)
        ∷ s 11 4 (act.Let 0 4)
        ∷ s 12 5 (act.Call call.WdfSpinLockRelease None (arg.Expression 5) arg.NoArgument arg.NoArgument)
        ∷ [];
  })
      ∷ [];
  picks = [];
}

-- its findings
abbrev pub locks_findings : List Finding
locks_findings = (found 7 fault.ReturnHoldingLock (8 ∷ 9 ∷ 10 ∷ 11 ∷ 12 ∷ 7 ∷ [])) ∷ (found 10 fault.LockHeldAlready (8 ∷ 9 ∷ 10 ∷ [])) ∷ (found 12 fault.LockNotHeld (8 ∷ 9 ∷ 10 ∷ 11 ∷ 12 ∷ [])) ∷ []

-- a stop is acknowledged twice
abbrev pub stop_plan : Plan
stop_plan = record {
  cpus = 1;
  limit = 100;
  objects = 16;
  names = (codes "driver") ∷ (codes "req") ∷ (codes "D") ∷ (codes "Q") ∷ [];
  declared = (declared.Driver)
      ∷ (declared.Device (record { name = 2; working = true; scope = scope.Unscoped; level = level.Dispatch }))
      ∷ (declared.Queue (record { name = 3; device = record { 0 = 2 }; dispatch = dispatch.Sequential; serves = record { rest = true; read = false; write = false; control = false }; powered = true; zero = false; scope = scope.PerQueue; level = level.Dispatch }))
      ∷ [];
  classes = [];
  registers = [];
  whens = [];
  pnp = [];
  agents = (record { name = 2; posts = [] })
      ∷ [];
  exprs = (node.Context context.OwnRequest) ∷ (node.Number 0) ∷ (node.Context context.OwnRequest) ∷ (node.Number 0) ∷ (node.Context context.OwnRequest) ∷ (node.Number 1) ∷ [];
  scripts = (record {
    callback = callback.EvtIoStop;
    owner = declared.Queue (record { name = 3; device = record { 0 = 2 }; dispatch = dispatch.Sequential; serves = record { rest = true; read = false; write = false; control = false }; powered = true; zero = false; scope = scope.PerQueue; level = level.Dispatch });
    line = 8;
    statements = s 9 1 (act.Call call.WdfRequestStopAcknowledge None (arg.Expression 0) (arg.Expression 1) arg.NoArgument)
        ∷ s 10 2 (act.Call call.WdfRequestStopAcknowledge None (arg.Expression 2) (arg.Expression 3) arg.NoArgument)
        ∷ s 11 3 (act.Call call.WdfRequestStopAcknowledge None (arg.Expression 4) (arg.Expression 5) arg.NoArgument)
        ∷ [];
  })
      ∷ [];
  picks = [];
}

-- its findings
abbrev pub stop_findings : List Finding
stop_findings = (found 10 fault.AckOutsideStop (9 ∷ 10 ∷ [])) ∷ (found 11 fault.NotOwned (9 ∷ 10 ∷ 11 ∷ [])) ∷ []

-- a stop is acknowledged on a queue with no scope
abbrev pub unscoped_plan : Plan
unscoped_plan = record {
  cpus = 1;
  limit = 100;
  objects = 16;
  names = (codes "driver") ∷ (codes "req") ∷ (codes "D") ∷ (codes "Q") ∷ [];
  declared = (declared.Driver)
      ∷ (declared.Device (record { name = 2; working = true; scope = scope.Unscoped; level = level.Dispatch }))
      ∷ (declared.Queue (record { name = 3; device = record { 0 = 2 }; dispatch = dispatch.Sequential; serves = record { rest = true; read = false; write = false; control = false }; powered = true; zero = false; scope = scope.Unscoped; level = level.Dispatch }))
      ∷ [];
  classes = [];
  registers = [];
  whens = [];
  pnp = [];
  agents = (record { name = 2; posts = [] })
      ∷ [];
  exprs = (node.Number 0) ∷ (node.Context context.OwnRequest) ∷ (node.Variable 0) ∷ (node.Context context.OwnRequest) ∷ (node.Number 0) ∷ (node.Context context.OwnRequest) ∷ (node.Number 0) ∷ [];
  scripts = (record {
    callback = callback.EvtIoStop;
    owner = declared.Queue (record { name = 3; device = record { 0 = 2 }; dispatch = dispatch.Sequential; serves = record { rest = true; read = false; write = false; control = false }; powered = true; zero = false; scope = scope.Unscoped; level = level.Dispatch });
    line = 7;
    statements = s 8 1 (act.Let 0 0)
        ∷ s 9 2 (act.Call call.WdfRequestStopAcknowledge None (arg.Expression 1) (arg.Expression 2) arg.NoArgument)
        ∷ s 10 3 (act.Call call.WdfRequestStopAcknowledge None (arg.Expression 3) (arg.Expression 4) arg.NoArgument)
        ∷ s 11 4 (act.Call call.WdfRequestStopAcknowledge None (arg.Expression 5) (arg.Expression 6) arg.NoArgument)
        ∷ [];
  })
      ∷ [];
  picks = [];
}

-- its findings
abbrev pub unscoped_findings : List Finding
unscoped_findings = (found 9 fault.NotOwned (8 ∷ 9 ∷ [])) ∷ (found 10 fault.NotOwned (8 ∷ 9 ∷ 10 ∷ [])) ∷ (found 11 fault.NotOwned (8 ∷ 9 ∷ 10 ∷ 11 ∷ [])) ∷ []

-- a stop is acknowledged in a plan that sends
abbrev pub sends_plan : Plan
sends_plan = record {
  cpus = 1;
  limit = 100;
  objects = 16;
  names = (codes "driver") ∷ (codes "req") ∷ (codes "D") ∷ (codes "Q") ∷ (codes "T") ∷ [];
  declared = (declared.Driver)
      ∷ (declared.Device (record { name = 2; working = true; scope = scope.Unscoped; level = level.Dispatch }))
      ∷ (declared.Queue (record { name = 3; device = record { 0 = 2 }; dispatch = dispatch.Sequential; serves = record { rest = true; read = false; write = false; control = false }; powered = true; zero = false; scope = scope.PerQueue; level = level.Dispatch }))
      ∷ (declared.Target (record { name = 4; device = record { 0 = 2 }; delay = 1; status = status.Success; depth = 2 }))
      ∷ [];
  classes = [];
  registers = [];
  whens = [];
  pnp = [];
  agents = (record { name = 2; posts = [] })
      ∷ (record { name = 4; posts = [] })
      ∷ [];
  exprs = (node.Context context.OwnRequest) ∷ (node.Number 0) ∷ (node.Context context.OwnRequest) ∷ (node.Object (h 4 4)) ∷ (node.Number 0) ∷ (node.Variable 0) ∷ (node.Number 0) ∷ (node.Binary operator.Equals 5 6) ∷ (node.Context context.OwnRequest) ∷ (node.Literal status.Unsuccessful) ∷ (node.Context context.OwnRequest) ∷ (node.Context context.OwnRequest) ∷ (node.Context context.CompletionStatus) ∷ [];
  scripts = (record {
    callback = callback.EvtIoStop;
    owner = declared.Queue (record { name = 3; device = record { 0 = 2 }; dispatch = dispatch.Sequential; serves = record { rest = true; read = false; write = false; control = false }; powered = true; zero = false; scope = scope.PerQueue; level = level.Dispatch });
    line = 8;
    statements = s 9 1 (act.Call call.WdfRequestStopAcknowledge None (arg.Expression 0) (arg.Expression 1) arg.NoArgument)
        ∷ [];
  })
      ∷ (record {
        callback = callback.EvtIoRead;
        owner = declared.Queue (record { name = 3; device = record { 0 = 2 }; dispatch = dispatch.Sequential; serves = record { rest = true; read = false; write = false; control = false }; powered = true; zero = false; scope = scope.PerQueue; level = level.Dispatch });
        line = 11;
        statements = s 12 1 (act.Call call.WdfRequestSend (Some 0) (arg.Expression 2) (arg.Expression 3) (arg.Expression 4))
            ∷ s 13 2 (act.If 7 3)
            ∷ s 14 4 (act.Call call.WdfRequestComplete None (arg.Expression 8) (arg.Expression 9) arg.NoArgument)
            ∷ s 16 4 (act.Call call.WdfRequestIsCanceled None (arg.Expression 10) arg.NoArgument arg.NoArgument)
            ∷ [];
      })
      ∷ (record {
        callback = callback.EvtRequestCompletion;
        owner = declared.Target (record { name = 4; device = record { 0 = 2 }; delay = 1; status = status.Success; depth = 2 });
        line = 21;
        statements = s 22 1 (act.Call call.WdfRequestComplete None (arg.Expression 11) (arg.Expression 12) arg.NoArgument)
            ∷ [];
      })
      ∷ [];
  picks = [];
}

-- its findings
abbrev pub sends_findings : List Finding
sends_findings = (found 9 fault.NotOwned (9 ∷ [])) ∷ (found 16 fault.NotOwned (12 ∷ 13 ∷ 16 ∷ [])) ∷ []

-- locks of interrupts
abbrev pub interrupts_plan : Plan
interrupts_plan = record {
  cpus = 1;
  limit = 100;
  objects = 16;
  names = (codes "driver") ∷ (codes "req") ∷ (codes "D") ∷ (codes "I") ∷ [];
  declared = (declared.Driver)
      ∷ (declared.Device (record { name = 2; working = false; scope = scope.Unscoped; level = level.Dispatch }))
      ∷ (declared.Interrupt (record { name = 3; device = record { 0 = 2 }; level = record { 0 = 5 } }))
      ∷ [];
  classes = [];
  registers = [];
  whens = [];
  pnp = [];
  agents = (record { name = 2; posts = [] })
      ∷ [];
  exprs = (node.Context context.OwnObject) ∷ (node.Context context.OwnObject) ∷ (node.Object (h 3 3)) ∷ (node.Object (h 3 3)) ∷ (node.Context context.OwnObject) ∷ (node.Variable 0) ∷ (node.Object (h 3 3)) ∷ (node.Context context.RequestLength) ∷ (node.Object (h 3 3)) ∷ [];
  scripts = (record {
    callback = callback.EvtInterruptIsr;
    owner = declared.Interrupt (record { name = 3; device = record { 0 = 2 }; level = record { 0 = 5 } });
    line = 6;
    statements = s 7 1 (act.Call call.WdfInterruptAcquireLock None (arg.Expression 0) arg.NoArgument arg.NoArgument)
        ∷ [];
  })
      ∷ (record {
        callback = callback.EvtInterruptDpc;
        owner = declared.Interrupt (record { name = 3; device = record { 0 = 2 }; level = record { 0 = 5 } });
        line = 9;
        statements = s 10 1 (act.Call call.WdfInterruptAcquireLock None (arg.Expression 1) arg.NoArgument arg.NoArgument)
            ∷ s 11 2 (act.Call call.WdfInterruptReleaseLock None (arg.Expression 2) arg.NoArgument arg.NoArgument)
            ∷ s 12 3 (act.Call call.WdfInterruptReleaseLock None (arg.Expression 3) arg.NoArgument arg.NoArgument)
            ∷ s 13 4 (act.Let 0 4)
            ∷ s 14 5 (act.Call call.WdfInterruptAcquireLock None (arg.Expression 5) arg.NoArgument arg.NoArgument)
            ∷ [];
      })
      ∷ (record {
        callback = callback.EvtDeviceD0Entry;
        owner = declared.Device (record { name = 2; working = false; scope = scope.Unscoped; level = level.Dispatch });
        line = 17;
        statements = s 18 1 (act.Call call.WdfInterruptAcquireLock None (arg.Expression 6) arg.NoArgument arg.NoArgument)
            ∷ s 19 2 (act.If 7 3)
            ∷ s 20 3 (act.Call call.WdfInterruptReleaseLock None (arg.Expression 8) arg.NoArgument arg.NoArgument)
            ∷ [];
      })
      ∷ [];
  picks = [];
}

-- its findings
abbrev pub interrupts_findings : List Finding
interrupts_findings = (found 7 fault.LockHeldAlready (7 ∷ [])) ∷ (found 12 fault.LockNotHeld (10 ∷ 11 ∷ 12 ∷ [])) ∷ (found 14 fault.LockHeldAlready (10 ∷ 11 ∷ 12 ∷ 13 ∷ 14 ∷ [])) ∷ (found 17 fault.ReturnHoldingLock (18 ∷ 19 ∷ 17 ∷ [])) ∷ []

-- a marked request is asked, marked again and completed
abbrev pub marked_plan : Plan
marked_plan = record {
  cpus = 1;
  limit = 100;
  objects = 16;
  names = (codes "driver") ∷ (codes "req") ∷ (codes "D") ∷ (codes "Q") ∷ [];
  declared = (declared.Driver)
      ∷ (declared.Device (record { name = 2; working = true; scope = scope.Unscoped; level = level.Dispatch }))
      ∷ (declared.Queue (record { name = 3; device = record { 0 = 2 }; dispatch = dispatch.Sequential; serves = record { rest = true; read = false; write = false; control = false }; powered = true; zero = false; scope = scope.Unscoped; level = level.Dispatch }))
      ∷ [];
  classes = [];
  registers = [];
  whens = [];
  pnp = [];
  agents = (record { name = 2; posts = [] })
      ∷ [];
  exprs = (node.Context context.OwnRequest) ∷ (node.Variable 0) ∷ (node.Literal status.Success) ∷ (node.Binary operator.Equals 1 2) ∷ (node.Context context.OwnRequest) ∷ (node.Context context.OwnRequest) ∷ (node.Context context.OwnRequest) ∷ (node.Literal status.Success) ∷ (node.Context context.OwnRequest) ∷ (node.Variable 2) ∷ (node.Literal status.Success) ∷ (node.Binary operator.Equals 9 10) ∷ (node.Context context.OwnRequest) ∷ (node.Literal status.Success) ∷ [];
  scripts = (record {
    callback = callback.EvtIoRead;
    owner = declared.Queue (record { name = 3; device = record { 0 = 2 }; dispatch = dispatch.Sequential; serves = record { rest = true; read = false; write = false; control = false }; powered = true; zero = false; scope = scope.Unscoped; level = level.Dispatch });
    line = 7;
    statements = s 8 1 (act.Call call.WdfRequestMarkCancelableEx (Some 0) (arg.Expression 0) arg.NoArgument arg.NoArgument)
        ∷ s 9 2 (act.If 3 8)
        ∷ s 10 3 (act.Call call.WdfRequestIsCanceled (Some 1) (arg.Expression 4) arg.NoArgument arg.NoArgument)
        ∷ s 11 4 (act.Call call.WdfRequestMarkCancelableEx (Some 0) (arg.Expression 5) arg.NoArgument arg.NoArgument)
        ∷ s 12 5 (act.Call call.WdfRequestComplete None (arg.Expression 6) (arg.Expression 7) arg.NoArgument)
        ∷ s 13 6 (act.Call call.WdfRequestUnmarkCancelable (Some 2) (arg.Expression 8) arg.NoArgument arg.NoArgument)
        ∷ s 14 7 (act.If 11 8)
        ∷ s 15 8 (act.Call call.WdfRequestComplete None (arg.Expression 12) (arg.Expression 13) arg.NoArgument)
        ∷ [];
  })
      ∷ [];
  picks = [];
}

-- its findings
abbrev pub marked_findings : List Finding
marked_findings = (found 10 fault.NotOwned (8 ∷ 9 ∷ 10 ∷ [])) ∷ (found 11 fault.MarkedTwice (8 ∷ 9 ∷ 10 ∷ 11 ∷ [])) ∷ (found 12 fault.CompleteWhileMarked (8 ∷ 9 ∷ 10 ∷ 11 ∷ 12 ∷ [])) ∷ []

-- two paths of different lengths
abbrev pub paths_plan : Plan
paths_plan = record {
  cpus = 1;
  limit = 100;
  objects = 16;
  names = (codes "driver") ∷ (codes "req") ∷ (codes "D") ∷ (codes "Q") ∷ [];
  declared = (declared.Driver)
      ∷ (declared.Device (record { name = 2; working = true; scope = scope.Unscoped; level = level.Dispatch }))
      ∷ (declared.Queue (record { name = 3; device = record { 0 = 2 }; dispatch = dispatch.Sequential; serves = record { rest = true; read = false; write = false; control = false }; powered = true; zero = false; scope = scope.Unscoped; level = level.Dispatch }))
      ∷ [];
  classes = [];
  registers = [];
  whens = [];
  pnp = [];
  agents = (record { name = 2; posts = [] })
      ∷ [];
  exprs = (node.Context context.RequestLength) ∷ (node.Context context.RequestCode) ∷ (node.Number 1) ∷ (node.Number 1) ∷ (node.Number 1) ∷ (node.Number 0) ∷ (node.Variable 0) ∷ (node.Literal status.Success) ∷ [];
  scripts = (record {
    callback = callback.EvtIoRead;
    owner = declared.Queue (record { name = 3; device = record { 0 = 2 }; dispatch = dispatch.Sequential; serves = record { rest = true; read = false; write = false; control = false }; powered = true; zero = false; scope = scope.Unscoped; level = level.Dispatch });
    line = 7;
    statements = s 8 1 (act.If 0 3)
        ∷ s 9 2 (act.If 1 5)
        ∷ s 10 5 (act.Let 0 2)
        ∷ s 13 4 (act.Let 0 3)
        ∷ s 14 5 (act.Let 1 4)
        ∷ s 16 6 (act.Let 0 5)
        ∷ s 17 7 (act.Call call.WdfRequestComplete None (arg.Expression 6) (arg.Expression 7) arg.NoArgument)
        ∷ [];
  })
      ∷ [];
  picks = [];
}

-- its findings
abbrev pub paths_findings : List Finding
paths_findings = (found 17 fault.NotOwned (8 ∷ 9 ∷ 16 ∷ 17 ∷ [])) ∷ []
