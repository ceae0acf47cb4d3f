-- A plan that is resolved: one device with one queue, and an app with one read.
use Rattle.std.proofs.Common.{None, [], ◌∷◌, true, false, codes, refl}
use Rattle.wdf_base.specs.declared.declared.Declared.{Declared}
use Rattle.wdf_base.specs.declared.declared.Declared.TheVariants as declared
use Rattle.wdf_base.specs.declared.declared.Scope.TheVariants as scope
use Rattle.wdf_base.specs.declared.declared.ExecutionLevel.TheVariants as level
use Rattle.wdf_base.specs.declared.declared.DispatchKind.TheVariants as dispatch
use Rattle.wdf_base.specs.declared.event.Post.TheVariants as post
use Rattle.wdf_base.specs.declared.script.ExprNode.TheVariants as node
use Rattle.wdf_base.specs.declared.script.ContextWord.TheVariants as context
use Rattle.wdf_base.specs.declared.script.ArgNode.TheVariants as arg
use Rattle.wdf_base.specs.declared.script.Act.TheVariants as act
use Rattle.wdf_base.specs.declared.call.CallKind.TheVariants as call
use Rattle.wdf_base.specs.declared.call.Callback.TheVariants as callback
use Rattle.wdf_base.specs.declared.value.Status.TheVariants as status
use Rattle.wdf_base.specs.declared.plan.Plan.{Plan}
use Rattle.wdf_base.specs.Resolved.{IsResolved}

abbrev queue : Declared
queue = declared.Queue (record {
  name = 3;
  device = record { 0 = 2 };
  dispatch = dispatch.Sequential;
  serves = record { rest = true; read = false; write = false; control = false };
  powered = true;
  zero = false;
  scope = scope.Unscoped;
  level = level.Dispatch;
})

abbrev pub plain_read : Plan
plain_read = record {
  cpus = 1;
  limit = 100;
  objects = 16;
  names = codes "driver" ∷ codes "req" ∷ codes "D" ∷ codes "Q" ∷ codes "A" ∷ [];
  declared = declared.Driver ∷ declared.Device (record { name = 2; working = true; scope = scope.Unscoped; level = level.Dispatch }) ∷ queue ∷ [];
  classes = [];
  registers = [];
  whens = [];
  pnp = [];
  agents = record { name = 4; posts = record { tick = 0; post = post.Read (record { id = record { 0 = 2 }; name = 2 }) 16; line = 13 } ∷ [] } ∷ record { name = 2; posts = [] } ∷ [];
  exprs = node.Context context.OwnRequest ∷ node.Literal status.Success ∷ [];
  scripts = record {
    callback = callback.EvtIoRead;
    owner = queue;
    line = 7;
    statements = record {
      line = 8;
      next = 1;
      act = act.Call call.WdfRequestComplete None (arg.Expression 0) (arg.Expression 1) arg.NoArgument;
    } ∷ [];
  } ∷ [];
  picks = [];
}

pub plain_read_IsResolved : IsResolved plain_read
plain_read_IsResolved = record {
  cpus = refl;
  limit = refl;
  objects = refl;
  counted = refl;
  devices = refl;
  app_limit = refl;
  register_limit = refl;
  class_limit = refl;
  statement_limit = refl;
  post_limit = refl;
  pick_limit = refl;
  driver_name = refl;
  request_name = refl;
  names_plain = refl;
  names_short = refl;
  names_differ = refl;
  names_free = refl;
  names_used = refl;
  names_there = refl;
  in_order = refl;
  declared_fit = refl;
  classes_fit = refl;
  registers_fit = refl;
  whens_fit = refl;
  agents_end = refl;
  pnp_posts = refl;
  app_posts = refl;
  device_posts = refl;
  exprs_fit = refl;
  scripts_fit = refl;
  scripts_differ = refl;
  declared_complete = refl;
  classes_complete = refl;
}
