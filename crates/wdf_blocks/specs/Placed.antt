-- Where the lines of a scene are: the open block, device and callback, and what was counted before.
use Rattle.std.specs.Prelude.{Bool, ℕ, suc, ◌+◌, ◌-◌, ◌==◌, List, [], ◌∷◌, length, Some, None, cond}
use Rattle.wdf_base.specs.Same.{same_option}
use Rattle.wdf_scene.specs.declared.line.SceneLine.{SceneLine}
use Rattle.wdf_scene.specs.declared.line.SceneLine.TheVariants as line
use Rattle.wdf_scene.specs.declared.line.NumberedLine.{NumberedLine}
use Rattle.wdf_scene.specs.declared.scene.Scene.{Scene}
use Rattle.wdf_blocks.specs.declared.placed.Stand.{Stand}
use Rattle.wdf_blocks.specs.declared.placed.Counts.{Counts}
use Rattle.wdf_blocks.specs.declared.placed.Placed.{Placed}
use Rattle.wdf_blocks.specs.Forms.{is_device, is_object, is_app, is_register, is_class, is_statement, is_post, nodes_end}

-- in no block
abbrev pub outside : Stand
outside = record { block = None; device = None; callback = None; nested = 0 }

-- after an `end` in a callback
abbrev pub closed_in_callback : Stand → Stand
closed_in_callback o = cond (o.nested == 0) (record o { callback = None }) (record o { nested = o.nested - 1 })

-- after an `end` in no callback: what belongs to a device ends in the device
abbrev pub closed_block : Stand → Stand
closed_block o = cond (same_option ◌==◌ o.block o.device) outside (record o { block = o.device })

-- after an `end`
abbrev pub closed : Stand → Stand
closed o =
    elim o.callback as (λ _. Stand) [ None ↦ closed_block o | Some k ↦ closed_in_callback o ]

-- what is open after line k
unfoldable pub opened_by : Stand → ℕ → SceneLine → Stand
opened_by o k line.Driver = record o { block = Some k }
opened_by o k (line.Class n c) = record o { block = Some k }
opened_by o k (line.DeferredClass n c parent) = record o { block = Some k }
opened_by o k (line.App n) = record o { block = Some k }
opened_by o k line.Pnp = record o { block = Some k }
opened_by o k line.Order = record o { block = Some k }
opened_by o k (line.Interrupt n level) = record o { block = Some k }
opened_by o k (line.Queue n dispatch) = record o { block = Some k }
opened_by o k (line.Target n delay status depth) = record o { block = Some k }
opened_by o k (line.Device n working) = record o { block = Some k; device = Some k }
opened_by o k (line.On callback) = record o { callback = Some k; nested = 0 }
opened_by o k (line.If e) = record o { nested = o.nested + 1 }
opened_by o k (line.Repeat e) = record o { nested = o.nested + 1 }
opened_by o k line.End = closed o
opened_by o k _ = o

-- before the first line nothing was counted
abbrev pub nothing : Counts
nothing =
    record {
      nodes = 0;
      devices = 0;
      device = 0;
      objects = 0;
      apps = 0;
      registers = 0;
      classes = 0;
      statements = 0;
      posts = 0;
      picks = 0;
    }

-- one more, if it is one
abbrev pub one_more : ℕ → Bool → ℕ
one_more n more = cond more (n + 1) n

-- what is counted with one line more, which has some picks
unfoldable pub counted : Counts → SceneLine → ℕ → Counts
counted c form picks =
    record {
      nodes = nodes_end c.nodes form;
      devices = one_more c.devices (is_device form);
      device = cond (is_device form) c.objects c.device;
      objects = one_more c.objects (is_object form);
      apps = one_more c.apps (is_app form);
      registers = one_more c.registers (is_register form);
      classes = one_more c.classes (is_class form);
      statements = one_more c.statements (is_statement form);
      posts = one_more c.posts (is_post form);
      picks = c.picks + picks;
    }

-- a line that is here
abbrev pub placed_line : ℕ → Stand → Counts → NumberedLine → Placed
placed_line k o c l =
    record { at = k; number = l.number; form = l.form; picks = length l.picks; stand = o; counts = c }

-- the lines from line k on, and where they are
unfoldable pub placed_from : ℕ → Stand → Counts → List NumberedLine → List Placed
placed_from k o c [] = []
placed_from k o c (l ∷ ls) =
    placed_line k o c l ∷ placed_from (suc k) (opened_by o k l.form) (counted c l.form (length l.picks)) ls

-- the lines of a scene, and where they are
unfoldable pub placed : Scene → List Placed
placed scene = placed_from 0 outside nothing scene.lines
