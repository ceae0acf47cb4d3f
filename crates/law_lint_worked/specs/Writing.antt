-- Short words for plans that are written out.
use Rattle.std.specs.Prelude.{ℕ}
use Rattle.wdf_base.specs.declared.ids.Handle.{Handle}
use Rattle.wdf_base.specs.declared.declared.PostLine.{PostLine}
use Rattle.wdf_base.specs.declared.event.Post.{Post}
use Rattle.wdf_base.specs.declared.script.Act.{Act}
use Rattle.wdf_base.specs.declared.script.Statement.{Statement}

-- a handle
abbrev pub h : ℕ → ℕ → Handle
h id name = record { id = record { 0 = id }; name = name }

-- a line of an agent
abbrev pub at : ℕ → ℕ → Post → PostLine
at number tick post = record { tick = tick; post = post; line = number }

-- a statement
abbrev pub s : ℕ → ℕ → Act → Statement
s line next act = record { line = line; next = next; act = act }
