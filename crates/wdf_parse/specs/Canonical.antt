-- The canonical text of some lines.
use Rattle.std.specs.Prelude.{ℕ, List, ◌++◌, flat_map}
use Rattle.wdf_scene.specs.Written.{WrittenLine}
use Rattle.wdf_tokens.specs.TokenTexts.{line_text}
use Rattle.wdf_scene_lines.specs.Spelling.{written_tokens}
use Rattle.wdf_parse.specs.Printing.{version_text}

-- the canonical text of a line
abbrev pub written_text : WrittenLine → List ℕ
written_text w = line_text (written_tokens w.written)

-- the canonical text of the lines of a text of this version
unfoldable pub canonical_text : ℕ → List WrittenLine → List ℕ
canonical_text version ws = version_text version ++ flat_map written_text ws
