use Rattle.wdf_scene_lines.proofs.FormBuilding.{read_by_unpicked, form_of_line}
use Rattle.wdf_scene_lines.proofs.statements.read_by.Goals as goal

pub returns-in_ok-read_unpicked-in_default : goal.returns-in_ok-read_unpicked-in_default
returns-in_ok-read_unpicked-in_default c = record {
  read = rw (read_by_unpicked c.args.first c.args.tokens.now c.in_default.not-Picks, c.unpicked.ensures)
      (form_of_line _ c.in_ok-read_unpicked-in_default.field-0 c.args.tokens.now c.args.builder.now c.read_unpicked.new.builder c.in_ok-read_unpicked-in_default.ensures.read);
  room = c.in_ok-read_unpicked-in_default.ensures.room;
  lines = c.in_ok-read_unpicked-in_default.ensures.lines;
}
