-- `records_to_columns` meets its contract: zeros after what stands. Assumes nothing.
use Rattle.std.proofs.Common.{◌∙◌, sym, ap}
use Rattle.column_lines.specs.Form.{line_length}
use Rattle.column_files.specs.Convert.{reply_of, kept_of}
use Rattle.column_files.proofs.Converting.{finished}
use Rattle.column_files.proofs.records_to_columns.Goals as goal
use Rattle.column_files.proofs.records_to_columns.Goals.{in-Ok, in-Err}

pub returns : goal.returns
returns c = elim c.match-written.branch [
  | in-Ok w ↦ finished line_length _ _ _ c.write_columns-written.ensures (w.kept-is ∙ ap (kept_of line_length) (sym w.in-Ok.is)) c.clear_bytes.ensures
      (c.from.ensures ∙ ap reply_of (w.written-is ∙ sym w.in-Ok.is))
  | in-Err w ↦ finished line_length _ _ _ c.write_columns-written.ensures (w.kept-is ∙ ap (kept_of line_length) (sym w.in-Err.is)) c.clear_bytes.ensures
      (c.from.ensures ∙ ap reply_of w.written-is)
]
