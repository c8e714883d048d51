-- `columns_to_records` meets its contract: zeros after what stands. Assumes nothing.
use Rattle.std.proofs.Common.{◌∙◌, sym, ap}
use Rattle.column_files.specs.Convert.{reply_of, kept_of}
use Rattle.column_files.proofs.Converting.{finished}
use Rattle.column_files.proofs.columns_to_records.Goals as goal
use Rattle.column_files.proofs.columns_to_records.Goals.{in-Ok, in-Err}

pub returns : goal.returns
returns c = elim c.match-written.branch [
  | in-Ok w ↦ finished 4 _ _ _ c.write_words-written.ensures (w.kept-is ∙ ap (kept_of 4) (sym w.in-Ok.is)) c.clear_from.ensures (c.from.ensures
      ∙ ap reply_of (w.written-is ∙ sym w.in-Ok.is))
  | in-Err w ↦ finished 4 _ _ _ c.write_words-written.ensures (w.kept-is ∙ ap (kept_of 4) (sym w.in-Err.is)) c.clear_from.ensures (c.from.ensures
      ∙ ap reply_of w.written-is)
]
