-- What the rest of the compiler learns of words that `shape_of` finds fine. Proved as `fine_spells`, proofs/Bundle.antt
use Rattle.std.specs.Prelude.{ℕ, ◌%◌, ◌≤◌, ◌<◌, ◌≡◌, true, List, length}
use Rattle.words.specs.Ast.{Document}
use Rattle.words.specs.Record.{most_records, most_levels, kind_at, position_at, value_at}
use Rattle.tree.specs.Check.{records_of}
use Rattle.tree.specs.Rules.{in_range}
use Rattle.tree.specs.At.{DocumentsAt, run_size, size_doc, run_depth, depth_doc}

-- the words spell the documents, node by node, and hold nothing else; no level is past the last; the length is one of row 2's; every record's position
-- and value are in range; all 41s have one number (01, 'The tree')
pub record Spelled (w : List ℕ) (ds : List Document) : Type 0 where
  pub documents : DocumentsAt ds w 0
  pub fills : run_size size_doc ds ≡ records_of w
  pub levels : run_depth depth_doc ds ≤ most_levels
  pub whole : length w % 4 ≡ 0
  pub limit : records_of w ≤ most_records
  pub ranges : (j : ℕ) → j < records_of w → in_range (kind_at w j) (position_at w j) (value_at w j) ≡ true
  pub this : (u : ℕ) × ((j : ℕ) → j < records_of w → kind_at w j ≡ 41 → value_at w j ≡ u)
