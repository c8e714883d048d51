-- `write_method` meets its contract: a line, as `Section::Methods` lists each entry. Assumes nothing.
use Prim.Native.Nat.{ℕ}
use mathlib.Core.Path.{sym, ap, ◌∙◌}
use Rattle.std.specs.Prelude.{Option}
use Rattle.line_writer.specs.Placed.{placed}
use Rattle.listings.specs.Lines.{lines_at}
use Rattle.listings.specs.Sections.{entry_line, is_listed}
use Rattle.listings.specs.Selecting.{method_lines}
use Rattle.listings.proofs.sections.write_method.Goals as goal

pub returns-in-Some : goal.returns-in-Some
unfolding entry_line is_listed
returns-in-Some c =
    c.write_entry.ensures
    ∙ ap (λ (m : Option ℕ). lines_at (method_lines c.args.area.now m) (placed c.args.place c.args.out.now)) (sym c.in-Some.is)
