-- The numbers of the listing's line 1 are those that a commit compares with its trial's (2026-08): "with line 1's totals". Assumes nothing.
use Prim.Native.Nat.{ℕ}
use mathlib.Core.Path.{◌≡◌, refl}
use mathlib.Core.List.{List, [], ◌∷◌}
use Rattle.words.specs.declared.reply.Totals.{Totals}
use Rattle.words.specs.Reply.{delivery}
use Rattle.definition.specs.Trial.{line_one}
use Rattle.definition.specs.Promise.{saying}
use Rattle.line_writer.specs.declared.writer.Fields.{Fields}
use Rattle.listings.specs.Sections.{totals_line}

numbers_in : Fields → List ℕ
numbers_in f = f.first ∷ f.second ∷ f.third ∷ f.fourth ∷ f.fifth ∷ f.sixth ∷ f.last ∷ []

line_one_lem : (t : Totals) → numbers_in (totals_line t) ≡ line_one (saying (delivery t))
unfolding numbers_in
line_one_lem t = refl
